-- The smallest launch is a setting of each module without parameters and rows, and it is safe.
use Rattle.std.proofs.Common.{◌≡◌, ℕ, zero, suc, ◌%◌, List, [], ◌∷◌, get_or, refl, sym, subst, arith}
use Rattle.launch_file.specs.declared.launch.Schedule.TheVariants.{Rounds}
use Rattle.launch_file.specs.Launches.{LaunchOf, AreSizes, IsLaunch}
use Rattle.qpu_machine.specs.Opening.{contents_of}
use Rattle.qpu_machine.specs.Reachable.{AreBytes}
use Rattle.qpu_machine.specs.declared.plan.Fill.TheVariants.{Zero}
use Rattle.qpu_machine.proofs.RangeFill.{fill_in_range}
use Rattle.launch_meaning.specs.declared.ends.Ended.{Ended}
use Rattle.launch_meaning.specs.LaunchMeaning.{IsSafe}
use Rattle.promise.specs.Kernel.{Kernel, idle_item, idle_kernel}
use Rattle.promise.specs.Openings.{Setting, IsSetting, AreAllBytes}
use Rattle.promise.specs.WrongModules.{bare}

abbrev ones : List ℕ
ones = 1 ∷ 1 ∷ 1 ∷ []

-- one QPU and one item
abbrev pub launch : LaunchOf
launch = record { qpus = 1; global = ones; local = ones; dims = 1; buffers = []; args = []; schedule = Rounds 0 }

abbrev pub smallest : Setting
smallest = record { launch = launch; buffers = []; scratch = [] ∷ []; contents = contents_of Zero 1 }

one_at : (i : ℕ) → get_or ones i 1 ≡ 1
one_at zero = refl
one_at (suc zero) = refl
one_at (suc (suc zero)) = refl
one_at (suc (suc (suc i))) = refl

sizes : AreSizes 1 ones
sizes =
    record {
      three = refl;
      some = λ i l. (let one = one_at i in omega (arith, one));
      small = λ i l. (let one = one_at i in omega (arith, one));
      past = λ i l. one_at i;
    }

divides : (i : ℕ) → get_or ones i 1 % get_or ones i 1 ≡ 0
divides zero = refl
divides (suc zero) = refl
divides (suc (suc zero)) = refl
divides (suc (suc (suc i))) = refl

is_launch : IsLaunch launch
is_launch =
    record {
      some_qpus = omega arith;
      few_qpus = omega arith;
      some_dims = omega arith;
      few_dims = omega arith;
      global = sizes;
      local = sizes;
      items = omega arith;
      divides = divides;
      few_buffers = omega arith;
      buffers = λ i. tt;
      apart = λ i. tt;
      args = λ i. tt;
      schedule = omega arith;
    }

empty_bytes : AreBytes []
empty_bytes i = omega arith

scratch_are : AreAllBytes ([] ∷ [])
scratch_are zero = empty_bytes
scratch_are (suc i) = tt

pub smallest_is : (words : List ℕ) → IsSetting (bare words) smallest
smallest_is words =
    record {
      valid = record { is_launch = is_launch; fits = record { count = refl; args = λ i. tt; names = λ i. tt } };
      buffer_sizes = refl;
      buffer_bytes = λ i. tt;
      scratch_sizes = refl;
      scratch_bytes = scratch_are;
      contents = fill_in_range Zero 1;
    }

abbrev pub one_turn : Ended
one_turn = record { buffers = []; marks = []; turns = 1 }

pub smallest_safe : (k : Kernel) → k ≡ idle_kernel → IsSafe (k.item launch) 1 [] 1 (one_turn ∷ [])
unfolding idle_item
smallest_safe k is =
    subst (λ (j : Kernel). IsSafe (j.item launch) 1 [] 1 (one_turn ∷ [])) (sym is) (record {
      many = refl;
      run = (refl, tt);
      apart = λ clash is. (let order = is.order in let there = is.there in absurd (omega (arith, order, there)));
    })
