-- The items of a batch have the batch's world.
use Rattle.std.proofs.Common.{◌≡◌, ℕ, zero, suc, ◌≤◌, Bool, true, false, List, [], ◌∷◌, refl, sym, arith}
use Rattle.std.specs.Prelude.{get_or, nat_lt, if◌then◌else◌}
use Rattle.std.proofs.lemmas.Bool.{lt-ltb, le-ltb}
use Rattle.launch_file.specs.Launches.{LaunchOf, IsLaunch}
use Rattle.lane_ir.specs.LaneMeaning.{World}
use Rattle.mask_law.specs.Worlds.{SameWorld}
use Rattle.prolog_law.specs.Laws.{IsBatchOf}
use Rattle.batch_law.specs.Law.{item_world}

three : (a b c : ℕ) (d : ℕ) → 3 ≤ d → get_or (a ∷ b ∷ c ∷ []) d 0 ≡ 0
three a b c zero h = absurd (omega (arith, h))
three a b c (suc zero) h = absurd (omega (arith, h))
three a b c (suc (suc zero)) h = absurd (omega (arith, h))
three a b c (suc (suc (suc d))) h = refl

-- a size, of three at most
size_is : (g : ℕ → ℕ) (l : List ℕ) (dims d : ℕ) → dims ≤ 3 → ((j : ℕ) → g j ≡ get_or l j 1) → ((j : ℕ) → dims ≤ j → get_or l j 1 ≡ 1) → get_or l d 1 ≡ (if nat_lt d 3 then g d else 1)
size_is g l dims d few is past = by (nat_lt d 3) refl
  where
    by : (b : Bool) → nat_lt d 3 ≡ b → get_or l d 1 ≡ (if b then g d else 1)
    by true q = sym (is d)
    by false q = past d (let lo = Rattle.std.proofs.lemmas.Bool.ltb-false d 3 q in omega (arith, few, lo))

pub worlds : (launch : LaunchOf) (w : World) → IsLaunch launch → IsBatchOf launch w → w.dims ≡ launch.dims → (l : ℕ) → SameWorld w (item_world launch w l)
worlds launch w valid batch dims l =
    record {
      regions = refl;
      params = λ p. refl;
      lens = λ r. refl;
      dims = sym dims;
      global = λ d. size_is w.global launch.global launch.dims d valid.few_dims batch.global valid.global.past;
      local = λ d. size_is w.local launch.local launch.dims d valid.few_dims batch.local valid.local.past;
      past = λ d h. three _ _ _ d h;
    }
