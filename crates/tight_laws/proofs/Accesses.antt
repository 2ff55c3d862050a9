-- Peripheral accesses, branches and program ends.
use Rattle.std.proofs.Common.{◌≡◌, ℕ, List, [], ◌∷◌, Bool, true, false, refl, ap, ◌∙◌, sym, arith}
use Rattle.std.proofs.lemmas.Bool.Decides.{nat_tests}
use Rattle.std.specs.Prelude.{◌||◌, ◌&&◌, not, nat_le, ◌==◌, Option, Some, None, is_some}
use Rattle.qpu_encode.specs.declared.form.Cond.{Cond}
use Rattle.qpu_encode.specs.declared.form.Cond.TheVariants.{Never, Always, Zs, Zc, Ns, Nc}
use Rattle.qpu_encode.specs.declared.form.Head.TheVariants.{Plain, End, Small}
use Rattle.qpu_encode.specs.declared.form.Form.{Form}
use Rattle.qpu_encode.specs.declared.form.Form.TheVariants.{Alu, Ldi, Bra}
use Rattle.vpm_words.specs.declared.state.Access.{Access}
use Rattle.qpu_rules.specs.Uses as uses
use Rattle.qpu_rules.specs.Uses.{accesses, count_of, listed, access_of_read, access_of_write, read_access, write_access}
use Rattle.qpu_rules.specs.Restrictions.{is_nothing}
use Rattle.tight_words.specs.Registers.{has_access, is_port_read, is_port_write, is_branch, is_end}
use Rattle.tight_laws.specs.Agreement.{AccessesAgree, KindsAgree}
use Rattle.tight_laws.proofs.Written.{or_both}

pub kinds_agree : KindsAgree
kinds_agree (Alu Plain unpack add mul flags swap ra rb) = (refl, refl)
kinds_agree (Alu End unpack add mul flags swap ra rb) = (refl, refl)
kinds_agree (Alu Small unpack add mul flags swap ra rb) = (refl, refl)
kinds_agree (Ldi add_cond mul_cond swap add_dst mul_dst value) = (refl, refl)
kinds_agree (Bra c words) = (refl, refl)

-- a list has something where one of its parts is there
some_listed : (a b c d : Option Access) → not (is_nothing (count_of (listed a (listed b (listed c (listed d [])))))) ≡ ((is_some a || is_some b) || (is_some c || is_some d))
some_listed None None None None = refl
some_listed None None None (Some d) = refl
some_listed None None (Some c) None = refl
some_listed None None (Some c) (Some d) = refl
some_listed None (Some b) None None = refl
some_listed None (Some b) None (Some d) = refl
some_listed None (Some b) (Some c) None = refl
some_listed None (Some b) (Some c) (Some d) = refl
some_listed (Some a) None None None = refl
some_listed (Some a) None None (Some d) = refl
some_listed (Some a) None (Some c) None = refl
some_listed (Some a) None (Some c) (Some d) = refl
some_listed (Some a) (Some b) None None = refl
some_listed (Some a) (Some b) None (Some d) = refl
some_listed (Some a) (Some b) (Some c) None = refl
some_listed (Some a) (Some b) (Some c) (Some d) = refl

reads_port : (b : Bool) (x : ℕ) → is_port_read x ≡ is_some (access_of_read b x)
unfolding access_of_read
reads_port false x = grind (arith, nat_tests)
reads_port true x = grind (arith, nat_tests)

writes_port : (b : Bool) (dst : ℕ) → (nat_le 48 dst && nat_le dst 51) ≡ is_some (access_of_write b dst)
unfolding access_of_write
writes_port false dst = grind (arith, nat_tests)
writes_port true dst = grind (arith, nat_tests)

writes_access : (b : Bool) (c : Cond) (dst : ℕ) → is_port_write (record { through_b = b; dst = dst; cond = c }) ≡ is_some (write_access (record { cond = c; through_b = b; dst = dst }))
writes_access b Never dst = refl
writes_access b Always dst = writes_port b dst
writes_access b Zs dst = writes_port b dst
writes_access b Zc dst = writes_port b dst
writes_access b Ns dst = writes_port b dst
writes_access b Nc dst = writes_port b dst

all_four : (a b c d : Option Access) (e f g h : Bool) → e ≡ is_some a → f ≡ is_some b → g ≡ is_some c → h ≡ is_some d
    → ((e || f) || (g || h)) ≡ not (is_nothing (count_of (listed a (listed b (listed c (listed d []))))))
all_four a b c d e f g h i j k l = or_both _ _ _ _ (or_both _ _ _ _ i j) (or_both _ _ _ _ k l) ∙ sym (some_listed a b c d)

pub accesses_agree : AccessesAgree
unfolding has_access accesses
accesses_agree (Alu Plain unpack add mul flags swap ra rb) =
    all_four _ _ _ _ _ _ _ _ (reads_port false ra) (reads_port true rb) (writes_access swap add.cond add.dst) (writes_access (not swap) mul.cond mul.dst)
accesses_agree (Alu End unpack add mul flags swap ra rb) =
    all_four _ _ _ _ _ _ _ _ (reads_port false ra) (reads_port true rb) (writes_access swap add.cond add.dst) (writes_access (not swap) mul.cond mul.dst)
accesses_agree (Alu Small unpack add mul flags swap ra rb) =
    all_four _ None _ _ _ false _ _ (reads_port false ra) refl (writes_access swap add.cond add.dst) (writes_access (not swap) mul.cond mul.dst)
accesses_agree (Ldi add_cond mul_cond swap add_dst mul_dst value) =
    all_four None None _ _ false false _ _ refl refl (writes_access swap add_cond add_dst) (writes_access (not swap) mul_cond mul_dst)
accesses_agree (Bra c words) = refl
