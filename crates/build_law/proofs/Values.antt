-- The code of operators, conversions and moved pointers gives what they give.
use Rattle.std.proofs.Common.{◌≡◌, ℕ, zero, suc, ◌+◌, ◌-◌, ◌*◌, ◌%◌, ◌^◌, ◌<◌, ◌≤◌, ◌≢◌, Bool, true, false, [], refl, sym, ap, ◌∙◌, subst, arith}
use Rattle.std.specs.Prelude.{◌==◌, nat_lt, not, if◌then◌else◌}
use Rattle.std.proofs.lemmas.Bool.Decides.{nat_tests}
use Rattle.std.proofs.Math.Nat.{add-mod-mod, mod-add-mod}
use Rattle.clc_lexer.specs.declared.marks.Mark.{Mark}
use Rattle.clc_lexer.specs.declared.marks.Mark.TheVariants as m
use Rattle.q_lane.specs.declared.kinds.Scalar.{Scalar}
use Rattle.q_lane.specs.declared.operations.BinOp.{BinOp}
use Rattle.q_lane.specs.declared.operations.BinOp.TheVariants.{Add, Sub, Mul, Div, Rem, And, Or, Xor, Shl, Min, Less, Equal}
use Rattle.q_lane.specs.declared.operations.UnOp.{UnOp}
use Rattle.q_lane.specs.declared.operations.UnOp.TheVariants.{Not, Neg, Narrow}
use Rattle.q_lane.specs.Numbers.{applied, applied_one, narrowed, is_less, flag}
use Rattle.q_functions.specs.NumberFunctions.{is_signed, bytes_of}
use Rattle.clc_types.specs.declared.typed.Ty.{Ty}
use Rattle.clc_types.specs.declared.typed.Ty.TheVariants as ty
use Rattle.item_meaning.specs.declared.values.Value.{Value}
use Rattle.item_meaning.specs.declared.values.Value.TheVariants.{Num, Null, At}
use Rattle.item_meaning.specs.ItemState.{State, Run, Goes, then_do}
use Rattle.clc_types.specs.TypeArithmetic.{operator_of, works_in}
use Rattle.item_meaning.specs.Operators.{shifted_right, binary, prefixed, on_word, on_words, truth, forward, backward, moved, combined, converted}
use Rattle.item_ir.specs.IrMeaning.{State as Item, Ends, Next, and_then, with_val, defines, run_all}
use Rattle.item_ir.specs.declared.form.Def.{Def}
use Rattle.item_ir.specs.declared.form.Def.TheVariants as df
use Rattle.ir_build.specs.Code.{v, Code, one, none, joined, truth_code, not_code, zero_test, right_shift, way_of, way_code, prefix_code, moved_code, move_of, combined_code, converted_code}
use Rattle.build_law.specs.Keeps.{Ground, Same, Related, Kept, Follows}
use Rattle.build_law.proofs.Steps.{with_at-same, with_at-other, bind, weaker, with_val-related, same_along, Kept-refl, Kept-trans, Kept-val}

-- ---- words

not_is : (c : Bool) → flag (not c) ≡ applied Xor (flag c) 1
unfolding applied
not_is true = refl
not_is false = refl

shift_is : (s : Bool) (a b : ℕ) → shifted_right s a b ≡ applied (right_shift s) a b
shift_is true a b = refl
shift_is false a b = refl

below_one : (n : ℕ) → nat_lt (suc n) 1 ≡ false
below_one n = grind (arith, nat_tests)

pub not_zero : (n : ℕ) → (suc n == 0) ≡ false
not_zero n = grind (arith, nat_tests)

pub truth_is : (a : ℕ) → flag (not (a == 0)) ≡ applied (Min false) a 1
unfolding applied is_less
truth_is zero = refl
truth_is (suc n) = ap (λ c. flag (not c)) (not_zero n) ∙ sym (ap (λ c. if c then suc n else 1) (below_one n))

zero_is : (a : ℕ) → flag (a == 0) ≡ applied Equal a 0
unfolding applied
zero_is a = refl

-- ---- addresses

address_up : (b o n M c : ℕ) → ((b + o) % M + c * n % M) % M ≡ (b + (o + c * n) % M) % M
address_up b o n M c =
    add-mod-mod ((b + o) % M) (c * n) M
    ∙ mod-add-mod (b + o) M (c * n)
    ∙ (let e : b + o + c * n ≡ b + (o + c * n) = omega arith in ap (λ x. x % M) e)
    ∙ sym (add-mod-mod b (o + c * n) M)

address_down : (b o n M c : ℕ) → ((b + o) % M + (M - c * n % M)) % M ≡ (b + (o + (M - c * n % M)) % M) % M
address_down b o n M c =
    mod-add-mod (b + o) M (M - c * n % M)
    ∙ (let e : b + o + (M - c * n % M) ≡ b + (o + (M - c * n % M)) = omega arith in ap (λ x. x % M) e)
    ∙ sym (add-mod-mod b (o + (M - c * n % M)) M)

-- what holds after the code of a value, where the numbers from k on were free
pub record Valued (g : Ground) (k : ℕ) (c : Code) (old : Item) (x : Value) (s : State) (n : Item) : Type 0 where
  pub same : Same g.base x (n.vals c.val)
  pub kept : Kept g k old n
  pub own : c.val < c.next
  pub up : k ≤ c.next

module _ (g : Ground) where
  -- code that gives a value
  abbrev pub IsBuilt : ℕ → Run Value → Code → ℕ → Item → Type 0
  IsBuilt d r c k n = Follows g d (λ _. Next) r (Valued g k c n) (run_all g.world c.stmts n)

  pub one_built : (d k : ℕ) (def : Def) (x : Value) (y : ℕ) (s : State) (n : Item) → Related g d s n → defines g.world k def n ≡ Ends Next (with_val k y n) → Same g.base x y → IsBuilt d (Goes x s) (one k def) k n
  one_built d k def x y s n h e q = (
    with_val k y n,
    ap (λ r. and_then r (run_all g.world [])) e,
    with_val-related g d k y s n h,
    record {
      same = same_along g x _ y (with_at-same n.vals k y) q;
      kept = Kept-val g k k y n (omega arith);
      own = omega arith;
      up = omega arith;
    },
  )

  pub none_built : (d k i : ℕ) (x : Value) (s : State) (n : Item) → Related g d s n → Same g.base x (n.vals i) → i < k → IsBuilt d (Goes x s) (none i k) k n
  none_built d k i x s n h q lt = (n, refl, h, record { same = q; kept = Kept-refl g k n; own = lt; up = omega arith })

  pub join_built : (d e : ℕ) (r : Run Value) (go : Value → State → Run Value) (a b : Code) (k : ℕ) (n : Item) → IsBuilt d r a k n
      → ((x : Value) (t : State) (o : Item) → Related g d t o → Valued g k a n x t o → IsBuilt e (go x t) b a.next o) → IsBuilt e (then_do r go) (joined a b) k n
  join_built d e r go a b k n f h =
      bind g d e (λ _. Next) r go a.stmts b.stmts n (Valued g k a n) (Valued g k (joined a b) n) f
      (λ x t o i w. weaker g e e (λ _. Next) (go x t) (run_all g.world b.stmts o) (Valued g a.next b o) (Valued g k (joined a b) n) (omega arith) (λ y u p q. record {
        same = q.same;
        kept = Kept-trans g k a.next n o p w.up w.kept q.kept;
        own = q.own;
        up = let i = w.up in let j = q.up in omega (arith, i, j);
      }) (h x t o i w))

  -- a value that was there before
  pub still : (k i : ℕ) (x : Value) (a b : Item) → Kept g k a b → i < k → Same g.base x (a.vals i) → Same g.base x (b.vals i)
  still k i x a b e lt q = same_along g x _ _ (e.vals i lt) q

  -- ---- numbers

  pub const_built : (d k c : ℕ) (s : State) (n : Item) → Related g d s n → IsBuilt d (Goes (Num c) s) (one k (df.Const c)) k n
  const_built d k c s n h = one_built d k (df.Const c) (Num c) c s n h refl refl

  -- an operation on two words
  bin_built : (d : ℕ) (op : BinOp) (i j k a b z : ℕ) (s : State) (n : Item) → Related g d s n → n.vals i ≡ a → n.vals j ≡ b → z ≡ applied op a b → IsBuilt d (Goes (Num z) s) (one k (df.Bin op (v i) (v j))) k n
  bin_built d op i j k a b z s n h p q e =
      one_built d k (df.Bin op (v i) (v j)) (Num z) (applied op (n.vals i) (n.vals j)) s n h refl (ap (λ x. applied op x (n.vals j)) p ∙ ap (applied op a) q ∙ sym e)

  -- one whose result nothing is said of
  any_built : (d : ℕ) (op : BinOp) (i j k : ℕ) (s : State) (n : Item) → Related g d s n → IsBuilt d (Goes Null s) (one k (df.Bin op (v i) (v j))) k n
  any_built d op i j k s n h = one_built d k (df.Bin op (v i) (v j)) Null (applied op (n.vals i) (n.vals j)) s n h refl tt

  -- after one definition
  pub join_one : (d k y : ℕ) (def : Def) (r : Run Value) (b : Code) (n : Item) → defines g.world k def n ≡ Ends Next (with_val k y n) → IsBuilt d r b (suc k) (with_val k y n)
      → IsBuilt d r (joined (one k def) b) k n
  join_one d k y def r b n e f =
      subst (λ z. Follows g d (λ _. Next) r (Valued g k (joined (one k def) b) n) z) (sym (ap (λ z. and_then z (run_all g.world b.stmts)) e))
      (weaker g d d (λ _. Next) r (run_all g.world b.stmts (with_val k y n)) (Valued g (suc k) b (with_val k y n)) (Valued g k (joined (one k def) b) n) (omega arith)
      (λ x s o q. record {
        same = q.same;
        kept = Kept-trans g k (suc k) n (with_val k y n) o (omega arith) (Kept-val g k k y n (omega arith)) q.kept;
        own = q.own;
        up = let j = q.up in omega (arith, j);
      }) f)

  before : (k i y : ℕ) (n : Item) → i < k → (with_val k y n).vals i ≡ n.vals i
  before k i y n lt = let ne : i ≢ k = omega (arith, lt) in with_at-other n.vals k y i ne

  -- a constant, and an operation with it
  with_const : (d : ℕ) (op : BinOp) (i k a c z : ℕ) (s : State) (n : Item) → Related g d s n → n.vals i ≡ a → i < k → z ≡ applied op a c
      → IsBuilt d (Goes (Num z) s) (joined (one k (df.Const c)) (one (suc k) (df.Bin op (v i) (v k)))) k n
  with_const d op i k a c z s n h p lt e =
      join_one d k c (df.Const c) (Goes (Num z) s) (one (suc k) (df.Bin op (v i) (v k))) n refl
      (bin_built d op i k (suc k) a c z s (with_val k c n) (with_val-related g d k c s n h) (before k i c n lt ∙ p) (with_at-same n.vals k c) e)

  any_const : (d : ℕ) (op : BinOp) (i k c : ℕ) (s : State) (n : Item) → Related g d s n
      → IsBuilt d (Goes Null s) (joined (one k (df.Const c)) (one (suc k) (df.Bin op (v i) (v k)))) k n
  any_const d op i k c s n h =
      join_one d k c (df.Const c) (Goes Null s) (one (suc k) (df.Bin op (v i) (v k))) n refl (any_built d op i k (suc k) s (with_val k c n) (with_val-related g d k c s n h))

  pub truth_built : (d i k : ℕ) (x : Value) (s : State) (n : Item) → Related g d s n → Same g.base x (n.vals i) → i < k → IsBuilt d (Goes (truth x) s) (truth_code i k) k n
  truth_built d i k (Num a) s n h p lt = with_const d (Min false) i k a 1 _ s n h p lt (truth_is a)
  truth_built d i k Null s n h p lt = any_const d (Min false) i k 1 s n h
  truth_built d i k (At c o) s n h p lt = any_const d (Min false) i k 1 s n h

  zero_built : (d i k : ℕ) (x : Value) (s : State) (n : Item) → Related g d s n → Same g.base x (n.vals i) → i < k → IsBuilt d (Goes (on_word (prefixed m.Bang) x) s) (zero_test i k) k n
  zero_built d i k (Num a) s n h p lt = with_const d Equal i k a 0 _ s n h p lt (zero_is a)
  zero_built d i k Null s n h p lt = any_const d Equal i k 0 s n h
  zero_built d i k (At c o) s n h p lt = any_const d Equal i k 0 s n h

  word_built : (d : ℕ) (op : UnOp) (f : ℕ → ℕ) (i k : ℕ) (x : Value) (s : State) (n : Item) → Related g d s n → Same g.base x (n.vals i) → ((a : ℕ) → f a ≡ applied_one op a)
      → IsBuilt d (Goes (on_word f x) s) (one k (df.One op (v i))) k n
  word_built d op f i k (Num a) s n h p e = one_built d k (df.One op (v i)) (Num (f a)) (applied_one op (n.vals i)) s n h refl (ap (applied_one op) p ∙ sym (e a))
  word_built d op f i k Null s n h p e = one_built d k (df.One op (v i)) Null (applied_one op (n.vals i)) s n h refl tt
  word_built d op f i k (At c o) s n h p e = one_built d k (df.One op (v i)) Null (applied_one op (n.vals i)) s n h refl tt

  same_built : (d i k : ℕ) (x : Value) (s : State) (n : Item) → Related g d s n → Same g.base x (n.vals i) → i < k → IsBuilt d (Goes (on_word (λ a. a) x) s) (none i k) k n
  same_built d i k (Num a) s n h p lt = none_built d k i (Num a) s n h p lt
  same_built d i k Null s n h p lt = none_built d k i Null s n h tt lt
  same_built d i k (At c o) s n h p lt = none_built d k i Null s n h tt lt

  pub prefix_built : (d : ℕ) (o : Mark) (i k : ℕ) (x : Value) (s : State) (n : Item) → Related g d s n → Same g.base x (n.vals i) → i < k → IsBuilt d (Goes (on_word (prefixed o) x) s) (prefix_code o i k) k n
  prefix_built d m.ShiftLeftAssign i k x s n h e lt = same_built d i k x s n h e lt
  prefix_built d m.ShiftRightAssign i k x s n h e lt = same_built d i k x s n h e lt
  prefix_built d m.PlusPlus i k x s n h e lt = same_built d i k x s n h e lt
  prefix_built d m.MinusMinus i k x s n h e lt = same_built d i k x s n h e lt
  prefix_built d m.AndAnd i k x s n h e lt = same_built d i k x s n h e lt
  prefix_built d m.OrOr i k x s n h e lt = same_built d i k x s n h e lt
  prefix_built d m.PlusAssign i k x s n h e lt = same_built d i k x s n h e lt
  prefix_built d m.MinusAssign i k x s n h e lt = same_built d i k x s n h e lt
  prefix_built d m.StarAssign i k x s n h e lt = same_built d i k x s n h e lt
  prefix_built d m.SlashAssign i k x s n h e lt = same_built d i k x s n h e lt
  prefix_built d m.PercentAssign i k x s n h e lt = same_built d i k x s n h e lt
  prefix_built d m.AndAssign i k x s n h e lt = same_built d i k x s n h e lt
  prefix_built d m.OrAssign i k x s n h e lt = same_built d i k x s n h e lt
  prefix_built d m.XorAssign i k x s n h e lt = same_built d i k x s n h e lt
  prefix_built d m.LeftParen i k x s n h e lt = same_built d i k x s n h e lt
  prefix_built d m.RightParen i k x s n h e lt = same_built d i k x s n h e lt
  prefix_built d m.LeftBrace i k x s n h e lt = same_built d i k x s n h e lt
  prefix_built d m.RightBrace i k x s n h e lt = same_built d i k x s n h e lt
  prefix_built d m.LeftBracket i k x s n h e lt = same_built d i k x s n h e lt
  prefix_built d m.RightBracket i k x s n h e lt = same_built d i k x s n h e lt
  prefix_built d m.Semicolon i k x s n h e lt = same_built d i k x s n h e lt
  prefix_built d m.Comma i k x s n h e lt = same_built d i k x s n h e lt
  prefix_built d m.Question i k x s n h e lt = same_built d i k x s n h e lt
  prefix_built d m.Colon i k x s n h e lt = same_built d i k x s n h e lt
  prefix_built d m.Tilde i k x s n h e lt = word_built d Not (prefixed m.Tilde) i k x s n h e (λ a. refl)
  prefix_built d m.Bang i k x s n h e lt = zero_built d i k x s n h e lt
  prefix_built d m.Assign i k x s n h e lt = same_built d i k x s n h e lt
  prefix_built d m.Plus i k x s n h e lt = same_built d i k x s n h e lt
  prefix_built d m.Minus i k x s n h e lt = word_built d Neg (prefixed m.Minus) i k x s n h e (λ a. refl)
  prefix_built d m.Star i k x s n h e lt = same_built d i k x s n h e lt
  prefix_built d m.Slash i k x s n h e lt = same_built d i k x s n h e lt
  prefix_built d m.Percent i k x s n h e lt = same_built d i k x s n h e lt
  prefix_built d m.Ampersand i k x s n h e lt = same_built d i k x s n h e lt
  prefix_built d m.Bar i k x s n h e lt = same_built d i k x s n h e lt
  prefix_built d m.Caret i k x s n h e lt = same_built d i k x s n h e lt
  prefix_built d m.ShiftLeft i k x s n h e lt = same_built d i k x s n h e lt
  prefix_built d m.Less i k x s n h e lt = same_built d i k x s n h e lt
  prefix_built d m.Greater i k x s n h e lt = same_built d i k x s n h e lt
  prefix_built d m.EqualEqual i k x s n h e lt = same_built d i k x s n h e lt
  prefix_built d m.ShiftRight i k x s n h e lt = same_built d i k x s n h e lt
  prefix_built d m.LessEqual i k x s n h e lt = same_built d i k x s n h e lt
  prefix_built d m.GreaterEqual i k x s n h e lt = same_built d i k x s n h e lt
  prefix_built d m.BangEqual i k x s n h e lt = same_built d i k x s n h e lt

  -- ---- operators on two words

  direct_built : (d : ℕ) (op : BinOp) (f : ℕ → ℕ → ℕ) → ((a b : ℕ) → f a b ≡ applied op a b) → (i j k : ℕ) (x y : Value) (s : State) (n : Item) → Related g d s n → Same g.base x (n.vals i) → Same g.base y (n.vals j)
      → IsBuilt d (Goes (on_words f x y) s) (one k (df.Bin op (v i) (v j))) k n
  direct_built d op f e i j k (Num a) (Num b) s n h p q = bin_built d op i j k a b (f a b) s n h p q (e a b)
  direct_built d op f e i j k (Num a) Null s n h p q = any_built d op i j k s n h
  direct_built d op f e i j k (Num a) (At c l) s n h p q = any_built d op i j k s n h
  direct_built d op f e i j k Null y s n h p q = any_built d op i j k s n h
  direct_built d op f e i j k (At c l) y s n h p q = any_built d op i j k s n h

  swapped_built : (d : ℕ) (op : BinOp) (f : ℕ → ℕ → ℕ) → ((a b : ℕ) → f a b ≡ applied op b a) → (i j k : ℕ) (x y : Value) (s : State) (n : Item) → Related g d s n → Same g.base x (n.vals i) → Same g.base y (n.vals j)
      → IsBuilt d (Goes (on_words f x y) s) (one k (df.Bin op (v j) (v i))) k n
  swapped_built d op f e i j k (Num a) (Num b) s n h p q = bin_built d op j i k b a (f a b) s n h q p (e a b)
  swapped_built d op f e i j k (Num a) Null s n h p q = any_built d op j i k s n h
  swapped_built d op f e i j k (Num a) (At c l) s n h p q = any_built d op j i k s n h
  swapped_built d op f e i j k Null y s n h p q = any_built d op j i k s n h
  swapped_built d op f e i j k (At c l) y s n h p q = any_built d op j i k s n h

  -- the other truth of what an operation gives
  other_built : (d : ℕ) (op : BinOp) (i j k a b z : ℕ) (s : State) (n : Item) → Related g d s n → n.vals i ≡ a → n.vals j ≡ b → z ≡ applied Xor (applied op a b) 1
      → IsBuilt d (Goes (Num z) s) (joined (one k (df.Bin op (v i) (v j))) (not_code k (suc k))) k n
  other_built d op i j k a b z s n h p q e =
      join_one d k (applied op (n.vals i) (n.vals j)) (df.Bin op (v i) (v j)) (Goes (Num z) s) (not_code k (suc k)) n refl
      (with_const d Xor k (suc k) (applied op a b) 1 z s (with_val k (applied op (n.vals i) (n.vals j)) n) (with_val-related g d k _ s n h)
      (with_at-same n.vals k _ ∙ ap (λ x. applied op x (n.vals j)) p ∙ ap (applied op a) q) (omega arith) e)

  any_other : (d : ℕ) (op : BinOp) (i j k : ℕ) (s : State) (n : Item) → Related g d s n → IsBuilt d (Goes Null s) (joined (one k (df.Bin op (v i) (v j))) (not_code k (suc k))) k n
  any_other d op i j k s n h =
      join_one d k (applied op (n.vals i) (n.vals j)) (df.Bin op (v i) (v j)) (Goes Null s) (not_code k (suc k)) n refl
      (any_const d Xor k (suc k) 1 s (with_val k (applied op (n.vals i) (n.vals j)) n) (with_val-related g d k _ s n h))

  not_built : (d : ℕ) (op : BinOp) (f : ℕ → ℕ → ℕ) → ((a b : ℕ) → f a b ≡ applied Xor (applied op a b) 1) → (i j k : ℕ) (x y : Value) (s : State) (n : Item) → Related g d s n → Same g.base x (n.vals i) → Same g.base y (n.vals j)
      → IsBuilt d (Goes (on_words f x y) s) (joined (one k (df.Bin op (v i) (v j))) (not_code k (suc k))) k n
  not_built d op f e i j k (Num a) (Num b) s n h p q = other_built d op i j k a b (f a b) s n h p q (e a b)
  not_built d op f e i j k (Num a) Null s n h p q = any_other d op i j k s n h
  not_built d op f e i j k (Num a) (At c l) s n h p q = any_other d op i j k s n h
  not_built d op f e i j k Null y s n h p q = any_other d op i j k s n h
  not_built d op f e i j k (At c l) y s n h p q = any_other d op i j k s n h

  not_swapped_built : (d : ℕ) (op : BinOp) (f : ℕ → ℕ → ℕ) → ((a b : ℕ) → f a b ≡ applied Xor (applied op b a) 1) → (i j k : ℕ) (x y : Value) (s : State) (n : Item) → Related g d s n → Same g.base x (n.vals i) → Same g.base y (n.vals j)
      → IsBuilt d (Goes (on_words f x y) s) (joined (one k (df.Bin op (v j) (v i))) (not_code k (suc k))) k n
  not_swapped_built d op f e i j k (Num a) (Num b) s n h p q = other_built d op j i k b a (f a b) s n h q p (e a b)
  not_swapped_built d op f e i j k (Num a) Null s n h p q = any_other d op j i k s n h
  not_swapped_built d op f e i j k (Num a) (At c l) s n h p q = any_other d op j i k s n h
  not_swapped_built d op f e i j k Null y s n h p q = any_other d op j i k s n h
  not_swapped_built d op f e i j k (At c l) y s n h p q = any_other d op j i k s n h

  -- what no operator is
  nought_built : (d : ℕ) (i j k : ℕ) (x y : Value) (s : State) (n : Item) → Related g d s n → IsBuilt d (Goes (on_words (λ a b. 0) x y) s) (one k (df.Const 0)) k n
  nought_built d i j k (Num a) (Num b) s n h = one_built d k (df.Const 0) (Num 0) 0 s n h refl refl
  nought_built d i j k (Num a) Null s n h = one_built d k (df.Const 0) Null 0 s n h refl tt
  nought_built d i j k (Num a) (At c l) s n h = one_built d k (df.Const 0) Null 0 s n h refl tt
  nought_built d i j k Null y s n h = one_built d k (df.Const 0) Null 0 s n h refl tt
  nought_built d i j k (At c l) y s n h = one_built d k (df.Const 0) Null 0 s n h refl tt

  words_built : (d : ℕ) (t : Scalar) (o : Mark) (i j k : ℕ) (x y : Value) (s : State) (n : Item) → Related g d s n → Same g.base x (n.vals i) → Same g.base y (n.vals j)
      → IsBuilt d (Goes (on_words (binary t o) x y) s) (way_code (way_of t o) i j k) k n
  unfolding applied
  words_built d t m.Plus i j k x y s n h p q = direct_built d Add (binary t m.Plus) (λ a b. refl) i j k x y s n h p q
  words_built d t m.Minus i j k x y s n h p q = direct_built d Sub (binary t m.Minus) (λ a b. refl) i j k x y s n h p q
  words_built d t m.Star i j k x y s n h p q = direct_built d Mul (binary t m.Star) (λ a b. refl) i j k x y s n h p q
  words_built d t m.Slash i j k x y s n h p q = direct_built d (Div (is_signed t)) (binary t m.Slash) (λ a b. refl) i j k x y s n h p q
  words_built d t m.Percent i j k x y s n h p q = direct_built d (Rem (is_signed t)) (binary t m.Percent) (λ a b. refl) i j k x y s n h p q
  words_built d t m.Ampersand i j k x y s n h p q = direct_built d And (binary t m.Ampersand) (λ a b. refl) i j k x y s n h p q
  words_built d t m.Bar i j k x y s n h p q = direct_built d Or (binary t m.Bar) (λ a b. refl) i j k x y s n h p q
  words_built d t m.Caret i j k x y s n h p q = direct_built d Xor (binary t m.Caret) (λ a b. refl) i j k x y s n h p q
  words_built d t m.ShiftLeft i j k x y s n h p q = direct_built d Shl (binary t m.ShiftLeft) (λ a b. refl) i j k x y s n h p q
  words_built d t m.Less i j k x y s n h p q = direct_built d (Less (is_signed t)) (binary t m.Less) (λ a b. refl) i j k x y s n h p q
  words_built d t m.Greater i j k x y s n h p q = swapped_built d (Less (is_signed t)) (binary t m.Greater) (λ a b. refl) i j k x y s n h p q
  words_built d t m.EqualEqual i j k x y s n h p q = direct_built d Equal (binary t m.EqualEqual) (λ a b. refl) i j k x y s n h p q
  words_built d t m.ShiftRight i j k x y s n h p q = direct_built d (right_shift (is_signed t)) (binary t m.ShiftRight) (shift_is (is_signed t)) i j k x y s n h p q
  words_built d t m.LessEqual i j k x y s n h p q = not_swapped_built d (Less (is_signed t)) (binary t m.LessEqual) (λ a b. not_is (is_less (is_signed t) b a)) i j k x y s n h p q
  words_built d t m.GreaterEqual i j k x y s n h p q = not_built d (Less (is_signed t)) (binary t m.GreaterEqual) (λ a b. not_is (is_less (is_signed t) a b)) i j k x y s n h p q
  words_built d t m.BangEqual i j k x y s n h p q = not_built d Equal (binary t m.BangEqual) (λ a b. not_is (a == b)) i j k x y s n h p q
  words_built d t m.ShiftLeftAssign i j k x y s n h p q = nought_built d i j k x y s n h
  words_built d t m.ShiftRightAssign i j k x y s n h p q = nought_built d i j k x y s n h
  words_built d t m.PlusPlus i j k x y s n h p q = nought_built d i j k x y s n h
  words_built d t m.MinusMinus i j k x y s n h p q = nought_built d i j k x y s n h
  words_built d t m.AndAnd i j k x y s n h p q = nought_built d i j k x y s n h
  words_built d t m.OrOr i j k x y s n h p q = nought_built d i j k x y s n h
  words_built d t m.PlusAssign i j k x y s n h p q = nought_built d i j k x y s n h
  words_built d t m.MinusAssign i j k x y s n h p q = nought_built d i j k x y s n h
  words_built d t m.StarAssign i j k x y s n h p q = nought_built d i j k x y s n h
  words_built d t m.SlashAssign i j k x y s n h p q = nought_built d i j k x y s n h
  words_built d t m.PercentAssign i j k x y s n h p q = nought_built d i j k x y s n h
  words_built d t m.AndAssign i j k x y s n h p q = nought_built d i j k x y s n h
  words_built d t m.OrAssign i j k x y s n h p q = nought_built d i j k x y s n h
  words_built d t m.XorAssign i j k x y s n h p q = nought_built d i j k x y s n h
  words_built d t m.LeftParen i j k x y s n h p q = nought_built d i j k x y s n h
  words_built d t m.RightParen i j k x y s n h p q = nought_built d i j k x y s n h
  words_built d t m.LeftBrace i j k x y s n h p q = nought_built d i j k x y s n h
  words_built d t m.RightBrace i j k x y s n h p q = nought_built d i j k x y s n h
  words_built d t m.LeftBracket i j k x y s n h p q = nought_built d i j k x y s n h
  words_built d t m.RightBracket i j k x y s n h p q = nought_built d i j k x y s n h
  words_built d t m.Semicolon i j k x y s n h p q = nought_built d i j k x y s n h
  words_built d t m.Comma i j k x y s n h p q = nought_built d i j k x y s n h
  words_built d t m.Question i j k x y s n h p q = nought_built d i j k x y s n h
  words_built d t m.Colon i j k x y s n h p q = nought_built d i j k x y s n h
  words_built d t m.Tilde i j k x y s n h p q = nought_built d i j k x y s n h
  words_built d t m.Bang i j k x y s n h p q = nought_built d i j k x y s n h
  words_built d t m.Assign i j k x y s n h p q = nought_built d i j k x y s n h

  -- ---- pointers

  move_one : (d : ℕ) (op : BinOp) (size i j k z : ℕ) (x : Value) (s : State) (n : Item) → Related g d s n → i < k → j < k → z ≡ applied op (n.vals i) (applied Mul size (n.vals j)) → Same g.base x z
      → IsBuilt d (Goes x s) (moved_code op size i j k) k n
  move_one d op size i j k z x s n h li lj e q =
      let n1 : Item = with_val k size n in
      let y : ℕ = applied Mul (n1.vals k) (n1.vals j) in
      let n2 : Item = with_val (suc k) y n1 in
      let h1 = with_val-related g d k size s n h in
      let i-is : n2.vals i ≡ n.vals i = before (suc k) i y n1 (omega (arith, li)) ∙ before k i size n li in
      let y-is : y ≡ applied Mul size (n.vals j) = ap (λ a. applied Mul a (n1.vals j)) (with_at-same n.vals k size) ∙ ap (applied Mul size) (before k j size n lj) in
      join_one d k size (df.Const size) (Goes x s) (joined (one (suc k) (df.Bin Mul (v k) (v j))) (one (suc (suc k)) (df.Bin op (v i) (v (suc k))))) n refl
      (join_one d (suc k) y (df.Bin Mul (v k) (v j)) (Goes x s) (one (suc (suc k)) (df.Bin op (v i) (v (suc k)))) n1 refl
      (one_built d (suc (suc k)) (df.Bin op (v i) (v (suc k))) x (applied op (n2.vals i) (n2.vals (suc k))) s n2 (with_val-related g d (suc k) y s n1 h1) refl
      (same_along g x _ z (ap (λ a. applied op a (n2.vals (suc k))) i-is ∙ ap (applied op (n.vals i)) (with_at-same n1.vals (suc k) y ∙ y-is) ∙ sym e) q)))

  sum_up : (a b n o c : ℕ) (x y : ℕ) → x ≡ (b + o) % 2 ^ 32 → y ≡ n → applied Add x (applied Mul c y) ≡ (b + (o + c * n) % 2 ^ 32) % 2 ^ 32
  unfolding applied
  sum_up a b n o c x y p q = ap (λ i. (i + c * y % 2 ^ 32) % 2 ^ 32) p ∙ ap (λ i. ((b + o) % 2 ^ 32 + c * i % 2 ^ 32) % 2 ^ 32) q ∙ address_up b o n (2 ^ 32) c

  sum_down : (a b n o c : ℕ) (x y : ℕ) → x ≡ (b + o) % 2 ^ 32 → y ≡ n → applied Sub x (applied Mul c y) ≡ (b + (o + (2 ^ 32 - c * n % 2 ^ 32)) % 2 ^ 32) % 2 ^ 32
  unfolding applied
  sum_down a b n o c x y p q = ap (λ i. (i + (2 ^ 32 - c * y % 2 ^ 32)) % 2 ^ 32) p ∙ ap (λ i. ((b + o) % 2 ^ 32 + (2 ^ 32 - c * i % 2 ^ 32)) % 2 ^ 32) q ∙ address_down b o n (2 ^ 32) c

  pub forward_built : (d size i j k : ℕ) (p x : Value) (s : State) (n : Item) → Related g d s n → Same g.base p (n.vals i) → Same g.base x (n.vals j) → i < k → j < k
      → IsBuilt d (Goes (forward size p x) s) (moved_code Add size i j k) k n
  forward_built d size i j k (Num a) x s n h p q li lj = move_one d Add size i j k _ Null s n h li lj refl tt
  forward_built d size i j k Null x s n h p q li lj = move_one d Add size i j k _ Null s n h li lj refl tt
  forward_built d size i j k (At b o) (Num a) s n h p q li lj = move_one d Add size i j k _ (At b ((o + size * a) % 2 ^ 32)) s n h li lj refl (sum_up 0 (g.base b) a o size _ _ p q)
  forward_built d size i j k (At b o) Null s n h p q li lj = move_one d Add size i j k _ Null s n h li lj refl tt
  forward_built d size i j k (At b o) (At c l) s n h p q li lj = move_one d Add size i j k _ Null s n h li lj refl tt

  backward_built : (d size i j k : ℕ) (p x : Value) (s : State) (n : Item) → Related g d s n → Same g.base p (n.vals i) → Same g.base x (n.vals j) → i < k → j < k
      → IsBuilt d (Goes (backward size p x) s) (moved_code Sub size i j k) k n
  backward_built d size i j k (Num a) x s n h p q li lj = move_one d Sub size i j k _ Null s n h li lj refl tt
  backward_built d size i j k Null x s n h p q li lj = move_one d Sub size i j k _ Null s n h li lj refl tt
  backward_built d size i j k (At b o) (Num a) s n h p q li lj = move_one d Sub size i j k _ (At b ((o + (2 ^ 32 - size * a % 2 ^ 32)) % 2 ^ 32)) s n h li lj refl (sum_down 0 (g.base b) a o size _ _ p q)
  backward_built d size i j k (At b o) Null s n h p q li lj = move_one d Sub size i j k _ Null s n h li lj refl tt
  backward_built d size i j k (At b o) (At c l) s n h p q li lj = move_one d Sub size i j k _ Null s n h li lj refl tt

  move_built : (o : Mark) (d size i j k : ℕ) (p x : Value) (s : State) (n : Item) → Related g d s n → Same g.base p (n.vals i) → Same g.base x (n.vals j) → i < k → j < k
      → IsBuilt d (Goes (moved o size p x) s) (moved_code (move_of o) size i j k) k n
  move_built m.Minus d size x y k p i s n h e f lx ly = backward_built d size x y k p i s n h e f lx ly
  move_built m.ShiftLeftAssign d size x y k p i s n h e f lx ly = forward_built d size x y k p i s n h e f lx ly
  move_built m.ShiftRightAssign d size x y k p i s n h e f lx ly = forward_built d size x y k p i s n h e f lx ly
  move_built m.PlusPlus d size x y k p i s n h e f lx ly = forward_built d size x y k p i s n h e f lx ly
  move_built m.MinusMinus d size x y k p i s n h e f lx ly = forward_built d size x y k p i s n h e f lx ly
  move_built m.AndAnd d size x y k p i s n h e f lx ly = forward_built d size x y k p i s n h e f lx ly
  move_built m.OrOr d size x y k p i s n h e f lx ly = forward_built d size x y k p i s n h e f lx ly
  move_built m.PlusAssign d size x y k p i s n h e f lx ly = forward_built d size x y k p i s n h e f lx ly
  move_built m.MinusAssign d size x y k p i s n h e f lx ly = forward_built d size x y k p i s n h e f lx ly
  move_built m.StarAssign d size x y k p i s n h e f lx ly = forward_built d size x y k p i s n h e f lx ly
  move_built m.SlashAssign d size x y k p i s n h e f lx ly = forward_built d size x y k p i s n h e f lx ly
  move_built m.PercentAssign d size x y k p i s n h e f lx ly = forward_built d size x y k p i s n h e f lx ly
  move_built m.AndAssign d size x y k p i s n h e f lx ly = forward_built d size x y k p i s n h e f lx ly
  move_built m.OrAssign d size x y k p i s n h e f lx ly = forward_built d size x y k p i s n h e f lx ly
  move_built m.XorAssign d size x y k p i s n h e f lx ly = forward_built d size x y k p i s n h e f lx ly
  move_built m.LeftParen d size x y k p i s n h e f lx ly = forward_built d size x y k p i s n h e f lx ly
  move_built m.RightParen d size x y k p i s n h e f lx ly = forward_built d size x y k p i s n h e f lx ly
  move_built m.LeftBrace d size x y k p i s n h e f lx ly = forward_built d size x y k p i s n h e f lx ly
  move_built m.RightBrace d size x y k p i s n h e f lx ly = forward_built d size x y k p i s n h e f lx ly
  move_built m.LeftBracket d size x y k p i s n h e f lx ly = forward_built d size x y k p i s n h e f lx ly
  move_built m.RightBracket d size x y k p i s n h e f lx ly = forward_built d size x y k p i s n h e f lx ly
  move_built m.Semicolon d size x y k p i s n h e f lx ly = forward_built d size x y k p i s n h e f lx ly
  move_built m.Comma d size x y k p i s n h e f lx ly = forward_built d size x y k p i s n h e f lx ly
  move_built m.Question d size x y k p i s n h e f lx ly = forward_built d size x y k p i s n h e f lx ly
  move_built m.Colon d size x y k p i s n h e f lx ly = forward_built d size x y k p i s n h e f lx ly
  move_built m.Tilde d size x y k p i s n h e f lx ly = forward_built d size x y k p i s n h e f lx ly
  move_built m.Bang d size x y k p i s n h e f lx ly = forward_built d size x y k p i s n h e f lx ly
  move_built m.Assign d size x y k p i s n h e f lx ly = forward_built d size x y k p i s n h e f lx ly
  move_built m.Plus d size x y k p i s n h e f lx ly = forward_built d size x y k p i s n h e f lx ly
  move_built m.Star d size x y k p i s n h e f lx ly = forward_built d size x y k p i s n h e f lx ly
  move_built m.Slash d size x y k p i s n h e f lx ly = forward_built d size x y k p i s n h e f lx ly
  move_built m.Percent d size x y k p i s n h e f lx ly = forward_built d size x y k p i s n h e f lx ly
  move_built m.Ampersand d size x y k p i s n h e f lx ly = forward_built d size x y k p i s n h e f lx ly
  move_built m.Bar d size x y k p i s n h e f lx ly = forward_built d size x y k p i s n h e f lx ly
  move_built m.Caret d size x y k p i s n h e f lx ly = forward_built d size x y k p i s n h e f lx ly
  move_built m.ShiftLeft d size x y k p i s n h e f lx ly = forward_built d size x y k p i s n h e f lx ly
  move_built m.Less d size x y k p i s n h e f lx ly = forward_built d size x y k p i s n h e f lx ly
  move_built m.Greater d size x y k p i s n h e f lx ly = forward_built d size x y k p i s n h e f lx ly
  move_built m.EqualEqual d size x y k p i s n h e f lx ly = forward_built d size x y k p i s n h e f lx ly
  move_built m.ShiftRight d size x y k p i s n h e f lx ly = forward_built d size x y k p i s n h e f lx ly
  move_built m.LessEqual d size x y k p i s n h e f lx ly = forward_built d size x y k p i s n h e f lx ly
  move_built m.GreaterEqual d size x y k p i s n h e f lx ly = forward_built d size x y k p i s n h e f lx ly
  move_built m.BangEqual d size x y k p i s n h e f lx ly = forward_built d size x y k p i s n h e f lx ly

  -- ---- operators and conversions

  pub combined_built : (d : ℕ) (a : Ty) (o : Mark) (b : Ty) (i j k : ℕ) (x y : Value) (s : State) (n : Item) → Related g d s n → Same g.base x (n.vals i) → Same g.base y (n.vals j) → i < k → j < k
      → IsBuilt d (Goes (combined a o b x y) s) (combined_code a o b i j k) k n
  combined_built d (ty.Value a) o (ty.Value b) i j k x y s n h p q li lj = words_built d (works_in (operator_of o) a b) o i j k x y s n h p q
  combined_built d (ty.Pointer a c) o (ty.Value b) i j k x y s n h p q li lj = move_built o d (bytes_of a) i j k x y s n h p q li lj
  combined_built d (ty.Value a) o (ty.Pointer b c) i j k x y s n h p q li lj = move_built o d (bytes_of b) j i k y x s n h q p lj li
  combined_built d (ty.Pointer a c) o (ty.Pointer b e) i j k x y s n h p q li lj = none_built d k i Null s n h tt li
  combined_built d (ty.Pointer a c) o ty.Void i j k x y s n h p q li lj = none_built d k i Null s n h tt li
  combined_built d (ty.Value a) o ty.Void i j k x y s n h p q li lj = none_built d k i Null s n h tt li
  combined_built d ty.Void o b i j k x y s n h p q li lj = none_built d k i Null s n h tt li

  narrow_is : (t : Scalar) (a : ℕ) → narrowed t a ≡ applied_one (Narrow t) a
  unfolding applied_one
  narrow_is t a = refl

  pub converted_built : (d : ℕ) (t : Ty) (i k : ℕ) (x : Value) (s : State) (n : Item) → Related g d s n → Same g.base x (n.vals i) → i < k → IsBuilt d (Goes (converted t x) s) (converted_code t i k) k n
  converted_built d (ty.Value t) i k x s n h p lt = word_built d (Narrow t) (narrowed t) i k x s n h p (narrow_is t)
  converted_built d (ty.Pointer e c) i k (At b o) s n h p lt = none_built d k i (At b o) s n h p lt
  converted_built d (ty.Pointer e c) i k Null s n h p lt = none_built d k i Null s n h tt lt
  converted_built d (ty.Pointer e c) i k (Num a) s n h p lt = none_built d k i Null s n h tt lt
  converted_built d ty.Void i k x s n h p lt = none_built d k i Null s n h tt lt
