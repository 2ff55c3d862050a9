-- What a walk of several parts meets, by what its parts meet.
use Rattle.std.proofs.Common.{◌≡◌, ℕ, suc, ◌+◌, ◌<◌, ◌≤◌, Bool, true, false, List, [], ◌∷◌, length, drop, get_or, drop-cons, Some, None, Result, Ok, Err, Vec, refl, sym, ap, ◌∙◌, subst, arith}
use Rattle.std.proofs.lemmas.Bool.{false≢true}
use Rattle.std.proofs.lemmas.List.{at_drop_all}
use Rattle.std.specs.Prelude.{map}
use Rattle.std.specs.Result.{IsErrAnd}
use Rattle.clc_lexer.specs.declared.token.Token.{Token}
use Rattle.clc_lexer.specs.declared.marks.Mark.{Mark}
use Rattle.clc_tree.specs.declared.expressions.Assign.{Assign}
use Rattle.clc_tree.specs.declared.expressions.Chain.{Chain}
use Rattle.clc_tree.specs.declared.expressions.ChainStep.{ChainStep, out-ChainStep}
use Rattle.clc_tree.specs.declared.expressions.Choice.{Choice, out-Choice}
use Rattle.clc_tree.specs.declared.expressions.CommaStep.{CommaStep, out-CommaStep}
use Rattle.clc_tree.specs.declared.expressions.Cond.{Cond, out-Cond}
use Rattle.clc_tree.specs.declared.expressions.Expr.{Expr, out-Expr}
use Rattle.clc_tree.specs.declared.expressions.Post.{Post, out-Post}
use Rattle.clc_tree.specs.declared.expressions.PostStep.{PostStep}
use Rattle.clc_tree.specs.declared.expressions.Primary.{Primary}
use Rattle.clc_tree.specs.declared.expressions.Unary.{Unary}
use Rattle.clc_tree.specs.declared.expressions.Assign.TheOpen as o
use Rattle.clc_tree.specs.declared.expressions.Assign.TheVariants as assign
use Rattle.clc_tree.specs.declared.expressions.Chain.TheVariants as chain
use Rattle.clc_tree.specs.declared.expressions.PostStep.TheVariants as post
use Rattle.clc_tree.specs.declared.expressions.Primary.TheVariants as primary
use Rattle.clc_tree.specs.declared.expressions.Assign.TheFolds.{fold-roll-Assign, fold-roll-Chain, fold-roll-PostStep, fold-roll-Primary, fold_out-ChainStep, fold_out-Choice, fold_out-CommaStep, fold_out-Cond, fold_out-Expr, fold_out-Post}
use Rattle.clc_types.specs.declared.forms.Fault.{Fault}
use Rattle.clc_types.specs.declared.forms.Argument.{Argument}
use Rattle.clc_types.specs.declared.forms.Form.{Form}
use Rattle.clc_types.specs.declared.forms.Sofar.{Sofar}
use Rattle.clc_types.specs.declared.typed.TypeFault.{TypeFault}
use Rattle.clc_types.specs.declared.typed.TypeFault.TheVariants.{Rule, Memory}
use Rattle.clc_types.specs.Words.{mark_of}
use Rattle.clc_types.specs.InternalScope.{Known}
use Rattle.clc_types.specs.InternalAnswers.{Walks, first, items_in}
use Rattle.clc_types.specs.InternalWalk.{bump, operator_end, walk_series, chain_start, chain_end, conditional_end, assign_end, paren_end, index_end, comma, walk_operator, walk_operators, walk_rest, walk_argument, walk_arguments, walk_further, walk_suffix, walk_suffixes, Walked, Right, Wrong, Walk, WalkSuffix, WalkOperand, WalkChoices, WalkSeries, At, after, guarded, walk_conditional, assign_walk, cast_walk, chain_walk, post_step_walk, primary_walk, unary_walk, chain_step_walk, choice_walk, comma_step_walk, cond_walk, expr_walk, post_walk, walk_assign, walk_chain, walk_chain_step, walk_choice, walk_comma_step, walk_cond, walk_expr, walk_post, walk_post_step, walk_primary, walk_unary, series_of}
use Rattle.clc_walk.proofs.Steps.{guarded_stops}

-- where no memory is left nothing is said
pub forgotten : {A : Type 0} (w : Walked A) (n : ℕ) → Walks w (Err Memory) n
forgotten (Right a q) n = tt
forgotten (Wrong f) n = tt

-- what ends a part ends the whole
pub ends : {A B : Type 0} (w : Walked A) (go : A → ℕ → Walked B) (e : TypeFault) (n m : ℕ) → Walks w (Err e) n → Walks (after w go) (Err e) m
ends (Right a q) go Memory n m h = forgotten (go a q) m
ends (Right a q) go (Rule r t) n m h = absurd h
ends (Wrong f) go Memory n m h = tt
ends (Wrong f) go (Rule r t) n m h = h

-- after a part that goes right the walk goes on
pub goes : {A B : Type 0} (w : Walked A) (go : A → ℕ → Walked B) (a : A) (n : ℕ) → Walks w (Ok a) n → after w go ≡ go a n
goes (Right b q) go a n h = ap (λ z. go z q) h.0 ∙ ap (go a) h.1
goes (Wrong f) go a n h = absurd h

pub passes : {A B : Type 0} (w : Walked A) (go : A → ℕ → Walked B) (a : A) (n : ℕ) (r : Result B TypeFault) (m : ℕ) → Walks w (Ok a) n → Walks (go a n) r m → Walks (after w go) r m
passes w go a n r m h g = subst (λ z. Walks z r m) (sym (goes w go a n h)) g

-- an error that is handed on
pub handed : {A : Type 0} (w : Walked A) (r : Result A TypeFault) (e : TypeFault) (n : ℕ) → IsErrAnd r (λ y. y ≡ e) → Walks w (Err e) n → Walks w r n
handed w (Ok a) e n x h = absurd x
handed w (Err y) e n x h = subst (λ z. Walks w (Err z) n) (sym x) h

pub handed_items : {A S : Type 0} (w : Walked (List A)) (r : Result (Vec A S) TypeFault) (e : TypeFault) (n : ℕ) → IsErrAnd r (λ y. y ≡ e) → Walks w (Err e) n → Walks w (items_in r) n
handed_items w (Ok a) e n x h = absurd x
handed_items w (Err y) e n x h = subst (λ z. Walks w (Err z) n) (sym x) h

-- a violated rule
pub refused : {A : Type 0} (fs : List Fault) (go : Walked A) (f : Fault) (e : TypeFault) (n : ℕ) → first fs ≡ Some f → e ≡ Rule f.rule f.token → Walks (guarded fs go) (Err e) n
refused fs go f e n a b =
    subst (λ y. Walks (guarded fs go) (Err y) n) (sym b)
    (subst (λ w. Walks w (Err (Rule f.rule f.token)) n) (sym (guarded_stops fs f go a)) refl)

-- ---- lists

pub item_at : {A : Type 0} (l : List A) (i : ℕ) (x : A) → x ≡ get_or l i x → i < length l → drop i l ≡ x ∷ drop (i + 1) l
item_at l i x e h = drop-cons l i x h ∙ (let n : suc i ≡ i + 1 = omega arith in ap (λ j. get_or l i x ∷ drop j l) n) ∙ ap (λ y. y ∷ drop (i + 1) l) (sym e)

pub operators_fail : (p q n : ℕ) (a : Sofar) (s : WalkOperand) (more : List WalkOperand) (f : TypeFault) (whole : Walked Sofar)
    → walk_operators p a q (s ∷ more) ≡ whole → Walks (walk_operator p a q s) (Err f) n → Walks whole (Err f) n
operators_fail p q n a s more f whole e h = subst (λ w. Walks w (Err f) n) e (ends (walk_operator p a q s) (λ b r. walk_operators p b r more) f n n h)

pub operators_go : (p q n : ℕ) (a b : Sofar) (s : WalkOperand) (more : List WalkOperand) (whole : Walked Sofar)
    → walk_operators p a q (s ∷ more) ≡ whole → Walks (walk_operator p a q s) (Ok b) n → walk_operators p b n more ≡ whole
operators_go p q n a b s more whole e h = sym (goes (walk_operator p a q s) (λ b r. walk_operators p b r more) b n h) ∙ e

pub suffixes_fail : (p q n : ℕ) (x : Form) (s : WalkSuffix) (more : List WalkSuffix) (f : TypeFault) (whole : Walked Form)
    → walk_suffixes p x q (s ∷ more) ≡ whole → Walks (walk_suffix p x q s) (Err f) n → Walks whole (Err f) n
suffixes_fail p q n x s more f whole e h = subst (λ w. Walks w (Err f) n) e (ends (walk_suffix p x q s) (λ y r. walk_suffixes p y r more) f n n h)

pub suffixes_go : (p q n : ℕ) (x y : Form) (s : WalkSuffix) (more : List WalkSuffix) (whole : Walked Form)
    → walk_suffixes p x q (s ∷ more) ≡ whole → Walks (walk_suffix p x q s) (Ok y) n → walk_suffixes p y n more ≡ whole
suffixes_go p q n x y s more whole e h = sym (goes (walk_suffix p x q s) (λ z r. walk_suffixes p z r more) y n h) ∙ e

pub arguments_fail : (q n : ℕ) (xs : List Argument) (w : Walk Form) (more : List (Walk Form)) (f : TypeFault) (whole : Walked (List Argument))
    → walk_further xs q (w ∷ more) ≡ whole → Walks (walk_argument xs (bump q 1) w) (Err f) n → Walks whole (Err f) n
arguments_fail q n xs w more f whole e h = subst (λ z. Walks z (Err f) n) e (ends (walk_argument xs (bump q 1) w) (λ ys r. walk_further ys r more) f n n h)

pub arguments_go : (q n : ℕ) (xs ys : List Argument) (w : Walk Form) (more : List (Walk Form)) (whole : Walked (List Argument))
    → walk_further xs q (w ∷ more) ≡ whole → Walks (walk_argument xs (bump q 1) w) (Ok ys) n → walk_further ys n more ≡ whole
arguments_go q n xs ys w more whole e h = sym (goes (walk_argument xs (bump q 1) w) (λ zs r. walk_further zs r more) ys n h) ∙ e

pub suffixes_done : {S : Type 0} (f : S → WalkSuffix) (p q : ℕ) (x : Form) (l : List S) (i : ℕ) (whole : Walked Form) → length l ≤ i → walk_suffixes p x q (map f (drop i l)) ≡ whole → Walks whole (Ok x) q
suffixes_done f p q x l i whole h e = subst (λ w. Walks w (Ok x) q) (sym (at_drop_all (λ z. walk_suffixes p x q (map f z)) l i h) ∙ e) (refl, refl)

pub arguments_done : {S : Type 0} (f : S → Walk Form) (q : ℕ) (xs : List Argument) (l : List S) (i : ℕ) (whole : Walked (List Argument)) → length l ≤ i → walk_further xs q (map f (drop i l)) ≡ whole → Walks whole (Ok xs) q
arguments_done f q xs l i whole h e = subst (λ w. Walks w (Ok xs) q) (sym (at_drop_all (λ z. walk_further xs q (map f z)) l i h) ∙ e) (refl, refl)

-- ---- what the walk over a node is
module _ (k : Known) where
  pub set_walk : (w : Unary) (t : Token) (v : Assign) → walk_assign k (assign.Set w t v) ≡ assign_walk k (o.Set (walk_unary k w) t (walk_assign k v))
  set_walk w t v = ap (walk_assign k) (sym (assign.rolls-Set w t v)) ∙ fold-roll-Assign (Walk Form) (Walk Form) (Walk Form) WalkSuffix (Walk Form) (Walk Form) WalkOperand WalkChoices (Walk Form) (Walk Form) WalkSeries (Walk Form) (assign_walk k) (cast_walk k) (chain_walk k) (post_step_walk k) (primary_walk k) (unary_walk k) (chain_step_walk k) (choice_walk k) (comma_step_walk k) (cond_walk k) (expr_walk k) (post_walk k) (o.Set w t v)

  pub level_walk : (w : Chain) (more : List ChainStep) → walk_chain k (chain.Level w more) ≡ chain_walk k (o.Level (walk_chain k w) (map (walk_chain_step k) more))
  level_walk w more = ap (walk_chain k) (sym (chain.rolls-Level w more)) ∙ fold-roll-Chain (Walk Form) (Walk Form) (Walk Form) WalkSuffix (Walk Form) (Walk Form) WalkOperand WalkChoices (Walk Form) (Walk Form) WalkSeries (Walk Form) (assign_walk k) (cast_walk k) (chain_walk k) (post_step_walk k) (primary_walk k) (unary_walk k) (chain_step_walk k) (choice_walk k) (comma_step_walk k) (cond_walk k) (expr_walk k) (post_walk k) (o.Level w more)

  pub index_walk : (l : Token) (e : Expr) (r : Token) → walk_post_step k (post.Index l e r) ≡ At (walk_expr k e)
  index_walk l e r = ap (walk_post_step k) (sym (post.rolls-Index l e r)) ∙ fold-roll-PostStep (Walk Form) (Walk Form) (Walk Form) WalkSuffix (Walk Form) (Walk Form) WalkOperand WalkChoices (Walk Form) (Walk Form) WalkSeries (Walk Form) (assign_walk k) (cast_walk k) (chain_walk k) (post_step_walk k) (primary_walk k) (unary_walk k) (chain_step_walk k) (choice_walk k) (comma_step_walk k) (cond_walk k) (expr_walk k) (post_walk k) (o.Index l e r)

  pub paren_walk : (l : Token) (e : Expr) (r : Token) → walk_primary k (primary.Paren l e r) ≡ primary_walk k (o.Paren l (series_of k e) r)
  paren_walk l e r = ap (walk_primary k) (sym (primary.rolls-Paren l e r)) ∙ fold-roll-Primary (Walk Form) (Walk Form) (Walk Form) WalkSuffix (Walk Form) (Walk Form) WalkOperand WalkChoices (Walk Form) (Walk Form) WalkSeries (Walk Form) (assign_walk k) (cast_walk k) (chain_walk k) (post_step_walk k) (primary_walk k) (unary_walk k) (chain_step_walk k) (choice_walk k) (comma_step_walk k) (cond_walk k) (expr_walk k) (post_walk k) (o.Paren l e r)

  pub operand_walk : (e : ChainStep) → walk_chain_step k e ≡ record { mark = mark_of (out-ChainStep e).operator; value = walk_chain k (out-ChainStep e).operand }
  operand_walk e = fold_out-ChainStep (Walk Form) (Walk Form) (Walk Form) WalkSuffix (Walk Form) (Walk Form) WalkOperand WalkChoices (Walk Form) (Walk Form) WalkSeries (Walk Form) (assign_walk k) (cast_walk k) (chain_walk k) (post_step_walk k) (primary_walk k) (unary_walk k) (chain_step_walk k) (choice_walk k) (comma_step_walk k) (cond_walk k) (expr_walk k) (post_walk k) e

  pub further_walk : (e : CommaStep) → walk_comma_step k e ≡ walk_assign k (out-CommaStep e).value
  further_walk e = fold_out-CommaStep (Walk Form) (Walk Form) (Walk Form) WalkSuffix (Walk Form) (Walk Form) WalkOperand WalkChoices (Walk Form) (Walk Form) WalkSeries (Walk Form) (assign_walk k) (cast_walk k) (chain_walk k) (post_step_walk k) (primary_walk k) (unary_walk k) (chain_step_walk k) (choice_walk k) (comma_step_walk k) (cond_walk k) (expr_walk k) (post_walk k) e

  pub series_walk : (e : Expr) → series_of k e ≡ record { first = walk_assign k (out-Expr e).first; rest = map (walk_comma_step k) (out-Expr e).rest }
  series_walk e = fold_out-Expr (Walk Form) (Walk Form) (Walk Form) WalkSuffix (Walk Form) (Walk Form) WalkOperand WalkChoices (Walk Form) (Walk Form) WalkSeries (Walk Form) (assign_walk k) (cast_walk k) (chain_walk k) (post_step_walk k) (primary_walk k) (unary_walk k) (chain_step_walk k) (choice_walk k) (comma_step_walk k) (cond_walk k) (expr_walk k) (post_walk k) e

  pub choices_walk : (e : Choice) → walk_choice k e ≡ record { yes = walk_expr k (out-Choice e).yes; no = walk_cond k (out-Choice e).no }
  choices_walk e = fold_out-Choice (Walk Form) (Walk Form) (Walk Form) WalkSuffix (Walk Form) (Walk Form) WalkOperand WalkChoices (Walk Form) (Walk Form) WalkSeries (Walk Form) (assign_walk k) (cast_walk k) (chain_walk k) (post_step_walk k) (primary_walk k) (unary_walk k) (chain_step_walk k) (choice_walk k) (comma_step_walk k) (cond_walk k) (expr_walk k) (post_walk k) e

  pub suffixed_walk : (e : Post) → walk_post k e ≡ post_walk k (record { primary = walk_primary k (out-Post e).primary; rest = map (walk_post_step k) (out-Post e).rest })
  suffixed_walk e = fold_out-Post (Walk Form) (Walk Form) (Walk Form) WalkSuffix (Walk Form) (Walk Form) WalkOperand WalkChoices (Walk Form) (Walk Form) WalkSeries (Walk Form) (assign_walk k) (cast_walk k) (chain_walk k) (post_step_walk k) (primary_walk k) (unary_walk k) (chain_step_walk k) (choice_walk k) (comma_step_walk k) (cond_walk k) (expr_walk k) (post_walk k) e

  pub lone_walk : (e : Cond) → (out-Cond e).choice ≡ None → walk_cond k e ≡ walk_chain k (out-Cond e).test
  lone_walk e is =
      let h = fold_out-Cond (Walk Form) (Walk Form) (Walk Form) WalkSuffix (Walk Form) (Walk Form) WalkOperand WalkChoices (Walk Form) (Walk Form) WalkSeries (Walk Form) (assign_walk k) (cast_walk k) (chain_walk k) (post_step_walk k) (primary_walk k) (unary_walk k) (chain_step_walk k) (choice_walk k) (comma_step_walk k) (cond_walk k) (expr_walk k) (post_walk k) e in
      rw is at h

  pub conditional_walk : (e : Cond) (x : Choice) → (out-Cond e).choice ≡ Some x → walk_cond k e ≡ walk_conditional (walk_chain k (out-Cond e).test) (Some (walk_choice k x))
  conditional_walk e x is =
      let h = fold_out-Cond (Walk Form) (Walk Form) (Walk Form) WalkSuffix (Walk Form) (Walk Form) WalkOperand WalkChoices (Walk Form) (Walk Form) WalkSeries (Walk Form) (assign_walk k) (cast_walk k) (chain_walk k) (post_step_walk k) (primary_walk k) (unary_walk k) (chain_step_walk k) (choice_walk k) (comma_step_walk k) (cond_walk k) (expr_walk k) (post_walk k) e in
      rw is at h

  -- ---- what it meets

  pub set_fails : (e : Assign) (u : Unary) (t : Token) (v v' : Assign) (p q r n : ℕ) (x : Form) (f : TypeFault) → e ≡ assign.Set u t v
      → Walks (walk_unary k u p) (Ok x) q → r ≡ bump q 1 → v' ≡ v → Walks (walk_assign k v' r) (Err f) n → Walks (walk_assign k e p) (Err f) n
  set_fails e u t v v' p q r n x f is h skip get i =
      let j = subst (λ z. Walks (walk_assign k v z) (Err f) n) skip (subst (λ z. Walks (walk_assign k z r) (Err f) n) get i) in
      subst (λ w. Walks (w p) (Err f) n) (sym (ap (walk_assign k) is ∙ set_walk u t v))
      (passes (walk_unary k u p) (λ y s. after (walk_assign k v (bump s 1)) (λ z r. assign_end (mark_of t) p y (bump s 1) z r)) x q (Err f) n h
      (ends (walk_assign k v (bump q 1)) (λ z r. assign_end (mark_of t) p x (bump q 1) z r) f n n j))

  pub level_fails : (e first g : Chain) (rest s : List ChainStep) (p q n : ℕ) (x : Form) (a : Sofar) (f : TypeFault) → e ≡ chain.Level first rest → g ≡ first → s ≡ rest
      → Walks (walk_chain k g p) (Ok x) q → a ≡ chain_start x → Walks (walk_operators p a q (map (walk_chain_step k) s)) (Err f) n → Walks (walk_chain k e p) (Err f) n
  level_fails e first g rest s p q n x a f is get slice h start i =
      let j = subst (λ z. Walks (walk_operators p z q (map (walk_chain_step k) rest)) (Err f) n) start (subst (λ z. Walks (walk_operators p a q (map (walk_chain_step k) z)) (Err f) n) slice i) in
      subst (λ w. Walks (w p) (Err f) n) (sym (ap (walk_chain k) is ∙ level_walk first rest))
      (passes (walk_chain k first p) (λ y r. after (walk_operators p (chain_start y) r (map (walk_chain_step k) rest)) chain_end) x q (Err f) n (subst (λ z. Walks (walk_chain k z p) (Ok x) q) get h)
      (ends (walk_operators p (chain_start x) q (map (walk_chain_step k) rest)) chain_end f n n j))

  pub cond_stops : (e : Cond) (c g : Choice) (p q r n : ℕ) (x : Form) (f : TypeFault) → (out-Cond e).choice ≡ Some c → Walks (walk_chain k (out-Cond e).test p) (Ok x) q
      → g ≡ c → r ≡ bump q 1 → Walks (walk_expr k (out-Choice g).yes r) (Err f) n → Walks (walk_cond k e p) (Err f) n
  cond_stops e c g p q r n x f is h get skip i =
      let w = walk_chain k (out-Cond e).test in
      let i' = subst (λ z. Walks (walk_expr k (out-Choice c).yes z) (Err f) n) skip (subst (λ z. Walks (walk_expr k (out-Choice z).yes r) (Err f) n) get i) in
      subst (λ z. Walks (z p) (Err f) n) (sym (conditional_walk e c is ∙ ap (λ o. walk_conditional w (Some o)) (choices_walk c)))
      (passes (w p) (λ x q. after (walk_expr k (out-Choice c).yes (bump q 1)) (λ y r. after (walk_cond k (out-Choice c).no (bump r 1)) (λ z u. conditional_end p x (bump q 1) y (bump r 1) z u))) x q (Err f) n h
      (ends (walk_expr k (out-Choice c).yes (bump q 1)) (λ y r. after (walk_cond k (out-Choice c).no (bump r 1)) (λ z u. conditional_end p x (bump q 1) y (bump r 1) z u)) f n n i'))

  pub cond_fails : (e : Cond) (c g : Choice) (p q r s u n : ℕ) (x y : Form) (f : TypeFault) → (out-Cond e).choice ≡ Some c → Walks (walk_chain k (out-Cond e).test p) (Ok x) q
      → g ≡ c → r ≡ bump q 1 → Walks (walk_expr k (out-Choice g).yes r) (Ok y) s → u ≡ bump s 1 → Walks (walk_cond k (out-Choice g).no u) (Err f) n → Walks (walk_cond k e p) (Err f) n
  cond_fails e c g p q r s u n x y f is h get skip i step j =
      let w = walk_chain k (out-Cond e).test in
      let i' = subst (λ z. Walks (walk_expr k (out-Choice c).yes z) (Ok y) s) skip (subst (λ z. Walks (walk_expr k (out-Choice z).yes r) (Ok y) s) get i) in
      let j' = subst (λ z. Walks (walk_cond k (out-Choice c).no z) (Err f) n) step (subst (λ z. Walks (walk_cond k (out-Choice z).no u) (Err f) n) get j) in
      subst (λ z. Walks (z p) (Err f) n) (sym (conditional_walk e c is ∙ ap (λ o. walk_conditional w (Some o)) (choices_walk c)))
      (passes (w p) (λ x q. after (walk_expr k (out-Choice c).yes (bump q 1)) (λ y r. after (walk_cond k (out-Choice c).no (bump r 1)) (λ z u. conditional_end p x (bump q 1) y (bump r 1) z u))) x q (Err f) n h
      (passes (walk_expr k (out-Choice c).yes (bump q 1)) (λ y r. after (walk_cond k (out-Choice c).no (bump r 1)) (λ z u. conditional_end p x (bump q 1) y (bump r 1) z u)) y s (Err f) n i'
      (ends (walk_cond k (out-Choice c).no (bump s 1)) (λ z u. conditional_end p x (bump q 1) y (bump s 1) z u) f n n j')))

  pub cond_goes : (e : Cond) (c g : Choice) (p q r s u m n : ℕ) (x y z : Form) (res : Result Form TypeFault) → (out-Cond e).choice ≡ Some c → Walks (walk_chain k (out-Cond e).test p) (Ok x) q
      → g ≡ c → r ≡ bump q 1 → Walks (walk_expr k (out-Choice g).yes r) (Ok y) s → u ≡ bump s 1 → Walks (walk_cond k (out-Choice g).no u) (Ok z) m → Walks (conditional_end p x r y u z m) res n → Walks (walk_cond k e p) res n
  cond_goes e c g p q r s u m n x y z res is h get skip i step j l =
      let w = walk_chain k (out-Cond e).test in
      let i' = subst (λ t. Walks (walk_expr k (out-Choice c).yes t) (Ok y) s) skip (subst (λ t. Walks (walk_expr k (out-Choice t).yes r) (Ok y) s) get i) in
      let j' = subst (λ t. Walks (walk_cond k (out-Choice c).no t) (Ok z) m) step (subst (λ t. Walks (walk_cond k (out-Choice t).no u) (Ok z) m) get j) in
      let l' = subst (λ t. Walks (conditional_end p x (bump q 1) y t z m) res n) step (subst (λ t. Walks (conditional_end p x t y u z m) res n) skip l) in
      subst (λ t. Walks (t p) res n) (sym (conditional_walk e c is ∙ ap (λ o. walk_conditional w (Some o)) (choices_walk c)))
      (passes (w p) (λ x q. after (walk_expr k (out-Choice c).yes (bump q 1)) (λ y r. after (walk_cond k (out-Choice c).no (bump r 1)) (λ z u. conditional_end p x (bump q 1) y (bump r 1) z u))) x q res n h
      (passes (walk_expr k (out-Choice c).yes (bump q 1)) (λ y r. after (walk_cond k (out-Choice c).no (bump r 1)) (λ z u. conditional_end p x (bump q 1) y (bump r 1) z u)) y s res n i'
      (passes (walk_cond k (out-Choice c).no (bump s 1)) (λ z u. conditional_end p x (bump q 1) y (bump s 1) z u) z m res n j' l')))

  pub set_goes : (e : Assign) (u : Unary) (t : Token) (v v' : Assign) (m : Mark) (p q r s n : ℕ) (x y : Form) (res : Result Form TypeFault) → e ≡ assign.Set u t v
      → Walks (walk_unary k u p) (Ok x) q → r ≡ bump q 1 → v' ≡ v → Walks (walk_assign k v' r) (Ok y) s → m ≡ mark_of t → Walks (assign_end m p x r y s) res n → Walks (walk_assign k e p) res n
  set_goes e u t v v' m p q r s n x y res is h skip get i mark l =
      let j = subst (λ z. Walks (walk_assign k v z) (Ok y) s) skip (subst (λ z. Walks (walk_assign k z r) (Ok y) s) get i) in
      let l' = subst (λ z. Walks (assign_end z p x (bump q 1) y s) res n) mark (subst (λ z. Walks (assign_end m p x z y s) res n) skip l) in
      subst (λ w. Walks (w p) res n) (sym (ap (walk_assign k) is ∙ set_walk u t v))
      (passes (walk_unary k u p) (λ y s. after (walk_assign k v (bump s 1)) (λ z r. assign_end (mark_of t) p y (bump s 1) z r)) x q res n h
      (passes (walk_assign k v (bump q 1)) (λ z r. assign_end (mark_of t) p x (bump q 1) z r) y s res n j l'))

  pub level_goes : (e first g : Chain) (rest s : List ChainStep) (p q m n : ℕ) (x : Form) (a b : Sofar) (res : Result Form TypeFault) → e ≡ chain.Level first rest → g ≡ first → s ≡ rest
      → Walks (walk_chain k g p) (Ok x) q → a ≡ chain_start x → Walks (walk_operators p a q (map (walk_chain_step k) s)) (Ok b) m → Walks (chain_end b m) res n → Walks (walk_chain k e p) res n
  level_goes e first g rest s p q m n x a b res is get slice h start i l =
      let j = subst (λ z. Walks (walk_operators p z q (map (walk_chain_step k) rest)) (Ok b) m) start (subst (λ z. Walks (walk_operators p a q (map (walk_chain_step k) z)) (Ok b) m) slice i) in
      subst (λ w. Walks (w p) res n) (sym (ap (walk_chain k) is ∙ level_walk first rest))
      (passes (walk_chain k first p) (λ y r. after (walk_operators p (chain_start y) r (map (walk_chain_step k) rest)) chain_end) x q res n (subst (λ z. Walks (walk_chain k z p) (Ok x) q) get h)
      (passes (walk_operators p (chain_start x) q (map (walk_chain_step k) rest)) chain_end b m res n j l))

  pub expr_fails : (e : Expr) (p n : ℕ) (f : TypeFault) → Walks (walk_assign k (out-Expr e).first p) (Err f) n → Walks (walk_expr k e p) (Err f) n
  expr_fails e p n f h =
      let w = map (walk_comma_step k) (out-Expr e).rest in
      subst (λ s. Walks (walk_series s p) (Err f) n) (sym (series_walk e)) (ends (walk_assign k (out-Expr e).first p) (λ x q. walk_rest p x q w) f n n h)

  several : (l : List CommaStep) (b : Bool) (p q : ℕ) (x : Form) → (l ≡ [] → b ≡ true) → b ≡ false
      → walk_rest p x q (map (walk_comma_step k) l) ≡ after (walk_operators p (chain_start x) q (map comma (map (walk_comma_step k) l))) chain_end
  several [] b p q x full some = absurd (false≢true (sym some ∙ full refl))
  several (s ∷ l) b p q x full some = refl

  pub commas_fail : (e : Expr) (s : List CommaStep) (t : Bool) (p q n : ℕ) (x : Form) (a : Sofar) (f : TypeFault) → Walks (walk_assign k (out-Expr e).first p) (Ok x) q
      → ((out-Expr e).rest ≡ [] → t ≡ true) → t ≡ false → s ≡ (out-Expr e).rest → a ≡ chain_start x
      → Walks (walk_operators p a q (map comma (map (walk_comma_step k) s))) (Err f) n → Walks (walk_expr k e p) (Err f) n
  commas_fail e s t p q n x a f h full some slice start i =
      let l = (out-Expr e).rest in
      let j = subst (λ z. Walks (walk_operators p z q (map comma (map (walk_comma_step k) l))) (Err f) n) start (subst (λ z. Walks (walk_operators p a q (map comma (map (walk_comma_step k) z))) (Err f) n) slice i) in
      subst (λ w. Walks (walk_series w p) (Err f) n) (sym (series_walk e))
      (passes (walk_assign k (out-Expr e).first p) (λ x q. walk_rest p x q (map (walk_comma_step k) l)) x q (Err f) n h
      (subst (λ w. Walks w (Err f) n) (sym (several l t p q x full some)) (ends (walk_operators p (chain_start x) q (map comma (map (walk_comma_step k) l))) chain_end f n n j)))

  pub commas_go : (e : Expr) (s : List CommaStep) (t : Bool) (p q m n : ℕ) (x : Form) (a b : Sofar) (res : Result Form TypeFault) → Walks (walk_assign k (out-Expr e).first p) (Ok x) q
      → ((out-Expr e).rest ≡ [] → t ≡ true) → t ≡ false → s ≡ (out-Expr e).rest → a ≡ chain_start x
      → Walks (walk_operators p a q (map comma (map (walk_comma_step k) s))) (Ok b) m → Walks (chain_end b m) res n → Walks (walk_expr k e p) res n
  commas_go e s t p q m n x a b res h full some slice start i y =
      let l = (out-Expr e).rest in
      let j = subst (λ z. Walks (walk_operators p z q (map comma (map (walk_comma_step k) l))) (Ok b) m) start (subst (λ z. Walks (walk_operators p a q (map comma (map (walk_comma_step k) z))) (Ok b) m) slice i) in
      subst (λ w. Walks (walk_series w p) res n) (sym (series_walk e))
      (passes (walk_assign k (out-Expr e).first p) (λ x q. walk_rest p x q (map (walk_comma_step k) l)) x q res n h
      (subst (λ w. Walks w res n) (sym (several l t p q x full some)) (passes (walk_operators p (chain_start x) q (map comma (map (walk_comma_step k) l))) chain_end b m res n j y)))

  pub operand_fails : (s : ChainStep) (p q r n : ℕ) (a : Sofar) (f : TypeFault) → r ≡ bump q 1 → Walks (walk_chain k (out-ChainStep s).operand r) (Err f) n → Walks (walk_operator p a q (walk_chain_step k s)) (Err f) n
  operand_fails s p q r n a f skip h =
      let x = out-ChainStep s in
      subst (λ o. Walks (walk_operator p a q o) (Err f) n) (sym (operand_walk s))
      (ends (walk_chain k x.operand (bump q 1)) (λ y r. operator_end (mark_of x.operator) p a (bump q 1) y r) f n n (subst (λ z. Walks (walk_chain k x.operand z) (Err f) n) skip h))

  pub post_fails : (e : Post) (p n : ℕ) (f : TypeFault) → Walks (walk_primary k (out-Post e).primary p) (Err f) n → Walks (walk_post k e p) (Err f) n
  post_fails e p n f h =
      subst (λ w. Walks (w p) (Err f) n) (sym (suffixed_walk e)) (ends (walk_primary k (out-Post e).primary p) (λ y q. walk_suffixes p y q (map (walk_post_step k) (out-Post e).rest)) f n n h)

  pub post_goes : (e : Post) (s : List PostStep) (p q n : ℕ) (x : Form) (res : Result Form TypeFault) → Walks (walk_primary k (out-Post e).primary p) (Ok x) q → s ≡ (out-Post e).rest
      → Walks (walk_suffixes p x q (map (walk_post_step k) s)) res n → Walks (walk_post k e p) res n
  post_goes e s p q n x res h slice i =
      subst (λ w. Walks (w p) res n) (sym (suffixed_walk e))
      (passes (walk_primary k (out-Post e).primary p) (λ y q. walk_suffixes p y q (map (walk_post_step k) (out-Post e).rest)) x q res n h (subst (λ z. Walks (walk_suffixes p x q (map (walk_post_step k) z)) res n) slice i))

  pub paren_fails : (e : Primary) (l : Token) (i g : Expr) (z : Token) (p r n : ℕ) (f : TypeFault) → e ≡ primary.Paren l i z → r ≡ bump p 1 → g ≡ i → Walks (walk_expr k g r) (Err f) n → Walks (walk_primary k e p) (Err f) n
  paren_fails e l i g z p r n f is skip get h =
      let j = subst (λ t. Walks (walk_expr k i t) (Err f) n) skip (subst (λ t. Walks (walk_expr k t r) (Err f) n) get h) in
      subst (λ w. Walks (w p) (Err f) n) (sym (ap (walk_primary k) is ∙ paren_walk l i z)) (ends (walk_expr k i (bump p 1)) (λ x q. paren_end l x q) f n n j)

  pub paren_goes : (e : Primary) (l : Token) (i g : Expr) (z : Token) (p r q n : ℕ) (x : Form) (res : Result Form TypeFault) → e ≡ primary.Paren l i z → r ≡ bump p 1 → g ≡ i
      → Walks (walk_expr k g r) (Ok x) q → Walks (paren_end l x q) res n → Walks (walk_primary k e p) res n
  paren_goes e l i g z p r q n x res is skip get h y =
      let j = subst (λ t. Walks (walk_expr k i t) (Ok x) q) skip (subst (λ t. Walks (walk_expr k t r) (Ok x) q) get h) in
      subst (λ w. Walks (w p) res n) (sym (ap (walk_primary k) is ∙ paren_walk l i z)) (passes (walk_expr k i (bump p 1)) (λ x q. paren_end l x q) x q res n j y)

  pub index_fails : (s : PostStep) (l : Token) (i g : Expr) (z : Token) (p q r n : ℕ) (x : Form) (f : TypeFault) → s ≡ post.Index l i z → r ≡ bump q 1 → g ≡ i
      → Walks (walk_expr k g r) (Err f) n → Walks (walk_suffix p x q (walk_post_step k s)) (Err f) n
  index_fails s l i g z p q r n x f is skip get h =
      let j = subst (λ t. Walks (walk_expr k i t) (Err f) n) skip (subst (λ t. Walks (walk_expr k t r) (Err f) n) get h) in
      subst (λ w. Walks (walk_suffix p x q w) (Err f) n) (sym (ap (walk_post_step k) is ∙ index_walk l i z)) (ends (walk_expr k i (bump q 1)) (λ y r. index_end p x (bump q 1) y r) f n n j)

  pub index_goes : (s : PostStep) (l : Token) (i g : Expr) (z : Token) (p q r u n : ℕ) (x y : Form) (res : Result Form TypeFault) → s ≡ post.Index l i z → r ≡ bump q 1 → g ≡ i
      → Walks (walk_expr k g r) (Ok y) u → Walks (index_end p x r y u) res n → Walks (walk_suffix p x q (walk_post_step k s)) res n
  index_goes s l i g z p q r u n x y res is skip get h v =
      let j = subst (λ t. Walks (walk_expr k i t) (Ok y) u) skip (subst (λ t. Walks (walk_expr k t r) (Ok y) u) get h) in
      subst (λ w. Walks (walk_suffix p x q w) res n) (sym (ap (walk_post_step k) is ∙ index_walk l i z))
      (passes (walk_expr k i (bump q 1)) (λ y r. index_end p x (bump q 1) y r) y u res n j (subst (λ t. Walks (index_end p x t y u) res n) skip v))

  pub first_argument_fails : (e : Expr) (p n : ℕ) (xs : List Argument) (f : TypeFault) → xs ≡ [] → Walks (walk_argument xs p (walk_assign k (out-Expr e).first)) (Err f) n → Walks (walk_arguments (Some (series_of k e)) p) (Err f) n
  first_argument_fails e p n xs f empty h =
      let w = walk_assign k (out-Expr e).first in
      subst (λ s. Walks (walk_arguments (Some s) p) (Err f) n) (sym (series_walk e))
      (ends (walk_argument [] p w) (λ ys r. walk_further ys r (map (walk_comma_step k) (out-Expr e).rest)) f n n (subst (λ z. Walks (walk_argument z p w) (Err f) n) empty h))

  pub arguments_goes : (e : Expr) (s : List CommaStep) (p q n : ℕ) (xs ys : List Argument) (res : Result (List Argument) TypeFault) → xs ≡ [] → Walks (walk_argument xs p (walk_assign k (out-Expr e).first)) (Ok ys) q
      → s ≡ (out-Expr e).rest → Walks (walk_further ys q (map (walk_comma_step k) s)) res n → Walks (walk_arguments (Some (series_of k e)) p) res n
  arguments_goes e s p q n xs ys res empty h slice i =
      let w = walk_assign k (out-Expr e).first in
      subst (λ s. Walks (walk_arguments (Some s) p) res n) (sym (series_walk e))
      (passes (walk_argument [] p w) (λ ys r. walk_further ys r (map (walk_comma_step k) (out-Expr e).rest)) ys q res n (subst (λ z. Walks (walk_argument z p w) (Ok ys) q) empty h)
      (subst (λ z. Walks (walk_further ys q (map (walk_comma_step k) z)) res n) slice i))
