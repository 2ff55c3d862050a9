-- Whether a statement is plain, by its parts.
use Rattle.std.proofs.Common.{◌≡◌, ℕ, Bool, true, false, List, [], ◌∷◌, ◌++◌, Option, Some, None, refl, sym, ap, ◌∙◌}
use Rattle.std.specs.Prelude.{◌&&◌, map}
use Rattle.clc_types.specs.declared.typed.TExpr.{TExpr}
use Rattle.clc_types.specs.declared.typed.TStmt.{TStmt, roll-TStmt}
use Rattle.clc_types.specs.declared.typed.TStmt.TheVariants as st
use Rattle.clc_types.specs.declared.typed.TStmt.TheOpen as s
use Rattle.clc_types.specs.declared.typed.TStmt.TheOpen.{TStmt-F}
use Rattle.clc_types.specs.declared.typed.TStmt.TheFolds.{fold-roll-TStmt, map-TStmt}
use Rattle.clc_plain.specs.Plain.{Plain, all_plain, all_first, plain_layer, plain_in}

pub yes : {a b : Bool} → a ≡ true → b ≡ true → (a && b) ≡ true
yes {a} {b} x y = ap (λ z. z && b) x ∙ y

left : (a b : Bool) → (a && b) ≡ true → a ≡ true
left true b h = refl
left false b h = h

right : (a b : Bool) → (a && b) ≡ true → b ≡ true
right true b h = h
right false true h = refl
right false false h = h

abbrev pub Whole : TStmt → Type 0
Whole y = (plain_in y).whole ≡ true

abbrev pub Wholes : List TStmt → Type 0
Wholes ys = all_plain (map plain_in ys) ≡ true

-- statements that may stand anywhere, and first in a `for`
abbrev pub Starts : List TStmt → Type 0
Starts ys = Wholes ys × (all_first (map plain_in ys) ≡ true)

pub wholes_append : (xs ys : List TStmt) → Wholes xs → Wholes ys → Wholes (xs ++ ys)
wholes_append [] ys h i = i
wholes_append (x ∷ xs) ys h i = yes (left (plain_in x).whole (all_plain (map plain_in xs)) h) (wholes_append xs ys (right (plain_in x).whole (all_plain (map plain_in xs)) h) i)

firsts_append : (xs ys : List TStmt) → all_first (map plain_in xs) ≡ true → all_first (map plain_in ys) ≡ true → all_first (map plain_in (xs ++ ys)) ≡ true
firsts_append [] ys h i = i
firsts_append (x ∷ xs) ys h i = yes (left (plain_in x).first (all_first (map plain_in xs)) h) (firsts_append xs ys (right (plain_in x).first (all_first (map plain_in xs)) h) i)

pub starts_append : (xs ys : List TStmt) → Starts xs → Starts ys → Starts (xs ++ ys)
starts_append xs ys h i = (wholes_append xs ys h.0 i.0, firsts_append xs ys h.1 i.1)

-- ---- each form

rolled : (y : TStmt-F TStmt) (x : TStmt) → roll-TStmt y ≡ x → plain_in x ≡ plain_layer (map-TStmt _ _ plain_in y)
rolled y x is = ap plain_in (sym is) ∙ fold-roll-TStmt Plain plain_layer y

pub declare_starts : (v : ℕ) (i : Option TExpr) → Starts (st.Declare v i ∷ [])
declare_starts v i = let e = rolled (s.Declare v i) (st.Declare v i) (st.rolls-Declare v i) in (ap (λ z. z.whole && true) e, ap (λ z. z.first && true) e)

pub eval_starts : (e : TExpr) → Starts (st.Eval e ∷ [])
eval_starts e = let r = rolled (s.Eval e) (st.Eval e) (st.rolls-Eval e) in (ap (λ z. z.whole && true) r, ap (λ z. z.first && true) r)

pub eval_whole : (e : TExpr) → Whole (st.Eval e)
eval_whole e = ap (λ z. z.whole) (rolled (s.Eval e) (st.Eval e) (st.rolls-Eval e))

pub empty_whole : Whole st.Empty
empty_whole = ap (λ z. z.whole) (rolled s.Empty st.Empty st.rolls-Empty)

pub break_whole : Whole st.Break
break_whole = ap (λ z. z.whole) (rolled s.Break st.Break st.rolls-Break)

pub continue_whole : Whole st.Continue
continue_whole = ap (λ z. z.whole) (rolled s.Continue st.Continue st.rolls-Continue)

pub return_whole : (e : Option TExpr) → Whole (st.Return e)
return_whole e = ap (λ z. z.whole) (rolled (s.Return e) (st.Return e) (st.rolls-Return e))

pub block_whole : (ys : List TStmt) → Wholes ys → Whole (st.Block ys)
block_whole ys h = ap (λ z. z.whole) (rolled (s.Block ys) (st.Block ys) (st.rolls-Block ys)) ∙ h

pub when_whole : (e : TExpr) (a : TStmt) → Whole a → Whole (st.If e a None)
when_whole e a h = ap (λ z. z.whole) (rolled (s.If e a None) (st.If e a None) (st.rolls-If e a None)) ∙ yes h refl

pub choose_whole : (e : TExpr) (a b : TStmt) → Whole a → Whole b → Whole (st.If e a (Some b))
choose_whole e a b h i = ap (λ z. z.whole) (rolled (s.If e a (Some b)) (st.If e a (Some b)) (st.rolls-If e a (Some b))) ∙ yes h i

pub while_whole : (e : TExpr) (a : TStmt) → Whole a → Whole (st.While e a)
while_whole e a h = ap (λ z. z.whole) (rolled (s.While e a) (st.While e a) (st.rolls-While e a)) ∙ h

pub do_whole : (a : TStmt) (e : TExpr) → Whole a → Whole (st.Do a e)
do_whole a e h = ap (λ z. z.whole) (rolled (s.Do a e) (st.Do a e) (st.rolls-Do a e)) ∙ h

pub for_whole : (ys : List TStmt) (i j : Option TExpr) (a : TStmt) → Starts ys → Whole a → Whole (st.For ys i j a)
for_whole ys i j a h k = ap (λ z. z.whole) (rolled (s.For ys i j a) (st.For ys i j a) (st.rolls-For ys i j a)) ∙ yes h.1 k
