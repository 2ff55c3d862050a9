-- The readers of expressions are exact at every depth.
use Rattle.std.proofs.Common.{◌≡◌, ℕ, zero, suc, ◌<◌, true, [], ◌∷◌, refl, ap, subst, lit≤, append-nil}
use Rattle.clc_reading.specs.Reading.{Spelling}
use Rattle.clc_reading.proofs.Exact.{Exact, deny_exact, LoopLaws}
use Rattle.clc_lexer.specs.declared.token.Token.{Token}
use Rattle.clc_lexer.specs.declared.marks.Mark.{Mark}
use Rattle.clc_lexer.specs.declared.marks.Mark.TheVariants as m
use Rattle.clc_tree.specs.Kinds as kinds
use Rattle.clc_tree.specs.Kinds.{Class, class_of, is, ranks, expr_start, left_paren, step, prefix, name, number}
use Rattle.clc_tree.specs.declared.kinds.Kind.TheVariants as k
use Rattle.clc_tree.specs.Expressions as g
use Rattle.clc_tree.specs.ExpressionRules as r
use Rattle.clc_grammar_laws.proofs.Readers.{a_name, a_mark}
use Rattle.clc_grammar_laws.proofs.Languages.{EndsExpr, expr_lang, assign_lang, cond_lang, cast_lang, unary_lang, unary_starts, cast_starts, cond_starts, assign_starts, expr_starts}
use Rattle.clc_grammar_laws.proofs.ExpressionsExact.{expr_exact, assign_exact, cond_exact, cast_exact, unary_exact, post_turns, chain_turns, comma_turns}
use Rattle.clc_tree.specs.declared.expressions.Expr.{Expr}
use Rattle.clc_tree.specs.declared.expressions.Assign.{Assign}
use Rattle.clc_tree.specs.declared.expressions.Cond.{Cond}
use Rattle.clc_tree.specs.declared.expressions.Chain.{Chain}
use Rattle.clc_tree.specs.declared.expressions.Cast.{Cast}
use Rattle.clc_tree.specs.declared.expressions.Unary.{Unary}
use Rattle.clc_tree.specs.declared.expressions.Unary.TheVariants as to_unary
use Rattle.clc_tree.specs.declared.expressions.Primary.{Primary}
use Rattle.clc_tree.specs.declared.expressions.Primary.TheVariants as to_primary

-- the readers of a depth are exact
pub record AllExact (n : ℕ) (b : r.Below) : Type 0 where
  pub expr : Exact n b.expr expr_lang
  pub assign : Exact n b.assign assign_lang
  pub cond : Exact n b.cond cond_lang
  pub cast : Exact n b.cast cast_lang
  pub unary : Exact n b.unary unary_lang

-- ---- a token that may begin an expression begins one

up : (j : ℕ) (c : Chain) (ms : Spelling Token) → g.IsChain zero c ms → g.IsChain j c ms
up zero c ms h = h
up (suc j) c ms h = g.tighter j c ms (up j c ms h)

post_unary : (p : Primary) (ms : Spelling Token) → g.IsPrimary p ms → (u : Unary) × g.IsUnary u ms
post_unary p ms h = (_, subst (g.IsUnary (to_unary.Post (g.post_of p []))) (append-nil ms) (g.postfix _ _ (g.steps p [] ms [] h g.no_post)))

cast_of : (u : Unary) (ms : Spelling Token) → g.IsUnary u ms → (c : Cast) × g.IsCast c ms
cast_of u ms h = (_, g.of u ms h)

cond_of : (c : Cast) (ms : Spelling Token) → g.IsCast c ms → (d : Cond) × g.IsCond d ms
cond_of c ms h = (_, g.test _ ms (up ranks _ ms (g.operand c ms h)))

assign_of : (c : Cond) (ms : Spelling Token) → g.IsCond c ms → (a : Assign) × g.IsAssign a ms
assign_of c ms h = (_, g.value c ms h)

expr_of : (a : Assign) (ms : Spelling Token) → g.IsAssign a ms → (e : Expr) × g.IsExpr e ms
expr_of a ms h = (_, subst (g.IsExpr (g.expr_of a [])) (append-nil ms) (g.list a [] ms [] h g.no_comma))

-- from a unary expression up
pub all_of : (u : Unary) (ms : Spelling Token) → g.IsUnary u ms
    → ((c : Cast) × g.IsCast c ms) × ((d : Cond) × g.IsCond d ms) × ((a : Assign) × g.IsAssign a ms) × ((e : Expr) × g.IsExpr e ms)
all_of u ms h =
    let c = cast_of u ms h in
    let d = cond_of c.0 ms c.1 in
    let a = assign_of d.0 ms d.1 in
    (c, d, a, expr_of a.0 ms a.1)

pub named : (u : Unary) × g.IsUnary u ((a_name, 0) ∷ [])
named = post_unary (to_primary.Name a_name) ((a_name, 0) ∷ []) (g.name a_name refl)

mark_begins : (t : Token) (x : Mark) → class_of t.kind ≡ kinds.Mark x → expr_start (kinds.Mark x) ≡ true → (u : Unary) × (more : Spelling Token) × g.IsUnary u ((t, 0) ∷ more)
mark_begins t m.LeftParen e h =
    let inner = (all_of named.0 _ named.1).3 in
    let u = post_unary _ _ (g.paren t (a_mark m.RightParen) inner.0 _ (ap left_paren e) inner.1 refl) in
    (u.0, _, u.1)
mark_begins t m.PlusPlus e h = (_, _, g.before t named.0 _ (ap step e) named.1)
mark_begins t m.MinusMinus e h = (_, _, g.before t named.0 _ (ap step e) named.1)
mark_begins t m.Plus e h = let c = cast_of named.0 _ named.1 in (_, _, g.prefix t c.0 _ (ap prefix e) c.1)
mark_begins t m.Minus e h = let c = cast_of named.0 _ named.1 in (_, _, g.prefix t c.0 _ (ap prefix e) c.1)
mark_begins t m.Tilde e h = let c = cast_of named.0 _ named.1 in (_, _, g.prefix t c.0 _ (ap prefix e) c.1)
mark_begins t m.Bang e h = let c = cast_of named.0 _ named.1 in (_, _, g.prefix t c.0 _ (ap prefix e) c.1)
mark_begins t m.Star e h = let c = cast_of named.0 _ named.1 in (_, _, g.prefix t c.0 _ (ap prefix e) c.1)
mark_begins t x e h = absurd (cc)

class_begins : (t : Token) (x : Class) → class_of t.kind ≡ x → expr_start x ≡ true → (u : Unary) × (more : Spelling Token) × g.IsUnary u ((t, 0) ∷ more)
class_begins t (kinds.Mark x) e h = mark_begins t x e h
class_begins t kinds.Name e h = let u = post_unary _ _ (g.name t (ap name e)) in (u.0, _, u.1)
class_begins t kinds.Number e h = let u = post_unary _ _ (g.number t (ap number e)) in (u.0, _, u.1)
class_begins t (kinds.Word x) e h = absurd (cc)

pub begins : (t : Token) → (is k.ExprStart) t ≡ true → (u : Unary) × (more : Spelling Token) × g.IsUnary u ((t, 0) ∷ more)
begins t h = class_begins t (class_of t.kind) refl h

zero_exact : AllExact zero (r.levels zero)
zero_exact = record {
  expr = deny_exact (is k.ExprStart) expr_lang (record { only = expr_starts; each = λ t h. (let u = begins t h in let x = all_of u.0 _ u.2 in (x.3.0, 0, u.1, x.3.1)); token = a_name; is = refl });
  assign = deny_exact (is k.ExprStart) assign_lang (record { only = assign_starts; each = λ t h. (let u = begins t h in let x = all_of u.0 _ u.2 in (x.2.0, 0, u.1, x.2.1)); token = a_name; is = refl });
  cond = deny_exact (is k.ExprStart) cond_lang (record { only = cond_starts; each = λ t h. (let u = begins t h in let x = all_of u.0 _ u.2 in (x.1.0, 0, u.1, x.1.1)); token = a_name; is = refl });
  cast = deny_exact (is k.ExprStart) cast_lang (record { only = cast_starts; each = λ t h. (let u = begins t h in let x = all_of u.0 _ u.2 in (x.0.0, 0, u.1, x.0.1)); token = a_name; is = refl });
  unary = deny_exact (is k.ExprStart) unary_lang (record { only = unary_starts; each = λ t h. (let u = begins t h in (u.0, 0, u.1, u.2)); token = a_name; is = refl });
}

pub levels_exact : (n : ℕ) → AllExact n (r.levels n)
levels_exact zero = zero_exact
levels_exact (suc n) =
    let b = levels_exact n in
    let l = r.levels n in
    record {
      expr = expr_exact n l b.expr b.unary b.cast b.cond b.assign;
      assign = assign_exact n l b.expr b.unary b.cast b.cond b.assign;
      cond = cond_exact n l b.expr b.unary b.cast b.cond;
      cast = cast_exact n l b.expr b.unary b.cast;
      unary = unary_exact n l b.expr b.unary b.cast;
    }

pub closed : (e : Expr) → EndsExpr []
closed e = ((((refl, lit≤ tt), refl), refl), refl)

-- ---- the loops

pub posts_loop : (n : ℕ) → LoopLaws (is k.PostStep) (r.post_step n (r.levels n))
posts_loop n = post_turns n (r.levels n) (levels_exact n).expr

pub steps_loop : (n j : ℕ) → j < ranks → LoopLaws (is (k.Rank j)) (r.chain_step n (r.levels n) j)
steps_loop n j lt = let b = levels_exact n in chain_turns n (r.levels n) b.expr b.unary b.cast j lt

pub commas_loop : (n : ℕ) → LoopLaws (is k.Comma) (r.comma_step n (r.levels n))
commas_loop n = let b = levels_exact n in comma_turns n (r.levels n) b.expr b.unary b.cast b.cond b.assign
