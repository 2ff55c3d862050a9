-- The languages of the rules for expressions, and what begins and what ends one.
use Rattle.std.proofs.Common.{◌≡◌, ℕ, ◌≤◌, Bool, true, false, cond, not, eqb, List, [], ◌∷◌, refl, arith, lit≤}
use Rattle.std.proofs.lemmas.Bool.{eqb-true}
use Rattle.clc_reading.specs.Reading.{sees, Spelling, Language}
use Rattle.clc_lexer.specs.declared.token.Token.{Token}
use Rattle.clc_lexer.specs.declared.marks.Mark.TheVariants as m
use Rattle.clc_tree.specs.Kinds.{Class, Mark, class_rank, takes, is, rank, ranks}
use Rattle.clc_tree.specs.declared.kinds.Kind.{Kind}
use Rattle.clc_tree.specs.declared.kinds.Kind.TheVariants as k
use Rattle.clc_tree.specs.Expressions as g
use Rattle.clc_grammar_laws.proofs.Facts.{Apart, of, apart_of, within, without_of}
use Rattle.clc_grammar_laws.proofs.Readers.{StartsWith, starts_append}
use Rattle.clc_tree.specs.declared.expressions.Scalar.{Scalar}
use Rattle.clc_tree.specs.declared.expressions.Expr.{Expr}
use Rattle.clc_tree.specs.declared.expressions.Assign.{Assign}
use Rattle.clc_tree.specs.declared.expressions.Cond.{Cond}
use Rattle.clc_tree.specs.declared.expressions.Chain.{Chain}
use Rattle.clc_tree.specs.declared.expressions.Cast.{Cast}
use Rattle.clc_tree.specs.declared.expressions.Unary.{Unary}
use Rattle.clc_tree.specs.declared.expressions.Post.{Post}
use Rattle.clc_tree.specs.declared.expressions.Primary.{Primary}

-- ---- what may not follow

abbrev pub first_rank : List Token → ℕ
first_rank [] = 10
first_rank (t ∷ ts) = rank t

-- what goes on with a postfix expression
abbrev pub post_mark : Class → Bool
post_mark (Mark m.LeftParen) = true
post_mark (Mark m.LeftBracket) = true
post_mark (Mark m.PlusPlus) = true
post_mark (Mark m.MinusMinus) = true
post_mark _ = false

abbrev pub EndsPost : List Token → Type 0
EndsPost rest = sees (of post_mark) rest ≡ false

abbrev pub EndsChain : ℕ → List Token → Type 0
EndsChain n rest = EndsPost rest × (n ≤ first_rank rest)

abbrev pub EndsCond : List Token → Type 0
EndsCond rest = EndsChain ranks rest × (sees (is k.Question) rest ≡ false)

abbrev pub EndsAssign : List Token → Type 0
EndsAssign rest = EndsCond rest × (sees (is k.Assignment) rest ≡ false)

abbrev pub EndsExpr : List Token → Type 0
EndsExpr rest = EndsAssign rest × (sees (is k.Comma) rest ≡ false)

abbrev pub expr_lang : Language Token Expr
expr_lang = record { spells = g.IsExpr; halts = λ e rest. EndsExpr rest }

abbrev pub assign_lang : Language Token Assign
assign_lang = record { spells = g.IsAssign; halts = λ e rest. EndsAssign rest }

abbrev pub cond_lang : Language Token Cond
cond_lang = record { spells = g.IsCond; halts = λ e rest. EndsCond rest }

abbrev pub chain_lang : ℕ → Language Token Chain
chain_lang n = record { spells = g.IsChain n; halts = λ e rest. EndsChain n rest }

abbrev pub cast_lang : Language Token Cast
cast_lang = record { spells = g.IsCast; halts = λ e rest. EndsPost rest }

abbrev pub unary_lang : Language Token Unary
unary_lang = record { spells = g.IsUnary; halts = λ e rest. EndsPost rest }

abbrev pub post_lang : Language Token Post
post_lang = record { spells = g.IsPost; halts = λ e rest. EndsPost rest }

abbrev pub primary_lang : Language Token Primary
primary_lang = record { spells = g.IsPrimary; halts = λ e rest. sees (is k.LeftParen) rest ≡ false }

abbrev pub scalar_lang : Language Token Scalar
scalar_lang = record { spells = g.IsScalar; halts = λ e rest. sees (is k.BaseWord) rest ≡ false }

-- ---- a token that goes on with nothing ends all

abbrev pub operator : Class → Bool
operator c = not (eqb (class_rank c) 10)

abbrev pub chain_goes_on : Class → Bool
chain_goes_on c = cond (post_mark c) true (operator c)

abbrev pub assign_goes_on : Class → Bool
assign_goes_on c = cond (chain_goes_on c) true (cond (takes k.Question c) true (takes k.Assignment c))

abbrev pub expr_goes_on : Class → Bool
expr_goes_on c = cond (assign_goes_on c) true (takes k.Comma c)

not_false : (b : Bool) → not b ≡ false → b ≡ true
not_false true h = refl
not_false false h = absurd (cc)

rank_ten : (t : Token) → of operator t ≡ false → rank t ≡ 10
rank_ten t h = eqb-true (rank t) 10 (not_false (eqb (rank t) 10) h)

pub chain_ends : (n : ℕ) → n ≤ 10 → (t : Token) (rest : List Token) → of chain_goes_on t ≡ false → EndsChain n (t ∷ rest)
chain_ends n le t rest h =
    let e = rank_ten t (without_of operator chain_goes_on refl (t ∷ []) h) in
    (without_of post_mark chain_goes_on refl (t ∷ []) h, omega (arith, e))

pub ends_chain : (f : Kind) → Apart (takes f) chain_goes_on → (n : ℕ) → n ≤ 10 → (t : Token) (rest : List Token) → is f t ≡ true → EndsChain n (t ∷ rest)
ends_chain f a n le t rest h = chain_ends n le t rest (apart_of (takes f) chain_goes_on a t h)

assign_ends : (t : Token) (rest : List Token) → of assign_goes_on t ≡ false → EndsAssign (t ∷ rest)
assign_ends t rest h = (
  (chain_ends ranks (lit≤ tt) t rest (without_of chain_goes_on assign_goes_on refl (t ∷ []) h), without_of (takes k.Question) assign_goes_on refl (t ∷ []) h),
  without_of (takes k.Assignment) assign_goes_on refl (t ∷ []) h,
)

pub ends_assign : (f : Kind) → Apart (takes f) assign_goes_on → (t : Token) (rest : List Token) → is f t ≡ true → EndsAssign (t ∷ rest)
ends_assign f a t rest h = assign_ends t rest (apart_of (takes f) assign_goes_on a t h)

pub ends_expr : (f : Kind) → Apart (takes f) expr_goes_on → (t : Token) (rest : List Token) → is f t ≡ true → EndsExpr (t ∷ rest)
ends_expr f a t rest h =
    let e = apart_of (takes f) expr_goes_on a t h in
    (assign_ends t rest (without_of assign_goes_on expr_goes_on refl (t ∷ []) e), without_of (takes k.Comma) expr_goes_on refl (t ∷ []) e)

-- ---- what begins one

pub primary_starts : (p : Primary) (ms : Spelling Token) → g.IsPrimary p ms → StartsWith (is k.ExprStart) ms
primary_starts p ms (g.name t h) = ((t, 0), [], refl, within k.Name k.ExprStart refl t h)
primary_starts p ms (g.number t h) = ((t, 0), [], refl, within k.Number k.ExprStart refl t h)
primary_starts p ms (g.paren l r e m h i j) = ((l, 0), _, refl, within k.LeftParen k.ExprStart refl l h)
primary_starts p ms (g.call0 f l r h i j) = ((f, 0), _, refl, within k.Name k.ExprStart refl f h)
primary_starts p ms (g.call f l r e m h i j o) = ((f, 0), _, refl, within k.Name k.ExprStart refl f h)

pub post_starts : (p : Post) (ms : Spelling Token) → g.IsPost p ms → StartsWith (is k.ExprStart) ms
post_starts p ms (g.steps q more m n h i) = starts_append (is k.ExprStart) m n (primary_starts q m h)

pub unary_starts : (u : Unary) (ms : Spelling Token) → g.IsUnary u ms → StartsWith (is k.ExprStart) ms
unary_starts u ms (g.postfix p m h) = post_starts p m h
unary_starts u ms (g.before t v m h i) = ((t, 0), _, refl, within k.Step k.ExprStart refl t h)
unary_starts u ms (g.prefix t c m h i) = ((t, 0), _, refl, within k.Prefix k.ExprStart refl t h)

pub cast_starts : (c : Cast) (ms : Spelling Token) → g.IsCast c ms → StartsWith (is k.ExprStart) ms
cast_starts c ms (g.to l r s d m n h i j o) = ((l, 0), _, refl, within k.LeftParen k.ExprStart refl l h)
cast_starts c ms (g.of u m h) = unary_starts u m h

pub chain_starts : (n : ℕ) (c : Chain) (ms : Spelling Token) → g.IsChain n c ms → StartsWith (is k.ExprStart) ms
chain_starts n c ms (g.operand d m h) = cast_starts d m h
chain_starts n c ms (g.tighter j d m h) = chain_starts j d m h
chain_starts n c ms (g.level j d s more m o h i) = starts_append (is k.ExprStart) m o (chain_starts j d m h)

pub cond_starts : (c : Cond) (ms : Spelling Token) → g.IsCond c ms → StartsWith (is k.ExprStart) ms
cond_starts c ms (g.test d m h) = chain_starts ranks d m h
cond_starts c ms (g.choice d q e a b m n o h i j l w) = starts_append (is k.ExprStart) m _ (chain_starts ranks d m h)

pub assign_starts : (a : Assign) (ms : Spelling Token) → g.IsAssign a ms → StartsWith (is k.ExprStart) ms
assign_starts a ms (g.value c m h) = cond_starts c m h
assign_starts a ms (g.set u t b m n h i j) = starts_append (is k.ExprStart) m _ (unary_starts u m h)

pub expr_starts : (e : Expr) (ms : Spelling Token) → g.IsExpr e ms → StartsWith (is k.ExprStart) ms
expr_starts e ms (g.list a more m n h i) = starts_append (is k.ExprStart) m n (assign_starts a m h)
