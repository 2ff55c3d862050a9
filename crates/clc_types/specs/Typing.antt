-- The faults of expressions, and their typed forms (OpenCL C 1.2, 6.2 and 6.3; C99, 6.5).
use Rattle.std.specs.Prelude.{ℕ, ◌+◌, true, false, List, [], ◌∷◌, ◌++◌, Option, Some, None, slice_get, map}
use Rattle.clc_lexer.specs.declared.token.Token.{Token}
use Rattle.clc_lexer.specs.declared.marks.Mark.{Mark}
use Rattle.clc_lexer.specs.declared.marks.Mark.TheVariants as m
use Rattle.clc_tree.specs.declared.expressions.Assign.{Assign}
use Rattle.clc_tree.specs.declared.expressions.Expr.{Expr}
use Rattle.clc_tree.specs.declared.expressions.Scalar.{Scalar as Written}
use Rattle.clc_tree.specs.declared.expressions.Assign.TheOpen as o
use Rattle.clc_tree.specs.declared.expressions.Assign.TheOpen.{Assign-F, Cast-F, Chain-F, PostStep-F, Primary-F, Unary-F, ChainStep-F, Choice-F, CommaStep-F, Cond-F, Expr-F, Post-F}
use Rattle.clc_tree.specs.declared.expressions.Assign.TheFolds.{fold-Assign, fold-Expr}
use Rattle.clc_types.specs.declared.type_rule.TypeRule.TheVariants.{S1}
use Rattle.clc_types.specs.declared.typed.Builtin.{Builtin}
use Rattle.clc_types.specs.declared.typed.Node.{Node}
use Rattle.clc_types.specs.declared.typed.Node.TheVariants as n
use Rattle.clc_types.specs.declared.typed.TExpr.{TExpr, roll-TExpr, out-TExpr}
use Rattle.clc_types.specs.declared.forms.Shape.{Shape}
use Rattle.clc_types.specs.declared.forms.Kind.{Kind}
use Rattle.clc_types.specs.declared.forms.Kind.TheVariants as k
use Rattle.clc_types.specs.declared.forms.Place.TheVariants.{Nowhere}
use Rattle.clc_types.specs.declared.forms.Named.{Named}
use Rattle.clc_types.specs.declared.forms.Named.TheVariants as nm
use Rattle.clc_types.specs.declared.forms.Form.{Form}
use Rattle.clc_types.specs.declared.forms.Sofar.{Sofar}
use Rattle.clc_types.specs.declared.forms.Argument.{Argument}
use Rattle.clc_types.specs.declared.forms.Signature.{Signature}
use Rattle.clc_types.specs.Judged.{Judged, Fine, Faulty, both, next, unless, Context, Part, none, one, two, leaf}
use Rattle.clc_types.specs.Words.{name_of, mark_of, value_of, is_unsigned, is_increment, type_of, type_tokens}
use Rattle.clc_types.specs.Rules.{int_or_uint, kind_of, place_of, ty_of, scalar_needed, pointer_needed, step_needs, index_needs, operator_needs, operator_of, result_of, prefix_kind, element_kind, element_place, conditional_needs, common, scalar_of, assign_needs, call_needs, call_kind, builtin_needs, work_of, gives}

-- ---- forms

abbrev pub expr_of : ℕ → Kind → Node → TExpr
expr_of a t e = roll-TExpr (record { at = a; ty = ty_of t; node = e })

-- the offset of its first byte
abbrev pub at_of : TExpr → ℕ
at_of e = (out-TExpr e).at

-- an expression that is no place
abbrev pub plain : ℕ → Kind → Node → Form
plain a t e = record { expr = expr_of a t e; kind = t; place = Nowhere }

abbrev pub number_form : Token → Form
number_form t = plain t.from (k.Value (int_or_uint (is_unsigned t))) (n.Number (value_of t))

abbrev pub variable_form : Token → ℕ → Shape → Form
variable_form t v s = record { expr = expr_of t.from (kind_of v s) (n.Name v); kind = kind_of v s; place = place_of s }

abbrev pub paren_form : Token → Form → Form
paren_form t x = record { expr = expr_of t.from x.kind (n.Paren x.expr); kind = x.kind; place = x.place }

abbrev pub element_node : Form → Form → Node
element_node x y = by x.kind
  where
    by : Kind → Node
    by (k.Array v e) = n.Element v y.expr
    by _ = n.Index x.expr y.expr

abbrev pub index_form : Form → Form → Form
index_form x y = record {
  expr = expr_of (at_of x.expr) (element_kind x.kind) (element_node x y);
  kind = element_kind x.kind;
  place = element_place x.kind x.place;
}

abbrev pub deref_form : Token → Form → Form
deref_form t x = record {
  expr = expr_of t.from (element_kind x.kind) (n.Deref x.expr);
  kind = element_kind x.kind;
  place = element_place x.kind x.place;
}

abbrev pub post_form : Token → Form → Form
post_form t x = plain (at_of x.expr) x.kind (n.Step x.expr (is_increment (mark_of t)) true)

abbrev pub step_form : Token → Form → Form
step_form t x = plain t.from x.kind (n.Step x.expr (is_increment (mark_of t)) false)

abbrev pub prefix_form : Token → Form → Form
prefix_form t x = plain t.from (prefix_kind (mark_of t) x.kind) (n.Prefix (mark_of t) x.expr)

abbrev pub cast_form : Token → Written → Form → Form
cast_form t s x = plain t.from (k.Value (type_of s)) (n.Cast x.expr)

abbrev pub first_of_chain : Form → Sofar
first_of_chain x = record { kind = x.kind; first = x.expr; rest = [] }

abbrev pub further : Mark → Sofar → Form → Sofar
further m a y = record { kind = result_of (operator_of m) a.kind y.kind; first = a.first; rest = a.rest ++ (m, y.expr) ∷ [] }

abbrev pub chain_form : Sofar → Form
chain_form a = plain (at_of a.first) a.kind (n.Chain a.first a.rest)

-- two operands, with the place of the second
pub record Couple : Type 0 where
  pub first : Form
  pub place : ℕ
  pub second : Form

abbrev pub couple : Form → ℕ → Form → Couple
couple x q y = record { first = x; place = q; second = y }

abbrev pub conditional_form : Form → Form → Form → Form
conditional_form x y z = plain (at_of x.expr) (k.Value (common (scalar_of y.kind) (scalar_of z.kind))) (n.Cond x.expr y.expr z.expr)

abbrev pub assign_form : Mark → Form → Form → Form
assign_form m x y = plain (at_of x.expr) x.kind (n.Assign x.expr m y.expr)

abbrev pub argument : ℕ → Form → Argument
argument q x = record { place = q; kind = x.kind; expr = x.expr }

abbrev pub exprs : List Argument → List TExpr
exprs xs = map (λ x. x.expr) xs

abbrev pub call_form : Token → ℕ → Option Signature → List Argument → Form
call_form t f s args = plain t.from (call_kind s) (n.Call f (exprs args))

abbrev pub builtin_form : Token → Builtin → List Argument → Form
builtin_form t f args = plain t.from (k.Value (gives f (work_of f args))) (n.Builtin f (work_of f args) (exprs args))

-- ---- names

-- S1: a name that isn't called is a variable's
abbrev pub name_at : Token → ℕ → Option Named → Judged Form
name_at t p (Some (nm.Variable v s)) = Fine (variable_form t v s)
name_at t p _ = Faulty (record { token = p; rule = S1 }) []

-- S1: a called name is a function's
abbrev pub callee_at : ℕ → Option Named → Judged Named
callee_at p (Some (nm.Function f)) = Fine (nm.Function f)
callee_at p (Some (nm.Builtin f)) = Fine (nm.Builtin f)
callee_at p _ = Faulty (record { token = p; rule = S1 }) []

abbrev pub called : Context → ℕ → Token → Named → List Argument → Judged Form
called c p t (nm.Function f) args = unless (call_needs p c.home f args) (call_form t f (slice_get c.home.functions f) args)
called c p t (nm.Builtin f) args = unless (builtin_needs p f args) (builtin_form t f args)
called c p t (nm.Variable v s) args = Faulty (record { token = p; rule = S1 }) []

-- ---- one level of a tree, with what is judged of each part in its place. Each operator of a chain is a part of its own, whose first
-- ---- operand is all that stands before it

pub record Operand : Type 0 where
  pub mark : Mark
  pub value : Part Form

-- an expression, or the arguments of a call: parts with a comma between each two
pub record Series : Type 0 where
  pub first : Part Form
  pub rest : List (Part Form)

pub data Suffix : Type 0 where
  At : Part Form → Suffix
  Stepped : Token → Suffix

pub record Choices : Type 0 where
  pub yes : Part Form
  pub no : Part Form

abbrev pub start : Part Form → Part Sofar
start a = one 0 a 0 none first_of_chain

abbrev pub operators : Part Sofar → List Operand → Part Sofar
operators a [] = a
operators a (o ∷ more) = operators (two a 1 o.value 0 (operator_needs o.mark) (λ x q y. further o.mark x y)) more

abbrev pub chain : Part Form → List Operand → Part Form
chain a more = one 0 (operators (start a) more) 0 none chain_form

abbrev pub after_comma : Part Form → Operand
after_comma x = record { mark = m.Comma; value = x }

-- an expression without a comma is its one part
abbrev pub series : Part Form → List (Part Form) → Part Form
series a [] = a
series a (x ∷ more) = chain a (map after_comma (x ∷ more))

abbrev pub further_arguments : Part (List Argument) → List (Part Form) → Part (List Argument)
further_arguments a [] = a
further_arguments a (x ∷ more) = further_arguments (two a 1 x 0 (λ p xs q y. []) (λ xs q y. xs ++ argument q y ∷ [])) more

abbrev pub first_argument : Part Form → Part (List Argument)
first_argument a = record { tokens = a.tokens; at = λ c p. next (a.at c p) (λ x. Fine (argument p x ∷ [])) }

abbrev pub no_arguments : Part (List Argument)
no_arguments = record { tokens = 0; at = λ c p. Fine [] }

abbrev pub arguments : Option Series → Part (List Argument)
arguments None = no_arguments
arguments (Some s) = further_arguments (first_argument s.first) s.rest

abbrev pub suffixes : Part Form → List Suffix → Part Form
suffixes a [] = a
suffixes a (At i ∷ more) = suffixes (two a 1 i 1 index_needs (λ x q y. index_form x y)) more
suffixes a (Stepped t ∷ more) = suffixes (one 0 a 1 (λ p q x. step_needs q x) (post_form t)) more

abbrev pub primary_part : Primary-F (Part Form) (Part Form) (Part Form) Suffix (Part Form) (Part Form) Operand Choices (Part Form) (Part Form) Series (Part Form) → Part Form
primary_part (o.Name t) = leaf (λ c p. name_at t p (c.look p (name_of t)))
primary_part (o.Number t) = leaf (λ c p. Fine (number_form t))
primary_part (o.Paren l e r) = one 1 (series e.first e.rest) 1 none (paren_form l)
primary_part (o.Call f l e r) = record {
  tokens = 3 + (arguments e).tokens;
  at = λ c p. next (both (callee_at p (c.look p (name_of f))) ((arguments e).at c (p + 2))) (λ x. called c p f x.0 x.1);
}

abbrev pub post_step_part : PostStep-F (Part Form) (Part Form) (Part Form) Suffix (Part Form) (Part Form) Operand Choices (Part Form) (Part Form) Series (Part Form) → Suffix
post_step_part (o.Index l e r) = At (series e.first e.rest)
post_step_part (o.PostStep::Step t) = Stepped t

abbrev pub post_part : Post-F (Part Form) (Part Form) (Part Form) Suffix (Part Form) (Part Form) Operand Choices (Part Form) (Part Form) Series (Part Form) → Part Form
post_part x = suffixes x.primary x.rest

abbrev pub prefixed : Token → Mark → Part Form → Part Form
prefixed t m.Star a = one 1 a 0 (λ p q x. pointer_needed q x.kind) (deref_form t)
prefixed t m a = one 1 a 0 (λ p q x. scalar_needed q x.kind) (prefix_form t)

abbrev pub unary_part : Unary-F (Part Form) (Part Form) (Part Form) Suffix (Part Form) (Part Form) Operand Choices (Part Form) (Part Form) Series (Part Form) → Part Form
unary_part (o.Post a) = a
unary_part (o.Unary::Step t a) = one 1 a 0 (λ p q x. step_needs q x) (step_form t)
unary_part (o.Prefix t a) = prefixed t (mark_of t) a

abbrev pub cast_part : Cast-F (Part Form) (Part Form) (Part Form) Suffix (Part Form) (Part Form) Operand Choices (Part Form) (Part Form) Series (Part Form) → Part Form
cast_part (o.To l s r a) = one (2 + type_tokens s) a 0 (λ p q x. scalar_needed q x.kind) (cast_form l s)
cast_part (o.Of a) = a

abbrev pub chain_part : Chain-F (Part Form) (Part Form) (Part Form) Suffix (Part Form) (Part Form) Operand Choices (Part Form) (Part Form) Series (Part Form) → Part Form
chain_part (o.One a) = a
chain_part (o.Level a more) = chain a more

abbrev pub chain_step_part : ChainStep-F (Part Form) (Part Form) (Part Form) Suffix (Part Form) (Part Form) Operand Choices (Part Form) (Part Form) Series (Part Form) → Operand
chain_step_part x = record { mark = mark_of x.operator; value = x.operand }

abbrev pub choice_part : Choice-F (Part Form) (Part Form) (Part Form) Suffix (Part Form) (Part Form) Operand Choices (Part Form) (Part Form) Series (Part Form) → Choices
choice_part x = record { yes = series x.yes.first x.yes.rest; no = x.no }

abbrev pub conditional : Part Form → Option Choices → Part Form
conditional a None = a
conditional a (Some x) =
    two (two a 1 x.yes 0 (λ p x q y. []) couple) 1 x.no 0 (λ p c r z. conditional_needs p c.first c.place c.second r z) (λ c r z. conditional_form c.first c.second z)

abbrev pub cond_part : Cond-F (Part Form) (Part Form) (Part Form) Suffix (Part Form) (Part Form) Operand Choices (Part Form) (Part Form) Series (Part Form) → Part Form
cond_part x = conditional x.test x.choice

abbrev pub assign_part : Assign-F (Part Form) (Part Form) (Part Form) Suffix (Part Form) (Part Form) Operand Choices (Part Form) (Part Form) Series (Part Form) → Part Form
assign_part (o.Cond a) = a
assign_part (o.Set a t b) = two a 1 b 0 (assign_needs (mark_of t)) (λ x q y. assign_form (mark_of t) x y)

abbrev pub comma_step_part : CommaStep-F (Part Form) (Part Form) (Part Form) Suffix (Part Form) (Part Form) Operand Choices (Part Form) (Part Form) Series (Part Form) → Part Form
comma_step_part x = x.value

abbrev pub expr_part : Expr-F (Part Form) (Part Form) (Part Form) Suffix (Part Form) (Part Form) Operand Choices (Part Form) (Part Form) Series (Part Form) → Series
expr_part x = record { first = x.first; rest = x.rest }

-- ---- whole trees

abbrev pub judge_assign : Assign → Part Form
judge_assign = fold-Assign (Part Form) (Part Form) (Part Form) Suffix (Part Form) (Part Form) Operand Choices (Part Form) (Part Form) Series (Part Form) assign_part cast_part chain_part post_step_part primary_part unary_part chain_step_part choice_part comma_step_part cond_part expr_part post_part

abbrev pub judge_series : Expr → Series
judge_series = fold-Expr (Part Form) (Part Form) (Part Form) Suffix (Part Form) (Part Form) Operand Choices (Part Form) (Part Form) Series (Part Form) assign_part cast_part chain_part post_step_part primary_part unary_part chain_step_part choice_part comma_step_part cond_part expr_part post_part

abbrev pub judge : Expr → Part Form
judge e = series (judge_series e).first (judge_series e).rest
