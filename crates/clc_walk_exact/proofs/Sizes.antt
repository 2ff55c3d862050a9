-- The tokens that are counted of each part of an expression are those of its text.
use Rattle.std.proofs.Common.{◌≡◌, ℕ, suc, ◌+◌, List, [], ◌∷◌, ◌++◌, Option, Some, None, refl, sym, ap, ◌∙◌, length, length-append, arith}
use Rattle.std.specs.Prelude.{map}
use Rattle.clc_lexer.specs.declared.token.Token.{Token}
use Rattle.clc_tree.specs.declared.expressions.Scalar.{Scalar as Written}
use Rattle.clc_tree.specs.declared.expressions.Scalar.TheVariants as written
use Rattle.clc_tree.specs.Flat.{Tokens, joined, optional_tokens, maybe_tokens, scalar_tokens}
use Rattle.clc_types.specs.declared.forms.Form.{Form}
use Rattle.clc_types.specs.declared.forms.Sofar.{Sofar}
use Rattle.clc_types.specs.declared.forms.Argument.{Argument}
use Rattle.clc_types.specs.Judged.{Part, none, one, two}
use Rattle.clc_types.specs.Words.{one_if, type_tokens, mark_of}
use Rattle.clc_types.specs.Rules.{operator_needs, index_needs, step_needs}
use Rattle.clc_types.specs.Typing.{Operand, Series, Suffix, At, Stepped, Choices, further, chain_form, index_form, post_form, argument, start, operators, chain, after_comma, series, further_arguments, first_argument, arguments, suffixes, conditional}

pub joined_length : (xs : List Tokens) (t : Tokens) → length (joined (t ∷ xs)) ≡ length t + length (joined xs)
joined_length xs t = length-append t (joined xs)

pub optional_length : (t : Option Token) → one_if t ≡ length (optional_tokens t)
optional_length None = refl
optional_length (Some t) = refl

pub type_length : (s : Written) → type_tokens s ≡ length (scalar_tokens s)
type_length (written.Plain t) = refl
type_length (written.Signed t u) = ap suc (optional_length u)

-- ---- lists of parts

abbrev pub rest_size : List (Part Form) → ℕ
rest_size [] = 0
rest_size (x ∷ xs) = suc x.tokens + rest_size xs

abbrev pub series_size : Series → ℕ
series_size s = s.first.tokens + rest_size s.rest

abbrev pub operand_size : List Operand → ℕ
operand_size [] = 0
operand_size (x ∷ xs) = suc x.value.tokens + operand_size xs

abbrev pub suffix_size : Suffix → ℕ
suffix_size (At a) = a.tokens + 2
suffix_size (Stepped t) = 1

abbrev pub suffixes_size : List Suffix → ℕ
suffixes_size [] = 0
suffixes_size (x ∷ xs) = suffix_size x + suffixes_size xs

operators_tokens : (xs : List Operand) (a : Part Sofar) → (operators a xs).tokens ≡ a.tokens + operand_size xs
operators_tokens [] a = omega arith
operators_tokens (x ∷ xs) a = operators_tokens xs (two a 1 x.value 0 (operator_needs x.mark) (λ y q z. further x.mark y z)) ∙ omega arith

pub chain_tokens : (a : Part Form) (xs : List Operand) → (chain a xs).tokens ≡ a.tokens + operand_size xs
chain_tokens a xs = let h = operators_tokens xs (start a) in omega (arith, h)

with_commas : (xs : List (Part Form)) → operand_size (map after_comma xs) ≡ rest_size xs
with_commas [] = refl
with_commas (x ∷ xs) = ap (λ n. suc x.tokens + n) (with_commas xs)

pub series_tokens : (a : Part Form) (xs : List (Part Form)) → (series a xs).tokens ≡ a.tokens + rest_size xs
series_tokens a [] = omega arith
series_tokens a (x ∷ xs) = chain_tokens a (map after_comma (x ∷ xs)) ∙ ap (λ n. a.tokens + n) (with_commas (x ∷ xs))

further_tokens : (xs : List (Part Form)) (a : Part (List Argument)) → (further_arguments a xs).tokens ≡ a.tokens + rest_size xs
further_tokens [] a = omega arith
further_tokens (x ∷ xs) a = further_tokens xs (two a 1 x 0 (λ p ys q y. []) (λ ys q y. ys ++ argument q y ∷ [])) ∙ omega arith

pub arguments_tokens : (s : Series) → (arguments (Some s)).tokens ≡ series_size s
arguments_tokens s = further_tokens s.rest (first_argument s.first)

pub suffixes_tokens : (xs : List Suffix) (a : Part Form) → (suffixes a xs).tokens ≡ a.tokens + suffixes_size xs
suffixes_tokens [] a = omega arith
suffixes_tokens (At i ∷ xs) a = suffixes_tokens xs (two a 1 i 1 index_needs (λ x q y. index_form x y)) ∙ omega arith
suffixes_tokens (Stepped t ∷ xs) a = suffixes_tokens xs (one 0 a 1 (λ p q x. step_needs q x) (post_form t)) ∙ omega arith

pub conditional_tokens : (a : Part Form) (x : Choices) → (conditional a (Some x)).tokens ≡ a.tokens + (2 + x.yes.tokens + x.no.tokens)
conditional_tokens a x = omega arith
