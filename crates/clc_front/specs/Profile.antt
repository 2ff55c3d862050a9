-- Which sources have a kernel of a name, and the rule that another one violates first. OpenCL C 1.2, section 6: the tokens, the grammar and the typing
-- rules are those of the front end's crates. The classes of rules and their order are this project's own.
use Rattle.std.specs.Prelude.{◌≡◌, ℕ, zero, suc, ◌<◌, ◌≤◌, List, [], ◌∷◌, length, slice_get, Some, None}
use Rattle.clc_lexer.specs.declared.token.Token.{Token}
use Rattle.clc_lexer.specs.declared.token.LexRule.{LexRule}
use Rattle.clc_lexer.specs.declared.token.LexRule.TheVariants as lex
use Rattle.clc_lexer.specs.SourceText.{IsLexed, IsFirstFault, HasNoFault}
use Rattle.clc_reading.specs.Reading.{Reason, Wrong, Deep}
use Rattle.clc_tree.specs.declared.functions.Tree.{Tree}
use Rattle.clc_parser.specs.SourceTree.{IsText, FaultAt}
use Rattle.clc_types.specs.declared.forms.Fault.{Fault}
use Rattle.clc_types.specs.declared.type_rule.TypeRule.{TypeRule}
use Rattle.clc_types.specs.declared.type_rule.TypeRule.TheVariants as t
use Rattle.clc_types.specs.declared.typed.TFunction.{TFunction}
use Rattle.clc_types.specs.Judged.{Fine, Faulty, IsLeast}
use Rattle.clc_types.specs.Programs.{program, kernel_of}
use Rattle.clc_counts.specs.Counts.{tally_of}
use Rattle.clc_counts.specs.Limits.{IsWithin}
use Rattle.promise.specs.declared.refusal.SourceRule.{SourceRule}
use Rattle.promise.specs.declared.refusal.SourceRule.TheVariants.{L1, L2, L3, L4, L5, G1, G2, S1, S2, S3, S4, S5, S6, S7, S8, S9, S10, S11, S12, S13, S14, K1, N1, N2}

-- ---- the rules under their names here

abbrev pub lexical_rule : LexRule → SourceRule
lexical_rule lex.L1 = L1
lexical_rule lex.L2 = L2
lexical_rule lex.L3 = L3
lexical_rule lex.L4 = L4
lexical_rule lex.L5 = L5

abbrev pub grammar_rule : Reason → SourceRule
grammar_rule Wrong = G1
grammar_rule Deep = G2

abbrev pub typing_rule : TypeRule → SourceRule
typing_rule t.S1 = S1
typing_rule t.S2 = S2
typing_rule t.S3 = S3
typing_rule t.S4 = S4
typing_rule t.S5 = S5
typing_rule t.S6 = S6
typing_rule t.S7 = S7
typing_rule t.S8 = S8
typing_rule t.S9 = S9
typing_rule t.S10 = S10
typing_rule t.S11 = S11
typing_rule t.S12 = S12
typing_rule t.S13 = S13
typing_rule t.S14 = S14

-- ---- sources and their programs

-- the offset of token k's first byte, or of the end of the source where the tokens end before it
abbrev pub place_of : (source : List ℕ) → List Token → (k : ℕ) → ℕ
place_of source [] k = length source
place_of source (t ∷ ts) zero = t.from
place_of source (t ∷ ts) (suc k) = place_of source ts k

-- no rule on bytes is violated, and these are the tokens
pub record IsSpelled (source : List ℕ) (tokens : List Token) : Type 0 where
  pub lexed : IsLexed source tokens
  pub lawful : HasNoFault source

-- the tokens are those of this program, in which none lies at a depth above 64
pub record IsProgram (source : List ℕ) (tokens : List Token) (tree : Tree) : Type 0 where
  pub spelled : IsSpelled source tokens
  pub text : IsText 65 tree tokens

-- the program violates no typing rule, and these are the functions of its typed tree
pub record IsTyped (source : List ℕ) (functions : List TFunction) : Type 0 where
  pub tokens : List Token
  pub tree : Tree
  pub is_program : IsProgram source tokens tree
  pub fine : program tree ≡ Fine functions

-- no rule is violated for a kernel of that name: these are the functions of the typed tree, and the kernel stands at this place among them, within
-- the limits of its nodes and of the elements of its private arrays
pub record HasKernel (source kernel : List ℕ) (functions : List TFunction) (number : ℕ) : Type 0 where
  pub is_typed : IsTyped source functions
  pub named : kernel_of 0 functions kernel ≡ Some number
  pub there : number < length functions
  pub within : IsWithin (tally_of functions number)

-- the kernel of this number, each call counted with the called body, has more nodes than a kernel may have; or else its private arrays, counted in the
-- same way, have more elements
pub data IsOverLimit (functions : List TFunction) (number : ℕ) : SourceRule → Type 0 where
  nodes : 16384 < (tally_of functions number).nodes → IsOverLimit functions number N1
  elements : (tally_of functions number).nodes ≤ 16384 → 1024 < (tally_of functions number).elements → IsOverLimit functions number N2

-- its name begins at this offset
pub record IsNameOf (functions : List TFunction) (number : ℕ) (at : ℕ) : Type 0 where
  pub function : TFunction
  pub there : slice_get functions number ≡ Some function
  pub place : at ≡ function.at

-- so it violates this rule at its name
pub record IsTooLarge (functions : List TFunction) (number : ℕ) (rule : SourceRule) (at : ℕ) : Type 0 where
  pub name : IsNameOf functions number at
  pub over : IsOverLimit functions number rule

-- The first violated rule and its offset. Rules on bytes come first, then those of the grammar, the typing rules, the name of the kernel and its size; of
-- one class the first is that of the class
pub data IsFirstViolation (source kernel : List ℕ) : SourceRule → ℕ → Type 0 where
  bytes : (rule : LexRule) (at : ℕ) → IsFirstFault source rule at → IsFirstViolation source kernel (lexical_rule rule) at
  grammar : (tokens : List Token) (reason : Reason) (k : ℕ) → IsSpelled source tokens → FaultAt 65 reason k tokens
      → IsFirstViolation source kernel (grammar_rule reason) (place_of source tokens k)
  typing : (tokens : List Token) (tree : Tree) (one : Fault) (more : List Fault) (first : Fault) → IsProgram source tokens tree
      → program tree ≡ Faulty one more → IsLeast first (one ∷ more) → IsFirstViolation source kernel (typing_rule first.rule) (place_of source tokens first.token)
  no_kernel : (functions : List TFunction) → IsTyped source functions → kernel_of 0 functions kernel ≡ None → IsFirstViolation source kernel K1 0
  too_large : (functions : List TFunction) (number : ℕ) (rule : SourceRule) (at : ℕ) → IsTyped source functions → kernel_of 0 functions kernel ≡ Some number
      → IsTooLarge functions number rule at → IsFirstViolation source kernel rule at
