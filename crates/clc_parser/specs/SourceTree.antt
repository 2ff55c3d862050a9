-- What a list of tokens says: the program that it spells, or its first fault in the grammar.
use Rattle.std.specs.Prelude.{◌≡◌, ◌⊎◌, ℕ, List, ◌++◌, length}
use Rattle.clc_reading.specs.Reading.{Spelling, tokens_of, AllBelow, Language, Reason, Wrong, Deep}
use Rattle.clc_reading.specs.Verdict.{IsFault}
use Rattle.clc_lexer.specs.declared.token.Token.{Token}
use Rattle.clc_tree.specs.Programs.{IsTree}
use Rattle.clc_tree.specs.declared.functions.Tree.{Tree}
use Rattle.clc_parser.specs.declared.tokens.Stop.{Stop}
use Rattle.clc_parser.specs.declared.tokens.Stop.TheVariants as stop
use Rattle.clc_parser.specs.declared.GramFault.{GramFault}
use Rattle.clc_parser.specs.declared.GramFault.TheVariants.{G1, G2, Memory}

-- the trees of programs, and how each is spelled
abbrev pub programs : Language Token Tree
programs = record { spells = IsTree; halts = λ tree rest. Unit {0} }

-- the tree is proper, its tokens in order are these, and each lies at a depth below n
abbrev pub IsText : ℕ → Tree → List Token → Type 0
IsText n tree tokens = (spelling : Spelling Token) × IsTree tree spelling × (tokens_of spelling ≡ tokens) × AllBelow n spelling

-- the first fault stands before the rest of the tokens after the first k
abbrev pub FaultAt : ℕ → Reason → ℕ → List Token → Type 0
FaultAt n reason k tokens =
    (before : List Token) × (left : List Token) × (tokens ≡ before ++ left) × (length before ≡ k) × IsFault n programs reason before left

abbrev pub IsFirstFault : ℕ → GramFault → List Token → Type 0
IsFirstFault n (G1 k) tokens = FaultAt n Wrong k tokens
IsFirstFault n (G2 k) tokens = FaultAt n Deep k tokens
IsFirstFault n Memory tokens = Unit {0}

-- A list of tokens is a text or has a first fault, not both, and it has one first fault at most.
pub record HasOneAnswer : Type 0 where
  pub some : (n : ℕ) (tokens : List Token) → ((tree : Tree) × IsText n tree tokens) ⊎ ((reason : Reason) × (k : ℕ) × FaultAt n reason k tokens)
  pub apart : (n : ℕ) (tree : Tree) (reason : Reason) (k : ℕ) (tokens : List Token) → IsText n tree tokens → FaultAt n reason k tokens → ⊥
  pub first : (n : ℕ) (reason other : Reason) (j k : ℕ) (tokens : List Token) → FaultAt n reason j tokens → FaultAt n other k tokens → (reason ≡ other) × (j ≡ k)

-- the fault where reading stops before token k
abbrev pub fault_at : Stop → ℕ → GramFault
fault_at stop.Wrong k = G1 k
fault_at stop.Deep k = G2 k
fault_at stop.Memory k = Memory
