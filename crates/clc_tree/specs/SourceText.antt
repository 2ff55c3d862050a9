-- Proper trees, and the tree of a list of tokens.
use Rattle.std.specs.Prelude.{◌≡◌, List}
use Rattle.clc_reading.specs.Reading.{Spelling, tokens_of}
use Rattle.clc_lexer.specs.declared.token.Token.{Token}
use Rattle.clc_tree.specs.declared.functions.Tree.{Tree}
use Rattle.clc_tree.specs.Programs.{IsTree}
use Rattle.clc_tree.specs.Flat.{flat_of}

-- each token is one that its place in the grammar takes, and levels and each `else` stand as the grammar asks
abbrev pub IsProper : Tree → Type 0
IsProper tree = (spelling : Spelling Token) × IsTree tree spelling

-- the tree of a list of tokens
abbrev pub IsTreeOf : Tree → List Token → Type 0
IsTreeOf tree tokens = IsProper tree × (flat_of tree ≡ tokens)

-- a list of tokens has one tree at most
abbrev pub HasOneTree : Type 0
HasOneTree = (a b : Tree) (tokens : List Token) → IsTreeOf a tokens → IsTreeOf b tokens → a ≡ b

-- a proper tree is spelled with its own tokens
abbrev pub IsSpelledFlat : Type 0
IsSpelledFlat = (tree : Tree) (spelling : Spelling Token) → IsTree tree spelling → tokens_of spelling ≡ flat_of tree
