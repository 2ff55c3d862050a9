-- The grammar of declarations and statements (C99, 6.7 and 6.8): which trees are proper, and their tokens with the depth of each.
use Rattle.std.specs.Prelude.{◌≡◌, Bool, true, false, List, [], ◌∷◌, ◌++◌, Option, Some, None}
use Rattle.clc_reading.specs.Reading.{Spelling, deeper}
use Rattle.clc_lexer.specs.declared.token.Token.{Token}
use Rattle.clc_tree.specs.Kinds.{is}
use Rattle.clc_tree.specs.declared.kinds.Kind.{Kind}
use Rattle.clc_tree.specs.declared.kinds.Kind.TheVariants as k
use Rattle.clc_tree.specs.Expressions.{IsScalar, IsExpr, IsAssign}
use Rattle.clc_tree.specs.declared.expressions.Scalar.{Scalar}
use Rattle.clc_tree.specs.declared.expressions.Expr.{Expr}
use Rattle.clc_tree.specs.declared.expressions.Assign.{Assign}
use Rattle.clc_tree.specs.declared.statements.Pointer.{Pointer}
use Rattle.clc_tree.specs.declared.statements.Init.{Init}
use Rattle.clc_tree.specs.declared.statements.Item.{Item}
use Rattle.clc_tree.specs.declared.statements.Item.TheVariants as item
use Rattle.clc_tree.specs.declared.statements.ItemStep.{ItemStep}
use Rattle.clc_tree.specs.declared.statements.Declare.{Declare}
use Rattle.clc_tree.specs.declared.statements.Declare.TheVariants as declare
use Rattle.clc_tree.specs.declared.statements.ForStart.{ForStart}
use Rattle.clc_tree.specs.declared.statements.ForStart.TheVariants as start
use Rattle.clc_tree.specs.declared.statements.Block.{Block, roll-Block}
use Rattle.clc_tree.specs.declared.statements.BlockPart.{BlockPart}
use Rattle.clc_tree.specs.declared.statements.BlockPart.TheVariants as part
use Rattle.clc_tree.specs.declared.statements.Else.{Else, roll-Else}
use Rattle.clc_tree.specs.declared.statements.If.{roll-If}
use Rattle.clc_tree.specs.declared.statements.While.{roll-While}
use Rattle.clc_tree.specs.declared.statements.Do.{roll-Do}
use Rattle.clc_tree.specs.declared.statements.For.{roll-For}
use Rattle.clc_tree.specs.declared.statements.Stmt.{Stmt}
use Rattle.clc_tree.specs.declared.statements.Stmt.TheVariants as stmt

-- ---- values made of their parts

abbrev pub pointer_of : Option Token → Token → Option Token → Scalar → Token → Option Token → Option Token → Pointer
pointer_of c s d e x o r =
    record { outer_const = c; space = s; inner_const = d; element = e; star = x; own_const = o; restrict = r }

abbrev pub init_of : Token → Assign → Init
init_of e a = record { equals = e; value = a }

abbrev pub item_step : Token → Item → ItemStep
item_step t i = record { comma = t; item = i }

abbrev pub block_of : Token → List BlockPart → Token → Block
block_of l parts r = roll-Block (record { opening = l; parts = parts; closing = r })

abbrev pub else_of : Token → Stmt → Else
else_of w x = roll-Else (record { word = w; body = x })

abbrev pub if_of : Token → Token → Expr → Token → Stmt → Option Else → Stmt
if_of w l e r x y = stmt.If (roll-If (record { word = w; opening = l; test = e; closing = r; body = x; other = y }))

abbrev pub while_of : Token → Token → Expr → Token → Stmt → Stmt
while_of w l e r x = stmt.While (roll-While (record { word = w; opening = l; test = e; closing = r; body = x }))

abbrev pub do_of : Token → Stmt → Token → Token → Expr → Token → Token → Stmt
do_of w x u l e r t = stmt.Do (roll-Do (record { word = w; body = x; until = u; opening = l; test = e; closing = r; end = t }))

abbrev pub for_of : Token → Token → ForStart → Option Expr → Token → Option Expr → Token → Stmt → Stmt
for_of w l i e t s r x = stmt.For (roll-For (record { word = w; opening = l; start = i; test = e; middle = t; step = s; closing = r; body = x }))

-- ---- declarations

-- a token of a kind, or none
pub data IsOptional : Kind → Option Token → Spelling Token → Type 0 where
  absent : (f : Kind) → IsOptional f None []
  present : (f : Kind) (t : Token) → is f t ≡ true → IsOptional f (Some t) ((t, 0) ∷ [])

pub data IsPointer : Pointer → Spelling Token → Type 0 where
  pointer : (c : Option Token) (s : Token) (d : Option Token) (e : Scalar) (x : Token) (o r : Option Token) (m n p q w : Spelling Token)
      → IsOptional k.Const c m → is k.Space s ≡ true → IsOptional k.Const d n → IsScalar e p → is k.Star x ≡ true
      → IsOptional k.Const o q → IsOptional k.Restrict r w
      → IsPointer (pointer_of c s d e x o r) (m ++ (s, 0) ∷ (n ++ (p ++ (x, 0) ∷ (q ++ w))))

pub data IsInit : Option Init → Spelling Token → Type 0 where
  no_init : IsInit None []
  init : (e : Token) (a : Assign) (m : Spelling Token) → is k.Equals e ≡ true → IsAssign a m → IsInit (Some (init_of e a)) ((e, 0) ∷ m)

pub data IsItem : Item → Spelling Token → Type 0 where
  array : (t l v r : Token) → is k.Name t ≡ true → is k.LeftBracket l ≡ true → is k.Number v ≡ true → is k.RightBracket r ≡ true
      → IsItem (item.Array t l v r) ((t, 0) ∷ (l, 0) ∷ (v, 1) ∷ (r, 0) ∷ [])
  variable : (t : Token) (i : Option Init) (m : Spelling Token) → is k.Name t ≡ true → IsInit i m → IsItem (item.Value t i) ((t, 0) ∷ m)

pub data AreItems : List ItemStep → Spelling Token → Type 0 where
  no_item : AreItems [] []
  one_item : (t : Token) (i : Item) (more : List ItemStep) (m n : Spelling Token) → is k.Comma t ≡ true → IsItem i m → AreItems more n
      → AreItems (item_step t i ∷ more) ((t, 0) ∷ (m ++ n))

pub data IsDeclare : Declare → Spelling Token → Type 0 where
  values : (c : Option Token) (s : Scalar) (i : Item) (more : List ItemStep) (e : Token) (m n o p : Spelling Token)
      → IsOptional k.Const c m → IsScalar s n → IsItem i o → AreItems more p → is k.Semicolon e ≡ true
      → IsDeclare (declare.Values c s i more e) (m ++ (n ++ (o ++ (p ++ (e, 0) ∷ []))))
  pointers : (x : Pointer) (t : Token) (i : Option Init) (e : Token) (m n : Spelling Token)
      → IsPointer x m → is k.Name t ≡ true → IsInit i n → is k.Semicolon e ≡ true
      → IsDeclare (declare.Pointer x t i e) (m ++ (t, 0) ∷ (n ++ (e, 0) ∷ []))

-- ---- statements

-- an expression, or none
pub data IsMaybe : Option Expr → Spelling Token → Type 0 where
  nothing : IsMaybe None []
  some : (e : Expr) (m : Spelling Token) → IsExpr e m → IsMaybe (Some e) m

pub data IsForStart : ForStart → Spelling Token → Type 0 where
  declares : (d : Declare) (m : Spelling Token) → IsDeclare d m → IsForStart (start.Declare d) m
  evaluates : (e : Option Expr) (t : Token) (m : Spelling Token) → IsMaybe e m → is k.Semicolon t ≡ true → IsForStart (start.Eval e t) (m ++ (t, 0) ∷ [])

mutual
  pub data IsBlock : Block → Spelling Token → Type 0 where
    block : (l r : Token) (all : List BlockPart) (m : Spelling Token) → is k.LeftBrace l ≡ true → AreParts all m → is k.RightBrace r ≡ true
        → IsBlock (block_of l all r) ((l, 0) ∷ (deeper m ++ (r, 0) ∷ []))

  pub data AreParts : List BlockPart → Spelling Token → Type 0 where
    no_part : AreParts [] []
    one_part : (x : BlockPart) (all : List BlockPart) (m n : Spelling Token) → IsPart x m → AreParts all n → AreParts (x ∷ all) (m ++ n)

  pub data IsPart : BlockPart → Spelling Token → Type 0 where
    declaration : (d : Declare) (m : Spelling Token) → IsDeclare d m → IsPart (part.Declare d) m
    statement : (b : Bool) (x : Stmt) (m : Spelling Token) → IsStmt b x m → IsPart (part.Stmt x) m

  -- the truth value says that the statement could take an `else` at its end
  pub data IsStmt : Bool → Stmt → Spelling Token → Type 0 where
    compound : (x : Block) (m : Spelling Token) → IsBlock x m → IsStmt false (stmt.Block x) m
    eval : (e : Expr) (t : Token) (m : Spelling Token) → IsExpr e m → is k.Semicolon t ≡ true → IsStmt false (stmt.Eval e t) (m ++ (t, 0) ∷ [])
    empty : (t : Token) → is k.Semicolon t ≡ true → IsStmt false (stmt.Empty t) ((t, 0) ∷ [])
    when : (w l : Token) (e : Expr) (r : Token) (b : Bool) (x : Stmt) (m n : Spelling Token)
        → is k.If w ≡ true → is k.LeftParen l ≡ true → IsExpr e m → is k.RightParen r ≡ true → IsStmt b x n
        → IsStmt true (if_of w l e r x None) ((w, 0) ∷ (l, 0) ∷ (deeper m ++ (r, 0) ∷ deeper n))
    -- the statement before an `else` takes none itself, so that the `else` belongs to the nearest `if` that can take it
    choose : (w l : Token) (e : Expr) (r : Token) (x : Stmt) (o : Token) (b : Bool) (y : Stmt) (m n p : Spelling Token)
        → is k.If w ≡ true → is k.LeftParen l ≡ true → IsExpr e m → is k.RightParen r ≡ true → IsStmt false x n → is k.Else o ≡ true → IsStmt b y p
        → IsStmt b (if_of w l e r x (Some (else_of o y))) ((w, 0) ∷ (l, 0) ∷ (deeper m ++ (r, 0) ∷ (deeper n ++ (o, 0) ∷ deeper p)))
    loop : (w l : Token) (e : Expr) (r : Token) (b : Bool) (x : Stmt) (m n : Spelling Token)
        → is k.While w ≡ true → is k.LeftParen l ≡ true → IsExpr e m → is k.RightParen r ≡ true → IsStmt b x n
        → IsStmt b (while_of w l e r x) ((w, 0) ∷ (l, 0) ∷ (deeper m ++ (r, 0) ∷ deeper n))
    until : (w : Token) (b : Bool) (x : Stmt) (u l : Token) (e : Expr) (r t : Token) (m n : Spelling Token)
        → is k.Do w ≡ true → IsStmt b x m → is k.While u ≡ true → is k.LeftParen l ≡ true → IsExpr e n → is k.RightParen r ≡ true → is k.Semicolon t ≡ true
        → IsStmt false (do_of w x u l e r t) ((w, 0) ∷ (deeper m ++ (u, 0) ∷ (l, 0) ∷ (deeper n ++ (r, 0) ∷ (t, 0) ∷ [])))
    count : (w l : Token) (i : ForStart) (e : Option Expr) (t : Token) (s : Option Expr) (r : Token) (b : Bool) (x : Stmt) (m n o p : Spelling Token)
        → is k.For w ≡ true → is k.LeftParen l ≡ true → IsForStart i m → IsMaybe e n → is k.Semicolon t ≡ true → IsMaybe s o → is k.RightParen r ≡ true
        → IsStmt b x p
        → IsStmt b (for_of w l i e t s r x) ((w, 0) ∷ (l, 0) ∷ (deeper (m ++ (n ++ (t, 0) ∷ o)) ++ (r, 0) ∷ deeper p))
    break : (w t : Token) → is k.Break w ≡ true → is k.Semicolon t ≡ true → IsStmt false (stmt.Break w t) ((w, 0) ∷ (t, 0) ∷ [])
    continue : (w t : Token) → is k.Continue w ≡ true → is k.Semicolon t ≡ true → IsStmt false (stmt.Continue w t) ((w, 0) ∷ (t, 0) ∷ [])
    return : (w : Token) (e : Option Expr) (t : Token) (m : Spelling Token) → is k.Return w ≡ true → IsMaybe e m → is k.Semicolon t ≡ true
        → IsStmt false (stmt.Return w e t) ((w, 0) ∷ (m ++ (t, 0) ∷ []))
