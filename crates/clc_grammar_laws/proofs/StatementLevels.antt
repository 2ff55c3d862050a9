-- The readers of declarations and statements are exact at every depth.
use Rattle.std.proofs.Common.{◌≡◌, ◌⊎◌, inl, inr, ℕ, zero, suc, Bool, true, false, cond, [], ◌∷◌, Some, None, refl}
use Rattle.clc_reading.specs.Reading.{Spelling}
use Rattle.clc_reading.proofs.Exact.{Exact, deny_exact, LoopLaws}
use Rattle.clc_lexer.specs.declared.token.Token.{Token}
use Rattle.clc_lexer.specs.declared.marks.Mark.TheVariants as m
use Rattle.clc_lexer.specs.declared.words.Word.TheVariants as w
use Rattle.clc_tree.specs.Kinds.{takes, is}
use Rattle.clc_tree.specs.declared.kinds.Kind.TheVariants as k
use Rattle.clc_tree.specs.Expressions.{IsScalar, IsExpr, plain, alone}
use Rattle.clc_tree.specs.Statements as g
use Rattle.clc_tree.specs.StatementRules as r
use Rattle.clc_grammar_laws.proofs.Facts.{Test, of, within_of}
use Rattle.clc_grammar_laws.proofs.Readers.{a_name, a_mark, a_word}
use Rattle.clc_grammar_laws.proofs.ExpressionLevels.{begins, all_of, named}
use Rattle.clc_grammar_laws.proofs.DeclarationsExact.{declare_lang, declare_exact}
use Rattle.clc_grammar_laws.proofs.StatementsExact.{stmt_lang, stmt_exact, declare_starts, stmt_starts, parts_turns}
use Rattle.clc_tree.specs.declared.expressions.Scalar.{Scalar}
use Rattle.clc_tree.specs.declared.expressions.Scalar.TheVariants.{Plain, Signed}
use Rattle.clc_tree.specs.declared.expressions.Expr.{Expr}
use Rattle.clc_tree.specs.declared.statements.Declare.{Declare}
use Rattle.clc_tree.specs.declared.statements.Item.TheVariants as item
use Rattle.clc_tree.specs.declared.statements.Stmt.TheVariants as stmt

-- the first test that a class passes, of two
abbrev pub or : Test → Test → Test
or f g c = cond (f c) true (g c)

pub either : (f g : Test) → (t : Token) → of (or f g) t ≡ true → (of f t ≡ true) ⊎ (of g t ≡ true)
either f g t h = either_at (of f t) (of g t) h
  where
    either_at : (a b : Bool) → cond a true b ≡ true → (a ≡ true) ⊎ (b ≡ true)
    either_at true b h = inl refl
    either_at false b h = inr h

abbrev a_semicolon : Token
a_semicolon = a_mark m.Semicolon

abbrev an_int : Scalar
an_int = Plain (a_word w.Int)

int_is : IsScalar an_int ((a_word w.Int, 0) ∷ [])
int_is = plain (a_word w.Int) refl

-- ---- a token that may begin a declaration begins one

Begun : Token → Type 0
Begun t = (v : Declare) × (e : ℕ) × (more : Spelling Token) × g.IsDeclare v ((t, e) ∷ more)

scalar_begins : (t : Token) (s : Scalar) → IsScalar s ((t, 0) ∷ []) → Begun t
unfolding Begun
scalar_begins t s h =
    (_, 0, _, g.values None s (item.Value a_name None) [] a_semicolon [] ((t, 0) ∷ []) ((a_name, 0) ∷ []) [] (g.absent k.Const) h (g.variable a_name None [] refl g.no_init) g.no_item refl)

const_begins : (t : Token) → is k.Const t ≡ true → Begun t
unfolding Begun
const_begins t h =
    (_, 0, _, g.values (Some t) an_int (item.Value a_name None) [] a_semicolon ((t, 0) ∷ []) ((a_word w.Int, 0) ∷ []) ((a_name, 0) ∷ []) [] (g.present k.Const t h) int_is (g.variable a_name None [] refl g.no_init) g.no_item refl)

space_begins : (t : Token) → is k.Space t ≡ true → Begun t
unfolding Begun
space_begins t h = (
  _,
  0,
  _,
  g.pointers _ a_name None a_semicolon _ []
      (g.pointer None t None an_int (a_mark m.Star) None None [] [] ((a_word w.Int, 0) ∷ []) [] [] (g.absent k.Const) h (g.absent k.Const) int_is refl (g.absent k.Const) (g.absent k.Restrict))
      refl g.no_init refl,
)

begun_by : (t : Token) → (is k.Const t ≡ true) ⊎ ((is k.Space t ≡ true) ⊎ ((is k.PlainWord t ≡ true) ⊎ (is k.SignWord t ≡ true))) → Begun t
begun_by t (inl h) = const_begins t h
begun_by t (inr (inl h)) = space_begins t h
begun_by t (inr (inr (inl h))) = scalar_begins t (Plain t) (plain t h)
begun_by t (inr (inr (inr h))) = scalar_begins t (Signed t None) (alone t h)

declare_begins : (t : Token) → is k.DeclareStart t ≡ true → Begun t
declare_begins t h = first (either (takes k.Const) (or (takes k.Space) (or (takes k.PlainWord) (takes k.SignWord))) t
    (within_of (takes k.DeclareStart) (or (takes k.Const) (or (takes k.Space) (or (takes k.PlainWord) (takes k.SignWord)))) refl t h))
  where
    third : (of (or (takes k.PlainWord) (takes k.SignWord)) t ≡ true) → Begun t
    third i = begun_by t (inr (inr (either (takes k.PlainWord) (takes k.SignWord) t i)))

    second : (is k.Space t ≡ true) ⊎ (of (or (takes k.PlainWord) (takes k.SignWord)) t ≡ true) → Begun t
    second (inl i) = begun_by t (inr (inl i))
    second (inr i) = third i

    first : (is k.Const t ≡ true) ⊎ (of (or (takes k.Space) (or (takes k.PlainWord) (takes k.SignWord))) t ≡ true) → Begun t
    first (inl i) = begun_by t (inl i)
    first (inr i) = second (either (takes k.Space) (or (takes k.PlainWord) (takes k.SignWord)) t i)

-- ---- a token that may begin a statement begins one

Started : Token → Type 0
Started t = (v : r.Read) × (e : ℕ) × (more : Spelling Token) × g.IsStmt v.1 v.0 ((t, e) ∷ more)

expr_begins : (t : Token) → is k.ExprStart t ≡ true → (e : Expr) × (more : Spelling Token) × IsExpr e ((t, 0) ∷ more)
expr_begins t h = let u = begins t h in let x = all_of u.0 _ u.2 in (x.3.0, u.1, x.3.1)

any_expr : (e : Expr) × IsExpr e ((a_name, 0) ∷ [])
any_expr = (all_of named.0 _ named.1).3

empty_is : g.IsStmt false (stmt.Empty a_semicolon) ((a_semicolon, 0) ∷ [])
empty_is = g.empty a_semicolon refl

start_expr : (t : Token) → is k.ExprStart t ≡ true → Started t
unfolding Started
start_expr t h = let x = expr_begins t h in ((_, false), 0, _, g.eval x.0 a_semicolon ((t, 0) ∷ x.1) x.2 refl)

start_block : (t : Token) → is k.LeftBrace t ≡ true → Started t
unfolding Started
start_block t h = ((_, false), 0, _, g.compound _ _ (g.block t (a_mark m.RightBrace) [] [] h g.no_part refl))

start_empty : (t : Token) → is k.Semicolon t ≡ true → Started t
unfolding Started
start_empty t h = ((_, false), 0, _, g.empty t h)

start_if : (t : Token) → is k.If t ≡ true → Started t
unfolding Started
start_if t h = ((_, true), 0, _, g.when t (a_mark m.LeftParen) any_expr.0 (a_mark m.RightParen) false _ _ _ h refl any_expr.1 refl empty_is)

start_while : (t : Token) → is k.While t ≡ true → Started t
unfolding Started
start_while t h = ((_, false), 0, _, g.loop t (a_mark m.LeftParen) any_expr.0 (a_mark m.RightParen) false _ _ _ h refl any_expr.1 refl empty_is)

start_do : (t : Token) → is k.Do t ≡ true → Started t
unfolding Started
start_do t h = ((_, false), 0, _, g.until t false _ (a_word w.While) (a_mark m.LeftParen) any_expr.0 (a_mark m.RightParen) a_semicolon _ _ h empty_is refl refl any_expr.1 refl refl)

start_for : (t : Token) → is k.For t ≡ true → Started t
unfolding Started
start_for t h =
    ((_, false), 0, _, g.count t (a_mark m.LeftParen) _ None a_semicolon None (a_mark m.RightParen) false _ _ [] [] _ h refl (g.evaluates None a_semicolon [] g.nothing refl) g.nothing refl g.nothing refl empty_is)

start_break : (t : Token) → is k.Break t ≡ true → Started t
unfolding Started
start_break t h = ((_, false), 0, _, g.break t a_semicolon h refl)

start_continue : (t : Token) → is k.Continue t ≡ true → Started t
unfolding Started
start_continue t h = ((_, false), 0, _, g.continue t a_semicolon h refl)

start_return : (t : Token) → is k.Return t ≡ true → Started t
unfolding Started
start_return t h = ((_, false), 0, _, g.return t None a_semicolon [] h g.nothing refl)

abbrev jumps : Test
jumps = or (takes k.Break) (or (takes k.Continue) (takes k.Return))

abbrev loops : Test
loops = or (takes k.While) (or (takes k.Do) (or (takes k.For) jumps))

abbrev starts : Test
starts = or (takes k.ExprStart) (or (takes k.LeftBrace) (or (takes k.Semicolon) (or (takes k.If) loops)))

jump_begins : (t : Token) → of jumps t ≡ true → Started t
jump_begins t h = first (either (takes k.Break) (or (takes k.Continue) (takes k.Return)) t h)
  where
    second : (is k.Continue t ≡ true) ⊎ (is k.Return t ≡ true) → Started t
    second (inl i) = start_continue t i
    second (inr i) = start_return t i

    first : (is k.Break t ≡ true) ⊎ (of (or (takes k.Continue) (takes k.Return)) t ≡ true) → Started t
    first (inl i) = start_break t i
    first (inr i) = second (either (takes k.Continue) (takes k.Return) t i)

loop_begins : (t : Token) → of loops t ≡ true → Started t
loop_begins t h = first (either (takes k.While) (or (takes k.Do) (or (takes k.For) jumps)) t h)
  where
    third : (is k.For t ≡ true) ⊎ (of jumps t ≡ true) → Started t
    third (inl i) = start_for t i
    third (inr i) = jump_begins t i

    second : (is k.Do t ≡ true) ⊎ (of (or (takes k.For) jumps) t ≡ true) → Started t
    second (inl i) = start_do t i
    second (inr i) = third (either (takes k.For) jumps t i)

    first : (is k.While t ≡ true) ⊎ (of (or (takes k.Do) (or (takes k.For) jumps)) t ≡ true) → Started t
    first (inl i) = start_while t i
    first (inr i) = second (either (takes k.Do) (or (takes k.For) jumps) t i)

stmt_begins : (t : Token) → is k.StmtStart t ≡ true → Started t
stmt_begins t h = first (either (takes k.ExprStart) (or (takes k.LeftBrace) (or (takes k.Semicolon) (or (takes k.If) loops))) t (within_of (takes k.StmtStart) starts refl t h))
  where
    fourth : (is k.If t ≡ true) ⊎ (of loops t ≡ true) → Started t
    fourth (inl i) = start_if t i
    fourth (inr i) = loop_begins t i

    third : (is k.Semicolon t ≡ true) ⊎ (of (or (takes k.If) loops) t ≡ true) → Started t
    third (inl i) = start_empty t i
    third (inr i) = fourth (either (takes k.If) loops t i)

    second : (is k.LeftBrace t ≡ true) ⊎ (of (or (takes k.Semicolon) (or (takes k.If) loops)) t ≡ true) → Started t
    second (inl i) = start_block t i
    second (inr i) = third (either (takes k.Semicolon) (or (takes k.If) loops) t i)

    first : (is k.ExprStart t ≡ true) ⊎ (of (or (takes k.LeftBrace) (or (takes k.Semicolon) (or (takes k.If) loops))) t ≡ true) → Started t
    first (inl i) = start_expr t i
    first (inr i) = second (either (takes k.LeftBrace) (or (takes k.Semicolon) (or (takes k.If) loops)) t i)

-- ---- every depth

pub record AllExact (n : ℕ) (l : r.Levels) : Type 0 where
  pub declare : Exact n l.declare declare_lang
  pub stmt : Exact n l.stmt stmt_lang

pub levels_exact : (n : ℕ) → AllExact n (r.levels n)
unfolding Begun Started
levels_exact zero = record {
  declare = deny_exact (is k.DeclareStart) declare_lang (record { only = declare_starts; each = declare_begins; token = a_word w.Int; is = refl });
  stmt = deny_exact (is k.StmtStart) stmt_lang (record { only = λ v ms q. stmt_starts v.1 v.0 ms q; each = stmt_begins; token = a_semicolon; is = refl });
}
levels_exact (suc n) =
    let b = levels_exact n in
    record { declare = declare_exact n; stmt = stmt_exact n (r.levels n) b.declare b.stmt }

-- ---- the loop over the parts of a block

pub parts_loop : (n : ℕ) → LoopLaws (is k.PartStart) (r.block_part n (r.levels n))
parts_loop n = let b = levels_exact n in parts_turns n (r.levels n) b.declare b.stmt
