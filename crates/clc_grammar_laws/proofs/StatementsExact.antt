-- Statements and blocks are read exactly.
use Rattle.std.proofs.Common.{◌≡◌, inl, inr, ℕ, suc, Bool, true, false, List, [], ◌∷◌, ◌++◌, Option, Some, None, refl, sym, ap, ◌∙◌, subst, append-nil}
use Rattle.clc_reading.specs.Reading.{Reader, ◌>>=◌, pure, one, sees, Spelling, tokens_of, deeper, Language}
use Rattle.clc_reading.proofs.Exact.{Exact, tokens_of-append, seq, branch, loop, as_lang, pure_exact, pure_lang, then_lang, pick_lang, AllSpelled, LoopLaws, loop_laws}
use Rattle.clc_lexer.specs.declared.token.Token.{Token}
use Rattle.clc_lexer.specs.declared.marks.Mark.TheVariants as m
use Rattle.clc_lexer.specs.declared.words.Word.TheVariants as w
use Rattle.clc_tree.specs.Kinds.{takes, is}
use Rattle.clc_tree.specs.declared.kinds.Kind.{Kind}
use Rattle.clc_tree.specs.declared.kinds.Kind.TheVariants as k
use Rattle.clc_tree.specs.Statements as g
use Rattle.clc_tree.specs.StatementRules as r
use Rattle.clc_grammar_laws.proofs.Facts.{Apart, Within, apart, within}
use Rattle.clc_grammar_laws.proofs.Readers.{a_mark, a_word, as_is, join0, last, sees_head, not_empty, head, at_end, tok_lang, kind_exact, inner_lang, inner_exact, final_lang, final_exact, value_lang, value_exact, StartsWith, starts_append, starts_is, starts_sees, starts_by, never_empty, avoids}
use Rattle.clc_grammar_laws.proofs.Languages.{EndsExpr, expr_lang, ends_expr, expr_starts}
use Rattle.clc_grammar_laws.proofs.ExpressionsExact.{scalar_starts}
use Rattle.clc_grammar_laws.proofs.ExpressionLevels.{levels_exact}
use Rattle.clc_grammar_laws.proofs.DeclarationsExact.{declare_lang}
use Rattle.clc_tree.specs.declared.expressions.Expr.{Expr}
use Rattle.clc_tree.specs.declared.statements.Declare.{Declare}
use Rattle.clc_tree.specs.declared.statements.ForStart.{ForStart}
use Rattle.clc_tree.specs.declared.statements.ForStart.TheVariants as start
use Rattle.clc_tree.specs.declared.statements.Block.{Block}
use Rattle.clc_tree.specs.declared.statements.BlockPart.{BlockPart}
use Rattle.clc_tree.specs.declared.statements.BlockPart.TheVariants as part
use Rattle.clc_tree.specs.declared.statements.Stmt.{Stmt}
use Rattle.clc_tree.specs.declared.statements.Stmt.TheVariants as stmt

-- ---- an expression, or none

abbrev EndsMaybe : List Token → Type 0
EndsMaybe rest = EndsExpr rest × (sees (is k.ExprStart) rest ≡ false)

abbrev maybe_lang : Language Token (Option Expr)
maybe_lang = record { spells = g.IsMaybe; halts = λ v rest. EndsMaybe rest }

abbrev maybe_raw : Language Token (Option Expr)
maybe_raw = pick_lang (is k.ExprStart) (then_lang expr_lang (λ x. final_lang EndsExpr (Some x))) (final_lang (λ rest. sees (is k.ExprStart) rest ≡ false) None)

maybe_to : (v : Option Expr) (ms : Spelling Token) → maybe_raw.spells v ms → g.IsMaybe v ms
maybe_to v ms (inl (x, m1, o, h, (hv, h1), e0)) = as_is g.IsMaybe hv (last e0 refl h1) (g.some x m1 h)
maybe_to v ms (inr ((hv, h1), b)) = as_is g.IsMaybe hv h1 g.nothing

maybe_from : (v : Option Expr) (ms : Spelling Token) → g.IsMaybe v ms → maybe_raw.spells v ms
maybe_from v ms g.nothing = inr ((refl, refl), refl)
maybe_from v ms (g.some x m1 h) = inl (x, m1, [], h, (refl, refl), sym (append-nil m1))

maybe_exact : (n : ℕ) → Exact n (r.maybe n) maybe_lang
unfolding r.maybe
maybe_exact n =
    as_lang maybe_lang
    (branch (is k.ExprStart) (seq (levels_exact n).expr (λ x. final_exact n EndsExpr (Some x)) (λ x v o rest s h. at_end EndsExpr rest s.1 h))
    (final_exact n (λ rest. sees (is k.ExprStart) rest ≡ false) None)
    (λ v ms rest s. starts_sees (is k.ExprStart) ms rest (starts_is (is k.ExprStart) s.5 (starts_append (is k.ExprStart) _ s.2 (expr_starts s.0 s.1 s.3)))) (λ v rest s h. h))
    maybe_to maybe_from (λ v rest h. (λ x. h.0, h.1))

-- before a token that neither begins nor goes on with an expression
ends_maybe : (t : Token) (rest : List Token) → is k.Semicolon t ≡ true → EndsMaybe (t ∷ rest)
ends_maybe t rest h = (ends_expr k.Semicolon refl t rest h, apart k.Semicolon k.ExprStart refl t h)

maybe_avoids : (f : Kind) → Apart (takes k.ExprStart) (takes f) → (v : Option Expr) (m1 : Spelling Token) → g.IsMaybe v m1 → (rest : List Token) → sees (is f) rest ≡ false → sees (is f) (tokens_of m1 ++ rest) ≡ false
maybe_avoids f a v m1 g.nothing rest h = h
maybe_avoids f a v m1 (g.some x m2 i) rest h =
    let s = expr_starts x m2 i in ap (λ z. sees (is f) (tokens_of z ++ rest)) s.2 ∙ apart k.ExprStart f a s.0.0 s.3

tail_empty : (m1 o : Spelling Token) → [] ≡ m1 ++ o → [] ≡ o
tail_empty [] o e = e
tail_empty (x ∷ m1) o e = not_empty e

-- ---- what parts begin with

pub optional_starts : (f i : Kind) → Within (takes f) (takes i) → (v : Option Token) (m1 o : Spelling Token) → g.IsOptional f v m1 → StartsWith (is i) o → StartsWith (is i) (m1 ++ o)
optional_starts f i a v m1 o (g.absent j) s = s
optional_starts f i a v m1 o (g.present j t h) s = ((t, 0), o, refl, within j i a t h)

pub declare_starts : (v : Declare) (ms : Spelling Token) → g.IsDeclare v ms → StartsWith (is k.DeclareStart) ms
declare_starts v ms (g.values c s i more t mc ms1 mi mm hc hs hi hm ht) =
    optional_starts k.Const k.DeclareStart refl c mc _ hc
    (starts_append (is k.DeclareStart) ms1 _ (starts_by (is k.ScalarWord) (is k.DeclareStart) (within k.ScalarWord k.DeclareStart refl) ms1 (scalar_starts s ms1 hs)))
declare_starts v ms (g.pointers p t i u mp mi (g.pointer c s d e y o j mc n q w1 w2 hc hs hd he hy ho hj) ht hi hu) =
    starts_append (is k.DeclareStart) _ _ (optional_starts k.Const k.DeclareStart refl c mc _ hc ((s, 0), _, refl, within k.Space k.DeclareStart refl s hs))

block_starts : (v : Block) (ms : Spelling Token) → g.IsBlock v ms → StartsWith (is k.LeftBrace) ms
block_starts v ms (g.block l i all m1 h j o) = ((l, 0), _, refl, h)

pub stmt_starts : (b : Bool) (v : Stmt) (ms : Spelling Token) → g.IsStmt b v ms → StartsWith (is k.StmtStart) ms
stmt_starts b v ms (g.compound x m1 h) = starts_by (is k.LeftBrace) (is k.StmtStart) (within k.LeftBrace k.StmtStart refl) m1 (block_starts x m1 h)
stmt_starts b v ms (g.eval x t m1 h i) = starts_append (is k.StmtStart) m1 _ (starts_by (is k.ExprStart) (is k.StmtStart) (within k.ExprStart k.StmtStart refl) m1 (expr_starts x m1 h))
stmt_starts b v ms (g.empty t h) = ((t, 0), _, refl, within k.Semicolon k.StmtStart refl t h)
stmt_starts b v ms (g.when u l x i c y m1 m2 h1 h2 h3 h4 h5) = ((u, 0), _, refl, within k.If k.StmtStart refl u h1)
stmt_starts b v ms (g.choose u l x i y o c z m1 m2 m3 h1 h2 h3 h4 h5 h6 h7) = ((u, 0), _, refl, within k.If k.StmtStart refl u h1)
stmt_starts b v ms (g.loop u l x i c y m1 m2 h1 h2 h3 h4 h5) = ((u, 0), _, refl, within k.While k.StmtStart refl u h1)
stmt_starts b v ms (g.until u c y o l x i t m1 m2 h1 h2 h3 h4 h5 h6 h7) = ((u, 0), _, refl, within k.Do k.StmtStart refl u h1)
stmt_starts b v ms (g.count u l s x t y i c z m1 m2 m3 m4 h1 h2 h3 h4 h5 h6 h7 h8) = ((u, 0), _, refl, within k.For k.StmtStart refl u h1)
stmt_starts b v ms (g.break u t h i) = ((u, 0), _, refl, within k.Break k.StmtStart refl u h)
stmt_starts b v ms (g.continue u t h i) = ((u, 0), _, refl, within k.Continue k.StmtStart refl u h)
stmt_starts b v ms (g.return u x t m1 h i j) = ((u, 0), _, refl, within k.Return k.StmtStart refl u h)

part_starts : (v : BlockPart) (ms : Spelling Token) → g.IsPart v ms → StartsWith (is k.PartStart) ms
part_starts v ms (g.declaration d m1 h) = starts_by (is k.DeclareStart) (is k.PartStart) (within k.DeclareStart k.PartStart refl) m1 (declare_starts d m1 h)
part_starts v ms (g.statement b x m1 h) = starts_by (is k.StmtStart) (is k.PartStart) (within k.StmtStart k.PartStart refl) m1 (stmt_starts b x m1 h)

-- ---- before what a statement ends

abbrev pub NoElse : List Token → Type 0
NoElse rest = sees (is k.Else) rest ≡ false

abbrev pub Ends : Bool → List Token → Type 0
Ends true rest = NoElse rest
Ends false rest = Unit {0}

no_else : (b : Bool) (rest : List Token) → NoElse rest → Ends b rest
no_else true rest h = h
no_else false rest h = tt

abbrev pub stmt_lang : Language Token r.Read
stmt_lang = record { spells = λ x ms. g.IsStmt x.1 x.0 ms; halts = λ x rest. Ends x.1 rest }

abbrev Says : r.Read → Spelling Token → Type 0
Says v ms = g.IsStmt v.1 v.0 ms

ends_by : (v y : r.Read) (rest : List Token) → v ≡ y → Ends v.1 rest → Ends y.1 rest
ends_by v y rest e h = subst (λ z. Ends z.1 rest) e h

abbrev tested_lang : {A : Type 0} → (Token → Expr → Token → Language Token A) → Language Token A
tested_lang M = tok_lang (is k.LeftParen) (λ l. inner_lang expr_lang (λ x. tok_lang (is k.RightParen) (λ i. M l x i)))

abbrev pub block_lang : Language Token Block
block_lang = record { spells = g.IsBlock; halts = λ v rest. Unit {0} }

-- what stands in the parentheses of a `for`
pub data IsForHead : r.ForHead → Spelling Token → Type 0 where
  for_head : (i : ForStart) (x : Option Expr) (t : Token) (s : Option Expr) (m1 m2 m3 : Spelling Token)
      → g.IsForStart i m1 → g.IsMaybe x m2 → is k.Semicolon t ≡ true → g.IsMaybe s m3 → IsForHead (i, x, t, s) (m1 ++ (m2 ++ (t, 0) ∷ m3))

abbrev for_start_lang : Language Token ForStart
for_start_lang = record { spells = g.IsForStart; halts = λ v rest. Unit {0} }

abbrev for_head_lang : Language Token r.ForHead
for_head_lang = record { spells = IsForHead; halts = λ v rest. EndsMaybe rest }

module _ (n : ℕ) (inner : r.Levels) (D : Exact n inner.declare declare_lang) (S : Exact n inner.stmt stmt_lang) where
  -- ---- blocks

  abbrev part_lang : Language Token BlockPart
  part_lang = record { spells = g.IsPart; halts = λ v rest. NoElse rest }

  abbrev part_raw : Language Token BlockPart
  part_raw = pick_lang (is k.DeclareStart) (then_lang declare_lang (λ d. final_lang NoElse (part.Declare d))) (then_lang stmt_lang (λ x. final_lang NoElse (part.Stmt x.0)))

  part_to : (v : BlockPart) (ms : Spelling Token) → part_raw.spells v ms → g.IsPart v ms
  part_to v ms (inl (d, m1, o, h, (hv, h1), e0)) = as_is g.IsPart hv (last e0 refl h1) (g.declaration d m1 h)
  part_to v ms (inr ((x, m1, o, h, (hv, h1), e0), b)) = as_is g.IsPart hv (last e0 refl h1) (g.statement x.1 x.0 m1 h)

  part_from : (v : BlockPart) (ms : Spelling Token) → g.IsPart v ms → part_raw.spells v ms
  part_from v ms (g.declaration d m1 h) = inl (d, m1, [], h, (refl, refl), sym (append-nil m1))
  part_from v ms (g.statement b x m1 h) = inr (((x, b), m1, [], h, (refl, refl), sym (append-nil m1)), avoids k.StmtStart k.DeclareStart refl m1 (stmt_starts b x m1 h))

  part_exact : Exact n (r.block_part n inner) part_lang
  unfolding r.block_part
  part_exact =
      as_lang part_lang
      (branch (is k.DeclareStart) (seq D (λ d. final_exact n NoElse (part.Declare d)) (λ d v o rest q h. tt))
      (seq S (λ x. final_exact n NoElse (part.Stmt x.0)) (λ x v o rest q h. at_end (Ends x.1) rest q.1 (no_else x.1 rest h)))
      (λ v ms rest q. starts_sees (is k.DeclareStart) ms rest (starts_is (is k.DeclareStart) q.5 (starts_append (is k.DeclareStart) _ q.2 (declare_starts q.0 q.1 q.3))))
      (λ v rest q h. never_empty (is k.StmtStart) (starts_is (is k.StmtStart) q.5 (starts_append (is k.StmtStart) _ q.2 (stmt_starts q.0.1 q.0.0 q.1 q.3))) refl))
      part_to part_from (λ v rest h. (λ d. h, λ x. h))

  abbrev parts_lang : Language Token (List BlockPart)
  parts_lang = record { spells = g.AreParts; halts = λ v rest. (sees (is k.PartStart) rest ≡ false) × NoElse rest }

  parts_to : (v : List BlockPart) (ms : Spelling Token) → AllSpelled part_lang v ms → g.AreParts v ms
  parts_to [] ms q = subst (g.AreParts []) (sym q) g.no_part
  parts_to (x ∷ more) ms (m1, o, h, rest, e) = subst (g.AreParts (x ∷ more)) (sym e) (g.one_part x more m1 o h (parts_to more o rest))

  parts_from : (v : List BlockPart) (ms : Spelling Token) → g.AreParts v ms → AllSpelled part_lang v ms
  parts_from v ms g.no_part = refl
  parts_from v ms (g.one_part x more m1 o h rest) = (m1, o, h, parts_from more o rest, refl)

  parts_exact : Exact n (r.parts n inner) parts_lang
  parts_exact =
      as_lang parts_lang
      (loop (is k.PartStart) part_exact part_starts (λ a y ys h. apart k.PartStart k.Else refl y h))
      parts_to parts_from (λ v rest h. (h.0, λ a. h.1))

  pub parts_turns : LoopLaws (is k.PartStart) (r.block_part n inner)
  parts_turns = loop_laws (is k.PartStart) part_exact part_starts (λ a y ys h. apart k.PartStart k.Else refl y h)

  abbrev block_raw : Language Token Block
  block_raw = tok_lang (is k.LeftBrace) (λ l. inner_lang parts_lang (λ all. tok_lang (is k.RightBrace) (λ i. pure_lang (g.block_of l all i))))

  block_to : (v : Block) (ms : Spelling Token) → block_raw.spells v ms → g.IsBlock v ms
  block_to v ms (l, o0, hl, (all, m1, o1, ha, (i, o2, hi, (hv, h2), e2), e1), e0) =
      as_is g.IsBlock hv (join0 e0 (e1 ∙ ap (λ z. deeper m1 ++ z) (join0 e2 h2))) (g.block l i all m1 hl ha hi)

  block_from : (v : Block) (ms : Spelling Token) → g.IsBlock v ms → block_raw.spells v ms
  block_from v ms (g.block l i all m1 hl ha hi) = (l, _, hl, (all, m1, _, ha, (i, [], hi, (refl, refl), refl), refl), refl)

  pub block_exact : Exact (suc n) (r.block n inner) block_lang
  unfolding r.block
  block_exact =
      as_lang block_lang
      (kind_exact k.LeftBrace (a_mark m.LeftBrace) refl (λ l.
      inner_exact parts_exact (λ all. kind_exact k.RightBrace (a_mark m.RightBrace) refl (λ i. pure_exact (suc n) (g.block_of l all i)))
      (λ all v o rest q h. head (λ z. (sees (is k.PartStart) z ≡ false) × NoElse z) q.0 rest q.4 (λ z. (apart k.RightBrace k.PartStart refl q.0 q.2, apart k.RightBrace k.Else refl q.0 q.2)))))
      block_to block_from (λ v rest h. λ l all i. tt)

  -- ---- the parentheses of a `for`

  abbrev for_start_raw : Language Token ForStart
  for_start_raw = pick_lang (is k.DeclareStart) (then_lang declare_lang (λ d. pure_lang (start.Declare d)))
      (then_lang maybe_lang (λ x. tok_lang (is k.Semicolon) (λ t. pure_lang (start.Eval x t))))

  for_start_to : (v : ForStart) (ms : Spelling Token) → for_start_raw.spells v ms → g.IsForStart v ms
  for_start_to v ms (inl (d, m1, o, h, (hv, h1), e0)) = as_is g.IsForStart hv (last e0 refl h1) (g.declares d m1 h)
  for_start_to v ms (inr ((x, m1, o, h, (t, o1, ht, (hv, h2), e1), e0), b)) =
      as_is g.IsForStart hv (e0 ∙ ap (λ z. m1 ++ z) (join0 e1 h2)) (g.evaluates x t m1 h ht)

  for_start_from : (v : ForStart) (ms : Spelling Token) → g.IsForStart v ms → for_start_raw.spells v ms
  for_start_from v ms (g.declares d m1 h) = inl (d, m1, [], h, (refl, refl), sym (append-nil m1))
  for_start_from v ms (g.evaluates x t m1 h ht) =
      inr (
        (x, m1, _, h, (t, [], ht, (refl, refl), refl), refl),
        ap (sees (is k.DeclareStart)) (tokens_of-append m1 ((t, 0) ∷ [])) ∙ maybe_avoids k.DeclareStart refl x m1 h (t ∷ []) (apart k.Semicolon k.DeclareStart refl t ht),
      )

  for_start_exact : Exact n (r.for_start n inner) for_start_lang
  unfolding r.for_start
  for_start_exact =
      as_lang for_start_lang
      (branch (is k.DeclareStart) (seq D (λ d. pure_exact n (start.Declare d)) (λ d v o rest q h. tt))
      (seq (maybe_exact n) (λ x. kind_exact k.Semicolon (a_mark m.Semicolon) refl (λ t. pure_exact n (start.Eval x t))) (λ x v o rest q h. head EndsMaybe q.0 rest q.4 (λ z. ends_maybe q.0 z q.2)))
      (λ v ms rest q. starts_sees (is k.DeclareStart) ms rest (starts_is (is k.DeclareStart) q.5 (starts_append (is k.DeclareStart) _ q.2 (declare_starts q.0 q.1 q.3))))
      (λ v rest q h. not_empty (tail_empty q.1 q.2 q.5 ∙ q.4.4)))
      for_start_to for_start_from (λ v rest h. (λ d. tt, λ x t. tt))

  abbrev for_head_raw : Language Token r.ForHead
  for_head_raw = then_lang for_start_lang (λ i. then_lang maybe_lang (λ x. tok_lang (is k.Semicolon) (λ t. then_lang maybe_lang (λ s. final_lang EndsMaybe (i, x, t, s)))))

  for_head_to : (v : r.ForHead) (ms : Spelling Token) → for_head_raw.spells v ms → IsForHead v ms
  for_head_to v ms (i, m1, o0, hi, (x, m2, o1, hx, (t, o2, ht, (s, m3, o3, hs, (hv, h3), e3), e2), e1), e0) =
      as_is IsForHead hv (e0 ∙ ap (λ z. m1 ++ z) (e1 ∙ ap (λ z. m2 ++ z) (join0 e2 (last e3 refl h3)))) (for_head i x t s m1 m2 m3 hi hx ht hs)

  for_head_from : (v : r.ForHead) (ms : Spelling Token) → IsForHead v ms → for_head_raw.spells v ms
  for_head_from v ms (for_head i x t s m1 m2 m3 hi hx ht hs) = (i, m1, _, hi, (x, m2, _, hx, (t, m3, ht, (s, m3, [], hs, (refl, refl), sym (append-nil m3)), refl), refl), refl)

  for_head_exact : Exact n (r.for_head n inner) for_head_lang
  unfolding r.for_head
  for_head_exact =
      as_lang for_head_lang
      (seq for_start_exact (λ i.
      seq (maybe_exact n) (λ x.
      kind_exact k.Semicolon (a_mark m.Semicolon) refl (λ t.
      seq (maybe_exact n) (λ s. final_exact n EndsMaybe (i, x, t, s)) (λ s v o rest q h. at_end EndsMaybe rest q.1 h)))
      (λ x v o rest q h. head EndsMaybe q.0 rest q.4 (λ z. ends_maybe q.0 z q.2)))
      (λ i v o rest q h. tt))
      for_head_to for_head_from (λ v rest h. λ i x t s. h)

  -- ---- an expression in parentheses

  tested_exact : {A : Type 0} (F : Token → Expr → Token → Reader Token A) (M : Token → Expr → Token → Language Token A)
      → ((l : Token) (x : Expr) (i : Token) → Exact (suc n) (F l x i) (M l x i)) → Exact (suc n) (r.tested n inner F) (tested_lang M)
  unfolding r.tested
  tested_exact F M P =
      kind_exact k.LeftParen (a_mark m.LeftParen) refl (λ l.
      inner_exact (levels_exact n).expr (λ x. kind_exact k.RightParen (a_mark m.RightParen) refl (λ i. P l x i))
      (λ x v o rest q h. head EndsExpr q.0 rest q.4 (λ z. ends_expr k.RightParen refl q.0 z q.2)))

  -- ---- `if`

  abbrev if_rest_raw : Token → Token → Expr → Token → Stmt → Bool → Language Token r.Read
  if_rest_raw u l x i y true = value_lang (Ends true) (g.if_of u l x i y None, true)
  if_rest_raw u l x i y false =
      pick_lang (is k.Else) (tok_lang (is k.Else) (λ o. inner_lang stmt_lang (λ z. value_lang (Ends z.1) (g.if_of u l x i y (Some (g.else_of o z.0)), z.1))))
      (value_lang (Ends true) (g.if_of u l x i y None, true))

  if_rest_exact : (u l : Token) (x : Expr) (i : Token) (y : Stmt) (b : Bool) → Exact (suc n) (r.if_rest n inner u l x i y b) (if_rest_raw u l x i y b)
  if_rest_exact u l x i y true = value_exact (suc n) (Ends true) (g.if_of u l x i y None, true)
  if_rest_exact u l x i y false =
      branch (is k.Else)
      (kind_exact k.Else (a_word w.Else) refl (λ o. inner_exact S (λ z. value_exact (suc n) (Ends z.1) (g.if_of u l x i y (Some (g.else_of o z.0)), z.1)) (λ z v ms rest q h. at_end (Ends z.1) rest q.1 (h q.0))))
      (value_exact (suc n) (Ends true) (g.if_of u l x i y None, true))
      (λ v ms rest q. sees_head (is k.Else) rest q.4 q.2) (λ v rest q h. h q.0)

  abbrev if_raw : Token → Language Token r.Read
  if_raw u = tested_lang (λ l x i. inner_lang stmt_lang (λ y. if_rest_raw u l x i y.0 y.1))

  -- where a statement could take an `else`, none follows
  if_rest_ends : (u l : Token) (x : Expr) (i : Token) (y : Stmt) (b : Bool) (v : r.Read) (ms : Spelling Token) (rest : List Token)
      → (if_rest_raw u l x i y b).spells v ms → (if_rest_raw u l x i y b).halts v rest → Ends b (tokens_of ms ++ rest)
  if_rest_ends u l x i y true v ms rest q h = at_end NoElse rest q.1 (h q.0)
  if_rest_ends u l x i y false v ms rest q h = tt

  if_exact : (u : Token) → Exact (suc n) (r.if_from n inner u) (if_raw u)
  unfolding r.if_from
  if_exact u =
      tested_exact (λ l x i. inner.stmt >>= λ y. r.if_rest n inner u l x i y.0 y.1) (λ l x i. inner_lang stmt_lang (λ y. if_rest_raw u l x i y.0 y.1)) (λ l x i.
      inner_exact S (λ y. if_rest_exact u l x i y.0 y.1) (λ y v o rest q h. if_rest_ends u l x i y.0 y.1 v o rest q h))

  if_rest_to : (u l : Token) (x : Expr) (i : Token) (y : Stmt) (b : Bool) (m1 m2 o : Spelling Token) (v : r.Read)
      → is k.If u ≡ true → is k.LeftParen l ≡ true → expr_lang.spells x m1 → is k.RightParen i ≡ true → g.IsStmt b y m2 → (if_rest_raw u l x i y b).spells v o
      → Says v ((u, 0) ∷ (l, 0) ∷ (deeper m1 ++ (i, 0) ∷ (deeper m2 ++ o)))
  if_rest_to u l x i y true m1 m2 o v hu hl hx hi hy q =
      as_is Says q.0 (ap (λ z. (u, 0) ∷ (l, 0) ∷ (deeper m1 ++ (i, 0) ∷ z)) (last refl refl q.1)) (g.when u l x i true y m1 m2 hu hl hx hi hy)
  if_rest_to u l x i y false m1 m2 o v hu hl hx hi hy (inr (q, j)) =
      as_is Says q.0 (ap (λ z. (u, 0) ∷ (l, 0) ∷ (deeper m1 ++ (i, 0) ∷ z)) (last refl refl q.1)) (g.when u l x i false y m1 m2 hu hl hx hi hy)
  if_rest_to u l x i y false m1 m2 o v hu hl hx hi hy (inl (p, o1, hp, (z, m3, o2, hz, (hv, h2), e1), e0)) =
      as_is Says hv (ap (λ z. (u, 0) ∷ (l, 0) ∷ (deeper m1 ++ (i, 0) ∷ (deeper m2 ++ z))) (join0 e0 (last e1 refl h2))) (g.choose u l x i y p z.1 z.0 m1 m2 m3 hu hl hx hi hy hp hz)

  if_rest_none : (u l : Token) (x : Expr) (i : Token) (y : Stmt) (b : Bool) → (if_rest_raw u l x i y b).spells (g.if_of u l x i y None, true) []
  if_rest_none u l x i y true = (refl, refl)
  if_rest_none u l x i y false = inr ((refl, refl), refl)

  if_rest_halts : (u l : Token) (x : Expr) (i : Token) (y : Stmt) (b : Bool) (v : r.Read) (rest : List Token) → Ends v.1 rest → (if_rest_raw u l x i y b).halts v rest
  if_rest_halts u l x i y true v rest h = λ e. ends_by v (g.if_of u l x i y None, true) rest e h
  if_rest_halts u l x i y false v rest h = (λ o z e. ends_by v (g.if_of u l x i y (Some (g.else_of o z.0)), z.1) rest e h, λ e. ends_by v (g.if_of u l x i y None, true) rest e h)

  -- ---- loops

  abbrev while_raw : Token → Language Token r.Read
  while_raw u = tested_lang (λ l x i. inner_lang stmt_lang (λ y. value_lang (Ends y.1) (g.while_of u l x i y.0, y.1)))

  while_exact : (u : Token) → Exact (suc n) (r.while_from n inner u) (while_raw u)
  unfolding r.while_from
  while_exact u =
      tested_exact (λ l x i. inner.stmt >>= λ y. pure (g.while_of u l x i y.0, y.1)) (λ l x i. inner_lang stmt_lang (λ y. value_lang (Ends y.1) (g.while_of u l x i y.0, y.1))) (λ l x i.
      inner_exact S (λ y. value_exact (suc n) (Ends y.1) (g.while_of u l x i y.0, y.1)) (λ y v o rest q h. at_end (Ends y.1) rest q.1 (h q.0)))

  abbrev do_end : Token → r.Read → Token → Token → Expr → Token → Language Token r.Read
  do_end u y o l x i = tok_lang (is k.Semicolon) (λ t. pure_lang (g.do_of u y.0 o l x i t, false))

  abbrev do_raw : Token → Language Token r.Read
  do_raw u = inner_lang stmt_lang (λ y. tok_lang (is k.While) (λ o. tested_lang (do_end u y o)))

  do_exact : (u : Token) → Exact (suc n) (r.do_from n inner u) (do_raw u)
  unfolding r.do_from
  do_exact u =
      inner_exact S (λ y. kind_exact k.While (a_word w.While) refl (λ o.
      tested_exact (λ l x i. one (suc n) (is k.Semicolon) >>= λ t. pure (g.do_of u y.0 o l x i t, false)) (do_end u y o) (λ l x i.
      kind_exact k.Semicolon (a_mark m.Semicolon) refl (λ t. pure_exact (suc n) (g.do_of u y.0 o l x i t, false)))))
      (λ y v o rest q h. head (Ends y.1) q.0 rest q.4 (λ z. no_else y.1 (q.0 ∷ z) (apart k.While k.Else refl q.0 q.2)))

  abbrev for_raw : Token → Language Token r.Read
  for_raw u = tok_lang (is k.LeftParen) (λ l. inner_lang for_head_lang (λ h. tok_lang (is k.RightParen) (λ i. inner_lang stmt_lang (λ y.
      value_lang (Ends y.1) (g.for_of u l h.0 h.1 h.2 h.3 i y.0, y.1)))))

  for_exact : (u : Token) → Exact (suc n) (r.for_from n inner u) (for_raw u)
  unfolding r.for_from
  for_exact u =
      kind_exact k.LeftParen (a_mark m.LeftParen) refl (λ l.
      inner_exact for_head_exact (λ h. kind_exact k.RightParen (a_mark m.RightParen) refl (λ i.
      inner_exact S (λ y. value_exact (suc n) (Ends y.1) (g.for_of u l h.0 h.1 h.2 h.3 i y.0, y.1)) (λ y v o rest q j. at_end (Ends y.1) rest q.1 (j q.0))))
      (λ h v o rest q j. head EndsMaybe q.0 rest q.4 (λ z. (ends_expr k.RightParen refl q.0 z q.2, apart k.RightParen k.ExprStart refl q.0 q.2))))

  -- ---- the others

  abbrev eval_raw : Language Token r.Read
  eval_raw = then_lang expr_lang (λ x. tok_lang (is k.Semicolon) (λ t. pure_lang (stmt.Eval x t, false)))

  eval_exact : Exact (suc n) (r.evaluated n inner) eval_raw
  unfolding r.evaluated
  eval_exact =
      seq (levels_exact (suc n)).expr (λ x. kind_exact k.Semicolon (a_mark m.Semicolon) refl (λ t. pure_exact (suc n) (stmt.Eval x t, false)))
      (λ x v o rest q h. head EndsExpr q.0 rest q.4 (λ z. ends_expr k.Semicolon refl q.0 z q.2))

  abbrev return_raw : Token → Language Token r.Read
  return_raw u = then_lang maybe_lang (λ x. tok_lang (is k.Semicolon) (λ t. pure_lang (stmt.Return u x t, false)))

  return_exact : (u : Token) → Exact (suc n) (r.return_from n inner u) (return_raw u)
  unfolding r.return_from
  return_exact u =
      seq (maybe_exact (suc n)) (λ x. kind_exact k.Semicolon (a_mark m.Semicolon) refl (λ t. pure_exact (suc n) (stmt.Return u x t, false)))
      (λ x v o rest q h. head EndsMaybe q.0 rest q.4 (λ z. ends_maybe q.0 z q.2))

  abbrev jump_raw : Language Token r.Read
  jump_raw = pick_lang (is k.Break) (tok_lang (is k.Break) (λ u. tok_lang (is k.Semicolon) (λ t. pure_lang (stmt.Break u t, false))))
      (pick_lang (is k.Continue) (tok_lang (is k.Continue) (λ u. tok_lang (is k.Semicolon) (λ t. pure_lang (stmt.Continue u t, false))))
      (tok_lang (is k.Return) return_raw))

  jump_exact : Exact (suc n) (r.jump n inner) jump_raw
  unfolding r.jump
  jump_exact =
      branch (is k.Break)
      (kind_exact k.Break (a_word w.Break) refl (λ u. kind_exact k.Semicolon (a_mark m.Semicolon) refl (λ t. pure_exact (suc n) (stmt.Break u t, false))))
      (branch (is k.Continue)
      (kind_exact k.Continue (a_word w.Continue) refl (λ u. kind_exact k.Semicolon (a_mark m.Semicolon) refl (λ t. pure_exact (suc n) (stmt.Continue u t, false))))
      (kind_exact k.Return (a_word w.Return) refl return_exact)
      (λ v ms rest q. sees_head (is k.Continue) rest q.4 q.2) (λ v rest q h. not_empty q.4))
      (λ v ms rest q. sees_head (is k.Break) rest q.4 q.2) (λ v rest q h. jump_empty_at v q)
    where
      jump_empty_at : {X : Type 0} (v : r.Read) → (pick_lang (is k.Continue) (tok_lang (is k.Continue) (λ u. tok_lang (is k.Semicolon) (λ t. pure_lang (stmt.Continue u t, false)))) (tok_lang (is k.Return) return_raw)).spells v [] → X
      jump_empty_at v (inl q) = not_empty q.4
      jump_empty_at v (inr (q, b)) = not_empty q.4

  jump_empty : {X : Type 0} (v : r.Read) → jump_raw.spells v [] → X
  jump_empty v (inl q) = not_empty q.4
  jump_empty v (inr (inl q, b)) = not_empty q.4
  jump_empty v (inr (inr (q, b), d)) = not_empty q.4

  abbrev after_do : Language Token r.Read
  after_do = pick_lang (is k.For) (tok_lang (is k.For) for_raw) jump_raw

  abbrev after_while : Language Token r.Read
  after_while = pick_lang (is k.Do) (tok_lang (is k.Do) do_raw) after_do

  abbrev after_if : Language Token r.Read
  after_if = pick_lang (is k.While) (tok_lang (is k.While) while_raw) after_while

  abbrev governing_raw : Language Token r.Read
  governing_raw = pick_lang (is k.If) (tok_lang (is k.If) if_raw) after_if

  after_do_empty : {X : Type 0} (v : r.Read) → after_do.spells v [] → X
  after_do_empty v (inl q) = not_empty q.4
  after_do_empty v (inr (q, b)) = jump_empty v q

  after_while_empty : {X : Type 0} (v : r.Read) → after_while.spells v [] → X
  after_while_empty v (inl q) = not_empty q.4
  after_while_empty v (inr (q, b)) = after_do_empty v q

  after_if_empty : {X : Type 0} (v : r.Read) → after_if.spells v [] → X
  after_if_empty v (inl q) = not_empty q.4
  after_if_empty v (inr (q, b)) = after_while_empty v q

  governing_empty : {X : Type 0} (v : r.Read) → governing_raw.spells v [] → X
  governing_empty v (inl q) = not_empty q.4
  governing_empty v (inr (q, b)) = after_if_empty v q

  governing_exact : Exact (suc n) (r.governing n inner) governing_raw
  unfolding r.governing
  governing_exact =
      branch (is k.If) (kind_exact k.If (a_word w.If) refl if_exact)
      (branch (is k.While) (kind_exact k.While (a_word w.While) refl while_exact)
      (branch (is k.Do) (kind_exact k.Do (a_word w.Do) refl do_exact)
      (branch (is k.For) (kind_exact k.For (a_word w.For) refl for_exact) jump_exact
      (λ v ms rest q. sees_head (is k.For) rest q.4 q.2) (λ v rest q h. jump_empty v q))
      (λ v ms rest q. sees_head (is k.Do) rest q.4 q.2) (λ v rest q h. after_do_empty v q))
      (λ v ms rest q. sees_head (is k.While) rest q.4 q.2) (λ v rest q h. after_while_empty v q))
      (λ v ms rest q. sees_head (is k.If) rest q.4 q.2) (λ v rest q h. after_if_empty v q)

  abbrev after_block : Language Token r.Read
  after_block = pick_lang (is k.Semicolon) (tok_lang (is k.Semicolon) (λ t. pure_lang (stmt.Empty t, false))) governing_raw

  abbrev compound_raw : Language Token r.Read
  compound_raw = then_lang block_lang (λ x. pure_lang (stmt.Block x, false))

  abbrev after_eval : Language Token r.Read
  after_eval = pick_lang (is k.LeftBrace) compound_raw after_block

  abbrev stmt_raw : Language Token r.Read
  stmt_raw = pick_lang (is k.ExprStart) eval_raw after_eval

  after_block_empty : {X : Type 0} (v : r.Read) → after_block.spells v [] → X
  after_block_empty v (inl q) = not_empty q.4
  after_block_empty v (inr (q, b)) = governing_empty v q

  after_eval_empty : {X : Type 0} (v : r.Read) → after_eval.spells v [] → X
  after_eval_empty v (inl q) = never_empty (is k.LeftBrace) (starts_is (is k.LeftBrace) q.5 (starts_append (is k.LeftBrace) _ q.2 (block_starts q.0 q.1 q.3))) refl
  after_eval_empty v (inr (q, b)) = after_block_empty v q

  -- ---- the relation and the rules

  if_to : (v : r.Read) (ms : Spelling Token) → (tok_lang (is k.If) if_raw).spells v ms → Says v ms
  if_to v ms (u, o0, hu, (l, o1, hl, (x, m1, o2, hx, (i, o3, hi, (y, m2, o4, hy, q, e4), e3), e2), e1), e0) =
      subst (Says v) (sym (join0 e0 (join0 e1 (e2 ∙ ap (λ z. deeper m1 ++ z) (join0 e3 e4))))) (if_rest_to u l x i y.0 y.1 m1 m2 o4 v hu hl hx hi hy q)

  while_to : (v : r.Read) (ms : Spelling Token) → (tok_lang (is k.While) while_raw).spells v ms → Says v ms
  while_to v ms (u, o0, hu, (l, o1, hl, (x, m1, o2, hx, (i, o3, hi, (y, m2, o4, hy, (hv, h4), e4), e3), e2), e1), e0) =
      as_is Says hv (join0 e0 (join0 e1 (e2 ∙ ap (λ z. deeper m1 ++ z) (join0 e3 (last e4 refl h4))))) (g.loop u l x i y.1 y.0 m1 m2 hu hl hx hi hy)

  do_to : (v : r.Read) (ms : Spelling Token) → (tok_lang (is k.Do) do_raw).spells v ms → Says v ms
  do_to v ms (u, o0, hu, (y, m1, o1, hy, (p, o2, hp, (l, o3, hl, (x, m2, o4, hx, (i, o5, hi, (t, o6, ht, (hv, h6), e6), e5), e4), e3), e2), e1), e0) =
      as_is Says hv (join0 e0 (e1 ∙ ap (λ z. deeper m1 ++ z) (join0 e2 (join0 e3 (e4 ∙ ap (λ z. deeper m2 ++ z) (join0 e5 (join0 e6 h6)))))))
      (g.until u y.1 y.0 p l x i t m1 m2 hu hy hp hl hx hi ht)

  for_body : (u l i : Token) (h : r.ForHead) (m1 : Spelling Token) → IsForHead h m1 → (b : Bool) (y : Stmt) (m2 : Spelling Token)
      → is k.For u ≡ true → is k.LeftParen l ≡ true → is k.RightParen i ≡ true → g.IsStmt b y m2
      → g.IsStmt b (g.for_of u l h.0 h.1 h.2 h.3 i y) ((u, 0) ∷ (l, 0) ∷ (deeper m1 ++ (i, 0) ∷ deeper m2))
  for_body u l i h m1 (for_head j x t s m3 m4 m5 hj hx ht hs) b y m2 hu hl hi hy = g.count u l j x t s i b y m3 m4 m5 m2 hu hl hj hx ht hs hi hy

  for_to : (v : r.Read) (ms : Spelling Token) → (tok_lang (is k.For) for_raw).spells v ms → Says v ms
  for_to v ms (u, o0, hu, (l, o1, hl, (h, m1, o2, hh, (i, o3, hi, (y, m2, o4, hy, (hv, h4), e4), e3), e2), e1), e0) =
      as_is Says hv (join0 e0 (join0 e1 (e2 ∙ ap (λ z. deeper m1 ++ z) (join0 e3 (last e4 refl h4))))) (for_body u l i h m1 hh y.1 y.0 m2 hu hl hi hy)

  jump_to : (v : r.Read) (ms : Spelling Token) → jump_raw.spells v ms → Says v ms
  jump_to v ms (inl (u, o0, hu, (t, o1, ht, (hv, h1), e1), e0)) = as_is Says hv (join0 e0 (join0 e1 h1)) (g.break u t hu ht)
  jump_to v ms (inr (inl (u, o0, hu, (t, o1, ht, (hv, h1), e1), e0), b)) = as_is Says hv (join0 e0 (join0 e1 h1)) (g.continue u t hu ht)
  jump_to v ms (inr (inr ((u, o0, hu, (x, m1, o1, hx, (t, o2, ht, (hv, h2), e2), e1), e0), b), d)) =
      as_is Says hv (join0 e0 (e1 ∙ ap (λ z. m1 ++ z) (join0 e2 h2))) (g.return u x t m1 hu hx ht)

  governing_to : (v : r.Read) (ms : Spelling Token) → governing_raw.spells v ms → Says v ms
  governing_to v ms (inl q) = if_to v ms q
  governing_to v ms (inr (inl q, b1)) = while_to v ms q
  governing_to v ms (inr (inr (inl q, b2), b1)) = do_to v ms q
  governing_to v ms (inr (inr (inr (inl q, b3), b2), b1)) = for_to v ms q
  governing_to v ms (inr (inr (inr (inr (q, b4), b3), b2), b1)) = jump_to v ms q

  stmt_to : (v : r.Read) (ms : Spelling Token) → stmt_raw.spells v ms → Says v ms
  stmt_to v ms (inl (x, m1, o1, hx, (t, o2, ht, (hv, h2), e2), e1)) = as_is Says hv (e1 ∙ ap (λ z. m1 ++ z) (join0 e2 h2)) (g.eval x t m1 hx ht)
  stmt_to v ms (inr (inl (x, m1, o1, hx, (hv, h1), e1), b1)) = as_is Says hv (last e1 refl h1) (g.compound x m1 hx)
  stmt_to v ms (inr (inr (inl (t, o1, ht, (hv, h1), e1), b2), b1)) = as_is Says hv (join0 e1 h1) (g.empty t ht)
  stmt_to v ms (inr (inr (inr (q, b3), b2), b1)) = governing_to v ms q

  -- a statement that begins with a word
  by_word : (f : Kind) → Apart (takes f) (takes k.Semicolon) → Apart (takes f) (takes k.LeftBrace) → Apart (takes f) (takes k.ExprStart)
      → (v : r.Read) (u : Token) (o : Spelling Token) → is f u ≡ true → governing_raw.spells v ((u, 0) ∷ o) → stmt_raw.spells v ((u, 0) ∷ o)
  by_word f a1 a2 a3 v u o h q = inr (inr (inr (q, apart f k.Semicolon a1 u h), apart f k.LeftBrace a2 u h), apart f k.ExprStart a3 u h)

  by_jump : (f : Kind) → Apart (takes f) (takes k.For) → Apart (takes f) (takes k.Do) → Apart (takes f) (takes k.While) → Apart (takes f) (takes k.If)
      → (v : r.Read) (u : Token) (o : Spelling Token) → is f u ≡ true → jump_raw.spells v ((u, 0) ∷ o) → governing_raw.spells v ((u, 0) ∷ o)
  by_jump f a1 a2 a3 a4 v u o h q = inr (inr (inr (inr (q, apart f k.For a1 u h), apart f k.Do a2 u h), apart f k.While a3 u h), apart f k.If a4 u h)

  stmt_from_at : (b : Bool) (v : Stmt) (ms : Spelling Token) → g.IsStmt b v ms → stmt_raw.spells (v, b) ms
  stmt_from_at b v ms (g.compound x m1 h) =
      inr (inl (x, m1, [], h, (refl, refl), sym (append-nil m1)), avoids k.LeftBrace k.ExprStart refl m1 (block_starts x m1 h))
  stmt_from_at b v ms (g.eval x t m1 h i) = inl (x, m1, _, h, (t, [], i, (refl, refl), refl), refl)
  stmt_from_at b v ms (g.empty t h) = inr (inr (inl (t, [], h, (refl, refl), refl), apart k.Semicolon k.LeftBrace refl t h), apart k.Semicolon k.ExprStart refl t h)
  stmt_from_at b v ms (g.when u l x i c y m1 m2 hu hl hx hi hy) =
      by_word k.If refl refl refl (v, b) u _ hu
      (inl (u, _, hu, (l, _, hl, (x, m1, _, hx, (i, _, hi, ((y, c), m2, [], hy, if_rest_none u l x i y c, sym (append-nil (deeper m2))), refl), refl), refl), refl))
  stmt_from_at b v ms (g.choose u l x i y p c z m1 m2 m3 hu hl hx hi hy hp hz) =
      by_word k.If refl refl refl (v, b) u _ hu
      (inl (
        u,
        _,
        hu,
        (
          l,
          _,
          hl,
          (
            x,
            m1,
            _,
            hx,
            (
              i,
              _,
              hi,
              (
                (y, false),
                m2,
                _,
                hy,
                inl (p, _, hp, ((z, c), m3, [], hz, (refl, refl), sym (append-nil (deeper m3))), refl),
                refl,
              ),
              refl,
            ),
            refl,
          ),
          refl,
        ),
        refl,
      ))
  stmt_from_at b v ms (g.loop u l x i c y m1 m2 hu hl hx hi hy) =
      by_word k.While refl refl refl (v, b) u _ hu
      (inr (inl (u, _, hu, (l, _, hl, (x, m1, _, hx, (i, _, hi, ((y, c), m2, [], hy, (refl, refl), sym (append-nil (deeper m2))), refl), refl), refl), refl), apart k.While k.If refl u hu))
  stmt_from_at b v ms (g.until u c y p l x i t m1 m2 hu hy hp hl hx hi ht) =
      by_word k.Do refl refl refl (v, b) u _ hu
      (inr (
        inr (
          inl (u, _, hu, ((y, c), m1, _, hy, (p, _, hp, (l, _, hl, (x, m2, _, hx, (i, _, hi, (t, [], ht, (refl, refl), refl), refl), refl), refl), refl), refl), refl),
          apart k.Do k.While refl u hu,
        ),
        apart k.Do k.If refl u hu,
      ))
  stmt_from_at b v ms (g.count u l j x t s i c y m1 m2 m3 m4 hu hl hj hx ht hs hi hy) =
      by_word k.For refl refl refl (v, b) u _ hu
      (inr (
        inr (
          inr (
            inl (u, _, hu, (l, _, hl, ((j, x, t, s), _, _, for_head j x t s m1 m2 m3 hj hx ht hs, (i, _, hi, ((y, c), m4, [], hy, (refl, refl), sym (append-nil (deeper m4))), refl), refl), refl), refl),
            apart k.For k.Do refl u hu,
          ),
          apart k.For k.While refl u hu,
        ),
        apart k.For k.If refl u hu,
      ))
  stmt_from_at b v ms (g.break u t h i) =
      by_word k.Break refl refl refl (v, b) u _ h (by_jump k.Break refl refl refl refl (v, b) u _ h (inl (u, _, h, (t, [], i, (refl, refl), refl), refl)))
  stmt_from_at b v ms (g.continue u t h i) =
      by_word k.Continue refl refl refl (v, b) u _ h (by_jump k.Continue refl refl refl refl (v, b) u _ h (inr (inl (u, _, h, (t, [], i, (refl, refl), refl), refl), apart k.Continue k.Break refl u h)))
  stmt_from_at b v ms (g.return u x t m1 h i j) =
      by_word k.Return refl refl refl (v, b) u _ h (by_jump k.Return refl refl refl refl (v, b) u _ h
      (inr (inr ((u, _, h, (x, m1, _, i, (t, [], j, (refl, refl), refl), refl), refl), apart k.Return k.Continue refl u h), apart k.Return k.Break refl u h)))

  pub stmt_exact : Exact (suc n) (r.statement n inner) stmt_lang
  unfolding r.statement
  stmt_exact =
      as_lang stmt_lang
      (branch (is k.ExprStart) eval_exact
      (branch (is k.LeftBrace) (seq block_exact (λ x. pure_exact (suc n) (stmt.Block x, false)) (λ x v o rest q h. tt))
      (branch (is k.Semicolon) (kind_exact k.Semicolon (a_mark m.Semicolon) refl (λ t. pure_exact (suc n) (stmt.Empty t, false))) governing_exact
      (λ v ms rest q. sees_head (is k.Semicolon) rest q.4 q.2) (λ v rest q h. governing_empty v q))
      (λ v ms rest q. starts_sees (is k.LeftBrace) ms rest (starts_is (is k.LeftBrace) q.5 (starts_append (is k.LeftBrace) _ q.2 (block_starts q.0 q.1 q.3))))
      (λ v rest q h. after_block_empty v q))
      (λ v ms rest q. starts_sees (is k.ExprStart) ms rest (starts_is (is k.ExprStart) q.5 (starts_append (is k.ExprStart) _ q.2 (expr_starts q.0 q.1 q.3))))
      (λ v rest q h. after_eval_empty v q))
      stmt_to (λ v ms q. stmt_from_at v.1 v.0 ms q)
      (λ v rest h. (
        λ x t. tt,
        (
          λ x. tt,
          (
            λ t. tt,
            (
              λ u l x i y. if_rest_halts u l x i y.0 y.1 v rest h,
              (
                λ u l x i y e. ends_by v (g.while_of u l x i y.0, y.1) rest e h,
                (
                  λ u y o l x i t. tt,
                  (λ u l j i y e. ends_by v (g.for_of u l j.0 j.1 j.2 j.3 i y.0, y.1) rest e h, (λ u t. tt, (λ u t. tt, λ u x t. tt))),
                ),
              ),
            ),
          ),
        ),
      ))
