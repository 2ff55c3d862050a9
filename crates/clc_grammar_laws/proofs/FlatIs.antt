-- The tokens of a proper tree are those that it is spelled with.
use Rattle.std.proofs.Common.{◌≡◌, ℕ, Bool, false, List, [], ◌∷◌, ◌++◌, Option, refl, sym, ap, ◌∙◌}
use Rattle.std.specs.Prelude.{map}
use Rattle.clc_reading.specs.Reading.{Spelling, tokens_of, deeper}
use Rattle.clc_reading.proofs.Exact.{tokens_of-append, tokens_of-deeper}
use Rattle.clc_lexer.specs.declared.token.Token.{Token}
use Rattle.clc_tree.specs.declared.kinds.Kind.{Kind}
use Rattle.clc_tree.specs.Expressions as e
use Rattle.clc_tree.specs.Statements as g
use Rattle.clc_tree.specs.Programs as p
use Rattle.clc_tree.specs.Flat.{Tokens, joined, optional_tokens, scalar_tokens, assign_tokens, cast_tokens, chain_tokens, post_step_tokens, primary_tokens, unary_tokens, chain_step_tokens, comma_step_tokens, cond_tokens, expr_tokens, post_tokens, block_part_tokens, stmt_tokens, block_tokens, pointer_tokens, init_tokens, item_tokens, item_step_tokens, declare_tokens, expr_or_none, for_start_tokens, param_tokens, param_step_tokens, params_tokens, returns_tokens, function_tokens, flat_of}
use Rattle.clc_tree.specs.declared.expressions.Scalar.{Scalar}
use Rattle.clc_tree.specs.declared.expressions.Assign.{Assign}
use Rattle.clc_tree.specs.declared.expressions.Cast.{Cast}
use Rattle.clc_tree.specs.declared.expressions.Chain.{Chain}
use Rattle.clc_tree.specs.declared.expressions.PostStep.{PostStep}
use Rattle.clc_tree.specs.declared.expressions.Primary.{Primary}
use Rattle.clc_tree.specs.declared.expressions.Unary.{Unary}
use Rattle.clc_tree.specs.declared.expressions.ChainStep.{ChainStep}
use Rattle.clc_tree.specs.declared.expressions.CommaStep.{CommaStep}
use Rattle.clc_tree.specs.declared.expressions.Cond.{Cond}
use Rattle.clc_tree.specs.declared.expressions.Expr.{Expr}
use Rattle.clc_tree.specs.declared.expressions.Post.{Post}
use Rattle.clc_tree.specs.declared.statements.Pointer.{Pointer}
use Rattle.clc_tree.specs.declared.statements.Init.{Init}
use Rattle.clc_tree.specs.declared.statements.Item.{Item}
use Rattle.clc_tree.specs.declared.statements.ItemStep.{ItemStep}
use Rattle.clc_tree.specs.declared.statements.Declare.{Declare}
use Rattle.clc_tree.specs.declared.statements.ForStart.{ForStart}
use Rattle.clc_tree.specs.declared.statements.BlockPart.{BlockPart}
use Rattle.clc_tree.specs.declared.statements.Stmt.{Stmt}
use Rattle.clc_tree.specs.declared.statements.Block.{Block}
use Rattle.clc_tree.specs.declared.functions.Param.{Param}
use Rattle.clc_tree.specs.declared.functions.ParamStep.{ParamStep}
use Rattle.clc_tree.specs.declared.functions.Params.{Params}
use Rattle.clc_tree.specs.declared.functions.Returns.{Returns}
use Rattle.clc_tree.specs.declared.functions.Function.{Function}
use Rattle.clc_tree.specs.declared.functions.Tree.{Tree}
use Rattle.clc_grammar_laws.proofs.Layers.{assign_cond, assign_set, cast_to, cast_of, chain_one, chain_level, post_step_index, post_step_step, primary_name, primary_number, primary_paren, primary_call0, primary_call, unary_post, unary_step, unary_prefix, chain_step_is, choice_is, comma_step_is, cond_test, cond_choice, expr_is, post_is, block_part_declare, block_part_stmt, stmt_block, stmt_eval, stmt_empty, stmt_when, stmt_choose, stmt_loop, stmt_until, stmt_count, stmt_break, stmt_continue, stmt_return, block_is, else_is}

-- ---- lists of tokens

pub both : {a b c d : Tokens} → a ≡ b → c ≡ d → a ++ c ≡ b ++ d
both {a} {b} {c} {d} x y = ap (λ z. z ++ c) x ∙ ap (λ z. b ++ z) y

-- the tokens of two parts, one after the other
two : (m n : Spelling Token) {a b : Tokens} → tokens_of m ≡ a → tokens_of n ≡ b → tokens_of (m ++ n) ≡ a ++ b
two m n x y = tokens_of-append m n ∙ both x y

-- the same where the first lies deeper
inner : (m n : Spelling Token) {a b : Tokens} → tokens_of m ≡ a → tokens_of n ≡ b → tokens_of (deeper m ++ n) ≡ a ++ b
inner m n x y = tokens_of-append (deeper m) n ∙ both (tokens_of-deeper m ∙ x) y

under : (m : Spelling Token) {a : Tokens} → tokens_of m ≡ a → tokens_of (deeper m) ≡ a
under m x = tokens_of-deeper m ∙ x

next : (t : Token) {a b : Tokens} → a ≡ b → t ∷ a ≡ t ∷ b
next t x = ap (λ z. t ∷ z) x

-- ---- expressions

pub flat_scalar : (v : Scalar) (ms : Spelling Token) → e.IsScalar v ms → tokens_of ms ≡ scalar_tokens v
flat_scalar v ms (e.plain t h) = refl
flat_scalar v ms (e.alone t h) = refl
flat_scalar v ms (e.long t u h i) = refl

mutual
  pub flat_expr : (v : Expr) (ms : Spelling Token) → e.IsExpr v ms → tokens_of ms ≡ expr_tokens v
  flat_expr v ms (e.list a more m n h i) = two m n (flat_assign a m h) (flat_commas more n i) ∙ sym (expr_is a more)

  flat_commas : (v : List CommaStep) (ms : Spelling Token) → e.AreCommas v ms → tokens_of ms ≡ joined (map comma_step_tokens v)
  flat_commas v ms e.no_comma = refl
  flat_commas v ms (e.comma t a more m n h i j) = next t (two m n (flat_assign a m i) (flat_commas more n j)) ∙ ap (λ z. z ++ joined (map comma_step_tokens more)) (sym (comma_step_is t a))

  pub flat_assign : (v : Assign) (ms : Spelling Token) → e.IsAssign v ms → tokens_of ms ≡ assign_tokens v
  flat_assign v ms (e.value c m h) = flat_cond c m h ∙ sym (assign_cond c)
  flat_assign v ms (e.set u t a m n h i j) = two m ((t, 0) ∷ deeper n) (flat_unary u m h) (next t (under n (flat_assign a n j))) ∙ sym (assign_set u t a)

  flat_cond : (v : Cond) (ms : Spelling Token) → e.IsCond v ms → tokens_of ms ≡ cond_tokens v
  flat_cond v ms (e.test c m h) = flat_chain 10 c m h ∙ sym (cond_test c)
  flat_cond v ms (e.choice c q x a b m n o h i j l k) =
      two m ((q, 0) ∷ deeper (n ++ (x, 0) ∷ o)) (flat_chain 10 c m h) (next q (under (n ++ (x, 0) ∷ o) (two n ((x, 0) ∷ o) (flat_expr a n j) (next x (flat_cond b o k)))))
      ∙ ap (λ z. chain_tokens c ++ z) (sym (choice_is q a x b)) ∙ sym (cond_choice c (e.choice_of q a x b))

  flat_chain : (j : ℕ) (v : Chain) (ms : Spelling Token) → e.IsChain j v ms → tokens_of ms ≡ chain_tokens v
  flat_chain j v ms (e.operand c m h) = flat_cast c m h ∙ sym (chain_one c)
  flat_chain j v ms (e.tighter i c m h) = flat_chain i c m h
  flat_chain j v ms (e.level i c x more m o h t) = two m o (flat_chain i c m h) (flat_steps i (x ∷ more) o t) ∙ sym (chain_level c (x ∷ more))

  flat_steps : (j : ℕ) (v : List ChainStep) (ms : Spelling Token) → e.AreSteps j v ms → tokens_of ms ≡ joined (map chain_step_tokens v)
  flat_steps j v ms (e.no_step i) = refl
  flat_steps j v ms (e.step i t c more m o h x y) = next t (two m o (flat_chain i c m x) (flat_steps i more o y)) ∙ ap (λ z. z ++ joined (map chain_step_tokens more)) (sym (chain_step_is t c))

  flat_cast : (v : Cast) (ms : Spelling Token) → e.IsCast v ms → tokens_of ms ≡ cast_tokens v
  flat_cast v ms (e.to l r s c m n h i j k) = next l (inner m ((r, 0) ∷ deeper n) (flat_scalar s m i) (next r (under n (flat_cast c n k)))) ∙ sym (cast_to l s r c)
  flat_cast v ms (e.of u m h) = flat_unary u m h ∙ sym (cast_of u)

  flat_unary : (v : Unary) (ms : Spelling Token) → e.IsUnary v ms → tokens_of ms ≡ unary_tokens v
  flat_unary v ms (e.postfix p m h) = flat_post p m h ∙ sym (unary_post p)
  flat_unary v ms (e.before t u m h i) = next t (under m (flat_unary u m i)) ∙ sym (unary_step t u)
  flat_unary v ms (e.prefix t c m h i) = next t (under m (flat_cast c m i)) ∙ sym (unary_prefix t c)

  flat_post : (v : Post) (ms : Spelling Token) → e.IsPost v ms → tokens_of ms ≡ post_tokens v
  flat_post v ms (e.steps p more m n h i) = two m n (flat_primary p m h) (flat_posts more n i) ∙ sym (post_is p more)

  flat_posts : (v : List PostStep) (ms : Spelling Token) → e.ArePosts v ms → tokens_of ms ≡ joined (map post_step_tokens v)
  flat_posts v ms e.no_post = refl
  flat_posts v ms (e.index l r x more m n h i j k) =
      two ((l, 0) ∷ (deeper m ++ (r, 0) ∷ [])) n (next l (inner m ((r, 0) ∷ []) (flat_expr x m i) refl) ∙ sym (post_step_index l x r)) (flat_posts more n k)
  flat_posts v ms (e.after t more n h i) = next t (flat_posts more n i) ∙ ap (λ z. z ++ joined (map post_step_tokens more)) (sym (post_step_step t))

  flat_primary : (v : Primary) (ms : Spelling Token) → e.IsPrimary v ms → tokens_of ms ≡ primary_tokens v
  flat_primary v ms (e.name t h) = sym (primary_name t)
  flat_primary v ms (e.number t h) = sym (primary_number t)
  flat_primary v ms (e.paren l r x m h i j) = next l (inner m ((r, 0) ∷ []) (flat_expr x m i) refl) ∙ sym (primary_paren l x r)
  flat_primary v ms (e.call0 t l r h i j) = sym (primary_call0 t l r)
  flat_primary v ms (e.call t l r x m h i j k) = next t (next l (inner m ((r, 0) ∷ []) (flat_expr x m j) refl)) ∙ sym (primary_call t l x r)

-- ---- declarations

flat_optional : (i : Kind) (v : Option Token) (ms : Spelling Token) → g.IsOptional i v ms → tokens_of ms ≡ optional_tokens v
flat_optional i v ms (g.absent j) = refl
flat_optional i v ms (g.present j t h) = refl

flat_pointer : (v : Pointer) (ms : Spelling Token) → g.IsPointer v ms → tokens_of ms ≡ pointer_tokens v
flat_pointer v ms (g.pointer c s d x t o r m n p q w hc hs hd hx ht ho hr) =
    two m _ (flat_optional _ c m hc) (next s (two n _ (flat_optional _ d n hd) (two p _ (flat_scalar x p hx) (next t (two q w (flat_optional _ o q ho) (flat_optional _ r w hr))))))

flat_init : (v : Option Init) (ms : Spelling Token) → g.IsInit v ms → tokens_of ms ≡ init_tokens v
flat_init v ms g.no_init = refl
flat_init v ms (g.init t a m h i) = next t (flat_assign a m i)

flat_item : (v : Item) (ms : Spelling Token) → g.IsItem v ms → tokens_of ms ≡ item_tokens v
flat_item v ms (g.array t l x r ht hl hx hr) = refl
flat_item v ms (g.variable t i m h x) = next t (flat_init i m x)

flat_items : (v : List ItemStep) (ms : Spelling Token) → g.AreItems v ms → tokens_of ms ≡ joined (map item_step_tokens v)
flat_items v ms g.no_item = refl
flat_items v ms (g.one_item t i more m n h x y) = next t (two m n (flat_item i m x) (flat_items more n y))

flat_declare : (v : Declare) (ms : Spelling Token) → g.IsDeclare v ms → tokens_of ms ≡ declare_tokens v
flat_declare v ms (g.values c s i more t m n o q hc hs hi hm ht) =
    two m _ (flat_optional _ c m hc) (two n _ (flat_scalar s n hs) (two o _ (flat_item i o hi) (two q _ (flat_items more q hm) refl)))
flat_declare v ms (g.pointers x t i u m n hx ht hi hu) = two m _ (flat_pointer x m hx) (next t (two n _ (flat_init i n hi) refl))

flat_maybe : (v : Option Expr) (ms : Spelling Token) → g.IsMaybe v ms → tokens_of ms ≡ expr_or_none v
flat_maybe v ms g.nothing = refl
flat_maybe v ms (g.some x m h) = flat_expr x m h

flat_for_start : (v : ForStart) (ms : Spelling Token) → g.IsForStart v ms → tokens_of ms ≡ for_start_tokens v
flat_for_start v ms (g.declares d m h) = flat_declare d m h
flat_for_start v ms (g.evaluates x t m h i) = two m _ (flat_maybe x m h) refl

-- ---- statements

mutual
  pub flat_block : (v : Block) (ms : Spelling Token) → g.IsBlock v ms → tokens_of ms ≡ block_tokens v
  flat_block v ms (g.block l r all m hl ha hr) = next l (inner m ((r, 0) ∷ []) (flat_parts all m ha) refl) ∙ sym (block_is l all r)

  flat_parts : (v : List BlockPart) (ms : Spelling Token) → g.AreParts v ms → tokens_of ms ≡ joined (map block_part_tokens v)
  flat_parts v ms g.no_part = refl
  flat_parts v ms (g.one_part x all m n h i) = two m n (flat_part x m h) (flat_parts all n i)

  flat_part : (v : BlockPart) (ms : Spelling Token) → g.IsPart v ms → tokens_of ms ≡ block_part_tokens v
  flat_part v ms (g.declaration d m i) = flat_declare d m i ∙ sym (block_part_declare d)
  flat_part v ms (g.statement b x m i) = flat_stmt b x m i ∙ sym (block_part_stmt x)

  flat_stmt : (b : Bool) (v : Stmt) (ms : Spelling Token) → g.IsStmt b v ms → tokens_of ms ≡ stmt_tokens v
  flat_stmt b v ms (g.compound x m i) = flat_block x m i ∙ sym (stmt_block x)
  flat_stmt b v ms (g.eval x t m i j) = two m _ (flat_expr x m i) refl ∙ sym (stmt_eval x t)
  flat_stmt b v ms (g.empty t i) = sym (stmt_empty t)
  flat_stmt b v ms (g.when u l x r c y m n hu hl hx hr hy) = next u (next l (inner m _ (flat_expr x m hx) (next r (under n (flat_stmt c y n hy))))) ∙ sym (stmt_when u l x r y)
  flat_stmt b v ms (g.choose u l x r y d c z m n o hu hl hx hr hy hd hz) =
      next u (next l (inner m _ (flat_expr x m hx) (next r (inner n _ (flat_stmt false y n hy) (next d (under o (flat_stmt c z o hz)) ∙ sym (else_is d z))))))
      ∙ sym (stmt_choose u l x r y (g.else_of d z))
  flat_stmt b v ms (g.loop u l x r c y m n hu hl hx hr hy) = next u (next l (inner m _ (flat_expr x m hx) (next r (under n (flat_stmt c y n hy))))) ∙ sym (stmt_loop u l x r y)
  flat_stmt b v ms (g.until u c y d l x r t m n hu hy hd hl hx hr ht) =
      next u (inner m _ (flat_stmt c y m hy) (next d (next l (inner n _ (flat_expr x n hx) refl)))) ∙ sym (stmt_until u y d l x r t)
  flat_stmt b v ms (g.count u l i x t z r c y m n o q hu hl hi hx ht hz hr hy) =
      next u (next l (inner (m ++ (n ++ (t, 0) ∷ o)) _ (two m _ (flat_for_start i m hi) (two n _ (flat_maybe x n hx) (next t (flat_maybe z o hz)))) (next r (under q (flat_stmt c y q hy)))))
      ∙ sym (stmt_count u l i x t z r y)
  flat_stmt b v ms (g.break u t i j) = sym (stmt_break u t)
  flat_stmt b v ms (g.continue u t i j) = sym (stmt_continue u t)
  flat_stmt b v ms (g.return u x t m i j k) = next u (two m _ (flat_maybe x m j) refl) ∙ sym (stmt_return u x t)

-- ---- functions and programs

flat_param : (v : Param) (ms : Spelling Token) → p.IsParam v ms → tokens_of ms ≡ param_tokens v
flat_param v ms (p.value c s t m n hc hs ht) = two m _ (flat_optional _ c m hc) (two n _ (flat_scalar s n hs) refl)
flat_param v ms (p.pointer x t m hx ht) = two m _ (flat_pointer x m hx) refl

flat_params_after : (v : List ParamStep) (ms : Spelling Token) → p.AreParams v ms → tokens_of ms ≡ joined (map param_step_tokens v)
flat_params_after v ms p.no_param = refl
flat_params_after v ms (p.one_param t x more m n i j k) = next t (two m n (flat_param x m j) (flat_params_after more n k))

flat_params : (v : Option Params) (ms : Spelling Token) → p.IsParams v ms → tokens_of ms ≡ params_tokens v
flat_params v ms p.none = refl
flat_params v ms (p.void t i) = refl
flat_params v ms (p.list x more m n i j) = two m n (flat_param x m i) (flat_params_after more n j)

flat_returns : (v : Returns) (ms : Spelling Token) → p.IsReturns v ms → tokens_of ms ≡ returns_tokens v
flat_returns v ms (p.nothing t i) = refl
flat_returns v ms (p.scalar s m i) = flat_scalar s m i

flat_function : (v : Function) (ms : Spelling Token) → p.IsFunction v ms → tokens_of ms ≡ function_tokens v
flat_function v ms (p.function l r t o q c b m n x y hl hr ht ho hq hc hb) =
    two m _ (flat_optional _ l m hl) (two n _ (flat_returns r n hr) (next t (next o (inner x _ (flat_params q x hq) (next c (flat_block b y hb))))))

flat_functions : (v : List Function) (ms : Spelling Token) → p.AreFunctions v ms → tokens_of ms ≡ joined (map function_tokens v)
flat_functions v ms p.no_function = refl
flat_functions v ms (p.one_function x all m n i j) = two m n (flat_function x m i) (flat_functions all n j)

pub flat_tree : (v : Tree) (ms : Spelling Token) → p.IsTree v ms → tokens_of ms ≡ flat_of v
flat_tree v ms (p.tree all m i) = flat_functions all m i
