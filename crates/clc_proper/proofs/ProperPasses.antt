-- A proper tree passes the tests.
use Rattle.std.proofs.Common.{◌≡◌, ℕ, suc, Bool, true, false, ◌&&◌, List, ◌∷◌, Option, Some, None, refl, ap, ◌∙◌, arith}
use Rattle.std.specs.Prelude.{map}
use Rattle.clc_reading.specs.Reading.{Spelling}
use Rattle.clc_lexer.specs.declared.token.Token.{Token}
use Rattle.clc_tree.specs.Kinds.{rank, ranks}
use Rattle.clc_tree.specs.declared.kinds.Kind.{Kind}
use Rattle.clc_tree.specs.Expressions as e
use Rattle.clc_tree.specs.Statements as g
use Rattle.clc_tree.specs.Programs as p
use Rattle.clc_proper.specs.Proper.{all, when, optional_proper, scalar_proper, fits, step_fits, steps_fit, level, assign_proper, cast_proper, chain_top, post_step_proper, primary_proper, unary_proper, step_top, comma_step_proper, cond_proper, expr_proper, post_proper, part_proper, stmt_open, block_proper, else_open, pointer_proper, init_proper, item_proper, item_step_proper, declare_proper, maybe_proper, for_start_proper, branches, closes, is_some, param_proper, param_step_proper, params_proper, returns_proper, function_proper, tree_proper}
use Rattle.clc_tree.specs.declared.expressions.Scalar.{Scalar}
use Rattle.clc_tree.specs.declared.expressions.Assign.{Assign}
use Rattle.clc_tree.specs.declared.expressions.Cast.{Cast}
use Rattle.clc_tree.specs.declared.expressions.Chain.{Chain}
use Rattle.clc_tree.specs.declared.expressions.PostStep.{PostStep}
use Rattle.clc_tree.specs.declared.expressions.Primary.{Primary}
use Rattle.clc_tree.specs.declared.expressions.Unary.{Unary}
use Rattle.clc_tree.specs.declared.expressions.ChainStep.{ChainStep}
use Rattle.clc_tree.specs.declared.expressions.CommaStep.{CommaStep}
use Rattle.clc_tree.specs.declared.expressions.Cond.{Cond}
use Rattle.clc_tree.specs.declared.expressions.Expr.{Expr}
use Rattle.clc_tree.specs.declared.expressions.Post.{Post}
use Rattle.clc_tree.specs.declared.statements.Pointer.{Pointer}
use Rattle.clc_tree.specs.declared.statements.Init.{Init}
use Rattle.clc_tree.specs.declared.statements.Item.{Item}
use Rattle.clc_tree.specs.declared.statements.ItemStep.{ItemStep}
use Rattle.clc_tree.specs.declared.statements.Declare.{Declare}
use Rattle.clc_tree.specs.declared.statements.ForStart.{ForStart}
use Rattle.clc_tree.specs.declared.statements.BlockPart.{BlockPart}
use Rattle.clc_tree.specs.declared.statements.Stmt.{Stmt}
use Rattle.clc_tree.specs.declared.statements.Block.{Block}
use Rattle.clc_tree.specs.declared.functions.Param.{Param}
use Rattle.clc_tree.specs.declared.functions.ParamStep.{ParamStep}
use Rattle.clc_tree.specs.declared.functions.Params.{Params}
use Rattle.clc_tree.specs.declared.functions.Returns.{Returns}
use Rattle.clc_tree.specs.declared.functions.Function.{Function}
use Rattle.clc_tree.specs.declared.functions.Tree.{Tree}
use Rattle.std.proofs.lemmas.Bool.{leb-true, le-leb, eqb-true}
use Rattle.clc_proper.proofs.TestLayers.{assign_cond, assign_set, cast_to, cast_of, chain_one, chain_level, post_step_index, post_step_step, primary_name, primary_number, primary_paren, primary_call0, primary_call, unary_post, unary_step, unary_prefix, chain_step_is, choice_is, comma_step_is, cond_test_is, cond_choice_is, expr_is, post_is, block_part_declare, block_part_stmt, stmt_block, stmt_eval, stmt_empty, stmt_when, stmt_choose, stmt_loop, stmt_until, stmt_count, stmt_break, stmt_continue, stmt_return, block_is, else_is}

yes : {a b : Bool} → a ≡ true → b ≡ true → a && b ≡ true
yes {a} {b} x y = ap (λ z. z && b) x ∙ y

yes3 : {a b c : Bool} → a ≡ true → b ≡ true → c ≡ true → a && b && c ≡ true
yes3 x y z = yes (yes x y) z

yes4 : {a b c d : Bool} → a ≡ true → b ≡ true → c ≡ true → d ≡ true → a && b && c && d ≡ true
yes4 x y z w = yes (yes3 x y z) w

yes5 : {a b c d i : Bool} → a ≡ true → b ≡ true → c ≡ true → d ≡ true → i ≡ true → a && b && c && d && i ≡ true
yes5 x y z w v = yes (yes4 x y z w) v

yes7 : {a b c d i j l : Bool} → a ≡ true → b ≡ true → c ≡ true → d ≡ true → i ≡ true → j ≡ true → l ≡ true → a && b && c && d && i && j && l ≡ true
yes7 x y z w v u t = yes (yes (yes5 x y z w v) u) t

when_yes : {A : Type 0} {b : Bool} {x : Option A} {c : A} → b ≡ true → x ≡ Some c → when b x ≡ Some c
when_yes {A} {b} {x} {c} h i = ap (λ z. when z x) h ∙ i

fits_more : (n : Option ℕ) (j : ℕ) → fits n j ≡ true → fits n (suc j) ≡ true
fits_more None j h = absurd (cc)
fits_more (Some n) j h = let le = leb-true n j h in le-leb n (suc j) (omega arith)

level_is : (c : Option ℕ) (x : ℕ × Option ℕ) (more : List (ℕ × Option ℕ)) (j : ℕ) → x.0 ≡ j → fits c j ≡ true → steps_fit j (x ∷ more) ≡ true → level c (x ∷ more) ≡ Some (suc j)
level_is c x more j e h i = ap (λ r. when (fits c r && steps_fit r (x ∷ more)) (Some (suc r))) e ∙ when_yes (yes h i) refl

-- ---- expressions

test_scalar : (v : Scalar) (ms : Spelling Token) → e.IsScalar v ms → scalar_proper v ≡ true
test_scalar v ms (e.plain t h) = h
test_scalar v ms (e.alone t h) = yes h refl
test_scalar v ms (e.long t u h i) = yes h i

mutual
  pub test_expr : (v : Expr) (ms : Spelling Token) → e.IsExpr v ms → expr_proper v ≡ true
  test_expr v ms (e.list a more m n h i) = expr_is a more ∙ yes (test_assign a m h) (test_commas more n i)

  test_commas : (v : List CommaStep) (ms : Spelling Token) → e.AreCommas v ms → all (map comma_step_proper v) ≡ true
  test_commas v ms e.no_comma = refl
  test_commas v ms (e.comma t a more m n h i j) = yes (comma_step_is t a ∙ yes h (test_assign a m i)) (test_commas more n j)

  pub test_assign : (v : Assign) (ms : Spelling Token) → e.IsAssign v ms → assign_proper v ≡ true
  test_assign v ms (e.value c m h) = assign_cond c ∙ test_cond c m h
  test_assign v ms (e.set u t a m n h i j) = assign_set u t a ∙ yes3 (test_unary u m h) i (test_assign a n j)

  test_cond : (v : Cond) (ms : Spelling Token) → e.IsCond v ms → cond_proper v ≡ true
  test_cond v ms (e.test c m h) = cond_test_is c ∙ yes (test_chain ranks c m h) refl
  test_cond v ms (e.choice c q x a b m n o h i j l y) =
      cond_choice_is c (e.choice_of q a x b) ∙ yes (test_chain ranks c m h) (choice_is q a x b ∙ yes4 i (test_expr a n j) l (test_cond b o y))

  test_chain : (j : ℕ) (v : Chain) (ms : Spelling Token) → e.IsChain j v ms → fits (chain_top v) j ≡ true
  test_chain j v ms (e.operand c m h) = ap (λ z. fits z 0) (chain_one c ∙ when_yes (test_cast c m h) refl)
  test_chain j v ms (e.tighter i c m h) = fits_more (chain_top c) i (test_chain i c m h)
  test_chain j v ms (e.level i c x more m o h t) =
      ap (λ z. fits z (suc i)) (chain_level c (x ∷ more) ∙ level_is (chain_top c) (step_top x) (map step_top more) i (head_rank i x more o t) (test_chain i c m h) (test_steps i (x ∷ more) o t))
      ∙ le-leb (suc i) (suc i) (omega arith)

  head_rank : (j : ℕ) (x : ChainStep) (more : List ChainStep) (ms : Spelling Token) → e.AreSteps j (x ∷ more) ms → (step_top x).0 ≡ j
  head_rank j x more ms (e.step i t c rest m o h y z) = ap (λ w. w.0) (chain_step_is t c) ∙ eqb-true (rank t) i h

  test_steps : (j : ℕ) (v : List ChainStep) (ms : Spelling Token) → e.AreSteps j v ms → steps_fit j (map step_top v) ≡ true
  test_steps j v ms (e.no_step i) = refl
  test_steps j v ms (e.step i t c more m o h x y) = yes (ap (step_fits i) (chain_step_is t c) ∙ yes h (test_chain i c m x)) (test_steps i more o y)

  test_cast : (v : Cast) (ms : Spelling Token) → e.IsCast v ms → cast_proper v ≡ true
  test_cast v ms (e.to l r s c m n h i j x) = cast_to l s r c ∙ yes4 h (test_scalar s m i) j (test_cast c n x)
  test_cast v ms (e.of u m h) = cast_of u ∙ test_unary u m h

  test_unary : (v : Unary) (ms : Spelling Token) → e.IsUnary v ms → unary_proper v ≡ true
  test_unary v ms (e.postfix x m h) = unary_post x ∙ test_post x m h
  test_unary v ms (e.before t u m h i) = unary_step t u ∙ yes h (test_unary u m i)
  test_unary v ms (e.prefix t c m h i) = unary_prefix t c ∙ yes h (test_cast c m i)

  test_post : (v : Post) (ms : Spelling Token) → e.IsPost v ms → post_proper v ≡ true
  test_post v ms (e.steps x more m n h i) = post_is x more ∙ yes (test_primary x m h) (test_posts more n i)

  test_posts : (v : List PostStep) (ms : Spelling Token) → e.ArePosts v ms → all (map post_step_proper v) ≡ true
  test_posts v ms e.no_post = refl
  test_posts v ms (e.index l r x more m n h i j t) = yes (post_step_index l x r ∙ yes3 h (test_expr x m i) j) (test_posts more n t)
  test_posts v ms (e.after t more n h i) = yes (post_step_step t ∙ h) (test_posts more n i)

  test_primary : (v : Primary) (ms : Spelling Token) → e.IsPrimary v ms → primary_proper v ≡ true
  test_primary v ms (e.name t h) = primary_name t ∙ h
  test_primary v ms (e.number t h) = primary_number t ∙ h
  test_primary v ms (e.paren l r x m h i j) = primary_paren l x r ∙ yes3 h (test_expr x m i) j
  test_primary v ms (e.call0 t l r h i j) = primary_call0 t l r ∙ yes4 h i refl j
  test_primary v ms (e.call t l r x m h i j y) = primary_call t l x r ∙ yes4 h i (test_expr x m j) y

-- ---- declarations

test_optional : (i : Kind) (v : Option Token) (ms : Spelling Token) → g.IsOptional i v ms → optional_proper i v ≡ true
test_optional i v ms (g.absent j) = refl
test_optional i v ms (g.present j t h) = h

test_pointer : (v : Pointer) (ms : Spelling Token) → g.IsPointer v ms → pointer_proper v ≡ true
test_pointer v ms (g.pointer c s d x t o r m n q u w hc hs hd hx ht ho hr) =
    yes7 (test_optional _ c m hc) hs (test_optional _ d n hd) (test_scalar x q hx) ht (test_optional _ o u ho) (test_optional _ r w hr)

test_init : (v : Option Init) (ms : Spelling Token) → g.IsInit v ms → init_proper v ≡ true
test_init v ms g.no_init = refl
test_init v ms (g.init t a m h i) = yes h (test_assign a m i)

test_item : (v : Item) (ms : Spelling Token) → g.IsItem v ms → item_proper v ≡ true
test_item v ms (g.array t l x r ht hl hx hr) = yes4 ht hl hx hr
test_item v ms (g.variable t i m h x) = yes h (test_init i m x)

test_items : (v : List ItemStep) (ms : Spelling Token) → g.AreItems v ms → all (map item_step_proper v) ≡ true
test_items v ms g.no_item = refl
test_items v ms (g.one_item t i more m n h x y) = yes (yes h (test_item i m x)) (test_items more n y)

test_declare : (v : Declare) (ms : Spelling Token) → g.IsDeclare v ms → declare_proper v ≡ true
test_declare v ms (g.values c s i more t m n o q hc hs hi hm ht) =
    yes5 (test_optional _ c m hc) (test_scalar s n hs) (test_item i o hi) (test_items more q hm) ht
test_declare v ms (g.pointers x t i u m n hx ht hi hu) = yes4 (test_pointer x m hx) ht (test_init i n hi) hu

test_maybe : (v : Option Expr) (ms : Spelling Token) → g.IsMaybe v ms → maybe_proper v ≡ true
test_maybe v ms g.nothing = refl
test_maybe v ms (g.some x m h) = test_expr x m h

test_for_start : (v : ForStart) (ms : Spelling Token) → g.IsForStart v ms → for_start_proper v ≡ true
test_for_start v ms (g.declares d m h) = test_declare d m h
test_for_start v ms (g.evaluates x t m h i) = yes (test_maybe x m h) i

-- ---- statements

closes_yes : {x : Option Bool} {b : Bool} → x ≡ Some b → closes x ≡ Some false
closes_yes h = ap closes h

mutual
  pub test_block : (v : Block) (ms : Spelling Token) → g.IsBlock v ms → block_proper v ≡ true
  test_block v ms (g.block l r parts m hl ha hr) = block_is l parts r ∙ yes3 hl (test_parts parts m ha) hr

  test_parts : (v : List BlockPart) (ms : Spelling Token) → g.AreParts v ms → all (map part_proper v) ≡ true
  test_parts v ms g.no_part = refl
  test_parts v ms (g.one_part x more m n h i) = yes (test_part x m h) (test_parts more n i)

  test_part : (v : BlockPart) (ms : Spelling Token) → g.IsPart v ms → part_proper v ≡ true
  test_part v ms (g.declaration d m i) = block_part_declare d ∙ test_declare d m i
  test_part v ms (g.statement b x m i) = block_part_stmt x ∙ ap is_some (test_stmt b x m i)

  test_stmt : (b : Bool) (v : Stmt) (ms : Spelling Token) → g.IsStmt b v ms → stmt_open v ≡ Some b
  test_stmt b v ms (g.compound x m i) = stmt_block x ∙ when_yes (test_block x m i) refl
  test_stmt b v ms (g.eval x t m i j) = stmt_eval x t ∙ when_yes (yes (test_expr x m i) j) refl
  test_stmt b v ms (g.empty t i) = stmt_empty t ∙ when_yes i refl
  test_stmt b v ms (g.when u l x r c y m n hu hl hx hr hy) =
      stmt_when u l x r y ∙ when_yes (yes hu (yes3 hl (test_expr x m hx) hr)) (ap (λ z. branches z None) (test_stmt c y n hy))
  test_stmt b v ms (g.choose u l x r y d c z m n q hu hl hx hr hy hd hz) =
      stmt_choose u l x r y (g.else_of d z)
      ∙ when_yes (yes hu (yes3 hl (test_expr x m hx) hr)) (ap (λ w. branches w (Some (else_open (g.else_of d z)))) (test_stmt false y n hy) ∙ else_is d z ∙ when_yes hd (test_stmt c z q hz))
  test_stmt b v ms (g.loop u l x r c y m n hu hl hx hr hy) = stmt_loop u l x r y ∙ when_yes (yes hu (yes3 hl (test_expr x m hx) hr)) (test_stmt c y n hy)
  test_stmt b v ms (g.until u c y d l x r t m n hu hy hd hl hx hr ht) =
      stmt_until u y d l x r t ∙ when_yes (yes4 hu hd (yes3 hl (test_expr x n hx) hr) ht) (closes_yes (test_stmt c y m hy))
  test_stmt b v ms (g.count u l i x t z r c y m n o q hu hl hi hx ht hz hr hy) =
      stmt_count u l i x t z r y ∙ when_yes (yes4 hu hl (yes4 (test_for_start i m hi) (test_maybe x n hx) ht (test_maybe z o hz)) hr) (test_stmt c y q hy)
  test_stmt b v ms (g.break u t i j) = stmt_break u t ∙ when_yes (yes i j) refl
  test_stmt b v ms (g.continue u t i j) = stmt_continue u t ∙ when_yes (yes i j) refl
  test_stmt b v ms (g.return u x t m i j l) = stmt_return u x t ∙ when_yes (yes3 i (test_maybe x m j) l) refl

-- ---- functions and programs

test_param : (v : Param) (ms : Spelling Token) → p.IsParam v ms → param_proper v ≡ true
test_param v ms (p.value c s t m n hc hs ht) = yes3 (test_optional _ c m hc) (test_scalar s n hs) ht
test_param v ms (p.pointer x t m hx ht) = yes (test_pointer x m hx) ht

test_params_after : (v : List ParamStep) (ms : Spelling Token) → p.AreParams v ms → all (map param_step_proper v) ≡ true
test_params_after v ms p.no_param = refl
test_params_after v ms (p.one_param t x more m n i j l) = yes (yes i (test_param x m j)) (test_params_after more n l)

test_params : (v : Option Params) (ms : Spelling Token) → p.IsParams v ms → params_proper v ≡ true
test_params v ms p.none = refl
test_params v ms (p.void t i) = i
test_params v ms (p.list x more m n i j) = yes (test_param x m i) (test_params_after more n j)

test_returns : (v : Returns) (ms : Spelling Token) → p.IsReturns v ms → returns_proper v ≡ true
test_returns v ms (p.nothing t i) = i
test_returns v ms (p.scalar s m i) = test_scalar s m i

test_function : (v : Function) (ms : Spelling Token) → p.IsFunction v ms → function_proper v ≡ true
test_function v ms (p.function l r t o q c b m n x y hl hr ht ho hq hc hb) =
    yes7 (test_optional _ l m hl) (test_returns r n hr) ht ho (test_params q x hq) hc (test_block b y hb)

test_functions : (v : List Function) (ms : Spelling Token) → p.AreFunctions v ms → all (map function_proper v) ≡ true
test_functions v ms p.no_function = refl
test_functions v ms (p.one_function x more m n i j) = yes (test_function x m i) (test_functions more n j)

pub test_tree : (v : Tree) (ms : Spelling Token) → p.IsTree v ms → tree_proper v ≡ true
test_tree v ms (p.tree functions m i) = test_functions functions m i
