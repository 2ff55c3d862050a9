-- A tree that passes the tests is proper.
use Rattle.std.proofs.Common.{◌≡◌, ℕ, zero, suc, ◌+◌, ◌-◌, ◌≤◌, Bool, true, false, ◌&&◌, List, [], ◌∷◌, Option, Some, None, refl, sym, ap, ◌∙◌, subst, arith}
use Rattle.std.specs.Prelude.{map}
use Rattle.clc_reading.specs.Reading.{Spelling}
use Rattle.clc_lexer.specs.declared.token.Token.{Token}
use Rattle.clc_tree.specs.Kinds.{is, ranks}
use Rattle.clc_tree.specs.declared.kinds.Kind.{Kind}
use Rattle.clc_tree.specs.declared.kinds.Kind.TheVariants as k
use Rattle.clc_tree.specs.Expressions as e
use Rattle.clc_tree.specs.Statements as g
use Rattle.clc_tree.specs.Programs as p
use Rattle.clc_proper.specs.Proper.{all, when, optional_proper, scalar_proper, fits, step_fits, steps_fit, assign_proper, cast_proper, chain_top, post_step_proper, primary_proper, unary_proper, step_top, choice_proper, comma_step_proper, cond_proper, expr_proper, post_proper, part_proper, stmt_open, block_proper, do_open, else_open, for_open, if_open, while_open, pointer_proper, init_proper, item_proper, item_step_proper, declare_proper, maybe_proper, for_start_proper, tested_proper, branches, closes, is_some, param_proper, param_step_proper, params_proper, returns_proper, function_proper, tree_proper}
use Rattle.clc_tree.specs.declared.expressions.Scalar.{Scalar}
use Rattle.clc_tree.specs.declared.expressions.Assign.{Assign, roll-Assign}
use Rattle.clc_tree.specs.declared.expressions.Cast.{Cast, roll-Cast}
use Rattle.clc_tree.specs.declared.expressions.Chain.{Chain, roll-Chain}
use Rattle.clc_tree.specs.declared.expressions.PostStep.{PostStep, roll-PostStep}
use Rattle.clc_tree.specs.declared.expressions.Primary.{Primary, roll-Primary}
use Rattle.clc_tree.specs.declared.expressions.Unary.{Unary, roll-Unary}
use Rattle.clc_tree.specs.declared.expressions.ChainStep.{ChainStep, roll-ChainStep}
use Rattle.clc_tree.specs.declared.expressions.Choice.{Choice, roll-Choice}
use Rattle.clc_tree.specs.declared.expressions.CommaStep.{CommaStep, roll-CommaStep}
use Rattle.clc_tree.specs.declared.expressions.Cond.{Cond, roll-Cond}
use Rattle.clc_tree.specs.declared.expressions.Expr.{Expr, roll-Expr}
use Rattle.clc_tree.specs.declared.expressions.Post.{Post, roll-Post}
use Rattle.clc_tree.specs.declared.statements.Pointer.{Pointer}
use Rattle.clc_tree.specs.declared.statements.Init.{Init}
use Rattle.clc_tree.specs.declared.statements.Item.{Item}
use Rattle.clc_tree.specs.declared.statements.ItemStep.{ItemStep}
use Rattle.clc_tree.specs.declared.statements.Declare.{Declare}
use Rattle.clc_tree.specs.declared.statements.ForStart.{ForStart}
use Rattle.clc_tree.specs.declared.statements.BlockPart.{BlockPart, roll-BlockPart}
use Rattle.clc_tree.specs.declared.statements.Stmt.{Stmt, roll-Stmt}
use Rattle.clc_tree.specs.declared.statements.Block.{Block, roll-Block}
use Rattle.clc_tree.specs.declared.statements.Do.{Do, roll-Do}
use Rattle.clc_tree.specs.declared.statements.Else.{Else, roll-Else}
use Rattle.clc_tree.specs.declared.statements.For.{For, roll-For}
use Rattle.clc_tree.specs.declared.statements.If.{If, roll-If}
use Rattle.clc_tree.specs.declared.statements.While.{While, roll-While}
use Rattle.clc_tree.specs.declared.functions.Param.{Param}
use Rattle.clc_tree.specs.declared.functions.ParamStep.{ParamStep}
use Rattle.clc_tree.specs.declared.functions.Params.{Params}
use Rattle.clc_tree.specs.declared.functions.Returns.{Returns}
use Rattle.clc_tree.specs.declared.functions.Function.{Function}
use Rattle.clc_tree.specs.declared.functions.Tree.{Tree}
use Rattle.clc_tree.specs.declared.expressions.Scalar.TheVariants as scalar
use Rattle.clc_tree.specs.declared.expressions.Assign.TheVariants as assign
use Rattle.clc_tree.specs.declared.expressions.Cast.TheVariants as cast
use Rattle.clc_tree.specs.declared.expressions.Chain.TheVariants as chain
use Rattle.clc_tree.specs.declared.expressions.PostStep.TheVariants as post_step
use Rattle.clc_tree.specs.declared.expressions.Primary.TheVariants as primary
use Rattle.clc_tree.specs.declared.expressions.Unary.TheVariants as unary
use Rattle.clc_tree.specs.declared.statements.Item.TheVariants as item
use Rattle.clc_tree.specs.declared.statements.Declare.TheVariants as declare
use Rattle.clc_tree.specs.declared.statements.ForStart.TheVariants as start
use Rattle.clc_tree.specs.declared.statements.BlockPart.TheVariants as block_part
use Rattle.clc_tree.specs.declared.statements.Stmt.TheVariants as stmt
use Rattle.clc_tree.specs.declared.functions.Param.TheVariants as param
use Rattle.clc_tree.specs.declared.functions.Params.TheVariants as params
use Rattle.clc_tree.specs.declared.functions.Returns.TheVariants as returns
use Rattle.clc_tree.specs.declared.expressions.Assign.TheOpen as o
use Rattle.clc_tree.specs.declared.expressions.Assign.TheFolds as f
use Rattle.clc_tree.specs.declared.statements.BlockPart.TheOpen as s
use Rattle.clc_tree.specs.declared.statements.BlockPart.TheFolds as h
use Rattle.std.proofs.lemmas.Bool.{leb-true}
use Rattle.clc_proper.proofs.TestLayers.{assign_cond, assign_set, cast_to, cast_of, chain_one, chain_level, post_step_index, post_step_step, primary_name, primary_number, primary_paren, primary_call0, primary_call, unary_post, unary_step, unary_prefix, chain_step_is, choice_is, comma_step_is, cond_test_is, cond_choice_is, expr_is, post_is, block_part_declare, block_part_stmt, stmt_block, stmt_eval, stmt_empty, stmt_if, stmt_while, stmt_do, stmt_for, stmt_when, stmt_choose, stmt_loop, stmt_until, stmt_count, stmt_break, stmt_continue, stmt_return, block_is, else_is}

-- ---- tests that hold together

two : (a b : Bool) → a && b ≡ true → (a ≡ true) × (b ≡ true)
two true b h = (refl, h)
two false b h = absurd (cc)

three : (a b c : Bool) → a && b && c ≡ true → (a ≡ true) × (b ≡ true) × (c ≡ true)
three a b c h = let x = two (a && b) c h in let y = two a b x.0 in (y.0, y.1, x.1)

four : (a b c d : Bool) → a && b && c && d ≡ true → (a ≡ true) × (b ≡ true) × (c ≡ true) × (d ≡ true)
four a b c d h = let x = two (a && b && c) d h in let y = three a b c x.0 in (y.0, y.1, y.2, x.1)

five : (a b c d i : Bool) → a && b && c && d && i ≡ true → (a ≡ true) × (b ≡ true) × (c ≡ true) × (d ≡ true) × (i ≡ true)
five a b c d i h = let x = two (a && b && c && d) i h in let y = four a b c d x.0 in (y.0, y.1, y.2, y.3, x.1)

seven : (a b c d i j l : Bool) → a && b && c && d && i && j && l ≡ true → (a ≡ true) × (b ≡ true) × (c ≡ true) × (d ≡ true) × (i ≡ true) × (j ≡ true) × (l ≡ true)
seven a b c d i j l h =
    let x = two (a && b && c && d && i && j) l h in
    let y = two (a && b && c && d && i) j x.0 in
    let z = five a b c d i y.0 in
    (z.0, z.1, z.2, z.3, z.4, y.1, x.1)

when_some : {A : Type 0} (b : Bool) (x : Option A) (c : A) → when b x ≡ Some c → (b ≡ true) × (x ≡ Some c)
when_some true x c h = (refl, h)
when_some false x c h = absurd (cc)

-- some spelling is that of the value
abbrev pub Spelled : {A : Type 0} → (A → Spelling Token → Type 0) → A → Type 0
Spelled G a = (ms : Spelling Token) × G a ms

-- ---- chains

raise_by : (n i : ℕ) (c : Chain) (ms : Spelling Token) → e.IsChain i c ms → (j : ℕ) → j ≡ n + i → e.IsChain j c ms
raise_by zero i c ms h j same = let to : i ≡ j = omega (arith, same) in subst (λ z. e.IsChain z c ms) to h
raise_by (suc n) i c ms h zero same = absurd (omega (arith, same))
raise_by (suc n) i c ms h (suc j) same = e.tighter j c ms (raise_by n i c ms h j (omega (arith, same)))

raise : (i j : ℕ) → i ≤ j → (c : Chain) (ms : Spelling Token) → e.IsChain i c ms → e.IsChain j c ms
raise i j le c ms h = raise_by (j - i) i c ms h j (omega (arith, le))

one_fits : (b : Bool) (j : ℕ) → fits (when b (Some 0)) j ≡ true → b ≡ true
one_fits true j h = refl
one_fits false j h = absurd (cc)

level_fits : (b : Bool) (r j : ℕ) → fits (when b (Some (suc r))) j ≡ true → (b ≡ true) × (suc r ≤ j)
level_fits true r j h = (refl, leb-true (suc r) j h)
level_fits false r j h = absurd (cc)

-- ---- types of numbers

scalar_back : (v : Scalar) → scalar_proper v ≡ true → Spelled e.IsScalar v
scalar_back (scalar.Plain t) h = (_, e.plain t h)
scalar_back (scalar.Signed t None) h = (_, e.alone t (two _ _ h).0)
scalar_back (scalar.Signed t (Some u)) h = let x = two _ _ h in (_, e.long t u x.0 x.1)

-- ---- what is shown of each part of an expression

abbrev OfAssign : Assign → Type 0
OfAssign v = assign_proper v ≡ true → Spelled e.IsAssign v

abbrev OfCast : Cast → Type 0
OfCast v = cast_proper v ≡ true → Spelled e.IsCast v

abbrev OfChain : Chain → Type 0
OfChain v = (j : ℕ) → fits (chain_top v) j ≡ true → Spelled (e.IsChain j) v

abbrev OfPostStep : PostStep → Type 0
OfPostStep v = post_step_proper v ≡ true → (more : List PostStep) (n : Spelling Token) → e.ArePosts more n → Spelled e.ArePosts (v ∷ more)

abbrev OfPrimary : Primary → Type 0
OfPrimary v = primary_proper v ≡ true → Spelled e.IsPrimary v

abbrev OfUnary : Unary → Type 0
OfUnary v = unary_proper v ≡ true → Spelled e.IsUnary v

abbrev OfChainStep : ChainStep → Type 0
OfChainStep v = (j : ℕ) → step_fits j (step_top v) ≡ true → (more : List ChainStep) (n : Spelling Token) → e.AreSteps j more n → Spelled (e.AreSteps j) (v ∷ more)

abbrev OfChoice : Choice → Type 0
OfChoice v = choice_proper v ≡ true → (c : Chain) (m : Spelling Token) → e.IsChain ranks c m → Spelled e.IsCond (e.cond_of c (Some v))

abbrev OfCommaStep : CommaStep → Type 0
OfCommaStep v = comma_step_proper v ≡ true → (more : List CommaStep) (n : Spelling Token) → e.AreCommas more n → Spelled e.AreCommas (v ∷ more)

abbrev OfCond : Cond → Type 0
OfCond v = cond_proper v ≡ true → Spelled e.IsCond v

abbrev OfExpr : Expr → Type 0
OfExpr v = expr_proper v ≡ true → Spelled e.IsExpr v

abbrev OfPost : Post → Type 0
OfPost v = post_proper v ≡ true → Spelled e.IsPost v

-- a part with what is shown of it

abbrev ShownAssign : Type 0
ShownAssign = (v : Assign) × OfAssign v

abbrev ShownCast : Type 0
ShownCast = (v : Cast) × OfCast v

abbrev ShownChain : Type 0
ShownChain = (v : Chain) × OfChain v

abbrev ShownPostStep : Type 0
ShownPostStep = (v : PostStep) × OfPostStep v

abbrev ShownPrimary : Type 0
ShownPrimary = (v : Primary) × OfPrimary v

abbrev ShownUnary : Type 0
ShownUnary = (v : Unary) × OfUnary v

abbrev ShownChainStep : Type 0
ShownChainStep = (v : ChainStep) × OfChainStep v

abbrev ShownChoice : Type 0
ShownChoice = (v : Choice) × OfChoice v

abbrev ShownCommaStep : Type 0
ShownCommaStep = (v : CommaStep) × OfCommaStep v

abbrev ShownCond : Type 0
ShownCond = (v : Cond) × OfCond v

abbrev ShownExpr : Type 0
ShownExpr = (v : Expr) × OfExpr v

abbrev ShownPost : Type 0
ShownPost = (v : Post) × OfPost v

-- ---- lists of parts

commas_back : (v : List ShownCommaStep) → all (map comma_step_proper (map (λ i. i.0) v)) ≡ true → Spelled e.AreCommas (map (λ i. i.0) v)
commas_back [] h = ([], e.no_comma)
commas_back (x ∷ more) h = let y = two _ _ h in let rest = commas_back more y.1 in x.1 y.0 (map (λ i. i.0) more) rest.0 rest.1

posts_back : (v : List ShownPostStep) → all (map post_step_proper (map (λ i. i.0) v)) ≡ true → Spelled e.ArePosts (map (λ i. i.0) v)
posts_back [] h = ([], e.no_post)
posts_back (x ∷ more) h = let y = two _ _ h in let rest = posts_back more y.1 in x.1 y.0 (map (λ i. i.0) more) rest.0 rest.1

steps_back : (j : ℕ) (v : List ShownChainStep) → steps_fit j (map step_top (map (λ i. i.0) v)) ≡ true → Spelled (e.AreSteps j) (map (λ i. i.0) v)
steps_back j [] h = ([], e.no_step j)
steps_back j (x ∷ more) h = let y = two _ _ h in let rest = steps_back j more y.1 in x.1 j y.0 (map (λ i. i.0) more) rest.0 rest.1

-- ---- each kind of part, from what is shown of its own parts

back_assign : (y : o.Assign-F ShownAssign ShownCast ShownChain ShownPostStep ShownPrimary ShownUnary ShownChainStep ShownChoice ShownCommaStep ShownCond ShownExpr ShownPost) → OfAssign (roll-Assign (f.map-Assign ShownAssign ShownCast ShownChain ShownPostStep ShownPrimary ShownUnary ShownChainStep ShownChoice ShownCommaStep ShownCond ShownExpr ShownPost Assign Cast Chain PostStep Primary Unary ChainStep Choice CommaStep Cond Expr Post (λ i. i.0) (λ i. i.0) (λ i. i.0) (λ i. i.0) (λ i. i.0) (λ i. i.0) (λ i. i.0) (λ i. i.0) (λ i. i.0) (λ i. i.0) (λ i. i.0) (λ i. i.0) y))
back_assign (o.Cond c) = subst OfAssign (sym (assign.rolls-Cond c.0)) (λ h. let x = c.1 (sym (assign_cond c.0) ∙ h) in (_, e.value c.0 x.0 x.1))
back_assign (o.Set u t a) = subst OfAssign (sym (assign.rolls-Set u.0 t a.0)) (λ h. let z = three _ _ _ (sym (assign_set u.0 t a.0) ∙ h) in let x = u.1 z.0 in let y = a.1 z.2 in (_, e.set u.0 t a.0 x.0 y.0 x.1 z.1 y.1))

back_cast : (y : o.Cast-F ShownAssign ShownCast ShownChain ShownPostStep ShownPrimary ShownUnary ShownChainStep ShownChoice ShownCommaStep ShownCond ShownExpr ShownPost) → OfCast (roll-Cast (f.map-Cast ShownAssign ShownCast ShownChain ShownPostStep ShownPrimary ShownUnary ShownChainStep ShownChoice ShownCommaStep ShownCond ShownExpr ShownPost Assign Cast Chain PostStep Primary Unary ChainStep Choice CommaStep Cond Expr Post (λ i. i.0) (λ i. i.0) (λ i. i.0) (λ i. i.0) (λ i. i.0) (λ i. i.0) (λ i. i.0) (λ i. i.0) (λ i. i.0) (λ i. i.0) (λ i. i.0) (λ i. i.0) y))
back_cast (o.To l s r c) = subst OfCast (sym (cast.rolls-To l s r c.0)) (λ h. let z = four _ _ _ _ (sym (cast_to l s r c.0) ∙ h) in let x = scalar_back s z.1 in let y = c.1 z.3 in (_, e.to l r s c.0 x.0 y.0 z.0 x.1 z.2 y.1))
back_cast (o.Of u) = subst OfCast (sym (cast.rolls-Of u.0)) (λ h. let x = u.1 (sym (cast_of u.0) ∙ h) in (_, e.of u.0 x.0 x.1))

level_back : (c : ShownChain) (more : List ShownChainStep) → OfChain (chain.Level c.0 (map (λ i. i.0) more))
level_back c [] j h = let z : fits None j ≡ true = ap (λ z. fits z j) (sym (chain_level c.0 [])) ∙ h in absurd (cc)
level_back c (x ∷ more) j h =
    let r = (step_top x.0).0 in
    let z = level_fits _ r j (ap (λ z. fits z j) (sym (chain_level c.0 (map (λ i. i.0) (x ∷ more)))) ∙ h) in
    let y = two _ _ z.0 in
    let a = c.1 r y.0 in
    let b = steps_back r (x ∷ more) y.1 in
    (_, raise (suc r) j z.1 _ _ (e.level r c.0 x.0 (map (λ i. i.0) more) a.0 b.0 a.1 b.1))

back_chain : (y : o.Chain-F ShownAssign ShownCast ShownChain ShownPostStep ShownPrimary ShownUnary ShownChainStep ShownChoice ShownCommaStep ShownCond ShownExpr ShownPost) → OfChain (roll-Chain (f.map-Chain ShownAssign ShownCast ShownChain ShownPostStep ShownPrimary ShownUnary ShownChainStep ShownChoice ShownCommaStep ShownCond ShownExpr ShownPost Assign Cast Chain PostStep Primary Unary ChainStep Choice CommaStep Cond Expr Post (λ i. i.0) (λ i. i.0) (λ i. i.0) (λ i. i.0) (λ i. i.0) (λ i. i.0) (λ i. i.0) (λ i. i.0) (λ i. i.0) (λ i. i.0) (λ i. i.0) (λ i. i.0) y))
back_chain (o.One c) = subst OfChain (sym (chain.rolls-One c.0)) (λ j h. let x = c.1 (one_fits (cast_proper c.0) j (ap (λ z. fits z j) (sym (chain_one c.0)) ∙ h)) in (_, raise 0 j (omega arith) _ _ (e.operand c.0 x.0 x.1)))
back_chain (o.Level c more) = subst OfChain (sym (chain.rolls-Level c.0 (map (λ i. i.0) more))) (level_back c more)

back_post_step : (y : o.PostStep-F ShownAssign ShownCast ShownChain ShownPostStep ShownPrimary ShownUnary ShownChainStep ShownChoice ShownCommaStep ShownCond ShownExpr ShownPost) → OfPostStep (roll-PostStep (f.map-PostStep ShownAssign ShownCast ShownChain ShownPostStep ShownPrimary ShownUnary ShownChainStep ShownChoice ShownCommaStep ShownCond ShownExpr ShownPost Assign Cast Chain PostStep Primary Unary ChainStep Choice CommaStep Cond Expr Post (λ i. i.0) (λ i. i.0) (λ i. i.0) (λ i. i.0) (λ i. i.0) (λ i. i.0) (λ i. i.0) (λ i. i.0) (λ i. i.0) (λ i. i.0) (λ i. i.0) (λ i. i.0) y))
back_post_step (o.Index l x r) = subst OfPostStep (sym (post_step.rolls-Index l x.0 r)) (λ h more n t. let z = three _ _ _ (sym (post_step_index l x.0 r) ∙ h) in let y = x.1 z.1 in (_, e.index l r x.0 more y.0 n z.0 y.1 z.2 t))
back_post_step (o.PostStep::Step t) = subst OfPostStep (sym (post_step.rolls-Step t)) (λ h more n i. (_, e.after t more n (sym (post_step_step t) ∙ h) i))

back_primary : (y : o.Primary-F ShownAssign ShownCast ShownChain ShownPostStep ShownPrimary ShownUnary ShownChainStep ShownChoice ShownCommaStep ShownCond ShownExpr ShownPost) → OfPrimary (roll-Primary (f.map-Primary ShownAssign ShownCast ShownChain ShownPostStep ShownPrimary ShownUnary ShownChainStep ShownChoice ShownCommaStep ShownCond ShownExpr ShownPost Assign Cast Chain PostStep Primary Unary ChainStep Choice CommaStep Cond Expr Post (λ i. i.0) (λ i. i.0) (λ i. i.0) (λ i. i.0) (λ i. i.0) (λ i. i.0) (λ i. i.0) (λ i. i.0) (λ i. i.0) (λ i. i.0) (λ i. i.0) (λ i. i.0) y))
back_primary (o.Name t) = subst OfPrimary (sym (primary.rolls-Name t)) (λ h. (_, e.name t (sym (primary_name t) ∙ h)))
back_primary (o.Number t) = subst OfPrimary (sym (primary.rolls-Number t)) (λ h. (_, e.number t (sym (primary_number t) ∙ h)))
back_primary (o.Paren l x r) = subst OfPrimary (sym (primary.rolls-Paren l x.0 r)) (λ h. let z = three _ _ _ (sym (primary_paren l x.0 r) ∙ h) in let y = x.1 z.1 in (_, e.paren l r x.0 y.0 z.0 y.1 z.2))
back_primary (o.Call t l None r) = subst OfPrimary (sym (primary.rolls-Call t l None r)) (λ h. let z = four _ _ _ _ (sym (primary_call0 t l r) ∙ h) in (_, e.call0 t l r z.0 z.1 z.3))
back_primary (o.Call t l (Some x) r) = subst OfPrimary (sym (primary.rolls-Call t l (Some x.0) r)) (λ h. let z = four _ _ _ _ (sym (primary_call t l x.0 r) ∙ h) in let y = x.1 z.2 in (_, e.call t l r x.0 y.0 z.0 z.1 y.1 z.3))

back_unary : (y : o.Unary-F ShownAssign ShownCast ShownChain ShownPostStep ShownPrimary ShownUnary ShownChainStep ShownChoice ShownCommaStep ShownCond ShownExpr ShownPost) → OfUnary (roll-Unary (f.map-Unary ShownAssign ShownCast ShownChain ShownPostStep ShownPrimary ShownUnary ShownChainStep ShownChoice ShownCommaStep ShownCond ShownExpr ShownPost Assign Cast Chain PostStep Primary Unary ChainStep Choice CommaStep Cond Expr Post (λ i. i.0) (λ i. i.0) (λ i. i.0) (λ i. i.0) (λ i. i.0) (λ i. i.0) (λ i. i.0) (λ i. i.0) (λ i. i.0) (λ i. i.0) (λ i. i.0) (λ i. i.0) y))
back_unary (o.Post x) = subst OfUnary (sym (unary.rolls-Post x.0)) (λ h. let y = x.1 (sym (unary_post x.0) ∙ h) in (_, e.postfix x.0 y.0 y.1))
back_unary (o.Unary::Step t u) = subst OfUnary (sym (unary.rolls-Step t u.0)) (λ h. let z = two _ _ (sym (unary_step t u.0) ∙ h) in let y = u.1 z.1 in (_, e.before t u.0 y.0 z.0 y.1))
back_unary (o.Prefix t c) = subst OfUnary (sym (unary.rolls-Prefix t c.0)) (λ h. let z = two _ _ (sym (unary_prefix t c.0) ∙ h) in let y = c.1 z.1 in (_, e.prefix t c.0 y.0 z.0 y.1))

back_chain_step : (y : o.ChainStep-F ShownAssign ShownCast ShownChain ShownPostStep ShownPrimary ShownUnary ShownChainStep ShownChoice ShownCommaStep ShownCond ShownExpr ShownPost) → OfChainStep (roll-ChainStep (f.map-ChainStep ShownAssign ShownCast ShownChain ShownPostStep ShownPrimary ShownUnary ShownChainStep ShownChoice ShownCommaStep ShownCond ShownExpr ShownPost Assign Cast Chain PostStep Primary Unary ChainStep Choice CommaStep Cond Expr Post (λ i. i.0) (λ i. i.0) (λ i. i.0) (λ i. i.0) (λ i. i.0) (λ i. i.0) (λ i. i.0) (λ i. i.0) (λ i. i.0) (λ i. i.0) (λ i. i.0) (λ i. i.0) y))
back_chain_step y = λ j h more n i. let z = two _ _ (ap (step_fits j) (sym (chain_step_is y.operator y.operand.0)) ∙ h) in let x = y.operand.1 j z.1 in (_, e.step j y.operator y.operand.0 more x.0 n z.0 x.1 i)

back_choice : (y : o.Choice-F ShownAssign ShownCast ShownChain ShownPostStep ShownPrimary ShownUnary ShownChainStep ShownChoice ShownCommaStep ShownCond ShownExpr ShownPost) → OfChoice (roll-Choice (f.map-Choice ShownAssign ShownCast ShownChain ShownPostStep ShownPrimary ShownUnary ShownChainStep ShownChoice ShownCommaStep ShownCond ShownExpr ShownPost Assign Cast Chain PostStep Primary Unary ChainStep Choice CommaStep Cond Expr Post (λ i. i.0) (λ i. i.0) (λ i. i.0) (λ i. i.0) (λ i. i.0) (λ i. i.0) (λ i. i.0) (λ i. i.0) (λ i. i.0) (λ i. i.0) (λ i. i.0) (λ i. i.0) y))
back_choice y = λ h c m i. let z = four _ _ _ _ (sym (choice_is y.question y.yes.0 y.colon y.no.0) ∙ h) in let a = y.yes.1 z.1 in let b = y.no.1 z.3 in (_, e.choice c y.question y.colon y.yes.0 y.no.0 m a.0 b.0 i z.0 a.1 z.2 b.1)

back_comma_step : (y : o.CommaStep-F ShownAssign ShownCast ShownChain ShownPostStep ShownPrimary ShownUnary ShownChainStep ShownChoice ShownCommaStep ShownCond ShownExpr ShownPost) → OfCommaStep (roll-CommaStep (f.map-CommaStep ShownAssign ShownCast ShownChain ShownPostStep ShownPrimary ShownUnary ShownChainStep ShownChoice ShownCommaStep ShownCond ShownExpr ShownPost Assign Cast Chain PostStep Primary Unary ChainStep Choice CommaStep Cond Expr Post (λ i. i.0) (λ i. i.0) (λ i. i.0) (λ i. i.0) (λ i. i.0) (λ i. i.0) (λ i. i.0) (λ i. i.0) (λ i. i.0) (λ i. i.0) (λ i. i.0) (λ i. i.0) y))
back_comma_step y = λ h more n i. let z = two _ _ (sym (comma_step_is y.comma y.value.0) ∙ h) in let a = y.value.1 z.1 in (_, e.comma y.comma y.value.0 more a.0 n z.0 a.1 i)

cond_back : (c : ShownChain) (x : Option ShownChoice) → OfCond (roll-Cond (f.map-Cond ShownAssign ShownCast ShownChain ShownPostStep ShownPrimary ShownUnary ShownChainStep ShownChoice ShownCommaStep ShownCond ShownExpr ShownPost Assign Cast Chain PostStep Primary Unary ChainStep Choice CommaStep Cond Expr Post (λ i. i.0) (λ i. i.0) (λ i. i.0) (λ i. i.0) (λ i. i.0) (λ i. i.0) (λ i. i.0) (λ i. i.0) (λ i. i.0) (λ i. i.0) (λ i. i.0) (λ i. i.0) (record { test = c; choice = x })))
cond_back c None = λ h. let z = two _ _ (sym (cond_test_is c.0) ∙ h) in let a = c.1 ranks z.0 in (_, e.test c.0 a.0 a.1)
cond_back c (Some x) = λ h. let z = two _ _ (sym (cond_choice_is c.0 x.0) ∙ h) in let a = c.1 ranks z.0 in x.1 z.1 c.0 a.0 a.1

back_cond : (y : o.Cond-F ShownAssign ShownCast ShownChain ShownPostStep ShownPrimary ShownUnary ShownChainStep ShownChoice ShownCommaStep ShownCond ShownExpr ShownPost) → OfCond (roll-Cond (f.map-Cond ShownAssign ShownCast ShownChain ShownPostStep ShownPrimary ShownUnary ShownChainStep ShownChoice ShownCommaStep ShownCond ShownExpr ShownPost Assign Cast Chain PostStep Primary Unary ChainStep Choice CommaStep Cond Expr Post (λ i. i.0) (λ i. i.0) (λ i. i.0) (λ i. i.0) (λ i. i.0) (λ i. i.0) (λ i. i.0) (λ i. i.0) (λ i. i.0) (λ i. i.0) (λ i. i.0) (λ i. i.0) y))
back_cond y = cond_back y.test y.choice

back_expr : (y : o.Expr-F ShownAssign ShownCast ShownChain ShownPostStep ShownPrimary ShownUnary ShownChainStep ShownChoice ShownCommaStep ShownCond ShownExpr ShownPost) → OfExpr (roll-Expr (f.map-Expr ShownAssign ShownCast ShownChain ShownPostStep ShownPrimary ShownUnary ShownChainStep ShownChoice ShownCommaStep ShownCond ShownExpr ShownPost Assign Cast Chain PostStep Primary Unary ChainStep Choice CommaStep Cond Expr Post (λ i. i.0) (λ i. i.0) (λ i. i.0) (λ i. i.0) (λ i. i.0) (λ i. i.0) (λ i. i.0) (λ i. i.0) (λ i. i.0) (λ i. i.0) (λ i. i.0) (λ i. i.0) y))
back_expr y = λ h. let z = two _ _ (sym (expr_is y.first.0 (map (λ i. i.0) y.rest)) ∙ h) in let a = y.first.1 z.0 in let b = commas_back y.rest z.1 in (_, e.list y.first.0 (map (λ i. i.0) y.rest) a.0 b.0 a.1 b.1)

back_post : (y : o.Post-F ShownAssign ShownCast ShownChain ShownPostStep ShownPrimary ShownUnary ShownChainStep ShownChoice ShownCommaStep ShownCond ShownExpr ShownPost) → OfPost (roll-Post (f.map-Post ShownAssign ShownCast ShownChain ShownPostStep ShownPrimary ShownUnary ShownChainStep ShownChoice ShownCommaStep ShownCond ShownExpr ShownPost Assign Cast Chain PostStep Primary Unary ChainStep Choice CommaStep Cond Expr Post (λ i. i.0) (λ i. i.0) (λ i. i.0) (λ i. i.0) (λ i. i.0) (λ i. i.0) (λ i. i.0) (λ i. i.0) (λ i. i.0) (λ i. i.0) (λ i. i.0) (λ i. i.0) y))
back_post y = λ h. let z = two _ _ (sym (post_is y.primary.0 (map (λ i. i.0) y.rest)) ∙ h) in let a = y.primary.1 z.0 in let b = posts_back y.rest z.1 in (_, e.steps y.primary.0 (map (λ i. i.0) y.rest) a.0 b.0 a.1 b.1)

pub expr_spelled : (v : Expr) → OfExpr v
expr_spelled = f.ind-Expr OfAssign OfCast OfChain OfPostStep OfPrimary OfUnary OfChainStep OfChoice OfCommaStep OfCond OfExpr OfPost
    (λ x y is. subst (λ z. OfAssign (roll-Assign z)) is (back_assign y))
    (λ x y is. subst (λ z. OfCast (roll-Cast z)) is (back_cast y))
    (λ x y is. subst (λ z. OfChain (roll-Chain z)) is (back_chain y))
    (λ x y is. subst (λ z. OfPostStep (roll-PostStep z)) is (back_post_step y))
    (λ x y is. subst (λ z. OfPrimary (roll-Primary z)) is (back_primary y))
    (λ x y is. subst (λ z. OfUnary (roll-Unary z)) is (back_unary y))
    (λ x y is. subst (λ z. OfChainStep (roll-ChainStep z)) is (back_chain_step y))
    (λ x y is. subst (λ z. OfChoice (roll-Choice z)) is (back_choice y))
    (λ x y is. subst (λ z. OfCommaStep (roll-CommaStep z)) is (back_comma_step y))
    (λ x y is. subst (λ z. OfCond (roll-Cond z)) is (back_cond y))
    (λ x y is. subst (λ z. OfExpr (roll-Expr z)) is (back_expr y))
    (λ x y is. subst (λ z. OfPost (roll-Post z)) is (back_post y))

pub assign_spelled : (v : Assign) → OfAssign v
assign_spelled = f.ind-Assign OfAssign OfCast OfChain OfPostStep OfPrimary OfUnary OfChainStep OfChoice OfCommaStep OfCond OfExpr OfPost
    (λ x y is. subst (λ z. OfAssign (roll-Assign z)) is (back_assign y))
    (λ x y is. subst (λ z. OfCast (roll-Cast z)) is (back_cast y))
    (λ x y is. subst (λ z. OfChain (roll-Chain z)) is (back_chain y))
    (λ x y is. subst (λ z. OfPostStep (roll-PostStep z)) is (back_post_step y))
    (λ x y is. subst (λ z. OfPrimary (roll-Primary z)) is (back_primary y))
    (λ x y is. subst (λ z. OfUnary (roll-Unary z)) is (back_unary y))
    (λ x y is. subst (λ z. OfChainStep (roll-ChainStep z)) is (back_chain_step y))
    (λ x y is. subst (λ z. OfChoice (roll-Choice z)) is (back_choice y))
    (λ x y is. subst (λ z. OfCommaStep (roll-CommaStep z)) is (back_comma_step y))
    (λ x y is. subst (λ z. OfCond (roll-Cond z)) is (back_cond y))
    (λ x y is. subst (λ z. OfExpr (roll-Expr z)) is (back_expr y))
    (λ x y is. subst (λ z. OfPost (roll-Post z)) is (back_post y))

-- ---- declarations

optional_back : (i : Kind) (v : Option Token) → optional_proper i v ≡ true → Spelled (g.IsOptional i) v
optional_back i None h = (_, g.absent i)
optional_back i (Some t) h = (_, g.present i t h)

pointer_back : (v : Pointer) → pointer_proper v ≡ true → Spelled g.IsPointer v
pointer_back v h =
    let z = seven _ _ _ _ _ _ _ h in
    let c = optional_back k.Const v.outer_const z.0 in
    let d = optional_back k.Const v.inner_const z.2 in
    let x = scalar_back v.element z.3 in
    let q = optional_back k.Const v.own_const z.5 in
    let r = optional_back k.Restrict v.restrict z.6 in
    (_, g.pointer v.outer_const v.space v.inner_const v.element v.star v.own_const v.restrict c.0 d.0 x.0 q.0 r.0 c.1 z.1 d.1 x.1 z.4 q.1 r.1)

init_back : (v : Option Init) → init_proper v ≡ true → Spelled g.IsInit v
init_back None h = (_, g.no_init)
init_back (Some i) h = let z = two _ _ h in let a = assign_spelled i.value z.1 in (_, g.init i.equals i.value a.0 z.0 a.1)

item_back : (v : Item) → item_proper v ≡ true → Spelled g.IsItem v
item_back (item.Array t l x r) h = let z = four _ _ _ _ h in (_, g.array t l x r z.0 z.1 z.2 z.3)
item_back (item.Value t i) h = let z = two _ _ h in let a = init_back i z.1 in (_, g.variable t i a.0 z.0 a.1)

items_back : (v : List ItemStep) → all (map item_step_proper v) ≡ true → Spelled g.AreItems v
items_back [] h = (_, g.no_item)
items_back (x ∷ more) h =
    let z = two _ _ h in
    let y = two _ _ z.0 in
    let a = item_back x.item y.1 in
    let b = items_back more z.1 in
    (_, g.one_item x.comma x.item more a.0 b.0 y.0 a.1 b.1)

declare_back : (v : Declare) → declare_proper v ≡ true → Spelled g.IsDeclare v
declare_back (declare.Values c s i more t) h =
    let z = five _ _ _ _ _ h in
    let a = optional_back k.Const c z.0 in
    let b = scalar_back s z.1 in
    let d = item_back i z.2 in
    let x = items_back more z.3 in
    (_, g.values c s i more t a.0 b.0 d.0 x.0 a.1 b.1 d.1 x.1 z.4)
declare_back (declare.Pointer x t i u) h =
    let z = four _ _ _ _ h in
    let a = pointer_back x z.0 in
    let b = init_back i z.2 in
    (_, g.pointers x t i u a.0 b.0 a.1 z.1 b.1 z.3)

maybe_back : (v : Option Expr) → maybe_proper v ≡ true → Spelled g.IsMaybe v
maybe_back None h = (_, g.nothing)
maybe_back (Some x) h = let a = expr_spelled x h in (_, g.some x a.0 a.1)

for_start_back : (v : ForStart) → for_start_proper v ≡ true → Spelled g.IsForStart v
for_start_back (start.Declare d) h = let a = declare_back d h in (_, g.declares d a.0 a.1)
for_start_back (start.Eval x t) h = let z = two _ _ h in let a = maybe_back x z.0 in (_, g.evaluates x t a.0 a.1 z.1)

-- ---- what is shown of each part of a statement

abbrev OfBlockPart : BlockPart → Type 0
OfBlockPart v = part_proper v ≡ true → Spelled g.IsPart v

abbrev OfStmt : Stmt → Type 0
OfStmt v = (b : Bool) → stmt_open v ≡ Some b → Spelled (g.IsStmt b) v

abbrev OfBlock : Block → Type 0
OfBlock v = block_proper v ≡ true → Spelled g.IsBlock v

abbrev OfDo : Do → Type 0
OfDo v = (b : Bool) → do_open v ≡ Some b → Spelled (g.IsStmt b) (stmt.Do v)

abbrev OfElse : Else → Type 0
OfElse v = (b : Bool) → else_open v ≡ Some b → (u l : Token) (x : Expr) (r : Token) (y : Stmt) (m n : Spelling Token)
    → is k.If u ≡ true → is k.LeftParen l ≡ true → e.IsExpr x m → is k.RightParen r ≡ true → g.IsStmt false y n → Spelled (g.IsStmt b) (g.if_of u l x r y (Some v))

abbrev OfFor : For → Type 0
OfFor v = (b : Bool) → for_open v ≡ Some b → Spelled (g.IsStmt b) (stmt.For v)

abbrev OfIf : If → Type 0
OfIf v = (b : Bool) → if_open v ≡ Some b → Spelled (g.IsStmt b) (stmt.If v)

abbrev OfWhile : While → Type 0
OfWhile v = (b : Bool) → while_open v ≡ Some b → Spelled (g.IsStmt b) (stmt.While v)

abbrev ShownBlockPart : Type 0
ShownBlockPart = (v : BlockPart) × OfBlockPart v

abbrev ShownStmt : Type 0
ShownStmt = (v : Stmt) × OfStmt v

abbrev ShownBlock : Type 0
ShownBlock = (v : Block) × OfBlock v

abbrev ShownDo : Type 0
ShownDo = (v : Do) × OfDo v

abbrev ShownElse : Type 0
ShownElse = (v : Else) × OfElse v

abbrev ShownFor : Type 0
ShownFor = (v : For) × OfFor v

abbrev ShownIf : Type 0
ShownIf = (v : If) × OfIf v

abbrev ShownWhile : Type 0
ShownWhile = (v : While) × OfWhile v

parts_back : (v : List ShownBlockPart) → all (map part_proper (map (λ i. i.0) v)) ≡ true → Spelled g.AreParts (map (λ i. i.0) v)
parts_back [] h = ([], g.no_part)
parts_back (x ∷ more) h = let y = two _ _ h in let a = x.1 y.0 in let rest = parts_back more y.1 in (_, g.one_part x.0 (map (λ i. i.0) more) a.0 rest.0 a.1 rest.1)

some_back : (x : ShownStmt) (found : Option Bool) → stmt_open x.0 ≡ found → is_some found ≡ true → Spelled g.IsPart (block_part.Stmt x.0)
some_back x None i h = absurd (cc)
some_back x (Some b) i h = let a = x.1 b i in (_, g.statement b x.0 a.0 a.1)

same : (a b : Bool) → ◌≡◌ {A = Option Bool} (Some a) (Some b) → a ≡ b
same a b h = cc

-- a statement that takes no `else`
closed : (b : Bool) (v : Stmt) → ◌≡◌ {A = Option Bool} (Some false) (Some b) → Spelled (g.IsStmt false) v → Spelled (g.IsStmt b) v
closed b v h x = subst (λ z. Spelled (g.IsStmt z) v) (same false b h) x

tested_back : (l : Token) (x : Expr) (r : Token) → tested_proper l x r ≡ true → (is k.LeftParen l ≡ true) × Spelled e.IsExpr x × (is k.RightParen r ≡ true)
tested_back l x r h = let z = three _ _ _ h in (z.0, expr_spelled x z.1, z.2)

when_back : (u l : Token) (x : Expr) (r : Token) (y : ShownStmt) (b : Bool) → is k.If u ≡ true → tested_proper l x r ≡ true → (found : Option Bool) → stmt_open y.0 ≡ found
    → branches found None ≡ Some b → Spelled (g.IsStmt b) (g.if_of u l x r y.0 None)
when_back u l x r y b hu ht None i h = absurd (cc)
when_back u l x r y b hu ht (Some c) i h =
    let t = tested_back l x r ht in
    let a = y.1 c i in
    subst (λ z. Spelled (g.IsStmt z) (g.if_of u l x r y.0 None)) (same true b h) (_, g.when u l x r c y.0 t.1.0 a.0 hu t.0 t.1.1 t.2 a.1)

choose_back : (u l : Token) (x : Expr) (r : Token) (y : ShownStmt) (w : ShownElse) (b : Bool) → is k.If u ≡ true → tested_proper l x r ≡ true → (found : Option Bool) → stmt_open y.0 ≡ found
    → branches found (Some (else_open w.0)) ≡ Some b → Spelled (g.IsStmt b) (g.if_of u l x r y.0 (Some w.0))
choose_back u l x r y w b hu ht None i h = absurd (cc)
choose_back u l x r y w b hu ht (Some true) i h = absurd (cc)
choose_back u l x r y w b hu ht (Some false) i h =
    let t = tested_back l x r ht in
    let a = y.1 false i in
    w.1 b h u l x r y.0 t.1.0 a.0 hu t.0 t.1.1 t.2 a.1

do_back : (u : Token) (y : ShownStmt) (d l : Token) (x : Expr) (r t : Token) (b : Bool) → is k.Do u ≡ true → is k.While d ≡ true → tested_proper l x r ≡ true → is k.Semicolon t ≡ true
    → (found : Option Bool) → stmt_open y.0 ≡ found → closes found ≡ Some b → Spelled (g.IsStmt b) (g.do_of u y.0 d l x r t)
do_back u y d l x r t b hu hd ht he None i h = absurd (cc)
do_back u y d l x r t b hu hd ht he (Some c) i h =
    let z = tested_back l x r ht in
    let a = y.1 c i in
    closed b _ h (_, g.until u c y.0 d l x r t a.0 z.1.0 hu a.1 hd z.0 z.1.1 z.2 he)

back_block_part : (y : s.BlockPart-F ShownBlockPart ShownStmt ShownBlock ShownDo ShownElse ShownFor ShownIf ShownWhile) → OfBlockPart (roll-BlockPart (h.map-BlockPart ShownBlockPart ShownStmt ShownBlock ShownDo ShownElse ShownFor ShownIf ShownWhile BlockPart Stmt Block Do Else For If While (λ i. i.0) (λ i. i.0) (λ i. i.0) (λ i. i.0) (λ i. i.0) (λ i. i.0) (λ i. i.0) (λ i. i.0) y))
back_block_part (s.Declare d) = subst OfBlockPart (sym (block_part.rolls-Declare d)) (λ h. let a = declare_back d (sym (block_part_declare d) ∙ h) in (_, g.declaration d a.0 a.1))
back_block_part (s.Stmt x) = subst OfBlockPart (sym (block_part.rolls-Stmt x.0)) (λ h. some_back x (stmt_open x.0) refl (sym (block_part_stmt x.0) ∙ h))

back_stmt : (y : s.Stmt-F ShownBlockPart ShownStmt ShownBlock ShownDo ShownElse ShownFor ShownIf ShownWhile) → OfStmt (roll-Stmt (h.map-Stmt ShownBlockPart ShownStmt ShownBlock ShownDo ShownElse ShownFor ShownIf ShownWhile BlockPart Stmt Block Do Else For If While (λ i. i.0) (λ i. i.0) (λ i. i.0) (λ i. i.0) (λ i. i.0) (λ i. i.0) (λ i. i.0) (λ i. i.0) y))
back_stmt (s.Block x) = subst OfStmt (sym (stmt.rolls-Block x.0)) (λ b h. let z = when_some _ _ b (sym (stmt_block x.0) ∙ h) in let a = x.1 z.0 in closed b _ z.1 (_, g.compound x.0 a.0 a.1))
back_stmt (s.Eval x t) = subst OfStmt (sym (stmt.rolls-Eval x t)) (λ b h. let z = when_some _ _ b (sym (stmt_eval x t) ∙ h) in let y = two _ _ z.0 in let a = expr_spelled x y.0 in closed b _ z.1 (_, g.eval x t a.0 a.1 y.1))
back_stmt (s.Empty t) = subst OfStmt (sym (stmt.rolls-Empty t)) (λ b h. let z = when_some _ _ b (sym (stmt_empty t) ∙ h) in closed b _ z.1 (_, g.empty t z.0))
back_stmt (s.If x) = subst OfStmt (sym (stmt.rolls-If x.0)) (λ b h. x.1 b (sym (stmt_if x.0) ∙ h))
back_stmt (s.While x) = subst OfStmt (sym (stmt.rolls-While x.0)) (λ b h. x.1 b (sym (stmt_while x.0) ∙ h))
back_stmt (s.Do x) = subst OfStmt (sym (stmt.rolls-Do x.0)) (λ b h. x.1 b (sym (stmt_do x.0) ∙ h))
back_stmt (s.For x) = subst OfStmt (sym (stmt.rolls-For x.0)) (λ b h. x.1 b (sym (stmt_for x.0) ∙ h))
back_stmt (s.Break u t) = subst OfStmt (sym (stmt.rolls-Break u t)) (λ b h. let z = when_some _ _ b (sym (stmt_break u t) ∙ h) in let c = two _ _ z.0 in closed b _ z.1 (_, g.break u t c.0 c.1))
back_stmt (s.Continue u t) = subst OfStmt (sym (stmt.rolls-Continue u t)) (λ b h. let z = when_some _ _ b (sym (stmt_continue u t) ∙ h) in let c = two _ _ z.0 in closed b _ z.1 (_, g.continue u t c.0 c.1))
back_stmt (s.Return u x t) = subst OfStmt (sym (stmt.rolls-Return u x t)) (λ b h. let z = when_some _ _ b (sym (stmt_return u x t) ∙ h) in let c = three _ _ _ z.0 in let a = maybe_back x c.1 in closed b _ z.1 (_, g.return u x t a.0 c.0 a.1 c.2))

back_block : (y : s.Block-F ShownBlockPart ShownStmt ShownBlock ShownDo ShownElse ShownFor ShownIf ShownWhile) → OfBlock (roll-Block (h.map-Block ShownBlockPart ShownStmt ShownBlock ShownDo ShownElse ShownFor ShownIf ShownWhile BlockPart Stmt Block Do Else For If While (λ i. i.0) (λ i. i.0) (λ i. i.0) (λ i. i.0) (λ i. i.0) (λ i. i.0) (λ i. i.0) (λ i. i.0) y))
back_block y = λ h. let z = three _ _ _ (sym (block_is y.opening (map (λ i. i.0) y.parts) y.closing) ∙ h) in let a = parts_back y.parts z.1 in (_, g.block y.opening y.closing (map (λ i. i.0) y.parts) a.0 z.0 a.1 z.2)

if_back : (u l : Token) (x : Expr) (r : Token) (y : ShownStmt) (w : Option ShownElse) → OfIf (roll-If (h.map-If ShownBlockPart ShownStmt ShownBlock ShownDo ShownElse ShownFor ShownIf ShownWhile BlockPart Stmt Block Do Else For If While (λ i. i.0) (λ i. i.0) (λ i. i.0) (λ i. i.0) (λ i. i.0) (λ i. i.0) (λ i. i.0) (λ i. i.0) (record { word = u; opening = l; test = x; closing = r; body = y; other = w })))
if_back u l x r y None = λ b h. let z = when_some _ _ b (sym (stmt_when u l x r y.0) ∙ stmt_if _ ∙ h) in let c = two _ _ z.0 in when_back u l x r y b c.0 c.1 (stmt_open y.0) refl z.1
if_back u l x r y (Some w) = λ b h. let z = when_some _ _ b (sym (stmt_choose u l x r y.0 w.0) ∙ stmt_if _ ∙ h) in let c = two _ _ z.0 in choose_back u l x r y w b c.0 c.1 (stmt_open y.0) refl z.1

back_if : (y : s.If-F ShownBlockPart ShownStmt ShownBlock ShownDo ShownElse ShownFor ShownIf ShownWhile) → OfIf (roll-If (h.map-If ShownBlockPart ShownStmt ShownBlock ShownDo ShownElse ShownFor ShownIf ShownWhile BlockPart Stmt Block Do Else For If While (λ i. i.0) (λ i. i.0) (λ i. i.0) (λ i. i.0) (λ i. i.0) (λ i. i.0) (λ i. i.0) (λ i. i.0) y))
back_if y = if_back y.word y.opening y.test y.closing y.body y.other

back_while : (y : s.While-F ShownBlockPart ShownStmt ShownBlock ShownDo ShownElse ShownFor ShownIf ShownWhile) → OfWhile (roll-While (h.map-While ShownBlockPart ShownStmt ShownBlock ShownDo ShownElse ShownFor ShownIf ShownWhile BlockPart Stmt Block Do Else For If While (λ i. i.0) (λ i. i.0) (λ i. i.0) (λ i. i.0) (λ i. i.0) (λ i. i.0) (λ i. i.0) (λ i. i.0) y))
back_while y = λ b h. let z = when_some _ _ b (sym (stmt_loop y.word y.opening y.test y.closing y.body.0) ∙ stmt_while _ ∙ h) in let c = two _ _ z.0 in let t = tested_back y.opening y.test y.closing c.1 in let a = y.body.1 b z.1 in (_, g.loop y.word y.opening y.test y.closing b y.body.0 t.1.0 a.0 c.0 t.0 t.1.1 t.2 a.1)

back_do : (y : s.Do-F ShownBlockPart ShownStmt ShownBlock ShownDo ShownElse ShownFor ShownIf ShownWhile) → OfDo (roll-Do (h.map-Do ShownBlockPart ShownStmt ShownBlock ShownDo ShownElse ShownFor ShownIf ShownWhile BlockPart Stmt Block Do Else For If While (λ i. i.0) (λ i. i.0) (λ i. i.0) (λ i. i.0) (λ i. i.0) (λ i. i.0) (λ i. i.0) (λ i. i.0) y))
back_do y = λ b h. let z = when_some _ _ b (sym (stmt_until y.word y.body.0 y.until y.opening y.test y.closing y.end) ∙ stmt_do _ ∙ h) in let c = four _ _ _ _ z.0 in do_back y.word y.body y.until y.opening y.test y.closing y.end b c.0 c.1 c.2 c.3 (stmt_open y.body.0) refl z.1

back_for : (y : s.For-F ShownBlockPart ShownStmt ShownBlock ShownDo ShownElse ShownFor ShownIf ShownWhile) → OfFor (roll-For (h.map-For ShownBlockPart ShownStmt ShownBlock ShownDo ShownElse ShownFor ShownIf ShownWhile BlockPart Stmt Block Do Else For If While (λ i. i.0) (λ i. i.0) (λ i. i.0) (λ i. i.0) (λ i. i.0) (λ i. i.0) (λ i. i.0) (λ i. i.0) y))
back_for y = λ b h. let z = when_some _ _ b (sym (stmt_count y.word y.opening y.start y.test y.middle y.step y.closing y.body.0) ∙ stmt_for _ ∙ h) in let c = four _ _ _ _ z.0 in let d = four _ _ _ _ c.2 in let j = for_start_back y.start d.0 in let m = maybe_back y.test d.1 in let n = maybe_back y.step d.3 in let a = y.body.1 b z.1 in (_, g.count y.word y.opening y.start y.test y.middle y.step y.closing b y.body.0 j.0 m.0 n.0 a.0 c.0 c.1 j.1 m.1 d.2 n.1 c.3 a.1)

back_else : (y : s.Else-F ShownBlockPart ShownStmt ShownBlock ShownDo ShownElse ShownFor ShownIf ShownWhile) → OfElse (roll-Else (h.map-Else ShownBlockPart ShownStmt ShownBlock ShownDo ShownElse ShownFor ShownIf ShownWhile BlockPart Stmt Block Do Else For If While (λ i. i.0) (λ i. i.0) (λ i. i.0) (λ i. i.0) (λ i. i.0) (λ i. i.0) (λ i. i.0) (λ i. i.0) y))
back_else y = λ b h u l x r v m n hu hl hx hr hv. let z = when_some _ _ b (sym (else_is y.word y.body.0) ∙ h) in let a = y.body.1 b z.1 in (_, g.choose u l x r v y.word b y.body.0 m n a.0 hu hl hx hr hv z.0 a.1)

block_spelled : (v : Block) → OfBlock v
block_spelled = h.ind-Block OfBlockPart OfStmt OfBlock OfDo OfElse OfFor OfIf OfWhile
    (λ x y is. subst (λ z. OfBlockPart (roll-BlockPart z)) is (back_block_part y))
    (λ x y is. subst (λ z. OfStmt (roll-Stmt z)) is (back_stmt y))
    (λ x y is. subst (λ z. OfBlock (roll-Block z)) is (back_block y))
    (λ x y is. subst (λ z. OfDo (roll-Do z)) is (back_do y))
    (λ x y is. subst (λ z. OfElse (roll-Else z)) is (back_else y))
    (λ x y is. subst (λ z. OfFor (roll-For z)) is (back_for y))
    (λ x y is. subst (λ z. OfIf (roll-If z)) is (back_if y))
    (λ x y is. subst (λ z. OfWhile (roll-While z)) is (back_while y))

-- ---- functions and programs

param_back : (v : Param) → param_proper v ≡ true → Spelled p.IsParam v
param_back (param.Value c s t) h =
    let z = three _ _ _ h in
    let a = optional_back k.Const c z.0 in
    let b = scalar_back s z.1 in
    (_, p.value c s t a.0 b.0 a.1 b.1 z.2)
param_back (param.Pointer x t) h = let z = two _ _ h in let a = pointer_back x z.0 in (_, p.pointer x t a.0 a.1 z.1)

params_after_back : (v : List ParamStep) → all (map param_step_proper v) ≡ true → Spelled p.AreParams v
params_after_back [] h = (_, p.no_param)
params_after_back (x ∷ more) h =
    let z = two _ _ h in
    let y = two _ _ z.0 in
    let a = param_back x.param y.1 in
    let b = params_after_back more z.1 in
    (_, p.one_param x.comma x.param more a.0 b.0 y.0 a.1 b.1)

params_back : (v : Option Params) → params_proper v ≡ true → Spelled p.IsParams v
params_back None h = (_, p.none)
params_back (Some (params.Void t)) h = (_, p.void t h)
params_back (Some (params.List x more)) h =
    let z = two _ _ h in
    let a = param_back x z.0 in
    let b = params_after_back more z.1 in
    (_, p.list x more a.0 b.0 a.1 b.1)

returns_back : (v : Returns) → returns_proper v ≡ true → Spelled p.IsReturns v
returns_back (returns.Void t) h = (_, p.nothing t h)
returns_back (returns.Value s) h = let a = scalar_back s h in (_, p.scalar s a.0 a.1)

function_back : (v : Function) → function_proper v ≡ true → Spelled p.IsFunction v
function_back v h =
    let z = seven _ _ _ _ _ _ _ h in
    let l = optional_back k.Lead v.lead z.0 in
    let r = returns_back v.returns z.1 in
    let q = params_back v.params z.4 in
    let b = block_spelled v.body z.6 in
    (_, p.function v.lead v.returns v.name v.opening v.params v.closing v.body l.0 r.0 q.0 b.0 l.1 r.1 z.2 z.3 q.1 z.5 b.1)

functions_back : (v : List Function) → all (map function_proper v) ≡ true → Spelled p.AreFunctions v
functions_back [] h = (_, p.no_function)
functions_back (x ∷ more) h =
    let z = two _ _ h in
    let a = function_back x z.0 in
    let b = functions_back more z.1 in
    (_, p.one_function x more a.0 b.0 a.1 b.1)

pub tree_back : (v : Tree) → tree_proper v ≡ true → Spelled p.IsTree v
tree_back v h = let a = functions_back v.functions h in (_, p.tree v.functions a.0 a.1)
