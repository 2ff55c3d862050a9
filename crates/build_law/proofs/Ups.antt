-- The numbers only rise.
use Rattle.std.proofs.Common.{◌≡◌, ℕ, suc, ◌≤◌, Bool, true, false, List, [], ◌∷◌, Option, Some, None, refl, sym, subst, arith}
use Rattle.clc_lexer.specs.declared.marks.Mark.{Mark}
use Rattle.clc_lexer.specs.declared.marks.Mark.TheVariants as m
use Rattle.clc_types.specs.declared.typed.Ty.{Ty}
use Rattle.clc_types.specs.declared.typed.Ty.TheVariants as ty
use Rattle.clc_types.specs.declared.typed.Var.{Var}
use Rattle.clc_types.specs.declared.typed.Var.TheVariants as var
use Rattle.q_lane.specs.declared.kinds.Scalar.{Scalar}
use Rattle.clc_types.specs.TypeArithmetic.{operator_of, works_in}
use Rattle.item_meaning.specs.Operators.{operator_in, type_after}
use Rattle.item_meaning.specs.NodeMeanings.{mark_of_step, Function, OfWork, OfNumbers, function_of}
use Rattle.item_meaning.specs.StatementMeanings.{var_at, type_of}
use Rattle.clc_inline.specs.declared.body.Node.{Node, Row_of-TExpr, end_of-TExpr, more_of-TExpr, Row_of-Node-Chain-1-2, end_of-Node-Chain-1-2, more_of-Node-Chain-1-2}
use Rattle.clc_inline.specs.declared.body.Node.TheVariants.{Number, Name, Index', Element', Deref', Prefix', Step', Cast', Paren', Chain', Cond', Assign', Scope', Builtin'}
use Rattle.clc_inline.specs.declared.body.TStmt.{TStmt, Row_of-TStmt, end_of-TStmt, more_of-TStmt, Held-TStmt-If-2, TStmt-If-2-None', TStmt-If-2-Some', Held-TStmt-Declare-1, TStmt-Declare-1-None', TStmt-Declare-1-Some'}
use Rattle.clc_inline.specs.declared.body.TStmt.TheVariants.{Block', Declare', Eval', Empty, If', While', Do', For', Break, Continue, Return'}
use Rattle.q_functions.specs.declared.functions.WorkFunction.{WorkFunction}
use Rattle.item_ir.specs.declared.form.Val.{Val}
use Rattle.ir_build.specs.Code.{Code, none, way_of, way_code, prefix_code, combined_code, converted_code, into, cell, behind, no_place, get_code, put_code, assign_code, compound_code, assigned_code, stepped_code, step_code, valued_at, operator_code, work_code, function_code, pass_code, cleared_code, init_code, declare_code, given_code, back_code, type_in, code_of, code_in, chain_code, place_of, place_in, args_code, stmt_code, code_if, test_code, step_stmts, return_code, all_code, in_code, else_code, begin_code, begin_with_code}
use Rattle.build_law.specs.Keeps.{Given, Back}

-- where a value is stored
abbrev pub Target : Type 0
Target = Given (get_code ty.Void)

way_up : (s : Scalar) (o : Mark) (i j k : ℕ) → k ≤ (way_code (way_of s o) i j k).next
way_up s m.Plus i j k = omega arith
way_up s m.Minus i j k = omega arith
way_up s m.Star i j k = omega arith
way_up s m.Slash i j k = omega arith
way_up s m.Percent i j k = omega arith
way_up s m.Ampersand i j k = omega arith
way_up s m.Bar i j k = omega arith
way_up s m.Caret i j k = omega arith
way_up s m.ShiftLeft i j k = omega arith
way_up s m.Less i j k = omega arith
way_up s m.Greater i j k = omega arith
way_up s m.EqualEqual i j k = omega arith
way_up s m.ShiftRight i j k = omega arith
way_up s m.LessEqual i j k = omega arith
way_up s m.GreaterEqual i j k = omega arith
way_up s m.BangEqual i j k = omega arith
way_up s m.ShiftLeftAssign i j k = omega arith
way_up s m.ShiftRightAssign i j k = omega arith
way_up s m.PlusPlus i j k = omega arith
way_up s m.MinusMinus i j k = omega arith
way_up s m.AndAnd i j k = omega arith
way_up s m.OrOr i j k = omega arith
way_up s m.PlusAssign i j k = omega arith
way_up s m.MinusAssign i j k = omega arith
way_up s m.StarAssign i j k = omega arith
way_up s m.SlashAssign i j k = omega arith
way_up s m.PercentAssign i j k = omega arith
way_up s m.AndAssign i j k = omega arith
way_up s m.OrAssign i j k = omega arith
way_up s m.XorAssign i j k = omega arith
way_up s m.LeftParen i j k = omega arith
way_up s m.RightParen i j k = omega arith
way_up s m.LeftBrace i j k = omega arith
way_up s m.RightBrace i j k = omega arith
way_up s m.LeftBracket i j k = omega arith
way_up s m.RightBracket i j k = omega arith
way_up s m.Semicolon i j k = omega arith
way_up s m.Comma i j k = omega arith
way_up s m.Question i j k = omega arith
way_up s m.Colon i j k = omega arith
way_up s m.Tilde i j k = omega arith
way_up s m.Bang i j k = omega arith
way_up s m.Assign i j k = omega arith

prefix_up : (o : Mark) (i k : ℕ) → k ≤ (prefix_code o i k).next
prefix_up m.ShiftLeftAssign i k = omega arith
prefix_up m.ShiftRightAssign i k = omega arith
prefix_up m.PlusPlus i k = omega arith
prefix_up m.MinusMinus i k = omega arith
prefix_up m.ShiftLeft i k = omega arith
prefix_up m.ShiftRight i k = omega arith
prefix_up m.LessEqual i k = omega arith
prefix_up m.GreaterEqual i k = omega arith
prefix_up m.EqualEqual i k = omega arith
prefix_up m.BangEqual i k = omega arith
prefix_up m.AndAnd i k = omega arith
prefix_up m.OrOr i k = omega arith
prefix_up m.PlusAssign i k = omega arith
prefix_up m.MinusAssign i k = omega arith
prefix_up m.StarAssign i k = omega arith
prefix_up m.SlashAssign i k = omega arith
prefix_up m.PercentAssign i k = omega arith
prefix_up m.AndAssign i k = omega arith
prefix_up m.OrAssign i k = omega arith
prefix_up m.XorAssign i k = omega arith
prefix_up m.LeftParen i k = omega arith
prefix_up m.RightParen i k = omega arith
prefix_up m.LeftBrace i k = omega arith
prefix_up m.RightBrace i k = omega arith
prefix_up m.LeftBracket i k = omega arith
prefix_up m.RightBracket i k = omega arith
prefix_up m.Semicolon i k = omega arith
prefix_up m.Comma i k = omega arith
prefix_up m.Question i k = omega arith
prefix_up m.Colon i k = omega arith
prefix_up m.Plus i k = omega arith
prefix_up m.Minus i k = omega arith
prefix_up m.Star i k = omega arith
prefix_up m.Slash i k = omega arith
prefix_up m.Percent i k = omega arith
prefix_up m.Ampersand i k = omega arith
prefix_up m.Bar i k = omega arith
prefix_up m.Caret i k = omega arith
prefix_up m.Tilde i k = omega arith
prefix_up m.Bang i k = omega arith
prefix_up m.Less i k = omega arith
prefix_up m.Greater i k = omega arith
prefix_up m.Assign i k = omega arith

pub combined_up : (a : Ty) (o : Mark) (b : Ty) (i j k : ℕ) → k ≤ (combined_code a o b i j k).next
combined_up (ty.Value a) o (ty.Value b) i j k = way_up (works_in (operator_of o) a b) o i j k
combined_up (ty.Pointer a c) o (ty.Value b) i j k = omega arith
combined_up (ty.Value a) o (ty.Pointer b c) i j k = omega arith
combined_up (ty.Pointer a c) o (ty.Pointer b e) i j k = omega arith
combined_up (ty.Pointer a c) o ty.Void i j k = omega arith
combined_up (ty.Value a) o ty.Void i j k = omega arith
combined_up ty.Void o b i j k = omega arith

pub converted_up : (t : Ty) (i k : ℕ) → k ≤ (converted_code t i k).next
converted_up (ty.Value s) i k = omega arith
converted_up (ty.Pointer e c) i k = omega arith
converted_up ty.Void i k = omega arith

-- where a place is, by the codes that give it
pub data Shown (to : Target) : Type 0 where
  shown_variable : (u : ℕ) → to ≡ (into u 0).to → Shown to
  shown_cell : (a j : ℕ) → to ≡ (cell a (none j 0)).to → Shown to
  shown_behind : (j : ℕ) → to ≡ (behind (none j 0)).to → Shown to
  shown_nowhere : to ≡ (no_place 0).to → Shown to

pub get_up : (t : Ty) (to : Target) (k : ℕ) → Shown to → k ≤ (get_code t to k).next
get_up t to k (shown_variable u e) = subst (λ z. k ≤ (get_code t z k).next) (sym e) (omega arith)
get_up t to k (shown_cell a j e) = subst (λ z. k ≤ (get_code t z k).next) (sym e) (omega arith)
get_up t to k (shown_behind j e) = subst (λ z. k ≤ (get_code t z k).next) (sym e) (omega arith)
get_up t to k (shown_nowhere e) = subst (λ z. k ≤ (get_code t z k).next) (sym e) (omega arith)

pub put_up : (t : Ty) (to : Target) (i k : ℕ) → k ≤ (put_code t to i k).next
put_up t to i k = converted_up t i k

assign_up : (t : Ty) (f : ℕ → Code) (to : Target) (k : ℕ) → ((l : ℕ) → l ≤ (f l).next) → k ≤ (assign_code t f to k).next
assign_up t f to k h = let a = h k in let b = put_up t to (f k).val (f k).next in omega (arith, a, b)

compound_up : (t : Ty) (o : Mark) (from : Ty) (f : ℕ → Code) (to : Target) (k : ℕ) → Shown to → ((l : ℕ) → l ≤ (f l).next) → k ≤ (compound_code t o from f to k).next
compound_up t o from f to k w h =
    let c = get_code t to k in
    let e = f c.next in
    let x = combined_code t (operator_in o) from c.val e.val e.next in
    let a = get_up t to k w in
    let b = h c.next in
    let q = combined_up t (operator_in o) from c.val e.val e.next in
    let r = put_up t to x.val x.next in
    omega (arith, a, b, q, r)

assigned_up : (t : Ty) (o : Mark) (from : Ty) (f : ℕ → Code) (to : Target) (k : ℕ) → Shown to → ((l : ℕ) → l ≤ (f l).next) → k ≤ (assigned_code t o from f to k).next
assigned_up t m.Plus from f to k w h = compound_up t m.Plus from f to k w h
assigned_up t m.Minus from f to k w h = compound_up t m.Minus from f to k w h
assigned_up t m.Star from f to k w h = compound_up t m.Star from f to k w h
assigned_up t m.Slash from f to k w h = compound_up t m.Slash from f to k w h
assigned_up t m.Percent from f to k w h = compound_up t m.Percent from f to k w h
assigned_up t m.Ampersand from f to k w h = compound_up t m.Ampersand from f to k w h
assigned_up t m.Bar from f to k w h = compound_up t m.Bar from f to k w h
assigned_up t m.Caret from f to k w h = compound_up t m.Caret from f to k w h
assigned_up t m.ShiftLeft from f to k w h = compound_up t m.ShiftLeft from f to k w h
assigned_up t m.Less from f to k w h = compound_up t m.Less from f to k w h
assigned_up t m.Greater from f to k w h = compound_up t m.Greater from f to k w h
assigned_up t m.EqualEqual from f to k w h = compound_up t m.EqualEqual from f to k w h
assigned_up t m.ShiftRight from f to k w h = compound_up t m.ShiftRight from f to k w h
assigned_up t m.LessEqual from f to k w h = compound_up t m.LessEqual from f to k w h
assigned_up t m.GreaterEqual from f to k w h = compound_up t m.GreaterEqual from f to k w h
assigned_up t m.BangEqual from f to k w h = compound_up t m.BangEqual from f to k w h
assigned_up t m.ShiftLeftAssign from f to k w h = compound_up t m.ShiftLeftAssign from f to k w h
assigned_up t m.ShiftRightAssign from f to k w h = compound_up t m.ShiftRightAssign from f to k w h
assigned_up t m.PlusPlus from f to k w h = compound_up t m.PlusPlus from f to k w h
assigned_up t m.MinusMinus from f to k w h = compound_up t m.MinusMinus from f to k w h
assigned_up t m.AndAnd from f to k w h = compound_up t m.AndAnd from f to k w h
assigned_up t m.OrOr from f to k w h = compound_up t m.OrOr from f to k w h
assigned_up t m.PlusAssign from f to k w h = compound_up t m.PlusAssign from f to k w h
assigned_up t m.MinusAssign from f to k w h = compound_up t m.MinusAssign from f to k w h
assigned_up t m.StarAssign from f to k w h = compound_up t m.StarAssign from f to k w h
assigned_up t m.SlashAssign from f to k w h = compound_up t m.SlashAssign from f to k w h
assigned_up t m.PercentAssign from f to k w h = compound_up t m.PercentAssign from f to k w h
assigned_up t m.AndAssign from f to k w h = compound_up t m.AndAssign from f to k w h
assigned_up t m.OrAssign from f to k w h = compound_up t m.OrAssign from f to k w h
assigned_up t m.XorAssign from f to k w h = compound_up t m.XorAssign from f to k w h
assigned_up t m.LeftParen from f to k w h = compound_up t m.LeftParen from f to k w h
assigned_up t m.RightParen from f to k w h = compound_up t m.RightParen from f to k w h
assigned_up t m.LeftBrace from f to k w h = compound_up t m.LeftBrace from f to k w h
assigned_up t m.RightBrace from f to k w h = compound_up t m.RightBrace from f to k w h
assigned_up t m.LeftBracket from f to k w h = compound_up t m.LeftBracket from f to k w h
assigned_up t m.RightBracket from f to k w h = compound_up t m.RightBracket from f to k w h
assigned_up t m.Semicolon from f to k w h = compound_up t m.Semicolon from f to k w h
assigned_up t m.Comma from f to k w h = compound_up t m.Comma from f to k w h
assigned_up t m.Question from f to k w h = compound_up t m.Question from f to k w h
assigned_up t m.Colon from f to k w h = compound_up t m.Colon from f to k w h
assigned_up t m.Tilde from f to k w h = compound_up t m.Tilde from f to k w h
assigned_up t m.Bang from f to k w h = compound_up t m.Bang from f to k w h
assigned_up t m.Assign from f to k w h = assign_up t f to k h

stepped_up : (t : Ty) (up : Bool) (i k : ℕ) → k ≤ (stepped_code t up i k).next
stepped_up t up i k = let a = combined_up t (mark_of_step up) (ty.Value Rattle.q_lane.specs.declared.kinds.Scalar.TheVariants.Int) i k (suc k) in omega (arith, a)

valued_up : (post : Bool) (x : ℕ) (c : Code) (k : ℕ) → k ≤ c.next → k ≤ (valued_at post x c).next
valued_up true x c k le = le
valued_up false x c k le = le

step_up : (t : Ty) (up post : Bool) (to : Target) (k : ℕ) → Shown to → k ≤ (step_code t up post to k).next
step_up t up post to k w =
    let c = get_code t to k in
    let e = stepped_code t up c.val c.next in
    let a = get_up t to k w in
    let b = stepped_up t up c.val c.next in
    let q = put_up t to e.val e.next in
    valued_up post c.val _ k (omega (arith, a, b, q))

plain_up : (a : Ty) (o : Mark) (c : Ty) (i k : ℕ) (f : ℕ → Code) → ((l : ℕ) → l ≤ (f l).next) → k ≤ (combined_code a o c i (f k).val (f k).next).next
plain_up a o c i k f h = let p = h k in let q = combined_up a o c i (f k).val (f k).next in omega (arith, p, q)

operator_up : (a : Ty) (o : Mark) (c : Ty) (i k : ℕ) (f : ℕ → Code) → ((l : ℕ) → l ≤ (f l).next) → k ≤ (operator_code a o c i k f).next
operator_up a m.ShiftLeftAssign c i k f h = plain_up a m.ShiftLeftAssign c i k f h
operator_up a m.ShiftRightAssign c i k f h = plain_up a m.ShiftRightAssign c i k f h
operator_up a m.PlusPlus c i k f h = plain_up a m.PlusPlus c i k f h
operator_up a m.MinusMinus c i k f h = plain_up a m.MinusMinus c i k f h
operator_up a m.ShiftLeft c i k f h = plain_up a m.ShiftLeft c i k f h
operator_up a m.ShiftRight c i k f h = plain_up a m.ShiftRight c i k f h
operator_up a m.LessEqual c i k f h = plain_up a m.LessEqual c i k f h
operator_up a m.GreaterEqual c i k f h = plain_up a m.GreaterEqual c i k f h
operator_up a m.EqualEqual c i k f h = plain_up a m.EqualEqual c i k f h
operator_up a m.BangEqual c i k f h = plain_up a m.BangEqual c i k f h
operator_up a m.AndAnd c i k f h = let p = h (suc (suc (suc k))) in omega (arith, p)
operator_up a m.OrOr c i k f h = let p = h (suc (suc (suc k))) in omega (arith, p)
operator_up a m.PlusAssign c i k f h = plain_up a m.PlusAssign c i k f h
operator_up a m.MinusAssign c i k f h = plain_up a m.MinusAssign c i k f h
operator_up a m.StarAssign c i k f h = plain_up a m.StarAssign c i k f h
operator_up a m.SlashAssign c i k f h = plain_up a m.SlashAssign c i k f h
operator_up a m.PercentAssign c i k f h = plain_up a m.PercentAssign c i k f h
operator_up a m.AndAssign c i k f h = plain_up a m.AndAssign c i k f h
operator_up a m.OrAssign c i k f h = plain_up a m.OrAssign c i k f h
operator_up a m.XorAssign c i k f h = plain_up a m.XorAssign c i k f h
operator_up a m.LeftParen c i k f h = plain_up a m.LeftParen c i k f h
operator_up a m.RightParen c i k f h = plain_up a m.RightParen c i k f h
operator_up a m.LeftBrace c i k f h = plain_up a m.LeftBrace c i k f h
operator_up a m.RightBrace c i k f h = plain_up a m.RightBrace c i k f h
operator_up a m.LeftBracket c i k f h = plain_up a m.LeftBracket c i k f h
operator_up a m.RightBracket c i k f h = plain_up a m.RightBracket c i k f h
operator_up a m.Semicolon c i k f h = plain_up a m.Semicolon c i k f h
operator_up a m.Comma c i k f h = h k
operator_up a m.Question c i k f h = plain_up a m.Question c i k f h
operator_up a m.Colon c i k f h = plain_up a m.Colon c i k f h
operator_up a m.Plus c i k f h = plain_up a m.Plus c i k f h
operator_up a m.Minus c i k f h = plain_up a m.Minus c i k f h
operator_up a m.Star c i k f h = plain_up a m.Star c i k f h
operator_up a m.Slash c i k f h = plain_up a m.Slash c i k f h
operator_up a m.Percent c i k f h = plain_up a m.Percent c i k f h
operator_up a m.Ampersand c i k f h = plain_up a m.Ampersand c i k f h
operator_up a m.Bar c i k f h = plain_up a m.Bar c i k f h
operator_up a m.Caret c i k f h = plain_up a m.Caret c i k f h
operator_up a m.Tilde c i k f h = plain_up a m.Tilde c i k f h
operator_up a m.Bang c i k f h = plain_up a m.Bang c i k f h
operator_up a m.Less c i k f h = plain_up a m.Less c i k f h
operator_up a m.Greater c i k f h = plain_up a m.Greater c i k f h
operator_up a m.Assign c i k f h = plain_up a m.Assign c i k f h

work_up : (which : WorkFunction) (xs : List Val) (k : ℕ) → k ≤ (work_code which xs k).next
work_up which [] k = omega arith
work_up which (x ∷ xs) k = omega arith

function_up : (f : Function) (t : Scalar) (xs : List Val) (k : ℕ) → k ≤ (function_code f t xs k).next
function_up (OfWork i) t xs k = work_up i xs k
function_up (OfNumbers i) t xs k = omega arith

pub pass_up : (vars : List Var) (ps : List ℕ) (xs : List Val) (k : ℕ) → k ≤ (pass_code vars ps xs k).next
pass_up vars [] xs k = omega arith
pass_up vars (p ∷ ps) [] k = omega arith
pass_up vars (p ∷ ps) (x ∷ xs) k =
    let c = put_code (type_of (var_at vars p)) (into p 0).to x.0 k in
    let a = put_up (type_of (var_at vars p)) (into p 0).to x.0 k in let b = pass_up vars ps xs c.next in omega (arith, a, b)

cleared_up : (d : Var) (u k : ℕ) → k ≤ (cleared_code d u k).next
cleared_up (var.Value s) u k = omega arith
cleared_up (var.Pointer e c) u k = omega arith
cleared_up (var.Array e n) u k = omega arith

init_some : (t : Ty) (u k : ℕ) (f : ℕ → Code) → k ≤ (f k).next → k ≤ (init_code t u (Some f) k).next
init_some t u k f h = let p = put_up t (into u 0).to (f k).val (f k).next in omega (arith, h, p)

given_up : (r : Option Scalar) (u x k : ℕ) → k ≤ (given_code r u x k).next
given_up None u x k = omega arith
given_up (Some s) u x k = put_up (ty.Value s) (into u 0).to x k

back_up : (back : Back) (c : Code) (k : ℕ) → k ≤ c.next → k ≤ (back_code back c).next
back_up back c k le = let p = given_up back.result back.var c.val c.next in omega (arith, le, p)

module _ (vars : List Var) where
  mutual
    pub code_up : (t : Ty) (e : Node) (k : ℕ) → k ≤ (code_of vars t e k).next
    code_up t (Number x) k = omega arith
    code_up t (Name u) k = omega arith
    code_up t (Index' i base j index) k = let p = in_up base k in let q = in_up index (code_in vars base k).next in omega (arith, p, q)
    code_up t (Element' u i index) k = let p = in_up index k in omega (arith, p)
    code_up t (Deref' i pointer) k = let p = in_up pointer k in omega (arith, p)
    code_up t (Prefix' o i arg) k = let p = in_up arg k in let q = prefix_up o (code_in vars arg k).val (code_in vars arg k).next in omega (arith, p, q)
    code_up t (Step' i place up post) k =
        let p = place_in vars place k in let a = place_in_up place k in let b = step_up (type_in place) up post p.to p.next (place_in_shown place k) in omega (arith, a, b)
    code_up t (Cast' i arg) k = let p = in_up arg k in let q = converted_up t (code_in vars arg k).val (code_in vars arg k).next in omega (arith, p, q)
    code_up t (Paren' i arg) k = in_up arg k
    code_up t (Chain' i first j rest) k = let c = code_in vars first k in let p = in_up first k in let q = chain_up rest (type_in first) c.val c.next in omega (arith, p, q)
    code_up t (Cond' i cond j one l other) k =
        let c = code_in vars cond k in
        let a = code_in vars one (suc c.next) in
        let p = in_up cond k in let q = in_up one (suc c.next) in let r = in_up other a.next in omega (arith, p, q, r)
    code_up t (Assign' i place o j value) k =
        let p = place_in vars place k in
        let a = place_in_up place k in let b = assigned_up (type_in place) o (type_in value) (code_in vars value) p.to p.next (place_in_shown place k) (λ l. in_up value l) in omega (arith, a, b)
    code_up t (Scope' params n args result i body) k =
        let a = args_code vars args k in
        let p = pass_code vars params a.vals a.next in
        let r = suc p.next in
        let x = args_up args k in let y = pass_up vars params a.vals a.next in let z = inner_up body (record { result = result; var = r }) (suc r) in omega (arith, x, y, z)
    code_up t (Builtin' which work n args) k = let a = args_code vars args k in let p = args_up args k in let q = function_up (function_of which) work a.vals a.next in omega (arith, p, q)

    pub in_up : {n : _} (e : Row_of-TExpr n) (k : ℕ) → k ≤ (code_in vars e k).next
    in_up end_of-TExpr k = omega arith
    in_up (more_of-TExpr at t e rest) k = code_up t e k

    chain_up : {n : _} (rest : Row_of-Node-Chain-1-2 n) (a : Ty) (x k : ℕ) → k ≤ (chain_code vars a x rest k).next
    chain_up end_of-Node-Chain-1-2 a x k = omega arith
    chain_up (more_of-Node-Chain-1-2 o at t e rest) a x k =
        let c = operator_code a o t x k (code_of vars t e) in
        let p = operator_up a o t x k (code_of vars t e) (λ l. code_up t e l) in let q = chain_up rest (type_after o a t) c.val c.next in omega (arith, p, q)

    place_up : (t : Ty) (e : Node) (k : ℕ) → k ≤ (place_of vars t e k).next
    place_up t (Number x) k = omega arith
    place_up t (Name u) k = omega arith
    place_up t (Index' i base j index) k = let p = in_up base k in let q = in_up index (code_in vars base k).next in omega (arith, p, q)
    place_up t (Element' u i index) k = in_up index k
    place_up t (Deref' i pointer) k = in_up pointer k
    place_up t (Prefix' o i arg) k = omega arith
    place_up t (Step' i place up post) k = omega arith
    place_up t (Cast' i arg) k = omega arith
    place_up t (Paren' i arg) k = place_in_up arg k
    place_up t (Chain' i first j rest) k = omega arith
    place_up t (Cond' i cond j one l other) k = omega arith
    place_up t (Assign' i place o j value) k = omega arith
    place_up t (Scope' params n args result i body) k = omega arith
    place_up t (Builtin' which work n args) k = omega arith

    pub place_in_up : {n : _} (e : Row_of-TExpr n) (k : ℕ) → k ≤ (place_in vars e k).next
    place_in_up end_of-TExpr k = omega arith
    place_in_up (more_of-TExpr at t e rest) k = place_up t e k

    place_shown : (t : Ty) (e : Node) (k : ℕ) → Shown (place_of vars t e k).to
    place_shown t (Number x) k = shown_nowhere refl
    place_shown t (Name u) k = shown_variable u refl
    place_shown t (Index' i base j index) k = shown_behind _ refl
    place_shown t (Element' u i index) k = shown_cell u _ refl
    place_shown t (Deref' i pointer) k = shown_behind _ refl
    place_shown t (Prefix' o i arg) k = shown_nowhere refl
    place_shown t (Step' i place up post) k = shown_nowhere refl
    place_shown t (Cast' i arg) k = shown_nowhere refl
    place_shown t (Paren' i arg) k = place_in_shown arg k
    place_shown t (Chain' i first j rest) k = shown_nowhere refl
    place_shown t (Cond' i cond j one l other) k = shown_nowhere refl
    place_shown t (Assign' i place o j value) k = shown_nowhere refl
    place_shown t (Scope' params n args result i body) k = shown_nowhere refl
    place_shown t (Builtin' which work n args) k = shown_nowhere refl

    pub place_in_shown : {n : _} (e : Row_of-TExpr n) (k : ℕ) → Shown (place_in vars e k).to
    place_in_shown end_of-TExpr k = shown_nowhere refl
    place_in_shown (more_of-TExpr at t e rest) k = place_shown t e k

    pub args_up : {n : _} (e : Row_of-TExpr n) (k : ℕ) → k ≤ (args_code vars e k).next
    args_up end_of-TExpr k = omega arith
    args_up (more_of-TExpr at t e rest) k = let p = code_up t e k in let q = args_up rest (code_of vars t e k).next in omega (arith, p, q)

    pub stmt_up : (a : TStmt) (back : Back) (k : ℕ) → k ≤ (stmt_code vars back a k).next
    stmt_up (Block' n stmts) back k = all_up stmts back k
    stmt_up (Declare' u init) back k = declare_up u init k
    stmt_up (Eval' at t e) back k = code_up t e k
    stmt_up Empty back k = omega arith
    stmt_up (If' at t e i one other) back k =
        let c = code_of vars t e k in
        let a = in_code vars back one c.next in
        let p = code_up t e k in let q = inner_up one back c.next in let r = else_up other back a.next in omega (arith, p, q, r)
    stmt_up (While' at t e i body) back k = let c = code_of vars t e k in let p = code_up t e k in let q = inner_up body back c.next in omega (arith, p, q)
    stmt_up (Do' i body at t e) back k =
        let a = in_code vars back body (suc (suc (suc k))) in
        let p = inner_up body back (suc (suc (suc k))) in let q = code_up t e a.next in omega (arith, p, q)
    stmt_up (For' n init cond step i body) back k =
        let b = begin_code vars init k in
        let c = test_code vars cond b.next in
        let a = in_code vars back body c.next in
        let p = begin_up init k in let q = test_up cond b.next in let r = inner_up body back c.next in let s = steps_up step a.next in omega (arith, p, q, r, s)
    stmt_up Break back k = omega arith
    stmt_up Continue back k = omega arith
    stmt_up (Return' e) back k = return_up e back k

    pub declare_up : (u : ℕ) (init : Held-TStmt-Declare-1) (k : ℕ) → k ≤ (declare_code (var_at vars u) u (code_if vars init) k).next
    declare_up u TStmt-Declare-1-None' k = cleared_up (var_at vars u) u k
    declare_up u (TStmt-Declare-1-Some' at t e) k =
        let c = cleared_code (var_at vars u) u k in
        let p = cleared_up (var_at vars u) u k in
        let q = init_some (type_of (var_at vars u)) u c.next (code_of vars t e) (code_up t e c.next) in omega (arith, p, q)

    pub test_up : (e : Held-TStmt-Declare-1) (k : ℕ) → k ≤ (test_code vars e k).next
    test_up TStmt-Declare-1-None' k = omega arith
    test_up (TStmt-Declare-1-Some' at t e) k = code_up t e k

    pub steps_up : (e : Held-TStmt-Declare-1) (k : ℕ) → k ≤ (step_stmts vars e k).next
    steps_up TStmt-Declare-1-None' k = omega arith
    steps_up (TStmt-Declare-1-Some' at t e) k = code_up t e k

    return_up : (e : Held-TStmt-Declare-1) (back : Back) (k : ℕ) → k ≤ (return_code vars back e k).next
    return_up TStmt-Declare-1-None' back k = omega arith
    return_up (TStmt-Declare-1-Some' at t e) back k = back_up back (code_of vars t e k) k (code_up t e k)

    pub all_up : {n : _} (r : Row_of-TStmt n) (back : Back) (k : ℕ) → k ≤ (all_code vars back r k).next
    all_up end_of-TStmt back k = omega arith
    all_up (more_of-TStmt a rest) back k = let p = stmt_up a back k in let q = all_up rest back (stmt_code vars back a k).next in omega (arith, p, q)

    pub inner_up : {n : _} (r : Row_of-TStmt n) (back : Back) (k : ℕ) → k ≤ (in_code vars back r k).next
    inner_up end_of-TStmt back k = omega arith
    inner_up (more_of-TStmt a rest) back k = stmt_up a back k

    pub else_up : (r : Held-TStmt-If-2) (back : Back) (k : ℕ) → k ≤ (else_code vars back r k).next
    else_up TStmt-If-2-None' back k = omega arith
    else_up (TStmt-If-2-Some' i stmt) back k = inner_up stmt back k

    pub begin_up : {n : _} (r : Row_of-TStmt n) (k : ℕ) → k ≤ (begin_code vars r k).next
    begin_up end_of-TStmt k = omega arith
    begin_up (more_of-TStmt a rest) k = let p = begin_with_up a k in let q = begin_up rest (begin_with_code vars a k).next in omega (arith, p, q)

    pub begin_with_up : (a : TStmt) (k : ℕ) → k ≤ (begin_with_code vars a k).next
    begin_with_up (Block' n stmts) k = omega arith
    begin_with_up (Declare' u init) k = declare_up u init k
    begin_with_up (Eval' at t e) k = code_up t e k
    begin_with_up Empty k = omega arith
    begin_with_up (If' at t e i one other) k = omega arith
    begin_with_up (While' at t e i body) k = omega arith
    begin_with_up (Do' i body at t e) k = omega arith
    begin_with_up (For' n init cond step i body) k = omega arith
    begin_with_up Break k = omega arith
    begin_with_up Continue k = omega arith
    begin_with_up (Return' e) k = omega arith
