-- The statements that each form of a body becomes. Numbers from k on are free, for values and for variables alike.
use Rattle.std.specs.Prelude.{ℕ, suc, Bool, true, false, List, [], ◌∷◌, ◌++◌, Option, Some, None}
use Rattle.clc_lexer.specs.declared.marks.Mark.{Mark}
use Rattle.clc_lexer.specs.declared.marks.Mark.TheVariants as m
use Rattle.q_lane.specs.declared.kinds.Scalar.{Scalar}
use Rattle.q_lane.specs.declared.kinds.Scalar.TheVariants.{Int}
use Rattle.q_lane.specs.declared.operations.BinOp.{BinOp}
use Rattle.q_lane.specs.declared.operations.BinOp.TheVariants.{Add, Sub, Mul, Div, Rem, And, Or, Xor, Shl, Shr, Sar, Min, Less, Equal}
use Rattle.q_lane.specs.declared.operations.UnOp.TheVariants.{Not, Neg, Narrow}
use Rattle.q_functions.specs.NumberFunctions.{is_signed, bytes_of}
use Rattle.clc_types.specs.declared.typed.Ty.{Ty}
use Rattle.clc_types.specs.declared.typed.Ty.TheVariants as ty
use Rattle.clc_types.specs.declared.typed.Var.{Var}
use Rattle.clc_types.specs.declared.typed.Var.TheVariants as var
use Rattle.clc_types.specs.TypeArithmetic.{operator_of, works_in}
use Rattle.item_meaning.specs.Operators.{scalar_of, type_after, operator_in}
use Rattle.item_meaning.specs.NodeMeanings.{mark_of_step, Function, OfWork, OfNumbers, function_of}
use Rattle.item_meaning.specs.StatementMeanings.{var_at, type_of}
use Rattle.clc_inline.specs.declared.body.Node.{Node, Row_of-TExpr, end_of-TExpr, more_of-TExpr, Row_of-Node-Chain-1-2, end_of-Node-Chain-1-2, more_of-Node-Chain-1-2}
use Rattle.clc_inline.specs.declared.body.Node.TheVariants.{Number, Name, Index', Element', Deref', Prefix', Step', Cast', Paren', Chain', Cond', Assign', Scope', Builtin'}
use Rattle.clc_inline.specs.declared.body.TStmt.{TStmt, Row_of-TStmt, end_of-TStmt, more_of-TStmt, Held-TStmt-If-2, TStmt-If-2-None', TStmt-If-2-Some', Held-TStmt-Declare-1, TStmt-Declare-1-None', TStmt-Declare-1-Some'}
use Rattle.clc_inline.specs.declared.body.TStmt.TheVariants.{Block', Declare', Eval', Empty, If', While', Do', For', Break, Continue, Return'}
use Rattle.q_functions.specs.declared.functions.WorkFunction.{WorkFunction}
use Rattle.item_ir.specs.declared.form.Val.{Val}
use Rattle.item_ir.specs.declared.form.Def.{Def}
use Rattle.item_ir.specs.declared.form.Def.TheVariants as d
use Rattle.item_ir.specs.declared.form.Stmt.{Stmt}
use Rattle.ir_build.specs.declared.operators.Way.{Way}
use Rattle.ir_build.specs.declared.operators.Way.TheVariants.{Direct, Swapped, NotOf, NotSwapped, Nought}
use Rattle.ir_build.specs.declared.places.Target.{Target}
use Rattle.ir_build.specs.declared.places.Target.TheVariants.{Into, Cell, Behind, Nowhere}
use Rattle.ir_build.specs.declared.scopes.Back.{Back}
use Rattle.item_ir.specs.declared.form.Stmt.TheVariants.{Let, Set, Store, SetElement, Clear, If, Loop, Scope, Leave, Break as Breaks, Continue as Goes_on}

abbrev pub v : ℕ → Val
v k = record { 0 = k }

-- ---- pieces of code

-- the statements, the number of the value, and the first number that is free after them
pub record Code : Type 0 where
  pub stmts : List Stmt
  pub val : ℕ
  pub next : ℕ

-- one definition
abbrev pub one : ℕ → Def → Code
one k e = record { stmts = Let (v k) e ∷ []; val = k; next = suc k }

-- nothing, where x is the value
abbrev pub none : ℕ → ℕ → Code
none x k = record { stmts = []; val = x; next = k }

-- two pieces, one after the other, with the second one's value
abbrev pub joined : Code → Code → Code
joined a c = record { stmts = a.stmts ++ c.stmts; val = c.val; next = c.next }

-- a piece that takes the value of one before
abbrev pub with_code : Code → (ℕ → ℕ → Code) → Code
with_code a f = joined a (f a.val a.next)

-- the statements of a statement, and the first number that is free after them
pub record Stmts : Type 0 where
  pub stmts : List Stmt
  pub next : ℕ

-- ---- numbers

-- 0 or 1 for whether a word isn't 0: the lesser of it and 1
abbrev pub truth_code : ℕ → ℕ → Code
truth_code x k = record { stmts = Let (v k) (d.Const 1) ∷ Let (v (suc k)) (d.Bin (Min false) (v x) (v k)) ∷ []; val = suc k; next = suc (suc k) }

-- the other truth of 0 or 1
abbrev pub not_code : ℕ → ℕ → Code
not_code x k = record { stmts = Let (v k) (d.Const 1) ∷ Let (v (suc k)) (d.Bin Xor (v x) (v k)) ∷ []; val = suc k; next = suc (suc k) }

abbrev pub zero_test : ℕ → ℕ → Code
zero_test x k = record { stmts = Let (v k) (d.Const 0) ∷ Let (v (suc k)) (d.Bin Equal (v x) (v k)) ∷ []; val = suc k; next = suc (suc k) }

abbrev pub right_shift : Bool → BinOp
right_shift true = Sar
right_shift false = Shr

abbrev pub way_of : Scalar → Mark → Way
way_of t m.Plus = Direct Add
way_of t m.Minus = Direct Sub
way_of t m.Star = Direct Mul
way_of t m.Slash = Direct (Div (is_signed t))
way_of t m.Percent = Direct (Rem (is_signed t))
way_of t m.Ampersand = Direct And
way_of t m.Bar = Direct Or
way_of t m.Caret = Direct Xor
way_of t m.ShiftLeft = Direct Shl
way_of t m.ShiftRight = Direct (right_shift (is_signed t))
way_of t m.Less = Direct (Less (is_signed t))
way_of t m.Greater = Swapped (Less (is_signed t))
way_of t m.LessEqual = NotSwapped (Less (is_signed t))
way_of t m.GreaterEqual = NotOf (Less (is_signed t))
way_of t m.EqualEqual = Direct Equal
way_of t m.BangEqual = NotOf Equal
way_of t _ = Nought

abbrev pub way_code : Way → ℕ → ℕ → ℕ → Code
way_code (Direct op) x y k = one k (d.Bin op (v x) (v y))
way_code (Swapped op) x y k = one k (d.Bin op (v y) (v x))
way_code (NotOf op) x y k = with_code (one k (d.Bin op (v x) (v y))) not_code
way_code (NotSwapped op) x y k = with_code (one k (d.Bin op (v y) (v x))) not_code
way_code Nought x y k = one k (d.Const 0)

abbrev pub prefix_code : Mark → ℕ → ℕ → Code
prefix_code m.Minus x k = one k (d.One Neg (v x))
prefix_code m.Tilde x k = one k (d.One Not (v x))
prefix_code m.Bang x k = zero_test x k
prefix_code _ x k = none x k

-- ---- values

-- a pointer moved by a number of elements of so many bytes
abbrev pub moved_code : BinOp → ℕ → ℕ → ℕ → ℕ → Code
moved_code op size x y k =
    record {
      stmts = Let (v k) (d.Const size) ∷ Let (v (suc k)) (d.Bin Mul (v k) (v y)) ∷ Let (v (suc (suc k))) (d.Bin op (v x) (v (suc k))) ∷ [];
      val = suc (suc k);
      next = suc (suc (suc k));
    }

abbrev pub move_of : Mark → BinOp
move_of m.Minus = Sub
move_of _ = Add

abbrev pub combined_code : Ty → Mark → Ty → ℕ → ℕ → ℕ → Code
combined_code (ty.Value s) o (ty.Value t) x y k = way_code (way_of (works_in (operator_of o) s t) o) x y k
combined_code (ty.Pointer e c) o (ty.Value t) x y k = moved_code (move_of o) (bytes_of e) x y k
combined_code (ty.Value s) o (ty.Pointer e c) x y k = moved_code (move_of o) (bytes_of e) y x k
combined_code _ o _ x y k = none x k

-- a number is narrowed to its new type; int and uint too, which changes no word
abbrev pub converted_code : Ty → ℕ → ℕ → Code
converted_code (ty.Value s) x k = one k (d.One (Narrow s) (v x))
converted_code (ty.Pointer e c) x k = none x k
converted_code ty.Void x k = none x k

-- ---- places

pub record PlaceCode : Type 0 where
  pub stmts : List Stmt
  pub to : Target
  pub next : ℕ

abbrev pub no_place : ℕ → PlaceCode
no_place k = record { stmts = []; to = Nowhere; next = k }

abbrev pub into : ℕ → ℕ → PlaceCode
into var k = record { stmts = []; to = Into var; next = k }

abbrev pub behind : Code → PlaceCode
behind c = record { stmts = c.stmts; to = Behind (v c.val); next = c.next }

abbrev pub cell : ℕ → Code → PlaceCode
cell a c = record { stmts = c.stmts; to = Cell a (v c.val); next = c.next }

abbrev pub get_code : Ty → Target → ℕ → Code
get_code t (Into var) k = one k (d.Get var)
get_code t (Cell a i) k = one k (d.Element a i)
get_code t (Behind p) k = one k (d.Load (scalar_of t) p)
get_code t Nowhere k = one k (d.Const 0)

abbrev pub put_stmts : Ty → Target → ℕ → List Stmt
put_stmts t (Into var) x = Set var (v x) ∷ []
put_stmts t (Cell a i) x = SetElement a i (v x) ∷ []
put_stmts t (Behind p) x = Store (scalar_of t) p (v x) ∷ []
put_stmts t Nowhere x = []

-- a value is converted and stored, and that is the value
abbrev pub put_code : Ty → Target → ℕ → ℕ → Code
put_code t to x k =
    record { stmts = (converted_code t x k).stmts ++ put_stmts t to (converted_code t x k).val; val = (converted_code t x k).val; next = (converted_code t x k).next }

abbrev pub read_code : Ty → PlaceCode → Code
read_code t p = record { stmts = p.stmts ++ (get_code t p.to p.next).stmts; val = (get_code t p.to p.next).val; next = (get_code t p.to p.next).next }

-- code after that of a place
abbrev pub after_place : PlaceCode → (Target → ℕ → Code) → Code
after_place p f = record { stmts = p.stmts ++ (f p.to p.next).stmts; val = (f p.to p.next).val; next = (f p.to p.next).next }

-- ---- assignments

abbrev pub assign_code : Ty → (ℕ → Code) → Target → ℕ → Code
assign_code t value to k = with_code (value k) (put_code t to)

-- the old value, the value, and what the operator makes of both
abbrev pub compound_code : Ty → Mark → Ty → (ℕ → Code) → Target → ℕ → Code
compound_code t o from value to k = with_code (get_code t to k) (λ old l. with_code (value l) (λ x n. with_code (combined_code t (operator_in o) from old x n) (put_code t to)))

-- into a place that was found
abbrev pub assigned_code : Ty → Mark → Ty → (ℕ → Code) → Target → ℕ → Code
assigned_code t m.Assign from value to k = assign_code t value to k
assigned_code t o from value to k = compound_code t o from value to k

-- with the value of an earlier piece
abbrev pub valued_at : Bool → ℕ → Code → Code
valued_at true x c = record { stmts = c.stmts; val = x; next = c.next }
valued_at false x c = c

abbrev pub stepped_code : Ty → Bool → ℕ → ℕ → Code
stepped_code t up x k = with_code (one k (d.Const 1)) (λ y l. combined_code t (mark_of_step up) (ty.Value Int) x y l)

abbrev pub step_code : Ty → Bool → Bool → Target → ℕ → Code
step_code t up post to k = with_code (get_code t to k) (λ old l. valued_at post old (with_code (stepped_code t up old l) (put_code t to)))

-- a word in a fresh variable, the number after its value's
abbrev pub held_word : (word k : ℕ) → List Stmt
held_word x k = Let (v k) (d.Const x) ∷ Set (suc k) (v k) ∷ []

-- ---- choices. The result stands in a fresh variable, r

-- code, and its value into r
abbrev pub into_var : ℕ → Code → List Stmt
into_var r c = c.stmts ++ Set r (v c.val) ∷ []

abbrev pub into_code : ℕ → Code → Stmts
into_code r c = record { stmts = into_var r c; next = c.next }

-- a choice after the word x, and what r holds then
abbrev pub choice_code : (x r : ℕ) → List Stmt → List Stmt → ℕ → Code
choice_code x r yes' no' k = record { stmts = If (v x) yes' no' ∷ Let (v k) (d.Get r) ∷ []; val = k; next = suc k }

-- the same, where r holds x before
abbrev pub truth_choice : (x r : ℕ) → List Stmt → List Stmt → ℕ → Code
truth_choice x r yes' no' k = record { stmts = Set r (v x) ∷ If (v x) yes' no' ∷ Let (v k) (d.Get r) ∷ []; val = k; next = suc k }

-- the truth of an operand into r, with the numbers after it
abbrev pub truth_of_operand : ℕ → (ℕ → Code) → Stmts
truth_of_operand r operand = into_code r (with_code (operand (suc r)) truth_code)

-- `x && operand`: the truth of x, and where it isn't 0 that of the operand
abbrev pub and_code : ℕ → ℕ → (ℕ → Code) → Code
and_code x k operand = with_code (truth_code x k) (λ y r. truth_choice y r (truth_of_operand r operand).stmts [] (truth_of_operand r operand).next)

abbrev pub or_code : ℕ → ℕ → (ℕ → Code) → Code
or_code x k operand = with_code (truth_code x k) (λ y r. truth_choice y r [] (truth_of_operand r operand).stmts (truth_of_operand r operand).next)

abbrev pub conditional_code : Code → (ℕ → Code) → (ℕ → Code) → Code
conditional_code c one' other =
    with_code c (λ x r. let a = into_code r (one' (suc r)) in let e = into_code r (other a.next) in choice_code x r a.stmts e.stmts e.next)

abbrev pub operator_code : Ty → Mark → Ty → ℕ → ℕ → (ℕ → Code) → Code
operator_code a m.AndAnd c x k operand = and_code x k operand
operator_code a m.OrOr c x k operand = or_code x k operand
operator_code a m.Comma c x k operand = operand k
operator_code a o c x k operand = with_code (operand k) (λ y l. combined_code a o c x y l)

-- ---- built-in functions

-- the statements of arguments, and the numbers of their values
pub record ArgsCode : Type 0 where
  pub stmts : List Stmt
  pub vals : List Val
  pub next : ℕ

abbrev pub no_args : ℕ → ArgsCode
no_args k = record { stmts = []; vals = []; next = k }

abbrev pub more_args : Code → (ℕ → ArgsCode) → ArgsCode
more_args a rest = record { stmts = a.stmts ++ (rest a.next).stmts; vals = v a.val ∷ (rest a.next).vals; next = (rest a.next).next }

-- one that asks about the work has a dimension, which get_work_dim doesn't look at
abbrev pub work_code : WorkFunction → List Val → ℕ → Code
work_code which [] k = with_code (one k (d.Const 0)) (λ x l. one l (d.Work which (v x)))
work_code which (x ∷ xs) k = one k (d.Work which x)

abbrev pub function_code : Function → Scalar → List Val → ℕ → Code
function_code (OfWork which) t xs k = work_code which xs k
function_code (OfNumbers which) t xs k = one k (d.Built which t xs)

-- code after that of arguments
abbrev pub after_args : ArgsCode → (List Val → ℕ → Code) → Code
after_args a f = record { stmts = a.stmts ++ (f a.vals a.next).stmts; val = (f a.vals a.next).val; next = (f a.vals a.next).next }

-- ---- scopes

-- the arguments are converted and stored in the parameters
abbrev pub pass_code : List Var → List ℕ → List Val → ℕ → Stmts
pass_code vars [] xs k = record { stmts = []; next = k }
pass_code vars (p ∷ ps) [] k = record { stmts = []; next = k }
pass_code vars (p ∷ ps) (x ∷ xs) k =
    let c = put_code (type_of (var_at vars p)) (Into p) x.0 k in
    record { stmts = c.stmts ++ (pass_code vars ps xs c.next).stmts; next = (pass_code vars ps xs c.next).next }

-- the arguments are passed; then 0 in the result's variable r; the body; and what r holds then
abbrev pub scope_code : List Var → List ℕ → Option Scalar → (Back → ℕ → Stmts) → List Val → ℕ → Code
scope_code vars params result body xs k =
    let p = pass_code vars params xs k in
    let r = suc p.next in
    let e = body (record { result = result; var = r }) (suc r) in
    record {
      stmts = p.stmts ++ (Let (v p.next) (d.Const 0) ∷ Set r (v p.next) ∷ Scope e.stmts ∷ Let (v e.next) (d.Get r) ∷ []);
      val = e.next;
      next = suc e.next;
    }

-- ---- statements

abbrev pub nothing : ℕ → Stmts
nothing k = record { stmts = []; next = k }

abbrev pub only : Stmt → ℕ → Stmts
only a k = record { stmts = a ∷ []; next = k }

abbrev pub effect : Code → Stmts
effect c = record { stmts = c.stmts; next = c.next }

abbrev pub both : Stmts → (ℕ → Stmts) → Stmts
both a f = record { stmts = a.stmts ++ (f a.next).stmts; next = (f a.next).next }

abbrev pub cleared_code : Var → ℕ → ℕ → Stmts
cleared_code (var.Value s) u k = record { stmts = Let (v k) (d.Const 0) ∷ Set u (v k) ∷ []; next = suc k }
cleared_code (var.Pointer e c) u k = record { stmts = Let (v k) (d.Const 0) ∷ Set u (v k) ∷ []; next = suc k }
cleared_code (var.Array e n) u k = only (Clear u) k

abbrev pub init_code : Ty → ℕ → Option (ℕ → Code) → ℕ → Stmts
init_code t u None k = nothing k
init_code t u (Some value) k = effect (with_code (value k) (put_code t (Into u)))

abbrev pub declare_code : Var → ℕ → Option (ℕ → Code) → ℕ → Stmts
declare_code dec u init k = both (cleared_code dec u k) (init_code (type_of dec) u init)

abbrev pub if_code : Code → (ℕ → Stmts) → (ℕ → Stmts) → Stmts
if_code c one' other =
    let a = one' c.next in
    let e = other a.next in
    record { stmts = c.stmts ++ If (v c.val) a.stmts e.stmts ∷ []; next = e.next }

-- the head is the condition
abbrev pub loop_code : Code → (ℕ → Stmts) → (ℕ → Stmts) → Stmts
loop_code c body step =
    let a = body c.next in
    let e = step a.next in
    record { stmts = Loop c.stmts (v c.val) a.stmts e.stmts ∷ []; next = e.next }

-- r holds whether another round begins: 1 before the first, and then the condition, which the step takes
abbrev pub do_code : (ℕ → Stmts) → (ℕ → Code) → ℕ → Stmts
do_code body cond k =
    let r = suc k in
    let h = suc r in
    let a = body (suc h) in
    let c = cond a.next in
    record { stmts = Let (v k) (d.Const 1) ∷ Set r (v k) ∷ Loop (Let (v h) (d.Get r) ∷ []) (v h) a.stmts (into_var r c) ∷ []; next = c.next }

-- a value is converted and stored in r, if a value is wanted
abbrev pub given_code : Option Scalar → ℕ → ℕ → ℕ → Stmts
given_code None r x k = nothing k
given_code (Some s) r x k = effect (put_code (ty.Value s) (Into r) x k)

abbrev pub back_by : Option Scalar → ℕ → Code → Stmts
back_by result r c = record { stmts = c.stmts ++ ((given_code result r c.val c.next).stmts ++ Leave ∷ []); next = (given_code result r c.val c.next).next }

abbrev pub back_code : Back → Code → Stmts
back_code back c = back_by back.result back.var c

-- the type of the expression in a box
abbrev pub type_in : {n : _} → Row_of-TExpr n → Ty
type_in end_of-TExpr = ty.Void
type_in (more_of-TExpr at t e rest) = t

module _ (vars : List Var) where
  abbrev mutual
    pub code_of : (t : Ty) → Node → ℕ → Code
    code_of t (Number x) k = one k (d.Const x)
    code_of t (Name u) k = read_code t (into u k)
    code_of t (Index' i base j index) k = read_code t (behind (with_code (code_in base k) (λ x l. with_code (code_in index l) (λ y n. moved_code Add (bytes_of (scalar_of t)) x y n))))
    code_of t (Element' u i index) k = read_code t (cell u (code_in index k))
    code_of t (Deref' i pointer) k = read_code t (behind (code_in pointer k))
    code_of t (Prefix' o i arg) k = with_code (code_in arg k) (prefix_code o)
    code_of t (Step' i place up post) k = after_place (place_in place k) (step_code (type_in place) up post)
    code_of t (Cast' i arg) k = with_code (code_in arg k) (converted_code t)
    code_of t (Paren' i arg) k = code_in arg k
    code_of t (Chain' i first j rest) k = with_code (code_in first k) (λ x l. chain_code (type_in first) x rest l)
    code_of t (Cond' i cond j one' l other) k = conditional_code (code_in cond k) (code_in one') (code_in other)
    code_of t (Assign' i place o j value) k = after_place (place_in place k) (assigned_code (type_in place) o (type_in value) (code_in value))
    code_of t (Scope' params n args result i body) k = after_args (args_code args k) (scope_code vars params result (λ back l. in_code back body l))
    code_of t (Builtin' which work n args) k = after_args (args_code args k) (function_code (function_of which) work)

    pub code_in : {n : _} → Row_of-TExpr n → ℕ → Code
    code_in end_of-TExpr k = none k k
    code_in (more_of-TExpr at t e rest) k = code_of t e k

    pub chain_code : {n : _} → Ty → ℕ → Row_of-Node-Chain-1-2 n → ℕ → Code
    chain_code a x end_of-Node-Chain-1-2 k = none x k
    chain_code a x (more_of-Node-Chain-1-2 o at t e rest) k = with_code (operator_code a o t x k (code_of t e)) (λ y l. chain_code (type_after o a t) y rest l)

    pub place_of : (t : Ty) → Node → ℕ → PlaceCode
    place_of t (Name u) k = into u k
    place_of t (Index' i base j index) k = behind (with_code (code_in base k) (λ x l. with_code (code_in index l) (λ y n. moved_code Add (bytes_of (scalar_of t)) x y n)))
    place_of t (Element' u i index) k = cell u (code_in index k)
    place_of t (Deref' i pointer) k = behind (code_in pointer k)
    place_of t (Paren' i arg) k = place_in arg k
    place_of t _ k = no_place k

    pub place_in : {n : _} → Row_of-TExpr n → ℕ → PlaceCode
    place_in end_of-TExpr k = no_place k
    place_in (more_of-TExpr at t e rest) k = place_of t e k

    pub args_code : {n : _} → Row_of-TExpr n → ℕ → ArgsCode
    args_code end_of-TExpr k = no_args k
    args_code (more_of-TExpr at t e rest) k = more_args (code_of t e k) (args_code rest)

    pub stmt_code : Back → TStmt → ℕ → Stmts
    stmt_code back (Block' n stmts) k = all_code back stmts k
    stmt_code back (Declare' u init) k = declare_code (var_at vars u) u (code_if init) k
    stmt_code back (Eval' at t e) k = effect (code_of t e k)
    stmt_code back Empty k = nothing k
    stmt_code back (If' at t e i one' other) k = if_code (code_of t e k) (in_code back one') (else_code back other)
    stmt_code back (While' at t e i body) k = loop_code (code_of t e k) (in_code back body) nothing
    stmt_code back (Do' i body at t e) k = do_code (in_code back body) (code_of t e) k
    stmt_code back (For' n init cond step i body) k = both (begin_code init k) (λ l. loop_code (test_code cond l) (in_code back body) (step_stmts step))
    stmt_code back Break k = only Breaks k
    stmt_code back Continue k = only Goes_on k
    stmt_code back (Return' e) k = return_code back e k

    pub code_if : Held-TStmt-Declare-1 → Option (ℕ → Code)
    code_if TStmt-Declare-1-None' = None
    code_if (TStmt-Declare-1-Some' at t e) = Some (code_of t e)

    pub test_code : Held-TStmt-Declare-1 → ℕ → Code
    test_code TStmt-Declare-1-None' k = one k (d.Const 1)
    test_code (TStmt-Declare-1-Some' at t e) k = code_of t e k

    pub step_stmts : Held-TStmt-Declare-1 → ℕ → Stmts
    step_stmts TStmt-Declare-1-None' k = nothing k
    step_stmts (TStmt-Declare-1-Some' at t e) k = effect (code_of t e k)

    pub return_code : Back → Held-TStmt-Declare-1 → ℕ → Stmts
    return_code back TStmt-Declare-1-None' k = only Leave k
    return_code back (TStmt-Declare-1-Some' at t e) k = back_code back (code_of t e k)

    pub all_code : {n : _} → Back → Row_of-TStmt n → ℕ → Stmts
    all_code back end_of-TStmt k = nothing k
    all_code back (more_of-TStmt a rest) k = both (stmt_code back a k) (all_code back rest)

    pub in_code : {n : _} → Back → Row_of-TStmt n → ℕ → Stmts
    in_code back end_of-TStmt k = nothing k
    in_code back (more_of-TStmt a rest) k = stmt_code back a k

    pub else_code : Back → Held-TStmt-If-2 → ℕ → Stmts
    else_code back TStmt-If-2-None' k = nothing k
    else_code back (TStmt-If-2-Some' i stmt) k = in_code back stmt k

    pub begin_code : {n : _} → Row_of-TStmt n → ℕ → Stmts
    begin_code end_of-TStmt k = nothing k
    begin_code (more_of-TStmt a rest) k = both (begin_with_code a k) (begin_code rest)

    pub begin_with_code : TStmt → ℕ → Stmts
    begin_with_code (Eval' at t e) k = effect (code_of t e k)
    begin_with_code (Declare' u init) k = declare_code (var_at vars u) u (code_if init) k
    begin_with_code _ k = nothing k
