-- What is said of rows of statements, said of the lists that they are.
use Rattle.std.proofs.Common.{◌≡◌, ℕ, ◌+◌, List, [], ◌∷◌, ◌++◌, refl, sym, ap, ◌∙◌, append_assoc}
use Rattle.std.specs.Prelude.{max}
use Rattle.item_ir.specs.declared.form.Val.{Val}
use Rattle.item_ir.specs.declared.form.Stmt.{Stmt, Row_of-Stmt, end_of-Stmt, more_of-Stmt, items-the_row-Stmt, items_hidden-the_row-Stmt-0}
use Rattle.item_ir.specs.declared.form.Stmt.TheBlock.{hidden-the_row-Stmt-0}
use Rattle.item_ir.specs.declared.form.Stmt.TheVariants.{If, Loop, Scope}
use Rattle.lane_ir.specs.declared.form.LaneStmt.{LaneStmt}
use Rattle.lane_ir.specs.declared.form.LaneStmt.TheVariants.{Put, WhileAny}
use Rattle.mask_flow.specs.declared.place.Place.{Place}
use Rattle.mask_flow.specs.Masked.{val, masked, masked_row, masked_all, branches, loops, chooses, settles, tests, opens, branch, turning, in_round, scope}
use Rattle.mask_flow.specs.Heights.{height, height_row, height_all}

module _ (ids : List Val) (at : Place) where
  row_items : {k : _} (r : Row_of-Stmt k) → masked_row ids at r ≡ masked_all ids at (items-the_row-Stmt k r)
  row_items end_of-Stmt = refl
  row_items (more_of-Stmt a rest) = ap (λ x. masked ids at a ++ x) (row_items rest)

  of_list : (l : List Stmt) → masked_row ids at (hidden-the_row-Stmt-0 l) ≡ masked_all ids at l
  of_list l = row_items (hidden-the_row-Stmt-0 l) ∙ ap (masked_all ids at) (items_hidden-the_row-Stmt-0 l)

masked-If : (ids : List Val) (at : Place) (c : Val) (a b : List Stmt) → masked ids at (If c a b) ≡ branches at c (masked_all ids (branch at) a) (masked_all ids (branch at) b)
masked-If ids at c a b = λ i. branches at c (of_list ids (branch at) a i) (of_list ids (branch at) b i)

masked-Loop : (ids : List Val) (at : Place) (head : List Stmt) (c : Val) (body step : List Stmt)
    → masked ids at (Loop head c body step) ≡ loops at c (masked_all ids (turning at) head) (masked_all ids (in_round at) body) (masked_all ids (turning at) step)
masked-Loop ids at head c body step = λ i. loops at c (of_list ids (turning at) head i) (of_list ids (in_round at) body i) (of_list ids (turning at) step i)

masked-Scope : (ids : List Val) (at : Place) (body : List Stmt) → masked ids at (Scope body) ≡ opens at.value at.var at.top ++ masked_all ids (scope at) body
masked-Scope ids at body = λ i. opens at.value at.var at.top ++ of_list ids (scope at) body i

height_items : {k : _} (r : Row_of-Stmt k) → height_row r ≡ height_all (items-the_row-Stmt k r)
height_items end_of-Stmt = refl
height_items (more_of-Stmt a rest) = ap (max (height a)) (height_items rest)

height_list : (l : List Stmt) → height_row (hidden-the_row-Stmt-0 l) ≡ height_all l
height_list l = height_items (hidden-the_row-Stmt-0 l) ∙ ap height_all (items_hidden-the_row-Stmt-0 l)

height-If : (c : Val) (a b : List Stmt) → height (If c a b) ≡ max (height_all a) (height_all b) + 1
height-If c a b = λ i. max (height_list a i) (height_list b i) + 1

height-Loop : (head : List Stmt) (c : Val) (body step : List Stmt) → height (Loop head c body step) ≡ max (height_all head) (max (height_all body) (height_all step)) + 1
height-Loop head c body step = λ i. max (height_list head i) (max (height_list body i) (height_list step i)) + 1

height-Scope : (body : List Stmt) → height (Scope body) ≡ height_all body + 1
height-Scope body = ap (λ x. x + 1) (height_list body)

three_appended : (o a b c : List LaneStmt) → ((o ++ a) ++ b) ++ c ≡ o ++ (a ++ (b ++ c))
three_appended o a b c = simp append_assoc

five_appended : (o a b c d e : List LaneStmt) → ((((o ++ a) ++ b) ++ c) ++ d) ++ e ≡ o ++ (a ++ (b ++ (c ++ (d ++ e))))
five_appended o a b c d e = simp append_assoc

pub height_if : (s : Stmt) (c : Val) (one two y n : List Stmt) (a b m : ℕ) → s ≡ If c one two → y ≡ one → n ≡ two → a ≡ height_all y → b ≡ height_all n → m ≡ max a b → m + 1 ≡ height s
height_if s c one two y n a b m is ey en ea eb em =
    ap (λ z. z + 1) (em ∙ (λ i. max ((ea ∙ ap height_all ey) i) ((eb ∙ ap height_all en) i))) ∙ sym (ap height is ∙ height-If c one two)

pub height_loop : (s : Stmt) (c : Val) (head body step h b t : List Stmt) (x y z m n : ℕ) → s ≡ Loop head c body step → h ≡ head → b ≡ body → t ≡ step
    → x ≡ height_all h → y ≡ height_all b → z ≡ height_all t → m ≡ max y z → n ≡ max x m → n + 1 ≡ height s
height_loop s c head body step h b t x y z m n is eh eb et ex ey ez em en =
    ap (λ q. q + 1) (en ∙ (λ i. max ((ex ∙ ap height_all eh) i) ((em ∙ (λ j. max ((ey ∙ ap height_all eb) j) ((ez ∙ ap height_all et) j))) i)))
    ∙ sym (ap height is ∙ height-Loop head c body step)

pub height_scope : (s : Stmt) (body b : List Stmt) (n : ℕ) → s ≡ Scope body → b ≡ body → n ≡ height_all b → n + 1 ≡ height s
height_scope s body b n is eb en = ap (λ q. q + 1) (en ∙ ap height_all eb) ∙ sym (ap height is ∙ height-Scope body)

-- each list of statements is the one before with a part at its end
pub if_written : (ids : List Val) (at p : Place) (c : Val) (s : Stmt) (one two y n : List Stmt) (o a b x d : List LaneStmt)
    → s ≡ If c one two → p ≡ branch at → y ≡ one → n ≡ two → a ≡ o ++ chooses at c → b ≡ a ++ masked_all ids p y
    → x ≡ b ++ Put at.var (val (at.value + 4)) (val (at.value + 2)) ∷ [] → d ≡ x ++ masked_all ids p n → d ++ settles at ≡ o ++ masked ids at s
if_written ids at p c s one two y n o a b x d is e ey en ea eb ex ed =
    let first : List LaneStmt = masked_all ids (branch at) one in
    let other : List LaneStmt = masked_all ids (branch at) two in
    let swap : List LaneStmt = Put at.var (val (at.value + 4)) (val (at.value + 2)) ∷ [] in
    let qb : b ≡ (o ++ chooses at c) ++ first = eb ∙ (λ i. ea i ++ masked_all ids (e i) (ey i)) in
    let qd : d ≡ ((((o ++ chooses at c) ++ first) ++ swap) ++ other) = ed ∙ (λ i. (ex ∙ ap (λ l. l ++ swap) qb) i ++ masked_all ids (e i) (en i)) in
    ap (λ l. l ++ settles at) qd ∙ five_appended o (chooses at c) first swap other (settles at) ∙ ap (λ l. o ++ l) (sym (ap (masked ids at) is ∙ masked-If ids at c one two))

pub loop_written : (ids : List Val) (at p q : Place) (c : Val) (s : Stmt) (head body step h b t : List Stmt) (o a h0 h1 h2 r0 r1 r2 r3 r4 : List LaneStmt)
    → s ≡ Loop head c body step → p ≡ turning at → q ≡ in_round at → h ≡ head → b ≡ body → t ≡ step → a ≡ o ++ opens at.value at.var at.top
    → h0 ≡ [] → h1 ≡ h0 ++ masked_all ids p h → h2 ≡ h1 ++ tests at c
    → r0 ≡ [] → r1 ≡ r0 ++ opens at.value (at.var + 1) at.var → r2 ≡ r1 ++ masked_all ids q b → r3 ≡ r2 ++ settles p → r4 ≡ r3 ++ masked_all ids p t
    → a ++ (WhileAny h2 (val (at.value + 2)) r4 ∷ settles at) ≡ o ++ masked ids at s
loop_written ids at p q c s head body step h b t o a h0 h1 h2 r0 r1 r2 r3 r4 is ep eq eh eb et ea e0 e1 e2 f0 f1 f2 f3 f4 =
    let begin : List LaneStmt = opens at.value (at.var + 1) at.var in
    let inner : List LaneStmt = masked_all ids (in_round at) body in
    let last : List LaneStmt = masked_all ids (turning at) step in
    let tested : h2 ≡ masked_all ids (turning at) head ++ tests at c = e2 ∙ ap (λ l. l ++ tests at c) (e1 ∙ (λ i. e0 i ++ masked_all ids (ep i) (eh i))) in
    let g1 : r1 ≡ begin = f1 ∙ ap (λ l. l ++ begin) f0 in
    let g2 : r2 ≡ begin ++ inner = f2 ∙ (λ i. g1 i ++ masked_all ids (eq i) (eb i)) in
    let g3 : r3 ≡ (begin ++ inner) ++ settles (turning at) = f3 ∙ (λ i. g2 i ++ settles (ep i)) in
    let g4 : r4 ≡ begin ++ (inner ++ (settles (turning at) ++ last)) = f4 ∙ (λ i. g3 i ++ masked_all ids (ep i) (et i)) ∙ three_appended begin inner (settles (turning at)) last in
    (λ i. ea i ++ (WhileAny (tested i) (val (at.value + 2)) (g4 i) ∷ settles at))
    ∙ append_assoc o (opens at.value at.var at.top) _
    ∙ ap (λ l. o ++ l) (sym (ap (masked ids at) is ∙ masked-Loop ids at head c body step))

pub scope_written : (ids : List Val) (at p : Place) (s : Stmt) (body b : List Stmt) (o a : List LaneStmt)
    → s ≡ Scope body → p ≡ scope at → b ≡ body → a ≡ o ++ opens at.value at.var at.top → a ++ masked_all ids p b ≡ o ++ masked ids at s
scope_written ids at p s body b o a is e eb ea =
    (λ i. ea i ++ masked_all ids (e i) (eb i)) ∙ append_assoc o (opens at.value at.var at.top) (masked_all ids (scope at) body)
    ∙ ap (λ l. o ++ l) (sym (ap (masked ids at) is ∙ masked-Scope ids at body))
