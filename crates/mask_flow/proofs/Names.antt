-- A batch whose item names only what is there names only what is there.
use Rattle.std.proofs.Common.{◌≡◌, ℕ, zero, suc, ◌+◌, ◌<◌, ◌≤◌, Bool, true, false, List, [], ◌∷◌, ◌++◌, refl, ◌∙◌, arith}
use Rattle.std.specs.Prelude.{◌&&◌, ◌||◌, ◌==◌, not, nat_lt, max}
use Rattle.std.proofs.Math.Nat.{le-max_left, le-max_right}
use Rattle.std.proofs.lemmas.Bool.{and_from, and_parts, lt-ltb, ltb-true, eqb-true}
use Rattle.q_functions.specs.declared.functions.WorkFunction.{WorkFunction}
use Rattle.q_functions.specs.declared.functions.WorkFunction.TheVariants.{WorkDim, GlobalId, GlobalSize, LocalId, LocalSize, GroupId, NumGroups}
use Rattle.item_ir.specs.Valid as item
use Rattle.item_ir.specs.declared.form.Val.{Val}
use Rattle.item_ir.specs.declared.form.Def.{Def}
use Rattle.item_ir.specs.declared.form.Def.TheVariants as d
use Rattle.item_ir.specs.declared.form.Stmt.{Stmt, Row_of-Stmt, end_of-Stmt, more_of-Stmt}
use Rattle.item_ir.specs.declared.form.Stmt.TheVariants as i
use Rattle.lane_ir.specs.declared.form.LaneStmt.{LaneStmt}
use Rattle.lane_ir.specs.declared.form.LaneStmt.TheVariants as lane
use Rattle.lane_ir.specs.declared.form.LaneStmt.TheVariants.{Let, Put, WhileAny}
use Rattle.lane_ir.specs.Valid.{Counts, counted, is_val, are_vals, is_size, is_def, is_stmt, is_body}
use Rattle.lane_ir.proofs.ValidRewrites.{is_stmt-WhileAny, is_body-append}
use Rattle.lane_mapper.specs.Definitions.{is_definition, are_definitions}
use Rattle.mask_flow.specs.declared.place.Place.{Place}
use Rattle.mask_flow.specs.Masked.{val, round_of, loop_of, branch, scope, turning, in_round, outermost, settles, opens, chooses, tests, id, masked, masked_row, masked_all, masked_item, defining, asks}
use Rattle.mask_flow.specs.Heights.{height, height_row, height_all, vals_after, vars_after}
use Rattle.mask_flow.proofs.Rooms.{Room, fewer, branch_room, scope_room, turning_room, round_room, value_named, first_named, top_named, leaves_named, settles_named, chooses_named, tests_named, opens_named, picks_named}

-- the known values are the item's
abbrev Low : ℕ → (ℕ → Bool) → Type 0
Low n known = (j : ℕ) → known j ≡ true → j < n

low_with : (n x : ℕ) (known : ℕ → Bool) → x < n → Low n known → Low n (item.with_known x known)
low_with n x known lt low j e = by (j == x) refl e
  where
    by : (b : Bool) → (j == x) ≡ b → (b || known j) ≡ true → j < n
    by true q g = let p = eqb-true j x q in omega (arith, p, lt)
    by false q g = low j g

module _ (c : Counts) (n nu : ℕ) (ids : List Val) (fits : nu ≤ c.vars) (ids_low : (j : ℕ) → nat_lt (id ids j).0 c.vals ≡ true) where
  abbrev has : item.Counts
  has = item.counted n nu c.arrays c.params

  low_after : (r : item.Around) (known : ℕ → Bool) (a : Stmt) → item.is_stmt has r known a ≡ true → Low n known → Low n (item.known_after known a)
  low_after r known (i.Let x e) h low = low_with n x.0 known (ltb-true x.0 n (and_parts (nat_lt x.0 n) (not (known x.0) && item.is_def has known e) h).0) low
  low_after r known (i.Set u x) h low = low
  low_after r known (i.Store t a x) h low = low
  low_after r known (i.SetElement a j x) h low = low
  low_after r known (i.Clear a) h low = low
  low_after r known (i.If' x k a m b) h low = low
  low_after r known (i.Loop' k head x m body l step) h low = low
  low_after r known (i.Scope' k a) h low = low
  low_after r known i.Leave h low = low
  low_after r known i.Break h low = low
  low_after r known i.Continue h low = low

  low_row : {k : _} (r : item.Around) (known : ℕ → Bool) (a : Row_of-Stmt k) → item.is_row has r known a ≡ true → Low n known → Low n (item.known_row known a)
  low_row r known end_of-Stmt h low = low
  low_row r known (more_of-Stmt a rest) h low =
      let p = and_parts (item.is_stmt has r known a) (item.is_row has r (item.known_after known a) rest) h in
      low_row r (item.known_after known a) rest p.1 (low_after r known a p.0 low)

  -- a value of the item is one of the batch
  known_named : (known : ℕ → Bool) → Low n known → n ≤ c.vals → (x : Val) → known x.0 ≡ true → nat_lt x.0 c.vals ≡ true
  known_named known low le x e = let p = low x.0 e in lt-ltb x.0 c.vals (omega (arith, p, le))

  args_named : (known : ℕ → Bool) → Low n known → n ≤ c.vals → (l : List Val) → item.are_known known l ≡ true → are_vals c l ≡ true
  args_named known low le [] h = refl
  args_named known low le (x ∷ rest) h =
      let p = and_parts (known x.0) (item.are_known known rest) h in
      and_from (is_val c x) (are_vals c rest) (known_named known low le x p.0) (args_named known low le rest p.1)

  room_values : (h : ℕ) (at : Place) → Room c n h at → n ≤ c.vals
  room_values h at r = let v = r.values in let q = r.item in omega (arith, v, q)

  asks_named : (at : Place) (x : Val) (which : WorkFunction) (dim : Val) → Room c n 0 at → nat_lt x.0 c.vals ≡ true → nat_lt dim.0 c.vals ≡ true → is_body c (asks ids at.value x which dim) ≡ true
  asks_named at x GlobalId dim r e g = picks_named c n 0 at r x dim ids 0 ids_low e g
  asks_named at x LocalId dim r e g = picks_named c n 0 at r x dim ids 3 ids_low e g
  asks_named at x GroupId dim r e g = picks_named c n 0 at r x dim ids 6 ids_low e g
  asks_named at x WorkDim dim r e g = simp (e, g)
  asks_named at x GlobalSize dim r e g = simp (e, g)
  asks_named at x LocalSize dim r e g = simp (e, g)
  asks_named at x NumGroups dim r e g = simp (e, g)

  defining_named : (known : ℕ → Bool) (at : Place) (x : Val) (e : Def) → Low n known → Room c n 0 at → nat_lt x.0 c.vals ≡ true → item.is_def has known e ≡ true
      → is_body c (defining ids at x e) ≡ true
  defining_named known at x (d.Const k) low r g h = simp (g, h)
  defining_named known at x (d.Param p) low r g h = simp (g, h)
  defining_named known at x (d.Work which dim) low r g h = asks_named at x which dim r g (known_named known low (room_values 0 at r) dim h)
  defining_named known at x (d.Get u) low r g h =
      let lt = ltb-true u nu h in
      simp (g, lt-ltb u c.vars (omega (arith, lt, fits)))
  defining_named known at x (d.Bin op a b) low r g h =
      let p = and_parts (known a.0) (known b.0) h in
      simp (g, known_named known low (room_values 0 at r) a p.0, known_named known low (room_values 0 at r) b p.1)
  defining_named known at x (d.One op a) low r g h = simp (g, known_named known low (room_values 0 at r) a h)
  defining_named known at x (d.Built which t args) low r g h = simp (g, args_named known low (room_values 0 at r) args h)
  defining_named known at x (d.Choose a b y) low r g h =
      let p = and_parts (known a.0) (known b.0 && known y.0) h in
      let q = and_parts (known b.0) (known y.0) p.1 in
      simp (g, known_named known low (room_values 0 at r) a p.0, known_named known low (room_values 0 at r) b q.0, known_named known low (room_values 0 at r) y q.1)
  defining_named known at x (d.Load t a) low r g h = simp (g, known_named known low (room_values 0 at r) a h, first_named c n 0 at r, top_named c n 0 at r)
  defining_named known at x (d.Element a j) low r g h =
      let p = and_parts (nat_lt a c.arrays) (known j.0) h in
      simp (g, p.0, known_named known low (room_values 0 at r) j p.1, first_named c n 0 at r, top_named c n 0 at r)
  defining_named known at x d.Flat low r g h = cc
  defining_named known at x d.Items low r g h = cc

  first_var : (m : ℕ) (at : Place) → Room c n (m + 1) at → at.var < c.vars
  first_var m at r = let u = r.variables in omega (arith, u)

  branches_named : (m : ℕ) (at : Place) (x : Val) (a b : List LaneStmt) → Room c n (m + 1) at → nat_lt x.0 c.vals ≡ true → is_body c a ≡ true → is_body c b ≡ true
      → is_body c (chooses at x ++ (a ++ (Put at.var (val (at.value + 4)) (val (at.value + 2)) ∷ (b ++ settles at)))) ≡ true
  branches_named m at x a b r e g h =
      is_body-append c (chooses at x) _ (chooses_named c n (m + 1) at r x e (first_var m at r))
      (is_body-append c a _ g
      (and_from (is_stmt c (Put at.var (val (at.value + 4)) (val (at.value + 2)))) (is_body c (b ++ settles at))
      (simp (lt-ltb at.var c.vars (first_var m at r), value_named c n (m + 1) at r 4 (omega arith), value_named c n (m + 1) at r 2 (omega arith)))
      (is_body-append c b (settles at) h (settles_named c n (m + 1) at r))))

  loops_named : (m : ℕ) (at : Place) (x : Val) (a b s : List LaneStmt) → Room c n (m + 1) at → nat_lt x.0 c.vals ≡ true
      → is_body c a ≡ true → is_body c b ≡ true → is_body c s ≡ true
      → is_body c (opens at.value at.var at.top ++ (WhileAny (a ++ tests at x) (val (at.value + 2)) (opens at.value (at.var + 1) at.var ++ (b ++ (settles (turning at) ++ s))) ∷ settles at)) ≡ true
  loops_named m at x a b s r e ga gb gs =
      let u = r.variables in
      let lt = first_var m at r in
      let head : is_body c (a ++ tests at x) ≡ true = is_body-append c a (tests at x) ga (tests_named c n (m + 1) at r x e lt) in
      let round : is_body c (opens at.value (at.var + 1) at.var ++ (b ++ (settles (turning at) ++ s))) ≡ true =
      is_body-append c (opens at.value (at.var + 1) at.var) _ (opens_named c n (m + 1) at r (at.var + 1) at.var (omega (arith, u)) lt)
      (is_body-append c b _ gb (is_body-append c (settles (turning at)) s (settles_named c n m (turning at) (turning_room c n m m at (omega arith) r)) gs)) in
      is_body-append c (opens at.value at.var at.top) _ (opens_named c n (m + 1) at r at.var at.top lt r.top)
      (and_from (is_stmt c (WhileAny (a ++ tests at x) (val (at.value + 2)) (opens at.value (at.var + 1) at.var ++ (b ++ (settles (turning at) ++ s))))) (is_body c (settles at))
      (is_stmt-WhileAny c (a ++ tests at x) (val (at.value + 2)) (opens at.value (at.var + 1) at.var ++ (b ++ (settles (turning at) ++ s)))
      ∙ and_from (is_val c (val (at.value + 2))) _ (value_named c n (m + 1) at r 2 (omega arith)) (and_from _ _ head round))
      (settles_named c n (m + 1) at r))

  mutual
    named : (r : item.Around) (known : ℕ → Bool) (at : Place) (a : Stmt) → Low n known → item.is_stmt has r known a ≡ true → Room c n (height a) at → is_body c (masked ids at a) ≡ true
    named r known at (i.Let x e) low h q =
        let p = and_parts (nat_lt x.0 n) (not (known x.0) && item.is_def has known e) h in
        let g = and_parts (not (known x.0)) (item.is_def has known e) p.1 in
        let lt = ltb-true x.0 n p.0 in
        let le = room_values 0 at q in
        defining_named known at x e low q (lt-ltb x.0 c.vals (omega (arith, lt, le))) g.1
    named r known at (i.Set u x) low h q =
        let p = and_parts (nat_lt u nu) (known x.0) h in
        let lt = ltb-true u nu p.0 in
        simp (first_named c n 0 at q, top_named c n 0 at q, lt-ltb u c.vars (omega (arith, lt, fits)), known_named known low (room_values 0 at q) x p.1)
    named r known at (i.Store t a x) low h q =
        let p = and_parts (known a.0) (known x.0) h in
        simp (first_named c n 0 at q, top_named c n 0 at q, known_named known low (room_values 0 at q) a p.0, known_named known low (room_values 0 at q) x p.1)
    named r known at (i.SetElement a j x) low h q =
        let p = and_parts (nat_lt a c.arrays) (known j.0 && known x.0) h in
        let g = and_parts (known j.0) (known x.0) p.1 in
        simp (first_named c n 0 at q, top_named c n 0 at q, p.0, known_named known low (room_values 0 at q) j g.0, known_named known low (room_values 0 at q) x g.1)
    named r known at (i.Clear a) low h q = simp (first_named c n 0 at q, top_named c n 0 at q, h)
    named r known at (i.If' x k a m b) low h q =
        let top = max (height_row a) (height_row b) in
        let p = and_parts (known x.0) (item.is_row has r known a && item.is_row has r known b) h in
        let g = and_parts (item.is_row has r known a) (item.is_row has r known b) p.1 in
        branches_named top at x (masked_row ids (branch at) a) (masked_row ids (branch at) b) q (known_named known low (room_values (top + 1) at q) x p.0)
        (named_row r known (branch at) a low g.0 (branch_room c n (height_row a) top at (le-max_left (height_row a) (height_row b)) q))
        (named_row r known (branch at) b low g.1 (branch_room c n (height_row b) top at (le-max_right (height_row a) (height_row b)) q))
    named r known at (i.Loop' k head x m body l step) low h q =
        let inner = max (height_row body) (height_row step) in
        let top = max (height_row head) inner in
        let after : ℕ → Bool = item.known_row known head in
        let p = and_parts (item.is_row has item.at_edge known head) (after x.0 && (item.is_row has (item.in_loop r) after body && item.is_row has item.at_edge after step)) h in
        let g = and_parts (after x.0) (item.is_row has (item.in_loop r) after body && item.is_row has item.at_edge after step) p.1 in
        let f = and_parts (item.is_row has (item.in_loop r) after body) (item.is_row has item.at_edge after step) g.1 in
        let low2 : Low n after = low_row item.at_edge known head p.0 low in
        let up : inner ≤ top = le-max_right (height_row head) inner in
        let bl : height_row body ≤ inner = le-max_left (height_row body) (height_row step) in
        let sl : height_row step ≤ inner = le-max_right (height_row body) (height_row step) in
        loops_named top at x (masked_row ids (turning at) head) (masked_row ids (in_round at) body) (masked_row ids (turning at) step) q (known_named after low2 (room_values (top + 1) at q) x g.0)
        (named_row item.at_edge known (turning at) head low p.0 (turning_room c n (height_row head) top at (le-max_left (height_row head) inner) q))
        (named_row (item.in_loop r) after (in_round at) body low2 f.0 (round_room c n (height_row body) top at (omega (arith, up, bl)) q))
        (named_row item.at_edge after (turning at) step low2 f.1 (turning_room c n (height_row step) top at (omega (arith, up, sl)) q))
    named r known at (i.Scope' k a) low h q =
        is_body-append c (opens at.value at.var at.top) (masked_row ids (scope at) a) (opens_named c n (height_row a + 1) at q at.var at.top (first_var (height_row a) at q) q.top)
        (named_row item.in_scope known (scope at) a low h (scope_room c n (height_row a) (height_row a) at (omega arith) q))
    named r known at i.Leave low h q = leaves_named c n 0 at q at.in_scope q.scopes
    named r known at i.Break low h q = leaves_named c n 0 at q (loop_of at) (q.loops at.top q.top)
    named r known at i.Continue low h q = leaves_named c n 0 at q (round_of at) (q.rounds at.top q.top)

    named_row : {k : _} (r : item.Around) (known : ℕ → Bool) (at : Place) (a : Row_of-Stmt k) → Low n known → item.is_row has r known a ≡ true → Room c n (height_row a) at
        → is_body c (masked_row ids at a) ≡ true
    named_row r known at end_of-Stmt low h q = refl
    named_row r known at (more_of-Stmt a rest) low h q =
        let p = and_parts (item.is_stmt has r known a) (item.is_row has r (item.known_after known a) rest) h in
        let top = max (height a) (height_row rest) in
        is_body-append c (masked ids at a) (masked_row ids at rest)
        (named r known at a low p.0 (fewer c n (height a) top at (le-max_left (height a) (height_row rest)) q))
        (named_row r (item.known_after known a) at rest (low_after r known a p.0 low) p.1 (fewer c n (height_row rest) top at (le-max_right (height a) (height_row rest)) q))

  pub named_all : (r : item.Around) (known : ℕ → Bool) (at : Place) (l : List Stmt) → Low n known → item.are_stmts has r known l ≡ true → Room c n (height_all l) at
      → is_body c (masked_all ids at l) ≡ true
  named_all r known at [] low h q = refl
  named_all r known at (a ∷ rest) low h q =
      let p = and_parts (item.is_stmt has r known a) (item.are_stmts has r (item.known_after known a) rest) h in
      let top = max (height a) (height_all rest) in
      is_body-append c (masked ids at a) (masked_all ids at rest)
      (named r known at a low p.0 (fewer c n (height a) top at (le-max_left (height a) (height_all rest)) q))
      (named_all r (item.known_after known a) at rest (low_after r known a p.0 low) p.1 (fewer c n (height_all rest) top at (le-max_right (height a) (height_all rest)) q))

-- what a prolog names is there where there is more
module _ (k : ℕ) (c : Counts) (le : k ≤ c.vals) where
  abbrev own : Counts
  own = counted k 0 0 0

  more_val : (x : Val) → is_val own x ≡ true → is_val c x ≡ true
  more_val x h = let p = ltb-true x.0 k h in lt-ltb x.0 c.vals (omega (arith, p, le))

  more_vals : (l : List Val) → are_vals own l ≡ true → are_vals c l ≡ true
  more_vals [] h = refl
  more_vals (x ∷ rest) h = let p = and_parts (is_val own x) (are_vals own rest) h in and_from (is_val c x) (are_vals c rest) (more_val x p.0) (more_vals rest p.1)

  none : (x : ℕ) → nat_lt x 0 ≡ true → ⊥
  none x h = let p = ltb-true x 0 h in omega (arith, p)

  more_def : (e : Def) → is_def own e ≡ true → is_def c e ≡ true
  more_def (d.Const x) h = h
  more_def (d.Param p) h = absurd (none p h)
  more_def (d.Work which dim) h = let p = and_parts (is_size which) (is_val own dim) h in and_from (is_size which) (is_val c dim) p.0 (more_val dim p.1)
  more_def (d.Get u) h = absurd (none u h)
  more_def (d.Bin op a b) h = let p = and_parts (is_val own a) (is_val own b) h in and_from (is_val c a) (is_val c b) (more_val a p.0) (more_val b p.1)
  more_def (d.One op a) h = more_val a h
  more_def (d.Built which t args) h = more_vals args h
  more_def (d.Choose a b x) h =
      let p = and_parts (is_val own a) (is_val own b && is_val own x) h in
      let q = and_parts (is_val own b) (is_val own x) p.1 in
      and_from (is_val c a) (is_val c b && is_val c x) (more_val a p.0) (and_from (is_val c b) (is_val c x) (more_val b q.0) (more_val x q.1))
  more_def (d.Load t a) h = h
  more_def (d.Element a j) h = h
  more_def d.Flat h = h
  more_def d.Items h = h

  prolog_stmt : (s : LaneStmt) → is_definition s ≡ true → is_stmt own s ≡ true → is_stmt c s ≡ true
  prolog_stmt (lane.Let x e) g h = let p = and_parts (is_val own x) (is_def own e) h in and_from (is_val c x) (is_def c e) (more_val x p.0) (more_def e p.1)
  prolog_stmt (lane.Put u x m) g h = cc
  prolog_stmt (lane.Load t e a m) g h = cc
  prolog_stmt (lane.Store t a x m) g h = cc
  prolog_stmt (lane.GetElement r e j m) g h = cc
  prolog_stmt (lane.PutElement r j x m) g h = cc
  prolog_stmt (lane.Clear r m) g h = cc
  prolog_stmt (lane.WhileAny' u head m b body) g h = cc

  pub prolog_all : (l : List LaneStmt) → are_definitions l ≡ true → is_body own l ≡ true → is_body c l ≡ true
  prolog_all [] g h = refl
  prolog_all (s ∷ rest) g h =
      let p = and_parts (is_definition s) (are_definitions rest) g in
      let q = and_parts (is_stmt own s) (is_body own rest) h in
      and_from (is_stmt c s) (is_body c rest) (prolog_stmt s p.0 q.0) (prolog_all rest p.1 q.1)

  pub id_low : 0 < c.vals → (l : List Val) → are_vals own l ≡ true → (j : ℕ) → nat_lt (id l j).0 c.vals ≡ true
  id_low lt [] h j = lt-ltb 0 c.vals lt
  id_low lt (x ∷ rest) h zero = more_val x (and_parts (is_val own x) (are_vals own rest) h).0
  id_low lt (x ∷ rest) h (suc j) = id_low lt rest (and_parts (is_val own x) (are_vals own rest) h).1 j

-- the whole batch of an item with n values, nu variables, and these arrays and parameters
pub batch_named : (n nu arrays params k : ℕ) (prolog : List LaneStmt) (live : Val) (ids : List Val) (body : List Stmt) → n ≤ k
    → are_definitions prolog ≡ true → is_body (counted k 0 0 0) prolog ≡ true → (is_val (counted k 0 0 0) live && are_vals (counted k 0 0 0) ids) ≡ true
    → item.is_item (item.counted n nu arrays params) body ≡ true
    → is_body (counted (vals_after k (height_all body)) (vars_after nu (height_all body)) arrays params) (prolog ++ masked_item ids live k nu body) ≡ true
batch_named n nu arrays params k prolog live ids body le defs pro below ok =
    let c : Counts = counted (vals_after k (height_all body)) (vars_after nu (height_all body)) arrays params in
    let more : k ≤ c.vals = omega arith in
    let p = and_parts (is_val (counted k 0 0 0) live) (are_vals (counted k 0 0 0) ids) below in
    let room : Room c n (height_all body) (outermost k nu) = record {
      item = le;
      values = omega arith;
      variables = omega arith;
      top = omega arith;
      rounds = λ x lt. lt;
      loops = λ x lt. lt;
      scopes = omega arith;
    } in
    let one : nat_lt k c.vals ≡ true = lt-ltb k c.vals (omega arith) in
    let mask : nat_lt nu c.vars ≡ true = lt-ltb nu c.vars (omega arith) in
    let rest : is_body c (masked_all ids (outermost k nu) body) ≡ true =
    named_all c n nu ids (omega arith) (id_low k c more (omega arith) ids p.1) item.in_scope item.none_known (outermost k nu) body (λ j e. cc) ok room in
    is_body-append c prolog (masked_item ids live k nu body) (prolog_all k c more prolog defs pro)
    (and_from (is_stmt c (Let (val k) (d.Const 1))) _ (simp one)
    (and_from (is_stmt c (Put nu live (val k))) _ (simp (one, mask, more_val k c more live p.0)) rest))
