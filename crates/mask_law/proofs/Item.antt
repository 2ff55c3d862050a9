-- A whole item, in all lanes of a batch.
use Rattle.std.proofs.Common.{◌≡◌, ◌≢◌, ℕ, zero, suc, ◌+◌, ◌*◌, ◌<◌, ◌≤◌, ◌⊎◌, inl, inr, Bool, true, false, List, [], ◌∷◌, ◌++◌, refl, sym, ap, ◌∙◌, subst, arith}
use Rattle.std.specs.Prelude.{if◌then◌else◌, nat_lt, ◌&&◌, ◌||◌}
use Rattle.std.proofs.lemmas.Bool.{and_parts, cases_eq}
use Rattle.item_ir.specs.Memory.{with_at}
use Rattle.item_ir.specs.Valid.{Counts, Around, in_scope as scope_around, Known, none_known, known_after, is_stmt, are_stmts, is_item}
use Rattle.item_ir.specs.IrMeaning.{World as ItemWorld, State as Item, Touched, Reads, Writes, Touch as Access, Run as Ran, Ends as Done, Flow, run_all as run_items}
use Rattle.item_ir.specs.declared.form.Def.TheVariants as d
use Rattle.item_ir.specs.declared.form.Stmt.{Stmt}
use Rattle.item_laws.specs.Locality as local
use Rattle.item_laws.specs.Locality.{RunsAreLocal}
use Rattle.lane_ir.specs.LaneMeaning.{World, State, Ends, is_on, chosen, defines, run_all}
use Rattle.lane_ir.proofs.Steps.{bool_cases, with_at-same, with_at-other}
use Rattle.mask_flow.specs.Masked.{val, masked_all, masked_item}
use Rattle.mask_law.specs.Stacks.{Entry, In_scope, in_scope, place}
use Rattle.mask_law.specs.Masks.{has}
use Rattle.mask_law.specs.Weights.{weight_all}
use Rattle.mask_law.specs.Worlds.{Ids, SameWorld, asks, asks_all}
use Rattle.mask_law.specs.Lanes.{is_write, in_access, touches, writes, Bytes, total, Open, Before, Items, After, lane_log}
use Rattle.mask_law.specs.Law.{mem_before, OneByOne, Begins, EndsAs, KeepsItems}
use Rattle.mask_law.proofs.All.{stmt_keeps, still_known, low_after, none_keeps}
use Rattle.mask_law.proofs.Emitted.{in_lane, on_value}
use Rattle.mask_law.proofs.Fitting.{open_scope}
use Rattle.mask_law.proofs.Growth.{Grows, run_grows, grows_then, stays}
use Rattle.mask_law.proofs.Moves.{ids_kept}
use Rattle.mask_law.proofs.Sequence.{Keeps, both_keep}
use Rattle.mask_law.proofs.WithoutParts.{leaves_masked}

-- ---- a list of statements

abbrev known_list : Known → List Stmt → Known
known_list known [] = known
known_list known (a ∷ rest) = known_list (known_after known a) rest

list_grows : (x : ItemWorld) (body : List Stmt) (y : Item) → Grows y (run_items x body y)
list_grows x [] y = stays y y refl
list_grows x (a ∷ rest) y = grows_then y (Rattle.item_ir.specs.IrMeaning.run x a y) (run_items x rest) (run_grows x a y) (list_grows x rest)

list_keeps : (w : World) (xs : ℕ → ItemWorld) (ids : Ids) (n tests : ℕ) (c : Counts) (same : (l : ℕ) → l < n → SameWorld w (xs l)) (r : Around) (body : List Stmt) (known : Known) (k v : ℕ) (e : Entry) (st : List Entry)
    → are_stmts c r known body ≡ true → asks_all ids.uses body ≡ true → Open r (e ∷ st) → has In_scope (e ∷ st) ≡ true → ((j : ℕ) → known j ≡ true → j < c.vals)
    → Keeps w xs ids n tests c (weight_all body) (λ l. run_items (xs l) body) known (known_list known body) k v (e ∷ st) (masked_all ids.vals (place k v (e ∷ st)) body)
list_keeps w xs ids n tests c same r [] known k v e st fit asked o scoped low = none_keeps leaves_masked w xs ids n tests c same known k v e st
list_keeps w xs ids n tests c same r (a ∷ rest) known k v e st fit asked o scoped low =
    let p = and_parts (is_stmt c r known a) (are_stmts c r (known_after known a) rest) fit in
    let u1 = and_parts (asks ids.uses a) (asks_all ids.uses rest) asked in
    let low2 : (j : ℕ) → known_after known a j ≡ true → j < c.vals = low_after c r a known p.0 low in
    both_keep w xs ids n tests c (Rattle.mask_law.specs.Weights.weight a) (weight_all rest) (λ l. Rattle.item_ir.specs.IrMeaning.run (xs l) a) (λ l. run_items (xs l) rest) known (known_after known a) (known_list (known_after known a) rest) k v e st
    (Rattle.mask_flow.specs.Masked.masked ids.vals (place k v (e ∷ st)) a) (masked_all ids.vals (place k v (e ∷ st)) rest) (still_known a known) low2 (λ l. list_grows (xs l) rest)
    (stmt_keeps leaves_masked w xs ids n tests c same r a known k v e st p.0 u1.0 o scoped low) (list_keeps w xs ids n tests c same r rest (known_after known a) k v e st p.1 u1.1 o scoped low2)

-- ---- what an item leaves of a byte

same_write : (h : Touched) → is_write h ≡ local.is_write h
same_write Reads = refl
same_write Writes = refl

same_writes : (l : List Access) (a : ℕ) → writes l a ≡ local.writes l a
same_writes [] a = refl
same_writes (x ∷ rest) a = λ i. (same_write x.how i && in_access x a) || same_writes rest a i

writes_touch : (l : List Access) (a : ℕ) → writes l a ≡ true → touches l a ≡ true
writes_touch [] a h = cc
writes_touch (x ∷ rest) a h = by (is_write x.how) (in_access x a) (writes rest a) (touches rest a) h (writes_touch rest a)
  where
    by : (p q r t : Bool) → ((p && q) || r) ≡ true → (r ≡ true → t ≡ true) → (q || t) ≡ true
    by true true r t h f = refl
    by true false r t h f = f h
    by false true r t h f = refl
    by false false r t h f = f h

none_behind : {A : Type 0} (l : List A) → l ++ [] ≡ l
none_behind [] = refl
none_behind (x ∷ rest) = ap (λ z. x ∷ z) (none_behind rest)

-- a byte that it doesn't write stays
unwritten : RunsAreLocal → (x : ItemWorld) (body : List Stmt) (y z : Item) (f : Flow) (a : ℕ) → run_items x body y ≡ Done f z → y.touches ≡ [] → writes z.touches a ≡ false → z.mem a ≡ y.mem a
unwritten law x body y z f a ends fresh unset =
    let r = law x body y f z ends in
    let new : z.touches ≡ r.new = r.kept.touches ∙ ap (λ l. r.new ++ l) fresh ∙ none_behind r.new in
    r.kept.bytes a (sym (same_writes r.new a) ∙ ap (λ l. writes l a) (sym new) ∙ unset)

module _ (law : RunsAreLocal) (w : World) (n : ℕ) (c : Counts) (body : List Stmt) (ids : Ids) (live k i : ℕ) (act : ℕ → Bool) (xs : ℕ → ItemWorld) (starts ends : ℕ → Item) (flows : ℕ → Flow) (t : State)
    (fit : is_item c body ≡ true) (asked : asks_all ids.uses body ≡ true) (same : (l : ℕ) → l < n → SameWorld w (xs l)) (b0 : Begins n c.vars c.vals k live ids act xs starts t)
    (one : OneByOne n act (λ l. run_items (xs l) body) t.mem starts ends flows) (few : total n starts < i) where
  -- the bytes of each lane
  both : (p q : Bool) → (p && q) ≡ true → (p ≡ true) × (q ≡ true)
  both p q h = and_parts p q h

  abbrev bytes : Bytes n
  bytes = record {
    touched = λ l a. act l && touches (ends l).touches a;
    written = λ l a. act l && writes (ends l).touches a;
    within = λ l a h. (let p = and_parts (act l) (writes (ends l).touches a) h in ap (λ z. z && touches (ends l).touches a) p.0 ∙ writes_touch (ends l).touches a p.1);
    apart = λ l m a ll lm ne h g.
        (let p = and_parts (act l) (writes (ends l).touches a) h in
        let r = and_parts (act m) (touches (ends m).touches a) g in
        one.alone l m a ll lm ne p.0 r.0 p.1 r.1);
  }

  -- the memory before each lane, at a byte
  before_next : (l a : ℕ) → l < n → bytes.written l a ≡ false → mem_before act ends t.mem (suc l) a ≡ mem_before act ends t.mem l a
  before_next l a lt unset =
      elim (bool_cases (act l)) [
        | inl on ↦
            ap (λ z. (if z then (ends l).mem else mem_before act ends t.mem l) a) on
            ∙ unwritten law (xs l) body (starts l) (ends l) (flows l) a (one.runs l lt on) (one.fresh l lt) (ap (λ z. z && writes (ends l).touches a) (sym on) ∙ unset) ∙ one.begins l lt on a
        | inr off ↦ ap (λ z. (if z then (ends l).mem else mem_before act ends t.mem l) a) off
      ]

  before_all : (m a : ℕ) → m ≤ n → ((l : ℕ) → l < m → bytes.written l a ≡ false) → mem_before act ends t.mem m a ≡ t.mem a
  before_all zero a le h = refl
  before_all (suc m) a le h = before_next m a (omega (arith, le)) (h m (omega arith)) ∙ before_all m a (omega (arith, le)) (λ l lt. h l (omega (arith, lt)))

  -- after the lane that writes it no other does
  before_from : (m l a : ℕ) → m ≤ n → l < m → act l ≡ true → ((o : ℕ) → o < n → o ≢ l → bytes.written o a ≡ false) → mem_before act ends t.mem m a ≡ (ends l).mem a
  before_from zero l a le lt on h = absurd (omega (arith, lt))
  before_from (suc m) l a le lt on h =
      elim (cases_eq m l) [
        | inl q ↦ ap (λ z. mem_before act ends t.mem (suc z) a) q ∙ ap (λ z. (if z then (ends l).mem else mem_before act ends t.mem l) a) on
        | inr ne ↦ before_next m a (omega (arith, le)) (h m (omega (arith, le)) ne) ∙ before_from m l a (omega (arith, le)) (omega (arith, lt, ne)) on h
      ]

  -- some lane writes the byte, or none
  who : (m a : ℕ) → m ≤ n → ((l : ℕ) × (l < m) × (bytes.written l a ≡ true)) ⊎ ((l : ℕ) → l < m → bytes.written l a ≡ false)
  who zero a le = inr (λ l lt. absurd (omega (arith, lt)))
  who (suc m) a le =
      elim (bool_cases (bytes.written m a)) [
        | inl h ↦ inl (m, omega arith, h)
        | inr unset ↦
            elim (who m a (omega (arith, le))) [
              | inl p ↦ (let lt = p.1 in inl (p.0, omega (arith, lt), p.2))
              | inr h ↦ inr (λ l lt. elim (cases_eq l m) [ inl q ↦ ap (λ z. bytes.written z a) q ∙ unset | inr ne ↦ h l (omega (arith, lt, ne)) ])
            ]
      ]

  -- what one lane touches no other writes
  not_written : (l o a : ℕ) → l < n → o < n → o ≢ l → bytes.touched l a ≡ true → bytes.written o a ≡ false
  not_written l o a ll lo ne h = elim (bool_cases (bytes.written o a)) [ inl g ↦ absurd (bytes.apart o l a lo ll ne g h) | inr g ↦ g ]

  -- ---- the mask of the whole item

  abbrev nu : ℕ
  nu = c.vars

  abbrev t1 : State
  t1 = defines w n k (d.Const 1) t

  abbrev t2 : State
  t2 = record t1 { vars = with_at t1.vars nu (λ l. chosen (t1.vals k l) (t1.vals live l) (t1.vars nu l)); steps = t1.steps + 1 }

  low_vals : (j : ℕ) → j < k → t2.vals j ≡ t.vals j
  low_vals j lt = with_at-other t.vals k (λ l. if nat_lt l n then 1 else 0) j (λ e. omega (arith, e, lt))

  mask2 : (l : ℕ) → l < n → is_on (t2.vars nu l) ≡ act l
  mask2 l lt =
      ap (λ (g : ℕ → ℕ). is_on (g l)) (with_at-same t1.vars nu (λ m. chosen (t1.vals k m) (t1.vals live m) (t1.vars nu m)))
      ∙ ap is_on (on_value (t1.vals k l) (t1.vals live l) (t1.vars nu l) (ap (λ (g : ℕ → ℕ). is_on (g l)) (with_at-same t.vals k (λ m. if nat_lt m n then 1 else 0)) ∙ ap is_on (in_lane l n 1 lt)))
      ∙ ap (λ (g : ℕ → ℕ). is_on (g l)) (low_vals live b0.free) ∙ b0.mask l lt

  never : (j : ℕ) → none_known j ≡ true → ⊥
  never j h = let wrong : false ≡ true = h in cc

  before : Before n c.vars c.vals i bytes ids xs act (λ l j. none_known j ≡ true) (λ j. none_known j ≡ true) k (nu + 1) (in_scope nu []) t2 starts
  before = record {
    rel = λ l lt. record {
      vals = λ j h. absurd (never j h);
      vars = λ u lo. ap (λ (g : ℕ → ℕ). g l) (with_at-other t1.vars nu (λ m. chosen (t1.vals k m) (t1.vals live m) (t1.vars nu m)) u (λ e. omega (arith, e, lo))) ∙ b0.vars l u lt lo;
      arrays = λ r e. b0.arrays l r e lt;
      mem = λ a h.
          (let p = and_parts (act l) (touches (ends l).touches a) h in
          sym (before_all l a (omega (arith, lt)) (λ o lo. not_written l o a lt (omega (arith, lo, lt)) (λ q. omega (arith, q, lo)) h)) ∙ sym (one.begins l lt p.0 a));
      log = ap (lane_log l) b0.log ∙ sym (one.fresh l lt);
    };
    masks = mask2;
    exact = λ l lt a. mask2 l lt ∙ a;
    sub = λ l j h. h;
    all = λ l j lt a h. h;
    high = let a = b0.prolog in let f = b0.free in omega (arith, a, f);
    known_low = λ j h. absurd (never j h);
    stacked = (omega arith, omega arith, tt);
    scoped = refl;
    has_ids = λ l lt a. ids_kept ids (xs l) c.vals k l t t2 b0.below low_vals (b0.has_ids l lt a);
    below = b0.below;
    rounds = few;
  }

  items : Items n bytes act (λ l. run_items (xs l) body) starts flows ends
  items = record {
    on = one.runs;
    off = one.idle;
    touched = λ l a lt on h. ap (λ z. z && touches (ends l).touches a) on ∙ h;
    written = λ l a lt on h. ap (λ z. z && writes (ends l).touches a) on ∙ h;
  }

  ran : (t' : State) × (run_all w n i (masked_all ids.vals (place k (nu + 1) (in_scope nu [])) body) t2 ≡ Ends t')
      × After n c.vars c.vals (weight_all body) bytes act (λ l j. none_known j ≡ true) (λ j. known_list none_known body j ≡ true) k (nu + 1) (in_scope nu []) t2 t' starts ends flows
  ran =
      list_keeps w xs ids n i c same scope_around body none_known k (nu + 1) (record { kind = In_scope; var = nu }) [] fit asked (open_scope nu []) refl (λ j h. absurd (never j h))
      bytes act (λ l. none_known) t2 starts ends flows before items

  memory : (a : ℕ) → ran.0.mem a ≡ mem_before act ends t.mem n a
  memory a =
      elim (who n a (omega arith)) [
        | inl p ↦
            (let on = (and_parts (act p.0) (writes (ends p.0).touches a) p.2).0 in
            (ran.2.rel p.0 p.1).mem a (bytes.within p.0 a p.2)
            ∙ sym (before_from n p.0 a (omega arith) p.1 on (λ o lo ne. not_written p.0 o a p.1 lo ne (bytes.within p.0 a p.2))))
        | inr unset ↦ ran.2.mem a unset ∙ sym (before_all n a (omega arith) unset)
      ]

  two_more : t.steps + 1 + 1 ≡ t.steps + 2
  two_more = omega arith

  pub item_ends : (t' : State) × (run_all w n i (masked_item ids.vals (val live) k c.vars body) t ≡ Ends t') × EndsAs n (weight_all body) act t starts ends t'
  item_ends = (
    ran.0,
    ran.1,
    record {
      mem = memory;
      log = λ l lt. (ran.2.rel l lt).log;
      falls = ran.2.falls;
      steps = subst (λ z. ran.0.steps + weight_all body * total n ends ≤ z + weight_all body * suc (total n starts)) two_more ran.2.steps;
    },
  )

pub items_kept : RunsAreLocal → (w : World) (n : ℕ) (c : Counts) (body : List Stmt) → KeepsItems w n c body
items_kept law w n c body ids live k i act xs starts ends flows t fit asked same b0 one few = item_ends law w n c body ids live k i act xs starts ends flows t fit asked same b0 one few
