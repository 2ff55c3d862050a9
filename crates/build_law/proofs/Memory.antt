-- A load and a store of the code do what those of the meaning do, for elements of each size.
use Rattle.std.proofs.Common.{◌≡◌, ℕ, zero, suc, ◌+◌, ◌-◌, ◌*◌, ◌/◌, ◌%◌, ◌^◌, ◌<◌, ◌≤◌, ◌≢◌, inl, inr, Bool, true, false, List, [], ◌∷◌, length, refl, sym, ap, ◌∙◌, subst, arith}
use Rattle.std.specs.Prelude.{slice_index, slice_index_or, slice_set, map, ◌==◌, ◌&&◌, nat_le, if◌then◌else◌}
use Rattle.std.proofs.lemmas.Bool.Decides.{nat_tests}
use Rattle.std.proofs.lemmas.Bool.{eqb-true, eqb-false}
use Rattle.std.proofs.lemmas.List.{get_or-set_same, get_or-set_other}
use Rattle.std.proofs.Math.ListN.{length-set}
use Rattle.footprint.specs.declared.marks.Use.{Use}
use Rattle.footprint.specs.declared.marks.Use.TheVariants.{Read, Write}
use Rattle.q_lane.specs.declared.kinds.Scalar.{Scalar}
use Rattle.q_lane.specs.declared.kinds.Scalar.TheVariants.{Char, Uchar, Short, Ushort, Int, Uint}
use Rattle.q_lane.specs.Numbers.{narrowed}
use Rattle.q_functions.specs.NumberFunctions.{bytes_of}
use Rattle.item_meaning.specs.declared.values.Value.{Value}
use Rattle.item_meaning.specs.declared.values.Value.TheVariants.{Num, Null, At}
use Rattle.item_meaning.specs.ItemState.{State, Goes, Bounds}
use Rattle.item_meaning.specs.Places.{number_at, buffer_of, with_byte, with_bytes, in_bounds, mark, load, store}
use Rattle.item_ir.specs.Memory.{with_at, lies, bytes_at, with_bytes as with_bytes_of}
use Rattle.item_ir.specs.IrMeaning.{is_allowed, State as Item, Ends, Stops, Next, Reads, Writes, with_val, touched, and_then, run_all}
use Rattle.item_ir.specs.declared.form.Def.TheVariants.{Load}
use Rattle.item_ir.specs.declared.form.Stmt.TheVariants.{Let, Store}
use Rattle.ir_build.specs.Code.{v}
use Rattle.build_law.specs.Keeps.{Ground, Laid, Same, Related, Kept, Follows, placed, use_of}
use Rattle.build_law.proofs.Steps.{with_at-same, with_at-other, with_val-related, bool_cases}

bounds_facts : (t : Scalar) (o n : ℕ) → (o % bytes_of t == 0 && nat_le (o + bytes_of t) n) ≡ true → (o % bytes_of t ≡ 0) × (o + bytes_of t ≤ n)
bounds_facts Char o n h = grind (arith, nat_tests)
bounds_facts Uchar o n h = grind (arith, nat_tests)
bounds_facts Short o n h = grind (arith, nat_tests)
bounds_facts Ushort o n h = grind (arith, nat_tests)
bounds_facts Int o n h = grind (arith, nat_tests)
bounds_facts Uint o n h = grind (arith, nat_tests)

fine_facts : (t : Scalar) (a : ℕ) (l : Bool) → a % bytes_of t ≡ 0 → l ≡ true → (a % bytes_of t == 0 && l) ≡ true
fine_facts Char a l h e = grind (arith, nat_tests)
fine_facts Uchar a l h e = grind (arith, nat_tests)
fine_facts Short a l h e = grind (arith, nat_tests)
fine_facts Ushort a l h e = grind (arith, nat_tests)
fine_facts Int a l h e = grind (arith, nat_tests)
fine_facts Uint a l h e = grind (arith, nat_tests)

sum_aligned : (t : Scalar) (b o : ℕ) → b % 4 ≡ 0 → o % bytes_of t ≡ 0 → (b + o) % bytes_of t ≡ 0
sum_aligned Char b o h e = omega arith
sum_aligned Uchar b o h e = omega arith
sum_aligned Short b o h e = omega arith
sum_aligned Ushort b o h e = omega arith
sum_aligned Int b o h e = omega arith
sum_aligned Uint b o h e = omega arith

some_byte : (t : Scalar) → 1 ≤ bytes_of t
some_byte Char = omega arith
some_byte Uchar = omega arith
some_byte Short = omega arith
some_byte Ushort = omega arith
some_byte Int = omega arith
some_byte Uint = omega arith

sum_small : (b o n k : ℕ) → b + n ≤ 2 ^ 32 → o + k ≤ n → 1 ≤ k → (b + o) % 2 ^ 32 ≡ b + o
sum_small b o n k h e l = omega arith

record BytesSame (g : Ground) (buffers : List (List ℕ)) (mem : ℕ → ℕ) : Type 0 where
  bytes : (k o : ℕ) → o < g.size k → mem (g.base k + o) ≡ slice_index (buffer_of buffers k) o
  sizes : (k : ℕ) → length (buffer_of buffers k) ≡ g.size k

in_list : (xs : List (List ℕ)) (k o : ℕ) → o < length (slice_index_or xs k []) → k < length xs
in_list [] k o h = absurd (omega arith)
in_list (x ∷ xs) zero o h = omega arith
in_list (x ∷ xs) (suc k) o h = let r = in_list xs k o h in omega arith

module _ (g : Ground) (lay : Laid g) (d : ℕ) where
  -- where an access of the meaning is in bounds, the address may be accessed
  pub address_fine : (t : Scalar) (s : State) (m : Item) (k o x : ℕ) → Related g d s m → in_bounds t s.buffers k o ≡ true → x ≡ (g.base k + o) % 2 ^ 32
      → (x ≡ g.base k + o) × (is_allowed g.world t x ≡ true) × (o + bytes_of t ≤ g.size k)
  address_fine t s m k o x h e q =
      let f = bounds_facts t o (length (buffer_of s.buffers k)) e in
      let within : o + bytes_of t ≤ g.size k = subst (λ z. o + bytes_of t ≤ z) (h.sizes k) f.1 in
      let small = sum_small (g.base k) o (g.size k) (bytes_of t) (lay.below k) within (some_byte t) in
      let at : x ≡ g.base k + o = q ∙ small in
      let fine = fine_facts t (g.base k + o) (lies g.world.regions (g.base k + o) (bytes_of t)) (sum_aligned t (g.base k) o (lay.aligned k) f.0) (lay.allowed k o (bytes_of t) (some_byte t) within) in
      (at, subst (λ y. is_allowed g.world t y ≡ true) (sym at) fine, within)

  number_same : (n : ℕ) (s : State) (m : Item) (k o : ℕ) → Related g d s m → o + n ≤ g.size k → bytes_at m.mem n (g.base k + o) ≡ number_at n (buffer_of s.buffers k) o
  number_same zero s m k o h le = refl
  number_same (suc n) s m k o h le =
      let b = h.bytes k o (omega (arith, le)) in
      let e : suc (g.base k + o) ≡ g.base k + suc o = omega arith in
      let r = ap (λ a. bytes_at m.mem n a) e ∙ number_same n s m k (suc o) h (omega (arith, le)) in
      ap (λ x. x + 2 ^ 8 * bytes_at m.mem n (suc (g.base k + o))) b ∙ ap (λ x. slice_index (buffer_of s.buffers k) o + 2 ^ 8 * x) r

  placed_mark : (how : Use) (t : Scalar) (k o x : ℕ) (m : Item) (s : State) → x ≡ g.base k + o → m.touches ≡ map (placed g.base) s.marks
      → (touched (use_of how) t x m).touches ≡ map (placed g.base) (mark how t k o ∷ s.marks)
  placed_mark how t k o x m s e h =
      let z : bytes_of t ≡ o + bytes_of t - o = omega arith in
      ap (λ a. record { how = use_of how; address = a; len = bytes_of t } ∷ m.touches) e
      ∙ ap (λ n. record { how = use_of how; address = g.base k + o; len = n } ∷ m.touches) z
      ∙ ap (λ l. record { how = use_of how; address = g.base k + o; len = o + bytes_of t - o } ∷ l) h

  pub touched-related : (how : Use) (t : Scalar) (k o x : ℕ) (s : State) (m : Item) → x ≡ g.base k + o → Related g d s m
      → Related g d (record s { marks = mark how t k o ∷ s.marks }) (touched (use_of how) t x m)
  touched-related how t k o x s m e h =
      record { vars = h.vars; count = h.count; elements = h.elements; lengths = h.lengths; bytes = h.bytes; sizes = h.sizes; touches = placed_mark how t k o x m s e h.touches; left = h.left }

  load_case : (t : Scalar) (s : State) (m : Item) (at k o a j : ℕ) (b : Bool) → Related g d s m → m.vals a ≡ (g.base k + o) % 2 ^ 32 → in_bounds t s.buffers k o ≡ b
      → Follows g d (λ _. Next) (if b then Goes (Num (narrowed t (number_at (bytes_of t) (buffer_of s.buffers k) o))) (record s { marks = mark Read t k o ∷ s.marks }) else Bounds at)
      (λ x u n. Same g.base x (n.vals j) × Kept g j m n) (run_all g.world (Let (v j) (Load t (v a)) ∷ []) m)
  load_case t s m at k o a j false h q e = tt
  load_case t s m at k o a j true h q e =
      let f = address_fine t s m k o (m.vals a) h e q in
      let x = narrowed t (bytes_at m.mem (bytes_of t) (m.vals a)) in
      let n = with_val j x (touched Reads t (m.vals a) m) in
      let ends = ap (λ c. and_then (if c then Ends Next n else Stops) (run_all g.world [])) f.1 in
      let same = with_at-same m.vals j x ∙ ap (λ y. narrowed t (bytes_at m.mem (bytes_of t) y)) f.0 ∙ ap (narrowed t) (number_same (bytes_of t) s m k o h f.2) in (
        n,
        ends,
        with_val-related g d j x _ _ (touched-related Read t k o (m.vals a) s m f.0 h),
        (same, record { vals = λ i l. let ne : i ≢ j = omega (arith, l) in with_at-other m.vals j x i ne; vars = λ i p l. refl }),
      )

  pub load_built : (t : Scalar) (s : State) (m : Item) (at a j : ℕ) (x : Value) → Related g d s m → Same g.base x (m.vals a)
      → Follows g d (λ _. Next) (load at t x s) (λ y u n. Same g.base y (n.vals j) × Kept g j m n) (run_all g.world (Let (v j) (Load t (v a)) ∷ []) m)
  load_built t s m at a j (Num w) h q = tt
  load_built t s m at a j Null h q = tt
  load_built t s m at a j (At k o) h q = load_case t s m at k o a j (in_bounds t s.buffers k o) h q refl

  -- one byte is written on both sides
  byte_written : (buffers : List (List ℕ)) (mem : ℕ → ℕ) (k o b : ℕ) → o < g.size k → BytesSame g buffers mem → BytesSame g (with_byte buffers k o b) (with_at mem (g.base k + o) b)
  byte_written buffers mem k o b lt h = record { bytes = every_byte; sizes = every_size }
    where
      old : List ℕ
      old = slice_index_or buffers k []

      long : o < length old
      long = subst (λ z. o < z) (sym (h.sizes k)) lt

      here : slice_index_or (with_byte buffers k o b) k [] ≡ slice_set old o b
      here = get_or-set_same buffers k (slice_set old o b) [] (in_list buffers k o long)

      there : (l : ℕ) → l ≢ k → slice_index_or (with_byte buffers k o b) l [] ≡ slice_index_or buffers l []
      there l ne = get_or-set_other buffers k l (slice_set old o b) [] ne

      in_buffer : (j : ℕ) → j < g.size k → with_at mem (g.base k + o) b (g.base k + j) ≡ slice_index (slice_set old o b) j
      in_buffer j l =
          elim (bool_cases (j == o)) [
            | inl t ↦
                let e : j ≡ o = eqb-true j o t in
                subst (λ i. with_at mem (g.base k + o) b (g.base k + i) ≡ slice_index (slice_set old o b) i) (sym e) (with_at-same mem (g.base k + o) b ∙ sym (get_or-set_same old o b 0 long))
            | inr f ↦
                let ne : j ≢ o = eqb-false j o f in
                let far : g.base k + j ≢ g.base k + o = λ e. ne (lay.apart k k j o l lt e).1 in
                with_at-other mem (g.base k + o) b (g.base k + j) far ∙ h.bytes k j l ∙ sym (get_or-set_other old o j b 0 ne)
          ]

      every_byte : (l j : ℕ) → j < g.size l → with_at mem (g.base k + o) b (g.base l + j) ≡ slice_index (slice_index_or (with_byte buffers k o b) l []) j
      every_byte l j lj =
          elim (bool_cases (l == k)) [
            | inl t ↦
                let e : l ≡ k = eqb-true l k t in
                let lk : j < g.size k = subst (λ i. j < g.size i) e lj in
                subst (λ i. with_at mem (g.base k + o) b (g.base i + j) ≡ slice_index (slice_index_or (with_byte buffers k o b) i []) j) (sym e) (in_buffer j lk ∙ ap (λ x. slice_index x j) (sym here))
            | inr f ↦
                let ne : l ≢ k = eqb-false l k f in
                let far : g.base l + j ≢ g.base k + o = λ e. ne (lay.apart l k j o lj lt e).0 in
                with_at-other mem (g.base k + o) b (g.base l + j) far ∙ h.bytes l j lj ∙ ap (λ x. slice_index x j) (sym (there l ne))
          ]

      every_size : (l : ℕ) → length (slice_index_or (with_byte buffers k o b) l []) ≡ g.size l
      every_size l =
          elim (bool_cases (l == k)) [
            | inl t ↦
                let e : l ≡ k = eqb-true l k t in
                subst (λ i. length (slice_index_or (with_byte buffers k o b) i []) ≡ g.size i) (sym e) (ap length here ∙ length-set old o b ∙ h.sizes k)
            | inr f ↦ ap length (there l (eqb-false l k f)) ∙ h.sizes l
          ]

  number_written : (n : ℕ) (buffers : List (List ℕ)) (mem : ℕ → ℕ) (k o x : ℕ) → o + n ≤ g.size k → BytesSame g buffers mem
      → BytesSame g (with_bytes n buffers k o x) (with_bytes_of mem n (g.base k + o) x)
  number_written zero buffers mem k o x le h = h
  number_written (suc n) buffers mem k o x le h =
      let e : g.base k + suc o ≡ suc (g.base k + o) = omega arith in
      let b = byte_written buffers mem k o (x % 2 ^ 8) (omega (arith, le)) h in
      subst (λ a. BytesSame g (with_bytes n (with_byte buffers k o (x % 2 ^ 8)) k (suc o) (x / 2 ^ 8)) (with_bytes_of (with_at mem (g.base k + o) (x % 2 ^ 8)) n a (x / 2 ^ 8))) e
      (number_written n (with_byte buffers k o (x % 2 ^ 8)) (with_at mem (g.base k + o) (x % 2 ^ 8)) k (suc o) (x / 2 ^ 8) (omega (arith, le)) b)

  -- what a store keeps: all values and variables
  pub record Stored (m n : Item) : Type 0 where
    pub vals : n.vals ≡ m.vals
    pub vars : n.vars ≡ m.vars

  store_case : (t : Scalar) (s : State) (m : Item) (at k o a b x : ℕ) (c : Bool) → Related g d s m → m.vals a ≡ (g.base k + o) % 2 ^ 32 → m.vals b ≡ x → in_bounds t s.buffers k o ≡ c
      → Follows g d (λ _. Next) (if c then Goes (Num x) (record s { buffers = with_bytes (bytes_of t) s.buffers k o x; marks = mark Write t k o ∷ s.marks }) else Bounds at)
      (λ y u n. Same g.base y (n.vals b) × Stored m n) (run_all g.world (Store t (v a) (v b) ∷ []) m)
  store_case t s m at k o a b x false h q r e = tt
  store_case t s m at k o a b x true h q r e =
      let f = address_fine t s m k o (m.vals a) h e q in
      let mem = with_bytes_of m.mem (bytes_of t) (m.vals a) (m.vals b) in
      let n = touched Writes t (m.vals a) (record m { mem = mem }) in
      let ends = ap (λ c. and_then (if c then Ends Next n else Stops) (run_all g.world [])) f.1 in
      let b0 : BytesSame g s.buffers m.mem = record { bytes = h.bytes; sizes = h.sizes } in
      let b1 = number_written (bytes_of t) s.buffers m.mem k o x f.2 b0 in
      let e2 : with_bytes_of m.mem (bytes_of t) (g.base k + o) x ≡ mem = ap (λ y. with_bytes_of m.mem (bytes_of t) y x) (sym f.0) ∙ ap (with_bytes_of m.mem (bytes_of t) (m.vals a)) (sym r) in
      let b2 = subst (BytesSame g (with_bytes (bytes_of t) s.buffers k o x)) e2 b1 in
      let h2 : Related g d (record s { buffers = with_bytes (bytes_of t) s.buffers k o x }) (record m { mem = mem }) =
      record { vars = h.vars; count = h.count; elements = h.elements; lengths = h.lengths; bytes = b2.bytes; sizes = b2.sizes; touches = h.touches; left = h.left } in
      (n, ends, touched-related Write t k o (m.vals a) _ _ f.0 h2, (r, record { vals = refl; vars = refl }))

  pub store_built : (t : Scalar) (s : State) (m : Item) (at a b x : ℕ) (p : Value) → Related g d s m → Same g.base p (m.vals a) → m.vals b ≡ x
      → Follows g d (λ _. Next) (store at t p x s) (λ y u n. Same g.base y (n.vals b) × Stored m n) (run_all g.world (Store t (v a) (v b) ∷ []) m)
  store_built t s m at a b x (Num w) h q r = tt
  store_built t s m at a b x Null h q r = tt
  store_built t s m at a b x (At k o) h q r = store_case t s m at k o a b x (in_bounds t s.buffers k o) h q r refl
