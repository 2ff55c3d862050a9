-- Single definitions, loads and stores are local.
use Rattle.std.proofs.Common.{◌≡◌, ℕ, ◌+◌, ◌<◌, ◌≤◌, Bool, true, false, [], ◌∷◌, inl, inr, refl, ap, arith}
use Rattle.std.specs.Prelude.{◌||◌, nat_le, nat_lt, if◌then◌else◌}
use Rattle.std.proofs.lemmas.Bool.{and_from, and_parts, and_cases, or_parts, or_left, leb-true, leb-false, ltb-true, ltb-false, le-leb, lt-ltb}
use Rattle.q_lane.specs.declared.kinds.Scalar.{Scalar}
use Rattle.q_lane.specs.declared.kinds.Scalar.TheVariants.{Char, Uchar, Short, Ushort, Int, Uint}
use Rattle.q_lane.specs.Numbers.{narrowed}
use Rattle.q_functions.specs.NumberFunctions.{bytes_of}
use Rattle.item_ir.specs.Memory.{with_bytes, element_at, with_element}
use Rattle.item_ir.specs.declared.form.Def.{Def}
use Rattle.item_ir.specs.declared.form.Def.TheVariants as d
use Rattle.item_ir.specs.IrMeaning.{World, Touched, Reads, Writes, Touch, State, Next, Run, Ends, Stops, with_val, with_word, touched, is_allowed, defines, stores, sets_element}
use Rattle.item_laws.specs.Locality.{is_size, allows, are_allowed, covers, writes, uses}
use Rattle.item_laws.proofs.Bytes.{bytes_same, below_kept, above_kept, written_same}
use Rattle.item_laws.proofs.Runs.{Local, quiet, stops, depending}

-- an access of n bytes
abbrev access : Touched → (address len : ℕ) → Touch
access how x n = record { how = how; address = x; len = n }

covered : (how : Touched) (x n a : ℕ) → x ≤ a → a < x + n → uses (access how x n ∷ []) a ≡ true
covered how x n a p q = or_left (covers (access how x n) a) false (and_from (nat_le x a) (nat_lt a (x + n)) (le-leb x a p) (lt-ltb a (x + n) q))

no_other : (b : Bool) → (b || false) ≡ true → b ≡ true
no_other true e = refl
no_other false e = e

inside : (x n a : ℕ) → writes (access Writes x n ∷ []) a ≡ true → (x ≤ a) × (a < x + n)
inside x n a e =
    let p = and_parts (nat_le x a) (nat_lt a (x + n)) (no_other (covers (access Writes x n) a) e) in
    (leb-true x a p.0, ltb-true a (x + n) p.1)

outside : (mem : ℕ → ℕ) (x n word a : ℕ) → writes (access Writes x n ∷ []) a ≡ false → with_bytes mem n x word a ≡ mem a
outside mem x n word a e =
    elim (and_cases (nat_le x a) (nat_lt a (x + n)) (or_parts (covers (access Writes x n) a) false e).0) [
      | inl p ↦ below_kept mem n x word a (leb-false x a p)
      | inr p ↦ above_kept mem n x word a (ltb-false a (x + n) p)
    ]

a_size : (t : Scalar) → is_size (bytes_of t) ≡ true
a_size Char = refl
a_size Uchar = refl
a_size Short = refl
a_size Ushort = refl
a_size Int = refl
a_size Uint = refl

module _ (w : World) where
  allowed : (how : Touched) (t : Scalar) (x : ℕ) → is_allowed w t x ≡ true → are_allowed w (access how x (bytes_of t) ∷ []) ≡ true
  allowed how t x e = and_from (allows w (access how x (bytes_of t))) true (and_from (is_size (bytes_of t)) (is_allowed w t x) (a_size t) e) refl

  -- a test that the memory has no part in
  tested : (b c : Bool) → b ≡ c → (go : State → Run) → (b ≡ true → Local w go) → Local w (λ s. if c then go s else Stops)
  tested b true e go h = h e
  tested b false e go h = stops w

  val_local : (v : ℕ) (x : State → ℕ) → ((s : State) (m : ℕ → ℕ) → x (record s { mem = m }) ≡ x s) → Local w (λ s. Ends Next (with_val v (x s) s))
  val_local v x same =
      quiet w Next (λ s. with_val v (x s) s) (λ s. refl) (λ s. refl) (λ s. omega arith) (λ s m. ap (λ z. with_val v z (record s { mem = m })) (same s m))

  load_allowed : (v : ℕ) (t : Scalar) (x : ℕ) → is_allowed w t x ≡ true → Local w (λ s. Ends Next (with_val v (element_at s.mem t x) (touched Reads t x s)))
  load_allowed v t x e s = record {
    new = access Reads x (bytes_of t) ∷ [];
    kept = record { touches = refl; allowed = allowed Reads t x e; bytes = λ a q. refl; left = omega arith };
    again = λ m h. record {
      mem = m;
      ends = ap (λ z. Ends Next (with_val v (narrowed t z) (touched Reads t x (record s { mem = m })))) (bytes_same m s.mem (bytes_of t) x (λ j p q. h j (covered Reads x (bytes_of t) j p q)));
      written = λ a q. absurd cc;
      rest = λ a q. refl;
    };
  }

  store_allowed : (t : Scalar) (x word : ℕ) → is_allowed w t x ≡ true → Local w (λ s. Ends Next (touched Writes t x (record s { mem = with_element s.mem t x word })))
  store_allowed t x word e s = record {
    new = access Writes x (bytes_of t) ∷ [];
    kept = record { touches = refl; allowed = allowed Writes t x e; bytes = λ a q. outside s.mem x (bytes_of t) word a q; left = omega arith };
    again = λ m h. record {
      mem = with_element m t x word;
      ends = refl;
      written = λ a q. let p = inside x (bytes_of t) a q in written_same m s.mem (bytes_of t) x word a p.0 p.1;
      rest = λ a q. outside m x (bytes_of t) word a q;
    };
  }

  load_local : (v : ℕ) (t : Scalar) (x : ℕ) → Local w (λ s. if is_allowed w t x then Ends Next (with_val v (element_at s.mem t x) (touched Reads t x s)) else Stops)
  load_local v t x =
      tested (is_allowed w t x) (is_allowed w t x) refl (λ s. Ends Next (with_val v (element_at s.mem t x) (touched Reads t x s))) (load_allowed v t x)

  stored_local : (t : Scalar) (x word : ℕ) → Local w (stores w t x word)
  stored_local t x word =
      tested (is_allowed w t x) (is_allowed w t x) refl (λ s. Ends Next (touched Writes t x (record s { mem = with_element s.mem t x word }))) (store_allowed t x word)

  pub stores_local : (t : Scalar) (a x : ℕ) → Local w (λ s. stores w t (s.vals a) (s.vals x) s)
  stores_local t a x =
      depending w (λ s. s.vals a) (λ y s. stores w t y (s.vals x) s) (λ s m. refl)
      (λ y. depending w (λ s. s.vals x) (λ z s. stores w t y z s) (λ s m. refl) (λ z. stored_local t y z))

  set_local : (a i x : ℕ) → Local w (sets_element w a i x)
  set_local a i x =
      tested (nat_lt i (w.lens a)) (nat_lt i (w.lens a)) refl (λ s. Ends Next (with_word a i x s))
      (λ e. quiet w Next (λ s. with_word a i x s) (λ s. refl) (λ s. refl) (λ s. omega arith) (λ s m. refl))

  pub sets_local : (a i x : ℕ) → Local w (λ s. sets_element w a (s.vals i) (s.vals x) s)
  sets_local a i x =
      depending w (λ s. s.vals i) (λ y s. sets_element w a y (s.vals x) s) (λ s m. refl)
      (λ y. depending w (λ s. s.vals x) (λ z s. sets_element w a y z s) (λ s m. refl) (λ z. set_local a y z))

  element_local : (v a i : ℕ) → Local w (λ s. if nat_lt i (w.lens a) then Ends Next (with_val v (s.arrays a i) s) else Stops)
  element_local v a i =
      tested (nat_lt i (w.lens a)) (nat_lt i (w.lens a)) refl (λ s. Ends Next (with_val v (s.arrays a i) s)) (λ e. val_local v (λ s. s.arrays a i) (λ s m. refl))

  pub defines_local : (v : ℕ) (e : Def) → Local w (defines w v e)
  defines_local v (d.Const x) = val_local v _ (λ s m. refl)
  defines_local v (d.Param p) = val_local v _ (λ s m. refl)
  defines_local v (d.Work which dim) = val_local v _ (λ s m. refl)
  defines_local v (d.Get x) = val_local v _ (λ s m. refl)
  defines_local v (d.Bin op a b) = val_local v _ (λ s m. refl)
  defines_local v (d.One op a) = val_local v _ (λ s m. refl)
  defines_local v (d.Built which t args) = val_local v _ (λ s m. refl)
  defines_local v (d.Choose c a b) = val_local v _ (λ s m. refl)
  defines_local v (d.Load t a) =
      depending w (λ s. s.vals a.0) (λ x s. if is_allowed w t x then Ends Next (with_val v (element_at s.mem t x) (touched Reads t x s)) else Stops) (λ s m. refl) (load_local v t)
  defines_local v (d.Element a i) =
      depending w (λ s. s.vals i.0) (λ x s. if nat_lt x (w.lens a) then Ends Next (with_val v (s.arrays a x) s) else Stops) (λ s m. refl) (element_local v a)
  defines_local v d.Flat = stops w
  defines_local v d.Items = stops w
