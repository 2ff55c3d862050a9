-- The law of masking for loads and stores.
use Rattle.std.proofs.Common.{◌≡◌, ℕ, ◌+◌, ◌%◌, ◌<◌, ◌≤◌, inl, inr, Bool, true, false, List, [], ◌∷◌, refl, sym, ap, ◌∙◌, subst, arith}
use Rattle.std.specs.Prelude.{nat_lt, nat_le, ◌==◌, not, ◌&&◌, ◌||◌}
use Rattle.std.proofs.lemmas.Bool.{and_parts, ltb-true}
use Rattle.q_lane.specs.declared.kinds.Scalar.{Scalar}
use Rattle.q_functions.specs.NumberFunctions.{bytes_of}
use Rattle.item_ir.specs.Memory.{Region, lies, element_at, with_element}
use Rattle.item_ir.specs.Valid.{with_known}
use Rattle.item_ir.specs.IrMeaning.{State as Item, Touch as Access, Reads, Writes, Next, with_val, touched, is_allowed as allows_item}
use Rattle.item_ir.specs.declared.form.Def.TheVariants as d
use Rattle.lane_ir.specs.LaneMeaning.{State, Touch, Run, Ends, and_then, if_allowed, allowed, is_allowed, defines, with_lane, noted, loads, stores, run_all}
use Rattle.mask_law.specs.Lanes.{in_access, touches, writes}
use Rattle.mask_law.specs.Leaves.{LoadsMasked, StoresMasked}
use Rattle.mask_law.proofs.Accessed.{Stepped, accessed}
use Rattle.mask_law.proofs.Bytes.{element_same, bytes_here, has_byte, within_or_stays, first_touches, own_log, other_log}
use Rattle.mask_law.proofs.Elements.{val_own, val_other, val_kept, known_more, allowed_is}

-- the access is allowed to the lane as it is to the item
same_allowed : (t : Scalar) (r q : List Region) (a c : ℕ) → q ≡ r → a ≡ c → ((a % bytes_of t == 0) && lies r a (bytes_of t)) ≡ ((c % bytes_of t == 0) && lies q c (bytes_of t))
same_allowed t r q a c h e = λ i. ((e i % bytes_of t == 0) && lies (sym h i) (e i) (bytes_of t))

pub load_masked : LoadsMasked
load_masked x ty adr w xs ids n tests c around b act known knowns k v e st t s s' f fit asks within same before items =
    let K : ℕ → ℕ → Type 0 = λ l i. knowns l i ≡ true in
    let D : ℕ → Type 0 = λ i. known i ≡ true in
    let E : ℕ → Type 0 = λ i. with_known x.0 known i ≡ true in
    let first = and_parts (nat_lt x.0 c.vals) (not (known x.0) && known adr.0) fit in
    let low : x.0 < c.vals = ltb-true x.0 c.vals first.0 in
    let at : known adr.0 ≡ true = (and_parts (not (known x.0)) (known adr.0) first.1).1 in
    let done : (l : ℕ) → Item = λ l. with_val x.0 (element_at (s l).mem ty ((s l).vals adr.0)) (touched Reads ty ((s l).vals adr.0) (s l)) in
    let ran : (l : ℕ) → l < n → act l ≡ true → (allows_item (xs l) ty ((s l).vals adr.0) ≡ true) × (f l ≡ Next) × (s' l ≡ done l) = λ l lt a.
    allowed_is (allows_item (xs l) ty ((s l).vals adr.0)) (f l) (done l) (s' l) (items.on l lt a) in
    let t1 : State = defines w n k (d.Get e.var) t in
    let z = accessed w n c.vars c.vals tests (allowed n ty (t1.vals k) (t1.vals adr.0)) b ids xs act K D E k v e st t s s' f (loads w ty x.0 adr.0) before items.off
    (λ l lt a. ((ran l lt a).1, ap (λ (y : Item). y.left) (ran l lt a).2))
    (λ l lt a y p.
    (let I : ℕ = y.vals adr.0 l in
    let A : ℕ = (s l).vals adr.0 in
    let V : ℕ = element_at y.mem ty I in
    let U : ℕ = element_at (s l).mem ty A in
    let at_a : I ≡ A = p.vals adr.0 (before.all l adr.0 lt a at) in
    let ok : is_allowed w ty I ≡ true = same_allowed ty w.regions (xs l).regions I A (same l lt).regions at_a ∙ (ran l lt a).0 in
    let one : Access = record { how = Reads; address = A; len = bytes_of ty } in
    let seen : (m : ℕ) → A ≤ m → m < A + bytes_of ty → y.mem m ≡ (s l).mem m = λ m lo hi.
    p.mem m (items.touched l m lt a (ap (λ (o : Item). touches o.touches m) (ran l lt a).2 ∙ first_touches one (s l).touches m (has_byte A (bytes_of ty) m lo hi))) in
    let vu : V ≡ U = ap (element_at y.mem ty) at_a ∙ element_same y.mem (s l).mem ty A seen in
    let y' : State = noted l false ty I (with_lane x.0 l V y) in
    let mark : Touch = record { lane = l; writes = false; address = I; len = bytes_of ty } in (
      y',
      ap (λ o. if_allowed o (Ends y')) ok,
      subst (Stepped b c.vars c.vals l (K l) E y y') (sym (ran l lt a).2) (record {
        own = record {
          vals = λ j h. val_own y.vals (s l).vals x.0 l V U j vu (λ ne. p.vals j h);
          vars = p.vars;
          arrays = p.arrays;
          mem = p.mem;
          log = own_log mark y.log l refl ∙ (λ i. record { how = Reads; address = at_a i; len = bytes_of ty } ∷ p.log i);
        };
        more = λ j h. val_own y.vals (s l).vals x.0 l V U j vu (λ ne. p.vals j (before.all l j lt a (known_more x.0 j known h ne)));
        vals = λ j m ne. val_other y.vals (s l).vals x.0 l V U j m ne;
        temps = λ j m lo. val_kept y.vals (s l).vals x.0 l V U j m (λ q. omega (arith, q, lo, low));
        arrays = λ r o m ne. refl;
        vars = refl;
        mem = λ m o lt ne h. refl;
        kept = λ o h. refl;
        log = λ m ne. other_log mark y.log m ne;
        steps = refl;
      }),
    ))) in
    (z.0, ap (λ (o : Run). and_then o (run_all w n tests [])) z.1, z.2)

pub store_masked : StoresMasked
store_masked ty adr x w xs ids n tests c around b act known knowns k v e st t s s' f fit asks within same before items =
    let K : ℕ → ℕ → Type 0 = λ l i. knowns l i ≡ true in
    let E : ℕ → Type 0 = λ i. known i ≡ true in
    let fits = and_parts (known adr.0) (known x.0) fit in
    let done : (l : ℕ) → Item = λ l. touched Writes ty ((s l).vals adr.0) (record (s l) { mem = with_element (s l).mem ty ((s l).vals adr.0) ((s l).vals x.0) }) in
    let ran : (l : ℕ) → l < n → act l ≡ true → (allows_item (xs l) ty ((s l).vals adr.0) ≡ true) × (f l ≡ Next) × (s' l ≡ done l) = λ l lt a.
    allowed_is (allows_item (xs l) ty ((s l).vals adr.0)) (f l) (done l) (s' l) (items.on l lt a) in
    let t1 : State = defines w n k (d.Get e.var) t in
    let z = accessed w n c.vars c.vals tests (allowed n ty (t1.vals k) (t1.vals adr.0)) b ids xs act K E E k v e st t s s' f (stores w ty adr.0 x.0) before items.off
    (λ l lt a. ((ran l lt a).1, ap (λ (y : Item). y.left) (ran l lt a).2))
    (λ l lt a y p.
    (let I : ℕ = y.vals adr.0 l in
    let X : ℕ = y.vals x.0 l in
    let A : ℕ = (s l).vals adr.0 in
    let Z : ℕ = (s l).vals x.0 in
    let at_a : I ≡ A = p.vals adr.0 (before.all l adr.0 lt a fits.0) in
    let at_x : X ≡ Z = p.vals x.0 (before.all l x.0 lt a fits.1) in
    let ok : is_allowed w ty I ≡ true = same_allowed ty w.regions (xs l).regions I A (same l lt).regions at_a ∙ (ran l lt a).0 in
    let one : Access = record { how = Writes; address = A; len = bytes_of ty } in
    let set : (m : ℕ) → in_access one m ≡ true → b.written l m ≡ true = λ m h.
    items.written l m lt a (ap (λ (o : Item). writes o.touches m) (ran l lt a).2 ∙ ap (λ o. o || writes (s l).touches m) h) in
    let stays : (m : ℕ) → (in_access one m ≡ true → ⊥) → with_element y.mem ty I X m ≡ y.mem m = λ m no.
    elim (within_or_stays (bytes_of ty) y.mem I X m) [
      | inl h ↦ absurd (no (subst (λ o. (nat_le o m && nat_lt m (o + bytes_of ty)) ≡ true) at_a h))
      | inr h ↦ h
    ] in
    let y' : State = noted l true ty I (record y { mem = with_element y.mem ty I X }) in
    let mark : Touch = record { lane = l; writes = true; address = I; len = bytes_of ty } in (
      y',
      ap (λ o. if_allowed o (Ends y')) ok,
      subst (Stepped b c.vars c.vals l (K l) E y y') (sym (ran l lt a).2) (record {
        own = record {
          vals = p.vals;
          vars = p.vars;
          arrays = p.arrays;
          mem = λ m h. (λ i. with_element y.mem ty (at_a i) (at_x i) m) ∙ bytes_here (bytes_of ty) y.mem (s l).mem A Z m (p.mem m h);
          log = own_log mark y.log l refl ∙ (λ i. record { how = Writes; address = at_a i; len = bytes_of ty } ∷ p.log i);
        };
        more = λ j h. p.vals j (before.all l j lt a h);
        vals = λ j m ne. refl;
        temps = λ j m lo. refl;
        arrays = λ r o m ne. refl;
        vars = refl;
        mem = λ m o lm ne h. stays o (λ q. b.apart l m o lt lm (λ r. ne (sym r)) (set o q) h);
        kept = λ o h. stays o (λ q. clash (b.written l o) h (set o q));
        log = λ m ne. other_log mark y.log m ne;
        steps = refl;
      }),
    ))) in
    (z.0, ap (λ (o : Run). and_then o (run_all w n tests [])) z.1, z.2)
  where
    clash : (o : Bool) → o ≡ false → o ≡ true → ⊥
    clash true h g = cc
    clash false h g = cc
