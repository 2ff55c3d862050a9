-- A table stays true as an item is added to it, and its first race is the least.
use Rattle.std.proofs.Common.{arith, ◌≡◌, ℕ, ◌<◌, ◌≤◌, List, [], ◌∷◌, ◌++◌, length, refl, sym, ap, ◌∙◌, subst, inl, inr, ⊎_elim}
use Rattle.std.specs.Prelude.{◌⊎◌, Option, None, Some}
use Rattle.std.proofs.lemmas.Bool.{cases_order, cases_lt}
use Rattle.std.proofs.lemmas.List.{get_or_append_left, get_or_push, get_or_past, length_push}
use Rattle.footprint.specs.Marks.{Uses, IsBefore}
use Rattle.footprint.specs.declared.marks.Mark.{Mark}
use Rattle.footprint.specs.declared.marks.Use.{Use}
use Rattle.footprint.specs.declared.marks.Use.TheVariants.{Write}
use Rattle.launch_meaning.specs.declared.ends.Ended.{Ended}
use Rattle.launch_meaning.specs.declared.verdict.Clash.{Clash}
use Rattle.launch_meaning.specs.LaunchMeaning.{marks_at, IsRace, IsLess}
use Rattle.touches.specs.declared.touch.Touch.{Touch}
use Rattle.touches.specs.declared.touch.Touch.TheVariants.{Raced}
use Rattle.touches.specs.Touched.{after_marks, byte_of}
use Rattle.touches.specs.Tells.{Says, IsRaced, TouchesAt, WritesAt, Tells, IsLeastRaceOf}
use Rattle.touches.specs.First.{IsQuiet, IsTableRace, IsFirstInTable}
use Rattle.touches.proofs.SaysLaws.{AreSame, says_same, quiet_is_apart}
use Rattle.touches.proofs.MarkLaws.{no_uses, TouchedBy, WrittenBy, says_marks}

abbrev no_item : Ended
no_item = record { buffers = []; marks = []; turns = 0 }

-- past the last item nothing is used
past_uses : (ended : List Ended) (i : ℕ) (how : Use) (b x : ℕ) → length ended ≤ i → Uses (marks_at ended i) how b x → ⊥
past_uses ended i how b x l u =
    no_uses how b x (subst (λ (m : List Mark). Uses m how b x) (ap (λ (e : Ended). e.marks) (get_or_past ended i no_item l)) u)

uses_within : (ended : List Ended) (i : ℕ) (how : Use) (b x : ℕ) → Uses (marks_at ended i) how b x → i < length ended
uses_within ended i how b x u = ⊎_elim (λ l. l) (λ l. absurd (past_uses ended i how b x l u)) (cases_lt i (length ended))

marks_before : (earlier : List Ended) (one : Ended) (i : ℕ) → i < length earlier → marks_at (earlier ++ one ∷ []) i ≡ marks_at earlier i
marks_before earlier one i l = ap (λ (e : Ended). e.marks) (get_or_append_left earlier (one ∷ []) no_item i l)

marks_here : (earlier : List Ended) (one : Ended) (i : ℕ) → length earlier ≡ i → marks_at (earlier ++ one ∷ []) i ≡ one.marks
marks_here earlier one i e = ap (λ (e : Ended). e.marks) (get_or_push earlier one no_item i e)

module _ (earlier : List Ended) (one : Ended) (n : ℕ) (many : length earlier ≡ n) (b x : ℕ) where
  -- where the use of an item stands
  uses_to : (i : ℕ) (how : Use) → (i < n) × Uses (marks_at earlier i) how b x → Uses (marks_at (earlier ++ one ∷ []) i) how b x
  uses_to i how h = subst (λ (m : List Mark). Uses m how b x) (sym (marks_before earlier one i (omega (arith, h.0)))) h.1

  uses_here : (i : ℕ) (how : Use) → i ≡ n → Uses one.marks how b x → Uses (marks_at (earlier ++ one ∷ []) i) how b x
  uses_here i how e h = subst (λ (m : List Mark). Uses m how b x) (sym (marks_here earlier one i (omega arith))) h

  uses_from : (i : ℕ) (how : Use) → Uses (marks_at (earlier ++ one ∷ []) i) how b x → Uses (marks_at earlier i) how b x ⊎ ((i ≡ n) × Uses one.marks how b x)
  uses_from i how u = ⊎_elim
      (λ (e : i ≡ n). inr (e, subst (λ (m : List Mark). Uses m how b x) (marks_here earlier one i (omega arith)) u))
      (λ d. ⊎_elim
      (λ (l : i < n). inl (subst (λ (m : List Mark). Uses m how b x) (marks_before earlier one i (omega arith)) u))
      (λ (l : n < i). absurd (past_uses (earlier ++ one ∷ []) i how b x (let c = length_push earlier one in omega (arith, c)) u))
      d)
      (cases_order i n)

  -- the items so far, and the one more
  same_items : AreSame (TouchedBy (TouchesAt earlier b x) (WritesAt earlier b x) n b x one.marks) (WrittenBy (TouchesAt earlier b x) (WritesAt earlier b x) n b x one.marks)
      (TouchesAt (earlier ++ one ∷ []) b x) (WritesAt (earlier ++ one ∷ []) b x)
  same_items = record {
    touch_to = λ i t. ⊎_elim
        (λ u. (u.0, uses_to i u.0 (let l = uses_within earlier i u.0 b x u.1 in omega (arith, l), u.1)))
        (λ u. (u.1.0, uses_here i u.1.0 u.0 u.1.1))
        t;
    touch_from = λ i t. ⊎_elim (λ u. inl (t.0, u)) (λ u. inr (u.0, (t.0, u.1))) (uses_from i t.0 t.1);
    write_to = λ i w. ⊎_elim
        (λ u. uses_to i Write (let l = uses_within earlier i Write b x u in omega (arith, l), u))
        (λ u. uses_here i Write u.0 u.1)
        w;
    write_from = λ i w. ⊎_elim (λ u. inl u) (λ u. inr (u.0, u.1)) (uses_from i Write w);
  }

  -- no mark of the one more is done
  none_done : AreSame (TouchesAt earlier b x) (WritesAt earlier b x)
      (TouchedBy (TouchesAt earlier b x) (WritesAt earlier b x) n b x []) (WrittenBy (TouchesAt earlier b x) (WritesAt earlier b x) n b x [])
  none_done = record {
    touch_to = λ i t. inl t;
    touch_from = λ i t. ⊎_elim (λ u. u) (λ u. absurd (no_uses u.1.0 b x u.1.1)) t;
    write_to = λ i w. inl w;
    write_from = λ i w. ⊎_elim (λ u. u) (λ u. absurd (no_uses Write b x u.1)) w;
  }

  says_more : (t : Touch) → Says (TouchesAt earlier b x) (WritesAt earlier b x) t
      → Says (TouchesAt (earlier ++ one ∷ []) b x) (WritesAt (earlier ++ one ∷ []) b x) (after_marks one.marks n b x t)
  says_more t h =
      let T = TouchesAt earlier b x in
      let W = WritesAt earlier b x in
      let begun = says_same T W (TouchedBy T W n b x []) (WrittenBy T W n b x []) none_done t h in
      let done = says_marks T W n b x (λ i w. (Write, w)) (λ i u. let l = uses_within earlier i u.0 b x u.1 in let r : i < n = omega (arith, l) in r) one.marks [] t begun in
      says_same (TouchedBy T W n b x one.marks) (WrittenBy T W n b x one.marks) (TouchesAt (earlier ++ one ∷ []) b x) (WritesAt (earlier ++ one ∷ []) b x)
      same_items (after_marks one.marks n b x t) done

pub tells_more : (earlier : List Ended) (one : Ended) (n : ℕ) (rows new : List (List Touch)) → length earlier ≡ n
    → ((b x : ℕ) → byte_of new b x ≡ after_marks one.marks n b x (byte_of rows b x)) → Tells earlier rows → Tells (earlier ++ one ∷ []) new
tells_more earlier one n rows new many is tells = record {
  of_byte = λ b x. subst (λ t. Says (TouchesAt (earlier ++ one ∷ []) b x) (WritesAt (earlier ++ one ∷ []) b x) t) (sym (is b x))
      (says_more earlier one n many b x (byte_of rows b x) (tells.of_byte b x));
}

-- so where the table and the marks are read through others
pub tells_added : (earlier : List Ended) (one : Ended) (n : ℕ) (old rows new : List (List Touch)) (marks : List Mark) → rows ≡ old → marks ≡ one.marks
    → ((b x : ℕ) → byte_of new b x ≡ after_marks marks n b x (byte_of rows b x)) → length earlier ≡ n → Tells earlier old → Tells (earlier ++ one ∷ []) new
tells_added earlier one n old rows new marks same are is many tells =
    tells_more earlier one n rows new many
    (λ b x. is b x ∙ ap (λ (l : List Mark). after_marks l n b x (byte_of rows b x)) are)
    (subst (λ (r : List (List Touch)). Tells earlier r) (sym same) tells)

pub tells_none : Tells [] []
tells_none = record { of_byte = λ b x. λ i u. no_uses u.0 b x u.1 }

-- what a race is, by the items that touch and write the byte
record Races (ended : List Ended) (b x i j : ℕ) : Type 0 where
  order : i < j
  touches_first : TouchesAt ended b x i
  touches_second : TouchesAt ended b x j
  one_writes : WritesAt ended b x i ⊎ WritesAt ended b x j

races_from : (ended : List Ended) (c : Clash) → IsRace ended c → Races ended c.buffer c.byte c.first c.second
races_from ended c r = record {
  order = r.order;
  touches_first = (r.conflict.0, r.conflict.2);
  touches_second = (r.conflict.1, r.conflict.3);
  one_writes = ⊎_elim
      (λ (e : r.conflict.0 ≡ Write). inl (subst (λ (u : Use). Uses (marks_at ended c.first) u c.buffer c.byte) e r.conflict.2))
      (λ (e : r.conflict.1 ≡ Write). inr (subst (λ (u : Use). Uses (marks_at ended c.second) u c.buffer c.byte) e r.conflict.3))
      r.conflict.4;
}

race_from : (ended : List Ended) (c : Clash) → IsRaced (TouchesAt ended c.buffer c.byte) (WritesAt ended c.buffer c.byte) c.first c.second → IsRace ended c
race_from ended c h = record {
  order = h.order;
  there = uses_within ended c.second h.touches_second.0 c.buffer c.byte h.touches_second.1;
  conflict = ⊎_elim
      (λ w. (Write, h.touches_second.0, w, h.touches_second.1, inl refl))
      (λ w. (h.touches_first.0, Write, h.touches_first.1, w, inr refl))
      h.one_writes;
}

-- a byte at which no race is kept has none
quiet_byte : (ended : List Ended) (rows : List (List Touch)) → Tells ended rows → (c : Clash) → IsQuiet (byte_of rows c.buffer c.byte) → IsRace ended c → ⊥
quiet_byte ended rows tells c q r =
    let s = races_from ended c r in
    quiet_is_apart (TouchesAt ended c.buffer c.byte) (WritesAt ended c.buffer c.byte) (byte_of rows c.buffer c.byte) (tells.of_byte c.buffer c.byte) q
    c.first c.second s.order s.touches_first s.touches_second s.one_writes

-- at the byte of a race that is kept, no lesser pair races
same_byte : (ended : List Ended) (rows : List (List Touch)) → Tells ended rows → (o : Clash) (f g : ℕ) → byte_of rows o.buffer o.byte ≡ Raced f g
    → IsRace ended o → (o.first < f) ⊎ ((o.first ≡ f) × (o.second < g)) → ⊥
same_byte ended rows tells o f g is r less =
    let T = TouchesAt ended o.buffer o.byte in
    let W = WritesAt ended o.buffer o.byte in
    let h : IsRaced T W f g = subst (λ t. Says T W t) is (tells.of_byte o.buffer o.byte) in
    let s = races_from ended o r in
    ⊎_elim
    (λ (l : o.first < f). let k : f ≤ o.first = h.least o.first s.touches_first in let r : ⊥ = omega arith in r)
    (λ d.
    let e : o.first ≡ f = d.0 in
    let l : o.second < g = d.1 in
    let order : o.first < o.second = s.order in
    let k : g ≤ o.second =
    h.least_other o.second (omega arith) s.touches_second (⊎_elim (λ w. inl (subst W e w)) (λ w. inr w) s.one_writes) in
    let r : ⊥ = omega arith in r)
    less

least_here : (ended : List Ended) (rows : List (List Touch)) → Tells ended rows → (c : Clash) → IsTableRace rows c
    → (o : Clash) → IsLess o c → IsRace ended o → ⊥
least_here ended rows tells c found o less r =
    let quiet : IsBefore o.buffer o.byte (c.buffer, c.byte) → ⊥ = λ l. quiet_byte ended rows tells o (found.before o.buffer o.byte l) r in
    ⊎_elim
    (λ l. quiet (inl l))
    (λ d. ⊎_elim
    (λ l. quiet (inr (d.0, l)))
    (λ p.
    let e : o.buffer ≡ c.buffer = d.0 in
    let k : o.byte ≡ c.byte = p.0 in
    let here : byte_of rows c.buffer c.byte ≡ Raced c.first c.second = found.here in
    let is : byte_of rows o.buffer o.byte ≡ Raced c.first c.second = rw (e, k) here in
    same_byte ended rows tells o c.first c.second is r p.1)
    d.1)
    less

pub least_found : (ended : List Ended) (rows : List (List Touch)) (found : Option Clash) → Tells ended rows → IsFirstInTable rows found → IsLeastRaceOf ended found
least_found ended rows None tells h = λ c r. quiet_byte ended rows tells c (h c.buffer c.byte) r
least_found ended rows (Some c) tells h = (
  race_from ended c
      (subst (λ t. Says (TouchesAt ended c.buffer c.byte) (WritesAt ended c.buffer c.byte) t) h.here (tells.of_byte c.buffer c.byte)),
  λ o less r. least_here ended rows tells c h o less r,
)
