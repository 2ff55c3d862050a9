-- Rules, from a clean word to the tests of what is shared and back; and that the elements that a word starts are apart.
use Rattle.std.proofs.Common.{◌≡◌, ◌≢◌, ℕ, ⊎_elim, List, [], length, refl, ap, ◌∙◌, subst, Bool, true, false, eq-eqb, ne_eqb}
use Rattle.std.specs.Prelude.{◌-◌, not, ◌||◌, if◌then◌else◌, ⊤}
use Rattle.std.specs.declared.option.Option.{Option}
use Rattle.std.specs.declared.option.Option.TheVariants.{Some, None}
use Rattle.std.proofs.lemmas.Bool.{cases_eq}
use Rattle.q_lane.specs.Vectors.{lane}
use Rattle.qpu_encode.specs.declared.form.Form.{Form}
use Rattle.qpu_rules.specs.Uses.{access_of}
use Rattle.qpu_rules.specs.Restrictions.{least_early}
use Rattle.vpm_words.specs.Piece.{Piece}
use Rattle.vpm_words.specs.Rules.{is_me, is_other, first_of}
use Rattle.vpm_words.specs.Access.{Site, Demand, Private, Setup, Take, Give, ReadRow, WriteRow, StartLoad, StartStore, AwaitLoad, AwaitStore, demand, if_mine, owner_seen, is_busy, is_row_busy, started}
use Rattle.vpm_words.specs.declared.state.Access.{Access}
use Rattle.vpm_words.specs.declared.state.Access.TheVariants.{Uniform, ReadVpm, WriteVpm, ReadSet, WriteSet, LoadAddr, StoreAddr, WaitLoad, WaitStore, Lock, Unlock}
use Rattle.vpm_words.specs.declared.state.Element.{Element}
use Rattle.vpm_words.specs.declared.state.Owner.TheVariants.{Me, Other}
use Rattle.vpm_words.specs.declared.state.Ports.{Ports}
use Rattle.vpm_words.specs.declared.state.Rule.{Rule}
use Rattle.vpm_words.specs.declared.state.Rule.TheVariants.{H8, H9, H10, H11}
use Rattle.qpu_machine.specs.declared.state.Qpu.{Qpu}
use Rattle.qpu_machine.specs.IssueStep.{fetched, recent}
use Rattle.qpu_machine.specs.SoloRun.{Want, Rests, Breaks, Wants, want, wanted, or_breaks, words_out, Sharing, Due, NoneDue, LoadDue, StoreDue, Solo, IsFine}
use Rattle.solo_law.proofs.Elements.{AreApartAll, elements_apart}

-- what a clean word asks of its run alone: the owner there, and what is due
abbrev pub AllowedBy : Demand → ℕ → Option ℕ → Due → Type 0
AllowedBy (Private late) k o due = late ≡ None
AllowedBy (Setup late) k o due = (o ≡ Some k) × (due ≡ NoneDue) × (late ≡ None)
AllowedBy Take k o due = (o ≢ Some k) × (due ≡ NoneDue)
AllowedBy Give k o due = (o ≡ Some k) × (due ≡ NoneDue)
AllowedBy (ReadRow row late) k o due = (o ≡ Some k) × (due ≡ NoneDue) × (late ≡ None)
AllowedBy (WriteRow row words late) k o due = (o ≡ Some k) × (due ≡ NoneDue) × (late ≡ None)
AllowedBy (StartLoad es late) k o due = (o ≡ Some k) × (due ≡ NoneDue) × (late ≡ None)
AllowedBy (StartStore es late) k o due = (o ≡ Some k) × (due ≡ NoneDue) × (late ≡ None)
AllowedBy AwaitLoad k o due = (o ≡ Some k) × (due ≢ StoreDue)
AllowedBy AwaitStore k o due = (o ≡ Some k) × (due ≢ LoadDue)

abbrev pub Allowed : Want → ℕ → Option ℕ → Due → Type 0
Allowed Rests k o due = o ≡ None
Allowed (Breaks rule) k o due = ⊥
Allowed (Wants d) k o due = AllowedBy d k o due

mine_inv : (o : Option ℕ) (k : ℕ) (rule : Rule) (r : Option Rule) → if_mine o k rule r ≡ None → (o ≡ Some k) × (r ≡ None)
mine_inv None k rule r h = absurd cc
mine_inv (Some j) k rule r h =
    ⊎_elim
    (λ e. (ap Some e, subst (λ b. first_of (not (is_me (if b then Me else Other))) rule r ≡ None) (eq-eqb j k e) h))
    (λ ne. let y = subst (λ b. first_of (not (is_me (if b then Me else Other))) rule r ≡ None) (ne_eqb j k ne) h in absurd cc)
    (cases_eq j k)

first_inv : (b : Bool) (rule : Rule) (r : Option Rule) → first_of b rule r ≡ None → r ≡ None
first_inv true rule r h = absurd cc
first_inv false rule r h = h

take_inv : (o : Option ℕ) (k : ℕ) → first_of (is_me (owner_seen o k)) H8 None ≡ None → o ≢ Some k
take_inv o k h e =
    let y = subst (λ x. first_of (is_me (owner_seen x k)) H8 None ≡ None) e h in
    let f = subst (λ b. first_of (is_me (if b then Me else Other)) H8 None ≡ None) (eq-eqb k k refl) y in
    cc

pub allowed : (x : Sharing) (w : Want) (k : ℕ) (s : Solo) → IsFine x k w s → Allowed w k s.shared.owner s.due
allowed x Rests k s f = f.freed refl
allowed x (Breaks rule) k s f = let h = f.unbroken in cc
allowed x (Wants (Private late)) k s f = f.unbroken
allowed x (Wants (Setup late)) k s f = let m = mine_inv s.shared.owner k H9 late f.unbroken in (m.0, f.in_turn, m.1)
allowed x (Wants Take) k s f = (take_inv s.shared.owner k f.unbroken, f.in_turn)
allowed x (Wants Give) k s f = let m = mine_inv s.shared.owner k H8 _ f.unbroken in (m.0, f.in_turn)
allowed x (Wants (ReadRow row late)) k s f = let m = mine_inv s.shared.owner k H9 _ f.unbroken in (m.0, f.in_turn, first_inv _ H10 late m.1)
allowed x (Wants (WriteRow row words late)) k s f = let m = mine_inv s.shared.owner k H9 _ f.unbroken in (m.0, f.in_turn, first_inv _ H10 late m.1)
allowed x (Wants (StartLoad es late)) k s f = let m = mine_inv s.shared.owner k H9 _ f.unbroken in (m.0, f.in_turn, first_inv _ H11 late m.1)
allowed x (Wants (StartStore es late)) k s f = let m = mine_inv s.shared.owner k H9 _ f.unbroken in (m.0, f.in_turn, first_inv _ H11 late m.1)
allowed x (Wants AwaitLoad) k s f = let m = mine_inv s.shared.owner k H9 None f.unbroken in (m.0, f.in_turn)
allowed x (Wants AwaitStore) k s f = let m = mine_inv s.shared.owner k H9 None f.unbroken in (m.0, f.in_turn)

pub mine_none : (o : Option ℕ) (k : ℕ) (rule : Rule) (r : Option Rule) → o ≡ Some k → r ≡ None → if_mine o k rule r ≡ None
mine_none o k rule r e h =
    ap (λ x. if_mine x k rule r) e ∙ ap (λ b. first_of (not (is_me (if b then Me else Other))) rule r) (eq-eqb k k refl) ∙ h

pub first_none : (b : Bool) (rule : Rule) (r : Option Rule) → b ≡ false → r ≡ None → first_of b rule r ≡ None
first_none b rule r e h = ap (λ x. first_of x rule r) e ∙ h

pub take_none : (o : Option ℕ) (k : ℕ) → o ≢ Some k → first_of (is_me (owner_seen o k)) H8 None ≡ None
take_none None k h = refl
take_none (Some j) k h = ap (λ b. first_of (is_me (if b then Me else Other)) H8 None) (ne_eqb j k (λ e. h (ap Some e)))

pub take_waits : (o : Option ℕ) (j k : ℕ) → o ≡ Some j → j ≢ k → is_other (owner_seen o k) ≡ true
take_waits o j k e ne = ap (λ x. is_other (owner_seen x k)) e ∙ ap (λ b. is_other (if b then Me else Other)) (ne_eqb j k ne)

pub rows_free : (row : Option ℕ) (ls ss : List Element) → ls ≡ [] → ss ≡ [] → is_row_busy row ls ss ≡ false
rows_free None ls ss el es = refl
rows_free (Some row) ls ss el es = ap (λ l. is_row_busy (Some row) l ss) el ∙ ap (λ l. is_row_busy (Some row) [] l) es

pub none_busy : (ls ss : List Element) → ls ≡ [] → ss ≡ [] → (is_busy ls || is_busy ss) ≡ false
none_busy ls ss el es = ap (λ l. is_busy l || is_busy ss) el ∙ ap is_busy es

-- ---- the elements that a word starts are apart

abbrev pub StartsApart : Want → Type 0
StartsApart (Wants (StartLoad es late)) = AreApartAll es
StartsApart (Wants (StartStore es late)) = AreApartAll es
StartsApart _ = ⊤

started_apart : (o : Option Piece) (at : ℕ) → AreApartAll (started o at)
started_apart None at = tt
started_apart (Some t) at = elements_apart at t

demand_apart : (g : Site) (p : Ports) (a : Option Access) (value : ℕ) (words : List ℕ) → StartsApart (Wants (demand g p a value words))
demand_apart g p None value words = tt
demand_apart g p (Some Uniform) value words = tt
demand_apart g p (Some ReadVpm) value words = tt
demand_apart g p (Some WriteVpm) value words = tt
demand_apart g p (Some ReadSet) value words = tt
demand_apart g p (Some WriteSet) value words = tt
demand_apart g p (Some LoadAddr) value words = started_apart p.load value
demand_apart g p (Some StoreAddr) value words = started_apart p.store value
demand_apart g p (Some WaitLoad) value words = tt
demand_apart g p (Some WaitStore) value words = tt
demand_apart g p (Some Lock) value words = tt
demand_apart g p (Some Unlock) value words = tt

or_apart : (o : Option Rule) (w : Want) → StartsApart w → StartsApart (or_breaks o w)
or_apart None w h = h
or_apart (Some rule) w h = tt

wanted_apart : (g : Site) (o : Option Form) (q : Qpu) → StartsApart (wanted g o q)
wanted_apart g None q = tt
wanted_apart g (Some f) q =
    or_apart (least_early f (recent q) (length g.uniforms - q.ports.taken)) (Wants (demand g q.ports (access_of f) (lane (words_out g f q) 0) (words_out g f q)))
    (demand_apart g q.ports (access_of f) (lane (words_out g f q) 0) (words_out g f q))

pub want_apart : (code : List ℕ) (g : Site) (q : Qpu) → StartsApart (want code g q)
unfolding want
want_apart code g q =
    let o : Option Form = fetched code q.flow.place in
    elim q.flow.ended as (λ b. StartsApart (if b then Rests else wanted g o q)) [
      | true ↦ tt
      | false ↦ wanted_apart g o q
    ]
