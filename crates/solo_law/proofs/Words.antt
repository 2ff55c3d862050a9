-- Each word of one QPU keeps what holds of a run.
use Rattle.std.proofs.Common.{◌≡◌, ◌≢◌, ℕ, ◌+◌, ◌%◌, ◌/◌, ◌^◌, ◌<◌, ◌≤◌, ◌⊎◌, inl, inr, ⊎_elim, List, [], ◌∷◌, length, get_or, refl, sym, ap, ◌∙◌, subst, arith, length-set, Bool, true, false, eq-eqb, ne_eqb}
use Rattle.std.specs.Prelude.{slice_get, slice_set, ◌==◌, ◌&&◌, if◌then◌else◌}
use Rattle.std.specs.declared.option.Option.{Option}
use Rattle.std.specs.declared.option.Option.TheVariants.{Some, None}
use Rattle.std.proofs.lemmas.Bool.{cases_eq}
use Rattle.vpm_words.specs.Rules.{is_other}
use Rattle.vpm_words.specs.Access.{Site, Given, Demand, Private, Setup, Take, Give, ReadRow, WriteRow, StartLoad, StartStore, AwaitLoad, AwaitStore, share, owner_seen, is_busy, put_row, overlaid}
use Rattle.vpm_words.specs.Moves.{number_at, load_all, store_all}
use Rattle.vpm_words.specs.declared.state.Element.{Element}
use Rattle.vpm_words.specs.declared.state.Rule.{Rule}
use Rattle.vpm_words.specs.declared.state.Rule.TheVariants.{H8, H9, H10, H11}
use Rattle.vpm_words.specs.declared.state.Shared.{Shared}
use Rattle.qpu_machine.specs.declared.state.Effect.{Effect}
use Rattle.qpu_machine.specs.declared.state.Effect.TheVariants as effect
use Rattle.qpu_machine.specs.declared.state.Qpu.{Qpu}
use Rattle.qpu_machine.specs.declared.state.Counts.{Counts}
use Rattle.qpu_machine.specs.Planned.{Fixed, site_of}
use Rattle.qpu_machine.specs.IssueStep.{Local, idle, judged}
use Rattle.qpu_machine.specs.MachineState.{MachineState}
use Rattle.qpu_machine.specs.MachineRun.{is_effective, fault_after}
use Rattle.qpu_machine.specs.Reachable.{AreBytes}
use Rattle.qpu_machine.specs.SoloRun.{Want, Rests, Breaks, Wants, want, done_alone, row_at, row_wanted, performed, Change, changed, NoneDue, deed, Note, Made, with_change, Solo, does, solo, IsGiven, AnyCovers, LoadsByte, StoresByte, KeepsApart, noted}
use Rattle.solo_law.specs.Sharing.{Shares, of_qpu}
use Rattle.solo_law.specs.Premises.{qpu_at, solo_of, next_of, WritesOf, ChangesOf, SetsOf, TouchesOf, Premises}
use Rattle.solo_law.proofs.Lists.{get_set, get_set_other}
use Rattle.solo_law.proofs.Elements.{AreApartAll, number_agrees, store_all_elsewhere, load_all_agrees, store_all_keeps}
use Rattle.solo_law.proofs.Changes.{overlaid_in, overlaid_out, AreSmall, CommuteAll, all_same, all_skip, all_more, changed_by_all}
use Rattle.solo_law.proofs.Alone.{AreKnown, made_known, made_small}
use Rattle.solo_law.proofs.Invariant.{IsReached, Out, CountsFor, Held, Agrees, Inv, upd, upd_same, upd_other, each_upd, sum_upd}
use Rattle.solo_law.proofs.Allowed.{AllowedBy, Allowed, mine_none, first_none, take_none, take_waits, rows_free, none_busy, StartsApart, want_apart}
use Rattle.solo_law.proofs.Agreeing.{true_or, quiet, stores_idle, loads_idle, held_vpm, held_mem, held_quiet, owner_of, same_upd, agrees_still, others, agrees_held}

pub number_is : (g : Fixed) (k : ℕ) → (site_of g k).number ≡ k
unfolding site_of
number_is g k = refl

-- the word of a memory of bytes
pub word_below : (m : List ℕ) (a : ℕ) → AreBytes m → number_at 4 m a < 2 ^ 32
word_below m a h =
    let b0 = h a in
    let b1 = h (a + 1) in
    let b2 = h (a + 1 + 1) in
    let b3 = h (a + 1 + 1 + 1) in
    omega arith

-- effective steps are counted, and effective words noted
abbrev pub step_count : Effect → ℕ
step_count e = if is_effective e then 1 else 0

abbrev pub notes_with : MachineState → (ℕ → List Note) → List Qpu → ℕ → Effect → ℕ → List Note
notes_with w c qpus k e t = if (k == t) && is_effective e then noted w t (slice_get qpus t) (c t) else c t

-- what is to be shown of what an issue of QPU k leaves
pub record IsKept (x : Shares) (w : MachineState) (n : ℕ) (c : ℕ → List Note) (qpus : List Qpu) (memory : List ℕ) (k : ℕ) (l : Local) : Type 0 where
  pub inv : Inv x w (n + step_count l.effect) (notes_with w c qpus k l.effect) (slice_set qpus k l.qpu) l.shared memory
  pub sound : fault_after l.effect None ≡ None

unnoted : (k t : ℕ) (e : Effect) (a b : List Note) → is_effective e ≡ false → b ≡ (if (k == t) && is_effective e then a else b)
unnoted k t e a b h = sym (ap (λ y. if (k == t) && y then a else b) h ∙ no (k == t))
  where
    no : (y : Bool) → (if y && false then a else b) ≡ b
    no true = refl
    no false = refl

module _ (x : Shares) (w : MachineState) (fits : Premises x w) (n : ℕ) (c : ℕ → List Note) (qpus : List Qpu) (sh : Shared) (mem : List ℕ) (i : Inv x w n c qpus sh mem) (ok : IsGiven (length w.memory) (record { vpm = sh.vpm; memory = mem })) (k : ℕ) (lt : k < length w.qpus) where
  abbrev s0 : Solo
  s0 = i.at k

  abbrev code : List ℕ
  code = w.fixed.code

  abbrev g : Site
  g = site_of w.fixed k

  -- what an acquire finds now
  abbrev real : Given
  real = record { vpm = sh.vpm; memory = mem }

  -- the run alone after the word
  abbrev next : Demand → Solo
  next d = does (of_qpu x k) code g (Wants d) real s0

  abbrev Kept : Local → Type 0
  Kept l = IsKept x w n c qpus mem k l

  abbrev Totals : (ℕ → List Made) → List ℕ → Type 0
  Totals made memory = (a : ℕ) → a % 4 ≡ 0 → x.is_shared a ≡ true → number_at 4 memory a ≡ changed_by_all a made (length w.qpus) (number_at 4 w.memory a)

  -- ---- nothing is done

  nothing : (cs : Counts) (e : Effect) → is_effective e ≡ false → fault_after e None ≡ None → Kept (idle s0.qpu sh cs e)
  nothing cs e he hf =
      record {
        inv = record {
          at = i.at;
          many = length-set qpus k s0.qpu ∙ i.many;
          reach = i.reach;
          here = λ j ltj.
              ⊎_elim
              (λ z. subst (λ y. slice_get (slice_set qpus k s0.qpu) y ≡ Some (i.at y).qpu) (sym z) (get_set qpus k s0.qpu (let m = i.many in omega arith)))
              (λ ne. get_set_other qpus k j s0.qpu ne ∙ i.here j ltj)
              (cases_eq j k);
          notes = λ j ltj. i.notes j ltj ∙ unnoted k j e (noted w j (slice_get qpus j) (c j)) (c j) he;
          size = i.size;
          agrees = i.agrees;
          rest = i.rest;
          totals = i.totals;
          count = let b = i.count in let z : step_count e ≡ 0 = ap (λ y. if y then 1 else 0) he in omega arith;
        };
        sound = hf;
      }

  -- no rule is broken and it doesn't stall
  settle : (b : Option Rule) (y : Bool) (cs : Counts) (a : Local) → b ≡ None → y ≡ false → Kept a → Kept (judged b y k s0.qpu sh cs a)
  settle b y cs a eb ey kept =
      subst (λ z. Kept (judged z y k s0.qpu sh cs a)) (sym eb) (subst (λ z. Kept (judged None z k s0.qpu sh cs a)) (sym ey) kept)

  -- no rule is broken and it stalls
  stalled : (b : Option Rule) (y : Bool) (cs : Counts) (a : Local) → b ≡ None → y ≡ true → Kept (judged b y k s0.qpu sh cs a)
  stalled b y cs a eb ey =
      subst (λ z. Kept (judged z y k s0.qpu sh cs a)) (sym eb) (subst (λ z. Kept (judged None z k s0.qpu sh cs a)) (sym ey) (nothing cs effect.Stalled refl refl))

  -- ---- the word is done

  reached : (d : Demand) → want code g s0.qpu ≡ Wants d → IsReached x w k (next d)
  unfolding solo
  reached d e =
      let r = i.reach k lt in
      record {
        contents = real ∷ r.contents;
        valid = (ok, r.valid);
        is = ap (λ t. does (of_qpu x k) code g (want code g t.qpu) real t) r.is ∙ ap (λ y. does (of_qpu x k) code g y real s0) e;
      }

  noted_now : (d : Demand) → want code g s0.qpu ≡ Wants d → (next d).notes ≡ noted w k (slice_get qpus k) (c k)
  noted_now d e =
      ap (λ l. record { place = s0.qpu.flow.place; deed = deed (Wants d) } ∷ l) (i.notes k lt)
      ∙ ap (λ y. record { place = s0.qpu.flow.place; deed = deed y } ∷ c k) (sym e)
      ∙ ap (λ o. noted w k o (c k)) (sym (i.here k lt))

  -- one more word: its run alone goes on by that word
  advance : (d : Demand) → want code g s0.qpu ≡ Wants d → (q : Qpu) → q ≡ (next d).qpu → (s : Shared) (cs : Counts)
      → Agrees x w (upd i.at k (next d)) s.owner s.vpm mem s.loads s.stores
      → (next d).moved + (length sh.loads + length sh.stores) ≡ s0.moved + (length s.loads + length s.stores)
      → Totals (λ j. (upd i.at k (next d) j).made) (store_all s.stores s.vpm mem)
      → Kept (record { qpu = q; shared = s; counts = cs; effect = effect.Did })
  advance d e q eq s cs ag em tot =
      let t : Solo = next d in
      record {
        inv = record {
          at = upd i.at k t;
          many = length-set qpus k q ∙ i.many;
          reach = each_upd (λ j y. IsReached x w j y) i.at k t (length w.qpus) i.reach (reached d e);
          here = λ j ltj.
              ⊎_elim
              (λ z. subst (λ y. slice_get (slice_set qpus k q) y ≡ Some (upd i.at k t y).qpu) (sym z)
              (get_set qpus k q (let m = i.many in omega arith) ∙ ap Some eq ∙ sym (ap (λ y. Some y.qpu) (upd_same i.at k t))))
              (λ ne. get_set_other qpus k j q ne ∙ i.here j ltj ∙ sym (ap (λ y. Some y.qpu) (upd_other i.at k t j ne)))
              (cases_eq j k);
          notes = λ j ltj.
              ⊎_elim
              (λ z. subst (λ y. (upd i.at k t y).notes ≡ notes_with w c qpus k effect.Did y) (sym z)
              (ap (λ y. y.notes) (upd_same i.at k t) ∙ noted_now d e
              ∙ sym (ap (λ b. if b && true then noted w k (slice_get qpus k) (c k) else c k) (eq-eqb k k refl))))
              (λ ne. ap (λ y. y.notes) (upd_other i.at k t j ne) ∙ i.notes j ltj
              ∙ sym (ap (λ b. if b && true then noted w j (slice_get qpus j) (c j) else c j) (ne_eqb k j (λ z. ne (sym z)))))
              (cases_eq j k);
          size = i.size;
          agrees = ag;
          rest = i.rest;
          totals = tot;
          count = let a = sum_upd i.at k t (length w.qpus) lt in let b = i.count in omega arith;
        };
        sound = refl;
      }

  -- no change is made, and the words in memory stay as they are
  still : (s : Solo) → s.made ≡ s0.made → (v : List (List ℕ)) (ss : List Element) → store_all ss v mem ≡ store_all sh.stores sh.vpm mem
      → Totals (λ j. (upd i.at k s j).made) (store_all ss v mem)
  still s em v ss es a al sx =
      ap (λ l. number_at 4 l a) es ∙ i.totals a al sx
      ∙ all_same a (λ j. (i.at j).made) (λ j. (upd i.at k s j).made) (length w.qpus) (number_at 4 w.memory a) (λ j l. same_upd x w (λ t. t.made) i.at k s (sym em) j)

  is_owner : s0.shared.owner ≡ Some k → sh.owner ≡ Some k
  is_owner h = owner_of x w i.at sh.owner sh.vpm mem sh.loads sh.stores k lt i.agrees h

  abbrev Part : Type 0
  Part = (k < length w.qpus) × Held x w k s0 sh.vpm mem sh.loads sh.stores × ((j : ℕ) → j < length w.qpus → j ≢ k → Out x w j (i.at j) mem)

  part : s0.shared.owner ≡ Some k → Part
  part h = subst (λ o. Agrees x w i.at o sh.vpm mem sh.loads sh.stores) (is_owner h) i.agrees

  idle_now : s0.shared.owner ≡ Some k → s0.due ≡ NoneDue → (sh.loads ≡ []) × (sh.stores ≡ [])
  idle_now h d = quiet s0.due sh.loads sh.stores d (part h).1.flight

  same_vpm : s0.shared.owner ≡ Some k → sh.loads ≡ [] → sh.vpm ≡ s0.shared.vpm
  same_vpm h e = held_vpm x w k s0 sh.vpm mem sh.loads sh.stores (part h).1 e

  same_mem : s0.shared.owner ≡ Some k → sh.stores ≡ [] → (a : ℕ) → CountsFor x w k a → get_or mem a 0 ≡ get_or s0.memory a 0
  same_mem h e = held_mem x w k s0 sh.vpm mem sh.loads sh.stores (part h).1 e

  -- the owner goes on
  agrees_on : s0.shared.owner ≡ Some k → (s : Solo) (v : List (List ℕ)) (ls ss : List Element) → Held x w k s v mem ls ss → Agrees x w (upd i.at k s) sh.owner v mem ls ss
  agrees_on h s v ls ss held =
      let q : Part = part h in
      subst (λ o. Agrees x w (upd i.at k s) o v mem ls ss) (sym (is_owner h)) (agrees_held x w i.at k s v mem ls ss lt q.2 held)

  -- nothing shared changes
  agrees_now : (s : Solo) → s0.shared ≡ s.shared → s0.memory ≡ s.memory → s0.due ≡ s.due → Agrees x w (upd i.at k s) sh.owner sh.vpm mem sh.loads sh.stores
  agrees_now s es em ed = agrees_still x w i.at k s sh.owner sh.vpm mem sh.loads sh.stores es em ed i.agrees

  abbrev Goes : Demand → Type 0
  Goes d =
      want code g s0.qpu ≡ Wants d → AllowedBy d k s0.shared.owner s0.due → (cs : Counts)
      → Kept (performed (Wants d) k s0.qpu sh cs (done_alone code g s0.qpu (row_wanted (Wants d) sh.vpm)))

  private_kept : (late : Option Rule) → Goes (Private late)
  private_kept late e al cs =
      let s : Solo = next (Private late) in
      settle late false cs _ al refl
      (advance (Private late) e s.qpu refl sh _ (agrees_now s refl refl refl) (omega arith) (still s refl sh.vpm sh.stores refl))

  setup_kept : (late : Option Rule) → Goes (Setup late)
  setup_kept late e al cs =
      let s : Solo = next (Setup late) in
      settle _ false cs _ (mine_none sh.owner k H9 late (is_owner al.0) al.2) refl
      (advance (Setup late) e s.qpu refl sh _ (agrees_now s refl refl refl) (omega arith) (still s refl sh.vpm sh.stores refl))

  -- the new owner's run alone takes the shared words as they are
  taken : length s0.memory ≡ length w.memory → Out x w k s0 mem → (a : ℕ) → CountsFor x w k a → get_or mem a 0 ≡ get_or (overlaid x.is_shared 0 mem s0.memory) a 0
  taken size out a cnt =
      let z : 0 + a ≡ a = omega arith in
      ⊎_elim
      (λ t. sym (overlaid_in x.is_shared 0 mem s0.memory a (i.size ∙ sym size) (ap x.is_shared z ∙ t)))
      (λ f. ⊎_elim (λ t. out.agree a t f) (λ t. absurd cc) cnt ∙ sym (overlaid_out x.is_shared 0 mem s0.memory a (ap x.is_shared z ∙ f)))
      (true_or (x.is_shared a))

  take_kept : length s0.memory ≡ length w.memory → Goes Take
  take_kept size e al cs = go sh.owner refl i.agrees
    where
      s : Solo
      s = next Take

      go : (o : Option ℕ) → sh.owner ≡ o → Agrees x w i.at o sh.vpm mem sh.loads sh.stores
          → Kept (performed (Wants Take) k s0.qpu sh cs (done_alone code g s0.qpu (row_wanted (Wants Take) sh.vpm)))
      go None eo ag =
          settle _ _ cs _ (take_none sh.owner k (λ h. cc)) (ap (λ y. is_other (owner_seen y k)) eo)
          (advance Take e s.qpu refl (share Take k sh) _
          (agrees_held x w i.at k s sh.vpm mem sh.loads sh.stores lt (λ j ltj ne. ag.2 j ltj)
          (held_quiet x w k s sh.vpm mem sh.loads sh.stores (ap Some (number_is w.fixed k)) (ag.2 k lt).due ag.0 ag.1 refl (taken size (ag.2 k lt))))
          (omega arith) (still s refl sh.vpm sh.stores refl))
      go (Some j) eo ag =
          ⊎_elim
          (λ z. absurd (al.0 (subst (λ y. Held x w y (i.at y) sh.vpm mem sh.loads sh.stores) z ag.1).own))
          (λ ne. stalled _ _ cs _ (take_none sh.owner k (λ h. ne (let y : Some j ≡ Some k = sym eo ∙ h in cc))) (take_waits sh.owner j k eo ne))
          (cases_eq j k)

  give_kept : Goes Give
  give_kept e al cs =
      let s : Solo = next Give in
      let id = idle_now al.0 al.1 in
      let q : Part = part al.0 in
      let out : Out x w k s mem = record { free = refl; due = al.1; agree = λ a t f. same_mem al.0 id.1 a (inl t) } in
      let all : (j : ℕ) → j < length w.qpus → Out x w j (upd i.at k s j) mem =
      λ j ltj. ⊎_elim
      (λ z. subst (λ y. Out x w y (upd i.at k s y) mem) (sym z) (subst (λ t. Out x w k t mem) (sym (upd_same i.at k s)) out))
      (λ ne. others x w i.at k s mem q.2 j ltj ne)
      (cases_eq j k) in
      settle _ false cs _ (mine_none sh.owner k H8 _ (is_owner al.0) (first_none _ H11 None (none_busy sh.loads sh.stores id.0 id.1) refl)) refl
      (advance Give e s.qpu refl (share Give k sh) _ (id.0, id.1, all) (omega arith) (still s refl sh.vpm sh.stores refl))

  read_kept : (row : Option ℕ) (late : Option Rule) → Goes (ReadRow row late)
  read_kept row late e al cs =
      let s : Solo = next (ReadRow row late) in
      let id = idle_now al.0 al.1 in
      settle _ false cs _ (mine_none sh.owner k H9 _ (is_owner al.0) (first_none _ H10 late (rows_free row sh.loads sh.stores id.0 id.1) al.2)) refl
      (advance (ReadRow row late) e (done_alone code g s0.qpu (row_at row sh.vpm)) (ap (λ v. done_alone code g s0.qpu (row_at row v)) (same_vpm al.0 id.0)) sh _
      (agrees_now s refl refl refl) (omega arith) (still s refl sh.vpm sh.stores refl))

  write_kept : (row : Option ℕ) (words : List ℕ) (late : Option Rule) → Goes (WriteRow row words late)
  write_kept row words late e al cs =
      let d : Demand = WriteRow row words late in
      let s : Solo = next d in
      let id = idle_now al.0 al.1 in
      let v' : List (List ℕ) = put_row row words sh.vpm in
      settle _ false cs _ (mine_none sh.owner k H9 _ (is_owner al.0) (first_none _ H10 late (rows_free row sh.loads sh.stores id.0 id.1) al.2)) refl
      (advance d e s.qpu refl (share d k sh) _
      (agrees_on al.0 s v' sh.loads sh.stores
      (held_quiet x w k s v' mem sh.loads sh.stores al.0 al.1 id.0 id.1 (ap (put_row row words) (same_vpm al.0 id.0)) (same_mem al.0 id.1)))
      (omega arith) (still s refl v' sh.stores (ap (λ l. store_all l v' mem) id.1 ∙ sym (ap (λ l. store_all l sh.vpm mem) id.1))))

  await_load_kept : Goes AwaitLoad
  await_load_kept e al cs = go sh.loads refl
    where
      s : Solo
      s = next AwaitLoad

      go : (ls : List Element) → sh.loads ≡ ls → Kept (performed (Wants AwaitLoad) k s0.qpu sh cs (done_alone code g s0.qpu (row_wanted (Wants AwaitLoad) sh.vpm)))
      go [] el =
          let es = stores_idle s0.due sh.loads sh.stores (part al.0).1.flight al.1 in
          settle _ _ cs _ (mine_none sh.owner k H9 None (is_owner al.0) refl) (ap is_busy el)
          (advance AwaitLoad e s.qpu refl sh _
          (agrees_on al.0 s sh.vpm sh.loads sh.stores
          (held_quiet x w k s sh.vpm mem sh.loads sh.stores al.0 refl el es (same_vpm al.0 el) (same_mem al.0 es)))
          (omega arith) (still s refl sh.vpm sh.stores refl))
      go (f ∷ ls) el = stalled _ _ cs _ (mine_none sh.owner k H9 None (is_owner al.0) refl) (ap is_busy el)

  await_store_kept : Goes AwaitStore
  await_store_kept e al cs = go sh.stores refl
    where
      s : Solo
      s = next AwaitStore

      go : (ss : List Element) → sh.stores ≡ ss → Kept (performed (Wants AwaitStore) k s0.qpu sh cs (done_alone code g s0.qpu (row_wanted (Wants AwaitStore) sh.vpm)))
      go [] es =
          let el = loads_idle s0.due sh.loads sh.stores (part al.0).1.flight al.1 in
          settle _ _ cs _ (mine_none sh.owner k H9 None (is_owner al.0) refl) (ap is_busy es)
          (advance AwaitStore e s.qpu refl sh _
          (agrees_on al.0 s sh.vpm sh.loads sh.stores
          (held_quiet x w k s sh.vpm mem sh.loads sh.stores al.0 refl el es (same_vpm al.0 el) (same_mem al.0 es)))
          (omega arith) (still s refl sh.vpm sh.stores refl))
      go (f ∷ ss) es = stalled _ _ cs _ (mine_none sh.owner k H9 None (is_owner al.0) refl) (ap is_busy es)

  -- ---- a load is started

  -- the bytes of a started load are in the footprint
  pub reads : (es : List Element) (late : Option Rule) → want code g s0.qpu ≡ Wants (StartLoad es late) → (o : Option Change) → s0.change ≡ o → (a : ℕ) → AnyCovers es a → TouchesOf x w k a
  reads es late e None eo a cov =
      let r = i.reach k lt in
      inl (record {
        contents = r.contents;
        valid = r.valid;
        plain = ap (λ t. t.change) r.is ∙ eo;
        here = subst (λ y. LoadsByte y a) (sym (ap (λ t. want code g t.qpu) r.is ∙ e)) cov;
      })
  reads es late e (Some y) eo a cov =
      let r = i.reach k lt in
      inr (inr (
        y,
        record {
          contents = r.contents;
          valid = r.valid;
          change = ap (λ t. t.change) r.is ∙ eo;
          here = inl (subst (λ y. LoadsByte y a) (sym (ap (λ t. want code g t.qpu) r.is ∙ e)) cov);
        },
      ))

  load_kept : (es : List Element) (late : Option Rule) → Goes (StartLoad es late)
  load_kept es late e al cs =
      let d : Demand = StartLoad es late in
      let s : Solo = next d in
      let id = idle_now al.0 al.1 in
      let em = same_mem al.0 id.1 in
      let held : Held x w k s sh.vpm mem es sh.stores =
      record {
        own = al.0;
        flight = id.1;
        vpm = load_all_agrees es mem s0.memory sh.vpm (λ a cov. em a (inl (reads es late e s0.change refl a cov))) ∙ ap (load_all es s0.memory) (same_vpm al.0 id.0);
        agree = λ a t. subst (λ l. get_or (store_all l sh.vpm mem) a 0 ≡ get_or s0.memory a 0) (sym id.1) (em a t);
        loads_apart = subst StartsApart e (want_apart code g s0.qpu);
        stores_apart = subst AreApartAll (sym id.1) tt;
        covered = λ a h. absurd (subst (λ l. AnyCovers l a) id.1 h);
      } in
      let zl : length sh.loads ≡ 0 = ap length id.0 in
      settle _ false cs _ (mine_none sh.owner k H9 _ (is_owner al.0) (first_none _ H11 late (ap is_busy id.0) al.2)) refl
      (advance d e s.qpu refl (share d k sh) _ (agrees_on al.0 s sh.vpm es sh.stores held) (omega arith) (still s refl sh.vpm sh.stores refl))

  -- ---- a store is started

  -- the bytes near a shared word's first one are shared
  near : (a b : ℕ) → a % 4 ≡ 0 → x.is_shared a ≡ true → a ≤ b → b < a + 4 → x.is_shared b ≡ true
  near a b al sx le l =
      let q : a / 4 ≡ b / 4 = omega arith in
      sym (fits.whole a b q) ∙ sx

  -- the shared words in the memory, while no store is in flight
  words_now : sh.stores ≡ [] → Totals (λ j. (i.at j).made) mem
  words_now es a al sx =
      subst (λ l. number_at 4 (store_all l sh.vpm mem) a ≡ changed_by_all a (λ j. (i.at j).made) (length w.qpus) (number_at 4 w.memory a)) es (i.totals a al sx)

  -- the others' changes of a word commute with a change of this QPU
  commuting : (a : ℕ) (ch : Change) → ChangesOf x w k a ch → (j : ℕ) → j < length w.qpus → j ≢ k → CommuteAll a ch (i.at j).made
  commuting a ch mine j ltj ne =
      let r = i.reach j ltj in
      known (i.at j).made (subst (λ s. Known s.made) r.is (made_known (of_qpu x j) code (site_of w.fixed j) w (qpu_at w j) (fits.clean j ltj) r.contents r.valid))
    where
      Known : List Made → Type 0
      Known ms = AreKnown (of_qpu x j) code (site_of w.fixed j) w (qpu_at w j) (fits.clean j ltj) ms

      known : (ms : List Made) → Known ms → CommuteAll a ch ms
      known [] h = tt
      known (m ∷ ms) h = (λ e. (fits.apart j k ltj lt ne).commute a m.change ch (subst (λ b. ChangesOf x w j b m.change) e h.0) mine, known ms h.1)

  small : (j : ℕ) → j < length w.qpus → AreSmall (i.at j).made
  small j ltj =
      let r = i.reach j ltj in
      subst (λ s. AreSmall s.made) r.is (made_small (of_qpu x j) code (site_of w.fixed j) w (qpu_at w j) (fits.clean j ltj) (λ n. fits.operands j n) r.contents)

  module _ (es : List Element) (late : Option Rule) (e : want code g s0.qpu ≡ Wants (StartStore es late)) where
    stores : (a : ℕ) → AnyCovers es a → StoresByte (next_of w k (solo_of x w k (i.reach k lt).contents)) a
    stores a cov = subst (λ y. StoresByte y a) (sym (ap (λ t. want code g t.qpu) (i.reach k lt).is ∙ e)) cov

    writes : s0.change ≡ None → (a : ℕ) → AnyCovers es a → WritesOf x w k a
    writes eo a cov = let r = i.reach k lt in record { contents = r.contents; valid = r.valid; plain = ap (λ t. t.change) r.is ∙ eo; here = stores a cov }

    changes : (ch : Change) → s0.change ≡ Some ch → (a : ℕ) → AnyCovers es a → ChangesOf x w k a ch
    changes ch eo a cov = let r = i.reach k lt in record { contents = r.contents; valid = r.valid; change = ap (λ t. t.change) r.is ∙ eo; here = inr (stores a cov) }

    pub sets : (o : Option Change) → s0.change ≡ o → (a : ℕ) → AnyCovers es a → SetsOf x w k a
    sets None eo a cov = inl (writes eo a cov)
    sets (Some ch) eo a cov = inr (ch, changes ch eo a cov)

    store_held : length s0.memory ≡ length w.memory → s0.shared.owner ≡ Some k → s0.due ≡ NoneDue → Held x w k (next (StartStore es late)) sh.vpm mem sh.loads es
    store_held size own due =
        let id = idle_now own due in
        let ev = same_vpm own id.0 in
        record {
          own = own;
          flight = id.0;
          vpm = subst (λ l. load_all l mem sh.vpm ≡ s0.shared.vpm) (sym id.0) ev;
          agree = λ a t. store_all_keeps es sh.vpm mem s0.memory a (i.size ∙ sym size) (same_mem own id.1 a t) ∙ ap (λ v. get_or (store_all es v s0.memory) a 0) ev;
          loads_apart = subst AreApartAll (sym id.0) tt;
          stores_apart = subst StartsApart e (want_apart code g s0.qpu);
          covered = sets s0.change refl;
        }

    -- a store in a section that changes no word leaves the shared words
    plain_totals : sh.stores ≡ [] → s0.change ≡ None → ((a : ℕ) → LoadsByte (Wants (StartStore es late)) a ⊎ StoresByte (Wants (StartStore es late)) a → x.is_shared a ≡ false)
        → Totals (λ j. (upd i.at k (next (StartStore es late)) j).made) (store_all es sh.vpm mem)
    plain_totals idle eo apart a al sx =
        let s : Solo = next (StartStore es late) in
        number_agrees 4 (store_all es sh.vpm mem) mem a
        (λ b le l. store_all_elsewhere es sh.vpm mem b (λ cov. let f = apart b (inr cov) in let t = near a b al sx le l in cc))
        ∙ words_now idle a al sx
        ∙ all_same a (λ j. (i.at j).made) (λ j. (upd i.at k s j).made) (length w.qpus) (number_at 4 w.memory a)
        (λ j l. same_upd x w (λ t. t.made) i.at k s (sym (ap (λ o. with_change o es s0.made) eo)) j)

  -- a store in a section that changes a word makes the change of that word
  module _ (f : Element) (late : Option Rule) (e : want code g s0.qpu ≡ Wants (StartStore (f ∷ []) late)) (ch : Change) (eo : s0.change ≡ Some ch) (size4 : f.size ≡ 4) (at4 : f.address % 4 ≡ 0) where
    abbrev after : Solo
    after = next (StartStore (f ∷ []) late)

    abbrev one : Made
    one = record { address = f.address; change = ch }

    mine : (upd i.at k after k).made ≡ one ∷ s0.made
    mine = ap (λ t. t.made) (upd_same i.at k after) ∙ ap (λ o. with_change o (f ∷ []) s0.made) eo

    others_made : (j : ℕ) → j ≢ k → (upd i.at k after j).made ≡ (i.at j).made
    others_made j ne = ap (λ t. t.made) (upd_other i.at k after j ne)

    outside : (a b : ℕ) → a % 4 ≡ 0 → a ≤ b → b < a + 4 → f.address ≢ a → AnyCovers (f ∷ []) b → ⊥
    outside a b al le l ne (inl q) = omega arith
    outside a b al le l ne (inr q) = q

    abbrev Now : ℕ → Type 0
    Now a = number_at 4 (store_all (f ∷ []) sh.vpm mem) a ≡ changed_by_all a (λ j. (upd i.at k after j).made) (length w.qpus) (number_at 4 w.memory a)

    this_word : length s0.memory ≡ length w.memory → s0.shared.owner ≡ Some k → s0.due ≡ NoneDue
        → number_at 4 after.memory f.address ≡ changed ch (number_at 4 s0.memory f.address) → (a : ℕ) → a % 4 ≡ 0 → x.is_shared a ≡ true → f.address ≡ a → Now a
    this_word size own due st a al sx q =
        let id = idle_now own due in
        let em = same_mem own id.1 in
        let held = store_held (f ∷ []) late e size own due in
        let cov : AnyCovers (f ∷ []) a = inl (omega arith, omega arith) in
        number_agrees 4 (store_all (f ∷ []) sh.vpm mem) after.memory a (λ b le l. held.agree b (inr (near a b al sx le l)))
        ∙ subst (λ b. number_at 4 after.memory b ≡ changed ch (number_at 4 s0.memory b)) q st
        ∙ ap (changed ch) (sym (number_agrees 4 mem s0.memory a (λ b le l. em b (inr (near a b al sx le l)))) ∙ words_now id.1 a al sx)
        ∙ sym (all_more a (λ j. (i.at j).made) (λ j. (upd i.at k after j).made) k one (length w.qpus) (number_at 4 w.memory a) lt mine others_made q
        (λ j ltj ne. commuting a ch (changes (f ∷ []) late e ch eo a cov) j ltj ne) small (word_below w.memory a fits.start.range.memory))

    other_word : sh.stores ≡ [] → (a : ℕ) → a % 4 ≡ 0 → x.is_shared a ≡ true → f.address ≢ a → Now a
    other_word idle a al sx ne =
        number_agrees 4 (store_all (f ∷ []) sh.vpm mem) mem a (λ b le l. store_all_elsewhere (f ∷ []) sh.vpm mem b (λ cov. outside a b al le l ne cov))
        ∙ words_now idle a al sx
        ∙ sym (all_skip a (λ j. (i.at j).made) (λ j. (upd i.at k after j).made) k one (length w.qpus) (number_at 4 w.memory a) mine others_made ne)

  store_totals : (es : List Element) (late : Option Rule) → want code g s0.qpu ≡ Wants (StartStore es late) → length s0.memory ≡ length w.memory
      → s0.shared.owner ≡ Some k → s0.due ≡ NoneDue → (o : Option Change) → s0.change ≡ o → KeepsApart (of_qpu x k) (Wants (StartStore es late)) s0 o
      → Totals (λ j. (upd i.at k (next (StartStore es late)) j).made) (store_all es sh.vpm mem)
  store_totals es late e size own due None eo y = plain_totals es late e (idle_now own due).1 eo y
  store_totals [] late e size own due (Some ch) eo y = absurd y.0
  store_totals (f ∷ []) late e size own due (Some ch) eo y =
      λ a al sx. ⊎_elim
      (λ q. this_word f late e ch eo y.0.0 y.0.1 size own due y.1 a al sx q)
      (λ ne. other_word f late e ch eo y.0.0 y.0.1 (idle_now own due).1 a al sx ne)
      (cases_eq f.address a)
  store_totals (f ∷ (h ∷ es)) late e size own due (Some ch) eo y = absurd y.0

  store_kept : (es : List Element) (late : Option Rule) → length s0.memory ≡ length w.memory → KeepsApart (of_qpu x k) (Wants (StartStore es late)) s0 s0.change → Goes (StartStore es late)
  store_kept es late size ka e al cs =
      let d : Demand = StartStore es late in
      let s : Solo = next d in
      let id = idle_now al.0 al.1 in
      let zl : length sh.stores ≡ 0 = ap length id.1 in
      settle _ false cs _ (mine_none sh.owner k H9 _ (is_owner al.0) (first_none _ H11 late (ap is_busy id.1) al.2)) refl
      (advance d e s.qpu refl (share d k sh) _ (agrees_on al.0 s sh.vpm sh.loads es (store_held es late e size al.0 al.1)) (omega arith)
      (store_totals es late e size al.0 al.1 s0.change refl ka))

  -- ---- each word

  demand_kept : (d : Demand) → length s0.memory ≡ length w.memory → KeepsApart (of_qpu x k) (Wants d) s0 s0.change → Goes d
  demand_kept (Private late) size ka = private_kept late
  demand_kept (Setup late) size ka = setup_kept late
  demand_kept Take size ka = take_kept size
  demand_kept Give size ka = give_kept
  demand_kept (ReadRow row late) size ka = read_kept row late
  demand_kept (WriteRow row words late) size ka = write_kept row words late
  demand_kept (StartLoad es late) size ka = load_kept es late
  demand_kept (StartStore es late) size ka = store_kept es late size ka
  demand_kept AwaitLoad size ka = await_load_kept
  demand_kept AwaitStore size ka = await_store_kept

  pub word_kept : (d : Want) → want code g s0.qpu ≡ d → length s0.memory ≡ length w.memory → KeepsApart (of_qpu x k) d s0 s0.change
      → Allowed d k s0.shared.owner s0.due → (cs : Counts) → Kept (performed d k s0.qpu sh cs (done_alone code g s0.qpu (row_wanted d sh.vpm)))
  word_kept Rests e size ka al cs = nothing cs effect.Nothing refl refl
  word_kept (Breaks rule) e size ka al cs = absurd al
  word_kept (Wants d) e size ka al cs = demand_kept d size ka e al cs
