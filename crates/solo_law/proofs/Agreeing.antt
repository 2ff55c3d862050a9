-- What agrees between the machine and the runs alone, and what of it a word of one QPU leaves.
use Rattle.std.proofs.Common.{◌≡◌, ◌≢◌, ℕ, ◌<◌, ⊎_elim, inl, inr, ◌⊎◌, List, [], length, get_or, refl, sym, ap, ◌∙◌, subst, Bool, true, false}
use Rattle.std.specs.declared.option.Option.{Option}
use Rattle.std.specs.declared.option.Option.TheVariants.{Some, None}
use Rattle.std.specs.List.{remove}
use Rattle.std.proofs.lemmas.Bool.{cases_eq}
use Rattle.vpm_words.specs.Moves.{load_element, store_element, load_all, store_all}
use Rattle.vpm_words.specs.declared.state.Element.{Element}
use Rattle.qpu_machine.specs.MachineState.{MachineState}
use Rattle.qpu_machine.specs.SoloRun.{Due, NoneDue, LoadDue, StoreDue, Solo, CoversByte, AnyCovers}
use Rattle.solo_law.specs.Sharing.{Shares}
use Rattle.solo_law.specs.Premises.{SetsOf, TouchesOf, Premises}
use Rattle.solo_law.proofs.Elements.{AreApartAll, HasAt, store_elsewhere, apart_remove, load_first, store_first, covers_at, covers_remove}
use Rattle.solo_law.proofs.Invariant.{Out, Flight, CountsFor, Held, Agrees, upd, upd_same, upd_other}

pub true_or : (b : Bool) → (b ≡ true) ⊎ (b ≡ false)
true_or true = inl refl
true_or false = inr refl

-- ---- what is in flight

pub quiet : (d : Due) (ls ss : List Element) → d ≡ NoneDue → Flight d ls ss → (ls ≡ []) × (ss ≡ [])
quiet d ls ss e f = subst (λ y. Flight y ls ss) e f

pub stores_idle : (d : Due) (ls ss : List Element) → Flight d ls ss → d ≢ StoreDue → ss ≡ []
stores_idle NoneDue ls ss f n = f.1
stores_idle LoadDue ls ss f n = f
stores_idle StoreDue ls ss f n = absurd (n refl)

pub loads_idle : (d : Due) (ls ss : List Element) → Flight d ls ss → d ≢ LoadDue → ls ≡ []
loads_idle NoneDue ls ss f n = f.0
loads_idle LoadDue ls ss f n = absurd (n refl)
loads_idle StoreDue ls ss f n = f

load_flight : (d : Due) (ls ss : List Element) (j : ℕ) (e : Element) → HasAt ls j e → Flight d ls ss → (ss ≡ []) × Flight d (remove ls j) ss
load_flight NoneDue ls ss j e h f = absurd (subst (λ l. HasAt l j e) f.0 h)
load_flight LoadDue ls ss j e h f = (f, f)
load_flight StoreDue ls ss j e h f = absurd (subst (λ l. HasAt l j e) f h)

store_flight : (d : Due) (ls ss : List Element) (j : ℕ) (e : Element) → HasAt ss j e → Flight d ls ss → (ls ≡ []) × Flight d ls (remove ss j)
store_flight NoneDue ls ss j e h f = absurd (subst (λ l. HasAt l j e) f.1 h)
store_flight LoadDue ls ss j e h f = absurd (subst (λ l. HasAt l j e) f h)
store_flight StoreDue ls ss j e h f = (f, f)

module _ (x : Shares) (w : MachineState) where
  -- ---- the owner has nothing in flight

  pub held_vpm : (k : ℕ) (s : Solo) (v : List (List ℕ)) (mem : List ℕ) (ls ss : List Element) → Held x w k s v mem ls ss → ls ≡ [] → v ≡ s.shared.vpm
  held_vpm k s v mem ls ss h e = subst (λ l. load_all l mem v ≡ s.shared.vpm) e h.vpm

  pub held_mem : (k : ℕ) (s : Solo) (v : List (List ℕ)) (mem : List ℕ) (ls ss : List Element) → Held x w k s v mem ls ss → ss ≡ []
      → (a : ℕ) → CountsFor x w k a → get_or mem a 0 ≡ get_or s.memory a 0
  held_mem k s v mem ls ss h e a t = subst (λ l. get_or (store_all l v mem) a 0 ≡ get_or s.memory a 0) e (h.agree a t)

  pub held_quiet : (k : ℕ) (s : Solo) (v : List (List ℕ)) (mem : List ℕ) (ls ss : List Element) → s.shared.owner ≡ Some k → s.due ≡ NoneDue → ls ≡ [] → ss ≡ []
      → v ≡ s.shared.vpm → ((a : ℕ) → CountsFor x w k a → get_or mem a 0 ≡ get_or s.memory a 0) → Held x w k s v mem ls ss
  held_quiet k s v mem ls ss own due el es ev em =
      record {
        own = own;
        flight = subst (λ y. Flight y ls ss) (sym due) (el, es);
        vpm = subst (λ l. load_all l mem v ≡ s.shared.vpm) (sym el) ev;
        agree = λ a t. subst (λ l. get_or (store_all l v mem) a 0 ≡ get_or s.memory a 0) (sym es) (em a t);
        loads_apart = subst AreApartAll (sym el) tt;
        stores_apart = subst AreApartAll (sym es) tt;
        covered = λ a h. absurd (subst (λ l. AnyCovers l a) es h);
      }

  -- ---- who owns the mutex

  pub owner_of : (at : ℕ → Solo) (o : Option ℕ) (v : List (List ℕ)) (mem : List ℕ) (ls ss : List Element) (k : ℕ) → k < length w.qpus
      → Agrees x w at o v mem ls ss → (at k).shared.owner ≡ Some k → o ≡ Some k
  owner_of at None v mem ls ss k lt sh h = let e = (sh.2 k lt).free in absurd cc
  owner_of at (Some j) v mem ls ss k lt sh h =
      ⊎_elim (λ e. ap Some e) (λ ne. let e = (sh.2 k lt (λ q. ne (sym q))).free in absurd cc) (cases_eq j k)

  -- ---- after one QPU's word

  out_same : (s t : Solo) (mem : List ℕ) (j : ℕ) → s.shared ≡ t.shared → s.memory ≡ t.memory → s.due ≡ t.due → Out x w j s mem → Out x w j t mem
  out_same s t mem j e m d o =
      record {
        free = subst (λ y. y.owner ≡ None) e o.free;
        due = subst (λ y. y ≡ NoneDue) d o.due;
        agree = λ a h f. subst (λ y. get_or mem a 0 ≡ get_or y a 0) m (o.agree a h f);
      }

  held_same : (s t : Solo) (v : List (List ℕ)) (mem : List ℕ) (ls ss : List Element) (k : ℕ) → s.shared ≡ t.shared → s.memory ≡ t.memory → s.due ≡ t.due
      → Held x w k s v mem ls ss → Held x w k t v mem ls ss
  held_same s t v mem ls ss k e m d h =
      record {
        own = subst (λ y. y.owner ≡ Some k) e h.own;
        flight = subst (λ y. Flight y ls ss) d h.flight;
        vpm = subst (λ y. load_all ls mem v ≡ y.vpm) e h.vpm;
        agree = λ a c. subst (λ y. get_or (store_all ss v mem) a 0 ≡ get_or y a 0) m (h.agree a c);
        loads_apart = h.loads_apart;
        stores_apart = h.stores_apart;
        covered = h.covered;
      }

  agrees_same : (at to : ℕ → Solo) (o : Option ℕ) (v : List (List ℕ)) (mem : List ℕ) (ls ss : List Element) → ((j : ℕ) → (at j).shared ≡ (to j).shared)
      → ((j : ℕ) → (at j).memory ≡ (to j).memory) → ((j : ℕ) → (at j).due ≡ (to j).due) → Agrees x w at o v mem ls ss → Agrees x w to o v mem ls ss
  agrees_same at to None v mem ls ss e m d sh = (sh.0, sh.1, λ j lt. out_same (at j) (to j) mem j (e j) (m j) (d j) (sh.2 j lt))
  agrees_same at to (Some k) v mem ls ss e m d sh =
      (sh.0, held_same (at k) (to k) v mem ls ss k (e k) (m k) (d k) sh.1, λ j lt ne. out_same (at j) (to j) mem j (e j) (m j) (d j) (sh.2 j lt ne))

  pub same_upd : {A : Type 0} (f : Solo → A) (at : ℕ → Solo) (k : ℕ) (s : Solo) → f (at k) ≡ f s → (j : ℕ) → f (at j) ≡ f (upd at k s j)
  same_upd f at k s h j =
      ⊎_elim
      (λ e. subst (λ y. f (at y) ≡ f (upd at k s y)) (sym e) (h ∙ sym (ap f (upd_same at k s))))
      (λ ne. sym (ap f (upd_other at k s j ne)))
      (cases_eq j k)

  -- nothing shared changes
  pub agrees_still : (at : ℕ → Solo) (k : ℕ) (s : Solo) (o : Option ℕ) (v : List (List ℕ)) (mem : List ℕ) (ls ss : List Element) → (at k).shared ≡ s.shared
      → (at k).memory ≡ s.memory → (at k).due ≡ s.due → Agrees x w at o v mem ls ss → Agrees x w (upd at k s) o v mem ls ss
  agrees_still at k s o v mem ls ss e m d ag =
      agrees_same at (upd at k s) o v mem ls ss (same_upd (λ t. t.shared) at k s e) (same_upd (λ t. t.memory) at k s m) (same_upd (λ t. t.due) at k s d) ag

  pub others : (at : ℕ → Solo) (k : ℕ) (s : Solo) (mem : List ℕ) → ((j : ℕ) → j < length w.qpus → j ≢ k → Out x w j (at j) mem)
      → (j : ℕ) → j < length w.qpus → j ≢ k → Out x w j (upd at k s j) mem
  others at k s mem h j lt ne = subst (λ t. Out x w j t mem) (sym (upd_other at k s j ne)) (h j lt ne)

  pub agrees_held : (at : ℕ → Solo) (k : ℕ) (s : Solo) (v : List (List ℕ)) (mem : List ℕ) (ls ss : List Element) → k < length w.qpus
      → ((j : ℕ) → j < length w.qpus → j ≢ k → Out x w j (at j) mem) → Held x w k s v mem ls ss → Agrees x w (upd at k s) (Some k) v mem ls ss
  agrees_held at k s v mem ls ss lt h held =
      (lt, subst (λ t. Held x w k t v mem ls ss) (sym (upd_same at k s)) held, others at k s mem h)

  -- ---- after a moved element

  pub load_agreed : (at : ℕ → Solo) (o : Option ℕ) (v : List (List ℕ)) (mem : List ℕ) (ls ss : List Element) (j : ℕ) (e : Element) → HasAt ls j e
      → Agrees x w at o v mem ls ss → Agrees x w at o (load_element e mem v) mem (remove ls j) ss
  load_agreed at None v mem ls ss j e h ag = absurd (subst (λ l. HasAt l j e) ag.0 h)
  load_agreed at (Some k) v mem ls ss j e h ag =
      let held = ag.1 in
      let s : Solo = at k in
      let f = load_flight s.due ls ss j e h held.flight in (
        ag.0,
        record {
          own = held.own;
          flight = f.1;
          vpm = load_first ls j e mem v h held.loads_apart ∙ held.vpm;
          agree = λ a t. subst (λ l. get_or (store_all l (load_element e mem v) mem) a 0 ≡ get_or s.memory a 0) (sym f.0) (held_mem k s v mem ls ss held f.0 a t);
          loads_apart = apart_remove ls j held.loads_apart;
          stores_apart = held.stores_apart;
          covered = held.covered;
        },
        ag.2,
      )

  -- what one QPU sets no other one touches, but for shared bytes
  clash : Premises x w → (k j : ℕ) → k < length w.qpus → j < length w.qpus → k ≢ j → (a : ℕ) → SetsOf x w k a → TouchesOf x w j a → x.is_shared a ≡ false → ⊥
  clash fits k j lk lj ne a (inl wr) t f = (fits.apart k j lk lj ne).writes a wr t
  clash fits k j lk lj ne a (inr ch) (inl rd) f = (fits.apart k j lk lj ne).changes a ch.0 ch.1 rd
  clash fits k j lk lj ne a (inr ch) (inr (inl wr)) f = (fits.apart j k lj lk (λ z. ne (sym z))).writes a wr (inr (inr ch))
  clash fits k j lk lj ne a (inr ch) (inr (inr dh)) f = let t = (fits.apart k j lk lj ne).shared a ch.0 dh.0 ch.1 dh.1 in cc

  pub store_agreed : Premises x w → (at : ℕ → Solo) (o : Option ℕ) (v : List (List ℕ)) (mem : List ℕ) (ls ss : List Element) (j : ℕ) (e : Element) → HasAt ss j e
      → Agrees x w at o v mem ls ss → Agrees x w at o v (store_element e v mem) ls (remove ss j)
  store_agreed fits at None v mem ls ss j e h ag = absurd (subst (λ l. HasAt l j e) ag.1 h)
  store_agreed fits at (Some k) v mem ls ss j e h ag =
      let held = ag.1 in
      let s : Solo = at k in
      let f = store_flight s.due ls ss j e h held.flight in (
        ag.0,
        record {
          own = held.own;
          flight = f.1;
          vpm = subst (λ l. load_all l (store_element e v mem) v ≡ s.shared.vpm) (sym f.0) (held_vpm k s v mem ls ss held f.0);
          agree = λ a t. ap (λ l. get_or l a 0) (store_first ss j e v mem h held.stores_apart) ∙ held.agree a t;
          loads_apart = held.loads_apart;
          stores_apart = apart_remove ss j held.stores_apart;
          covered = λ a cov. held.covered a (covers_remove ss j a cov);
        },
        λ y lt ne.
            let out = ag.2 y lt ne in
            record {
              free = out.free;
              due = out.due;
              agree = λ a t f. store_elsewhere e v mem a (λ cov. clash fits k y ag.0 lt (λ z. ne (sym z)) a (held.covered a (covers_at ss j e a h cov)) t f) ∙ out.agree a t f;
            },
      )

  pub stores_none : (at : ℕ → Solo) (o : Option ℕ) (v : List (List ℕ)) (mem : List ℕ) (ls ss : List Element) (j : ℕ) (e : Element) → HasAt ls j e
      → Agrees x w at o v mem ls ss → ss ≡ []
  stores_none at None v mem ls ss j e h ag = ag.1
  stores_none at (Some k) v mem ls ss j e h ag = (load_flight (at k).due ls ss j e h ag.1.flight).0

  pub stores_apart_of : (at : ℕ → Solo) (o : Option ℕ) (v : List (List ℕ)) (mem : List ℕ) (ls ss : List Element) → Agrees x w at o v mem ls ss → AreApartAll ss
  stores_apart_of at None v mem ls ss ag = subst AreApartAll (sym ag.1) tt
  stores_apart_of at (Some k) v mem ls ss ag = ag.1.stores_apart

  -- a byte that is stored belongs to the owner's footprint
  pub writer : (at : ℕ → Solo) (o : Option ℕ) (v : List (List ℕ)) (mem : List ℕ) (ls ss : List Element) (j : ℕ) (e : Element) → HasAt ss j e
      → Agrees x w at o v mem ls ss → (a : ℕ) → CoversByte e a → (k : ℕ) × (k < length w.qpus) × SetsOf x w k a
  writer at None v mem ls ss j e h ag a cov = absurd (subst (λ l. HasAt l j e) ag.1 h)
  writer at (Some k) v mem ls ss j e h ag a cov = (k, ag.0, ag.1.covered a (covers_at ss j e a h cov))
