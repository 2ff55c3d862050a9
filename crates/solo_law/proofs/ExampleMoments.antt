-- The run of QPU k of the example alone, from one word to the next: what is known of it, whatever the contents.
use Rattle.std.proofs.Common.{◌≡◌, ◌≢◌, ℕ, ◌+◌, ◌<◌, ◌≤◌, List, [], ◌∷◌, length, get_or, refl, sym, ap, ◌∙◌, subst, arith, Bool, false, inl, inr, get_or-set_same, length-set}
use Rattle.std.proofs.lemmas.Bool.{eq-eqb}
use Rattle.std.specs.Prelude.{◌||◌, Option, Some, None, IfSome, if◌then◌else◌, not}
use Rattle.vpm_words.specs.Access.{Given, Demand, Private, Setup, Take, Give, WriteRow, StartStore, AwaitStore, owner_seen, if_mine, is_busy, is_row_busy, breaks}
use Rattle.vpm_words.specs.Moves.{number_at, part_of, bytes_of, put_bytes, bytes_out, store_element}
use Rattle.vpm_words.specs.Rules.{is_me, first_of}
use Rattle.vpm_words.specs.declared.state.Element.{Element}
use Rattle.vpm_words.specs.declared.state.Owner.TheVariants.{Me, Other}
use Rattle.vpm_words.specs.declared.state.Rule.{Rule}
use Rattle.vpm_words.specs.declared.state.Rule.TheVariants.{H8, H9, H10, H11}
use Rattle.qpu_machine.specs.declared.state.Qpu.{Qpu}
use Rattle.qpu_machine.specs.SoloRun.{Want, Rests, Wants, want, done_alone, Due, NoneDue, LoadDue, StoreDue, Sharing, Solo, does, IsGiven, IsInTurn, IsFine, AnyCovers, LoadsByte, StoresByte, KeepsApart}
use Rattle.solo_law.specs.Example.{example_words, place_of}
use Rattle.solo_law.specs.Sharing.{no_shares, of_qpu}
use Rattle.solo_law.proofs.ExampleWords.{site, element}
use Rattle.solo_law.proofs.Forward.{keeps_apart, nothing_overlaid}

-- what is known before a word
pub record Moment : Type 0 where
  pub qpu : Qpu
  pub owner : Option ℕ
  pub memory : List ℕ
  pub due : Due
  -- row 0 of the VPM, once it is written
  pub row : Option (List ℕ)

pub record IsAt (m : Moment) (s : Solo) : Type 0 where
  pub qpu : s.qpu ≡ m.qpu
  pub owner : s.shared.owner ≡ m.owner
  pub loads : s.shared.loads ≡ []
  pub stores : s.shared.stores ≡ []
  pub memory : s.memory ≡ m.memory
  pub due : s.due ≡ m.due
  pub change : s.change ≡ None
  pub rows : length s.shared.vpm ≡ 64
  pub row : IfSome m.row (λ words. get_or s.shared.vpm 0 [] ≡ words)

-- the bytes that QPU k stores
abbrev pub IsOwn : ℕ → ℕ → Type 0
IsOwn k a = (place_of k ≤ a) × (a < place_of k + 4)

-- what the owner asks for doesn't break the rule of the mutex
mine : (owner : Option ℕ) (k : ℕ) (rule : Rule) (others : Option Rule) → owner ≡ Some k → if_mine owner k rule others ≡ others
mine owner k rule others e =
    ap (λ o. if_mine o k rule others) e
    ∙ ap (λ (same : Bool). first_of (not (is_me (if same then Me else Other))) rule others) (eq-eqb k k refl)

module _ (k : ℕ) where
  abbrev sharing : Sharing
  sharing = of_qpu no_shares k

  -- the word that is next at the first moment leads to the second
  pub record Leads (m n : Moment) : Type 0 where
    pub wants : Want
    pub is : want example_words (site k) m.qpu ≡ wants
    pub fine : (s : Solo) → IsAt m s → IsFine sharing k wants s
    pub goes : (s : Solo) (v : Given) → IsGiven 24 v → IsAt m s → IsAt n (does sharing example_words (site k) wants v s)
    pub loads : (a : ℕ) → ¬ (LoadsByte wants a)
    pub stores : (a : ℕ) → StoresByte wants a → IsOwn k a
    -- at the end what was to be stored is there
    pub ended : wants ≡ Rests → number_at 4 m.memory (place_of k) ≡ k + 3

  fine_word : (m : Moment) (d : Demand) (s : Solo) → IsAt m s → breaks d k s.shared ≡ None → IsInTurn (Wants d) s.due → IsFine sharing k (Wants d) s
  fine_word m d s h unbroken in_turn =
      record {
        unbroken = unbroken;
        in_turn = in_turn;
        freed = λ e. cc;
        apart = subst (λ c. KeepsApart sharing (Wants d) s c) (sym h.change) (keeps_apart sharing (Wants d) s (λ a touched. refl));
      }

  -- a moment
  abbrev pub at : Qpu → Option ℕ → List ℕ → Due → Option (List ℕ) → Moment
  at q owner memory due row = record { qpu = q; owner = owner; memory = memory; due = due; row = row }

  -- a memory after the store from a row of these words
  abbrev pub stored : List ℕ → List ℕ → List ℕ
  stored bytes words = put_bytes bytes (place_of k) (bytes_of 4 (part_of 0 4 (get_or words 3 0)))

  module _ (q r : Qpu) (after : done_alone example_words (site k) q [] ≡ r) (bytes : List ℕ) where
    moves : (m : Moment) (s : Solo) → IsAt m s → m.qpu ≡ q → done_alone example_words (site k) s.qpu [] ≡ r
    moves m s h e = ap (λ p. done_alone example_words (site k) p []) (h.qpu ∙ e) ∙ after

    pub private_leads : (owner : Option ℕ) (due : Due) (row : Option (List ℕ)) → want example_words (site k) q ≡ Wants (Private None)
        → Leads (at q owner bytes due row) (at r owner bytes due row)
    private_leads owner due row is =
        record {
          wants = Wants (Private None);
          is = is;
          fine = λ s h. fine_word (at q owner bytes due row) (Private None) s h refl tt;
          goes = λ s v ok h. record {
            qpu = moves (at q owner bytes due row) s h refl;
            owner = h.owner;
            loads = h.loads;
            stores = h.stores;
            memory = h.memory;
            due = h.due;
            change = h.change;
            rows = h.rows;
            row = h.row;
          };
          loads = λ a l. l;
          stores = λ a l. absurd l;
          ended = λ e. cc;
        }

    pub setup_leads : (row : Option (List ℕ)) → want example_words (site k) q ≡ Wants (Setup None)
        → Leads (at q (Some k) bytes NoneDue row) (at r (Some k) bytes NoneDue row)
    setup_leads row is =
        record {
          wants = Wants (Setup None);
          is = is;
          fine = λ s h. fine_word (at q (Some k) bytes NoneDue row) (Setup None) s h (mine s.shared.owner k H9 None h.owner) h.due;
          goes = λ s v ok h. record {
            qpu = moves (at q (Some k) bytes NoneDue row) s h refl;
            owner = h.owner;
            loads = h.loads;
            stores = h.stores;
            memory = h.memory;
            due = h.due;
            change = h.change;
            rows = h.rows;
            row = h.row;
          };
          loads = λ a l. l;
          stores = λ a l. absurd l;
          ended = λ e. cc;
        }

    pub take_leads : want example_words (site k) q ≡ Wants Take → Leads (at q None bytes NoneDue None) (at r (Some k) bytes NoneDue None)
    take_leads is =
        record {
          wants = Wants Take;
          is = is;
          fine = λ s h. fine_word (at q None bytes NoneDue None) Take s h (ap (λ o. first_of (is_me (owner_seen o k)) H8 None) h.owner) h.due;
          goes = λ s v ok h. record {
            qpu = moves (at q None bytes NoneDue None) s h refl;
            owner = refl;
            loads = h.loads;
            stores = h.stores;
            memory = nothing_overlaid (λ a. false) (λ a. refl) 0 v.memory s.memory ∙ h.memory;
            due = h.due;
            change = refl;
            rows = ok.vpm.rows;
            row = tt;
          };
          loads = λ a l. l;
          stores = λ a l. absurd l;
          ended = λ e. cc;
        }

    pub write_leads : (words : List ℕ) → want example_words (site k) q ≡ Wants (WriteRow (Some 0) words None)
        → Leads (at q (Some k) bytes NoneDue None) (at r (Some k) bytes NoneDue (Some words))
    write_leads words is =
        record {
          wants = Wants (WriteRow (Some 0) words None);
          is = is;
          fine = λ s h. fine_word (at q (Some k) bytes NoneDue None) (WriteRow (Some 0) words None) s h (unbroken s h) h.due;
          goes = λ s v ok h. record {
            qpu = moves (at q (Some k) bytes NoneDue None) s h refl;
            owner = h.owner;
            loads = h.loads;
            stores = h.stores;
            memory = h.memory;
            due = h.due;
            change = h.change;
            rows = length-set s.shared.vpm 0 words ∙ h.rows;
            row = get_or-set_same s.shared.vpm 0 words [] (let rows = h.rows in omega arith);
          };
          loads = λ a l. l;
          stores = λ a l. absurd l;
          ended = λ e. cc;
        }
      where
        unbroken : (s : Solo) → IsAt (at q (Some k) bytes NoneDue None) s → breaks (WriteRow (Some 0) words None) k s.shared ≡ None
        unbroken s h =
            mine s.shared.owner k H9 (first_of (is_row_busy (Some 0) s.shared.loads s.shared.stores) H10 None) h.owner
            ∙ ap (λ (es : List Element). first_of (is_row_busy (Some 0) es s.shared.stores) H10 None) h.loads
            ∙ ap (λ (es : List Element). first_of (is_row_busy (Some 0) [] es) H10 None) h.stores

    pub start_leads : (words : List ℕ) → want example_words (site k) q ≡ Wants (StartStore (element k ∷ []) None)
        → Leads (at q (Some k) bytes NoneDue (Some words)) (at r (Some k) (stored bytes words) StoreDue (Some words))
    unfolding store_element bytes_out
    start_leads words is =
        record {
          wants = Wants (StartStore (element k ∷ []) None);
          is = is;
          fine = λ s h. fine_word (at q (Some k) bytes NoneDue (Some words)) (StartStore (element k ∷ []) None) s h
              (mine s.shared.owner k H9 (first_of (is_busy s.shared.stores) H11 None) h.owner ∙ ap (λ (es : List Element). first_of (is_busy es) H11 None) h.stores) h.due;
          goes = λ s v ok h. record {
            qpu = moves (at q (Some k) bytes NoneDue (Some words)) s h refl;
            owner = h.owner;
            loads = h.loads;
            stores = refl;
            memory =
                ap (λ (row : List ℕ). put_bytes s.memory (place_of k) (bytes_of 4 (part_of 0 4 (get_or row 3 0)))) h.row
                ∙ ap (λ (m : List ℕ). put_bytes m (place_of k) (bytes_of 4 (part_of 0 4 (get_or words 3 0)))) h.memory;
            due = refl;
            change = h.change;
            rows = h.rows;
            row = h.row;
          };
          loads = λ a l. l;
          stores = λ a l. covered a l;
          ended = λ e. cc;
        }
      where
        covered : (a : ℕ) → AnyCovers (element k ∷ []) a → IsOwn k a
        covered a (inl c) = c
        covered a (inr n) = absurd n

    pub await_leads : (row : Option (List ℕ)) → want example_words (site k) q ≡ Wants AwaitStore
        → Leads (at q (Some k) bytes StoreDue row) (at r (Some k) bytes NoneDue row)
    await_leads row is =
        record {
          wants = Wants AwaitStore;
          is = is;
          fine = λ s h. fine_word (at q (Some k) bytes StoreDue row) AwaitStore s h (mine s.shared.owner k H9 None h.owner) (not_load s.due h.due);
          goes = λ s v ok h. record {
            qpu = moves (at q (Some k) bytes StoreDue row) s h refl;
            owner = h.owner;
            loads = h.loads;
            stores = h.stores;
            memory = h.memory;
            due = refl;
            change = h.change;
            rows = h.rows;
            row = h.row;
          };
          loads = λ a l. l;
          stores = λ a l. absurd l;
          ended = λ e. cc;
        }
      where
        not_load : (due : Due) → due ≡ StoreDue → due ≢ LoadDue
        not_load due e f = cc

    pub give_leads : (row : Option (List ℕ)) → want example_words (site k) q ≡ Wants Give
        → Leads (at q (Some k) bytes NoneDue row) (at r None bytes NoneDue row)
    give_leads row is =
        record {
          wants = Wants Give;
          is = is;
          fine = λ s h. fine_word (at q (Some k) bytes NoneDue row) Give s h (unbroken s h) h.due;
          goes = λ s v ok h. record {
            qpu = moves (at q (Some k) bytes NoneDue row) s h refl;
            owner = refl;
            loads = h.loads;
            stores = h.stores;
            memory = h.memory;
            due = h.due;
            change = h.change;
            rows = h.rows;
            row = h.row;
          };
          loads = λ a l. l;
          stores = λ a l. absurd l;
          ended = λ e. cc;
        }
      where
        unbroken : (s : Solo) → IsAt (at q (Some k) bytes NoneDue row) s → breaks Give k s.shared ≡ None
        unbroken s h =
            mine s.shared.owner k H8 (first_of (is_busy s.shared.loads || is_busy s.shared.stores) H11 None) h.owner
            ∙ ap (λ (es : List Element). first_of (is_busy es || is_busy s.shared.stores) H11 None) h.loads
            ∙ ap (λ (es : List Element). first_of (is_busy es) H11 None) h.stores

  -- a QPU that has ended stays
  pub rests_leads : (q : Qpu) (bytes : List ℕ) (row : Option (List ℕ)) → want example_words (site k) q ≡ Rests → number_at 4 bytes (place_of k) ≡ k + 3
      → Leads (at q None bytes NoneDue row) (at q None bytes NoneDue row)
  rests_leads q bytes row is is_stored =
      record {
        wants = Rests;
        is = is;
        fine = λ s h. record {
          unbroken = refl;
          in_turn = tt;
          freed = λ e. h.owner;
          apart = subst (λ c. KeepsApart sharing Rests s c) (sym h.change) (keeps_apart sharing Rests s (λ a touched. refl));
        };
        goes = λ s v ok h. h;
        loads = λ a l. l;
        stores = λ a l. absurd l;
        ended = λ e. is_stored;
      }
