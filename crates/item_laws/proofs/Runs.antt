-- Runs that are local, and how they go on.
use Rattle.std.proofs.Common.{◌≡◌, ℕ, zero, suc, ◌≤◌, Bool, true, false, List, [], ◌∷◌, ◌++◌, inl, inr, refl, sym, ap, ◌∙◌, subst, append_assoc, arith}
use Rattle.std.specs.Prelude.{◌&&◌, ◌||◌}
use Rattle.std.proofs.lemmas.Bool.{and_from, or_parts, or_cases, or_left, or_right, cases_Bool}
use Rattle.item_ir.specs.IrMeaning.{World, Touch, State, Flow, Next, Broke, Again, Gone, Run, Ends, Stops, Spent, and_then, plainly_then, after_body, left_scope, after_round}
use Rattle.item_laws.specs.Locality.{covers, is_write, writes, uses, allows, are_allowed, IsKept, IsSame, IsRerun, IsLocal}

-- ---- accesses one after the other

or_assoc : (x y z : Bool) → (x || (y || z)) ≡ ((x || y) || z)
or_assoc true y z = refl
or_assoc false y z = refl

and_assoc : (x y z : Bool) → (x && (y && z)) ≡ ((x && y) && z)
and_assoc true y z = refl
and_assoc false y z = refl

pub writes-append : (x y : List Touch) (a : ℕ) → writes (x ++ y) a ≡ (writes x a || writes y a)
writes-append [] y a = refl
writes-append (t ∷ x) y a = ap (λ b. (is_write t.how && covers t a) || b) (writes-append x y a) ∙ or_assoc (is_write t.how && covers t a) (writes x a) (writes y a)

pub uses-append : (x y : List Touch) (a : ℕ) → uses (x ++ y) a ≡ (uses x a || uses y a)
uses-append [] y a = refl
uses-append (t ∷ x) y a = ap (λ b. covers t a || b) (uses-append x y a) ∙ or_assoc (covers t a) (uses x a) (uses y a)

pub allowed-append : (w : World) (x y : List Touch) → are_allowed w (x ++ y) ≡ (are_allowed w x && are_allowed w y)
allowed-append w [] y = refl
allowed-append w (t ∷ x) y =
    ap (λ b. allows w t && b) (allowed-append w x y) ∙ and_assoc (allows w t) (are_allowed w x) (are_allowed w y)

-- ---- where a run ends, it is local

module _ (w : World) where
  abbrev pub Along : (State → Run) → State → Run → Type 0
  Along go s (Ends f t) = IsLocal w go f s t
  Along go s Stops = Unit {0}
  Along go s Spent = Unit {0}

  abbrev pub Local : (State → Run) → Type 0
  Local go = (s : State) → Along go s (go s)

  pub ended : (go : State → Run) → Local go → (s : State) (f : Flow) (t : State) → go s ≡ Ends f t → IsLocal w go f s t
  ended go h s f t e = subst (Along go s) e (h s)

  pub as_run : (p q : State → Run) → ((s : State) → p s ≡ q s) → Local q → Local p
  as_run p q e h = subst Local (λ i s. sym (e s) i) h

  -- a run that does no access
  pub quiet : (f : Flow) (go : State → State) → ((s : State) → (go s).touches ≡ s.touches) → ((s : State) → (go s).mem ≡ s.mem) → ((s : State) → (go s).left ≤ s.left)
      → ((s : State) (m : ℕ → ℕ) → go (record s { mem = m }) ≡ record (go s) { mem = m }) → Local (λ s. Ends f (go s))
  quiet f go touches mem left same s = record {
    new = [];
    kept = record { touches = touches s; allowed = refl; bytes = λ a e. ap (λ m. m a) (mem s); left = left s };
    again = λ m h. record { mem = m; ends = ap (Ends f) (same s m); written = λ a e. absurd cc; rest = λ a e. refl };
  }

  pub stops : Local (λ s. Stops)
  stops s = tt

  pub spent : Local (λ s. Spent)
  spent s = tt

  -- a run that depends on what the memory has no part in
  pub depending : {A : Type 0} (p : State → A) (go : A → State → Run) → ((s : State) (m : ℕ → ℕ) → p (record s { mem = m }) ≡ p s) → ((x : A) → Local (go x)) → Local (λ s. go (p s) s)
  depending p go same h s = moved (go (p s) s) (h (p s) s)
    where
      moved : (r : Run) → Along (go (p s)) s r → Along (λ u. go (p u) u) s r
      moved (Ends f t) k = record {
        new = k.new;
        kept = k.kept;
        again = λ m e. let r = k.again m e in record { mem = r.mem; ends = ap (λ x. go x (record s { mem = m })) (same s m) ∙ r.ends; written = r.written; rest = r.rest };
      }
      moved Stops k = tt
      moved Spent k = tt

  -- ---- one after the other

  abbrev followed : Run → (Flow → State → Run) → Run
  followed (Ends f s) go = go f s
  followed Stops go = Stops
  followed Spent go = Spent

  kept_on : (s t u : State) (x y : List Touch) → IsKept w s t x → IsKept w t u y → IsKept w s u (y ++ x)
  kept_on s t u x y h k = record {
    touches = k.touches ∙ ap (λ l. y ++ l) h.touches ∙ sym (append_assoc y x s.touches);
    allowed = allowed-append w y x ∙ and_from (are_allowed w y) (are_allowed w x) k.allowed h.allowed;
    bytes = λ a e. let p = or_parts (writes y a) (writes x a) (sym (writes-append y x a) ∙ e) in k.bytes a p.0 ∙ h.bytes a p.1;
    left = omega (arith, h.left, k.left);
  }

  module _ (go : State → Run) (next : Flow → State → Run) (f g : Flow) (s t u : State) (h : IsLocal w go f s t) (k : IsLocal w (next f) g t u) (m : ℕ → ℕ) (e : IsSame (k.new ++ h.new) s.mem m) where
    first_used : (a : ℕ) → uses h.new a ≡ true → m a ≡ s.mem a
    first_used a q = e a (uses-append k.new h.new a ∙ or_right (uses k.new a) (uses h.new a) q)

    first_rerun : IsRerun go f s t h.new m
    first_rerun = h.again m first_used

    second_used : (a : ℕ) → uses k.new a ≡ true → first_rerun.mem a ≡ t.mem a
    second_used a q =
        elim (cases_Bool (writes h.new a)) [
          | inl y ↦ first_rerun.written a y
          | inr n ↦ first_rerun.rest a n ∙ e a (uses-append k.new h.new a ∙ or_left (uses k.new a) (uses h.new a) q) ∙ sym (h.kept.bytes a n)
        ]

    second_rerun : IsRerun (next f) g t u k.new first_rerun.mem
    second_rerun = k.again first_rerun.mem second_used

    both_written : (a : ℕ) → writes (k.new ++ h.new) a ≡ true → second_rerun.mem a ≡ u.mem a
    both_written a q =
        elim (or_cases (writes k.new a) (writes h.new a) (sym (writes-append k.new h.new a) ∙ q)) [
          | inl y ↦ second_rerun.written a y
          | inr z ↦
              elim (cases_Bool (writes k.new a)) [
                | inl y ↦ second_rerun.written a y
                | inr n ↦ second_rerun.rest a n ∙ first_rerun.written a z ∙ sym (k.kept.bytes a n)
              ]
        ]

    both_rest : (a : ℕ) → writes (k.new ++ h.new) a ≡ false → second_rerun.mem a ≡ m a
    both_rest a q = let p = or_parts (writes k.new a) (writes h.new a) (sym (writes-append k.new h.new a) ∙ q) in second_rerun.rest a p.0 ∙ first_rerun.rest a p.1

    rerun_on : IsRerun (λ x. followed (go x) next) g s u (k.new ++ h.new) m
    rerun_on = record { mem = second_rerun.mem; ends = ap (λ r. followed r next) first_rerun.ends ∙ second_rerun.ends; written = both_written; rest = both_rest }

  followed_local : (go : State → Run) (next : Flow → State → Run) → Local go → ((f : Flow) → Local (next f)) → Local (λ s. followed (go s) next)
  followed_local go next h k s = first (go s) (h s)
    where
      second : (f : Flow) (t : State) → IsLocal w go f s t → (r : Run) → Along (next f) t r → Along (λ x. followed (go x) next) s r
      second f t l (Ends g u) n = record {
        new = n.new ++ l.new;
        kept = kept_on s t u l.new n.new l.kept n.kept;
        again = λ m e. rerun_on go next f g s t u l n m e;
      }
      second f t l Stops n = tt
      second f t l Spent n = tt

      first : (r : Run) → Along go s r → Along (λ x. followed (go x) next) s (followed r next)
      first (Ends f t) l = second f t l (next f t) (k f t)
      first Stops l = tt
      first Spent l = tt

  -- the ways to go on

  pub ends : (f : Flow) → Local (Ends f)
  ends f = quiet f (λ s. s) (λ s. refl) (λ s. refl) (λ s. omega arith) (λ s m. refl)

  abbrev on_end : (State → Run) → Flow → State → Run
  on_end go Next s = go s
  on_end go Broke s = Ends Broke s
  on_end go Again s = Ends Again s
  on_end go Gone s = Ends Gone s

  pub and_then_local : (go next : State → Run) → Local go → Local next → Local (λ s. and_then (go s) next)
  and_then_local go next h k = as_run (λ s. and_then (go s) next) (λ s. followed (go s) (on_end next)) (λ s. same (go s)) (followed_local go (on_end next) h each_way)
    where
      each_way : (f : Flow) → Local (on_end next f)
      each_way Next = k
      each_way Broke = ends Broke
      each_way Again = ends Again
      each_way Gone = ends Gone

      same : (r : Run) → and_then r next ≡ followed r (on_end next)
      same (Ends Next s) = refl
      same (Ends Broke s) = refl
      same (Ends Again s) = refl
      same (Ends Gone s) = refl
      same Stops = refl
      same Spent = refl

  abbrev on_plain_end : (State → Run) → Flow → State → Run
  on_plain_end go Next s = go s
  on_plain_end go Broke s = Stops
  on_plain_end go Again s = Stops
  on_plain_end go Gone s = Stops

  pub plainly_then_local : (go next : State → Run) → Local go → Local next → Local (λ s. plainly_then (go s) next)
  plainly_then_local go next h k = as_run (λ s. plainly_then (go s) next) (λ s. followed (go s) (on_plain_end next)) (λ s. same (go s)) (followed_local go (on_plain_end next) h each_way)
    where
      each_way : (f : Flow) → Local (on_plain_end next f)
      each_way Next = k
      each_way Broke = stops
      each_way Again = stops
      each_way Gone = stops

      same : (r : Run) → plainly_then r next ≡ followed r (on_plain_end next)
      same (Ends Next s) = refl
      same (Ends Broke s) = refl
      same (Ends Again s) = refl
      same (Ends Gone s) = refl
      same Stops = refl
      same Spent = refl

  abbrev on_body_end : (State → Run) → Flow → State → Run
  on_body_end go Next s = go s
  on_body_end go Broke s = Ends Next s
  on_body_end go Again s = go s
  on_body_end go Gone s = Ends Gone s

  pub after_body_local : (go next : State → Run) → Local go → Local next → Local (λ s. after_body (go s) next)
  after_body_local go next h k = as_run (λ s. after_body (go s) next) (λ s. followed (go s) (on_body_end next)) (λ s. same (go s)) (followed_local go (on_body_end next) h each_way)
    where
      each_way : (f : Flow) → Local (on_body_end next f)
      each_way Next = k
      each_way Broke = ends Next
      each_way Again = k
      each_way Gone = ends Gone

      same : (r : Run) → after_body r next ≡ followed r (on_body_end next)
      same (Ends Next s) = refl
      same (Ends Broke s) = refl
      same (Ends Again s) = refl
      same (Ends Gone s) = refl
      same Stops = refl
      same Spent = refl

  abbrev on_scope_end : Flow → State → Run
  on_scope_end Next s = Ends Next s
  on_scope_end Broke s = Ends Broke s
  on_scope_end Again s = Ends Again s
  on_scope_end Gone s = Ends Next s

  pub left_scope_local : (go : State → Run) → Local go → Local (λ s. left_scope (go s))
  left_scope_local go h = as_run (λ s. left_scope (go s)) (λ s. followed (go s) on_scope_end) (λ s. same (go s)) (followed_local go on_scope_end h each_way)
    where
      each_way : (f : Flow) → Local (on_scope_end f)
      each_way Next = ends Next
      each_way Broke = ends Broke
      each_way Again = ends Again
      each_way Gone = ends Next

      same : (r : Run) → left_scope r ≡ followed r on_scope_end
      same (Ends Next s) = refl
      same (Ends Broke s) = refl
      same (Ends Again s) = refl
      same (Ends Gone s) = refl
      same Stops = refl
      same Spent = refl

  -- a round is taken
  pub after_round_local : (go : State → Run) → Local go → Local (λ s. after_round s.left s go)
  after_round_local go h s = step s.left refl
    where
      taken : (n : ℕ) → s.left ≡ suc n → (r : Run) → Along go (record s { left = n }) r → Along (λ x. after_round x.left x go) s r
      taken n e (Ends f t) l = record {
        new = l.new;
        kept = record { touches = l.kept.touches; allowed = l.kept.allowed; bytes = l.kept.bytes; left = omega (arith, l.kept.left, e) };
        again = λ m q. let r = l.again m q in record { mem = r.mem; ends = ap (λ x. after_round x (record s { mem = m }) go) e ∙ r.ends; written = r.written; rest = r.rest };
      }
      taken n e Stops l = tt
      taken n e Spent l = tt

      step : (n : ℕ) → s.left ≡ n → Along (λ x. after_round x.left x go) s (after_round n s go)
      step zero e = tt
      step (suc n) e = taken n e (go (record s { left = n })) (h (record s { left = n }))
