-- The run of one QPU alone, with different contents.
use Rattle.std.proofs.Common.{◌≡◌, ℕ, ◌+◌, ◌^◌, ◌<◌, ◌≤◌, List, [], ◌∷◌, ◌++◌, length, get_or, refl, sym, ap, ◌∙◌, subst, inl, inr, arith, length-append, append_assoc, false}
use Rattle.std.specs.Prelude.{IfSome, ⊤}
use Rattle.std.specs.declared.option.Option.{Option}
use Rattle.std.specs.declared.option.Option.TheVariants.{Some, None}
use Rattle.vpm_words.specs.Access.{Site, Given, Demand, Private, Setup, Take, Give, ReadRow, WriteRow, StartLoad, StartStore, AwaitLoad, AwaitStore}
use Rattle.vpm_words.specs.declared.state.Element.{Element}
use Rattle.vpm_words.specs.declared.state.Rule.{Rule}
use Rattle.qpu_machine.specs.declared.state.Qpu.{Qpu}
use Rattle.qpu_machine.specs.MachineState.{MachineState}
use Rattle.qpu_machine.specs.SoloRun.{Want, Rests, Breaks, Wants, want, Sharing, Change, Deed, Ended, Works, Loads, Stores, deed, elements_started, Note, Made, with_change, made_after, change_after, Solo, does, alone, solo, AreGiven, broken_by, IsOneWord, KeepsApart, IsClean, AnyCovers, StoresByte, Changes}
use Rattle.solo_law.specs.Laws.{cost, GoesOn}
use Rattle.solo_law.proofs.Elements.{store_all_length}
use Rattle.solo_law.proofs.Changes.{overlaid_length, AreSmall}

does_size : (x : Sharing) (code : List ℕ) (g : Site) (w : Want) (v : Given) (s : Solo) → length (does x code g w v s).memory ≡ length s.memory
does_size x code g Rests v s = refl
does_size x code g (Breaks rule) v s = refl
does_size x code g (Wants (Private late)) v s = refl
does_size x code g (Wants (Setup late)) v s = refl
does_size x code g (Wants Take) v s = overlaid_length x.is_shared 0 v.memory s.memory
does_size x code g (Wants Give) v s = refl
does_size x code g (Wants (ReadRow row late)) v s = refl
does_size x code g (Wants (WriteRow row words late)) v s = refl
does_size x code g (Wants (StartLoad es late)) v s = refl
does_size x code g (Wants (StartStore es late)) v s = store_all_length es s.shared.vpm s.memory
does_size x code g (Wants AwaitLoad) v s = refl
does_size x code g (Wants AwaitStore) v s = refl

pub valid_append : (size : ℕ) (us vs : List Given) → AreGiven size us → AreGiven size vs → AreGiven size (us ++ vs)
valid_append size [] vs g h = h
valid_append size (u ∷ us) vs g h = (g.0, valid_append size us vs g.1 h)

swapped : (us vs : List Given) → length (us ++ vs) ≡ length (vs ++ us)
swapped us vs = omega (arith, length-append us vs, length-append vs us)

-- what a word costs, and what it adds to notes and changes, by what is seen of it
abbrev price : Deed → ℕ
price Ended = 0
price Works = 1
price (Loads es) = 1 + length es
price (Stores es) = 1 + length es

abbrev noted : Deed → ℕ → List Note → List Note
noted Ended place ns = ns
noted Works place ns = record { place = place; deed = Works } ∷ ns
noted (Loads es) place ns = record { place = place; deed = Loads es } ∷ ns
noted (Stores es) place ns = record { place = place; deed = Stores es } ∷ ns

abbrev made : Deed → Option Change → List Made → List Made
made (Stores es) c ms = with_change c es ms
made Ended c ms = ms
made Works c ms = ms
made (Loads es) c ms = ms

-- a word that breaks a rule by itself isn't done
abbrev IsSound : Want → Type 0
IsSound Rests = ⊤
IsSound (Breaks rule) = ⊥
IsSound (Wants d) = ⊤

price_is : (d : Demand) → price (deed (Wants d)) ≡ 1 + length (elements_started (Wants d))
price_is (Private late) = refl
price_is (Setup late) = refl
price_is Take = refl
price_is Give = refl
price_is (ReadRow row late) = refl
price_is (WriteRow row words late) = refl
price_is (StartLoad es late) = refl
price_is (StartStore es late) = refl
price_is AwaitLoad = refl
price_is AwaitStore = refl

note_is : (d : Demand) (place : ℕ) (ns : List Note) → record { place = place; deed = deed (Wants d) } ∷ ns ≡ noted (deed (Wants d)) place ns
note_is (Private late) place ns = refl
note_is (Setup late) place ns = refl
note_is Take place ns = refl
note_is Give place ns = refl
note_is (ReadRow row late) place ns = refl
note_is (WriteRow row words late) place ns = refl
note_is (StartLoad es late) place ns = refl
note_is (StartStore es late) place ns = refl
note_is AwaitLoad place ns = refl
note_is AwaitStore place ns = refl

made_is : (d : Demand) (c : Option Change) (ms : List Made) → made_after (Wants d) c ms ≡ made (deed (Wants d)) c ms
made_is (Private late) c ms = refl
made_is (Setup late) c ms = refl
made_is Take c ms = refl
made_is Give c ms = refl
made_is (ReadRow row late) c ms = refl
made_is (WriteRow row words late) c ms = refl
made_is (StartLoad es late) c ms = refl
made_is (StartStore es late) c ms = refl
made_is AwaitLoad c ms = refl
made_is AwaitStore c ms = refl

module _ (x : Sharing) (code : List ℕ) (g : Site) (w : MachineState) (q : Qpu) where
  abbrev run : List Given → Solo
  run vs = solo x code g (alone w q) vs

  abbrev next : List Given → Want
  next vs = want code g (run vs).qpu

  pub solo_size : (vs : List Given) → length (run vs).memory ≡ length w.memory
  unfolding solo
  solo_size [] = refl
  solo_size (v ∷ vs) = does_size x code g (next vs) v (run vs) ∙ solo_size vs

  -- a run that has ended stays as it is
  pub ended_pad : (us vs : List Given) → next vs ≡ Rests → run (us ++ vs) ≡ run vs
  unfolding solo
  ended_pad [] vs h = refl
  ended_pad (u ∷ us) vs h =
      ap (λ s. does x code g (want code g s.qpu) u s) (ended_pad us vs h) ∙ ap (λ d. does x code g d u (run vs)) h

  does_cost : (d : Want) (v : Given) (s : Solo) → IsSound d → cost (does x code g d v s) ≡ cost s + price (deed d)
  does_cost Rests v s h = omega arith
  does_cost (Breaks rule) v s h = absurd h
  does_cost (Wants d) v s h = let p = price_is d in omega arith

  cost_least : (d : Want) (v : Given) (s : Solo) → cost s ≤ cost (does x code g d v s)
  cost_least Rests v s = omega arith
  cost_least (Breaks rule) v s = omega arith
  cost_least (Wants d) v s = omega arith

  does_notes : (d : Want) (v : Given) (s : Solo) → GoesOn (does x code g d v s).notes s.notes
  does_notes Rests v s = ([], refl)
  does_notes (Breaks rule) v s = ([], refl)
  does_notes (Wants d) v s = (_ ∷ [], refl)

  notes_grow : (us vs : List Given) → GoesOn (run (us ++ vs)).notes (run vs).notes
  unfolding solo
  notes_grow [] vs = ([], refl)
  notes_grow (u ∷ us) vs =
      let r = notes_grow us vs in
      let d = does_notes (next (us ++ vs)) u (run (us ++ vs)) in
      (d.0 ++ r.0, d.1 ∙ ap (λ l. d.0 ++ l) r.1 ∙ sym (append_assoc d.0 r.0 (run vs).notes))

  cost_grows : (us vs : List Given) → cost (run vs) ≤ cost (run (us ++ vs))
  unfolding solo
  cost_grows [] vs = omega arith
  cost_grows (u ∷ us) vs =
      let r = cost_grows us vs in
      let d = cost_least (next (us ++ vs)) u (run (us ++ vs)) in
      omega arith

  notes_by : (d : Want) (v : Given) (s : Solo) → IsSound d → (does x code g d v s).notes ≡ noted (deed d) s.qpu.flow.place s.notes
  notes_by Rests v s h = refl
  notes_by (Breaks rule) v s h = absurd h
  notes_by (Wants d) v s h = note_is d s.qpu.flow.place s.notes

  made_by : (d : Want) (v : Given) (s : Solo) → (does x code g d v s).made ≡ made (deed d) s.change s.made
  made_by Rests v s = refl
  made_by (Breaks rule) v s = refl
  made_by (Wants d) v s = made_is d s.change s.made

  module _ (clean : IsClean x code g (alone w q)) where
    sound_of : (d : Want) (s : Solo) → broken_by d g.number s.shared ≡ None → IsSound d
    sound_of Rests s h = tt
    sound_of (Breaks rule) s h = cc
    sound_of (Wants d) s h = tt

    sound : (vs : List Given) → AreGiven (length w.memory) vs → IsSound (next vs)
    sound vs y = sound_of (next vs) (run vs) (clean.fine vs y).unbroken

    cost_alike : (us vs : List Given) → AreGiven (length w.memory) us → AreGiven (length w.memory) vs → length us ≡ length vs → cost (run us) ≡ cost (run vs)
    unfolding solo
    cost_alike [] [] y h l = refl
    cost_alike [] (v ∷ vs) y h l = absurd (omega arith)
    cost_alike (u ∷ us) [] y h l = absurd (omega arith)
    cost_alike (u ∷ us) (v ∷ vs) y h l =
        let l' : length us ≡ length vs = omega arith in
        let a = ap price (clean.alike us vs y.1 h.1 l').deed in
        let r = cost_alike us vs y.1 h.1 l' in
        let d = does_cost (next us) u (run us) (sound us y.1) in
        let e = does_cost (next vs) v (run vs) (sound vs h.1) in
        omega arith

    -- no run costs more than one that has ended
    pub cost_most : (us vs : List Given) → AreGiven (length w.memory) us → AreGiven (length w.memory) vs → next us ≡ Rests → cost (run vs) ≤ cost (run us)
    cost_most us vs y h e =
        let r = cost_grows us vs in
        let a = cost_alike (us ++ vs) (vs ++ us) (valid_append (length w.memory) us vs y h) (valid_append (length w.memory) vs us h y) (swapped us vs) in
        let z = ap cost (ended_pad vs us e) in
        omega arith

    -- two runs that have ended leave the same memory, but for shared bytes
    pub same_end : (us vs : List Given) → AreGiven (length w.memory) us → AreGiven (length w.memory) vs → next us ≡ Rests → next vs ≡ Rests
        → (a : ℕ) → x.is_shared a ≡ false → get_or (run us).memory a 0 ≡ get_or (run vs).memory a 0
    same_end us vs y h e f a s =
        let m = (clean.alike (vs ++ us) (us ++ vs) (valid_append (length w.memory) vs us h y) (valid_append (length w.memory) us vs y h) (swapped vs us)).memory a s in
        ap (λ s. get_or s.memory a 0) (sym (ended_pad vs us e)) ∙ m ∙ ap (λ s. get_or s.memory a 0) (ended_pad us vs f)

    notes_alike : (us vs : List Given) → AreGiven (length w.memory) us → AreGiven (length w.memory) vs → length us ≡ length vs → (run us).notes ≡ (run vs).notes
    unfolding solo
    notes_alike [] [] y h l = refl
    notes_alike [] (v ∷ vs) y h l = absurd (omega arith)
    notes_alike (u ∷ us) [] y h l = absurd (omega arith)
    notes_alike (u ∷ us) (v ∷ vs) y h l =
        let l' : length us ≡ length vs = omega arith in
        let a = clean.alike us vs y.1 h.1 l' in
        let both : noted (deed (next us)) (run us).qpu.flow.place (run us).notes ≡ noted (deed (next vs)) (run vs).qpu.flow.place (run vs).notes =
        rw (a.deed, a.place, notes_alike us vs y.1 h.1 l') refl in
        notes_by (next us) u (run us) (sound us y.1) ∙ both ∙ sym (notes_by (next vs) v (run vs) (sound vs h.1))

    -- a run that has ended did what any other did, and more
    pub notes_most : (us vs : List Given) → AreGiven (length w.memory) us → AreGiven (length w.memory) vs → next us ≡ Rests → GoesOn (run us).notes (run vs).notes
    notes_most us vs y h e =
        let r = notes_grow us vs in
        let a = notes_alike (us ++ vs) (vs ++ us) (valid_append (length w.memory) us vs y h) (valid_append (length w.memory) vs us h y) (swapped us vs) in
        let z = ap (λ s. s.notes) (ended_pad vs us e) in
        (r.0, sym z ∙ sym a ∙ r.1)

    made_alike : (us vs : List Given) → AreGiven (length w.memory) us → AreGiven (length w.memory) vs → length us ≡ length vs → (run us).made ≡ (run vs).made
    unfolding solo
    made_alike [] [] y h l = refl
    made_alike [] (v ∷ vs) y h l = absurd (omega arith)
    made_alike (u ∷ us) [] y h l = absurd (omega arith)
    made_alike (u ∷ us) (v ∷ vs) y h l =
        let l' : length us ≡ length vs = omega arith in
        let a = clean.alike us vs y.1 h.1 l' in
        let both : made (deed (next us)) (run us).change (run us).made ≡ made (deed (next vs)) (run vs).change (run vs).made =
        rw (a.deed, a.change, made_alike us vs y.1 h.1 l') refl in
        made_by (next us) u (run us) ∙ both ∙ sym (made_by (next vs) v (run vs))

    -- two runs that have ended made the same changes
    pub same_made : (us vs : List Given) → AreGiven (length w.memory) us → AreGiven (length w.memory) vs → next us ≡ Rests → next vs ≡ Rests → (run us).made ≡ (run vs).made
    same_made us vs y h e f =
        ap (λ s. s.made) (sym (ended_pad vs us e))
        ∙ made_alike (vs ++ us) (us ++ vs) (valid_append (length w.memory) vs us h y) (valid_append (length w.memory) us vs y h) (swapped vs us)
        ∙ ap (λ s. s.made) (ended_pad us vs f)

    -- ---- each change that was made is in the footprint, and its operand is a word

    abbrev IsSmall : Option Change → Type 0
    IsSmall o = IfSome o (λ c. c.operand < 2 ^ 32)

    change_small : (d : Want) (n : ℕ) (c : Option Change) → ((n : ℕ) → IsSmall (x.change n)) → IsSmall c → IsSmall (change_after x d n c)
    change_small Rests n c h s = s
    change_small (Breaks rule) n c h s = s
    change_small (Wants (Private late)) n c h s = s
    change_small (Wants (Setup late)) n c h s = s
    change_small (Wants Take) n c h s = h n
    change_small (Wants Give) n c h s = s
    change_small (Wants (ReadRow row late)) n c h s = s
    change_small (Wants (WriteRow row words late)) n c h s = s
    change_small (Wants (StartLoad es late)) n c h s = s
    change_small (Wants (StartStore es late)) n c h s = s
    change_small (Wants AwaitLoad) n c h s = s
    change_small (Wants AwaitStore) n c h s = s

    does_small : (d : Want) (v : Given) (s : Solo) → ((n : ℕ) → IsSmall (x.change n)) → IsSmall s.change → IsSmall (does x code g d v s).change
    does_small Rests v s h o = o
    does_small (Breaks rule) v s h o = o
    does_small (Wants d) v s h o = change_small (Wants d) s.sections s.change h o

    small_at : ((n : ℕ) → IsSmall (x.change n)) → (vs : List Given) → IsSmall (run vs).change
    unfolding solo
    small_at h [] = tt
    small_at h (v ∷ vs) = does_small (next vs) v (run vs) h (small_at h vs)

    with_small : (c : Option Change) (es : List Element) (ms : List Made) → IsSmall c → AreSmall ms → AreSmall (with_change c es ms)
    with_small None es ms s h = h
    with_small (Some c) [] ms s h = h
    with_small (Some c) (e ∷ es) ms s h = (s, h)

    made_small-by : (d : Deed) (c : Option Change) (ms : List Made) → IsSmall c → AreSmall ms → AreSmall (made d c ms)
    made_small-by (Stores es) c ms s h = with_small c es ms s h
    made_small-by Ended c ms s h = h
    made_small-by Works c ms s h = h
    made_small-by (Loads es) c ms s h = h

    pub made_small : ((n : ℕ) → IsSmall (x.change n)) → (vs : List Given) → AreSmall (run vs).made
    unfolding solo
    made_small h [] = tt
    made_small h (v ∷ vs) =
        subst AreSmall (sym (made_by (next vs) v (run vs))) (made_small-by (deed (next vs)) (run vs).change (run vs).made (small_at h vs) (made_small h vs))

    abbrev pub AreKnown : List Made → Type 0
    AreKnown [] = ⊤
    AreKnown (m ∷ ms) = Changes x code g (alone w q) m.address m.change × AreKnown ms

    -- a store in a section that changes
    known_store : (vs : List Given) → AreGiven (length w.memory) vs → (es : List Element) (late : Option Rule) → next vs ≡ Wants (StartStore es late)
        → (c : Change) → (run vs).change ≡ Some c → IsOneWord es → AreKnown (run vs).made → AreKnown (with_change (Some c) es (run vs).made)
    known_store vs y [] late ed c ec one h = absurd one
    known_store vs y (e ∷ []) late ed c ec one h =
        let here : AnyCovers (e ∷ []) e.address = inl (let s = one.0 in (omega arith, omega arith)) in
        (record { contents = vs; valid = y; change = ec; here = inr (subst (λ d. StoresByte d e.address) (sym ed) here) }, h)
    known_store vs y (e ∷ (f ∷ es)) late ed c ec one h = absurd one

    known_more : (vs : List Given) → AreGiven (length w.memory) vs → (d : Want) → next vs ≡ d → (o : Option Change) → (run vs).change ≡ o
        → KeepsApart x d (run vs) o → AreKnown (run vs).made → AreKnown (made (deed d) o (run vs).made)
    known_more vs y (Wants (StartStore es late)) ed None eo f h = h
    known_more vs y (Wants (StartStore es late)) ed (Some c) eo f h = known_store vs y es late ed c eo f.0 h
    known_more vs y Rests ed o eo f h = h
    known_more vs y (Breaks rule) ed o eo f h = h
    known_more vs y (Wants (Private late)) ed o eo f h = h
    known_more vs y (Wants (Setup late)) ed o eo f h = h
    known_more vs y (Wants Take) ed o eo f h = h
    known_more vs y (Wants Give) ed o eo f h = h
    known_more vs y (Wants (ReadRow row late)) ed o eo f h = h
    known_more vs y (Wants (WriteRow row words late)) ed o eo f h = h
    known_more vs y (Wants (StartLoad es late)) ed o eo f h = h
    known_more vs y (Wants AwaitLoad) ed o eo f h = h
    known_more vs y (Wants AwaitStore) ed o eo f h = h

    pub made_known : (vs : List Given) → AreGiven (length w.memory) vs → AreKnown (run vs).made
    unfolding solo
    made_known [] y = tt
    made_known (v ∷ vs) y =
        subst AreKnown (sym (made_by (next vs) v (run vs)))
        (known_more vs y.1 (next vs) refl (run vs).change refl (clean.fine vs y.1).apart (made_known vs y.1))
