-- Definitions of values from k on, by numbers counted from k, and what they hold in a lane.
use Rattle.std.proofs.Common.{◌≡◌, ℕ, ◌+◌, ◌*◌, ◌/◌, ◌%◌, ◌^◌, ◌<◌, ◌≤◌, inl, inr, Bool, true, false, List, [], ◌∷◌, refl, sym, ap, ◌∙◌, arith}
use Rattle.std.specs.Prelude.{◌==◌, nat_lt, if◌then◌else◌, map}
use Rattle.std.proofs.Math.Nat.{div-le_self}
use Rattle.std.proofs.lemmas.Bool.{eq-eqb, eqb-true, eqb-false, ne_eqb, lt-ltb}
use Rattle.q_lane.specs.declared.operations.BinOp.{BinOp}
use Rattle.q_lane.specs.Numbers.{applied}
use Rattle.q_lane.proofs.WordLaws.{applied-below}
use Rattle.q_functions.specs.declared.functions.WorkFunction.{WorkFunction}
use Rattle.q_functions.specs.declared.functions.WorkFunction.TheVariants.{WorkDim, GlobalId, GlobalSize, LocalId, LocalSize, GroupId, NumGroups}
use Rattle.item_ir.specs.Memory.{with_at}
use Rattle.item_ir.specs.declared.form.Def.{Def}
use Rattle.item_ir.specs.declared.form.Def.TheVariants as d
use Rattle.lane_ir.specs.LaneMeaning.{World, State, Ends, value, work, defines, run_all}
use Rattle.lane_ir.specs.Kept.{IsWorld, Words}
use Rattle.lane_ir.specs.declared.form.LaneStmt.{LaneStmt}
use Rattle.lane_ir.proofs.Steps.{bool_cases, with_at-other, if_below, row_below}
use Rattle.lane_ir.specs.declared.form.LaneStmt.TheVariants.{Let}
use Rattle.lane_mapper.specs.Prolog.{val}

pub data Act : Type 0 where
  Const : ℕ → Act
  Two : BinOp → ℕ → ℕ → Act
  Size : WorkFunction → ℕ → Act
  Flat : Act
  Items : Act

pub record Step : Type 0 where
  pub to : ℕ
  pub act : Act

abbrev pub definition : ℕ → Act → Def
definition k (Const x) = d.Const x
definition k (Two o a b) = d.Bin o (val (k + a)) (val (k + b))
definition k (Size f a) = d.Work f (val (k + a))
definition k Flat = d.Flat
definition k Items = d.Items

abbrev pub statement : ℕ → Step → LaneStmt
statement k s = Let (val (k + s.to)) (definition k s.act)

abbrev pub statements : ℕ → List Step → List LaneStmt
statements k steps = map (statement k) steps

-- what an act gives in lane l, where y holds the values from k on
abbrev pub gives : World → ℕ → (ℕ → ℕ) → Act → ℕ
gives w l y (Const x) = x
gives w l y (Two o a b) = applied o (y a) (y b)
gives w l y (Size f a) = work w f (y a)
gives w l y Flat = (16 * w.batch + l) % 2 ^ 32
gives w l y Items = w.items

abbrev pub after : World → ℕ → (ℕ → ℕ) → List Step → ℕ → ℕ
after w l y [] = y
after w l y (s ∷ rest) = after w l (with_at y s.to (gives w l y s.act)) rest

-- an act over values below m
abbrev pub Named : ℕ → Act → Type 0
Named m (Const x) = x < 2 ^ 32
Named m (Two o a b) = (a < m) × (b < m)
Named m (Size f a) = a < m
Named m Flat = Unit {0}
Named m Items = Unit {0}

-- each defines a value below m from such values
pub data Within (m : ℕ) : List Step → Type 0 where
  none : Within m []
  more : (s : Step) (rest : List Step) → s.to < m → Named m s.act → Within m rest → Within m (s ∷ rest)

abbrev pub temps_of : State → ℕ → ℕ → ℕ → ℕ
temps_of s k l y = s.vals (k + y) l

place_same : (k x y : ℕ) → (k + x == k + y) ≡ (x == y)
place_same k x y = elim (bool_cases (x == y)) [
  | inl e ↦ eq-eqb (k + x) (k + y) (ap (λ z. k + z) (eqb-true x y e)) ∙ sym e
  | inr e ↦ ne_eqb (k + x) (k + y) (λ q. eqb-false x y e (omega (arith, q))) ∙ sym e
]

-- the state after steps that define values below k + m
pub record Ran (w : World) (n k m : ℕ) (steps : List Step) (s t : State) : Type 0 where
  pub temps : (l : ℕ) → l < n → (x : ℕ) → t.vals (k + x) l ≡ after w l (temps_of s k l) steps x
  pub old : (v : ℕ) → v < k → t.vals v ≡ s.vals v
  pub past : (v : ℕ) → k + m ≤ v → t.vals v ≡ s.vals v
  pub words : IsWorld w → Words (k + m) s → Words (k + m) t
  pub vars : t.vars ≡ s.vars
  pub arrays : t.arrays ≡ s.arrays
  pub mem : t.mem ≡ s.mem
  pub log : t.log ≡ s.log
  pub transfers : t.transfers ≡ s.transfers

module _ (w : World) (n i k m : ℕ) where
  act_is : (s : State) (l : ℕ) (a : Act) → value w s l (definition k a) ≡ gives w l (temps_of s k l) a
  act_is s l (Const x) = refl
  act_is s l (Two o a b) = refl
  act_is s l (Size f a) = refl
  act_is s l Flat = refl
  act_is s l Items = refl

  work_word : (f : WorkFunction) (d : ℕ) → IsWorld w → work w f d < 2 ^ 32
  work_word WorkDim d o = o.dims
  work_word GlobalId d o = omega arith
  work_word GlobalSize d o = if_below (nat_lt d 3) (w.global d) 1 (o.global d) (omega arith)
  work_word LocalId d o = omega arith
  work_word LocalSize d o = if_below (nat_lt d 3) (w.local d) 1 (o.local d) (omega arith)
  work_word GroupId d o = omega arith
  work_word NumGroups d o = if_below (nat_lt d 3) (w.global d / w.local d) 1 (let a = div-le_self (w.global d) (w.local d) in let b = o.global d in omega (arith, a, b)) (omega arith)

  first_temps : (s : State) (x : ℕ) (e : Def) (l : ℕ) → l < n → temps_of (defines w n (k + x) e s) k l ≡ with_at (temps_of s k l) x (value w s l e)
  first_temps s x e l h = λ z y. at y z
    where
      in_lane : (b : Bool) (y : ℕ) → (if b then (λ j. if nat_lt j n then value w s j e else 0) else s.vals (k + y)) l ≡ (if b then value w s l e else s.vals (k + y) l)
      in_lane true y = ap (λ b. if b then value w s l e else 0) (lt-ltb l n h)
      in_lane false y = refl

      at : (y : ℕ) → temps_of (defines w n (k + x) e s) k l y ≡ with_at (temps_of s k l) x (value w s l e) y
      at y = in_lane (k + y == k + x) y ∙ ap (λ b. if b then value w s l e else s.vals (k + y) l) (place_same k y x)

  act_word : (s : State) (l : ℕ) (a : Act) → Named m a → IsWorld w → Words (k + m) s → value w s l (definition k a) < 2 ^ 32
  act_word s l (Const x) h g x' = h
  act_word s l (Two o a b) h g x = applied-below o _ _ (x.vals (k + a) l (let p = h.0 in omega (arith, p))) (x.vals (k + b) l (let p = h.1 in omega (arith, p)))
  act_word s l (Size f a) h g x = work_word f (s.vals (k + a) l) g
  act_word s l Flat h g x = omega arith
  act_word s l Items h g x = g.items

  first_words : (s : State) (y : ℕ) (a : Act) → Named m a → IsWorld w → Words (k + m) s → Words (k + m) (defines w n (k + y) (definition k a) s)
  first_words s y a h g x = record {
    vals = λ v l q. row_below (v == k + y) (λ j. if nat_lt j n then value w s j (definition k a) else 0) (s.vals v) l
        (if_below (nat_lt l n) (value w s l (definition k a)) 0 (act_word s l a h g x) (omega arith)) (x.vals v l q);
    vars = x.vars;
    arrays = x.arrays;
  }

  pub steps_run : (steps : List Step) → Within m steps → (s : State) → (t : State) × (run_all w n i (statements k steps) s ≡ Ends t) × Ran w n k m steps s t
  steps_run [] h s = (s, refl, record { temps = λ l h x. refl; old = λ v h. refl; past = λ v h. refl; words = λ h m. m; vars = refl; arrays = refl; mem = refl; log = refl; transfers = refl })
  steps_run (a ∷ rest) (more _ _ lt q h) s =
      let e = definition k a.act in
      let s1 = defines w n (k + a.to) e s in
      let r = steps_run rest h s1 in
      let o = r.2 in (
        r.0,
        r.1,
        record {
          temps = λ l q x. o.temps l q x
              ∙ ap (λ f. after w l f rest x) (first_temps s a.to e l q)
              ∙ ap (λ z. after w l (with_at (temps_of s k l) a.to z) rest x) (act_is s l a.act);
          old = λ v q. o.old v q ∙ with_at-other s.vals (k + a.to) _ v (λ z. omega (arith, z, q));
          past = λ v q. o.past v q ∙ with_at-other s.vals (k + a.to) _ v (λ z. omega (arith, z, q, lt));
          words = λ g x. o.words g (first_words s a.to a.act q g x);
          vars = o.vars;
          arrays = o.arrays;
          mem = o.mem;
          log = o.log;
          transfers = o.transfers;
        },
      )
