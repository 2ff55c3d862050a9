-- What is known of a launch's items, as one more of them comes to its end.
use Rattle.std.proofs.Common.{arith, ◌≡◌, ℕ, suc, ◌+◌, ◌<◌, List, [], ◌∷◌, ◌++◌, length, refl, sym, ap, ◌∙◌, subst}
use Rattle.std.specs.Prelude.{Option, None, Some}
use Rattle.std.proofs.lemmas.List.{length_push}
use Rattle.launch_meaning.specs.declared.ends.Ended.{Ended}
use Rattle.launch_meaning.specs.declared.ends.ItemEnd.{ItemEnd}
use Rattle.launch_meaning.specs.declared.ends.ItemEnd.TheVariants.{Ends}
use Rattle.launch_meaning.specs.declared.verdict.Clash.{Clash}
use Rattle.launch_meaning.specs.declared.verdict.Verdict.{Verdict}
use Rattle.launch_meaning.specs.declared.verdict.Verdict.TheVariants.{Safe, Race, Bounds, Spent}
use Rattle.launch_meaning.specs.LaunchMeaning.{Item, AreRun, left_by, turns_of, IsLeastRace, IsVerdict}
use Rattle.touches.specs.declared.touch.Touch.{Touch}
use Rattle.touches.specs.Tells.{Tells, IsLeastRaceOf}
use Rattle.launch_verdict.specs.Ran.{Ran, IsVerdictOf}

left_more : (buffers : List (List ℕ)) (ended : List Ended) (one : Ended) → left_by buffers (ended ++ one ∷ []) ≡ one.buffers
left_more buffers [] one = refl
left_more buffers (e ∷ ended) one = left_more e.buffers ended one

turns_more : (ended : List Ended) (one : Ended) → turns_of (ended ++ one ∷ []) ≡ turns_of ended + one.turns
turns_more [] one = omega arith
turns_more (e ∷ ended) one = let more = turns_more ended one in omega (arith, more)

run_more : (item : Item) (turns first : ℕ) (buffers : List (List ℕ)) (ended : List Ended) (one : Ended) (n : ℕ) → n ≡ first + length ended
    → AreRun item turns first buffers ended → item n (left_by buffers ended) turns ≡ Ends one → AreRun item turns first buffers (ended ++ one ∷ [])
run_more item turns first buffers [] one n e r is =
    let same : n ≡ first = omega (arith, e) in
    (subst (λ (k : ℕ). item k buffers turns ≡ Ends one) same is, tt)
run_more item turns first buffers (x ∷ ended) one n e r is =
    (r.0, run_more item turns (suc first) x.buffers ended one n (omega (arith, e)) r.1 is)

module _ (item : Item) (turns : ℕ) (buffers : List (List ℕ)) where
  pub ran_more : (n : ℕ) (ended : List Ended) (left : List (List ℕ)) (rows new : List (List Touch)) (all : ℕ) (one : Ended)
      → Ran item turns buffers n ended left rows all → (e : ItemEnd) → e ≡ Ends one → e ≡ item n left turns → one.turns < 4294967296
      → Tells (ended ++ one ∷ []) new
      → Ran item turns buffers (n + 1) (ended ++ one ∷ []) one.buffers new (all + one.turns)
  ran_more n ended left rows new all one r e ends is small tells = record {
    many = length_push ended one ∙ ap (λ (k : ℕ). k + 1) r.many;
    run = run_more item turns 0 buffers ended one n (let m = r.many in omega (arith, m)) r.run
        (ap (λ (b : List (List ℕ)). item n b turns) r.left_is ∙ (sym is ∙ ends));
    left_is = left_more buffers ended one;
    tells = tells;
    all_is = turns_more ended one ∙ ap (λ (k : ℕ). k + one.turns) r.all_is;
    all_fits = let f = r.all_fits in omega (arith, f, small);
  }

  pub ran_all : (n items : ℕ) (ended : List Ended) (left : List (List ℕ)) (rows : List (List Touch)) (all : ℕ) (race : Option Clash) (v : Verdict)
      → Ran item turns buffers n ended left rows all → n ≡ items → IsLeastRaceOf ended race → IsVerdictOf race all left v
      → IsVerdict item items buffers turns v
  ran_all n items ended left rows all None (Safe t after) r e least is = (
    ended,
    record { many = r.many ∙ e; run = r.run; apart = least },
    is.0 ∙ sym r.all_is,
    is.1 ∙ sym r.left_is,
  )
  ran_all n items ended left rows all None (Race b x f g) r e least is = absurd is
  ran_all n items ended left rows all None (Bounds i at) r e least is = absurd is
  ran_all n items ended left rows all None (Spent i) r e least is = absurd is
  ran_all n items ended left rows all (Some c) (Safe t after) r e least is = absurd is
  ran_all n items ended left rows all (Some c) (Race b x f g) r e least is =
      (ended, r.many ∙ e, r.run, subst (λ (d : Clash). IsLeastRace ended d) is least)
  ran_all n items ended left rows all (Some c) (Bounds i at) r e least is = absurd is
  ran_all n items ended left rows all (Some c) (Spent i) r e least is = absurd is
