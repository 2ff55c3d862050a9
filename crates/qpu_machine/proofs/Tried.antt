-- A word that breaks a restriction.
use Rattle.std.specs.Prelude.{◌≡◌, ℕ, List}
use Rattle.std.specs.declared.option.Option.{Option}
use Rattle.std.specs.declared.option.Option.TheVariants.{Some}
use Rattle.std.proofs.Common.{ap, sym, ◌∙◌}
use Rattle.q_lane.specs.Vectors.{lane}
use Rattle.qpu_encode.specs.declared.form.Form.{Form}
use Rattle.qpu_rules.specs.declared.recent.Recent.{Recent}
use Rattle.qpu_rules.specs.Uses.{access_of}
use Rattle.qpu_rules.specs.Restrictions.{least_rule}
use Rattle.vpm_words.specs.Access.{Site, seen}
use Rattle.vpm_words.specs.Rules.{is_waiting}
use Rattle.vpm_words.specs.declared.state.Access.{Access}
use Rattle.vpm_words.specs.declared.state.Rule.{Rule}
use Rattle.vpm_words.specs.declared.state.Seen.{Seen}
use Rattle.vpm_words.specs.declared.state.Shared.{Shared}
use Rattle.qpu_machine.specs.declared.registers.Results.{Results}
use Rattle.qpu_machine.specs.declared.state.Effect.TheVariants as effect
use Rattle.qpu_machine.specs.declared.state.Counts.{Counts}
use Rattle.qpu_machine.specs.declared.state.Qpu.{Qpu}
use Rattle.qpu_machine.specs.Operations.{outgoing}
use Rattle.qpu_machine.specs.IssueStep.{recent, seen_by, judged, done, tried}

pub tried_broken : (g : Site) (f : Form) (q : Qpu) (s : Shared) (c : Counts) (r : Results)
    (access : Option Access) (out : List ℕ) (looked : Seen) (before : Recent) (k : ℕ) (found : Option Rule) (rule : Rule)
    → access ≡ access_of f → out ≡ outgoing f r → looked ≡ seen g q.ports s access (lane out 0) → before ≡ recent q → k ≡ g.number
    → found ≡ least_rule f before looked → found ≡ Some rule
    → effect.Broken rule k q.flow.place ≡ (tried g f q s c r).effect
unfolding tried seen_by
tried_broken g f q s c r access out looked before k found rule is_access is_out is_looked is_before is_number is_found is_rule =
    let value : ℕ = lane (outgoing f r) 0 in
    let there : Seen = seen g q.ports s (access_of f) value in
    let same : looked ≡ there =
    is_looked ∙ ap (λ o. seen g q.ports s access (lane o 0)) is_out ∙ ap (λ a. seen g q.ports s a value) is_access in
    let broken : least_rule f (recent q) there ≡ Some rule =
    ap (least_rule f (recent q)) (sym same) ∙ ap (λ b. least_rule f b looked) (sym is_before) ∙ sym is_found ∙ is_rule in
    ap (λ n. effect.Broken rule n q.flow.place) is_number
    ∙ sym (ap (λ o. (judged o (is_waiting (access_of f) there) g.number q s c (done g f q s c r)).effect) broken)
