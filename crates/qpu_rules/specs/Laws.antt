-- What shows that the definitions fit together.
use Rattle.std.specs.Prelude.{◌≡◌, true, Some}
use Rattle.qpu_encode.specs.declared.form.Form.{Form}
use Rattle.qpu_rules.specs.Restrictions.{least_rule, least_early, least_late, or_rule}
use Rattle.qpu_rules.specs.Uses.{access_of, reads_uniform}
use Rattle.qpu_rules.specs.declared.recent.Recent.{Recent}
use Rattle.vpm_words.specs.declared.state.Access.TheVariants.{Uniform}
use Rattle.vpm_words.specs.declared.state.Seen.{Seen}

-- the least broken rule is that of the QPU's own words and uniforms, and where there is none, that of the word's one access
abbrev pub EarlyFirst : Type 0
EarlyFirst = (f : Form) (r : Recent) (s : Seen) → least_rule f r s ≡ or_rule (least_early f r s.uniforms) (least_late (access_of f) r.age s)

-- a word whose one access is a uniform reads one
abbrev pub UniformIsRead : Type 0
UniformIsRead = (f : Form) → access_of f ≡ Some Uniform → reads_uniform f ≡ true
