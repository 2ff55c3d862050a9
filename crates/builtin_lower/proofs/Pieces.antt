-- A recipe that is added piece by piece.
use Rattle.std.proofs.Common.{◌≡◌, ℕ, List, [], ◌∷◌, ◌++◌, refl, sym, ap, ◌∙◌, append_assoc}
use Rattle.item_ir.specs.declared.form.Val.{Val}
use Rattle.lane_ir.specs.Recipe.{statement, statements, defining}
use Rattle.lane_ir.specs.declared.form.LaneStmt.{LaneStmt}
use Rattle.lane_ir.specs.declared.recipe.Act.{Act}
use Rattle.lane_ir.specs.declared.recipe.Step.{Step}

module _ (k : ℕ) (args : List Val) where
  pub statements-append : (a b : List Step) → statements k args (a ++ b) ≡ statements k args a ++ statements k args b
  statements-append [] b = refl
  statements-append (s ∷ a) b = ap (λ z. statement k args s ∷ z) (statements-append a b)

  pub then_last : (old : List LaneStmt) (a : List Step) (last : Act) (v : ℕ) → old ++ statements k args a ++ defining k args [] last v ≡ old ++ defining k args a last v
  then_last old a last v = append_assoc old (statements k args a) (defining k args [] last v)

  pub then_more : (old : List LaneStmt) (a b : List Step) → old ++ statements k args a ++ statements k args b ≡ old ++ statements k args (a ++ b)
  then_more old a b = append_assoc old (statements k args a) (statements k args b) ∙ ap (λ z. old ++ z) (sym (statements-append a b))
