-- Recipes: what a definition becomes, as steps over its arguments and over temporary values.
use Rattle.std.specs.Prelude.{ℕ, ◌+◌, ◌*◌, ◌%◌, ◌^◌, List, [], ◌∷◌, ◌++◌, map, get_or}
use Rattle.q_lane.specs.Numbers.{applied, applied_one}
use Rattle.item_ir.specs.declared.form.Val.{Val}
use Rattle.item_ir.specs.declared.form.Def.{Def}
use Rattle.item_ir.specs.declared.form.Def.TheVariants.{Const as Consts, Work, Bin, One as Ones, Choose as Chooses, Flat as Flats, Items as Itemss}
use Rattle.item_ir.specs.Memory.{with_at}
use Rattle.lane_ir.specs.Weights.{done}
use Rattle.lane_ir.specs.LaneMeaning.{World, chosen, work}
use Rattle.lane_ir.specs.declared.form.LaneStmt.{LaneStmt}
use Rattle.lane_ir.specs.declared.form.LaneStmt.TheVariants.{Let}
use Rattle.lane_ir.specs.declared.recipe.Source.{Source}
use Rattle.lane_ir.specs.declared.recipe.Source.TheVariants.{Argument, Temp}
use Rattle.lane_ir.specs.declared.recipe.Act.{Act}
use Rattle.lane_ir.specs.declared.recipe.Act.TheVariants.{Const, Two, One, Choose, Size, Flat, Items}
use Rattle.lane_ir.specs.declared.recipe.Step.{Step}

abbrev pub no_val : Val
no_val = record { 0 = 0 }

-- the value that a source is, where these are the arguments and k is the first temporary value
abbrev pub source : ℕ → List Val → Source → Val
source k args (Argument i) = get_or args i no_val
source k args (Temp i) = record { 0 = k + i }

abbrev pub definition : ℕ → List Val → Act → Def
definition k args (Const x) = Consts x
definition k args (Two op a b) = Bin op (source k args a) (source k args b)
definition k args (One op a) = Ones op (source k args a)
definition k args (Choose c a b) = Chooses (source k args c) (source k args a) (source k args b)
definition k args (Size which d) = Work which (source k args d)
definition k args Flat = Flats
definition k args Items = Itemss

abbrev pub statement : ℕ → List Val → Step → LaneStmt
statement k args s = Let (record { 0 = k + s.to }) (definition k args s.act)

-- the statements of a recipe
abbrev pub statements : ℕ → List Val → List Step → List LaneStmt
statements k args steps = map (statement k args) steps

-- the statements of a recipe whose last act defines value v
abbrev pub defining : ℕ → List Val → List Step → Act → ℕ → List LaneStmt
defining k args steps last v = statements k args steps ++ Let (record { 0 = v }) (definition k args last) ∷ []

-- what a source holds in a lane whose arguments are x and whose temporaries are y
abbrev pub held : (ℕ → ℕ) → (ℕ → ℕ) → Source → ℕ
held x y (Argument i) = x i
held x y (Temp i) = y i

abbrev pub gives : World → ℕ → (ℕ → ℕ) → (ℕ → ℕ) → Act → ℕ
gives w l x y (Const c) = c
gives w l x y (Two op a b) = applied op (held x y a) (held x y b)
gives w l x y (One op a) = applied_one op (held x y a)
gives w l x y (Choose c a b) = chosen (held x y c) (held x y a) (held x y b)
gives w l x y (Size which d) = work w which (held x y d)
gives w l x y Flat = (16 * w.batch + l) % 2 ^ 32
gives w l x y Items = w.items

-- the temporaries after a recipe
abbrev pub after : World → ℕ → (ℕ → ℕ) → (ℕ → ℕ) → List Step → ℕ → ℕ
after w l x y [] = y
after w l x y (s ∷ rest) = after w l x (with_at y s.to (gives w l x y s.act)) rest

-- the operations done
abbrev pub cost : List Val → List Step → ℕ
cost args [] = 0
cost args (s ∷ rest) = done (definition 0 args s.act) + cost args rest
