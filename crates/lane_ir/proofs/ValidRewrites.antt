-- The result of a pass of definitions names only what is there, with the values that the pass adds.
use Rattle.std.proofs.Common.{◌≡◌, ℕ, zero, suc, ◌+◌, ◌^◌, ◌<◌, Bool, true, List, [], ◌∷◌, ◌++◌, refl, ap, ◌∙◌, arith, get_or}
use Rattle.std.specs.Prelude.{◌&&◌, nat_lt}
use Rattle.std.proofs.lemmas.Bool.{and_from, and_parts, lt-ltb, ltb-true}
use Rattle.item_ir.specs.declared.form.Val.{Val}
use Rattle.item_ir.specs.declared.form.Def.{Def}
use Rattle.item_ir.specs.declared.form.Def.TheVariants as def
use Rattle.lane_ir.specs.Valid.{Counts, is_val, are_vals, is_size, is_def, is_stmt, is_row, is_body, more}
use Rattle.lane_ir.specs.Kept.{rewritten, rewritten_row, rewritten_all}
use Rattle.lane_ir.specs.Recipe.{no_val, source, definition, statements, defining}
use Rattle.lane_ir.specs.declared.recipe.Source.{Source}
use Rattle.lane_ir.specs.declared.recipe.Source.TheVariants.{Argument, Temp}
use Rattle.lane_ir.specs.declared.recipe.Act.{Act}
use Rattle.lane_ir.specs.declared.recipe.Act.TheVariants.{Const, Two, One, Choose, Size, Flat, Items}
use Rattle.lane_ir.specs.declared.recipe.Step.{Step}
use Rattle.lane_ir.specs.declared.form.LaneStmt.{LaneStmt, Row_of-LaneStmt, end_of-LaneStmt, more_of-LaneStmt, items-the_row-LaneStmt, items_hidden-the_row-LaneStmt-0}
use Rattle.lane_ir.specs.declared.form.LaneStmt.TheBlock.{hidden-the_row-LaneStmt-0}
use Rattle.lane_ir.specs.declared.form.LaneStmt.TheVariants.{Let, Put, Load, Store, GetElement, PutElement, Clear, WhileAny, WhileAny'}
use Rattle.lane_ir.proofs.Recipes.{Low}

module _ (c : Counts) where
  row_items : {k : _} (r : Row_of-LaneStmt k) → is_row c r ≡ is_body c (items-the_row-LaneStmt k r)
  row_items end_of-LaneStmt = refl
  row_items (more_of-LaneStmt a rest) = ap (λ x. is_stmt c a && x) (row_items rest)

  of_list : (l : List LaneStmt) → is_row c (hidden-the_row-LaneStmt-0 l) ≡ is_body c l
  of_list l = row_items (hidden-the_row-LaneStmt-0 l) ∙ ap (is_body c) (items_hidden-the_row-LaneStmt-0 l)

  pub is_stmt-WhileAny : (a : List LaneStmt) (m : Val) (b : List LaneStmt) → is_stmt c (WhileAny a m b) ≡ (is_val c m && (is_body c a && is_body c b))
  is_stmt-WhileAny a m b = λ i. is_val c m && (of_list a i && of_list b i)

  pub is_body-append : (a b : List LaneStmt) → is_body c a ≡ true → is_body c b ≡ true → is_body c (a ++ b) ≡ true
  is_body-append [] b h g = g
  is_body-append (s ∷ a) b h g = let p = and_parts (is_stmt c s) (is_body c a) h in and_from (is_stmt c s) (is_body c (a ++ b)) p.0 (is_body-append a b p.1 g)

  -- values and definitions with more values
  pub more_val : (n : ℕ) (v : Val) → is_val c v ≡ true → is_val (more c n) v ≡ true
  more_val n v h = let p = ltb-true v.0 c.vals h in lt-ltb v.0 (c.vals + n) (omega (arith, p))

  more_vals : (n : ℕ) (l : List Val) → are_vals c l ≡ true → are_vals (more c n) l ≡ true
  more_vals n [] h = refl
  more_vals n (a ∷ l) h = let p = and_parts (is_val c a) (are_vals c l) h in and_from (is_val (more c n) a) (are_vals (more c n) l) (more_val n a p.0) (more_vals n l p.1)

  two : (n : ℕ) (a b : Val) → (is_val c a && is_val c b) ≡ true → (is_val (more c n) a && is_val (more c n) b) ≡ true
  two n a b h = let p = and_parts (is_val c a) (is_val c b) h in and_from (is_val (more c n) a) (is_val (more c n) b) (more_val n a p.0) (more_val n b p.1)

  three : (n : ℕ) (a b d : Val) → (is_val c a && (is_val c b && is_val c d)) ≡ true → (is_val (more c n) a && (is_val (more c n) b && is_val (more c n) d)) ≡ true
  three n a b d h = let p = and_parts (is_val c a) (is_val c b && is_val c d) h in and_from (is_val (more c n) a) (is_val (more c n) b && is_val (more c n) d) (more_val n a p.0) (two n b d p.1)

  -- a test that doesn't hang on the values, and one that does
  beside : (x y z : Bool) → (x && y) ≡ true → (y ≡ true → z ≡ true) → (x && z) ≡ true
  beside x y z h g = let p = and_parts x y h in and_from x z p.0 (g p.1)

  pub more_def : (n : ℕ) (d : Def) → is_def c d ≡ true → is_def (more c n) d ≡ true
  more_def n (def.Const x) h = h
  more_def n (def.Param x) h = h
  more_def n (def.Work which d) h = beside (is_size which) (is_val c d) (is_val (more c n) d) h (λ e. more_val n d e)
  more_def n (def.Get x) h = h
  more_def n (def.Bin o a b) h = two n a b h
  more_def n (def.One o a) h = more_val n a h
  more_def n (def.Built k t args) h = more_vals n args h
  more_def n (def.Choose a b d) h = three n a b d h
  more_def n (def.Load t a) h = h
  more_def n (def.Element a i) h = h
  more_def n def.Flat h = h
  more_def n def.Items h = h

module _ (c : Counts) (n : ℕ) (f : ℕ → Def → List LaneStmt) (made : (v : Val) (d : Def) → is_val c v ≡ true → is_def c d ≡ true → is_body (more c n) (f v.0 d) ≡ true) where
  alone : (a : LaneStmt) → is_stmt (more c n) a ≡ true → is_body (more c n) (a ∷ []) ≡ true
  alone a h = and_from (is_stmt (more c n) a) true h refl

  mutual
    stmt_valid : (a : LaneStmt) → is_stmt c a ≡ true → is_body (more c n) (rewritten f a) ≡ true
    stmt_valid (Let v d) h = let p = and_parts (is_val c v) (is_def c d) h in made v d p.0 p.1
    stmt_valid (Put v x m) h = alone (Put v x m) (beside c (nat_lt v c.vars) (is_val c x && is_val c m) (is_val (more c n) x && is_val (more c n) m) h (λ e. two c n x m e))
    stmt_valid (Load t d a m) h = alone (Load t d a m) (three c n d a m h)
    stmt_valid (Store t a x m) h = alone (Store t a x m) (three c n a x m h)
    stmt_valid (GetElement r d j m) h = alone (GetElement r d j m) (beside c (nat_lt r c.arrays) (is_val c d && (is_val c j && is_val c m)) (is_val (more c n) d && (is_val (more c n) j && is_val (more c n) m)) h (λ e. three c n d j m e))
    stmt_valid (PutElement r j x m) h = alone (PutElement r j x m) (beside c (nat_lt r c.arrays) (is_val c j && (is_val c x && is_val c m)) (is_val (more c n) j && (is_val (more c n) x && is_val (more c n) m)) h (λ e. three c n j x m e))
    stmt_valid (Clear r m) h = alone (Clear r m) (beside c (nat_lt r c.arrays) (is_val c m) (is_val (more c n) m) h (λ e. more_val c n m e))
    stmt_valid (WhileAny' u head m b body) h =
        let p = and_parts (is_val c m) (is_row c head && is_row c body) h in
        let q = and_parts (is_row c head) (is_row c body) p.1 in
        alone (WhileAny (rewritten_row f head) m (rewritten_row f body))
        (is_stmt-WhileAny (more c n) (rewritten_row f head) m (rewritten_row f body)
        ∙ and_from (is_val (more c n) m) (is_body (more c n) (rewritten_row f head) && is_body (more c n) (rewritten_row f body)) (more_val c n m p.0)
        (and_from (is_body (more c n) (rewritten_row f head)) (is_body (more c n) (rewritten_row f body)) (row_valid head q.0) (row_valid body q.1)))

    row_valid : {u : _} (r : Row_of-LaneStmt u) → is_row c r ≡ true → is_body (more c n) (rewritten_row f r) ≡ true
    row_valid end_of-LaneStmt h = refl
    row_valid (more_of-LaneStmt a rest) h = let p = and_parts (is_stmt c a) (is_row c rest) h in is_body-append (more c n) (rewritten f a) (rewritten_row f rest) (stmt_valid a p.0) (row_valid rest p.1)

  pub all_valid : (l : List LaneStmt) → is_body c l ≡ true → is_body (more c n) (rewritten_all f l) ≡ true
  all_valid [] h = refl
  all_valid (a ∷ rest) h = let p = and_parts (is_stmt c a) (is_body c rest) h in is_body-append (more c n) (rewritten f a) (rewritten_all f rest) (stmt_valid a p.0) (all_valid rest p.1)

-- ---- recipes

-- a source is an argument or one of n temporaries
abbrev pub in_source : ℕ → Source → Bool
in_source n (Argument i) = true
in_source n (Temp i) = nat_lt i n

abbrev pub in_act : ℕ → Act → Bool
in_act n (Const x) = nat_lt x (2 ^ 32)
in_act n (Two o a b) = in_source n a && in_source n b
in_act n (One o a) = in_source n a
in_act n (Choose a b d) = in_source n a && (in_source n b && in_source n d)
in_act n (Size which d) = is_size which && in_source n d
in_act n Flat = true
in_act n Items = true

abbrev pub in_steps : ℕ → List Step → Bool
in_steps n [] = true
in_steps n (s ∷ rest) = (nat_lt s.to n && in_act n s.act) && in_steps n rest

pub in_steps-append : (n : ℕ) (a b : List Step) → in_steps n a ≡ true → in_steps n b ≡ true → in_steps n (a ++ b) ≡ true
in_steps-append n [] b h g = g
in_steps-append n (s ∷ a) b h g =
    let p = and_parts (nat_lt s.to n && in_act n s.act) (in_steps n a) h in
    and_from (nat_lt s.to n && in_act n s.act) (in_steps n (a ++ b)) p.0 (in_steps-append n a b p.1 g)

module _ (c : Counts) (n : ℕ) (args : List Val) (low : Low c.vals args) where
  pub temp_valid : (i : ℕ) → i < n → is_val (more c n) (record { 0 = c.vals + i }) ≡ true
  temp_valid i h = lt-ltb (c.vals + i) (c.vals + n) (omega (arith, h))

  source_valid : (a : Source) → in_source n a ≡ true → is_val (more c n) (source c.vals args a) ≡ true
  source_valid (Argument i) h = let p = low i in lt-ltb (get_or args i no_val).0 (c.vals + n) (omega (arith, p))
  source_valid (Temp i) h = temp_valid i (ltb-true i n h)

  both : (a b : Source) → (in_source n a && in_source n b) ≡ true → (is_val (more c n) (source c.vals args a) && is_val (more c n) (source c.vals args b)) ≡ true
  both a b h = let p = and_parts (in_source n a) (in_source n b) h in and_from (is_val (more c n) (source c.vals args a)) (is_val (more c n) (source c.vals args b)) (source_valid a p.0) (source_valid b p.1)

  act_valid : (a : Act) → in_act n a ≡ true → is_def (more c n) (definition c.vals args a) ≡ true
  act_valid (Const x) h = h
  act_valid (Two o a b) h = both a b h
  act_valid (One o a) h = source_valid a h
  act_valid (Choose a b d) h =
      let p = and_parts (in_source n a) (in_source n b && in_source n d) h in
      and_from (is_val (more c n) (source c.vals args a)) (is_val (more c n) (source c.vals args b) && is_val (more c n) (source c.vals args d)) (source_valid a p.0) (both b d p.1)
  act_valid (Size which d) h = let p = and_parts (is_size which) (in_source n d) h in and_from (is_size which) (is_val (more c n) (source c.vals args d)) p.0 (source_valid d p.1)
  act_valid Flat h = refl
  act_valid Items h = refl

  pub steps_valid : (steps : List Step) → in_steps n steps ≡ true → is_body (more c n) (statements c.vals args steps) ≡ true
  steps_valid [] h = refl
  steps_valid (s ∷ rest) h =
      let p = and_parts (nat_lt s.to n && in_act n s.act) (in_steps n rest) h in
      let q = and_parts (nat_lt s.to n) (in_act n s.act) p.0 in
      and_from (is_val (more c n) (record { 0 = c.vals + s.to }) && is_def (more c n) (definition c.vals args s.act)) (is_body (more c n) (statements c.vals args rest))
      (and_from (is_val (more c n) (record { 0 = c.vals + s.to })) (is_def (more c n) (definition c.vals args s.act)) (temp_valid s.to (ltb-true s.to n q.0)) (act_valid s.act q.1))
      (steps_valid rest p.1)

  pub recipe_valid : (v : Val) (steps : List Step) (last : Act) → is_val c v ≡ true → in_steps n steps ≡ true → in_act n last ≡ true → is_body (more c n) (defining c.vals args steps last v.0) ≡ true
  recipe_valid v steps last hv h g =
      is_body-append (more c n) (statements c.vals args steps) (Let v (definition c.vals args last) ∷ []) (steps_valid steps h)
      (and_from (is_val (more c n) v && is_def (more c n) (definition c.vals args last)) true
      (and_from (is_val (more c n) v) (is_def (more c n) (definition c.vals args last)) (more_val c n v hv) (act_valid last g)) refl)

pub low_vals : (c : Counts) (args : List Val) → are_vals c args ≡ true → 0 < c.vals → Low c.vals args
low_vals c [] h p i = p
low_vals c (a ∷ rest) h p zero = ltb-true a.0 c.vals (and_parts (is_val c a) (are_vals c rest) h).0
low_vals c (a ∷ rest) h p (suc i) = low_vals c rest (and_parts (is_val c a) (are_vals c rest) h).1 p i

pub low_one : (c : Counts) (a v : Val) → is_val c v ≡ true → is_val c a ≡ true → Low c.vals (a ∷ [])
low_one c a v hv h = let p = ltb-true v.0 c.vals hv in low_vals c (a ∷ []) (and_from (is_val c a) true h refl) (omega (arith, p))

pub low_two : (c : Counts) (a b v : Val) → is_val c v ≡ true → (is_val c a && is_val c b) ≡ true → Low c.vals (a ∷ b ∷ [])
low_two c a b v hv h =
    let p = ltb-true v.0 c.vals hv in
    let q = and_parts (is_val c a) (is_val c b) h in
    low_vals c (a ∷ b ∷ []) (and_from (is_val c a) (is_val c b && true) q.0 (and_from (is_val c b) true q.1 refl)) (omega (arith, p))

pub let_valid : (c : Counts) (n : ℕ) (v : Val) (d : Def) → is_val c v ≡ true → is_def c d ≡ true → is_body (more c n) (Let v d ∷ []) ≡ true
let_valid c n v d hv h = and_from (is_val (more c n) v && is_def (more c n) d) true (and_from (is_val (more c n) v) (is_def (more c n) d) (more_val c n v hv) (more_def c n d h)) refl
