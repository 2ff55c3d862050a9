-- What holds of each definition that a pass makes holds of each definition of its result.
use Rattle.std.proofs.Common.{◌≡◌, ℕ, Bool, true, false, List, [], ◌∷◌, ◌++◌, refl, ap, ◌∙◌}
use Rattle.std.specs.Prelude.{◌&&◌}
use Rattle.std.proofs.lemmas.Bool.{and_from, and_parts}
use Rattle.item_ir.specs.declared.form.Val.{Val}
use Rattle.item_ir.specs.declared.form.Def.{Def}
use Rattle.lane_ir.specs.Kept.{rewritten, rewritten_row, rewritten_all, each_def, each_def_row, each_def_all}
use Rattle.lane_ir.specs.declared.form.LaneStmt.{LaneStmt, Row_of-LaneStmt, end_of-LaneStmt, more_of-LaneStmt, items-the_row-LaneStmt, items_hidden-the_row-LaneStmt-0}
use Rattle.lane_ir.specs.declared.form.LaneStmt.TheBlock.{hidden-the_row-LaneStmt-0}
use Rattle.lane_ir.specs.declared.form.LaneStmt.TheVariants.{Let, Put, Load, Store, GetElement, PutElement, Clear, WhileAny, WhileAny'}

module _ (p : Def → Bool) where
  row_items : {k : _} (r : Row_of-LaneStmt k) → each_def_row p r ≡ each_def_all p (items-the_row-LaneStmt k r)
  row_items end_of-LaneStmt = refl
  row_items (more_of-LaneStmt a rest) = ap (λ x. each_def p a && x) (row_items rest)

  of_list : (l : List LaneStmt) → each_def_row p (hidden-the_row-LaneStmt-0 l) ≡ each_def_all p l
  of_list l = row_items (hidden-the_row-LaneStmt-0 l) ∙ ap (each_def_all p) (items_hidden-the_row-LaneStmt-0 l)

  pub each_def-WhileAny : (a : List LaneStmt) (m : Val) (b : List LaneStmt) → each_def p (WhileAny a m b) ≡ (each_def_all p a && each_def_all p b)
  each_def-WhileAny a m b = λ i. of_list a i && of_list b i

  pub each_def-append : (a b : List LaneStmt) → each_def_all p a ≡ true → each_def_all p b ≡ true → each_def_all p (a ++ b) ≡ true
  each_def-append a b h g = split a h
    where
      first : (x y : Bool) → (x && y) ≡ true → x ≡ true
      first true y e = refl
      first false y e = e

      second : (x y : Bool) → (x && y) ≡ true → y ≡ true
      second true y e = e
      second false true e = refl
      second false false e = e

      split : (l : List LaneStmt) → each_def_all p l ≡ true → each_def_all p (l ++ b) ≡ true
      split [] e = g
      split (s ∷ l) e = and_from (each_def p s) (each_def_all p (l ++ b)) (first (each_def p s) (each_def_all p l) e) (split l (second (each_def p s) (each_def_all p l) e))

  module _ (f : ℕ → Def → List LaneStmt) (made : (v : ℕ) (d : Def) → each_def_all p (f v d) ≡ true) where
    mutual
      stmt_made : (a : LaneStmt) → each_def_all p (rewritten f a) ≡ true
      stmt_made (Let v d) = made v.0 d
      stmt_made (Put v x m) = refl
      stmt_made (Load t d a m) = refl
      stmt_made (Store t a x m) = refl
      stmt_made (GetElement r d j m) = refl
      stmt_made (PutElement r j x m) = refl
      stmt_made (Clear r m) = refl
      stmt_made (WhileAny' h head m b body) =
          and_from (each_def p (WhileAny (rewritten_row f head) m (rewritten_row f body))) true
          (each_def-WhileAny (rewritten_row f head) m (rewritten_row f body) ∙ and_from (each_def_all p (rewritten_row f head)) (each_def_all p (rewritten_row f body)) (row_made head) (row_made body)) refl

      row_made : {u : _} (r : Row_of-LaneStmt u) → each_def_all p (rewritten_row f r) ≡ true
      row_made end_of-LaneStmt = refl
      row_made (more_of-LaneStmt a rest) = each_def-append (rewritten f a) (rewritten_row f rest) (stmt_made a) (row_made rest)

    pub all_made : (l : List LaneStmt) → each_def_all p (rewritten_all f l) ≡ true
    all_made [] = refl
    all_made (a ∷ rest) = each_def-append (rewritten f a) (rewritten_all f rest) (stmt_made a) (all_made rest)

-- the same where a test holds of each definition before
module _ (p q : Def → Bool) (f : ℕ → Def → List LaneStmt) (made : (v : ℕ) (d : Def) → q d ≡ true → each_def_all p (f v d) ≡ true) where
  mutual
    stmt_left : (a : LaneStmt) → each_def q a ≡ true → each_def_all p (rewritten f a) ≡ true
    stmt_left (Let v d) h = made v.0 d h
    stmt_left (Put v x m) h = refl
    stmt_left (Load t d a m) h = refl
    stmt_left (Store t a x m) h = refl
    stmt_left (GetElement r d j m) h = refl
    stmt_left (PutElement r j x m) h = refl
    stmt_left (Clear r m) h = refl
    stmt_left (WhileAny' u head m b body) h =
        let k = and_parts (each_def_row q head) (each_def_row q body) h in
        and_from (each_def p (WhileAny (rewritten_row f head) m (rewritten_row f body))) true
        (each_def-WhileAny p (rewritten_row f head) m (rewritten_row f body) ∙ and_from (each_def_all p (rewritten_row f head)) (each_def_all p (rewritten_row f body)) (row_left head k.0) (row_left body k.1)) refl

    row_left : {u : _} (r : Row_of-LaneStmt u) → each_def_row q r ≡ true → each_def_all p (rewritten_row f r) ≡ true
    row_left end_of-LaneStmt h = refl
    row_left (more_of-LaneStmt a rest) h = let k = and_parts (each_def q a) (each_def_row q rest) h in each_def-append p (rewritten f a) (rewritten_row f rest) (stmt_left a k.0) (row_left rest k.1)

  pub all_left : (l : List LaneStmt) → each_def_all q l ≡ true → each_def_all p (rewritten_all f l) ≡ true
  all_left [] h = refl
  all_left (a ∷ rest) h = let k = and_parts (each_def q a) (each_def_all q rest) h in each_def-append p (rewritten f a) (rewritten_all f rest) (stmt_left a k.0) (all_left rest k.1)
