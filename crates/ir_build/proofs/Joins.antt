-- Pieces of code one after the other.
use Rattle.std.proofs.Common.{◌≡◌, ℕ, List, [], ◌∷◌, ◌++◌, Result, refl, sym, ap, ◌∙◌, subst, append_assoc}
use Rattle.std.specs.Prelude.{IfOk}
use Rattle.item_ir.specs.declared.form.Stmt.{Stmt}
use Rattle.ir_build.specs.declared.pieces.Piece.{Piece}
use Rattle.ir_build.specs.declared.places.Target.{Target}
use Rattle.ir_build.specs.declared.places.Found.{Found}
use Rattle.ir_build.specs.declared.scopes.Back.{Back}
use Rattle.ir_build.specs.Adds.{Adds, Grows, Finds}
use Rattle.ir_build.specs.Code.{Code, PlaceCode, Stmts, none, with_code, after_place, both, given_code, back_code}

-- two lists added one after the other
pub added_twice : (old mid new a b : List Stmt) → mid ≡ old ++ a → new ≡ mid ++ b → new ≡ old ++ (a ++ b)
added_twice old mid new a b h g = g ∙ ap (λ l. l ++ b) h ∙ append_assoc old a b

-- a piece whose value the next one takes
pub adds_with : (old mid new : List Stmt) (p q : Piece) (a : Code) (f : ℕ → ℕ → Code) → Adds old mid p a → Adds mid new q (f p.val.0 p.next) → Adds old new q (with_code a f)
adds_with old mid new p q a f h g =
    let e : f p.val.0 p.next ≡ f a.val a.next = λ i. f (h.1 i) (h.2 i) in
    (added_twice old mid new a.stmts (f a.val a.next).stmts h.0 (g.0 ∙ ap (λ c. mid ++ c.stmts) e), g.1 ∙ ap (λ c. c.val) e, g.2 ∙ ap (λ c. c.next) e)

-- a place that the next piece takes
pub finds_with : (old mid new : List Stmt) (p : Found) (q : Piece) (a : PlaceCode) (f : Target → ℕ → Code) → Finds old mid p a → Adds mid new q (f p.to p.next) → Adds old new q (after_place a f)
finds_with old mid new p q a f h g =
    let e : f p.to p.next ≡ f a.to a.next = λ i. f (h.1 i) (h.2 i) in
    (added_twice old mid new a.stmts (f a.to a.next).stmts h.0 (g.0 ∙ ap (λ c. mid ++ c.stmts) e), g.1 ∙ ap (λ c. c.val) e, g.2 ∙ ap (λ c. c.next) e)

-- statements one after the other
pub grows_then : (old mid new : List Stmt) (n m : ℕ) (a : Stmts) (f : ℕ → Stmts) → Grows old mid n a → Grows mid new m (f n) → Grows old new m (both a f)
grows_then old mid new n m a f h g =
    let e : f n ≡ f a.next = ap f h.1 in
    (added_twice old mid new a.stmts (f a.next).stmts h.0 (g.0 ∙ ap (λ c. mid ++ c.stmts) e), g.1 ∙ ap (λ c. c.next) e)

-- what is left with a value, in its parts
pub back_given : (back : Back) (x k : ℕ) → (back_code back (none x k)).stmts ≡ (given_code back.result back.var x k).stmts ++ Rattle.item_ir.specs.declared.form.Stmt.TheVariants.Leave ∷ []
back_given back x k = refl

-- the same code said in another way
pub ok_as : {E : Type 0} (old new : List Stmt) (r : Result Piece E) (c e : Code) → c ≡ e → IfOk r (λ p. Adds old new p e) → IfOk r (λ p. Adds old new p c)
ok_as old new r c e h g = subst (λ z. IfOk r (λ p. Adds old new p z)) (sym h) g

pub found_as : {E : Type 0} (old new : List Stmt) (r : Result Found E) (c e : PlaceCode) → c ≡ e → IfOk r (λ p. Finds old new p e) → IfOk r (λ p. Finds old new p c)
found_as old new r c e h g = subst (λ z. IfOk r (λ p. Finds old new p z)) (sym h) g

pub grown_as : {E : Type 0} (old new : List Stmt) (r : Result ℕ E) (c e : Stmts) → c ≡ e → IfOk r (λ n. Grows old new n e) → IfOk r (λ n. Grows old new n c)
grown_as old new r c e h g = subst (λ z. IfOk r (λ n. Grows old new n z)) (sym h) g

pub finds_as : (old new : List Stmt) (p : Found) (c e : PlaceCode) → c ≡ e → Finds old new p e → Finds old new p c
finds_as old new p c e h g = subst (λ z. Finds old new p z) (sym h) g
