-- The accesses of an item only grow.
use Rattle.std.proofs.Common.{◌≡◌, ℕ, zero, suc, Bool, true, false, ◌∷◌, refl, ap, ◌∙◌}
use Rattle.std.specs.Prelude.{if◌then◌else◌, nat_lt, ◌&&◌, ◌||◌}
use Rattle.item_ir.specs.IrMeaning.{World, State, Touch, Next, Broke, Again, Gone, Run, Ends, Stops, Spent, and_then, plainly_then, after_body, after_round, at_zero, left_scope, rounds, defines, is_allowed, run, run_row}
use Rattle.item_ir.specs.declared.form.Def.{Def}
use Rattle.item_ir.specs.declared.form.Def.TheVariants as d
use Rattle.item_ir.specs.declared.form.Stmt.{Stmt, Row_of-Stmt, end_of-Stmt, more_of-Stmt}
use Rattle.item_ir.specs.declared.form.Stmt.TheVariants.{Let, Set, Store, SetElement, Clear, If', Loop', Scope', Leave, Break, Continue}
use Rattle.mask_law.specs.Lanes.{in_access, is_write, touches, writes}

pub record Grown (s t : State) : Type 0 where
  pub touched : (c : ℕ) → touches s.touches c ≡ true → touches t.touches c ≡ true
  pub written : (c : ℕ) → writes s.touches c ≡ true → writes t.touches c ≡ true

abbrev pub Grows : State → Run → Type 0
Grows s (Ends f t) = Grown s t
Grows s Stops = Unit {0}
Grows s Spent = Unit {0}

pub stays : (s t : State) → t.touches ≡ s.touches → Grown s t
stays s t e = record { touched = λ c h. ap (λ l. touches l c) e ∙ h; written = λ c h. ap (λ l. writes l c) e ∙ h }

one_more : (s t : State) (x : Touch) → t.touches ≡ x ∷ s.touches → Grown s t
one_more s t x e = record {
  touched = λ c h. ap (λ l. touches l c) e ∙ behind (in_access x c) (touches s.touches c) h;
  written = λ c h. ap (λ l. writes l c) e ∙ behind (is_write x.how && in_access x c) (writes s.touches c) h;
}
  where
    behind : (a b : Bool) → b ≡ true → (a || b) ≡ true
    behind true b h = refl
    behind false b h = h

pub then_grown : (s t u : State) → Grown s t → Grown t u → Grown s u
then_grown s t u h i = record { touched = λ c q. i.touched c (h.touched c q); written = λ c q. i.written c (h.written c q) }

after_grown : (s t : State) (r : Run) → Grown s t → Grows t r → Grows s r
after_grown s t (Ends f u) h i = then_grown s t u h i
after_grown s t Stops h i = tt
after_grown s t Spent h i = tt

pub grows_then : (s : State) (r : Run) (go : State → Run) → Grows s r → ((t : State) → Grows t (go t)) → Grows s (and_then r go)
grows_then s (Ends Next t) go h i = after_grown s t (go t) h (i t)
grows_then s (Ends Broke t) go h i = h
grows_then s (Ends Again t) go h i = h
grows_then s (Ends Gone t) go h i = h
grows_then s Stops go h i = tt
grows_then s Spent go h i = tt

pub grows_plainly : (s : State) (r : Run) (go : State → Run) → Grows s r → ((t : State) → Grows t (go t)) → Grows s (plainly_then r go)
grows_plainly s (Ends Next t) go h i = after_grown s t (go t) h (i t)
grows_plainly s (Ends Broke t) go h i = tt
grows_plainly s (Ends Again t) go h i = tt
grows_plainly s (Ends Gone t) go h i = tt
grows_plainly s Stops go h i = tt
grows_plainly s Spent go h i = tt

pub grows_body : (s : State) (r : Run) (go : State → Run) → Grows s r → ((t : State) → Grows t (go t)) → Grows s (after_body r go)
grows_body s (Ends Next t) go h i = after_grown s t (go t) h (i t)
grows_body s (Ends Broke t) go h i = h
grows_body s (Ends Again t) go h i = after_grown s t (go t) h (i t)
grows_body s (Ends Gone t) go h i = h
grows_body s Stops go h i = tt
grows_body s Spent go h i = tt

grows_scope : (s : State) (r : Run) → Grows s r → Grows s (left_scope r)
grows_scope s (Ends Next t) h = h
grows_scope s (Ends Broke t) h = h
grows_scope s (Ends Again t) h = h
grows_scope s (Ends Gone t) h = h
grows_scope s Stops h = tt
grows_scope s Spent h = tt

pub grows_choice : (s : State) (x : ℕ) (p q : Run) → Grows s p → Grows s q → Grows s (at_zero x p q)
grows_choice s zero p q h i = h
grows_choice s (suc x) p q h i = i

pub grows_round : (s : State) (n : ℕ) (go : State → Run) → ((t : State) → Grows t (go t)) → Grows s (after_round n s go)
grows_round s zero go h = tt
grows_round s (suc n) go h = after_grown s (record s { left = n }) (go (record s { left = n })) (stays s (record s { left = n }) refl) (h (record s { left = n }))

pub grows_rounds : (n : ℕ) (head : State → Run) (cond : ℕ) (body step : State → Run) → ((t : State) → Grows t (head t)) → ((t : State) → Grows t (body t)) → ((t : State) → Grows t (step t))
    → (s : State) → Grows s (rounds n head cond body step s)
grows_rounds zero head cond body step h i j s = tt
grows_rounds (suc n) head cond body step h i j s =
    grows_plainly s (head s) _ (h s) (λ t. grows_choice t (t.vals cond) (Ends Next t) _ (stays t t refl)
    (grows_round t t.left _ (λ u. grows_body u (body u) _ (i u) (λ x. grows_plainly x (step x) _ (j x) (grows_rounds n head cond body step h i j)))))

grows_if : (b : Bool) (s : State) (r : Run) → Grows s r → Grows s (if b then r else Stops)
grows_if true s r h = h
grows_if false s r h = tt

def_grows : (w : World) (v : ℕ) (e : Def) (s : State) → Grows s (defines w v e s)
def_grows w v (d.Const x) s = stays s _ refl
def_grows w v (d.Param p) s = stays s _ refl
def_grows w v (d.Work which dim) s = stays s _ refl
def_grows w v (d.Get x) s = stays s _ refl
def_grows w v (d.Bin op a b) s = stays s _ refl
def_grows w v (d.One op a) s = stays s _ refl
def_grows w v (d.Built which t args) s = stays s _ refl
def_grows w v (d.Choose c a b) s = stays s _ refl
def_grows w v (d.Load t a) s = grows_if (is_allowed w t (s.vals a.0)) s _ (one_more s _ _ refl)
def_grows w v (d.Element a i) s = grows_if (nat_lt (s.vals i.0) (w.lens a)) s _ (stays s _ refl)
def_grows w v d.Flat s = tt
def_grows w v d.Items s = tt

mutual
  pub run_grows : (w : World) (a : Stmt) (s : State) → Grows s (run w a s)
  run_grows w (Let v e) s = def_grows w v.0 e s
  run_grows w (Set v x) s = stays s _ refl
  run_grows w (Store t a x) s = grows_if (is_allowed w t (s.vals a.0)) s _ (one_more s _ _ refl)
  run_grows w (SetElement a i x) s = grows_if (nat_lt (s.vals i.0) (w.lens a)) s _ (stays s _ refl)
  run_grows w (Clear a) s = stays s _ refl
  run_grows w (If' c k a l b) s = grows_choice s (s.vals c.0) (run_row w b s) (run_row w a s) (row_grows w b s) (row_grows w a s)
  run_grows w (Loop' h head c b body t step) s = grows_rounds (suc s.left) (run_row w head) c.0 (run_row w body) (run_row w step) (row_grows w head) (row_grows w body) (row_grows w step) s
  run_grows w (Scope' k body) s = grows_scope s (run_row w body s) (row_grows w body s)
  run_grows w Leave s = stays s s refl
  run_grows w Break s = stays s s refl
  run_grows w Continue s = stays s s refl

  pub row_grows : {n : _} (w : World) (r : Row_of-Stmt n) (s : State) → Grows s (run_row w r s)
  row_grows w end_of-Stmt s = stays s s refl
  row_grows w (more_of-Stmt a rest) s = grows_then s (run w a s) (run_row w rest) (run_grows w a s) (row_grows w rest)
