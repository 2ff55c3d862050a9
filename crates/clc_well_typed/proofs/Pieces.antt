-- Pieces of a function's text: what each gives holds, and its variables are numbered in order.
use Rattle.std.proofs.Common.{◌≡◌, ℕ, suc, ◌+◌, Bool, true, List, [], ◌∷◌, ◌++◌, Option, Some, slice_get, length, sym, ap, ◌∙◌, subst, arith, append-nil, append_assoc}
use Rattle.std.specs.Prelude.{map}
use Rattle.clc_lexer.specs.declared.token.Token.{Token}
use Rattle.q_lane.specs.declared.kinds.Scalar.{Scalar}
use Rattle.clc_types.specs.declared.type_rule.TypeRule.TheVariants.{S2}
use Rattle.clc_types.specs.declared.typed.Var.{Var}
use Rattle.clc_types.specs.declared.typed.TFunction.{TFunction}
use Rattle.clc_types.specs.declared.forms.Shape.{Shape}
use Rattle.clc_types.specs.Judged.{Fine, violations, Part}
use Rattle.clc_types.specs.Words.{name_of}
use Rattle.clc_types.specs.Rules.{var_of}
use Rattle.clc_types.specs.Blocks.{Decl, is_again, earlier, Around, Piece, nothing, quiet, past, ending, seq, made, opened, looping, declared}
use Rattle.clc_well_typed.proofs.Judging.{fine_is, next_parts, both_parts, unless_parts}
use Rattle.clc_well_typed.proofs.Parts.{Ready, Gives}
use Rattle.clc_well_typed.proofs.Places.{Ordered, Below, Above, ordered_wider, ordered_append, ordered_below, ordered_above, above_lower, below_upper, below_append, above_append, earlier_is, at_length, length_last}

-- the kind of a declaration's variable
abbrev pub variable_of : Decl → Var
variable_of d = var_of d.shape

-- nothing is declared, and P holds
abbrev pub Still : {A : Type 0} → (A → Type 0) → Bool → ℕ → ℕ → A → Type 0
Still P l n m y = (n ≡ m) × P y

abbrev pub Both : {A B : Type 0} → (Bool → ℕ → ℕ → A → Type 0) → (Bool → ℕ → ℕ → B → Type 0) → Bool → ℕ → ℕ → A × B → Type 0
Both P Q l n m y = (i : ℕ) × P l n i y.0 × Q l i m y.1

abbrev pub Looped : {A : Type 0} → (Bool → ℕ → ℕ → A → Type 0) → Bool → ℕ → ℕ → A → Type 0
Looped P l n m y = P true n m y

-- a variable of this shape gets the next number
abbrev pub Numbered : List Var → Shape → Bool → ℕ → ℕ → ℕ → Type 0
Numbered vars s l n m v = (v ≡ n) × (m ≡ suc n) × (slice_get vars v ≡ Some (var_of s))

module _ (vars : List Var) (before : List TFunction) (result : Option Scalar) where
  pub record Placed (c : Around) : Type 0 where
    pub ready : Ready vars before result c.names
    pub all : vars ≡ map variable_of c.all

  -- what the piece gives, in a loop or not, has P with the numbers of the first variable that it declares and of the first one after it
  pub record Stands {A : Type 0} (P : Bool → ℕ → ℕ → A → Type 0) (a : Piece A) : Type 0 where
    pub order : (from upto p : ℕ) → Ordered p (p + a.tokens) (a.decls from upto p)
    pub fine : (c : Around) → Placed c → (l : Bool) (from upto p : ℕ) (done rest : List Decl) → c.all ≡ done ++ (a.decls from upto p ++ rest) → Below p done → Above (p + a.tokens) rest
        → (y : A) → a.at c l from p ≡ Fine y → P l (length done) (length (done ++ a.decls from upto p)) y

  pub nothing_stands : {A : Type 0} (P : A → Type 0) (a : A) → P a → Stands (Still P) (nothing a)
  nothing_stands P a h = record {
    order = λ from upto p. omega arith;
    fine = λ c pl l from upto p done rest e b u y i. (sym (ap length (append-nil done)), subst P (fine_is a y i) h);
  }

  pub quiet_stands : {A : Type 0} (P : A → Type 0) (a : Part A) → Gives vars before result P a → Stands (Still P) (quiet a)
  quiet_stands P a g = record {
    order = λ from upto p. omega arith;
    fine = λ c pl l from upto p done rest e b u y i. (sym (ap length (append-nil done)), g.holds c.names pl.ready p y i);
  }

  pub past_stands : {A : Type 0} (P : Bool → ℕ → ℕ → A → Type 0) (n : ℕ) (a : Piece A) → Stands P a → Stands P (past n a)
  past_stands P n a g = record {
    order = λ from upto p. ordered_wider (p + n) (p + n + a.tokens) p (p + (n + a.tokens)) (a.decls from upto (p + n)) (omega arith) (omega arith) (g.order from upto (p + n));
    fine = λ c pl l from upto p done rest e b u y i. g.fine c pl l from upto (p + n) done rest e (below_upper p (p + n) done (omega arith) b) (above_lower (p + n + a.tokens) (p + (n + a.tokens)) rest (omega arith) u) y i;
  }

  pub opened_stands : {A : Type 0} (P : Bool → ℕ → ℕ → A → Type 0) (n : ℕ) (a : Piece A) → Stands P a → Stands P (opened n a)
  opened_stands P n a g = record {
    order = λ from upto p. ordered_wider (p + n) (p + n + a.tokens) p (p + (n + a.tokens)) (a.decls p (p + (n + a.tokens)) (p + n)) (omega arith) (omega arith) (g.order p (p + (n + a.tokens)) (p + n));
    fine = λ c pl l from upto p done rest e b u y i.
        g.fine c pl l p (p + (n + a.tokens)) (p + n) done rest e (below_upper p (p + n) done (omega arith) b) (above_lower (p + n + a.tokens) (p + (n + a.tokens)) rest (omega arith) u) y i;
  }

  pub ending_stands : {A : Type 0} (P : Bool → ℕ → ℕ → A → Type 0) (n : ℕ) (a : Piece A) → Stands P a → Stands P (ending a n)
  ending_stands P n a g = record {
    order = λ from upto p. ordered_wider p (p + a.tokens) p (p + (a.tokens + n)) (a.decls from upto p) (omega arith) (omega arith) (g.order from upto p);
    fine = λ c pl l from upto p done rest e b u y i. g.fine c pl l from upto p done rest e b (above_lower (p + a.tokens) (p + (a.tokens + n)) rest (omega arith) u) y i;
  }

  pub looping_stands : {A : Type 0} (P : Bool → ℕ → ℕ → A → Type 0) (a : Piece A) → Stands P a → Stands (Looped P) (looping a)
  looping_stands P a g = record {
    order = g.order;
    fine = λ c pl l from upto p done rest e b u y i. g.fine c pl true from upto p done rest e b u y i;
  }

  pub made_stands : {A B : Type 0} (P : Bool → ℕ → ℕ → A → Type 0) (Q : Bool → ℕ → ℕ → B → Type 0) (f : A → B) (a : Piece A) → ((l : Bool) (n m : ℕ) (x : A) → P l n m x → Q l n m (f x)) → Stands P a → Stands Q (made f a)
  made_stands P Q f a h g = record {
    order = g.order;
    fine = λ c pl l from upto p done rest e b u y i.
        let d = next_parts (a.at c l from p) (λ x. Fine (f x)) y i in
        subst (Q l (length done) (length (done ++ a.decls from upto p))) (fine_is (f d.0) y d.2) (h l (length done) (length (done ++ a.decls from upto p)) d.0 (g.fine c pl l from upto p done rest e b u d.0 d.1));
  }

  pub seq_stands : {A B : Type 0} (P : Bool → ℕ → ℕ → A → Type 0) (Q : Bool → ℕ → ℕ → B → Type 0) (a : Piece A) (b : Piece B) → Stands P a → Stands Q b → Stands (Both P Q) (seq a b)
  seq_stands P Q a b g h = record {
    order = λ from upto p.
        let mid = p + a.tokens in
        ordered_append p mid (p + (a.tokens + b.tokens)) (a.decls from upto p) (b.decls from upto mid) (g.order from upto p)
        (ordered_wider mid (mid + b.tokens) mid (p + (a.tokens + b.tokens)) (b.decls from upto mid) (omega arith) (omega arith) (h.order from upto mid));
    fine = λ c pl l from upto p done rest e low up y i.
        let mid = p + a.tokens in
        let ds = a.decls from upto p in
        let es = b.decls from upto mid in
        let d = both_parts (a.at c l from p) (b.at c l from mid) y i in
        let e0 : c.all ≡ done ++ (ds ++ (es ++ rest)) = e ∙ ap (λ z. done ++ z) (append_assoc ds es rest) in
        let e1 : c.all ≡ (done ++ ds) ++ (es ++ rest) = e0 ∙ sym (append_assoc done ds (es ++ rest)) in
        let up0 : Above (mid + b.tokens) rest = above_lower (mid + b.tokens) (p + (a.tokens + b.tokens)) rest (omega arith) up in
        let first = g.fine c pl l from upto p done (es ++ rest) e0 low
        (above_append mid es rest (ordered_above mid (mid + b.tokens) es (h.order from upto mid)) (above_lower mid (mid + b.tokens) rest (omega arith) up0)) y.0 d.0 in
        let second = h.fine c pl l from upto mid (done ++ ds) rest e1
        (below_append mid done ds (below_upper p mid done (omega arith) low) (ordered_below p mid ds (g.order from upto p))) up0 y.1 d.1 in
        (length (done ++ ds), first, subst (λ z. Q l (length (done ++ ds)) (length z) y.1) (append_assoc done ds es) second);
  }

  -- a variable's number is the number of those declared before it
  pub declared_stands : (s : Shape) (t : Token) → Stands (Numbered vars s) (declared s t)
  declared_stands s t = record {
    order = λ from upto p. (omega arith, omega arith);
    fine = λ c pl l from upto p done rest e b u y i.
        let d : Decl = record { name = name_of t; place = p; from = from; upto = upto; shape = s } in
        let after : Above p (d ∷ rest) = (omega arith, above_lower p (p + 1) rest (omega arith) u) in
        let j = unless_parts (violations p ((S2, is_again c.all from p (name_of t)) ∷ [])) (earlier c.all p) y i in
        let k : y ≡ length done = sym j.1 ∙ ap (λ z. earlier z p) e ∙ earlier_is p done (d ∷ rest) b after in
        (k, length_last done d, ap (slice_get vars) k ∙ ap (λ z. slice_get z (length done)) (pl.all ∙ ap (map variable_of) e) ∙ at_length variable_of done d rest);
  }
