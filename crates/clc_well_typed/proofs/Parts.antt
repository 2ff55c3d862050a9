-- Parts of expressions give well-typed forms, where what is in force names variables and functions that are there.
use Rattle.std.proofs.Common.{◌≡◌, ℕ, ◌+◌, true, List, [], ◌∷◌, ◌++◌, Option, Some, None, slice_get, refl, sym, ap, subst}
use Rattle.std.specs.Prelude.{map}
use Rattle.clc_lexer.specs.declared.token.Token.{Token}
use Rattle.clc_lexer.specs.declared.marks.Mark.{Mark}
use Rattle.clc_lexer.specs.declared.marks.Mark.TheVariants as m
use Rattle.clc_tree.specs.Kinds as kinds
use Rattle.clc_tree.specs.declared.expressions.Scalar.{Scalar as Written}
use Rattle.clc_tree.specs.declared.expressions.Assign.TheOpen as o
use Rattle.q_lane.specs.declared.kinds.Scalar.{Scalar}
use Rattle.clc_types.specs.declared.typed.Var.{Var}
use Rattle.clc_types.specs.declared.typed.TFunction.{TFunction}
use Rattle.clc_types.specs.declared.forms.Fault.{Fault}
use Rattle.clc_types.specs.declared.forms.Shape.{Shape}
use Rattle.clc_types.specs.declared.forms.Named.{Named}
use Rattle.clc_types.specs.declared.forms.Named.TheVariants as nm
use Rattle.clc_types.specs.declared.forms.Form.{Form}
use Rattle.clc_types.specs.declared.forms.Sofar.{Sofar}
use Rattle.clc_types.specs.declared.forms.Argument.{Argument}
use Rattle.clc_types.specs.Judged.{Fine, both, unless, Context, Part, none, one, two}
use Rattle.clc_types.specs.Words.{name_of, mark_of, type_tokens}
use Rattle.clc_types.specs.Rules.{var_of, scalar_needed, pointer_needed, step_needs, index_needs, operator_needs, conditional_needs, assign_needs, call_needs, call_kind, builtin_needs}
use Rattle.clc_types.specs.Typing.{paren_form, index_form, deref_form, post_form, step_form, prefix_form, cast_form, first_of_chain, further, chain_form, Couple, couple, conditional_form, assign_form, argument, call_form, builtin_form, name_at, callee_at, called, Operand, Series, Suffix, At, Stepped, Choices, start, operators, chain, after_comma, series, further_arguments, first_argument, arguments, suffixes, primary_part, prefixed, conditional}
use Rattle.clc_types.specs.WellTyped.{is_prefix, is_operator, is_assignment}
use Rattle.clc_well_typed.proofs.Judging.{fine_is, next_parts, both_parts, unless_parts}
use Rattle.clc_well_typed.proofs.Forms.{Sound, number_sound, variable_sound, paren_sound, index_sound, deref_sound, post_sound, step_sound, prefix_sound, cast_sound, conditional_sound, assign_sound, SofarSound, first_sound, further_sound, chain_sound}
use Rattle.clc_well_typed.proofs.Calls.{Called, AllSound, argument_sound, all_last, call_sound, builtin_sound}

module _ (vars : List Var) (before : List TFunction) (result : Option Scalar) where
  -- what is in force is there
  pub record Ready (c : Context) : Type 0 where
    pub names : (q : ℕ) (x : List ℕ) (v : ℕ) (s : Shape) → c.look q x ≡ Some (nm.Variable v s) → slice_get vars v ≡ Some (var_of s)
    pub calls : (q p : ℕ) (x : List ℕ) (f : ℕ) (args : List Argument) → c.look q x ≡ Some (nm.Function f) → call_needs p c.home f args ≡ [] → Called before f args (call_kind (slice_get c.home.functions f))
    pub returned : c.home.result ≡ result

  -- what a part gives holds
  pub record Gives {A : Type 0} (P : A → Type 0) (a : Part A) : Type 0 where
    pub holds : (c : Context) → Ready c → (p : ℕ) (x : A) → a.at c p ≡ Fine x → P x

  abbrev pub Valid : Part Form → Type 0
  Valid a = Gives (Sound vars before result) a

  pub one_gives : {A B : Type 0} (P : A → Type 0) (Q : B → Type 0) (first last : ℕ) (a : Part A) (needs : ℕ → ℕ → A → List Fault) (form : A → B)
      → Gives P a → ((p q : ℕ) (x : A) → needs p q x ≡ [] → P x → Q (form x)) → Gives Q (one first a last needs form)
  one_gives P Q first last a needs form g f = record {
    holds = λ c r p z h.
        let n = next_parts (a.at c (p + first)) (λ x. unless (needs p (p + first) x) (form x)) z h in
        let u = unless_parts (needs p (p + first) n.0) (form n.0) z n.2 in
        subst Q u.1 (f p (p + first) n.0 u.0 (g.holds c r (p + first) n.0 n.1));
  }

  pub two_gives : {A B C : Type 0} (P : A → Type 0) (Q : B → Type 0) (R : C → Type 0) (between last : ℕ) (a : Part A) (b : Part B) (needs : ℕ → A → ℕ → B → List Fault) (form : A → ℕ → B → C)
      → Gives P a → Gives Q b → ((p q : ℕ) (x : A) (y : B) → needs p x q y ≡ [] → P x → Q y → R (form x q y)) → Gives R (two a between b last needs form)
  two_gives P Q R between last a b needs form g h f = record {
    holds = λ c r p z e.
        let q = p + a.tokens + between in
        let n = next_parts (both (a.at c p) (b.at c q)) (λ x. unless (needs p x.0 q x.1) (form x.0 q x.1)) z e in
        let d = both_parts (a.at c p) (b.at c q) n.0 n.1 in
        let u = unless_parts (needs p n.0.0 q n.0.1) (form n.0.0 q n.0.1) z n.2 in
        subst R u.1 (f p q n.0.0 n.0.1 u.0 (g.holds c r p n.0.0 d.0) (h.holds c r q n.0.1 d.1));
  }

  -- ---- names and numbers

  name_by : (t : Token) (c : Context) → Ready c → (p : ℕ) (x : Form) (n : Option Named) → c.look p (name_of t) ≡ n → name_at t p n ≡ Fine x → Sound vars before result x
  name_by t c r p x None e h = absurd (cc)
  name_by t c r p x (Some (nm.Variable v s)) e h = subst (Sound vars before result) (fine_is _ _ h) (variable_sound vars before result t v s (r.names p (name_of t) v s e))
  name_by t c r p x (Some (nm.Function f)) e h = absurd (cc)
  name_by t c r p x (Some (nm.Builtin f)) e h = absurd (cc)

  pub name_valid : (t : Token) → Valid (primary_part (o.Name t))
  name_valid t = record { holds = λ c r p x h. name_by t c r p x (c.look p (name_of t)) refl h }

  pub number_valid : (t : Token) → Valid (primary_part (o.Number t))
  number_valid t = record { holds = λ c r p x h. subst (Sound vars before result) (fine_is _ _ h) (number_sound vars before result t) }

  -- ---- one operand

  pub step_valid : (t : Token) (a : Part Form) → Valid a → Valid (one 1 a 0 (λ p q x. step_needs q x) (step_form t))
  step_valid t a g = one_gives (Sound vars before result) (Sound vars before result) 1 0 a (λ p q x. step_needs q x) (step_form t) g (λ p q x e h. step_sound vars before result t q x e h)

  minus_valid : (t : Token) (a : Part Form) → is_prefix (mark_of t) ≡ true → Valid a → Valid (one 1 a 0 (λ p q x. scalar_needed q x.kind) (prefix_form t))
  minus_valid t a w g = one_gives (Sound vars before result) (Sound vars before result) 1 0 a (λ p q x. scalar_needed q x.kind) (prefix_form t) g (λ p q x e h. prefix_sound vars before result t q x w e h)

  pub prefix_valid : (t : Token) (u : Mark) (a : Part Form) → mark_of t ≡ u → kinds.prefix (kinds.Mark u) ≡ true → Valid a → Valid (prefixed t u a)
  prefix_valid t m.Star a i w g = one_gives (Sound vars before result) (Sound vars before result) 1 0 a (λ p q x. pointer_needed q x.kind) (deref_form t) g (λ p q x e h. deref_sound vars before result t q x e h)
  prefix_valid t m.Plus a i w g = minus_valid t a (ap is_prefix i) g
  prefix_valid t m.Minus a i w g = minus_valid t a (ap is_prefix i) g
  prefix_valid t m.Tilde a i w g = minus_valid t a (ap is_prefix i) g
  prefix_valid t m.Bang a i w g = minus_valid t a (ap is_prefix i) g
  prefix_valid t u a i w g = absurd (cc)

  pub cast_valid : (t : Token) (s : Written) (a : Part Form) → Valid a → Valid (one (2 + type_tokens s) a 0 (λ p q x. scalar_needed q x.kind) (cast_form t s))
  cast_valid t s a g = one_gives (Sound vars before result) (Sound vars before result) (2 + type_tokens s) 0 a (λ p q x. scalar_needed q x.kind) (cast_form t s) g (λ p q x e h. cast_sound vars before result t s q x e h)

  pub paren_valid : (t : Token) (a : Part Form) → Valid a → Valid (one 1 a 1 none (paren_form t))
  paren_valid t a g = one_gives (Sound vars before result) (Sound vars before result) 1 1 a none (paren_form t) g (λ p q x e h. paren_sound vars before result t x h)

  -- ---- two and three operands

  pub assign_valid : (u : Mark) (a b : Part Form) → is_assignment u ≡ true → Valid a → Valid b → Valid (two a 1 b 0 (assign_needs u) (λ x q y. assign_form u x y))
  assign_valid u a b w g h = two_gives (Sound vars before result) (Sound vars before result) (Sound vars before result) 1 0 a b (assign_needs u) (λ x q y. assign_form u x y) g h (λ p q x y e i j. assign_sound vars before result u p q x y w e i j)

  record CoupleSound (x : Couple) : Type 0 where
    pub first : Sound vars before result x.first
    pub second : Sound vars before result x.second

  pub record ChoicesValid (x : Choices) : Type 0 where
    pub yes : Valid x.yes
    pub no : Valid x.no

  pub conditional_valid : (a : Part Form) (x : Choices) → Valid a → ChoicesValid x → Valid (conditional a (Some x))
  conditional_valid a x g h =
      two_gives CoupleSound (Sound vars before result) (Sound vars before result) 1 0 (two a 1 x.yes 0 (λ p y q z. []) couple) x.no (λ p c r z. conditional_needs p c.first c.place c.second r z) (λ c r z. conditional_form c.first c.second z)
      (two_gives (Sound vars before result) (Sound vars before result) CoupleSound 1 0 a x.yes (λ p y q z. []) couple g h.yes (λ p q y z e i j. record { first = i; second = j }))
      h.no (λ p q y z e i j. conditional_sound vars before result p y.place q y.first y.second z e i.first i.second j)

  -- ---- chains

  pub record OperandValid (x : Operand) : Type 0 where
    pub mark : is_operator x.mark ≡ true
    pub value : Valid x.value

  abbrev pub AllOperands : List Operand → Type 0
  AllOperands [] = Unit {0}
  AllOperands (x ∷ xs) = OperandValid x × AllOperands xs

  operators_valid : (xs : List Operand) (a : Part Sofar) → Gives (SofarSound vars before result) a → AllOperands xs → Gives (SofarSound vars before result) (operators a xs)
  operators_valid [] a g h = g
  operators_valid (x ∷ xs) a g h =
      operators_valid xs _
      (two_gives (SofarSound vars before result) (Sound vars before result) (SofarSound vars before result) 1 0 a x.value (operator_needs x.mark) (λ y q z. further x.mark y z) g h.0.value
      (λ p q y z e i j. further_sound vars before result x.mark p q y z h.0.mark e i j)) h.1

  pub chain_valid : (a : Part Form) (xs : List Operand) → Valid a → AllOperands xs → Valid (chain a xs)
  chain_valid a xs g h =
      one_gives (SofarSound vars before result) (Sound vars before result) 0 0 (operators (start a) xs) none chain_form
      (operators_valid xs (start a) (one_gives (Sound vars before result) (SofarSound vars before result) 0 0 a none first_of_chain g (λ p q x e i. first_sound vars before result x i)) h)
      (λ p q x e i. chain_sound vars before result x i)

  abbrev pub AllValid : List (Part Form) → Type 0
  AllValid [] = Unit {0}
  AllValid (x ∷ xs) = Valid x × AllValid xs

  pub record SeriesValid (s : Series) : Type 0 where
    pub first : Valid s.first
    pub rest : AllValid s.rest

  commas_valid : (xs : List (Part Form)) → AllValid xs → AllOperands (map after_comma xs)
  commas_valid [] h = tt
  commas_valid (x ∷ xs) h = (record { mark = refl; value = h.0 }, commas_valid xs h.1)

  series_by : (a : Part Form) (xs : List (Part Form)) → Valid a → AllValid xs → Valid (series a xs)
  series_by a [] g h = g
  series_by a (x ∷ xs) g h = chain_valid a (map after_comma (x ∷ xs)) g (commas_valid (x ∷ xs) h)

  pub series_valid : (s : Series) → SeriesValid s → Valid (series s.first s.rest)
  series_valid s h = series_by s.first s.rest h.first h.rest

  -- ---- postfix operators

  abbrev pub SuffixValid : Suffix → Type 0
  SuffixValid (At i) = Valid i
  SuffixValid (Stepped t) = Unit {0}

  abbrev pub AllSuffixes : List Suffix → Type 0
  AllSuffixes [] = Unit {0}
  AllSuffixes (x ∷ xs) = SuffixValid x × AllSuffixes xs

  pub suffixes_valid : (xs : List Suffix) (a : Part Form) → Valid a → AllSuffixes xs → Valid (suffixes a xs)
  suffixes_valid [] a g h = g
  suffixes_valid (At i ∷ xs) a g h =
      suffixes_valid xs _ (two_gives (Sound vars before result) (Sound vars before result) (Sound vars before result) 1 1 a i index_needs (λ x q y. index_form x y) g h.0 (λ p q x y e j l. index_sound vars before result p q x y e j l)) h.1
  suffixes_valid (Stepped t ∷ xs) a g h =
      suffixes_valid xs _ (one_gives (Sound vars before result) (Sound vars before result) 0 1 a (λ p q x. step_needs q x) (post_form t) g (λ p q x e j. post_sound vars before result t q x e j)) h.1

  -- ---- calls

  further_valid : (xs : List (Part Form)) (a : Part (List Argument)) → Gives (AllSound vars before result) a → AllValid xs → Gives (AllSound vars before result) (further_arguments a xs)
  further_valid [] a g h = g
  further_valid (x ∷ xs) a g h =
      further_valid xs _
      (two_gives (AllSound vars before result) (Sound vars before result) (AllSound vars before result) 1 0 a x (λ p ys q y. []) (λ ys q y. ys ++ argument q y ∷ []) g h.0
      (λ p q ys y e i j. all_last vars before result ys (argument q y) i (argument_sound vars before result q y j))) h.1

  first_valid : (a : Part Form) → Valid a → Gives (AllSound vars before result) (first_argument a)
  first_valid a g = record {
    holds = λ c r p z h.
        let n = next_parts (a.at c p) (λ x. Fine (argument p x ∷ [])) z h in
        subst (AllSound vars before result) (fine_is _ _ n.2) (argument_sound vars before result p n.0 (g.holds c r p n.0 n.1), tt);
  }

  pub arguments_valid : (s : Series) → SeriesValid s → Gives (AllSound vars before result) (arguments (Some s))
  arguments_valid s h = further_valid s.rest (first_argument s.first) (first_valid s.first h.first) h.rest

  pub no_arguments_valid : Gives (AllSound vars before result) (arguments None)
  no_arguments_valid = record { holds = λ c r p z h. subst (AllSound vars before result) (fine_is _ _ h) tt }

  -- the function that is called
  callee_by : (t : Token) (c : Context) → Ready c → (p : ℕ) (named : Named) (args : List Argument) (x : Form) (n : Option Named) → c.look p (name_of t) ≡ n → callee_at p n ≡ Fine named → AllSound vars before result args
      → called c p t named args ≡ Fine x → Sound vars before result x
  callee_by t c r p named args x None e h i j = absurd (cc)
  callee_by t c r p named args x (Some (nm.Variable v s)) e h i j = absurd (cc)
  callee_by t c r p named args x (Some (nm.Function f)) e h i j =
      let u = unless_parts (call_needs p c.home f args) (call_form t f (slice_get c.home.functions f) args) x (subst (λ z. called c p t z args ≡ Fine x) (sym (fine_is _ _ h)) j) in
      subst (Sound vars before result) u.1 (call_sound vars before result t f (slice_get c.home.functions f) args (r.calls p p (name_of t) f args e u.0) i)
  callee_by t c r p named args x (Some (nm.Builtin f)) e h i j =
      let u = unless_parts (builtin_needs p f args) (builtin_form t f args) x (subst (λ z. called c p t z args ≡ Fine x) (sym (fine_is _ _ h)) j) in
      subst (Sound vars before result) u.1 (builtin_sound vars before result t p f args u.0 i)

  pub call_valid : (f l : Token) (s : Option Series) (r : Token) → Gives (AllSound vars before result) (arguments s) → Valid (primary_part (o.Call f l s r))
  call_valid f l s t g = record {
    holds = λ c r p x h.
        let n = next_parts (both (callee_at p (c.look p (name_of f))) ((arguments s).at c (p + 2))) (λ y. called c p f y.0 y.1) x h in
        let d = both_parts (callee_at p (c.look p (name_of f))) ((arguments s).at c (p + 2)) n.0 n.1 in
        callee_by f c r p n.0.0 n.0.1 x (c.look p (name_of f)) refl d.0 (g.holds c r (p + 2) n.0.1 d.1) n.2;
  }
