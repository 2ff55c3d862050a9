-- The forms of expressions, each where its parts are related.
use Rattle.std.proofs.Common.{ℕ, Bool, List, [], ◌∷◌, refl, subst}
use Rattle.clc_lexer.specs.declared.marks.Mark.{Mark}
use Rattle.clc_lexer.specs.declared.marks.Mark.TheVariants as m
use Rattle.q_lane.specs.declared.kinds.Scalar.{Scalar}
use Rattle.q_functions.specs.declared.work.Work.{Work}
use Rattle.clc_types.specs.declared.typed.Builtin.{Builtin}
use Rattle.clc_types.specs.declared.typed.Ty.{Ty}
use Rattle.item_meaning.specs.declared.values.Value.{Value}
use Rattle.item_meaning.specs.declared.values.Value.TheVariants.{Num}
use Rattle.item_meaning.specs.declared.values.Place.{Place}
use Rattle.item_meaning.specs.ItemState.{Goes, then_do}
use Rattle.item_meaning.specs.Operators.{truth, combined}
use Rattle.item_meaning.specs.Places.{read, write}
use Rattle.item_meaning.specs.NodeMeanings.{Part, step_value, stepped, first_if, read_from, assigned_value, operator_value, chain_value, with_words, applied_to, function_of, builtin_value, no_values, and_values}
use Rattle.inline_law.proofs.Frames.{Same, SameList, Both, Moved}
use Rattle.inline_law.proofs.Parts.{bind_both, goes_both, node_both, nodes_both, truth_both, with_value, assign_both, compound_both}
use Rattle.inline_law.proofs.Accesses.{reads}
use Rattle.inline_law.proofs.Writes.{writes}

module _ (n base skip whole : ℕ) where
  pub read_both : (t : Ty) (p q : Part Place) → Both n base skip whole (Moved n base skip whole) p q → Both n base skip whole Same (read_from t p) (read_from t q)
  read_both t p q h s u r = bind_both n base skip whole (Moved n base skip whole) Same u (p s) (q u) (read t) (read t) (h s u r) (λ a c e. reads n base skip whole t a c e)

  pub step_both : (t : Ty) (up post : Bool) (p q : Part Place) → Both n base skip whole (Moved n base skip whole) p q → Both n base skip whole Same (step_value t up post p) (step_value t up post q)
  step_both t up post p q h =
      node_both n base skip whole Same
      (λ u. then_do (p u) (λ a w. then_do (read t a w) (λ x y. then_do (write t a (stepped t up x) y) (λ z v. Goes (first_if post x z) v))))
      (λ u. then_do (q u) (λ a w. then_do (read t a w) (λ x y. then_do (write t a (stepped t up x) y) (λ z v. Goes (first_if post x z) v))))
      (λ s u r. bind_both n base skip whole (Moved n base skip whole) Same u (p s) (q u)
      (λ a w. then_do (read t a w) (λ x y. then_do (write t a (stepped t up x) y) (λ z v. Goes (first_if post x z) v)))
      (λ a w. then_do (read t a w) (λ x y. then_do (write t a (stepped t up x) y) (λ z v. Goes (first_if post x z) v))) (h s u r)
      (λ a c e. with_value n base skip whole Same (read t a) (read t c)
      (λ x y. then_do (write t a (stepped t up x) y) (λ z v. Goes (first_if post x z) v))
      (λ x y. then_do (write t c (stepped t up x) y) (λ z v. Goes (first_if post x z) v)) (reads n base skip whole t a c e)
      (λ x. with_value n base skip whole Same (write t a (stepped t up x)) (write t c (stepped t up x)) (λ z v. Goes (first_if post x z) v) (λ z v. Goes (first_if post x z) v)
      (writes n base skip whole t a c (stepped t up x) e) (λ z. goes_both n base skip whole Same (first_if post x z) (first_if post x z) refl))))

  plain_both : (a : Ty) (o : Mark) (c : Ty) (x : Value) (p q : Part Value) → Both n base skip whole Same p q
      → Both n base skip whole Same (λ s. then_do (p s) (λ y t. Goes (combined a o c x y) t)) (λ s. then_do (q s) (λ y t. Goes (combined a o c x y) t))
  plain_both a o c x p q h =
      with_value n base skip whole Same p q (λ y t. Goes (combined a o c x y) t) (λ y t. Goes (combined a o c x y) t) h (λ y. goes_both n base skip whole Same (combined a o c x y) (combined a o c x y) refl)

  pub operator_both : (a : Ty) (o : Mark) (c : Ty) (x : Value) (p q : Part Value) → Both n base skip whole Same p q → Both n base skip whole Same (operator_value a o c x p) (operator_value a o c x q)
  operator_both a m.ShiftLeftAssign c x p q h = plain_both a m.ShiftLeftAssign c x p q h
  operator_both a m.ShiftRightAssign c x p q h = plain_both a m.ShiftRightAssign c x p q h
  operator_both a m.PlusPlus c x p q h = plain_both a m.PlusPlus c x p q h
  operator_both a m.MinusMinus c x p q h = plain_both a m.MinusMinus c x p q h
  operator_both a m.ShiftLeft c x p q h = plain_both a m.ShiftLeft c x p q h
  operator_both a m.ShiftRight c x p q h = plain_both a m.ShiftRight c x p q h
  operator_both a m.LessEqual c x p q h = plain_both a m.LessEqual c x p q h
  operator_both a m.GreaterEqual c x p q h = plain_both a m.GreaterEqual c x p q h
  operator_both a m.EqualEqual c x p q h = plain_both a m.EqualEqual c x p q h
  operator_both a m.BangEqual c x p q h = plain_both a m.BangEqual c x p q h
  operator_both a m.AndAnd c x p q h =
      truth_both n base skip whole Same x (λ s. then_do (p s) (λ y t. Goes (truth y) t)) (λ s. Goes (Num 0) s) (λ s. then_do (q s) (λ y t. Goes (truth y) t)) (λ s. Goes (Num 0) s)
      (with_value n base skip whole Same p q (λ y t. Goes (truth y) t) (λ y t. Goes (truth y) t) h (λ y. goes_both n base skip whole Same (truth y) (truth y) refl)) (goes_both n base skip whole Same (Num 0) (Num 0) refl)
  operator_both a m.OrOr c x p q h =
      truth_both n base skip whole Same x (λ s. Goes (Num 1) s) (λ s. then_do (p s) (λ y t. Goes (truth y) t)) (λ s. Goes (Num 1) s) (λ s. then_do (q s) (λ y t. Goes (truth y) t))
      (goes_both n base skip whole Same (Num 1) (Num 1) refl) (with_value n base skip whole Same p q (λ y t. Goes (truth y) t) (λ y t. Goes (truth y) t) h (λ y. goes_both n base skip whole Same (truth y) (truth y) refl))
  operator_both a m.PlusAssign c x p q h = plain_both a m.PlusAssign c x p q h
  operator_both a m.MinusAssign c x p q h = plain_both a m.MinusAssign c x p q h
  operator_both a m.StarAssign c x p q h = plain_both a m.StarAssign c x p q h
  operator_both a m.SlashAssign c x p q h = plain_both a m.SlashAssign c x p q h
  operator_both a m.PercentAssign c x p q h = plain_both a m.PercentAssign c x p q h
  operator_both a m.AndAssign c x p q h = plain_both a m.AndAssign c x p q h
  operator_both a m.OrAssign c x p q h = plain_both a m.OrAssign c x p q h
  operator_both a m.XorAssign c x p q h = plain_both a m.XorAssign c x p q h
  operator_both a m.LeftParen c x p q h = plain_both a m.LeftParen c x p q h
  operator_both a m.RightParen c x p q h = plain_both a m.RightParen c x p q h
  operator_both a m.LeftBrace c x p q h = plain_both a m.LeftBrace c x p q h
  operator_both a m.RightBrace c x p q h = plain_both a m.RightBrace c x p q h
  operator_both a m.LeftBracket c x p q h = plain_both a m.LeftBracket c x p q h
  operator_both a m.RightBracket c x p q h = plain_both a m.RightBracket c x p q h
  operator_both a m.Semicolon c x p q h = plain_both a m.Semicolon c x p q h
  operator_both a m.Comma c x p q h = h
  operator_both a m.Question c x p q h = plain_both a m.Question c x p q h
  operator_both a m.Colon c x p q h = plain_both a m.Colon c x p q h
  operator_both a m.Plus c x p q h = plain_both a m.Plus c x p q h
  operator_both a m.Minus c x p q h = plain_both a m.Minus c x p q h
  operator_both a m.Star c x p q h = plain_both a m.Star c x p q h
  operator_both a m.Slash c x p q h = plain_both a m.Slash c x p q h
  operator_both a m.Percent c x p q h = plain_both a m.Percent c x p q h
  operator_both a m.Ampersand c x p q h = plain_both a m.Ampersand c x p q h
  operator_both a m.Bar c x p q h = plain_both a m.Bar c x p q h
  operator_both a m.Caret c x p q h = plain_both a m.Caret c x p q h
  operator_both a m.Tilde c x p q h = plain_both a m.Tilde c x p q h
  operator_both a m.Bang c x p q h = plain_both a m.Bang c x p q h
  operator_both a m.Less c x p q h = plain_both a m.Less c x p q h
  operator_both a m.Greater c x p q h = plain_both a m.Greater c x p q h
  operator_both a m.Assign c x p q h = plain_both a m.Assign c x p q h

  pub assigned_both : (t : Ty) (o : Mark) (from : Ty) (p q : Part Place) (f g : Part Value) → Both n base skip whole (Moved n base skip whole) p q → Both n base skip whole Same f g
      → Both n base skip whole Same (assigned_value t o from p f) (assigned_value t o from q g)
  assigned_both t m.ShiftLeftAssign from p q f g h i = compound_both n base skip whole (reads n base skip whole) (writes n base skip whole) t m.ShiftLeftAssign from p q f g h i
  assigned_both t m.ShiftRightAssign from p q f g h i = compound_both n base skip whole (reads n base skip whole) (writes n base skip whole) t m.ShiftRightAssign from p q f g h i
  assigned_both t m.PlusPlus from p q f g h i = compound_both n base skip whole (reads n base skip whole) (writes n base skip whole) t m.PlusPlus from p q f g h i
  assigned_both t m.MinusMinus from p q f g h i = compound_both n base skip whole (reads n base skip whole) (writes n base skip whole) t m.MinusMinus from p q f g h i
  assigned_both t m.ShiftLeft from p q f g h i = compound_both n base skip whole (reads n base skip whole) (writes n base skip whole) t m.ShiftLeft from p q f g h i
  assigned_both t m.ShiftRight from p q f g h i = compound_both n base skip whole (reads n base skip whole) (writes n base skip whole) t m.ShiftRight from p q f g h i
  assigned_both t m.LessEqual from p q f g h i = compound_both n base skip whole (reads n base skip whole) (writes n base skip whole) t m.LessEqual from p q f g h i
  assigned_both t m.GreaterEqual from p q f g h i = compound_both n base skip whole (reads n base skip whole) (writes n base skip whole) t m.GreaterEqual from p q f g h i
  assigned_both t m.EqualEqual from p q f g h i = compound_both n base skip whole (reads n base skip whole) (writes n base skip whole) t m.EqualEqual from p q f g h i
  assigned_both t m.BangEqual from p q f g h i = compound_both n base skip whole (reads n base skip whole) (writes n base skip whole) t m.BangEqual from p q f g h i
  assigned_both t m.AndAnd from p q f g h i = compound_both n base skip whole (reads n base skip whole) (writes n base skip whole) t m.AndAnd from p q f g h i
  assigned_both t m.OrOr from p q f g h i = compound_both n base skip whole (reads n base skip whole) (writes n base skip whole) t m.OrOr from p q f g h i
  assigned_both t m.PlusAssign from p q f g h i = compound_both n base skip whole (reads n base skip whole) (writes n base skip whole) t m.PlusAssign from p q f g h i
  assigned_both t m.MinusAssign from p q f g h i = compound_both n base skip whole (reads n base skip whole) (writes n base skip whole) t m.MinusAssign from p q f g h i
  assigned_both t m.StarAssign from p q f g h i = compound_both n base skip whole (reads n base skip whole) (writes n base skip whole) t m.StarAssign from p q f g h i
  assigned_both t m.SlashAssign from p q f g h i = compound_both n base skip whole (reads n base skip whole) (writes n base skip whole) t m.SlashAssign from p q f g h i
  assigned_both t m.PercentAssign from p q f g h i = compound_both n base skip whole (reads n base skip whole) (writes n base skip whole) t m.PercentAssign from p q f g h i
  assigned_both t m.AndAssign from p q f g h i = compound_both n base skip whole (reads n base skip whole) (writes n base skip whole) t m.AndAssign from p q f g h i
  assigned_both t m.OrAssign from p q f g h i = compound_both n base skip whole (reads n base skip whole) (writes n base skip whole) t m.OrAssign from p q f g h i
  assigned_both t m.XorAssign from p q f g h i = compound_both n base skip whole (reads n base skip whole) (writes n base skip whole) t m.XorAssign from p q f g h i
  assigned_both t m.LeftParen from p q f g h i = compound_both n base skip whole (reads n base skip whole) (writes n base skip whole) t m.LeftParen from p q f g h i
  assigned_both t m.RightParen from p q f g h i = compound_both n base skip whole (reads n base skip whole) (writes n base skip whole) t m.RightParen from p q f g h i
  assigned_both t m.LeftBrace from p q f g h i = compound_both n base skip whole (reads n base skip whole) (writes n base skip whole) t m.LeftBrace from p q f g h i
  assigned_both t m.RightBrace from p q f g h i = compound_both n base skip whole (reads n base skip whole) (writes n base skip whole) t m.RightBrace from p q f g h i
  assigned_both t m.LeftBracket from p q f g h i = compound_both n base skip whole (reads n base skip whole) (writes n base skip whole) t m.LeftBracket from p q f g h i
  assigned_both t m.RightBracket from p q f g h i = compound_both n base skip whole (reads n base skip whole) (writes n base skip whole) t m.RightBracket from p q f g h i
  assigned_both t m.Semicolon from p q f g h i = compound_both n base skip whole (reads n base skip whole) (writes n base skip whole) t m.Semicolon from p q f g h i
  assigned_both t m.Comma from p q f g h i = compound_both n base skip whole (reads n base skip whole) (writes n base skip whole) t m.Comma from p q f g h i
  assigned_both t m.Question from p q f g h i = compound_both n base skip whole (reads n base skip whole) (writes n base skip whole) t m.Question from p q f g h i
  assigned_both t m.Colon from p q f g h i = compound_both n base skip whole (reads n base skip whole) (writes n base skip whole) t m.Colon from p q f g h i
  assigned_both t m.Plus from p q f g h i = compound_both n base skip whole (reads n base skip whole) (writes n base skip whole) t m.Plus from p q f g h i
  assigned_both t m.Minus from p q f g h i = compound_both n base skip whole (reads n base skip whole) (writes n base skip whole) t m.Minus from p q f g h i
  assigned_both t m.Star from p q f g h i = compound_both n base skip whole (reads n base skip whole) (writes n base skip whole) t m.Star from p q f g h i
  assigned_both t m.Slash from p q f g h i = compound_both n base skip whole (reads n base skip whole) (writes n base skip whole) t m.Slash from p q f g h i
  assigned_both t m.Percent from p q f g h i = compound_both n base skip whole (reads n base skip whole) (writes n base skip whole) t m.Percent from p q f g h i
  assigned_both t m.Ampersand from p q f g h i = compound_both n base skip whole (reads n base skip whole) (writes n base skip whole) t m.Ampersand from p q f g h i
  assigned_both t m.Bar from p q f g h i = compound_both n base skip whole (reads n base skip whole) (writes n base skip whole) t m.Bar from p q f g h i
  assigned_both t m.Caret from p q f g h i = compound_both n base skip whole (reads n base skip whole) (writes n base skip whole) t m.Caret from p q f g h i
  assigned_both t m.Tilde from p q f g h i = compound_both n base skip whole (reads n base skip whole) (writes n base skip whole) t m.Tilde from p q f g h i
  assigned_both t m.Bang from p q f g h i = compound_both n base skip whole (reads n base skip whole) (writes n base skip whole) t m.Bang from p q f g h i
  assigned_both t m.Less from p q f g h i = compound_both n base skip whole (reads n base skip whole) (writes n base skip whole) t m.Less from p q f g h i
  assigned_both t m.Greater from p q f g h i = compound_both n base skip whole (reads n base skip whole) (writes n base skip whole) t m.Greater from p q f g h i
  assigned_both t m.Assign from p q f g h i = assign_both n base skip whole (reads n base skip whole) (writes n base skip whole) t p q f g h i

  pub chain_both : (k : ℕ) (p q : Part Value) (f g : Value → Part Value) → Both n base skip whole Same p q → ((x : Value) → Both n base skip whole Same (f x) (g x))
      → Both n base skip whole Same (chain_value k p f) (chain_value k q g)
  chain_both k p q f g h i = nodes_both n base skip whole Same k (λ t. then_do (p t) f) (λ t. then_do (q t) g) (with_value n base skip whole Same p q f g h i)

  -- ---- arguments

  pub with_list : {A B : Type 0} (R : A → B → Type 0) (p q : Part (List Value)) (f : List Value → Part A) (g : List Value → Part B) → Both n base skip whole SameList p q
      → ((x : List Value) → Both n base skip whole R (f x) (g x)) → Both n base skip whole R (λ s. then_do (p s) f) (λ t. then_do (q t) g)
  with_list R p q f g h i s t r = bind_both n base skip whole SameList R t (p s) (q t) f g (h s t r) (λ x y e. subst (λ z. Both n base skip whole R (f x) (g z)) e (i x))

  pub none_both : Both n base skip whole SameList no_values no_values
  none_both = goes_both n base skip whole SameList [] [] refl

  pub more_both : (p q : Part Value) (f g : Part (List Value)) → Both n base skip whole Same p q → Both n base skip whole SameList f g → Both n base skip whole SameList (and_values p f) (and_values q g)
  more_both p q f g h i =
      with_value n base skip whole SameList p q (λ x t. then_do (f t) (λ xs u. Goes (x ∷ xs) u)) (λ x t. then_do (g t) (λ xs u. Goes (x ∷ xs) u)) h
      (λ x. with_list SameList f g (λ xs u. Goes (x ∷ xs) u) (λ xs u. Goes (x ∷ xs) u) i (λ xs. goes_both n base skip whole SameList (x ∷ xs) (x ∷ xs) refl))

  pub builtin_both : (work : Work) (b : Builtin) (e : Scalar) (f g : Part (List Value)) → Both n base skip whole SameList f g → Both n base skip whole Same (builtin_value work b e f) (builtin_value work b e g)
  builtin_both work b e f g h =
      node_both n base skip whole Same (λ u. then_do (f u) (λ xs v. Goes (with_words xs (λ ws. Num (applied_to work (function_of b) e ws))) v))
      (λ u. then_do (g u) (λ xs v. Goes (with_words xs (λ ws. Num (applied_to work (function_of b) e ws))) v))
      (with_list Same f g (λ xs v. Goes (with_words xs (λ ws. Num (applied_to work (function_of b) e ws))) v) (λ xs v. Goes (with_words xs (λ ws. Num (applied_to work (function_of b) e ws))) v) h
      (λ xs. goes_both n base skip whole Same (with_words xs (λ ws. Num (applied_to work (function_of b) e ws))) (with_words xs (λ ws. Num (applied_to work (function_of b) e ws))) refl))
