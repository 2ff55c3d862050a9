-- Marks that have no clause of their own.
use Rattle.std.proofs.Common.{◌≡◌, ℕ, refl, ap}
use Rattle.clc_lexer.specs.declared.marks.Mark.{Mark}
use Rattle.clc_lexer.specs.declared.marks.Mark.TheVariants as m
use Rattle.clc_types.specs.declared.typed.Ty.{Ty}
use Rattle.item_meaning.specs.declared.values.Value.{Value}
use Rattle.item_meaning.specs.declared.values.Place.{Place}
use Rattle.item_meaning.specs.ItemState.{State, Run, Goes, Spent, then_do, after_turn, node}
use Rattle.item_meaning.specs.Operators.{combined}
use Rattle.item_meaning.specs.NodeMeanings.{Part, operator_value, assigned_value, compound_value}

pub plain_operator : (a : Ty) (o : Mark) (c : Ty) (x : Value) (p : Part Value) (s : State) → (o ≡ m.AndAnd → ⊥) → (o ≡ m.OrOr → ⊥) → (o ≡ m.Comma → ⊥)
    → operator_value a o c x p s ≡ then_do (p s) (λ y t. Goes (combined a o c x y) t)
plain_operator a m.ShiftLeftAssign c x p s h g k = refl
plain_operator a m.ShiftRightAssign c x p s h g k = refl
plain_operator a m.PlusPlus c x p s h g k = refl
plain_operator a m.MinusMinus c x p s h g k = refl
plain_operator a m.ShiftLeft c x p s h g k = refl
plain_operator a m.ShiftRight c x p s h g k = refl
plain_operator a m.LessEqual c x p s h g k = refl
plain_operator a m.GreaterEqual c x p s h g k = refl
plain_operator a m.EqualEqual c x p s h g k = refl
plain_operator a m.BangEqual c x p s h g k = refl
plain_operator a m.AndAnd c x p s h g k = absurd (h refl)
plain_operator a m.OrOr c x p s h g k = absurd (g refl)
plain_operator a m.PlusAssign c x p s h g k = refl
plain_operator a m.MinusAssign c x p s h g k = refl
plain_operator a m.StarAssign c x p s h g k = refl
plain_operator a m.SlashAssign c x p s h g k = refl
plain_operator a m.PercentAssign c x p s h g k = refl
plain_operator a m.AndAssign c x p s h g k = refl
plain_operator a m.OrAssign c x p s h g k = refl
plain_operator a m.XorAssign c x p s h g k = refl
plain_operator a m.LeftParen c x p s h g k = refl
plain_operator a m.RightParen c x p s h g k = refl
plain_operator a m.LeftBrace c x p s h g k = refl
plain_operator a m.RightBrace c x p s h g k = refl
plain_operator a m.LeftBracket c x p s h g k = refl
plain_operator a m.RightBracket c x p s h g k = refl
plain_operator a m.Semicolon c x p s h g k = refl
plain_operator a m.Comma c x p s h g k = absurd (k refl)
plain_operator a m.Question c x p s h g k = refl
plain_operator a m.Colon c x p s h g k = refl
plain_operator a m.Plus c x p s h g k = refl
plain_operator a m.Minus c x p s h g k = refl
plain_operator a m.Star c x p s h g k = refl
plain_operator a m.Slash c x p s h g k = refl
plain_operator a m.Percent c x p s h g k = refl
plain_operator a m.Ampersand c x p s h g k = refl
plain_operator a m.Bar c x p s h g k = refl
plain_operator a m.Caret c x p s h g k = refl
plain_operator a m.Tilde c x p s h g k = refl
plain_operator a m.Bang c x p s h g k = refl
plain_operator a m.Less c x p s h g k = refl
plain_operator a m.Greater c x p s h g k = refl
plain_operator a m.Assign c x p s h g k = refl

pub compound_assignment : (t : Ty) (o : Mark) (from : Ty) (q : Part Place) (p : Part Value) (s : State) → (o ≡ m.Assign → ⊥) → assigned_value t o from q p s ≡ compound_value t o from q p s
compound_assignment t m.ShiftLeftAssign from q p s h = refl
compound_assignment t m.ShiftRightAssign from q p s h = refl
compound_assignment t m.PlusPlus from q p s h = refl
compound_assignment t m.MinusMinus from q p s h = refl
compound_assignment t m.ShiftLeft from q p s h = refl
compound_assignment t m.ShiftRight from q p s h = refl
compound_assignment t m.LessEqual from q p s h = refl
compound_assignment t m.GreaterEqual from q p s h = refl
compound_assignment t m.EqualEqual from q p s h = refl
compound_assignment t m.BangEqual from q p s h = refl
compound_assignment t m.AndAnd from q p s h = refl
compound_assignment t m.OrOr from q p s h = refl
compound_assignment t m.PlusAssign from q p s h = refl
compound_assignment t m.MinusAssign from q p s h = refl
compound_assignment t m.StarAssign from q p s h = refl
compound_assignment t m.SlashAssign from q p s h = refl
compound_assignment t m.PercentAssign from q p s h = refl
compound_assignment t m.AndAssign from q p s h = refl
compound_assignment t m.OrAssign from q p s h = refl
compound_assignment t m.XorAssign from q p s h = refl
compound_assignment t m.LeftParen from q p s h = refl
compound_assignment t m.RightParen from q p s h = refl
compound_assignment t m.LeftBrace from q p s h = refl
compound_assignment t m.RightBrace from q p s h = refl
compound_assignment t m.LeftBracket from q p s h = refl
compound_assignment t m.RightBracket from q p s h = refl
compound_assignment t m.Semicolon from q p s h = refl
compound_assignment t m.Comma from q p s h = refl
compound_assignment t m.Question from q p s h = refl
compound_assignment t m.Colon from q p s h = refl
compound_assignment t m.Plus from q p s h = refl
compound_assignment t m.Minus from q p s h = refl
compound_assignment t m.Star from q p s h = refl
compound_assignment t m.Slash from q p s h = refl
compound_assignment t m.Percent from q p s h = refl
compound_assignment t m.Ampersand from q p s h = refl
compound_assignment t m.Bar from q p s h = refl
compound_assignment t m.Caret from q p s h = refl
compound_assignment t m.Tilde from q p s h = refl
compound_assignment t m.Bang from q p s h = refl
compound_assignment t m.Less from q p s h = refl
compound_assignment t m.Greater from q p s h = refl
compound_assignment t m.Assign from q p s h = absurd (h refl)

-- without turns nothing begins
pub node_spent : {A : Type 0} (s : State) (go : State → Run A) → s.left ≡ 0 → node s go ≡ Spent
node_spent s go h = ap (λ n. after_turn n s go) h

pub assigned_spent : (t : Ty) (o : Mark) (from : Ty) (q : Part Place) (p : Part Value) (s : State) → s.left ≡ 0 → assigned_value t o from q p s ≡ Spent
assigned_spent t m.ShiftLeftAssign from q p s h = node_spent s _ h
assigned_spent t m.ShiftRightAssign from q p s h = node_spent s _ h
assigned_spent t m.PlusPlus from q p s h = node_spent s _ h
assigned_spent t m.MinusMinus from q p s h = node_spent s _ h
assigned_spent t m.ShiftLeft from q p s h = node_spent s _ h
assigned_spent t m.ShiftRight from q p s h = node_spent s _ h
assigned_spent t m.LessEqual from q p s h = node_spent s _ h
assigned_spent t m.GreaterEqual from q p s h = node_spent s _ h
assigned_spent t m.EqualEqual from q p s h = node_spent s _ h
assigned_spent t m.BangEqual from q p s h = node_spent s _ h
assigned_spent t m.AndAnd from q p s h = node_spent s _ h
assigned_spent t m.OrOr from q p s h = node_spent s _ h
assigned_spent t m.PlusAssign from q p s h = node_spent s _ h
assigned_spent t m.MinusAssign from q p s h = node_spent s _ h
assigned_spent t m.StarAssign from q p s h = node_spent s _ h
assigned_spent t m.SlashAssign from q p s h = node_spent s _ h
assigned_spent t m.PercentAssign from q p s h = node_spent s _ h
assigned_spent t m.AndAssign from q p s h = node_spent s _ h
assigned_spent t m.OrAssign from q p s h = node_spent s _ h
assigned_spent t m.XorAssign from q p s h = node_spent s _ h
assigned_spent t m.LeftParen from q p s h = node_spent s _ h
assigned_spent t m.RightParen from q p s h = node_spent s _ h
assigned_spent t m.LeftBrace from q p s h = node_spent s _ h
assigned_spent t m.RightBrace from q p s h = node_spent s _ h
assigned_spent t m.LeftBracket from q p s h = node_spent s _ h
assigned_spent t m.RightBracket from q p s h = node_spent s _ h
assigned_spent t m.Semicolon from q p s h = node_spent s _ h
assigned_spent t m.Comma from q p s h = node_spent s _ h
assigned_spent t m.Question from q p s h = node_spent s _ h
assigned_spent t m.Colon from q p s h = node_spent s _ h
assigned_spent t m.Plus from q p s h = node_spent s _ h
assigned_spent t m.Minus from q p s h = node_spent s _ h
assigned_spent t m.Star from q p s h = node_spent s _ h
assigned_spent t m.Slash from q p s h = node_spent s _ h
assigned_spent t m.Percent from q p s h = node_spent s _ h
assigned_spent t m.Ampersand from q p s h = node_spent s _ h
assigned_spent t m.Bar from q p s h = node_spent s _ h
assigned_spent t m.Caret from q p s h = node_spent s _ h
assigned_spent t m.Tilde from q p s h = node_spent s _ h
assigned_spent t m.Bang from q p s h = node_spent s _ h
assigned_spent t m.Less from q p s h = node_spent s _ h
assigned_spent t m.Greater from q p s h = node_spent s _ h
assigned_spent t m.Assign from q p s h = node_spent s _ h
