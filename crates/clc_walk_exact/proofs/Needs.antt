-- The tests of each part stand in order, and lie at its operands.
use Rattle.std.proofs.Common.{◌≡◌, ℕ, suc, ◌+◌, ◌<◌, ◌≤◌, Bool, true, false, List, [], ◌∷◌, ◌++◌, Option, Some, None, refl, sym, ap, ◌∙◌, subst, arith, lit≤, append_assoc}
use Rattle.std.specs.Prelude.{slice_get}
use Rattle.clc_lexer.specs.declared.marks.Mark.{Mark}
use Rattle.clc_lexer.specs.declared.marks.Mark.TheVariants as m
use Rattle.q_lane.specs.declared.kinds.Scalar.{Scalar}
use Rattle.clc_types.specs.declared.type_rule.TypeRule.{TypeRule}
use Rattle.clc_types.specs.declared.type_rule.TypeRule.TheVariants.{S3, S4, S5, S6, S7, S8, S9, S12, S13}
use Rattle.clc_types.specs.declared.typed.Builtin.{Builtin}
use Rattle.clc_types.specs.declared.forms.Fault.{Fault}
use Rattle.clc_types.specs.declared.forms.Kind.{Kind}
use Rattle.clc_types.specs.declared.forms.Place.{Place}
use Rattle.clc_types.specs.declared.forms.Form.{Form}
use Rattle.clc_types.specs.declared.forms.Sofar.{Sofar}
use Rattle.clc_types.specs.declared.forms.Shape.{Shape}
use Rattle.clc_types.specs.declared.forms.Argument.{Argument}
use Rattle.clc_types.specs.declared.forms.Signature.{Signature}
use Rattle.clc_types.specs.declared.forms.Home.{Home}
use Rattle.clc_types.specs.Judged.{rank, violations}
use Rattle.clc_types.specs.Rules.{scalar_needed, indexed_needed, pointer_needed, no_array, fit_needed, step_needs, index_needs, operands_needed, operator_needs, conditional_needs, assigned_needed, value_needed, assign_needs, fits, signed_needs, call_needs, builtin_needs, builtin_params, return_needs, bare_needs}
use Rattle.clc_walk_exact.proofs.Least.{Inside, Sorted, Rising, inside_none, inside_append, sorted_append, sorted_violations, inside_violations, wider}

-- tests in order, between these tokens
pub record Sound (lo hi : ℕ) (fs : List Fault) : Type 0 where
  pub sorted : Sorted fs
  pub inside : Inside lo hi fs

pub sound_none : (lo hi : ℕ) → Sound lo hi []
sound_none lo hi = record { sorted = tt; inside = inside_none lo hi }

pub sound_at : (p : ℕ) (xs : List (TypeRule × Bool)) → Rising xs → Sound p (p + 1) (violations p xs)
sound_at p xs h = record { sorted = sorted_violations p xs h; inside = inside_violations p xs }

pub sound_1 : (p : ℕ) (r : TypeRule) (a : Bool) → Sound p (p + 1) (violations p ((r, a) ∷ []))
sound_1 p r a = sound_at p ((r, a) ∷ []) (tt, tt)

pub sound_2 : (p : ℕ) (r s : TypeRule) (a b : Bool) → rank r ≤ rank s → Sound p (p + 1) (violations p ((r, a) ∷ (s, b) ∷ []))
sound_2 p r s a b h = sound_at p ((r, a) ∷ (s, b) ∷ []) ((h, tt), (tt, tt))

pub sound_3 : (p : ℕ) (r s t : TypeRule) (a b d : Bool) → rank r ≤ rank s → rank s ≤ rank t → Sound p (p + 1) (violations p ((r, a) ∷ (s, b) ∷ (t, d) ∷ []))
sound_3 p r s t a b d h i = sound_at p ((r, a) ∷ (s, b) ∷ (t, d) ∷ []) ((h, (omega (arith, h, i), tt)), ((i, tt), (tt, tt)))

pub sound_4 : (p : ℕ) (r s t u : TypeRule) (a b d e : Bool) → rank r ≤ rank s → rank s ≤ rank t → rank t ≤ rank u → Sound p (p + 1) (violations p ((r, a) ∷ (s, b) ∷ (t, d) ∷ (u, e) ∷ []))
sound_4 p r s t u a b d e h i j = sound_at p ((r, a) ∷ (s, b) ∷ (t, d) ∷ (u, e) ∷ []) ((h, (omega (arith, h, i), (omega (arith, h, i, j), tt))), ((i, (omega (arith, i, j), tt)), ((j, tt), (tt, tt))))

pub sound_append : (lo mid mid' hi : ℕ) (fs gs : List Fault) → mid ≤ mid' → lo ≤ mid' → mid ≤ hi → Sound lo mid fs → Sound mid' hi gs → Sound lo hi (fs ++ gs)
sound_append lo mid mid' hi fs gs a b c h i = record {
  sorted = sorted_append lo mid' hi fs gs (wider lo mid lo mid' fs (omega arith) a h.inside) i.inside h.sorted i.sorted;
  inside = inside_append lo hi fs gs (wider lo mid lo hi fs (omega arith) c h.inside) (wider mid' hi lo hi gs b (omega arith) i.inside);
}

pub sound_wider : (lo hi lo' hi' : ℕ) (fs : List Fault) → lo' ≤ lo → hi ≤ hi' → Sound lo hi fs → Sound lo' hi' fs
sound_wider lo hi lo' hi' fs a b h = record { sorted = h.sorted; inside = wider lo hi lo' hi' fs a b h.inside }

-- two tests, at two places
pub sound_both : (p q : ℕ) (fs gs : List Fault) → p < q → Sound p (p + 1) fs → Sound q (q + 1) gs → Sound p (q + 1) (fs ++ gs)
sound_both p q fs gs h i j = sound_append p (p + 1) q (q + 1) fs gs (omega (arith, h)) (omega (arith, h)) (omega (arith, h)) i j

pub scalar_sound : (p : ℕ) (t : Kind) → Sound p (p + 1) (scalar_needed p t)
scalar_sound p t = sound_2 p S3 S12 _ _ (lit≤ tt)

pub indexed_sound : (p : ℕ) (t : Kind) → Sound p (p + 1) (indexed_needed p t)
indexed_sound p t = sound_2 p S3 S12 _ _ (lit≤ tt)

pub pointer_sound : (p : ℕ) (t : Kind) → Sound p (p + 1) (pointer_needed p t)
pointer_sound p t = sound_2 p S3 S12 _ _ (lit≤ tt)

pub no_array_sound : (p : ℕ) (t : Kind) → Sound p (p + 1) (no_array p t)
no_array_sound p t = sound_1 p S12 _

pub fit_sound : (s : Kind) (p : ℕ) (t : Kind) → Sound p (p + 1) (fit_needed s p t)
fit_sound s p t = sound_2 p S3 S12 _ _ (lit≤ tt)

pub step_sound : (p : ℕ) (x : Form) → Sound p (p + 1) (step_needs p x)
step_sound p x = sound_4 p S3 S4 S5 S12 _ _ _ _ (lit≤ tt) (lit≤ tt) (lit≤ tt)

pub index_sound : (p q : ℕ) (x y : Form) → p < q → Sound p (q + 1) (index_needs p x q y)
index_sound p q x y h = sound_both p q _ _ h (indexed_sound p x.kind) (scalar_sound q y.kind)

comma_sound : (p q : ℕ) (a b : Kind) → p < q → Sound p (q + 1) (operands_needed m.Comma p a q b)
comma_sound p q a b h = sound_both p q _ _ h (no_array_sound p a) (no_array_sound q b)

pub operands_sound : (o : Mark) (p q : ℕ) (a b : Kind) → p < q → Sound p (q + 1) (operands_needed o p a q b)
operands_sound m.ShiftLeftAssign p q a b h = sound_both p q _ _ h (sound_2 p S3 S12 _ _ (lit≤ tt)) (sound_2 q S3 S12 _ _ (lit≤ tt))
operands_sound m.ShiftRightAssign p q a b h = sound_both p q _ _ h (sound_2 p S3 S12 _ _ (lit≤ tt)) (sound_2 q S3 S12 _ _ (lit≤ tt))
operands_sound m.PlusPlus p q a b h = sound_both p q _ _ h (sound_2 p S3 S12 _ _ (lit≤ tt)) (sound_2 q S3 S12 _ _ (lit≤ tt))
operands_sound m.MinusMinus p q a b h = sound_both p q _ _ h (sound_2 p S3 S12 _ _ (lit≤ tt)) (sound_2 q S3 S12 _ _ (lit≤ tt))
operands_sound m.ShiftLeft p q a b h = sound_both p q _ _ h (sound_2 p S3 S12 _ _ (lit≤ tt)) (sound_2 q S3 S12 _ _ (lit≤ tt))
operands_sound m.ShiftRight p q a b h = sound_both p q _ _ h (sound_2 p S3 S12 _ _ (lit≤ tt)) (sound_2 q S3 S12 _ _ (lit≤ tt))
operands_sound m.LessEqual p q a b h = sound_both p q _ _ h (sound_2 p S3 S12 _ _ (lit≤ tt)) (sound_2 q S3 S12 _ _ (lit≤ tt))
operands_sound m.GreaterEqual p q a b h = sound_both p q _ _ h (sound_2 p S3 S12 _ _ (lit≤ tt)) (sound_2 q S3 S12 _ _ (lit≤ tt))
operands_sound m.EqualEqual p q a b h = sound_both p q _ _ h (sound_2 p S3 S12 _ _ (lit≤ tt)) (sound_2 q S3 S12 _ _ (lit≤ tt))
operands_sound m.BangEqual p q a b h = sound_both p q _ _ h (sound_2 p S3 S12 _ _ (lit≤ tt)) (sound_2 q S3 S12 _ _ (lit≤ tt))
operands_sound m.AndAnd p q a b h = sound_both p q _ _ h (sound_2 p S3 S12 _ _ (lit≤ tt)) (sound_2 q S3 S12 _ _ (lit≤ tt))
operands_sound m.OrOr p q a b h = sound_both p q _ _ h (sound_2 p S3 S12 _ _ (lit≤ tt)) (sound_2 q S3 S12 _ _ (lit≤ tt))
operands_sound m.PlusAssign p q a b h = sound_both p q _ _ h (sound_2 p S3 S12 _ _ (lit≤ tt)) (sound_2 q S3 S12 _ _ (lit≤ tt))
operands_sound m.MinusAssign p q a b h = sound_both p q _ _ h (sound_2 p S3 S12 _ _ (lit≤ tt)) (sound_2 q S3 S12 _ _ (lit≤ tt))
operands_sound m.StarAssign p q a b h = sound_both p q _ _ h (sound_2 p S3 S12 _ _ (lit≤ tt)) (sound_2 q S3 S12 _ _ (lit≤ tt))
operands_sound m.SlashAssign p q a b h = sound_both p q _ _ h (sound_2 p S3 S12 _ _ (lit≤ tt)) (sound_2 q S3 S12 _ _ (lit≤ tt))
operands_sound m.PercentAssign p q a b h = sound_both p q _ _ h (sound_2 p S3 S12 _ _ (lit≤ tt)) (sound_2 q S3 S12 _ _ (lit≤ tt))
operands_sound m.AndAssign p q a b h = sound_both p q _ _ h (sound_2 p S3 S12 _ _ (lit≤ tt)) (sound_2 q S3 S12 _ _ (lit≤ tt))
operands_sound m.OrAssign p q a b h = sound_both p q _ _ h (sound_2 p S3 S12 _ _ (lit≤ tt)) (sound_2 q S3 S12 _ _ (lit≤ tt))
operands_sound m.XorAssign p q a b h = sound_both p q _ _ h (sound_2 p S3 S12 _ _ (lit≤ tt)) (sound_2 q S3 S12 _ _ (lit≤ tt))
operands_sound m.LeftParen p q a b h = sound_both p q _ _ h (sound_2 p S3 S12 _ _ (lit≤ tt)) (sound_2 q S3 S12 _ _ (lit≤ tt))
operands_sound m.RightParen p q a b h = sound_both p q _ _ h (sound_2 p S3 S12 _ _ (lit≤ tt)) (sound_2 q S3 S12 _ _ (lit≤ tt))
operands_sound m.LeftBrace p q a b h = sound_both p q _ _ h (sound_2 p S3 S12 _ _ (lit≤ tt)) (sound_2 q S3 S12 _ _ (lit≤ tt))
operands_sound m.RightBrace p q a b h = sound_both p q _ _ h (sound_2 p S3 S12 _ _ (lit≤ tt)) (sound_2 q S3 S12 _ _ (lit≤ tt))
operands_sound m.LeftBracket p q a b h = sound_both p q _ _ h (sound_2 p S3 S12 _ _ (lit≤ tt)) (sound_2 q S3 S12 _ _ (lit≤ tt))
operands_sound m.RightBracket p q a b h = sound_both p q _ _ h (sound_2 p S3 S12 _ _ (lit≤ tt)) (sound_2 q S3 S12 _ _ (lit≤ tt))
operands_sound m.Semicolon p q a b h = sound_both p q _ _ h (sound_2 p S3 S12 _ _ (lit≤ tt)) (sound_2 q S3 S12 _ _ (lit≤ tt))
operands_sound m.Comma p q a b h = comma_sound p q a b h
operands_sound m.Question p q a b h = sound_both p q _ _ h (sound_2 p S3 S12 _ _ (lit≤ tt)) (sound_2 q S3 S12 _ _ (lit≤ tt))
operands_sound m.Colon p q a b h = sound_both p q _ _ h (sound_2 p S3 S12 _ _ (lit≤ tt)) (sound_2 q S3 S12 _ _ (lit≤ tt))
operands_sound m.Plus p q a b h = sound_both p q _ _ h (sound_2 p S3 S12 _ _ (lit≤ tt)) (sound_2 q S3 S12 _ _ (lit≤ tt))
operands_sound m.Minus p q a b h = sound_both p q _ _ h (sound_2 p S3 S12 _ _ (lit≤ tt)) (sound_2 q S3 S12 _ _ (lit≤ tt))
operands_sound m.Star p q a b h = sound_both p q _ _ h (sound_2 p S3 S12 _ _ (lit≤ tt)) (sound_2 q S3 S12 _ _ (lit≤ tt))
operands_sound m.Slash p q a b h = sound_both p q _ _ h (sound_2 p S3 S12 _ _ (lit≤ tt)) (sound_2 q S3 S12 _ _ (lit≤ tt))
operands_sound m.Percent p q a b h = sound_both p q _ _ h (sound_2 p S3 S12 _ _ (lit≤ tt)) (sound_2 q S3 S12 _ _ (lit≤ tt))
operands_sound m.Ampersand p q a b h = sound_both p q _ _ h (sound_2 p S3 S12 _ _ (lit≤ tt)) (sound_2 q S3 S12 _ _ (lit≤ tt))
operands_sound m.Bar p q a b h = sound_both p q _ _ h (sound_2 p S3 S12 _ _ (lit≤ tt)) (sound_2 q S3 S12 _ _ (lit≤ tt))
operands_sound m.Caret p q a b h = sound_both p q _ _ h (sound_2 p S3 S12 _ _ (lit≤ tt)) (sound_2 q S3 S12 _ _ (lit≤ tt))
operands_sound m.Tilde p q a b h = sound_both p q _ _ h (sound_2 p S3 S12 _ _ (lit≤ tt)) (sound_2 q S3 S12 _ _ (lit≤ tt))
operands_sound m.Bang p q a b h = sound_both p q _ _ h (sound_2 p S3 S12 _ _ (lit≤ tt)) (sound_2 q S3 S12 _ _ (lit≤ tt))
operands_sound m.Less p q a b h = sound_both p q _ _ h (sound_2 p S3 S12 _ _ (lit≤ tt)) (sound_2 q S3 S12 _ _ (lit≤ tt))
operands_sound m.Greater p q a b h = sound_both p q _ _ h (sound_2 p S3 S12 _ _ (lit≤ tt)) (sound_2 q S3 S12 _ _ (lit≤ tt))
operands_sound m.Assign p q a b h = sound_both p q _ _ h (sound_2 p S3 S12 _ _ (lit≤ tt)) (sound_2 q S3 S12 _ _ (lit≤ tt))

pub operator_sound : (o : Mark) (p q : ℕ) (a : Sofar) (y : Form) → p < q → Sound p (q + 1) (operator_needs o p a q y)
operator_sound o p q a y h = operands_sound o p q a.kind y.kind h

pub conditional_sound : (p q r : ℕ) (x y z : Form) → p < q → q < r → Sound p (r + 1) (conditional_needs p x q y r z)
conditional_sound p q r x y z h i =
    sound_append p (p + 1) q (r + 1) _ _ (omega (arith, h)) (omega (arith, h)) (omega (arith, h, i)) (scalar_sound p x.kind) (sound_both q r _ _ i (scalar_sound q y.kind) (scalar_sound r z.kind))

pub assign_sound : (o : Mark) (p q : ℕ) (x y : Form) → p < q → Sound p (q + 1) (assign_needs o p x q y)
assign_sound o p q x y h =
    sound_both p q _ _ h (sound_4 p S3 S4 S5 S12 _ _ _ _ (lit≤ tt) (lit≤ tt) (lit≤ tt)) (sound_2 q S3 S12 _ _ (lit≤ tt))

pub return_sound : (r : Option Scalar) (p : ℕ) (t : Kind) → Sound p (p + 1) (return_needs r p t)
return_sound None p t = sound_1 p S13 true
return_sound (Some s) p t = sound_1 p S13 _

pub bare_sound : (r : Option Scalar) (p : ℕ) → Sound p (p + 1) (bare_needs r p)
bare_sound None p = sound_none p (p + 1)
bare_sound (Some s) p = sound_1 p S13 true

-- arguments stand in order
abbrev pub Placed : ℕ → ℕ → List Argument → Type 0
Placed lo hi [] = lo ≤ hi
Placed lo hi (x ∷ xs) = (lo ≤ x.place) × Placed (x.place + 1) hi xs

pub placed_le : (lo hi : ℕ) (xs : List Argument) → Placed lo hi xs → lo ≤ hi
placed_le lo hi [] h = h
placed_le lo hi (x ∷ xs) h = let k = placed_le (x.place + 1) hi xs h.1 in let l = h.0 in omega (arith, k, l)

-- one more, behind
pub placed_push : (lo mid hi : ℕ) (xs : List Argument) (x : Argument) → Placed lo mid xs → mid ≤ x.place → x.place < hi → Placed lo hi (xs ++ x ∷ [])
placed_push lo mid hi [] x h a b = (omega (arith, h, a), omega (arith, b))
placed_push lo mid hi (y ∷ ys) x h a b = (h.0, placed_push (y.place + 1) mid hi ys x h.1 a b)

pub fits_sound : (lo hi : ℕ) (ss : List Shape) (xs : List Argument) → Placed lo hi xs → Sound lo hi (fits ss xs)
fits_sound lo hi [] xs h = sound_none lo hi
fits_sound lo hi (s ∷ ss) [] h = sound_none lo hi
fits_sound lo hi (s ∷ ss) (x ∷ xs) h =
    let k = placed_le (x.place + 1) hi xs h.1 in
    let l = h.0 in
    sound_wider x.place hi lo hi _ l (omega arith)
    (sound_append x.place (x.place + 1) (x.place + 1) hi _ _ (omega arith) (omega arith) k (sound_1 x.place S7 _) (fits_sound (x.place + 1) hi ss xs h.1))

signed_sound : (p q hi : ℕ) (home : Home) (f : ℕ) (s : Option Signature) (xs : List Argument) → p < q → Placed q hi xs → Sound p hi (signed_needs p home f s xs)
signed_sound p q hi home f None xs a h = sound_none p hi
signed_sound p q hi home f (Some s) xs a h =
    let k = placed_le q hi xs h in
    sound_append p (p + 1) q hi _ _ (omega (arith, a)) (omega (arith, a)) (omega (arith, a, k)) (sound_3 p S6 S8 S9 _ _ _ (lit≤ tt) (lit≤ tt)) (fits_sound q hi s.params xs h)

pub call_sound : (p q hi : ℕ) (home : Home) (f : ℕ) (xs : List Argument) → p < q → Placed q hi xs → Sound p hi (call_needs p home f xs)
call_sound p q hi home f xs a h = signed_sound p q hi home f (slice_get home.functions f) xs a h

pub builtin_sound : (p q hi : ℕ) (f : Builtin) (xs : List Argument) → p < q → Placed q hi xs → Sound p hi (builtin_needs p f xs)
builtin_sound p q hi f xs a h =
    let k = placed_le q hi xs h in
    sound_append p (p + 1) q hi _ _ (omega (arith, a)) (omega (arith, a)) (omega (arith, a, k)) (sound_1 p S6 _) (fits_sound q hi (builtin_params f) xs h)
