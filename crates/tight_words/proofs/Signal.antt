-- A word whose signal isn't 15 is no branch.
use Rattle.std.specs.Prelude.{◌≡◌, ℕ, [], ◌∷◌, Bool, true, false, ◌&&◌, ◌==◌, if◌then◌else◌, refl}
use Rattle.std.specs.declared.option.Option.{Option}
use Rattle.std.specs.declared.option.Option.TheVariants.{Some, None}
use Rattle.qpu_encode.specs.declared.form.Form.{Form}
use Rattle.qpu_encode.specs.Codes.{add_op_at, mul_op_at, cond_at, head_at}
use Rattle.qpu_encode.specs.WordFields.{field, fields_from}
use Rattle.qpu_encode.specs.WordFields.{form_of, alu_from, ldi_from, kept, is_in_profile, ◌>>=◌, alu_widths, ldi_widths}
use Rattle.std.proofs.Common.{sym, subst, arith, inl, inr}
use Rattle.std.proofs.lemmas.Bool.{cases_eq}
use Rattle.std.proofs.lemmas.Bool.Decides.{nat_tests}
use Rattle.tight_words.specs.Code.{leads}

bind_false : {A : Type 0} (o : Option A) (f : A → Option Form) (b t : ℕ) → ((x : A) → leads (f x) b t ≡ false) → leads (o >>= f) b t ≡ false
bind_false None f b t h = refl
bind_false (Some x) f b t h = h x

kept_false : (test : Bool) (form : Form) (b t : ℕ) → leads (Some form) b t ≡ false → leads (kept test form) b t ≡ false
kept_false test form b t h =
    elim (test && is_in_profile form) as (λ z. leads (if z then Some form else None) b t ≡ false) [ true ↦ h | false ↦ refl ]

alu_false : (mul_b mul_a add_b add_a rb ra op_add op_mul waddr_mul waddr_add ws sf cond_mul cond_add pack pm unpack sig : ℕ) (b t : ℕ)
    → leads (alu_from (mul_b ∷ mul_a ∷ add_b ∷ add_a ∷ rb ∷ ra ∷ op_add ∷ op_mul ∷ waddr_mul ∷ waddr_add ∷ ws ∷ sf ∷ cond_mul ∷ cond_add ∷ pack ∷ pm ∷ unpack ∷ sig ∷ [])) b t ≡ false
unfolding alu_from
alu_false mul_b mul_a add_b add_a rb ra op_add op_mul waddr_mul waddr_add ws sf cond_mul cond_add pack pm unpack sig b t =
    bind_false (head_at sig) _ b t (λ h. bind_false (add_op_at op_add) _ b t (λ a. bind_false (mul_op_at op_mul) _ b t (λ m.
    bind_false (cond_at cond_add) _ b t (λ c. bind_false (cond_at cond_mul) _ b t (λ d. kept_false _ _ b t refl)))))

ldi_false : (value waddr_mul waddr_add ws sf cond_mul cond_add zeros sig : ℕ) (b t : ℕ)
    → leads (ldi_from (value ∷ waddr_mul ∷ waddr_add ∷ ws ∷ sf ∷ cond_mul ∷ cond_add ∷ zeros ∷ sig ∷ [])) b t ≡ false
unfolding ldi_from
ldi_false value waddr_mul waddr_add ws sf cond_mul cond_add zeros sig b t =
    bind_false (cond_at cond_add) _ b t (λ c. bind_false (cond_at cond_mul) _ b t (λ d. kept_false _ _ b t refl))

pub no_branch : (word b t : ℕ) → (field 60 4 word == 15) ≡ false → leads (form_of word) b t ≡ false
unfolding form_of
no_branch word b t h =
    rw h (elim (field 60 4 word == 14) as (λ z. leads (if z then ldi_from (fields_from 0 ldi_widths word) else alu_from (fields_from 0 alu_widths word)) b t ≡ false) [
      | true ↦ ldi_false _ _ _ _ _ _ _ _ _ b t
      | false ↦ alu_false _ _ _ _ _ _ _ _ _ _ _ _ _ _ _ _ _ _ b t
    ])

not_equal : (n : ℕ) → (n ≡ 15 → ⊥) → (n == 15) ≡ false
not_equal n h = elim (cases_eq n 15) [ inl e ↦ absurd (h e) | inr e ↦ grind (arith, nat_tests) ]

pub other_signal : (word n b t : ℕ) → n ≡ field 60 4 word → (n ≡ 15 → ⊥) → false ≡ leads (form_of word) b t
other_signal word n b t e h = sym (no_branch word b t (subst (λ (n : ℕ). (n == 15) ≡ false) e (not_equal n h)))
