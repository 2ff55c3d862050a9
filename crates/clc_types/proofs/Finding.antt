-- Looking through the built-in functions.
use Rattle.std.proofs.Common.{◌≡◌, ℕ, suc, ◌+◌, ◌<◌, Bool, true, false, List, Some, sym, ap, ◌∙◌, length, drop, get_or, drop-cons, arith}
use Rattle.std.specs.Prelude.{bytes_eq, if◌then◌else◌}
use Rattle.clc_types.specs.declared.typed.Builtin.{Builtin}
use Rattle.clc_types.specs.Names.{spelling, spelled}

spelled_step : (xs : List Builtin) (i : ℕ) (d : Builtin) (s text : List ℕ) (b : Bool) → i < length xs → s ≡ spelling (get_or xs i d) → bytes_eq s text ≡ b
    → spelled (drop i xs) text ≡ (if b then Some (get_or xs i d) else spelled (drop (i + 1) xs) text)
spelled_step xs i d s text b lt e h =
    let one : i + 1 ≡ suc i = omega arith in
    ap (λ z. spelled z text) (drop-cons xs i d lt)
    ∙ ap (λ v. if v then Some (get_or xs i d) else spelled (drop (suc i) xs) text) (ap (λ z. bytes_eq z text) (sym e) ∙ h)
    ∙ ap (λ k. if b then Some (get_or xs i d) else spelled (drop k xs) text) (sym one)

pub spelled_hit : (xs : List Builtin) (i : ℕ) (d : Builtin) (s text : List ℕ) → i < length xs → spelled xs text ≡ spelled (drop i xs) text → s ≡ spelling (get_or xs i d) → bytes_eq s text ≡ true
    → Some (get_or xs i d) ≡ spelled xs text
spelled_hit xs i d s text lt h e t = sym (h ∙ spelled_step xs i d s text true lt e t)

pub spelled_miss : (xs : List Builtin) (i : ℕ) (d : Builtin) (s text : List ℕ) → i < length xs → spelled xs text ≡ spelled (drop i xs) text → s ≡ spelling (get_or xs i d) → bytes_eq s text ≡ false
    → spelled xs text ≡ spelled (drop (i + 1) xs) text
spelled_miss xs i d s text lt h e t = h ∙ spelled_step xs i d s text false lt e t
