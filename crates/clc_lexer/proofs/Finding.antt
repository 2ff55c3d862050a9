-- Looking through a table, item by item.
use Rattle.std.proofs.Common.{◌≡◌, ℕ, suc, ◌+◌, ◌<◌, Bool, true, false, cond, List, Some, sym, ap, ◌∙◌, length, drop, get_or, drop-cons, arith}
use Rattle.std.specs.Str.{bytes_eq}
use Rattle.clc_lexer.specs.Tables.{mark_spelling}
use Rattle.clc_lexer.specs.Scanning.{starts_with, front_mark}
use Rattle.clc_lexer.specs.declared.marks.Mark.{Mark}
use Rattle.clc_lexer.specs.Reading.{spelled}

pub spelled_step : {A : Type 0} (f : A → List ℕ) (xs : List A) (i : ℕ) (d : A) (spelling text : List ℕ) (b : Bool)
    → i < length xs → spelling ≡ f (get_or xs i d) → bytes_eq spelling text ≡ b
    → spelled f (drop i xs) text ≡ cond b (Some (get_or xs i d)) (spelled f (drop (i + 1) xs) text)
spelled_step f xs i d spelling text b lt s e =
    let one : i + 1 ≡ suc i = omega arith in
    ap (λ z. spelled f z text) (drop-cons xs i d lt)
    ∙ ap (λ v. cond v (Some (get_or xs i d)) (spelled f (drop (suc i) xs) text)) (ap (λ z. bytes_eq z text) (sym s) ∙ e)
    ∙ ap (λ k. cond b (Some (get_or xs i d)) (spelled f (drop k xs) text)) (sym one)

pub spelled_hit : {A : Type 0} (f : A → List ℕ) (xs : List A) (i : ℕ) (d : A) (spelling text : List ℕ)
    → i < length xs → spelled f xs text ≡ spelled f (drop i xs) text → spelling ≡ f (get_or xs i d) → bytes_eq spelling text ≡ true
    → Some (get_or xs i d) ≡ spelled f xs text
spelled_hit f xs i d spelling text lt h s e = sym (h ∙ spelled_step f xs i d spelling text true lt s e)

pub spelled_miss : {A : Type 0} (f : A → List ℕ) (xs : List A) (i : ℕ) (d : A) (spelling text : List ℕ)
    → i < length xs → spelled f xs text ≡ spelled f (drop i xs) text → spelling ≡ f (get_or xs i d) → bytes_eq spelling text ≡ false
    → spelled f xs text ≡ spelled f (drop (i + 1) xs) text
spelled_miss f xs i d spelling text lt h s e = h ∙ spelled_step f xs i d spelling text false lt s e

pub mark_step : (xs : List Mark) (i : ℕ) (d : Mark) (spelling bytes : List ℕ) (b : Bool)
    → i < length xs → spelling ≡ mark_spelling (get_or xs i d) → starts_with spelling bytes ≡ b
    → front_mark (drop i xs) bytes ≡ cond b (Some (get_or xs i d)) (front_mark (drop (i + 1) xs) bytes)
mark_step xs i d spelling bytes b lt s e =
    let one : i + 1 ≡ suc i = omega arith in
    ap (λ z. front_mark z bytes) (drop-cons xs i d lt)
    ∙ ap (λ v. cond v (Some (get_or xs i d)) (front_mark (drop (suc i) xs) bytes)) (ap (λ z. starts_with z bytes) (sym s) ∙ e)
    ∙ ap (λ k. cond b (Some (get_or xs i d)) (front_mark (drop k xs) bytes)) (sym one)
