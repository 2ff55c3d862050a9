-- The line and the column behind some bytes.
use Rattle.std.proofs.Common.{◌≡◌, ℕ, ◌+◌, ◌<◌, Bool, true, false, cond, not, ◌==◌, List, [], ◌∷◌, ◌++◌, length, take, reverse, get_or, add-one, refl, ap, ◌∙◌, arith}
use Rattle.std.specs.List.{filter, prefix_len}
use Rattle.std.proofs.Math.Seq.{take-suc}
use Rattle.std.proofs.lemmas.List.{length-append, reverse-append}
use Rattle.std.proofs.lemmas.List.Elements.{filter-append}
use Rattle.commands.specs.Refusals.{line_behind, column_behind}

pub line_first : line_behind [] ≡ 1
unfolding line_behind
line_first = refl

pub column_first : column_behind [] ≡ 1
unfolding column_behind
column_first = refl

is_end : ℕ → Bool
is_end byte = byte == 10

line_one : (byte : ℕ) (same : Bool) → length (cond same (byte ∷ []) []) ≡ cond same 1 0
line_one byte true = refl
line_one byte false = refl

line_next : (bytes : List ℕ) (byte : ℕ) → line_behind (bytes ++ byte ∷ []) ≡ line_behind bytes + cond (byte == 10) 1 0
unfolding line_behind
line_next bytes byte =
    let test : ℕ → Bool = λ b. b == 10 in
    let all : length (filter test (bytes ++ byte ∷ [])) ≡ length (filter test bytes) + cond (byte == 10) 1 0 =
    ap length (filter-append test bytes (byte ∷ [])) ∙ length-append (filter test bytes) (filter test (byte ∷ [])) ∙ ap (λ n. length (filter test bytes) + n) (line_one byte (byte == 10)) in
    omega (arith, all)

column_cases : (same : Bool) (n : ℕ) → 1 + cond (not same) (1 + n) 0 ≡ cond same 1 (1 + n + 1)
column_cases true n = refl
column_cases false n = omega arith

column_next : (bytes : List ℕ) (byte : ℕ) → column_behind (bytes ++ byte ∷ []) ≡ cond (byte == 10) 1 (column_behind bytes + 1)
unfolding column_behind
column_next bytes byte =
    let test : ℕ → Bool = λ b. not (b == 10) in
    ap (λ bs. 1 + prefix_len test bs) (reverse-append bytes (byte ∷ [])) ∙ column_cases (byte == 10) (prefix_len test (reverse bytes))

taken_next : (bytes : List ℕ) (i : ℕ) → i < length bytes → take (i + 1) bytes ≡ take i bytes ++ get_or bytes i 0 ∷ []
taken_next bytes i within = ap (λ n. take n bytes) (add-one i) ∙ take-suc bytes i 0 within

pub line_at : (bytes : List ℕ) (i : ℕ) (same : Bool) → i < length bytes → (get_or bytes i 0 == 10) ≡ same → line_behind (take (i + 1) bytes) ≡ line_behind (take i bytes) + cond same 1 0
line_at bytes i same within is =
    ap line_behind (taken_next bytes i within) ∙ line_next (take i bytes) (get_or bytes i 0) ∙ ap (λ b. line_behind (take i bytes) + cond b 1 0) is

pub column_at : (bytes : List ℕ) (i : ℕ) (same : Bool) → i < length bytes → (get_or bytes i 0 == 10) ≡ same → column_behind (take (i + 1) bytes) ≡ cond same 1 (column_behind (take i bytes) + 1)
column_at bytes i same within is =
    ap column_behind (taken_next bytes i within) ∙ column_next (take i bytes) (get_or bytes i 0) ∙ ap (λ b. cond b 1 (column_behind (take i bytes) + 1)) is
