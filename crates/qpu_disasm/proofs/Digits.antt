-- Hexadecimal digits tell the number that they are the digits of.
use Rattle.std.proofs.Common.{zero, suc, ◌≡◌, ◌∙◌, ℕ, ◌<◌, ◌^◌, ◌/◌, lit<, List, ◌++◌, length, take, sym, ap, subst, arith}
use Rattle.std.proofs.Math.Nat.{mod-lt}
use Rattle.std.specs.Int.{w32, w64, bytes_high_first, to_be_bytes, from_be_bytes}
use Rattle.std.proofs.lemmas.List.{take_at, append_cancel_left}
use Rattle.std.proofs.lemmas.Nat.{from_be_bytes-to_be_bytes_4, from_be_bytes-to_be_bytes_8}
use Rattle.hex.specs.Hex.{IsBytes, lower_digits, encode_lower, decode_of}
use Rattle.hex.proofs.HexLemmas.{decode_of-encode_lower, decode_of-same, length-encode_with}

are_bytes : (k n : ℕ) → IsBytes (bytes_high_first k n)
are_bytes zero n i = omega arith
are_bytes (suc zero) n zero = mod-lt n (lit< tt)
are_bytes (suc (suc k)) n zero = mod-lt (n / 256 ^ suc k) (lit< tt)
are_bytes (suc k) n (suc i) = are_bytes k n i

same_bytes : (k n m : ℕ) → encode_lower (bytes_high_first k n) ≡ encode_lower (bytes_high_first k m) → bytes_high_first k n ≡ bytes_high_first k m
same_bytes k n m e =
    let p = decode_of-encode_lower (bytes_high_first k n) (are_bytes k n) in
    let q = decode_of-encode_lower (bytes_high_first k m) (are_bytes k m) in
    decode_of-same (encode_lower (bytes_high_first k m)) (bytes_high_first k n) (bytes_high_first k m) (sym (ap decode_of e) ∙ p) q

pub same_eight : (n m : ℕ) → n < 2 ^ 32 → m < 2 ^ 32 → encode_lower (to_be_bytes w32 n) ≡ encode_lower (to_be_bytes w32 m) → n ≡ m
same_eight n m h k e = sym (from_be_bytes-to_be_bytes_4 n h) ∙ ap (from_be_bytes w32) (same_bytes 4 n m e) ∙ from_be_bytes-to_be_bytes_4 m k

pub same_sixteen : (n m : ℕ) → n < 2 ^ 64 → m < 2 ^ 64 → encode_lower (to_be_bytes w64 n) ≡ encode_lower (to_be_bytes w64 m) → n ≡ m
same_sixteen n m h k e = sym (from_be_bytes-to_be_bytes_8 n h) ∙ ap (from_be_bytes w64) (same_bytes 8 n m e) ∙ from_be_bytes-to_be_bytes_8 m k

-- texts of one length are cut at it
pub cut_after : (n : ℕ) (xs ys s t : List ℕ) → length xs ≡ n → length ys ≡ n → xs ++ s ≡ ys ++ t → (xs ≡ ys) × (s ≡ t)
cut_after n xs ys s t h k e =
    let front : xs ≡ ys = sym (take_at xs s n h) ∙ ap (take n) e ∙ take_at ys t n k in
    (front, append_cancel_left ys s t (subst (λ x. x ++ s ≡ ys ++ t) front e))

pub eight_long : (n : ℕ) → length (encode_lower (to_be_bytes w32 n)) ≡ 8
eight_long n = length-encode_with lower_digits (to_be_bytes w32 n)
