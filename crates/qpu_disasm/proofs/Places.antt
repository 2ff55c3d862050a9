-- Texts of addresses, selectors and of what stands at the end tell what they are the texts of.
use Rattle.std.proofs.Common.{◌≡◌, ◌∙◌, ℕ, ◌+◌, ◌*◌, ◌/◌, ◌%◌, ◌<◌, Bool, true, false, List, refl, sym, ap, arith}
use Rattle.std.specs.Prelude.{◌==◌, ◌||◌, nat_le, nat_lt}
use Rattle.std.specs.Fmt.{digits}
use Rattle.std.proofs.lemmas.Bool.Decides.{nat_tests}
use Rattle.qpu_encode.specs.WordFields.{is_target, is_source, is_selector, is_port, bit}
use Rattle.qpu_disasm.specs.Listing.{target_text, source_text, b_text, selector_text, tail_text}
use Rattle.qpu_disasm.proofs.Cuts.{is_whole, opens}
use Rattle.qpu_disasm.proofs.Tables.{Entry, entries, number_with, tell, told, same_number}

-- ---- write addresses

-- an address that some unit may write
unfoldable pub is_place : ℕ → Bool
is_place dst = nat_le dst 35 || ((dst == 39) || (is_port dst || (dst == 37)))

pub place_of_target : (through_b : Bool) (dst cond : ℕ) → is_target through_b dst cond ≡ true → is_place dst ≡ true
unfolding is_target is_place
place_of_target through_b dst cond h = grind (arith, nat_tests)

place_fits : (dst : ℕ) → is_place dst ≡ true → dst < 52
unfolding is_place
place_fits dst h = grind (arith, nat_tests)

targets : Bool → List Entry
targets through_b = entries (target_text through_b) 52

targets_tell : (through_b : Bool) → tell is_place is_whole (targets through_b) (entries (target_text through_b) 52) ≡ true
unfolding targets tell entries number_with is_place target_text digits
targets_tell true = refl
targets_tell false = refl

target_told : (through_b : Bool) (dst : ℕ) → is_place dst ≡ true → (number_with (targets through_b) (target_text through_b dst) ≡ dst) × (is_whole (target_text through_b dst) ≡ true)
target_told through_b dst h = told is_place is_whole (targets through_b) (target_text through_b) 52 dst (targets_tell through_b) (place_fits dst h) h

pub target_whole : (through_b : Bool) (dst : ℕ) → is_place dst ≡ true → is_whole (target_text through_b dst) ≡ true
target_whole through_b dst h = (target_told through_b dst h).1

pub same_target : (through_b : Bool) (dst to : ℕ) → is_place dst ≡ true → is_place to ≡ true → target_text through_b dst ≡ target_text through_b to → dst ≡ to
same_target through_b dst to h k e = same_number (targets through_b) (target_text through_b) dst to (target_told through_b dst h).0 (target_told through_b to k).0 e

-- ---- read addresses

unfoldable pub any_number : ℕ → Bool
any_number n = true

sources : Bool → List Entry
sources through_b = entries (source_text through_b) 52

sources_tell : (through_b : Bool) → tell is_source is_whole (sources through_b) (entries (source_text through_b) 52) ≡ true
unfolding sources tell entries number_with is_source source_text digits
sources_tell true = refl
sources_tell false = refl

below_52 : (src : ℕ) → is_source src ≡ true → src < 52
unfolding is_source
below_52 src h = grind (arith, nat_tests)

source_told : (through_b : Bool) (src : ℕ) → is_source src ≡ true → (number_with (sources through_b) (source_text through_b src) ≡ src) × (is_whole (source_text through_b src) ≡ true)
source_told through_b src h = told is_source is_whole (sources through_b) (source_text through_b) 52 src (sources_tell through_b) (below_52 src h) h

pub source_whole : (through_b : Bool) (src : ℕ) → is_source src ≡ true → is_whole (source_text through_b src) ≡ true
source_whole through_b src h = (source_told through_b src h).1

pub same_source : (through_b : Bool) (src to : ℕ) → is_source src ≡ true → is_source to ≡ true → source_text through_b src ≡ source_text through_b to → src ≡ to
same_source through_b src to h k e = same_number (sources through_b) (source_text through_b) src to (source_told through_b src h).0 (source_told through_b to k).0 e

-- ---- what stands in raddr_b: a code, or a read address

unfoldable pub is_b : Bool → ℕ → Bool
is_b true rb = nat_lt rb 64
is_b false rb = is_source rb

codes_64 : List Entry
codes_64 = entries (b_text true) 64

codes_tell : tell any_number is_whole codes_64 (entries (b_text true) 64) ≡ true
unfolding codes_64 tell entries number_with any_number b_text digits
codes_tell = refl

code_told : (rb : ℕ) → nat_lt rb 64 ≡ true → (number_with codes_64 (b_text true rb) ≡ rb) × (is_whole (b_text true rb) ≡ true)
unfolding any_number
code_told rb h = told any_number is_whole codes_64 (b_text true) 64 rb codes_tell (grind (arith, nat_tests, h)) refl

pub b_whole : (small : Bool) (rb : ℕ) → is_b small rb ≡ true → is_whole (b_text small rb) ≡ true
unfolding is_b b_text
b_whole true rb h = (code_told rb h).1
b_whole false rb h = source_whole true rb h

pub same_b : (small : Bool) (rb to : ℕ) → is_b small rb ≡ true → is_b small to ≡ true → b_text small rb ≡ b_text small to → rb ≡ to
unfolding is_b b_text
same_b true rb to h k e = same_number codes_64 (b_text true) rb to (code_told rb h).0 (code_told to k).0 e
same_b false rb to h k e = same_source true rb to h k e

-- ---- selectors

selectors : List Entry
selectors = entries selector_text 8

selectors_tell : tell is_selector is_whole selectors (entries selector_text 8) ≡ true
unfolding selectors tell entries number_with selector_text digits
selectors_tell = refl

selector_told : (x : ℕ) → is_selector x ≡ true → (number_with selectors (selector_text x) ≡ x) × (is_whole (selector_text x) ≡ true)
selector_told x h = told is_selector is_whole selectors selector_text 8 x selectors_tell (grind (arith, nat_tests, h)) h

pub selector_whole : (x : ℕ) → is_selector x ≡ true → is_whole (selector_text x) ≡ true
selector_whole x h = (selector_told x h).1

pub same_selector : (x y : ℕ) → is_selector x ≡ true → is_selector y ≡ true → selector_text x ≡ selector_text y → x ≡ y
same_selector x y h k e = same_number selectors selector_text x y (selector_told x h).0 (selector_told y k).0 e

-- ---- what stands at the end, by one number

key : ℕ → Bool → Bool → ℕ
key unpack flags swap = unpack * 4 + bit flags * 2 + bit swap

key_back : (unpack : ℕ) (flags swap : Bool) → (key unpack flags swap / 4 ≡ unpack) × ((key unpack flags swap / 2 % 2 == 1) ≡ flags) × ((key unpack flags swap % 2 == 1) ≡ swap)
unfolding key
key_back unpack true true = (omega arith, grind (arith, nat_tests), grind (arith, nat_tests))
key_back unpack true false = (omega arith, grind (arith, nat_tests), grind (arith, nat_tests))
key_back unpack false true = (omega arith, grind (arith, nat_tests), grind (arith, nat_tests))
key_back unpack false false = (omega arith, grind (arith, nat_tests), grind (arith, nat_tests))

text_of_key : ℕ → List ℕ
text_of_key n = tail_text (n / 4) (n / 2 % 2 == 1) (n % 2 == 1)

key_text : (unpack : ℕ) (flags swap : Bool) → text_of_key (key unpack flags swap) ≡ tail_text unpack flags swap
unfolding text_of_key
key_text unpack flags swap = let k = key_back unpack flags swap in rw (k.0, k.1, k.2) refl

keys : List Entry
keys = entries text_of_key 32

keys_tell : tell any_number opens keys (entries text_of_key 32) ≡ true
unfolding keys tell entries number_with any_number text_of_key tail_text digits
keys_tell = refl

key_fits : (unpack : ℕ) (flags swap : Bool) → unpack < 8 → key unpack flags swap < 32
unfolding key
key_fits unpack true true h = omega arith
key_fits unpack true false h = omega arith
key_fits unpack false true h = omega arith
key_fits unpack false false h = omega arith

key_told : (unpack : ℕ) (flags swap : Bool) → unpack < 8 → (number_with keys (tail_text unpack flags swap) ≡ key unpack flags swap) × (opens (tail_text unpack flags swap) ≡ true)
unfolding any_number
key_told unpack flags swap h =
    let t = told any_number opens keys text_of_key 32 (key unpack flags swap) keys_tell (key_fits unpack flags swap h) refl in
    rw key_text at t

pub tail_opens : (unpack : ℕ) (flags swap : Bool) → unpack < 8 → opens (tail_text unpack flags swap) ≡ true
tail_opens unpack flags swap h = (key_told unpack flags swap h).1

pub same_tail : (u v : ℕ) (f g s t : Bool) → u < 8 → v < 8 → tail_text u f s ≡ tail_text v g t → (u ≡ v) × (f ≡ g) × (s ≡ t)
same_tail u v f g s t h k e =
    let same : key u f s ≡ key v g t = sym (key_told u f s h).0 ∙ ap (number_with keys) e ∙ (key_told v g t k).0 in
    let p = key_back u f s in
    let q = key_back v g t in
    (sym p.0 ∙ ap (λ n. n / 4) same ∙ q.0, sym p.1 ∙ ap (λ n. n / 2 % 2 == 1) same ∙ q.1, sym p.2 ∙ ap (λ n. n % 2 == 1) same ∙ q.2)
