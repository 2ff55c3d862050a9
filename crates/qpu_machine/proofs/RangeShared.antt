-- What QPUs share and the memory stay in range, whatever an access does and an engine moves.
use Rattle.std.proofs.Common.{arith, ◌≡◌, ℕ, zero, suc, ◌+◌, ◌*◌, ◌/◌, ◌%◌, ◌^◌, ◌<◌, ◌≤◌, Bool, true, ◌==◌, List, [], ◌∷◌, length, get_or, refl, ap, sym, ◌∙◌, subst, inl, inr}
use Rattle.std.proofs.Math.Nat.{mod-lt}
use Rattle.std.proofs.lemmas.Bool.{and_parts, cases_eq, cases_lt}
use Rattle.std.proofs.lemmas.Bool.Decides.{nat_tests}
use Rattle.std.proofs.lemmas.Nat.{pow_pos, pow-add}
use Rattle.std.proofs.lemmas.List.{length-set, get_or-set_same, get_or-set_other, set_past}
use Rattle.std.specs.List.{list_all, remove}
use Rattle.std.specs.Prelude.{Option, Some, None, IfSome, slice_set, ⊤}
use Rattle.vpm_words.specs.Access.{Site, Demand, Private, Setup, Take, Give, ReadRow, WriteRow, StartLoad, StartStore, AwaitLoad, AwaitStore, Given, Alone, demand, started, share, at_once, overlaid}
use Rattle.vpm_words.specs.Elements.{elements_of, is_element}
use Rattle.vpm_words.specs.Laws.{IsVpm}
use Rattle.vpm_words.specs.Moves.{with_part, number_at, bytes_of, part_of, put_bytes, cell, bytes_out, load_element, store_element, load_all, store_all}
use Rattle.vpm_words.specs.Piece.{Piece, IsTransfer}
use Rattle.vpm_words.specs.declared.state.Access.{Access}
use Rattle.vpm_words.specs.declared.state.Access.TheVariants.{Uniform, ReadVpm, WriteVpm, ReadSet, WriteSet, LoadAddr, StoreAddr, WaitLoad, WaitStore, Lock, Unlock}
use Rattle.vpm_words.specs.declared.state.Element.{Element}
use Rattle.vpm_words.specs.declared.state.Ports.{Ports}
use Rattle.vpm_words.specs.declared.state.Shared.{Shared}
use Rattle.vpm_words.proofs.ElementLaws.{elements_fit}
use Rattle.vpm_words.proofs.MoveLaws.{vpm_kept, length-put_bytes}
use Rattle.vpm_words.proofs.PartLaws.{part_below}
use Rattle.qpu_machine.specs.Reachable.{AreBytes, IsVector, ArePorts, AreElements, IsShared}
use Rattle.qpu_machine.proofs.RangeRegs.{chosen}

-- ---- elements

pub elements-are : (es : List Element) → list_all is_element es ≡ true → AreElements es
elements-are [] h i = tt
elements-are (e ∷ es) h zero = (and_parts (is_element e) (list_all is_element es) h).0
elements-are (e ∷ es) h (suc i) = elements-are es (and_parts (is_element e) (list_all is_element es) h).1 i

pub rest-are : (es : List Element) (i : ℕ) → AreElements es → AreElements (remove es i)
rest-are [] zero h j = tt
rest-are [] (suc i) h j = tt
rest-are (e ∷ es) zero h j = h (suc j)
rest-are (e ∷ es) (suc i) h zero = h zero
rest-are (e ∷ es) (suc i) h (suc j) = rest-are es i (λ k. h (suc k)) j

pub none-are : AreElements []
none-are i = tt

started-are : (o : Option Piece) (at : ℕ) → IfSome o IsTransfer → at < 2 ^ 32 → AreElements (started o at)
started-are None at h l = none-are
started-are (Some t) at h l = elements-are (elements_of at t) (elements_fit at t l h)

element-row : (e : Element) → is_element e ≡ true → e.row < 64
unfolding is_element
element-row e h = grind (arith, nat_tests)

element-size : (e : Element) → is_element e ≡ true → e.size ≤ 4
unfolding is_element
element-size e h = grind (arith, nat_tests)

element-part : (e : Element) → is_element e ≡ true → e.low + 8 * e.size ≤ 32
unfolding is_element
element-part e h = grind (arith, nat_tests)

-- ---- lists of numbers below a bound stay so when one is set

pub set-below : (xs : List ℕ) (col w n : ℕ) → w < n → ((i : ℕ) → get_or xs i 0 < n) → (i : ℕ) → get_or (slice_set xs col w) i 0 < n
set-below xs col w n small b i = elim (cases_eq i col) [
  | inl e ↦ elim (cases_lt col (length xs)) [
    | inl l ↦ subst (λ m. m < n) (sym (ap (λ k. get_or (slice_set xs col w) k 0) e ∙ get_or-set_same xs col w 0 l)) small
    | inr g ↦ subst (λ (ys : List ℕ). get_or ys i 0 < n) (sym (set_past xs col w g)) (b i)
  ]
  | inr d ↦ subst (λ m. m < n) (sym (get_or-set_other xs col i w 0 d)) (b i)
]

-- ---- a load

number-below : (n : ℕ) (memory : List ℕ) (at : ℕ) → AreBytes memory → number_at n memory at < 2 ^ (8 * n)
number-below zero memory at b = omega arith
number-below (suc n) memory at b =
    let r = number-below n memory (at + 1) b in
    let f = b at in
    let p = pow-add 2 (8 * n) 8 in
    let bits : 8 * suc n ≡ 8 * n + 8 = omega arith in
    rw bits (omega (arith, r, f, p))

four-bytes : (size part : ℕ) → (size == 4) ≡ true → part < 2 ^ (8 * size) → part < 2 ^ 32
four-bytes size part e h = let four : size ≡ 4 = grind (arith, nat_tests, e) in rw four at h

with_part-below : (low size word part : ℕ) → low + 8 * size ≤ 32 → word < 2 ^ 32 → part < 2 ^ (8 * size) → with_part low size word part < 2 ^ 32
with_part-below low size word part h k l =
    chosen (λ n. n < 2 ^ 32) (size == 4) part (word % 2 ^ low + part * 2 ^ low + word / 2 ^ (low + 8 * size) * 2 ^ (low + 8 * size))
    (λ e. four-bytes size part e l) (λ _. part_below low (8 * size) word part h k l)

pub load-keeps : (e : Element) (memory : List ℕ) (vpm : List (List ℕ)) → is_element e ≡ true → AreBytes memory → IsVpm vpm → IsVpm (load_element e memory vpm)
unfolding load_element
load-keeps e memory vpm h b v =
    let old : List ℕ = get_or vpm e.row [] in
    let word : ℕ = with_part e.low e.size (cell vpm e.row e.col) (number_at e.size memory e.address) in
    let small : word < 2 ^ 32 =
    with_part-below e.low e.size (cell vpm e.row e.col) (number_at e.size memory e.address) (element-part e h) (v.word e.row e.col) (number-below e.size memory e.address b) in
    (vpm_kept vpm v).0 (Some e.row) (slice_set old e.col word) (length-set old e.col word ∙ v.row e.row (element-row e h))
    (set-below old e.col word (2 ^ 32) small (λ i. v.word e.row i))

pub load_all-keeps : (es : List Element) (memory : List ℕ) (vpm : List (List ℕ)) → AreElements es → AreBytes memory → IsVpm vpm → IsVpm (load_all es memory vpm)
load_all-keeps [] memory vpm h b v = v
load_all-keeps (e ∷ es) memory vpm h b v = load_all-keeps es memory (load_element e memory vpm) (λ i. h (suc i)) b (load-keeps e memory vpm (h zero) b v)

-- ---- a store

-- bytes, so many of them
pub record IsMemory (size : ℕ) (memory : List ℕ) : Type 0 where
  pub many : length memory ≡ size
  pub bytes : AreBytes memory

put-below : (n x : ℕ) (memory : List ℕ) (at : ℕ) → AreBytes memory → AreBytes (put_bytes memory at (bytes_of n x))
put-below zero x memory at b = b
put-below (suc n) x memory at b = put-below n (x / 2 ^ 8) (slice_set memory at (x % 2 ^ 8)) (at + 1) (set-below memory at (x % 2 ^ 8) 256 (mod-lt x (pow_pos 8)) b)

pub store-keeps : (size : ℕ) (e : Element) (vpm : List (List ℕ)) (memory : List ℕ) → IsMemory size memory → IsMemory size (store_element e vpm memory)
unfolding store_element bytes_out
store-keeps size e vpm memory m =
    let part : ℕ = part_of e.low e.size (cell vpm e.row e.col) in
    record { many = length-put_bytes (bytes_of e.size part) memory e.address ∙ m.many; bytes = put-below e.size part memory e.address m.bytes }

pub store_all-keeps : (size : ℕ) (es : List Element) (vpm : List (List ℕ)) (memory : List ℕ) → IsMemory size memory → IsMemory size (store_all es vpm memory)
store_all-keeps size [] vpm memory m = m
store_all-keeps size (e ∷ es) vpm memory m = store_all-keeps size es vpm (store_element e vpm memory) (store-keeps size e vpm memory m)

-- ---- what an access leaves shared

-- what a demand takes along is in range
abbrev pub IsDemand : Demand → Type 0
IsDemand (WriteRow row words late) = IsVector words
IsDemand (StartLoad es late) = AreElements es
IsDemand (StartStore es late) = AreElements es
IsDemand _ = ⊤

pub demand-is : (uniforms : ℕ) (g : Site) (p : Ports) (a : Option Access) (value : ℕ) (words : List ℕ) → ArePorts uniforms p → value < 2 ^ 32 → IsVector words
    → IsDemand (demand g p a value words)
demand-is uniforms g p None value words h l v = tt
demand-is uniforms g p (Some Uniform) value words h l v = tt
demand-is uniforms g p (Some ReadVpm) value words h l v = tt
demand-is uniforms g p (Some WriteVpm) value words h l v = v
demand-is uniforms g p (Some ReadSet) value words h l v = tt
demand-is uniforms g p (Some WriteSet) value words h l v = tt
demand-is uniforms g p (Some LoadAddr) value words h l v = started-are p.load value h.load l
demand-is uniforms g p (Some StoreAddr) value words h l v = started-are p.store value h.store l
demand-is uniforms g p (Some WaitLoad) value words h l v = tt
demand-is uniforms g p (Some WaitStore) value words h l v = tt
demand-is uniforms g p (Some Lock) value words h l v = tt
demand-is uniforms g p (Some Unlock) value words h l v = tt

pub share-keeps : (qpus : ℕ) (d : Demand) (k : ℕ) (s : Shared) → k < qpus → IsDemand d → IsShared qpus s → IsShared qpus (share d k s)
share-keeps qpus (Private late) k s l d h = h
share-keeps qpus (Setup late) k s l d h = h
share-keeps qpus Take k s l d h = record { vpm = h.vpm; owner = l; loads = h.loads; stores = h.stores }
share-keeps qpus Give k s l d h = record { vpm = h.vpm; owner = tt; loads = h.loads; stores = h.stores }
share-keeps qpus (ReadRow row late) k s l d h = h
share-keeps qpus (WriteRow row words late) k s l d h =
    record { vpm = (vpm_kept s.vpm h.vpm).0 row words d.many d.words; owner = h.owner; loads = h.loads; stores = h.stores }
share-keeps qpus (StartLoad es late) k s l d h = record { vpm = h.vpm; owner = h.owner; loads = d; stores = h.stores }
share-keeps qpus (StartStore es late) k s l d h = record { vpm = h.vpm; owner = h.owner; loads = h.loads; stores = d }
share-keeps qpus AwaitLoad k s l d h = h
share-keeps qpus AwaitStore k s l d h = h

-- ---- one QPU alone

pub overlaid-many : (x : ℕ → Bool) (at : ℕ) (given memory : List ℕ) → length (overlaid x at given memory) ≡ length memory
overlaid-many x at [] [] = refl
overlaid-many x at (m ∷ ms) [] = refl
overlaid-many x at [] (b ∷ bs) = refl
overlaid-many x at (m ∷ ms) (b ∷ bs) = ap suc (overlaid-many x (suc at) ms bs)

pub overlaid-bytes : (x : ℕ → Bool) (at : ℕ) (given memory : List ℕ) → AreBytes given → AreBytes memory → AreBytes (overlaid x at given memory)
overlaid-bytes x at [] [] g h i = h i
overlaid-bytes x at (m ∷ ms) [] g h i = h i
overlaid-bytes x at [] (b ∷ bs) g h i = h i
overlaid-bytes x at (m ∷ ms) (b ∷ bs) g h zero = chosen (λ n. n < 256) (x at) m b (λ _. g zero) (λ _. h zero)
overlaid-bytes x at (m ∷ ms) (b ∷ bs) g h (suc i) = overlaid-bytes x (suc at) ms bs (λ k. g (suc k)) (λ k. h (suc k)) i

pub record IsAlone (qpus size : ℕ) (r : Alone) : Type 0 where
  pub shared : IsShared qpus r.shared
  pub memory : IsMemory size r.memory

pub at_once-keeps : (qpus size : ℕ) (x : ℕ → Bool) (d : Demand) (v : Given) (s : Shared) (memory : List ℕ) → IsVpm v.vpm → AreBytes v.memory → IsShared qpus s → IsMemory size memory
    → IsAlone qpus size (at_once x d v s memory)
at_once-keeps qpus size x (Private late) v s memory g b h m = record { shared = h; memory = m }
at_once-keeps qpus size x (Setup late) v s memory g b h m = record { shared = h; memory = m }
at_once-keeps qpus size x Take v s memory g b h m =
    record {
      shared = record { vpm = g; owner = h.owner; loads = h.loads; stores = h.stores };
      memory = record { many = overlaid-many x 0 v.memory memory ∙ m.many; bytes = overlaid-bytes x 0 v.memory memory b m.bytes };
    }
at_once-keeps qpus size x Give v s memory g b h m = record { shared = h; memory = m }
at_once-keeps qpus size x (ReadRow row late) v s memory g b h m = record { shared = h; memory = m }
at_once-keeps qpus size x (WriteRow row words late) v s memory g b h m = record { shared = h; memory = m }
at_once-keeps qpus size x (StartLoad es late) v s memory g b h m =
    record {
      shared = record { vpm = load_all-keeps s.loads memory s.vpm h.loads m.bytes h.vpm; owner = h.owner; loads = none-are; stores = h.stores };
      memory = m;
    }
at_once-keeps qpus size x (StartStore es late) v s memory g b h m =
    record {
      shared = record { vpm = h.vpm; owner = h.owner; loads = h.loads; stores = none-are };
      memory = store_all-keeps size s.stores s.vpm memory m;
    }
at_once-keeps qpus size x AwaitLoad v s memory g b h m = record { shared = h; memory = m }
at_once-keeps qpus size x AwaitStore v s memory g b h m = record { shared = h; memory = m }
