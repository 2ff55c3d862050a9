-- The code of lists of operations and of blocks.
use Rattle.std.proofs.Common.{◌≡◌, ℕ, zero, suc, ◌<◌, ◌≤◌, List, [], ◌∷◌, ◌++◌, map, length, refl, sym, ap, ◌∙◌, subst, Bool, true, arith}
use Rattle.std.specs.Prelude.{get_or, Some, nat_lt, if◌then◌else◌}
use Rattle.std.proofs.lemmas.Bool.Decides.{nat_tests}
use Rattle.std.proofs.lemmas.List.{append_assoc}
use Rattle.vop_ir.specs.declared.form.Src.{Src}
use Rattle.vop_ir.specs.declared.form.Src.TheVariants as src
use Rattle.vop_ir.specs.declared.form.Dst.{Dst}
use Rattle.vop_ir.specs.declared.form.Dst.TheVariants as dst
use Rattle.vop_ir.specs.declared.form.Vop.{Vop}
use Rattle.vop_ir.specs.declared.form.VopBlock.{VopBlock}
use Rattle.vop_ir.specs.Runs.{Block, vops, block_from, Shows, outside}
use Rattle.phys_ir.specs.declared.form.PhysBlock.{PhysBlock}
use Rattle.phys_ir.specs.Places.{block_of}
use Rattle.regfile_alloc.specs.Code.{src_in, dst_in, code_of, moves_of, real_of, moves_by, a_by, b_by}
use Rattle.regfile_alloc.proofs.Kept.{keeps}
use Rattle.regfile_alloc.specs.Picks.{item_in, items_in, block_in, loc_of, first_copy, as_numbered, KeepsRun, seen_outside, picks_of, within, IsSrcBelow, IsDstBelow, IsBelow, AreBelow, AllBelow, IsSrcPlace, IsDstPlace, AreInPlaces}

pub below_get : (n : ℕ) (os : List Vop) (i : ℕ) (d : Vop) → i < length os → AreBelow n os → IsBelow n (get_or os i d)
below_get n [] i d l h = absurd (omega (arith, l))
below_get n (x ∷ os) zero d l h = h.0
below_get n (x ∷ os) (suc i) d l h = below_get n os i d (omega (arith, l)) h.1

pub below_block : (n : ℕ) (ks : List VopBlock) (i : ℕ) (d : VopBlock) → i < length ks → AllBelow n (map block_from ks) → AreBelow n (get_or ks i d).ops.items
below_block n [] i d l h = absurd (omega (arith, l))
below_block n (x ∷ ks) zero d l h = h.0
below_block n (x ∷ ks) (suc i) d l h = below_block n ks i d (omega (arith, l)) h.1

pub in_places_at : (os : List Vop) (i : ℕ) (d : Vop) → i < length os → AreInPlaces os → IsDstPlace (get_or os i d).dst × IsSrcPlace (get_or os i d).a × IsSrcPlace (get_or os i d).b
in_places_at [] i d l h = absurd (omega (arith, l))
in_places_at (x ∷ os) zero d l h = h.0
in_places_at (x ∷ os) (suc i) d l h = in_places_at os i d (omega (arith, l)) h.1

pub within_same : (p : ℕ) → p < 68 → within p ≡ p
within_same p l = let e : nat_lt p 68 ≡ true = grind (arith, nat_tests, l) in ap (λ (b : Bool). if b then p else 0) e

-- ---- the same code by places that are the same

src_alike : (n : ℕ) (loc loc2 : ℕ → ℕ) → ((r : ℕ) → r < n → loc r ≡ loc2 r) → (x : Src) → IsSrcBelow n x → src_in loc x ≡ src_in loc2 x
src_alike n loc loc2 e (src.Reg r) l = ap src.Reg (e r l)
src_alike n loc loc2 e (src.Small i) l = refl
src_alike n loc loc2 e (src.Word w) l = refl
src_alike n loc loc2 e src.Uniform l = refl
src_alike n loc loc2 e src.Elem l = refl
src_alike n loc loc2 e src.Qpu l = refl
src_alike n loc loc2 e src.Vpm l = refl

dst_alike : (n : ℕ) (loc loc2 : ℕ → ℕ) → ((r : ℕ) → r < n → loc r ≡ loc2 r) → (x : Dst) → IsDstBelow n x → dst_in loc x ≡ dst_in loc2 x
dst_alike n loc loc2 e (dst.Reg r) l = ap dst.Reg (e r l)
dst_alike n loc loc2 e dst.Five l = refl
dst_alike n loc loc2 e dst.Nowhere l = refl
dst_alike n loc loc2 e dst.Vpm l = refl
dst_alike n loc loc2 e dst.ReadSet l = refl
dst_alike n loc loc2 e dst.WriteSet l = refl
dst_alike n loc loc2 e dst.LoadAddr l = refl
dst_alike n loc loc2 e dst.StoreAddr l = refl
dst_alike n loc loc2 e dst.Unlock l = refl

-- an item's code by its operands over places
abbrev coded : ℕ → Vop → Src → Src → Dst → List Vop
coded spare o a b d =
    moves_by (picks_of spare o a b) a b ++ ((record o { dst = d; a = a_by (picks_of spare o a b) a; b = b_by (picks_of spare o a b) a b }) ∷ [])

ops_alike : (n : ℕ) (loc loc2 : ℕ → ℕ) → ((r : ℕ) → r < n → loc r ≡ loc2 r) → (spare : ℕ) (os : List Vop) → AreBelow n os → code_of (items_in loc spare os) ≡ code_of (items_in loc2 spare os)
ops_alike n loc loc2 e spare [] l = refl
ops_alike n loc loc2 e spare (o ∷ os) l =
    sym (append_assoc (moves_of (item_in loc spare o)) (real_of (item_in loc spare o) ∷ []) (code_of (items_in loc spare os)))
    ∙ ap (λ z. z ++ code_of (items_in loc spare os))
    (ap (λ z. coded spare o z (src_in loc o.b) (dst_in loc o.dst)) (src_alike n loc loc2 e o.a l.0.a) ∙ ap (λ z. coded spare o (src_in loc2 o.a) z (dst_in loc o.dst)) (src_alike n loc loc2 e o.b l.0.b)
    ∙ ap (λ z. coded spare o (src_in loc2 o.a) (src_in loc2 o.b) z) (dst_alike n loc loc2 e o.dst l.0.dst))
    ∙ ap (λ z. coded spare o (src_in loc2 o.a) (src_in loc2 o.b) (dst_in loc2 o.dst) ++ z) (ops_alike n loc loc2 e spare os l.1)
    ∙ append_assoc (moves_of (item_in loc2 spare o)) (real_of (item_in loc2 spare o) ∷ []) (code_of (items_in loc2 spare os))

abbrev with_ops : Block vops → List Vop → Block vops
with_ops k os = record k { ops = os }

blocks_alike : (n : ℕ) (loc loc2 : ℕ → ℕ) → ((r : ℕ) → r < n → loc r ≡ loc2 r) → (spare : ℕ) (ks : List (Block vops)) → AllBelow n ks → map (block_in loc spare) ks ≡ map (block_in loc2 spare) ks
blocks_alike n loc loc2 e spare [] l = refl
blocks_alike n loc loc2 e spare (k ∷ ks) l =
    ap (λ z. with_ops k z ∷ map (block_in loc spare) ks) (ops_alike n loc loc2 e spare k.ops l.0) ∙ ap (λ z. block_in loc2 spare k ∷ z) (blocks_alike n loc loc2 e spare ks l.1)

pub kept_by : (n : ℕ) (places : List ℕ) (ks : List (Block vops)) (ps : List PhysBlock) → n ≤ 32 → AllBelow n ks → ((r : ℕ) → r < n → get_or places r 0 ≡ r)
    → map block_of ps ≡ map (block_in (loc_of places) first_copy) ks → KeepsRun ks ps
kept_by n places ks ps le l e h g t o source =
    subst (λ z. Shows outside vops g z (seen_outside ks source.seen) (Some 0) t) (sym (h ∙ blocks_alike n (loc_of places) as_numbered (λ r few. ap within (e r few) ∙ within_same r (omega (arith, few, le))) first_copy ks l)) (keeps n le ks l g t o source)
