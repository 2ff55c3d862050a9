-- A row of the scratch is brought to a place by a mutex section of its own.
use Rattle.std.specs.Prelude.{◌≡◌, ℕ, pos, List, [], ◌∷◌, true, false, ◌==◌, None, get_or}
use Rattle.q_lane.specs.Vectors.{lanes, lane}
use Rattle.qpu_encode.specs.Operations.{add_value}
use Rattle.qpu_encode.specs.declared.form.AddOp.TheVariants as add_op
use Rattle.qpu_encode.specs.declared.form.Cond.TheVariants.{Always}
use Rattle.vpm_words.specs.Access.{Site, no_setups, fits}
use Rattle.vpm_words.specs.Elements.{elements_of}
use Rattle.vpm_words.specs.Moves.{load_all, store_all}
use Rattle.vpm_words.specs.Piece.{Piece}
use Rattle.vpm_words.specs.Laws.{IsVpm}
use Rattle.vop_ir.specs.declared.form.Op.{Op}
use Rattle.vop_ir.specs.declared.form.Op.TheVariants as op
use Rattle.vop_ir.specs.declared.form.Src.{Src}
use Rattle.vop_ir.specs.declared.form.Src.TheVariants as src
use Rattle.vop_ir.specs.declared.form.Dst.{Dst}
use Rattle.vop_ir.specs.declared.form.Dst.TheVariants as dst
use Rattle.vop_ir.specs.declared.form.Turn.TheVariants as turn
use Rattle.vop_ir.specs.declared.form.Vop.{Vop}
use Rattle.vop_ir.specs.Around.{Around, NoneDue, SetTo, LoadOf, StoreOf, bytes_stored}
use Rattle.vop_ir.specs.Meaning.{State, splat, put}
use Rattle.vop_ir.specs.Runs.{Shown, vops, outside}
use Rattle.regfile_alloc.specs.Code.{move}
use Rattle.regfile_alloc.specs.Law.{IsFull}
use Rattle.regfile_alloc.specs.Picks.{second_copy}

abbrev pub plain : Op → Dst → Src → Src → Vop
plain x d a b = record { op = x; cond = Always; flags = false; dst = d; a = a; b = b; turn = turn.Not; unpack = 0 }

-- the acquire, a wait, or no operation: what stands as their operands isn't looked at
abbrev pub alone : Op → Vop
alone x = plain x dst.Nowhere (src.Small (pos 0)) (src.Small (pos 0))

-- a word to a setup or to the release
abbrev pub word_to : Dst → ℕ → Vop
word_to d w = record { op = op.Add add_op.Or; cond = Always; flags = false; dst = d; a = src.Word w; b = src.Word w; turn = turn.Not; unpack = 0 }

-- the start of the scratch and the row's offset
abbrev pub start_load : ℕ → Vop
start_load base =
    record { op = op.Add add_op.Add; cond = Always; flags = false; dst = dst.LoadAddr; a = src.Reg base; b = src.Reg second_copy; turn = turn.Not; unpack = 0 }

-- the row at an offset of the scratch, whose start is in the place base, goes to the place p
abbrev pub bring : ℕ → ℕ → ℕ → List Vop
bring base p offset =
    move second_copy (src.Word offset) ∷ alone op.Lock ∷ word_to dst.ReadSet 0x80011000 ∷ start_load base ∷ alone op.WaitLoad ∷ word_to dst.ReadSet 0x101A00
    ∷ alone (op.Add add_op.Nop) ∷ alone (op.Add add_op.Nop) ∷ alone (op.Add add_op.Nop) ∷ move p src.Vpm ∷ word_to dst.Unlock 0 ∷ []

-- a whole row of the VPM, row 0
abbrev pub row_piece : Piece
row_piece = record { mode = 0; len = 16; row = 0; col = 0 }

-- outside sections nothing is owned, left or due, and no setup is made
abbrev pub resting : List ℕ → Around
resting memory = record { shared = record { vpm = []; owner = None; loads = []; stores = [] }; memory = memory; due = NoneDue; events = [] }

abbrev pub IsResting : State → Type 0
IsResting t = (t.around ≡ resting t.around.memory) × (t.ports ≡ record no_setups { taken = t.ports.taken; age = t.ports.age })

-- what others see of it
abbrev pub bring_seen : ℕ → List ℕ → Around
bring_seen address memory = record (resting memory) { events = SetTo 0x101A00 ∷ LoadOf (elements_of address row_piece) ∷ SetTo 0x80011000 ∷ [] }

-- the row that a load gives, where the VPM held v
abbrev pub row_loaded : ℕ → List ℕ → List (List ℕ) → List ℕ
row_loaded address memory v = lanes 16 (λ i. get_or (get_or (load_all (elements_of address row_piece) memory v) 0 []) i 0)

abbrev pub brought : ℕ → ℕ → ℕ → List (List ℕ) → State → State
brought p offset address v t =
    record t {
      regs = put p (row_loaded address t.around.memory v) (put second_copy (splat offset) t.regs);
      ports = record no_setups { taken = t.ports.taken };
    }

pub record Brought (p offset address : ℕ) (t u : State) : Type 0 where
  pub vpm : List (List ℕ)
  pub valid : IsVpm vpm
  pub is : u ≡ brought p offset address vpm t

abbrev pub BringsRight : Type 0
BringsRight =
    (h : Site) (base p offset address : ℕ) (t : State) → IsResting t → ((r : ℕ) → IsFull (t.regs r)) → (base == second_copy) ≡ false
    → add_value add_op.Add (lane (t.regs base) 0) offset ≡ address → fits h row_piece address ≡ true
    → Shown outside vops h (bring base p offset) (bring_seen address t.around.memory ∷ []) false t (λ u. Brought p offset address t u)

-- ---- and back

abbrev pub give : ℕ → Vop
give p =
    record { op = op.Add add_op.Or; cond = Always; flags = false; dst = dst.Vpm; a = src.Reg p; b = src.Reg p; turn = turn.Not; unpack = 0 }

abbrev pub start_store : ℕ → Vop
start_store base =
    record { op = op.Add add_op.Add; cond = Always; flags = false; dst = dst.StoreAddr; a = src.Reg base; b = src.Reg second_copy; turn = turn.Not; unpack = 0 }

-- what the place p holds goes to the row at an offset of the scratch
abbrev pub put_away : ℕ → ℕ → ℕ → List Vop
put_away base p offset =
    move second_copy (src.Word offset) ∷ alone op.Lock ∷ word_to dst.WriteSet 0x1A00 ∷ give p ∷ word_to dst.WriteSet 0x80904000 ∷ start_store base ∷ alone op.WaitStore ∷ word_to dst.Unlock 0 ∷ []

-- the memory with a row written, and the bytes that are stored
abbrev pub row_stored : ℕ → List ℕ → List ℕ → List ℕ
row_stored address words memory = store_all (elements_of address row_piece) (words ∷ []) memory

abbrev pub put_seen : ℕ → List ℕ → List ℕ → Around
put_seen address words memory =
    record (resting (row_stored address words memory)) {
      events = StoreOf (elements_of address row_piece) (bytes_stored (elements_of address row_piece) (words ∷ [])) ∷ SetTo 0x80904000 ∷ SetTo 0x1A00 ∷ [];
    }

abbrev pub put_back : ℕ → ℕ → ℕ → State → State
put_back p offset address t =
    record t {
      regs = put second_copy (splat offset) t.regs;
      ports = record no_setups { taken = t.ports.taken };
      around = resting (row_stored address (t.regs p) t.around.memory);
    }

abbrev pub PutsRight : Type 0
PutsRight =
    (h : Site) (base p offset address : ℕ) (t : State) → IsResting t → ((r : ℕ) → IsFull (t.regs r)) → (base == second_copy) ≡ false → (p == second_copy) ≡ false
    → add_value add_op.Add (lane (t.regs base) 0) offset ≡ address → fits h row_piece address ≡ true
    → Shown outside vops h (put_away base p offset) (put_seen address (t.regs p) t.around.memory ∷ []) false t (λ u. u ≡ put_back p offset address t)
