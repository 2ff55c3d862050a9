-- Which programs over registers name only what is there.
--
-- The first operation puts the first uniform, the scratch's address, into the scratch's register, which nothing else writes; no exit leads back to
-- it. A mutex section stands in one block, from its acquire to its release, and names at most sixteen registers.
use Rattle.std.specs.Prelude.{ℕ, Bool, true, false, ◌&&◌, ◌||◌, not, nat_le, nat_lt, ◌==◌, List, [], ◌∷◌, length, Option, Some, None, if◌then◌else◌}
use Rattle.vop_ir.specs.declared.form.Src.{Src}
use Rattle.vop_ir.specs.declared.form.Src.TheVariants as src
use Rattle.vop_ir.specs.declared.form.Dst.{Dst}
use Rattle.vop_ir.specs.declared.form.Dst.TheVariants as dst
use Rattle.vop_ir.specs.declared.form.Exit.{Exit}
use Rattle.vop_ir.specs.declared.form.Exit.TheVariants.{Jump, Branch, Stop}
use Rattle.vop_ir.specs.declared.form.Vop.{Vop}
use Rattle.vop_ir.specs.declared.form.VopBlock.{VopBlock}
use Rattle.vop_ir.specs.OneWord.{is_vop, is_or, is_always, is_turn}
use Rattle.vop_ir.specs.Runs.{acquires, releases}

-- ---- registers

abbrev pub is_below_src : ℕ → Src → Bool
is_below_src n (src.Reg r) = nat_lt r n
is_below_src n _ = true

abbrev pub is_below_dst : ℕ → Dst → Bool
is_below_dst n (dst.Reg r) = nat_lt r n
is_below_dst n _ = true

abbrev pub writes : ℕ → Dst → Bool
writes s (dst.Reg r) = r == s
writes s _ = false

-- an operation that one word says, over n registers, that leaves register s as it is
abbrev pub is_op : ℕ → ℕ → Vop → Bool
is_op n s o = is_vop o && (is_below_src n o.a && (is_below_src n o.b && (is_below_dst n o.dst && not (writes s o.dst))))

abbrev pub are_ops : ℕ → ℕ → List Vop → Bool
are_ops n s [] = true
are_ops n s (o ∷ os) = is_op n s o && are_ops n s os

-- ---- sections

-- a list of registers without repetition, and one more
abbrev pub holds : ℕ → List ℕ → Bool
holds r [] = false
holds r (x ∷ xs) = (x == r) || holds r xs

abbrev pub also : ℕ → List ℕ → List ℕ
also r xs = if holds r xs then xs else r ∷ xs

abbrev pub also_src : Src → List ℕ → List ℕ
also_src (src.Reg r) xs = also r xs
also_src _ xs = xs

abbrev pub also_dst : Dst → List ℕ → List ℕ
also_dst (dst.Reg r) xs = also r xs
also_dst _ xs = xs

-- the registers that an operation names, and these
abbrev pub named : Vop → List ℕ → List ℕ
named o xs = also_dst o.dst (also_src o.b (also_src o.a xs))

-- the registers that the open section names so far, if one is open; none is open at the end
abbrev pub are_sections : Option (List ℕ) → List Vop → Bool
are_sections None [] = true
are_sections (Some xs) [] = false
are_sections None (o ∷ os) = if acquires o.op then are_sections (Some []) os else (not (releases o.dst) && are_sections None os)
are_sections (Some xs) (o ∷ os) =
    not (acquires o.op)
    && (nat_le (length (named o xs)) 16 && are_sections (if releases o.dst then None else Some (named o xs)) os)

-- ---- blocks

-- the number of a block to which an exit may lead, of n
abbrev pub is_target : ℕ → ℕ → Bool
is_target n b = nat_le 1 b && nat_lt b n

abbrev pub is_exit : ℕ → Exit → Bool
is_exit n (Jump b) = is_target n b
is_exit n (Branch c hit miss) = is_target n hit && (is_target n miss && not (hit == miss))
is_exit n Stop = true

abbrev pub is_block : ℕ → ℕ → ℕ → VopBlock → Bool
is_block regs s n b = are_ops regs s b.ops.items && (are_sections None b.ops.items && is_exit n b.exit)

abbrev pub are_blocks : ℕ → ℕ → ℕ → List VopBlock → Bool
are_blocks regs s n [] = true
are_blocks regs s n (b ∷ bs) = is_block regs s n b && are_blocks regs s n bs

-- the first uniform goes to register s
abbrev pub is_uniform : Src → Bool
is_uniform src.Uniform = true
is_uniform _ = false

abbrev pub sets_scratch : ℕ → Vop → Bool
sets_scratch s o =
    is_vop o
    && (is_or o.op && (is_always o.cond && (writes s o.dst && (is_uniform o.a && (is_uniform o.b && (not (is_turn o.turn) && o.unpack == 0))))))

abbrev pub is_first : ℕ → ℕ → ℕ → List Vop → Exit → Bool
is_first regs s n [] exit = false
is_first regs s n (o ∷ os) exit = sets_scratch s o && (are_ops regs s os && (are_sections None os && is_exit n exit))

abbrev pub is_program : ℕ → ℕ → ℕ → List VopBlock → Bool
is_program regs s n [] = false
is_program regs s n (b ∷ bs) = is_first regs s n b.ops.items b.exit && are_blocks regs s n bs

-- a program with so many registers and that of the scratch names only what is there
unfoldable pub is_valid : (regs scratch : ℕ) → List VopBlock → Bool
is_valid regs scratch blocks = nat_lt scratch regs && is_program regs scratch (length blocks) blocks
