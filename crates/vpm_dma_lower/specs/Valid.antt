-- Which code of accesses names only what is there.
use Rattle.std.specs.Prelude.{ℕ, ◌-◌, Bool, true, false, ◌&&◌, not, nat_le, ◌==◌, List, [], ◌∷◌, length, None}
use Rattle.vop_ir.specs.declared.form.Exit.{Exit}
use Rattle.vop_ir.specs.declared.form.Exit.TheVariants.{Jump, Branch, Stop}
use Rattle.vop_ir.specs.Runs.{Block, vops}
use Rattle.vop_ir.specs.Valid.{are_ops, are_sections}
use Rattle.vpm_dma_lower.specs.Accesses.{Code}

-- to one of n blocks, or to what stands right after them
abbrev pub leads_within : ℕ → Exit → Bool
leads_within n (Jump b) = nat_le b n
leads_within n (Branch c hit miss) = nat_le hit n && (nat_le miss n && not (hit == miss))
leads_within n Stop = false

-- operations over these registers, of which s is left as it is, with whole sections
abbrev pub is_part : ℕ → ℕ → ℕ → Block vops → Bool
is_part regs s n b = are_ops regs s b.ops && (are_sections None b.ops && leads_within n b.exit)

abbrev pub are_parts : ℕ → ℕ → ℕ → List (Block vops) → Bool
are_parts regs s n [] = true
are_parts regs s n (b ∷ bs) = is_part regs s n b && are_parts regs s n bs

-- of the registers of an access the last seven are its own, and the one before them, that of the scratch, is left as it is
abbrev pub is_access : Code → Bool
is_access c = nat_le 8 c.regs && are_parts c.regs (c.regs - 8) (length c.blocks) c.blocks

abbrev pub are_accesses : List Code → Bool
are_accesses [] = true
are_accesses (c ∷ cs) = is_access c && are_accesses cs
