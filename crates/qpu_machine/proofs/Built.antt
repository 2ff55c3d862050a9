-- A machine's parts go together.
use Rattle.std.specs.Prelude.{◌≡◌, ℕ, ◌*◌, ◌≤◌, length, map}
use Rattle.std.proofs.Common.{ap, sym, ◌∙◌, subst}
use Rattle.std.proofs.lemmas.List.{length-replicate, length-map}
use Rattle.std.proofs.lemmas.List.FromFn.{length-map-range_with_len}
use Rattle.qpu_machine.specs.declared.plan.Fill.{Fill}
use Rattle.qpu_machine.specs.declared.plan.Fill.TheVariants.{Zero, Seed}
use Rattle.qpu_machine.specs.Planned.{Planned, IsPlan, IsBuilt}
use Rattle.qpu_machine.specs.Opening.{opening_qpu, contents_of, zero_regs, drawn_regs, numbers_each, fixed_of}

regs_many : (fill : Fill) (n : ℕ) → length (contents_of fill n).regs ≡ n
regs_many Zero n = length-replicate n zero_regs
regs_many (Seed seed) n = length-map-range_with_len (λ k. drawn_regs seed (numbers_each * k)) 0 n

-- as many QPUs open as are asked for
pub opened_many : (fill : Fill) (n : ℕ) → length (map opening_qpu (contents_of fill n).regs) ≡ n
opened_many fill n = length-map (contents_of fill n).regs opening_qpu ∙ regs_many fill n

pub built : (plan : Planned) (many : ℕ) → IsPlan plan → many ≡ plan.qpus → IsBuilt many (length plan.memory) (fixed_of plan)
built plan many h e =
    record {
      few = subst (λ n. n ≤ 12) (sym e) h.few;
      buffers = h.buffers_within;
      sites = record { uniforms = h.uniforms ∙ ap (λ n. n * plan.per) (sym e); scratch = h.scratch ∙ sym e };
    }
