use Rattle.std.proofs.Common.{◌≡◌, ◌⊎◌, inl, inr, Ok, Err, Result}
use Rattle.clc_front.specs.declared.wanted.WantedKernel.{WantedKernel}
use Rattle.promise.specs.declared.refusal.Refusal.{Refusal}
use Rattle.promise.specs.declared.refusal.Refusal.TheVariants.{Memory}
use Rattle.vc4c_core.proofs.judge.OpenClKernelJudgedKernel.of_source.Goals as goal

only_memory : (result : Result WantedKernel Refusal) (e : Refusal) → result ≡ Err e → ((f : WantedKernel) × (result ≡ Ok f)) ⊎ (result ≡ Err Memory) → e ≡ Memory
only_memory result e is (inl h) = absurd (let given : result ≡ Ok h.0 = h.1 in cc)
only_memory result e is (inr h) = cc

pub returns-in-Err-clause-lawful : goal.returns-in-Err-clause-lawful
returns-in-Err-clause-lawful c = λ m is. only_memory c.front.result c.in-Err.refusal c.in-Err.is (c.front.ensures.lawful is.functions is.number is.has)
