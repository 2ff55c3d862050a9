-- What a source means to those who compile it, to those who run what was made of it, and to those who judge launches of it. It is this project's own.
use Rattle.std.specs.Prelude.{ℕ, List}
use Rattle.promise.specs.declared.refusal.SourceRule.{SourceRule}
use Rattle.promise.specs.Kernel.{Meaning, Kernel}

-- A language says of each source and each name: whether the source is in the profile for a kernel of that name, which kernel that is, and which rule
-- another source violates first, and at which byte
pub record Language : Type 1 where
  pub in_profile : (source name : List ℕ) → Type 0
  pub has_kernel : (source name : List ℕ) → Kernel → Type 0
  pub violates_first : (source name : List ℕ) → SourceRule → ℕ → Type 0

-- What a source means to those who judge launches of its kernels: which meaning its kernel of that name has, and which rule a source without one
-- violates first, and at which byte
pub record Meanings : Type 1 where
  pub means : (source name : List ℕ) → Meaning → Type 0
  pub violates_first : (source name : List ℕ) → SourceRule → ℕ → Type 0

-- what a program takes sources for: what it compiles, and what it judges
pub record Sources : Type 1 where
  pub compiled : Language
  pub judged : Meanings
