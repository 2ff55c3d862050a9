-- The names of the rules that a source may violate, as the program prints them. They are this project's own.
use Rattle.std.specs.Prelude.{ℕ, List, codes}
use Rattle.promise.specs.declared.refusal.SourceRule.{SourceRule}
use Rattle.promise.specs.declared.refusal.SourceRule.TheVariants.{L1, L2, L3, L4, L5, G1, G2, S1, S2, S3, S4, S5, S6, S7, S8, S9, S10, S11, S12, S13, S14, K1, N1, N2, N0}

abbrev pub name_of : SourceRule → List ℕ
name_of L1 = codes "L1"
name_of L2 = codes "L2"
name_of L3 = codes "L3"
name_of L4 = codes "L4"
name_of L5 = codes "L5"
name_of G1 = codes "G1"
name_of G2 = codes "G2"
name_of S1 = codes "S1"
name_of S2 = codes "S2"
name_of S3 = codes "S3"
name_of S4 = codes "S4"
name_of S5 = codes "S5"
name_of S6 = codes "S6"
name_of S7 = codes "S7"
name_of S8 = codes "S8"
name_of S9 = codes "S9"
name_of S10 = codes "S10"
name_of S11 = codes "S11"
name_of S12 = codes "S12"
name_of S13 = codes "S13"
name_of S14 = codes "S14"
name_of K1 = codes "K1"
name_of N1 = codes "N1"
name_of N2 = codes "N2"
name_of N0 = codes "N0"
