-- An opening for which the premises of the laws hold: three QPUs, each of which stores one word of its own in a buffer of its own. The
-- program and the places are this project's own.
use Rattle.std.specs.Prelude.{◌≡◌, ℕ, ◌+◌, ◌*◌, ◌<◌, List, [], ◌∷◌, replicate}
use Rattle.vpm_words.specs.Access.{Given}
use Rattle.vpm_words.specs.Moves.{number_at}
use Rattle.vpm_words.specs.declared.state.Region.{Region}
use Rattle.qpu_machine.specs.declared.plan.Fill.{Fill}
use Rattle.qpu_machine.specs.Planned.{Planned, no_region}
use Rattle.qpu_machine.specs.Opening.{Contents, opening, contents_of}
use Rattle.qpu_machine.specs.Reachable.{AreContents}
use Rattle.solo_law.specs.Sharing.{no_shares}
use Rattle.solo_law.specs.Premises.{solo_of, Premises}
use Rattle.solo_law.specs.Laws.{Ends}

-- the words, in hexadecimal beside each, and what it does
unfoldable pub example_words : List ℕ
example_words =
    -- 10021967 15827D80: or r5, uniform, uniform. The address of the store, in each element
    1153512385093467520
    -- 100009E7 00CE7000: reads the mutex. It is acquired
    ∷ 1152932392362471424
    -- E0021C67 00001A00: the write setup. Rows of the VPM are written from row 0 on
    ∷ 16141495243156494848
    -- 10020C27 0C9A6DC0: add vpm, element number, QPU number. QPU k writes k, k + 1, .. k + 15
    ∷ 1153497816414973376
    -- E0021C67 80814018: the store setup. One word, of row 0 and column 3
    ∷ 16141495245312442392
    -- 10021CA7 159E7B40: or store address, r5, r5. The store starts
    ∷ 1153515958508092224
    -- 100009E7 009F2000: waits for the store
    ∷ 1152932392359370752
    -- E0020CE7 00000000: writes the mutex. It is released
    ∷ 16141478200726257664
    -- 300009E7 009E7000: the program end
    ∷ 3458775401573019648
    -- 100009E7 009E7000: nothing, in the two words after it
    ∷ 1152932392359325696
    ∷ 1152932392359325696
    ∷ []

-- the buffer of QPU k
abbrev pub buffer_of : ℕ → Region
buffer_of k = record { start = 8 * k; len = 8 }

-- where QPU k stores: in the second word of its buffer
abbrev pub place_of : ℕ → ℕ
place_of k = 8 * k + 4

unfoldable pub example : Planned
example =
    record {
      words = example_words;
      qpus = 3;
      per = 1;
      uniforms = place_of 0 ∷ place_of 1 ∷ place_of 2 ∷ [];
      memory = replicate 24 165;
      buffers = buffer_of 0 ∷ buffer_of 1 ∷ buffer_of 2 ∷ [];
      scratch = replicate 3 no_region;
    }

-- the premises hold of it, whatever the registers and the VPM hold
abbrev pub ExampleFits : Type 0
ExampleFits = (contents : Contents) → AreContents 3 contents → Premises no_shares (opening example contents)

-- so they do where these hold zeros, or the numbers of a seed
abbrev pub FilledExampleFits : Type 0
FilledExampleFits = (fill : Fill) → Premises no_shares (opening example (contents_of fill 3))

-- with any contents under which it has ended, the run of QPU k alone leaves the number k + 3 where it stores
abbrev pub ExampleStores : Type 0
ExampleStores =
    (contents : Contents) → AreContents 3 contents → (k : ℕ) → k < 3
    → (found : List Given) → Ends no_shares (opening example contents) k found
    → number_at 4 (solo_of no_shares (opening example contents) k found).memory (place_of k) ≡ k + 3
