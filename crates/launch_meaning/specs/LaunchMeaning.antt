-- What a launch does: its work-items one by one. That they are run in the order of their flat ids, and the verdicts, are this project's own.
use Rattle.std.specs.Prelude.{◌≡◌, ◌⊎◌, ℕ, suc, ◌+◌, ◌<◌, List, [], ◌∷◌, length, get_or, ⊤}
use Rattle.footprint.specs.declared.marks.Mark.{Mark}
use Rattle.footprint.specs.Marks.{ConflictAt}
use Rattle.launch_meaning.specs.declared.ends.Ended.{Ended}
use Rattle.launch_meaning.specs.declared.ends.ItemEnd.{ItemEnd}
use Rattle.launch_meaning.specs.declared.ends.ItemEnd.TheVariants.{Ends, Bounds as ItemBounds, Spent as ItemSpent}
use Rattle.launch_meaning.specs.declared.verdict.Clash.{Clash}
use Rattle.launch_meaning.specs.declared.verdict.Verdict.{Verdict}
use Rattle.launch_meaning.specs.declared.verdict.Verdict.TheVariants.{Safe, Race, Bounds, Spent}

-- what an item makes of its flat id, of the buffers that it finds and of the turns that it is given
abbrev pub Item : Type 0
Item = (id : ℕ) (buffers : List (List ℕ)) (turns : ℕ) → ItemEnd

-- these items, from number `first` on, come to their ends: each runs on the buffers that the one before has left
abbrev pub AreRun : Item → (turns first : ℕ) → List (List ℕ) → List Ended → Type 0
AreRun item turns first buffers [] = ⊤
AreRun item turns first buffers (one ∷ more) = (item first buffers turns ≡ Ends one) × AreRun item turns (suc first) one.buffers more

-- the buffers that the last of them has left
abbrev pub left_by : List (List ℕ) → List Ended → List (List ℕ)
left_by buffers [] = buffers
left_by buffers (one ∷ more) = left_by one.buffers more

-- their turns together
abbrev pub turns_of : List Ended → ℕ
turns_of [] = 0
turns_of (one ∷ more) = one.turns + turns_of more

-- the bytes that item i read and wrote
abbrev pub marks_at : List Ended → ℕ → List Mark
marks_at ended i = (get_or ended i (record { buffers = []; marks = []; turns = 0 })).marks

-- two items, the first before the second, of which one writes this byte of a buffer and the other reads or writes it
pub record IsRace (ended : List Ended) (clash : Clash) : Type 0 where
  pub order : clash.first < clash.second
  pub there : clash.second < length ended
  pub conflict : ConflictAt (marks_at ended clash.first) (marks_at ended clash.second) clash.buffer clash.byte

-- a lesser buffer, then a lesser byte, then a lesser item, then a lesser other item
abbrev pub IsLess : Clash → Clash → Type 0
IsLess r s =
    (r.buffer < s.buffer)
    ⊎ ((r.buffer ≡ s.buffer) × ((r.byte < s.byte)
    ⊎ ((r.byte ≡ s.byte) × ((r.first < s.first)
    ⊎ ((r.first ≡ s.first) × (r.second < s.second))))))

-- a race, and no lesser one
abbrev pub IsLeastRace : List Ended → Clash → Type 0
IsLeastRace ended clash = IsRace ended clash × ((other : Clash) → IsLess other clash → ¬ (IsRace ended other))

-- a launch of so many items is safe: each comes to its end within these turns, and no byte that one of them writes is read or written by another
pub record IsSafe (item : Item) (items : ℕ) (buffers : List (List ℕ)) (turns : ℕ) (ended : List Ended) : Type 0 where
  pub many : length ended ≡ items
  pub run : AreRun item turns 0 buffers ended
  pub apart : (clash : Clash) → ¬ (IsRace ended clash)

-- The verdict on a launch. The first item that doesn't come to its end decides, then the least race
abbrev pub IsVerdict : Item → (items : ℕ) → List (List ℕ) → (turns : ℕ) → Verdict → Type 0
IsVerdict item items buffers turns (Bounds i at) =
    (ended : List Ended) × (length ended ≡ i) × (i < items) × AreRun item turns 0 buffers ended × (item i (left_by buffers ended) turns ≡ ItemBounds at)
IsVerdict item items buffers turns (Spent i) =
    (ended : List Ended) × (length ended ≡ i) × (i < items) × AreRun item turns 0 buffers ended × (item i (left_by buffers ended) turns ≡ ItemSpent)
IsVerdict item items buffers turns (Race buffer byte first second) =
    (ended : List Ended) × (length ended ≡ items) × AreRun item turns 0 buffers ended
    × IsLeastRace ended (record { buffer = buffer; byte = byte; first = first; second = second })
IsVerdict item items buffers turns (Safe all after) =
    (ended : List Ended) × IsSafe item items buffers turns ended × (all ≡ turns_of ended) × (after.items ≡ left_by buffers ended)
