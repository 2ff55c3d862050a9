-- The buffers of a launch: how they are read and written.
use Rattle.std.specs.Prelude.{ℕ, ◌-◌, List, [], ◌∷◌, ◌++◌, length, replicate, Option, Some, None, IfSome, IsAscii, ⊤}
use Rattle.launch_file.specs.declared.launch.BufferLine.{BufferLine}
use Rattle.launch_file.specs.declared.launch.Schedule.{Schedule}
use Rattle.launch_file.specs.declared.launch.Schedule.TheVariants.{Rounds, Seed, File}
use Rattle.commands.specs.Plan.{Plan, reads, writes}

-- the bytes, and zeros up to the size
abbrev pub filled : ℕ → List ℕ → List ℕ
filled size bytes = bytes ++ replicate (size - length bytes) 0

-- a buffer's bytes: from its file, which may have as many bytes as the buffer and is filled up with zeros, or zeros where it has none
abbrev pub read_buffer : BufferLine → (List ℕ → Plan) → Plan
read_buffer line next = read_from line.from line.size next
  where
    read_from : Option (List ℕ) → ℕ → (List ℕ → Plan) → Plan
    read_from None size next = next (filled size [])
    read_from (Some name) size next = reads name size (λ bytes. next (filled size bytes))

-- the buffers in the order of their lines, after those that are there
abbrev pub read_buffers : List BufferLine → List (List ℕ) → (List (List ℕ) → Plan) → Plan
read_buffers [] buffers next = next buffers
read_buffers (line ∷ lines) buffers next = read_buffer line (λ bytes. read_buffers lines (buffers ++ bytes ∷ []) next)

-- a buffer to its file, if it has one
abbrev pub write_buffer : BufferLine → List ℕ → Plan → Plan
write_buffer line bytes next = write_to line.to bytes next
  where
    write_to : Option (List ℕ) → List ℕ → Plan → Plan
    write_to None bytes next = next
    write_to (Some name) bytes next = writes name bytes next

-- the buffers with an output name, in the order of their lines
abbrev pub write_buffers : List BufferLine → List (List ℕ) → Plan → Plan
write_buffers [] buffers next = next
write_buffers (line ∷ lines) [] next = next
write_buffers (line ∷ lines) (bytes ∷ buffers) next = write_buffer line bytes (write_buffers lines buffers next)

-- the names of a line are text
abbrev pub HasTextNames : BufferLine → Type 0
HasTextNames line = IfSome line.from IsAscii × IfSome line.to IsAscii

-- the name of a schedule's file is text
abbrev pub HasTextFile : Schedule → Type 0
HasTextFile (Rounds rounds) = ⊤
HasTextFile (Seed seed steps) = ⊤
HasTextFile (File name times) = IsAscii name
