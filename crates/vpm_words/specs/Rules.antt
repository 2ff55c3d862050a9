-- The restrictions on a peripheral access, each as a test of its own, and the least one that is broken. Their wording, their numbers and the
-- distance of three words are this project's own.
use Rattle.std.specs.Prelude.{ℕ, Bool, true, false, not, if◌then◌else◌, nat_lt, ◌==◌, ◌&&◌, ◌||◌, Option, Some, None, is_none}
use Rattle.vpm_words.specs.declared.setup.ReadSetup.{ReadSetup}
use Rattle.vpm_words.specs.declared.setup.ReadSetup.TheVariants as reading
use Rattle.vpm_words.specs.Words.{read_setup_of, write_setup_of}
use Rattle.vpm_words.specs.declared.state.Access.{Access}
use Rattle.vpm_words.specs.declared.state.Access.TheVariants.{Uniform, ReadVpm, WriteVpm, ReadSet, WriteSet, LoadAddr, StoreAddr, WaitLoad, WaitStore, Lock, Unlock}
use Rattle.vpm_words.specs.declared.state.Owner.{Owner}
use Rattle.vpm_words.specs.declared.state.Owner.TheVariants.{Nobody, Me, Other}
use Rattle.vpm_words.specs.declared.state.Rule.{Rule}
use Rattle.vpm_words.specs.declared.state.Rule.TheVariants.{H0, H1, H2, H3, H4, H5, H6, H7, H8, H9, H10, H11, H12, H13, H14, H15, H16}
use Rattle.vpm_words.specs.declared.state.Seen.{Seen}

abbrev pub is_me : Owner → Bool
is_me Me = true
is_me Nobody = false
is_me Other = false

abbrev pub is_other : Owner → Bool
is_other Other = true
is_other Nobody = false
is_other Me = false

-- rows are asked for, and not a transfer
abbrev pub asks_rows : Option ReadSetup → Bool
asks_rows (Some (reading.Rows row rows)) = true
asks_rows (Some (reading.Load t)) = false
asks_rows None = false

-- a uniform is read past the QPU's last one
abbrev pub breaks_h4 : Access → Seen → Bool
breaks_h4 Uniform s = s.uniforms == 0
breaks_h4 _ s = false

-- the owner acquires the mutex, or a QPU that isn't the owner releases it
abbrev pub breaks_h8 : Access → Seen → Bool
breaks_h8 Lock s = is_me s.owner
breaks_h8 Unlock s = not (is_me s.owner)
breaks_h8 _ s = false

-- a QPU that isn't the owner accesses the VPM, a setup, an address or a wait
abbrev pub breaks_h9 : Access → Seen → Bool
breaks_h9 Uniform s = false
breaks_h9 Lock s = false
breaks_h9 Unlock s = false
breaks_h9 _ s = not (is_me s.owner)

-- a read or write of the VPM touches a row in which an element of a transfer is left
abbrev pub breaks_h10 : Access → Seen → Bool
breaks_h10 ReadVpm s = s.row_busy
breaks_h10 WriteVpm s = s.row_busy
breaks_h10 _ s = false

-- a transfer is started on an engine that has elements left, or the mutex is released while either has
abbrev pub breaks_h11 : Access → Seen → Bool
breaks_h11 LoadAddr s = s.load_busy
breaks_h11 StoreAddr s = s.store_busy
breaks_h11 Unlock s = s.load_busy || s.store_busy
breaks_h11 _ s = false

-- a transfer that has its setup is started at a wrong address
abbrev pub breaks_h12 : Access → Seen → Bool
breaks_h12 LoadAddr s = not s.fits
breaks_h12 StoreAddr s = not s.fits
breaks_h12 _ s = false

-- a read of the VPM has no row left, or fewer than three words were done since the last read setup of rows
abbrev pub breaks_h13 : Access → ℕ → Seen → Bool
breaks_h13 ReadVpm age s = (s.read_rows == 0) || nat_lt age 3
breaks_h13 _ age s = false

-- the value of a setup is no setup's word
abbrev pub breaks_h14 : Access → Seen → Bool
breaks_h14 ReadSet s = is_none (read_setup_of s.value)
breaks_h14 WriteSet s = is_none (write_setup_of s.value)
breaks_h14 _ s = false

-- a write of the VPM without a write row, or a transfer without its setup
abbrev pub breaks_h15 : Access → Seen → Bool
breaks_h15 WriteVpm s = not s.write_set
breaks_h15 LoadAddr s = not s.load_set
breaks_h15 StoreAddr s = not s.store_set
breaks_h15 _ s = false

-- rows are asked for while rows of the last read setup are left
abbrev pub breaks_h16 : Access → Seen → Bool
breaks_h16 ReadSet s = asks_rows (read_setup_of s.value) && nat_lt 0 s.read_rows
breaks_h16 _ s = false

-- whether an access breaks a rule; age is the number of words done since the last read setup of rows, up to 3
abbrev pub is_broken : Access → ℕ → Seen → Rule → Bool
is_broken a age s H0 = false
is_broken a age s H1 = false
is_broken a age s H2 = false
is_broken a age s H3 = false
is_broken a age s H4 = breaks_h4 a s
is_broken a age s H5 = false
is_broken a age s H6 = false
is_broken a age s H7 = false
is_broken a age s H8 = breaks_h8 a s
is_broken a age s H9 = breaks_h9 a s
is_broken a age s H10 = breaks_h10 a s
is_broken a age s H11 = breaks_h11 a s
is_broken a age s H12 = breaks_h12 a s
is_broken a age s H13 = breaks_h13 a age s
is_broken a age s H14 = breaks_h14 a s
is_broken a age s H15 = breaks_h15 a s
is_broken a age s H16 = breaks_h16 a s

-- ---- the least broken rule

abbrev pub number : Rule → ℕ
number H0 = 0
number H1 = 1
number H2 = 2
number H3 = 3
number H4 = 4
number H5 = 5
number H6 = 6
number H7 = 7
number H8 = 8
number H9 = 9
number H10 = 10
number H11 = 11
number H12 = 12
number H13 = 13
number H14 = 14
number H15 = 15
number H16 = 16

abbrev pub first_of : Bool → Rule → Option Rule → Option Rule
first_of broken rule others = if broken then Some rule else others

-- the first rule that a test finds, in order of number
abbrev pub least : (Rule → Bool) → Option Rule
least t =
    first_of (t H0) H0 (first_of (t H1) H1 (first_of (t H2) H2 (first_of (t H3) H3 (first_of (t H4) H4 (first_of (t H5) H5
    (first_of (t H6) H6 (first_of (t H7) H7 (first_of (t H8) H8 (first_of (t H9) H9 (first_of (t H10) H10 (first_of (t H11) H11
    (first_of (t H12) H12 (first_of (t H13) H13 (first_of (t H14) H14 (first_of (t H15) H15 (first_of (t H16) H16 None))))))))))))))))

-- the least rule that an access breaks
unfoldable pub least_broken : Access → ℕ → Seen → Option Rule
least_broken a age s = least (is_broken a age s)

-- where no rule is broken: the mutex is another QPU's, or the engine that is waited for has elements left
abbrev pub is_stalled : Access → Seen → Bool
is_stalled Lock s = is_other s.owner
is_stalled WaitLoad s = s.load_busy
is_stalled WaitStore s = s.store_busy
is_stalled _ s = false

-- whether a word waits: one without an access never does
abbrev pub is_waiting : Option Access → Seen → Bool
is_waiting None s = false
is_waiting (Some a) s = is_stalled a s
