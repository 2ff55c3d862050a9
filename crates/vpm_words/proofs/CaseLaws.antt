-- The cases hold: each side computes.
use Rattle.std.proofs.Common.{refl}
use Rattle.vpm_words.specs.Words.{load_word, store_word, rows_word, row_word, read_setup_of, write_setup_of}
use Rattle.vpm_words.specs.Elements.{elements_of}
use Rattle.vpm_words.specs.Access.{fits, ports_after}
use Rattle.vpm_words.specs.Moves.{load_element, store_element, bytes_out}
use Rattle.vpm_words.specs.Cases.{KnownRules, KnownStalls, KnownEffects, KnownShares}

pub known_rules : KnownRules
unfolding load_word store_word rows_word row_word read_setup_of write_setup_of fits elements_of
known_rules =
    record {
      uniform = refl;
      no_uniform = refl;
      uniform_of_nobody = refl;
      lock_free = refl;
      lock_other = refl;
      lock_twice = refl;
      unlock = refl;
      unlock_free = refl;
      unlock_other = refl;
      read_without = refl;
      write_without = refl;
      set_without = refl;
      start_without = refl;
      wait_without = refl;
      read = refl;
      read_busy = refl;
      read_busy_store = refl;
      read_other_row = refl;
      read_none_left = refl;
      read_early = refl;
      read_busy_early = refl;
      read_last = refl;
      write = refl;
      write_busy = refl;
      write_unset = refl;
      unlock_busy = refl;
      unlock_loading = refl;
      start_busy = refl;
      start_beside = refl;
      start = refl;
      start_in_scratch = refl;
      start_odd = refl;
      start_before = refl;
      start_past = refl;
      start_in_two = refl;
      start_unset = refl;
      store_unset = refl;
      rows_before_last = refl;
      rows_again = refl;
      rows = refl;
      load_while_rows = refl;
      no_read_setup = refl;
      no_write_setup = refl;
      write_rows = refl;
    }

pub known_stalls : KnownStalls
known_stalls =
    record {
      lock_other = refl;
      lock_free = refl;
      load_busy = refl;
      load_idle = refl;
      store_busy = refl;
      store_idle = refl;
    }

pub known_effects : KnownEffects
unfolding load_word rows_word read_setup_of elements_of ports_after
known_effects =
    record {
      uniform = refl;
      row = refl;
      next_row = refl;
      wait = refl;
      mutex = refl;
      setup_of_rows = refl;
      setup_of_load = refl;
      no_access = refl;
      old = refl;
      uniform_taken = refl;
      uniforms_end = refl;
      row_read = refl;
      row_written = refl;
      halves = refl;
      byte = refl;
      put_high_half = refl;
      put_byte = refl;
      little_end = refl;
      little_end_out = refl;
    }

pub known_shares : KnownShares
unfolding elements_of row_word write_setup_of fits load_element store_element bytes_out
known_shares =
    record {
      lock = refl;
      unlock = refl;
      start_load = refl;
      start_store = refl;
      write = refl;
      read = refl;
      uniform = refl;
      set = refl;
      wait = refl;
      load_whole = refl;
      store_whole = refl;
      acquired = refl;
      acquired_less = refl;
      released = refl;
    }
