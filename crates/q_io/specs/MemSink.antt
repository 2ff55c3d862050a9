-- What a `MemSink` means.
use Rattle.std.specs.Prelude.{ℕ, List, Some}
use Rattle.q_io.specs.declared.memory.MemSink.{MemSink}
use Rattle.q_io.specs.SinkMeaning.{SinkState}

-- the numbers of the calls that fail
abbrev pub fail_of : MemSink → List ℕ
fail_of sink = sink.failing.fail.items

-- how many calls of write there were
abbrev pub calls_of : MemSink → ℕ
calls_of sink = sink.failing.calls

-- the bytes and the counts: the faults are its own, and the rest is that of the sink inside
abbrev pub state_of : MemSink → SinkState
state_of sink = record { told = Some sink.inner.taken.items; faults = sink.faults; shortages = sink.inner.shortages }
