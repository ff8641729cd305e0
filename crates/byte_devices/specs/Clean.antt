-- What the sink in memory shows.
use Rattle.std.specs.Prelude.{ℕ, List}
use Rattle.byte_devices.specs.declared.clean_sink.CleanSink.{CleanSink}

-- the bytes that it took
abbrev pub taken_bytes : CleanSink → List ℕ
taken_bytes sink = sink.bytes.items

-- how many bytes it takes before more is reserved
abbrev pub reserved_room : CleanSink → ℕ
reserved_room sink = sink.room
