-- What the source and the sink over a reader and a writer keep.
use Rattle.std.specs.Prelude.{ℕ}
use Rattle.byte_devices.specs.declared.input_source.InputSource.{InputSource}
use Rattle.byte_devices.specs.declared.output_sink.OutputSink.{OutputSink}

-- the reader, as it is left
abbrev pub reader_of : {R : Type 0} → InputSource R → R
reader_of source = source.reader

-- how often the source failed
abbrev pub input_faults : {R : Type 0} → InputSource R → ℕ
input_faults source = source.faults

-- the writer, as it is left
abbrev pub writer_of : {W : Type 0} → OutputSink W → W
writer_of sink = sink.writer

-- how often the sink failed
abbrev pub output_faults : {W : Type 0} → OutputSink W → ℕ
output_faults sink = sink.faults

-- how many bytes the sink takes before more is reserved
abbrev pub output_room : {W : Type 0} → OutputSink W → ℕ
output_room sink = sink.room
