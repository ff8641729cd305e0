-- What the source and the sink in memory that can fail show.
use Rattle.std.specs.Prelude.{ℕ, min, List, length}
use Rattle.byte_devices.specs.Clean.{taken_bytes, reserved_room}
use Rattle.byte_devices.specs.CallPlans.{most_of}
use Rattle.byte_devices.specs.declared.call_plan.CallPlan.{CallPlan}
use Rattle.byte_devices.specs.declared.mem_source.MemSource.{MemSource}
use Rattle.byte_devices.specs.declared.mem_sink.MemSink.{MemSink}

-- the bytes that the source still has to give
abbrev pub source_bytes : MemSource → List ℕ
source_bytes source = source.clean

-- how the source answers its reads
abbrev pub source_plan : MemSource → CallPlan
source_plan source = source.plan

-- how many bytes a read gives into this much room
abbrev pub given_count : MemSource → ℕ → ℕ
given_count source room = most_of (source_plan source) (min room (length (source_bytes source)))

-- the bytes that the sink took
abbrev pub sink_bytes : MemSink → List ℕ
sink_bytes sink = taken_bytes sink.clean

-- how many bytes the sink takes before more is reserved
abbrev pub sink_room : MemSink → ℕ
sink_room sink = reserved_room sink.clean

-- how the sink answers its writes
abbrev pub sink_plan : MemSink → CallPlan
sink_plan sink = sink.plan
