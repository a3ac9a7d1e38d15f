-- The end of a replay for the end of its input or its output.
use Rattle.casd_base.specs.declared.sink.SinkEnd.{SinkEnd}
use Rattle.casd_base.specs.declared.sink.SinkEnd.TheVariants as sink
use Rattle.casd_server.specs.declared.input.Stop.{Stop}
use Rattle.casd_server.specs.declared.input.Stop.TheVariants as stops
use Rattle.casd_server.specs.declared.records.End.{End}
use Rattle.casd_server.specs.declared.records.End.TheVariants as ends

abbrev pub end_of_sink : SinkEnd → End
end_of_sink sink.Failed = ends.WriteFault
end_of_sink sink.OutOfMemory = ends.OutOfMemory

abbrev pub end_of_stop : Stop → End
end_of_stop stops.ReadFault = ends.ReadFault
end_of_stop stops.OutOfMemory = ends.OutOfMemory
end_of_stop stops.Spent = ends.Spent
