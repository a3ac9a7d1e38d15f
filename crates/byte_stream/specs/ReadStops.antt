-- Why a reading isn't gone on with.
use Rattle.blob_store.specs.declared.reading.ReadingEnd.{ReadingEnd}
use Rattle.blob_store.specs.declared.reading.ReadingEnd.TheVariants.{Failed as Fault, Damaged}
use Rattle.byte_stream.specs.declared.read_stop.ReadStop.{ReadStop}
use Rattle.byte_stream.specs.declared.read_stop.ReadStop.TheVariants as stops

abbrev pub stop_by : ReadingEnd → ReadStop
stop_by Fault = stops.Failed
stop_by (Damaged want got) = stops.Damaged got
