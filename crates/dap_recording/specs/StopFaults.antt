-- The fault of a reading that stops: the key of the first bad place, or that memory was refused. This profile's choice.
use Rattle.dap_recording.specs.declared.reading.RecordingFault.{RecordingFault}
use Rattle.dap_recording.specs.declared.reading.RecordingFault.TheVariants.{BadKey, OutOfMemory}
use Rattle.dap_recording.specs.declared.stop.Stop.{Stop}
use Rattle.dap_recording.specs.declared.stop.Stop.TheVariants as stop

abbrev pub fault_of_stop : Stop → RecordingFault
fault_of_stop (stop.Bad place) = BadKey place.value.key
fault_of_stop stop.OutOfMemory = OutOfMemory
