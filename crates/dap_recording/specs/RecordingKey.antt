-- The keys of a recording, by their names. The format is this profile's own.
use Rattle.std.specs.Prelude.{List, ℕ, codes}
use Rattle.dap_recording.specs.declared.reading.RecordingKey.{RecordingKey}
use Rattle.dap_recording.specs.declared.reading.RecordingKey.TheVariants.{Exit, Sources, Name, Path, Text, OnDisk, Moments, Threads, Id, Frames, Source, Line, Scopes, Variables, Value, Thread, Output, Waits, Stop, Description, More}

abbrev pub name_of : RecordingKey → List ℕ
name_of Exit = codes "exit"
name_of Sources = codes "sources"
name_of Name = codes "name"
name_of Path = codes "path"
name_of Text = codes "text"
name_of OnDisk = codes "onDisk"
name_of Moments = codes "moments"
name_of Threads = codes "threads"
name_of Id = codes "id"
name_of Frames = codes "frames"
name_of Source = codes "source"
name_of Line = codes "line"
name_of Scopes = codes "scopes"
name_of Variables = codes "variables"
name_of Value = codes "value"
name_of Thread = codes "thread"
name_of Output = codes "output"
name_of Waits = codes "waits"
name_of Stop = codes "stop"
name_of Description = codes "description"
name_of More = codes "more"
