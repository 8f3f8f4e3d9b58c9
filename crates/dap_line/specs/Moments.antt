-- What a moment shows, read over the sources that there are. The format of recordings is this profile's own.
use Rattle.std.specs.Prelude.{◌≡◌, ◌≤◌, ◌+◌, List, length, Ok, Err}
use Rattle.serde_json.specs.Data.{Data}
use Rattle.dap_live.specs.declared.mail.Coming.{Coming}
use Rattle.dap_live.specs.declared.mail.Coming.TheVariants as coming
use Rattle.dap_recording.specs.Reading.{read_moment, sources_of}
use Rattle.dap_recording.specs.Snapshot.{MomentAlone}
use Rattle.dap_recording.specs.declared.reading.RecordingKey.{RecordingKey}
use Rattle.dap_recording.specs.declared.recording.RecordedSource.{RecordedSource}
use Rattle.dap_line.specs.declared.refusal.Refusal.{Refusal}
use Rattle.dap_line.specs.declared.refusal.Refusal.TheVariants.{BadMoment, BadSources}
use Rattle.dap_line.specs.declared.told.Told.{Told}
use Rattle.dap_line.specs.declared.told.Told.TheVariants as told
use Rattle.dap_line.specs.declared.told.Unread.{Unread}
use Rattle.dap_line.specs.declared.told.Unread.TheVariants as unread

-- what comes of what is told, over these sources
abbrev pub IsComing : List RecordedSource → Told → Coming → Type 0
IsComing sources (told.Output category text more) c = c ≡ coming.Output category text more
IsComing sources (told.Stopped reason thread moment later more) c = (shows : MomentAlone) × (read_moment sources moment ≡ Ok shows) × (c ≡ coming.Stopped reason thread shows later more)
IsComing sources (told.Continued thread) c = c ≡ coming.Continued thread
IsComing sources (told.Exited code) c = c ≡ coming.Exited code
IsComing sources (told.Learned text value holder more) c = c ≡ coming.Learned text value holder more
IsComing sources (told.NoValue text why) c = c ≡ coming.NoValue text why
IsComing sources (told.Variables holder variables) c = c ≡ coming.Variables holder variables
IsComing sources (told.Loaded more) c = (read : List RecordedSource) × (sources_of more ≡ Ok read) × (c ≡ coming.Sources read)

-- why nothing comes of it: its moment is none, or its sources are, for their first bad key
abbrev pub IsBadMoment : List RecordedSource → Data → Refusal → Type 0
IsBadMoment sources moment why = (k : RecordingKey) × (read_moment sources moment ≡ Err k) × (why ≡ BadMoment k)

abbrev pub AreBadSources : Data → Refusal → Type 0
AreBadSources sources why = (k : RecordingKey) × (sources_of sources ≡ Err k) × (why ≡ BadSources k)

-- where it is refused; nothing is said where memory was
abbrev pub IfRefused : (Refusal → Type 0) → Unread → Type 0
IfRefused Is (unread.Refused why) = Is why
IfRefused Is unread.OutOfMemory = Unit {0}

abbrev pub Fails : List RecordedSource → Told → Unread → Type 0
Fails sources (told.Stopped reason thread moment later more) u = IfRefused (IsBadMoment sources moment) u
Fails sources (told.Loaded more) u = IfRefused (AreBadSources more) u
Fails sources t u = IfRefused (λ why. ⊥) u

-- ---- sources that are told

-- there is room for those that come
abbrev pub HasRoom : List RecordedSource → Coming → Type 0
HasRoom sources (coming.Sources more) = length sources + length more ≤ 65536
HasRoom sources _ = Unit {0}
