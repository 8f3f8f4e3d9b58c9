-- What a host in C says of what the client asks next: as one of its lines says it.
use Rattle.std.specs.Prelude.{ℕ, List, [], ◌∷◌, Option, Some, None, Result, Ok, Err}
use Rattle.dap_line.specs.Told.{ahead_with, said_of}
use Rattle.dap_line.specs.declared.refusal.Refusal.{Refusal}
use Rattle.dap_line.specs.declared.told.Note.{Note}
use Rattle.dap_line.specs.declared.told.Said.{Said}
use Rattle.dap_line.specs.declared.told.Said.TheVariants.{Happened, Event, Answer, Ask, OfNext, Target}
use Rattle.dap_live.specs.MailState.{nothing_ahead}
use Rattle.dap_live.specs.declared.mail.Ahead.{Ahead}

abbrev pub note_in : Said → Option Note
note_in (OfNext note) = Some note
note_in (Happened told) = None
note_in (Event name body) = None
note_in (Answer seq outcome) = None
note_in (Ask command arguments) = None
note_in (Target number) = None

abbrev pub ahead_of : Option Note → Option Ahead
ahead_of (Some note) = Some (ahead_with note nothing_ahead)
ahead_of None = None

abbrev pub ahead_in : Result Said Refusal → Option Ahead
ahead_in (Ok said) = ahead_of (note_in said)
ahead_in (Err why) = None

-- what these bytes say, in place of all that was said before; no bytes say nothing
abbrev pub ahead_by : List ℕ → Option Ahead
ahead_by [] = Some nothing_ahead
ahead_by (b ∷ bytes) = ahead_in (said_of (b ∷ bytes))
