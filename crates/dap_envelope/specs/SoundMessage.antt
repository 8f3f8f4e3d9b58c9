-- Which messages a Rust value can hold: their texts are UTF-8, and their trees are sound.
use Rattle.std.specs.Prelude.{List, ℕ, IsUtf8, Option, Some, None, ⊤}
use Rattle.serde_json.specs.Data.{Data}
use Rattle.dap_json.specs.Sound.{IsSound}
use Rattle.dap_envelope.specs.declared.message.Message.{Message}
use Rattle.dap_envelope.specs.declared.message.Kind.{Kind}
use Rattle.dap_envelope.specs.declared.message.Kind.TheVariants.{Request, Response, Event, Other}

abbrev pub IsSoundText : Option (List ℕ) → Type 0
IsSoundText None = ⊤
IsSoundText (Some text) = IsUtf8 text

abbrev pub IsSoundTree : Option Data → Type 0
IsSoundTree None = ⊤
IsSoundTree (Some d) = IsSound d

abbrev pub HasSoundTexts : Kind → Type 0
HasSoundTexts (Request command arguments) = IsUtf8 command
HasSoundTexts (Response request_seq success command message body) = IsUtf8 command × IsSoundText message
HasSoundTexts (Event event body) = IsUtf8 event
HasSoundTexts (Other tag) = IsUtf8 tag

abbrev pub HasSoundTree : Kind → Type 0
HasSoundTree (Request command arguments) = IsSoundTree arguments
HasSoundTree (Response request_seq success command message body) = IsSoundTree body
HasSoundTree (Event event body) = IsSoundTree body
HasSoundTree (Other tag) = ⊤

pub record IsSoundMessage (m : Message) : Type 0 where
  pub texts : HasSoundTexts m.kind
  pub tree : HasSoundTree m.kind
