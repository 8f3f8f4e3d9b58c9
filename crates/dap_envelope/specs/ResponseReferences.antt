-- The references that a response's body gives, where they were gathered with no tree.
use Rattle.std.specs.Prelude.{codes, Option, Some, None}
use Rattle.serde_json.specs.Data.{Data, null, Members}
use Rattle.serde_json.specs.Find.{get_member}
use Rattle.dap_command.specs.Gathered.{AreGivenBy}
use Rattle.dap_command.specs.declared.gathering.GatheredReferences.{GatheredReferences}
use Rattle.dap_envelope.specs.Heading.{NotesAll}
use Rattle.dap_envelope.specs.declared.heading.Noted.{Noted}
use Rattle.dap_envelope.specs.declared.message.Kind.{Kind}
use Rattle.dap_envelope.specs.declared.message.Kind.TheVariants.{Request, Response, Event, Other}

-- an absent body gives as much as null
abbrev pub or_null : Option Data → Data
or_null None = null
or_null (Some d) = d

-- of a response these are given by its body
abbrev pub AreGivenIn : GatheredReferences → Kind → Type 0
AreGivenIn given (Request command arguments) = Unit {0}
AreGivenIn given (Response request_seq success command message body) = AreGivenBy given (or_null body)
AreGivenIn given (Event event body) = Unit {0}
AreGivenIn given (Other tag) = Unit {0}

-- ---- words for private functions

-- what was noted and gathered is what these members hold
pub record NotesAndGathers (noted : Noted) (given : GatheredReferences) (ms : Members) : Type 0 where
  pub heading : NotesAll noted ms
  pub body : AreGivenBy given (or_null (get_member (codes "body") ms))
