-- The code's words: the message or the refusal, in the order in which the reader looks.
-- Only private clauses and proofs cite this file. What a body means stands in `Meaning` and `Refusals`, and the proofs show that this amounts to it.
use Rattle.std.specs.Prelude.{ℕ, List, codes, bytes_eq, Option, Some, None, Ok, Err, if◌then◌else◌}
use Rattle.serde_json.specs.Data.{Data, null, boolean, number, string, array, object}
use Rattle.serde_json.specs.Find.{get}
use Rattle.dap_json.specs.Field.{is_object, whole_at, text_at, bool_at, tree_at}
use Rattle.dap_json.specs.Steps.{◌>>=◌}
use Rattle.dap_envelope.specs.Gives.{Verdict}
use Rattle.dap_envelope.specs.Refusals.{command_at}
use Rattle.dap_envelope.specs.declared.message.Message.{Message}
use Rattle.dap_envelope.specs.declared.message.Kind.{Kind}
use Rattle.dap_envelope.specs.declared.message.Kind.TheVariants.{Request, Response, Event, Other}
use Rattle.dap_envelope.specs.declared.fault.BodyRefusal.{BodyRefusal}
use Rattle.dap_envelope.specs.declared.fault.BodyRefusal.TheVariants.{NotJson, NotObject, BadSeq, BadType, BadCommand, BadRequestSeq, BadSuccess, BadEvent, BadMessage}

-- what is there, or the refusal
abbrev pub or_refuse : {A : Type 0} → BodyRefusal → Option A → Verdict A
or_refuse refusal None = Err refusal
or_refuse refusal (Some x) = Ok x

abbrev pub command_of : Data → Verdict (List ℕ)
command_of d = or_refuse BadCommand (command_at d)

-- a text, or nothing where it is absent or null
abbrev pub message_in : Option Data → Verdict (Option (List ℕ))
message_in None = Ok None
message_in (Some null) = Ok None
message_in (Some (boolean b)) = Err BadMessage
message_in (Some (number n)) = Err BadMessage
message_in (Some (string s)) = Ok (Some s)
message_in (Some (array ds)) = Err BadMessage
message_in (Some (object ms)) = Err BadMessage

unfoldable pub request_of : Data → Verdict Kind
request_of d = do
  command ← command_of d
  Ok (Request command (tree_at (codes "arguments") d))

unfoldable pub response_of : Data → Verdict Kind
response_of d = do
  command ← command_of d
  request_seq ← or_refuse BadRequestSeq (whole_at (codes "request_seq") d)
  success ← or_refuse BadSuccess (bool_at (codes "success") d)
  message ← message_in (get (codes "message") d)
  Ok (Response request_seq success command message (tree_at (codes "body") d))

unfoldable pub event_of : Data → Verdict Kind
event_of d = do
  event ← or_refuse BadEvent (text_at (codes "event") d)
  Ok (Event event (tree_at (codes "body") d))

unfoldable pub kind_of : List ℕ → Data → Verdict Kind
kind_of tag d =
    if bytes_eq tag (codes "request") then request_of d
    else (if bytes_eq tag (codes "response") then response_of d
    else (if bytes_eq tag (codes "event") then event_of d
    else Ok (Other tag)))

unfoldable pub kind_in : Data → Verdict Kind
kind_in d = do
  tag ← or_refuse BadType (text_at (codes "type") d)
  kind_of tag d

unfoldable pub envelope_of : Data → Verdict Message
envelope_of d =
    if is_object d then (do
      seq ← or_refuse BadSeq (whole_at (codes "seq") d)
      kind ← kind_in d
      Ok (record { seq = seq; kind = kind }))
    else Err NotObject

-- of what the bytes are as JSON
abbrev pub verdict_of : Option Data → Verdict Message
verdict_of found = or_refuse NotJson found >>= envelope_of
