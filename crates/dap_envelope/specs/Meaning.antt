-- Which message a body is, told by the keys of its JSON object. Unknown keys are ignored, and `null` counts as absent.
-- Specification, "ProtocolMessage", "Request", "Response", "Event".
use Rattle.std.specs.Prelude.{◌≡◌, ◌≢◌, ◌≤◌, ℕ, List, length, codes, true, Some, option_map}
use Rattle.serde_json.specs.Data.{Data, string}
use Rattle.dap_json.specs.Field.{is_object, whole_at, text_at, bool_at, tree_at}
use Rattle.dap_json.specs.Read.{json_of}
use Rattle.dap_envelope.specs.Refusals.{max_command}
use Rattle.dap_envelope.specs.declared.message.Message.{Message}
use Rattle.dap_envelope.specs.declared.message.Kind.{Kind}
use Rattle.dap_envelope.specs.declared.message.Kind.TheVariants.{Request, Response, Event, Other}

abbrev pub MeansKind : Data → Kind → Type 0
MeansKind d (Request command arguments) =
    (text_at (codes "type") d ≡ Some (codes "request"))
    × (text_at (codes "command") d ≡ Some command) × (length command ≤ max_command)
    × (tree_at (codes "arguments") d ≡ arguments)
MeansKind d (Response request_seq success command message body) =
    (text_at (codes "type") d ≡ Some (codes "response"))
    × (text_at (codes "command") d ≡ Some command) × (length command ≤ max_command)
    × (whole_at (codes "request_seq") d ≡ Some request_seq) × (bool_at (codes "success") d ≡ Some success)
    × (tree_at (codes "message") d ≡ option_map string message)
    × (tree_at (codes "body") d ≡ body)
MeansKind d (Event event body) =
    (text_at (codes "type") d ≡ Some (codes "event"))
    × (text_at (codes "event") d ≡ Some event) × (tree_at (codes "body") d ≡ body)
MeansKind d (Other tag) =
    (text_at (codes "type") d ≡ Some tag) × (tag ≢ codes "request") × (tag ≢ codes "response") × (tag ≢ codes "event")

-- the value is an object whose keys give the message
pub record MeansMessage (d : Data) (m : Message) : Type 0 where
  pub object : is_object d ≡ true
  pub seq : whole_at (codes "seq") d ≡ Some m.seq
  pub kind : MeansKind d m.kind

-- the body is this message
pub record Msg (body : List ℕ) (m : Message) : Type 0 where
  pub value : Data
  pub is_json : json_of body ≡ Some value
  pub says : MeansMessage value m
