-- The text that a message is written as: compact JSON, its keys in byte order. A key whose value is absent is not written.
-- Specification, "ProtocolMessage", "Request", "Response", "Event".
use Rattle.std.specs.Prelude.{ℕ, List, Bool, codes, Option, option_map}
use Rattle.serde_json.specs.Data.{Data, boolean, string, object, Members, no_members, put}
use Rattle.serde_json.specs.Written.{compact_text}
use Rattle.dap_json.specs.Put.{put_if, whole_number}
use Rattle.dap_envelope.specs.declared.message.Message.{Message}
use Rattle.dap_envelope.specs.declared.message.Kind.{Kind}
use Rattle.dap_envelope.specs.declared.message.Kind.TheVariants.{Request, Response, Event, Other}

-- what each message has, with the keys in byte order
abbrev pub common_members : ℕ → List ℕ → Members
common_members seq tag = put (codes "type") (string tag) (put (codes "seq") (whole_number seq) no_members)

unfoldable pub request_members : ℕ → List ℕ → Option Data → Members
request_members seq command arguments = put_if (codes "arguments") arguments (put (codes "command") (string command) (common_members seq (codes "request")))

unfoldable pub response_members : ℕ → ℕ → Bool → List ℕ → Option (List ℕ) → Option Data → Members
response_members seq request_seq success command message body =
    put_if (codes "body") body (put_if (codes "message") (option_map string message)
    (put (codes "command") (string command) (put (codes "success") (boolean success) (put (codes "request_seq") (whole_number request_seq)
    (common_members seq (codes "response"))))))

unfoldable pub event_members : ℕ → List ℕ → Option Data → Members
event_members seq event body = put_if (codes "body") body (put (codes "event") (string event) (common_members seq (codes "event")))

abbrev pub members_of : ℕ → Kind → Members
members_of seq (Request command arguments) = request_members seq command arguments
members_of seq (Response request_seq success command message body) = response_members seq request_seq success command message body
members_of seq (Event event body) = event_members seq event body
members_of seq (Other tag) = common_members seq tag

unfoldable pub tree_of : Message → Data
tree_of m = object (members_of m.seq m.kind)

unfoldable pub canon : Message → List ℕ
canon m = compact_text (tree_of m)
