-- Which messages can be written and are read again as themselves: sequence numbers in range, a command of at most 64 bytes, a tag that is none of the three types, and trees that are not null, have no floats and nest at most 120 deep. The limits are this profile's choice.
use Rattle.std.specs.Prelude.{◌&&◌, List, ℕ, length, codes, Bool, not, nat_le, bytes_eq}
use Rattle.dap_json.specs.Field.{max_seq}
use Rattle.dap_envelope.specs.Refusals.{max_command}
use Rattle.dap_json.specs.Writable.{is_plain_tree}
use Rattle.dap_envelope.specs.declared.message.Message.{Message}
use Rattle.dap_envelope.specs.declared.message.Kind.{Kind}
use Rattle.dap_envelope.specs.declared.message.Kind.TheVariants.{Request, Response, Event, Other}

abbrev pub is_tag : List ℕ → Bool
is_tag tag = not (bytes_eq tag (codes "request")) && (not (bytes_eq tag (codes "response")) && not (bytes_eq tag (codes "event")))

abbrev pub is_plain_kind : Kind → Bool
is_plain_kind (Request command arguments) = nat_le (length command) max_command && is_plain_tree arguments
is_plain_kind (Response request_seq success command message body) = nat_le request_seq max_seq && (nat_le (length command) max_command && is_plain_tree body)
is_plain_kind (Event event body) = is_plain_tree body
is_plain_kind (Other tag) = is_tag tag

abbrev pub is_plain : Message → Bool
is_plain m = nat_le m.seq max_seq && is_plain_kind m.kind
