-- The nine refusals of a body, each a test on the JSON value that its bytes are, in their order.
-- Which keys a message has: Specification, "ProtocolMessage", "Request", "Response", "Event". The order, the greatest seq and the greatest length of a command are this profile's choice.
use Rattle.std.specs.Prelude.{◌≡◌, ℕ, List, [], ◌∷◌, length, codes, Bool, false, not, ◌&&◌, ◌||◌, nat_le, bytes_eq, Option, Some, None, is_some, is_none, find}
use Rattle.serde_json.specs.Data.{Data}
use Rattle.dap_json.specs.Field.{if_passes, is_object, whole_at, text_at, bool_at, tree_at}
use Rattle.dap_json.specs.Read.{json_of}
use Rattle.dap_envelope.specs.declared.fault.BodyRefusal.{BodyRefusal}
use Rattle.dap_envelope.specs.declared.fault.BodyRefusal.TheVariants.{NotJson, NotObject, BadSeq, BadType, BadCommand, BadRequestSeq, BadSuccess, BadEvent, BadMessage}

abbrev pub is_the_text : List ℕ → Option (List ℕ) → Bool
is_the_text wanted None = false
is_the_text wanted (Some text) = bytes_eq text wanted

abbrev pub is_request : Data → Bool
is_request d = is_the_text (codes "request") (text_at (codes "type") d)

abbrev pub is_response : Data → Bool
is_response d = is_the_text (codes "response") (text_at (codes "type") d)

abbrev pub is_event : Data → Bool
is_event d = is_the_text (codes "event") (text_at (codes "type") d)

-- in bytes
abbrev pub max_command : ℕ
max_command = 64

-- the text at `command`, unless it is too long
abbrev pub command_at : Data → Option (List ℕ)
command_at d = if_passes (λ name. nat_le (length name) max_command) (text_at (codes "command") d)

-- the value is there and passes
abbrev pub has : (Data → Bool) → Option Data → Bool
has test None = false
has test (Some d) = test d

-- The refusal holds of what the bytes are as JSON, which is None where they are none.
abbrev pub refuses : BodyRefusal → Option Data → Bool
refuses NotJson found = is_none found
refuses NotObject found = has (λ d. not (is_object d)) found
refuses BadSeq found = has (λ d. is_none (whole_at (codes "seq") d)) found
refuses BadType found = has (λ d. is_none (text_at (codes "type") d)) found
refuses BadCommand found = has (λ d. (is_request d || is_response d) && is_none (command_at d)) found
refuses BadRequestSeq found = has (λ d. is_response d && is_none (whole_at (codes "request_seq") d)) found
refuses BadSuccess found = has (λ d. is_response d && is_none (bool_at (codes "success") d)) found
refuses BadEvent found = has (λ d. is_event d && is_none (text_at (codes "event") d)) found
refuses BadMessage found = has (λ d. is_response d && (is_some (tree_at (codes "message") d) && is_none (text_at (codes "message") d))) found

-- in the order in which they are told
abbrev pub all_refusals : List BodyRefusal
all_refusals = NotJson ∷ NotObject ∷ BadSeq ∷ BadType ∷ BadCommand ∷ BadRequestSeq ∷ BadSuccess ∷ BadEvent ∷ BadMessage ∷ []

abbrev pub refusal_of : Option Data → Option BodyRefusal
refusal_of found = find (λ refusal. refuses refusal found) all_refusals

unfoldable pub first_refusal : List ℕ → Option BodyRefusal
first_refusal body = refusal_of (json_of body)

-- the body is no message, for this reason
abbrev pub Bad : List ℕ → BodyRefusal → Type 0
Bad body refusal = first_refusal body ≡ Some refusal
