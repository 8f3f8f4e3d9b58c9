-- The parts of the text that a request, a response or an event is written as. Its arguments or its body come first, since its keys are in byte order.
-- Specification, "Request", "Response", "Event".
use Rattle.std.specs.Prelude.{ℕ, List, [], ◌∷◌, ◌++◌, codes, decimal, Bool, true, false, Option, Some, None}
use Rattle.json.specs.Token.{Token, key, number, boolean, string, end_object}
use Rattle.serde_json.specs.Data.{Data, Members}
use Rattle.serde_json.specs.Written.{compact_text}
use Rattle.dap_envelope.specs.Canon.{request_members, response_members, event_members}
use Rattle.dap_message.specs.declared.answering.End.{End}
use Rattle.dap_message.specs.declared.answering.End.TheVariants.{Request, Success, Failure, Event}

-- up to the end of the body, with the comma after it
abbrev pub with_body : Option Data → List ℕ
with_body None = codes "{"
with_body (Some d) = codes "{\"body\":" ++ (compact_text d ++ codes ",")

-- up to the end of the arguments, with the comma after them
abbrev pub with_arguments : Option Data → List ℕ
with_arguments None = codes "{"
with_arguments (Some d) = codes "{\"arguments\":" ++ (compact_text d ++ codes ",")

-- the members behind it
abbrev pub end_members : End → Members
end_members (Request seq command) = request_members seq command.now None
end_members (Success seq request_seq command) = response_members seq request_seq true command.now None None
end_members (Failure seq request_seq command name) = response_members seq request_seq false command.now (Some name.now) None
end_members (Event seq event) = event_members seq event.now None

-- what a response has last
abbrev pub response_end : ℕ → ℕ → Bool → List Token
response_end seq request_seq success =
    key (codes "request_seq") ∷ number (decimal request_seq) ∷ key (codes "seq") ∷ number (decimal seq) ∷ key (codes "success") ∷ boolean success
    ∷ key (codes "type") ∷ string (codes "response") ∷ end_object ∷ []
