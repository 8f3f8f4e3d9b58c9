-- Worked examples of whole transcripts, from their texts to what is told of them, by computation.
use Rattle.std.proofs.Common.{ℕ, List, [], ◌∷◌, ◌++◌, true, Some, None, codes, refl, arith}
use Rattle.std.specs.Str.{is_utf8, chars}
use Rattle.std.specs.Str.Lines.{lines}
use Rattle.serde_json.specs.Data.{Data, unsigned, boolean, number, string, object, no_members, member}
use Rattle.serde_json.proofs.OnLiterals.{serde_json_on_literals}
use Rattle.dap_json.specs.Read.{json_of}
use Rattle.dap_envelope.specs.Meaning.{Msg}
use Rattle.dap_envelope.specs.declared.message.Kind.TheVariants.{Request, Response, Event}
use Rattle.dap_check.specs.Legal.{IsLegal, IsFinding}
use Rattle.dap_check.specs.Transcript.{AreLines, FirstRefused}
use Rattle.dap_check.specs.declared.checking.CheckFault.TheVariants.{BadLine}
use Rattle.dap_check.specs.declared.line.Line.{Line}
use Rattle.dap_check.specs.declared.line.Side.TheVariants.{Client, Adapter}
use Rattle.dap_check.specs.declared.rule.AnySeq.TheVariants.{OfNone}
use Rattle.dap_check.specs.declared.rule.Rule.TheVariants.{Answer, FirstRequest, Initialized, Gate, Reference, Disconnect}
use Rattle.dap_check.proofs.LegalLemmas.{legal_push, legal_nil, finding_push}

-- ---- a session from its beginning to its end

abbrev asked_body : List ℕ
asked_body = codes "{\"arguments\":{\"adapterID\":\"rec\"},\"command\":\"initialize\",\"seq\":1,\"type\":\"request\"}"

abbrev offered_body : List ℕ
offered_body = codes "{\"body\":{\"supportsCancelRequest\":true,\"supportsConfigurationDoneRequest\":true,\"supportsLoadedSourcesRequest\":true,\"supportsStepBack\":true,\"supportsTerminateRequest\":true},\"command\":\"initialize\",\"request_seq\":1,\"seq\":1,\"success\":true,\"type\":\"response\"}"

abbrev ready_body : List ℕ
ready_body = codes "{\"event\":\"initialized\",\"seq\":2,\"type\":\"event\"}"

abbrev end_body : List ℕ
end_body = codes "{\"command\":\"disconnect\",\"seq\":2,\"type\":\"request\"}"

abbrev ended_body : List ℕ
ended_body = codes "{\"command\":\"disconnect\",\"request_seq\":2,\"seq\":3,\"success\":true,\"type\":\"response\"}"

abbrev asked : Line
asked = record { number = 1; side = Client; message = record { seq = 1; kind = Request (codes "initialize") (Some (object (member (codes "adapterID") (string (codes "rec")) no_members))) } }

abbrev flags : Data
flags = object (member (codes "supportsCancelRequest") (boolean true) (member (codes "supportsConfigurationDoneRequest") (boolean true) (member (codes "supportsLoadedSourcesRequest") (boolean true) (member (codes "supportsStepBack") (boolean true) (member (codes "supportsTerminateRequest") (boolean true) no_members)))))

abbrev offered : Line
offered = record { number = 2; side = Adapter; message = record { seq = 1; kind = Response 1 true (codes "initialize") None (Some flags) } }

abbrev ready : Line
ready = record { number = 3; side = Adapter; message = record { seq = 2; kind = Event (codes "initialized") None } }

abbrev end : Line
end = record { number = 4; side = Client; message = record { seq = 2; kind = Request (codes "disconnect") None } }

abbrev ended : Line
ended = record { number = 5; side = Adapter; message = record { seq = 3; kind = Response 2 true (codes "disconnect") None None } }

is_asked : Msg asked_body asked.message
unfolding json_of is_utf8 chars serde_json_on_literals
is_asked = record { value = _; is_json = refl; says = record { object = refl; seq = refl; kind = (refl, refl, omega arith, refl) } }

is_offered : Msg offered_body offered.message
unfolding json_of is_utf8 chars serde_json_on_literals
is_offered = record { value = _; is_json = refl; says = record { object = refl; seq = refl; kind = (refl, refl, omega arith, refl, refl, refl, refl) } }

is_ready : Msg ready_body ready.message
unfolding json_of is_utf8 chars serde_json_on_literals
is_ready = record { value = _; is_json = refl; says = record { object = refl; seq = refl; kind = (refl, refl, refl) } }

is_end : Msg end_body end.message
unfolding json_of is_utf8 chars serde_json_on_literals
is_end = record { value = _; is_json = refl; says = record { object = refl; seq = refl; kind = (refl, refl, omega arith, refl) } }

is_ended : Msg ended_body ended.message
unfolding json_of is_utf8 chars serde_json_on_literals
is_ended = record { value = _; is_json = refl; says = record { object = refl; seq = refl; kind = (refl, refl, omega arith, refl, refl, refl, refl) } }

abbrev session : List Line
session = asked ∷ offered ∷ ready ∷ end ∷ ended ∷ []

session_text : AreLines 1 (lines (codes "> " ++ asked_body ++ codes "\n< " ++ offered_body ++ codes "\n< " ++ ready_body ++ codes "\n> " ++ end_body ++ codes "\n< " ++ ended_body ++ codes "\n")) session
session_text = (
  record { numbered = refl; side = refl; message = is_asked },
  (
    record { numbered = refl; side = refl; message = is_offered },
    (
      record { numbered = refl; side = refl; message = is_ready },
      (
        record { numbered = refl; side = refl; message = is_end },
        (record { numbered = refl; side = refl; message = is_ended }, tt),
      ),
    ),
  ),
)

begins : IsLegal OfNone (asked ∷ offered ∷ [])
begins = legal_push OfNone (asked ∷ []) offered (legal_push OfNone [] asked (legal_nil OfNone) refl) refl

session_is_legal : IsLegal OfNone session
session_is_legal =
    legal_push OfNone (asked ∷ offered ∷ ready ∷ end ∷ []) ended
    (legal_push OfNone (asked ∷ offered ∷ ready ∷ []) end
    (legal_push OfNone (asked ∷ offered ∷ []) ready begins refl) refl) refl

-- ---- each rule broken once

-- a request of the client, a successful response of the adapter and an event, without more
abbrev req : ℕ → ℕ → List ℕ → Line
req at seq name = record { number = at; side = Client; message = record { seq = seq; kind = Request name None } }

abbrev ok : ℕ → ℕ → List ℕ → Line
ok at seq name = record { number = at; side = Adapter; message = record { seq = seq; kind = Response seq true name None None } }

abbrev ev : ℕ → ℕ → List ℕ → Line
ev at seq name = record { number = at; side = Adapter; message = record { seq = seq; kind = Event name None } }

abbrev plain : List Line
plain = req 1 1 (codes "initialize") ∷ ok 2 1 (codes "initialize") ∷ []

plain_is_legal : IsLegal OfNone plain
plain_is_legal = legal_push OfNone (req 1 1 (codes "initialize") ∷ []) (ok 2 1 (codes "initialize")) (legal_push OfNone [] (req 1 1 (codes "initialize")) (legal_nil OfNone) refl) refl

first_is_no_initialize : IsFinding OfNone (req 1 1 (codes "threads") ∷ []) 1 FirstRequest
first_is_no_initialize = finding_push OfNone [] (req 1 1 (codes "threads")) FirstRequest (legal_nil OfNone) refl

nothing_was_asked : IsFinding OfNone (ok 1 1 (codes "initialize") ∷ []) 1 Answer
nothing_was_asked = finding_push OfNone [] (ok 1 1 (codes "initialize")) Answer (legal_nil OfNone) refl

not_initialized_yet : IsFinding OfNone (req 1 1 (codes "initialize") ∷ ev 2 1 (codes "initialized") ∷ []) 2 Initialized
not_initialized_yet = finding_push OfNone (req 1 1 (codes "initialize") ∷ []) (ev 2 1 (codes "initialized")) Initialized (legal_push OfNone [] (req 1 1 (codes "initialize")) (legal_nil OfNone) refl) refl

not_offered : IsFinding OfNone (plain ++ req 3 2 (codes "terminate") ∷ []) 3 Gate
not_offered = finding_push OfNone plain (req 3 2 (codes "terminate")) Gate plain_is_legal refl

abbrev scopes : Line
scopes = record { number = 3; side = Client; message = record { seq = 2; kind = Request (codes "scopes") (Some (object (member (codes "frameId") (number (unsigned 1)) no_members))) } }

not_given : IsFinding OfNone (plain ++ scopes ∷ []) 3 Reference
not_given = finding_push OfNone plain scopes Reference plain_is_legal refl

abbrev over : List Line
over = plain ++ req 3 2 (codes "disconnect") ∷ ok 4 2 (codes "disconnect") ∷ []

over_is_legal : IsLegal OfNone over
over_is_legal = legal_push OfNone (plain ++ req 3 2 (codes "disconnect") ∷ []) (ok 4 2 (codes "disconnect")) (legal_push OfNone plain (req 3 2 (codes "disconnect")) plain_is_legal refl) refl

after_the_end : IsFinding OfNone (over ++ ev 5 3 (codes "output") ∷ []) 5 Disconnect
after_the_end = finding_push OfNone over (ev 5 3 (codes "output")) Disconnect over_is_legal refl

-- ---- what is no line is told before a finding on an earlier line

abbrev ok_body : List ℕ
ok_body = codes "{\"seq\":1,\"type\":\"response\",\"request_seq\":1,\"success\":true,\"command\":\"initialize\"}"

is_ok : Msg ok_body (ok 1 1 (codes "initialize")).message
unfolding json_of is_utf8 chars serde_json_on_literals
is_ok = record { value = _; is_json = refl; says = record { object = refl; seq = refl; kind = (refl, refl, omega arith, refl, refl, refl, refl) } }

no_prefix : FirstRefused (lines (codes "< " ++ ok_body ++ codes "\nx\n")) (BadLine 2)
no_prefix = record {
  before = (codes "< " ++ ok_body) ∷ [];
  text = codes "x";
  after = [];
  split = refl;
  lines = ok 1 1 (codes "initialize") ∷ [];
  accepted = (record { numbered = refl; side = refl; message = is_ok }, tt);
  has_bytes = omega arith;
  refuses = (refl, refl);
}
