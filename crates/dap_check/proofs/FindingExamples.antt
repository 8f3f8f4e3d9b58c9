-- Worked examples of all findings, and of the requests that nothing has answered, by computation.
use Rattle.std.proofs.Common.{◌≡◌, ℕ, List, [], ◌∷◌, ◌++◌, true, false, None, codes, refl}
use Rattle.dap_envelope.specs.declared.message.Kind.TheVariants.{Request, Response, Event}
use Rattle.dap_check.specs.Findings.{findings, first_of, open_requests}
use Rattle.dap_check.specs.declared.line.Line.{Line}
use Rattle.dap_check.specs.declared.line.Side.{Side}
use Rattle.dap_check.specs.declared.line.Side.TheVariants.{Client, Adapter}
use Rattle.dap_check.specs.declared.rule.AnySeq.TheVariants.{OfNone, OfClient, OfAdapter, OfBoth}
use Rattle.dap_check.specs.declared.rule.Checked.TheVariants.{Legal, Finding as Found}
use Rattle.dap_check.specs.declared.rule.Finding.{Finding}
use Rattle.dap_check.specs.declared.rule.OpenRequest.{OpenRequest}
use Rattle.dap_check.specs.declared.rule.Rule.{Rule}
use Rattle.dap_check.specs.declared.rule.Rule.TheVariants.{Seq, Answer, FirstRequest, Gate, Disconnect}

-- lines, each with its number in the text

abbrev asks : ℕ → ℕ → List ℕ → Line
asks number seq name = record { number = number; side = Client; message = record { seq = seq; kind = Request name None } }

abbrev answers : ℕ → ℕ → ℕ → List ℕ → Line
answers number seq request_seq name = record { number = number; side = Adapter; message = record { seq = seq; kind = Response request_seq true name None None } }

abbrev fails : ℕ → ℕ → ℕ → List ℕ → Line
fails number seq request_seq name = record { number = number; side = Adapter; message = record { seq = seq; kind = Response request_seq false name None None } }

abbrev tells : ℕ → ℕ → List ℕ → Line
tells number seq name = record { number = number; side = Adapter; message = record { seq = seq; kind = Event name None } }

abbrev adapter_asks : ℕ → ℕ → List ℕ → Line
adapter_asks number seq name = record { number = number; side = Adapter; message = record { seq = seq; kind = Request name None } }

abbrev client_answers : ℕ → ℕ → ℕ → List ℕ → Line
client_answers number seq request_seq name = record { number = number; side = Client; message = record { seq = seq; kind = Response request_seq true name None None } }

abbrev found : ℕ → Rule → Finding
found number rule = record { line = number; rule = rule }

abbrev left : ℕ → Side → ℕ → List ℕ → OpenRequest
left number side seq name = record { line = number; side = side; seq = seq; command = name }

abbrev begun : List Line
begun = asks 1 1 (codes "initialize") ∷ answers 2 1 1 (codes "initialize") ∷ []

-- ---- findings

nothing_is_found : findings OfNone [] ≡ []
nothing_is_found = refl

legal_has_none : findings OfNone begun ≡ []
legal_has_none = refl

-- once a number is left out, each later message of the side has another one than was due
each_later_number : findings OfNone (begun ++ tells 3 3 (codes "output") ∷ tells 4 4 (codes "output") ∷ asks 5 2 (codes "threads") ∷ []) ≡ found 3 Seq ∷ found 4 Seq ∷ []
each_later_number = refl

-- empty lines have numbers too
lines_keep_their_numbers : findings OfNone (begun ++ asks 7 2 (codes "terminate") ∷ asks 9 3 (codes "terminate") ∷ []) ≡ found 7 Gate ∷ found 9 Gate ∷ []
lines_keep_their_numbers = refl

adapter_alone_may : findings OfAdapter (asks 1 1 (codes "initialize") ∷ answers 2 0 1 (codes "initialize") ∷ asks 3 5 (codes "threads") ∷ []) ≡ found 3 Seq ∷ []
adapter_alone_may = refl

client_alone_may : findings OfClient (asks 1 1 (codes "initialize") ∷ answers 2 0 1 (codes "initialize") ∷ asks 3 5 (codes "threads") ∷ []) ≡ found 2 Seq ∷ []
client_alone_may = refl

both_may : findings OfBoth (asks 1 1 (codes "initialize") ∷ answers 2 0 1 (codes "initialize") ∷ asks 3 5 (codes "threads") ∷ []) ≡ []
both_may = refl

-- a second answer breaks a rule, and so does a third
answered_again : findings OfNone (begun ++ answers 3 2 1 (codes "initialize") ∷ answers 4 3 1 (codes "initialize") ∷ []) ≡ found 3 Answer ∷ found 4 Answer ∷ []
answered_again = refl

-- a request with a number that waits breaks a rule, and waits too: either command may be answered, once
number_asked_again : findings OfBoth (begun ++ asks 3 2 (codes "threads") ∷ asks 4 2 (codes "stackTrace") ∷ answers 5 2 2 (codes "stackTrace") ∷ answers 6 3 2 (codes "threads") ∷ []) ≡ found 4 Answer ∷ found 6 Answer ∷ []
number_asked_again = refl

first_of_two_is_answered : findings OfBoth (begun ++ asks 3 2 (codes "threads") ∷ asks 4 2 (codes "stackTrace") ∷ answers 5 2 2 (codes "threads") ∷ []) ≡ found 4 Answer ∷ []
first_of_two_is_answered = refl

-- a response for another command breaks a rule, and ends the waiting
other_command_answers : findings OfNone (begun ++ asks 3 2 (codes "threads") ∷ answers 4 2 2 (codes "stackTrace") ∷ answers 5 3 2 (codes "threads") ∷ []) ≡ found 4 Answer ∷ found 5 Answer ∷ []
other_command_answers = refl

-- each line with the least rule that it breaks
least_of_each : findings OfNone (asks 1 1 (codes "threads") ∷ asks 2 3 (codes "threads") ∷ []) ≡ found 1 FirstRequest ∷ found 2 Seq ∷ []
least_of_each = refl

all_after_the_end : findings OfNone (begun ++ asks 3 2 (codes "disconnect") ∷ answers 4 2 2 (codes "disconnect") ∷ tells 5 3 (codes "output") ∷ asks 6 3 (codes "threads") ∷ []) ≡ found 5 Disconnect ∷ found 6 Disconnect ∷ []
all_after_the_end = refl

first_is_told : first_of (findings OfNone (begun ++ tells 3 3 (codes "output") ∷ tells 4 4 (codes "output") ∷ [])) ≡ Found 3 Seq
first_is_told = refl

none_is_legal : first_of (findings OfNone begun) ≡ Legal
none_is_legal = refl

-- ---- requests that nothing has answered

all_are_answered : open_requests begun ≡ []
all_are_answered = refl

one_is_left : open_requests (begun ++ asks 3 2 (codes "threads") ∷ asks 4 3 (codes "next") ∷ answers 5 2 2 (codes "threads") ∷ []) ≡ left 4 Client 3 (codes "next") ∷ []
one_is_left = refl

failure_answers : open_requests (asks 1 1 (codes "initialize") ∷ fails 2 1 1 (codes "initialize") ∷ []) ≡ []
failure_answers = refl

-- in the order of their lines, of both sides
adapter_asks_too : open_requests (begun ++ adapter_asks 3 2 (codes "runInTerminal") ∷ asks 4 2 (codes "launch") ∷ adapter_asks 5 3 (codes "runInTerminal") ∷ client_answers 6 3 2 (codes "runInTerminal") ∷ [])
    ≡ left 4 Client 2 (codes "launch") ∷ left 5 Adapter 3 (codes "runInTerminal") ∷ []
adapter_asks_too = refl

-- a response of the same side is none
own_side_does_not_answer : open_requests (adapter_asks 1 1 (codes "runInTerminal") ∷ answers 2 2 1 (codes "runInTerminal") ∷ []) ≡ left 1 Adapter 1 (codes "runInTerminal") ∷ []
own_side_does_not_answer = refl

-- an earlier response answers nothing
answer_comes_first : open_requests (answers 1 1 1 (codes "initialize") ∷ asks 2 1 (codes "initialize") ∷ []) ≡ left 2 Client 1 (codes "initialize") ∷ []
answer_comes_first = refl

-- two requests of one number are both left, or both answered by one response
both_are_left : open_requests (asks 1 1 (codes "initialize") ∷ asks 2 1 (codes "threads") ∷ []) ≡ left 1 Client 1 (codes "initialize") ∷ left 2 Client 1 (codes "threads") ∷ []
both_are_left = refl

both_are_answered : open_requests (asks 1 1 (codes "initialize") ∷ asks 2 1 (codes "threads") ∷ answers 3 1 1 (codes "initialize") ∷ []) ≡ []
both_are_answered = refl
