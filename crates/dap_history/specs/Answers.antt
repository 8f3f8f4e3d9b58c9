-- Each response answers one request: Specification, "Response.request_seq" and "Response.command".
use Rattle.std.specs.Prelude.{◌≡◌, List, [], ◌∷◌, ◌++◌, filter, ◌==◌, Option, Some, None, ⊤}
use Rattle.dap_history.specs.History.{Entry, Way, Asked, Answered, waiting, response_at}

-- just one of the requests has the response's number, and that one has its command
abbrev pub IsAnswerTo : Answered → List Asked → Type 0
IsAnswerTo a open_requests = (q : Asked) × (filter (λ p. p.seq == a.request_seq) open_requests ≡ q ∷ []) × (q.command ≡ a.command)

abbrev pub AnswersOne : List Asked → Option Answered → Type 0
AnswersOne open_requests None = ⊤
AnswersOne open_requests (Some a) = IsAnswerTo a open_requests

-- each response to requests of that way, wherever it stands, answers just one of those that wait before it
abbrev pub Answers : Way → List Entry → Type 0
Answers way h = (before : List Entry) (e : Entry) (after : List Entry) → before ++ e ∷ after ≡ h → AnswersOne (waiting way before) (response_at way e)
