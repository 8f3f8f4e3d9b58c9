-- What more entries do to a history.
use Rattle.std.specs.Prelude.{◌≡◌, ℕ, List, [], ◌∷◌, ◌++◌, option_to_list}
use Rattle.dap_history.specs.History.{Entry, Way, waiting, without_answered, request_at, response_at, ins_of, outs_of}
use Rattle.dap_history.specs.Answers.{Answers, AnswersOne}
use Rattle.dap_history.specs.Received.{AreRead}
use Rattle.dap_envelope.specs.Meaning.{Msg}
use Rattle.dap_envelope.specs.declared.message.Message.{Message}

pub record HistoriesGrow : Type 0 where
  -- a response ends the waiting of what it answers, and a request begins to wait
  pub waiting_then : (way : Way) (h : List Entry) (e : Entry) → waiting way (h ++ e ∷ []) ≡ without_answered (response_at way e) (waiting way h) ++ option_to_list (request_at way e)
  pub answers_none : (way : Way) → Answers way []
  -- each response still answers one request, where the last entry does
  pub answers_then : (way : Way) (h : List Entry) (e : Entry) → Answers way h → AnswersOne (waiting way h) (response_at way e) → Answers way (h ++ e ∷ [])
  -- what came and what went, one part after the other
  pub ins_append : (h k : List Entry) → ins_of (h ++ k) ≡ ins_of h ++ ins_of k
  pub outs_append : (h k : List Entry) → outs_of (h ++ k) ≡ outs_of h ++ outs_of k
  -- a body that was read is behind those that were
  pub read_then : (xs : List (List ℕ)) (ms : List Message) (x : List ℕ) (m : Message) → AreRead xs ms → Msg x m → AreRead (xs ++ x ∷ []) (ms ++ m ∷ [])
