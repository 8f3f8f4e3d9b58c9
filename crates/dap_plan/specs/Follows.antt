-- Which history a session follows.
use Rattle.std.specs.Prelude.{◌≡◌, List, length}
use Rattle.dap_history.specs.Answers.{Answers}
use Rattle.dap_history.specs.History.{Entry, Came, Went, waiting, outs_of, AreNumberedAfter}
use Rattle.dap_history.specs.Requests.{asks}
use Rattle.dap_plan.specs.Merged.{Merges}
use Rattle.dap_plan.specs.References.{references_of}
use Rattle.dap_plan.specs.Session.{Session, own_requests}

-- a session after this history
pub record Follows (s : Session) (h : List Entry) : Type 0 where
  -- a request is kept exactly while it is unanswered
  pub kept : asks s.kept ≡ waiting Came h
  -- each response that went answers exactly one request that was unanswered, and so does each that came
  pub answers : Answers Came h
  pub accepted : Answers Went h
  -- an own request is kept exactly while it is unanswered: the one for a terminal, and those of whoever holds the adapter, each in its order
  pub asked : Merges (own_requests s.asked) (asks s.own) (waiting Went h)
  pub references : s.references ≡ references_of h
  pub used : s.used ≡ length (outs_of h)
  -- the k-th message that went has the number k
  pub numbered : AreNumberedAfter 0 (outs_of h)
