-- Which history a session follows.
use Rattle.std.specs.Prelude.{◌≡◌, List, length}
use Rattle.dap_history.specs.Answers.{Answers}
use Rattle.dap_history.specs.History.{Entry, Came, Went, waiting, outs_of, AreNumberedAfter}
use Rattle.dap_history.specs.Requests.{asks}
use Rattle.dap_client.specs.Seen.{seen_in}
use Rattle.dap_client.specs.Session.{Session}

-- a session after this history
pub record Follows (s : Session) (h : List Entry) : Type 0 where
  -- a request is outstanding exactly while it is unanswered
  pub outstanding : asks s.outstanding ≡ waiting Went h
  -- each response that was accepted answers exactly one request that was unanswered
  pub accepted : Answers Went h
  -- a request of the adapter is kept exactly while it is unanswered
  pub incoming : asks s.incoming ≡ waiting Came h
  -- each response that was written answers exactly one request of the adapter that was unanswered
  pub written : Answers Came h
  -- phase, `ready`, capabilities, references and what was announced are those of the history
  pub seen : s.seen ≡ seen_in h
  pub used : s.used ≡ length (outs_of h)
  -- the k-th message that went has the number k
  pub numbered : AreNumberedAfter 0 (outs_of h)
