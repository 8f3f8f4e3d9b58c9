-- The code's words for a query that is answered.
use Rattle.std.specs.Prelude.{◌≡◌, ◌+◌, ⊤, length, Option}
use Rattle.dap_query.specs.QueryResults.{Grows}
use Rattle.dap_query.specs.declared.no_answer.NoAnswer.{NoAnswer}
use Rattle.dap_query.specs.declared.no_answer.NoAnswer.TheVariants.{Fails, OutOfMemory}
use Rattle.dap_tables.specs.Outstanding.{without}
use Rattle.dap_tables.specs.References.{LiveReferences}
use Rattle.dap_tables.specs.declared.entry.Entry.{Entry}
use Rattle.dap_plan.specs.Plan.{Made, after_answering}
use Rattle.dap_debuggee.specs.declared.explanation.Explanation.{Explanation}
use Rattle.dap_plan.specs.Handling.{failing}
use Rattle.dap_outbox.specs.Outbox.{OutboxState, Holds}
use Rattle.dap_plan.specs.Session.{Session}
use Rattle.dap_plan.specs.SessionState.{SessionState}

-- where a request fails, just this is made, with what the debuggee says of it
abbrev pub MakesFailure : NoAnswer → Entry → Session → Option Explanation → Made → Type 0
MakesFailure (Fails f) r s why made = made ≡ after_answering r (failing s r f why) s
MakesFailure OutOfMemory r s why made = ⊤

-- references were given, and nothing else happened
pub record OnlyGives {D : Type 0} (old new : SessionState D) : Type 0 where
  pub debuggee : new.debuggee ≡ old.debuggee
  pub session : new.session ≡ record old.session { references = new.session.references }
  pub grows : Grows old.session.references new.session.references

-- the outbox holds all of what is made, of one answer and with these references, and nothing else is done
pub record IsOutboxOf (outbox : OutboxState) (s : Session) (r : Entry) (references : LiveReferences) (made : Made) : Type 0 where
  pub last : outbox.numbers.last ≡ s.limits.seq
  pub holds : Holds outbox s.limits.body s.used made.drafts
  pub count : length made.drafts ≡ 1
  pub after : made.after ≡ record s { kept = without r.seq s.kept; references = references; used = s.used + 1 }
