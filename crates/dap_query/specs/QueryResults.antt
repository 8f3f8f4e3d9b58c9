-- What a call that answers a query returns: its words for refusals, and for the numbers that are given for an answer.
use Rattle.std.specs.Prelude.{◌≡◌, ⊤, List, ◌++◌, Option, Result, Ok, Err}
use Rattle.serde_json.specs.Data.{Data}
use Rattle.dap_json.specs.Steps.{Returns}
use Rattle.dap_body.specs.Body.{data_in}
use Rattle.dap_body.specs.declared.body.Body.{Body}
use Rattle.dap_body.specs.declared.failure.Failure.{Failure}
use Rattle.dap_body.specs.declared.failure.Failure.TheVariants.{Debuggee}
use Rattle.dap_debuggee.specs.declared.answers.DebuggeeFault.{DebuggeeFault}
use Rattle.dap_debuggee.specs.declared.answers.DebuggeeFault.TheVariants as fault
use Rattle.dap_tables.specs.References.{LiveReferences}
use Rattle.dap_tables.specs.declared.target.Target.{Target}
use Rattle.dap_query.specs.declared.no_answer.NoAnswer.{NoAnswer}
use Rattle.dap_query.specs.declared.no_answer.NoAnswer.TheVariants.{Fails, OutOfMemory}
use Rattle.dap_call.specs.declared.call.Call.{Call}
use Rattle.dap_debuggee.specs.Shown.{Shown}
use Rattle.dap_query.specs.Bodies.{QueryResult, query_result}
use Rattle.dap_query.specs.Queries.{QueryState}

-- ---- why there is no body

-- what a fault says of what was to come: the failure, or nothing where memory was refused
abbrev pub Says : {A : Type 0} → NoAnswer → Result A Failure → Type 0
Says (Fails f) due = due ≡ Err f
Says OutOfMemory due = ⊤

-- what a function returned, seen so, is what was to come
abbrev pub Gives : {A B : Type 0} → (A → B) → Result A NoAnswer → Result B Failure → Type 0
Gives seen result due = Returns seen Says result due

-- of a debuggee that refuses
abbrev pub no_answer_of : DebuggeeFault → NoAnswer
no_answer_of fault.Refused = Fails Debuggee
no_answer_of fault.OutOfMemory = OutOfMemory

-- ---- numbers

-- the numbers stay, and more come behind them
pub record Grows (old new : LiveReferences) : Type 0 where
  pub base : new.base ≡ old.base
  pub more : List Target
  pub live : new.live ≡ old.live ++ more

-- references were given, and nothing else happened
pub record OnlyGives (old new : QueryState) : Type 0 where
  pub others : new ≡ record old { references = new.references }
  pub grows : Grows old.references new.references

-- ---- the answer

-- this body, with some references that it names, and these are live then
pub record AnswersWith (due : QueryResult) (body : Option Data) (references : LiveReferences) : Type 0 where
  pub names : List Target
  pub is : due ≡ Ok (record { body = body; names = names; references = references })

abbrev pub IsQueryResult : Result (Option Body) NoAnswer → QueryResult → LiveReferences → Type 0
IsQueryResult (Ok body) due references = AnswersWith due (data_in body) references
IsQueryResult (Err fault) due references = Says fault due

-- the answer to a call
abbrev pub AnswersCall : Shown → Call → QueryState → QueryState → Result (Option Body) NoAnswer → Type 0
AnswersCall view call old new result = IsQueryResult result (query_result view old call) new.references
