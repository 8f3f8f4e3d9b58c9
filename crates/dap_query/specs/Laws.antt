-- What is true of every answer to a query.
-- Overview, "Lifetime of Objects References".
use Rattle.std.specs.Prelude.{◌≡◌, ℕ, ◌+◌, ◌≤◌, List, length, Bool, true, false, Option, Some, Ok, Err}
use Rattle.std.specs.List.{AllZip}
use Rattle.serde_json.specs.Data.{Data}
use Rattle.dap_frame.specs.Settings.{Settings}
use Rattle.dap_call.specs.CallTree.{command_of}
use Rattle.dap_call.specs.declared.call.Call.{Call}
use Rattle.dap_command.specs.declared.command.Command.{Command}
use Rattle.dap_body.specs.declared.failure.Failure.TheVariants.{Debuggee}
use Rattle.dap_debuggee.specs.Shown.{Shown}
use Rattle.dap_tables.specs.Given.{references_given_in}
use Rattle.dap_tables.specs.References.{LiveReferences, target_of}
use Rattle.dap_tables.specs.declared.target.Target.{Target}
use Rattle.dap_query.specs.Bodies.{QueryAnswer, QueryResult, query_result}
use Rattle.dap_query.specs.Queries.{QueryState}
use Rattle.dap_query.specs.QueryResults.{Grows}
use Rattle.dap_query.specs.References.{AreLive, IsNumberOf, and_then, intern_each, references_read, targets_named, with_targets}
use Rattle.dap_query.specs.Refused.{refuses_query, objects_named}

-- so many references are live, and so many numbers were given
pub record AreFew (limits : Settings) (refs : LiveReferences) : Type 0 where
  pub references : length refs.live ≤ limits.references
  pub numbers : refs.base + length refs.live ≤ limits.reference

-- ---- an answer that is given

pub record IsSoundAnswer (q : QueryState) (answer : QueryAnswer) : Type 0 where
  -- live are those that were, and what the answer names
  pub references : answer.references ≡ record q.references { live = with_targets answer.names q.references.live }
  -- each number names what it named
  pub grows : Grows q.references answer.references
  pub few : AreFew q.limits q.references → AreFew q.limits answer.references
  -- what its body gives is live, to whatever command
  pub gives : (command : Option Command) → AreLive answer.references (references_given_in command answer.body)

abbrev pub EachAnswerIsSound : Type 0
EachAnswerIsSound = (view : Shown) (q : QueryState) (asked : Call) (answer : QueryAnswer) → query_result view q asked ≡ Ok answer → IsSoundAnswer q answer

-- ---- answered or refused

-- whatever numbers these objects have, the body of an answer to this command gives them, each in its place, and no others; and what it gives to any command is live
pub record GivesNumbers (command : Command) (objects : List (Option Target)) (body : List ℕ → Option Data) : Type 0 where
  pub just : (refs : LiveReferences) (ns : List ℕ) → AllZip (IsNumberOf refs) objects ns → references_given_in (Some command) (body ns) ≡ references_read objects ns
  pub live : (refs : LiveReferences) (ns : List ℕ) → AllZip (IsNumberOf refs) objects ns → (any : Option Command) → AreLive refs (references_given_in any (body ns))

-- the failure `debuggee`, or a body that gives a number for each of these objects
pub data IsAnsweredOrRefused (q : QueryState) (command : Command) : Bool → List (Option Target) → QueryResult → Type 0 where
  is_refused : (objects : List (Option Target)) → IsAnsweredOrRefused q command true objects (Err Debuggee)
  is_answered : (objects : List (Option Target)) (body : List ℕ → Option Data) → GivesNumbers command objects body
      → IsAnsweredOrRefused q command false objects (and_then (intern_each q.limits objects q.references) (λ given. Ok (record { body = body given.0; names = targets_named objects; references = given.1 })))

abbrev pub EachQueryIsAnsweredOrRefused : Type 0
EachQueryIsAnsweredOrRefused = (view : Shown) (q : QueryState) (asked : Call) → IsAnsweredOrRefused q (command_of asked) (refuses_query view q asked) (objects_named view q asked) (query_result view q asked)

-- ---- numbers

pub record NumbersNameObjects : Type 0 where
  -- the numbers that an answer's objects are given name them, each in its place
  pub named : (limits : Settings) (objects : List (Option Target)) (refs : LiveReferences) (given : List ℕ × LiveReferences) → intern_each limits objects refs ≡ Ok given → AllZip (IsNumberOf given.1) objects given.0
  -- and a number that named something before names it still
  pub kept : (limits : Settings) (objects : List (Option Target)) (refs : LiveReferences) (given : List ℕ × LiveReferences) → intern_each limits objects refs ≡ Ok given
      → (n : ℕ) (t : Target) → target_of refs n ≡ Some t → target_of given.1 n ≡ Some t
