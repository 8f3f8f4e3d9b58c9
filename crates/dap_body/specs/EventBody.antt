-- The bodies of an adapter's events, as rows of fields: Specification, "OutputEvent", "StoppedEvent", "ContinuedEvent" and "ExitedEvent".
-- Which of the optional members are written, and that all threads stop and go on together, is this profile's choice.
use Rattle.std.specs.Prelude.{ℕ, ℤ, List, [], ◌∷◌, true, None, codes}
use Rattle.serde_json.specs.Data.{Data}
use Rattle.dap_json.specs.declared.more.Member.{Member}
use Rattle.dap_body.specs.Beside.{beside}
use Rattle.dap_body.specs.Row.{Row, object_of, text, integer, flag, whole_if_any}

abbrev pub output_fields : List ℕ → List ℕ → Row
output_fields category output = (codes "category", text category) ∷ (codes "output", text output) ∷ (codes "variablesReference", whole_if_any None) ∷ []

abbrev pub output_row : List ℕ → List ℕ → List Member → Row
output_row category output more = beside (output_fields category output) more

abbrev pub stopped_fields : List ℕ → ℤ → Row
stopped_fields reason thread = (codes "allThreadsStopped", flag true) ∷ (codes "reason", text reason) ∷ (codes "threadId", integer thread) ∷ []

abbrev pub stopped_row : List ℕ → ℤ → List Member → Row
stopped_row reason thread more = beside (stopped_fields reason thread) more

abbrev pub continued_row : ℤ → Row
continued_row thread = (codes "allThreadsContinued", flag true) ∷ (codes "threadId", integer thread) ∷ []

abbrev pub exited_row : ℤ → Row
exited_row code = (codes "exitCode", integer code) ∷ []

-- ---- as objects

abbrev pub output_body : List ℕ → List ℕ → List Member → Data
output_body category output more = object_of (output_row category output more)

abbrev pub stopped_body : List ℕ → ℤ → List Member → Data
stopped_body reason thread more = object_of (stopped_row reason thread more)

abbrev pub continued_body : ℤ → Data
continued_body thread = object_of (continued_row thread)

abbrev pub exited_body : ℤ → Data
exited_body code = object_of (exited_row code)
