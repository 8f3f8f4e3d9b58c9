-- How the code holds the variables of holders. Only private clauses and proofs cite this file.
use Rattle.std.specs.Prelude.{ℕ, Vec, List, map}
use Rattle.std.specs.BTreeMap.{BTreeMap}
use Rattle.dap_debuggee.specs.declared.answers.Variable.{Variable}
use Rattle.dap_recording.specs.Variables.{OfHolder}

abbrev pub of_holder : {A : Type 0} → ℕ × Vec Variable A → OfHolder
of_holder e = record { holder = e.0; variables = e.1.items }

abbrev pub entries_of : {A : Type 0} → BTreeMap ℕ (Vec Variable A) → List OfHolder
entries_of m = map of_holder m.entries
