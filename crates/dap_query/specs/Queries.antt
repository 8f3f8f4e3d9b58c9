-- What answers to queries are made with, beside what the debuggee shows.
-- Specification, "InitializeRequestArguments". That a part of it counts, and the limits, are this profile's choices.
use Rattle.std.specs.Prelude.{◌≡◌, ℕ, true, false, Option, option_map}
use Rattle.dap_frame.specs.Settings.{Settings}
use Rattle.dap_tables.specs.References.{LiveReferences, ReferenceTable, no_references, target_of, without_references}
use Rattle.dap_query.specs.declared.options.Options.{Options}

-- the limits of the adapter, what the client said of itself, and what is live
pub record QueryState : Type 0 where
  pub limits : Settings
  pub options : Options
  pub references : LiveReferences

-- what holds before `initialize` said anything else
abbrev pub usual_options : Options
usual_options = record { lines_start_at_1 = true; columns_start_at_1 = true; supports_variable_paging = false; supports_run_in_terminal_request = false }

abbrev pub fresh_queries : Settings → QueryState
fresh_queries limits = record { limits = limits; options = usual_options; references = no_references }

-- the object of a live number
abbrev pub object_of : LiveReferences → ℕ → Option ℕ
object_of refs number = option_map (λ t. t.object) (target_of refs number)

-- the table of references has the limits' room
pub record AreQueries (limits : Settings) (references : ReferenceTable) : Type 0 where
  pub room : references.room ≡ limits.references
  pub greatest : references.greatest ≡ limits.reference

-- where all have died
abbrev pub with_no_references : QueryState → QueryState
with_no_references queries = record queries { references = without_references queries.references }
