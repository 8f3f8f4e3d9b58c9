-- Commands that whoever opens an adapter answers: which names they may have, and the flags by which a client knows of them.
-- Specification, "Requests" and "Capabilities". That a flag is offered where each command that it gates is opened is this profile's choice.
use Rattle.std.specs.Prelude.{ℕ, List, [], ◌∷◌, ◌++◌, codes, bytes_eq, find, Bool, true, false, not, ◌&&◌, Option, Some, None, option_map, option_and_then, Result, Ok, Err, if◌then◌else◌}
use Rattle.std.specs.List.{list_any, list_all}
use Rattle.serde_json.specs.Data.{Data, Items, no_items, item}
use Rattle.serde_json.specs.Find.{as_str, as_bool, as_array}
use Rattle.dap_json.specs.Field.{text_at, tree_at}
use Rattle.dap_json.specs.Names.{is_name}
use Rattle.dap_command.specs.Command.{command_named, flag_of}
use Rattle.dap_command.specs.declared.command.Command.{Command}
use Rattle.dap_command.specs.declared.command.Command.TheVariants as command
use Rattle.dap_command.specs.declared.command.Gate.TheVariants as gate
use Rattle.dap_command.specs.declared.opening.Opened.{Opened}
use Rattle.dap_command.specs.declared.opening.OpeningFault.{OpeningFault}
use Rattle.dap_command.specs.declared.opening.OpeningFault.TheVariants.{NotList, BadName}

-- ---- what may be opened

-- any but those that are served, and `cancel`
abbrev pub is_openable : Option Command → Bool
is_openable None = true
is_openable (Some command.SetFunctionBreakpoints) = true
is_openable (Some command.Restart) = true
is_openable (Some command.Modules) = true
is_openable (Some command.ExceptionInfo) = true
is_openable (Some command.BreakpointLocations) = true
is_openable (Some command.Completions) = true
is_openable _ = false

-- a name that no such command has
abbrev pub may_be_opened : List ℕ → Bool
may_be_opened name = is_name name && is_openable (command_named name)

-- ---- what is opened

abbrev pub opened_as : List ℕ → List Opened → Option Opened
opened_as name opened = find (λ o. bytes_eq name o.name) opened

abbrev pub is_opened : List ℕ → List Opened → Bool
is_opened name opened = list_any (λ o. bytes_eq name o.name) opened

abbrev pub are_openable : List Opened → Bool
are_openable opened = list_all (λ o. may_be_opened o.name) opened

-- the first that can't be opened, or that stands before
abbrev pub refused_after : List Opened → List Opened → Option (List ℕ)
refused_after before [] = None
refused_after before (o ∷ os) = if may_be_opened o.name && not (is_opened o.name before) then refused_after (before ++ o ∷ []) os else Some o.name

abbrev pub refused_name : List Opened → Option (List ℕ)
refused_name opened = refused_after [] opened

-- ---- as an author lists them: each is a name, or an object with a name and whether it is of stops alone

-- those of the protocol that look at a stop, or go on from one
abbrev pub is_usually_of_stops : List ℕ → Bool
is_usually_of_stops name =
    if bytes_eq name (codes "exceptionInfo") then true else
    (if bytes_eq name (codes "setExpression") then true else
    (if bytes_eq name (codes "stepInTargets") then true else
    (if bytes_eq name (codes "gotoTargets") then true else
    (if bytes_eq name (codes "goto") then true else
    (if bytes_eq name (codes "restartFrame") then true else false)))))

abbrev pub opened_so : List ℕ → Bool → Opened
opened_so name in_stops = record { name = name; in_stops = in_stops }

abbrev pub is_of_stops : List ℕ → Option Data → Option Bool
is_of_stops name None = Some (is_usually_of_stops name)
is_of_stops name (Some d) = as_bool d

abbrev pub described : Option (List ℕ) → Data → Option Opened
described None d = None
described (Some name) d = option_map (opened_so name) (is_of_stops name (tree_at (codes "inStops") d))

abbrev pub opened_by : Option (List ℕ) → Data → Option Opened
opened_by (Some name) d = Some (opened_so name (is_usually_of_stops name))
opened_by None d = described (text_at (codes "name") d) d

abbrev pub opened_of : Data → Option Opened
opened_of d = opened_by (as_str d) d

-- each is put to those before it
abbrev pub each_opened : Items → List Opened → Option (List Opened)
each_opened no_items before = Some before
each_opened (item d ds) before = option_and_then (λ o. each_opened ds (before ++ o ∷ [])) (opened_of d)

abbrev pub opened_in : Data → Option (List Opened)
opened_in d = option_and_then (λ ds. each_opened ds []) (as_array d)

abbrev pub unless_refused : Option (List ℕ) → List Opened → Result (List Opened) OpeningFault
unless_refused (Some name) opened = Err (BadName name)
unless_refused None opened = Ok opened

abbrev pub opening_by : Option (List Opened) → Result (List Opened) OpeningFault
opening_by None = Err NotList
opening_by (Some opened) = unless_refused (refused_name opened) opened

-- what is opened, or what is wrong
abbrev pub opening_in : Data → Result (List Opened) OpeningFault
opening_in d = opening_by (opened_in d)

-- ---- flags

-- a flag, and the commands that it gates
pub record FlagRow : Type 0 where
  pub flag : List ℕ
  pub commands : List (List ℕ)

abbrev pub flag_row : List ℕ → List (List ℕ) → FlagRow
flag_row flag commands = record { flag = flag; commands = commands }

-- of commands that are among the thirty
abbrev pub rows_of_gates : List FlagRow
rows_of_gates =
    flag_row (flag_of gate.BreakpointLocations) (codes "breakpointLocations" ∷ [])
    ∷ flag_row (flag_of gate.Completions) (codes "completions" ∷ [])
    ∷ flag_row (flag_of gate.ExceptionInfo) (codes "exceptionInfo" ∷ [])
    ∷ flag_row (flag_of gate.FunctionBreakpoints) (codes "setFunctionBreakpoints" ∷ [])
    ∷ flag_row (flag_of gate.Modules) (codes "modules" ∷ [])
    ∷ flag_row (flag_of gate.Restart) (codes "restart" ∷ []) ∷ []

-- of the protocol's others
abbrev pub further_rows : List FlagRow
further_rows =
    flag_row (codes "supportsDataBreakpoints") (codes "dataBreakpointInfo" ∷ codes "setDataBreakpoints" ∷ [])
    ∷ flag_row (codes "supportsDisassembleRequest") (codes "disassemble" ∷ [])
    ∷ flag_row (codes "supportsGotoTargetsRequest") (codes "gotoTargets" ∷ codes "goto" ∷ [])
    ∷ flag_row (codes "supportsInstructionBreakpoints") (codes "setInstructionBreakpoints" ∷ [])
    ∷ flag_row (codes "supportsReadMemoryRequest") (codes "readMemory" ∷ [])
    ∷ flag_row (codes "supportsRestartFrame") (codes "restartFrame" ∷ [])
    ∷ flag_row (codes "supportsSetExpression") (codes "setExpression" ∷ [])
    ∷ flag_row (codes "supportsStepInTargetsRequest") (codes "stepInTargets" ∷ [])
    ∷ flag_row (codes "supportsTerminateThreadsRequest") (codes "terminateThreads" ∷ [])
    ∷ flag_row (codes "supportsWriteMemoryRequest") (codes "writeMemory" ∷ []) ∷ []

abbrev pub flag_rows : List FlagRow
flag_rows = rows_of_gates ++ further_rows

abbrev pub are_opened : List (List ℕ) → List Opened → Bool
are_opened [] opened = true
are_opened (name ∷ []) opened = is_opened name opened
are_opened (name ∷ names) opened = is_opened name opened && are_opened names opened

-- what a flag gates, of those that are never served
abbrev pub gated_by : List ℕ → Option (List (List ℕ))
gated_by flag = option_map (λ r. r.commands) (find (λ r. bytes_eq flag r.flag) flag_rows)

abbrev pub are_all_opened : Option (List (List ℕ)) → List Opened → Bool
are_all_opened None opened = false
are_all_opened (Some names) opened = are_opened names opened

-- it is a flag of theirs, and each command that it gates is opened
abbrev pub is_offered : List Opened → List ℕ → Bool
is_offered opened key = are_all_opened (gated_by key) opened
