-- What the host has to do, as a caller in C sees it.
use Rattle.std.specs.Prelude.{◌≡◌, ◌<◌, ℕ, List, [], ◌++◌, length, drop, Option, Some, None}
use Rattle.dap_command.specs.declared.source_key.SourceKey.{SourceKey}
use Rattle.dap_command.specs.declared.source_key.SourceKey.TheVariants.{Path, Reference}
use Rattle.dap_debuggee.specs.declared.answers.How.{How}
use Rattle.dap_debuggee.specs.declared.answers.How.TheVariants.{StepIn, Next, StepOut, Continue, StepBack, ReverseContinue}
use Rattle.dap_live.specs.declared.mail.HostAct.{HostAct}
use Rattle.dap_live.specs.declared.mail.HostAct.TheVariants.{Start, Resume, Pause, SetBreakpoints, Assign, End}
use Rattle.dap_c_adapter.specs.declared.acts.YtAct.{YtAct}

abbrev pub how_number : How → ℕ
how_number StepIn = 0
how_number Next = 1
how_number StepOut = 2
how_number Continue = 3
how_number StepBack = 4
how_number ReverseContinue = 5

abbrev pub path_of : SourceKey → List ℕ
path_of (Path path) = path
path_of (Reference number) = []

abbrev pub reference_in : SourceKey → ℕ
reference_in (Path path) = 0
reference_in (Reference number) = number

-- this is found of an act
abbrev pub IsActFound : HostAct → YtAct → Type 0
IsActFound Start found = found.kind ≡ 1
IsActFound (Resume how thread) found = (found.kind ≡ 2) × (found.how ≡ how_number how) × (found.thread ≡ thread)
IsActFound Pause found = found.kind ≡ 3
IsActFound (SetBreakpoints source lines) found = (found.kind ≡ 4) × (found.lines ≡ length lines) × (found.source ≡ length (path_of source)) × (found.reference ≡ reference_in source)
IsActFound (Assign holder name value) found = (found.kind ≡ 5) × (found.holder ≡ holder) × (found.name ≡ length name) × (found.value ≡ length value)
IsActFound End found = found.kind ≡ 6

-- the lines, the path, the name and the value of an act that has them
abbrev pub lines_of : Option HostAct → Option (List ℕ)
lines_of (Some (SetBreakpoints source lines)) = Some lines
lines_of _ = None

abbrev pub path_if_any : SourceKey → Option (List ℕ)
path_if_any (Path path) = Some path
path_if_any (Reference number) = None

abbrev pub source_of : Option HostAct → Option (List ℕ)
source_of (Some (SetBreakpoints source lines)) = path_if_any source
source_of _ = None

abbrev pub variable_of : Option HostAct → Option (List ℕ)
variable_of (Some (Assign holder name value)) = Some name
variable_of _ = None

abbrev pub value_of : Option HostAct → Option (List ℕ)
value_of (Some (Assign holder name value)) = Some value
value_of _ = None

-- a part, or none, is put into a buffer with this code, where there is room for it
abbrev pub PutsPart : Option (List ℕ) → ℕ → List ℕ → List ℕ → Type 0
PutsPart None code old new = (code ≡ 106) × (new ≡ old)
PutsPart (Some part) code old new = (code ≡ 0 → new ≡ part ++ drop (length part) old) × (code ≡ 105 → (length old < length part) × (new ≡ old)) × ((code ≡ 105 → ⊥) → code ≡ 0)
