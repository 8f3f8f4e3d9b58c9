-- Words of answers: what is lent, and where memory is asked for.
use Rattle.std.specs.Prelude.{Option, option_map, Result, IsErrOf}
use Rattle.std.specs.Borrow.{Bor}
use Rattle.std.specs.Option.{IsSome}
use Rattle.dap_debuggee.specs.declared.answers.DebuggeeFault.{DebuggeeFault}
use Rattle.dap_debuggee.specs.declared.answers.DebuggeeFault.TheVariants.{OutOfMemory}

-- what is lent, if something is
abbrev pub lent_value : {A : Type 0} → Option (Bor A) → Option A
lent_value found = option_map (λ x. x.now) found

-- memory is refused only where there is something to answer
abbrev pub LacksMemoryOnlyFor : {A B : Type 0} → Result A DebuggeeFault → Option B → Type 0
LacksMemoryOnlyFor result found = IsErrOf result OutOfMemory → IsSome found
