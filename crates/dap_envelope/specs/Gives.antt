-- What a call answered, want of memory aside.
use Rattle.std.specs.Prelude.{◌≡◌, Result, Err}
use Rattle.dap_json.specs.Steps.{Returns}
use Rattle.dap_envelope.specs.declared.fault.BodyRefusal.{BodyRefusal}
use Rattle.dap_envelope.specs.declared.fault.BodyFault.{BodyFault}
use Rattle.dap_envelope.specs.declared.fault.BodyFault.TheVariants.{Refused, OutOfMemory}

-- a value, or the first refusal
abbrev pub Verdict : Type 0 → Type 0
Verdict A = Result A BodyRefusal

-- what a fault says of the verdict: the first refusal, or nothing where memory ran out
abbrev pub Says : {A : Type 0} → BodyFault → Verdict A → Type 0
Says (Refused refusal) verdict = verdict ≡ Err refusal
Says OutOfMemory verdict = Unit {0}

-- the call answered this, unless memory ran out
abbrev pub Gives : {A : Type 0} → Result A BodyFault → Verdict A → Type 0
Gives result verdict = Returns (λ x. x) Says result verdict
