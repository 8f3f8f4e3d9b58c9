-- Events that a host in C tells by their names.
use Rattle.std.specs.Prelude.{◌≡◌, ℕ, List, [], ◌∷◌, Option, Some, None, option_and_then, IfSome, if◌then◌else◌}
use Rattle.std.specs.Option.{IsSome}
use Rattle.serde_json.specs.Data.{Data}
use Rattle.dap_json.specs.Read.{json_of}
use Rattle.dap_json.specs.Writable.{is_plain_tree}
use Rattle.dap_live.specs.LiveLaws.{FollowsLive}
use Rattle.dap_plan.specs.declared.fault.EmitFault.{EmitFault}
use Rattle.dap_plan.specs.declared.fault.EmitFault.TheVariants as fault
use Rattle.dap_adapter.specs.Calls.{Emits, NotEmitted}
use Rattle.dap_c_adapter.specs.declared.held_adapter.HeldAdapter.{HeldAdapter}

abbrev pub if_plain : Data → Option (Option Data)
if_plain d = if is_plain_tree (Some d) then Some (Some d) else None

-- the body, or the arguments, that these bytes are, if they are some that can be written; no bytes are none
abbrev pub body_by : List ℕ → Option (Option Data)
body_by [] = Some None
body_by (b ∷ bytes) = option_and_then if_plain (json_of (b ∷ bytes))

abbrev pub emit_number : EmitFault → ℕ
emit_number fault.Closed = 11
emit_number fault.WrongPhase = 12
emit_number fault.Reserved = 20
emit_number fault.TooLarge = 16
emit_number fault.SeqExhausted = 18
emit_number fault.OutOfMemory = 104

-- with the code 0 the event was told, and its message is to be written
abbrev pub EmitsNamed : List ℕ → List ℕ → ℕ → HeldAdapter → HeldAdapter → Type 0
EmitsNamed event body code old new = code ≡ 0 → IsSome (body_by body) × IfSome (body_by body) (λ given. Emits FollowsLive event given old.adapter new.bytes.items new.adapter)

-- with another one it was not: its arguments are none, or memory was refused, or for the first reason that holds
abbrev pub RefusesNamed : List ℕ → List ℕ → ℕ → HeldAdapter → HeldAdapter → Type 0
RefusesNamed event body code old new =
    (code ≡ 0 → ⊥) → (code ≡ 103 → ⊥) → (code ≡ 104 → ⊥) → IfSome (body_by body) (λ given. (f : EmitFault) × (code ≡ emit_number f) × NotEmitted event given old.adapter f)
