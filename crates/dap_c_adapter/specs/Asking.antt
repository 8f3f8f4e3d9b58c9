-- Requests by which a host in C asks the client.
use Rattle.std.specs.Prelude.{◌≡◌, ℕ, ◌+◌, List, IfSome}
use Rattle.std.specs.Option.{IsSome}
use Rattle.dap_live.specs.LiveLaws.{FollowsLive}
use Rattle.dap_plan.specs.declared.fault.AskFault.{AskFault}
use Rattle.dap_plan.specs.declared.fault.AskFault.TheVariants as fault
use Rattle.dap_adapter.specs.Calls.{Asks, NotAsked}
use Rattle.dap_c_adapter.specs.Emitting.{body_by}
use Rattle.dap_c_adapter.specs.declared.held_adapter.HeldAdapter.{HeldAdapter}

abbrev pub ask_number : AskFault → ℕ
ask_number fault.Closed = 11
ask_number fault.WrongPhase = 12
ask_number fault.BadName = 22
ask_number fault.Full = 17
ask_number fault.TooLarge = 16
ask_number fault.SeqExhausted = 18
ask_number fault.OutOfMemory = 104

-- with the code 0 the client is asked, and the request is to be written
abbrev pub AsksNamed : List ℕ → List ℕ → ℕ → HeldAdapter → HeldAdapter → Type 0
AsksNamed command arguments code old new =
    code ≡ 0 → IsSome (body_by arguments) × IfSome (body_by arguments) (λ given. Asks FollowsLive command given old.adapter new.bytes.items new.adapter)

-- it has the own number that comes next, which is told
abbrev pub TellsNumber : ℕ → ℕ → HeldAdapter → HeldAdapter → Type 0
TellsNumber code seq old new = code ≡ 0 → seq ≡ old.adapter.session.used + 1

-- with another one it is not: the command or the arguments are none, or memory was refused, or for the first reason that holds
abbrev pub RefusesRequest : List ℕ → List ℕ → ℕ → HeldAdapter → HeldAdapter → Type 0
RefusesRequest command arguments code old new =
    (code ≡ 0 → ⊥) → (code ≡ 103 → ⊥) → (code ≡ 104 → ⊥) → IfSome (body_by arguments) (λ given. (f : AskFault) × (code ≡ ask_number f) × NotAsked command given old.adapter f)
