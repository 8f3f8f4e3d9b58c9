-- A call of an end as a step, in every world of bytes with that end.
-- Overview, "Base Protocol".
use Rattle.std.specs.Prelude.{◌≡◌, ℕ, List, ◌++◌, drop, None, Ok, Vec}
use Rattle.dap_adapter.specs.AdapterState.{AdapterState}
use Rattle.dap_plan.specs.declared.fault.AdapterFault.{AdapterFault}
use Rattle.dap_adapter.specs.declared.taken.Taken.{Taken}
use Rattle.dap_adapter.specs.declared.taken.Turned.{Turned}
use Rattle.dap_adapter.specs.declared.taken.Turned.TheVariants.{Idle, Done}
use Rattle.dap_client.specs.ClientState.{ClientState}
use Rattle.dap_client.specs.declared.got.Got.{Got}
use Rattle.dap_client.specs.declared.got.Sent.{Sent}
use Rattle.dap_debuggee.specs.Shown.{Shown}
use Rattle.dap_plan.specs.Carried.{Goes}
use Rattle.dap_plan.specs.Handling.{turns}
use Rattle.dap_plan.specs.SessionState.{AppendsSome}
use Rattle.dap_ways.specs.ByteWorld.{ByteWorld, ByteStep, client_wrote, adapter_wrote}

-- whatever is on the ways: the client went from one to the other, and wrote these bytes
abbrev pub ClientSteps : {D : Type 0} → (D → Shown) → Goes D → ClientState → List ℕ → ClientState → Type 0
ClientSteps {D} shown follows old bytes new = (w : ByteWorld D) → w.client ≡ old → ByteStep shown follows w (client_wrote new bytes w)

-- and used so many bytes of a piece that is at the front of its way
abbrev pub ClientStepsOver : {D : Type 0} → (D → Shown) → Goes D → ClientState → List ℕ → ℕ → List ℕ → ClientState → Type 0
ClientStepsOver {D} shown follows old piece used bytes new = (w : ByteWorld D) (later : List ℕ) → w.client ≡ old → w.down ≡ piece ++ later → ByteStep shown follows w (client_wrote new bytes (record w { down = drop used piece ++ later }))

abbrev pub AdapterSteps : {D : Type 0} → (D → Shown) → Goes D → AdapterState D → List ℕ → AdapterState D → Type 0
AdapterSteps {D} shown follows old bytes new = (w : ByteWorld D) → w.adapter ≡ old → ByteStep shown follows w (adapter_wrote new bytes w)

abbrev pub AdapterStepsOver : {D : Type 0} → (D → Shown) → Goes D → AdapterState D → List ℕ → ℕ → List ℕ → AdapterState D → Type 0
AdapterStepsOver {D} shown follows old piece used bytes new = (w : ByteWorld D) (later : List ℕ) → w.adapter ≡ old → w.up ≡ piece ++ later → ByteStep shown follows w (adapter_wrote new bytes (record w { up = drop used piece ++ later }))

-- of a turn: idle where no request waits, and then it changes nothing
abbrev pub TurnSteps : {D : Type 0} → (D → Shown) → Goes D → AdapterState D → Turned → AdapterState D → Type 0
TurnSteps shown follows old Idle new = (turns (shown old.debuggee) old.session ≡ Ok None) × (new ≡ old)
TurnSteps shown follows old (Done bytes) new = AdapterSteps shown follows old bytes.items new

-- ---- the same, of what a call gives

abbrev pub SendSteps : {D : Type 0} → (D → Shown) → Goes D → ClientState → ClientState → Sent → Type 0
SendSteps shown follows old new sent = ClientSteps shown follows old sent.bytes.items new

abbrev pub AnswerSteps : {D A : Type 0} → (D → Shown) → Goes D → ClientState → ClientState → Vec ℕ A → Type 0
AnswerSteps shown follows old new bytes = ClientSteps shown follows old bytes.items new

abbrev pub TakeDownSteps : {D : Type 0} → (D → Shown) → Goes D → ClientState → List ℕ → ClientState → Got → Type 0
TakeDownSteps shown follows old piece new got = ClientStepsOver shown follows old piece got.used got.bytes.items new

abbrev pub TakeUpSteps : {D : Type 0} → (D → Shown) → Goes D → AdapterState D → List ℕ → AdapterState D → Taken → Type 0
TakeUpSteps shown follows old piece new taken = AdapterStepsOver shown follows old piece taken.used taken.bytes.items new

abbrev pub PollSteps : {D A : Type 0} → (D → Shown) → Goes D → AdapterState D → AdapterState D → Vec ℕ A → Type 0
PollSteps shown follows old new bytes = AdapterSteps shown follows old bytes.items new

-- of a call that appends what it writes
abbrev pub EmitSteps : {D A : Type 0} → (D → Shown) → Goes D → AdapterState D → AdapterState D → Vec ℕ A → Vec ℕ A → Type 0
EmitSteps shown follows old new before after = AppendsSome (λ bytes. AdapterSteps shown follows old bytes new) before.items after.items
