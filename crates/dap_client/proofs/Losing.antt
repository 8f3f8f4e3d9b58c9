-- A message whose bytes are lost.
use Rattle.std.proofs.Common.{◌≡◌, ◌≢◌, ℕ, List, [], Option, Some, None}
use Rattle.dap_envelope.specs.declared.message.Message.{Message}
use Rattle.dap_client.specs.Calls.{Takes, LosesMessage}
use Rattle.dap_client.specs.ClientState.{ClientState}
use Rattle.dap_client.specs.declared.fault.ClientFault.{ClientFault}
use Rattle.dap_client.specs.declared.fault.ClientFault.TheVariants.{OutOfMemory}
use Rattle.dap_client.specs.declared.got.Got.{Got}

-- only a message has bytes
pub loses_message : (old there new : ClientState) (piece : List ℕ) (got : Got) (delivered : Option Message) (fault : ClientFault) → fault ≡ OutOfMemory → Takes old piece got delivered there → got.bytes.items ≢ [] → new.session ≡ there.session → LosesMessage old piece fault new
loses_message old there new piece got None fault is takes some same = absurd (some takes.none_written)
loses_message old there new piece got (Some m) fault is takes some same = record { is = is; got = got; message = m; there = there; delivers = takes; some = some; session = same }
