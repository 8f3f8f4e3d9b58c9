use Rattle.dap_stream.proofs.UnbrokenBodies.{value_stays}
use Rattle.dap_stream.proofs.Unwrapped.{message_stays, stays, accepted, framed}
use Rattle.dap_stream.proofs.laws.bodies_are_framed_again.Goals as goal

pub returns : goal.returns
returns c = record { same_value = value_stays; same_message = message_stays; as_it_stands = stays; accepted = accepted; framed = framed }
