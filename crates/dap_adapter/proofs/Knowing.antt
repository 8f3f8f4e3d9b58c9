-- What serving says of its calls, it says of the bytes that a reader and a writer know.
use Rattle.std.proofs.Common.{List, ℕ, Option, Result, Ok, Err}
use Rattle.dap_channel.specs.Channel.{IoEvent, bytes_read, bytes_written, Ran, Pipes}
use Rattle.dap_channel.specs.Laws.{PipesTellTheirBytes}
use Rattle.dap_debuggee.specs.Shown.{Shown}
use Rattle.dap_plan.specs.Carried.{Goes}
use Rattle.dap_adapter.specs.Served.{Start, Serves, ServesBytes, IsAtEndUnless, HasReason}
use Rattle.dap_adapter.specs.declared.served.Served.{Served}
use Rattle.dap_adapter.specs.declared.served.ServeFault.{ServeFault}

module _ {C D : Type 0} (left held : C → Option (List ℕ)) (laws : PipesTellTheirBytes left held) (shown : D → Shown) (follows : Goes D) (b : Start C D) (d : C) where
  at_end : (log : List IoEvent) (result : Result Served ServeFault) → Ran (λ p e q. Pipes (left p) (held p) e (left q) (held q)) b.channel log d → HasReason b.most log result → IsAtEndUnless (left d) result
  at_end log (Ok served) r h = λ still. laws.ended b.channel d log r (h.0 still)
  at_end log (Err fault) r h = tt

  pub known : (result : Result Served ServeFault) → Serves (λ p e q. Pipes (left p) (held p) e (left q) (held q)) shown follows b d result → ServesBytes shown follows b.limits b.debuggee (left b.channel) (left d) (held b.channel) (held d) result
  known result h = record {
    read = bytes_read h.log;
    written = bytes_written h.log;
    consumed = laws.consumed b.channel d h.log h.ran;
    appended = laws.appended b.channel d h.log h.ran;
    comes = h.comes;
    at_end = at_end h.log result h.ran h.reason;
  }
