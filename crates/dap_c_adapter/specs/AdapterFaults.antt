-- Why an adapter is closed, as a code and as what is found of it.
use Rattle.std.specs.Prelude.{◌≡◌, ℕ}
use Rattle.dap_plan.specs.declared.fault.AdapterFault.{AdapterFault}
use Rattle.dap_plan.specs.declared.fault.AdapterFault.TheVariants.{Frame, Body, RepeatedSeq, Unmatched, CommandMismatch, Ended, SeqExhausted, OutOfMemory}
use Rattle.dap_c_parts.specs.Causes.{refusal_number, body_number}
use Rattle.dap_c_parts.specs.declared.found.YtFound.{YtFound}

abbrev pub adapter_number : AdapterFault → ℕ
adapter_number (Frame fault) = 31
adapter_number (Body cause offset) = 32
adapter_number (RepeatedSeq seq) = 35
adapter_number (Unmatched request_seq) = 33
adapter_number (CommandMismatch request_seq) = 34
adapter_number Ended = 11
adapter_number SeqExhausted = 18
adapter_number OutOfMemory = 104

-- where and why, of a fault that closes an adapter
abbrev pub IsAdapterFaultFound : AdapterFault → YtFound → Type 0
IsAdapterFaultFound (Frame fault) found = (found.at ≡ fault.offset) × (found.cause ≡ refusal_number fault.cause)
IsAdapterFaultFound (Body cause offset) found = (found.at ≡ offset) × (found.cause ≡ body_number cause)
IsAdapterFaultFound (RepeatedSeq seq) found = found.at ≡ seq
IsAdapterFaultFound (Unmatched request_seq) found = found.at ≡ request_seq
IsAdapterFaultFound (CommandMismatch request_seq) found = found.at ≡ request_seq
IsAdapterFaultFound Ended found = found.at ≡ 0
IsAdapterFaultFound SeqExhausted found = found.at ≡ 0
IsAdapterFaultFound OutOfMemory found = found.at ≡ 0
