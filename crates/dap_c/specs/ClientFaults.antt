-- Why a client sends nothing, answers nothing or is closed, as a code and as what is found of it.
use Rattle.std.specs.Prelude.{◌≡◌, ℕ}
use Rattle.dap_client.specs.declared.fault.AnswerFault.{AnswerFault}
use Rattle.dap_client.specs.declared.fault.AnswerFault.TheVariants as answer
use Rattle.dap_client.specs.declared.fault.ClientFault.{ClientFault}
use Rattle.dap_client.specs.declared.fault.ClientFault.TheVariants as take
use Rattle.dap_client.specs.declared.fault.SendFault.{SendFault}
use Rattle.dap_client.specs.declared.fault.SendFault.TheVariants as send
use Rattle.dap_c_parts.specs.Causes.{refusal_number, body_number}
use Rattle.dap_c_parts.specs.declared.found.YtFound.{YtFound}

abbrev pub send_number : SendFault → ℕ
send_number send.Ended = 11
send_number send.WrongPhase = 12
send_number send.NotSupported = 13
send_number send.NotStopped = 14
send_number send.UnknownReference = 15
send_number send.TooLarge = 16
send_number send.Full = 17
send_number send.SeqExhausted = 18
send_number send.OutOfMemory = 104

abbrev pub answer_number : AnswerFault → ℕ
answer_number answer.Ended = 11
answer_number answer.NotKept = 19
answer_number answer.SeqExhausted = 18
answer_number answer.OutOfMemory = 104

abbrev pub take_number : ClientFault → ℕ
take_number (take.Frame fault) = 31
take_number (take.Body cause offset) = 32
take_number (take.Unmatched request_seq) = 33
take_number (take.CommandMismatch request_seq) = 34
take_number (take.RepeatedSeq seq) = 35
take_number take.ReferenceLimit = 36
take_number take.SeqExhausted = 18
take_number take.OutOfMemory = 104

-- where and why, of a fault that closes a client
abbrev pub IsFaultFound : ClientFault → YtFound → Type 0
IsFaultFound (take.Frame fault) found = (found.at ≡ fault.offset) × (found.cause ≡ refusal_number fault.cause)
IsFaultFound (take.Body cause offset) found = (found.at ≡ offset) × (found.cause ≡ body_number cause)
IsFaultFound (take.Unmatched request_seq) found = found.at ≡ request_seq
IsFaultFound (take.CommandMismatch request_seq) found = found.at ≡ request_seq
IsFaultFound (take.RepeatedSeq seq) found = found.at ≡ seq
IsFaultFound take.ReferenceLimit found = found.at ≡ 0
IsFaultFound take.SeqExhausted found = found.at ≡ 0
IsFaultFound take.OutOfMemory found = found.at ≡ 0
