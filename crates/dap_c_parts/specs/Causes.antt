-- Why a frame or a body is refused, as a number from 1: the place in the order in which the refusals are tested.
use Rattle.std.specs.Prelude.{ℕ}
use Rattle.dap_frame.specs.declared.Refusal.{Refusal}
use Rattle.dap_frame.specs.declared.Refusal.TheVariants.{HeaderTooLong, BadHeader, NoLength, TwoLengths, BadLength, BodyTooLong}
use Rattle.dap_envelope.specs.declared.fault.BodyRefusal.{BodyRefusal}
use Rattle.dap_envelope.specs.declared.fault.BodyRefusal.TheVariants.{NotJson, NotObject, BadSeq, BadType, BadCommand, BadRequestSeq, BadSuccess, BadEvent, BadMessage}

abbrev pub refusal_number : Refusal → ℕ
refusal_number HeaderTooLong = 1
refusal_number BadHeader = 2
refusal_number NoLength = 3
refusal_number TwoLengths = 4
refusal_number BadLength = 5
refusal_number BodyTooLong = 6

-- why a body is refused: the place in the order in which the refusals are tested
abbrev pub body_number : BodyRefusal → ℕ
body_number NotJson = 1
body_number NotObject = 2
body_number BadSeq = 3
body_number BadType = 4
body_number BadCommand = 5
body_number BadRequestSeq = 6
body_number BadSuccess = 7
body_number BadEvent = 8
body_number BadMessage = 9
