-- What an answer gives is live.
use Rattle.dap_plan.specs.GivenLaws.{EachAnswerGivesLive}
use Rattle.dap_plan.proofs.Asks.{ask-is}
use Rattle.dap_plan.proofs.Deliveries.{delivery-is}
use Rattle.dap_plan.proofs.Responses.{respond-is}
use Rattle.dap_plan.proofs.Happenings.{poll-is, emit-is}
use Rattle.dap_plan.proofs.Turns.{turn-is}

pub each_answer_gives_live : EachAnswerGivesLive
each_answer_gives_live = record {
  take = λ s m plan made e is. (delivery-is s m plan made e is).sound.gives;
  turn = λ view s plan made e is. ((turn-is view s plan e).row.outcomes made is).sound.gives;
  poll = λ s made is. (poll-is s made is).gives;
  emit = λ name body s made is. (emit-is name body s made is).gives;
  respond = λ r o s made l is. (respond-is r o s made l is).gives;
  ask = λ command arguments s made is. (ask-is command arguments s made is).gives;
}
