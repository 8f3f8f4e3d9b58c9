-- Each step goes on as its history does, and leaves fewer requests to handle where it handled one.
use Rattle.dap_history.specs.HistoryLaws.{HistoriesGrow}
use Rattle.std.proofs.Common.{sym, subst}
use Rattle.dap_plan.specs.Answering.{EachStepGoesWell}
use Rattle.dap_plan.specs.Plan.{Made}
use Rattle.dap_plan.proofs.Asks.{ask-is}
use Rattle.dap_plan.specs.Laws.{AskNoneByName, EachStepGoesOn, OnlyAskAsksByName}
use Rattle.dap_plan.proofs.Deliveries.{delivery-is}
use Rattle.dap_plan.proofs.Responses.{respond-is}
use Rattle.dap_plan.proofs.Happenings.{poll-is, emit-is}
use Rattle.dap_plan.proofs.Steps.{outs_of-entries, ins_of-entries, goes_on-alone, goes_on-delivered}
use Rattle.dap_plan.proofs.Turns.{turn-is}

only_ask_asks_by_name : OnlyAskAsksByName
only_ask_asks_by_name = record {
  take = λ s m plan made e is. (delivery-is s m plan made e is).sound.by_name;
  turn = λ view s plan made e is. ((turn-is view s plan e).row.outcomes made is).sound.by_name;
  poll = λ s made is. (poll-is s made is).by_name;
  emit = λ name body s made is. (emit-is name body s made is).by_name;
  respond = λ r o s made is. subst (λ (x : Made). AskNoneByName x.drafts) (sym is) tt;
}

pub each_step_goes_well : EachStepGoesWell
each_step_goes_well = record {
  take = λ s m plan made d e is. (delivery-is s m plan made e is).sound.well d;
  turn = λ view s plan made d e is. ((turn-is view s plan e).row.outcomes made is).sound.well d;
  poll = λ s made is. (poll-is s made is).well tt;
  emit = λ name body s made is. (emit-is name body s made is).well tt;
  respond = λ r o s made d l is. (respond-is r o s made l is).well d;
  ask = λ command arguments s made is. (ask-is command arguments s made is).well;
  fewer = λ view s plan made d e is. ((turn-is view s plan e).row.outcomes made is).fewer d;
}

pub each_step_goes_on : HistoriesGrow → EachStepGoesOn
each_step_goes_on laws = record {
  all_go = outs_of-entries laws;
  none_come = ins_of-entries laws;
  take = λ s m plan made h d e is f. goes_on-delivered laws s m made h ((delivery-is s m plan made e is).sound.well d) f;
  turn = λ view s plan made h d e is f. goes_on-alone laws s made h (((turn-is view s plan e).row.outcomes made is).sound.well d) f;
  poll = λ s made h is f. goes_on-alone laws s made h ((poll-is s made is).well tt) f;
  emit = λ name body s made h is f. goes_on-alone laws s made h ((emit-is name body s made is).well tt) f;
  respond = λ r o s made h d l is f. goes_on-alone laws s made h ((respond-is r o s made l is).well d) f;
  ask = λ command arguments s made h is f. goes_on-alone laws s made h ((ask-is command arguments s made is).well) f;
  only_ask = only_ask_asks_by_name;
}
