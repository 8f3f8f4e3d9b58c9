-- A response that the adapter takes ends the waiting of the smaller adapter, or comes too late there too.
use Rattle.std.proofs.Common.{◌≡◌, ℕ, List, [], Bool, true, false, Option, Some, None, Result, Ok, Err, refl, sym, ap, ◌∙◌, subst, arith, length}
use Rattle.std.specs.Prelude.{◌==◌, ◌&&◌, not, nat_le, ◌+◌, bytes_eq, if◌then◌else◌}
use Rattle.std.proofs.lemmas.Bool.Decides.{nat_tests}
use Rattle.dap_ends.specs.Messages.{answer_each as answer_all}
use Rattle.dap_ends.specs.AdapterModel.{parked_of, unparked_of, ends_wait, asks as small_asks, phase_after_start, Kept as SmallKept}
use Rattle.dap_ends.specs.AdapterModel as model
use Rattle.dap_ends.specs.Standing.{AllLaunch}
use Rattle.dap_ends.proofs.Counts.{names-same}
use Rattle.dap_call.specs.Terminal.{run_in_terminal}
use Rattle.dap_tables.specs.Outstanding.{Kept, entry_with, parked_ones, unparked_ones}
use Rattle.dap_outbox.specs.Waiting.{starting_ones}
use Rattle.dap_debuggee.specs.Shown.{Reply, refused}
use Rattle.dap_plan.specs.declared.fault.AdapterFault.{AdapterFault}
use Rattle.dap_plan.specs.declared.fault.AdapterFault.TheVariants.{Unmatched, CommandMismatch, SeqExhausted}
use Rattle.dap_decision.specs.declared.phase.Phase.{Phase}
use Rattle.dap_decision.specs.declared.phase.Phase.TheVariants as adapter
use Rattle.dap_plan.specs.Handling.{answer_parked, by_reply, start_phase, by_reply_each}
use Rattle.dap_plan.specs.Laws.{CanMake}
use Rattle.dap_plan.specs.Plan.{Made, Plan, messages_due, plan_within_numbers}
use Rattle.dap_plan.specs.Session.{Session, is_asked}
use Rattle.dap_plan.specs.Taking.{after_terminal, after_late_terminal, plan_of_response, takes_response, takes_response_of, takes_terminal_response}
use Rattle.dap_world.specs.Projection.{adapter_model_phase, all_kept, adapter_model_of}
use Rattle.dap_world.proofs.Answered.{AllHarmless, AllGiveNone, none-each, none-parked-reply, is_done, told-parked, starts-phase, harmless-after_park, same-adapter-model}
use Rattle.dap_world.proofs.KeptSeen.{starting-parked, others-unparked, all_told, each-succeeded, parked-seen, unparked-seen}
use Rattle.dap_world.proofs.RowsSeen.{at}
use Rattle.dap_world.proofs.TakesSeen.{afforded}

-- what was made of the answer to the own request, by what it says and by whether the debuggee starts
pub record EndsWaiting (s : Session) (ok : Bool) (made : Made) : Type 0 where
  pub starts : Bool
  pub options_are : made.after.options ≡ s.options
  pub none : made.after.asked ≡ None
  pub after : adapter_model_of made.after ≡ (ends_wait (adapter_model_phase s.phase) (adapter_model_of s) (ok && starts)).adapter
  pub outs : all_told made.drafts ≡ (ends_wait (adapter_model_phase s.phase) (adapter_model_of s) (ok && starts)).outs
  pub harmless : AllHarmless made.drafts
  pub references_are : made.after.references ≡ s.references
  pub none_given : AllGiveNone made.drafts

ends-moved : (s : Session) (ok : Bool) (m made : Made) → made ≡ m → EndsWaiting s ok m → EndsWaiting s ok made
ends-moved s ok m made e a = subst (λ (x : Made). EndsWaiting s ok x) (sym e) a

-- what is made, by those that wait for the start and by the others
abbrev ended_as : Session → Reply → List Kept → List Kept → Made
ended_as s last waiting others = record {
  drafts = answer_parked s waiting last;
  drops = false;
  after = record s { phase = start_phase last; kept = others; asked = None; used = s.used + length waiting };
}

-- the debuggee replied so
ends-as : (s : Session) (ok starts : Bool) (last : Reply) → (ok && starts) ≡ is_done last → AllLaunch (parked_of (all_kept s.kept)) → EndsWaiting (at adapter.Asked s) ok (ended_as (at adapter.Asked s) last (parked_ones s.kept) (unparked_ones s.kept))
ends-as s ok starts last e l =
    let d = adapter_model_of (at adapter.Asked s) in
    let waits = at adapter.Asked s in
    let parked = parked_ones s.kept in
    let answers = each-succeeded (by_reply_each waits parked last) (is_done last) parked (told-parked waits parked last) in
    let after : adapter_model_of (ended_as (at adapter.Asked s) last (parked_ones s.kept) (unparked_ones s.kept)).after ≡ (ends_wait model.AdapterAsked d (is_done last)).adapter =
    same-adapter-model (adapter_model_phase (start_phase last)) (phase_after_start (is_done last)) (all_kept (unparked_ones s.kept)) (unparked_of (all_kept s.kept)) (starts-phase last) (unparked-seen s.kept) in
    let outs : all_told (ended_as (at adapter.Asked s) last (parked_ones s.kept) (unparked_ones s.kept)).drafts ≡ (ends_wait model.AdapterAsked d (is_done last)).outs =
    answers ∙ ap (λ (ks : List SmallKept). answer_all (is_done last) (small_asks ks)) (parked-seen s.kept) in
    record {
      starts = starts;
      options_are = refl;
      none = refl;
      after = after ∙ ap (λ (b : Bool). (ends_wait model.AdapterAsked d b).adapter) (sym e);
      outs = outs ∙ ap (λ (b : Bool). (ends_wait model.AdapterAsked d b).outs) (sym e);
      harmless = harmless-after_park waits parked last parked (subst AllLaunch (sym (parked-seen s.kept)) l);
      references_are = refl;
      none_given = none-each (by_reply_each waits parked last) parked (none-parked-reply waits parked last);
    }

ends-by : (s : Session) (ok starts : Bool) (last : Reply) → (ok && starts) ≡ is_done last → AllLaunch (parked_of (all_kept s.kept)) → EndsWaiting (at adapter.Asked s) ok (after_terminal (at adapter.Asked s) last)
ends-by s ok starts last e l =
    let waits = at adapter.Asked s in
    let moved = subst (λ (ks : List Kept). EndsWaiting waits ok (ended_as waits last ks (unparked_ones s.kept))) (sym (starting-parked s.kept l)) (ends-as s ok starts last e l) in
    subst (λ (ks : List Kept). EndsWaiting waits ok (ended_as waits last (starting_ones s.kept) ks)) (sym (others-unparked s.kept l)) moved

-- none is waited for
ends-late : (p : Phase) (s : Session) (ok : Bool) → ends_wait (adapter_model_phase p) (adapter_model_of (at p s)) (ok && true) ≡ (let m : model.Made = record { adapter = adapter_model_of (at p s); outs = [] } in m) → EndsWaiting (at p s) ok (after_late_terminal (at p s))
ends-late p s ok e =
    record {
      starts = true;
      options_are = refl;
      none = refl;
      after = ap (λ (m : model.Made). m.adapter) (sym e);
      outs = ap (λ (m : model.Made). m.outs) (sym e);
      harmless = tt;
      references_are = refl;
      none_given = tt;
    }

ends-in : (p : Phase) (s : Session) (ok : Bool) (made : Made) → AllLaunch (parked_of (all_kept s.kept)) → CanMake (plan_of_response ok (at p s)) made → EndsWaiting (at p s) ok made
ends-in adapter.Asked s true made l can = ends-moved (at adapter.Asked s) true (after_terminal (at adapter.Asked s) can.0) made can.1 (ends-by s true (is_done can.0) can.0 refl l)
ends-in adapter.Asked s false made l can = ends-moved (at adapter.Asked s) false (after_terminal (at adapter.Asked s) (refused None)) made can (ends-by s false true (refused None) refl l)
ends-in adapter.Fresh s ok made l can = ends-moved (at adapter.Fresh s) ok (after_late_terminal (at adapter.Fresh s)) made can (ends-late adapter.Fresh s ok refl)
ends-in adapter.Ready s ok made l can = ends-moved (at adapter.Ready s) ok (after_late_terminal (at adapter.Ready s)) made can (ends-late adapter.Ready s ok refl)
ends-in adapter.Configured s ok made l can = ends-moved (at adapter.Configured s) ok (after_late_terminal (at adapter.Configured s)) made can (ends-late adapter.Configured s ok refl)
ends-in adapter.Parked s ok made l can = ends-moved (at adapter.Parked s) ok (after_late_terminal (at adapter.Parked s)) made can (ends-late adapter.Parked s ok refl)
ends-in adapter.Running s ok made l can = ends-moved (at adapter.Running s) ok (after_late_terminal (at adapter.Running s)) made can (ends-late adapter.Running s ok refl)
ends-in adapter.Stopped s ok made l can = ends-moved (at adapter.Stopped s) ok (after_late_terminal (at adapter.Stopped s)) made can (ends-late adapter.Stopped s ok refl)
ends-in adapter.Exited s ok made l can = ends-moved (at adapter.Exited s) ok (after_late_terminal (at adapter.Exited s)) made can (ends-late adapter.Exited s ok refl)
ends-in adapter.Ended s ok made l can = ends-moved (at adapter.Ended s) ok (after_late_terminal (at adapter.Ended s)) made can (ends-late adapter.Ended s ok refl)

-- ---- the tests before

same-number : (a b : ℕ) → (a == b) ≡ true → a ≡ b
same-number a b h = grind (arith, nat_tests)

asked-is : (q : ℕ) (o : Option ℕ) → is_asked q o ≡ true → o ≡ Some q
asked-is q None h = cc
asked-is q (Some seq) h = ap (λ n. Some n) (same-number seq q h)

-- it answers the own request that waits, and this was made of it
pub record IsAnswered (s : Session) (q : ℕ) (ok : Bool) (name : List ℕ) (made : Made) : Type 0 where
  pub asked : s.asked ≡ Some q
  pub named : name ≡ run_in_terminal
  pub ends : EndsWaiting s ok made

response-if : (a b : Bool) (q : ℕ) (ok : Bool) (name : List ℕ) (s : Session) (plan : Plan) (made : Made) → is_asked q s.asked ≡ a → bytes_eq name run_in_terminal ≡ b → AllLaunch (parked_of (all_kept s.kept))
    → (if not a then Err (Unmatched q) else (if not b then Err (CommandMismatch q) else plan_within_numbers s (plan_of_response ok s))) ≡ Ok plan → CanMake plan made → IsAnswered s q ok name made
response-if false b q ok name s plan made x y l e can = cc
response-if true false q ok name s plan made x y l e can = cc
response-if true true q ok name s plan made x y l e can =
    let same = afforded (nat_le (s.used + messages_due (plan_of_response ok s)) s.limits.seq) (plan_of_response ok s) plan SeqExhausted e in
    record {
      asked = asked-is q s.asked x;
      named = names-same name run_in_terminal y;
      ends = ends-in s.phase s ok made l (subst (λ (p : Plan). CanMake p made) same can);
    }

-- nobody asks by a name of their own
as-terminal : (q : ℕ) (ok : Bool) (name : List ℕ) (s : Session) → s.own ≡ [] → takes_response q ok name s ≡ takes_terminal_response q ok name s
as-terminal q ok name s n = ap (λ (ks : List Kept). takes_response_of (entry_with q ks) q ok name s) n

pub response-seen : (q : ℕ) (ok : Bool) (name : List ℕ) (s : Session) (plan : Plan) (made : Made) → s.own ≡ [] → AllLaunch (parked_of (all_kept s.kept)) → takes_response q ok name s ≡ Ok plan → CanMake plan made → IsAnswered s q ok name made
response-seen q ok name s plan made n l e can = response-if (is_asked q s.asked) (bytes_eq name run_in_terminal) q ok name s plan made refl refl l (sym (as-terminal q ok name s n) ∙ e) can

-- ---- faults

short-of : (b : Bool) (p : Plan) (f : AdapterFault) → (let r : Result Plan AdapterFault = (if b then Ok p else Err SeqExhausted) in r) ≡ Err f → f ≡ SeqExhausted
short-of true p f e = cc
short-of false p f e = let same : SeqExhausted ≡ f = cc in sym same

fault-if : (a b : Bool) (q : ℕ) (ok : Bool) (s : Session) (f : AdapterFault) → a ≡ true → b ≡ true
    → (if not a then Err (Unmatched q) else (if not b then Err (CommandMismatch q) else plan_within_numbers s (plan_of_response ok s))) ≡ Err f → f ≡ SeqExhausted
fault-if true true q ok s f x y e = short-of (nat_le (s.used + messages_due (plan_of_response ok s)) s.limits.seq) (plan_of_response ok s) f e
fault-if true false q ok s f x y e = cc
fault-if false b q ok s f x y e = cc

-- a response to the own request is refused only where too few numbers are left
pub response-fault : (q : ℕ) (ok : Bool) (name : List ℕ) (s : Session) (f : AdapterFault) → s.own ≡ [] → is_asked q s.asked ≡ true → bytes_eq name run_in_terminal ≡ true → takes_response q ok name s ≡ Err f → f ≡ SeqExhausted
response-fault q ok name s f n x y e = fault-if (is_asked q s.asked) (bytes_eq name run_in_terminal) q ok s f x y (sym (as-terminal q ok name s n) ∙ e)
