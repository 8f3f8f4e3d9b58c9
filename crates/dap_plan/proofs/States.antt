-- The phase stays the debuggee's state.
use Rattle.std.proofs.Common.{◌≡◌, ℕ, ◌+◌, Bool, true, false, Result, Ok, Err, length, refl, sym, subst, Option, Some, None, List}
use Rattle.std.specs.Prelude.{not, if◌then◌else◌, nat_lt, nat_le, bytes_eq}
use Rattle.dap_call.specs.Argument.{Read}
use Rattle.dap_call.specs.Call.{call_of}
use Rattle.dap_call.specs.declared.call.Call.{Call}
use Rattle.dap_command.specs.declared.command.Command.TheVariants as command
use Rattle.dap_envelope.specs.declared.message.Kind.{Kind}
use Rattle.dap_envelope.specs.declared.message.Kind.TheVariants.{Request as RequestKind, Response, Event, Other}
use Rattle.dap_call.specs.Terminal.{run_in_terminal}
use Rattle.dap_tables.specs.Outstanding.{contains_seq, entry_with}
use Rattle.dap_tables.specs.declared.entry.Entry.{Entry as Request}
use Rattle.dap_debuggee.specs.Laws.{state_after}
use Rattle.dap_debuggee.specs.Shown.{to_poll, Reply, done, refused, happened}
use Rattle.dap_debuggee.specs.declared.answers.Happening.{Happening}
use Rattle.dap_debuggee.specs.declared.answers.Happening.TheVariants as happening
use Rattle.dap_debuggee.specs.declared.answers.State.{State}
use Rattle.dap_plan.specs.declared.fault.AdapterFault.{AdapterFault}
use Rattle.dap_plan.specs.declared.fault.AdapterFault.TheVariants.{RepeatedSeq, Unmatched, CommandMismatch, Ended as EndedFault}
use Rattle.dap_decision.specs.declared.phase.Phase.{Phase}
use Rattle.dap_decision.specs.declared.phase.Phase.TheVariants.{Fresh, Ended, Asked}
use Rattle.dap_decision.specs.Failures.{of_known, command_of}
use Rattle.dap_plan.specs.Plan.{Plan, at_once, asking, no_change, messages_due, plan_within_numbers}
use Rattle.dap_plan.specs.Polling.{after_happening, after_poll_reply, has_debuggee}
use Rattle.dap_plan.specs.Session.{Session, is_asked}
use Rattle.dap_plan.specs.StateLaws.{IsStateOf, KeepsState, EachStepKeepsState}
use Rattle.dap_decision.specs.Table.{is_phase}
use Rattle.dap_plan.specs.Taking.{is_cancel, after_cancel_call, after_cancel_request, after_keeping, after_taking, after_late_terminal, plan_of_terminal, plan_of_response, takes_as, after_own_response, takes_response_of}
use Rattle.dap_plan.proofs.EffectRows.{starts-its-state}
use Rattle.dap_plan.proofs.Placed.{is_unstarted, unstarted, asked-unstarted}
use Rattle.dap_plan.proofs.Turns.{afforded, turn-is}

-- ---- a request

call-phase : (read : Read Call) (r : Request) (s : Session) → (after_cancel_call read r s).after.phase ≡ s.phase
call-phase (Err key) r s = refl
call-phase (Ok asked) r s = refl

cancel-phase : (b : Bool) (r : Request) (s : Session) → is_phase Fresh s.phase ≡ b → (after_cancel_request r s).after.phase ≡ s.phase
cancel-phase true r s e = rw e refl
cancel-phase false r s e = rw e (call-phase (call_of command.Cancel r.arguments) r s)

keeping-phase : (b : Bool) (r : Request) (s : Session) → nat_lt (length s.kept) s.limits.requests ≡ b → (after_keeping r s).after.phase ≡ s.phase
keeping-phase true r s e = rw e refl
keeping-phase false r s e = rw e refl

taking-phase : (b : Bool) (r : Request) (s : Session) → of_known is_cancel (command_of r) ≡ b → (after_taking r s).after.phase ≡ s.phase
taking-phase true r s e = rw e (cancel-phase (is_phase Fresh s.phase) r s refl)
taking-phase false r s e = rw e (keeping-phase (nat_lt (length s.kept) s.limits.requests) r s refl)

given-keeps : (first : State) (s : Session) (p plan : Plan) → plan_within_numbers s p ≡ Ok plan → KeepsState first s p → KeepsState first s plan
given-keeps first s p plan e k =
    let given = afforded (nat_le (s.used + messages_due p) s.limits.seq) p plan _ e in
    subst (λ (q : Plan). KeepsState first s q) (sym given.1) k

request-keeps : (first : State) (ended repeated : Bool) (s : Session) (r : Request) (plan : Plan)
    → (let given : Result Plan AdapterFault = (if ended then Err EndedFault else (if repeated then Err (RepeatedSeq r.seq) else plan_within_numbers s (at_once (after_taking r s)))) in given) ≡ Ok plan → KeepsState first s plan
request-keeps first true repeated s r plan e = absurd (cc e)
request-keeps first false true s r plan e = absurd (cc e)
request-keeps first false false s r plan e =
    given-keeps first s (at_once (after_taking r s)) plan e (λ before h. subst (λ (p : Phase). IsStateOf first p before) (sym (taking-phase (of_known is_cancel (command_of r)) r s refl)) h)

-- ---- a response

terminal-keeps : (first : State) (ok : Bool) (s : Session) → is_unstarted s.phase ≡ true → KeepsState first s (plan_of_terminal ok s)
terminal-keeps first true s q = λ before last may h. starts-its-state first before last (unstarted first s.phase before q h)
terminal-keeps first false s q = λ before h. unstarted first s.phase before q h

phase-keeps : (first : State) (b ok : Bool) (s : Session) → is_phase Asked s.phase ≡ b → KeepsState first s (let plan : Plan = (if b then plan_of_terminal ok s else at_once (after_late_terminal s)) in plan)
phase-keeps first true ok s e = terminal-keeps first ok s (asked-unstarted s.phase e)
phase-keeps first false ok s e = λ before h. h

response-keeps : (first : State) (a b : Bool) (s : Session) (request_seq : ℕ) (ok : Bool) (plan : Plan)
    → (let given : Result Plan AdapterFault = (if not a then Err (Unmatched request_seq) else (if not b then Err (CommandMismatch request_seq) else plan_within_numbers s (plan_of_response ok s))) in given) ≡ Ok plan → KeepsState first s plan
response-keeps first false b s request_seq ok plan e = absurd (cc e)
response-keeps first true false s request_seq ok plan e = absurd (cc e)
response-keeps first true true s request_seq ok plan e = given-keeps first s (plan_of_response ok s) plan e (phase-keeps first (is_phase Asked s.phase) ok s refl)

own-keeps : (first : State) (b : Bool) (s : Session) (request_seq : ℕ) (plan : Plan)
    → (let given : Result Plan AdapterFault = (if b then Ok (at_once (after_own_response request_seq s)) else Err (CommandMismatch request_seq)) in given) ≡ Ok plan → KeepsState first s plan
own-keeps first false s request_seq plan e = absurd (cc e)
own-keeps first true s request_seq plan e = let p : at_once (after_own_response request_seq s) ≡ plan = cc in subst (λ (x : Plan). KeepsState first s x) p (λ before h. h)

either-keeps : (first : State) (o : Option Request) (s : Session) (request_seq : ℕ) (ok : Bool) (command : List ℕ) (plan : Plan) → takes_response_of o request_seq ok command s ≡ Ok plan → KeepsState first s plan
either-keeps first None s request_seq ok command plan e = response-keeps first (is_asked request_seq s.asked) (bytes_eq command run_in_terminal) s request_seq ok plan e
either-keeps first (Some r) s request_seq ok command plan e = own-keeps first (bytes_eq command r.command) s request_seq plan e

nothing-keeps : (first : State) (s : Session) (plan : Plan) → plan ≡ at_once (no_change s) → KeepsState first s plan
nothing-keeps first s plan e = subst (λ (p : Plan). KeepsState first s p) (sym e) (λ before h. h)

taken-keeps : (first : State) (s : Session) (seq : ℕ) (kind : Kind) (plan : Plan) → takes_as seq kind s ≡ Ok plan → KeepsState first s plan
taken-keeps first s seq (RequestKind command arguments) plan e = request-keeps first (is_phase Ended s.phase) (contains_seq seq s.kept) s (record { seq = seq; command = command; arguments = arguments }) plan e
taken-keeps first s seq (Response request_seq ok command message body) plan e = either-keeps first (entry_with request_seq s.own) s request_seq ok command plan e
taken-keeps first s seq (Event event body) plan e = nothing-keeps first s plan (cc)
taken-keeps first s seq (Other tag) plan e = nothing-keeps first s plan (cc)

-- ---- a poll

happening-keeps : (first : State) (s : Session) (h : Happening) (before : State) → IsStateOf first s.phase before → IsStateOf first (after_happening h s).after.phase (state_after before to_poll (happened h))
unfolding after_happening
happening-keeps first s happening.Nothing before h = h
happening-keeps first s (happening.Output category text more) before h = h
happening-keeps first s (happening.Stopped reason thread more) before h = refl
happening-keeps first s (happening.Continued thread) before h = refl
happening-keeps first s (happening.Exited code) before h = refl

reply-keeps : (first : State) (s : Session) (before : State) (last : Reply) → IsStateOf first s.phase before → IsStateOf first (after_poll_reply s last).after.phase (state_after before to_poll last)
reply-keeps first s before done h = h
reply-keeps first s before (refused why) h = h
reply-keeps first s before (happened x) h = happening-keeps first s x before h

polled-keeps : (first : State) (b : Bool) (s : Session) → KeepsState first s (let plan : Plan = (if b then asking to_poll (after_poll_reply s) else at_once (no_change s)) in plan)
polled-keeps first true s = λ before last may h. reply-keeps first s before last h
polled-keeps first false s = λ before h. h

pub each_step_keeps_state : EachStepKeepsState
each_step_keeps_state = record {
  take = λ first s m plan e. taken-keeps first s m.seq m.kind plan e;
  turn = λ first view s plan e. (turn-is view s plan e).row.keeps first;
  poll = λ first s. polled-keeps first (has_debuggee s.phase) s;
  emit = λ first name body s before h. h;
  respond = λ first r o s before h. h;
  ask = λ first command arguments s before h. h;
}
