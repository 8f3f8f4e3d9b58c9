use Rattle.std.proofs.Common.{◌≡◌, ◌+◌, ◌≤◌, length, true, false, sym, ap, ◌∙◌, subst}
use Rattle.dap_tables.specs.Outstanding.{contains_seq}
use Rattle.dap_tables.specs.declared.entry.Entry.{Entry}
use Rattle.dap_decision.specs.Failures.{of_known, command_of}
use Rattle.dap_plan.specs.SessionState.{SessionState, MadeBy}
use Rattle.dap_plan.specs.Taking.{is_cancel, after_keeping, after_cancel_request}
use Rattle.dap_plan.specs.Session.{Session}
use Rattle.dap_decision.specs.Table.{is_phase}
use Rattle.dap_decision.specs.declared.phase.Phase.TheVariants.{Ended}
use Rattle.dap_session.proofs.TakingRequests.{IsOpenTo, takes-made, as-cancel, as-other}
use Rattle.dap_session.proofs.Outboxes.{done-both}
use Rattle.dap_session.proofs.session.Session.take_request.Goals as goal

pub returns-clause-taken : goal.returns-clause-taken
returns-clause-taken g c =
    let r : Entry = record { seq = c.args.seq; command = c.args.command.now; arguments = c.args.arguments.now } in
    let v : SessionState _ = c.args.self.now in
    let s : Session = v.session in
    let open_to : IsOpenTo r s = record {
      not_ended = sym (c.if-has_ended.ensures ∙ ap (λ (x : SessionState _). is_phase Ended x.session.phase) c.self.view_is);
      new = sym (c.if-contains.ensures.contains ∙ ap (λ (x : SessionState _). contains_seq c.args.seq x.session.kept) c.self.view_is);
    } in
    let other : of_known is_cancel (command_of r) ≡ false = sym (rw (c.as_str.ensures, c.in_ok-request.ensures) at c.if-is_cancel.ensures) in
    done-both c.keep.result _ _ _
    (λ made within.
    takes-made g.D.Debuggee.follows r v _ (after_keeping r s) c.keep.new.out.bytes open_to (as-other r s other)
    (subst (λ (x : Entry). s.used + length (after_keeping x s).drafts ≤ s.limits.seq) c.in_ok-request.ensures within)
    (subst (λ (x : Entry). MadeBy (after_keeping x s) s c.keep.new.self.session c.keep.new.out.bytes) c.in_ok-request.ensures made)
    c.keep.ensures.debuggee)
    c.keep.ensures.made
    c.keep.ensures.within

pub returns-then-is_cancel-clause-taken : goal.returns-then-is_cancel-clause-taken
returns-then-is_cancel-clause-taken g c =
    let r : Entry = record { seq = c.args.seq; command = c.args.command.now; arguments = c.args.arguments.now } in
    let v : SessionState _ = c.args.self.now in
    let s : Session = v.session in
    let open_to : IsOpenTo r s = record {
      not_ended = sym (c.if-has_ended.ensures ∙ ap (λ (x : SessionState _). is_phase Ended x.session.phase) c.self.view_is);
      new = sym (c.if-contains.ensures.contains ∙ ap (λ (x : SessionState _). contains_seq c.args.seq x.session.kept) c.self.view_is);
    } in
    let cancels : of_known is_cancel (command_of r) ≡ true = sym (rw (c.as_str.ensures, c.in_ok-request.ensures) at c.if-is_cancel.ensures) in
    done-both c.cancel.result _ _ _
    (λ made within.
    takes-made g.D.Debuggee.follows r v _ (after_cancel_request r s) c.cancel.new.out.bytes open_to (as-cancel r s cancels)
    (subst (λ (x : Entry). s.used + length (after_cancel_request x s).drafts ≤ s.limits.seq) c.in_ok-request.ensures within)
    (subst (λ (x : Entry). MadeBy (after_cancel_request x s) s c.cancel.new.self.session c.cancel.new.out.bytes) c.in_ok-request.ensures made)
    c.cancel.ensures.debuggee)
    c.cancel.ensures.made
    c.cancel.ensures.within
