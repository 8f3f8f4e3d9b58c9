-- One poll.
use Rattle.std.proofs.Common.{◌≡◌, ℕ, ◌+◌, List, [], length, Bool, None, refl, subst}
use Rattle.std.specs.Prelude.{◌==◌, ◌&&◌, not}
use Rattle.dap_envelope.specs.declared.message.Message.{Message}
use Rattle.dap_plan.specs.Plan.{written_by}
use Rattle.dap_plan.specs.declared.fault.AdapterFault.{AdapterFault}
use Rattle.dap_decision.specs.declared.phase.Phase.TheVariants.{Stopped}
use Rattle.dap_decision.specs.Table.{is_phase}
use Rattle.dap_adapter.specs.Parts.{RunsOn}
use Rattle.dap_adapter.specs.Calls.{Saw, PollRefused}
use Rattle.dap_adapter.specs.Run.{Next, to_poll, after_poll}
use Rattle.dap_adapter.specs.PrivateServing.{Way, Point, Quietly, Breaks, next_after, serve_fault_of}
use Rattle.dap_adapter.specs.declared.served.ServeFault.{ServeFault}
use Rattle.dap_adapter.proofs.Leading.{leads_step, breaks_at_call, breaks_at_bytes}
use Rattle.dap_adapter.proofs.Polling.{after_poll_is}
use Rattle.dap_adapter.proofs.RunningOn.{told}

module _ {C S D : Type 0} (w : Way C S D) (v u : Point C S D) (asks : ℕ) where
  pub poll_breaks : (cause : AdapterFault) (fault : ServeFault) → fault ≡ serve_fault_of cause → (v.end.fault ≡ None → PollRefused w.follows v.end cause u.end) → u.end.session ≡ v.end.session → u.channel ≡ v.channel → u.sink ≡ v.sink → (piece : List ℕ) → Breaks w v (to_poll asks) piece u fault
  poll_breaks cause fault is refused tables channel sink piece =
      breaks_at_call w v u (to_poll asks) piece fault cause is (λ o. record { goes_on = λ no. cc; refused = refused o; tables = tables; debuggee = λ no. cc }) channel sink

  module _ (bytes : List ℕ) (x : Saw w.follows v.end bytes u.end) (none : u.end.fault ≡ None) (limits : u.end.session.limits ≡ v.end.session.limits) where
    abbrev now : List Message
    now = written_by v.end.session x.step.session.made

    told_at : RunsOn w.shown w.follows v.end (to_poll asks) [] now u.end (after_poll (asks + 1) bytes u.end.session.phase)
    told_at = told w.shown w.follows v.end u.end asks bytes x none limits

    pub told_short : (fault : ServeFault) → w.refuses v.channel v.sink bytes u.channel u.sink fault → (piece : List ℕ) → Breaks w v (to_poll asks) piece u fault
    told_short fault short piece = breaks_at_bytes w v u (to_poll asks) (after_poll (asks + 1) bytes u.end.session.phase) [] piece bytes now fault told_at x.step.bytes_are x short

    pub told_on : (more : Bool) → more ≡ (not (length bytes == 0) && not (is_phase Stopped u.end.session.phase)) → w.puts v.channel v.sink bytes u.channel u.sink → Quietly w v (to_poll asks) u (next_after more asks)
    unfolding leads_step told told_at
    told_on more is put =
        subst (λ (z : Next). Quietly w v (to_poll asks) u z) (after_poll_is more asks bytes u.end.session.phase is)
        (record { leads = leads_step w v u (to_poll asks) (after_poll (asks + 1) bytes u.end.session.phase) [] bytes now told_at x.step.bytes_are put; none_come = refl })
