use Rattle.std.proofs.Common.{◌≡◌}
use Rattle.dap_command.specs.declared.command.Gate.{Gate}
use Rattle.dap_explain.specs.KeptNotes.{decision_at, decision_after}
use Rattle.dap_explain.specs.declared.decisions.Decisions.{Decisions}
use Rattle.dap_explain.proofs.DecisionLemmas.{by_gate}
use Rattle.dap_explain.proofs.decisions.Decisions.changed.Goals as goal

pub returns : goal.returns
returns c =
    let changed : Decisions = record {
      breakpoint_locations = c.after.result;
      cancel = c.after-2.result;
      completions = c.after-3.result;
      configuration_done = c.after-4.result;
      exception_info = c.after-5.result;
      function_breakpoints = c.after-6.result;
      loaded_sources = c.after-7.result;
      modules = c.after-8.result;
      restart = c.after-9.result;
      set_variable = c.after-10.result;
      step_back = c.after-11.result;
      terminate = c.after-12.result;
    } in
    by_gate (λ (gate : Gate). decision_at changed gate ≡ decision_after gate c.args.line.now (decision_at c.args.self.now gate)) c.after.ensures c.after-2.ensures c.after-3.ensures c.after-4.ensures c.after-5.ensures c.after-6.ensures c.after-7.ensures
    c.after-8.ensures c.after-9.ensures c.after-10.ensures c.after-11.ensures c.after-12.ensures
