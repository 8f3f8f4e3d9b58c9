use Rattle.std.proofs.Common.{◌≡◌, ◌&&◌, length}
use Rattle.std.specs.List.{list_any}
use Rattle.dap_tables.specs.Outstanding.{is_parked}
use Rattle.dap_plan.specs.Handling.{wants_terminal}
use Rattle.dap_session.proofs.terminal.are_wanting.Given as goal

-- those before were not
abbrev pub invariant-loop-request : goal.invariant-loop-request
invariant-loop-request l = record {
  so_far : list_any (λ r. is_parked r.seq l.fn.kept.kept && wants_terminal l.fn.options r) l.requests ≡ list_any (λ r. is_parked r.seq l.fn.kept.kept && wants_terminal l.fn.options r) l.initial.requests;
}

abbrev pub decreases-loop-request : goal.decreases-loop-request
decreases-loop-request l = length l.requests
