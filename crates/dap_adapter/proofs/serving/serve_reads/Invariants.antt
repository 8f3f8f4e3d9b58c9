use Rattle.std.proofs.Common.{◌≡◌, []}
use Rattle.dap_adapter.specs.Run.{to_take}
use Rattle.dap_adapter.specs.Served.{Start}
use Rattle.dap_adapter.specs.PrivateServing.{served_by, progress_of, place_at, Reaches}
use Rattle.dap_adapter.proofs.Ending.{AtRead}
use Rattle.dap_adapter.proofs.serving.serve_reads.Given as goal

abbrev pub invariant-loop-read : goal.invariant-loop-read
invariant-loop-read g l = record {
  none : l.outlet.gathered ≡ [];
  reads : (b : Start g.row.C.Denot g.row.D.Denot) → l.fn.max_reads ≡ b.most
      → Reaches (served_by g.C.Channel.goes g.D.Debuggee.shown g.D.Debuggee.follows b) (progress_of l.fn.channel l.fn.adapter l.fn.outlet) (place_at 0 [] [] []) to_take
      → AtRead (served_by g.C.Channel.goes g.D.Debuggee.shown g.D.Debuggee.follows b) (progress_of l.channel l.adapter l.outlet) l._read;
}
