use Rattle.dap_adapter.proofs.OneByOne.{one_by_one}
use Rattle.dap_adapter.proofs.bodies.bodies_come_one_by_one.Goals as goal

pub returns : goal.returns
returns g c = one_by_one g.D.Debuggee.shown g.D.Debuggee.follows c.written_is_read_again.ensures c.each_stream_has_one_split.ensures c.frame_has_no_frame_within.ensures
