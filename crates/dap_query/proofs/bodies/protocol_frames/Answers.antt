use Rattle.std.proofs.Common.{◌∙◌}
use Rattle.std.proofs.lemmas.Result.{IfOk-weaker}
use Rattle.dap_query.proofs.ProtocolLists.{frames-zipped}
use Rattle.dap_query.proofs.bodies.protocol_frames.Goals as goal

pub returns : goal.returns
returns g c =
    IfOk-weaker c.frames_with.result _ _
    (λ told is. rw (c.in_ok-sources.ensures, c.deref.ensures.value) at is ∙ frames-zipped c.args.options (g.D.Debuggee.shown c.args.debuggee.now).sources c.args.ids.items c.args.frames.items)
    c.frames_with.ensures
