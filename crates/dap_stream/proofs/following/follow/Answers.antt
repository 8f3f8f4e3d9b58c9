use Rattle.dap_stream.proofs.FollowLemmas.{began, not_begun}
use Rattle.dap_stream.proofs.following.follow.Goals as goal

pub returns-in_default : goal.returns-in_default
returns-in_default g c = not_begun g.C.Channel.goes c.args.style c.args.limits c.args.most c.args.channel.now _ c.new-bytes.ensures.items

pub returns : goal.returns
returns g c = c.follow_frames-end.ensures c.args.limits (began g.C.Channel.goes c.args.style c.args.limits c.args.most c.args.channel.now c.in-Ok.frames c.in-Ok.ensures.bounds c.in-Ok.ensures.under_way c.in-Ok.ensures.fresh)
