use Rattle.dap_session.specs.PrivateReplies.{reply_of}
use Rattle.dap_session.proofs.Disconnects.{room-started, holds-started}
use Rattle.dap_session.proofs.Outboxes.{each-done}
use Rattle.dap_session.proofs.session.Session.start_responses.Goals as goal

pub answer_parked-requires-clause-room : goal.answer_parked-requires-clause-room
answer_parked-requires-clause-room g c = room-started c.args.self.now.session c.args.request.now c.one.new.out _ c.in_ok-one.ensures.holds c.in_ok-one.ensures.last c.requires.room

pub returns-clause-holds : goal.returns-clause-holds
returns-clause-holds g c =
    each-done c.answer_parked.result _ _ (holds-started c.args.self.now.session c.args.request.now (reply_of c.args.reply.now) c.one.new.out c.answer_parked.new.out c.requires.unparked c.in_ok-one.ensures.holds) c.answer_parked.ensures.writes
