use Rattle.dap_session.specs.PrivateReplies.{reply_of}
use Rattle.dap_session.proofs.Disconnects.{room-terminal, holds-terminal}
use Rattle.dap_session.proofs.Outboxes.{each-done}
use Rattle.dap_session.proofs.session.Session.terminal_responses.Goals as goal

pub answer_parked-requires-clause-room : goal.answer_parked-requires-clause-room
answer_parked-requires-clause-room g c = room-terminal c.args.self.now.session c.args.out.now _ c.begin.ensures.holds c.begin.ensures.last c.requires.room

pub returns-clause-holds : goal.returns-clause-holds
returns-clause-holds g c =
    each-done c.answer_parked.result _ _ (holds-terminal c.args.self.now.session (reply_of c.args.reply.now) c.args.out.now c.answer_parked.new.out c.begin.ensures.holds) c.answer_parked.ensures.writes
