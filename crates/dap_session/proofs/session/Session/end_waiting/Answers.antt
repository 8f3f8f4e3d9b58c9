use Rattle.std.proofs.Common.{refl}
use Rattle.dap_session.specs.PrivateReplies.{reply_of}
use Rattle.dap_session.proofs.Disconnects.{terminal-made}
use Rattle.dap_session.proofs.session.Session.end_waiting.Goals as goal

pub returns-clause-made : goal.returns-clause-made
returns-clause-made g c =
    terminal-made c.args.self.now.session (reply_of c.args.reply.now) c.terminal_responses.new.out _ _ c.in_ok-terminal_responses.ensures.holds
    (rw (c.set_phase.ensures, c.commit_asked.ensures.session, c.start_phase.ensures) refl) refl
