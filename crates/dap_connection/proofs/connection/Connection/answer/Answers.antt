use Rattle.std.proofs.Common.{Some, sym, ap, subst, ◌∙◌}
use Rattle.dap_client.specs.ClientState.{ClientState}
use Rattle.dap_client.specs.TerminalResponse.{terminal_response_bytes, after_terminal_response}
use Rattle.dap_connection.specs.Connection.{AnswerFails, StaysOrCloses}
use Rattle.dap_connection.specs.ConnectionState.{ConnectionState}
use Rattle.dap_connection.specs.declared.fault.ConnectionFault.{ConnectionFault}
use Rattle.dap_connection.proofs.Hearing.{short_moved}
use Rattle.dap_connection.proofs.connection.Connection.answer.Goals as goal

pub returns-clause-fails : goal.returns-clause-fails
returns-clause-fails g c = λ is_open.
    let fails = c.in-Err-write.ensures.short in
    let now = c.write.new.self.wire in
    subst (λ (f : ConnectionFault). AnswerFails g.C.Channel.goes c.args.self.now c.args.request_seq c.args.terminal f c.write.new.self) (sym fails.is) (
      record {
        client = c.in-Err-write.ensures.same.0 ∙ (c.in-Ok.ensures.session ∙ ap (λ (s : ConnectionState _). let k : ClientState = s.wire.client in record k { session = after_terminal_response c.args.request_seq k.session }) c.self.view_is);
        short = short_moved g.C.Channel.goes _ c.args.self.now.wire c.deref.result.now (terminal_response_bytes c.args.self.now.wire.client.session c.args.request_seq c.args.terminal) fails.total now.channel
            (ap (λ (s : ConnectionState _). s.wire.channel) c.self.view_is) (ap (λ (s : ConnectionState _). s.wire.written) c.self.view_is)
            (c.deref.ensures.value ∙ (c.in-Ok.ensures.bytes ∙ ap (λ (s : ConnectionState _). terminal_response_bytes s.wire.client.session c.args.request_seq c.args.terminal) c.self.view_is)) fails.short;
        unread = c.in-Err-write.ensures.same.1 ∙ ap (λ (s : ConnectionState _). s.wire.unread) c.self.view_is;
        written = fails.written ∙ ap (λ (s : ConnectionState _). s.wire.written) c.self.view_is;
      },
      c.in-Err-write.ensures.same.2 ∙ ap (λ (s : ConnectionState _). s.passed) c.self.view_is,
    )

pub returns-clause-closes : goal.returns-clause-closes
returns-clause-closes g c =
    let fails = c.in-Err-write.ensures.short in
    subst (λ (f : ConnectionFault). StaysOrCloses c.args.self.now f c.write.new.self) (sym fails.is) (c.in-Err-write.ensures.latches ∙ ap Some fails.is)
