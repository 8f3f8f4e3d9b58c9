use Rattle.std.proofs.Common.{◌≡◌, ℕ, List, ◌++◌, length, take, sym, ap, subst, ◌∙◌, arith, true≢false}
use Rattle.dap_channel.specs.Channel.{Gave, ReadFailed}
use Rattle.dap_connection.specs.ConnectionState.{ConnectionState}
use Rattle.dap_connection.specs.Connection.{StepFails}
use Rattle.dap_connection.specs.declared.fault.ConnectionFault.{ConnectionFault}
use Rattle.dap_connection.proofs.connection.Connection.read_more.Goals as goal

pub returns-clause-read : goal.returns-clause-read
returns-clause-read g c =
    let unread : c.extend_from_slice.new.self.items ≡ take c.in-Ok.n c.read.new.buf = c.in_default-extend_from_slice.ensures.items ∙ (ap (λ z. z ++ c.split_at.result.0.now) c.clear.ensures.items ∙ c.split_at.ensures.front) in
    record {
      none_left = c.requires.none;
      room = length c.read.new.buf;
      some_room = omega (arith, c.read.auto.buf);
      gave = subst (λ (z : List ℕ). g.C.Channel.goes c.args.self.now.wire.channel (Gave (length c.read.new.buf) z) c.read.new.self) (sym unread)
          (subst (λ (s : ConnectionState _). g.C.Channel.goes s.wire.channel (Gave (length c.read.new.buf) (take c.in-Ok.n c.read.new.buf)) c.read.new.self) c.self.view_is c.in-Ok.ensures.ok);
      client = ap (λ (s : ConnectionState _). s.wire.client) c.self.view_is;
      written = ap (λ (s : ConnectionState _). s.wire.written) c.self.view_is;
    }

pub returns-in-Err-clause-fails : goal.returns-in-Err-clause-fails
returns-in-Err-clause-fails g c =
    let closed = c.fail-in-Err.ensures.latches in
    subst (λ (f : ConnectionFault). StepFails g.C.Channel.goes c.args.self.now.wire f c.fail-in-Err.new.self.wire) (sym c.fail-in-Err.ensures.fault) (record {
      none_left = c.requires.none;
      room = length c.read.new.buf;
      some_room = omega (arith, c.read.auto.buf);
      bytes = take c.in-Ok.n c.read.new.buf;
      some_bytes = λ none. true≢false (sym (c.in-Err.ensures.succeeds (omega (arith, c.clear.ensures.len, ap length (c.split_at.ensures.front ∙ none)))));
      gave = subst (λ z. g.C.Channel.goes c.args.self.now.wire.channel (Gave (length c.read.new.buf) (take c.in-Ok.n c.read.new.buf)) z) (sym (ap (λ (s : ConnectionState _). s.wire.channel) closed))
          (subst (λ (s : ConnectionState _). g.C.Channel.goes s.wire.channel (Gave (length c.read.new.buf) (take c.in-Ok.n c.read.new.buf)) c.read.new.self) c.self.view_is c.in-Ok.ensures.ok);
      same = record {
        client = ap (λ (s : ConnectionState _). s.wire.client) closed ∙ ap (λ (s : ConnectionState _). s.wire.client) c.self.view_is;
        unread = ap (λ (s : ConnectionState _). s.wire.unread) closed ∙ (c.in-Err.ensures.items ∙ (c.clear.ensures.items ∙ sym c.requires.none));
        written = ap (λ (s : ConnectionState _). s.wire.written) closed ∙ ap (λ (s : ConnectionState _). s.wire.written) c.self.view_is;
      };
    })

pub returns-in_default-clause-fails : goal.returns-in_default-clause-fails
returns-in_default-clause-fails g c =
    let closed = c.fail.ensures.latches in
    subst (λ (f : ConnectionFault). StepFails g.C.Channel.goes c.args.self.now.wire f c.fail.new.self.wire) (sym c.fail.ensures.fault) (record {
      none_left = c.requires.none;
      failed = subst (λ z. g.C.Channel.goes c.args.self.now.wire.channel ReadFailed z) (sym (ap (λ (s : ConnectionState _). s.wire.channel) closed))
          (subst (λ (s : ConnectionState _). g.C.Channel.goes s.wire.channel ReadFailed c.read.new.self) c.self.view_is c.in_default.ensures.err);
      same = record {
        client = ap (λ (s : ConnectionState _). s.wire.client) closed ∙ ap (λ (s : ConnectionState _). s.wire.client) c.self.view_is;
        unread = ap (λ (s : ConnectionState _). s.wire.unread) closed ∙ ap (λ (s : ConnectionState _). s.wire.unread) c.self.view_is;
        written = ap (λ (s : ConnectionState _). s.wire.written) closed ∙ ap (λ (s : ConnectionState _). s.wire.written) c.self.view_is;
      };
    })
