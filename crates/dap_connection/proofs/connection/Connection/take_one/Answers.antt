use Rattle.std.proofs.Common.{◌≡◌, ◌<◌, ◌+◌, ℕ, List, drop, length, sym, ap, subst, ◌∙◌, arith}
use Rattle.dap_channel.specs.Sent.{Sends, saturating_count}
use Rattle.dap_connection.specs.Connection.{StepFails}
use Rattle.dap_connection.specs.ConnectionState.{ConnectionState}
use Rattle.dap_connection.specs.declared.fault.ConnectionFault.{ConnectionFault}
use Rattle.dap_connection.proofs.Hearing.{cut_is, takes_moved, short_moved}
use Rattle.dap_connection.proofs.connection.Connection.take_one.Goals as goal

pub returns-in-Ok-write-clause-took : goal.returns-in-Ok-write-clause-took
returns-in-Ok-write-clause-took g c =
    let unread : c.split_at.result.1.now ≡ c.args.self.now.wire.unread = c.split_at.ensures.back ∙ (ap (λ (z : List ℕ). drop c.self.inside.at z) c.deref.ensures.value ∙ ap (λ (s : ConnectionState _). s.wire.unread) c.self.view_is) in
    let some : 0 < length c.split_at.result.1.now = omega (arith, c.requires.some, ap length unread) in
    let t = c.in-Ok.ensures.gives some in
    let all : c.len.result ≡ length c.self.inside.read.items = omega (arith, c.len.ensures, c.self.inside.read.ok) in
    let left = cut_is c.self.inside.at t.got.used c.len.result c.self.inside.read.items c.split_at.result.1.now c.next.new.piece.now all (c.split_at.ensures.back ∙ ap (λ (z : List ℕ). drop c.self.inside.at z) c.deref.ensures.value) t.left_is in
    record {
      out = c.next.new.out.items;
      takes = takes_moved _ _ _ _ _ _ _ _ _ _ _ (ap (λ (s : ConnectionState _). s.wire.client) c.self.view_is) unread c.new-out.ensures.items (sym c.in-Ok-write.ensures.same.0) (sym (c.in-Ok-write.ensures.same.1 ∙ left)) t;
      sends = subst (λ (z : List ℕ). Sends g.C.Channel.goes c.args.self.now.wire.channel c.write.new.self.wire.channel z) c.deref-2.ensures.value
          (subst (λ (s : ConnectionState _). Sends g.C.Channel.goes s.wire.channel c.write.new.self.wire.channel c.deref-2.result.now) c.self.view_is c.in-Ok-write.ensures.sent);
      written = c.in-Ok-write.ensures.written
          ∙ (ap (λ (z : List ℕ). saturating_count (c.self.inside.written + length z)) c.deref-2.ensures.value
          ∙ ap (λ (s : ConnectionState _). saturating_count (s.wire.written + length c.next.new.out.items)) c.self.view_is);
    }

pub returns-clause-fails : goal.returns-clause-fails
returns-clause-fails g c = λ is_open.
    let unread : c.split_at.result.1.now ≡ c.args.self.now.wire.unread = c.split_at.ensures.back ∙ (ap (λ (z : List ℕ). drop c.self.inside.at z) c.deref.ensures.value ∙ ap (λ (s : ConnectionState _). s.wire.unread) c.self.view_is) in
    let some : 0 < length c.split_at.result.1.now = omega (arith, c.requires.some, ap length unread) in
    let t = c.in-Ok.ensures.gives some in
    let all : c.len.result ≡ length c.self.inside.read.items = omega (arith, c.len.ensures, c.self.inside.read.ok) in
    let left = cut_is c.self.inside.at t.got.used c.len.result c.self.inside.read.items c.split_at.result.1.now c.next.new.piece.now all (c.split_at.ensures.back ∙ ap (λ (z : List ℕ). drop c.self.inside.at z) c.deref.ensures.value) t.left_is in
    let fails = c.in-Err-write.ensures.short in
    subst (λ (f : ConnectionFault). StepFails g.C.Channel.goes c.args.self.now.wire f c.write.new.self.wire) (sym fails.is) (record {
      message = c.in-Ok.message;
      out = c.next.new.out.items;
      takes = takes_moved _ _ _ _ _ _ _ _ _ _ _ (ap (λ (s : ConnectionState _). s.wire.client) c.self.view_is) unread c.new-out.ensures.items (sym c.in-Err-write.ensures.same.0) (sym (c.in-Err-write.ensures.same.1 ∙ left)) t;
      short = short_moved g.C.Channel.goes _ c.args.self.now.wire c.deref-2.result.now c.next.new.out.items fails.total c.write.new.self.wire.channel
          (ap (λ (s : ConnectionState _). s.wire.channel) c.self.view_is) (ap (λ (s : ConnectionState _). s.wire.written) c.self.view_is) c.deref-2.ensures.value fails.short;
      written = fails.written ∙ ap (λ (s : ConnectionState _). s.wire.written) c.self.view_is;
    })
