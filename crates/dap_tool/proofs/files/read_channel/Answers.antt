use Rattle.std.proofs.Common.{◌≡◌, ◌++◌, take, ap, refl, arith}
use Rattle.std.proofs.lemmas.Grind.{common_steps}
use Rattle.dap_tool.proofs.WholeFiles.{one_more, fails, ends, no_memory}
use Rattle.dap_tool.proofs.files.read_channel.Goals as goal

pub returns-in_default : goal.returns-in_default
returns-in_default g c = fails g.C.Channel.goes _ _ _ _ c.loop-buffer.invariant (omega arith) c.in_default.ensures.err

pub returns-then-n-eq0 : goal.returns-then-n-eq0
returns-then-n-eq0 g c =
    ends g.C.Channel.goes _ _ _ c.loop-buffer.bytes _ _ c.loop-buffer.invariant (omega arith) (omega (arith, c.read.auto.buf)) (omega (arith, c.read.auto.buf)) (ap (λ j. take j c.read.new.buf) c.if-n-eq0.true)
    c.in-Ok.ensures.ok

pub returns-then-is_err : goal.returns-then-is_err
returns-then-is_err g c =
    no_memory g.C.Channel.goes _ _ _ (one_more g.C.Channel.goes _ _ _ c.loop-buffer.bytes.items _ c.in-Ok.n c.read.new.buf c.loop-buffer.invariant (omega arith) (omega (arith, c.read.auto.buf)) (omega (arith, c.read.auto.buf)) refl (omega (arith, c.if-n-eq0.false)) (omega (arith, c.in-Ok.ensures.bound)) c.in-Ok.ensures.ok)

pub loop-buffer-preserved : goal.loop-buffer-preserved
loop-buffer-preserved g c =
    let grown : c.extend_from_slice.new.self.items ≡ c.loop-buffer.bytes.items ++ take c.in-Ok.n c.read.new.buf = grind (arith, common_steps, c.extend_from_slice.ensures.items, c.is_err.ensures.value, c.if-is_err.false, c.split_at.ensures.front) in
    rw grown (one_more g.C.Channel.goes _ _ _ c.loop-buffer.bytes.items _ c.in-Ok.n c.read.new.buf c.loop-buffer.invariant (omega arith) (omega (arith, c.read.auto.buf)) (omega (arith, c.read.auto.buf)) refl (omega (arith, c.if-n-eq0.false)) (omega (arith, c.in-Ok.ensures.bound)) c.in-Ok.ensures.ok)
