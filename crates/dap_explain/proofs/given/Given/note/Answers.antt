use Rattle.std.proofs.Common.{◌≡◌, length, ap, arith}
use Rattle.dap_explain.proofs.GivenLemmas.{given_by}
use Rattle.dap_explain.proofs.Outcomes.{on_two}
use Rattle.dap_explain.proofs.given.Given.note.Goals as goal

pub returns : goal.returns
returns c =
    let line = c.args.line.now in
    let count : c.len.result ≡ length c.resume.new.self.resumptions.items = omega (arith, c.len.ensures, c.resume.new.self.resumptions.ok) in
    on_two c.add.result _ _ _ c.add.ensures.frames c.add.ensures.holders
    (λ frames holders earlier is.
    given_by c.args.self.now c.resume.new.self c.add.new.self line earlier (record { opened = record { line = line.number; seq = line.message.seq }; resumptions = c.len.result }) c.in_ok-resume.ensures.resumptions c.in_ok-resume.ensures.frames c.in_ok-resume.ensures.holders
    (ap (λ xs. xs.items) c.add.ensures.resumptions) (ap (λ n. record { opened = record { line = line.number; seq = line.message.seq }; resumptions = n }) count) frames holders is)
