use Rattle.std.proofs.Common.{ℕ, List, ◌++◌, take, option_to_list, subst}
use Rattle.dap_envelope.specs.declared.message.Message.{Message}
use Rattle.dap_reader.proofs.Reading.{gives_stands, none_met}
use Rattle.dap_reader.specs.Reader.{Reader, IsRefused, StandsFor}
use Rattle.dap_reader.proofs.reader.MessageReader.next.Goals as goal

pub returns-in-Ok-clause-stands : goal.returns-in-Ok-clause-stands
returns-in-Ok-clause-stands c =
    let old : Reader = record { intake = c.self.inside.frames; fault = c.self.inside.fault } in
    let new : Reader = record { intake = c.read_next.new.frames; fault = c.self.inside.fault } in
    subst (λ (x : Reader). (s : List ℕ) (ms : List Message) → StandsFor x s ms → StandsFor new (s ++ take c.in-Ok.next.used c.args.piece.now) (ms ++ option_to_list c.in-Ok.next.message)) c.self.view_is
    (gives_stands c.histories_grow.ensures old new c.args.piece.now c.in-Ok.next.used c.in-Ok.next.message (none_met c.self.inside.fault c.in_default.not-Some) c.in-Ok.ensures.gives)

pub returns-in-Err-clause-refused : goal.returns-in-Err-clause-refused
returns-in-Err-clause-refused c = λ _. subst (λ (x : Reader). IsRefused x.intake c.args.piece.now c.in-Err.fault) c.self.view_is c.in-Err.ensures.refused
