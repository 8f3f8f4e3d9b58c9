use Rattle.std.proofs.Common.{List, ℕ, refl, subst}
use Rattle.dap_envelope.specs.Meaning.{Msg}
use Rattle.dap_check.proofs.Outcomes.{if_ok}
use Rattle.dap_check.proofs.ReadLines.{if_unread}
use Rattle.dap_check.proofs.reading.read_in.Goals as goal

pub returns-in-Some-clause-line : goal.returns-in-Some-clause-line
returns-in-Some-clause-line c =
    if_ok c.line_of.result _ _ c.line_of.ensures.line (λ read is.
    let P : List ℕ → Type 0 = λ body. Msg body is.message in (
      record { number = c.args.number; side = c.in-Some.side; message = is.message },
      record { numbered = refl; side = c.in-Some.ensures.0; message = subst P c.in-Some.ensures.1 is.means },
      is.is_of.like,
      is.is_of.sound,
    ))

pub returns-in-Some-clause-refused : goal.returns-in-Some-clause-refused
returns-in-Some-clause-refused c = if_unread c.args.number c.args.text.now c.in-Some.body.now c.in-Some.side c.in-Some.ensures.0 c.in-Some.ensures.1 c.line_of.result c.line_of.ensures.refused
