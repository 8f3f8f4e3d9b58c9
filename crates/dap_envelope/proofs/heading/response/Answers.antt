use Rattle.std.proofs.Common.{codes, sym, refl}
use Rattle.serde_json.specs.Data.{object}
use Rattle.dap_json.specs.Field.{tree_at}
use Rattle.dap_envelope.specs.declared.message.Kind.TheVariants.{Response}
use Rattle.dap_envelope.proofs.heading.response.Goals as goal

pub returns : goal.returns
returns c = λ ms all typed.
    let named = c.in_ok-command.ensures _ all.command in
    let reason = c.if-not-is_text_or_absent.ensures refl _ all.message in (
      Response c.in_ok-request_seq.request_seq c.in_ok-success.success c.in_ok-command.command.now reason.0 (tree_at (codes "body") (object ms)),
      (typed, named.0, named.1, sym (c.in_ok-request_seq.ensures _ all.request_seq), sym (c.in_ok-success.ensures _ all.success), reason.1, refl),
      (refl, refl, refl),
    )
