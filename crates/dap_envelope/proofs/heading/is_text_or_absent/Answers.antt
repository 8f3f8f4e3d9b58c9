use Rattle.std.proofs.Common.{subst}
use Rattle.dap_json.specs.ObjectReader.{Describes}
use Rattle.dap_envelope.specs.Heading.{Notes}
use Rattle.dap_envelope.proofs.HeadingLemmas.{worded}
use Rattle.dap_envelope.proofs.heading.is_text_or_absent.Goals as goal

pub returns-in-Text : goal.returns-in-Text
returns-in-Text c = λ e found tells.
    worded c.in-Some.value c.in-Text.field-0.now found (λ d is. subst (λ v. Describes v d) c.in-Text.is is) (subst (λ n. Notes n found) c.in-Some.is tells)
