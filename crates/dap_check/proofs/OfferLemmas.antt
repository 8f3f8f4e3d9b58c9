-- What the adapter offers, one line later.
use Rattle.std.proofs.Common.{◌≡◌, List, [], ◌∷◌, ◌++◌, Bool, true, false, Option, Some, None, refl, sym, ap, ◌∙◌}
use Rattle.std.specs.Prelude.{option_map}
use Rattle.std.proofs.lemmas.List.Sums.{fold_push}
use Rattle.dap_command.specs.Capabilities.{offered_by}
use Rattle.dap_check.specs.Since.{last_since, Past}
use Rattle.dap_check.specs.Lines.{succeeds, body_of}
use Rattle.dap_check.specs.Rules.{offered_since, after_line, initialize}
use Rattle.dap_check.specs.Kept.{IsOffered, offer_after}
use Rattle.dap_check.specs.declared.line.Line.{Line}
use Rattle.dap_check.specs.declared.offer.Offer.{Offer}
use Rattle.dap_check.specs.SinceLaws.{last_push, last_later}

pub one_later : (b : Bool) (line : Line) (last : Option (Past Line)) → option_map offered_since (last_later b line last) ≡ offer_after b line (option_map offered_since last)
one_later true line last = refl
one_later false line None = refl
one_later false line (Some past) = ap Some (fold_push after_line (offered_by (body_of past.line.message.kind)) past.since line)

pub offered_later : (old new : Offer) (line : Line) (earlier : List Line) → new.capabilities ≡ offer_after (succeeds initialize line) line old.capabilities → IsOffered old earlier → IsOffered new (earlier ++ line ∷ [])
offered_later old new line earlier e is = record {
  capabilities = e ∙ ap (offer_after (succeeds initialize line) line) is.capabilities ∙ sym (one_later (succeeds initialize line) line (last_since (succeeds initialize) earlier)) ∙ sym (ap (option_map offered_since) (last_push (succeeds initialize) earlier line));
}
