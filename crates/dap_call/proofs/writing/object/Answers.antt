use Rattle.std.proofs.Common.{◌≡◌, length, List, [], ◌∷◌, String, Global, Some, true≢false, sym, refl, ap, ◌∙◌}
use Rattle.serde_json.specs.Data.{object}
use Rattle.serde_json.specs.View.{members_view}
use Rattle.serde_json.proofs.Views.{view-Object}
use Rattle.serde_json.specs.declared.value.Value.{Value}
use Rattle.dap_call.specs.CallTree.{if_any}
use Rattle.dap_call.proofs.writing.object.Goals as goal

some_of : (entries : List (String Global × Value)) → (length entries ≡ 0 → ⊥) → Some (object (members_view entries)) ≡ if_any (members_view entries)
some_of [] some = absurd (some refl)
some_of (e ∷ es) some = refl

pub returns-else-is_empty : goal.returns-else-is_empty
returns-else-is_empty c = ap (λ d. Some d) (view-Object c.args.members) ∙ some_of c.args.members.entries (λ none. true≢false (sym (c.if-is_empty.ensures.1 none)))
