use Rattle.std.proofs.Common.{◌∙◌, ap}
use Rattle.serde_json.specs.Find.{get_member}
use Rattle.serde_json.specs.View.{members_view}
use Rattle.serde_json.proofs.Views.{view-Object}
use Rattle.dap_json.specs.Field.{unless_null}
use Rattle.dap_json.proofs.field.take_tree.Goals as goal

pub returns-in-Object-clause-value : goal.returns-in-Object-clause-value
returns-in-Object-clause-value c = rw (c.in-Object.is, view-Object) (c.take_tree.ensures.value ∙ ap (λ m. unless_null (get_member c.args.key.now (members_view m.entries))) c.in-Object.members-is)
