use Rattle.serde_json.specs.View.{view, items_view}
use Rattle.dap_recording.proofs.IsRead.{rows_are_few}
use Rattle.dap_recording.proofs.rows.source_rows.Goals as goal

pub returns-clause-few : goal.returns-clause-few
returns-clause-few c = rows_are_few (view c.args.value.now) (items_view c.in_ok-items.items.now) c.in_ok-rows.rows.items c.in_ok-items.ensures c.in_ok-rows.ensures
