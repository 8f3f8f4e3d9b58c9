use Rattle.std.proofs.Common.{◌++◌, drop, arith}
use Rattle.serde_json.specs.View.{items_view}
use Rattle.dap_recording.specs.Reading.{untold_of}
use Rattle.dap_recording.proofs.Untold.{all_untold}
use Rattle.dap_recording.proofs.rows.add_untold.Goals as goal

pub returns : goal.returns
returns c =
    let l = c.loop-i in
    all_untold l.untold.items (c.args.untold.now.items ++ untold_of (items_view c.args.items.now) c.args.scopes.now) (items_view (drop l.i c.args.items.now)) c.args.scopes.now l.i (omega (arith, c.loop-i-test.false)) l.invariant
