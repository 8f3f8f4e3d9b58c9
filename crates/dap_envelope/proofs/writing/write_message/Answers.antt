use Rattle.std.proofs.Common.{◌≡◌, ◌≤◌, Some, arith, ◌∙◌, ap}
use Rattle.std.proofs.lemmas.Result.{IfOk-weaker}
use Rattle.serde_json.specs.Data.{object, depth}
use Rattle.serde_json.specs.Read.{max_depth}
use Rattle.serde_json.specs.View.{view}
use Rattle.serde_json.specs.Written.{has_float, compact_text}
use Rattle.serde_json.specs.declared.value.Value.{Object}
use Rattle.serde_json.proofs.Views.{view-Object}
use Rattle.dap_envelope.specs.Canon.{tree_of, canon}
use Rattle.dap_envelope.proofs.MeaningLemmas.{MeansMessage-envelope_of}
use Rattle.dap_envelope.proofs.RoundTrip.{envelope_of-tree_of, has_float-tree_of, depth-tree_of}
use Rattle.dap_envelope.proofs.writing.write_message.Goals as goal

pub returns-clause-canon : goal.returns-clause-canon
unfolding canon tree_of
returns-clause-canon c =
    let seen : view (Object c.in_ok-members.field-0) ≡ tree_of c.args.message.now = view-Object c.in_ok-members.field-0 ∙ ap object c.in_ok-members.ensures in
    let floats = ap has_float seen ∙ has_float-tree_of c.args.message.now c.requires in
    IfOk-weaker c.write.result _ _ (λ b text. text floats ∙ ap compact_text seen) c.write.ensures.text

pub returns-clause-reads_back : goal.returns-clause-reads_back
unfolding tree_of
returns-clause-reads_back c =
    let m = c.args.message.now in
    let seen : view (Object c.in_ok-members.field-0) ≡ tree_of m = view-Object c.in_ok-members.field-0 ∙ ap object c.in_ok-members.ensures in
    let bounded : depth (view (Object c.in_ok-members.field-0)) ≤ max_depth = omega (arith, ap depth seen, depth-tree_of m c.requires) in
    let says = MeansMessage-envelope_of (tree_of m) m (envelope_of-tree_of m c.requires) in
    IfOk-weaker c.write.result _ _ (λ b back. record { value = tree_of m; is_json = back bounded ∙ ap Some seen; says = says }) c.write.ensures.reads_back
