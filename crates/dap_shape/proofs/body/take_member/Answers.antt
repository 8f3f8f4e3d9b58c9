use Rattle.std.proofs.Common.{◌≡◌, ◌++◌, [], codes, ap, ◌∙◌, refl}
use Rattle.std.specs.List.{cons_option}
use Rattle.serde_json.specs.Data.{array}
use Rattle.dap_json.specs.Inside.{if_within, whole_of}
use Rattle.dap_command.proofs.GatheredLemmas.{all_stay, with_frames, with_scopes, with_variables, with_own}
use Rattle.dap_shape.proofs.SoundLemmas.{on_ok}
use Rattle.dap_shape.proofs.body.take_member.Goals as goal

pub returns-in_ok-member-in-Nothing-clause-ok : goal.returns-in_ok-member-in-Nothing-clause-ok
returns-in_ok-member-in-Nothing-clause-ok c =
    let so = c.in_ok-member-in-Nothing.ensures.ok in
    (so.0, so.1, (λ found are. all_stay c.args.given.now c.args.given.now found are c.args.name.now so.0 c.in-Nothing.ensures (λ objects. refl)), so.3)

pub returns-in-Frames-clause-ok : goal.returns-in-Frames-clause-ok
returns-in-Frames-clause-ok c =
    let at = c.in-Frames.ensures in
    let same : c.args.name.now ≡ codes "stackFrames" = cc in
    on_ok c.list_of_row.result _ _ (λ so. (array so.0, so.1, (λ found are. rw same (with_frames c.args.given.now _ found are so.0 so.2 refl refl refl)), so.3)) c.list_of_row.ensures.ok

pub returns-in-Scopes-clause-ok : goal.returns-in-Scopes-clause-ok
returns-in-Scopes-clause-ok c =
    let at = c.in-Scopes.ensures in
    let same : c.args.name.now ≡ codes "scopes" = cc in
    on_ok c.list_of_row-in-Scopes.result _ _ (λ so. (array so.0, so.1, (λ found are. rw same (with_scopes c.args.given.now _ found are so.0 so.2 refl refl refl)), so.3)) c.list_of_row-in-Scopes.ensures.ok

pub returns-in-Variables-clause-ok : goal.returns-in-Variables-clause-ok
returns-in-Variables-clause-ok c =
    let at = c.in-Variables.ensures in
    let same : c.args.name.now ≡ codes "variables" = cc in
    on_ok c.list_of_row-in-Variables.result _ _ (λ so. (array so.0, so.1, (λ found are. rw same (with_variables c.args.given.now _ found are so.0 so.2 refl refl refl)), so.3)) c.list_of_row-in-Variables.ensures.ok

pub returns-in_ok-passed-in-Value-clause-ok : goal.returns-in_ok-passed-in-Value-clause-ok
returns-in_ok-passed-in-Value-clause-ok c =
    let at = c.in-Value.ensures in
    let same : c.args.name.now ≡ codes "variablesReference" = cc in
    let so = c.in_ok-passed-in-Value.ensures.ok in
    on_ok c.keep.result _ _ (λ kept.
    let within = ap (λ least. cons_option (if_within least c.range.result.most (whole_of so.0)) []) c.range.ensures.least ∙ ap (λ most. cons_option (if_within 1 most (whole_of so.0)) []) c.range.ensures.most in
    let is = kept ∙ ap (λ x. c.clear.new.self.items ++ cons_option (if_within c.range.result.least c.range.result.most x) []) (c.whole.ensures so.0 so.2) ∙ ap (λ xs. xs ++ cons_option (if_within c.range.result.least c.range.result.most (whole_of so.0)) []) c.clear.ensures.items ∙ within in
    (so.0, so.1, (λ found are. rw same (with_own c.args.given.now _ found are so.0 is refl refl refl)), so.3)) c.keep.ensures
