use Rattle.std.proofs.Common.{◌≡◌, ◌++◌, [], codes, ap, ◌∙◌, refl}
use Rattle.std.specs.List.{cons_option}
use Rattle.serde_json.specs.Data.{array}
use Rattle.dap_json.specs.Inside.{if_within, whole_of}
use Rattle.dap_command.proofs.GatheredLemmas.{all_stay, with_frames, with_scopes, with_variables, with_own}
use Rattle.dap_command.proofs.gathering.GatheredReferences.take_member.Goals as goal

pub returns-in_ok-pass_inner-in-Nothing : goal.returns-in_ok-pass_inner-in-Nothing
returns-in_ok-pass_inner-in-Nothing c =
    let got = c.in_ok-pass_inner-in-Nothing.ensures in
    (got.0, got.2, λ found are. all_stay c.args.self.now c.args.self.now found are c.args.key.now got.0 c.in-Nothing.ensures (λ objects. refl))

pub returns-in_ok-take_list-in-Frames : goal.returns-in_ok-take_list-in-Frames
returns-in_ok-take_list-in-Frames c =
    let got = c.in_ok-take_list-in-Frames.ensures in
    let at = c.in-Frames.ensures in
    let same : c.args.key.now ≡ codes "stackFrames" = cc in
    (array got.0, got.1, λ found are. rw same (with_frames c.args.self.now _ found are got.0 got.2 refl refl refl))

pub returns-in_ok-take_list-in-Scopes : goal.returns-in_ok-take_list-in-Scopes
returns-in_ok-take_list-in-Scopes c =
    let got = c.in_ok-take_list-in-Scopes.ensures in
    let at = c.in-Scopes.ensures in
    let same : c.args.key.now ≡ codes "scopes" = cc in
    (array got.0, got.1, λ found are. rw same (with_scopes c.args.self.now _ found are got.0 got.2 refl refl refl))

pub returns-in_ok-take_list-in-Variables : goal.returns-in_ok-take_list-in-Variables
returns-in_ok-take_list-in-Variables c =
    let got = c.in_ok-take_list-in-Variables.ensures in
    let at = c.in-Variables.ensures in
    let same : c.args.key.now ≡ codes "variables" = cc in
    (array got.0, got.1, λ found are. rw same (with_variables c.args.self.now _ found are got.0 got.2 refl refl refl))

pub returns-in_ok-number-in-Value : goal.returns-in_ok-number-in-Value
returns-in_ok-number-in-Value c =
    let got = c.in_ok-number-in-Value.ensures in
    let at = c.in-Value.ensures in
    let same : c.args.key.now ≡ codes "variablesReference" = cc in
    let within = ap (λ least. cons_option (if_within least c.range.result.most (whole_of got.0)) []) c.range.ensures.least ∙ ap (λ most. cons_option (if_within 1 most (whole_of got.0)) []) c.range.ensures.most in
    let is = got.2 ∙ ap (λ xs. xs ++ cons_option (if_within c.range.result.least c.range.result.most (whole_of got.0)) []) c.clear.ensures.items ∙ within in
    (got.0, got.1, λ found are. rw same (with_own c.args.self.now _ found are got.0 is refl refl refl))
