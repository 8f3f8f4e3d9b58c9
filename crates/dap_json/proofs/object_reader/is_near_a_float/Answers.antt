use Rattle.std.proofs.Common.{true, refl, ◌≡◌, rules}
use Rattle.std.specs.Float.{binary64, float_is_finite}
use Rattle.fast_float.specs.Text.{nearest}
use Rattle.dap_json.proofs.object_reader.is_near_a_float.Goals as goal

pub returns : goal.returns
returns c = λ is.
    let x = nearest binary64 c.args.negative c.args.numeral.now in
    let fits : float_is_finite x ≡ true = search rules in
    (x, rw fits refl)
