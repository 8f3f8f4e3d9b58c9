use Rattle.std.proofs.Common.{◌≡◌, Some, ◌<◌, length, false, arith, take_all, ap, sym, ◌∙◌, below_more, slice_index, ◌==◌}
use Rattle.std.proofs.lemmas.Bool.Decides.{nat_tests}
use Rattle.std.specs.Str.Parse.{digits_value}
use Rattle.serde_json.specs.Data.{unsigned}
use Rattle.dap_json.proofs.DigitsLemmas.{all_digits, one_more_digit, number_of-digits}
use Rattle.dap_json.proofs.digits.whole.Goals as goal

pub loop-byte-preserved : goal.loop-byte-preserved
loop-byte-preserved c = (
  one_more_digit c.args.text.now c.loop-byte.byte-index c.loop-byte.n (omega arith) c.loop-byte.invariant.0 (omega arith) (omega arith),
  below_more _ _ c.loop-byte.invariant.1 (omega arith, omega arith),
)

pub returns : goal.returns
returns c =
    let s = c.args.text.now in
    let all : c.loop-byte.byte-index ≡ length s = omega arith in
    let value : c.loop-byte.n ≡ digits_value 10 s = c.loop-byte.invariant.0 ∙ ap (digits_value 10) (take_all _ s (omega arith)) in
    let digits = all_digits s (λ k below. c.loop-byte.invariant.1 k (omega arith)) in
    let some : 0 < length s = grind (arith, nat_tests) in
    let first : (slice_index s 0 == 45) ≡ false = grind (arith, nat_tests, c.loop-byte.invariant.1 0 (omega arith)) in
    number_of-digits s digits some first (omega arith) ∙ ap (λ n. Some (unsigned n)) (sym value)
