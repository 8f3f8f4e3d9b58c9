use Rattle.std.proofs.Common.{◌≡◌, ◌==◌, ◌<◌, ◌^◌, true, false, drop, slice_index, sym, ap, ◌∙◌, arith, take_all, length-drop, subst, refl, Some}
use Rattle.fast_float.specs.Text.{scan, digits_of, IsInteger}
use Rattle.serde_json.specs.Data.{unsigned, float}
use Rattle.serde_json.specs.Read.{number_of, float_of}
use Rattle.dap_json.proofs.ObjectReaderLemmas.{below_zero, is_unsigned, is_float}
use Rattle.dap_json.proofs.object_reader.any_number.Goals as goal

pub returns-then-is_near_a_float : goal.returns-then-is_near_a_float
returns-then-is_near_a_float c =
    let s = c.as_bytes-bytes.result.now in
    let signed : (slice_index s 0 == 45) ≡ true = sym c.if-has_minus.ensures.value in
    let parts : c.scan.result ≡ scan (drop 1 s) = c.scan.ensures.parts ∙ ap scan (take_all _ (drop 1 s) (omega (arith, length-drop 1 s))) in
    let near = c.if-is_near_a_float.ensures refl in
    let n = below_zero s near.0 signed (ap (float_of true) (sym parts) ∙ near.1) in
    (n.0, ap number_of (sym c.as_bytes-bytes.ensures.value) ∙ n.1, n.2)

pub returns-in-Some : goal.returns-in-Some
returns-in-Some c =
    let s = c.as_bytes-bytes.result.now in
    let plain : (slice_index s 0 == 45) ≡ false = sym c.if-has_minus.ensures.value in
    let parts : c.scan-numeral.result ≡ scan s = c.scan-numeral.ensures.parts in
    let is = c.in-Some.ensures in
    (unsigned c.in-Some.n, ap number_of (sym c.as_bytes-bytes.ensures.value) ∙ is_unsigned s plain (subst IsInteger parts is.0.0) (subst (λ p. digits_of p < 2 ^ 64) parts is.0.1) ∙ ap (λ k. Some (unsigned k)) (ap digits_of (sym parts) ∙ sym is.1), refl)

pub returns-then-is_near_a_float-2 : goal.returns-then-is_near_a_float-2
returns-then-is_near_a_float-2 c =
    let s = c.as_bytes-bytes.result.now in
    let plain : (slice_index s 0 == 45) ≡ false = sym c.if-has_minus.ensures.value in
    let parts : c.scan-numeral.result ≡ scan s = c.scan-numeral.ensures.parts in
    let near = c.if-is_near_a_float-2.ensures refl in
    (float near.0, ap number_of (sym c.as_bytes-bytes.ensures.value) ∙ is_float s near.0 plain (λ h. c.in_default.ensures (subst IsInteger (sym parts) h.0, subst (λ p. digits_of p < 2 ^ 64) (sym parts) h.1)) (ap (float_of false) (sym parts) ∙ near.1), tt)
