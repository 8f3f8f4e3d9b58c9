use Rattle.std.proofs.Common.{◌≡◌, ◌-◌, length, take, drop, false, nat_eq, [], ◌∷◌, add-one, sym, ap, ◌∙◌, arith, length-drop}
use Rattle.std.proofs.lemmas.List.{take_all}
use Rattle.std.specs.List.{starts_with}
use Rattle.dap_reason.proofs.Blank.{goes_on}
use Rattle.dap_reason.proofs.excerpt.until_blank.Goals as goal

pub loop-i-preserved : goal.loop-i-preserved
loop-i-preserved c =
    let bytes = c.args.bytes.now in
    let i = c.loop-i.i in
    let whole : take (length bytes - i) (drop i bytes) ≡ drop i bytes = take_all (length bytes - i) (drop i bytes) (omega (arith, length-drop i bytes)) in
    let before : starts_with nat_eq (drop i bytes) (13 ∷ 10 ∷ 13 ∷ 10 ∷ []) ≡ false = ap (λ z. starts_with nat_eq z (13 ∷ 10 ∷ 13 ∷ 10 ∷ [])) (sym whole) ∙ sym c.if-starts_with.ensures.value in
    rw add-one (goes_on bytes i c.loop-i-test.true before c.loop-i.invariant)
