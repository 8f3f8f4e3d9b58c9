use Rattle.std.proofs.Common.{◌≡◌, ◌∷◌, ◌++◌, ◌<◌, Some, None, take, drop, length, ap, ◌∙◌, arith}
use Rattle.std.specs.Prelude.{decimal}
use Rattle.dap_adapter.proofs.BodyLemmas.{ends_at, long, digits_there, rest_there, cut_in_two}
use Rattle.dap_adapter.proofs.bodies.split_digits.Goals as goal

pub returns-in_err-end-clause-split : goal.returns-in_err-end-clause-split
returns-in_err-end-clause-split c n rest small is =
    let value : c.in_ok-value.value.now ≡ decimal n ++ 13 ∷ rest = c.in_ok-value.ensures.cases.1 ∙ ap (drop 16) is in
    let found : c.memchr.result ≡ Some (length (decimal n)) = ends_at n rest c.in_ok-value.value.now small value c.memchr.result c.memchr.ensures in
    let none : c.memchr.result ≡ None = c.in_err-end.was in
    let never : ⊥ = cc in
    absurd never

pub returns-clause-split : goal.returns-clause-split
returns-clause-split c n rest small is =
    let text = c.in_ok-value.value.now in
    let value : text ≡ decimal n ++ 13 ∷ rest = c.in_ok-value.ensures.cases.1 ∙ ap (drop 16) is in
    let found : c.memchr.result ≡ Some (length (decimal n)) = ends_at n rest text small value c.memchr.result c.memchr.ensures in
    let here : c.memchr.result ≡ Some c.in_ok-end.end = c.in_ok-end.was in
    let at : c.in_ok-end.end ≡ length (decimal n) = cc in
    let some : length (decimal n) < length text = long n rest text small value in
    let first : take c.in_ok-end.end text ≡ decimal n = ap (λ k. take k text) at ∙ digits_there n rest text small value in
    let second : drop c.in_ok-end.end text ≡ 13 ∷ rest = ap (λ k. drop k text) at ∙ rest_there n rest text small value in
    cut_in_two c.split_at_checked.result (λ p. p.0.now) (λ p. p.1.now) text (decimal n) (13 ∷ rest) c.in_ok-end.end (omega (arith, at, some)) first second c.split_at_checked.ensures.cases
