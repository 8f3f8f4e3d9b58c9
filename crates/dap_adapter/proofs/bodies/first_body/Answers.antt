use Rattle.std.proofs.Common.{◌≡◌, ◌∷◌, ◌++◌, ◌<◌, ◌^◌, Some, None, take, drop, length, ap, ap₂, ◌∙◌, length-append, arith}
use Rattle.std.specs.Prelude.{decimal}
use Rattle.std.proofs.Math.Seq.{drop-append_seam}
use Rattle.dap_adapter.proofs.BodyLemmas.{framed, body_within, body_there, cut_in_two}
use Rattle.dap_adapter.proofs.bodies.first_body.Goals as goal

pub returns-in_err-digits-clause-first : goal.returns-in_err-digits-clause-first
returns-in_err-digits-clause-first c body rest is =
    let small : length body < 2 ^ 64 = omega (arith, body_within c.args.frames.now body rest is) in
    absurd (c.in_err-digits.ensures.split (length body) (10 ∷ 13 ∷ 10 ∷ (body ++ rest)) small (framed c.args.frames.now body rest is))

pub returns-in_err-len-clause-first : goal.returns-in_err-len-clause-first
returns-in_err-len-clause-first c body rest is =
    let small : length body < 2 ^ 64 = omega (arith, body_within c.args.frames.now body rest is) in
    let split = c.in_ok-digits.ensures.split (length body) (10 ∷ 13 ∷ 10 ∷ (body ++ rest)) small (framed c.args.frames.now body rest is) in
    let read : c.number.result ≡ Some (length body) = c.number.ensures (length body) small split.0 in
    let none : c.number.result ≡ None = c.in_err-len.was in
    let never : ⊥ = cc in
    absurd never

pub returns-in_err-_blank_line-clause-first : goal.returns-in_err-_blank_line-clause-first
returns-in_err-_blank_line-clause-first c body rest is =
    let small : length body < 2 ^ 64 = omega (arith, body_within c.args.frames.now body rest is) in
    let split : (c.in_ok-digits.digits.now ≡ decimal (length body)) × (c.in_ok-digits.behind.now ≡ 13 ∷ 10 ∷ 13 ∷ 10 ∷ (body ++ rest)) = c.in_ok-digits.ensures.split (length body) (10 ∷ 13 ∷ 10 ∷ (body ++ rest)) small (framed c.args.frames.now body rest is) in
    absurd (omega (arith, ap length split.1, c.in_err-_blank_line.ensures.cases))

pub returns-clause-first : goal.returns-clause-first
returns-clause-first c body rest is =
    let small : length body < 2 ^ 64 = omega (arith, body_within c.args.frames.now body rest is) in
    let split : (c.in_ok-digits.digits.now ≡ decimal (length body)) × (c.in_ok-digits.behind.now ≡ 13 ∷ 10 ∷ 13 ∷ 10 ∷ (body ++ rest)) = c.in_ok-digits.ensures.split (length body) (10 ∷ 13 ∷ 10 ∷ (body ++ rest)) small (framed c.args.frames.now body rest is) in
    let read : c.number.result ≡ Some (length body) = c.number.ensures (length body) small split.0 in
    let here : c.number.result ≡ Some c.in_ok-len.len = c.in_ok-len.was in
    let at : c.in_ok-len.len ≡ length body = cc in
    let behind : c.in_ok-_blank_line.rest.now ≡ body ++ rest = c.in_ok-_blank_line.ensures.cases.2 ∙ ap (drop 4) split.1 in
    let first : take c.in_ok-len.len c.in_ok-_blank_line.rest.now ≡ body = ap₂ take at behind ∙ body_there body rest in
    let second : drop c.in_ok-len.len c.in_ok-_blank_line.rest.now ≡ rest = ap₂ drop at behind ∙ drop-append_seam body rest in
    cut_in_two c.split_at_checked-2.result (λ p. p.0.now) (λ p. p.1.now) c.in_ok-_blank_line.rest.now body rest c.in_ok-len.len (omega (arith, at, ap length behind, length-append body rest)) first second c.split_at_checked-2.ensures.cases
