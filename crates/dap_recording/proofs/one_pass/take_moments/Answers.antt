use Rattle.std.proofs.Common.{rules, ◌≡◌, List, ◌∙◌, Ok, sym, ap}
use Rattle.serde_json.specs.Data.{array}
use Rattle.dap_recording.specs.Reading.{Numbered, none_numbered, moments_of}
use Rattle.dap_recording.specs.declared.recording.Moment.{Moment}
use Rattle.dap_recording.proofs.OnePassLemmas.{some_given, moments_taken}
use Rattle.dap_recording.proofs.one_pass.take_moments.Goals as goal

pub returns : goal.returns
returns c =
    let sources = c.in-Some.sources in
    let all = c.in_ok-moments.ensures.0 in
    let moments : List Moment × Numbered = (c.new.result, c.each_moment.new.numbers) in
    let read : moments_of sources all none_numbered ≡ Ok moments =
    ap (λ ss. moments_of ss all none_numbered) (sym c.as_slice.ensures)
    ∙ ap (λ s. moments_of c.as_slice.result.now all s) (sym c.new-numbers.ensures)
    ∙ c.in_ok-moments.ensures.2
    ∙ ap (λ xs. Ok (xs, c.each_moment.new.numbers)) (sym c.new.ensures) in
    let some = some_given sources all none_numbered moments read (search rules) in
    (array all, c.in_ok-moments.ensures.1, λ found holds. moments_taken all found c.args.seen.now sources moments c.in-Some.is some read holds)
