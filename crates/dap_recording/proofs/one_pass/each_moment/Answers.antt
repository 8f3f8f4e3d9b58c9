use Rattle.std.proofs.Common.{sym, ap, ◌∙◌, arith}
use Rattle.serde_json.specs.Data.{no_items, item}
use Rattle.serde_json.specs.View.{view}
use Rattle.dap_recording.specs.Reading.{each, moment_of, moments_of}
use Rattle.dap_recording.specs.declared.reading.RecordingKey.TheVariants as key
use Rattle.dap_recording.specs.declared.reading.Teller.TheVariants as teller
use Rattle.dap_recording.proofs.OnePassLemmas.{one_moment}
use Rattle.dap_recording.proofs.one_pass.each_moment.Goals as goal

pub loop-found-init : goal.loop-found-init
loop-found-init c = (λ rest later is. (later, is, ap (λ xs. each key.Moments (λ earlier. moment_of teller.Recording c.args.sources.now) later xs c.args.numbers.now) (sym c.new-found.ensures.items)), omega arith)

pub loop-found-preserved : goal.loop-found-preserved
loop-found-preserved c =
    let sources = c.args.sources.now in
    let l = c.loop-found in
    let one = rw c.in-Some.is at c.in_ok-item.ensures.item in
    let shorter = c.in_ok-item.ensures.shorter in (
      λ rest later is.
          let all = l.invariant.0 rest (item (view c.in-Some.item) later) (one rest later is) in (
            all.0,
            all.1,
            all.2
                ∙ one_moment sources (view c.in-Some.item) later l.found.items l.numbers c.moment.new.numbers c.in_ok-moment.field-0 c.in_ok-moment.ensures.object c.in_ok-moment.ensures.is
                ∙ ap (λ xs. each key.Moments (λ earlier. moment_of teller.Recording sources) later xs c.moment.new.numbers) (sym c.in_ok-push.ensures.items),
          ),
      omega (arith, l.invariant.1, shorter),
    )

pub returns : goal.returns
unfolding moments_of
returns c =
    let l = c.loop-found in
    let shorter = c.in_ok-item.ensures.shorter in
    let rest = c.next_item.new.self in
    let all = l.invariant.0 rest no_items (c.in_ok-item.ensures.end c.in_default.is) in
    (all.0, c.in_ok-enter_items.ensures.entered rest all.0 all.1 (omega (arith, l.invariant.1, shorter)), all.2)
