use Rattle.std.proofs.Common.{◌≡◌, ◌++◌, ap, refl, sym, ◌∙◌, length, lit<}
use Rattle.std.specs.Prelude.{string_bytes}
use Rattle.std.specs.List.{join_with_byte}
use Rattle.std.proofs.lemmas.Iterator.Consumers.{YieldsList-turn, YieldsList-end, YieldsList-from_enumerate, YieldsList-at}
use Rattle.std.proofs.lemmas.Iterator.Splits.{YieldsList-from_str_split}
use Rattle.std.proofs.lemmas.List.Splits.{join_with_byte-slice_split}
use Rattle.dap_words.specs.Layout.{words}
use Rattle.dap_words.proofs.Words.{words_of_next, is_not_empty, place_is, items_are}
use Rattle.dap_words.proofs.layout.push_line.Goals as goal

pub loop-place-preserved : goal.loop-place-preserved
loop-place-preserved c =
    let split = YieldsList-from_str_split 32 c.args.line.now (lit< tt) c.split.ensures.text c.split.ensures.has_more c.split.ensures.pattern in
    let road = YieldsList-at c.into_iter-place-iterator.ensures.into_iter_gives (YieldsList-from_enumerate (YieldsList-at c.enumerate-place-items.ensures.source split) c.enumerate-place-items.ensures.count) in
    let turn = YieldsList-turn road c.loop-place.yielded _ c.loop-place.yielded_by _ _ (c.in-Some.place, c.in-Some.word) c.in-Some.is c.next.ensures.steps in
    let at = place_is _ (length c.loop-place.yielded) (c.in-Some.place, c.in-Some.word.now) turn in
    let some : length c.loop-place.yielded ≡ 0 → ⊥ = λ none. c.if-place-eq0.false (at ∙ none) in
    record {
      words = c.in_ok-column.ensures ∙ ap (λ before. before ++ words c.in-Some.word.now) c.loop-place.invariant.words
          ∙ sym (words_of_next 32 (string_bytes c.args.out.now) (λ p. p.1.now) c.loop-place.yielded (c.in-Some.place, c.in-Some.word) refl some);
      start = λ none. absurd (is_not_empty c.loop-place.yielded (c.in-Some.place, c.in-Some.word) none);
    }

pub returns : goal.returns
returns c =
    let split = YieldsList-from_str_split 32 c.args.line.now (lit< tt) c.split.ensures.text c.split.ensures.has_more c.split.ensures.pattern in
    let road = YieldsList-at c.into_iter-place-iterator.ensures.into_iter_gives (YieldsList-from_enumerate (YieldsList-at c.enumerate-place-items.ensures.source split) c.enumerate-place-items.ensures.count) in
    let end = YieldsList-end road c.loop-place.yielded _ c.loop-place.yielded_by _ _ c.in-None.is c.next.ensures.steps in
    let whole = ap (join_with_byte 32) (items_are (λ s. s.now) c.loop-place.yielded _ end.0) ∙ join_with_byte-slice_split 32 c.args.line.now in
    c.loop-place.invariant.words ∙ ap (λ text. words (string_bytes c.args.out.now ++ text)) whole
