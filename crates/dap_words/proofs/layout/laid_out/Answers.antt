use Rattle.std.proofs.Common.{◌≡◌, ◌++◌, [], ◌∷◌, ap, refl, sym, ◌∙◌, length, lit<, map}
use Rattle.std.specs.Prelude.{string_bytes}
use Rattle.std.specs.List.{join_with_byte}
use Rattle.std.proofs.lemmas.Iterator.Consumers.{YieldsList-turn, YieldsList-end, YieldsList-from_enumerate, YieldsList-at}
use Rattle.std.proofs.lemmas.Iterator.Splits.{YieldsList-from_str_split}
use Rattle.std.proofs.lemmas.List.Splits.{join_with_byte-slice_split}
use Rattle.dap_words.specs.Layout.{words}
use Rattle.dap_words.proofs.Words.{words_behind, words_of_next, is_not_empty, is_empty, first_part, place_is, items_are}
use Rattle.dap_words.proofs.layout.laid_out.Goals.{then-place-ne0+in_ok-push_str, else-place-ne0}
use Rattle.dap_words.proofs.layout.laid_out.Goals as goal

pub loop-place-preserved : goal.loop-place-preserved
loop-place-preserved c =
    let split = YieldsList-from_str_split 10 c.args.text.now (lit< tt) c.split.ensures.text c.split.ensures.has_more c.split.ensures.pattern in
    let road = YieldsList-at c.into_iter-place-iterator.ensures.into_iter_gives (YieldsList-from_enumerate (YieldsList-at c.enumerate-place-items.ensures.source split) c.enumerate-place-items.ensures.count) in
    let turn = YieldsList-turn road c.loop-place.yielded _ c.loop-place.yielded_by _ _ (c.in-Some.place, c.in-Some.line) c.in-Some.is c.next.ensures.steps in
    let at = place_is _ (length c.loop-place.yielded) (c.in-Some.place, c.in-Some.line.now) turn in
    let line = c.in-Some.line.now in
    let before : words (string_bytes c.if-place-ne0.out ++ line) ≡ words (join_with_byte 10 (map (λ p. p.1.now) (c.loop-place.yielded ++ (c.in-Some.place, c.in-Some.line) ∷ []))) =
    elim c.if-place-ne0.branch [
      | then-place-ne0+in_ok-push_str w ↦
          let some : length c.loop-place.yielded ≡ 0 → ⊥ = λ none. w.if-place-ne0.true (at ∙ none) in
          ap (λ text. words (text ++ line)) (ap string_bytes w.out-is ∙ w.in_ok-push_str.ensures.bytes)
          ∙ words_behind (string_bytes c.loop-place.out) line 10 refl
          ∙ ap (λ found. found ++ words line) c.loop-place.invariant.words
          ∙ sym (words_of_next 10 [] (λ p. p.1.now) c.loop-place.yielded (c.in-Some.place, c.in-Some.line) refl some)
      | else-place-ne0 w ↦
          let none : length c.loop-place.yielded ≡ 0 = sym at ∙ w.if-place-ne0.false in
          ap (λ text. words (text ++ line)) (ap string_bytes w.out-is ∙ c.loop-place.invariant.start (is_empty c.loop-place.yielded none))
          ∙ ap words (sym (first_part 10 (λ p. p.1.now) c.loop-place.yielded (c.in-Some.place, c.in-Some.line) none))
    ] in
    record {
      words = c.in_ok-push_line.ensures ∙ before;
      start = λ none. absurd (is_not_empty c.loop-place.yielded (c.in-Some.place, c.in-Some.line) none);
    }

pub returns : goal.returns
returns c =
    let split = YieldsList-from_str_split 10 c.args.text.now (lit< tt) c.split.ensures.text c.split.ensures.has_more c.split.ensures.pattern in
    let road = YieldsList-at c.into_iter-place-iterator.ensures.into_iter_gives (YieldsList-from_enumerate (YieldsList-at c.enumerate-place-items.ensures.source split) c.enumerate-place-items.ensures.count) in
    let end = YieldsList-end road c.loop-place.yielded _ c.loop-place.yielded_by _ _ c.in-None.is c.next.ensures.steps in
    let whole = ap (join_with_byte 10) (items_are (λ s. s.now) c.loop-place.yielded _ end.0) ∙ join_with_byte-slice_split 10 c.args.text.now in
    c.loop-place.invariant.words ∙ ap words whole
