use Rattle.std.proofs.Common.{◌++◌, ap, refl, ◌∙◌}
use Rattle.std.specs.Prelude.{string_bytes, replicate}
use Rattle.dap_words.specs.Layout.{words}
use Rattle.dap_words.proofs.Words.{words_behind, words_in_next_line}
use Rattle.dap_words.proofs.layout.push_word.Goals as goal

pub returns-then-not-is_empty : goal.returns-then-not-is_empty
returns-then-not-is_empty c =
    let spaced = c.in_ok-push_spaces.ensures ∙ ap (λ text. text ++ replicate c.args.indent 32) c.in_ok-push_str.ensures.bytes in
    ap words (c.in_ok-push_str-2.ensures.bytes ∙ ap (λ text. text ++ c.args.word.now) spaced) ∙ words_in_next_line (string_bytes c.args.out.now) c.args.word.now c.args.indent

pub returns : goal.returns
returns c = ap words (c.in_ok-push_str-4.ensures.bytes ∙ ap (λ text. text ++ c.args.word.now) c.in_ok-push_str-3.ensures.bytes)
    ∙ words_behind (string_bytes c.args.out.now) c.args.word.now 32 refl
