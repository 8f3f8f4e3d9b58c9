use Rattle.std.proofs.Common.{◌≡◌, map, string_bytes, take}
use Rattle.dap_words.specs.Options.{text_of_option}
use Rattle.dap_words.proofs.options.limit_texts.Given as goal

abbrev pub invariant-loop-limit : goal.invariant-loop-limit
invariant-loop-limit l = map string_bytes l.texts.items ≡ map text_of_option (take l.limit-index l.limit-items)
