use Rattle.std.proofs.Common.{◌∙◌}
use Rattle.std.specs.Str.Parse.{ParsesUnsigned, ExplainsUnsignedError, HasUnsignedDigitsIfOk}
use Rattle.clap.specs.Words.{found_of, one_text}
use Rattle.dap_words.proofs.Numbers.{number_is_given}
use Rattle.dap_words.proofs.options.number_of.Goals as goal

pub returns : goal.returns
returns c = c.unwrap_or.ensures ∙ number_is_given _ (λ text r. ParsesUnsigned 64 10 text r × ExplainsUnsignedError 10 text r × HasUnsignedDigitsIfOk text r) (λ text r parsed. parsed.0)
    (one_text (found_of c.args.matches.now) c.args.name.now) c.get_one.result c.args.usual c.get_one.ensures.none c.get_one.ensures.value
