use Rattle.std.proofs.Common.{refl}
use Rattle.std.specs.Prelude.{◌==◌}
use Rattle.dap_tool.proofs.ListedTexts.{legal_so, text_so}
use Rattle.dap_tool.proofs.verdict.verdict.Goals as goal

pub returns : goal.returns
returns c = λ texts transcript is.
    record {
      text = text_so c.args.options transcript c.args.listing is.printed c.push_closing.new.text.items c.push_hint.new.text.items c.push_unanswered.new.text.items c.in_ok-push_closing.ensures c.in_ok-push_hint.ensures (c.in_ok-push_unanswered.ensures texts transcript is.noted);
      legal = legal_so c.args.options transcript c.args.listing is.printed (c.args.listing.count == 0) refl;
    }
