use Rattle.std.proofs.Common.{◌≡◌, ◌++◌, true, sym, ap, ◌∙◌}
use Rattle.std.specs.Prelude.{flat_map}
use Rattle.dap_check.specs.Findings.{open_requests}
use Rattle.dap_tool.specs.PrivateListed.{mode_of}
use Rattle.dap_tool.specs.Verdicts.{text_of_open, open_text}
use Rattle.dap_tool.proofs.FaultTexts.{is_on}
use Rattle.dap_tool.proofs.verdict.push_unanswered.Goals as goal

pub returns : goal.returns
returns c = λ texts transcript is.
    let options = c.args.options in
    let asked : options.unanswered ≡ true = is_on options.unanswered c.if-not-options.false in
    c.in_ok-push_each_open.ensures
    ∙ ap (λ z. c.args.text.now.items ++ flat_map (text_of_open options.explained) z) (c.deref.ensures.value ∙ c.in_ok-requests.ensures (mode_of options) texts transcript is)
    ∙ ap (λ b. c.args.text.now.items ++ open_text b options.explained (open_requests transcript)) (sym asked)
