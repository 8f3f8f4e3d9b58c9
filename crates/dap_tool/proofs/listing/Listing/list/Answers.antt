use Rattle.std.proofs.Common.{◌+◌, ◌++◌, ap, ◌∙◌}
use Rattle.std.specs.Prelude.{if◌then◌else◌}
use Rattle.dap_check.specs.Lines.{same_side}
use Rattle.dap_check.specs.declared.line.Side.TheVariants.{Client, Adapter}
use Rattle.dap_tool.specs.PrivateListed.{text_told}
use Rattle.dap_tool.proofs.ListedTexts.{given, after_by, side_few, count_few, printed_more}
use Rattle.dap_tool.proofs.listing.Listing.list.Goals as goal

pub returns-clause-printed : goal.returns-clause-printed
returns-clause-printed c = λ lines line is so.
    let options = c.args.options in
    let told = c.args.told.now in
    let old = c.args.self.now in
    let breaks = c.is_of_rule_1-breaks in
    let of_line = text_told options.explained told.found.number told.reason line told.found.broken in
    printed_more options lines line told is old _ so
    (c.in_ok-push_if.ensures line (given options lines line told is) ∙ ap (λ b. if b then old.text.items ++ of_line else old.text.items) c.is_shown-shown.ensures)
    (c.counted-self.ensures ∙ ap (λ b. if b then old.count + 1 else old.count) c.is_some.ensures)
    (c.after-self.ensures ∙ ap (λ b. after_by options.any_seq Client b breaks.result old.client) c.are_same.ensures ∙ ap (λ b. after_by options.any_seq Client (same_side Client told.found.side) b old.client) breaks.ensures)
    (c.after-self-2.ensures ∙ ap (λ b. after_by options.any_seq Adapter b breaks.result old.adapter) c.are_same-2.ensures ∙ ap (λ b. after_by options.any_seq Adapter (same_side Adapter told.found.side) b old.adapter) breaks.ensures)

pub returns-clause-few : goal.returns-clause-few
returns-clause-few c = λ n few.
    let any_seq = c.args.options.any_seq in
    record {
      count = count_few c.is_some.result c.args.self.now.count c.counted-self.result n c.counted-self.ensures few.count;
      client = side_few any_seq Client c.are_same.result c.is_of_rule_1-breaks.result c.args.self.now.client c.after-self.result n c.after-self.ensures few.client;
      adapter = side_few any_seq Adapter c.are_same-2.result c.is_of_rule_1-breaks.result c.args.self.now.adapter c.after-self-2.result n c.after-self-2.ensures few.adapter;
    }
