use Rattle.std.proofs.Common.{refl, ap, arith}
use Rattle.dap_tool.specs.declared.numbering.SideNumbers.{SideNumbers}
use Rattle.dap_tool.proofs.ListedTexts.{nothing_printed}
use Rattle.dap_tool.proofs.listing.Listing.new.Goals as goal

pub returns-clause-listed : goal.returns-clause-listed
returns-clause-listed c = record { noted = c.open-checker.ensures.noted; printed = nothing_printed c.args.options _ c.new-text.ensures.items refl c.new-none.ensures c.new-none.ensures }

pub returns-clause-few : goal.returns-clause-few
returns-clause-few c =
    let none = ap (λ (x : SideNumbers). x.count) c.new-none.ensures in
    record { count = omega arith; client = omega (arith, none); adapter = omega (arith, none) }
