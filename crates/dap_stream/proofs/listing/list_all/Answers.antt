use Rattle.std.proofs.Common.{refl, subst}
use Rattle.dap_stream.specs.Listing.{Listed, stops_in}
use Rattle.dap_stream.proofs.ShowLemmas.{none_refused}
use Rattle.dap_stream.proofs.listing.list_all.Goals as goal

pub returns-in-Ok : goal.returns-in-Ok
returns-in-Ok c =
    let all = c.in-Ok.ensures in
    let style = stops_in c.args.form in
    let none = none_refused style c.args.limits c.args.bytes.now all.bodies c.args.out.now.items c.list.new.out.items c.in-Ok.shown.refused refl all.listed in
    record {
      bodies = all.bodies;
      rest = all.rest;
      split = all.split;
      listed = subst (Listed style c.args.limits c.args.bytes.now all.bodies c.args.out.now.items c.list.new.out.items) none all.listed;
      ends = all.ends;
    }
