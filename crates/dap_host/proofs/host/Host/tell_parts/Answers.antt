use Rattle.dap_host.proofs.PartLemmas.{tells_one, stops_one}
use Rattle.dap_host.proofs.host.Host.tell_parts.Goals as goal

pub returns-in_default-clause-tells : goal.returns-in_default-clause-tells
returns-in_default-clause-tells c = tells_one c.args.self.now c.tell.new.self c.args.coming c.args.out.now.items c.tell.new.out.items c.in_default.not-Output c.tell.result c.tell.ensures.tells

pub returns-in_default-clause-stops : goal.returns-in_default-clause-stops
returns-in_default-clause-stops c = stops_one c.args.self.now c.tell.new.self c.args.coming c.args.out.now.items c.tell.new.out.items c.in_default.not-Output c.tell.result c.tell.ensures.stops
