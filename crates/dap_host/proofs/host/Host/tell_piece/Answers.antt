use Rattle.dap_host.proofs.PartLemmas.{runs_still}
use Rattle.dap_host.proofs.host.Host.tell_piece.Goals as goal

pub returns-clause-in_a_run : goal.returns-clause-in_a_run
returns-clause-in_a_run c = runs_still c.args.self.now c.tell.new.self c.in-Ok-clone.category c.in-Ok.text c.args.more c.args.out.now.items c.tell.new.out.items c.tell.result c.tell.ensures.tells c.requires.in_a_run
