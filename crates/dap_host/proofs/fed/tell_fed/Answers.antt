use Rattle.dap_host.proofs.FedLemmas.{tells_from, stops_from}
use Rattle.dap_host.proofs.fed.tell_fed.Goals as goal

pub returns-in-Ok-clause-tells : goal.returns-in-Ok-clause-tells
returns-in-Ok-clause-tells c =
    tells_from c.args.adapter.now c.put_coming.new.adapter c.tell.new.self c.fetch_dropped.new.adapter c.args.coming c.args.bytes.now.items c.tell.new.out.items c.fetch_dropped.result
    c.put_coming.ensures c.requires.in_a_run c.tell_polls_first.ensures c.requires.empty c.in-Ok.ensures.tells c.fetch_dropped.ensures.why c.fetch_dropped.ensures.fetched

pub returns-in-Err-clause-stops : goal.returns-in-Err-clause-stops
returns-in-Err-clause-stops c =
    stops_from c.args.adapter.now c.put_coming.new.adapter c.tell.new.self c.args.coming c.args.bytes.now.items c.tell.new.out.items c.in-Err.fault c.put_coming.ensures c.requires.open c.requires.empty c.in-Err.ensures.stops
