use Rattle.dap_json.proofs.Parsed.{json_of-written}
use Rattle.dap_json.proofs.bytes.write.Goals as goal

pub returns-clause-reads_back : goal.returns-clause-reads_back
returns-clause-reads_back c = json_of-written c.to_vec.result _ c.to_vec.ensures.utf8 c.to_vec.ensures.reads_back
