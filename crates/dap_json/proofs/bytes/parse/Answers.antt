use Rattle.std.proofs.Common.{rules}
use Rattle.dap_json.proofs.Parsed.{json_of-read, json_of-refused}
use Rattle.dap_json.proofs.bytes.parse.Goals as goal

pub returns-in-Ok-clause-ok : goal.returns-in-Ok-clause-ok
returns-in-Ok-clause-ok c = json_of-read c.args.bytes.now _ c.in-Ok.ensures.ok.0 c.in-Ok.ensures.ok.1

pub returns-in-Err-2-clause-refused : goal.returns-in-Err-2-clause-refused
returns-in-Err-2-clause-refused c = λ _. json_of-refused c.args.bytes.now (c.in-Err-2.ensures.err (search rules))
