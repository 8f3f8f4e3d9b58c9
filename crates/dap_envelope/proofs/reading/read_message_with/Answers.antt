use Rattle.std.proofs.Common.{Ok}
use Rattle.dap_envelope.proofs.Told.{verdict_of-Msg, told_message, told_refusal, gives_message, gives_refusal}
use Rattle.dap_envelope.proofs.reading.read_message_with.Goals as goal

pub returns-in-Some-clause-read : goal.returns-in-Some-clause-read
returns-in-Some-clause-read c = told_message c.args.body.now (Ok c.in-Some.message) (verdict_of-Msg c.args.body.now c.in-Some.message c.in-Some.ensures)

pub returns-in-Some-clause-refused : goal.returns-in-Some-clause-refused
returns-in-Some-clause-refused c = told_refusal c.args.body.now (Ok c.in-Some.message) (verdict_of-Msg c.args.body.now c.in-Some.message c.in-Some.ensures)

pub returns-in-Some-clause-reads : goal.returns-in-Some-clause-reads
returns-in-Some-clause-reads c = gives_message c.args.body.now (Ok c.in-Some.message) (verdict_of-Msg c.args.body.now c.in-Some.message c.in-Some.ensures)

pub returns-in-Some-clause-refuses : goal.returns-in-Some-clause-refuses
returns-in-Some-clause-refuses c = gives_refusal c.args.body.now (Ok c.in-Some.message) (verdict_of-Msg c.args.body.now c.in-Some.message c.in-Some.ensures)

pub returns-in-None-clause-read : goal.returns-in-None-clause-read
returns-in-None-clause-read c = told_message c.args.body.now c.read_whole.result c.read_whole.ensures

pub returns-in-None-clause-refused : goal.returns-in-None-clause-refused
returns-in-None-clause-refused c = told_refusal c.args.body.now c.read_whole.result c.read_whole.ensures

pub returns-in-None-clause-reads : goal.returns-in-None-clause-reads
returns-in-None-clause-reads c = gives_message c.args.body.now c.read_whole.result c.read_whole.ensures

pub returns-in-None-clause-refuses : goal.returns-in-None-clause-refuses
returns-in-None-clause-refuses c = gives_refusal c.args.body.now c.read_whole.result c.read_whole.ensures
