use Rattle.dap_message.proofs.answering.append_outcome.Goals as goal

pub returns-in-Success-clause-reads_back : goal.returns-in-Success-clause-reads_back
returns-in-Success-clause-reads_back c = rw c.in-Success.is c.append_success.ensures.reads_back

pub returns-in-Failure-clause-reads_back : goal.returns-in-Failure-clause-reads_back
returns-in-Failure-clause-reads_back c = rw c.in-Failure.is (rw c.as_str.ensures at c.append_worded.ensures.reads_back)
