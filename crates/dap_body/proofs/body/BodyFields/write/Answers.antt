use Rattle.dap_body.proofs.body.BodyFields.write.Goals as goal

pub returns-in-SetBreakpoints-clause-adds : goal.returns-in-SetBreakpoints-clause-adds
returns-in-SetBreakpoints-clause-adds c = rw c.in-SetBreakpoints.is (rw c.as_slice.ensures.value at c.put_list.ensures.adds)

pub returns-in-Variables-clause-adds : goal.returns-in-Variables-clause-adds
returns-in-Variables-clause-adds c = rw c.in-Variables.is (rw c.as_slice-in-Variables.ensures.value at c.put_list-in-Variables.ensures.adds)

pub returns-in-Threads-clause-adds : goal.returns-in-Threads-clause-adds
returns-in-Threads-clause-adds c = rw c.in-Threads.is (rw c.as_slice-in-Threads.ensures.value at c.put_list-in-Threads.ensures.adds)

pub returns-in-Continue-clause-adds : goal.returns-in-Continue-clause-adds
returns-in-Continue-clause-adds c = rw c.in-Continue.is c.put_flag.ensures.adds

pub returns-in_ok-put_list-in-StackTrace-clause-adds : goal.returns-in_ok-put_list-in-StackTrace-clause-adds
returns-in_ok-put_list-in-StackTrace-clause-adds c = rw c.in-StackTrace.is (rw c.as_slice-in-StackTrace.ensures.value at (rw c.in_ok-put_list-in-StackTrace.ensures.adds at c.put_number.ensures.adds))

pub returns-in_ok-put_short_if_any-in-RunInTerminal-clause-adds : goal.returns-in_ok-put_short_if_any-in-RunInTerminal-clause-adds
returns-in_ok-put_short_if_any-in-RunInTerminal-clause-adds c = rw c.in-RunInTerminal.is (rw c.in_ok-put_short_if_any-in-RunInTerminal.ensures.adds at c.put_short_if_any-in-RunInTerminal.ensures.adds)
