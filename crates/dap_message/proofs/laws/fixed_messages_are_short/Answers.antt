use Rattle.dap_message.proofs.Lengths.{events_are_short, failures_are_short, fixed_responses_are_short}
use Rattle.dap_message.proofs.laws.fixed_messages_are_short.Goals as goal

pub returns-clause-failures : goal.returns-clause-failures
returns-clause-failures c = failures_are_short

pub returns-clause-responses : goal.returns-clause-responses
returns-clause-responses c = fixed_responses_are_short

pub returns-clause-events : goal.returns-clause-events
returns-clause-events c = events_are_short
