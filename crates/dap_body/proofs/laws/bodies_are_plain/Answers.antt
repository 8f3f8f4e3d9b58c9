use Rattle.dap_body.proofs.PlainBodies.{event_bodies_are_plain, explained_bodies_are_plain, failure_bodies_are_plain, response_bodies_are_plain}
use Rattle.dap_body.proofs.laws.bodies_are_plain.Goals as goal

pub returns-clause-responses : goal.returns-clause-responses
returns-clause-responses c = response_bodies_are_plain

pub returns-clause-failures : goal.returns-clause-failures
returns-clause-failures c = failure_bodies_are_plain

pub returns-clause-events : goal.returns-clause-events
returns-clause-events c = event_bodies_are_plain

pub returns-clause-explained : goal.returns-clause-explained
returns-clause-explained c = explained_bodies_are_plain
