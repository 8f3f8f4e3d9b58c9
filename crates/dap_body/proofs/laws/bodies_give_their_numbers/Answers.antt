use Rattle.dap_body.proofs.GivenNumbers.{bodies_give_their_numbers as its_numbers}
use Rattle.dap_body.proofs.laws.bodies_give_their_numbers.Goals as goal

pub returns : goal.returns
returns c = its_numbers
