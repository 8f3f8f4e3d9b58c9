use Rattle.dap_query.proofs.Interned.{numbers_name_objects}
use Rattle.dap_query.proofs.laws.numbers_name_objects.Goals as goal

pub returns : goal.returns
returns c = numbers_name_objects
