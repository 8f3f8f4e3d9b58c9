use Rattle.dap_query.proofs.QueryResults.{each_answer_is_sound}
use Rattle.dap_query.proofs.laws.each_answer_is_sound.Goals as goal

pub returns : goal.returns
returns c = each_answer_is_sound
