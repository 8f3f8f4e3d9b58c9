use Rattle.dap_query.proofs.QueryResults.{each_query_is_answered_or_refused}
use Rattle.dap_query.proofs.laws.each_query_is_answered_or_refused.Goals as goal

pub returns : goal.returns
returns c = each_query_is_answered_or_refused
