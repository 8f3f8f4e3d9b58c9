use Rattle.dap_ends.specs.Pair.{pair_start, pair_run}
use Rattle.dap_ends.proofs.PairResults.{launch-held}
use Rattle.dap_ends.proofs.PairTranscripts.{writes}
use Rattle.dap_ends.proofs.own_in_one_place.Goals as goal

pub returns-clause-places : goal.returns-clause-places
returns-clause-places c = λ n r steps p. (writes n r steps).follows.owns.place p

pub returns-clause-waits : goal.returns-clause-waits
returns-clause-waits c = λ n r steps. (writes n r steps).follows.owns.waits

pub returns-clause-launch : goal.returns-clause-launch
returns-clause-launch c = λ n r steps. launch-held n r (pair_run n r steps pair_start) (writes n r steps).follows
