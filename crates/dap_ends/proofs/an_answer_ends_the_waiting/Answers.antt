use Rattle.dap_ends.specs.Pair.{pair_start, pair_run}
use Rattle.dap_ends.proofs.PairResults.{answers-launch, comes-late, answers-where}
use Rattle.dap_ends.proofs.PairTranscripts.{writes}
use Rattle.dap_ends.proofs.an_answer_ends_the_waiting.Goals as goal

pub returns-clause-places : goal.returns-clause-places
returns-clause-places c = λ n r steps m a ok starts ms e u. answers-where (pair_run n r steps pair_start) m a ok ms (writes n r steps).follows.owns e u

pub returns-clause-answers : goal.returns-clause-answers
returns-clause-answers c = λ n r steps m a ok starts ms e u p. answers-launch n r (pair_run n r steps pair_start) m a ok starts ms (writes n r steps).follows.owns e u p

pub returns-clause-late : goal.returns-clause-late
returns-clause-late c = λ n r steps m a ok starts ms e u p. comes-late n r (pair_run n r steps pair_start) m a ok starts ms (writes n r steps).follows.owns e u p
