use Rattle.my_debugger.specs.ToyActs.{HasRun}
use Rattle.my_debugger.specs.declared.news.News.TheVariants as news
use Rattle.my_debugger.proofs.toy.Toy.run_on.Given as goal

-- there was nothing to tell so far
abbrev pub invariant-loop-turn : goal.invariant-loop-turn
invariant-loop-turn l = HasRun l.initial.self news.Nothing l.self
