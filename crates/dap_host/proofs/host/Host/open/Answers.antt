use Rattle.std.proofs.Common.{refl, ◌∙◌}
use Rattle.std.proofs.lemmas.Result.{err_from_is_err_and}
use Rattle.dap_host.proofs.GoingLemmas.{fresh_going}
use Rattle.dap_host.proofs.host.Host.open.Goals as goal

pub returns-in_err-texts-clause-refused : goal.returns-in_err-texts-clause-refused
returns-in_err-texts-clause-refused c = let p = err_from_is_err_and c.from_residual.result c.from_residual.ensures.1 in rw (p.1, p.2) tt

pub returns-in_err-adapter-clause-refused : goal.returns-in_err-adapter-clause-refused
returns-in_err-adapter-clause-refused c = let p = err_from_is_err_and c.from_residual-in_err-adapter.result c.from_residual-in_err-adapter.ensures.1 in rw (p.1, p.2) tt

pub returns-clause-fresh : goal.returns-clause-fresh
returns-clause-fresh c = record {
  sources = c.in-Ok.sources;
  reads = c.in-Ok.ensures;
  offers = c.in-Ok-read_offers.offers;
  offered = c.in-Ok-read_offers.ensures.offers;
  stands = c.in_ok-adapter.ensures.stands;
  session = c.in_ok-adapter.ensures.session;
  debuggee = c.in_ok-adapter.ensures.debuggee ∙ c.open-live.ensures;
  limits_are = refl;
  longest_is = refl;
  number = refl;
  none_ahead = c.none.ensures;
}

pub returns-clause-going : goal.returns-clause-going
returns-clause-going c = fresh_going _ c.args.limits _ c.in-Ok.sources c.in_ok-adapter.ensures.stands c.in_ok-adapter.ensures.session (c.in_ok-adapter.ensures.debuggee ∙ c.open-live.ensures) refl c.limits_are_in_range.ensures c.bodies_come_one_by_one.ensures
