-- What stands holds from two fresh ends on, in every schedule.
use Rattle.std.proofs.Common.{◌≤◌, [], arith, false, refl, sym, subst}
use Rattle.dap_ends.proofs.Announcements.{announces}
use Rattle.dap_ends.proofs.PairTranscripts.{writes}
use Rattle.dap_frame.specs.Settings.{Settings, AreInRange}
use Rattle.dap_command.specs.Offer.{usual_offer}
use Rattle.dap_debuggee.specs.Shown.{Shown}
use Rattle.dap_plan.specs.Carried.{Goes}
use Rattle.dap_world.specs.World.{World, fresh_world, Step, by_sending, by_answering, by_coming_up, by_coming_down, by_turning, by_polling, by_emitting, by_exchanging, Schedule, starts, goes}
use Rattle.dap_world.proofs.ClientStepping.{send-stands, down-stands, answer-stands}
use Rattle.dap_world.proofs.Standing.{Stands}
use Rattle.dap_world.proofs.Stepping.{Laws, turn-stands, poll-stands, emit-stands, up-stands}

unfoldable pub fresh-stands : {D : Type 0} → Laws → (limits : Settings) (debuggee : D) → AreInRange limits → Stands limits (fresh_world limits debuggee)
fresh-stands laws limits debuggee r =
    let least : 2 ≤ limits.requests = r.requests.0 in
    record {
      client_limits = refl;
      adapter_limits = refl;
      offers = refl;
      by = record { uses = λ q. []; wants = λ q. false };
      writes = writes limits.requests limits.references [];
      announces = announces limits.requests limits.references [];
      up = tt;
      kept = tt;
      down = tt;
      client_within = laws.client_stays.fresh limits;
      adapter_within = laws.adapter_stays.opened limits usual_offer (omega arith);
      none_own = refl;
      quiet = λ e. refl;
    }

-- nothing that stands is about the debuggee
abbrev pub stands-over : {D : Type 0} (limits : Settings) (w : World D) (debuggee : D) → Stands limits w → Stands limits (record w { adapter = record w.adapter { debuggee = debuggee } })
stands-over limits w debuggee g =
    record {
      client_limits = g.client_limits;
      adapter_limits = g.adapter_limits;
      offers = g.offers;
      by = g.by;
      writes = g.writes;
      announces = g.announces;
      up = g.up;
      kept = g.kept;
      down = g.down;
      client_within = g.client_within;
      adapter_within = g.adapter_within;
      none_own = g.none_own;
      quiet = g.quiet;
    }

step-stands : {D : Type 0} (laws : Laws) (shown : D → Shown) (follows : Goes D) (limits : Settings) (old new : World D) → AreInRange limits → Step shown follows old new → Stands limits old → Stands limits new
step-stands laws shown follows limits old new r (by_sending call t) g = (send-stands laws limits call old new r t g).stands
step-stands laws shown follows limits old new r (by_coming_up t) g = (up-stands laws follows limits old new t g).stands
step-stands laws shown follows limits old new r (by_coming_down t) g = (down-stands laws limits old new r t g).stands
step-stands laws shown follows limits old new r (by_answering q terminal t) g = (answer-stands laws limits q terminal old new t g).stands
step-stands laws shown follows limits old new r (by_turning t) g = (turn-stands laws shown follows limits old new r t g).stands
step-stands laws shown follows limits old new r (by_polling t) g = (poll-stands laws follows limits old new t g).stands
step-stands laws shown follows limits old new r (by_emitting name body t) g = (emit-stands laws follows limits name body old new t g).stands
step-stands laws shown follows limits old new r (by_exchanging t) g = subst (λ w. Stands limits w) (sym t.all_else) (stands-over limits old new.adapter.debuggee g)

pub schedule-stands : {D : Type 0} (laws : Laws) (shown : D → Shown) (follows : Goes D) (limits : Settings) (debuggee : D) (w : World D) → AreInRange limits → Schedule shown follows limits debuggee w → Stands limits w
schedule-stands laws shown follows limits debuggee _ r starts = fresh-stands laws limits debuggee r
schedule-stands laws shown follows limits debuggee _ r (goes v w s t) = step-stands laws shown follows limits v w r t (schedule-stands laws shown follows limits debuggee v r s)
