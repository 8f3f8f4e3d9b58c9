-- Of a debuggee whose stops last each schedule is one in which no poll ends a stop; and such a schedule is one of the debuggee.
use Rattle.dap_frame.specs.Settings.{Settings}
use Rattle.dap_debuggee.specs.Laws.{StopsLast}
use Rattle.dap_debuggee.specs.Shown.{Shown, Act, Reply}
use Rattle.dap_plan.specs.Carried.{Goes, CarriedOut}
use Rattle.dap_plan.specs.Plan.{Made, Plan, at_once, asking}
use Rattle.dap_plan.specs.SessionState.{SessionState, SessionStep}
use Rattle.dap_world.specs.References.{LastingStops}
use Rattle.dap_world.specs.World.{World, AdapterStep, Step, by_sending, by_answering, by_coming_up, by_coming_down, by_turning, by_polling, by_emitting, by_exchanging, Schedule, starts, goes}

-- as one debuggee goes on, so does the other
abbrev Carries : {D : Type 0} → Goes D → Goes D → Type 0
Carries {D} follows others = (v w : D) (act : Act) (reply : Reply) → follows v act reply w → others v act reply w

module _ {D : Type 0} (shown : D → Shown) (follows others : Goes D) (carries : Carries follows others) where
  carried : (plan : Plan) (v w : D) (made : Made) → CarriedOut follows plan v made w → CarriedOut others plan v made w
  carried (at_once m) v w made c = c
  carried (asking act makes) v w made c = (c.0, carries v w act c.0 c.1, c.2)

  abbrev session : (plan : Plan) (old new : SessionState D) → SessionStep follows plan old new → SessionStep others plan old new
  session plan old new s = record { made = s.made; carried = carried plan old.debuggee new.debuggee s.made s.carried; after = s.after }

  abbrev adapter : (plan : Plan) (old left new : World D) → AdapterStep follows plan old left new → AdapterStep others plan old left new
  adapter plan old left new a = record { adapter = a.adapter; session = session plan old.adapter a.adapter a.session; reads_back = a.reads_back; is = a.is }

  step : (old new : World D) → Step shown follows old new → Step shown others old new
  step old new (by_sending call s) = by_sending call s
  step old new (by_answering q terminal s) = by_answering q terminal s
  step old new (by_coming_up c) = by_coming_up (record { message = c.message; later = c.later; first = c.first; plan = c.plan; taken = c.taken; step = adapter c.plan old (record old { up = c.later }) new c.step })
  step old new (by_coming_down c) = by_coming_down c
  step old new (by_turning t) = by_turning (record { plan = t.plan; turned = t.turned; step = adapter t.plan old old new t.step })
  step old new (by_polling p) = by_polling (record { step = adapter _ old old new p.step; within = p.within })
  step old new (by_emitting name body e) = by_emitting name body (record { free = e.free; step = adapter _ old old new e.step; within = e.within })
  step old new (by_exchanging e) = by_exchanging e

  pub schedule : (limits : Settings) (debuggee : D) (w : World D) → Schedule shown follows limits debuggee w → Schedule shown others limits debuggee w
  schedule limits debuggee w starts = starts
  schedule limits debuggee w (goes v x earlier s) = goes v x (schedule limits debuggee v earlier) (step v x s)

pub lasting : {D : Type 0} (shown : D → Shown) (follows : Goes D) (limits : Settings) (debuggee : D) (w : World D) → StopsLast shown follows → Schedule shown follows limits debuggee w → Schedule shown (LastingStops shown follows) limits debuggee w
lasting shown follows limits debuggee w stops s = schedule shown follows (LastingStops shown follows) (λ v w act reply f. (f, stops v w act reply f)) limits debuggee w s

pub forgotten : {D : Type 0} (shown : D → Shown) (follows : Goes D) (limits : Settings) (debuggee : D) (w : World D) → Schedule shown (LastingStops shown follows) limits debuggee w → Schedule shown follows limits debuggee w
forgotten shown follows limits debuggee w s = schedule shown (LastingStops shown follows) follows (λ v w act reply f. f.0) limits debuggee w s
