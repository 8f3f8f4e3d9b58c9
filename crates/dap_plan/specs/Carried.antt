-- A plan that is carried out.
use Rattle.std.specs.Prelude.{◌≡◌}
use Rattle.dap_debuggee.specs.Shown.{Act, Reply}
use Rattle.dap_plan.specs.Plan.{Made, Plan, at_once, asking}

-- how a debuggee of this kind goes on
abbrev pub Goes : Type 0 → Type 1
Goes D = D → Act → Reply → D → Type 0

-- just what the plan asks was asked, and this was made of the reply
abbrev pub CarriedOut : {D : Type 0} → Goes D → Plan → D → Made → D → Type 0
CarriedOut follows (at_once m) v made w = (made ≡ m) × (w ≡ v)
CarriedOut follows (asking act makes) v made w = (r : Reply) × follows v act r w × (made ≡ makes r)
