use Rattle.std.proofs.Common.{◌≡◌, ◌+◌, drop, option_map}
use Rattle.dap_recording.specs.Reading.{place_of}
use Rattle.dap_recording.proofs.rows.place.Given as goal

-- the first place is none of those so far
abbrev pub invariant-loop-i : goal.invariant-loop-i
invariant-loop-i l = option_map (λ n. l.i + n) (place_of l.id (drop l.i l.threads)) ≡ place_of l.id l.threads
