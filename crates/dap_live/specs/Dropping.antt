-- What is dropped of what a host says of its debuggee, and why.
-- This profile's choice: the trait's laws say what may happen in a state, and in which range.
use Rattle.std.specs.Prelude.{◌≡◌, ℕ, ℤ, ◌+◌, nat_lt, nat_le, List, length, Option, Some, None, IsTrue, if◌then◌else◌}
use Rattle.dap_json.specs.declared.more.Member.{Member}
use Rattle.dap_debuggee.specs.Laws.{may_happen, is_short}
use Rattle.dap_debuggee.specs.declared.answers.State.{State}
use Rattle.dap_debuggee.specs.declared.answers.Happening.{Happening}
use Rattle.dap_debuggee.specs.declared.answers.Happening.TheVariants as happening
use Rattle.dap_debuggee.specs.declared.answers.Variable.{Variable}
use Rattle.dap_live.specs.declared.mail.Dropped.{Dropped}
use Rattle.dap_live.specs.declared.mail.Dropped.TheVariants.{OutOfTurn, OutOfRange, TooManySources, Told, TooManyHolders}
use Rattle.dap_live.specs.declared.mail.Coming.{Coming}
use Rattle.dap_live.specs.declared.mail.Coming.TheVariants as coming
use Rattle.dap_live.specs.declared.here.Here.{Here}
use Rattle.dap_live.specs.LiveShown.{LiveState, children_in, now_shown}
use Rattle.dap_recording.specs.Snapshot.{MomentAlone}
use Rattle.dap_recording.specs.Variables.{first_of}
use Rattle.dap_recording.specs.declared.recording.RecordedSource.{RecordedSource}

abbrev pub why_dropped : State → Happening → Option Dropped
why_dropped state h = if may_happen state h then (if is_short h then None else Some OutOfRange) else Some OutOfTurn

abbrev pub unless_dropped : Option Dropped → Happening → Happening
unless_dropped None h = h
unless_dropped (Some why) h = happening.Nothing

-- what is told of it
abbrev pub heard : State → Happening → Happening
heard state h = unless_dropped (why_dropped state h) h

-- ---- variables of a holder

-- of a holder that has these variables, where so many holders were told
abbrev pub why_not_more : Option (List Variable) → ℕ → Option Dropped
why_not_more None holders = if nat_lt holders 65536 then None else Some TooManyHolders
why_not_more (Some variables) holders = Some Told

-- why variables of a holder are not heard, in what is shown
abbrev pub why_untold : Option Here → ℕ → Option Dropped
why_untold None holder = Some OutOfTurn
why_untold (Some here) holder = why_not_more (children_in (Some here) holder) (length here.told)

-- ---- a stop, and sources

-- a moment that was read over more sources than the debuggee has is not shown
abbrev pub why_too_wide : MomentAlone → List RecordedSource → Option Dropped
why_too_wide shows sources = if nat_le shows.sources (length sources) then None else Some TooManySources

-- why a stop with this moment is not heard
abbrev pub why_not_shown : State → List RecordedSource → List ℕ → ℤ → List Member → MomentAlone → Option Dropped
why_not_shown state sources reason thread more shows = first_of (why_dropped state (happening.Stopped reason thread more)) (why_too_wide shows sources)

-- why these sources do not come behind those of the debuggee
abbrev pub why_no_room : List RecordedSource → List RecordedSource → Option Dropped
why_no_room more sources = if nat_le (length sources + length more) 65536 then None else Some TooManySources

-- ---- whatever a host says

abbrev pub why_unheard : Coming → LiveState → Option Dropped
why_unheard (coming.Output category text more) v = why_dropped v.state (happening.Output category text more)
why_unheard (coming.Stopped reason thread shows later more) v = why_not_shown v.state v.sources reason thread more shows
why_unheard (coming.Continued thread) v = why_dropped v.state (happening.Continued thread)
why_unheard (coming.Exited code) v = why_dropped v.state (happening.Exited code)
why_unheard (coming.Learned text value holder more) v = None
why_unheard (coming.NoValue text why) v = None
why_unheard (coming.Variables holder variables) v = why_untold (now_shown v.state v.here) holder
why_unheard (coming.Sources more) v = why_no_room more v.sources

-- ---- law

abbrev pub EachDropHasItsReason : Type 0
EachDropHasItsReason = (state : State) (h : Happening)
    → (why_dropped state h ≡ None → IsTrue (may_happen state h) × IsTrue (is_short h))
    × (IsTrue (may_happen state h) → IsTrue (is_short h) → why_dropped state h ≡ None)
