-- How the code holds a run, the last act and the values that were set, and what that amounts to.
-- Only private clauses, invariants and proofs cite this file.
use Rattle.std.specs.Prelude.{Vec, ◌≡◌, ◌⊎◌, ◌≤◌, ◌+◌, ◌%◌, ◌^◌, ℕ, suc, ◌-◌, ◌<◌, length, List, [], ◌∷◌, map, take, drop, Option, Some, None, option_map, unwrap_or}
use Rattle.std.specs.List.{slice_get}
use Rattle.std.specs.BTreeMap.{BTreeMap}
use Rattle.dap_debuggee.specs.declared.answers.Variable.{Variable}
use Rattle.std.specs.Str.{IsCharBoundary}
use Rattle.dap_debuggee.specs.Shown.{done, refused, happened, Last}
use Rattle.dap_replay.specs.Played.{Played, Run, OfHolder, stop_of}
use Rattle.std.specs.Option.{IsSome}
use Rattle.dap_debuggee.specs.declared.answers.State.{State}
use Rattle.dap_debuggee.specs.declared.answers.State.TheVariants.{Running}
use Rattle.dap_debuggee.specs.declared.answers.Asked.TheVariants.{Poll}
use Rattle.dap_debuggee.specs.declared.answers.Category.TheVariants.{Stdout}
use Rattle.dap_debuggee.specs.declared.answers.Happening.{Happening}
use Rattle.dap_debuggee.specs.declared.answers.Happening.TheVariants as happening
use Rattle.dap_recording.specs.declared.recording.Moment.{Moment}
use Rattle.dap_recording.specs.declared.recording.Recording.{Recording}
use Rattle.dap_replay.specs.declared.recorded.Going.{Going}
use Rattle.dap_replay.specs.declared.recorded.LastPoll.{LastPoll}
use Rattle.dap_replay.specs.declared.recorded.LastPoll.TheVariants as given
use Rattle.dap_replay.specs.declared.recorded.LastAsked.{LastAsked}
use Rattle.dap_replay.specs.declared.recorded.LastAsked.TheVariants as last

-- the first of the texts without its first n bytes
abbrev pub without_first : ℕ → List (List ℕ) → List (List ℕ)
without_first n [] = []
without_first n (text ∷ texts) = drop n text ∷ texts

-- what is still to be written
abbrev pub output_left : List Moment → Going → List (List ℕ)
output_left moments g = without_first g.told (map (λ m. m.output) (take (suc g.last - g.moment) (drop g.moment moments)))

abbrev pub run_of : List Moment → Option Going → Option Run
run_of moments None = None
run_of moments (Some g) = Some (record { output = output_left moments g; move = g.to; paused = g.paused })

abbrev pub output_in : List Moment → ℕ → List ℕ
output_in moments i = unwrap_or (option_map (λ m. m.output) (slice_get moments i)) []

abbrev pub happening_of_poll : Recording → LastPoll → Happening
happening_of_poll r given.Nothing = happening.Nothing
happening_of_poll r (given.Output moment from to) = happening.Output Stdout (take (to - from) (drop from (output_in r.moments moment))) []
happening_of_poll r (given.Stopped by) = stop_of r.moments by
happening_of_poll r given.Exited = happening.Exited r.exit

abbrev pub last_of : Recording → LastAsked → Option Last
last_of r last.Never = None
last_of r (last.Done asked) = Some (record { asked = asked; reply = done })
last_of r (last.Refused asked) = Some (record { asked = asked; reply = refused None })
last_of r (last.Polled g) = Some (record { asked = Poll; reply = happened (happening_of_poll r g) })

-- what is told of a moment's output is nothing, or ends a character
abbrev pub IsOutputWhole : List Moment → Option Going → Type 0
IsOutputWhole moments None = Unit {0}
IsOutputWhole moments (Some g) = (g.told ≡ 0) ⊎ IsCharBoundary (output_in moments g.moment) g.told

-- what runs has a run
abbrev pub HasRun : State → Option Going → Type 0
HasRun Running going = IsSome going
HasRun _ going = Unit {0}

-- an act counted and remembered
abbrev pub after_act : Option Last → Played → Played
after_act last v = record v { acts = (v.acts + 1) % 2 ^ 64; last = last }

-- nothing is left, or the output of its moment is not used up
abbrev pub IsReady : List Moment → Going → Type 0
IsReady moments g = (output_left moments g ≡ []) ⊎ ((g.moment ≤ g.last) × (m : Moment) × (slice_get moments g.moment ≡ Some m) × (g.told < length m.output))

-- a run whose output is all told
abbrev pub rest_of : Going → Run
rest_of g = record { output = []; move = g.to; paused = g.paused }

-- what holds the children of each variable
abbrev pub holders_in : List Variable → List (Option ℕ)
holders_in variables = map (λ variable. variable.holder) variables

-- a value that is set leaves the holders as they are recorded
abbrev pub KeepHolders : List (List Variable) → List OfHolder → Type 0
KeepHolders recorded [] = Unit {0}
KeepHolders recorded (c ∷ changed) = (option_map holders_in (slice_get recorded c.holder) ≡ Some (holders_in c.variables)) × KeepHolders recorded changed
