-- How the code holds the last act and the acts for the host, and what private functions change. Only private clauses and the views of the debuggee and its mail cite this file.
use Rattle.std.specs.Prelude.{Bool, List, [], ◌∷◌, ◌++◌, Option, None, if◌then◌else◌}
use Rattle.dap_debuggee.specs.Shown.{Last, done, refused, happened}
use Rattle.dap_debuggee.specs.declared.answers.Asked.{Asked}
use Rattle.dap_debuggee.specs.declared.answers.Asked.TheVariants as ask
use Rattle.dap_live.specs.declared.mail.HostAct.{HostAct}
use Rattle.dap_live.specs.declared.mail.HostAct.TheVariants as act
use Rattle.dap_recording.specs.declared.recording.RecordedSource.{RecordedSource}
use Rattle.dap_live.specs.declared.held.Learned.{Learned}
use Rattle.dap_live.specs.declared.held.LiveLast.{LiveLast}
use Rattle.dap_live.specs.declared.held.LiveLast.TheVariants.{Done, Refused, Polled}
use Rattle.dap_live.specs.declared.here.Here.{Here}
use Rattle.dap_live.specs.LiveShown.{LiveState}

abbrev pub last_of : LiveLast → Last
last_of (Done asked) = record { asked = asked; reply = done }
last_of (Refused asked) = record { asked = asked; reply = refused None }
last_of (Polled h) = record { asked = ask.Poll; reply = happened h }

-- how an act that a host is asked for is remembered
abbrev pub asked_of_act : HostAct → Asked
asked_of_act act.Start = ask.Start
asked_of_act (act.Resume how thread) = ask.Resume how thread
asked_of_act act.Pause = ask.Pause
asked_of_act (act.SetBreakpoints source lines) = ask.SetBreakpoints
asked_of_act (act.Assign holder name value) = ask.Assign
asked_of_act act.End = ask.End

abbrev pub done_by : HostAct → Last
done_by a = record { asked = asked_of_act a; reply = done }

abbrev pub with_here : Option Here → LiveState → LiveState
with_here here v = record v { here = here }

abbrev pub with_sources : List RecordedSource → LiveState → LiveState
with_sources sources v = record v { sources = sources }

abbrev pub with_learned : Option Learned → LiveState → LiveState
with_learned learned v = record v { learned = learned }

-- the end comes behind the others, where it is asked for
abbrev pub acts_held : List HostAct → Bool → List HostAct
acts_held acts is_to_end = if is_to_end then acts ++ act.End ∷ [] else acts
