-- What happened to the debuggee, told to the client.
-- Specification, "OutputEvent", "StoppedEvent", "ContinuedEvent", "ExitedEvent", "TerminatedEvent". That all threads stop and go on together, and what is left out where it does not fit, is this profile's choice.
use Rattle.std.specs.Prelude.{◌+◌, [], ◌∷◌, ◌||◌, Bool, true, false, if◌then◌else◌}
use Rattle.dap_message.specs.Lengths.{event_within}
use Rattle.dap_message.specs.MessageParts.{AdapterEvent, output, stopped, continued, exited, terminated}
use Rattle.dap_debuggee.specs.Shown.{to_poll, Reply, done, refused, happened, category_name}
use Rattle.dap_debuggee.specs.declared.answers.Happening.{Happening}
use Rattle.dap_debuggee.specs.declared.answers.Happening.TheVariants as happening
use Rattle.dap_decision.specs.declared.phase.Phase.{Phase}
use Rattle.dap_decision.specs.declared.phase.Phase.TheVariants.{Running, Stopped, Exited}
use Rattle.dap_plan.specs.Plan.{Made, Plan, at_once, asking, no_change}
use Rattle.dap_outbox.specs.Draft.{emit}
use Rattle.dap_tables.specs.References.{without_references}
use Rattle.dap_plan.specs.Session.{Session}
use Rattle.dap_decision.specs.Table.{is_phase}

-- an event with what is said beside its own members, where its message has at most as many bytes as a body may have
abbrev pub told_by : Session → AdapterEvent → AdapterEvent
told_by s event = event_within s.limits.body (s.used + 1) event

unfoldable pub after_happening : Happening → Session → Made
after_happening happening.Nothing s = no_change s
after_happening (happening.Output category text more) s = record { drafts = emit (told_by s (output (category_name category) text more)) ∷ []; drops = false; after = record s { used = s.used + 1 } }
after_happening (happening.Stopped reason thread more) s = record { drafts = emit (told_by s (stopped reason thread more)) ∷ []; drops = false; after = record s { phase = Stopped; used = s.used + 1 } }
after_happening (happening.Continued thread) s = record {
  drafts = emit (continued thread) ∷ [];
  drops = true;
  after = record s { phase = Running; references = without_references s.references; used = s.used + 1 };
}
after_happening (happening.Exited code) s = record {
  drafts = emit (exited code) ∷ emit terminated ∷ [];
  drops = true;
  after = record s { phase = Exited; references = without_references s.references; used = s.used + 2 };
}

abbrev pub after_poll_reply : Session → Reply → Made
after_poll_reply s (happened h) = after_happening h s
after_poll_reply s done = no_change s
after_poll_reply s (refused why) = no_change s

abbrev pub has_debuggee : Phase → Bool
has_debuggee phase = is_phase Running phase || is_phase Stopped phase

-- the debuggee is asked where there is one
abbrev pub polls : Session → Plan
polls s = if has_debuggee s.phase then asking to_poll (after_poll_reply s) else at_once (no_change s)
