-- What private functions give and leave that hear what a host said. Only private clauses cite this file.
use Rattle.std.specs.Prelude.{◌+◌, ◌%◌, ◌^◌, Option, Some, None}
use Rattle.dap_debuggee.specs.Laws.{state_after}
use Rattle.dap_debuggee.specs.Shown.{to_poll, happened}
use Rattle.dap_debuggee.specs.declared.answers.Asked.TheVariants as ask
use Rattle.dap_debuggee.specs.declared.answers.Happening.{Happening}
use Rattle.dap_debuggee.specs.declared.answers.Happening.TheVariants as happening
use Rattle.dap_live.specs.declared.held.Heard.{Heard}
use Rattle.dap_live.specs.declared.mail.Coming.{Coming}
use Rattle.dap_live.specs.declared.mail.Dropped.{Dropped}
use Rattle.dap_live.specs.Dropping.{heard, why_dropped}
use Rattle.dap_live.specs.Hearing.{told_by, why_not_heard, learned_by, here_by, sources_by}
use Rattle.dap_live.specs.LiveLaws.{noted}
use Rattle.dap_live.specs.LiveShown.{LiveState}

-- a poll that gives this, counted and remembered
abbrev pub polled : Happening → LiveState → LiveState
polled h v = noted (record { asked = ask.Poll; reply = happened h }) v

abbrev pub dropped_so : Dropped → Heard
dropped_so why = record { happening = happening.Nothing; dropped = Some why }

-- what comes of what happens, where it is no stop
abbrev pub heard_in : LiveState → Happening → Heard
heard_in v h = record { happening = heard v.state h; dropped = why_dropped v.state h }

abbrev pub after_happening : Happening → LiveState → LiveState
after_happening h v = polled (heard v.state h) (record v { state = state_after v.state to_poll (happened (heard v.state h)); learned = None })

-- what comes of what a host said, or of nothing
abbrev pub heard_of : Option Coming → LiveState → Heard
heard_of c v = record { happening = told_by c v; dropped = why_not_heard c v }

-- all but the mail
abbrev pub after_hearing : Option Coming → LiveState → LiveState
after_hearing c v = record {
  sources = sources_by c (why_not_heard c v) v.sources;
  here = here_by c (why_not_heard c v) v.here;
  learned = learned_by c;
  state = state_after v.state to_poll (happened (told_by c v));
  set = v.set;
  acts = (v.acts + 1) % 2 ^ 64;
  last = Some (record { asked = ask.Poll; reply = happened (told_by c v) });
  mail = v.mail;
}
