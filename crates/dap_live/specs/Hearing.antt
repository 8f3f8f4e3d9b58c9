-- What comes of what a host says, once the debuggee is asked what happened: what is told, why it is dropped, and what is known and shown then.
-- This profile's choice.
use Rattle.std.specs.Prelude.{ℕ, List, [], ◌++◌, Option, Some, None, option_map}
use Rattle.dap_debuggee.specs.declared.answers.Happening.{Happening}
use Rattle.dap_debuggee.specs.declared.answers.Happening.TheVariants as happening
use Rattle.dap_debuggee.specs.declared.answers.Variable.{Variable}
use Rattle.dap_recording.specs.Variables.{with_variables}
use Rattle.dap_recording.specs.declared.recording.RecordedSource.{RecordedSource}
use Rattle.dap_live.specs.declared.held.Learned.{Learned}
use Rattle.dap_live.specs.declared.here.Here.{Here}
use Rattle.dap_live.specs.declared.mail.Coming.{Coming}
use Rattle.dap_live.specs.declared.mail.Coming.TheVariants as coming
use Rattle.dap_live.specs.declared.mail.Dropped.{Dropped}
use Rattle.dap_live.specs.Dropping.{unless_dropped, why_unheard}
use Rattle.dap_live.specs.LiveShown.{LiveState}

-- ---- what is told

-- what happens by what a host says
abbrev pub happening_by : Coming → Happening
happening_by (coming.Output category text more) = happening.Output category text more
happening_by (coming.Stopped reason thread shows later more) = happening.Stopped reason thread more
happening_by (coming.Continued thread) = happening.Continued thread
happening_by (coming.Exited code) = happening.Exited code
happening_by (coming.Learned text value holder more) = happening.Nothing
happening_by (coming.NoValue text why) = happening.Nothing
happening_by (coming.Variables holder variables) = happening.Nothing
happening_by (coming.Sources more) = happening.Nothing

-- why a host that said this, or nothing, is not heard
abbrev pub why_not_heard : Option Coming → LiveState → Option Dropped
why_not_heard None v = None
why_not_heard (Some c) v = why_unheard c v

-- what a poll gives of it: just that, unless it is dropped; nothing where nothing came
abbrev pub told_by : Option Coming → LiveState → Happening
told_by None v = happening.Nothing
told_by (Some c) v = unless_dropped (why_unheard c v) (happening_by c)

-- ---- what is known of a text

-- nothing but what was told with it
abbrev pub learned_with : Coming → Option Learned
learned_with (coming.Learned text value holder more) = Some (record { text = text; value = value; holder = holder; more = more; why = None })
learned_with (coming.NoValue text why) = Some (record { text = text; value = None; holder = None; more = None; why = Some why })
learned_with _ = None

abbrev pub learned_by : Option Coming → Option Learned
learned_by None = None
learned_by (Some c) = learned_with c

-- ---- what is shown

-- variables of a holder, before what the moment has
abbrev pub with_told : ℕ → List Variable → Option Here → Option Here
with_told holder variables here = option_map (λ (h : Here). record h { told = with_variables holder variables h.told }) here

-- the moment of a stop is shown, of which nothing is told yet, and variables that are told, where these are not dropped; else what was
abbrev pub here_with : Coming → Option Dropped → Option Here → Option Here
here_with (coming.Stopped reason thread shows later more) None here = Some (record { moment = shows; later = later; told = [] })
here_with (coming.Variables holder variables) None here = with_told holder variables here
here_with _ _ here = here

abbrev pub here_by : Option Coming → Option Dropped → Option Here → Option Here
here_by None why here = here
here_by (Some c) why here = here_with c why here

-- ---- sources

-- they come behind those there were, where they are not dropped
abbrev pub sources_with : Coming → Option Dropped → List RecordedSource → List RecordedSource
sources_with (coming.Sources more) None sources = sources ++ more
sources_with _ _ sources = sources

abbrev pub sources_by : Option Coming → Option Dropped → List RecordedSource → List RecordedSource
sources_by None why sources = sources
sources_by (Some c) why sources = sources_with c why sources
