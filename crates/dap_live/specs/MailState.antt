-- What a host and its debuggee leave for each other, and what each of them puts there.
-- This profile's choice.
use Rattle.std.specs.Prelude.{Bool, true, false, List, [], ◌∷◌, ◌++◌, Option, Some, None, if◌then◌else◌}
use Rattle.std.specs.List.{last_or}
use Rattle.dap_live.specs.declared.mail.Coming.{Coming}
use Rattle.dap_live.specs.declared.mail.Dropped.{Dropped}
use Rattle.dap_live.specs.declared.mail.Ahead.{Ahead}
use Rattle.dap_live.specs.declared.mail.HostAct.{HostAct}
use Rattle.dap_live.specs.declared.mail.HostAct.TheVariants.{End}

pub record MailState : Type 0 where
  -- what the host said last, until the debuggee is asked what happened
  pub coming : Option Coming
  -- what the host said of the next message
  pub ahead : Ahead
  -- what the host has to do, in the order in which it was asked
  pub acts : List HostAct
  -- why what the host said last is dropped
  pub dropped : Option Dropped

abbrev pub nothing_ahead : Ahead
nothing_ahead = record { placed = None; refusal = None }

abbrev pub no_mail : MailState
no_mail = record { coming = None; ahead = nothing_ahead; acts = []; dropped = None }

-- what the host says comes in place of what it said before, and no reason outlives that
abbrev pub with_coming : Coming → MailState → MailState
with_coming coming m = record m { coming = Some coming; dropped = None }

abbrev pub with_ahead : Ahead → MailState → MailState
with_ahead ahead m = record m { ahead = ahead }

abbrev pub without_coming : MailState → MailState
without_coming m = record m { coming = None }

abbrev pub with_dropped : Option Dropped → MailState → MailState
with_dropped why m = record m { dropped = why }

abbrev pub without_acts : MailState → MailState
without_acts m = record m { acts = [] }

-- one more act, behind all others
abbrev pub with_act : HostAct → MailState → MailState
with_act act m = record m { acts = m.acts ++ act ∷ [] }

abbrev pub is_end : Option HostAct → Bool
is_end (Some End) = true
is_end _ = false

-- the end behind all others; asked again right behind an end, it is that end
abbrev pub and_end : List HostAct → List HostAct
and_end acts = if is_end (last_or None acts) then acts else acts ++ End ∷ []

abbrev pub with_end : MailState → MailState
with_end m = record m { acts = and_end m.acts }
