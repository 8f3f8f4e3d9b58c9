-- What a call comes to: what is written, what is left, and what the debuggee is asked before.
use Rattle.std.specs.Prelude.{ℕ, ◌+◌, List, [], ◌∷◌, ◌++◌, length, Bool, true, false, nat_le, Result, Ok, Err, if◌then◌else◌}
use Rattle.dap_history.specs.History.{Entry, ReferencesEnd}
use Rattle.dap_envelope.specs.declared.message.Message.{Message}
use Rattle.dap_tables.specs.Outstanding.{without}
use Rattle.dap_tables.specs.declared.entry.Entry.{Entry as Request}
use Rattle.dap_debuggee.specs.Shown.{Act, Reply, done}
use Rattle.dap_outbox.specs.Draft.{Answer, Draft, reply, numbered_messages, outs}
use Rattle.dap_plan.specs.declared.fault.AdapterFault.{AdapterFault}
use Rattle.dap_plan.specs.declared.fault.AdapterFault.TheVariants.{SeqExhausted}
use Rattle.dap_plan.specs.Session.{Session}

-- what is written, whether all references die before, and the session afterwards
pub record Made : Type 0 where
  pub drafts : List Draft
  pub drops : Bool
  pub after : Session

-- the messages of a step, with the own numbers after the last one used
abbrev pub written_by : Session → Made → List Message
written_by s m = numbered_messages s.used m.drafts

-- what is made at once, or what the debuggee is asked, and what is made of each reply
pub data Plan : Type 0 where
  at_once : Made → Plan
  asking : Act → (Reply → Made) → Plan

-- nothing is written and nothing changes
abbrev pub no_change : Session → Made
no_change s = record { drafts = []; drops = false; after = s }

-- one request is answered, and kept no more
abbrev pub after_answering : Request → Answer → Session → Made
after_answering r answer s = record { drafts = reply r answer ∷ []; drops = false; after = record s { kept = without r.seq s.kept; used = s.used + 1 } }

-- how many messages it takes, whatever the debuggee replies
abbrev pub messages_due : Plan → ℕ
messages_due (at_once m) = length m.drafts
messages_due (asking act makes) = length (makes done).drafts

-- unless it takes more messages than own numbers are left
abbrev pub plan_within_numbers : Session → Plan → Result Plan AdapterFault
plan_within_numbers s plan = if nat_le (s.used + messages_due plan) s.limits.seq then Ok plan else Err SeqExhausted

abbrev pub references_end_if : Bool → List Entry
references_end_if true = ReferencesEnd ∷ []
references_end_if false = []

-- its entries in the history: the end of the references, then what is written
abbrev pub entries_of : ℕ → Made → List Entry
entries_of used m = references_end_if m.drops ++ outs used m.drafts
