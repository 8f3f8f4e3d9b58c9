-- A debuggee that may go on by itself while it is stopped, and keeps every law of a debuggee: for it the law on references fails.
use Rattle.std.specs.Prelude.{◌≡◌, ℕ, ◌+◌, ◌%◌, ◌^◌, Bool, true, false, ◌&&◌, List, [], ◌∷◌, Option, Some, None, Err, codes, pos, IsTrue, if◌then◌else◌}
use Rattle.std.specs.Ordering.{int_eq}
use Rattle.dap_command.specs.declared.source_key.SourceKey.{SourceKey}
use Rattle.dap_frame.specs.Settings.{Settings, AreInRange}
use Rattle.dap_debuggee.specs.KeepsLaws.{KeepsLaws}
use Rattle.dap_debuggee.specs.Laws.{Follows, is_short, may_answer, state_after, lines_after}
use Rattle.dap_debuggee.specs.Shown.{Shown, Act, to_assign, Reply, happened, without_reason, Last, asked_of_act}
use Rattle.dap_debuggee.specs.declared.answers.State.{State}
use Rattle.dap_debuggee.specs.declared.answers.State.TheVariants.{NotStarted, Running, Stopped, Gone}
use Rattle.dap_debuggee.specs.declared.answers.Thread.{Thread}
use Rattle.dap_body.specs.declared.failure.Failure.TheVariants.{StaleReference}
use Rattle.dap_envelope.specs.declared.message.Message.{Message}
use Rattle.dap_client.specs.Taking.{takes}
use Rattle.dap_client.specs.declared.fault.ClientFault.TheVariants.{ReferenceLimit}
use Rattle.dap_plan.specs.Handling.{refusal}
use Rattle.dap_query.specs.References.{AreLive}
use Rattle.dap_plan.specs.Session.{oldest}
use Rattle.dap_tables.specs.Outstanding.{Kept}
use Rattle.dap_world.specs.MessageReferences.{references_used_by_request}
use Rattle.dap_world.specs.World.{World, Schedule}

-- ---- the debuggee

pub record Restless : Type 0 where
  pub state : State
  pub lines : SourceKey → List ℕ
  pub acts : ℕ
  pub last : Option Last

abbrev pub threads_in : State → List Thread
threads_in NotStarted = []
threads_in Running = record { id = pos 1; name = codes "main"; more = [] } ∷ []
threads_in Stopped = record { id = pos 1; name = codes "main"; more = [] } ∷ []
threads_in Gone = []

-- one thread with one frame, and nothing in it
abbrev pub restless_shown : Restless → Shown
restless_shown v = record {
  state = v.state;
  lines = v.lines;
  acts = v.acts;
  last = v.last;
  threads = threads_in v.state;
  frames = λ thread. if int_eq thread (pos 1) then Some (record { object = 0; name = codes "main"; source = Some 0; line = 1; more = [] } ∷ []) else None;
  scopes = λ frame. None;
  children = λ holder. None;
  evaluate = λ frame text. None;
  assigned = λ holder name text. None;
  sources = record { name = codes "a.c"; path = Some (codes "/a.c"); on_disk = false; more = [] } ∷ [];
  content = λ index. None;
  verify = λ source lines. None;
  why = λ query. None;
}

-- it has no variable that could be set, and tells short texts
abbrev pub is_possible : Act → Reply → Bool
is_possible (to_assign holder name text) reply = false
is_possible act (happened h) = is_short h
is_possible act reply = true

abbrev pub restless_after : Restless → Act → Reply → Restless
restless_after v act reply = record {
  state = state_after v.state act reply;
  lines = lines_after act v.lines;
  acts = (v.acts + 1) % 2 ^ 64;
  last = Some (record { asked = asked_of_act act; reply = without_reason reply });
}

-- each reply that its state allows may come
abbrev pub RestlessFollows : Follows Restless
RestlessFollows old act reply new = IsTrue (may_answer old.state act reply && is_possible act reply) × (new ≡ restless_after old act reply)

-- ---- the law

-- a schedule leads to where the adapter refuses as stale what our client sent
pub record IsFoundStale (limits : Settings) (first : Restless) : Type 0 where
  pub world : World Restless
  pub schedule : Schedule restless_shown RestlessFollows limits first world
  -- the request that is answered next: a reference that it uses is dead
  pub request : Kept
  pub is_next : oldest world.adapter.session.kept ≡ Some request
  pub dead : AreLive world.adapter.session.references (references_used_by_request request.entry) → ⊥
  pub stale : refusal (restless_shown world.adapter.debuggee) world.adapter.session request.entry ≡ Some StaleReference

-- a schedule leads to where the message that comes next closes our client, which still knows a reference that is dead
pub record MeetsItsLimit (limits : Settings) (first : Restless) : Type 0 where
  pub world : World Restless
  pub schedule : Schedule restless_shown RestlessFollows limits first world
  pub message : Message
  pub later : List Message
  pub comes : world.down ≡ message ∷ later
  pub full : takes message world.client ≡ Err ReferenceLimit

pub record PremiseIsNeeded : Type 0 where
  pub laws : KeepsLaws restless_shown RestlessFollows
  pub limits : Settings
  pub in_range : AreInRange limits
  pub first : Restless
  pub not_started : first.state ≡ NotStarted
  pub stale : IsFoundStale limits first
  pub full : MeetsItsLimit limits first
