-- What holds of references in every schedule in which a stop lasts until the debuggee is asked to go on or to end.
-- Overview, "Lifetime of Objects References".
use Rattle.std.specs.Prelude.{◌≡◌, List, ◌∷◌, false, Some, Err}
use Rattle.std.specs.List.{AllByRecursion}
use Rattle.dap_frame.specs.Settings.{Settings, AreInRange}
use Rattle.dap_check.specs.Legal.{IsLegal}
use Rattle.dap_check.specs.declared.line.Line.{Line}
use Rattle.dap_check.specs.declared.rule.AnySeq.TheVariants.{OfNone}
use Rattle.dap_check.specs.declared.rule.Rule.TheVariants.{Reference}
use Rattle.dap_client.specs.Taking.{takes as client_takes}
use Rattle.dap_client.specs.declared.fault.ClientFault.{ClientFault}
use Rattle.dap_debuggee.specs.Laws.{ends_a_stop}
use Rattle.dap_debuggee.specs.Shown.{Shown}
use Rattle.dap_body.specs.declared.failure.Failure.TheVariants.{StaleReference}
use Rattle.dap_envelope.specs.declared.message.Message.{Message}
use Rattle.dap_plan.specs.Carried.{Goes}
use Rattle.dap_plan.specs.Handling.{refusal}
use Rattle.dap_query.specs.References.{AreLive}
use Rattle.dap_world.specs.MessageReferences.{references_used_by_request, references_used_by_kind}
use Rattle.dap_world.specs.Transcripts.{said_of, Keeps}
use Rattle.dap_world.specs.World.{World, Schedule}

-- ---- the premise

-- steps in which no poll ends a stop: while it is stopped the debuggee neither continues nor exits by itself
abbrev pub LastingStops : {D : Type 0} → (D → Shown) → Goes D → Goes D
LastingStops shown follows old act reply new = follows old act reply new × (ends_a_stop (shown old).state reply ≡ false)

-- ---- the law

-- of the client's requests that are kept by the adapter, and of those under way to it
pub record AllUseLive {D : Type 0} (w : World D) : Type 0 where
  pub kept : AllByRecursion (λ k. AreLive w.adapter.session.references (references_used_by_request k.entry)) w.adapter.session.kept
  pub up : AllByRecursion (λ m. AreLive w.adapter.session.references (references_used_by_kind m.kind)) w.up

pub record ReferencesAgree {D : Type 0} (shown : D → Shown) (w : World D) : Type 0 where
  -- from its sending until its answer all that a request uses is live at the adapter, in its kind
  pub live : AllUseLive w
  -- the adapter's own test finds none of what it keeps stale
  pub fresh : AllByRecursion (λ k. refusal (shown w.adapter.debuggee) w.adapter.session k.entry ≡ Some StaleReference → ⊥) w.adapter.session.kept
  -- the client never meets its limit of references, nor any other fault
  pub client : (m : Message) (later : List Message) (f : ClientFault) → w.down ≡ m ∷ later → client_takes m w.client ≡ Err f → ⊥
  -- in what both have written each reference was given, in its kind, since the debuggee last went on or ended
  pub given : (lines : List Line) → said_of lines ≡ w.said → Keeps Reference lines

-- with equal limits, in their ranges
abbrev pub ReferencesAgreeWhileStopsLast : {D : Type 0} → (D → Shown) → Goes D → Type 0
ReferencesAgreeWhileStopsLast {D} shown follows = (limits : Settings) (debuggee : D) (w : World D) → AreInRange limits → Schedule shown (LastingStops shown follows) limits debuggee w → ReferencesAgree shown w

-- then no line of what both have written breaks a rule
abbrev pub EachTranscriptIsLegalWhileStopsLast : {D : Type 0} → (D → Shown) → Goes D → Type 0
EachTranscriptIsLegalWhileStopsLast {D} shown follows = (limits : Settings) (debuggee : D) (w : World D) (lines : List Line) → AreInRange limits → Schedule shown (LastingStops shown follows) limits debuggee w → said_of lines ≡ w.said → IsLegal OfNone lines
