-- What closes an end in a world of bytes, and the law.
use Rattle.std.proofs.Common.{◌≡◌, ℕ, List, ◌∷◌, ◌++◌, length, Err, refl, sym, ap, ◌∙◌, inl, inr}
use Rattle.std.specs.Prelude.{◌⊎◌}
use Rattle.std.proofs.lemmas.List.{length-map}
use Rattle.dap_adapter.specs.AdapterState.{AdapterState, state_of}
use Rattle.dap_adapter.specs.Calls.{ClosedBy, TakeRefused, TurnRefused, PollRefused}
use Rattle.dap_client.specs.Calls.{ClosedBy as ClientClosedBy, TakeRefused as ClientTakeRefused}
use Rattle.dap_client.specs.Taking.{takes as client_takes}
use Rattle.dap_client.specs.declared.fault.ClientFault.{ClientFault}
use Rattle.dap_client.specs.declared.fault.ClientFault.TheVariants as client
use Rattle.dap_debuggee.specs.Shown.{Shown}
use Rattle.dap_frame.specs.Intake.{Intake}
use Rattle.dap_frame.specs.Laws.{EachStreamHasOneSplit}
use Rattle.dap_frame.specs.Settings.{Settings, AreInRange}
use Rattle.dap_history.specs.History.{ins_of}
use Rattle.dap_history.specs.Pieces.{Whole, FrameClosed, BodyRefused}
use Rattle.dap_envelope.specs.Canon.{canon}
use Rattle.dap_envelope.specs.Meaning.{Msg}
use Rattle.dap_envelope.specs.declared.message.Message.{Message}
use Rattle.dap_plan.specs.Carried.{Goes}
use Rattle.dap_plan.specs.declared.fault.AdapterFault.{AdapterFault}
use Rattle.dap_plan.specs.declared.fault.AdapterFault.TheVariants as adapter
use Rattle.dap_world.specs.Agreement.{MeetsNoFault, EachScheduleAgrees}
use Rattle.dap_world.specs.Moves.{MovesInOrder}
use Rattle.dap_world.specs.References.{LastingStops, ReferencesAgreeWhileStopsLast, EachTranscriptIsLegalWhileStopsLast}
use Rattle.dap_world.specs.Transcripts.{EachTranscriptKeepsRules}
use Rattle.dap_world.specs.World.{Schedule}
use Rattle.dap_world.proofs.LastingSchedules.{lasting, forgotten}
use Rattle.dap_ways.specs.Agreement.{AdapterMeetsNoOtherFault, IsOneOfMessages, world_of, AgreesInBytes, ReferencesAgreeInBytes, EachByteScheduleAgrees, ReferencesAgreeInBytesWhileStopsLast, ReferencesAgreeInBytesWhereStopsLast}
use Rattle.dap_ways.specs.ByteWorld.{ByteWorld}
use Rattle.dap_ways.specs.Carried.{AreUnderWay}
use Rattle.dap_ways.proofs.Carrying.{same-cut}
use Rattle.dap_ways.proofs.Stepping.{is-one-of-messages}

-- ---- what comes whole is the next message

-- the first one under way
pub record IsFirst (ms : List Message) (m : Message) : Type 0 where
  pub others : List Message
  pub first : ms ≡ m ∷ others

module _ (moves : MovesInOrder) (limits : Settings) (r : AreInRange limits) (i : Intake) (s later piece tail : List ℕ) (came ms : List Message) (e : later ≡ piece ++ tail) (c : AreUnderWay limits i s later came ms) where
  comes-first : (n : ℕ) (w : Whole i piece n) (m : Message) → Msg w.ready.held m → IsFirst ms m
  comes-first n w m read =
      let next = moves.next limits i s c.bodies c.rest later (came ++ ms) r c.way piece tail e n w m read in
      let long : length came ≡ length next.first = sym (length-map came canon) ∙ (ap length (sym c.whole ∙ next.came) ∙ length-map next.first canon) in
      record { others = next.others; first = (same-cut came ms next.first (m ∷ next.others) next.all long).back }

  no-frame : (fault : _) → FrameClosed i piece fault → ⊥
  no-frame fault f = moves.frame limits i s c.bodies c.rest later (came ++ ms) r c.way piece tail e fault f

  no-body : (cause : _) (offset : ℕ) → BodyRefused i piece cause offset → ⊥
  no-body cause offset b = moves.body limits i s c.bodies c.rest later (came ++ ms) r c.way piece tail e cause offset b

-- ---- faults

module _ {D : Type 0} (moves : MovesInOrder) (shown : D → Shown) (follows : Goes D) (limits : Settings) (debuggee : D) (r : AreInRange limits) (w : ByteWorld D) (g : IsOneOfMessages shown follows limits debuggee w) where
  -- of the client's message that closes an adapter
  adapter-closed : (piece later : List ℕ) (f : AdapterFault) → w.up ≡ piece ++ later → MeetsNoFault shown (world_of g) → ClosedBy w.adapter.intake w.adapter.session piece f → f ≡ adapter.SeqExhausted
  adapter-closed piece later f e none c =
      let first = comes-first moves limits r w.adapter.intake g.matches.adapter_used w.up piece later (ins_of g.matches.adapter_history) g.up e g.matches.up_is c.n c.whole c.message c.read in
      none.up c.message first.others f first.first c.closes

  adapter-refused : (piece later : List ℕ) (f : AdapterFault) (after : D) → w.up ≡ piece ++ later → MeetsNoFault shown (world_of g) → TakeRefused w.adapter.intake (state_of w.adapter) piece f after → (f ≡ adapter.SeqExhausted) ⊎ (f ≡ adapter.OutOfMemory)
  adapter-refused piece later (adapter.Frame fault) after e none h = absurd (no-frame moves limits r w.adapter.intake g.matches.adapter_used w.up piece later (ins_of g.matches.adapter_history) g.up e g.matches.up_is fault h)
  adapter-refused piece later (adapter.Body cause offset) after e none h = absurd (no-body moves limits r w.adapter.intake g.matches.adapter_used w.up piece later (ins_of g.matches.adapter_history) g.up e g.matches.up_is cause offset h)
  adapter-refused piece later adapter.OutOfMemory after e none h = inr refl
  adapter-refused piece later (adapter.RepeatedSeq q) after e none h = inl (adapter-closed piece later (adapter.RepeatedSeq q) e none h)
  adapter-refused piece later (adapter.Unmatched q) after e none h = inl (adapter-closed piece later (adapter.Unmatched q) e none h)
  adapter-refused piece later (adapter.CommandMismatch q) after e none h = inl (adapter-closed piece later (adapter.CommandMismatch q) e none h)
  adapter-refused piece later adapter.Ended after e none h = inl (adapter-closed piece later adapter.Ended e none h)
  adapter-refused piece later adapter.SeqExhausted after e none h = inl refl

  turn-refused : (f : AdapterFault) (after : AdapterState D) → MeetsNoFault shown (world_of g) → TurnRefused shown w.adapter f after → (f ≡ adapter.SeqExhausted) ⊎ (f ≡ adapter.OutOfMemory)
  turn-refused adapter.OutOfMemory after none h = inr refl
  turn-refused (adapter.Frame fault) after none h = inl (none.turn (adapter.Frame fault) h.0)
  turn-refused (adapter.Body cause offset) after none h = inl (none.turn (adapter.Body cause offset) h.0)
  turn-refused (adapter.RepeatedSeq q) after none h = inl (none.turn (adapter.RepeatedSeq q) h.0)
  turn-refused (adapter.Unmatched q) after none h = inl (none.turn (adapter.Unmatched q) h.0)
  turn-refused (adapter.CommandMismatch q) after none h = inl (none.turn (adapter.CommandMismatch q) h.0)
  turn-refused adapter.Ended after none h = inl (none.turn adapter.Ended h.0)
  turn-refused adapter.SeqExhausted after none h = inl refl

  poll-refused : (f : AdapterFault) (after : AdapterState D) → PollRefused follows w.adapter f after → (f ≡ adapter.SeqExhausted) ⊎ (f ≡ adapter.OutOfMemory)
  poll-refused adapter.OutOfMemory after h = inr refl
  poll-refused adapter.SeqExhausted after h = inl refl
  poll-refused (adapter.Frame fault) after h = absurd h
  poll-refused (adapter.Body cause offset) after h = absurd h
  poll-refused (adapter.RepeatedSeq q) after h = absurd h
  poll-refused (adapter.Unmatched q) after h = absurd h
  poll-refused (adapter.CommandMismatch q) after h = absurd h
  poll-refused adapter.Ended after h = absurd h

  pub adapter-meets : MeetsNoFault shown (world_of g) → AdapterMeetsNoOtherFault shown follows w
  adapter-meets none =
      record {
        take = λ piece later f after e h. adapter-refused piece later f after e none h;
        turn = λ f after h. turn-refused f after none h;
        poll = poll-refused;
      }

  -- of what a message that comes next would be refused for
  abbrev OnlyFor : (ClientFault → Type 0) → Type 0
  OnlyFor P = (m : Message) (later : List Message) (f : ClientFault) → g.down ≡ m ∷ later → client_takes m w.client.session ≡ Err f → P f

  client-closed : (P : ClientFault → Type 0) (piece later : List ℕ) (f : ClientFault) → w.down ≡ piece ++ later → OnlyFor P → ClientClosedBy w.client.intake w.client.session piece f → P f
  client-closed P piece later f e only c =
      let first = comes-first moves limits r w.client.intake g.matches.client_used w.down piece later (ins_of g.matches.client_history) g.down e g.matches.down_is c.n c.whole c.message c.read in
      only c.message first.others f first.first c.closes

  pub client-refused : (P : ClientFault → Type 0) (piece later : List ℕ) (f : ClientFault) → w.down ≡ piece ++ later → OnlyFor P → ClientTakeRefused w.client.intake w.client.session piece f → P f ⊎ (f ≡ client.OutOfMemory)
  client-refused P piece later (client.Frame fault) e only h = absurd (no-frame moves limits r w.client.intake g.matches.client_used w.down piece later (ins_of g.matches.client_history) g.down e g.matches.down_is fault h)
  client-refused P piece later (client.Body cause offset) e only h = absurd (no-body moves limits r w.client.intake g.matches.client_used w.down piece later (ins_of g.matches.client_history) g.down e g.matches.down_is cause offset h)
  client-refused P piece later client.OutOfMemory e only h = inr refl
  client-refused P piece later (client.RepeatedSeq q) e only h = inl (client-closed P piece later (client.RepeatedSeq q) e only h)
  client-refused P piece later (client.Unmatched q) e only h = inl (client-closed P piece later (client.Unmatched q) e only h)
  client-refused P piece later (client.CommandMismatch q) e only h = inl (client-closed P piece later (client.CommandMismatch q) e only h)
  client-refused P piece later client.ReferenceLimit e only h = inl (client-closed P piece later client.ReferenceLimit e only h)
  client-refused P piece later client.SeqExhausted e only h = inl (client-closed P piece later client.SeqExhausted e only h)

-- ---- the law

only-memory : (f : ClientFault) → ⊥ ⊎ (f ≡ client.OutOfMemory) → f ≡ client.OutOfMemory
only-memory f (inl h) = absurd h
only-memory f (inr e) = e

-- of one schedule of messages
abbrev agrees-so : {D : Type 0} (moves : MovesInOrder) (shown : D → Shown) (follows : Goes D) (limits : Settings) (debuggee : D) (w : ByteWorld D) → AreInRange limits → EachScheduleAgrees shown follows → EachTranscriptKeepsRules shown follows → IsOneOfMessages shown follows limits debuggee w → AgreesInBytes shown follows limits debuggee w
agrees-so moves shown follows limits debuggee w r agree keep g =
    let a = agree limits debuggee (world_of g) r g.schedule in
    record {
      messages = g;
      agrees = a;
      rules = λ lines e. keep limits debuggee (world_of g) lines r g.schedule e;
      adapter = adapter-meets moves shown follows limits debuggee r w g a.fault;
      client = λ piece later f e h. client-refused moves shown follows limits debuggee r w g (λ x. x ≡ client.ReferenceLimit) piece later f e a.fault.down h;
    }

pub each-byte-schedule-agrees : {D : Type 0} (split : EachStreamHasOneSplit) (moves : MovesInOrder) (shown : D → Shown) (follows : Goes D) → EachScheduleAgrees shown follows → EachTranscriptKeepsRules shown follows → EachByteScheduleAgrees shown follows
each-byte-schedule-agrees split moves shown follows agree keep =
    λ limits debuggee w r s. agrees-so moves shown follows limits debuggee w r agree keep (is-one-of-messages split moves shown follows limits debuggee r w s)

-- and of references
references-so : {D : Type 0} (moves : MovesInOrder) (shown : D → Shown) (follows : Goes D) (limits : Settings) (debuggee : D) (w : ByteWorld D) → AreInRange limits → EachScheduleAgrees shown follows → EachTranscriptKeepsRules shown follows → ReferencesAgreeWhileStopsLast shown follows → EachTranscriptIsLegalWhileStopsLast shown follows
    → (g : IsOneOfMessages shown follows limits debuggee w) → Schedule shown (LastingStops shown follows) limits debuggee (world_of g) → ReferencesAgreeInBytes shown follows limits debuggee w
references-so moves shown follows limits debuggee w r agree keep refs legal g s =
    let a = refs limits debuggee (world_of g) r s in
    record {
      all = agrees-so moves shown follows limits debuggee w r agree keep g;
      references = a;
      legal = λ lines e. legal limits debuggee (world_of g) lines r s e;
      client = λ piece later f e h. only-memory f (client-refused moves shown follows limits debuggee r w g (λ x. ⊥) piece later f e a.client h);
    }

pub references-agree-in-bytes : {D : Type 0} (split : EachStreamHasOneSplit) (moves : MovesInOrder) (shown : D → Shown) (follows : Goes D) → EachScheduleAgrees shown follows → EachTranscriptKeepsRules shown follows → ReferencesAgreeWhileStopsLast shown follows → EachTranscriptIsLegalWhileStopsLast shown follows
    → ReferencesAgreeInBytesWhileStopsLast shown follows
references-agree-in-bytes split moves shown follows agree keep refs legal =
    λ limits debuggee w r s.
    let g = is-one-of-messages split moves shown (LastingStops shown follows) limits debuggee r w s in
    let all : IsOneOfMessages shown follows limits debuggee w = record { up = g.up; down = g.down; said = g.said; schedule = forgotten shown follows limits debuggee (world_of g) g.schedule; matches = g.matches; none_up = g.none_up; none_down = g.none_down } in
    references-so moves shown follows limits debuggee w r agree keep refs legal all g.schedule

pub references-agree-where-stops-last : {D : Type 0} (split : EachStreamHasOneSplit) (moves : MovesInOrder) (shown : D → Shown) (follows : Goes D) → EachScheduleAgrees shown follows → EachTranscriptKeepsRules shown follows → ReferencesAgreeWhileStopsLast shown follows → EachTranscriptIsLegalWhileStopsLast shown follows
    → ReferencesAgreeInBytesWhereStopsLast shown follows
references-agree-where-stops-last split moves shown follows agree keep refs legal =
    λ stops limits debuggee w r s.
    let g = is-one-of-messages split moves shown follows limits debuggee r w s in
    references-so moves shown follows limits debuggee w r agree keep refs legal g (lasting shown follows limits debuggee (world_of g) stops g.schedule)
