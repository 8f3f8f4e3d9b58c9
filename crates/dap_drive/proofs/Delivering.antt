-- A message that is under way is delivered, and what is written then is under way; or why it is not.
use Rattle.std.proofs.Common.{◌≡◌, ◌≢◌, ℕ, ◌<◌, List, [], ◌∷◌, ◌++◌, length, map, take, drop, Option, Some, None, Ok, Err, refl, sym, ap, ◌∙◌, subst, arith, append-nil, inl, inr}
use Rattle.std.specs.Prelude.{◌⊎◌}
use Rattle.dap_frame.specs.Intake.{Intake, StandsFor as StandsForStream}
use Rattle.dap_frame.specs.Settings.{Settings, AreInRange, bounds_of}
use Rattle.dap_frame.specs.Written.{frame_of}
use Rattle.dap_history.specs.History.{Entry, In}
use Rattle.dap_history.specs.Pieces.{Whole}
use Rattle.dap_envelope.specs.Canon.{canon}
use Rattle.dap_envelope.specs.Laws.{IsOneMessage, IsOneRefusal}
use Rattle.dap_envelope.specs.Meaning.{Msg}
use Rattle.dap_envelope.specs.ReadBack.{ReadsBack, AllReadBack}
use Rattle.dap_envelope.specs.Refusals.{Bad}
use Rattle.dap_envelope.specs.declared.fault.BodyRefusal.{BodyRefusal}
use Rattle.dap_envelope.specs.declared.message.Message.{Message}
use Rattle.dap_plan.specs.Carried.{CarriedOut}
use Rattle.dap_plan.specs.Plan.{Plan, written_by, entries_of}
use Rattle.dap_outbox.specs.Draft.{bytes_of}
use Rattle.dap_plan.specs.SessionState.{SessionState, SessionStep}
use Rattle.dap_plan.specs.Session.{Session}
use Rattle.dap_plan.specs.Taking.{takes}
use Rattle.dap_plan.specs.declared.fault.AdapterFault.{AdapterFault}
use Rattle.dap_plan.specs.declared.fault.AdapterFault.TheVariants as adapter_fault
use Rattle.dap_adapter.specs.Calls.{Step, Takes as AdapterTakes, Delivers as AdapterDelivers, ClosedBy as AdapterClosedBy, TakeRefused as AdapterTakeRefused}
use Rattle.dap_adapter.specs.AdapterState.{AdapterState, state_of}
use Rattle.dap_adapter.specs.Run.{to_take}
use Rattle.dap_adapter.specs.declared.taken.Taken.{Taken}
use Rattle.dap_check.specs.declared.line.Side.{Side}
use Rattle.dap_check.specs.declared.line.Side.TheVariants.{Client, Adapter}
use Rattle.dap_client.specs.Calls.{Takes as ClientTakes, Delivers as ClientDelivers, ClosedBy as ClientClosedBy, TakeRefused as ClientTakeRefused}
use Rattle.dap_client.specs.ClientState.{ClientState}
use Rattle.dap_client.specs.Session.{Session as ClientSession}
use Rattle.dap_client.specs.Taking.{takes as client_takes, entries_of as client_entries}
use Rattle.dap_client.specs.declared.fault.ClientFault.{ClientFault}
use Rattle.dap_client.specs.declared.fault.ClientFault.TheVariants as client_fault
use Rattle.dap_client.specs.declared.got.Got.{Got}
use Rattle.dap_world.specs.Agreement.{AllArrive, EachScheduleAgrees}
use Rattle.dap_world.specs.World.{World, Said, said_by, client_said, adapter_said, ComesUp, ComesDown, by_coming_up, by_coming_down, goes}
use Rattle.dap_drive.specs.PrivateFaults.{FrameLaws, fault_of_client, fault_of_adapter}
use Rattle.dap_drive.specs.PrivateFrames.{AreFrames, AreFramesOf}
use Rattle.dap_drive.specs.PrivateHeld.{Driving, BothEnds, IsClientAt, IsAdapterAt, HasDelivered, StopsOn, Delivering}
use Rattle.dap_drive.specs.Driven.{AdapterStops, ClientStops}
use Rattle.dap_drive.specs.PrivateLines.{IsBetween, WritesLines, IsUnwritten, lines_of}
use Rattle.dap_drive.specs.Orders.{one_up, one_down}
use Rattle.dap_drive.specs.Transcript.{text_of}
use Rattle.dap_drive.specs.declared.fault.DriveFault.{DriveFault}
use Rattle.dap_drive.specs.declared.fault.DriveFault.TheVariants as drive_fault
use Rattle.dap_drive.specs.declared.writing.Unwritten.{Unwritten}
use Rattle.dap_drive.specs.declared.writing.Unwritten.TheVariants as unwritten
use Rattle.dap_drive.proofs.Streams.{joined, first_is, not_waiting, not_closed, completed, between_again, between_still, same_bodies, none as no_frames}
use Rattle.dap_drive.proofs.LinesWritten.{text_append, text_of_messages}

-- ---- messages and their frames

texts_append : (xs ys : List Message) → map canon (xs ++ ys) ≡ map canon xs ++ map canon ys
texts_append [] ys = refl
texts_append (x ∷ xs) ys = ap (λ (z : List (List ℕ)). canon x ∷ z) (texts_append xs ys)

-- the frames of messages are bytes of one more way
pub more_frames : (limits : Settings) (xs ys : List Message) (s t : List ℕ) → AreFramesOf limits xs s → AreFramesOf limits ys t → AreFramesOf limits (xs ++ ys) (s ++ t)
more_frames limits xs ys s t f g =
    subst (λ (z : List (List ℕ)). AreFrames limits z (s ++ t)) (sym (texts_append xs ys)) (joined (bounds_of limits) (map canon xs) (map canon ys) [] s t f g)

-- bytes are frames of some message
pub some_message : (limits : Settings) (ms : List Message) (rest : List ℕ) → AreFramesOf limits ms rest → 0 < length rest → (x : Message) × (xs : List Message) × (ms ≡ x ∷ xs)
some_message limits [] rest e h = absurd (omega (arith, ap length e))
some_message limits (x ∷ xs) rest f h = (x, xs, refl)

same_message : (body : List ℕ) (m n : Message) → IsOneMessage body ⊎ IsOneRefusal body → Msg body m → Msg body n → m ≡ n
same_message body m n (inl o) h g = o.no_other m h ∙ sym (o.no_other n g)
same_message body m n (inr o) h g = absurd (o.no_message m h)

not_both : (body : List ℕ) (m : Message) (cause : BodyRefusal) → IsOneMessage body ⊎ IsOneRefusal body → Msg body m → Bad body cause → ⊥
not_both body m cause (inl o) h b = o.no_refusal cause b
not_both body m cause (inr o) h b = o.no_message m h

-- the lines of what is framed are written, but where memory is refused
pub memory_alone : (f : Unwritten) (stops : DriveFault) (i : Intake) (bytes : List ℕ) → IsUnwritten f i bytes → (f ≡ unwritten.OutOfMemory → stops ≡ drive_fault.OutOfMemory) → (IsUnwritten unwritten.Frames i bytes → ⊥) → stops ≡ drive_fault.OutOfMemory
memory_alone unwritten.Frames stops i bytes is memory framed = absurd (framed is)
memory_alone unwritten.OutOfMemory stops i bytes is memory framed = memory refl

pub header : (limits : Settings) → AreInRange limits → 0 < (bounds_of limits).header
header limits r = omega (arith, r.header.0)

module _ (laws : FrameLaws) (limits : Settings) where
  -- what is read back is framed
  pub frames_of : (ms : List Message) → AreInRange limits → AllReadBack limits.body ms → AreFramesOf limits ms (bytes_of ms)
  frames_of [] r h = refl
  frames_of (m ∷ ms) r h = (frame_of (canon m), bytes_of ms, refl, laws.written.frame (bounds_of limits) (canon m) r.header.0 r.body.1 h.0.fits, frames_of ms r h.1)

  -- bytes of messages, and the lines that are written of them
  pub record IsWritten (side : Side) (ms : List Message) (bytes before after : List ℕ) : Type 0 where
    pub frames : AreFramesOf limits ms bytes
    pub lines : after ≡ before ++ text_of (said_by side ms)

  pub written : (side : Side) (ms : List Message) (bytes before after : List ℕ) (later : Intake) → AreInRange limits → AllReadBack limits.body ms → bytes ≡ bytes_of ms → WritesLines limits later side bytes before after → IsWritten side ms bytes before after
  written side ms bytes before after later r h e w =
      let frames : AreFramesOf limits ms bytes = subst (λ (z : List ℕ). AreFramesOf limits ms z) (sym e) (frames_of ms r h) in
      let same : w.bodies ≡ map canon ms = same_bodies laws.one_split (bounds_of limits) w.bodies (map canon ms) bytes w.frames frames (no_frames laws.one_split (bounds_of limits)) in
      record { frames = frames; lines = w.lines ∙ ap (λ (z : List ℕ). before ++ z) (ap (λ (z : List (List ℕ)). lines_of side z) same ∙ text_of_messages side ms) }

  -- bytes of messages are written
  pub not_unwritten : (ms : List Message) (bytes : List ℕ) (i : Intake) → AreInRange limits → AllReadBack limits.body ms → bytes ≡ bytes_of ms → IsBetween limits i
      → IsUnwritten unwritten.Frames i bytes → ⊥
  not_unwritten ms bytes i r h e b refuses = refuses limits (map canon ms) r b (subst (λ (z : List ℕ). AreFramesOf limits ms z) (sym e) (frames_of ms r h))

  pub longer : (side : Side) (ms : List Message) (said : List Said) (before after : List ℕ) → before ≡ text_of said → after ≡ before ++ text_of (said_by side ms) → after ≡ text_of (said ++ said_by side ms)
  longer side ms said before after is e = e ∙ (ap (λ (z : List ℕ). z ++ text_of (said_by side ms)) is ∙ sym (text_append said (said_by side ms)))

  -- ---- what came to an end is whole frames

  client_bounds : (e : ClientState) (s : ClientSession) → IsClientAt limits e s → e.intake.bounds ≡ bounds_of limits
  client_bounds e s c = c.stands.bounds ∙ (ap (λ (x : ClientSession). bounds_of x.limits) c.session_is ∙ ap bounds_of c.limits_are)

  client_stream : (e : ClientState) (s : ClientSession) (c : IsClientAt limits e s) → StandsForStream e.intake c.came c.stands.received.bodies []
  client_stream e s c = subst (λ (z : List ℕ). StandsForStream e.intake c.came c.stands.received.bodies z) c.between c.stands.received.stream

  adapter_bounds : {D : Type 0} (e : AdapterState D) (p : SessionState D) → IsAdapterAt limits e p → e.intake.bounds ≡ bounds_of limits
  adapter_bounds e p a = a.stands.bounds ∙ (ap (λ (x : Session). bounds_of x.limits) a.session_is ∙ ap bounds_of a.limits_are)

  adapter_stream : {D : Type 0} (e : AdapterState D) (p : SessionState D) (a : IsAdapterAt limits e p) → StandsForStream e.intake a.came a.stands.received.bodies []
  adapter_stream e p a = subst (λ (z : List ℕ). StandsForStream e.intake a.came a.stands.received.bodies z) a.between a.stands.received.stream

  -- ---- the first message under way is the one that comes whole

  pub record IsFirst (x : Message) (xs : List Message) (held rest : List ℕ) (n : ℕ) : Type 0 where
    pub held_is : held ≡ canon x
    pub left : AreFramesOf limits xs (drop n rest)
    pub only : (m : Message) → Msg held m → m ≡ x
    pub good : (cause : BodyRefusal) → Bad held cause → ⊥

  first_whole : (i : Intake) (s : List ℕ) (bodies : List (List ℕ)) (x : Message) (xs : List Message) (rest : List ℕ) (n : ℕ) → i.bounds ≡ bounds_of limits → StandsForStream i s bodies [] → AreFramesOf limits (x ∷ xs) rest → ReadsBack limits.body x
      → (w : Whole i rest n) → IsFirst x xs w.ready.held rest n
  first_whole i s bodies x xs rest n bounds stream frames back w =
      let b = bounds_of limits in
      let frame = completed laws.one_split b i w.ready s bodies rest n bounds stream w.completes in
      let held = first_is laws.one_split b (canon x) w.ready.held (map canon xs) n rest frames frame in
      record {
        held_is = held.0;
        left = held.1;
        only = λ m read. same_message (canon x) m x (laws.one_message (canon x)) (subst (λ (z : List ℕ). Msg z m) held.0 read) back.reads;
        good = λ cause bad. not_both (canon x) x cause (laws.one_message (canon x)) back.reads (subst (λ (z : List ℕ). Bad z cause) held.0 bad);
      }

module _ {D : Type 0} (laws : FrameLaws) (drive : Driving D) (agrees : EachScheduleAgrees drive.shown drive.follows) (start : World D) where
  abbrev At : BothEnds D → List ℕ → List ℕ → Type 0
  At ends up down = HasDelivered drive start ends up down

  arrives : (ends : BothEnds D) (up down : List ℕ) (h : At ends up down) → AllArrive drive.limits h.world
  arrives ends up down h = (agrees drive.limits drive.debuggee h.world h.at.in_range h.at.schedule).arrives

  -- ---- the client takes a message

  first_down : (ends : BothEnds D) (up rest : List ℕ) (h : At ends up rest) → (x : Message) (xs : List Message) → h.world.down ≡ x ∷ xs → (n : ℕ) (w : Whole ends.client.intake rest n) → IsFirst laws drive.limits x xs w.ready.held rest n
  first_down ends up rest h x xs first n w =
      let c = h.at.client_at in
      let read : AllReadBack drive.limits.body (x ∷ xs) = subst (λ (z : List Message). AllReadBack drive.limits.body z) first (arrives ends up rest h).down in
      first_whole laws drive.limits ends.client.intake c.came c.stands.received.bodies x xs rest n (client_bounds laws drive.limits ends.client h.world.client c) (client_stream laws drive.limits ends.client h.world.client c) (subst (λ (z : List Message). AreFramesOf drive.limits z rest) first h.down_is) read.0 w

  down_delivered : (ends : BothEnds D) (next : ClientState) (up rest : List ℕ) (h : At ends up rest) → (x : Message) (xs : List Message) → h.world.down ≡ x ∷ xs
      → (got : Got) (m : Message) → ClientDelivers ends.client rest got m next → next.session.limits ≡ ends.client.session.limits
      → (later : Intake) (longer_transcript : List ℕ) → WritesLines drive.limits later Client got.bytes.items ends.transcript longer_transcript
      → At (record ends { client = next; reader = later; transcript = longer_transcript }) (up ++ got.bytes.items) (drop got.used rest)
  down_delivered ends next up rest h x xs first got m d keeps later longer_transcript w =
      let b = bounds_of drive.limits in
      let c = h.at.client_at in
      let is_first = first_down ends up rest h x xs first got.used d.whole in
      let same : m ≡ x = is_first.only m d.read in
      let stands = d.goes_on c.came c.history c.stands in
      let client_limits : ends.client.session.limits ≡ drive.limits = ap (λ (z : ClientSession). z.limits) c.session_is ∙ c.limits_are in
      let same_limits : next.session.limits ≡ drive.limits = keeps ∙ client_limits in
      let new_bounds : next.intake.bounds ≡ b = stands.bounds ∙ ap bounds_of same_limits in
      let back : AllReadBack drive.limits.body d.made.written = subst (λ (z : Settings). AllReadBack z.body d.made.written) client_limits d.reads_back in
      let lines = written laws drive.limits Client d.made.written got.bytes.items ends.transcript longer_transcript later h.at.in_range back d.bytes_are w in
      let world : World D = client_said d.made.after d.made.written (record h.world { down = xs }) in
      let step : ComesDown h.world world =
      record {
        message = x;
        later = xs;
        first = first;
        made = d.made;
        taken = subst (λ (z : Message). client_takes z h.world.client ≡ Ok d.made) same (subst (λ (z : ClientSession). client_takes m z ≡ Ok d.made) c.session_is d.is);
        reads_back = subst (λ (z : ClientSession). AllReadBack z.limits.body d.made.written) c.session_is d.reads_back;
        is = refl;
      } in
      record {
        world = world;
        delivers = one_down h.world world h.delivers step;
        at = record {
          in_range = h.at.in_range;
          schedule = goes h.world world h.at.schedule (by_coming_down step);
          client_at = record {
            session_is = d.session;
            limits_are = ap (λ (z : ClientSession). z.limits) (sym d.session) ∙ same_limits;
            came = c.came ++ take got.used rest;
            history = c.history ++ (In m ∷ client_entries d.made);
            stands = stands;
            between = between_again laws.one_split b ends.client.intake d.whole.ready next.intake c.came c.stands.received.bodies rest got.used stands.received.bodies stands.received.rest (client_bounds laws drive.limits ends.client h.world.client c) (client_stream laws drive.limits ends.client h.world.client c) d.whole.completes new_bounds stands.received.stream;
          };
          adapter_at = h.at.adapter_at;
          reader_at = w.between;
          transcript_is = longer laws drive.limits Client d.made.written h.world.said ends.transcript longer_transcript h.at.transcript_is lines.lines;
        };
        up_is = more_frames drive.limits h.world.up d.made.written up got.bytes.items h.up_is lines.frames;
        down_is = is_first.left;
      }

  pub took_down : (ends : BothEnds D) (next : ClientState) (up rest : List ℕ) → At ends up rest
      → 0 < length rest → (got : Got) (delivered : Option Message) → ClientTakes ends.client rest got delivered next → next.session.limits ≡ ends.client.session.limits
      → (later : Intake) (longer_transcript : List ℕ) → (IsBetween drive.limits ends.reader → WritesLines drive.limits later Client got.bytes.items ends.transcript longer_transcript)
      → At (record ends { client = next; reader = later; transcript = longer_transcript }) (up ++ got.bytes.items) (drop got.used rest)
  took_down ends next up rest h some got None t keeps later longer_transcript w =
      let c = h.at.client_at in
      let m = some_message drive.limits h.world.down rest h.down_is some in
      absurd (not_waiting laws.one_split (bounds_of drive.limits) ends.client.intake next.intake c.came c.stands.received.bodies rest got.used (canon m.0) (map canon m.1) (client_bounds laws drive.limits ends.client h.world.client c) (client_stream laws drive.limits ends.client h.world.client c) t.gathers (subst (λ (z : List Message). AreFramesOf drive.limits z rest) m.2 h.down_is))
  took_down ends next up rest h some got (Some m) t keeps later longer_transcript w =
      let first = some_message drive.limits h.world.down rest h.down_is some in
      down_delivered ends next up rest h first.0 first.1 first.2 got m t keeps later longer_transcript (w h.at.reader_at)

  -- the same of the bytes as the code has them
  pub heard : (ends : BothEnds D) (next : ClientState) (up rest : List ℕ) → At ends up rest
      → 0 < length rest → (got : Got) (delivered : Option Message) → ClientTakes ends.client rest got delivered next → next.session.limits ≡ ends.client.session.limits
      → (later : Intake) (longer_transcript bytes more : List ℕ) (n : ℕ) → n ≡ got.used → bytes ≡ got.bytes.items → more ≡ up ++ bytes → (IsBetween drive.limits ends.reader → WritesLines drive.limits later Client bytes ends.transcript longer_transcript)
      → At (record ends { client = next; reader = later; transcript = longer_transcript }) more (drop n rest)
  heard ends next up rest h some got delivered t keeps later longer_transcript bytes more n used is sum w =
      let all : more ≡ up ++ got.bytes.items = sum ∙ ap (λ (z : List ℕ). up ++ z) is in
      subst (λ (z : List ℕ). At (record ends { client = next; reader = later; transcript = longer_transcript }) z (drop n rest)) (sym all)
      (subst (λ (z : ℕ). At (record ends { client = next; reader = later; transcript = longer_transcript }) (up ++ got.bytes.items) (drop z rest)) (sym used)
      (took_down ends next up rest h some got delivered t keeps later longer_transcript (λ b. subst (λ (z : List ℕ). WritesLines drive.limits later Client z ends.transcript longer_transcript) is (w b))))

  -- what the client wrote is framed
  pub heard_framed : (ends : BothEnds D) (next : ClientState) (up rest : List ℕ) → At ends up rest → (got : Got) (delivered : Option Message) → ClientTakes ends.client rest got delivered next
      → (bytes : List ℕ) → bytes ≡ got.bytes.items → IsUnwritten unwritten.Frames ends.reader bytes → ⊥
  heard_framed ends next up rest h got None t bytes is refuses = not_unwritten laws drive.limits [] bytes ends.reader h.at.in_range tt (is ∙ t.none_written) h.at.reader_at refuses
  heard_framed ends next up rest h got (Some m) t bytes is refuses =
      let c = h.at.client_at in
      let client_limits : ends.client.session.limits ≡ drive.limits = ap (λ (z : ClientSession). z.limits) c.session_is ∙ c.limits_are in
      not_unwritten laws drive.limits t.made.written bytes ends.reader h.at.in_range (subst (λ (z : Settings). AllReadBack z.body t.made.written) client_limits t.reads_back) (is ∙ t.bytes_are) h.at.reader_at refuses

  -- ---- why the client does not

  client_closed : (ends : BothEnds D) (up rest : List ℕ) (h : At ends up rest) → 0 < length rest → (f : ClientFault) → ClientClosedBy ends.client.intake ends.client.session rest f
      → ClientStops (Delivering drive.follows start) ends.adapter.debuggee
  client_closed ends up rest h some f t =
      let first = some_message drive.limits h.world.down rest h.down_is some in
      let is_first = first_down ends up rest h first.0 first.1 first.2 t.n t.whole in
      let closes : client_takes first.0 h.world.client ≡ Err f = subst (λ (z : Message). client_takes z h.world.client ≡ Err f) (is_first.only t.message t.read) (subst (λ (z : ClientSession). client_takes t.message z ≡ Err f) h.at.client_at.session_is t.closes) in
      let limit : f ≡ client_fault.ReferenceLimit = (agrees drive.limits drive.debuggee h.world h.at.in_range h.at.schedule).fault.down first.0 first.1 f first.2 closes in
      record {
        now = h.world;
        reaches = (refl, h.delivers);
        has = (first.0, first.1, first.2, subst (λ (z : ClientFault). client_takes first.0 h.world.client ≡ Err z) limit closes);
        left_is = h.at.adapter_at.debuggee_is;
      }

  pub client_stops : (ends : BothEnds D) (up rest : List ℕ) (h : At ends up rest) → 0 < length rest → (f : ClientFault) → ClientTakeRefused ends.client.intake ends.client.session rest f → StopsOn drive.shown drive.follows (Delivering drive.follows start) (fault_of_client f) ends.adapter.debuggee
  client_stops ends up rest h some (client_fault.Frame fault) t =
      let c = h.at.client_at in
      absurd (not_closed laws.one_split (bounds_of drive.limits) laws.moves ends.client.intake t.closed c.came c.stands.received.bodies rest fault (map canon h.world.down) (header drive.limits h.at.in_range) (client_bounds laws drive.limits ends.client h.world.client c) (client_stream laws drive.limits ends.client h.world.client c) t.closes h.down_is)
  client_stops ends up rest h some (client_fault.Body cause offset) t =
      let first = some_message drive.limits h.world.down rest h.down_is some in
      let is_first = first_down ends up rest h first.0 first.1 first.2 t.n t.whole in
      absurd (is_first.good cause t.bad)
  client_stops ends up rest h some (client_fault.Unmatched q) t = client_closed ends up rest h some (client_fault.Unmatched q) t
  client_stops ends up rest h some (client_fault.CommandMismatch q) t = client_closed ends up rest h some (client_fault.CommandMismatch q) t
  client_stops ends up rest h some (client_fault.RepeatedSeq q) t = client_closed ends up rest h some (client_fault.RepeatedSeq q) t
  client_stops ends up rest h some client_fault.ReferenceLimit t = client_closed ends up rest h some client_fault.ReferenceLimit t
  client_stops ends up rest h some client_fault.SeqExhausted t = client_closed ends up rest h some client_fault.SeqExhausted t
  client_stops ends up rest h some client_fault.OutOfMemory t = tt

  -- ---- the adapter goes on

  -- by a step, after which whole frames came still
  pub adapter_steps : (old new : AdapterState D) (p : SessionState D) (a : IsAdapterAt drive.limits old p) (plan : Plan) (used : List ℕ) (came : List Entry) (bytes : List ℕ) (s : Step drive.follows plan old new used came bytes) → new.session.limits ≡ old.session.limits
      → (s.goes_on a.came a.history a.stands).received.rest ≡ [] → IsAdapterAt drive.limits new (record { session = s.session.made.after; debuggee = new.debuggee })
  adapter_steps old new p a plan used came bytes s keeps between = record {
    session_is = s.session.after;
    debuggee_is = refl;
    limits_are = ap (λ (z : Session). z.limits) (sym s.session.after) ∙ (keeps ∙ (ap (λ (z : Session). z.limits) a.session_is ∙ a.limits_are));
    came = a.came ++ used;
    history = a.history ++ (came ++ entries_of old.session.used s.session.made);
    stands = s.goes_on a.came a.history a.stands;
    between = between;
  }

  abbrev pub step_of : (old new : AdapterState D) (p : SessionState D) (a : IsAdapterAt drive.limits old p) (plan : Plan) (used : List ℕ) (came : List Entry) (bytes : List ℕ) (s : Step drive.follows plan old new used came bytes)
      → SessionStep drive.follows plan p (record { session = s.session.made.after; debuggee = new.debuggee })
  step_of old new p a plan used came bytes s =
      record { made = s.session.made; carried = subst (λ (z : D). CarriedOut drive.follows plan z s.session.made new.debuggee) a.debuggee_is s.session.carried; after = refl }

  -- what it writes is read back
  pub step_back : (old new : AdapterState D) (p : SessionState D) (a : IsAdapterAt drive.limits old p) (plan : Plan) (used : List ℕ) (came : List Entry) (bytes : List ℕ) (s : Step drive.follows plan old new used came bytes) → AllReadBack p.session.limits.body (written_by p.session s.session.made)
  step_back old new p a plan used came bytes s = subst (λ (z : Session). AllReadBack z.limits.body (written_by z s.session.made)) a.session_is (s.reads_back a.came a.history a.stands)

  pub step_within : (old new : AdapterState D) (p : SessionState D) (a : IsAdapterAt drive.limits old p) (plan : Plan) (used : List ℕ) (came : List Entry) (bytes : List ℕ) (s : Step drive.follows plan old new used came bytes) → AllReadBack drive.limits.body (written_by p.session s.session.made)
  step_within old new p a plan used came bytes s = subst (λ (z : Settings). AllReadBack z.body (written_by p.session s.session.made)) a.limits_are (step_back old new p a plan used came bytes s)

  pub step_bytes : (old new : AdapterState D) (p : SessionState D) (a : IsAdapterAt drive.limits old p) (plan : Plan) (used : List ℕ) (came : List Entry) (bytes : List ℕ) (s : Step drive.follows plan old new used came bytes) → bytes ≡ bytes_of (written_by p.session s.session.made)
  step_bytes old new p a plan used came bytes s = s.bytes_are ∙ ap (λ (z : Session). bytes_of (written_by z s.session.made)) a.session_is

  -- where no bytes came
  pub still_between : (old new : AdapterState D) (p : SessionState D) (a : IsAdapterAt drive.limits old p) (plan : Plan) (came : List Entry) (bytes : List ℕ) (s : Step drive.follows plan old new [] came bytes) → new.session.limits ≡ old.session.limits
      → (s.goes_on a.came a.history a.stands).received.rest ≡ []
  still_between old new p a plan came bytes s keeps =
      let stands = s.goes_on a.came a.history a.stands in
      let same_limits : new.session.limits ≡ drive.limits = keeps ∙ (ap (λ (z : Session). z.limits) a.session_is ∙ a.limits_are) in
      between_still laws.one_split (bounds_of drive.limits) old.intake new.intake a.came (a.came ++ []) a.stands.received.bodies stands.received.bodies stands.received.rest (adapter_bounds laws drive.limits old p a) (adapter_stream laws drive.limits old p a) (stands.bounds ∙ ap bounds_of same_limits) stands.received.stream (append-nil a.came)

  -- ---- the adapter takes a message

  first_up : (ends : BothEnds D) (rest down : List ℕ) (h : At ends rest down) → (x : Message) (xs : List Message) → h.world.up ≡ x ∷ xs → (n : ℕ) (w : Whole ends.adapter.intake rest n) → IsFirst laws drive.limits x xs w.ready.held rest n
  first_up ends rest down h x xs first n w =
      let a = h.at.adapter_at in
      let read : AllReadBack drive.limits.body (x ∷ xs) = subst (λ (z : List Message). AllReadBack drive.limits.body z) first (arrives ends rest down h).up in
      first_whole laws drive.limits ends.adapter.intake a.came a.stands.received.bodies x xs rest n (adapter_bounds laws drive.limits ends.adapter h.world.adapter a) (adapter_stream laws drive.limits ends.adapter h.world.adapter a) (subst (λ (z : List Message). AreFramesOf drive.limits z rest) first h.up_is) read.0 w

  up_delivered : (ends : BothEnds D) (next : AdapterState D) (rest down : List ℕ) (h : At ends rest down) → (x : Message) (xs : List Message) → h.world.up ≡ x ∷ xs
      → (taken : Taken) (m : Message) → AdapterDelivers drive.follows ends.adapter rest taken.used taken.bytes.items m next → next.session.limits ≡ ends.adapter.session.limits
      → (later : Intake) (longer_transcript : List ℕ) → WritesLines drive.limits later Adapter taken.bytes.items ends.transcript longer_transcript
      → At (record ends { adapter = next; reader = later; transcript = longer_transcript }) (drop taken.used rest) (down ++ taken.bytes.items)
  up_delivered ends next rest down h x xs first taken m d keeps later longer_transcript w =
      let b = bounds_of drive.limits in
      let a = h.at.adapter_at in
      let p = h.world.adapter in
      let used = take taken.used rest in
      let came : List Entry = In m ∷ [] in
      let is_first = first_up ends rest down h x xs first taken.used d.whole in
      let same : m ≡ x = is_first.only m d.read in
      let s = d.step in
      let stands = s.goes_on a.came a.history a.stands in
      let same_limits : next.session.limits ≡ drive.limits = keeps ∙ (ap (λ (z : Session). z.limits) a.session_is ∙ a.limits_are) in
      let new_bounds : next.intake.bounds ≡ b = stands.bounds ∙ ap bounds_of same_limits in
      let session_state : SessionState D = record { session = s.session.made.after; debuggee = next.debuggee } in
      let outs = written_by p.session s.session.made in
      let lines = written laws drive.limits Adapter outs taken.bytes.items ends.transcript longer_transcript later h.at.in_range (step_within ends.adapter next p a d.plan used came taken.bytes.items s) (step_bytes ends.adapter next p a d.plan used came taken.bytes.items s) w in
      let world : World D = adapter_said session_state outs (record h.world { up = xs }) in
      let step : ComesUp drive.follows h.world world =
      record {
        message = x;
        later = xs;
        first = first;
        plan = d.plan;
        taken = subst (λ (z : Message). takes z p.session ≡ Ok d.plan) same (subst (λ (z : Session). takes m z ≡ Ok d.plan) a.session_is d.is);
        step = record {
          adapter = session_state;
          session = step_of ends.adapter next p a d.plan used came taken.bytes.items s;
          reads_back = step_back ends.adapter next p a d.plan used came taken.bytes.items s;
          is = refl;
        };
      } in
      record {
        world = world;
        delivers = one_up h.world world h.delivers step;
        at = record {
          in_range = h.at.in_range;
          schedule = goes h.world world h.at.schedule (by_coming_up step);
          client_at = h.at.client_at;
          adapter_at = adapter_steps ends.adapter next p a d.plan used came taken.bytes.items s keeps
              (between_again laws.one_split b ends.adapter.intake d.whole.ready next.intake a.came a.stands.received.bodies rest taken.used stands.received.bodies stands.received.rest (adapter_bounds laws drive.limits ends.adapter p a) (adapter_stream laws drive.limits ends.adapter p a) d.whole.completes new_bounds stands.received.stream);
          reader_at = w.between;
          transcript_is = longer laws drive.limits Adapter outs h.world.said ends.transcript longer_transcript h.at.transcript_is lines.lines;
        };
        up_is = is_first.left;
        down_is = more_frames drive.limits h.world.down outs down taken.bytes.items h.down_is lines.frames;
      }

  pub took_up : (ends : BothEnds D) (next : AdapterState D) (rest down : List ℕ) → At ends rest down
      → 0 < length rest → (taken : Taken) (delivered : Option Message) → AdapterTakes drive.follows ends.adapter rest taken.used taken.bytes.items delivered next → next.session.limits ≡ ends.adapter.session.limits
      → (later : Intake) (longer_transcript : List ℕ) → (IsBetween drive.limits ends.reader → WritesLines drive.limits later Adapter taken.bytes.items ends.transcript longer_transcript)
      → At (record ends { adapter = next; reader = later; transcript = longer_transcript }) (drop taken.used rest) (down ++ taken.bytes.items)
  took_up ends next rest down h some taken None t keeps later longer_transcript w =
      let a = h.at.adapter_at in
      let m = some_message drive.limits h.world.up rest h.up_is some in
      absurd (not_waiting laws.one_split (bounds_of drive.limits) ends.adapter.intake next.intake a.came a.stands.received.bodies rest taken.used (canon m.0) (map canon m.1) (adapter_bounds laws drive.limits ends.adapter h.world.adapter a) (adapter_stream laws drive.limits ends.adapter h.world.adapter a) t.gathers (subst (λ (z : List Message). AreFramesOf drive.limits z rest) m.2 h.up_is))
  took_up ends next rest down h some taken (Some m) t keeps later longer_transcript w =
      let first = some_message drive.limits h.world.up rest h.up_is some in
      up_delivered ends next rest down h first.0 first.1 first.2 taken m t keeps later longer_transcript (w h.at.reader_at)

  pub served : (ends : BothEnds D) (next : AdapterState D) (rest down : List ℕ) → At ends rest down
      → 0 < length rest → (taken : Taken) (delivered : Option Message) → AdapterTakes drive.follows ends.adapter rest taken.used taken.bytes.items delivered next → next.session.limits ≡ ends.adapter.session.limits
      → (later : Intake) (longer_transcript bytes more : List ℕ) (n : ℕ) → n ≡ taken.used → bytes ≡ taken.bytes.items → more ≡ down ++ bytes → (IsBetween drive.limits ends.reader → WritesLines drive.limits later Adapter bytes ends.transcript longer_transcript)
      → At (record ends { adapter = next; reader = later; transcript = longer_transcript }) (drop n rest) more
  served ends next rest down h some taken delivered t keeps later longer_transcript bytes more n used is sum w =
      let all : more ≡ down ++ taken.bytes.items = sum ∙ ap (λ (z : List ℕ). down ++ z) is in
      subst (λ (z : List ℕ). At (record ends { adapter = next; reader = later; transcript = longer_transcript }) (drop n rest) z) (sym all)
      (subst (λ (z : ℕ). At (record ends { adapter = next; reader = later; transcript = longer_transcript }) (drop z rest) (down ++ taken.bytes.items)) (sym used)
      (took_up ends next rest down h some taken delivered t keeps later longer_transcript (λ b. subst (λ (z : List ℕ). WritesLines drive.limits later Adapter z ends.transcript longer_transcript) is (w b))))

  -- what a step of the adapter wrote is framed
  pub step_framed : (ends : BothEnds D) (next : AdapterState D) (up down : List ℕ) (h : At ends up down) (plan : Plan) (used : List ℕ) (came : List Entry) (bytes : List ℕ) → Step drive.follows plan ends.adapter next used came bytes
      → (given : List ℕ) → given ≡ bytes → IsUnwritten unwritten.Frames ends.reader given → ⊥
  step_framed ends next up down h plan used came bytes s given is refuses =
      let a = h.at.adapter_at in
      let p = h.world.adapter in
      not_unwritten laws drive.limits (written_by p.session s.session.made) given ends.reader h.at.in_range (step_within ends.adapter next p a plan used came bytes s) (is ∙ step_bytes ends.adapter next p a plan used came bytes s) h.at.reader_at refuses

  pub served_framed : (ends : BothEnds D) (next : AdapterState D) (rest down : List ℕ) → At ends rest down → (taken : Taken) (delivered : Option Message) → AdapterTakes drive.follows ends.adapter rest taken.used taken.bytes.items delivered next
      → (bytes : List ℕ) → bytes ≡ taken.bytes.items → IsUnwritten unwritten.Frames ends.reader bytes → ⊥
  served_framed ends next rest down h taken None t bytes is refuses = not_unwritten laws drive.limits [] bytes ends.reader h.at.in_range tt (is ∙ t.none_written) h.at.reader_at refuses
  served_framed ends next rest down h taken (Some m) t bytes is refuses = step_framed ends next rest down h t.plan (take taken.used rest) (In m ∷ []) taken.bytes.items t.step bytes is refuses

  -- ---- why the adapter does not

  adapter_closed : (ends : BothEnds D) (rest down : List ℕ) (h : At ends rest down) → 0 < length rest → (f : AdapterFault) (after : D) → after ≡ ends.adapter.debuggee → AdapterClosedBy ends.adapter.intake ends.adapter.session rest f
      → AdapterStops drive.shown drive.follows (Delivering drive.follows start) after
  adapter_closed ends rest down h some f after same t =
      let first = some_message drive.limits h.world.up rest h.up_is some in
      let is_first = first_up ends rest down h first.0 first.1 first.2 t.n t.whole in
      let closes : takes first.0 h.world.adapter.session ≡ Err f = subst (λ (z : Message). takes z h.world.adapter.session ≡ Err f) (is_first.only t.message t.read) (subst (λ (z : Session). takes t.message z ≡ Err f) h.at.adapter_at.session_is t.closes) in
      let lacks : f ≡ adapter_fault.SeqExhausted = (agrees drive.limits drive.debuggee h.world h.at.in_range h.at.schedule).fault.up first.0 first.1 f first.2 closes in
      record {
        next = to_take;
        now = h.world;
        reaches = (refl, h.delivers);
        lacks = (first.0, first.1, first.2, subst (λ (z : AdapterFault). takes first.0 h.world.adapter.session ≡ Err z) lacks closes, same ∙ h.at.adapter_at.debuggee_is);
      }

  pub adapter_stops : (ends : BothEnds D) (rest down : List ℕ) (h : At ends rest down) → 0 < length rest → (f : AdapterFault) (after : D) → (f ≢ adapter_fault.OutOfMemory → after ≡ ends.adapter.debuggee) → AdapterTakeRefused ends.adapter.intake (state_of ends.adapter) rest f after
      → StopsOn drive.shown drive.follows (Delivering drive.follows start) (fault_of_adapter f) after
  adapter_stops ends rest down h some (adapter_fault.Frame fault) after same t =
      let a = h.at.adapter_at in
      absurd (not_closed laws.one_split (bounds_of drive.limits) laws.moves ends.adapter.intake t.closed a.came a.stands.received.bodies rest fault (map canon h.world.up) (header drive.limits h.at.in_range) (adapter_bounds laws drive.limits ends.adapter h.world.adapter a) (adapter_stream laws drive.limits ends.adapter h.world.adapter a) t.closes h.up_is)
  adapter_stops ends rest down h some (adapter_fault.Body cause offset) after same t =
      let first = some_message drive.limits h.world.up rest h.up_is some in
      let is_first = first_up ends rest down h first.0 first.1 first.2 t.n t.whole in
      absurd (is_first.good cause t.bad)
  adapter_stops ends rest down h some (adapter_fault.RepeatedSeq q) after same t = adapter_closed ends rest down h some (adapter_fault.RepeatedSeq q) after (same (λ e. cc e)) t
  adapter_stops ends rest down h some (adapter_fault.Unmatched q) after same t = adapter_closed ends rest down h some (adapter_fault.Unmatched q) after (same (λ e. cc e)) t
  adapter_stops ends rest down h some (adapter_fault.CommandMismatch q) after same t = adapter_closed ends rest down h some (adapter_fault.CommandMismatch q) after (same (λ e. cc e)) t
  adapter_stops ends rest down h some adapter_fault.Ended after same t = adapter_closed ends rest down h some adapter_fault.Ended after (same (λ e. cc e)) t
  adapter_stops ends rest down h some adapter_fault.SeqExhausted after same t = adapter_closed ends rest down h some adapter_fault.SeqExhausted after (same (λ e. cc e)) t
  adapter_stops ends rest down h some adapter_fault.OutOfMemory after same t = tt
