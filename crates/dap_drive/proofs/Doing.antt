-- What an order comes to, from the calls of both ends.
use Rattle.std.proofs.Common.{◌≡◌, ℕ, ◌+◌, ◌-◌, ◌*◌, ◌<◌, ◌≤◌, ◌==◌, List, [], ◌∷◌, ◌++◌, length, map, drop, Bool, true, false, Option, Some, None, Ok, Err, refl, sym, ap, ◌∙◌, subst, arith, append-nil, inl, inr}
use Rattle.std.specs.Prelude.{◌||◌, not, cond, nat_le, if◌then◌else◌, IsTrue}
use Rattle.std.proofs.Math.Nat.{mul-le-mul_left}
use Rattle.std.proofs.lemmas.Bool.Decides.{nat_tests}
use Rattle.std.proofs.lemmas.List.{drop-drop, nil_from_length}
use Rattle.std.proofs.lemmas.List.Filters.{length-filter_both}
use Rattle.dap_frame.specs.Intake.{Intake, IsUnderWay, StandsFor as StandsForStream}
use Rattle.dap_frame.specs.Laws.{EachStreamHasOneSplit}
use Rattle.dap_frame.specs.Settings.{Settings, AreInRange, bounds_of}
use Rattle.dap_frame.specs.Stream.{Split}
use Rattle.dap_frame.specs.Written.{frame_of}
use Rattle.dap_frame.specs.declared.limits.Bounds.{Bounds}
use Rattle.dap_history.specs.History.{Out}
use Rattle.dap_call.specs.PlainCall.{is_plain_call}
use Rattle.dap_call.specs.declared.call.Call.{Call}
use Rattle.dap_plan.specs.Handling.{turns}
use Rattle.dap_debuggee.specs.Shown.{Shown}
use Rattle.dap_plan.specs.Carried.{CarriedOut, Goes}
use Rattle.dap_plan.specs.Plan.{Plan, Made, written_by}
use Rattle.dap_outbox.specs.Draft.{bytes_of}
use Rattle.dap_plan.specs.Polling.{polls}
use Rattle.dap_plan.specs.SessionState.{SessionState}
use Rattle.dap_plan.specs.Session.{Session, to_handle, fresh_session as fresh_adapter}
use Rattle.dap_plan.specs.declared.fault.AdapterFault.{AdapterFault}
use Rattle.dap_plan.specs.declared.fault.AdapterFault.TheVariants as adapter_fault
use Rattle.dap_decision.specs.Table.{is_phase}
use Rattle.dap_decision.specs.declared.phase.Phase.{Phase}
use Rattle.dap_decision.specs.declared.phase.Phase.TheVariants.{Stopped}
use Rattle.dap_tables.specs.Outstanding.{Kept, contains_seq}
use Rattle.dap_adapter.specs.Calls.{Step, Handled, Saw, TurnRefused, PollRefused}
use Rattle.dap_adapter.specs.AdapterState.{AdapterState}
use Rattle.dap_adapter.specs.Run.{Next, to_take, to_turn, to_poll, after_poll, fresh_state}
use Rattle.dap_adapter.specs.StandsFor.{StandsFor as AdapterStandsFor}
use Rattle.dap_check.specs.declared.line.Side.TheVariants.{Client, Adapter}
use Rattle.dap_client.specs.ClientState.{ClientState}
use Rattle.dap_client.specs.Calls.{refusal_of, answer_refusal_of, NotAnswered}
use Rattle.dap_client.specs.Sending.{next_message, sent_bytes, after_send}
use Rattle.dap_client.specs.Session.{Session as ClientSession, fresh_session, oldest_of}
use Rattle.dap_client.specs.StandsFor.{StandsFor as ClientStandsFor, GoesOn}
use Rattle.dap_client.specs.TerminalResponse.{is_plain_terminal, first_terminal_refusal, next_terminal_response, terminal_response_bytes, after_terminal_response}
use Rattle.dap_client.specs.declared.fault.AnswerFault.{AnswerFault}
use Rattle.dap_client.specs.declared.fault.AnswerFault.TheVariants as answer_fault
use Rattle.dap_client.specs.declared.terminal.Terminal.{Terminal}
use Rattle.dap_envelope.specs.Canon.{canon}
use Rattle.dap_envelope.specs.ReadBack.{ReadsBack, AllReadBack}
use Rattle.dap_envelope.specs.declared.message.Message.{Message}
use Rattle.dap_world.specs.Agreement.{EachScheduleAgrees}
use Rattle.dap_world.specs.World.{World, fresh_world, client_said, adapter_said, Sends, Answers, Turns, Polls, Step as WorldStep, Schedule, by_sending, by_answering, by_turning, by_polling, starts, goes}
use Rattle.dap_drive.specs.Driven.{AdapterStops}
use Rattle.dap_drive.specs.PrivateFaults.{FrameLaws, fault_of_adapter, fault_of_answer}
use Rattle.dap_drive.specs.PrivateFrames.{AreFramesOf}
use Rattle.dap_drive.specs.PrivateHeld.{Driving, BothEnds, IsClientAt, IsAdapterAt, HasDelivered, HasSettled, IsQuiet, HasDone, HasTurned, HasPolled, Spends, left_to_do, next_after_polls, StopsOn, Delivering, StopsOrder}
use Rattle.dap_drive.specs.PrivateLines.{WritesLines, IsUnwritten}
use Rattle.dap_drive.specs.Orders.{Delivers, DoesSend, DoesAnswer, RunsTo, none, begins, handled, idles, polled, Reaches, in_send, in_answer, before_turn, in_turn, before_poll, in_poll, in_run, in_run_turn, in_run_poll, LacksNumbers}
use Rattle.dap_drive.specs.declared.fault.DriveFault.{DriveFault}
use Rattle.dap_drive.specs.declared.fault.DriveFault.TheVariants as fault
use Rattle.dap_drive.specs.declared.script.Order.TheVariants.{Send as ToSend, Answer as ToAnswer, Turn as ToTurn, Poll as ToPoll, Run as ToRun}
use Rattle.dap_drive.specs.declared.writing.Unwritten.TheVariants as unwritten
use Rattle.dap_drive.proofs.Delivering.{longer, written, not_unwritten, adapter_steps, step_of, step_back, step_within, step_bytes, still_between}
use Rattle.dap_drive.proofs.Streams.{none as no_frames, none_left, between_still}

-- ---- part by part

pub part_by_part : (P Q : List ℕ → Type 0) (at n : ℕ) (all rest : List ℕ) → rest ≡ drop at all → (P rest → Q (drop n rest)) → P (drop at all) → Q (drop (at + n) all)
part_by_part P Q at n all rest is go p =
    subst Q (ap (λ (z : List ℕ). drop n z) is ∙ drop-drop n at all) (go (subst P (sym is) p))

-- ---- a way that ends early

module _ {D : Type 0} (shown : D → Shown) (follows : Goes D) (way : Next → World D → Type 0) where
  -- and one that leads where it leads
  pub stops_too : (part : Next → World D → Type 0) → ((next : Next) (now : World D) → part next now → way next now) → (f : DriveFault) (left : D) → StopsOn shown follows part f left → StopsOn shown follows way f left
  stops_too part leads fault.Recording left h = absurd h
  stops_too part leads (fault.Script line) left h = absurd h
  stops_too part leads (fault.Call line) left h = absurd h
  stops_too part leads (fault.Send line cause) left h = absurd h
  stops_too part leads fault.Adapter left h = record { next = h.next; now = h.now; reaches = leads h.next h.now h.reaches; lacks = h.lacks }
  stops_too part leads fault.Client left h = record { now = h.now; reaches = leads to_take h.now h.reaches; has = h.has; left_is = h.left_is }
  stops_too part leads fault.OutOfMemory left h = tt

  pub stops_delivering : (start : World D) → ((now : World D) → Delivers follows start now → way to_take now) → (f : DriveFault) (left : D) → StopsOn shown follows (Delivering follows start) f left → StopsOn shown follows way f left
  stops_delivering start leads f left h = stops_too (Delivering follows start) (λ next now d. subst (λ (z : Next). way z now) (sym d.0) (leads now d.1)) f left h

-- ---- nothing is under way

none_of : (laws : EachStreamHasOneSplit) (limits : Settings) (ms : List Message) → AreFramesOf limits ms [] → ms ≡ []
none_of laws limits [] f = refl
none_of laws limits (x ∷ xs) f = absurd (none_left laws (bounds_of limits) (canon x) (map canon xs) f)

nothing_framed : (limits : Settings) (ms : List Message) → ms ≡ [] → AreFramesOf limits ms []
nothing_framed limits ms e = subst (λ (z : List Message). AreFramesOf limits z []) (sym e) refl

pub all_delivered : {D : Type 0} (laws : EachStreamHasOneSplit) (drive : Driving D) (start : World D) (ends : BothEnds D) (up down : List ℕ) → HasDelivered drive start ends up down → up ≡ [] → down ≡ [] → HasSettled drive start ends
all_delivered laws drive start ends up down h none_up none_down = record {
  world = h.world;
  settles = record {
    delivers = h.delivers;
    none_up = none_of laws drive.limits h.world.up (subst (λ (z : List ℕ). AreFramesOf drive.limits h.world.up z) none_up h.up_is);
    none_down = none_of laws drive.limits h.world.down (subst (λ (z : List ℕ). AreFramesOf drive.limits h.world.down z) none_down h.down_is);
  };
  at = h.at;
}

-- ---- what is left to do

pub spent : (n a b h k kept : ℕ) → a < b → h ≤ kept → kept ≤ n → (n + 1) * a + h < (n + 1) * b + k
spent n a b h k kept less few room =
    let more : a + 1 ≤ b = omega arith in
    let product = mul-le-mul_left (n + 1) more in
    omega (arith, product, few, room)

pub not_spent : (n a b h : ℕ) → a ≤ b → (n + 1) * a + h ≤ (n + 1) * b + h
not_spent n a b h less = let product = mul-le-mul_left (n + 1) less in omega (arith, product)

few_handled : (kept : List Kept) → to_handle kept ≤ length kept
few_handled kept = let parts = length-filter_both (λ (k : Kept). not k.parked) (λ (k : Kept). not (not k.parked)) (λ x. refl) kept in omega (arith, parts)

-- ---- how much is left to do

pub hearing_less : {D : Type 0} (e next : ClientState) (a b : AdapterState D) (k n : ℕ) → Spends e.session next.session k n → b ≡ a → left_to_do next b ≤ left_to_do e a
hearing_less e next a b k n s same =
    let limit = ap (λ (z : Settings). z.seq) s.limits in
    let fewer : next.session.limits.seq - next.session.used ≤ e.session.limits.seq - e.session.used = omega (arith, limit, s.more) in
    subst (λ (z : AdapterState _). left_to_do next z ≤ left_to_do e a) (sym same) (not_spent a.session.limits.requests (next.session.limits.seq - next.session.used) (e.session.limits.seq - e.session.used) (to_handle a.session.kept) fewer)

pub round_less : {D : Type 0} (e next last : ClientState) (a b c : AdapterState D) (n kept : ℕ) → Spends e.session next.session 0 n → 0 < n → b ≡ a → last ≡ next → c.session.limits ≡ b.session.limits → kept ≡ length c.session.kept → kept ≤ c.session.limits.requests → left_to_do last c < left_to_do e a
round_less e next last a b c n kept s some same is limits count room =
    let limit = ap (λ (z : Settings). z.seq) s.limits in
    let more = s.some some in
    let within = s.within more in
    let fewer : next.session.limits.seq - next.session.used < e.session.limits.seq - e.session.used = omega (arith, limit, more, within) in
    let requests : c.session.limits.requests ≡ a.session.limits.requests = ap (λ (z : Settings). z.requests) limits ∙ ap (λ (z : AdapterState _). z.session.limits.requests) same in
    let few = few_handled c.session.kept in
    let goal = spent a.session.limits.requests (next.session.limits.seq - next.session.used) (e.session.limits.seq - e.session.used) (to_handle c.session.kept) (to_handle a.session.kept) kept fewer (omega (arith, few, count)) (omega (arith, room, requests)) in
    subst (λ (z : ClientState). left_to_do z c < left_to_do e a) (sym is) (subst (λ (z : ℕ). (z + 1) * (next.session.limits.seq - next.session.used) + to_handle c.session.kept < left_to_do e a) (sym requests) goal)

-- what a client still has to spend
pub round_spends : (e next last : ClientState) (n : ℕ) → Spends e.session next.session 0 n → 0 < n → last ≡ next → last.session.limits.seq - last.session.used < e.session.limits.seq - e.session.used
round_spends e next last n s some is =
    let limit = ap (λ (z : Settings). z.seq) s.limits in
    let more = s.some some in
    let within = s.within more in
    subst (λ (z : ClientState). z.session.limits.seq - z.session.used < e.session.limits.seq - e.session.used) (sym is) (omega (arith, limit, more, within))

pub turn_less : {D : Type 0} (e last : ClientState) (a b c : AdapterState D) → b.session.limits ≡ a.session.limits → to_handle b.session.kept < to_handle a.session.kept → left_to_do last c ≤ left_to_do e b → left_to_do last c < left_to_do e a
turn_less e last a b c limits fewer less =
    let requests : b.session.limits.requests ≡ a.session.limits.requests = ap (λ (z : Settings). z.requests) limits in
    let less_there : left_to_do last c ≤ (a.session.limits.requests + 1) * (e.session.limits.seq - e.session.used) + to_handle b.session.kept = subst (λ (z : ℕ). left_to_do last c ≤ (z + 1) * (e.session.limits.seq - e.session.used) + to_handle b.session.kept) requests less in
    omega (arith, less_there, fewer)

-- ---- a vector of bytes

pub no_items : (items : List ℕ) (len : ℕ) → len ≡ length items → (len == 0) ≡ true → items ≡ []
no_items items len count e = let none : length items ≡ 0 = grind (arith, nat_tests) in nil_from_length items none

pub some_items : (items : List ℕ) (len : ℕ) → len ≡ length items → (len == 0) ≡ false → 0 < length items
some_items items len count e = grind (arith, nat_tests)

-- ---- when the debuggee is asked no more

apart : (i : ℕ) → i < 65536 → (i == 65536) ≡ false
apart i h = grind (arith, nat_tests)

same_count : (i : ℕ) → 65536 ≤ i → i ≤ 65536 → (i == 65536) ≡ true
same_count i h k = grind (arith, nat_tests)

polling_below : (i : ℕ) → i < 65536 → next_after_polls i ≡ to_poll i
polling_below i h = ap (λ (b : Bool). if b then to_take else to_poll i) (apart i h)

polling_end : (i : ℕ) → 65536 ≤ i → i ≤ 65536 → next_after_polls i ≡ to_take
polling_end i h k = ap (λ (b : Bool). if b then to_take else to_poll i) (same_count i h k)

neither : (a b c : Bool) → (a || b) ≡ false → (a || b || c) ≡ c
neither true b c h = absurd (cc h)
neither false true c h = absurd (cc h)
neither false false c h = refl

either : (a b c : Bool) → (a || b) ≡ true → (a || b || c) ≡ true
either true b c h = refl
either false true c h = refl
either false false c h = absurd (cc h)

goes_on : (made : ℕ) (bytes : List ℕ) (phase : Phase) → ((length bytes == 0) || is_phase Stopped phase) ≡ false → after_poll made bytes phase ≡ next_after_polls made
goes_on made bytes phase h = ap (λ (b : Bool). if b then to_take else to_poll made) (neither (length bytes == 0) (is_phase Stopped phase) (made == 65536) h)

ends_there : (made : ℕ) (bytes : List ℕ) (phase : Phase) → ((length bytes == 0) || is_phase Stopped phase) ≡ true → after_poll made bytes phase ≡ to_take
ends_there made bytes phase h = ap (λ (b : Bool). if b then to_take else to_poll made) (either (length bytes == 0) (is_phase Stopped phase) (made == 65536) h)

fresh_rest : (laws : EachStreamHasOneSplit) (b : Bounds) (i : Intake) (bodies : List (List ℕ)) (rest : List ℕ) → i.bounds ≡ b → StandsForStream i [] bodies rest → rest ≡ []
fresh_rest laws b i bodies rest e st = (laws.one b [] bodies [] rest [] (subst (λ (z : Bounds). Split z [] bodies rest) e st.split) (no_frames laws b)).1

-- ---- a message that the client writes by itself

-- of each session, the one that comes of it, and the message
pub record Writes : Type 0 where
  pub after : ClientSession → ClientSession
  pub out : ClientSession → Message
  pub keeps : (s : ClientSession) → (after s).limits ≡ s.limits

abbrev wrote : {D : Type 0} → Writes → World D → World D
wrote x start = client_said (x.after start.client) (x.out start.client ∷ []) start

abbrev sending : Call → Writes
sending call = record { after = λ s. after_send call s; out = λ s. next_message s call; keeps = λ s. refl }

abbrev answering : ℕ → Terminal → Writes
answering request_seq terminal = record { after = λ s. after_terminal_response request_seq s; out = λ s. next_terminal_response s request_seq terminal; keeps = λ s. refl }

-- ---- an answer

-- the client may answer, and what it writes is read back
pub record MayAnswer (e : ClientState) (request_seq : ℕ) (terminal : Terminal) : Type 0 where
  pub plain : IsTrue (is_plain_terminal terminal)
  pub oldest : oldest_of e.session.incoming ≡ Some request_seq
  pub free : answer_refusal_of request_seq e ≡ None
  pub reads_back : ReadsBack e.session.limits.body (next_terminal_response e.session request_seq terminal)

-- ---- an answer that is refused

some_self : (a b : Bool) → a ≡ true → (a || b) ≡ true
some_self true b e = refl
some_self false b e = absurd (cc e)

same_number : (a b : ℕ) → a ≡ b → (a == b) ≡ true
same_number a b e = grind (arith, nat_tests)

-- the oldest request is kept
oldest_is_kept : (kept : List Kept) (request_seq : ℕ) → oldest_of kept ≡ Some request_seq → contains_seq request_seq kept ≡ true
oldest_is_kept [] request_seq e = absurd (cc e)
oldest_is_kept (k ∷ kept) request_seq e =
    let same : k.entry.seq ≡ request_seq = cc e in
    some_self (k.entry.seq == request_seq) (contains_seq request_seq kept) (same_number k.entry.seq request_seq same)

last_refusal : (a b : Bool) (f : AnswerFault) → a ≡ true → cond (not a) (Some answer_fault.NotKept) (cond b (Some answer_fault.SeqExhausted) None) ≡ Some f → f ≡ answer_fault.SeqExhausted
last_refusal true true f kept e = cc e
last_refusal true false f kept e = absurd (cc e)
last_refusal false b f kept e = absurd (cc kept)

-- so it is refused for want of numbers alone
only_numbers : (request_seq : ℕ) (s : ClientSession) (f : AnswerFault) → oldest_of s.incoming ≡ Some request_seq → first_terminal_refusal request_seq false s ≡ Some f → f ≡ answer_fault.SeqExhausted
only_numbers request_seq s f oldest e = last_refusal (contains_seq request_seq s.incoming) (nat_le s.limits.seq s.used) f (oldest_is_kept s.incoming request_seq oldest) e

module _ {D : Type 0} (laws : FrameLaws) (drive : Driving D) (agrees : EachScheduleAgrees drive.shown drive.follows) where
  -- ---- the client goes on by itself, and writes a message

  client_wrote : (x : Writes) (e next : ClientState) (s : ClientSession) → IsClientAt drive.limits e s → next ≡ record e { session = x.after e.session } → GoesOn e next [] (Out (x.out e.session) [] ∷ []) → IsClientAt drive.limits next (x.after s)
  client_wrote x e next s c is on =
      let stands = on c.came c.history c.stands in
      let same : next.intake ≡ e.intake = ap (λ (z : ClientState). z.intake) is in
      let bounds : e.intake.bounds ≡ bounds_of drive.limits = c.stands.bounds ∙ (ap (λ (y : ClientSession). bounds_of y.limits) c.session_is ∙ ap bounds_of c.limits_are) in
      record {
        session_is = ap (λ (z : ClientState). z.session) is ∙ ap x.after c.session_is;
        limits_are = x.keeps s ∙ c.limits_are;
        came = c.came ++ [];
        history = c.history ++ (Out (x.out e.session) [] ∷ []);
        stands = stands;
        between = between_still laws.one_split (bounds_of drive.limits) e.intake next.intake c.came (c.came ++ []) c.stands.received.bodies stands.received.bodies stands.received.rest bounds
            (subst (λ (z : List ℕ). StandsForStream e.intake c.came c.stands.received.bodies z) c.between c.stands.received.stream) (ap (λ (z : Intake). z.bounds) same ∙ bounds) stands.received.stream (append-nil c.came);
      }

  written_back : (x : Writes) (ends : BothEnds D) (start : World D) (q : IsQuiet drive ends start) → ReadsBack ends.client.session.limits.body (x.out ends.client.session) → AllReadBack drive.limits.body (x.out start.client ∷ [])
  written_back x ends start q back =
      let c = q.at.client_at in
      let there : ReadsBack start.client.limits.body (x.out start.client) = subst (λ (z : ClientSession). ReadsBack z.limits.body (x.out z)) c.session_is back in
      (subst (λ (z : Settings). ReadsBack z.body (x.out start.client)) c.limits_are there, tt)

  written_are : (x : Writes) (ends : BothEnds D) (start : World D) (bytes : List ℕ) (q : IsQuiet drive ends start) → bytes ≡ frame_of (canon (x.out ends.client.session)) → bytes ≡ bytes_of (x.out start.client ∷ [])
  written_are x ends start bytes q is = is ∙ (ap (λ (z : ClientSession). frame_of (canon (x.out z))) q.at.client_at.session_is ∙ sym (append-nil (frame_of (canon (x.out start.client)))))

  wrote_framed : (x : Writes) (ends : BothEnds D) (bytes : List ℕ) (start : World D) (q : IsQuiet drive ends start) → ReadsBack ends.client.session.limits.body (x.out ends.client.session) → bytes ≡ frame_of (canon (x.out ends.client.session))
      → IsUnwritten unwritten.Frames ends.reader bytes → ⊥
  wrote_framed x ends bytes start q back is refuses =
      not_unwritten laws drive.limits (x.out start.client ∷ []) bytes ends.reader q.at.in_range (written_back x ends start q back) (written_are x ends start bytes q is) q.at.reader_at refuses

  -- the message is under way
  under_way : (x : Writes) (ends : BothEnds D) (next : ClientState) (later : Intake) (longer_transcript bytes : List ℕ) (start : World D) (q : IsQuiet drive ends start)
      → WorldStep drive.shown drive.follows start (wrote x start) → ReadsBack ends.client.session.limits.body (x.out ends.client.session) → bytes ≡ frame_of (canon (x.out ends.client.session))
      → next ≡ record ends.client { session = x.after ends.client.session } → GoesOn ends.client next [] (Out (x.out ends.client.session) [] ∷ []) → WritesLines drive.limits later Client bytes ends.transcript longer_transcript
      → HasDelivered drive (wrote x start) (record ends { client = next; reader = later; transcript = longer_transcript }) bytes []
  under_way x ends next later longer_transcript bytes start q step back are is goes_so w =
      let out : List Message = x.out start.client ∷ [] in
      let lines = written laws drive.limits Client out bytes ends.transcript longer_transcript later q.at.in_range (written_back x ends start q back) (written_are x ends start bytes q are) w in
      record {
        world = wrote x start;
        delivers = none;
        at = record {
          in_range = q.at.in_range;
          schedule = goes start (wrote x start) q.at.schedule step;
          client_at = client_wrote x ends.client next start.client q.at.client_at is goes_so;
          adapter_at = q.at.adapter_at;
          reader_at = w.between;
          transcript_is = longer laws drive.limits Client out start.said ends.transcript longer_transcript q.at.transcript_is lines.lines;
        };
        up_is = subst (λ (z : List Message). AreFramesOf drive.limits (z ++ out) bytes) (sym q.none_up) lines.frames;
        down_is = nothing_framed drive.limits start.down q.none_down;
      }

  -- ---- the client sends

  sends_so : (ends : BothEnds D) (start : World D) (call : Call) (q : IsQuiet drive ends start) → IsTrue (is_plain_call call) → refusal_of call ends.client ≡ None → ReadsBack ends.client.session.limits.body (next_message ends.client.session call)
      → Sends call start (wrote (sending call) start)
  sends_so ends start call q plain free back =
      let c = q.at.client_at in
      record {
        plain = plain;
        free = rw (c.stands.no_fault, c.session_is) at free;
        reads_back = subst (λ (z : ClientSession). ReadsBack z.limits.body (next_message z call)) c.session_is back;
        is = refl;
      }

  pub sent_framed : (ends : BothEnds D) (bytes : List ℕ) (start : World D) (call : Call) (q : IsQuiet drive ends start) → ReadsBack ends.client.session.limits.body (next_message ends.client.session call) → bytes ≡ sent_bytes ends.client.session call
      → IsUnwritten unwritten.Frames ends.reader bytes → ⊥
  sent_framed ends bytes start call q back is refuses = wrote_framed (sending call) ends bytes start q back is refuses

  pub call_sent : (ends : BothEnds D) (next : ClientState) (later : Intake) (longer_transcript bytes : List ℕ) (start : World D) (call : Call) (q : IsQuiet drive ends start)
      → IsTrue (is_plain_call call) → refusal_of call ends.client ≡ None → ReadsBack ends.client.session.limits.body (next_message ends.client.session call) → bytes ≡ sent_bytes ends.client.session call
      → next ≡ record ends.client { session = after_send call ends.client.session } → GoesOn ends.client next [] (Out (next_message ends.client.session call) [] ∷ []) → (w : WritesLines drive.limits later Client bytes ends.transcript longer_transcript)
      → HasDelivered drive (client_said (after_send call start.client) (next_message start.client call ∷ []) start) (record ends { client = next; reader = later; transcript = longer_transcript }) bytes []
  call_sent ends next later longer_transcript bytes start call q plain free back are is goes_so w =
      under_way (sending call) ends next later longer_transcript bytes start q (by_sending call (sends_so ends start call q plain free back)) back are is goes_so w

  pub send_done : (ends last : BothEnds D) (start : World D) (call : Call) (q : IsQuiet drive ends start)
      → IsTrue (is_plain_call call) → refusal_of call ends.client ≡ None → ReadsBack ends.client.session.limits.body (next_message ends.client.session call)
      → HasSettled drive (client_said (after_send call start.client) (next_message start.client call ∷ []) start) last → HasDone drive (DoesSend drive.follows call) start last
  send_done ends last start call q plain free back h =
      record {
        world = h.world;
        done = record { sent = client_said (after_send call start.client) (next_message start.client call ∷ []) start; sends = sends_so ends start call q plain free back; settles = h.settles };
        quiet = record { at = h.at; none_up = h.settles.none_up; none_down = h.settles.none_down };
      }

  -- where what comes of it ends early
  pub send_stops : (ends : BothEnds D) (start : World D) (call : Call) (f : DriveFault) (left : D) (number : ℕ) (q : IsQuiet drive ends start)
      → IsTrue (is_plain_call call) → refusal_of call ends.client ≡ None → ReadsBack ends.client.session.limits.body (next_message ends.client.session call)
      → StopsOn drive.shown drive.follows (Delivering drive.follows (client_said (after_send call start.client) (next_message start.client call ∷ []) start)) f left → StopsOrder drive.shown drive.follows number (ToSend call) f start left
  send_stops ends start call f left number q plain free back h =
      let sent = client_said (after_send call start.client) (next_message start.client call ∷ []) start in
      inr (stops_delivering drive.shown drive.follows (Reaches drive.shown drive.follows (ToSend call) start) sent (λ now d. in_send call start sent now (sends_so ends start call q plain free back) d) f left h)

  -- ---- the client answers

  oldest_at : (ends : BothEnds D) (start : World D) (found : Option ℕ) (q : IsQuiet drive ends start) → oldest_of ends.client.session.incoming ≡ found → oldest_of start.client.incoming ≡ found
  oldest_at ends start found q is = subst (λ (z : ClientSession). oldest_of z.incoming ≡ found) q.at.client_at.session_is is

  answers_so : (ends : BothEnds D) (start : World D) (request_seq : ℕ) (terminal : Terminal) (q : IsQuiet drive ends start) → MayAnswer ends.client request_seq terminal → Answers request_seq terminal start (wrote (answering request_seq terminal) start)
  answers_so ends start request_seq terminal q may =
      let c = q.at.client_at in
      record {
        plain = may.plain;
        free = rw (c.stands.no_fault, c.session_is) at may.free;
        reads_back = subst (λ (z : ClientSession). ReadsBack z.limits.body (next_terminal_response z request_seq terminal)) c.session_is may.reads_back;
        is = refl;
      }

  pub answer_framed : (ends : BothEnds D) (bytes : List ℕ) (start : World D) (request_seq : ℕ) (terminal : Terminal) (q : IsQuiet drive ends start) → ReadsBack ends.client.session.limits.body (next_terminal_response ends.client.session request_seq terminal)
      → bytes ≡ terminal_response_bytes ends.client.session request_seq terminal → IsUnwritten unwritten.Frames ends.reader bytes → ⊥
  answer_framed ends bytes start request_seq terminal q back is refuses = wrote_framed (answering request_seq terminal) ends bytes start q back is refuses

  pub answer_sent : (ends : BothEnds D) (next : ClientState) (later : Intake) (longer_transcript bytes : List ℕ) (start : World D) (request_seq : ℕ) (terminal : Terminal) (q : IsQuiet drive ends start)
      → (may : MayAnswer ends.client request_seq terminal) → bytes ≡ terminal_response_bytes ends.client.session request_seq terminal
      → next ≡ record ends.client { session = after_terminal_response request_seq ends.client.session } → GoesOn ends.client next [] (Out (next_terminal_response ends.client.session request_seq terminal) [] ∷ []) → WritesLines drive.limits later Client bytes ends.transcript longer_transcript
      → HasDelivered drive (client_said (after_terminal_response request_seq start.client) (next_terminal_response start.client request_seq terminal ∷ []) start) (record ends { client = next; reader = later; transcript = longer_transcript }) bytes []
  answer_sent ends next later longer_transcript bytes start request_seq terminal q may are is goes_so w =
      under_way (answering request_seq terminal) ends next later longer_transcript bytes start q (by_answering request_seq terminal (answers_so ends start request_seq terminal q may)) may.reads_back are is goes_so w

  pub answer_done : (ends last : BothEnds D) (start : World D) (request_seq : ℕ) (terminal : Terminal) (q : IsQuiet drive ends start) → MayAnswer ends.client request_seq terminal
      → HasSettled drive (client_said (after_terminal_response request_seq start.client) (next_terminal_response start.client request_seq terminal ∷ []) start) last → HasDone drive (DoesAnswer drive.follows terminal) start last
  answer_done ends last start request_seq terminal q may h =
      record {
        world = h.world;
        done = record {
          request_seq = request_seq;
          oldest = oldest_at ends start (Some request_seq) q may.oldest;
          answered = wrote (answering request_seq terminal) start;
          answers = answers_so ends start request_seq terminal q may;
          settles = h.settles;
        };
        quiet = record { at = h.at; none_up = h.settles.none_up; none_down = h.settles.none_down };
      }

  -- where there is none to answer, or no own number for it
  pub none_to_answer : (ends : BothEnds D) (start : World D) (q : IsQuiet drive ends start) → oldest_of ends.client.session.incoming ≡ None → oldest_of start.client.incoming ≡ None
  none_to_answer ends start q is = oldest_at ends start None q is

  no_number : (ends : BothEnds D) (start : World D) (request_seq : ℕ) (f : AnswerFault) (q : IsQuiet drive ends start) → oldest_of ends.client.session.incoming ≡ Some request_seq → answer_refusal_of request_seq ends.client ≡ Some f
      → first_terminal_refusal request_seq false start.client ≡ Some answer_fault.SeqExhausted
  no_number ends start request_seq f q kept refused =
      let c = q.at.client_at in
      let there : first_terminal_refusal request_seq false start.client ≡ Some f = rw (c.stands.no_fault, c.session_is) at refused in
      subst (λ (z : AnswerFault). first_terminal_refusal request_seq false start.client ≡ Some z) (only_numbers request_seq start.client f (oldest_at ends start (Some request_seq) q kept) there) there

  short : (ends : BothEnds D) (start : World D) (request_seq : ℕ) (terminal : Terminal) (f : AnswerFault) (number : ℕ) (q : IsQuiet drive ends start) → oldest_of ends.client.session.incoming ≡ Some request_seq → answer_refusal_of request_seq ends.client ≡ Some f
      → StopsOrder drive.shown drive.follows number (ToAnswer terminal) fault.Client start ends.adapter.debuggee
  short ends start request_seq terminal f number q kept refused = inl ((request_seq, oldest_at ends start (Some request_seq) q kept, no_number ends start request_seq f q kept refused), q.at.adapter_at.debuggee_is)

  pub answer_refused : (ends : BothEnds D) (start : World D) (request_seq : ℕ) (terminal : Terminal) (f : AnswerFault) (number : ℕ) (q : IsQuiet drive ends start) → oldest_of ends.client.session.incoming ≡ Some request_seq → NotAnswered f request_seq ends.client
      → StopsOrder drive.shown drive.follows number (ToAnswer terminal) (fault_of_answer f) start ends.adapter.debuggee
  answer_refused ends start request_seq terminal answer_fault.Ended number q kept t = short ends start request_seq terminal answer_fault.Ended number q kept t
  answer_refused ends start request_seq terminal answer_fault.NotKept number q kept t = short ends start request_seq terminal answer_fault.NotKept number q kept t
  answer_refused ends start request_seq terminal answer_fault.SeqExhausted number q kept t = short ends start request_seq terminal answer_fault.SeqExhausted number q kept t
  answer_refused ends start request_seq terminal answer_fault.OutOfMemory number q kept t = inr tt

  -- where what comes of it ends early
  reached : (ends : BothEnds D) (start now : World D) (request_seq : ℕ) (terminal : Terminal) (q : IsQuiet drive ends start) → MayAnswer ends.client request_seq terminal → Delivers drive.follows (wrote (answering request_seq terminal) start) now
      → Reaches drive.shown drive.follows (ToAnswer terminal) start to_take now
  reached ends start now request_seq terminal q may delivers = in_answer terminal request_seq start (wrote (answering request_seq terminal) start) now (oldest_at ends start (Some request_seq) q may.oldest) (answers_so ends start request_seq terminal q may) delivers

  pub answer_stops : (ends : BothEnds D) (start : World D) (request_seq : ℕ) (terminal : Terminal) (f : DriveFault) (left : D) (number : ℕ) (q : IsQuiet drive ends start) → MayAnswer ends.client request_seq terminal
      → StopsOn drive.shown drive.follows (Delivering drive.follows (client_said (after_terminal_response request_seq start.client) (next_terminal_response start.client request_seq terminal ∷ []) start)) f left → StopsOrder drive.shown drive.follows number (ToAnswer terminal) f start left
  answer_stops ends start request_seq terminal f left number q may h =
      inr (stops_delivering drive.shown drive.follows (Reaches drive.shown drive.follows (ToAnswer terminal) start) (wrote (answering request_seq terminal) start) (λ now d. reached ends start now request_seq terminal q may d) f left h)

  -- ---- the adapter goes on by itself

  abbrev state_after : AdapterState D → Session → SessionState D
  state_after new after = record { session = after; debuggee = new.debuggee }

  abbrev out_of : World D → Made → List Message
  out_of start made = written_by start.adapter.session made

  abbrev spoke : AdapterState D → Made → World D → World D
  spoke new made start = adapter_said (state_after new made.after) (out_of start made) start

  pub step_framed : (ends : BothEnds D) (new : AdapterState D) (bytes given : List ℕ) (start : World D) (q : IsQuiet drive ends start) (plan : Plan) (s : Step drive.follows plan ends.adapter new [] [] bytes) → given ≡ bytes
      → IsUnwritten unwritten.Frames ends.reader given → ⊥
  step_framed ends new bytes given start q plan s is refuses =
      let a = q.at.adapter_at in
      not_unwritten laws drive.limits (out_of start s.session.made) given ends.reader q.at.in_range (step_within laws drive agrees start ends.adapter new start.adapter a plan [] [] bytes s) (is ∙ step_bytes laws drive agrees start ends.adapter new start.adapter a plan [] [] bytes s) q.at.reader_at refuses

  turns_so : (ends : BothEnds D) (new : AdapterState D) (bytes : List ℕ) (start : World D) (q : IsQuiet drive ends start) (t : Handled drive.shown drive.follows ends.adapter bytes new) → Turns drive.shown drive.follows start (spoke new t.step.session.made start)
  turns_so ends new bytes start q t =
      let a = q.at.adapter_at in
      record {
        plan = t.plan;
        turned = rw (a.session_is, a.debuggee_is) at t.is;
        step = record {
          adapter = state_after new t.step.session.made.after;
          session = step_of laws drive agrees start ends.adapter new start.adapter a t.plan [] [] bytes t.step;
          reads_back = step_back laws drive agrees start ends.adapter new start.adapter a t.plan [] [] bytes t.step;
          is = refl;
        };
      }

  polls_so : (ends : BothEnds D) (new : AdapterState D) (bytes : List ℕ) (start : World D) (q : IsQuiet drive ends start) (t : Saw drive.follows ends.adapter bytes new) → Polls drive.follows start (spoke new t.step.session.made start)
  polls_so ends new bytes start q t =
      let a = q.at.adapter_at in
      record {
        step = record {
          adapter = state_after new t.step.session.made.after;
          session = record {
            made = t.step.session.made;
            carried = subst (λ (z : Session). CarriedOut drive.follows (polls z) start.adapter.debuggee t.step.session.made new.debuggee) a.session_is (step_of laws drive agrees start ends.adapter new start.adapter a (polls ends.adapter.session) [] [] bytes t.step).carried;
            after = refl;
          };
          reads_back = step_back laws drive agrees start ends.adapter new start.adapter a (polls ends.adapter.session) [] [] bytes t.step;
          is = refl;
        };
        within = rw (a.session_is, t.step.session.after) at t.within;
      }

  spoken : (ends : BothEnds D) (new : AdapterState D) (later : Intake) (longer_transcript bytes : List ℕ) (start : World D) (q : IsQuiet drive ends start) (plan : Plan) (s : Step drive.follows plan ends.adapter new [] [] bytes) → Schedule drive.shown drive.follows drive.limits drive.debuggee (spoke new s.session.made start)
      → new.session.limits ≡ ends.adapter.session.limits → (w : WritesLines drive.limits later Adapter bytes ends.transcript longer_transcript)
      → HasDelivered drive (spoke new s.session.made start) (record ends { adapter = new; reader = later; transcript = longer_transcript }) [] bytes
  spoken ends new later longer_transcript bytes start q plan s schedule keeps w =
      let a = q.at.adapter_at in
      let lines = written laws drive.limits Adapter (out_of start s.session.made) bytes ends.transcript longer_transcript later q.at.in_range (step_within laws drive agrees start ends.adapter new start.adapter a plan [] [] bytes s) (step_bytes laws drive agrees start ends.adapter new start.adapter a plan [] [] bytes s) w in
      record {
        world = spoke new s.session.made start;
        delivers = none;
        at = record {
          in_range = q.at.in_range;
          schedule = schedule;
          client_at = q.at.client_at;
          adapter_at = adapter_steps laws drive agrees start ends.adapter new start.adapter a plan [] [] bytes s keeps (still_between laws drive agrees start ends.adapter new start.adapter a plan [] bytes s keeps);
          reader_at = w.between;
          transcript_is = longer laws drive.limits Adapter (out_of start s.session.made) start.said ends.transcript longer_transcript q.at.transcript_is lines.lines;
        };
        up_is = nothing_framed drive.limits start.up q.none_up;
        down_is = subst (λ (z : List Message). AreFramesOf drive.limits (z ++ out_of start s.session.made) bytes) (sym q.none_down) lines.frames;
      }

  pub turn_spoken : (ends : BothEnds D) (new : AdapterState D) (later : Intake) (longer_transcript bytes : List ℕ) (start : World D) (q : IsQuiet drive ends start) (t : Handled drive.shown drive.follows ends.adapter bytes new)
      → new.session.limits ≡ ends.adapter.session.limits → (w : WritesLines drive.limits later Adapter bytes ends.transcript longer_transcript) → HasDelivered drive (spoke new t.step.session.made start) (record ends { adapter = new; reader = later; transcript = longer_transcript }) [] bytes
  turn_spoken ends new later longer_transcript bytes start q t keeps w =
      spoken ends new later longer_transcript bytes start q t.plan t.step (goes start (spoke new t.step.session.made start) q.at.schedule (by_turning (turns_so ends new bytes start q t))) keeps w

  pub poll_spoken : (ends : BothEnds D) (new : AdapterState D) (later : Intake) (longer_transcript bytes : List ℕ) (start : World D) (q : IsQuiet drive ends start) (t : Saw drive.follows ends.adapter bytes new)
      → new.session.limits ≡ ends.adapter.session.limits → (w : WritesLines drive.limits later Adapter bytes ends.transcript longer_transcript) → HasDelivered drive (spoke new t.step.session.made start) (record ends { adapter = new; reader = later; transcript = longer_transcript }) [] bytes
  poll_spoken ends new later longer_transcript bytes start q t keeps w =
      spoken ends new later longer_transcript bytes start q (polls ends.adapter.session) t.step (goes start (spoke new t.step.session.made start) q.at.schedule (by_polling (polls_so ends new bytes start q t))) keeps w

  pub turn_done : (ends last : BothEnds D) (new : AdapterState D) (bytes : List ℕ) (start : World D) (q : IsQuiet drive ends start) (t : Handled drive.shown drive.follows ends.adapter bytes new)
      → HasSettled drive (spoke new t.step.session.made start) last → HasDone drive (HasTurned drive.shown drive.follows true) start last
  turn_done ends last new bytes start q t h =
      record {
        world = h.world;
        done = record { turned = spoke new t.step.session.made start; turns = turns_so ends new bytes start q t; settles = h.settles };
        quiet = record { at = h.at; none_up = h.settles.none_up; none_down = h.settles.none_down };
      }

  pub idle_done : (ends : BothEnds D) (new : AdapterState D) (start : World D) → IsQuiet drive ends start → turns (drive.shown ends.adapter.debuggee) ends.adapter.session ≡ Ok None → new ≡ ends.adapter
      → HasDone drive (HasTurned drive.shown drive.follows false) start (record ends { adapter = new })
  idle_done ends new start q is same = record {
    world = start;
    done = (rw (q.at.adapter_at.session_is, q.at.adapter_at.debuggee_is) at is, refl);
    quiet = record {
      at = record {
        in_range = q.at.in_range;
        schedule = q.at.schedule;
        client_at = q.at.client_at;
        adapter_at = subst (λ (z : AdapterState D). IsAdapterAt drive.limits z start.adapter) (sym same) q.at.adapter_at;
        reader_at = q.at.reader_at;
        transcript_is = q.at.transcript_is;
      };
      none_up = q.none_up;
      none_down = q.none_down;
    };
  }

  pub poll_done : (ends final : BothEnds D) (new : AdapterState D) (bytes : List ℕ) (start : World D) (q : IsQuiet drive ends start) (t : Saw drive.follows ends.adapter bytes new)
      → (last : Bool) → last ≡ (length bytes == 0) || is_phase Stopped new.session.phase
      → HasSettled drive (spoke new t.step.session.made start) final → HasDone drive (HasPolled drive.follows last) start final
  unfolding polls_so
  poll_done ends final new bytes start q t last is h =
      let a = q.at.adapter_at in
      let bytes_is : bytes ≡ bytes_of (out_of start t.step.session.made) = step_bytes laws drive agrees start ends.adapter new start.adapter a (polls ends.adapter.session) [] [] bytes t.step in
      record {
        world = h.world;
        done = record {
          does = record { polled = spoke new t.step.session.made start; polls = polls_so ends new bytes start q t; settles = h.settles };
          last_is = is ∙ (ap (λ (z : List ℕ). (length z == 0) || is_phase Stopped new.session.phase) bytes_is ∙ ap (λ (z : Session). (length (bytes_of (out_of start t.step.session.made)) == 0) || is_phase Stopped z.phase) t.step.session.after);
        };
        quiet = record { at = h.at; none_up = h.settles.none_up; none_down = h.settles.none_down };
      }

  -- ---- where a turn or a poll ends early

  lacks_turn : (ends : BothEnds D) (new : AdapterState D) (start : World D) (q : IsQuiet drive ends start) (f : AdapterFault) → turns (drive.shown ends.adapter.debuggee) ends.adapter.session ≡ Err f → new.debuggee ≡ ends.adapter.debuggee → LacksNumbers drive.shown drive.follows to_turn start new.debuggee
  lacks_turn ends new start q f e same =
      let a = q.at.adapter_at in
      let there : turns (drive.shown start.adapter.debuggee) start.adapter.session ≡ Err f = rw (a.session_is, a.debuggee_is) at e in
      (subst (λ (z : AdapterFault). turns (drive.shown start.adapter.debuggee) start.adapter.session ≡ Err z) ((agrees drive.limits drive.debuggee start q.at.in_range q.at.schedule).fault.turn f there) there, same ∙ a.debuggee_is)

  no_turn : (start : World D) (left : D) → LacksNumbers drive.shown drive.follows to_turn start left → AdapterStops drive.shown drive.follows (Reaches drive.shown drive.follows ToTurn start) left
  no_turn start left lacks = record { next = to_turn; now = start; reaches = before_turn start; lacks = lacks }

  pub turn_refused : (ends : BothEnds D) (new : AdapterState D) (start : World D) (q : IsQuiet drive ends start) (f : AdapterFault) → TurnRefused drive.shown ends.adapter f new → StopsOn drive.shown drive.follows (Reaches drive.shown drive.follows ToTurn start) (fault_of_adapter f) new.debuggee
  turn_refused ends new start q (adapter_fault.Frame x) t = no_turn start new.debuggee (lacks_turn ends new start q (adapter_fault.Frame x) t.0 t.1)
  turn_refused ends new start q (adapter_fault.Body cause offset) t = no_turn start new.debuggee (lacks_turn ends new start q (adapter_fault.Body cause offset) t.0 t.1)
  turn_refused ends new start q (adapter_fault.RepeatedSeq x) t = no_turn start new.debuggee (lacks_turn ends new start q (adapter_fault.RepeatedSeq x) t.0 t.1)
  turn_refused ends new start q (adapter_fault.Unmatched x) t = no_turn start new.debuggee (lacks_turn ends new start q (adapter_fault.Unmatched x) t.0 t.1)
  turn_refused ends new start q (adapter_fault.CommandMismatch x) t = no_turn start new.debuggee (lacks_turn ends new start q (adapter_fault.CommandMismatch x) t.0 t.1)
  turn_refused ends new start q adapter_fault.Ended t = no_turn start new.debuggee (lacks_turn ends new start q adapter_fault.Ended t.0 t.1)
  turn_refused ends new start q adapter_fault.SeqExhausted t = no_turn start new.debuggee (lacks_turn ends new start q adapter_fault.SeqExhausted t.0 t.1)
  turn_refused ends new start q adapter_fault.OutOfMemory t = tt

  pub turn_stops : (ends : BothEnds D) (new : AdapterState D) (bytes : List ℕ) (start : World D) (q : IsQuiet drive ends start) (t : Handled drive.shown drive.follows ends.adapter bytes new) (f : DriveFault) (left : D)
      → StopsOn drive.shown drive.follows (Delivering drive.follows (spoke new t.step.session.made start)) f left → StopsOn drive.shown drive.follows (Reaches drive.shown drive.follows ToTurn start) f left
  turn_stops ends new bytes start q t f left h =
      let turned = spoke new t.step.session.made start in
      stops_delivering drive.shown drive.follows (Reaches drive.shown drive.follows ToTurn start) turned (λ now d. in_turn start turned now (turns_so ends new bytes start q t) d) f left h

  pub poll_refused : (ends : BothEnds D) (new : AdapterState D) (start : World D) (q : IsQuiet drive ends start) (f : AdapterFault) → PollRefused drive.follows ends.adapter f new → StopsOn drive.shown drive.follows (Reaches drive.shown drive.follows ToPoll start) (fault_of_adapter f) new.debuggee
  poll_refused ends new start q (adapter_fault.Frame x) t = absurd t
  poll_refused ends new start q (adapter_fault.Body cause offset) t = absurd t
  poll_refused ends new start q (adapter_fault.RepeatedSeq x) t = absurd t
  poll_refused ends new start q (adapter_fault.Unmatched x) t = absurd t
  poll_refused ends new start q (adapter_fault.CommandMismatch x) t = absurd t
  poll_refused ends new start q adapter_fault.Ended t = absurd t
  poll_refused ends new start q adapter_fault.SeqExhausted t =
      let a = q.at.adapter_at in
      record { next = to_poll 0; now = start; reaches = before_poll start; lacks = record { made = t.made; carried = rw (a.session_is, a.debuggee_is) at t.carried; short = rw a.session_is at t.short } }
  poll_refused ends new start q adapter_fault.OutOfMemory t = tt

  pub poll_stops : (ends : BothEnds D) (new : AdapterState D) (bytes : List ℕ) (start : World D) (q : IsQuiet drive ends start) (t : Saw drive.follows ends.adapter bytes new) (f : DriveFault) (left : D)
      → StopsOn drive.shown drive.follows (Delivering drive.follows (spoke new t.step.session.made start)) f left → StopsOn drive.shown drive.follows (Reaches drive.shown drive.follows ToPoll start) f left
  poll_stops ends new bytes start q t f left h =
      let polled = spoke new t.step.session.made start in
      stops_delivering drive.shown drive.follows (Reaches drive.shown drive.follows ToPoll start) polled (λ now d. in_poll start polled now (polls_so ends new bytes start q t) d) f left h

  -- ---- two fresh ends

  client_fresh : (e : ClientState) → e.session ≡ fresh_session drive.limits → ClientStandsFor e [] [] → IsClientAt drive.limits e (fresh_session drive.limits)
  client_fresh e is stands = record {
    session_is = is;
    limits_are = refl;
    came = [];
    history = [];
    stands = stands;
    between = fresh_rest laws.one_split (bounds_of drive.limits) e.intake stands.received.bodies stands.received.rest (stands.bounds ∙ ap (λ (z : ClientSession). bounds_of z.limits) is) stands.received.stream;
  }

  adapter_fresh : (e : AdapterState D) → e.session ≡ fresh_adapter drive.limits → e.debuggee ≡ drive.debuggee → AdapterStandsFor e [] [] → IsAdapterAt drive.limits e (fresh_state drive.limits drive.debuggee)
  adapter_fresh e is same stands = record {
    session_is = is;
    debuggee_is = same;
    limits_are = refl;
    came = [];
    history = [];
    stands = stands;
    between = fresh_rest laws.one_split (bounds_of drive.limits) e.intake stands.received.bodies stands.received.rest (stands.bounds ∙ ap (λ (z : Session). bounds_of z.limits) is) stands.received.stream;
  }

  pub both_fresh : (ends : BothEnds D) → AreInRange drive.limits → ends.client.session ≡ fresh_session drive.limits → ClientStandsFor ends.client [] [] → ends.adapter.session ≡ fresh_adapter drive.limits → ends.adapter.debuggee ≡ drive.debuggee → AdapterStandsFor ends.adapter [] []
      → ends.reader.bounds ≡ bounds_of drive.limits → IsUnderWay ends.reader → StandsForStream ends.reader [] [] [] → ends.transcript ≡ [] → IsQuiet drive ends (fresh_world drive.limits drive.debuggee)
  both_fresh ends r a b c d e f g h i = record {
    at = record {
      in_range = r;
      schedule = starts;
      client_at = client_fresh ends.client a b;
      adapter_at = adapter_fresh ends.adapter c d e;
      reader_at = record { bounds = f; under_way = g; came = []; bodies = []; stands = h };
      transcript_is = i;
    };
    none_up = refl;
    none_down = refl;
  }

  -- ---- a run

  pub run_begins : (ends : BothEnds D) (start : World D) → IsQuiet drive ends start → HasDone drive (λ old new. RunsTo drive.shown drive.follows old to_turn new) start ends
  run_begins ends start q = record { world = start; done = begins; quiet = q }

  pub run_handles : (ends : BothEnds D) (start v : World D) (more : Bool) → RunsTo drive.shown drive.follows start to_turn v → more ≡ true → HasDone drive (HasTurned drive.shown drive.follows more) v ends
      → HasDone drive (λ old new. RunsTo drive.shown drive.follows old to_turn new) start ends
  run_handles ends start v true r e h = record { world = h.world; done = handled v h.world r h.done; quiet = h.quiet }
  run_handles ends start v false r e h = absurd (cc e)

  pub run_idles : (ends : BothEnds D) (start v : World D) (more : Bool) → RunsTo drive.shown drive.follows start to_turn v → more ≡ false → HasDone drive (HasTurned drive.shown drive.follows more) v ends
      → HasDone drive (λ old new. RunsTo drive.shown drive.follows old (to_poll 0) new) start ends
  run_idles ends start v true r e h = absurd (cc e)
  run_idles ends start v false r e h = record { world = h.world; done = subst (λ (z : World D). RunsTo drive.shown drive.follows start (to_poll 0) z) (sym h.done.1) (idles v r h.done.0); quiet = h.quiet }

  pub run_polls : (ends : BothEnds D) (start v : World D) (made : ℕ) (last : Bool) → RunsTo drive.shown drive.follows start (next_after_polls made) v → made < 65536 → last ≡ false → HasDone drive (HasPolled drive.follows last) v ends
      → HasDone drive (λ old new. RunsTo drive.shown drive.follows old (next_after_polls (made + 1)) new) start ends
  run_polls ends start v made last r below e h =
      let p = h.done in
      record {
        world = h.world;
        done = subst (λ (z : Next). RunsTo drive.shown drive.follows start z h.world) (goes_on (made + 1) (bytes_of (written_by v.adapter.session p.does.polls.step.session.made)) p.does.polled.adapter.session.phase (sym p.last_is ∙ e))
            (polled v h.world made (subst (λ (z : Next). RunsTo drive.shown drive.follows start z v) (polling_below made below) r) p.does);
        quiet = h.quiet;
      }

  pub run_ends : (ends : BothEnds D) (start v : World D) (made : ℕ) (last : Bool) → RunsTo drive.shown drive.follows start (next_after_polls made) v → made < 65536 → last ≡ true → HasDone drive (HasPolled drive.follows last) v ends
      → HasDone drive (λ old new. RunsTo drive.shown drive.follows old to_take new) start ends
  run_ends ends start v made last r below e h =
      let p = h.done in
      record {
        world = h.world;
        done = subst (λ (z : Next). RunsTo drive.shown drive.follows start z h.world) (ends_there (made + 1) (bytes_of (written_by v.adapter.session p.does.polls.step.session.made)) p.does.polled.adapter.session.phase (sym p.last_is ∙ e))
            (polled v h.world made (subst (λ (z : Next). RunsTo drive.shown drive.follows start z v) (polling_below made below) r) p.does);
        quiet = h.quiet;
      }

  pub run_enough : (ends : BothEnds D) (start : World D) (made : ℕ) → 65536 ≤ made → made ≤ 65536 → HasDone drive (λ old new. RunsTo drive.shown drive.follows old (next_after_polls made) new) start ends
      → HasDone drive (λ old new. RunsTo drive.shown drive.follows old to_take new) start ends
  run_enough ends start made a b h = record { world = h.world; done = subst (λ (z : Next). RunsTo drive.shown drive.follows start z h.world) (polling_end made a b) h.done; quiet = h.quiet }

  -- where it ends early
  in_turns : (start v : World D) (next : Next) (now : World D) → RunsTo drive.shown drive.follows start to_turn v → Reaches drive.shown drive.follows ToTurn v next now → Reaches drive.shown drive.follows ToRun start next now
  in_turns start v _ _ r (before_turn _) = in_run to_turn start v r
  in_turns start v _ now r (in_turn _ u _ turns delivers) = in_run_turn start v u now r turns delivers

  pub run_turn_stops : (start v : World D) (f : DriveFault) (left : D) → RunsTo drive.shown drive.follows start to_turn v → StopsOn drive.shown drive.follows (Reaches drive.shown drive.follows ToTurn v) f left → StopsOn drive.shown drive.follows (Reaches drive.shown drive.follows ToRun start) f left
  run_turn_stops start v f left r h = stops_too drive.shown drive.follows (Reaches drive.shown drive.follows ToRun start) (Reaches drive.shown drive.follows ToTurn v) (λ next now t. in_turns start v next now r t) f left h

  -- a poll of a run stands for any number of them
  abbrev after_polls : ℕ → Next → Next
  after_polls made to_take = to_take
  after_polls made to_turn = to_turn
  after_polls made (to_poll n) = to_poll made

  in_polls : (start v : World D) (made : ℕ) (next : Next) (now : World D) → RunsTo drive.shown drive.follows start (to_poll made) v → Reaches drive.shown drive.follows ToPoll v next now → Reaches drive.shown drive.follows ToRun start (after_polls made next) now
  in_polls start v made _ _ r (before_poll _) = in_run (to_poll made) start v r
  in_polls start v made _ now r (in_poll _ u _ polls delivers) = in_run_poll made start v u now r polls delivers

  lacks_still : (made : ℕ) (next : Next) (now : World D) (left : D) → LacksNumbers drive.shown drive.follows next now left → LacksNumbers drive.shown drive.follows (after_polls made next) now left
  lacks_still made to_take now left h = h
  lacks_still made to_turn now left h = h
  lacks_still made (to_poll n) now left h = h

  run_poll_so : (start v : World D) (made : ℕ) (f : DriveFault) (left : D) → RunsTo drive.shown drive.follows start (to_poll made) v → StopsOn drive.shown drive.follows (Reaches drive.shown drive.follows ToPoll v) f left → StopsOn drive.shown drive.follows (Reaches drive.shown drive.follows ToRun start) f left
  run_poll_so start v made fault.Recording left r h = absurd h
  run_poll_so start v made (fault.Script line) left r h = absurd h
  run_poll_so start v made (fault.Call line) left r h = absurd h
  run_poll_so start v made (fault.Send line cause) left r h = absurd h
  run_poll_so start v made fault.Adapter left r h = record { next = after_polls made h.next; now = h.now; reaches = in_polls start v made h.next h.now r h.reaches; lacks = lacks_still made h.next h.now left h.lacks }
  run_poll_so start v made fault.Client left r h = record { now = h.now; reaches = in_polls start v made to_take h.now r h.reaches; has = h.has; left_is = h.left_is }
  run_poll_so start v made fault.OutOfMemory left r h = tt

  pub run_poll_stops : (start v : World D) (made : ℕ) (f : DriveFault) (left : D) → RunsTo drive.shown drive.follows start (next_after_polls made) v → made < 65536 → StopsOn drive.shown drive.follows (Reaches drive.shown drive.follows ToPoll v) f left → StopsOn drive.shown drive.follows (Reaches drive.shown drive.follows ToRun start) f left
  run_poll_stops start v made f left r below h = run_poll_so start v made f left (subst (λ (z : Next). RunsTo drive.shown drive.follows start z v) (polling_below made below) r) h
