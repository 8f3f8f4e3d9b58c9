-- Each step of bytes is a step of messages, or none.
use Rattle.std.proofs.Common.{◌≡◌, ℕ, ◌+◌, List, [], ◌∷◌, ◌++◌, take, drop, map, Bool, true, false, Option, Some, None, refl, sym, ap, ◌∙◌, subst, append_assoc, append-nil}
use Rattle.std.specs.Prelude.{is_some}
use Rattle.dap_adapter.specs.AdapterState.{AdapterState, state_of}
use Rattle.dap_adapter.specs.Calls.{Takes, Delivers, Waits, Exchanges as AdapterExchanges, Step as CallStep}
use Rattle.dap_adapter.specs.StandsFor.{StandsFor}
use Rattle.dap_check.specs.declared.line.Side.TheVariants.{Client, Adapter}
use Rattle.dap_client.specs.Calls.{Takes as ClientTakes, Delivers as ClientDelivers, Waits as ClientWaits}
use Rattle.dap_client.specs.ClientState.{ClientState}
use Rattle.dap_client.specs.Sending.{first_of, refusals_in_order, next_message, after_send}
use Rattle.dap_client.specs.Session.{Session as ClientSession}
use Rattle.dap_client.specs.StandsFor.{StandsFor as ClientStandsFor, GoesOn as ClientGoesOn}
use Rattle.dap_client.specs.TerminalResponse.{first_terminal_refusal, next_terminal_response, after_terminal_response}
use Rattle.dap_client.specs.declared.fault.ClientFault.{ClientFault}
use Rattle.dap_client.specs.declared.got.Got.{Got}
use Rattle.dap_client.specs.declared.terminal.Terminal.{Terminal}
use Rattle.dap_debuggee.specs.Shown.{Shown}
use Rattle.dap_frame.specs.Intake.{Intake}
use Rattle.dap_frame.specs.Laws.{EachStreamHasOneSplit}
use Rattle.dap_frame.specs.Settings.{Settings, AreInRange, bounds_of}
use Rattle.dap_frame.specs.Written.{frame_of}
use Rattle.dap_history.specs.History.{Entry, In, Out, ReferencesEnd, ins_of, outs_of}
use Rattle.dap_history.specs.Received.{AreRead}
use Rattle.dap_envelope.specs.Canon.{canon}
use Rattle.dap_envelope.specs.ReadBack.{ReadsBack, AllReadBack}
use Rattle.dap_call.specs.declared.call.Call.{Call}
use Rattle.dap_envelope.specs.declared.message.Message.{Message}
use Rattle.dap_plan.specs.Carried.{Goes}
use Rattle.dap_plan.specs.Plan.{Made, Plan, written_by, references_end_if, entries_of}
use Rattle.dap_outbox.specs.Draft.{Draft, outs}
use Rattle.dap_plan.specs.Polling.{polls}
use Rattle.dap_plan.specs.Emitting.{emit_faults, emits, first_emit_fault}
use Rattle.dap_plan.specs.declared.fault.AdapterFault.{AdapterFault}
use Rattle.serde_json.specs.Data.{Data}
use Rattle.dap_plan.specs.Session.{Session as AdapterSession, fresh_session as fresh_adapter}
use Rattle.dap_plan.specs.SessionState.{SessionState}
use Rattle.dap_world.specs.Moves.{MovesInOrder}
use Rattle.dap_world.specs.World.{World, Said, said_by, client_said, adapter_said, Step, Schedule, starts, goes, by_sending, by_answering, by_coming_up, by_coming_down, by_turning, by_polling, by_emitting, by_exchanging}
use Rattle.dap_ways.specs.Agreement.{IsOneOfMessages}
use Rattle.dap_ways.specs.ByteWorld as bytes
use Rattle.dap_ways.specs.ByteWorld.{ByteWorld, client_wrote, adapter_wrote, IsFreshClient, IsFreshAdapter, ByteStep, ByteSchedule}
use Rattle.dap_ways.specs.Carried.{with_messages, messages_by, AreUnderWay, Matches}
use Rattle.dap_ways.proofs.Carrying.{bytes-one, written-more, by-client, by-adapter, carries-none, carries-more, carries-gathered, carries-delivered, none-under-way}

-- no body came whole of no bytes
none-came : (bodies : List (List ℕ)) → AreRead bodies [] → bodies ≡ []
none-came [] h = refl
none-came (x ∷ xs) h = absurd h

state-same : {D : Type 0} (a b : AdapterState D) → b.session ≡ a.session → b.debuggee ≡ a.debuggee → state_of a ≡ state_of b
state-same {D} a b e f =
    ap (λ (z : AdapterSession). let p : SessionState D = record { session = z; debuggee = a.debuggee } in p) (sym e) ∙ ap (λ (z : D). let p : SessionState D = record { session = b.session; debuggee = z } in p) (sym f)

nothing-behind : {A : Type 0} (xs ys : List A) → ys ≡ [] → xs ++ ys ≡ xs
nothing-behind xs ys e = ap (λ z. xs ++ z) e ∙ append-nil xs

-- ---- histories

ins-append : (h k : List Entry) → ins_of (h ++ k) ≡ ins_of h ++ ins_of k
ins-append [] k = refl
ins-append (In m ∷ h) k = ap (λ (z : List Message). m ∷ z) (ins-append h k)
ins-append (Out m names ∷ h) k = ins-append h k
ins-append (ReferencesEnd ∷ h) k = ins-append h k

outs-append : (h k : List Entry) → outs_of (h ++ k) ≡ outs_of h ++ outs_of k
outs-append [] k = refl
outs-append (In m ∷ h) k = outs-append h k
outs-append (Out m names ∷ h) k = ap (λ (z : List Message). m ∷ z) (outs-append h k)
outs-append (ReferencesEnd ∷ h) k = outs-append h k

no-ins : (used : ℕ) (ds : List Draft) → ins_of (outs used ds) ≡ []
no-ins used [] = refl
no-ins used (d ∷ ds) = no-ins (used + 1) ds

no-ins-behind : (b : Bool) (used : ℕ) (ds : List Draft) → ins_of (references_end_if b ++ outs used ds) ≡ []
no-ins-behind true used ds = no-ins used ds
no-ins-behind false used ds = no-ins used ds

-- what the adapter made came from nobody
made-ins : (h : List Entry) (used : ℕ) (made : Made) → ins_of (h ++ ([] ++ entries_of used made)) ≡ ins_of h
made-ins h used made = ins-append h (entries_of used made) ∙ nothing-behind (ins_of h) (ins_of (entries_of used made)) (no-ins-behind made.drops used made.drafts)

delivered-ins : (h : List Entry) (m : Message) (used : ℕ) (made : Made) → ins_of (h ++ ((In m ∷ []) ++ entries_of used made)) ≡ ins_of h ++ m ∷ []
delivered-ins h m used made = ins-append h (In m ∷ entries_of used made) ∙ ap (λ (z : List Message). ins_of h ++ m ∷ z) (no-ins-behind made.drops used made.drafts)

client-ins : (ms : List Message) → ins_of (map (λ (w : Message). Out w []) ms) ≡ []
client-ins [] = refl
client-ins (m ∷ ms) = client-ins ms

client-outs : (ms : List Message) → outs_of (map (λ (w : Message). Out w []) ms) ≡ ms
client-outs [] = refl
client-outs (m ∷ ms) = ap (λ (z : List Message). m ∷ z) (client-outs ms)

-- the first of those under way has come
one-came : (came : List Message) (m : Message) (others ms all : List Message) → ms ≡ m ∷ others → came ++ ms ≡ all → (came ++ m ∷ []) ++ others ≡ all
one-came came m others ms all e h = append_assoc came (m ∷ []) others ∙ (ap (λ (z : List Message). came ++ z) (sym e) ∙ h)

-- more is said, and is under way
more-said : (came ms more all all_more : List Message) → came ++ ms ≡ all → all_more ≡ all ++ more → came ++ (ms ++ more) ≡ all_more
more-said came ms more all all_more h e = sym (append_assoc came ms more) ∙ (ap (λ (z : List Message). z ++ more) h ∙ sym e)

module _ {D : Type 0} (split : EachStreamHasOneSplit) (moves : MovesInOrder) (shown : D → Shown) (follows : Goes D) (limits : Settings) (debuggee : D) (r : AreInRange limits) where
  abbrev Is : ByteWorld D → Type 0
  Is w = IsOneOfMessages shown follows limits debuggee w

  abbrev Reaches : World D → Type 0
  Reaches w = Schedule shown follows limits debuggee w

  is-one : (w : ByteWorld D) (up down : List Message) (said : List Said) → Reaches (with_messages w up down said) → Matches limits w up down said → Is w
  is-one w up down said s k =
      record {
        up = up;
        down = down;
        said = said;
        schedule = s;
        matches = k;
        none_up = none-under-way split moves limits w.adapter.intake k.adapter_used w.up (ins_of k.adapter_history) up r k.up_is;
        none_down = none-under-way split moves limits w.client.intake k.client_used w.down (ins_of k.client_history) down r k.down_is;
      }

  -- ---- the beginning

  begins : (c : ClientState) (a : AdapterState D) → IsFreshClient limits c → IsFreshAdapter limits debuggee a → Is (record { client = c; adapter = a; up = []; down = []; written = [] })
  begins c a fc fa =
      let client_limits : c.session.limits ≡ limits = ap (λ (z : ClientSession). z.limits) fc.session in
      let adapter_limits : a.session.limits ≡ limits = ap (λ (z : AdapterSession). z.limits) fa.session in
      let w : ByteWorld D = record { client = c; adapter = a; up = []; down = []; written = [] } in
      let at_client : Reaches (record { client = c.session; adapter = record { session = fresh_adapter limits; debuggee = debuggee }; up = []; down = []; said = [] }) =
      subst (λ (z : ClientSession). Reaches (record { client = z; adapter = record { session = fresh_adapter limits; debuggee = debuggee }; up = []; down = []; said = [] })) (sym fc.session) starts in
      let at_session : Reaches (record { client = c.session; adapter = record { session = a.session; debuggee = debuggee }; up = []; down = []; said = [] }) =
      subst (λ (z : AdapterSession). Reaches (record { client = c.session; adapter = record { session = z; debuggee = debuggee }; up = []; down = []; said = [] })) (sym fa.session) at_client in
      let at_adapter : Reaches (with_messages w [] [] []) =
      subst (λ (z : D). Reaches (record { client = c.session; adapter = record { session = a.session; debuggee = z }; up = []; down = []; said = [] })) (sym fa.debuggee_is) at_session in
      is-one w [] [] [] at_adapter (record {
        adapter_used = [];
        adapter_history = [];
        adapter = fa.stands;
        adapter_limits = adapter_limits;
        client_used = [];
        client_history = [];
        client = fc.stands;
        client_limits = client_limits;
        up_is = carries-none limits a.intake fa.stands.received.bodies fa.stands.received.rest (fa.stands.bounds ∙ ap bounds_of adapter_limits) fa.stands.received.stream (none-came fa.stands.received.bodies fa.stands.received.read);
        down_is = carries-none limits c.intake fc.stands.received.bodies fc.stands.received.rest (fc.stands.bounds ∙ ap bounds_of client_limits) fc.stands.received.stream (none-came fc.stands.received.bodies fc.stands.received.read);
        up_said = refl;
        down_said = refl;
        client_said = refl;
        adapter_said = refl;
        written_is = refl;
      })

  -- ---- the client writes

  -- a session that wrote one message, at a client that is otherwise the same
  abbrev wrote_one : ClientSession → Message → ByteWorld D → ByteWorld D
  wrote_one session m old = client_wrote (record old.client { session = session }) (frame_of (canon m)) old

  writes-one : (session : ClientSession) (m : Message) (old : ByteWorld D) → session.limits ≡ old.client.session.limits → ReadsBack old.client.session.limits.body m → ClientGoesOn old.client (record old.client { session = session }) [] (Out m [] ∷ [])
      → (g : Is old) → Step shown follows (with_messages old g.up g.down g.said) (client_said session (m ∷ []) (with_messages old g.up g.down g.said)) → Is (wrote_one session m old)
  writes-one session m old l back on g step =
      let k = g.matches in
      let read : AllReadBack limits.body (m ∷ []) = (subst (λ (z : Settings). ReadsBack z.body m) k.client_limits back, tt) in
      let history : List Entry = k.client_history ++ Out m [] ∷ [] in
      let same_ins : ins_of history ≡ ins_of k.client_history = ins-append k.client_history (Out m [] ∷ []) ∙ append-nil (ins_of k.client_history) in
      let said = by-client g.said (m ∷ []) in
      is-one (wrote_one session m old) (g.up ++ m ∷ []) g.down (g.said ++ said_by Client (m ∷ [])) (goes (with_messages old g.up g.down g.said) (client_said session (m ∷ []) (with_messages old g.up g.down g.said)) g.schedule step) (record {
        adapter_used = k.adapter_used;
        adapter_history = k.adapter_history;
        adapter = k.adapter;
        adapter_limits = k.adapter_limits;
        client_used = k.client_used;
        client_history = history;
        client = subst (λ (z : List ℕ). ClientStandsFor (record old.client { session = session }) z history) (append-nil k.client_used) (on k.client_used k.client_history k.client);
        client_limits = l ∙ k.client_limits;
        up_is = carries-more limits old.adapter.intake k.adapter_used old.up (ins_of k.adapter_history) g.up (m ∷ []) (frame_of (canon m)) (bytes-one m) read k.up_is;
        down_is = subst (λ (z : List Message). AreUnderWay limits old.client.intake k.client_used old.down z g.down) (sym same_ins) k.down_is;
        up_said = more-said (ins_of k.adapter_history) g.up (m ∷ []) (messages_by Client g.said) (messages_by Client (g.said ++ said_by Client (m ∷ []))) k.up_said said.0;
        down_said = ap (λ (z : List Message). z ++ g.down) same_ins ∙ (k.down_said ∙ sym said.1);
        client_said = outs-append k.client_history (Out m [] ∷ []) ∙ (ap (λ (z : List Message). z ++ m ∷ []) k.client_said ∙ sym said.0);
        adapter_said = k.adapter_said ∙ sym said.1;
        written_is = written-more old.written g.said Client (m ∷ []) (frame_of (canon m)) k.written_is (bytes-one m);
      })

  sends : (call : Call) (old new : ByteWorld D) → bytes.Sends call old new → Is old → Is new
  sends call old new t g =
      subst Is (sym t.is) (writes-one (after_send call old.client.session) (next_message old.client.session call) old refl t.reads_back t.goes_on g (by_sending call (record {
        plain = t.plain;
        free = subst (λ (z : Option ClientFault). first_of refusals_in_order call (is_some z) old.client.session ≡ None) g.matches.client.no_fault t.sent;
        reads_back = t.reads_back;
        is = refl;
      })))

  answers : (request_seq : ℕ) (terminal : Terminal) (old new : ByteWorld D) → bytes.Answers request_seq terminal old new → Is old → Is new
  answers request_seq terminal old new t g =
      subst Is (sym t.is) (writes-one (after_terminal_response request_seq old.client.session) (next_terminal_response old.client.session request_seq terminal) old refl t.reads_back t.goes_on g (by_answering request_seq terminal (record {
        plain = t.plain;
        free = subst (λ (z : Option ClientFault). first_terminal_refusal request_seq (is_some z) old.client.session ≡ None) g.matches.client.no_fault t.answered;
        reads_back = t.reads_back;
        is = refl;
      })))

  -- ---- the adapter takes a piece

  adapter-waits : (old : ByteWorld D) (piece later : List ℕ) → old.up ≡ piece ++ later → (used : ℕ) (b : List ℕ) (after : AdapterState D) → Waits old.adapter piece used b after → after.session.limits ≡ old.adapter.session.limits → Is old
      → Is (adapter_wrote after b (record old { up = drop used piece ++ later }))
  adapter-waits old piece later front used b after h l g =
      let k = g.matches in
      is-one (adapter_wrote after b (record old { up = drop used piece ++ later })) g.up g.down g.said
      (subst (λ (z : SessionState D). Reaches (record { client = old.client.session; adapter = z; up = g.up; down = g.down; said = g.said })) (state-same old.adapter after h.session h.debuggee) g.schedule) (record {
        adapter_used = k.adapter_used ++ piece;
        adapter_history = k.adapter_history;
        adapter = subst (λ (z : List Entry). StandsFor after (k.adapter_used ++ piece) z) (append-nil k.adapter_history) (h.goes_on k.adapter_used k.adapter_history k.adapter);
        adapter_limits = l ∙ k.adapter_limits;
        client_used = k.client_used;
        client_history = k.client_history;
        client = k.client;
        client_limits = k.client_limits;
        up_is = carries-gathered limits old.adapter.intake after.intake k.adapter_used old.up piece later (ins_of k.adapter_history) g.up used front h.gathers k.up_is;
        down_is = subst (λ (z : List ℕ). AreUnderWay limits old.client.intake k.client_used z (ins_of k.client_history) g.down) (sym (nothing-behind old.down b h.none_written)) k.down_is;
        up_said = k.up_said;
        down_said = k.down_said;
        client_said = k.client_said;
        adapter_said = k.adapter_said;
        written_is = nothing-behind old.written (bytes.bytes_by Adapter b) (ap (λ (z : List ℕ). bytes.bytes_by Adapter z) h.none_written) ∙ k.written_is;
      })

  adapter-delivers : (old : ByteWorld D) (piece later : List ℕ) → old.up ≡ piece ++ later → (used : ℕ) (b : List ℕ) (m : Message) (after : AdapterState D) → Delivers follows old.adapter piece used b m after → after.session.limits ≡ old.adapter.session.limits → Is old
      → Is (adapter_wrote after b (record old { up = drop used piece ++ later }))
  adapter-delivers old piece later front used b m after h l g =
      let k = g.matches in
      let made : Made = h.step.session.made in
      let written : List Message = written_by old.adapter.session made in
      let history : List Entry = k.adapter_history ++ ((In m ∷ []) ++ entries_of old.adapter.session.used made) in
      let stands : StandsFor after (k.adapter_used ++ take used piece) history = h.step.goes_on k.adapter_used k.adapter_history k.adapter in
      let adapter_limits : after.session.limits ≡ limits = l ∙ k.adapter_limits in
      let a = carries-delivered split moves limits old.adapter.intake after.intake k.adapter_used old.up piece later (ins_of k.adapter_history) g.up used m stands.received.bodies stands.received.rest r front h.whole h.read (stands.bounds ∙ ap bounds_of adapter_limits) stands.received.stream k.up_is in
      let back = h.step.reads_back k.adapter_used k.adapter_history k.adapter in
      let read : AllReadBack limits.body written = subst (λ (z : Settings). AllReadBack z.body written) k.adapter_limits back in
      let came : ins_of history ≡ ins_of k.adapter_history ++ m ∷ [] = delivered-ins k.adapter_history m old.adapter.session.used made in
      let said = by-adapter g.said written in
      is-one (adapter_wrote after b (record old { up = drop used piece ++ later })) a.others (g.down ++ written) (g.said ++ said_by Adapter written)
      (goes (with_messages old g.up g.down g.said) (adapter_said (state_of after) written (record (with_messages old g.up g.down g.said) { up = a.others })) g.schedule (by_coming_up (record {
        message = m;
        later = a.others;
        first = a.first;
        plan = h.plan;
        taken = h.is;
        step = record { adapter = state_of after; session = h.step.session; reads_back = back; is = refl };
      }))) (record {
        adapter_used = k.adapter_used ++ take used piece;
        adapter_history = history;
        adapter = stands;
        adapter_limits = adapter_limits;
        client_used = k.client_used;
        client_history = k.client_history;
        client = k.client;
        client_limits = k.client_limits;
        up_is = subst (λ (z : List Message). AreUnderWay limits after.intake (k.adapter_used ++ take used piece) (drop used piece ++ later) z a.others) (sym came) a.carries;
        down_is = carries-more limits old.client.intake k.client_used old.down (ins_of k.client_history) g.down written b h.step.bytes_are read k.down_is;
        up_said = ap (λ (z : List Message). z ++ a.others) came ∙ (one-came (ins_of k.adapter_history) m a.others g.up (messages_by Client g.said) a.first k.up_said ∙ sym said.1);
        down_said = more-said (ins_of k.client_history) g.down written (messages_by Adapter g.said) (messages_by Adapter (g.said ++ said_by Adapter written)) k.down_said said.0;
        client_said = k.client_said ∙ sym said.1;
        adapter_said = h.step.went k.adapter_history ∙ (ap (λ (z : List Message). z ++ written) k.adapter_said ∙ sym said.0);
        written_is = written-more old.written g.said Adapter written b k.written_is h.step.bytes_are;
      })

  adapter-takes : (old : ByteWorld D) (piece later : List ℕ) → old.up ≡ piece ++ later → (used : ℕ) (b : List ℕ) (delivered : Option Message) (after : AdapterState D) → Takes follows old.adapter piece used b delivered after → after.session.limits ≡ old.adapter.session.limits → Is old
      → Is (adapter_wrote after b (record old { up = drop used piece ++ later }))
  adapter-takes old piece later front used b None after h l g = adapter-waits old piece later front used b after h l g
  adapter-takes old piece later front used b (Some m) after h l g = adapter-delivers old piece later front used b m after h l g

  -- ---- the client takes a piece

  client-waits : (old : ByteWorld D) (piece later : List ℕ) → old.down ≡ piece ++ later → (got : Got) (after : ClientState) → ClientWaits old.client piece got after → after.session.limits ≡ old.client.session.limits → Is old
      → Is (client_wrote after got.bytes.items (record old { down = drop got.used piece ++ later }))
  client-waits old piece later front got after h l g =
      let k = g.matches in
      is-one (client_wrote after got.bytes.items (record old { down = drop got.used piece ++ later })) g.up g.down g.said
      (subst (λ (z : ClientSession). Reaches (record { client = z; adapter = state_of old.adapter; up = g.up; down = g.down; said = g.said })) (sym h.session) g.schedule) (record {
        adapter_used = k.adapter_used;
        adapter_history = k.adapter_history;
        adapter = k.adapter;
        adapter_limits = k.adapter_limits;
        client_used = k.client_used ++ piece;
        client_history = k.client_history;
        client = subst (λ (z : List Entry). ClientStandsFor after (k.client_used ++ piece) z) (append-nil k.client_history) (h.goes_on k.client_used k.client_history k.client);
        client_limits = l ∙ k.client_limits;
        up_is = subst (λ (z : List ℕ). AreUnderWay limits old.adapter.intake k.adapter_used z (ins_of k.adapter_history) g.up) (sym (nothing-behind old.up got.bytes.items h.none_written)) k.up_is;
        down_is = carries-gathered limits old.client.intake after.intake k.client_used old.down piece later (ins_of k.client_history) g.down got.used front h.gathers k.down_is;
        up_said = k.up_said;
        down_said = k.down_said;
        client_said = k.client_said;
        adapter_said = k.adapter_said;
        written_is = nothing-behind old.written (bytes.bytes_by Client got.bytes.items) (ap (λ (z : List ℕ). bytes.bytes_by Client z) h.none_written) ∙ k.written_is;
      })

  client-delivers : (old : ByteWorld D) (piece later : List ℕ) → old.down ≡ piece ++ later → (got : Got) (m : Message) (after : ClientState) → ClientDelivers old.client piece got m after → after.session.limits ≡ old.client.session.limits → Is old
      → Is (client_wrote after got.bytes.items (record old { down = drop got.used piece ++ later }))
  client-delivers old piece later front got m after h l g =
      let k = g.matches in
      let written : List Message = h.made.written in
      let history : List Entry = k.client_history ++ In m ∷ map (λ (w : Message). Out w []) written in
      let stands : ClientStandsFor after (k.client_used ++ take got.used piece) history = h.goes_on k.client_used k.client_history k.client in
      let client_limits : after.session.limits ≡ limits = l ∙ k.client_limits in
      let a = carries-delivered split moves limits old.client.intake after.intake k.client_used old.down piece later (ins_of k.client_history) g.down got.used m stands.received.bodies stands.received.rest r front h.whole h.read (stands.bounds ∙ ap bounds_of client_limits) stands.received.stream k.down_is in
      let read : AllReadBack limits.body written = subst (λ (z : Settings). AllReadBack z.body written) k.client_limits h.reads_back in
      let came : ins_of history ≡ ins_of k.client_history ++ m ∷ [] = ins-append k.client_history (In m ∷ map (λ (w : Message). Out w []) written) ∙ ap (λ (z : List Message). ins_of k.client_history ++ m ∷ z) (client-ins written) in
      let said = by-client g.said written in
      is-one (client_wrote after got.bytes.items (record old { down = drop got.used piece ++ later })) (g.up ++ written) a.others (g.said ++ said_by Client written)
      (goes (with_messages old g.up g.down g.said) (client_said after.session written (record (with_messages old g.up g.down g.said) { down = a.others })) g.schedule (by_coming_down (record {
        message = m;
        later = a.others;
        first = a.first;
        made = h.made;
        taken = h.is;
        reads_back = h.reads_back;
        is = ap (λ (z : ClientSession). client_said z written (record (with_messages old g.up g.down g.said) { down = a.others })) h.session;
      }))) (record {
        adapter_used = k.adapter_used;
        adapter_history = k.adapter_history;
        adapter = k.adapter;
        adapter_limits = k.adapter_limits;
        client_used = k.client_used ++ take got.used piece;
        client_history = history;
        client = stands;
        client_limits = client_limits;
        up_is = carries-more limits old.adapter.intake k.adapter_used old.up (ins_of k.adapter_history) g.up written got.bytes.items h.bytes_are read k.up_is;
        down_is = subst (λ (z : List Message). AreUnderWay limits after.intake (k.client_used ++ take got.used piece) (drop got.used piece ++ later) z a.others) (sym came) a.carries;
        up_said = more-said (ins_of k.adapter_history) g.up written (messages_by Client g.said) (messages_by Client (g.said ++ said_by Client written)) k.up_said said.0;
        down_said = ap (λ (z : List Message). z ++ a.others) came ∙ (one-came (ins_of k.client_history) m a.others g.down (messages_by Adapter g.said) a.first k.down_said ∙ sym said.1);
        client_said = outs-append k.client_history (In m ∷ map (λ (w : Message). Out w []) written) ∙ (ap (λ (z : List Message). outs_of k.client_history ++ z) (client-outs written) ∙ (ap (λ (z : List Message). z ++ written) k.client_said ∙ sym said.0));
        adapter_said = k.adapter_said ∙ sym said.1;
        written_is = written-more old.written g.said Client written got.bytes.items k.written_is h.bytes_are;
      })

  client-takes : (old : ByteWorld D) (piece later : List ℕ) → old.down ≡ piece ++ later → (got : Got) (delivered : Option Message) (after : ClientState) → ClientTakes old.client piece got delivered after → after.session.limits ≡ old.client.session.limits → Is old
      → Is (client_wrote after got.bytes.items (record old { down = drop got.used piece ++ later }))
  client-takes old piece later front got None after h l g = client-waits old piece later front got after h l g
  client-takes old piece later front got (Some m) after h l g = client-delivers old piece later front got m after h l g

  -- ---- the adapter turns and polls

  -- it made a step over no bytes of the client
  adapter-steps : (old : ByteWorld D) (plan : Plan) (b : List ℕ) (after : AdapterState D) → after.intake ≡ old.adapter.intake → (t : CallStep follows plan old.adapter after [] [] b) → after.session.limits ≡ old.adapter.session.limits
      → (g : Is old) → Step shown follows (with_messages old g.up g.down g.said) (adapter_said (state_of after) (written_by old.adapter.session t.session.made) (with_messages old g.up g.down g.said)) → Is (adapter_wrote after b old)
  adapter-steps old plan b after same t l g step =
      let k = g.matches in
      let made : Made = t.session.made in
      let written : List Message = written_by old.adapter.session made in
      let history : List Entry = k.adapter_history ++ ([] ++ entries_of old.adapter.session.used made) in
      let read : AllReadBack limits.body written = subst (λ (z : Settings). AllReadBack z.body written) k.adapter_limits (t.reads_back k.adapter_used k.adapter_history k.adapter) in
      let came : ins_of history ≡ ins_of k.adapter_history = made-ins k.adapter_history old.adapter.session.used made in
      let said = by-adapter g.said written in
      is-one (adapter_wrote after b old) g.up (g.down ++ written) (g.said ++ said_by Adapter written)
      (goes (with_messages old g.up g.down g.said) (adapter_said (state_of after) written (with_messages old g.up g.down g.said)) g.schedule step) (record {
        adapter_used = k.adapter_used;
        adapter_history = history;
        adapter = subst (λ (z : List ℕ). StandsFor after z history) (append-nil k.adapter_used) (t.goes_on k.adapter_used k.adapter_history k.adapter);
        adapter_limits = l ∙ k.adapter_limits;
        client_used = k.client_used;
        client_history = k.client_history;
        client = k.client;
        client_limits = k.client_limits;
        up_is = subst (λ (z : List Message). AreUnderWay limits after.intake k.adapter_used old.up z g.up) (sym came) (subst (λ (z : Intake). AreUnderWay limits z k.adapter_used old.up (ins_of k.adapter_history) g.up) (sym same) k.up_is);
        down_is = carries-more limits old.client.intake k.client_used old.down (ins_of k.client_history) g.down written b t.bytes_are read k.down_is;
        up_said = ap (λ (z : List Message). z ++ g.up) came ∙ (k.up_said ∙ sym said.1);
        down_said = more-said (ins_of k.client_history) g.down written (messages_by Adapter g.said) (messages_by Adapter (g.said ++ said_by Adapter written)) k.down_said said.0;
        client_said = k.client_said ∙ sym said.1;
        adapter_said = t.went k.adapter_history ∙ (ap (λ (z : List Message). z ++ written) k.adapter_said ∙ sym said.0);
        written_is = written-more old.written g.said Adapter written b k.written_is t.bytes_are;
      })

  turns : (old new : ByteWorld D) → bytes.Turns shown follows old new → Is old → Is new
  turns old new t g =
      let k = g.matches in
      let h = t.handled in
      subst Is (sym t.is) (adapter-steps old h.plan t.bytes t.after h.intake h.step t.limits g (by_turning (record {
        plan = h.plan;
        turned = h.is;
        step = record { adapter = state_of t.after; session = h.step.session; reads_back = h.step.reads_back k.adapter_used k.adapter_history k.adapter; is = refl };
      })))

  polls_once : (old new : ByteWorld D) → bytes.Polls follows old new → Is old → Is new
  polls_once old new t g =
      let k = g.matches in
      let h = t.saw in
      subst Is (sym t.is) (adapter-steps old (polls old.adapter.session) t.bytes t.after h.intake h.step t.limits g (by_polling (record {
        step = record { adapter = state_of t.after; session = h.step.session; reads_back = h.step.reads_back k.adapter_used k.adapter_history k.adapter; is = refl };
        within = h.within;
      })))

  emits_once : (name : List ℕ) (body : Option Data) (old new : ByteWorld D) → bytes.Emits follows name body old new → Is old → Is new
  emits_once name body old new t g =
      let k = g.matches in
      let h = t.emits in
      subst Is (sym t.is) (adapter-steps old (emits name body old.adapter.session) t.bytes t.after h.intake h.step t.limits g (by_emitting name body (record {
        free = subst (λ (f : Option AdapterFault). first_emit_fault emit_faults name body (is_some f) old.adapter.session ≡ None) k.adapter.no_fault h.free;
        step = record { adapter = state_of t.after; session = h.step.session; reads_back = h.step.reads_back k.adapter_used k.adapter_history k.adapter; is = refl };
        within = h.within;
      })))

  -- ---- the debuggee's mail is exchanged

  exchanges : (old : ByteWorld D) (after : AdapterState D) → AdapterExchanges shown old.adapter after → Is old → Is (adapter_wrote after [] old)
  exchanges old after e g =
      let k = g.matches in
      let x = k.adapter in
      let a : AdapterState D = record old.adapter { debuggee = after.debuggee } in
      let w : ByteWorld D = adapter_wrote a [] old in
      let is : Is w =
      is-one w g.up g.down g.said
      (goes (with_messages old g.up g.down g.said) (with_messages w g.up g.down g.said) g.schedule (by_exchanging (record { shows_the_same = e.shows_the_same; all_else = refl }))) (record {
        adapter_used = k.adapter_used;
        adapter_history = k.adapter_history;
        adapter = record { no_fault = x.no_fault; received = x.received; session = x.session; within = x.within; bounds = x.bounds };
        adapter_limits = k.adapter_limits;
        client_used = k.client_used;
        client_history = k.client_history;
        client = k.client;
        client_limits = k.client_limits;
        up_is = k.up_is;
        down_is = subst (λ (z : List ℕ). AreUnderWay limits old.client.intake k.client_used z (ins_of k.client_history) g.down) (sym (append-nil old.down)) k.down_is;
        up_said = k.up_said;
        down_said = k.down_said;
        client_said = k.client_said;
        adapter_said = k.adapter_said;
        written_is = append-nil old.written ∙ k.written_is;
      }) in
      subst (λ (z : AdapterState D). Is (adapter_wrote z [] old)) (sym e.all_else) is

  -- ---- any step, and any schedule

  steps : (old new : ByteWorld D) → ByteStep shown follows old new → Is old → Is new
  steps old new (bytes.by_sending call t) g = sends call old new t g
  steps old new (bytes.by_answering q terminal t) g = answers q terminal old new t g
  steps old new (bytes.by_taking_up t) g = subst Is (sym t.is) (adapter-takes old t.piece t.later t.front t.used t.bytes t.delivered t.after t.takes t.limits g)
  steps old new (bytes.by_taking_down t) g = subst Is (sym t.is) (client-takes old t.piece t.later t.front t.got t.got.delivered t.after t.takes t.limits g)
  steps old new (bytes.by_turning t) g = turns old new t g
  steps old new (bytes.by_polling t) g = polls_once old new t g
  steps old new (bytes.by_emitting name body t) g = emits_once name body old new t g
  steps old new (bytes.by_exchanging t) g = subst Is (sym t.is) (exchanges old t.after t.exchanges g)

  pub is-one-of-messages : (w : ByteWorld D) → ByteSchedule shown follows limits debuggee w → Is w
  is-one-of-messages _ (bytes.starts c a fc fa) = begins c a fc fa
  is-one-of-messages _ (bytes.goes v w s t) = steps v w t (is-one-of-messages v s)
