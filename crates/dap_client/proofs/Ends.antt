-- A client stands for the bytes that come and for what it hands out, from what the reader of messages and the session say.
use Rattle.std.proofs.Common.{◌≡◌, ℕ, ◌≤◌, List, [], ◌∷◌, ◌++◌, Option, Some, None, Result, Ok, Err, refl, ap, subst, sym, ◌∙◌, take}
use Rattle.std.specs.Prelude.{OnOk}
use Rattle.std.proofs.lemmas.List.{append-nil}
use Rattle.dap_frame.specs.Feeds.{Completes, Gathers}
use Rattle.dap_frame.specs.Intake.{Intake, IsUnderWay, StandsFor as StandsForStream}
use Rattle.dap_frame.specs.Settings.{Settings, bounds_of}
use Rattle.dap_history.specs.History.{Entry, In, Out, ins_of}
use Rattle.dap_history.specs.HistoryLaws.{HistoriesGrow}
use Rattle.dap_envelope.specs.InRange.{ReadIsInRange}
use Rattle.dap_envelope.specs.Meaning.{Msg}
use Rattle.dap_json.specs.Field.{max_seq}
use Rattle.dap_call.specs.declared.call.Call.{Call}
use Rattle.dap_envelope.specs.declared.message.Kind.{Kind}
use Rattle.dap_envelope.specs.declared.message.Kind.TheVariants.{Request, Response, Event, Other}
use Rattle.dap_envelope.specs.declared.message.Message.{Message}
use Rattle.dap_client.specs.Calls.{refusal_of, answer_refusal_of, Takes}
use Rattle.dap_client.specs.ClientState.{ClientState}
use Rattle.dap_envelope.specs.ReadBack.{AllReadBack}
use Rattle.dap_client.specs.Keeping.{AreReadBack, IsMade}
use Rattle.dap_client.specs.Laws.{EachStepGoesOn}
use Rattle.dap_client.specs.PrivateReceives.{HasReceived}
use Rattle.dap_client.specs.TerminalResponse.{next_terminal_response, after_terminal_response}
use Rattle.dap_client.specs.Sending.{next_message, after_send}
use Rattle.dap_client.specs.declared.terminal.Terminal.{Terminal}
use Rattle.dap_client.specs.Session.{Session, fresh_session}
use Rattle.dap_client.specs.StandsFor.{StandsFor, GoesOn}
use Rattle.dap_client.specs.Taking.{Made, takes, entries_of, bytes_of}
use Rattle.dap_client.specs.Within.{IsRequestSeqInRange, EachStepStaysWithin}
use Rattle.dap_reader.specs.Reader.{Reader, StandsFor as ReaderStandsFor}
use Rattle.dap_client.specs.declared.fault.ClientFault.{ClientFault}
use Rattle.dap_client.specs.declared.got.Got.{Got}

-- no fault was met
pub none-met : (fault : Option ClientFault) → ((f : ClientFault) → fault ≡ Some f → ⊥) → fault ≡ None
none-met None never = refl
none-met (Some f) never = absurd (never f refl)

-- nothing was used, and nothing came
pub opened : EachStepGoesOn → EachStepStaysWithin → (r : Reader) (e : ClientState) (limits : Settings) → e.fault ≡ None → e.session ≡ fresh_session limits → e.intake ≡ r.intake → r.intake.bounds ≡ bounds_of limits
    → ReaderStandsFor r [] [] → StandsFor e [] []
opened laws within r e limits fault fresh same bounds st = record {
  no_fault = fault;
  received = rw same (record { under_way = st.under_way; bodies = st.bodies; rest = st.rest; stream = st.stream; read = st.read });
  session = rw fresh (laws.opened limits);
  within = rw fresh (within.fresh limits);
  bounds = rw (fresh, same) bounds;
}

-- a request more went
pub went : HistoriesGrow → EachStepGoesOn → EachStepStaysWithin → (old new : ClientState) (c : Call) → refusal_of c old ≡ None → new ≡ record old { session = after_send c old.session }
    → GoesOn old new [] (Out (next_message old.session c) [] ∷ [])
went grow laws within old new c none is s h st =
    let r = st.received in
    let e : Entry = Out (next_message old.session c) [] in
    let same : ins_of (h ++ e ∷ []) ≡ ins_of h = grow.ins_append h (e ∷ []) ∙ append-nil (ins_of h) in
    rw (is, append-nil s) (record {
      no_fault = st.no_fault;
      received = record { under_way = r.under_way; bodies = r.bodies; rest = r.rest; stream = r.stream; read = rw same r.read };
      session = laws.send old.session c h st.session;
      within = within.send old.session c _ st.within none;
      bounds = st.bounds;
    })

-- a request of the adapter is answered
pub answered-terminal : HistoriesGrow → EachStepGoesOn → EachStepStaysWithin → (old new : ClientState) (request_seq : ℕ) (terminal : Terminal) → answer_refusal_of request_seq old ≡ None → new ≡ record old { session = after_terminal_response request_seq old.session }
    → GoesOn old new [] (Out (next_terminal_response old.session request_seq terminal) [] ∷ [])
answered-terminal grow laws within old new request_seq terminal none is s h st =
    let r = st.received in
    let e : Entry = Out (next_terminal_response old.session request_seq terminal) [] in
    let same : ins_of (h ++ e ∷ []) ≡ ins_of h = grow.ins_append h (e ∷ []) ∙ append-nil (ins_of h) in
    rw (is, append-nil s) (record {
      no_fault = st.no_fault;
      received = record { under_way = r.under_way; bodies = r.bodies; rest = r.rest; stream = r.stream; read = rw same r.read };
      session = laws.answer old.session request_seq terminal _ h st.within none st.session;
      within = within.answer old.session request_seq _ st.within none;
      bounds = st.bounds;
    })

-- where two facts hold of a success, so does what follows of both
pub on-both : {T E P Q R : Type 0} (r : Result T E) → (P → Q → R) → OnOk r P → OnOk r Q → OnOk r R
on-both (Ok x) f p q = f p q
on-both (Err e) f p q = tt

-- the frame is still under way
waits-goes_on : (old new : ClientState) (piece : List ℕ) (n : ℕ) → Gathers old.intake new.intake piece n → new.session ≡ old.session → new.fault ≡ None → GoesOn old new piece []
waits-goes_on old new piece n g same fault s h st =
    record {
      no_fault = fault;
      received =
          record {
            under_way = g.under_way;
            bodies = st.received.bodies;
            rest = st.received.rest ++ piece;
            stream = g.stands s st.received.bodies st.received.rest st.received.stream;
            read = rw (append-nil h) st.received.read;
          };
      session = rw (append-nil h, same) st.session;
      within = rw same st.within;
      bounds = rw same (g.bounds ∙ st.bounds);
    }

request-in-range : (seq : ℕ) (kind : Kind) → seq ≤ max_seq → IsRequestSeqInRange seq kind
request-in-range seq (Request command arguments) h = h
request-in-range seq (Response request_seq success command message body) h = tt
request-in-range seq (Event event body) h = tt
request-in-range seq (Other tag) h = tt

-- a body came whole, was read, given up, and something was made of it
delivers-goes_on : (grow : HistoriesGrow) (laws : EachStepGoesOn) (within : EachStepStaysWithin) (old new : ClientState) (ready : Intake) (piece : List ℕ) (n : ℕ) (m : Message) (made : Made)
    → Completes old.intake ready piece n → Msg ready.held m → IsRequestSeqInRange m.seq m.kind
    → IsUnderWay new.intake → new.intake.bounds ≡ old.intake.bounds
    → ((s : List ℕ) (xs : List (List ℕ)) (rest : List ℕ) → StandsForStream ready s xs rest → StandsForStream new.intake s xs rest)
    → takes m old.session ≡ Ok made → new.session ≡ made.after → new.session.limits ≡ old.session.limits → new.fault ≡ None
    → GoesOn old new (take n piece) (In m ∷ entries_of made)
delivers-goes_on grow laws within old new ready piece n m made c read range gathering bounds released is same limits fault s h st =
    let r = st.received in
    let none = laws.none_come made in
    let ins : ins_of (h ++ In m ∷ entries_of made) ≡ ins_of h ++ m ∷ [] =
    grow.ins_append h (In m ∷ entries_of made) ∙ ap (λ (ms : List Message). ins_of h ++ m ∷ ms) none in
    record {
      no_fault = fault;
      received =
          record {
            under_way = gathering;
            bodies = r.bodies ++ ready.held ∷ [];
            rest = [];
            stream = released (s ++ take n piece) (r.bodies ++ ready.held ∷ []) [] (c.stands s r.bodies r.rest r.stream);
            read = rw ins (grow.read_then r.bodies (ins_of h) ready.held m r.read read);
          };
      session = rw same (laws.take old.session m made h st.within.distinct is st.session);
      within = rw same (within.take old.session m made range st.within is);
      bounds = bounds ∙ (st.bounds ∙ ap bounds_of (sym limits));
    }

-- what was made of a message is what it comes to
made-of : (given : Result Made ClientFault) (new : Session) (bytes : List ℕ) → IsMade given new bytes → (made : Made) × (given ≡ Ok made) × (new ≡ made.after) × (bytes ≡ bytes_of made)
made-of (Ok made) new bytes h = (made, refl, h.0, h.1)
made-of (Err f) new bytes h = absurd h

back-of : (limit : ℕ) (given : Result Made ClientFault) (made : Made) → given ≡ Ok made → AreReadBack limit given → AllReadBack limit made.written
back-of limit (Ok m) made is h = let same : m ≡ made = cc is in subst (λ (z : Made). AllReadBack limit z.written) same h
back-of limit (Err f) made is h = absurd h

-- what became of the reader and of the session, said of the client
pub received : (in_range : ReadIsInRange) (grow : HistoriesGrow) (laws : EachStepGoesOn) (within : EachStepStaysWithin) (old new : ClientState) (piece : List ℕ) (got : Got) (delivered : Option Message)
    → new.intake.bounds ≡ old.intake.bounds → new.session.limits ≡ old.session.limits → new.fault ≡ None
    → HasReceived old.intake new.intake old.session new.session piece got delivered → Takes old piece got delivered new
received in_range grow laws within old new piece got None bounds limits fault w =
    record {
      gathers = w.gathers;
      none_written = w.none_written;
      session = w.same;
      goes_on = waits-goes_on old new piece got.used w.gathers w.same fault;
    }
received in_range grow laws within old new piece got (Some m) bounds limits fault d =
    let x = made-of (takes m old.session) new.session got.bytes.items d.made in
    record {
      whole = d.gives.whole;
      read = d.gives.read;
      made = x.0;
      is = x.1;
      session = x.2;
      bytes_are = x.3;
      reads_back = back-of old.session.limits.body (takes m old.session) x.0 x.1 d.reads_back;
      goes_on = delivers-goes_on grow laws within old new d.gives.whole.ready piece got.used m x.0 d.gives.whole.completes d.gives.read (request-in-range m.seq m.kind (in_range _ m d.gives.read).seq) d.gives.under_way bounds d.gives.stands x.1 x.2 limits fault;
    }
