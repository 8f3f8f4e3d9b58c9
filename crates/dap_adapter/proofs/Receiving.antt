-- An adapter stands for the bytes that come, from what the reader of messages says.
use Rattle.std.proofs.Common.{◌≡◌, ℕ, List, [], ◌∷◌, ◌++◌, Option, Some, None, Ok, ap, sym, ◌∙◌, take}
use Rattle.std.proofs.lemmas.List.{append-nil}
use Rattle.dap_frame.specs.Feeds.{Completes, Gathers}
use Rattle.dap_frame.specs.Intake.{Intake, IsUnderWay, StandsFor as StandsForStream}
use Rattle.dap_frame.specs.Settings.{bounds_of}
use Rattle.dap_history.specs.History.{In, ins_of, outs_of}
use Rattle.dap_history.specs.HistoryLaws.{HistoriesGrow}
use Rattle.dap_envelope.specs.InRange.{ReadIsInRange}
use Rattle.dap_envelope.specs.Meaning.{Msg}
use Rattle.dap_envelope.specs.declared.message.Message.{Message}
use Rattle.dap_plan.specs.Carried.{Goes}
use Rattle.dap_plan.specs.Laws.{CanMake, can_make, EachStepGoesOn}
use Rattle.dap_plan.specs.Plan.{Made, Plan, entries_of}
use Rattle.dap_plan.specs.SessionState.{SessionState}
use Rattle.dap_plan.specs.Taking.{takes}
use Rattle.dap_plan.specs.Within.{EachStepStaysWithin}
use Rattle.dap_adapter.specs.Calls.{Takes}
use Rattle.dap_adapter.specs.AdapterState.{AdapterState, state_of}
use Rattle.dap_adapter.specs.PrivateReceives.{HasReceived}
use Rattle.dap_adapter.specs.StandsFor.{GoesOn}
use Rattle.dap_adapter.proofs.Adapting.{orderly}
use Rattle.dap_adapter.proofs.Readable.{none-in-range, step-reads}

-- the frame is still under way
waits-goes_on : {D : Type 0} (old new : AdapterState D) (piece : List ℕ) (n : ℕ) → Gathers old.intake new.intake piece n → new.session ≡ old.session → new.fault ≡ None → GoesOn old new piece []
waits-goes_on old new piece n g same fault s h st =
    record {
      no_fault = fault;
      received =
          record {
            under_way = g.under_way;
            bodies = st.received.bodies;
            rest = st.received.rest ++ piece;
            stream = g.stands s st.received.bodies st.received.rest st.received.stream;
            read = rw (append-nil h) st.received.read;
          };
      session = rw (append-nil h, same) st.session;
      within = rw same st.within;
      bounds = rw same (g.bounds ∙ st.bounds);
    }

-- a body came whole, was read, given up, and something was made of it
delivers-goes_on : {D : Type 0} (grow : HistoriesGrow) (laws : EachStepGoesOn) (within : EachStepStaysWithin) (old new : AdapterState D) (ready : Intake) (piece : List ℕ) (n : ℕ) (m : Message) (plan : Plan) (made : Made)
    → Completes old.intake ready piece n → Msg ready.held m
    → IsUnderWay new.intake → new.intake.bounds ≡ old.intake.bounds
    → ((s : List ℕ) (xs : List (List ℕ)) (rest : List ℕ) → StandsForStream ready s xs rest → StandsForStream new.intake s xs rest)
    → takes m old.session ≡ Ok plan → CanMake plan made → new.session ≡ made.after → new.session.limits ≡ old.session.limits → new.fault ≡ None
    → GoesOn old new (take n piece) (In m ∷ entries_of old.session.used made)
delivers-goes_on grow laws within old new ready piece n m plan made c read gathering bounds released is can same limits fault s h st =
    let r = st.received in
    let none = laws.none_come old.session.used made in
    let ins : ins_of (h ++ In m ∷ entries_of old.session.used made) ≡ ins_of h ++ m ∷ [] =
    grow.ins_append h (In m ∷ entries_of old.session.used made) ∙ ap (λ (ms : List Message). ins_of h ++ m ∷ ms) none in
    record {
      no_fault = fault;
      received =
          record {
            under_way = gathering;
            bodies = r.bodies ++ ready.held ∷ [];
            rest = [];
            stream = released (s ++ take n piece) (r.bodies ++ ready.held ∷ []) [] (c.stands s r.bodies r.rest r.stream);
            read = rw ins (grow.read_then r.bodies (ins_of h) ready.held m r.read read);
          };
      session = rw same (laws.take old.session m plan made h (orderly old.session st.within) is can st.session);
      within = rw same (within.take old.session m plan made st.within is can);
      bounds = bounds ∙ (st.bounds ∙ ap bounds_of (sym limits));
    }

-- what became of the reader and of the session, said of the adapter
pub received : {D : Type 0} (grow : HistoriesGrow) (ranges : ReadIsInRange) (laws : EachStepGoesOn) (within : EachStepStaysWithin) (follows : Goes D) (old new : AdapterState D) (from to : SessionState D) (piece : List ℕ) (used : ℕ) (bytes : List ℕ) (delivered : Option Message)
    → from ≡ state_of old → to ≡ state_of new
    → new.intake.bounds ≡ old.intake.bounds → new.session.limits ≡ old.session.limits → new.fault ≡ None
    → HasReceived follows old.intake new.intake from to piece used bytes delivered → Takes follows old piece used bytes delivered new
received grow ranges laws within follows old new from to piece used bytes None a b bounds limits fault w =
    let same = sym b ∙ (w.same ∙ a) in
    let session = ap (λ (x : SessionState _). x.session) same in
    record {
      gathers = w.gathers;
      none_written = w.none_written;
      session = session;
      debuggee = ap (λ (x : SessionState _). x.debuggee) same;
      goes_on = waits-goes_on old new piece used w.gathers session fault;
    }
received grow ranges laws within follows old new from to piece used bytes (Some m) a b bounds limits fault d =
    let has = rw (a, b) at d.has_taken in
    let step = has.carries.step in
    let can = can_make follows has.plan _ _ step.made step.carried in
    let goes = delivers-goes_on grow laws within old new d.gives.whole.ready piece used m has.plan step.made d.gives.whole.completes d.gives.read d.gives.under_way bounds d.gives.stands has.is can step.after limits fault in
    record {
      whole = d.gives.whole;
      read = d.gives.read;
      plan = has.plan;
      is = has.is;
      step = record {
        session = step;
        bytes_are = has.carries.tells.bytes_are;
        goes_on = goes;
        went = λ h. grow.outs_append h (In m ∷ entries_of old.session.used step.made) ∙ ap (λ (ms : List Message). outs_of h ++ ms) (laws.all_go old.session.used step.made);
        reads_back = step-reads ranges old new (take used piece) (In m ∷ []) step.made (none-in-range step.made.drafts (laws.only_ask.take old.session m has.plan step.made has.is can)) goes has.carries.tells.reads_back;
      };
    }
