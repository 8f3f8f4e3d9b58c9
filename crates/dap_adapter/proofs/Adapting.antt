-- An adapter goes on as its session does.
use Rattle.std.proofs.Common.{◌≡◌, ℕ, ◌≤◌, List, [], ◌++◌, Bool, true, length, Option, Some, None, Result, Ok, Err, OnOk, refl, sym, ap, ◌∙◌, subst, arith}
use Rattle.std.proofs.lemmas.List.{append-nil}
use Rattle.dap_frame.specs.Intake.{Intake}
use Rattle.dap_frame.specs.Settings.{Settings, bounds_of}
use Rattle.dap_history.specs.History.{Entry, Came, Went, ins_of, outs_of}
use Rattle.dap_history.specs.HistoryLaws.{HistoriesGrow}
use Rattle.dap_history.specs.Received.{Received}
use Rattle.dap_envelope.specs.InRange.{ReadIsInRange}
use Rattle.dap_envelope.specs.Refusals.{max_command}
use Rattle.dap_envelope.specs.declared.message.Message.{Message}
use Rattle.dap_command.specs.declared.offer.Offer.{Offer}
use Rattle.dap_debuggee.specs.Shown.{Shown}
use Rattle.dap_plan.specs.declared.fault.AdapterFault.{AdapterFault}
use Rattle.dap_plan.specs.Carried.{Goes}
use Rattle.dap_plan.specs.Follows.{Follows}
use Rattle.dap_plan.specs.Laws.{CanMake, can_make, EachStepGoesOn}
use Rattle.dap_plan.specs.Plan.{Made, Plan, entries_of}
use Rattle.dap_plan.specs.Polling.{polls}
use Rattle.dap_plan.specs.Asking.{ask_faults, asks_named, first_ask_fault, may_ask}
use Rattle.dap_plan.specs.Emitting.{emit_faults, emits, first_emit_fault}
use Rattle.serde_json.specs.Data.{Data}
use Rattle.std.specs.Prelude.{is_some}
use Rattle.dap_plan.specs.SessionState.{SessionState, AppendsSome, Carries, HasTurned}
use Rattle.dap_plan.specs.Session.{Session, IsOrderly, OwnStandApart, opened_session}
use Rattle.dap_plan.specs.Within.{IsWithin, EachStepStaysWithin}
use Rattle.dap_message.specs.declared.outcome.Outcome.{Outcome}
use Rattle.dap_plan.specs.Responding.{IsLent, first_respond_fault, respond_faults, responds}
use Rattle.dap_session.specs.SessionCalls.{HasResponded}
use Rattle.dap_adapter.specs.Calls.{Step, Handled, Saw, Asks, Emits, Responds}
use Rattle.dap_adapter.specs.AdapterState.{AdapterState, state_of}
use Rattle.dap_adapter.specs.StandsFor.{GoesOn}
use Rattle.dap_adapter.proofs.Readable.{NamesInRange, none-in-range, step-reads}

-- no fault was met
pub none-met : (fault : Option AdapterFault) → ((f : AdapterFault) → fault ≡ Some f → ⊥) → fault ≡ None
none-met None never = refl
none-met (Some f) never = absurd (never f refl)

-- nothing came, and the stream stands
received-more : HistoriesGrow → (i : Intake) (s : List ℕ) (h k : List Entry) → ins_of k ≡ [] → Received i s h → Received i s (h ++ k)
received-more laws i s h k e r =
    let same : ins_of (h ++ k) ≡ ins_of h = laws.ins_append h k ∙ (ap (λ (ms : List Message). ins_of h ++ ms) e ∙ append-nil (ins_of h)) in
    record { under_way = r.under_way; bodies = r.bodies; rest = r.rest; stream = r.stream; read = rw same r.read }

-- bounds stay where the limits and the bounds do
bounds-stay : {D : Type 0} (old new : AdapterState D) → new.intake.bounds ≡ old.intake.bounds → new.session.limits ≡ old.session.limits → old.intake.bounds ≡ bounds_of old.session.limits → new.intake.bounds ≡ bounds_of new.session.limits
bounds-stay old new i l b = i ∙ (b ∙ ap bounds_of (sym l))

-- what the laws of a step ask
pub orderly : (s : Session) → IsWithin s → IsOrderly s
orderly s w = record { distinct = w.distinct; asked = w.asked; own = w.own }

-- a step without bytes of the client
pub stepped : {D : Type 0} (grow : HistoriesGrow) (ranges : ReadIsInRange) (laws : EachStepGoesOn) (follows : Goes D) (plan : Plan) (old new : AdapterState D) (bytes : List ℕ) (from to : SessionState D)
    → from ≡ state_of old → to ≡ state_of new → new.intake ≡ old.intake
    → new.fault ≡ None → new.session.limits ≡ old.session.limits
    → Carries follows plan from to bytes
    → ((made : Made) (h : List Entry) → CanMake plan made → IsWithin old.session → Follows old.session h → Follows made.after (h ++ entries_of old.session.used made))
    → ((made : Made) → CanMake plan made → new.session ≡ made.after → IsWithin old.session → IsWithin made.after)
    → ((made : Made) → CanMake plan made → NamesInRange made.drafts)
    → Step follows plan old new [] [] bytes
stepped grow ranges laws follows plan old new bytes from to a b i fault limits c go stay named =
    let carries : Carries follows plan (state_of old) (state_of new) bytes = rw (a, b) at c in
    let step = carries.step in
    let can = can_make follows plan _ _ step.made step.carried in
    let goes : GoesOn old new [] (entries_of old.session.used step.made) =
    λ s h st.
    record {
      no_fault = fault;
      received = rw (i, append-nil s) (received-more grow old.intake s h (entries_of old.session.used step.made) (laws.none_come old.session.used step.made) st.received);
      session = rw step.after (go step.made h can st.within st.session);
      within = rw step.after (stay step.made can step.after st.within);
      bounds = bounds-stay old new (ap (λ (x : Intake). x.bounds) i) limits st.bounds;
    } in
    record {
      session = step;
      bytes_are = carries.tells.bytes_are;
      goes_on = goes;
      went = λ h. grow.outs_append h (entries_of old.session.used step.made) ∙ ap (λ (ms : List Message). outs_of h ++ ms) (laws.all_go old.session.used step.made);
      reads_back = step-reads ranges old new [] [] step.made (named step.made can) goes carries.tells.reads_back;
    }

pub handled : {D : Type 0} (grow : HistoriesGrow) (ranges : ReadIsInRange) (laws : EachStepGoesOn) (within : EachStepStaysWithin) (shown : D → Shown) (follows : Goes D) (old new : AdapterState D) (bytes : List ℕ) (from to : SessionState D)
    → from ≡ state_of old → to ≡ state_of new → new.intake ≡ old.intake
    → new.fault ≡ None → new.session.limits ≡ old.session.limits
    → HasTurned shown follows from to bytes → Handled shown follows old bytes new
handled grow ranges laws within shown follows old new bytes from to a b i fault limits t =
    let due = rw a at t.is in
    record {
      plan = t.plan;
      is = due;
      intake = i;
      step = stepped grow ranges laws follows t.plan old new bytes from to a b i fault limits t.carries
          (λ made h can w f. laws.turn (shown old.debuggee) old.session t.plan made h (orderly old.session w) due can f)
          (λ made can is w. within.turn (shown old.debuggee) old.session t.plan made w due can)
          (λ made can. none-in-range made.drafts (laws.only_ask.turn (shown old.debuggee) old.session t.plan made due can));
    }

pub opened-follows : HistoriesGrow → (limits : Settings) (offers : Offer) → Follows (opened_session limits offers) []
opened-follows laws limits offers = record { kept = refl; answers = laws.answers_none Came; accepted = laws.answers_none Went; asked = (refl, refl); references = refl; used = refl; numbered = tt }

own-opened : (limits : Settings) (offers : Offer) → 1 ≤ limits.requests → OwnStandApart (opened_session limits offers)
own-opened limits offers h = record { distinct = tt; apart = λ seq e. refl; given = tt; asked_given = λ seq e. absurd cc; places = omega arith }

pub opened-within : (limits : Settings) (offers : Offer) → 1 ≤ limits.requests → IsWithin (opened_session limits offers)
opened-within limits offers h = record { distinct = tt; kept = omega arith; asked = refl; own = own-opened limits offers h; used = omega arith; references = omega arith; numbers = omega arith; breakpoints = omega arith; ids = omega arith }

pub sees : {D : Type 0} (grow : HistoriesGrow) (ranges : ReadIsInRange) (laws : EachStepGoesOn) (within : EachStepStaysWithin) (follows : Goes D) (old new : AdapterState D) (bytes : List ℕ) (from to : SessionState D)
    → from ≡ state_of old → to ≡ state_of new → new.intake ≡ old.intake
    → new.fault ≡ None → new.session.limits ≡ old.session.limits
    → Carries follows (polls from.session) from to bytes → new.session.used ≤ old.session.limits.seq → Saw follows old bytes new
sees grow ranges laws within follows old new bytes from to a b i fault limits c w =
    record {
      intake = i;
      step = stepped grow ranges laws follows (polls old.session) old new bytes from to a b i fault limits (subst (λ (x : SessionState _). Carries follows (polls x.session) from to bytes) a c)
          (λ made h can in_range f. laws.poll old.session made h can f)
          (λ made can is in_range. within.poll old.session made in_range can (subst (λ (x : Session). x.used ≤ old.session.limits.seq) is w))
          (λ made can. none-in-range made.drafts (laws.only_ask.poll old.session made can));
      within = w;
    }

-- an event that is told by its name
is-open : (fault : Option AdapterFault) (name : List ℕ) (body : Option Data) (s : Session) → first_emit_fault emit_faults name body (is_some fault) s ≡ None → fault ≡ None
is-open None name body s e = refl
is-open (Some f) name body s e = absurd (cc e)

pub emits-event : {D : Type 0} (grow : HistoriesGrow) (ranges : ReadIsInRange) (laws : EachStepGoesOn) (within : EachStepStaysWithin) (follows : Goes D) (name : List ℕ) (body : Option Data) (old new : AdapterState D) (bytes : List ℕ) (from to : SessionState D)
    → from ≡ state_of old → to ≡ state_of new → new.intake ≡ old.intake
    → new.fault ≡ old.fault → new.session.limits ≡ old.session.limits
    → first_emit_fault emit_faults name body (is_some old.fault) old.session ≡ None
    → Carries follows (emits name body from.session) from to bytes → new.session.used ≤ old.session.limits.seq → Emits follows name body old bytes new
emits-event grow ranges laws within follows name body old new bytes from to a b i fault limits free c w =
    record {
      free = free;
      intake = i;
      fault = fault;
      debuggee = rw (a, b) at c.step.carried.1;
      limits = limits;
      step = stepped grow ranges laws follows (emits name body old.session) old new bytes from to a b i (fault ∙ is-open old.fault name body old.session free) limits (subst (λ (x : SessionState _). Carries follows (emits name body x.session) from to bytes) a c)
          (λ made h can in_range f. laws.emit name body old.session made h can f)
          (λ made can is in_range. within.emit name body old.session made in_range can (subst (λ (x : Session). x.used ≤ old.session.limits.seq) is w))
          (λ made can. none-in-range made.drafts (laws.only_ask.emit name body old.session made can));
      within = w;
    }

-- the same of a call that appends it
pub emits-all : {D T E : Type 0} (grow : HistoriesGrow) (ranges : ReadIsInRange) (laws : EachStepGoesOn) (within : EachStepStaysWithin) (follows : Goes D) (name : List ℕ) (body : Option Data) (old new : AdapterState D) (from to : SessionState D) (r : Result T E) (closed : Bool) (before after : List ℕ)
    → closed ≡ is_some old.fault → from ≡ state_of old → to ≡ state_of new → new.intake ≡ old.intake → new.fault ≡ old.fault → new.session.limits ≡ old.session.limits
    → OnOk r (first_emit_fault emit_faults name body closed from.session ≡ None) → OnOk r (AppendsSome (λ bytes. Carries follows (emits name body from.session) from to bytes) before after) → OnOk r (to.session.used ≤ from.session.limits.seq)
    → OnOk r (AppendsSome (λ bytes. Emits follows name body old bytes new) before after)
emits-all grow ranges laws within follows name body old new from to (Ok x) closed before after c a b i fault limits free there w =
    let none : first_emit_fault emit_faults name body closed old.session ≡ None = rw a at free in
    let open_so : first_emit_fault emit_faults name body (is_some old.fault) old.session ≡ None = subst (λ (k : Bool). first_emit_fault emit_faults name body k old.session ≡ None) c none in
    let used : new.session.used ≤ old.session.limits.seq = rw (a, b) at w in
    record { bytes = there.bytes; items = there.items; holds = emits-event grow ranges laws within follows name body old new there.bytes from to a b i fault limits open_so there.holds used }
emits-all grow ranges laws within follows name body old new from to (Err e) closed before after c a b i fault limits free there w = tt

-- ---- a lent request that is answered

is-open-to : (fault : Option AdapterFault) (seq : ℕ) (o : Outcome) (s : Session) → first_respond_fault respond_faults seq o (is_some fault) s ≡ None → fault ≡ None
is-open-to None seq o s e = refl
is-open-to (Some f) seq o s e = absurd (cc e)

responds-to : {D : Type 0} (grow : HistoriesGrow) (ranges : ReadIsInRange) (laws : EachStepGoesOn) (within : EachStepStaysWithin) (follows : Goes D) (seq : ℕ) (o : Outcome) (old new : AdapterState D) (bytes : List ℕ) (from to : SessionState D)
    → from ≡ state_of old → to ≡ state_of new → new.intake ≡ old.intake
    → new.fault ≡ old.fault → new.session.limits ≡ old.session.limits
    → first_respond_fault respond_faults seq o (is_some old.fault) old.session ≡ None
    → HasResponded follows seq o from to bytes → new.session.used ≤ old.session.limits.seq → Responds follows seq o old bytes new
responds-to grow ranges laws within follows seq o old new bytes from to a b i fault limits free c w =
    let lent : IsLent old.session c.entry = subst (λ (x : SessionState _). IsLent x.session c.entry) a c.lent in
    record {
      free = free;
      entry = c.entry;
      number = c.number;
      lent = lent;
      intake = i;
      fault = fault;
      debuggee = rw (a, b) at c.carries.step.carried.1;
      limits = limits;
      step = stepped grow ranges laws follows (responds c.entry o old.session) old new bytes from to a b i (fault ∙ is-open-to old.fault seq o old.session free) limits (subst (λ (x : SessionState _). Carries follows (responds c.entry o x.session) from to bytes) a c.carries)
          (λ made h can in_range f. laws.respond c.entry o old.session made h (orderly old.session in_range) lent can f)
          (λ made can is in_range. within.respond c.entry o old.session made in_range lent can (subst (λ (x : Session). x.used ≤ old.session.limits.seq) is w))
          (λ made can. none-in-range made.drafts (laws.only_ask.respond c.entry o old.session made can));
      within = w;
    }

-- the same of a call that appends it
pub responds-all : {D T E : Type 0} (grow : HistoriesGrow) (ranges : ReadIsInRange) (laws : EachStepGoesOn) (within : EachStepStaysWithin) (follows : Goes D) (seq : ℕ) (o : Outcome) (old new : AdapterState D) (from to : SessionState D) (r : Result T E) (closed : Bool) (before after : List ℕ)
    → closed ≡ is_some old.fault → from ≡ state_of old → to ≡ state_of new → new.intake ≡ old.intake → new.fault ≡ old.fault → new.session.limits ≡ old.session.limits
    → OnOk r (first_respond_fault respond_faults seq o closed from.session ≡ None) → OnOk r (AppendsSome (λ bytes. HasResponded follows seq o from to bytes) before after) → OnOk r (to.session.used ≤ from.session.limits.seq)
    → OnOk r (AppendsSome (λ bytes. Responds follows seq o old bytes new) before after)
responds-all grow ranges laws within follows seq o old new from to (Ok x) closed before after c a b i fault limits free there w =
    let none : first_respond_fault respond_faults seq o closed old.session ≡ None = rw a at free in
    let open_so : first_respond_fault respond_faults seq o (is_some old.fault) old.session ≡ None = subst (λ (k : Bool). first_respond_fault respond_faults seq o k old.session ≡ None) c none in
    let used : new.session.used ≤ old.session.limits.seq = rw (a, b) at w in
    record { bytes = there.bytes; items = there.items; holds = responds-to grow ranges laws within follows seq o old new there.bytes from to a b i fault limits open_so there.holds used }
responds-all grow ranges laws within follows seq o old new from to (Err e) closed before after c a b i fault limits free there w = tt

-- ---- a request that is asked by its name

is-open-for : (fault : Option AdapterFault) (command : List ℕ) (arguments : Option Data) (s : Session) → first_ask_fault ask_faults command arguments (is_some fault) s ≡ None → fault ≡ None
is-open-for None command arguments s e = refl
is-open-for (Some f) command arguments s e = absurd (cc e)

asks-request : {D : Type 0} (grow : HistoriesGrow) (ranges : ReadIsInRange) (laws : EachStepGoesOn) (within : EachStepStaysWithin) (follows : Goes D) (command : List ℕ) (arguments : Option Data) (old new : AdapterState D) (bytes : List ℕ) (from to : SessionState D)
    → from ≡ state_of old → to ≡ state_of new → new.intake ≡ old.intake
    → new.fault ≡ old.fault → new.session.limits ≡ old.session.limits
    → first_ask_fault ask_faults command arguments (is_some old.fault) old.session ≡ None → may_ask old.session ≡ true → length command ≤ max_command
    → Carries follows (asks_named command arguments from.session) from to bytes → new.session.used ≤ old.session.limits.seq → Asks follows command arguments old bytes new
asks-request grow ranges laws within follows command arguments old new bytes from to a b i fault limits free may name c w =
    record {
      free = free;
      intake = i;
      fault = fault;
      debuggee = rw (a, b) at c.step.carried.1;
      limits = limits;
      step = stepped grow ranges laws follows (asks_named command arguments old.session) old new bytes from to a b i (fault ∙ is-open-for old.fault command arguments old.session free) limits (subst (λ (x : SessionState _). Carries follows (asks_named command arguments x.session) from to bytes) a c)
          (λ made h can in_range f. laws.ask command arguments old.session made h can f)
          (λ made can is in_range. within.ask command arguments old.session made in_range may can (subst (λ (x : Session). x.used ≤ old.session.limits.seq) is w))
          (λ made can. subst (λ (x : Made). NamesInRange x.drafts) (sym can) (name, tt));
      within = w;
    }

-- the same of a call that appends it
pub asks-all : {D T E : Type 0} (grow : HistoriesGrow) (ranges : ReadIsInRange) (laws : EachStepGoesOn) (within : EachStepStaysWithin) (follows : Goes D) (command : List ℕ) (arguments : Option Data) (old new : AdapterState D) (from to : SessionState D) (r : Result T E) (closed : Bool) (before after : List ℕ)
    → closed ≡ is_some old.fault → from ≡ state_of old → to ≡ state_of new → new.intake ≡ old.intake → new.fault ≡ old.fault → new.session.limits ≡ old.session.limits
    → OnOk r (first_ask_fault ask_faults command arguments closed from.session ≡ None) → OnOk r (may_ask from.session ≡ true) → OnOk r (length command ≤ max_command) → OnOk r (AppendsSome (λ bytes. Carries follows (asks_named command arguments from.session) from to bytes) before after) → OnOk r (to.session.used ≤ from.session.limits.seq)
    → OnOk r (AppendsSome (λ bytes. Asks follows command arguments old bytes new) before after)
asks-all grow ranges laws within follows command arguments old new from to (Ok x) closed before after c a b i fault limits free may name there w =
    let none : first_ask_fault ask_faults command arguments closed old.session ≡ None = rw a at free in
    let open_so : first_ask_fault ask_faults command arguments (is_some old.fault) old.session ≡ None = subst (λ (k : Bool). first_ask_fault ask_faults command arguments k old.session ≡ None) c none in
    let allowed : may_ask old.session ≡ true = rw a at may in
    let used : new.session.used ≤ old.session.limits.seq = rw (a, b) at w in
    record { bytes = there.bytes; items = there.items; holds = asks-request grow ranges laws within follows command arguments old new there.bytes from to a b i fault limits open_so allowed name there.holds used }
asks-all grow ranges laws within follows command arguments old new from to (Err e) closed before after c a b i fault limits free may name there w = tt
