-- Why a call on a piece is refused, from what the session says.
use Rattle.std.proofs.Common.{◌≡◌, ◌≢◌, ℕ, ◌+◌, List, Bool, true, false, nat_le, Option, None, Some, Result, Ok, Err, refl, sym, ap, subst, inl, inr, if◌then◌else◌}
use Rattle.std.specs.Prelude.{not, bytes_eq}
use Rattle.dap_frame.specs.Feeds.{Completes}
use Rattle.dap_frame.specs.Intake.{Intake}
use Rattle.dap_envelope.specs.Meaning.{Msg}
use Rattle.dap_call.specs.Terminal.{run_in_terminal}
use Rattle.dap_envelope.specs.declared.message.Message.{Message}
use Rattle.dap_envelope.specs.declared.message.Kind.{Kind}
use Rattle.dap_envelope.specs.declared.message.Kind.TheVariants.{Request, Response, Event, Other}
use Rattle.dap_tables.specs.declared.entry.Entry.{Entry}
use Rattle.dap_tables.specs.Outstanding.{contains_seq, entry_with}
use Rattle.dap_plan.specs.declared.fault.AdapterFault.{AdapterFault}
use Rattle.dap_plan.specs.declared.fault.AdapterFault.TheVariants.{SeqExhausted, OutOfMemory, Frame, Body, RepeatedSeq, Unmatched, CommandMismatch, Ended}
use Rattle.dap_decision.specs.declared.phase.Phase.TheVariants as phase
use Rattle.dap_plan.specs.Handling.{some_plan}
use Rattle.dap_plan.specs.Plan.{Made, Plan, at_once, messages_due, plan_within_numbers}
use Rattle.dap_plan.specs.SessionState.{SessionState, NotTaken, IsUnasked}
use Rattle.dap_plan.specs.Session.{Session, is_asked}
use Rattle.dap_decision.specs.Table.{is_phase}
use Rattle.dap_plan.specs.Taking.{takes, takes_as, after_taking, after_late_terminal, after_own_response, takes_response_of, plan_of_response, plan_of_terminal}
use Rattle.dap_reader.specs.Reader.{IsRefused as IsUnreadPiece}
use Rattle.dap_reader.specs.declared.fault.ReadFault.{ReadFault}
use Rattle.dap_reader.specs.declared.fault.ReadFault.TheVariants as read
use Rattle.dap_adapter.specs.Calls.{TakeRefused}
use Rattle.dap_adapter.specs.PrivateReceives.{IsBy}

-- the faults that a session has by a message
abbrev IsOfSession : AdapterFault → Type 0
IsOfSession (Frame f) = ⊥
IsOfSession (Body cause offset) = ⊥
IsOfSession (RepeatedSeq seq) = Unit {0}
IsOfSession (Unmatched seq) = Unit {0}
IsOfSession (CommandMismatch seq) = Unit {0}
IsOfSession Ended = Unit {0}
IsOfSession SeqExhausted = Unit {0}
IsOfSession OutOfMemory = ⊥

of_affordable : (b : Bool) (plan : Plan) (fault : AdapterFault) → (if b then Ok plan else Err SeqExhausted) ≡ Err fault → IsOfSession fault
of_affordable true plan fault e = cc
of_affordable false plan fault e = let is : SeqExhausted ≡ fault = cc in subst IsOfSession is tt

of_request : (a b c : Bool) (seq : ℕ) (plan : Plan) (fault : AdapterFault) → (if a then Err Ended else (if b then Err (RepeatedSeq seq) else (if c then Ok plan else Err SeqExhausted))) ≡ Err fault → IsOfSession fault
of_request true b c seq plan fault e = let is : Ended ≡ fault = cc in subst IsOfSession is tt
of_request false true c seq plan fault e = let is : RepeatedSeq seq ≡ fault = cc in subst IsOfSession is tt
of_request false false c seq plan fault e = of_affordable c plan fault e

of_response : (a b c : Bool) (seq : ℕ) (plan : Plan) (fault : AdapterFault) → (if not a then Err (Unmatched seq) else (if not b then Err (CommandMismatch seq) else (if c then Ok plan else Err SeqExhausted))) ≡ Err fault → IsOfSession fault
of_response false b c seq plan fault e = let is : Unmatched seq ≡ fault = cc in subst IsOfSession is tt
of_response true false c seq plan fault e = let is : CommandMismatch seq ≡ fault = cc in subst IsOfSession is tt
of_response true true c seq plan fault e = of_affordable c plan fault e

of_own : (b : Bool) (seq : ℕ) (plan : Plan) (fault : AdapterFault) → (if b then Ok plan else Err (CommandMismatch seq)) ≡ Err fault → IsOfSession fault
of_own true seq plan fault e = cc
of_own false seq plan fault e = let is : CommandMismatch seq ≡ fault = cc in subst IsOfSession is tt

of_either : (o : Option Entry) (request_seq : ℕ) (success : Bool) (command : List ℕ) (s : Session) (fault : AdapterFault) → takes_response_of o request_seq success command s ≡ Err fault → IsOfSession fault
of_either None request_seq success command s fault e =
    of_response (is_asked request_seq s.asked) (bytes_eq command run_in_terminal) (nat_le (s.used + messages_due (plan_of_response success s)) s.limits.seq) request_seq (plan_of_response success s) fault e
of_either (Some r) request_seq success command s fault e = of_own (bytes_eq command r.command) request_seq (at_once (after_own_response request_seq s)) fault e

of_kind : (seq : ℕ) (kind : Kind) (s : Session) (fault : AdapterFault) → takes_as seq kind s ≡ Err fault → IsOfSession fault
of_kind seq (Request command arguments) s fault e =
    let r : Entry = record { seq = seq; command = command; arguments = arguments } in
    of_request (is_phase phase.Ended s.phase) (contains_seq seq s.kept) (nat_le (s.used + messages_due (at_once (after_taking r s))) s.limits.seq) seq (at_once (after_taking r s)) fault e
of_kind seq (Response request_seq success command message body) s fault e =
    of_either (entry_with request_seq s.own) request_seq success command s fault e
of_kind seq (Event event body) s fault e = cc
of_kind seq (Other tag) s fault e = cc

-- ---- the debuggee

-- where the message closes the adapter, it was not asked
pub closed_stays : {D : Type 0} (r : Result Plan AdapterFault) (fault : AdapterFault) (v w : D) → r ≡ Err fault → IsUnasked (some_plan r) v w → w ≡ v
closed_stays r fault v w e u = subst (λ (x : Result Plan AdapterFault). IsUnasked (some_plan x) v w) e u

at_once_stays : {D : Type 0} (b : Bool) (m : _) (v w : D) → IsUnasked (some_plan (if b then Ok (at_once m) else Err SeqExhausted)) v w → w ≡ v
at_once_stays true m v w u = u
at_once_stays false m v w u = u

request_stays : {D : Type 0} (a b c : Bool) (seq : ℕ) (m : Made) (v w : D) → IsUnasked (some_plan (if a then Err Ended else (if b then Err (RepeatedSeq seq) else (if c then Ok (at_once m) else Err SeqExhausted)))) v w → w ≡ v
request_stays true b c seq m v w u = u
request_stays false true c seq m v w u = u
request_stays false false c seq m v w u = at_once_stays c m v w u

response_stays : {D : Type 0} (a b : Bool) (seq : ℕ) (s : Session) (plan : Plan) (m : Made) (v w : D) → plan ≡ at_once m
    → IsUnasked (some_plan (if not a then Err (Unmatched seq) else (if not b then Err (CommandMismatch seq) else plan_within_numbers s plan))) v w → w ≡ v
response_stays false b seq s plan m v w e u = u
response_stays true false seq s plan m v w e u = u
response_stays true true seq s plan m v w e u =
    at_once_stays (nat_le (s.used + messages_due (at_once m)) s.limits.seq) m v w (subst (λ (p : Plan). IsUnasked (some_plan (plan_within_numbers s p)) v w) e u)

own_stays : {D : Type 0} (b : Bool) (seq : ℕ) (m : Made) (v w : D) → IsUnasked (some_plan (if b then Ok (at_once m) else Err (CommandMismatch seq))) v w → w ≡ v
own_stays true seq m v w u = u
own_stays false seq m v w u = u

either_stays : {D : Type 0} (o : Option Entry) (request_seq : ℕ) (ok : Bool) (command : List ℕ) (s : Session) (v w : D) → is_phase phase.Asked s.phase ≡ false → IsUnasked (some_plan (takes_response_of o request_seq ok command s)) v w → w ≡ v
either_stays None request_seq ok command s v w h u =
    response_stays (is_asked request_seq s.asked) (bytes_eq command run_in_terminal) request_seq s (plan_of_response ok s) (after_late_terminal s) v w
    (ap (λ (b : Bool). if b then plan_of_terminal ok s else at_once (after_late_terminal s)) h) u
either_stays (Some r) request_seq ok command s v w h u = own_stays (bytes_eq command r.command) request_seq (after_own_response request_seq s) v w u

kind_stays : {D : Type 0} (seq : ℕ) (kind : Kind) (s : Session) (v w : D) → is_phase phase.Asked s.phase ≡ false → IsUnasked (some_plan (takes_as seq kind s)) v w → w ≡ v
kind_stays seq (Request command arguments) s v w h u =
    let r : Entry = record { seq = seq; command = command; arguments = arguments } in
    request_stays (is_phase phase.Ended s.phase) (contains_seq seq s.kept) (nat_le (s.used + messages_due (at_once (after_taking r s))) s.limits.seq) seq (after_taking r s) v w u
kind_stays seq (Response request_seq ok command message body) s v w h u =
    either_stays (entry_with request_seq s.own) request_seq ok command s v w h u
kind_stays seq (Event event body) s v w h u = u
kind_stays seq (Other tag) s v w h u = u

-- a message asks the debuggee only where a terminal is waited for
pub apart_stays : {D : Type 0} (m : Message) (s : Session) (v w : D) → is_phase phase.Asked s.phase ≡ false → IsUnasked (some_plan (takes m s)) v w → w ≡ v
apart_stays m s v w h u = kind_stays m.seq m.kind s v w h u

pub named_stays : {D : Type 0} (fault : AdapterFault) (r : Result Plan AdapterFault) (v w : D) → NotTaken fault r → fault ≢ OutOfMemory → IsUnasked (some_plan r) v w → w ≡ v
named_stays (Frame f) r v w t other u = closed_stays r (Frame f) v w t u
named_stays (Body cause offset) r v w t other u = closed_stays r (Body cause offset) v w t u
named_stays (RepeatedSeq seq) r v w t other u = closed_stays r (RepeatedSeq seq) v w t u
named_stays (Unmatched seq) r v w t other u = closed_stays r (Unmatched seq) v w t u
named_stays (CommandMismatch seq) r v w t other u = closed_stays r (CommandMismatch seq) v w t u
named_stays Ended r v w t other u = closed_stays r Ended v w t u
named_stays SeqExhausted r v w t other u = closed_stays r SeqExhausted v w t u
named_stays OutOfMemory r v w t other u = absurd (other refl)

-- ---- why a piece is refused

pub untaken_refused : {D : Type 0} → (old ready : Intake) (p : SessionState D) (piece : List ℕ) (n : ℕ) (m : Message) (fault : AdapterFault) (after : D)
    → Completes old ready piece n → Msg ready.held m → NotTaken fault (takes m p.session) → IsUnasked (some_plan (takes m p.session)) p.debuggee after → TakeRefused old p piece fault after
untaken_refused old ready p piece n m OutOfMemory after c read t u =
    record {
      n = n;
      whole = record { ready = ready; completes = c };
      debuggee = inr (m, read, u);
    }
untaken_refused old ready p piece n m (Frame f) after c read t u = absurd (of_kind m.seq m.kind p.session (Frame f) t)
untaken_refused old ready p piece n m (Body cause offset) after c read t u = absurd (of_kind m.seq m.kind p.session (Body cause offset) t)
untaken_refused old ready p piece n m (RepeatedSeq seq) after c read t u = record { n = n; whole = record { ready = ready; completes = c }; message = m; read = read; closes = t }
untaken_refused old ready p piece n m (Unmatched seq) after c read t u = record { n = n; whole = record { ready = ready; completes = c }; message = m; read = read; closes = t }
untaken_refused old ready p piece n m (CommandMismatch seq) after c read t u = record { n = n; whole = record { ready = ready; completes = c }; message = m; read = read; closes = t }
untaken_refused old ready p piece n m Ended after c read t u = record { n = n; whole = record { ready = ready; completes = c }; message = m; read = read; closes = t }
untaken_refused old ready p piece n m SeqExhausted after c read t u = record { n = n; whole = record { ready = ready; completes = c }; message = m; read = read; closes = t }

pub unread_refused : {D : Type 0} (old : Intake) (p : SessionState D) (piece : List ℕ) (cause : ReadFault) (fault : AdapterFault) → IsUnreadPiece old piece cause → IsBy cause fault → TakeRefused old p piece fault p.debuggee
unread_refused old p piece (read.Frame f) fault r by = subst (λ (x : AdapterFault). TakeRefused old p piece x p.debuggee) (sym by) r
unread_refused old p piece (read.Body cause offset) fault r by = subst (λ (x : AdapterFault). TakeRefused old p piece x p.debuggee) (sym by) r
unread_refused old p piece read.OutOfMemory fault r by =
    subst (λ (x : AdapterFault). TakeRefused old p piece x p.debuggee) (sym by) (record { n = r.0; whole = r.1; debuggee = inl refl })
unread_refused old p piece read.Closed fault r by = absurd r
