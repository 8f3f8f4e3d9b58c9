-- What is true of a session stays true, step by step.
use Rattle.std.proofs.Common.{◌≡◌, ℕ, ◌+◌, ◌≤◌, ◌<◌, List, [], ◌∷◌, ◌++◌, length, Bool, true, false, Option, Some, None, Result, Ok, Err, refl, subst, arith, length-append}
use Rattle.std.specs.Prelude.{◌==◌, not, cond, bytes_eq, nat_le, nat_lt, if◌then◌else◌}
use Rattle.std.proofs.lemmas.Bool.{leb-true}
use Rattle.std.proofs.lemmas.Bool.Decides.{nat_tests}
use Rattle.serde_json.specs.Data.{Data}
use Rattle.dap_frame.specs.Settings.{Settings}
use Rattle.dap_json.specs.Field.{max_seq}
use Rattle.dap_command.specs.Command.{command_named}
use Rattle.dap_call.specs.CallTree.{command_of}
use Rattle.dap_call.specs.declared.call.Call.{Call}
use Rattle.dap_command.specs.declared.command.Command.{Command}
use Rattle.dap_body.specs.declared.failure.Failure.{Failure}
use Rattle.dap_envelope.specs.declared.message.Kind.{Kind}
use Rattle.dap_envelope.specs.declared.message.Kind.TheVariants.{Request, Response, Event, Other}
use Rattle.dap_tables.specs.Known.{HasDistinctPairs}
use Rattle.dap_tables.specs.KnownLaws.{KnownIsASet}
use Rattle.dap_tables.specs.Outstanding.{Kept, contains_seq, entry_with, kept_unparked, without, HasDistinctSeqs}
use Rattle.dap_tables.specs.declared.entry.Entry.{Entry}
use Rattle.dap_tables.specs.declared.reference_kind.ReferenceKind.{ReferenceKind}
use Rattle.dap_client.specs.declared.change.Change.{Change}
use Rattle.dap_client.specs.declared.fault.ClientFault.{ClientFault}
use Rattle.dap_client.specs.declared.fault.ClientFault.TheVariants.{CommandMismatch, RepeatedSeq, ReferenceLimit, SeqExhausted as NoSeq}
use Rattle.dap_client.specs.declared.fault.SendFault.{SendFault}
use Rattle.dap_client.specs.declared.fault.SendFault.TheVariants as fault
use Rattle.dap_client.specs.Changes.{sent, signalled, change_in, signal_named}
use Rattle.dap_client.specs.Seen.{Seen, kept_unless, after_change, references_of_success, known_after, cause_of, after_body, after_response, after_event}
use Rattle.dap_client.specs.Sending.{holds, first_of, late_refusals, refusals_in_order, request_of, after_send}
use Rattle.dap_client.specs.Session.{Session, fresh_session}
use Rattle.dap_client.specs.TerminalResponse.{first_terminal_refusal, after_terminal_response}
use Rattle.dap_client.specs.Taking.{Made, made_without_writing, failure_in, made_by_declining, request_from, made_by_keeping, keeps_or_declines, made_by_answer, answered_within, takes_answer, takes_as}
use Rattle.dap_client.specs.Within.{AreSent, AreNamed, IsWithin, IsRequestSeqInRange, EachStepStaysWithin}
use Rattle.dap_client.proofs.Answered.{sent-fewer, sent-later}
use Rattle.dap_client.proofs.Refusals.{none-or, sent-more}
use Rattle.dap_client.proofs.RequestLemmas.{named-back}
use Rattle.dap_client.proofs.Waiting.{false-left, false-right}
use Rattle.dap_client.proofs.TerminalRequests.{IsRoom, room-of, answered-has-number, terminals-more, terminals-fewer}

-- ---- tables of requests

apart-from : (a b : ℕ) → a < b → (b == a) ≡ false
apart-from a b h = grind (arith, nat_tests)

turned : (a b : ℕ) → (b == a) ≡ false → (a == b) ≡ false
turned a b h = grind (arith, nat_tests)

contains-more : (seq : ℕ) (kept : List Kept) (e : Entry) → contains_seq seq kept ≡ false → (e.seq == seq) ≡ false → contains_seq seq (kept ++ kept_unparked e ∷ []) ≡ false
contains-more seq [] e h n = none-or (e.seq == seq) false n refl
contains-more seq (k ∷ kept) e h n =
    none-or (k.entry.seq == seq) (contains_seq seq (kept ++ kept_unparked e ∷ [])) (false-left (k.entry.seq == seq) (contains_seq seq kept) h)
    (contains-more seq kept e (false-right (k.entry.seq == seq) (contains_seq seq kept) h) n)

distinct-more : (used : ℕ) (kept : List Kept) (e : Entry) → AreSent used kept → used < e.seq → HasDistinctSeqs kept → HasDistinctSeqs (kept ++ kept_unparked e ∷ [])
distinct-more used [] e all h d = (refl, tt)
distinct-more used (k ∷ kept) e all h d =
    let small = all.0 in
    let less : k.entry.seq < e.seq = omega arith in
    (contains-more k.entry.seq kept e d.0 (apart-from k.entry.seq e.seq less), distinct-more used kept e all.1 h d.1)

-- of a number that no request has
distinct-new : (kept : List Kept) (e : Entry) → contains_seq e.seq kept ≡ false → HasDistinctSeqs kept → HasDistinctSeqs (kept ++ kept_unparked e ∷ [])
distinct-new [] e h d = (refl, tt)
distinct-new (k ∷ kept) e h d =
    let apart : (e.seq == k.entry.seq) ≡ false = turned e.seq k.entry.seq (false-left (k.entry.seq == e.seq) (contains_seq e.seq kept) h) in
    (contains-more k.entry.seq kept e d.0 apart, distinct-new kept e (false-right (k.entry.seq == e.seq) (contains_seq e.seq kept) h) d.1)

contains-if : (b : Bool) (seq : ℕ) (k : Kept) (kept : List Kept) → (k.entry.seq == seq) ≡ false → contains_seq seq kept ≡ false → contains_seq seq (cond b (k ∷ kept) kept) ≡ false
contains-if true seq k kept n h = none-or (k.entry.seq == seq) (contains_seq seq kept) n h
contains-if false seq k kept n h = h

contains-fewer : (seq gone : ℕ) (kept : List Kept) → contains_seq seq kept ≡ false → contains_seq seq (without gone kept) ≡ false
contains-fewer seq gone [] h = refl
contains-fewer seq gone (k ∷ kept) h =
    contains-if (not (k.entry.seq == gone)) seq k (without gone kept) (false-left (k.entry.seq == seq) (contains_seq seq kept) h)
    (contains-fewer seq gone kept (false-right (k.entry.seq == seq) (contains_seq seq kept) h))

distinct-if : (b : Bool) (k : Kept) (kept : List Kept) → contains_seq k.entry.seq kept ≡ false → HasDistinctSeqs kept → HasDistinctSeqs (cond b (k ∷ kept) kept)
distinct-if true k kept n d = (n, d)
distinct-if false k kept n d = d

distinct-fewer : (gone : ℕ) (kept : List Kept) → HasDistinctSeqs kept → HasDistinctSeqs (without gone kept)
distinct-fewer gone [] d = tt
distinct-fewer gone (k ∷ kept) d = distinct-if (not (k.entry.seq == gone)) k (without gone kept) (contains-fewer k.entry.seq gone kept d.0) (distinct-fewer gone kept d.1)

length-if : (b : Bool) (k : Kept) (kept : List Kept) (n : ℕ) → length kept ≤ n → length (cond b (k ∷ kept) kept) ≤ n + 1
length-if true k kept n h = omega arith
length-if false k kept n h = omega arith

length-fewer : (gone : ℕ) (kept : List Kept) → length (without gone kept) ≤ length kept
length-fewer gone [] = omega arith
length-fewer gone (k ∷ kept) =
    let less = length-if (not (k.entry.seq == gone)) k (without gone kept) (length kept) (length-fewer gone kept) in
    omega arith

-- each names a command
named-more : (kept : List Kept) (e : Entry) → (c : Command) × (command_named e.command ≡ Some c) → AreNamed kept → AreNamed (kept ++ kept_unparked e ∷ [])
named-more [] e n h = (n, tt)
named-more (k ∷ kept) e n h = (h.0, named-more kept e n h.1)

named-if : (b : Bool) (k : Kept) (kept : List Kept) → (c : Command) × (command_named k.entry.command ≡ Some c) → AreNamed kept → AreNamed (cond b (k ∷ kept) kept)
named-if true k kept n h = (n, h)
named-if false k kept n h = h

named-fewer : (gone : ℕ) (kept : List Kept) → AreNamed kept → AreNamed (without gone kept)
named-fewer gone [] h = tt
named-fewer gone (k ∷ kept) h = named-if (not (k.entry.seq == gone)) k (without gone kept) h.0 (named-fewer gone kept h.1)

-- ---- references that are known

known-unless : (b : Bool) (known : List (ReferenceKind × ℕ)) (most : ℕ) → length known ≤ most → length (kept_unless b known) ≤ most
known-unless true known most h = omega arith
known-unless false known most h = h

apart-unless : (b : Bool) (known : List (ReferenceKind × ℕ)) → HasDistinctPairs known → HasDistinctPairs (kept_unless b known)
apart-unless true known h = tt
apart-unless false known h = h

known-after_change : (o : Option Change) (s : Seen) (most : ℕ) → length s.known ≤ most → length (after_change o s).known ≤ most
known-after_change None s most h = h
known-after_change (Some c) s most h = known-unless c.clears s.known most h

apart-after_change : (o : Option Change) (s : Seen) → HasDistinctPairs s.known → HasDistinctPairs (after_change o s).known
apart-after_change None s h = h
apart-after_change (Some c) s h = apart-unless c.clears s.known h

known-made_by_answer : (o : Option Command) (n : ℕ) (ok : Bool) (body : Option Data) (s : Seen) (most : ℕ) → length (known_after ok o body s) ≤ most → length s.known ≤ most → length (after_response n ok o body s).known ≤ most
known-made_by_answer None n ok body s most h k = k
known-made_by_answer (Some c) n ok body s most h k = known-after_change (change_in (cause_of n c ok s) s.phase) (after_body ok c body s) most h

apart-made_by_answer : KnownIsASet → (o : Option Command) (n : ℕ) (ok : Bool) (body : Option Data) (s : Seen) → HasDistinctPairs s.known → HasDistinctPairs (after_response n ok o body s).known
apart-made_by_answer sets None n ok body s h = h
apart-made_by_answer sets (Some c) n ok body s h = apart-after_change (change_in (cause_of n c ok s) s.phase) (after_body ok c body s) (sets.distinct (references_of_success ok (Some c) body s.phase) s.known h)

known-event : (o : Option _) (body : Option Data) (s : Seen) (most : ℕ) → length s.known ≤ most → length (after_event o body s).known ≤ most
known-event None body s most h = h
known-event (Some x) body s most h = known-after_change (change_in (signalled x) s.phase) _ most h

apart-event : (o : Option _) (body : Option Data) (s : Seen) → HasDistinctPairs s.known → HasDistinctPairs (after_event o body s).known
apart-event None body s h = h
apart-event (Some x) body s h = apart-after_change (change_in (signalled x) s.phase) _ h

-- ---- send

-- of a list of tests, where none holds
skip-if : {X : Type 0} (b : Bool) (x : X) (o : Option X) → cond b (Some x) o ≡ None → (b ≡ false) × (o ≡ None)
skip-if true x o e = cc
skip-if false x o e = (refl, e)

late-none : (c : Call) (closed : Bool) (s : Session) → first_of refusals_in_order c closed s ≡ None → first_of late_refusals c closed s ≡ None
late-none c closed s e =
    let tests : SendFault → Bool = λ f. holds f c closed s in
    let a = skip-if (tests fault.Ended) fault.Ended _ e in
    let b = skip-if (tests fault.WrongPhase) fault.WrongPhase _ a.1 in
    let d = skip-if (tests fault.NotSupported) fault.NotSupported _ b.1 in
    let f = skip-if (tests fault.NotStopped) fault.NotStopped _ d.1 in
    (skip-if (tests fault.UnknownReference) fault.UnknownReference _ f.1).1

pub record HasRoom (s : Session) : Type 0 where
  pub kept : length s.outstanding < s.limits.requests
  pub used : s.used < s.limits.seq

not-at : (a b : ℕ) → nat_le a b ≡ false → b < a
not-at a b h = grind (arith, nat_tests)

has-room : (c : Call) (closed : Bool) (s : Session) → first_of refusals_in_order c closed s ≡ None → HasRoom s
has-room c closed s e =
    let tests : SendFault → Bool = λ f. holds f c closed s in
    let a = skip-if (tests fault.TooLarge) fault.TooLarge _ (late-none c closed s e) in
    let b = skip-if (tests fault.Full) fault.Full _ a.1 in
    let d = skip-if (tests fault.SeqExhausted) fault.SeqExhausted _ b.1 in
    record { kept = not-at s.limits.requests (length s.outstanding) b.0; used = not-at s.limits.seq s.used d.0 }

send-stays : (s : Session) (c : Call) (closed : Bool) → IsWithin s → first_of refusals_in_order c closed s ≡ None → IsWithin (after_send c s)
send-stays s c closed w e =
    let room = has-room c closed s e in
    let kept = room.kept in
    let used = room.used in
    let r : Entry = request_of (s.used + 1) c in
    let long = length-append s.outstanding (kept_unparked r ∷ []) in
    let next : s.used < r.seq = omega arith in
    let o : Option Change = change_in (sent _) s.seen.phase in
    record {
      distinct = distinct-more s.used s.outstanding r w.sent next w.distinct;
      outstanding = omega arith;
      sent = sent-more s.used r s.outstanding refl w.sent;
      named = named-more s.outstanding r (command_of c, named-back (command_of c)) w.named;
      incoming_distinct = w.incoming_distinct;
      incoming = w.incoming;
      terminals = w.terminals;
      used = omega arith;
      apart = apart-after_change o s.seen w.apart;
      known = known-after_change o s.seen s.limits.references w.known;
    }

-- ---- take

below : (a b : ℕ) → nat_lt a b ≡ true → a + 1 ≤ b
below a b h = grind (arith, nat_tests)

later : (n : ℕ) → n ≤ n + 1
later n = omega arith

abbrev Stays : Session → Made → Type 0
Stays s made = IsWithin s → IsWithin made.after

-- it is answered at once
declines-stays : (b : Bool) (seq : ℕ) (name : List ℕ) (failure : Failure) (s : Session) (made : Made) → nat_lt s.used s.limits.seq ≡ b → (if b then Ok (made_by_declining seq name failure s) else Err NoSeq) ≡ Ok made → Stays s made
declines-stays true seq name failure s made is e w =
    let same : made_by_declining seq name failure s ≡ made = cc in
    subst (λ (x : Made). IsWithin x.after) same (record {
      distinct = w.distinct;
      outstanding = w.outstanding;
      sent = sent-later s.used (s.used + 1) s.outstanding (later s.used) w.sent;
      named = w.named;
      incoming_distinct = w.incoming_distinct;
      incoming = w.incoming;
      terminals = w.terminals;
      used = below s.used s.limits.seq is;
      apart = w.apart;
      known = w.known;
    })
declines-stays false seq name failure s made is e w = cc

-- or kept
keeping-stays : (r : Entry) (s : Session) → contains_seq r.seq s.incoming ≡ false → IsRoom r s → r.seq ≤ max_seq → Stays s (made_by_keeping r s)
keeping-stays r s new room small w =
    let less = room.room in
    let long = length-append s.incoming (kept_unparked r ∷ []) in
    record {
      distinct = w.distinct;
      outstanding = w.outstanding;
      sent = w.sent;
      named = w.named;
      incoming_distinct = distinct-new s.incoming r new w.incoming_distinct;
      incoming = omega arith;
      terminals = terminals-more s.incoming r w.terminals room.command small;
      used = w.used;
      apart = w.apart;
      known = w.known;
    }

keeps-stays : (o : Option Failure) (r : Entry) (s : Session) (made : Made) → failure_in r s ≡ o → contains_seq r.seq s.incoming ≡ false → r.seq ≤ max_seq → keeps_or_declines o r s ≡ Ok made → Stays s made
keeps-stays None r s made is new small e w = let same : made_by_keeping r s ≡ made = cc in subst (λ (x : Made). IsWithin x.after) same (keeping-stays r s new (room-of r s is) small w)
keeps-stays (Some failure) r s made is new small e w = declines-stays (nat_lt s.used s.limits.seq) r.seq r.command failure s made refl e w

request-stays : (b : Bool) (r : Entry) (s : Session) (made : Made) → contains_seq r.seq s.incoming ≡ b → r.seq ≤ max_seq → (if b then Err (RepeatedSeq r.seq) else keeps_or_declines (failure_in r s) r s) ≡ Ok made → Stays s made
request-stays true r s made is small e w = cc
request-stays false r s made is small e w = keeps-stays (failure_in r s) r s made refl is small e w

made_by_answer-stays : KnownIsASet → (b : Bool) (n : ℕ) (ok : Bool) (name : List ℕ) (body : Option Data) (s : Session) (made : Made)
    → nat_le (length (known_after ok (command_named name) body s.seen)) s.limits.references ≡ b
    → (if b then Ok (made_by_answer n (after_response n ok (command_named name) body s.seen) s) else Err ReferenceLimit) ≡ Ok made → Stays s made
made_by_answer-stays sets true n ok name body s made is e w =
    let same : made_by_answer n (after_response n ok (command_named name) body s.seen) s ≡ made = cc in
    let fewer = length-fewer n s.outstanding in
    let room = w.outstanding in
    subst (λ (x : Made). IsWithin x.after) same (record {
      distinct = distinct-fewer n s.outstanding w.distinct;
      outstanding = omega arith;
      sent = sent-fewer s.used n s.outstanding w.sent;
      named = named-fewer n s.outstanding w.named;
      incoming_distinct = w.incoming_distinct;
      incoming = w.incoming;
      terminals = w.terminals;
      used = w.used;
      apart = apart-made_by_answer sets (command_named name) n ok body s.seen w.apart;
      known = known-made_by_answer (command_named name) n ok body s.seen s.limits.references (leb-true (length (known_after ok (command_named name) body s.seen)) s.limits.references is) w.known;
    })
made_by_answer-stays sets false n ok name body s made is e w = cc

matching-stays : KnownIsASet → (b : Bool) (n : ℕ) (ok : Bool) (name : List ℕ) (body : Option Data) (s : Session) (made : Made) → (if b then answered_within n ok name body s else Err (CommandMismatch n)) ≡ Ok made → Stays s made
matching-stays sets true n ok name body s made e = made_by_answer-stays sets (nat_le (length (known_after ok (command_named name) body s.seen)) s.limits.references) n ok name body s made refl e
matching-stays sets false n ok name body s made e = cc

response-stays : KnownIsASet → (o : Option Entry) (n : ℕ) (ok : Bool) (name : List ℕ) (body : Option Data) (s : Session) (made : Made) → takes_answer o n ok name body s ≡ Ok made → Stays s made
response-stays sets None n ok name body s made e = cc
response-stays sets (Some r) n ok name body s made e = matching-stays sets (bytes_eq name r.command) n ok name body s made e

quiet-stays : (s : Session) (seen : Seen) (made : Made) → (let given : Result Made ClientFault = Ok (made_without_writing (record s { seen = seen })) in given) ≡ Ok made
    → HasDistinctPairs seen.known → length seen.known ≤ s.limits.references → Stays s made
quiet-stays s seen made e apart known w =
    let same : made_without_writing (record s { seen = seen }) ≡ made = cc in
    subst (λ (x : Made). IsWithin x.after) same (record { distinct = w.distinct; outstanding = w.outstanding; sent = w.sent; named = w.named; incoming_distinct = w.incoming_distinct; incoming = w.incoming; terminals = w.terminals; used = w.used; apart = apart; known = known })

kind-stays : KnownIsASet → (seq : ℕ) (kind : Kind) (s : Session) (made : Made) → IsRequestSeqInRange seq kind → takes_as seq kind s ≡ Ok made → Stays s made
kind-stays sets seq (Request name arguments) s made small e w = request-stays (contains_seq seq s.incoming) (request_from seq name arguments) s made refl small e w
kind-stays sets seq (Response n ok name message body) s made small e w = response-stays sets (entry_with n s.outstanding) n ok name body s made e w
kind-stays sets seq (Event event body) s made small e w =
    quiet-stays s (after_event (signal_named event) body s.seen) made e (apart-event (signal_named event) body s.seen w.apart) (known-event (signal_named event) body s.seen s.limits.references w.known) w
kind-stays sets seq (Other tag) s made small e w = quiet-stays s s.seen made e w.apart w.known w

-- ---- answer

answer-stays : (s : Session) (request_seq : ℕ) (closed : Bool) → IsWithin s → first_terminal_refusal request_seq closed s ≡ None → IsWithin (after_terminal_response request_seq s)
answer-stays s request_seq closed w none =
    let left = answered-has-number request_seq closed s none in
    let fewer = length-fewer request_seq s.incoming in
    let room = w.incoming in
    record {
      distinct = w.distinct;
      outstanding = w.outstanding;
      sent = sent-later s.used (s.used + 1) s.outstanding (later s.used) w.sent;
      named = w.named;
      incoming_distinct = distinct-fewer request_seq s.incoming w.incoming_distinct;
      incoming = omega arith;
      terminals = terminals-fewer request_seq s.incoming w.terminals;
      used = omega arith;
      apart = w.apart;
      known = w.known;
    }

-- ---- limits

abbrev Keeps : Session → Result Made ClientFault → Type 0
Keeps s given = (made : Made) → given ≡ Ok made → made.after.limits ≡ s.limits

keeps-if : (b : Bool) (s : Session) (given : Result Made ClientFault) (f : ClientFault) → Keeps s given → Keeps s (if b then given else Err f)
keeps-if true s given f h made e = h made e
keeps-if false s given f h made e = cc

keeps-ok : (s : Session) (made : Made) → made.after.limits ≡ s.limits → Keeps s (Ok made)
keeps-ok s made h other e = let same : made ≡ other = cc in subst (λ (x : Made). x.after.limits ≡ s.limits) same h

keeps-answer : (o : Option Entry) (n : ℕ) (ok : Bool) (name : List ℕ) (body : Option Data) (s : Session) → Keeps s (takes_answer o n ok name body s)
keeps-answer None n ok name body s made e = cc
keeps-answer (Some r) n ok name body s made e =
    keeps-if (bytes_eq name r.command) s (answered_within n ok name body s) (CommandMismatch n)
    (keeps-if (nat_le (length (known_after ok (command_named name) body s.seen)) s.limits.references) s (Ok (made_by_answer n (after_response n ok (command_named name) body s.seen) s)) ReferenceLimit
    (keeps-ok s (made_by_answer n (after_response n ok (command_named name) body s.seen) s) refl))
    made e

keeps-failure : (o : Option Failure) (r : Entry) (s : Session) → Keeps s (keeps_or_declines o r s)
keeps-failure None r s = keeps-ok s (made_by_keeping r s) refl
keeps-failure (Some failure) r s = keeps-if (nat_lt s.used s.limits.seq) s (Ok (made_by_declining r.seq r.command failure s)) NoSeq (keeps-ok s (made_by_declining r.seq r.command failure s) refl)

keeps-request : (b : Bool) (r : Entry) (s : Session) → Keeps s (if b then Err (RepeatedSeq r.seq) else keeps_or_declines (failure_in r s) r s)
keeps-request true r s made e = cc
keeps-request false r s made e = keeps-failure (failure_in r s) r s made e

keeps-kind : (seq : ℕ) (kind : Kind) (s : Session) → Keeps s (takes_as seq kind s)
keeps-kind seq (Request name arguments) s = keeps-request (contains_seq seq s.incoming) (request_from seq name arguments) s
keeps-kind seq (Response n ok name message body) s = keeps-answer (entry_with n s.outstanding) n ok name body s
keeps-kind seq (Event event body) s = keeps-ok s (made_without_writing (record s { seen = after_event (signal_named event) body s.seen })) refl
keeps-kind seq (Other tag) s = keeps-ok s (made_without_writing s) refl

-- ---- the law

pub fresh-stays : (limits : Settings) → IsWithin (fresh_session limits)
fresh-stays limits = record { distinct = tt; outstanding = omega arith; sent = tt; named = tt; incoming_distinct = tt; incoming = omega arith; terminals = tt; used = omega arith; apart = tt; known = omega arith }

pub each_step_stays_within : KnownIsASet → EachStepStaysWithin
each_step_stays_within sets = record {
  fresh = fresh-stays;
  send = send-stays;
  take = λ s m made range w e. kind-stays sets m.seq m.kind s made range e w;
  answer = answer-stays;
  take_keeps_limits = λ s m made e. keeps-kind m.seq m.kind s made e;
}
