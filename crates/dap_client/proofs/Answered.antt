-- A response that answers a request, and one that does not.
use Rattle.std.proofs.Common.{◌≡◌, ℕ, ◌+◌, ◌≤◌, ◌<◌, List, [], ◌∷◌, ◌++◌, length, Bool, true, false, Option, Some, None, Result, Ok, Err, refl, sym, ap, ◌∙◌, subst, arith, true≢false}
use Rattle.std.specs.Prelude.{bytes_eq, nat_le, nat_lt, cond, ◌==◌, not, if◌then◌else◌}
use Rattle.std.proofs.lemmas.Bool.Decides.{nat_tests}
use Rattle.serde_json.specs.Data.{Data}
use Rattle.dap_frame.specs.Settings.{Settings}
use Rattle.dap_json.specs.Field.{max_seq}
use Rattle.dap_command.specs.Command.{command_named}
use Rattle.dap_command.specs.declared.command.Command.{Command}
use Rattle.dap_call.specs.Terminal.{run_in_terminal}
use Rattle.dap_tables.specs.Known.{KnownReferences}
use Rattle.dap_tables.specs.Outstanding.{Kept, KeptRequests, IsOrderlyRequests, kept_unparked, without}
use Rattle.dap_tables.specs.Seq.{Numbers, after_next}
use Rattle.dap_tables.specs.declared.entry.Entry.{Entry as Waiting}
use Rattle.dap_client.specs.declared.fault.ClientFault.{ClientFault}
use Rattle.dap_client.specs.declared.fault.ClientFault.TheVariants as fault
use Rattle.dap_client.specs.Changes.{change_in}
use Rattle.dap_client.specs.Keeping.{IsSession, IsMade, IsWhyClosed, IsWhyUnlearned, match_result}
use Rattle.dap_client.specs.Seen.{known_after, capabilities_after, cause_of, after_change, after_response}
use Rattle.dap_client.specs.Session.{Session}
use Rattle.dap_client.specs.Within.{AreSent, AreTerminalRequests}
use Rattle.dap_client.specs.Taking.{Made, made_by_answer, answered_within, takes_answer}
use Rattle.dap_client.proofs.TerminalRequests.{terminals-more, terminals-fewer}

-- ---- the table without a request

fewer-if : (b : Bool) (used : ℕ) (k : Kept) (kept : List Kept) → k.entry.seq ≤ used → AreSent used kept → AreSent used (cond b (k ∷ kept) kept)
fewer-if true used k kept h all = (h, all)
fewer-if false used k kept h all = all

pub sent-fewer : (used seq : ℕ) (kept : List Kept) → AreSent used kept → AreSent used (without seq kept)
sent-fewer used seq [] all = tt
sent-fewer used seq (k ∷ kept) all = fewer-if (not (k.entry.seq == seq)) used k (without seq kept) all.0 (sent-fewer used seq kept all.1)

pub session-fewer : (limits : Settings) (known : KnownReferences) (table next incoming : KeptRequests) (numbers : Numbers) (seq : ℕ) → IsSession limits known table incoming numbers
    → next ≡ record table { kept = without seq table.kept } → IsOrderlyRequests next → IsSession limits known next incoming numbers
session-fewer limits known table next incoming numbers seq l fewer orderly =
    let kept : next.kept ≡ without seq table.kept = ap (λ (t : KeptRequests). t.kept) fewer in
    record {
      known_room = l.known_room;
      room = ap (λ (t : KeptRequests). t.room) fewer ∙ l.room;
      orderly = orderly;
      incoming_room = l.incoming_room;
      incoming_orderly = l.incoming_orderly;
      terminals = l.terminals;
      last = l.last;
      used = l.used;
      greatest = l.greatest;
      sent = rw kept (sent-fewer numbers.used seq table.kept l.sent);
    }

-- ---- a request that waits

match_result-if : (b : Bool) (request_seq : ℕ) (given : Result Made ClientFault) → (let told : Result (Unit {0}) ClientFault = (if b then Ok tt else Err (fault.CommandMismatch request_seq)) in told) ≡ Ok tt
    → (if b then given else Err (fault.CommandMismatch request_seq)) ≡ given
match_result-if true request_seq given e = refl
match_result-if false request_seq given e = cc

-- then the response is taken, unless it gives too much
pub match_result-takes : (o : Option Waiting) (request_seq : ℕ) (ok : Bool) (name : List ℕ) (body : Option Data) (s : Session) → match_result o request_seq name ≡ Ok tt → takes_answer o request_seq ok name body s ≡ answered_within request_seq ok name body s
match_result-takes None request_seq ok name body s e = cc
match_result-takes (Some r) request_seq ok name body s e = match_result-if (bytes_eq name r.command) request_seq (answered_within request_seq ok name body s) e

within-if : (b : Bool) (m : Made) → b ≡ true → (let given : Result Made ClientFault = (if b then Ok m else Err fault.ReferenceLimit) in given) ≡ Ok m
within-if true m e = refl
within-if false m e = absurd (true≢false (sym e))

over-if : (b : Bool) (m : Made) → b ≡ false → (let given : Result Made ClientFault = (if b then Ok m else Err fault.ReferenceLimit) in given) ≡ Err fault.ReferenceLimit
over-if false m e = refl
over-if true m e = absurd (true≢false e)

at_most : (a b : ℕ) → a ≤ b → nat_le a b ≡ true
at_most a b h = grind (arith, nat_tests)

more_than : (a b : ℕ) → b < a → nat_le a b ≡ false
more_than a b h = grind (arith, nat_tests)

pub within-takes : (request_seq : ℕ) (ok : Bool) (name : List ℕ) (body : Option Data) (s : Session) → length (known_after ok (command_named name) body s.seen) ≤ s.limits.references
    → answered_within request_seq ok name body s ≡ Ok (made_by_answer request_seq (after_response request_seq ok (command_named name) body s.seen) s)
within-takes request_seq ok name body s h =
    within-if (nat_le (length (known_after ok (command_named name) body s.seen)) s.limits.references) (made_by_answer request_seq (after_response request_seq ok (command_named name) body s.seen) s) (at_most (length (known_after ok (command_named name) body s.seen)) s.limits.references h)

over-takes : (request_seq : ℕ) (ok : Bool) (name : List ℕ) (body : Option Data) (s : Session) → s.limits.references < length (known_after ok (command_named name) body s.seen)
    → answered_within request_seq ok name body s ≡ Err fault.ReferenceLimit
over-takes request_seq ok name body s h =
    over-if (nat_le (length (known_after ok (command_named name) body s.seen)) s.limits.references) (made_by_answer request_seq (after_response request_seq ok (command_named name) body s.seen) s) (more_than (length (known_after ok (command_named name) body s.seen)) s.limits.references h)

-- what is not learned closes the client
pub unlearned-closes : (f : ClientFault) (o : Option Waiting) (request_seq : ℕ) (ok : Bool) (name : List ℕ) (known : Option Command) (body : Option Data) (s : Session) → match_result o request_seq name ≡ Ok tt → known ≡ command_named name
    → IsWhyUnlearned f s.limits.references (length (known_after ok known body s.seen)) → IsWhyClosed f (takes_answer o request_seq ok name body s)
unlearned-closes fault.ReferenceLimit o request_seq ok name known body s m k h =
    match_result-takes o request_seq ok name body s m ∙ over-takes request_seq ok name body s (subst (λ (x : Option Command). s.limits.references < length (known_after ok x body s.seen)) k h)
unlearned-closes fault.OutOfMemory o request_seq ok name known body s m k h = tt
unlearned-closes _ o request_seq ok name known body s m k h = absurd h

-- what is learned, without the request that was answered, and with the change that it causes
pub known_after-answers : (o : Option Waiting) (request_seq : ℕ) (ok : Bool) (name : List ℕ) (known : Option Command) (c : Command) (body : Option Data) (s l t n : Session) → match_result o request_seq name ≡ Ok tt → known ≡ command_named name → known ≡ Some c
    → length (known_after ok known body s.seen) ≤ s.limits.references
    → l ≡ record s { seen = record s.seen { known = known_after ok known body s.seen } }
    → t ≡ record l { outstanding = without request_seq l.outstanding }
    → n ≡ record t { seen = after_change (change_in (cause_of request_seq c ok t.seen) t.seen.phase) (record t.seen { capabilities = capabilities_after ok c body t.seen }) }
    → IsMade (takes_answer o request_seq ok name body s) n []
known_after-answers o request_seq ok name known c body s l t n m k is h e f g =
    let named : command_named name ≡ Some c = sym k ∙ is in
    let small : length (known_after ok (command_named name) body s.seen) ≤ s.limits.references = subst (λ (x : Option Command). length (known_after ok x body s.seen) ≤ s.limits.references) k h in
    let given = match_result-takes o request_seq ok name body s m ∙ within-takes request_seq ok name body s small in
    let first : l ≡ record s { seen = record s.seen { known = known_after ok (Some c) body s.seen } } =
    e ∙ ap (λ (x : Option Command). record s { seen = record s.seen { known = known_after ok x body s.seen } }) is in
    let step : Session → Session = λ l. record l { outstanding = without request_seq l.outstanding } in
    let last : Session → Session = λ t. record t { seen = after_change (change_in (cause_of request_seq c ok t.seen) t.seen.phase) (record t.seen { capabilities = capabilities_after ok c body t.seen }) } in
    let whole : n ≡ (made_by_answer request_seq (after_response request_seq ok (Some c) body s.seen) s).after = g ∙ ap last (f ∙ ap step first) in
    let same : n ≡ (made_by_answer request_seq (after_response request_seq ok (command_named name) body s.seen) s).after =
    whole ∙ ap (λ (x : Option Command). (made_by_answer request_seq (after_response request_seq ok x body s.seen) s).after) (sym named) in
    subst (λ (x : Result Made ClientFault). IsMade x n []) (sym given) (same, refl)

-- ---- a number more

pub sent-later : (used later : ℕ) (kept : List Kept) → used ≤ later → AreSent used kept → AreSent later kept
sent-later used later [] h all = tt
sent-later used later (k ∷ kept) h all = let small = all.0 in (omega arith, sent-later used later kept h all.1)

next-if : (b : Bool) (n : Numbers) → (n.used ≤ (if b then record n { used = n.used + 1 } else n).used) × ((if b then record n { used = n.used + 1 } else n).last ≡ n.last)
next-if true n = (omega arith, refl)
next-if false n = (omega arith, refl)

pub session-later : (limits : Settings) (known : KnownReferences) (table incoming : KeptRequests) (numbers later : Numbers) → IsSession limits known table incoming numbers → later ≡ after_next numbers → later.used ≤ later.last → IsSession limits known table incoming later
session-later limits known table incoming numbers later l moved bound =
    let both = next-if (nat_lt numbers.used numbers.last) numbers in
    let rising = both.0 in
    let now = ap (λ (n : Numbers). n.used) moved in
    let up : numbers.used ≤ later.used = omega arith in
    record {
      known_room = l.known_room;
      room = l.room;
      orderly = l.orderly;
      incoming_room = l.incoming_room;
      incoming_orderly = l.incoming_orderly;
      terminals = l.terminals;
      last = ap (λ (n : Numbers). n.last) moved ∙ (both.1 ∙ l.last);
      used = bound;
      greatest = l.greatest;
      sent = sent-later numbers.used later.used table.kept up l.sent;
    }

-- ---- a request of the adapter is kept, or kept no longer

pub session-kept : (limits : Settings) (known : KnownReferences) (table incoming next : KeptRequests) (numbers : Numbers) (entry : Waiting) → IsSession limits known table incoming numbers
    → next ≡ record incoming { kept = incoming.kept ++ kept_unparked entry ∷ [] } → IsOrderlyRequests next → entry.command ≡ run_in_terminal → entry.seq ≤ max_seq → IsSession limits known table next numbers
session-kept limits known table incoming next numbers entry l more orderly command small =
    record {
      known_room = l.known_room;
      room = l.room;
      orderly = l.orderly;
      incoming_room = ap (λ (t : KeptRequests). t.room) more ∙ l.incoming_room;
      incoming_orderly = orderly;
      terminals = subst (λ (ks : List Kept). AreTerminalRequests ks) (sym (ap (λ (t : KeptRequests). t.kept) more)) (terminals-more incoming.kept entry l.terminals command small);
      last = l.last;
      used = l.used;
      greatest = l.greatest;
      sent = l.sent;
    }

pub session-settled : (limits : Settings) (known : KnownReferences) (table incoming next : KeptRequests) (numbers : Numbers) (seq : ℕ) → IsSession limits known table incoming numbers
    → next ≡ record incoming { kept = without seq incoming.kept } → IsOrderlyRequests next → IsSession limits known table next numbers
session-settled limits known table incoming next numbers seq l fewer orderly =
    record {
      known_room = l.known_room;
      room = l.room;
      orderly = l.orderly;
      incoming_room = ap (λ (t : KeptRequests). t.room) fewer ∙ l.incoming_room;
      incoming_orderly = orderly;
      terminals = subst (λ (ks : List Kept). AreTerminalRequests ks) (sym (ap (λ (t : KeptRequests). t.kept) fewer)) (terminals-fewer seq incoming.kept l.terminals);
      last = l.last;
      used = l.used;
      greatest = l.greatest;
      sent = l.sent;
    }
