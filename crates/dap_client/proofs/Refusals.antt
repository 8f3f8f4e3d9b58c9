-- The first refusal of two lists, one behind the other; and numbers that were given.
use Rattle.std.proofs.Common.{◌≡◌, ℕ, ◌+◌, ◌<◌, List, [], ◌∷◌, ◌++◌, Bool, true, false, Option, Some, None, refl, sym, ap, subst, ◌∙◌, arith, true≢false}
use Rattle.std.specs.Prelude.{find, cond, ◌==◌, ◌||◌, nat_lt, if◌then◌else◌}
use Rattle.std.proofs.lemmas.Bool.Decides.{nat_tests}
use Rattle.dap_call.specs.declared.call.Call.{Call}
use Rattle.dap_frame.specs.Settings.{Settings}
use Rattle.dap_tables.specs.Known.{KnownReferences}
use Rattle.dap_tables.specs.Outstanding.{Kept, KeptRequests, IsOrderlyRequests, kept_unparked, contains_seq}
use Rattle.dap_tables.specs.Seq.{Numbers, after_next}
use Rattle.dap_tables.specs.declared.entry.Entry.{Entry}
use Rattle.dap_client.specs.declared.fault.SendFault.{SendFault}
use Rattle.dap_client.specs.declared.fault.SendFault.TheVariants as fault
use Rattle.dap_client.specs.Keeping.{IsSession, IsWhyLate, IsWhyNotSent}
use Rattle.dap_client.specs.Sending.{holds, first_of, early_refusals, late_refusals, refusals_in_order}
use Rattle.dap_client.specs.Session.{Session}
use Rattle.dap_client.specs.Within.{AreSent}

find-first-if : {X : Type 0} (b : Bool) (p : X → Bool) (x : X) (xs ys : List X) → (find p xs ≡ None → find p (xs ++ ys) ≡ find p ys) → cond b (Some x) (find p xs) ≡ None → cond b (Some x) (find p (xs ++ ys)) ≡ find p ys
find-first-if true p x xs ys ih e = cc
find-first-if false p x xs ys ih e = ih e

find-rest : {X : Type 0} (p : X → Bool) (xs ys : List X) → find p xs ≡ None → find p (xs ++ ys) ≡ find p ys
find-rest p [] ys e = refl
find-rest p (x ∷ xs) ys e = find-first-if (p x) p x xs ys (find-rest p xs ys) e

find-found-if : {X : Type 0} (b : Bool) (p : X → Bool) (x y : X) (xs ys : List X) → (find p xs ≡ Some y → find p (xs ++ ys) ≡ Some y) → cond b (Some x) (find p xs) ≡ Some y → cond b (Some x) (find p (xs ++ ys)) ≡ Some y
find-found-if true p x y xs ys ih e = e
find-found-if false p x y xs ys ih e = ih e

find-front : {X : Type 0} (p : X → Bool) (y : X) (xs ys : List X) → find p xs ≡ Some y → find p (xs ++ ys) ≡ Some y
find-front p y [] ys e = cc
find-front p y (x ∷ xs) ys e = find-found-if (p x) p x y xs ys (find-front p y xs ys) e

-- an early refusal is the first of all
pub early-first : (c : Call) (closed : Bool) (s : Session) (f : SendFault) → first_of early_refusals c closed s ≡ Some f → first_of refusals_in_order c closed s ≡ Some f
early-first c closed s f e = find-front (λ x. holds x c closed s) f early_refusals late_refusals e

-- and without one it is the first of the late ones
pub late-first : (c : Call) (closed : Bool) (s : Session) → first_of early_refusals c closed s ≡ None → first_of refusals_in_order c closed s ≡ first_of late_refusals c closed s
late-first c closed s e = find-rest (λ x. holds x c closed s) early_refusals late_refusals e

find-holds-if : {X : Type 0} (b : Bool) (p : X → Bool) (x y : X) (xs : List X) → p x ≡ b → (find p xs ≡ Some y → p y ≡ true) → cond b (Some x) (find p xs) ≡ Some y → p y ≡ true
find-holds-if true p x y xs is ih e = let same : x ≡ y = cc in subst (λ z. p z ≡ true) same is
find-holds-if false p x y xs is ih e = ih e

find-holds : {X : Type 0} (p : X → Bool) (y : X) (xs : List X) → find p xs ≡ Some y → p y ≡ true
find-holds p y [] e = cc
find-holds p y (x ∷ xs) e = find-holds-if (p x) p x y xs refl (find-holds p y xs) e

-- an early refusal is why a call was not sent
pub why-early : (f : SendFault) (c : Call) (closed : Bool) (s : Session) → first_of early_refusals c closed s ≡ Some f → IsWhyNotSent f c closed s
why-early fault.OutOfMemory c closed s e = absurd (true≢false (sym (find-holds (λ x. holds x c closed s) fault.OutOfMemory early_refusals e)))
why-early fault.Ended c closed s e = early-first c closed s fault.Ended e
why-early fault.WrongPhase c closed s e = early-first c closed s fault.WrongPhase e
why-early fault.NotSupported c closed s e = early-first c closed s fault.NotSupported e
why-early fault.NotStopped c closed s e = early-first c closed s fault.NotStopped e
why-early fault.UnknownReference c closed s e = early-first c closed s fault.UnknownReference e
why-early fault.TooLarge c closed s e = early-first c closed s fault.TooLarge e
why-early fault.Full c closed s e = early-first c closed s fault.Full e
why-early fault.SeqExhausted c closed s e = early-first c closed s fault.SeqExhausted e

-- and so is a late one, where no early one holds
pub why-then : (f : SendFault) (c : Call) (closed : Bool) (s : Session) → first_of early_refusals c closed s ≡ None → IsWhyLate f c s → IsWhyNotSent f c closed s
why-then fault.OutOfMemory c closed s none e = none
why-then _ c closed s none e = late-first c closed s none ∙ e

-- ---- where none is the first, none holds

none-here : {X : Type 0} (b : Bool) (x : X) (o : Option X) → cond b (Some x) o ≡ None → b ≡ false
none-here true x o e = cc
none-here false x o e = refl

none-later : {X : Type 0} (b : Bool) (x : X) (o : Option X) → cond b (Some x) o ≡ None → o ≡ None
none-later true x o e = cc
none-later false x o e = e

first-not : {X : Type 0} (p : X → Bool) (x : X) (xs : List X) → find p (x ∷ xs) ≡ None → p x ≡ false
first-not p x xs e = none-here (p x) x (find p xs) e

rest-not : {X : Type 0} (p : X → Bool) (x : X) (xs : List X) → find p (x ∷ xs) ≡ None → find p xs ≡ None
rest-not p x xs e = none-later (p x) x (find p xs) e

-- the refusals from the second on, from the third on, and so on
abbrev from_seq : List SendFault
from_seq = fault.SeqExhausted ∷ []

abbrev from_full : List SendFault
from_full = fault.Full ∷ from_seq

abbrev from_large : List SendFault
from_large = fault.TooLarge ∷ from_full

abbrev from_reference : List SendFault
from_reference = fault.UnknownReference ∷ from_large

abbrev from_stopped : List SendFault
from_stopped = fault.NotStopped ∷ from_reference

abbrev from_supported : List SendFault
from_supported = fault.NotSupported ∷ from_stopped

abbrev from_phase : List SendFault
from_phase = fault.WrongPhase ∷ from_supported

pub none-holds : (c : Call) (closed : Bool) (s : Session) → first_of refusals_in_order c closed s ≡ None → (f : SendFault) → holds f c closed s ≡ false
none-holds c closed s e f =
    let p : SendFault → Bool = λ x. holds x c closed s in
    let phase : find p from_phase ≡ None = rest-not p fault.Ended from_phase e in
    let supported : find p from_supported ≡ None = rest-not p fault.WrongPhase from_supported phase in
    let stopped : find p from_stopped ≡ None = rest-not p fault.NotSupported from_stopped supported in
    let reference : find p from_reference ≡ None = rest-not p fault.NotStopped from_reference stopped in
    let large : find p from_large ≡ None = rest-not p fault.UnknownReference from_large reference in
    let full : find p from_full ≡ None = rest-not p fault.TooLarge from_full large in
    let seq : find p from_seq ≡ None = rest-not p fault.Full from_seq full in
    each f (first-not p fault.Ended from_phase e) (first-not p fault.WrongPhase from_supported phase) (first-not p fault.NotSupported from_stopped supported) (first-not p fault.NotStopped from_reference stopped)
    (first-not p fault.UnknownReference from_large reference) (first-not p fault.TooLarge from_full large) (first-not p fault.Full from_seq full) (first-not p fault.SeqExhausted [] seq)
  where
    each : (f : SendFault) → holds fault.Ended c closed s ≡ false → holds fault.WrongPhase c closed s ≡ false → holds fault.NotSupported c closed s ≡ false → holds fault.NotStopped c closed s ≡ false
        → holds fault.UnknownReference c closed s ≡ false → holds fault.TooLarge c closed s ≡ false → holds fault.Full c closed s ≡ false → holds fault.SeqExhausted c closed s ≡ false → holds f c closed s ≡ false
    each fault.Ended a b d g h i j k = a
    each fault.WrongPhase a b d g h i j k = b
    each fault.NotSupported a b d g h i j k = d
    each fault.NotStopped a b d g h i j k = g
    each fault.UnknownReference a b d g h i j k = h
    each fault.TooLarge a b d g h i j k = i
    each fault.Full a b d g h i j k = j
    each fault.SeqExhausted a b d g h i j k = k
    each fault.OutOfMemory a b d g h i j k = refl

-- ---- numbers that were given

unequal : (a b : ℕ) → a < b → (a == b) ≡ false
unequal a b h = grind (arith, nat_tests)

pub none-or : (a b : Bool) → a ≡ false → b ≡ false → (a || b) ≡ false
none-or true b e f = e
none-or false b e f = f

-- a number past those that were given is not kept
pub next-is-new : (used seq : ℕ) (kept : List Kept) → AreSent used kept → used < seq → contains_seq seq kept ≡ false
next-is-new used seq [] all h = refl
next-is-new used seq (k ∷ kept) all h =
    let small = all.0 in
    let less : k.entry.seq < seq = omega arith in
    none-or (k.entry.seq == seq) (contains_seq seq kept) (unequal k.entry.seq seq less) (next-is-new used seq kept all.1 h)

-- one more
pub sent-more : (used : ℕ) (entry : Entry) (kept : List Kept) → entry.seq ≡ used + 1 → AreSent used kept → AreSent (used + 1) (kept ++ kept_unparked entry ∷ [])
sent-more used entry [] e all = (omega (arith, e), tt)
sent-more used entry (k ∷ kept) e all = let small = all.0 in (omega arith, sent-more used entry kept e all.1)

pub after-given : (numbers : Numbers) → numbers.used < numbers.last → after_next numbers ≡ record numbers { used = numbers.used + 1 }
after-given numbers h = after-if (nat_lt numbers.used numbers.last) numbers (ltb-of numbers.used numbers.last h)
  where
    after-if : (b : Bool) (n : Numbers) → b ≡ true → (if b then record n { used = n.used + 1 } else n) ≡ record n { used = n.used + 1 }
    after-if true n e = refl
    after-if false n e = absurd (true≢false (sym e))

    ltb-of : (a b : ℕ) → a < b → nat_lt a b ≡ true
    ltb-of a b h = grind (arith, nat_tests)

-- a request more, with the next number
pub session-more : (limits : Settings) (known : KnownReferences) (table next incoming : KeptRequests) (numbers later : Numbers) (entry : Entry) → IsSession limits known table incoming numbers
    → next ≡ record table { kept = table.kept ++ kept_unparked entry ∷ [] } → IsOrderlyRequests next → later ≡ after_next numbers
    → entry.seq ≡ numbers.used + 1 → numbers.used < limits.seq → IsSession limits known next incoming later
session-more limits known table next incoming numbers later entry l more orderly moved number left =
    let last = l.last in
    let room : numbers.used < numbers.last = omega arith in
    let given : later ≡ record numbers { used = numbers.used + 1 } = moved ∙ after-given numbers room in
    let now : later.used ≡ numbers.used + 1 = ap (λ (n : Numbers). n.used) given in
    let end : later.last ≡ numbers.last = ap (λ (n : Numbers). n.last) given in
    let all : AreSent (numbers.used + 1) (table.kept ++ kept_unparked entry ∷ []) = sent-more numbers.used entry table.kept number l.sent in
    let kept : next.kept ≡ table.kept ++ kept_unparked entry ∷ [] = ap (λ (t : KeptRequests). t.kept) more in
    record {
      known_room = l.known_room;
      room = ap (λ (t : KeptRequests). t.room) more ∙ l.room;
      orderly = orderly;
      incoming_room = l.incoming_room;
      incoming_orderly = l.incoming_orderly;
      terminals = l.terminals;
      last = end ∙ l.last;
      used = omega arith;
      greatest = l.greatest;
      sent = rw (now, kept) all;
    }
