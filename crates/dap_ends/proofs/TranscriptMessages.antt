-- What both ends write keeps the rules of a transcript: what a call of the adapter writes.
use Rattle.std.proofs.Common.{◌≡◌, ℕ, ◌+◌, ◌<◌, ◌≤◌, List, [], ◌∷◌, ◌++◌, Bool, true, false, refl, sym, ◌∙◌, arith}
use Rattle.std.specs.Prelude.{◌==◌, ◌&&◌, ◌||◌}
use Rattle.dap_ends.specs.Messages.{Command, Initialize, Disconnect, Terminate, Ask, Kind, Message, Request, Response, Event, one_if, code, count, has_seq, is_same, is_disconnect, answered_in, NoRequests, answer_each, events_of}
use Rattle.dap_ends.specs.AdapterModel.{AdapterModel, Made, Kept, Answer, Fails, Succeeds, Tries, Parks, Starts_parked, Leaves, Happening, Nothing, Output, Stops, Continues, Exits, asks, but_oldest, parked_of, answer_of, events_after, handled_as, is_ended, events_after_happening, AdapterPhase, AdapterFresh, AdapterReady, AdapterConfigured, AdapterParked, AdapterAsked, AdapterRunning, AdapterStopped, AdapterExited, AdapterEnded}
use Rattle.dap_ends.specs.ClientModel.{requests_without}
use Rattle.dap_ends.specs.Standing.{is_initialize, AllLaunch}
use Rattle.dap_ends.specs.Transcript.{open_after, AnswersOpen, begun_next, begun_after, BegunFirst, closed_next, closed_after, NothingAfter}
use Rattle.dap_ends.proofs.Counts.{names-self, eqb-self, taken-out}
use Rattle.dap_ends.proofs.AdapterModels.{but-parked}

true-false : true ≡ false → ⊥
true-false e = cc

-- responses to requests that are open, each answered once, leave the others open
pub answers : (ms : List Message) (xs : List Ask) (rest : (Ask → Bool) → ℕ) → NoRequests ms → ((p : Ask → Bool) → count p xs ≡ count p (answered_in ms) + rest p) → ((q : ℕ) → count (has_seq q) xs ≤ 1) → AnswersOpen xs ms × ((p : Ask → Bool) → count p (open_after xs ms) ≡ rest p)
answers [] xs rest n b o = (tt, λ p. let h = b p in omega arith)
answers (Request a q ∷ ms) xs rest n b o = absurd n.0
answers (Response a ok ∷ ms) xs rest n b o =
    let same : one_if (is_same a a) ≡ 1 = rw (eqb-self a.seq, eqb-self (code a.command), names-self a.which) refl in
    let here = b (is_same a) in
    let there : 0 < count (is_same a) xs = omega arith in
    let out : (p : Ask → Bool) → count p xs ≡ one_if (p a) + count p (requests_without a.seq xs) = λ p. taken-out p a xs (o a.seq) there in
    let more = answers ms (requests_without a.seq xs) rest n.1 (λ p. let h = b p in let k = out p in omega arith) (λ q. let h = o q in let k = out (has_seq q) in omega arith) in
    ((there, more.0), more.1)
answers (Event k ∷ ms) xs rest n b o = let more = answers ms xs rest n.1 b o in ((tt, more.0), more.1)

-- what a call of the adapter writes, for the other rules
pub record Settles (m : Made) : Type 0 where
  pub nothing : NothingAfter false m.outs
  pub closed : closed_after false m.outs ≡ true → (is_ended m.adapter.phase ≡ true) × (m.adapter.kept ≡ [])
  pub begun : (b : Bool) → BegunFirst b m.outs

-- the rule on the end, over two lists
pub nothing-append : (b : Bool) (xs ys : List Message) → NothingAfter b xs → NothingAfter (closed_after b xs) ys → NothingAfter b (xs ++ ys)
nothing-append b [] ys h k = k
nothing-append b (x ∷ xs) ys h k = (h.0, nothing-append (closed_next b x) xs ys h.1 k)

-- closed after two lists
pub closed-append : (b : Bool) (xs ys : List Message) → closed_after b (xs ++ ys) ≡ closed_after (closed_after b xs) ys
closed-append b [] ys = refl
closed-append b (x ∷ xs) ys = closed-append (closed_next b x) xs ys

-- begun after two lists
pub begun-append : (b : Bool) (xs ys : List Message) → begun_after b (xs ++ ys) ≡ begun_after (begun_after b xs) ys
begun-append b [] ys = refl
begun-append b (x ∷ xs) ys = begun-append (begun_next b x) xs ys

-- the rule on the beginning, over two lists
pub first-append : (b : Bool) (xs ys : List Message) → BegunFirst b xs → BegunFirst (begun_after b xs) ys → BegunFirst b (xs ++ ys)
first-append b [] ys h k = k
first-append b (x ∷ xs) ys h k = (h.0, first-append (begun_next b x) xs ys h.1 k)

closed-one : (ok : Bool) (a : Ask) → is_disconnect a ≡ false → (false || (ok && is_disconnect a)) ≡ false
closed-one true a e = e
closed-one false a e = refl

first-none : (b : Bool) (m : ℕ) → one_if b + m ≡ 0 → b ≡ false
first-none true m h = absurd (omega arith)
first-none false m h = refl

-- a message that closes nothing
nothing-flag : (b : Bool) (ms : List Message) → b ≡ false → NothingAfter false ms → NothingAfter b ms
nothing-flag true ms e h = absurd (true-false e)
nothing-flag false ms e h = h

closed-flag : (b : Bool) (ms : List Message) → b ≡ false → closed_after b ms ≡ closed_after false ms
closed-flag true ms e = absurd (true-false e)
closed-flag false ms e = refl

-- answers to what is no disconnect, or failures, close nothing
pub each-nothing : (ok : Bool) (xs : List Ask) → (ok ≡ true → count is_disconnect xs ≡ 0) → NothingAfter false (answer_each ok xs) × (closed_after false (answer_each ok xs) ≡ false)
each-nothing ok [] z = (tt, refl)
each-nothing false (x ∷ xs) z = let h = each-nothing false xs (λ e. absurd (true-false (sym e))) in ((refl, h.0), h.1)
each-nothing true (x ∷ xs) z =
    let c = first-none (is_disconnect x) (count is_disconnect xs) (z refl) in
    let h = each-nothing true xs (λ e. let k = z refl in omega arith) in
    ((refl, nothing-flag (is_disconnect x) (answer_each true xs) c h.0), closed-flag (is_disconnect x) (answer_each true xs) c ∙ h.1)

-- answers need no beginning
pub each-begun : (b ok : Bool) (xs : List Ask) → BegunFirst b (answer_each ok xs)
each-begun b ok [] = tt
each-begun b ok (x ∷ xs) = (tt, each-begun (b || (ok && is_initialize x)) ok xs)

events-nothing : (ks : List Kind) → NothingAfter false (events_of ks) × (closed_after false (events_of ks) ≡ false)
events-nothing [] = (tt, refl)
events-nothing (k ∷ ks) = let h = events-nothing ks in ((refl, h.0), h.1)

-- the event initialized comes behind the success of an initialize alone
events-begun : (p : AdapterPhase) (c : Command) (s : ℕ) (i : List ℕ) (b : Bool) → BegunFirst (b || (true && is_initialize (record { seq = s; command = c; which = i }))) (events_of (events_after p c))
events-begun AdapterFresh Initialize s i b = (or-true b, tt)
  where
    or-true : (b : Bool) → (b || true) ≡ true
    or-true true = refl
    or-true false = refl
events-begun AdapterRunning Terminate s i b = (tt, tt)
events-begun AdapterStopped Terminate s i b = (tt, tt)
events-begun _ _ s i b = tt

-- only a disconnect leaves
leaves : (p : AdapterPhase) (c : Command) → (code c == 3) ≡ true → answer_of p c ≡ Leaves
leaves p Disconnect e = refl
leaves p _ e = cc

no-disconnect : (x : Answer) (p : AdapterPhase) (a : Ask) → x ≡ answer_of p a.command → (x ≡ Leaves → ⊥) → is_disconnect a ≡ false
no-disconnect x p a e n = by (is_disconnect a) refl
  where
    by : (b : Bool) → is_disconnect a ≡ b → b ≡ false
    by true k = absurd (n (e ∙ leaves p a.command k))
    by false k = refl

-- no parked request is a disconnect
pub launch-disconnects : (ks : List Kept) → AllLaunch ks → count is_disconnect (asks ks) ≡ 0
launch-disconnects [] h = refl
launch-disconnects (k ∷ ks) h = let z = launch-disconnects ks h.1 in rw (h.0, z) refl

-- one response that is no disconnect's
pub one-response : (ok : Bool) (a : Ask) (d : AdapterModel) → is_disconnect a ≡ false → Settles (record { adapter = d; outs = Response a ok ∷ [] })
one-response ok a d e =
    let z = closed-one ok a e in
    record { nothing = (refl, tt); closed = λ k. absurd (true-false (sym k ∙ z)); begun = λ b. (tt, tt) }

-- a turn, by the kind of its answer
pub settles-handled : (x : Answer) (d : AdapterModel) (a : Ask) (ok : Bool) → x ≡ answer_of d.phase a.command → AllLaunch (parked_of d.kept) → Settles (handled_as x d a ok)
settles-handled Fails d a ok e l = one-response false a (record d { kept = but_oldest d.kept }) (no-disconnect Fails d.phase a e (λ k. cc))
settles-handled Succeeds d a ok e l =
    let c = no-disconnect Succeeds d.phase a e (λ k. cc) in
    let h = events-nothing (events_after d.phase a.command) in
    record {
      nothing = (refl, nothing-flag (is_disconnect a) (events_of (events_after d.phase a.command)) c h.0);
      closed = λ k. absurd (true-false (sym k ∙ closed-flag (is_disconnect a) (events_of (events_after d.phase a.command)) c ∙ h.1));
      begun = λ b. (tt, events-begun d.phase a.command a.seq a.which b);
    }
settles-handled Tries d a ok e l = one-response ok a _ (no-disconnect Tries d.phase a e (λ k. cc))
settles-handled Parks d a ok e l = record { nothing = tt; closed = λ k. absurd (true-false (sym k)); begun = λ b. tt }
settles-handled Starts_parked d a ok e l =
    let c = no-disconnect Starts_parked d.phase a e (λ k. cc) in
    let z = launch-disconnects (parked_of (but_oldest d.kept)) (rw (but-parked d.kept) l) in
    let h = each-nothing ok (asks (parked_of (but_oldest d.kept))) (λ y. z) in
    record {
      nothing = (refl, nothing-flag (is_disconnect a) (answer_each ok (asks (parked_of (but_oldest d.kept)))) c h.0);
      closed = λ k. absurd (true-false (sym k ∙ closed-flag (is_disconnect a) (answer_each ok (asks (parked_of (but_oldest d.kept)))) c ∙ h.1));
      begun = λ b. (tt, each-begun (b || (true && is_initialize a)) ok (asks (parked_of (but_oldest d.kept))));
    }
settles-handled Leaves d a ok e l =
    let xs = asks (but_oldest d.kept) in
    let h = each-nothing false xs (λ y. absurd (true-false (sym y))) in
    record {
      nothing = nothing-append false (answer_each false xs) (Response a true ∷ []) h.0 (h.1, tt);
      closed = λ k. (refl, refl);
      begun = λ b. first-append b (answer_each false xs) (Response a true ∷ []) (each-begun b false xs) (tt, tt);
    }

-- a poll
pub settles-poll : (p : AdapterPhase) (d : AdapterModel) (x : Happening) → Settles (record { adapter = d; outs = events_of (events_after_happening p x) })
settles-poll p d x =
    let h = events-nothing (events_after_happening p x) in
    record { nothing = h.0; closed = λ k. absurd (true-false (sym k ∙ h.1)); begun = λ b. polled p x b }
  where
    polled : (p : AdapterPhase) (x : Happening) (b : Bool) → BegunFirst b (events_of (events_after_happening p x))
    polled AdapterRunning Nothing b = tt
    polled AdapterRunning Output b = (tt, tt)
    polled AdapterRunning Stops b = (tt, tt)
    polled AdapterRunning Continues b = (tt, tt)
    polled AdapterRunning Exits b = (tt, (tt, tt))
    polled AdapterStopped Nothing b = tt
    polled AdapterStopped Output b = (tt, tt)
    polled AdapterStopped Stops b = (tt, tt)
    polled AdapterStopped Continues b = (tt, tt)
    polled AdapterStopped Exits b = (tt, (tt, tt))
    polled AdapterFresh x b = tt
    polled AdapterReady Output b = (tt, tt)
    polled AdapterReady _ b = tt
    polled AdapterConfigured Output b = (tt, tt)
    polled AdapterConfigured _ b = tt
    polled AdapterParked Output b = (tt, tt)
    polled AdapterParked _ b = tt
    polled AdapterAsked Output b = (tt, tt)
    polled AdapterAsked _ b = tt
    polled AdapterExited Output b = (tt, tt)
    polled AdapterExited _ b = tt
    polled AdapterEnded x b = tt
