-- Each request of the adapter is in one place, and none is left over: each step keeps it.
use Rattle.std.proofs.Common.{◌≡◌, ℕ, ◌+◌, ◌<◌, ◌≤◌, List, [], ◌∷◌, ◌++◌, Bool, true, false, not, refl, sym, ap, ◌∙◌, subst, arith, length, Option, Some, None}
use Rattle.std.specs.Prelude.{◌==◌, ◌&&◌, if◌then◌else◌, nat_lt}
use Rattle.std.specs.List.{list_any}
use Rattle.std.proofs.lemmas.List.{append-nil}
use Rattle.dap_ends.specs.Messages.{Command, Initialize, Launch, ConfigurationDone, Disconnect, Terminate, Resume, Ask, Message, Request, Response, Event, one_if, code, count, has_seq, is_same, requests_in, answered_in, request_of, response_of, NoRequests}
use Rattle.dap_ends.specs.AdapterModel.{AdapterModel, Made, Answer, Fails, Succeeds, Tries, Parks, Starts_parked, Leaves, Happening, Stops, Continues, Exits, asks, oldest, answer_of, phase_after, phase_after_start, handled_as, after_turn, adapter_model_turns, adapter_model_takes, adapter_model_polls, takes_request, cancels, keeps, phase_after_happening, would_start, asks_terminal_as, after_asking_turn, ends_wait, fails_with, is_ended, RequestAfterEnd, RepeatedSeq, parked_of, AdapterPhase, AdapterFresh, AdapterReady, AdapterConfigured, AdapterParked, AdapterAsked, AdapterRunning, AdapterStopped, AdapterExited, AdapterEnded}
use Rattle.dap_ends.specs.ClientModel.{ReferenceLimit, client_model_takes, may_send, requests_without}
use Rattle.dap_ends.specs.References.{Ref, Table, inspection_succeeds, all_in, references_carried, given_with, given_after, table_after, table_polled}
use Rattle.dap_ends.specs.Pair.{NumberedNote, Pair, PairStep, PairSend, PairAnswer, PairDeliverUp, PairTurn, PairPoll, PairDeliverDown, terminal_ask, is_terminal_ask, numbered_notes, has_fault, request_with_seq, sets_variable, unless_sets_variable, with_fault, pair_after_sending, replies, pair_answers, pair_after_adapter, pair_takes_up, pair_comes_up, launch_seq, turn_asks, terminal_after_turn, writes_terminal_ask, pair_asks_terminal, pair_after_turn, pair_eyes, pair_takes_down, pair_comes_down, pair_happens}
use Rattle.dap_ends.specs.PairLaws.{messages_in, OwnInOnePlace, UnansweredByPhase}
use Rattle.dap_ends.proofs.Counts.{names-self, count-append, requests_in-append, answered_in-append, count-all, any-counted, none-counted, eqb-self, eqb-same, taken-out, and-left}
use Rattle.dap_ends.proofs.PairNotes.{messages_in-append, requests_in-numbered, quiet-turns, quiet-asking_some, quiet-ends_wait, quiet-polls, quiet-takes}
use Rattle.dap_ends.proofs.PairSteps.{AnswersOwn, NextAnswers, IsNew, NextNew, response-taken, request-taken}

true-false : true ≡ false → ⊥
true-false e = cc

-- the adapter's own requests
pub record Owns (w : Pair) : Type 0 where
  pub place : (p : Ask → Bool) → OwnInOnePlace w p
  pub waits : UnansweredByPhase w.adapter.phase (length w.asked)
  pub new : (q : ℕ) → w.used < q → count (has_seq q) w.asked ≡ 0
  pub kind : count (λ a. not (is_terminal_ask a)) w.asked ≡ 0

-- at most one is unanswered
pub waits-few : (p : AdapterPhase) (k : ℕ) → UnansweredByPhase p k → k ≤ 1
waits-few AdapterEnded k h = h
waits-few _ k h = omega arith

pub count-few : (p : Ask → Bool) (xs : List Ask) → count p xs ≤ length xs
count-few p [] = omega arith
count-few p (x ∷ xs) = let h = count-few p xs in let k = one-most (p x) (count p xs) (length xs) h in omega arith
  where
    one-most : (b : Bool) (m n : ℕ) → m ≤ n → one_if b + m ≤ n + 1
    one-most true m n h = omega arith
    one-most false m n h = omega arith

-- and so of any kind
pub own-few : (w : Pair) → Owns w → (p : Ask → Bool) → count p w.asked ≤ 1
own-few w g p = let h = count-few p w.asked in let k = waits-few w.adapter.phase (length w.asked) g.waits in omega arith

-- the phases after a turn
waits-same : (p : AdapterPhase) (c : Command) (ok : Bool) (k : ℕ) → UnansweredByPhase p k → UnansweredByPhase (phase_after p c ok) k
waits-same AdapterFresh Initialize ok k h = h
waits-same AdapterFresh _ ok k h = h
waits-same AdapterReady ConfigurationDone ok k h = h
waits-same AdapterReady _ ok k h = h
waits-same AdapterConfigured Launch true k h = h
waits-same AdapterConfigured Launch false k h = h
waits-same AdapterConfigured _ ok k h = h
waits-same AdapterRunning Terminate ok k h = h
waits-same AdapterRunning _ ok k h = h
waits-same AdapterStopped Terminate ok k h = h
waits-same AdapterStopped Resume true k h = h
waits-same AdapterStopped Resume false k h = h
waits-same AdapterStopped _ ok k h = h
waits-same _ c ok k h = h

parks-ready : (p : AdapterPhase) (c : Command) → Parks ≡ answer_of p c → p ≡ AdapterReady
parks-ready AdapterReady c e = refl
parks-ready AdapterFresh Initialize e = cc
parks-ready AdapterFresh _ e = cc
parks-ready AdapterConfigured Launch e = cc
parks-ready AdapterConfigured _ e = cc
parks-ready AdapterParked ConfigurationDone e = cc
parks-ready AdapterParked _ e = cc
parks-ready AdapterAsked Disconnect e = cc
parks-ready AdapterAsked _ e = cc
parks-ready AdapterRunning Disconnect e = cc
parks-ready AdapterRunning _ e = cc
parks-ready AdapterStopped Disconnect e = cc
parks-ready AdapterStopped _ e = cc
parks-ready AdapterExited Disconnect e = cc
parks-ready AdapterExited _ e = cc
parks-ready AdapterEnded Disconnect e = cc
parks-ready AdapterEnded _ e = cc

starts-parked : (p : AdapterPhase) (c : Command) → Starts_parked ≡ answer_of p c → p ≡ AdapterParked
starts-parked AdapterParked c e = refl
starts-parked AdapterFresh Initialize e = cc
starts-parked AdapterFresh _ e = cc
starts-parked AdapterReady Launch e = cc
starts-parked AdapterReady _ e = cc
starts-parked AdapterConfigured Launch e = cc
starts-parked AdapterConfigured _ e = cc
starts-parked AdapterAsked Disconnect e = cc
starts-parked AdapterAsked _ e = cc
starts-parked AdapterRunning Disconnect e = cc
starts-parked AdapterRunning _ e = cc
starts-parked AdapterStopped Disconnect e = cc
starts-parked AdapterStopped _ e = cc
starts-parked AdapterExited Disconnect e = cc
starts-parked AdapterExited _ e = cc
starts-parked AdapterEnded Disconnect e = cc
starts-parked AdapterEnded _ e = cc

waits-after_start : (ok : Bool) (k : ℕ) → k ≡ 0 → UnansweredByPhase (phase_after_start ok) k
waits-after_start true k h = h
waits-after_start false k h = h

waits-handled : (x : Answer) (d : AdapterModel) (a : Ask) (ok : Bool) (k : ℕ) → x ≡ answer_of d.phase a.command → UnansweredByPhase d.phase k → UnansweredByPhase (handled_as x d a ok).adapter.phase k
waits-handled Fails d a ok k e h = h
waits-handled Succeeds d a ok k e h = waits-same d.phase a.command true k h
waits-handled Tries d a ok k e h = waits-same d.phase a.command ok k h
waits-handled Parks d a ok k e h = subst (λ (p : AdapterPhase). UnansweredByPhase p k) (parks-ready d.phase a.command e) h
waits-handled Starts_parked d a ok k e h = waits-after_start ok k (subst (λ (p : AdapterPhase). UnansweredByPhase p k) (starts-parked d.phase a.command e) h)
waits-handled Leaves d a ok k e h = waits-few d.phase k h

waits-after_turn : (o : Option Ask) (d : AdapterModel) (ok : Bool) (k : ℕ) → UnansweredByPhase d.phase k → UnansweredByPhase (after_turn o d ok).adapter.phase k
waits-after_turn None d ok k h = h
waits-after_turn (Some a) d ok k h = waits-handled (answer_of d.phase a.command) d a ok k refl h

waits-after_happening : (p : AdapterPhase) (x : Happening) (k : ℕ) → UnansweredByPhase p k → UnansweredByPhase (phase_after_happening p x) k
waits-after_happening AdapterRunning Stops k h = h
waits-after_happening AdapterRunning Exits k h = h
waits-after_happening AdapterRunning _ k h = h
waits-after_happening AdapterStopped Continues k h = h
waits-after_happening AdapterStopped Exits k h = h
waits-after_happening AdapterStopped _ k h = h
waits-after_happening _ x k h = h

-- a request that is taken changes no phase
phase-cancels : (p : AdapterPhase) (d : AdapterModel) (a : Ask) (q : ℕ) → (cancels p d a q).adapter.phase ≡ d.phase
phase-cancels AdapterFresh d a q = refl
phase-cancels _ d a q = refl

phase-if : (b : Bool) (m l : Made) (p : AdapterPhase) → m.adapter.phase ≡ p → l.adapter.phase ≡ p → (if b then m else l).adapter.phase ≡ p
phase-if true m l p e f = e
phase-if false m l p e f = f

pub phase-takes : (n : ℕ) (d : AdapterModel) (a : Ask) (q : ℕ) → (takes_request n d a q).adapter.phase ≡ d.phase
phase-takes n d a q =
    phase-if (is_ended d.phase) (fails_with d RequestAfterEnd) _ d.phase refl
    (phase-if (list_any (has_seq a.seq) (asks d.kept)) (fails_with d RepeatedSeq) _ d.phase refl
    (phase-if (code a.command == 5) (cancels d.phase d a q) (keeps n d a) d.phase (phase-cancels d.phase d a q) (phase-if (nat_lt (length d.kept) n) _ _ d.phase refl refl)))

-- the phase in which a terminal is asked for
pub asks-phase : (p : AdapterPhase) (c : Command) (d : AdapterModel) (a : Ask) → would_start p c ≡ true → (asks_terminal_as p c d a).adapter.phase ≡ AdapterAsked
asks-phase AdapterConfigured Launch d a e = refl
asks-phase AdapterParked ConfigurationDone d a e = refl
asks-phase _ _ d a e = absurd (true-false (sym e))

asks-none : (p : AdapterPhase) (c : Command) (k : ℕ) → would_start p c ≡ true → UnansweredByPhase p k → k ≡ 0
asks-none AdapterConfigured Launch k e h = h
asks-none AdapterParked ConfigurationDone k e h = h
asks-none _ _ k e h = absurd (true-false (sym e))

-- the adapter's messages but its request
after_adapter-place : (w : Pair) (m : Made) (refs : List Ref) (t : Table) → NoRequests m.outs → Owns w → (p : Ask → Bool) → OwnInOnePlace (pair_after_adapter w m refs t) p
after_adapter-place w m refs t q g p =
    let h = g.place p in
    rw (messages_in-append w.down (numbered_notes w.used refs m.outs), requests_in-append (messages_in w.down) (messages_in (numbered_notes w.used refs m.outs)), requests_in-numbered w.used refs m.outs q, append-nil (requests_in (messages_in w.down))) h

after_adapter-owns : (w : Pair) (m : Made) (refs : List Ref) (t : Table) → NoRequests m.outs → UnansweredByPhase m.adapter.phase (length w.asked) → Owns w → Owns (pair_after_adapter w m refs t)
after_adapter-owns w m refs t q z g = record { place = after_adapter-place w m refs t q g; waits = z; new = λ i l. g.new i (omega arith); kind = g.kind }

-- by a test
owns-if : (b : Bool) (w v : Pair) → Owns w → Owns v → Owns (if b then w else v)
owns-if true w v g h = g
owns-if false w v g h = h

-- the client sends
after_sending-owns : (w : Pair) (c : Command) (i : List ℕ) (q : ℕ) (wanted : Bool) (refs : List Ref) → Owns w → Owns (pair_after_sending w c i q wanted refs)
after_sending-owns w c i q wanted refs g =
    record {
      place = λ p. let h = g.place p in rw (messages_in-append w.up _, answered_in-append (messages_in w.up) _, append-nil (answered_in (messages_in w.up))) h;
      waits = g.waits;
      new = g.new;
      kind = g.kind;
    }

-- the client answers
replies-owns : (v : Pair) (a : Ask) (ok : Bool) → ((p : Ask → Bool) → count p v.asked ≡ count p (requests_in (messages_in v.down)) + (count p v.incoming + (count p (answered_in (messages_in v.up)) + one_if (p a)))) → UnansweredByPhase v.adapter.phase (length v.asked) → ((q : ℕ) → v.used < q → count (has_seq q) v.asked ≡ 0) → count (λ x. not (is_terminal_ask x)) v.asked ≡ 0 → Owns (replies v a ok)
replies-owns v a ok h z n k =
    record {
      place = λ p. let y = h p in rw (messages_in-append v.up _, answered_in-append (messages_in v.up) _, count-append p (answered_in (messages_in v.up)) (a ∷ [])) (omega arith);
      waits = z;
      new = n;
      kind = k;
    }

-- a request is the same as itself
pub same-self : (a : Ask) → is_same a a ≡ true
same-self a = rw (eqb-self a.seq, eqb-self (code a.command), names-self a.which) refl

with-cases : (q : ℕ) (a x : Ask) (xs : List Ask) (b : Bool) → (request_with_seq q xs ≡ Some a → 0 < count (is_same a) xs) → (if b then Some x else request_with_seq q xs) ≡ Some a → 0 < one_if (is_same a x) + count (is_same a) xs
with-cases q a x xs true r e = let s : x ≡ a = cc in let one = ap one_if (ap (λ (y : Ask). is_same a y) s ∙ same-self a) in omega arith
with-cases q a x xs false r e = let h = r e in omega arith

-- the request of that number is kept
pub with-kept : (q : ℕ) (a : Ask) (xs : List Ask) → request_with_seq q xs ≡ Some a → 0 < count (is_same a) xs
with-kept q a [] e = cc
with-kept q a (x ∷ xs) e = with-cases q a x xs (has_seq q x) (with-kept q a xs) e

-- none is kept twice
pub kept-once : (w : Pair) → Owns w → (p : Ask → Bool) → count p w.incoming ≤ 1
kept-once w g p = let h = g.place p in let k = own-few w g p in omega arith

answers-owns : (w : Pair) (q : ℕ) (o : Option Ask) (ok : Bool) → request_with_seq q w.incoming ≡ o → Owns w → Owns (pair_answers w o ok)
answers-owns w q None ok e g = g
answers-owns w q (Some a) ok e g =
    replies-owns (record w { incoming = requests_without a.seq w.incoming }) a ok
    (λ p. let h = g.place p in let t = taken-out p a w.incoming (kept-once w g (has_seq a.seq)) (with-kept q a w.incoming e) in omega arith)
    g.waits g.new g.kind

-- what comes up first
pub up-place : (w : Pair) (m : NumberedNote) (x : Message) (ms : List NumberedNote) → m.note.message ≡ x → w.up ≡ m ∷ ms → Owns w → (p : Ask → Bool) → count p w.asked ≡ count p (requests_in (messages_in w.down)) + (count p w.incoming + count p (response_of x ++ answered_in (messages_in ms)))
up-place w m x ms e u g p = g.place p ∙ ap (λ (zs : List NumberedNote). count p (requests_in (messages_in w.down)) + (count p w.incoming + count p (answered_in (messages_in zs)))) u ∙ ap (λ (y : Message). count p (requests_in (messages_in w.down)) + (count p w.incoming + count p (response_of y ++ answered_in (messages_in ms)))) e

pub own-answered : (w : Pair) (a : Ask) (ok : Bool) (m : NumberedNote) (ms : List NumberedNote) → m.note.message ≡ Response a ok → w.up ≡ m ∷ ms → Owns w → (0 < count (is_same a) w.asked) × (0 < count (has_seq a.seq) w.asked)
own-answered w a ok m ms e u g =
    let h = up-place w m (Response a ok) ms e u g (is_same a) in
    let k = up-place w m (Response a ok) ms e u g (has_seq a.seq) in
    let one = ap one_if (same-self a) in
    let two = ap one_if (eqb-self a.seq) in
    (omega arith, omega arith)

pub answers-next : (w : Pair) (m : NumberedNote) (x : Message) (ms : List NumberedNote) → m.note.message ≡ x → w.up ≡ m ∷ ms → Owns w → AnswersOwn w.asked x
answers-next w m (Request a q) ms e u g = tt
answers-next w m (Response a ok) ms e u g =
    let h = own-answered w a ok m ms e u g in (any-counted (has_seq a.seq) w.asked h.1, any-counted (is_same a) w.asked h.0)
answers-next w m (Event k) ms e u g = tt

next-answers-in : (w : Pair) (up : List NumberedNote) → w.up ≡ up → Owns w → NextAnswers w.asked up
next-answers-in w [] u g = tt
next-answers-in w (m ∷ ms) u g = answers-next w m m.note.message ms refl u g

-- a response that comes to the adapter answers its request
pub next-answers : (w : Pair) → Owns w → NextAnswers w.asked w.up
next-answers w g = next-answers-in w w.up refl g

-- the terminal is answered
waits-ends_wait : (p : AdapterPhase) (d : AdapterModel) (ok : Bool) (k : ℕ) → d.phase ≡ p → UnansweredByPhase p (k + 1) → UnansweredByPhase (ends_wait p d ok).adapter.phase k
waits-ends_wait AdapterAsked d ok k e h = waits-after_start ok k (omega arith)
waits-ends_wait AdapterEnded d ok k e h = subst (λ (p : AdapterPhase). UnansweredByPhase p k) (sym e) (omega arith)
waits-ends_wait _ d ok k e h = absurd (omega arith)

takes_up-owns : (n : ℕ) (w : Pair) (m : NumberedNote) (x : Message) (ms : List NumberedNote) (starts : Bool) → m.note.message ≡ x → w.up ≡ m ∷ ms → Owns w → Owns (pair_takes_up n (record w { up = ms }) x starts)
takes_up-owns n w m (Request a q) ms starts e u g =
    after_adapter-owns (record w { up = ms }) (adapter_model_takes n w.adapter (Request a q)) [] w.table (quiet-takes n w.adapter a q) (rw (phase-takes n w.adapter a q) g.waits)
    (record { place = up-place w m (Request a q) ms e u g; waits = g.waits; new = g.new; kind = g.kind })
takes_up-owns n w m (Event k) ms starts e u g = record { place = up-place w m (Event k) ms e u g; waits = g.waits; new = g.new; kind = g.kind }
takes_up-owns n w m (Response a ok) ms starts e u g =
    let h = own-answered w a ok m ms e u g in
    let out : (p : Ask → Bool) → count p w.asked ≡ one_if (p a) + count p (requests_without a.seq w.asked) = λ p. taken-out p a w.asked (own-few w g (has_seq a.seq)) h.0 in
    let v : Pair = record w { up = ms; asked = requests_without a.seq w.asked } in
    let all = out (λ x. true) in
    let one = count-all w.asked in
    let two = count-all (requests_without a.seq w.asked) in
    let fewer : length w.asked ≡ length (requests_without a.seq w.asked) + 1 = omega arith in
    let mid : (p : Ask → Bool) → OwnInOnePlace v p = λ p. let y = up-place w m (Response a ok) ms e u g p in let k = out p in omega arith in
    let new : (q : ℕ) → w.used < q → count (has_seq q) (requests_without a.seq w.asked) ≡ 0 = λ q l. let y = g.new q l in let k = out (has_seq q) in omega arith in
    let kind : count (λ x. not (is_terminal_ask x)) (requests_without a.seq w.asked) ≡ 0 = let y = g.kind in let k = out (λ x. not (is_terminal_ask x)) in omega arith in
    let s = ends_wait w.adapter.phase w.adapter (ok && starts) in
    rw (response-taken (record w { up = ms }) a ok starts (any-counted (has_seq a.seq) w.asked h.1) (any-counted (is_same a) w.asked h.0))
    (record {
      place = λ p. let y = mid p in rw (messages_in-append w.down (numbered_notes w.used [] s.outs), requests_in-append (messages_in w.down) (messages_in (numbered_notes w.used [] s.outs)), requests_in-numbered w.used [] s.outs (quiet-ends_wait w.adapter.phase w.adapter (ok && starts)), append-nil (requests_in (messages_in w.down))) y;
      waits = waits-ends_wait w.adapter.phase w.adapter (ok && starts) (length (requests_without a.seq w.asked)) refl (subst (λ (k : ℕ). UnansweredByPhase w.adapter.phase k) fewer g.waits);
      new = λ q l. new q (omega arith);
      kind = kind;
    })

up-owns : (n : ℕ) (w : Pair) (up : List NumberedNote) (starts : Bool) → w.up ≡ up → Owns w → Owns (pair_comes_up n w up starts)
up-owns n w [] starts u g = g
up-owns n w (m ∷ ms) starts u g = takes_up-owns n w m m.note.message ms starts refl u g

-- a turn that asks
asked-owns : (v : Pair) → ((p : Ask → Bool) → OwnInOnePlace v p) → v.adapter.phase ≡ AdapterAsked → length v.asked ≡ 0 → ((q : ℕ) → v.used < q → count (has_seq q) v.asked ≡ 0) → count (λ a. not (is_terminal_ask a)) v.asked ≡ 0 → Owns (writes_terminal_ask v)
asked-owns v h e z n k =
    record {
      place = λ p. let y = h p in rw (count-append p v.asked (terminal_ask (v.used + 1) ∷ []), messages_in-append v.down _, requests_in-append (messages_in v.down) _, count-append p (requests_in (messages_in v.down)) (terminal_ask (v.used + 1) ∷ [])) (omega arith);
      waits = let all = count-all (v.asked ++ terminal_ask (v.used + 1) ∷ []) in let parts = count-append (λ a. true) v.asked (terminal_ask (v.used + 1) ∷ []) in let some = count-all v.asked in subst (λ (p : AdapterPhase). UnansweredByPhase p (length (v.asked ++ terminal_ask (v.used + 1) ∷ []))) (sym e) (omega arith);
      new = λ q l. rw (count-append (has_seq q) v.asked (terminal_ask (v.used + 1) ∷ [])) (later (v.used + 1 == q) q refl l (n q (omega arith)));
      kind = rw (count-append (λ a. not (is_terminal_ask a)) v.asked (terminal_ask (v.used + 1) ∷ [])) (omega arith);
    }
  where
    later : (b : Bool) (q : ℕ) → (v.used + 1 == q) ≡ b → v.used + 1 < q → count (has_seq q) v.asked ≡ 0 → count (has_seq q) v.asked + (one_if b + 0) ≡ 0
    later true q e l z = let s = eqb-same (v.used + 1) q e in absurd (omega arith)
    later false q e l z = omega arith

asks-owns : (o : Option Ask) (w : Pair) → turn_asks w o ≡ true → Owns w → Owns (writes_terminal_ask (pair_after_adapter w (after_asking_turn o w.adapter) [] w.table))
asks-owns None w e g = absurd (true-false (sym e))
asks-owns (Some a) w e g =
    let s = and-left (would_start w.adapter.phase a.command) (w.terminal && w.wants (launch_seq a.command a (asks (parked_of w.adapter.kept)))) e in
    let m = after_asking_turn (Some a) w.adapter in
    asked-owns (pair_after_adapter w m [] w.table) (after_adapter-place w m [] w.table (quiet-asking_some w.adapter a) g)
    (asks-phase w.adapter.phase a.command w.adapter a s) (asks-none w.adapter.phase a.command (length w.asked) s g.waits)
    (λ q l. g.new q (omega arith)) g.kind

turn-owns : (b : Bool) (r : ℕ) (w : Pair) (ok : Bool) (more : List Bool) (named : List Ref) → turn_asks w (oldest w.adapter.kept) ≡ b → Owns w → Owns (if b then pair_asks_terminal w else pair_after_turn r w ok more named)
turn-owns true r w ok more named e g = asks-owns (oldest w.adapter.kept) w e g
turn-owns false r w ok more named e g =
    let o = inspection_succeeds r w.table more named (oldest w.adapter.kept) ok in
    after_adapter-owns (record w { terminal = terminal_after_turn w.adapter.phase (oldest w.adapter.kept) w.wants w.terminal }) (adapter_model_turns w.adapter o) named (table_after (oldest w.adapter.kept) w.adapter.phase o w.table more) (quiet-turns w.adapter o)
    (waits-after_turn (oldest w.adapter.kept) w.adapter o (length w.asked) g.waits) (record { place = g.place; waits = g.waits; new = g.new; kind = g.kind })

-- what comes down first
pub down-place : (w : Pair) (m : NumberedNote) (x : Message) (ms : List NumberedNote) → m.note.message ≡ x → w.down ≡ m ∷ ms → Owns w → (p : Ask → Bool) → count p w.asked ≡ count p (request_of x ++ requests_in (messages_in ms)) + (count p w.incoming + count p (answered_in (messages_in w.up)))
down-place w m x ms e u g p = g.place p ∙ ap (λ (zs : List NumberedNote). count p (requests_in (messages_in zs)) + (count p w.incoming + count p (answered_in (messages_in w.up)))) u ∙ ap (λ (y : Message). count p (request_of y ++ requests_in (messages_in ms)) + (count p w.incoming + count p (answered_in (messages_in w.up)))) e

pub new-next : (w : Pair) (m : NumberedNote) (x : Message) (ms : List NumberedNote) → m.note.message ≡ x → w.down ≡ m ∷ ms → Owns w → IsNew w.incoming x
new-next w m (Request a q) ms e u g =
    let h = down-place w m (Request a q) ms e u g (has_seq a.seq) in
    let k = own-few w g (has_seq a.seq) in
    let one = ap one_if (eqb-self a.seq) in
    none-counted (has_seq a.seq) w.incoming (omega arith)
new-next w m (Response a ok) ms e u g = tt
new-next w m (Event k) ms e u g = tt

next-new-in : (w : Pair) (down : List NumberedNote) → w.down ≡ down → Owns w → NextNew w.incoming down
next-new-in w [] u g = tt
next-new-in w (m ∷ ms) u g = new-next w m m.note.message ms refl u g

-- a request that comes to the client is new there
pub next-new : (w : Pair) → Owns w → NextNew w.incoming w.down
next-new w g = next-new-in w w.down refl g

request-owns : (b : Bool) (w : Pair) (m : NumberedNote) (a : Ask) (q : ℕ) (ms : List NumberedNote) → m.note.message ≡ Request a q → w.down ≡ m ∷ ms → Owns w → Owns (if b then record w { down = ms; incoming = w.incoming ++ a ∷ [] } else replies (record w { down = ms }) a false)
request-owns true w m a q ms e u g =
    record {
      place = λ p. let h = down-place w m (Request a q) ms e u g p in rw (count-append p w.incoming (a ∷ [])) (omega arith);
      waits = g.waits;
      new = g.new;
      kind = g.kind;
    }
request-owns false w m a q ms e u g = replies-owns (record w { down = ms }) a false (λ p. let h = down-place w m (Request a q) ms e u g p in omega arith) g.waits g.new g.kind

report-owns : (b : Bool) (w : Pair) (m : NumberedNote) (x : Message) (ms : List NumberedNote) → m.note.message ≡ x → request_of x ≡ [] → w.down ≡ m ∷ ms → Owns w → Owns (if b then with_fault (record w { down = ms }) ReferenceLimit else record w { down = ms; client = client_model_takes w.client x; given = given_after (pair_eyes w) x m.note.refs })
report-owns true w m x ms e n u g = record { place = λ p. down-place w m x ms e u g p ∙ rw n refl; waits = g.waits; new = g.new; kind = g.kind }
report-owns false w m x ms e n u g = record { place = λ p. down-place w m x ms e u g p ∙ rw n refl; waits = g.waits; new = g.new; kind = g.kind }

takes_down-owns : (n r : ℕ) (w : Pair) (m : NumberedNote) (x : Message) (ms : List NumberedNote) → m.note.message ≡ x → w.down ≡ m ∷ ms → Owns w → Owns (pair_takes_down n r (record w { down = ms }) x m.note.refs)
takes_down-owns n r w m (Request a q) ms e u g =
    rw (request-taken n (record w { down = ms }) a (new-next w m (Request a q) ms e u g)) (request-owns (is_terminal_ask a && (w.announced && nat_lt (length w.incoming) n)) w m a q ms e u g)
takes_down-owns n r w m (Response a ok) ms e u g = report-owns (nat_lt r (length (given_with (pair_eyes w) (Response a ok) m.note.refs))) w m (Response a ok) ms e refl u g
takes_down-owns n r w m (Event k) ms e u g = report-owns (nat_lt r (length (given_with (pair_eyes w) (Event k) m.note.refs))) w m (Event k) ms e refl u g

down-owns : (n r : ℕ) (w : Pair) (down : List NumberedNote) → w.down ≡ down → Owns w → Owns (pair_comes_down n r w down)
down-owns n r w [] u g = g
down-owns n r w (m ∷ ms) u g = takes_down-owns n r w m m.note.message ms refl u g

-- each step
pub owns-step : (n r : ℕ) (w : Pair) (x : PairStep) → Owns w → Owns (pair_happens n r w x)
owns-step n r w (PairSend c i q wanted refs) g =
    owns-if (has_fault w.client.fault) w _ g (if-owns (all_in w.given (references_carried c refs) && may_send n w.client c) w c i q wanted (references_carried c refs) g)
  where
    if-owns : (b : Bool) (w : Pair) (c : Command) (i : List ℕ) (q : ℕ) (wanted : Bool) (refs : List Ref) → Owns w → Owns (if b then pair_after_sending w c i q wanted refs else w)
    if-owns true w c i q wanted refs g = after_sending-owns w c i q wanted refs g
    if-owns false w c i q wanted refs g = g
owns-step n r w (PairAnswer q ok) g = owns-if (has_fault w.client.fault) w _ g (answers-owns w q (request_with_seq q w.incoming) ok refl g)
owns-step n r w (PairDeliverUp starts) g = up-owns n w w.up starts refl g
owns-step n r w (PairTurn ok more named) g =
    turn-owns (turn_asks w (oldest w.adapter.kept)) r w ok (unless_sets_variable (sets_variable (oldest w.adapter.kept)) more) (unless_sets_variable (sets_variable (oldest w.adapter.kept)) named) refl g
owns-step n r w (PairPoll x) g = after_adapter-owns w (adapter_model_polls w.adapter x) [] (table_polled w.adapter.phase x w.table) (quiet-polls w.adapter x) (waits-after_happening w.adapter.phase x (length w.asked) g.waits) g
owns-step n r w PairDeliverDown g = owns-if (has_fault w.client.fault) w _ g (down-owns n r w w.down refl g)
