-- What the adapter was told of the client's terminals is what the client says; so it keeps each request of the adapter.
use Rattle.std.proofs.Common.{filter, ◌≡◌, ℕ, ◌+◌, ◌<◌, ◌≤◌, List, [], ◌∷◌, ◌++◌, Bool, true, false, not, refl, sym, ap, ◌∙◌, subst, arith, length, inl, inr, Option, Some, None}
use Rattle.std.specs.Prelude.{◌⊎◌, ◌==◌, ◌&&◌, if◌then◌else◌, nat_lt}
use Rattle.std.specs.List.{list_any}
use Rattle.dap_ends.specs.Messages.{Command, Initialize, Launch, ConfigurationDone, Terminate, Resume, Ask, Message, Request, Response, Event, one_if, code, count, has_seq, requests_in, answered_in}
use Rattle.dap_ends.specs.AdapterModel.{AdapterModel, Made, Kept, Answer, Fails, Succeeds, Tries, Parks, Starts_parked, Leaves, Happening, Stops, Continues, Exits, RequestAfterEnd, RepeatedSeq, asks, oldest, but_oldest, parked_of, is_named, requests_named, answer_of, phase_after, phase_after_start, handled_as, after_turn, fails_with, keeps, cancels, takes_request, is_ended, phase_after_happening, would_start, asks_terminal_as, after_asking_turn, ends_wait, AdapterPhase, AdapterFresh, AdapterReady, AdapterConfigured, AdapterParked, AdapterAsked, AdapterRunning, AdapterStopped, AdapterEnded}
use Rattle.dap_ends.specs.ClientModel.{ClientModel, ReferenceLimit, Phase, Fresh, allows, may_send, next_ask, client_model_takes, requests_without}
use Rattle.dap_ends.specs.References.{Ref, inspection_succeeds, all_in, references_carried, given_with, given_after, plain_world}
use Rattle.dap_ends.specs.Standing.{is_initialize}
use Rattle.dap_ends.specs.Pair.{NumberedNote, Pair, PairStep, PairSend, PairAnswer, PairDeliverUp, PairTurn, PairPoll, PairDeliverDown, pair_start, is_terminal_ask, has_fault, request_with_seq, sets_variable, unless_sets_variable, with_fault, announced_after_sending, pair_after_sending, pair_sends, replies, pair_answers, pair_after_adapter, pair_takes_up, pair_comes_up, launch_seq, turn_asks, terminal_after_command, terminal_after_turn, writes_terminal_ask, pair_asks_terminal, pair_after_turn, pair_eyes, pair_takes_down, pair_comes_down, pair_happens, pair_run, request_in, requests_up, client_world, client_world_with}
use Rattle.dap_ends.specs.PairLaws.{messages_in, UnansweredByPhase, IsKeptNext, KeepsNext}
use Rattle.dap_ends.proofs.Counts.{count-append, requests_in-append, count-all, eqb-self, and-left, and-right}
use Rattle.dap_ends.proofs.AdapterModels.{oldest-balance, asks-append, part, park-asks}
use Rattle.dap_ends.proofs.PairSteps.{response-taken, request-taken}
use Rattle.dap_ends.proofs.OwnRequests.{Owns, own-few, phase-takes, asks-phase, new-next, answers-next, down-place}
use Rattle.dap_ends.proofs.Beginnings.{Begins, begins}
use Rattle.dap_ends.proofs.PairSchedules.{Follows, follows-step, follows-start, follows-tells, no-fault}
use Rattle.dap_ends.proofs.PairNotes.{requests_up-append}
use Rattle.dap_ends.specs.World.{Agree}
use Rattle.dap_ends.specs.Transcript.{WorldWithTranscript}
use Rattle.std.proofs.lemmas.List.{append-nil}

true-false : true ≡ false → ⊥
true-false e = cc

-- a request that announces a terminal
abbrev pub announces_terminal : (ℕ → Bool) → Ask → Bool
announces_terminal wants a = is_initialize a && wants a.seq

-- the requests that are not answered
abbrev pub announcements_waiting : Pair → (Ask → Bool) → ℕ
announcements_waiting w p = count p (asks w.adapter.kept) + count p (requests_in (requests_up w.up))

-- what the adapter was told the client still says
pub record Announces (w : Pair) : Type 0 where
  pub told : w.terminal ≡ true → w.announced ≡ true
  pub early : w.adapter.phase ≡ AdapterFresh → w.terminal ≡ false
  pub sent : 0 < announcements_waiting w (announces_terminal w.wants) → w.announced ≡ true
  pub asks : 0 < length w.asked → w.announced ≡ true

-- a step that announces nothing
announces-less : (w v : Pair) → v.announced ≡ w.announced → v.terminal ≡ w.terminal → (v.adapter.phase ≡ AdapterFresh → w.adapter.phase ≡ AdapterFresh) → announcements_waiting v (announces_terminal v.wants) ≤ announcements_waiting w (announces_terminal w.wants) → length v.asked ≤ length w.asked → Announces w → Announces v
announces-less w v a t f c l g =
    record {
      told = λ e. a ∙ g.told (sym t ∙ e);
      early = λ e. t ∙ g.early (f e);
      sent = λ h. a ∙ g.sent (omega arith);
      asks = λ h. a ∙ g.asks (omega arith);
    }

announces-if : (b : Bool) (w v : Pair) → Announces w → Announces v → Announces (if b then w else v)
announces-if true w v g h = g
announces-if false w v g h = h

requests_without-fewer : (p : Ask → Bool) (q : ℕ) (xs : List Ask) → count p (requests_without q xs) ≤ count p xs
requests_without-fewer p q [] = omega arith
requests_without-fewer p q (x ∷ xs) = fewer-cases (has_seq q x) (requests_without-fewer p q xs)
  where
    fewer-cases : (b : Bool) → count p (requests_without q xs) ≤ count p xs → count p (if not b then x ∷ requests_without q xs else requests_without q xs) ≤ one_if (p x) + count p xs
    fewer-cases true h = omega arith
    fewer-cases false h = omega arith

-- no step of the adapter goes back to its first phase
fresh-after : (p : AdapterPhase) (c : Command) (ok : Bool) → phase_after p c ok ≡ AdapterFresh → p ≡ AdapterFresh
fresh-after AdapterFresh c ok e = refl
fresh-after AdapterReady ConfigurationDone ok e = cc
fresh-after AdapterReady _ ok e = cc
fresh-after AdapterConfigured Launch true e = cc
fresh-after AdapterConfigured Launch false e = cc
fresh-after AdapterConfigured _ ok e = cc
fresh-after AdapterRunning Terminate ok e = cc
fresh-after AdapterRunning _ ok e = cc
fresh-after AdapterStopped Terminate ok e = cc
fresh-after AdapterStopped Resume true e = cc
fresh-after AdapterStopped Resume false e = cc
fresh-after AdapterStopped _ ok e = cc
fresh-after _ c ok e = cc

fresh-after_start : (ok : Bool) → phase_after_start ok ≡ AdapterFresh → ⊥
fresh-after_start true e = cc
fresh-after_start false e = cc

fresh-handled : (x : Answer) (d : AdapterModel) (a : Ask) (ok : Bool) → (handled_as x d a ok).adapter.phase ≡ AdapterFresh → d.phase ≡ AdapterFresh
fresh-handled Fails d a ok e = e
fresh-handled Succeeds d a ok e = fresh-after d.phase a.command true e
fresh-handled Tries d a ok e = fresh-after d.phase a.command ok e
fresh-handled Parks d a ok e = absurd (let z : AdapterParked ≡ AdapterFresh = e in cc)
fresh-handled Starts_parked d a ok e = absurd (fresh-after_start ok e)
fresh-handled Leaves d a ok e = absurd (let z : AdapterEnded ≡ AdapterFresh = e in cc)

fresh-after_happening : (p : AdapterPhase) (x : Happening) → phase_after_happening p x ≡ AdapterFresh → p ≡ AdapterFresh
fresh-after_happening AdapterFresh x e = refl
fresh-after_happening AdapterRunning Stops e = cc
fresh-after_happening AdapterRunning Exits e = cc
fresh-after_happening AdapterRunning _ e = cc
fresh-after_happening AdapterStopped Continues e = cc
fresh-after_happening AdapterStopped Exits e = cc
fresh-after_happening AdapterStopped _ e = cc
fresh-after_happening _ x e = cc

fresh-ends_wait : (p : AdapterPhase) (d : AdapterModel) (ok : Bool) → d.phase ≡ p → (ends_wait p d ok).adapter.phase ≡ AdapterFresh → d.phase ≡ AdapterFresh
fresh-ends_wait AdapterAsked d ok e h = absurd (fresh-after_start ok h)
fresh-ends_wait _ d ok e h = h

-- only in its first phase the client sends an initialize
sends-fresh : (p : Phase) (ready : Bool) → allows p ready Initialize ≡ true → p ≡ Fresh
sends-fresh Fresh y e = refl
sends-fresh _ y e = absurd (true-false (sym e))

-- a new number says nothing of the requests that are unanswered
announcing-old : (wants : ℕ → Bool) (k : ℕ) (wanted : Bool) (xs : List Ask) → count (has_seq k) xs ≡ 0 → count (announces_terminal (λ q. if q == k then wanted else wants q)) xs ≡ count (announces_terminal wants) xs
announcing-old wants k wanted [] h = refl
announcing-old wants k wanted (x ∷ xs) h = old-cases (x.seq == k) refl h (λ z. announcing-old wants k wanted xs z)
  where
    old-cases : (b : Bool) → (x.seq == k) ≡ b → one_if (x.seq == k) + count (has_seq k) xs ≡ 0 → (count (has_seq k) xs ≡ 0 → count (announces_terminal (λ q. if q == k then wanted else wants q)) xs ≡ count (announces_terminal wants) xs) → one_if (is_initialize x && (if x.seq == k then wanted else wants x.seq)) + count (announces_terminal (λ q. if q == k then wanted else wants q)) xs ≡ one_if (is_initialize x && wants x.seq) + count (announces_terminal wants) xs
    old-cases true e h r = absurd (let z = ap one_if e in omega arith)
    old-cases false e h r = let y = r (omega arith) in rw (e, y) refl

-- the client sends something else
quiet-sent : (c : Command) (wanted old : Bool) → (code c == 0) ≡ false → announced_after_sending c wanted old ≡ old
quiet-sent Initialize wanted old e = absurd (true-false e)
quiet-sent _ wanted old e = refl

is-first : (c : Command) → (code c == 0) ≡ true → c ≡ Initialize
is-first Initialize e = refl
is-first _ e = absurd (true-false (sym e))

flag-true : (b : Bool) (n : ℕ) → n ≡ 0 → 0 < n + (one_if b + 0) → b ≡ true
flag-true true n z h = refl
flag-true false n z h = absurd (omega arith)

-- fewer are kept
filter-fewer : (p : Ask → Bool) (t : Kept → Bool) (ks : List Kept) → count p (asks (filter t ks)) ≤ count p (asks ks)
filter-fewer p t ks = let h = part p t ks in omega arith

but-fewer : (p : Ask → Bool) (ks : List Kept) → count p (asks (but_oldest ks)) ≤ count p (asks ks)
but-fewer p ks = by-oldest (oldest ks) refl
  where
    none-out : (ks : List Kept) → oldest ks ≡ None → but_oldest ks ≡ ks
    none-out [] e = refl
    none-out (k ∷ ks) e = parked-out k ks k.parked (none-out ks) e
      where
        parked-out : (k : Kept) (ks : List Kept) (b : Bool) → (oldest ks ≡ None → but_oldest ks ≡ ks) → (if b then oldest ks else Some k.ask) ≡ None → (if b then k ∷ but_oldest ks else ks) ≡ k ∷ ks
        parked-out k ks true r e = ap (λ zs. k ∷ zs) (r e)
        parked-out k ks false r e = cc

    by-oldest : (o : Option Ask) → oldest ks ≡ o → count p (asks (but_oldest ks)) ≤ count p (asks ks)
    by-oldest None e = rw (none-out ks e) (omega arith)
    by-oldest (Some a) e = let h = oldest-balance p ks a e in omega arith

handled-kept : (x : Answer) (p : Ask → Bool) (d : AdapterModel) (a : Ask) (ok : Bool) → count p (asks (handled_as x d a ok).adapter.kept) ≤ count p (asks d.kept)
handled-kept Fails p d a ok = but-fewer p d.kept
handled-kept Succeeds p d a ok = but-fewer p d.kept
handled-kept Tries p d a ok = but-fewer p d.kept
handled-kept Parks p d a ok = rw (park-asks d.kept) (omega arith)
handled-kept Starts_parked p d a ok = let h = filter-fewer p (λ k. not k.parked) (but_oldest d.kept) in let k = but-fewer p d.kept in omega arith
handled-kept Leaves p d a ok = omega arith

after_turn-kept : (o : Option Ask) (p : Ask → Bool) (d : AdapterModel) (ok : Bool) → count p (asks (after_turn o d ok).adapter.kept) ≤ count p (asks d.kept)
after_turn-kept None p d ok = omega arith
after_turn-kept (Some a) p d ok = handled-kept (answer_of d.phase a.command) p d a ok

asks_terminal_as-kept : (ph : AdapterPhase) (c : Command) (p : Ask → Bool) (d : AdapterModel) (a : Ask) → count p (asks (asks_terminal_as ph c d a).adapter.kept) ≤ count p (asks d.kept)
asks_terminal_as-kept AdapterConfigured Launch p d a = rw (park-asks d.kept) (omega arith)
asks_terminal_as-kept AdapterParked ConfigurationDone p d a = but-fewer p d.kept
asks_terminal_as-kept _ _ p d a = omega arith

ends_wait-kept : (ph : AdapterPhase) (p : Ask → Bool) (d : AdapterModel) (ok : Bool) → count p (asks (ends_wait ph d ok).adapter.kept) ≤ count p (asks d.kept)
ends_wait-kept AdapterAsked p d ok = filter-fewer p (λ k. not k.parked) d.kept
ends_wait-kept _ p d ok = omega arith

cancels-kept : (ph : AdapterPhase) (p : Ask → Bool) (d : AdapterModel) (a : Ask) (q : ℕ) → count p (asks (cancels ph d a q).adapter.kept) ≤ count p (asks d.kept) + one_if (p a)
cancels-kept AdapterFresh p d a q = omega arith
cancels-kept _ p d a q = let h = filter-fewer p (λ k. not (is_named q k)) d.kept in omega arith

-- at most that one more is kept
abbrev KeptAtMost : (Ask → Bool) → AdapterModel → Ask → Made → Type 0
KeptAtMost p d a m = count p (asks m.adapter.kept) ≤ count p (asks d.kept) + one_if (p a)

keeps-kept : (b : Bool) (p : Ask → Bool) (d : AdapterModel) (a : Ask) → KeptAtMost p d a (if b then record { adapter = record d { kept = d.kept ++ record { ask = a; parked = false } ∷ [] }; outs = [] } else record { adapter = d; outs = Response a false ∷ [] })
keeps-kept true p d a = rw (asks-append d.kept (record { ask = a; parked = false } ∷ []), count-append p (asks d.kept) (a ∷ [])) (omega arith)
keeps-kept false p d a = omega arith

kept-if : (b : Bool) (p : Ask → Bool) (d : AdapterModel) (a : Ask) (m l : Made) → KeptAtMost p d a m → KeptAtMost p d a l → KeptAtMost p d a (if b then m else l)
kept-if true p d a m l e f = e
kept-if false p d a m l e f = f

takes-kept : (n : ℕ) (p : Ask → Bool) (d : AdapterModel) (a : Ask) (q : ℕ) → KeptAtMost p d a (takes_request n d a q)
takes-kept n p d a q =
    kept-if (is_ended d.phase) p d a (fails_with d RequestAfterEnd) _ (omega arith)
    (kept-if (list_any (has_seq a.seq) (asks d.kept)) p d a (fails_with d RepeatedSeq) _ (omega arith)
    (kept-if (code a.command == 5) p d a (cancels d.phase d a q) (keeps n d a) (cancels-kept d.phase p d a q) (keeps-kept (nat_lt (length d.kept) n) p d a)))

-- a request that is sent
after_sending-announces : (b : Bool) (n : ℕ) (w : Pair) (c : Command) (i : List ℕ) (q : ℕ) (wanted : Bool) (refs : List Ref) → (code c == 0) ≡ b → allows w.client.phase w.client.ready c ≡ true → Agree n (plain_world (client_world w)) → Begins (plain_world (client_world w)) → Owns w → Announces w → Announces (pair_after_sending w c i q wanted refs)
after_sending-announces false n w c i q wanted refs e m g b o a =
    let k = w.client.last + 1 in
    let wants : ℕ → Bool = λ j. if j == k then wanted else w.wants j in
    let x = next_ask w.client c i in
    let fresh = g.new k (omega arith) in
    let place = g.place (has_seq k) in
    let old_kept = announcing-old w.wants k wanted (asks w.adapter.kept) (omega arith) in
    let old_up = announcing-old w.wants k wanted (requests_in (requests_up w.up)) (omega arith) in
    let none : one_if (announces_terminal wants x) ≡ 0 = rw e refl in
    announces-less w (pair_after_sending w c i q wanted refs) (quiet-sent c wanted w.announced e) refl (λ z. z)
    (rw (requests_up-append w.up _, requests_in-append (requests_up w.up) _, count-append (announces_terminal wants) (requests_in (requests_up w.up)) (x ∷ [])) (omega arith)) (omega arith) a
after_sending-announces true n w c i q wanted refs e m g b o a =
    let first : c ≡ Initialize = is-first c e in
    let fresh : w.client.phase ≡ Fresh = sends-fresh w.client.phase w.client.ready (subst (λ (d : Command). allows w.client.phase w.client.ready d ≡ true) first m) in
    let begin = b.fresh fresh in
    let adapter = begin.1 in
    let k = w.client.last + 1 in
    let wants : ℕ → Bool = λ j. if j == k then wanted else w.wants j in
    let x = next_ask w.client c i in
    let out = ap (λ (xs : List Ask). count (announces_terminal wants) xs) begin.0 in
    let place = g.place (announces_terminal wants) in
    let zero : count (announces_terminal wants) (asks w.adapter.kept) + count (announces_terminal wants) (requests_in (requests_up w.up)) ≡ 0 = omega arith in
    let says : announces_terminal wants x ≡ wanted = rw (e, eqb-self k) refl in
    let waits : length w.asked ≡ 0 = subst (λ (p : AdapterPhase). UnansweredByPhase p (length w.asked)) adapter o.waits in
    let now : announced_after_sending c wanted w.announced ≡ wanted = ap (λ (d : Command). announced_after_sending d wanted w.announced) first in
    let more : announcements_waiting (pair_after_sending w c i q wanted refs) (announces_terminal wants) ≡ (count (announces_terminal wants) (asks w.adapter.kept) + count (announces_terminal wants) (requests_in (requests_up w.up))) + (one_if (announces_terminal wants x) + 0) =
    rw (requests_up-append w.up _, requests_in-append (requests_up w.up) _, count-append (announces_terminal wants) (requests_in (requests_up w.up)) (x ∷ [])) (omega arith) in
    record {
      told = λ t. absurd (true-false (sym t ∙ a.early adapter));
      early = a.early;
      sent = λ h. now ∙ sym says ∙ flag-true (announces_terminal wants x) (count (announces_terminal wants) (asks w.adapter.kept) + count (announces_terminal wants) (requests_in (requests_up w.up))) zero (omega arith);
      asks = λ h. absurd (omega arith);
    }

sends-announces : (b : Bool) (n : ℕ) (w : Pair) (c : Command) (i : List ℕ) (q : ℕ) (wanted : Bool) (refs : List Ref) → (all_in w.given refs && may_send n w.client c) ≡ b → Agree n (plain_world (client_world w)) → Begins (plain_world (client_world w)) → Owns w → Announces w → Announces (if b then pair_after_sending w c i q wanted refs else w)
sends-announces true n w c i q wanted refs e g b o a =
    after_sending-announces (code c == 0) n w c i q wanted refs refl (and-left (allows w.client.phase w.client.ready c) (nat_lt (length w.client.asked) n) (and-right (all_in w.given refs) (may_send n w.client c) e)) g b o a
sends-announces false n w c i q wanted refs e g b o a = a

-- a response of the client is no request
reply-announcements : (v : Pair) (a : Ask) (ok : Bool) (p : Ask → Bool) → announcements_waiting (replies v a ok) p ≡ announcements_waiting v p
reply-announcements v a ok p = rw (requests_up-append v.up _, append-nil (requests_up v.up)) refl

answers-announces : (w : Pair) (o : Option Ask) (ok : Bool) → Announces w → Announces (pair_answers w o ok)
answers-announces w None ok a = a
answers-announces w (Some x) ok a =
    let h = reply-announcements (record w { incoming = requests_without x.seq w.incoming }) x ok (announces_terminal w.wants) in
    announces-less w (pair_answers w (Some x) ok) refl refl (λ z. z) (omega arith) (omega arith) a

-- what comes up first
up-announcements : (w : Pair) (m : NumberedNote) (x : Message) (ms : List NumberedNote) (p : Ask → Bool) → m.note.message ≡ x → w.up ≡ m ∷ ms → count p (requests_in (requests_up w.up)) ≡ count p (requests_in (request_in x ++ requests_up ms))
up-announcements w m x ms p e u = ap (λ (zs : List NumberedNote). count p (requests_in (requests_up zs))) u ∙ ap (λ (y : Message). count p (requests_in (request_in y ++ requests_up ms))) e

takes_up-announces : (n : ℕ) (w : Pair) (m : NumberedNote) (x : Message) (ms : List NumberedNote) (starts : Bool) → m.note.message ≡ x → w.up ≡ m ∷ ms → Owns w → Announces w → Announces (pair_takes_up n (record w { up = ms }) x starts)
takes_up-announces n w m (Request a q) ms starts e u o g =
    let k = takes-kept n (announces_terminal w.wants) w.adapter a q in
    let h = up-announcements w m (Request a q) ms (announces_terminal w.wants) e u in
    announces-less w _ refl refl (λ z. sym (phase-takes n w.adapter a q) ∙ z) (omega arith) (omega arith) g
takes_up-announces n w m (Event k) ms starts e u o g =
    let h = up-announcements w m (Event k) ms (announces_terminal w.wants) e u in announces-less w (record w { up = ms }) refl refl (λ z. z) (omega arith) (omega arith) g
takes_up-announces n w m (Response a ok) ms starts e u o g =
    let h = answers-next w m (Response a ok) ms e u o in
    let one = count-all w.asked in
    let two = count-all (requests_without a.seq w.asked) in
    let less = requests_without-fewer (λ x. true) a.seq w.asked in
    let up = up-announcements w m (Response a ok) ms (announces_terminal w.wants) e u in
    let kept = ends_wait-kept w.adapter.phase (announces_terminal w.wants) w.adapter (ok && starts) in
    rw (response-taken (record w { up = ms }) a ok starts h.0 h.1) (announces-less w _ refl refl (λ z. fresh-ends_wait w.adapter.phase w.adapter (ok && starts) refl z) (omega arith) (omega arith) g)

up-announces : (n : ℕ) (w : Pair) (up : List NumberedNote) (starts : Bool) → w.up ≡ up → Owns w → Announces w → Announces (pair_comes_up n w up starts)
up-announces n w [] starts u o g = g
up-announces n w (m ∷ ms) starts u o g = takes_up-announces n w m m.note.message ms starts refl u o g

-- a turn that asks
asks-announces : (o : Option Ask) (w : Pair) → turn_asks w o ≡ true → Announces w → Announces (writes_terminal_ask (pair_after_adapter w (after_asking_turn o w.adapter) [] w.table))
asks-announces None w e g = absurd (true-false (sym e))
asks-announces (Some a) w e g =
    let s = and-left (would_start w.adapter.phase a.command) (w.terminal && w.wants (launch_seq a.command a (asks (parked_of w.adapter.kept)))) e in
    let t = and-left w.terminal (w.wants (launch_seq a.command a (asks (parked_of w.adapter.kept)))) (and-right (would_start w.adapter.phase a.command) (w.terminal && w.wants (launch_seq a.command a (asks (parked_of w.adapter.kept)))) e) in
    let k = asks_terminal_as-kept w.adapter.phase a.command (announces_terminal w.wants) w.adapter a in
    record {
      told = g.told;
      early = λ z. absurd (let y : AdapterAsked ≡ AdapterFresh = sym (asks-phase w.adapter.phase a.command w.adapter a s) ∙ z in cc);
      sent = λ h. g.sent (omega arith);
      asks = λ h. g.told t;
    }

-- an initialize is handled, or the adapter is told nothing
terminal_after_command-cases : (p : AdapterPhase) (c : Command) (wanted old : Bool) → ((p ≡ AdapterFresh) × (c ≡ Initialize) × (terminal_after_command p c wanted old ≡ wanted)) ⊎ (terminal_after_command p c wanted old ≡ old)
terminal_after_command-cases AdapterFresh Initialize wanted old = inl (refl, refl, refl)
terminal_after_command-cases AdapterFresh _ wanted old = inr refl
terminal_after_command-cases _ c wanted old = inr refl

initialize-phase : (d : AdapterModel) (a : Ask) (ok : Bool) → d.phase ≡ AdapterFresh → a.command ≡ Initialize → (handled_as (answer_of d.phase a.command) d a ok).adapter.phase ≡ AdapterReady
initialize-phase d a ok e f = rw (e, f) refl

after_turn-announces : (o : Option Ask) (w v : Pair) (ok : Bool) → oldest w.adapter.kept ≡ o → v.announced ≡ w.announced → v.terminal ≡ terminal_after_turn w.adapter.phase o w.wants w.terminal → v.adapter.phase ≡ (after_turn o w.adapter ok).adapter.phase → v.adapter.kept ≡ (after_turn o w.adapter ok).adapter.kept → v.up ≡ w.up → v.wants ≡ w.wants → v.asked ≡ w.asked → Announces w → Announces v
after_turn-announces None w v ok o a t p d u y k h =
    announces-less w v a t (λ z. sym p ∙ z) (rw (d, u, y) (omega arith)) (rw k (omega arith)) h
after_turn-announces (Some x) w v ok o a t p d u y k h =
    let less = after_turn-kept (Some x) (announces_terminal w.wants) w.adapter ok in
    elim (terminal_after_command-cases w.adapter.phase x.command (w.wants x.seq) w.terminal) [
      | inr same ↦ announces-less w v a (t ∙ same) (λ z. fresh-handled (answer_of w.adapter.phase x.command) w.adapter x ok (sym p ∙ z)) (rw (d, u, y) (omega arith)) (rw k (omega arith)) h
      | inl told ↦
          let wanted : v.terminal ≡ w.wants x.seq = t ∙ told.2 in
          let here : w.wants x.seq ≡ true → w.announced ≡ true = λ z.
          let yes : announces_terminal w.wants x ≡ true = rw (told.1, z) refl in
          let one = ap one_if yes in
          let kept = oldest-balance (announces_terminal w.wants) w.adapter.kept x o in
          h.sent (omega arith) in
          let fewer : announcements_waiting v (announces_terminal v.wants) ≤ announcements_waiting w (announces_terminal w.wants) = rw (d, u, y) (omega arith) in
          record {
            told = λ z. a ∙ here (sym wanted ∙ z);
            early = λ z. absurd (let e : AdapterReady ≡ AdapterFresh = sym (initialize-phase w.adapter x ok told.0 told.1) ∙ sym p ∙ z in cc);
            sent = λ z. a ∙ h.sent (omega arith);
            asks = λ z. a ∙ h.asks (subst (λ (xs : List Ask). 0 < length xs) k z);
          }
    ]

turn-announces : (b : Bool) (r : ℕ) (w : Pair) (ok : Bool) (more : List Bool) (requests_named : List Ref) → turn_asks w (oldest w.adapter.kept) ≡ b → Announces w → Announces (if b then pair_asks_terminal w else pair_after_turn r w ok more requests_named)
turn-announces true r w ok more requests_named e a = asks-announces (oldest w.adapter.kept) w e a
turn-announces false r w ok more requests_named e a =
    after_turn-announces (oldest w.adapter.kept) w (pair_after_turn r w ok more requests_named) (inspection_succeeds r w.table more requests_named (oldest w.adapter.kept) ok) refl refl refl refl refl refl refl refl a

request-announces : (b : Bool) (w : Pair) (a : Ask) (ms : List NumberedNote) → Announces w → Announces (if b then record w { down = ms; incoming = w.incoming ++ a ∷ [] } else replies (record w { down = ms }) a false)
request-announces true w a ms g = announces-less w (record w { down = ms; incoming = w.incoming ++ a ∷ [] }) refl refl (λ z. z) (omega arith) (omega arith) g
request-announces false w a ms g =
    let h = reply-announcements (record w { down = ms }) a false (announces_terminal w.wants) in announces-less w (replies (record w { down = ms }) a false) refl refl (λ z. z) (omega arith) (omega arith) g

report-announces : (b : Bool) (w : Pair) (x : Message) (refs : List Ref) (ms : List NumberedNote) → Announces w → Announces (if b then with_fault (record w { down = ms }) ReferenceLimit else record w { down = ms; client = client_model_takes w.client x; given = given_after (pair_eyes w) x refs })
report-announces true w x refs ms g = announces-less w (with_fault (record w { down = ms }) ReferenceLimit) refl refl (λ z. z) (omega arith) (omega arith) g
report-announces false w x refs ms g = announces-less w (record w { down = ms; client = client_model_takes w.client x; given = given_after (pair_eyes w) x refs }) refl refl (λ z. z) (omega arith) (omega arith) g

takes_down-announces : (n r : ℕ) (w : Pair) (m : NumberedNote) (x : Message) (ms : List NumberedNote) → m.note.message ≡ x → w.down ≡ m ∷ ms → Owns w → Announces w → Announces (pair_takes_down n r (record w { down = ms }) x m.note.refs)
takes_down-announces n r w m (Request a q) ms e u o g =
    rw (request-taken n (record w { down = ms }) a (new-next w m (Request a q) ms e u o)) (request-announces (is_terminal_ask a && (w.announced && nat_lt (length w.incoming) n)) w a ms g)
takes_down-announces n r w m (Response a ok) ms e u o g = report-announces (nat_lt r (length (given_with (pair_eyes w) (Response a ok) m.note.refs))) w (Response a ok) m.note.refs ms g
takes_down-announces n r w m (Event k) ms e u o g = report-announces (nat_lt r (length (given_with (pair_eyes w) (Event k) m.note.refs))) w (Event k) m.note.refs ms g

down-announces : (n r : ℕ) (w : Pair) (down : List NumberedNote) → w.down ≡ down → Owns w → Announces w → Announces (pair_comes_down n r w down)
down-announces n r w [] u o g = g
down-announces n r w (m ∷ ms) u o g = takes_down-announces n r w m m.note.message ms refl u o g

-- a client that a fault has closed sends nothing
send-cases : (b : Bool) (n r : ℕ) (w : Pair) (c : Command) (i : List ℕ) (q : ℕ) (wanted : Bool) (refs : List Ref) → has_fault w.client.fault ≡ b → Follows n r w → Announces w → Announces (if b then w else pair_sends n w c i q wanted refs)
send-cases true n r w c i q wanted refs e f a = a
send-cases false n r w c i q wanted refs e f a =
    let z : w.client.fault ≡ None = no-fault w.client.fault e in
    let s = f.fine z in
    let g : Agree n (plain_world (client_world w)) = subst (λ (x : ClientModel). Agree n (plain_world (client_world_with x w))) s (follows-tells n r w f).agree in
    let t : Begins (plain_world (client_world_with f.client w)) = subst (λ (y : WorldWithTranscript). Begins y.world) f.same (begins n f.steps) in
    let b : Begins (plain_world (client_world w)) = subst (λ (x : ClientModel). Begins (plain_world (client_world_with x w))) s t in
    sends-announces (all_in w.given refs && may_send n w.client c) n w c i q wanted refs refl g b f.owns a

-- each step
pub announces-step : (n r : ℕ) (w : Pair) (x : PairStep) → Follows n r w → Announces w → Announces (pair_happens n r w x)
announces-step n r w (PairSend c i q wanted refs) f a = send-cases (has_fault w.client.fault) n r w c i q wanted (references_carried c refs) refl f a
announces-step n r w (PairAnswer q ok) f a = announces-if (has_fault w.client.fault) w _ a (answers-announces w (request_with_seq q w.incoming) ok a)
announces-step n r w (PairDeliverUp starts) f a = up-announces n w w.up starts refl f.owns a
announces-step n r w (PairTurn ok more requests_named) f a =
    turn-announces (turn_asks w (oldest w.adapter.kept)) r w ok (unless_sets_variable (sets_variable (oldest w.adapter.kept)) more) (unless_sets_variable (sets_variable (oldest w.adapter.kept)) requests_named) refl a
announces-step n r w (PairPoll x) f a = announces-less w (pair_happens n r w (PairPoll x)) refl refl (λ z. fresh-after_happening w.adapter.phase x z) (omega arith) (omega arith) a
announces-step n r w PairDeliverDown f a = announces-if (has_fault w.client.fault) w _ a (down-announces n r w w.down refl f.owns a)

announces-run : (n r : ℕ) (ss : List PairStep) (w : Pair) → Follows n r w → Announces w → Announces (pair_run n r ss w)
announces-run n r [] w f a = a
announces-run n r (s ∷ ss) w f a = announces-run n r ss (pair_happens n r w s) (follows-step n r w s f) (announces-step n r w s f a)

-- in every schedule
pub announces : (n r : ℕ) (ss : List PairStep) → Announces (pair_run n r ss pair_start)
announces n r ss =
    announces-run n r ss pair_start (follows-start n r) (record { told = λ e. cc; early = λ e. refl; sent = λ h. absurd (omega arith); asks = λ h. absurd (omega arith) })

-- the client keeps a request of the adapter that comes next
none-kept : (xs : List Ask) → length xs ≡ 0 → xs ≡ []
none-kept [] e = refl
none-kept (x ∷ xs) e = absurd (omega arith)

terminal-yes : (b : Bool) (m : ℕ) → one_if (not b) + m ≡ 0 → b ≡ true
terminal-yes true m h = refl
terminal-yes false m h = absurd (omega arith)

kept-next : (n : ℕ) (w : Pair) (m : NumberedNote) (x : Message) (ms : List NumberedNote) → 0 < n → m.note.message ≡ x → w.down ≡ m ∷ ms → Owns w → Announces w → IsKeptNext n w x
kept-next n w m (Request a q) ms l e u g b =
    let all = down-place w m (Request a q) ms e u g (λ x. true) in
    let few = own-few w g (λ x. true) in
    let none = count-all w.incoming in
    let some = count-all w.asked in
    let odd = down-place w m (Request a q) ms e u g (λ x. not (is_terminal_ask x)) in
    let kind = g.kind in
    (terminal-yes (is_terminal_ask a) (count (λ x. not (is_terminal_ask x)) (requests_in (messages_in ms)) + (count (λ x. not (is_terminal_ask x)) w.incoming + count (λ x. not (is_terminal_ask x)) (answered_in (messages_in w.up)))) (omega arith), b.asks (omega arith), none-kept w.incoming (omega arith), l)
kept-next n w m (Response a ok) ms l e u g b = tt
kept-next n w m (Event k) ms l e u g b = tt

keeps-next-in : (n : ℕ) (w : Pair) (down : List NumberedNote) → 0 < n → w.down ≡ down → Owns w → Announces w → KeepsNext n w down
keeps-next-in n w [] l u g b = tt
keeps-next-in n w (m ∷ ms) l u g b = kept-next n w m m.note.message ms l refl u g b

pub keeps-next : (n : ℕ) (w : Pair) → 0 < n → Owns w → Announces w → KeepsNext n w w.down
keeps-next n w l g b = keeps-next-in n w w.down l refl g b
