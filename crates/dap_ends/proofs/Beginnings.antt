-- Before an initialize has succeeded: which requests are unanswered, and that no initialize fails.
use Rattle.std.proofs.Common.{◌≡◌, ℕ, ◌+◌, ◌<◌, ◌≤◌, List, [], ◌∷◌, ◌++◌, Bool, true, false, refl, sym, ap, ◌∙◌, subst, arith, length, inl, inr, Option, Some, None}
use Rattle.std.specs.Prelude.{◌⊎◌, ◌==◌, ◌&&◌, if◌then◌else◌, nat_lt}
use Rattle.std.specs.List.{list_any}
use Rattle.dap_ends.specs.Messages.{Command, Initialize, Disconnect, Terminate, Restart, Resume, Ask, Kind, StoppedEvent, ContinuedEvent, ExitedEvent, TerminatedEvent, Message, Request, Response, Event, one_if, code, count, has_seq, is_same, requests_in, answered_in, AllRequests, NoRequests, answer_each, events_of}
use Rattle.dap_ends.specs.AdapterModel.{AdapterModel, Made, Kept, Happening, asks, oldest, but_oldest, parked_of, unparked_of, answer_of, handled_as, after_turn, adapter_model_takes, adapter_model_polls, after_asking_turn, ends_wait, cancels, keeps, takes_request, phase_after_happening, events_after_happening, is_ended as has_left, AdapterPhase, AdapterFresh, AdapterAsked}
use Rattle.dap_ends.specs.ClientModel.{ClientModel, Phase, Fresh, Initializing, Configuring, Running, Stopped, Resuming, Exited, Ended, allows, phase_sent, may_send, next_ask, after_sending, answered_phase, event_phase, takes_response, client_model_takes}
use Rattle.dap_ends.specs.World.{World, Step, Send, DeliverUp, Turn, Poll, DeliverDown, AskTerminal, EndWait, UseNumber, start, after_adapter, comes_up, comes_down, happens, run, Agree}
use Rattle.dap_ends.specs.Transcript.{WorldWithTranscript, transcript_start, transcript_step, transcript_run}
use Rattle.std.proofs.lemmas.Bool.Decides.{nat_tests}
use Rattle.dap_ends.specs.Standing.{is_initialize}
use Rattle.dap_ends.proofs.Counts.{count-all, none-counted, eqb-self, eqb-same, not-true, and-left}
use Rattle.dap_ends.proofs.AdapterModels.{oldest-balance}
use Rattle.dap_ends.proofs.Drains.{meets}
use Rattle.dap_ends.proofs.Agrees.{after-step, agree}
use Rattle.dap_ends.proofs.TranscriptSteps.{is_before, quiet-asks, event-before}
use Rattle.dap_ends.proofs.Transcripts.{sends-first}
use Rattle.dap_ends.proofs.DownKeeps.{took, answered}

true-false : true ≡ false → ⊥
true-false e = cc

-- no failure is among messages
abbrev pub IsGood : Message → Type 0
IsGood (Request a q) = Unit {0}
IsGood (Response a ok) = ok ≡ true
IsGood (Event k) = Unit {0}

abbrev pub AllGood : List Message → Type 0
AllGood [] = Unit {0}
AllGood (m ∷ ms) = IsGood m × AllGood ms

-- how many requests are under way up or kept
abbrev pub unanswered_by_adapter : World → ℕ
unanswered_by_adapter w = count (λ a. true) (requests_in w.up) + count (λ a. true) (asks w.adapter.kept)

-- the first request of the client
pub record Begins (w : World) : Type 0 where
  pub fresh : w.client.phase ≡ Fresh → (w.client.asked ≡ []) × (w.adapter.phase ≡ AdapterFresh)
  pub first : w.client.phase ≡ Initializing → (length w.client.asked ≡ 1) × (count is_initialize w.client.asked ≡ 1) × ((w.adapter.phase ≡ AdapterFresh) ⊎ (unanswered_by_adapter w ≡ 0)) × AllGood w.down

good-append : (xs ys : List Message) → AllGood xs → AllGood ys → AllGood (xs ++ ys)
good-append [] ys h k = k
good-append (x ∷ xs) ys h k = (h.0, good-append xs ys h.1 k)

good-events : (ks : List Kind) → AllGood (events_of ks)
good-events [] = tt
good-events (k ∷ ks) = (tt, good-events ks)

good-none : (ms : List Message) → count (λ a. true) (answered_in ms) ≡ 0 → AllGood ms
good-none [] h = tt
good-none (Request a q ∷ ms) h = (tt, good-none ms h)
good-none (Response a ok ∷ ms) h = absurd (omega arith)
good-none (Event k ∷ ms) h = (tt, good-none ms h)

nil-asks : (ks : List Kept) → count (λ a. true) (asks ks) ≡ 0 → ks ≡ []
nil-asks [] h = refl
nil-asks (k ∷ ks) h = absurd (omega arith)

-- the adapter does something with the client waiting for its first answer, or before that
begins-after_adapter : (n : ℕ) (w : World) (ms : List Message) (m : Made) → Begins w → (w.client.phase ≡ Fresh → m.adapter.phase ≡ AdapterFresh) → (w.client.phase ≡ Initializing → ((m.adapter.phase ≡ AdapterFresh) ⊎ (count (λ a. true) (requests_in ms) + count (λ a. true) (asks m.adapter.kept) ≡ 0)) × AllGood m.outs) → Begins (after_adapter (record w { up = ms }) m)
begins-after_adapter n w ms m g f h =
    record {
      fresh = λ e. ((g.fresh e).0, f e);
      first = λ e. let x = g.first e in let y = h e in (x.0, x.1, y.0, good-append w.down m.outs x.3 y.1);
    }

-- nothing is kept before the first request
none-kept : (n : ℕ) (w : World) → Agree n w → Begins w → w.client.phase ≡ Fresh → w.adapter.kept ≡ []
none-kept n w a g e =
    let x = (g.fresh e).0 in
    let h = a.place (λ a. true) in
    let z = ap (λ (xs : List Ask). count (λ a. true) xs) x in
    nil-asks w.adapter.kept (omega arith)

-- the oldest is the initialize
oldest-first-ask : (n : ℕ) (w : World) (a : Ask) → Agree n w → Begins w → w.client.phase ≡ Initializing → oldest w.adapter.kept ≡ Some a → (is_initialize a ≡ true) × (count (λ a. true) (requests_in w.up) + count (λ a. true) (asks (but_oldest w.adapter.kept)) ≡ 0)
oldest-first-ask n w a g b e o =
    let x = b.first e in
    let all = g.place (λ a. true) in
    let some = g.place is_initialize in
    let one = oldest-balance (λ a. true) w.adapter.kept a o in
    let two = oldest-balance is_initialize w.adapter.kept a o in
    let total = count-all w.client.asked in
    let p = x.0 in
    let q = x.1 in
    let u = below (requests_in w.up) in
    let d = below (answered_in w.down) in
    let k = below (asks (but_oldest w.adapter.kept)) in
    (yes (is_initialize a) (omega arith), omega arith)
  where
    below : (xs : List Ask) → count is_initialize xs ≤ count (λ a. true) xs
    below [] = omega arith
    below (x ∷ xs) = cases (is_initialize x) (below xs)
      where
        cases : (b : Bool) → count is_initialize xs ≤ count (λ a. true) xs → one_if b + count is_initialize xs ≤ 1 + count (λ a. true) xs
        cases true h = omega arith
        cases false h = omega arith

    yes : (b : Bool) → one_if b ≡ 1 → b ≡ true
    yes true h = refl
    yes false h = absurd (omega arith)

-- a turn
turn-first : (d : AdapterModel) (a : Ask) (ok : Bool) → d.phase ≡ AdapterFresh → is_initialize a ≡ true → ((handled_as (answer_of d.phase a.command) d a ok).adapter.kept ≡ but_oldest d.kept) × AllGood (handled_as (answer_of d.phase a.command) d a ok).outs
turn-first d a ok e i = let c = command-first a.command i in rw (e, c) (refl, (refl, (tt, tt)))
  where
    command-first : (c : Command) → (code c == 0) ≡ true → c ≡ Initialize
    command-first Initialize h = refl
    command-first _ h = absurd (true-false (sym h))

turn-begins-by : (o : Option Ask) (n : ℕ) (w : World) (ok : Bool) → oldest w.adapter.kept ≡ o → Agree n w → Begins w → Begins (after_adapter w (after_turn o w.adapter ok))
turn-begins-by None n w ok o a g = begins-after_adapter n w w.up (record { adapter = w.adapter; outs = [] }) g (λ e. (g.fresh e).1) (λ e. ((g.first e).2, tt))
turn-begins-by (Some x) n w ok o a g =
    begins-after_adapter n w w.up (after_turn (Some x) w.adapter ok) g
    (λ e. absurd (let k = none-kept n w a g e in let z : None ≡ Some x = sym (ap oldest k) ∙ o in cc))
    (λ e.
    let h = oldest-first-ask n w x a g e o in
    let fresh : w.adapter.phase ≡ AdapterFresh = elim (g.first e).2 [ inl p ↦ p | inr z ↦ absurd (let one = oldest-balance (λ a. true) w.adapter.kept x o in omega arith) ] in
    let t = turn-first w.adapter x ok fresh h.0 in
    (inr (rw t.0 h.1), t.1))

-- a turn that asks for a terminal changes nothing then
asks-fresh : (o : Option Ask) (d : AdapterModel) → d.phase ≡ AdapterFresh → after_asking_turn o d ≡ record { adapter = d; outs = [] }
asks-fresh None d e = refl
asks-fresh (Some a) d e = rw e refl

asking-begins : (n : ℕ) (w : World) → Agree n w → Begins w → Begins (after_adapter w (after_asking_turn (oldest w.adapter.kept) w.adapter))
asking-begins n w a g =
    begins-after_adapter n w w.up (after_asking_turn (oldest w.adapter.kept) w.adapter) g
    (λ e. ap (λ (m : Made). m.adapter.phase) (asks-fresh (oldest w.adapter.kept) w.adapter (g.fresh e).1) ∙ (g.fresh e).1)
    (λ e. elim (g.first e).2 [
      | inl p ↦ let s = asks-fresh (oldest w.adapter.kept) w.adapter p in (inl (ap (λ (m : Made). m.adapter.phase) s ∙ p), subst (λ (m : Made). AllGood m.outs) (sym s) tt)
      | inr z ↦
          let s = quiet-asks w.adapter (nil-asks w.adapter.kept (omega arith)) in
          (inr (ap (λ (m : Made). count (λ a. true) (requests_in w.up) + count (λ a. true) (asks m.adapter.kept)) s ∙ z), subst (λ (m : Made). AllGood m.outs) (sym s) tt)
    ])

-- nor does an answer to it
ends_wait-fresh : (d : AdapterModel) (ok : Bool) → d.phase ≡ AdapterFresh → ends_wait d.phase d ok ≡ record { adapter = d; outs = [] }
ends_wait-fresh d ok e = rw e refl

ends_wait-nothing : (p : AdapterPhase) (d : AdapterModel) (ok : Bool) → d.kept ≡ [] → ((ends_wait p d ok).adapter.kept ≡ []) × ((ends_wait p d ok).outs ≡ [])
ends_wait-nothing AdapterAsked d ok e = (ap (λ (ks : List Kept). unparked_of ks) e, ap (λ (ks : List Kept). answer_each ok (asks (parked_of ks))) e)
ends_wait-nothing _ d ok e = (e, refl)

ends_wait-begins : (n : ℕ) (w : World) (ok : Bool) → Agree n w → Begins w → Begins (after_adapter w (ends_wait w.adapter.phase w.adapter ok))
ends_wait-begins n w ok a g =
    begins-after_adapter n w w.up (ends_wait w.adapter.phase w.adapter ok) g
    (λ e. ap (λ (m : Made). m.adapter.phase) (ends_wait-fresh w.adapter ok (g.fresh e).1) ∙ (g.fresh e).1)
    (λ e. elim (g.first e).2 [
      | inl p ↦ let s = ends_wait-fresh w.adapter ok p in (inl (ap (λ (m : Made). m.adapter.phase) s ∙ p), subst (λ (m : Made). AllGood m.outs) (sym s) tt)
      | inr z ↦
          let s = ends_wait-nothing w.adapter.phase w.adapter ok (nil-asks w.adapter.kept (omega arith)) in
          (inr (let k = ap (λ (ks : List Kept). count (λ a. true) (asks ks)) s.0 in omega arith), subst AllGood (sym s.1) tt)
    ])

after_happening-fresh : (p : AdapterPhase) (x : Happening) → p ≡ AdapterFresh → phase_after_happening p x ≡ AdapterFresh
after_happening-fresh p x e = rw e refl

poll-begins : (n : ℕ) (w : World) (x : Happening) → Begins w → Begins (after_adapter w (adapter_model_polls w.adapter x))
poll-begins n w x g =
    begins-after_adapter n w w.up (adapter_model_polls w.adapter x) g (λ e. after_happening-fresh w.adapter.phase x (g.fresh e).1)
    (λ e. (elim (g.first e).2 [ inl p ↦ inl (after_happening-fresh w.adapter.phase x p) | inr z ↦ inr z ], good-events (events_after_happening w.adapter.phase x)))

-- a request that comes is the initialize, and is kept
initialize-below : (xs : List Ask) → count is_initialize xs ≤ count (λ a. true) xs
initialize-below [] = omega arith
initialize-below (x ∷ xs) = cases (is_initialize x) (initialize-below xs)
  where
    cases : (b : Bool) → count is_initialize xs ≤ count (λ a. true) xs → one_if b + count is_initialize xs ≤ 1 + count (λ a. true) xs
    cases true h = omega arith
    cases false h = omega arith

room-holds : (m n : ℕ) → m < n → nat_lt m n ≡ true
room-holds m n h = grind (arith, nat_tests)

up-begins : (n : ℕ) (w : World) (up : List Message) → w.up ≡ up → Agree n w → Begins w → Begins (comes_up n w up)
up-begins n w [] u a g = g
up-begins n w (Response x ok ∷ ms) u a g = absurd (let h : AllRequests (Response x ok ∷ ms) = subst AllRequests u a.up in h.0)
up-begins n w (Event k ∷ ms) u a g = absurd (let h : AllRequests (Event k ∷ ms) = subst AllRequests u a.up in h.0)
up-begins n w (Request x q ∷ ms) u a g =
    let here : (p : Ask → Bool) → count p (requests_in w.up) ≡ one_if (p x) + count p (requests_in ms) = λ p. ap (λ (zs : List Message). count p (requests_in zs)) u in
    let full : requests_in w.up ≡ [] → ⊥ = λ z. let k : x ∷ requests_in ms ≡ [] = sym (ap requests_in u) ∙ z in cc in
    let stands : has_left w.adapter.phase ≡ false = not-true (has_left w.adapter.phase) (λ l. full (a.left l)) in
    let seqs = a.place (has_seq x.seq) in
    let once = a.once x.seq in
    let mine = here (has_seq x.seq) in
    let self = ap one_if (eqb-self x.seq) in
    let new : list_any (has_seq x.seq) (asks w.adapter.kept) ≡ false = none-counted (has_seq x.seq) (asks w.adapter.kept) (omega arith) in
    let total = a.place (λ z. true) in
    let all = here (λ z. true) in
    let took : takes_request n w.adapter x q ≡ (if code x.command == 5 then cancels w.adapter.phase w.adapter x q else keeps n w.adapter x) = rw (stands, new) refl in
    begins-after_adapter n w ms (adapter_model_takes n w.adapter (Request x q)) g
    (λ e. let z = ap (λ (xs : List Ask). count (λ y. true) xs) (g.fresh e).0 in absurd (omega arith))
    (λ e.
    let f = g.first e in
    let len = f.0 in
    let cnt = count-all w.client.asked in
    let fresh : w.adapter.phase ≡ AdapterFresh = elim f.2 [ inl p ↦ p | inr z ↦ absurd (omega arith) ] in
    let some = a.place is_initialize in
    let mine2 = here is_initialize in
    let i1 = initialize-below (requests_in ms) in
    let i2 = initialize-below (asks w.adapter.kept) in
    let i3 = initialize-below (answered_in w.down) in
    let one = f.1 in
    let first : is_initialize x ≡ true = yes (is_initialize x) (omega arith) in
    let plain : (code x.command == 5) ≡ false = let c = eqb-same (code x.command) 0 first in rw c refl in
    let room = room-holds (length w.adapter.kept) n (meets n w (Request x q ∷ ms) u a) in
    let same : takes_request n w.adapter x q ≡ record { adapter = record w.adapter { kept = w.adapter.kept ++ record { ask = x; parked = false } ∷ [] }; outs = [] } = took ∙ rw (plain, room) refl in
    (inl (ap (λ (m : Made). m.adapter.phase) same ∙ fresh), subst (λ (m : Made). AllGood m.outs) (sym same) tt))
  where
    yes : (b : Bool) → 1 ≤ one_if b → b ≡ true
    yes true h = refl
    yes false h = absurd (omega arith)

-- past its first phases the client does not come back to them
late-answered : (p : Phase) (q : ℕ) (a : Ask) (ok : Bool) → is_before p ≡ false → is_before (answered_phase p q a ok) ≡ false
late-answered Configuring q a ok h = by-test ((code a.command == 1) && ok)
  where
    by-test : (b : Bool) → is_before (if b then Running else Configuring) ≡ false
    by-test true = refl
    by-test false = refl
late-answered Resuming q a ok h = by-tests (a.seq == q) ok
  where
    by-tests : (b c : Bool) → is_before (if b then (if c then Running else Stopped) else Resuming) ≡ false
    by-tests true true = refl
    by-tests true false = refl
    by-tests false c = refl
late-answered Fresh q a ok h = absurd (true-false h)
late-answered Initializing q a ok h = absurd (true-false h)
late-answered _ q a ok h = refl

late-told : (p : Phase) (k : Kind) → is_before p ≡ false → is_before (event_phase p k) ≡ false
late-told Configuring StoppedEvent h = refl
late-told Configuring ExitedEvent h = refl
late-told Configuring TerminatedEvent h = refl
late-told Configuring _ h = refl
late-told Running StoppedEvent h = refl
late-told Running ExitedEvent h = refl
late-told Running TerminatedEvent h = refl
late-told Running _ h = refl
late-told Stopped ContinuedEvent h = refl
late-told Stopped ExitedEvent h = refl
late-told Stopped TerminatedEvent h = refl
late-told Stopped _ h = refl
late-told Resuming StoppedEvent h = refl
late-told Resuming ContinuedEvent h = refl
late-told Resuming ExitedEvent h = refl
late-told Resuming TerminatedEvent h = refl
late-told Resuming _ h = refl
late-told Exited k h = refl
late-told Ended k h = refl
late-told Fresh k h = absurd (true-false h)
late-told Initializing k h = absurd (true-false h)

late-sent : (p : Phase) (c : Command) → is_before p ≡ false → is_before (phase_sent p c) ≡ false
late-sent p Disconnect h = refl
late-sent Stopped Resume h = refl
late-sent Stopped Terminate h = refl
late-sent Stopped Restart h = refl
late-sent Stopped _ h = refl
late-sent Configuring _ h = refl
late-sent Running _ h = refl
late-sent Resuming _ h = refl
late-sent Exited _ h = refl
late-sent Ended _ h = refl
late-sent Fresh _ h = absurd (true-false h)
late-sent Initializing _ h = absurd (true-false h)

-- a world past that
begins-past : (w : World) → is_before w.client.phase ≡ false → Begins w
begins-past w h =
    record {
      fresh = λ e. absurd (true-false (sym (ap is_before e) ∙ h));
      first = λ e. absurd (true-false (sym (ap is_before e) ∙ h));
    }

-- the client takes a message
response-begins : (p : Phase) (n : ℕ) (w : World) (a : Ask) (ok : Bool) (ms : List Message) → w.client.phase ≡ p → w.down ≡ Response a ok ∷ ms → Agree n w → Begins w → Begins (record w { client = answered w.client a ok; down = ms })
response-begins Fresh n w a ok ms e d g b =
    let z = ap (λ (xs : List Ask). count (λ y. true) xs) (b.fresh e).0 in
    let h = g.place (λ y. true) in
    let k = ap (λ (zs : List Message). count (λ y. true) (answered_in zs)) d in
    absurd (omega arith)
response-begins Initializing n w a ok ms e d g b =
    let f = b.first e in
    let good : AllGood (Response a ok ∷ ms) = subst AllGood d f.3 in
    let len = f.0 in
    let cnt = count-all w.client.asked in
    let one = f.1 in
    let total = g.place (λ y. true) in
    let some = g.place is_initialize in
    let here : (p : Ask → Bool) → count p (answered_in w.down) ≡ one_if (p a) + count p (answered_in ms) = λ p. ap (λ (zs : List Message). count p (answered_in zs)) d in
    let all = here (λ y. true) in
    let mine = here is_initialize in
    let i1 = initialize-below (requests_in w.up) in
    let i2 = initialize-below (asks w.adapter.kept) in
    let i3 = initialize-below (answered_in ms) in
    let first : is_initialize a ≡ true = yes (is_initialize a) (omega arith) in
    begins-past (record w { client = answered w.client a ok; down = ms }) (rw (e, first, good.0) refl)
  where
    yes : (b : Bool) → 1 ≤ one_if b → b ≡ true
    yes true h = refl
    yes false h = absurd (omega arith)
response-begins _ n w a ok ms e d g b = begins-past _ (late-answered w.client.phase w.client.resumer a ok (ap is_before e))

event-begins : (b : Bool) (w : World) (k : Kind) (ms : List Message) → is_before w.client.phase ≡ b → w.down ≡ Event k ∷ ms → Begins w → Begins (record w { client = client_model_takes w.client (Event k); down = ms })
event-begins true w k ms e d g =
    let same = event-before w.client.phase k e in
    record {
      fresh = λ p. g.fresh (sym same ∙ p);
      first = λ p. let f = g.first (sym same ∙ p) in let good : AllGood (Event k ∷ ms) = subst AllGood d f.3 in (f.0, f.1, f.2, good.1);
    }
event-begins false w k ms e d g = begins-past _ (late-told w.client.phase k e)

down-begins : (n : ℕ) (w : World) (down : List Message) → w.down ≡ down → Agree n w → Agree n (comes_down w down) → Begins w → Begins (comes_down w down)
down-begins n w [] d a h g = g
down-begins n w (Request x q ∷ ms) d a h g = absurd (let k : NoRequests (Request x q ∷ ms) = subst NoRequests d a.down in k.0)
down-begins n w (Event k ∷ ms) d a h g = event-begins (is_before w.client.phase) w k ms refl d g
down-begins n w (Response x ok ∷ ms) d a h g =
    let s : takes_response w.client x ok ≡ answered w.client x ok = took (list_any (has_seq x.seq) w.client.asked) (list_any (is_same x) w.client.asked) w.client x ok h.client_fine in
    subst (λ (c : ClientModel). Begins (record w { client = c; down = ms })) (sym s) (response-begins w.client.phase n w x ok ms refl d a g)

-- the client sends
send-begins : (b : Bool) (n : ℕ) (w : World) (c : Command) (i : List ℕ) (q : ℕ) → is_before w.client.phase ≡ b → allows w.client.phase w.client.ready c ≡ true → Agree n w → Begins w → Begins (record w { client = after_sending w.client c i; up = w.up ++ Request (next_ask w.client c i) q ∷ [] })
send-begins false n w c i q e m a g = begins-past _ (late-sent w.client.phase c e)
send-begins true n w c i q e m a g =
    let o = sends-first w.client.phase w.client.ready c m e in
    let f = g.fresh o.0 in
    let z = ap (λ (xs : List Ask). count (λ y. true) xs) f.0 in
    let h = a.place (λ y. true) in
    let first : is_initialize (next_ask w.client c i) ≡ true = ap (λ (d : Command). code d == 0) o.1 in
    let one = ap one_if first in
    let all = ap (λ (xs : List Ask). xs ++ next_ask w.client c i ∷ []) f.0 in
    record {
      fresh = λ p. absurd (let y : Initializing ≡ Fresh = sym o.2 ∙ p in cc);
      first = λ p. (ap length all, ap (λ (xs : List Ask). count is_initialize xs) all ∙ omega arith, inl f.1, good-none w.down (omega arith));
    }

send-if : (b : Bool) (n : ℕ) (w : World) (c : Command) (i : List ℕ) (q : ℕ) → may_send n w.client c ≡ b → Agree n w → Begins w → Begins (if b then record w { client = after_sending w.client c i; up = w.up ++ Request (next_ask w.client c i) q ∷ [] } else w)
send-if true n w c i q e a g = send-begins (is_before w.client.phase) n w c i q refl (and-left (allows w.client.phase w.client.ready c) (nat_lt (length w.client.asked) n) e) a g
send-if false n w c i q e a g = g

begins-step : (n : ℕ) (w : World) (s : Step) → Agree n w → Begins w → Begins (happens n w s)
begins-step n w (Send c i q) a g = send-if (may_send n w.client c) n w c i q refl a g
begins-step n w DeliverUp a g = up-begins n w w.up refl a g
begins-step n w (Turn ok) a g = turn-begins-by (oldest w.adapter.kept) n w ok refl a g
begins-step n w (Poll x) a g = poll-begins n w x g
begins-step n w DeliverDown a g = down-begins n w w.down refl a (after-step n w DeliverDown a) g
begins-step n w AskTerminal a g = asking-begins n w a g
begins-step n w (EndWait ok) a g = ends_wait-begins n w ok a g
begins-step n w UseNumber a g = record { fresh = g.fresh; first = g.first }

begins-run : (n : ℕ) (ss : List Step) (w : World) → Agree n w → Begins w → Begins (run n ss w)
begins-run n [] w a g = g
begins-run n (s ∷ ss) w a g = begins-run n ss (happens n w s) (after-step n w s a) (begins-step n w s a g)

told-world : (n : ℕ) (ss : List Step) (t : WorldWithTranscript) → (transcript_run n ss t).world ≡ run n ss t.world
told-world n [] t = refl
told-world n (s ∷ ss) t = told-world n ss (transcript_step n t s)

-- in every schedule
pub begins : (n : ℕ) (ss : List Step) → Begins (transcript_run n ss transcript_start).world
begins n ss = subst Begins (sym (told-world n ss transcript_start)) (begins-run n ss start (agree n []) (record { fresh = λ e. (refl, refl); first = λ e. cc }))
