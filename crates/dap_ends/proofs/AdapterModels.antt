-- What each call of the adapter keeps.
use Rattle.std.proofs.Common.{◌≡◌, ℕ, ◌+◌, ◌<◌, List, [], ◌∷◌, ◌++◌, Bool, true, false, cond, not, filter, refl, sym, ap, ◌∙◌, arith, length, inl, inr, Option, Some, None}
use Rattle.std.specs.Prelude.{◌==◌, ◌&&◌, if◌then◌else◌, ◌⊎◌, nat_lt}
use Rattle.std.specs.List.{list_any}
use Rattle.std.proofs.lemmas.List.{append-nil}
use Rattle.std.proofs.lemmas.List.Elements.{filter-append}
use Rattle.dap_ends.specs.Messages.{Command, Initialize, Launch, ConfigurationDone, Disconnect, Terminate, Restart, Cancel, Setter, Lookup, Resume, Pause, Inspect, Unserved, Ask, Response, code, is_disconnect, has_seq, one_if, count, answered_in, NoRequests, answer_each}
use Rattle.dap_ends.specs.AdapterModel.{AdapterPhase, AdapterFresh, AdapterReady, AdapterConfigured, AdapterParked, AdapterAsked, AdapterRunning, AdapterStopped, AdapterExited, AdapterEnded, AdapterModel, Kept, Made, Answer, Fails, Succeeds, Tries, Parks, Starts_parked, Leaves, Happening, Stops, Continues, Exits, is_ended, is_parked_phase, asks, oldest, but_oldest, park_oldest, parked_of, unparked_of, is_named, requests_named, requests_not_named, answer_of, phase_after, events_after, phase_after_start, handled_as, after_turn, adapter_model_turns, asks_terminal_as, after_asking_turn, ends_wait, keeps, cancels, takes_request, phase_after_happening, events_after_happening, adapter_model_polls}
use Rattle.dap_ends.proofs.Counts.{count-append, answered_in-append, answered-each, answered-events, NoRequests-append, NoRequests-each, NoRequests-events}

pub asks-append : (xs ys : List Kept) → asks (xs ++ ys) ≡ asks xs ++ asks ys
asks-append [] ys = refl
asks-append (x ∷ xs) ys = ap (λ zs. x.ask ∷ zs) (asks-append xs ys)

oldest-cases : (p : Ask → Bool) (k : Kept) (ks : List Kept) (a : Ask) (b : Bool) → (oldest ks ≡ Some a → count p (asks ks) ≡ one_if (p a) + count p (asks (but_oldest ks))) → cond b (oldest ks) (Some k.ask) ≡ Some a → one_if (p k.ask) + count p (asks ks) ≡ one_if (p a) + count p (asks (cond b (k ∷ but_oldest ks) ks))
oldest-cases p k ks a true r e = let h = r e in omega arith
oldest-cases p k ks a false r e = let h : k.ask ≡ a = cc in ap (λ (x : Ask). one_if (p x) + count p (asks ks)) h

pub oldest-balance : (p : Ask → Bool) (ks : List Kept) (a : Ask) → oldest ks ≡ Some a → count p (asks ks) ≡ one_if (p a) + count p (asks (but_oldest ks))
oldest-balance p [] a e = cc
oldest-balance p (k ∷ ks) a e = oldest-cases p k ks a k.parked (oldest-balance p ks a) e

park-cases : (k : Kept) (ks : List Kept) (b : Bool) → asks (park_oldest ks) ≡ asks ks → asks (cond b (k ∷ park_oldest ks) (record { ask = k.ask; parked = true } ∷ ks)) ≡ k.ask ∷ asks ks
park-cases k ks true h = ap (λ xs. k.ask ∷ xs) h
park-cases k ks false h = refl

pub park-asks : (ks : List Kept) → asks (park_oldest ks) ≡ asks ks
park-asks [] = refl
park-asks (k ∷ ks) = park-cases k ks k.parked (park-asks ks)

part-cases : (p : Ask → Bool) (t : Kept → Bool) (k : Kept) (ks : List Kept) (b : Bool) → count p (asks ks) ≡ count p (asks (filter t ks)) + count p (asks (filter (λ x. not (t x)) ks)) → one_if (p k.ask) + count p (asks ks) ≡ count p (asks (cond b (k ∷ filter t ks) (filter t ks))) + count p (asks (cond (not b) (k ∷ filter (λ x. not (t x)) ks) (filter (λ x. not (t x)) ks)))
part-cases p t k ks true h = omega arith
part-cases p t k ks false h = omega arith

pub part : (p : Ask → Bool) (t : Kept → Bool) (ks : List Kept) → count p (asks ks) ≡ count p (asks (filter t ks)) + count p (asks (filter (λ x. not (t x)) ks))
part p t [] = refl
part p t (k ∷ ks) = part-cases p t k ks (t k) (part p t ks)

but-parked-cases : (k : Kept) (ks : List Kept) (b : Bool) → k.parked ≡ b → parked_of (but_oldest ks) ≡ parked_of ks → parked_of (cond b (k ∷ but_oldest ks) ks) ≡ cond b (k ∷ parked_of ks) (parked_of ks)
but-parked-cases k ks true e h = ap (λ z. cond z (k ∷ parked_of (but_oldest ks)) (parked_of (but_oldest ks))) e ∙ ap (λ zs. k ∷ zs) h
but-parked-cases k ks false e h = refl

pub but-parked : (ks : List Kept) → parked_of (but_oldest ks) ≡ parked_of ks
but-parked [] = refl
but-parked (k ∷ ks) = but-parked-cases k ks k.parked refl (but-parked ks)

park-parked-cases : (k : Kept) (ks : List Kept) (a : Ask) (b : Bool) → k.parked ≡ b → (oldest ks ≡ Some a → length (parked_of (park_oldest ks)) ≡ length (parked_of ks) + 1) → cond b (oldest ks) (Some k.ask) ≡ Some a → length (parked_of (cond b (k ∷ park_oldest ks) (record { ask = k.ask; parked = true } ∷ ks))) ≡ length (cond b (k ∷ parked_of ks) (parked_of ks)) + 1
park-parked-cases k ks a true e r o = let h = r o in rw e (omega arith)
park-parked-cases k ks a false e r o = omega arith

pub park-parked : (ks : List Kept) (a : Ask) → oldest ks ≡ Some a → length (parked_of (park_oldest ks)) ≡ length (parked_of ks) + 1
park-parked [] a o = cc
park-parked (k ∷ ks) a o = park-parked-cases k ks a k.parked refl (park-parked ks a) o

unparked-none-cases : (k : Kept) (ks : List Kept) (b : Bool) → k.parked ≡ b → parked_of (unparked_of ks) ≡ [] → parked_of (cond (not b) (k ∷ unparked_of ks) (unparked_of ks)) ≡ []
unparked-none-cases k ks true e h = h
unparked-none-cases k ks false e h = rw e h

pub unparked-none : (ks : List Kept) → parked_of (unparked_of ks) ≡ []
unparked-none [] = refl
unparked-none (k ∷ ks) = unparked-none-cases k ks k.parked refl (unparked-none ks)

requests_not_named-cases : (q : ℕ) (k : Kept) (ks : List Kept) (b c : Bool) → k.parked ≡ b → parked_of (requests_not_named q ks) ≡ parked_of ks → parked_of (cond (not (not b && c)) (k ∷ requests_not_named q ks) (requests_not_named q ks)) ≡ cond b (k ∷ parked_of ks) (parked_of ks)
requests_not_named-cases q k ks true c e h = ap (λ z. cond z (k ∷ parked_of (requests_not_named q ks)) (parked_of (requests_not_named q ks))) e ∙ ap (λ zs. k ∷ zs) h
requests_not_named-cases q k ks false true e h = h
requests_not_named-cases q k ks false false e h = rw e h

pub requests_not_named-parked : (q : ℕ) (ks : List Kept) → parked_of (requests_not_named q ks) ≡ parked_of ks
requests_not_named-parked q [] = refl
requests_not_named-parked q (k ∷ ks) = requests_not_named-cases q k ks k.parked (k.ask.seq == q) refl (requests_not_named-parked q ks)

pub after-ended : (p : AdapterPhase) (c : Command) (ok : Bool) → is_ended (phase_after p c ok) ≡ is_ended p
after-ended AdapterFresh Initialize ok = refl
after-ended AdapterFresh _ ok = refl
after-ended AdapterReady ConfigurationDone ok = refl
after-ended AdapterReady _ ok = refl
after-ended AdapterConfigured Launch true = refl
after-ended AdapterConfigured Launch false = refl
after-ended AdapterConfigured _ ok = refl
after-ended AdapterParked c ok = refl
after-ended AdapterAsked c ok = refl
after-ended AdapterRunning Terminate ok = refl
after-ended AdapterRunning _ ok = refl
after-ended AdapterStopped Terminate ok = refl
after-ended AdapterStopped Resume true = refl
after-ended AdapterStopped Resume false = refl
after-ended AdapterStopped _ ok = refl
after-ended AdapterExited c ok = refl
after-ended AdapterEnded c ok = refl

pub after-parked : (p : AdapterPhase) (c : Command) (ok : Bool) → is_parked_phase (phase_after p c ok) ≡ is_parked_phase p
after-parked AdapterFresh Initialize ok = refl
after-parked AdapterFresh _ ok = refl
after-parked AdapterReady ConfigurationDone ok = refl
after-parked AdapterReady _ ok = refl
after-parked AdapterConfigured Launch true = refl
after-parked AdapterConfigured Launch false = refl
after-parked AdapterConfigured _ ok = refl
after-parked AdapterParked c ok = refl
after-parked AdapterAsked c ok = refl
after-parked AdapterRunning Terminate ok = refl
after-parked AdapterRunning _ ok = refl
after-parked AdapterStopped Terminate ok = refl
after-parked AdapterStopped Resume true = refl
after-parked AdapterStopped Resume false = refl
after-parked AdapterStopped _ ok = refl
after-parked AdapterExited c ok = refl
after-parked AdapterEnded c ok = refl

pub leaves-code : (p : AdapterPhase) (c : Command) → Leaves ≡ answer_of p c → code c ≡ 3
leaves-code p Disconnect e = refl
leaves-code AdapterFresh Initialize e = cc
leaves-code _ Initialize e = cc
leaves-code AdapterFresh Launch e = cc
leaves-code _ Launch e = cc
leaves-code AdapterFresh ConfigurationDone e = cc
leaves-code _ ConfigurationDone e = cc
leaves-code AdapterFresh Terminate e = cc
leaves-code _ Terminate e = cc
leaves-code AdapterFresh Cancel e = cc
leaves-code _ Cancel e = cc
leaves-code AdapterFresh Setter e = cc
leaves-code _ Setter e = cc
leaves-code AdapterFresh Lookup e = cc
leaves-code _ Lookup e = cc
leaves-code AdapterFresh Resume e = cc
leaves-code _ Resume e = cc
leaves-code AdapterFresh Pause e = cc
leaves-code _ Pause e = cc
leaves-code AdapterFresh Inspect e = cc
leaves-code _ Inspect e = cc
leaves-code AdapterFresh Unserved e = cc
leaves-code AdapterFresh Restart e = cc
leaves-code _ Unserved e = cc
leaves-code _ Restart e = cc

parks-parked : (c : Command) → Parks ≡ answer_of AdapterParked c → is_parked_phase AdapterParked ≡ false
parks-parked Launch e = cc
parks-parked _ e = cc

parks-asked : (c : Command) → Parks ≡ answer_of AdapterAsked c → is_parked_phase AdapterAsked ≡ false
parks-asked Launch e = cc
parks-asked _ e = cc

parks-phase : (p : AdapterPhase) (c : Command) → Parks ≡ answer_of p c → is_parked_phase p ≡ false
parks-phase AdapterParked c e = parks-parked c e
parks-phase AdapterAsked c e = parks-asked c e
parks-phase _ c e = refl

pub phase_after_happening-ended : (p : AdapterPhase) (x : Happening) → is_ended (phase_after_happening p x) ≡ is_ended p
phase_after_happening-ended AdapterRunning Stops = refl
phase_after_happening-ended AdapterRunning Exits = refl
phase_after_happening-ended AdapterRunning _ = refl
phase_after_happening-ended AdapterStopped Continues = refl
phase_after_happening-ended AdapterStopped Exits = refl
phase_after_happening-ended AdapterStopped _ = refl
phase_after_happening-ended AdapterFresh x = refl
phase_after_happening-ended AdapterReady x = refl
phase_after_happening-ended AdapterConfigured x = refl
phase_after_happening-ended AdapterParked x = refl
phase_after_happening-ended AdapterAsked x = refl
phase_after_happening-ended AdapterExited x = refl
phase_after_happening-ended AdapterEnded x = refl

phase_after_happening-parked : (p : AdapterPhase) (x : Happening) → is_parked_phase (phase_after_happening p x) ≡ is_parked_phase p
phase_after_happening-parked AdapterRunning Stops = refl
phase_after_happening-parked AdapterRunning Exits = refl
phase_after_happening-parked AdapterRunning _ = refl
phase_after_happening-parked AdapterStopped Continues = refl
phase_after_happening-parked AdapterStopped Exits = refl
phase_after_happening-parked AdapterStopped _ = refl
phase_after_happening-parked AdapterFresh x = refl
phase_after_happening-parked AdapterReady x = refl
phase_after_happening-parked AdapterConfigured x = refl
phase_after_happening-parked AdapterParked x = refl
phase_after_happening-parked AdapterAsked x = refl
phase_after_happening-parked AdapterExited x = refl
phase_after_happening-parked AdapterEnded x = refl

-- one parked request in the phases Parked and Asked, and none in another
abbrev pub IsParkedRight : AdapterModel → Type 0
IsParkedRight d = length (parked_of d.kept) ≡ one_if (is_parked_phase d.phase)

-- those that came and those kept are kept or answered
pub record Steady (d : AdapterModel) (came : List Ask) (m : Made) : Type 0 where
  pub balance : (p : Ask → Bool) → count p came + count p (asks d.kept) ≡ count p (asks m.adapter.kept) + count p (answered_in m.outs)
  pub down : NoRequests m.outs
  pub fine : m.adapter.fault ≡ None
  pub parked : IsParkedRight m.adapter
  pub leaving : is_ended m.adapter.phase ≡ true → (is_ended d.phase ≡ true) ⊎ (0 < count is_disconnect (asks d.kept))

phase_after_start-parked : (ok : Bool) → is_parked_phase (phase_after_start ok) ≡ false
phase_after_start-parked true = refl
phase_after_start-parked false = refl

phase_after_start-ended : (ok : Bool) → is_ended (phase_after_start ok) ≡ false
phase_after_start-ended true = refl
phase_after_start-ended false = refl

steady-handled : (x : Answer) (d : AdapterModel) (a : Ask) (ok : Bool) → x ≡ answer_of d.phase a.command → oldest d.kept ≡ Some a → d.fault ≡ None → IsParkedRight d → Steady d [] (handled_as x d a ok)
steady-handled Fails d a ok e o f k =
    record {
      balance = λ p. let h = oldest-balance p d.kept a o in omega arith;
      down = (tt, tt);
      fine = f;
      parked = rw (but-parked d.kept) k;
      leaving = λ l. inl l;
    }
steady-handled Succeeds d a ok e o f k =
    record {
      balance = λ p. let h = oldest-balance p d.kept a o in rw (answered-events (events_after d.phase a.command)) (omega arith);
      down = (tt, NoRequests-events (events_after d.phase a.command));
      fine = f;
      parked = rw (but-parked d.kept, after-parked d.phase a.command true) k;
      leaving = λ l. inl (sym (after-ended d.phase a.command true) ∙ l);
    }
steady-handled Tries d a ok e o f k =
    record {
      balance = λ p. let h = oldest-balance p d.kept a o in omega arith;
      down = (tt, tt);
      fine = f;
      parked = rw (but-parked d.kept, after-parked d.phase a.command ok) k;
      leaving = λ l. inl (sym (after-ended d.phase a.command ok) ∙ l);
    }
steady-handled Parks d a ok e o f k =
    record {
      balance = λ p. rw (park-asks d.kept) (omega arith);
      down = tt;
      fine = f;
      parked = let none : length (parked_of d.kept) ≡ 0 = k ∙ ap one_if (parks-phase d.phase a.command e) in let h = park-parked d.kept a o in omega arith;
      leaving = λ l. absurd (let z : false ≡ true = l in cc);
    }
steady-handled Starts_parked d a ok e o f k =
    record {
      balance = λ p. let h = oldest-balance p d.kept a o in let g = part p (λ x. x.parked) (but_oldest d.kept) in rw (answered-each ok (asks (parked_of (but_oldest d.kept)))) (omega arith);
      down = (tt, NoRequests-each ok (asks (parked_of (but_oldest d.kept))));
      fine = f;
      parked = rw (unparked-none (but_oldest d.kept), phase_after_start-parked ok) refl;
      leaving = λ l. absurd (let z : false ≡ true = sym (phase_after_start-ended ok) ∙ l in cc);
    }
steady-handled Leaves d a ok e o f k =
    record {
      balance = λ p. let h = oldest-balance p d.kept a o in rw (answered_in-append (answer_each false (asks (but_oldest d.kept))) (Response a true ∷ []), answered-each false (asks (but_oldest d.kept)), count-append p (asks (but_oldest d.kept)) (a ∷ [])) (omega arith);
      down = NoRequests-append (answer_each false (asks (but_oldest d.kept))) (Response a true ∷ []) (NoRequests-each false (asks (but_oldest d.kept))) (tt, tt);
      fine = f;
      parked = refl;
      leaving = λ l. inr (let h = oldest-balance is_disconnect d.kept a o in let c : is_disconnect a ≡ true = rw (leaves-code d.phase a.command e) refl in let one : one_if (is_disconnect a) ≡ 1 = ap one_if c in omega arith);
    }

steady-after_turn : (o : Option Ask) (d : AdapterModel) (ok : Bool) → oldest d.kept ≡ o → d.fault ≡ None → IsParkedRight d → Steady d [] (after_turn o d ok)
steady-after_turn None d ok e f k = record { balance = λ p. omega arith; down = tt; fine = f; parked = k; leaving = λ l. inl l }
steady-after_turn (Some a) d ok e f k = steady-handled (answer_of d.phase a.command) d a ok refl e f k

pub steady-turn : (d : AdapterModel) (ok : Bool) → d.fault ≡ None → IsParkedRight d → Steady d [] (adapter_model_turns d ok)
steady-turn d ok f k = steady-after_turn (oldest d.kept) d ok refl f k

pub steady-poll : (d : AdapterModel) (x : Happening) → d.fault ≡ None → IsParkedRight d → Steady d [] (adapter_model_polls d x)
steady-poll d x f k =
    record {
      balance = λ p. rw (answered-events (events_after_happening d.phase x)) (omega arith);
      down = NoRequests-events (events_after_happening d.phase x);
      fine = f;
      parked = rw (phase_after_happening-parked d.phase x) k;
      leaving = λ l. inl (sym (phase_after_happening-ended d.phase x) ∙ l);
    }

steady-nothing : (d : AdapterModel) → d.fault ≡ None → IsParkedRight d → Steady d [] (record { adapter = d; outs = [] })
steady-nothing d f k = record { balance = λ p. omega arith; down = tt; fine = f; parked = k; leaving = λ l. inl l }

-- a launch that asks for a terminal is parked
steady-launch-asks : (d : AdapterModel) (a : Ask) → is_parked_phase d.phase ≡ false → oldest d.kept ≡ Some a → d.fault ≡ None → IsParkedRight d → Steady d [] (record { adapter = record d { kept = park_oldest d.kept; phase = AdapterAsked }; outs = [] })
steady-launch-asks d a n o f k =
    record {
      balance = λ p. rw (park-asks d.kept) (omega arith);
      down = tt;
      fine = f;
      parked = let none : length (parked_of d.kept) ≡ 0 = k ∙ ap one_if n in let h = park-parked d.kept a o in omega arith;
      leaving = λ l. absurd (let z : false ≡ true = l in cc);
    }

-- configurationDone behind such a launch is answered
steady-done-asks : (d : AdapterModel) (a : Ask) → is_parked_phase d.phase ≡ true → oldest d.kept ≡ Some a → d.fault ≡ None → IsParkedRight d → Steady d [] (record { adapter = record d { kept = but_oldest d.kept; phase = AdapterAsked }; outs = Response a true ∷ [] })
steady-done-asks d a n o f k =
    record {
      balance = λ p. let h = oldest-balance p d.kept a o in omega arith;
      down = (tt, tt);
      fine = f;
      parked = rw (but-parked d.kept) (k ∙ ap one_if n);
      leaving = λ l. absurd (let z : false ≡ true = l in cc);
    }

steady-asks_terminal_as : (p : AdapterPhase) (c : Command) (d : AdapterModel) (a : Ask) → d.phase ≡ p → oldest d.kept ≡ Some a → d.fault ≡ None → IsParkedRight d → Steady d [] (asks_terminal_as p c d a)
steady-asks_terminal_as AdapterConfigured Launch d a e o f k = steady-launch-asks d a (ap is_parked_phase e) o f k
steady-asks_terminal_as AdapterParked ConfigurationDone d a e o f k = steady-done-asks d a (ap is_parked_phase e) o f k
steady-asks_terminal_as AdapterConfigured _ d a e o f k = steady-nothing d f k
steady-asks_terminal_as AdapterParked _ d a e o f k = steady-nothing d f k
steady-asks_terminal_as _ c d a e o f k = steady-nothing d f k

steady-after_asking_turn : (o : Option Ask) (d : AdapterModel) → oldest d.kept ≡ o → d.fault ≡ None → IsParkedRight d → Steady d [] (after_asking_turn o d)
steady-after_asking_turn None d o f k = steady-nothing d f k
steady-after_asking_turn (Some a) d o f k = steady-asks_terminal_as d.phase a.command d a refl o f k

-- a turn that asks for a terminal
pub steady-asks : (d : AdapterModel) → d.fault ≡ None → IsParkedRight d → Steady d [] (after_asking_turn (oldest d.kept) d)
steady-asks d f k = steady-after_asking_turn (oldest d.kept) d refl f k

-- the terminal is answered
pub steady-ends_wait : (p : AdapterPhase) (d : AdapterModel) (ok : Bool) → d.fault ≡ None → IsParkedRight d → Steady d [] (ends_wait p d ok)
steady-ends_wait AdapterAsked d ok f k =
    record {
      balance = λ p. let g = part p (λ x. x.parked) d.kept in rw (answered-each ok (asks (parked_of d.kept))) (omega arith);
      down = NoRequests-each ok (asks (parked_of d.kept));
      fine = f;
      parked = rw (unparked-none d.kept, phase_after_start-parked ok) refl;
      leaving = λ l. absurd (let z : false ≡ true = sym (phase_after_start-ended ok) ∙ l in cc);
    }
steady-ends_wait _ d ok f k = steady-nothing d f k

keeps-cases : (b : Bool) (d : AdapterModel) (a : Ask) → d.fault ≡ None → IsParkedRight d → Steady d (a ∷ []) (if b then record { adapter = record d { kept = d.kept ++ record { ask = a; parked = false } ∷ [] }; outs = [] } else record { adapter = d; outs = Response a false ∷ [] })
keeps-cases true d a f k =
    record {
      balance = λ p. rw (asks-append d.kept (record { ask = a; parked = false } ∷ []), count-append p (asks d.kept) (a ∷ [])) (omega arith);
      down = tt;
      fine = f;
      parked = rw (filter-append (λ (x : Kept). x.parked) d.kept (record { ask = a; parked = false } ∷ []), append-nil (parked_of d.kept)) k;
      leaving = λ l. inl l;
    }
keeps-cases false d a f k = record { balance = λ p. omega arith; down = (tt, tt); fine = f; parked = k; leaving = λ l. inl l }

cancelled : (d : AdapterModel) (a : Ask) (q : ℕ) → d.fault ≡ None → IsParkedRight d → Steady d (a ∷ []) (record { adapter = record d { kept = requests_not_named q d.kept }; outs = answer_each false (asks (requests_named q d.kept)) ++ Response a true ∷ [] })
cancelled d a q f k =
    record {
      balance = λ p. let g = part p (λ x. is_named q x) d.kept in rw (answered_in-append (answer_each false (asks (requests_named q d.kept))) (Response a true ∷ []), answered-each false (asks (requests_named q d.kept)), count-append p (asks (requests_named q d.kept)) (a ∷ [])) (omega arith);
      down = NoRequests-append (answer_each false (asks (requests_named q d.kept))) (Response a true ∷ []) (NoRequests-each false (asks (requests_named q d.kept))) (tt, tt);
      fine = f;
      parked = rw (requests_not_named-parked q d.kept) k;
      leaving = λ l. inl l;
    }

steady-cancels : (p : AdapterPhase) (d : AdapterModel) (a : Ask) (q : ℕ) → d.fault ≡ None → IsParkedRight d → Steady d (a ∷ []) (cancels p d a q)
steady-cancels AdapterFresh d a q f k = record { balance = λ p. omega arith; down = (tt, tt); fine = f; parked = k; leaving = λ l. inl l }
steady-cancels _ d a q f k = cancelled d a q f k

takes-cases : (b : Bool) (n : ℕ) (d : AdapterModel) (a : Ask) (q : ℕ) → d.fault ≡ None → IsParkedRight d → Steady d (a ∷ []) (if b then cancels d.phase d a q else keeps n d a)
takes-cases true n d a q f k = steady-cancels d.phase d a q f k
takes-cases false n d a q f k = keeps-cases (nat_lt (length d.kept) n) d a f k

pub steady-take : (n : ℕ) (d : AdapterModel) (a : Ask) (q : ℕ) → is_ended d.phase ≡ false → list_any (has_seq a.seq) (asks d.kept) ≡ false → d.fault ≡ None → IsParkedRight d → Steady d (a ∷ []) (takes_request n d a q)
steady-take n d a q h g f k = rw (h, g) (takes-cases (code a.command == 5) n d a q f k)
