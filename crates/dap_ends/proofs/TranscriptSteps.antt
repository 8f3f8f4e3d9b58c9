-- Each step keeps the rules of a transcript.
use Rattle.std.proofs.Common.{◌≡◌, ℕ, ◌+◌, ◌≤◌, List, [], ◌∷◌, ◌++◌, Bool, true, false, refl, sym, ap, ◌∙◌, subst, arith, length, inl, inr, Option, Some, None}
use Rattle.std.specs.Prelude.{◌⊎◌, ◌==◌, ◌&&◌, ◌||◌, if◌then◌else◌, nat_lt}
use Rattle.std.specs.List.{list_any}
use Rattle.std.proofs.lemmas.List.{append-nil}
use Rattle.std.proofs.lemmas.List.Elements.{filter-append}
use Rattle.dap_ends.specs.Messages.{Command, Launch, ConfigurationDone, Ask, Kind, Message, Request, Response, Event, one_if, code, count, has_seq, is_same, is_disconnect, requests_in, answered_in, AllRequests, NoRequests, answer_each}
use Rattle.dap_ends.specs.AdapterModel.{AdapterModel, Made, Kept, Happening, asks, oldest, parked_of, requests_named, requests_not_named, answer_of, after_turn, adapter_model_turns, adapter_model_polls, but_oldest, park_oldest, asks_terminal_as, after_asking_turn, ends_wait, takes_request, cancels, keeps, is_ended as has_left, AdapterPhase, AdapterFresh, AdapterReady, AdapterConfigured, AdapterParked, AdapterAsked, AdapterRunning, AdapterStopped, AdapterExited, AdapterEnded}
use Rattle.dap_ends.specs.ClientModel.{ClientModel, Phase, Fresh, Initializing, Configuring, answered_phase, event_phase, takes_response, client_model_takes}
use Rattle.dap_ends.specs.World.{comes_up, Turn, Poll, AskTerminal, EndWait, after_adapter, Agree}
use Rattle.dap_ends.specs.Standing.{is_initialize, AllLaunch}
use Rattle.dap_ends.specs.Transcript.{messages_of_delivery, WorldWithTranscript, transcript_step, open_next, open_after, AnswersOpen, begun_after, BegunFirst, closed_after, NothingAfter, sent_next, sent_after, heard_next, heard_after, AllInOrder}
use Rattle.dap_ends.proofs.Counts.{count-append, answered_in-append, none-counted, eqb-self, eqb-same, not-true}
use Rattle.dap_ends.proofs.AdapterModels.{Steady, steady-turn, steady-asks, steady-ends_wait, steady-poll, steady-take, requests_not_named-parked, but-parked, unparked-none}
use Rattle.dap_ends.proofs.Agrees.{after-step}
use Rattle.dap_ends.proofs.Queues.{launch-parks}
use Rattle.dap_ends.proofs.TurnKeeps.{launches-after, parks-code}
use Rattle.dap_ends.proofs.DownKeeps.{took, answered}
use Rattle.dap_ends.proofs.TranscriptMessages.{Settles, answers, nothing-append, closed-append, begun-append, first-append, each-nothing, each-begun, settles-handled, settles-poll, one-response, launch-disconnects}

true-false : true ≡ false → ⊥
true-false e = cc

-- before an initialize has succeeded
abbrev pub is_before : Phase → Bool
is_before Fresh = true
is_before Initializing = true
is_before _ = false

-- a message that is no successful initialize
abbrev pub NotBegun : Message → Type 0
NotBegun (Request a q) = Unit {0}
NotBegun (Response a ok) = (ok && is_initialize a) ≡ false
NotBegun (Event k) = Unit {0}

-- none of several
abbrev pub NoneBegun : List Message → Type 0
NoneBegun [] = Unit {0}
NoneBegun (m ∷ ms) = NotBegun m × NoneBegun ms

-- the rules so far, and what they rest on
pub record Tells (n : ℕ) (t : WorldWithTranscript) : Type 0 where
  pub agree : Agree n t.world
  pub launches : AllLaunch (parked_of t.world.adapter.kept)
  pub unanswered : (p : Ask → Bool) → count p (open_after [] t.written) ≡ count p (requests_in t.world.up) + count p (asks t.world.adapter.kept)
  pub answers : AnswersOpen [] t.written
  pub begun : begun_after false t.written ≡ false → (is_before t.world.client.phase ≡ true) × NoneBegun t.world.down
  pub first : BegunFirst false t.written
  pub closed : closed_after false t.written ≡ true → (has_left t.world.adapter.phase ≡ true) × (t.world.adapter.kept ≡ [])
  pub nothing : NothingAfter false t.written
  pub sent : sent_after 0 t.written ≤ t.world.client.last
  pub fresh : sent_after 0 t.written ≡ 0 → t.world.client.phase ≡ Fresh
  pub heard : heard_after false t.written ≡ false → (count (λ a. true) (answered_in t.world.down) ≡ 0) × (((t.world.client.phase ≡ Fresh) × (sent_after 0 t.written ≡ 0)) ⊎ ((t.world.client.phase ≡ Initializing) × (sent_after 0 t.written ≡ 1)))
  pub order : AllInOrder 0 false t.written

-- unanswered after two lists
pub open-append : (xs : List Ask) (ms ns : List Message) → open_after xs (ms ++ ns) ≡ open_after (open_after xs ms) ns
open-append xs [] ns = refl
open-append xs (m ∷ ms) ns = open-append (open_next xs m) ms ns

-- the rule on answers, over two lists
pub answers-append : (xs : List Ask) (ms ns : List Message) → AnswersOpen xs ms → AnswersOpen (open_after xs ms) ns → AnswersOpen xs (ms ++ ns)
answers-append xs [] ns h k = k
answers-append xs (m ∷ ms) ns h k = (h.0, answers-append (open_next xs m) ms ns h.1 k)

-- requests in two lists
pub sent-append : (k : ℕ) (ms ns : List Message) → sent_after k (ms ++ ns) ≡ sent_after (sent_after k ms) ns
sent-append k [] ns = refl
sent-append k (m ∷ ms) ns = sent-append (sent_next k m) ms ns

-- a response in one of two lists
pub heard-append : (b : Bool) (ms ns : List Message) → heard_after b (ms ++ ns) ≡ heard_after (heard_after b ms) ns
heard-append b [] ns = refl
heard-append b (m ∷ ms) ns = heard-append (heard_next b m) ms ns

-- the rule on numbers, over two lists
pub order-append : (k : ℕ) (b : Bool) (ms ns : List Message) → AllInOrder k b ms → AllInOrder (sent_after k ms) (heard_after b ms) ns → AllInOrder k b (ms ++ ns)
order-append k b [] ns h j = j
order-append k b (m ∷ ms) ns h j = (h.0, order-append (sent_next k m) (heard_next b m) ms ns h.1 j)

begun-parts : (a b c : Bool) → (a || (b && c)) ≡ false → (a ≡ false) × ((b && c) ≡ false)
begun-parts true b c e = (e, absurd (true-false e))
begun-parts false b c e = (refl, e)

begun-none : (b : Bool) (ms : List Message) → begun_after b ms ≡ false → (b ≡ false) × NoneBegun ms
begun-none b [] e = (e, tt)
begun-none b (Request a q ∷ ms) e = let h = begun-none b ms e in (h.0, (tt, h.1))
begun-none b (Response a ok ∷ ms) e =
    let h = begun-none (b || (ok && is_initialize a)) ms e in let k = begun-parts b ok (is_initialize a) h.0 in (k.0, (k.1, h.1))
begun-none b (Event k ∷ ms) e = let h = begun-none b ms e in (h.0, (tt, h.1))

NoneBegun-append : (ms ns : List Message) → NoneBegun ms → NoneBegun ns → NoneBegun (ms ++ ns)
NoneBegun-append [] ns h k = k
NoneBegun-append (m ∷ ms) ns h k = (h.0, NoneBegun-append ms ns h.1 k)

heard-true : (ms : List Message) → heard_after true ms ≡ true
heard-true [] = refl
heard-true (Request a q ∷ ms) = heard-true ms
heard-true (Response a ok ∷ ms) = heard-true ms
heard-true (Event k ∷ ms) = heard-true ms

heard-none : (b : Bool) (ms : List Message) → heard_after b ms ≡ false → (b ≡ false) × (count (λ a. true) (answered_in ms) ≡ 0)
heard-none b [] e = (e, refl)
heard-none b (Request a q ∷ ms) e = heard-none b ms e
heard-none b (Response a ok ∷ ms) e = absurd (true-false (sym (heard-true ms) ∙ e))
heard-none b (Event k ∷ ms) e = heard-none b ms e

-- the adapter writes no request
sent-same : (k : ℕ) (ms : List Message) → NoRequests ms → sent_after k ms ≡ k
sent-same k [] n = refl
sent-same k (Request a q ∷ ms) n = absurd n.0
sent-same k (Response a ok ∷ ms) n = sent-same k ms n.1
sent-same k (Event j ∷ ms) n = sent-same k ms n.1

order-same : (k : ℕ) (b : Bool) (ms : List Message) → NoRequests ms → AllInOrder k b ms
order-same k b [] n = tt
order-same k b (Request a q ∷ ms) n = absurd n.0
order-same k b (Response a ok ∷ ms) n = (tt, order-same k true ms n.1)
order-same k b (Event j ∷ ms) n = (tt, order-same k b ms n.1)

answered-append : (xs ys : List Message) → count (λ a. true) (answered_in (xs ++ ys)) ≡ count (λ a. true) (answered_in xs) + count (λ a. true) (answered_in ys)
answered-append xs ys = rw (answered_in-append xs ys, count-append (λ a. true) (answered_in xs) (answered_in ys)) refl

-- by a truth value
pub by-flag : (b : Bool) {P : Type 0} → (b ≡ true → P) → (b ≡ false → P) → P
by-flag true h k = h refl
by-flag false h k = k refl

-- the adapter does something
told-after_adapter : (n : ℕ) (t : WorldWithTranscript) (came : List Ask) (up : List Message) (m : Made) → Tells n t → Agree n (after_adapter (record t.world { up = up }) m) → Steady t.world.adapter came m → ((p : Ask → Bool) → count p (requests_in t.world.up) ≡ count p came + count p (requests_in up)) → Settles m → AllLaunch (parked_of m.adapter.kept) → (closed_after false t.written ≡ true → (m.outs ≡ []) × (has_left m.adapter.phase ≡ true) × (m.adapter.kept ≡ [])) → Tells n (record { world = after_adapter (record t.world { up = up }) m; written = t.written ++ m.outs })
told-after_adapter n t came up m g a s u e l c =
    let w = t.world in
    let ms = t.written in
    let ns = m.outs in
    let b = closed_after false ms in
    let same : sent_after 0 (ms ++ ns) ≡ sent_after 0 ms = sent-append 0 ms ns ∙ sent-same (sent_after 0 ms) ns s.down in
    let told = answers ns (open_after [] ms) (λ p. count p (requests_in up) + count p (asks m.adapter.kept)) s.down
    (λ p. let h = g.unanswered p in let k = s.balance p in let j = u p in omega arith)
    (λ q. let h = g.unanswered (has_seq q) in let k = g.agree.place (has_seq q) in let o = g.agree.once q in omega arith) in
    record {
      agree = a;
      launches = l;
      unanswered = λ p. rw (open-append [] ms ns) (told.1 p);
      answers = answers-append [] ms ns g.answers told.0;
      begun =
          λ k.
          let z = begun-none (begun_after false ms) ns (sym (begun-append false ms ns) ∙ k) in
          let h = g.begun z.0 in (h.0, NoneBegun-append w.down ns h.1 z.1);
      first = first-append false ms ns g.first (e.begun (begun_after false ms));
      closed =
          λ k.
          let z : closed_after b ns ≡ true = sym (closed-append false ms ns) ∙ k in
          by-flag b (λ y. let h = c y in (h.1, h.2)) (λ y. e.closed (subst (λ (x : Bool). closed_after x ns ≡ true) y z));
      nothing =
          nothing-append false ms ns g.nothing
          (by-flag b (λ y. subst (λ (xs : List Message). NothingAfter b xs) (sym (c y).0) tt) (λ y. subst (λ (x : Bool). NothingAfter x ns) (sym y) e.nothing));
      sent = let h = g.sent in omega arith;
      fresh = λ z. g.fresh (sym same ∙ z);
      heard =
          λ k.
          let z = heard-none (heard_after false ms) ns (sym (heard-append false ms ns) ∙ k) in
          let h = g.heard z.0 in let q = answered-append w.down ns in let i = h.0 in let j = z.1 in (omega arith, elim h.1 [ inl x ↦ inl (x.0, same ∙ x.1) | inr x ↦ inr (x.0, same ∙ x.1) ]);
      order = order-append 0 false ms ns g.order (order-same (sent_after 0 ms) (heard_after false ms) ns s.down);
    }

settles-none : (d : AdapterModel) → Settles (record { adapter = d; outs = [] })
settles-none d = record { nothing = tt; closed = λ k. absurd (true-false (sym k)); begun = λ b. tt }

settles-failure : (a : Ask) (d : AdapterModel) → Settles (record { adapter = d; outs = Response a false ∷ [] })
settles-failure a d = record { nothing = (refl, tt); closed = λ k. absurd (true-false (sym k)); begun = λ b. (tt, tt) }

-- a turn
pub turn-settles : (o : Option Ask) (d : AdapterModel) (ok : Bool) → oldest d.kept ≡ o → AllLaunch (parked_of d.kept) → Settles (after_turn o d ok) × AllLaunch (parked_of (after_turn o d ok).adapter.kept)
turn-settles None d ok o l = (settles-none d, l)
turn-settles (Some a) d ok o l =
    (settles-handled (answer_of d.phase a.command) d a ok refl l, launches-after (answer_of d.phase a.command) d a ok o (parks-code a.command d.phase) l)

-- a turn with nothing kept
pub quiet-turn : (d : AdapterModel) (ok : Bool) → d.kept ≡ [] → adapter_model_turns d ok ≡ record { adapter = d; outs = [] }
quiet-turn d ok e = ap (λ (ks : List Kept). after_turn (oldest ks) d ok) e

-- a turn keeps the rules
pub told-turn : (n : ℕ) (t : WorldWithTranscript) (ok : Bool) → Tells n t → Tells n (transcript_step n t (Turn ok))
told-turn n t ok g =
    let d = t.world.adapter in
    let h = turn-settles (oldest d.kept) d ok refl g.launches in
    told-after_adapter n t [] t.world.up (adapter_model_turns d ok) g (after-step n t.world (Turn ok) g.agree) (steady-turn d ok g.agree.adapter_fine g.agree.parked) (λ p. omega arith) h.0 h.1
    (λ c. let k = g.closed c in let e = quiet-turn d ok k.1 in (ap (λ (m : Made). m.outs) e, ap (λ (m : Made). has_left m.adapter.phase) e ∙ k.0, ap (λ (m : Made). m.adapter.kept) e ∙ k.1))

-- a poll
left-polls : (d : AdapterModel) (x : Happening) (p : AdapterPhase) → d.phase ≡ p → has_left p ≡ true → adapter_model_polls d x ≡ record { adapter = d; outs = [] }
left-polls d x AdapterEnded e h = rw e refl
left-polls d x AdapterFresh e h = absurd (true-false (sym h))
left-polls d x AdapterReady e h = absurd (true-false (sym h))
left-polls d x AdapterConfigured e h = absurd (true-false (sym h))
left-polls d x AdapterParked e h = absurd (true-false (sym h))
left-polls d x AdapterAsked e h = absurd (true-false (sym h))
left-polls d x AdapterRunning e h = absurd (true-false (sym h))
left-polls d x AdapterStopped e h = absurd (true-false (sym h))
left-polls d x AdapterExited e h = absurd (true-false (sym h))

-- a poll keeps them
pub told-poll : (n : ℕ) (t : WorldWithTranscript) (x : Happening) → Tells n t → Tells n (transcript_step n t (Poll x))
told-poll n t x g =
    let d = t.world.adapter in
    told-after_adapter n t [] t.world.up (adapter_model_polls d x) g (after-step n t.world (Poll x) g.agree) (steady-poll d x g.agree.adapter_fine g.agree.parked) (λ p. omega arith) (settles-poll d.phase (adapter_model_polls d x).adapter x) g.launches
    (λ c. let k = g.closed c in let e = left-polls d x d.phase refl k.0 in (ap (λ (m : Made). m.outs) e, ap (λ (m : Made). has_left m.adapter.phase) e ∙ k.0, k.1))

-- a turn that asks for a terminal
asks_terminal_as-settles : (p : AdapterPhase) (c : Command) (d : AdapterModel) (a : Ask) → a.command ≡ c → oldest d.kept ≡ Some a → AllLaunch (parked_of d.kept) → Settles (asks_terminal_as p c d a) × AllLaunch (parked_of (asks_terminal_as p c d a).adapter.kept)
asks_terminal_as-settles AdapterConfigured Launch d a e o l = (settles-none (record d { kept = park_oldest d.kept; phase = AdapterAsked }), launch-parks d.kept a (ap code e) o l)
asks_terminal_as-settles AdapterParked ConfigurationDone d a e o l = (
  one-response true a (record d { kept = but_oldest d.kept; phase = AdapterAsked }) (ap (λ (c : Command). code c == 3) e),
  rw (but-parked d.kept) l,
)
asks_terminal_as-settles AdapterConfigured _ d a e o l = (settles-none d, l)
asks_terminal_as-settles AdapterParked _ d a e o l = (settles-none d, l)
asks_terminal_as-settles _ c d a e o l = (settles-none d, l)

after_asking_turn-settles : (o : Option Ask) (d : AdapterModel) → oldest d.kept ≡ o → AllLaunch (parked_of d.kept) → Settles (after_asking_turn o d) × AllLaunch (parked_of (after_asking_turn o d).adapter.kept)
after_asking_turn-settles None d o l = (settles-none d, l)
after_asking_turn-settles (Some a) d o l = asks_terminal_as-settles d.phase a.command d a refl o l

-- the same where it asks
pub quiet-asks : (d : AdapterModel) → d.kept ≡ [] → after_asking_turn (oldest d.kept) d ≡ record { adapter = d; outs = [] }
quiet-asks d e = ap (λ (ks : List Kept). after_asking_turn (oldest ks) d) e

-- it keeps the rules
pub told-asks : (n : ℕ) (t : WorldWithTranscript) → Tells n t → Tells n (transcript_step n t AskTerminal)
told-asks n t g =
    let d = t.world.adapter in
    let h = after_asking_turn-settles (oldest d.kept) d refl g.launches in
    told-after_adapter n t [] t.world.up (after_asking_turn (oldest d.kept) d) g (after-step n t.world AskTerminal g.agree) (steady-asks d g.agree.adapter_fine g.agree.parked) (λ p. omega arith) h.0 h.1
    (λ c. let k = g.closed c in let e = quiet-asks d k.1 in (ap (λ (m : Made). m.outs) e, ap (λ (m : Made). has_left m.adapter.phase) e ∙ k.0, ap (λ (m : Made). m.adapter.kept) e ∙ k.1))

-- the terminal is answered
ends_wait-settles : (p : AdapterPhase) (d : AdapterModel) (ok : Bool) → AllLaunch (parked_of d.kept) → Settles (ends_wait p d ok) × AllLaunch (parked_of (ends_wait p d ok).adapter.kept)
ends_wait-settles AdapterAsked d ok l =
    let h = each-nothing ok (asks (parked_of d.kept)) (λ y. launch-disconnects (parked_of d.kept) l) in (
      record { nothing = h.0; closed = λ k. absurd (true-false (sym k ∙ h.1)); begun = λ b. each-begun b ok (asks (parked_of d.kept)) },
      rw (unparked-none d.kept) tt,
    )
ends_wait-settles _ d ok l = (settles-none d, l)

left-ends_wait : (d : AdapterModel) (ok : Bool) (p : AdapterPhase) → d.phase ≡ p → has_left p ≡ true → ends_wait d.phase d ok ≡ record { adapter = d; outs = [] }
left-ends_wait d ok AdapterEnded e h = rw e refl
left-ends_wait d ok _ e h = absurd (true-false (sym h))

-- it keeps the rules
pub told-ends_wait : (n : ℕ) (t : WorldWithTranscript) (ok : Bool) → Tells n t → Tells n (transcript_step n t (EndWait ok))
told-ends_wait n t ok g =
    let d = t.world.adapter in
    let h = ends_wait-settles d.phase d ok g.launches in
    told-after_adapter n t [] t.world.up (ends_wait d.phase d ok) g (after-step n t.world (EndWait ok) g.agree) (steady-ends_wait d.phase d ok g.agree.adapter_fine g.agree.parked) (λ p. omega arith) h.0 h.1
    (λ c. let k = g.closed c in let e = left-ends_wait d ok d.phase refl k.0 in (ap (λ (m : Made). m.outs) e, ap (λ (m : Made). has_left m.adapter.phase) e ∙ k.0, ap (λ (m : Made). m.adapter.kept) e ∙ k.1))

-- a request comes
abbrev UpSettles : Made → Type 0
UpSettles m = Settles m × AllLaunch (parked_of m.adapter.kept)

requests_named-settles : (d : AdapterModel) (a : Ask) (q : ℕ) → (code a.command == 5) ≡ true → AllLaunch (parked_of d.kept) → UpSettles (record { adapter = record d { kept = requests_not_named q d.kept }; outs = answer_each false (asks (requests_named q d.kept)) ++ Response a true ∷ [] })
requests_named-settles d a q e l =
    let xs = asks (requests_named q d.kept) in
    let h = each-nothing false xs (λ y. absurd (true-false (sym y))) in
    let c : is_disconnect a ≡ false = rw (eqb-same (code a.command) 5 e) refl in (
      record {
        nothing = nothing-append false (answer_each false xs) (Response a true ∷ []) h.0 (h.1, tt);
        closed = λ k. absurd (true-false (sym k ∙ closed-append false (answer_each false xs) (Response a true ∷ []) ∙ ap (λ b. b || (true && is_disconnect a)) h.1 ∙ c));
        begun = λ b. first-append b (answer_each false xs) (Response a true ∷ []) (each-begun b false xs) (tt, tt);
      },
      rw (requests_not_named-parked q d.kept) l,
    )

cancel-settles : (p : AdapterPhase) (d : AdapterModel) (a : Ask) (q : ℕ) → (code a.command == 5) ≡ true → AllLaunch (parked_of d.kept) → UpSettles (cancels p d a q)
cancel-settles AdapterFresh d a q e l = (settles-failure a d, l)
cancel-settles _ d a q e l = requests_named-settles d a q e l

keep-settles : (b : Bool) (d : AdapterModel) (a : Ask) → AllLaunch (parked_of d.kept) → UpSettles (if b then record { adapter = record d { kept = d.kept ++ record { ask = a; parked = false } ∷ [] }; outs = [] } else record { adapter = d; outs = Response a false ∷ [] })
keep-settles true d a l = (
  settles-none (record d { kept = d.kept ++ record { ask = a; parked = false } ∷ [] }),
  rw (filter-append (λ (k : Kept). k.parked) d.kept (record { ask = a; parked = false } ∷ []), append-nil (parked_of d.kept)) l,
)
keep-settles false d a l = (settles-failure a d, l)

take-settles : (b : Bool) (n : ℕ) (d : AdapterModel) (a : Ask) (q : ℕ) → (code a.command == 5) ≡ b → AllLaunch (parked_of d.kept) → UpSettles (if b then cancels d.phase d a q else keeps n d a)
take-settles true n d a q e l = cancel-settles d.phase d a q e l
take-settles false n d a q e l = keep-settles (nat_lt (length d.kept) n) d a l

-- a delivery up keeps them
pub told-up : (n : ℕ) (t : WorldWithTranscript) (up : List Message) → t.world.up ≡ up → Tells n t → Agree n (comes_up n t.world up) → Tells n (record { world = comes_up n t.world up; written = t.written ++ messages_of_delivery n t.world up })
told-up n t [] e g h = subst (λ (ms : List Message). Tells n (record { world = t.world; written = ms })) (sym (append-nil t.written)) g
told-up n t (Response a ok ∷ ms) e g h = absurd (let k : AllRequests (Response a ok ∷ ms) = subst AllRequests e g.agree.up in k.0)
told-up n t (Event j ∷ ms) e g h = absurd (let k : AllRequests (Event j ∷ ms) = subst AllRequests e g.agree.up in k.0)
told-up n t (Request a q ∷ ms) e g h =
    let w = t.world in
    let full : requests_in w.up ≡ [] → ⊥ = λ z. let k : a ∷ requests_in ms ≡ [] = sym (ap requests_in e) ∙ z in cc in
    let stands : has_left w.adapter.phase ≡ false = not-true (has_left w.adapter.phase) (λ l. full (g.agree.left l)) in
    let place = g.agree.place (has_seq a.seq) in
    let once = g.agree.once a.seq in
    let ups : (p : Ask → Bool) → count p (requests_in w.up) ≡ count p (a ∷ []) + count p (requests_in ms) = λ p. ap (λ (xs : List Message). count p (requests_in xs)) e ∙ omega arith in
    let here = ups (has_seq a.seq) in
    let self = ap one_if (eqb-self a.seq) in
    let new : list_any (has_seq a.seq) (asks w.adapter.kept) ≡ false = none-counted (has_seq a.seq) (asks w.adapter.kept) (omega arith) in
    let same : takes_request n w.adapter a q ≡ (if code a.command == 5 then cancels w.adapter.phase w.adapter a q else keeps n w.adapter a) = rw (stands, new) refl in
    let s : UpSettles (takes_request n w.adapter a q) = subst UpSettles (sym same) (take-settles (code a.command == 5) n w.adapter a q refl g.launches) in
    told-after_adapter n t (a ∷ []) ms (takes_request n w.adapter a q) g h (steady-take n w.adapter a q stands new g.agree.adapter_fine g.agree.parked) ups s.0 s.1
    (λ c. absurd (true-false (sym (g.closed c).0 ∙ stands)))

-- the client takes a message
next-before : (p : Phase) (q : ℕ) (a : Ask) (ok : Bool) → (ok && is_initialize a) ≡ false → is_before p ≡ true → is_before (answered_phase p q a ok) ≡ true
next-before Fresh q a ok e h = refl
next-before Initializing q a ok e h = fails (is_initialize a) ok e
  where
    fails : (b ok : Bool) → (ok && b) ≡ false → is_before (if b then (if ok then Configuring else Fresh) else Initializing) ≡ true
    fails true true e = absurd (true-false e)
    fails true false e = refl
    fails false ok e = refl
next-before Configuring q a ok e h = absurd (true-false (sym h))
next-before _ q a ok e h = absurd (true-false (sym h))

-- before an initialize has succeeded no event changes the phase
pub event-before : (p : Phase) (k : Kind) → is_before p ≡ true → event_phase p k ≡ p
event-before Fresh k h = refl
event-before Initializing k h = refl
event-before _ k h = absurd (true-false (sym h))

-- what a message taken changes of the rules' ground
told-takes : (n : ℕ) (t : WorldWithTranscript) (m : Message) (ms : List Message) (s : ClientModel) → t.world.down ≡ m ∷ ms → Tells n t → Agree n (record t.world { client = s; down = ms }) → s.last ≡ t.world.client.last → (is_before t.world.client.phase ≡ true → NotBegun m → is_before s.phase ≡ true) → (t.world.client.phase ≡ Fresh → s.phase ≡ Fresh) → (count (λ a. true) (answered_in (m ∷ ms)) ≡ 0 → (count (λ a. true) (answered_in ms) ≡ 0) × (is_before t.world.client.phase ≡ true → s.phase ≡ t.world.client.phase)) → Tells n (record { world = record t.world { client = s; down = ms }; written = t.written })
told-takes n t m ms s e g a l b f h =
    record {
      agree = a;
      launches = g.launches;
      unanswered = g.unanswered;
      answers = g.answers;
      begun = λ k. let z = g.begun k in let d : NoneBegun (m ∷ ms) = subst NoneBegun e z.1 in (b z.0 d.0, d.1);
      first = g.first;
      closed = g.closed;
      nothing = g.nothing;
      sent = let h = g.sent in omega arith;
      fresh = λ z. f (g.fresh z);
      heard =
          λ k.
          let z = g.heard k in
          let none : count (λ a. true) (answered_in (m ∷ ms)) ≡ 0 = subst (λ (xs : List Message). count (λ a. true) (answered_in xs) ≡ 0) e z.0 in
          let y = h none in
          (y.0, elim z.1 [ inl x ↦ inl (y.1 (ap is_before x.0) ∙ x.0, x.1) | inr x ↦ inr (y.1 (ap is_before x.0) ∙ x.0, x.1) ]);
      order = g.order;
    }

-- a delivery down keeps them
pub told-message : (n : ℕ) (t : WorldWithTranscript) (m : Message) (ms : List Message) → t.world.down ≡ m ∷ ms → Tells n t → Agree n (record t.world { client = client_model_takes t.world.client m; down = ms }) → Tells n (record { world = record t.world { client = client_model_takes t.world.client m; down = ms }; written = t.written })
told-message n t (Request a q) ms e g h = absurd (let k : NoRequests (Request a q ∷ ms) = subst NoRequests e g.agree.down in k.0)
told-message n t (Event k) ms e g h =
    told-takes n t (Event k) ms (client_model_takes t.world.client (Event k)) e g h refl (λ b z. ap is_before (event-before t.world.client.phase k b) ∙ b) (λ z. rw z refl) (λ z. (z, λ b. event-before t.world.client.phase k b))
told-message n t (Response a ok) ms e g h =
    let c = t.world.client in
    let s : takes_response c a ok ≡ answered c a ok = took (list_any (has_seq a.seq) c.asked) (list_any (is_same a) c.asked) c a ok h.client_fine in
    let good =
    told-takes n t (Response a ok) ms (answered c a ok) e g (subst (λ (x : ClientModel). Agree n (record t.world { client = x; down = ms })) s h) refl
    (λ b z. next-before c.phase c.resumer a ok z b) (λ z. rw z refl) (λ z. absurd (omega arith)) in
    subst (λ (x : ClientModel). Tells n (record { world = record t.world { client = x; down = ms }; written = t.written })) (sym s) good
