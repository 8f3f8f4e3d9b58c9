-- What each step of the pair writes: numbers in order, and answers to the adapter's requests.
use Rattle.std.proofs.Common.{◌≡◌, ℕ, ◌+◌, ◌<◌, ◌≤◌, List, [], ◌∷◌, ◌++◌, Bool, true, false, not, refl, sym, ap, ◌∙◌, subst, append_assoc, arith, length, Option, Some, None}
use Rattle.std.specs.Prelude.{◌&&◌, if◌then◌else◌, nat_lt}
use Rattle.std.specs.List.{list_any}
use Rattle.std.proofs.lemmas.List.{append-nil}
use Rattle.dap_ends.specs.Messages.{Ask, Message, Request, Response, Event, one_if, count, has_seq, is_same, requests_in, request_of, NoRequests}
use Rattle.dap_ends.specs.AdapterModel.{Made, oldest, would_start, after_asking_turn, ends_wait, adapter_model_turns, adapter_model_takes, adapter_model_polls, is_ended as has_left, asks, parked_of}
use Rattle.dap_ends.specs.ClientModel.{ClientModel, ReferenceLimit, CommandMismatch, Unmatched, answered_phase, client_model_takes, may_send, requests_without}
use Rattle.dap_ends.specs.References.{Ref, Note, Table, inspection_succeeds, all_in, references_carried, messages, given_with, given_after, table_after, table_polled}
use Rattle.dap_ends.specs.Transcript.{open_after, AnswersOpen, closed_next, closed_after, NothingAfter}
use Rattle.dap_ends.specs.Pair.{NumberedNote, WrittenNote, Pair, PairStep, PairSend, PairAnswer, PairDeliverUp, PairTurn, PairPoll, PairDeliverDown, terminal_ask, is_terminal_ask, numbered_notes, notes_written_by, has_fault, request_with_seq, sets_variable, unless_sets_variable, with_fault, pair_after_sending, request_written, reply, replies, pair_answers, pair_after_adapter, pair_takes_up, pair_comes_up, launch_seq, turn_asks, terminal_after_turn, writes_terminal_ask, pair_asks_terminal, pair_after_turn, pair_eyes, pair_takes_down, pair_comes_down, pair_happens, pair_run, pair_start, in_client_dialogue, client_dialogue, adapter_dialogue, unless_client_response, without_client_responses}
use Rattle.dap_ends.specs.PairLaws.{messages_in, AllNumbered}
use Rattle.dap_ends.proofs.Counts.{count-append, requests_in-append, taken-out, not-true, and-left}
use Rattle.dap_ends.proofs.Notes.{messages-append}
use Rattle.dap_ends.proofs.TranscriptMessages.{closed-append}
use Rattle.dap_ends.proofs.TranscriptSteps.{open-append, answers-append}
use Rattle.dap_ends.proofs.PairNotes.{messages_in-append, client_dialogue-append, adapter_dialogue-append, adapter_dialogue-numbered, requests_in-numbered, quiet-turns, quiet-asking_some, quiet-ends_wait, quiet-polls, quiet-takes}
use Rattle.dap_ends.proofs.PairSteps.{response-taken, request-taken}
use Rattle.dap_ends.proofs.PairSchedules.{Follows, follows-step, follows-start, follows-tells}
use Rattle.dap_ends.proofs.OwnRequests.{Owns, asks-phase, own-few, kept-once, with-kept, same-self, new-next, answers-next}

true-false : true ≡ false → ⊥
true-false e = cc

-- how many lines a side has
abbrev pub by_client_in : List WrittenNote → ℕ
by_client_in [] = 0
by_client_in (l ∷ ls) = one_if l.by_client + by_client_in ls

abbrev pub by_adapter_in : List WrittenNote → ℕ
by_adapter_in [] = 0
by_adapter_in (l ∷ ls) = one_if (not l.by_client) + by_adapter_in ls

-- numbers over two lists
pub numbered-append : (i j : ℕ) (xs ys : List WrittenNote) → AllNumbered i j xs → AllNumbered (i + by_client_in xs) (j + by_adapter_in xs) ys → AllNumbered i j (xs ++ ys)
numbered-append i j [] ys h k = let a : i + 0 ≡ i = omega arith in let b : j + 0 ≡ j = omega arith in subst (λ (x : ℕ). AllNumbered x j ys) a (subst (λ (x : ℕ). AllNumbered (i + 0) x ys) b k)
numbered-append i j (l ∷ ls) ys h k =
    let a : i + (one_if l.by_client + by_client_in ls) ≡ (i + one_if l.by_client) + by_client_in ls = omega arith in
    let b : j + (one_if (not l.by_client) + by_adapter_in ls) ≡ (j + one_if (not l.by_client)) + by_adapter_in ls = omega arith in (
      h.0,
      h.1,
      numbered-append (i + one_if l.by_client) (j + one_if (not l.by_client)) ls ys h.2
          (subst (λ (x : ℕ). AllNumbered x ((j + one_if (not l.by_client)) + by_adapter_in ls) ys) a (subst (λ (x : ℕ). AllNumbered (i + (one_if l.by_client + by_client_in ls)) x ys) b k)),
    )

pub client-append : (xs ys : List WrittenNote) → by_client_in (xs ++ ys) ≡ by_client_in xs + by_client_in ys
client-append [] ys = omega arith
client-append (x ∷ xs) ys = let h = client-append xs ys in omega arith

pub adapter-append : (xs ys : List WrittenNote) → by_adapter_in (xs ++ ys) ≡ by_adapter_in xs + by_adapter_in ys
adapter-append [] ys = omega arith
adapter-append (x ∷ xs) ys = let h = adapter-append xs ys in omega arith

-- the adapter's messages without a request
notes-numbered : (i k : ℕ) (refs : List Ref) (ms : List Message) → NoRequests ms → AllNumbered i k (notes_written_by false (numbered_notes k refs ms))
notes-numbered i k refs [] n = tt
notes-numbered i k refs (Request a q ∷ ms) n = absurd n.0
notes-numbered i k refs (Response a ok ∷ ms) n = let e : i ≡ i + 0 = omega arith in (refl, tt, subst (λ (x : ℕ). AllNumbered x (k + 1) (notes_written_by false (numbered_notes (k + 1) refs ms))) e (notes-numbered i (k + 1) refs ms n.1))
notes-numbered i k refs (Event j ∷ ms) n = let e : i ≡ i + 0 = omega arith in (refl, tt, subst (λ (x : ℕ). AllNumbered x (k + 1) (notes_written_by false (numbered_notes (k + 1) refs ms))) e (notes-numbered i (k + 1) refs ms n.1))

notes-client : (k : ℕ) (refs : List Ref) (ms : List Message) → by_client_in (notes_written_by false (numbered_notes k refs ms)) ≡ 0
notes-client k refs [] = refl
notes-client k refs (m ∷ ms) = let h = notes-client (k + 1) refs ms in omega arith

notes-adapter : (k : ℕ) (refs : List Ref) (ms : List Message) → by_adapter_in (notes_written_by false (numbered_notes k refs ms)) ≡ length ms
notes-adapter k refs [] = refl
notes-adapter k refs (m ∷ ms) = let h = notes-adapter (k + 1) refs ms in omega arith

-- the adapter's requests that the client has not answered
abbrev pub OpenCount : Pair → (Ask → Bool) → ℕ
OpenCount w p = count p (requests_in (messages_in w.down)) + count p w.incoming

abbrev pub OpenAt : Pair → List Ask → Type 0
OpenAt w xs = (p : Ask → Bool) → count p xs ≡ OpenCount w p

-- each request of the adapter is written while no disconnect has succeeded
abbrev pub OwnOpenAt : Bool → Bool → Message → Type 0
OwnOpenAt c true m = Unit {0}
OwnOpenAt c false (Request a q) = c ≡ false
OwnOpenAt c false (Response a ok) = Unit {0}
OwnOpenAt c false (Event k) = Unit {0}

abbrev pub OwnOpen : Bool → List WrittenNote → Type 0
OwnOpen c [] = Unit {0}
OwnOpen c (l ∷ ls) = OwnOpenAt c l.by_client l.numbered.note.message × OwnOpen (closed_after c (messages (client_dialogue (l ∷ [])))) ls

-- over two lists
closed-split : (c : Bool) (x : WrittenNote) (xs : List WrittenNote) → closed_after c (messages (client_dialogue (x ∷ xs))) ≡ closed_after (closed_after c (messages (client_dialogue (x ∷ [])))) (messages (client_dialogue xs))
closed-split c x xs = ap (λ (zs : List Note). closed_after c (messages zs)) (client_dialogue-append (x ∷ []) xs) ∙ ap (λ (zs : List Message). closed_after c zs) (messages-append (client_dialogue (x ∷ [])) (client_dialogue xs)) ∙ closed-append c (messages (client_dialogue (x ∷ []))) (messages (client_dialogue xs))

own-append : (c : Bool) (xs ys : List WrittenNote) → OwnOpen c xs → OwnOpen (closed_after c (messages (client_dialogue xs))) ys → OwnOpen c (xs ++ ys)
own-append c [] ys h k = k
own-append c (x ∷ xs) ys h k = (h.0, own-append (closed_after c (messages (client_dialogue (x ∷ [])))) xs ys h.1 (subst (λ (b : Bool). OwnOpen b ys) (closed-split c x xs) k))

-- what a step writes
pub record Wrote (w v : Pair) : Type 0 where
  pub more : List WrittenNote
  pub written : v.written ≡ w.written ++ more
  pub numbered : AllNumbered w.client.last w.used more
  pub last : v.client.last ≡ w.client.last + by_client_in more
  pub used : v.used ≡ w.used + by_adapter_in more
  pub back : (xs : List Ask) → OpenAt w xs → AnswersOpen xs (adapter_dialogue more) × OpenAt v (open_after xs (adapter_dialogue more))
  pub own : (c : Bool) → (closed_after c (messages (client_dialogue more)) ≡ true → has_left v.adapter.phase ≡ true) → OwnOpen c more

-- the adapter's requests are few
pub open-few : (w : Pair) → Owns w → (p : Ask → Bool) → OpenCount w p ≤ 1
open-few w g p = let h = g.place p in let k = own-few w g p in omega arith

-- nothing
wrote-nothing : (w v : Pair) → v.written ≡ w.written → v.client.last ≡ w.client.last → v.used ≡ w.used → ((p : Ask → Bool) → OpenCount w p ≡ OpenCount v p) → Wrote w v
wrote-nothing w v e l u o =
    record {
      more = [];
      written = e ∙ sym (append-nil w.written);
      numbered = tt;
      last = l ∙ omega arith;
      used = u ∙ omega arith;
      back = λ xs h. (tt, λ p. h p ∙ o p);
      own = λ c h. tt;
    }

pub wrote-same : (w : Pair) → Wrote w w
wrote-same w = wrote-nothing w w refl refl refl (λ p. refl)

-- the adapter's messages close nothing that its requests stand behind
notes-own : (c : Bool) (k : ℕ) (refs : List Ref) (ms : List Message) → NoRequests ms → OwnOpen c (notes_written_by false (numbered_notes k refs ms))
notes-own c k refs [] n = tt
notes-own c k refs (Request a q ∷ ms) n = absurd n.0
notes-own c k refs (Response a ok ∷ ms) n = (tt, notes-own (closed_next c (Response a ok)) (k + 1) refs ms n.1)
notes-own c k refs (Event j ∷ ms) n = (tt, notes-own c (k + 1) refs ms n.1)

after_adapter-open : (w : Pair) (m : Made) (refs : List Ref) (t : Table) → NoRequests m.outs → (p : Ask → Bool) → OpenCount w p ≡ OpenCount (pair_after_adapter w m refs t) p
after_adapter-open w m refs t q p =
    sym (rw (messages_in-append w.down (numbered_notes w.used refs m.outs), requests_in-append (messages_in w.down) (messages_in (numbered_notes w.used refs m.outs)), requests_in-numbered w.used refs m.outs q, append-nil (requests_in (messages_in w.down))) refl)

-- a call of the adapter
wrote-after_adapter : (w v : Pair) (m : Made) (refs : List Ref) (t : Table) → NoRequests m.outs → v.written ≡ w.written → v.client.last ≡ w.client.last → v.used ≡ w.used → ((p : Ask → Bool) → OpenCount w p ≡ OpenCount v p) → Wrote w (pair_after_adapter v m refs t)
wrote-after_adapter w v m refs t q e l u o =
    let ls = notes_written_by false (numbered_notes v.used refs m.outs) in
    let a = notes-client v.used refs m.outs in
    let b = notes-adapter v.used refs m.outs in
    record {
      more = ls;
      written = ap (λ zs. zs ++ ls) e;
      numbered = subst (λ (k : ℕ). AllNumbered w.client.last k ls) u (notes-numbered w.client.last v.used refs m.outs q);
      last = l ∙ omega arith;
      used = omega arith;
      back = λ xs h. let n = adapter_dialogue-numbered v.used refs m.outs q in rw n (tt, λ p. h p ∙ o p ∙ after_adapter-open v m refs t q p);
      own = λ c h. notes-own c v.used refs m.outs q;
    }

-- the client's request
wrote-after_sending : (w : Pair) (c : _) (i : List ℕ) (q : ℕ) (wanted : Bool) (refs : List Ref) → Wrote w (pair_after_sending w c i q wanted refs)
wrote-after_sending w c i q wanted refs =
    record {
      more = record { by_client = true; numbered = request_written w c i q refs } ∷ [];
      written = refl;
      numbered = (refl, refl, tt);
      last = omega arith;
      used = omega arith;
      back = λ xs h. (tt, h);
      own = λ c h. (tt, tt);
    }

-- its response to a request of the adapter
wrote-reply : (w v : Pair) (a : Ask) (ok : Bool) → v.written ≡ w.written → v.client.last ≡ w.client.last → v.used ≡ w.used → ((p : Ask → Bool) → OpenCount w p ≡ one_if (p a) + OpenCount v p) → ((p : Ask → Bool) → OpenCount w p ≤ 1) → Wrote w (replies v a ok)
wrote-reply w v a ok e l u o f =
    record {
      more = record { by_client = true; numbered = reply v a ok } ∷ [];
      written = ap (λ zs. zs ++ record { by_client = true; numbered = reply v a ok } ∷ []) e;
      numbered = (ap (λ k. k + 1) l, tt, tt);
      last = ap (λ k. k + 1) l ∙ omega arith;
      used = u ∙ omega arith;
      back =
          λ xs h.
          let here = o (is_same a) in
          let all = h (is_same a) in
          let one = ap one_if (same-self a) in
          let there : 0 < count (is_same a) xs = omega arith in
          let few : count (has_seq a.seq) xs ≤ 1 = let y = h (has_seq a.seq) in let z = f (has_seq a.seq) in omega arith in
          ((there, tt), λ p. let t = taken-out p a xs few there in let y = h p in let z = o p in omega arith);
      own = λ c h. (tt, tt);
    }

-- the adapter's request
wrote-asks : (w : Pair) (m : Made) → NoRequests m.outs → has_left m.adapter.phase ≡ false → Owns w → Wrote w (writes_terminal_ask (pair_after_adapter w m [] w.table))
wrote-asks w m q d g =
    let v = pair_after_adapter w m [] w.table in
    let x = terminal_ask (v.used + 1) in
    let l : WrittenNote = record { by_client = false; numbered = record { seq = v.used + 1; note = record { message = Request x 0; refs = [] } } } in
    let ls = notes_written_by false (numbered_notes w.used [] m.outs) in
    let a = notes-client w.used [] m.outs in
    let b = notes-adapter w.used [] m.outs in
    let k : w.used + length m.outs ≡ w.used + by_adapter_in ls = ap (λ j. w.used + j) (sym b) in
    let n : adapter_dialogue (ls ++ l ∷ []) ≡ Request x 0 ∷ [] = adapter_dialogue-append ls (l ∷ []) ∙ ap (λ zs. zs ++ Request x 0 ∷ []) (adapter_dialogue-numbered w.used [] m.outs q) in
    record {
      more = ls ++ l ∷ [];
      written = append_assoc w.written ls (l ∷ []);
      numbered = numbered-append w.client.last w.used ls (l ∷ []) (notes-numbered w.client.last w.used [] m.outs q) (ap (λ j. j + 1) k, refl, tt);
      last = let y = client-append ls (l ∷ []) in omega arith;
      used = let y = adapter-append ls (l ∷ []) in omega arith;
      back =
          λ xs h.
          let z : count (has_seq x.seq) xs ≡ 0 = let y = h (has_seq x.seq) in let f = g.place (has_seq x.seq) in let s = g.new x.seq (omega arith) in omega arith in
          rw n ((z, tt), λ p. let y = h p in let o = after_adapter-open w m [] w.table q p in rw (count-append p xs (x ∷ []), messages_in-append v.down _, requests_in-append (messages_in v.down) _, count-append p (requests_in (messages_in v.down)) (x ∷ [])) (omega arith));
      own =
          λ c h.
          own-append c ls (l ∷ []) (notes-own c w.used [] m.outs q) (
            not-true (closed_after c (messages (client_dialogue ls)))
                (λ y. true-false (sym (h (ap (λ (zs : List Note). closed_after c (messages zs)) (client_dialogue-append ls (l ∷ []) ∙ append-nil (client_dialogue ls)) ∙ y)) ∙ d)),
            tt,
          );
    }

-- by a test
wrote-if : (b : Bool) (w u v : Pair) → Wrote w u → Wrote w v → Wrote w (if b then u else v)
wrote-if true w u v g h = g
wrote-if false w u v g h = h

-- the client has used no more numbers after a message
takes-last : (s : ClientModel) (m : Message) → (client_model_takes s m).last ≡ s.last
takes-last s (Request a q) = refl
takes-last s (Event k) = refl
takes-last s (Response a ok) = answered-last (list_any (has_seq a.seq) s.asked) (list_any (is_same a) s.asked)
  where
    answered-last : (b c : Bool) → (if b then (if c then record s { phase = answered_phase s.phase s.resumer a ok; asked = requests_without a.seq s.asked } else record s { fault = Some CommandMismatch }) else record s { fault = Some Unmatched }).last ≡ s.last
    answered-last true true = refl
    answered-last true false = refl
    answered-last false c = refl

wrote-answers : (w : Pair) (q : ℕ) (o : Option Ask) (ok : Bool) → request_with_seq q w.incoming ≡ o → Owns w → Wrote w (pair_answers w o ok)
wrote-answers w q None ok e g = wrote-same w
wrote-answers w q (Some a) ok e g =
    wrote-reply w (record w { incoming = requests_without a.seq w.incoming }) a ok refl refl refl
    (λ p. let t = taken-out p a w.incoming (kept-once w g (has_seq a.seq)) (with-kept q a w.incoming e) in omega arith) (open-few w g)

wrote-takes_up : (n : ℕ) (w : Pair) (m : NumberedNote) (x : Message) (ms : List NumberedNote) (starts : Bool) → m.note.message ≡ x → w.up ≡ m ∷ ms → Owns w → Wrote w (pair_takes_up n (record w { up = ms }) x starts)
wrote-takes_up n w m (Request a q) ms starts e u g = wrote-after_adapter w (record w { up = ms }) (adapter_model_takes n w.adapter (Request a q)) [] w.table (quiet-takes n w.adapter a q) refl refl refl (λ p. refl)
wrote-takes_up n w m (Response a ok) ms starts e u g =
    let h = answers-next w m (Response a ok) ms e u g in
    rw (response-taken (record w { up = ms }) a ok starts h.0 h.1)
    (wrote-after_adapter w (record w { up = ms; asked = requests_without a.seq w.asked }) (ends_wait w.adapter.phase w.adapter (ok && starts)) [] w.table (quiet-ends_wait w.adapter.phase w.adapter (ok && starts)) refl refl refl (λ p. refl))
wrote-takes_up n w m (Event k) ms starts e u g = wrote-nothing w (record w { up = ms }) refl refl refl (λ p. refl)

wrote-up : (n : ℕ) (w : Pair) (up : List NumberedNote) (starts : Bool) → w.up ≡ up → Owns w → Wrote w (pair_comes_up n w up starts)
wrote-up n w [] starts u g = wrote-same w
wrote-up n w (m ∷ ms) starts u g = wrote-takes_up n w m m.note.message ms starts refl u g

wrote-asking : (o : Option Ask) (w : Pair) → turn_asks w o ≡ true → Owns w → Wrote w (writes_terminal_ask (pair_after_adapter w (after_asking_turn o w.adapter) [] w.table))
wrote-asking None w e g = absurd (true-false (sym e))
wrote-asking (Some a) w e g =
    let s = and-left (would_start w.adapter.phase a.command) (w.terminal && w.wants (launch_seq a.command a (asks (parked_of w.adapter.kept)))) e in
    wrote-asks w (after_asking_turn (Some a) w.adapter) (quiet-asking_some w.adapter a) (ap has_left (asks-phase w.adapter.phase a.command w.adapter a s)) g

wrote-turn : (b : Bool) (r : ℕ) (w : Pair) (ok : Bool) (more : List Bool) (named : List Ref) → turn_asks w (oldest w.adapter.kept) ≡ b → Owns w → Wrote w (if b then pair_asks_terminal w else pair_after_turn r w ok more named)
wrote-turn true r w ok more named e g = wrote-asking (oldest w.adapter.kept) w e g
wrote-turn false r w ok more named e g =
    let o = inspection_succeeds r w.table more named (oldest w.adapter.kept) ok in
    wrote-after_adapter w (record w { terminal = terminal_after_turn w.adapter.phase (oldest w.adapter.kept) w.wants w.terminal }) (adapter_model_turns w.adapter o) named (table_after (oldest w.adapter.kept) w.adapter.phase o w.table more) (quiet-turns w.adapter o) refl refl refl (λ p. refl)

-- what comes down first
down-open : (w : Pair) (m : NumberedNote) (x : Message) (ms : List NumberedNote) → m.note.message ≡ x → w.down ≡ m ∷ ms → (p : Ask → Bool) → OpenCount w p ≡ count p (request_of x ++ requests_in (messages_in ms)) + count p w.incoming
down-open w m x ms e u p = ap (λ (zs : List NumberedNote). count p (requests_in (messages_in zs)) + count p w.incoming) u ∙ ap (λ (y : Message). count p (request_of y ++ requests_in (messages_in ms)) + count p w.incoming) e

wrote-request : (b : Bool) (w : Pair) (m : NumberedNote) (a : Ask) (q : ℕ) (ms : List NumberedNote) → m.note.message ≡ Request a q → w.down ≡ m ∷ ms → Owns w → Wrote w (if b then record w { down = ms; incoming = w.incoming ++ a ∷ [] } else replies (record w { down = ms }) a false)
wrote-request true w m a q ms e u g =
    wrote-nothing w (record w { down = ms; incoming = w.incoming ++ a ∷ [] }) refl refl refl (λ p. let h = down-open w m (Request a q) ms e u p in rw (count-append p w.incoming (a ∷ [])) (omega arith))
wrote-request false w m a q ms e u g =
    wrote-reply w (record w { down = ms }) a false refl refl refl (λ p. let h = down-open w m (Request a q) ms e u p in omega arith) (open-few w g)

wrote-report : (b : Bool) (w : Pair) (m : NumberedNote) (x : Message) (ms : List NumberedNote) → m.note.message ≡ x → request_of x ≡ [] → w.down ≡ m ∷ ms → Wrote w (if b then with_fault (record w { down = ms }) ReferenceLimit else record w { down = ms; client = client_model_takes w.client x; given = given_after (pair_eyes w) x m.note.refs })
wrote-report true w m x ms e n u = wrote-nothing w _ refl refl refl (λ p. down-open w m x ms e u p ∙ rw n refl)
wrote-report false w m x ms e n u = wrote-nothing w _ refl (takes-last w.client x) refl (λ p. down-open w m x ms e u p ∙ rw n refl)

wrote-takes_down : (n r : ℕ) (w : Pair) (m : NumberedNote) (x : Message) (ms : List NumberedNote) → m.note.message ≡ x → w.down ≡ m ∷ ms → Owns w → Wrote w (pair_takes_down n r (record w { down = ms }) x m.note.refs)
wrote-takes_down n r w m (Request a q) ms e u g =
    rw (request-taken n (record w { down = ms }) a (new-next w m (Request a q) ms e u g)) (wrote-request (is_terminal_ask a && (w.announced && nat_lt (length w.incoming) n)) w m a q ms e u g)
wrote-takes_down n r w m (Response a ok) ms e u g = wrote-report (nat_lt r (length (given_with (pair_eyes w) (Response a ok) m.note.refs))) w m (Response a ok) ms e refl u
wrote-takes_down n r w m (Event k) ms e u g = wrote-report (nat_lt r (length (given_with (pair_eyes w) (Event k) m.note.refs))) w m (Event k) ms e refl u

wrote-down : (n r : ℕ) (w : Pair) (down : List NumberedNote) → w.down ≡ down → Owns w → Wrote w (pair_comes_down n r w down)
wrote-down n r w [] u g = wrote-same w
wrote-down n r w (m ∷ ms) u g = wrote-takes_down n r w m m.note.message ms refl u g

-- each step
pub wrote-step : (n r : ℕ) (w : Pair) (x : PairStep) → Owns w → Wrote w (pair_happens n r w x)
wrote-step n r w (PairSend c i q wanted refs) g =
    wrote-if (has_fault w.client.fault) w w _ (wrote-same w) (wrote-if (all_in w.given (references_carried c refs) && may_send n w.client c) w _ w (wrote-after_sending w c i q wanted (references_carried c refs)) (wrote-same w))
wrote-step n r w (PairAnswer q ok) g = wrote-if (has_fault w.client.fault) w w _ (wrote-same w) (wrote-answers w q (request_with_seq q w.incoming) ok refl g)
wrote-step n r w (PairDeliverUp starts) g = wrote-up n w w.up starts refl g
wrote-step n r w (PairTurn ok more named) g =
    wrote-turn (turn_asks w (oldest w.adapter.kept)) r w ok (unless_sets_variable (sets_variable (oldest w.adapter.kept)) more) (unless_sets_variable (sets_variable (oldest w.adapter.kept)) named) refl g
wrote-step n r w (PairPoll x) g = wrote-after_adapter w w (adapter_model_polls w.adapter x) [] (table_polled w.adapter.phase x w.table) (quiet-polls w.adapter x) refl refl refl (λ p. refl)
wrote-step n r w PairDeliverDown g = wrote-if (has_fault w.client.fault) w w _ (wrote-same w) (wrote-down n r w w.down refl g)

-- the rules so far
pub record Writes (n r : ℕ) (w : Pair) : Type 0 where
  pub follows : Follows n r w
  pub numbered : AllNumbered 0 0 w.written
  pub client : by_client_in w.written ≡ w.client.last
  pub adapter : by_adapter_in w.written ≡ w.used
  pub unanswered : OpenAt w (open_after [] (adapter_dialogue w.written))
  pub answers : AnswersOpen [] (adapter_dialogue w.written)
  pub own : OwnOpen false w.written

-- each step keeps them
pub writes-step : (n r : ℕ) (w : Pair) (x : PairStep) → Writes n r w → Writes n r (pair_happens n r w x)
writes-step n r w x g =
    let v = pair_happens n r w x in
    let h = wrote-step n r w x g.follows.owns in
    let f = follows-step n r w x g.follows in
    let t = follows-tells n r v f in
    let e = h.written in
    let b = h.back (open_after [] (adapter_dialogue w.written)) g.unanswered in
    let backs : adapter_dialogue v.written ≡ adapter_dialogue w.written ++ adapter_dialogue h.more = ap adapter_dialogue e ∙ adapter_dialogue-append w.written h.more in
    let told : messages (client_dialogue v.written) ≡ messages (client_dialogue w.written) ++ messages (client_dialogue h.more) = ap (λ (zs : List WrittenNote). messages (client_dialogue zs)) e ∙ ap messages (client_dialogue-append w.written h.more) ∙ messages-append (client_dialogue w.written) (client_dialogue h.more) in
    record {
      follows = f;
      numbered = subst (λ (zs : List WrittenNote). AllNumbered 0 0 zs) (sym e) (numbered-append 0 0 w.written h.more g.numbered (subst (λ (k : ℕ). AllNumbered k (0 + by_adapter_in w.written) h.more) (sym g.client ∙ zero-plus (by_client_in w.written)) (subst (λ (k : ℕ). AllNumbered w.client.last k h.more) (sym g.adapter ∙ zero-plus (by_adapter_in w.written)) h.numbered)));
      client = let y = ap by_client_in e in let z = client-append w.written h.more in let k = g.client in let l = h.last in omega arith;
      adapter = let y = ap by_adapter_in e in let z = adapter-append w.written h.more in let k = g.adapter in let l = h.used in omega arith;
      unanswered = subst (λ (zs : List Message). OpenAt v (open_after [] zs)) (sym backs) (subst (λ (zs : List Ask). OpenAt v zs) (sym (open-append [] (adapter_dialogue w.written) (adapter_dialogue h.more))) b.1);
      answers = subst (λ (zs : List Message). AnswersOpen [] zs) (sym backs) (answers-append [] (adapter_dialogue w.written) (adapter_dialogue h.more) g.answers b.0);
      own =
          subst (λ (zs : List WrittenNote). OwnOpen false zs) (sym e)
          (own-append false w.written h.more g.own
          (h.own (closed_after false (messages (client_dialogue w.written))) (λ c. (t.closed (ap (λ (zs : List Message). closed_after false zs) told ∙ closed-append false (messages (client_dialogue w.written)) (messages (client_dialogue h.more)) ∙ c)).0)));
    }
  where
    zero-plus : (k : ℕ) → k ≡ 0 + k
    zero-plus k = omega arith

pub writes-run : (n r : ℕ) (ss : List PairStep) (w : Pair) → Writes n r w → Writes n r (pair_run n r ss w)
writes-run n r [] w g = g
writes-run n r (s ∷ ss) w g = writes-run n r ss (pair_happens n r w s) (writes-step n r w s g)

-- what holds in every schedule
pub writes : (n r : ℕ) (ss : List PairStep) → Writes n r (pair_run n r ss pair_start)
writes n r ss = writes-run n r ss pair_start (record { follows = follows-start n r; numbered = tt; client = refl; adapter = refl; unanswered = λ p. refl; answers = tt; own = tt })

nothing-line : (c : Bool) (m : Message) (refs : List Ref) (b : Bool) (ls : List WrittenNote) → ((d : Bool) → NothingAfter d (messages (client_dialogue ls)) → OwnOpen d ls → NothingAfter d (without_client_responses ls)) → NothingAfter b (messages (in_client_dialogue c m refs ++ client_dialogue ls)) → OwnOpenAt b c m × OwnOpen (closed_after b (messages (in_client_dialogue c m refs ++ []))) ls → NothingAfter b (unless_client_response c m ++ without_client_responses ls)
nothing-line true (Request a q) refs b ls r h o = (h.0, r b h.1 o.1)
nothing-line true (Response a ok) refs b ls r h o = r b h o.1
nothing-line true (Event k) refs b ls r h o = r b h o.1
nothing-line false (Request a q) refs b ls r h o = (o.0, r b h o.1)
nothing-line false (Response a ok) refs b ls r h o = (h.0, r (closed_next b (Response a ok)) h.1 o.1)
nothing-line false (Event k) refs b ls r h o = (h.0, r b h.1 o.1)

-- behind a disconnect's success comes nothing but responses of the client
pub nothing-without_client_responses : (b : Bool) (ls : List WrittenNote) → NothingAfter b (messages (client_dialogue ls)) → OwnOpen b ls → NothingAfter b (without_client_responses ls)
nothing-without_client_responses b [] h o = tt
nothing-without_client_responses b (l ∷ ls) h o = nothing-line l.by_client l.numbered.note.message l.numbered.note.refs b ls (λ d x y. nothing-without_client_responses d ls x y) h o
