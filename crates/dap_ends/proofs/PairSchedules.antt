-- Each schedule of the pair is followed by one of the model without the adapter's requests and without references.
use Rattle.std.proofs.Common.{◌≡◌, ℕ, ◌≤◌, List, [], ◌∷◌, ◌++◌, Bool, true, false, refl, sym, ap, ◌∙◌, subst, arith, length, inl, inr, Option, Some, None}
use Rattle.std.specs.Prelude.{◌⊎◌, ◌&&◌, if◌then◌else◌, nat_lt}
use Rattle.std.proofs.lemmas.List.{append-nil}
use Rattle.std.proofs.lemmas.Bool.Decides.{nat_tests}
use Rattle.dap_ends.specs.Messages.{Ask, Message, Request, Response, Event}
use Rattle.dap_ends.specs.AdapterModel.{oldest}
use Rattle.dap_ends.specs.ClientModel.{ClientModel, ClientFault, ReferenceLimit, client_model_start, client_model_takes}
use Rattle.dap_ends.specs.World.{Step, DeliverDown as PlainDown}
use Rattle.dap_ends.specs.References.{Ref, Note, RefWorld, RefStep, RefDeliverDown, RefUseNumber, plain_world, messages, given_with, ref_happens, ref_run}
use Rattle.dap_ends.specs.Laws.{KeepsLimit}
use Rattle.dap_ends.specs.Transcript.{WorldWithTranscript, transcript_start, transcript_run, transcript_step}
use Rattle.dap_ends.specs.Pair.{NumberedNote, Pair, PairStep, pair_start, pair_happens, pair_comes_down, pair_takes_down, pair_eyes, pair_takes_report, with_fault, has_fault, is_terminal_ask, request_with_seq, turn_asks, sets_variable, reports_down, client_dialogue, client_world, client_world_with, PairSend, PairAnswer, PairDeliverUp, PairTurn, PairPoll, PairDeliverDown}
use Rattle.dap_ends.proofs.Shadows.{told, shadow, step-same, run-append, NeedsLimit}
use Rattle.dap_ends.proofs.TranscriptSteps.{Tells}
use Rattle.dap_ends.proofs.Transcripts.{tells}
use Rattle.dap_ends.proofs.PairSteps.{echo, echo_up, echo_takes, echo_turn, echo_answer, echo_takes_down, echo_down, IsAdapters, adapter-client_world, adapter-client, pair-client_world}
use Rattle.dap_ends.proofs.OwnRequests.{Owns, next-answers, next-new, owns-step}

true-false : true ≡ false → ⊥
true-false e = cc

-- a schedule of that model that writes the same, with a client that is the pair's while no fault has closed it
pub record Follows (n r : ℕ) (w : Pair) : Type 0 where
  pub steps : List Step
  pub client : ClientModel
  pub same : transcript_run n steps transcript_start ≡ told (client_world_with client w)
  pub fine : w.client.fault ≡ None → client ≡ w.client
  pub fault : (w.client.fault ≡ None) ⊎ (w.client.fault ≡ Some ReferenceLimit)
  pub owns : Owns w

-- each step keeps its limit where it must
abbrev NeedsAll : ℕ → ℕ → List RefStep → RefWorld → Type 0
NeedsAll n r [] u = Unit {0}
NeedsAll n r (x ∷ xs) u = NeedsLimit r u x × NeedsAll n r xs (ref_happens n r u x)

run-told : (n r : ℕ) (rs : List RefStep) (u : RefWorld) → NeedsAll n r rs u → (ps : List Step) × (transcript_run n ps (told u) ≡ told (ref_run n r rs u))
run-told n r [] u l = ([], refl)
run-told n r (x ∷ xs) u l =
    let rest = run-told n r xs (ref_happens n r u x) l.1 in (
      shadow n r u x ++ rest.0,
      run-append n (shadow n r u x) rest.0 (told u) ∙ ap (λ t. transcript_run n rest.0 t) (step-same n r u x l.0) ∙ rest.1,
    )

go-on : (n r : ℕ) (qs : List Step) (u v : RefWorld) (rs : List RefStep) → transcript_run n qs transcript_start ≡ told u → v ≡ ref_run n r rs u → NeedsAll n r rs u → (ps : List Step) × (transcript_run n ps transcript_start ≡ told v)
go-on n r qs u v rs e f l =
    let g = run-told n r rs u l in (qs ++ g.0, run-append n qs g.0 transcript_start ∙ ap (λ t. transcript_run n g.0 t) e ∙ g.1 ∙ ap told (sym f))

-- the adapter's steps
needs-takes_up : (n r : ℕ) (x : Message) (starts : Bool) (u : RefWorld) → NeedsAll n r (echo_takes x starts) u
needs-takes_up n r (Request a q) starts u = (tt, tt)
needs-takes_up n r (Response a ok) starts u = (tt, tt)
needs-takes_up n r (Event k) starts u = tt

needs-up : (n r : ℕ) (up : List NumberedNote) (starts : Bool) (u : RefWorld) → NeedsAll n r (echo_up up starts) u
needs-up n r [] starts u = tt
needs-up n r (m ∷ ms) starts u = needs-takes_up n r m.note.message starts u

needs-turn : (b c ok : Bool) (n r : ℕ) (more : List Bool) (named : List Ref) (u : RefWorld) → NeedsAll n r (echo_turn b c ok more named) u
needs-turn true c ok n r more named u = (tt, tt)
needs-turn false c ok n r more named u = (tt, tt)

needs-adapter : (n r : ℕ) (w : Pair) (x : PairStep) (u : RefWorld) → IsAdapters x → NeedsAll n r (echo n r w x) u
needs-adapter n r w (PairSend c i q wanted refs) u a = absurd a
needs-adapter n r w (PairAnswer q ok) u a = absurd a
needs-adapter n r w (PairDeliverUp starts) u a = needs-up n r w.up starts u
needs-adapter n r w (PairTurn ok more named) u a = needs-turn (turn_asks w (oldest w.adapter.kept)) (sets_variable (oldest w.adapter.kept)) ok n r more named u
needs-adapter n r w (PairPoll x) u a = (tt, tt)
needs-adapter n r w PairDeliverDown u a = absurd a

-- a step of the adapter is followed
adapter-follows : (n r : ℕ) (w : Pair) (x : PairStep) → IsAdapters x → Follows n r w → Follows n r (pair_happens n r w x)
adapter-follows n r w x a f =
    let g = go-on n r f.steps (client_world_with f.client w) (client_world_with f.client (pair_happens n r w x)) (echo n r w x) f.same (adapter-client_world n r f.client w x a (next-answers w f.owns)) (needs-adapter n r w x (client_world_with f.client w) a) in
    let e = adapter-client n r w x a in
    let back = ap (λ (s : ClientModel). s.fault) e in
    record {
      steps = g.0;
      client = f.client;
      same = g.1;
      fine = λ z. f.fine (sym back ∙ z) ∙ sym e;
      fault = elim f.fault [ inl z ↦ inl (back ∙ z) | inr z ↦ inr (back ∙ z) ];
      owns = owns-step n r w x f.owns;
    }

-- a step of a client that no fault has closed
client-follows : (n r : ℕ) (w v : Pair) (rs : List RefStep) → Follows n r w → w.client.fault ≡ None → client_world v ≡ ref_run n r rs (client_world w) → NeedsAll n r rs (client_world w) → Owns v → Follows n r v
client-follows n r w v rs f e b l o =
    let g = go-on n r f.steps (client_world w) (client_world v) rs (f.same ∙ ap (λ (s : ClientModel). told (client_world_with s w)) (f.fine e)) b l in
    record {
      steps = g.0;
      client = v.client;
      same = g.1;
      fine = λ z. refl;
      fault = inl (subst (λ (t : WorldWithTranscript). t.world.client.fault ≡ None) g.1 (tells n g.0).agree.client_fine);
      owns = o;
    }

pub no-fault : (o : Option ClientFault) → has_fault o ≡ false → o ≡ None
no-fault None e = refl
no-fault (Some f) e = absurd (true-false e)

within : (r c : ℕ) → nat_lt r c ≡ false → c ≤ r
within r c e = grind (arith, nat_tests)

-- the client takes an answer or an event
limit-cases : (b : Bool) (n r : ℕ) (w : Pair) (m : NumberedNote) (x : Message) (ms : List NumberedNote) → reports_down (m ∷ ms) ≡ record { message = x; refs = m.note.refs } ∷ reports_down ms → nat_lt r (length (given_with (pair_eyes w) x m.note.refs)) ≡ b → w.down ≡ m ∷ ms → Follows n r w → w.client.fault ≡ None → (v : Pair) → v ≡ pair_takes_report r (record w { down = ms }) (record { message = x; refs = m.note.refs }) → client_world v ≡ ref_run n r (RefDeliverDown ∷ []) (client_world w) → Owns v → Follows n r v
limit-cases false n r w m x ms t e u f z v h b o =
    client-follows n r w v (RefDeliverDown ∷ []) f z b
    (subst (λ (ns : List Note). KeepsLimit r (client_world w) ns) (sym (ap reports_down u ∙ t)) (within r (length (given_with (pair_eyes w) x m.note.refs)) e), tt) o
limit-cases true n r w m x ms t e u f z v h b o =
    let s = client_model_takes w.client x in
    let shut : v ≡ with_fault (record w { down = ms }) ReferenceLimit = h ∙ rw e refl in
    let from : transcript_run n f.steps transcript_start ≡ told (client_world w) = f.same ∙ ap (λ (s : ClientModel). told (client_world_with s w)) (f.fine z) in
    let down : transcript_step n (told (client_world w)) PlainDown ≡ told (client_world_with s (with_fault (record w { down = ms }) ReferenceLimit)) =
    ap (λ (ns : List Note). transcript_step n (record { world = record (plain_world (client_world w)) { down = messages ns }; written = messages (client_dialogue w.written) }) PlainDown) (ap reports_down u ∙ t)
    ∙ ap (λ (zs : List Message). let y : WorldWithTranscript = record { world = plain_world (client_world_with s (with_fault (record w { down = ms }) ReferenceLimit)); written = zs } in y) (append-nil (messages (client_dialogue w.written))) in
    subst (λ (y : Pair). Follows n r y) (sym shut)
    (record {
      steps = f.steps ++ PlainDown ∷ [];
      client = s;
      same = run-append n f.steps (PlainDown ∷ []) transcript_start ∙ ap (λ (y : WorldWithTranscript). transcript_step n y PlainDown) from ∙ down;
      fine = λ y. cc;
      fault = inr refl;
      owns = subst Owns shut o;
    })

takes_down-follows : (n r : ℕ) (w : Pair) (m : NumberedNote) (x : Message) (ms : List NumberedNote) → m.note.message ≡ x → w.down ≡ m ∷ ms → Follows n r w → w.client.fault ≡ None → (v : Pair) → v ≡ pair_takes_down n r (record w { down = ms }) x m.note.refs → client_world v ≡ ref_run n r (echo_takes_down n w x) (client_world w) → Owns v → Follows n r v
takes_down-follows n r w m (Request a q) ms e u f z v h b o = client-follows n r w v _ f z b (needs-request (is_terminal_ask a && (w.announced && nat_lt (length w.incoming) n)) n r (client_world w)) o
  where
    needs-request : (b : Bool) (n r : ℕ) (u : RefWorld) → NeedsAll n r (if b then [] else RefUseNumber ∷ []) u
    needs-request true n r u = tt
    needs-request false n r u = (tt, tt)
takes_down-follows n r w m (Response a ok) ms e u f z v h b o = limit-cases _ n r w m (Response a ok) ms (rw e refl) refl u f z v h b o
takes_down-follows n r w m (Event k) ms e u f z v h b o = limit-cases _ n r w m (Event k) ms (rw e refl) refl u f z v h b o

down-follows : (n r : ℕ) (w : Pair) (down : List NumberedNote) → w.down ≡ down → Follows n r w → w.client.fault ≡ None → (v : Pair) → v ≡ pair_comes_down n r w down → client_world v ≡ ref_run n r (echo_down n w down) (client_world w) → Owns v → Follows n r v
down-follows n r w [] u f z v h b o = subst (λ (y : Pair). Follows n r y) (sym h) f
down-follows n r w (m ∷ ms) u f z v h b o = takes_down-follows n r w m m.note.message ms refl u f z v h b o

-- a step of the client
open-follows : (n r : ℕ) (w : Pair) (x : PairStep) → (IsAdapters x → ⊥) → has_fault w.client.fault ≡ false → Follows n r w → Follows n r (pair_happens n r w x)
open-follows n r w (PairSend c i q wanted refs) a e f =
    client-follows n r w (pair_happens n r w (PairSend c i q wanted refs)) (echo n r w (PairSend c i q wanted refs)) f (no-fault w.client.fault e) (pair-client_world n r w (PairSend c i q wanted refs) e (next-answers w f.owns) (next-new w f.owns)) (rw e (tt, tt)) (owns-step n r w (PairSend c i q wanted refs) f.owns)
open-follows n r w (PairAnswer q ok) a e f =
    client-follows n r w (pair_happens n r w (PairAnswer q ok)) (echo n r w (PairAnswer q ok)) f (no-fault w.client.fault e) (pair-client_world n r w (PairAnswer q ok) e (next-answers w f.owns) (next-new w f.owns)) (rw e (needs-answer (request_with_seq q w.incoming) n r (client_world w))) (owns-step n r w (PairAnswer q ok) f.owns)
  where
    needs-answer : (o : Option Ask) (n r : ℕ) (u : RefWorld) → NeedsAll n r (echo_answer o) u
    needs-answer None n r u = tt
    needs-answer (Some a) n r u = (tt, tt)
open-follows n r w (PairDeliverUp starts) a e f = absurd (a tt)
open-follows n r w (PairTurn ok more named) a e f = absurd (a tt)
open-follows n r w (PairPoll x) a e f = absurd (a tt)
open-follows n r w PairDeliverDown a e f =
    down-follows n r w w.down refl f (no-fault w.client.fault e) (pair_happens n r w PairDeliverDown) (rw e refl)
    (pair-client_world n r w PairDeliverDown e (next-answers w f.owns) (next-new w f.owns) ∙ rw e refl) (owns-step n r w PairDeliverDown f.owns)

-- a client that a fault has closed does nothing
pub fault-same : (n r : ℕ) (w : Pair) (x : PairStep) → (IsAdapters x → ⊥) → has_fault w.client.fault ≡ true → pair_happens n r w x ≡ w
fault-same n r w (PairSend c i q wanted refs) a e = rw e refl
fault-same n r w (PairAnswer q ok) a e = rw e refl
fault-same n r w (PairDeliverUp starts) a e = absurd (a tt)
fault-same n r w (PairTurn ok more named) a e = absurd (a tt)
fault-same n r w (PairPoll x) a e = absurd (a tt)
fault-same n r w PairDeliverDown a e = rw e refl

client-cases : (b : Bool) (n r : ℕ) (w : Pair) (x : PairStep) → (IsAdapters x → ⊥) → has_fault w.client.fault ≡ b → Follows n r w → Follows n r (pair_happens n r w x)
client-cases true n r w x a e f = subst (λ (y : Pair). Follows n r y) (sym (fault-same n r w x a e)) f
client-cases false n r w x a e f = open-follows n r w x a e f

-- each step
pub follows-step : (n r : ℕ) (w : Pair) (x : PairStep) → Follows n r w → Follows n r (pair_happens n r w x)
follows-step n r w (PairSend c i q wanted refs) f = client-cases (has_fault w.client.fault) n r w (PairSend c i q wanted refs) (λ z. z) refl f
follows-step n r w (PairAnswer q ok) f = client-cases (has_fault w.client.fault) n r w (PairAnswer q ok) (λ z. z) refl f
follows-step n r w (PairDeliverUp starts) f = adapter-follows n r w (PairDeliverUp starts) tt f
follows-step n r w (PairTurn ok more named) f = adapter-follows n r w (PairTurn ok more named) tt f
follows-step n r w (PairPoll x) f = adapter-follows n r w (PairPoll x) tt f
follows-step n r w PairDeliverDown f = client-cases (has_fault w.client.fault) n r w PairDeliverDown (λ z. z) refl f

-- two fresh ends
pub owns-start : Owns pair_start
owns-start = record { place = λ p. refl; waits = refl; new = λ q l. refl; kind = refl }

pub follows-start : (n r : ℕ) → Follows n r pair_start
follows-start n r = record { steps = []; client = client_model_start; same = refl; fine = λ z. refl; fault = inl refl; owns = owns-start }

-- what that schedule keeps
pub follows-tells : (n r : ℕ) (w : Pair) → (f : Follows n r w) → Tells n (told (client_world_with f.client w))
follows-tells n r w f = subst (λ (t : WorldWithTranscript). Tells n t) f.same (tells n f.steps)
