-- Seen by the client's requests alone, each step of the pair is at most one step of the model without the adapter's requests.
use Rattle.std.proofs.Common.{◌≡◌, ℕ, List, [], ◌∷◌, ◌++◌, Bool, true, false, refl, ap, ◌∙◌, length, Option, Some, None}
use Rattle.std.specs.Prelude.{◌&&◌, if◌then◌else◌, nat_lt}
use Rattle.std.specs.List.{list_any}
use Rattle.std.proofs.lemmas.List.{append-nil}
use Rattle.dap_ends.specs.Messages.{Command, Ask, Message, Request, Response, Event, has_seq, is_same, NoRequests}
use Rattle.dap_ends.specs.AdapterModel.{Made, MismatchedResponse, UnmatchedResponse, fails_with, oldest, adapter_model_takes, adapter_model_turns, adapter_model_polls, after_asking_turn, ends_wait}
use Rattle.dap_ends.specs.ClientModel.{ClientModel, ReferenceLimit, may_send, client_model_takes, requests_without}
use Rattle.dap_ends.specs.World.{after_using_number}
use Rattle.dap_ends.specs.References.{Ref, Note, Table, RefWorld, RefStep, RefSend, RefDeliverUp, RefTurn, RefPoll, RefDeliverDown, RefAskTerminal, RefEndWait, RefUseNumber, notes, all_in, references_carried, inspection_succeeds, given_with, given_after, table_after, table_polled, ref_made, ref_sent, ref_run}
use Rattle.dap_ends.specs.Pair.{NumberedNote, Pair, PairStep, numbered_notes, notes_written_by, has_fault, is_terminal_ask, request_with_seq, sets_variable, unless_sets_variable, with_fault, pair_after_sending, replies, pair_answers, pair_after_adapter, pair_takes_response, pair_takes_up, pair_comes_up, turn_asks, terminal_after_turn, pair_fails, writes_terminal_ask, pair_asks_terminal, pair_after_turn, pair_takes_request, pair_takes_down, pair_eyes, pair_comes_down, pair_happens, requests_up, reports_down, client_dialogue, client_world, client_world_with, PairSend, PairAnswer, PairDeliverUp, PairTurn, PairPoll, PairDeliverDown}
use Rattle.dap_ends.proofs.PairNotes.{requests_up-append, reports_down-append, client_dialogue-append, reports_down-numbered, client_dialogue-numbered, quiet-turns, quiet-asks, quiet-ends_wait, quiet-polls, quiet-takes}

-- the step of the other model, by what comes up
abbrev pub echo_takes : Message → Bool → List RefStep
echo_takes (Request a q) starts = RefDeliverUp ∷ []
echo_takes (Response a ok) starts = RefEndWait (ok && starts) ∷ []
echo_takes (Event k) starts = []

abbrev pub echo_up : List NumberedNote → Bool → List RefStep
echo_up [] starts = []
echo_up (m ∷ ms) starts = echo_takes m.note.message starts

-- a turn
abbrev pub echo_turn : Bool → Bool → Bool → List Bool → List Ref → List RefStep
echo_turn true b ok more named = RefAskTerminal ∷ []
echo_turn false b ok more named = RefTurn ok (unless_sets_variable b more) (unless_sets_variable b named) ∷ []

-- the client's answer
abbrev pub echo_answer : Option Ask → List RefStep
echo_answer None = []
echo_answer (Some a) = RefUseNumber ∷ []

-- what comes down
abbrev pub echo_takes_down : ℕ → Pair → Message → List RefStep
echo_takes_down n w (Request a q) = if is_terminal_ask a && (w.announced && nat_lt (length w.incoming) n) then [] else RefUseNumber ∷ []
echo_takes_down n w (Response a ok) = RefDeliverDown ∷ []
echo_takes_down n w (Event k) = RefDeliverDown ∷ []

abbrev pub echo_down : ℕ → Pair → List NumberedNote → List RefStep
echo_down n w [] = []
echo_down n w (m ∷ ms) = echo_takes_down n w m.note.message

-- a client that a fault has closed does nothing
abbrev pub echo_unless : Bool → List RefStep → List RefStep
echo_unless true ss = []
echo_unless false ss = ss

abbrev pub echo : ℕ → ℕ → Pair → PairStep → List RefStep
echo n r w (PairSend c i q wanted refs) = echo_unless (has_fault w.client.fault) (RefSend c i q refs ∷ [])
echo n r w (PairAnswer q ok) = echo_unless (has_fault w.client.fault) (echo_answer (request_with_seq q w.incoming))
echo n r w (PairDeliverUp starts) = echo_up w.up starts
echo n r w (PairTurn ok more named) = echo_turn (turn_asks w (oldest w.adapter.kept)) (sets_variable (oldest w.adapter.kept)) ok more named
echo n r w (PairPoll x) = RefPoll x ∷ []
echo n r w PairDeliverDown = echo_unless (has_fault w.client.fault) (echo_down n w w.down)

-- a call of the adapter
client_world-after_adapter : (s : ClientModel) (w : Pair) (m : Made) (refs : List Ref) (t : Table) → NoRequests m.outs → client_world_with s (pair_after_adapter w m refs t) ≡ ref_made (client_world_with s w) m refs t
client_world-after_adapter s w m refs t q =
    ap (λ zs. let u : RefWorld = record { client = s; given = w.given; up = requests_up w.up; adapter = m.adapter; uses = w.uses; table = t; down = zs; written = client_dialogue (w.written ++ notes_written_by false (numbered_notes w.used refs m.outs)) } in u)
    (reports_down-append w.down (numbered_notes w.used refs m.outs) ∙ ap (λ zs. reports_down w.down ++ zs) (reports_down-numbered w.used refs m.outs q))
    ∙ ap (λ zs. let u : RefWorld = record { client = s; given = w.given; up = requests_up w.up; adapter = m.adapter; uses = w.uses; table = t; down = reports_down w.down ++ notes refs m.outs; written = zs } in u)
    (client_dialogue-append w.written (notes_written_by false (numbered_notes w.used refs m.outs)) ∙ ap (λ zs. client_dialogue w.written ++ zs) (client_dialogue-numbered w.used refs m.outs q))

-- the adapter's own request is not seen
client_world-writes_terminal_ask : (s : ClientModel) (w : Pair) → client_world_with s (writes_terminal_ask w) ≡ client_world_with s w
client_world-writes_terminal_ask s w =
    ap (λ zs. let u : RefWorld = record { client = s; given = w.given; up = requests_up w.up; adapter = w.adapter; uses = w.uses; table = w.table; down = zs; written = client_dialogue (writes_terminal_ask w).written } in u)
    (reports_down-append w.down _ ∙ append-nil (reports_down w.down))
    ∙ ap (λ zs. let u : RefWorld = record { client = s; given = w.given; up = requests_up w.up; adapter = w.adapter; uses = w.uses; table = w.table; down = reports_down w.down; written = zs } in u)
    (client_dialogue-append w.written _ ∙ append-nil (client_dialogue w.written))

-- nor the client's response, but for its number
client_world-replies : (w : Pair) (a : Ask) (ok : Bool) → client_world (replies w a ok) ≡ record (client_world w) { client = after_using_number w.client }
client_world-replies w a ok =
    ap (λ zs. let u : RefWorld = record { client = after_using_number w.client; given = w.given; up = zs; adapter = w.adapter; uses = w.uses; table = w.table; down = reports_down w.down; written = client_dialogue (replies w a ok).written } in u)
    (requests_up-append w.up _ ∙ append-nil (requests_up w.up))
    ∙ ap (λ zs. let u : RefWorld = record { client = after_using_number w.client; given = w.given; up = requests_up w.up; adapter = w.adapter; uses = w.uses; table = w.table; down = reports_down w.down; written = zs } in u)
    (client_dialogue-append w.written _ ∙ append-nil (client_dialogue w.written))

-- a response that comes to the adapter answers one of its requests
abbrev pub AnswersOwn : List Ask → Message → Type 0
AnswersOwn asked (Request a q) = Unit {0}
AnswersOwn asked (Response a ok) = (list_any (has_seq a.seq) asked ≡ true) × (list_any (is_same a) asked ≡ true)
AnswersOwn asked (Event k) = Unit {0}

abbrev pub NextAnswers : List Ask → List NumberedNote → Type 0
NextAnswers asked [] = Unit {0}
NextAnswers asked (m ∷ ms) = AnswersOwn asked m.note.message

-- it is taken
pub response-taken : (w : Pair) (a : Ask) (ok starts : Bool) → list_any (has_seq a.seq) w.asked ≡ true → list_any (is_same a) w.asked ≡ true → pair_takes_response w a ok starts ≡ pair_after_adapter (record w { asked = requests_without a.seq w.asked }) (ends_wait w.adapter.phase w.adapter (ok && starts)) [] w.table
response-taken w a ok starts e f = rw (e, f) refl

-- a message that comes up
takes_up-client_world : (n r : ℕ) (s : ClientModel) (w : Pair) (m : NumberedNote) (x : Message) (ms : List NumberedNote) (starts : Bool) → m.note.message ≡ x → AnswersOwn w.asked x → client_world_with s (pair_takes_up n (record w { up = ms }) x starts) ≡ ref_run n r (echo_takes x starts) (record (client_world_with s w) { up = requests_up (m ∷ ms) })
takes_up-client_world n r s w m (Request a q) ms starts e h = rw e (client_world-after_adapter s (record w { up = ms }) (adapter_model_takes n w.adapter (Request a q)) [] w.table (quiet-takes n w.adapter a q))
takes_up-client_world n r s w m (Response a ok) ms starts e h =
    rw (e, response-taken (record w { up = ms }) a ok starts h.0 h.1)
    (client_world-after_adapter s (record w { up = ms; asked = requests_without a.seq w.asked }) (ends_wait w.adapter.phase w.adapter (ok && starts)) [] w.table (quiet-ends_wait w.adapter.phase w.adapter (ok && starts)))
takes_up-client_world n r s w m (Event k) ms starts e h = rw e refl

up-client_world : (n r : ℕ) (s : ClientModel) (w : Pair) (up : List NumberedNote) (starts : Bool) → NextAnswers w.asked up → w.up ≡ up → client_world_with s (pair_comes_up n w up starts) ≡ ref_run n r (echo_up up starts) (record (client_world_with s w) { up = requests_up up })
up-client_world n r s w [] starts h e = ap (λ zs. let u : RefWorld = record (client_world_with s w) { up = requests_up zs } in u) e
up-client_world n r s w (m ∷ ms) starts h e = takes_up-client_world n r s w m m.note.message ms starts refl h

-- a turn
turn-client_world : (b : Bool) (n r : ℕ) (s : ClientModel) (w : Pair) (ok : Bool) (more : List Bool) (named : List Ref) → turn_asks w (oldest w.adapter.kept) ≡ b → client_world_with s (if b then pair_asks_terminal w else pair_after_turn r w ok (unless_sets_variable (sets_variable (oldest w.adapter.kept)) more) (unless_sets_variable (sets_variable (oldest w.adapter.kept)) named)) ≡ ref_run n r (echo_turn b (sets_variable (oldest w.adapter.kept)) ok more named) (client_world_with s w)
turn-client_world true n r s w ok more named e = client_world-writes_terminal_ask s (pair_after_adapter w (after_asking_turn (oldest w.adapter.kept) w.adapter) [] w.table) ∙ client_world-after_adapter s w (after_asking_turn (oldest w.adapter.kept) w.adapter) [] w.table (quiet-asks w.adapter)
turn-client_world false n r s w ok more named e =
    let b = sets_variable (oldest w.adapter.kept) in
    let o = inspection_succeeds r w.table (unless_sets_variable b more) (unless_sets_variable b named) (oldest w.adapter.kept) ok in
    client_world-after_adapter s (record w { terminal = terminal_after_turn w.adapter.phase (oldest w.adapter.kept) w.wants w.terminal }) (adapter_model_turns w.adapter o) (unless_sets_variable b named) (table_after (oldest w.adapter.kept) w.adapter.phase o w.table (unless_sets_variable b more)) (quiet-turns w.adapter o)

-- whose step it is
abbrev pub IsAdapters : PairStep → Type 0
IsAdapters (PairSend c i q wanted refs) = ⊥
IsAdapters (PairAnswer q ok) = ⊥
IsAdapters (PairDeliverUp starts) = Unit {0}
IsAdapters (PairTurn ok more named) = Unit {0}
IsAdapters (PairPoll x) = Unit {0}
IsAdapters PairDeliverDown = ⊥

-- a step of the adapter, whatever the client is
pub adapter-client_world : (n r : ℕ) (s : ClientModel) (w : Pair) (x : PairStep) → IsAdapters x → NextAnswers w.asked w.up → client_world_with s (pair_happens n r w x) ≡ ref_run n r (echo n r w x) (client_world_with s w)
adapter-client_world n r s w (PairSend c i q wanted refs) a h = absurd a
adapter-client_world n r s w (PairAnswer q ok) a h = absurd a
adapter-client_world n r s w (PairDeliverUp starts) a h = up-client_world n r s w w.up starts h refl
adapter-client_world n r s w (PairTurn ok more named) a h = turn-client_world (turn_asks w (oldest w.adapter.kept)) n r s w ok more named refl
adapter-client_world n r s w (PairPoll x) a h = client_world-after_adapter s w (adapter_model_polls w.adapter x) [] (table_polled w.adapter.phase x w.table) (quiet-polls w.adapter x)
adapter-client_world n r s w PairDeliverDown a h = absurd a

-- the client is as before
response-client : (b c : Bool) (w : Pair) (a : Ask) (ok starts : Bool) → (if b then (if c then pair_after_adapter (record w { asked = requests_without a.seq w.asked }) (ends_wait w.adapter.phase w.adapter (ok && starts)) [] w.table else pair_fails w (fails_with w.adapter MismatchedResponse)) else pair_fails w (fails_with w.adapter UnmatchedResponse)).client ≡ w.client
response-client true true w a ok starts = refl
response-client true false w a ok starts = refl
response-client false c w a ok starts = refl

takes_up-client : (n : ℕ) (w : Pair) (x : Message) (starts : Bool) → (pair_takes_up n w x starts).client ≡ w.client
takes_up-client n w (Request a q) starts = refl
takes_up-client n w (Response a ok) starts = response-client (list_any (has_seq a.seq) w.asked) (list_any (is_same a) w.asked) w a ok starts
takes_up-client n w (Event k) starts = refl

up-client : (n : ℕ) (w : Pair) (up : List NumberedNote) (starts : Bool) → (pair_comes_up n w up starts).client ≡ w.client
up-client n w [] starts = refl
up-client n w (m ∷ ms) starts = takes_up-client n (record w { up = ms }) m.note.message starts

turn-client : (b : Bool) (v u w : Pair) → v.client ≡ w.client → u.client ≡ w.client → (if b then v else u).client ≡ w.client
turn-client true v u w e f = e
turn-client false v u w e f = f

pub adapter-client : (n r : ℕ) (w : Pair) (x : PairStep) → IsAdapters x → (pair_happens n r w x).client ≡ w.client
adapter-client n r w (PairSend c i q wanted refs) a = absurd a
adapter-client n r w (PairAnswer q ok) a = absurd a
adapter-client n r w (PairDeliverUp starts) a = up-client n w w.up starts
adapter-client n r w (PairTurn ok more named) a = turn-client (turn_asks w (oldest w.adapter.kept)) (pair_asks_terminal w) (pair_after_turn r w ok (unless_sets_variable (sets_variable (oldest w.adapter.kept)) more) (unless_sets_variable (sets_variable (oldest w.adapter.kept)) named)) w refl refl
adapter-client n r w (PairPoll x) a = refl
adapter-client n r w PairDeliverDown a = absurd a

own-client_world : (n r : ℕ) (w : Pair) (x : PairStep) → IsAdapters x → NextAnswers w.asked w.up → client_world (pair_happens n r w x) ≡ ref_run n r (echo n r w x) (client_world w)
own-client_world n r w x a h = ap (λ (s : ClientModel). client_world_with s (pair_happens n r w x)) (adapter-client n r w x a) ∙ adapter-client_world n r w.client w x a h

-- the client sends
after_sending-client_world : (w : Pair) (c : Command) (i : List ℕ) (q : ℕ) (wanted : Bool) (refs : List Ref) → client_world (pair_after_sending w c i q wanted refs) ≡ ref_sent (client_world w) c i q refs
after_sending-client_world w c i q wanted refs =
    ap (λ zs. let u : RefWorld = record (ref_sent (client_world w) c i q refs) { up = zs; written = client_dialogue (pair_after_sending w c i q wanted refs).written } in u) (requests_up-append w.up _)
    ∙ ap (λ zs. let u : RefWorld = record (ref_sent (client_world w) c i q refs) { written = zs } in u) (client_dialogue-append w.written _)

send-client_world : (b : Bool) (w : Pair) (c : Command) (i : List ℕ) (q : ℕ) (wanted : Bool) (refs : List Ref) → client_world (if b then pair_after_sending w c i q wanted refs else w) ≡ (if b then ref_sent (client_world w) c i q refs else client_world w)
send-client_world true w c i q wanted refs = after_sending-client_world w c i q wanted refs
send-client_world false w c i q wanted refs = refl

answer-client_world : (n r : ℕ) (o : Option Ask) (w : Pair) (ok : Bool) → client_world (pair_answers w o ok) ≡ ref_run n r (echo_answer o) (client_world w)
answer-client_world n r None w ok = refl
answer-client_world n r (Some a) w ok = client_world-replies (record w { incoming = requests_without a.seq w.incoming }) a ok

-- a request that comes to the client has no number of one that it keeps
abbrev pub IsNew : List Ask → Message → Type 0
IsNew incoming (Request a q) = list_any (has_seq a.seq) incoming ≡ false
IsNew incoming (Response a ok) = Unit {0}
IsNew incoming (Event k) = Unit {0}

abbrev pub NextNew : List Ask → List NumberedNote → Type 0
NextNew incoming [] = Unit {0}
NextNew incoming (m ∷ ms) = IsNew incoming m.note.message

-- it is kept or answered
pub request-taken : (n : ℕ) (w : Pair) (a : Ask) → list_any (has_seq a.seq) w.incoming ≡ false → pair_takes_request n w a ≡ (if is_terminal_ask a && (w.announced && nat_lt (length w.incoming) n) then record w { incoming = w.incoming ++ a ∷ [] } else replies w a false)
request-taken n w a e = rw e refl

request-client_world : (b : Bool) (n r : ℕ) (w : Pair) (a : Ask) → client_world (if b then record w { incoming = w.incoming ++ a ∷ [] } else replies w a false) ≡ ref_run n r (if b then [] else RefUseNumber ∷ []) (client_world w)
request-client_world true n r w a = refl
request-client_world false n r w a = client_world-replies w a false

report-client_world : (b : Bool) (w : Pair) (m : Note) → client_world (if b then with_fault w ReferenceLimit else record w { client = client_model_takes w.client m.message; given = given_after (pair_eyes w) m.message m.refs }) ≡ (if b then record (client_world w) { client = record w.client { fault = Some ReferenceLimit } } else record (client_world w) { client = client_model_takes w.client m.message; given = given_after (pair_eyes w) m.message m.refs })
report-client_world true w m = refl
report-client_world false w m = refl

takes_down-client_world : (n r : ℕ) (w : Pair) (m : NumberedNote) (x : Message) (ms : List NumberedNote) → m.note.message ≡ x → IsNew w.incoming x → client_world (pair_takes_down n r (record w { down = ms }) x m.note.refs) ≡ ref_run n r (echo_takes_down n w x) (record (client_world w) { down = reports_down (m ∷ ms) })
takes_down-client_world n r w m (Request a q) ms e h =
    rw (e, request-taken n (record w { down = ms }) a h) (request-client_world (is_terminal_ask a && (w.announced && nat_lt (length w.incoming) n)) n r (record w { down = ms }) a)
takes_down-client_world n r w m (Response a ok) ms e h = rw e (report-client_world (nat_lt r (length (given_with (pair_eyes w) (Response a ok) m.note.refs))) (record w { down = ms }) (record { message = Response a ok; refs = m.note.refs }))
takes_down-client_world n r w m (Event k) ms e h = rw e (report-client_world (nat_lt r (length (given_with (pair_eyes w) (Event k) m.note.refs))) (record w { down = ms }) (record { message = Event k; refs = m.note.refs }))

down-client_world : (n r : ℕ) (w : Pair) (down : List NumberedNote) → NextNew w.incoming down → w.down ≡ down → client_world (pair_comes_down n r w down) ≡ ref_run n r (echo_down n w down) (record (client_world w) { down = reports_down down })
down-client_world n r w [] h e = ap (λ zs. let u : RefWorld = record (client_world w) { down = reports_down zs } in u) e
down-client_world n r w (m ∷ ms) h e = takes_down-client_world n r w m m.note.message ms refl h

unless-client_world : (b : Bool) (n r : ℕ) (w v : Pair) (ss : List RefStep) → b ≡ false → client_world v ≡ ref_run n r ss (client_world w) → client_world (if b then w else v) ≡ ref_run n r (echo_unless b ss) (client_world w)
unless-client_world true n r w v ss e h = absurd (let z : true ≡ false = e in cc)
unless-client_world false n r w v ss e h = h

-- a step of any side, while no fault has closed the client
pub pair-client_world : (n r : ℕ) (w : Pair) (x : PairStep) → has_fault w.client.fault ≡ false → NextAnswers w.asked w.up → NextNew w.incoming w.down → client_world (pair_happens n r w x) ≡ ref_run n r (echo n r w x) (client_world w)
pair-client_world n r w (PairSend c i q wanted refs) e a h =
    unless-client_world (has_fault w.client.fault) n r w _ (RefSend c i q refs ∷ []) e (send-client_world (all_in w.given (references_carried c refs) && may_send n w.client c) w c i q wanted (references_carried c refs))
pair-client_world n r w (PairAnswer q ok) e a h = unless-client_world (has_fault w.client.fault) n r w _ (echo_answer (request_with_seq q w.incoming)) e (answer-client_world n r (request_with_seq q w.incoming) w ok)
pair-client_world n r w (PairDeliverUp starts) e a h = own-client_world n r w (PairDeliverUp starts) tt a
pair-client_world n r w (PairTurn ok more named) e a h = own-client_world n r w (PairTurn ok more named) tt a
pair-client_world n r w (PairPoll x) e a h = own-client_world n r w (PairPoll x) tt a
pair-client_world n r w PairDeliverDown e a h = unless-client_world (has_fault w.client.fault) n r w _ (echo_down n w w.down) e (down-client_world n r w w.down h refl)
