-- Each request in one place with its arguments: what a number was sent as stays the same wherever it is, so what is known by number and command is known of all of it.
use Rattle.std.proofs.Common.{◌≡◌, ℕ, ◌+◌, ◌≤◌, List, [], ◌∷◌, ◌++◌, length, map, filter, Bool, true, false, Option, Some, None, Result, Ok, refl, sym, ap, ◌∙◌, subst, arith, append-nil}
use Rattle.std.specs.Prelude.{◌==◌, not, option_to_list, if◌then◌else◌}
use Rattle.std.specs.List.{AllByRecursion}
use Rattle.std.proofs.lemmas.Bool.Decides.{nat_tests}
use Rattle.dap_client.specs.Sending.{request_of, next_message, after_send}
use Rattle.dap_client.specs.Projection.{KeepsRequests}
use Rattle.dap_client.specs.Session.{Session as ClientSession}
use Rattle.dap_client.specs.Taking.{Made as ClientMade, made_by_keeping, made_without_writing, request_from, takes_as as client_takes_as}
use Rattle.dap_client.specs.Within.{IsWithin as ClientWithin}
use Rattle.dap_client.specs.TerminalResponse.{terminal_response, next_terminal_response, after_terminal_response}
use Rattle.dap_client.specs.declared.fault.ClientFault.{ClientFault}
use Rattle.dap_client.specs.declared.terminal.Terminal.{Terminal}
use Rattle.dap_client.specs.declared.terminal.Terminal.TheVariants.{Started, Refused}
use Rattle.dap_debuggee.specs.Shown.{Shown}
use Rattle.dap_frame.specs.Settings.{Settings, AreInRange}
use Rattle.dap_history.specs.History.{Asked, Answered, request_as, response_as, without_answered, has_request_seq}
use Rattle.dap_history.specs.Requests.{asked_of, asks}
use Rattle.dap_call.specs.declared.call.Call.{Call}
use Rattle.dap_envelope.specs.declared.message.Kind.{Kind}
use Rattle.dap_envelope.specs.declared.message.Kind.TheVariants.{Request, Response, Event, Other}
use Rattle.dap_envelope.specs.declared.message.Message.{Message}
use Rattle.dap_message.specs.declared.outcome.Outcome.TheVariants as outcome
use Rattle.dap_outbox.specs.Draft.{Draft, reply, emit, ask, ask_named, success, failure, explained, came_out, numbered_messages, own_request}
use Rattle.dap_plan.specs.Answering.{AnswersEach, GoesWell, answered_by, open_after, with_seq}
use Rattle.dap_plan.specs.Carried.{Goes}
use Rattle.dap_plan.specs.Laws.{AskNoneByName, CanMake, can_make}
use Rattle.dap_plan.specs.Plan.{Made}
use Rattle.dap_plan.specs.Polling.{polls}
use Rattle.dap_plan.specs.Emitting.{emits}
use Rattle.serde_json.specs.Data.{Data}
use Rattle.dap_plan.specs.Session.{Session, own_requests}
use Rattle.dap_tables.specs.Outstanding.{Kept, kept_unparked, without}
use Rattle.dap_tables.specs.declared.entry.Entry.{Entry}
use Rattle.dap_world.specs.Agreement.{requests_among, responses_among, answer_to, count, AreInOnePlace}
use Rattle.dap_world.specs.World.{World, client_said, fresh_world, Step, by_sending, by_answering, by_coming_up, by_coming_down, by_turning, by_polling, by_emitting, by_exchanging, Sends, Answers, ComesUp, ComesDown, Turns, Polls, Emits, Schedule, starts, goes}
use Rattle.dap_world.proofs.ClientStepping.{Comes, down-first, down-comes, kind-leaves, request-kept}
use Rattle.dap_world.proofs.Lasting.{schedule-stands}
use Rattle.dap_world.proofs.Named.{Name, names_of, own_names, asked_as, answered_as, asked_in, answered_in, count as count_names, AreNamedInOnePlace, OwnIsNamedInOnePlace}
use Rattle.dap_world.proofs.Standing.{IsTold, Stands, orderly}
use Rattle.dap_world.proofs.Paired.{world_made}
use Rattle.dap_world.proofs.Stepping.{Laws, written}

-- ---- lists of which all is so

abbrev All : {A : Type 0} → (A → Type 0) → List A → Type 0
All P xs = AllByRecursion P xs

all-append : {A : Type 0} (P : A → Type 0) (xs ys : List A) → All P xs → All P ys → All P (xs ++ ys)
all-append P [] ys h g = g
all-append P (x ∷ xs) ys h g = (h.0, all-append P xs ys h.1 g)

all-if : {A : Type 0} (P : A → Type 0) (b : Bool) (x : A) (xs : List A) → P x → All P xs → All P (if b then x ∷ xs else xs)
all-if P true x xs h g = (h, g)
all-if P false x xs h g = g

all-filter : {A : Type 0} (P : A → Type 0) (test : A → Bool) (xs : List A) → All P xs → All P (filter test xs)
all-filter P test [] h = tt
all-filter P test (x ∷ xs) h = all-if P (test x) x (filter test xs) h.0 (all-filter P test xs h.1)

all-map : {A : Type 0} (P Q : A → Type 0) (xs : List A) → ((x : A) → P x → Q x) → All P xs → All Q xs
all-map P Q [] f h = tt
all-map P Q (x ∷ xs) f h = (f x h.0, all-map P Q xs f h.1)

asks-append : (ks ls : List Kept) → asks (ks ++ ls) ≡ asks ks ++ asks ls
asks-append [] ls = refl
asks-append (k ∷ ks) ls = ap (λ (z : List Asked). asked_of k.entry ∷ z) (asks-append ks ls)

-- a request taken out of a table leaves what holds of all
asks-if : (P : Asked → Type 0) (b : Bool) (k : Kept) (ks : List Kept) → P (asked_of k.entry) → All P (asks ks) → All P (asks (if b then k ∷ ks else ks))
asks-if P true k ks h g = (h, g)
asks-if P false k ks h g = g

asks-filter : (P : Asked → Type 0) (test : Kept → Bool) (ks : List Kept) → All P (asks ks) → All P (asks (filter test ks))
asks-filter P test [] h = tt
asks-filter P test (k ∷ ks) h = asks-if P (test k) k (filter test ks) h.0 (asks-filter P test ks h.1)

asks-more : (P : Asked → Type 0) (ks : List Kept) (k : Kept) → All P (asks ks) → P (asked_of k.entry) → All P (asks (ks ++ k ∷ []))
asks-more P ks k h g = subst (λ (z : List Asked). All P z) (sym (asks-append ks (k ∷ []))) (all-append P (asks ks) (asked_of k.entry ∷ []) h (g, tt))

behind : {A : Type 0} (o : Option A) (zs xs ys : List A) → zs ≡ xs ++ ys → option_to_list o ++ zs ≡ (option_to_list o ++ xs) ++ ys
behind None zs xs ys e = e
behind (Some x) zs xs ys e = ap (λ z. x ∷ z) e

requests-append : (ms ns : List Message) → requests_among (ms ++ ns) ≡ requests_among ms ++ requests_among ns
requests-append [] ns = refl
requests-append (m ∷ ms) ns = behind (request_as m.seq m.kind) (requests_among (ms ++ ns)) (requests_among ms) (requests_among ns) (requests-append ms ns)

responses-append : (ms ns : List Message) → responses_among (ms ++ ns) ≡ responses_among ms ++ responses_among ns
responses-append [] ns = refl
responses-append (m ∷ ms) ns = behind (response_as m.kind) (responses_among (ms ++ ns)) (responses_among ms) (responses_among ns) (responses-append ms ns)

-- ---- by number

-- what the client sent under a number
abbrev ByNumber : Type 0
ByNumber = ℕ → Asked

abbrev IsSent : ByNumber → ℕ → Asked → Type 0
IsSent by used q = (by q.seq ≡ q) × (q.seq ≤ used)

-- a response to what was sent
abbrev IsResponse : ByNumber → ℕ → Answered → Type 0
IsResponse by used a = (answer_to (by a.request_seq) ≡ a) × (a.request_seq ≤ used)

-- the adapter's own request has its number, and is the same else
abbrev IsOwn : Asked → Type 0
IsOwn q = own_request q.seq ≡ q

abbrev IsOwnResponse : Answered → Type 0
IsOwnResponse a = answer_to (own_request a.request_seq) ≡ a

pub record Sent {D : Type 0} (w : World D) : Type 0 where
  pub by : ℕ → Asked
  pub outstanding : All (IsSent by w.client.used) (asks w.client.outstanding)
  pub up : All (IsSent by w.client.used) (requests_among w.up)
  pub kept : All (IsSent by w.client.used) (asks w.adapter.session.kept)
  pub down : All (IsResponse by w.client.used) (responses_among w.down)
  pub incoming : All IsOwn (asks w.client.incoming)
  pub own_down : All IsOwn (requests_among w.down)
  pub own_up : All IsOwnResponse (responses_among w.up)

-- ---- what the adapter writes

module _ (by : ByNumber) (n : ℕ) where
  -- what is answered was open
  picked : (open_requests : List Asked) (seq : ℕ) (q : Asked) → All (IsSent by n) open_requests → with_seq seq open_requests ≡ q ∷ [] → IsSent by n q
  picked open_requests seq q h e = (subst (λ (z : List Asked). All (IsSent by n) z) e (all-filter (IsSent by n) (λ (x : Asked). x.seq == seq) open_requests h)).0

  answers-one : (r : Entry) (k : ℕ) (d : Draft) → IsSent by n (asked_of r) → IsResponse by n (record { request_seq = r.seq; command = r.command })
  answers-one r k d h = (ap answer_to h.0, h.1)

  pub responses-are : (used : ℕ) (ds : List Draft) (open_requests : List Asked) → AnswersEach ds open_requests → All (IsSent by n) open_requests → All (IsResponse by n) (responses_among (numbered_messages used ds))
  responses-are used [] open_requests a h = tt
  responses-are used (reply r (success body names) ∷ ds) open_requests a h =
      (answers-one r used (reply r (success body names)) (picked open_requests r.seq (asked_of r) h a.0), responses-are (used + 1) ds (without_answered (answered_by (reply r (success body names))) open_requests) a.1 (all-filter (IsSent by n) (λ (q : Asked). not (has_request_seq q.seq (answered_by (reply r (success body names))))) open_requests h))
  responses-are used (reply r (failure f) ∷ ds) open_requests a h =
      (answers-one r used (reply r (failure f)) (picked open_requests r.seq (asked_of r) h a.0), responses-are (used + 1) ds (without_answered (answered_by (reply r (failure f))) open_requests) a.1 (all-filter (IsSent by n) (λ (q : Asked). not (has_request_seq q.seq (answered_by (reply r (failure f))))) open_requests h))
  responses-are used (reply r (explained w) ∷ ds) open_requests a h =
      (answers-one r used (reply r (explained w)) (picked open_requests r.seq (asked_of r) h a.0), responses-are (used + 1) ds (without_answered (answered_by (reply r (explained w))) open_requests) a.1 (all-filter (IsSent by n) (λ (q : Asked). not (has_request_seq q.seq (answered_by (reply r (explained w))))) open_requests h))
  responses-are used (reply r (came_out (outcome.Success body)) ∷ ds) open_requests a h =
      (answers-one r used (reply r (came_out (outcome.Success body))) (picked open_requests r.seq (asked_of r) h a.0), responses-are (used + 1) ds (without_answered (answered_by (reply r (came_out (outcome.Success body)))) open_requests) a.1 (all-filter (IsSent by n) (λ (q : Asked). not (has_request_seq q.seq (answered_by (reply r (came_out (outcome.Success body)))))) open_requests h))
  responses-are used (reply r (came_out (outcome.Failure message body)) ∷ ds) open_requests a h =
      (answers-one r used (reply r (came_out (outcome.Failure message body))) (picked open_requests r.seq (asked_of r) h a.0), responses-are (used + 1) ds (without_answered (answered_by (reply r (came_out (outcome.Failure message body)))) open_requests) a.1 (all-filter (IsSent by n) (λ (q : Asked). not (has_request_seq q.seq (answered_by (reply r (came_out (outcome.Failure message body)))))) open_requests h))
  responses-are used (emit event ∷ ds) open_requests a h = responses-are (used + 1) ds (without_answered None open_requests) a (all-filter (IsSent by n) (λ (q : Asked). not (has_request_seq q.seq None)) open_requests h)
  responses-are used (ask ∷ ds) open_requests a h = responses-are (used + 1) ds (without_answered None open_requests) a (all-filter (IsSent by n) (λ (q : Asked). not (has_request_seq q.seq None)) open_requests h)
  responses-are used (ask_named command arguments ∷ ds) open_requests a h = responses-are (used + 1) ds (without_answered None open_requests) a (all-filter (IsSent by n) (λ (q : Asked). not (has_request_seq q.seq None)) open_requests h)

  -- and what stays open was
  pub open-are : (ds : List Draft) (qs : List Asked) → All (IsSent by n) qs → All (IsSent by n) (open_after ds qs)
  open-are [] qs h = h
  open-are (d ∷ ds) qs h = open-are ds (without_answered (answered_by d) qs) (all-filter (IsSent by n) (λ (q : Asked). not (has_request_seq q.seq (answered_by d))) qs h)

own-are : (used : ℕ) (ds : List Draft) → AskNoneByName ds → All IsOwn (requests_among (numbered_messages used ds))
own-are used [] n = tt
own-are used (reply r (success body names) ∷ ds) n = own-are (used + 1) ds n
own-are used (reply r (failure f) ∷ ds) n = own-are (used + 1) ds n
own-are used (reply r (explained w) ∷ ds) n = own-are (used + 1) ds n
own-are used (reply r (came_out (outcome.Success body)) ∷ ds) n = own-are (used + 1) ds n
own-are used (reply r (came_out (outcome.Failure message body)) ∷ ds) n = own-are (used + 1) ds n
own-are used (emit event ∷ ds) n = own-are (used + 1) ds n
own-are used (ask ∷ ds) n = (refl, own-are (used + 1) ds n)
own-are used (ask_named command arguments ∷ ds) n = absurd n

-- ---- what the client takes

-- of its tables after a message that made it write nothing
pub record Took (kind : Kind) (seq : ℕ) (s : ClientSession) (made : ClientMade) : Type 1 where
  pub outstanding : (P : Asked → Type 0) → All P (asks s.outstanding) → All P (asks made.after.outstanding)
  pub incoming : (P : Asked → Type 0) → All P (asks s.incoming) → All P (option_to_list (request_as seq kind)) → All P (asks made.after.incoming)

took-tables : (kind : Kind) (seq : ℕ) (s : ClientSession) (made : ClientMade) (outstanding : List Kept) → ((P : Asked → Type 0) → All P (asks s.outstanding) → All P (asks outstanding)) → KeepsRequests made.after outstanding s.incoming → Took kind seq s made
took-tables kind seq s made outstanding all x = record {
  outstanding = λ P h. subst (λ (ks : List Kept). All P (asks ks)) (sym x.outstanding_is) (all P h);
  incoming = λ P h g. subst (λ (ks : List Kept). All P (asks ks)) (sym x.incoming_is) h;
}

took : (laws : Laws) (seq : ℕ) (kind : Kind) (s : ClientSession) (made : ClientMade) → ClientWithin s → IsTold seq kind → Comes kind s → client_takes_as seq kind s ≡ Ok made → Took kind seq s made
took laws seq (Request name arguments) s made w t c e =
    let m : ClientMade = made_by_keeping (request_from seq name arguments) s in
    let ok : (let x : Result ClientMade ClientFault = Ok m in x) ≡ Ok made = sym (request-kept laws seq name arguments s t c) ∙ e in
    let same : m ≡ made = cc in
    subst (λ (x : ClientMade). Took (Request name arguments) seq s x) same (record { outstanding = λ P h. h; incoming = λ P h g. asks-more P s.incoming (kept_unparked (request_from seq name arguments)) h g.0 })
took laws seq (Response q ok name why body) s made w t c e =
    took-tables (Response q ok name why body) seq s made (without q s.outstanding) (λ P h. asks-filter P (λ k. not (k.entry.seq == q)) s.outstanding h) (laws.client.answered s seq q ok name why body made w e).requests
took laws seq (Event name body) s made w t c e =
    took-tables (Event name body) seq s made s.outstanding (λ P h. h) (laws.client.told s seq name body made e).requests
took laws seq (Other tag) s made w t c e =
    let same : made_without_writing s ≡ made = cc in
    subst (λ (x : ClientMade). Took (Other tag) seq s x) same (record { outstanding = λ P h. h; incoming = λ P h g. h })

-- ---- each step

requests-more : (P : Asked → Type 0) (ms ns : List Message) → All P (requests_among ms) → All P (requests_among ns) → All P (requests_among (ms ++ ns))
requests-more P ms ns h g = subst (λ (z : List Asked). All P z) (sym (requests-append ms ns)) (all-append P (requests_among ms) (requests_among ns) h g)

responses-more : (P : Answered → Type 0) (ms ns : List Message) → All P (responses_among ms) → All P (responses_among ns) → All P (responses_among (ms ++ ns))
responses-more P ms ns h g = subst (λ (z : List Answered). All P z) (sym (responses-append ms ns)) (all-append P (responses_among ms) (responses_among ns) h g)

-- one more number is used
abbrev by_more : ByNumber → ℕ → Asked → ByNumber
by_more by used q = λ n. if n == used + 1 then q else by n

not-next : (n used : ℕ) → n ≤ used → (n == used + 1) ≡ false
not-next n used h = grind (arith, nat_tests)

next-self : (n : ℕ) → (n == n) ≡ true
next-self n = grind (arith, nat_tests)

sent-later : (by : ByNumber) (used : ℕ) (next q : Asked) → IsSent by used q → IsSent (by_more by used next) (used + 1) q
sent-later by used next q h = (ap (λ (b : Bool). if b then next else by q.seq) (not-next q.seq used h.1) ∙ h.0, let low = h.1 in omega arith)

response-later : (by : ByNumber) (used : ℕ) (next : Asked) (a : Answered) → IsResponse by used a → IsResponse (by_more by used next) (used + 1) a
response-later by used next a h = (ap (λ (b : Bool). answer_to (if b then next else by a.request_seq)) (not-next a.request_seq used h.1) ∙ h.0, let low = h.1 in omega arith)

sent-next : (by : ByNumber) (used : ℕ) (q : Asked) → q.seq ≡ used + 1 → IsSent (by_more by used q) (used + 1) q
sent-next by used q e = (ap (λ (b : Bool). if b then q else by q.seq) (ap (λ n. n == used + 1) e ∙ next-self (used + 1)), omega (arith, e))

send-sent : {D : Type 0} (call : Call) (old new : World D) → Sends call old new → Sent old → Sent new
send-sent {D} call old new t g =
    let s : ClientSession = old.client in
    let m : Message = next_message s call in
    let q : Asked = asked_of (request_of (s.used + 1) call) in
    let next : ByNumber = by_more g.by s.used q in
    let more : (qs : List Asked) → All (IsSent g.by s.used) qs → All (IsSent next (s.used + 1)) qs = λ qs h. all-map (IsSent g.by s.used) (IsSent next (s.used + 1)) qs (λ x k. sent-later g.by s.used q x k) h in
    let mine : IsSent next (s.used + 1) q = sent-next g.by s.used q refl in
    let w : World D = client_said (after_send call s) (m ∷ []) old in
    let sent : Sent w = record {
      by = next;
      outstanding = asks-more (IsSent next (s.used + 1)) s.outstanding (kept_unparked (request_of (s.used + 1) call)) (more (asks s.outstanding) g.outstanding) mine;
      up = requests-more (IsSent next (s.used + 1)) old.up (m ∷ []) (more (requests_among old.up) g.up) (mine, tt);
      kept = more (asks old.adapter.session.kept) g.kept;
      down = all-map (IsResponse g.by s.used) (IsResponse next (s.used + 1)) (responses_among old.down) (λ x k. response-later g.by s.used q x k) g.down;
      incoming = g.incoming;
      own_down = g.own_down;
      own_up = responses-more IsOwnResponse old.up (m ∷ []) g.own_up tt;
    } in
    subst (λ (x : World D). Sent x) (sym t.is) sent

-- what the client answers its kept request is its response
own-response : (n q : ℕ) (terminal : Terminal) → All IsOwnResponse (responses_among (terminal_response n q terminal ∷ []))
own-response n q (Started process shell) = (refl, tt)
own-response n q Refused = (refl, tt)

no-request : (P : Asked → Type 0) (n q : ℕ) (terminal : Terminal) → All P (requests_among (terminal_response n q terminal ∷ []))
no-request P n q (Started process shell) = tt
no-request P n q Refused = tt

sent-same : (by : ByNumber) (used : ℕ) (q : Asked) → IsSent by used q → IsSent by (used + 1) q
sent-same by used q h = (h.0, let low = h.1 in omega arith)

response-same : (by : ByNumber) (used : ℕ) (a : Answered) → IsResponse by used a → IsResponse by (used + 1) a
response-same by used a h = (h.0, let low = h.1 in omega arith)

answer-sent : {D : Type 0} (q : ℕ) (terminal : Terminal) (old new : World D) → Answers q terminal old new → Sent old → Sent new
answer-sent {D} q terminal old new t g =
    let s : ClientSession = old.client in
    let m : Message = next_terminal_response s q terminal in
    let more : (qs : List Asked) → All (IsSent g.by s.used) qs → All (IsSent g.by (s.used + 1)) qs = λ qs h. all-map (IsSent g.by s.used) (IsSent g.by (s.used + 1)) qs (λ x k. sent-same g.by s.used x k) h in
    let w : World D = client_said (after_terminal_response q s) (m ∷ []) old in
    let sent : Sent w = record {
      by = g.by;
      outstanding = more (asks s.outstanding) g.outstanding;
      up = requests-more (IsSent g.by (s.used + 1)) old.up (m ∷ []) (more (requests_among old.up) g.up) (no-request (IsSent g.by (s.used + 1)) (s.used + 1) q terminal);
      kept = more (asks old.adapter.session.kept) g.kept;
      down = all-map (IsResponse g.by s.used) (IsResponse g.by (s.used + 1)) (responses_among old.down) (λ x k. response-same g.by s.used x k) g.down;
      incoming = asks-filter IsOwn (λ k. not (k.entry.seq == q)) s.incoming g.incoming;
      own_down = g.own_down;
      own_up = responses-more IsOwnResponse old.up (m ∷ []) g.own_up (own-response (s.used + 1) q terminal);
    } in
    subst (λ (x : World D). Sent x) (sym t.is) sent

-- the adapter made a step, of what came and what is left under way to it
made-sent : {D : Type 0} (old : World D) (ups : List Message) (came : List Asked) (response : Option Answered) (made : Made) (v : D) (g : Sent old) → GoesWell old.adapter.session came response made → AskNoneByName made.drafts → All (IsSent g.by old.client.used) came
    → All (IsSent g.by old.client.used) (requests_among ups) → All IsOwnResponse (responses_among ups) → Sent (world_made old ups made v)
made-sent {D} old ups came response made v g well by_name c u o =
    let s : Session = old.adapter.session in
    let n = old.client.used in
    let opened : All (IsSent g.by n) (asks s.kept ++ came) = all-append (IsSent g.by n) (asks s.kept) came g.kept c in
    record {
      by = g.by;
      outstanding = g.outstanding;
      up = u;
      kept = subst (λ (z : List Asked). All (IsSent g.by n) z) (sym well.kept) (open-are g.by n made.drafts (asks s.kept ++ came) opened);
      down = responses-more (IsResponse g.by n) old.down (numbered_messages s.used made.drafts) g.down (responses-are g.by n s.used made.drafts (asks s.kept ++ came) well.each opened);
      incoming = g.incoming;
      own_down = requests-more IsOwn old.down (numbered_messages s.used made.drafts) g.own_down (own-are s.used made.drafts by_name);
      own_up = o;
    }

-- of the first message under way, and of the others
requests-first : (P : Asked → Type 0) (o : Option Asked) (qs : List Asked) → All P (option_to_list o ++ qs) → All P (option_to_list o) × All P qs
requests-first P None qs h = (tt, h)
requests-first P (Some q) qs h = ((h.0, tt), h.1)

responses-first : (P : Answered → Type 0) (o : Option Answered) (qs : List Answered) → All P (option_to_list o ++ qs) → All P (option_to_list o) × All P qs
responses-first P None qs h = (tt, h)
responses-first P (Some q) qs h = ((h.0, tt), h.1)

module _ {D : Type 0} (laws : Laws) (shown : D → Shown) (follows : Goes D) (limits : Settings) (r : AreInRange limits) where
  up-sent : (old new : World D) → ComesUp follows old new → Stands limits old → Sent old → Sent new
  up-sent old new t st g =
      let s : Session = old.adapter.session in
      let made : Made = t.step.session.made in
      let v = t.step.adapter.debuggee in
      let came : List Asked = option_to_list (request_as t.message.seq t.message.kind) in
      let can : CanMake t.plan made = can_make follows t.plan old.adapter.debuggee v made t.step.session.carried in
      let well : GoesWell s came (response_as t.message.kind) made = laws.goes_well.take s t.message t.plan made (orderly s st.adapter_within) t.taken can in
      let asked = requests-first (IsSent g.by old.client.used) (request_as t.message.seq t.message.kind) (requests_among t.later) (subst (λ (z : List Message). All (IsSent g.by old.client.used) (requests_among z)) t.first g.up) in
      let answered = responses-first IsOwnResponse (response_as t.message.kind) (responses_among t.later) (subst (λ (z : List Message). All IsOwnResponse (responses_among z)) t.first g.own_up) in
      subst (λ (x : World D). Sent x) (sym (written follows old new t.later t.plan t.step.adapter t.step.session t.step.is)) (made-sent old t.later came (response_as t.message.kind) made v g well (laws.only_ask.take s t.message t.plan made t.taken can) asked.0 asked.1 answered.1)

  turn-sent : (old new : World D) → Turns shown follows old new → Stands limits old → Sent old → Sent new
  turn-sent old new t st g =
      let s : Session = old.adapter.session in
      let made : Made = t.step.session.made in
      let v = t.step.adapter.debuggee in
      let can : CanMake t.plan made = can_make follows t.plan old.adapter.debuggee v made t.step.session.carried in
      let well : GoesWell s [] None made = laws.goes_well.turn (shown old.adapter.debuggee) s t.plan made (orderly s st.adapter_within) t.turned can in
      subst (λ (x : World D). Sent x) (sym (written follows old new old.up t.plan t.step.adapter t.step.session t.step.is)) (made-sent old old.up [] None made v g well (laws.only_ask.turn (shown old.adapter.debuggee) s t.plan made t.turned can) tt g.up g.own_up)

  poll-sent : (old new : World D) → Polls follows old new → Stands limits old → Sent old → Sent new
  poll-sent old new t st g =
      let s : Session = old.adapter.session in
      let made : Made = t.step.session.made in
      let v = t.step.adapter.debuggee in
      let can : CanMake (polls s) made = can_make follows (polls s) old.adapter.debuggee v made t.step.session.carried in
      let well : GoesWell s [] None made = laws.goes_well.poll s made can in
      subst (λ (x : World D). Sent x) (sym (written follows old new old.up (polls s) t.step.adapter t.step.session t.step.is)) (made-sent old old.up [] None made v g well (laws.only_ask.poll s made can) tt g.up g.own_up)

  emit-sent : (name : List ℕ) (body : Option Data) (old new : World D) → Emits follows name body old new → Stands limits old → Sent old → Sent new
  emit-sent name body old new t st g =
      let s : Session = old.adapter.session in
      let made : Made = t.step.session.made in
      let v = t.step.adapter.debuggee in
      let can : CanMake (emits name body s) made = can_make follows (emits name body s) old.adapter.debuggee v made t.step.session.carried in
      let well : GoesWell s [] None made = laws.goes_well.emit name body s made can in
      subst (λ (x : World D). Sent x) (sym (written follows old new old.up (emits name body s) t.step.adapter t.step.session t.step.is)) (made-sent old old.up [] None made v g well (laws.only_ask.emit name body s made can) tt g.up g.own_up)

  down-sent : (old new : World D) → ComesDown old new → Stands limits old → Sent old → Sent new
  down-sent old new t st g =
      let s : ClientSession = old.client in
      let made : ClientMade = t.made in
      let m : Message = t.message in
      let told = down-first limits old m t.later t.first st in
      let comes = down-comes limits old m t.later r t.first st in
      let leaves = kind-leaves laws m.seq m.kind s made told.0 comes st.client_within t.taken in
      let took = took laws m.seq m.kind s made st.client_within told.0 comes t.taken in
      let asked = requests-first IsOwn (request_as m.seq m.kind) (requests_among t.later) (subst (λ (z : List Message). All IsOwn (requests_among z)) t.first g.own_down) in
      let answered = responses-first (IsResponse g.by s.used) (response_as m.kind) (responses_among t.later) (subst (λ (z : List Message). All (IsResponse g.by s.used) (responses_among z)) t.first g.down) in
      let same_up : old.up ≡ old.up ++ made.written = sym (ap (λ (z : List Message). old.up ++ z) leaves.silent ∙ append-nil old.up) in
      let w : World D = client_said made.after made.written (record old { down = t.later }) in
      let sent : Sent w = record {
        by = g.by;
        outstanding = subst (λ (z : ℕ). All (IsSent g.by z) (asks made.after.outstanding)) (sym leaves.used) (took.outstanding (IsSent g.by s.used) g.outstanding);
        up = subst (λ (z : List Message). All (IsSent g.by made.after.used) (requests_among z)) same_up (subst (λ (z : ℕ). All (IsSent g.by z) (requests_among old.up)) (sym leaves.used) g.up);
        kept = subst (λ (z : ℕ). All (IsSent g.by z) (asks old.adapter.session.kept)) (sym leaves.used) g.kept;
        down = subst (λ (z : ℕ). All (IsResponse g.by z) (responses_among t.later)) (sym leaves.used) answered.1;
        incoming = took.incoming IsOwn g.incoming asked.0;
        own_down = asked.1;
        own_up = subst (λ (z : List Message). All IsOwnResponse (responses_among z)) same_up g.own_up;
      } in
      subst (λ (x : World D). Sent x) (sym t.is) sent

  step-sent : (old new : World D) → Step shown follows old new → Stands limits old → Sent old → Sent new
  step-sent old new (by_sending call t) st g = send-sent call old new t g
  step-sent old new (by_answering q terminal t) st g = answer-sent q terminal old new t g
  step-sent old new (by_coming_up t) st g = up-sent old new t st g
  step-sent old new (by_coming_down t) st g = down-sent old new t st g
  step-sent old new (by_turning t) st g = turn-sent old new t st g
  step-sent old new (by_polling t) st g = poll-sent old new t st g
  step-sent old new (by_emitting name body t) st g = emit-sent name body old new t st g
  step-sent old new (by_exchanging t) st g =
      subst (λ (w : World D). Sent w) (sym t.all_else) (record { by = g.by; outstanding = g.outstanding; up = g.up; kept = g.kept; down = g.down; incoming = g.incoming; own_down = g.own_down; own_up = g.own_up })

no-one : ℕ → Asked
no-one n = record { seq = n; command = []; arguments = None }

fresh-sent : {D : Type 0} (limits : Settings) (debuggee : D) → Sent (fresh_world limits debuggee)
fresh-sent limits debuggee = record { by = no-one; outstanding = tt; up = tt; kept = tt; down = tt; incoming = tt; own_down = tt; own_up = tt }

pub schedule-sent : {D : Type 0} (laws : Laws) (shown : D → Shown) (follows : Goes D) (limits : Settings) (debuggee : D) (w : World D) → AreInRange limits → Schedule shown follows limits debuggee w → Sent w
schedule-sent laws shown follows limits debuggee _ r starts = fresh-sent limits debuggee
schedule-sent laws shown follows limits debuggee _ r (goes v w s t) =
    step-sent laws shown follows limits r v w t (schedule-stands laws shown follows limits debuggee v r s) (schedule-sent laws shown follows limits debuggee v r s)

-- ---- counted by number and command, and so counted whole

abbrev name_of : Asked → Name
name_of q = record { seq = q.seq; command = q.command }

abbrev name_in : Answered → Name
name_in a = record { seq = a.request_seq; command = a.command }

long-if : {A B : Type 0} (b c : Bool) (x : A) (xs : List A) (y : B) (ys : List B) → b ≡ c → length xs ≡ length ys → length (if b then x ∷ xs else xs) ≡ length (if c then y ∷ ys else ys)
long-if true true x xs y ys e l = omega (arith, l)
long-if false false x xs y ys e l = l
long-if true false x xs y ys e l = cc
long-if false true x xs y ys e l = cc

module _ (by : ByNumber) (test : Asked → Bool) where
  abbrev by_number : Name → Bool
  by_number n = test (by n.seq)

  requests-counted : (qs : List Asked) → All (λ q. by q.seq ≡ q) qs → count test qs ≡ count_names by_number (map name_of qs)
  requests-counted [] h = refl
  requests-counted (q ∷ qs) h = long-if (test q) (test (by q.seq)) q (filter test qs) (name_of q) (filter by_number (map name_of qs)) (ap test (sym h.0)) (requests-counted qs h.1)

  responses-counted : (rs : List Answered) → count test (map (λ (a : Answered). by a.request_seq) rs) ≡ count_names by_number (map name_in rs)
  responses-counted [] = refl
  responses-counted (a ∷ rs) = long-if (test (by a.request_seq)) (test (by a.request_seq)) (by a.request_seq) (filter test (map (λ (x : Answered). by x.request_seq) rs)) (name_in a) (filter by_number (map name_in rs)) refl (responses-counted rs)

answers-are : (by : ByNumber) (rs : List Answered) → All (λ a. answer_to (by a.request_seq) ≡ a) rs → map answer_to (map (λ (a : Answered). by a.request_seq) rs) ≡ rs
answers-are by [] h = refl
answers-are by (a ∷ rs) h = ap (λ (z : Answered). z ∷ map answer_to (map (λ (x : Answered). by x.request_seq) rs)) h.0 ∙ ap (λ (z : List Answered). a ∷ z) (answers-are by rs h.1)

placed : (by : ByNumber) (unanswered under_way kept : List Asked) (responses : List Answered) → All (λ q. by q.seq ≡ q) unanswered → All (λ q. by q.seq ≡ q) under_way → All (λ q. by q.seq ≡ q) kept → All (λ a. answer_to (by a.request_seq) ≡ a) responses
    → ((test : Name → Bool) → count_names test (map name_of unanswered) ≡ count_names test (map name_of under_way) + (count_names test (map name_of kept) + count_names test (map name_in responses))) → AreInOnePlace unanswered under_way kept responses
placed by unanswered under_way kept responses u w k a h =
    record {
      answered = map (λ (x : Answered). by x.request_seq) responses;
      answers = answers-are by responses a;
      place = λ test.
          let named = h (by_number by test) in
          let x = requests-counted by test unanswered u in
          let y = requests-counted by test under_way w in
          let z = requests-counted by test kept k in
          let c = responses-counted by test responses in
          omega arith;
    }

names-asks : (ks : List Kept) → map name_of (asks ks) ≡ names_of ks
names-asks [] = refl
names-asks (k ∷ ks) = ap (λ (z : List Name). name_of (asked_of k.entry) ∷ z) (names-asks ks)

names-one : (seq : ℕ) (kind : Kind) (ms : List Message) → map name_of (requests_among ms) ≡ asked_in ms → map name_of (option_to_list (request_as seq kind) ++ requests_among ms) ≡ asked_as seq kind ++ asked_in ms
names-one seq (Request name arguments) ms e = ap (λ (z : List Name). record { seq = seq; command = name } ∷ z) e
names-one seq (Response q ok name why body) ms e = e
names-one seq (Event name body) ms e = e
names-one seq (Other tag) ms e = e

names-requests : (ms : List Message) → map name_of (requests_among ms) ≡ asked_in ms
names-requests [] = refl
names-requests (m ∷ ms) = names-one m.seq m.kind ms (names-requests ms)

names-in-one : (kind : Kind) (ms : List Message) → map name_in (responses_among ms) ≡ answered_in ms → map name_in (option_to_list (response_as kind) ++ responses_among ms) ≡ answered_as kind ++ answered_in ms
names-in-one (Request name arguments) ms e = e
names-in-one (Response q ok name why body) ms e = ap (λ (z : List Name). record { seq = q; command = name } ∷ z) e
names-in-one (Event name body) ms e = e
names-in-one (Other tag) ms e = e

names-responses : (ms : List Message) → map name_in (responses_among ms) ≡ answered_in ms
names-responses [] = refl
names-responses (m ∷ ms) = names-in-one m.kind ms (names-responses ms)

-- the same counts of the same names
renamed : (test : Name → Bool) (a a2 b b2 c c2 d d2 : List Name) → a2 ≡ a → b2 ≡ b → c2 ≡ c → d2 ≡ d → count_names test a ≡ count_names test b + (count_names test c + count_names test d) → count_names test a2 ≡ count_names test b2 + (count_names test c2 + count_names test d2)
renamed test a a2 b b2 c c2 d d2 p q u v h =
    let x = ap (count_names test) p in
    let y = ap (count_names test) q in
    let z = ap (count_names test) u in
    let w = ap (count_names test) v in
    omega (arith, h, x, y, z, w)

pub places : {D : Type 0} (w : World D) → AreNamedInOnePlace w → Sent w → AreInOnePlace (asks w.client.outstanding) (requests_among w.up) (asks w.adapter.session.kept) (responses_among w.down)
places w h g =
    let first : (qs : List Asked) → All (IsSent g.by w.client.used) qs → All (λ q. g.by q.seq ≡ q) qs = λ qs k. all-map (IsSent g.by w.client.used) (λ q. g.by q.seq ≡ q) qs (λ x y. y.0) k in
    let answers : All (λ a. answer_to (g.by a.request_seq) ≡ a) (responses_among w.down) = all-map (IsResponse g.by w.client.used) (λ a. answer_to (g.by a.request_seq) ≡ a) (responses_among w.down) (λ x y. y.0) g.down in
    placed g.by (asks w.client.outstanding) (requests_among w.up) (asks w.adapter.session.kept) (responses_among w.down) (first (asks w.client.outstanding) g.outstanding) (first (requests_among w.up) g.up) (first (asks w.adapter.session.kept) g.kept) answers
    (λ test. renamed test (names_of w.client.outstanding) _ (asked_in w.up) _ (names_of w.adapter.session.kept) _ (answered_in w.down) _ (names-asks w.client.outstanding) (names-requests w.up) (names-asks w.adapter.session.kept) (names-responses w.down) (h test))

own-all : (asked : Option ℕ) → All (λ q. own_request q.seq ≡ q) (own_requests asked)
own-all None = tt
own-all (Some n) = (refl, tt)

pub own-places : {D : Type 0} (w : World D) → OwnIsNamedInOnePlace w → Sent w → AreInOnePlace (own_requests w.adapter.session.asked) (requests_among w.down) (asks w.client.incoming) (responses_among w.up)
own-places w h g =
    placed own_request (own_requests w.adapter.session.asked) (requests_among w.down) (asks w.client.incoming) (responses_among w.up) (own-all w.adapter.session.asked) g.own_down g.incoming g.own_up
    (λ test. renamed test (own_names w.adapter.session.asked) _ (asked_in w.down) _ (names_of w.client.incoming) _ (answered_in w.up) _ refl (names-requests w.down) (names-asks w.client.incoming) (names-responses w.up) (h test))
