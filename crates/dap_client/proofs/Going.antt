-- Each step goes on as its history does.
use Rattle.std.proofs.Common.{◌≡◌, ℕ, ◌+◌, List, [], ◌∷◌, ◌++◌, Bool, true, false, Option, Some, None, Result, Ok, Err, length, refl, sym, ap, ◌∙◌, subst, append_assoc, map}
use Rattle.std.specs.Prelude.{bytes_eq, nat_le, nat_lt, option_to_list, if◌then◌else◌}
use Rattle.std.proofs.lemmas.List.{append-nil}
use Rattle.std.proofs.lemmas.Slice.Eq.{bytes_eq-Decides}
use Rattle.serde_json.specs.Data.{Data}
use Rattle.dap_frame.specs.Settings.{Settings}
use Rattle.dap_command.specs.Command.{command_named, name_of}
use Rattle.dap_call.specs.CallTree.{call_tree, command_of}
use Rattle.dap_history.specs.Answers.{AnswersOne}
use Rattle.dap_history.specs.History.{Asked, Answered, Entry, In, Out, Came, Went, without_answered, request_as, response_as, request_at, response_at, ins_of}
use Rattle.dap_history.specs.HistoryLaws.{HistoriesGrow}
use Rattle.dap_message.specs.MessageParts.{failure_response}
use Rattle.dap_call.specs.declared.call.Call.{Call}
use Rattle.dap_command.specs.declared.command.Command.{Command}
use Rattle.dap_command.specs.declared.command.Command.TheVariants as command
use Rattle.dap_body.specs.declared.failure.Failure.{Failure}
use Rattle.dap_envelope.specs.declared.message.Message.{Message}
use Rattle.dap_envelope.specs.declared.message.Kind.{Kind}
use Rattle.dap_envelope.specs.declared.message.Kind.TheVariants.{Request, Response, Event, Other}
use Rattle.dap_call.specs.Terminal.{run_in_terminal}
use Rattle.dap_tables.specs.Outstanding.{contains_seq, kept_unparked, entry_with, HasDistinctSeqs}
use Rattle.dap_tables.specs.declared.entry.Entry.{Entry as Waiting}
use Rattle.dap_client.specs.declared.fault.ClientFault.{ClientFault}
use Rattle.dap_client.specs.declared.fault.ClientFault.TheVariants.{ReferenceLimit, RepeatedSeq, CommandMismatch, SeqExhausted}
use Rattle.dap_client.specs.Changes.{signal_named}
use Rattle.dap_client.specs.Laws.{EachStepGoesOn}
use Rattle.dap_client.specs.Seen.{Seen, known_after, after_request, after_response, after_event, after_in, after_out}
use Rattle.dap_client.specs.Sending.{next_message, request_of, after_send}
use Rattle.dap_client.specs.Session.{Session, fresh_session}
use Rattle.dap_client.specs.TerminalResponse.{next_terminal_response, first_terminal_refusal, after_terminal_response}
use Rattle.dap_client.specs.Within.{IsWithin}
use Rattle.dap_client.specs.declared.terminal.Terminal.{Terminal}
use Rattle.dap_client.specs.declared.terminal.Terminal.TheVariants.{Started, Refused}
use Rattle.dap_history.specs.Requests.{asked_of, asks}
use Rattle.dap_client.specs.Follows.{Follows}
use Rattle.dap_client.specs.Taking.{Made, made_without_writing, entries_of, failure_in, made_by_declining, request_from, made_by_keeping, keeps_or_declines, made_by_answer, answered_within, takes_answer, takes_as}
use Rattle.dap_client.proofs.Growing.{Going, going, follows, then_in, then_out}
use Rattle.dap_client.proofs.Waiting.{all_left, asks-append, found, left-without, new-alone, new-gone}
use Rattle.dap_client.proofs.TerminalRequests.{entry-there, answered-is-kept}

-- ---- nothing yet

opened-follows : HistoriesGrow → (limits : Settings) → Follows (fresh_session limits) []
opened-follows laws limits = record {
  outstanding = refl;
  accepted = laws.answers_none Went;
  incoming = refl;
  written = laws.answers_none Came;
  seen = refl;
  used = refl;
  numbered = tt;
}

-- ---- send

-- a command's name is its own
named : (c : Command) → command_named (name_of c) ≡ Some c
named command.Initialize = refl
named _ = refl

send-follows : (laws : HistoriesGrow) (s : Session) (c : Call) (h : List Entry) → Follows s h → Follows (after_send c s) (h ++ Out (next_message s c) [] ∷ [])
send-follows laws s c h f =
    follows (after_send c s) _ (h ++ Out (next_message s c) [] ∷ [])
    (then_out laws s (after_send c s) (asks s.incoming) (next_message s c) h (going s h f)
    (asks-append s.outstanding (kept_unparked (request_of (s.used + 1) c) ∷ []))
    tt
    (ap (λ (o : Option Command). after_request (s.used + 1) o (call_tree c) s.seen) (sym (named (command_of c))))
    refl refl)
    (all_left (asks s.incoming))

-- ---- answer

-- the request that is answered, among those that wait
response-goes-out : (laws : HistoriesGrow) (s : Session) (request_seq : ℕ) (m : Message) (r : Waiting) (h : List Entry)
    → response_as m.kind ≡ Some (record { request_seq = request_seq; command = r.command }) → request_as m.seq m.kind ≡ None → after_out m.seq m.kind s.seen ≡ s.seen → m.seq ≡ s.used + 1
    → HasDistinctSeqs s.incoming → entry_with request_seq s.incoming ≡ Some r
    → Follows s h → Follows (after_terminal_response request_seq s) (h ++ Out m [] ∷ [])
response-goes-out laws s request_seq m r h answers no_request seen number d is f =
    let a : Answered = record { request_seq = request_seq; command = r.command } in
    follows (after_terminal_response request_seq s) _ (h ++ Out m [] ∷ [])
    (then_out laws s (after_terminal_response request_seq s) (asks s.incoming) m h (going s h f)
    (sym (ap (λ (o : Option Asked). asks s.outstanding ++ option_to_list o) no_request ∙ append-nil (asks s.outstanding)))
    (subst (λ (o : Option Answered). AnswersOne (asks s.incoming) o) (sym answers) (asked_of r, found request_seq s.incoming r d is, refl))
    (sym seen) number refl)
    (ap (λ (o : Option Answered). without_answered o (asks s.incoming)) answers ∙ left-without a s.incoming)

response-follows : (terminal : Terminal) (laws : HistoriesGrow) (s : Session) (request_seq : ℕ) (r : Waiting) (h : List Entry) → HasDistinctSeqs s.incoming → entry_with request_seq s.incoming ≡ Some r → run_in_terminal ≡ r.command
    → Follows s h → Follows (after_terminal_response request_seq s) (h ++ Out (next_terminal_response s request_seq terminal) [] ∷ [])
response-follows (Started process shell) laws s request_seq r h d is same = response-goes-out laws s request_seq (next_terminal_response s request_seq (Started process shell)) r h (ap (λ (c : List ℕ). Some (record { request_seq = request_seq; command = c })) same) refl refl refl d is
response-follows Refused laws s request_seq r h d is same = response-goes-out laws s request_seq (next_terminal_response s request_seq Refused) r h (ap (λ (c : List ℕ). Some (record { request_seq = request_seq; command = c })) same) refl refl refl d is

answer-follows : (laws : HistoriesGrow) (s : Session) (request_seq : ℕ) (terminal : Terminal) (closed : Bool) (h : List Entry) → IsWithin s → first_terminal_refusal request_seq closed s ≡ None
    → Follows s h → Follows (after_terminal_response request_seq s) (h ++ Out (next_terminal_response s request_seq terminal) [] ∷ [])
answer-follows laws s request_seq terminal closed h w none =
    let r = entry-there request_seq s.incoming (answered-is-kept request_seq closed s none) w.terminals in
    response-follows terminal laws s request_seq r.entry h w.incoming_distinct r.is (sym r.command)

-- ---- take

abbrev Goes : Session → Message → Made → List Entry → Type 0
Goes s m made h = Follows s h → Follows made.after (h ++ In m ∷ entries_of made)

-- what answers no request and is none
silent-goes : (laws : HistoriesGrow) (s : Session) (m : Message) (seen : Seen) (h : List Entry) → response_at Went (In m) ≡ None → request_at Came (In m) ≡ None → seen ≡ after_in m.kind s.seen → Goes s m (made_without_writing (record s { seen = seen })) h
silent-goes laws s m seen h no_response no_request is f =
    follows (record s { seen = seen }) _ (h ++ In m ∷ [])
    (then_in laws s (record s { seen = seen }) (asks s.incoming) m h (going s h f)
    (sym (ap (λ (x : Option Answered). without_answered x (asks s.outstanding)) no_response ∙ all_left (asks s.outstanding)))
    (subst (λ (x : Option Answered). AnswersOne (asks s.outstanding) x) (sym no_response) tt)
    is refl)
    (ap (λ (o : Option Asked). asks s.incoming ++ option_to_list o) no_request ∙ append-nil (asks s.incoming))

abbrev message_from : Waiting → Message
message_from r = record { seq = r.seq; kind = Request r.command r.arguments }

-- a request of the adapter came
request-came : (laws : HistoriesGrow) (s : Session) (r : Waiting) (h : List Entry) → Follows s h → Going s (asks s.incoming ++ asked_of r ∷ []) (h ++ In (message_from r) ∷ [])
request-came laws s r h f = then_in laws s s (asks s.incoming) (message_from r) h (going s h f) (sym (all_left (asks s.outstanding))) tt refl refl

-- it is kept
made_by_keeping-goes : (laws : HistoriesGrow) (s : Session) (r : Waiting) (h : List Entry) → Goes s (message_from r) (made_by_keeping r s) h
made_by_keeping-goes laws s r h f =
    let g = request-came laws s r h f in
    follows (made_by_keeping r s).after _ (h ++ In (message_from r) ∷ [])
    (record { outstanding = g.outstanding; accepted = g.accepted; incoming = g.incoming; written = g.written; seen = g.seen; used = g.used; numbered = g.numbered })
    (sym (asks-append s.incoming (kept_unparked r ∷ [])))

-- or it is answered at once
made_by_declining-goes : (laws : HistoriesGrow) (s : Session) (r : Waiting) (failure : Failure) (h : List Entry) → contains_seq r.seq s.incoming ≡ false → Goes s (message_from r) (made_by_declining r.seq r.command failure s) h
made_by_declining-goes laws s r failure h new f =
    let m : Message = message_from r in
    let q : Asked = asked_of r in
    let reply : Message = failure_response (s.used + 1) r.seq r.command failure in
    let out_went = then_out laws s (record s { used = s.used + 1 }) (asks s.incoming ++ q ∷ []) reply (h ++ In m ∷ []) (request-came laws s r h f)
    (sym (append-nil (asks s.outstanding))) (q, new-alone q s.incoming new, refl) refl refl refl in
    subst (λ (k : List Entry). Follows (record s { used = s.used + 1 }) k) (append_assoc h (In m ∷ []) (Out reply [] ∷ []))
    (follows (record s { used = s.used + 1 }) _ ((h ++ In m ∷ []) ++ Out reply [] ∷ []) out_went (new-gone q (record { request_seq = r.seq; command = r.command }) s.incoming refl new))

made-goes : (laws : HistoriesGrow) (s : Session) (m : Message) (whole made : Made) (h : List Entry) → Goes s m whole h → whole ≡ made → Goes s m made h
made-goes laws s m whole made h goes same f = subst (λ (x : Made). Follows x.after (h ++ In m ∷ entries_of x)) same (goes f)

declines-goes : (b : Bool) (laws : HistoriesGrow) (s : Session) (r : Waiting) (failure : Failure) (made : Made) (h : List Entry) → contains_seq r.seq s.incoming ≡ false
    → (if b then Ok (made_by_declining r.seq r.command failure s) else Err SeqExhausted) ≡ Ok made → Goes s (message_from r) made h
declines-goes true laws s r failure made h new e = made-goes laws s (message_from r) (made_by_declining r.seq r.command failure s) made h (made_by_declining-goes laws s r failure h new) (cc e)
declines-goes false laws s r failure made h new e = absurd (cc e)

keeps-goes : (o : Option Failure) (laws : HistoriesGrow) (s : Session) (r : Waiting) (made : Made) (h : List Entry) → contains_seq r.seq s.incoming ≡ false → keeps_or_declines o r s ≡ Ok made → Goes s (message_from r) made h
keeps-goes None laws s r made h new e = made-goes laws s (message_from r) (made_by_keeping r s) made h (made_by_keeping-goes laws s r h) (cc e)
keeps-goes (Some failure) laws s r made h new e = declines-goes (nat_lt s.used s.limits.seq) laws s r failure made h new e

request-goes : (b : Bool) (laws : HistoriesGrow) (s : Session) (r : Waiting) (made : Made) (h : List Entry) → contains_seq r.seq s.incoming ≡ b
    → (if b then Err (RepeatedSeq r.seq) else keeps_or_declines (failure_in r s) r s) ≡ Ok made → Goes s (message_from r) made h
request-goes true laws s r made h new e = absurd (cc e)
request-goes false laws s r made h new e = keeps-goes (failure_in r s) laws s r made h new e

-- a response answers the request of its number, which has its command
answer-goes : (laws : HistoriesGrow) (s : Session) (seq request_seq : ℕ) (ok : Bool) (name : List ℕ) (text : Option (List ℕ)) (body : Option Data) (r : Waiting) (h : List Entry)
    → HasDistinctSeqs s.outstanding → entry_with request_seq s.outstanding ≡ Some r → bytes_eq name r.command ≡ true
    → Goes s (record { seq = seq; kind = Response request_seq ok name text body }) (made_by_answer request_seq (after_response request_seq ok (command_named name) body s.seen) s) h
answer-goes laws s seq request_seq ok name text body r h d is same f =
    let m : Message = record { seq = seq; kind = Response request_seq ok name text body } in
    let next : Session = (made_by_answer request_seq (after_response request_seq ok (command_named name) body s.seen) s).after in
    follows next _ (h ++ In m ∷ [])
    (then_in laws s next (asks s.incoming) m h (going s h f)
    (sym (left-without (record { request_seq = request_seq; command = name }) s.outstanding))
    (asked_of r, found request_seq s.outstanding r d is, sym ((bytes_eq-Decides name r.command).0 same))
    refl refl)
    (append-nil (asks s.incoming))

within-goes : (b : Bool) (laws : HistoriesGrow) (s : Session) (m : Message) (whole : Made) (made : Made) (h : List Entry)
    → Goes s m whole h → (if b then Ok whole else Err ReferenceLimit) ≡ Ok made → Goes s m made h
within-goes true laws s m whole made h goes e f = let same : whole ≡ made = cc in subst (λ (x : Made). Follows x.after (h ++ In m ∷ entries_of x)) same (goes f)
within-goes false laws s m whole made h goes e f = cc

matching-goes : (b : Bool) (laws : HistoriesGrow) (s : Session) (seq request_seq : ℕ) (ok : Bool) (name : List ℕ) (text : Option (List ℕ)) (body : Option Data) (r : Waiting) (made : Made) (h : List Entry)
    → HasDistinctSeqs s.outstanding → entry_with request_seq s.outstanding ≡ Some r → bytes_eq name r.command ≡ b
    → (if b then answered_within request_seq ok name body s else Err (CommandMismatch request_seq)) ≡ Ok made
    → Goes s (record { seq = seq; kind = Response request_seq ok name text body }) made h
matching-goes true laws s seq request_seq ok name text body r made h d is same e =
    within-goes (nat_le (length (known_after ok (command_named name) body s.seen)) s.limits.references) laws s _ _ made h
    (answer-goes laws s seq request_seq ok name text body r h d is same) e
matching-goes false laws s seq request_seq ok name text body r made h d is same e = cc

response-goes : (o : Option Waiting) (laws : HistoriesGrow) (s : Session) (seq request_seq : ℕ) (ok : Bool) (name : List ℕ) (text : Option (List ℕ)) (body : Option Data) (made : Made) (h : List Entry)
    → HasDistinctSeqs s.outstanding → entry_with request_seq s.outstanding ≡ o → takes_answer o request_seq ok name body s ≡ Ok made
    → Goes s (record { seq = seq; kind = Response request_seq ok name text body }) made h
response-goes None laws s seq request_seq ok name text body made h d is e = cc
response-goes (Some r) laws s seq request_seq ok name text body made h d is e =
    matching-goes (bytes_eq name r.command) laws s seq request_seq ok name text body r made h d is refl e

quiet-goes : (laws : HistoriesGrow) (s : Session) (m : Message) (seen : Seen) (made : Made) (h : List Entry) → Goes s m (made_without_writing (record s { seen = seen })) h
    → (let given : Result Made ClientFault = Ok (made_without_writing (record s { seen = seen })) in given) ≡ Ok made → Goes s m made h
quiet-goes laws s m seen made h goes e f =
    let same : made_without_writing (record s { seen = seen }) ≡ made = cc in
    subst (λ (x : Made). Follows x.after (h ++ In m ∷ entries_of x)) same (goes f)

kind-goes : (laws : HistoriesGrow) (s : Session) (seq : ℕ) (kind : Kind) (made : Made) (h : List Entry) → HasDistinctSeqs s.outstanding → takes_as seq kind s ≡ Ok made → Goes s (record { seq = seq; kind = kind }) made h
kind-goes laws s seq (Request name arguments) made h d e = request-goes (contains_seq seq s.incoming) laws s (request_from seq name arguments) made h refl e
kind-goes laws s seq (Response request_seq ok name text body) made h d e = response-goes (entry_with request_seq s.outstanding) laws s seq request_seq ok name text body made h d refl e
kind-goes laws s seq (Event event body) made h d e =
    quiet-goes laws s _ (after_event (signal_named event) body s.seen) made h
    (silent-goes laws s (record { seq = seq; kind = Event event body }) (after_event (signal_named event) body s.seen) h refl refl refl) e
kind-goes laws s seq (Other tag) made h d e =
    quiet-goes laws s _ s.seen made h (silent-goes laws s (record { seq = seq; kind = Other tag }) s.seen h refl refl refl) e

-- ---- the law

none-come : (ms : List Message) → ins_of (map (λ written. Out written []) ms) ≡ []
none-come [] = refl
none-come (m ∷ ms) = none-come ms

pub each_step_goes_on : HistoriesGrow → EachStepGoesOn
each_step_goes_on laws = record {
  none_come = λ made. none-come made.written;
  opened = opened-follows laws;
  send = send-follows laws;
  answer = answer-follows laws;
  take = λ s m made h d e. kind-goes laws s m.seq m.kind made h d e;
}
