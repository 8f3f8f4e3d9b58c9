-- A session that goes well goes on as its history does.
use Rattle.std.proofs.Common.{◌≡◌, inl, inr, ℕ, ◌+◌, List, [], ◌∷◌, ◌++◌, Bool, true, false, Option, None, length, refl, sym, ap, ◌∙◌, subst, append_assoc, arith, length-append}
use Rattle.std.specs.Prelude.{not, option_to_list}
use Rattle.std.proofs.lemmas.List.{append-nil}
use Rattle.dap_history.specs.Answers.{Answers, AnswersOne}
use Rattle.dap_history.specs.History.{Entry, In, Out, ReferencesEnd, Came, Asked, Answered, waiting, has_request_seq, without_answered, ins_of, outs_of, AreNumberedAfter, response_at, response_as, request_as, Went}
use Rattle.dap_history.specs.HistoryLaws.{HistoriesGrow}
use Rattle.dap_envelope.specs.declared.message.Message.{Message}
use Rattle.dap_message.specs.declared.outcome.Outcome.TheVariants.{Success, Failure}
use Rattle.dap_plan.specs.Answering.{answered_by, AnswersEach, open_after, GoesWell}
use Rattle.dap_plan.specs.Plan.{Made, entries_of, references_end_if}
use Rattle.dap_outbox.specs.Draft.{success, failure, explained, came_out, Draft, reply, emit, ask, ask_named, named_in, named_of, request_of, requests_in, message_of, names_of, numbered_messages, outs}
use Rattle.dap_plan.specs.References.{references_then, references_after, references_of}
use Rattle.dap_tables.specs.References.{LiveReferences, no_references}
use Rattle.dap_plan.specs.Session.{Session, own_requests}
use Rattle.dap_history.specs.Requests.{asked_of, asks}
use Rattle.dap_plan.specs.Follows.{Follows}
use Rattle.dap_plan.specs.Merged.{Merges}
use Rattle.dap_plan.proofs.Kept.{all-open}
use Rattle.dap_plan.proofs.Merging.{merges-append, merges-answered, merges-filter}

-- ---- lists

pub references_after-append : (refs : LiveReferences) (h k : List Entry) → references_after refs (h ++ k) ≡ references_after (references_after refs h) k
references_after-append refs [] k = refl
references_after-append refs (e ∷ h) k = references_after-append (references_then e refs) h k

pub ins_of-outs : (used : ℕ) (ds : List Draft) → ins_of (outs used ds) ≡ []
ins_of-outs used [] = refl
ins_of-outs used (d ∷ ds) = ins_of-outs (used + 1) ds

outs_of-outs : (used : ℕ) (ds : List Draft) → outs_of (outs used ds) ≡ numbered_messages used ds
outs_of-outs used [] = refl
outs_of-outs used (d ∷ ds) = ap (λ (ms : List Message). message_of (used + 1) d ∷ ms) (outs_of-outs (used + 1) ds)

length-numbered_messages : (used : ℕ) (ds : List Draft) → length (numbered_messages used ds) ≡ length ds
length-numbered_messages used [] = refl
length-numbered_messages used (d ∷ ds) = let ih = length-numbered_messages (used + 1) ds in omega arith

seq-of-message : (n : ℕ) (d : Draft) → (message_of n d).seq ≡ n
seq-of-message n (reply r (success body names)) = refl
seq-of-message n (reply r (failure f)) = refl
seq-of-message n (reply r (explained told)) = refl
seq-of-message n (reply r (came_out (Success body))) = refl
seq-of-message n (reply r (came_out (Failure message body))) = refl
seq-of-message n (emit event) = refl
seq-of-message n ask = refl
seq-of-message n (ask_named command arguments) = refl

numbered_messages-are : (used : ℕ) (ds : List Draft) → AreNumberedAfter used (numbered_messages used ds)
numbered_messages-are used [] = tt
numbered_messages-are used (d ∷ ds) = (seq-of-message (used + 1) d, numbered_messages-are (used + 1) ds)

AreNumberedAfter-append : (n : ℕ) (xs ys : List Message) → AreNumberedAfter n xs → AreNumberedAfter (n + length xs) ys → AreNumberedAfter n (xs ++ ys)
AreNumberedAfter-append n [] ys p q = let e : n + 0 ≡ n = omega arith in subst (λ k. AreNumberedAfter k ys) e q
AreNumberedAfter-append n (x ∷ xs) ys p q =
    let e : n + length (x ∷ xs) ≡ (n + 1) + length xs = omega arith in
    (p.0, AreNumberedAfter-append (n + 1) xs ys p.1 (subst (λ k. AreNumberedAfter k ys) e q))

response-of-message : (n : ℕ) (d : Draft) → response_as (message_of n d).kind ≡ answered_by d
response-of-message n (reply r (success body names)) = refl
response-of-message n (reply r (failure f)) = refl
response-of-message n (reply r (explained told)) = refl
response-of-message n (reply r (came_out (Success body))) = refl
response-of-message n (reply r (came_out (Failure message body))) = refl
response-of-message n (emit event) = refl
response-of-message n ask = refl
response-of-message n (ask_named command arguments) = refl

-- the own requests among drafts, of both kinds
abbrev own_of : ℕ → Draft → List Asked
own_of n d = request_of n d ++ named_of n d

abbrev own_in : ℕ → List Draft → List Asked
own_in used [] = []
own_in used (d ∷ ds) = own_of (used + 1) d ++ own_in (used + 1) ds

one-merged : (n : ℕ) (d : Draft) → Merges (request_of n d) (named_of n d) (own_of n d)
one-merged n (reply r answer) = (refl, refl)
one-merged n (emit event) = (refl, refl)
one-merged n ask = inl ([], refl, (refl, refl))
one-merged n (ask_named command arguments) = inr ([], refl, (refl, refl))

all-merged : (used : ℕ) (ds : List Draft) → Merges (requests_in used ds) (named_in used ds) (own_in used ds)
all-merged used [] = (refl, refl)
all-merged used (d ∷ ds) = merges-append (request_of (used + 1) d) (named_of (used + 1) d) (own_of (used + 1) d) (requests_in (used + 1) ds) (named_in (used + 1) ds) (own_in (used + 1) ds) (one-merged (used + 1) d) (all-merged (used + 1) ds)

request-of-message : (n : ℕ) (d : Draft) → option_to_list (request_as (message_of n d).seq (message_of n d).kind) ≡ own_of n d
request-of-message n (reply r (success body names)) = refl
request-of-message n (reply r (failure f)) = refl
request-of-message n (reply r (explained told)) = refl
request-of-message n (reply r (came_out (Success body))) = refl
request-of-message n (reply r (came_out (Failure message body))) = refl
request-of-message n (emit event) = refl
request-of-message n ask = refl
request-of-message n (ask_named command arguments) = refl

-- ---- drafts that are handed out

pub record After (h k : List Entry) (left : List Asked) : Type 0 where
  pub waits : waiting Came k ≡ left
  pub answers : Answers Came k

one-answered : (d : Draft) (ds : List Draft) (open_requests : List Asked) → AnswersEach (d ∷ ds) open_requests → AnswersOne open_requests (answered_by d) × AnswersEach ds (without_answered (answered_by d) open_requests)
one-answered (reply r answer) ds open_requests each = ((asked_of r, each.0, refl), each.1)
one-answered (emit event) ds open_requests each = (tt, each)
one-answered ask ds open_requests each = (tt, each)
one-answered (ask_named command arguments) ds open_requests each = (tt, each)

pub after-outs : (laws : HistoriesGrow) (used : ℕ) (ds : List Draft) (h : List Entry) (open_requests : List Asked) → waiting Came h ≡ open_requests → Answers Came h → AnswersEach ds open_requests → After h (h ++ outs used ds) (open_after ds open_requests)
after-outs laws used [] h open_requests w all each = rw (append-nil h) (record { waits = w; answers = all })
after-outs laws used (d ∷ ds) h open_requests w all each =
    let e : Entry = Out (message_of (used + 1) d) (names_of d) in
    let is : response_at Came e ≡ answered_by d = response-of-message (used + 1) d in
    let now : waiting Came (h ++ e ∷ []) ≡ without_answered (answered_by d) open_requests =
    laws.waiting_then Came h e ∙ (append-nil (without_answered (response_at Came e) (waiting Came h)) ∙ (ap (λ (x : Option Answered). without_answered x (waiting Came h)) is ∙ ap (without_answered (answered_by d)) w)) in
    let both = one-answered d ds open_requests each in
    let one : AnswersOne (waiting Came h) (response_at Came e) = rw (w, is) both.0 in
    let so_far : Answers Came (h ++ e ∷ []) = laws.answers_then Came h e all one in
    let ih = after-outs laws (used + 1) ds (h ++ e ∷ []) (without_answered (answered_by d) open_requests) now so_far both.1 in
    let whole : (h ++ e ∷ []) ++ outs (used + 1) ds ≡ h ++ (e ∷ outs (used + 1) ds) = append_assoc h (e ∷ []) (outs (used + 1) ds) in
    let moved : After h ((h ++ e ∷ []) ++ outs (used + 1) ds) (open_after (d ∷ ds) open_requests) = record { waits = ih.waits; answers = ih.answers } in
    subst (λ (k : List Entry). After h k (open_after (d ∷ ds) open_requests)) whole moved

-- the end of the references says nothing of requests
after-drop : (laws : HistoriesGrow) (drops : Bool) (h : List Entry) (open_requests : List Asked) → waiting Came h ≡ open_requests → Answers Came h → After h (h ++ references_end_if drops) open_requests
after-drop laws false h open_requests w all = rw (append-nil h) (record { waits = w; answers = all })
after-drop laws true h open_requests w all =
    record {
      waits = laws.waiting_then Came h ReferencesEnd ∙ (append-nil (without_answered None (waiting Came h)) ∙ (all-open (waiting Came h) ∙ w));
      answers = laws.answers_then Came h ReferencesEnd all tt;
    }

outs_of-references_end_if : (drops : Bool) → outs_of (references_end_if drops) ≡ []
outs_of-references_end_if true = refl
outs_of-references_end_if false = refl

pub outs_of-entries : (laws : HistoriesGrow) (used : ℕ) (m : Made) → outs_of (entries_of used m) ≡ numbered_messages used m.drafts
outs_of-entries laws used m =
    laws.outs_append (references_end_if m.drops) (outs used m.drafts) ∙ (ap (λ (ms : List Message). ms ++ outs_of (outs used m.drafts)) (outs_of-references_end_if m.drops) ∙ outs_of-outs used m.drafts)

ins_of-references_end_if : (drops : Bool) → ins_of (references_end_if drops) ≡ []
ins_of-references_end_if true = refl
ins_of-references_end_if false = refl

pub ins_of-entries : (laws : HistoriesGrow) (used : ℕ) (m : Made) → ins_of (entries_of used m) ≡ []
ins_of-entries laws used m =
    laws.ins_append (references_end_if m.drops) (outs used m.drafts) ∙ (ap (λ (ms : List Message). ms ++ ins_of (outs used m.drafts)) (ins_of-references_end_if m.drops) ∙ ins_of-outs used m.drafts)

-- ---- responses that came: what is made is none

went-outs : (laws : HistoriesGrow) (used : ℕ) (ds : List Draft) (h : List Entry) → Answers Went h → Answers Went (h ++ outs used ds)
went-outs laws used [] h all = rw (append-nil h) all
went-outs laws used (d ∷ ds) h all =
    let e : Entry = Out (message_of (used + 1) d) (names_of d) in
    let rest = went-outs laws (used + 1) ds (h ++ e ∷ []) (laws.answers_then Went h e all tt) in
    subst (λ (k : List Entry). Answers Went k) (append_assoc h (e ∷ []) (outs (used + 1) ds)) rest

went-drop : (laws : HistoriesGrow) (drops : Bool) (h : List Entry) → Answers Went h → Answers Went (h ++ references_end_if drops)
went-drop laws true h all = laws.answers_then Went h ReferencesEnd all tt
went-drop laws false h all = rw (append-nil h) all

went-entries : (laws : HistoriesGrow) (used : ℕ) (m : Made) (h : List Entry) → Answers Went h → Answers Went (h ++ entries_of used m)
went-entries laws used m h all =
    subst (λ (k : List Entry). Answers Went k) (append_assoc h (references_end_if m.drops) (outs used m.drafts)) (went-outs laws used m.drafts (h ++ references_end_if m.drops) (went-drop laws m.drops h all))

-- ---- own requests: those that are written wait

asked-outs : (laws : HistoriesGrow) (used : ℕ) (ds : List Draft) (h : List Entry) (open_requests : List Asked) → waiting Went h ≡ open_requests → waiting Went (h ++ outs used ds) ≡ open_requests ++ own_in used ds
asked-outs laws used [] h open_requests w = ap (waiting Went) (append-nil h) ∙ (w ∙ sym (append-nil open_requests))
asked-outs laws used (d ∷ ds) h open_requests w =
    let e : Entry = Out (message_of (used + 1) d) (names_of d) in
    let now : waiting Went (h ++ e ∷ []) ≡ open_requests ++ own_of (used + 1) d =
    laws.waiting_then Went h e ∙ (ap (λ (qs : List Asked). qs ++ option_to_list (request_as (message_of (used + 1) d).seq (message_of (used + 1) d).kind)) (all-open (waiting Went h) ∙ w) ∙ ap (λ (qs : List Asked). open_requests ++ qs) (request-of-message (used + 1) d)) in
    let rest = asked-outs laws (used + 1) ds (h ++ e ∷ []) (open_requests ++ own_of (used + 1) d) now in
    let moved : waiting Went ((h ++ e ∷ []) ++ outs (used + 1) ds) ≡ open_requests ++ own_in used (d ∷ ds) = rest ∙ append_assoc open_requests (own_of (used + 1) d) (own_in (used + 1) ds) in
    subst (λ (k : List Entry). waiting Went k ≡ open_requests ++ own_in used (d ∷ ds)) (append_assoc h (e ∷ []) (outs (used + 1) ds)) moved

asked-drop : (laws : HistoriesGrow) (drops : Bool) (h : List Entry) → waiting Went (h ++ references_end_if drops) ≡ waiting Went h
asked-drop laws true h = laws.waiting_then Went h ReferencesEnd ∙ (append-nil (without_answered None (waiting Went h)) ∙ all-open (waiting Went h))
asked-drop laws false h = ap (waiting Went) (append-nil h)

asked-entries : (laws : HistoriesGrow) (used : ℕ) (m : Made) (h : List Entry) (open_requests : List Asked) → waiting Went h ≡ open_requests → waiting Went (h ++ entries_of used m) ≡ open_requests ++ own_in used m.drafts
asked-entries laws used m h open_requests w =
    subst (λ (k : List Entry). waiting Went k ≡ open_requests ++ own_in used m.drafts) (append_assoc h (references_end_if m.drops) (outs used m.drafts)) (asked-outs laws used m.drafts (h ++ references_end_if m.drops) open_requests (asked-drop laws m.drops h ∙ w))

-- ---- the step

-- what stands of a history without the requests that wait
pub record Counted (s : Session) (h : List Entry) : Type 0 where
  pub references : s.references ≡ references_of h
  pub used : s.used ≡ length (outs_of h)
  pub numbered_so : AreNumberedAfter 0 (outs_of h)

counted-then : (laws : HistoriesGrow) (s : Session) (came : List Asked) (response : Option Answered) (m : Made) (h : List Entry) → GoesWell s came response m → Counted s h → Counted m.after (h ++ entries_of s.used m)
counted-then laws s came response m h well c =
    let all_outs : outs_of (h ++ entries_of s.used m) ≡ outs_of h ++ numbered_messages s.used m.drafts =
    laws.outs_append h (entries_of s.used m) ∙ ap (λ (ms : List Message). outs_of h ++ ms) (outs_of-entries laws s.used m) in
    let more = length-append (outs_of h) (numbered_messages s.used m.drafts) in
    let many = length-numbered_messages s.used m.drafts in
    let whole = ap length all_outs in
    let was = c.used in
    let now = well.used in
    let from : 0 + length (outs_of h) ≡ s.used = omega arith in
    record {
      references = well.references ∙ (ap (λ (refs : LiveReferences). references_after refs (entries_of s.used m)) c.references ∙ sym (references_after-append no_references h (entries_of s.used m)));
      used = omega arith;
      numbered_so = rw all_outs (AreNumberedAfter-append 0 (outs_of h) (numbered_messages s.used m.drafts) c.numbered_so (rw from (numbered_messages-are s.used m.drafts)));
    }

-- a step over a history h that the requests `came` and the response have just joined
pub goes_on : (laws : HistoriesGrow) (s : Session) (came : List Asked) (response : Option Answered) (m : Made) (h : List Entry) → GoesWell s came response m → waiting Came h ≡ asks s.kept ++ came → Answers Came h → Merges (without_answered response (own_requests s.asked)) (without_answered response (asks s.own)) (waiting Went h) → Answers Went h → Counted s h → Follows m.after (h ++ entries_of s.used m)
goes_on laws s came response m h well w all own went c =
    let dropped = after-drop laws m.drops h (asks s.kept ++ came) w all in
    let done = after-outs laws s.used m.drafts (h ++ references_end_if m.drops) (asks s.kept ++ came) dropped.waits dropped.answers well.each in
    let whole : (h ++ references_end_if m.drops) ++ outs s.used m.drafts ≡ h ++ entries_of s.used m = append_assoc h (references_end_if m.drops) (outs s.used m.drafts) in
    let moved = subst (λ (k : List Entry). After (h ++ references_end_if m.drops) k (open_after m.drafts (asks s.kept ++ came))) whole done in
    let count = counted-then laws s came response m h well c in
    record {
      kept = well.kept ∙ sym moved.waits;
      answers = moved.answers;
      accepted = went-entries laws s.used m h went;
      asked =
          rw (well.asked, well.own, asked-entries laws s.used m h (waiting Went h) refl)
          (merges-append (without_answered response (own_requests s.asked)) (without_answered response (asks s.own)) (waiting Went h) (requests_in s.used m.drafts) (named_in s.used m.drafts) (own_in s.used m.drafts) own (all-merged s.used m.drafts));
      references = count.references;
      used = count.used;
      numbered = count.numbered_so;
    }

-- without a request that came
pub goes_on-alone : (laws : HistoriesGrow) (s : Session) (m : Made) (h : List Entry) → GoesWell s [] None m → Follows s h → Follows m.after (h ++ entries_of s.used m)
goes_on-alone laws s m h well f =
    goes_on laws s [] None m h well (sym f.kept ∙ sym (append-nil (asks s.kept))) f.answers (rw (all-open (own_requests s.asked), all-open (asks s.own)) f.asked) f.accepted (record { references = f.references; used = f.used; numbered_so = f.numbered })

-- with a message that came
pub goes_on-delivered : (laws : HistoriesGrow) (s : Session) (x : Message) (m : Made) (h : List Entry) → GoesWell s (option_to_list (request_as x.seq x.kind)) (response_as x.kind) m → Follows s h → Follows m.after (h ++ In x ∷ entries_of s.used m)
goes_on-delivered laws s x m h well f =
    let w : waiting Came (h ++ In x ∷ []) ≡ asks s.kept ++ option_to_list (request_as x.seq x.kind) =
    laws.waiting_then Came h (In x) ∙ ap (λ (qs : List Asked). qs ++ option_to_list (request_as x.seq x.kind)) (all-open (waiting Came h) ∙ sym f.kept) in
    let all : Answers Came (h ++ In x ∷ []) = laws.answers_then Came h (In x) f.answers tt in
    let left : waiting Went (h ++ In x ∷ []) ≡ without_answered (response_as x.kind) (waiting Went h) =
    laws.waiting_then Went h (In x) ∙ append-nil (without_answered (response_as x.kind) (waiting Went h)) in
    let own : Merges (without_answered (response_as x.kind) (own_requests s.asked)) (without_answered (response_as x.kind) (asks s.own)) (waiting Went (h ++ In x ∷ [])) =
    rw left (merges-filter (λ (q : Asked). not (has_request_seq q.seq (response_as x.kind))) (own_requests s.asked) (asks s.own) (waiting Went h) f.asked) in
    let went : Answers Went (h ++ In x ∷ []) = laws.answers_then Went h (In x) f.accepted (merges-answered (own_requests s.asked) (asks s.own) (waiting Went h) (response_as x.kind) f.asked well.accepted) in
    let same : outs_of (h ++ In x ∷ []) ≡ outs_of h = laws.outs_append h (In x ∷ []) ∙ append-nil (outs_of h) in
    let refs : references_of (h ++ In x ∷ []) ≡ references_of h = references_after-append no_references h (In x ∷ []) in
    let told = goes_on laws s (option_to_list (request_as x.seq x.kind)) (response_as x.kind) m (h ++ In x ∷ []) well w all own went (record { references = f.references ∙ sym refs; used = f.used ∙ ap length (sym same); numbered_so = rw same f.numbered }) in
    subst (λ (k : List Entry). Follows m.after k) (append_assoc h (In x ∷ []) (entries_of s.used m)) told
