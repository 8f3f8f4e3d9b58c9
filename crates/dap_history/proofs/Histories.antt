-- One entry more at the end of a history.
use Rattle.std.proofs.Common.{◌≡◌, ℕ, List, [], ◌∷◌, ◌++◌, Bool, true, false, not, Option, Some, None, filter, refl, sym, ap, ◌∙◌, ◌⊎◌, inl, inr, append_assoc}
use Rattle.std.specs.Prelude.{if◌then◌else◌, ◌||◌, option_to_list}
use Rattle.std.specs.List.{list_any}
use Rattle.std.proofs.lemmas.List.Folds.{list_any-append}
use Rattle.std.proofs.lemmas.List.Elements.{filter-append}
use Rattle.dap_history.specs.History.{Entry, Way, Asked, Answered, waiting, if_unanswered, is_answered_in, has_request_seq, request_at, response_at, without_answered, In, Out, ReferencesEnd, ins_of, outs_of}
use Rattle.dap_envelope.specs.declared.message.Message.{Message}
use Rattle.dap_history.specs.Answers.{Answers, AnswersOne}
use Rattle.dap_history.specs.HistoryLaws.{HistoriesGrow}
use Rattle.dap_history.specs.Received.{AreRead}
use Rattle.dap_envelope.specs.Meaning.{Msg}

cut-if_unanswered : (a b : Bool) (q : Asked) → (if a || b then [] else q ∷ []) ≡ filter (λ (p : Asked). not b) (if a then [] else q ∷ [])
cut-if_unanswered true true q = refl
cut-if_unanswered true false q = refl
cut-if_unanswered false true q = refl
cut-if_unanswered false false q = refl

same-filter : (x : Option Answered) (a : Bool) (q : Asked) → filter (λ (p : Asked). not (has_request_seq q.seq x)) (if a then [] else q ∷ []) ≡ filter (λ (p : Asked). not (has_request_seq p.seq x)) (if a then [] else q ∷ [])
same-filter x true q = refl
same-filter x false q = refl

or-false : (b : Bool) → (b || false) ≡ b
or-false true = refl
or-false false = refl

if_unanswered-snoc : (way : Way) (o : Option Asked) (h : List Entry) (e : Entry) → if_unanswered way o (h ++ e ∷ []) ≡ without_answered (response_at way e) (if_unanswered way o h)
if_unanswered-snoc way None h e = refl
if_unanswered-snoc way (Some q) h e =
    ap (λ (b : Bool). if b then [] else q ∷ [])
    (list_any-append (λ x. has_request_seq q.seq (response_at way x)) h (e ∷ [])
    ∙ ap (λ (b : Bool). list_any (λ x. has_request_seq q.seq (response_at way x)) h || b) (or-false (has_request_seq q.seq (response_at way e))))
    ∙ (cut-if_unanswered (is_answered_in way q.seq h) (has_request_seq q.seq (response_at way e)) q
    ∙ same-filter (response_at way e) (is_answered_in way q.seq h) q)

if_unanswered-last : (way : Way) (o : Option Asked) → if_unanswered way o [] ++ [] ≡ option_to_list o
if_unanswered-last way None = refl
if_unanswered-last way (Some q) = refl

waiting-snoc : (way : Way) (h : List Entry) (e : Entry) → waiting way (h ++ e ∷ []) ≡ without_answered (response_at way e) (waiting way h) ++ option_to_list (request_at way e)
waiting-snoc way [] e = if_unanswered-last way (request_at way e)
waiting-snoc way (x ∷ h) e =
    let first = if_unanswered-snoc way (request_at way x) h e in
    let rest = waiting-snoc way h e in
    let joined = filter-append (λ (q : Asked). not (has_request_seq q.seq (response_at way e))) (if_unanswered way (request_at way x) h) (waiting way h) in
    rw (first, rest, joined) (sym (append_assoc (without_answered (response_at way e) (if_unanswered way (request_at way x) h)) (without_answered (response_at way e) (waiting way h)) (option_to_list (request_at way e))))

no-end : {X : Type 0} (bs : List X) (x : X) (after : List X) → bs ++ x ∷ after ≡ [] → ⊥
no-end [] x after q = cc
no-end (b ∷ bs) x after q = cc

-- an element of a list with one more at its end is that one, or stands before it
at_end_or_before : {X : Type 0} (before : List X) (x : X) (after : List X) (h : List X) (e : X) → before ++ x ∷ after ≡ h ++ e ∷ [] → ((before ≡ h) × (x ≡ e)) ⊎ ((rest : List X) × (before ++ x ∷ rest ≡ h))
at_end_or_before [] x after [] e q = inl (refl, cc)
at_end_or_before [] x after (y ∷ ys) e q = inr (ys, cc)
at_end_or_before (b ∷ bs) x after [] e q = absurd (no-end bs x after cc)
at_end_or_before (b ∷ bs) x after (y ∷ ys) e q =
    let tail : bs ++ x ∷ after ≡ ys ++ e ∷ [] = cc in
    let head : b ≡ y = cc in
    elim (at_end_or_before bs x after ys e tail) [ inl p ↦ inl (cc, p.1) | inr p ↦ inr (p.0, cc) ]

Answers-snoc : (way : Way) (h : List Entry) (e : Entry) → Answers way h → AnswersOne (waiting way h) (response_at way e) → Answers way (h ++ e ∷ [])
Answers-snoc way h e all one before x after q =
    elim (at_end_or_before before x after h e q) [
      | inl p ↦ rw (p.0, p.1) one
      | inr p ↦ all before x p.0 p.1
    ]

Answers-nil : (way : Way) → Answers way []
Answers-nil way before x after q = absurd (no-end before x after q)

ins_of-append : (h k : List Entry) → ins_of (h ++ k) ≡ ins_of h ++ ins_of k
ins_of-append [] k = refl
ins_of-append (In m ∷ h) k = ap (λ (ms : List Message). m ∷ ms) (ins_of-append h k)
ins_of-append (Out m names ∷ h) k = ins_of-append h k
ins_of-append (ReferencesEnd ∷ h) k = ins_of-append h k

outs_of-append : (h k : List Entry) → outs_of (h ++ k) ≡ outs_of h ++ outs_of k
outs_of-append [] k = refl
outs_of-append (In m ∷ h) k = outs_of-append h k
outs_of-append (Out m names ∷ h) k = ap (λ (ms : List Message). m ∷ ms) (outs_of-append h k)
outs_of-append (ReferencesEnd ∷ h) k = outs_of-append h k

read-more : (xs : List (List ℕ)) (ms : List Message) (x : List ℕ) (m : Message) → AreRead xs ms → Msg x m → AreRead (xs ++ x ∷ []) (ms ++ m ∷ [])
read-more [] [] x m r e = (e, tt)
read-more [] (y ∷ ms) x m r e = absurd r
read-more (y ∷ xs) [] x m r e = absurd r
read-more (y ∷ xs) (z ∷ ms) x m r e = (r.0, read-more xs ms x m r.1 e)

pub histories_grow : HistoriesGrow
histories_grow = record {
  waiting_then = waiting-snoc;
  answers_none = Answers-nil;
  answers_then = Answers-snoc;
  ins_append = ins_of-append;
  outs_append = outs_of-append;
  read_then = read-more;
}
