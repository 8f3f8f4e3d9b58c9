-- A session goes on as its history does, one entry after the other.
use Rattle.std.proofs.Common.{◌≡◌, ℕ, ◌+◌, List, [], ◌∷◌, ◌++◌, length, refl, sym, ap, ◌∙◌, subst, arith, length-append}
use Rattle.std.specs.Prelude.{option_to_list}
use Rattle.std.proofs.lemmas.List.{append-nil}
use Rattle.dap_history.specs.Answers.{Answers, AnswersOne}
use Rattle.dap_history.specs.History.{Entry, In, Out, Came, Went, Asked, waiting, without_answered, outs_of, AreNumberedAfter, request_at, response_at}
use Rattle.dap_history.specs.HistoryLaws.{HistoriesGrow}
use Rattle.dap_envelope.specs.declared.message.Message.{Message}
use Rattle.dap_client.specs.Seen.{Seen, nothing_seen, after_in, after_out, seen_then, seen_after, seen_in}
use Rattle.dap_client.specs.Session.{Session}
use Rattle.dap_history.specs.Requests.{asks}
use Rattle.dap_client.specs.Follows.{Follows}
use Rattle.dap_client.proofs.Waiting.{all_left}

-- a session after a history, in which these requests of the adapter wait
pub record Going (s : Session) (came : List Asked) (h : List Entry) : Type 0 where
  pub outstanding : asks s.outstanding ≡ waiting Went h
  pub accepted : Answers Went h
  pub incoming : waiting Came h ≡ came
  pub written : Answers Came h
  pub seen : s.seen ≡ seen_in h
  pub used : s.used ≡ length (outs_of h)
  pub numbered : AreNumberedAfter 0 (outs_of h)

pub going : (s : Session) (h : List Entry) → Follows s h → Going s (asks s.incoming) h
going s h f = record { outstanding = f.outstanding; accepted = f.accepted; incoming = sym f.incoming; written = f.written; seen = f.seen; used = f.used; numbered = f.numbered }

pub follows : (s : Session) (came : List Asked) (h : List Entry) → Going s came h → came ≡ asks s.incoming → Follows s h
follows s came h g is = record { outstanding = g.outstanding; accepted = g.accepted; incoming = sym is ∙ sym g.incoming; written = g.written; seen = g.seen; used = g.used; numbered = g.numbered }

-- ---- lists

seen_after-append : (s : Seen) (h k : List Entry) → seen_after s (h ++ k) ≡ seen_after (seen_after s h) k
seen_after-append s [] k = refl
seen_after-append s (e ∷ h) k = seen_after-append (seen_then e s) h k

AreNumberedAfter-append : (n : ℕ) (xs ys : List Message) → AreNumberedAfter n xs → AreNumberedAfter (n + length xs) ys → AreNumberedAfter n (xs ++ ys)
AreNumberedAfter-append n [] ys p q = let e : n + 0 ≡ n = omega arith in subst (λ k. AreNumberedAfter k ys) e q
AreNumberedAfter-append n (x ∷ xs) ys p q =
    let e : n + length (x ∷ xs) ≡ (n + 1) + length xs = omega arith in
    (p.0, AreNumberedAfter-append (n + 1) xs ys p.1 (subst (λ k. AreNumberedAfter k ys) e q))

-- ---- a message came

pub then_in : (laws : HistoriesGrow) (s next : Session) (came : List Asked) (m : Message) (h : List Entry) → Going s came h
    → asks next.outstanding ≡ without_answered (response_at Went (In m)) (asks s.outstanding)
    → AnswersOne (asks s.outstanding) (response_at Went (In m))
    → next.seen ≡ after_in m.kind s.seen
    → next.used ≡ s.used
    → Going next (came ++ option_to_list (request_at Came (In m))) (h ++ In m ∷ [])
then_in laws s next came m h g left one seen used =
    let same : outs_of (h ++ In m ∷ []) ≡ outs_of h = laws.outs_append h (In m ∷ []) ∙ append-nil (outs_of h) in
    record {
      outstanding = left ∙ (ap (without_answered (response_at Went (In m))) g.outstanding ∙ sym (laws.waiting_then Went h (In m) ∙ append-nil (without_answered (response_at Went (In m)) (waiting Went h))));
      accepted = laws.answers_then Went h (In m) g.accepted (subst (λ (qs : List Asked). AnswersOne qs (response_at Went (In m))) g.outstanding one);
      incoming = laws.waiting_then Came h (In m) ∙ (ap (λ (qs : List Asked). qs ++ option_to_list (request_at Came (In m))) (all_left (waiting Came h) ∙ g.incoming));
      written = laws.answers_then Came h (In m) g.written tt;
      seen = seen ∙ (ap (after_in m.kind) g.seen ∙ sym (seen_after-append nothing_seen h (In m ∷ [])));
      used = used ∙ (g.used ∙ ap length (sym same));
      numbered = rw same g.numbered;
    }

-- ---- a message went

pub then_out : (laws : HistoriesGrow) (s next : Session) (came : List Asked) (m : Message) (h : List Entry) → Going s came h
    → asks next.outstanding ≡ asks s.outstanding ++ option_to_list (request_at Went (Out m []))
    → AnswersOne came (response_at Came (Out m []))
    → next.seen ≡ after_out m.seq m.kind s.seen
    → m.seq ≡ s.used + 1
    → next.used ≡ s.used + 1
    → Going next (without_answered (response_at Came (Out m [])) came) (h ++ Out m [] ∷ [])
then_out laws s next came m h g more one seen number used =
    let e : Entry = Out m [] in
    let joined : outs_of (h ++ e ∷ []) ≡ outs_of h ++ m ∷ [] = laws.outs_append h (e ∷ []) in
    let long = ap length joined in
    let both = length-append (outs_of h) (m ∷ []) in
    let was = g.used in
    let place : m.seq ≡ (0 + length (outs_of h)) + 1 = omega arith in
    record {
      outstanding = more ∙ (ap (λ (qs : List Asked). qs ++ option_to_list (request_at Went e)) (g.outstanding ∙ sym (all_left (waiting Went h))) ∙ sym (laws.waiting_then Went h e));
      accepted = laws.answers_then Went h e g.accepted tt;
      incoming = laws.waiting_then Came h e ∙ (append-nil (without_answered (response_at Came e) (waiting Came h)) ∙ (ap (without_answered (response_at Came e)) g.incoming));
      written = laws.answers_then Came h e g.written (subst (λ (qs : List Asked). AnswersOne qs (response_at Came e)) (sym g.incoming) one);
      seen = seen ∙ (ap (after_out m.seq m.kind) g.seen ∙ sym (seen_after-append nothing_seen h (e ∷ [])));
      used = omega arith;
      numbered = rw joined (AreNumberedAfter-append 0 (outs_of h) (m ∷ []) g.numbered (place, tt));
    }
