-- A request of whoever holds the adapter: that it is asked, and that the client answers it.
use Rattle.std.proofs.Common.{◌≡◌, ℕ, ◌+◌, ◌<◌, ◌≤◌, List, [], ◌∷◌, ◌++◌, Bool, true, false, Option, None, Some, length, refl, sym, ap, ◌∙◌, subst, true≢false, cond, arith, length-append}
use Rattle.std.specs.Prelude.{◌==◌, ◌||◌, filter, if◌then◌else◌, nat_lt, not}
use Rattle.std.specs.List.{AllByRecursion}
use Rattle.std.proofs.lemmas.Bool.{and_parts}
use Rattle.std.proofs.lemmas.Bool.Decides.{nat_tests}
use Rattle.std.proofs.lemmas.List.{append-nil}
use Rattle.std.proofs.lemmas.List.Elements.{filter-append}
use Rattle.serde_json.specs.Data.{Data}
use Rattle.dap_history.specs.History.{Asked, without_answered}
use Rattle.dap_history.specs.Requests.{asked_of, asks}
use Rattle.dap_outbox.specs.Draft.{ask_named, plain_success}
use Rattle.dap_tables.specs.Outstanding.{Kept, contains_seq, entry_with, kept_unparked, without}
use Rattle.dap_tables.specs.declared.entry.Entry.{Entry}
use Rattle.dap_plan.specs.Answering.{GoesWell, all_own, with_seq}
use Rattle.dap_plan.specs.Asking.{after_asking_named, request_asked, asks_named, may_ask}
use Rattle.dap_plan.specs.GivenLaws.{AllGiveLive}
use Rattle.dap_plan.specs.Laws.{CanMake}
use Rattle.dap_plan.specs.Plan.{Made}
use Rattle.dap_plan.specs.Session.{Session, own_requests, is_asked, IsOrderly, OwnStandApart}
use Rattle.dap_plan.specs.Taking.{after_own_response}
use Rattle.dap_plan.specs.Within.{IsWithin}
use Rattle.dap_plan.proofs.Kept.{IsKept, asks-append, both-false, contains-append, distinct-filter, distinct-more, contains-filter, length-filtered, all-open, walked-ask_named, walked-kept, walked-none}
use Rattle.dap_plan.proofs.Moves.{Moves, is-plain, moves-plain}
use Rattle.dap_plan.proofs.Own.{KeepsOwn, given-more, not-given}
use Rattle.dap_plan.proofs.Outcomes.{IsSound, AreBare, bare-live, references-plain}
use Rattle.dap_plan.proofs.Responses.{kept-as}

-- ---- found by its number

pub found-in : (seq : ℕ) (ks : List Kept) (r : Entry) → entry_with seq ks ≡ Some r → (contains_seq seq ks ≡ true) × ((r.seq == seq) ≡ true)
found-in seq [] r e = absurd cc
found-in seq (k ∷ ks) r e = by (k.entry.seq == seq) refl (found-in seq ks r) e
  where
    by : (b : Bool) → (k.entry.seq == seq) ≡ b → (entry_with seq ks ≡ Some r → (contains_seq seq ks ≡ true) × ((r.seq == seq) ≡ true)) → cond b (Some k.entry) (entry_with seq ks) ≡ Some r → ((b || contains_seq seq ks) ≡ true) × ((r.seq == seq) ≡ true)
    by true h ih e = let same : k.entry ≡ r = cc in (refl, subst (λ (x : Entry). (x.seq == seq) ≡ true) same h)
    by false h ih e = ih e

pub not-found : (seq : ℕ) (ks : List Kept) → entry_with seq ks ≡ None → contains_seq seq ks ≡ false
not-found seq [] e = refl
not-found seq (k ∷ ks) e = by (k.entry.seq == seq) (not-found seq ks) e
  where
    by : (b : Bool) → (entry_with seq ks ≡ None → contains_seq seq ks ≡ false) → cond b (Some k.entry) (entry_with seq ks) ≡ None → (b || contains_seq seq ks) ≡ false
    by true ih e = absurd cc
    by false ih e = ih e

more-is-other : (n k : ℕ) → n < k → (k == n) ≡ false
more-is-other n k l = grind (arith, nat_tests)

same-number : (a b : ℕ) → (a == b) ≡ true → a ≡ b
same-number a b h = grind (arith, nat_tests)

-- ---- beside the request for a terminal

-- its number is none of theirs
pub asked-apart : (s : Session) (seq : ℕ) → OwnStandApart s → contains_seq seq s.own ≡ true → is_asked seq s.asked ≡ false
asked-apart s seq o h = by s.asked refl
  where
    by-number : (b : Bool) (n : ℕ) → (n == seq) ≡ b → contains_seq n s.own ≡ false → b ≡ false
    by-number false n e f = refl
    by-number true n e f = absurd (true≢false (sym h ∙ subst (λ x. contains_seq x s.own ≡ false) (same-number n seq e) f))

    by : (asked : Option ℕ) → s.asked ≡ asked → is_asked seq asked ≡ false
    by None e = refl
    by (Some n) e = by-number (n == seq) n refl (o.apart n e)

none-of-it : (asked : Option ℕ) (seq : ℕ) → is_asked seq asked ≡ false → with_seq seq (own_requests asked) ≡ []
none-of-it None seq h = refl
none-of-it (Some n) seq h = rw h refl

stays-asked : (asked : Option ℕ) (seq : ℕ) (command : List ℕ) → is_asked seq asked ≡ false → without_answered (Some (record { request_seq = seq; command = command })) (own_requests asked) ≡ own_requests asked
stays-asked None seq command h = refl
stays-asked (Some n) seq command h = rw h refl

-- ---- the client answers it

-- just one has that number, and that one alone waits no more
pub record AnswersOwn (s : Session) (r : Entry) : Type 0 where
  pub one : with_seq r.seq (all_own s) ≡ asked_of r ∷ []
  pub asked : own_requests s.asked ≡ without_answered (Some (record { request_seq = r.seq; command = r.command })) (own_requests s.asked)
  pub left : asks (without r.seq s.own) ≡ without_answered (Some (record { request_seq = r.seq; command = r.command })) (asks s.own)

answers-kept : (s : Session) (k : Kept) → OwnStandApart s → IsKept s.own k → contains_seq k.entry.seq s.own ≡ true → AnswersOwn s k.entry
answers-kept s k o i h =
    let w = walked-kept plain_success s.own k o.distinct i in
    let apart = asked-apart s k.entry.seq o h in
    record {
      one =
          filter-append (λ (q : Asked). q.seq == k.entry.seq) (own_requests s.asked) (asks s.own)
          ∙ (ap (λ (qs : List Asked). qs ++ with_seq k.entry.seq (asks s.own)) (none-of-it s.asked k.entry.seq apart) ∙ w.each.0);
      asked = sym (stays-asked s.asked k.entry.seq k.entry.command apart);
      left = sym w.left_is;
    }

answers-own : (s : Session) (seq : ℕ) (r : Entry) → OwnStandApart s → entry_with seq s.own ≡ Some r → AnswersOwn s r
answers-own s seq r o e =
    let k = kept-as seq s.own r e in
    let found = found-in seq s.own r e in
    let here : contains_seq r.seq s.own ≡ true = subst (λ x. contains_seq x s.own ≡ true) (sym (same-number r.seq seq found.1)) found.0 in
    subst (λ (x : Entry). AnswersOwn s x) k.entry (answers-kept s k.one o k.kept (subst (λ (x : Entry). contains_seq x.seq s.own ≡ true) (sym k.entry) here))

all-filtered : (n : ℕ) (p : Kept → Bool) (ks : List Kept) → AllByRecursion (λ (x : Kept). x.entry.seq ≤ n) ks → AllByRecursion (λ (x : Kept). x.entry.seq ≤ n) (filter p ks)
all-filtered n p [] h = tt
all-filtered n p (k ∷ ks) h = by (p k) (all-filtered n p ks h.1)
  where
    by : (b : Bool) → AllByRecursion (λ (x : Kept). x.entry.seq ≤ n) (filter p ks) → AllByRecursion (λ (x : Kept). x.entry.seq ≤ n) (if b then k ∷ filter p ks else filter p ks)
    by true rest = (h.0, rest)
    by false rest = rest

own-answered : (s : Session) (seq : ℕ) → KeepsOwn s (after_own_response seq s)
own-answered s seq o =
    let fewer = length-filtered (λ (k : Kept). not (k.entry.seq == seq)) s.own in
    let places = o.places in
    record {
      distinct = distinct-filter (λ (k : Kept). not (k.entry.seq == seq)) s.own o.distinct;
      apart = λ n e. contains-filter n (λ (k : Kept). not (k.entry.seq == seq)) s.own (o.apart n e);
      given = all-filtered s.used (λ (k : Kept). not (k.entry.seq == seq)) s.own o.given;
      asked_given = o.asked_given;
      places = omega arith;
    }

answered-well : (s : Session) (r : Entry) → AnswersOwn s r → GoesWell s [] (Some (record { request_seq = r.seq; command = r.command })) (after_own_response r.seq s)
answered-well s r a =
    let w = walked-none (asks s.kept ++ []) in
    record {
      each = tt;
      kept = sym (append-nil (asks s.kept));
      accepted = (asked_of r, a.one, refl);
      asked = a.asked ∙ sym (append-nil (without_answered (Some (record { request_seq = r.seq; command = r.command })) (own_requests s.asked)));
      own = a.left ∙ sym (append-nil (without_answered (Some (record { request_seq = r.seq; command = r.command })) (asks s.own)));
      used = omega arith;
      references = refl;
      limits = refl;
    }

-- of a response with its number and its command
pub own-response : (s : Session) (seq : ℕ) (command : List ℕ) (r : Entry) → entry_with seq s.own ≡ Some r → command ≡ r.command → IsSound (IsOrderly s) s [] (Some (record { request_seq = seq; command = command })) (after_own_response seq s)
own-response s seq command r e same =
    let number : r.seq ≡ seq = same-number r.seq seq (found-in seq s.own r e).1 in
    let m : Made = after_own_response seq s in
    let plain = moves-plain s m (is-plain s _ refl refl refl) in
    record {
      well = λ (o : IsOrderly s). rw (sym number, same) (answered-well s r (answers-own s seq r o.own e));
      moves = plain;
      stays = λ suits. suits;
      own = own-answered s seq;
      by_name = tt;
      gives = tt;
    }

-- ---- it is asked

named-bare : (command : List ℕ) (arguments : Option Data) → AreBare (ask_named command arguments ∷ [])
named-bare command arguments = (refl, refl, tt)

asked-moves : (command : List ℕ) (arguments : Option Data) (s : Session) → Moves s (after_asking_named command arguments s)
asked-moves command arguments s = moves-plain s (after_asking_named command arguments s) (is-plain s _ refl refl refl)

asked-well : (command : List ℕ) (arguments : Option Data) (s : Session) → GoesWell s [] None (after_asking_named command arguments s)
asked-well command arguments s =
    let m : Made = after_asking_named command arguments s in
    let w = walked-ask_named command arguments (asks s.kept ++ []) in
    record {
      each = w.each;
      kept = sym (append-nil (asks s.kept)) ∙ sym w.left_is;
      accepted = tt;
      asked = sym (append-nil (own_requests s.asked)) ∙ ap (λ (qs : List Asked). qs ++ []) (sym (all-open (own_requests s.asked)));
      own =
          asks-append s.own (kept_unparked (request_asked (s.used + 1) command arguments) ∷ [])
          ∙ ap (λ (qs : List Asked). qs ++ asked_of (request_asked (s.used + 1) command arguments) ∷ []) (sym (all-open (asks s.own)));
      used = refl;
      references = references-plain s m (named-bare command arguments) (is-plain s _ refl refl refl);
      limits = refl;
    }

all-more : (n : ℕ) (ks : List Kept) (k : Kept) → AllByRecursion (λ (x : Kept). x.entry.seq ≤ n) ks → k.entry.seq ≤ n → AllByRecursion (λ (x : Kept). x.entry.seq ≤ n) (ks ++ k ∷ [])
all-more n [] k h l = (l, tt)
all-more n (x ∷ ks) k h l = (h.0, all-more n ks k h.1 l)

less-of : (a b : ℕ) → nat_lt a b ≡ true → a < b
less-of a b h = grind (arith, nat_tests)

contains-more : (n : ℕ) (ks : List Kept) (k : Kept) → contains_seq n ks ≡ false → (k.entry.seq == n) ≡ false → contains_seq n (ks ++ k ∷ []) ≡ false
contains-more n ks k h other = contains-append n ks (k ∷ []) ∙ both-false (contains_seq n ks) ((k.entry.seq == n) || false) h (both-false (k.entry.seq == n) false other refl)

asked-own : (command : List ℕ) (arguments : Option Data) (s : Session) → may_ask s ≡ true → KeepsOwn s (after_asking_named command arguments s)
asked-own command arguments s may o =
    let new : Kept = kept_unparked (request_asked (s.used + 1) command arguments) in
    let count = length-append s.own (new ∷ []) in
    let room = less-of (length s.own + 1) s.limits.requests (and_parts (nat_lt (length s.own + 1) s.limits.requests) (not (contains_seq (s.used + 1) s.own)) may).0 in
    record {
      distinct = distinct-more s.own new o.distinct (not-given s.used (s.used + 1) s.own o.given (omega arith));
      apart = λ n e. let small = o.asked_given n e in contains-more n s.own new (o.apart n e) (more-is-other n (s.used + 1) (omega arith));
      given = all-more (s.used + 1) s.own new (given-more s.used (s.used + 1) s.own (omega arith) o.given) (omega arith);
      asked_given = λ n e. let small = o.asked_given n e in omega arith;
      places = omega arith;
    }

-- what is proved of it
pub record IsAskedWell (s : Session) (made : Made) : Type 0 where
  pub well : GoesWell s [] None made
  pub moves : Moves s made
  pub gives : AllGiveLive made.after.references made.drafts
  pub own : may_ask s ≡ true → KeepsOwn s made
  pub same : (made.after.phase ≡ s.phase) × (made.after.asked ≡ s.asked)

pub ask-is : (command : List ℕ) (arguments : Option Data) (s : Session) (made : Made) → CanMake (asks_named command arguments s) made → IsAskedWell s made
ask-is command arguments s made is =
    let m : Made = after_asking_named command arguments s in
    subst (λ (x : Made). IsAskedWell s x) (sym is) (record {
      well = asked-well command arguments s;
      moves = asked-moves command arguments s;
      gives = bare-live m.after.references m.drafts (named-bare command arguments);
      own = asked-own command arguments s;
      same = (refl, refl);
    })

-- the next own number is new
pub next-is-new : (s : Session) → IsWithin s → contains_seq (s.used + 1) s.own ≡ false
next-is-new s i = not-given s.used (s.used + 1) s.own i.own.given (omega arith)
