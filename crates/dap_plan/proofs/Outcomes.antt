-- All that is proved of a step that was made, in one place: what answers it gives, what it keeps, what it does to the tables, how many messages it takes, how many requests are left to handle, and what failures it may write.
-- A row of the table is shown to be one of these (Rows); the laws on steps are read off it.
use Rattle.std.proofs.Common.{◌≡◌, ◌⊎◌, inl, inr, ℕ, ◌+◌, ◌<◌, List, [], ◌∷◌, ◌++◌, Bool, true, false, Option, None, Some, length, refl, sym, ap, ◌∙◌, subst, arith}
use Rattle.std.specs.Prelude.{◌||◌, if◌then◌else◌}
use Rattle.std.specs.List.{list_any}
use Rattle.std.proofs.lemmas.List.{append-nil}
use Rattle.dap_history.specs.History.{Asked, Answered, without_answered}
use Rattle.dap_history.specs.Requests.{asks}
use Rattle.dap_body.specs.declared.failure.Failure.{Failure}
use Rattle.dap_body.specs.declared.failure.Failure.TheVariants.{Debuggee}
use Rattle.dap_tables.specs.Outstanding.{Kept, without, HasDistinctSeqs}
use Rattle.dap_tables.specs.References.{LiveReferences}
use Rattle.dap_tables.specs.declared.entry.Entry.{Entry}
use Rattle.dap_debuggee.specs.Shown.{Act, Reply, done}
use Rattle.dap_debuggee.specs.declared.explanation.Explanation.{Explanation}
use Rattle.dap_plan.specs.Answering.{GoesWell}
use Rattle.dap_query.specs.References.{AreLive}
use Rattle.dap_plan.specs.GivenLaws.{given_by, answers_set_variable, AllGiveLive}
use Rattle.dap_plan.specs.Handling.{answer_each, explained_if, failing, failing_each, fits_explained, fits_explained_each}
use Rattle.dap_plan.specs.Laws.{AskNoneByName, CanMake}
use Rattle.dap_plan.specs.Plan.{Made, Plan, at_once, asking, after_answering, messages_due, entries_of, references_end_if}
use Rattle.dap_outbox.specs.Draft.{Answer, success, failure, explained, came_out, plain_success, Draft, reply, emit, ask, ask_named, named_in, requests_in, names_in, names_of, outs}
use Rattle.dap_plan.specs.References.{references_after}
use Rattle.dap_plan.specs.RefusalLaws.{is_for_room}
use Rattle.dap_debuggee.specs.declared.answers.State.{State}
use Rattle.dap_plan.specs.StateLaws.{KeepsState}
use Rattle.dap_plan.specs.Session.{Session, own_requests, IsAskedIn, IsOrderly, to_handle}
use Rattle.dap_plan.proofs.Fewer.{IsHandled, fewer-handled}
use Rattle.dap_plan.proofs.Kept.{Walked, walked-kept, all-open}
use Rattle.dap_plan.proofs.Moves.{Moves, IsPlain, is-plain, moves-plain}
use Rattle.dap_plan.proofs.Own.{KeepsOwn, OwnStays, none-named, own-kept}
use Rattle.dap_plan.proofs.Steps.{references_after-append}

-- ---- one step

-- whether a request for a terminal waits suits the phase, then as before
abbrev pub Stays : Session → Made → Type 0
Stays s m = IsAskedIn s.phase s.asked → IsAskedIn m.after.phase m.after.asked

-- over requests and a response that came just before it; that it goes well may need a premise, as that the session is orderly
pub record IsSound (premise : Type 0) (s : Session) (came : List Asked) (response : Option Answered) (m : Made) : Type 0 where
  pub well : premise → GoesWell s came response m
  pub moves : Moves s m
  pub stays : Stays s m
  pub own : KeepsOwn s m
  pub by_name : AskNoneByName m.drafts
  pub gives : AllGiveLive m.after.references m.drafts

-- what a request that is handled comes to, in so many messages
pub record IsOutcome (s : Session) (n : ℕ) (m : Made) : Type 0 where
  pub sound : IsSound (IsOrderly s) s [] None m
  pub count : length m.drafts ≡ n
  pub fewer : HasDistinctSeqs s.kept → to_handle m.after.kept < to_handle s.kept

-- ---- drafts that name no references, and give none

abbrev pub AreBare : List Draft → Type 0
AreBare [] = Unit {0}
AreBare (d ∷ ds) = (names_of d ≡ []) × (given_by d ≡ []) × AreBare ds

-- such an answer, whatever request it is to
abbrev pub IsBare : Answer → Type 0
IsBare answer = (names_in answer ≡ []) × ((r : Entry) → given_by (reply r answer) ≡ [])

pub bare-failure : (f : Failure) → IsBare (failure f)
bare-failure f = (refl, λ r. refl)

pub bare-explained : (told : Explanation) → IsBare (explained told)
bare-explained told = (refl, λ r. refl)

pub bare-success : IsBare plain_success
bare-success = (refl, λ r. refl)

-- what they give is live
pub bare-live : (refs : LiveReferences) (ds : List Draft) → AreBare ds → AllGiveLive refs ds
bare-live refs [] n = tt
bare-live refs (d ∷ ds) n = (rw n.1 tt, λ setter. n.1, bare-live refs ds n.2)

references-none : (refs : LiveReferences) (used : ℕ) (ds : List Draft) → AreBare ds → references_after refs (outs used ds) ≡ refs
references-none refs used [] n = refl
references-none refs used (d ∷ ds) n = rw n.0 (references-none refs (used + 1) ds n.2)

-- then the references are as they were, or all died
pub references-plain : (s : Session) (m : Made) → AreBare m.drafts → IsPlain s m → m.after.references ≡ references_after s.references (entries_of s.used m)
references-plain s m n p =
    p.references
    ∙ sym (references_after-append s.references (references_end_if m.drops) (outs s.used m.drafts) ∙ references-none (references_after s.references (references_end_if m.drops)) s.used m.drafts n)

pub each-bare : (answer : Answer) (ks : List Kept) → IsBare answer → AreBare (answer_each answer ks)
each-bare answer [] e = tt
each-bare answer (k ∷ ks) e = (e.0, e.1 k.entry, each-bare answer ks e)

pub append-bare : (ds es : List Draft) → AreBare ds → AreBare es → AreBare (ds ++ es)
append-bare [] es n o = o
append-bare (d ∷ ds) es n o = (n.0, n.1, append-bare ds es n.2 o)

-- ---- drafts that ask for nothing

abbrev pub AskNone : List Draft → Type 0
AskNone [] = Unit {0}
AskNone (reply r answer ∷ ds) = AskNone ds
AskNone (emit event ∷ ds) = AskNone ds
AskNone (ask ∷ ds) = ⊥
AskNone (ask_named command arguments ∷ ds) = ⊥

pub none-asked : (used : ℕ) (ds : List Draft) → AskNone ds → requests_in used ds ≡ []
none-asked used [] n = refl
none-asked used (reply r answer ∷ ds) n = none-asked (used + 1) ds n
none-asked used (emit event ∷ ds) n = none-asked (used + 1) ds n
none-asked used (ask ∷ ds) n = absurd n
none-asked used (ask_named command arguments ∷ ds) n = absurd n

pub none-by-name : (ds : List Draft) → AskNone ds → AskNoneByName ds
none-by-name [] n = tt
none-by-name (reply r answer ∷ ds) n = none-by-name ds n
none-by-name (emit event ∷ ds) n = none-by-name ds n
none-by-name (ask ∷ ds) n = absurd n
none-by-name (ask_named command arguments ∷ ds) n = absurd n

pub each-asks-none : (answer : Answer) (ks : List Kept) → AskNone (answer_each answer ks)
each-asks-none answer [] = tt
each-asks-none answer (k ∷ ks) = each-asks-none answer ks

pub append-asks-none : (ds es : List Draft) → AskNone ds → AskNone es → AskNone (ds ++ es)
append-asks-none [] es n o = o
append-asks-none (reply r answer ∷ ds) es n o = append-asks-none ds es n o
append-asks-none (emit event ∷ ds) es n o = append-asks-none ds es n o
append-asks-none (ask ∷ ds) es n o = absurd n
append-asks-none (ask_named command arguments ∷ ds) es n o = absurd n

-- what waits then is what waited, and what is asked
abbrev pub AsksWell : Session → Made → Type 0
AsksWell s m = own_requests m.after.asked ≡ without_answered None (own_requests s.asked) ++ requests_in s.used m.drafts

abbrev pub own_of : Session → Option ℕ × List Kept
own_of s = (s.asked, s.own)

-- nothing is asked, and nothing answered
pub record AsksNothing (s : Session) (m : Made) : Type 0 where
  pub same : own_of m.after ≡ own_of s
  pub none : AskNone m.drafts
  pub stays : Stays s m

pub asks-nothing : (s : Session) (m : Made) → own_of m.after ≡ own_of s → AskNone m.drafts → Stays s m → AsksNothing s m
asks-nothing s m e n t = record { same = e; none = n; stays = t }

pub asks-well : (s : Session) (m : Made) → AsksNothing s m → AsksWell s m
asks-well s m a =
    ap (λ (x : Option ℕ × List Kept). own_requests x.0) a.same
    ∙ (sym (append-nil (own_requests s.asked)) ∙ (ap (λ (qs : List Asked). qs ++ []) (sym (all-open (own_requests s.asked))) ∙ ap (λ (qs : List Asked). without_answered None (own_requests s.asked) ++ qs) (sym (none-asked s.used m.drafts a.none))))

pub nothing-stays : (s : Session) (m : Made) → AsksNothing s m → OwnStays s m
nothing-stays s m a = record {
  same = ap (λ (x : Option ℕ × List Kept). x.1) a.same;
  none = none-by-name m.drafts a.none;
  asked = λ seq e. inl (sym (ap (λ (x : Option ℕ × List Kept). x.0) a.same) ∙ e);
}

pub own-well : (s : Session) (m : Made) → OwnStays s m → asks m.after.own ≡ without_answered None (asks s.own) ++ named_in s.used m.drafts
own-well s m q =
    ap asks q.same
    ∙ (sym (append-nil (asks s.own)) ∙ (ap (λ (qs : List Asked). qs ++ []) (sym (all-open (asks s.own))) ∙ ap (λ (qs : List Asked). without_answered None (asks s.own) ++ qs) (sym (none-named s.used m.drafts q.none))))

pub keeps-own : (s : Session) (m : Made) → Moves s m → m.after.used ≡ s.used + length m.drafts → OwnStays s m → KeepsOwn s m
keeps-own s m v u q = own-kept s m q v.limits (omega arith)

-- ---- outcomes by their parts

-- the drafts walk the kept requests, and nothing came
pub walked-well : (s : Session) (m : Made) → OwnStays s m → Moves s m → Walked m.drafts (asks s.kept) (asks m.after.kept) → m.after.used ≡ s.used + length m.drafts → m.after.references ≡ references_after s.references (entries_of s.used m) → AsksWell s m → GoesWell s [] None m
walked-well s m q v w u r a =
    let same : asks s.kept ++ [] ≡ asks s.kept = append-nil (asks s.kept) in
    let moved : Walked m.drafts (asks s.kept ++ []) (asks m.after.kept) = subst (λ (qs : List Asked). Walked m.drafts qs (asks m.after.kept)) (sym same) w in
    record { each = moved.each; kept = sym moved.left_is; accepted = tt; asked = a; own = own-well s m q; used = u; references = r; limits = v.limits }

pub outcome : (s : Session) (n : ℕ) (m : Made) → OwnStays s m → Moves s m → m.after.references ≡ references_after s.references (entries_of s.used m) → m.after.used ≡ s.used + length m.drafts → length m.drafts ≡ n
    → (HasDistinctSeqs s.kept → Walked m.drafts (asks s.kept) (asks m.after.kept)) → (HasDistinctSeqs s.kept → to_handle m.after.kept < to_handle s.kept) → (IsAskedIn s.phase s.asked → AsksWell s m) → Stays s m → AllGiveLive m.after.references m.drafts → IsOutcome s n m
outcome s n m q v r u c w f a t g =
    record {
      sound = record { well = λ (o : IsOrderly s). walked-well s m q v (w o.distinct) u r (a o.asked); moves = v; stays = t; own = keeps-own s m v u q; by_name = q.none; gives = g };
      count = c;
      fewer = f;
    }

-- no references are given, and no breakpoints set
pub plain-outcome : (s : Session) (n : ℕ) (m : Made) → IsPlain s m → AreBare m.drafts → m.after.used ≡ s.used + length m.drafts → length m.drafts ≡ n
    → (HasDistinctSeqs s.kept → Walked m.drafts (asks s.kept) (asks m.after.kept)) → (HasDistinctSeqs s.kept → to_handle m.after.kept < to_handle s.kept) → AsksNothing s m → IsOutcome s n m
plain-outcome s n m p names u c w f a = outcome s n m (nothing-stays s m a) (moves-plain s m p) (references-plain s m names p) u c w f (λ suits. asks-well s m a) a.stays (bare-live m.after.references m.drafts names)

walked-by : (s : Session) (k : Kept) (answer : Answer) (m : Made) → IsHandled s k → m.drafts ≡ reply k.entry answer ∷ [] → m.after.kept ≡ without k.entry.seq s.kept → HasDistinctSeqs s.kept → Walked m.drafts (asks s.kept) (asks m.after.kept)
walked-by s k answer m i ds ks d = rw (ds, ks) (walked-kept answer s.kept k d i.kept)

fewer-by : (s : Session) (k : Kept) (m : Made) → IsHandled s k → m.after.kept ≡ without k.entry.seq s.kept → HasDistinctSeqs s.kept → to_handle m.after.kept < to_handle s.kept
fewer-by s k m i ks d = rw ks (fewer-handled s k d i)

-- one answer, and the request is kept no more
pub replied : (s : Session) (k : Kept) (answer : Answer) (m : Made) → IsHandled s k → Moves s m → m.after.references ≡ references_after s.references (entries_of s.used m) → m.drafts ≡ reply k.entry answer ∷ [] → m.after.kept ≡ without k.entry.seq s.kept
    → m.after.used ≡ s.used + 1 → own_of m.after ≡ own_of s → Stays s m → AreLive m.after.references (given_by (reply k.entry answer)) → (answers_set_variable (reply k.entry answer) ≡ true → given_by (reply k.entry answer) ≡ []) → IsOutcome s 1 m
replied s k answer m i v r ds ks u same t g n =
    let one : length m.drafts ≡ 1 = ap length ds in
    let none : AskNone m.drafts = subst (λ (xs : List Draft). AskNone xs) (sym ds) tt in
    let nothing = asks-nothing s m same none t in
    outcome s 1 m (nothing-stays s m nothing) v r (omega arith) one (walked-by s k answer m i ds ks) (fewer-by s k m i ks) (λ suits. asks-well s m nothing) t (subst (λ (xs : List Draft). AllGiveLive m.after.references xs) (sym ds) (g, n, tt))

-- and it names no references
pub plain-reply : (s : Session) (k : Kept) (answer : Answer) (m : Made) → IsHandled s k → IsBare answer → m.drafts ≡ reply k.entry answer ∷ [] → m.after.kept ≡ without k.entry.seq s.kept → m.after.used ≡ s.used + 1 → IsPlain s m → own_of m.after ≡ own_of s → Stays s m → IsOutcome s 1 m
plain-reply s k answer m i e ds ks u p same t =
    replied s k answer m i (moves-plain s m p) (references-plain s m (subst (λ (xs : List Draft). AreBare xs) (sym ds) (e.0, e.1 k.entry, tt)) p) ds ks u same t (subst (λ ps. AreLive m.after.references ps) (sym (e.1 k.entry)) tt) (λ setter. e.1 k.entry)

pub after_answering-outcome : (s : Session) (k : Kept) (answer : Answer) → IsHandled s k → IsBare answer → IsOutcome s 1 (after_answering k.entry answer s)
after_answering-outcome s k answer i e = plain-reply s k answer (after_answering k.entry answer s) i e refl refl refl (is-plain s _ refl refl refl) refl (λ suits. suits)

-- ---- failures for size or room

abbrev pub is_refused : Answer → Bool
is_refused (success body names) = false
is_refused (failure f) = is_for_room f
is_refused (explained told) = false
is_refused (came_out o) = false

abbrev pub refuses : Draft → Bool
refuses (reply r answer) = is_refused answer
refuses (emit event) = false
refuses ask = false
refuses (ask_named command arguments) = false

-- none of these drafts is such a failure
abbrev pub AreClean : List Draft → Type 0
AreClean ds = list_any refuses ds ≡ false

pub each-clean : (answer : Answer) (ks : List Kept) → is_refused answer ≡ false → AreClean (answer_each answer ks)
each-clean answer [] h = refl
each-clean answer (k ∷ ks) h = rw h (each-clean answer ks h)

any-if : (b c e : Bool) → (b || c) ≡ false → (c ≡ false → e ≡ false) → (b || e) ≡ false
any-if true c e h f = h
any-if false c e h f = f h

pub append-clean : (ds es : List Draft) → AreClean ds → AreClean es → AreClean (ds ++ es)
append-clean [] es h g = g
append-clean (d ∷ ds) es h g = any-if (refuses d) (list_any refuses ds) (list_any refuses (ds ++ es)) h (λ k. append-clean ds es k g)

-- all that the plan can come to is clean
abbrev pub IsClean : Plan → Type 0
IsClean plan = (m : Made) → CanMake plan m → AreClean m.drafts

-- the plan is one failure, at once
pub record IsFailure (s : Session) (plan : Plan) : Type 0 where
  pub entry : Entry
  pub fault : Failure
  pub is : plan ≡ at_once (after_answering entry (failure fault) s)

-- ---- one row of the table

pub record IsRow (s : Session) (plan : Plan) : Type 0 where
  pub outcomes : (m : Made) → CanMake plan m → IsOutcome s (messages_due plan) m
  pub refused : IsClean plan ⊎ IsFailure s plan
  pub keeps : (first : State) → KeepsState first s plan

recounted : (s : Session) (n k : ℕ) (m : Made) → n ≡ k → IsOutcome s n m → IsOutcome s k m
recounted s n k m e o = subst (λ (x : ℕ). IsOutcome s x m) e o

at_once-outcomes : (s : Session) (n : ℕ) (m : Made) → IsOutcome s n m → (made : Made) → made ≡ m → IsOutcome s (length m.drafts) made
at_once-outcomes s n m o made e = subst (λ (x : Made). IsOutcome s (length m.drafts) x) (sym e) (recounted s n (length m.drafts) m (sym o.count) o)

-- what is made at once
pub once-row : (s : Session) (n : ℕ) (m : Made) → IsOutcome s n m → AreClean m.drafts → ((first : State) → KeepsState first s (at_once m)) → IsRow s (at_once m)
once-row s n m o c w = record { keeps = w; outcomes = at_once-outcomes s n m o; refused = inl (λ (made : Made) (e : made ≡ m). subst (λ (x : Made). AreClean x.drafts) (sym e) c) }

-- one failure
pub failed-row : (s : Session) (k : Kept) (f : Failure) → IsHandled s k → IsRow s (at_once (after_answering k.entry (failure f) s))
failed-row s k f i =
    let m : Made = after_answering k.entry (failure f) s in
    record { outcomes = at_once-outcomes s 1 m (after_answering-outcome s k (failure f) i (bare-failure f)); refused = inr (record { entry = k.entry; fault = f; is = refl }); keeps = λ first before h. h }

-- the failure that the debuggee gave a reason for
explained-row : (s : Session) (k : Kept) (told : Explanation) → IsHandled s k → IsRow s (at_once (after_answering k.entry (explained told) s))
explained-row s k told i = once-row s 1 (after_answering k.entry (explained told) s) (after_answering-outcome s k (explained told) i (bare-explained told)) refl (λ first before h. h)

-- a failure, with a reason or without
pub failing-is : (s : Session) (r : Entry) (f : Failure) (why : Option Explanation) → (failing s r f why ≡ failure f) ⊎ ((told : Explanation) × (f ≡ Debuggee) × (failing s r f why ≡ explained told))
failing-is s r Debuggee None = inl refl
failing-is s r Debuggee (Some told) = by (fits_explained s r told)
  where
    by : (b : Bool) → (explained_if b told ≡ failure Debuggee) ⊎ ((x : Explanation) × (Debuggee ≡ Debuggee) × (explained_if b told ≡ explained x))
    by true = inr (told, refl, refl)
    by false = inl refl
failing-is s r _ why = inl refl

-- what is parked fails alike, with a reason or without
pub failing_each-is : (s : Session) (parked : List Kept) (why : Option Explanation) → (failing_each s parked why ≡ failure Debuggee) ⊎ ((told : Explanation) × (Debuggee ≡ Debuggee) × (failing_each s parked why ≡ explained told))
failing_each-is s parked None = inl refl
failing_each-is s parked (Some told) = by (fits_explained_each s parked told)
  where
    by : (b : Bool) → (explained_if b told ≡ failure Debuggee) ⊎ ((x : Explanation) × (Debuggee ≡ Debuggee) × (explained_if b told ≡ explained x))
    by true = inr (told, refl, refl)
    by false = inl refl

-- what such a failure is: bare, and none for size or room
pub bare-failing : (a : Answer) (f : Failure) → (a ≡ failure f) ⊎ ((told : Explanation) × (f ≡ Debuggee) × (a ≡ explained told)) → IsBare a
bare-failing a f (inl e) = subst IsBare (sym e) (bare-failure f)
bare-failing a f (inr w) = subst IsBare (sym w.2) (bare-explained w.0)

pub clean-failing : (a : Answer) (f : Failure) → is_for_room f ≡ false → (a ≡ failure f) ⊎ ((told : Explanation) × (f ≡ Debuggee) × (a ≡ explained told)) → is_refused a ≡ false
clean-failing a f h (inl e) = rw e h
clean-failing a f h (inr w) = rw w.2 refl

answered-row : (s : Session) (k : Kept) (a : Answer) (f : Failure) → IsHandled s k → (a ≡ failure f) ⊎ ((told : Explanation) × (f ≡ Debuggee) × (a ≡ explained told)) → IsRow s (at_once (after_answering k.entry a s))
answered-row s k a f i (inl e) = subst (λ (x : Answer). IsRow s (at_once (after_answering k.entry x s))) (sym e) (failed-row s k f i)
answered-row s k a f i (inr w) = subst (λ (x : Answer). IsRow s (at_once (after_answering k.entry x s))) (sym w.2) (explained-row s k w.0 i)

pub failing-row : (s : Session) (k : Kept) (f : Failure) (why : Option Explanation) → IsHandled s k → IsRow s (at_once (after_answering k.entry (failing s k.entry f why) s))
failing-row s k f why i = answered-row s k (failing s k.entry f why) f i (failing-is s k.entry f why)

asking-outcomes : (s : Session) (n : ℕ) (makes : Reply → Made) → ((r : Reply) → IsOutcome s n (makes r)) → (made : Made) → (r : Reply) × (made ≡ makes r) → IsOutcome s (length (makes done).drafts) made
asking-outcomes s n makes o made is = subst (λ (x : Made). IsOutcome s (length (makes done).drafts) x) (sym is.1) (recounted s n (length (makes done).drafts) (makes is.0) (sym (o done).count) (o is.0))

-- what is made of the debuggee's reply, in as many messages whatever it is
pub asking-row : (s : Session) (n : ℕ) (act : Act) (makes : Reply → Made) → ((r : Reply) → IsOutcome s n (makes r)) → ((r : Reply) → AreClean (makes r).drafts) → ((first : State) → KeepsState first s (asking act makes)) → IsRow s (asking act makes)
asking-row s n act makes o c w =
    record { keeps = w; outcomes = asking-outcomes s n makes o; refused = inl (λ (made : Made) (is : (r : Reply) × (made ≡ makes r)). subst (λ (x : Made). AreClean x.drafts) (sym is.1) (c is.0)) }

-- one plan or the other
pub either-row : (b : Bool) (s : Session) (p q : Plan) → (b ≡ true → IsRow s p) → (b ≡ false → IsRow s q) → IsRow s (if b then p else q)
either-row true s p q x y = x refl
either-row false s p q x y = y refl
