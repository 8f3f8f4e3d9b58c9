-- What a request that is served comes to is the first failure whose test holds, effect by effect.
use Rattle.std.proofs.Common.{◌≡◌, ℕ, ◌+◌, ◌<◌, ◌≤◌, List, [], ◌∷◌, ◌++◌, length, Bool, true, false, not, cond, Option, Some, None, Result, Ok, Err, refl, sym, ap, ◌∙◌, subst, arith, length-append, append_assoc, true≢false}
use Rattle.std.specs.List.{AllByRecursion}
use Rattle.std.specs.Prelude.{◌==◌, ◌||◌, is_none, is_some, nat_lt, nat_le, option_map, option_and_then, if◌then◌else◌}
use Rattle.std.proofs.lemmas.Bool.Decides.{nat_tests}
use Rattle.dap_frame.specs.Settings.{Settings}
use Rattle.dap_call.specs.declared.call.Call.{Call}
use Rattle.dap_call.specs.declared.call.Call.TheVariants as call
use Rattle.dap_command.specs.declared.command.Command.{Command}
use Rattle.dap_body.specs.declared.failure.Failure.{Failure}
use Rattle.dap_body.specs.declared.failure.Failure.TheVariants.{Debuggee, TooManyBreakpoints, TooManyReferences, ReferencesExhausted, TooLarge, Cancelled}
use Rattle.dap_call.specs.declared.call.SetVariable.{SetVariable}
use Rattle.dap_command.specs.declared.source_key.SourceKey.{SourceKey}
use Rattle.dap_tables.specs.Outstanding.{Kept, contains_seq, without, parked_ones}
use Rattle.dap_tables.specs.References.{LiveReferences, place_of, numbered_at}
use Rattle.dap_tables.specs.declared.entry.Entry.{Entry}
use Rattle.dap_tables.specs.declared.target.Target.{Target}
use Rattle.dap_tables.proofs.KeptLemmas.{contains_seq-without}
use Rattle.dap_debuggee.specs.Shown.{Shown, to_assign, Reply, done, refused, happened}
use Rattle.dap_debuggee.specs.declared.answers.Assigned.{Assigned}
use Rattle.dap_debuggee.specs.declared.answers.How.{How}
use Rattle.dap_debuggee.specs.declared.explanation.Explanation.{Explanation}
use Rattle.dap_decision.specs.declared.effect.Effect.{Effect}
use Rattle.dap_decision.specs.declared.effect.Effect.TheVariants as effect
use Rattle.dap_decision.specs.declared.phase.Phase.{Phase}
use Rattle.dap_decision.specs.declared.phase.Phase.TheVariants.{Configured}
use Rattle.dap_query.specs.Bodies.{QueryAnswer, QueryResult}
use Rattle.dap_query.specs.Laws.{AreFew, IsAnsweredOrRefused, is_refused, is_answered}
use Rattle.dap_query.specs.Queries.{object_of}
use Rattle.dap_outbox.specs.Waiting.{waits_to_start, starting_ones}
use Rattle.dap_plan.specs.Breakpoints.{are_too_many}
use Rattle.dap_plan.specs.Handling.{after_query, after_initialize, after_asking, after_asking_parked, after_launch, after_parked_launch, after_resume, after_disconnect, by_reply, answer_each, fits, lines_asked, Change, ChangeResult, change_asked, after_change, change_result, lines_change, lines_result, value_change, assigned_result, value_result, failing, change_reason, by_reply_each, answer_parked}
use Rattle.dap_plan.specs.OrderLaws.{refuses, sets_too_many, live_with, is_past_room, is_past_numbers, names_too_many, exhausts_numbers, is_too_large, is_long_answer, is_long_change, act_in, act_of, answer_to, comes_to, IsSuccess, IsByReply, IsDoneOrRefused, ParksAndAsks, AnswersAndAsks, IsAnswered}
use Rattle.dap_plan.specs.Plan.{Made, Plan, at_once, after_answering}
use Rattle.dap_outbox.specs.Draft.{Answer, Draft, reply, ask, failure, plain_success}
use Rattle.dap_plan.specs.Changing.{IsChange}
use Rattle.dap_query.specs.References.{intern_each, and_then, onto_first, targets_named, with_target, with_targets}
use Rattle.dap_plan.specs.Session.{Session, query_of}
use Rattle.dap_outbox.specs.Draft.{own_request}
use Rattle.dap_query.proofs.Interned.{interned-each, is-lt, no-lt, lt-of}
use Rattle.dap_plan.proofs.Fewer.{middle-contained}
use Rattle.dap_plan.proofs.Kept.{eqb-self, false-left, false-right, same-seq, contains-append, contains-filter}
use Rattle.dap_plan.proofs.Cancels.{and-false}
use Rattle.dap_debuggee.specs.declared.answers.Placement.{Placement}

-- ---- numbers for the objects of an answer: which failure it is, by counting

-- so many would be live, of so many that have been
abbrev FailsWith : Failure → Settings → ℕ → ℕ → Type 0
FailsWith TooManyReferences limits base n = (limits.references < n) × (base + limits.references ≤ limits.reference)
FailsWith ReferencesExhausted limits base n = (limits.reference < base + n) × (limits.reference < base + limits.references)
FailsWith _ limits base n = ⊥

one-longer : (b : Bool) (t : Target) (live : List Target) → length live ≤ length (let out : List Target = (if b then live else live ++ t ∷ []) in out)
one-longer true t live = omega arith
one-longer false t live = let all = length-append live (t ∷ []) in omega arith

with-longer : (ts : List Target) (live : List Target) → length live ≤ length (with_targets ts live)
with-longer [] live = omega arith
with-longer (t ∷ ts) live =
    let one = one-longer (is_some (place_of t live)) t live in
    let rest = with-longer ts (with_target t live) in
    omega arith

with-new : (t : Target) (live : List Target) → place_of t live ≡ None → with_target t live ≡ live ++ t ∷ []
with-new t live new = rw new refl

with-live : (t : Target) (live : List Target) (p : ℕ) → place_of t live ≡ Some p → with_target t live ≡ live
with-live t live p is = rw is refl

-- where the first object has none
none-given : (room greatest : Bool) (limits : Settings) (t : Target) (ts : List Target) (refs : LiveReferences) (given : ℕ × LiveReferences) (f : Failure) → place_of t refs.live ≡ None → AreFew limits refs
    → nat_lt (length refs.live) limits.references ≡ room → nat_lt (refs.base + length refs.live) limits.reference ≡ greatest
    → (let out : Result (ℕ × LiveReferences) Failure = (if room then (if greatest then Ok given else Err ReferencesExhausted) else Err TooManyReferences) in out) ≡ Err f → FailsWith f limits refs.base (length (with_targets (t ∷ ts) refs.live))
none-given true true limits t ts refs given f new few a b e = cc
none-given true false limits t ts refs given f new few a b e =
    let live = lt-of (length refs.live) limits.references a in
    let all = length-append refs.live (t ∷ []) in
    let more = rw new at (with-longer ts (with_target t refs.live)) in
    let past : limits.reference ≤ refs.base + length refs.live = grind (arith, nat_tests) in
    let is : ReferencesExhausted ≡ f = cc in
    subst (λ (x : Failure). FailsWith x limits refs.base (length (with_targets (t ∷ ts) refs.live))) is (rw new (omega arith, omega arith))
none-given false greatest limits t ts refs given f new few a b e =
    let all = length-append refs.live (t ∷ []) in
    let more = rw new at (with-longer ts (with_target t refs.live)) in
    let full : limits.references ≤ length refs.live = grind (arith, nat_tests) in
    let few_live = few.references in
    let few_numbers = few.numbers in
    let is : TooManyReferences ≡ f = cc in
    subst (λ (x : Failure). FailsWith x limits refs.base (length (with_targets (t ∷ ts) refs.live))) is (rw new (omega arith, omega arith))

onto-fails : (n : ℕ) (rest : Result (List ℕ × LiveReferences) Failure) (f : Failure) → onto_first n rest ≡ Err f → rest ≡ Err f
onto-fails n (Ok r) f e = cc
onto-fails n (Err g) f e = cc

-- with a number, or without
some-given : (room greatest : Bool) (limits : Settings) (t : Target) (ts : List (Option Target)) (refs : LiveReferences) (f : Failure) → place_of t refs.live ≡ None → AreFew limits refs
    → nat_lt (length refs.live) limits.references ≡ room → nat_lt (refs.base + length refs.live) limits.reference ≡ greatest
    → ((more : LiveReferences) → intern_each limits ts more ≡ Err f → AreFew limits more → FailsWith f limits more.base (length (with_targets (targets_named ts) more.live)))
    → (let first : Result (ℕ × LiveReferences) Failure = (if room then (if greatest then Ok (refs.base + 1 + length refs.live, record refs { live = refs.live ++ t ∷ [] }) else Err ReferencesExhausted) else Err TooManyReferences) in and_then first (λ r. onto_first r.0 (intern_each limits ts r.1))) ≡ Err f
    → FailsWith f limits refs.base (length (with_targets (t ∷ targets_named ts) refs.live))
some-given true true limits t ts refs f new few a b ih e =
    let all = length-append refs.live (t ∷ []) in
    let live = lt-of (length refs.live) limits.references a in
    let number = lt-of (refs.base + length refs.live) limits.reference b in
    let more : LiveReferences = record refs { live = refs.live ++ t ∷ [] } in
    subst (λ (xs : List Target). FailsWith f limits refs.base (length (with_targets (targets_named ts) xs))) (sym (with-new t refs.live new))
    (ih more (onto-fails (refs.base + 1 + length refs.live) (intern_each limits ts more) f e) (record { references = omega arith; numbers = omega arith }))
some-given true false limits t ts refs f new few a b ih e = none-given true false limits t (targets_named ts) refs (0, refs) f new few a b (ap (λ (x : Failure). let out : Result (ℕ × LiveReferences) Failure = Err x in out) cc)
some-given false greatest limits t ts refs f new few a b ih e = none-given false greatest limits t (targets_named ts) refs (0, refs) f new few a b (ap (λ (x : Failure). let out : Result (ℕ × LiveReferences) Failure = Err x in out) cc)

at-place-fails : (o : Option ℕ) (limits : Settings) (t : Target) (ts : List (Option Target)) (refs : LiveReferences) (f : Failure) → place_of t refs.live ≡ o → AreFew limits refs
    → ((more : LiveReferences) → intern_each limits ts more ≡ Err f → AreFew limits more → FailsWith f limits more.base (length (with_targets (targets_named ts) more.live)))
    → and_then (numbered_at o TooManyReferences ReferencesExhausted limits.references limits.reference t refs) (λ r. onto_first r.0 (intern_each limits ts r.1)) ≡ Err f
    → FailsWith f limits refs.base (length (with_targets (t ∷ targets_named ts) refs.live))
at-place-fails (Some p) limits t ts refs f is few ih e =
    subst (λ (xs : List Target). FailsWith f limits refs.base (length (with_targets (targets_named ts) xs))) (sym (with-live t refs.live p is)) (ih refs (onto-fails (refs.base + 1 + p) (intern_each limits ts refs) f e) few)
at-place-fails None limits t ts refs f is few ih e = some-given (nat_lt (length refs.live) limits.references) (nat_lt (refs.base + length refs.live) limits.reference) limits t ts refs f is few refl refl ih e

each-fails : (limits : Settings) (ts : List (Option Target)) (f : Failure) (refs : LiveReferences) → intern_each limits ts refs ≡ Err f → AreFew limits refs → FailsWith f limits refs.base (length (with_targets (targets_named ts) refs.live))
each-fails limits [] f refs e few = cc
each-fails limits (None ∷ ts) f refs e few = each-fails limits ts f refs (onto-fails 0 (intern_each limits ts refs) f e) few
each-fails limits (Some t ∷ ts) f refs e few = at-place-fails (place_of t refs.live) limits t ts refs f refl few (λ more is fits. each-fails limits ts f more is fits) e

-- ---- the tests of a request that is served, in their order

abbrev pub served_first : Bool → Bool → Bool → Bool → Bool → Option Failure
served_first a b c d e = cond a (Some Debuggee) (cond b (Some TooManyBreakpoints) (cond c (Some TooManyReferences) (cond d (Some ReferencesExhausted) (cond e (Some TooLarge) None))))

-- a plan that fails with the first of them, or does what is said here
pub record Fails (first : Option Failure) (p : Plan) (s : Session) (r : Entry) (why : Option Explanation) (Does : Type 0) : Type 0 where
  pub some : (f : Failure) → first ≡ Some f → p ≡ at_once (after_answering r (failing s r f why) s)
  pub none : first ≡ None → Does

fails-so : (f : Failure) (s : Session) (r : Entry) (why : Option Explanation) (Does : Type 0) → Fails (Some f) (at_once (after_answering r (failing s r f why) s)) s r why Does
fails-so f s r why Does = record { some = λ g e. (let is : f ≡ g = cc in ap (λ (x : Failure). at_once (after_answering r (failing s r x why) s)) is); none = λ e. absurd cc }

does-so : (p : Plan) (s : Session) (r : Entry) (why : Option Explanation) (Does : Type 0) → Does → Fails None p s r why Does
does-so p s r why Does d = record { some = λ f e. absurd cc; none = λ e. d }

-- ---- what is answered

pub behind-others : (seq : ℕ) (answer : Answer) (ks : List Kept) (ds : List Draft) → contains_seq seq ks ≡ false → answer_to seq (answer_each answer ks ++ ds) ≡ answer_to seq ds
behind-others seq answer [] ds h = refl
behind-others seq answer (k ∷ ks) ds h = rw (false-left (k.entry.seq == seq) (contains_seq seq ks) h) (behind-others seq answer ks ds (false-right (k.entry.seq == seq) (contains_seq seq ks) h))

-- ---- the effects

-- what comes of a request that is served
pub record DoesWell (e : Effect) (s : Session) (r : Entry) (asked : Call) (p : Plan) : Type 0 where
  pub asks : act_in p ≡ act_of e s asked
  pub answered : (last : Reply) → IsAnswered e s r last (comes_to p last)

size-fails : (b : Bool) (m : Made) (s : Session) (r : Entry) (why : Option Explanation) (Does : Type 0) → (b ≡ true → Does) → Fails (served_first false false false false (not b)) (at_once (let out : Made = (if b then m else after_answering r (failure TooLarge) s) in out)) s r why Does
size-fails true m s r why Does d = does-so (at_once m) s r why Does (d refl)
size-fails false m s r why Does d = fails-so TooLarge s r why Does

-- numbers that can be given
given-fails : (s : Session) (objects : List (Option Target)) (n : ℕ) → n ≡ live_with s objects → n ≤ s.limits.references → s.references.base + n ≤ s.limits.reference → (is_past_room s (live_with s objects) ≡ false) × (is_past_numbers s (live_with s objects) ≡ false)
given-fails s objects n is room numbers =
    let a : nat_lt s.limits.references n ≡ false = no-lt s.limits.references n (omega arith) in
    let b : nat_lt s.limits.reference (s.references.base + n) ≡ false = no-lt s.limits.reference (s.references.base + n) (omega arith) in
    rw (← is) (rw a refl, b)

past-room : (s : Session) (n : ℕ) → s.limits.references < n → s.references.base + s.limits.references ≤ s.limits.reference → is_past_room s n ≡ true
past-room s n a b =
    let more : nat_lt s.limits.references n ≡ true = is-lt s.limits.references n a in
    let fits_first : nat_le (s.references.base + s.limits.references) s.limits.reference ≡ true = grind (arith, nat_tests) in
    rw (more, fits_first) refl

past-numbers : (s : Session) (n : ℕ) → s.limits.reference < s.references.base + n → s.limits.reference < s.references.base + s.limits.references → (is_past_room s n ≡ false) × (is_past_numbers s n ≡ true)
past-numbers s n a b =
    let more : nat_lt s.limits.reference (s.references.base + n) ≡ true = is-lt s.limits.reference (s.references.base + n) a in
    let none : nat_le (s.references.base + s.limits.references) s.limits.reference ≡ false = grind (arith, nat_tests) in
    (rw none (and-false (nat_lt s.limits.references n)), more)

-- a query

size-succeeds : (s : Session) (r : Entry) (why : Option Explanation) (t : QueryAnswer) → fits s r t.body ≡ true → IsSuccess (answer_to r.seq (after_query s r why (Ok t)).drafts)
size-succeeds s r why t h = rw h (rw (eqb-self r.seq) tt)

failed-so : (s : Session) (r : Entry) (why : Option Explanation) (f : Failure) (n : ℕ) (Does : Type 0) → FailsWith f s.limits s.references.base n
    → Fails (served_first false false (is_past_room s n) (is_past_numbers s n) false) (at_once (after_answering r (failing s r f why) s)) s r why Does
failed-so s r why TooManyReferences n Does h = rw (past-room s n h.0 h.1) (fails-so TooManyReferences s r why Does)
failed-so s r why ReferencesExhausted n Does h = let p = past-numbers s n h.0 h.1 in rw (p.0, p.1) (fails-so ReferencesExhausted s r why Does)
failed-so s r why _ n Does h = absurd h

told-fails : (s : Session) (r : Entry) (why : Option Explanation) (objects : List (Option Target)) (tell : List ℕ × LiveReferences → QueryAnswer) (given : Result (List ℕ × LiveReferences) Failure) → intern_each s.limits objects s.references ≡ given → AreFew s.limits s.references
    → Fails (served_first false false (is_past_room s (live_with s objects)) (is_past_numbers s (live_with s objects)) (is_long_answer s r (and_then given (λ g. Ok (tell g))))) (at_once (after_query s r why (and_then given (λ g. Ok (tell g))))) s r why (IsSuccess (answer_to r.seq (after_query s r why (and_then given (λ g. Ok (tell g)))).drafts))
told-fails s r why objects tell (Ok g) is few =
    let each = interned-each s.limits objects s.references g is in
    let then_few = each.few few in
    let live = ap (λ (x : LiveReferences). length x.live) each.live in
    let base = ap (λ (x : LiveReferences). x.base) each.live in
    let room = then_few.references in
    let numbers = then_few.numbers in
    let fit = given-fails s objects (length g.1.live) live room (omega arith) in
    rw (fit.0, fit.1) (size-fails (fits s r (tell g).body) _ s r why _ (size-succeeds s r why (tell g)))
told-fails s r why objects tell (Err f) is few = failed-so s r why f (live_with s objects) _ (each-fails s.limits objects f s.references is few)

pub query-fails : {c : Command} (s : Session) (r : Entry) (why : Option Explanation) (refused : Bool) (objects : List (Option Target)) (due : QueryResult) → IsAnsweredOrRefused (query_of s) c refused objects due → AreFew s.limits s.references
    → Fails (served_first refused false (is_past_room s (live_with s objects)) (is_past_numbers s (live_with s objects)) (is_long_answer s r due)) (at_once (after_query s r why due)) s r why (IsSuccess (answer_to r.seq (after_query s r why due).drafts))
query-fails s r why _ objects _ (is_refused _) few = fails-so Debuggee s r why _
query-fails s r why _ objects _ (is_answered _ body gives) few =
    told-fails s r why objects (λ given. record { body = body given.0; names = targets_named objects; references = given.1 }) (intern_each s.limits objects s.references) refl few

-- a change

abbrev pub ChangesWell : Session → Entry → Option Explanation → Call → ChangeResult → Type 0
ChangesWell s r why asked due = DoesWell effect.Change s r asked (after_change s r why due)

fit-fails : (b : Bool) (s : Session) (r : Entry) (why : Option Explanation) (asked : Call) (c : Change) → Some c.act ≡ act_of effect.Change s asked
    → (let p : Plan = (if b then change_asked s r c else at_once (after_answering r (failure TooLarge) s)) in Fails (served_first false false false false (not b)) p s r why (DoesWell effect.Change s r asked p))
fit-fails true s r why asked c is = does-so (change_asked s r c) s r why _ (record { asks = is; answered = λ last. rw (eqb-self r.seq) tt })
fit-fails false s r why asked c is = fails-so TooLarge s r why _

lines-by : (b : Bool) (s : Session) (r : Entry) (why : Option Explanation) (key : SourceKey) (lines : List ℕ) (verified : List Placement)
    → (let due : ChangeResult = (if b then Err TooManyBreakpoints else Ok (lines_change s key lines verified)) in Fails (served_first false b false false (is_long_change s r due)) (after_change s r why due) s r why (ChangesWell s r why (call.SetBreakpoints key lines) due))
lines-by true s r why key lines verified = fails-so TooManyBreakpoints s r why _
lines-by false s r why key lines verified = fit-fails (fits s r (lines_change s key lines verified).body) s r why (call.SetBreakpoints key lines) (lines_change s key lines verified) refl

lines-fail : (s : Session) (r : Entry) (why : Option Explanation) (key : SourceKey) (lines : List ℕ) (o : Option (List Placement))
    → Fails (served_first (is_none o) (are_too_many s.limits key lines s.breakpoints) false false (is_long_change s r (lines_result s key lines o))) (after_change s r why (lines_result s key lines o)) s r why (ChangesWell s r why (call.SetBreakpoints key lines) (lines_result s key lines o))
lines-fail s r why key lines None = fails-so Debuggee s r why _
lines-fail s r why key lines (Some verified) = lines-by (are_too_many s.limits key lines s.breakpoints) s r why key lines verified

assigned-fails : (s : Session) (r : Entry) (why : Option Explanation) (asked : SetVariable) (holder : ℕ) (o : Option Assigned) → object_of s.references asked.variables_reference ≡ Some holder
    → Fails (served_first (is_none o) false false false (is_long_change s r (assigned_result s asked holder o))) (after_change s r why (assigned_result s asked holder o)) s r why (ChangesWell s r why (call.SetVariable asked) (assigned_result s asked holder o))
assigned-fails s r why asked holder None is = fails-so Debuggee s r why _
assigned-fails s r why asked holder (Some a) is =
    fit-fails (fits s r (value_change s asked holder a).body) s r why (call.SetVariable asked) (value_change s asked holder a) (ap (option_map (λ h. to_assign h asked.name asked.value)) (sym is))

value-fails : (view : Shown) (s : Session) (r : Entry) (why : Option Explanation) (asked : SetVariable) (o : Option ℕ) → object_of s.references asked.variables_reference ≡ o
    → Fails (served_first (is_none (option_and_then (λ h. view.assigned h asked.name asked.value) o)) false false false (is_long_change s r (value_result view s asked o))) (after_change s r why (value_result view s asked o)) s r why (ChangesWell s r why (call.SetVariable asked) (value_result view s asked o))
value-fails view s r why asked None is = fails-so Debuggee s r why _
value-fails view s r why asked (Some holder) is = assigned-fails s r why asked holder (view.assigned holder asked.name asked.value) is

-- each effect

pub succeeds-first : (r : Entry) (ds : List Draft) → IsSuccess (answer_to r.seq (reply r plain_success ∷ ds))
succeeds-first r ds = rw (eqb-self r.seq) tt

pub succeeds-initialize : (s : Session) (r : Entry) (asked : Call) → IsSuccess (answer_to r.seq (after_initialize s r asked).drafts)
succeeds-initialize s r asked = rw (eqb-self r.seq) tt

pub pauses-so : (s : Session) (r : Entry) (last : Reply) → IsDoneOrRefused s r last (after_answering r (by_reply s r last) s)
pauses-so s r done = rw (eqb-self r.seq) tt
pauses-so s r (refused why) = refl
pauses-so s r (happened h) = refl

pub resumes-so : (how : How) (s : Session) (r : Entry) (last : Reply) → IsDoneOrRefused s r last (after_resume how s r last)
resumes-so how s r done = rw (eqb-self r.seq) tt
resumes-so how s r (refused why) = refl
resumes-so how s r (happened h) = refl

still-configured : (s : Session) (r : Entry) (answer : Answer) → s.phase ≡ Configured
    → (let m : Made = record { drafts = reply r answer ∷ []; drops = false; after = record s { phase = Configured; kept = without r.seq s.kept; used = s.used + 1 } } in m) ≡ after_answering r answer s
still-configured s r answer h =
    ap (λ (p : Phase). let m : Made = record { drafts = reply r answer ∷ []; drops = false; after = record s { phase = p; kept = without r.seq s.kept; used = s.used + 1 } } in m) (sym h)

pub starts-so : (s : Session) (r : Entry) (last : Reply) → s.phase ≡ Configured → IsDoneOrRefused s r last (after_launch s r last)
starts-so s r done h = rw (eqb-self r.seq) tt
starts-so s r (refused why) h = still-configured s r (failing s r Debuggee why) h
starts-so s r (happened x) h = still-configured s r (failure Debuggee) h

pub disconnects-so : (s : Session) (r : Entry) → IsSuccess (answer_to r.seq (after_disconnect s r).drafts)
disconnects-so s r = rw (behind-others r.seq (failure Cancelled) (without r.seq s.kept) (reply r plain_success ∷ []) (contains_seq-without r.seq s.kept)) (succeeds-first r [])

-- those that are parked

replies-so : (s : Session) (parked : List Kept) (last : Reply) → IsByReply s parked last (Some (by_reply_each s parked last))
replies-so s parked done = tt
replies-so s parked (refused why) = refl
replies-so s parked (happened h) = refl

among-if : (b c : Bool) (answer : Answer) (later : Option Answer) → (b || c) ≡ true → (c ≡ true → later ≡ Some answer) → (let out : Option Answer = (if b then Some answer else later) in out) ≡ Some answer
among-if true c answer later h k = refl
among-if false c answer later h k = k h

among-others : (seq : ℕ) (answer : Answer) (ks : List Kept) → contains_seq seq ks ≡ true → answer_to seq (answer_each answer ks) ≡ Some answer
among-others seq answer [] h = absurd (true≢false (sym h))
among-others seq answer (k ∷ ks) h = among-if (k.entry.seq == seq) (contains_seq seq ks) answer (answer_to seq (answer_each answer ks)) h (among-others seq answer ks)

parked-apart : (seq : ℕ) (ks : List Kept) → contains_seq seq ks ≡ false → contains_seq seq (parked_ones ks) ≡ false
parked-apart seq ks h = contains-filter seq (λ (k : Kept). k.parked) ks h

starting-apart : (seq : ℕ) (ks : List Kept) → contains_seq seq ks ≡ false → contains_seq seq (starting_ones ks) ≡ false
starting-apart seq ks h = contains-filter seq waits_to_start ks h

not-among : (seq : ℕ) (before : List Kept) (k : Kept) (after : List Kept) → contains_seq seq (before ++ k ∷ after) ≡ false → (k.entry.seq == seq) ≡ false
not-among seq before k after h =
    false-left (k.entry.seq == seq) (contains_seq seq after) (false-right (contains_seq seq before) (contains_seq seq (k ∷ after)) (sym (contains-append seq before (k ∷ after)) ∙ h))

each-replied : (s : Session) (parked : List Kept) (r : Entry) (last : Reply) (before ks : List Kept) → contains_seq r.seq (before ++ ks) ≡ false
    → AllByRecursion (λ k. IsByReply s parked last (answer_to k.entry.seq (reply r plain_success ∷ answer_each (by_reply_each s parked last) (before ++ ks)))) ks
each-replied s parked r last before [] h = tt
each-replied s parked r last before (k ∷ ks) h =
    let answer = by_reply_each s parked last in
    let other : (r.seq == k.entry.seq) ≡ false = same-seq k.entry.seq r.seq (not-among r.seq before k ks h) in
    let moved : (before ++ k ∷ []) ++ ks ≡ before ++ k ∷ ks = append_assoc before (k ∷ []) ks in
    let rest = each-replied s parked r last (before ++ k ∷ []) ks (rw moved h) in (
      rw (other, among-others k.entry.seq answer (before ++ k ∷ ks) (middle-contained before k ks)) (replies-so s parked last),
      subst (λ (xs : List Kept). AllByRecursion (λ (x : Kept). IsByReply s parked last (answer_to x.entry.seq (reply r plain_success ∷ answer_each answer xs))) ks) moved rest,
    )

pub starts-parked-so : (s : Session) (r : Entry) (last : Reply) → IsAnswered effect.StartParked s r last (after_parked_launch s r last)
starts-parked-so s r last =
    let parked = starting_ones (without r.seq s.kept) in
    (succeeds-first r (answer_parked s parked last), each-replied s parked r last [] parked (starting-apart r.seq (without r.seq s.kept) (contains_seq-without r.seq s.kept)))

-- a terminal

pub asks-so : (s : Session) (r : Entry) → ParksAndAsks s r (after_asking s r)
asks-so s r = record { unanswered = refl; parked = refl; asks = record { seq = s.used + 1; one = refl; waits = refl; phase = refl } }

none-replied : (r : Entry) (ks : List Kept) → contains_seq r.seq ks ≡ false → AllByRecursion (λ k. answer_to k.entry.seq (reply r plain_success ∷ ask ∷ []) ≡ None) ks
none-replied r [] h = tt
none-replied r (k ∷ ks) h =
    let other : (r.seq == k.entry.seq) ≡ false = same-seq k.entry.seq r.seq (false-left (k.entry.seq == r.seq) (contains_seq r.seq ks) h) in
    (rw other refl, none-replied r ks (false-right (k.entry.seq == r.seq) (contains_seq r.seq ks) h))

pub asks-parked-so : (s : Session) (r : Entry) → AnswersAndAsks s r (after_asking_parked s r)
asks-parked-so s r =
    let two : s.used + 1 + 1 ≡ s.used + 2 = omega arith in
    record {
      succeeds = succeeds-first r (ask ∷ []);
      unanswered = none-replied r (parked_ones (without r.seq s.kept)) (parked-apart r.seq (without r.seq s.kept) (contains_seq-without r.seq s.kept));
      parked = refl;
      asks = record { seq = s.used + 2; one = ap (λ (n : ℕ). own_request n ∷ []) two; waits = refl; phase = refl };
    }

abbrev pub first_of : Shown → Session → Entry → Effect → Call → Option Failure
first_of view s r e asked = served_first (refuses view s e asked) (sets_too_many s e asked) (names_too_many view s e asked) (exhausts_numbers view s e asked) (is_too_large view s r e asked)

pub well-so : (e : Effect) (s : Session) (r : Entry) (asked : Call) (why : Option Explanation) (p : Plan) → act_in p ≡ act_of e s asked → ((last : Reply) → IsAnswered e s r last (comes_to p last)) → Fails None p s r why (DoesWell e s r asked p)
well-so e s r asked why p a d = does-so p s r why (DoesWell e s r asked p) (record { asks = a; answered = d })

pub change-fails : (view : Shown) (s : Session) (r : Entry) (asked : Call) → IsChange asked → Fails (first_of view s r effect.Change asked) (after_change s r (change_reason view s asked) (change_result view s asked)) s r (change_reason view s asked) (ChangesWell s r (change_reason view s asked) asked (change_result view s asked))
change-fails view s r (call.SetBreakpoints key lines) n = lines-fail s r (change_reason view s (call.SetBreakpoints key lines)) key lines (view.verify key (lines_asked s.options lines))
change-fails view s r (call.SetVariable asked) n = value-fails view s r (change_reason view s (call.SetVariable asked)) asked (object_of s.references asked.variables_reference) refl
change-fails view s r _ n = absurd n
