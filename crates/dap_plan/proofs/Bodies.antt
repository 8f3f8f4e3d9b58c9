-- Each success has the body that its command's row says: effect by effect, then by the table.
use Rattle.std.proofs.Common.{◌≡◌, ◌⊎◌, inl, inr, ℕ, List, [], ◌∷◌, Bool, true, false, not, cond, Option, Some, None, Ok, Err, refl, sym, ap, ◌∙◌, subst, true≢false}
use Rattle.std.specs.Prelude.{◌||◌, ◌&&◌, is_some, option_map, if◌then◌else◌}
use Rattle.std.specs.List.{list_any, find}
use Rattle.serde_json.specs.Data.{Data}
use Rattle.dap_call.specs.CallTree.{command_of}
use Rattle.dap_call.specs.declared.call.Call.{Call}
use Rattle.dap_call.specs.declared.call.Call.TheVariants as call
use Rattle.dap_call.specs.declared.call.SetVariable.{SetVariable}
use Rattle.dap_command.specs.Objects.{has_body}
use Rattle.dap_command.specs.declared.command.Command.{Command}
use Rattle.dap_command.specs.declared.command.Command.TheVariants as command
use Rattle.dap_command.specs.declared.source_key.SourceKey.{SourceKey}
use Rattle.dap_body.specs.declared.failure.Failure.{Failure}
use Rattle.dap_body.specs.declared.failure.Failure.TheVariants.{Cancelled, Debuggee, TooManyBreakpoints, TooLarge}
use Rattle.dap_message.specs.MessageParts.{initialized, terminated}
use Rattle.dap_tables.specs.Outstanding.{without}
use Rattle.dap_tables.specs.declared.entry.Entry.{Entry}
use Rattle.dap_tables.specs.declared.target.Target.{Target}
use Rattle.dap_tables.proofs.KeptLemmas.{contains_seq-without}
use Rattle.dap_debuggee.specs.Shown.{Shown, Reply, done, refused, happened}
use Rattle.dap_debuggee.specs.declared.answers.Assigned.{Assigned}
use Rattle.dap_debuggee.specs.declared.explanation.Explanation.{Explanation}
use Rattle.dap_decision.specs.Laws.{asks, QueriesHaveTheirBodies}
use Rattle.dap_decision.specs.Table.{Row, rows_of, effect_in, is_among}
use Rattle.dap_decision.specs.declared.effect.Effect.{Effect}
use Rattle.dap_decision.specs.declared.effect.Effect.TheVariants as effect
use Rattle.dap_query.specs.Bodies.{QueryAnswer, QueryResult, query_result}
use Rattle.dap_query.specs.Queries.{object_of}
use Rattle.dap_outbox.specs.Draft.{Answer, Draft, reply, emit, ask, success, failure, explained, came_out, plain_success}
use Rattle.dap_outbox.specs.Waiting.{starting_ones}
use Rattle.dap_plan.specs.BodyLaws.{SuccessesHaveTheirBodies}
use Rattle.dap_plan.specs.Breakpoints.{are_too_many}
use Rattle.dap_plan.specs.Handling.{Change, ChangeResult, after_change, after_query, assigned_result, by_reply, change_result, effect_of, failing, fits, change_reason, query_reason, lines_asked, lines_change, lines_result, plan_for, resume_body, start_unless_asked, start_parked_unless_asked, wants_terminal, parked_wants_terminal, value_change, value_result, answer_parked}
use Rattle.dap_plan.specs.OrderLaws.{answer_to, comes_to}
use Rattle.dap_plan.specs.Plan.{Made, Plan}
use Rattle.dap_plan.specs.Session.{Session, query_of}
use Rattle.dap_plan.proofs.Kept.{eqb-self}
use Rattle.dap_plan.proofs.Outcomes.{failing-is}
use Rattle.dap_plan.proofs.ServedInOrder.{behind-others}
use Rattle.dap_debuggee.specs.declared.answers.Placement.{Placement}

-- ---- what the first answer says

abbrev body-said : Answer → Bool
body-said (success body names) = is_some body
body-said (failure f) = false
body-said (explained told) = false
body-said (came_out o) = false

abbrev is-failure : Answer → Bool
is-failure (success body names) = false
is-failure (failure f) = true
is-failure (explained told) = true
is-failure (came_out o) = true

some-same : {A : Type 0} (a b : A) → Some a ≡ Some b → a ≡ b
some-same a b e = cc

no-some : {A B : Type 0} (a : A) → None ≡ Some a → B
no-some a e = absurd (cc e)

first-is : (r : Entry) (a : Answer) (ds : List Draft) → answer_to r.seq (reply r a ∷ ds) ≡ Some a
first-is r a ds = rw (eqb-self r.seq) refl

answers : (r : Entry) (a : Answer) (ds : List Draft) (body : Option Data) (names : List Target) → answer_to r.seq (reply r a ∷ ds) ≡ Some (success body names) → a ≡ success body names
answers r a ds body names h = some-same a (success body names) (sym (first-is r a ds) ∙ h)

said : (r : Entry) (a : Answer) (ds : List Draft) (body : Option Data) (names : List Target) → answer_to r.seq (reply r a ∷ ds) ≡ Some (success body names) → is_some body ≡ body-said a
said r a ds body names h = ap body-said (sym (answers r a ds body names h))

-- a failure is no success
fails : {A : Type 0} (r : Entry) (f : Failure) (ds : List Draft) (body : Option Data) (names : List Target) → answer_to r.seq (reply r (failure f) ∷ ds) ≡ Some (success body names) → A
fails r f ds body names h = absurd (true≢false (ap is-failure (answers r (failure f) ds body names h)))

-- nor is one with a reason, or one without
says-no-body : (a : Answer) (f : Failure) → (a ≡ failure f) ⊎ ((told : Explanation) × (f ≡ Debuggee) × (a ≡ explained told)) → body-said a ≡ false
says-no-body a f (inl e) = rw e refl
says-no-body a f (inr w) = rw w.2 refl

no-success : (a : Answer) (f : Failure) → (a ≡ failure f) ⊎ ((told : Explanation) × (f ≡ Debuggee) × (a ≡ explained told)) → is-failure a ≡ true
no-success a f (inl e) = rw e refl
no-success a f (inr w) = rw w.2 refl

replied : (s : Session) (r : Entry) (last : Reply) → body-said (by_reply s r last) ≡ false
replied s r done = refl
replied s r (refused why) = says-no-body (failing s r Debuggee why) Debuggee (failing-is s r Debuggee why)
replied s r (happened h) = refl

-- ---- effects whose success says the same of each command

abbrev is-own : Effect → Bool
is-own effect.Query = false
is-own effect.Change = false
is-own _ = true

abbrev own-body : Effect → Bool
own-body effect.Initialize = true
own-body (effect.Resume how) = is_some (resume_body how)
own-body _ = false

abbrev Says : Shown → Session → Entry → Call → Reply → Effect → Type 0
Says view s r asked last e = (body : Option Data) (names : List Target) → answer_to r.seq (comes_to (plan_for e view s r asked) last).drafts ≡ Some (success body names) → is_some body ≡ own-body e

own-says : (view : Shown) (s : Session) (r : Entry) (asked : Call) (last : Reply) (e : Effect) → is-own e ≡ true → Says view s r asked last e
unfolding plan_for
own-says view s r asked last effect.Initialize o body names h = said r _ (emit initialized ∷ []) body names h
own-says view s r asked last effect.Park o body names h = no-some (success body names) h
own-says view s r asked last effect.Start o body names h = said r _ [] body names h ∙ replied s r last
own-says view s r asked last effect.ConfigurationDone o body names h = said r _ [] body names h
own-says view s r asked last effect.StartParked o body names h = said r _ (answer_parked s (starting_ones (without r.seq s.kept)) last) body names h
own-says view s r asked last effect.Ask o body names h = no-some (success body names) h
own-says view s r asked last effect.AskParked o body names h = said r _ (ask ∷ []) body names h
own-says view s r asked last effect.Disconnect o body names h = said r plain_success [] body names (sym (behind-others r.seq (failure Cancelled) (without r.seq s.kept) (reply r plain_success ∷ []) (contains_seq-without r.seq s.kept)) ∙ h)
own-says view s r asked last effect.EndAndDisconnect o body names h = said r plain_success [] body names (sym (behind-others r.seq (failure Cancelled) (without r.seq s.kept) (reply r plain_success ∷ []) (contains_seq-without r.seq s.kept)) ∙ h)
own-says view s r asked last effect.Terminate o body names h = said r _ (emit terminated ∷ []) body names h
own-says view s r asked done (effect.Resume how) o body names h = said r _ [] body names h
own-says view s r asked (refused why) (effect.Resume how) o body names h = absurd (true≢false (sym (no-success (failing s r Debuggee why) Debuggee (failing-is s r Debuggee why)) ∙ ap is-failure (answers r (failing s r Debuggee why) [] body names h)))
own-says view s r asked (happened x) (effect.Resume how) o body names h = fails r _ [] body names h
own-says view s r asked last effect.Pause o body names h = said r _ [] body names h ∙ replied s r last
own-says view s r asked last effect.Query o body names h = absurd (true≢false (sym o))
own-says view s r asked last effect.Change o body names h = absurd (true≢false (sym o))

-- in place of a start a terminal may be asked for
asked-own : (s : Session) (r : Entry) (e : Effect) → is-own e ≡ true → (is-own (effect_of s r e) ≡ true) × (own-body (effect_of s r e) ≡ own-body e)
asked-own s r effect.Start o = start (wants_terminal s.options r)
  where
    start : (b : Bool) → (is-own (start_unless_asked b) ≡ true) × (own-body (start_unless_asked b) ≡ false)
    start true = (refl, refl)
    start false = (refl, refl)
asked-own s r effect.StartParked o = start (parked_wants_terminal s.options s.kept)
  where
    start : (b : Bool) → (is-own (start_parked_unless_asked b) ≡ true) × (own-body (start_parked_unless_asked b) ≡ false)
    start true = (refl, refl)
    start false = (refl, refl)
asked-own s r _ o = (o, refl)

-- ---- queries and changes

-- one of two steps
either-made : (b : Bool) (made other : Made) (seq : ℕ) (body : Option Data) (names : List Target) (x : Bool) → (answer_to seq made.drafts ≡ Some (success body names) → is_some body ≡ x) → (answer_to seq other.drafts ≡ Some (success body names) → is_some body ≡ x)
    → (let m : Made = (if b then made else other) in answer_to seq m.drafts) ≡ Some (success body names) → is_some body ≡ x
either-made true made other seq body names x y n h = y h
either-made false made other seq body names x y n h = n h

either-plan : (b : Bool) (made other : Plan) (last : Reply) (seq : ℕ) (body : Option Data) (names : List Target) (x : Bool)
    → (answer_to seq (comes_to made last).drafts ≡ Some (success body names) → is_some body ≡ x) → (answer_to seq (comes_to other last).drafts ≡ Some (success body names) → is_some body ≡ x)
    → (let p : Plan = (if b then made else other) in answer_to seq (comes_to p last).drafts) ≡ Some (success body names) → is_some body ≡ x
either-plan true made other last seq body names x y n h = y h
either-plan false made other last seq body names x y n h = n h

failing-is-one : (s : Session) (r : Entry) (f : Failure) (why : Option Explanation) → is-failure (failing s r f why) ≡ true
failing-is-one s r f why = by (failing-is s r f why)
  where
    by : (failing s r f why ≡ failure f) ⊎ ((told : Explanation) × (f ≡ Debuggee) × (failing s r f why ≡ explained told)) → is-failure (failing s r f why) ≡ true
    by (inl e) = ap is-failure e
    by (inr w) = ap is-failure w.2

-- nor is one with a reason
fails-so : {A : Type 0} (s : Session) (r : Entry) (f : Failure) (why : Option Explanation) (body : Option Data) (names : List Target) → answer_to r.seq (reply r (failing s r f why) ∷ []) ≡ Some (success body names) → A
fails-so s r f why body names h = absurd (true≢false (sym (failing-is-one s r f why) ∙ ap is-failure (answers r (failing s r f why) [] body names h)))

query-says : (s : Session) (r : Entry) (why : Option Explanation) (due : QueryResult) (x : Bool) (body : Option Data) (names : List Target) → ((t : QueryAnswer) → due ≡ Ok t → is_some t.body ≡ x) → answer_to r.seq (after_query s r why due).drafts ≡ Some (success body names) → is_some body ≡ x
query-says s r why (Err f) x body names k h = fails-so s r f why body names h
query-says s r why (Ok t) x body names k h = either-made (fits s r t.body) _ _ r.seq body names x (λ y. said r _ [] body names y ∙ k t refl) (λ n. fails r TooLarge [] body names n) h

change-says : (s : Session) (r : Entry) (why : Option Explanation) (due : ChangeResult) (last : Reply) (x : Bool) (body : Option Data) (names : List Target) → ((c : Change) → due ≡ Ok c → is_some c.body ≡ x) → answer_to r.seq (comes_to (after_change s r why due) last).drafts ≡ Some (success body names) → is_some body ≡ x
change-says s r why (Err f) last x body names k h = fails-so s r f why body names h
change-says s r why (Ok c) last x body names k h = either-plan (fits s r c.body) _ _ last r.seq body names x (λ y. said r _ [] body names y ∙ k c refl) (λ n. fails r TooLarge [] body names n) h

lines-some : (b : Bool) (s : Session) (key : SourceKey) (lines : List ℕ) (verified : List Placement) (c : Change) → (let due : ChangeResult = (if b then Err TooManyBreakpoints else Ok (lines_change s key lines verified)) in due) ≡ Ok c → is_some c.body ≡ true
lines-some true s key lines verified c e = absurd (cc e)
lines-some false s key lines verified c e =
    let same : lines_change s key lines verified ≡ c = cc in
    subst (λ (x : Change). is_some x.body ≡ true) same refl

lines-told : (s : Session) (key : SourceKey) (lines : List ℕ) (o : Option (List Placement)) (c : Change) → lines_result s key lines o ≡ Ok c → is_some c.body ≡ true
lines-told s key lines None c e = absurd (cc e)
lines-told s key lines (Some verified) c e = lines-some (are_too_many s.limits key lines s.breakpoints) s key lines verified c e

assigned-told : (s : Session) (asked : SetVariable) (holder : ℕ) (o : Option Assigned) (c : Change) → assigned_result s asked holder o ≡ Ok c → is_some c.body ≡ true
assigned-told s asked holder None c e = absurd (cc e)
assigned-told s asked holder (Some a) c e =
    let same : value_change s asked holder a ≡ c = cc in
    subst (λ (x : Change). is_some x.body ≡ true) same refl

value-told : (view : Shown) (s : Session) (asked : SetVariable) (o : Option ℕ) (c : Change) → value_result view s asked o ≡ Ok c → is_some c.body ≡ true
value-told view s asked None c e = absurd (cc e)
value-told view s asked (Some holder) c e = assigned-told s asked holder (view.assigned holder asked.name asked.value) c e

change-told : (view : Shown) (s : Session) (asked : Call) (c : Change) → change_result view s asked ≡ Ok c → is_some c.body ≡ has_body (command_of asked)
change-told view s (call.SetBreakpoints key lines) c e = lines-told s key lines (view.verify key (lines_asked s.options lines)) c e
change-told view s (call.SetVariable asked) c e = value-told view s asked (object_of s.references asked.variables_reference) c e
change-told view s _ c e = absurd (cc e)

-- ---- by the table

abbrev differ : Bool → Bool → Bool
differ true b = not b
differ false b = b

-- its success says another thing than the row of the command
abbrev misfits : Bool → Effect → Bool
misfits has e = is-own e && differ (own-body e) has

own-fit : (c : Command) → list_any (λ (row : Row). misfits (has_body c) row.effect) (rows_of c) ≡ false
own-fit command.Initialize = refl
own-fit _ = refl

or-left : (a b : Bool) → a ≡ true → (a || b) ≡ true
or-left true b h = refl
or-left false b h = absurd (true≢false (sym h))

or-right : (a b : Bool) → b ≡ true → (a || b) ≡ true
or-right true b h = refl
or-right false b h = h

-- what is found is among them
found-any : (test : Effect → Bool) (of : Row → Bool) (rows : List Row) (e : Effect) → option_map (λ (row : Row). row.effect) (find of rows) ≡ Some e → test e ≡ true → list_any (λ (row : Row). test row.effect) rows ≡ true
found-any test of [] e h t = no-some e h
found-any test of (row ∷ rows) e h t = by (of row) (λ g. found-any test of rows e g t) h
  where
    by : (b : Bool) → (option_map (λ (one : Row). one.effect) (find of rows) ≡ Some e → list_any (λ (one : Row). test one.effect) rows ≡ true)
        → option_map (λ (one : Row). one.effect) (cond b (Some row) (find of rows)) ≡ Some e → (test row.effect || list_any (λ (one : Row). test one.effect) rows) ≡ true
    by true later h = or-left (test row.effect) _ (ap test (some-same row.effect e h) ∙ t)
    by false later h = or-right (test row.effect) _ (later h)

both-true : (a b : Bool) → a ≡ true → b ≡ true → (a && b) ≡ true
both-true true b h k = k
both-true false b h k = h

same-unless : (a b : Bool) → (differ a b ≡ true → ⊥) → a ≡ b
same-unless true true d = refl
same-unless true false d = absurd (d refl)
same-unless false true d = absurd (d refl)
same-unless false false d = refl

own-success : (view : Shown) (s : Session) (r : Entry) (asked : Call) (last : Reply) (e : Effect) (body : Option Data) (names : List Target) → is-own e ≡ true
    → effect_in (command_of asked) s.phase ≡ Some e → answer_to r.seq (comes_to (plan_for (effect_of s r e) view s r asked) last).drafts ≡ Some (success body names) → is_some body ≡ has_body (command_of asked)
own-success view s r asked last e body names o h a =
    let c = command_of asked in
    let both = asked-own s r e o in
    own-says view s r asked last (effect_of s r e) both.0 body names a ∙ both.1
    ∙ same-unless (own-body e) (has_body c) (λ d.
    let misfit : misfits (has_body c) e ≡ true = both-true (is-own e) (differ (own-body e) (has_body c)) o d in
    true≢false (sym (found-any (misfits (has_body c)) (λ row. is_among s.phase row.phases) (rows_of c) e h misfit) ∙ own-fit c))

pub successes_have_their_bodies : QueriesHaveTheirBodies → SuccessesHaveTheirBodies
unfolding plan_for
successes_have_their_bodies queries view s r asked last effect.Query body names h a =
    query-says s r (query_reason view s asked) (query_result view (query_of s) asked) (has_body (command_of asked)) body names
    (λ t e. queries view (query_of s) asked t (found-any asks (λ row. is_among s.phase row.phases) (rows_of (command_of asked)) effect.Query h refl) e) a
successes_have_their_bodies queries view s r asked last effect.Change body names h a =
    change-says s r (change_reason view s asked) (change_result view s asked) last (has_body (command_of asked)) body names (change-told view s asked) a
successes_have_their_bodies queries view s r asked last e body names h a = own-success view s r asked last e body names refl h a
