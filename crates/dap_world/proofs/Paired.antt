-- What goes between both ends is what goes between the smaller pair, and what the adapter makes is what the pair's makes.
use Rattle.std.proofs.Common.{◌≡◌, ℕ, ◌+◌, ◌≤◌, List, [], ◌∷◌, ◌++◌, length, Bool, true, false, Option, Some, None, refl, sym, ap, ◌∙◌, subst, arith}
use Rattle.std.specs.Prelude.{◌==◌, ◌&&◌, nat_lt, if◌then◌else◌}
use Rattle.std.proofs.lemmas.Bool.Decides.{nat_tests}
use Rattle.std.proofs.lemmas.List.{append-nil, map-append}
use Rattle.dap_ends.specs.Messages.{Ask, code}
use Rattle.dap_ends.specs.Messages as small
use Rattle.dap_ends.specs.AdapterModel.{AdapterModel, AdapterPhase, Made as SmallMade}
use Rattle.dap_ends.specs.AdapterModel as model
use Rattle.dap_ends.specs.References.{Ref, Table, is_inspect, given_by as small_given, all_in, references_from, live_refs, inspection_succeeds, table_turned, table_after}
use Rattle.dap_ends.specs.Pair.{NumberedNote, WrittenNote, Pair, numbered_notes, notes_written_by, pair_after_adapter}
use Rattle.dap_envelope.specs.declared.message.Message.{Message}
use Rattle.dap_history.specs.History.{Asked, without_answered}
use Rattle.dap_check.specs.declared.line.Side.TheVariants.{Adapter}
use Rattle.dap_plan.specs.Answering.{GoesWell}
use Rattle.dap_plan.specs.GivenLaws.{given_by}
use Rattle.dap_plan.specs.Plan.{Made, written_by}
use Rattle.dap_message.specs.declared.outcome.Outcome.TheVariants as outcome
use Rattle.dap_outbox.specs.Draft.{success, failure, explained, came_out, Draft, reply, emit, ask, ask_named, message_of, numbered_messages, requests_in}
use Rattle.dap_plan.specs.Session.{Session, own_requests}
use Rattle.dap_plan.specs.SessionState.{SessionState}
use Rattle.dap_client.specs.Projection.{references_seen}
use Rattle.dap_world.specs.Projection.{note_seen, notes_seen, written_seen, adapter_model_of, own_seen, table_of, ByNumber, pair_of}
use Rattle.dap_world.specs.World.{World, Said, said_by, adapter_said}
use Rattle.dap_world.proofs.Answered.{IsHarmless, AllHarmless, AllGive}
use Rattle.dap_world.proofs.KeptSeen.{told, all_told}

-- ---- what is under way, and what was written

pub notes-append : (xs ys : List Message) → notes_seen (xs ++ ys) ≡ notes_seen xs ++ notes_seen ys
notes-append xs ys = map-append note_seen xs ys

written-by-adapter : (ms : List Message) → written_seen (said_by Adapter ms) ≡ notes_written_by false (notes_seen ms)
written-by-adapter [] = refl
written-by-adapter (m ∷ ms) = ap (λ (ns : List WrittenNote). let n : WrittenNote = record { by_client = false; numbered = note_seen m } in n ∷ ns) (written-by-adapter ms)

pub written-append : (xs ys : List Said) → written_seen (xs ++ ys) ≡ written_seen xs ++ written_seen ys
written-append xs ys = map-append _ xs ys

pub written-more : (said : List Said) (ms : List Message) → written_seen (said ++ said_by Adapter ms) ≡ written_seen said ++ notes_written_by false (notes_seen ms)
written-more said ms = written-append said (said_by Adapter ms) ∙ ap (λ (ns : List WrittenNote). written_seen said ++ ns) (written-by-adapter ms)

-- by what each gives
pub note-told : (n : ℕ) (d : Draft) (named : List Ref) → IsHarmless d → references_seen (given_by d) ≡ small_given (told d) named → note_seen (message_of n d) ≡ (let m : NumberedNote = record { seq = n; note = record { message = told d; refs = small_given (told d) named } } in m)
note-told n (reply r (success body names)) named h g = ap (λ (refs : List Ref). let m : NumberedNote = record { seq = n; note = record { message = told (reply r (success body names)); refs = refs } } in m) g
note-told n (reply r (failure f)) named h g = refl
note-told n (reply r (explained w)) named h g = refl
note-told n (reply r (came_out (outcome.Success body))) named h g = ap (λ (refs : List Ref). let m : NumberedNote = record { seq = n; note = record { message = told (reply r (came_out (outcome.Success body))); refs = refs } } in m) g
note-told n (reply r (came_out (outcome.Failure message body))) named h g = refl
note-told n (emit event) named h g = refl
note-told n ask named h g = absurd h
note-told n (ask_named command arguments) named h g = absurd h

pub numbered-seen : (used : ℕ) (ds : List Draft) (named : List Ref) → AllHarmless ds → AllGive named ds → notes_seen (numbered_messages used ds) ≡ numbered_notes used named (all_told ds)
numbered-seen used [] named h g = refl
numbered-seen used (d ∷ ds) named h g =
    ap (λ (m : NumberedNote). m ∷ notes_seen (numbered_messages (used + 1) ds)) (note-told (used + 1) d named h.0 g.0)
    ∙ ap (λ (ms : List NumberedNote). let m : NumberedNote = record { seq = used + 1; note = record { message = told d; refs = small_given (told d) named } } in m ∷ ms) (numbered-seen (used + 1) ds named h.1 g.1)

-- ---- own requests

pub keeps-all : (qs : List Asked) → without_answered None qs ≡ qs
keeps-all [] = refl
keeps-all (q ∷ qs) = ap (λ (xs : List Asked). q ∷ xs) (keeps-all qs)

none-requested : (used : ℕ) (ds : List Draft) → AllHarmless ds → requests_in used ds ≡ []
none-requested used [] h = refl
none-requested used (reply r answer ∷ ds) h = none-requested (used + 1) ds h.1
none-requested used (emit event ∷ ds) h = none-requested (used + 1) ds h.1
none-requested used (ask ∷ ds) h = absurd h.0
none-requested used (ask_named command arguments ∷ ds) h = absurd h.0

-- where none is made and none is answered they stay
pub own-stays : (s : Session) (came : List Asked) (made : Made) → GoesWell s came None made → AllHarmless made.drafts → own_requests made.after.asked ≡ own_requests s.asked
own-stays s came made g h =
    g.asked ∙ (ap (λ (qs : List Asked). qs ++ requests_in s.used made.drafts) (keeps-all (own_requests s.asked))
    ∙ (ap (λ (qs : List Asked). own_requests s.asked ++ qs) (none-requested s.used made.drafts h) ∙ append-nil (own_requests s.asked)))

-- ---- an inspection that succeeds

-- an inspection is tried in Stopped, and fails in any other phase
inspection-class : (c : small.Command) → (code c == 10) ≡ true → c ≡ small.Inspect
inspection-class small.Inspect h = refl
inspection-class _ h = cc

tried-stopped : (p : AdapterPhase) → (model.answer_of p small.Inspect ≡ model.Fails → ⊥) → p ≡ model.AdapterStopped
tried-stopped model.AdapterStopped n = refl
tried-stopped model.AdapterFresh n = absurd (n refl)
tried-stopped _ n = absurd (n refl)

-- what is live then, and what is named
stopped-grows : (p : AdapterPhase) (c : small.Command) (t u : Table) (more : List Bool) → p ≡ model.AdapterStopped → c ≡ small.Inspect → u ≡ table_turned p c true t more → u ≡ (let z : Table = record { base = t.base; live = t.live ++ more } in z)
stopped-grows p c t u more e f h = h ∙ (ap (λ (q : AdapterPhase). table_turned q c true t more) e ∙ ap (λ (d : small.Command). table_turned model.AdapterStopped d true t more) f)

all-three : (ok b c : Bool) → (ok ≡ true → b ≡ true) → (ok ≡ true → c ≡ true) → (ok && (b && c)) ≡ ok
all-three true b c f g = rw (f refl, g refl) refl
all-three false b c f g = refl

inspection-if : (i ok b c : Bool) → (i ≡ true → ok ≡ true → b ≡ true) → (i ≡ true → ok ≡ true → c ≡ true) → (if i then (ok && (b && c)) else ok) ≡ ok
inspection-if true ok b c f g = all-three ok b c (f refl) (g refl)
inspection-if false ok b c f g = refl

below-next : (m n : ℕ) → m ≤ n → nat_lt m (n + 1) ≡ true
below-next m n h = grind (arith, nat_tests)

-- where as many are live as there is room for at most, and all that is named is live
pub inspection-so : (r : ℕ) (p : AdapterPhase) (t u : Table) (more : List Bool) (named : List Ref) (o : Option Ask) (ok : Bool) → ((a : Ask) → o ≡ Some a → ok ≡ true → model.answer_of p a.command ≡ model.Fails → ⊥) → u ≡ table_after o p ok t more → length u.live ≤ r → all_in (live_refs u) named ≡ true
    → inspection_succeeds r t more named o ok ≡ ok
inspection-so r p t u more named None ok fair e few live = refl
inspection-so r p t u more named (Some a) ok fair e few live =
    let grown : is_inspect a ≡ true → ok ≡ true → u ≡ (let z : Table = record { base = t.base; live = t.live ++ more } in z) = λ i y.
    let class : a.command ≡ small.Inspect = inspection-class a.command i in
    let phase : p ≡ model.AdapterStopped = tried-stopped p (subst (λ (c : small.Command). model.answer_of p c ≡ model.Fails → ⊥) class (fair a refl y)) in
    stopped-grows p a.command t u more phase class (e ∙ ap (λ (b : Bool). table_turned p a.command b t more) y) in
    inspection-if (is_inspect a) ok (nat_lt (length (t.live ++ more)) (r + 1)) (all_in (references_from t.base (t.live ++ more)) named)
    (λ i y. subst (λ (z : Table). nat_lt (length z.live) (r + 1) ≡ true) (grown i y) (below-next (length u.live) r few))
    (λ i y. subst (λ (z : Table). all_in (live_refs z) named ≡ true) (grown i y) live)

-- ---- what the adapter makes

-- the world after what was made
abbrev pub world_made : {D : Type 0} → World D → List Message → Made → D → World D
world_made {D} w ups made v = let s : SessionState D = record { session = made.after; debuggee = v } in adapter_said s (written_by w.adapter.session made) (record w { up = ups })

abbrev pub with_adapter : Pair → AdapterModel → Table → Bool → ℕ → List Ask → List NumberedNote → List WrittenNote → Pair
with_adapter p d r t n qs downs all = record p { adapter = d; table = r; terminal = t; used = n; asked = qs; down = downs; written = all }

pub same-adapter : (p : Pair) (d e : AdapterModel) (r v : Table) (t u : Bool) (m n : ℕ) (qs rs : List Ask) (xs ys : List NumberedNote) (zs ws : List WrittenNote) → d ≡ e → r ≡ v → t ≡ u → m ≡ n → qs ≡ rs → xs ≡ ys → zs ≡ ws
    → with_adapter p d r t m qs xs zs ≡ with_adapter p e v u n rs ys ws
same-adapter p d e r v t u m n qs rs xs ys zs ws a i b c f g h =
    ap (λ (x : AdapterModel). with_adapter p x r t m qs xs zs) a
    ∙ (ap (λ (x : Table). with_adapter p e x t m qs xs zs) i
    ∙ (ap (λ (x : Bool). with_adapter p e v x m qs xs zs) b
    ∙ (ap (λ (x : ℕ). with_adapter p e v u x qs xs zs) c
    ∙ (ap (λ (x : List Ask). with_adapter p e v u n x xs zs) f
    ∙ (ap (λ (x : List NumberedNote). with_adapter p e v u n rs x zs) g
    ∙ ap (λ (x : List WrittenNote). with_adapter p e v u n rs ys x) h)))))

pub told-length : (ds : List Draft) → length (all_told ds) ≡ length ds
told-length [] = refl
told-length (d ∷ ds) = let ih = told-length ds in omega arith

-- is what the pair's makes, with this table and these references given
pub made-pair : {D : Type 0} (w : World D) (by : ByNumber) (ups : List Message) (made : Made) (v : D) (x : SmallMade) (named : List Ref) (table : Table) (terminal : Bool) (qs : List Ask)
    → adapter_model_of made.after ≡ x.adapter → all_told made.drafts ≡ x.outs → AllHarmless made.drafts → AllGive named made.drafts → table_of made.after.references ≡ table → made.after.used ≡ w.adapter.session.used + length made.drafts
    → terminal ≡ made.after.options.supports_run_in_terminal_request → qs ≡ own_seen (own_requests made.after.asked)
    → pair_after_adapter (record (pair_of w by) { up = notes_seen ups; terminal = terminal; asked = qs }) x named table ≡ pair_of (world_made w ups made v) by
made-pair w by ups made v x named table terminal qs e f h given r used t q =
    let s : Session = w.adapter.session in
    let many = told-length made.drafts in
    let outs : numbered_notes s.used named x.outs ≡ notes_seen (numbered_messages s.used made.drafts) = ap (numbered_notes s.used named) (sym f) ∙ sym (numbered-seen s.used made.drafts named h given) in
    let count : s.used + length x.outs ≡ made.after.used = let same = ap length f in omega (arith, same, many, used) in
    same-adapter (record (pair_of w by) { up = notes_seen ups }) x.adapter (adapter_model_of made.after) table (table_of made.after.references) terminal made.after.options.supports_run_in_terminal_request (s.used + length x.outs) made.after.used qs (own_seen (own_requests made.after.asked))
    (notes_seen w.down ++ numbered_notes s.used named x.outs) (notes_seen (w.down ++ numbered_messages s.used made.drafts))
    (written_seen w.said ++ notes_written_by false (numbered_notes s.used named x.outs)) (written_seen (w.said ++ said_by Adapter (numbered_messages s.used made.drafts)))
    (sym e) (sym r) t count q
    (ap (λ (ns : List NumberedNote). notes_seen w.down ++ ns) outs ∙ sym (notes-append w.down (numbered_messages s.used made.drafts)))
    (ap (λ (ns : List NumberedNote). written_seen w.said ++ notes_written_by false ns) outs ∙ sym (written-more w.said (numbered_messages s.used made.drafts)))
