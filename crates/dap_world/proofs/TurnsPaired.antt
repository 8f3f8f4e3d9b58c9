-- A turn of both adapters: whether it asks for a terminal, what was announced then, and what it writes where it does.
use Rattle.std.proofs.Common.{◌≡◌, ℕ, ◌+◌, ◌≤◌, List, [], ◌∷◌, ◌++◌, length, Bool, true, false, Option, Some, None, Ok, refl, sym, ap, ◌∙◌, arith, append_assoc}
use Rattle.std.specs.Prelude.{◌&&◌, ◌||◌, if◌then◌else◌}
use Rattle.std.specs.List.{list_any}
use Rattle.std.proofs.lemmas.List.{map-append}
use Rattle.serde_json.specs.Data.{Data}
use Rattle.dap_ends.specs.Messages.{Ask, code, Request}
use Rattle.dap_ends.specs.Messages as small
use Rattle.dap_ends.specs.AdapterModel.{Fails, answer_of, AdapterModel, AdapterPhase, Made as SmallMade, Kept as SmallKept, asks as small_asks, oldest as small_oldest, parked_of, is_parked_phase, would_start, after_asking_turn, adapter_model_turns}
use Rattle.dap_ends.specs.References.{Ref, Table, given_by as small_given, all_in, live_refs, inspection_succeeds, table_after}
use Rattle.dap_ends.specs.Pair.{NumberedNote, WrittenNote, Pair, PairTurn, terminal_ask, launch_seq, turn_asks, terminal_after_command, terminal_after_turn, sets_variable, unless_sets_variable, numbered_notes, notes_written_by, pair_after_adapter, pair_asks_terminal, pair_after_turn, pair_happens}
use Rattle.dap_ends.specs.Standing.{AllLaunch}
use Rattle.dap_ends.specs.Messages.{one_if}
use Rattle.dap_call.specs.Argument.{Read}
use Rattle.dap_call.specs.Call.{call_of, cancel_of}
use Rattle.dap_call.specs.CallTree.{command_of as command_in}
use Rattle.dap_command.specs.Command.{command_named}
use Rattle.dap_call.specs.Terminal.{terminal_members}
use Rattle.dap_call.specs.declared.call.Call.{Call}
use Rattle.dap_call.specs.declared.call.Call.TheVariants as call
use Rattle.dap_command.specs.declared.command.Command.{Command}
use Rattle.dap_command.specs.declared.command.Command.TheVariants as command
use Rattle.dap_history.specs.History.{Asked}
use Rattle.dap_history.specs.Requests.{asks as all_asks}
use Rattle.dap_tables.specs.Outstanding.{Kept}
use Rattle.dap_tables.specs.declared.entry.Entry.{Entry}
use Rattle.dap_check.specs.declared.line.Side.TheVariants.{Adapter}
use Rattle.dap_tables.specs.References.{LiveReferences}
use Rattle.dap_plan.specs.Answering.{GoesWell}
use Rattle.dap_plan.specs.GivenLaws.{given_by, AllGiveLive}
use Rattle.dap_plan.specs.Handling.{is_launch, names_terminal, wants_terminal, parked_wants_terminal}
use Rattle.dap_plan.specs.Plan.{Made}
use Rattle.dap_outbox.specs.Draft.{Draft, reply, emit, ask, ask_named, message_of, numbered_messages, requests_in}
use Rattle.dap_plan.specs.Session.{Session, own_requests}
use Rattle.dap_outbox.specs.Draft.{own_request}
use Rattle.dap_query.specs.declared.options.Options.{Options}
use Rattle.dap_decision.specs.declared.phase.Phase.{Phase}
use Rattle.dap_decision.specs.declared.phase.Phase.TheVariants as adapter
use Rattle.dap_client.specs.Projection.{class_of, class_if, ask_of, entry_ask}
use Rattle.dap_world.specs.Projection.{note_seen, notes_seen, written_seen, adapter_model_phase, all_kept, adapter_model_of, announces, wanted_by, wanted_of, own_seen, table_of, ByNumber, pair_of, kept_seen}
use Rattle.dap_world.specs.World.{World, said_by}
use Rattle.dap_world.proofs.Answered.{AllHarmless, given_first, AllGive, all-none}
use Rattle.dap_world.proofs.KeptSeen.{launch-head, launch-tail, told, all_told}
use Rattle.dap_world.proofs.Paired.{notes-append, written-more, keeps-all, note-told, told-length, inspection-so, own-stays, same-adapter, made-pair, world_made}
use Rattle.dap_world.proofs.ReferencesSeen.{length-kinds, all-live}
use Rattle.dap_world.proofs.RowsSeen.{asks_by, options_by}
use Rattle.dap_world.proofs.Standing.{AllOwn}
use Rattle.dap_world.proofs.TurnsSeen.{Handled, IsTurn, IsAskingTurn}
use Rattle.dap_world.proofs.Booleans.{and-false, or-false}

-- ---- the launch at hand

both-or : (s w r : Bool) → ((s && w) || (s && r)) ≡ (s && (w || r))
both-or true w r = refl
both-or false w r = refl

-- of a launch it is told what it wants; an attach wants nothing
launch-wants : (o : Option Command) (arguments : Option Data) → code (class_if o) ≡ 1 → wanted_by o arguments ≡ (is_launch o && names_terminal arguments)
launch-wants None arguments h = refl
launch-wants (Some command.Initialize) arguments h = absurd (omega (arith, h))
launch-wants (Some command.Launch) arguments h = refl
launch-wants (Some _) arguments h = refl

module _ (options : Options) (by : ByNumber) (used : ℕ) where
  abbrev any_wants : List Ask → Bool
  any_wants xs = list_any (λ (a : Ask). by.wants a.seq) xs

  parked-here : (b w : Bool) (k : SmallKept) (ks : List SmallKept) (rest : Bool) → (b ≡ true → w ≡ (options.supports_run_in_terminal_request && by.wants k.ask.seq))
      → rest ≡ (options.supports_run_in_terminal_request && any_wants (small_asks ks)) → ((b && w) || rest) ≡ (options.supports_run_in_terminal_request && any_wants (small_asks (if b then k ∷ ks else ks)))
  parked-here true w k ks rest h e =
      ap (λ (x : Bool). x || rest) (h refl)
      ∙ (ap (λ (x : Bool). (options.supports_run_in_terminal_request && by.wants k.ask.seq) || x) e ∙ both-or options.supports_run_in_terminal_request (by.wants k.ask.seq) (any_wants (small_asks ks)))
  parked-here false w k ks rest h e = e

  parked-wants : (ks : List Kept) → AllOwn by used (all_asks ks) → AllLaunch (parked_of (all_kept ks)) → parked_wants_terminal options ks ≡ (options.supports_run_in_terminal_request && any_wants (small_asks (parked_of (all_kept ks))))
  parked-wants [] o l = sym (and-false options.supports_run_in_terminal_request)
  parked-wants (k ∷ ks) o l =
      parked-here k.parked (wants_terminal options k.entry) (kept_seen k) (parked_of (all_kept ks)) (parked_wants_terminal options ks)
      (λ e. ap (λ (x : Bool). options.supports_run_in_terminal_request && x) (sym (launch-wants (command_named k.entry.command) k.entry.arguments (launch-head k.parked (kept_seen k) (parked_of (all_kept ks)) l e)) ∙ sym o.0.wanted))
      (parked-wants ks o.1 (launch-tail k.parked (kept_seen k) (parked_of (all_kept ks)) l))

  one-wants : (a : Ask) (ls : List Ask) → length ls ≡ 1 → any_wants ls ≡ by.wants (launch_seq small.ConfigurationDone a ls)
  one-wants a [] h = absurd (omega (arith, h))
  one-wants a (l ∷ []) h = or-false (by.wants l.seq)
  one-wants a (l ∷ m ∷ ls) h = absurd (omega (arith, h))

length-asks : (ks : List SmallKept) → length (small_asks ks) ≡ length ks
length-asks [] = refl
length-asks (k ∷ ks) = let ih = length-asks ks in omega arith

-- whether a turn asks, by phase and command
abbrev would : AdapterPhase → small.Command → Bool → (ℕ → Bool) → Ask → List Ask → Bool
would p c announced wants a ls = would_start p c && (announced && wants (launch_seq c a ls))

would-is : (p : Phase) (c : Command) (s : Session) (r : Entry) (by : ByNumber) (used : ℕ) → command_named r.command ≡ Some c → by.wants r.seq ≡ wanted_of r → AllOwn by used (all_asks s.kept) → AllLaunch (parked_of (all_kept s.kept))
    → length (parked_of (all_kept s.kept)) ≡ one_if (is_parked_phase (adapter_model_phase p))
    → would (adapter_model_phase p) (class_of c) s.options.supports_run_in_terminal_request by.wants (entry_ask r) (small_asks (parked_of (all_kept s.kept))) ≡ asks_by p c s r
would-is adapter.Configured command.Launch s r by used named w o l n =
    ap (λ (x : Bool). s.options.supports_run_in_terminal_request && x) (w ∙ launch-wants (command_named r.command) r.arguments (ap (λ (x : Option Command). code (class_if x)) named))
would-is adapter.Configured command.Attach s r by used named w o l n =
    ap (λ (x : Bool). s.options.supports_run_in_terminal_request && x) (w ∙ launch-wants (command_named r.command) r.arguments (ap (λ (x : Option Command). code (class_if x)) named))
would-is adapter.Parked command.ConfigurationDone s r by used named w o l n =
    let many = length-asks (parked_of (all_kept s.kept)) in
    ap (λ (x : Bool). s.options.supports_run_in_terminal_request && x) (sym (one-wants s.options by used (entry_ask r) (small_asks (parked_of (all_kept s.kept))) (many ∙ n))) ∙ sym (parked-wants s.options by used s.kept o l)
would-is _ command.Launch s r by used named w o l n = refl
would-is _ _ s r by used named w o l n = refl

pub turn-asks : {D : Type 0} (w : World D) (by : ByNumber) (used : ℕ) (h : Handled w.adapter.session) → by.wants h.k.entry.seq ≡ wanted_of h.k.entry → AllOwn by used (all_asks w.adapter.session.kept)
    → AllLaunch (parked_of (all_kept w.adapter.session.kept)) → length (parked_of (all_kept w.adapter.session.kept)) ≡ one_if (is_parked_phase (adapter_model_phase w.adapter.session.phase))
    → turn_asks (pair_of w by) (small_oldest (all_kept w.adapter.session.kept)) ≡ asks_by w.adapter.session.phase (command_in h.call) w.adapter.session h.k.entry
turn-asks w by used h k o l n =
    let s : Session = w.adapter.session in
    let ls = small_asks (parked_of (all_kept s.kept)) in
    ap (λ (x : Option Ask). turn_asks (pair_of w by) x) h.first
    ∙ (ap (λ (x : Option Command). would (adapter_model_phase s.phase) (class_if x) s.options.supports_run_in_terminal_request by.wants (entry_ask h.k.entry) ls) h.named
    ∙ would-is s.phase (command_in h.call) s h.k.entry by used h.named k o l n)

-- ---- what was announced

announced-by : (p : Phase) (asked : Call) (s : Session) (wanted : Bool) (arguments : Option Data) → call_of (command_in asked) arguments ≡ Ok asked → wanted ≡ wanted_by (Some (command_in asked)) arguments
    → terminal_after_command (adapter_model_phase p) (class_of (command_in asked)) wanted s.options.supports_run_in_terminal_request ≡ (options_by p asked s).supports_run_in_terminal_request
announced-by adapter.Fresh (call.Initialize a) s wanted arguments r w = w ∙ ap announces r
announced-by _ (call.Initialize a) s wanted arguments r w = refl
announced-by _ _ s wanted arguments r w = refl

pub turn-announced : {D : Type 0} (w : World D) (wants : ℕ → Bool) (h : Handled w.adapter.session) (options : Options) → wants h.k.entry.seq ≡ wanted_of h.k.entry → options ≡ options_by w.adapter.session.phase h.call w.adapter.session
    → terminal_after_turn (adapter_model_phase w.adapter.session.phase) (small_oldest (all_kept w.adapter.session.kept)) wants w.adapter.session.options.supports_run_in_terminal_request ≡ options.supports_run_in_terminal_request
turn-announced w wants h options k e =
    let s : Session = w.adapter.session in
    let p = adapter_model_phase s.phase in
    let old = s.options.supports_run_in_terminal_request in
    ap (λ (x : Option Ask). terminal_after_turn p x wants old) h.first
    ∙ (ap (λ (x : Option Command). terminal_after_command p (class_if x) (wants h.k.entry.seq) old) h.named
    ∙ (announced-by s.phase h.call s (wants h.k.entry.seq) h.k.entry.arguments h.read (k ∙ ap (λ (x : Option Command). wanted_by x h.k.entry.arguments) h.named)
    ∙ ap (λ (x : Options). x.supports_run_in_terminal_request) (sym e)))

-- ---- a turn

unless-same : {A : Type 0} (b : Bool) (xs : List A) → (b ≡ true → xs ≡ []) → unless_sets_variable b xs ≡ xs
unless-same true xs h = sym (h refl)
unless-same false xs h = refl

first-live : (refs : LiveReferences) (ds : List Draft) → AllGiveLive refs ds → all_in (live_refs (table_of refs)) (given_first ds) ≡ true
first-live refs [] h = refl
first-live refs (d ∷ ds) h = all-live refs (given_by d) h.0

fair-turn : (s : Session) (made : Made) (t : IsTurn s made) (a : Ask) → small_oldest (all_kept s.kept) ≡ Some a → t.ok ≡ true → answer_of (adapter_model_phase s.phase) a.command ≡ Fails → ⊥
fair-turn s made t a e y f =
    let same : Some (entry_ask t.handled.k.entry) ≡ Some a = sym t.handled.first ∙ e in
    let is : entry_ask t.handled.k.entry ≡ a = cc in
    t.fair y (ap (λ (x : Ask). answer_of (adapter_model_phase s.phase) x.command) is ∙ f)

pub turn-pair : {D : Type 0} (n r : ℕ) (w : World D) (by : ByNumber) (made : Made) (v : D) (t : IsTurn w.adapter.session made)
    → turn_asks (pair_of w by) (small_oldest (all_kept w.adapter.session.kept)) ≡ false → by.wants t.handled.k.entry.seq ≡ wanted_of t.handled.k.entry → GoesWell w.adapter.session [] None made
    → length made.after.references.live ≤ r → AllGiveLive made.after.references made.drafts
    → pair_happens n r (pair_of w by) (PairTurn t.ok t.more (given_first made.drafts)) ≡ pair_of (world_made w w.up made v) by
turn-pair n r w by made v t none k g few live =
    let s : Session = w.adapter.session in
    let p : Pair = pair_of w by in
    let o = small_oldest (all_kept s.kept) in
    let d : AdapterModel = adapter_model_of s in
    let table : Table = table_of s.references in
    let named : List Ref = given_first made.drafts in
    let phase = adapter_model_phase s.phase in
    let announced = terminal_after_turn phase o by.wants s.options.supports_run_in_terminal_request in
    let many = length-kinds made.after.references.live in
    let so : inspection_succeeds r table t.more named o t.ok ≡ t.ok =
    inspection-so r phase table (table_of made.after.references) t.more named o t.ok (fair-turn s made t) t.table (omega (arith, many, few)) (first-live made.after.references made.drafts live) in
    ap (λ (b : Bool). if b then pair_asks_terminal p else pair_after_turn r p t.ok (unless_sets_variable (sets_variable o) t.more) (unless_sets_variable (sets_variable o) named)) none
    ∙ (ap (λ (more : List Bool). pair_after_turn r p t.ok more (unless_sets_variable (sets_variable o) named)) (unless-same (sets_variable o) t.more (λ e. (t.sets e).0))
    ∙ (ap (λ (refs : List Ref). pair_after_turn r p t.ok t.more refs) (unless-same (sets_variable o) named (λ e. (t.sets e).1))
    ∙ (ap (λ (ok : Bool). pair_after_adapter (record p { terminal = announced }) (adapter_model_turns d ok) named (table_after o phase ok table t.more)) so
    ∙ made-pair w by w.up made v (adapter_model_turns d t.ok) named (table_after o phase t.ok table t.more) announced (own_seen (own_requests s.asked)) t.after t.outs t.harmless t.gives t.table g.used
    (turn-announced w by.wants t.handled made.after.options k t.options_are) (ap own_seen (sym (own-stays s [] made g t.harmless))))))

-- ---- a turn that asks for a terminal

request-note : (q : ℕ) → note_seen (message_of q ask) ≡ (let m : NumberedNote = record { seq = q; note = record { message = Request (terminal_ask q) 0; refs = [] } } in m)
unfolding cancel_of terminal_members
request-note q = refl

abbrev note_asking : ℕ → NumberedNote
note_asking q = record { seq = q; note = record { message = Request (terminal_ask q) 0; refs = [] } }

numbered-asking : (used : ℕ) (ds : List Draft) → AllHarmless ds → AllGive [] ds → notes_seen (numbered_messages used (ds ++ ask ∷ [])) ≡ numbered_notes used [] (all_told ds) ++ note_asking (used + length ds + 1) ∷ []
numbered-asking used [] h g = let e : used + 1 ≡ used + 0 + 1 = omega arith in ap (λ (m : NumberedNote). m ∷ []) (request-note (used + 1)) ∙ ap (λ (n : ℕ). note_asking n ∷ []) e
numbered-asking used (d ∷ ds) h g =
    let e : used + 1 + length ds + 1 ≡ used + length (d ∷ ds) + 1 = omega arith in
    ap (λ (m : NumberedNote). m ∷ notes_seen (numbered_messages (used + 1) (ds ++ ask ∷ []))) (note-told (used + 1) d [] h.0 g.0)
    ∙ (ap (λ (ms : List NumberedNote). let m : NumberedNote = record { seq = used + 1; note = record { message = told d; refs = small_given (told d) [] } } in m ∷ ms) (numbered-asking (used + 1) ds h.1 g.1)
    ∙ ap (λ (n : ℕ). numbered_notes used [] (all_told (d ∷ ds)) ++ note_asking n ∷ []) e)

one-requested : (used : ℕ) (ds : List Draft) → AllHarmless ds → requests_in used (ds ++ ask ∷ []) ≡ own_request (used + length ds + 1) ∷ []
one-requested used [] h = let e : used + 1 ≡ used + 0 + 1 = omega arith in ap (λ (n : ℕ). own_request n ∷ []) e
one-requested used (reply r answer ∷ ds) h = let e : used + 1 + length ds + 1 ≡ used + length (reply r answer ∷ ds) + 1 = omega arith in one-requested (used + 1) ds h.1 ∙ ap (λ (n : ℕ). own_request n ∷ []) e
one-requested used (emit event ∷ ds) h = let e : used + 1 + length ds + 1 ≡ used + length (emit event ∷ ds) + 1 = omega arith in one-requested (used + 1) ds h.1 ∙ ap (λ (n : ℕ). own_request n ∷ []) e
one-requested used (ask ∷ ds) h = absurd h.0
one-requested used (ask_named command arguments ∷ ds) h = absurd h.0

own-asking : (s : Session) (made : Made) (before : List Draft) → GoesWell s [] None made → AllHarmless before → made.drafts ≡ before ++ ask ∷ [] → own_seen (own_requests made.after.asked) ≡ own_seen (own_requests s.asked) ++ terminal_ask (s.used + length before + 1) ∷ []
own-asking s made before g h e =
    ap own_seen (g.asked ∙ (ap (λ (qs : List Asked). qs ++ requests_in s.used made.drafts) (keeps-all (own_requests s.asked))
    ∙ (ap (λ (ds : List Draft). own_requests s.asked ++ requests_in s.used ds) e
    ∙ ap (λ (qs : List Asked). own_requests s.asked ++ qs) (one-requested s.used before h))))
    ∙ map-append (λ (q : Asked). ask_of q.seq q.command) (own_requests s.asked) (own_request (s.used + length before + 1) ∷ [])

length-more : (ds : List Draft) → length (ds ++ ask ∷ []) ≡ length ds + 1
length-more [] = refl
length-more (d ∷ ds) = let ih = length-more ds in omega arith

notes-by-more : (xs : List NumberedNote) (y : NumberedNote) → notes_written_by false (xs ++ y ∷ []) ≡ notes_written_by false xs ++ (let l : WrittenNote = record { by_client = false; numbered = y } in l) ∷ []
notes-by-more [] y = refl
notes-by-more (x ∷ xs) y = ap (λ (ls : List WrittenNote). let l : WrittenNote = record { by_client = false; numbered = x } in l ∷ ls) (notes-by-more xs y)

pub asking-pair : {D : Type 0} (n r : ℕ) (w : World D) (by : ByNumber) (made : Made) (v : D) (t : IsAskingTurn w.adapter.session made)
    → turn_asks (pair_of w by) (small_oldest (all_kept w.adapter.session.kept)) ≡ true → GoesWell w.adapter.session [] None made
    → pair_happens n r (pair_of w by) (PairTurn true [] []) ≡ pair_of (world_made w w.up made v) by
asking-pair n r w by made v t one g =
    let s : Session = w.adapter.session in
    let p : Pair = pair_of w by in
    let o = small_oldest (all_kept s.kept) in
    let x : SmallMade = after_asking_turn o (adapter_model_of s) in
    let many : length x.outs ≡ length t.before = ap length (sym t.outs) ∙ told-length t.before in
    let all : length made.drafts ≡ length t.before + 1 = ap length t.drafts_are ∙ length-more t.before in
    let used = g.used in
    let next : s.used + length x.outs + 1 ≡ s.used + length t.before + 1 = omega (arith, many) in
    let notes : numbered_notes s.used [] x.outs ++ note_asking (s.used + length x.outs + 1) ∷ [] ≡ notes_seen (numbered_messages s.used made.drafts) =
    ap (λ (ms : List small.Message). numbered_notes s.used [] ms ++ note_asking (s.used + length x.outs + 1) ∷ []) (sym t.outs)
    ∙ (ap (λ (k : ℕ). numbered_notes s.used [] (all_told t.before) ++ note_asking k ∷ []) next
    ∙ (sym (numbered-asking s.used t.before t.harmless (all-none t.before t.none_given)) ∙ ap (λ (ds : List Draft). notes_seen (numbered_messages s.used ds)) (sym t.drafts_are))) in
    ap (λ (b : Bool). if b then pair_asks_terminal p else pair_after_turn r p true (unless_sets_variable (sets_variable o) []) (unless_sets_variable (sets_variable o) [])) one
    ∙ same-adapter p x.adapter (adapter_model_of made.after) (table_of s.references) (table_of made.after.references) s.options.supports_run_in_terminal_request made.after.options.supports_run_in_terminal_request (s.used + length x.outs + 1) made.after.used
    (own_seen (own_requests s.asked) ++ terminal_ask (s.used + length x.outs + 1) ∷ []) (own_seen (own_requests made.after.asked))
    ((notes_seen w.down ++ numbered_notes s.used [] x.outs) ++ note_asking (s.used + length x.outs + 1) ∷ []) (notes_seen (w.down ++ numbered_messages s.used made.drafts))
    ((written_seen w.said ++ notes_written_by false (numbered_notes s.used [] x.outs)) ++ (let l : WrittenNote = record { by_client = false; numbered = note_asking (s.used + length x.outs + 1) } in l) ∷ []) (written_seen (w.said ++ said_by Adapter (numbered_messages s.used made.drafts)))
    (sym t.after) (ap table_of (sym t.references_are)) (ap (λ (y : Options). y.supports_run_in_terminal_request) (sym t.options_are)) (omega (arith, many, all, used))
    (ap (λ (k : ℕ). own_seen (own_requests s.asked) ++ terminal_ask k ∷ []) next ∙ sym (own-asking s made t.before g t.harmless t.drafts_are))
    (append_assoc (notes_seen w.down) (numbered_notes s.used [] x.outs) (note_asking (s.used + length x.outs + 1) ∷ []) ∙ (ap (λ (ms : List NumberedNote). notes_seen w.down ++ ms) notes ∙ sym (notes-append w.down (numbered_messages s.used made.drafts))))
    (append_assoc (written_seen w.said) (notes_written_by false (numbered_notes s.used [] x.outs)) ((let l : WrittenNote = record { by_client = false; numbered = note_asking (s.used + length x.outs + 1) } in l) ∷ [])
    ∙ (ap (λ (ls : List WrittenNote). written_seen w.said ++ ls) (sym (notes-by-more (numbered_notes s.used [] x.outs) (note_asking (s.used + length x.outs + 1))) ∙ ap (λ (ms : List NumberedNote). notes_written_by false ms) notes)
    ∙ sym (written-more w.said (numbered_messages s.used made.drafts))))
