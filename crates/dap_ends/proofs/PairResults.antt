-- What follows for the laws of the pair.
use Rattle.std.proofs.Common.{◌∙◌, ◌≡◌, ℕ, ◌+◌, ◌<◌, ◌≤◌, List, [], ◌∷◌, ◌++◌, Bool, true, false, refl, sym, ap, subst, arith, length, Option, Some, None, inl, inr}
use Rattle.std.specs.Prelude.{◌==◌, ◌&&◌, if◌then◌else◌, ◌⊎◌}
use Rattle.std.proofs.lemmas.List.{append-nil}
use Rattle.dap_ends.specs.Messages.{Command, Launch, ConfigurationDone, Inspect, Ask, Message, code, one_if, Response, count, has_seq, is_same}
use Rattle.dap_ends.specs.AdapterModel.{AdapterModel, oldest, parked_of, unparked_of, asks, would_start, asks_terminal_as, after_asking_turn, adapter_model_turns, is_parked_phase, AdapterPhase, AdapterFresh, AdapterReady, AdapterConfigured, AdapterParked, AdapterAsked, AdapterRunning, AdapterStopped, AdapterExited, AdapterEnded, Made, ends_wait}
use Rattle.dap_ends.specs.ClientModel.{ClientModel, requests_without}
use Rattle.dap_ends.specs.World.{World, Agree, MeetsRoom}
use Rattle.dap_ends.specs.References.{Ref, Table, plain_world, inspection_succeeds, table_turned, table_after}
use Rattle.dap_ends.specs.Pair.{Pair, pair_run, pair_happens, turn_asks, launch_seq, sets_variable, unless_sets_variable, pair_asks_terminal, pair_after_turn, pair_turns, numbered_notes, requests_up, client_world, client_world_with, NumberedNote, pair_after_adapter, pair_takes_up, pair_comes_up, PairDeliverUp}
use Rattle.dap_ends.specs.PairLaws.{HoldsLaunch, TurnChoice, turns_of, UnansweredByPhase, AnswersLaunch, ComesLate}
use Rattle.dap_ends.proofs.Counts.{and-left, count-all, taken-out}
use Rattle.dap_ends.proofs.Drains.{but-fewer, park-fewer, turn-fewer, length-nil, meets, one-parked, parked-left, twice}
use Rattle.dap_ends.proofs.AdapterModels.{unparked-none}
use Rattle.dap_ends.proofs.PairSteps.{response-taken}
use Rattle.dap_ends.proofs.OwnRequests.{Owns, own-few, own-answered, answers-next, count-few}
use Rattle.dap_ends.proofs.PairSchedules.{Follows, follows-tells}

true-false : true ≡ false → ⊥
true-false e = cc

-- while no fault has closed the client, the two ends agree
pub pair-agree : (n r : ℕ) (w : Pair) → Follows n r w → w.client.fault ≡ None → Agree n (plain_world (client_world w))
pair-agree n r w f e = subst (λ (s : ClientModel). Agree n (plain_world (client_world_with s w))) (f.fine e) (follows-tells n r w f).agree

launch-if-parked : (p : AdapterPhase) (k : ℕ) → k ≡ one_if (is_parked_phase p) → HoldsLaunch p k
launch-if-parked AdapterAsked k e = e
launch-if-parked _ k e = tt

-- while the adapter waits for the terminal a launch is parked
pub launch-held : (n r : ℕ) (w : Pair) → Follows n r w → HoldsLaunch w.adapter.phase (length (parked_of w.adapter.kept))
launch-held n r w f = launch-if-parked w.adapter.phase (length (parked_of w.adapter.kept)) (follows-tells n r w f).agree.parked

meets-client : (n : ℕ) (v w : World) (ms : List Message) → v.adapter ≡ w.adapter → MeetsRoom n v ms → MeetsRoom n w ms
meets-client n v w [] e h = tt
meets-client n v w (m ∷ ms) e h = subst (λ (d : AdapterModel). length d.kept < n) e h

-- a request under way meets room
pub pair-meets : (n r : ℕ) (w : Pair) → Follows n r w → MeetsRoom n (plain_world (client_world w)) (requests_up w.up)
pair-meets n r w f = meets-client n (plain_world (client_world_with f.client w)) (plain_world (client_world w)) (requests_up w.up) refl (meets n (plain_world (client_world_with f.client w)) (requests_up w.up) refl (follows-tells n r w f).agree)

-- at most one is parked
pub pair-parked : (n r : ℕ) (w : Pair) → Follows n r w → length (parked_of w.adapter.kept) ≤ 1
pair-parked n r w f = one-parked n (plain_world (client_world_with f.client w)) (follows-tells n r w f).agree

-- where all has come, only the parked request is outstanding
pub pair-left : (n r : ℕ) (w : Pair) → Follows n r w → w.client.fault ≡ None → w.up ≡ [] → w.down ≡ [] → unparked_of w.adapter.kept ≡ [] → length w.client.asked ≡ length (parked_of w.adapter.kept)
pair-left n r w f e u d z = parked-left n (plain_world (client_world w)) (pair-agree n r w f e) (ap requests_up u) (ap (λ (ms : List NumberedNote). (plain_world (client_world (record w { down = ms }))).down) d) z

-- a turn that asks leaves one fewer waiting
asks_terminal_as-fewer : (p : AdapterPhase) (c : Command) (d : AdapterModel) (a : Ask) (n : ℕ) → would_start p c ≡ true → oldest d.kept ≡ Some a → length (unparked_of d.kept) ≤ n + 1 → length (unparked_of (asks_terminal_as p c d a).adapter.kept) ≤ n
asks_terminal_as-fewer AdapterConfigured Launch d a n s o l = let h = park-fewer d.kept a o in omega arith
asks_terminal_as-fewer AdapterParked ConfigurationDone d a n s o l = let h = but-fewer d.kept a o in omega arith
asks_terminal_as-fewer _ _ d a n s o l = absurd (true-false (sym s))

asks-fewer : (o : Option Ask) (w : Pair) (n : ℕ) → oldest w.adapter.kept ≡ o → turn_asks w o ≡ true → length (unparked_of w.adapter.kept) ≤ n + 1 → length (unparked_of (after_asking_turn o w.adapter).adapter.kept) ≤ n
asks-fewer None w n o e l = absurd (true-false (sym e))
asks-fewer (Some a) w n o e l =
    asks_terminal_as-fewer w.adapter.phase a.command w.adapter a n (and-left (would_start w.adapter.phase a.command) (w.terminal && w.wants (launch_seq a.command a (asks (parked_of w.adapter.kept)))) e) o l

turn-one : (b : Bool) (r : ℕ) (w : Pair) (ok : Bool) (more : List Bool) (named : List Ref) (n : ℕ) → turn_asks w (oldest w.adapter.kept) ≡ b → length (unparked_of w.adapter.kept) ≤ n + 1 → length (unparked_of (if b then pair_asks_terminal w else pair_after_turn r w ok more named).adapter.kept) ≤ n
turn-one true r w ok more named n e l = asks-fewer (oldest w.adapter.kept) w n refl e l
turn-one false r w ok more named n e l = turn-fewer (oldest w.adapter.kept) w.adapter (inspection_succeeds r w.table more named (oldest w.adapter.kept) ok) n refl l

-- enough turns leave none waiting
pub pair-drained : (n r : ℕ) (cs : List TurnChoice) (w : Pair) → length (unparked_of w.adapter.kept) ≤ length cs → unparked_of (pair_run n r (turns_of cs) w).adapter.kept ≡ []
pair-drained n r [] w l = length-nil (unparked_of w.adapter.kept) 0 refl l
pair-drained n r (c ∷ cs) w l =
    pair-drained n r cs (pair_turns r w c.ok c.more c.named)
    (turn-one (turn_asks w (oldest w.adapter.kept)) r w c.ok (unless_sets_variable (sets_variable (oldest w.adapter.kept)) c.more) (unless_sets_variable (sets_variable (oldest w.adapter.kept)) c.named) (length cs) refl (omega arith))

-- setVariable starts nothing
inspect-starts : (p : AdapterPhase) (c : Command) → (code c == 10) ≡ true → would_start p c ≡ false
inspect-starts AdapterConfigured Launch e = absurd (true-false (sym e))
inspect-starts AdapterParked ConfigurationDone e = absurd (true-false (sym e))
inspect-starts _ _ e = refl

set-asks : (o : Option Ask) (w : Pair) → sets_variable o ≡ true → turn_asks w o ≡ false
set-asks None w e = refl
set-asks (Some a) w e = rw (inspect-starts w.adapter.phase a.command (and-left (code a.command == 10) _ e)) refl

nothing-more : (t : Table) → let u : Table = record { base = t.base; live = t.live ++ [] } in u ≡ t
nothing-more t = ap (λ (bs : List Bool). let u : Table = record { base = t.base; live = bs } in u) (append-nil t.live)

set-table_turned : (p : AdapterPhase) (c : Command) (ok : Bool) (t : Table) → (code c == 10) ≡ true → table_turned p c ok t [] ≡ t
set-table_turned AdapterStopped Inspect true t e = nothing-more t
set-table_turned AdapterStopped Inspect false t e = refl
set-table_turned AdapterFresh Inspect ok t e = refl
set-table_turned AdapterReady Inspect ok t e = refl
set-table_turned AdapterConfigured Inspect ok t e = refl
set-table_turned AdapterParked Inspect ok t e = refl
set-table_turned AdapterAsked Inspect ok t e = refl
set-table_turned AdapterRunning Inspect ok t e = refl
set-table_turned AdapterExited Inspect ok t e = refl
set-table_turned AdapterEnded Inspect ok t e = refl
set-table_turned p _ ok t e = absurd (true-false (sym e))

set-table_after : (o : Option Ask) (p : AdapterPhase) (ok : Bool) (t : Table) → sets_variable o ≡ true → table_after o p ok t [] ≡ t
set-table_after None p ok t e = refl
set-table_after (Some a) p ok t e = set-table_turned p a.command ok t (and-left (code a.command == 10) _ e)

-- its table
pub set-table : (r : ℕ) (w : Pair) (ok : Bool) (more : List Bool) (named : List Ref) → sets_variable (oldest w.adapter.kept) ≡ true → (pair_turns r w ok more named).table ≡ w.table
set-table r w ok more named e =
    rw (set-asks (oldest w.adapter.kept) w e, e) (set-table_after (oldest w.adapter.kept) w.adapter.phase (inspection_succeeds r w.table [] [] (oldest w.adapter.kept) ok) w.table e)

-- its answer
pub set-given : (r : ℕ) (w : Pair) (ok : Bool) (more : List Bool) (named : List Ref) → sets_variable (oldest w.adapter.kept) ≡ true → (pair_turns r w ok more named).down ≡ w.down ++ numbered_notes w.used [] (adapter_model_turns w.adapter (inspection_succeeds r w.table [] [] (oldest w.adapter.kept) ok)).outs
set-given r w ok more named e = rw (set-asks (oldest w.adapter.kept) w e, e) refl

-- the one that was answered was the only one
none-left : (w : Pair) (a : Ask) → Owns w → 0 < count (is_same a) w.asked → requests_without a.seq w.asked ≡ []
none-left w a g h =
    let t = taken-out (λ x. true) a w.asked (own-few w g (has_seq a.seq)) h in
    let k = own-few w g (λ x. true) in
    let z = count-all (requests_without a.seq w.asked) in
    empty-list (requests_without a.seq w.asked) (omega arith)
  where
    empty-list : (xs : List Ask) → length xs ≡ 0 → xs ≡ []
    empty-list [] e = refl
    empty-list (x ∷ xs) e = absurd (omega arith)

-- the answer that the terminal runs, or not
answer-taken : (w : Pair) (m : NumberedNote) (a : Ask) (ok starts : Bool) (ms : List NumberedNote) → m.note.message ≡ Response a ok → w.up ≡ m ∷ ms → Owns w → (n : ℕ) → pair_comes_up n w w.up starts ≡ pair_after_adapter (record w { up = ms; asked = requests_without a.seq w.asked }) (ends_wait w.adapter.phase w.adapter (ok && starts)) [] w.table
answer-taken w m a ok starts ms e u g n =
    let h = answers-next w m (Response a ok) ms e u g in
    ap (λ (up : List NumberedNote). pair_comes_up n w up starts) u ∙ ap (λ (x : Message). pair_takes_up n (record w { up = ms }) x starts) e ∙ response-taken (record w { up = ms }) a ok starts h.0 h.1

pub answers-launch : (n r : ℕ) (w : Pair) (m : NumberedNote) (a : Ask) (ok starts : Bool) (ms : List NumberedNote) → Owns w → m.note.message ≡ Response a ok → w.up ≡ m ∷ ms → w.adapter.phase ≡ AdapterAsked → AnswersLaunch w (pair_happens n r w (PairDeliverUp starts)) (ok && starts)
answers-launch n r w m a ok starts ms g e u p =
    let v = answer-taken w m a ok starts ms e u g n in
    let s : ends_wait w.adapter.phase w.adapter (ok && starts) ≡ ends_wait AdapterAsked w.adapter (ok && starts) = ap (λ (x : AdapterPhase). ends_wait x w.adapter (ok && starts)) p in
    let all = v ∙ ap (λ (x : Made). pair_after_adapter (record w { up = ms; asked = requests_without a.seq w.asked }) x [] w.table) s in
    let none = none-left w a g (own-answered w a ok m ms e u g).0 in
    subst (λ (x : Pair). AnswersLaunch w x (ok && starts)) (sym all)
    (record { phase = refl; parked = unparked-none w.adapter.kept; others = twice w.adapter.kept; none = none; told = refl })

pub comes-late : (n r : ℕ) (w : Pair) (m : NumberedNote) (a : Ask) (ok starts : Bool) (ms : List NumberedNote) → Owns w → m.note.message ≡ Response a ok → w.up ≡ m ∷ ms → w.adapter.phase ≡ AdapterEnded → ComesLate w (pair_happens n r w (PairDeliverUp starts))
comes-late n r w m a ok starts ms g e u p =
    let v = answer-taken w m a ok starts ms e u g n in
    let s : ends_wait w.adapter.phase w.adapter (ok && starts) ≡ ends_wait AdapterEnded w.adapter (ok && starts) = ap (λ (x : AdapterPhase). ends_wait x w.adapter (ok && starts)) p in
    let all = v ∙ ap (λ (x : Made). pair_after_adapter (record w { up = ms; asked = requests_without a.seq w.asked }) x [] w.table) s in
    let none = none-left w a g (own-answered w a ok m ms e u g).0 in
    subst (λ (x : Pair). ComesLate w x) (sym all) (record { same = refl; none = none; silent = append-nil w.down; unwritten = append-nil w.written })

-- a response of the client comes in these phases alone
waits-where : (p : AdapterPhase) (k : ℕ) → UnansweredByPhase p k → 0 < k → (p ≡ AdapterAsked) ⊎ (p ≡ AdapterEnded)
waits-where AdapterAsked k h l = inl refl
waits-where AdapterEnded k h l = inr refl
waits-where _ k h l = absurd (omega arith)

pub answers-where : (w : Pair) (m : NumberedNote) (a : Ask) (ok : Bool) (ms : List NumberedNote) → Owns w → m.note.message ≡ Response a ok → w.up ≡ m ∷ ms → (w.adapter.phase ≡ AdapterAsked) ⊎ (w.adapter.phase ≡ AdapterEnded)
answers-where w m a ok ms g e u =
    let h = (own-answered w a ok m ms e u g).0 in
    let k = count-few (is_same a) w.asked in
    waits-where w.adapter.phase (length w.asked) g.waits (omega arith)
