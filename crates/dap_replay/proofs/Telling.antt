-- Polls of a run, one after the other.
use Rattle.std.proofs.Common.{◌≡◌, ℕ, zero, suc, ◌+◌, ◌≤◌, ◌<◌, ◌&&◌, not, Bool, true, false, nat_le, nat_lt, if◌then◌else◌, List, [], ◌∷◌, ◌++◌, length, map, take, drop, Option, Some, None, length-append, append_assoc, refl, sym, ap, ◌∙◌, arith, true≢false}
use Rattle.std.proofs.lemmas.Bool.{and_from}
use Rattle.std.proofs.lemmas.Bool.Decides.{nat_tests}
use Rattle.std.proofs.lemmas.List.{take-append-drop, length-take}
use Rattle.std.specs.List.{list_all}
use Rattle.dap_debuggee.specs.Shown.{to_poll, happened}
use Rattle.dap_recording.specs.Pieces.{first_piece, joined_text, and_then, first_pieces}
use Rattle.dap_recording.proofs.PieceLemmas.{Cuts, Cut, cut}
use Rattle.dap_replay.specs.Played.{Played, Run, with_ask, poll_result, step_of_run, end_of_run, with_run}
use Rattle.dap_replay.specs.Polls.{happening_then, polls, nothings, PollsGiveThePieces, HeldGivesNothing}
use Rattle.dap_debuggee.specs.declared.answers.State.TheVariants.{Running}
use Rattle.dap_debuggee.specs.declared.answers.Category.TheVariants.{Stdout}
use Rattle.dap_debuggee.specs.declared.answers.Happening.{Happening}
use Rattle.dap_replay.specs.declared.moves.Move.{Move}
use Rattle.dap_debuggee.specs.declared.answers.Happening.TheVariants.{Nothing, Output}

-- ---- polls

ran_is : (v : Played) (run : Run) → v.state ≡ Running → v.run ≡ Some run → poll_result v.state v.run v ≡ step_of_run run (first_piece run.output) v
ran_is v run runs is = ap (λ s. poll_result s v.run v) runs ∙ ap (λ r. poll_result Running r v) is

-- the view after a piece
abbrev after_piece : List ℕ → List (List ℕ) → Run → Played → Played
after_piece piece rest run v = with_ask to_poll (happened (Output Stdout piece [])) (with_run (record { output = rest; move = run.move; paused = run.paused }) v)

abbrev less_of : Run → List (List ℕ) → Run
less_of run rest = record { output = rest; move = run.move; paused = run.paused }

-- k polls after the last piece, whatever they give
abbrev Ends : (ℕ → Run → Played → List Happening) → (Move → Bool → Type 0) → ℕ → Type 0
Ends ending Goes k = (v : Played) (run : Run) → v.state ≡ Running → v.run ≡ Some run → Goes run.move run.paused → first_piece run.output ≡ None → polls k v ≡ ending k run v

abbrev SameAfter : (ℕ → Run → Played → List Happening) → ℕ → Type 0
SameAfter ending k = (v : Played) (run : Run) (piece : List ℕ) (rest : List (List ℕ)) → ending k (less_of run rest) (after_piece piece rest run v) ≡ ending k run v

tell_by : (ending : ℕ → Run → Played → List Happening) (Goes : Move → Bool → Type 0) (k n : ℕ) (v : Played) (run : Run) (o : Option (List ℕ × List (List ℕ)))
    → Ends ending Goes k → SameAfter ending k → v.state ≡ Running → v.run ≡ Some run → Goes run.move run.paused → first_piece run.output ≡ o → Cut run.output o → length (joined_text run.output) ≤ suc n
    → ((w : Played) (less : Run) → w.state ≡ Running → w.run ≡ Some less → Goes less.move less.paused → length (joined_text less.output) ≤ n → polls (length (first_pieces n less.output) + k) w ≡ map (λ text. Output Stdout text []) (first_pieces n less.output) ++ ending k less w)
    → polls (length (and_then (first_pieces n) o) + k) v ≡ map (λ text. Output Stdout text []) (and_then (first_pieces n) o) ++ ending k run v
tell_by ending Goes k n v run None ends same runs is goes first cuts most later =
    let none : 0 + k ≡ k = omega arith in
    ap (λ j. polls j v) none ∙ ends v run runs is goes first
tell_by ending Goes k n v run (Some (piece, rest)) ends same runs is goes first cuts most later =
    let count = ap length cuts.whole in
    let parts = length-append piece (joined_text rest) in
    let some = cuts.some in
    let m = length (first_pieces n rest) + k in
    let one : suc (length (first_pieces n rest)) + k ≡ suc m = omega arith in
    ap (λ j. polls j v) one
    ∙ ap (happening_then (polls m)) (ran_is v run runs is ∙ ap (λ o. step_of_run run o v) first)
    ∙ ap (λ hs. Output Stdout piece [] ∷ hs) (later (after_piece piece rest run v) (less_of run rest) runs refl goes (omega (arith, count, parts, some, most)))
    ∙ ap (λ hs. Output Stdout piece [] ∷ (map (λ text. Output Stdout text []) (first_pieces n rest) ++ hs)) (same v run piece rest)

none_left : (texts : List (List ℕ)) (o : Option (List ℕ × List (List ℕ))) → first_piece texts ≡ o → Cut texts o → length (joined_text texts) ≤ 0 → first_piece texts ≡ None
none_left texts None is cuts most = is
none_left texts (Some (piece, rest)) is cuts most =
    let count = ap length cuts.whole in
    let parts = length-append piece (joined_text rest) in
    let some = cuts.some in
    absurd (omega (arith, count, parts, some, most))

tell : (ending : ℕ → Run → Played → List Happening) (Goes : Move → Bool → Type 0) (k n : ℕ) → Ends ending Goes k → SameAfter ending k → (v : Played) (run : Run) → v.state ≡ Running → v.run ≡ Some run → Goes run.move run.paused → length (joined_text run.output) ≤ n
    → polls (length (first_pieces n run.output) + k) v ≡ map (λ text. Output Stdout text []) (first_pieces n run.output) ++ ending k run v
tell ending Goes k zero ends same v run runs is goes most =
    let none : 0 + k ≡ k = omega arith in
    ap (λ j. polls j v) none ∙ ends v run runs is goes (none_left run.output (first_piece run.output) refl (cut run.output) most)
tell ending Goes k (suc n) ends same v run runs is goes most =
    tell_by ending Goes k n v run (first_piece run.output) ends same runs is goes refl (cut run.output) most (λ w less running at so fewer. tell ending Goes k n ends same w less running at so fewer)

-- ---- how a run ends

abbrev ending_of : ℕ → Run → Played → List Happening
ending_of k run v = (end_of_run run v).0 ∷ []

abbrev what : Happening × Played → Happening
what p = p.0

first_by : (b c : Bool) (h i j : Happening) (u v w x y z : Played) → what (if b then (h, u) else (if c then (i, v) else (j, w))) ≡ what (if b then (h, x) else (if c then (i, y) else (j, z)))
first_by true c h i j u v w x y z = refl
first_by false true h i j u v w x y z = refl
first_by false false h i j u v w x y z = refl

same_end : SameAfter ending_of 1
same_end v run piece rest = ap (λ h. h ∷ []) (first_by (run.move.held && not run.paused) (nat_lt run.move.to (length v.recording.moments)) _ _ _ _ _ _ _ _ _)

abbrev AnyRun : Move → Bool → Type 0
AnyRun move paused = Unit {0}

one_end : Ends ending_of AnyRun 1
one_end v run runs is any none = ap (happening_then (polls 0)) (ran_is v run runs is ∙ ap (λ o. step_of_run run o v) none)

pub polls_tell : PollsGiveThePieces
polls_tell v run runs is = tell ending_of AnyRun 1 (length (joined_text run.output)) one_end same_end v run runs is tt (omega arith)

-- ---- a run that is held

hold : (b : Bool) (v : Played) (run : Run) (other : Happening × Played) → b ≡ true → (if b then (Nothing, with_run (record { output = []; move = run.move; paused = run.paused }) v) else other) ≡ (Nothing, with_run (record { output = []; move = run.move; paused = run.paused }) v)
hold true v run other is = refl
hold false v run other is = absurd (true≢false (sym is))

held_arrives : (v : Played) (run : Run) → run.move.held ≡ true → run.paused ≡ false → end_of_run run v ≡ (Nothing, with_run (record { output = []; move = run.move; paused = run.paused }) v)
held_arrives v run held on = hold (run.move.held && not run.paused) v run _ (and_from run.move.held (not run.paused) held (ap not on))

held_polls : (n : ℕ) (v : Played) (run : Run) → v.state ≡ Running → v.run ≡ Some run → run.move.held ≡ true → run.paused ≡ false → first_piece run.output ≡ None → polls n v ≡ nothings n
held_polls zero v run runs is held on none = refl
held_polls (suc n) v run runs is held on none =
    ap (happening_then (polls n)) (ran_is v run runs is ∙ ap (λ o. step_of_run run o v) none ∙ held_arrives v run held on)
    ∙ ap (λ hs. Nothing ∷ hs) (held_polls n (with_ask to_poll (happened Nothing) (with_run (record { output = []; move = run.move; paused = run.paused }) v)) (record { output = []; move = run.move; paused = run.paused }) runs refl held on refl)

abbrev IsHeld : Move → Bool → Type 0
IsHeld move paused = (move.held ≡ true) × (paused ≡ false)

abbrev nothing_more : ℕ → Run → Played → List Happening
nothing_more k run v = nothings k

pub held_nothing : HeldGivesNothing
held_nothing v run n runs is held on = tell nothing_more IsHeld n (length (joined_text run.output)) (λ w goes running at so none. held_polls n w goes running at so.0 so.1 none) (λ w goes piece rest. refl) v run runs is (held, on) (omega arith)
