-- Where no moment has a stop of its own, runs go and stop as by the rules that know no such stops.
use Rattle.std.proofs.Common.{◌≡◌, ℕ, zero, suc, Bool, true, false, not, ◌||◌, ◌&&◌, nat_le, nat_lt, List, [], ◌∷◌, drop, Option, Some, None, is_some, option_map, unwrap_or, if◌then◌else◌, pos, ◌+◌, refl, ap, ◌∙◌}
use Rattle.std.proofs.lemmas.Bool.{and_parts}
use Rattle.std.specs.List.{list_all, slice_get}
use Rattle.dap_recording.specs.Recording.{depth, id_at, beside_stop}
use Rattle.dap_replay.specs.Moves.{Lines, has_stop, first_place, least_after, next_stop, is_at_breakpoint, depth_at, reason_of, reason_text, move_to, target, plain_stop, stop_told, stop_at}
use Rattle.dap_replay.specs.PlainMoves.{HasNoStops, plain_target, PlaysWithoutStops}
use Rattle.dap_replay.proofs.Ranges.{all_at}
use Rattle.dap_debuggee.specs.declared.answers.How.{How}
use Rattle.dap_debuggee.specs.declared.answers.How.TheVariants.{StepIn, Next, StepOut, Continue, StepBack, ReverseContinue}
use Rattle.dap_debuggee.specs.declared.answers.Happening.TheVariants as happening
use Rattle.dap_recording.specs.declared.recording.OwnStop.{OwnStop}
use Rattle.dap_recording.specs.declared.recording.RecordedSource.{RecordedSource}
use Rattle.dap_recording.specs.declared.recording.Moment.{Moment}
use Rattle.dap_replay.specs.declared.moves.Move.{Move}

-- ---- places

either_none : (a b : Bool) → not b ≡ true → (a || b) ≡ a
either_none true b none = refl
either_none false false none = refl
either_none false true none = absurd (cc none)

first_same : (test : Moment → Bool) (ms : List Moment) → HasNoStops ms → first_place (λ m. test m || has_stop m) ms ≡ first_place test ms
first_same test [] none = refl
first_same test (m ∷ ms) none =
    let p = and_parts (not (has_stop m)) (list_all (λ x. not (has_stop x)) ms) none in
    ap (λ b. if b then 0 else suc (first_place (λ x. test x || has_stop x) ms)) (either_none (test m) (has_stop m) p.0)
    ∙ ap (λ n. if test m then 0 else suc n) (first_same test ms p.1)

none_later : (n : ℕ) (ms : List Moment) → HasNoStops ms → HasNoStops (drop n ms)
none_later zero ms none = none
none_later (suc n) [] none = none
none_later (suc n) (m ∷ ms) none = none_later n ms (and_parts (not (has_stop m)) (list_all (λ x. not (has_stop x)) ms) none).1

next_same : (test : Moment → Bool) (i : ℕ) (ms : List Moment) → HasNoStops ms → next_stop test i ms ≡ least_after test i ms
next_same test i ms none = ap (λ n. suc i + n) (first_same test (drop (suc i) ms) (none_later (suc i) ms none))

target_same : (sources : List RecordedSource) (ms : List Moment) (lines : Lines) (how : How) (i deep : ℕ) → HasNoStops ms → target sources ms lines how i deep ≡ plain_target sources ms lines how i deep
target_same sources ms lines StepIn i deep none = refl
target_same sources ms lines Next i deep none = next_same (λ m. nat_le (depth m) deep) i ms none
target_same sources ms lines StepOut i deep none = next_same (λ m. nat_lt (depth m) deep) i ms none
target_same sources ms lines Continue i deep none = next_same (is_at_breakpoint lines sources) i ms none
target_same sources ms lines StepBack i deep none = refl
target_same sources ms lines ReverseContinue i deep none = refl

-- ---- stops

either_way : {A : Type 0} (b : Bool) (x : A) → (if b then x else x) ≡ x
either_way true x = refl
either_way false x = refl

told_by : (b : Bool) (own : Option OwnStop) (plain : OwnStop) → not (is_some own) ≡ true → (if b then unwrap_or own plain else plain) ≡ plain
told_by b None plain none = either_way b plain
told_by b (Some own) plain none = absurd (cc none)

told_at : (o : Option Moment) (move : Move) → ((m : Moment) → o ≡ Some m → not (has_stop m) ≡ true) → unwrap_or (option_map (stop_told move) o) (plain_stop (reason_text move.reason)) ≡ plain_stop (reason_text move.reason)
told_at None move none = refl
told_at (Some m) move none = told_by (move.forward && not move.held) m.stop (plain_stop (reason_text move.reason)) (none m refl)

stop_same : (ms : List Moment) (move : Move) → HasNoStops ms → stop_at ms move ≡ plain_stop (reason_text move.reason)
stop_same ms move none = told_at (slice_get ms move.to) move (λ m is. all_at (λ x. not (has_stop x)) ms move.to m none is)

pub plays_without_stops : PlaysWithoutStops
plays_without_stops sources ms lines how i move none = (
  ap (λ n. move_to ms how i n (reason_of sources ms lines how i)) (target_same sources ms lines how i (depth_at i ms) none),
  ap (λ (stop : OwnStop). happening.Stopped stop.reason (unwrap_or (option_map id_at (slice_get ms move.to)) (pos 0)) (beside_stop stop)) (stop_same ms move none),
)
