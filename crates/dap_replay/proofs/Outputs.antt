-- What is still to be written, as the code walks over the moments.
use Rattle.std.proofs.Common.{Bool, true, false, if◌then◌else◌, ◌≡◌, ℕ, zero, suc, ◌+◌, ◌-◌, ◌≤◌, ◌<◌, List, [], ◌∷◌, map, take, drop, length, Some, None, option_map, unwrap_or, refl, sym, ap, subst, inl, inr, length-drop, ◌∙◌, arith}
use Rattle.dap_recording.proofs.ReadSteps.{some_same}
use Rattle.std.specs.List.{slice_get}
use Rattle.std.specs.Str.{IsCharBoundary}
use Rattle.std.proofs.lemmas.List.{drop-drop, get_or-drop}
use Rattle.dap_replay.specs.PrivateHeld.{without_first, output_left, output_in, IsReady}
use Rattle.dap_replay.specs.Moves.{is_forward}
use Rattle.dap_replay.specs.Played.{Played, run_from, after_resume, move_from, output_of, output_on_move, first_piece, piece_length, with_changed}
use Rattle.dap_debuggee.specs.declared.answers.How.{How}
use Rattle.dap_replay.specs.declared.moves.Move.{Move}
use Rattle.dap_recording.specs.declared.recording.Moment.{Moment}
use Rattle.dap_replay.specs.declared.recorded.Going.{Going}

pub without_none : (texts : List (List ℕ)) → without_first 0 texts ≡ texts
without_none [] = refl
without_none (text ∷ texts) = refl

-- from a moment that is there
pub take_here : (n k : ℕ) (ms : List Moment) (m : Moment) → slice_get ms k ≡ Some m → take (suc n) (drop k ms) ≡ m ∷ take n (drop (suc k) ms)
take_here n k [] m e = absurd (cc e)
take_here n zero (x ∷ xs) m e = ap (λ y. y ∷ take n xs) (some_same x m e)
take_here n (suc k) (x ∷ xs) m e = take_here n k xs m e

-- what is left begins with the rest of the moment's output
pub left_here : (moments : List Moment) (g : Going) (m : Moment) → g.moment ≤ g.last → slice_get moments g.moment ≡ Some m
    → output_left moments g ≡ drop g.told m.output ∷ map (λ m. m.output) (take (g.last - g.moment) (drop (suc g.moment) moments))
left_here moments g m within is =
    let count : suc g.last - g.moment ≡ suc (g.last - g.moment) = omega (arith, within) in
    ap (λ n. without_first g.told (map (λ m. m.output) (take n (drop g.moment moments)))) count
    ∙ ap (λ ms. without_first g.told (map (λ (m : Moment). m.output) ms)) (take_here (g.last - g.moment) g.moment moments m is)

-- nothing is left after the last moment, and after the end of the moments
pub left_after : (moments : List Moment) (g : Going) → g.last < g.moment → output_left moments g ≡ []
left_after moments g past =
    let count : suc g.last - g.moment ≡ 0 = omega (arith, past) in
    ap (λ n. without_first g.told (map (λ m. m.output) (take n (drop g.moment moments)))) count

drop_past : (n : ℕ) (text : List ℕ) → length text ≤ n → drop n text ≡ []
drop_past zero [] past = refl
drop_past (suc n) [] past = refl
drop_past zero (c ∷ cs) past = absurd (omega (arith, past))
drop_past (suc n) (c ∷ cs) past = drop_past n cs (omega (arith, past))

-- the next moment, once the output of this one is used up
pub left_next : (moments : List Moment) (g : Going) (m : Moment) → g.moment ≤ g.last → slice_get moments g.moment ≡ Some m → length m.output ≤ g.told
    → first_piece (output_left moments (record { moment = g.moment + 1; told = 0; last = g.last; to = g.to; paused = g.paused })) ≡ first_piece (output_left moments g)
left_next moments g m within is past =
    let next : g.moment + 1 ≡ suc g.moment = omega arith in
    let count : suc g.last - suc g.moment ≡ g.last - g.moment = omega arith in
    ap first_piece (without_none (map (λ m. m.output) (take (suc g.last - (g.moment + 1)) (drop (g.moment + 1) moments))))
    ∙ ap (λ k. first_piece (map (λ (m : Moment). m.output) (take (suc g.last - k) (drop k moments)))) next
    ∙ ap (λ n. first_piece (map (λ (m : Moment). m.output) (take n (drop (suc g.moment) moments)))) count
    ∙ ap (λ text. first_piece (text ∷ map (λ (m : Moment). m.output) (take (g.last - g.moment) (drop (suc g.moment) moments)))) (sym (drop_past g.told m.output past))
    ∙ ap first_piece (sym (left_here moments g m within is))

-- ---- a piece

first_of_some : (text : List ℕ) (others : List (List ℕ)) → 0 < length text → first_piece (text ∷ others) ≡ Some (take (piece_length text) text, drop (piece_length text) text ∷ others)
first_of_some [] others some = absurd (omega (arith, some))
first_of_some (c ∷ cs) others some = refl

pub ready_told : (moments : List Moment) (g : Going) (m : Moment) → IsReady moments g → g.moment ≤ g.last → slice_get moments g.moment ≡ Some m → g.told < length m.output
ready_told moments g m (inl none) within is = let never = sym (left_here moments g m within is) ∙ none in absurd (cc never)
ready_told moments g m (inr (within, n, at, told)) w is = subst (λ (x : Moment). g.told < length x.output) (some_same n m (sym at ∙ is)) told

pub told_piece : (moments : List Moment) (g : Going) (m : Moment) (n : ℕ) → g.moment ≤ g.last → slice_get moments g.moment ≡ Some m → g.told < length m.output → n ≡ piece_length (drop g.told m.output)
    → first_piece (output_left moments g) ≡ Some (take n (drop g.told m.output), output_left moments (record { moment = g.moment; told = g.told + n; last = g.last; to = g.to; paused = g.paused }))
told_piece moments g m n within is told long =
    let others = map (λ (m : Moment). m.output) (take (g.last - g.moment) (drop (suc g.moment) moments)) in
    let some : 0 < length (drop g.told m.output) = rw (length-drop g.told m.output) (omega (arith, told)) in
    ap first_piece (left_here moments g m within is)
    ∙ first_of_some (drop g.told m.output) others some
    ∙ ap (λ k. Some (take k (drop g.told m.output), drop k (drop g.told m.output) ∷ others)) (sym long)
    ∙ ap (λ text. Some (take n (drop g.told m.output), text ∷ others)) (drop-drop n g.told m.output)
    ∙ ap (λ left. Some (take n (drop g.told m.output), left)) (sym (left_here moments (record { moment = g.moment; told = g.told + n; last = g.last; to = g.to; paused = g.paused }) m within is))

pub told_whole : (text : List ℕ) (told n : ℕ) → told < length text → IsCharBoundary (drop told text) n → IsCharBoundary text (told + n)
told_whole text told n within at =
    let long : length (drop told text) ≡ length text - told = length-drop told text in
    (omega (arith, within, long, at.0), λ inside high. subst (λ c. 192 ≤ c) (get_or-drop told text n 0) (at.1 (omega (arith, within, long, inside)) (subst (λ c. 128 ≤ c) (sym (get_or-drop told text n 0)) high)))

pub output_is : (moments : List Moment) (i : ℕ) (m : Moment) → slice_get moments i ≡ Some m → output_in moments i ≡ m.output
output_is moments i m is = ap (λ o. unwrap_or (option_map (λ (m : Moment). m.output) o) []) is

-- ---- the beginning of a run

by_way : (b : Bool) (moments : List Moment) (at to last : ℕ) (move : Move) → last ≡ (if b then to else at)
    → output_left moments (record { moment = at + 1; told = 0; last = last; to = move; paused = false }) ≡ (if b then output_of moments (suc at) to else [])
by_way true moments at to last move is =
    let next : at + 1 ≡ suc at = omega arith in
    without_none _ ∙ ap (λ k. map (λ (m : Moment). m.output) (take (suc last - k) (drop k moments))) next ∙ ap (λ n. map (λ (m : Moment). m.output) (take (suc n - suc at) (drop (suc at) moments))) is
by_way false moments at to last move is = left_after moments (record { moment = at + 1; told = 0; last = last; to = move; paused = false }) (omega (arith, is))

pub fresh_output : (how : How) (moments : List Moment) (at to last : ℕ) (move : Move) → last ≡ (if is_forward how then to else at)
    → output_left moments (record { moment = at + 1; told = 0; last = last; to = move; paused = false }) ≡ output_on_move how moments at to
fresh_output how moments at to last move is = by_way (is_forward how) moments at to last move is

-- what goes on from the moment that is shown
pub goes : (v : Played) (how : How) (move : Move) (last : ℕ) → move ≡ move_from how v → last ≡ (if is_forward how then move.to else v.at)
    → run_from v.at (output_left v.recording.moments (record { moment = v.at + 1; told = 0; last = last; to = move; paused = false })) move (with_changed [] v) ≡ after_resume how v
goes v how move last is far =
    ap (λ output. run_from v.at output move (with_changed [] v)) (fresh_output how v.recording.moments v.at move.to last move far)
    ∙ ap (λ (m : Move). run_from v.at (output_on_move how v.recording.moments v.at m.to) m (with_changed [] v)) is

-- ---- a poll

pub ready_none : (moments : List Moment) (g : Going) → IsReady moments g → first_piece (output_left moments g) ≡ None → output_left moments g ≡ []
ready_none moments g (inl none) no_piece = none
ready_none moments g (inr (within, m, at, told)) no_piece =
    let never = sym (told_piece moments g m (piece_length (drop g.told m.output)) within at told refl) ∙ no_piece in absurd (cc never)
