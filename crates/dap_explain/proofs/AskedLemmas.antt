-- The requests of a side by their numbers, one line later.
use Rattle.std.proofs.Common.{◌≡◌, ℕ, ◌+◌, ◌==◌, List, [], ◌∷◌, ◌++◌, Bool, true, false, Option, Some, None, refl, sym, ap, ◌∙◌}
use Rattle.std.specs.Prelude.{not, ◌&&◌, ◌||◌, cond, bytes_eq}
use Rattle.std.specs.List.{list_any}
use Rattle.std.proofs.lemmas.List.Folds.{list_any-append}
use Rattle.dap_envelope.specs.declared.message.Kind.{Kind}
use Rattle.dap_envelope.specs.declared.message.Kind.TheVariants.{Request, Response, Event, Other}
use Rattle.dap_check.specs.Lines.{other_side, is_of, is_request_for, asks_as, asks_for, answers}
use Rattle.dap_check.specs.Since.{is_open}
use Rattle.dap_check.specs.SinceLaws.{open_push}
use Rattle.dap_check.specs.declared.line.Line.{Line}
use Rattle.dap_check.specs.declared.line.Side.{Side}
use Rattle.dap_explain.specs.KeptNotes.{answered_by, command_in, last_at, waiting_at, last_after, waiting_after, AreAsked}
use Rattle.dap_explain.specs.KeptTrails.{closed_after, last_of}
use Rattle.dap_explain.specs.Reasons.{trail}
use Rattle.dap_explain.specs.declared.asked.Asked.{Asked}
use Rattle.dap_explain.specs.declared.trail.Opened.{Opened}
use Rattle.dap_explain.proofs.TrailLemmas.{trail_push}

-- ---- the last

last_step : (asks_it answers_it : Bool) (line : Line) (n : ℕ) (opened : Option Opened) (closed : Option ℕ)
    → last_of (cond asks_it (record { count = n + 1; opened = Some (record { line = line.number; seq = line.message.seq }); closed = None }) (record { count = n; opened = opened; closed = closed_after (λ m x. answers_it) line opened closed }))
    ≡ cond asks_it (record { opened = Some (record { line = line.number; seq = line.message.seq }); closed = None }) (cond answers_it (answered_by line.number (record { opened = opened; closed = closed })) (record { opened = opened; closed = closed }))
last_step true answers_it line n opened closed = refl
last_step false true line n None closed = refl
last_step false false line n None closed = refl
last_step false true line n (Some o) (Some k) = refl
last_step false false line n (Some o) (Some k) = refl
last_step false true line n (Some o) None = refl
last_step false false line n (Some o) None = refl

last_push : (side : Side) (n : ℕ) (earlier : List Line) (line : Line)
    → last_of (trail (asks_as side n) (λ m. answers (other_side side) n) (earlier ++ line ∷ [])) ≡ last_after side line n (last_of (trail (asks_as side n) (λ m. answers (other_side side) n) earlier))
last_push side n earlier line =
    let t = trail (asks_as side n) (λ m. answers (other_side side) n) earlier in
    ap last_of (trail_push (asks_as side n) (λ m. answers (other_side side) n) earlier line) ∙ last_step (asks_as side n line) (answers (other_side side) n line) line t.count t.opened t.closed

-- ---- those that wait

module _ (name : List ℕ) where
  abbrev is_name : List ℕ → Bool
  is_name command = bytes_eq command name

  any_left : (answers_it : Bool) (waiting : List (List ℕ)) → list_any is_name (cond answers_it [] waiting) ≡ (list_any is_name waiting && not answers_it)
  any_left true waiting = and_false (list_any is_name waiting)
    where
      and_false : (b : Bool) → false ≡ (b && false)
      and_false true = refl
      and_false false = refl
  any_left false waiting = and_true (list_any is_name waiting)
    where
      and_true : (b : Bool) → b ≡ (b && true)
      and_true true = refl
      and_true false = refl

  any_command : (of_side same : Bool) (kind : Kind) → list_any is_name (cond (of_side && same) (command_in kind) []) ≡ ((of_side && is_request_for name kind) && same)
  any_command true true (Request command arguments) = or_and (bytes_eq command name)
    where
      or_and : (b : Bool) → (b || false) ≡ (b && true)
      or_and true = refl
      or_and false = refl
  any_command true false (Request command arguments) = and_none (bytes_eq command name)
    where
      and_none : (b : Bool) → false ≡ (b && false)
      and_none true = refl
      and_none false = refl
  any_command false same (Request command arguments) = refl
  any_command true true (Response request_seq success command message body) = refl
  any_command true false (Response request_seq success command message body) = refl
  any_command false same (Response request_seq success command message body) = refl
  any_command true true (Event event body) = refl
  any_command true false (Event event body) = refl
  any_command false same (Event event body) = refl
  any_command true true (Other tag) = refl
  any_command true false (Other tag) = refl
  any_command false same (Other tag) = refl

  waits_push : (side : Side) (n : ℕ) (line : Line) (waiting : List (List ℕ)) (before : Bool) → list_any is_name waiting ≡ before
      → list_any is_name (waiting_after side line n waiting) ≡ ((before && not (answers (other_side side) n line)) || asks_for side n name line)
  waits_push side n line waiting before is =
      list_any-append is_name (cond (answers (other_side side) n line) [] waiting) (cond (is_of side line && (line.message.seq == n)) (command_in line.message.kind) [])
      ∙ ap (λ b. b || list_any is_name (cond (is_of side line && (line.message.seq == n)) (command_in line.message.kind) [])) (any_left (answers (other_side side) n line) waiting)
      ∙ ap (λ b. (list_any is_name waiting && not (answers (other_side side) n line)) || b) (any_command (is_of side line) (line.message.seq == n) line.message.kind)
      ∙ ap (λ b. (b && not (answers (other_side side) n line)) || asks_for side n name line) is

-- ---- all that is kept

pub asked_later : (old new : Asked) (side : Side) (line : Line) (earlier : List Line)
    → ((n : ℕ) → last_at new n ≡ last_after side line n (last_at old n)) → ((n : ℕ) → waiting_at new n ≡ waiting_after side line n (waiting_at old n))
    → AreAsked old side earlier → AreAsked new side (earlier ++ line ∷ [])
asked_later old new side line earlier last waiting is = record {
  last = λ n. last n ∙ ap (last_after side line n) (is.last n) ∙ sym (last_push side n earlier line);
  waits = λ n name.
      ap (list_any (is_name name)) (waiting n)
      ∙ waits_push name side n line (waiting_at old n) (is_open (asks_for side n name) (answers (other_side side) n) earlier) (is.waits n name)
      ∙ sym (open_push (asks_for side n name) (answers (other_side side) n) earlier line);
}
