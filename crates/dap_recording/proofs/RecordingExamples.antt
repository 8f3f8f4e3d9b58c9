-- Worked examples of what holds of recordings, each shown by computation.
use Rattle.std.proofs.Common.{◌≡◌, List, ℕ, [], ◌∷◌, codes, true, false, Option, Some, None, pos, refl, arith, replicate}
use Rattle.dap_debuggee.specs.declared.answers.Frame.{Frame}
use Rattle.dap_debuggee.specs.declared.answers.Scope.{Scope}
use Rattle.dap_debuggee.specs.declared.answers.Variable.{Variable}
use Rattle.dap_recording.specs.Recording.{line_count, is_rising, are_distinct, is_moment, has_short_stop, depth, top, id_at, objects, holders_of, HasOwnNumbers}
use Rattle.dap_recording.specs.declared.recording.OwnStop.{OwnStop}
use Rattle.dap_recording.specs.declared.recording.Moment.{Moment}
use Rattle.dap_recording.specs.declared.recording.RecordedThread.{RecordedThread}
use Rattle.dap_recording.proofs.ThreeMoments.{three_moments}

abbrev frame : ℕ → ℕ → ℕ → Frame
frame object source line = record { object = object; name = codes "f"; source = Some source; line = line; more = [] }

-- ---- recordings

line_counts : (line_count [] ≡ 0) × (line_count (codes "\n") ≡ 1) × (line_count (codes "x") ≡ 1) × (line_count (codes "one\ntwo\nthree\n") ≡ 3) × (line_count (codes "one\ntwo\nthree") ≡ 3) × (line_count (codes "\n\n") ≡ 2) × (line_count (codes "\nx") ≡ 2) × (line_count (codes "a\r\nb\r\n") ≡ 2)
line_counts = (refl, refl, refl, refl, refl, refl, refl, refl)

rising : (is_rising [] ≡ true) × (is_rising (0 ∷ 1 ∷ 5 ∷ []) ≡ true) × (is_rising (0 ∷ 0 ∷ []) ≡ false) × (is_rising (2 ∷ 1 ∷ []) ≡ false)
rising = (refl, refl, refl, refl)

abbrev thread : ℕ → List Frame → RecordedThread
thread id frames = record { id = pos id; name = codes "t"; frames = frames; more = [] }

distinct : (are_distinct (thread 1 [] ∷ thread 2 [] ∷ []) ≡ true) × (are_distinct (thread 1 [] ∷ thread 2 [] ∷ thread 1 [] ∷ []) ≡ false)
distinct = (refl, refl)

abbrev moment : ℕ → List RecordedThread → Moment
moment place threads = record { threads = threads; thread = place; output = []; waits = false; stop = None; frames = record { from = 0; to = 0 }; holders = record { from = 0; to = 0 } }

-- two threads, and the second one stands here
abbrev two : Moment
two = moment 1 (thread 7 (frame 3 0 1 ∷ []) ∷ thread 9 (frame 4 0 5 ∷ frame 6 0 2 ∷ []) ∷ [])

parts : (depth two ≡ 2) × (top two ≡ Some (frame 4 0 5)) × (id_at two ≡ pos 9) × (objects two ≡ 3 ∷ 4 ∷ 6 ∷ [])
parts = (refl, refl, refl, refl)

moments : (is_moment 1 two ≡ true) × (is_moment 0 two ≡ false) × (is_moment 1 (moment 2 two.threads) ≡ false) × (is_moment 1 (moment 0 (thread 7 [] ∷ [])) ≡ false) × (is_moment 1 (moment 0 (thread 7 (frame 3 0 1 ∷ []) ∷ thread 8 (frame 3 0 1 ∷ []) ∷ [])) ≡ false) × (is_moment 1 (moment 0 []) ≡ false)
moments = (refl, refl, refl, refl, refl, refl)

-- a frame without a source is one of any sources
abbrev bare : Frame
bare = record { object = 3; name = codes "f"; source = None; line = 0; more = [] }

frames_without_a_source : (is_moment 0 (moment 0 (thread 7 (bare ∷ []) ∷ [])) ≡ true) × (is_moment 1 (moment 0 (thread 7 (frame 2 0 1 ∷ bare ∷ []) ∷ [])) ≡ true) × (is_moment 1 (moment 0 (thread 7 (record bare { line = 1 } ∷ []) ∷ [])) ≡ false)
frames_without_a_source = (refl, refl, refl)

-- ---- stops of moments

abbrev stopping : Option OwnStop → Moment
stopping stop = record two { stop = stop }

-- the longest reason, description and text
short_stops : (has_short_stop (stopping None) ≡ true) × (has_short_stop (stopping (Some (record { reason = replicate 64 97; description = Some (replicate 128 97); text = Some (replicate 128 97) }))) ≡ true)
short_stops = (refl, refl)

long_stops : (has_short_stop (stopping (Some (record { reason = replicate 65 97; description = None; text = None }))) ≡ false) × (has_short_stop (stopping (Some (record { reason = []; description = Some (replicate 129 97); text = None }))) ≡ false) × (has_short_stop (stopping (Some (record { reason = []; description = None; text = Some (replicate 129 97) }))) ≡ false)
long_stops = (refl, refl, refl)

-- the number of a scope, and then that of a variable
holders : holders_of three_moments ≡ 1 ∷ 0 ∷ []
holders = refl

-- ---- numbers of a moment

abbrev spanned : ℕ → ℕ → Moment
spanned frames holders = record { threads = thread 7 (frame 0 0 1 ∷ []) ∷ []; thread = 0; output = []; waits = false; stop = None; frames = record { from = 0; to = frames }; holders = record { from = 0; to = holders } }

abbrev scope : ℕ → Scope
scope holder = record { name = codes "s"; holder = holder; more = [] }

abbrev variable : ℕ → Variable
variable holder = record { name = codes "v"; value = codes "1"; holder = Some holder; more = [] }

-- of a frame outside its span
frame_elsewhere : HasOwnNumbers ([] ∷ []) [] (spanned 0 0) → ⊥
frame_elsewhere p = let w = p.of_frames 0 0 (thread 7 (frame 0 0 1 ∷ [])) (frame 0 0 1) refl refl in absurd (omega (arith, w.to))

-- without scopes of its frame
no_scopes : HasOwnNumbers [] [] (spanned 1 0) → ⊥
no_scopes p = absurd (omega (arith, p.frames_stand))

scope_elsewhere : HasOwnNumbers ((scope 0 ∷ []) ∷ []) ([] ∷ []) (spanned 1 0) → ⊥
scope_elsewhere p = let w = p.of_scopes 0 0 (scope 0 ∷ []) (scope 0) (record { from = omega arith; to = omega arith }) refl refl in absurd (omega (arith, w.to))

variable_elsewhere : HasOwnNumbers ((scope 0 ∷ []) ∷ []) ((variable 1 ∷ []) ∷ [] ∷ []) (spanned 1 1) → ⊥
variable_elsewhere p = let w = p.of_variables 0 0 (variable 1 ∷ []) (variable 1) 1 (record { from = omega arith; to = omega arith }) refl refl refl in absurd (omega (arith, w.to))
