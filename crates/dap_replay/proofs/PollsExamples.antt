-- Worked examples of the polls of a run, each shown by computation.
use Rattle.std.proofs.Common.{◌≡◌, [], ◌∷◌, codes, replicate, Bool, true, false, Some, pos, refl}
use Rattle.dap_recording.proofs.ThreeMoments.{three_moments}
use Rattle.dap_replay.specs.Played.{Played, Run, fresh_played}
use Rattle.dap_replay.specs.Polls.{polls, nothings, output_happenings}
use Rattle.dap_debuggee.specs.declared.answers.State.TheVariants.{Running}
use Rattle.dap_debuggee.specs.declared.answers.Category.TheVariants.{Stdout}
use Rattle.dap_debuggee.specs.declared.answers.Happening.TheVariants.{Nothing, Output, Stopped, Exited}
use Rattle.dap_replay.specs.declared.moves.Reason.TheVariants.{Step, Pause}

-- ---- polls

-- the third moment, which waits, from the first
abbrev run : Bool → Bool → Run
run held paused = record { output = codes "x" ∷ codes "y" ∷ []; move = record { to = 2; held = held; forward = true; reason = Pause }; paused = paused }

abbrev going : Run → Played
going r = record { recording = three_moments; state = Running; at = 0; run = Some r; set = []; changed = []; acts = 0; last = (fresh_played three_moments).last }

happenings : output_happenings (codes "x" ∷ codes "y" ∷ []) ≡ Output Stdout (codes "x") [] ∷ Output Stdout (codes "y") [] ∷ []
happenings = refl

no_polls : polls 0 (going (run false false)) ≡ []
no_polls = refl

to_a_stop : (polls 2 (going (run false false)) ≡ Output Stdout (codes "x") [] ∷ Output Stdout (codes "y") [] ∷ []) × (polls 4 (going (run false false)) ≡ Output Stdout (codes "x") [] ∷ Output Stdout (codes "y") [] ∷ Stopped (codes "pause") (pos 1) [] ∷ Nothing ∷ [])
to_a_stop = (refl, refl)

held : polls 5 (going (run true false)) ≡ Output Stdout (codes "x") [] ∷ Output Stdout (codes "y") [] ∷ nothings 3
held = refl

held_and_paused : polls 3 (going (run true true)) ≡ Output Stdout (codes "x") [] ∷ Output Stdout (codes "y") [] ∷ Stopped (codes "pause") (pos 1) [] ∷ []
held_and_paused = refl

to_the_exit : polls 3 (going (record { output = codes "x" ∷ []; move = record { to = 3; held = false; forward = true; reason = Step }; paused = false })) ≡ Output Stdout (codes "x") [] ∷ Exited (pos 0) ∷ Nothing ∷ []
to_the_exit = refl

nothing_twice : nothings 2 ≡ Nothing ∷ Nothing ∷ []
nothing_twice = refl
