-- What is said of a flag, one line later.
use Rattle.std.proofs.Common.{◌≡◌, ℕ, ◌+◌, List, [], ◌∷◌, ◌++◌, Bool, true, false, Option, Some, None, refl, sym, ap, ◌∙◌}
use Rattle.std.specs.Prelude.{not, ◌&&◌, ◌||◌, cond, is_some, option_map}
use Rattle.dap_command.specs.declared.command.Gate.{Gate}
use Rattle.dap_command.specs.declared.command.Gate.TheVariants.{BreakpointLocations, Cancel, Completions, ConfigurationDone, ExceptionInfo, FunctionBreakpoints, LoadedSources, Modules, Restart, SetVariable, StepBack, Terminate}
use Rattle.dap_check.specs.Places.{decided_by, switches_on, switches_off, is_on, is_off}
use Rattle.dap_check.specs.SinceLaws.{open_push}
use Rattle.dap_check.specs.declared.line.Line.{Line}
use Rattle.dap_explain.specs.KeptNotes.{decided_in, decision_after, is_on_in, line_in, IsDecided}
use Rattle.dap_explain.specs.KeptTrails.{closed_after}
use Rattle.dap_explain.specs.Reasons.{trail, no_line, decides}
use Rattle.dap_explain.specs.declared.decisions.Decision.{Decision}
use Rattle.dap_explain.specs.declared.trail.Opened.{Opened}
use Rattle.dap_explain.specs.declared.trail.Trail.{Trail}
use Rattle.dap_explain.proofs.TrailLemmas.{trail_push}

still_on : (line : Line) (decided : Option Bool) (before : Option Decision) → is_on_in (decided_in line decided before) ≡ ((is_on_in before && not (is_off decided)) || is_on decided)
still_on line None before = same (is_on_in before)
  where
    same : (b : Bool) → b ≡ ((b && true) || false)
    same true = refl
    same false = refl
still_on line (Some true) before = now_on (is_on_in before)
  where
    now_on : (b : Bool) → true ≡ ((b && true) || true)
    now_on true = refl
    now_on false = refl
still_on line (Some false) before = now_off (is_on_in before)
  where
    now_off : (b : Bool) → false ≡ ((b && false) || false)
    now_off true = refl
    now_off false = refl

abbrev number_of : Option Opened → Option ℕ
number_of opened = option_map (λ (last : Opened). last.line) opened

last_said : (line : Line) (decided : Option Bool) (before : Option Decision) (t : Trail) → line_in before ≡ number_of t.opened
    → line_in (decided_in line decided before)
    ≡ number_of (cond {A = Trail} (is_some decided) (record { count = t.count + 1; opened = Some (record { line = line.number; seq = line.message.seq }); closed = None }) (record { count = t.count; opened = t.opened; closed = closed_after no_line line t.opened t.closed })).opened
last_said line None before t is = is
last_said line (Some on) before t is = refl

pub decided_later : (gate : Gate) (line : Line) (earlier : List Line) (before after : Option Decision) → after ≡ decision_after gate line before → IsDecided gate before earlier → IsDecided gate after (earlier ++ line ∷ [])
decided_later gate line earlier before after changed is = record {
  on =
      ap is_on_in changed ∙ still_on line (decided_by gate line) before
      ∙ ap (λ b. (b && not (switches_off gate line)) || switches_on gate line) is.on
      ∙ sym (open_push (switches_on gate) (switches_off gate) earlier line);
  line =
      ap line_in changed ∙ last_said line (decided_by gate line) before (trail (decides gate) no_line earlier) is.line
      ∙ ap (λ (t : Trail). number_of t.opened) (sym (trail_push (decides gate) no_line earlier line));
}

-- what holds of each flag
pub by_gate : (P : Gate → Type 0) → P BreakpointLocations → P Cancel → P Completions → P ConfigurationDone → P ExceptionInfo → P FunctionBreakpoints → P LoadedSources → P Modules → P Restart → P SetVariable → P StepBack → P Terminate → (gate : Gate) → P gate
by_gate P a b c d e f g h i j k l BreakpointLocations = a
by_gate P a b c d e f g h i j k l Cancel = b
by_gate P a b c d e f g h i j k l Completions = c
by_gate P a b c d e f g h i j k l ConfigurationDone = d
by_gate P a b c d e f g h i j k l ExceptionInfo = e
by_gate P a b c d e f g h i j k l FunctionBreakpoints = f
by_gate P a b c d e f g h i j k l LoadedSources = g
by_gate P a b c d e f g h i j k l Modules = h
by_gate P a b c d e f g h i j k l Restart = i
by_gate P a b c d e f g h i j k l SetVariable = j
by_gate P a b c d e f g h i j k l StepBack = k
by_gate P a b c d e f g h i j k l Terminate = l
