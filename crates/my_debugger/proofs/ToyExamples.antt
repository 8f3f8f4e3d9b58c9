-- Worked examples of what the debugger shows, tells and keeps, each shown by computation.
use Rattle.std.proofs.Common.{◌≡◌, List, [], ◌∷◌, codes, true, false, Option, None, Some, pos, refl, decimal}
use Rattle.dap_command.specs.declared.source_key.SourceKey.TheVariants.{Path, Reference}
use Rattle.dap_debuggee.specs.Shown.{to_poll, to_set_breakpoints, to_assign, to_end}
use Rattle.dap_debuggee.specs.Laws.{is_short}
use Rattle.dap_debuggee.specs.declared.answers.State.TheVariants.{NotStarted, Running, Stopped, Gone}
use Rattle.dap_debuggee.specs.declared.answers.Happening.TheVariants as happening
use Rattle.my_debugger.specs.declared.call.Call.{Call}
use Rattle.my_debugger.specs.declared.call.Local.{Local}
use Rattle.my_debugger.specs.declared.news.News.TheVariants as news
use Rattle.my_debugger.specs.declared.news.Reason.TheVariants.{Breakpoint, Step}
use Rattle.my_debugger.specs.ToyShown.{of_its_type, fresh_toy, frame_of, frames_from, line_of, variable_of, main_thread, threads_in, calls_in, frames_in, scopes_in, scope_of, children_in, evaluation_in, has_line, shown_toy}
use Rattle.my_debugger.specs.ToyActs.{happening_of, state_by, is_possible, set_after}

abbrev x_is_20 : Local
x_is_20 = record { name = codes "x"; value = 20 }

abbrev double : Call
double = record { name = codes "double"; at = 9; locals = x_is_20 ∷ [] }

abbrev main : Call
main = record { name = codes "main"; at = 4; locals = [] }

abbrev two : Option (List Call)
two = calls_in Stopped (double ∷ main ∷ [])

-- ---- what is shown

threads : (threads_in NotStarted ≡ []) × (threads_in Running ≡ main_thread ∷ []) × (threads_in Gone ≡ [])
threads = (refl, refl, refl)

running : (calls_in Running (main ∷ []) ≡ None) × (frames_in (calls_in Running (main ∷ [])) (pos 1) ≡ None) × (scopes_in (calls_in Gone (main ∷ [])) 0 ≡ None)
running = (refl, refl, refl)

lines : (line_of main ≡ 5) × (line_of (record main { at = 4294967295 }) ≡ 2147483647)
lines = (refl, refl)

frames : (frames_in two (pos 1) ≡ Some (frame_of 0 double ∷ frame_of 1 main ∷ [])) × (frames_in two (pos 2) ≡ None) × (frames_from 0 [] ≡ [])
frames = (refl, refl, refl)

scopes : (scopes_in two 1 ≡ Some (scope_of 1 ∷ [])) × (scopes_in two 2 ≡ None)
scopes = (refl, refl)

children : (children_in two 0 ≡ Some (variable_of x_is_20 ∷ [])) × (children_in two 1 ≡ Some []) × (children_in two 2 ≡ None)
children = (refl, refl, refl)

values : (evaluation_in two (Some 0) (codes "x") ≡ Some (record { value = decimal 20; holder = None; more = of_its_type })) × (evaluation_in two (Some 0) (codes "y") ≡ None) × (evaluation_in two (Some 1) (codes "x") ≡ None) × (evaluation_in two None (codes "x") ≡ None)
values = (refl, refl, refl, refl)

sources : (has_line (Path (codes "/toy/sample.toy")) 1 ≡ true) × (has_line (Path (codes "/toy/sample.toy")) 12 ≡ true) × (has_line (Path (codes "/toy/sample.toy")) 13 ≡ false) × (has_line (Path (codes "/toy/sample.toy")) 0 ≡ false) × (has_line (Path (codes "/b")) 1 ≡ false) × (has_line (Reference 1) 1 ≡ false)
sources = (refl, refl, refl, refl, refl, refl)

content : ((shown_toy fresh_toy).content 1 ≡ None) × ((shown_toy fresh_toy).lines (Path []) ≡ []) × ((shown_toy fresh_toy).evaluate None (codes "a") ≡ None)
content = (refl, refl, refl)

-- ---- what is told

told : (happening_of news.Nothing ≡ happening.Nothing) × (happening_of (news.Stopped Step) ≡ happening.Stopped (codes "step") (pos 1) []) × (happening_of news.TooDeep ≡ happening.Exited (pos 1))
told = (refl, refl, refl)

ranges : (is_short (happening_of (news.Stopped Breakpoint)) ≡ true) × (is_short (happening_of news.Finished) ≡ true)
ranges = (refl, refl)

states : (state_by (news.Printed 5) ≡ Running) × (state_by (news.Stopped Breakpoint) ≡ Stopped) × (state_by news.Finished ≡ Gone)
states = (refl, refl, refl)

-- ---- what an act leaves

acts : (is_possible (to_assign 0 (codes "a") (codes "1")) ≡ false) × (is_possible to_poll ≡ true) × (set_after to_end [] ≡ []) × (set_after (to_set_breakpoints (Path (codes "/b")) []) [] ≡ []) × (set_after (to_set_breakpoints (Path (codes "/b")) (3 ∷ [])) [] ≡ record { source = Path (codes "/b"); set = 3 ∷ [] } ∷ [])
acts = (refl, refl, refl, refl, refl)
