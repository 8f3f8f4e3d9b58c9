-- A stop of a recorded debuggee lasts.
use Rattle.std.proofs.Common.{◌≡◌, false, Option, None, refl, ◌∙◌, ap}
use Rattle.dap_debuggee.specs.Laws.{ends_a_stop, StopsLast}
use Rattle.dap_replay.specs.Played.{Played, Run, shown_of, FollowsPlayed, act_on, poll_result, poll_in, start_in, resume_in, pause_in}
use Rattle.dap_debuggee.specs.Shown.{Act, to_start, to_resume, to_pause, to_poll, to_set_breakpoints, to_assign, to_end, Reply, done, refused}
use Rattle.dap_debuggee.specs.declared.answers.How.{How}
use Rattle.dap_debuggee.specs.declared.answers.State.{State}
use Rattle.dap_debuggee.specs.declared.answers.State.TheVariants.{NotStarted, Running, Stopped, Gone}

polled : (s : State) (run : Option Run) (v : Played) → ends_a_stop s (poll_in (poll_result s run v)).0 ≡ false
polled NotStarted run v = refl
polled Running run v = refl
polled Stopped run v = refl
polled Gone run v = refl

done-stays : (t : State) → ends_a_stop t done ≡ false
done-stays Stopped = refl
done-stays _ = refl

refused-stays : (t : State) → ends_a_stop t (refused None) ≡ false
refused-stays Stopped = refl
refused-stays _ = refl

started : (s t : State) (v : Played) → ends_a_stop t (start_in s v).0 ≡ false
started NotStarted t v = done-stays t
started _ t v = refused-stays t

resumed : (s t : State) (how : How) (v : Played) → ends_a_stop t (resume_in s how v).0 ≡ false
resumed Stopped t how v = done-stays t
resumed _ t how v = refused-stays t

paused : (s t : State) (run : Option Run) (v : Played) → ends_a_stop t (pause_in s run v).0 ≡ false
paused Running t run v = done-stays t
paused _ t run v = refused-stays t

answered : (v : Played) (act : Act) → ends_a_stop v.state (act_on act v).0 ≡ false
answered v to_start = started v.state v.state v
answered v (to_resume how thread) = resumed v.state v.state how v
answered v to_pause = paused v.state v.state v.run v
answered v to_poll = polled v.state v.run v
answered v (to_set_breakpoints source lines) = done-stays v.state
answered v (to_assign holder name text) = done-stays v.state
answered v to_end = done-stays v.state

pub stops-last : StopsLast shown_of FollowsPlayed
stops-last old new act reply f = ap (λ (r : Reply). ends_a_stop old.state r) f.reply ∙ answered old act
