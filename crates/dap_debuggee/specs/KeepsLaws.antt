-- All that the trait `Debuggee` says of steps and of views, as one record: a debuggee that keeps every law of the trait.
use Rattle.std.specs.Prelude.{IsTrue}
use Rattle.dap_debuggee.specs.Shown.{Shown, to_poll, happened}
use Rattle.dap_debuggee.specs.Laws.{Follows, is_short, Counts, Remembers, Answers, Moves, SetsLines, SetsValues, KeepsAnswers, KeepsFrames, KeepsSources, NoThreads, VerifiesEach, AssignsVariables, ThreadsInRange, FramesInRange, NamesOneFrame, SourcesInRange}

pub record KeepsLaws {View : Type 0} (shown : View → Shown) (follows : Follows View) : Type 0 where
  pub counts : Counts shown follows
  pub remembers : Remembers shown follows
  pub answers : Answers shown follows
  pub moves : Moves shown follows
  pub sets_lines : SetsLines shown follows
  pub sets_values : SetsValues shown follows
  pub keeps_answers : KeepsAnswers shown follows
  pub keeps_frames : KeepsFrames shown follows
  pub keeps_sources : KeepsSources shown follows
  pub no_threads : NoThreads shown
  pub verifies_each : VerifiesEach shown
  pub assigns_variables : AssignsVariables shown
  pub short : (v w : View) (h : _) → follows v to_poll (happened h) w → IsTrue (is_short h)
  pub threads_in_range : (v : View) → ThreadsInRange (shown v)
  pub frames_in_range : (v : View) → FramesInRange (shown v)
  pub one_name : (v : View) → NamesOneFrame (shown v)
  pub sources_in_range : (v : View) → SourcesInRange (shown v)
