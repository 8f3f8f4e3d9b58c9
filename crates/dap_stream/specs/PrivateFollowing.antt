-- The code's words for following a stream: what holds between its steps. They serve private functions alone.
use Rattle.std.specs.Prelude.{◌≡◌, ℕ, Bool, List, [], ◌++◌, length, IsTrue}
use Rattle.dap_channel.specs.Channel.{IoEvent, Ran, bytes_read, bytes_written, is_flushed, MayGoOn}
use Rattle.dap_frame.specs.Intake.{Intake, IsUnderWay}
use Rattle.dap_frame.specs.Settings.{Settings}
use Rattle.dap_stream.specs.Following.{ReadsInTurn}
use Rattle.dap_stream.specs.PrivateShowSteps.{ListedTo}
use Rattle.dap_stream.specs.declared.lines.Style.{Style}

-- these bytes were listed, and their lines went out; then this piece came
pub record Came {C : Type 0} (goes : C → IoEvent → C → Type 0) (style : Style) (limits : Settings) (most : ℕ) (start now : C) (frames : Intake) (bytes piece out : List ℕ) (refused : Bool) : Type 0 where
  pub log : List IoEvent
  pub ran : Ran goes start log now
  pub read_is : bytes ++ piece ≡ bytes_read log
  pub written_is : out ≡ bytes_written log
  pub listed : ListedTo style limits frames bytes (length bytes) [] out refused
  pub under_way : IsUnderWay frames
  pub flushed : IsTrue (is_flushed log)
  pub goes_on : MayGoOn log
  pub in_turn : ReadsInTurn style limits most log
