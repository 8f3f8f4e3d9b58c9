-- What is listed of a stream while it comes: a statement on the calls of the channel. That all that is whole is written and
-- flushed before the next read is this profile's choice.
use Rattle.std.specs.Prelude.{◌≡◌, ℕ, ◌+◌, ◌<◌, ◌≤◌, Bool, List, [], ◌∷◌, ◌++◌, length, IsTrue, Result, Ok, Err}
use Rattle.dap_channel.specs.Channel.{IoEvent, Gave, ReadFailed, Took, WriteFailed, Flushed, FlushFailed, Ran, bytes_read, bytes_written, is_flushed, MayGoOn, HasEnded, HasReadFailed, HasWriteFailed, keeps_log}
use Rattle.dap_frame.specs.Settings.{Settings, bounds_of}
use Rattle.dap_frame.specs.Stream.{Split}
use Rattle.dap_frame.specs.Verdict.{verdict, IsUnrefused}
use Rattle.dap_stream.specs.Listing.{Listed, ListsAll, ListsSome, Shows}
use Rattle.dap_stream.specs.declared.following.FollowFault.{FollowFault}
use Rattle.dap_stream.specs.declared.following.FollowFault.TheVariants.{Read, Write, TooLong, Show}
use Rattle.dap_stream.specs.declared.following.Followed.{Followed}
use Rattle.dap_stream.specs.declared.lines.Style.{Style}
use Rattle.dap_stream.specs.declared.listing.Shown.{Shown}
use Rattle.dap_stream.specs.declared.listing.ShowFault.{ShowFault}
use Rattle.dap_stream.specs.declared.listing.ShowFault.TheVariants.{Frame, Body, OutOfMemory}

-- the lines of all whole frames of what was read, and nothing else, are written; nothing that was read is refused as a frame
pub record IsCaughtUp (style : Style) (limits : Settings) (read written : List ℕ) : Type 0 where
  pub bodies : List (List ℕ)
  pub rest : List ℕ
  pub split : Split (bounds_of limits) read bodies rest
  pub unrefused : IsUnrefused (verdict (bounds_of limits) rest)
  pub refused : Bool
  pub listed : Listed style limits read bodies [] written refused

-- a read is due: no call failed and no read found the end, no more bytes came than may, and all that is whole is written and
-- flushed
pub record IsReadDue (style : Style) (limits : Settings) (most : ℕ) (log : List IoEvent) : Type 0 where
  pub goes_on : MayGoOn log
  pub few : length (bytes_read log) ≤ most
  pub caught_up : IsCaughtUp style limits (bytes_read log) (bytes_written log)
  pub flushed : IsTrue (is_flushed log)

-- each read came where one was due; a log has the newest call first
abbrev pub ReadsInTurn : Style → Settings → ℕ → List IoEvent → Type 0
ReadsInTurn style limits most [] = Unit {0}
ReadsInTurn style limits most (Gave room bytes ∷ log) = IsReadDue style limits most log × ReadsInTurn style limits most log
ReadsInTurn style limits most (ReadFailed ∷ log) = IsReadDue style limits most log × ReadsInTurn style limits most log
ReadsInTurn style limits most (Took bytes left ∷ log) = ReadsInTurn style limits most log
ReadsInTurn style limits most (WriteFailed ∷ log) = ReadsInTurn style limits most log
ReadsInTurn style limits most (Flushed ∷ log) = ReadsInTurn style limits most log
ReadsInTurn style limits most (FlushFailed ∷ log) = ReadsInTurn style limits most log

-- what is written is a front of the lines of some first messages
pub record IsCutShort (style : Style) (limits : Settings) (read written : List ℕ) : Type 0 where
  pub more : List ℕ
  pub lists : ListsSome style limits read [] (written ++ more)

-- what a fault of the stream says of the bytes that are kept: they are all that was read, unless memory was refused for them
abbrev pub Keeps : List IoEvent → List ℕ → ShowFault → Type 0
Keeps log bytes OutOfMemory = (more : List ℕ) × (bytes_read log ≡ bytes ++ more)
Keeps log bytes (Frame fault) = bytes ≡ bytes_read log
Keeps log bytes (Body cause offset body_offset body_length) = bytes ≡ bytes_read log

-- what the calls show of an end, where the bytes are kept
abbrev pub HasReason : Style → Settings → ℕ → List IoEvent → List ℕ → Result Shown FollowFault → Type 0
HasReason style limits most log bytes (Ok shown) = HasEnded log × IsTrue (is_flushed log) × (bytes ≡ bytes_read log) × (length bytes ≤ most) × ListsAll style limits bytes [] (bytes_written log) shown
HasReason style limits most log bytes (Err Read) = HasReadFailed log × (bytes ≡ bytes_read log)
HasReason style limits most log bytes (Err Write) = HasWriteFailed log × (bytes ≡ bytes_read log) × IsCutShort style limits bytes (bytes_written log)
HasReason style limits most log bytes (Err TooLong) = MayGoOn log × IsTrue (is_flushed log) × (bytes ≡ bytes_read log) × (most < length bytes) × IsCaughtUp style limits bytes (bytes_written log)
HasReason style limits most log bytes (Err (Show fault)) = IsTrue (is_flushed log) × Keeps log bytes fault × Shows style limits bytes [] (bytes_written log) (Err fault)

-- calls that led from one channel to another, and what they say of the listing
pub record Follows {C : Type 0} (goes : C → IoEvent → C → Type 0) (style : Style) (limits : Settings) (most : ℕ) (before after : C) (bytes : List ℕ) (result : Result Shown FollowFault) : Type 0 where
  pub log : List IoEvent
  pub ran : Ran goes before log after
  pub in_turn : ReadsInTurn style limits most log
  pub reason : HasReason style limits most log bytes result

-- the same, of what `follow` gives
abbrev pub FollowsTo : {C : Type 0} → (C → IoEvent → C → Type 0) → Style → Settings → ℕ → C → C → Followed → Type 0
FollowsTo goes style limits most before after followed = Follows goes style limits most before after followed.bytes.items followed.end

-- of a channel that is the log of its calls, it is said of that very log
abbrev pub FollowingIsOfTheLog : Type 0
FollowingIsOfTheLog =
    (style : Style) (limits : Settings) (most : ℕ) (calls : List IoEvent) (bytes : List ℕ) (result : Result Shown FollowFault) →
    Follows keeps_log style limits most [] calls bytes result → ReadsInTurn style limits most calls × HasReason style limits most calls bytes result
