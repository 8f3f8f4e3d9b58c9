-- What is listed of a stream: a line for each message, in order, with the offset of its frame.
use Rattle.std.specs.Prelude.{◌≡◌, ◌||◌, ◌+◌, ℕ, Bool, true, false, List, [], ◌∷◌, ◌++◌, length, take, drop, Result, Ok, Err}
use Rattle.dap_frame.specs.declared.frames.End.{End}
use Rattle.dap_frame.specs.declared.frames.End.TheVariants.{Clean, Truncated, Refused as Closed}
use Rattle.dap_frame.specs.declared.frames.FrameFault.{FrameFault}
use Rattle.dap_frame.specs.declared.limits.Bounds.{Bounds}
use Rattle.dap_frame.specs.Settings.{Settings, bounds_of}
use Rattle.dap_frame.specs.Stream.{Frame, FramesThen, Split}
use Rattle.dap_frame.specs.Verdict.{verdict, Part, Refused as Refuses}
use Rattle.dap_frame.specs.Intake.{StartsAt, LastStartsAt}
use Rattle.dap_envelope.specs.Meaning.{Msg}
use Rattle.dap_envelope.specs.Refusals.{Bad}
use Rattle.dap_envelope.specs.declared.fault.BodyRefusal.{BodyRefusal}
use Rattle.dap_envelope.specs.declared.message.Message.{Message}
use Rattle.dap_stream.specs.Lines.{line_in, refused_in}
use Rattle.dap_stream.specs.declared.lines.Form.{Form}
use Rattle.dap_stream.specs.declared.lines.Style.{Style}
use Rattle.dap_stream.specs.declared.listing.Shown.{Shown}
use Rattle.dap_stream.specs.declared.listing.ShowFault.{ShowFault}
use Rattle.dap_stream.specs.declared.listing.ShowFault.TheVariants.{Frame as BadFrame, Body, OutOfMemory}

-- this is the line of the body, whose frame starts at this offset: it is a message, or it is refused, which the truth value
-- says, and the listing goes on
pub data IsLineOf (style : Style) (offset : ℕ) (body line : List ℕ) : Bool → Type 0 where
  of_message : (m : Message) → Msg body m → line ≡ line_in style.form offset body m → IsLineOf style offset body line false
  of_refused : (cause : BodyRefusal) → style.keeps_going ≡ true → Bad body cause → line ≡ refused_in style.form offset body cause → IsLineOf style offset body line true

-- the first frames of s have these bodies, this text is their lines, and the truth value says whether one is refused
pub data Lists (style : Style) (bounds : Bounds) (s : List ℕ) : List (List ℕ) → List ℕ → Bool → Type 0 where
  none : Lists style bounds s [] [] false
  one_more : (xs : List (List ℕ)) (text x line front frame after : List ℕ) (before refused : Bool)
      → Lists style bounds s xs text before → s ≡ front ++ (frame ++ after) → FramesThen bounds xs [] front → Frame bounds frame x → IsLineOf style (length front) x line refused
      → Lists style bounds s (xs ++ x ∷ []) (text ++ line) (before || refused)

-- the lines of the frames of these bodies were appended
pub record Listed (style : Style) (limits : Settings) (bytes : List ℕ) (xs : List (List ℕ)) (old new : List ℕ) (refused : Bool) : Type 0 where
  pub text : List ℕ
  pub lists : Lists style (bounds_of limits) bytes xs text refused
  pub appended : new ≡ old ++ text

-- how a stream ends with this rest after its whole frames, none of which is refused
abbrev pub IsEndOf : Settings → List ℕ → End → Type 0
IsEndOf limits rest Clean = rest ≡ []
IsEndOf limits rest Truncated = verdict (bounds_of limits) rest ≡ Part
IsEndOf limits rest Closed = ⊥

-- all of the bytes were listed
pub record ListsAll (style : Style) (limits : Settings) (bytes old new : List ℕ) (shown : Shown) : Type 0 where
  pub bodies : List (List ℕ)
  pub rest : List ℕ
  pub split : Split (bounds_of limits) bytes bodies rest
  pub listed : Listed style limits bytes bodies old new shown.refused
  pub ends : IsEndOf limits rest shown.end

-- a frame is refused after the first n bytes, and what stands before it is listed
pub record ListsToFrame (style : Style) (limits : Settings) (bytes old new : List ℕ) (fault : FrameFault) : Type 0 where
  pub n : ℕ
  pub bodies : List (List ℕ)
  pub rest : List ℕ
  pub split : Split (bounds_of limits) (take n bytes) bodies rest
  pub refused : Bool
  pub listed : Listed style limits bytes bodies old new refused
  pub verdict_is : verdict (bounds_of limits) rest ≡ Refuses fault.cause (length rest)
  pub offset : StartsAt (bounds_of limits) fault.offset (take n bytes) bodies rest

-- a body is no message, the listing does not go on, and what stands before its frame is listed; the body is those bytes of the
-- stream that the fault says, the last of its frame
pub record ListsToBody (style : Style) (limits : Settings) (bytes old new : List ℕ) (cause : BodyRefusal) (offset body_offset body_length : ℕ) : Type 0 where
  pub n : ℕ
  pub bodies : List (List ℕ)
  pub body : List ℕ
  pub split : Split (bounds_of limits) (take n bytes) (bodies ++ body ∷ []) []
  pub refused : Bool
  pub listed : Listed style limits bytes bodies old new refused
  pub stops : style.keeps_going ≡ false
  pub bad : Bad body cause
  pub starts : LastStartsAt (bounds_of limits) offset (take n bytes) (bodies ++ body ∷ []) body
  pub there : take body_length (drop body_offset bytes) ≡ body
  pub ends : body_offset + body_length ≡ n

-- memory was refused, and what stands before some frame is listed
pub record ListsSome (style : Style) (limits : Settings) (bytes old new : List ℕ) : Type 0 where
  pub bodies : List (List ℕ)
  pub refused : Bool
  pub listed : Listed style limits bytes bodies old new refused

abbrev pub Shows : Style → Settings → List ℕ → List ℕ → List ℕ → Result Shown ShowFault → Type 0
Shows style limits bytes old new (Ok shown) = ListsAll style limits bytes old new shown
Shows style limits bytes old new (Err (BadFrame fault)) = ListsToFrame style limits bytes old new fault
Shows style limits bytes old new (Err (Body cause offset body_offset body_length)) = ListsToBody style limits bytes old new cause offset body_offset body_length
Shows style limits bytes old new (Err OutOfMemory) = ListsSome style limits bytes old new

-- the same in a form, up to the first refusal
abbrev pub stops_in : Form → Style
stops_in form = record { form = form; keeps_going = false }

abbrev pub ShowsAll : Form → Settings → List ℕ → List ℕ → List ℕ → Result End ShowFault → Type 0
ShowsAll form limits bytes old new (Ok end) = ListsAll (stops_in form) limits bytes old new (record { end = end; refused = false })
ShowsAll form limits bytes old new (Err fault) = Shows (stops_in form) limits bytes old new (Err fault)
