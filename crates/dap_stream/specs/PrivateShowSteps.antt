-- Words for the steps that listing and wrapping are made of: they serve private functions alone.
use Rattle.std.specs.Prelude.{◌≡◌, ℕ, Bool, false, not, List, [], ◌∷◌, ◌++◌, take, None}
use Rattle.dap_frame.specs.Settings.{Settings, bounds_of}
use Rattle.dap_frame.specs.Intake.{Intake, StandsFor}
use Rattle.dap_envelope.specs.Refusals.{Bad}
use Rattle.dap_envelope.specs.declared.fault.BodyFault.{BodyFault}
use Rattle.dap_envelope.specs.declared.fault.BodyFault.TheVariants.{Refused as BodyRefused, OutOfMemory as NoMemoryForBody}
use Rattle.dap_envelope.specs.declared.heading.HeadingKind.{HeadingKind}
use Rattle.dap_envelope.specs.declared.heading.HeadingKind.TheVariants.{Request, Response, Event, Other}
use Rattle.dap_envelope.specs.declared.message.Kind.{Kind}
use Rattle.dap_envelope.specs.declared.message.Kind.TheVariants as kind
use Rattle.dap_stream.specs.Lines.{kind_text}
use Rattle.dap_stream.specs.Listing.{Listed}
use Rattle.dap_stream.specs.declared.lines.Style.{Style}

-- the heading is that of a request that failed
abbrev pub is_failure : HeadingKind → Bool
is_failure (Request name) = false
is_failure (Response request_seq success name) = not success
is_failure (Event name) = false
is_failure (Other name) = false

-- the words of a heading: those of such a message, whatever else it has
abbrev pub kind_words : HeadingKind → List ℕ
kind_words (Request name) = kind_text (kind.Request name.now None)
kind_words (Response request_seq success name) = kind_text (kind.Response request_seq success name.now None None)
kind_words (Event name) = kind_text (kind.Event name.now None)
kind_words (Other name) = kind_text (kind.Other name.now)

-- why a ready body is not read
abbrev pub IsUnread : List ℕ → BodyFault → Type 0
IsUnread body (BodyRefused cause) = Bad body cause
IsUnread body NoMemoryForBody = Unit {0}

-- why a listing stops at a ready body
abbrev pub IsStopped : Style → List ℕ → BodyFault → Type 0
IsStopped style body (BodyRefused cause) = Bad body cause × (style.keeps_going ≡ false)
IsStopped style body NoMemoryForBody = Unit {0}

-- the first `at` bytes were listed
pub record ListedTo (style : Style) (limits : Settings) (frames : Intake) (bytes : List ℕ) (at : ℕ) (old new : List ℕ) (refused : Bool) : Type 0 where
  pub bodies : List (List ℕ)
  pub rest : List ℕ
  pub bounds : frames.bounds ≡ bounds_of limits
  pub stands : StandsFor frames (take at bytes) bodies rest
  pub listed : Listed style limits bytes bodies old new refused

-- the same, save for the last body, which is ready
pub record ListedBefore (style : Style) (limits : Settings) (frames : Intake) (bytes : List ℕ) (at : ℕ) (old new : List ℕ) (refused : Bool) : Type 0 where
  pub bodies : List (List ℕ)
  pub bounds : frames.bounds ≡ bounds_of limits
  pub stands : StandsFor frames (take at bytes) (bodies ++ frames.held ∷ []) []
  pub listed : Listed style limits bytes bodies old new refused

-- these, and more behind them
abbrev pub Extends : List ℕ → List ℕ → Type 0
Extends old new = (more : List ℕ) × (new ≡ old ++ more)
