-- How a reader of frames is closed, and how its stream ends, as codes.
use Rattle.std.specs.Prelude.{◌≡◌, ℕ, List}
use Rattle.dap_frame.specs.declared.Refusal.{Refusal}
use Rattle.dap_frame.specs.declared.frames.FrameFault.{FrameFault}
use Rattle.dap_frame.specs.declared.frames.End.{End}
use Rattle.dap_frame.specs.declared.frames.End.TheVariants.{Clean, Truncated, Refused}
use Rattle.dap_frame.specs.Ends.{EndsWith}
use Rattle.dap_frame.specs.Feeds.{Closes}
use Rattle.dap_frame.specs.Intake.{Intake}
use Rattle.dap_c_parts.specs.Causes.{refusal_number}

-- the reader is closed with a fault of this cause and this offset
abbrev pub ClosesWith : Intake → Intake → List ℕ → ℕ → ℕ → Type 0
ClosesWith old new piece cause offset = (fault : FrameFault) × (cause ≡ refusal_number fault.cause) × (offset ≡ fault.offset) × Closes old new piece fault

-- a reader that was closed for this reason answers it again, and is the same
abbrev pub IsRefusedAgain : Intake → Intake → Refusal → ℕ → ℕ → ℕ → Type 0
IsRefusedAgain old new why code cause offset = (new ≡ old) × (code ≡ 31) × (cause ≡ refusal_number why) × (offset ≡ old.start)

-- how a stream ends, as a code
abbrev pub end_number : End → ℕ
end_number Clean = 0
end_number Truncated = 3
end_number Refused = 31

-- the stream ends as the code says
abbrev pub EndsWithCode : Intake → List ℕ → ℕ → Type 0
EndsWithCode i rest code = (end : End) × (code ≡ end_number end) × EndsWith i rest end
