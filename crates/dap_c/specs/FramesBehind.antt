-- What the handle of a reader of frames holds.
use Rattle.std.specs.Prelude.{◌≡◌, IsSome, IfSome, None}
use Rattle.dap_c_parts.specs.Behind.{FromNone, FromTo as Both}
use Rattle.dap_c.specs.declared.frames_handle.YtFrames.{YtFrames}
use Rattle.dap_frame.specs.Intake.{Intake}

-- it holds one
abbrev pub IsFull : YtFrames → Type 0
IsFull h = IsSome h.inner.value

-- it holds none
abbrev pub IsEmpty : YtFrames → Type 0
IsEmpty h = h.inner.value ≡ None

-- of the reader that it holds, if it holds one
abbrev pub IfFull : YtFrames → (Intake → Type 0) → Type 0
IfFull h P = IfSome h.inner.value P

-- where it held one before and after a call, this holds of the two
abbrev pub FromTo : YtFrames → YtFrames → (Intake → Intake → Type 0) → Type 0
FromTo old new P = Both old.inner.value new.inner.value P

-- where it held none before a call: the first fact, and it holds none after, and the second fact
abbrev pub FromEmpty : YtFrames → YtFrames → Type 0 → Type 0 → Type 0
FromEmpty old new P Q = FromNone old.inner.value new.inner.value P Q
