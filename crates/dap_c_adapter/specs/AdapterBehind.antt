-- What the handle of an adapter holds.
use Rattle.std.specs.Prelude.{◌≡◌, IsSome, IfSome, None}
use Rattle.dap_c_parts.specs.Behind.{FromNone, FromTo as Both}
use Rattle.dap_c_adapter.specs.declared.adapter_handle.YtAdapter.{YtAdapter}
use Rattle.dap_c_adapter.specs.declared.held_adapter.HeldAdapter.{HeldAdapter}

-- it holds one
abbrev pub IsFull : YtAdapter → Type 0
IsFull h = IsSome h.inner.value

-- it holds none
abbrev pub IsEmpty : YtAdapter → Type 0
IsEmpty h = h.inner.value ≡ None

-- of the adapter that it holds, if it holds one
abbrev pub IfFull : YtAdapter → (HeldAdapter → Type 0) → Type 0
IfFull h P = IfSome h.inner.value P

-- where it held one before and after a call, this holds of the two
abbrev pub FromTo : YtAdapter → YtAdapter → (HeldAdapter → HeldAdapter → Type 0) → Type 0
FromTo old new P = Both old.inner.value new.inner.value P

-- where it held none before a call: the first fact, and it holds none after, and the second fact
abbrev pub FromEmpty : YtAdapter → YtAdapter → Type 0 → Type 0 → Type 0
FromEmpty old new P Q = FromNone old.inner.value new.inner.value P Q
