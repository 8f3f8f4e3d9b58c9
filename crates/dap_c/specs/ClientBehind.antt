-- What the handle of a client holds.
use Rattle.std.specs.Prelude.{◌≡◌, IsSome, IfSome, None}
use Rattle.dap_c_parts.specs.Behind.{FromNone, FromTo as Both}
use Rattle.dap_c.specs.declared.client_handle.YtClient.{YtClient}
use Rattle.dap_c.specs.declared.held_client.HeldClient.{HeldClient}

-- it holds one
abbrev pub IsFull : YtClient → Type 0
IsFull h = IsSome h.inner.value

-- it holds none
abbrev pub IsEmpty : YtClient → Type 0
IsEmpty h = h.inner.value ≡ None

-- of the client that it holds, if it holds one
abbrev pub IfFull : YtClient → (HeldClient → Type 0) → Type 0
IfFull h P = IfSome h.inner.value P

-- where it held one before and after a call, this holds of the two
abbrev pub FromTo : YtClient → YtClient → (HeldClient → HeldClient → Type 0) → Type 0
FromTo old new P = Both old.inner.value new.inner.value P

-- where it held none before a call: the first fact, and it holds none after, and the second fact
abbrev pub FromEmpty : YtClient → YtClient → Type 0 → Type 0 → Type 0
FromEmpty old new P Q = FromNone old.inner.value new.inner.value P Q
