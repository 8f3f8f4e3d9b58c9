-- A line as it was read from a body.
use Rattle.std.proofs.Common.{◌≡◌, ℕ, List, Some, Result, Ok, Err, drop, sym, subst}
use Rattle.std.specs.Prelude.{IfErr}
use Rattle.dap_envelope.specs.Refusals.{Bad}
use Rattle.dap_check.specs.PrivateBare.{IsUnread}
use Rattle.dap_check.specs.Transcript.{side_of, Refuses}
use Rattle.dap_check.specs.declared.checking.CheckFault.{CheckFault}
use Rattle.dap_check.specs.declared.checking.CheckFault.TheVariants.{BadLine, Body, OutOfMemory}
use Rattle.dap_check.specs.declared.line.Side.{Side}

pub unread_memory : {A : Type 0} (number : ℕ) (body : List ℕ) (result : Result A CheckFault) → IfErr result (λ fault. fault ≡ OutOfMemory) → IfErr result (IsUnread number body)
unread_memory number body (Ok x) is = tt
unread_memory number body (Err fault) is = subst (IsUnread number body) (sym is) tt

refuses : (number : ℕ) (text body : List ℕ) (side : Side) → side_of text ≡ Some side → body ≡ drop 2 text → (fault : CheckFault) → IsUnread number body fault → Refuses number text fault
refuses number text body side is same (BadLine line) unread = absurd unread
refuses number text body side is same (Body line cause) unread = ((side, is), subst (λ b. Bad b cause) same unread.0, unread.1)
refuses number text body side is same OutOfMemory unread = tt

pub if_unread : {A : Type 0} (number : ℕ) (text body : List ℕ) (side : Side) → side_of text ≡ Some side → body ≡ drop 2 text → (result : Result A CheckFault) → IfErr result (IsUnread number body) → IfErr result (Refuses number text)
if_unread number text body side is same (Ok x) unread = tt
if_unread number text body side is same (Err fault) unread = refuses number text body side is same fault unread
