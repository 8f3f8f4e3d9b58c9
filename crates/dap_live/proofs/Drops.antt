-- What is not dropped may happen, in its range.
use Rattle.std.proofs.Common.{◌≡◌, Bool, true, false, Option, Some, None, IsTrue, refl, if◌then◌else◌}
use Rattle.dap_debuggee.specs.Laws.{may_happen, is_short}
use Rattle.dap_live.specs.declared.mail.Dropped.{Dropped}
use Rattle.dap_live.specs.declared.mail.Dropped.TheVariants.{OutOfTurn, OutOfRange}
use Rattle.dap_live.specs.Dropping.{EachDropHasItsReason}

abbrev why : Bool → Bool → Option Dropped
why may short = if may then (if short then None else Some OutOfRange) else Some OutOfTurn

not_dropped : (may short : Bool) → why may short ≡ None → IsTrue may × IsTrue short
not_dropped true true is = (refl, refl)
not_dropped true false is = absurd (cc is)
not_dropped false short is = absurd (cc is)

kept : (may short : Bool) → IsTrue may → IsTrue short → why may short ≡ None
kept true true m s = refl
kept true false m s = absurd (cc s)
kept false short m s = absurd (cc m)

pub each_drop : EachDropHasItsReason
each_drop state h = (not_dropped (may_happen state h) (is_short h), kept (may_happen state h) (is_short h))
