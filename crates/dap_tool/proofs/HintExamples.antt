-- Worked examples of the hint at numbers of a side's own, each shown by computation.
use Rattle.std.proofs.Common.{◌≡◌, ℕ, List, [], ◌∷◌, true, false, None, codes, refl}
use Rattle.dap_envelope.specs.declared.message.Kind.TheVariants.{Event}
use Rattle.dap_check.specs.declared.line.Line.{Line}
use Rattle.dap_check.specs.declared.line.Side.{Side}
use Rattle.dap_check.specs.declared.line.Side.TheVariants.{Client, Adapter}
use Rattle.dap_check.specs.declared.rule.AnySeq.TheVariants.{OfNone, OfClient, OfAdapter, OfBoth}
use Rattle.dap_tool.specs.Hints.{numbers_itself, hint_if}

-- an event of no rule's
abbrev said : ℕ → Side → ℕ → Line
said number side seq = record { number = number; side = side; message = record { seq = seq; kind = Event (codes "x") None } }

abbrev zeros : List Line
zeros = said 1 Client 1 ∷ said 2 Adapter 0 ∷ said 3 Adapter 0 ∷ said 4 Client 2 ∷ []

each_is_0 : hint_if true OfNone zeros ≡ codes "each message of the adapter breaks rule 1: --any-seq=adapter leaves its numbers untested\n"
each_is_0 = refl

not_asked_why : hint_if false OfNone zeros ≡ []
not_asked_why = refl

left_out_already : hint_if true OfAdapter zeros ≡ []
left_out_already = refl

left_out_for_the_other : hint_if true OfClient zeros ≡ hint_if true OfNone zeros
left_out_for_the_other = refl

-- one is 0 and the next is due
one_is_not_0 : hint_if true OfNone (said 1 Adapter 0 ∷ said 2 Adapter 2 ∷ said 3 Adapter 0 ∷ []) ≡ []
one_is_not_0 = refl

from_0_on : hint_if true OfNone (said 1 Client 0 ∷ said 2 Client 1 ∷ said 3 Client 2 ∷ []) ≡ codes "each message of the client breaks rule 1: --any-seq=client leaves its numbers untested\n"
from_0_on = refl

-- the numbers of both sides are one row: those of the client happen to be due
in_one_row : hint_if true OfNone (said 1 Client 1 ∷ said 2 Adapter 2 ∷ said 3 Adapter 3 ∷ []) ≡ codes "each message of the adapter breaks rule 1: --any-seq=adapter leaves its numbers untested\n"
in_one_row = refl

-- after a gap each message breaks the rule, but not those before it
after_a_gap : hint_if true OfNone (said 1 Client 1 ∷ said 2 Client 3 ∷ said 3 Client 4 ∷ []) ≡ []
after_a_gap = refl

a_single_message : hint_if true OfNone (said 1 Client 0 ∷ []) ≡ []
a_single_message = refl

both_sides : hint_if true OfNone (said 1 Client 0 ∷ said 2 Adapter 0 ∷ said 3 Client 0 ∷ said 4 Adapter 0 ∷ []) ≡ codes "each message breaks rule 1: --any-seq leaves the numbers of both sides untested\n"
both_sides = refl

none_written : hint_if true OfNone [] ≡ []
none_written = refl

of_both : hint_if true OfBoth (said 1 Client 0 ∷ said 2 Client 0 ∷ []) ≡ []
of_both = refl
