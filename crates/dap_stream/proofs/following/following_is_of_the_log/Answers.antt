use Rattle.std.proofs.Common.{◌≡◌, [], ◌++◌, sym, ◌∙◌, subst, append-nil}
use Rattle.dap_stream.specs.Following.{ReadsInTurn, HasReason}
use Rattle.dap_stream.proofs.following.following_is_of_the_log.Goals as goal

pub returns : goal.returns
returns c = λ style limits most calls bytes result h.
    let same : calls ≡ h.log = c.calls_are_the_log.ensures [] calls h.log h.ran ∙ append-nil h.log in
    subst (λ log. ReadsInTurn style limits most log × HasReason style limits most log bytes result) (sym same) (h.in_turn, h.reason)
