use Rattle.std.proofs.Common.{List, [], sym, ◌∙◌, subst, append-nil}
use Rattle.dap_channel.specs.Channel.{IoEvent}
use Rattle.dap_tool.specs.Files.{AreReads, AreDue, HasReason}
use Rattle.dap_tool.proofs.files.reading_is_of_the_log.Goals as goal

pub returns : goal.returns
returns c = λ calls result h.
    let same = c.calls_are_the_log.ensures [] calls h.log h.ran ∙ append-nil h.log in
    subst (λ (log : List IoEvent). AreReads log × AreDue log × HasReason log result) (sym same) (h.are_reads, h.due, h.reason)
