use Rattle.dap_drive.proofs.NoComments.{no_comments}
use Rattle.dap_drive.proofs.laws.no_comment_is_a_line.Goals as goal

pub returns : goal.returns
returns c = no_comments
