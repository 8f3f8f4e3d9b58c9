-- No order begins with `#`.
use Rattle.std.proofs.Common.{refl}
use Rattle.dap_drive.specs.Laws.{NoCommentIsALine}

pub no_comments : NoCommentIsALine
no_comments = record { not_skipped = λ bytes. refl; no_order = λ bytes. refl }
