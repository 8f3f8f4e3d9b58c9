-- A script has no comments.
use Rattle.std.specs.Prelude.{◌≡◌, ℕ, List, ◌∷◌, false, Err}
use Rattle.dap_drive.specs.Script.{is_skipped, order_of}
use Rattle.dap_drive.specs.declared.script.LineFault.TheVariants.{Script}

-- a line that begins with `#` is not skipped, and its first word is not known
pub record NoCommentIsALine : Type 0 where
  pub not_skipped : (bytes : List ℕ) → is_skipped (35 ∷ bytes) ≡ false
  pub no_order : (bytes : List ℕ) → order_of (35 ∷ bytes) ≡ Err Script
