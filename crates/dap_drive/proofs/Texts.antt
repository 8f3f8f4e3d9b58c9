-- Names that are text, and names that are none.
use Rattle.std.proofs.Common.{◌≡◌, ℕ, List, Bool, true, false, Err, refl}
use Rattle.std.specs.Prelude.{cond}
use Rattle.std.specs.Str.{IsUtf8, is_utf8}
use Rattle.std.proofs.lemmas.Str.{IsUtf8-from_is_utf8, is_utf8-from_IsUtf8}
use Rattle.dap_command.specs.Command.{command_named}
use Rattle.dap_drive.specs.Script.{known_command, command_in}
use Rattle.dap_drive.specs.declared.script.LineFault.TheVariants.{Script}

chosen : (b : Bool) (name : List ℕ) → b ≡ true → cond b (known_command (command_named name)) (Err Script) ≡ known_command (command_named name)
chosen true name e = refl
chosen false name e = absurd (cc e)

pub of_text : (name : List ℕ) → IsUtf8 name → command_in name ≡ known_command (command_named name)
of_text name text = chosen (is_utf8 name) name (is_utf8-from_IsUtf8 name text)

passed : (b : Bool) (name : List ℕ) → (b ≡ true → ⊥) → cond b (known_command (command_named name)) (Err Script) ≡ Err Script
passed true name wrong = absurd (wrong refl)
passed false name wrong = refl

pub of_no_text : (name : List ℕ) → ¬ (IsUtf8 name) → command_in name ≡ Err Script
of_no_text name none = passed (is_utf8 name) name (λ yes. none (IsUtf8-from_is_utf8 name yes))
