-- What the parser and the writer say of bytes, beside the value that they are.
use Rattle.std.proofs.Common.{◌≡◌, ◌≤◌, ℕ, List, Bool, true, false, cond, Some, None, Vec, Global, Result, Ok, Err, IfOk, refl}
use Rattle.std.proofs.lemmas.Str.{IsUtf8-from_is_utf8, is_utf8-from_IsUtf8}
use Rattle.std.specs.Str.{IsUtf8, is_utf8}
use Rattle.std.specs.declared.alloc.AllocError.{AllocError}
use Rattle.serde_json.specs.Data.{Data, depth}
use Rattle.serde_json.specs.Read.{read, max_depth}
use Rattle.dap_json.specs.Read.{json_of}

pub json_of-read : (bytes : List ℕ) (d : Data) → IsUtf8 bytes → read bytes ≡ Some d → json_of bytes ≡ Some d
unfolding json_of
json_of-read bytes d utf8 is = rw (is_utf8-from_IsUtf8 bytes utf8) is

refused_at : (b : Bool) (bytes : List ℕ) → is_utf8 bytes ≡ b → (IsUtf8 bytes → read bytes ≡ None) → cond b (read bytes) None ≡ None
refused_at true bytes is refused = refused (IsUtf8-from_is_utf8 bytes is)
refused_at false bytes is refused = refl

pub json_of-refused : (bytes : List ℕ) → (IsUtf8 bytes → read bytes ≡ None) → json_of bytes ≡ None
unfolding json_of
json_of-refused bytes refused = refused_at (is_utf8 bytes) bytes refl refused

pub json_of-written : (result : Result (Vec ℕ Global) AllocError) (d : Data) → IfOk result (λ b. IsUtf8 b.items) → IfOk result (λ b. depth d ≤ max_depth → read b.items ≡ Some d)
    → IfOk result (λ b. depth d ≤ max_depth → json_of b.items ≡ Some d)
json_of-written (Ok b) d utf8 back = λ shallow. json_of-read b.items d utf8 (back shallow)
json_of-written (Err e) d utf8 back = tt
