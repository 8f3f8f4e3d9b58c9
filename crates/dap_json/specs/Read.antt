-- From bytes to JSON, and back.
-- Overview, "Base Protocol": the content part of a message is JSON in UTF-8. JSON is that of RFC 8259, which leaves the limits on nesting and on the range of numbers to whoever reads it.
use Rattle.std.specs.Prelude.{◌≡◌, ◌≤◌, ℕ, List, false, Option, Some, None, if◌then◌else◌}
use Rattle.std.specs.Str.{is_utf8}
use Rattle.serde_json.specs.Data.{Data, depth}
use Rattle.serde_json.specs.Read.{read, max_depth}
use Rattle.serde_json.specs.Written.{has_float, compact_text}
use Rattle.dap_json.specs.Sound.{IsSound}

-- The value that bytes are. They are none if they are not UTF-8, no JSON value, nested deeper than 127, or with a number too great for a float.
unfoldable pub json_of : List ℕ → Option Data
json_of bytes = if is_utf8 bytes then read bytes else None

-- what a Rust value can hold, without floats, is read again from its compact text
abbrev pub IsReadAgain : Type 0
IsReadAgain = (d : Data) → IsSound d → has_float d ≡ false → depth d ≤ max_depth → json_of (compact_text d) ≡ Some d

-- what is read is what a Rust value can hold
abbrev pub IsReadSound : Type 0
IsReadSound = (bytes : List ℕ) (d : Data) → json_of bytes ≡ Some d → IsSound d
