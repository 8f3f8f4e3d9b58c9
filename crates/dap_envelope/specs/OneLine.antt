-- A canonical text is a line: it has no control character, so no line feed and no carriage return.
-- RFC 8259, "Strings": control characters are escaped. That nothing is written between the parts of a value is this profile's choice.
use Rattle.std.specs.Prelude.{◌≡◌, ℕ, List, Bool, true, nat_le}
use Rattle.std.specs.List.{list_all}
use Rattle.dap_envelope.specs.Canon.{canon}
use Rattle.dap_envelope.specs.declared.message.Message.{Message}

-- no control character
abbrev pub is_printed : ℕ → Bool
is_printed byte = nat_le 32 byte

abbrev pub IsOneLine : List ℕ → Type 0
IsOneLine text = list_all is_printed text ≡ true

abbrev pub CanonIsOneLine : Type 0
CanonIsOneLine = (m : Message) → IsOneLine (canon m)
