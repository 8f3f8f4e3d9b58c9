-- What a writer is given for a row of fields.
use Rattle.std.specs.Prelude.{◌≡◌, ℕ, List, [], ◌∷◌, ◌++◌, Option, Some, None, false, ⊤, IsUtf8, IsTrue}
use Rattle.json.specs.Token.{Token, key}
use Rattle.json.specs.Tree.{json_tokens}
use Rattle.serde_json.specs.Data.{Data}
use Rattle.serde_json.specs.Written.{outline, members_have_float}
use Rattle.dap_json.specs.Sound.{IsSound}
use Rattle.dap_json.specs.More.{members_of}
use Rattle.dap_json.specs.declared.more.Member.{Member}
use Rattle.dap_body.specs.Beside.{fields_of, before_key, after_key}
use Rattle.dap_body.specs.Row.{Field, Row, whole_if_any, value_data, is_in_order}
use Rattle.dap_body.specs.ResponseBody.{flag_fields}
use Rattle.dap_command.specs.declared.capabilities.Capabilities.{Capabilities}
use Rattle.dap_command.specs.declared.command.Gate.{Gate}

abbrev pub tokens_of : Data → List Token
tokens_of d = json_tokens (outline d)

abbrev pub member_tokens : List ℕ → Option Data → List Token
member_tokens k None = []
member_tokens k (Some d) = key k ∷ tokens_of d

-- the tokens, with those of a field after them
unfoldable pub wrote : Field → List Token → List Token
wrote field ts = ts ++ member_tokens field.0 (value_data field.1)

abbrev pub wrote_row : Row → List Token → List Token
wrote_row [] ts = ts
wrote_row (field ∷ row) ts = wrote_row row (wrote field ts)

-- of members that are written among them
abbrev pub HasNoFloats : List Member → Type 0
HasNoFloats ms = members_have_float (members_of ms) ≡ false

-- the same of a row among members, field by field
unfoldable pub wrote_among : Row → List Member → List Token → List Token
wrote_among [] ms ts = wrote_row (fields_of ms) ts
wrote_among (field ∷ row) ms ts = wrote_among row (after_key field.0 ms) (wrote field (wrote_row (fields_of (before_key field.0 ms)) ts))

-- those before a key were written, and these are those behind it
pub record PutsBefore (key : List ℕ) (ms : List Member) (ts : List Token) (left : List Member) (us : List Token) : Type 0 where
  pub adds : us ≡ wrote_row (fields_of (before_key key ms)) ts
  pub behind : left ≡ after_key key ms

-- the same, and nothing at the key
pub record PutsNone (key : List ℕ) (ms : List Member) (ts : List Token) (left : List Member) (us : List Token) : Type 0 where
  pub before : List Token
  pub puts : PutsBefore key ms ts left before
  pub own : us ≡ wrote (key, whole_if_any None) before

abbrev pub IsSoundIfAny : Option Data → Type 0
IsSoundIfAny None = ⊤
IsSoundIfAny (Some d) = IsSound d

abbrev pub IsSoundField : Field → Type 0
IsSoundField field = IsUtf8 field.0 × IsSoundIfAny (value_data field.1)

abbrev pub HasSoundFields : Row → Type 0
HasSoundFields [] = ⊤
HasSoundFields (field ∷ row) = IsSoundField field × HasSoundFields row

-- the keys in order, and each value sound
abbrev pub IsSoundRow : Row → Type 0
IsSoundRow row = IsTrue (is_in_order row) × HasSoundFields row

-- the flags of these gates were written among the members, and these are those behind them, whatever comes then
abbrev pub PutsFlags : Capabilities → List Gate → List Member → List Token → List Member → List Token → Type 0
PutsFlags c gates ms ts left us = (row : Row) → wrote_among (flag_fields c gates ++ row) ms ts ≡ wrote_among row left us
