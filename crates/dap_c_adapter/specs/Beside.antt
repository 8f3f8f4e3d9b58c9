-- What a host says beside a variable or a value, as a caller in C says it.
use Rattle.std.specs.Prelude.{ℕ, List, [], ◌∷◌, Option, None, option_and_then, IsUtf8}
use Rattle.std.specs.Option.{IsSome}
use Rattle.dap_json.specs.More.{more_of}
use Rattle.dap_json.specs.Read.{json_of}
use Rattle.dap_json.specs.declared.more.Member.{Member}

-- the members of the JSON object that the bytes are; no bytes say nothing
abbrev pub said_by : List ℕ → Option (List Member)
said_by [] = None
said_by (b ∷ bytes) = option_and_then more_of (json_of (b ∷ bytes))

-- there are no bytes, or they are an object whose members can stand beside others
abbrev pub CanBeSaid : List ℕ → Type 0
CanBeSaid [] = Unit {0}
CanBeSaid (b ∷ bytes) = IsSome (option_and_then more_of (json_of (b ∷ bytes)))

-- two texts, and what is said beside
abbrev pub CanBeTold : List ℕ → List ℕ → List ℕ → Type 0
CanBeTold name value more = IsUtf8 name × IsUtf8 value × CanBeSaid more
