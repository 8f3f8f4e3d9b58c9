-- Which JSON data a Rust value can hold.
-- Overview, "Base Protocol": the content part of a message is in UTF-8, and so are its texts. The ranges of numbers, the order of keys and that no key stands twice are this profile's choice, where RFC 8259 leaves one.
use Rattle.std.specs.Prelude.{◌≡◌, ℕ, ◌^◌, ◌<◌, pos, negsuc, List, IsUtf8, true, ⊤}
use Rattle.std.specs.declared.cmp.Ordering.TheVariants.{Less}
use Rattle.std.specs.Ordering.{nat_cmp}
use Rattle.std.specs.Cmp.Lexicographic.{slice_cmp}
use Rattle.std.specs.Float.{float_is_finite}
use Rattle.serde_json.specs.Data.{Num, unsigned, negative, float, Data, null, boolean, number, string, array, object, Items, no_items, item, Members, no_members, member, put}

-- an integer of 64 bits, with a sign only below zero, or a finite float
abbrev pub IsSoundNumber : Num → Type 0
IsSoundNumber (unsigned n) = n < 2 ^ 64
IsSoundNumber (negative (pos n)) = ⊥
IsSoundNumber (negative (negsuc n)) = n < 2 ^ 63
IsSoundNumber (float x) = float_is_finite x ≡ true

-- the key stands before each of these in byte order
abbrev pub IsBefore : List ℕ → Members → Type 0
IsBefore key no_members = ⊤
IsBefore key (member k d ms) = (slice_cmp nat_cmp key k ≡ Less) × IsBefore key ms

-- texts are UTF-8, numbers are in range, and an object has its keys in byte order, none of them twice
abbrev mutual
  pub IsSound : Data → Type 0
  IsSound null = ⊤
  IsSound (boolean b) = ⊤
  IsSound (number n) = IsSoundNumber n
  IsSound (string s) = IsUtf8 s
  IsSound (array ds) = AreSound ds
  IsSound (object ms) = HasSound ms

  pub AreSound : Items → Type 0
  AreSound no_items = ⊤
  AreSound (item d ds) = IsSound d × AreSound ds

  pub HasSound : Members → Type 0
  HasSound no_members = ⊤
  HasSound (member k d ms) = IsUtf8 k × IsBefore k ms × IsSound d × HasSound ms

abbrev pub PutIsSound : Type 0
PutIsSound = (key : List ℕ) (d : Data) (ms : Members) → IsUtf8 key → IsSound d → IsSound (object ms) → IsSound (object (put key d ms))
