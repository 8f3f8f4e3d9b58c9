-- Worked examples of numbers in and out of their ranges, each shown by computation.
use Rattle.std.proofs.Common.{◌≡◌, codes, Float, Some, None, pos, negsuc, refl}
use Rattle.serde_json.specs.Data.{number, unsigned, negative, float, string}
use Rattle.dap_json.specs.Numbers.{int_of, number_of, seq_of}

greatest_number : (number_of (number (unsigned 2147483647)) ≡ Some 2147483647) × (number_of (number (unsigned 2147483648)) ≡ None)
greatest_number = (refl, refl)

least_number : (number_of (number (unsigned 0)) ≡ Some 0) × (number_of (number (negative (negsuc 0))) ≡ None)
least_number = (refl, refl)

greatest_int : (int_of (number (unsigned 9007199254740991)) ≡ Some (pos 9007199254740991)) × (int_of (number (unsigned 9007199254740992)) ≡ None)
greatest_int = (refl, refl)

-- -9007199254740991, and one less
least_int : (int_of (number (negative (negsuc 9007199254740990))) ≡ Some (negsuc 9007199254740990)) × (int_of (number (negative (negsuc 9007199254740991))) ≡ None)
least_int = (refl, refl)

greatest_seq : (seq_of (number (unsigned 9007199254740991)) ≡ Some 9007199254740991) × (seq_of (number (unsigned 9007199254740992)) ≡ None)
greatest_seq = (refl, refl)

-- a float is no whole number, also one without a fraction
floats : (x : Float) → (number_of (number (float x)) ≡ None) × (int_of (number (float x)) ≡ None) × (seq_of (number (float x)) ≡ None)
floats x = (refl, refl, refl)

number_in_quotes : number_of (string (codes "1")) ≡ None
number_in_quotes = refl
