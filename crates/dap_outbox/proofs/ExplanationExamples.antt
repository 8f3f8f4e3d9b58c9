-- Worked examples of how long a failure with why may be, each shown by computation.
use Rattle.std.proofs.Common.{◌≡◌, [], ◌∷◌, true, false, codes, None, refl}
use Rattle.std.specs.Fmt.{digits}
use Rattle.json.specs.Print.{escape_byte}
use Rattle.dap_debuggee.specs.declared.explanation.Explanation.{Explanation}
use Rattle.dap_envelope.specs.Canon.{canon, tree_of, response_members}
use Rattle.dap_tables.specs.declared.entry.Entry.{Entry}
use Rattle.dap_outbox.specs.Outbox.{explanation_fits_as}
use Rattle.dap_outbox.specs.Several.{explanations_fit}

abbrev launch : Entry
launch = record { seq = 4; command = codes "launch"; arguments = None }

abbrev four : Explanation
four = record { text = codes "zzzz"; show_user = false }

-- 168 bytes and the reason, with numbers of one digit
with_one_digit : (explanation_fits_as 1 172 launch four ≡ true) × (explanation_fits_as 1 171 launch four ≡ false)
unfolding canon tree_of response_members escape_byte digits
with_one_digit = (refl, refl)

-- fifteen more with the greatest own number
with_sixteen_digits : (explanation_fits_as 9007199254740991 187 launch four ≡ true) × (explanation_fits_as 9007199254740991 186 launch four ≡ false)
unfolding canon tree_of response_members escape_byte digits
with_sixteen_digits = (refl, refl)

-- a command of one byte more does not fit, and so not both
of_two : explanations_fit 1 172 four (launch ∷ record { seq = 5; command = codes "launchs"; arguments = None } ∷ []) ≡ false
unfolding canon tree_of response_members escape_byte digits
of_two = refl
