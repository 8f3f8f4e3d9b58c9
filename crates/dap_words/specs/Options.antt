-- The options that give numbers, and what a parse of the command line found of them. All are this profile's choice.
use Rattle.std.specs.Prelude.{◌≡◌, ℕ, ◌^◌, Bool, ◌&&◌, true, false, nat_lt, List, ◌++◌, codes, decimal, Option, Some, None, unwrap_or, option_and_then, if◌then◌else◌, map, String, string_bytes, Vec}
use Rattle.std.specs.Str.Parse.{digits_value, without_leading_plus}
use Rattle.clap.specs.ValueTests.{is_numeral}
use Rattle.clap.specs.Words.{found_of, one_text}
use Rattle.clap.specs.declared.parser.matches.ArgMatches.{ArgMatches}
use Rattle.dap_frame.specs.Settings.{Settings, settings, usual_settings, limits_in_order, setting_of, least_of, greatest_of}
use Rattle.dap_frame.specs.declared.limits.LimitFault.{LimitFault}
use Rattle.dap_frame.specs.declared.limits.LimitFault.TheVariants.{Header, Body, Requests, References, Breakpoints, Seq, Reference}

-- ---- the options that set limits

abbrev pub option_name : LimitFault → List ℕ
option_name Header = codes "max-header"
option_name Body = codes "max-body"
option_name Requests = codes "max-requests"
option_name References = codes "max-references"
option_name Breakpoints = codes "max-breakpoints"
option_name Seq = codes "max-seq"
option_name Reference = codes "max-reference"

abbrev pub option_meaning : LimitFault → List ℕ
option_meaning Header = codes "Greatest length of a header block"
option_meaning Body = codes "Greatest length of a body"
option_meaning Requests = codes "Requests kept unanswered at once"
option_meaning References = codes "Frames and variables referred to at once"
option_meaning Breakpoints = codes "Breakpoints set at once"
option_meaning Seq = codes "Greatest sequence number given"
option_meaning Reference = codes "Greatest number of a reference"

abbrev pub usual_value : LimitFault → ℕ
usual_value limit = setting_of limit usual_settings

-- what the help says of the option
abbrev pub text_of_option : LimitFault → List ℕ
text_of_option limit = option_meaning limit ++ codes ", " ++ decimal (least_of limit) ++ codes " to " ++ decimal (greatest_of limit) ++ codes " [default: " ++ decimal (usual_value limit) ++ codes "]"

-- one for each option, in order
abbrev pub AreOptionTexts : {A B : Type 0} → Vec (String A) B → Type 0
AreOptionTexts texts = map string_bytes texts.items ≡ map text_of_option limits_in_order

-- ---- the option that bounds a line of a host: a line has room for a message of a body of that size, and for the mark before it

abbrev pub least_line : ℕ
least_line = 1026

abbrev pub greatest_line : ℕ
greatest_line = 1073741826

abbrev pub usual_line : ℕ
usual_line = 16777218

-- ---- what a parse found

-- the number that a text writes in decimal digits, where 64 bits hold it
abbrev pub number_of_text : List ℕ → Option ℕ
number_of_text text = let digits = without_leading_plus text in
    if is_numeral digits && nat_lt (digits_value 10 digits) (2 ^ 64) then Some (digits_value 10 digits) else None

-- the number that the option of this name gives, else its usual one
abbrev pub number_given : ArgMatches → List ℕ → ℕ → ℕ
number_given matches name usual = unwrap_or (option_and_then number_of_text (one_text (found_of matches) name)) usual

abbrev pub longest_line_given : ArgMatches → ℕ
longest_line_given matches = number_given matches (codes "max-line") usual_line

abbrev pub limit_given : ArgMatches → LimitFault → ℕ
limit_given matches limit = number_given matches (option_name limit) (usual_value limit)

-- each limit by the option of its own name
abbrev pub settings_given : ArgMatches → Settings
settings_given matches = let given = limit_given matches in
    settings (given Header) (given Body) (given Requests) (given References) (given Breakpoints) (given Seq) (given Reference)

-- the answer is that of the flag of this name, which is off where nothing was found of it
pub record IsFlagGiven (matches : ArgMatches) (name : List ℕ) (answer : Bool) : Type 0 where
  pub off : one_text (found_of matches) name ≡ None → answer ≡ false
  pub yes : one_text (found_of matches) name ≡ Some (codes "true") → answer ≡ true
  pub no : one_text (found_of matches) name ≡ Some (codes "false") → answer ≡ false
