-- Worked examples of what options give, each shown by computation.
use Rattle.std.proofs.Common.{◌≡◌, [], codes, refl, Some, None, length}
use Rattle.dap_frame.specs.declared.limits.LimitFault.TheVariants.{Header, Seq}
use Rattle.std.specs.Fmt.{digits as decimal_digits}
use Rattle.dap_words.specs.Options.{number_of_text, text_of_option}
use Rattle.dap_words.specs.CommandLine.{show_rules, host_rules, limit_rules}

digits : number_of_text (codes "8192") ≡ Some 8192
digits = refl

plus : number_of_text (codes "+7") ≡ Some 7
plus = refl

leading_zeros : number_of_text (codes "007") ≡ Some 7
leading_zeros = refl

minus : number_of_text (codes "-7") ≡ None
minus = refl

no_digit : number_of_text (codes "7k") ≡ None
no_digit = refl

nothing : number_of_text [] ≡ None
nothing = refl

greatest : number_of_text (codes "18446744073709551615") ≡ Some 18446744073709551615
greatest = refl

too_great : number_of_text (codes "18446744073709551616") ≡ None
too_great = refl

of_a_header : text_of_option Header ≡ codes "Greatest length of a header block, 32 to 65536 [default: 8192]"
unfolding decimal_digits
of_a_header = refl

of_numbers : text_of_option Seq ≡ codes "Greatest sequence number given, 1 to 9007199254740991 [default: 9007199254740991]"
unfolding decimal_digits
of_numbers = refl

all_limits : length limit_rules ≡ 7
all_limits = refl

arguments_of_show : length show_rules ≡ 7
arguments_of_show = refl

arguments_of_host : length host_rules ≡ 10
arguments_of_host = refl
