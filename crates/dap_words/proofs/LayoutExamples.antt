-- Worked examples of the words of a text, each shown by computation.
use Rattle.std.proofs.Common.{◌≡◌, [], ◌∷◌, codes, refl}
use Rattle.dap_words.specs.Layout.{words}

two : words (codes "a bc") ≡ codes "a" ∷ codes "bc" ∷ []
two = refl

on_two_lines : words (codes "a\nbc") ≡ codes "a" ∷ codes "bc" ∷ []
on_two_lines = refl

indented : words (codes "  a\n    bc") ≡ codes "a" ∷ codes "bc" ∷ []
indented = refl

empty_lines : words (codes "a\n\nbc\n") ≡ codes "a" ∷ codes "bc" ∷ []
empty_lines = refl

one : words (codes "abc") ≡ codes "abc" ∷ []
one = refl

joined_are_another : words (codes "abc d") ≡ codes "abc" ∷ codes "d" ∷ []
joined_are_another = refl

no_words : words (codes " \n ") ≡ []
no_words = refl

nothing : words [] ≡ []
nothing = refl

a_tab_is_no_blank : words (codes "a\tb") ≡ codes "a\tb" ∷ []
a_tab_is_no_blank = refl
