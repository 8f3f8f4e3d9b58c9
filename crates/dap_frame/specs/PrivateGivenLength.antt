-- What the fields so far say of the length, as their values: more than one are as good as any two.
use Rattle.std.specs.Prelude.{ℕ, List, [], ◌∷◌, ◌++◌, codes}
use Rattle.dap_frame.specs.declared.header.GivenLength.{GivenLength}
use Rattle.dap_frame.specs.declared.header.GivenLength.TheVariants.{Nothing, One, Several}

abbrev pub given_lists : GivenLength → List (List ℕ)
given_lists Nothing = []
given_lists (One digits) = digits.now ∷ []
given_lists Several = [] ∷ [] ∷ []

abbrev pub once_more : List (List ℕ) → List ℕ → List (List ℕ)
once_more [] digits = digits ∷ []
once_more (d ∷ ds) digits = [] ∷ [] ∷ []

-- a block with the one field Content-Length, a blank before its digits
abbrev pub usual_block : List ℕ → List ℕ
usual_block digits = codes "Content-Length: " ++ digits ++ codes "\r\n\r\n"
