use Rattle.std.proofs.Common.{◌≡◌, ◌++◌, ℕ, List, codes, append_assoc, refl}
use Rattle.dap_words.proofs.options.text_of.Goals as goal

-- the parts of the text, joined from the left and from the right
parts_joined : (meaning least greatest usual : List ℕ)
    → meaning ++ codes ", " ++ least ++ codes " to " ++ greatest ++ codes " [default: " ++ usual ++ codes "]"
    ≡ meaning ++ (codes ", " ++ (least ++ (codes " to " ++ (greatest ++ (codes " [default: " ++ (usual ++ codes "]"))))))
parts_joined meaning least greatest usual = simp append_assoc refl

pub returns : goal.returns
returns c = rw (← c.meaning_of-meaning.ensures, ← c.least-least.ensures, ← c.greatest-greatest.ensures, ← c.usual_value_of-default.ensures, parts_joined) c.format.ensures.ok
