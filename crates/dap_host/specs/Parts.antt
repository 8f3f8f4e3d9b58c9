-- The parts in which it is told what a host says: output in pieces, and all else in one. This profile's choice.
use Rattle.std.specs.Prelude.{◌≡◌, ℕ, List, [], ◌∷◌, length, map, nat_le, IsTrue}
use Rattle.std.specs.List.{list_all}
use Rattle.dap_debuggee.specs.declared.answers.Category.{Category}
use Rattle.dap_json.specs.declared.more.Member.{Member}
use Rattle.dap_live.specs.declared.mail.Coming.{Coming}
use Rattle.dap_live.specs.declared.mail.Coming.TheVariants.{Output, Stopped, Continued, Exited, Learned, NoValue, Variables, Sources}
use Rattle.dap_recording.specs.Pieces.{pieces, joined_text}

-- the texts that are told of one: its pieces, or itself where it is empty
abbrev pub texts_told : List ℕ → List (List ℕ)
texts_told [] = [] ∷ []
texts_told (c ∷ cs) = pieces ((c ∷ cs) ∷ [])

-- output of these texts, with nothing beside it
abbrev pub outputs_alone : Category → List (List ℕ) → List Coming
outputs_alone category texts = map (λ text. Output category text []) texts

-- what stands beside output stands beside the first of its texts alone
abbrev pub outputs : Category → List Member → List (List ℕ) → List Coming
outputs category more [] = []
outputs category more (text ∷ texts) = Output category text more ∷ outputs_alone category texts

abbrev pub parts_of : Coming → List Coming
parts_of (Output category text more) = outputs category more (texts_told text)
parts_of (Stopped reason thread shows later more) = Stopped reason thread shows later more ∷ []
parts_of (Continued thread) = Continued thread ∷ []
parts_of (Exited code) = Exited code ∷ []
parts_of (Learned text value holder more) = Learned text value holder more ∷ []
parts_of (NoValue text why) = NoValue text why ∷ []
parts_of (Variables holder variables) = Variables holder variables ∷ []
parts_of (Sources more) = Sources more ∷ []

-- The texts that are told of one are the whole of it, and none has more than 128 bytes.
abbrev pub OutputIsToldWhole : Type 0
OutputIsToldWhole = (text : List ℕ) → (joined_text (texts_told text) ≡ text)
    × IsTrue (list_all (λ piece. nat_le (length piece) 128) (texts_told text))
