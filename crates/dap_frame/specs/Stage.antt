-- The stages that the code of a reader goes through, and what it holds at each. Callers see them as under way, ready and closed.
use Rattle.std.specs.Prelude.{◌≡◌, ℕ, ◌<◌, ◌≤◌, List, [], ◌++◌, length, Some, None, Ok}
use Rattle.dap_frame.specs.declared.limits.Bounds.{Bounds}
use Rattle.dap_frame.specs.declared.stage.Stage.{Stage}
use Rattle.dap_frame.specs.declared.stage.Stage.TheVariants.{Header, Body, Ready, Closed, GivenUp}
use Rattle.dap_frame.specs.Stream.{Split}
use Rattle.dap_frame.specs.Verdict.{block_end, length_of_block, verdict, Refused as Refuses}

abbrev pub IsGathering : Stage → Type 0
IsGathering Header = Unit {0}
IsGathering (Body n) = Unit {0}
IsGathering Ready = ⊥
IsGathering (Closed cause) = ⊥
IsGathering GivenUp = ⊥

abbrev pub IsNotClosed : Stage → Type 0
IsNotClosed Header = Unit {0}
IsNotClosed (Body n) = Unit {0}
IsNotClosed Ready = Unit {0}
IsNotClosed (Closed cause) = ⊥
IsNotClosed GivenUp = ⊥

-- no end of the block has come yet, and fewer than `limit` bytes
abbrev pub IsOpen : ℕ → List ℕ → Type 0
IsOpen limit bytes = (block_end bytes ≡ None) × (length bytes < limit)

-- a whole block that announces a body of n bytes
pub record Announces (bounds : Bounds) (b : List ℕ) (n : ℕ) : Type 0 where
  pub ends : block_end b ≡ Some (length b)
  pub fits : length b ≤ bounds.header
  pub judged_so : length_of_block bounds.body b ≡ Ok n

-- what is held at a stage of the rest after whole frames
abbrev pub Shows : Bounds → Stage → List ℕ → List ℕ → Type 0
Shows bounds Header held rest = IsOpen bounds.header rest × (held ≡ rest)
Shows bounds (Body n) held rest = (b : List ℕ) × Announces bounds b n × (rest ≡ b ++ held) × (length held < n)
Shows bounds Ready held rest = rest ≡ []
Shows bounds (Closed refusal) held rest = (held ≡ []) × (verdict bounds rest ≡ Refuses refusal (length rest))
Shows bounds GivenUp held rest = held ≡ []

pub record Stands (bounds : Bounds) (stage : Stage) (held : List ℕ) (s : List ℕ) (xs : List (List ℕ)) (rest : List ℕ) : Type 0 where
  pub split : Split bounds s xs rest
  pub shows : Shows bounds stage held rest

-- what may be held at a stage, whatever came
abbrev pub Holds : Bounds → Stage → List ℕ → Type 0
Holds bounds Header held = IsOpen bounds.header held
Holds bounds (Body n) held = (length held < n) × (n ≤ bounds.body)
Holds bounds Ready held = length held ≤ bounds.body
Holds bounds (Closed cause) held = held ≡ []
Holds bounds GivenUp held = held ≡ []

pub record IsSound (bounds : Bounds) (stage : Stage) (held : List ℕ) : Type 0 where
  pub header_some : 0 < bounds.header
  pub body_small : bounds.body ≤ 16777216
  pub holds : Holds bounds stage held
