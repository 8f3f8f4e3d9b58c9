-- Words for the steps that `feed` is made of.
use Rattle.std.specs.Prelude.{◌≡◌, ℕ, ◌≤◌, List, [], ◌∷◌, ◌++◌, length, Some, None, Result}
use Rattle.dap_frame.specs.declared.frames.HeaderEnd.{HeaderEnd}
use Rattle.dap_frame.specs.declared.frames.HeaderEnd.TheVariants.{Open, Whole, TooLong}
use Rattle.dap_frame.specs.declared.Refusal.{Refusal}
use Rattle.dap_frame.specs.declared.limits.Bounds.{Bounds}
use Rattle.dap_frame.specs.declared.stage.Stage.{Stage}
use Rattle.dap_frame.specs.declared.stage.Stage.TheVariants.{Header, Body, Ready, Closed, GivenUp}
use Rattle.dap_frame.specs.Stream.{Frame, FramesThen}
use Rattle.dap_frame.specs.Verdict.{block_end, length_of_block}
use Rattle.dap_frame.specs.Stage.{IsOpen, Announces, Stands}

-- how far a header block has come, where `left` bytes of the piece were not taken
abbrev pub EndsAs : ℕ → List ℕ → ℕ → HeaderEnd → Type 0
EndsAs limit bytes left Open = IsOpen limit bytes × (left ≡ 0)
EndsAs limit bytes left Whole = (block_end bytes ≡ Some (length bytes)) × (length bytes ≤ limit)
EndsAs limit bytes left TooLong = (block_end bytes ≡ None) × (length bytes ≡ limit)

-- s is frames of the bodies xs and then rest: a whole block, and of the body that it announces these bytes
pub record HasBody (bounds : Bounds) (size : ℕ) (held s : List ℕ) (xs : List (List ℕ)) (rest : List ℕ) : Type 0 where
  pub header : List ℕ
  pub spelled : rest ≡ header ++ held
  pub announces : Announces bounds header size
  pub frames : FramesThen bounds xs rest s

-- a whole header block within its limit, these very bytes, judged so
pub record IsBlockOf (bounds : Bounds) (block bytes : List ℕ) (verdict : Result ℕ Refusal) : Type 0 where
  pub is : block ≡ bytes
  pub ends : block_end block ≡ Some (length block)
  pub fits : length block ≤ bounds.header
  pub judged_so : length_of_block bounds.body block ≡ verdict

-- what is shown after the bytes p more
abbrev pub MovesTo : Bounds → Stage → List ℕ → List ℕ → List (List ℕ) → List ℕ → List ℕ → Type 0
MovesTo bounds Ready held s xs rest p = Frame bounds (rest ++ p) held × Stands bounds Ready held (s ++ p) (xs ++ held ∷ []) []
MovesTo bounds Header held s xs rest p = Stands bounds Header held (s ++ p) xs (rest ++ p)
MovesTo bounds (Body n) held s xs rest p = Stands bounds (Body n) held (s ++ p) xs (rest ++ p)
MovesTo bounds (Closed cause) held s xs rest p = Stands bounds (Closed cause) held (s ++ p) xs (rest ++ p)
MovesTo bounds GivenUp held s xs rest p = Stands bounds GivenUp held (s ++ p) xs (rest ++ p)
