-- What the proofs say of streams of frames within limits.
use Rattle.std.specs.Prelude.{◌≡◌, ℕ, ◌≤◌, List, [], ◌∷◌, ◌++◌, length}
use Rattle.dap_frame.specs.declared.limits.Bounds.{Bounds}
use Rattle.dap_frame.specs.Stream.{Frame, NoFrame, Split}
use Rattle.dap_frame.specs.Written.{frame_of}

pub record StreamLaws (bounds : Bounds) : Type 0 where
  pub one : (s : List ℕ) (xs ys : List (List ℕ)) (rest left : List ℕ) → Split bounds s xs rest → Split bounds s ys left → (xs ≡ ys) × (rest ≡ left)
  pub empty : Split bounds [] [] []
  pub frame : (x : List ℕ) → length x ≤ bounds.body → Frame bounds (frame_of x) x
  pub no_frame : (x front more : List ℕ) (b : ℕ) → length x ≤ bounds.body → frame_of x ≡ front ++ b ∷ more → NoFrame bounds front
