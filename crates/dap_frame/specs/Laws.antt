-- Laws of streams and frames.
use Rattle.std.specs.Prelude.{◌≡◌, ℕ, ◌≤◌, List, [], ◌∷◌, ◌++◌, length, All}
use Rattle.std.specs.List.{flat_map}
use Rattle.dap_frame.specs.declared.limits.Bounds.{Bounds}
use Rattle.dap_frame.specs.Stream.{Frame, NoFrame, Split}
use Rattle.dap_frame.specs.Verdict.{verdict, IsUnrefused}
use Rattle.dap_frame.specs.Written.{frame_of}

pub record EachStreamHasOneSplit : Type 0 where
  pub some : (bounds : Bounds) (s : List ℕ) → (xs : List (List ℕ)) × (rest : List ℕ) × Split bounds s xs rest
  pub one : (bounds : Bounds) (s : List ℕ) (xs ys : List (List ℕ)) (rest left : List ℕ) → Split bounds s xs rest → Split bounds s ys left → (xs ≡ ys) × (rest ≡ left)

-- for all bounds that limits can have
pub record WrittenIsReadAgain : Type 0 where
  pub frame : (bounds : Bounds) (x : List ℕ) → 32 ≤ bounds.header → bounds.body ≤ 16777216 → length x ≤ bounds.body → Frame bounds (frame_of x) x
  pub split : (bounds : Bounds) (xs : List (List ℕ)) → 32 ≤ bounds.header → bounds.body ≤ 16777216 → All (λ x. length x ≤ bounds.body) xs → Split bounds (flat_map frame_of xs) xs []

-- each proper prefix of a frame has no frame at its front, and is not refused
pub record FrameHasNoFrameWithin : Type 0 where
  pub no_frame : (bounds : Bounds) (f x p q : List ℕ) (b : ℕ) → Frame bounds f x → f ≡ p ++ b ∷ q → NoFrame bounds p
  pub unrefused : (bounds : Bounds) (f x p q : List ℕ) (b : ℕ) → Frame bounds f x → f ≡ p ++ b ∷ q → IsUnrefused (verdict bounds p)
