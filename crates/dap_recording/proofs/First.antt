-- The first moment of a recording, by itself.
use Rattle.std.proofs.Common.{◌≡◌, ◌<◌, Bool, true, List, [], ◌∷◌, length, Some, slice_index_or, sym, ap, subst, arith}
use Rattle.std.proofs.lemmas.Bool.{and_parts}
use Rattle.std.specs.List.{list_all, slice_get}
use Rattle.dap_recording.specs.Recording.{IsRecording, is_moment}
use Rattle.dap_recording.specs.Snapshot.{IsAlone, alone_in}
use Rattle.dap_recording.specs.declared.recording.Moment.{Moment}
use Rattle.dap_recording.specs.declared.recording.Recording.{Recording}
use Rattle.dap_recording.proofs.ReadSteps.{some_same}

pub first_is : (ms : List Moment) (m : Moment) → 0 < length ms → m ≡ slice_index_or ms 0 m → slice_get ms 0 ≡ Some m
first_is [] m some is = absurd (omega (arith, some))
first_is (n ∷ ms) m some is = ap Some (sym is)

all_first : (p : Moment → Bool) (ms : List Moment) (m : Moment) → list_all p ms ≡ true → slice_get ms 0 ≡ Some m → p m ≡ true
all_first p [] m all is = absurd (cc is)
all_first p (n ∷ ms) m all is = subst (λ k. p k ≡ true) (some_same n m is) (and_parts (p n) (list_all p ms) all).0

pub first_alone : (r : Recording) (m : Moment) → IsRecording r → slice_get r.moments 0 ≡ Some m → IsAlone (alone_in r m)
first_alone r m good is = record {
  moment = all_first (is_moment (length r.sources)) r.moments m good.moments is;
  holders = good.holders;
  spans = good.spans 0 m is;
}
