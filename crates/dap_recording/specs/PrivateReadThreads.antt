-- The code's words, as it reads the threads of a moment. Only private clauses and proofs cite this file.
use Rattle.std.specs.Prelude.{◌≡◌, ℤ, List, is_some}
use Rattle.std.specs.BTreeSet.{BTreeSet, contains}
use Rattle.std.specs.Ordering.{int_cmp}
use Rattle.dap_recording.specs.Reading.{place_of}
use Rattle.dap_recording.specs.declared.recording.RecordedThread.{RecordedThread}

-- the set has the ids of the threads, and no others
abbrev pub HasIds : BTreeSet ℤ → List RecordedThread → Type 0
HasIds ids threads = (id : ℤ) → contains int_cmp ids id ≡ is_some (place_of id threads)
