-- Worked examples of what sources and one moment show, each shown by computation.
use Rattle.std.proofs.Common.{◌≡◌, ℕ, List, [], ◌∷◌, codes, true, false, Some, None, pos, refl, Bool, map}
use Rattle.dap_command.specs.declared.source_key.SourceKey.TheVariants.{Path, Reference}
use Rattle.dap_recording.specs.Recording.{is_moment}
use Rattle.dap_recording.specs.Snapshot.{MomentAlone, frames_in, scopes_alone, children_alone, is_among, is_in}
use Rattle.dap_recording.specs.Sources.{text_at, lines_verified}
use Rattle.dap_recording.specs.declared.recording.RecordedSource.{RecordedSource}
use Rattle.dap_debuggee.specs.Shown.{as_asked}
use Rattle.dap_debuggee.specs.declared.answers.Placement.{Placement}

-- ---- two sources of one path

abbrev source : List ℕ → ℕ → RecordedSource
source text lines = record { name = codes "a"; path = Some (codes "/a"); text = text; on_disk = false; lines = lines; more = [] }

abbrev two : List RecordedSource
two = source (codes "x\ny") 2 ∷ source (codes "z") 1 ∷ []

texts : (text_at two 0 ≡ Some (codes "x\ny")) × (text_at two 1 ≡ Some (codes "z")) × (text_at two 2 ≡ None)
texts = (refl, refl, refl)

abbrev is_verified : Placement → Bool
is_verified p = p.verified

as_they_were_asked : lines_verified two (Path (codes "/a")) (2 ∷ 3 ∷ []) ≡ as_asked true 2 ∷ as_asked false 3 ∷ []
as_they_were_asked = refl

-- a path has the lines of its longest source
lines : (map is_verified (lines_verified two (Path (codes "/a")) (0 ∷ 1 ∷ 2 ∷ 3 ∷ [])) ≡ false ∷ true ∷ true ∷ false ∷ []) × (map is_verified (lines_verified two (Path (codes "/b")) (1 ∷ [])) ≡ false ∷ []) × (map is_verified (lines_verified two (Reference 2) (1 ∷ 2 ∷ [])) ≡ true ∷ false ∷ []) × (map is_verified (lines_verified two (Reference 0) (1 ∷ [])) ≡ false ∷ []) × (map is_verified (lines_verified two (Reference 3) (1 ∷ [])) ≡ false ∷ [])
lines = (refl, refl, refl, refl, refl)

-- ---- a moment of one frame, with a scope that came without its variables and one that has x

abbrev alone : MomentAlone
alone = record {
  moment = record {
    threads = record { id = pos 1; name = codes "main"; frames = record { object = 0; name = codes "f"; source = Some 0; line = 1; more = [] } ∷ []; more = [] } ∷ [];
    thread = 0;
    output = [];
    waits = false;
    stop = None;
    frames = record { from = 0; to = 1 };
    holders = record { from = 0; to = 2 };
  };
  scopes = (record { name = codes "Locals"; holder = 0; more = [] } ∷ record { name = codes "Globals"; holder = 1; more = [] } ∷ []) ∷ [];
  variables = [] ∷ (record { name = codes "x"; value = codes "1"; holder = None; more = [] } ∷ []) ∷ [];
  untold = 0 ∷ [];
  sources = 1;
}

frames : (frames_in alone.moment.threads (pos 1) ≡ Some (record { object = 0; name = codes "f"; source = Some 0; line = 1; more = [] } ∷ [])) × (frames_in alone.moment.threads (pos 2) ≡ None) × (is_moment 1 alone.moment ≡ true) × (is_moment 0 alone.moment ≡ false)
frames = (refl, refl, refl, refl)

holders : (scopes_alone alone 1 ≡ None) × (children_alone alone 0 ≡ Some []) × (children_alone alone 1 ≡ Some (record { name = codes "x"; value = codes "1"; holder = None; more = [] } ∷ [])) × (children_alone alone 2 ≡ None) × (is_among 0 alone.untold ≡ true) × (is_among 1 alone.untold ≡ false) × (is_in alone.moment.holders 2 ≡ false)
holders = (refl, refl, refl, refl, refl, refl, refl)
