-- The recording of the worked examples: `main`, `f` below it, and `main` again, where a run is held.
use Rattle.std.proofs.Common.{[], ◌∷◌, codes, true, false, Some, None, pos}
use Rattle.dap_recording.specs.declared.recording.Recording.{Recording}

abbrev pub three_moments : Recording
three_moments = record {
  exit = pos 0;
  sources = record { name = codes "a.c"; path = Some (codes "/a.c"); text = codes "one\ntwo\nthree\n"; on_disk = false; lines = 3; more = [] } ∷ [];
  moments =
      record { threads = record { id = pos 1; name = codes "main"; frames = record { object = 0; name = codes "main"; source = Some 0; line = 1; more = [] } ∷ []; more = [] } ∷ []; thread = 0; output = codes "go\n"; waits = false; stop = None; frames = record { from = 0; to = 1 }; holders = record { from = 0; to = 2 } }
      ∷ record { threads = record { id = pos 1; name = codes "main"; frames = record { object = 1; name = codes "f"; source = Some 0; line = 3; more = [] } ∷ record { object = 2; name = codes "main"; source = Some 0; line = 1; more = [] } ∷ []; more = [] } ∷ []; thread = 0; output = []; waits = false; stop = None; frames = record { from = 1; to = 3 }; holders = record { from = 2; to = 2 } }
      ∷ record { threads = record { id = pos 1; name = codes "main"; frames = record { object = 3; name = codes "main"; source = Some 0; line = 2; more = [] } ∷ []; more = [] } ∷ []; thread = 0; output = []; waits = true; stop = None; frames = record { from = 3; to = 4 }; holders = record { from = 2; to = 2 } }
      ∷ [];
  scopes = (record { name = codes "Locals"; holder = 1; more = [] } ∷ []) ∷ [] ∷ [] ∷ [] ∷ [];
  variables =
      (record { name = codes "a"; value = codes "7"; holder = None; more = [] } ∷ [])
      ∷ (record { name = codes "x"; value = codes "1"; holder = None; more = [] } ∷ record { name = codes "p"; value = codes "P"; holder = Some 0; more = [] } ∷ [])
      ∷ [];
  untold = [];
}
