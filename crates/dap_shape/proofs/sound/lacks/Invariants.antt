use Rattle.std.proofs.Common.{◌≡◌, drop}
use Rattle.std.specs.Prelude.{map}
use Rattle.dap_shape.specs.PrivateSound.{lacks_one}
use Rattle.dap_shape.specs.Seen.{row_seen}
use Rattle.dap_shape.proofs.sound.lacks.Given as goal

-- the rows that are left decide
abbrev pub invariant-loop-place : goal.invariant-loop-place
invariant-loop-place l = lacks_one (map row_seen (drop l.place l.rows)) (drop l.place l.seen) ≡ lacks_one (map row_seen l.rows) l.seen
