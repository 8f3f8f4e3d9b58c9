use Rattle.std.proofs.Common.{◌≡◌, ◌+◌, drop, option_map}
use Rattle.std.specs.Prelude.{map}
use Rattle.dap_shape.specs.PrivateSound.{row_at}
use Rattle.dap_shape.specs.Seen.{row_seen}
use Rattle.dap_shape.proofs.sound.row_of.Given as goal

-- the rows that are left decide
abbrev pub invariant-loop-place : goal.invariant-loop-place
invariant-loop-place l = option_map (λ found. (l.place + found.0, found.1)) (row_at (map row_seen (drop l.place l.rows)) l.key) ≡ row_at (map row_seen l.rows) l.key
