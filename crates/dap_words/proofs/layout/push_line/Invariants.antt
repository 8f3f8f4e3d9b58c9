use Rattle.std.proofs.Common.{◌≡◌, ◌++◌, [], map, string_bytes}
use Rattle.std.specs.List.{join_with_byte}
use Rattle.dap_words.specs.Layout.{words}
use Rattle.dap_words.proofs.layout.push_line.Given as goal

abbrev pub invariant-loop-place : goal.invariant-loop-place
invariant-loop-place l = record {
  words : words (string_bytes l.out) ≡ words (string_bytes l.initial.out ++ join_with_byte 32 (map (λ p. p.1.now) l.yielded));
  start : l.yielded ≡ [] → string_bytes l.out ≡ string_bytes l.initial.out;
}
