-- What a ring ends as, once what it lent has ended: it stays as it is.
use Rattle.std.specs.Prelude.{◌≡◌, ℕ, ⊤}
use Rattle.std.specs.Borrow.{Fml, MutBor, RattleType, follows_so, u8}
use Rattle.std.specs.declared.alloc.Allocator.{Ghosts}
use mathlib.Core.Option.{none}
use Rattle.circular_buffer.specs.Buffer.{Buffer}
use Rattle.circular_buffer.specs.contracts.heap.HeapCircularBuffer.{the_row}

abbrev pub StaysItems : (A : RattleType) → Ghosts A.Denot → MutBor (Buffer ℕ) → Fml
StaysItems A g f = follows_so (the_row u8 A g) (the_row u8 A g) f.ghost_name none (λ _ _. ⊤) (λ n. n ≡ f.now)
