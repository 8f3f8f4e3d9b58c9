-- The next line of a channel is read until it is whole. That no byte more is read than a read gives is this profile's choice.
use Rattle.std.specs.Prelude.{◌≡◌, ℕ, ◌==◌, Bool, false, List, [], ◌∷◌, ◌++◌}
use Rattle.std.specs.List.{list_any}
use Rattle.dap_channel.specs.Channel.{IoEvent, Ran, bytes_read, bytes_written, reads, MayGoOn}

abbrev pub has_line : List ℕ → Bool
has_line bytes = list_any (λ b. b == 10) bytes

-- each read was made while no line was held, after reads that gave bytes; a log has the newest event first
abbrev pub ReadsInNeed : List ℕ → List IoEvent → Type 0
ReadsInNeed held [] = Unit {0}
ReadsInNeed held (e ∷ log) = (has_line (held ++ bytes_read log) ≡ false) × (MayGoOn log × ReadsInNeed held log)

-- calls that read, and ended so
pub record Fetches {C : Type 0} (goes : C → IoEvent → C → Type 0) (ends : List IoEvent → Type 0) (c : C) (held : List ℕ) (d : C) (now : List ℕ) : Type 0 where
  pub log : List IoEvent
  pub ran : Ran goes c log d
  pub all : now ≡ held ++ bytes_read log
  pub none_written : bytes_written log ≡ []
  pub in_need : ReadsInNeed held log
  pub end : ends log

-- the same, and no more reads may be made, though no line is held
pub record FetchesMost {C : Type 0} (goes : C → IoEvent → C → Type 0) (most : ℕ) (c : C) (held : List ℕ) (d : C) (now : List ℕ) : Type 0 where
  pub fetched : Fetches goes MayGoOn c held d now
  pub all_made : reads fetched.log ≡ most
  pub no_line : has_line now ≡ false
