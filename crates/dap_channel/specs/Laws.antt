-- Laws of logs: what calls come to that are made one after the other.
use Rattle.std.specs.Prelude.{◌≡◌, ◌+◌, ℕ, List, ◌++◌, IsTrue, Option}
use Rattle.std.specs.Io.KnownBytes.{Appends, Consumes, IsAtEnd}
use Rattle.dap_channel.specs.declared.channel.Pipe.{Pipe}
use Rattle.dap_channel.specs.Channel.{IoEvent, Ran, bytes_read, bytes_written, reads, is_flushed, MayGoOn, HasEnded, HasWriteFailed, Pipes, Inputs}

-- calls, and then others
pub record CallsAddUp {C : Type 0} (goes : C → IoEvent → C → Type 0) : Type 0 where
  pub ran : (c d e : C) (new old : List IoEvent) → Ran goes c old d → Ran goes d new e → Ran goes c (new ++ old) e
  pub written : (new old : List IoEvent) → bytes_written (new ++ old) ≡ bytes_written old ++ bytes_written new
  pub read : (new old : List IoEvent) → bytes_read (new ++ old) ≡ bytes_read old ++ bytes_read new
  pub reads_are : (new old : List IoEvent) → reads (new ++ old) ≡ reads old + reads new
  -- calls with no read give no bytes
  pub quiet : (new old : List IoEvent) → reads new ≡ 0 → bytes_read (new ++ old) ≡ bytes_read old
  pub flushed : (new old : List IoEvent) → IsTrue (is_flushed new) → IsTrue (is_flushed old) → IsTrue (is_flushed (new ++ old))
  pub goes_on : (new old : List IoEvent) → MayGoOn new → MayGoOn old → MayGoOn (new ++ old)
  pub failed : (new old : List IoEvent) → HasWriteFailed new → HasWriteFailed (new ++ old)

-- what the calls of a log read and write is what a reader and a writer know of it
pub record PipesTellTheirBytes {P : Type 0} (left held : P → Option (List ℕ)) : Type 0 where
  pub consumed : (c d : P) (log : List IoEvent) → Ran (λ p e q. Pipes (left p) (held p) e (left q) (held q)) c log d → Consumes (left c) (left d) (bytes_read log)
  pub appended : (c d : P) (log : List IoEvent) → Ran (λ p e q. Pipes (left p) (held p) e (left q) (held q)) c log d → Appends (held c) (held d) (bytes_written log)
  -- a reader that had room and gave nothing is at its end
  pub ended : (c d : P) (log : List IoEvent) → Ran (λ p e q. Pipes (left p) (held p) e (left q) (held q)) c log d → HasEnded log → IsAtEnd (left d)

-- of a reader and a writer, by what the one has left, and the other holds
abbrev pub PipeTellsItsBytes : {R W : Type 0} → (R → Option (List ℕ)) → (W → Option (List ℕ)) → Type 0
PipeTellsItsBytes {R} {W} left held = PipesTellTheirBytes (λ (p : Pipe R W). left p.reader) (λ (p : Pipe R W). held p.writer)

-- what the calls of a log read is what a reader knows of it
pub record InputsTellTheirBytes {P : Type 0} (left : P → Option (List ℕ)) : Type 0 where
  pub consumed : (c d : P) (log : List IoEvent) → Ran (λ p e q. Inputs (left p) e (left q)) c log d → Consumes (left c) (left d) (bytes_read log)
  -- a reader that had room and gave nothing is at its end
  pub ended : (c d : P) (log : List IoEvent) → Ran (λ p e q. Inputs (left p) e (left q)) c log d → HasEnded log → IsAtEnd (left d)
