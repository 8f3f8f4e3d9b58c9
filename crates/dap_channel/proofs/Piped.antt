-- What the calls of a pipe do to the bytes that its reader and its writer know, and those of an input.
use Rattle.std.proofs.Common.{ℕ, List, [], ◌∷◌, Option, sym, subst}
use Rattle.std.proofs.KnownBytes.{Appends-nil, Appends-trans, Appends-kept, Consumes-nil, Consumes-trans, Consumes-kept}
use Rattle.std.specs.Io.KnownBytes.{Appends, Consumes, IsAtEnd}
use Rattle.dap_channel.specs.Channel.{IoEvent, Gave, ReadFailed, Took, WriteFailed, Flushed, FlushFailed, Ran, bytes_read, bytes_written, HasEnded, Pipes, Inputs}

module _ {C : Type 0} (left held : C → Option (List ℕ)) where
  abbrev pub piped : C → IoEvent → C → Type 0
  piped p e q = Pipes (left p) (held p) e (left q) (held q)

  pub consumed : (c d : C) (log : List IoEvent) → Ran piped c log d → Consumes (left c) (left d) (bytes_read log)
  consumed c d [] r = subst (λ x. Consumes (left c) (left x) []) (sym r) (Consumes-nil (left c))
  consumed c d (Gave room bytes ∷ log) r = Consumes-trans (left c) (left r.0) (left d) (bytes_read log) bytes (consumed c r.0 log r.1) r.2.0
  consumed c d (ReadFailed ∷ log) r = Consumes-kept (left c) (left r.0) (left d) (bytes_read log) (consumed c r.0 log r.1) r.2.0
  consumed c d (Took bytes rest ∷ log) r = subst (λ x. Consumes (left c) x (bytes_read log)) (sym r.2.1) (consumed c r.0 log r.1)
  consumed c d (WriteFailed ∷ log) r = subst (λ x. Consumes (left c) x (bytes_read log)) (sym r.2.1) (consumed c r.0 log r.1)
  consumed c d (Flushed ∷ log) r = subst (λ x. Consumes (left c) x (bytes_read log)) (sym r.2.1) (consumed c r.0 log r.1)
  consumed c d (FlushFailed ∷ log) r = subst (λ x. Consumes (left c) x (bytes_read log)) (sym r.2.1) (consumed c r.0 log r.1)

  pub appended : (c d : C) (log : List IoEvent) → Ran piped c log d → Appends (held c) (held d) (bytes_written log)
  appended c d [] r = subst (λ x. Appends (held c) (held x) []) (sym r) (Appends-nil (held c))
  appended c d (Gave room bytes ∷ log) r = subst (λ x. Appends (held c) x (bytes_written log)) (sym r.2.2) (appended c r.0 log r.1)
  appended c d (ReadFailed ∷ log) r = subst (λ x. Appends (held c) x (bytes_written log)) (sym r.2.1) (appended c r.0 log r.1)
  appended c d (Took bytes rest ∷ log) r = Appends-trans (held c) (held r.0) (held d) (bytes_written log) bytes (appended c r.0 log r.1) r.2.0
  appended c d (WriteFailed ∷ log) r = Appends-kept (held c) (held r.0) (held d) (bytes_written log) (appended c r.0 log r.1) r.2.0
  appended c d (Flushed ∷ log) r = Appends-kept (held c) (held r.0) (held d) (bytes_written log) (appended c r.0 log r.1) r.2.0
  appended c d (FlushFailed ∷ log) r = Appends-kept (held c) (held r.0) (held d) (bytes_written log) (appended c r.0 log r.1) r.2.0

  pub ended_there : (c d : C) (log : List IoEvent) → Ran piped c log d → HasEnded log → IsAtEnd (left d)
  ended_there c d [] r h = absurd h
  ended_there c d (Gave room bytes ∷ log) r h = r.2.1 h.1 h.0
  ended_there c d (ReadFailed ∷ log) r h = absurd h
  ended_there c d (Took bytes rest ∷ log) r h = absurd h
  ended_there c d (WriteFailed ∷ log) r h = absurd h
  ended_there c d (Flushed ∷ log) r h = absurd h
  ended_there c d (FlushFailed ∷ log) r h = absurd h

module _ {C : Type 0} (left : C → Option (List ℕ)) where
  abbrev pub input : C → IoEvent → C → Type 0
  input p e q = Inputs (left p) e (left q)

  pub input_consumed : (c d : C) (log : List IoEvent) → Ran input c log d → Consumes (left c) (left d) (bytes_read log)
  input_consumed c d [] r = subst (λ x. Consumes (left c) (left x) []) (sym r) (Consumes-nil (left c))
  input_consumed c d (Gave room bytes ∷ log) r = Consumes-trans (left c) (left r.0) (left d) (bytes_read log) bytes (input_consumed c r.0 log r.1) r.2.0
  input_consumed c d (ReadFailed ∷ log) r = Consumes-kept (left c) (left r.0) (left d) (bytes_read log) (input_consumed c r.0 log r.1) r.2
  input_consumed c d (Took bytes rest ∷ log) r = absurd r.2
  input_consumed c d (WriteFailed ∷ log) r = subst (λ x. Consumes (left c) x (bytes_read log)) (sym r.2) (input_consumed c r.0 log r.1)
  input_consumed c d (Flushed ∷ log) r = absurd r.2
  input_consumed c d (FlushFailed ∷ log) r = subst (λ x. Consumes (left c) x (bytes_read log)) (sym r.2) (input_consumed c r.0 log r.1)

  pub input_ended : (c d : C) (log : List IoEvent) → Ran input c log d → HasEnded log → IsAtEnd (left d)
  input_ended c d [] r h = absurd h
  input_ended c d (Gave room bytes ∷ log) r h = r.2.1 h.1 h.0
  input_ended c d (ReadFailed ∷ log) r h = absurd h
  input_ended c d (Took bytes rest ∷ log) r h = absurd h
  input_ended c d (WriteFailed ∷ log) r h = absurd h
  input_ended c d (Flushed ∷ log) r h = absurd h
  input_ended c d (FlushFailed ∷ log) r h = absurd h
