-- Logs that are put together.
use Rattle.std.proofs.Common.{◌≡◌, ◌+◌, List, [], ◌∷◌, ◌++◌, IsTrue, refl, sym, ap, ◌∙◌, subst, arith}
use Rattle.std.proofs.lemmas.List.{append_assoc, append-nil}
use Rattle.dap_channel.specs.Channel.{IoEvent, Gave, ReadFailed, Took, WriteFailed, Flushed, FlushFailed, Ran, bytes_read, bytes_written, reads, is_flushed, MayGoOn, HasWriteFailed, keeps_log}

pub Ran-append : {C : Type 0} (goes : C → IoEvent → C → Type 0) (c d e : C) (new old : List IoEvent) → Ran goes c old d → Ran goes d new e → Ran goes c (new ++ old) e
Ran-append goes c d e [] old r s = subst (Ran goes c old) (sym s) r
Ran-append goes c d e (x ∷ new) old r s = (s.0, Ran-append goes c d s.0 new old r s.1, s.2)

pub bytes_written-append : (new old : List IoEvent) → bytes_written (new ++ old) ≡ bytes_written old ++ bytes_written new
bytes_written-append [] old = sym (append-nil (bytes_written old))
bytes_written-append (Gave room bytes ∷ new) old = bytes_written-append new old
bytes_written-append (ReadFailed ∷ new) old = bytes_written-append new old
bytes_written-append (Took bytes left ∷ new) old = ap (λ z. z ++ bytes) (bytes_written-append new old) ∙ append_assoc (bytes_written old) (bytes_written new) bytes
bytes_written-append (WriteFailed ∷ new) old = bytes_written-append new old
bytes_written-append (Flushed ∷ new) old = bytes_written-append new old
bytes_written-append (FlushFailed ∷ new) old = bytes_written-append new old

pub reads-append : (new old : List IoEvent) → reads (new ++ old) ≡ reads old + reads new
reads-append [] old = omega arith
reads-append (Gave room bytes ∷ new) old = omega (arith, reads-append new old)
reads-append (ReadFailed ∷ new) old = omega (arith, reads-append new old)
reads-append (Took bytes left ∷ new) old = reads-append new old
reads-append (WriteFailed ∷ new) old = reads-append new old
reads-append (Flushed ∷ new) old = reads-append new old
reads-append (FlushFailed ∷ new) old = reads-append new old

-- calls with no read give no bytes
pub bytes_read-quiet : (new old : List IoEvent) → reads new ≡ 0 → bytes_read (new ++ old) ≡ bytes_read old
bytes_read-quiet [] old none = refl
bytes_read-quiet (Gave room bytes ∷ new) old none = absurd (omega (arith, none))
bytes_read-quiet (ReadFailed ∷ new) old none = absurd (omega (arith, none))
bytes_read-quiet (Took bytes left ∷ new) old none = bytes_read-quiet new old none
bytes_read-quiet (WriteFailed ∷ new) old none = bytes_read-quiet new old none
bytes_read-quiet (Flushed ∷ new) old none = bytes_read-quiet new old none
bytes_read-quiet (FlushFailed ∷ new) old none = bytes_read-quiet new old none

pub flushed-append : (new old : List IoEvent) → IsTrue (is_flushed new) → IsTrue (is_flushed old) → IsTrue (is_flushed (new ++ old))
flushed-append [] old n o = o
flushed-append (Gave room bytes ∷ new) old n o = flushed-append new old n o
flushed-append (ReadFailed ∷ new) old n o = flushed-append new old n o
flushed-append (Took bytes left ∷ new) old n o = n
flushed-append (WriteFailed ∷ new) old n o = n
flushed-append (Flushed ∷ new) old n o = n
flushed-append (FlushFailed ∷ new) old n o = n

pub goes_on-append : (new old : List IoEvent) → MayGoOn new → MayGoOn old → MayGoOn (new ++ old)
goes_on-append [] old n o = o
goes_on-append (Gave room bytes ∷ new) old n o = (n.0, goes_on-append new old n.1 o)
goes_on-append (ReadFailed ∷ new) old n o = absurd n
goes_on-append (Took bytes left ∷ new) old n o = (n.0, goes_on-append new old n.1 o)
goes_on-append (WriteFailed ∷ new) old n o = absurd n
goes_on-append (Flushed ∷ new) old n o = goes_on-append new old n o
goes_on-append (FlushFailed ∷ new) old n o = absurd n

pub failed-append : (new old : List IoEvent) → HasWriteFailed new → HasWriteFailed (new ++ old)
failed-append [] old h = absurd h
failed-append (Gave room bytes ∷ new) old h = absurd h
failed-append (ReadFailed ∷ new) old h = absurd h
failed-append (Took bytes left ∷ new) old h = h
failed-append (WriteFailed ∷ new) old h = h
failed-append (Flushed ∷ new) old h = absurd h
failed-append (FlushFailed ∷ new) old h = h

-- a channel that is its log has gained just the calls that led there
pub log-kept : (c d log : List IoEvent) → Ran keeps_log c log d → d ≡ log ++ c
log-kept c d [] r = r
log-kept c d (e ∷ log) r = r.2 ∙ ap (λ z. e ∷ z) (log-kept c r.0 log r.1)

pub bytes_read-append : (new old : List IoEvent) → bytes_read (new ++ old) ≡ bytes_read old ++ bytes_read new
bytes_read-append [] old = sym (append-nil (bytes_read old))
bytes_read-append (Gave room bytes ∷ new) old = ap (λ z. z ++ bytes) (bytes_read-append new old) ∙ append_assoc (bytes_read old) (bytes_read new) bytes
bytes_read-append (ReadFailed ∷ new) old = bytes_read-append new old
bytes_read-append (Took bytes left ∷ new) old = bytes_read-append new old
bytes_read-append (WriteFailed ∷ new) old = bytes_read-append new old
bytes_read-append (Flushed ∷ new) old = bytes_read-append new old
bytes_read-append (FlushFailed ∷ new) old = bytes_read-append new old
