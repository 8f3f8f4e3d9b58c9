-- Files that are read piece by piece, and what their calls say of bytes.
use Rattle.std.proofs.Common.{◌≡◌, ℕ, ◌+◌, ◌<◌, ◌≤◌, List, [], ◌∷◌, ◌++◌, length, take, Option, Result, Ok, Err, Vec, IfOk, IfErr, sym, ap, ◌∙◌, subst, arith, append-nil, length-append, length-take}
use Rattle.std.specs.Io.KnownBytes.{Consumes, IsAtEnd}
use Rattle.std.specs.declared.alloc.Global.{Global}
use Rattle.dap_channel.specs.Channel.{IoEvent, Gave, ReadFailed, Took, WriteFailed, Flushed, FlushFailed, Ran, bytes_read, MayGoOn, HasReadFailed, Inputs}
use Rattle.dap_channel.specs.Laws.{InputsTellTheirBytes}
use Rattle.dap_tool.specs.Files.{max_file, AreReads, AreDue, ReadsWhole, LeavesFile}
use Rattle.dap_tool.specs.declared.files.FileFault.{FileFault}
use Rattle.dap_tool.specs.declared.files.FileFault.TheVariants.{Read, FileTooLong, OutOfMemory}

-- ---- on the way

module _ {C : Type 0} (goes : C → IoEvent → C → Type 0) (before : C) where
  -- calls that gave these bytes, after which the input may have more
  pub record ReadSoFar (now : C) (bytes : List ℕ) : Type 0 where
    pub log : List IoEvent
    pub ran : Ran goes before log now
    pub are_reads : AreReads log
    pub due : AreDue log
    pub goes_on : MayGoOn log
    pub bytes_are : bytes ≡ bytes_read log
    pub few : length bytes ≤ max_file + 65536

  -- one read more, which gave some bytes
  pub one_more : (now next : C) (bytes : List ℕ) (room n : ℕ) (buffer : List ℕ) → ReadSoFar now bytes → length bytes ≤ max_file → 0 < room → room ≤ 65536 → length buffer ≡ room → 0 < n → n ≤ room
      → goes now (Gave room (take n buffer)) next → ReadSoFar next (bytes ++ take n buffer)
  one_more now next bytes room n buffer so short some small is more within gave =
      let fits : length (bytes_read so.log) ≤ max_file = omega (arith, ap length so.bytes_are, short) in
      let gives : length (take n buffer) ≡ n = omega (arith, length-take n buffer, is, within) in
      record {
        log = Gave room (take n buffer) ∷ so.log;
        ran = (now, so.ran, gave);
        are_reads = (some, small, so.are_reads);
        due = ((so.goes_on, fits), so.due);
        goes_on = (omega (arith, gives, more), so.goes_on);
        bytes_are = ap (λ z. z ++ take n buffer) so.bytes_are;
        few = omega (arith, length-append bytes (take n buffer), gives, within, small, short);
      }

  pub fails : (now next : C) (bytes : List ℕ) → ReadSoFar now bytes → length bytes ≤ max_file → goes now ReadFailed next → ReadsWhole goes before next (Err Read)
  fails now next bytes so short failed =
      let fits : length (bytes_read so.log) ≤ max_file = omega (arith, ap length so.bytes_are, short) in
      record { log = ReadFailed ∷ so.log; ran = (now, so.ran, failed); are_reads = so.are_reads; due = ((so.goes_on, fits), so.due); reason = tt }

  pub ends : (now next : C) (all : Vec ℕ Global) (room : ℕ) (bytes : List ℕ) → ReadSoFar now all.items → length all.items ≤ max_file → 0 < room → room ≤ 65536 → bytes ≡ []
      → goes now (Gave room bytes) next → ReadsWhole goes before next (Ok all)
  ends now next all room bytes so short some small none gave =
      let fits : length (bytes_read so.log) ≤ max_file = omega (arith, ap length so.bytes_are, short) in
      record {
        log = Gave room bytes ∷ so.log;
        ran = (now, so.ran, gave);
        are_reads = (some, small, so.are_reads);
        due = ((so.goes_on, fits), so.due);
        reason = record {
          ended = (some, none);
          bytes_are = so.bytes_are ∙ (sym (append-nil (bytes_read so.log)) ∙ ap (λ z. bytes_read so.log ++ z) (sym none));
          short = short;
        };
      }

  pub no_memory : (now : C) (bytes : List ℕ) → ReadSoFar now bytes → ReadsWhole goes before now (Err OutOfMemory)
  no_memory now bytes so =
      let same : length bytes ≡ length (bytes_read so.log) = ap length so.bytes_are in
      record { log = so.log; ran = so.ran; are_reads = so.are_reads; due = so.due; reason = (so.goes_on, omega (arith, same, so.few)) }

-- ---- the bytes that a reader knows

-- a read that failed was due
failed_short : (log : List IoEvent) → HasReadFailed log → AreDue log → length (bytes_read log) ≤ max_file
failed_short [] failed due = absurd failed
failed_short (Gave room bytes ∷ log) failed due = absurd failed
failed_short (ReadFailed ∷ log) failed due = due.0.1
failed_short (Took bytes left ∷ log) failed due = absurd failed
failed_short (WriteFailed ∷ log) failed due = absurd failed
failed_short (Flushed ∷ log) failed due = absurd failed
failed_short (FlushFailed ∷ log) failed due = absurd failed

module _ {C : Type 0} (left : C → Option (List ℕ)) (law : InputsTellTheirBytes left) where
  abbrev pub input : C → IoEvent → C → Type 0
  input p e q = Inputs (left p) e (left q)

  pub known_read : (c d : C) (result : Result (Vec ℕ Global) FileFault) → ReadsWhole input c d result → IfOk result (λ bytes. Consumes (left c) (left d) bytes.items)
  known_read c d (Ok bytes) h = subst (λ z. Consumes (left c) (left d) z) (sym h.reason.bytes_are) (law.consumed c d h.log h.ran)
  known_read c d (Err fault) h = tt

  pub known_end : (c d : C) (result : Result (Vec ℕ Global) FileFault) → ReadsWhole input c d result → IfOk result (λ bytes. IsAtEnd (left d))
  known_end c d (Ok bytes) h = law.ended c d h.log h.ran h.reason.ended
  known_end c d (Err fault) h = tt

  pub known_short : (c d : C) (result : Result (Vec ℕ Global) FileFault) → ReadsWhole input c d result → IfOk result (λ bytes. length bytes.items ≤ max_file)
  known_short c d (Ok bytes) h = h.reason.short
  known_short c d (Err fault) h = tt

  pub known_fault : (c d : C) (result : Result (Vec ℕ Global) FileFault) → ReadsWhole input c d result → IfErr result (LeavesFile (left c) (left d))
  known_fault c d (Ok bytes) h = tt
  known_fault c d (Err Read) h = (bytes_read h.log, law.consumed c d h.log h.ran, failed_short h.log h.reason h.due)
  known_fault c d (Err FileTooLong) h = (bytes_read h.log, law.consumed c d h.log h.ran, h.reason.1, h.reason.2)
  known_fault c d (Err OutOfMemory) h = (bytes_read h.log, law.consumed c d h.log h.ran, h.reason.1)
