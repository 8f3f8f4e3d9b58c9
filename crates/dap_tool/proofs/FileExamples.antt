-- Worked examples of the calls that read a file, by computation; the newest call stands first.
use Rattle.std.proofs.Common.{◌≡◌, ℕ, ◌+◌, List, [], ◌∷◌, ◌++◌, length, refl, lit<, lit≤, arith, length-append}
use Rattle.dap_channel.specs.Channel.{IoEvent, Gave, ReadFailed, Took, Flushed, bytes_read, MayGoOn}
use Rattle.dap_tool.specs.Files.{max_file, AreReads, AreDue, IsWhole, HasCause}
use Rattle.dap_tool.specs.declared.files.FileFault.TheVariants.{Read, FileTooLong, OutOfMemory}

-- two reads gave three bytes, and a third found the end
abbrev three_reads : List IoEvent
three_reads = Gave 65536 [] ∷ Gave 65536 (67 ∷ []) ∷ Gave 65536 (65 ∷ 66 ∷ []) ∷ []

-- ---- reads alone, each with room

three_reads_have_room : AreReads three_reads
three_reads_have_room = (lit< tt, lit≤ tt, (lit< tt, lit≤ tt, (lit< tt, lit≤ tt, tt)))

failed_read_is_a_read : AreReads (ReadFailed ∷ [])
failed_read_is_a_read = tt

read_with_no_room : AreReads (Gave 0 [] ∷ []) → ⊥
read_with_no_room h = omega (arith, h.0)

read_with_more_room : AreReads (Gave 65537 (65 ∷ []) ∷ []) → ⊥
read_with_more_room h = omega (arith, h.1)

write_is_no_read : AreReads (Took (65 ∷ []) [] ∷ []) → ⊥
write_is_no_read h = h

flush_is_no_read : AreReads (Flushed ∷ []) → ⊥
flush_is_no_read h = h

-- ---- when a read is due

three_reads_are_due : AreDue three_reads
three_reads_are_due = (((lit< tt, (lit< tt, tt)), lit≤ tt), (((lit< tt, tt), lit≤ tt), ((tt, lit≤ tt), tt)))

read_after_the_end : AreDue (Gave 65536 [] ∷ three_reads) → ⊥
read_after_the_end h = omega (arith, h.0.0.0)

read_after_a_failure : AreDue (Gave 65536 (65 ∷ []) ∷ ReadFailed ∷ []) → ⊥
read_after_a_failure h = h.0.0

-- a file that is too long already is not read on
read_after_too_much : (piece : List ℕ) → length piece ≡ max_file + 1 → AreDue (ReadFailed ∷ Gave 65536 piece ∷ []) → ⊥
read_after_too_much piece is h = omega (arith, is, h.0.1)

-- ---- the bytes that are answered

three_bytes : IsWhole three_reads (65 ∷ 66 ∷ 67 ∷ [])
three_bytes = record { ended = (lit< tt, refl); bytes_are = refl; short = lit≤ tt }

empty_file : IsWhole (Gave 65536 [] ∷ []) []
empty_file = record { ended = (lit< tt, refl); bytes_are = refl; short = lit≤ tt }

-- nothing shows that the input has ended
no_read_at_all : IsWhole [] [] → ⊥
no_read_at_all h = h.ended

failed_read_is_no_end : IsWhole (ReadFailed ∷ Gave 65536 (65 ∷ []) ∷ []) (65 ∷ []) → ⊥
failed_read_is_no_end h = h.ended

-- ---- why a file is not read

failed_read : HasCause (ReadFailed ∷ Gave 65536 (65 ∷ []) ∷ []) Read
failed_read = tt

end_is_no_failed_read : HasCause three_reads Read → ⊥
end_is_no_failed_read h = h

refused_at_once : HasCause [] OutOfMemory
refused_at_once = (tt, lit≤ tt)

failed_read_is_no_want_of_memory : HasCause (ReadFailed ∷ []) OutOfMemory → ⊥
failed_read_is_no_want_of_memory h = h.0

few_bytes_are_not_too_long : HasCause (Gave 65536 (65 ∷ []) ∷ []) FileTooLong → ⊥
few_bytes_are_not_too_long h = omega (arith, h.1)

one_byte_too_many : (log : List IoEvent) → MayGoOn log → length (bytes_read log) ≡ max_file → HasCause (Gave 65536 (65 ∷ []) ∷ log) FileTooLong
one_byte_too_many log goes_on full =
    let all = length-append (bytes_read log) (65 ∷ []) in
    let one : length (bytes_read log ++ 65 ∷ []) ≡ max_file + 1 = omega (arith, all, full) in
    ((lit< tt, goes_on), omega (arith, one), omega (arith, one))
