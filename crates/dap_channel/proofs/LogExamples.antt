-- Worked examples of logs, by computation; the newest call stands first.
use Rattle.std.proofs.Common.{◌≡◌, List, [], ◌∷◌, Some, true, false, refl, lit<, arith}
use Rattle.dap_channel.specs.Channel.{IoEvent, Gave, ReadFailed, Took, WriteFailed, Flushed, FlushFailed, bytes_read, bytes_written, reads, is_flushed, MayGoOn, HasEnded, HasReadFailed, HasWriteFailed, Pipes, Inputs}

-- a read gave two bytes, a write took one, which was flushed, and a read found the end
abbrev a_log : List IoEvent
a_log = Gave 8 [] ∷ Flushed ∷ Took (67 ∷ []) [] ∷ Gave 8 (65 ∷ 66 ∷ []) ∷ []

what_came_and_went : (bytes_read a_log ≡ 65 ∷ 66 ∷ []) × (bytes_written a_log ≡ 67 ∷ []) × (reads a_log ≡ 2) × (is_flushed a_log ≡ true)
what_came_and_went = (refl, refl, refl, refl)

-- the newest bytes come last
two_reads : bytes_read (Gave 1 (66 ∷ []) ∷ Gave 1 (65 ∷ []) ∷ []) ≡ 65 ∷ 66 ∷ []
two_reads = refl

failed_reads_count : reads (ReadFailed ∷ a_log) ≡ 3
failed_reads_count = refl

written_and_not_flushed : is_flushed (Took (67 ∷ []) [] ∷ Flushed ∷ []) ≡ false
written_and_not_flushed = refl

flush_that_failed : is_flushed (FlushFailed ∷ Took (67 ∷ []) [] ∷ []) ≡ false
flush_that_failed = refl

some_of_a_write : MayGoOn (Took (67 ∷ []) (68 ∷ []) ∷ Gave 8 (65 ∷ []) ∷ [])
some_of_a_write = (lit< tt, (lit< tt, tt))

nothing_after_the_end : MayGoOn a_log → ⊥
nothing_after_the_end h = omega (arith, h.0)

end_is_found : HasEnded a_log
end_is_found = (lit< tt, refl)

-- a read with no room finds no end
no_room_no_end : HasEnded (Gave 0 [] ∷ []) → ⊥
no_room_no_end h = omega (arith, h.0)

failed_read_is_last : HasReadFailed (ReadFailed ∷ a_log)
failed_read_is_last = tt

write_that_took_nothing : HasWriteFailed (Took [] (67 ∷ []) ∷ [])
write_that_took_nothing = (refl, lit< tt)

-- of three bytes a pipe's read gives the first, and its writer stays
pipe_is_read : Pipes (Some (65 ∷ 66 ∷ 67 ∷ [])) (Some []) (Gave 1 (65 ∷ [])) (Some (66 ∷ 67 ∷ [])) (Some [])
pipe_is_read = (refl, λ none some. cc, refl)

input_is_read : Inputs (Some (65 ∷ 66 ∷ 67 ∷ [])) (Gave 1 (65 ∷ [])) (Some (66 ∷ 67 ∷ []))
input_is_read = (refl, λ none some. cc)

input_is_at_its_end : Inputs (Some []) (Gave 1 []) (Some [])
input_is_at_its_end = (refl, λ none some. refl)

input_takes_nothing : Inputs (Some []) (Took [] []) (Some []) → ⊥
input_takes_nothing h = h

-- a write that fails leaves what is to be read
input_refuses_a_write : Inputs (Some (65 ∷ [])) WriteFailed (Some (65 ∷ []))
input_refuses_a_write = refl
