-- Worked examples of the names of keys, each shown by computation.
use Rattle.std.proofs.Common.{◌≡◌, [], ◌∷◌, codes, bytes_eq, false, refl}
use Rattle.dap_command.specs.Key.{text_of}
use Rattle.dap_command.specs.declared.key.Key.TheVariants.{Arguments, AdapterId, LinesStartAt1, RequestId, Source, Breakpoints, Lines, Line, ThreadId, Start, StartFrame, StartModule, SourceReference, Path}

-- its bytes are those of the characters
bytes_of_line : text_of Line ≡ 108 ∷ 105 ∷ 110 ∷ 101 ∷ []
bytes_of_line = refl

-- two words are run together, the second with a capital
two_words : text_of ThreadId ≡ codes "threadId"
two_words = refl

-- but the id of an adapter has two capitals
both_capitals : text_of AdapterId ≡ codes "adapterID"
both_capitals = refl

with_a_digit : text_of LinesStartAt1 ≡ codes "linesStartAt1"
with_a_digit = refl

of_a_request : text_of RequestId ≡ codes "requestId"
of_a_request = refl

the_whole : text_of Arguments ≡ codes "arguments"
the_whole = refl

inside_a_source : (text_of Path ≡ codes "path") × (text_of SourceReference ≡ codes "sourceReference")
inside_a_source = (refl, refl)

-- a letter's case counts
case_counts : bytes_eq (text_of ThreadId) (codes "threadID") ≡ false
case_counts = refl

line_is_not_lines : bytes_eq (text_of Line) (text_of Lines) ≡ false
line_is_not_lines = refl

source_is_not_its_reference : bytes_eq (text_of Source) (text_of SourceReference) ≡ false
source_is_not_its_reference = refl

three_starts : (bytes_eq (text_of Start) (text_of StartFrame) ≡ false) × (bytes_eq (text_of Start) (text_of StartModule) ≡ false) × (bytes_eq (text_of StartFrame) (text_of StartModule) ≡ false)
three_starts = (refl, refl, refl)

-- the key has the plural, and each element is one breakpoint
breakpoints_in_the_plural : text_of Breakpoints ≡ codes "breakpoints"
breakpoints_in_the_plural = refl
