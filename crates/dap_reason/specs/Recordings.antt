-- Why a recording is refused, in words. They are this profile's choice.
use Rattle.std.specs.Prelude.{ℕ, ◌==◌, ℤ, List, [], ◌∷◌, ◌++◌, flat_map, codes, decimal, Option, Some, None, if◌then◌else◌}
use Rattle.std.specs.Fmt.{signed_decimal}
use Rattle.dap_json.specs.Read.{json_of}
use Rattle.dap_explain.specs.Sentences.{joined_text}
use Rattle.dap_recording.specs.RecordingKey.{name_of}
use Rattle.dap_recording.specs.Refusals.{refusal_of}
use Rattle.dap_recording.specs.declared.reading.RecordingFault.{RecordingFault}
use Rattle.dap_recording.specs.declared.reading.RecordingFault.TheVariants as recording
use Rattle.dap_recording.specs.declared.place.BadCause.{BadCause}
use Rattle.dap_recording.specs.declared.place.BadCause.TheVariants.{Absent, OtherKind, NoElements, TooMany, TooLong, OutOfRange, NotPlain, NoSource, PastLines, DuplicateId, NoThread}
use Rattle.dap_recording.specs.declared.place.BadPlace.{BadPlace}
use Rattle.dap_recording.specs.declared.place.Element.{Element}
use Rattle.dap_recording.specs.declared.place.JsonKind.{JsonKind}
use Rattle.dap_recording.specs.declared.place.JsonKind.TheVariants as kind
use Rattle.dap_recording.specs.declared.place.RecordingRefusal.{RecordingRefusal}
use Rattle.dap_recording.specs.declared.place.RecordingRefusal.TheVariants as refusal

abbrev pub words_of_kind : JsonKind → List ℕ
words_of_kind kind.Null = codes "null"
words_of_kind kind.Boolean = codes "a boolean"
words_of_kind kind.Number = codes "a number"
words_of_kind kind.Text = codes "a string"
words_of_kind kind.Array = codes "an array"
words_of_kind kind.Object = codes "an object"

abbrev pub words_of_lines : ℕ → List ℕ
words_of_lines lines = if lines == 1 then codes "1 line" else decimal lines ++ codes " lines"

-- where the number is a whole one, which
abbrev pub words_of_number : Option ℤ → List ℕ
words_of_number None = codes "a number, not a whole one"
words_of_number (Some n) = signed_decimal n ++ codes ", not"

abbrev pub words_of_cause : BadCause → List ℕ
words_of_cause Absent = codes "absent"
words_of_cause (OtherKind found due) = joined_text (words_of_kind found ∷ codes ", not " ∷ words_of_kind due ∷ [])
words_of_cause NoElements = codes "an empty array"
words_of_cause (TooMany count) = joined_text (decimal count ∷ codes " elements, more than 65536" ∷ [])
words_of_cause (TooLong bytes most) = joined_text (codes "a text of " ∷ decimal bytes ∷ codes " bytes, not at most " ∷ decimal most ∷ [])
words_of_cause (OutOfRange number least greatest) = joined_text (words_of_number number ∷ codes " from " ∷ signed_decimal least ∷ codes " to " ∷ signed_decimal greatest ∷ [])
words_of_cause NotPlain = codes "an object with a float, or nested more than 100 deep"
words_of_cause (NoSource source count) = joined_text (decimal source ∷ codes " is not below " ∷ decimal count ∷ codes ", the number of sources" ∷ [])
words_of_cause (PastLines line lines) = decimal line ++ codes " is past the text's " ++ words_of_lines lines
words_of_cause (DuplicateId id) = joined_text (signed_decimal id ∷ codes " is the id of an earlier thread" ∷ [])
words_of_cause (NoThread id) = joined_text (signed_decimal id ∷ codes " is no thread of the moment" ∷ [])

abbrev pub text_of_element : Element → List ℕ
text_of_element e = joined_text (name_of e.array ∷ codes "[" ∷ decimal e.index ∷ codes "]." ∷ [])

abbrev pub text_of_index : Option ℕ → List ℕ
text_of_index None = []
text_of_index (Some n) = joined_text (codes "[" ∷ decimal n ∷ codes "]" ∷ [])

abbrev pub text_of_place : BadPlace → List ℕ
text_of_place place = flat_map text_of_element place.within ++ name_of place.key ++ text_of_index place.element

abbrev pub words_of_refusal_found : Option RecordingRefusal → List ℕ
words_of_refusal_found None = codes "a recording"
words_of_refusal_found (Some refusal.NotJson) = codes "no JSON"
words_of_refusal_found (Some (refusal.NotObject found)) = words_of_kind found ++ codes ", not an object"
words_of_refusal_found (Some (refusal.BadKey place)) = text_of_place place ++ codes ": " ++ words_of_cause place.cause

-- of the bytes of a file
abbrev pub words_of_bytes : List ℕ → List ℕ
words_of_bytes bytes = words_of_refusal_found (refusal_of (json_of bytes))

abbrev pub no_memory : List ℕ
no_memory = codes "memory was refused"

abbrev pub words_of_recording : List ℕ → RecordingFault → List ℕ
words_of_recording bytes recording.OutOfMemory = no_memory
words_of_recording bytes fault = words_of_bytes bytes
