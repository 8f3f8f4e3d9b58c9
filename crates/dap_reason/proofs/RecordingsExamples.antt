-- Worked examples of why a recording is refused, in words, each shown by computation.
use Rattle.std.proofs.Common.{◌≡◌, List, ℕ, [], ◌∷◌, codes, Some, None, pos, negsuc, refl}
use Rattle.std.specs.Fmt.{digits}
use Rattle.dap_reason.specs.Recordings.{words_of_refusal_found}
use Rattle.dap_recording.specs.declared.reading.RecordingKey.{RecordingKey}
use Rattle.dap_recording.specs.declared.reading.RecordingKey.TheVariants as key
use Rattle.dap_recording.specs.declared.place.BadCause.{BadCause}
use Rattle.dap_recording.specs.declared.place.BadCause.TheVariants.{Absent, OtherKind, NoElements, TooMany, TooLong, OutOfRange, NoSource, PastLines, DuplicateId, NoThread}
use Rattle.dap_recording.specs.declared.place.Element.{Element}
use Rattle.dap_recording.specs.declared.place.JsonKind.TheVariants as kind
use Rattle.dap_recording.specs.declared.place.RecordingRefusal.{RecordingRefusal}
use Rattle.dap_recording.specs.declared.place.RecordingRefusal.TheVariants.{NotJson, NotObject, BadKey}

abbrev at : RecordingKey → ℕ → Element
at k n = record { array = k; index = n }

abbrev bad : List Element → RecordingKey → BadCause → List ℕ
bad within k cause = words_of_refusal_found (Some (BadKey (record { within = within; key = k; element = None; cause = cause })))

no_json : words_of_refusal_found (Some NotJson) ≡ codes "no JSON"
no_json = refl

an_array : words_of_refusal_found (Some (NotObject kind.Array)) ≡ codes "an array, not an object"
an_array = refl

past_the_text : bad (at key.Moments 3 ∷ at key.Threads 0 ∷ at key.Frames 0 ∷ []) key.Line (PastLines 9 7) ≡ codes "moments[3].threads[0].frames[0].line: 9 is past the text's 7 lines"
unfolding digits
past_the_text = refl

past_one_line : bad [] key.Line (PastLines 2 1) ≡ codes "line: 2 is past the text's 1 line"
unfolding digits
past_one_line = refl

absent : bad (at key.Sources 1 ∷ []) key.Text Absent ≡ codes "sources[1].text: absent"
unfolding digits
absent = refl

other_kind : bad [] key.Exit (OtherKind kind.Text kind.Number) ≡ codes "exit: a string, not a number"
other_kind = refl

out_of_range : bad [] key.Exit (OutOfRange (Some (pos 3000000000)) (negsuc 2147483647) (pos 2147483647)) ≡ codes "exit: 3000000000, not from -2147483648 to 2147483647"
unfolding digits
out_of_range = refl

not_whole : bad [] key.Line (OutOfRange None (pos 1) (pos 2147483647)) ≡ codes "line: a number, not a whole one from 1 to 2147483647"
unfolding digits
not_whole = refl

no_moments : bad [] key.Moments NoElements ≡ codes "moments: an empty array"
no_moments = refl

too_long : bad (at key.Moments 1 ∷ []) key.Stop (TooLong 70 64) ≡ codes "moments[1].stop: a text of 70 bytes, not at most 64"
unfolding digits
too_long = refl

too_many : bad [] key.Sources (TooMany 65537) ≡ codes "sources: 65537 elements, more than 65536"
unfolding digits
too_many = refl

no_source : bad [] key.Source (NoSource 2 2) ≡ codes "source: 2 is not below 2, the number of sources"
unfolding digits
no_source = refl

ids : (bad [] key.Id (DuplicateId (negsuc 6)) ≡ codes "id: -7 is the id of an earlier thread") × (bad [] key.Thread (NoThread (pos 7)) ≡ codes "thread: 7 is no thread of the moment")
unfolding digits
ids = (refl, refl)

an_element : words_of_refusal_found (Some (BadKey (record { within = []; key = key.Moments; element = Some 3; cause = OtherKind kind.Null kind.Object }))) ≡ codes "moments[3]: null, not an object"
unfolding digits
an_element = refl
