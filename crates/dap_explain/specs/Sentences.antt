-- A finding's reason in one sentence, in the protocol's words. The sentences are this profile's choice.
use Rattle.std.specs.Prelude.{ℕ, List, [], ◌∷◌, codes, decimal, flat_map, Some, None}
use Rattle.dap_command.specs.Command.{flag_of}
use Rattle.dap_explain.specs.Reasons.{key_of}
use Rattle.dap_explain.specs.declared.reason.Reason.{Reason}
use Rattle.dap_explain.specs.declared.reason.Reason.TheVariants.{Numbered, NotAsked, Answered, OtherCommand, Waits, NotInitialize, FirstWaits, NeverAsked, InitializeWaits, InitializeFailed, NotInitialized, NotOffered, Negative, NeverGiven, OtherKind, Gone, Ended}
use Rattle.dap_explain.specs.declared.reason.ReferenceKind.{ReferenceKind}
use Rattle.dap_explain.specs.declared.reason.ReferenceKind.TheVariants.{Frame, Variables}
use Rattle.dap_explain.specs.declared.sentences.Part.{Part}
use Rattle.dap_explain.specs.declared.sentences.Part.TheVariants.{Words, Number}

-- texts, one after the other
abbrev pub joined_text : List (List ℕ) → List ℕ
joined_text texts = flat_map (λ text. text) texts

-- what a number is that was given as no reference of this kind, but of the other
abbrev pub other_words : ReferenceKind → List ℕ
other_words Frame = codes " gave as a variablesReference"
other_words Variables = codes " gave as the id of a stack frame"

abbrev pub sentence_of : Reason → List ℕ
sentence_of (Numbered due None) = joined_text (codes "seq " ∷ decimal due ∷ codes " was due, in the first message of its side" ∷ [])
sentence_of (Numbered due (Some last)) = joined_text (codes "seq " ∷ decimal due ∷ codes " was due, after the message of line " ∷ decimal last ∷ [])
sentence_of (NotAsked request) = joined_text (codes "response to request " ∷ decimal request ∷ codes ", which the other side has not made" ∷ [])
sentence_of (Answered request asked answered) = joined_text (codes "response to request " ∷ decimal request ∷ codes " of line " ∷ decimal asked ∷ codes ", which line " ∷ decimal answered ∷ codes " answered already" ∷ [])
sentence_of (OtherCommand request asked) = joined_text (codes "response to request " ∷ decimal request ∷ codes ", which line " ∷ decimal asked ∷ codes " made for another command" ∷ [])
sentence_of (Waits request asked) = joined_text (codes "request " ∷ decimal request ∷ codes " again, while request " ∷ decimal request ∷ codes " of line " ∷ decimal asked ∷ codes " has no response" ∷ [])
sentence_of NotInitialize = codes "the first request of the client is not initialize"
sentence_of (FirstWaits asked) = joined_text (codes "the second request of the client, before a response to the first, of line " ∷ decimal asked ∷ [])
sentence_of NeverAsked = codes "event initialized, before any initialize request"
sentence_of (InitializeWaits asked) = joined_text (codes "event initialized, before the response to the initialize request of line " ∷ decimal asked ∷ [])
sentence_of (InitializeFailed answered) = joined_text (codes "event initialized, after initialize failed in line " ∷ decimal answered ∷ [])
sentence_of (NotInitialized gate) = joined_text (codes "the request needs " ∷ flag_of gate ∷ codes ", before any successful response to initialize" ∷ [])
sentence_of (NotOffered gate decided) = joined_text (codes "the request needs " ∷ flag_of gate ∷ codes ", which line " ∷ decimal decided ∷ codes " does not set to true" ∷ [])
sentence_of (Negative kind) = joined_text (codes "the number at " ∷ key_of kind ∷ codes " is below 0, and no reference" ∷ [])
sentence_of (NeverGiven kind number) = joined_text (key_of kind ∷ codes " " ∷ decimal number ∷ codes ", which no response has given" ∷ [])
sentence_of (OtherKind kind number given) = joined_text (key_of kind ∷ codes " " ∷ decimal number ∷ codes ", which line " ∷ decimal given ∷ other_words kind ∷ [])
sentence_of (Gone kind number given resumed) = joined_text (key_of kind ∷ codes " " ∷ decimal number ∷ codes ", which line " ∷ decimal given ∷ codes " gave, until the debuggee went on or ended in line " ∷ decimal resumed ∷ [])
sentence_of (Ended ended) = joined_text (codes "after the successful response to disconnect in line " ∷ decimal ended ∷ [])

-- ---- words for private functions

abbrev pub part_text : Part → List ℕ
part_text (Words text) = text.now
part_text (Number n) = decimal n
