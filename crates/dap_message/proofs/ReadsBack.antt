-- What is written of each kind of message is read again, where its numbers and its command are in range and its texts and its tree are sound.
use Rattle.std.proofs.Common.{◌≡◌, ℕ, ◌≤◌, List, length, Bool, IsTrue, IsUtf8, true, nat_le, Option, Some, None, codes, refl, arith}
use Rattle.std.proofs.lemmas.Bool.Decides.{nat_tests}
use Rattle.json.proofs.Printed.Utf8.{IsUtf8-are_ascii}
use Rattle.serde_json.specs.Data.{Data}
use Rattle.dap_json.specs.Field.{max_seq}
use Rattle.dap_json.specs.Writable.{is_plain_tree}
use Rattle.dap_body.specs.Body.{data_in, event_data_in}
use Rattle.dap_body.specs.Failure.{failure_body, explained_body, row_of}
use Rattle.dap_body.specs.declared.body.Body.{Body}
use Rattle.dap_body.specs.declared.event.EventBody.{EventBody}
use Rattle.dap_body.specs.declared.failure.Failure.{Failure}
use Rattle.dap_body.specs.declared.failure.Failure.TheVariants.{NotInitialized, AlreadyInitialized, UnknownCommand, Unsupported, BadArguments, WrongPhase, NotStopped, UnknownThread, StaleReference, UnknownSource, Debuggee, TooManyBreakpoints, TooManyReferences, ReferencesExhausted, TooLarge, Busy, Cancelled, TerminalRefused}
use Rattle.dap_envelope.specs.Canon.{canon}
use Rattle.dap_envelope.specs.Laws.{WrittenIsReadAgain}
use Rattle.dap_message.specs.MessageParts.{request_message, failure_response, explained_response, success_response, worded_response, event_message}
use Rattle.dap_envelope.specs.Meaning.{Msg}
use Rattle.dap_envelope.specs.Refusals.{max_command}
use Rattle.dap_envelope.specs.SoundMessage.{IsSoundTree}
use Rattle.dap_body.proofs.PlainBodies.{failure_bodies_are_plain, explained_bodies_are_plain, body_is_plain, event_is_plain}

within : (n most : ℕ) → n ≤ most → nat_le n most ≡ true
within n most h = grind (arith, nat_tests)

-- a body that is given by its parts can be written
pub parts-plain : (body : Option Body) → IsTrue (is_plain_tree (data_in body))
parts-plain None = refl
parts-plain (Some b) = body_is_plain b

pub event-plain : (body : Option EventBody) → IsTrue (is_plain_tree (event_data_in body))
event-plain None = refl
event-plain (Some b) = event_is_plain b

-- a failure's short name
pub name-text : (failure : Failure) → IsUtf8 (row_of failure).name
name-text NotInitialized = IsUtf8-are_ascii (codes "notInitialized") refl
name-text AlreadyInitialized = IsUtf8-are_ascii (codes "alreadyInitialized") refl
name-text UnknownCommand = IsUtf8-are_ascii (codes "unknownCommand") refl
name-text Unsupported = IsUtf8-are_ascii (codes "unsupported") refl
name-text (BadArguments key) = IsUtf8-are_ascii (codes "badArguments") refl
name-text WrongPhase = IsUtf8-are_ascii (codes "wrongPhase") refl
name-text NotStopped = IsUtf8-are_ascii (codes "notStopped") refl
name-text UnknownThread = IsUtf8-are_ascii (codes "unknownThread") refl
name-text StaleReference = IsUtf8-are_ascii (codes "staleReference") refl
name-text UnknownSource = IsUtf8-are_ascii (codes "unknownSource") refl
name-text Debuggee = IsUtf8-are_ascii (codes "debuggee") refl
name-text TooManyBreakpoints = IsUtf8-are_ascii (codes "tooManyBreakpoints") refl
name-text TooManyReferences = IsUtf8-are_ascii (codes "tooManyReferences") refl
name-text ReferencesExhausted = IsUtf8-are_ascii (codes "referencesExhausted") refl
name-text TooLarge = IsUtf8-are_ascii (codes "tooLarge") refl
name-text Busy = IsUtf8-are_ascii (codes "busy") refl
name-text Cancelled = IsUtf8-are_ascii (codes "cancelled") refl
name-text TerminalRefused = IsUtf8-are_ascii (codes "terminalRefused") refl

module _ (again : WrittenIsReadAgain) where
  pub happened-back : (seq : ℕ) (event : List ℕ) (body : Option Data) → IsTrue (is_plain_tree body) → IsUtf8 event → IsSoundTree body → seq ≤ max_seq
      → Msg (canon (event_message seq event body)) (event_message seq event body)
  happened-back seq event body p u s q = again (event_message seq event body) (rw (within seq max_seq q) p) (record { texts = u; tree = s })

  pub asked-back : (seq : ℕ) (command : List ℕ) (arguments : Option Data) → IsTrue (is_plain_tree arguments) → IsUtf8 command → IsSoundTree arguments → seq ≤ max_seq → length command ≤ max_command
      → Msg (canon (request_message seq command arguments)) (request_message seq command arguments)
  asked-back seq command arguments p u s q l =
      again (request_message seq command arguments) (rw (within seq max_seq q, within (length command) max_command l) p) (record { texts = u; tree = s })

  pub succeeded-back : (seq request_seq : ℕ) (command : List ℕ) (body : Option Data) → IsTrue (is_plain_tree body) → IsUtf8 command → IsSoundTree body
      → seq ≤ max_seq → request_seq ≤ max_seq → length command ≤ max_command → Msg (canon (success_response seq request_seq command body)) (success_response seq request_seq command body)
  succeeded-back seq r command body p u s q a l =
      again (success_response seq r command body) (rw (within seq max_seq q, within r max_seq a, within (length command) max_command l) p) (record { texts = (u, tt); tree = s })

  pub worded-back : (seq request_seq : ℕ) (command message : List ℕ) (body : Option Data) → IsTrue (is_plain_tree body) → IsUtf8 command → IsUtf8 message → IsSoundTree body
      → seq ≤ max_seq → request_seq ≤ max_seq → length command ≤ max_command → Msg (canon (worded_response seq request_seq command message body)) (worded_response seq request_seq command message body)
  worded-back seq r command message body p u n s q a l =
      again (worded_response seq r command message body) (rw (within seq max_seq q, within r max_seq a, within (length command) max_command l) p) (record { texts = (u, n); tree = s })

  pub failed-back : (seq request_seq : ℕ) (command : List ℕ) (failure : Failure) → IsUtf8 command → IsUtf8 (row_of failure).name → IsSoundTree (Some (failure_body failure))
      → seq ≤ max_seq → request_seq ≤ max_seq → length command ≤ max_command → Msg (canon (failure_response seq request_seq command failure)) (failure_response seq request_seq command failure)
  failed-back seq r command failure u n s q a l =
      again (failure_response seq r command failure) (rw (within seq max_seq q, within r max_seq a, within (length command) max_command l) (failure_bodies_are_plain failure)) (record { texts = (u, n); tree = s })

  pub explained-back : (seq request_seq : ℕ) (command : List ℕ) (show_user : Bool) (why : List ℕ) → IsUtf8 command → IsSoundTree (Some (explained_body show_user why))
      → seq ≤ max_seq → request_seq ≤ max_seq → length command ≤ max_command → Msg (canon (explained_response seq request_seq command show_user why)) (explained_response seq request_seq command show_user why)
  explained-back seq r command show_user why u s q a l =
      again (explained_response seq r command show_user why) (rw (within seq max_seq q, within r max_seq a, within (length command) max_command l) (explained_bodies_are_plain show_user why)) (record { texts = (u, name-text Debuggee); tree = s })
