-- Why a request failed: Specification, "ErrorResponse" and "Message".
-- The numbers, the short names, the texts and their one order are this profile's choice, but for the short names `cancelled` and `notStopped`, which are the standard's own ("Response").
use Rattle.std.specs.Prelude.{ℕ, List, [], ◌∷◌, ◌++◌, Bool, codes}
use Rattle.serde_json.specs.Data.{Data}
use Rattle.dap_command.specs.Key.{text_of}
use Rattle.dap_command.specs.declared.key.Key.{Key}
use Rattle.dap_body.specs.Row.{Row, object_of, text, whole, tree, flag_if_set}
use Rattle.dap_body.specs.declared.failure.Failure.{Failure}
use Rattle.dap_body.specs.declared.failure.Failure.TheVariants.{NotInitialized, AlreadyInitialized, UnknownCommand, Unsupported, BadArguments, WrongPhase, NotStopped, UnknownThread, StaleReference, UnknownSource, Debuggee, TooManyBreakpoints, TooManyReferences, ReferencesExhausted, TooLarge, Busy, Cancelled, TerminalRefused}

-- a failure's number, its short name and its text
pub record FailureRow : Type 0 where
  pub id : ℕ
  pub name : List ℕ
  pub format : List ℕ

abbrev pub failure_row : ℕ → List ℕ → List ℕ → FailureRow
failure_row id name format = record { id = id; name = name; format = format }

abbrev pub bad_argument_format : Key → List ℕ
bad_argument_format key = codes "The argument " ++ (text_of key ++ codes " is missing or malformed.")

abbrev pub row_of : Failure → FailureRow
row_of NotInitialized = failure_row 1001 (codes "notInitialized") (codes "The session is not initialized.")
row_of AlreadyInitialized = failure_row 1002 (codes "alreadyInitialized") (codes "The session is already initialized.")
row_of UnknownCommand = failure_row 1003 (codes "unknownCommand") (codes "The command is not known.")
row_of Unsupported = failure_row 1004 (codes "unsupported") (codes "The command is not supported.")
row_of (BadArguments key) = failure_row 1005 (codes "badArguments") (bad_argument_format key)
row_of WrongPhase = failure_row 1007 (codes "wrongPhase") (codes "The request does not fit the state of the session.")
row_of NotStopped = failure_row 1006 (codes "notStopped") (codes "The debuggee is not stopped.")
row_of UnknownThread = failure_row 1008 (codes "unknownThread") (codes "The thread does not exist.")
row_of StaleReference = failure_row 1009 (codes "staleReference") (codes "The reference is not valid in this stop.")
row_of UnknownSource = failure_row 1014 (codes "unknownSource") (codes "The source does not exist.")
row_of Debuggee = failure_row 1013 (codes "debuggee") (codes "The debuggee refused.")
row_of TooManyBreakpoints = failure_row 1015 (codes "tooManyBreakpoints") (codes "Too many breakpoints are set.")
row_of TooManyReferences = failure_row 1010 (codes "tooManyReferences") (codes "Too many references are in use.")
row_of ReferencesExhausted = failure_row 1017 (codes "referencesExhausted") (codes "No reference numbers are left.")
row_of TooLarge = failure_row 1016 (codes "tooLarge") (codes "The response would be too large.")
row_of Busy = failure_row 1011 (codes "busy") (codes "Too many requests are waiting.")
row_of Cancelled = failure_row 1012 (codes "cancelled") (codes "The request was cancelled.")
row_of TerminalRefused = failure_row 1018 (codes "terminalRefused") (codes "The terminal refused.")

-- The order in which an adapter tests a request, where `key` is the first bad one: the first of these that holds is answered. Busy and Cancelled come outside it, and TerminalRefused is the client's.
abbrev pub failures_in_order : Key → List Failure
failures_in_order key =
    NotInitialized ∷ AlreadyInitialized ∷ UnknownCommand ∷ Unsupported ∷ BadArguments key ∷ WrongPhase ∷ NotStopped ∷ UnknownThread ∷ StaleReference ∷ UnknownSource
    ∷ Debuggee ∷ TooManyBreakpoints ∷ TooManyReferences ∷ ReferencesExhausted ∷ TooLarge ∷ []

-- the body of an ErrorResponse
abbrev pub cause_row : ℕ → List ℕ → Row
cause_row id format = (codes "format", text format) ∷ (codes "id", whole id) ∷ []

abbrev pub error_row : ℕ → List ℕ → Row
error_row id format = (codes "error", tree (object_of (cause_row id format))) ∷ []

abbrev pub error_body : ℕ → List ℕ → Data
error_body id format = object_of (error_row id format)

abbrev pub failure_body : Failure → Data
failure_body failure = error_body (row_of failure).id (row_of failure).format

-- ---- why the debuggee refused: a format with one variable, which is the text that the debuggee gives

abbrev pub variables_row : List ℕ → Row
variables_row why = (codes "why", text why) ∷ []

abbrev pub explained_cause_row : Bool → List ℕ → Row
explained_cause_row show_user why =
    (codes "format", text (codes "{why}")) ∷ (codes "id", whole (row_of Debuggee).id) ∷ (codes "showUser", flag_if_set show_user)
    ∷ (codes "variables", tree (object_of (variables_row why))) ∷ []

abbrev pub explained_row : Bool → List ℕ → Row
explained_row show_user why = (codes "error", tree (object_of (explained_cause_row show_user why))) ∷ []

-- whether the client's user should see it, and the text
abbrev pub explained_body : Bool → List ℕ → Data
explained_body show_user why = object_of (explained_row show_user why)
