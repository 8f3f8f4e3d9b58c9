-- What a text says is what its JSON says.
use Rattle.std.proofs.Common.{◌≡◌, ℕ, List, Option, Some, Result, Ok, Err, sym, ap, subst}
use Rattle.serde_json.specs.Data.{Data}
use Rattle.dap_json.specs.Read.{json_of}
use Rattle.dap_json.specs.Steps.{Returns}
use Rattle.dap_line.specs.Told.{Gives, Read, Says, Tells, or_refusal, said_in, said_or_none}
use Rattle.dap_line.specs.declared.refusal.Refusal.{Refusal}
use Rattle.dap_line.specs.declared.told.Said.{Said}
use Rattle.dap_line.specs.declared.told.Unread.{Unread}
use Rattle.dap_line.specs.declared.told.Unread.TheVariants.{Refused, OutOfMemory}

refused_so : (why : Refusal) (read : Read Said) → Gives (Err (Refused why)) read → or_refusal read ≡ Err why
refused_so why (Ok x) gives = absurd gives
refused_so why (Err k) gives = ap Err (sym gives)

says_so : (r : Result Said Unread) (read : Read Said) → Gives r read → Returns (λ x. x) Says r (or_refusal read)
says_so (Ok s) read gives = ap or_refusal gives
says_so (Err (Refused why)) read gives = refused_so why read gives
says_so (Err OutOfMemory) read gives = tt

pub tells_so : (r : Result Said Unread) (text : List ℕ) (d : Data) → json_of text ≡ Some d → Gives r (said_in d) → Tells r text
tells_so r text d is gives = subst (λ (o : Option Data). Returns (λ x. x) Says r (said_or_none o)) (sym is) (says_so r (said_in d) gives)
