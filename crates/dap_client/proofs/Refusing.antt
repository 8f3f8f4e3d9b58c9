-- Why a call on a piece is refused, from what the session says.
use Rattle.std.proofs.Common.{◌≡◌, ℕ, length, List, Bool, true, false, Option, Some, None, Result, Ok, Err, refl, subst, true≢false}
use Rattle.std.specs.Prelude.{bytes_eq, nat_le, nat_lt, if◌then◌else◌}
use Rattle.serde_json.specs.Data.{Data}
use Rattle.dap_frame.specs.Feeds.{Completes}
use Rattle.dap_frame.specs.Intake.{Intake}
use Rattle.dap_command.specs.Command.{command_named}
use Rattle.dap_body.specs.declared.failure.Failure.{Failure}
use Rattle.dap_envelope.specs.Meaning.{Msg}
use Rattle.dap_envelope.specs.declared.message.Message.{Message}
use Rattle.dap_envelope.specs.declared.message.Kind.{Kind}
use Rattle.dap_envelope.specs.declared.message.Kind.TheVariants.{Request, Response, Event, Other}
use Rattle.dap_tables.specs.Outstanding.{contains_seq, entry_with}
use Rattle.dap_tables.specs.declared.entry.Entry.{Entry as Waiting}
use Rattle.dap_client.specs.declared.fault.ClientFault.{ClientFault}
use Rattle.dap_client.specs.declared.fault.ClientFault.TheVariants as fault
use Rattle.dap_client.specs.Calls.{TakeRefused}
use Rattle.dap_client.specs.Keeping.{IsWhyClosed}
use Rattle.dap_client.specs.Seen.{known_after, after_response}
use Rattle.dap_client.specs.Session.{Session}
use Rattle.dap_client.specs.Taking.{Made, takes, takes_as, takes_answer, answered_within, failure_in, keeps_or_declines, made_by_keeping, made_by_declining, made_by_answer, request_from}

-- a fault of the stream, not of a message
abbrev is_of_stream : ClientFault → Bool
is_of_stream (fault.Frame x) = true
is_of_stream (fault.Body x y) = true
is_of_stream _ = false

abbrev OfMessage : Result Made ClientFault → Type 0
OfMessage given = (f : ClientFault) → given ≡ Err f → is_of_stream f ≡ false

of-message-if : (b : Bool) (given : Result Made ClientFault) (g : ClientFault) → is_of_stream g ≡ false → OfMessage given → OfMessage (if b then given else Err g)
of-message-if true given g other inner f e = inner f e
of-message-if false given g other inner f e = let same : g ≡ f = cc in subst (λ x. is_of_stream x ≡ false) same other

of-ok : (m : Made) → OfMessage (Ok m)
of-ok m f e = cc

of-answer : (o : Option Waiting) (request_seq : ℕ) (ok : Bool) (name : List ℕ) (body : Option Data) (s : Session) → OfMessage (takes_answer o request_seq ok name body s)
of-answer None request_seq ok name body s f e = let same : fault.Unmatched request_seq ≡ f = cc in subst (λ x. is_of_stream x ≡ false) same refl
of-answer (Some r) request_seq ok name body s f e =
    let within : OfMessage (answered_within request_seq ok name body s) =
    of-message-if (nat_le (length (known_after ok (command_named name) body s.seen)) s.limits.references) (Ok (made_by_answer request_seq (after_response request_seq ok (command_named name) body s.seen) s)) fault.ReferenceLimit refl (of-ok (made_by_answer request_seq (after_response request_seq ok (command_named name) body s.seen) s)) in
    of-message-if (bytes_eq name r.command) (answered_within request_seq ok name body s) (fault.CommandMismatch request_seq) refl within f e

of-failure : (o : Option Failure) (r : Waiting) (s : Session) → OfMessage (keeps_or_declines o r s)
of-failure None r s = of-ok (made_by_keeping r s)
of-failure (Some failure) r s = of-message-if (nat_lt s.used s.limits.seq) (Ok (made_by_declining r.seq r.command failure s)) fault.SeqExhausted refl (of-ok (made_by_declining r.seq r.command failure s))

of-request : (b : Bool) (r : Waiting) (s : Session) → OfMessage (if b then Err (fault.RepeatedSeq r.seq) else keeps_or_declines (failure_in r s) r s)
of-request true r s f e = let same : fault.RepeatedSeq r.seq ≡ f = cc in subst (λ x. is_of_stream x ≡ false) same refl
of-request false r s f e = of-failure (failure_in r s) r s f e

of-kind : (seq : ℕ) (kind : Kind) (s : Session) → OfMessage (takes_as seq kind s)
of-kind seq (Request command arguments) s f e = of-request (contains_seq seq s.incoming) (request_from seq command arguments) s f e
of-kind seq (Response request_seq ok name message body) s f e = of-answer (entry_with request_seq s.outstanding) request_seq ok name body s f e
of-kind seq (Event event body) s f e = cc
of-kind seq (Other tag) s f e = cc

pub untaken_refused : (old ready : Intake) (s : Session) (piece : List ℕ) (n : ℕ) (m : Message) (f : ClientFault) → Completes old ready piece n → Msg ready.held m → IsWhyClosed f (takes m s) → TakeRefused old s piece f
untaken_refused old ready s piece n m (fault.Frame x) c read why = absurd (true≢false (of-kind m.seq m.kind s (fault.Frame x) why))
untaken_refused old ready s piece n m (fault.Body x y) c read why = absurd (true≢false (of-kind m.seq m.kind s (fault.Body x y) why))
untaken_refused old ready s piece n m fault.OutOfMemory c read why = (n, record { ready = ready; completes = c })
untaken_refused old ready s piece n m _ c read why = record { n = n; whole = record { ready = ready; completes = c }; message = m; read = read; closes = why }
