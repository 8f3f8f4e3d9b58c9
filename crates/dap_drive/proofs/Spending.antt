-- A client that writes spends an own number.
use Rattle.std.proofs.Common.{◌≡◌, ℕ, ◌<◌, ◌≤◌, Bool, true, false, List, [], ◌++◌, length, Option, Some, None, Result, Ok, Err, refl, sym, ap, ◌∙◌, subst, arith}
use Rattle.std.specs.Prelude.{if◌then◌else◌, nat_lt, nat_le, bytes_eq}
use Rattle.std.proofs.lemmas.Bool.{ltb-true, ltb-false}
use Rattle.dap_frame.specs.Settings.{Settings}
use Rattle.std.proofs.lemmas.List.{length-append}
use Rattle.std.specs.List.{flat_map}
use Rattle.serde_json.specs.Data.{Data}
use Rattle.dap_frame.specs.Written.{frame_of}
use Rattle.dap_envelope.specs.Canon.{canon}
use Rattle.dap_command.specs.Command.{command_named}
use Rattle.dap_envelope.specs.declared.message.Kind.{Kind}
use Rattle.dap_envelope.specs.declared.message.Kind.TheVariants.{Request, Response, Event, Other}
use Rattle.dap_envelope.specs.declared.message.Message.{Message}
use Rattle.dap_body.specs.declared.failure.Failure.{Failure}
use Rattle.dap_tables.specs.Outstanding.{contains_seq, entry_with}
use Rattle.dap_tables.specs.declared.entry.Entry.{Entry}
use Rattle.dap_client.specs.Calls.{Takes}
use Rattle.dap_client.specs.Changes.{signal_named}
use Rattle.dap_client.specs.ClientState.{ClientState}
use Rattle.dap_client.specs.declared.got.Got.{Got}
use Rattle.dap_client.specs.Seen.{known_after, after_response, after_event}
use Rattle.dap_client.specs.Session.{Session}
use Rattle.dap_client.specs.Taking.{Made, takes, takes_as, takes_answer, failure_in, request_from, keeps_or_declines, answered_within, made_by_answer, made_by_declining, made_by_keeping, made_without_writing, bytes_of}
use Rattle.dap_client.specs.declared.fault.ClientFault.{ClientFault}
use Rattle.dap_client.specs.declared.fault.ClientFault.TheVariants.{ReferenceLimit, CommandMismatch, RepeatedSeq, SeqExhausted}
use Rattle.dap_drive.specs.PrivateHeld.{Spends}

-- nothing is written
silent : (s : Session) (made : Made) → made.written ≡ [] → made.after.limits ≡ s.limits → made.after.used ≡ s.used → Spends s made.after 0 (length (bytes_of made))
silent s made none limits used =
    let quiet : bytes_of made ≡ [] = ap (λ ms. flat_map (λ m. frame_of (canon m)) ms) none in
    record { limits = limits; more = omega (arith, used); some = λ h. absurd (omega (arith, h, ap length quiet)); within = λ h. absurd (omega (arith, h, used)) }

told_spends : (s : Session) (made other : Made) → other.written ≡ [] → other.after.limits ≡ s.limits → other.after.used ≡ s.used → (given : Result Made ClientFault) → given ≡ Ok other → given ≡ Ok made → Spends s made.after 0 (length (bytes_of made))
told_spends s made other none limits used given is_other is =
    let after : other ≡ made = cc (is_other, is) in
    subst (λ (z : Made). Spends s z.after 0 (length (bytes_of z))) after (silent s other none limits used)

-- a request of the adapter that is declined
declined_spends : (seq : ℕ) (command : List ℕ) (failure : Failure) (s : Session) (made : Made) (b : Bool) → nat_lt s.used s.limits.seq ≡ b → (if b then Ok (made_by_declining seq command failure s) else Err SeqExhausted) ≡ Ok made → Spends s made.after 0 (length (bytes_of made))
declined_spends seq command failure s made true e is =
    let below = ltb-true s.used s.limits.seq e in
    let after : made_by_declining seq command failure s ≡ made = cc is in
    subst (λ (z : Made). Spends s z.after 0 (length (bytes_of z))) after (record { limits = refl; more = omega (arith); some = λ h. omega (arith); within = λ h. omega (arith, below) })
declined_spends seq command failure s made false e is = absurd (cc is)

-- or kept
kept_spends : (failure : Option Failure) (request : Entry) (s : Session) (made : Made) → keeps_or_declines failure request s ≡ Ok made → Spends s made.after 0 (length (bytes_of made))
kept_spends None request s made is = told_spends s made (made_by_keeping request s) refl refl refl (keeps_or_declines None request s) refl is
kept_spends (Some failure) request s made is = declined_spends request.seq request.command failure s made (nat_lt s.used s.limits.seq) refl is

request_spends : (b : Bool) (request : Entry) (s : Session) (made : Made) → (if b then Err (RepeatedSeq request.seq) else keeps_or_declines (failure_in request s) request s) ≡ Ok made → Spends s made.after 0 (length (bytes_of made))
request_spends true request s made is = absurd (cc is)
request_spends false request s made is = kept_spends (failure_in request s) request s made is

within_spends : (request_seq : ℕ) (ok : Bool) (command : List ℕ) (body : Option Data) (s : Session) (made : Made) (b : Bool) → (if b then Ok (made_by_answer request_seq (after_response request_seq ok (command_named command) body s.seen) s) else Err ReferenceLimit) ≡ Ok made → Spends s made.after 0 (length (bytes_of made))
within_spends request_seq ok command body s made true is =
    let after : made_by_answer request_seq (after_response request_seq ok (command_named command) body s.seen) s ≡ made = cc is in
    subst (λ (z : Made). Spends s z.after 0 (length (bytes_of z))) after (silent s (made_by_answer request_seq (after_response request_seq ok (command_named command) body s.seen) s) refl refl refl)
within_spends request_seq ok command body s made false is = absurd (cc is)

match_spends : (request_seq : ℕ) (ok : Bool) (command : List ℕ) (body : Option Data) (s : Session) (made : Made) (b : Bool) → (if b then answered_within request_seq ok command body s else Err (CommandMismatch request_seq)) ≡ Ok made → Spends s made.after 0 (length (bytes_of made))
match_spends request_seq ok command body s made true is = within_spends request_seq ok command body s made (nat_le (length (known_after ok (command_named command) body s.seen)) s.limits.references) is
match_spends request_seq ok command body s made false is = absurd (cc is)

answer_spends : (found : Option Entry) (request_seq : ℕ) (ok : Bool) (command : List ℕ) (body : Option Data) (s : Session) (made : Made) → takes_answer found request_seq ok command body s ≡ Ok made → Spends s made.after 0 (length (bytes_of made))
answer_spends None request_seq ok command body s made is = absurd (cc is)
answer_spends (Some r) request_seq ok command body s made is = match_spends request_seq ok command body s made (bytes_eq command r.command) is

kind_spends : (seq : ℕ) (kind : Kind) (s : Session) (made : Made) → takes_as seq kind s ≡ Ok made → Spends s made.after 0 (length (bytes_of made))
kind_spends seq (Request command arguments) s made is = request_spends (contains_seq seq s.incoming) (request_from seq command arguments) s made is
kind_spends seq (Response request_seq ok command message body) s made is = answer_spends (entry_with request_seq s.outstanding) request_seq ok command body s made is
kind_spends seq (Event event body) s made is = told_spends s made (made_without_writing (record s { seen = after_event (signal_named event) body s.seen })) refl refl refl (takes_as seq (Event event body) s) refl is
kind_spends seq (Other tag) s made is = told_spends s made (made_without_writing s) refl refl refl (takes_as seq (Other tag) s) refl is

pub takes_spends : (m : Message) (s : Session) (made : Made) → takes m s ≡ Ok made → Spends s made.after 0 (length (bytes_of made))
takes_spends m s made is = kind_spends m.seq m.kind s made is

-- ---- what is written is added to what is under way

pub written_spends : (old new : Session) (bytes before after : List ℕ) (n : ℕ) → Spends old new 0 n → length bytes ≡ n → after ≡ before ++ bytes → Spends old new (length before) (length after)
written_spends old new bytes before after n s count is = record {
  limits = s.limits;
  more = s.more;
  some = λ h. s.some (omega (arith, h, count, ap length is, length-append before bytes));
  within = s.within;
}

-- a call of a client
pub call_spends : (client next : ClientState) (rest before after : List ℕ) (got : Got) (delivered : Option Message) → Takes client rest got delivered next → after ≡ before ++ got.bytes.items → Spends client.session next.session (length before) (length after)
call_spends client next rest before after got None t is =
    written_spends client.session next.session got.bytes.items before after 0 (record { limits = ap (λ (z : Session). z.limits) t.session; more = omega (arith, ap (λ (z : Session). z.used) t.session); some = λ h. absurd (omega (arith, h)); within = λ h. absurd (omega (arith, h, ap (λ (z : Session). z.used) t.session)) }) (ap length t.none_written) is
call_spends client next rest before after got (Some m) t is =
    written_spends client.session next.session got.bytes.items before after (length (bytes_of t.made))
    (subst (λ (z : Session). Spends client.session z 0 (length (bytes_of t.made))) (sym t.session) (takes_spends m client.session t.made t.is)) (ap length t.bytes_are) is

-- one after the other
then_some : (a b c : Session) (k n : ℕ) → Spends a b 0 k → Spends b c k n → 0 < n → (before : Bool) → nat_lt 0 k ≡ before → a.used < c.used
then_some a b c k n s t h true e = let first = s.some (ltb-true 0 k e) in omega (arith, first, t.more)
then_some a b c k n s t h false e =
    let none = ltb-false 0 k e in
    let last = t.some (omega (arith, none, h)) in
    omega (arith, s.more, last)

then_within : (a b c : Session) (k n : ℕ) → Spends a b 0 k → Spends b c k n → a.used < c.used → (later : Bool) → nat_lt b.used c.used ≡ later → c.used ≤ c.limits.seq
then_within a b c k n s t h true e = t.within (ltb-true b.used c.used e)
then_within a b c k n s t h false e =
    let none = ltb-false b.used c.used e in
    let first = s.within (omega (arith, none, h)) in
    let same = ap (λ (z : Settings). z.seq) t.limits in
    omega (arith, none, first, same)

pub spends_then : (a b c : Session) (k n : ℕ) → Spends a b 0 k → Spends b c k n → Spends a c 0 n
spends_then a b c k n s t = record {
  limits = t.limits ∙ s.limits;
  more = omega (arith, s.more, t.more);
  some = λ h. then_some a b c k n s t h (nat_lt 0 k) refl;
  within = λ h. then_within a b c k n s t h (nat_lt b.used c.used) refl;
}
