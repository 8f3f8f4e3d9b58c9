-- What the client answers to a request of the adapter is read by the adapter.
use Rattle.std.proofs.Common.{◌≡◌, ℕ, ◌+◌, ◌<◌, ◌≤◌, List, length, Bool, true, false, nat_lt, Some, None, Ok, Err, refl, sym, ap, ◌∙◌, subst, arith, if◌then◌else◌}
use Rattle.std.proofs.lemmas.Bool.Decides.{nat_tests}
use Rattle.std.proofs.lemmas.List.{append-nil}
use Rattle.dap_frame.specs.Written.{frame_of}
use Rattle.dap_json.specs.Field.{max_seq}
use Rattle.dap_envelope.specs.Canon.{canon}
use Rattle.dap_message.specs.MessageParts.{failure_response}
use Rattle.dap_message.specs.Lengths.{FailuresAreShort}
use Rattle.dap_envelope.specs.Meaning.{Msg}
use Rattle.dap_envelope.specs.ReadBack.{AllReadBack}
use Rattle.dap_envelope.specs.Refusals.{max_command}
use Rattle.dap_body.specs.declared.failure.Failure.{Failure}
use Rattle.dap_envelope.specs.declared.message.Message.{Message}
use Rattle.dap_tables.specs.Seq.{Numbers, next_number}
use Rattle.dap_client.specs.Keeping.{AreReadBack, IsMade}
use Rattle.dap_client.specs.Session.{Session}
use Rattle.dap_client.specs.Taking.{Made, bytes_of, declines, made_by_declining}
use Rattle.dap_client.specs.declared.fault.ClientFault.{ClientFault}
use Rattle.dap_client.specs.declared.fault.ClientFault.TheVariants.{SeqExhausted}

made-back : (limit : ℕ) (b : Bool) (m : Made) (f : ClientFault) → b ≡ true → AllReadBack limit m.written → AreReadBack limit (if b then Ok m else Err f)
made-back limit true m f e h = h
made-back limit false m f e h = absurd (cc e)

below : (a b : ℕ) → a < b → nat_lt a b ≡ true
below a b h = grind (arith, nat_tests)

pub made_by_declining-back : FailuresAreShort → (seq : ℕ) (command : List ℕ) (failure : Failure) (s : Session) (number : ℕ) → number ≡ s.used + 1 → s.used < s.limits.seq → s.limits.seq ≤ max_seq → 1024 ≤ s.limits.body → seq ≤ max_seq → length command ≤ max_command
    → (number ≤ max_seq → seq ≤ max_seq → length command ≤ max_command → Msg (canon (failure_response number seq command failure)) (failure_response number seq command failure))
    → AreReadBack s.limits.body (declines seq command failure s)
made_by_declining-back are_short seq command failure s number is left greatest room fits short read =
    let last : s.used + 1 ≤ max_seq = omega arith in
    let here : number ≤ max_seq = omega arith in
    let m : Message = failure_response (s.used + 1) seq command failure in
    let back : Msg (canon m) m = subst (λ (n : ℕ). Msg (canon (failure_response n seq command failure)) (failure_response n seq command failure)) is (read here fits short) in
    let long : length (canon m) ≤ 1024 = are_short (s.used + 1) seq command failure last fits short in
    made-back s.limits.body (nat_lt s.used s.limits.seq) (made_by_declining seq command failure s) SeqExhausted (below s.used s.limits.seq left) (record { fits = omega arith; reads = back }, tt)

made-if : (b : Bool) (m : Made) (f : ClientFault) (new : Session) (bytes : List ℕ) → b ≡ true → new ≡ m.after → bytes ≡ bytes_of m → IsMade (if b then Ok m else Err f) new bytes
made-if true m f new bytes e same is = (same, is)
made-if false m f new bytes e same is = absurd (cc e)

-- what is made of it
pub declined-made : (seq : ℕ) (command : List ℕ) (failure : Failure) (s new : Session) (number : ℕ) (bytes : List ℕ) → number ≡ s.used + 1 → s.used < s.limits.seq → new ≡ record s { used = s.used + 1 }
    → bytes ≡ frame_of (canon (failure_response number seq command failure)) → IsMade (declines seq command failure s) new bytes
declined-made seq command failure s new number bytes is left same written =
    made-if (nat_lt s.used s.limits.seq) (made_by_declining seq command failure s) SeqExhausted new bytes (below s.used s.limits.seq left) same
    (written ∙ ap (λ (n : ℕ). frame_of (canon (failure_response n seq command failure))) is ∙ sym (append-nil (frame_of (canon (failure_response (s.used + 1) seq command failure)))))

number-if : (used last x : ℕ) (b : Bool) → nat_lt used last ≡ b → (if b then Some (used + 1) else None) ≡ Some x → (x ≡ used + 1) × (used < last)
number-if used last x true e f = (cc f, grind (arith, nat_tests, e))
number-if used last x false e f = absurd (cc f)

-- a number that was given
pub number-given : (n : Numbers) (x : ℕ) → next_number n ≡ Some x → (x ≡ n.used + 1) × (n.used < n.last)
number-given n x e = number-if n.used n.last x (nat_lt n.used n.last) refl e
