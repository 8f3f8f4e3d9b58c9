-- What the client names was given since the debuggee last went on: what the smaller pair's transcript keeps, told by the words of the checker.
use Rattle.std.proofs.Common.{◌≡◌, ℕ, zero, suc, List, [], ◌∷◌, ◌++◌, map, Bool, true, false, Option, Some, None, refl, sym, ap, ◌∙◌, subst, inl, inr, true≢false}
use Rattle.std.specs.Prelude.{◌⊎◌, ◌==◌, ◌&&◌, ◌||◌, not, codes, bytes_eq, option_map, if◌then◌else◌}
use Rattle.std.specs.List.{list_any}
use Rattle.std.specs.Set.{is_member}
use Rattle.std.proofs.lemmas.List.{append-nil}
use Rattle.std.proofs.lemmas.List.Folds.{list_any-append}
use Rattle.serde_json.specs.Data.{Data, unsigned}
use Rattle.dap_ends.specs.Messages as small
use Rattle.dap_ends.specs.Messages.{code}
use Rattle.dap_ends.specs.References.{Ref, Note, same_ref, IsWithin, given_by as small_given, is_resumption, known_next, known_after, AsksKnown}
use Rattle.dap_ends.specs.Pair.{in_client_dialogue, client_dialogue}
use Rattle.dap_ends.proofs.Counts.{and-left, and-right, names-same}
use Rattle.dap_call.specs.CallTree.{command_of, call_tree, variables_members, evaluate_members, set_variable_members, completions_members, if_any}
use Rattle.dap_command.specs.Command.{command_named, name_of}
use Rattle.dap_command.specs.GivenReferences.{frame_ids, holders_of}
use Rattle.dap_call.specs.PlainCall.{WrittenCallIsReadAgain}
use Rattle.dap_call.specs.declared.call.Call.{Call}
use Rattle.dap_call.specs.declared.call.Call.TheVariants as call
use Rattle.dap_command.specs.declared.command.Command.{Command}
use Rattle.dap_command.specs.declared.command.Command.TheVariants as command
use Rattle.dap_call.specs.declared.call.Completions.{Completions}
use Rattle.dap_call.specs.declared.call.Evaluate.{Evaluate}
use Rattle.dap_call.specs.declared.call.Variables.{Variables}
use Rattle.dap_envelope.specs.declared.message.Kind.{Kind}
use Rattle.dap_envelope.specs.declared.message.Kind.TheVariants.{Request, Response, Event, Other}
use Rattle.dap_tables.specs.Given.{frame, holder, references_given_in}
use Rattle.dap_tables.specs.Known.{has_pair}
use Rattle.dap_tables.specs.declared.reference_kind.ReferenceKind.{ReferenceKind}
use Rattle.dap_tables.specs.declared.reference_kind.ReferenceKind.TheVariants.{Frame, Holder}
use Rattle.dap_check.specs.Lines.{is_of, is_among}
use Rattle.dap_check.specs.Rules.{resume_commands, resume_events, resumes, frames_for, holders_for, frames_of_kind, holders_of_kind, contains_number, gives_frame, gives_holder, is_frame as is_known_frame, is_holder as is_known_holder, is_unknown, number_at, breaks_reference}
use Rattle.dap_check.specs.Since.{is_open}
use Rattle.dap_check.specs.declared.line.Line.{Line}
use Rattle.dap_check.specs.declared.line.Side.{Side}
use Rattle.dap_check.specs.declared.line.Side.TheVariants.{Client, Adapter}
use Rattle.dap_client.specs.References.{references_used_by, optional_frame}
use Rattle.dap_client.specs.Changes.{signal_named}
use Rattle.dap_client.specs.Projection.{reference_seen, references_seen, class_if, ask_of, kind_if, references_given_if}
use Rattle.dap_world.specs.MessageReferences.{references_used_by_read, references_used_in, references_of_kind}
use Rattle.dap_world.specs.Projection.{kind_seen, is_client, written_seen}
use Rattle.dap_world.specs.Transcripts.{said_of}
use Rattle.dap_client.proofs.RequestLemmas.{named-back}
use Rattle.dap_world.proofs.GateStepping.{IsWritten}
use Rattle.dap_client.proofs.ReferenceLemmas.{has-member}
use Rattle.dap_world.proofs.ReferencesSeen.{seen-self}
use Rattle.dap_world.proofs.RulesSeen.{is-false, named-so}
use Rattle.dap_world.proofs.Booleans.{from-or-false, or-either, or-true}

-- ---- the lines, as the smaller pair has them

abbrev notes_of : Side → ℕ → Kind → List Note
notes_of side seq kind = in_client_dialogue (is_client side) (kind_seen seq kind) (references_seen (references_of_kind kind))

abbrev dialogue : List Line → List Note
dialogue ls = client_dialogue (written_seen (said_of ls))

known-append : (known : List Ref) (ns ms : List Note) → known_after known (ns ++ ms) ≡ known_after (known_after known ns) ms
known-append known [] ms = refl
known-append known (n ∷ ns) ms = known-append (known_next known n) ns ms

asks-behind : (known : List Ref) (ns ms : List Note) → AsksKnown known (ns ++ ms) → AsksKnown (known_after known ns) ms
asks-behind known [] ms h = h
asks-behind known (n ∷ ns) ms h = asks-behind (known_next known n) ns ms h.1

asks-at : (known : List Ref) (xs : List Line) (l : Line) (ys : List Line) → AsksKnown known (dialogue (xs ++ l ∷ ys)) → AsksKnown (known_after known (dialogue xs)) (dialogue (l ∷ ys))
asks-at known [] l ys h = h
asks-at known (x ∷ xs) l ys h =
    let ns : List Note = notes_of x.side x.message.seq x.message.kind in
    subst (λ (k : List Ref). AsksKnown k (dialogue (l ∷ ys))) (sym (known-append known ns (dialogue xs)))
    (asks-at (known_after known ns) xs l ys (asks-behind known ns (dialogue (xs ++ l ∷ ys)) h))

-- ---- what resumes

resume-command : (name : List ℕ) → is_among resume_commands name ≡ true → (code (class_if (command_named name)) == 8) ≡ true
resume-command name h =
    elim (or-either (bytes_eq name (codes "continue")) (bytes_eq name (codes "next") || (bytes_eq name (codes "stepIn") || (bytes_eq name (codes "stepOut") || (bytes_eq name (codes "stepBack") || (bytes_eq name (codes "reverseContinue") || false))))) h) [
      | inl e ↦ by (codes "continue") e refl
      | inr h ↦ elim (or-either (bytes_eq name (codes "next")) (bytes_eq name (codes "stepIn") || (bytes_eq name (codes "stepOut") || (bytes_eq name (codes "stepBack") || (bytes_eq name (codes "reverseContinue") || false)))) h) [
        | inl e ↦ by (codes "next") e refl
        | inr h ↦ elim (or-either (bytes_eq name (codes "stepIn")) (bytes_eq name (codes "stepOut") || (bytes_eq name (codes "stepBack") || (bytes_eq name (codes "reverseContinue") || false))) h) [
          | inl e ↦ by (codes "stepIn") e refl
          | inr h ↦ elim (or-either (bytes_eq name (codes "stepOut")) (bytes_eq name (codes "stepBack") || (bytes_eq name (codes "reverseContinue") || false)) h) [
            | inl e ↦ by (codes "stepOut") e refl
            | inr h ↦ elim (or-either (bytes_eq name (codes "stepBack")) (bytes_eq name (codes "reverseContinue") || false) h) [
              | inl e ↦ by (codes "stepBack") e refl
              | inr h ↦ by (codes "reverseContinue") (from-or-false (bytes_eq name (codes "reverseContinue")) h) refl
            ]
          ]
        ]
      ]
    ]
  where
    by : (known : List ℕ) → bytes_eq name known ≡ true → (code (class_if (command_named known)) == 8) ≡ true → (code (class_if (command_named name)) == 8) ≡ true
    by known e h = ap (λ (n : List ℕ). code (class_if (command_named n)) == 8) (names-same name known e) ∙ h

resume-event : (name : List ℕ) → is_among resume_events name ≡ true → is_resumption (small.Event (kind_if (signal_named name))) ≡ true
resume-event name h =
    elim (or-either (bytes_eq name (codes "continued")) (bytes_eq name (codes "exited") || (bytes_eq name (codes "terminated") || false)) h) [
      | inl e ↦ by (codes "continued") e refl
      | inr h ↦ elim (or-either (bytes_eq name (codes "exited")) (bytes_eq name (codes "terminated") || false) h) [
        | inl e ↦ by (codes "exited") e refl
        | inr h ↦ by (codes "terminated") (from-or-false (bytes_eq name (codes "terminated")) h) refl
      ]
    ]
  where
    by : (known : List ℕ) → bytes_eq name known ≡ true → is_resumption (small.Event (kind_if (signal_named known))) ≡ true → is_resumption (small.Event (kind_if (signal_named name))) ≡ true
    by known e h = ap (λ (n : List ℕ). is_resumption (small.Event (kind_if (signal_named n)))) (names-same name known e) ∙ h

-- ---- what is given

abbrev gives_pair : ReferenceKind × ℕ → Line → Bool
gives_pair (Frame, n) = gives_frame n
gives_pair (Holder, n) = gives_holder n

-- whether a kind of message gives it
abbrev kind_gives : ReferenceKind × ℕ → Kind → Bool
kind_gives (Frame, n) kind = contains_number n (frames_of_kind kind)
kind_gives (Holder, n) kind = contains_number n (holders_of_kind kind)

frame-among : (n : ℕ) (ids : List ℕ) → has_pair (Frame, n) (map frame ids) ≡ contains_number n ids
frame-among n [] = refl
frame-among n (m ∷ ids) = ap (λ (b : Bool). (m == n) || b) (frame-among n ids)

no-frame : (n : ℕ) (ids : List ℕ) → has_pair (Frame, n) (map holder ids) ≡ false
no-frame n [] = refl
no-frame n (m ∷ ids) = no-frame n ids

holder-among : (n : ℕ) (ids : List ℕ) → has_pair (Holder, n) (map holder ids) ≡ contains_number n ids
holder-among n [] = refl
holder-among n (m ∷ ids) = ap (λ (b : Bool). (m == n) || b) (holder-among n ids)

no-holder : (n : ℕ) (ids : List ℕ) → has_pair (Holder, n) (map frame ids) ≡ false
no-holder n [] = refl
no-holder n (m ∷ ids) = no-holder n ids

no-true : {A : Type 0} (b : Bool) → b ≡ false → b ≡ true → A
no-true b e h = absurd (true≢false (sym h ∙ e))

-- of a success to a command
pair-given : (o : Option Command) (body : Option Data) (name : List ℕ) (p : ReferenceKind × ℕ) (q : ℕ) (message : Option (List ℕ)) → command_named name ≡ o → has_pair p (references_given_in o body) ≡ true → kind_gives p (Response q true name message body) ≡ true
pair-given o None name p q message e h = cc
pair-given None (Some body) name p q message e h = cc
pair-given (Some command.StackTrace) (Some body) name (Frame, n) q message e h = ap (λ (o : Option Command). contains_number n (frames_for o (Some body))) e ∙ (sym (frame-among n (frame_ids body)) ∙ h)
pair-given (Some command.StackTrace) (Some body) name (Holder, n) q message e h = no-true _ (no-holder n (frame_ids body)) h
pair-given (Some command.Scopes) (Some body) name (Holder, n) q message e h = ap (λ (o : Option Command). contains_number n (holders_for o (Some body))) e ∙ (sym (holder-among n (holders_of command.Scopes body)) ∙ h)
pair-given (Some command.Variables) (Some body) name (Holder, n) q message e h = ap (λ (o : Option Command). contains_number n (holders_for o (Some body))) e ∙ (sym (holder-among n (holders_of command.Variables body)) ∙ h)
pair-given (Some command.Evaluate) (Some body) name (Holder, n) q message e h = ap (λ (o : Option Command). contains_number n (holders_for o (Some body))) e ∙ (sym (holder-among n (holders_of command.Evaluate body)) ∙ h)
pair-given (Some command.SetVariable) (Some body) name (Holder, n) q message e h = ap (λ (o : Option Command). contains_number n (holders_for o (Some body))) e ∙ (sym (holder-among n (holders_of command.SetVariable body)) ∙ h)
pair-given (Some command.Scopes) (Some body) name (Frame, n) q message e h = no-true _ (no-frame n (holders_of command.Scopes body)) h
pair-given (Some command.Variables) (Some body) name (Frame, n) q message e h = no-true _ (no-frame n (holders_of command.Variables body)) h
pair-given (Some command.Evaluate) (Some body) name (Frame, n) q message e h = no-true _ (no-frame n (holders_of command.Evaluate body)) h
pair-given (Some command.SetVariable) (Some body) name (Frame, n) q message e h = no-true _ (no-frame n (holders_of command.SetVariable body)) h
pair-given (Some _) (Some body) name (Frame, n) q message e h = cc
pair-given (Some _) (Some body) name (Holder, n) q message e h = cc

gives-so : (p : ReferenceKind × ℕ) (l : Line) → is_of Adapter l ≡ true → kind_gives p l.message.kind ≡ true → gives_pair p l ≡ true
gives-so (Frame, n) l s g = rw (s, g) refl
gives-so (Holder, n) l s g = rw (s, g) refl

-- ---- after one line

-- it was known and nothing resumed, or this line gives it
abbrev KnownOrGiven : ReferenceKind × ℕ → List Ref → Line → Type 0
KnownOrGiven p known l = ((is_member same_ref known (reference_seen p) ≡ true) × (resumes l ≡ false)) ⊎ (gives_pair p l ≡ true)

unchanged : (p : ReferenceKind × ℕ) (known : List Ref) → is_member same_ref (known ++ []) (reference_seen p) ≡ true → is_member same_ref known (reference_seen p) ≡ true
unchanged p known h = ap (λ (xs : List Ref). is_member same_ref xs (reference_seen p)) (sym (append-nil known)) ∙ h

either-member : (p : ReferenceKind × ℕ) (xs ys : List Ref) → is_member same_ref (xs ++ ys) (reference_seen p) ≡ true → (is_member same_ref xs (reference_seen p) ≡ true) ⊎ (is_member same_ref ys (reference_seen p) ≡ true)
either-member p xs ys h =
    let both : is_member same_ref (xs ++ ys) (reference_seen p) ≡ (is_member same_ref xs (reference_seen p) || is_member same_ref ys (reference_seen p)) = list_any-append (same_ref (reference_seen p)) xs ys in
    or-either (is_member same_ref xs (reference_seen p)) (is_member same_ref ys (reference_seen p)) (sym both ∙ h)

abbrev response_line : ℕ → ℕ → ℕ → Bool → List ℕ → Option (List ℕ) → Option Data → Line
response_line number seq q ok name message body = record { number = number; side = Adapter; message = record { seq = seq; kind = Response q ok name message body } }

given-line : (number seq q : ℕ) (ok i : Bool) (name : List ℕ) (message : Option (List ℕ)) (body : Option Data) (p : ReferenceKind × ℕ)
    → is_member same_ref (if ok && i then references_seen (references_given_if ok (command_named name) body) else []) (reference_seen p) ≡ true → gives_pair p (response_line number seq q ok name message body) ≡ true
given-line number seq q true true name message body p h =
    gives-so p (response_line number seq q true name message body) refl
    (pair-given (command_named name) body name p q message refl (sym (has-member p (references_given_in (command_named name) body)) ∙ h))
given-line number seq q true false name message body p h = cc
given-line number seq q false i name message body p h = cc

quiet-response : (ok : Bool) (name : List ℕ) → (ok && (code (class_if (command_named name)) == 8)) ≡ false → ((ok && is_among resume_commands name) || false) ≡ false
quiet-response ok name h =
    is-false ((ok && is_among resume_commands name) || false) (λ e.
    let both = from-or-false (ok && is_among resume_commands name) e in
    let resumed : (ok && (code (class_if (command_named name)) == 8)) ≡ true = rw (and-left ok (is_among resume_commands name) both) (resume-command name (and-right ok (is_among resume_commands name) both)) in
    true≢false (sym resumed ∙ h))

response-known : (b : Bool) (number seq q : ℕ) (ok : Bool) (name : List ℕ) (message : Option (List ℕ)) (body : Option Data) (p : ReferenceKind × ℕ) (known : List Ref) → (ok && (code (class_if (command_named name)) == 8)) ≡ b
    → is_member same_ref (if b then [] else known ++ small_given (small.Response (ask_of q name) ok) (references_seen (references_given_if ok (command_named name) body))) (reference_seen p) ≡ true → KnownOrGiven p known (response_line number seq q ok name message body)
response-known true number seq q ok name message body p known e h = cc
response-known false number seq q ok name message body p known e h =
    elim (either-member p known (small_given (small.Response (ask_of q name) ok) (references_seen (references_given_if ok (command_named name) body))) h) [
      | inl k ↦ inl (k, quiet-response ok name e)
      | inr g ↦ inr (given-line number seq q ok (code (class_if (command_named name)) == 10) name message body p g)
    ]

event-known : (b : Bool) (number seq : ℕ) (name : List ℕ) (body : Option Data) (p : ReferenceKind × ℕ) (known : List Ref) → is_resumption (small.Event (kind_if (signal_named name))) ≡ b
    → is_member same_ref (if b then [] else known ++ []) (reference_seen p) ≡ true → KnownOrGiven p known (record { number = number; side = Adapter; message = record { seq = seq; kind = Event name body } })
event-known true number seq name body p known e h = cc
event-known false number seq name body p known e h =
    inl (unchanged p known h, is-false (is_among resume_events name) (λ r. true≢false (sym (resume-event name r) ∙ e)))

line-known : (p : ReferenceKind × ℕ) (known : List Ref) (number : ℕ) (side : Side) (seq : ℕ) (kind : Kind) → is_member same_ref (known_after known (notes_of side seq kind)) (reference_seen p) ≡ true → KnownOrGiven p known (record { number = number; side = side; message = record { seq = seq; kind = kind } })
line-known p known number Client seq (Request name arguments) h = inl (unchanged p known h, refl)
line-known p known number Client seq (Response q ok name message body) h = inl (h, refl)
line-known p known number Client seq (Event name body) h = inl (h, refl)
line-known p known number Client seq (Other tag) h = inl (h, refl)
line-known p known number Adapter seq (Request name arguments) h = inl (h, refl)
line-known p known number Adapter seq (Response q ok name message body) h = response-known (ok && (code (class_if (command_named name)) == 8)) number seq q ok name message body p known refl h
line-known p known number Adapter seq (Event name body) h = event-known (is_resumption (small.Event (kind_if (signal_named name)))) number seq name body p known refl h
line-known p known number Adapter seq (Other tag) h = inl (unchanged p known h, refl)

-- ---- after all of them

open-now : (p : ReferenceKind × ℕ) (l : Line) (ls : List Line) → gives_pair p l ≡ true → list_any resumes ls ≡ false → is_open (gives_pair p) resumes (l ∷ ls) ≡ true
open-now p l ls g n = rw (g, n) refl

open-still : (p : ReferenceKind × ℕ) (l : Line) (ls : List Line) → is_open (gives_pair p) resumes ls ≡ true → is_open (gives_pair p) resumes (l ∷ ls) ≡ true
open-still p l ls h = rw h (or-true (gives_pair p l && not (list_any resumes ls)))

known-open : (p : ReferenceKind × ℕ) (known : List Ref) (ls : List Line) → is_member same_ref (known_after known (dialogue ls)) (reference_seen p) ≡ true
    → ((is_member same_ref known (reference_seen p) ≡ true) × (list_any resumes ls ≡ false)) ⊎ (is_open (gives_pair p) resumes ls ≡ true)
known-open p known [] h = inl (h, refl)
known-open p known (l ∷ ls) h =
    let ns : List Note = notes_of l.side l.message.seq l.message.kind in
    let rest : is_member same_ref (known_after (known_after known ns) (dialogue ls)) (reference_seen p) ≡ true = subst (λ (k : List Ref). is_member same_ref k (reference_seen p) ≡ true) (known-append known ns (dialogue ls)) h in
    elim (known-open p (known_after known ns) ls rest) [
      | inr o ↦ inr (open-still p l ls o)
      | inl m ↦ elim (line-known p known l.number l.side l.message.seq l.message.kind m.0) [
        | inl k ↦ inl (k.0, rw (k.1, m.1) refl)
        | inr g ↦ inr (open-now p l ls g m.1)
      ]
    ]

none-known : (p : ReferenceKind × ℕ) (o : Bool) → ((is_member same_ref [] (reference_seen p) ≡ true) × (o ≡ false)) → ⊥
none-known p o h = true≢false (sym h.0)

surely-open : (p : ReferenceKind × ℕ) (ls : List Line) → is_member same_ref (known_after [] (dialogue ls)) (reference_seen p) ≡ true → is_open (gives_pair p) resumes ls ≡ true
surely-open p ls h = elim (known-open p [] ls h) [ inl k ↦ absurd (none-known p (list_any resumes ls) k) | inr o ↦ o ]

-- ---- what a request uses

-- each of these is known
one-known : (p : ReferenceKind × ℕ) (earlier : List Line) → IsWithin (references_seen (p ∷ [])) (known_after [] (dialogue earlier)) → is_open (gives_pair p) resumes earlier ≡ true
one-known p earlier h = surely-open p earlier (h (reference_seen p) (rw (seen-self p) refl))

known-frame : (earlier : List Line) (o : Option ℕ) → IsWithin (references_seen (optional_frame o)) (known_after [] (dialogue earlier)) → is_unknown (is_known_frame earlier) (option_map unsigned o) ≡ false
known-frame earlier None h = refl
known-frame earlier (Some n) h = ap not (one-known (Frame, n) earlier h)

known-holder : (earlier : List Line) (n : ℕ) → IsWithin (references_seen (holder n ∷ [])) (known_after [] (dialogue earlier)) → is_unknown (is_known_holder earlier) (Some (unsigned n)) ≡ false
known-holder earlier n h = ap not (one-known (Holder, n) earlier h)

evaluate-frame : (a : Evaluate) (o : Option ℕ) → a.frame_id ≡ o → number_at (codes "frameId") (if_any (evaluate_members a)) ≡ option_map unsigned o
unfolding evaluate_members
evaluate-frame a None e = rw e refl
evaluate-frame a (Some n) e = rw e refl

completions-frame : (a : Completions) (l o : Option ℕ) → a.line ≡ l → a.frame_id ≡ o → number_at (codes "frameId") (if_any (completions_members a)) ≡ option_map unsigned o
unfolding completions_members
completions-frame a None None f e = rw (f, e) refl
completions-frame a None (Some n) f e = rw (f, e) refl
completions-frame a (Some m) None f e = rw (f, e) refl
completions-frame a (Some m) (Some n) f e = rw (f, e) refl

variables-holder : (a : Variables) (s c : ℕ) → a.start ≡ s → a.count ≡ c → number_at (codes "variablesReference") (if_any (variables_members a)) ≡ Some (unsigned a.variables_reference)
unfolding variables_members
variables-holder a zero zero e f = rw (e, f) refl
variables-holder a zero (suc c) e f = rw (e, f) refl
variables-holder a (suc s) zero e f = rw (e, f) refl
variables-holder a (suc s) (suc c) e f = rw (e, f) refl

abbrev request_line : ℕ → ℕ → List ℕ → Option Data → Line
request_line number seq name arguments = record { number = number; side = Client; message = record { seq = seq; kind = Request name arguments } }

or-nothing : (b : Bool) → b ≡ false → (b || false) ≡ false
or-nothing true h = cc
or-nothing false h = refl

call-known : (number seq : ℕ) (c : Call) (earlier : List Line) → IsWithin (references_seen (references_used_by c)) (known_after [] (dialogue earlier)) → breaks_reference earlier (request_line number seq (name_of (command_of c)) (call_tree c)) ≡ false
unfolding set_variable_members
call-known number seq (call.Scopes n) earlier h = or-nothing _ (known-frame earlier (Some n) h)
call-known number seq (call.Variables a) earlier h = ap (is_unknown (is_known_holder earlier)) (variables-holder a a.start a.count refl refl) ∙ known-holder earlier a.variables_reference h
call-known number seq (call.SetVariable a) earlier h = known-holder earlier a.variables_reference h
call-known number seq (call.Evaluate a) earlier h = or-nothing _ (ap (is_unknown (is_known_frame earlier)) (evaluate-frame a a.frame_id refl) ∙ known-frame earlier a.frame_id h)
call-known number seq (call.Completions a) earlier h = or-nothing _ (ap (is_unknown (is_known_frame earlier)) (completions-frame a a.line a.frame_id refl refl) ∙ known-frame earlier a.frame_id h)
call-known number seq (call.Initialize a) earlier h = refl
call-known number seq _ earlier h = refl

-- ---- the rule

-- what a line of the client is
abbrev pub IsAskedSo : Side → Kind → Type 0
IsAskedSo Client (Request name arguments) = IsWritten name arguments
IsAskedSo Client (Response q ok name message body) = Unit {0}
IsAskedSo Client (Event name body) = Unit {0}
IsAskedSo Client (Other tag) = Unit {0}
IsAskedSo Adapter kind = Unit {0}

line-keeps : (read : WrittenCallIsReadAgain) (number : ℕ) (side : Side) (seq : ℕ) (kind : Kind) (earlier : List Line) (later : List Line) → IsAskedSo side kind
    → AsksKnown (known_after [] (dialogue earlier)) (dialogue (record { number = number; side = side; message = record { seq = seq; kind = kind } } ∷ later)) → breaks_reference earlier (record { number = number; side = side; message = record { seq = seq; kind = kind } }) ≡ false
line-keeps read number Client seq (Request name arguments) earlier later w h =
    let used : references_used_in (command_named name) arguments ≡ references_used_by w.call =
    ap (λ (n : List ℕ). references_used_in (command_named n) arguments) w.named
    ∙ (ap (λ (o : Option Command). references_used_in o arguments) (named-back (command_of w.call))
    ∙ (ap (λ (d : Option Data). references_used_in (Some (command_of w.call)) d) w.tree ∙ ap references_used_by_read (read w.call w.plain))) in
    let within : IsWithin (references_seen (references_used_by w.call)) (known_after [] (dialogue earlier)) = subst (λ (ps : List (ReferenceKind × ℕ)). IsWithin (references_seen ps) (known_after [] (dialogue earlier))) used h.0 in
    ap (λ (n : List ℕ). breaks_reference earlier (request_line number seq n arguments)) w.named
    ∙ (ap (λ (d : Option Data). breaks_reference earlier (request_line number seq (name_of (command_of w.call)) d)) w.tree ∙ call-known number seq w.call earlier within)
line-keeps read number Client seq (Response q ok name message body) earlier later w h = refl
line-keeps read number Client seq (Event name body) earlier later w h = refl
line-keeps read number Client seq (Other tag) earlier later w h = refl
line-keeps read number Adapter seq kind earlier later w h = refl

pub keeps-reference : (read : WrittenCallIsReadAgain) (earlier : List Line) (l : Line) (later : List Line) → IsAskedSo l.side l.message.kind → AsksKnown [] (dialogue (earlier ++ l ∷ later)) → breaks_reference earlier l ≡ false
keeps-reference read earlier l later w h = line-keeps read l.number l.side l.message.seq l.message.kind earlier later w (asks-at [] earlier l later h)
