-- What a response changes is a step of the model: the tables compared, each command in each phase.
use Rattle.std.proofs.Common.{◌≡◌, ◌≤◌, ◌<◌, ℕ, List, [], length, Bool, true, false, Option, Some, None, Result, Ok, Err, refl, sym, ap, ◌∙◌, subst, inl, inr, arith}
use Rattle.std.specs.Prelude.{◌==◌, ◌&&◌, nat_le, bytes_eq, if◌then◌else◌}
use Rattle.std.proofs.lemmas.Bool.Decides.{nat_tests}
use Rattle.serde_json.specs.Data.{Data}
use Rattle.std.specs.List.{list_any}
use Rattle.dap_ends.specs.Messages.{Ask, has_seq, is_same}
use Rattle.dap_ends.specs.Messages as small
use Rattle.dap_ends.specs.ClientModel.{ClientModel, answered_phase, requests_without, client_model_takes}
use Rattle.dap_ends.specs.ClientModel as model
use Rattle.dap_ends.specs.References.{Ref, is_resuming, holds, with_refs, given_with, given_after}
use Rattle.dap_ends.proofs.Counts.{names-same}
use Rattle.dap_command.specs.Command.{command_named}
use Rattle.dap_command.specs.declared.command.Command.{Command}
use Rattle.dap_command.specs.declared.command.Command.TheVariants as command
use Rattle.dap_tables.specs.Given.{references_given_by, references_given_in}
use Rattle.dap_tables.specs.Known.{with_pairs}
use Rattle.dap_tables.specs.Outstanding.{entry_with, without}
use Rattle.dap_tables.specs.declared.entry.Entry.{Entry}
use Rattle.dap_tables.specs.declared.reference_kind.ReferenceKind.{ReferenceKind}
use Rattle.dap_client.specs.declared.change.Change.{Change}
use Rattle.dap_client.specs.declared.fault.ClientFault.{ClientFault}
use Rattle.dap_client.specs.declared.fault.ClientFault.TheVariants.{Unmatched, CommandMismatch, ReferenceLimit}
use Rattle.dap_client.specs.declared.phase.Phase.{Phase}
use Rattle.dap_client.specs.declared.phase.Phase.TheVariants.{Fresh, Stopped, Resuming}
use Rattle.dap_client.specs.Changes.{Cause, resumed, answered, change_in}
use Rattle.dap_client.specs.Phases.{is_phase, is_among, phases_in_a_stop}
use Rattle.dap_client.specs.Projection.{class_of, class_if, is_inspection, ask_of, asks_seen, references_seen, references_given_if, client_model_phase, client_model_of, eyes_of, IsClient, IsTaken, IsRefused}
use Rattle.dap_client.specs.Seen.{Seen, kept_unless, after_change, known_after, after_body, after_response}
use Rattle.dap_client.specs.Session.{Session}
use Rattle.dap_client.specs.Taking.{Made, made_by_answer, answered_within, takes_answer}
use Rattle.dap_client.specs.Within.{IsWithin}
use Rattle.dap_client.proofs.ReferenceLemmas.{length-seen, with-seen}
use Rattle.dap_client.proofs.RequestLemmas.{IsAsked, is-asked, named-found, none-asked, other-name, without-seen}
use Rattle.dap_client.proofs.SendsProject.{same-model}

-- ---- a response comes

-- the change that it causes; whether it is the one that is waited for in Resuming
abbrev caused : Command → Phase → Bool → Bool → Option Change
caused c p b ok = if is_phase Resuming p && b then change_in (resumed ok) p else change_in (answered c ok) p

by_cause : (x : Bool) (y z : Cause) (p : Phase) → change_in (if x then y else z) p ≡ (if x then change_in y p else change_in z p)
by_cause true y z p = refl
by_cause false y z p = refl

-- the phase after a change, and whether all references end with it
abbrev phase_by : Option Change → Phase → Phase
phase_by None p = p
phase_by (Some c) p = c.to

abbrev clears_by : Option Change → Bool
clears_by None = false
clears_by (Some c) = c.clears

abbrev asked : ℕ → Option Command → List ℕ → Ask
asked q o name = record { seq = q; command = class_if o; which = name }

record IsCaused (c : Command) (p : Phase) (b ok : Bool) (q n : ℕ) (name : List ℕ) : Type 0 where
  phase : client_model_phase (phase_by (caused c p b ok) p) ≡ answered_phase (client_model_phase p) n (asked q (Some c) name) ok
  clears : clears_by (caused c p b ok) ≡ ((is_resuming (client_model_phase p) && b) && ok)

-- each command in each phase: the lines that name one split, and the others hold of all the rest
each-caused : (c : Command) (p : Phase) (b ok : Bool) (q n : ℕ) (name : List ℕ) → (q == n) ≡ b → IsCaused c p b ok q n name
each-caused command.Initialize Resuming true true q n name h = record { phase = rw h refl; clears = refl }
each-caused command.Initialize Resuming true false q n name h = record { phase = rw h refl; clears = refl }
each-caused command.Initialize Resuming false true q n name h = record { phase = rw h refl; clears = refl }
each-caused command.Initialize Resuming false false q n name h = record { phase = rw h refl; clears = refl }
each-caused _ Resuming true true q n name h = record { phase = rw h refl; clears = refl }
each-caused _ Resuming true false q n name h = record { phase = rw h refl; clears = refl }
each-caused _ Resuming false true q n name h = record { phase = rw h refl; clears = refl }
each-caused _ Resuming false false q n name h = record { phase = rw h refl; clears = refl }
each-caused command.Initialize Fresh true true q n name h = record { phase = refl; clears = refl }
each-caused command.Initialize Fresh true false q n name h = record { phase = refl; clears = refl }
each-caused command.Initialize Fresh false true q n name h = record { phase = refl; clears = refl }
each-caused command.Initialize Fresh false false q n name h = record { phase = refl; clears = refl }
each-caused _ Fresh true true q n name h = record { phase = refl; clears = refl }
each-caused _ Fresh true false q n name h = record { phase = refl; clears = refl }
each-caused _ Fresh false true q n name h = record { phase = refl; clears = refl }
each-caused _ Fresh false false q n name h = record { phase = refl; clears = refl }
each-caused _ _ true true q n name h = record { phase = refl; clears = refl }
each-caused _ _ true false q n name h = record { phase = refl; clears = refl }
each-caused _ _ false true q n name h = record { phase = refl; clears = refl }
each-caused _ _ false false q n name h = record { phase = refl; clears = refl }

moves-by : (o : Option Change) (t : Seen) → (after_change o t).phase ≡ phase_by o t.phase
moves-by None t = refl
moves-by (Some c) t = refl

keeps-if : (clears : Bool) (known : List (ReferenceKind × ℕ)) → references_seen (kept_unless clears known) ≡ (if clears then [] else references_seen known)
keeps-if true known = refl
keeps-if false known = refl

keeps-by : (o : Option Change) (t : Seen) → references_seen (after_change o t).known ≡ (if clears_by o then [] else references_seen t.known)
keeps-by None t = refl
keeps-by (Some c) t = keeps-if c.clears t.known

same-ready : (o : Option Change) (t : Seen) → (after_change o t).ready ≡ t.ready
same-ready None t = refl
same-ready (Some c) t = refl

same-resumer : (o : Option Change) (t : Seen) → (after_change o t).resumer ≡ t.resumer
same-resumer None t = refl
same-resumer (Some c) t = refl

same-announced : (o : Option Change) (t : Seen) → (after_change o t).announced ≡ t.announced
same-announced None t = refl
same-announced (Some c) t = refl

-- only inspections give references
pub none-given : (c : Command) (body : Data) → is_inspection (class_of c) ≡ false → references_given_by c body ≡ []
none-given command.Initialize body e = refl
none-given _ body e = cc

none-in : (c : Command) (body : Option Data) → is_inspection (class_of c) ≡ false → references_given_in (Some c) body ≡ []
none-in c None e = refl
none-in c (Some d) e = none-given c d e

-- what is learned
learned : (p : Phase) (i ok : Bool) (refs known : List (ReferenceKind × ℕ)) → (i ≡ false → refs ≡ [])
    → references_seen (with_pairs (if ok && is_among p phases_in_a_stop then refs else []) known) ≡ (if holds (client_model_phase p) && (ok && i) then with_refs (references_seen (if ok then refs else [])) (references_seen known) else references_seen known)
learned Stopped true true refs known none = with-seen refs known
learned Stopped false true refs known none = ap (λ (xs : List (ReferenceKind × ℕ)). references_seen (with_pairs xs known)) (none refl)
learned Stopped i false refs known none = refl
learned Resuming true true refs known none = with-seen refs known
learned Resuming false true refs known none = ap (λ (xs : List (ReferenceKind × ℕ)). references_seen (with_pairs xs known)) (none refl)
learned Resuming i false refs known none = refl
learned Fresh i true refs known none = refl
learned Fresh i false refs known none = refl
learned _ i true refs known none = refl
learned _ i false refs known none = refl

with-known : (s : Session) (q : ℕ) (ok : Bool) (name : List ℕ) (c : Command) (body : Option Data)
    → references_seen (known_after ok (Some c) body s.seen) ≡ given_with (eyes_of s) (small.Response (asked q (Some c) name) ok) (references_seen (references_given_if ok (Some c) body))
with-known s q ok name c body = learned s.seen.phase (is_inspection (class_of c)) ok (references_given_in (Some c) body) s.seen.known (none-in c body)

abbrev IsAskedAs : ℕ → Option Command → List ℕ → List Ask → Type 0
IsAskedAs q o name xs = (list_any (has_seq q) xs ≡ true) × (list_any (is_same (asked q o name)) xs ≡ true)

-- the answer to a request that waits
abbrev Answered : Session → ℕ → Bool → List ℕ → Option Command → Option Data → Session → Type 0
Answered s q ok name o body after =
    IsClient after (client_model_takes (client_model_of s) (small.Response (asked q o name) ok)) (given_after (eyes_of s) (small.Response (asked q o name) ok) (references_seen (references_given_if ok o body))) s.seen.announced (asks_seen s.incoming)

answer-taken : (s : Session) (q : ℕ) (ok : Bool) (name : List ℕ) (o : Option Command) (body : Option Data) (c : Command) → o ≡ Some c → command_named name ≡ o → IsAsked q name (asks_seen s.outstanding) → Answered s q ok name o body (made_by_answer q (after_response q ok o body s.seen) s).after
answer-taken s q ok name None body c e m a = cc
answer-taken s q ok name (Some d) body c e m a =
    let p : Phase = s.seen.phase in
    let b : Bool = q == s.seen.resumer in
    let t : Seen = after_body ok d body s.seen in
    let o : Option Change = caused d p b ok in
    let is = by_cause (is_phase Resuming p && b) (resumed ok) (answered d ok) p in
    let row = each-caused d p b ok q s.seen.resumer name refl in
    let same = subst (λ (x : Option Command). IsAskedAs q x name (asks_seen s.outstanding)) m (a.number, a.same) in
    let known = keeps-by o t ∙ (ap (λ (x : Bool). if x then [] else references_seen t.known) row.clears ∙ ap (λ (xs : List Ref). if (is_resuming (client_model_phase p) && b) && ok then [] else xs) (with-known s q ok name d body)) in
    let client : Answered s q ok name (Some d) body (made_by_answer q (after_change o t) s).after = record {
      client_is = rw (same.0, same.1) (same-model _ _ _ _ s.used _ _ _ _ (ap client_model_phase (moves-by o t) ∙ row.phase) (same-ready o t) (without-seen q s.outstanding) (same-resumer o t));
      given_is = known;
      announced_is = same-announced o t;
      incoming_is = refl;
    } in
    subst (λ (x : Option Change). Answered s q ok name (Some d) body (made_by_answer q (after_change x t) s).after) (sym is) client

-- of two answers, under one test
matched-if : {X : Type 0} (b : Bool) (x : Result X ClientFault) (y : X) (f : ClientFault) → (if b then x else Err f) ≡ Ok y → (b ≡ true) × (x ≡ Ok y)
matched-if true x y f e = (refl, e)
matched-if false x y f e = cc

within-test : (m n : ℕ) → nat_le m n ≡ true → m ≤ n
within-test m n h = grind (arith, nat_tests)

past-test : (m n : ℕ) → nat_le m n ≡ false → n < m
past-test m n h = grind (arith, nat_tests)

-- the request that it answers, with its command
record IsMatched (s : Session) (q : ℕ) (name : List ℕ) : Type 0 where
  command : Command
  named : command_named name ≡ Some command
  is_asked : IsAsked q name (asks_seen s.outstanding)

matched : (s : Session) (q : ℕ) (name : List ℕ) (r : Entry) → IsWithin s → entry_with q s.outstanding ≡ Some r → bytes_eq name r.command ≡ true → IsMatched s q name
matched s q name r w e h =
    let same : name ≡ r.command = names-same name r.command h in
    let known = named-found q r s.outstanding w.named e in
    record { command = known.0; named = ap command_named same ∙ known.1; is_asked = subst (λ (n : List ℕ). IsAsked q n (asks_seen s.outstanding)) (sym same) (is-asked q r s.outstanding e) }

length-with : (s : Session) (q : ℕ) (ok : Bool) (name : List ℕ) (o : Option Command) (body : Option Data) (c : Command) → o ≡ Some c
    → length (known_after ok o body s.seen) ≡ length (given_with (eyes_of s) (small.Response (asked q o name) ok) (references_seen (references_given_if ok o body)))
length-with s q ok name None body c e = cc
length-with s q ok name (Some d) body c e = sym (length-seen (known_after ok (Some d) body s.seen)) ∙ ap length (with-known s q ok name d body)

abbrev Taken : Session → ℕ → Bool → List ℕ → Option Data → Made → Type 0
Taken s q ok name body made =
    IsTaken s (after_response q ok (command_named name) body s.seen) (without q s.outstanding)
    (small.Response (ask_of q name) ok) (references_seen (references_given_if ok (command_named name) body)) made

-- the references known with those of the response
abbrev known_with : Session → ℕ → Bool → List ℕ → Option Data → ℕ
known_with s q ok name body =
    length (given_with (eyes_of s) (small.Response (ask_of q name) ok) (references_seen (references_given_if ok (command_named name) body)))

pub record TakesAnswer (s : Session) (q : ℕ) (ok : Bool) (name : List ℕ) (body : Option Data) (made : Made) : Type 0 where
  pub taken : Taken s q ok name body made
  pub few : known_with s q ok name body ≤ s.limits.references

answer-is : (s : Session) (q : ℕ) (ok : Bool) (name : List ℕ) (body : Option Data) (o : Option Entry) (made : Made) → IsWithin s → entry_with q s.outstanding ≡ o → takes_answer o q ok name body s ≡ Ok made
    → TakesAnswer s q ok name body made
answer-is s q ok name body None made w e h = cc
answer-is s q ok name body (Some r) made w e h =
    let whole : Made = made_by_answer q (after_response q ok (command_named name) body s.seen) s in
    let fits : Bool = nat_le (length (known_after ok (command_named name) body s.seen)) s.limits.references in
    let one = matched-if (bytes_eq name r.command) (answered_within q ok name body s) made (CommandMismatch q) h in
    let two = matched-if fits (Ok whole) made ReferenceLimit one.1 in
    let is : whole ≡ made = let same = two.1 in cc in
    let m = matched s q name r w e one.0 in
    let few = within-test (length (known_after ok (command_named name) body s.seen)) s.limits.references two.0 in
    let long = length-with s q ok name (command_named name) body m.command m.named in
    let taken : Taken s q ok name body whole = record {
      after = answer-taken s q ok name (command_named name) body m.command m.named refl m.is_asked;
      silent = refl;
      used = refl;
      seen_is = refl;
      requests = record { outstanding_is = refl; incoming_is = refl };
    } in
    record {
      taken = subst (λ (x : Made). Taken s q ok name body x) is taken;
      few = subst (λ (n : ℕ). n ≤ s.limits.references) long few;
    }

fault-if : (b : Bool) (made : Made) (f : ClientFault) → (let x : Result Made ClientFault = Ok made in if b then x else Err ReferenceLimit) ≡ Err f → (b ≡ false) × (f ≡ ReferenceLimit)
fault-if true made f e = cc
fault-if false made f e = let same : ReferenceLimit ≡ f = cc in (refl, sym same)

-- the model's fault, if any, by whether a request of that number, and of that name, is outstanding
unmatched-if : (b : Bool) (x c : ClientModel) → b ≡ false → (let m : ClientModel = (if b then x else record c { fault = Some model.Unmatched }) in m).fault ≡ Some model.Unmatched
unmatched-if true x c e = cc
unmatched-if false x c e = refl

mismatched-if : (a b : Bool) (x y c : ClientModel) → a ≡ true → b ≡ false → (let m : ClientModel = (if a then (if b then x else record c { fault = Some model.CommandMismatch }) else y) in m).fault ≡ Some model.CommandMismatch
mismatched-if true true x y c e h = cc
mismatched-if true false x y c e h = refl
mismatched-if false b x y c e h = cc

answered-if : (a b : Bool) (x y z : ClientModel) → a ≡ true → b ≡ true → x.fault ≡ None → (let m : ClientModel = (if a then (if b then x else y) else z) in m).fault ≡ None
answered-if true true x y z e h g = g
answered-if true false x y z e h g = cc
answered-if false b x y z e h g = cc

abbrev taken_by : ClientModel → Ask → Bool → ClientModel
taken_by c a ok = record c { phase = answered_phase c.phase c.resumer a ok; asked = requests_without a.seq c.asked }

abbrev Refused : Session → ℕ → Bool → List ℕ → Option Data → ClientFault → Type 0
Refused s q ok name body f = IsRefused s q (small.Response (ask_of q name) ok) (references_seen (references_given_if ok (command_named name) body)) f

refused-if : (b : Bool) (s : Session) (q : ℕ) (ok : Bool) (name : List ℕ) (body : Option Data) (r : Entry) (f : ClientFault) → IsWithin s → entry_with q s.outstanding ≡ Some r → bytes_eq name r.command ≡ b
    → (if b then answered_within q ok name body s else Err (CommandMismatch q)) ≡ Err f → Refused s q ok name body f
refused-if true s q ok name body r f w e n h =
    let known : ℕ = length (known_after ok (command_named name) body s.seen) in
    let over = fault-if (nat_le known s.limits.references) (made_by_answer q (after_response q ok (command_named name) body s.seen) s) f h in
    let m = matched s q name r w e n in
    let many = past-test known s.limits.references over.0 in
    let long = length-with s q ok name (command_named name) body m.command m.named in
    let c : ClientModel = client_model_of s in
    let none = answered-if (list_any (has_seq q) c.asked) (list_any (is_same (ask_of q name)) c.asked) (taken_by c (ask_of q name) ok) (record c { fault = Some model.CommandMismatch }) (record c { fault = Some model.Unmatched }) m.is_asked.number m.is_asked.same refl in
    inl (over.1, none, subst (λ (n : ℕ). s.limits.references < n) long many)
refused-if false s q ok name body r f w e n h =
    let same : CommandMismatch q ≡ f = cc in
    let there = is-asked q r s.outstanding e in
    let c : ClientModel = client_model_of s in
    inr (inr (sym same, mismatched-if (list_any (has_seq q) c.asked) (list_any (is_same (ask_of q name)) c.asked) (taken_by c (ask_of q name) ok) (record c { fault = Some model.Unmatched }) c there.number (other-name q r s.outstanding name w.distinct e n)))

answer-refused : (s : Session) (q : ℕ) (ok : Bool) (name : List ℕ) (body : Option Data) (o : Option Entry) (f : ClientFault) → IsWithin s → entry_with q s.outstanding ≡ o → takes_answer o q ok name body s ≡ Err f → Refused s q ok name body f
answer-refused s q ok name body None f w e h =
    let same : Unmatched q ≡ f = cc in
    let c : ClientModel = client_model_of s in
    let matched : ClientModel = (if list_any (is_same (ask_of q name)) c.asked then taken_by c (ask_of q name) ok else record c { fault = Some model.CommandMismatch }) in
    inr (inl (sym same, unmatched-if (list_any (has_seq q) c.asked) matched c (none-asked q s.outstanding e)))
answer-refused s q ok name body (Some r) f w e h = refused-if (bytes_eq name r.command) s q ok name body r f w e refl h

pub response-taken : (s : Session) (q : ℕ) (ok : Bool) (name : List ℕ) (body : Option Data) (made : Made) → IsWithin s → takes_answer (entry_with q s.outstanding) q ok name body s ≡ Ok made → TakesAnswer s q ok name body made
response-taken s q ok name body made w h = answer-is s q ok name body (entry_with q s.outstanding) made w refl h

pub response-refused : (s : Session) (q : ℕ) (ok : Bool) (name : List ℕ) (body : Option Data) (f : ClientFault) → IsWithin s → takes_answer (entry_with q s.outstanding) q ok name body s ≡ Err f → Refused s q ok name body f
response-refused s q ok name body f w h = answer-refused s q ok name body (entry_with q s.outstanding) f w refl h
