-- Each step of a client is the model's: what events change, requests of the adapter, and the law.
use Rattle.std.proofs.Common.{◌≡◌, ℕ, ◌≤◌, ◌<◌, List, [], ◌∷◌, Bool, true, false, Option, Some, None, Result, Ok, Err, refl, sym, ap, ◌∙◌, subst, arith}
use Rattle.std.specs.Prelude.{nat_le, nat_lt, if◌then◌else◌}
use Rattle.std.proofs.lemmas.Bool.Decides.{nat_tests}
use Rattle.std.proofs.lemmas.List.{map-append}
use Rattle.serde_json.specs.Data.{Data}
use Rattle.dap_ends.specs.Messages as small
use Rattle.dap_ends.specs.ClientModel.{client_model_takes}
use Rattle.dap_ends.specs.References.{given_after}
use Rattle.dap_body.specs.declared.failure.Failure.{Failure}
use Rattle.dap_envelope.specs.declared.message.Kind.TheVariants.{Event}
use Rattle.dap_tables.specs.Outstanding.{Kept, kept_unparked}
use Rattle.dap_tables.specs.declared.entry.Entry.{Entry}
use Rattle.dap_client.specs.declared.fault.ClientFault.{ClientFault}
use Rattle.dap_client.specs.declared.fault.ClientFault.TheVariants.{RepeatedSeq, SeqExhausted}
use Rattle.dap_client.specs.declared.phase.Phase.{Phase}
use Rattle.dap_client.specs.declared.phase.Phase.TheVariants.{Fresh}
use Rattle.dap_client.specs.declared.signal.Signal.{Signal}
use Rattle.dap_client.specs.declared.signal.Signal.TheVariants as signal
use Rattle.dap_client.specs.Changes.{signal_named}
use Rattle.dap_client.specs.Projection.{entry_ask, asks_seen, kind_if, client_model_of, eyes_of, IsClient, IsTaken, is_repeated, failure_of, EachStepProjects}
use Rattle.dap_client.specs.Seen.{after_event}
use Rattle.dap_client.specs.Session.{Session}
use Rattle.dap_client.specs.Taking.{Made, made_without_writing, failure_at_once, failure_in, made_by_declining, keeps_or_declines, takes_request, takes_as}
use Rattle.dap_client.proofs.AnswersProject.{none-given, response-refused, response-taken}
use Rattle.dap_client.proofs.Refusals.{none-holds}
use Rattle.dap_client.proofs.RequestLemmas.{contains-seen, length-asks, without-seen}
use Rattle.dap_client.proofs.SendsProject.{all-carried, call-sent, each-allowed}
use Rattle.dap_client.proofs.TerminalRequests.{announces}

abbrev at : Phase → Session → Session
at p s = record s { seen = record s.seen { phase = p } }

abbrev Told : Option Signal → Option Data → Session → Type 0
Told x body s = IsClient (record s { seen = after_event x body s.seen }) (client_model_takes (client_model_of s) (small.Event (kind_if x))) (given_after (eyes_of s) (small.Event (kind_if x)) []) s.seen.announced (asks_seen s.incoming)

-- each event in each phase: the lines that name one split, and the others hold of all the rest
each-told : (p : Phase) (x : Option Signal) (body : Option Data) (s : Session) → Told x body (at p s)
each-told Fresh None body s = record { client_is = refl; given_is = refl; announced_is = refl; incoming_is = refl }
each-told Fresh (Some signal.Initialized) body s = record { client_is = refl; given_is = refl; announced_is = refl; incoming_is = refl }
each-told Fresh (Some _) body s = record { client_is = refl; given_is = refl; announced_is = refl; incoming_is = refl }
each-told _ None body s = record { client_is = refl; given_is = refl; announced_is = refl; incoming_is = refl }
each-told _ (Some signal.Initialized) body s = record { client_is = refl; given_is = refl; announced_is = refl; incoming_is = refl }
each-told _ (Some _) body s = record { client_is = refl; given_is = refl; announced_is = refl; incoming_is = refl }

event-taken : (s : Session) (seq : ℕ) (name : List ℕ) (body : Option Data) (made : Made) → takes_as seq (Event name body) s ≡ Ok made
    → IsTaken s (after_event (signal_named name) body s.seen) s.outstanding (small.Event (kind_if (signal_named name))) [] made
event-taken s seq name body made e =
    let heard : Made = made_without_writing (record s { seen = after_event (signal_named name) body s.seen }) in
    let same : heard ≡ made = cc in
    let taken : IsTaken s (after_event (signal_named name) body s.seen) s.outstanding (small.Event (kind_if (signal_named name))) [] heard = record {
      after = each-told s.seen.phase (signal_named name) body s;
      silent = refl;
      used = refl;
      seen_is = refl;
      requests = record { outstanding_is = refl; incoming_is = refl };
    } in
    subst (λ (x : Made). IsTaken s (after_event (signal_named name) body s.seen) s.outstanding (small.Event (kind_if (signal_named name))) [] x) same taken

-- ---- a request of the adapter comes

-- by whether it repeats a number, and by the failure with which it is answered at once
abbrev taken_by : Bool → Option Failure → Entry → Session → Result Made ClientFault
taken_by repeated failure r s = if repeated then Err (RepeatedSeq r.seq) else keeps_or_declines failure r s

request-taken : (b : Bool) (o : Option Failure) (s : Session) (r : Entry) → is_repeated r s ≡ b → failure_of r s ≡ o → takes_request r s ≡ taken_by b o r s
request-taken b o s r h f =
    ap (λ (x : Bool). taken_by x (failure_in r s) r s) (contains-seen r.seq s.incoming ∙ h)
    ∙ ap (λ (x : Option Failure). taken_by b x r s) (ap (λ (n : ℕ). failure_at_once r.command r.arguments s.seen.announced (nat_le s.limits.requests n)) (sym (length-asks s.incoming)) ∙ f)

below-test : (m n : ℕ) → m < n → nat_lt m n ≡ true
below-test m n h = grind (arith, nat_tests)

above-test : (m n : ℕ) → n ≤ m → nat_lt m n ≡ false
above-test m n h = grind (arith, nat_tests)

-- by whether a number is left
abbrev declined_by : Bool → Entry → Failure → Session → Result Made ClientFault
declined_by left r failure s = if left then Ok (made_by_declining r.seq r.command failure s) else Err SeqExhausted

request-declined : (s : Session) (r : Entry) (failure : Failure) → is_repeated r s ≡ false → failure_of r s ≡ Some failure → s.used < s.limits.seq
    → takes_request r s ≡ Ok (made_by_declining r.seq r.command failure s)
request-declined s r failure h f n =
    request-taken false (Some failure) s r h f ∙ ap (λ (x : Bool). declined_by x r failure s) (below-test s.used s.limits.seq n)

request-exhausts : (s : Session) (r : Entry) (failure : Failure) → is_repeated r s ≡ false → failure_of r s ≡ Some failure → s.limits.seq ≤ s.used → takes_request r s ≡ Err SeqExhausted
request-exhausts s r failure h f n =
    request-taken false (Some failure) s r h f ∙ ap (λ (x : Bool). declined_by x r failure s) (above-test s.used s.limits.seq n)

-- ---- the law

pub each_step_projects : EachStepProjects
each_step_projects = record {
  allowed = each-allowed;
  sent = call-sent;
  waits = λ s c. record { outstanding_is = refl; incoming_is = refl };
  announced = λ a. sym (announces a);
  answered = λ s seq q ok name why body made w e. (response-taken s q ok name body made w e).taken;
  few = λ s seq q ok name why body made w e. (response-taken s q ok name body made w e).few;
  refused = λ s seq q ok name why body f w e. response-refused s q ok name body f w e;
  told = event-taken;
  hears = λ s seq name body. (made_without_writing (record s { seen = after_event (signal_named name) body s.seen }), refl);
  ignores = λ s seq tag. refl;
  repeats = λ s r h. request-taken true (failure_of r s) s r h refl;
  keeps = λ s r h f. request-taken false None s r h f;
  kept = λ s r. record { client_is = refl; given_is = refl; announced_is = refl; incoming_is = map-append (λ (k : Kept). entry_ask k.entry) s.incoming (kept_unparked r ∷ []) };
  declines = request-declined;
  declined = λ s q name failure. record { client_is = refl; given_is = refl; announced_is = refl; incoming_is = refl };
  exhausts = request-exhausts;
  terminal = λ s q. record { client_is = refl; given_is = refl; announced_is = refl; incoming_is = without-seen q s.incoming };
  others = λ s q. record { outstanding_is = refl; incoming_is = refl };
  free = none-holds;
  gives = none-given;
  names = all-carried;
}
