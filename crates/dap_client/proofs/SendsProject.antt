-- What a client sends is a step of the model: the tables compared, each command in each phase.
use Rattle.std.proofs.Common.{◌≡◌, ℕ, ◌+◌, List, [], ◌∷◌, ◌++◌, Bool, true, false, Option, None, refl, sym, ap, ◌∙◌, true≢false}
use Rattle.std.proofs.lemmas.List.{map-append}
use Rattle.serde_json.specs.Data.{Data}
use Rattle.dap_ends.specs.Messages.{Ask}
use Rattle.dap_ends.specs.ClientModel.{ClientModel, Phase as ModelPhase, allows, phase_sent, resumer_sent, next_ask, after_sending}
use Rattle.dap_ends.specs.References.{given_sent, references_carried}
use Rattle.dap_ends.specs.Pair.{announced_after_sending}
use Rattle.dap_call.specs.CallTree.{command_of, call_tree}
use Rattle.dap_call.specs.declared.call.Call.{Call}
use Rattle.dap_call.specs.declared.call.Call.TheVariants as call
use Rattle.dap_command.specs.Command.{name_of}
use Rattle.dap_command.specs.declared.command.Command.{Command}
use Rattle.dap_command.specs.declared.command.Command.TheVariants as command
use Rattle.dap_tables.specs.Outstanding.{Kept, kept_unparked}
use Rattle.dap_client.specs.declared.phase.Phase.{Phase}
use Rattle.dap_client.specs.declared.phase.Phase.TheVariants.{Fresh, Initializing, Ended}
use Rattle.dap_client.specs.Projection.{class_of, class_if, entry_ask, asks_seen, references_seen, client_model_phase, client_model_of, given_of, announces_terminals, IsClient}
use Rattle.dap_client.specs.References.{references_used_by}
use Rattle.dap_client.specs.Seen.{Seen, announced_after, after_sent}
use Rattle.dap_client.specs.Sending.{request_of, after_send}
use Rattle.dap_client.specs.Session.{Session}
use Rattle.dap_client.specs.Table.{is_sent_in}
use Rattle.dap_client.proofs.RequestLemmas.{named-back}
use Rattle.dap_client.proofs.TerminalRequests.{announces}

-- ---- what the phase lets a client send

-- each command in each phase: the lines that name one split, and the others hold of all the rest
pub each-allowed : (c : Command) (p : Phase) (ready : Bool) → is_sent_in c p ready ≡ allows (client_model_phase p) ready (class_of c)
each-allowed command.Initialize Fresh true = refl
each-allowed command.Initialize Fresh false = refl
each-allowed _ Fresh true = refl
each-allowed _ Fresh false = refl
each-allowed _ _ true = refl
each-allowed _ _ false = refl

-- ---- a request is sent

-- a client of the model with the same phase, requests and resumer
pub same-model : (p q : ModelPhase) (a b : Bool) (n i j : ℕ) (xs ys : List Ask) → p ≡ q → a ≡ b → xs ≡ ys → i ≡ j
    → (let c : ClientModel = record { phase = p; ready = a; last = n; asked = xs; resumer = i; fault = None } in c) ≡ (let c : ClientModel = record { phase = q; ready = b; last = n; asked = ys; resumer = j; fault = None } in c)
same-model p q a b n i j xs ys e f g h =
    ap (λ (x : ModelPhase). let c : ClientModel = record { phase = x; ready = a; last = n; asked = xs; resumer = i; fault = None } in c) e
    ∙ (ap (λ (x : Bool). let c : ClientModel = record { phase = q; ready = x; last = n; asked = xs; resumer = i; fault = None } in c) f
    ∙ (ap (λ (x : List Ask). let c : ClientModel = record { phase = q; ready = b; last = n; asked = x; resumer = i; fault = None } in c) g
    ∙ ap (λ (x : ℕ). let c : ClientModel = record { phase = q; ready = b; last = n; asked = ys; resumer = x; fault = None } in c) h))

abbrev after : Command → ℕ → Option Data → Phase → Seen → Seen
after c n arguments p s = after_sent n c arguments (record s { phase = p })

record IsSent (c : Command) (p : Phase) (n : ℕ) (arguments : Option Data) (s : Seen) : Type 0 where
  phase : client_model_phase (after c n arguments p s).phase ≡ phase_sent (client_model_phase p) (class_of c)
  ready : (after c n arguments p s).ready ≡ s.ready
  resumer : (after c n arguments p s).resumer ≡ resumer_sent (client_model_phase p) (class_of c) n s.resumer
  known : references_seen (after c n arguments p s).known ≡ given_sent (class_of c) (references_seen s.known)

-- a disconnect is sent in no phase in which it changes nothing
each-sent : (c : Command) (p : Phase) (n : ℕ) (arguments : Option Data) (s : Seen) → is_sent_in c p s.ready ≡ true → IsSent c p n arguments s
each-sent command.Disconnect Fresh n arguments s e = absurd (true≢false (sym e))
each-sent command.Disconnect Initializing n arguments s e = absurd (true≢false (sym e))
each-sent command.Disconnect Ended n arguments s e = absurd (true≢false (sym e))
each-sent _ Fresh n arguments s e = record { phase = refl; ready = refl; resumer = refl; known = refl }
each-sent _ _ n arguments s e = record { phase = refl; ready = refl; resumer = refl; known = refl }

-- what it announces
announced-so : (c : Call) (before : Bool) → announced_after (command_of c) (call_tree c) before ≡ announced_after_sending (class_of (command_of c)) (announces_terminals c) before
announced-so (call.Initialize a) before = sym (announces a)
announced-so _ before = refl

pub call-sent : (s : Session) (c : Call) → is_sent_in (command_of c) s.seen.phase s.seen.ready ≡ true
    → IsClient (after_send c s) (after_sending (client_model_of s) (class_of (command_of c)) (name_of (command_of c))) (given_sent (class_of (command_of c)) (given_of s)) (announced_after_sending (class_of (command_of c)) (announces_terminals c) s.seen.announced) (asks_seen s.incoming)
call-sent s c e =
    let row = each-sent (command_of c) s.seen.phase (s.used + 1) (call_tree c) s.seen e in
    let asked : asks_seen (s.outstanding ++ kept_unparked (request_of (s.used + 1) c) ∷ []) ≡ asks_seen s.outstanding ++ next_ask (client_model_of s) (class_of (command_of c)) (name_of (command_of c)) ∷ [] =
    map-append (λ (k : Kept). entry_ask k.entry) s.outstanding (kept_unparked (request_of (s.used + 1) c) ∷ [])
    ∙ ap (λ (o : Option Command). asks_seen s.outstanding ++ (let a : Ask = record { seq = s.used + 1; command = class_if o; which = name_of (command_of c) } in a) ∷ []) (named-back (command_of c)) in
    record {
      client_is = same-model _ _ _ _ (s.used + 1) _ _ _ _ row.phase row.ready asked row.resumer;
      given_is = row.known;
      announced_is = announced-so c s.seen.announced;
      incoming_is = refl;
    }

-- only inspections name references
pub all-carried : (c : Call) → references_carried (class_of (command_of c)) (references_seen (references_used_by c)) ≡ references_seen (references_used_by c)
all-carried (call.Initialize a) = refl
all-carried _ = refl
