-- What is kept of the lines so far has the reason of a finding at the next.
use Rattle.std.proofs.Common.{◌≡◌, ℕ, List, Bool, true, Option, Some, None, refl, sym, ap, ◌∙◌}
use Rattle.std.specs.Prelude.{cond, bytes_eq, is_some, option_map}
use Rattle.std.specs.List.{list_any}
use Rattle.serde_json.specs.Data.{Data}
use Rattle.dap_command.specs.declared.command.Gate.{Gate}
use Rattle.dap_envelope.specs.declared.message.Kind.{Kind}
use Rattle.dap_envelope.specs.declared.message.Kind.TheVariants.{Response}
use Rattle.dap_check.specs.Lines.{other_side, asks_for, answers, succeeds}
use Rattle.dap_check.specs.Rules.{initialize}
use Rattle.dap_check.specs.Places.{switches_on, switches_off}
use Rattle.dap_check.specs.declared.line.Line.{Line}
use Rattle.dap_check.specs.declared.line.Side.{Side}
use Rattle.dap_check.specs.declared.line.Side.TheVariants.{Client, Adapter}
use Rattle.dap_explain.specs.KeptNotes.{waiting_at, last_at, asked_of, decision_at, is_on_in, line_in, AreAsked, AreNotes}
use Rattle.dap_explain.specs.Reasons.{trail, no_line, decides, not_asked_reason, answer_reason, gate_reason, is_open_still}
use Rattle.dap_explain.specs.declared.asked.Asked.{Asked}
use Rattle.dap_explain.specs.declared.decisions.Decision.{Decision}
use Rattle.dap_explain.specs.declared.notes.Notes.{Notes}
use Rattle.dap_explain.specs.declared.reason.Reason.{Reason}
use Rattle.dap_explain.specs.declared.reason.Reason.TheVariants.{NotOffered, NotInitialized}
use Rattle.dap_explain.specs.declared.trail.Last.{Last}
use Rattle.dap_explain.specs.declared.trail.Opened.{Opened}
use Rattle.dap_explain.specs.declared.trail.Trails.{Trails}
use Rattle.dap_explain.proofs.ReasonLemmas.{open_trail}

module _ (notes : Notes) (earlier : List Line) (is : AreNotes notes earlier) where
  pub answer_so : (side : Side) (seq request_seq : ℕ) (success : Bool) (command : List ℕ) (message : Option (List ℕ)) (body : Option Data)
      → (let last = last_at (asked_of notes (other_side side)) request_seq in
      cond (list_any (λ name. bytes_eq name command) (waiting_at (asked_of notes (other_side side)) request_seq)) None (Some (not_asked_reason request_seq last.opened last.closed)))
      ≡ answer_reason earlier side seq (Response request_seq success command message body)
  answer_so side seq request_seq success command message body =
      let asker = other_side side in
      let asked = is.asked asker in
      let last = last_at (asked_of notes asker) request_seq in
      ap (λ b. cond b None (Some (not_asked_reason request_seq last.opened last.closed))) (asked.waits request_seq command ∙ sym (open_trail (asks_for asker request_seq command) (answers (other_side asker) request_seq) earlier))
      ∙ ap (λ (l : Last). cond (is_open_still (trail (asks_for asker request_seq command) (λ n. answers (other_side asker) request_seq) earlier)) None (Some (not_asked_reason request_seq l.opened l.closed))) (asked.last request_seq)

  not_offered : (gate : Gate) (decision : Option Decision) (opened : Option Opened) → line_in decision ≡ option_map (λ (last : Opened). last.line) opened
      → option_map (λ (d : Decision). NotOffered gate d.line) decision ≡ option_map (λ (last : Opened). NotOffered gate last.line) opened
  not_offered gate None None e = refl
  not_offered gate None (Some o) e = absurd (cc e)
  not_offered gate (Some d) None e = absurd (cc e)
  not_offered gate (Some d) (Some o) e = let same : d.line ≡ o.line = cc e in ap (λ n. Some (NotOffered gate n)) same

  pub gate_so : (gate : Gate)
      → (let decision = decision_at notes.decisions gate in
      cond (is_some notes.trails.initialized.opened) (cond (is_on_in decision) None (option_map (λ (d : Decision). NotOffered gate d.line) decision)) (Some (NotInitialized gate)))
      ≡ gate_reason earlier (Some gate)
  gate_so gate =
      let decision = decision_at notes.decisions gate in
      let decided = is.decisions gate in
      let why = option_map (λ (d : Decision). NotOffered gate d.line) decision in
      ap (λ (t : Trails). cond (is_some t.initialized.opened) (cond (is_on_in decision) None why) (Some (NotInitialized gate))) is.trails
      ∙ ap (λ b. cond (is_some (trail (succeeds initialize) no_line earlier).opened) (cond b None why) (Some (NotInitialized gate))) (decided.on ∙ sym (open_trail (switches_on gate) (switches_off gate) earlier))
      ∙ ap (λ (r : Option Reason). cond (is_some (trail (succeeds initialize) no_line earlier).opened) (cond (is_open_still (trail (switches_on gate) (λ n. switches_off gate) earlier)) None r) (Some (NotInitialized gate)))
      (not_offered gate decision (trail (decides gate) no_line earlier).opened decided.line)

  pub answer_by : (side : Side) (seq request_seq : ℕ) (success : Bool) (command : List ℕ) (message : Option (List ℕ)) (body : Option Data) (kind : Kind) (asked : Asked) (waits : Bool) (last : Last) (result : Option Reason)
      → kind ≡ Response request_seq success command message body → asked ≡ asked_of notes (other_side side) → waits ≡ list_any (λ name. bytes_eq name command) (waiting_at asked request_seq) → last ≡ last_at asked request_seq
      → result ≡ cond waits None (Some (not_asked_reason request_seq last.opened last.closed)) → result ≡ answer_reason earlier side seq kind
  answer_by side seq request_seq success command message body kind asked waits last result of_kind of_side of_waits of_last e =
      let asker = asked_of notes (other_side side) in
      e
      ∙ ap (λ b. cond b None (Some (not_asked_reason request_seq last.opened last.closed))) (of_waits ∙ ap (λ (a : Asked). list_any (λ name. bytes_eq name command) (waiting_at a request_seq)) of_side)
      ∙ ap (λ (l : Last). cond (list_any (λ name. bytes_eq name command) (waiting_at asker request_seq)) None (Some (not_asked_reason request_seq l.opened l.closed))) (of_last ∙ ap (λ (a : Asked). last_at a request_seq) of_side)
      ∙ answer_so side seq request_seq success command message body
      ∙ ap (answer_reason earlier side seq) (sym of_kind)

  pub gate_by : (gate : Gate) (decision : Option Decision) (result : Option Reason) (asked : Option Gate) (is_client : Bool) → decision ≡ decision_at notes.decisions gate
      → result ≡ cond (is_some notes.trails.initialized.opened) (cond (is_on_in decision) None (option_map (λ (d : Decision). NotOffered gate d.line) decision)) (Some (NotInitialized gate))
      → asked ≡ Some gate → is_client ≡ true → result ≡ cond is_client (gate_reason earlier asked) None
  gate_by gate decision result asked is_client decided e of_gate client =
      e
      ∙ ap (λ (d : Option Decision). cond (is_some notes.trails.initialized.opened) (cond (is_on_in d) None (option_map (λ (x : Decision). NotOffered gate x.line) d)) (Some (NotInitialized gate))) decided
      ∙ gate_so gate ∙ ap (gate_reason earlier) (sym of_gate) ∙ ap (λ b. cond b (gate_reason earlier asked) None) (sym client)

pub asked_both : (notes : Notes) (earlier : List Line) → AreAsked notes.client Client earlier → AreAsked notes.adapter Adapter earlier → (side : Side) → AreAsked (asked_of notes side) side earlier
asked_both notes earlier client adapter Client = client
asked_both notes earlier client adapter Adapter = adapter
