use Rattle.std.proofs.Common.{◌≡◌, ℕ, List, None, sym, ap, subst, ◌∙◌}
use Rattle.dap_recording.specs.Variables.{assigned_to}
use Rattle.dap_debuggee.specs.declared.answers.Variable.{Variable}
use Rattle.dap_replay.specs.Played.{Played, OfHolder, with_variables, with_text}
use Rattle.dap_replay.specs.PrivateHeld.{KeepHolders}
use Rattle.dap_replay.proofs.Changed.{keep-value, set-text}
use Rattle.dap_replay.proofs.recorded.Recorded.put_value.Goals as goal

pub invariant_of-self-2 : goal.invariant_of-self-2
invariant_of-self-2 c =
    let holder = c.args.holder in
    let v = c.args.self.now in
    let changed = with_text c.args.name.now c.args.text.now c.in-Some.held.now in
    let stored : c.put.new.self ≡ with_variables holder changed c.self.inside.changed =
    c.in_ok-put.ensures.put ∙ ap (λ (xs : List Variable). with_variables holder xs c.self.inside.changed) (c.in_ok-changed.ensures ∙ set-text c.args.name.now c.args.text.now c.in-Some.held.now c.in-Some-named.variable.now c.in_ok-assigned.assigned c.in-Some-named.ensures (c.in_ok-assigned.ensures ∙ ap (λ (t : List ℕ). assigned_to t None c.in-Some-named.variable.now) c.in_ok-copied.ensures)) in
    let before = subst (λ (w : Played). KeepHolders w.recording.variables w.changed) c.self.view_is c.self.invariant.4 in
    let after = keep-value v holder c.args.name.now c.args.text.now c.in-Some.held.now before (sym c.in-Some.ensures) in
    let inside = subst (λ (w : Played). KeepHolders w.recording.variables (with_variables holder changed w.changed)) (sym c.self.view_is) after in
    (c.self.invariant.0, c.self.invariant.1, c.self.invariant.2, c.self.invariant.3, subst (λ (cs : List OfHolder). KeepHolders c.self.inside.recording.variables cs) (sym stored) inside)
