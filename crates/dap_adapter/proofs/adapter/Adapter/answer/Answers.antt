use Rattle.std.proofs.Common.{◌≡◌, ℕ, List, ap, sym, subst, ◌∙◌}
use Rattle.dap_decision.specs.Table.{is_phase}
use Rattle.dap_plan.specs.declared.fault.AdapterFault.{AdapterFault}
use Rattle.dap_decision.specs.declared.phase.Phase.{Phase}
use Rattle.dap_decision.specs.declared.phase.Phase.TheVariants.{Ended}
use Rattle.dap_adapter.specs.Parts.{AnswersPiece, StopsAfter}
use Rattle.dap_adapter.specs.Run.{to_take}
use Rattle.dap_adapter.proofs.Appending.{nothing_used, answered_piece, stopped_after}
use Rattle.dap_adapter.proofs.adapter.Adapter.answer.Goals as goal

pub returns-then-is_ended-clause-answers : goal.returns-then-is_ended-clause-answers
returns-then-is_ended-clause-answers g c =
    nothing_used g.D.Debuggee.shown g.D.Debuggee.follows c.args.self.now c.args.piece.now c.args.out.now.items (ap (λ (p : Phase). is_phase Ended p) (sym c.phase.ensures) ∙ (sym c.is_ended.ensures ∙ c.if-is_ended.true))

pub returns-in-Ok-clause-answers : goal.returns-in-Ok-clause-answers
returns-in-Ok-clause-answers g c =
    let before : c.behind-gathered.result ≡ c.args.out.now.items = c.behind-gathered.ensures ∙ ap (λ (v : _). v.items) c.replace.ensures.value in
    subst (λ (x : List ℕ). AnswersPiece g.D.Debuggee.shown g.D.Debuggee.follows c.args.self.now c.args.piece.now x c.serve_piece-served.new.adapter c.into_buffer.result.items c.in-Ok.ended) before
    (subst (λ (y : List ℕ). AnswersPiece g.D.Debuggee.shown g.D.Debuggee.follows c.args.self.now c.args.piece.now c.behind-gathered.result c.serve_piece-served.new.adapter y c.in-Ok.ended) (sym c.into_buffer.ensures)
    (answered_piece g.D.Debuggee.shown g.D.Debuggee.follows _ _ c.args.piece.now c.in-Ok.ended (c.in-Ok.ensures.uses_up (ap (λ (p : Phase). is_phase Ended p) (sym c.phase.ensures) ∙ (sym c.is_ended.ensures ∙ c.if-is_ended.false)))))

pub returns-in-Err-clause-stops : goal.returns-in-Err-clause-stops
returns-in-Err-clause-stops g c = λ none.
    let before : c.behind-gathered.result ≡ c.args.out.now.items = c.behind-gathered.ensures ∙ ap (λ (v : _). v.items) c.replace.ensures.value in
    subst (λ (x : List ℕ). StopsAfter g.D.Debuggee.shown g.D.Debuggee.follows c.args.self.now to_take c.args.piece.now x c.adapter_fault-fault.result c.close.new.self c.into_buffer.result.items) before
    (subst (λ (y : List ℕ). StopsAfter g.D.Debuggee.shown g.D.Debuggee.follows c.args.self.now to_take c.args.piece.now c.behind-gathered.result c.adapter_fault-fault.result c.close.new.self y) (sym c.into_buffer.ensures)
    (subst (λ (f : AdapterFault). StopsAfter g.D.Debuggee.shown g.D.Debuggee.follows c.args.self.now to_take c.args.piece.now c.behind-gathered.result f c.close.new.self c.serve_piece-served.new.sink) (sym c.adapter_fault-fault.ensures)
    (stopped_after g.D.Debuggee.shown g.D.Debuggee.follows _ _ to_take c.args.piece.now c.in-Err.fault (c.in-Err.ensures.halts (ap (λ (p : Phase). is_phase Ended p) (sym c.phase.ensures) ∙ (sym c.is_ended.ensures ∙ c.if-is_ended.false))) none c.close.new.self c.close.ensures.session c.close.ensures.debuggee)))
