-- References that live at different times stay apart.
use Rattle.std.proofs.Common.{◌≡◌, inl, inr, ℕ, ◌≤◌, List, [], ◌∷◌, true, Some, None, ap, arith}
use Rattle.dap_tables.specs.declared.target.Target.{Target}
use Rattle.dap_tables.specs.References.{target_of}
use Rattle.dap_plan.specs.Plan.{Made}
use Rattle.dap_plan.specs.ReferenceLaws.{KeepsApart, IsStep, Runs, ReferencesAreApart}
use Rattle.dap_plan.specs.Session.{Session}
use Rattle.dap_plan.proofs.Asks.{ask-is}
use Rattle.dap_plan.proofs.Deliveries.{delivery-is}
use Rattle.dap_plan.proofs.Responses.{respond-moves}
use Rattle.dap_plan.proofs.Happenings.{poll-is, emit-is}
use Rattle.dap_query.proofs.Interned.{dead}
use Rattle.dap_plan.proofs.Turns.{turn-is}

step-apart : (s : Session) (made : Made) → IsStep s made → KeepsApart s made
step-apart s made (inl t) = (delivery-is s t.message t.plan made t.is t.can).sound.moves.apart
step-apart s made (inr (inl t)) = ((turn-is t.view s t.plan t.is).row.outcomes made t.can).sound.moves.apart
step-apart s made (inr (inr (inl t))) = (poll-is s made t).moves.apart
step-apart s made (inr (inr (inr (inl t)))) = (emit-is t.name t.body s made t.can).moves.apart
step-apart s made (inr (inr (inr (inr (inl t))))) = (respond-moves t.entry t.outcome s made t.can).apart
step-apart s made (inr (inr (inr (inr (inr t))))) = (ask-is t.command t.arguments s made t.can).moves.apart

runs-base : (later : List Made) (s new : Session) → Runs later s new → s.references.base ≤ new.references.base
runs-base [] s new r = let same = ap (λ (x : Session). x.references.base) r in omega arith
runs-base (made ∷ later) s new r =
    let first = (step-apart s made r.0).base in
    let rest = runs-base later made.after new r.1 in
    omega arith

stays_dead : (s new : Session) (made : Made) (later : List Made) (n : ℕ) (t : Target) → IsStep s made → made.drops ≡ true → target_of s.references n ≡ Some t → Runs later made.after new → target_of new.references n ≡ None
stays_dead s new made later n t step drops live runs =
    let at_drop = (step-apart s made step).dropped drops n t live in
    let later_on = runs-base later made.after new runs in
    dead new.references n (omega arith)

pub references_are_apart : ReferencesAreApart
references_are_apart = record {
  dead = dead;
  take = λ s m plan made e is. (delivery-is s m plan made e is).sound.moves.apart;
  turn = λ view s plan made e is. ((turn-is view s plan e).row.outcomes made is).sound.moves.apart;
  poll = λ s made is. (poll-is s made is).moves.apart;
  emit = λ name body s made is. (emit-is name body s made is).moves.apart;
  respond = λ r o s made is. (respond-moves r o s made is).apart;
  ask = λ command arguments s made is. (ask-is command arguments s made is).moves.apart;
  stays_dead = stays_dead;
}
