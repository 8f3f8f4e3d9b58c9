-- What the bodies of answers that are no queries give: nothing.
use Rattle.std.proofs.Common.{◌≡◌, ℕ, List, [], Bool, true, false, Option, Some, None, Ok, Err, refl, subst}
use Rattle.std.specs.Prelude.{if◌then◌else◌}
use Rattle.dap_command.specs.Offer.{gates_of}
use Rattle.dap_command.specs.declared.offer.Offer.{Offer}
use Rattle.dap_body.specs.ResponseBody.{offer_body, continue_body, set_breakpoints_body, set_variable_body}
use Rattle.dap_body.specs.declared.response.Breakpoint.{Breakpoint}
use Rattle.dap_body.proofs.GivenNumbers.{bodies_give_their_numbers}
use Rattle.dap_json.specs.declared.more.Member.{Member}
use Rattle.dap_command.specs.declared.command.Command.{Command}
use Rattle.dap_body.specs.declared.failure.Failure.TheVariants.{TooManyBreakpoints}
use Rattle.dap_call.specs.declared.call.SetVariable.{SetVariable}
use Rattle.dap_command.specs.declared.source_key.SourceKey.{SourceKey}
use Rattle.dap_tables.specs.Given.{references_given_in}
use Rattle.dap_debuggee.specs.Shown.{Shown}
use Rattle.dap_debuggee.specs.declared.answers.Assigned.{Assigned}
use Rattle.dap_debuggee.specs.declared.answers.How.{How}
use Rattle.dap_debuggee.specs.declared.answers.How.TheVariants as how
use Rattle.dap_query.proofs.LiveBodies.{none-in}
use Rattle.dap_plan.specs.Breakpoints.{are_too_many}
use Rattle.dap_decision.specs.Failures.{command_of}
use Rattle.dap_plan.specs.Handling.{Change, ChangeResult, answers_to, lines_change, lines_result, value_change, assigned_result, value_result, resume_body}
use Rattle.dap_outbox.specs.Draft.{success}
use Rattle.dap_plan.specs.Session.{Session}
use Rattle.dap_plan.proofs.Outcomes.{IsBare}
use Rattle.dap_debuggee.specs.declared.answers.Placement.{Placement}

pub offers-none : (o : Option Command) (offer : Offer) → references_given_in o (Some (offer_body offer)) ≡ []
offers-none o offer =
    let alone = bodies_give_their_numbers.initialize (gates_of offer) offer.more in
    none-in o (offer_body offer) alone.0 alone.1 alone.2 alone.3

resume-none : (h : How) (o : Option Command) → references_given_in o (resume_body h) ≡ []
resume-none how.Continue o = none-in o continue_body refl refl refl refl
resume-none _ o = refl

pub bare-resume : (h : How) → IsBare (success (resume_body h) [])
bare-resume h = (refl, λ r. resume-none h (command_of r))

breakpoints-none : (o : Option Command) (answers : List Breakpoint) → references_given_in o (Some (set_breakpoints_body answers)) ≡ []
breakpoints-none o answers = none-in o (set_breakpoints_body answers) refl refl refl refl

value-none : (o : Option Command) (value : List ℕ) (more : List Member) → references_given_in o (Some (set_variable_body value more)) ≡ []
value-none o value more =
    let alone = bodies_give_their_numbers.set_variable_elsewhere value more in
    none-in o (set_variable_body value more) alone.0 alone.1 alone.2 (bodies_give_their_numbers.set_variable value more)

-- ---- what is changed

lines-made : (b : Bool) (s : Session) (key : SourceKey) (lines : List ℕ) (verified : List Placement) (c : Change) → (let due : ChangeResult = (if b then Err TooManyBreakpoints else Ok (lines_change s key lines verified)) in due) ≡ Ok c → IsBare (success c.body [])
lines-made true s key lines verified c e = absurd (cc e)
lines-made false s key lines verified c e =
    let same : lines_change s key lines verified ≡ c = cc in
    subst (λ (x : Change). IsBare (success x.body [])) same (refl, λ r. breakpoints-none (command_of r) (answers_to s.options s.breakpoints.next_id lines verified))

pub lines-bare : (s : Session) (key : SourceKey) (lines : List ℕ) (o : Option (List Placement)) (c : Change) → lines_result s key lines o ≡ Ok c → IsBare (success c.body [])
lines-bare s key lines None c e = absurd (cc e)
lines-bare s key lines (Some verified) c e = lines-made (are_too_many s.limits key lines s.breakpoints) s key lines verified c e

assigned-bare : (s : Session) (asked : SetVariable) (holder : ℕ) (o : Option Assigned) (c : Change) → assigned_result s asked holder o ≡ Ok c → IsBare (success c.body [])
assigned-bare s asked holder None c e = absurd (cc e)
assigned-bare s asked holder (Some a) c e =
    let same : value_change s asked holder a ≡ c = cc in
    subst (λ (x : Change). IsBare (success x.body [])) same (refl, λ r. value-none (command_of r) a.value a.more)

pub value-bare : (view : Shown) (s : Session) (asked : SetVariable) (o : Option ℕ) (c : Change) → value_result view s asked o ≡ Ok c → IsBare (success c.body [])
value-bare view s asked None c e = absurd (cc e)
value-bare view s asked (Some holder) c e = assigned-bare s asked holder (view.assigned holder asked.name asked.value) c e
