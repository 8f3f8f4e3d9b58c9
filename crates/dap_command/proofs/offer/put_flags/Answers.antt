use Rattle.std.proofs.Common.{◌≡◌, ◌∙◌, ap, subst, OnOk, codes}
use Rattle.serde_json.specs.View.{members_view}
use Rattle.dap_command.specs.Offer.{with_flag_of}
use Rattle.dap_command.proofs.offer.put_flags.Goals as goal

-- one flag after the other
pub returns : goal.returns
returns c =
    let opened = c.args.opened.now in
    let e1 = c.in_ok-put_flag.ensures in
    let e2 = c.in_ok-put_flag-2.ensures ∙ ap (with_flag_of opened (codes "supportsDisassembleRequest")) e1 in
    let e3 = c.in_ok-put_flag-3.ensures ∙ ap (with_flag_of opened (codes "supportsGotoTargetsRequest")) e2 in
    let e4 = c.in_ok-put_flag-4.ensures ∙ ap (with_flag_of opened (codes "supportsInstructionBreakpoints")) e3 in
    let e5 = c.in_ok-put_flag-5.ensures ∙ ap (with_flag_of opened (codes "supportsReadMemoryRequest")) e4 in
    let e6 = c.in_ok-put_flag-6.ensures ∙ ap (with_flag_of opened (codes "supportsRestartFrame")) e5 in
    let e7 = c.in_ok-put_flag-7.ensures ∙ ap (with_flag_of opened (codes "supportsSetExpression")) e6 in
    let e8 = c.in_ok-put_flag-8.ensures ∙ ap (with_flag_of opened (codes "supportsStepInTargetsRequest")) e7 in
    let e9 = c.in_ok-put_flag-9.ensures ∙ ap (with_flag_of opened (codes "supportsTerminateThreadsRequest")) e8 in
    subst (λ ms. OnOk c.put_flag-10.result (members_view c.put_flag-10.new.members.entries ≡ with_flag_of opened (codes "supportsWriteMemoryRequest") ms)) e9 c.put_flag-10.ensures
