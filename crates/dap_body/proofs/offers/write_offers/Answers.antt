use Rattle.std.proofs.Common.{[], ◌∷◌, None, codes, refl}
use Rattle.std.proofs.lemmas.Result.{on_ok_weaker}
use Rattle.dap_body.specs.ResponseBody.{initialize_fields, all_gates}
use Rattle.dap_body.specs.Row.{whole_if_any}
use Rattle.dap_body.proofs.FitMembers.{then-none, wrote-beside, beside-is-sound}
use Rattle.dap_body.proofs.FlagLemmas.{then-flags, flags-sound}
use Rattle.dap_body.proofs.offers.write_offers.Goals as goal

pub returns-clause-adds : goal.returns-clause-adds
returns-clause-adds c =
    on_ok_weaker c.put_left.result
    (λ e.
    wrote-beside (initialize_fields c.args.capabilities.now) c.args.more.now c.args.out.now.tokens c.fit_members.ensures.members
    (then-none _ _ c.in_ok-left.ensures.puts (then-none _ _ c.in_ok-left-2.ensures.puts
    (then-flags c.args.capabilities.now all_gates _ _ _ _ _ _ c.in_ok-left-3.ensures.puts
    (then-none _ _ c.in_ok-left-4.ensures.puts (then-none _ _ c.in_ok-left-5.ensures.puts e))))))
    c.put_left.ensures.adds

pub returns-clause-sound : goal.returns-clause-sound
returns-clause-sound c =
    on_ok_weaker c.put_left.result
    (λ e.
    beside-is-sound (initialize_fields c.args.capabilities.now) c.args.more.now c.fit_members.ensures.members c.fit_members.ensures.sound refl
    (c.in_ok-left.ensures.sound, (c.in_ok-left-2.ensures.sound, flags-sound c.args.capabilities.now all_gates ((codes "variables", whole_if_any None) ∷ (codes "variablesReference", whole_if_any None) ∷ []) c.in_ok-left-3.ensures.sound (c.in_ok-left-4.ensures.sound, (c.in_ok-left-5.ensures.sound, tt)))))
    c.put_left.ensures.adds
