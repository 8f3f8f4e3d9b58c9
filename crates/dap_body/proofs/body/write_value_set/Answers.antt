use Rattle.std.proofs.Common.{refl}
use Rattle.std.proofs.lemmas.Result.{on_ok_weaker}
use Rattle.dap_body.specs.ResponseBody.{set_variable_fields}
use Rattle.dap_body.proofs.FitMembers.{then-field, then-none, wrote-beside, beside-is-sound}
use Rattle.dap_body.proofs.body.write_value_set.Goals as goal

pub returns-clause-adds : goal.returns-clause-adds
returns-clause-adds c =
    on_ok_weaker c.put_left.result (λ e. wrote-beside (set_variable_fields c.args.value.now) c.args.more.now c.args.out.now.tokens c.fit_members.ensures.members (then-none _ _ c.in_ok-left.ensures.puts (then-none _ _ c.in_ok-left-2.ensures.puts (then-field _ _ c.in_ok-left-3.ensures.puts c.in_ok-put_text.ensures.adds (then-none _ _ c.in_ok-left-4.ensures.puts (then-none _ _ c.in_ok-left-5.ensures.puts (e))))))) c.put_left.ensures.adds

pub returns-clause-sound : goal.returns-clause-sound
returns-clause-sound c =
    on_ok_weaker c.put_left.result (λ e. beside-is-sound (set_variable_fields c.args.value.now) c.args.more.now c.fit_members.ensures.members c.fit_members.ensures.sound refl (c.in_ok-left.ensures.sound, (c.in_ok-left-2.ensures.sound, (c.in_ok-put_text.ensures.sound, (c.in_ok-left-4.ensures.sound, (c.in_ok-left-5.ensures.sound, tt)))))) c.put_left.ensures.adds
