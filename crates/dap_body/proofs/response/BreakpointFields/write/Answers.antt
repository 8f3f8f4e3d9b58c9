use Rattle.std.proofs.Common.{refl}
use Rattle.std.proofs.lemmas.Result.{on_ok_weaker}
use Rattle.dap_body.specs.ResponseBody.{breakpoint_fields}
use Rattle.dap_body.proofs.FitMembers.{then-field, wrote-beside, beside-is-sound}
use Rattle.dap_body.proofs.response.BreakpointFields.write.Goals as goal

pub returns-clause-adds : goal.returns-clause-adds
returns-clause-adds c =
    on_ok_weaker c.put_left.result (λ e. wrote-beside (breakpoint_fields c.args.self.now) c.args.self.now.more c.args.out.now.tokens c.fit_members.ensures.members (then-field _ _ c.in_ok-left.ensures.puts c.in_ok-put_number.ensures.adds (then-field _ _ c.in_ok-left-2.ensures.puts c.in_ok-put_short.ensures.adds (then-field _ _ c.in_ok-left-3.ensures.puts c.in_ok-put_text_if_any.ensures.adds (then-field _ _ c.in_ok-left-4.ensures.puts c.in_ok-put_flag.ensures.adds e))))) c.put_left.ensures.adds

pub returns-clause-sound : goal.returns-clause-sound
returns-clause-sound c =
    on_ok_weaker c.put_left.result (λ e. beside-is-sound (breakpoint_fields c.args.self.now) c.args.self.now.more c.fit_members.ensures.members c.fit_members.ensures.sound refl (c.in_ok-put_number.ensures.sound, (c.in_ok-put_short.ensures.sound, (c.in_ok-put_text_if_any.ensures.sound, (c.in_ok-put_flag.ensures.sound, tt))))) c.put_left.ensures.adds
