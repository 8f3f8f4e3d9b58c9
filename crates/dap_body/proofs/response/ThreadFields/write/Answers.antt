use Rattle.std.proofs.Common.{refl, SFits, w64, rules}
use Rattle.std.proofs.lemmas.Int.{to_z-of_z}
use Rattle.std.proofs.lemmas.Result.{on_ok_weaker}
use Rattle.dap_body.specs.ResponseBody.{thread_fields}
use Rattle.dap_body.proofs.FitMembers.{then-field, wrote-beside, beside-is-sound}
use Rattle.dap_body.proofs.response.ThreadFields.write.Goals as goal

pub returns-clause-adds : goal.returns-clause-adds
returns-clause-adds c =
    let range : SFits w64 c.args.self.now.id = search rules in
    on_ok_weaker c.put_left.result (λ e. wrote-beside (thread_fields c.args.self.now) c.args.self.now.more c.args.out.now.tokens c.fit_members.ensures.members (then-field _ _ c.in_ok-left.ensures.puts (rw (to_z-of_z w64 c.args.self.now.id range) at c.in_ok-put_signed.ensures.adds) (then-field _ _ c.in_ok-left-2.ensures.puts c.in_ok-put_text.ensures.adds (e)))) c.put_left.ensures.adds

pub returns-clause-sound : goal.returns-clause-sound
returns-clause-sound c =
    let range : SFits w64 c.args.self.now.id = search rules in
    on_ok_weaker c.put_left.result (λ e. beside-is-sound (thread_fields c.args.self.now) c.args.self.now.more c.fit_members.ensures.members c.fit_members.ensures.sound refl ((rw (to_z-of_z w64 c.args.self.now.id range) at c.in_ok-put_signed.ensures.sound), (c.in_ok-put_text.ensures.sound, tt))) c.put_left.ensures.adds
