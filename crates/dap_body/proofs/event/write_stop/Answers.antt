use Rattle.std.proofs.Common.{◌≡◌, true, refl, SFits, w64, rules}
use Rattle.std.proofs.lemmas.Int.{to_z-of_z}
use Rattle.std.proofs.lemmas.Result.{on_ok_weaker}
use Rattle.dap_body.specs.EventBody.{stopped_fields}
use Rattle.dap_body.proofs.FitMembers.{then-field, wrote-beside, beside-is-sound}
use Rattle.dap_body.proofs.event.write_stop.Goals as goal

pub returns-clause-adds : goal.returns-clause-adds
returns-clause-adds c =
    let range : SFits w64 c.args.thread_id = search rules in
    let thread = rw (to_z-of_z w64 c.args.thread_id range) at c.in_ok-put_signed.ensures.adds in
    on_ok_weaker c.put_left.result (λ e. wrote-beside (stopped_fields c.args.reason.now c.args.thread_id) c.args.more.now c.args.out.now.tokens c.fit_members.ensures.members (then-field _ _ c.in_ok-left.ensures.puts c.in_ok-put_flag.ensures.adds (then-field _ _ c.in_ok-left-2.ensures.puts c.in_ok-put_text.ensures.adds (then-field _ _ c.in_ok-left-3.ensures.puts thread e)))) c.put_left.ensures.adds

pub returns-clause-sound : goal.returns-clause-sound
returns-clause-sound c =
    let range : SFits w64 c.args.thread_id = search rules in
    let thread = rw (to_z-of_z w64 c.args.thread_id range) at c.in_ok-put_signed.ensures.sound in
    on_ok_weaker c.put_left.result (λ e. beside-is-sound (stopped_fields c.args.reason.now c.args.thread_id) c.args.more.now c.fit_members.ensures.members c.fit_members.ensures.sound refl (c.in_ok-put_flag.ensures.sound, (c.in_ok-put_text.ensures.sound, (thread, tt)))) c.put_left.ensures.adds
