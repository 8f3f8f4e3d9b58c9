use Rattle.std.proofs.Common.{rules, sym, subst, int_cmp, true}
use Rattle.std.specs.BTreeSet.{Updates}
use Rattle.dap_recording.specs.PrivateReadThreads.{HasIds}
use Rattle.dap_recording.proofs.Ids.{ids_more}
use Rattle.dap_recording.proofs.read_threads.ReadThreads.with.Goals as goal

pub invariant_of-result : goal.invariant_of-result
invariant_of-result c =
    let updates : Updates int_cmp c.self.inside.ids c.insert.new.self c.args.thread.id true = search rules in
    let has = ids_more c.self.inside.ids c.insert.new.self c.self.inside.threads.items c.args.thread c.self.invariant updates in
    subst (HasIds c.insert.new.self) (sym c.in_ok-push.ensures.items) has
