use Rattle.std.proofs.Common.{◌≡◌, ℕ, [], refl, subst, arith}
use Rattle.std.proofs.lemmas.Bool.Decides.{nat_tests}
use Rattle.dap_host.specs.Hosting.{point_of}
use Rattle.dap_host.specs.PrivateHosting.{SoFar}
use Rattle.dap_host.proofs.HostingLemmas.{no_line_yet, too_many}
use Rattle.dap_host.proofs.LogLemmas.{answers_input}
use Rattle.dap_host.proofs.hosting.host_channel.Goals as goal

pub loop-line-init : goal.loop-line-init
loop-line-init g c = (no_line_yet g.C.Channel.goes c.args.channel.now _ c.new.ensures.items refl, c.requires)

pub returns-in-Ok-false-clause-input : goal.returns-in-Ok-false-clause-input
returns-in-Ok-false-clause-input g c = answers_input g.C.Channel.goes c.calls_add_up.ensures c.args.channel.now c.args.host c.step.new.channel (c.in-Ok-false.ensures.all c.in-Ok-false.field-0-test (point_of c.args.channel.now c.args.host []) c.loop-line._line c.loop-line.invariant.0)

pub returns-in-Ok-false-clause-hosts : goal.returns-in-Ok-false-clause-hosts
returns-in-Ok-false-clause-hosts g c = c.in-Ok-false.ensures.all c.in-Ok-false.field-0-test (point_of c.args.channel.now c.args.host []) c.loop-line._line c.loop-line.invariant.0

pub returns-in-Err-clause-hosts : goal.returns-in-Err-clause-hosts
returns-in-Err-clause-hosts g c = c.in-Err.ensures.stops (point_of c.args.channel.now c.args.host []) c.loop-line._line c.loop-line.invariant.0

pub loop-line-preserved : goal.loop-line-preserved
loop-line-preserved g c = (c.in-Ok-true.ensures.heard c.in-Ok-true.field-0-test (point_of c.args.channel.now c.args.host []) c.loop-line._line c.loop-line.invariant.0, c.in-Ok-true.ensures.going c.in-Ok-true.field-0-test)

pub returns-clause-hosts : goal.returns-clause-hosts
returns-clause-hosts g c =
    let all : c.loop-line._line ≡ c.args.max_reads = grind (arith, nat_tests, c.loop-line-test.false, c.loop-line.auto._line-end) in
    too_many g.C.Channel.goes c.args.max_reads (point_of c.args.channel.now c.args.host []) c.loop-line.channel c.loop-line.hosting
    (subst (λ (n : ℕ). SoFar g.C.Channel.goes (point_of c.args.channel.now c.args.host []) n c.loop-line.channel c.loop-line.hosting) all c.loop-line.invariant.0)
