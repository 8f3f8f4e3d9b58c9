use Rattle.std.proofs.Common.{◌≡◌, ℕ, true, sym, ap, ◌∙◌, subst, arith}
use Rattle.std.proofs.lemmas.Bool.Decides.{nat_tests}
use Rattle.dap_host.specs.Fetching.{has_line}
use Rattle.dap_host.specs.PrivateFetching.{ReadsOnce}
use Rattle.dap_host.proofs.FetchLemmas.{SoFar, none_so_far, none_there, drops_more, read_more_behind, line_behind, line_there, end_behind, stop_behind, line_at_once, all_made_behind}
use Rattle.dap_host.proofs.fetching.fetch.Goals as goal

-- at once
pub returns-then-has_line-clause-fetched : goal.returns-then-has_line-clause-fetched
returns-then-has_line-clause-fetched g c is = line_at_once g.C.Channel.goes c.args.longest c.args.channel.now c.args.held.now.items (ap has_line (sym c.deref.ensures.value) ∙ sym c.if-has_line.ensures)

pub loop-read-init : goal.loop-read-init
loop-read-init g c = (none_so_far g.C.Channel.goes c.args.longest c.args.channel.now c.args.held.now.items (ap has_line (sym c.deref.ensures.value) ∙ sym c.if-has_line.ensures), λ e. e)

pub let_go-is_long-requires : goal.let_go-is_long-requires
let_go-is_long-requires g c = none_there g.C.Channel.goes c.args.longest c.args.channel.now c.args.held.now.items c.loop-read._read c.loop-read.is_long c.loop-read.channel c.loop-read.held.items c.loop-read.invariant.0

pub returns-in-Ok-Line-clause-line : goal.returns-in-Ok-Line-clause-line
returns-in-Ok-Line-clause-line g c is =
    let read = subst (ReadsOnce g.C.Channel.goes c.loop-read.channel c.let_go-is_long.new.held.items c.read_more.new.channel c.read_more.new.held.items) c.in-Ok-Line.field-0-is c.in-Ok-Line.ensures.reads in
    let so_far = drops_more g.C.Channel.goes c.args.longest c.args.channel.now c.args.held.now.items c.loop-read._read c.loop-read.is_long c.let_go-is_long.result c.loop-read.channel c.loop-read.held.items c.let_go-is_long.new.held.items c.loop-read.invariant.0 c.let_go-is_long.ensures.dropped in
    line_there g.C.Channel.goes c.args.longest c.args.channel.now c.args.held.now.items c.loop-read._read c.let_go-is_long.result c.loop-read.channel c.let_go-is_long.new.held.items so_far c.read_more.new.channel c.read_more.new.held.items read

pub returns-in-Ok-Line-clause-fetched : goal.returns-in-Ok-Line-clause-fetched
returns-in-Ok-Line-clause-fetched g c is =
    let read = subst (ReadsOnce g.C.Channel.goes c.loop-read.channel c.let_go-is_long.new.held.items c.read_more.new.channel c.read_more.new.held.items) c.in-Ok-Line.field-0-is c.in-Ok-Line.ensures.reads in
    let so_far = drops_more g.C.Channel.goes c.args.longest c.args.channel.now c.args.held.now.items c.loop-read._read c.loop-read.is_long c.let_go-is_long.result c.loop-read.channel c.loop-read.held.items c.let_go-is_long.new.held.items c.loop-read.invariant.0 c.let_go-is_long.ensures.dropped in
    line_behind g.C.Channel.goes c.args.longest c.args.channel.now c.args.held.now.items c.loop-read._read c.let_go-is_long.result c.loop-read.channel c.let_go-is_long.new.held.items so_far c.read_more.new.channel c.read_more.new.held.items read

pub returns-in-Ok-End-clause-ended : goal.returns-in-Ok-End-clause-ended
returns-in-Ok-End-clause-ended g c is =
    let read = subst (ReadsOnce g.C.Channel.goes c.loop-read.channel c.let_go-is_long.new.held.items c.read_more.new.channel c.read_more.new.held.items) c.in-Ok-End.field-0-is c.in-Ok-End.ensures.reads in
    let so_far = drops_more g.C.Channel.goes c.args.longest c.args.channel.now c.args.held.now.items c.loop-read._read c.loop-read.is_long c.let_go-is_long.result c.loop-read.channel c.loop-read.held.items c.let_go-is_long.new.held.items c.loop-read.invariant.0 c.let_go-is_long.ensures.dropped in
    end_behind g.C.Channel.goes c.args.longest c.args.channel.now c.args.held.now.items c.loop-read._read c.let_go-is_long.result c.loop-read.channel c.let_go-is_long.new.held.items so_far c.read_more.new.channel c.read_more.new.held.items read

pub loop-read-preserved : goal.loop-read-preserved
loop-read-preserved g c =
    let read = subst (ReadsOnce g.C.Channel.goes c.loop-read.channel c.let_go-is_long.new.held.items c.read_more.new.channel c.read_more.new.held.items) c.in-Ok-More.field-0-is c.in-Ok-More.ensures.reads in
    let so_far = drops_more g.C.Channel.goes c.args.longest c.args.channel.now c.args.held.now.items c.loop-read._read c.loop-read.is_long c.let_go-is_long.result c.loop-read.channel c.loop-read.held.items c.let_go-is_long.new.held.items c.loop-read.invariant.0 c.let_go-is_long.ensures.dropped in
    (read_more_behind g.C.Channel.goes c.args.longest c.args.channel.now c.args.held.now.items c.loop-read._read c.let_go-is_long.result c.loop-read.channel c.let_go-is_long.new.held.items so_far c.read_more.new.channel c.read_more.new.held.items read, λ e. omega (arith, c.read_more.ensures.bounded, c.let_go-is_long.ensures.bounded))

pub returns-in-Err-clause-stops : goal.returns-in-Err-clause-stops
returns-in-Err-clause-stops g c =
    let so_far = drops_more g.C.Channel.goes c.args.longest c.args.channel.now c.args.held.now.items c.loop-read._read c.loop-read.is_long c.let_go-is_long.result c.loop-read.channel c.loop-read.held.items c.let_go-is_long.new.held.items c.loop-read.invariant.0 c.let_go-is_long.ensures.dropped in
    stop_behind g.C.Channel.goes c.args.longest c.args.channel.now c.args.held.now.items c.loop-read._read c.let_go-is_long.result c.loop-read.channel c.let_go-is_long.new.held.items so_far c.read_more.new.channel c.read_more.new.held.items c.args.max_reads c.in-Err.fault c.in-Err.ensures.stops

pub returns-clause-stops : goal.returns-clause-stops
returns-clause-stops g c =
    let all : c.loop-read._read ≡ c.args.max_reads = grind (arith, nat_tests, c.loop-read-test.false, c.loop-read.auto._read-end) in
    all_made_behind g.C.Channel.goes c.args.longest c.args.channel.now c.args.held.now.items c.args.max_reads c.loop-read._read c.loop-read.is_long c.loop-read.channel c.loop-read.held.items all c.loop-read.invariant.0

pub returns-clause-bounded : goal.returns-clause-bounded
returns-clause-bounded g c = c.loop-read.invariant.1
