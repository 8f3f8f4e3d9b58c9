use Rattle.std.proofs.Common.{ℕ, ◌++◌, false, sym, subst}
use Rattle.dap_host.specs.PrivateFetching.{IsDropped}
use Rattle.dap_host.specs.PrivateHosting.{HostingState, SoFar}
use Rattle.dap_host.proofs.HostingLemmas.{line_heard, first_stops, all_heard, last_stops, fetch_stops}
use Rattle.dap_host.proofs.hosting.Hosting.step.Goals as goal

pub returns-in-Ok-answer_first-clause-heard : goal.returns-in-Ok-answer_first-clause-heard
returns-in-Ok-answer_first-clause-heard g c is start n so_far =
    let so = subst (λ (s : HostingState). SoFar g.C.Channel.goes start n c.args.channel.now s) (sym c.self.view_is) so_far in
    let f = c.in-Ok.ensures.fetched c.if-fetched.true in
    let dropped = subst (λ (k : ℕ). IsDropped k c.in-Ok.fetched.is_long f.dropped) c.longest.ensures f.is in
    line_heard g.C.Channel.goes c.calls_add_up.ensures c.args.max_reads start n c.args.channel.now _ so c.fetch.new.channel (f.dropped ++ c.fetch.new.held.items) f.fetched c.answer_first.new.channel c.answer_first.new.self (c.in-Ok-answer_first.ensures.answered f.dropped dropped)

pub returns-in-Err-answer_first-clause-stops : goal.returns-in-Err-answer_first-clause-stops
returns-in-Err-answer_first-clause-stops g c start n so_far =
    let so = subst (λ (s : HostingState). SoFar g.C.Channel.goes start n c.args.channel.now s) (sym c.self.view_is) so_far in
    let f = c.in-Ok.ensures.fetched c.if-fetched.true in
    let dropped = subst (λ (k : ℕ). IsDropped k c.in-Ok.fetched.is_long f.dropped) c.longest.ensures f.is in
    first_stops g.C.Channel.goes c.calls_add_up.ensures c.args.max_reads start n c.args.channel.now _ so c.fetch.new.channel (f.dropped ++ c.fetch.new.held.items) f.fetched c.answer_first.new.channel c.in-Err-answer_first.fault (c.in-Err-answer_first.ensures.stops f.dropped dropped)

pub returns-in-Ok-answer_last-clause-all : goal.returns-in-Ok-answer_last-clause-all
returns-in-Ok-answer_last-clause-all g c is start n so_far =
    let so = subst (λ (s : HostingState). SoFar g.C.Channel.goes start n c.args.channel.now s) (sym c.self.view_is) so_far in
    let f = c.in-Ok.ensures.ended c.if-fetched.false in
    let dropped = subst (λ (k : ℕ). IsDropped k c.in-Ok.fetched.is_long f.dropped) c.longest.ensures f.is in
    all_heard g.C.Channel.goes c.calls_add_up.ensures c.args.max_reads start n c.args.channel.now _ so c.fetch.new.channel (f.dropped ++ c.fetch.new.held.items) f.fetched f.line c.answer_last.new.channel (c.in-Ok-answer_last.ensures.answered f.dropped dropped)

pub returns-in-Err-answer_last-clause-stops : goal.returns-in-Err-answer_last-clause-stops
returns-in-Err-answer_last-clause-stops g c start n so_far =
    let so = subst (λ (s : HostingState). SoFar g.C.Channel.goes start n c.args.channel.now s) (sym c.self.view_is) so_far in
    let f = c.in-Ok.ensures.ended c.if-fetched.false in
    let dropped = subst (λ (k : ℕ). IsDropped k c.in-Ok.fetched.is_long f.dropped) c.longest.ensures f.is in
    last_stops g.C.Channel.goes c.calls_add_up.ensures c.args.max_reads start n c.args.channel.now _ so c.fetch.new.channel (f.dropped ++ c.fetch.new.held.items) f.fetched f.line c.answer_last.new.channel c.in-Err-answer_last.fault (c.in-Err-answer_last.ensures.stops f.dropped dropped)

pub returns-in-Err-clause-stops : goal.returns-in-Err-clause-stops
returns-in-Err-clause-stops g c start n so_far =
    let so = subst (λ (s : HostingState). SoFar g.C.Channel.goes start n c.args.channel.now s) (sym c.self.view_is) so_far in
    let stops = c.in-Err.ensures.stops in
    fetch_stops g.C.Channel.goes c.calls_add_up.ensures c.args.max_reads start n c.args.channel.now _ so c.fetch.new.channel stops.0 c.in-Err.fault stops.1
