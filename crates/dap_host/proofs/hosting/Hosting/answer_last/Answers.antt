use Rattle.std.proofs.Common.{◌≡◌, ℕ, ◌<◌, List, [], length, ◌++◌, refl, sym, ap, ◌∙◌, subst, inl, inr}
use Rattle.dap_host.specs.PrivateFetching.{IsDropped}
use Rattle.dap_host.specs.PrivateHosting.{HostingState, Answers, AnswerStops, IsWhole}
use Rattle.dap_host.proofs.LongLemmas.{last_whole, some_whole}
use Rattle.dap_host.proofs.hosting.Hosting.answer_last.Goals as goal

pub returns-then-is_none-clause-answered : goal.returns-then-is_none-clause-answered
returns-then-is_none-clause-answered g c dropped is =
    let none = c.if-is_none.ensures.none refl in
    let empty : dropped ≡ [] = subst (λ b. IsDropped c.args.self.now.host.longest b dropped) none.0 is in
    let held : c.args.self.now.held ≡ [] = sym (c.deref.ensures.value ∙ ap (λ (s : HostingState). s.held) c.self.view_is) ∙ none.1 in
    inl (ap (λ (z : List ℕ). z ++ c.args.self.now.held) empty ∙ held, refl)

pub returns-clause-answered : goal.returns-clause-answered
returns-clause-answered g c dropped is =
    let same : c.deref.result.now ≡ c.args.self.now.held = c.deref.ensures.value ∙ ap (λ (s : HostingState). s.held) c.self.view_is in
    let some = some_whole c.args.self.now.host.longest c.args.is_long dropped c.args.self.now.held is (λ short. subst (λ (z : List ℕ). 0 < length z) same (c.if-is_none.ensures.some refl short)) in
    let answers = subst (λ (s : HostingState). (whole : List ℕ) → IsWhole s.host.longest c.args.is_long s.held whole → Answers g.C.Channel.goes c.args.channel.now s.host whole c.answer_line.new.channel c.answer_line.new.host s.written c.in-Ok._written)
    c.self.view_is (λ whole w. c.in-Ok.ensures.answered whole (subst (λ (z : List ℕ). IsWhole c.self.inside.host.longest c.args.is_long z whole) (sym c.deref-2.ensures.value) w)) in
    inr (some, (c.answer_line.new.host, (answers (dropped ++ c.args.self.now.held) (last_whole c.args.self.now.host.longest c.args.is_long dropped c.args.self.now.held is)).answer))

pub returns-in-Err-clause-stops : goal.returns-in-Err-clause-stops
returns-in-Err-clause-stops g c dropped is =
    let same : c.deref.result.now ≡ c.args.self.now.held = c.deref.ensures.value ∙ ap (λ (s : HostingState). s.held) c.self.view_is in
    let some = some_whole c.args.self.now.host.longest c.args.is_long dropped c.args.self.now.held is (λ short. subst (λ (z : List ℕ). 0 < length z) same (c.if-is_none.ensures.some refl short)) in
    let stops = subst (λ (s : HostingState). (whole : List ℕ) → IsWhole s.host.longest c.args.is_long s.held whole → AnswerStops g.C.Channel.goes c.args.channel.now s.host whole c.answer_line.new.channel s.written c.in-Err.fault)
    c.self.view_is (λ whole w. c.in-Err.ensures.stops whole (subst (λ (z : List ℕ). IsWhole c.self.inside.host.longest c.args.is_long z whole) (sym c.deref-2.ensures.value) w)) in
    record { some = some; stops = stops (dropped ++ c.args.self.now.held) (last_whole c.args.self.now.host.longest c.args.is_long dropped c.args.self.now.held is) }
