use Rattle.std.proofs.Common.{◌≡◌, ℕ, List, [], refl, ◌++◌, sym, ap, ◌∙◌, subst}
use Rattle.std.specs.Str.Lines.{lines}
use Rattle.dap_host.specs.Fetching.{has_line}
use Rattle.dap_host.specs.Hosting.{BeginsWith}
use Rattle.dap_host.specs.PrivateHosting.{HostingState, Answers, AnswerStops, IsWhole}
use Rattle.dap_host.proofs.LongLemmas.{first_whole}
use Rattle.dap_host.proofs.hosting.Hosting.answer_first.Goals as goal

pub returns-in_default-clause-stops : goal.returns-in_default-clause-stops
returns-in_default-clause-stops g c dropped is =
    let same : c.deref.result.now ≡ c.args.self.now.held = c.deref.ensures.value ∙ ap (λ (s : HostingState). s.held) c.self.view_is in
    let begins : BeginsWith c.args.self.now.held c.split_line.result.0.now c.split_line.result.1.now = λ more. ap (λ (z : List ℕ). lines (z ++ more)) (sym same) ∙ c.split_line.ensures.whole (ap has_line same ∙ c.requires.line) more in
    let w = first_whole c.args.self.now.host.longest c.args.is_long dropped c.args.self.now.held c.split_line.result.0.now c.split_line.result.1.now is c.requires.line begins in
    record { line = w.0; rest = c.split_line.result.1.now; begins = w.1; stops = ([], refl, refl) }

pub returns-in-Ok-answer_line-clause-answered : goal.returns-in-Ok-answer_line-clause-answered
returns-in-Ok-answer_line-clause-answered g c dropped is =
    let same : c.deref.result.now ≡ c.args.self.now.held = c.deref.ensures.value ∙ ap (λ (s : HostingState). s.held) c.self.view_is in
    let begins : BeginsWith c.args.self.now.held c.split_line.result.0.now c.split_line.result.1.now = λ more. ap (λ (z : List ℕ). lines (z ++ more)) (sym same) ∙ c.split_line.ensures.whole (ap has_line same ∙ c.requires.line) more in
    let w = first_whole c.args.self.now.host.longest c.args.is_long dropped c.args.self.now.held c.split_line.result.0.now c.split_line.result.1.now is c.requires.line begins in
    let rest : c.in-Ok.rest.items ≡ c.split_line.result.1.now = c.in-Ok.ensures.items_if_clones_equal (λ x y e. e) in
    let answers = subst (λ (s : HostingState). (whole : List ℕ) → IsWhole s.host.longest c.args.is_long c.split_line.result.0.now whole → Answers g.C.Channel.goes c.args.channel.now s.host whole c.answer_line.new.channel c.answer_line.new.host s.written c.in-Ok-answer_line.written)
    c.self.view_is c.in-Ok-answer_line.ensures.answered in
    record { line = w.0; begins = subst (λ (z : List ℕ). BeginsWith (dropped ++ c.args.self.now.held) w.0 z) (sym rest) w.1; answers = answers w.0 w.2 }

pub returns-in-Err-clause-stops : goal.returns-in-Err-clause-stops
returns-in-Err-clause-stops g c dropped is =
    let same : c.deref.result.now ≡ c.args.self.now.held = c.deref.ensures.value ∙ ap (λ (s : HostingState). s.held) c.self.view_is in
    let begins : BeginsWith c.args.self.now.held c.split_line.result.0.now c.split_line.result.1.now = λ more. ap (λ (z : List ℕ). lines (z ++ more)) (sym same) ∙ c.split_line.ensures.whole (ap has_line same ∙ c.requires.line) more in
    let w = first_whole c.args.self.now.host.longest c.args.is_long dropped c.args.self.now.held c.split_line.result.0.now c.split_line.result.1.now is c.requires.line begins in
    let stops = subst (λ (s : HostingState). (whole : List ℕ) → IsWhole s.host.longest c.args.is_long c.split_line.result.0.now whole → AnswerStops g.C.Channel.goes c.args.channel.now s.host whole c.answer_line.new.channel s.written c.in-Err.fault)
    c.self.view_is c.in-Err.ensures.stops in
    record { line = w.0; rest = c.split_line.result.1.now; begins = w.1; stops = stops w.0 w.2 }
