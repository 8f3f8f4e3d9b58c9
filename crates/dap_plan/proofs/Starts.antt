-- What starts the debuggee is served in one phase.
use Rattle.std.proofs.Common.{◌≡◌, Bool, true, false, Some, refl, sym, ap, ◌∙◌, subst, ◌⊎◌, inl, inr, true≢false}
use Rattle.std.specs.List.{list_all}
use Rattle.dap_command.specs.declared.command.Command.{Command}
use Rattle.dap_command.specs.declared.command.Command.TheVariants as command
use Rattle.dap_decision.specs.declared.effect.Effect.{Effect}
use Rattle.dap_decision.specs.declared.effect.Effect.TheVariants as effect
use Rattle.dap_decision.specs.declared.phase.Phase.{Phase}
use Rattle.dap_decision.specs.declared.phase.Phase.TheVariants.{Configured}
use Rattle.dap_decision.specs.Table.{rows_of, effect_in}
use Rattle.dap_plan.proofs.ChangeResults.{found-all}

abbrev starts_none : Effect → Bool
starts_none effect.Start = false
starts_none _ = true

-- of the rows of each other command none starts it
starts-alone : (c : Command) → (list_all (λ r. starts_none r.effect) (rows_of c) ≡ true) ⊎ (((c ≡ command.Launch) ⊎ (c ≡ command.Attach)))
starts-alone command.Launch = inr (inl refl)
starts-alone command.Attach = inr (inr refl)
starts-alone _ = inl refl

launch-starts : (phase : Phase) → effect_in command.Launch phase ≡ Some effect.Start → phase ≡ Configured
launch-starts Configured h = refl
launch-starts _ h = cc

attach-starts : (phase : Phase) → effect_in command.Attach phase ≡ Some effect.Start → phase ≡ Configured
attach-starts Configured h = refl
attach-starts _ h = cc

starts-where : (c : Command) (phase : Phase) → (list_all (λ r. starts_none r.effect) (rows_of c) ≡ true) ⊎ (((c ≡ command.Launch) ⊎ (c ≡ command.Attach))) → effect_in c phase ≡ Some effect.Start → phase ≡ Configured
starts-where c phase (inl none) h = absurd (true≢false (sym (found-all starts_none phase (rows_of c) effect.Start none h)))
starts-where c phase (inr (inl is)) h = launch-starts phase (subst (λ (x : Command). effect_in x phase ≡ Some effect.Start) is h)
starts-where c phase (inr (inr is)) h = attach-starts phase (subst (λ (x : Command). effect_in x phase ≡ Some effect.Start) is h)

pub starts-configured : (c : Command) (phase : Phase) (e : Effect) → effect_in c phase ≡ Some e → e ≡ effect.Start → phase ≡ Configured
starts-configured c phase e h is = starts-where c phase (starts-alone c) (h ∙ ap Some is)
