-- In which phases an effect of the table is found, and that no query answers a command that sets something.
use Rattle.std.proofs.Common.{◌≡◌, inl, inr, Bool, true, false, Option, Some, None, refl, subst}
use Rattle.std.specs.Prelude.{if◌then◌else◌}
use Rattle.dap_command.specs.declared.command.Command.{Command}
use Rattle.dap_command.specs.declared.command.Command.TheVariants as command
use Rattle.dap_tables.specs.declared.entry.Entry.{Entry}
use Rattle.dap_debuggee.specs.declared.answers.How.{How}
use Rattle.dap_debuggee.specs.declared.answers.State.{State}
use Rattle.dap_decision.specs.declared.effect.Effect.{Effect}
use Rattle.dap_decision.specs.declared.effect.Effect.TheVariants as effect
use Rattle.dap_decision.specs.declared.phase.Phase.{Phase}
use Rattle.dap_decision.specs.declared.phase.Phase.TheVariants.{Fresh, Asked, Running, Stopped, Exited, Ended}
use Rattle.dap_plan.specs.Handling.{effect_of, parked_wants_terminal, wants_terminal}
use Rattle.dap_plan.specs.Session.{Session}
use Rattle.dap_plan.specs.StateLaws.{IsStateOf}
use Rattle.dap_decision.specs.Table.{effect_in, is_phase}

-- before a start
abbrev pub is_unstarted : Phase → Bool
is_unstarted Running = false
is_unstarted Stopped = false
is_unstarted Exited = false
is_unstarted Ended = false
is_unstarted _ = true

-- the debuggee neither runs nor is stopped
abbrev pub is_at_rest : Phase → Bool
is_at_rest Running = false
is_at_rest Stopped = false
is_at_rest _ = true

abbrev pub is_placed : Effect → Phase → Bool
is_placed effect.Initialize phase = is_unstarted phase
is_placed effect.Park phase = is_unstarted phase
is_placed effect.Start phase = is_unstarted phase
is_placed effect.Ask phase = is_unstarted phase
is_placed effect.ConfigurationDone phase = is_unstarted phase
is_placed effect.StartParked phase = is_unstarted phase
is_placed effect.AskParked phase = is_unstarted phase
is_placed effect.Disconnect phase = is_at_rest phase
is_placed _ phase = true

abbrev placed_if : Option Effect → Phase → Bool
placed_if None phase = true
placed_if (Some e) phase = is_placed e phase

-- each command in each phase: the line that names one splits, and the others hold of all the rest
all-placed : (c : Command) (phase : Phase) → placed_if (effect_in c phase) phase ≡ true
all-placed command.Initialize Fresh = refl
all-placed _ Fresh = refl
all-placed _ _ = refl

pub placed : (c : Command) (phase : Phase) (e : Effect) → effect_in c phase ≡ Some e → is_placed e phase ≡ true
placed c phase e h = subst (λ (o : Option Effect). placed_if o phase ≡ true) h (all-placed c phase)

-- also where a terminal is asked for first
either-placed : (b : Bool) (d e : Effect) (phase : Phase) → is_placed d phase ≡ true → is_placed e phase ≡ true → is_placed (let x : Effect = (if b then d else e) in x) phase ≡ true
either-placed true d e phase x y = x
either-placed false d e phase x y = y

pub still-placed : (s : Session) (r : Entry) (e : Effect) → is_placed e s.phase ≡ true → is_placed (effect_of s r e) s.phase ≡ true
still-placed s r effect.Start h = either-placed (wants_terminal s.options r) effect.Ask effect.Start s.phase h h
still-placed s r effect.StartParked h = either-placed (parked_wants_terminal s.options s.kept) effect.AskParked effect.StartParked s.phase h h
still-placed s r _ h = h

-- ---- the state in them

pub unstarted : (first : State) (phase : Phase) (before : State) → is_unstarted phase ≡ true → IsStateOf first phase before → before ≡ first
unstarted first Running before q h = cc
unstarted first Stopped before q h = cc
unstarted first Exited before q h = cc
unstarted first Ended before q h = cc
unstarted first _ before q h = h

pub at-rest : (first : State) (phase : Phase) (before : State) → is_at_rest phase ≡ true → IsStateOf first phase before → IsStateOf first Ended before
at-rest first Running before q h = cc
at-rest first Stopped before q h = cc
at-rest first Exited before q h = inr h
at-rest first Ended before q h = h
at-rest first _ before q h = inl h

pub asked-unstarted : (phase : Phase) → is_phase Asked phase ≡ true → is_unstarted phase ≡ true
asked-unstarted Running h = cc
asked-unstarted Stopped h = cc
asked-unstarted Exited h = cc
asked-unstarted Ended h = cc
asked-unstarted _ h = refl

-- ---- queries

no-setter-queries : (phase : Phase) → effect_in command.SetVariable phase ≡ Some effect.Query → ⊥
no-setter-queries Stopped h = cc
no-setter-queries _ h = cc

pub queries-no-setter : (c : Command) (phase : Phase) → effect_in c phase ≡ Some effect.Query → c ≡ command.SetVariable → ⊥
queries-no-setter c phase h is = no-setter-queries phase (subst (λ (x : Command). effect_in x phase ≡ Some effect.Query) is h)

-- ---- each effect by a name of its own, for the crates above, to which those of the type are not open

abbrev pub TableEffect : Type 0
TableEffect = Effect

pub data EffectCase : Effect → Type 0 where
  initializes : EffectCase effect.Initialize
  parks : EffectCase effect.Park
  starts : EffectCase effect.Start
  configures : EffectCase effect.ConfigurationDone
  starts_parked : EffectCase effect.StartParked
  asks : EffectCase effect.Ask
  asks_parked : EffectCase effect.AskParked
  disconnects : EffectCase effect.Disconnect
  ends_and_disconnects : EffectCase effect.EndAndDisconnect
  terminates : EffectCase effect.Terminate
  changes : EffectCase effect.Change
  resumes : (how : How) → EffectCase (effect.Resume how)
  pauses : EffectCase effect.Pause
  queries : EffectCase effect.Query

abbrev pub effect_case : (e : Effect) → EffectCase e
effect_case effect.Initialize = initializes
effect_case effect.Park = parks
effect_case effect.Start = starts
effect_case effect.ConfigurationDone = configures
effect_case effect.StartParked = starts_parked
effect_case effect.Ask = asks
effect_case effect.AskParked = asks_parked
effect_case effect.Disconnect = disconnects
effect_case effect.EndAndDisconnect = ends_and_disconnects
effect_case effect.Terminate = terminates
effect_case effect.Change = changes
effect_case (effect.Resume how) = resumes how
effect_case effect.Pause = pauses
effect_case effect.Query = queries
