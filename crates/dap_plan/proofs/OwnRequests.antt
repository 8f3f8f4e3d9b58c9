-- Where a request for a terminal may wait: an effect of the table is found in a phase that suits it, also where a terminal is asked for first.
use Rattle.std.proofs.Common.{◌≡◌, Bool, true, false, Option, Some, None, refl, sym, ◌∙◌, subst, true≢false}
use Rattle.std.specs.Prelude.{ℕ, if◌then◌else◌, ⊤}
use Rattle.dap_call.specs.declared.call.Call.{Call}
use Rattle.dap_command.specs.declared.command.Command.{Command}
use Rattle.dap_command.specs.declared.command.Command.TheVariants as command
use Rattle.dap_tables.specs.declared.entry.Entry.{Entry}
use Rattle.dap_debuggee.specs.Shown.{Shown, Reply, done, refused, happened}
use Rattle.dap_decision.specs.declared.effect.Effect.{Effect}
use Rattle.dap_decision.specs.declared.effect.Effect.TheVariants as effect
use Rattle.dap_decision.specs.declared.phase.Phase.{Phase}
use Rattle.dap_decision.specs.declared.phase.Phase.TheVariants.{Configured, Asked, Ended}
use Rattle.dap_plan.specs.Handling.{effect_of, parked_wants_terminal, start_parked_unless_asked, start_phase, start_unless_asked, wants_terminal}
use Rattle.dap_plan.specs.Changing.{Suits}
use Rattle.dap_plan.specs.OrderLaws.{reason_in}
use Rattle.dap_plan.specs.Session.{Session, IsAskedIn}
use Rattle.dap_decision.specs.Table.{effect_in}
use Rattle.dap_plan.proofs.ServedInOrder.{first_of}
use Rattle.dap_plan.proofs.Starts.{starts-configured}

-- ---- phases in which no request for a terminal waits

abbrev pub asks_none : Phase → Bool
asks_none Asked = false
asks_none Ended = false
asks_none _ = true

pub none-in : (phase : Phase) (asked : Option ℕ) → asks_none phase ≡ true → IsAskedIn phase asked → asked ≡ None
none-in Asked asked h suits = absurd (true≢false (sym h))
none-in Ended asked h suits = absurd (true≢false (sym h))
none-in _ asked h suits = suits

pub none-started : (last : Reply) (asked : Option ℕ) → asked ≡ None → IsAskedIn (start_phase last) asked
none-started done asked h = h
none-started (refused why) asked h = h
none-started (happened x) asked h = h

-- ---- an effect and its phase

-- may be found where a request for a terminal waits
abbrev may_wait : Effect → Bool
may_wait effect.Change = true
may_wait effect.Query = true
may_wait effect.Disconnect = true
may_wait effect.EndAndDisconnect = true
may_wait _ = false

abbrev pub IsIn : Effect → Phase → Type 0
IsIn effect.Start phase = phase ≡ Configured
IsIn effect.Change phase = ⊤
IsIn effect.Query phase = ⊤
IsIn effect.Disconnect phase = ⊤
IsIn effect.EndAndDisconnect phase = ⊤
IsIn _ phase = asks_none phase ≡ true

abbrev may_wait_if : Option Effect → Bool
may_wait_if None = true
may_wait_if (Some e) = may_wait e

all-wait : (c : Command) → may_wait_if (effect_in c Asked) ≡ true
all-wait command.Initialize = refl
all-wait _ = refl

waits-in : (c : Command) (e : Effect) → effect_in c Asked ≡ Some e → may_wait e ≡ true
waits-in c e h = subst (λ (o : Option Effect). may_wait_if o ≡ true) h (all-wait c)

none-at-end : (c : Command) → effect_in c Ended ≡ None
none-at-end command.Launch = refl
none-at-end _ = refl

none-waits : (c : Command) (phase : Phase) (e : Effect) → effect_in c phase ≡ Some e → may_wait e ≡ false → asks_none phase ≡ true
none-waits c Asked e h other = absurd (true≢false (sym (waits-in c e h) ∙ other))
none-waits c Ended e h other = absurd (let never = none-at-end c in cc)
none-waits c _ e h other = refl

pub is-in : (c : Command) (phase : Phase) (e : Effect) → effect_in c phase ≡ Some e → IsIn e phase
is-in c phase effect.Start h = starts-configured c phase effect.Start h refl
is-in c phase effect.Change h = tt
is-in c phase effect.Query h = tt
is-in c phase effect.Disconnect h = tt
is-in c phase effect.EndAndDisconnect h = tt
is-in c phase effect.Initialize h = none-waits c phase effect.Initialize h refl
is-in c phase effect.Park h = none-waits c phase effect.Park h refl
is-in c phase effect.ConfigurationDone h = none-waits c phase effect.ConfigurationDone h refl
is-in c phase effect.StartParked h = none-waits c phase effect.StartParked h refl
is-in c phase effect.Ask h = none-waits c phase effect.Ask h refl
is-in c phase effect.AskParked h = none-waits c phase effect.AskParked h refl
is-in c phase effect.Terminate h = none-waits c phase effect.Terminate h refl
is-in c phase (effect.Resume how) h = none-waits c phase (effect.Resume how) h refl
is-in c phase effect.Pause h = none-waits c phase effect.Pause h refl

-- ---- where a terminal is asked for first

asks-in : (b : Bool) (phase : Phase) → phase ≡ Configured → IsIn (let e : Effect = (if b then effect.Ask else effect.Start) in e) phase
asks-in true phase h = subst (λ (p : Phase). asks_none p ≡ true) (sym h) refl
asks-in false phase h = h

asks-parked-in : (b : Bool) (phase : Phase) → asks_none phase ≡ true → IsIn (let e : Effect = (if b then effect.AskParked else effect.StartParked) in e) phase
asks-parked-in true phase h = h
asks-parked-in false phase h = h

pub still-in : (s : Session) (r : Entry) (e : Effect) → IsIn e s.phase → IsIn (effect_of s r e) s.phase
still-in s r effect.Start h = asks-in (wants_terminal s.options r) s.phase h
still-in s r effect.StartParked h = asks-parked-in (parked_wants_terminal s.options s.kept) s.phase h
still-in s r _ h = h

-- any call suits an effect that changes nothing
any-suits : (b : Bool) (d e : Effect) (asked : Call) → Suits d asked → Suits e asked → Suits (let x : Effect = (if b then d else e) in x) asked
any-suits true d e asked x y = x
any-suits false d e asked x y = y

pub still-suits : (s : Session) (r : Entry) (e : Effect) (asked : Call) → Suits e asked → Suits (effect_of s r e) asked
still-suits s r effect.Start asked h = any-suits (wants_terminal s.options r) effect.Ask effect.Start asked tt tt
still-suits s r effect.StartParked asked h = any-suits (parked_wants_terminal s.options s.kept) effect.AskParked effect.StartParked asked tt tt
still-suits s r _ asked h = h

-- and no test of a request that is served holds of it
same-first : (b : Bool) (view : Shown) (s : Session) (r : Entry) (d e : Effect) (asked : Call) → first_of view s r d asked ≡ first_of view s r e asked → first_of view s r (let x : Effect = (if b then d else e) in x) asked ≡ first_of view s r e asked
same-first true view s r d e asked h = h
same-first false view s r d e asked h = refl

pub still-first : (view : Shown) (s : Session) (r : Entry) (e : Effect) (asked : Call) → first_of view s r (effect_of s r e) asked ≡ first_of view s r e asked
still-first view s r effect.Start asked = same-first (wants_terminal s.options r) view s r effect.Ask effect.Start asked refl
still-first view s r effect.StartParked asked = same-first (parked_wants_terminal s.options s.kept) view s r effect.AskParked effect.StartParked asked refl
still-first view s r _ asked = refl

still-none : (asked : Bool) (view : Shown) (s : Session) (c : Call) → (reason_in view s (start_unless_asked asked) c ≡ None) × (reason_in view s (start_parked_unless_asked asked) c ≡ None)
still-none true view s c = (refl, refl)
still-none false view s c = (refl, refl)

-- nor is a reason given where a terminal is asked for
pub still-reason : (view : Shown) (s : Session) (r : Entry) (e : Effect) (asked : Call) → reason_in view s (effect_of s r e) asked ≡ reason_in view s e asked
still-reason view s r effect.Start asked = (still-none (wants_terminal s.options r) view s asked).0
still-reason view s r effect.StartParked asked = (still-none (parked_wants_terminal s.options s.kept) view s asked).1
still-reason view s r _ asked = refl
