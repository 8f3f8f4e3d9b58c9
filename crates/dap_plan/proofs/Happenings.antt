-- What happened to the debuggee: each telling of it is sound.
use Rattle.std.proofs.Common.{◌≡◌, ℕ, ◌+◌, List, [], Bool, true, false, Option, None, length, refl, sym, subst, arith}
use Rattle.std.specs.Prelude.{if◌then◌else◌}
use Rattle.dap_history.specs.Requests.{asks}
use Rattle.dap_debuggee.specs.Shown.{to_poll, Reply, done, refused, happened}
use Rattle.dap_debuggee.specs.declared.answers.Happening.{Happening}
use Rattle.dap_debuggee.specs.declared.answers.Happening.TheVariants as happening
use Rattle.dap_decision.specs.declared.phase.Phase.{Phase}
use Rattle.dap_decision.specs.declared.phase.Phase.TheVariants.{Asked, Ended}
use Rattle.dap_plan.specs.Laws.{CanMake}
use Rattle.dap_plan.specs.Plan.{Made, at_once, asking, no_change}
use Rattle.serde_json.specs.Data.{Data}
use Rattle.dap_plan.specs.Emitting.{after_emitting, emits}
use Rattle.dap_plan.specs.Polling.{after_happening, after_poll_reply, polls, has_debuggee}
use Rattle.dap_plan.specs.Session.{Session}
use Rattle.dap_plan.proofs.Kept.{Walked, walked-none, walked-append, walked-event}
use Rattle.dap_plan.proofs.Moves.{IsPlain, is-plain, moves-plain}
use Rattle.dap_plan.proofs.OwnRequests.{asks_none, none-in}
use Rattle.dap_plan.proofs.Outcomes.{IsSound, AreBare, AsksNothing, asks-nothing, asks-well, keeps-own, none-by-name, nothing-stays, references-plain, walked-well, bare-live}

-- events alone: the kept requests stay
told-sound : (s : Session) (m : Made) → IsPlain s m → AreBare m.drafts → m.after.used ≡ s.used + length m.drafts → Walked m.drafts (asks s.kept) (asks m.after.kept) → AsksNothing s m → IsSound (Unit {0}) s [] None m
told-sound s m p n u w a = record { well = λ (t : Unit {0}). walked-well s m (nothing-stays s m a) (moves-plain s m p) w u (references-plain s m n p) (asks-well s m a); moves = moves-plain s m p; stays = a.stays; own = keeps-own s m (moves-plain s m p) u (nothing-stays s m a); by_name = none-by-name m.drafts a.none; gives = bare-live m.after.references m.drafts n }

pub no_change-sound : (s : Session) → IsSound (Unit {0}) s [] None (no_change s)
no_change-sound s = told-sound s (no_change s) (is-plain s _ refl refl refl) tt (omega arith) (walked-none (asks s.kept)) (asks-nothing s _ refl tt (λ suits. suits))

after_happening-sound : (h : Happening) (s : Session) → asks_none s.phase ≡ true → IsSound (Unit {0}) s [] None (after_happening h s)
unfolding after_happening
after_happening-sound happening.Nothing s q = no_change-sound s
after_happening-sound (happening.Output category text more) s q = told-sound s _ (is-plain s _ refl refl refl) (refl, refl, tt) refl (walked-event _ (asks s.kept)) (asks-nothing s _ refl tt (λ suits. suits))
after_happening-sound (happening.Stopped reason thread more) s q = told-sound s _ (is-plain s _ refl refl refl) (refl, refl, tt) refl (walked-event _ (asks s.kept)) (asks-nothing s _ refl tt (none-in s.phase s.asked q))
after_happening-sound (happening.Continued thread) s q = told-sound s _ (is-plain s _ refl refl refl) (refl, refl, tt) refl (walked-event _ (asks s.kept)) (asks-nothing s _ refl tt (none-in s.phase s.asked q))
after_happening-sound (happening.Exited code) s q =
    told-sound s _ (is-plain s _ refl refl refl) (refl, refl, (refl, refl, tt)) refl (walked-append _ _ (asks s.kept) (asks s.kept) (asks s.kept) (walked-event _ (asks s.kept)) (walked-event _ (asks s.kept))) (asks-nothing s _ refl tt (none-in s.phase s.asked q))

reply-sound : (s : Session) (r : Reply) → asks_none s.phase ≡ true → IsSound (Unit {0}) s [] None (after_poll_reply s r)
reply-sound s done q = no_change-sound s
reply-sound s (refused why) q = no_change-sound s
reply-sound s (happened h) q = after_happening-sound h s q

-- no request for a terminal waits where there is a debuggee
none-with-debuggee : (phase : Phase) → has_debuggee phase ≡ true → asks_none phase ≡ true
none-with-debuggee Asked h = h
none-with-debuggee Ended h = h
none-with-debuggee _ h = refl

polls-sound : (b : Bool) (s : Session) (made : Made) → has_debuggee s.phase ≡ b → CanMake (if b then asking to_poll (after_poll_reply s) else at_once (no_change s)) made → IsSound (Unit {0}) s [] None made
polls-sound true s made h is = subst (λ (x : Made). IsSound (Unit {0}) s [] None x) (sym is.1) (reply-sound s is.0 (none-with-debuggee s.phase h))
polls-sound false s made h is = subst (λ (x : Made). IsSound (Unit {0}) s [] None x) (sym is) (no_change-sound s)

pub poll-is : (s : Session) (made : Made) → CanMake (polls s) made → IsSound (Unit {0}) s [] None made
poll-is s made is = polls-sound (has_debuggee s.phase) s made refl is

-- an event that is told by its name
pub emit-is : (name : List ℕ) (body : Option Data) (s : Session) (made : Made) → CanMake (emits name body s) made → IsSound (Unit {0}) s [] None made
emit-is name body s made is =
    let sound = told-sound s (after_emitting name body s) (is-plain s _ refl refl refl) (refl, refl, tt) refl (walked-event _ (asks s.kept)) (asks-nothing s _ refl tt (λ suits. suits)) in
    subst (λ (x : Made). IsSound (Unit {0}) s [] None x) (sym is) sound
