-- A lent request that whoever holds the adapter answers: it is sound.
use Rattle.std.proofs.Common.{◌≡◌, ℕ, List, [], ◌∷◌, Bool, true, false, Option, None, Some, refl, sym, ap, subst, true≢false, cond}
use Rattle.std.specs.Prelude.{◌==◌}
use Rattle.std.proofs.lemmas.Bool.{and_parts}
use Rattle.serde_json.specs.Data.{Data}
use Rattle.dap_history.specs.Requests.{asks}
use Rattle.dap_command.specs.Opening.{is_openable}
use Rattle.dap_command.specs.declared.command.Command.{Command}
use Rattle.dap_command.specs.declared.command.Command.TheVariants as command
use Rattle.dap_message.specs.declared.outcome.Outcome.{Outcome}
use Rattle.dap_message.specs.declared.outcome.Outcome.TheVariants.{Success, Failure}
use Rattle.dap_tables.specs.Given.{references_given_in}
use Rattle.dap_tables.specs.Outstanding.{Kept, entry_with, is_parked, without, HasDistinctSeqs}
use Rattle.dap_tables.specs.declared.entry.Entry.{Entry}
use Rattle.dap_decision.specs.Failures.{command_of}
use Rattle.dap_outbox.specs.Draft.{reply, came_out}
use Rattle.dap_outbox.specs.Waiting.{may_be_lent}
use Rattle.dap_plan.specs.GivenLaws.{given_by}
use Rattle.dap_plan.specs.Laws.{CanMake}
use Rattle.dap_plan.specs.Plan.{Made, after_answering}
use Rattle.dap_plan.specs.Responding.{IsLent, responds}
use Rattle.dap_plan.specs.Session.{Session, IsOrderly}
use Rattle.dap_plan.proofs.Kept.{Walked, walked-kept, IsKept}
use Rattle.dap_plan.proofs.Moves.{Moves, is-plain, moves-plain}
use Rattle.dap_plan.proofs.Outcomes.{IsSound, AreBare, asks-nothing, asks-well, keeps-own, nothing-stays, references-plain, walked-well, bare-live}

-- what is kept by that number
pub record KeptAs (among : List Kept) (r : Entry) : Type 0 where
  pub one : Kept
  pub kept : IsKept among one
  pub entry : one.entry ≡ r

kept-cons : (b : Bool) (k : Kept) (o : Option Entry) (ks : List Kept) (r : Entry) → cond b (Some k.entry) o ≡ Some r → (o ≡ Some r → KeptAs ks r) → KeptAs (k ∷ ks) r
kept-cons true k o ks r e ih = record { one = k; kept = record { before = []; after = ks; split = refl }; entry = cc }
kept-cons false k o ks r e ih =
    let more = ih e in
    record { one = more.one; kept = record { before = k ∷ more.kept.before; after = more.kept.after; split = ap (λ (xs : List Kept). k ∷ xs) more.kept.split }; entry = more.entry }

pub kept-as : (seq : ℕ) (kept : List Kept) (r : Entry) → entry_with seq kept ≡ Some r → KeptAs kept r
kept-as seq [] r e = absurd cc
kept-as seq (k ∷ kept) r e = kept-cons (k.entry.seq == seq) k (entry_with seq kept) kept r e (kept-as seq kept r)

-- no reference is read from the answer to a command that may be opened
unread : (o : Option Command) (body : Option Data) → is_openable o ≡ true → references_given_in o body ≡ []
unread o None h = refl
unread None (Some body) h = refl
unread (Some command.SetFunctionBreakpoints) (Some body) h = refl
unread (Some command.Restart) (Some body) h = refl
unread (Some command.Modules) (Some body) h = refl
unread (Some command.ExceptionInfo) (Some body) h = refl
unread (Some command.BreakpointLocations) (Some body) h = refl
unread (Some command.Completions) (Some body) h = refl
unread (Some _) (Some body) h = absurd (true≢false (sym h))

gives-none : (r : Entry) (o : Outcome) → may_be_lent r ≡ true → given_by (reply r (came_out o)) ≡ []
gives-none r (Success body) h = unread (command_of r) body h
gives-none r (Failure message body) h = refl

walked-lent : (o : Outcome) (kept : List Kept) (r : Entry) → HasDistinctSeqs kept → KeptAs kept r → Walked (reply r (came_out o) ∷ []) (asks kept) (asks (without r.seq kept))
walked-lent o kept r d k = subst (λ (x : Entry). Walked (reply x (came_out o) ∷ []) (asks kept) (asks (without x.seq kept))) k.entry (walked-kept (came_out o) kept k.one d k.kept)

responded-sound : (r : Entry) (o : Outcome) (s : Session) → IsLent s r → IsSound (IsOrderly s) s [] None (after_answering r (came_out o) s)
responded-sound r o s l =
    let m : Made = after_answering r (came_out o) s in
    let plain = is-plain s m refl refl refl in
    let nothing = asks-nothing s m refl tt (λ suits. suits) in
    let bare : AreBare m.drafts = (refl, gives-none r o (and_parts (is_parked r.seq s.kept) (may_be_lent r) l.lent).1, tt) in
    record {
      well = λ (d : IsOrderly s). walked-well s m (nothing-stays s m nothing) (moves-plain s m plain) (walked-lent o s.kept r d.distinct (kept-as r.seq s.kept r l.kept)) refl (references-plain s m bare plain) (asks-well s m nothing);
      moves = moves-plain s m plain;
      stays = λ suits. suits;
      own = keeps-own s m (moves-plain s m plain) refl (nothing-stays s m nothing);
      by_name = tt;
      gives = bare-live m.after.references m.drafts bare;
    }

pub respond-is : (r : Entry) (o : Outcome) (s : Session) (made : Made) → IsLent s r → CanMake (responds r o s) made → IsSound (IsOrderly s) s [] None made
respond-is r o s made l is = subst (λ (x : Made). IsSound (IsOrderly s) s [] None x) (sym is) (responded-sound r o s l)

pub respond-moves : (r : Entry) (o : Outcome) (s : Session) (made : Made) → CanMake (responds r o s) made → Moves s made
respond-moves r o s made is = subst (λ (x : Made). Moves s x) (sym is) (moves-plain s (after_answering r (came_out o) s) (is-plain s _ refl refl refl))
