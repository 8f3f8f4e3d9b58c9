-- What a request comes to when it is taken.
use Rattle.std.proofs.Common.{◌≡◌, ℕ, ◌+◌, ◌≤◌, List, [], Bool, true, false, None, Result, Ok, Err, IfOk, refl, ap, ◌∙◌, length}
use Rattle.dap_session.proofs.Turning.{within}
use Rattle.dap_tables.specs.Outstanding.{contains_seq}
use Rattle.dap_tables.specs.declared.entry.Entry.{Entry}
use Rattle.dap_decision.specs.declared.phase.Phase.TheVariants.{Asked, Ended}
use Rattle.dap_debuggee.specs.Shown.{Act, Reply}
use Rattle.dap_plan.specs.Carried.{Goes}
use Rattle.dap_decision.specs.Failures.{of_known, command_of}
use Rattle.dap_plan.specs.Plan.{Made, at_once, asking, no_change, plan_within_numbers}
use Rattle.dap_plan.specs.SessionState.{SessionState, MadeBy, Carries, HasTaken}
use Rattle.dap_plan.specs.Session.{Session}
use Rattle.dap_decision.specs.Table.{is_phase}
use Rattle.dap_plan.specs.Taking.{takes_request, after_taking, after_cancel_request, after_keeping, after_late_terminal, plan_of_response, plan_of_terminal, is_cancel}

-- a request that no name refuses
pub record IsOpenTo (r : Entry) (s : Session) : Type 0 where
  pub not_ended : is_phase Ended s.phase ≡ false
  pub new : contains_seq r.seq s.kept ≡ false

open-as : (r : Entry) (s : Session) → IsOpenTo r s → takes_request r s ≡ plan_within_numbers s (at_once (after_taking r s))
open-as r s o = rw (o.not_ended, o.new) refl

-- what is made at once, and nothing is asked
pub at_once_carries : {D : Type 0} (follows : Goes D) (m : Made) (old new : SessionState D) (bytes : List ℕ) → MadeBy m old.session new.session bytes → new.debuggee ≡ old.debuggee → Carries follows (at_once m) old new bytes
at_once_carries follows m old new bytes by same =
    record { step = record { made = m; carried = (refl, same); after = by.session }; tells = by.tells }

-- what is made of a reply
pub asking-carries : {D : Type 0} (follows : Goes D) (act : Act) (makes : Reply → Made) (last : Reply) (old new : SessionState D) (bytes : List ℕ) → follows old.debuggee act last new.debuggee → MadeBy (makes last) old.session new.session bytes → Carries follows (asking act makes) old new bytes
asking-carries follows act makes last old new bytes f by = record { step = record { made = makes last; carried = (last, f, refl); after = by.session }; tells = by.tells }

-- nothing is made, and nothing is written
pub no-step : {D : Type 0} (follows : Goes D) (old : SessionState D) (bytes : List ℕ) → bytes ≡ [] → Carries follows (at_once (no_change old.session)) old old bytes
no-step follows old bytes b = at_once_carries follows (no_change old.session) old old bytes (record { session = refl; tells = record { bytes_are = b; reads_back = λ _. tt } }) refl

-- ---- a response to the own request

-- it comes too late
pub late-carries : {D : Type 0} (follows : Goes D) (ok : Bool) (old new : SessionState D) (bytes : List ℕ) → is_phase Asked old.session.phase ≡ false → new ≡ record old { session = record old.session { asked = None } } → bytes ≡ [] → Carries follows (plan_of_response ok old.session) old new bytes
late-carries follows ok old new bytes late n b =
    rw late (at_once_carries follows (after_late_terminal old.session) old new bytes (record { session = ap (λ (x : SessionState _). x.session) n; tells = record { bytes_are = b; reads_back = λ _. tt } }) (ap (λ (x : SessionState _). x.debuggee) n))

-- or a terminal is waited for
pub waiting-carries : {D : Type 0} (follows : Goes D) (ok : Bool) (old new : SessionState D) (bytes : List ℕ) → is_phase Asked old.session.phase ≡ true → Carries follows (plan_of_terminal ok old.session) old new bytes → Carries follows (plan_of_response ok old.session) old new bytes
waiting-carries follows ok old new bytes h c = rw h c

pub takes-made : {D : Type 0} (follows : Goes D) (r : Entry) (old new : SessionState D) (m : Made) (bytes : List ℕ) → IsOpenTo r old.session → after_taking r old.session ≡ m → old.session.used + length m.drafts ≤ old.session.limits.seq
    → MadeBy m old.session new.session bytes → new.debuggee ≡ old.debuggee → HasTaken follows (takes_request r old.session) old new bytes
takes-made follows r old new m bytes o e h by same =
    record {
      plan = at_once m;
      is = open-as r old.session o ∙ rw (e, within (old.session.used + length m.drafts) old.session.limits.seq h) refl;
      carries = at_once_carries follows m old new bytes by same;
    }

pub as-cancel : (r : Entry) (s : Session) → of_known is_cancel (command_of r) ≡ true → after_taking r s ≡ after_cancel_request r s
as-cancel r s e = rw e refl

pub as-other : (r : Entry) (s : Session) → of_known is_cancel (command_of r) ≡ false → after_taking r s ≡ after_keeping r s
as-other r s e = rw e refl

pub each-ok : {T E : Type 0} (r : Result T E) (P Q : T → Type 0) → ((x : T) → P x → Q x) → IfOk r P → IfOk r Q
each-ok (Ok x) P Q f h = f x h
each-ok (Err e) P Q f h = tt
