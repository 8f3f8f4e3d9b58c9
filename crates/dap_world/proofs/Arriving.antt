-- Whatever is under way, and whatever was written, is read back by the other end: each step writes only that.
use Rattle.std.proofs.Common.{◌≡◌, ℕ, List, [], ◌∷◌, ◌++◌, refl, sym, ap, subst}
use Rattle.std.specs.List.{AllByRecursion}
use Rattle.dap_frame.specs.Settings.{Settings, AreInRange}
use Rattle.dap_envelope.specs.ReadBack.{ReadsBack, AllReadBack}
use Rattle.dap_envelope.specs.declared.message.Message.{Message}
use Rattle.dap_check.specs.declared.line.Side.{Side}
use Rattle.dap_check.specs.declared.line.Side.TheVariants.{Client, Adapter}
use Rattle.dap_debuggee.specs.Shown.{Shown}
use Rattle.dap_plan.specs.Carried.{Goes}
use Rattle.dap_plan.specs.Plan.{written_by}
use Rattle.dap_plan.specs.SessionState.{SessionState}
use Rattle.dap_client.specs.Sending.{next_message, after_send}
use Rattle.dap_client.specs.Session.{Session as ClientSession}
use Rattle.dap_client.specs.TerminalResponse.{next_terminal_response, after_terminal_response}
use Rattle.dap_world.specs.World.{World, Said, said_by, messages_of, client_said, adapter_said, Step, by_sending, by_answering, by_coming_up, by_coming_down, by_turning, by_polling, by_emitting, by_exchanging, Schedule, starts, goes}
use Rattle.dap_world.specs.Agreement.{AllArrive}
use Rattle.dap_world.proofs.Lasting.{schedule-stands}
use Rattle.dap_world.proofs.Standing.{Stands}
use Rattle.dap_world.proofs.Stepping.{Laws}

pub all-append : {A : Type 0} (P : A → Type 0) (xs ys : List A) → AllByRecursion P xs → AllByRecursion P ys → AllByRecursion P (xs ++ ys)
all-append P [] ys h g = g
all-append P (x ∷ xs) ys h g = (h.0, all-append P xs ys h.1 g)

pub messages-more : (said : List Said) (side : Side) (ms : List Message) → messages_of (said ++ said_by side ms) ≡ messages_of said ++ ms
messages-more [] side [] = refl
messages-more [] side (m ∷ ms) = ap (λ (z : List Message). m ∷ z) (messages-more [] side ms)
messages-more (s ∷ said) side ms = ap (λ (z : List Message). s.message ∷ z) (messages-more said side ms)

said-more : (limit : ℕ) (said : List Said) (side : Side) (ms : List Message) → AllReadBack limit (messages_of said) → AllReadBack limit ms → AllReadBack limit (messages_of (said ++ said_by side ms))
said-more limit said side ms h g = subst (λ (z : List Message). AllReadBack limit z) (sym (messages-more said side ms)) (all-append (ReadsBack limit) (messages_of said) ms h g)

module _ {D : Type 0} (limits : Settings) where
  by-client : (session : ClientSession) (ms : List Message) (w : World D) → AllArrive limits w → AllReadBack limits.body ms → AllArrive limits (client_said session ms w)
  by-client session ms w a h = record { up = all-append (ReadsBack limits.body) w.up ms a.up h; down = a.down; said = said-more limits.body w.said Client ms a.said h }

  by-adapter : (session_state : SessionState D) (ms : List Message) (w : World D) → AllArrive limits w → AllReadBack limits.body ms → AllArrive limits (adapter_said session_state ms w)
  by-adapter session_state ms w a h = record { up = a.up; down = all-append (ReadsBack limits.body) w.down ms a.down h; said = said-more limits.body w.said Adapter ms a.said h }

  later-up : (w : World D) (m : Message) (later : List Message) → w.up ≡ m ∷ later → AllArrive limits w → AllArrive limits (record w { up = later })
  later-up w m later e a = let all = subst (λ (z : List Message). AllReadBack limits.body z) e a.up in record { up = all.1; down = a.down; said = a.said }

  later-down : (w : World D) (m : Message) (later : List Message) → w.down ≡ m ∷ later → AllArrive limits w → AllArrive limits (record w { down = later })
  later-down w m later e a = let all = subst (λ (z : List Message). AllReadBack limits.body z) e a.down in record { up = a.up; down = all.1; said = a.said }

  at-client : (w : World D) (ms : List Message) → Stands limits w → AllReadBack w.client.limits.body ms → AllReadBack limits.body ms
  at-client w ms g h = subst (λ (z : Settings). AllReadBack z.body ms) g.client_limits h

  at-adapter : (w : World D) (ms : List Message) → Stands limits w → AllReadBack w.adapter.session.limits.body ms → AllReadBack limits.body ms
  at-adapter w ms g h = subst (λ (z : Settings). AllReadBack z.body ms) g.adapter_limits h

  step-arrives : (shown : D → Shown) (follows : Goes D) (old new : World D) → Step shown follows old new → Stands limits old → AllArrive limits old → AllArrive limits new
  step-arrives shown follows old new (by_sending call t) g a =
      subst (λ (w : World D). AllArrive limits w) (sym t.is) (by-client (after_send call old.client) (next_message old.client call ∷ []) old a (at-client old (next_message old.client call ∷ []) g (t.reads_back, tt)))
  step-arrives shown follows old new (by_answering q terminal t) g a =
      subst (λ (w : World D). AllArrive limits w) (sym t.is) (by-client (after_terminal_response q old.client) (next_terminal_response old.client q terminal ∷ []) old a (at-client old (next_terminal_response old.client q terminal ∷ []) g (t.reads_back, tt)))
  step-arrives shown follows old new (by_coming_up t) g a =
      subst (λ (w : World D). AllArrive limits w) (sym t.step.is) (by-adapter t.step.adapter (written_by old.adapter.session t.step.session.made) (record old { up = t.later }) (later-up old t.message t.later t.first a) (at-adapter old (written_by old.adapter.session t.step.session.made) g t.step.reads_back))
  step-arrives shown follows old new (by_coming_down t) g a =
      subst (λ (w : World D). AllArrive limits w) (sym t.is) (by-client t.made.after t.made.written (record old { down = t.later }) (later-down old t.message t.later t.first a) (at-client old t.made.written g t.reads_back))
  step-arrives shown follows old new (by_turning t) g a = subst (λ (w : World D). AllArrive limits w) (sym t.step.is) (by-adapter t.step.adapter (written_by old.adapter.session t.step.session.made) old a (at-adapter old (written_by old.adapter.session t.step.session.made) g t.step.reads_back))
  step-arrives shown follows old new (by_polling t) g a = subst (λ (w : World D). AllArrive limits w) (sym t.step.is) (by-adapter t.step.adapter (written_by old.adapter.session t.step.session.made) old a (at-adapter old (written_by old.adapter.session t.step.session.made) g t.step.reads_back))
  step-arrives shown follows old new (by_emitting name body t) g a = subst (λ (w : World D). AllArrive limits w) (sym t.step.is) (by-adapter t.step.adapter (written_by old.adapter.session t.step.session.made) old a (at-adapter old (written_by old.adapter.session t.step.session.made) g t.step.reads_back))
  step-arrives shown follows old new (by_exchanging t) g a = subst (λ (w : World D). AllArrive limits w) (sym t.all_else) (record { up = a.up; down = a.down; said = a.said })

pub schedule-arrives : {D : Type 0} (laws : Laws) (shown : D → Shown) (follows : Goes D) (limits : Settings) (debuggee : D) (w : World D) → AreInRange limits → Schedule shown follows limits debuggee w → AllArrive limits w
schedule-arrives laws shown follows limits debuggee _ r starts = record { up = tt; down = tt; said = tt }
schedule-arrives laws shown follows limits debuggee _ r (goes v w s t) =
    step-arrives limits shown follows v w t (schedule-stands laws shown follows limits debuggee v r s) (schedule-arrives laws shown follows limits debuggee v r s)
