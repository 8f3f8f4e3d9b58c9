-- Where the debuggee does not move by itself in a stop the references agree.
use Rattle.std.proofs.Common.{◌≡◌, ℕ, List, [], ◌∷◌, Bool, true, false, sym, ap, subst, length, Option, Some, None}
use Rattle.std.specs.Prelude.{◌&&◌, if◌then◌else◌, nat_lt}
use Rattle.dap_ends.specs.Messages.{Ask, Message, Request, Response, Event}
use Rattle.dap_ends.specs.AdapterModel.{oldest}
use Rattle.dap_ends.specs.References.{Ref, RefWorld, RefStep, RefSend, RefUseNumber, IsStill}
use Rattle.dap_ends.specs.Standing.{RefsAgree}
use Rattle.dap_ends.specs.Pair.{NumberedNote, Pair, PairStep, PairSend, PairAnswer, PairDeliverUp, PairTurn, PairPoll, PairDeliverDown, pair_start, is_terminal_ask, has_fault, request_with_seq, sets_variable, turn_asks, pair_happens, pair_run, PairStepIsStill, PairIsStill, client_world}
use Rattle.dap_ends.proofs.RefsAgrees.{run-keeps, start-holds}
use Rattle.dap_ends.proofs.PairSteps.{echo, echo_up, echo_takes, echo_turn, echo_answer, echo_takes_down, echo_down, echo_unless, pair-client_world}
use Rattle.dap_ends.proofs.OwnRequests.{Owns, next-answers, next-new, owns-step}
use Rattle.dap_ends.proofs.PairSchedules.{owns-start}

-- what holds while the debuggee does not move by itself in a stop
pub record KeepsReferences (n r : ℕ) (w : Pair) : Type 0 where
  pub refs : RefsAgree n r (client_world w)
  pub owns : Owns w

-- the step of the other model is one of such a debuggee
still-takes_up : (n r : ℕ) (x : Message) (starts : Bool) (u : RefWorld) → IsStill n r (echo_takes x starts) u
still-takes_up n r (Request a q) starts u = (tt, tt)
still-takes_up n r (Response a ok) starts u = (tt, tt)
still-takes_up n r (Event k) starts u = tt

still-up : (n r : ℕ) (up : List NumberedNote) (starts : Bool) (u : RefWorld) → IsStill n r (echo_up up starts) u
still-up n r [] starts u = tt
still-up n r (m ∷ ms) starts u = still-takes_up n r m.note.message starts u

still-turn : (b c ok : Bool) (n r : ℕ) (more : List Bool) (named : List Ref) (u : RefWorld) → IsStill n r (echo_turn b c ok more named) u
still-turn true c ok n r more named u = (tt, tt)
still-turn false c ok n r more named u = (tt, tt)

still-answer : (o : Option Ask) (n r : ℕ) (u : RefWorld) → IsStill n r (echo_answer o) u
still-answer None n r u = tt
still-answer (Some a) n r u = (tt, tt)

still-if : (b : Bool) (n r : ℕ) (u : RefWorld) → IsStill n r (if b then [] else RefUseNumber ∷ []) u
still-if true n r u = tt
still-if false n r u = (tt, tt)

still-takes_down : (n r : ℕ) (w : Pair) (x : Message) (u : RefWorld) → IsStill n r (echo_takes_down n w x) u
still-takes_down n r w (Request a q) u = still-if (is_terminal_ask a && (w.announced && nat_lt (length w.incoming) n)) n r u
still-takes_down n r w (Response a ok) u = (tt, tt)
still-takes_down n r w (Event k) u = (tt, tt)

still-down : (n r : ℕ) (w : Pair) (down : List NumberedNote) (u : RefWorld) → IsStill n r (echo_down n w down) u
still-down n r w [] u = tt
still-down n r w (m ∷ ms) u = still-takes_down n r w m.note.message u

still-unless : (b : Bool) (n r : ℕ) (ss : List RefStep) (u : RefWorld) → IsStill n r ss u → IsStill n r (echo_unless b ss) u
still-unless true n r ss u h = tt
still-unless false n r ss u h = h

still-echo : (n r : ℕ) (w : Pair) (x : PairStep) → PairStepIsStill w x → IsStill n r (echo n r w x) (client_world w)
still-echo n r w (PairSend c i q wanted refs) h = still-unless (has_fault w.client.fault) n r (RefSend c i q refs ∷ []) (client_world w) (tt, tt)
still-echo n r w (PairAnswer q ok) h = still-unless (has_fault w.client.fault) n r (echo_answer (request_with_seq q w.incoming)) (client_world w) (still-answer (request_with_seq q w.incoming) n r (client_world w))
still-echo n r w (PairDeliverUp starts) h = still-up n r w.up starts (client_world w)
still-echo n r w (PairTurn ok more named) h = still-turn (turn_asks w (oldest w.adapter.kept)) (sets_variable (oldest w.adapter.kept)) ok n r more named (client_world w)
still-echo n r w (PairPoll x) h = (h, tt)
still-echo n r w PairDeliverDown h = still-unless (has_fault w.client.fault) n r (echo_down n w w.down) (client_world w) (still-down n r w w.down (client_world w))

-- each step
pub keeps-references-step : (n r : ℕ) (w : Pair) (x : PairStep) → PairStepIsStill w x → KeepsReferences n r w → KeepsReferences n r (pair_happens n r w x)
keeps-references-step n r w x c g =
    let e : has_fault w.client.fault ≡ false = ap has_fault g.refs.agree.client_fine in
    let b = pair-client_world n r w x e (next-answers w g.owns) (next-new w g.owns) in
    record {
      refs = subst (λ (u : RefWorld). RefsAgree n r u) (sym b) (run-keeps n r (echo n r w x) (client_world w) (still-echo n r w x c) g.refs);
      owns = owns-step n r w x g.owns;
    }

keeps-references-run : (n r : ℕ) (ss : List PairStep) (w : Pair) → PairIsStill n r ss w → KeepsReferences n r w → KeepsReferences n r (pair_run n r ss w)
keeps-references-run n r [] w c g = g
keeps-references-run n r (s ∷ ss) w c g = keeps-references-run n r ss (pair_happens n r w s) c.1 (keeps-references-step n r w s c.0 g)

-- what holds in every such schedule
pub keeps-references : (n r : ℕ) (ss : List PairStep) → PairIsStill n r ss pair_start → KeepsReferences n r (pair_run n r ss pair_start)
keeps-references n r ss c =
    keeps-references-run n r ss pair_start c
    (record { refs = start-holds n r; owns = owns-start })
