-- What is true of a session stays true.
use Rattle.std.proofs.Common.{◌≡◌, ℕ, ◌≤◌, List, [], ◌++◌, Option, Some, None, Ok, length, refl, ap, arith, true}
use Rattle.std.proofs.lemmas.List.{append-nil}
use Rattle.dap_frame.specs.Settings.{Settings}
use Rattle.dap_command.specs.declared.offer.Offer.{Offer}
use Rattle.dap_history.specs.History.{Asked, Answered}
use Rattle.dap_history.specs.Requests.{asks}
use Rattle.dap_envelope.specs.declared.message.Message.{Message}
use Rattle.dap_debuggee.specs.Shown.{Shown}
use Rattle.dap_plan.specs.Answering.{GoesWell}
use Rattle.dap_plan.specs.Handling.{turns}
use Rattle.dap_plan.specs.Laws.{CanMake}
use Rattle.dap_plan.specs.Plan.{Made, Plan}
use Rattle.dap_plan.specs.Polling.{polls}
use Rattle.dap_plan.specs.Asking.{asks_named, may_ask}
use Rattle.dap_plan.specs.Emitting.{emits}
use Rattle.dap_plan.specs.Responding.{IsLent, responds}
use Rattle.dap_message.specs.declared.outcome.Outcome.{Outcome}
use Rattle.dap_tables.specs.declared.entry.Entry.{Entry}
use Rattle.serde_json.specs.Data.{Data}
use Rattle.dap_plan.specs.Session.{Session, IsOrderly, OwnStandApart, opened_session}
use Rattle.dap_plan.specs.Taking.{takes}
use Rattle.dap_plan.specs.Within.{IsWithin, EachStepStaysWithin}
use Rattle.dap_plan.proofs.Asks.{ask-is, next-is-new}
use Rattle.dap_plan.proofs.Deliveries.{delivery-is, delivery-exact}
use Rattle.dap_plan.proofs.Distinct.{AreDistinct, asks-distinct, distinct-asks, distinct-open, length-open, length-asks}
use Rattle.dap_plan.proofs.Responses.{respond-is, respond-moves}
use Rattle.dap_plan.proofs.Happenings.{poll-is, emit-is}
use Rattle.dap_plan.proofs.Moves.{Moves}
use Rattle.dap_plan.proofs.Outcomes.{Stays}
use Rattle.dap_plan.proofs.Own.{KeepsOwn}
use Rattle.dap_plan.proofs.Turns.{turn-is}

orderly : (s : Session) → IsWithin s → IsOrderly s
orderly s i = record { distinct = i.distinct; asked = i.asked; own = i.own }

-- what a step leaves, where it keeps few enough requests, and there are own numbers enough
step-within : (s : Session) (came : List Asked) (response : Option Answered) (m : Made) → IsWithin s → Moves s m → Stays s m → KeepsOwn s m → GoesWell s came response m → AreDistinct (asks s.kept ++ came) → length m.after.kept ≤ s.limits.requests → m.after.used ≤ s.limits.seq → IsWithin m.after
step-within s came response m i v t q w d k u =
    let few = v.few (record { references = i.references; numbers = i.numbers }) in
    let stand = v.stand (record { breakpoints = i.breakpoints; ids = i.ids }) in
    record {
      distinct = distinct-asks m.after.kept (rw w.kept (distinct-open m.drafts (asks s.kept ++ came) d));
      kept = rw v.limits k;
      asked = t i.asked;
      own = q i.own;
      used = rw v.limits u;
      references = rw v.limits few.references;
      numbers = rw v.limits few.numbers;
      breakpoints = rw v.limits stand.breakpoints;
      ids = stand.ids;
    }

-- none came: no more are kept than were
none-came : (s : Session) (m : Made) → IsWithin s → Moves s m → Stays s m → KeepsOwn s m → GoesWell s [] None m → m.after.used ≤ s.limits.seq → IsWithin m.after
none-came s m i v t q w u =
    let same : asks s.kept ++ [] ≡ asks s.kept = append-nil (asks s.kept) in
    let fewer = length-open m.drafts (asks s.kept ++ []) in
    let all = ap length same in
    let a = length-asks s.kept in
    let b = length-asks m.after.kept in
    let c = ap length w.kept in
    let most = i.kept in
    step-within s [] None m i v t q w (rw same (asks-distinct s.kept i.distinct)) (omega arith) u

take-stays : (s : Session) (m : Message) (plan : Plan) (made : Made) → IsWithin s → takes m s ≡ Ok plan → CanMake plan made → IsWithin made.after
take-stays s m plan made i e is =
    let t = delivery-is s m plan made e is in
    let well = t.sound.well (orderly s i) in
    let room = t.room i.used in
    let now = well.used in
    step-within s _ _ made i t.sound.moves t.sound.stays t.sound.own well (t.distinct i.distinct) (t.few i.kept) (omega arith)

turn-stays : (view : Shown) (s : Session) (plan : Plan) (made : Made) → IsWithin s → turns view s ≡ Ok (Some plan) → CanMake plan made → IsWithin made.after
turn-stays view s plan made i e is =
    let t = turn-is view s plan e in
    let o = t.row.outcomes made is in
    let well = o.sound.well (orderly s i) in
    let many = o.count in
    let room = t.room in
    let now = well.used in
    none-came s made i o.sound.moves o.sound.stays o.sound.own well (omega arith)

poll-stays : (s : Session) (made : Made) → IsWithin s → CanMake (polls s) made → made.after.used ≤ s.limits.seq → IsWithin made.after
poll-stays s made i is u = let p = poll-is s made is in none-came s made i p.moves p.stays p.own (p.well tt) u

emit-stays : (name : List ℕ) (body : Option Data) (s : Session) (made : Made) → IsWithin s → CanMake (emits name body s) made → made.after.used ≤ s.limits.seq → IsWithin made.after
emit-stays name body s made i is u = let p = emit-is name body s made is in none-came s made i p.moves p.stays p.own (p.well tt) u

respond-stays : (r : Entry) (o : Outcome) (s : Session) (made : Made) → IsWithin s → IsLent s r → CanMake (responds r o s) made → made.after.used ≤ s.limits.seq → IsWithin made.after
respond-stays r o s made i l is u = let p = respond-is r o s made l is in none-came s made i p.moves p.stays p.own (p.well (orderly s i)) u

ask-stays : (command : List ℕ) (arguments : Option Data) (s : Session) (made : Made) → IsWithin s → may_ask s ≡ true → CanMake (asks_named command arguments s) made → made.after.used ≤ s.limits.seq → IsWithin made.after
ask-stays command arguments s made i may is u = let p = ask-is command arguments s made is in none-came s made i p.moves (λ suits. rw (p.same.0, p.same.1) suits) (p.own may) p.well u

own-opened : (limits : Settings) (offers : Offer) → 1 ≤ limits.requests → OwnStandApart (opened_session limits offers)
own-opened limits offers h = record { distinct = tt; apart = λ seq e. refl; given = tt; asked_given = λ seq e. absurd cc; places = omega arith }

opened-within : (limits : Settings) (offers : Offer) → 1 ≤ limits.requests → IsWithin (opened_session limits offers)
opened-within limits offers h = record { distinct = tt; kept = omega arith; asked = refl; own = own-opened limits offers h; used = omega arith; references = omega arith; numbers = omega arith; breakpoints = omega arith; ids = omega arith }

pub each_step_stays_within : EachStepStaysWithin
each_step_stays_within = record {
  opened = opened-within;
  take = take-stays;
  turn = turn-stays;
  poll = poll-stays;
  emit = emit-stays;
  respond = respond-stays;
  ask = ask-stays;
  next_is_new = next-is-new;
  take_keeps_limits = λ s m plan made e is. (delivery-is s m plan made e is).sound.moves.limits;
  turn_keeps_limits = λ view s plan made e is. ((turn-is view s plan e).row.outcomes made is).sound.moves.limits;
  poll_keeps_limits = λ s made is. (poll-is s made is).moves.limits;
  emit_keeps_limits = λ name body s made is. (emit-is name body s made is).moves.limits;
  respond_keeps_limits = λ r o s made is. (respond-moves r o s made is).limits;
  ask_keeps_limits = λ command arguments s made is. (ask-is command arguments s made is).moves.limits;
  take_keeps_offers = λ s m plan made e is. (delivery-is s m plan made e is).sound.moves.offers;
  turn_keeps_offers = λ view s plan made e is. ((turn-is view s plan e).row.outcomes made is).sound.moves.offers;
  poll_keeps_offers = λ s made is. (poll-is s made is).moves.offers;
  emit_keeps_offers = λ name body s made is. (emit-is name body s made is).moves.offers;
  respond_keeps_offers = λ r o s made is. (respond-moves r o s made is).offers;
  ask_keeps_offers = λ command arguments s made is. (ask-is command arguments s made is).moves.offers;
  due_is_exact = λ view s plan made i e is. ((turn-is view s plan e).row.outcomes made is).count;
  take_due_is_exact = λ s m plan made i e is. delivery-exact s m plan e made is;
}
