-- A turn that asks for a terminal, the answer to that, and a number used by the client keep what holds.
use Rattle.std.proofs.Common.{◌≡◌, ℕ, List, [], ◌∷◌, ◌++◌, Bool, true, false, refl, sym, ap, ◌∙◌, subst, arith, length, inr, Option, Some, None}
use Rattle.dap_ends.specs.Messages.{Command, Launch, ConfigurationDone, Ask, Response, one_if, code, count, requests_in, answer_each}
use Rattle.dap_ends.specs.AdapterModel.{Made, asks, oldest, but_oldest, park_oldest, parked_of, unparked_of, phase_after_start, is_parked_phase, asks_terminal_as, after_asking_turn, ends_wait, AdapterPhase, AdapterConfigured, AdapterParked, AdapterAsked, AdapterStopped}
use Rattle.dap_ends.specs.ClientModel.{Phase, Configuring, Ended}
use Rattle.dap_ends.specs.World.{Agree}
use Rattle.dap_ends.specs.References.{Ref, Table, Eyes, RefWorld, eyes, plain_world, notes, ref_made, ref_happens, is_inspect, RefAskTerminal, RefEndWait, RefUseNumber}
use Rattle.dap_ends.specs.Standing.{future, queue, Matches, AllLive, RefsAgree}
use Rattle.dap_ends.proofs.AdapterModels.{but-parked, unparked-none}
use Rattle.dap_ends.proofs.Drains.{twice}
use Rattle.dap_ends.proofs.Notes.{agree-step}
use Rattle.dap_ends.proofs.Lines.{line-onward, sub-all, live-none, none-live}
use Rattle.dap_ends.proofs.Queues.{oldest-first, park-but, launch-parks}
use Rattle.dap_ends.proofs.Goes.{ended-goes}
use Rattle.dap_ends.proofs.Cases.{Facing, Next, answer, served}
use Rattle.dap_ends.proofs.Resumptions.{start-one, asked-next}
use Rattle.dap_ends.proofs.Endings.{Standing, quiet-next}
use Rattle.dap_ends.proofs.TurnKeeps.{facing, parked-one}
use Rattle.dap_ends.proofs.Keeps.{limit-next, keeps-all, standing}

true-false : true ≡ false → ⊥
true-false e = cc

-- a client
abbrev at : Phase → ℕ → List Ref → Eyes
at p q g = record { phase = p; resumer = q; given = g }

-- the client that waits for its launch goes on doing so
asked-match : (p : Phase) → Matches p AdapterParked → Matches p AdapterAsked
asked-match Configuring m = inr (inr (inr refl))
asked-match Ended m = tt
asked-match _ m = absurd (let z = m in cc)

-- nothing that waits names a reference outside a stop
named-none : (n r : ℕ) (w : RefWorld) (p : AdapterPhase) (xs : List Ask) → (w.adapter.phase ≡ AdapterStopped → ⊥) → AllLive w.adapter.phase w.table w.uses xs → AllLive p w.table w.uses xs
named-none n r w p xs e h = none-live p w.table w.uses xs (live-none w.adapter.phase w.table w.uses xs e h)

-- what asking does
abbrev AsksLaw : ℕ → ℕ → RefWorld → Made → Type 0
AsksLaw n r w m = Agree n (plain_world (ref_made w m [] w.table)) → RefsAgree n r (ref_made w m [] w.table)

nothing-keeps : (n r : ℕ) (w : RefWorld) → RefsAgree n r w → AsksLaw n r w (record { adapter = w.adapter; outs = [] })
nothing-keeps n r w g a = keeps-all n r w w.up (record { adapter = w.adapter; outs = [] }) [] w.table g a g.room g.launches (quiet-next r w.table (future (eyes w) w.down) w.adapter.phase (queue w) (standing n r w g)) g.uses

-- a launch is parked and asks
launch-keeps : (n r : ℕ) (w : RefWorld) (a : Ask) → w.adapter.phase ≡ AdapterConfigured → a.command ≡ Launch → oldest w.adapter.kept ≡ Some a → RefsAgree n r w → AsksLaw n r w (record { adapter = record w.adapter { kept = park_oldest w.adapter.kept; phase = AdapterAsked }; outs = [] })
launch-keeps n r w a p c o g z =
    let rest = asks (unparked_of (but_oldest w.adapter.kept)) ++ requests_in w.up in
    let q : queue w ≡ a ∷ rest = ap (λ xs. xs ++ requests_in w.up) (oldest-first w.adapter.kept a o) in
    let m : Made = record { adapter = record w.adapter { kept = park_oldest w.adapter.kept; phase = AdapterAsked }; outs = [] } in
    let same : asks (unparked_of (park_oldest w.adapter.kept)) ++ requests_in w.up ≡ rest = rw (park-but w.adapter.kept) refl in
    let v = future (eyes w) w.down in
    let face : Facing r w.table v AdapterConfigured a rest = subst (λ (x : AdapterPhase). Facing r w.table v x a rest) p (facing n r w a g o) in
    keeps-all n r w w.up m [] w.table g z g.room (launch-parks w.adapter.kept a (ap code c) o g.launches)
    (subst (λ (xs : List Ask). Next r w.table v AdapterAsked xs []) (sym same) (asked-next r w.table v.phase v.resumer v.given a rest face))
    (subst (λ (xs : List Ask). AllLive AdapterAsked w.table w.uses xs) (sym same) (named-none n r w AdapterAsked rest (λ e. let y : AdapterConfigured ≡ AdapterStopped = sym p ∙ e in cc) (subst (λ (xs : List Ask). AllLive w.adapter.phase w.table w.uses xs) q g.uses).2))

-- configurationDone is answered and the parked launch asks
done-keeps : (n r : ℕ) (w : RefWorld) (a : Ask) → w.adapter.phase ≡ AdapterParked → a.command ≡ ConfigurationDone → oldest w.adapter.kept ≡ Some a → RefsAgree n r w → AsksLaw n r w (record { adapter = record w.adapter { kept = but_oldest w.adapter.kept; phase = AdapterAsked }; outs = Response a true ∷ [] })
done-keeps n r w a p c o g z =
    let rest = asks (unparked_of (but_oldest w.adapter.kept)) ++ requests_in w.up in
    let q : queue w ≡ a ∷ rest = ap (λ xs. xs ++ requests_in w.up) (oldest-first w.adapter.kept a o) in
    let m : Made = record { adapter = record w.adapter { kept = but_oldest w.adapter.kept; phase = AdapterAsked }; outs = Response a true ∷ [] } in
    let v = future (eyes w) w.down in
    let face : Facing r w.table v AdapterParked a rest = subst (λ (x : AdapterPhase). Facing r w.table v x a rest) p (facing n r w a g o) in
    keeps-all n r w w.up m [] w.table g z g.room (rw (but-parked w.adapter.kept) g.launches)
    (served r w.table v [] AdapterParked AdapterAsked a true rest face (asked-match v.phase face.match) (rw c refl) (rw c refl) (rw c refl) (rw c refl) (rw c refl))
    (named-none n r w AdapterAsked rest (λ e. let y : AdapterParked ≡ AdapterStopped = sym p ∙ e in cc) (subst (λ (xs : List Ask). AllLive w.adapter.phase w.table w.uses xs) q g.uses).2)

asks_terminal_as-keeps : (p : AdapterPhase) (c : Command) (n r : ℕ) (w : RefWorld) (a : Ask) → w.adapter.phase ≡ p → a.command ≡ c → oldest w.adapter.kept ≡ Some a → RefsAgree n r w → AsksLaw n r w (asks_terminal_as p c w.adapter a)
asks_terminal_as-keeps AdapterConfigured Launch n r w a e c o g = launch-keeps n r w a e c o g
asks_terminal_as-keeps AdapterParked ConfigurationDone n r w a e c o g = done-keeps n r w a e c o g
asks_terminal_as-keeps AdapterConfigured _ n r w a e c o g = nothing-keeps n r w g
asks_terminal_as-keeps AdapterParked _ n r w a e c o g = nothing-keeps n r w g
asks_terminal_as-keeps _ x n r w a e c o g = nothing-keeps n r w g

after_asking_turn-keeps : (o : Option Ask) (n r : ℕ) (w : RefWorld) → oldest w.adapter.kept ≡ o → RefsAgree n r w → AsksLaw n r w (after_asking_turn o w.adapter)
after_asking_turn-keeps None n r w o g = nothing-keeps n r w g
after_asking_turn-keeps (Some a) n r w o g = asks_terminal_as-keeps w.adapter.phase a.command n r w a refl refl o g

-- a turn that asks
pub asks-keeps : (n r : ℕ) (w : RefWorld) → RefsAgree n r w → RefsAgree n r (ref_made w (after_asking_turn (oldest w.adapter.kept) w.adapter) [] w.table)
asks-keeps n r w g = after_asking_turn-keeps (oldest w.adapter.kept) n r w refl g (agree-step n r w RefAskTerminal (limit-next n r w g) g.agree)

-- the launch `l` is answered
ends_wait-next : (r : ℕ) (t : Table) (p : Phase) (q : ℕ) (g : List Ref) (l : Ask) (ok : Bool) (rest : List Ask) → Standing r t (at p q g) AdapterAsked rest → code l.command ≡ 1 → Next r t (at p q g) (phase_after_start ok) rest (answer l ok [] ∷ [])
ends_wait-next r t Configuring q g l ok rest f c =
    let s = start-one r (count is_inspect rest) q g [] t l ok (rw c refl) (rw c refl) (rw c refl) f.room f.live (f.early refl) in
    record {
      w = s.0;
      goes = s.1;
      match = s.2;
      live = rw s.3 f.live;
      line = line-onward f.other (at Configuring q g) s.0 0 0 rest rest (record { free = λ i j e. absurd e; resuming = λ i j e k. absurd (true-false (sym e ∙ s.5)) }) (λ e y. s.3 ∙ y) (omega arith) f.new (sub-all rest) f.line;
    }
ends_wait-next r t Ended q g l ok rest f c =
    record { w = at Ended q g; goes = ended-goes r (count is_inspect rest) q g [] (Response l ok ∷ []) (f.none refl) (tt, tt); match = tt; live = f.live; line = f.line }
ends_wait-next r t _ q g l ok rest f c = absurd (let z = f.match in cc)

ends_wait-cases : (p : AdapterPhase) (n r : ℕ) (w : RefWorld) (ok : Bool) → w.adapter.phase ≡ p → RefsAgree n r w → AsksLaw n r w (ends_wait p w.adapter ok)
ends_wait-cases AdapterAsked n r w ok e g = λ z.
    let d = w.adapter in
    let m : Made = record { adapter = record d { kept = unparked_of d.kept; phase = phase_after_start ok }; outs = answer_each ok (asks (parked_of d.kept)) } in
    let v = future (eyes w) w.down in
    let one : length (parked_of d.kept) ≡ 1 = g.agree.parked ∙ ap (λ (p : AdapterPhase). one_if (is_parked_phase p)) e in
    let l = parked-one (parked_of d.kept) one g.launches in
    let same : asks (unparked_of (unparked_of d.kept)) ++ requests_in w.up ≡ queue w = rw (twice d.kept) refl in
    let stand : Standing r w.table v AdapterAsked (queue w) = subst (λ (x : AdapterPhase). Standing r w.table v x (queue w)) e (standing n r w g) in
    keeps-all n r w w.up m [] w.table g z g.room (rw (unparked-none d.kept) tt)
    (subst (λ (xs : List Ask). Next r w.table v (phase_after_start ok) xs (notes [] (answer_each ok (asks (parked_of d.kept))))) (sym same)
    (subst (λ (xs : List Ask). Next r w.table v (phase_after_start ok) (queue w) (notes [] (answer_each ok xs))) (sym l.1) (ends_wait-next r w.table v.phase v.resumer v.given l.0 ok (queue w) stand l.2)))
    (subst (λ (xs : List Ask). AllLive (phase_after_start ok) w.table w.uses xs) (sym same) (named-none n r w (phase_after_start ok) (queue w) (λ x. let y : AdapterAsked ≡ AdapterStopped = sym e ∙ x in cc) g.uses))
ends_wait-cases _ n r w ok e g = nothing-keeps n r w g

-- the terminal is answered
pub ends_wait-keeps : (n r : ℕ) (w : RefWorld) (ok : Bool) → RefsAgree n r w → RefsAgree n r (ref_made w (ends_wait w.adapter.phase w.adapter ok) [] w.table)
ends_wait-keeps n r w ok g = ends_wait-cases w.adapter.phase n r w ok refl g (agree-step n r w (RefEndWait ok) (limit-next n r w g) g.agree)

-- the client uses a number
pub number-keeps : (n r : ℕ) (w : RefWorld) → RefsAgree n r w → RefsAgree n r (ref_happens n r w RefUseNumber)
number-keeps n r w g =
    record {
      agree = agree-step n r w RefUseNumber (limit-next n r w g) g.agree;
      room = g.room;
      launches = g.launches;
      fresh = g.fresh;
      resumer = let h = g.resumer in omega arith;
      none = g.none;
      stop = g.stop;
      fits = g.fits;
      calm = g.calm;
      match = g.match;
      live = g.live;
      known = g.known;
      line = g.line;
      plainly = g.plainly;
      resuming = g.resuming;
      apart = g.apart;
      uses = g.uses;
      legal = g.legal;
    }
