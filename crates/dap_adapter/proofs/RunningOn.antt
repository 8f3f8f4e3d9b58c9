-- Each call of an adapter is a part of a run, and one part after the other is one.
use Rattle.std.proofs.Common.{◌≡◌, ℕ, ◌+◌, List, [], ◌∷◌, ◌++◌, take, Bool, true, false, Option, Some, None, is_some, Ok, refl, sym, ap, ◌∙◌, subst, arith, append_assoc, append-nil}
use Rattle.std.specs.List.{AllByRecursion}
use Rattle.std.proofs.lemmas.List.{take_all}
use Rattle.dap_frame.specs.Intake.{Intake, StandsFor as StandsForStream}
use Rattle.dap_frame.specs.Laws.{EachStreamHasOneSplit}
use Rattle.dap_frame.specs.Settings.{Settings, bounds_of}
use Rattle.dap_frame.specs.Stream.{Split}
use Rattle.dap_frame.specs.declared.limits.Bounds.{Bounds}
use Rattle.dap_history.specs.History.{Entry, outs_of}
use Rattle.dap_envelope.specs.ReadBack.{AllReadBack, ReadsBack}
use Rattle.dap_envelope.specs.declared.message.Message.{Message}
use Rattle.dap_debuggee.specs.Shown.{Shown}
use Rattle.dap_plan.specs.Carried.{Goes}
use Rattle.dap_plan.specs.Handling.{turns}
use Rattle.dap_plan.specs.Plan.{Plan, written_by, entries_of}
use Rattle.dap_outbox.specs.Draft.{bytes_of}
use Rattle.dap_plan.specs.Session.{Session}
use Rattle.dap_plan.specs.SessionState.{SessionState}
use Rattle.dap_adapter.specs.PrivateServing.{next_if}
use Rattle.dap_adapter.specs.Parts.{MayBeHeld, RunsOn, PartsJoin, InTurn, none_made, answered, told as told_since, emitted, responded, asked, exchanged, StandsInTurn, CallsInTurnAddUp}
use Rattle.dap_adapter.specs.Calls.{Step, Handled, Saw, Delivers, Waits, Takes, Exchanges}
use Rattle.dap_plan.specs.Emitting.{emits}
use Rattle.dap_plan.specs.Asking.{asks_named}
use Rattle.dap_plan.specs.Responding.{responds}
use Rattle.dap_adapter.specs.AdapterState.{AdapterState, state_of}
use Rattle.dap_adapter.specs.StandsFor.{StandsFor}
use Rattle.dap_adapter.specs.Run.{Next, to_take, to_turn, to_poll, has_ended, after_poll, Run, begins, handles as one_handled, idles, sees, delivers}

-- ---- runs

run_is : {D : Type 0} (shown : D → Shown) (follows : Goes D) (first next : Next) (p q : SessionState D) (xs ys : List (List ℕ)) (outs nows : List Message) → xs ≡ ys → outs ≡ nows → Run shown follows first p xs outs next q → Run shown follows first p ys nows next q
run_is shown follows first next p q xs ys outs nows x y r = subst (λ (z : List Message). Run shown follows first p ys z next q) y (subst (λ (z : List (List ℕ)). Run shown follows first p z outs next q) x r)

pub run_on : {D : Type 0} (shown : D → Shown) (follows : Goes D) (first next : Next) (p q : SessionState D) (xs : List (List ℕ)) (outs : List Message) → Run shown follows first p xs outs next q
    → (last : Next) (r : SessionState D) (ys : List (List ℕ)) (nows : List Message) → Run shown follows next q ys nows last r → Run shown follows first p (xs ++ ys) (outs ++ nows) last r
run_on shown follows first next p q xs outs a _ _ _ _ begins = run_is shown follows first next p q xs (xs ++ []) outs (outs ++ []) (sym (append-nil xs)) (sym (append-nil outs)) a
run_on shown follows first next p q xs outs a _ _ _ _ (delivers ys nows s t x m plan b going is plan_is step) =
    run_is shown follows first to_turn p t ((xs ++ ys) ++ x ∷ []) (xs ++ (ys ++ x ∷ [])) ((outs ++ nows) ++ written_by s.session step.made) (outs ++ (nows ++ written_by s.session step.made))
    (append_assoc xs ys (x ∷ [])) (append_assoc outs nows (written_by s.session step.made))
    (delivers (xs ++ ys) (outs ++ nows) s t x m plan (run_on shown follows first next p q xs outs a to_take s ys nows b) going is plan_is step)
run_on shown follows first next p q xs outs a _ _ _ _ (one_handled ys nows s t plan b is step) =
    run_is shown follows first to_turn p t (xs ++ ys) (xs ++ ys) ((outs ++ nows) ++ written_by s.session step.made) (outs ++ (nows ++ written_by s.session step.made))
    refl (append_assoc outs nows (written_by s.session step.made))
    (one_handled (xs ++ ys) (outs ++ nows) s t plan (run_on shown follows first next p q xs outs a to_turn s ys nows b) is step)
run_on shown follows first next p q xs outs a _ _ _ _ (idles ys nows s b is) = idles (xs ++ ys) (outs ++ nows) s (run_on shown follows first next p q xs outs a to_turn s ys nows b) is
run_on shown follows first next p q xs outs a _ _ _ _ (sees ys nows s t asks b step within) =
    let now = written_by s.session step.made in
    run_is shown follows first (after_poll (asks + 1) (bytes_of now) t.session.phase) p t (xs ++ ys) (xs ++ ys) ((outs ++ nows) ++ now) (outs ++ (nows ++ now))
    refl (append_assoc outs nows now)
    (sees (xs ++ ys) (outs ++ nows) s t asks (run_on shown follows first next p q xs outs a (to_poll asks) s ys nows b) step within)

-- ---- parts of runs

pub held_none : (next : Next) (s : Session) (rest : List ℕ) → rest ≡ [] → MayBeHeld next s rest
held_none to_take s rest is = λ ended. is
held_none to_turn s rest is = is
held_none (to_poll asks) s rest is = is

pub all_append : {A : Type 0} (P : A → Type 0) (xs ys : List A) → AllByRecursion P xs → AllByRecursion P ys → AllByRecursion P (xs ++ ys)
all_append P [] ys h k = k
all_append P (x ∷ xs) ys h k = (h.0, all_append P xs ys h.1 k)

not_both : (b : Bool) → b ≡ true → b ≡ false → ⊥
not_both b h k = cc

module _ {D : Type 0} (shown : D → Shown) (follows : Goes D) where
  unfoldable pub runs_on_none : (e : AdapterState D) (next : Next) → RunsOn shown follows e next [] [] e next
  runs_on_none e next = record {
    bodies = [];
    run = begins;
    stands = λ s h xs before stands stream. record {
      more = [];
      stands = subst (λ (z : List ℕ). StandsFor e z (h ++ [])) (sym (append-nil s)) (subst (λ (z : List Entry). StandsFor e s z) (sym (append-nil h)) stands);
      rest = before;
      stream = subst (λ (z : List ℕ). StandsForStream e.intake z (xs ++ []) before) (sym (append-nil s)) (subst (λ (z : List (List ℕ)). StandsForStream e.intake s z before) (sym (append-nil xs)) stream);
      held = λ m. m;
      went = ap outs_of (append-nil h) ∙ sym (append-nil (outs_of h));
      reads_back = tt;
    };
    stays_open = λ n. n;
    limits = refl;
  }

  unfoldable pub runs_on_then : (a b c : AdapterState D) (from mid to : Next) (used more : List ℕ) (outs nows : List Message) → RunsOn shown follows a from used outs b mid → RunsOn shown follows b mid more nows c to → RunsOn shown follows a from (used ++ more) (outs ++ nows) c to
  runs_on_then a b c from mid to used more outs nows x y = record {
    bodies = x.bodies ++ y.bodies;
    run = run_on shown follows from mid (state_of a) (state_of b) x.bodies outs x.run to (state_of c) y.bodies nows y.run;
    stands = λ s h xs before stands stream.
        let one = x.stands s h xs before stands stream in
        let two = y.stands (s ++ used) (h ++ one.more) (xs ++ x.bodies) one.rest one.stands one.stream in
        record {
          more = one.more ++ two.more;
          stands = subst (λ (z : List ℕ). StandsFor c z (h ++ (one.more ++ two.more))) (append_assoc s used more) (subst (λ (z : List Entry). StandsFor c ((s ++ used) ++ more) z) (append_assoc h one.more two.more) two.stands);
          rest = two.rest;
          stream = subst (λ (z : List ℕ). StandsForStream c.intake z (xs ++ (x.bodies ++ y.bodies)) two.rest) (append_assoc s used more) (subst (λ (z : List (List ℕ)). StandsForStream c.intake ((s ++ used) ++ more) z two.rest) (append_assoc xs x.bodies y.bodies) two.stream);
          held = λ m. two.held (one.held m);
          went = ap outs_of (sym (append_assoc h one.more two.more)) ∙ (two.went ∙ (ap (λ (ms : List Message). ms ++ nows) one.went ∙ append_assoc (outs_of h) outs nows));
          reads_back = all_append (ReadsBack a.session.limits.body) outs nows one.reads_back (subst (λ (z : Settings). AllReadBack z.body nows) x.limits two.reads_back);
        };
    stays_open = λ n. y.stays_open (x.stays_open n);
    limits = y.limits ∙ x.limits;
  }

  -- the frames and the bytes held are as they were
  pub same_stream : (e f : AdapterState D) (s rest : List ℕ) (xs : List (List ℕ)) → f.intake ≡ e.intake → StandsForStream e.intake s xs rest → StandsForStream f.intake (s ++ []) (xs ++ []) rest
  same_stream e f s rest xs same stream =
      subst (λ (z : List ℕ). StandsForStream f.intake z (xs ++ []) rest) (sym (append-nil s))
      (subst (λ (z : List (List ℕ)). StandsForStream f.intake s z rest) (sym (append-nil xs))
      (subst (λ (z : Intake). StandsForStream z s xs rest) (sym same) stream))

  -- ---- each call

  -- a request was handled
  pub turned : (e f : AdapterState D) (bytes : List ℕ) (x : Handled shown follows e bytes f) → f.fault ≡ None → f.session.limits ≡ e.session.limits → RunsOn shown follows e to_turn [] (written_by e.session x.step.session.made) f to_turn
  turned e f bytes x none limits = record {
    bodies = [];
    run = one_handled [] [] (state_of e) (state_of f) x.plan begins x.is x.step.session;
    stands = λ s h xs before stands stream. record {
      more = _;
      stands = x.step.goes_on s h stands;
      rest = before;
      stream = same_stream e f s before xs x.intake stream;
      held = λ m. m;
      went = x.step.went h;
      reads_back = x.step.reads_back s h stands;
    };
    stays_open = λ n. none;
    limits = limits;
  }

  -- no request waits
  idled_here : (e : AdapterState D) → turns (shown e.debuggee) e.session ≡ Ok None → RunsOn shown follows e to_turn [] [] e (to_poll 0)
  unfolding runs_on_none
  idled_here e is =
      let none = runs_on_none e to_turn in
      record {
        bodies = [];
        run = idles [] [] (state_of e) begins is;
        stands = λ s h xs before stands stream.
            let there = none.stands s h xs before stands stream in
            record { more = there.more; stands = there.stands; rest = there.rest; stream = there.stream; held = λ m. there.held m; went = there.went; reads_back = there.reads_back };
        stays_open = λ n. n;
        limits = refl;
      }

  pub idled : (e f : AdapterState D) → turns (shown e.debuggee) e.session ≡ Ok None → f ≡ e → RunsOn shown follows e to_turn [] [] f (to_poll 0)
  idled e f is same = subst (λ (z : AdapterState D). RunsOn shown follows e to_turn [] [] z (to_poll 0)) (sym same) (idled_here e is)

  -- what happened was told
  unfoldable pub told : (e f : AdapterState D) (asks : ℕ) (bytes : List ℕ) (x : Saw follows e bytes f) → f.fault ≡ None → f.session.limits ≡ e.session.limits
      → RunsOn shown follows e (to_poll asks) [] (written_by e.session x.step.session.made) f (after_poll (asks + 1) bytes f.session.phase)
  told e f asks bytes x none limits =
      let now = written_by e.session x.step.session.made in
      let ran : Run shown follows (to_poll asks) (state_of e) [] now (after_poll (asks + 1) (bytes_of now) f.session.phase) (state_of f) = sees [] [] (state_of e) (state_of f) asks begins x.step.session x.within in
      record {
        bodies = [];
        run = subst (λ (z : List ℕ). Run shown follows (to_poll asks) (state_of e) [] now (after_poll (asks + 1) z f.session.phase) (state_of f)) (sym x.step.bytes_are) ran;
        stands = λ s h xs before stands stream. record {
          more = _;
          stands = x.step.goes_on s h stands;
          rest = before;
          stream = same_stream e f s before xs x.intake stream;
          held = λ m. held_none (after_poll (asks + 1) bytes f.session.phase) f.session before m;
          went = x.step.went h;
          reads_back = x.step.reads_back s h stands;
        };
        stays_open = λ n. none;
        limits = limits;
      }

  -- ---- bytes that come

  -- a message was taken
  took : (one : EachStreamHasOneSplit) (e f : AdapterState D) (piece : List ℕ) (used : ℕ) (bytes : List ℕ) (m : Message) → has_ended e.session ≡ false → (x : Delivers follows e piece used bytes m f) → f.fault ≡ None → f.session.limits ≡ e.session.limits
      → RunsOn shown follows e to_take (take used piece) (written_by e.session x.step.session.made) f to_turn
  took one e f piece used bytes m going x none limits =
      let ready = x.whole.ready in
      record {
        bodies = ready.held ∷ [];
        run = delivers [] [] (state_of e) (state_of f) ready.held m x.plan begins going x.read x.is x.step.session;
        stands = λ s h xs before stands stream.
            let at = s ++ take used piece in
            let got = x.step.goes_on s h stands in
            let bounds = x.whole.completes.bounds ∙ stands.bounds in
            let whole : Split (bounds_of e.session.limits) at (xs ++ ready.held ∷ []) [] = subst (λ (z : Bounds). Split z at (xs ++ ready.held ∷ []) []) bounds (x.whole.completes.stands s xs before stream).split in
            let here : Split (bounds_of e.session.limits) at got.received.bodies got.received.rest = subst (λ (z : Bounds). Split z at got.received.bodies got.received.rest) (got.bounds ∙ ap bounds_of limits) got.received.stream.split in
            let same = one.one (bounds_of e.session.limits) at got.received.bodies (xs ++ ready.held ∷ []) got.received.rest [] here whole in
            record {
              more = _;
              stands = got;
              rest = [];
              stream = subst (λ (z : List ℕ). StandsForStream f.intake at (xs ++ ready.held ∷ []) z) same.1 (subst (λ (z : List (List ℕ)). StandsForStream f.intake at z got.received.rest) same.0 got.received.stream);
              held = λ m. refl;
              went = x.step.went h;
              reads_back = x.step.reads_back s h stands;
            };
        stays_open = λ n. none;
        limits = limits;
      }

  -- none became whole
  pub waited : (e f : AdapterState D) (piece : List ℕ) (used : ℕ) (bytes : List ℕ) → has_ended e.session ≡ false → Waits e piece used bytes f → f.fault ≡ None → RunsOn shown follows e to_take (take used piece) [] f to_take
  waited e f piece used bytes going x none =
      let all : take used piece ≡ piece = take_all used piece (let k = x.gathers.all in omega (arith, k)) in
      let run : Run shown follows to_take (state_of e) [] [] to_take (state_of f) = rw (x.session, x.debuggee) begins in
      record {
        bodies = [];
        run = run;
        stands = λ s h xs before stands stream.
            let at : s ++ take used piece ≡ s ++ piece = ap (λ z. s ++ z) all in
            record {
              more = [];
              stands = subst (λ (z : List ℕ). StandsFor f z (h ++ [])) (sym at) (x.goes_on s h stands);
              rest = before ++ piece;
              stream = subst (λ (z : List ℕ). StandsForStream f.intake z (xs ++ []) (before ++ piece)) (sym at) (subst (λ (z : List (List ℕ)). StandsForStream f.intake (s ++ piece) z (before ++ piece)) (sym (append-nil xs)) (x.gathers.stands s xs before stream));
              held = λ m ended. absurd (not_both (has_ended f.session) ended (ap has_ended x.session ∙ going));
              went = ap outs_of (append-nil h) ∙ sym (append-nil (outs_of h));
              reads_back = tt;
            };
        stays_open = λ n. none;
        limits = ap (λ (z : Session). z.limits) x.session;
      }

  -- a piece that comes, and what the run does next
  pub record HandsOn (e f : AdapterState D) (piece bytes : List ℕ) (used : ℕ) (next : Next) : Type 0 where
    pub now : List Message
    pub runs_on : RunsOn shown follows e to_take (take used piece) now f next
    pub bytes_are : bytes ≡ bytes_of now

  pub hands_on : (one : EachStreamHasOneSplit) (e f : AdapterState D) (piece : List ℕ) (used : ℕ) (bytes : List ℕ) (delivered : Option Message)
      → has_ended e.session ≡ false → Takes follows e piece used bytes delivered f → f.fault ≡ None → f.session.limits ≡ e.session.limits → HandsOn e f piece bytes used (next_if (is_some delivered))
  hands_on one e f piece used bytes None going x none limits = record { now = []; runs_on = waited e f piece used bytes going x none; bytes_are = x.none_written }
  hands_on one e f piece used bytes (Some m) going x none limits =
      record { now = written_by e.session x.step.session.made; runs_on = took one e f piece used bytes m going x none limits; bytes_are = x.step.bytes_are }

-- ---- an exchange

-- no call that an adapter stands for is about the debuggee
pub stands_exchanged : {D : Type 0} (shown : D → Shown) (old new : AdapterState D) (s : List ℕ) (h : List Entry) → Exchanges shown old new → StandsFor old s h → StandsFor new s h
stands_exchanged {D} shown old new s h e x =
    subst (λ (a : AdapterState D). StandsFor a s h) (sym e.all_else) (record { no_fault = x.no_fault; received = x.received; session = x.session; within = x.within; bounds = x.bounds })

-- ---- calls in turn

module _ {D : Type 0} (shown : D → Shown) (follows : Goes D) where
  pub parts_join : PartsJoin shown follows
  parts_join = runs_on_then shown follows

  one_more : (old m n : AdapterState D) (s used part all : List ℕ) (h : List Entry) (outs nows : List Message) (from : Next) → StandsInTurn old m (s ++ used) h outs → m.session.limits ≡ old.session.limits → RunsOn shown follows m from part nows n to_take → (s ++ used) ++ part ≡ s ++ all → StandsInTurn old n (s ++ all) h (outs ++ nows)
  one_more old m n s used part all h outs nows from x limits r is =
      let there = r.stands (s ++ used) (h ++ x.more) x.stands.received.bodies x.stands.received.rest x.stands x.stands.received.stream in
      record {
        more = x.more ++ there.more;
        stands = subst (λ (z : List ℕ). StandsFor n z (h ++ (x.more ++ there.more))) is (subst (λ (z : List Entry). StandsFor n ((s ++ used) ++ part) z) (append_assoc h x.more there.more) there.stands);
        went = ap outs_of (sym (append_assoc h x.more there.more)) ∙ (there.went ∙ (ap (λ (ms : List Message). ms ++ nows) x.went ∙ append_assoc (outs_of h) outs nows));
        reads_back = all_append (ReadsBack old.session.limits.body) outs nows x.reads_back (subst (λ (z : Settings). AllReadBack z.body nows) limits there.reads_back);
      }

  record InTurnLimits (old new : AdapterState D) (s : List ℕ) (h : List Entry) (outs : List Message) : Type 0 where
    pub stands : StandsInTurn old new s h outs
    pub limits : new.session.limits ≡ old.session.limits

  -- a step with no bytes of the client
  stepped_more : (old m n : AdapterState D) (s : List ℕ) (h : List Entry) (outs : List Message) (plan : Plan) (bytes : List ℕ) → InTurnLimits old m s h outs → n.session.limits ≡ m.session.limits → (t : Step follows plan m n [] [] bytes) → InTurnLimits old n s h (outs ++ written_by m.session t.session.made)
  stepped_more old m n s h outs plan bytes x limits t =
      let nows : List Message = written_by m.session t.session.made in
      let entries : List Entry = [] ++ entries_of m.session.used t.session.made in
      let was = x.stands in
      let stands = subst (λ (z : List ℕ). StandsFor n z ((h ++ was.more) ++ entries)) (append-nil s) (t.goes_on s (h ++ was.more) was.stands) in
      record {
        stands = record {
          more = was.more ++ entries;
          stands = subst (λ (z : List Entry). StandsFor n s z) (append_assoc h was.more entries) stands;
          went = ap outs_of (sym (append_assoc h was.more entries)) ∙ (t.went (h ++ was.more) ∙ (ap (λ (ms : List Message). ms ++ nows) was.went ∙ append_assoc (outs_of h) outs nows));
          reads_back = all_append (ReadsBack old.session.limits.body) outs nows was.reads_back (subst (λ (z : Settings). AllReadBack z.body nows) x.limits (t.reads_back s (h ++ was.more) was.stands));
        };
        limits = limits ∙ x.limits;
      }

  exchanged_more : (old m n : AdapterState D) (s : List ℕ) (h : List Entry) (outs : List Message) → InTurnLimits old m s h outs → Exchanges shown m n → InTurnLimits old n s h outs
  exchanged_more old m n s h outs x e = record {
    stands = record {
      more = x.stands.more;
      stands = stands_exchanged shown m n s (h ++ x.stands.more) e x.stands.stands;
      went = x.stands.went;
      reads_back = x.stands.reads_back;
    };
    limits = ap (λ (a : AdapterState D). a.session.limits) e.all_else ∙ x.limits;
  }

  in_turn : (old : AdapterState D) (s : List ℕ) (h : List Entry) → StandsFor old s h → (used : List ℕ) (outs : List Message) (new : AdapterState D) → InTurn shown follows old used outs new → InTurnLimits old new (s ++ used) h outs
  in_turn old s h x _ _ _ none_made = record {
    stands = record {
      more = [];
      stands = subst (λ (z : List ℕ). StandsFor old z (h ++ [])) (sym (append-nil s)) (subst (λ (z : List Entry). StandsFor old s z) (sym (append-nil h)) x);
      went = ap outs_of (append-nil h) ∙ sym (append-nil (outs_of h));
      reads_back = tt;
    };
    limits = refl;
  }
  in_turn old s h x _ _ _ (answered before used outs nows m n y r) =
      let there = in_turn old s h x before outs m y in
      record {
        stands = one_more old m n s before used (before ++ used) h outs nows to_take there.stands there.limits r (append_assoc s before used);
        limits = r.limits ∙ there.limits;
      }
  in_turn old s h x _ _ _ (told_since used outs nows m n y r) =
      let there = in_turn old s h x used outs m y in
      record {
        stands = one_more old m n s used [] used h outs nows (to_poll 0) there.stands there.limits r (append-nil (s ++ used));
        limits = r.limits ∙ there.limits;
      }
  in_turn old s h x _ _ _ (emitted used outs name body bytes m n y e) = stepped_more old m n (s ++ used) h outs (emits name body m.session) bytes (in_turn old s h x used outs m y) e.limits e.step
  in_turn old s h x _ _ _ (responded used outs seq o bytes m n y e) = stepped_more old m n (s ++ used) h outs (responds e.entry o m.session) bytes (in_turn old s h x used outs m y) e.limits e.step
  in_turn old s h x _ _ _ (asked used outs command arguments bytes m n y e) = stepped_more old m n (s ++ used) h outs (asks_named command arguments m.session) bytes (in_turn old s h x used outs m y) e.limits e.step
  in_turn old s h x _ _ _ (exchanged used outs m n y e) = exchanged_more old m n (s ++ used) h outs (in_turn old s h x used outs m y) e

  pub calls_add_up : CallsInTurnAddUp shown follows
  calls_add_up old new s used h outs y x = (in_turn old s h x used outs new y).stands
