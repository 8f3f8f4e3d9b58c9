-- Parts of what happened, told one after the other.
use Rattle.std.proofs.Common.{◌≡◌, ◌≢◌, ℕ, ◌<◌, ◌&&◌, nat_le, List, [], ◌∷◌, ◌++◌, length, take, drop, Bool, true, false, zero, suc, ◌==◌, true≢false, Option, Some, None, Result, Ok, Err, refl, sym, ap, ◌∙◌, subst, append-nil, append_assoc, arith}
use Rattle.std.specs.Prelude.{IfOk, IfErr, OnOk}
use Rattle.std.specs.List.{list_all}
use Rattle.std.proofs.lemmas.Bool.{and_parts, and_from}
use Rattle.std.proofs.lemmas.Bool.Decides.{nat_tests}
use Rattle.dap_debuggee.specs.declared.answers.Category.{Category}
use Rattle.dap_json.specs.declared.more.Member.{Member}
use Rattle.dap_adapter.specs.AdapterState.{AdapterState}
use Rattle.dap_live.specs.Dropping.{why_unheard, unless_dropped}
use Rattle.dap_live.specs.LiveShown.{LiveState}
use Rattle.dap_live.specs.Hearing.{happening_by}
use Rattle.dap_live.specs.declared.mail.Coming.{Coming}
use Rattle.dap_live.specs.declared.mail.Coming.TheVariants.{Output, Stopped, Continued, Exited, Learned, NoValue, Variables, Sources}
use Rattle.dap_live.specs.declared.mail.Dropped.{Dropped as Drop}
use Rattle.dap_plan.specs.Polling.{after_happening, has_debuggee}
use Rattle.dap_plan.specs.Session.{Session}
use Rattle.dap_plan.specs.declared.fault.AdapterFault.{AdapterFault}
use Rattle.dap_plan.specs.declared.fault.AdapterFault.TheVariants.{OutOfMemory}
use Rattle.dap_recording.specs.Pieces.{piece_length, pieces, PiecesAreTheOutput}
use Rattle.dap_recording.proofs.PieceLemmas.{next_piece, left_shorter}
use Rattle.dap_host.specs.Hearing.{HostState, SameButAdapter, TellsIt, TellsInTurn, none_told, one_more, TellsUntil, all_told, until, StopsTelling, StopsWithin}
use Rattle.dap_host.specs.Parts.{parts_of, texts_told, outputs, outputs_alone, OutputIsToldWhole}

-- ---- a session in which output was told

phase_by : (d : Option Drop) (category : Category) (text : List ℕ) (more : List Member) (s : Session) → (after_happening (unless_dropped d (happening_by (Output category text more))) s).after.phase ≡ s.phase
unfolding after_happening
phase_by None category text more s = refl
phase_by (Some why) category text more s = refl

pub still_in_a_run : (h k : HostState) (category : Category) (text : List ℕ) (more : List Member) (dropped : Option Drop) (before after : List ℕ) → TellsIt h (Output category text more) dropped before after k → has_debuggee h.adapter.session.phase ≡ true → has_debuggee k.adapter.session.phase ≡ true
still_in_a_run h k category text more dropped before after tells run =
    let fetched = ap (λ (a : AdapterState LiveState). has_debuggee a.session.phase) tells.fed.fetched in
    let told = ap (λ (s : Session). has_debuggee s.phase) tells.fed.after in
    fetched ∙ told ∙ ap has_debuggee (phase_by (why_unheard (Output category text more) h.adapter.debuggee) category text more h.adapter.session) ∙ run

pub runs_still : (h k : HostState) (category : Category) (text : List ℕ) (more : List Member) (before after : List ℕ) (r : Result (Option Drop) AdapterFault)
    → IfOk r (λ dropped. TellsIt h (Output category text more) dropped before after k) → has_debuggee h.adapter.session.phase ≡ true → OnOk r (has_debuggee k.adapter.session.phase ≡ true)
runs_still h k category text more before after (Ok dropped) tells run = still_in_a_run h k category text more dropped before after tells run
runs_still h k category text more before after (Err fault) tells run = tt

-- ---- parts in turn

same_both : (a b c : HostState) → SameButAdapter a b → SameButAdapter b c → SameButAdapter a c
same_both a b c x y = record { limits = y.limits ∙ x.limits; longest = y.longest ∙ x.longest; number = y.number ∙ x.number; ahead = y.ahead ∙ x.ahead }

same_in_turn : (old : HostState) (before : List ℕ) (new : HostState) (parts : List Coming) (after : List ℕ) → TellsInTurn old before parts after new → SameButAdapter old new
same_in_turn old before _ _ _ none_told = record { limits = refl; longest = refl; number = refl; ahead = refl }
same_in_turn old before _ _ _ (one_more parts part middle after there new tells it) = same_both old there new (same_in_turn old before there parts middle tells) it.same

pub same_until : (old new : HostState) (parts : List Coming) (before after : List ℕ) (dropped : Option Drop) → TellsUntil old parts before after new dropped → SameButAdapter old new
same_until old new parts before after _ (all_told tells) = same_in_turn old before new parts after tells
same_until old new parts before after _ (until told later part why middle there are tells it) = same_both old there new (same_in_turn old before there told middle tells) it.same

-- behind a part that was told
in_turn_behind : (h old : HostState) (part : Coming) (start before : List ℕ) (it : TellsIt h part None start before old) (parts : List Coming) (after : List ℕ) (new : HostState) → TellsInTurn old before parts after new → TellsInTurn h start (part ∷ parts) after new
in_turn_behind h old part start before it _ _ _ none_told = one_more [] part start before h old none_told it
in_turn_behind h old part start before it _ _ _ (one_more parts last middle after there new tells more) =
    one_more (part ∷ parts) last middle after there new (in_turn_behind h old part start before it parts middle there tells) more

pub until_behind : (h old new : HostState) (part : Coming) (parts : List Coming) (start before after : List ℕ) (dropped : Option Drop) → TellsIt h part None start before old → TellsUntil old parts before after new dropped → TellsUntil h (part ∷ parts) start after new dropped
until_behind h old new part parts start before after _ it (all_told tells) = all_told (in_turn_behind h old part start before it parts after new tells)
until_behind h old new part parts start before after _ it (until told later last why middle there are tells drops) =
    until (part ∷ told) later last why middle there (ap (λ (cs : List Coming). part ∷ cs) are) (in_turn_behind h old part start before it told middle there tells) drops

pub stops_behind : (h old new : HostState) (part : Coming) (parts : List Coming) (start before after : List ℕ) (fault : AdapterFault) → TellsIt h part None start before old → StopsWithin old parts before after new fault → StopsWithin h (part ∷ parts) start after new fault
stops_behind h old new part parts start before after fault it s = record {
  told = part ∷ s.told;
  part = s.part;
  later = s.later;
  parts_are = ap (λ (cs : List Coming). part ∷ cs) s.parts_are;
  middle = s.middle;
  there = s.there;
  in_turn = in_turn_behind h old part start before it s.told s.middle s.there s.in_turn;
  stops = s.stops;
}

-- the first part is all, or is dropped, or the adapter is closed within it
pub one_by : (old new : HostState) (part : Coming) (later : List Coming) (before after : List ℕ) (why : Drop) → TellsIt old part (Some why) before after new → TellsUntil old (part ∷ later) before after new (Some why)
one_by old new part later before after why it = until [] later part why before old refl none_told it

pub one_part : (old new : HostState) (part : Coming) (before after : List ℕ) (dropped : Option Drop) → TellsIt old part dropped before after new → TellsUntil old (part ∷ []) before after new dropped
one_part old new part before after None it = all_told (one_more [] part before after old new none_told it)
one_part old new part before after (Some why) it = one_by old new part [] before after why it

pub stops_first : (old new : HostState) (part : Coming) (later : List Coming) (before after : List ℕ) (fault : AdapterFault) → StopsTelling old part before after new fault → StopsWithin old (part ∷ later) before after new fault
stops_first old new part later before after fault stops = record { told = []; part = part; later = later; parts_are = refl; middle = before; there = old; in_turn = none_told; stops = stops }

-- ---- pieces

-- the first text that is told, and those behind it
pub texts_are : (text : List ℕ) → texts_told text ≡ take (piece_length text) text ∷ pieces (drop (piece_length text) text ∷ [])
texts_are [] = refl
texts_are (c ∷ cs) = next_piece (c ∷ cs) (omega arith)

pub outputs_are : (category : Category) (more : List Member) (text piece rest : List ℕ) → piece ≡ take (piece_length text) text → rest ≡ drop (piece_length text) text
    → outputs category more (texts_told text) ≡ Output category piece more ∷ outputs_alone category (pieces (rest ∷ []))
outputs_are category more text piece rest first left =
    ap (outputs category more) (texts_are text)
    ∙ ap (λ (t : List ℕ). Output category t more ∷ outputs_alone category (pieces (drop (piece_length text) text ∷ []))) (sym first)
    ∙ ap (λ (t : List ℕ). Output category piece more ∷ outputs_alone category (pieces (t ∷ []))) (sym left)

-- these pieces of a text were told, and this is left of it
pub record PartWay (old : HostState) (category : Category) (text before left after : List ℕ) (there : HostState) : Type 0 where
  pub told : List Coming
  pub in_turn : TellsInTurn old before told after there
  pub whole : outputs_alone category (pieces (text ∷ [])) ≡ told ++ outputs_alone category (pieces (left ∷ []))

pub no_part_yet : (old : HostState) (category : Category) (text before : List ℕ) → PartWay old category text before text before old
no_part_yet old category text before = record { told = []; in_turn = none_told; whole = refl }

-- a piece is the next
module _ (old : HostState) (category : Category) (text before left middle : List ℕ) (there : HostState) (part_way : PartWay old category text before left middle there) (some : 0 < length left) (piece rest : List ℕ)
    (first : piece ≡ take (piece_length left) left) (behind : rest ≡ drop (piece_length left) left) where
  next : outputs_alone category (pieces (text ∷ [])) ≡ part_way.told ++ Output category piece [] ∷ outputs_alone category (pieces (rest ∷ []))
  next =
      part_way.whole
      ∙ ap (λ (ts : List (List ℕ)). part_way.told ++ outputs_alone category ts) (next_piece left some)
      ∙ ap (λ (t : List ℕ). part_way.told ++ Output category t [] ∷ outputs_alone category (pieces (drop (piece_length left) left ∷ []))) (sym first)
      ∙ ap (λ (t : List ℕ). part_way.told ++ Output category piece [] ∷ outputs_alone category (pieces (t ∷ []))) (sym behind)

  pub told_on : (new : HostState) (after : List ℕ) → TellsIt there (Output category piece []) None middle after new → PartWay old category text before rest after new
  told_on new after it = record {
    told = part_way.told ++ Output category piece [] ∷ [];
    in_turn = one_more part_way.told (Output category piece []) middle after there new part_way.in_turn it;
    whole = next ∙ sym (append_assoc part_way.told (Output category piece [] ∷ []) (outputs_alone category (pieces (rest ∷ []))));
  }

  pub dropped_there : (new : HostState) (after : List ℕ) (why : Drop) → TellsIt there (Output category piece []) (Some why) middle after new → TellsUntil old (outputs_alone category (pieces (text ∷ []))) before after new (Some why)
  dropped_there new after why it = until part_way.told (outputs_alone category (pieces (rest ∷ []))) (Output category piece []) why middle there next part_way.in_turn it

  pub stops_there : (new : HostState) (after : List ℕ) (fault : AdapterFault) → StopsTelling there (Output category piece []) middle after new fault → StopsWithin old (outputs_alone category (pieces (text ∷ []))) before after new fault
  stops_there new after fault stops = record {
    told = part_way.told;
    part = Output category piece [];
    later = outputs_alone category (pieces (rest ∷ []));
    parts_are = next;
    middle = middle;
    there = there;
    in_turn = part_way.in_turn;
    stops = stops;
  }

pub none_left : (old : HostState) (category : Category) (text before left after : List ℕ) (there : HostState) → left ≡ [] → PartWay old category text before left after there → TellsUntil old (outputs_alone category (pieces (text ∷ []))) before after there None
none_left old category text before left after there none p =
    let all : outputs_alone category (pieces (text ∷ [])) ≡ p.told = p.whole ∙ ap (λ (t : List ℕ). p.told ++ outputs_alone category (pieces (t ∷ []))) none ∙ append-nil p.told in
    all_told (subst (λ (cs : List Coming). TellsInTurn old before cs after there) (sym all) p.in_turn)

-- ---- what the calls give

pub some_left : (n : ℕ) (none : Bool) → none ≡ (n == 0) → none ≡ false → 0 < n
some_left zero none is some = absurd (true≢false (sym is ∙ some))
some_left (suc n) none is some = omega arith

pub nothing_left : (xs : List ℕ) (none : Bool) → none ≡ (length xs == 0) → none ≡ true → xs ≡ []
nothing_left [] none is empty = refl
nothing_left (x ∷ xs) none is empty = let none_is : length (x ∷ xs) ≡ 0 = grind (arith, nat_tests, is, empty) in absurd (omega (arith, none_is))

-- what is no output is one part
part_is : (c : Coming) → ((category : Category) (text : List ℕ) (more : List Member) → c ≡ Output category text more → ⊥) → parts_of c ≡ c ∷ []
part_is (Output category text more) never = absurd (never category text more refl)
part_is (Stopped reason thread shows later more) never = refl
part_is (Continued thread) never = refl
part_is (Exited code) never = refl
part_is (Learned text value holder more) never = refl
part_is (NoValue text why) never = refl
part_is (Variables holder variables) never = refl
part_is (Sources more) never = refl

module _ (old new : HostState) (c : Coming) (before after : List ℕ) (never : (category : Category) (text : List ℕ) (more : List Member) → c ≡ Output category text more → ⊥) where
  pub tells_one : (r : Result (Option Drop) AdapterFault) → IfOk r (λ dropped. TellsIt old c dropped before after new) → IfOk r (TellsUntil old (parts_of c) before after new)
  tells_one (Ok dropped) it = subst (λ (cs : List Coming). TellsUntil old cs before after new dropped) (sym (part_is c never)) (one_part old new c before after dropped it)
  tells_one (Err e) nothing = tt

  pub stops_one : (r : Result (Option Drop) AdapterFault) → IfErr r (λ fault. fault ≢ OutOfMemory → StopsTelling old c before after new fault) → IfErr r (λ fault. fault ≢ OutOfMemory → StopsWithin old (parts_of c) before after new fault)
  stops_one (Ok dropped) nothing = tt
  stops_one (Err e) stops = λ some. subst (λ (cs : List Coming). StopsWithin old cs before after new e) (sym (part_is c never)) (stops_first old new c [] before after e (stops some))

-- the first piece, and what is made of the rest
module _ (old : HostState) (category : Category) (more : List Member) (text piece rest before middle : List ℕ) (n : ℕ) (there : HostState) (length_is : n ≡ piece_length text) (front : piece ≡ take n text) (back : rest ≡ drop n text) where
  parts : outputs category more (texts_told text) ≡ Output category piece more ∷ outputs_alone category (pieces (rest ∷ []))
  parts = outputs_are category more text piece rest (front ∙ ap (λ (k : ℕ). take k text) length_is) (back ∙ ap (λ (k : ℕ). drop k text) length_is)

  first_none : (dropped : Option Drop) → dropped ≡ None → TellsIt old (Output category piece more) dropped before middle there → TellsIt old (Output category piece more) None before middle there
  first_none dropped none it = subst (λ (d : Option Drop). TellsIt old (Output category piece more) d before middle there) none it

  pub then_until : (dropped : Option Drop) → dropped ≡ None → TellsIt old (Output category piece more) dropped before middle there → (new : HostState) (after : List ℕ) (r : Result (Option Drop) AdapterFault)
      → IfOk r (TellsUntil there (outputs_alone category (pieces (rest ∷ []))) middle after new) → IfOk r (TellsUntil old (outputs category more (texts_told text)) before after new)
  then_until dropped none it new after (Ok d) until_there =
      subst (λ (cs : List Coming). TellsUntil old cs before after new d) (sym parts) (until_behind old there new (Output category piece more) (outputs_alone category (pieces (rest ∷ []))) before middle after d (first_none dropped none it) until_there)
  then_until dropped none it new after (Err e) nothing = tt

  pub then_stops : (dropped : Option Drop) → dropped ≡ None → TellsIt old (Output category piece more) dropped before middle there → (new : HostState) (after : List ℕ) (r : Result (Option Drop) AdapterFault)
      → IfErr r (λ fault. fault ≢ OutOfMemory → StopsWithin there (outputs_alone category (pieces (rest ∷ []))) middle after new fault) → IfErr r (λ fault. fault ≢ OutOfMemory → StopsWithin old (outputs category more (texts_told text)) before after new fault)
  then_stops dropped none it new after (Ok d) nothing = tt
  then_stops dropped none it new after (Err e) stops = λ some.
      subst (λ (cs : List Coming). StopsWithin old cs before after new e) (sym parts) (stops_behind old there new (Output category piece more) (outputs_alone category (pieces (rest ∷ []))) before middle after e (first_none dropped none it) (stops some))

  pub at_first : (dropped : Option Drop) (why : Drop) → dropped ≡ Some why → TellsIt old (Output category piece more) dropped before middle there → TellsUntil old (outputs category more (texts_told text)) before middle there (Some why)
  at_first dropped why is it =
      subst (λ (cs : List Coming). TellsUntil old cs before middle there (Some why)) (sym parts)
      (one_by old there (Output category piece more) (outputs_alone category (pieces (rest ∷ []))) before middle why (subst (λ (d : Option Drop). TellsIt old (Output category piece more) d before middle there) is it))

  pub stops_at_first : (fault : AdapterFault) → StopsTelling old (Output category piece more) before middle there fault → StopsWithin old (outputs category more (texts_told text)) before middle there fault
  stops_at_first fault stops =
      subst (λ (cs : List Coming). StopsWithin old cs before middle there fault) (sym parts) (stops_first old there (Output category piece more) (outputs_alone category (pieces (rest ∷ []))) before middle fault stops)

-- a further piece
module _ (old : HostState) (category : Category) (text before left middle : List ℕ) (there : HostState) (part_way : PartWay old category text before left middle there) (some : 0 < length left) (piece rest : List ℕ)
    (n : ℕ) (length_is : n ≡ piece_length left) (front : piece ≡ take n left) (back : rest ≡ drop n left) (beside : List Member) (alone : beside ≡ []) (new : HostState) (after : List ℕ) where
  first_is : piece ≡ take (piece_length left) left
  first_is = front ∙ ap (λ (k : ℕ). take k left) length_is

  behind_is : rest ≡ drop (piece_length left) left
  behind_is = back ∙ ap (λ (k : ℕ). drop k left) length_is

  alone_is : (dropped found : Option Drop) → dropped ≡ found → TellsIt there (Output category piece beside) dropped middle after new → TellsIt there (Output category piece []) found middle after new
  alone_is dropped found is it = subst (λ (d : Option Drop). TellsIt there (Output category piece []) d middle after new) is (subst (λ (more : List Member). TellsIt there (Output category piece more) dropped middle after new) alone it)

  pub goes_on_part_way : (dropped : Option Drop) → dropped ≡ None → TellsIt there (Output category piece beside) dropped middle after new → PartWay old category text before rest after new
  goes_on_part_way dropped none it = told_on old category text before left middle there part_way some piece rest first_is behind_is new after (alone_is dropped None none it)

  pub until_part_way : (dropped : Option Drop) (why : Drop) → dropped ≡ Some why → TellsIt there (Output category piece beside) dropped middle after new → TellsUntil old (outputs_alone category (pieces (text ∷ []))) before after new (Some why)
  until_part_way dropped why is it = dropped_there old category text before left middle there part_way some piece rest first_is behind_is new after why (alone_is dropped (Some why) is it)

  pub stops_part_way : (fault : AdapterFault) → StopsTelling there (Output category piece beside) middle after new fault → StopsWithin old (outputs_alone category (pieces (text ∷ []))) before after new fault
  stops_part_way fault stops = stops_there old category text before left middle there part_way some piece rest first_is behind_is new after fault (subst (λ (more : List Member). StopsTelling there (Output category piece more) middle after new fault) alone stops)

  pub shorter : length rest < length left
  shorter = subst (λ (xs : List ℕ). length xs < length left) (sym behind_is) (left_shorter left some)

-- ---- the whole of it

short : (texts : List (List ℕ)) → list_all (λ piece. nat_le 1 (length piece) && nat_le (length piece) 128) texts ≡ true → list_all (λ piece. nat_le (length piece) 128) texts ≡ true
short [] is = refl
short (text ∷ texts) is =
    let all = and_parts (nat_le 1 (length text) && nat_le (length text) 128) (list_all (λ piece. nat_le 1 (length piece) && nat_le (length piece) 128) texts) is in
    and_from (nat_le (length text) 128) (list_all (λ piece. nat_le (length piece) 128) texts) (and_parts (nat_le 1 (length text)) (nat_le (length text) 128) all.0).1 (short texts all.1)

pub told_whole : PiecesAreTheOutput → OutputIsToldWhole
told_whole laws [] = (refl, refl)
told_whole laws (c ∷ cs) =
    let both = laws ((c ∷ cs) ∷ []) in
    (both.0 ∙ append-nil (c ∷ cs), short (pieces ((c ∷ cs) ∷ [])) both.1)
