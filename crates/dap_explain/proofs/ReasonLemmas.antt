-- A line has a reason just where it breaks the rule.
use Rattle.std.proofs.Common.{◌≡◌, ℕ, ◌+◌, ◌≤◌, ◌==◌, List, [], ◌∷◌, ◌++◌, Bool, true, false, Option, Some, None, codes, refl, sym, ap, ◌∙◌, subst, arith}
use Rattle.std.specs.Prelude.{not, ◌&&◌, ◌||◌, cond, is_some, is_none, option_map, option_and_then, unwrap_or, bytes_eq, MatchBool}
use Rattle.std.specs.List.{list_any}
use Rattle.std.specs.Option.{option_or}
use Rattle.std.proofs.lemmas.Bool.Decides.{nat_tests}
use Rattle.std.proofs.lemmas.List.{append_assoc, append-nil}
use Rattle.std.proofs.lemmas.Slice.Eq.{bytes_eq-Decides}
use Rattle.serde_json.specs.Data.{Data, Num, unsigned, negative, float}
use Rattle.serde_json.specs.Find.{as_bool}
use Rattle.dap_command.specs.Capabilities.{has, is_flag, passes}
use Rattle.dap_command.specs.Command.{command_named, gate_of}
use Rattle.dap_command.specs.declared.command.Command.{Command}
use Rattle.dap_command.specs.declared.command.Gate.{Gate}
use Rattle.dap_envelope.specs.declared.message.Kind.{Kind}
use Rattle.dap_envelope.specs.declared.message.Kind.TheVariants.{Request, Response, Event, Other}
use Rattle.dap_check.specs.Lines.{other_side, is_among, is_request_among, is_request_for, arguments_of, body_of, is_of, asks, asks_as, asks_for, answers, succeeds, is_adapter_event}
use Rattle.dap_check.specs.Laws.{OpenIsAPlace, SomeIsAPlace}
use Rattle.dap_check.specs.Places.{named_by, switches_on, switches_off, OfferIsByPlaces}
use Rattle.dap_explain.specs.Reasons.{trail, opened_of, closing_line, no_line, is_open_still, waiting_reason, not_asked_reason, answer_reason, second_request_reason, why_early, no_initialize_reason, why_uninitialized, asks_to_initialize, decides, gate_reason, gate_asked, gives, other_kind, unknown_reason, number_reason, kind_named, reference_reason, why_ended, BrokenRulesHaveReasons}
use Rattle.dap_check.specs.Rules.{is_out_of_place, is_too_early, initialize, disconnect, offered_capabilities, permits, is_refused, is_frame, is_holder, is_unknown, number_at, naming_frames, naming_holders, resumes}
use Rattle.dap_check.specs.Since.{is_open, first_since, last_since, Past}
use Rattle.dap_explain.specs.KeptTrails.{closed_after, trail_after}
use Rattle.dap_check.specs.declared.line.Line.{Line}
use Rattle.dap_check.specs.declared.line.Side.{Side}
use Rattle.dap_check.specs.declared.line.Side.TheVariants.{Client, Adapter}
use Rattle.dap_explain.specs.declared.reason.Reason.{Reason}
use Rattle.dap_explain.specs.declared.reason.Reason.TheVariants.{Numbered, NotInitialize, NotOffered, NotInitialized, Ended}
use Rattle.dap_explain.specs.declared.reason.ReferenceKind.{ReferenceKind}
use Rattle.dap_explain.specs.declared.reason.ReferenceKind.TheVariants.{Frame, Variables}
use Rattle.dap_check.specs.declared.rule.Rule.TheVariants.{Seq, Answer, FirstRequest, Initialized, Gate as GateRule, Reference, Disconnect}
use Rattle.dap_explain.specs.declared.trail.Opened.{Opened}
use Rattle.dap_explain.specs.declared.trail.Trail.{Trail}
use Rattle.dap_check.specs.SinceLaws.{any_push, open_push, first_push, first_later, with_later}
use Rattle.dap_explain.proofs.TrailLemmas.{trail_push, closed_push}

-- ---- line by line

from : (P : List Line → Type 0) → ((xs : List Line) (y : Line) → P xs → P (xs ++ y ∷ [])) → (earlier later : List Line) → P earlier → P (earlier ++ later)
from P step earlier [] is = subst P (sym (append-nil earlier)) is
from P step earlier (y ∷ later) is = subst P (append_assoc earlier (y ∷ []) later) (from P step (earlier ++ y ∷ []) later (step earlier y is))

-- ---- what is open still

open_later : (opens_it closes_it : Bool) (line : Line) (n : ℕ) (opened : Option Opened) (closed : Option ℕ)
    → is_open_still (cond opens_it (record { count = n + 1; opened = Some (record { line = line.number; seq = line.message.seq }); closed = None }) (record { count = n; opened = opened; closed = closed_after (λ m x. closes_it) line opened closed }))
    ≡ (((is_some opened && is_none closed) && not closes_it) || opens_it)
open_later true closes_it line n opened closed = or_true ((is_some opened && is_none closed) && not closes_it)
  where
    or_true : (b : Bool) → true ≡ (b || true)
    or_true true = refl
    or_true false = refl
open_later false closes_it line n None closed = refl
open_later false closes_it line n (Some o) (Some k) = refl
open_later false true line n (Some o) None = refl
open_later false false line n (Some o) None = refl

module _ (p q : Line → Bool) where
  open_step : (xs : List Line) (y : Line) → is_open_still (trail p (λ n. q) xs) ≡ is_open p q xs → is_open_still (trail p (λ n. q) (xs ++ y ∷ [])) ≡ is_open p q (xs ++ y ∷ [])
  open_step xs y is =
      let t = trail p (λ n. q) xs in
      ap is_open_still (trail_push p (λ n. q) xs y) ∙ open_later (p y) (q y) y t.count t.opened t.closed ∙ ap (λ b. (b && not (q y)) || p y) is ∙ sym (open_push p q xs y)

  pub open_trail : (xs : List Line) → is_open_still (trail p (λ n. q) xs) ≡ is_open p q xs
  open_trail xs = from (λ z. is_open_still (trail p (λ n. q) z) ≡ is_open p q z) open_step [] xs refl

-- ---- some line

some_or : (b : Bool) (x : Line) (xs : List Line) (last : Option (Past Line)) → is_some (option_map opened_of (option_or last (cond b (Some (record { line = x; since = xs })) None))) ≡ (b || is_some (option_map opened_of last))
some_or true x xs None = refl
some_or true x xs (Some past) = refl
some_or false x xs None = refl
some_or false x xs (Some past) = refl

any_trail : (p : Line → Bool) (xs : List Line) → is_some (option_map opened_of (last_since p xs)) ≡ list_any p xs
any_trail p [] = refl
any_trail p (x ∷ xs) = some_or (p x) x xs (last_since p xs) ∙ ap (λ b. p x || b) (any_trail p xs)

first_or : (b : Bool) (x : Line) (xs : List Line) (first : Option (Past Line)) → is_some (cond b (Some (record { line = x; since = xs })) first) ≡ (b || is_some first)
first_or true x xs first = refl
first_or false x xs first = refl

any_first : (p : Line → Bool) (xs : List Line) → is_some (first_since p xs) ≡ list_any p xs
any_first p [] = refl
any_first p (x ∷ xs) = first_or (p x) x xs (first_since p xs) ∙ ap (λ b. p x || b) (any_first p xs)

-- ---- numbers and answers

some_unless : (b : Bool) (reason : Reason) → is_some (cond b None (Some reason)) ≡ not b
some_unless true reason = refl
some_unless false reason = refl

some_waiting : (seq : ℕ) (opened : Option Opened) (closed : Option ℕ) → is_some (waiting_reason seq opened closed) ≡ (is_some opened && is_none closed)
some_waiting seq (Some asked) None = refl
some_waiting seq (Some asked) (Some answered) = refl
some_waiting seq None closed = refl

some_answer : (earlier : List Line) (side : Side) (seq : ℕ) (kind : Kind) → is_some (answer_reason earlier side seq kind) ≡ is_out_of_place side seq earlier kind
some_answer earlier side seq (Request command arguments) =
    let t = trail (asks_as side seq) (λ n. answers (other_side side) seq) earlier in
    some_waiting seq t.opened t.closed ∙ open_trail (asks_as side seq) (answers (other_side side) seq) earlier
some_answer earlier side seq (Response request_seq success command message body) =
    let t = trail (asks_as (other_side side) request_seq) (λ n. answers (other_side (other_side side)) request_seq) earlier in
    some_unless (is_open_still (trail (asks_for (other_side side) request_seq command) (λ n. answers (other_side (other_side side)) request_seq) earlier)) (not_asked_reason request_seq t.opened t.closed)
    ∙ ap not (open_trail (asks_for (other_side side) request_seq command) (answers (other_side (other_side side)) request_seq) earlier)
some_answer earlier side seq (Event event body) = refl
some_answer earlier side seq (Other tag) = refl

-- ---- the client's first request

module _ (p : Line → Bool) (closes : ℕ → Line → Bool) where
  -- the one that was found last is the first, or there are two
  abbrev IsFirstOf : Trail → Option (Past Line) → Type 0
  IsFirstOf t None = t.count ≡ 0
  IsFirstOf t (Some past) = MatchBool (list_any p past.since) (2 ≤ t.count) (t ≡ record { count = 1; opened = Some (opened_of past); closed = closing_line closes past })

  abbrev later_of : Bool → Line → Trail → Trail
  later_of b y t = cond b (record { count = t.count + 1; opened = Some (record { line = y.number; seq = y.message.seq }); closed = None }) (record { count = t.count; opened = t.opened; closed = closed_after closes y t.opened t.closed })

  begins : (b : Bool) (y : Line) (t : Trail) → t.count ≡ 0 → IsFirstOf (later_of b y t) (cond b (Some (record { line = y; since = [] })) None)
  begins true y t e = ap (λ n. record { count = n + 1; opened = Some (record { line = y.number; seq = y.message.seq }); closed = None }) e
  begins false y t e = e

  goes_on : (any b : Bool) (y : Line) (past : Past Line) (t : Trail) → MatchBool any (2 ≤ t.count) (t ≡ record { count = 1; opened = Some (opened_of past); closed = closing_line closes past })
      → MatchBool (any || b) (2 ≤ (later_of b y t).count) (later_of b y t ≡ record { count = 1; opened = Some (opened_of past); closed = closing_line closes (with_later y past) })
  goes_on true true y past t is = omega arith
  goes_on true false y past t is = is
  goes_on false true y past t is = omega (arith, ap (λ (x : Trail). x.count) is)
  goes_on false false y past t is = ap (later_of false y) is ∙ ap (λ closed. record { count = 1; opened = Some (opened_of past); closed = closed }) (sym (closed_push closes y past))

  first_step : (t : Trail) (y : Line) (first : Option (Past Line)) → IsFirstOf t first → IsFirstOf (later_of (p y) y t) (first_later p y first)
  first_step t y None is = begins (p y) y t is
  first_step t y (Some past) is =
      subst (λ b. MatchBool b (2 ≤ (later_of (p y) y t).count) (later_of (p y) y t ≡ record { count = 1; opened = Some (opened_of past); closed = closing_line closes (with_later y past) })) (sym (any_push p past.since y))
      (goes_on (list_any p past.since) (p y) y past t is)

  first_pushed : (xs : List Line) (y : Line) → IsFirstOf (trail p closes xs) (first_since p xs) → IsFirstOf (trail p closes (xs ++ y ∷ [])) (first_since p (xs ++ y ∷ []))
  first_pushed xs y is =
      subst (λ (t : Trail). IsFirstOf t (first_since p (xs ++ y ∷ []))) (sym (trail_push p closes xs y))
      (subst (IsFirstOf (trail_after p closes y (trail p closes xs))) (sym (first_push p xs y)) (first_step (trail p closes xs) y (first_since p xs) is))

  is_first : (xs : List Line) → IsFirstOf (trail p closes xs) (first_since p xs)
  is_first xs = from (λ z. IsFirstOf (trail p closes z) (first_since p z)) first_pushed [] xs refl

some_second : (asked : Opened) (closed : Option ℕ) → is_some (second_request_reason (Some asked) closed) ≡ is_none closed
some_second asked None = refl
some_second asked (Some answered) = refl

none_of : (found : Option (Past Line)) → is_none (option_map (λ (past : Past Line). past.line.number) found) ≡ not (is_some found)
none_of None = refl
none_of (Some past) = refl

few : (count : ℕ) (is_initialize : Bool) (opened : Option Opened) (closed : Option ℕ) → 2 ≤ count → is_some (why_early is_initialize (record { count = count; opened = opened; closed = closed })) ≡ false
few count is_initialize opened closed h =
    let a : (count == 0) ≡ false = grind (arith, nat_tests) in
    let b : (count == 1) ≡ false = grind (arith, nat_tests) in
    ap (λ x. is_some (cond x (cond is_initialize None (Some NotInitialize)) (cond (count == 1) (second_request_reason opened closed) None))) a
    ∙ ap (λ x. is_some (cond x (second_request_reason opened closed) None)) b

early_past : (any : Bool) (past : Past Line) (is_initialize : Bool) (t : Trail) → MatchBool any (2 ≤ t.count) (t ≡ record { count = 1; opened = Some (opened_of past); closed = closing_line (answers Adapter) past })
    → is_some (why_early is_initialize t) ≡ (not any && not (list_any (answers Adapter past.line.message.seq) past.since))
early_past true past is_initialize t is = few t.count is_initialize t.opened t.closed is
early_past false past is_initialize t is =
    ap (λ (x : Trail). is_some (why_early is_initialize x)) is ∙ some_second (opened_of past) (closing_line (answers Adapter) past) ∙ none_of (first_since (answers Adapter past.line.message.seq) past.since)
    ∙ ap not (any_first (answers Adapter past.line.message.seq) past.since)

none_asked : (is_initialize : Bool) → is_some (cond is_initialize None (Some NotInitialize)) ≡ not is_initialize
none_asked true = refl
none_asked false = refl

early : (line : Line) (t : Trail) (first : Option (Past Line)) → IsFirstOf (asks Client) (answers Adapter) t first → is_some (why_early (is_request_for (codes "initialize") line.message.kind) t) ≡ is_too_early line first
early line t None is =
    let is_initialize = is_request_for (codes "initialize") line.message.kind in
    let a : (t.count == 0) ≡ true = grind (arith, nat_tests) in
    ap (λ b. is_some (cond b (cond is_initialize None (Some NotInitialize)) (cond (t.count == 1) (second_request_reason t.opened t.closed) None))) a ∙ none_asked is_initialize
early line t (Some past) is = early_past (list_any (asks Client) past.since) past (is_request_for (codes "initialize") line.message.kind) t is

some_if : (b c : Bool) (reason : Option Reason) → is_some reason ≡ c → is_some (cond b reason None) ≡ (b && c)
some_if true c reason e = e
some_if false c reason e = refl

-- ---- gates

any_weaker : (p q : Line → Bool) → ((x : Line) → p x ≡ true → q x ≡ true) → (xs : List Line) → list_any p xs ≡ true → list_any q xs ≡ true
any_weaker p q weaker [] e = absurd (cc e)
any_weaker p q weaker (x ∷ xs) e = by_first (p x) (list_any p xs) e (weaker x) (any_weaker p q weaker xs)
  where
    or_later : (b c : Bool) → c ≡ true → (b || c) ≡ true
    or_later true c h = refl
    or_later false c h = h

    by_first : (a b : Bool) → (a || b) ≡ true → (a ≡ true → q x ≡ true) → (b ≡ true → list_any q xs ≡ true) → (q x || list_any q xs) ≡ true
    by_first true b h here later = ap (λ z. z || list_any q xs) (here refl)
    by_first false b h here later = or_later (q x) (list_any q xs) (later h)

some_decided : (b x : Bool) (named : Option Bool) → b ≡ true → is_some (cond b (Some x) named) ≡ true
some_decided true x named e = refl
some_decided false x named e = absurd (cc e)

success_decides : (gate : Gate) (line : Line) → succeeds initialize line ≡ true → decides gate line ≡ true
success_decides gate line e = some_decided (succeeds initialize line) (is_flag gate (body_of line.message.kind)) (option_map (λ d. unwrap_or (as_bool d) false) (named_by gate line)) e

refused_by : (gate : Gate) (successes switches : Option Opened) (any open_now : Bool) → is_some successes ≡ any → (any ≡ true → is_some switches ≡ true)
    → is_some (cond (is_some successes) (cond open_now None (option_map (λ (last : Opened). NotOffered gate last.line) switches)) (Some (NotInitialized gate))) ≡ not (any && open_now)
refused_by gate None switches true open_now e decided = absurd (cc e)
refused_by gate None switches false open_now e decided = refl
refused_by gate (Some o) switches false open_now e decided = absurd (cc e)
refused_by gate (Some o) switches true true e decided = refl
refused_by gate (Some o) None true false e decided = absurd (let h = decided refl in cc h)
refused_by gate (Some o) (Some last) true false e decided = refl

both_true : (a b c : Bool) → (a ≡ true → (b ≡ true) × (c ≡ true)) → (b ≡ true → c ≡ true → a ≡ true) → a ≡ (b && c)
both_true true true true to from = refl
both_true true false c to from = absurd (let e = (to refl).0 in cc e)
both_true true true false to from = absurd (let e = (to refl).1 in cc e)
both_true false true true to from = absurd (let e = from refl refl in cc e)
both_true false true false to from = refl
both_true false false c to from = refl

module _ (places : OpenIsAPlace) (some_places : SomeIsAPlace) (by_places : OfferIsByPlaces) where
  -- a flag is offered where `initialize` has succeeded and the flag was switched on last
  offered_flag : (gate : Gate) (earlier : List Line) → has (offered_capabilities earlier) gate ≡ (list_any (succeeds initialize) earlier && is_open (switches_on gate) (switches_off gate) earlier)
  offered_flag gate earlier =
      both_true (has (offered_capabilities earlier) gate) (list_any (succeeds initialize) earlier) (is_open (switches_on gate) (switches_off gate) earlier)
      (λ e. let at = (by_places earlier gate).0 e in ((some_places (succeeds initialize) earlier).1 at.0, (places (switches_on gate) (switches_off gate) earlier).1 at.1))
      (λ e f. (by_places earlier gate).1 ((some_places (succeeds initialize) earlier).0 e, (places (switches_on gate) (switches_off gate) earlier).0 f))

  some_gate : (earlier : List Line) (gate : Gate) → is_some (gate_reason earlier (Some gate)) ≡ not (has (offered_capabilities earlier) gate)
  some_gate earlier gate =
      let successes = trail (succeeds initialize) no_line earlier in
      let switches = trail (decides gate) no_line earlier in
      let still = open_trail (switches_on gate) (switches_off gate) earlier in
      refused_by gate successes.opened switches.opened (list_any (succeeds initialize) earlier) (is_open_still (trail (switches_on gate) (λ n. switches_off gate) earlier)) (any_trail (succeeds initialize) earlier)
      (λ any. any_trail (decides gate) earlier ∙ any_weaker (succeeds initialize) (decides gate) (success_decides gate) earlier any)
      ∙ ap (λ b. not (list_any (succeeds initialize) earlier && b)) still ∙ ap not (sym (offered_flag gate earlier))

  gate_of_command : (earlier : List Line) (gate : Option Gate) → is_some (gate_reason earlier gate) ≡ not (passes (offered_capabilities earlier) gate)
  gate_of_command earlier None = refl
  gate_of_command earlier (Some gate) = some_gate earlier gate

  gate_of_name : (earlier : List Line) (command : Option Command) → is_some (gate_reason earlier (option_and_then gate_of command)) ≡ not (permits (offered_capabilities earlier) command)
  gate_of_name earlier None = refl
  gate_of_name earlier (Some command) = gate_of_command earlier (gate_of command)

  gate_of_kind : (earlier : List Line) (kind : Kind) → is_some (gate_reason earlier (gate_asked kind)) ≡ is_refused (offered_capabilities earlier) kind
  gate_of_kind earlier (Request command arguments) = gate_of_name earlier (command_named command)
  gate_of_kind earlier (Response request_seq success command message body) = refl
  gate_of_kind earlier (Event event body) = refl
  gate_of_kind earlier (Other tag) = refl

-- ---- references

some_unknown : (kind : ReferenceKind) (n : ℕ) (opened : Option Opened) (closed : Option ℕ) (others : Option Opened) → is_some (unknown_reason kind n opened closed others) ≡ not (is_some opened && is_none closed)
some_unknown kind n (Some given) None others = refl
some_unknown kind n (Some given) (Some resumed) others = refl
some_unknown kind n None resumed others = refl

some_number : (earlier : List Line) (kind : ReferenceKind) (number : Option Num) → is_some (number_reason earlier kind number) ≡ is_unknown (λ n. is_open (gives kind n) resumes earlier) number
some_number earlier kind None = refl
some_number earlier kind (Some (unsigned n)) =
    let given = trail (gives kind n) (λ m. resumes) earlier in
    some_unknown kind n given.opened given.closed (trail (gives (other_kind kind) n) (λ m. resumes) earlier).opened ∙ ap not (open_trail (gives kind n) resumes earlier)
some_number earlier kind (Some (negative z)) = refl
some_number earlier kind (Some (float x)) = refl

-- no command names both kinds
not_both : (a b c : Bool) (name : List ℕ) → a ≡ bytes_eq name (codes "scopes") → b ≡ bytes_eq name (codes "evaluate") → c ≡ bytes_eq name (codes "completions") → (a || (b || (c || false))) ≡ true → is_among naming_holders name ≡ false
not_both true b c name ea eb ec e = ap (is_among naming_holders) ((bytes_eq-Decides name (codes "scopes")).0 (sym ea))
not_both false true c name ea eb ec e = ap (is_among naming_holders) ((bytes_eq-Decides name (codes "evaluate")).0 (sym eb))
not_both false false true name ea eb ec e = ap (is_among naming_holders) ((bytes_eq-Decides name (codes "completions")).0 (sym ec))
not_both false false false name ea eb ec e = absurd (cc e)

one_kind : (name : List ℕ) → is_among naming_frames name ≡ true → is_among naming_holders name ≡ false
one_kind name e = not_both (bytes_eq name (codes "scopes")) (bytes_eq name (codes "evaluate")) (bytes_eq name (codes "completions")) name refl refl refl e

or_none : (b : Bool) → b ≡ (b || false)
or_none true = refl
or_none false = refl

module _ (earlier : List Line) (arguments : Option Data) where
  abbrev wrong_frame : Bool
  wrong_frame = is_unknown (is_frame earlier) (number_at (codes "frameId") arguments)

  abbrev wrong_holder : Bool
  wrong_holder = is_unknown (is_holder earlier) (number_at (codes "variablesReference") arguments)

  some_reference : (frame holder : Bool) → (frame ≡ true → holder ≡ false)
      → is_some (reference_reason earlier (cond frame (Some Frame) (cond holder (Some Variables) None)) arguments) ≡ ((frame && wrong_frame) || (holder && wrong_holder))
  some_reference true true apart = absurd (let e = apart refl in cc e)
  some_reference true false apart = some_number earlier Frame (number_at (codes "frameId") arguments) ∙ or_none wrong_frame
  some_reference false true apart = some_number earlier Variables (number_at (codes "variablesReference") arguments)
  some_reference false false apart = refl

reference_of_kind : (earlier : List Line) (kind : Kind) → is_some (reference_reason earlier (kind_named kind) (arguments_of kind))
    ≡ ((is_request_among naming_frames kind && is_unknown (is_frame earlier) (number_at (codes "frameId") (arguments_of kind))) || (is_request_among naming_holders kind && is_unknown (is_holder earlier) (number_at (codes "variablesReference") (arguments_of kind))))
reference_of_kind earlier (Request command arguments) = some_reference earlier arguments (is_among naming_frames command) (is_among naming_holders command) (one_kind command)
reference_of_kind earlier (Response request_seq success command message body) = refl
reference_of_kind earlier (Event event body) = refl
reference_of_kind earlier (Other tag) = refl

-- ---- the event `initialized`, and the end

some_ended : (successes : Option Opened) → is_some (option_map (λ (last : Opened). Ended last.line) successes) ≡ is_some successes
some_ended None = refl
some_ended (Some last) = refl

-- ---- all seven

pub broken_rules_have_reasons : OpenIsAPlace → SomeIsAPlace → OfferIsByPlaces → BrokenRulesHaveReasons
broken_rules_have_reasons places some_places by_places Seq earlier line =
    let messages = trail (is_of line.side) no_line earlier in
    some_unless (line.message.seq == messages.count + 1) (Numbered (messages.count + 1) (option_map (λ (last : Opened). last.line) messages.opened))
broken_rules_have_reasons places some_places by_places Answer earlier line = some_answer earlier line.side line.message.seq line.message.kind
broken_rules_have_reasons places some_places by_places FirstRequest earlier line =
    let requests = trail (asks Client) (answers Adapter) earlier in
    some_if (asks Client line) (is_too_early line (first_since (asks Client) earlier)) (why_early (is_request_for (codes "initialize") line.message.kind) requests)
    (early line requests (first_since (asks Client) earlier) (is_first (asks Client) (answers Adapter) earlier))
broken_rules_have_reasons places some_places by_places Initialized earlier line =
    let successes = trail (succeeds initialize) no_line earlier in
    let requests = trail asks_to_initialize (answers Adapter) earlier in
    some_if (is_adapter_event (codes "initialized" ∷ []) line) (not (list_any (succeeds initialize) earlier)) (why_uninitialized successes requests)
    (some_unless (is_some successes.opened) (no_initialize_reason requests.opened requests.closed) ∙ ap not (any_trail (succeeds initialize) earlier))
broken_rules_have_reasons places some_places by_places GateRule earlier line = some_if (is_of Client line) (is_refused (offered_capabilities earlier) line.message.kind) (gate_reason earlier (gate_asked line.message.kind)) (gate_of_kind places some_places by_places earlier line.message.kind)
broken_rules_have_reasons places some_places by_places Reference earlier line =
    some_if (is_of Client line) _ (reference_reason earlier (kind_named line.message.kind) (arguments_of line.message.kind)) (reference_of_kind earlier line.message.kind)
broken_rules_have_reasons places some_places by_places Disconnect earlier line =
    let successes = trail (succeeds disconnect) no_line earlier in
    some_if (asks Client line || is_of Adapter line) (list_any (succeeds disconnect) earlier) (why_ended successes) (some_ended successes.opened ∙ any_trail (succeeds disconnect) earlier)
