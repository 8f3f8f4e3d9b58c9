-- The rules, told by places.
use Rattle.std.proofs.Common.{◌≡◌, ℕ, List, [], ◌∷◌, Bool, true, false, Option, Some, None, refl, sym, ap, ◌∙◌, subst, inl, inr}
use Rattle.std.specs.Prelude.{◌↔◌, not, ◌&&◌, ◌||◌, cond, codes}
use Rattle.std.specs.List.{list_any}
use Rattle.dap_envelope.specs.declared.message.Kind.{Kind}
use Rattle.dap_envelope.specs.declared.message.Kind.TheVariants.{Request, Response, Event, Other}
use Rattle.dap_check.specs.Laws.{SomeAt, OpenAt}
use Rattle.dap_check.specs.Lines.{other_side, is_request_for, asks, asks_as, asks_for, answers, succeeds}
use Rattle.dap_check.specs.Places.{IsOutOfPlace, AnswerIsByPlaces, OneIsUnanswered, IsTooEarly, FirstRequestIsByPlaces, OfferIsByPlaces, switches_on, switches_off, ReferencesAreByPlaces}
use Rattle.dap_check.specs.Rules.{is_out_of_place, is_too_early, initialize, gives_frame, gives_holder, resumes}
use Rattle.dap_check.specs.Since.{is_open, first_since, Past}
use Rattle.dap_check.specs.declared.line.Line.{Line}
use Rattle.dap_check.specs.declared.line.Side.{Side}
use Rattle.dap_check.specs.declared.line.Side.TheVariants.{Client, Adapter}
use Rattle.dap_check.proofs.ByPlaces.{some_is_a_place, open_is_a_place, first_is_a_place}
use Rattle.dap_check.proofs.Flags.{offered_flag}

-- ---- tests

not_holds : (b : Bool) → (b ≡ true → ⊥) → not b ≡ true
not_holds true wrong = absurd (wrong refl)
not_holds false wrong = refl

is_false : (b : Bool) → not b ≡ true → b ≡ false
is_false true e = absurd (cc e)
is_false false e = refl

both : (a b : Bool) → (a && b) ≡ true → (a ≡ true) × (b ≡ true)
both true b e = (refl, e)
both false b e = absurd (cc e)

-- ---- answers

not_open : (p q : Line → Bool) (xs : List Line) → (not (is_open p q xs) ≡ true) ↔ (¬ OpenAt p q xs)
not_open p q xs = (
  λ e at. let opened : is_open p q xs ≡ true = (open_is_a_place p q xs).1 at in absurd (cc (e, opened)),
  λ shut. not_holds (is_open p q xs) (λ e. shut ((open_is_a_place p q xs).0 e)),
)

out_of_place : (side : Side) (seq : ℕ) (earlier : List Line) (kind : Kind) → (is_out_of_place side seq earlier kind ≡ true) ↔ IsOutOfPlace side seq earlier kind
out_of_place side seq earlier (Request command arguments) = open_is_a_place (asks_as side seq) (answers (other_side side) seq) earlier
out_of_place Client seq earlier (Response request_seq success command message body) = not_open (asks_for Adapter request_seq command) (answers Client request_seq) earlier
out_of_place Adapter seq earlier (Response request_seq success command message body) = not_open (asks_for Client request_seq command) (answers Adapter request_seq) earlier
out_of_place side seq earlier (Event event body) = (λ e. absurd (cc e), λ h. absurd h)
out_of_place side seq earlier (Other tag) = (λ e. absurd (cc e), λ h. absurd h)

pub answer_is_by_places : AnswerIsByPlaces
answer_is_by_places earlier line = out_of_place line.side line.message.seq earlier line.message.kind

-- ---- the client's first request

none_step : (p : Line → Bool) (x : Line) (xs : List Line) (a : Bool) → a ≡ p x → cond a (Some (record { line = x; since = xs })) (first_since p xs) ≡ None → (first_since p xs ≡ None → list_any p xs ≡ false) → (p x || list_any p xs) ≡ false
none_step p x xs true ea e later = absurd (cc e)
none_step p x xs false ea e later = ap (λ b. b || list_any p xs) (sym ea) ∙ later e

none_first : (p : Line → Bool) (xs : List Line) → first_since p xs ≡ None → list_any p xs ≡ false
none_first p [] e = refl
none_first p (x ∷ xs) e = none_step p x xs (p x) refl e (none_first p xs)

module _ (earlier : List Line) (line : Line) where
  some_asked : (past : Past Line) → first_since (asks Client) earlier ≡ Some past → list_any (asks Client) earlier ≡ true
  some_asked past e =
      let at = (first_is_a_place (asks Client) earlier past).0 e in
      (some_is_a_place (asks Client) earlier).1 (record { before = at.before; line = past.line; since = past.since; split = at.split; passes = at.passes })

  first_of_one : (one : OneIsUnanswered earlier) → first_since (asks Client) earlier ≡ Some (record { line = one.line; since = one.since })
  first_of_one one = (first_is_a_place (asks Client) earlier (record { line = one.line; since = one.since })).1 (record { before = one.before; split = one.split; passes = one.asked; none_before = one.none_before })

  early : (first : Option (Past Line)) → first_since (asks Client) earlier ≡ first → is_too_early line first ≡ true → IsTooEarly earlier line
  early None e is = inl (none_first (asks Client) earlier e, is_false (is_request_for (codes "initialize") line.message.kind) is)
  early (Some past) e is =
      let at = (first_is_a_place (asks Client) earlier past).0 e in
      let parts = both (not (list_any (asks Client) past.since)) (not (list_any (answers Adapter past.line.message.seq) past.since)) is in
      inr (record {
        before = at.before;
        line = past.line;
        since = past.since;
        split = at.split;
        asked = at.passes;
        none_before = at.none_before;
        none_since = is_false (list_any (asks Client) past.since) parts.0;
        unanswered = is_false (list_any (answers Adapter past.line.message.seq) past.since) parts.1;
      })

  is_early : (first : Option (Past Line)) → first_since (asks Client) earlier ≡ first → IsTooEarly earlier line → is_too_early line first ≡ true
  is_early None e (inl h) = ap not h.1
  is_early None e (inr one) = let some = first_of_one one in absurd (cc (e, some))
  is_early (Some past) e (inl h) = let some = some_asked past e in let none = h.0 in absurd (cc (some, none))
  is_early (Some past) e (inr one) =
      let some = first_of_one one in
      let same : past ≡ record { line = one.line; since = one.since } = cc (e, some) in
      subst (λ (p : Past Line). is_too_early line (Some p) ≡ true) (sym same) (ap (λ b. not b && not (list_any (answers Adapter one.line.message.seq) one.since)) one.none_since ∙ ap not one.unanswered)

  early_asks : (asks_it : Bool) → asks_it ≡ asks Client line → ((asks_it && is_too_early line (first_since (asks Client) earlier)) ≡ true) ↔ ((asks_it ≡ true) × IsTooEarly earlier line)
  early_asks true ea = (λ e. (refl, early (first_since (asks Client) earlier) refl e), λ h. is_early (first_since (asks Client) earlier) refl h.1)
  early_asks false ea = (λ e. absurd (cc e), λ h. absurd (let e = h.0 in cc e))

pub first_request_is_by_places : FirstRequestIsByPlaces
first_request_is_by_places earlier line = early_asks earlier line (asks Client line) refl

-- ---- gates

two_places : (a b : Bool) (A B : Type 0) → (a ≡ true) ↔ A → (b ≡ true) ↔ B → ((a && b) ≡ true) ↔ (A × B)
two_places a b A B at_a at_b = (λ e. let h = both a b e in (at_a.0 h.0, at_b.0 h.1), λ h. ap (λ x. x && b) (at_a.1 h.0) ∙ at_b.1 h.1)

pub offer_is_by_places : OfferIsByPlaces
offer_is_by_places earlier gate =
    subst (λ b. (b ≡ true) ↔ (SomeAt (succeeds initialize) earlier × OpenAt (switches_on gate) (switches_off gate) earlier)) (sym (offered_flag gate earlier))
    (two_places (list_any (succeeds initialize) earlier) (is_open (switches_on gate) (switches_off gate) earlier) (SomeAt (succeeds initialize) earlier) (OpenAt (switches_on gate) (switches_off gate) earlier)
    (some_is_a_place (succeeds initialize) earlier) (open_is_a_place (switches_on gate) (switches_off gate) earlier))

-- ---- references

pub references_are_by_places : ReferencesAreByPlaces
references_are_by_places = record {
  frames = λ earlier n. open_is_a_place (gives_frame n) resumes earlier;
  holders = λ earlier n. open_is_a_place (gives_holder n) resumes earlier;
}
