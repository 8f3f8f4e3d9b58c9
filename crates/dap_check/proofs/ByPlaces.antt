-- The words for earlier lines, told by places.
use Rattle.std.proofs.Common.{◌≡◌, List, [], ◌∷◌, ◌++◌, Bool, true, false, Option, Some, None, refl, sym, ap, ◌∙◌, subst}
use Rattle.std.specs.Prelude.{not, ◌&&◌, ◌||◌, cond}
use Rattle.std.specs.List.{list_any}
use Rattle.std.specs.Option.{option_or}
use Rattle.dap_check.specs.Laws.{SomeAt, SomeIsAPlace, OpenAt, OpenIsAPlace, FirstAt, FirstIsAPlace, LastAt, LastIsAPlace}
use Rattle.dap_check.specs.Since.{is_open, first_since, last_since, Past}
use Rattle.dap_check.specs.declared.line.Line.{Line}

-- ---- some line

some_later : (a b : Bool) → b ≡ true → (a || b) ≡ true
some_later true b e = refl
some_later false b e = e

some_from : (p : Line → Bool) (before : List Line) (line : Line) (since : List Line) → p line ≡ true → list_any p (before ++ line ∷ since) ≡ true
some_from p [] line since holds = ap (λ b. b || list_any p since) holds
some_from p (x ∷ before) line since holds = some_later (p x) (list_any p (before ++ line ∷ since)) (some_from p before line since holds)

later_some : (p : Line → Bool) (x : Line) (xs : List Line) → SomeAt p xs → SomeAt p (x ∷ xs)
later_some p x xs at = record { before = x ∷ at.before; line = at.line; since = at.since; split = ap (λ z. x ∷ z) at.split; passes = at.passes }

some_step : (p : Line → Bool) (x : Line) (xs : List Line) (a : Bool) → a ≡ p x → (a || list_any p xs) ≡ true → (list_any p xs ≡ true → SomeAt p xs) → SomeAt p (x ∷ xs)
some_step p x xs true ea e later = record { before = []; line = x; since = xs; split = refl; passes = sym ea }
some_step p x xs false ea e later = later_some p x xs (later e)

some_at : (p : Line → Bool) (xs : List Line) → list_any p xs ≡ true → SomeAt p xs
some_at p [] e = absurd (cc e)
some_at p (x ∷ xs) e = some_step p x xs (p x) refl e (some_at p xs)

pub some_is_a_place : SomeIsAPlace
some_is_a_place p earlier = (some_at p earlier, λ at. subst (λ z. list_any p z ≡ true) (sym at.split) (some_from p at.before at.line at.since at.passes))

-- ---- what is open

open_here : (a b c : Bool) → a ≡ true → b ≡ false → ((a && not b) || c) ≡ true
open_here true false c p q = refl
open_here true true c p q = absurd (cc q)
open_here false b c p q = absurd (cc p)

open_later : (a b c : Bool) → c ≡ true → ((a && not b) || c) ≡ true
open_later true true c e = e
open_later true false c e = refl
open_later false b c e = e

open_from : (p q : Line → Bool) (before : List Line) (line : Line) (since : List Line) → p line ≡ true → list_any q since ≡ false → is_open p q (before ++ line ∷ since) ≡ true
open_from p q [] line since holds none = open_here (p line) (list_any q since) (is_open p q since) holds none
open_from p q (x ∷ before) line since holds none = open_later (p x) (list_any q (before ++ line ∷ since)) (is_open p q (before ++ line ∷ since)) (open_from p q before line since holds none)

later_open : (p q : Line → Bool) (x : Line) (xs : List Line) → OpenAt p q xs → OpenAt p q (x ∷ xs)
later_open p q x xs at = record { before = x ∷ at.before; line = at.line; since = at.since; split = ap (λ z. x ∷ z) at.split; opened = at.opened; not_closed = at.not_closed }

open_step : (p q : Line → Bool) (x : Line) (xs : List Line) (a b : Bool) → a ≡ p x → b ≡ list_any q xs → ((a && not b) || is_open p q xs) ≡ true → (is_open p q xs ≡ true → OpenAt p q xs) → OpenAt p q (x ∷ xs)
open_step p q x xs true false ea eb e later = record { before = []; line = x; since = xs; split = refl; opened = sym ea; not_closed = sym eb }
open_step p q x xs true true ea eb e later = later_open p q x xs (later e)
open_step p q x xs false b ea eb e later = later_open p q x xs (later e)

open_at : (p q : Line → Bool) (xs : List Line) → is_open p q xs ≡ true → OpenAt p q xs
open_at p q [] e = absurd (cc e)
open_at p q (x ∷ xs) e = open_step p q x xs (p x) (list_any q xs) refl refl e (open_at p q xs)

pub open_is_a_place : OpenIsAPlace
open_is_a_place p q earlier = (open_at p q earlier, λ at. subst (λ z. is_open p q z ≡ true) (sym at.split) (open_from p q at.before at.line at.since at.opened at.not_closed))

-- ---- the first

none_of_cons : (a b : Bool) → (a || b) ≡ false → (a ≡ false) × (b ≡ false)
none_of_cons true b e = absurd (cc e)
none_of_cons false b e = (refl, e)

first_from : (p : Line → Bool) (before : List Line) (past : Past Line) → p past.line ≡ true → list_any p before ≡ false → first_since p (before ++ past.line ∷ past.since) ≡ Some past
first_from p [] past holds none = ap (λ b. cond b (Some past) (first_since p past.since)) holds
first_from p (x ∷ before) past holds none =
    let h = none_of_cons (p x) (list_any p before) none in
    ap (λ b. cond b (Some (record { line = x; since = before ++ past.line ∷ past.since })) (first_since p (before ++ past.line ∷ past.since))) h.0 ∙ first_from p before past holds h.1

later_first : (p : Line → Bool) (x : Line) (xs : List Line) (past : Past Line) → p x ≡ false → FirstAt p xs past → FirstAt p (x ∷ xs) past
later_first p x xs past no_x at = record { before = x ∷ at.before; split = ap (λ z. x ∷ z) at.split; passes = at.passes; none_before = ap (λ b. b || list_any p at.before) no_x ∙ at.none_before }

first_step : (p : Line → Bool) (x : Line) (xs : List Line) (past : Past Line) (a : Bool) → a ≡ p x → cond a (Some (record { line = x; since = xs })) (first_since p xs) ≡ Some past → (first_since p xs ≡ Some past → FirstAt p xs past) → FirstAt p (x ∷ xs) past
first_step p x xs past true ea e later =
    let here : Past Line = record { line = x; since = xs } in
    let same : here ≡ past = cc in
    record { before = []; split = ap (λ z. z.line ∷ z.since) same; passes = sym (ap (λ z. p z.line) same) ∙ sym ea; none_before = refl }
first_step p x xs past false ea e later = later_first p x xs past (sym ea) (later e)

first_at : (p : Line → Bool) (xs : List Line) (past : Past Line) → first_since p xs ≡ Some past → FirstAt p xs past
first_at p [] past e = absurd (cc e)
first_at p (x ∷ xs) past e = first_step p x xs past (p x) refl e (first_at p xs past)

pub first_is_a_place : FirstIsAPlace
first_is_a_place p earlier past = (first_at p earlier past, λ at. subst (λ z. first_since p z ≡ Some past) (sym at.split) (first_from p at.before past at.passes at.none_before))

-- ---- the last

no_last : (p : Line → Bool) (xs : List Line) → list_any p xs ≡ false → last_since p xs ≡ None
no_last p [] none = refl
no_last p (x ∷ xs) none =
    let h = none_of_cons (p x) (list_any p xs) none in
    ap (λ o. option_or o (cond (p x) (Some (record { line = x; since = xs })) None)) (no_last p xs h.1) ∙ ap (λ b. cond b (Some (record { line = x; since = xs })) None) h.0

last_from : (p : Line → Bool) (before : List Line) (past : Past Line) → p past.line ≡ true → list_any p past.since ≡ false → last_since p (before ++ past.line ∷ past.since) ≡ Some past
last_from p [] past holds none = ap (λ o. option_or o (cond (p past.line) (Some past) None)) (no_last p past.since none) ∙ ap (λ b. cond b (Some past) None) holds
last_from p (x ∷ before) past holds none = ap (λ o. option_or o (cond (p x) (Some (record { line = x; since = before ++ past.line ∷ past.since })) None)) (last_from p before past holds none)

none_step : (p : Line → Bool) (x : Line) (xs : List Line) (o : Option (Past Line)) (a : Bool) → o ≡ last_since p xs → a ≡ p x → option_or o (cond a (Some (record { line = x; since = xs })) None) ≡ None
    → (last_since p xs ≡ None → list_any p xs ≡ false) → (p x || list_any p xs) ≡ false
none_step p x xs (Some q) a eo ea e later = absurd (cc e)
none_step p x xs None true eo ea e later = absurd (cc e)
none_step p x xs None false eo ea e later = ap (λ b. b || list_any p xs) (sym ea) ∙ later (sym eo)

none_left : (p : Line → Bool) (xs : List Line) → last_since p xs ≡ None → list_any p xs ≡ false
none_left p [] e = refl
none_left p (x ∷ xs) e = none_step p x xs (last_since p xs) (p x) refl refl e (none_left p xs)

later_last : (p : Line → Bool) (x : Line) (xs : List Line) (past : Past Line) → LastAt p xs past → LastAt p (x ∷ xs) past
later_last p x xs past at = record { before = x ∷ at.before; split = ap (λ z. x ∷ z) at.split; passes = at.passes; none_since = at.none_since }

last_step : (p : Line → Bool) (x : Line) (xs : List Line) (past : Past Line) (o : Option (Past Line)) (a : Bool) → o ≡ last_since p xs → a ≡ p x → option_or o (cond a (Some (record { line = x; since = xs })) None) ≡ Some past
    → (last_since p xs ≡ Some past → LastAt p xs past) → LastAt p (x ∷ xs) past
last_step p x xs past (Some q) a eo ea e later = later_last p x xs past (later (sym eo ∙ e))
last_step p x xs past None true eo ea e later =
    let here : Past Line = record { line = x; since = xs } in
    let same : here ≡ past = cc in
    record { before = []; split = ap (λ z. z.line ∷ z.since) same; passes = sym (ap (λ z. p z.line) same) ∙ sym ea; none_since = sym (ap (λ z. list_any p z.since) same) ∙ none_left p xs (sym eo) }
last_step p x xs past None false eo ea e later = absurd (cc e)

last_at : (p : Line → Bool) (xs : List Line) (past : Past Line) → last_since p xs ≡ Some past → LastAt p xs past
last_at p [] past e = absurd (cc e)
last_at p (x ∷ xs) past e = last_step p x xs past (last_since p xs) (p x) refl refl e (last_at p xs past)

pub last_is_a_place : LastIsAPlace
last_is_a_place p earlier past = (last_at p earlier past, λ at. subst (λ z. last_since p z ≡ Some past) (sym at.split) (last_from p at.before past at.passes at.none_since))
