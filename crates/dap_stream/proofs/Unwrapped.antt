-- The lines of the bodies of a stream, and their frames.
use Rattle.std.proofs.Common.{◌≡◌, ℕ, ◌-◌, ◌<◌, ◌≤◌, ◌==◌, ◌&&◌, Bool, true, false, List, [], ◌∷◌, ◌++◌, length, map, take, get_or, None, refl, sym, ap, ap₂, ◌∙◌, subst, arith, append_assoc, append-nil, if◌then◌else◌}
use Rattle.std.specs.Prelude.{cond, not, flat_map, All}
use Rattle.std.specs.List.{list_all, slice_split}
use Rattle.std.specs.Str.{is_utf8, chars}
use Rattle.std.specs.Str.Lines.{lines, lines_of_parts, strip_carriage_return}
use Rattle.std.proofs.lemmas.Bool.Decides.{nat_tests}
use Rattle.std.proofs.lemmas.List.Concat.{flat_map-append}
use Rattle.std.proofs.lemmas.List.Elements.{All-nil, All-cons, All-append, All-head, All-tail}
use Rattle.std.proofs.lemmas.List.Splits.{length-slice_split, slice_split_at}
use Rattle.std.proofs.lemmas.List.Sums.{AllPass-from_list_all}
use Rattle.serde_json.proofs.OnLiterals.{serde_json_on_literals}
use Rattle.dap_frame.specs.declared.limits.Bounds.{Bounds}
use Rattle.dap_frame.specs.Settings.{Settings, bounds_of}
use Rattle.dap_frame.specs.Written.{frame_of}
use Rattle.dap_json.specs.Read.{json_of}
use Rattle.dap_envelope.specs.Meaning.{Msg}
use Rattle.dap_envelope.specs.declared.message.Message.{Message}
use Rattle.dap_stream.specs.Lines.{is_break, unbroken, line_of_body}
use Rattle.dap_stream.specs.Listing.{IsLineOf, of_message, of_refused, Lists, none, one_more, Listed, stops_in}
use Rattle.dap_stream.specs.Unwrapping.{lines_of_bodies}
use Rattle.dap_stream.specs.Wrapping.{bodies, frames_of_bodies, IsBody, AreBodies}
use Rattle.dap_stream.specs.declared.lines.Form.TheVariants.{Body}
use Rattle.dap_stream.specs.declared.lines.Style.{Style}
use Rattle.dap_stream.proofs.UnbrokenTexts.{kept}
use Rattle.dap_stream.proofs.UnbrokenBodies.{value_stays}

-- ---- the lines of a text

abbrev is_kept : ℕ → Bool
is_kept b = not (is_break b)

kept_step : (b : Bool) (x : ℕ) (xs : List ℕ) → is_kept x ≡ b → list_all is_kept xs ≡ true → list_all is_kept (cond b (x ∷ xs) xs) ≡ true
kept_step true x xs e h = ap₂ (λ a c. a && c) e h
kept_step false x xs e h = h

all_kept : (xs : List ℕ) → list_all is_kept (unbroken xs) ≡ true
all_kept [] = refl
all_kept (x ∷ xs) = kept_step (is_kept x) x (unbroken xs) refl (all_kept xs)

no_feed : (x : ℕ) → is_kept x ≡ true → (x == 10) ≡ false
no_feed x h = grind (arith, nat_tests, h)

no_return : (x : ℕ) → is_kept x ≡ true → (x == 13) ≡ false
no_return x h = grind (arith, nat_tests, h)

no_feeds : (l : List ℕ) → list_all is_kept l ≡ true → All (λ x. (x == 10) ≡ false) l
no_feeds l h = λ k d below. no_feed _ (AllPass-from_list_all is_kept l h k d below)

whole_line : (l : List ℕ) → list_all is_kept l ≡ true → strip_carriage_return l ≡ l
whole_line [] h = refl
whole_line (x ∷ xs) h =
    let last : is_kept (get_or (x ∷ xs) (length (x ∷ xs) - 1) 0) ≡ true = AllPass-from_list_all is_kept (x ∷ xs) h (length (x ∷ xs) - 1) 0 (omega arith) in
    ap (λ (b : Bool). if b then take (length (x ∷ xs) - 1) (x ∷ xs) else (x ∷ xs)) (no_return (get_or (x ∷ xs) (length (x ∷ xs) - 1) 0) last)

parts_cut : (l : List ℕ) (parts : List (List ℕ)) → 0 < length parts → lines_of_parts (l ∷ parts) ≡ strip_carriage_return l ∷ lines_of_parts parts
parts_cut l [] h = absurd (omega arith)
parts_cut l (y ∷ more) h = refl

line_cut : (l rest : List ℕ) → list_all is_kept l ≡ true → lines (l ++ 10 ∷ rest) ≡ l ∷ lines rest
line_cut l rest h =
    let cut = slice_split_at (λ b. b == 10) l 10 rest (no_feeds l h) refl in
    let many : 0 < length (slice_split (λ b. b == 10) rest) = omega (arith, length-slice_split (λ b. b == 10) rest) in
    ap lines_of_parts cut ∙ (parts_cut l (slice_split (λ b. b == 10) rest) many ∙ ap (λ (z : List ℕ). z ∷ lines rest) (whole_line l h))

pub lines_are : (xs : List (List ℕ)) → lines (lines_of_bodies xs) ≡ map unbroken xs
lines_are [] = refl
lines_are (x ∷ xs) =
    let rest = lines_of_bodies xs in
    ap lines (append_assoc (unbroken x) (10 ∷ []) rest) ∙ line_cut (unbroken x) rest (all_kept x) ∙ ap (λ (z : List (List ℕ)). unbroken x ∷ z) (lines_are xs)

-- ---- what is listed

abbrev plain : Style
plain = stops_in Body

a_line : (offset : ℕ) (x line : List ℕ) (refused : Bool) → IsLineOf plain offset x line refused → (m : Message) × Msg x m × (line ≡ line_of_body x)
a_line offset x line _ (of_message m is line_is) = (m, is, line_is)
a_line offset x line _ (of_refused cause goes bad line_is) = absurd (cc goes)

listed_text : (bounds : Bounds) (s : List ℕ) (xs : List (List ℕ)) (text : List ℕ) (refused : Bool) → Lists plain bounds s xs text refused → text ≡ lines_of_bodies xs
listed_text bounds s _ _ _ none = refl
listed_text bounds s _ _ _ (one_more xs text x line front frame after before refused l cut frames is_frame is_line) =
    ap₂ (λ (a b : List ℕ). a ++ b) (listed_text bounds s xs text before l) ((a_line (length front) x line refused is_line).2 ∙ sym (append-nil (line_of_body x))) ∙ sym (flat_map-append line_of_body xs (x ∷ []))

listed_bodies : (limits : Settings) (s : List ℕ) (xs : List (List ℕ)) (text : List ℕ) (refused : Bool) → Lists plain (bounds_of limits) s xs text refused → All (IsBody limits) xs
listed_bodies limits s _ _ _ none = All-nil (IsBody limits)
listed_bodies limits s _ _ _ (one_more xs text x line front frame after before refused l cut frames is_frame is_line) =
    let body = a_line (length front) x line refused is_line in
    All-append (IsBody limits) xs (x ∷ []) (listed_bodies limits s xs text before l)
    (All-cons (IsBody limits) x [] (record { message = body.0; message_is = body.1; within = is_frame.body_fits }) (All-nil (IsBody limits)))

pub is_listed : (limits : Settings) (bytes : List ℕ) (xs : List (List ℕ)) (old new : List ℕ) → Listed plain limits bytes xs old new false → (new ≡ old ++ lines_of_bodies xs) × All (IsBody limits) xs
is_listed limits bytes xs old new l = (l.appended ∙ ap (λ z. old ++ z) (listed_text _ bytes xs l.text false l.lists), listed_bodies limits bytes xs l.text false l.lists)

-- ---- the frames

none_of_nothing : json_of [] ≡ None
unfolding json_of is_utf8 chars serde_json_on_literals
none_of_nothing = refl

has_bytes : (x : List ℕ) (m : Message) → Msg x m → 0 < length x
has_bytes [] m is = absurd (cc (none_of_nothing, is.is_json))
has_bytes (y ∷ ys) m is = omega arith

some_bytes : (x : List ℕ) (ys zs : List (List ℕ)) → 0 < length x → cond (not (length x == 0)) ys zs ≡ ys
some_bytes x ys zs h = let some : (length x == 0) ≡ false = grind (arith, nat_tests) in ap (λ (b : Bool). cond (not b) ys zs) some

all_are_bodies : (limits : Settings) (xs : List (List ℕ)) → All (IsBody limits) xs → bodies xs ≡ xs
all_are_bodies limits [] all = refl
all_are_bodies limits (x ∷ xs) all =
    let first = All-head (IsBody limits) x xs all in
    some_bytes x (x ∷ bodies xs) (bodies xs) (has_bytes x first.message first.message_is) ∙ ap (λ (z : List (List ℕ)). x ∷ z) (all_are_bodies limits xs (All-tail (IsBody limits) x xs all))

-- ---- what a body on one line is

pub message_stays : (body : List ℕ) (m : Message) → Msg body m → Msg (unbroken body) m
message_stays body m is = record { value = is.value; is_json = value_stays body is.value is.is_json; says = is.says }

pub stays : (body : List ℕ) → All (λ b. is_break b ≡ false) body → unbroken body ≡ body
stays [] all = refl
stays (x ∷ xs) all = kept x xs (All-head (λ b. is_break b ≡ false) x xs all) ∙ ap (λ (z : List ℕ). x ∷ z) (stays xs (All-tail (λ b. is_break b ≡ false) x xs all))

shorter : (b : Bool) (x : ℕ) (ys xs : List ℕ) → length ys ≤ length xs → length (cond b (x ∷ ys) ys) ≤ length (x ∷ xs)
shorter true x ys xs h = omega arith
shorter false x ys xs h = omega arith

no_longer : (xs : List ℕ) → length (unbroken xs) ≤ length xs
no_longer [] = omega arith
no_longer (x ∷ xs) = shorter (not (is_break x)) x (unbroken xs) xs (no_longer xs)

body_stays : (limits : Settings) (x : List ℕ) → IsBody limits x → IsBody limits (unbroken x)
body_stays limits x b = record {
  message = b.message;
  message_is = message_stays x b.message b.message_is;
  within = omega (arith, b.within, no_longer x);
}

all_stay : (limits : Settings) (xs : List (List ℕ)) → All (IsBody limits) xs → All (IsBody limits) (map unbroken xs)
all_stay limits [] all = All-nil (IsBody limits)
all_stay limits (x ∷ xs) all =
    All-cons (IsBody limits) (unbroken x) (map unbroken xs) (body_stays limits x (All-head (IsBody limits) x xs all)) (all_stay limits xs (All-tail (IsBody limits) x xs all))

bodies_again : (limits : Settings) (xs : List (List ℕ)) → All (IsBody limits) xs → bodies (lines (lines_of_bodies xs)) ≡ map unbroken xs
bodies_again limits xs all = ap bodies (lines_are xs) ∙ all_are_bodies limits (map unbroken xs) (all_stay limits xs all)

pub accepted : (limits : Settings) (xs : List (List ℕ)) → All (IsBody limits) xs → AreBodies limits (lines (lines_of_bodies xs))
accepted limits xs all = subst (All (IsBody limits)) (sym (bodies_again limits xs all)) (all_stay limits xs all)

pub framed : (limits : Settings) (xs : List (List ℕ)) → All (IsBody limits) xs → frames_of_bodies (lines (lines_of_bodies xs)) ≡ flat_map frame_of (map unbroken xs)
framed limits xs all = ap (flat_map frame_of) (bodies_again limits xs all)
