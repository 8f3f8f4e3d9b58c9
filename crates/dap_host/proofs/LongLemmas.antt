-- A line of which a front was dropped, since it is too long.
use Rattle.std.proofs.Common.{◌≡◌, ℕ, ◌+◌, ◌-◌, ◌<◌, ◌==◌, Bool, true, false, true≢false, List, [], ◌∷◌, ◌++◌, length, take, append_assoc, refl, sym, ap, ◌∙◌, subst, arith}
use Rattle.std.specs.Prelude.{cond, slice_index}
use Rattle.std.specs.List.{slice_split}
use Rattle.std.specs.Str.Lines.{lines, lines_of_parts, strip_carriage_return}
use Rattle.std.proofs.lemmas.Bool.{eqb-true}
use Rattle.std.proofs.lemmas.List.{length-take, length-append}
use Rattle.std.proofs.lemmas.List.Splits.{slice_split_at, length-slice_split}
use Rattle.dap_host.specs.Fetching.{has_line}
use Rattle.dap_host.specs.PrivateFetching.{IsDropped}
use Rattle.dap_host.specs.Hosting.{BeginsWith}
use Rattle.dap_host.specs.PrivateHosting.{IsWhole}
use Rattle.dap_host.proofs.FetchLemmas.{has_line_or, or_other}
use Rattle.dap_host.proofs.LogLemmas.{feed, no_feeds}

-- what stands before the first line feed, and behind it
record FirstFeed (text : List ℕ) : Type 0 where
  before : List ℕ
  later : List ℕ
  is : text ≡ before ++ 10 ∷ later
  none : has_line before ≡ false

first_feed_if : (b : Bool) (x : ℕ) (text : List ℕ) → (x == 10) ≡ b → (b ≡ false → FirstFeed text) → FirstFeed (x ∷ text)
first_feed_if true x text e later = record { before = []; later = text; is = ap (λ (n : ℕ). n ∷ text) (eqb-true x 10 e); none = refl }
first_feed_if false x text e later =
    let f = later refl in
    record { before = x ∷ f.before; later = f.later; is = ap (λ (z : List ℕ). x ∷ z) f.is; none = or_other (x == 10) (has_line f.before) e ∙ f.none }

first_feed : (text : List ℕ) → has_line text ≡ true → FirstFeed text
first_feed [] line = absurd (true≢false (sym line))
first_feed (x ∷ text) line = first_feed_if (x == 10) x text refl (λ e. first_feed text (sym (or_other (x == 10) (has_line text) e) ∙ line))

more_parts : (part : List ℕ) (parts : List (List ℕ)) → 0 < length parts → lines_of_parts (part ∷ parts) ≡ strip_carriage_return part ∷ lines_of_parts parts
more_parts part [] some = absurd (omega arith)
more_parts part (next ∷ parts) some = refl

-- a line that ends with a line feed
line_at : (before later : List ℕ) → has_line before ≡ false → lines (before ++ 10 ∷ later) ≡ strip_carriage_return before ∷ lines later
line_at before later none = ap lines_of_parts (slice_split_at feed before 10 later (no_feeds before none) refl) ∙ more_parts before (slice_split feed later) (omega (arith, length-slice_split feed later))

-- without a carriage return it has one byte less at most
strip_if : (b : Bool) (n : ℕ) (line : List ℕ) → n + 1 < length line → n < length (cond b (take (length line - 1) line) line)
strip_if true n line long = omega (arith, length-take (length line - 1) line)
strip_if false n line long = omega arith

strip_long : (n : ℕ) (line : List ℕ) → n + 1 < length line → n < length (strip_carriage_return line)
strip_long n line long = strip_if (slice_index line (length line - 1) == 13) n line long

other_tail : {A : Type 0} (x y : A) (xs ys : List A) → x ∷ xs ≡ y ∷ ys → xs ≡ ys
other_tail x y xs ys e = cc e

-- the first line of what is held is the end of the first line behind what was dropped
begins_behind : (dropped held line rest : List ℕ) (f : FirstFeed held) → has_line dropped ≡ false → BeginsWith held line rest → BeginsWith (dropped ++ held) (strip_carriage_return (dropped ++ f.before)) rest
begins_behind dropped held line rest f none begins more =
    let cut : held ++ more ≡ f.before ++ 10 ∷ (f.later ++ more) = ap (λ (z : List ℕ). z ++ more) f.is ∙ append_assoc f.before (10 ∷ f.later) more in
    let tail : lines (f.later ++ more) ≡ lines (rest ++ more) = other_tail (strip_carriage_return f.before) line (lines (f.later ++ more)) (lines (rest ++ more)) (sym (ap lines cut ∙ line_at f.before (f.later ++ more) f.none) ∙ begins more) in
    let front : has_line (dropped ++ f.before) ≡ false = has_line_or dropped f.before ∙ or_other (has_line dropped) (has_line f.before) none ∙ f.none in
    let whole : (dropped ++ held) ++ more ≡ (dropped ++ f.before) ++ 10 ∷ (f.later ++ more) = append_assoc dropped held more ∙ ap (λ (z : List ℕ). dropped ++ z) cut ∙ sym (append_assoc dropped f.before (10 ∷ (f.later ++ more))) in
    ap lines whole ∙ line_at (dropped ++ f.before) (f.later ++ more) front ∙ ap (λ (z : List (List ℕ)). strip_carriage_return (dropped ++ f.before) ∷ z) tail

pub first_whole : (longest : ℕ) (is_long : Bool) (dropped held line rest : List ℕ) → IsDropped longest is_long dropped → has_line held ≡ true → BeginsWith held line rest
    → (whole : List ℕ) × BeginsWith (dropped ++ held) whole rest × IsWhole longest is_long line whole
first_whole longest false dropped held line rest is some begins = (line, subst (λ (z : List ℕ). BeginsWith (z ++ held) line rest) (sym is) begins, refl)
first_whole longest true dropped held line rest is some begins =
    let f = first_feed held some in
    (strip_carriage_return (dropped ++ f.before), begins_behind dropped held line rest f is.0 begins, strip_long longest (dropped ++ f.before) (omega (arith, is.1, length-append dropped f.before)))

-- of a last line
pub last_whole : (longest : ℕ) (is_long : Bool) (dropped held : List ℕ) → IsDropped longest is_long dropped → IsWhole longest is_long held (dropped ++ held)
last_whole longest false dropped held is = ap (λ (z : List ℕ). z ++ held) is
last_whole longest true dropped held is = omega (arith, is.1, length-append dropped held)

pub some_whole : (longest : ℕ) (is_long : Bool) (dropped held : List ℕ) → IsDropped longest is_long dropped → (is_long ≡ false → 0 < length held) → 0 < length (dropped ++ held)
some_whole longest false dropped held is some = omega (arith, length-append dropped held, some refl)
some_whole longest true dropped held is some = omega (arith, is.1, length-append dropped held)
