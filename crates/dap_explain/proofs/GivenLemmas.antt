-- The references that were given, one line later.
use Rattle.std.proofs.Common.{◌≡◌, ℕ, ◌+◌, ◌≤◌, List, [], ◌∷◌, ◌++◌, length, drop, Bool, true, false, Option, Some, None, refl, sym, ap, ◌∙◌, subst, arith}
use Rattle.std.specs.Prelude.{cond}
use Rattle.std.proofs.lemmas.List.{length-append, drop-append-le}
use Rattle.std.specs.BTreeMap as tree
use Rattle.std.specs.Ordering.{nat_cmp}
use Rattle.dap_check.specs.Rules.{resumes, gives_frame, gives_holder}
use Rattle.dap_check.specs.declared.line.Line.{Line}
use Rattle.dap_explain.specs.KeptNotes.{given_at, first_of, last_given, IsWithin, AreGiven}
use Rattle.dap_explain.specs.KeptTrails.{closed_after, last_of}
use Rattle.dap_explain.specs.Reasons.{trail, gives}
use Rattle.dap_explain.specs.declared.given.Given.{Given}
use Rattle.dap_explain.specs.declared.given.LastGiven.{LastGiven}
use Rattle.dap_explain.specs.declared.reason.ReferenceKind.{ReferenceKind}
use Rattle.dap_explain.specs.declared.reason.ReferenceKind.TheVariants.{Frame, Variables}
use Rattle.dap_explain.specs.declared.trail.Last.{Last}
use Rattle.dap_explain.specs.declared.trail.Opened.{Opened}
use Rattle.dap_explain.specs.declared.trail.Trail.{Trail}
use Rattle.dap_explain.proofs.TrailLemmas.{trail_push}

-- the lines that let the debuggee go on, one line later
abbrev pub resumptions_after : Line → List ℕ → List ℕ
resumptions_after line resumptions = resumptions ++ cond (resumes line) (line.number ∷ []) []

abbrev pub given_now : Line → List ℕ → LastGiven
given_now line resumptions = record { opened = record { line = line.number; seq = line.message.seq }; resumptions = length resumptions }

-- the first line since, where one more lets it go on or not
first_more : (goes_on : Bool) (line : Line) (opened : Opened) (since : List ℕ) → first_of (since ++ cond goes_on (line.number ∷ []) []) ≡ closed_after (λ m x. goes_on) line (Some opened) (first_of since)
first_more true line opened [] = refl
first_more false line opened [] = refl
first_more goes_on line opened (x ∷ since) = refl

first_later : (goes_on : Bool) (line : Line) (opened : Opened) (n : ℕ) (resumptions : List ℕ) → n ≤ length resumptions
    → first_of (drop n (resumptions ++ cond goes_on (line.number ∷ []) [])) ≡ closed_after (λ m x. goes_on) line (Some opened) (first_of (drop n resumptions))
first_later goes_on line opened n resumptions few = ap first_of (drop-append-le n resumptions (cond goes_on (line.number ∷ []) []) few) ∙ first_more goes_on line opened (drop n resumptions)

none_since : (xs : List ℕ) → first_of (drop (length xs) xs) ≡ None
none_since [] = refl
none_since (x ∷ xs) = none_since xs

last_step : (gives_it : Bool) (line : Line) (count : ℕ) (resumptions later : List ℕ) (before : Option LastGiven) (t : Trail)
    → later ≡ resumptions_after line resumptions → IsWithin (length resumptions) before → last_given resumptions before ≡ last_of t
    → last_given later (cond gives_it (Some (given_now line later)) before)
    ≡ last_of (cond gives_it (record { count = t.count + 1; opened = Some (record { line = line.number; seq = line.message.seq }); closed = None }) (record { count = t.count; opened = t.opened; closed = closed_after (λ m. resumes) line t.opened t.closed }))
last_step true line count resumptions later before t e few is = ap (λ closed. record { opened = Some (record { line = line.number; seq = line.message.seq }); closed = closed }) (none_since later)
last_step false line count resumptions later None t e few is = ap (λ (last : Last). record { opened = last.opened; closed = closed_after (λ m. resumes) line last.opened last.closed }) is
last_step false line count resumptions later (Some given) t e few is =
    ap (λ xs. record { opened = Some given.opened; closed = first_of (drop given.resumptions xs) }) e
    ∙ ap (λ closed. record { opened = Some given.opened; closed = closed }) (first_later (resumes line) line given.opened given.resumptions resumptions few)
    ∙ ap (λ (last : Last). record { opened = last.opened; closed = closed_after (λ m. resumes) line last.opened last.closed }) is

within_later : (gives_it : Bool) (line : Line) (resumptions later : List ℕ) (before : Option LastGiven) → length resumptions ≤ length later → IsWithin (length resumptions) before → IsWithin (length later) (cond gives_it (Some (given_now line later)) before)
within_later true line resumptions later before more few = omega arith
within_later false line resumptions later None more few = tt
within_later false line resumptions later (Some given) more few = omega arith

pub given_later : (old new : Given) (line : Line) (earlier : List Line)
    → new.resumptions.items ≡ resumptions_after line old.resumptions.items
    → ((kind : ReferenceKind) (n : ℕ) → given_at new kind n ≡ cond (gives kind n line) (Some (given_now line new.resumptions.items)) (given_at old kind n))
    → AreGiven old earlier → AreGiven new (earlier ++ line ∷ [])
given_later old new line earlier e added is =
    let longer : length old.resumptions.items ≤ length new.resumptions.items = omega (arith, ap length e, length-append old.resumptions.items (cond (resumes line) (line.number ∷ []) [])) in
    record {
      last = λ kind n.
          let t = trail (gives kind n) (λ m. resumes) earlier in
          ap (last_given new.resumptions.items) (added kind n)
          ∙ last_step (gives kind n line) line t.count old.resumptions.items new.resumptions.items (given_at old kind n) t e (is.within kind n) (is.last kind n)
          ∙ ap last_of (sym (trail_push (gives kind n) (λ m. resumes) earlier line));
      within = λ kind n.
          subst (IsWithin (length new.resumptions.items)) (sym (added kind n))
          (within_later (gives kind n line) line old.resumptions.items new.resumptions.items (given_at old kind n) longer (is.within kind n));
    }

-- what is added to those of either kind
pub given_by : (old mid new : Given) (line : Line) (earlier : List Line) (given : LastGiven)
    → mid.resumptions.items ≡ resumptions_after line old.resumptions.items → mid.frames ≡ old.frames → mid.holders ≡ old.holders → new.resumptions.items ≡ mid.resumptions.items → given ≡ given_now line mid.resumptions.items
    → ((n : ℕ) → tree.get nat_cmp new.frames n ≡ cond (gives_frame n line) (Some given) (tree.get nat_cmp mid.frames n))
    → ((n : ℕ) → tree.get nat_cmp new.holders n ≡ cond (gives_holder n line) (Some given) (tree.get nat_cmp mid.holders n))
    → AreGiven old earlier → AreGiven new (earlier ++ line ∷ [])
given_by old mid new line earlier given resumed same_frames same_holders same given_is frames holders is =
    let now : Some given ≡ Some (given_now line new.resumptions.items) = ap Some (given_is ∙ ap (given_now line) (sym same)) in
    given_later old new line earlier (same ∙ resumed) (added now) is
  where
    added : Some given ≡ Some (given_now line new.resumptions.items) → (kind : ReferenceKind) (n : ℕ) → given_at new kind n ≡ cond (gives kind n line) (Some (given_now line new.resumptions.items)) (given_at old kind n)
    added now Frame n = frames n ∙ ap (λ g. cond (gives_frame n line) g (tree.get nat_cmp mid.frames n)) now ∙ ap (λ t. cond (gives_frame n line) (Some (given_now line new.resumptions.items)) (tree.get nat_cmp t n)) same_frames
    added now Variables n = holders n ∙ ap (λ g. cond (gives_holder n line) g (tree.get nat_cmp mid.holders n)) now ∙ ap (λ t. cond (gives_holder n line) (Some (given_now line new.resumptions.items)) (tree.get nat_cmp t n)) same_holders
