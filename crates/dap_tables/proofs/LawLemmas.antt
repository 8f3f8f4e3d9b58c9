-- Lists of calls: what they leave of the numbers that were given, and the ids that they give.
use Rattle.std.proofs.Common.{◌≡◌, ℕ, zero, suc, ◌+◌, ◌-◌, ◌<◌, ◌≤◌, List, [], ◌∷◌, ◌++◌, Bool, true, false, length, map, take, Option, Some, None, Result, Ok, Err, refl, sym, ap, subst, ◌∙◌, arith, true≢false}
use Rattle.std.specs.Prelude.{◌==◌, ◌&&◌, nat_lt, nat_le, if◌then◌else◌}
use Rattle.std.specs.List.{list_any, list_all, range_with_len, slice_get}
use Rattle.std.proofs.lemmas.Bool.Decides.{nat_tests}
use Rattle.std.proofs.lemmas.List.{append-nil}
use Rattle.std.proofs.lemmas.Option.{slice_get_within}
use Rattle.dap_command.specs.declared.source_key.SourceKey.{SourceKey}
use Rattle.dap_tables.specs.declared.ref_fault.RefFault.{RefFault}
use Rattle.dap_tables.specs.declared.ref_fault.RefFault.TheVariants.{Full, Exhausted}
use Rattle.dap_tables.specs.declared.target.Target.{Target}
use Rattle.dap_tables.specs.References.{LiveReferences, ReferenceTable, place_of, target_of, numbered_at}
use Rattle.dap_tables.specs.Breakpoints.{SetBreakpoints, no_breakpoints, lines_with_ids, breakpoints_with}
use Rattle.dap_tables.specs.TableLaws.{ReferenceCall, Gave, Refused, WentBack, Cleared, Does, Runs, gives, leaves, NumbersNeverComeAgain, ids_given, lines_of_all, IdsNeverComeAgain}
use Rattle.dap_tables.specs.Ors.{or-false}

-- ---- numbers

lt-of : (a b : ℕ) → nat_lt a b ≡ true → a < b
lt-of a b h = grind (arith, nat_tests)

no-lt : (a b : ℕ) → b ≤ a → nat_lt a b ≡ false
no-lt a b h = grind (arith, nat_tests)

not-same : (a b : ℕ) → b < a → (a == b) ≡ false
not-same a b h = grind (arith, nat_tests)

and-left : (a b : Bool) → (a && b) ≡ true → a ≡ true
and-left true b h = refl
and-left false b h = h

and-right : (a b : Bool) → (a && b) ≡ true → b ≡ true
and-right true b h = h
and-right false b h = absurd (true≢false (sym h))

below-base : (refs : LiveReferences) (n : ℕ) → n ≤ refs.base → target_of refs n ≡ None
below-base refs n h = rw (no-lt refs.base n h) refl

live-if : (b : Bool) (base n : ℕ) (live : List Target) (t : Target) → nat_lt base n ≡ b → (if b then slice_get live (n - base - 1) else None) ≡ Some t → n ≤ base + length live
live-if true base n live t e h =
    let place = slice_get_within live (n - base - 1) t h in
    let above = lt-of base n e in
    omega arith
live-if false base n live t e h = cc

live-at-most : (refs : LiveReferences) (n : ℕ) (t : Target) → target_of refs n ≡ Some t → n ≤ refs.base + length refs.live
live-at-most refs n t h = live-if (nat_lt refs.base n) refs.base n refs.live t refl h

-- ---- one number given

record IsGiven (refs : LiveReferences) (given : ℕ × LiveReferences) : Type 0 where
  base : given.1.base ≡ refs.base
  above : refs.base < given.0
  more : List Target
  live : given.1.live ≡ refs.live ++ more

next-given : (a b : Bool) (t : Target) (refs : LiveReferences) (given : ℕ × LiveReferences)
    → (let out : Result (ℕ × LiveReferences) RefFault = (if a then (if b then Ok (refs.base + 1 + length refs.live, record refs { live = refs.live ++ t ∷ [] }) else Err Exhausted) else Err Full) in out) ≡ Ok given
    → IsGiven refs given
next-given true true t refs given e =
    let same : (refs.base + 1 + length refs.live, record refs { live = refs.live ++ t ∷ [] }) ≡ given = cc in
    subst (λ (q : ℕ × LiveReferences). IsGiven refs q) same (record { base = refl; above = omega arith; more = t ∷ []; live = refl })
next-given true false t refs given e = cc
next-given false b t refs given e = cc

given-at : (o : Option ℕ) (room greatest : ℕ) (t : Target) (refs : LiveReferences) (given : ℕ × LiveReferences) → numbered_at o Full Exhausted room greatest t refs ≡ Ok given → IsGiven refs given
given-at (Some p) room greatest t refs given e =
    let same : (refs.base + 1 + p, refs) ≡ given = cc in
    subst (λ (q : ℕ × LiveReferences). IsGiven refs q) same (record { base = refl; above = omega arith; more = []; live = sym (append-nil refs.live) })
given-at None room greatest t refs given e = next-given (nat_lt (length refs.live) room) (nat_lt (refs.base + length refs.live) greatest) t refs given e

is-given : (t : Target) (n : ℕ) (old new : ReferenceTable) → Does (Gave t n) old new → IsGiven old.references (n, new.references)
is-given t n old new d = given-at (place_of t old.references.live) old.room old.greatest t old.references (n, new.references) d.0

-- ---- what is dead stays dead

base-rises : (call : ReferenceCall) (old new : ReferenceTable) → Does call old new → old.references.base ≤ new.references.base
base-rises (Gave t n) old new d = let given = is-given t n old new d in let base = given.base in omega arith
base-rises (Refused t) old new d = let same = ap (λ (table : ReferenceTable). table.references.base) d in omega arith
base-rises (WentBack mark) old new d = let same = ap (λ (table : ReferenceTable). table.references.base) d.1 in omega arith
base-rises Cleared old new d = let same = ap (λ (table : ReferenceTable). table.references.base) d in omega arith

gives-not : (call : ReferenceCall) (old new : ReferenceTable) (number : ℕ) → Does call old new → number ≤ old.references.base → gives number call ≡ false
gives-not (Gave t n) old new number d h = let above = (is-given t n old new d).above in not-same n number (omega arith)
gives-not (Refused t) old new number d h = refl
gives-not (WentBack mark) old new number d h = refl
gives-not Cleared old new number d h = refl

stays-dead : (calls : List ReferenceCall) (old new : ReferenceTable) (number : ℕ) → number ≤ old.references.base → Runs calls old new → (target_of new.references number ≡ None) × (list_any (gives number) calls ≡ false)
stays-dead [] old new number h r = (subst (λ (table : ReferenceTable). target_of table.references number ≡ None) (sym r) (below-base old.references number h), refl)
stays-dead (call ∷ calls) old new number h r =
    let rises = base-rises call old r.0 r.1 in
    let rest = stays-dead calls r.0 new number (omega arith) r.2 in
    (rest.0, or-false (gives number call) (list_any (gives number) calls) (gives-not call old r.0 number r.1 h) rest.1)

-- ---- what lives keeps its number

slice_get-front : {A : Type 0} (xs ys : List A) (k : ℕ) (x : A) → slice_get xs k ≡ Some x → slice_get (xs ++ ys) k ≡ Some x
slice_get-front [] ys k x h = cc
slice_get-front (y ∷ xs) ys zero x h = h
slice_get-front (y ∷ xs) ys (suc k) x h = slice_get-front xs ys k x h

stays-if : (b : Bool) (k : ℕ) (xs more : List Target) (t : Target) → (if b then slice_get xs k else None) ≡ Some t → (if b then slice_get (xs ++ more) k else None) ≡ Some t
stays-if true k xs more t h = slice_get-front xs more k t h
stays-if false k xs more t h = h

names-still : (refs : LiveReferences) (given : ℕ × LiveReferences) (number : ℕ) (t : Target) → IsGiven refs given → target_of refs number ≡ Some t → target_of given.1 number ≡ Some t
names-still refs given number t g h = rw (g.base, g.live) (stays-if (nat_lt refs.base number) (number - refs.base - 1) refs.live g.more t h)

front-of : {A : Type 0} (m : ℕ) (xs : List A) (k : ℕ) (x : A) → k < m → slice_get xs k ≡ Some x → slice_get (take m xs) k ≡ Some x
front-of zero xs k x h e = absurd (omega (arith, h))
front-of (suc m) [] k x h e = cc
front-of (suc m) (y ∷ xs) zero x h e = e
front-of (suc m) (y ∷ xs) (suc k) x h e = front-of m xs k x (omega (arith, h)) e

le-of : (a b : ℕ) → nat_le a b ≡ true → a ≤ b
le-of a b h = grind (arith, nat_tests)

back-if : (b : Bool) (base number mark : ℕ) (live : List Target) (t : Target) → nat_lt base number ≡ b → number - base ≤ mark → (if b then slice_get live (number - base - 1) else None) ≡ Some t → (if b then slice_get (take mark live) (number - base - 1) else None) ≡ Some t
back-if true base number mark live t e h is = let above = lt-of base number e in front-of mark live (number - base - 1) t (omega (arith, above, h)) is
back-if false base number mark live t e h is = cc

record Stays (old new : ReferenceTable) (number : ℕ) (t : Target) : Type 0 where
  base : new.references.base ≡ old.references.base
  named : target_of new.references number ≡ Some t

leaves-it : (call : ReferenceCall) (old new : ReferenceTable) (number : ℕ) (t : Target) → leaves (number - old.references.base) call ≡ true → Does call old new → target_of old.references number ≡ Some t → Stays old new number t
leaves-it (Gave target n) old new number t i d h = let given = is-given target n old new d in record { base = given.base; named = names-still old.references (n, new.references) number t given h }
leaves-it (Refused target) old new number t i d h = subst (λ (table : ReferenceTable). Stays old table number t) (sym d) (record { base = refl; named = h })
leaves-it (WentBack mark) old new number t i d h =
    subst (λ (table : ReferenceTable). Stays old table number t) (sym d.1)
    (record { base = refl; named = back-if (nat_lt old.references.base number) old.references.base number mark old.references.live t refl (le-of (number - old.references.base) mark i) h })
leaves-it Cleared old new number t i d h = absurd (true≢false (sym i))

leave-it : (calls : List ReferenceCall) (old new : ReferenceTable) (number : ℕ) (t : Target) → target_of old.references number ≡ Some t → list_all (leaves (number - old.references.base)) calls ≡ true → Runs calls old new → target_of new.references number ≡ Some t
leave-it [] old new number t h i r = subst (λ (table : ReferenceTable). target_of table.references number ≡ Some t) (sym r) h
leave-it (call ∷ calls) old new number t h i r =
    let place = number - old.references.base in
    let one = leaves-it call old r.0 number t (and-left (leaves place call) (list_all (leaves place) calls) i) r.1 h in
    leave-it calls r.0 new number t one.named (subst (λ (base : ℕ). list_all (leaves (number - base)) calls ≡ true) (sym one.base) (and-right (leaves place call) (list_all (leaves place) calls) i)) r.2

pub never-again : NumbersNeverComeAgain
never-again = record {
  dead = λ calls old new number target h r.
      let most = live-at-most old.references number target h in
      let base = ap (λ (table : ReferenceTable). table.references.base) r.1 in
      stays-dead calls r.0 new number (omega arith) r.2;
  kept = leave-it;
}

-- ---- ids

ids-of : (first : ℕ) (lines : List ℕ) → map (λ (point : ℕ × ℕ). point.0) (lines_with_ids first lines) ≡ range_with_len first (length lines)
ids-of first [] = refl
ids-of first (line ∷ lines) = ap (λ (ns : List ℕ). first ∷ ns) (ids-of (first + 1) lines)

range-both : (a n m : ℕ) → range_with_len a n ++ range_with_len (a + n) m ≡ range_with_len a (n + m)
range-both a zero m =
    let same : a + 0 ≡ a = omega arith in
    let all : 0 + m ≡ m = omega arith in
    rw (same, all) refl
range-both a (suc n) m =
    let next : a + suc n ≡ a + 1 + n = omega arith in
    let all : suc n + m ≡ suc (n + m) = omega arith in
    rw (next, all) (ap (λ (ns : List ℕ). a ∷ ns) (range-both (a + 1) n m))

rises : (calls : List (SourceKey × List ℕ)) (b : SetBreakpoints) → ids_given calls b ≡ range_with_len b.next_id (lines_of_all calls)
rises [] b = refl
rises (call ∷ calls) b =
    ap (λ (ns : List ℕ). ns ++ ids_given calls (breakpoints_with call.0 call.1 b)) (ids-of b.next_id call.1)
    ∙ ap (λ (ns : List ℕ). range_with_len b.next_id (length call.1) ++ ns) (rises calls (breakpoints_with call.0 call.1 b))
    ∙ range-both b.next_id (length call.1) (lines_of_all calls)

pub ids-rise : IdsNeverComeAgain
ids-rise calls = rises calls no_breakpoints
