-- Two lists of requests in one.
use Rattle.std.proofs.Common.{◌≡◌, inl, inr, List, [], ◌∷◌, ◌++◌, Bool, true, false, Option, Some, None, refl, sym, ap, ◌∙◌}
use Rattle.std.specs.Prelude.{◌==◌, if◌then◌else◌, filter}
use Rattle.std.proofs.lemmas.List.Elements.{filter-append}
use Rattle.dap_history.specs.Answers.{AnswersOne}
use Rattle.dap_history.specs.History.{Asked, Answered}
use Rattle.dap_plan.specs.Merged.{Merges}

left-if : (b : Bool) (z : Asked) (xs ys zs : List Asked) → Merges xs ys zs → Merges (if b then z ∷ xs else xs) ys (if b then z ∷ zs else zs)
left-if true z xs ys zs m = inl (xs, refl, m)
left-if false z xs ys zs m = m

right-if : (b : Bool) (z : Asked) (xs ys zs : List Asked) → Merges xs ys zs → Merges xs (if b then z ∷ ys else ys) (if b then z ∷ zs else zs)
right-if true z xs ys zs m = inr (ys, refl, m)
right-if false z xs ys zs m = m

pub merges-filter : (p : Asked → Bool) (xs ys zs : List Asked) → Merges xs ys zs → Merges (filter p xs) (filter p ys) (filter p zs)
merges-filter p xs ys [] m = rw (m.0, m.1) (refl, refl)
merges-filter p xs ys (z ∷ zs) (inl m) = rw m.1 (left-if (p z) z (filter p m.0) (filter p ys) (filter p zs) (merges-filter p m.0 ys zs m.2))
merges-filter p xs ys (z ∷ zs) (inr m) = rw m.1 (right-if (p z) z (filter p xs) (filter p m.0) (filter p zs) (merges-filter p xs m.0 zs m.2))

-- more behind each
pub merges-append : (xs ys zs us vs ws : List Asked) → Merges xs ys zs → Merges us vs ws → Merges (xs ++ us) (ys ++ vs) (zs ++ ws)
merges-append xs ys [] us vs ws m n = rw (m.0, m.1) n
merges-append xs ys (z ∷ zs) us vs ws (inl m) n = inl (m.0 ++ us, ap (λ (l : List Asked). l ++ us) m.1, merges-append m.0 ys zs us vs ws m.2 n)
merges-append xs ys (z ∷ zs) us vs ws (inr m) n = inr (m.0 ++ vs, ap (λ (l : List Asked). l ++ vs) m.1, merges-append xs m.0 zs us vs ws m.2 n)

-- ---- where the two hold one

merges-none : (xs ys zs : List Asked) → xs ≡ [] → ys ≡ [] → Merges xs ys zs → zs ≡ []
merges-none xs ys [] e f m = refl
merges-none xs ys (z ∷ zs) e f (inl m) = absurd (let one = sym e ∙ m.1 in cc)
merges-none xs ys (z ∷ zs) e f (inr m) = absurd (let one = sym f ∙ m.1 in cc)

none-of : (xs ys : List Asked) → xs ++ ys ≡ [] → (xs ≡ []) × (ys ≡ [])
none-of [] ys e = (refl, e)
none-of (x ∷ xs) ys e = absurd (cc e)

one-left : (xs ys : List Asked) (z q : Asked) → z ∷ (xs ++ ys) ≡ q ∷ [] → (z ≡ q) × (xs ++ ys ≡ [])
one-left xs ys z q e = (cc, cc)

one-right : (xs ys : List Asked) (z q : Asked) → xs ++ z ∷ ys ≡ q ∷ [] → (xs ≡ []) × (z ≡ q) × (ys ≡ [])
one-right [] ys z q e = (refl, cc, cc)
one-right (x ∷ xs) ys z q e = absurd (let none : xs ++ z ∷ ys ≡ [] = cc in let parts = none-of xs (z ∷ ys) none in let two = parts.1 in cc)

merges-one : (xs ys zs : List Asked) (q : Asked) → Merges xs ys zs → xs ++ ys ≡ q ∷ [] → zs ≡ q ∷ []
merges-one xs ys [] q m e = absurd (let none : xs ++ ys ≡ [] = rw (m.0, m.1) refl in let two = sym none ∙ e in cc)
merges-one xs ys (z ∷ zs) q (inl m) e =
    let parts = one-left m.0 ys z q (ap (λ (l : List Asked). l ++ ys) (sym m.1) ∙ e) in
    let none = none-of m.0 ys parts.1 in
    rw (parts.0, merges-none m.0 ys zs none.0 none.1 m.2) refl
merges-one xs ys (z ∷ zs) q (inr m) e =
    let parts = one-right xs m.0 z q (ap (λ (l : List Asked). xs ++ l) (sym m.1) ∙ e) in
    rw (parts.1, merges-none xs m.0 zs parts.0 parts.2 m.2) refl

-- a response that answers one of the two answers that one of the third
pub merges-answered : (xs ys zs : List Asked) (response : Option Answered) → Merges xs ys zs → AnswersOne (xs ++ ys) response → AnswersOne zs response
merges-answered xs ys zs None m a = tt
merges-answered xs ys zs (Some answered) m a =
    let p = λ (q : Asked). q.seq == answered.request_seq in
    (a.0, merges-one (filter p xs) (filter p ys) (filter p zs) a.0 (merges-filter p xs ys zs m) (sym (filter-append p xs ys) ∙ a.1), a.2)
