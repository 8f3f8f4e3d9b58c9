-- A line is counted, and heard by its mark.
use Rattle.std.proofs.Common.{◌≡◌, ℕ, ◌+◌, ◌<◌, Bool, true, false, List, [], ◌∷◌, ◌++◌, length, refl, sym, ap, ◌∙◌, subst, arith}
use Rattle.std.specs.Prelude.{drop}
use Rattle.std.proofs.lemmas.Bool.{lt-ltb}
use Rattle.dap_channel.specs.Sent.{saturating_count}
use Rattle.dap_plan.specs.declared.fault.AdapterFault.{AdapterFault}
use Rattle.dap_host.specs.Hearing.{HostState, IsGoing, counted, mark_of, is_too_long, HearsMarked, StopsMarked, HearsText, HearsIf, StopsIf, Hears, Stops}
use Rattle.dap_line.specs.Written.{refusal_line}
use Rattle.dap_line.specs.declared.refusal.Refusal.TheVariants.{TooLong}

-- only the count is another
pub counted_is : (o h k : HostState) → o ≡ h → k ≡ record o { number = k.number } → k.number ≡ saturating_count (o.number + 1) → k ≡ counted h
counted_is o h k e is n = is ∙ (ap (λ (z : ℕ). record o { number = z }) n ∙ ap counted e)

pub counted_going : (o h k : HostState) → o ≡ h → k ≡ record o { number = k.number } → IsGoing h → IsGoing k
counted_going o h k e is going =
    let there : IsGoing o = subst IsGoing (sym e) going in
    subst IsGoing (sym is) (record { used = there.used; history = there.history; stands = there.stands; none_held = there.none_held; limits_are = there.limits_are; fetched = there.fetched })

pub hears_none : (h k : HostState) (line before : List ℕ) → length line ≡ 0 → k ≡ counted h → HearsText h line before before k
hears_none h k [] before none is = (refl, is)
hears_none h k (x ∷ xs) before none is = absurd (omega arith)

pub hears_some : (h g k : HostState) (line before after : List ℕ) → (length line ≡ 0 → ⊥) → g ≡ counted h → HearsMarked (mark_of line) g (drop 2 line) before after k → HearsText h line before after k
hears_some h g k [] before after some is hears = absurd (some refl)
hears_some h g k (x ∷ xs) before after some is hears = subst (λ (z : HostState). HearsMarked (mark_of (x ∷ xs)) z (drop 2 (x ∷ xs)) before after k) is hears

pub stops_line : (h g k : HostState) (line before after : List ℕ) (fault : AdapterFault) → g ≡ counted h → StopsMarked (mark_of line) g (drop 2 line) before after k fault → StopsMarked (mark_of line) (counted h) (drop 2 line) before after k fault
stops_line h g k line before after fault is stops = subst (λ (z : HostState). StopsMarked (mark_of line) z (drop 2 line) before after k fault) is stops

-- ---- whether a line is too long

pub hears_too_long : (h k : HostState) (line before after : List ℕ) → k ≡ counted h → after ≡ before ++ refusal_line k.number TooLong → h.longest < length line → Hears h line before after k
hears_too_long h k line before after is says long =
    let e : is_too_long h line ≡ true = lt-ltb h.longest (length line) long in
    subst (λ (b : Bool). HearsIf b h line before after k) (sym e) (record { line = says ∙ ap (λ (z : HostState). before ++ refusal_line z.number TooLong) is; same = is })

pub hears_text : (h k : HostState) (line before after : List ℕ) → is_too_long h line ≡ false → HearsText h line before after k → Hears h line before after k
hears_text h k line before after short hears = subst (λ (b : Bool). HearsIf b h line before after k) (sym short) hears

pub stops_text : (h k : HostState) (line before after : List ℕ) (fault : AdapterFault) → is_too_long h line ≡ false → StopsMarked (mark_of line) (counted h) (drop 2 line) before after k fault → Stops h line before after k fault
stops_text h k line before after fault short stops = subst (λ (b : Bool). StopsIf b h line before after k fault) (sym short) stops
