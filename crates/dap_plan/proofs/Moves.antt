-- What a step does to the tables: references stay, grow or die, breakpoints stay or are set, and both keep to their room.
use Rattle.std.proofs.Common.{◌≡◌, ℕ, ◌+◌, ◌≤◌, Bool, true, false, Some, length, refl, sym, ap, ◌∙◌, subst, arith, true≢false}
use Rattle.dap_frame.specs.Settings.{Settings}
use Rattle.dap_command.specs.declared.offer.Offer.{Offer}
use Rattle.dap_tables.specs.declared.target.Target.{Target}
use Rattle.dap_tables.specs.SourceMap.{count}
use Rattle.dap_tables.specs.Breakpoints.{SetBreakpoints, max_id}
use Rattle.dap_tables.specs.References.{LiveReferences, target_of, without_references}
use Rattle.dap_plan.specs.Plan.{Made, references_end_if}
use Rattle.dap_plan.specs.ReferenceLaws.{KeepsApart}
use Rattle.dap_plan.specs.References.{references_after}
use Rattle.dap_plan.specs.Session.{Session}
use Rattle.dap_query.specs.QueryResults.{Grows}
use Rattle.dap_query.specs.Laws.{AreFew}
use Rattle.dap_query.proofs.Interned.{grown-names, live-at-most}

-- so many breakpoints stand, and so many ids were given
pub record StandFew (limits : Settings) (points : SetBreakpoints) : Type 0 where
  pub breakpoints : count points.sources ≤ limits.breakpoints
  pub ids : points.next_id ≤ max_id + 1

-- ---- what a step does

-- what never changes
abbrev pub constants : Session → Settings × Offer
constants s = (s.limits, s.offers)

pub record Moves (s : Session) (m : Made) : Type 0 where
  pub limits : m.after.limits ≡ s.limits
  pub offers : m.after.offers ≡ s.offers
  pub few : AreFew s.limits s.references → AreFew s.limits m.after.references
  pub stand : StandFew s.limits s.breakpoints → StandFew s.limits m.after.breakpoints
  pub apart : KeepsApart s m

-- nothing of references
apart-same : (s : Session) (m : Made) → m.after.references ≡ s.references → m.drops ≡ false → KeepsApart s m
apart-same s m r d =
    let base : m.after.references.base ≡ s.references.base = ap (λ (x : LiveReferences). x.base) r in
    record {
      base = omega arith;
      dropped = λ (e : m.drops ≡ true) (n : ℕ) (t : Target) (h : target_of s.references n ≡ Some t). absurd (true≢false (sym e ∙ d));
      lasting = λ (e : m.drops ≡ false) (n : ℕ) (t : Target) (h : target_of s.references n ≡ Some t). subst (λ (x : LiveReferences). target_of x n ≡ Some t) (sym r) h;
    }

pub moves-same : (s : Session) (m : Made) → constants m.after ≡ constants s → m.after.references ≡ s.references → m.after.breakpoints ≡ s.breakpoints → m.drops ≡ false → Moves s m
moves-same s m l r b d =
    record {
      limits = ap (λ (x : Settings × Offer). x.0) l;
      offers = ap (λ (x : Settings × Offer). x.1) l;
      few = λ (h : AreFew s.limits s.references). subst (λ (x : LiveReferences). AreFew s.limits x) (sym r) h;
      stand = λ (h : StandFew s.limits s.breakpoints). subst (λ (x : SetBreakpoints). StandFew s.limits x) (sym b) h;
      apart = apart-same s m r d;
    }

-- all references die
few-without_references : (limits : Settings) (refs : LiveReferences) → AreFew limits refs → AreFew limits (without_references refs)
few-without_references limits refs h = record { references = omega arith; numbers = omega arith }

pub moves-without_references : (s : Session) (m : Made) → constants m.after ≡ constants s → m.after.references ≡ without_references s.references → m.after.breakpoints ≡ s.breakpoints → m.drops ≡ true → Moves s m
moves-without_references s m l r b d =
    let base : m.after.references.base ≡ s.references.base + length s.references.live = ap (λ (x : LiveReferences). x.base) r in
    record {
      limits = ap (λ (x : Settings × Offer). x.0) l;
      offers = ap (λ (x : Settings × Offer). x.1) l;
      few = λ (h : AreFew s.limits s.references). subst (λ (x : LiveReferences). AreFew s.limits x) (sym r) (few-without_references s.limits s.references h);
      stand = λ (h : StandFew s.limits s.breakpoints). subst (λ (x : SetBreakpoints). StandFew s.limits x) (sym b) h;
      apart = record {
        base = omega arith;
        dropped = λ (e : m.drops ≡ true) (n : ℕ) (t : Target) (h : target_of s.references n ≡ Some t). let most = live-at-most s.references n t h in omega arith;
        lasting = λ (e : m.drops ≡ false) (n : ℕ) (t : Target) (h : target_of s.references n ≡ Some t). absurd (true≢false (sym d ∙ e));
      };
    }

-- more references
pub moves-grown : (s : Session) (m : Made) → constants m.after ≡ constants s → Grows s.references m.after.references → (AreFew s.limits s.references → AreFew s.limits m.after.references) → m.after.breakpoints ≡ s.breakpoints → m.drops ≡ false → Moves s m
moves-grown s m l g f b d =
    let base : m.after.references.base ≡ s.references.base = g.base in
    record {
      limits = ap (λ (x : Settings × Offer). x.0) l;
      offers = ap (λ (x : Settings × Offer). x.1) l;
      few = f;
      stand = λ (h : StandFew s.limits s.breakpoints). subst (λ (x : SetBreakpoints). StandFew s.limits x) (sym b) h;
      apart = record {
        base = omega arith;
        dropped = λ (e : m.drops ≡ true) (n : ℕ) (t : Target) (h : target_of s.references n ≡ Some t). absurd (true≢false (sym e ∙ d));
        lasting = λ (e : m.drops ≡ false) (n : ℕ) (t : Target) (h : target_of s.references n ≡ Some t). grown-names s.references m.after.references n t g h;
      };
    }

-- other breakpoints
pub moves-set : (s : Session) (m : Made) → constants m.after ≡ constants s → m.after.references ≡ s.references → (StandFew s.limits s.breakpoints → StandFew s.limits m.after.breakpoints) → m.drops ≡ false → Moves s m
moves-set s m l r b d =
    record {
      limits = ap (λ (x : Settings × Offer). x.0) l;
      offers = ap (λ (x : Settings × Offer). x.1) l;
      few = λ (h : AreFew s.limits s.references). subst (λ (x : LiveReferences). AreFew s.limits x) (sym r) h;
      stand = b;
      apart = apart-same s m r d;
    }

-- nothing but that all may die
pub record IsPlain (s : Session) (m : Made) : Type 0 where
  pub constants_stay : constants m.after ≡ constants s
  pub limits : m.after.limits ≡ s.limits
  pub references : m.after.references ≡ references_after s.references (references_end_if m.drops)
  pub breakpoints : m.after.breakpoints ≡ s.breakpoints

pub is-plain : (s : Session) (m : Made) → constants m.after ≡ constants s → m.after.references ≡ references_after s.references (references_end_if m.drops) → m.after.breakpoints ≡ s.breakpoints → IsPlain s m
is-plain s m l r b = record { constants_stay = l; limits = ap (λ (x : Settings × Offer). x.0) l; references = r; breakpoints = b }

plain-if : (b : Bool) (s : Session) (m : Made) → m.drops ≡ b → constants m.after ≡ constants s → m.after.references ≡ references_after s.references (references_end_if b) → m.after.breakpoints ≡ s.breakpoints → Moves s m
plain-if true s m d l r p = moves-without_references s m l r p d
plain-if false s m d l r p = moves-same s m l r p d

pub moves-plain : (s : Session) (m : Made) → IsPlain s m → Moves s m
moves-plain s m p = plain-if m.drops s m refl p.constants_stay p.references p.breakpoints
