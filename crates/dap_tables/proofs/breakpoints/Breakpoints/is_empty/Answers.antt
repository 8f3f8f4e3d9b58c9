use Rattle.std.proofs.Common.{◌≡◌, ap, sym, ◌∙◌, arith, ℕ, true}
use Rattle.std.specs.Prelude.{nat_eq}
use Rattle.std.proofs.lemmas.Bool.Decides.{nat_tests}
use Rattle.dap_tables.specs.SourceMap.{count}
use Rattle.dap_tables.specs.Breakpoints.{BreakpointTable}
use Rattle.dap_tables.proofs.SourceMapLemmas.{count-none}
use Rattle.dap_tables.proofs.breakpoints.Breakpoints.is_empty.Goals as goal

is-none : (n : ℕ) → nat_eq n 0 ≡ true → n ≡ 0
is-none n h = grind (arith, nat_tests)

none-is : (n : ℕ) → n ≡ 0 → nat_eq n 0 ≡ true
none-is n h = grind (arith, nat_tests)

pub returns : goal.returns
returns c =
    let inside = c.self.inside in
    let same = ap (λ (t : BreakpointTable). t.breakpoints.sources) c.self.view_is in (
      λ h. sym same ∙ count-none inside.sets c.self.invariant.1.filled (sym c.self.invariant.0 ∙ is-none inside.len h),
      λ h. none-is inside.len (c.self.invariant.0 ∙ ap (λ ss. count ss) (same ∙ h)),
    )
