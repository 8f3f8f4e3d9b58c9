-- When the debuggee is asked no more.
use Rattle.std.proofs.Common.{◌≡◌, ℕ, ◌+◌, ◌<◌, ◌≤◌, List, ◌++◌, length, Bool, true, false, refl, sym, ap, ◌∙◌, arith, length-append}
use Rattle.std.specs.Prelude.{◌==◌, ◌||◌, ◌&&◌, not, nat_lt, if◌then◌else◌}
use Rattle.std.proofs.lemmas.Bool.Decides.{nat_tests}
use Rattle.dap_decision.specs.declared.phase.Phase.{Phase}
use Rattle.dap_decision.specs.declared.phase.Phase.TheVariants.{Stopped}
use Rattle.dap_decision.specs.Table.{is_phase}
use Rattle.dap_adapter.specs.Run.{to_take, to_poll, after_poll}
use Rattle.dap_adapter.specs.PrivateServing.{next_after, next_after_polls}

apart : (i : ℕ) → i < 65536 → (i == 65536) ≡ false
apart i h = grind (arith, nat_tests)

pub polling_below : (i : ℕ) → i < 65536 → next_after_polls i ≡ to_poll i
polling_below i h = ap (λ (b : Bool). if b then to_take else to_poll i) (apart i h)

by_both : (a b c : Bool) (asks : ℕ) → (if a || b || c then to_take else to_poll (asks + 1)) ≡ (if not a && not b then (if c then to_take else to_poll (asks + 1)) else to_take)
by_both true b c asks = refl
by_both false true c asks = refl
by_both false false c asks = refl

by_more : (more : Bool) (asks : ℕ) → (if more then next_after_polls (asks + 1) else to_take) ≡ next_after more asks
by_more true asks = refl
by_more false asks = refl

-- what is done after a poll, by whether more may be due
pub after_poll_is : (more : Bool) (asks : ℕ) (bytes : List ℕ) (phase : Phase) → more ≡ (not (length bytes == 0) && not (is_phase Stopped phase)) → after_poll (asks + 1) bytes phase ≡ next_after more asks
after_poll_is more asks bytes phase is =
    by_both (length bytes == 0) (is_phase Stopped phase) (asks + 1 == 65536) asks ∙ (ap (λ (b : Bool). if b then next_after_polls (asks + 1) else to_take) (sym is) ∙ by_more more asks)

-- ---- whether a poll told something

pub some_told : (before bytes after : List ℕ) (m n : ℕ) → after ≡ before ++ bytes → m ≡ length before → n ≡ length after → m < n → (length bytes == 0) ≡ false
some_told before bytes after m n e a b h = let k = ap length e in let l = length-append before bytes in grind (arith, nat_tests)

pub none_told : (before bytes after : List ℕ) (m n : ℕ) → after ≡ before ++ bytes → m ≡ length before → n ≡ length after → n ≤ m → (length bytes == 0) ≡ true
none_told before bytes after m n e a b h = let k = ap length e in let l = length-append before bytes in grind (arith, nat_tests)

pub more_told : (none stopped : Bool) (phase : Phase) → none ≡ false → stopped ≡ is_phase Stopped phase → not stopped ≡ (not none && not (is_phase Stopped phase))
more_told none stopped phase a b = rw (a, b) refl

pub quiet_told : (m n : ℕ) (none : Bool) (phase : Phase) → n ≤ m → none ≡ true → nat_lt m n ≡ (not none && not (is_phase Stopped phase))
quiet_told m n none phase a b = let less : nat_lt m n ≡ false = grind (arith, nat_tests) in rw (less, b) refl
