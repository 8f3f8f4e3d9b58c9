-- A poll of a program that runs keeps to what the laws ask of it, whatever came of running.
use Rattle.std.proofs.Common.{◌≡◌, ℕ, ◌+◌, ◌%◌, ◌^◌, ◌<◌, ◌≤◌, true, nat_le, List, [], ◌∷◌, ◌++◌, length, decimal, IsTrue, refl, sym, ap, ◌∙◌, true≢false, arith, length-append}
use Rattle.std.proofs.lemmas.Bool.{le-leb}
use Rattle.std.proofs.lemmas.Fmt.{length-decimal-le}
use Rattle.dap_debuggee.specs.Shown.{to_poll, happened}
use Rattle.dap_debuggee.specs.Laws.{may_answer, state_after, keeps_frames}
use Rattle.dap_debuggee.specs.declared.answers.State.TheVariants.{Running}
use Rattle.my_debugger.specs.declared.news.News.{News}
use Rattle.my_debugger.specs.declared.news.News.TheVariants as news
use Rattle.my_debugger.specs.declared.news.LastAct.TheVariants.{Polled}
use Rattle.my_debugger.specs.ToyShown.{ToyState, calls_in}
use Rattle.my_debugger.specs.ToyActs.{happening_of, state_by, HasRun, FollowsToy, last_of, noted}

-- a number is printed in at most ten digits
pub short_line : (value : ℕ) (text : List ℕ) → value < 2 ^ 32 → text ≡ decimal value ++ 10 ∷ [] → nat_le (length text) 128 ≡ true
short_line value text fits is =
    let digits : length (decimal value) ≤ 10 = length-decimal-le 10 value (omega arith) (omega arith) (omega arith) in
    let short : length text ≤ 128 = rw is (omega (arith, length-append (decimal value) (10 ∷ []))) in
    le-leb (length text) 128 short
