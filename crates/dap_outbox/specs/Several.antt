-- Answers to several kept requests.
use Rattle.std.specs.Prelude.{◌≡◌, ℕ, ◌==◌, not, Bool, IsTrue, ◌+◌, ◌≤◌, List, ◌++◌, length, filter, map, Option, Some, None}
use Rattle.std.specs.List.{list_all}
use Rattle.dap_body.specs.declared.failure.Failure.{Failure}
use Rattle.dap_tables.specs.Outstanding.{Kept, entries}
use Rattle.dap_tables.specs.declared.entry.Entry.{Entry}
use Rattle.dap_outbox.specs.declared.several.Chosen.{Chosen}
use Rattle.dap_outbox.specs.declared.several.Chosen.TheVariants.{AllBut, Starting}
use Rattle.dap_debuggee.specs.declared.explanation.Explanation.{Explanation}
use Rattle.dap_outbox.specs.Waiting.{is_starting_in}
use Rattle.dap_outbox.specs.Draft.{Answer, Draft, reply, failure, explained, plain_success}
use Rattle.dap_outbox.specs.Outbox.{OutboxState, Holds, explanation_fits_as}

abbrev pub is_chosen : Chosen → List Kept → Entry → Bool
is_chosen (AllBut one) kept r = not (r.seq == one)
is_chosen Starting kept r = is_starting_in kept r

abbrev pub answer_by : Option Failure → Answer
answer_by None = plain_success
answer_by (Some f) = failure f

-- the same answer to each request that passes
abbrev pub answer_where : (Entry → Bool) → Answer → List Entry → List Draft
answer_where passes answer requests = map (λ r. reply r answer) (filter passes requests)

-- an own number is left for the answer to each request that is chosen of those that are kept
abbrev pub HasNumbersFor : OutboxState → Chosen → List Kept → Type 0
HasNumbersFor outbox which kept = outbox.numbers.used + length (filter (λ r. is_chosen which kept r) (entries kept)) ≤ outbox.numbers.last

-- these messages more
pub record WritesAll (old new : OutboxState) (ds : List Draft) : Type 0 where
  pub last : new.numbers.last ≡ old.numbers.last
  pub holds : (limit used : ℕ) (before : List Draft) → Holds old limit used before → Holds new limit used (before ++ ds)

-- these messages more, which a client reads whose bodies may have so many bytes
pub record WritesWithin (most : ℕ) (old new : OutboxState) (ds : List Draft) : Type 0 where
  pub last : new.numbers.last ≡ old.numbers.last
  pub holds : (limit used : ℕ) (before : List Draft) → most ≤ limit → Holds old limit used before → Holds new limit used (before ++ ds)

-- each request that is chosen is answered so, by arrival
abbrev pub AnswersChosen : OutboxState → OutboxState → Chosen → Option Failure → List Kept → Type 0
AnswersChosen old new which fault kept = WritesAll old new (answer_where (λ r. is_chosen which kept r) (answer_by fault) (entries kept))

-- ---- with why the debuggee refused

-- why fits in the answer to each of these requests, with this own number
abbrev pub explanations_fit : ℕ → ℕ → Explanation → List Entry → Bool
explanations_fit seq most told requests = list_all (λ r. explanation_fits_as seq most r told) requests

-- those that are chosen
abbrev pub chosen_of : Chosen → List Kept → List Entry → List Entry
chosen_of which kept requests = filter (λ r. is_chosen which kept r) requests

-- if it does, each request that is chosen is answered with why, by arrival
abbrev pub ExplainsChosen : ℕ → OutboxState → OutboxState → Chosen → Explanation → List Kept → Bool → Type 0
ExplainsChosen most old new which told kept fits =
    IsTrue fits → WritesWithin most old new (answer_where (λ r. is_chosen which kept r) (explained told) (entries kept))
