-- Answers to several kept requests on an outbox, one by one.
use Rattle.std.proofs.Common.{◌≡◌, ℕ, ◌+◌, ◌≤◌, List, [], ◌∷◌, ◌++◌, Bool, true, false, length, refl, sym, ap, ◌∙◌, subst, append_assoc, arith, filter}
use Rattle.std.specs.Prelude.{◌&&◌}
use Rattle.std.specs.List.{list_all}
use Rattle.std.proofs.lemmas.Bool.{and_parts}
use Rattle.std.proofs.lemmas.List.{append-nil}
use Rattle.dap_message.specs.Lengths.{max_fixed}
use Rattle.dap_tables.specs.declared.entry.Entry.{Entry}
use Rattle.dap_outbox.specs.Draft.{Answer, Draft, reply}
use Rattle.dap_outbox.specs.Outbox.{OutboxState, Holds, AppendsDraft}
use Rattle.dap_outbox.specs.Several.{answer_where, WritesAll, WritesWithin}

pub writes-none : (s : OutboxState) → WritesAll s s []
writes-none s = record { last = refl; holds = λ limit used before h. rw (append-nil before) h }

pub writes-then : (old mid new : OutboxState) (d : Draft) (ds : List Draft) → AppendsDraft max_fixed old mid d → WritesAll mid new ds → WritesAll old new (d ∷ ds)
writes-then old mid new d ds w v =
    record {
      last = v.last ∙ w.last;
      holds = λ limit used before h. subst (λ (xs : List Draft). Holds new limit used xs) (append_assoc before (d ∷ []) ds) (v.holds limit used (before ++ d ∷ []) (w.holds limit used before h.room h));
    }

pub some-pass : (passes : Entry → Bool) (r : Entry) (rest : List Entry) → passes r ≡ true → filter passes (r ∷ rest) ≡ r ∷ filter passes rest
some-pass passes r rest is = rw is refl

pub none-pass : (passes : Entry → Bool) (r : Entry) (rest : List Entry) → passes r ≡ false → filter passes (r ∷ rest) ≡ filter passes rest
none-pass passes r rest is = rw is refl

-- a request that is answered
pub goes-answered : (passes : Entry → Bool) (answer : Answer) (requests rest : List Entry) (r : Entry) (old mid final : OutboxState) → requests ≡ r ∷ rest → passes r ≡ true → AppendsDraft max_fixed old mid (reply r answer) → WritesAll mid final (answer_where passes answer rest) → WritesAll old final (answer_where passes answer requests)
goes-answered passes answer requests rest r old mid final e is w v = rw (e, some-pass passes r rest is) (writes-then old mid final (reply r answer) (answer_where passes answer rest) w v)

-- one that is not
pub goes-passed : (passes : Entry → Bool) (answer : Answer) (requests rest : List Entry) (r : Entry) (old final : OutboxState) → requests ≡ r ∷ rest → passes r ≡ false → WritesAll old final (answer_where passes answer rest) → WritesAll old final (answer_where passes answer requests)
goes-passed passes answer requests rest r old final e is v = rw (e, none-pass passes r rest is) v

pub room-answered : (passes : Entry → Bool) (used mid last : ℕ) (requests rest : List Entry) (r : Entry) → requests ≡ r ∷ rest → passes r ≡ true → mid ≡ used + 1 → used + length (filter passes requests) ≤ last → mid + length (filter passes rest) ≤ last
room-answered passes used mid last requests rest r e is m h =
    let all : filter passes requests ≡ r ∷ filter passes rest = rw e (some-pass passes r rest is) in
    let count = ap length all in
    omega arith

pub room-passed : (passes : Entry → Bool) (used last : ℕ) (requests rest : List Entry) (r : Entry) → requests ≡ r ∷ rest → passes r ≡ false → used + length (filter passes requests) ≤ last → used + length (filter passes rest) ≤ last
room-passed passes used last requests rest r e is h =
    let all : filter passes requests ≡ filter passes rest = rw e (none-pass passes r rest is) in
    let count = ap length all in
    omega arith

-- ---- with why the debuggee refused

pub within-none : (most : ℕ) (s : OutboxState) → WritesWithin most s s []
within-none most s = record { last = refl; holds = λ limit used before fits h. rw (append-nil before) h }

within-then : (most : ℕ) (old mid new : OutboxState) (d : Draft) (ds : List Draft) → AppendsDraft most old mid d → WritesWithin most mid new ds → WritesWithin most old new (d ∷ ds)
within-then most old mid new d ds w v =
    record {
      last = v.last ∙ w.last;
      holds = λ limit used before fits h. subst (λ (xs : List Draft). Holds new limit used xs) (append_assoc before (d ∷ []) ds) (v.holds limit used (before ++ d ∷ []) fits (w.holds limit used before fits h));
    }

pub goes-explained : (most : ℕ) (passes : Entry → Bool) (answer : Answer) (requests rest : List Entry) (r : Entry) (old mid final : OutboxState) → requests ≡ r ∷ rest → passes r ≡ true → AppendsDraft most old mid (reply r answer) → WritesWithin most mid final (answer_where passes answer rest) → WritesWithin most old final (answer_where passes answer requests)
goes-explained most passes answer requests rest r old mid final e is w v = rw (e, some-pass passes r rest is) (within-then most old mid final (reply r answer) (answer_where passes answer rest) w v)

pub goes-unexplained : (most : ℕ) (passes : Entry → Bool) (answer : Answer) (requests rest : List Entry) (r : Entry) (old final : OutboxState) → requests ≡ r ∷ rest → passes r ≡ false → WritesWithin most old final (answer_where passes answer rest) → WritesWithin most old final (answer_where passes answer requests)
goes-unexplained most passes answer requests rest r old final e is v = rw (e, none-pass passes r rest is) v

-- a test of each request that passes
pub all-passed : (passes : Entry → Bool) (test : Entry → Bool) (requests rest : List Entry) (r : Entry) → requests ≡ r ∷ rest → passes r ≡ false → list_all test (filter passes rest) ≡ list_all test (filter passes requests)
all-passed passes test requests rest r e is = rw (e, none-pass passes r rest is) refl

pub all-parts : (passes : Entry → Bool) (test : Entry → Bool) (requests rest : List Entry) (r : Entry) → requests ≡ r ∷ rest → passes r ≡ true → list_all test (filter passes requests) ≡ true → (test r ≡ true) × (list_all test (filter passes rest) ≡ true)
all-parts passes test requests rest r e is h =
    let all : (test r && list_all test (filter passes rest)) ≡ true = sym (rw (e, some-pass passes r rest is) refl) ∙ h in
    and_parts (test r) (list_all test (filter passes rest)) all
