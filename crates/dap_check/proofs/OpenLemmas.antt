-- The requests that nothing has answered, one line later; and that they are those that wait.
use Rattle.std.proofs.Common.{◌≡◌, ℕ, ◌==◌, List, [], ◌∷◌, ◌++◌, Bool, true, false, refl, sym, ap, ◌∙◌, arith}
use Rattle.std.specs.Prelude.{not, ◌&&◌, ◌||◌, cond, if◌then◌else◌, bytes_eq, filter}
use Rattle.std.specs.List.{list_any}
use Rattle.std.proofs.lemmas.Bool.Decides.{nat_tests}
use Rattle.std.proofs.lemmas.List.{append_assoc, append-nil}
use Rattle.std.proofs.lemmas.List.Elements.{filter-append}
use Rattle.std.proofs.lemmas.List.Folds.{list_any-append}
use Rattle.dap_envelope.specs.declared.message.Kind.{Kind}
use Rattle.dap_envelope.specs.declared.message.Kind.TheVariants.{Request, Response, Event, Other}
use Rattle.dap_check.specs.Findings.{request_at, request_of, is_answered, open_requests, is_open_as}
use Rattle.dap_check.specs.Lines.{other_side, asks_as, asks_for, answers}
use Rattle.dap_check.specs.Kept.{is_any_there, is_for, kept_at, open_at, AreWaiting, ArePending, pending_of, waiting_after}
use Rattle.dap_check.specs.Rules.{waits, waits_for}
use Rattle.dap_check.specs.SinceLaws.{any_push}
use Rattle.dap_check.specs.declared.line.Line.{Line}
use Rattle.dap_check.specs.declared.line.Side.{Side}
use Rattle.dap_check.specs.declared.line.Side.TheVariants.{Client, Adapter}
use Rattle.dap_check.specs.declared.pending.Pending.{Pending}
use Rattle.dap_check.specs.declared.rule.OpenRequest.{OpenRequest}
use Rattle.dap_check.specs.declared.waiting.Waiting.{Waiting}

abbrev line_at : ℕ → Side → ℕ → Kind → Line
line_at number at seq kind = record { number = number; side = at; message = record { seq = seq; kind = kind } }

-- ---- tests

abbrev none : {X : Type 0} → List X
none = []

none_left : {X : Type 0} (b c : Bool) → cond b none none ≡ cond c none (none {X = X})
none_left true true = refl
none_left true false = refl
none_left false true = refl
none_left false false = refl

filter_if : {X : Type 0} (p : X → Bool) (b : Bool) (xs : List X) → filter p (cond b [] xs) ≡ cond b [] (filter p xs)
filter_if p true xs = refl
filter_if p false xs = refl

-- where something is left, two numbers are one
same_if : {X : Type 0} (b : Bool) (m n : ℕ) (a : ℕ → Bool) (xs : List X) → (b ≡ true → m ≡ n) → cond (a m) [] (cond b xs []) ≡ cond (a n) [] (cond b xs [])
same_if true m n a xs e = ap (λ k. cond (a k) [] xs) (e refl)
same_if false m n a xs e = none_left (a m) (a n)

is_same : (m n : ℕ) → (m == n) ≡ true → m ≡ n
is_same m n e = grind (arith, nat_tests)

or_if : {X : Type 0} (b c : Bool) (xs : List X) → cond (c || b) [] xs ≡ cond b [] (cond c [] xs)
or_if true true xs = refl
or_if true false xs = refl
or_if false true xs = refl
or_if false false xs = refl

both_if : {X : Type 0} (b : Bool) (xs ys zs : List X) → cond b [] xs ++ (cond b [] ys ++ zs) ≡ cond b [] (xs ++ ys) ++ zs
both_if true xs ys zs = refl
both_if false xs ys zs = sym (append_assoc xs ys zs)

-- ---- of one line

-- what it asks under this number
abbrev asked_in : Side → ℕ → Line → List OpenRequest
asked_in side n line = filter (is_open_as side n) (request_of line)

-- if no line since answers it
abbrev left_in : Side → ℕ → Line → List Line → List OpenRequest
left_in side n line since = if is_answered side n since then [] else asked_in side n line

left_as : (side at : Side) (number seq n : ℕ) (kind : Kind) (since : List Line)
    → cond (is_answered at seq since) [] (asked_in side n (line_at number at seq kind)) ≡ cond (is_answered side n since) [] (asked_in side n (line_at number at seq kind))
left_as Client Client number seq n (Request command arguments) since = same_if (seq == n) seq n (λ k. is_answered Client k since) (request_at number Client seq (Request command arguments)) (is_same seq n)
left_as Adapter Adapter number seq n (Request command arguments) since = same_if (seq == n) seq n (λ k. is_answered Adapter k since) (request_at number Adapter seq (Request command arguments)) (is_same seq n)
left_as Client Adapter number seq n (Request command arguments) since = none_left (is_answered Adapter seq since) (is_answered Client n since)
left_as Adapter Client number seq n (Request command arguments) since = none_left (is_answered Client seq since) (is_answered Adapter n since)
left_as side at number seq n (Response request_seq success command message body) since = none_left (is_answered at seq since) (is_answered side n since)
left_as side at number seq n (Event event body) since = none_left (is_answered at seq since) (is_answered side n since)
left_as side at number seq n (Other tag) since = none_left (is_answered at seq since) (is_answered side n since)

open_step : (side : Side) (n : ℕ) (line : Line) (since : List Line) → open_at side n (line ∷ since) ≡ left_in side n line since ++ open_at side n since
open_step side n line since =
    filter-append (is_open_as side n) (cond (is_answered line.side line.message.seq since) [] (request_of line)) (open_requests since)
    ∙ ap (λ z. z ++ open_at side n since) (filter_if (is_open_as side n) (is_answered line.side line.message.seq since) (request_of line))
    ∙ ap (λ z. z ++ open_at side n since) (left_as side line.side line.number line.message.seq n line.message.kind since)

-- ---- one line later

left_push : (side : Side) (n : ℕ) (line : Line) (since : List Line) (last : Line) → left_in side n line (since ++ last ∷ []) ≡ cond (answers (other_side side) n last) [] (left_in side n line since)
left_push side n line since last =
    ap (λ b. cond b [] (asked_in side n line)) (any_push (answers (other_side side) n) since last)
    ∙ or_if (answers (other_side side) n last) (is_answered side n since) (asked_in side n line)

pub open_push : (side : Side) (n : ℕ) (lines : List Line) (last : Line) → open_at side n (lines ++ last ∷ []) ≡ waiting_after side last n (open_at side n lines)
open_push side n [] last = open_step side n last [] ∙ append-nil (asked_in side n last) ∙ ap (λ z. z ++ asked_in side n last) (none_left false (answers (other_side side) n last))
open_push side n (line ∷ lines) last =
    open_step side n line (lines ++ last ∷ [])
    ∙ ap (λ z. left_in side n line (lines ++ last ∷ []) ++ z) (open_push side n lines last)
    ∙ ap (λ z. z ++ waiting_after side last n (open_at side n lines)) (left_push side n line lines last)
    ∙ both_if (answers (other_side side) n last) (left_in side n line lines) (open_at side n lines) (asked_in side n last)
    ∙ ap (λ z. cond (answers (other_side side) n last) [] z ++ asked_in side n last) (sym (open_step side n line lines))

pub still_waiting : (old new : Waiting) (side : Side) (line : Line) (earlier : List Line) → AreWaiting old side earlier → ((n : ℕ) → kept_at new n ≡ waiting_after side line n (kept_at old n)) → AreWaiting new side (earlier ++ line ∷ [])
still_waiting old new side line earlier is changed = record { kept = λ n. changed n ∙ ap (waiting_after side line n) (is.kept n) ∙ sym (open_push side n earlier line) }

-- ---- they are those that wait

there_append : (xs ys : List OpenRequest) → is_any_there (xs ++ ys) ≡ (is_any_there xs || is_any_there ys)
there_append [] ys = refl
there_append (x ∷ xs) ys = refl

there_if : (b c : Bool) (xs : List OpenRequest) → is_any_there xs ≡ c → is_any_there (cond b [] xs) ≡ (c && not b)
there_if true true xs e = refl
there_if true false xs e = refl
there_if false true xs e = e
there_if false false xs e = e

there_one : (b : Bool) (x : OpenRequest) → is_any_there (cond b (x ∷ []) []) ≡ b
there_one true x = refl
there_one false x = refl

there_asked : (side at : Side) (number seq n : ℕ) (kind : Kind) → is_any_there (asked_in side n (line_at number at seq kind)) ≡ asks_as side n (line_at number at seq kind)
there_asked Client Client number seq n (Request command arguments) = there_one (seq == n) (record { line = number; side = Client; seq = seq; command = command })
there_asked Adapter Adapter number seq n (Request command arguments) = there_one (seq == n) (record { line = number; side = Adapter; seq = seq; command = command })
there_asked Client Adapter number seq n (Request command arguments) = refl
there_asked Adapter Client number seq n (Request command arguments) = refl
there_asked Client Client number seq n _ = refl
there_asked Client Adapter number seq n _ = refl
there_asked Adapter Client number seq n _ = refl
there_asked Adapter Adapter number seq n _ = refl

pub waits_there : (side : Side) (n : ℕ) (lines : List Line) → is_any_there (open_at side n lines) ≡ waits side n lines
waits_there side n [] = refl
waits_there side n (line ∷ since) =
    ap is_any_there (open_step side n line since)
    ∙ there_append (left_in side n line since) (open_at side n since)
    ∙ ap (λ b. b || is_any_there (open_at side n since)) (there_if (is_answered side n since) (asks_as side n line) (asked_in side n line) (there_asked side line.side line.number line.message.seq n line.message.kind))
    ∙ ap (λ b. (asks_as side n line && not (is_answered side n since)) || b) (waits_there side n since)

for_if : (p : OpenRequest → Bool) (b c : Bool) (xs : List OpenRequest) → list_any p xs ≡ c → list_any p (cond b [] xs) ≡ (c && not b)
for_if p true true xs e = refl
for_if p true false xs e = refl
for_if p false true xs e = e
for_if p false false xs e = e

for_one : (p : OpenRequest → Bool) (b c : Bool) (x : OpenRequest) → p x ≡ c → list_any p (cond b (x ∷ []) []) ≡ (c && b)
for_one p true true x e = ap (λ z. z || false) e
for_one p true false x e = ap (λ z. z || false) e
for_one p false true x e = refl
for_one p false false x e = refl

for_asked : (side at : Side) (number seq n : ℕ) (name : List ℕ) (kind : Kind) → list_any (is_for name) (asked_in side n (line_at number at seq kind)) ≡ asks_for side n name (line_at number at seq kind)
for_asked Client Client number seq n name (Request command arguments) = for_one (is_for name) (seq == n) (bytes_eq command name) (record { line = number; side = Client; seq = seq; command = command }) refl
for_asked Adapter Adapter number seq n name (Request command arguments) = for_one (is_for name) (seq == n) (bytes_eq command name) (record { line = number; side = Adapter; seq = seq; command = command }) refl
for_asked Client Adapter number seq n name (Request command arguments) = refl
for_asked Adapter Client number seq n name (Request command arguments) = refl
for_asked Client Client number seq n name _ = refl
for_asked Client Adapter number seq n name _ = refl
for_asked Adapter Client number seq n name _ = refl
for_asked Adapter Adapter number seq n name _ = refl

pub waits_for_there : (side : Side) (n : ℕ) (name : List ℕ) (lines : List Line) → list_any (is_for name) (open_at side n lines) ≡ waits_for side n name lines
waits_for_there side n name [] = refl
waits_for_there side n name (line ∷ since) =
    ap (list_any (is_for name)) (open_step side n line since)
    ∙ list_any-append (is_for name) (left_in side n line since) (open_at side n since)
    ∙ ap (λ b. b || list_any (is_for name) (open_at side n since))
    (for_if (is_for name) (is_answered side n since) (asks_for side n name line) (asked_in side n line) (for_asked side line.side line.number line.message.seq n name line.message.kind))
    ∙ ap (λ b. (asks_for side n name line && not (is_answered side n since)) || b) (waits_for_there side n name since)

-- ---- of both sides

waiting_of : (pending : Pending) (side : Side) (earlier : List Line) → ArePending pending earlier → AreWaiting (pending_of pending side) side earlier
waiting_of pending Client earlier is = is.client
waiting_of pending Adapter earlier is = is.adapter

pub has_as : (pending : Pending) (side : Side) (n : ℕ) (earlier : List Line) → ArePending pending earlier → is_any_there (kept_at (pending_of pending side) n) ≡ waits side n earlier
has_as pending side n earlier is = let kept = (waiting_of pending side earlier is).kept in ap is_any_there (kept n) ∙ waits_there side n earlier

pub has_for_as : (pending : Pending) (side : Side) (n : ℕ) (name : List ℕ) (earlier : List Line) → ArePending pending earlier → list_any (is_for name) (kept_at (pending_of pending side) n) ≡ waits_for side n name earlier
has_for_as pending side n name earlier is = let kept = (waiting_of pending side earlier is).kept in ap (list_any (is_for name)) (kept n) ∙ waits_for_there side n name earlier
