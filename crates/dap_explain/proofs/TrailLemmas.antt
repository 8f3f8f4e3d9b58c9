-- What is found of the lines that open and close, one line later.
use Rattle.std.proofs.Common.{◌≡◌, ℕ, ◌+◌, List, [], ◌∷◌, ◌++◌, Bool, true, false, Option, Some, None, refl, sym, ap, ◌∙◌, arith}
use Rattle.std.specs.Prelude.{count_by, cond, option_map, option_and_then}
use Rattle.std.proofs.lemmas.List.Sums.{sum_by_push}
use Rattle.dap_check.specs.Since.{first_since, last_since, Past}
use Rattle.dap_explain.specs.Reasons.{trail, opened_of, closing_line}
use Rattle.dap_explain.specs.KeptTrails.{closed_after, trail_after, opens_of, closes_of, trails}
use Rattle.dap_check.specs.declared.line.Line.{Line}
use Rattle.dap_check.specs.declared.line.Side.TheVariants.{Client, Adapter}
use Rattle.dap_explain.specs.declared.trail.Trail.{Trail}
use Rattle.dap_explain.specs.declared.trail.Trails.{Trails}
use Rattle.dap_explain.specs.declared.trail.Watch.TheVariants.{Of, ClientAsks, AsksToInitialize, Initializes, Disconnects}
use Rattle.dap_check.specs.SinceLaws.{first_push, first_later, last_push, last_later, with_later}

abbrev number_of : Past Line → ℕ
number_of past = past.line.number

first_number : (b : Bool) (line : Line) → option_map number_of (cond b (Some (record { line = line; since = [] })) None) ≡ cond b (Some line.number) None
first_number true line = refl
first_number false line = refl

closed_step : (closes : ℕ → Line → Bool) (line : Line) (past : Past Line) (found : Option (Past Line))
    → option_map number_of (first_later (closes past.line.message.seq) line found) ≡ closed_after closes line (Some (opened_of past)) (option_map number_of found)
closed_step closes line past None = first_number (closes past.line.message.seq line) line
closed_step closes line past (Some found) = refl

pub closed_push : (closes : ℕ → Line → Bool) (line : Line) (past : Past Line) → closing_line closes (with_later line past) ≡ closed_after closes line (Some (opened_of past)) (closing_line closes past)
closed_push closes line past = ap (option_map number_of) (first_push (closes past.line.message.seq) past.since line) ∙ closed_step closes line past (first_since (closes past.line.message.seq) past.since)

abbrev found_of : (ℕ → Line → Bool) → ℕ → Option (Past Line) → Trail
found_of closes n last = record { count = n; opened = option_map opened_of last; closed = option_and_then (closing_line closes) last }

trail_step : (closes : ℕ → Line → Bool) (line : Line) (b : Bool) (n : ℕ) (last : Option (Past Line))
    → found_of closes (cond b (n + 1) n) (last_later b line last)
    ≡ cond b (record { count = n + 1; opened = Some (record { line = line.number; seq = line.message.seq }); closed = None }) (record { count = n; opened = option_map opened_of last; closed = closed_after closes line (option_map opened_of last) (option_and_then (closing_line closes) last) })
trail_step closes line true n last = refl
trail_step closes line false n None = refl
trail_step closes line false n (Some past) = ap (λ closed. record { count = n; opened = Some (opened_of past); closed = closed }) (closed_push closes line past)

counted : (b : Bool) (n : ℕ) → n + cond b 1 0 ≡ cond b (n + 1) n
counted true n = refl
counted false n = omega arith

pub count_push : (p : Line → Bool) (xs : List Line) (y : Line) → count_by p (xs ++ y ∷ []) ≡ cond (p y) (count_by p xs + 1) (count_by p xs)
count_push p xs y = sum_by_push (λ x. cond (p x) 1 0) xs y ∙ counted (p y) (count_by p xs)

pub trail_push : (opens : Line → Bool) (closes : ℕ → Line → Bool) (earlier : List Line) (line : Line) → trail opens closes (earlier ++ line ∷ []) ≡ trail_after opens closes line (trail opens closes earlier)
trail_push opens closes earlier line =
    ap (λ n. found_of closes n (last_since opens (earlier ++ line ∷ []))) (count_push opens earlier line)
    ∙ ap (found_of closes (cond (opens line) (count_by opens earlier + 1) (count_by opens earlier))) (last_push opens earlier line)
    ∙ trail_step closes line (opens line) (count_by opens earlier) (last_since opens earlier)

same_trails : (new : Trails) (a b c d e f : Trail) → new.client ≡ a → new.adapter ≡ b → new.requests ≡ c → new.requests_to_initialize ≡ d → new.initialized ≡ e → new.disconnected ≡ f
    → new ≡ record { client = a; adapter = b; requests = c; requests_to_initialize = d; initialized = e; disconnected = f }
same_trails new a b c d e f ea eb ec ed ee ef =
    ap (λ x. record { client = x; adapter = new.adapter; requests = new.requests; requests_to_initialize = new.requests_to_initialize; initialized = new.initialized; disconnected = new.disconnected }) ea
    ∙ ap (λ x. record { client = a; adapter = x; requests = new.requests; requests_to_initialize = new.requests_to_initialize; initialized = new.initialized; disconnected = new.disconnected }) eb
    ∙ ap (λ x. record { client = a; adapter = b; requests = x; requests_to_initialize = new.requests_to_initialize; initialized = new.initialized; disconnected = new.disconnected }) ec
    ∙ ap (λ x. record { client = a; adapter = b; requests = c; requests_to_initialize = x; initialized = new.initialized; disconnected = new.disconnected }) ed
    ∙ ap (λ x. record { client = a; adapter = b; requests = c; requests_to_initialize = d; initialized = x; disconnected = new.disconnected }) ee
    ∙ ap (λ x. record { client = a; adapter = b; requests = c; requests_to_initialize = d; initialized = e; disconnected = x }) ef

-- the same of all that are kept
pub trails_push : (old new : Trails) (line : Line)
    → new.client ≡ trail_after (opens_of (Of Client)) (closes_of (Of Client)) line old.client
    → new.adapter ≡ trail_after (opens_of (Of Adapter)) (closes_of (Of Adapter)) line old.adapter
    → new.requests ≡ trail_after (opens_of ClientAsks) (closes_of ClientAsks) line old.requests
    → new.requests_to_initialize ≡ trail_after (opens_of AsksToInitialize) (closes_of AsksToInitialize) line old.requests_to_initialize
    → new.initialized ≡ trail_after (opens_of Initializes) (closes_of Initializes) line old.initialized
    → new.disconnected ≡ trail_after (opens_of Disconnects) (closes_of Disconnects) line old.disconnected
    → (earlier : List Line) → old ≡ trails earlier → new ≡ trails (earlier ++ line ∷ [])
trails_push old new line client adapter requests to_initialize initialized disconnected earlier is =
    let a = client ∙ ap (λ t. trail_after (opens_of (Of Client)) (closes_of (Of Client)) line t.client) is ∙ sym (trail_push (opens_of (Of Client)) (closes_of (Of Client)) earlier line) in
    let b = adapter ∙ ap (λ t. trail_after (opens_of (Of Adapter)) (closes_of (Of Adapter)) line t.adapter) is ∙ sym (trail_push (opens_of (Of Adapter)) (closes_of (Of Adapter)) earlier line) in
    let c = requests ∙ ap (λ t. trail_after (opens_of ClientAsks) (closes_of ClientAsks) line t.requests) is ∙ sym (trail_push (opens_of ClientAsks) (closes_of ClientAsks) earlier line) in
    let d = to_initialize ∙ ap (λ t. trail_after (opens_of AsksToInitialize) (closes_of AsksToInitialize) line t.requests_to_initialize) is ∙ sym (trail_push (opens_of AsksToInitialize) (closes_of AsksToInitialize) earlier line) in
    let e = initialized ∙ ap (λ t. trail_after (opens_of Initializes) (closes_of Initializes) line t.initialized) is ∙ sym (trail_push (opens_of Initializes) (closes_of Initializes) earlier line) in
    let f = disconnected ∙ ap (λ t. trail_after (opens_of Disconnects) (closes_of Disconnects) line t.disconnected) is ∙ sym (trail_push (opens_of Disconnects) (closes_of Disconnects) earlier line) in
    let all = trails (earlier ++ line ∷ []) in
    same_trails new all.client all.adapter all.requests all.requests_to_initialize all.initialized all.disconnected a b c d e f
