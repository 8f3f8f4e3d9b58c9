-- A line without what no rule looks at is judged as the whole line, and tells the same of later lines.
use Rattle.std.proofs.Common.{◌≡◌, ℕ, ◌+◌, List, [], ◌∷◌, ◌++◌, Bool, true, false, Option, Some, None, codes, refl, sym, ap, ◌∙◌, subst}
use Rattle.std.specs.Prelude.{◌&&◌, ◌||◌, cond, count_by, option_map, bytes_eq, filter, find}
use Rattle.std.specs.BTreeSet as sorted
use Rattle.std.specs.List.{list_any}
use Rattle.std.specs.Ordering.{nat_cmp}
use Rattle.std.proofs.lemmas.List.Sums.{sum_by_push}
use Rattle.serde_json.specs.Data.{Data, null}
use Rattle.dap_command.specs.Command.{command_named}
use Rattle.dap_command.specs.GivenReferences.{frames_of, holders_of, as_frames, as_holders}
use Rattle.dap_command.specs.Gathered.{AreGivenBy}
use Rattle.dap_command.specs.Objects.{given_objects}
use Rattle.dap_envelope.specs.ResponseReferences.{or_null, AreGivenIn}
use Rattle.dap_command.specs.declared.gathering.GatheredReferences.{GatheredReferences}
use Rattle.dap_command.specs.declared.capabilities.Capabilities.{Capabilities}
use Rattle.dap_command.specs.declared.command.Command.{Command}
use Rattle.dap_command.specs.declared.command.Command.TheVariants as command
use Rattle.dap_envelope.specs.declared.message.Kind.{Kind}
use Rattle.dap_envelope.specs.declared.message.Kind.TheVariants.{Request, Response, Event, Other}
use Rattle.dap_check.specs.PrivateBare.{is_looked_at, bare_kind, bare_line, IsReadAs, gathered_frames_for, gathered_frames, gathered_holders_for, gathered_holders, gathers_frame, gathers_holder}
use Rattle.dap_check.specs.Kept.{AreCounts, ArePending, ArePhases, AreReferences, reference_after, IsFirst, Begins, AreWaiting, open_at, waiting_after, IsOffered, offer_after, IsSeen}
use Rattle.dap_check.specs.Findings.{is_open_as, request_of}
use Rattle.dap_check.specs.Legal.{all_rules, least_broken}
use Rattle.dap_check.specs.Lines.{other_side, is_among, is_of, asks, answers, succeeds}
use Rattle.dap_check.specs.Rules.{frames_for, initialize, disconnect, offered_since, frames_of_kind, holders_of_kind, holders_for, contains_number, gives_frame, gives_holder, resumes, naming_frames, naming_holders, is_broken}
use Rattle.dap_check.specs.Since.{first_since, last_since, Past}
use Rattle.dap_check.specs.declared.line.Form.{Form}
use Rattle.dap_check.specs.declared.line.Form.TheVariants.{Whole, Bare}
use Rattle.dap_check.specs.declared.line.Line.{Line}
use Rattle.dap_check.specs.declared.line.Side.{Side}
use Rattle.dap_check.specs.declared.line.Side.TheVariants.{Client, Adapter}
use Rattle.dap_check.specs.declared.first.First.{First}
use Rattle.dap_check.specs.declared.offer.Offer.{Offer}
use Rattle.dap_check.specs.declared.rule.AnySeq.{AnySeq}
use Rattle.dap_check.specs.declared.rule.Rule.{Rule}
use Rattle.dap_check.specs.declared.rule.Rule.TheVariants.{Seq, Reference}
use Rattle.dap_check.specs.declared.references.References.{References}
use Rattle.dap_check.specs.declared.seen.Seen.{Seen}
use Rattle.dap_check.specs.declared.waiting.Waiting.{Waiting}
use Rattle.dap_check.proofs.OpenLemmas.{open_push}
use Rattle.dap_check.proofs.OfferLemmas.{one_later}
use Rattle.dap_check.proofs.ReferenceLemmas.{referenced_later}
use Rattle.dap_check.specs.SinceLaws.{any_push, first_push, first_later, last_push}

abbrev line_at : ℕ → Side → ℕ → Kind → Line
line_at number side seq kind = record { number = number; side = side; message = record { seq = seq; kind = kind } }

find_alike : {X : Type 0} (p q : X → Bool) → ((x : X) → p x ≡ q x) → (xs : List X) → find p xs ≡ find q xs
find_alike p q e [] = refl
find_alike p q e (x ∷ xs) = ap (λ b. cond b (Some x) (find p xs)) (e x) ∙ ap (λ o. cond (q x) (Some x) o) (find_alike p q e xs)

-- ---- it is judged alike

neither : (a b x y : Bool) → (a || b) ≡ false → ((a && false) || (b && false)) ≡ ((a && x) || (b && y))
neither true b x y e = absurd (cc e)
neither false true x y e = absurd (cc e)
neither false false x y e = refl

and_alike : (a b c : Bool) → b ≡ c → (a && b) ≡ (a && c)
and_alike a b c e = ap (λ z. a && z) e

judged_alike : (any_seq : AnySeq) (rule : Rule) (earlier : List Line) (number : ℕ) (side : Side) (seq : ℕ) (kind : Kind) → is_looked_at kind ≡ false
    → is_broken any_seq rule earlier (line_at number side seq (bare_kind kind)) ≡ is_broken any_seq rule earlier (line_at number side seq kind)
judged_alike any_seq Seq earlier number side seq kind unseen = refl
judged_alike any_seq Reference earlier number side seq (Request c arguments) unseen = and_alike (is_of Client (line_at number side seq (Request c arguments))) _ _ (neither (is_among naming_frames c) (is_among naming_holders c) _ _ unseen)
judged_alike any_seq _ earlier number side seq (Request c arguments) unseen = refl
judged_alike any_seq _ earlier number side seq (Response request_seq success c message body) unseen = refl
judged_alike any_seq _ earlier number side seq (Event event body) unseen = refl
judged_alike any_seq _ earlier number side seq (Other tag) unseen = refl

-- ---- what it gives

frames_of_null : (x : Command) → frames_of x null ≡ []
frames_of_null command.StackTrace = refl
frames_of_null _ = refl

frames_told_of : (given : GatheredReferences) (found : Option Command) (body : Option Data) → AreGivenBy given (or_null body) → gathered_frames_for found given ≡ frames_for found body
frames_told_of given None body are = refl
frames_told_of given (Some x) None are = ap (as_frames (given_objects x)) (are.each (given_objects x)) ∙ frames_of_null x
frames_told_of given (Some x) (Some d) are = ap (as_frames (given_objects x)) (are.each (given_objects x))

frames_alike : (given : GatheredReferences) (kind : Kind) → AreGivenIn given kind → gathered_frames given (bare_kind kind) ≡ frames_of_kind kind
frames_alike given (Request c arguments) are = refl
frames_alike given (Response request_seq success c message body) are = ap (λ frames. cond success frames []) (frames_told_of given (command_named c) body are)
frames_alike given (Event event body) are = refl
frames_alike given (Other tag) are = refl

holders_of_null : (x : Command) → holders_of x null ≡ []
holders_of_null command.Scopes = refl
holders_of_null command.Variables = refl
holders_of_null command.Evaluate = refl
holders_of_null command.SetVariable = refl
holders_of_null _ = refl

holders_told_of : (given : GatheredReferences) (found : Option Command) (body : Option Data) → AreGivenBy given (or_null body) → gathered_holders_for found given ≡ holders_for found body
holders_told_of given None body are = refl
holders_told_of given (Some x) None are = ap (as_holders (given_objects x)) (are.each (given_objects x)) ∙ holders_of_null x
holders_told_of given (Some x) (Some d) are = ap (as_holders (given_objects x)) (are.each (given_objects x))

holders_alike : (given : GatheredReferences) (kind : Kind) → AreGivenIn given kind → gathered_holders given (bare_kind kind) ≡ holders_of_kind kind
holders_alike given (Request c arguments) are = refl
holders_alike given (Response request_seq success c message body) are = ap (λ holders. cond success holders []) (holders_told_of given (command_named c) body are)
holders_alike given (Event event body) are = refl
holders_alike given (Other tag) are = refl

-- ---- it says the same

module _ (number : ℕ) (side : Side) (seq : ℕ) where
  abbrev bare : Kind → Line
  bare kind = line_at number side seq (bare_kind kind)

  abbrev whole : Kind → Line
  whole kind = line_at number side seq kind

  abbrev Alike : (Line → Bool) → Kind → Type 0
  Alike test kind = test (bare kind) ≡ test (whole kind)

  asks_alike : (s : Side) (kind : Kind) → Alike (asks s) kind
  asks_alike s kind = elim kind as (λ k. Alike (asks s) k) [ Request c a ↦ refl | Response n b c m d ↦ refl | Event e d ↦ refl | Other t ↦ refl ]

  request_alike : (kind : Kind) → request_of (bare kind) ≡ request_of (whole kind)
  request_alike kind = elim kind as (λ k. request_of (bare k) ≡ request_of (whole k)) [ Request c a ↦ refl | Response m b c r d ↦ refl | Event e d ↦ refl | Other t ↦ refl ]

  answers_alike : (s : Side) (n : ℕ) (kind : Kind) → Alike (answers s n) kind
  answers_alike s n kind = elim kind as (λ k. Alike (answers s n) k) [ Request c a ↦ refl | Response m b c r d ↦ refl | Event e d ↦ refl | Other t ↦ refl ]

  succeeds_alike : (names : List (List ℕ)) (kind : Kind) → Alike (succeeds names) kind
  succeeds_alike names kind = elim kind as (λ k. Alike (succeeds names) k) [ Request c a ↦ refl | Response m b c r d ↦ refl | Event e d ↦ refl | Other t ↦ refl ]

  resumes_alike : (kind : Kind) → Alike resumes kind
  resumes_alike kind = elim kind as (λ k. Alike resumes k) [ Request c a ↦ refl | Response m b c r d ↦ refl | Event e d ↦ refl | Other t ↦ refl ]

  frame_alike : (n : ℕ) (given : GatheredReferences) (kind : Kind) → AreGivenIn given kind → gathers_frame n given (bare kind) ≡ gives_frame n (whole kind)
  frame_alike n given kind are = ap (λ frames. is_of Adapter (whole kind) && contains_number n frames) (frames_alike given kind are)

  holder_alike : (n : ℕ) (given : GatheredReferences) (kind : Kind) → AreGivenIn given kind → gathers_holder n given (bare kind) ≡ gives_holder n (whole kind)
  holder_alike n given kind are = ap (λ holders. is_of Adapter (whole kind) && contains_number n holders) (holders_alike given kind are)

-- what is offered after it
answered_false : (success initialize_it rest : Bool) → (success && (initialize_it || rest)) ≡ false → (success && (initialize_it || false)) ≡ false
answered_false true true rest e = absurd (cc e)
answered_false true false rest e = refl
answered_false false initialize_it rest e = refl

response_offers : (number seq request_seq : ℕ) (success : Bool) (c : List ℕ) (m : Option (List ℕ)) (d : Option Data) (b : Bool) (o : Option Capabilities) → b ≡ false
    → offer_after b (line_at number Adapter seq (Response request_seq success c None None)) o ≡ offer_after b (line_at number Adapter seq (Response request_seq success c m d)) o
response_offers number seq request_seq success c m d true o e = absurd (cc e)
response_offers number seq request_seq success c m d false None e = refl
response_offers number seq request_seq success c m d false (Some x) e = refl

not_told : (b : Bool) (u v x : Capabilities) → b ≡ false → cond b u x ≡ cond b v x
not_told true u v x e = absurd (cc e)
not_told false u v x e = refl

offer_alike : (number : ℕ) (side : Side) (seq : ℕ) (kind : Kind) (o : Option Capabilities) → is_looked_at kind ≡ false
    → offer_after (succeeds initialize (line_at number side seq (bare_kind kind))) (line_at number side seq (bare_kind kind)) o ≡ offer_after (succeeds initialize (line_at number side seq kind)) (line_at number side seq kind) o
offer_alike number Client seq kind None unseen = refl
offer_alike number Client seq kind (Some x) unseen = refl
offer_alike number Adapter seq (Request c arguments) None unseen = refl
offer_alike number Adapter seq (Request c arguments) (Some x) unseen = refl
offer_alike number Adapter seq (Response request_seq success c m d) o unseen =
    response_offers number seq request_seq success c m d (success && (bytes_eq c (codes "initialize") || false)) o (answered_false success (bytes_eq c (codes "initialize")) _ unseen)
offer_alike number Adapter seq (Event event d) None unseen = refl
offer_alike number Adapter seq (Event event d) (Some x) unseen =
    ap Some (not_told (is_among (codes "capabilities" ∷ []) event) x _ x unseen)
offer_alike number Adapter seq (Other tag) None unseen = refl
offer_alike number Adapter seq (Other tag) (Some x) unseen = refl

-- ---- one line later

module _ (earlier : List Line) (x y : Line) where
  any_alike : (p : Line → Bool) → p x ≡ p y → list_any p (earlier ++ x ∷ []) ≡ list_any p (earlier ++ y ∷ [])
  any_alike p e = any_push p earlier x ∙ ap (λ b. list_any p earlier || b) e ∙ sym (any_push p earlier y)

  count_alike : (p : Line → Bool) → p x ≡ p y → count_by p (earlier ++ x ∷ []) ≡ count_by p (earlier ++ y ∷ [])
  count_alike p e = sum_by_push (λ z. cond (p z) 1 0) earlier x ∙ ap (λ b. count_by p earlier + cond b 1 0) e ∙ sym (sum_by_push (λ z. cond (p z) 1 0) earlier y)

first_none : (first : First) (b : Bool) (number : ℕ) (side : Side) (seq : ℕ) (kind : Kind)
    → IsFirst first (cond b (Some (record { line = line_at number side seq (bare_kind kind); since = [] })) None) → IsFirst first (cond b (Some (record { line = line_at number side seq kind; since = [] })) None)
first_none first true number side seq kind is = is
first_none first false number side seq kind is = is

first_alike : (first : First) (number : ℕ) (side : Side) (seq : ℕ) (kind : Kind) (past : Option (Past Line))
    → IsFirst first (first_later (asks Client) (line_at number side seq (bare_kind kind)) past) → IsFirst first (first_later (asks Client) (line_at number side seq kind) past)
first_alike first number side seq kind None is =
    subst (λ b. IsFirst first (cond b (Some (record { line = line_at number side seq kind; since = [] })) None)) (asks_alike number side seq Client kind)
    (first_none first (asks Client (line_at number side seq (bare_kind kind))) number side seq kind is)
first_alike first number side seq kind (Some past) is = (
  is.0,
  is.1 ∙ any_alike past.since (line_at number side seq (bare_kind kind)) (line_at number side seq kind) (answers Adapter past.line.message.seq) (answers_alike number side seq Adapter past.line.message.seq kind),
  is.2 ∙ any_alike past.since (line_at number side seq (bare_kind kind)) (line_at number side seq kind) (asks Client) (asks_alike number side seq Client kind),
)

module _ (earlier : List Line) (number : ℕ) (side : Side) (seq : ℕ) (kind : Kind) where
  abbrev bare_one : Line
  bare_one = line_at number side seq (bare_kind kind)

  abbrev whole_one : Line
  whole_one = line_at number side seq kind

  waits_alike : (waiting : Waiting) (s : Side) → AreWaiting waiting s (earlier ++ bare_one ∷ []) → AreWaiting waiting s (earlier ++ whole_one ∷ [])
  waits_alike waiting s is = record { kept = λ n. is.kept n ∙ open_push s n earlier bare_one ∙ same n ∙ sym (open_push s n earlier whole_one) }
    where
      same : (n : ℕ) → waiting_after s bare_one n (open_at s n earlier) ≡ waiting_after s whole_one n (open_at s n earlier)
      same n =
          ap (λ b. cond b [] (open_at s n earlier) ++ filter (is_open_as s n) (request_of bare_one)) (answers_alike number side seq (other_side s) n kind)
          ∙ ap (λ requests. cond (answers (other_side s) n whole_one) [] (open_at s n earlier) ++ filter (is_open_as s n) requests) (request_alike number side seq kind)

  begins_alike : (first : First) → Begins first (earlier ++ bare_one ∷ []) → Begins first (earlier ++ whole_one ∷ [])
  begins_alike first is =
      subst (IsFirst first) (sym (first_push (asks Client) earlier whole_one))
      (first_alike first number side seq kind (first_since (asks Client) earlier) (subst (IsFirst first) (first_push (asks Client) earlier bare_one) is))

  offered_alike : is_looked_at kind ≡ false → (offer : Offer) → IsOffered offer (earlier ++ bare_one ∷ []) → IsOffered offer (earlier ++ whole_one ∷ [])
  offered_alike unseen offer is = record { capabilities = is.capabilities ∙ step bare_one ∙ offer_alike number side seq kind (option_map offered_since (last_since (succeeds initialize) earlier)) unseen ∙ sym (step whole_one) }
    where
      step : (line : Line) → option_map offered_since (last_since (succeeds initialize) (earlier ++ line ∷ [])) ≡ offer_after (succeeds initialize line) line (option_map offered_since (last_since (succeeds initialize) earlier))
      step line = ap (option_map offered_since) (last_push (succeeds initialize) earlier line) ∙ one_later (succeeds initialize line) line (last_since (succeeds initialize) earlier)

  least_alike : is_looked_at kind ≡ false → (any_seq : AnySeq) → least_broken any_seq earlier bare_one ≡ least_broken any_seq earlier whole_one
  least_alike unseen any_seq = find_alike (λ rule. is_broken any_seq rule earlier bare_one) (λ rule. is_broken any_seq rule earlier whole_one) (λ rule. judged_alike any_seq rule earlier number side seq kind unseen) all_rules

-- ---- however it was read

pub least_as : (any_seq : AnySeq) (earlier : List Line) (form : Form) (given : GatheredReferences) (read real : Line) → IsReadAs form given read real → least_broken any_seq earlier read ≡ least_broken any_seq earlier real
least_as any_seq earlier Whole given read real is = ap (least_broken any_seq earlier) is
least_as any_seq earlier Bare given read real is = ap (least_broken any_seq earlier) is.0 ∙ least_alike earlier real.number real.side real.message.seq real.message.kind is.1 any_seq

pub number_as : (form : Form) (given : GatheredReferences) (read real : Line) → IsReadAs form given read real → read.number ≡ real.number
number_as Whole given read real is = ap (λ (l : Line). l.number) is
number_as Bare given read real is = ap (λ (l : Line). l.number) is.0

pub seen_as : (form : Form) (given : GatheredReferences) (earlier : List Line) (read real : Line) (seen : Seen) → IsReadAs form given read real
    → AreCounts seen.counts (earlier ++ read ∷ []) → ArePending seen.pending (earlier ++ read ∷ []) → Begins seen.first (earlier ++ read ∷ [])
    → ArePhases seen.phases (earlier ++ read ∷ []) → IsOffered seen.offer (earlier ++ read ∷ []) → AreReferences seen.references (earlier ++ real ∷ []) → IsSeen seen (earlier ++ real ∷ [])
seen_as Whole given earlier read real seen is counts pending first phases offer references = record {
  counts = subst (λ line. AreCounts seen.counts (earlier ++ line ∷ [])) is counts;
  pending = subst (λ line. ArePending seen.pending (earlier ++ line ∷ [])) is pending;
  first = subst (λ line. Begins seen.first (earlier ++ line ∷ [])) is first;
  phases = subst (λ line. ArePhases seen.phases (earlier ++ line ∷ [])) is phases;
  offer = subst (λ line. IsOffered seen.offer (earlier ++ line ∷ [])) is offer;
  references = references;
}
seen_as Bare given earlier read real seen is counts pending first phases offer references =
    let kind = real.message.kind in
    let one = bare_line real in
    let c = subst (λ line. AreCounts seen.counts (earlier ++ line ∷ [])) is.0 counts in
    let p = subst (λ line. ArePending seen.pending (earlier ++ line ∷ [])) is.0 pending in
    let f = subst (λ line. Begins seen.first (earlier ++ line ∷ [])) is.0 first in
    let h = subst (λ line. ArePhases seen.phases (earlier ++ line ∷ [])) is.0 phases in
    let o = subst (λ line. IsOffered seen.offer (earlier ++ line ∷ [])) is.0 offer in
    record {
      counts = record { client = c.client ∙ count_alike earlier one real (is_of Client) refl; adapter = c.adapter ∙ count_alike earlier one real (is_of Adapter) refl };
      pending = record {
        client = waits_alike earlier real.number real.side real.message.seq kind seen.pending.client Client p.client;
        adapter = waits_alike earlier real.number real.side real.message.seq kind seen.pending.adapter Adapter p.adapter;
      };
      first = begins_alike earlier real.number real.side real.message.seq kind seen.first f;
      phases = record {
        initialized = h.initialized ∙ any_alike earlier one real (succeeds initialize) (succeeds_alike real.number real.side real.message.seq initialize kind);
        ended = h.ended ∙ any_alike earlier one real (succeeds disconnect) (succeeds_alike real.number real.side real.message.seq disconnect kind);
      };
      offer = offered_alike earlier real.number real.side real.message.seq kind is.1 seen.offer o;
      references = references;
    }

-- ---- the references

module _ (old new : References) (line : Line) (earlier : List Line) (is : AreReferences old earlier) where
  pub references_whole : (real : Line) → line ≡ real
      → ((n : ℕ) → sorted.contains nat_cmp new.frames n ≡ reference_after (resumes line) (gives_frame n line) (sorted.contains nat_cmp old.frames n))
      → ((n : ℕ) → sorted.contains nat_cmp new.holders n ≡ reference_after (resumes line) (gives_holder n line) (sorted.contains nat_cmp old.holders n))
      → AreReferences new (earlier ++ real ∷ [])
  references_whole real e frames holders = subst (λ x. AreReferences new (earlier ++ x ∷ [])) e (referenced_later old new line earlier frames holders is)

  pub references_bare : (given : GatheredReferences) (real : Line) → IsReadAs Bare given line real
      → ((n : ℕ) → sorted.contains nat_cmp new.frames n ≡ reference_after (resumes line) (gathers_frame n given line) (sorted.contains nat_cmp old.frames n))
      → ((n : ℕ) → sorted.contains nat_cmp new.holders n ≡ reference_after (resumes line) (gathers_holder n given line) (sorted.contains nat_cmp old.holders n))
      → AreReferences new (earlier ++ real ∷ [])
  references_bare given real read frames holders = referenced_later old new real earlier (λ n. frames n ∙ frame n) (λ n. holders n ∙ holder n) is
    where
      goes : resumes line ≡ resumes real
      goes = ap resumes read.0 ∙ resumes_alike real.number real.side real.message.seq real.message.kind

      frame : (n : ℕ) → reference_after (resumes line) (gathers_frame n given line) (sorted.contains nat_cmp old.frames n) ≡ reference_after (resumes real) (gives_frame n real) (sorted.contains nat_cmp old.frames n)
      frame n =
          ap (λ b. reference_after b (gathers_frame n given line) (sorted.contains nat_cmp old.frames n)) goes
          ∙ ap (λ b. reference_after (resumes real) b (sorted.contains nat_cmp old.frames n)) (ap (gathers_frame n given) read.0 ∙ frame_alike real.number real.side real.message.seq n given real.message.kind read.2)

      holder : (n : ℕ) → reference_after (resumes line) (gathers_holder n given line) (sorted.contains nat_cmp old.holders n) ≡ reference_after (resumes real) (gives_holder n real) (sorted.contains nat_cmp old.holders n)
      holder n =
          ap (λ b. reference_after b (gathers_holder n given line) (sorted.contains nat_cmp old.holders n)) goes
          ∙ ap (λ b. reference_after (resumes real) b (sorted.contains nat_cmp old.holders n)) (ap (gathers_holder n given) read.0 ∙ holder_alike real.number real.side real.message.seq n given real.message.kind read.2)
