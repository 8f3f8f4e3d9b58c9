-- What is listed, by places.
use Rattle.std.proofs.Common.{◌≡◌, ℕ, inl, inr, List, [], ◌∷◌, ◌++◌, Bool, true, false, Option, Some, None, refl, sym, ap, ◌∙◌, subst, arith}
use Rattle.std.specs.Prelude.{◌&&◌, ◌||◌, cond, filter}
use Rattle.std.specs.List.{list_any, Contains}
use Rattle.std.proofs.lemmas.List.Elements.{Contains-append_left, Contains-append_right, Contains-append_cases, Contains-push, Contains-push_cases}
use Rattle.std.proofs.lemmas.List.{append_assoc, append-nil}
use Rattle.dap_envelope.specs.declared.message.Kind.{Kind}
use Rattle.dap_envelope.specs.declared.message.Kind.TheVariants.{Request, Response, Event, Other}
use Rattle.dap_check.specs.FindingLaws.{IsFindingIn, FindingsAreBrokenRules, IsUnansweredIn, OpenRequestsAreUnanswered, OpenRequestsWait}
use Rattle.dap_check.specs.Findings.{finding_at, findings_after, findings, request_at, request_of, is_answered, open_requests, is_open_as}
use Rattle.dap_check.specs.Legal.{least_broken}
use Rattle.dap_check.specs.Kept.{is_any_there, is_for}
use Rattle.dap_check.specs.declared.line.Line.{Line}
use Rattle.dap_check.specs.declared.line.Side.{Side}
use Rattle.dap_check.specs.declared.rule.AnySeq.{AnySeq}
use Rattle.dap_check.specs.declared.rule.Finding.{Finding}
use Rattle.dap_check.specs.declared.rule.OpenRequest.{OpenRequest}
use Rattle.dap_check.specs.declared.rule.Rule.{Rule}
use Rattle.dap_check.proofs.FindingLemmas.{findings_append}
use Rattle.dap_check.proofs.OpenLemmas.{waits_there, waits_for_there}

none : {X : Type 0} (x : X) → Contains [] x → ⊥
none x h = absurd (omega (arith, h.1))

only : {X : Type 0} (x y : X) → Contains (x ∷ []) y → x ≡ y
only x y h = elim (Contains-push_cases [] x y h) [ inl wrong ↦ absurd (none y wrong) | inr e ↦ e ]

-- ---- findings

record IsPlaced (any_seq : AnySeq) (earlier lines : List Line) (finding : Finding) : Type 0 where
  before : List Line
  line : Line
  later : List Line
  split : lines ≡ before ++ line ∷ later
  numbered : finding.line ≡ line.number
  broken : least_broken any_seq (earlier ++ before) line ≡ Some finding.rule

found_one : (number : ℕ) (broken : Option Rule) (finding : Finding) → Contains (finding_at number broken) finding → (finding.line ≡ number) × (broken ≡ Some finding.rule)
found_one number None finding h = absurd (none finding h)
found_one number (Some rule) finding h =
    let e = only (record { line = number; rule = rule }) finding h in
    (sym (ap (λ (f : Finding). f.line) e), ap (λ (f : Finding). Some f.rule) e)

module _ (any_seq : AnySeq) where
  placed : (earlier lines : List Line) (finding : Finding) → Contains (findings_after any_seq earlier lines) finding → IsPlaced any_seq earlier lines finding
  placed earlier [] finding h = absurd (none finding h)
  placed earlier (line ∷ later) finding h = elim (Contains-append_cases (finding_at line.number (least_broken any_seq earlier line)) (findings_after any_seq (earlier ++ line ∷ []) later) finding h) [
    | inl here ↦
        let one = found_one line.number (least_broken any_seq earlier line) finding here in
        record { before = []; line = line; later = later; split = refl; numbered = one.0; broken = ap (λ z. least_broken any_seq z line) (append-nil earlier) ∙ one.1 }
    | inr there ↦
        let at = placed (earlier ++ line ∷ []) later finding there in
        record {
          before = line ∷ at.before;
          line = at.line;
          later = at.later;
          split = ap (λ z. line ∷ z) at.split;
          numbered = at.numbered;
          broken = ap (λ z. least_broken any_seq z at.line) (sym (append_assoc earlier (line ∷ []) at.before)) ∙ at.broken;
        }
  ]

  listed : (lines : List Line) (finding : Finding) → IsFindingIn any_seq lines finding → Contains (findings any_seq lines) finding
  listed lines finding at =
      let one : record { line = at.line.number; rule = finding.rule } ≡ finding = ap (λ (n : ℕ). record { line = n; rule = finding.rule }) (sym at.numbered) in
      let here : Contains (finding_at at.line.number (Some finding.rule)) finding = subst (λ (f : Finding). Contains (f ∷ []) finding) (sym one) (Contains-push [] finding) in
      let broken : Contains (finding_at at.line.number (least_broken any_seq at.earlier at.line)) finding = subst (λ o. Contains (finding_at at.line.number o) finding) (sym at.broken) here in
      let after = findings_after any_seq (at.earlier ++ at.line ∷ []) at.later in
      subst (λ xs. Contains xs finding) (sym (ap (findings any_seq) at.split ∙ findings_append any_seq [] at.earlier (at.line ∷ at.later)))
      (Contains-append_right (findings any_seq at.earlier) (finding_at at.line.number (least_broken any_seq at.earlier at.line) ++ after) finding
      (Contains-append_left (finding_at at.line.number (least_broken any_seq at.earlier at.line)) after finding broken))

pub findings_are_broken_rules : FindingsAreBrokenRules
findings_are_broken_rules any_seq lines finding = (
  λ h. let at = placed any_seq [] lines finding h in record { earlier = at.before; line = at.line; later = at.later; split = at.split; numbered = at.numbered; broken = at.broken },
  listed any_seq lines finding,
)

-- ---- unanswered requests

asked_one : (number : ℕ) (side : Side) (seq : ℕ) (kind : Kind) (request : OpenRequest) → Contains (request_at number side seq kind) request → request_at number side seq kind ≡ request ∷ []
asked_one number side seq (Request command arguments) request h = ap (λ x. x ∷ []) (only (record { line = number; side = side; seq = seq; command = command }) request h)
asked_one number side seq (Response request_seq success command message body) request h = absurd (none request h)
asked_one number side seq (Event event body) request h = absurd (none request h)
asked_one number side seq (Other tag) request h = absurd (none request h)

left_one : (b : Bool) (line : Line) (request : OpenRequest) → Contains (cond b [] (request_of line)) request → (b ≡ false) × (request_of line ≡ request ∷ [])
left_one true line request h = absurd (none request h)
left_one false line request h = (refl, asked_one line.number line.side line.message.seq line.message.kind request h)

unanswered : (lines : List Line) (request : OpenRequest) → Contains (open_requests lines) request → IsUnansweredIn lines request
unanswered [] request h = absurd (none request h)
unanswered (line ∷ since) request h = elim (Contains-append_cases (cond (is_answered line.side line.message.seq since) [] (request_of line)) (open_requests since) request h) [
  | inl here ↦ let one = left_one (is_answered line.side line.message.seq since) line request here in record { earlier = []; line = line; since = since; split = refl; asks = one.1; unanswered = one.0 }
  | inr there ↦ let at = unanswered since request there in record { earlier = line ∷ at.earlier; line = at.line; since = at.since; split = ap (λ z. line ∷ z) at.split; asks = at.asks; unanswered = at.unanswered }
]

open_there : (earlier : List Line) (line : Line) (since : List Line) (request : OpenRequest) → request_of line ≡ request ∷ [] → is_answered line.side line.message.seq since ≡ false → Contains (open_requests (earlier ++ line ∷ since)) request
open_there [] line since request asks left =
    Contains-append_left (cond (is_answered line.side line.message.seq since) [] (request_of line)) (open_requests since) request
    (subst (λ b. Contains (cond b [] (request_of line)) request) (sym left) (subst (λ xs. Contains xs request) (sym asks) (Contains-push [] request)))
open_there (x ∷ earlier) line since request asks left =
    Contains-append_right (cond (is_answered x.side x.message.seq (earlier ++ line ∷ since)) [] (request_of x)) (open_requests (earlier ++ line ∷ since)) request (open_there earlier line since request asks left)

pub open_requests_are_unanswered : OpenRequestsAreUnanswered
open_requests_are_unanswered lines request = (
  unanswered lines request,
  λ at. subst (λ xs. Contains (open_requests xs) request) (sym at.split) (open_there at.earlier at.line at.since request at.asks at.unanswered),
)

there_filtered : (p : OpenRequest → Bool) (requests : List OpenRequest) → is_any_there (filter p requests) ≡ list_any p requests
there_filtered p [] = refl
there_filtered p (x ∷ requests) = by (p x) (there_filtered p requests)
  where
    by : (b : Bool) → is_any_there (filter p requests) ≡ list_any p requests → is_any_there (cond b (x ∷ filter p requests) (filter p requests)) ≡ (b || list_any p requests)
    by true rest = refl
    by false rest = rest

for_filtered : (p q : OpenRequest → Bool) (requests : List OpenRequest) → list_any q (filter p requests) ≡ list_any (λ r. p r && q r) requests
for_filtered p q [] = refl
for_filtered p q (x ∷ requests) = by (p x) (for_filtered p q requests)
  where
    by : (b : Bool) → list_any q (filter p requests) ≡ list_any (λ r. p r && q r) requests → list_any q (cond b (x ∷ filter p requests) (filter p requests)) ≡ ((b && q x) || list_any (λ r. p r && q r) requests)
    by true rest = ap (λ z. q x || z) rest
    by false rest = rest

pub open_requests_wait : OpenRequestsWait
open_requests_wait = record {
  any = λ side n lines. sym (waits_there side n lines) ∙ there_filtered (is_open_as side n) (open_requests lines);
  each = λ side n name lines. sym (waits_for_there side n name lines) ∙ for_filtered (is_open_as side n) (is_for name) (open_requests lines);
}
