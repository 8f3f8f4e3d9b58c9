-- The answers to all requests at a disconnect, and to those that are parked at a start.
use Rattle.std.proofs.Common.{◌≡◌, ℕ, ◌+◌, ◌<◌, ◌≤◌, List, [], ◌∷◌, ◌++◌, Bool, true, false, None, refl, sym, ap, ◌∙◌, subst, arith, length, filter, length-append}
use Rattle.std.proofs.lemmas.List.{length-map}
use Rattle.std.specs.Prelude.{◌==◌, not}
use Rattle.dap_message.specs.Lengths.{max_fixed}
use Rattle.dap_body.specs.declared.failure.Failure.TheVariants.{Cancelled}
use Rattle.dap_tables.specs.Outstanding.{Kept, entries, contains_seq, is_parked, without, HasDistinctSeqs}
use Rattle.dap_tables.specs.declared.entry.Entry.{Entry}
use Rattle.dap_debuggee.specs.Shown.{Reply}
use Rattle.dap_outbox.specs.Waiting.{starting_ones, not_starting_ones, is_starting_in}
use Rattle.dap_plan.specs.Handling.{answer_each, answer_parked, by_reply_each, fits_explained_each, start_phase, after_disconnect, after_parked_launch}
use Rattle.dap_tables.specs.References.{without_references}
use Rattle.dap_decision.specs.declared.phase.Phase.TheVariants.{Ended}
use Rattle.dap_plan.specs.declared.fault.AdapterFault.{AdapterFault}
use Rattle.dap_plan.specs.declared.fault.AdapterFault.TheVariants.{SeqExhausted}
use Rattle.dap_plan.specs.SessionState.{SessionState, MadeBy, IsRefusedFor}
use Rattle.dap_plan.specs.Plan.{Plan, messages_due}
use Rattle.dap_outbox.specs.Draft.{Answer, Draft, failure, plain_success, reply}
use Rattle.dap_plan.specs.Session.{Session}
use Rattle.dap_plan.specs.Taking.{after_terminal}
use Rattle.dap_outbox.specs.Several.{answer_where, chosen_of, explanations_fit, WritesAll, WritesWithin}
use Rattle.dap_outbox.specs.declared.several.Chosen.TheVariants.{Starting}
use Rattle.dap_outbox.specs.Outbox.{OutboxState, Holds, AppendsDraft, explanation_fits_as}
use Rattle.dap_debuggee.specs.declared.explanation.Explanation.{Explanation}
use Rattle.dap_plan.proofs.Rows.{length-each}
use Rattle.dap_session.proofs.SeveralAnswers.{answers-kept, others-kept, length-without, answers-starting, count-starting, all-starting, starting-without}

-- how many messages a disconnect takes
pub messages_due-after_disconnect : (s : Session) (r : Entry) → HasDistinctSeqs s.kept → contains_seq r.seq s.kept ≡ true → length (after_disconnect s r).drafts ≡ length s.kept
messages_due-after_disconnect s r d h =
    let others = without r.seq s.kept in
    let all = length-append (answer_each (failure Cancelled) others) (reply r plain_success ∷ []) in
    let each = length-each (failure Cancelled) others in
    let one = length-without r.seq s.kept d h in
    omega arith

count-answers : (passes : Entry → Bool) (answer : Answer) (rs : List Entry) → length (answer_where passes answer rs) ≡ length (filter passes rs)
count-answers passes answer rs = length-map (filter passes rs) (λ (r : Entry). reply r answer)

-- those but one
room-after_disconnect : (seq : ℕ) (kept : List Kept) → HasDistinctSeqs kept → contains_seq seq kept ≡ true → length (filter (λ (r : Entry). not (r.seq == seq)) (entries kept)) + 1 ≡ length kept
room-after_disconnect seq kept d h = let e = others-kept seq kept in let one = length-without seq kept d h in omega arith

pub room-first : (seq : ℕ) (kept : List Kept) (fresh : OutboxState) (limit used last : ℕ) → HasDistinctSeqs kept → contains_seq seq kept ≡ true → Holds fresh limit used [] → fresh.numbers.last ≡ last → used + length kept ≤ last → fresh.numbers.used + length (filter (λ (r : Entry). not (r.seq == seq)) (entries kept)) ≤ fresh.numbers.last
room-first seq kept fresh limit used last d c h l room = let others = room-after_disconnect seq kept d c in let count = h.count in omega arith

pub room-last : (seq : ℕ) (kept : List Kept) (fresh mid : OutboxState) (limit used last : ℕ) → HasDistinctSeqs kept → contains_seq seq kept ≡ true → Holds fresh limit used [] → fresh.numbers.last ≡ last → used + length kept ≤ last → WritesAll fresh mid (answer_where (λ r. not (r.seq == seq)) (failure Cancelled) (entries kept)) → mid.numbers.used < mid.numbers.last
room-last seq kept fresh mid limit used last d c h l room w =
    let others = room-after_disconnect seq kept d c in
    let drafts = count-answers (λ (r : Entry). not (r.seq == seq)) (failure Cancelled) (entries kept) in
    let count = (w.holds limit used [] h).count in
    let same = w.last in
    omega arith

pub holds-after_disconnect : (s : Session) (r : Entry) (fresh mid last : OutboxState) (limit : ℕ) → Holds fresh limit s.used [] → WritesAll fresh mid (answer_where (λ q. not (q.seq == r.seq)) (failure Cancelled) (entries s.kept)) → AppendsDraft max_fixed mid last (reply r plain_success) → Holds last limit s.used (after_disconnect s r).drafts
holds-after_disconnect s r fresh mid last limit h w v =
    let so_far : Holds mid limit s.used (answer_each (failure Cancelled) (without r.seq s.kept)) = subst (λ (ds : List Draft). Holds mid limit s.used ds) (answers-kept r.seq (failure Cancelled) s.kept) (w.holds limit s.used [] h) in
    v.holds limit s.used (answer_each (failure Cancelled) (without r.seq s.kept)) so_far.room so_far

-- how many a start takes that is waited for
pub messages_due-started : (s : Session) (r : Entry) (last : Reply) → is_parked r.seq s.kept ≡ false → length (after_parked_launch s r last).drafts ≡ 1 + length (starting_ones s.kept)
messages_due-started s r last h =
    let parked = starting_ones (without r.seq s.kept) in
    let each = length-each (by_reply_each s parked last) parked in
    let same = ap (λ (ks : List Kept). length ks) (starting-without r.seq s.kept h) in
    omega arith

-- those that are parked

pub room-starting : (kept : List Kept) (used last : ℕ) → HasDistinctSeqs kept → used + length (starting_ones kept) ≤ last → used + length (filter (λ (x : Entry). is_starting_in kept x) (entries kept)) ≤ last
room-starting kept used last d room = let others = count-starting kept d in omega arith

pub within-alike : (s : Session) (answer : Answer) (old new : OutboxState) → HasDistinctSeqs s.kept → WritesAll old new (answer_where (λ r. is_starting_in s.kept r) answer (entries s.kept)) → WritesWithin s.limits.body old new (answer_each answer (starting_ones s.kept))
within-alike s answer old new d w =
    record { last = w.last; holds = λ limit used before fits h. subst (λ (ds : List Draft). Holds new limit used (before ++ ds)) (answers-starting answer s.kept d) (w.holds limit used before h) }

pub within-explained : (s : Session) (most : ℕ) (answer : Answer) (old new : OutboxState) → most ≡ s.limits.body → HasDistinctSeqs s.kept → WritesWithin most old new (answer_where (λ r. is_starting_in s.kept r) answer (entries s.kept)) → WritesWithin s.limits.body old new (answer_each answer (starting_ones s.kept))
within-explained s most answer old new is d w =
    record { last = w.last; holds = λ limit used before fits h. subst (λ (ds : List Draft). Holds new limit used (before ++ ds)) (answers-starting answer s.kept d) (w.holds limit used before (omega arith) h) }

pub fits-starting : (s : Session) (seq most : ℕ) (told : Explanation) → seq ≡ s.limits.seq → most ≡ s.limits.body → HasDistinctSeqs s.kept → explanations_fit seq most told (chosen_of Starting s.kept (entries s.kept)) ≡ fits_explained_each s (starting_ones s.kept) told
fits-starting s seq most told n m d = all-starting (λ (r : Entry). explanation_fits_as seq most r told) s.kept d ∙ rw (n, m) refl

pub room-started : (s : Session) (r : Entry) (one : OutboxState) (limit : ℕ) → Holds one limit s.used (reply r plain_success ∷ []) → one.numbers.last ≡ s.limits.seq → s.used + (1 + length (starting_ones s.kept)) ≤ s.limits.seq → one.numbers.used + length (starting_ones s.kept) ≤ one.numbers.last
room-started s r one limit h l room = let count = h.count in omega arith

pub holds-started : (s : Session) (r : Entry) (last : Reply) (one all : OutboxState) → is_parked r.seq s.kept ≡ false → Holds one s.limits.body s.used (reply r plain_success ∷ []) → WritesWithin s.limits.body one all (answer_parked s (starting_ones s.kept) last) → Holds all s.limits.body s.used (after_parked_launch s r last).drafts
holds-started s r last one all h o w =
    subst (λ (ks : List Kept). Holds all s.limits.body s.used (reply r plain_success ∷ answer_parked s ks last)) (sym (starting-without r.seq s.kept h)) (w.holds s.limits.body s.used (reply r plain_success ∷ []) (omega arith) o)

pub count-started : (s : Session) (r : Entry) (last : Reply) → length (after_parked_launch s r last).drafts ≡ 1 + length (starting_ones (without r.seq s.kept))
count-started s r last =
    let parked = starting_ones (without r.seq s.kept) in
    let each = length-each (by_reply_each s parked last) parked in omega arith

-- how many an answer of the terminal takes
pub count-terminal : (s : Session) (last : Reply) → length (after_terminal s last).drafts ≡ length (starting_ones s.kept)
count-terminal s last = length-each (by_reply_each s (starting_ones s.kept) last) (starting_ones s.kept)

pub room-terminal : (s : Session) (fresh : OutboxState) (limit : ℕ) → Holds fresh limit s.used [] → fresh.numbers.last ≡ s.limits.seq → s.used + length (starting_ones s.kept) ≤ s.limits.seq → fresh.numbers.used + length (starting_ones s.kept) ≤ fresh.numbers.last
room-terminal s fresh limit h l room = let count = h.count in omega arith

pub holds-terminal : (s : Session) (last : Reply) (fresh all : OutboxState) → Holds fresh s.limits.body s.used [] → WritesWithin s.limits.body fresh all (answer_parked s (starting_ones s.kept) last) → Holds all s.limits.body s.used (after_terminal s last).drafts
holds-terminal s last fresh all o w = w.holds s.limits.body s.used [] (omega arith) o

-- ---- more messages than own numbers

pub refused-for : {D : Type 0} (fault : AdapterFault) (plan : Plan) (old : SessionState D) (n : ℕ) → fault ≡ SeqExhausted → old.session.limits.seq < old.session.used + n → messages_due plan ≡ n → IsRefusedFor fault plan old old
refused-for fault plan old n e h d = rw (e, d) (h, refl)

-- ---- what the session is then

count-disconnected : (s : Session) (r : Entry) → length (after_disconnect s r).drafts ≡ length (without r.seq s.kept) + 1
count-disconnected s r = length-append (answer_each (failure Cancelled) (without r.seq s.kept)) (reply r plain_success ∷ []) ∙ ap (λ (n : ℕ). n + 1) (length-each (failure Cancelled) (without r.seq s.kept))

pub disconnect-made : (s : Session) (r : Entry) (outbox : OutboxState) (new : Session) (bytes : List ℕ) → Holds outbox s.limits.body s.used (after_disconnect s r).drafts
    → new ≡ record s { phase = Ended; kept = []; references = without_references s.references; used = outbox.numbers.used } → bytes ≡ outbox.bytes → MadeBy (after_disconnect s r) s new bytes
disconnect-made s r outbox new bytes h n b =
    record {
      session = n ∙ ap (λ (u : ℕ). let x : Session = record s { phase = Ended; kept = []; references = without_references s.references; used = u } in x) (h.count ∙ ap (λ (k : ℕ). s.used + k) (count-disconnected s r));
      tells = record { bytes_are = b ∙ h.bytes; reads_back = h.reads_back };
    }

pub terminal-made : (s : Session) (last : Reply) (outbox : OutboxState) (new : Session) (bytes : List ℕ) → Holds outbox s.limits.body s.used (after_terminal s last).drafts
    → new ≡ record s { phase = start_phase last; kept = not_starting_ones s.kept; asked = None; used = outbox.numbers.used } → bytes ≡ outbox.bytes → MadeBy (after_terminal s last) s new bytes
terminal-made s last outbox new bytes h n b =
    record {
      session = n ∙ ap (λ (u : ℕ). let x : Session = record s { phase = start_phase last; kept = not_starting_ones s.kept; asked = None; used = u } in x) (h.count ∙ ap (λ (k : ℕ). s.used + k) (count-terminal s last));
      tells = record { bytes_are = b ∙ h.bytes; reads_back = h.reads_back };
    }
