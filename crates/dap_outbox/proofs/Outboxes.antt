-- A message more on an outbox, and that a client reads it.
use Rattle.std.proofs.Common.{◌≡◌, ℕ, ◌+◌, ◌<◌, ◌≤◌, List, [], ◌∷◌, ◌++◌, true, false, Option, Some, None, length, take, drop, decimal, refl, sym, ap, ◌∙◌, subst, append_assoc, arith, length-append}
use Rattle.std.specs.List.{AllByRecursion}
use Rattle.std.proofs.Math.Seq.{take-append_seam, drop-append_seam}
use Rattle.std.proofs.lemmas.List.{append-nil, drop-append-le}
use Rattle.dap_json.specs.Field.{max_seq}
use Rattle.dap_frame.specs.Written.{frame_of}
use Rattle.dap_body.specs.Body.{data_in}
use Rattle.json.specs.Print.{escape_byte}
use Rattle.serde_json.specs.Data.{Data, object}
use Rattle.std.specs.Fmt.{digits}
use Rattle.std.proofs.lemmas.Fmt.{length-decimal-le}
use Rattle.dap_envelope.specs.Canon.{canon, tree_of, members_of, request_members}
use Rattle.dap_call.specs.Terminal.{run_in_terminal, terminal_members}
use Rattle.dap_message.proofs.Sizes.{length-compact_text}
use Rattle.dap_message.specs.MessageParts.{failure_response, success_response, has_fixed_shape, AdapterEvent, output, stopped, without_more}
use Rattle.dap_message.specs.Lengths.{max_fixed, FailuresAreShort, FixedResponsesAreShort, event_fits, event_within}
use Rattle.dap_envelope.specs.Meaning.{Msg}
use Rattle.dap_envelope.specs.ReadBack.{ReadsBack, AllReadBack}
use Rattle.dap_envelope.specs.Refusals.{max_command}
use Rattle.dap_body.specs.declared.failure.Failure.{Failure}
use Rattle.dap_envelope.specs.declared.message.Message.{Message}
use Rattle.dap_tables.specs.declared.entry.Entry.{Entry}
use Rattle.dap_tables.specs.Seq.{Numbers}
use Rattle.dap_outbox.specs.InRange.{IsRequestInRange, IsDraftInRange}
use Rattle.dap_outbox.specs.Draft.{Draft, ask, message_of, numbered_messages, bytes_of}
use Rattle.dap_outbox.specs.Outbox.{OutboxState, AppendsDraft, state_of, shape_of}
use Rattle.dap_outbox.specs.declared.answer.Fixed.{Fixed}
use Rattle.dap_outbox.specs.declared.answer.Fixed.TheVariants.{Continue}

numbered_messages-append : (used : ℕ) (ds : List Draft) (d : Draft) → numbered_messages used (ds ++ d ∷ []) ≡ numbered_messages used ds ++ message_of (used + length ds + 1) d ∷ []
numbered_messages-append used [] d = let e : used + 0 ≡ used = omega arith in rw e refl
numbered_messages-append used (x ∷ ds) d =
    let e : (used + 1) + length ds + 1 ≡ used + length (x ∷ ds) + 1 = omega arith in
    ap (λ (ms : List Message). message_of (used + 1) x ∷ ms) (numbered_messages-append (used + 1) ds d ∙ ap (λ n. numbered_messages (used + 1) ds ++ message_of n d ∷ []) e)

bytes_of-append : (ms : List Message) (m : Message) → bytes_of (ms ++ m ∷ []) ≡ bytes_of ms ++ frame_of (canon m)
bytes_of-append [] m = append-nil (frame_of (canon m))
bytes_of-append (x ∷ ms) m = ap (λ (bs : List ℕ). frame_of (canon x) ++ bs) (bytes_of-append ms m) ∙ sym (append_assoc (frame_of (canon x)) (bytes_of ms) (frame_of (canon m)))

-- ---- messages that are read again

reads-more : (a b : ℕ) (m : Message) → a ≤ b → ReadsBack a m → ReadsBack b m
reads-more a b m h r = let short = r.fits in record { fits = omega arith; reads = r.reads }

-- a text that was measured
pub reads-text : (most : ℕ) (m : Message) → length (canon m) ≤ most → Msg (canon m) m → ReadsBack most m
reads-text most m short r = record { fits = short; reads = r }

-- a failure, which is short
pub reads-failure : FailuresAreShort → (seq : ℕ) (r : Entry) (f : Failure)
    → (seq ≤ max_seq → r.seq ≤ max_seq → length r.command ≤ max_command → Msg (canon (failure_response seq r.seq r.command f)) (failure_response seq r.seq r.command f)) → seq ≤ max_seq → IsRequestInRange r → ReadsBack max_fixed (failure_response seq r.seq r.command f)
reads-failure short seq r f reads s i = record { fits = short seq r.seq r.command f s i.seq i.command; reads = reads s i.seq i.command }

-- a success with a body of a fixed shape
is-fixed : (fixed : Option Fixed) → has_fixed_shape (shape_of fixed) ≡ true
is-fixed None = refl
is-fixed (Some Continue) = refl

pub reads-success : FixedResponsesAreShort → (seq : ℕ) (r : Entry) (fixed : Option Fixed)
    → (seq ≤ max_seq → r.seq ≤ max_seq → length r.command ≤ max_command → Msg (canon (success_response seq r.seq r.command (data_in (shape_of fixed)))) (success_response seq r.seq r.command (data_in (shape_of fixed)))) → seq ≤ max_seq → IsRequestInRange r → ReadsBack max_fixed (success_response seq r.seq r.command (data_in (shape_of fixed)))
reads-success short seq r fixed reads s i =
    record { fits = short seq r.seq r.command (shape_of fixed) (is-fixed fixed) s i.seq i.command; reads = reads s i.seq i.command }

-- a success of which it is known how long it may become
pub reads-within : (most seq : ℕ) (r : Entry) (body : Option Data) → (seq ≤ max_seq → IsRequestInRange r → length (canon (success_response seq r.seq r.command body)) ≤ most)
    → (seq ≤ max_seq → r.seq ≤ max_seq → length r.command ≤ max_command → Msg (canon (success_response seq r.seq r.command body)) (success_response seq r.seq r.command body)) → seq ≤ max_seq → IsRequestInRange r → ReadsBack most (success_response seq r.seq r.command body)
reads-within most seq r body short reads s i = record { fits = short s i; reads = reads s i.seq i.command }

-- the request for a terminal, which is short too
ask-short : (seq : ℕ) → seq ≤ max_seq → length (canon (message_of seq ask)) ≤ max_fixed
unfolding canon tree_of request_members terminal_members escape_byte digits
ask-short seq s =
    let number : length (decimal seq) ≤ 16 = length-decimal-le 16 seq (omega arith) (omega arith) (omega arith) in
    let all = length-compact_text (object (members_of seq (message_of seq ask).kind)) in
    omega arith

pub reads-asked : (seq : ℕ) → (seq ≤ max_seq → length run_in_terminal ≤ max_command → Msg (canon (message_of seq ask)) (message_of seq ask)) → seq ≤ max_seq → ReadsBack max_fixed (message_of seq ask)
reads-asked seq reads s = record { fits = ask-short seq s; reads = reads s (omega arith) }

-- ---- all of a list

all-more : {A : Type 0} (P : A → Type 0) (xs : List A) (x : A) → AllByRecursion P xs → P x → AllByRecursion P (xs ++ x ∷ [])
all-more P [] x a p = (p, tt)
all-more P (y ∷ ys) x a p = (a.0, all-more P ys x a.1 p)

all-front : {A : Type 0} (P : A → Type 0) (xs ys : List A) → AllByRecursion P (xs ++ ys) → AllByRecursion P xs
all-front P [] ys a = tt
all-front P (x ∷ xs) ys a = (a.0, all-front P xs ys a.1)

all-last : {A : Type 0} (P : A → Type 0) (xs : List A) (x : A) → AllByRecursion P (xs ++ x ∷ []) → P x
all-last P [] x a = a.0
all-last P (y ∷ ys) x a = all-last P ys x a.1

-- ---- an outbox

pub writes-one : (most : ℕ) (old new : OutboxState) (d : Draft) → new.bytes ≡ old.bytes ++ frame_of (canon (message_of (old.numbers.used + 1) d)) → new.numbers.used ≡ old.numbers.used + 1 → new.numbers.last ≡ old.numbers.last
    → old.numbers.used < old.numbers.last → (old.numbers.used + 1 ≤ max_seq → IsDraftInRange d → ReadsBack most (message_of (old.numbers.used + 1) d)) → AppendsDraft most old new d
writes-one most old new d b u l left reads =
    record {
      last = l;
      given = u;
      holds =
          λ limit used ds fits h.
          let count = length-append ds (d ∷ []) in
          let so_far = h.count in
          let in_range = h.in_range in
          let at : old.numbers.used + 1 ≡ used + length ds + 1 = omega arith in
          let small : old.numbers.used + 1 ≤ max_seq = omega arith in
          record {
            bytes = b ∙ (rw (h.bytes, at) (sym (bytes_of-append (numbered_messages used ds) (message_of (used + length ds + 1) d)) ∙ ap bytes_of (sym (numbered_messages-append used ds d))));
            count = omega arith;
            in_range = omega arith;
            room = h.room;
            reads_back =
                λ answers.
                let one = reads-more most limit _ fits (reads small (all-last IsDraftInRange ds d answers)) in
                let here = subst (λ n. ReadsBack limit (message_of n d)) at one in
                subst (λ (ms : List Message). AllReadBack limit ms) (sym (numbered_messages-append used ds d))
                (all-more (ReadsBack limit) (numbered_messages used ds) (message_of (used + length ds + 1) d) (h.reads_back (all-front IsDraftInRange ds (d ∷ []) answers)) here);
          };
    }

-- the same of the buffer, and of how many bytes it had before
pub writes-behind : (most start : ℕ) (items after : List ℕ) (now : OutboxState) (old new : Numbers) (d : Draft) → state_of start items old ≡ now → start ≤ length items → after ≡ items ++ frame_of (canon (message_of (now.numbers.used + 1) d)) → new.used ≡ now.numbers.used + 1 → new.last ≡ now.numbers.last
    → now.numbers.used < now.numbers.last → (now.numbers.used + 1 ≤ max_seq → IsDraftInRange d → ReadsBack most (message_of (now.numbers.used + 1) d)) → AppendsDraft most now (state_of start after new) d
writes-behind most start items after now old new d e h is u l left reads =
    writes-one most now (state_of start after new) d
    (ap (λ (xs : List ℕ). drop start xs) is ∙ (drop-append-le start items _ h ∙ ap (λ (x : OutboxState). x.bytes ++ frame_of (canon (message_of (now.numbers.used + 1) d))) e))
    u l left reads

-- a text behind what a buffer had, and its frame
pub framed : (items text after body : List ℕ) (end : ℕ) → end ≡ length items → text ≡ items ++ body → after ≡ take end text ++ frame_of (drop end text) → after ≡ items ++ frame_of body
framed items text after body end is t e =
    let front : take end text ≡ items = ap (λ n. take n text) is ∙ (ap (λ xs. take (length items) xs) t ∙ take-append_seam items body) in
    let rest : drop end text ≡ body = ap (λ n. drop n text) is ∙ (ap (λ xs. drop (length items) xs) t ∙ drop-append_seam items body) in
    e ∙ (ap (λ xs. xs ++ frame_of (drop end text)) front ∙ ap (λ xs. items ++ frame_of xs) rest)

-- ---- an event with what is said beside it

pub fits-within : (most seq : ℕ) (event : AdapterEvent) → event_fits most seq event ≡ true → event_within most seq event ≡ event
fits-within most seq (output category text more) h = rw h refl
fits-within most seq (stopped reason thread more) h = rw h refl
fits-within most seq _ h = refl

pub long-within : (most seq : ℕ) (event : AdapterEvent) → event_fits most seq event ≡ false → event_within most seq event ≡ without_more event
long-within most seq (output category text more) h = rw h refl
long-within most seq (stopped reason thread more) h = rw h refl
long-within most seq _ h = refl
