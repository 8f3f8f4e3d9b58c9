-- A failure with why the debuggee refused is no longer with a smaller own number.
use Rattle.std.proofs.Common.{◌≡◌, ℕ, zero, suc, ◌+◌, ◌/◌, ◌^◌, ◌<◌, ◌≤◌, nat_lt, length, decimal, Bool, true, false, refl, ap, ◌∙◌, arith, length-append}
use Rattle.std.proofs.lemmas.Bool.{leb-true, le-leb, ltb-true, ltb-false}
use Rattle.std.proofs.lemmas.Fmt.{decimal_nonempty, decimal_step, length-decimal-le}
use Rattle.json.specs.Print.{escape_byte}
use Rattle.serde_json.specs.Data.{object}
use Rattle.dap_json.specs.Field.{max_seq}
use Rattle.dap_debuggee.specs.declared.explanation.Explanation.{Explanation}
use Rattle.dap_envelope.specs.Canon.{canon, tree_of, members_of, response_members}
use Rattle.dap_message.proofs.Sizes.{length-compact_text}
use Rattle.dap_message.specs.MessageParts.{explained_response}
use Rattle.dap_tables.specs.declared.entry.Entry.{Entry}
use Rattle.dap_outbox.specs.Outbox.{explanation_fits_as}

-- a smaller number has no more digits
digits-if : (short : Bool) (a b : ℕ) → nat_lt a 10 ≡ short → a ≤ b → b < 2 ^ 64 → (10 ≤ a → length (decimal (a / 10)) ≤ length (decimal (b / 10))) → length (decimal a) ≤ length (decimal b)
digits-if true a b is h small rest =
    let one : a < 10 = ltb-true a 10 is in
    let short : length (decimal a) ≤ 1 = length-decimal-le 1 a (omega arith) (omega arith) (omega arith) in
    let some : 0 < length (decimal b) = decimal_nonempty b small in
    omega arith
digits-if false a b is h small rest =
    let more : 10 ≤ a = ltb-false a 10 is in
    let left : length (decimal a) ≡ length (decimal (a / 10)) + 1 = ap length (decimal_step a more (omega arith)) ∙ length-append (decimal (a / 10)) _ in
    let right : length (decimal b) ≡ length (decimal (b / 10)) + 1 = ap length (decimal_step b (omega arith) small) ∙ length-append (decimal (b / 10)) _ in
    let fewer = rest more in
    omega arith

digits-le : (k a b : ℕ) → a ≤ b → b < 10 ^ k → b < 2 ^ 64 → length (decimal a) ≤ length (decimal b)
digits-le zero a b h g small = let same : a ≡ b = omega arith in rw same (omega arith)
digits-le (suc k) a b h g small = digits-if (nat_lt a 10) a b refl h small (λ more. digits-le k (a / 10) (b / 10) (omega arith) (omega arith) (omega arith))

explained-size : (a b : ℕ) (r : Entry) (told : Explanation) → length (decimal a) ≤ length (decimal b) → length (canon (explained_response a r.seq r.command told.show_user told.text)) ≤ length (canon (explained_response b r.seq r.command told.show_user told.text))
unfolding canon tree_of response_members escape_byte
explained-size a b r told h =
    let one = length-compact_text (object (members_of a (explained_response a r.seq r.command told.show_user told.text).kind)) in
    let other = length-compact_text (object (members_of b (explained_response b r.seq r.command told.show_user told.text).kind)) in
    omega arith

pub fits-below : (a b most : ℕ) (r : Entry) (told : Explanation) → a ≤ b → b ≤ max_seq → explanation_fits_as b most r told ≡ true → explanation_fits_as a most r told ≡ true
fits-below a b most r told h small fits =
    let digits = digits-le 16 a b h (omega arith) (omega arith) in
    let shorter = explained-size a b r told digits in
    let within = leb-true (length (canon (explained_response b r.seq r.command told.show_user told.text))) most fits in
    le-leb (length (canon (explained_response a r.seq r.command told.show_user told.text))) most (omega arith)
