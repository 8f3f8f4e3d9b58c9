-- What an adapter wrote is listed as a line for each message.
use Rattle.std.proofs.Common.{◌≡◌, ℕ, List, [], ◌∷◌, ◌++◌, refl, sym, ap, ◌∙◌, append_assoc, append-nil}
use Rattle.dap_frame.specs.Written.{frame_of}
use Rattle.dap_envelope.specs.Canon.{canon}
use Rattle.dap_envelope.specs.declared.message.Message.{Message}
use Rattle.dap_outbox.specs.Draft.{bytes_of}
use Rattle.dap_line.specs.Written.{marked_line, message_lines}

-- what of the messages is still to be listed, once their bytes are these
pub record Left (outs : List Message) (before now rest : List ℕ) : Type 0 where
  pub later : List Message
  pub are : rest ≡ bytes_of later
  pub listed : now ++ message_lines later ≡ before ++ message_lines outs

abbrev pub Lists : List ℕ → List ℕ → List ℕ → List ℕ → Type 0
Lists bytes before now rest = (outs : List Message) → bytes ≡ bytes_of outs → Left outs before now rest

pub none_listed : (bytes before : List ℕ) → Lists bytes before before bytes
none_listed bytes before outs are = record { later = outs; are = are; listed = refl }

module _ (bytes before now rest : List ℕ) where
  module _ (outs : List Message) (later body : List ℕ) (none : rest ≡ [] → ⊥) (first : (x more : List ℕ) → rest ≡ frame_of x ++ more → (body ≡ x) × (later ≡ more)) where
    one_more : (left : List Message) → rest ≡ bytes_of left → now ++ message_lines left ≡ before ++ message_lines outs → Left outs before (now ++ marked_line body) later
    one_more [] are listed = absurd (none are)
    one_more (m ∷ ms) are listed =
        let found = first (canon m) (bytes_of ms) are in
        record {
          later = ms;
          are = found.1;
          listed = append_assoc now (marked_line body) (message_lines ms) ∙ ap (λ (z : List ℕ). now ++ (marked_line z ++ message_lines ms)) found.0 ∙ listed;
        }

  pub one_listed : (later body : List ℕ) → (rest ≡ [] → ⊥) → ((x more : List ℕ) → rest ≡ frame_of x ++ more → (body ≡ x) × (later ≡ more)) → Lists bytes before now rest → Lists bytes before (now ++ marked_line body) later
  one_listed later body none first lists outs are =
      let so = lists outs are in
      one_more outs later body none first so.later so.are so.listed

  nothing_left : (outs left : List Message) → ((x more : List ℕ) → rest ≡ frame_of x ++ more → ⊥) → rest ≡ bytes_of left → now ++ message_lines left ≡ before ++ message_lines outs → now ≡ before ++ message_lines outs
  nothing_left outs [] none are listed = sym (append-nil now) ∙ listed
  nothing_left outs (m ∷ ms) none are listed = absurd (none (canon m) (bytes_of ms) are)

  pub all_listed : ((x more : List ℕ) → rest ≡ frame_of x ++ more → ⊥) → Lists bytes before now rest → (outs : List Message) → bytes ≡ bytes_of outs → now ≡ before ++ message_lines outs
  all_listed none lists outs are =
      let so = lists outs are in
      nothing_left outs so.later none so.are so.listed
