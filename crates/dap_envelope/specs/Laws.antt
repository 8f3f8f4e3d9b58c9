-- What holds of the definitions alone.
use Rattle.std.specs.Prelude.{◌≡◌, List, ℕ, ◌⊎◌, IsTrue}
use Rattle.dap_envelope.specs.Refusals.{Bad}
use Rattle.dap_envelope.specs.Meaning.{Msg}
use Rattle.dap_envelope.specs.Plain.{is_plain}
use Rattle.dap_envelope.specs.SoundMessage.{IsSoundMessage}
use Rattle.dap_envelope.specs.Canon.{canon}
use Rattle.dap_envelope.specs.declared.message.Message.{Message}
use Rattle.dap_envelope.specs.declared.fault.BodyRefusal.{BodyRefusal}

-- one message, and no refusal
pub record IsOneMessage (body : List ℕ) : Type 0 where
  pub message : Message
  pub is : Msg body message
  pub no_other : (m : Message) → Msg body m → m ≡ message
  pub no_refusal : (r : BodyRefusal) → ¬ Bad body r

-- one refusal, and no message
pub record IsOneRefusal (body : List ℕ) : Type 0 where
  pub refusal : BodyRefusal
  pub is : Bad body refusal
  pub no_other : (r : BodyRefusal) → Bad body r → r ≡ refusal
  pub no_message : (m : Message) → ¬ Msg body m

abbrev pub EachBodyIsOne : Type 0
EachBodyIsOne = (body : List ℕ) → IsOneMessage body ⊎ IsOneRefusal body

abbrev pub WrittenIsReadAgain : Type 0
WrittenIsReadAgain = (m : Message) → IsTrue (is_plain m) → IsSoundMessage m → Msg (canon m) m

abbrev pub ReadIsSound : Type 0
ReadIsSound = (body : List ℕ) (m : Message) → Msg body m → IsSoundMessage m
