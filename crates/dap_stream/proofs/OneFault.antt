-- One fault at most is told of lines, and none of bodies.
use Rattle.std.proofs.Common.{◌≡◌, ◌≢◌, ℕ, ◌+◌, ◌<◌, ◌==◌, ◌⊎◌, Bool, true, false, List, [], ◌∷◌, ◌++◌, length, Result, Ok, Err, refl, sym, ap, ◌∙◌, subst, arith, inl, inr}
use Rattle.std.specs.Prelude.{cond, not, All}
use Rattle.std.specs.Result.{IsErrAnd}
use Rattle.std.proofs.lemmas.Bool.Decides.{nat_tests}
use Rattle.std.proofs.lemmas.List.Elements.{All-head, All-tail}
use Rattle.dap_frame.specs.Settings.{Settings}
use Rattle.dap_envelope.specs.Laws.{EachBodyIsOne}
use Rattle.dap_envelope.specs.Meaning.{Msg}
use Rattle.dap_envelope.specs.Refusals.{Bad}
use Rattle.dap_envelope.specs.declared.fault.BodyRefusal.{BodyRefusal}
use Rattle.dap_envelope.specs.declared.message.Message.{Message}
use Rattle.dap_stream.specs.Wrapping.{bodies, IsBody, AreBodies, Refuses, FirstRefused}
use Rattle.dap_stream.specs.declared.wrapping.WrapFault.{WrapFault}
use Rattle.dap_stream.specs.declared.wrapping.WrapFault.TheVariants.{Body, BodyTooLong, OutOfMemory}

-- ---- lines among bodies

head_at : (P : List ℕ → Type 0) (b : Bool) (x : List ℕ) (ys : List (List ℕ)) → b ≡ false → All P (cond (not b) (x ∷ ys) ys) → P x
head_at P true x ys e all = absurd (cc e)
head_at P false x ys e all = All-head P x ys all

tail_at : (P : List ℕ → Type 0) (b : Bool) (x : List ℕ) (ys : List (List ℕ)) → All P (cond (not b) (x ∷ ys) ys) → All P ys
tail_at P true x ys all = all
tail_at P false x ys all = All-tail P x ys all

first_is : (limits : Settings) (text : List ℕ) (after : List (List ℕ)) → AreBodies limits (text ∷ after) → 0 < length text → IsBody limits text
first_is limits text after all some = let e : (length text == 0) ≡ false = grind (arith, nat_tests) in head_at (IsBody limits) (length text == 0) text (bodies after) e all

others_are : (limits : Settings) (text : List ℕ) (after : List (List ℕ)) → AreBodies limits (text ∷ after) → AreBodies limits after
others_are limits text after all = tail_at (IsBody limits) (length text == 0) text (bodies after) all

each_is : (limits : Settings) (before : List (List ℕ)) (text : List ℕ) (after : List (List ℕ)) → AreBodies limits (before ++ text ∷ after) → 0 < length text → IsBody limits text
each_is limits [] text after all some = first_is limits text after all some
each_is limits (x ∷ before) text after all some = each_is limits before text after (others_are limits x (before ++ text ∷ after) all) some

-- the first line that is no body stands at one place
one_place : (limits : Settings) (b1 b2 : List (List ℕ)) (t1 t2 : List ℕ) (a1 a2 : List (List ℕ)) → b1 ++ t1 ∷ a1 ≡ b2 ++ t2 ∷ a2 → AreBodies limits b1 → AreBodies limits b2 → 0 < length t1 → 0 < length t2
    → ¬ IsBody limits t1 → ¬ IsBody limits t2 → (length b1 ≡ length b2) × (t1 ≡ t2)
one_place limits [] [] t1 t2 a1 a2 e all1 all2 some1 some2 no1 no2 = (refl, cc)
one_place limits [] (y ∷ b2) t1 t2 a1 a2 e all1 all2 some1 some2 no1 no2 = let same : y ≡ t1 = cc in absurd (no1 (subst (IsBody limits) same (first_is limits y b2 all2 (subst (λ z. 0 < length z) (sym same) some1))))
one_place limits (x ∷ b1) [] t1 t2 a1 a2 e all1 all2 some1 some2 no1 no2 = let same : x ≡ t2 = cc in absurd (no2 (subst (IsBody limits) same (first_is limits x b1 all1 (subst (λ z. 0 < length z) (sym same) some2))))
one_place limits (x ∷ b1) (y ∷ b2) t1 t2 a1 a2 e all1 all2 some1 some2 no1 no2 =
    let rest : b1 ++ t1 ∷ a1 ≡ b2 ++ t2 ∷ a2 = cc in
    let here = one_place limits b1 b2 t1 t2 a1 a2 rest (others_are limits x b1 all1) (others_are limits y b2 all2) some1 some2 no1 no2 in
    (omega (arith, here.0), here.1)

-- ---- faults

module _ (law : EachBodyIsOne) where
  never_both : (text : List ℕ) (cause : BodyRefusal) (message : Message) → Bad text cause → Msg text message → ⊥
  never_both text cause message bad is = elim (law text) [ inl one ↦ one.no_refusal cause bad | inr other ↦ other.no_message message is ]

  module _ (limits : Settings) where
    no_body : (text : List ℕ) (number : ℕ) (fault : WrapFault) → Refuses limits text number fault → fault ≢ OutOfMemory → ¬ IsBody limits text
    no_body text number (Body cause line) says other = λ body. never_both text cause body.message says.0 body.message_is
    no_body text number (BodyTooLong line) says other = λ body. absurd (omega (arith, says.0.long, body.within))
    no_body text number OutOfMemory says other = absurd (other refl)

    one_fault : (text : List ℕ) (number : ℕ) (told fault : WrapFault) → Refuses limits text number told → Refuses limits text number fault → fault ≢ OutOfMemory → (told ≡ fault) ⊎ (told ≡ OutOfMemory)
    one_fault text number told OutOfMemory s1 s2 other = absurd (other refl)
    one_fault text number OutOfMemory fault s1 s2 other = inr refl
    one_fault text number (Body c1 l1) (Body c2 l2) s1 s2 other = inl (cc (s1.0, s1.1, s2.0, s2.1))
    one_fault text number (Body cause l1) (BodyTooLong l2) s1 s2 other = absurd (never_both text cause s2.0.message s1.0 s2.0.message_is)
    one_fault text number (BodyTooLong l1) (Body cause l2) s1 s2 other = absurd (never_both text cause s1.0.message s2.0 s1.0.message_is)
    one_fault text number (BodyTooLong l1) (BodyTooLong l2) s1 s2 other = inl (cc (s1.1, s2.1))

    module _ (texts : List (List ℕ)) where
      pub no_fault : AreBodies limits texts → (fault : WrapFault) → FirstRefused limits texts fault → fault ≢ OutOfMemory → ⊥
      no_fault all fault r other = no_body r.text (length r.before + 1) fault r.refuses other (each_is limits r.before r.text r.after (subst (AreBodies limits) r.split all) r.has_bytes)

      pub only_memory : AreBodies limits texts → (told : WrapFault) → FirstRefused limits texts told → told ≡ OutOfMemory
      only_memory all (Body cause line) r = absurd (no_fault all (Body cause line) r (λ e. absurd (cc e)))
      only_memory all (BodyTooLong line) r = absurd (no_fault all (BodyTooLong line) r (λ e. absurd (cc e)))
      only_memory all OutOfMemory r = refl

      first_fault : (told fault : WrapFault) → FirstRefused limits texts told → FirstRefused limits texts fault → told ≢ OutOfMemory → fault ≢ OutOfMemory → (told ≡ fault) ⊎ (told ≡ OutOfMemory)
      first_fault told fault r1 r2 other1 other2 =
          let here = one_place limits r1.before r2.before r1.text r2.text r1.after r2.after (sym r1.split ∙ r2.split) r1.accepted r2.accepted r1.has_bytes r2.has_bytes (no_body r1.text (length r1.before + 1) told r1.refuses other1) (no_body r2.text (length r2.before + 1) fault r2.refuses other2) in
          one_fault r2.text (length r2.before + 1) told fault (subst (λ n. Refuses limits r2.text (n + 1) told) here.0 (subst (λ t. Refuses limits t (length r1.before + 1) told) here.1 r1.refuses)) r2.refuses other2

      one_or_memory : (told fault : WrapFault) → FirstRefused limits texts told → FirstRefused limits texts fault → fault ≢ OutOfMemory → (told ≡ fault) ⊎ (told ≡ OutOfMemory)
      one_or_memory (Body cause line) fault r1 r2 other = first_fault (Body cause line) fault r1 r2 (λ e. absurd (cc e)) other
      one_or_memory (BodyTooLong line) fault r1 r2 other = first_fault (BodyTooLong line) fault r1 r2 (λ e. absurd (cc e)) other
      one_or_memory OutOfMemory fault r1 r2 other = inr refl

      pub one_told : {A : Type 0} (told fault : WrapFault) → FirstRefused limits texts told → FirstRefused limits texts fault → fault ≢ OutOfMemory → let result : Result A WrapFault = Err told in (result ≡ Err fault) ⊎ (result ≡ Err OutOfMemory)
      one_told told fault r1 r2 other = elim (one_or_memory told fault r1 r2 other) [ inl e ↦ inl (ap Err e) | inr e ↦ inr (ap Err e) ]

-- a result that is this fault
pub is_told : {A : Type 0} (result : Result A WrapFault) (told : WrapFault) → IsErrAnd result (λ fault. fault ≡ told) → result ≡ Err told
is_told (Ok out) told same = absurd same
is_told (Err fault) told same = ap Err same
