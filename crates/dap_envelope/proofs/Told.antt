-- The verdict beside the two relations that the public contracts speak of.
use Rattle.std.proofs.Common.{◌≡◌, ℕ, List, ◌⊎◌, inl, inr, Option, Some, None, Result, Ok, Err, refl, sym, ap, ◌∙◌, subst}
use Rattle.serde_json.specs.Data.{Data}
use Rattle.dap_json.specs.Read.{json_of}
use Rattle.dap_envelope.specs.Gives.{Verdict, Gives}
use Rattle.dap_envelope.specs.Refusals.{Bad, first_refusal}
use Rattle.dap_envelope.specs.Meaning.{Msg}
use Rattle.dap_envelope.specs.PrivateVerdict.{verdict_of}
use Rattle.dap_envelope.specs.Laws.{IsOneMessage, IsOneRefusal, EachBodyIsOne}
use Rattle.dap_envelope.specs.declared.fault.BodyFault.{BodyFault}
use Rattle.dap_envelope.specs.declared.fault.BodyFault.TheVariants.{Refused, OutOfMemory}
use Rattle.dap_envelope.specs.declared.fault.BodyRefusal.{BodyRefusal}
use Rattle.dap_envelope.specs.declared.message.Message.{Message}
use Rattle.dap_envelope.proofs.MeaningLemmas.{envelope_of-MeansMessage, MeansMessage-envelope_of}
use Rattle.dap_envelope.proofs.RefusalLemmas.{refusal_in, refusal_of-verdict_of}

pub verdict_of-Msg : (x : List ℕ) (m : Message) → Msg x m → verdict_of (json_of x) ≡ Ok m
verdict_of-Msg x m is = rw is.is_json (envelope_of-MeansMessage is.value m is.says)

said : (x : List ℕ) (found : Option Data) (m : Message) → json_of x ≡ found → verdict_of found ≡ Ok m → Msg x m
said x None m e v = absurd (cc v)
said x (Some d) m e v = record { value = d; is_json = e; says = MeansMessage-envelope_of d m v }

pub Msg-verdict_of : (x : List ℕ) (m : Message) → verdict_of (json_of x) ≡ Ok m → Msg x m
Msg-verdict_of x m v = said x (json_of x) m refl v

refused : (v : Verdict Message) (r : BodyRefusal) → refusal_in v ≡ Some r → v ≡ Err r
refused (Ok m) r e = absurd (cc e)
refused (Err q) r e = let is : q ≡ r = cc e in ap Err is

pub verdict_of-Bad : (x : List ℕ) (r : BodyRefusal) → Bad x r → verdict_of (json_of x) ≡ Err r
unfolding first_refusal
verdict_of-Bad x r bad = refused (verdict_of (json_of x)) r (sym (refusal_of-verdict_of (json_of x)) ∙ bad)

pub Bad-verdict_of : (x : List ℕ) (r : BodyRefusal) → verdict_of (json_of x) ≡ Err r → Bad x r
unfolding first_refusal
Bad-verdict_of x r v = refusal_of-verdict_of (json_of x) ∙ ap refusal_in v

-- ---- what a call that gives the verdict answers

pub told_message : (x : List ℕ) (result : Result Message BodyFault) → Gives result (verdict_of (json_of x)) → (m : Message) → result ≡ Ok m → Msg x m
told_message x (Ok n) g m e = let is : n ≡ m = cc e in Msg-verdict_of x m (g ∙ ap Ok is)
told_message x (Err f) g m e = absurd (cc e)

pub told_refusal : (x : List ℕ) (result : Result Message BodyFault) → Gives result (verdict_of (json_of x)) → (r : BodyRefusal) → result ≡ Err (Refused r) → Bad x r
told_refusal x (Ok n) g r e = absurd (cc e)
told_refusal x (Err (Refused q)) g r e = let is : q ≡ r = cc e in Bad-verdict_of x r (g ∙ ap Err is)
told_refusal x (Err OutOfMemory) g r e = absurd (cc e)

pub gives_message : (x : List ℕ) (result : Result Message BodyFault) → Gives result (verdict_of (json_of x)) → (m : Message) → Msg x m → Gives result (Ok m)
gives_message x result g m is = subst (λ v. Gives result v) (verdict_of-Msg x m is) g

pub gives_refusal : (x : List ℕ) (result : Result Message BodyFault) → Gives result (verdict_of (json_of x)) → (r : BodyRefusal) → Bad x r → Gives result (Err r)
gives_refusal x result g r bad = subst (λ v. Gives result v) (verdict_of-Bad x r bad) g

-- ---- one or the other

one : (x : List ℕ) (v : Verdict Message) → verdict_of (json_of x) ≡ v → IsOneMessage x ⊎ IsOneRefusal x
one x (Ok m) e = inl (record {
  message = m;
  is = Msg-verdict_of x m e;
  no_other = λ n is. let both : Ok n ≡ Ok m = sym (verdict_of-Msg x n is) ∙ e in cc both;
  no_refusal = λ r bad. let both : Ok m ≡ Err r = sym e ∙ verdict_of-Bad x r bad in cc both;
})
one x (Err r) e = inr (record {
  refusal = r;
  is = Bad-verdict_of x r e;
  no_other = λ q bad. let both : Err q ≡ Err r = sym (verdict_of-Bad x q bad) ∙ e in cc both;
  no_message = λ m is. let both : Ok m ≡ Err r = sym (verdict_of-Msg x m is) ∙ e in cc both;
})

pub each_is_one : EachBodyIsOne
each_is_one x = one x (verdict_of (json_of x)) refl
