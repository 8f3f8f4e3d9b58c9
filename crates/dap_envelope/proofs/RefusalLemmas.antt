-- The first refusal that holds is the one in the verdict.
use Rattle.std.proofs.Common.{◌≡◌, ℕ, List, codes, bytes_eq, Bool, true, false, Option, Some, None, Ok, Err, refl, ap, ◌∙◌}
use Rattle.std.proofs.lemmas.Slice.Eq.{bytes_eq-Decides}
use Rattle.serde_json.specs.Data.{Data, null, boolean, number, string, array, object}
use Rattle.serde_json.specs.Find.{get}
use Rattle.dap_json.specs.Field.{is_object, whole_at, text_at, bool_at}
use Rattle.dap_envelope.specs.Gives.{Verdict}
use Rattle.dap_envelope.specs.Refusals.{command_at, refusal_of}
use Rattle.dap_envelope.specs.PrivateVerdict.{envelope_of, kind_in, kind_of, request_of, response_of, event_of, verdict_of}
use Rattle.dap_envelope.specs.declared.fault.BodyRefusal.{BodyRefusal}

abbrev pub refusal_in : {A : Type 0} → Verdict A → Option BodyRefusal
refusal_in (Ok m) = None
refusal_in (Err r) = Some r

-- what the value's keys begin with
record Begins (d : Data) (s : ℕ) (t : List ℕ) : Type 0 where
  object : is_object d ≡ true
  seq : whole_at (codes "seq") d ≡ Some s
  tag : text_at (codes "type") d ≡ Some t

abbrev Agrees : Data → Type 0
Agrees d = refusal_of (Some d) ≡ refusal_in (envelope_of d)

by_command : (d : Data) (s : ℕ) (o : Option (List ℕ)) → Begins d s (codes "request") → command_at d ≡ o → Agrees d
unfolding envelope_of kind_in kind_of request_of
by_command d s None b c = rw (b.object, b.seq, b.tag, c)
by_command d s (Some name) b c = rw (b.object, b.seq, b.tag, c)

by_event : (d : Data) (s : ℕ) (o : Option (List ℕ)) → Begins d s (codes "event") → text_at (codes "event") d ≡ o → Agrees d
unfolding envelope_of kind_in kind_of event_of
by_event d s None b c = rw (b.object, b.seq, b.tag, c)
by_event d s (Some name) b c = rw (b.object, b.seq, b.tag, c)

by_message : (d : Data) (s r : ℕ) (f : Bool) (name : List ℕ) (o : Option Data) → Begins d s (codes "response") → command_at d ≡ Some name → whole_at (codes "request_seq") d ≡ Some r
    → bool_at (codes "success") d ≡ Some f → get (codes "message") d ≡ o → Agrees d
unfolding envelope_of kind_in kind_of response_of
by_message d s r f name None b c q u m = rw (b.object, b.seq, b.tag, c, q, u, m)
by_message d s r f name (Some null) b c q u m = rw (b.object, b.seq, b.tag, c, q, u, m)
by_message d s r f name (Some (boolean x)) b c q u m = rw (b.object, b.seq, b.tag, c, q, u, m)
by_message d s r f name (Some (number x)) b c q u m = rw (b.object, b.seq, b.tag, c, q, u, m)
by_message d s r f name (Some (string x)) b c q u m = rw (b.object, b.seq, b.tag, c, q, u, m)
by_message d s r f name (Some (array x)) b c q u m = rw (b.object, b.seq, b.tag, c, q, u, m)
by_message d s r f name (Some (object x)) b c q u m = rw (b.object, b.seq, b.tag, c, q, u, m)

by_success : (d : Data) (s r : ℕ) (o : Option Bool) (name : List ℕ) → Begins d s (codes "response") → command_at d ≡ Some name → whole_at (codes "request_seq") d ≡ Some r → bool_at (codes "success") d ≡ o → Agrees d
unfolding envelope_of kind_in kind_of response_of
by_success d s r None name b c q u = rw (b.object, b.seq, b.tag, c, q, u)
by_success d s r (Some f) name b c q u = by_message d s r f name _ b c q u refl

by_request_seq : (d : Data) (s : ℕ) (o : Option ℕ) (name : List ℕ) → Begins d s (codes "response") → command_at d ≡ Some name → whole_at (codes "request_seq") d ≡ o → Agrees d
unfolding envelope_of kind_in kind_of response_of
by_request_seq d s None name b c q = rw (b.object, b.seq, b.tag, c, q)
by_request_seq d s (Some r) name b c q = by_success d s r _ name b c q refl

by_answered : (d : Data) (s : ℕ) (o : Option (List ℕ)) → Begins d s (codes "response") → command_at d ≡ o → Agrees d
unfolding envelope_of kind_in kind_of response_of
by_answered d s None b c = rw (b.object, b.seq, b.tag, c)
by_answered d s (Some name) b c = by_request_seq d s _ name b c refl

is_text : (tag wanted : List ℕ) → bytes_eq tag wanted ≡ true → tag ≡ wanted
is_text tag wanted e = (bytes_eq-Decides tag wanted).0 e

of_type : (d : Data) (s : ℕ) (tag wanted : List ℕ) → Begins d s tag → bytes_eq tag wanted ≡ true → Begins d s wanted
of_type d s tag wanted b e = record { object = b.object; seq = b.seq; tag = b.tag ∙ ap Some (is_text tag wanted e) }

by_tag : (d : Data) (s : ℕ) (tag : List ℕ) (p q r : Bool) → Begins d s tag → bytes_eq tag (codes "request") ≡ p → bytes_eq tag (codes "response") ≡ q → bytes_eq tag (codes "event") ≡ r → Agrees d
unfolding envelope_of kind_in kind_of
by_tag d s tag true q r b x y z = by_command d s _ (of_type d s tag _ b x) refl
by_tag d s tag false true r b x y z = by_answered d s _ (of_type d s tag _ b y) refl
by_tag d s tag false false true b x y z = by_event d s _ (of_type d s tag _ b z) refl
by_tag d s tag false false false b x y z = rw (b.object, b.seq, b.tag, x, y, z)

by_type : (d : Data) (s : ℕ) (o : Option (List ℕ)) → is_object d ≡ true → whole_at (codes "seq") d ≡ Some s → text_at (codes "type") d ≡ o → Agrees d
unfolding envelope_of kind_in
by_type d s None x y z = rw (x, y, z)
by_type d s (Some tag) x y z = by_tag d s tag _ _ _ (record { object = x; seq = y; tag = z }) refl refl refl

by_seq : (d : Data) (o : Option ℕ) → is_object d ≡ true → whole_at (codes "seq") d ≡ o → Agrees d
unfolding envelope_of
by_seq d None x y = rw (x, y)
by_seq d (Some s) x y = by_type d s _ x y refl

by_object : (d : Data) (b : Bool) → is_object d ≡ b → Agrees d
unfolding envelope_of
by_object d false x = rw x
by_object d true x = by_seq d _ x refl

pub refusal_of-verdict_of : (found : Option Data) → refusal_of found ≡ refusal_in (verdict_of found)
refusal_of-verdict_of None = refl
refusal_of-verdict_of (Some d) = by_object d _ refl
