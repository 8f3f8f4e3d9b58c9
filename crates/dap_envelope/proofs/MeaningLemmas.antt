-- The verdict on a value, beside what its keys say.
use Rattle.std.proofs.Common.{◌≡◌, ◌≢◌, ◌≤◌, ℕ, List, length, codes, bytes_eq, Bool, true, false, nat_le, Option, Some, None, cond, option_map, Ok, Err, refl, sym, ap, ◌∙◌, subst, true≢false}
use Rattle.std.proofs.lemmas.Bool.{leb-true, le-leb}
use Rattle.std.proofs.lemmas.Slice.Eq.{bytes_eq-Decides}
use Rattle.serde_json.specs.Data.{Data, null, boolean, number, string, array, object}
use Rattle.serde_json.specs.Find.{get}
use Rattle.dap_json.specs.Field.{if_passes, is_object, unless_null, whole_at, text_at, bool_at, tree_at}
use Rattle.dap_envelope.specs.Gives.{Verdict}
use Rattle.dap_envelope.specs.Refusals.{max_command}
use Rattle.dap_json.specs.Steps.{◌>>=◌}
use Rattle.dap_envelope.specs.PrivateVerdict.{or_refuse, message_in, envelope_of, kind_in, kind_of, request_of, response_of, event_of, command_of}
use Rattle.dap_envelope.specs.Meaning.{MeansMessage, MeansKind}
use Rattle.dap_envelope.specs.declared.fault.BodyRefusal.{BodyRefusal}
use Rattle.dap_envelope.specs.declared.fault.BodyRefusal.TheVariants.{NotObject, BadSeq, BadType, BadCommand, BadRequestSeq, BadSuccess, BadEvent}
use Rattle.dap_envelope.specs.declared.message.Message.{Message}
use Rattle.dap_envelope.specs.declared.message.Kind.{Kind}
use Rattle.dap_envelope.specs.declared.message.Kind.TheVariants.{Request, Response, Event, Other}

other : (xs ys : List ℕ) (b : Bool) → bytes_eq xs ys ≡ b → xs ≢ ys → bytes_eq xs ys ≡ false
other xs ys true e ne = absurd (ne ((bytes_eq-Decides xs ys).0 e))
other xs ys false e ne = e

message_text : (o : Option Data) (text : Option (List ℕ)) → unless_null o ≡ option_map string text → message_in o ≡ Ok text
message_text None None e = refl
message_text None (Some t) e = absurd (cc e)
message_text (Some null) None e = refl
message_text (Some null) (Some t) e = absurd (cc e)
message_text (Some (string s)) None e = absurd (cc e)
message_text (Some (string s)) (Some t) e = let is : s ≡ t = cc e in ap (λ u. Ok (Some u)) is
message_text (Some (boolean b)) None e = absurd (cc e)
message_text (Some (boolean b)) (Some t) e = absurd (cc e)
message_text (Some (number n)) None e = absurd (cc e)
message_text (Some (number n)) (Some t) e = absurd (cc e)
message_text (Some (array ds)) None e = absurd (cc e)
message_text (Some (array ds)) (Some t) e = absurd (cc e)
message_text (Some (object ms)) None e = absurd (cc e)
message_text (Some (object ms)) (Some t) e = absurd (cc e)

says_kind : (d : Data) (tag : List ℕ) (k : Kind) → text_at (codes "type") d ≡ Some tag → MeansKind d k → kind_of tag d ≡ Ok k
unfolding kind_of request_of response_of event_of
says_kind d tag (Request c a) e s =
    let t : tag ≡ codes "request" = cc (e, s.0) in
    let fits : nat_le (length c) max_command ≡ true = le-leb _ _ s.2 in
    rw (t, s.1, fits, s.3)
says_kind d tag (Response r b c m o) e s =
    let t : tag ≡ codes "response" = cc (e, s.0) in
    let fits : nat_le (length c) max_command ≡ true = le-leb _ _ s.2 in
    rw (t, s.1, fits, s.3, s.4, message_text _ m s.5, s.6)
says_kind d tag (Event v b) e s =
    let t : tag ≡ codes "event" = cc (e, s.0) in
    rw (t, s.1, s.2)
says_kind d tag (Other u) e s =
    let t : tag ≡ u = cc (e, s.0) in
    let q : bytes_eq u (codes "request") ≡ false = other u (codes "request") _ refl s.1 in
    let r : bytes_eq u (codes "response") ≡ false = other u (codes "response") _ refl s.2 in
    let v : bytes_eq u (codes "event") ≡ false = other u (codes "event") _ refl s.3 in
    rw (t, q, r, v)

tag_of : (d : Data) (k : Kind) → MeansKind d k → (tag : List ℕ) × (text_at (codes "type") d ≡ Some tag)
tag_of d (Request c a) s = (codes "request", s.0)
tag_of d (Response r b c m o) s = (codes "response", s.0)
tag_of d (Event v b) s = (codes "event", s.0)
tag_of d (Other u) s = (u, s.0)

-- a message that the keys say is the verdict
pub envelope_of-MeansMessage : (d : Data) (m : Message) → MeansMessage d m → envelope_of d ≡ Ok m
unfolding envelope_of kind_in
envelope_of-MeansMessage d m s =
    let t = tag_of d m.kind s.kind in
    let k : kind_of t.0 d ≡ Ok m.kind = says_kind d t.0 m.kind t.1 s.kind in
    rw (s.object, s.seq, t.1, k)

-- ---- and back

ok_then : {A B : Type 0} (v : Verdict A) (f : A → Verdict B) (y : B) → (v >>= f) ≡ Ok y → (x : A) × (v ≡ Ok x) × (f x ≡ Ok y)
ok_then (Ok x) f y e = (x, refl, e)
ok_then (Err r) f y e = absurd (cc e)

there : {A : Type 0} (r : BodyRefusal) (o : Option A) (x : A) → or_refuse r o ≡ Ok x → o ≡ Some x
there r None x e = absurd (cc e)
there r (Some z) x e = cc e

here : (tag lit : List ℕ) → bytes_eq tag lit ≡ true → tag ≡ lit
here tag lit e = (bytes_eq-Decides tag lit).0 e

apart : (tag lit : List ℕ) → bytes_eq tag lit ≡ false → tag ≢ lit
apart tag lit e is = true≢false (sym ((bytes_eq-Decides tag lit).1 is) ∙ e)

text_said : (o : Option Data) (m : Option (List ℕ)) → message_in o ≡ Ok m → unless_null o ≡ option_map string m
text_said None None e = refl
text_said None (Some t) e = absurd (cc e)
text_said (Some null) None e = refl
text_said (Some null) (Some t) e = absurd (cc e)
text_said (Some (string s)) None e = absurd (cc e)
text_said (Some (string s)) (Some t) e = let is : s ≡ t = cc e in ap (λ u. Some (string u)) is
text_said (Some (boolean b)) m e = absurd (cc e)
text_said (Some (number n)) m e = absurd (cc e)
text_said (Some (array ds)) m e = absurd (cc e)
text_said (Some (object ms)) m e = absurd (cc e)

command_passes : (b : Bool) (name c : List ℕ) → nat_le (length name) max_command ≡ b → or_refuse BadCommand (cond b (Some name) None) ≡ Ok c → (name ≡ c) × (length c ≤ max_command)
command_passes true name c t e = let is : name ≡ c = cc e in (is, subst (λ n. length n ≤ max_command) is (leb-true _ _ t))
command_passes false name c t e = absurd (cc e)

command_found : (o : Option (List ℕ)) (c : List ℕ) → or_refuse BadCommand (if_passes (λ name. nat_le (length name) max_command) o) ≡ Ok c → (o ≡ Some c) × (length c ≤ max_command)
command_found None c e = absurd (cc e)
command_found (Some name) c e = let p = command_passes (nat_le (length name) max_command) name c refl e in (ap Some p.0, p.1)

request_said : (d : Data) (k : Kind) → text_at (codes "type") d ≡ Some (codes "request") → request_of d ≡ Ok k → MeansKind d k
unfolding request_of
request_said d k tag e =
    let c = ok_then (command_of d) (λ c. Ok (Request c (tree_at (codes "arguments") d))) k e in
    let p = command_found (text_at (codes "command") d) c.0 c.1 in
    let is : Request c.0 (tree_at (codes "arguments") d) ≡ k = cc c.2 in
    subst (λ k. MeansKind d k) is (tag, p.0, p.1, refl)

event_said : (d : Data) (k : Kind) → text_at (codes "type") d ≡ Some (codes "event") → event_of d ≡ Ok k → MeansKind d k
unfolding event_of
event_said d k tag e =
    let v = ok_then (or_refuse BadEvent (text_at (codes "event") d)) (λ v. Ok (Event v (tree_at (codes "body") d))) k e in
    let is : Event v.0 (tree_at (codes "body") d) ≡ k = cc v.2 in
    subst (λ k. MeansKind d k) is (tag, there BadEvent _ v.0 v.1, refl)

response_said : (d : Data) (k : Kind) → text_at (codes "type") d ≡ Some (codes "response") → response_of d ≡ Ok k → MeansKind d k
unfolding response_of
response_said d k tag e =
    let body = tree_at (codes "body") d in
    let c = ok_then (command_of d) (λ c. or_refuse BadRequestSeq (whole_at (codes "request_seq") d) >>= (λ r. or_refuse BadSuccess (bool_at (codes "success") d)
    >>= (λ s. message_in (get (codes "message") d) >>= (λ m. Ok (Response r s c m body))))) k e in
    let r = ok_then (or_refuse BadRequestSeq (whole_at (codes "request_seq") d)) (λ r. or_refuse BadSuccess (bool_at (codes "success") d)
    >>= (λ s. message_in (get (codes "message") d) >>= (λ m. Ok (Response r s c.0 m body)))) k c.2 in
    let s = ok_then (or_refuse BadSuccess (bool_at (codes "success") d)) (λ s. message_in (get (codes "message") d) >>= (λ m. Ok (Response r.0 s c.0 m body))) k r.2 in
    let m = ok_then (message_in (get (codes "message") d)) (λ m. Ok (Response r.0 s.0 c.0 m body)) k s.2 in
    let p = command_found (text_at (codes "command") d) c.0 c.1 in
    let is : Response r.0 s.0 c.0 m.0 body ≡ k = cc m.2 in
    subst (λ k. MeansKind d k) {x = Response r.0 s.0 c.0 m.0 body} is (tag, p.0, p.1, there BadRequestSeq _ r.0 r.1, there BadSuccess _ s.0 s.1, text_said _ m.0 m.1, refl)

kind_at : (a b c : Bool) (d : Data) (tag : List ℕ) (k : Kind) → bytes_eq tag (codes "request") ≡ a → bytes_eq tag (codes "response") ≡ b → bytes_eq tag (codes "event") ≡ c
    → text_at (codes "type") d ≡ Some tag → cond a (request_of d) (cond b (response_of d) (cond c (event_of d) (Ok (Other tag)))) ≡ Ok k → MeansKind d k
kind_at true b c d tag k x y z is e = request_said d k (is ∙ ap Some (here tag _ x)) e
kind_at false true c d tag k x y z is e = response_said d k (is ∙ ap Some (here tag _ y)) e
kind_at false false true d tag k x y z is e = event_said d k (is ∙ ap Some (here tag _ z)) e
kind_at false false false d tag k x y z is e =
    let other : Other tag ≡ k = cc e in
    subst (λ k. MeansKind d k) other (is, apart tag _ x, apart tag _ y, apart tag _ z)

kind_said : (d : Data) (tag : List ℕ) (k : Kind) → text_at (codes "type") d ≡ Some tag → kind_of tag d ≡ Ok k → MeansKind d k
unfolding kind_of
kind_said d tag k is e = kind_at _ _ _ d tag k refl refl refl is e

object_said : (b : Bool) (v : Verdict Message) (m : Message) → cond b v (Err NotObject) ≡ Ok m → (b ≡ true) × (v ≡ Ok m)
object_said true v m e = (refl, e)
object_said false v m e = absurd (cc e)

-- what the verdict gives, the keys say
pub MeansMessage-envelope_of : (d : Data) (m : Message) → envelope_of d ≡ Ok m → MeansMessage d m
unfolding envelope_of kind_in
MeansMessage-envelope_of d m e =
    let o = object_said (is_object d) _ m e in
    let s = ok_then (or_refuse BadSeq (whole_at (codes "seq") d)) (λ s. kind_in d >>= (λ k. Ok (record { seq = s; kind = k }))) m o.1 in
    let k = ok_then (kind_in d) (λ k. Ok (record { seq = s.0; kind = k })) m s.2 in
    let t = ok_then (or_refuse BadType (text_at (codes "type") d)) (λ t. kind_of t d) k.0 k.1 in
    let built : Message = record { seq = s.0; kind = k.0 } in
    let is : built ≡ m = cc k.2 in
    let tag = there BadType _ t.0 t.1 in
    subst (λ m. MeansMessage d m) is (record { object = o.0; seq = there BadSeq _ s.0 s.1; kind = kind_said d t.0 k.0 tag t.2 })
