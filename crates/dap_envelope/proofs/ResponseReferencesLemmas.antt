-- What was gathered of a body beside what was noted, one member after another.
use Rattle.std.proofs.Common.{◌≡◌, ◌≢◌, ℕ, List, codes, bytes_eq, false, Option, Some, None, refl, sym, ◌∙◌, subst, true≢false}
use Rattle.std.proofs.lemmas.Slice.Eq.{bytes_eq-Decides}
use Rattle.serde_json.specs.Data.{Data, null, boolean, number, string, array, object, Members, put}
use Rattle.serde_json.specs.Find.{get_member}
use Rattle.serde_json.proofs.Views.{get_member-put, get_member-put_other}
use Rattle.dap_command.specs.Gathered.{AreGivenBy}
use Rattle.dap_json.specs.Field.{unless_null}
use Rattle.dap_json.specs.declared.object_reader.MemberValue.{MemberValue}
use Rattle.dap_envelope.specs.ResponseReferences.{or_null, AreGivenIn, NotesAndGathers}
use Rattle.dap_envelope.specs.Heading.{Notes, NotesAll}
use Rattle.dap_envelope.specs.Meaning.{MeansKind}
use Rattle.dap_command.specs.declared.gathering.GatheredReferences.{GatheredReferences}
use Rattle.dap_envelope.specs.declared.heading.Noted.{Noted}
use Rattle.dap_envelope.specs.declared.message.Kind.{Kind}
use Rattle.dap_envelope.specs.declared.message.Kind.TheVariants.{Request, Response, Event, Other}

apart : (key wanted : List ℕ) → bytes_eq key wanted ≡ false → wanted ≢ key
apart key wanted e = λ same. true≢false (sym ((bytes_eq-Decides key wanted).1 (sym same)) ∙ e)

-- a member at another key leaves what was gathered
pub noted_more : (key : List ℕ) (d : Data) (found : Members) (noted : Noted) (given : GatheredReferences) → key ≢ codes "body"
    → AreGivenBy given (or_null (get_member (codes "body") found)) → NotesAll noted (put key d found) → NotesAndGathers noted given (put key d found)
noted_more key d found noted given e are tells = record {
  heading = tells;
  body = subst (λ o. AreGivenBy given (or_null o)) (sym (get_member-put_other (codes "body") key d found (λ same. e (sym same)))) are;
}

module _ (d : Data) (found : Members) where
  stays : (wanted : List ℕ) (noted : Option MemberValue) → bytes_eq (codes "body") wanted ≡ false → Notes noted (get_member wanted found) → Notes noted (get_member wanted (put (codes "body") d found))
  stays wanted noted e tells = subst (Notes noted) (sym (get_member-put_other wanted (codes "body") d found (apart (codes "body") wanted e))) tells

  -- a body leaves what was noted
  pub gathered : (noted : Noted) (given : GatheredReferences) → NotesAll noted found → AreGivenBy given d → NotesAndGathers noted given (put (codes "body") d found)
  gathered noted given tells are = record {
    heading = record {
      seq = stays (codes "seq") noted.seq refl tells.seq;
      tag = stays (codes "type") noted.tag refl tells.tag;
      command = stays (codes "command") noted.command refl tells.command;
      request_seq = stays (codes "request_seq") noted.request_seq refl tells.request_seq;
      success = stays (codes "success") noted.success refl tells.success;
      message = stays (codes "message") noted.message refl tells.message;
      event = stays (codes "event") noted.event refl tells.event;
    };
    body = subst (λ o. AreGivenBy given (or_null o)) (sym (get_member-put (codes "body") d found)) are;
  }

null_is_absent : (o : Option Data) → or_null (unless_null o) ≡ or_null o
null_is_absent None = refl
null_is_absent (Some null) = refl
null_is_absent (Some (boolean b)) = refl
null_is_absent (Some (number n)) = refl
null_is_absent (Some (string s)) = refl
null_is_absent (Some (array ds)) = refl
null_is_absent (Some (object ms)) = refl

pub given_in : (given : GatheredReferences) (ms : Members) (k : Kind) → AreGivenBy given (or_null (get_member (codes "body") ms)) → MeansKind (object ms) k → AreGivenIn given k
given_in given ms (Request command arguments) are says = tt
given_in given ms (Response request_seq success command message body) are says = subst (λ o. AreGivenBy given (or_null o)) says.6 (subst (AreGivenBy given) (sym (null_is_absent (get_member (codes "body") ms))) are)
given_in given ms (Event event body) are says = tt
given_in given ms (Other tag) are says = tt
