-- What was read of a message, member by member.
use Rattle.std.proofs.Common.{◌≡◌, ◌≢◌, ℕ, List, codes, bytes_eq, false, Option, Some, None, option_map, refl, sym, ◌∙◌, subst, true≢false}
use Rattle.std.proofs.lemmas.Slice.Eq.{bytes_eq-Decides}
use Rattle.serde_json.specs.Data.{Data, Members, put}
use Rattle.serde_json.specs.Find.{get_member}
use Rattle.serde_json.proofs.Views.{get_member-put, get_member-put_other}
use Rattle.dap_command.specs.Gathered.{AreGivenBy}
use Rattle.dap_json.specs.Field.{unless_null}
use Rattle.dap_json.specs.declared.object_reader.MemberValue.{MemberValue}
use Rattle.dap_envelope.specs.Heading.{Notes, NotesAll}
use Rattle.dap_envelope.specs.ResponseReferences.{or_null}
use Rattle.dap_command.specs.declared.gathering.GatheredReferences.{GatheredReferences}
use Rattle.dap_envelope.specs.declared.heading.Noted.{Noted}
use Rattle.dap_shape.specs.Faults.{held_fault}
use Rattle.dap_shape.specs.Shapes.{Row}
use Rattle.dap_shape.specs.PrivateSound.{AreArguments, IsBody, IsRead}
use Rattle.dap_shape.specs.declared.reading.Guess.{Guess}
use Rattle.dap_shape.specs.declared.reading.Walked.{Walked}

apart : (key wanted : List ℕ) → bytes_eq key wanted ≡ false → wanted ≢ key
apart key wanted e = λ same. true≢false (sym ((bytes_eq-Decides key wanted).1 (sym same)) ∙ e)

module _ (key : List ℕ) (d : Data) (found : Members) where
  stays : (wanted : List ℕ) (noted : Option MemberValue) → bytes_eq key wanted ≡ false → Notes noted (get_member wanted found) → Notes noted (get_member wanted (put key d found))
  stays wanted noted e tells = subst (Notes noted) (sym (get_member-put_other wanted key d found (apart key wanted e))) tells

  given_stays : (given : GatheredReferences) → codes "body" ≢ key → AreGivenBy given (or_null (get_member (codes "body") found)) → AreGivenBy given (or_null (get_member (codes "body") (put key d found)))
  given_stays given e are = subst (λ o. AreGivenBy given (or_null o)) (sym (get_member-put_other (codes "body") key d found e)) are

  arguments_stay : (name : Option (List ℕ)) → codes "arguments" ≢ key → AreArguments name (unless_null (get_member (codes "arguments") found)) → AreArguments name (unless_null (get_member (codes "arguments") (put key d found)))
  arguments_stay name e are = subst (λ o. AreArguments name (unless_null o)) (sym (get_member-put_other (codes "arguments") key d found e)) are

  body_stays : (guess : Option Guess) → codes "body" ≢ key → IsBody guess (unless_null (get_member (codes "body") found)) → IsBody guess (unless_null (get_member (codes "body") (put key d found)))
  body_stays guess e is = subst (λ o. IsBody guess (unless_null o)) (sym (get_member-put_other (codes "body") key d found e)) is

-- a member at another key
pub noted_more : (key : List ℕ) (d : Data) (found : Members) (old new : Walked) (given : GatheredReferences) → key ≢ codes "arguments" → key ≢ codes "body" → new.arguments ≡ old.arguments → new.body ≡ old.body
    → NotesAll new.noted (put key d found) → IsRead old given found → IsRead new given (put key d found)
noted_more key d found old new given e1 e2 same1 same2 tells is = record {
  heading = tells;
  gathered = given_stays key d found given (λ same. e2 (sym same)) is.gathered;
  arguments = subst (λ o. AreArguments (option_map (λ name. name.now) o) (unless_null (get_member (codes "arguments") (put key d found)))) (sym same1) (arguments_stay key d found (option_map (λ name. name.now) old.arguments) (λ same. e1 (sym same)) is.arguments);
  body = subst (λ o. IsBody o (unless_null (get_member (codes "body") (put key d found)))) (sym same2) (body_stays key d found old.body (λ same. e2 (sym same)) is.body);
}

heading_stays : (key : List ℕ) (d : Data) (found : Members) (noted : Noted) → bytes_eq key (codes "seq") ≡ false → bytes_eq key (codes "type") ≡ false → bytes_eq key (codes "command") ≡ false → bytes_eq key (codes "request_seq") ≡ false
    → bytes_eq key (codes "success") ≡ false → bytes_eq key (codes "message") ≡ false → bytes_eq key (codes "event") ≡ false → NotesAll noted found → NotesAll noted (put key d found)
heading_stays key d found noted e1 e2 e3 e4 e5 e6 e7 tells = record {
  seq = stays key d found (codes "seq") noted.seq e1 tells.seq;
  tag = stays key d found (codes "type") noted.tag e2 tells.tag;
  command = stays key d found (codes "command") noted.command e3 tells.command;
  request_seq = stays key d found (codes "request_seq") noted.request_seq e4 tells.request_seq;
  success = stays key d found (codes "success") noted.success e5 tells.success;
  message = stays key d found (codes "message") noted.message e6 tells.message;
  event = stays key d found (codes "event") noted.event e7 tells.event;
}

-- arguments
pub arguments_more : (d : Data) (found : Members) (old new : Walked) (given : GatheredReferences) → new.noted ≡ old.noted → new.body ≡ old.body → AreArguments (option_map (λ name. name.now) new.arguments) (unless_null (Some d))
    → IsRead old given found → IsRead new given (put (codes "arguments") d found)
arguments_more d found old new given same1 same2 are is = record {
  heading = subst (λ n. NotesAll n (put (codes "arguments") d found)) (sym same1) (heading_stays (codes "arguments") d found old.noted refl refl refl refl refl refl refl is.heading);
  gathered = given_stays (codes "arguments") d found given (apart (codes "arguments") (codes "body") refl) is.gathered;
  arguments = subst (λ o. AreArguments (option_map (λ name. name.now) new.arguments) (unless_null o)) (sym (get_member-put (codes "arguments") d found)) are;
  body = subst (λ o. IsBody o (unless_null (get_member (codes "body") (put (codes "arguments") d found)))) (sym same2) (body_stays (codes "arguments") d found old.body (apart (codes "arguments") (codes "body") refl) is.body);
}

-- a body
pub body_more : (d : Data) (found : Members) (old new : Walked) (before given : GatheredReferences) → new.noted ≡ old.noted → new.arguments ≡ old.arguments → AreGivenBy given d → IsBody new.body (unless_null (Some d))
    → IsRead old before found → IsRead new given (put (codes "body") d found)
body_more d found old new before given same1 same2 are here is = record {
  heading = subst (λ n. NotesAll n (put (codes "body") d found)) (sym same1) (heading_stays (codes "body") d found old.noted refl refl refl refl refl refl refl is.heading);
  gathered = subst (λ o. AreGivenBy given (or_null o)) (sym (get_member-put (codes "body") d found)) are;
  arguments = subst (λ o. AreArguments (option_map (λ name. name.now) o) (unless_null (get_member (codes "arguments") (put (codes "body") d found)))) (sym same2)
      (arguments_stay (codes "body") d found (option_map (λ name. name.now) old.arguments) (apart (codes "body") (codes "arguments") refl) is.arguments);
  body = subst (λ o. IsBody new.body (unless_null o)) (sym (get_member-put (codes "body") d found)) here;
}

-- what stands where no row is for it, and where one is
pub no_row_held : (row : Option Row) (d : Data) → None ≡ row → held_fault row (Some d) ≡ None
no_row_held None d is = refl
no_row_held (Some row) d is = absurd (cc is)
