-- What was taken beside the members, one member after another.
use Rattle.std.proofs.Common.{◌≡◌, ◌≢◌, ℕ, List, codes, bytes_eq, false, Option, Some, refl, sym, ap, ◌∙◌, subst, true≢false}
use Rattle.std.proofs.lemmas.Slice.Eq.{bytes_eq-Decides}
use Rattle.serde_json.specs.Data.{Data, Members, put}
use Rattle.serde_json.specs.Find.{get_member}
use Rattle.serde_json.proofs.Views.{get_member-put, get_member-put_other}
use Rattle.dap_json.specs.Field.{unless_null}
use Rattle.dap_json.specs.declared.object_reader.MemberValue.{MemberValue}
use Rattle.dap_envelope.specs.Heading.{Notes, NotesAll}
use Rattle.dap_envelope.specs.PrivateOnePass.{HoldsAll}
use Rattle.dap_envelope.specs.declared.heading.Noted.{Noted}
use Rattle.dap_envelope.specs.declared.one_pass.Envelope.{Envelope}

module _ (key : List ℕ) (d : Data) (found : Members) where
  at_other : (wanted : List ℕ) → key ≢ wanted → get_member wanted (put key d found) ≡ get_member wanted found
  at_other wanted apart = get_member-put_other wanted key d found (λ same. apart (sym same))

  -- a member at neither key leaves both trees
  pub noted_more : (seen : Envelope) (noted : Noted) → key ≢ codes "arguments" → key ≢ codes "body" → HoldsAll seen found → NotesAll noted (put key d found)
      → HoldsAll (record seen { noted = noted }) (put key d found)
  noted_more seen noted a b holds tells = record {
    noted = tells;
    arguments = holds.arguments ∙ sym (ap unless_null (at_other (codes "arguments") a));
    body = holds.body ∙ sym (ap unless_null (at_other (codes "body") b));
  }

  apart : (wanted : List ℕ) → bytes_eq key wanted ≡ false → key ≢ wanted
  apart wanted e = λ same. true≢false (sym ((bytes_eq-Decides key wanted).1 same) ∙ e)

  tells_other : (wanted : List ℕ) (noted : Option MemberValue) → bytes_eq key wanted ≡ false → Notes noted (get_member wanted found) → Notes noted (get_member wanted (put key d found))
  tells_other wanted noted e tells = subst (Notes noted) (sym (at_other wanted (apart wanted e))) tells

module _ (d : Data) (found : Members) (seen : Envelope) (tree : Option Data) (is : tree ≡ unless_null (Some d)) (holds : HoldsAll seen found) where
  pub with_arguments : HoldsAll (record seen { arguments = tree }) (put (codes "arguments") d found)
  with_arguments = record {
    noted = record {
      seq = tells_other (codes "arguments") d found (codes "seq") seen.noted.seq refl holds.noted.seq;
      tag = tells_other (codes "arguments") d found (codes "type") seen.noted.tag refl holds.noted.tag;
      command = tells_other (codes "arguments") d found (codes "command") seen.noted.command refl holds.noted.command;
      request_seq = tells_other (codes "arguments") d found (codes "request_seq") seen.noted.request_seq refl holds.noted.request_seq;
      success = tells_other (codes "arguments") d found (codes "success") seen.noted.success refl holds.noted.success;
      message = tells_other (codes "arguments") d found (codes "message") seen.noted.message refl holds.noted.message;
      event = tells_other (codes "arguments") d found (codes "event") seen.noted.event refl holds.noted.event;
    };
    arguments = is ∙ sym (ap unless_null (get_member-put (codes "arguments") d found));
    body = holds.body ∙ sym (ap unless_null (at_other (codes "arguments") d found (codes "body") (apart (codes "arguments") d found (codes "body") refl)));
  }

  pub with_body : HoldsAll (record seen { body = tree }) (put (codes "body") d found)
  with_body = record {
    noted = record {
      seq = tells_other (codes "body") d found (codes "seq") seen.noted.seq refl holds.noted.seq;
      tag = tells_other (codes "body") d found (codes "type") seen.noted.tag refl holds.noted.tag;
      command = tells_other (codes "body") d found (codes "command") seen.noted.command refl holds.noted.command;
      request_seq = tells_other (codes "body") d found (codes "request_seq") seen.noted.request_seq refl holds.noted.request_seq;
      success = tells_other (codes "body") d found (codes "success") seen.noted.success refl holds.noted.success;
      message = tells_other (codes "body") d found (codes "message") seen.noted.message refl holds.noted.message;
      event = tells_other (codes "body") d found (codes "event") seen.noted.event refl holds.noted.event;
    };
    arguments = holds.arguments ∙ sym (ap unless_null (at_other (codes "body") d found (codes "arguments") (apart (codes "body") d found (codes "arguments") refl)));
    body = is ∙ sym (ap unless_null (get_member-put (codes "body") d found));
  }
