use Rattle.std.proofs.Common.{◌≡◌, List, ℕ, Option, sym, subst}
use Rattle.serde_json.specs.Data.{put}
use Rattle.serde_json.specs.Find.{get_member}
use Rattle.dap_json.specs.declared.object_reader.MemberValue.{MemberValue}
use Rattle.dap_envelope.specs.Heading.{after_note, Notes}
use Rattle.dap_envelope.proofs.HeadingLemmas.{told}
use Rattle.dap_envelope.proofs.heading.note_member.Goals as goal

pub returns : goal.returns
returns c = λ d found is all.
    let key = c.args.key.now in
    let value = c.args.value in
    let tells : (wanted : List ℕ) (old new : Option MemberValue) → new ≡ after_note wanted key value old → Notes old (get_member wanted found) → Notes new (get_member wanted (put key d found)) =
    λ wanted old new e t. subst (λ n. Notes n (get_member wanted (put key d found))) (sym e) (told wanted key value old d found is t) in
    record {
      seq = tells _ _ _ c.note.ensures all.seq;
      tag = tells _ _ _ c.note-2.ensures all.tag;
      command = tells _ _ _ c.note-3.ensures all.command;
      request_seq = tells _ _ _ c.note-4.ensures all.request_seq;
      success = tells _ _ _ c.note-5.ensures all.success;
      message = tells _ _ _ c.note-6.ensures all.message;
      event = tells _ _ _ c.note-7.ensures all.event;
    }
