-- The heading of a message: its number, its kind and its names, without its trees and its reason.
use Rattle.std.specs.Prelude.{◌≡◌, ℕ, List, codes, nat_le, bytes_eq, if◌then◌else◌, Option, Some, None, option_and_then}
use Rattle.serde_json.specs.Data.{Data, Members}
use Rattle.serde_json.specs.Find.{get_member, as_number, as_u64}
use Rattle.dap_json.specs.Field.{max_seq, if_passes}
use Rattle.dap_json.specs.ObjectReader.{Describes}
use Rattle.dap_json.specs.declared.object_reader.MemberValue.{MemberValue}
use Rattle.dap_envelope.specs.declared.message.Message.{Message}
use Rattle.dap_envelope.specs.declared.message.Kind.{Kind}
use Rattle.dap_envelope.specs.declared.message.Kind.TheVariants.{Request, Response, Event, Other}
use Rattle.dap_envelope.specs.declared.heading.Heading.{Heading}
use Rattle.dap_envelope.specs.declared.heading.HeadingKind.{HeadingKind}
use Rattle.dap_envelope.specs.declared.heading.HeadingKind.TheVariants.{Request as RequestNamed, Response as ResponseNamed, Event as EventNamed, Other as OtherNamed}
use Rattle.dap_envelope.specs.declared.heading.Noted.{Noted}

abbrev pub IsKindOf : HeadingKind → Kind → Type 0
IsKindOf (RequestNamed name) (Request command arguments) = name.now ≡ command
IsKindOf (RequestNamed name) (Response request_seq success command message body) = ⊥
IsKindOf (RequestNamed name) (Event event body) = ⊥
IsKindOf (RequestNamed name) (Other tag) = ⊥
IsKindOf (ResponseNamed n b name) (Request command arguments) = ⊥
IsKindOf (ResponseNamed n b name) (Response request_seq success command message body) = (n ≡ request_seq) × (b ≡ success) × (name.now ≡ command)
IsKindOf (ResponseNamed n b name) (Event event body) = ⊥
IsKindOf (ResponseNamed n b name) (Other tag) = ⊥
IsKindOf (EventNamed name) (Request command arguments) = ⊥
IsKindOf (EventNamed name) (Response request_seq success command message body) = ⊥
IsKindOf (EventNamed name) (Event event body) = name.now ≡ event
IsKindOf (EventNamed name) (Other tag) = ⊥
IsKindOf (OtherNamed name) (Request command arguments) = ⊥
IsKindOf (OtherNamed name) (Response request_seq success command message body) = ⊥
IsKindOf (OtherNamed name) (Event event body) = ⊥
IsKindOf (OtherNamed name) (Other tag) = name.now ≡ tag

-- the message has this heading
pub record IsHeadingOf (heading : Heading) (m : Message) : Type 0 where
  pub seq : heading.seq ≡ m.seq
  pub kind : IsKindOf heading.kind m.kind

-- ---- what was noted

-- what is noted at the wanted key after a member
abbrev pub after_note : List ℕ → List ℕ → MemberValue → Option MemberValue → Option MemberValue
after_note wanted key value old = if bytes_eq key wanted then Some value else old

-- what was noted tells of what stands there
abbrev pub Notes : Option MemberValue → Option Data → Type 0
Notes None None = Unit {0}
Notes None (Some d) = ⊥
Notes (Some value) None = ⊥
Notes (Some value) (Some d) = Describes value d

pub record NotesAll (noted : Noted) (ms : Members) : Type 0 where
  pub seq : Notes noted.seq (get_member (codes "seq") ms)
  pub tag : Notes noted.tag (get_member (codes "type") ms)
  pub command : Notes noted.command (get_member (codes "command") ms)
  pub request_seq : Notes noted.request_seq (get_member (codes "request_seq") ms)
  pub success : Notes noted.success (get_member (codes "success") ms)
  pub message : Notes noted.message (get_member (codes "message") ms)
  pub event : Notes noted.event (get_member (codes "event") ms)

abbrev pub whole_in : Option Data → Option ℕ
whole_in found = if_passes (λ n. nat_le n max_seq) (option_and_then as_u64 (option_and_then as_number found))
