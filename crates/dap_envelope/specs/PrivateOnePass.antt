-- Words for the private functions that read a message with no tree of its own.
use Rattle.std.specs.Prelude.{◌≡◌, codes}
use Rattle.serde_json.specs.Data.{Members}
use Rattle.serde_json.specs.Find.{get_member}
use Rattle.dap_json.specs.Field.{unless_null}
use Rattle.dap_envelope.specs.Heading.{NotesAll}
use Rattle.dap_envelope.specs.declared.one_pass.Envelope.{Envelope}

-- what was taken is what these members hold
pub record HoldsAll (seen : Envelope) (ms : Members) : Type 0 where
  pub noted : NotesAll seen.noted ms
  pub arguments : seen.arguments ≡ unless_null (get_member (codes "arguments") ms)
  pub body : seen.body ≡ unless_null (get_member (codes "body") ms)
