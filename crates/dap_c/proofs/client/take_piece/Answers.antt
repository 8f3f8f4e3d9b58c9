use Rattle.std.proofs.Common.{rules, sym, subst}
use Rattle.dap_client.specs.Calls.{Takes}
use Rattle.dap_client.specs.ClientState.{ClientState}
use Rattle.dap_c.proofs.client.take_piece.Goals as goal

-- the client before is that of the call, and the client after stays while the bytes are kept
pub returns-in-Ok-clause-takes : goal.returns-in-Ok-clause-takes
returns-in-Ok-clause-takes c ok = let got = c.in-Ok.got in record {
  got = got;
  takes = let P : ClientState → ClientState → Type 0 = λ e e'. Takes e c.args.piece.now got got.delivered e' in
      subst (λ e. P e c.keep.new.held.client) c.begin_frame.ensures.client (subst (λ e. P c.begin_frame.new.held.client e) (sym c.keep.ensures.client) c.in-Ok.ensures.takes);
  used = c.keep.ensures.used;
  bytes_are = c.keep.ensures.bytes;
  bytes_length = c.keep.ensures.bytes_length;
  whole = c.keep.ensures.whole;
  frame_is = search rules;
  frame_length = c.keep.ensures.frame_length;
}
