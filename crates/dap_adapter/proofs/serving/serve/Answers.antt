use Rattle.dap_adapter.proofs.Knowing.{known}
use Rattle.dap_adapter.proofs.serving.serve.Goals as goal

pub returns-clause-bytes : goal.returns-clause-bytes
returns-clause-bytes g c = known (λ p. g.R.Read.remaining p.reader) (λ p. g.W.Write.contents p.writer) c.pipes_tell_their_bytes.ensures g.D.Debuggee.shown g.D.Debuggee.follows (record { limits = c.args.limits; most = c.args.max_reads; channel = c.args.pipe.now; debuggee = c.args.debuggee }) _ _ c.serve_channel.ensures
