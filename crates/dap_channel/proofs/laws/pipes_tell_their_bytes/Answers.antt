use Rattle.dap_channel.proofs.Piped.{consumed, appended, ended_there}
use Rattle.dap_channel.proofs.laws.pipes_tell_their_bytes.Goals as goal

pub returns : goal.returns
returns g c = record {
  consumed = consumed (λ p. g.R.Read.remaining p.reader) (λ p. g.W.Write.contents p.writer);
  appended = appended (λ p. g.R.Read.remaining p.reader) (λ p. g.W.Write.contents p.writer);
  ended = ended_there (λ p. g.R.Read.remaining p.reader) (λ p. g.W.Write.contents p.writer);
}
