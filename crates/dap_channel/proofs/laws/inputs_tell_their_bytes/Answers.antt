use Rattle.dap_channel.proofs.Piped.{input_consumed, input_ended}
use Rattle.dap_channel.proofs.laws.inputs_tell_their_bytes.Goals as goal

pub returns : goal.returns
returns g c = record {
  consumed = input_consumed (λ p. g.R.Read.remaining p.reader);
  ended = input_ended (λ p. g.R.Read.remaining p.reader);
}
