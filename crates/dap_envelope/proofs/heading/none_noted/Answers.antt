use Rattle.dap_envelope.proofs.heading.none_noted.Goals as goal

pub returns : goal.returns
returns c = record { seq = tt; tag = tt; command = tt; request_seq = tt; success = tt; message = tt; event = tt }
