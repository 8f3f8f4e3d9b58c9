use Rattle.dap_host.proofs.PartLemmas.{then_until, then_stops, at_first, stops_at_first}
use Rattle.dap_host.proofs.host.Host.tell_output.Goals as goal

pub returns-in-Ok-None-clause-tells : goal.returns-in-Ok-None-clause-tells
returns-in-Ok-None-clause-tells c =
    then_until c.args.self.now c.args.category.now c.args.more c.args.text.now c.split_at.result.0.now c.split_at.result.1.now c.args.out.now.items c.tell_piece.new.out.items c.piece_length.result c.tell_piece.new.self
    c.piece_length.ensures.length c.split_at.ensures.front c.split_at.ensures.back c.in-Ok-None.field-0 c.in-Ok-None.field-0-is c.in-Ok-None.ensures.tells c.tell_rest.new.self c.tell_rest.new.out.items c.tell_rest.result c.tell_rest.ensures.tells

pub returns-in-Ok-None-clause-stops : goal.returns-in-Ok-None-clause-stops
returns-in-Ok-None-clause-stops c =
    then_stops c.args.self.now c.args.category.now c.args.more c.args.text.now c.split_at.result.0.now c.split_at.result.1.now c.args.out.now.items c.tell_piece.new.out.items c.piece_length.result c.tell_piece.new.self
    c.piece_length.ensures.length c.split_at.ensures.front c.split_at.ensures.back c.in-Ok-None.field-0 c.in-Ok-None.field-0-is c.in-Ok-None.ensures.tells c.tell_rest.new.self c.tell_rest.new.out.items c.tell_rest.result c.tell_rest.ensures.stops

pub returns-in-Ok-Some-clause-tells : goal.returns-in-Ok-Some-clause-tells
returns-in-Ok-Some-clause-tells c =
    at_first c.args.self.now c.args.category.now c.args.more c.args.text.now c.split_at.result.0.now c.split_at.result.1.now c.args.out.now.items c.tell_piece.new.out.items c.piece_length.result c.tell_piece.new.self
    c.piece_length.ensures.length c.split_at.ensures.front c.split_at.ensures.back c.in-Ok-Some.field-0 c.in-Ok-Some.why c.in-Ok-Some.field-0-is c.in-Ok-Some.ensures.tells

pub returns-in-Err-clause-stops : goal.returns-in-Err-clause-stops
returns-in-Err-clause-stops c = λ some.
    stops_at_first c.args.self.now c.args.category.now c.args.more c.args.text.now c.split_at.result.0.now c.split_at.result.1.now c.args.out.now.items c.tell_piece.new.out.items c.piece_length.result c.tell_piece.new.self
    c.piece_length.ensures.length c.split_at.ensures.front c.split_at.ensures.back c.in-Err.fault (c.in-Err.ensures.stops some)
