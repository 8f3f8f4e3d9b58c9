use Rattle.std.proofs.Common.{◌<◌, length, rules}
use Rattle.dap_host.proofs.PartLemmas.{some_left, nothing_left, no_part_yet, none_left, goes_on_part_way, until_part_way, stops_part_way, shorter}
use Rattle.dap_host.proofs.host.Host.tell_rest.Goals as goal

pub loop-left-init : goal.loop-left-init
loop-left-init c = record { left = search rules; going = c.requires.going; in_a_run = c.requires.in_a_run; part_way = no_part_yet c.args.self.now c.args.category.now c.args.text.now c.args.out.now.items }

pub loop-left-preserved : goal.loop-left-preserved
loop-left-preserved c =
    let some : 0 < length c.loop-left.left.now = some_left (length c.loop-left.left.now) c.is_empty.result c.is_empty.ensures c.loop-left-test.true in
    record {
      left = search rules;
      going = c.in-Ok-None.ensures.going;
      in_a_run = c.in-Ok-None.ensures.in_a_run;
      part_way = goes_on_part_way c.args.self.now c.args.category.now c.args.text.now c.args.out.now.items c.loop-left.left.now c.loop-left.out.items c.loop-left.self c.loop-left.invariant.part_way some c.split_at.result.0.now c.split_at.result.1.now
          c.piece_length.result c.piece_length.ensures.length c.split_at.ensures.front c.split_at.ensures.back c.none.result c.none.ensures c.tell_piece.new.self c.tell_piece.new.out.items c.in-Ok-None.field-0 c.in-Ok-None.field-0-is c.in-Ok-None.ensures.tells;
    }

pub returns-in-Ok-Some-clause-tells : goal.returns-in-Ok-Some-clause-tells
returns-in-Ok-Some-clause-tells c =
    let some : 0 < length c.loop-left.left.now = some_left (length c.loop-left.left.now) c.is_empty.result c.is_empty.ensures c.loop-left-test.true in
    until_part_way c.args.self.now c.args.category.now c.args.text.now c.args.out.now.items c.loop-left.left.now c.loop-left.out.items c.loop-left.self c.loop-left.invariant.part_way some c.split_at.result.0.now c.split_at.result.1.now
    c.piece_length.result c.piece_length.ensures.length c.split_at.ensures.front c.split_at.ensures.back c.none.result c.none.ensures c.tell_piece.new.self c.tell_piece.new.out.items c.in-Ok-Some.field-0 c.in-Ok-Some.why c.in-Ok-Some.field-0-is c.in-Ok-Some.ensures.tells

pub returns-in-Err-clause-stops : goal.returns-in-Err-clause-stops
returns-in-Err-clause-stops c = λ memory.
    let some : 0 < length c.loop-left.left.now = some_left (length c.loop-left.left.now) c.is_empty.result c.is_empty.ensures c.loop-left-test.true in
    stops_part_way c.args.self.now c.args.category.now c.args.text.now c.args.out.now.items c.loop-left.left.now c.loop-left.out.items c.loop-left.self c.loop-left.invariant.part_way some c.split_at.result.0.now c.split_at.result.1.now
    c.piece_length.result c.piece_length.ensures.length c.split_at.ensures.front c.split_at.ensures.back c.none.result c.none.ensures c.tell_piece.new.self c.tell_piece.new.out.items c.in-Err.fault (c.in-Err.ensures.stops memory)

pub returns-clause-tells : goal.returns-clause-tells
returns-clause-tells c = none_left c.args.self.now c.args.category.now c.args.text.now c.args.out.now.items c.loop-left.left.now c.loop-left.out.items c.loop-left.self (nothing_left c.loop-left.left.now c.is_empty.result c.is_empty.ensures c.loop-left-test.false) c.loop-left.invariant.part_way

pub loop-left-smaller : goal.loop-left-smaller
loop-left-smaller c =
    let some : 0 < length c.loop-left.left.now = some_left (length c.loop-left.left.now) c.is_empty.result c.is_empty.ensures c.loop-left-test.true in
    shorter c.args.self.now c.args.category.now c.args.text.now c.args.out.now.items c.loop-left.left.now c.loop-left.out.items c.loop-left.self c.loop-left.invariant.part_way some c.split_at.result.0.now c.split_at.result.1.now
    c.piece_length.result c.piece_length.ensures.length c.split_at.ensures.front c.split_at.ensures.back c.none.result c.none.ensures c.tell_piece.new.self c.tell_piece.new.out.items
