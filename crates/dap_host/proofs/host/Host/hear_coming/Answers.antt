use Rattle.std.proofs.Common.{refl}
use Rattle.std.proofs.lemmas.Result.{on_ok_weaker}
use Rattle.dap_live.specs.declared.mail.Dropped.TheVariants.{TooManySources}
use Rattle.dap_host.specs.Hearing.{not_heard, heard, no_room}
use Rattle.dap_line.specs.declared.refusal.Refusal.TheVariants.{Dropped}
use Rattle.dap_host.proofs.host.Host.hear_coming.Goals as goal

pub returns-then-not-has_room-clause-hears : goal.returns-then-not-has_room-clause-hears
returns-then-not-has_room-clause-hears c = on_ok_weaker c.refuse.result (λ line.
    not_heard (Dropped TooManySources) (no_room c.args.coming c.requires.comes (λ room. cc (c.if-not-has_room.ensures.1 room)) refl) (record { line = line; same = refl })) c.refuse.ensures.refused

pub returns-clause-hears : goal.returns-clause-hears
returns-clause-hears c = on_ok_weaker c.tell_or_refuse.result (λ tells. heard c.args.coming (record { comes = c.requires.comes; room = c.if-not-has_room.ensures.0 refl }) tells) c.tell_or_refuse.ensures.tells
