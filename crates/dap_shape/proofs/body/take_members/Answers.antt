use Rattle.std.proofs.Common.{◌≡◌, ◌-◌, length, Some, refl, sym, ◌∙◌, arith}
use Rattle.std.specs.Prelude.{map}
use Rattle.json.specs.Json.{read_key, value}
use Rattle.json.proofs.Grammar.{read_key-shorter}
use Rattle.serde_json.specs.Data.{no_members, put}
use Rattle.dap_json.proofs.ObjectReaderLemmas.{member_read, members_over}
use Rattle.dap_shape.specs.Seen.{row_seen}
use Rattle.dap_shape.proofs.SoundLemmas.{none_kept, all_kept}
use Rattle.dap_shape.proofs.body.take_members.Goals as goal

pub members-init : goal.members-init
members-init c = (length c.args.reader.now, omega arith, (no_members, refl, none_kept (map row_seen c.args.rows.now) 40 c.requires.few.few, c.requires.gathered), omega arith)

pub members-preserved : goal.members-preserved
members-preserved c =
    let p = value 125 in
    let l = c.members in
    let n = l.invariant.0 in
    let old = l.invariant.2.0 in
    let k = c.in-Some.name.now in
    let s = c.next_key.new.self in
    let named : read_key l.reader ≡ Some (Some k, s) = grind arith in
    let done = c.in_ok-take_member.ensures in
    let d = done.ok.0 in
    let r = c.take_member.new.reader in
    let less = read_key-shorter l.reader (Some k) s named in
    let lesser = done.shorter in (
      n - 1,
      omega (arith, l.invariant.1),
      (put k d old, l.invariant.2.1 ∙ member_read p old n k l.reader s r d (omega (arith, l.invariant.1)) named done.ok.1, done.ok.3 old l.invariant.2.2, done.ok.2 old l.invariant.2.3),
      omega (arith, l.invariant.3),
    )

pub returns-clause-ok : goal.returns-clause-ok
returns-clause-ok c =
    let p = value 125 in
    let l = c.members in
    let n = l.invariant.0 in
    let old = l.invariant.2.0 in (
      old,
      l.invariant.2.1 ∙ members_over p old n l.reader c.next_key.new.self l.invariant.1 (grind arith),
      l.invariant.2.3,
      all_kept old (map row_seen c.args.rows.now) l.seen l.invariant.2.2 (sym c.lacks.ensures ∙ c.if-lacks.false),
    )
