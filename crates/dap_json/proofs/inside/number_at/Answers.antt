use Rattle.std.proofs.Common.{◌≡◌, ◌-◌, length, Some, true, false, bytes_eq, refl, ◌∙◌, arith}
use Rattle.json.specs.Json.{read_key, value}
use Rattle.json.proofs.Grammar.{read_key-shorter}
use Rattle.serde_json.specs.Data.{no_members, put}
use Rattle.dap_json.proofs.ObjectReaderLemmas.{member_read, members_over}
use Rattle.dap_json.proofs.InsideLemmas.{noted_here, noted_before}
use Rattle.dap_json.proofs.inside.number_at.Goals as goal

pub members-init : goal.members-init
members-init c = (length c.args.reader.now, omega arith, (no_members, refl, refl), omega arith)

pub members-preserved-then-eq : goal.members-preserved-then-eq
members-preserved-then-eq c =
    let p = value 123 in
    let l = c.members in
    let n = l.invariant.0 in
    let old = l.invariant.2.0 in
    let k = c.in-Some.name.now in
    let s = c.next_key.new.self in
    let named : read_key l.reader ≡ Some (Some k, s) = grind arith in
    let done = c.in_ok-passed.ensures in
    let d = done.ok.0 in
    let r = c.value.new.reader in
    let less = read_key-shorter l.reader (Some k) s named in
    let lesser = done.shorter in
    let same : bytes_eq k c.args.key.now ≡ true = grind arith in (
      n - 1,
      omega (arith, l.invariant.1),
      (put k d old, l.invariant.2.1 ∙ member_read p old n k l.reader s r d (omega (arith, l.invariant.1)) named done.ok.1, c.whole-found.ensures d done.ok.2 ∙ noted_here c.args.key.now k d old same),
      omega (arith, l.invariant.3),
    )

pub members-preserved : goal.members-preserved
members-preserved c =
    let p = value 123 in
    let l = c.members in
    let n = l.invariant.0 in
    let old = l.invariant.2.0 in
    let k = c.in-Some.name.now in
    let s = c.next_key.new.self in
    let named : read_key l.reader ≡ Some (Some k, s) = grind arith in
    let done = c.in_ok-passed.ensures in
    let d = done.ok.0 in
    let r = c.value.new.reader in
    let less = read_key-shorter l.reader (Some k) s named in
    let lesser = done.shorter in
    let apart : bytes_eq k c.args.key.now ≡ false = grind arith in (
      n - 1,
      omega (arith, l.invariant.1),
      (put k d old, l.invariant.2.1 ∙ member_read p old n k l.reader s r d (omega (arith, l.invariant.1)) named done.ok.1, noted_before c.args.key.now k d old l.found apart l.invariant.2.2),
      omega (arith, l.invariant.3),
    )

pub returns-clause-ok : goal.returns-clause-ok
returns-clause-ok c =
    let p = value 123 in
    let l = c.members in
    let n = l.invariant.0 in
    let old = l.invariant.2.0 in
    (old, l.invariant.2.1 ∙ members_over p old n l.reader c.next_key.new.self l.invariant.1 (grind arith), l.invariant.2.2)
