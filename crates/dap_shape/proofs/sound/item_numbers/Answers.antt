use Rattle.std.proofs.Common.{◌≡◌, ◌-◌, ◌+◌, ◌<◌, ◌++◌, [], length, None, refl, sym, ap, ◌∙◌, arith}
use Rattle.std.specs.List.{cons_option}
use Rattle.std.proofs.lemmas.List.{append-nil}
use Rattle.json.specs.Json.{parse_map, after_end_array, value}
use Rattle.serde_json.specs.Data.{no_items, item}
use Rattle.dap_json.specs.Field.{whole_at}
use Rattle.dap_json.specs.Inside.{if_within, numbers_in}
use Rattle.dap_json.proofs.InsideLemmas.{kept}
use Rattle.dap_json.proofs.ObjectReaderLemmas.{item_read, items_over, one_more_item, none_before}
use Rattle.dap_shape.specs.declared.shape.Kind.TheVariants.{Object}
use Rattle.dap_shape.proofs.SoundLemmas.{more_items}
use Rattle.dap_shape.proofs.sound.item_numbers.Goals as goal

pub items-init : goal.items-init
items-init c = (length c.args.reader.now, omega arith, (λ a. a, none_before _, λ ds. refl, (0, λ ds is. is)), omega arith)

pub items-preserved : goal.items-preserved
items-preserved c =
    let p = value 124 in
    let l = c.items in
    let n = l.invariant.0 in
    let f = l.invariant.2.0 in
    let sound = l.invariant.2.3 in
    let key = c.args.key.now in
    let least = c.args.range.least in
    let most = c.args.range.most in
    let going : (after_end_array l.reader ≡ None) × (c.take_end_array.new.self ≡ l.reader) = grind arith in
    let done = c.in_ok-number.ensures in
    let d = done.ok.0 in
    let r = c.item.new.reader in
    let less : length r < length l.reader = rw (← going.1) done.shorter in
    let turn = item_read p n l.reader r d (omega (arith, l.invariant.1)) going.0 (rw (← going.1) done.ok.1) in
    let number : c.in_ok-number.number ≡ whole_at key d = done.ok.3 in
    let more : c.keep.new.found.items ≡ l.found.items ++ cons_option (if_within least most (whole_at key d)) [] = c.in_ok-keep.ensures ∙ ap (λ x. l.found.items ++ cons_option (if_within least most x) []) number in (
      n - 1,
      omega (arith, l.invariant.1),
      (
        λ ds. f (item d ds),
        l.invariant.2.1 ∙ ap (parse_map f) turn ∙ one_more_item f d _,
        λ ds. l.invariant.2.2 (item d ds) ∙ sym (ap (λ xs. xs ++ numbers_in key least most ds) more ∙ kept l.found.items (if_within least most (whole_at key d)) (numbers_in key least most ds)),
        (sound.0 + 1, λ ds is. sound.1 (item d ds) (more_items sound.0 (Object c.args.name) d ds done.ok.2 is)),
      ),
      omega (arith, l.invariant.3),
    )

pub returns-clause-ok : goal.returns-clause-ok
returns-clause-ok c =
    let p = value 124 in
    let l = c.items in
    let n = l.invariant.0 in
    let f = l.invariant.2.0 in
    let r = c.take_end_array.new.self in
    (f no_items, l.invariant.2.1 ∙ ap (parse_map f) (items_over p n l.reader r l.invariant.1 (grind arith)), l.invariant.2.3.1 no_items refl, sym (l.invariant.2.2 no_items ∙ append-nil l.found.items))
