use Rattle.std.proofs.Common.{◌≡◌, ◌++◌, None, sym, ap, ◌∙◌, subst, arith}
use Rattle.std.specs.Prelude.{map}
use Rattle.serde_json.specs.Data.{array}
use Rattle.dap_command.specs.Objects.{number_key_of, least_of}
use Rattle.dap_json.specs.Inside.{numbers_in}
use Rattle.dap_shape.specs.Faults.{fault_of}
use Rattle.dap_shape.specs.Seen.{row_seen}
use Rattle.dap_shape.specs.declared.shape.Kind.TheVariants.{Object}
use Rattle.dap_shape.specs.declared.shape.Shape.{Shape}
use Rattle.dap_shape.specs.declared.shape.Shape.TheVariants.{Each}
use Rattle.dap_shape.proofs.SoundLemmas.{place_below, kept_more}
use Rattle.dap_shape.proofs.body.list_of_row.Goals as goal

pub bounds-seen-place : goal.bounds-seen-place
bounds-seen-place c =
    let below = place_below (map row_seen c.args.rows.now) c.args.name.now c.in-Some.place (row_seen c.in-Some.row) (sym c.in-Some.ensures) in
    omega (arith, below, c.requires.few)

pub returns-clause-ok : goal.returns-clause-ok
returns-clause-ok c =
    let done = c.in_ok-column.ensures.ok in
    let ds = done.0 in
    let rows = map row_seen c.args.rows.now in
    let shape : (row_seen c.in-Some.row).shape ≡ Each (Object c.in-Each-Object.type_name) = grind arith in
    let key = c.number_key.result.now in
    let wanted = number_key_of c.args.objects in
    let range = c.range.result in
    let within = ap (λ k. numbers_in k range.least range.most ds) c.number_key.ensures ∙ ap (λ least. numbers_in wanted least range.most ds) c.range.ensures.least ∙ ap (λ most. numbers_in wanted (least_of c.args.objects) most ds) c.range.ensures.most in
    let is = done.3 ∙ ap (λ xs. xs ++ numbers_in key range.least range.most ds) c.clear.ensures.items ∙ within in
    (ds, done.1, is, λ ms kept. kept_more ms rows c.args.seen.now c.args.name.now (array ds) c.in-Some.place (row_seen c.in-Some.row) c.requires.apart (sym c.in-Some.ensures) (λ some. subst (λ (s : Shape). fault_of s (array ds) ≡ None) (sym shape) done.2) kept)
