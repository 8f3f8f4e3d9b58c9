use Rattle.std.proofs.Common.{rules, ◌≡◌, ◌<◌, ◌+◌, ◌++◌, ◌∷◌, [], length, Some, None, subst, arith}
use Rattle.dap_tables.specs.References.{ReferenceTable, place_of, target_of}
use Rattle.dap_tables.proofs.ReferenceLemmas.{placed, at-place, at-end, order-push}
use Rattle.dap_tables.proofs.references.References.intern.Goals as goal

pub returns-in-Some-clause-names : goal.returns-in-Some-clause-names
returns-in-Some-clause-names c =
    let inside = c.self.inside in
    let place : place_of c.args.target inside.live ≡ Some c.in-Some.place = search rules in
    subst (λ (t : ReferenceTable). target_of t.references (inside.base + 1 + c.in-Some.place) ≡ Some c.args.target) c.self.view_is
    (at-place inside.base c.in-Some.place inside.live c.args.target (placed c.args.target inside.live c.in-Some.place place))

pub invariant_of-self-2 : goal.invariant_of-self-2
invariant_of-self-2 c =
    let inside = c.self.inside in
    let none : place_of c.args.target inside.live ≡ None = search rules in
    let free : length inside.live < inside.room = search rules in
    let left : inside.base + length inside.live < inside.greatest = search rules in
    let items : c.push.new.self ≡ inside.live ++ c.args.target ∷ [] = search rules in
    order-push inside.room inside.greatest inside.base inside.live c.push.new.self c.args.target c.self.invariant none free left items

pub returns-clause-names : goal.returns-clause-names
returns-clause-names c =
    let inside = c.self.inside in
    let items : c.push.new.self ≡ inside.live ++ c.args.target ∷ [] = search rules in
    let long : c.len-2.result ≡ length inside.live = search rules in
    at-end inside.base inside.live c.push.new.self c.args.target (inside.base + c.len-2.result + 1) items (omega arith)

pub returns-clause-orderly : goal.returns-clause-orderly
returns-clause-orderly c = invariant_of-self-2 c
