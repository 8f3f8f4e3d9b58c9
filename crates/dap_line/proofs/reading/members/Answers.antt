use Rattle.std.proofs.Common.{◌≡◌, rules, string_bytes, ap, ◌∙◌, subst}
use Rattle.serde_json.specs.Data.{Data, put}
use Rattle.serde_json.specs.View.{view, members_view}
use Rattle.serde_json.proofs.Views.{members_view-insert_entry}
use Rattle.dap_json.specs.ObjectReader.{IsRestOf}
use Rattle.dap_line.proofs.reading.members.Goals as goal

pub loop-found-preserved : goal.loop-found-preserved
loop-found-preserved c =
    let l = c.loop-found in
    let old = members_view l.found.entries in
    let name = c.in-Some.name.now in
    let value = c.in_ok-member.member in
    let named = rw c.in-Some.is at c.in_ok-name.ensures.key in
    let copied : string_bytes c.in_ok-key.key ≡ name = search rules in
    let tree : Data = c.in_ok-tree.field-0 in
    let is : view value ≡ tree = c.in_ok-member.ensures in
    let inserted : members_view c.insert.new.self.entries ≡ put name tree old =
    ap members_view c.in_ok-insert.ensures.entries ∙ members_view-insert_entry l.found.entries c.in_ok-key.key value ∙ ap (λ key. put key (view value) old) copied ∙ ap (λ d. put name d old) is in
    λ all rest. l.invariant all (named tree _ c.in_ok-tree.ensures old all (subst (λ found. IsRestOf c.tree.new.self found all) inserted rest))

pub returns : goal.returns
returns c = c.loop-found.invariant _ (c.in_ok-name.ensures.end c.in_default.is _)
