use Rattle.std.proofs.Common.{◌≡◌, ◌<◌, ◌+◌, ◌∷◌, ◌++◌, [], length, ℕ, List, Option, subst, sym, ap, arith}
use Rattle.dap_explain.specs.Explained.{HasNoted, TakesAndTells, noted_by}
use Rattle.dap_explain.specs.declared.reasoning.ExplainedChecker.{ExplainedChecker}
use Rattle.dap_explain.specs.declared.told.LineTold.{LineTold}
use Rattle.dap_tool.specs.PrivateListed.{mode_of, AreFew}
use Rattle.dap_tool.proofs.listing.Listing.take.Goals as goal

pub returns-in-None-clause-listed : goal.returns-in-None-clause-listed
returns-in-None-clause-listed c = λ texts lines is.
    let takes = subst (λ (o : Option LineTold). TakesAndTells (mode_of c.args.options) texts lines c.args.text.now o c.line.new.self) c.in-None.is (c.in_ok-line.ensures.told (mode_of c.args.options) texts lines is.noted) in
    (lines, record { noted = takes.1; printed = record { text = is.printed.text; count = is.printed.count; client = is.printed.client; adapter = is.printed.adapter } })

pub returns-in-Ok-clause-listed : goal.returns-in-Ok-clause-listed
returns-in-Ok-clause-listed c = λ texts lines is.
    let takes = subst (λ (o : Option LineTold). TakesAndTells (mode_of c.args.options) texts lines c.args.text.now o c.line.new.self) c.in-Some.is (c.in_ok-line.ensures.told (mode_of c.args.options) texts lines is.noted) in
    let line = takes.1.0 in
    let listed = c.in-Ok.ensures in (
      lines ++ line ∷ [],
      record {
        noted = subst (λ (checker : ExplainedChecker). HasNoted (mode_of c.args.options) (texts ++ c.args.text.now ∷ []) (lines ++ line ∷ []) checker) (sym listed.same) takes.1.3;
        printed = listed.printed lines line takes.1.2 (record { text = is.printed.text; count = is.printed.count; client = is.printed.client; adapter = is.printed.adapter });
      },
    )

pub list-requires : goal.list-requires
list-requires c =
    let few = c.requires.few in
    record { count = omega (arith, few.count, c.requires.room); client = omega (arith, few.client, c.requires.room); adapter = omega (arith, few.adapter, c.requires.room) }

pub returns-in-None-clause-few : goal.returns-in-None-clause-few
returns-in-None-clause-few c =
    let few = c.requires.few in
    let one = c.in_ok-line.ensures.one in
    record { count = omega (arith, few.count, one); client = omega (arith, few.client, one); adapter = omega (arith, few.adapter, one) }

pub returns-in-Ok-clause-few : goal.returns-in-Ok-clause-few
returns-in-Ok-clause-few c =
    let few = c.requires.few in
    let one = c.in_ok-line.ensures.one in
    let listed = c.in-Ok.ensures in
    let later = listed.few (noted_by c.args.self.now.checker + 1) (record { count = few.count; client = few.client; adapter = few.adapter }) in
    subst (λ (checker : ExplainedChecker). AreFew (noted_by checker + 1) c.list.new.self) (sym listed.same) (subst (λ n. AreFew (n + 1) c.list.new.self) (sym one) later)
