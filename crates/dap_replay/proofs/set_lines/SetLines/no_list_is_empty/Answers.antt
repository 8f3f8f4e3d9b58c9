use Rattle.std.proofs.Common.{length, ◌≤◌, subst}
use Rattle.dap_tables.specs.SourceMap.{count, HasNoEmptyList}
use Rattle.dap_replay.proofs.SetLines.{lines-filled, lines-few}
use Rattle.dap_replay.proofs.set_lines.SetLines.no_list_is_empty.Goals as goal

pub returns-clause-filled : goal.returns-clause-filled
returns-clause-filled c = subst HasNoEmptyList c.self.view_is (lines-filled c.self.inside.sources c.no_list_is_empty.ensures.filled)

pub returns-clause-few : goal.returns-clause-few
returns-clause-few c = subst (λ ss. length ss ≤ count ss) c.self.view_is (lines-few c.self.inside.sources c.no_list_is_empty.ensures.few)
