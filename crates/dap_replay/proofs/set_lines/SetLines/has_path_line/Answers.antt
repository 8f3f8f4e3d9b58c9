use Rattle.std.proofs.Common.{sym, ap, subst, ◌∙◌}
use Rattle.dap_command.specs.declared.source_key.SourceKey.TheVariants.{Path}
use Rattle.dap_tables.specs.SourceMap.{set_of}
use Rattle.dap_replay.specs.Moves.{has_line}
use Rattle.dap_replay.specs.PrivateSetLines.{lines_of, IsRising}
use Rattle.dap_replay.proofs.SetLines.{lines-of-source, rising-of-source}
use Rattle.dap_replay.proofs.set_lines.SetLines.has_path_line.Goals as goal

pub has_line-requires : goal.has_line-requires
has_line-requires c = subst IsRising (sym c.of_path.ensures) (rising-of-source (Path c.args.path.now) c.self.inside.sources c.self.invariant)

pub returns : goal.returns
returns c =
    c.has_line.ensures
    ∙ ap (λ set. has_line c.args.line (lines_of set)) c.of_path.ensures
    ∙ ap (λ lines. has_line c.args.line lines) (sym (lines-of-source (Path c.args.path.now) c.self.inside.sources))
    ∙ ap (λ ss. has_line c.args.line (set_of (Path c.args.path.now) ss)) c.self.view_is
