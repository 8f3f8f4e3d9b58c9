-- Whether two names of a source are the same. A path and a reference are two names, even where they mean one file: this profile's choice.
use Rattle.std.specs.Prelude.{Bool, false, bytes_eq, ◌==◌}
use Rattle.dap_command.specs.declared.source_key.SourceKey.{SourceKey}
use Rattle.dap_command.specs.declared.source_key.SourceKey.TheVariants.{Path, Reference}

abbrev pub is_source : SourceKey → SourceKey → Bool
is_source (Path p) (Path q) = bytes_eq p q
is_source (Reference m) (Reference n) = m == n
is_source _ _ = false
