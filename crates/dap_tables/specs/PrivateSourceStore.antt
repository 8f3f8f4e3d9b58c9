-- How a map from sources to lists is stored: the lists by path, and those by reference.
use Rattle.std.specs.Prelude.{ℕ, List, ◌++◌, map, String, string_bytes, Vec}
use Rattle.std.specs.BTreeMap.{BTreeMap}
use Rattle.dap_command.specs.declared.source_key.SourceKey.TheVariants.{Path, Reference}
use Rattle.dap_tables.specs.SourceMap.{OfSource}

abbrev pub at_path : {A B T : Type 0} → String A × Vec T B → OfSource T
at_path e = record { source = Path (string_bytes e.0); set = e.1.items }

abbrev pub at_reference : {B T : Type 0} → ℕ × Vec T B → OfSource T
at_reference e = record { source = Reference e.0; set = e.1.items }

abbrev pub sources_of : {A B T : Type 0} → BTreeMap (String A) (Vec T B) → BTreeMap ℕ (Vec T B) → List (OfSource T)
sources_of paths references = map at_path paths.entries ++ map at_reference references.entries
