-- How members are held that stand beside others. Only their model cites this.
use Rattle.std.specs.Prelude.{List, [], Option, Some, None, Vec}
use Rattle.std.specs.declared.alloc.Global.{Global}
use Rattle.std.specs.declared.sync.Arc.{Arc}
use Rattle.dap_json.specs.declared.more.Member.{Member}

abbrev pub members_held : Option (Arc (Vec Member Global) Global) → List Member
members_held None = []
members_held (Some arc) = arc.value.items
