use Rattle.std.proofs.Common.{◌∙◌}
use Rattle.memchr.specs.Find.{is_byte}
use Rattle.dap_host.proofs.FoundLemmas.{any_found}
use Rattle.dap_host.proofs.fetching.has_line.Goals as goal

pub returns : goal.returns
returns c = c.is_some.ensures ∙ any_found (is_byte 10) c.args.bytes.now c.memchr.result c.memchr.ensures
