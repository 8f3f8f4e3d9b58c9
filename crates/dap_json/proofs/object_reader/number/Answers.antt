use Rattle.std.proofs.Common.{◌∙◌, ap, refl, sym}
use Rattle.serde_json.specs.Data.{unsigned}
use Rattle.serde_json.specs.Read.{number_of}
use Rattle.dap_json.proofs.object_reader.number.Goals as goal

pub returns-in-Some : goal.returns-in-Some
returns-in-Some c = (unsigned c.in-Some.n, ap number_of (sym c.as_bytes.ensures.value) ∙ c.in-Some.ensures, refl)
