use Rattle.std.proofs.Common.{◌∙◌, bytes_eq, sym, ap}
use Rattle.dap_recording.specs.RecordingKey.{name_of}
use Rattle.dap_recording.specs.declared.reading.RecordingKey.TheVariants as key
use Rattle.dap_recording.proofs.OnePassLemmas.{differ, passed}
use Rattle.dap_recording.proofs.one_pass.take_member.Goals as goal

pub returns : goal.returns
returns c =
    let name = c.args.key.now in
    let got = c.in_ok-pass.ensures in
    let no_exit = ap (bytes_eq name) (sym c.name.ensures) ∙ sym c.eq.ensures ∙ c.if-eq.false in
    let no_sources = ap (bytes_eq name) (sym c.name-2.ensures) ∙ sym c.eq-2.ensures ∙ c.if-eq-2.false in
    let no_moments = ap (bytes_eq name) (sym c.name-3.ensures) ∙ sym c.eq-3.ensures ∙ c.if-eq-3.false in (
      got.0,
      got.1,
      λ found holds. passed name got.0 found c.args.seen.now (λ same. differ name (name_of key.Exit) no_exit (sym same)) (λ same. differ name (name_of key.Sources) no_sources (sym same))
          (λ same. differ name (name_of key.Moments) no_moments (sym same)) holds,
    )
