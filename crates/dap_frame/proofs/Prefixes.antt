-- A frame before its last byte.
use Rattle.std.proofs.Common.{◌≡◌, ℕ, ◌+◌, ◌<◌, ◌≤◌, Bool, true, false, cond, List, [], ◌∷◌, ◌++◌, length, take, drop, refl, sym, ap, ◌∙◌, subst, Option, Some, None, ◌⊎◌, inl, inr, arith}
use Rattle.std.specs.Prelude.{nat_eq}
use Rattle.std.specs.List.{starts_with}
use Rattle.std.specs.Option.{option_map}
use Rattle.std.specs.Str.{bytes_eq}
use Rattle.std.proofs.lemmas.List.{length-append, length-take, length-drop, append-nil, take-append-le, take-append-drop, take_at}
use Rattle.std.proofs.lemmas.Bool.{cases_lt}
use Rattle.std.proofs.lemmas.Slice.Eq.{bytes_eq-Decides}
use Rattle.dap_frame.specs.declared.limits.Bounds.{Bounds}
use Rattle.dap_frame.specs.Header.{blank_line}
use Rattle.dap_frame.specs.Stream.{Frame, NoFrame}
use Rattle.dap_frame.specs.Verdict.{block_end, verdict, IsUnrefused}
use Rattle.dap_frame.specs.Stage.{Announces}
use Rattle.dap_frame.proofs.Grammar.{end_block}
use Rattle.dap_frame.proofs.Blocks.{end_is}
use Rattle.dap_frame.proofs.Streams.{frame_end, frame_judged, no_frame_open, no_frame_part}
use Rattle.dap_frame.proofs.Told.{open_unrefused, part_unrefused, verdict_part}

starts_more : (c : ℕ) (cs q : List ℕ) (b : Bool) → 3 ≤ length cs → starts_with nat_eq (c ∷ cs) blank_line ≡ b → starts_with nat_eq (c ∷ (cs ++ q)) blank_line ≡ b
starts_more c cs q b long is =
    let same : take 3 (cs ++ q) ≡ take 3 cs = take-append-le 3 cs q long in
    ap (λ z. bytes_eq blank_line (c ∷ z)) same ∙ is

-- an end that has come stays where it is
pub block_end-more : (p q : List ℕ) (e : ℕ) → block_end p ≡ Some e → block_end (p ++ q) ≡ Some e
block_end-more [] q e h = cc
block_end-more (c ∷ cs) q e h = at (starts_with nat_eq (c ∷ cs) blank_line) (block_end cs) refl refl (λ k g. block_end-more cs q k g) h
  where
    at : (b : Bool) (o : Option ℕ) → starts_with nat_eq (c ∷ cs) blank_line ≡ b → block_end cs ≡ o → ((k : ℕ) → o ≡ Some k → block_end (cs ++ q) ≡ Some k) → cond b (Some 4) (option_map (λ n. n + 1) o) ≡ Some e → block_end (c ∷ (cs ++ q)) ≡ Some e
    at true o starts is later g =
        let blank : blank_line ≡ take 4 (c ∷ cs) = (bytes_eq-Decides blank_line (take 4 (c ∷ cs))).0 starts in
        let long : 3 ≤ length cs = omega (arith, ap length blank, length-take 3 cs) in
        rw (starts_more c cs q true long starts) g
    at false None starts is later g = cc
    at false (Some k) starts is later g =
        let found = end_is cs k is in
        let long : 3 ≤ length cs = omega (arith, ap length found.2, length-append found.0 (13 ∷ 10 ∷ 13 ∷ 10 ∷ found.1)) in
        rw (starts_more c cs q false long starts, later k refl) g

module _ (bounds : Bounds) (f x p q : List ℕ) (b : ℕ) (fr : Frame bounds f x) (cut : f ≡ p ++ b ∷ q) where
  count : length p + (1 + length q) ≡ length fr.header + length x
  count = omega (arith, ap length cut, length-append p (b ∷ q), ap length fr.spelled, length-append fr.header x)

  ends : block_end f ≡ Some (length fr.header)
  ends = ap block_end (sym (append-nil f)) ∙ frame_end bounds f x [] fr

  none_at : (o : Option ℕ) → block_end p ≡ o → length p < length fr.header → block_end p ≡ None
  none_at None is short = is
  none_at (Some e) is short =
      let here : block_end f ≡ Some e = ap block_end cut ∙ block_end-more p (b ∷ q) e is in
      let same : e ≡ length fr.header = let h = ends in cc in
      let found = end_is p e is in
      absurd (omega (arith, ap length found.2, length-append found.0 (13 ∷ 10 ∷ 13 ∷ 10 ∷ found.1), found.3))

  announces : Announces bounds fr.header (length x)
  announces = record { ends = ap block_end (sym (append-nil fr.header)) ∙ end_block fr.header [] (length x) fr.announced; fits = fr.header_fits; judged_so = frame_judged bounds f x fr }

  held : length fr.header ≤ length p → p ≡ fr.header ++ drop (length fr.header) p
  held long =
      let a : take (length fr.header) (fr.header ++ x) ≡ fr.header = take_at fr.header x (length fr.header) refl in
      let c : take (length fr.header) (p ++ b ∷ q) ≡ take (length fr.header) p = take-append-le (length fr.header) p (b ∷ q) long in
      let same : take (length fr.header) p ≡ fr.header = sym c ∙ ap (take (length fr.header)) (sym cut ∙ fr.spelled) ∙ a in
      sym (take-append-drop (length fr.header) p) ∙ ap (λ z. z ++ drop (length fr.header) p) same

  at_front : (length p < length fr.header) ⊎ (length fr.header ≤ length p) → NoFrame bounds p × IsUnrefused (verdict bounds p)
  at_front (inl short) =
      let none = none_at (block_end p) refl short in
      (no_frame_open bounds p none, open_unrefused bounds p (none, omega (arith, fr.header_fits)))
  at_front (inr long) =
      let rest : List ℕ = drop (length fr.header) p in
      let short : length rest < length x = omega (arith, length-drop (length fr.header) p, count) in
      let is = held long in (
        subst (NoFrame bounds) (sym is) (no_frame_part bounds fr.header rest (length x) announces short),
        part_unrefused bounds _ (ap (verdict bounds) is ∙ verdict_part bounds fr.header rest (length x) announces),
      )

  pub before_end : NoFrame bounds p × IsUnrefused (verdict bounds p)
  before_end = at_front (cases_lt (length p) (length fr.header))
