-- Frames, one after the other, and what a reader of them makes of whole ones.
use Rattle.std.proofs.Common.{◌≡◌, ◌<◌, ℕ, List, [], ◌∷◌, ◌++◌, length, take, drop, sym, ap, ◌∙◌, subst, arith, append_assoc}
use Rattle.std.proofs.lemmas.List.{append_cancel_left, length-append, nil_from_length, take-append-drop}
use Rattle.dap_frame.specs.Feeds.{Completes, Gathers, Closes}
use Rattle.dap_frame.specs.Intake.{Intake, StandsFor}
use Rattle.dap_frame.specs.Laws.{EachStreamHasOneSplit}
use Rattle.dap_frame.specs.Stream.{FramesThen, Split}
use Rattle.dap_frame.specs.declared.frames.FrameFault.{FrameFault}
use Rattle.dap_frame.specs.declared.limits.Bounds.{Bounds}
use Rattle.dap_world.specs.Moves.{BodiesMoveInOrder}

pub joined : (b : Bounds) (xs ys : List (List ℕ)) (rest s t : List ℕ) → FramesThen b xs [] s → FramesThen b ys rest t → FramesThen b (xs ++ ys) rest (s ++ t)
joined b [] ys rest s t e k = subst (λ (z : List ℕ). FramesThen b ys rest (z ++ t)) (sym e) k
joined b (x ∷ xs) ys rest s t p k = (p.0, p.1 ++ t, ap (λ (z : List ℕ). z ++ t) p.2 ∙ append_assoc p.0 p.1 t, p.3, joined b xs ys rest p.1 t p.4 k)

module _ (laws : EachStreamHasOneSplit) (b : Bounds) where
  -- the bodies of frames are told by the bytes
  pub same_bodies : (xs ys : List (List ℕ)) (s : List ℕ) → FramesThen b xs [] s → FramesThen b ys [] s → Split b [] [] [] → xs ≡ ys
  same_bodies xs ys s f g ends = (laws.one b s xs ys [] [] (record { frames = f; ends = ends.ends }) (record { frames = g; ends = ends.ends })).0

  none_of : (xs : List (List ℕ)) (rest : List ℕ) → Split b [] xs rest → Split b [] [] []
  none_of [] rest s = subst (λ (z : List ℕ). Split b [] [] z) (sym s.frames) s
  none_of (x ∷ xs) rest s =
      let more = s.frames.1 in
      let none : more ≡ [] = nil_from_length more (omega (arith, ap length s.frames.2, length-append s.frames.0 more)) in
      let fewer : Split b [] xs rest = record { frames = subst (λ (z : List ℕ). FramesThen b xs rest z) none s.frames.4; ends = s.ends } in
      let same = laws.one b [] (x ∷ xs) xs rest rest s fewer in
      absurd (omega (arith, ap length same.0))

  -- no bytes are no frames
  pub none : Split b [] [] []
  none = let s = laws.some b [] in none_of s.0 s.1 s.2

  -- whole frames are a split
  pub whole : (xs : List (List ℕ)) (s : List ℕ) → FramesThen b xs [] s → Split b s xs []
  whole xs s f = record { frames = f; ends = none.ends }

  pub none_left : (x : List ℕ) (xs : List (List ℕ)) → FramesThen b (x ∷ xs) [] [] → ⊥
  none_left x xs f =
      let same = laws.one b [] (x ∷ xs) [] [] [] (whole (x ∷ xs) [] f) none in
      omega (arith, ap length same.0)

  -- what comes behind whole frames
  pub behind : (xs ys : List (List ℕ)) (s t rest : List ℕ) → Split b s xs [] → Split b (s ++ t) (xs ++ ys) rest → FramesThen b ys rest t
  behind xs ys s t rest p q =
      let r = laws.some b t in
      let all : Split b (s ++ t) (xs ++ r.0) r.1 = record { frames = joined b xs r.0 r.1 s t p.frames r.2.frames; ends = r.2.ends } in
      let same = laws.one b (s ++ t) (xs ++ ys) (xs ++ r.0) rest r.1 q all in
      let later : ys ≡ r.0 = append_cancel_left xs ys r.0 same.0 in
      subst (λ (z : List ℕ). FramesThen b ys z t) (sym same.1) (subst (λ (z : List (List ℕ)). FramesThen b z r.1 t) (sym later) r.2.frames)

  -- a frame at the front is the first one
  pub first_is : (x y : List ℕ) (xs : List (List ℕ)) (n : ℕ) (piece : List ℕ) → FramesThen b (x ∷ xs) [] piece → FramesThen b (y ∷ []) [] (take n piece) → (y ≡ x) × FramesThen b xs [] (drop n piece)
  first_is x y xs n piece f g =
      let r = laws.some b (drop n piece) in
      let all : Split b piece (y ∷ r.0) r.1 = record { frames = subst (λ (z : List ℕ). FramesThen b (y ∷ r.0) r.1 z) (take-append-drop n piece) (joined b (y ∷ []) r.0 r.1 (take n piece) (drop n piece) g r.2.frames); ends = r.2.ends } in
      let same = laws.one b piece (x ∷ xs) (y ∷ r.0) [] r.1 (whole (x ∷ xs) piece f) all in
      let lists = same.0 in
      let first : y ≡ x = cc lists in
      let later : r.0 ≡ xs = cc lists in
      (first, subst (λ (z : List (List ℕ)). FramesThen b z [] (drop n piece)) later (subst (λ (z : List ℕ). FramesThen b r.0 z (drop n piece)) (sym same.1) r.2.frames))

  -- what is behind some whole frames are whole frames too
  pub rest_framed : (xs ys : List (List ℕ)) (at : ℕ) (all : List ℕ) → FramesThen b xs [] all → FramesThen b ys [] (take at all) → (zs : List (List ℕ)) × FramesThen b zs [] (drop at all)
  rest_framed xs ys at all f g =
      let r = laws.some b (drop at all) in
      let split : Split b all (ys ++ r.0) r.1 = record { frames = subst (λ (z : List ℕ). FramesThen b (ys ++ r.0) r.1 z) (take-append-drop at all) (joined b ys r.0 r.1 (take at all) (drop at all) g r.2.frames); ends = r.2.ends } in
      let same = laws.one b all xs (ys ++ r.0) [] r.1 (whole xs all f) split in
      (r.0, subst (λ (z : List ℕ). FramesThen b r.0 z (drop at all)) (sym same.1) r.2.frames)

  -- ---- a reader to which whole frames came

  at : (i : Intake) (s : List ℕ) (xs : List (List ℕ)) (rest : List ℕ) → i.bounds ≡ b → StandsFor i s xs rest → Split b s xs rest
  at i s xs rest e st = subst (λ (z : Bounds). Split z s xs rest) e st.split

  -- more of them do not leave it waiting
  pub not_waiting : (i j : Intake) (s : List ℕ) (xs : List (List ℕ)) (piece : List ℕ) (n : ℕ) (y : List ℕ) (ys : List (List ℕ)) → i.bounds ≡ b → StandsFor i s xs [] → Gathers i j piece n → FramesThen b (y ∷ ys) [] piece → ⊥
  not_waiting i j s xs piece n y ys e st g f =
      let waits = at j (s ++ piece) xs piece (g.bounds ∙ e) (g.stands s xs [] st) in
      let all : Split b (s ++ piece) (xs ++ y ∷ ys) [] = whole (xs ++ y ∷ ys) (s ++ piece) (joined b xs (y ∷ ys) [] s piece (at i s xs [] e st).frames f) in
      let same = laws.one b (s ++ piece) xs (xs ++ y ∷ ys) piece [] waits all in
      omega (arith, ap length same.0, length-append xs (y ∷ ys))

  pub not_left_waiting : (i j : Intake) (s : List ℕ) (xs : List (List ℕ)) (piece : List ℕ) (n : ℕ) (ys : List (List ℕ)) → 0 < length piece → i.bounds ≡ b → StandsFor i s xs [] → Gathers i j piece n → FramesThen b ys [] piece → ⊥
  not_left_waiting i j s xs piece n [] some e st g f = omega (arith, ap length f)
  not_left_waiting i j s xs piece n (y ∷ ys) some e st g f = not_waiting i j s xs piece n y ys e st g f

  -- the one that became whole is the frame of the bytes that were used
  pub completed : (i j : Intake) (s : List ℕ) (xs : List (List ℕ)) (piece : List ℕ) (n : ℕ) → i.bounds ≡ b → StandsFor i s xs [] → Completes i j piece n → FramesThen b (j.held ∷ []) [] (take n piece)
  completed i j s xs piece n e st c = behind xs (j.held ∷ []) s (take n piece) [] (at i s xs [] e st) (at j (s ++ take n piece) (xs ++ j.held ∷ []) [] (c.bounds ∙ e) (c.stands s xs [] st))

  -- and after it whole frames came again
  pub between_again : (i j k : Intake) (s : List ℕ) (xs : List (List ℕ)) (piece : List ℕ) (n : ℕ) (ys : List (List ℕ)) (rest : List ℕ) → i.bounds ≡ b → StandsFor i s xs [] → Completes i j piece n → k.bounds ≡ b → StandsFor k (s ++ take n piece) ys rest → rest ≡ []
  between_again i j k s xs piece n ys rest e st c f new =
      (laws.one b (s ++ take n piece) ys (xs ++ j.held ∷ []) rest [] (at k (s ++ take n piece) ys rest f new) (at j (s ++ take n piece) (xs ++ j.held ∷ []) [] (c.bounds ∙ e) (c.stands s xs [] st))).1

  -- where nothing came since, whole frames came still
  pub between_still : (i k : Intake) (s t : List ℕ) (xs ys : List (List ℕ)) (rest : List ℕ) → i.bounds ≡ b → StandsFor i s xs [] → k.bounds ≡ b → StandsFor k t ys rest → t ≡ s → rest ≡ []
  between_still i k s t xs ys rest e st f new same =
      (laws.one b s ys xs rest [] (subst (λ (z : List ℕ). Split b z ys rest) same (at k t ys rest f new)) (at i s xs [] e st)).1

  -- and they are not refused
  pub not_closed : (moves : BodiesMoveInOrder) (i j : Intake) (s : List ℕ) (xs : List (List ℕ)) (piece : List ℕ) (fault : FrameFault) (ys : List (List ℕ)) → 0 < b.header → i.bounds ≡ b → StandsFor i s xs [] → Closes i j piece fault → FramesThen b ys [] piece → ⊥
  not_closed moves i j s xs piece fault ys header e st c f =
      let n = c.n in
      let now = s ++ take n piece in
      let bounds : j.bounds ≡ b = c.bounds ∙ e in
      let same : s ++ piece ≡ now ++ drop n piece = ap (λ (z : List ℕ). s ++ z) (sym (take-append-drop n piece)) ∙ sym (append_assoc s (take n piece) (drop n piece)) in
      let all : FramesThen b (xs ++ ys) [] (now ++ drop n piece) = subst (λ (z : List ℕ). FramesThen b (xs ++ ys) [] z) same (joined b xs ys [] s piece (at i s xs [] e st).frames f) in
      moves.unrefused j now (drop n piece) xs (xs ++ ys) (take n piece) fault.cause (subst (λ (z : Bounds). 0 < z.header) (sym bounds) header) (c.stands s xs [] st) (subst (λ (z : Bounds). FramesThen z (xs ++ ys) [] (now ++ drop n piece)) (sym bounds) all) c.closed
