-- Frames that come one by one, and what a run makes of them.
use Rattle.std.proofs.Common.{◌≡◌, ℕ, List, [], ◌∷◌, ◌++◌, refl, sym, ap, ◌∙◌, append_assoc, append-nil}
use Rattle.std.proofs.lemmas.List.Elements.{All-nil}
use Rattle.dap_frame.specs.declared.limits.Bounds.{Bounds}
use Rattle.dap_frame.specs.Laws.{EachStreamHasOneSplit, WrittenIsReadAgain, FrameHasNoFrameWithin}
use Rattle.dap_frame.specs.Settings.{Settings, AreInRange, bounds_of}
use Rattle.dap_frame.specs.Stream.{Frame, NoFrame, FramesThen, Split}
use Rattle.dap_frame.specs.Written.{frame_of}
use Rattle.dap_debuggee.specs.Shown.{Shown}
use Rattle.dap_adapter.specs.Run.{Next, to_take, to_turn, to_poll, Run, begins, delivers, handles, idles, sees}
use Rattle.dap_envelope.specs.declared.message.Message.{Message}
use Rattle.dap_plan.specs.Carried.{Goes}
use Rattle.dap_plan.specs.SessionState.{SessionState}
use Rattle.dap_adapter.specs.PrivateStreams.{StreamLaws}

pub stream_laws : (limits : Settings) → AreInRange limits → WrittenIsReadAgain → EachStreamHasOneSplit → FrameHasNoFrameWithin → StreamLaws (bounds_of limits)
stream_laws limits range written one within = record {
  one = one.one (bounds_of limits);
  empty = written.split (bounds_of limits) [] range.header.0 range.body.1 (All-nil _);
  frame = λ x fits. written.frame (bounds_of limits) x range.header.0 range.body.1 fits;
  no_frame = λ x front more b fits is. within.no_frame (bounds_of limits) (frame_of x) x front more b (written.frame (bounds_of limits) x range.header.0 range.body.1 fits) is;
}

-- ---- lists

pub same_front : {A : Type 0} (xs ys zs : List A) → xs ++ ys ≡ xs ++ zs → ys ≡ zs
same_front [] ys zs e = e
same_front (x ∷ xs) ys zs e = same_front xs ys zs cc

pub not_empty : {A : Type 0} (xs : List A) (x : A) → xs ++ x ∷ [] ≡ [] → ⊥
not_empty [] x e = cc e
not_empty (y ∷ ys) x e = cc e

-- ---- frames

then_frame : (bounds : Bounds) (xs : List (List ℕ)) (s f x : List ℕ) → FramesThen bounds xs [] s → Frame bounds f x → FramesThen bounds (xs ++ x ∷ []) [] (s ++ f)
then_frame bounds [] s f x frames frame = (f, [], ap (λ (z : List ℕ). z ++ f) frames ∙ sym (append-nil f), frame, refl)
then_frame bounds (y ∷ ys) s f x (g, more, is, first, rest) frame = (g, more ++ f, ap (λ (z : List ℕ). z ++ f) is ∙ append_assoc g more f, first, then_frame bounds ys more f x rest frame)

then_rest : (bounds : Bounds) (xs : List (List ℕ)) (s p : List ℕ) → FramesThen bounds xs [] s → FramesThen bounds xs p (s ++ p)
then_rest bounds [] s p frames = ap (λ (z : List ℕ). z ++ p) frames
then_rest bounds (y ∷ ys) s p (g, more, is, first, rest) = (g, more ++ p, ap (λ (z : List ℕ). z ++ p) is ∙ append_assoc g more p, first, then_rest bounds ys more p rest)

pub one_frame_more : (bounds : Bounds) (s : List ℕ) (xs : List (List ℕ)) (f x : List ℕ) → Split bounds s xs [] → Frame bounds f x → Split bounds (s ++ f) (xs ++ x ∷ []) []
one_frame_more bounds s xs f x split frame = record { frames = then_frame bounds xs s f x split.frames frame; ends = split.ends }

pub some_of_a_frame : (bounds : Bounds) (s : List ℕ) (xs : List (List ℕ)) (p : List ℕ) → Split bounds s xs [] → NoFrame bounds p → Split bounds (s ++ p) xs p
some_of_a_frame bounds s xs p split none = record { frames = then_rest bounds xs s p split.frames; ends = none }

-- ---- a run

-- from where a message is to be taken, nothing is done unless one comes
no_bodies : {D : Type 0} (shown : D → Shown) (follows : Goes D) (start : SessionState D) (l : List (List ℕ)) (outs : List Message) (next : Next) (p : SessionState D) → Run shown follows to_take start l outs next p → l ≡ [] → (next ≡ to_take) × (p ≡ start)
no_bodies shown follows start _ _ _ _ begins none = (refl, refl)
no_bodies shown follows start _ _ _ _ (delivers xs outs p q x m plan run going is_message made step) none = absurd (not_empty xs x none)
no_bodies shown follows start _ _ _ _ (handles xs outs p q plan run made step) none = absurd (cc (no_bodies shown follows start xs outs to_turn p run none).0)
no_bodies shown follows start _ _ _ _ (idles xs outs p run made) none = absurd (cc (no_bodies shown follows start xs outs to_turn p run none).0)
no_bodies shown follows start _ _ _ _ (sees xs outs p q asks run step within) none = absurd (cc (no_bodies shown follows start xs outs (to_poll asks) p run none).0)

pub stays_there : {D : Type 0} (shown : D → Shown) (follows : Goes D) (start : SessionState D) (l : List (List ℕ)) (outs : List Message) (next : Next) (p : SessionState D) → Run shown follows to_take start l outs next p → l ≡ [] → p ≡ start
stays_there shown follows start l outs next p run none = (no_bodies shown follows start l outs next p run none).1
