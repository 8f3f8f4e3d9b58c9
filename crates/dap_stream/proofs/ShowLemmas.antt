-- A listing that goes on.
use Rattle.std.proofs.Common.{◌≡◌, ℕ, ◌+◌, ◌-◌, ◌<◌, ◌≤◌, ◌^◌, List, [], ◌∷◌, ◌++◌, length, take, drop, Err, ◌||◌, Bool, false, refl, sym, ap, ap₂, ◌∙◌, subst, arith, length-drop}
use Rattle.std.proofs.lemmas.List.{length-append, append_assoc, append-nil, take_all, take-append-drop, append_cancel_right}
use Rattle.std.proofs.lemmas.List.{length-take-le}
use Rattle.std.proofs.Math.Seq.{take-add, take-append_seam, drop-append_seam, take-length}
use Rattle.dap_frame.specs.declared.Refusal.{Refusal}
use Rattle.dap_frame.specs.declared.frames.FrameFault.{FrameFault}
use Rattle.dap_frame.specs.declared.limits.Bounds.{Bounds}
use Rattle.dap_frame.specs.Settings.{Settings, bounds_of}
use Rattle.dap_frame.specs.Stream.{FramesThen, Split}
use Rattle.dap_frame.specs.Verdict.{verdict, Part, Refused as Refuses}
use Rattle.dap_frame.specs.Intake.{Intake, IsReady, StandsFor, Shut, StartsAt, LastStartsAt}
use Rattle.dap_frame.specs.Feeds.{Completes, Gathers, Closes}
use Rattle.dap_stream.specs.Listing.{IsLineOf, of_message, of_refused, Lists, none, one_more, Listed, ListsAll, IsEndOf, Shows}
use Rattle.dap_stream.specs.PrivateShowSteps.{Extends, ListedTo, ListedBefore}
use Rattle.dap_frame.specs.Ends.{EndsWith}
use Rattle.dap_frame.specs.declared.frames.End.{End}
use Rattle.dap_frame.specs.declared.frames.End.TheVariants as ends
use Rattle.dap_stream.specs.declared.lines.Style.{Style}
use Rattle.dap_stream.specs.declared.listing.ShowFault.TheVariants.{Frame, Body, OutOfMemory}
use Rattle.dap_envelope.specs.Refusals.{Bad}
use Rattle.dap_envelope.specs.declared.fault.BodyRefusal.{BodyRefusal}

-- ---- how far a listing has come

taken : (bytes rest : List ℕ) (at n : ℕ) → rest ≡ drop at bytes → take at bytes ++ take n rest ≡ take (at + n) bytes
taken bytes rest at n e = ap (λ r. take at bytes ++ take n r) e ∙ sym (take-add at n bytes)

pub ListedTo-start : (style : Style) (limits : Settings) (frames : Intake) (bytes old : List ℕ) → frames.bounds ≡ bounds_of limits → StandsFor frames [] [] [] → ListedTo style limits frames bytes 0 old old false
ListedTo-start style limits frames bytes old bounds fresh = record {
  bodies = [];
  rest = [];
  bounds = bounds;
  stands = fresh;
  listed = record { text = []; lists = none; appended = sym (append-nil old) };
}

-- ---- a call of feed

module _ (style : Style) (limits : Settings) (frames : Intake) (bytes rest : List ℕ) (at : ℕ) (old new : List ℕ) (refused : Bool) (cut : rest ≡ drop at bytes) (l : ListedTo style limits frames bytes at old new refused) (after : Intake) (bounds : after.bounds ≡ frames.bounds) where
  pub completed : (n : ℕ) → Completes frames after rest n → ListedBefore style limits after bytes (at + n) old new refused
  completed n done = record {
    bodies = l.bodies;
    bounds = bounds ∙ l.bounds;
    stands = subst (λ z. StandsFor after z (l.bodies ++ after.held ∷ []) []) (taken bytes rest at n cut) (done.stands (take at bytes) l.bodies l.rest l.stands);
    listed = l.listed;
  }

  pub gathered : (n : ℕ) → Gathers frames after rest n → ListedTo style limits after bytes (at + n) old new refused
  gathered n done =
      let whole : take n rest ≡ rest = take_all n rest (omega (arith, done.all)) in
      let e : take at bytes ++ rest ≡ take (at + n) bytes = ap (λ z. take at bytes ++ z) (sym whole) ∙ taken bytes rest at n cut in
      record {
        bodies = l.bodies;
        rest = l.rest ++ rest;
        bounds = bounds ∙ l.bounds;
        stands = subst (λ z. StandsFor after z l.bodies (l.rest ++ rest)) e (done.stands (take at bytes) l.bodies l.rest l.stands);
        listed = l.listed;
      }

  closed_by : (cause : Refusal) (offset n : ℕ) (left : List ℕ) → StandsFor after (take n bytes) l.bodies left → Shut after (take n bytes) l.bodies left cause → offset ≡ after.start → Shows style limits bytes old new (Err (Frame (record { cause = cause; offset = offset })))
  closed_by cause offset n left f shut starts = record {
    n = n;
    bodies = l.bodies;
    rest = left;
    refused = refused;
    split = subst (λ b. Split b (take n bytes) l.bodies left) (bounds ∙ l.bounds) f.split;
    listed = l.listed;
    verdict_is = subst (λ b. verdict b left ≡ Refuses cause (length left)) (bounds ∙ l.bounds) shut.verdict_is;
    offset = subst (λ b. StartsAt b offset (take n bytes) l.bodies left) (bounds ∙ l.bounds) (subst (λ k. StartsAt after.bounds k (take n bytes) l.bodies left) (sym starts) shut.starts);
  }

  pub closed : (fault : FrameFault) → Closes frames after rest fault → Shows style limits bytes old new (Err (Frame fault))
  closed fault done =
      let f : StandsFor after (take (at + done.n) bytes) l.bodies (l.rest ++ take done.n rest) =
      subst (λ z. StandsFor after z l.bodies (l.rest ++ take done.n rest)) (taken bytes rest at done.n cut) (done.stands (take at bytes) l.bodies l.rest l.stands) in
      closed_by fault.cause fault.offset (at + done.n) _ f (f.closed fault.cause done.closed) done.offset

-- ---- a ready body

module _ (style : Style) (limits : Settings) (frames : Intake) (bytes : List ℕ) (at : ℕ) (old new : List ℕ) (before : Bool) (l : ListedBefore style limits frames bytes at old new before) (ready : IsReady frames) where
  last_here : LastStartsAt frames.bounds frames.start (take at bytes) (l.bodies ++ frames.held ∷ []) frames.held
  last_here = (l.stands.ready ready).last

  -- where the body is
  module _ (within : at ≤ length bytes) where
    front_is : take at bytes ≡ (last_here.starts.front ++ last_here.frame_is.header) ++ frames.held
    front_is = last_here.starts.whole ∙ ap (λ z. last_here.starts.front ++ z) last_here.frame_is.spelled ∙ sym (append_assoc last_here.starts.front last_here.frame_is.header frames.held)

    at_is : at ≡ length (last_here.starts.front ++ last_here.frame_is.header) + length frames.held
    at_is = sym (length-take-le at bytes within) ∙ ap length front_is ∙ length-append (last_here.starts.front ++ last_here.frame_is.header) frames.held

    pub body_ends : (at - length frames.held) + length frames.held ≡ at
    body_ends = omega (arith, at_is)

    pub body_there : take (length frames.held) (drop (at - length frames.held) bytes) ≡ frames.held
    body_there =
        let before : List ℕ = last_here.starts.front ++ last_here.frame_is.header in
        let from : at - length frames.held ≡ length before = omega (arith, at_is) in
        let cut : bytes ≡ before ++ (frames.held ++ drop at bytes) = sym (take-append-drop at bytes) ∙ ap (λ z. z ++ drop at bytes) front_is ∙ append_assoc before frames.held (drop at bytes) in
        ap (λ n. take (length frames.held) (drop n bytes)) from
        ∙ ap (λ z. take (length frames.held) (drop (length before) z)) cut
        ∙ ap (λ z. take (length frames.held) z) (drop-append_seam before (frames.held ++ drop at bytes))
        ∙ take-append_seam frames.held (drop at bytes)

    pub stopped_at : (cause : BodyRefusal) → Bad frames.held cause → style.keeps_going ≡ false → Shows style limits bytes old new (Err (Body cause frames.start (at - length frames.held) (length frames.held)))
    stopped_at cause bad stops = record {
      n = at;
      bodies = l.bodies;
      body = frames.held;
      split = subst (λ b. Split b (take at bytes) (l.bodies ++ frames.held ∷ []) []) l.bounds l.stands.split;
      refused = before;
      listed = l.listed;
      stops = stops;
      bad = bad;
      starts = subst (λ b. LastStartsAt b frames.start (take at bytes) (l.bodies ++ frames.held ∷ []) frames.held) l.bounds last_here;
      there = body_there;
      ends = body_ends;
    }

  module _ (offset : ℕ) (starts : offset ≡ frames.start) (small : length bytes < 2 ^ 64) where
    last : LastStartsAt (bounds_of limits) frames.start (take at bytes) (l.bodies ++ frames.held ∷ []) frames.held
    last = subst (λ b. LastStartsAt b frames.start (take at bytes) (l.bodies ++ frames.held ∷ []) frames.held) l.bounds last_here

    before_is : last.before ≡ l.bodies
    before_is = sym (append_cancel_right l.bodies last.before (frames.held ∷ []) last.bodies)

    whole : bytes ≡ last.starts.front ++ (last.frame ++ drop at bytes)
    whole = sym (take-append-drop at bytes) ∙ ap (λ z. z ++ drop at bytes) last.starts.whole ∙ append_assoc last.starts.front last.frame (drop at bytes)

    offset_is : offset ≡ length last.starts.front
    offset_is = omega (arith, starts, last.starts.place, small, ap length whole, length-append last.starts.front (last.frame ++ drop at bytes))

    pub listed_more : (line new' : List ℕ) (refused : Bool) → IsLineOf style offset frames.held line refused → new' ≡ new ++ line → Listed style limits bytes (l.bodies ++ frames.held ∷ []) old new' (before || refused)
    listed_more line new' refused line_is more = record {
      text = l.listed.text ++ line;
      lists = one_more l.bodies l.listed.text frames.held line last.starts.front last.frame (drop at bytes) before refused l.listed.lists whole (subst (λ xs. FramesThen (bounds_of limits) xs [] last.starts.front) before_is last.starts.frames) last.frame_is (subst (λ k. IsLineOf style k frames.held line refused) offset_is line_is);
      appended = more ∙ ap (λ z. z ++ line) l.listed.appended ∙ append_assoc old l.listed.text line;
    }

    pub released : (after : Intake) → after.bounds ≡ frames.bounds → ((s : List ℕ) (xs : List (List ℕ)) (rest : List ℕ) → StandsFor frames s xs rest → StandsFor after s xs rest) → (line new' : List ℕ) (refused : Bool) → IsLineOf style offset frames.held line refused → new' ≡ new ++ line → ListedTo style limits after bytes at old new' (before || refused)
    released after bounds stands line new' refused line_is more = record {
      bodies = l.bodies ++ frames.held ∷ [];
      rest = [];
      bounds = bounds ∙ l.bounds;
      stands = stands (take at bytes) (l.bodies ++ frames.held ∷ []) [] l.stands;
      listed = listed_more line new' refused line_is more;
    }

-- ---- the end

pub out_of_memory_first : (style : Style) (limits : Settings) (bytes old : List ℕ) → Shows style limits bytes old old (Err OutOfMemory)
out_of_memory_first style limits bytes old = record { bodies = []; refused = false; listed = record { text = []; lists = none; appended = sym (append-nil old) } }

-- ---- a listing that stops

stops_none : (style : Style) (offset : ℕ) (x line : List ℕ) (refused : Bool) → style.keeps_going ≡ false → IsLineOf style offset x line refused → refused ≡ false
stops_none style offset x line _ stops (of_message m is line_is) = refl
stops_none style offset x line _ stops (of_refused cause goes bad line_is) = absurd (cc (stops, goes))

lists_none : (style : Style) (bounds : Bounds) (s : List ℕ) (xs : List (List ℕ)) (text : List ℕ) (refused : Bool) → style.keeps_going ≡ false → Lists style bounds s xs text refused → refused ≡ false
lists_none style bounds s _ _ _ stops none = refl
lists_none style bounds s _ _ _ stops (one_more xs text x line front frame after before refused l cut frames is_frame is_line) =
    ap₂ (λ (a b : Bool). a || b) (lists_none style bounds s xs text before stops l) (stops_none style (length front) x line refused stops is_line)

pub none_refused : (style : Style) (limits : Settings) (bytes : List ℕ) (xs : List (List ℕ)) (old new : List ℕ) (refused : Bool) → style.keeps_going ≡ false → Listed style limits bytes xs old new refused → refused ≡ false
none_refused style limits bytes xs old new refused stops l = lists_none style (bounds_of limits) bytes xs l.text refused stops l.lists

-- ---- what is used

pub within_rest : (at n : ℕ) (bytes rest : List ℕ) → rest ≡ drop at bytes → at ≤ length bytes → n ≤ length rest → at + n ≤ length bytes
within_rest at n bytes rest e h k = omega (arith, length-drop at bytes, ap length e)

pub gathers_within : (old new : Intake) (rest : List ℕ) (used : ℕ) → Gathers old new rest used → used ≤ length rest
gathers_within old new rest used done = omega (arith, done.all)

-- ---- more lines

pub extends_none : (old : List ℕ) → Extends old old
extends_none old = ([], sym (append-nil old))

pub extends_more : (old mid new : List ℕ) → Extends old mid → Extends mid new → Extends old new
extends_more old mid new a b = (a.0 ++ b.0, b.1 ∙ ap (λ z. z ++ b.0) a.1 ∙ append_assoc old a.0 b.0)

-- ---- all bytes

-- the bytes before a place that is at their end or past it are all
pub listed_past : (style : Style) (limits : Settings) (frames : Intake) (bytes : List ℕ) (at : ℕ) (old new : List ℕ) (refused : Bool) → at ≤ length bytes → length bytes ≤ at → ListedTo style limits frames bytes at old new refused → ListedTo style limits frames bytes (length bytes) old new refused
listed_past style limits frames bytes at old new refused within past l =
    let here : at ≡ length bytes = omega arith in
    subst (λ n. ListedTo style limits frames bytes n old new refused) here l

end_is : (limits : Settings) (frames : Intake) (rest : List ℕ) (end : End) → frames.bounds ≡ bounds_of limits → EndsWith frames rest end → (end ≡ ends.Refused → ⊥) → IsEndOf limits rest end
end_is limits frames rest ends.Clean bounds e unrefused = e
end_is limits frames rest ends.Truncated bounds e unrefused = subst (λ b. verdict b rest ≡ Part) bounds e
end_is limits frames rest ends.Refused bounds e unrefused = unrefused refl

pub all_listed : (style : Style) (limits : Settings) (frames : Intake) (bytes old new : List ℕ) (refused : Bool) (end : End) → ((s : List ℕ) (xs : List (List ℕ)) (rest : List ℕ) → StandsFor frames s xs rest → EndsWith frames rest end) → (end ≡ ends.Refused → ⊥) → ListedTo style limits frames bytes (length bytes) old new refused → ListsAll style limits bytes old new (record { end = end; refused = refused })
all_listed style limits frames bytes old new refused end finishes unrefused l =
    let stands : StandsFor frames bytes l.bodies l.rest = subst (λ z. StandsFor frames z l.bodies l.rest) (take-length bytes) l.stands in
    record {
      bodies = l.bodies;
      rest = l.rest;
      split = subst (λ b. Split b bytes l.bodies l.rest) l.bounds stands.split;
      listed = l.listed;
      ends = end_is limits frames l.rest end l.bounds (finishes bytes l.bodies l.rest stands) unrefused;
    }
