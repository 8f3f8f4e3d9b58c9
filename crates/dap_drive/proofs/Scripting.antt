-- A script, line by line.
use Rattle.std.proofs.Common.{◌≡◌, ℕ, ◌+◌, ◌<◌, List, [], ◌∷◌, ◌++◌, length, Bool, true, false, Ok, refl, sym, ap, ◌∙◌, subst, arith, append_assoc, append-nil, inl, inr}
use Rattle.std.proofs.lemmas.List.{length-append}
use Rattle.std.specs.Str.Lines.{lines}
use Rattle.dap_envelope.specs.OneLine.{CanonIsOneLine}
use Rattle.dap_drive.specs.Driven.{Drives, StopsWith, StopsAt, SaysOf, IsLeft}
use Rattle.dap_world.specs.Agreement.{EachScheduleAgrees}
use Rattle.dap_world.specs.Transcripts.{EachTranscriptKeepsRules}
use Rattle.dap_world.specs.World.{World, fresh_world}
use Rattle.dap_drive.specs.PrivateHeld.{Driving, BothEnds, IsQuiet, HasDone, HasTurned, HasPolled, DoesLine, HasRun, StopsOn, IsRefused, StopsOrder}
use Rattle.dap_drive.specs.Orders.{Does, DoesTurn, Ran, Reaches, idle, handles, starts, skips, does}
use Rattle.dap_drive.specs.Script.{is_skipped, order_of}
use Rattle.dap_drive.proofs.Reading.{is_read}
use Rattle.dap_drive.specs.declared.fault.DriveFault.{DriveFault}
use Rattle.dap_drive.specs.declared.fault.DriveFault.TheVariants as fault
use Rattle.dap_drive.specs.declared.script.Order.{Order}
use Rattle.dap_drive.specs.declared.script.Order.TheVariants.{Turn, Poll}

module _ {D : Type 0} (drive : Driving D) where
  -- ---- one order

  pub line_done : (text : List ℕ) (order : Order) (start : World D) (ends : BothEnds D) → order_of text ≡ Ok order → HasDone drive (Does drive.shown drive.follows order) start ends
      → HasDone drive (DoesLine drive.shown drive.follows text) start ends
  line_done text order start ends is h = record { world = h.world; done = (order, is, h.done); quiet = h.quiet }

  turn_does : (more : Bool) (old new : World D) → HasTurned drive.shown drive.follows more old new → DoesTurn drive.shown drive.follows old new
  turn_does true old new h = handles h
  turn_does false old new h = idle h.0 h.1

  pub turn_line : (text : List ℕ) (more : Bool) (start : World D) (ends : BothEnds D) → order_of text ≡ Ok Turn → HasDone drive (HasTurned drive.shown drive.follows more) start ends
      → HasDone drive (DoesLine drive.shown drive.follows text) start ends
  turn_line text more start ends is h = record { world = h.world; done = (Turn, is, turn_does more start h.world h.done); quiet = h.quiet }

  pub poll_line : (text : List ℕ) (last : Bool) (start : World D) (ends : BothEnds D) → order_of text ≡ Ok Poll → HasDone drive (HasPolled drive.follows last) start ends
      → HasDone drive (DoesLine drive.shown drive.follows text) start ends
  poll_line text last start ends is h = record { world = h.world; done = (Poll, is, h.done.does); quiet = h.quiet }

  pub line_ends_early : (o : Order) (f : DriveFault) (left : D) (number : ℕ) (text : List ℕ) (start : World D) → order_of text ≡ Ok o → StopsOn drive.shown drive.follows (Reaches drive.shown drive.follows o start) f left → SaysOf drive.shown drive.follows f left number text start
  line_ends_early o fault.Recording left number text start is h = absurd h
  line_ends_early o (fault.Script line) left number text start is h = absurd h
  line_ends_early o (fault.Call line) left number text start is h = absurd h
  line_ends_early o (fault.Send line cause) left number text start is h = absurd h
  line_ends_early o fault.Adapter left number text start is h = (o, is, h)
  line_ends_early o fault.Client left number text start is h = (o, is, inl h)
  line_ends_early o fault.OutOfMemory left number text start is h = tt

  line_refused : (o : Order) (f : DriveFault) (left : D) (number : ℕ) (text : List ℕ) (start : World D) → order_of text ≡ Ok o → IsRefused number o f start → IsLeft start left → SaysOf drive.shown drive.follows f left number text start
  line_refused o fault.Recording left number text start is r l = absurd r
  line_refused o (fault.Script line) left number text start is r l = absurd r
  line_refused o (fault.Call line) left number text start is r l = (r.0, inr (r.1, subst (λ (z : Order). order_of text ≡ Ok z) r.2 is, r.3), l)
  line_refused o (fault.Send line cause) left number text start is r l = (r.0, (r.1, subst (λ (z : Order). order_of text ≡ Ok z) r.2 is, r.3), l)
  line_refused o fault.Adapter left number text start is r l = absurd r
  line_refused o fault.Client left number text start is r l = (o, is, inr (r, l))
  line_refused o fault.OutOfMemory left number text start is r l = tt

  pub order_line_stops : (o : Order) (f : DriveFault) (left : D) (number : ℕ) (text : List ℕ) (start : World D) → order_of text ≡ Ok o → StopsOrder drive.shown drive.follows number o f start left → SaysOf drive.shown drive.follows f left number text start
  order_line_stops o f left number text start is (inl h) = line_refused o f left number text start is h.0 h.1
  order_line_stops o f left number text start is (inr h) = line_ends_early o f left number text start is h

  -- ---- one line

  pub line_skipped : (texts : List (List ℕ)) (text : List ℕ) (ends : BothEnds D) → is_skipped text ≡ true → HasRun drive texts ends
      → HasRun drive (texts ++ text ∷ []) ends
  line_skipped texts text ends skipped h = record {
    world = h.world;
    ran = skips texts text h.world h.ran skipped;
    quiet = h.quiet;
  }

  pub line_ran : (texts : List (List ℕ)) (text : List ℕ) (ends next : BothEnds D) → is_skipped text ≡ false → (h : HasRun drive texts ends)
      → HasDone drive (DoesLine drive.shown drive.follows text) h.world next → HasRun drive (texts ++ text ∷ []) next
  line_ran texts text ends next some h d = record {
    world = d.world;
    ran = does texts text d.done.0 h.world d.world h.ran some d.done.1 d.done.2;
    quiet = d.quiet;
  }

  -- ---- the script

  pub all_ran : EachScheduleAgrees drive.shown drive.follows → EachTranscriptKeepsRules drive.shown drive.follows → CanonIsOneLine → (texts : List (List ℕ)) (ends : BothEnds D) → HasRun drive texts ends → Drives drive.shown drive.follows drive.limits drive.debuggee texts ends.transcript ends.adapter.debuggee
  all_ran agrees keeps one_line texts ends h = record {
    world = h.world;
    ran = h.ran;
    schedule = h.quiet.at.schedule;
    transcript_is = h.quiet.at.transcript_is;
    read = is_read drive.limits.body h.world.said ends.transcript one_line (agrees drive.limits drive.debuggee h.world h.quiet.at.in_range h.quiet.at.schedule).arrives.said h.quiet.at.transcript_is
        (λ all is. keeps drive.limits drive.debuggee h.world all h.quiet.at.in_range h.quiet.at.schedule is);
    left_is = h.quiet.at.adapter_at.debuggee_is;
  }

  stops_at : (all before after : List (List ℕ)) (text : List ℕ) (number : ℕ) (f : DriveFault) (left : D) (ends : BothEnds D) → all ≡ before ++ text ∷ after → number ≡ length before + 1 → is_skipped text ≡ false
      → (h : HasRun drive before ends) → SaysOf drive.shown drive.follows f left number text h.world → StopsAt drive.shown drive.follows drive.limits drive.debuggee all (SaysOf drive.shown drive.follows f left)
  stops_at all before after text number f left ends split count some h s = record {
    before = before;
    text = text;
    after = after;
    split = split;
    not_skipped = some;
    world = h.world;
    ran = h.ran;
    stops = subst (λ (z : ℕ). SaysOf drive.shown drive.follows f left z text h.world) count s;
  }

  pub line_stops : (all before after : List (List ℕ)) (text : List ℕ) (number : ℕ) (f : DriveFault) (left : D) (ends : BothEnds D) → all ≡ before ++ text ∷ after → number ≡ length before + 1 → is_skipped text ≡ false
      → (h : HasRun drive before ends) → SaysOf drive.shown drive.follows f left number text h.world → StopsWith drive.shown drive.follows drive.limits drive.debuggee all f left
  line_stops all before after text number fault.Recording left ends split count some h s = absurd s
  line_stops all before after text number (fault.Script line) left ends split count some h s = stops_at all before after text number (fault.Script line) left ends split count some h s
  line_stops all before after text number (fault.Call line) left ends split count some h s = stops_at all before after text number (fault.Call line) left ends split count some h s
  line_stops all before after text number (fault.Send line cause) left ends split count some h s = stops_at all before after text number (fault.Send line cause) left ends split count some h s
  line_stops all before after text number fault.Adapter left ends split count some h s = stops_at all before after text number fault.Adapter left ends split count some h s
  line_stops all before after text number fault.Client left ends split count some h s = stops_at all before after text number fault.Client left ends split count some h s
  line_stops all before after text number fault.OutOfMemory left ends split count some h s = tt

  -- ---- the lines that are left

  -- so many lines came, and these bytes are left
  pub record IsPartWay (all rest : List ℕ) (number : ℕ) (ends : BothEnds D) : Type 0 where
    pub before : List (List ℕ)
    pub split : lines all ≡ before ++ lines rest
    pub count : number ≡ length before
    pub run : HasRun drive before ends

  pub part_way_on : (all rest later : List ℕ) (text : List ℕ) (number : ℕ) (ends next : BothEnds D) → lines rest ≡ text ∷ lines later → (p : IsPartWay all rest number ends)
      → (HasRun drive p.before ends → HasRun drive (p.before ++ text ∷ []) next) → IsPartWay all later (number + 1) next
  part_way_on all rest later text number ends next cut p go = record {
    before = p.before ++ text ∷ [];
    split = p.split ∙ (ap (λ (z : List (List ℕ)). p.before ++ z) cut ∙ sym (append_assoc p.before (text ∷ []) (lines later)));
    count = omega (arith, p.count, length-append p.before (text ∷ []));
    run = go p.run;
  }

  pub part_way_stops : (all rest later : List ℕ) (text : List ℕ) (number : ℕ) (f : DriveFault) (left : D) (ends : BothEnds D) → lines rest ≡ text ∷ lines later → is_skipped text ≡ false → (p : IsPartWay all rest number ends)
      → ((start : World D) → IsQuiet drive ends start → SaysOf drive.shown drive.follows f left (number + 1) text start) → StopsWith drive.shown drive.follows drive.limits drive.debuggee (lines all) f left
  part_way_stops all rest later text number f left ends cut some p says =
      line_stops (lines all) p.before (lines later) text (number + 1) f left ends (p.split ∙ ap (λ (z : List (List ℕ)). p.before ++ z) cut) (omega (arith, p.count)) some p.run (says p.run.world p.run.quiet)

  pub part_way_begins : (all : List ℕ) (ends : BothEnds D) → IsQuiet drive ends (fresh_world drive.limits drive.debuggee) → IsPartWay all all 0 ends
  part_way_begins all ends q = record { before = []; split = refl; count = refl; run = record { world = fresh_world drive.limits drive.debuggee; ran = starts; quiet = q } }

  pub part_way_done : EachScheduleAgrees drive.shown drive.follows → EachTranscriptKeepsRules drive.shown drive.follows → CanonIsOneLine → (all rest : List ℕ) (number : ℕ) (ends : BothEnds D) (final : List ℕ) (left : D) → rest ≡ [] → final ≡ ends.transcript → left ≡ ends.adapter.debuggee → IsPartWay all rest number ends
      → Drives drive.shown drive.follows drive.limits drive.debuggee (lines all) final left
  part_way_done agrees keeps one_line all rest number ends final left none same_text same_debuggee p =
      let split : lines all ≡ p.before = p.split ∙ (ap (λ (z : List ℕ). p.before ++ lines z) none ∙ append-nil p.before) in
      let ran = all_ran agrees keeps one_line p.before ends p.run in
      let over_all = subst (λ (z : List (List ℕ)). Drives drive.shown drive.follows drive.limits drive.debuggee z ends.transcript ends.adapter.debuggee) (sym split) ran in
      let with_text = subst (λ (z : List ℕ). Drives drive.shown drive.follows drive.limits drive.debuggee (lines all) z ends.adapter.debuggee) (sym same_text) over_all in
      subst (λ (z : D). Drives drive.shown drive.follows drive.limits drive.debuggee (lines all) final z) (sym same_debuggee) with_text
