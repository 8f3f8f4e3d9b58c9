-- A turn is one failure at once, or writes no failure for size or room.
use Rattle.std.proofs.Common.{◌≡◌, ◌⊎◌, inl, inr, List, [], ◌∷◌, ◌++◌, Bool, true, false, refl, sym, ap, ◌∙◌, subst, true≢false}
use Rattle.std.specs.Prelude.{◌||◌}
use Rattle.std.specs.List.{list_any}
use Rattle.dap_body.specs.declared.failure.Failure.{Failure}
use Rattle.dap_tables.specs.declared.entry.Entry.{Entry}
use Rattle.dap_plan.specs.Laws.{CanMake}
use Rattle.dap_plan.specs.Plan.{Made, Plan, at_once, after_answering}
use Rattle.dap_outbox.specs.Draft.{failure, Draft, reply}
use Rattle.dap_plan.specs.RefusalLaws.{is_for_room, RefusalsChangeNothing}
use Rattle.dap_plan.specs.Session.{Session}
use Rattle.dap_plan.proofs.Outcomes.{refuses, IsClean, IsFailure}
use Rattle.dap_plan.proofs.Turns.{turn-is}

found-if : (b c : Bool) → c ≡ true → (b || c) ≡ true
found-if true c h = refl
found-if false c h = h

-- a clean plan writes no such failure
found : (before after : List Draft) (r : Entry) (f : Failure) → is_for_room f ≡ true → list_any refuses (before ++ reply r (failure f) ∷ after) ≡ true
found [] after r f h = rw h refl
found (d ∷ before) after r f h = found-if (refuses d) (list_any refuses (before ++ reply r (failure f) ∷ after)) (found before after r f h)

-- one failure is that failure
alone : (s : Session) (q r : Entry) (g f : Failure) (before after : List Draft) → reply q (failure g) ∷ [] ≡ before ++ reply r (failure f) ∷ after → after_answering q (failure g) s ≡ after_answering r (failure f) s
alone s q r g f [] after e =
    let entry : q ≡ r = cc in
    let fault : g ≡ f = cc in
    rw (entry, fault) refl
alone s q r g f (d ∷ []) after e = cc
alone s q r g f (d ∷ c ∷ before) after e = cc

one-is : (s : Session) (plan : Plan) (made : Made) (before after : List Draft) (r : Entry) (f : Failure) → IsClean plan ⊎ IsFailure s plan → CanMake plan made → made.drafts ≡ before ++ reply r (failure f) ∷ after → is_for_room f ≡ true → plan ≡ at_once (after_answering r (failure f) s)
one-is s plan made before after r f (inl clean) can e h = absurd (true≢false (sym (found before after r f h) ∙ (ap (λ ds. list_any refuses ds) (sym e) ∙ clean made can)))
one-is s plan made before after r f (inr w) can e h =
    let makes : CanMake (at_once (after_answering w.entry (failure w.fault) s)) made = subst (λ (x : Plan). CanMake x made) w.is can in
    let drafts : reply w.entry (failure w.fault) ∷ [] ≡ before ++ reply r (failure f) ∷ after = sym (ap (λ (m : Made). m.drafts) makes) ∙ e in
    w.is ∙ ap (λ (m : Made). at_once m) (alone s w.entry r w.fault f before after drafts)

pub refusals_change_nothing : RefusalsChangeNothing
refusals_change_nothing view s plan made before after r f is can e h = one-is s plan made before after r f (turn-is view s plan is).row.refused can e h
