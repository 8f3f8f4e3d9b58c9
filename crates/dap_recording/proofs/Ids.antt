-- The ids of threads, one thread more.
use Rattle.std.proofs.Common.{◌≡◌, ℕ, suc, ℤ, Bool, true, false, cond, if◌then◌else◌, List, [], ◌∷◌, ◌++◌, Option, Some, None, is_some, option_map, refl, sym, ap, ◌∙◌}
use Rattle.std.specs.BTreeSet.{BTreeSet, Updates}
use Rattle.std.specs.Ordering.{int_cmp, int_eq}
use Rattle.dap_recording.specs.Reading.{place_of}
use Rattle.dap_recording.specs.PrivateReadThreads.{HasIds}
use Rattle.dap_recording.specs.declared.recording.RecordedThread.{RecordedThread}

here_or_after : (b : Bool) (o : Option ℕ) → is_some (if b then Some 0 else option_map (λ n. suc n) o) ≡ cond b true (is_some o)
here_or_after true o = refl
here_or_after false None = refl
here_or_after false (Some n) = refl

either_way : (a b c : Bool) → cond a true (cond b true c) ≡ cond b true (cond a true c)
either_way true true c = refl
either_way true false c = refl
either_way false true c = refl
either_way false false c = refl

place_more : (id : ℤ) (threads : List RecordedThread) (thread : RecordedThread) → is_some (place_of id (threads ++ thread ∷ [])) ≡ cond (int_eq thread.id id) true (is_some (place_of id threads))
place_more id [] thread = here_or_after (int_eq thread.id id) None
place_more id (first ∷ threads) thread =
    here_or_after (int_eq first.id id) (place_of id (threads ++ thread ∷ []))
    ∙ ap (λ b. cond (int_eq first.id id) true b) (place_more id threads thread)
    ∙ either_way (int_eq first.id id) (int_eq thread.id id) (is_some (place_of id threads))
    ∙ ap (λ b. cond (int_eq thread.id id) true b) (sym (here_or_after (int_eq first.id id) (place_of id threads)))

pub ids_more : (before after : BTreeSet ℤ) (threads : List RecordedThread) (thread : RecordedThread) → HasIds before threads → Updates int_cmp before after thread.id true → HasIds after (threads ++ thread ∷ [])
ids_more before after threads thread has updates = λ id. updates.0 id ∙ ap (λ b. cond (int_eq thread.id id) true b) (has id) ∙ sym (place_more id threads thread)
