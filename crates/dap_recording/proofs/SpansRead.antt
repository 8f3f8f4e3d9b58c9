-- What is read of a recording has, in each moment, numbers of that moment alone.
-- Reading only adds to the scopes and the variables, and what is added while a moment is read has numbers that are taken meanwhile.
use Rattle.std.proofs.Common.{◌≡◌, ◌⊎◌, inl, inr, ℕ, zero, suc, ◌≤◌, ◌<◌, Bool, List, [], ◌∷◌, ◌++◌, length, Option, Some, None, Ok, length-append, refl, sym, ap, subst, ◌∙◌, arith}
use Rattle.std.proofs.lemmas.Option.{slice_get_within}
use Rattle.std.specs.List.{slice_get}
use Rattle.std.specs.Ordering.{nat_cmp}
use Rattle.std.specs.Cmp.Lexicographic.{slice_cmp}
use Rattle.serde_json.specs.Data.{Data, array, object, Items, no_items, item, Members, no_members, member}
use Rattle.dap_recording.specs.Places.{value_at, in_element}
use Rattle.dap_recording.specs.Reading.{text_at, text_if_any, flag_at, items_at, items_if_any, more_at, new_id_at, thread_place_at, some_items, frame_source, frame_line, untold_of, stop_of, none_numbered, Holders, holder_of, with_holder, variable_of, variables_of, each_variable, variables_within, read_variables, Numbered, each, scope_of, scopes_of, frame_of, thread_of, moment_of}
use Rattle.dap_recording.specs.Recording.{IsWithin, HasOwnNumbers}
use Rattle.dap_recording.specs.RecordingKey.{name_of}
use Rattle.dap_debuggee.specs.declared.answers.Frame.{Frame}
use Rattle.dap_debuggee.specs.declared.answers.Scope.{Scope}
use Rattle.dap_debuggee.specs.declared.answers.Variable.{Variable}
use Rattle.dap_recording.specs.declared.reading.RecordingKey.TheVariants as key
use Rattle.dap_recording.specs.declared.reading.Teller.{Teller}
use Rattle.dap_recording.specs.declared.recording.RecordedSource.{RecordedSource}
use Rattle.dap_recording.specs.declared.recording.RecordedThread.{RecordedThread}
use Rattle.dap_recording.specs.declared.recording.OwnStop.{OwnStop}
use Rattle.dap_recording.specs.declared.recording.Moment.{Moment}
use Rattle.dap_recording.proofs.HoldersRead.{by_order}
use Rattle.dap_recording.proofs.ReadSteps.{some_same, ok_same, with_ok, element_ok, each_holds}

-- ---- lists that grow

-- it holds of each element and its place
abbrev AtEach : {A : Type 0} → (ℕ → A → Type 0) → List A → Type 0
AtEach {A} P xs = (n : ℕ) (x : A) → slice_get xs n ≡ Some x → P n x

further : {A : Type 0} (z x y : A) (xs : List A) (n : ℕ) → (slice_get xs n ≡ Some x) ⊎ ((n ≡ length xs) × (y ≡ x)) → (slice_get (z ∷ xs) (suc n) ≡ Some x) ⊎ ((suc n ≡ length (z ∷ xs)) × (y ≡ x))
further z x y xs n (inl e) = inl e
further z x y xs n (inr p) = inr (ap suc p.0, p.1)

-- an element is one of those before, or the last
before_or_last : {A : Type 0} (xs : List A) (y : A) (n : ℕ) (x : A) → slice_get (xs ++ y ∷ []) n ≡ Some x → (slice_get xs n ≡ Some x) ⊎ ((n ≡ length xs) × (y ≡ x))
before_or_last [] y zero x e = inr (refl, some_same y x e)
before_or_last [] y (suc n) x e = absurd (cc e)
before_or_last (z ∷ xs) y zero x e = inl e
before_or_last (z ∷ xs) y (suc n) x e = further z x y xs n (before_or_last xs y n x e)

at_none : {A : Type 0} (P : ℕ → A → Type 0) → AtEach P []
at_none P n x e = absurd (cc e)

at_each_more : {A : Type 0} (P : ℕ → A → Type 0) (xs : List A) (y : A) → AtEach P xs → P (length xs) y → AtEach P (xs ++ y ∷ [])
at_each_more P xs y all last n x e = by_place (before_or_last xs y n x e)
  where
    by_place : (slice_get xs n ≡ Some x) ⊎ ((n ≡ length xs) × (y ≡ x)) → P n x
    by_place (inl is) = all n x is
    by_place (inr p) = subst (λ k. P k x) (sym p.0) (subst (P (length xs)) p.1 last)

-- the second begins with the first
record Begins {A : Type 0} (xs ys : List A) : Type 0 where
  pub longer : length xs ≤ length ys
  pub same : (n : ℕ) → n < length xs → slice_get ys n ≡ slice_get xs n

begins_itself : {A : Type 0} (xs : List A) → Begins xs xs
begins_itself xs = record { longer = omega arith; same = λ n below. refl }

begins_more : {A : Type 0} (xs : List A) (y : A) (n : ℕ) → n < length xs → slice_get (xs ++ y ∷ []) n ≡ slice_get xs n
begins_more [] y n below = absurd (omega (arith, below))
begins_more (z ∷ xs) y zero below = refl
begins_more (z ∷ xs) y (suc n) below = begins_more xs y n (omega (arith, below))

begins_longer : {A : Type 0} (xs ys : List A) (y : A) → Begins xs ys → Begins xs (ys ++ y ∷ [])
begins_longer xs ys y b = record {
  longer = omega (arith, b.longer, length-append ys (y ∷ []));
  same = λ n below. begins_more ys y n (omega (arith, below, b.longer)) ∙ b.same n below;
}

-- ---- numbers from one to before another

abbrev Between : ℕ → ℕ → ℕ → Type 0
Between from to n = IsWithin (record { from = from; to = to }) n

between_more : (from to later n : ℕ) → to ≤ later → Between from to n → Between from later n
between_more from to later n more b = record { from = b.from; to = omega (arith, more, b.to) }

abbrev InVariables : ℕ → ℕ → List Variable → Type 0
InVariables from to = AtEach (λ i x. (k : ℕ) → x.holder ≡ Some k → Between from to k)

abbrev InScopes : ℕ → ℕ → List Scope → Type 0
InScopes from to = AtEach (λ i s. Between from to s.holder)

-- of those that stand from a place on
abbrev InHolders : ℕ → ℕ → ℕ → Holders → Type 0
InHolders place from to = AtEach (λ n xs. place ≤ n → InVariables from to xs)

abbrev InFrames : ℕ → ℕ → ℕ → List (List Scope) → Type 0
InFrames place from to = AtEach (λ n ss. place ≤ n → InScopes from to ss)

abbrev OfFrames : ℕ → ℕ → List Frame → Type 0
OfFrames from to = AtEach (λ i frame. Between from to frame.object)

abbrev OfThreads : ℕ → ℕ → List RecordedThread → Type 0
OfThreads from to = AtEach (λ t thread. OfFrames from to thread.frames)

variables_more : (from to later : ℕ) (xs : List Variable) → to ≤ later → InVariables from to xs → InVariables from later xs
variables_more from to later xs more p i x is k has = between_more from to later k more (p i x is k has)

holders_more : (place from to later : ℕ) (holders : Holders) → to ≤ later → InHolders place from to holders → InHolders place from later holders
holders_more place from to later holders more p n xs is least = variables_more from to later xs more (p n xs is least)

scopes_more : (from to later : ℕ) (ss : List Scope) → to ≤ later → InScopes from to ss → InScopes from later ss
scopes_more from to later ss more p i s is = between_more from to later s.holder more (p i s is)

of_frames_more : (from to later : ℕ) (frames : List Frame) → to ≤ later → OfFrames from to frames → OfFrames from later frames
of_frames_more from to later frames more p i f is = between_more from to later f.object more (p i f is)

of_threads_more : (from to later : ℕ) (threads : List RecordedThread) → to ≤ later → OfThreads from to threads → OfThreads from later threads
of_threads_more from to later threads more p t thread is = of_frames_more from to later thread.frames more (p t thread is)

-- ---- variables

-- holders after some base: they begin with it, and what was added has numbers after it
record Added (base now : Holders) : Type 0 where
  pub begins : Begins base now
  pub variables : InHolders (length base) (length base) (length now) now

nothing_added : (base : Holders) → Added base base
nothing_added base = record {
  begins = begins_itself base;
  variables = λ n xs is least. let below = slice_get_within base n xs is in absurd (omega (arith, least, below));
}

added_more : (base now : Holders) (xs : List Variable) → Added base now → InVariables (length base) (length now) xs → Added base (now ++ xs ∷ [])
added_more base now xs a p =
    let more : length now ≤ length (now ++ xs ∷ []) = let count = length-append now (xs ∷ []) in omega (arith, count) in
    record {
      begins = begins_longer base now xs a.begins;
      variables = at_each_more (λ n ys. length base ≤ n → InVariables (length base) (length (now ++ xs ∷ [])) ys) now xs
          (holders_more (length base) (length base) (length now) (length (now ++ xs ∷ [])) now more a.variables)
          (λ least. variables_more (length base) (length now) (length (now ++ xs ∷ [])) xs more p);
    }

-- what was found meanwhile has such numbers
record Found (base before : Holders) (r : List Variable × Holders) : Type 0 where
  pub added : Added base r.1
  pub found : InVariables (length base) (length r.1) r.0
  pub longer : length before ≤ length r.1

record FoundOne (base before : Holders) (o : Option ℕ) (after : Holders) : Type 0 where
  pub added : Added base after
  pub found : (k : ℕ) → o ≡ Some k → Between (length base) (length after) k
  pub longer : length before ≤ length after

abbrev OfHolder : ℕ → ℕ → ℕ → Variable → Type 0
OfHolder from to i x = (k : ℕ) → x.holder ≡ Some k → Between from to k

found_none : (base holders : Holders) → Added base holders → Found base holders ([], holders)
found_none base holders a = record { added = a; found = at_none (OfHolder (length base) (length holders)); longer = omega arith }

-- the list takes the next number
last_place : (base before : Holders) (inner : List Variable × Holders) → Found base before inner → Between (length base) (length (inner.1 ++ inner.0 ∷ [])) (length inner.1)
last_place base before inner p =
    let count = length-append inner.1 (inner.0 ∷ []) in
    record { from = p.added.begins.longer; to = omega (arith, count) }

found_holder : (base before : Holders) (xs : List Variable) (after : Holders) → Found base before (xs, after) → FoundOne base before (holder_of xs after) (with_holder xs after)
found_holder base before [] after p = record { added = p.added; found = λ k is. absurd (cc is); longer = p.longer }
found_holder base before (x ∷ xs) after p =
    let count = length-append after ((x ∷ xs) ∷ []) in
    let place : Between (length base) (length (after ++ (x ∷ xs) ∷ [])) (length after) = last_place base before (x ∷ xs, after) p in
    record {
      added = added_more base after (x ∷ xs) p.added p.found;
      found = λ k is. subst (Between (length base) (length (after ++ (x ∷ xs) ∷ []))) (some_same (length after) k is) place;
      longer = omega (arith, count, p.longer);
    }

mutual
  variable_found : (base : Holders) (d : Data) (holders : Holders) (r : Variable × Holders) → variable_of d holders ≡ Ok r → Added base holders → FoundOne base holders r.0.holder r.1
  variable_found base (object ms) holders r e a =
      with_ok (text_at key.Name (object ms)) _ r e (λ name named e1.
      with_ok (text_at key.Value (object ms)) _ r e1 (λ value valued e2.
      with_ok (variables_within ms holders) _ r e2 (λ inner is e3.
      with_ok (more_at (object ms)) _ r e3 (λ said told e4.
      subst (λ (x : Variable × Holders). FoundOne base holders x.0.holder x.1) (ok_same (record { name = name; value = value; holder = holder_of inner.0 inner.1; more = said }, with_holder inner.0 inner.1) r e4)
      (found_holder base holders inner.0 inner.1 (within_found base ms holders inner is a))))))
  variable_found base d holders r e a = absurd (cc e)

  variables_found : (base : Holders) (d : Data) (holders : Holders) (r : List Variable × Holders) → variables_of d holders ≡ Ok r → Added base holders → Found base holders r
  variables_found base (array ds) holders r e a = each_found base ds [] holders r e (found_none base holders a)
  variables_found base d holders r e a = absurd (cc e)

  each_found : (base : Holders) (ds : Items) (found : List Variable) (holders : Holders) (r : List Variable × Holders) → each_variable ds found holders ≡ Ok r → Found base holders (found, holders) → Found base holders r
  each_found base no_items found holders r e p = subst (Found base holders) (ok_same (found, holders) r e) p
  each_found base (item d ds) found holders r e p =
      with_ok (in_element key.Variables (length found) d (variable_of d holders)) _ r e (λ one in_place e1.
      let is = element_ok key.Variables (length found) d (variable_of d holders) one in_place in
      let first = variable_found base d holders one is p.added in
      let so_far : Found base one.1 (found ++ one.0 ∷ [], one.1) = record {
        added = first.added;
        found = at_each_more (OfHolder (length base) (length one.1)) found one.0 (variables_more (length base) (length holders) (length one.1) found first.longer p.found) first.found;
        longer = omega arith;
      } in
      let rest = each_found base ds (found ++ one.0 ∷ []) one.1 r e1 so_far in
      record { added = rest.added; found = rest.found; longer = omega (arith, first.longer, rest.longer) })

  within_found : (base : Holders) (ms : Members) (holders : Holders) (r : List Variable × Holders) → variables_within ms holders ≡ Ok r → Added base holders → Found base holders r
  within_found base no_members holders r e a = subst (Found base holders) (ok_same ([], holders) r e) (found_none base holders a)
  within_found base (member k d ms) holders r e a = by_order (slice_cmp nat_cmp (name_of key.Variables) k) (variables_of d holders) (variables_within ms holders) r (Found base holders r) e (λ is. variables_found base d holders r is a) (λ is. within_found base ms holders r is a)

listed_found : (base : Holders) (o : Option Data) (holders : Holders) (r : List Variable × Holders) → read_variables o holders ≡ Ok r → Added base holders → Found base holders r
listed_found base None holders r e a = subst (Found base holders) (ok_same ([], holders) r e) (found_none base holders a)
listed_found base (Some d) holders r e a = variables_found base d holders r e a

-- ---- scopes

record ScopesFound (base : Holders) (r : List Scope × Holders) : Type 0 where
  pub added : Added base r.1
  pub found : InScopes (length base) (length r.1) r.0

-- that there are as many holders or more
record ScopesRead (base before : Holders) (r : List Scope × Holders) : Type 0 where
  pub read : ScopesFound base r
  pub longer : length before ≤ length r.1

scope_read : (base before : Holders) (found : List Scope) (holders : Holders) (d : Data) (next : Scope × Holders) → scope_of d holders ≡ Ok next → ScopesRead base before (found, holders) → ScopesRead base before (found ++ next.0 ∷ [], next.1)
unfolding scope_of
scope_read base before found holders d next e p =
    with_ok (text_at key.Name d) _ next e (λ name named e1.
    with_ok (read_variables (value_at key.Variables d) holders) _ next e1 (λ inner is e2.
    with_ok (more_at d) _ next e2 (λ said told e3.
    let one = listed_found base (value_at key.Variables d) holders inner is p.read.added in
    let count = length-append inner.1 (inner.0 ∷ []) in
    let more : length holders ≤ length (inner.1 ++ inner.0 ∷ []) = omega (arith, count, one.longer) in
    let scope : Scope = record { name = name; holder = length inner.1; more = said } in
    subst (λ (x : Scope × Holders). ScopesRead base before (found ++ x.0 ∷ [], x.1)) (ok_same (scope, inner.1 ++ inner.0 ∷ []) next e3)
    (record {
      read = record {
        added = added_more base inner.1 inner.0 one.added one.found;
        found = at_each_more (λ i s. Between (length base) (length (inner.1 ++ inner.0 ∷ [])) s.holder) found scope (scopes_more (length base) (length holders) (length (inner.1 ++ inner.0 ∷ [])) found more p.read.found) (last_place base holders inner one);
      };
      longer = omega (arith, more, p.longer);
    }))))

scopes_read : (base : Holders) (given : Items) (holders : Holders) (r : List Scope × Holders) → scopes_of given holders ≡ Ok r → Added base holders → ScopesRead base holders r
unfolding scopes_of
scopes_read base given holders r e a =
    let first : ScopesRead base holders ([], holders) = record { read = record { added = a; found = at_none (λ i s. Between (length base) (length holders) s.holder) }; longer = omega arith } in
    each_holds key.Scopes (λ earlier. scope_of) (ScopesRead base holders) (λ found s x next is_next p. scope_read base holders found s x next is_next p) given [] holders r e first

-- ---- frames and threads

-- what was added since a moment began
record Since (base now : Numbered) : Type 0 where
  pub begins : Begins base.scopes now.scopes
  pub added : Added base.variables now.variables
  pub scopes : InFrames (length base.scopes) (length base.variables) (length now.variables) now.scopes

since_itself : (base : Numbered) → Since base base
since_itself base = record {
  begins = begins_itself base.scopes;
  added = nothing_added base.variables;
  scopes = λ n ss is least. let below = slice_get_within base.scopes n ss is in absurd (omega (arith, least, below));
}

record FramesRead (base before : Numbered) (r : List Frame × Numbered) : Type 0 where
  pub since : Since base r.1
  pub frames : OfFrames (length base.scopes) (length r.1.scopes) r.0
  pub longer : length before.scopes ≤ length r.1.scopes

frame_added : (base before : Numbered) (found : List Frame) (s : Numbered) (frame : Frame) (scopes : List Scope × Holders) (untold : List ℕ) → frame.object ≡ length s.scopes → ScopesRead base.variables s.variables scopes
    → FramesRead base before (found, s) → FramesRead base before (found ++ frame ∷ [], record { scopes = s.scopes ++ scopes.0 ∷ []; variables = scopes.1; untold = untold })
frame_added base before found s frame scopes untold numbered read p =
    let count = length-append s.scopes (scopes.0 ∷ []) in
    let more : length s.scopes ≤ length (s.scopes ++ scopes.0 ∷ []) = omega (arith, count) in
    let place : Between (length base.scopes) (length (s.scopes ++ scopes.0 ∷ [])) frame.object = record { from = omega (arith, numbered, p.since.begins.longer); to = omega (arith, numbered, count) } in
    record {
      since = record {
        begins = begins_longer base.scopes s.scopes scopes.0 p.since.begins;
        added = read.read.added;
        scopes = at_each_more (λ n ss. length base.scopes ≤ n → InScopes (length base.variables) (length scopes.1) ss) s.scopes scopes.0
            (λ n ss is least. scopes_more (length base.variables) (length s.variables) (length scopes.1) ss read.longer (p.since.scopes n ss is least))
            (λ least. read.read.found);
      };
      frames = at_each_more (λ i f. Between (length base.scopes) (length (s.scopes ++ scopes.0 ∷ [])) f.object) found frame
          (of_frames_more (length base.scopes) (length s.scopes) (length (s.scopes ++ scopes.0 ∷ [])) found more p.frames) place;
      longer = omega (arith, more, p.longer);
    }

frame_read : (base before : Numbered) (by : Teller) (sources : List RecordedSource) (found : List Frame) (s : Numbered) (d : Data) (next : Frame × Numbered) → frame_of by sources d s ≡ Ok next → FramesRead base before (found, s) → FramesRead base before (found ++ next.0 ∷ [], next.1)
unfolding frame_of
frame_read base before by sources found s d next e p =
    with_ok (text_at key.Name d) _ next e (λ name named e1.
    with_ok (frame_source by sources d) _ next e1 (λ source placed e2.
    with_ok (frame_line sources source d) _ next e2 (λ line lined e3.
    with_ok (items_if_any key.Scopes d) _ next e3 (λ given listed e4.
    with_ok (scopes_of given s.variables) _ next e4 (λ scopes scoped e5.
    with_ok (more_at d) _ next e5 (λ said told e6.
    let frame : Frame = record { object = length s.scopes; name = name; source = source; line = line; more = said } in
    let after : Numbered = record { scopes = s.scopes ++ scopes.0 ∷ []; variables = scopes.1; untold = s.untold ++ untold_of given scopes.0 } in
    subst (λ (x : Frame × Numbered). FramesRead base before (found ++ x.0 ∷ [], x.1)) (ok_same (frame, after) next e6)
    (frame_added base before found s frame scopes after.untold refl (scopes_read base.variables given s.variables scopes scoped p.since.added) p)))))))

record ThreadsRead (base : Numbered) (r : List RecordedThread × Numbered) : Type 0 where
  pub since : Since base r.1
  pub threads : OfThreads (length base.scopes) (length r.1.scopes) r.0

thread_read : (base : Numbered) (by : Teller) (sources : List RecordedSource) (found : List RecordedThread) (s : Numbered) (d : Data) (next : RecordedThread × Numbered) → thread_of by sources found d s ≡ Ok next → ThreadsRead base (found, s) → ThreadsRead base (found ++ next.0 ∷ [], next.1)
unfolding thread_of
thread_read base by sources found s d next e p =
    with_ok (new_id_at found d) _ next e (λ id new e1.
    with_ok (text_at key.Name d) _ next e1 (λ name named e2.
    with_ok (some_items key.Frames d) _ next e2 (λ given some e3.
    with_ok (each key.Frames (λ earlier. frame_of by sources) given [] s) _ next e3 (λ frames read e4.
    with_ok (more_at d) _ next e4 (λ said told e5.
    let first : FramesRead base s ([], s) = record { since = p.since; frames = at_none (λ i f. Between (length base.scopes) (length s.scopes) f.object); longer = omega arith } in
    let all = each_holds key.Frames (λ earlier. frame_of by sources) (FramesRead base s) (λ fs t x n is q. frame_read base s by sources fs t x n is q) given [] s frames read first in
    let thread : RecordedThread = record { id = id; name = name; frames = frames.0; more = said } in
    subst (λ (x : RecordedThread × Numbered). ThreadsRead base (found ++ x.0 ∷ [], x.1)) (ok_same (thread, frames.1) next e5)
    (record {
      since = all.since;
      threads = at_each_more (λ t th. OfFrames (length base.scopes) (length frames.1.scopes) th.frames) found thread (of_threads_more (length base.scopes) (length s.scopes) (length frames.1.scopes) found all.longer p.threads) all.frames;
    }))))))

-- ---- moments

-- what is added later changes nothing
later_too : (scopes later_scopes : List (List Scope)) (variables later_variables : Holders) (m : Moment) → Begins scopes later_scopes → Begins variables later_variables → HasOwnNumbers scopes variables m → HasOwnNumbers later_scopes later_variables m
later_too scopes later_scopes variables later_variables m b c p = record {
  frames_stand = omega (arith, p.frames_stand, b.longer);
  holders_stand = omega (arith, p.holders_stand, c.longer);
  of_frames = p.of_frames;
  of_scopes = λ n i ss s within is at_s. p.of_scopes n i ss s within (sym (b.same n (omega (arith, within.to, p.frames_stand))) ∙ is) at_s;
  of_variables = λ n i xs x k within is at_x has. p.of_variables n i xs x k within (sym (c.same n (omega (arith, within.to, p.holders_stand))) ∙ is) at_x has;
}

own_numbers : (base : Numbered) (threads : List RecordedThread × Numbered) (thread : ℕ) (output : List ℕ) (waits : Bool) (stop : Option OwnStop) → ThreadsRead base threads
    → HasOwnNumbers threads.1.scopes threads.1.variables (record { threads = threads.0; thread = thread; output = output; waits = waits; stop = stop; frames = record { from = length base.scopes; to = length threads.1.scopes }; holders = record { from = length base.variables; to = length threads.1.variables } })
own_numbers base threads thread output waits stop p = record {
  frames_stand = omega arith;
  holders_stand = omega arith;
  of_frames = λ t i th frame is at_f. p.threads t th is i frame at_f;
  of_scopes = λ n i ss s within is at_s. p.since.scopes n ss is within.from i s at_s;
  of_variables = λ n i xs x k within is at_x has. p.since.added.variables n xs is within.from i x at_x k has;
}

-- each moment so far has its own numbers
abbrev MomentsRead : List Moment × Numbered → Type 0
MomentsRead r = AtEach (λ i m. HasOwnNumbers r.1.scopes r.1.variables m) r.0

moment_read : (by : Teller) (sources : List RecordedSource) (found : List Moment) (s : Numbered) (d : Data) (next : Moment × Numbered) → moment_of by sources d s ≡ Ok next → MomentsRead (found, s) → MomentsRead (found ++ next.0 ∷ [], next.1)
unfolding moment_of
moment_read by sources found s d next e p =
    with_ok (items_at key.Threads d) _ next e (λ given array e1.
    with_ok (each key.Threads (thread_of by sources) given [] s) _ next e1 (λ threads read e2.
    with_ok (thread_place_at threads.0 d) _ next e2 (λ thread placed e3.
    with_ok (text_if_any key.Output d) _ next e3 (λ output written e4.
    with_ok (flag_at key.Waits d) _ next e4 (λ waits held e5.
    with_ok (stop_of d) _ next e5 (λ stop stopped e6.
    let first : ThreadsRead s ([], s) = record { since = since_itself s; threads = at_none (λ t th. OfFrames (length s.scopes) (length s.scopes) th.frames) } in
    let all = each_holds key.Threads (thread_of by sources) (ThreadsRead s) (λ fs t x n is q. thread_read s by sources fs t x n is q) given [] s threads read first in
    let moment : Moment = record { threads = threads.0; thread = thread; output = output; waits = waits; stop = stop; frames = record { from = length s.scopes; to = length threads.1.scopes }; holders = record { from = length s.variables; to = length threads.1.variables } } in
    subst (λ (x : Moment × Numbered). MomentsRead (found ++ x.0 ∷ [], x.1)) (ok_same (moment, threads.1) next e6)
    (at_each_more (λ i m. HasOwnNumbers threads.1.scopes threads.1.variables m) found moment
    (λ i m is. later_too s.scopes threads.1.scopes s.variables threads.1.variables m all.since.begins all.since.added.begins (p i m is))
    (own_numbers s threads thread output waits stop all))))))))

pub spans_read : (by : Teller) (sources : List RecordedSource) (ds : Items) (r : List Moment × Numbered) → each key.Moments (λ earlier. moment_of by sources) ds [] none_numbered ≡ Ok r → (i : ℕ) (m : Moment) → slice_get r.0 i ≡ Some m → HasOwnNumbers r.1.scopes r.1.variables m
spans_read by sources ds r e =
    each_holds key.Moments (λ earlier. moment_of by sources) MomentsRead (λ found t x next is q. moment_read by sources found t x next is q) ds [] none_numbered r e (at_none (λ i m. HasOwnNumbers [] [] m))
