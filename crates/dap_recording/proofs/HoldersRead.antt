-- What is read of a recording has no number of a holder twice.
-- Each list of variables that is added takes the next number, and one scope or one variable has it.
use Rattle.std.proofs.Common.{◌≡◌, ℕ, suc, ◌+◌, ◌≤◌, cond, nat_lt, nat_eq, if◌then◌else◌, List, [], ◌∷◌, ◌++◌, length, Option, Some, None, Ordering, Less, Equal, Greater, Ok, length-append, refl, sym, ap, subst, ◌∙◌, arith}
use Rattle.std.proofs.lemmas.Bool.Decides.{nat_tests}
use Rattle.std.proofs.lemmas.List.{map-append, flat_map_more}
use Rattle.std.proofs.lemmas.List.Sums.{sum_by-append}
use Rattle.std.specs.List.{flat_map, count_by}
use Rattle.std.specs.Option.{option_to_list}
use Rattle.std.specs.Ordering.{nat_cmp, match_ordering}
use Rattle.std.specs.Cmp.Lexicographic.{slice_cmp}
use Rattle.serde_json.specs.Data.{Data, array, object, Items, no_items, item, Members, no_members, member}
use Rattle.dap_recording.specs.Places.{Read, value_at, in_element}
use Rattle.dap_recording.specs.Reading.{text_at, text_if_any, flag_at, items_at, items_if_any, more_at, new_id_at, thread_place_at, some_items, frame_source, frame_line, untold_of, stop_of, none_numbered, Holders, holder_of, with_holder, variable_of, variables_of, each_variable, variables_within, read_variables, Numbered, each, scope_of, scopes_of, frame_of, thread_of, moment_of}
use Rattle.dap_recording.specs.Recording.{holders_of_scopes, holders_of_variables}
use Rattle.dap_recording.specs.RecordingKey.{name_of}
use Rattle.dap_debuggee.specs.declared.answers.Frame.{Frame}
use Rattle.dap_debuggee.specs.declared.answers.Scope.{Scope}
use Rattle.dap_debuggee.specs.declared.answers.Variable.{Variable}
use Rattle.dap_recording.specs.declared.reading.RecordingKey.TheVariants as key
use Rattle.dap_recording.specs.declared.reading.Teller.{Teller}
use Rattle.dap_recording.specs.declared.recording.RecordedSource.{RecordedSource}
use Rattle.dap_recording.specs.declared.recording.RecordedThread.{RecordedThread}
use Rattle.dap_recording.specs.declared.recording.Moment.{Moment}
use Rattle.dap_recording.proofs.ReadSteps.{ok_same, with_ok, element_ok, each_holds}

-- ---- how often a number is there

given : ℕ → Option ℕ → ℕ
given n o = count_by (nat_eq n) (option_to_list o)

in_variables : ℕ → List Variable → ℕ
in_variables n vs = count_by (nat_eq n) (holders_of_variables vs)

in_holders : ℕ → Holders → ℕ
in_holders n holders = count_by (nat_eq n) (flat_map holders_of_variables holders)

in_scopes : ℕ → List Scope → ℕ
in_scopes n ss = count_by (nat_eq n) (holders_of_scopes ss)

in_frames : ℕ → List (List Scope) → ℕ
in_frames n scopes = count_by (nat_eq n) (flat_map holders_of_scopes scopes)

-- once among the numbers below k, or never
below : ℕ → ℕ → ℕ
below n k = if nat_lt n k then 1 else 0

count_more : {A : Type 0} (n : ℕ) (g : A → List ℕ) (xs : List A) (x : A) → count_by (nat_eq n) (flat_map g (xs ++ x ∷ [])) ≡ count_by (nat_eq n) (flat_map g xs) + count_by (nat_eq n) (g x)
count_more n g xs x = ap (count_by (nat_eq n)) (sym (flat_map_more g [] xs x)) ∙ sum_by-append (λ m. cond (nat_eq n m) 1 0) (flat_map g xs) (g x)

given_none : (n : ℕ) → given n None ≡ 0
unfolding given
given_none n = refl

no_variables : (n : ℕ) → in_variables n [] ≡ 0
unfolding in_variables
no_variables n = refl

no_scopes : (n : ℕ) → in_scopes n [] ≡ 0
unfolding in_scopes
no_scopes n = refl

nothing : (n : ℕ) → in_frames n [] + in_holders n [] ≡ below n 0
unfolding in_frames in_holders below
nothing n = grind (arith, nat_tests)

variables_more : (n : ℕ) (vs : List Variable) (v : Variable) → in_variables n (vs ++ v ∷ []) ≡ in_variables n vs + given n v.holder
unfolding in_variables given
variables_more n vs v = count_more n (λ (x : Variable). option_to_list x.holder) vs v

holders_more : (n : ℕ) (holders : Holders) (vs : List Variable) → in_holders n (holders ++ vs ∷ []) ≡ in_holders n holders + in_variables n vs
unfolding in_holders in_variables
holders_more n holders vs = count_more n holders_of_variables holders vs

frames_more : (n : ℕ) (scopes : List (List Scope)) (ss : List Scope) → in_frames n (scopes ++ ss ∷ []) ≡ in_frames n scopes + in_scopes n ss
unfolding in_frames in_scopes
frames_more n scopes ss = count_more n holders_of_scopes scopes ss

scopes_more : (n : ℕ) (ss : List Scope) (s : Scope) → in_scopes n (ss ++ s ∷ []) ≡ in_scopes n ss + given n (Some s.holder)
unfolding in_scopes given
scopes_more n ss s =
    ap (count_by (nat_eq n)) (map-append (λ (x : Scope). x.holder) ss (s ∷ []))
    ∙ sum_by-append (λ m. cond (nat_eq n m) 1 0) (holders_of_scopes ss) (s.holder ∷ [])

below_more : (n k : ℕ) → below n (suc k) ≡ below n k + given n (Some k)
unfolding below given
below_more n k = grind (arith, nat_tests)

below_once : (n k : ℕ) → below n k ≤ 1
unfolding below
below_once n k = grind (arith, nat_tests)

-- ---- variables

-- each list that was added took the next number, which one variable has: one that was found, or one in such a list
abbrev Numbers : ℕ → List Variable → Holders → List Variable × Holders → Type 0
Numbers n found before r = in_variables n r.0 + in_holders n r.1 + below n (length before) ≡ in_variables n found + in_holders n before + below n (length r.1)

-- the same where one number was given, or none
abbrev NumbersOne : ℕ → Option ℕ → Holders → Holders → Type 0
NumbersOne n o before after = given n o + in_holders n after + below n (length before) ≡ in_holders n before + below n (length after)

numbered : (n : ℕ) (inner : List Variable) (before after : Holders) → Numbers n [] before (inner, after) → NumbersOne n (Some (length after)) before (after ++ inner ∷ [])
numbered n inner before after p =
    let count : length (after ++ inner ∷ []) ≡ suc (length after) = let more = length-append after (inner ∷ []) in omega (arith, more) in
    let next : below n (length (after ++ inner ∷ [])) ≡ below n (length after) + given n (Some (length after)) = ap (below n) count ∙ below_more n (length after) in
    omega (arith, p, next, holders_more n after inner, no_variables n)

numbered_if_some : (n : ℕ) (inner : List Variable) (before after : Holders) → Numbers n [] before (inner, after) → NumbersOne n (holder_of inner after) before (with_holder inner after)
numbered_if_some n [] before after p = omega (arith, p, no_variables n, given_none n)
numbered_if_some n (v ∷ vs) before after p = numbered n (v ∷ vs) before after p

pub by_order : (o : Ordering) (one rest : Read (List Variable × Holders)) (r : List Variable × Holders) (P : Type 0) → match_ordering o rest one rest ≡ Ok r → (one ≡ Ok r → P) → (rest ≡ Ok r → P) → P
by_order Less one rest r P e of_one of_rest = of_rest e
by_order Equal one rest r P e of_one of_rest = of_one e
by_order Greater one rest r P e of_one of_rest = of_rest e

mutual
  variable_numbers : (n : ℕ) (d : Data) (holders : Holders) (r : Variable × Holders) → variable_of d holders ≡ Ok r → NumbersOne n r.0.holder holders r.1
  variable_numbers n (object ms) holders r e =
      with_ok (text_at key.Name (object ms)) _ r e (λ name named e1.
      with_ok (text_at key.Value (object ms)) _ r e1 (λ value valued e2.
      with_ok (variables_within ms holders) _ r e2 (λ inner is e3.
      with_ok (more_at (object ms)) _ r e3 (λ said told e4.
      subst (λ (x : Variable × Holders). NumbersOne n x.0.holder holders x.1) (ok_same (record { name = name; value = value; holder = holder_of inner.0 inner.1; more = said }, with_holder inner.0 inner.1) r e4)
      (numbered_if_some n inner.0 holders inner.1 (within_numbers n ms holders inner is))))))
  variable_numbers n d holders r e = absurd (cc e)

  variables_numbers : (n : ℕ) (d : Data) (holders : Holders) (r : List Variable × Holders) → variables_of d holders ≡ Ok r → Numbers n [] holders r
  variables_numbers n (array ds) holders r e = each_numbers n ds [] holders r e
  variables_numbers n d holders r e = absurd (cc e)

  each_numbers : (n : ℕ) (ds : Items) (found : List Variable) (holders : Holders) (r : List Variable × Holders) → each_variable ds found holders ≡ Ok r → Numbers n found holders r
  each_numbers n no_items found holders r e = subst (Numbers n found holders) (ok_same (found, holders) r e) refl
  each_numbers n (item d ds) found holders r e =
      with_ok (in_element key.Variables (length found) d (variable_of d holders)) _ r e (λ one in_place e1.
      let is = element_ok key.Variables (length found) d (variable_of d holders) one in_place in
      let first = variable_numbers n d holders one is in
      let rest = each_numbers n ds (found ++ one.0 ∷ []) one.1 r e1 in
      omega (arith, first, rest, variables_more n found one.0))

  within_numbers : (n : ℕ) (ms : Members) (holders : Holders) (r : List Variable × Holders) → variables_within ms holders ≡ Ok r → Numbers n [] holders r
  within_numbers n no_members holders r e = subst (Numbers n [] holders) (ok_same ([], holders) r e) refl
  within_numbers n (member k d ms) holders r e = by_order (slice_cmp nat_cmp (name_of key.Variables) k) (variables_of d holders) (variables_within ms holders) r (Numbers n [] holders r) e (λ is. variables_numbers n d holders r is) (λ is. within_numbers n ms holders r is)

listed_numbers : (n : ℕ) (o : Option Data) (holders : Holders) (r : List Variable × Holders) → read_variables o holders ≡ Ok r → Numbers n [] holders r
listed_numbers n None holders r e = subst (Numbers n [] holders) (ok_same ([], holders) r e) refl
listed_numbers n (Some d) holders r e = variables_numbers n d holders r e

-- ---- scopes

-- the same of scopes that were found
abbrev NumbersScopes : ℕ → Holders → List Scope × Holders → Type 0
NumbersScopes n before r = in_scopes n r.0 + in_holders n r.1 + below n (length before) ≡ in_holders n before + below n (length r.1)

scope_numbers : (n : ℕ) (d : Data) (holders : Holders) (r : Scope × Holders) → scope_of d holders ≡ Ok r → NumbersOne n (Some r.0.holder) holders r.1
unfolding scope_of
scope_numbers n d holders r e =
    with_ok (text_at key.Name d) _ r e (λ name named e1.
    with_ok (read_variables (value_at key.Variables d) holders) _ r e1 (λ inner is e2.
    with_ok (more_at d) _ r e2 (λ said told e3.
    subst (λ (x : Scope × Holders). NumbersOne n (Some x.0.holder) holders x.1) (ok_same (record { name = name; holder = length inner.1; more = said }, inner.1 ++ inner.0 ∷ []) r e3)
    (numbered n inner.0 holders inner.1 (listed_numbers n (value_at key.Variables d) holders inner is)))))

scope_added : (n : ℕ) (before : Holders) (found : List Scope) (holders : Holders) (d : Data) (next : Scope × Holders) → scope_of d holders ≡ Ok next → NumbersScopes n before (found, holders) → NumbersScopes n before (found ++ next.0 ∷ [], next.1)
scope_added n before found holders d next e p = omega (arith, p, scope_numbers n d holders next e, scopes_more n found next.0)

scopes_numbers : (n : ℕ) (given : Items) (holders : Holders) (r : List Scope × Holders) → scopes_of given holders ≡ Ok r → NumbersScopes n holders r
unfolding scopes_of
scopes_numbers n given holders r e =
    each_holds key.Scopes (λ earlier. scope_of) (NumbersScopes n holders) (λ found s x next is_next p. scope_added n holders found s x next is_next p) given [] holders r e (omega (arith, no_scopes n))

-- ---- frames, threads and moments

-- each number that was taken is there once
abbrev NumbersAll : ℕ → Numbered → Type 0
NumbersAll n s = in_frames n s.scopes + in_holders n s.variables ≡ below n (length s.variables)

frame_numbers : (n : ℕ) (by : Teller) (sources : List RecordedSource) (d : Data) (s : Numbered) (r : Frame × Numbered) → frame_of by sources d s ≡ Ok r → NumbersAll n s → NumbersAll n r.1
unfolding frame_of
frame_numbers n by sources d s r e p =
    with_ok (text_at key.Name d) _ r e (λ name named e1.
    with_ok (frame_source by sources d) _ r e1 (λ source placed e2.
    with_ok (frame_line sources source d) _ r e2 (λ line lined e3.
    with_ok (items_if_any key.Scopes d) _ r e3 (λ given listed e4.
    with_ok (scopes_of given s.variables) _ r e4 (λ scopes scoped e5.
    with_ok (more_at d) _ r e5 (λ said told e6.
    let frame : Frame = record { object = length s.scopes; name = name; source = source; line = line; more = said } in
    let after : Numbered = record { scopes = s.scopes ++ scopes.0 ∷ []; variables = scopes.1; untold = s.untold ++ untold_of given scopes.0 } in
    subst (λ (x : Frame × Numbered). NumbersAll n x.1) (ok_same (frame, after) r e6) (omega (arith, p, scopes_numbers n given s.variables scopes scoped, frames_more n s.scopes scopes.0))))))))

thread_numbers : (n : ℕ) (by : Teller) (sources : List RecordedSource) (earlier : List RecordedThread) (d : Data) (s : Numbered) (r : RecordedThread × Numbered) → thread_of by sources earlier d s ≡ Ok r → NumbersAll n s → NumbersAll n r.1
unfolding thread_of
thread_numbers n by sources earlier d s r e p =
    with_ok (new_id_at earlier d) _ r e (λ id new e1.
    with_ok (text_at key.Name d) _ r e1 (λ name named e2.
    with_ok (some_items key.Frames d) _ r e2 (λ given some e3.
    with_ok (each key.Frames (λ earlier. frame_of by sources) given [] s) _ r e3 (λ frames read e4.
    with_ok (more_at d) _ r e4 (λ said told e5.
    subst (λ (x : RecordedThread × Numbered). NumbersAll n x.1) (ok_same (record { id = id; name = name; frames = frames.0; more = said }, frames.1) r e5)
    (each_holds key.Frames (λ earlier. frame_of by sources) (λ x. NumbersAll n x.1) (λ found t x next is q. frame_numbers n by sources x t next is q) given [] s frames read p))))))

moment_numbers : (n : ℕ) (by : Teller) (sources : List RecordedSource) (d : Data) (s : Numbered) (r : Moment × Numbered) → moment_of by sources d s ≡ Ok r → NumbersAll n s → NumbersAll n r.1
unfolding moment_of
moment_numbers n by sources d s r e p =
    with_ok (items_at key.Threads d) _ r e (λ given array e1.
    with_ok (each key.Threads (thread_of by sources) given [] s) _ r e1 (λ threads read e2.
    with_ok (thread_place_at threads.0 d) _ r e2 (λ thread placed e3.
    with_ok (text_if_any key.Output d) _ r e3 (λ output written e4.
    with_ok (flag_at key.Waits d) _ r e4 (λ waits held e5.
    with_ok (stop_of d) _ r e5 (λ stop stopped e6.
    subst (λ (x : Moment × Numbered). NumbersAll n x.1) (ok_same (record { threads = threads.0; thread = thread; output = output; waits = waits; stop = stop; frames = record { from = length s.scopes; to = length threads.1.scopes }; holders = record { from = length s.variables; to = length threads.1.variables } }, threads.1) r e6)
    (each_holds key.Threads (thread_of by sources) (λ x. NumbersAll n x.1) (λ found t x next is q. thread_numbers n by sources found x t next is q) given [] s threads read p)))))))

all_once : (n : ℕ) (s : Numbered) → NumbersAll n s → count_by (nat_eq n) (flat_map holders_of_scopes s.scopes ++ flat_map holders_of_variables s.variables) ≤ 1
unfolding in_frames in_holders
all_once n s p = omega (arith, p, below_once n (length s.variables), sum_by-append (λ m. cond (nat_eq n m) 1 0) (flat_map holders_of_scopes s.scopes) (flat_map holders_of_variables s.variables))

pub holders_once : (by : Teller) (sources : List RecordedSource) (ds : Items) (r : List Moment × Numbered) → each key.Moments (λ earlier. moment_of by sources) ds [] none_numbered ≡ Ok r → (n : ℕ) → count_by (nat_eq n) (flat_map holders_of_scopes r.1.scopes ++ flat_map holders_of_variables r.1.variables) ≤ 1
holders_once by sources ds r e n =
    all_once n r.1 (each_holds key.Moments (λ earlier. moment_of by sources) (λ x. NumbersAll n x.1) (λ found t x next is q. moment_numbers n by sources x t next is q) ds [] none_numbered r e (nothing n))
