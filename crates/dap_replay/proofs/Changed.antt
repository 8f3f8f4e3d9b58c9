-- Values that were set leave what holds children as it is recorded.
use Rattle.std.proofs.Common.{◌≡◌, ℕ, zero, suc, Bool, true, false, List, [], ◌∷◌, map, Option, Some, None, option_map, unwrap_or, if◌then◌else◌, nat_eq, nat_lt, bytes_eq, refl, sym, ap, subst, ◌∙◌}
use Rattle.std.proofs.lemmas.Bool.{eqb-true}
use Rattle.std.specs.List.{slice_get}
use Rattle.dap_debuggee.specs.Laws.{variable_named, with_assigned}
use Rattle.dap_replay.specs.Played.{Played, OfHolder, variables_at, with_variables, first_of, variables_held, assigned_of, with_text}
use Rattle.dap_replay.specs.PrivateHeld.{holders_in, KeepHolders}
use Rattle.dap_debuggee.specs.declared.answers.Variable.{Variable}
use Rattle.dap_debuggee.specs.declared.answers.Assigned.{Assigned}
use Rattle.dap_recording.specs.Variables.{assigned_to}
use Rattle.dap_recording.proofs.ReadSteps.{some_same}

-- ---- what holds children

holders-by : (b : Bool) (name : List ℕ) (a : Assigned) (x : Variable) (xs : List Variable) → holders_in (with_assigned name a xs) ≡ holders_in xs → holders_in (if b then record { name = x.name; value = a.value; holder = x.holder; more = a.more } ∷ xs else x ∷ with_assigned name a xs) ≡ x.holder ∷ holders_in xs
holders-by true name a x xs rest = refl
holders-by false name a x xs rest = ap (λ hs. x.holder ∷ hs) rest

holders-stay : (name : List ℕ) (a : Assigned) (xs : List Variable) → holders_in (with_assigned name a xs) ≡ holders_in xs
holders-stay name a [] = refl
holders-stay name a (x ∷ xs) = holders-by (bytes_eq name x.name) name a x xs (holders-stay name a xs)

holders-if : (name : List ℕ) (xs : List Variable) (o : Option Assigned) → holders_in (unwrap_or (option_map (λ a. with_assigned name a xs) o) xs) ≡ holders_in xs
holders-if name xs None = refl
holders-if name xs (Some a) = holders-stay name a xs

-- these are the holders of the list that is recorded by this number
abbrev pub AreRecorded : List (List Variable) → ℕ → List Variable → Type 0
AreRecorded recorded h xs = option_map holders_in (slice_get recorded h) ≡ Some (holders_in xs)

keep-by : (b e : Bool) (recorded : List (List Variable)) (holder : ℕ) (xs : List Variable) (c : OfHolder) (changed : List OfHolder) → nat_eq holder c.holder ≡ e → AreRecorded recorded holder xs → KeepHolders recorded (c ∷ changed) → KeepHolders recorded (with_variables holder xs changed)
    → KeepHolders recorded (if b then record { holder = holder; variables = xs } ∷ c ∷ changed else (if e then record { holder = c.holder; variables = xs } ∷ changed else c ∷ with_variables holder xs changed))
keep-by true e recorded holder xs c changed is new old rest = (new, old)
keep-by false true recorded holder xs c changed is new old rest = (subst (λ n. AreRecorded recorded n xs) (eqb-true holder c.holder is) new, old.1)
keep-by false false recorded holder xs c changed is new old rest = (old.0, rest)

keep : (recorded : List (List Variable)) (holder : ℕ) (xs : List Variable) (changed : List OfHolder) → AreRecorded recorded holder xs → KeepHolders recorded changed → KeepHolders recorded (with_variables holder xs changed)
keep recorded holder xs [] new old = (new, tt)
keep recorded holder xs (c ∷ changed) new old = keep-by (nat_lt holder c.holder) (nat_eq holder c.holder) recorded holder xs c changed refl new old (keep recorded holder xs changed new old.1)

at-by : (b : Bool) (recorded : List (List Variable)) (h : ℕ) (ys : List Variable) (c : OfHolder) (rest : Option (List Variable)) → nat_eq h c.holder ≡ b → AreRecorded recorded c.holder c.variables → (rest ≡ Some ys → AreRecorded recorded h ys) → (if b then Some c.variables else rest) ≡ Some ys → AreRecorded recorded h ys
at-by true recorded h ys c rest is old later e = subst (λ n. AreRecorded recorded n ys) (sym (eqb-true h c.holder is)) (subst (λ (zs : List Variable). AreRecorded recorded c.holder zs) (some_same c.variables ys e) old)
at-by false recorded h ys c rest is old later e = later e

changed-recorded : (recorded : List (List Variable)) (h : ℕ) (ys : List Variable) (changed : List OfHolder) → KeepHolders recorded changed → variables_at h changed ≡ Some ys → AreRecorded recorded h ys
changed-recorded recorded h ys [] old e = absurd (cc e)
changed-recorded recorded h ys (c ∷ changed) old e = at-by (nat_eq h c.holder) recorded h ys c (variables_at h changed) refl old.0 (changed-recorded recorded h ys changed old.1) e

held-by : (o : Option (List Variable)) (recorded : List (List Variable)) (h : ℕ) (ys : List Variable) → (o ≡ Some ys → AreRecorded recorded h ys) → first_of o (slice_get recorded h) ≡ Some ys → AreRecorded recorded h ys
held-by None recorded h ys changed e = ap (option_map holders_in) e
held-by (Some zs) recorded h ys changed e = changed e

pub held-recorded : (v : Played) → KeepHolders v.recording.variables v.changed → (h : ℕ) (ys : List Variable) → variables_held v h ≡ Some ys → AreRecorded v.recording.variables h ys
held-recorded v keeps h ys e = held-by (variables_at h v.changed) v.recording.variables h ys (changed-recorded v.recording.variables h ys v.changed keeps) e

-- the text is the value of the one that was found
pub set-text : (name text : List ℕ) (xs : List Variable) (v : Variable) (a : Assigned) → Some v ≡ variable_named name xs → a ≡ assigned_to text None v → with_assigned name a xs ≡ with_text name text xs
set-text name text xs v a named is = ap (λ b. with_assigned name b xs) is ∙ ap (λ o. unwrap_or (option_map (λ b. with_assigned name b xs) (option_map (assigned_to text None) o)) xs) named

-- a value more that is set
pub keep-value : (v : Played) (holder : ℕ) (name text : List ℕ) (xs : List Variable) → KeepHolders v.recording.variables v.changed → variables_held v holder ≡ Some xs → KeepHolders v.recording.variables (with_variables holder (with_text name text xs) v.changed)
keep-value v holder name text xs keeps held =
    keep v.recording.variables holder (with_text name text xs) v.changed (held-recorded v keeps holder xs held ∙ ap (λ (hs : List (Option ℕ)). Some hs) (sym (holders-if name xs (assigned_of name text None (Some xs))))) keeps

-- ---- a variable at its place

-- it is recorded there, with what holds its children
pub record RecordedAt (recorded : List (List Variable)) (h i : ℕ) (x : Variable) : Type 0 where
  pub list : List Variable
  pub at_list : slice_get recorded h ≡ Some list
  pub variable : Variable
  pub at_variable : slice_get list i ≡ Some variable
  pub same : variable.holder ≡ x.holder

get-map : {A B : Type 0} (f : A → B) (xs : List A) (i : ℕ) → slice_get (map f xs) i ≡ option_map f (slice_get xs i)
get-map f [] i = refl
get-map f (x ∷ xs) zero = refl
get-map f (x ∷ xs) (suc i) = get-map f xs i

variable-at : (recorded : List (List Variable)) (h i : ℕ) (x : Variable) (xs : List Variable) (o : Option Variable) → slice_get recorded h ≡ Some xs → slice_get xs i ≡ o → option_map (λ (y : Variable). y.holder) o ≡ Some x.holder → RecordedAt recorded h i x
variable-at recorded h i x xs None list at e = absurd (cc e)
variable-at recorded h i x xs (Some y) list at e = record { list = xs; at_list = list; variable = y; at_variable = at; same = some_same y.holder x.holder e }

list-at : (recorded : List (List Variable)) (h i : ℕ) (ys : List Variable) (x : Variable) (o : Option (List Variable)) → slice_get recorded h ≡ o → option_map holders_in o ≡ Some (holders_in ys) → slice_get ys i ≡ Some x → RecordedAt recorded h i x
list-at recorded h i ys x None list e at = absurd (cc e)
list-at recorded h i ys x (Some xs) list e at =
    let same = some_same (holders_in xs) (holders_in ys) e in
    variable-at recorded h i x xs (slice_get xs i) list refl
    (sym (get-map (λ (y : Variable). y.holder) xs i) ∙ ap (λ (hs : List (Option ℕ)). slice_get hs i) same ∙ get-map (λ (y : Variable). y.holder) ys i ∙ ap (option_map (λ (y : Variable). y.holder)) at)

pub recorded-at : (v : Played) → KeepHolders v.recording.variables v.changed → (h i : ℕ) (ys : List Variable) (x : Variable) → variables_held v h ≡ Some ys → slice_get ys i ≡ Some x → RecordedAt v.recording.variables h i x
recorded-at v keeps h i ys x held at = list-at v.recording.variables h i ys x (slice_get v.recording.variables h) refl (held-recorded v keeps h ys held) at
