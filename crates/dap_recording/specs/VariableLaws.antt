-- What a map from holders to their variables has once a list is put in, and what can be set of variables once a value is.
use Rattle.std.proofs.Common.{◌≡◌, ℕ, Bool, true, false, nat_eq, nat_lt, bytes_eq, eq-eqb, List, [], ◌∷◌, Option, Some, None, option_map, if◌then◌else◌, refl, sym, ap, subst}
use Rattle.std.specs.Prelude.{option_and_then, unwrap_or}
use Rattle.std.specs.List.{find}
use Rattle.std.specs.Option.{IsSome}
use Rattle.std.proofs.lemmas.Bool.{eqb-true}
use Rattle.dap_json.specs.declared.more.Member.{Member}
use Rattle.dap_debuggee.specs.Laws.{variable_named, with_assigned}
use Rattle.dap_debuggee.specs.declared.answers.Variable.{Variable}
use Rattle.dap_debuggee.specs.declared.answers.Assigned.{Assigned}
use Rattle.dap_recording.specs.Variables.{OfHolder, variables_at, with_variables, assigned_to, assigned_of}

-- ---- variables that are put in

-- of the holder that is named
here-by : (b e : Bool) (holder : ℕ) (xs : List Variable) (c : OfHolder) (changed : List OfHolder) → nat_eq holder c.holder ≡ e → variables_at holder (with_variables holder xs changed) ≡ Some xs
    → variables_at holder (if b then record { holder = holder; variables = xs } ∷ c ∷ changed else (if e then record { holder = c.holder; variables = xs } ∷ changed else c ∷ with_variables holder xs changed)) ≡ Some xs
here-by true e holder xs c changed is rest = rw (eq-eqb holder holder refl) refl
here-by false true holder xs c changed is rest = rw is refl
here-by false false holder xs c changed is rest = rw is rest

pub variables-put : (holder : ℕ) (xs : List Variable) (changed : List OfHolder) → variables_at holder (with_variables holder xs changed) ≡ Some xs
variables-put holder xs [] = rw (eq-eqb holder holder refl) refl
variables-put holder xs (c ∷ changed) = here-by (nat_lt holder c.holder) (nat_eq holder c.holder) holder xs c changed refl (variables-put holder xs changed)

-- and of any other
else-by : (b e : Bool) (holder h : ℕ) (xs : List Variable) (c : OfHolder) (changed : List OfHolder) → nat_eq holder c.holder ≡ e → nat_eq h holder ≡ false → variables_at h (with_variables holder xs changed) ≡ variables_at h changed
    → variables_at h (if b then record { holder = holder; variables = xs } ∷ c ∷ changed else (if e then record { holder = c.holder; variables = xs } ∷ changed else c ∷ with_variables holder xs changed)) ≡ variables_at h (c ∷ changed)
else-by true e holder h xs c changed is other rest = rw other refl
else-by false true holder h xs c changed is other rest = let apart : nat_eq h c.holder ≡ false = subst (λ n. nat_eq h n ≡ false) (eqb-true holder c.holder is) other in rw apart refl
else-by false false holder h xs c changed is other rest = ap (λ (o : Option (List Variable)). if nat_eq h c.holder then Some c.variables else o) rest

pub variables-of_others : (holder h : ℕ) (xs : List Variable) (changed : List OfHolder) → nat_eq h holder ≡ false → variables_at h (with_variables holder xs changed) ≡ variables_at h changed
variables-of_others holder h xs [] other = rw other refl
variables-of_others holder h xs (c ∷ changed) other = else-by (nat_lt holder c.holder) (nat_eq holder c.holder) holder h xs c changed refl other (variables-of_others holder h xs changed other)

-- ---- a value that is set

same_some : {A : Type 0} (x y : A) → Some x ≡ Some y → x ≡ y
same_some x y e = cc

pub named-in : (o : Option (List Variable)) (name text : List ℕ) (said : Option (List Member)) (a : Assigned) → assigned_of name text said o ≡ Some a → (xs : List Variable) × (o ≡ Some xs)
named-in None name text said a e = absurd (cc e)
named-in (Some xs) name text said a e = (xs, refl)

-- what is said of a variable to which the same was assigned is said of it before
again : (text value : List ℕ) (said : Option (List Member)) (x : Variable) → assigned_to text said (record { name = x.name; value = value; holder = x.holder; more = unwrap_or said x.more }) ≡ assigned_to text said x
again text value None x = refl
again text value (Some more) x = refl

set-again : (text value : List ℕ) (said : Option (List Member)) (x : Variable) (a : Assigned) → assigned_to value said x ≡ a → assigned_to text said (record { name = x.name; value = a.value; holder = x.holder; more = a.more }) ≡ assigned_to text said x
set-again text value said x a is = subst (λ (b : Assigned). assigned_to text said (record { name = x.name; value = b.value; holder = x.holder; more = b.more }) ≡ assigned_to text said x) is (again text value said x)

-- the names stay, and so what can be set
head-by : (b : Bool) (x y : Variable) (xs : List Variable) (n text : List ℕ) (said : Option (List Member)) → assigned_to text said x ≡ assigned_to text said y
    → option_map (assigned_to text said) (if b then Some x else find (λ variable. bytes_eq n variable.name) xs) ≡ option_map (assigned_to text said) (if b then Some y else find (λ variable. bytes_eq n variable.name) xs)
head-by true x y xs n text said same = ap (λ (z : Assigned). Some z) same
head-by false x y xs n text said same = refl

tail-by : (b : Bool) (x : Variable) (xs ys : List Variable) (n text : List ℕ) (said : Option (List Member))
    → option_map (assigned_to text said) (find (λ variable. bytes_eq n variable.name) xs) ≡ option_map (assigned_to text said) (find (λ variable. bytes_eq n variable.name) ys)
    → option_map (assigned_to text said) (if b then Some x else find (λ variable. bytes_eq n variable.name) xs) ≡ option_map (assigned_to text said) (if b then Some x else find (λ variable. bytes_eq n variable.name) ys)
tail-by true x xs ys n text said rest = refl
tail-by false x xs ys n text said rest = rest

names-by : (b : Bool) (x : Variable) (xs : List Variable) (name value n text : List ℕ) (said : Option (List Member)) (a : Assigned) → option_map (assigned_to value said) (if b then Some x else variable_named name xs) ≡ Some a
    → (option_map (assigned_to value said) (variable_named name xs) ≡ Some a → option_map (assigned_to text said) (variable_named n (with_assigned name a xs)) ≡ option_map (assigned_to text said) (variable_named n xs))
    → option_map (assigned_to text said) (variable_named n (if b then record { name = x.name; value = a.value; holder = x.holder; more = a.more } ∷ xs else x ∷ with_assigned name a xs)) ≡ option_map (assigned_to text said) (variable_named n (x ∷ xs))
names-by true x xs name value n text said a is rest = head-by (bytes_eq n x.name) (record { name = x.name; value = a.value; holder = x.holder; more = a.more }) x xs n text said (set-again text value said x a (same_some (assigned_to value said x) a is))
names-by false x xs name value n text said a is rest = tail-by (bytes_eq n x.name) x (with_assigned name a xs) xs n text said (rest is)

names-stay : (xs : List Variable) (name value n text : List ℕ) (said : Option (List Member)) (a : Assigned) → option_map (assigned_to value said) (variable_named name xs) ≡ Some a
    → option_map (assigned_to text said) (variable_named n (with_assigned name a xs)) ≡ option_map (assigned_to text said) (variable_named n xs)
names-stay [] name value n text said a is = refl
names-stay (x ∷ xs) name value n text said a is = names-by (bytes_eq name x.name) x xs name value n text said a is (names-stay xs name value n text said a)

-- what can be set of others, or once a value is set, stays: the same is said of each text
pub assigned-by : (b : Bool) (o before : Option (List Variable)) (name value n text : List ℕ) (said : Option (List Member)) (a : Assigned) → assigned_of name value said before ≡ Some a → (b ≡ true → o ≡ before)
    → assigned_of n text said (if b then option_map (with_assigned name a) o else o) ≡ assigned_of n text said o
assigned-by true o None name value n text said a is same = absurd (cc is)
assigned-by true o (Some xs) name value n text said a is same =
    subst (λ (p : Option (List Variable)). assigned_of n text said (option_map (with_assigned name a) p) ≡ assigned_of n text said p) (sym (same refl)) (names-stay xs name value n text said a is)
assigned-by false o before name value n text said a is same = refl

some-before : {A B : Type 0} (f : A → B) (o : Option A) → IsSome (option_map f o) → IsSome o
some-before f None h = h
some-before f (Some x) h = refl

-- only a variable that is there can be set
pub assigned-there : (o : Option (List Variable)) (name text : List ℕ) (said : Option (List Member)) → IsSome (assigned_of name text said o) → IsSome (option_and_then (variable_named name) o)
assigned-there o name text said h = some-before (assigned_to text said) (option_and_then (variable_named name) o) h
