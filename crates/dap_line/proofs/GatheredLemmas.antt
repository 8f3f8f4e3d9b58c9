-- The elements that a host tells, one after the other.
use Rattle.std.proofs.Common.{◌≡◌, ℕ, suc, List, ◌∷◌, length, get_or, drop, ◌<◌, Err, Ok, sym, ap, ◌∙◌, drop-cons}
use Rattle.serde_json.specs.Data.{Data}
use Rattle.serde_json.specs.View.{view, items_view}
use Rattle.serde_json.specs.declared.value.Value.{Value}
use Rattle.dap_json.specs.Steps.{◌>>=◌}
use Rattle.dap_line.specs.Told.{gathered, Read, SaysKey}
use Rattle.dap_line.specs.declared.told.Unread.{Unread}
use Rattle.dap_line.specs.declared.told.Unread.TheVariants.{Refused, OutOfMemory}
use Rattle.dap_line.specs.declared.refusal.Refusal.{Refusal}

next_one : {A B : Type 0} (of : Data → Read A) (put : B → A → B) (vs : List Value) (i : ℕ) (v : Value) (before : B) → i < length vs → v ≡ get_or vs i v
    → gathered of put (items_view (drop i vs)) before ≡ (of (view v) >>= (λ x. gathered of put (items_view (drop (suc i) vs)) (put before x)))
next_one of put vs i v before within at = ap (λ ws. gathered of put (items_view ws) before) (drop-cons vs i v within ∙ ap (λ w. w ∷ drop (suc i) vs) (sym at))

-- where one is not read, so are all
says_all : {A B : Type 0} (why : Refusal) (one : Read A) (rest : A → Read B) (all : Read B) → all ≡ (one >>= rest) → SaysKey (Refused why) one → SaysKey (Refused why) all
says_all why (Ok x) rest all is says = absurd says
says_all why (Err k) rest all is says = rw is says

pub refused_one : {A B : Type 0} (of : Data → Read A) (put : B → A → B) (none : B) (vs : List Value) (i : ℕ) (v : Value) (before : B) (u : Unread) → i < length vs → v ≡ get_or vs i v
    → gathered of put (items_view (drop i vs)) before ≡ gathered of put (items_view vs) none → SaysKey u (of (view v)) → SaysKey u (gathered of put (items_view vs) none)
refused_one of put none vs i v before (Refused why) within at so_far says =
    says_all why (of (view v)) (λ x. gathered of put (items_view (drop (suc i) vs)) (put before x)) (gathered of put (items_view vs) none) (sym so_far ∙ next_one of put vs i v before within at) says
refused_one of put none vs i v before OutOfMemory within at so_far says = tt

pub read_one : {A B : Type 0} (of : Data → Read A) (put : B → A → B) (none : B) (vs : List Value) (i : ℕ) (v : Value) (before : B) (x : A) → i < length vs → v ≡ get_or vs i v
    → gathered of put (items_view (drop i vs)) before ≡ gathered of put (items_view vs) none → of (view v) ≡ Ok x → gathered of put (items_view (drop (suc i) vs)) (put before x) ≡ gathered of put (items_view vs) none
read_one of put none vs i v before x within at so_far gives = sym (next_one of put vs i v before within at ∙ ap (λ r. r >>= (λ x. gathered of put (items_view (drop (suc i) vs)) (put before x))) gives) ∙ so_far
