-- One element more of a list that is read.
use Rattle.std.proofs.Common.{◌≡◌, ℕ, suc, ◌+◌, ◌<◌, List, [], ◌∷◌, ◌++◌, length, get_or, drop, map, Result, Ok, Err, refl, sym, ap, ◌∙◌, subst, append_assoc, add-one}
use Rattle.std.specs.Prelude.{MatchResult}
use Rattle.std.proofs.Math.Seq.{drop-cons}
use Rattle.std.proofs.lemmas.List.{map-append}
use Rattle.serde_json.specs.Data.{Data}
use Rattle.serde_json.specs.View.{view, items_view}
use Rattle.serde_json.specs.declared.value.Value.{Value}
use Rattle.dap_json.specs.Steps.{◌>>=◌}
use Rattle.dap_json.specs.Property.{ok_map}
use Rattle.dap_body.specs.At.{Read}
use Rattle.dap_body.specs.View.{Viewed, each}
use Rattle.dap_body.specs.declared.key.BodyKey.{BodyKey}
use Rattle.dap_body.specs.declared.fault.ViewFault.{ViewFault}
use Rattle.dap_body.specs.declared.fault.ViewFault.TheVariants.{OutOfMemory, Element}

-- what `add` ensures
abbrev pub Adds : {A U : Type 0} → ℕ → Result A BodyKey → List A → List A → Result U ViewFault → Type 0
Adds i r olds news added = MatchResult r (λ x. MatchResult added (λ _. news ≡ olds ++ x ∷ []) (λ fault. fault ≡ OutOfMemory)) (λ key. added ≡ Err (Element i key))

-- the first of the rest joins those before it
joined : {B : Type 0} (bs : List B) (b : B) (r : Viewed (List B)) → ok_map (λ xs. (bs ++ b ∷ []) ++ xs) r ≡ ok_map (λ xs. bs ++ xs) (r >>= (λ xs. Ok (b ∷ xs)))
joined bs b (Ok xs) = ap Ok (append_assoc bs (b ∷ []) xs)
joined bs b (Err e) = refl

module _ {A B : Type 0} (parts : A → B) (read : Data → Read B) (i : ℕ) (values : List Value) (value : Value) (h : i < length values) (is : value ≡ get_or values i value) where
  abbrev rest : Viewed (List B)
  rest = each read (suc i) (items_view (drop (suc i) values))

  here : (x : A) → Ok (parts x) ≡ read (view value) → each read i (items_view (drop i values)) ≡ (rest >>= (λ xs. Ok (parts x ∷ xs)))
  here x reads = rw (drop-cons values i value h, sym is, sym reads) refl

  one_more : (x : A) (olds news : List A) → Ok (parts x) ≡ read (view value) → news ≡ olds ++ x ∷ []
      → ok_map (λ xs. map parts news ++ xs) (each read (i + 1) (items_view (drop (i + 1) values))) ≡ ok_map (λ xs. map parts olds ++ xs) (each read i (items_view (drop i values)))
  one_more x olds news reads new =
      rw (add-one i, new, map-append parts olds (x ∷ []), here x reads) (joined (map parts olds) (parts x) rest)

  -- after one that was added
  pub each-step : {U : Type 0} (r : Result A BodyKey) (olds news : List A) (added : Result U ViewFault) (u : U) (whole : Viewed (List B))
      → ok_map parts r ≡ read (view value) → Adds i r olds news added → added ≡ Ok u
      → ok_map (λ xs. map parts olds ++ xs) (each read i (items_view (drop i values))) ≡ whole
      → ok_map (λ xs. map parts news ++ xs) (each read (i + 1) (items_view (drop (i + 1) values))) ≡ whole
  each-step (Ok x) olds news added u whole reads adds done before =
      let new : news ≡ olds ++ x ∷ [] = subst (λ a. MatchResult a (λ _. news ≡ olds ++ x ∷ []) (λ fault. fault ≡ OutOfMemory)) done adds in
      one_more x olds news reads new ∙ before
  each-step (Err key) olds news added u whole reads adds done before = absurd (cc)
