-- Numbers that are given for an answer.
use Rattle.std.proofs.Common.{◌≡◌, ℕ, ◌+◌, ◌<◌, List, [], ◌∷◌, ◌++◌, Option, Some, None, Result, Ok, Err, length, drop, drop-cons, get_or, add-one, refl, sym, ap, ◌∙◌, subst, append_assoc}
use Rattle.serde_json.specs.Data.{Data}
use Rattle.dap_frame.specs.Settings.{Settings}
use Rattle.dap_body.specs.declared.failure.Failure.{Failure}
use Rattle.dap_tables.specs.References.{LiveReferences}
use Rattle.dap_tables.specs.declared.target.Target.{Target}
use Rattle.dap_query.specs.Bodies.{result_with_references}
use Rattle.dap_query.specs.References.{intern_each, number_of, targets_named, onto_first}
use Rattle.dap_query.specs.Queries.{QueryState}
use Rattle.dap_query.specs.QueryResults.{OnlyGives, AnswersWith, Says}
use Rattle.dap_query.specs.declared.no_answer.NoAnswer.{NoAnswer}
use Rattle.dap_query.specs.declared.no_answer.NoAnswer.TheVariants.{Fails, OutOfMemory}
use Rattle.dap_query.proofs.Interned.{grows-twice}

-- ---- nothing else happens

pub gives-twice : (old mid new : QueryState) → OnlyGives old mid → OnlyGives mid new → OnlyGives old new
gives-twice old mid new g h =
    record {
      others = h.others ∙ ap (λ (q : QueryState). record q { references = new.references }) g.others;
      grows = grows-twice old.references mid.references new.references g.grows h.grows;
    }

-- ---- each number

-- these, and then the rest
abbrev pub onto_all : List ℕ → Result (List ℕ × LiveReferences) Failure → Result (List ℕ × LiveReferences) Failure
onto_all ns (Ok r) = Ok (ns ++ r.0, r.1)
onto_all ns (Err f) = Err f

onto-more : (ns : List ℕ) (n : ℕ) (rest : Result (List ℕ × LiveReferences) Failure) → onto_all ns (onto_first n rest) ≡ onto_all (ns ++ n ∷ []) rest
onto-more ns n (Ok r) = ap (λ (xs : List ℕ). let out : Result (List ℕ × LiveReferences) Failure = Ok (xs, r.1) in out) (sym (append_assoc ns (n ∷ []) r.0))
onto-more ns n (Err f) = refl

object-at : (objects : List (Option Target)) (i : ℕ) → i < length objects → drop i objects ≡ get_or objects i None ∷ drop (i + 1) objects
object-at objects i h = rw (add-one i) (drop-cons objects i None h)

pub number-more : (limits : Settings) (objects : List (Option Target)) (i : ℕ) (ns later : List ℕ) (refs new : LiveReferences) (n : ℕ) (all : Result (List ℕ × LiveReferences) Failure) → i < length objects
    → number_of limits (get_or objects i None) refs ≡ Ok (n, new) → later ≡ ns ++ n ∷ [] → onto_all ns (intern_each limits (drop i objects) refs) ≡ all → onto_all later (intern_each limits (drop (i + 1) objects) new) ≡ all
number-more limits objects i ns later refs new n all h is l so_far =
    let here : onto_all ns (intern_each limits (get_or objects i None ∷ drop (i + 1) objects) refs) ≡ all = subst (λ (os : List (Option Target)). onto_all ns (intern_each limits os refs) ≡ all) (object-at objects i h) so_far in
    let next : onto_all ns (onto_first n (intern_each limits (drop (i + 1) objects) new)) ≡ all = rw is at here in
    rw l (sym (onto-more ns n (intern_each limits (drop (i + 1) objects) new)) ∙ next)

-- the first that has none refuses them all
pub number-fails : (limits : Settings) (objects : List (Option Target)) (i : ℕ) (ns : List ℕ) (refs : LiveReferences) (fault : NoAnswer) (all : Result (List ℕ × LiveReferences) Failure) → i < length objects
    → Says fault (number_of limits (get_or objects i None) refs) → onto_all ns (intern_each limits (drop i objects) refs) ≡ all → Says fault all
number-fails limits objects i ns refs (Fails f) all h is so_far =
    let here : onto_all ns (intern_each limits (get_or objects i None ∷ drop (i + 1) objects) refs) ≡ all = subst (λ (os : List (Option Target)). onto_all ns (intern_each limits os refs) ≡ all) (object-at objects i h) so_far in
    sym (rw is at here)
number-fails limits objects i ns refs OutOfMemory all h is so_far = tt

-- ---- what is told

pub told-with : (q : QueryState) (objects : List (Option Target)) (body : List ℕ → Data) (ns : List ℕ) (refs : LiveReferences) → intern_each q.limits objects q.references ≡ Ok (ns, refs) → AnswersWith (result_with_references q objects body) (Some (body ns)) refs
told-with q objects body ns refs h = record { names = targets_named objects; is = rw h refl }

pub fails-with : (q : QueryState) (objects : List (Option Target)) (body : List ℕ → Data) (f : Failure) → intern_each q.limits objects q.references ≡ Err f → result_with_references q objects body ≡ Err f
fails-with q objects body f h = rw h refl
