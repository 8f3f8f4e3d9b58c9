-- The most lines of each path, with one source more.
use Rattle.std.proofs.Common.{◌≡◌, ℕ, Bool, true, false, cond, if◌then◌else◌, max, List, Option, Some, option_map, unwrap_or, bytes_eq, refl, sym, ap, ◌∙◌, arith}
use Rattle.std.proofs.lemmas.Slice.Eq.{bytes_eq-Decides}
use Rattle.dap_recording.specs.PrivatePaths.{path_lines_of}
use Rattle.dap_recording.specs.declared.recording.RecordedSource.{RecordedSource}

one_answer : (b c : Bool) → (b ≡ true → c ≡ true) → (c ≡ true → b ≡ true) → b ≡ c
one_answer true c there back = sym (there refl)
one_answer false true there back = back refl
one_answer false false there back = refl

same_paths : (p q : List ℕ) → bytes_eq p q ≡ bytes_eq q p
same_paths p q = one_answer (bytes_eq p q) (bytes_eq q p) (λ e. (bytes_eq-Decides q p).1 (sym ((bytes_eq-Decides p q).0 e))) (λ e. (bytes_eq-Decides p q).1 (sym ((bytes_eq-Decides q p).0 e)))

-- `old` is what the table had of each path
added_by : (b : Bool) (old : List ℕ → Option ℕ) (path other : List ℕ) (n : ℕ) → bytes_eq path other ≡ b → unwrap_or (cond b (Some (max (unwrap_or (old path) 0) n)) (old other)) 0 ≡ max (unwrap_or (old other) 0) (if b then n else 0)
added_by true old path other n is = ap (λ p. max (unwrap_or (old p) 0) n) ((bytes_eq-Decides path other).0 is)
added_by false old path other n is = omega arith

pub most_added : (old : List ℕ → Option ℕ) (path other : List ℕ) (source : RecordedSource) → source.path ≡ Some path
    → unwrap_or (cond (bytes_eq path other) (Some (max (unwrap_or (old path) 0) source.lines)) (old other)) 0 ≡ max (unwrap_or (old other) 0) (path_lines_of other source)
most_added old path other source is =
    added_by (bytes_eq path other) old path other source.lines refl
    ∙ ap (λ b. max (unwrap_or (old other) 0) (if b then source.lines else 0)) (same_paths path other ∙ ap (λ p. unwrap_or (option_map (bytes_eq other) p) false) (sym is))
