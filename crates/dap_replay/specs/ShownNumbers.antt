-- What a recorded debuggee tells can be asked for what it holds, and no number of a holder is told twice. No law says either of every debuggee.
-- The Specification, "StackFrame", "Scope", "Variable" and "Evaluate Request", says that scopes and variables can be retrieved by the numbers that are told. That they can be in each view is this profile's choice.
use Rattle.std.specs.Prelude.{◌≡◌, ℕ, ℤ, List, Option, Some}
use Rattle.std.specs.List.{slice_get}
use Rattle.std.specs.Option.{IsSome}
use Rattle.dap_debuggee.specs.Shown.{Shown}
use Rattle.dap_debuggee.specs.declared.answers.Thread.{Thread}
use Rattle.dap_debuggee.specs.declared.answers.Source.{Source}
use Rattle.dap_debuggee.specs.declared.answers.Frame.{Frame}
use Rattle.dap_debuggee.specs.declared.answers.Scope.{Scope}
use Rattle.dap_debuggee.specs.declared.answers.Variable.{Variable}
use Rattle.dap_debuggee.specs.declared.answers.Evaluation.{Evaluation}

pub record ShownCanBeAsked (v : Shown) : Type 0 where
  -- each thread has frames
  pub threads : (i : ℕ) (thread : Thread) → slice_get v.threads i ≡ Some thread → IsSome (v.frames thread.id)
  -- each source has a text
  pub sources : (i : ℕ) (source : Source) → slice_get v.sources i ≡ Some source → IsSome (v.content i)
  -- each frame has scopes
  pub frames : (thread : ℤ) (fs : List Frame) (i : ℕ) (f : Frame) → v.frames thread ≡ Some fs → slice_get fs i ≡ Some f → IsSome (v.scopes f.object)
  -- each scope has variables
  pub scopes : (frame : ℕ) (ss : List Scope) (i : ℕ) (s : Scope) → v.scopes frame ≡ Some ss → slice_get ss i ≡ Some s → IsSome (v.children s.holder)
  -- a variable with a number has children
  pub variables : (holder : ℕ) (xs : List Variable) (i : ℕ) (x : Variable) (n : ℕ) → v.children holder ≡ Some xs → slice_get xs i ≡ Some x → x.holder ≡ Some n → IsSome (v.children n)
  -- and so has a value with a number
  pub values : (frame : Option ℕ) (text : List ℕ) (e : Evaluation) (n : ℕ) → v.evaluate frame text ≡ Some e → e.holder ≡ Some n → IsSome (v.children n)

-- a number of a holder is that of one scope or of one variable
pub record NamesOneHolder (v : Shown) : Type 0 where
  -- two scopes with one number are the same scope of the same frame
  pub scopes : (f g : ℕ) (ss ts : List Scope) (i j : ℕ) (s t : Scope) → v.scopes f ≡ Some ss → v.scopes g ≡ Some ts → slice_get ss i ≡ Some s → slice_get ts j ≡ Some t → s.holder ≡ t.holder → (f ≡ g) × (i ≡ j)
  -- two variables with one number are the same variable of the same holder
  pub variables : (h k : ℕ) (xs ys : List Variable) (i j : ℕ) (x y : Variable) (n : ℕ) → v.children h ≡ Some xs → v.children k ≡ Some ys → slice_get xs i ≡ Some x → slice_get ys j ≡ Some y → x.holder ≡ Some n → y.holder ≡ Some n → (h ≡ k) × (i ≡ j)
  -- a scope and a variable never have one number
  pub apart : (f h : ℕ) (ss : List Scope) (xs : List Variable) (i j : ℕ) (s : Scope) (x : Variable) → v.scopes f ≡ Some ss → v.children h ≡ Some xs → slice_get ss i ≡ Some s → slice_get xs j ≡ Some x → x.holder ≡ Some s.holder → ⊥
