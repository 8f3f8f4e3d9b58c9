-- The debuggee that may go on by itself keeps every law of a debuggee.
use Rattle.std.proofs.Common.{None, ◌≡◌, ℕ, ℤ, zero, suc, [], List, ◌∷◌, Bool, true, false, Some, codes, pos, refl, sym, ap, ◌∙◌, arith, true≢false}
use Rattle.std.specs.Prelude.{if◌then◌else◌, slice_get}
use Rattle.std.specs.List.{list_all}
use Rattle.std.specs.Ordering.{int_eq}
use Rattle.std.proofs.lemmas.Bool.Decides.{Decides-int_eq}
use Rattle.dap_ends.proofs.Counts.{and-left, and-right}
use Rattle.dap_command.specs.Numbers.{is_int}
use Rattle.dap_debuggee.specs.KeepsLaws.{KeepsLaws}
use Rattle.dap_debuggee.specs.Laws.{state_after, keeps_answers, is_frame}
use Rattle.dap_debuggee.specs.Shown.{Act, to_start, to_resume, to_pause, to_poll, to_set_breakpoints, to_assign, to_end, Reply, done, refused, happened}
use Rattle.dap_debuggee.specs.declared.answers.Frame.{Frame}
use Rattle.dap_debuggee.specs.declared.answers.State.{State}
use Rattle.dap_debuggee.specs.declared.answers.State.TheVariants.{NotStarted, Running, Stopped, Gone}
use Rattle.dap_world.specs.Restless.{Restless, threads_in, restless_shown, RestlessFollows}

same-state : (state : State) (act : Act) (reply : Reply) → keeps_answers act reply ≡ true → state_after state act reply ≡ state
same-state state to_start done h = absurd (true≢false (sym h))
same-state state to_start (refused why) h = refl
same-state state to_start (happened x) h = absurd (true≢false (sym h))
same-state state (to_resume how thread) done h = absurd (true≢false (sym h))
same-state state (to_resume how thread) (refused why) h = refl
same-state state (to_resume how thread) (happened x) h = absurd (true≢false (sym h))
same-state state to_pause reply h = refl
same-state state to_poll reply h = absurd (true≢false (sym h))
same-state state (to_set_breakpoints source lines) reply h = refl
same-state state (to_assign holder name text) reply h = absurd (true≢false (sym h))
same-state state to_end reply h = absurd (true≢false (sym h))

threads-in-range : (state : State) → list_all (λ thread. is_int thread.id) (threads_in state) ≡ true
threads-in-range NotStarted = refl
threads-in-range Running = refl
threads-in-range Stopped = refl
threads-in-range Gone = refl

abbrev frame : Frame
frame = record { object = 0; name = codes "main"; source = Some 0; line = 1; more = [] }

frames-in-range : (b : Bool) (frames : List Frame) → (if b then Some (frame ∷ []) else None) ≡ Some frames → list_all (is_frame 1) frames ≡ true
frames-in-range true frames e = let same : frames ≡ frame ∷ [] = cc in rw same refl
frames-in-range false frames e = absurd cc

-- a thread that has frames is thread 1, and has one
only-here : (b : Bool) (frames : List Frame) (i : ℕ) (f : Frame) → (if b then Some (frame ∷ []) else None) ≡ Some frames → slice_get frames i ≡ Some f → (b ≡ true) × (i ≡ 0)
only-here true frames zero f e at = (refl, refl)
only-here true frames (suc i) f e at =
    let same : frames ≡ frame ∷ [] = cc in
    let none : slice_get (frame ∷ []) (suc i) ≡ Some f = ap (λ (fs : List Frame). slice_get fs (suc i)) (sym same) ∙ at in
    absurd cc
only-here false frames i f e at = absurd cc

one-name : (s t : ℤ) (fs gs : List Frame) (i j : ℕ) (f g : Frame) → (if int_eq s (pos 1) then Some (frame ∷ []) else None) ≡ Some fs → (if int_eq t (pos 1) then Some (frame ∷ []) else None) ≡ Some gs → slice_get fs i ≡ Some f → slice_get gs j ≡ Some g → (s ≡ t) × (i ≡ j)
one-name s t fs gs i j f g es et ei ej =
    let a = only-here (int_eq s (pos 1)) fs i f es ei in
    let b = only-here (int_eq t (pos 1)) gs j g et ej in
    ((Decides-int_eq s (pos 1)).0 a.0 ∙ sym ((Decides-int_eq t (pos 1)).0 b.0), a.1 ∙ sym b.1)

pub keeps-laws : KeepsLaws restless_shown RestlessFollows
keeps-laws = record {
  counts = λ v w act reply f. ap (λ (x : Restless). x.acts) f.1;
  remembers = λ v w act reply f. ap (λ (x : Restless). x.last) f.1;
  answers = λ v w act reply f. and-left _ _ f.0;
  moves = λ v w act reply f. ap (λ (x : Restless). x.state) f.1;
  sets_lines = λ v w act reply f key. ap (λ (x : Restless). x.lines key) f.1;
  sets_values = λ v w holder name text reply f. absurd (true≢false (sym (and-right _ false f.0)));
  keeps_answers = λ v w act reply f h. record {
    threads = ap (λ (x : Restless). threads_in x.state) f.1 ∙ ap threads_in (same-state v.state act reply h);
    frames = record { frames = λ thread. refl; scopes = λ frame. refl; children = λ holder. refl };
    evaluate = λ frame text. refl;
    assigned = λ holder name text. refl;
    sources = record { sources = refl; content = λ index. refl };
    verify = λ source lines. refl;
  };
  keeps_frames = λ v w act reply f h. record { frames = λ thread x is. is; scopes = λ frame x is. is; children = λ holder x is. is };
  keeps_sources = λ v w act reply f. record { sources = λ index x is. is; content = λ index x is. is };
  no_threads = λ v. (λ e. ap threads_in e, λ e. ap threads_in e);
  verifies_each = λ v source lines answers e. absurd cc;
  assigns_variables = λ v holder name text h. absurd (true≢false (sym h));
  short = λ v w h f. and-right _ _ f.0;
  threads_in_range = λ v. threads-in-range v.state;
  frames_in_range = λ v thread frames e. frames-in-range (int_eq thread (pos 1)) frames e;
  one_name = λ v s t fs gs i j f g es et ei ej same. one-name s t fs gs i j f g es et ei ej;
  sources_in_range = λ v. omega arith;
}
