-- The frames that are shown: one more, their numbers and their lines; and the part of the variables that is asked for.
use Rattle.std.proofs.Common.{◌≡◌, ℕ, zero, suc, ◌+◌, ◌<◌, ◌≤◌, ◌&&◌, ℤ, pos, Bool, true, false, if◌then◌else◌, nat_le, nat_lt, List, [], ◌∷◌, ◌++◌, length, map, take, drop, get_or, Option, Some, None, option_map, refl, sym, ap, subst, ◌∙◌, arith}
use Rattle.std.proofs.lemmas.Bool.{and_from, le-leb}
use Rattle.std.proofs.lemmas.Bool.Decides.{Decides-int_eq}
use Rattle.std.proofs.lemmas.List.{take-map, drop-map, take_more, length-take}
use Rattle.std.specs.List.{list_all, slice_get}
use Rattle.std.specs.Ordering.{int_eq}
use Rattle.dap_debuggee.specs.Laws.{is_frame, FramesInRange, NamesOneFrame}
use Rattle.dap_debuggee.specs.Shown.{window}
use Rattle.dap_debuggee.specs.declared.answers.Frame.{Frame}
use Rattle.dap_debuggee.specs.declared.answers.Variable.{Variable}
use Rattle.dap_json.specs.declared.more.Member.{Member}
use Rattle.my_debugger.specs.declared.call.Call.{Call}
use Rattle.my_debugger.specs.declared.call.Local.{Local}
use Rattle.my_debugger.specs.ToyShown.{ToyState, line_of, frame_of, frames_from, variable_of, calls_in, shown_toy}

-- ---- one more

one_more : (number : ℕ) (calls : List Call) (call : Call) → frames_from number (calls ++ call ∷ []) ≡ frames_from number calls ++ frame_of (number + length calls) call ∷ []
one_more number [] call = let e : number ≡ number + 0 = omega arith in ap (λ n. frame_of n call ∷ []) e
one_more number (c ∷ calls) call =
    let e : (number + 1) + length calls ≡ number + length (c ∷ calls) = omega arith in
    ap (λ rest. frame_of number c ∷ rest) (one_more (number + 1) calls call ∙ ap (λ n. frames_from (number + 1) calls ++ frame_of n call ∷ []) e)

pub next_frame : (calls : List Call) (i : ℕ) (call : Call) (name : List ℕ) (line : ℕ) (beside : List Member) (frames more : List Frame) → i < length calls → call ≡ get_or calls i call → name ≡ call.name → line ≡ line_of call → beside ≡ []
    → frames ≡ frames_from 0 (take i calls) → more ≡ frames ++ record { object = i; name = name; source = Some 0; line = line; more = beside } ∷ [] → more ≡ frames_from 0 (take (i + 1) calls)
next_frame calls i call name line beside frames more within at named lined none so_far is =
    let number : i ≡ 0 + length (take i calls) = omega (arith, length-take i calls) in
    let taken : take (i + 1) calls ≡ take i calls ++ call ∷ [] = take_more calls i call within ∙ ap (λ c. take i calls ++ c ∷ []) (sym at) in
    is
    ∙ ap (λ ms. frames ++ record { object = i; name = name; source = Some 0; line = line; more = ms } ∷ []) none
    ∙ ap (λ fs. fs ++ record { object = i; name = name; source = Some 0; line = line; more = [] } ∷ []) so_far
    ∙ ap (λ t. frames_from 0 (take i calls) ++ record { object = i; name = t; source = Some 0; line = line; more = [] } ∷ []) named
    ∙ ap (λ l. frames_from 0 (take i calls) ++ record { object = i; name = call.name; source = Some 0; line = l; more = [] } ∷ []) lined
    ∙ ap (λ n. frames_from 0 (take i calls) ++ frame_of n call ∷ []) number
    ∙ sym (one_more 0 (take i calls) call)
    ∙ ap (λ cs. frames_from 0 cs) (sym taken)

-- ---- numbers

number_at : (number : ℕ) (calls : List Call) (i : ℕ) (f : Frame) → slice_get (frames_from number calls) i ≡ Some f → f.object ≡ number + i
number_at number [] i f is = absurd (cc is)
number_at number (c ∷ calls) zero f is = let e : frame_of number c ≡ f = cc is in let o : number ≡ f.object = ap (λ (g : Frame). g.object) e in omega arith
number_at number (c ∷ calls) (suc i) f is = let o : f.object ≡ (number + 1) + i = number_at (number + 1) calls i f is in omega arith

one_place : (calls : List Call) (fs gs : List Frame) (i j : ℕ) (f g : Frame) → frames_from 0 calls ≡ fs → frames_from 0 calls ≡ gs → slice_get fs i ≡ Some f → slice_get gs j ≡ Some g → f.object ≡ g.object → i ≡ j
one_place calls fs gs i j f g is_f is_g at_f at_g same =
    let a : f.object ≡ 0 + i = number_at 0 calls i f (subst (λ (xs : List Frame). slice_get xs i ≡ Some f) (sym is_f) at_f) in
    let b : g.object ≡ 0 + j = number_at 0 calls j g (subst (λ (xs : List Frame). slice_get xs j ≡ Some g) (sym is_g) at_g) in
    omega arith

-- what is told where a test holds
abbrev frames_if : Bool → Option (List Call) → Option (List Frame)
frames_if b calls = if b then option_map (λ stack. frames_from 0 stack) calls else None

one_name : (b c : Bool) (s t : ℤ) (calls : Option (List Call)) (fs gs : List Frame) (i j : ℕ) (f g : Frame) → (b ≡ true → s ≡ pos 1) → (c ≡ true → t ≡ pos 1)
    → frames_if b calls ≡ Some fs → frames_if c calls ≡ Some gs → slice_get fs i ≡ Some f → slice_get gs j ≡ Some g → f.object ≡ g.object → (s ≡ t) × (i ≡ j)
one_name true true s t (Some calls) fs gs i j f g is_s is_t of_s of_t at_f at_g same =
    (is_s refl ∙ sym (is_t refl), one_place calls fs gs i j f g (cc of_s) (cc of_t) at_f at_g same)
one_name true true s t None fs gs i j f g is_s is_t of_s of_t at_f at_g same = absurd (cc of_s)
one_name true false s t calls fs gs i j f g is_s is_t of_s of_t at_f at_g same = absurd (cc of_t)
one_name false c s t calls fs gs i j f g is_s is_t of_s of_t at_f at_g same = absurd (cc of_s)

pub names_one : (v : ToyState) → NamesOneFrame (shown_toy v)
names_one v s t fs gs i j f g of_s of_t at_f at_g same =
    one_name (int_eq s (pos 1)) (int_eq t (pos 1)) s t (calls_in v.state v.stack) fs gs i j f g (Decides-int_eq s (pos 1)).0 (Decides-int_eq t (pos 1)).0 of_s of_t at_f at_g same

-- ---- lines

line_in_range : (number : ℕ) (call : Call) → is_frame 1 (frame_of number call) ≡ true
line_in_range number call =
    let low : 1 ≤ line_of call = omega arith in
    let high : line_of call ≤ 2147483647 = omega arith in
    and_from (nat_le 1 (line_of call)) (nat_le (line_of call) 2147483647 && nat_lt 0 1) (le-leb 1 (line_of call) low)
    (and_from (nat_le (line_of call) 2147483647) (nat_lt 0 1) (le-leb (line_of call) 2147483647 high) refl)

all_in_range : (number : ℕ) (calls : List Call) → list_all (is_frame 1) (frames_from number calls) ≡ true
all_in_range number [] = refl
all_in_range number (call ∷ calls) = and_from (is_frame 1 (frame_of number call)) (list_all (is_frame 1) (frames_from (number + 1) calls)) (line_in_range number call) (all_in_range (number + 1) calls)

in_range_if : (b : Bool) (calls : Option (List Call)) (frames : List Frame) → frames_if b calls ≡ Some frames → list_all (is_frame 1) frames ≡ true
in_range_if true (Some calls) frames is = let same : frames_from 0 calls ≡ frames = cc is in subst (λ (fs : List Frame). list_all (is_frame 1) fs ≡ true) same (all_in_range 0 calls)
in_range_if true None frames is = absurd (cc is)
in_range_if false calls frames is = absurd (cc is)

pub in_range : (v : ToyState) → FramesInRange (shown_toy v)
in_range v thread frames is = in_range_if (int_eq thread (pos 1)) (calls_in v.state v.stack) frames is

-- ---- a part of the variables

part_if : (b : Bool) (start count : ℕ) (locals : List Local) → map variable_of (if b then take count (drop start locals) else drop start locals) ≡ (if b then take count (drop start (map variable_of locals)) else drop start (map variable_of locals))
part_if true start count locals = sym (ap (λ xs. take count xs) (drop-map variable_of start locals) ∙ take-map variable_of count (drop start locals))
part_if false start count locals = sym (drop-map variable_of start locals)

part_of_variables : (start count : ℕ) (locals : List Local) → map variable_of (window start count locals) ≡ window start count (map variable_of locals)
part_of_variables start count locals = part_if (nat_lt 0 count) start count locals

pub part_told : (told : Option (List Local)) (start count : ℕ) (locals part : List Local) (items : List Variable) → Some locals ≡ told → part ≡ window start count locals → items ≡ map variable_of part
    → option_map (window start count) (option_map (λ ls. map variable_of ls) told) ≡ Some items
part_told told start count locals part items is cut each =
    ap (λ o. option_map (window start count) (option_map (λ ls. map variable_of ls) o)) (sym is)
    ∙ ap (λ vs. Some vs) (sym (part_of_variables start count locals) ∙ ap (λ ls. map variable_of ls) (sym cut) ∙ sym each)
