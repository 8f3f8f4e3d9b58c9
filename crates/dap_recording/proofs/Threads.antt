-- The threads of a moment: their ids and their frames are in range, and no two frames have one number.
use Rattle.std.proofs.Common.{◌≡◌, ◌<◌, ◌+◌, ◌++◌, arith, if◌then◌else◌, map, ℕ, zero, suc, ℤ, Bool, true, false, nat_lt, List, [], ◌∷◌, length, Option, Some, None, option_map, refl, sym, ap, ◌∙◌, subst}
use Rattle.std.proofs.lemmas.Bool.{and_parts, and_from}
use Rattle.std.proofs.lemmas.Bool.Decides.{nat_tests, Decides-int_eq}
use Rattle.std.specs.List.{list_all, slice_get, find}
use Rattle.std.specs.Ordering.{int_eq}
use Rattle.dap_command.specs.Numbers.{is_int}
use Rattle.dap_debuggee.specs.Laws.{is_frame}
use Rattle.dap_debuggee.specs.declared.answers.Frame.{Frame}
use Rattle.dap_recording.specs.Recording.{objects_of, objects, is_moment, is_thread, are_distinct, is_rising}
use Rattle.dap_recording.specs.Snapshot.{HasIds, NameSources, NameOne, thread_shown, thread_with, frames_in}
use Rattle.dap_recording.specs.declared.recording.RecordedThread.{RecordedThread}
use Rattle.dap_recording.specs.declared.recording.Moment.{Moment}
use Rattle.dap_recording.proofs.ReadSteps.{some_same}

-- ---- ranges

pub ids_in_range : (n : ℕ) (threads : List RecordedThread) → list_all (is_thread n) threads ≡ true → HasIds (map thread_shown threads)
ids_in_range n [] good = refl
ids_in_range n (x ∷ xs) good =
    let p = and_parts (is_thread n x) (list_all (is_thread n) xs) good in
    and_from _ _ (and_parts (is_int x.id) _ p.0).0 (ids_in_range n xs p.1)

find_by : {A : Type 0} (b : Bool) (x y : A) (rest : Option A) (P : A → Type 0) → P x → (rest ≡ Some y → P y) → (if b then Some x else rest) ≡ Some y → P y
find_by true x y rest P here later is = subst P (some_same x y is) here
find_by false x y rest P here later is = later is

find_good : {A : Type 0} (test p : A → Bool) (xs : List A) (y : A) → list_all p xs ≡ true → find test xs ≡ Some y → p y ≡ true
find_good test p [] y all is = absurd (cc is)
find_good test p (x ∷ xs) y all is =
    find_by (test x) x y (find test xs) (λ z. p z ≡ true) (and_parts (p x) (list_all p xs) all).0 (λ later. find_good test p xs y (and_parts (p x) (list_all p xs) all).1 later) is

frames_by : (n : ℕ) (o : Option RecordedThread) (frames : List Frame) → ((thread : RecordedThread) → o ≡ Some thread → is_thread n thread ≡ true) → option_map (λ thread. thread.frames) o ≡ Some frames → list_all (is_frame n) frames ≡ true
frames_by n None frames good is = absurd (cc is)
frames_by n (Some thread) frames good is =
    subst (λ fs. list_all (is_frame n) fs ≡ true) (some_same thread.frames frames is)
    (and_parts (nat_lt 0 (length thread.frames)) _ (and_parts (is_int thread.id) _ (good thread refl)).1).1

pub frames_name_sources : (n : ℕ) (threads : List RecordedThread) → list_all (is_thread n) threads ≡ true → NameSources n (frames_in threads)
frames_name_sources n threads good id frames is =
    frames_by n (thread_with id threads) frames (λ thread found. find_good (λ thread. int_eq id thread.id) (is_thread n) threads thread good found) is

-- ---- one name

-- a rising list is rising without its first number
rising_rest : (n : ℕ) (ns : List ℕ) → is_rising (n ∷ ns) ≡ true → is_rising ns ≡ true
rising_rest n [] e = refl
rising_rest n (m ∷ ms) e = (and_parts (nat_lt n m) (is_rising (m ∷ ms)) e).1

-- its first number is less than each later one
first_less : (n : ℕ) (ns : List ℕ) (j b : ℕ) → is_rising (n ∷ ns) ≡ true → slice_get ns j ≡ Some b → n < b
first_less n [] j b e is = absurd (cc is)
first_less n (m ∷ ms) zero b e is = let less = and_parts (nat_lt n m) (is_rising (m ∷ ms)) e in let same : m ≡ b = some_same m b is in grind (arith, nat_tests, less.0, same)
first_less n (m ∷ ms) (suc j) b e is =
    let p = and_parts (nat_lt n m) (is_rising (m ∷ ms)) e in
    let up : m < b = first_less m ms j b p.1 is in
    grind (arith, nat_tests, p.0, up)

-- equal numbers stand at one place
one_place : (ns : List ℕ) (i j a b : ℕ) → is_rising ns ≡ true → slice_get ns i ≡ Some a → slice_get ns j ≡ Some b → a ≡ b → i ≡ j
one_place [] i j a b e x y same = absurd (cc x)
one_place (n ∷ ns) zero zero a b e x y same = refl
one_place (n ∷ ns) zero (suc j) a b e x y same = let less : n < b = first_less n ns j b e y in let first : n ≡ a = some_same n a x in absurd (omega (arith, less, first, same))
one_place (n ∷ ns) (suc i) zero a b e x y same = let less : n < a = first_less n ns i a e x in let first : n ≡ b = some_same n b y in absurd (omega (arith, less, first, same))
one_place (n ∷ ns) (suc i) (suc j) a b e x y same = ap suc (one_place ns i j a b (rising_rest n ns e) x y same)

rising_after : (xs ys : List ℕ) → is_rising (xs ++ ys) ≡ true → is_rising ys ≡ true
rising_after [] ys e = e
rising_after (x ∷ xs) ys e = rising_after xs ys (rising_rest x (xs ++ ys) e)

get_front : (xs ys : List ℕ) (i a : ℕ) → slice_get xs i ≡ Some a → slice_get (xs ++ ys) i ≡ Some a
get_front [] ys i a is = absurd (cc is)
get_front (x ∷ xs) ys zero a is = is
get_front (x ∷ xs) ys (suc i) a is = get_front xs ys i a is

get_back : (xs ys : List ℕ) (j b : ℕ) → slice_get ys j ≡ Some b → slice_get (xs ++ ys) (length xs + j) ≡ Some b
get_back [] ys j b is = let same : j ≡ 0 + j = omega arith in subst (λ k. slice_get ys k ≡ Some b) same is
get_back (x ∷ xs) ys j b is = let same : suc (length xs + j) ≡ suc (length xs) + j = omega arith in subst (λ k. slice_get (x ∷ (xs ++ ys)) k ≡ Some b) same (get_back xs ys j b is)

get_less : (xs : List ℕ) (i a : ℕ) → slice_get xs i ≡ Some a → i < length xs
get_less [] i a is = absurd (cc is)
get_less (x ∷ xs) zero a is = omega arith
get_less (x ∷ xs) (suc i) a is = omega (arith, get_less xs i a is)

object_at : (frames : List Frame) (i : ℕ) (f : Frame) → slice_get frames i ≡ Some f → slice_get (map (λ frame. frame.object) frames) i ≡ Some f.object
object_at [] i f is = absurd (cc is)
object_at (x ∷ xs) zero f is = ap (λ o. option_map (λ (frame : Frame). frame.object) o) is
object_at (x ∷ xs) (suc i) f is = object_at xs i f is

-- a frame of a thread that was found stands among the numbers
abbrev IsAmong : List RecordedThread → ℕ → Type 0
IsAmong threads object = (k : ℕ) × (slice_get (objects_of threads) k ≡ Some object)

further : (x : RecordedThread) (xs : List RecordedThread) (object : ℕ) → IsAmong xs object → IsAmong (x ∷ xs) object
further x xs object (k, is) = (length (map (λ frame. frame.object) x.frames) + k, get_back (map (λ frame. frame.object) x.frames) (objects_of xs) k object is)

among_by : (b : Bool) (x a : RecordedThread) (xs : List RecordedThread) (rest : Option RecordedThread) (j : ℕ) (g : Frame) → (if b then Some x else rest) ≡ Some a → slice_get a.frames j ≡ Some g → (rest ≡ Some a → IsAmong xs g.object) → IsAmong (x ∷ xs) g.object
among_by true x a xs rest j g found is later = (j, get_front (map (λ frame. frame.object) x.frames) (objects_of xs) j g.object (object_at x.frames j g (subst (λ (y : RecordedThread). slice_get y.frames j ≡ Some g) (sym (some_same x a found)) is)))
among_by false x a xs rest j g found is later = further x xs g.object (later found)

among : (test : RecordedThread → Bool) (threads : List RecordedThread) (a : RecordedThread) (j : ℕ) (g : Frame) → find test threads ≡ Some a → slice_get a.frames j ≡ Some g → IsAmong threads g.object
among test [] a j g found is = absurd (cc found)
among test (x ∷ xs) a j g found is = among_by (test x) x a xs (find test xs) j g found is (λ later. among test xs a j g later is)

-- a number of the first thread is none of the others
apart : (x : RecordedThread) (xs : List RecordedThread) (i : ℕ) (f : Frame) (object : ℕ) → is_rising (objects_of (x ∷ xs)) ≡ true → slice_get x.frames i ≡ Some f → IsAmong xs object → f.object ≡ object → ⊥
apart x xs i f object rising is (k, at) same =
    let front = map (λ (frame : Frame). frame.object) x.frames in
    let here = object_at x.frames i f is in
    let place : i ≡ length front + k = one_place (front ++ objects_of xs) i (length front + k) f.object object rising (get_front front (objects_of xs) i f.object here) (get_back front (objects_of xs) k object at) same in
    let within : i < length front = get_less front i f.object here in
    omega (arith, place, within)

one_step : (p q : Bool) (x a b : RecordedThread) (xs : List RecordedThread) (s t : ℤ) (i j : ℕ) (f g : Frame) (r u : Option RecordedThread)
    → int_eq s x.id ≡ p → int_eq t x.id ≡ q → is_rising (objects_of (x ∷ xs)) ≡ true
    → (if p then Some x else r) ≡ Some a → (if q then Some x else u) ≡ Some b → slice_get a.frames i ≡ Some f → slice_get b.frames j ≡ Some g → f.object ≡ g.object
    → (r ≡ Some a → IsAmong xs f.object) → (u ≡ Some b → IsAmong xs g.object) → (r ≡ Some a → u ≡ Some b → (s ≡ t) × (i ≡ j)) → (s ≡ t) × (i ≡ j)
one_step true true x a b xs s t i j f g r u is_s is_t rising found_a found_b at_f at_g same in_f in_g rest =
    let front = map (λ (frame : Frame). frame.object) x.frames in
    let here = object_at x.frames i f (subst (λ (y : RecordedThread). slice_get y.frames i ≡ Some f) (sym (some_same x a found_a)) at_f) in
    let there = object_at x.frames j g (subst (λ (y : RecordedThread). slice_get y.frames j ≡ Some g) (sym (some_same x b found_b)) at_g) in (
      (Decides-int_eq s x.id).0 is_s ∙ sym ((Decides-int_eq t x.id).0 is_t),
      one_place (front ++ objects_of xs) i j f.object g.object rising (get_front front (objects_of xs) i f.object here) (get_front front (objects_of xs) j g.object there) same,
    )
one_step true false x a b xs s t i j f g r u is_s is_t rising found_a found_b at_f at_g same in_f in_g rest =
    absurd (apart x xs i f g.object rising (subst (λ (y : RecordedThread). slice_get y.frames i ≡ Some f) (sym (some_same x a found_a)) at_f) (in_g found_b) same)
one_step false true x a b xs s t i j f g r u is_s is_t rising found_a found_b at_f at_g same in_f in_g rest =
    absurd (apart x xs j g f.object rising (subst (λ (y : RecordedThread). slice_get y.frames j ≡ Some g) (sym (some_same x b found_b)) at_g) (in_f found_a) (sym same))
one_step false false x a b xs s t i j f g r u is_s is_t rising found_a found_b at_f at_g same in_f in_g rest = rest found_a found_b

one_name : (threads : List RecordedThread) (s t : ℤ) (a b : RecordedThread) (i j : ℕ) (f g : Frame) → is_rising (objects_of threads) ≡ true
    → find (λ thread. int_eq s thread.id) threads ≡ Some a → find (λ thread. int_eq t thread.id) threads ≡ Some b → slice_get a.frames i ≡ Some f → slice_get b.frames j ≡ Some g → f.object ≡ g.object
    → (s ≡ t) × (i ≡ j)
one_name [] s t a b i j f g rising found_a found_b at_f at_g same = absurd (cc found_a)
one_name (x ∷ xs) s t a b i j f g rising found_a found_b at_f at_g same =
    one_step (int_eq s x.id) (int_eq t x.id) x a b xs s t i j f g (find (λ thread. int_eq s thread.id) xs) (find (λ thread. int_eq t thread.id) xs) refl refl rising found_a found_b at_f at_g same
    (λ later. among (λ thread. int_eq s thread.id) xs a i f later at_f) (λ later. among (λ thread. int_eq t thread.id) xs b j g later at_g)
    (λ later_a later_b. one_name xs s t a b i j f g (rising_after (map (λ frame. frame.object) x.frames) (objects_of xs) rising) later_a later_b at_f at_g same)

-- the thread whose frames were told
thread_told : (o : Option RecordedThread) (frames : List Frame) → option_map (λ thread. thread.frames) o ≡ Some frames → (thread : RecordedThread) × (o ≡ Some thread) × (thread.frames ≡ frames)
thread_told None frames is = absurd (cc is)
thread_told (Some thread) frames is = (thread, refl, some_same thread.frames frames is)

pub frames_name_one : (threads : List RecordedThread) → is_rising (objects_of threads) ≡ true → NameOne (frames_in threads)
frames_name_one threads rising s t fs gs i j f g of_s of_t at_f at_g same =
    let a = thread_told (thread_with s threads) fs of_s in
    let b = thread_told (thread_with t threads) gs of_t in
    one_name threads s t a.0 b.0 i j f g rising a.1 b.1
    (subst (λ frames. slice_get frames i ≡ Some f) (sym a.2) at_f) (subst (λ frames. slice_get frames j ≡ Some g) (sym b.2) at_g) same

-- ---- of a moment

-- each is a thread of so many sources, and the numbers of their frames rise
pub threads_of_moment : (n : ℕ) (m : Moment) → is_moment n m ≡ true → (list_all (is_thread n) m.threads ≡ true) × (is_rising (objects_of m.threads) ≡ true)
threads_of_moment n m good =
    let p = and_parts (nat_lt m.thread (length m.threads)) _ good in
    let q = and_parts (list_all (is_thread n) m.threads) _ p.1 in
    (q.0, (and_parts (are_distinct m.threads) (is_rising (objects m)) q.1).1)
