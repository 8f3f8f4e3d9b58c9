-- Messages that come, one after the other.
use Rattle.std.proofs.Common.{◌≡◌, ◌≢◌, ℕ, ◌+◌, ◌-◌, ◌≤◌, Bool, true, false, List, [], ◌∷◌, ◌++◌, length, take, drop, All, Option, Some, None, refl, sym, ap, ◌∙◌, subst, arith, append_assoc, append-nil, length-append, length-drop, inl, inr, true≢false}
use Rattle.std.specs.Prelude.{nat_le, ◌⊎◌, is_some, option_map}
use Rattle.std.proofs.lemmas.Bool.Decides.{nat_tests}
use Rattle.std.proofs.Math.ListN.{drop_of_length-le}
use Rattle.std.proofs.lemmas.List.{drop-drop}
use Rattle.std.proofs.lemmas.List.Elements.{All-append, All-nil, All-cons}
use Rattle.dap_channel.specs.Channel.{IoEvent}
use Rattle.dap_channel.specs.Sent.{WritesShort, saturating_count}
use Rattle.dap_envelope.specs.declared.message.Message.{Message}
use Rattle.dap_client.specs.Calls.{TakesNext}
use Rattle.dap_client.specs.ClientState.{ClientState}
use Rattle.dap_connection.specs.ConnectionState.{Wire, ConnectionState}
use Rattle.dap_connection.specs.Connection.{TakesOne, ReadsMore, Hears, heard_none, then_took, then_read, step_count, StepFails, HearFails, step_fails, too_many_steps, WaitFails, not_heard, input_ended, loses_other, too_many_others, FallsShort, IsOther, StaysOrCloses}
use Rattle.dap_connection.specs.declared.fault.ConnectionFault.{ConnectionFault}
use Rattle.dap_connection.specs.declared.fault.ConnectionFault.TheVariants.{Send, Answer, Client, Ended, Read, Write, TooManyMessages, TooManyReads, OutOfMemory}

-- what is left of a list is known by its length
within : (k n : ℕ) → nat_le k n ≡ true → k ≤ n
within k n h = grind (arith, nat_tests)

past : (k n : ℕ) → nat_le k n ≡ false → n ≤ k
past k n h = grind (arith, nat_tests)

left_by : (b : Bool) (k : ℕ) (xs left : List ℕ) → nat_le k (length xs) ≡ b → left ≡ drop k xs → drop (length xs - length left) xs ≡ left
left_by true k xs left e is =
    let at : length xs - length left ≡ k = omega (arith, within k (length xs) e, ap length is, length-drop k xs) in
    subst (λ (n : ℕ). drop n xs ≡ left) (sym at) (sym is)
left_by false k xs left e is =
    let none : left ≡ [] = is ∙ drop_of_length-le xs (past k (length xs) e) in
    let at : length xs - length left ≡ length xs = omega (arith, ap length none) in
    subst (λ (n : ℕ). drop n xs ≡ left) (sym at) (drop_of_length-le xs (omega arith) ∙ sym none)

left_is : (k : ℕ) (xs left : List ℕ) → left ≡ drop k xs → drop (length xs - length left) xs ≡ left
left_is k xs left is = left_by (nat_le k (length xs)) k xs left refl is

-- what is left behind a cut of what was unread
pub cut_is : (at used n : ℕ) (read unread left : List ℕ) → n ≡ length read → unread ≡ drop at read → left ≡ drop used unread → drop (n - length left) read ≡ left
cut_is at used n read unread left all is cut =
    ap (λ (m : ℕ). drop (m - length left) read) all ∙ left_is (at + used) read left (cut ∙ (ap (λ (z : List ℕ). drop used z) is ∙ drop-drop used at read))

pub takes_moved : (old old' new new' : ClientState) (piece piece' before left left' after : List ℕ) (message : Option Message) → old ≡ old' → piece ≡ piece' → before ≡ [] → new ≡ new' → left ≡ left' → TakesNext old piece before message new left after → TakesNext old' piece' [] message new' left' after
takes_moved old old' new new' piece piece' before left left' after message a b none d e t =
    subst (λ (z : ClientState). TakesNext z piece' [] message new' left' after) a
    (subst (λ (z : List ℕ). TakesNext old z [] message new' left' after) b
    (subst (λ (z : List ℕ). TakesNext old piece z message new' left' after) none
    (subst (λ (z : ClientState). TakesNext old piece before message z left' after) d
    (subst (λ (z : List ℕ). TakesNext old piece before message new z after) e t))))

pub hears_more : {C : Type 0} (goes : C → IoEvent → C → Type 0) (v m : Wire C) (ms : List Message) → Hears goes v ms m → (ns : List Message) (u : Wire C) → Hears goes m ns u → Hears goes v (ms ++ ns) u
hears_more goes v m ms x _ _ heard_none = subst (λ (z : List Message). Hears goes v z m) (sym (append-nil ms)) x
hears_more goes v m ms x _ _ (then_took ns message s u y t) = subst (λ (z : List Message). Hears goes v z u) (append_assoc ms ns _) (then_took (ms ++ ns) message s u (hears_more goes v m ms x ns s y) t)
hears_more goes v m ms x _ _ (then_read ns s u y r some) = then_read (ms ++ ns) s u (hears_more goes v m ms x ns s y) r some

-- so many came that are no response to this request, and are kept
pub record HasHeard {C : Type 0} (goes : C → IoEvent → C → Type 0) (seq : ℕ) (old : Wire C) (passed : List Message) (new : Wire C) (kept : List Message) (count : ℕ) : Type 0 where
  pub others : List Message
  pub hears : Hears goes old others new
  pub are_others : All (IsOther seq) others
  pub kept_are : kept ≡ passed ++ others
  pub count_is : length others ≡ count

pub heard_no_more : {C : Type 0} (goes : C → IoEvent → C → Type 0) (seq : ℕ) (v : Wire C) (passed : List Message) → HasHeard goes seq v passed v passed 0
heard_no_more goes seq v passed = record { others = []; hears = heard_none; are_others = All-nil (IsOther seq); kept_are = sym (append-nil passed); count_is = refl }

pub heard_one : {C : Type 0} (goes : C → IoEvent → C → Type 0) (seq : ℕ) (v m u : Wire C) (passed kept now : List Message) (message : Message) (count : ℕ) → HasHeard goes seq v passed m kept count → Hears goes m (message ∷ []) u → IsOther seq message → now ≡ kept ++ message ∷ [] → HasHeard goes seq v passed u now (count + 1)
heard_one goes seq v m u passed kept now message count x y other is = record {
  others = x.others ++ message ∷ [];
  hears = hears_more goes v m x.others x.hears (message ∷ []) u y;
  are_others = All-append (IsOther seq) x.others (message ∷ []) x.are_others (All-cons (IsOther seq) message [] other (All-nil (IsOther seq)));
  kept_are = is ∙ (ap (λ (z : List Message). z ++ message ∷ []) x.kept_are ∙ append_assoc passed x.others (message ∷ []));
  count_is = length-append x.others (message ∷ []) ∙ ap (λ (n : ℕ). n + 1) x.count_is;
}

-- no message came by this step
pub heard_more : {C : Type 0} (goes : C → IoEvent → C → Type 0) (v m u : Wire C) (x : Hears goes v [] m) → TakesOne goes m None u ⊎ (ReadsMore goes m u × (u.unread ≢ [])) → (y : Hears goes v [] u) × (step_count y ≡ step_count x + 1)
heard_more goes v m u x (inl t) = (then_took [] None m u x t, refl)
heard_more goes v m u x (inr r) = (then_read [] m u x r.0 r.1, refl)

pub is_some_of : {A B : Type 0} (f : A → B) (x : Option A) (y : Option B) → option_map f x ≡ y → is_some x ≡ true → is_some y ≡ true
is_some_of f None y e h = absurd (true≢false (sym h))
is_some_of f (Some x) y e h = subst (λ (z : Option _). is_some z ≡ true) e refl

pub is_none_of : {A B : Type 0} (f : A → B) (x : Option A) (y : Option B) → option_map f x ≡ y → is_some x ≡ false → y ≡ None
is_none_of f None y e h = sym e
is_none_of f (Some x) y e h = absurd (true≢false h)

-- ---- a front that went out

pub short_moved : {C : Type 0} (goes : C → IoEvent → C → Type 0) (o v : Wire C) (bytes due : List ℕ) (total : ℕ) (channel : C) → o.channel ≡ v.channel → o.written ≡ v.written → bytes ≡ due → FallsShort goes o bytes total channel → FallsShort goes v due total channel
short_moved goes o v bytes due total channel same count are s = subst (λ (z : List ℕ). FallsShort goes v z total channel) are (record {
  out = s.out;
  within = s.within;
  total_is = s.total_is ∙ ap (λ (n : ℕ). saturating_count (n + s.out)) count;
  short = subst (λ z. WritesShort goes z channel (take s.out bytes)) same s.short;
})

-- ---- a fault, by another name

pub hearing_moved : {C : Type 0} (goes : C → IoEvent → C → Type 0) (o v w : Wire C) (is fault : ConnectionFault) → is ≡ fault → w ≡ v → HearFails goes o fault v → HearFails goes o is w
hearing_moved goes o v w is fault same there fails = subst (λ (f : ConnectionFault). HearFails goes o f w) (sym same) (subst (λ (z : Wire _). HearFails goes o fault z) (sym there) fails)

pub waiting_moved : {C : Type 0} (goes : C → IoEvent → C → Type 0) (seq count : ℕ) (o v w : Wire C) (is fault : ConnectionFault) → is ≡ fault → w ≡ v → WaitFails goes seq count o fault v → WaitFails goes seq count o is w
waiting_moved goes seq count o v w is fault same there fails = subst (λ (f : ConnectionFault). WaitFails goes seq count o f w) (sym same) (subst (λ (z : Wire _). WaitFails goes seq count o fault z) (sym there) fails)

-- ---- a fault by which nothing comes is none of the client's refusals, so it closes

closed_by_step : {C : Type 0} (goes : C → IoEvent → C → Type 0) (o v : Wire C) (fault : ConnectionFault) (old new : ConnectionState C) → StepFails goes o fault v → new.fault ≡ Some fault → StaysOrCloses old fault new
closed_by_step goes o v (Send f) old new fails closes = absurd fails
closed_by_step goes o v (Answer f) old new fails closes = absurd fails
closed_by_step goes o v (Client f) old new fails closes = closes
closed_by_step goes o v Ended old new fails closes = closes
closed_by_step goes o v Read old new fails closes = closes
closed_by_step goes o v (Write n) old new fails closes = closes
closed_by_step goes o v TooManyMessages old new fails closes = closes
closed_by_step goes o v TooManyReads old new fails closes = closes
closed_by_step goes o v OutOfMemory old new fails closes = closes

closed_by_hearing : {C : Type 0} (goes : C → IoEvent → C → Type 0) (o : Wire C) (fault : ConnectionFault) (v : Wire C) (old new : ConnectionState C) → HearFails goes o fault v → new.fault ≡ Some fault → StaysOrCloses old fault new
closed_by_hearing goes o _ _ old new (step_fails fault before v heard fails) closes = closed_by_step goes before v fault old new fails closes
closed_by_hearing goes o _ _ old new (too_many_steps v heard count) closes = closes

pub closed_by_waiting : {C : Type 0} (goes : C → IoEvent → C → Type 0) (seq count : ℕ) (o : Wire C) (fault : ConnectionFault) (v : Wire C) (old new : ConnectionState C) → WaitFails goes seq count o fault v → new.fault ≡ Some fault → StaysOrCloses old fault new
closed_by_waiting goes seq count o _ _ old new (not_heard fault v fails) closes = closed_by_hearing goes o fault v old new fails closes
closed_by_waiting goes seq count o _ _ old new (input_ended v ended) closes = closes
closed_by_waiting goes seq count o _ _ old new (loses_other m v heard other) closes = closes
closed_by_waiting goes seq count o _ _ old new (too_many_others is) closes = closes
