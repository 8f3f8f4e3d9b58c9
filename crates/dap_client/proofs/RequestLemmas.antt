-- Outstanding requests as the model has them: which one a response answers.
use Rattle.std.proofs.Common.{◌≡◌, ℕ, List, [], ◌∷◌, length, Bool, true, false, Option, Some, None, refl, sym, ap, ◌∙◌, subst, true≢false, arith}
use Rattle.std.specs.Prelude.{◌==◌, ◌&&◌, ◌||◌, not, bytes_eq, if◌then◌else◌}
use Rattle.std.specs.List.{list_any}
use Rattle.dap_ends.specs.Messages.{Ask, has_seq, is_same, code}
use Rattle.dap_ends.specs.ClientModel.{requests_without}
use Rattle.dap_ends.proofs.Counts.{eqb-self, eqb-same, names-self, names-same}
use Rattle.dap_command.specs.Command.{command_named, name_of}
use Rattle.dap_command.specs.declared.command.Command.{Command}
use Rattle.dap_command.specs.declared.command.Command.TheVariants as command
use Rattle.dap_tables.specs.Outstanding.{Kept, entry_with, contains_seq, without, HasDistinctSeqs}
use Rattle.dap_tables.specs.declared.entry.Entry.{Entry}
use Rattle.dap_client.specs.Projection.{class_if, ask_of, entry_ask, asks_seen}
use Rattle.dap_client.specs.Within.{AreNamed}

-- the name of a command names it
pub named-back : (c : Command) → command_named (name_of c) ≡ Some c
named-back command.Initialize = refl
named-back _ = refl

with-if : (b : Bool) (k : Kept) (xs : List Kept) (ys : List Ask) → asks_seen xs ≡ ys → asks_seen (if b then k ∷ xs else xs) ≡ (if b then entry_ask k.entry ∷ ys else ys)
with-if true k xs ys e = ap (λ (zs : List Ask). entry_ask k.entry ∷ zs) e
with-if false k xs ys e = e

pub without-seen : (q : ℕ) (ks : List Kept) → asks_seen (without q ks) ≡ requests_without q (asks_seen ks)
without-seen q [] = refl
without-seen q (k ∷ ks) = with-if (not (k.entry.seq == q)) k (without q ks) (requests_without q (asks_seen ks)) (without-seen q ks)

pub contains-seen : (q : ℕ) (ks : List Kept) → contains_seq q ks ≡ list_any (has_seq q) (asks_seen ks)
contains-seen q [] = refl
contains-seen q (k ∷ ks) = ap (λ (b : Bool). (k.entry.seq == q) || b) (contains-seen q ks)

pub length-asks : (ks : List Kept) → length (asks_seen ks) ≡ length ks
length-asks [] = refl
length-asks (k ∷ ks) = let ih = length-asks ks in omega arith

-- a request with the number is found exactly where one is asked
found-if : (b : Bool) (r : Entry) (o : Option Entry) (c : Bool) → (o ≡ None → c ≡ false) → (if b then Some r else o) ≡ None → (b || c) ≡ false
found-if true r o c ih e = cc
found-if false r o c ih e = ih e

pub none-asked : (q : ℕ) (ks : List Kept) → entry_with q ks ≡ None → list_any (has_seq q) (asks_seen ks) ≡ false
none-asked q [] e = refl
none-asked q (k ∷ ks) e = found-if (k.entry.seq == q) k.entry (entry_with q ks) (list_any (has_seq q) (asks_seen ks)) (none-asked q ks) e

-- and it is asked, by its number and by its name
pub record IsAsked (q : ℕ) (name : List ℕ) (xs : List Ask) : Type 0 where
  pub number : list_any (has_seq q) xs ≡ true
  pub same : list_any (is_same (ask_of q name)) xs ≡ true

self-same : (q : ℕ) (r : Entry) → (r.seq == q) ≡ true → is_same (ask_of q r.command) (entry_ask r) ≡ true
self-same q r e = rw (e, eqb-self (code (class_if (command_named r.command))), names-self r.command) refl

or-true : (b : Bool) → (b || true) ≡ true
or-true true = refl
or-true false = refl

asked-if : (b : Bool) (q : ℕ) (x r : Entry) (o : Option Entry) (ys : List Ask) → (x.seq == q) ≡ b → (o ≡ Some r → IsAsked q r.command ys) → (if b then Some x else o) ≡ Some r → IsAsked q r.command (entry_ask x ∷ ys)
asked-if true q x r o ys h ih e =
    let same : x ≡ r = cc in
    let one : IsAsked q x.command (entry_ask x ∷ ys) = record { number = rw h refl; same = rw (self-same q x h) refl } in
    subst (λ (y : Entry). IsAsked q y.command (entry_ask x ∷ ys)) same one
asked-if false q x r o ys h ih e =
    let rest = ih e in
    record { number = rw rest.number (or-true (x.seq == q)); same = rw rest.same (or-true (is_same (ask_of q r.command) (entry_ask x))) }

pub is-asked : (q : ℕ) (r : Entry) (ks : List Kept) → entry_with q ks ≡ Some r → IsAsked q r.command (asks_seen ks)
is-asked q r [] e = cc
is-asked q r (k ∷ ks) e = asked-if (k.entry.seq == q) q k.entry r (entry_with q ks) (asks_seen ks) refl (is-asked q r ks) e

-- what is outstanding has a command
named-if : (b : Bool) (x r : Entry) (o : Option Entry) → ((c : Command) × (command_named x.command ≡ Some c)) → (o ≡ Some r → (c : Command) × (command_named r.command ≡ Some c)) → (if b then Some x else o) ≡ Some r → (c : Command) × (command_named r.command ≡ Some c)
named-if true x r o n ih e = let same : x ≡ r = cc in subst (λ (y : Entry). (c : Command) × (command_named y.command ≡ Some c)) same n
named-if false x r o n ih e = ih e

pub named-found : (q : ℕ) (r : Entry) (ks : List Kept) → AreNamed ks → entry_with q ks ≡ Some r → (c : Command) × (command_named r.command ≡ Some c)
named-found q r [] n e = cc
named-found q r (k ∷ ks) n e = named-if (k.entry.seq == q) k.entry r (entry_with q ks) n.0 (named-found q r ks n.1) e

-- with distinct numbers a request of another name is not the one that is answered
absent-if : (a x b c : Bool) → (a || b) ≡ false → (b ≡ false → c ≡ false) → ((a && x) || c) ≡ false
absent-if true x b c h ih = cc
absent-if false x b c h ih = ih h

absent-asks : (q : ℕ) (ks : List Kept) → contains_seq q ks ≡ false → (name : List ℕ) → list_any (is_same (ask_of q name)) (asks_seen ks) ≡ false
absent-asks q [] h name = refl
absent-asks q (k ∷ ks) h name = absent-if (k.entry.seq == q) ((code (class_if (command_named k.entry.command)) == code (class_if (command_named name))) && bytes_eq k.entry.command name) (contains_seq q ks) (list_any (is_same (ask_of q name)) (asks_seen ks)) h (λ r. absent-asks q ks r name)

false-name : (a b : Bool) → (a && false) ≡ false
false-name true b = refl
false-name false b = refl

apart-if : (b : Bool) (xs ys : List ℕ) → bytes_eq ys xs ≡ b → bytes_eq xs ys ≡ false → b ≡ false
apart-if true xs ys e h = absurd (true≢false (sym (names-self xs) ∙ (ap (bytes_eq xs) (sym (names-same ys xs e)) ∙ h)))
apart-if false xs ys e h = refl

names-apart : (xs ys : List ℕ) → bytes_eq xs ys ≡ false → bytes_eq ys xs ≡ false
names-apart xs ys h = apart-if (bytes_eq ys xs) xs ys refl h

other-if : (b : Bool) (q : ℕ) (k : Kept) (r : Entry) (ks : List Kept) (name : List ℕ) → (k.entry.seq == q) ≡ b → HasDistinctSeqs (k ∷ ks) → (entry_with q ks ≡ Some r → list_any (is_same (ask_of q name)) (asks_seen ks) ≡ false) → (if b then Some k.entry else entry_with q ks) ≡ Some r → bytes_eq name r.command ≡ false
    → ((b && ((code (class_if (command_named k.entry.command)) == code (class_if (command_named name))) && bytes_eq k.entry.command name)) || list_any (is_same (ask_of q name)) (asks_seen ks)) ≡ false
other-if true q k r ks name e d ih w h =
    let same : k.entry ≡ r = cc in
    let differs : bytes_eq k.entry.command name ≡ false = names-apart name k.entry.command (ap (λ (x : Entry). bytes_eq name x.command) same ∙ h) in
    rw (differs, false-name (code (class_if (command_named k.entry.command)) == code (class_if (command_named name))) false) (absent-asks q ks (subst (λ n. contains_seq n ks ≡ false) (eqb-same k.entry.seq q e) d.0) name)
other-if false q k r ks name e d ih w h = ih w

pub other-name : (q : ℕ) (r : Entry) (ks : List Kept) (name : List ℕ) → HasDistinctSeqs ks → entry_with q ks ≡ Some r → bytes_eq name r.command ≡ false → list_any (is_same (ask_of q name)) (asks_seen ks) ≡ false
other-name q r [] name d w h = cc
other-name q r (k ∷ ks) name d w h = other-if (k.entry.seq == q) q k r ks name refl d (λ g. other-name q r ks name d.1 g h) w h
