-- A test of messages: what passes is written within a limit, and read again as itself.
use Rattle.std.proofs.Common.{◌≡◌, ℕ, List, [], ◌∷◌, length, Bool, true, false, refl, arith}
use Rattle.std.specs.Prelude.{◌&&◌, ◌^◌, ◌<◌, nat_le, nat_lt, Option, Some, None}
use Rattle.std.specs.Cmp.Lexicographic.{slice_cmp}
use Rattle.std.specs.Ordering.{nat_cmp}
use Rattle.std.specs.declared.cmp.Ordering.{Ordering}
use Rattle.std.specs.declared.cmp.Ordering.TheVariants.{Less, Equal, Greater}
use Rattle.std.specs.Str.{is_utf8}
use Rattle.std.proofs.lemmas.Str.{IsUtf8-from_is_utf8}
use Rattle.std.proofs.lemmas.Bool.{leb-true}
use Rattle.std.proofs.lemmas.Bool.Decides.{nat_tests}
use Rattle.serde_json.specs.Data.{Num, unsigned, negative, float, Data, null, boolean, number, string, array, object, Items, no_items, item, Members, no_members, member}
use Rattle.dap_ends.proofs.Counts.{and-left, and-right}
use Rattle.dap_json.specs.Sound.{IsSoundNumber, IsBefore, IsSound, AreSound, HasSound}
use Rattle.dap_envelope.specs.Canon.{canon}
use Rattle.dap_envelope.specs.Laws.{WrittenIsReadAgain}
use Rattle.dap_envelope.specs.Plain.{is_plain}
use Rattle.dap_envelope.specs.ReadBack.{ReadsBack, AllReadBack}
use Rattle.dap_envelope.specs.SoundMessage.{HasSoundTexts, HasSoundTree, IsSoundText, IsSoundTree}
use Rattle.dap_envelope.specs.declared.message.Kind.{Kind}
use Rattle.dap_envelope.specs.declared.message.Kind.TheVariants.{Request, Response, Event, Other}
use Rattle.dap_envelope.specs.declared.message.Message.{Message}

-- ---- trees

abbrev is_less : Ordering → Bool
is_less Less = true
is_less Equal = false
is_less Greater = false

less-from : (o : Ordering) → is_less o ≡ true → o ≡ Less
less-from Less h = refl
less-from Equal h = cc
less-from Greater h = cc

abbrev is_before : List ℕ → Members → Bool
is_before key no_members = true
is_before key (member k d ms) = is_less (slice_cmp nat_cmp key k) && is_before key ms

-- integers from 0 are enough here
abbrev is_sound_number : Num → Bool
is_sound_number (unsigned n) = nat_lt n (2 ^ 64)
is_sound_number (negative z) = false
is_sound_number (float x) = false

abbrev mutual
  is_sound : Data → Bool
  is_sound null = true
  is_sound (boolean b) = true
  is_sound (number n) = is_sound_number n
  is_sound (string s) = is_utf8 s
  is_sound (array ds) = are_sound ds
  is_sound (object ms) = has_sound ms

  are_sound : Items → Bool
  are_sound no_items = true
  are_sound (item d ds) = is_sound d && are_sound ds

  has_sound : Members → Bool
  has_sound no_members = true
  has_sound (member k d ms) = is_utf8 k && (is_before k ms && (is_sound d && has_sound ms))

before-from : (key : List ℕ) (ms : Members) → is_before key ms ≡ true → IsBefore key ms
before-from key no_members h = tt
before-from key (member k d ms) h = (less-from (slice_cmp nat_cmp key k) (and-left (is_less (slice_cmp nat_cmp key k)) (is_before key ms) h), before-from key ms (and-right (is_less (slice_cmp nat_cmp key k)) (is_before key ms) h))

below-from : (m n : ℕ) → nat_lt m n ≡ true → m < n
below-from m n h = grind (arith, nat_tests)

number-from : (n : Num) → is_sound_number n ≡ true → IsSoundNumber n
number-from (unsigned n) h = below-from n (2 ^ 64) h
number-from (negative z) h = cc
number-from (float x) h = cc

mutual
  sound-from : (d : Data) → is_sound d ≡ true → IsSound d
  sound-from null h = tt
  sound-from (boolean b) h = tt
  sound-from (number n) h = number-from n h
  sound-from (string s) h = IsUtf8-from_is_utf8 s h
  sound-from (array ds) h = items-from ds h
  sound-from (object ms) h = members-from ms h

  items-from : (ds : Items) → are_sound ds ≡ true → AreSound ds
  items-from no_items h = tt
  items-from (item d ds) h = (sound-from d (and-left (is_sound d) (are_sound ds) h), items-from ds (and-right (is_sound d) (are_sound ds) h))

  members-from : (ms : Members) → has_sound ms ≡ true → HasSound ms
  members-from no_members h = tt
  members-from (member k d ms) h =
      let rest = and-right (is_utf8 k) (is_before k ms && (is_sound d && has_sound ms)) h in
      let last = and-right (is_before k ms) (is_sound d && has_sound ms) rest in
      (IsUtf8-from_is_utf8 k (and-left (is_utf8 k) (is_before k ms && (is_sound d && has_sound ms)) h), before-from k ms (and-left (is_before k ms) (is_sound d && has_sound ms) rest), sound-from d (and-left (is_sound d) (has_sound ms) last), members-from ms (and-right (is_sound d) (has_sound ms) last))

-- ---- messages

abbrev is_sound_text : Option (List ℕ) → Bool
is_sound_text None = true
is_sound_text (Some text) = is_utf8 text

abbrev is_sound_tree : Option Data → Bool
is_sound_tree None = true
is_sound_tree (Some d) = is_sound d

text-from : (o : Option (List ℕ)) → is_sound_text o ≡ true → IsSoundText o
text-from None h = tt
text-from (Some text) h = IsUtf8-from_is_utf8 text h

tree-from : (o : Option Data) → is_sound_tree o ≡ true → IsSoundTree o
tree-from None h = tt
tree-from (Some d) h = sound-from d h

abbrev has_sound_texts : Kind → Bool
has_sound_texts (Request command arguments) = is_utf8 command
has_sound_texts (Response request_seq success command message body) = is_utf8 command && is_sound_text message
has_sound_texts (Event event body) = is_utf8 event
has_sound_texts (Other tag) = is_utf8 tag

abbrev has_sound_tree : Kind → Bool
has_sound_tree (Request command arguments) = is_sound_tree arguments
has_sound_tree (Response request_seq success command message body) = is_sound_tree body
has_sound_tree (Event event body) = is_sound_tree body
has_sound_tree (Other tag) = true

texts-from : (kind : Kind) → has_sound_texts kind ≡ true → HasSoundTexts kind
texts-from (Request command arguments) h = IsUtf8-from_is_utf8 command h
texts-from (Response request_seq success command message body) h = (IsUtf8-from_is_utf8 command (and-left (is_utf8 command) (is_sound_text message) h), text-from message (and-right (is_utf8 command) (is_sound_text message) h))
texts-from (Event event body) h = IsUtf8-from_is_utf8 event h
texts-from (Other tag) h = IsUtf8-from_is_utf8 tag h

trees-from : (kind : Kind) → has_sound_tree kind ≡ true → HasSoundTree kind
trees-from (Request command arguments) h = tree-from arguments h
trees-from (Response request_seq success command message body) h = tree-from body h
trees-from (Event event body) h = tree-from body h
trees-from (Other tag) h = tt

abbrev pub is_read_again : ℕ → Message → Bool
is_read_again limit m = is_plain m && (has_sound_texts m.kind && (has_sound_tree m.kind && nat_le (length (canon m)) limit))

abbrev pub all_read_again : ℕ → List Message → Bool
all_read_again limit [] = true
all_read_again limit (m ∷ ms) = is_read_again limit m && all_read_again limit ms

reads-from : WrittenIsReadAgain → (limit : ℕ) (m : Message) → is_read_again limit m ≡ true → ReadsBack limit m
reads-from law limit m h =
    let rest = and-right (is_plain m) (has_sound_texts m.kind && (has_sound_tree m.kind && nat_le (length (canon m)) limit)) h in
    let last = and-right (has_sound_texts m.kind) (has_sound_tree m.kind && nat_le (length (canon m)) limit) rest in
    record {
      fits = leb-true (length (canon m)) limit (and-right (has_sound_tree m.kind) (nat_le (length (canon m)) limit) last);
      reads = law m (and-left (is_plain m) (has_sound_texts m.kind && (has_sound_tree m.kind && nat_le (length (canon m)) limit)) h)
          (record { texts = texts-from m.kind (and-left (has_sound_texts m.kind) (has_sound_tree m.kind && nat_le (length (canon m)) limit) rest); tree = trees-from m.kind (and-left (has_sound_tree m.kind) (nat_le (length (canon m)) limit) last) });
    }

pub all-read-again : WrittenIsReadAgain → (limit : ℕ) (ms : List Message) → all_read_again limit ms ≡ true → AllReadBack limit ms
all-read-again law limit [] h = tt
all-read-again law limit (m ∷ ms) h = (reads-from law limit m (and-left (is_read_again limit m) (all_read_again limit ms) h), all-read-again law limit ms (and-right (is_read_again limit m) (all_read_again limit ms) h))
