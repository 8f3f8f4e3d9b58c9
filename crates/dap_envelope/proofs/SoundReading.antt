-- A message that is read is sound, as the value is that says it.
use Rattle.std.proofs.Common.{◌≡◌, ℕ, List, codes, Bool, true, false, cond, Ordering, Less, Equal, Greater, Option, Some, None, option_map, option_and_then, nat_cmp, not, subst}
use Rattle.std.specs.Cmp.Lexicographic.{slice_cmp}
use Rattle.std.specs.Ordering.{match_ordering}
use Rattle.serde_json.specs.Data.{Data, null, boolean, number, string, array, object, Members, no_members, member}
use Rattle.serde_json.specs.Find.{get, get_member, as_str}
use Rattle.dap_json.specs.Field.{is_null, unless_null, text_at, tree_at}
use Rattle.dap_json.specs.Read.{IsReadSound}
use Rattle.dap_json.specs.Sound.{IsSound, HasSound}
use Rattle.dap_envelope.specs.Laws.{ReadIsSound}
use Rattle.dap_envelope.specs.Meaning.{MeansKind}
use Rattle.dap_envelope.specs.SoundMessage.{IsSoundText, IsSoundTree, HasSoundTexts, HasSoundTree}
use Rattle.dap_envelope.specs.declared.message.Kind.{Kind}
use Rattle.dap_envelope.specs.declared.message.Kind.TheVariants.{Request, Response, Event, Other}

found_at : (o : Ordering) (d : Data) (rest : Option Data) → IsSound d → IsSoundTree rest → IsSoundTree (match_ordering o rest (Some d) rest)
found_at Less d rest s r = r
found_at Equal d rest s r = s
found_at Greater d rest s r = r

found : (key : List ℕ) (ms : Members) → HasSound ms → IsSoundTree (get_member key ms)
found key no_members h = tt
found key (member k d ms) h = found_at (slice_cmp nat_cmp key k) d (get_member key ms) h.2 (found key ms h.3)

got : (key : List ℕ) (d : Data) → IsSound d → IsSoundTree (get key d)
got key null s = tt
got key (boolean b) s = tt
got key (number n) s = tt
got key (string t) s = tt
got key (array ds) s = tt
got key (object ms) s = found key ms s

sound_if : (b : Bool) (d : Data) → IsSound d → IsSoundTree (cond b (Some d) None)
sound_if true d s = s
sound_if false d s = tt

present : (o : Option Data) → IsSoundTree o → IsSoundTree (unless_null o)
present None s = tt
present (Some d) s = sound_if (not (is_null d)) d s

as_text : (o : Option Data) → IsSoundTree o → IsSoundText (option_and_then as_str o)
as_text None s = tt
as_text (Some null) s = tt
as_text (Some (boolean b)) s = tt
as_text (Some (number n)) s = tt
as_text (Some (string t)) s = s
as_text (Some (array ds)) s = tt
as_text (Some (object ms)) s = tt

tree_sound : (key : List ℕ) (d : Data) (o : Option Data) → IsSound d → tree_at key d ≡ o → IsSoundTree o
tree_sound key d o s e = subst IsSoundTree e (present (get key d) (got key d s))

text_sound : (key : List ℕ) (d : Data) (o : Option (List ℕ)) → IsSound d → text_at key d ≡ o → IsSoundText o
text_sound key d o s e = subst IsSoundText e (as_text (get key d) (got key d s))

of_string : (o : Option (List ℕ)) → IsSoundTree (option_map string o) → IsSoundText o
of_string None s = tt
of_string (Some t) s = s

texts : (d : Data) (k : Kind) → IsSound d → MeansKind d k → HasSoundTexts k
texts d (Request c a) s says = text_sound (codes "command") d (Some c) s says.1
texts d (Response r b c m o) s says = (text_sound (codes "command") d (Some c) s says.1, of_string m (tree_sound (codes "message") d (option_map string m) s says.5))
texts d (Event v b) s says = text_sound (codes "event") d (Some v) s says.1
texts d (Other t) s says = text_sound (codes "type") d (Some t) s says.0

tree : (d : Data) (k : Kind) → IsSound d → MeansKind d k → HasSoundTree k
tree d (Request c a) s says = tree_sound (codes "arguments") d a s says.3
tree d (Response r b c m o) s says = tree_sound (codes "body") d o s says.6
tree d (Event v b) s says = tree_sound (codes "body") d b s says.2
tree d (Other t) s says = tt

pub read_sound : IsReadSound → ReadIsSound
read_sound law body m is = let s = law body is.value is.is_json in record { texts = texts is.value m.kind s is.says.kind; tree = tree is.value m.kind s is.says.kind }
