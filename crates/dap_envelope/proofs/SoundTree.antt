-- A sound message's tree is sound, and so what is written of a plain one is read again.
use Rattle.std.proofs.Common.{◌≡◌, ℕ, ◌^◌, ◌<◌, List, length, codes, IsUtf8, Bool, true, nat_le, Option, Some, None, option_map, refl, arith}
use Rattle.std.proofs.lemmas.Bool.{leb-true, and_parts}
use Rattle.json.proofs.Printed.Utf8.{IsUtf8-are_ascii}
use Rattle.serde_json.specs.Data.{Data, boolean, string, object, Members, no_members, put}
use Rattle.dap_json.specs.Field.{max_seq}
use Rattle.dap_json.specs.Put.{put_if, whole_number}
use Rattle.dap_json.specs.Read.{IsReadAgain}
use Rattle.dap_json.specs.Sound.{IsSound, PutIsSound}
use Rattle.dap_envelope.specs.Canon.{tree_of, canon, common_members, members_of, request_members, response_members, event_members}
use Rattle.dap_envelope.specs.Laws.{WrittenIsReadAgain}
use Rattle.dap_json.specs.Writable.{is_plain_tree}
use Rattle.dap_envelope.specs.Refusals.{max_command}
use Rattle.dap_envelope.specs.Plain.{is_plain, is_plain_kind}
use Rattle.dap_envelope.specs.SoundMessage.{IsSoundText, IsSoundTree, HasSoundTexts, HasSoundTree, IsSoundMessage}
use Rattle.dap_envelope.specs.declared.message.Message.{Message}
use Rattle.dap_envelope.specs.declared.message.Kind.{Kind}
use Rattle.dap_envelope.specs.declared.message.Kind.TheVariants.{Request, Response, Event, Other}
use Rattle.dap_envelope.proofs.MeaningLemmas.{MeansMessage-envelope_of}
use Rattle.dap_envelope.proofs.RoundTrip.{all_three, envelope_of-tree_of, has_float-tree_of, depth-tree_of}

in_64_bits : (n : ℕ) → nat_le n max_seq ≡ true → n < 2 ^ 64
in_64_bits n e = omega (arith, leb-true n max_seq e)

module _ (put_sound : PutIsSound) where
  put_if_tree : (key : List ℕ) (a : Option Data) (ms : Members) → IsUtf8 key → IsSoundTree a → IsSound (object ms) → IsSound (object (put_if key a ms))
  put_if_tree key None ms u s h = h
  put_if_tree key (Some d) ms u s h = put_sound key d ms u s h

  put_if_text : (key : List ℕ) (t : Option (List ℕ)) (ms : Members) → IsUtf8 key → IsSoundText t → IsSound (object ms) → IsSound (object (put_if key (option_map string t) ms))
  put_if_text key None ms u s h = h
  put_if_text key (Some t) ms u s h = put_sound key (string t) ms u s h

  first_sound : (seq : ℕ) → nat_le seq max_seq ≡ true → IsSound (object (put (codes "seq") (whole_number seq) no_members))
  first_sound seq e = let small : seq < 2 ^ 64 = in_64_bits seq e in (IsUtf8-are_ascii (codes "seq") refl, tt, small, tt)

  common_sound : (seq : ℕ) (tag : List ℕ) → nat_le seq max_seq ≡ true → IsUtf8 tag → IsSound (object (common_members seq tag))
  common_sound seq tag e u = put_sound (codes "type") (string tag) (put (codes "seq") (whole_number seq) no_members) (IsUtf8-are_ascii (codes "type") refl) u (first_sound seq e)

  request_sound : (seq : ℕ) (c : List ℕ) (a : Option Data) → nat_le seq max_seq ≡ true → IsUtf8 c → IsSoundTree a → IsSound (object (request_members seq c a))
  unfolding request_members
  request_sound seq c a e u s =
      let first = common_members seq (codes "request") in
      let named = put_sound (codes "command") (string c) first (IsUtf8-are_ascii (codes "command") refl) u (common_sound seq (codes "request") e (IsUtf8-are_ascii (codes "request") refl)) in
      put_if_tree (codes "arguments") a (put (codes "command") (string c) first) (IsUtf8-are_ascii (codes "arguments") refl) s named

  event_sound : (seq : ℕ) (v : List ℕ) (b : Option Data) → nat_le seq max_seq ≡ true → IsUtf8 v → IsSoundTree b → IsSound (object (event_members seq v b))
  unfolding event_members
  event_sound seq v b e u s =
      let first = common_members seq (codes "event") in
      let named = put_sound (codes "event") (string v) first (IsUtf8-are_ascii (codes "event") refl) u (common_sound seq (codes "event") e (IsUtf8-are_ascii (codes "event") refl)) in
      put_if_tree (codes "body") b (put (codes "event") (string v) first) (IsUtf8-are_ascii (codes "body") refl) s named

  response_sound : (seq r : ℕ) (ok : Bool) (c : List ℕ) (m : Option (List ℕ)) (b : Option Data) → nat_le seq max_seq ≡ true → nat_le r max_seq ≡ true → IsUtf8 c → IsSoundText m → IsSoundTree b
      → IsSound (object (response_members seq r ok c m b))
  unfolding response_members
  response_sound seq r ok c m b e q u t s =
      let first = common_members seq (codes "response") in
      let second = put (codes "request_seq") (whole_number r) first in
      let third = put (codes "success") (boolean ok) second in
      let fourth = put (codes "command") (string c) third in
      let fifth = put_if (codes "message") (option_map string m) fourth in
      let small : r < 2 ^ 64 = in_64_bits r q in
      let one = common_sound seq (codes "response") e (IsUtf8-are_ascii (codes "response") refl) in
      let two = put_sound (codes "request_seq") (whole_number r) first (IsUtf8-are_ascii (codes "request_seq") refl) small one in
      let three = put_sound (codes "success") (boolean ok) second (IsUtf8-are_ascii (codes "success") refl) tt two in
      let four = put_sound (codes "command") (string c) third (IsUtf8-are_ascii (codes "command") refl) u three in
      let five = put_if_text (codes "message") m fourth (IsUtf8-are_ascii (codes "message") refl) t four in
      put_if_tree (codes "body") b fifth (IsUtf8-are_ascii (codes "body") refl) s five

  kind_sound : (seq : ℕ) (k : Kind) → nat_le seq max_seq ≡ true → is_plain_kind k ≡ true → HasSoundTexts k → HasSoundTree k → IsSound (object (members_of seq k))
  kind_sound seq (Request c a) e p t s = request_sound seq c a e t s
  kind_sound seq (Response r ok c m b) e p t s = response_sound seq r ok c m b e (all_three (nat_le r max_seq) (nat_le (length c) max_command) (is_plain_tree b) p).0 t.0 t.1 s
  kind_sound seq (Event v b) e p t s = event_sound seq v b e t s
  kind_sound seq (Other g) e p t s = common_sound seq g e t

  IsSound-tree_of : (m : Message) → is_plain m ≡ true → IsSoundMessage m → IsSound (tree_of m)
  unfolding tree_of
  IsSound-tree_of m p s = let q = and_parts (nat_le m.seq max_seq) (is_plain_kind m.kind) p in kind_sound m.seq m.kind q.0 q.1 s.texts s.tree

  pub Msg-canon : IsReadAgain → WrittenIsReadAgain
  unfolding canon
  Msg-canon again m p s =
      let shallow = depth-tree_of m p in
      record {
        value = tree_of m;
        is_json = again (tree_of m) (IsSound-tree_of m p s) (has_float-tree_of m p) (omega (arith, shallow));
        says = MeansMessage-envelope_of (tree_of m) m (envelope_of-tree_of m p);
      }
