-- A number that was noted at a key, one member after another, and numbers that were kept, one item after another.
use Rattle.std.proofs.Common.{◌≡◌, true, false, true≢false, bytes_eq, ℕ, List, [], ◌∷◌, ◌++◌, Option, Some, None, option_and_then, sym, ap, ◌∙◌}
use Rattle.std.specs.List.{cons_option}
use Rattle.std.specs.Prelude.{nat_le}
use Rattle.std.proofs.lemmas.List.{append_assoc}
use Rattle.std.proofs.lemmas.Slice.Eq.{bytes_eq-Decides}
use Rattle.serde_json.specs.Data.{Data, object, Members, put}
use Rattle.serde_json.specs.Find.{get_member, as_number, as_u64}
use Rattle.serde_json.proofs.Views.{get_member-put, get_member-put_other}
use Rattle.dap_json.specs.Field.{if_passes, max_seq, whole_at}
use Rattle.dap_json.specs.Inside.{whole_of}

abbrev whole_in : Option Data → Option ℕ
whole_in found = if_passes (λ n. nat_le n max_seq) (option_and_then as_u64 (option_and_then as_number found))

pub noted_here : (wanted key : List ℕ) (d : Data) (ms : Members) → bytes_eq key wanted ≡ true → whole_of d ≡ whole_at wanted (object (put key d ms))
noted_here wanted key d ms same = sym (ap whole_in (ap (λ k. get_member wanted (put k d ms)) ((bytes_eq-Decides key wanted).0 same) ∙ get_member-put wanted d ms))

pub noted_before : (wanted key : List ℕ) (d : Data) (ms : Members) (found : Option ℕ) → bytes_eq key wanted ≡ false → found ≡ whole_at wanted (object ms) → found ≡ whole_at wanted (object (put key d ms))
noted_before wanted key d ms found apart is = is ∙ sym (ap whole_in (get_member-put_other wanted key d ms (λ same. true≢false (sym ((bytes_eq-Decides key wanted).1 (sym same)) ∙ apart))))

pub kept : (xs : List ℕ) (number : Option ℕ) (ys : List ℕ) → (xs ++ cons_option number []) ++ ys ≡ xs ++ cons_option number ys
kept xs None ys = append_assoc xs [] ys
kept xs (Some n) ys = append_assoc xs (n ∷ []) ys
