-- A member that is put keeps the keys in byte order, each once.
use Rattle.std.proofs.Common.{◌≡◌, ℕ, List, IsUtf8, Ordering, Less, Equal, Greater, nat_cmp, refl, ap, ◌∙◌}
use Rattle.std.proofs.lemmas.Cmp.{nat_list_cmp_total}
use Rattle.std.specs.Cmp.Lexicographic.{slice_cmp}
use Rattle.std.specs.Ordering.{match_ordering, ordering_reverse}
use Rattle.serde_json.specs.Data.{Data, Members, no_members, member, put}
use Rattle.dap_json.specs.Sound.{IsSound, HasSound, IsBefore}

-- what stands before a key stands before all that follow it
IsBefore-further : (k l : List ℕ) (ms : Members) → slice_cmp nat_cmp k l ≡ Less → IsBefore l ms → IsBefore k ms
IsBefore-further k l no_members e h = tt
IsBefore-further k l (member q d ms) e h = (nat_list_cmp_total.trans k l q e h.0, IsBefore-further k l ms e h.1)

IsBefore-put_at : (o : Ordering) (q k l : List ℕ) (d e : Data) (ms : Members) → slice_cmp nat_cmp q k ≡ Less → IsBefore q (member l e ms) → IsBefore q (put k d ms)
    → IsBefore q (match_ordering o (member k d (member l e ms)) (member l d ms) (member l e (put k d ms)))
IsBefore-put_at Less q k l d e ms first h later = (first, h)
IsBefore-put_at Equal q k l d e ms first h later = h
IsBefore-put_at Greater q k l d e ms first h later = (h.0, later)

IsBefore-put : (q k : List ℕ) (d : Data) (ms : Members) → slice_cmp nat_cmp q k ≡ Less → IsBefore q ms → IsBefore q (put k d ms)
IsBefore-put q k d no_members first h = (first, tt)
IsBefore-put q k d (member l e ms) first h = IsBefore-put_at (slice_cmp nat_cmp k l) q k l d e ms first h (IsBefore-put q k d ms first h.1)

HasSound-put_at : (o : Ordering) (k l : List ℕ) (d e : Data) (ms : Members) → slice_cmp nat_cmp k l ≡ o → IsUtf8 k → IsSound d → HasSound (member l e ms) → HasSound (put k d ms)
    → HasSound (match_ordering o (member k d (member l e ms)) (member l d ms) (member l e (put k d ms)))
HasSound-put_at Less k l d e ms is u s h later = (u, (is, IsBefore-further k l ms is h.1), s, h)
HasSound-put_at Equal k l d e ms is u s h later = (h.0, h.1, s, h.3)
HasSound-put_at Greater k l d e ms is u s h later =
    let before : slice_cmp nat_cmp l k ≡ Less = nat_list_cmp_total.antisymm l k ∙ ap ordering_reverse is in
    (h.0, IsBefore-put l k d ms before h.1, h.2, later)

pub HasSound-put : (k : List ℕ) (d : Data) (ms : Members) → IsUtf8 k → IsSound d → HasSound ms → HasSound (put k d ms)
HasSound-put k d no_members u s h = (u, tt, s, tt)
HasSound-put k d (member l e ms) u s h = HasSound-put_at _ k l d e ms refl u s h (HasSound-put k d ms u s h.3)
