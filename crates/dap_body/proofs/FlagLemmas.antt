-- Flags that are written among members, one by one.
use Rattle.std.proofs.Common.{◌≡◌, ℕ, ◌+◌, ◌<◌, List, [], ◌∷◌, ◌++◌, Bool, length, drop, get_or, refl, sym, ap, ◌∙◌, subst, add-one, drop-cons}
use Rattle.json.specs.Token.{Token}
use Rattle.dap_json.specs.declared.more.Member.{Member}
use Rattle.dap_command.specs.Capabilities.{has}
use Rattle.dap_command.specs.Command.{flag_of}
use Rattle.dap_command.specs.declared.capabilities.Capabilities.{Capabilities}
use Rattle.dap_command.specs.declared.command.Gate.{Gate}
use Rattle.dap_command.specs.declared.command.Gate.TheVariants.{BreakpointLocations}
use Rattle.dap_body.specs.PrivateText.{wrote, wrote_among, IsSoundField, HasSoundFields, PutsBefore, PutsFlags}
use Rattle.dap_body.specs.ResponseBody.{flag_fields}
use Rattle.dap_body.specs.Row.{flag_if_set, Row}
use Rattle.dap_body.proofs.FitMembers.{then-field}

-- one more is written, and with those after it all
pub flag-put : (c : Capabilities) (g : Gate) (gates : List Gate) {ms rest : List Member} {t0 t1 t2 : List Token} (row : Row) → PutsBefore (flag_of g) ms t0 rest t1 → t2 ≡ wrote (flag_of g, flag_if_set (has c g)) t1
    → wrote_among (flag_fields c gates ++ row) rest t2 ≡ wrote_among (flag_fields c (g ∷ gates) ++ row) ms t0
flag-put c g gates row puts own = then-field (flag_of g, flag_if_set (has c g)) (flag_fields c gates ++ row) puts own refl

-- the flags are written, then the rest
pub then-flags : (c : Capabilities) (gates : List Gate) (row : Row) (ms rest : List Member) (t0 t1 end : List Token) → PutsFlags c gates ms t0 rest t1 → end ≡ wrote_among row rest t1 → end ≡ wrote_among (flag_fields c gates ++ row) ms t0
then-flags c gates row ms rest t0 t1 end puts later = later ∙ sym (puts row)

-- ---- in a loop

at-gate : (gates : List Gate) (i : ℕ) → i < length gates → drop i gates ≡ get_or gates i BreakpointLocations ∷ drop (i + 1) gates
at-gate gates i lt = rw (add-one, drop-cons gates i BreakpointLocations)

pub flag-step : (c : Capabilities) (gates : List Gate) (i : ℕ) (key : List ℕ) (on : Bool) (ms rest : List Member) (t0 t1 t2 : List Token) (row : Row) → i < length gates → key ≡ flag_of (get_or gates i BreakpointLocations) → on ≡ has c (get_or gates i BreakpointLocations)
    → PutsBefore key ms t0 rest t1 → t2 ≡ wrote (key, flag_if_set on) t1 → wrote_among (flag_fields c (drop (i + 1) gates) ++ row) rest t2 ≡ wrote_among (flag_fields c (drop i gates) ++ row) ms t0
flag-step c gates i key on ms rest t0 t1 t2 row lt k o puts own =
    let g = get_or gates i BreakpointLocations in
    flag-put c g (drop (i + 1) gates) row (subst (λ (x : List ℕ). PutsBefore x ms t0 rest t1) k puts) (own ∙ ap (λ (x : List ℕ). wrote (x, flag_if_set on) t1) k ∙ ap (λ b. wrote (flag_of g, flag_if_set b) t1) o)
    ∙ ap (λ (xs : List Gate). wrote_among (flag_fields c xs ++ row) ms t0) (sym (at-gate gates i lt))

pub sound-step : (c : Capabilities) (gates : List Gate) (i : ℕ) (key : List ℕ) (on : Bool) → i < length gates → key ≡ flag_of (get_or gates i BreakpointLocations) → on ≡ has c (get_or gates i BreakpointLocations)
    → IsSoundField (key, flag_if_set on) → HasSoundFields (flag_fields c (drop (i + 1) gates)) → HasSoundFields (flag_fields c (drop i gates))
sound-step c gates i key on lt k o one later =
    let g = get_or gates i BreakpointLocations in
    subst (λ (xs : List Gate). HasSoundFields (flag_fields c xs)) (sym (at-gate gates i lt))
    (subst (λ b. IsSoundField (flag_of g, flag_if_set b)) o (subst (λ (x : List ℕ). IsSoundField (x, flag_if_set on)) k one), later)

-- flags before a row
pub flags-sound : (c : Capabilities) (gates : List Gate) (row : Row) → HasSoundFields (flag_fields c gates) → HasSoundFields row → HasSoundFields (flag_fields c gates ++ row)
flags-sound c [] row h later = later
flags-sound c (g ∷ gates) row h later = (h.0, flags-sound c gates row h.1 later)
