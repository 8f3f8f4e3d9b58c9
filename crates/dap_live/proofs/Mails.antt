-- The last of the acts, and the end behind them.
use Rattle.std.proofs.Common.{◌≡◌, ◌-◌, Bool, true, false, List, [], ◌∷◌, ◌++◌, length, Option, Some, None, refl, ap, ◌∙◌, arith}
use Rattle.std.specs.List.{last_or, slice_get}
use Rattle.dap_live.specs.declared.mail.HostAct.{HostAct}
use Rattle.dap_live.specs.declared.mail.HostAct.TheVariants.{End}
use Rattle.dap_live.specs.MailState.{is_end, and_end}
use Rattle.dap_live.specs.PrivateHeld.{acts_held}

-- the last is at the last place
last_place : (o : Option HostAct) (x : HostAct) (xs : List HostAct) → slice_get (x ∷ xs) (length xs) ≡ last_or o (x ∷ xs)
last_place o x [] = refl
last_place o x (y ∷ xs) = last_place (Some x) y xs

less_one : (x : HostAct) (xs : List HostAct) → length (x ∷ xs) - 1 ≡ length xs
less_one x xs = omega arith

pub last_at : (acts : List HostAct) → slice_get acts (length acts - 1) ≡ last_or None acts
last_at [] = refl
last_at (x ∷ xs) = ap (λ n. slice_get (x ∷ xs) n) (less_one x xs) ∙ last_place None x xs

-- what is put behind all others is the last
last_behind : (o : Option HostAct) (xs : List HostAct) (x : HostAct) → last_or o (xs ++ x ∷ []) ≡ Some x
last_behind o [] x = refl
last_behind o (y ∷ xs) x = last_behind (Some y) xs x

-- where the acts end with no end, it is put behind them, unless it is there
pub and_end-after : (acts : List HostAct) (is_to_end : Bool) → is_end (last_or None acts) ≡ false → acts_held acts true ≡ and_end (acts_held acts is_to_end)
and_end-after acts true last = rw (last_behind None acts End) refl
and_end-after acts false last = rw last refl

-- where they end with an end, it stays as it is
pub and_end-there : (acts : List HostAct) (is_to_end : Bool) → is_end (last_or None acts) ≡ true → acts_held acts is_to_end ≡ and_end (acts_held acts is_to_end)
and_end-there acts true last = rw (last_behind None acts End) refl
and_end-there acts false last = rw last refl
