-- What is said of a call that succeeds.
use Rattle.std.proofs.Common.{◌≡◌, Result, Ok, Err, sym, subst}
use Rattle.std.specs.Prelude.{OnOk, IfOk, IfErr, IsErrAnd}

pub on_two : {A E : Type 0} (result : Result A E) (P Q R : Type 0) → OnOk result P → OnOk result Q → (P → Q → R) → OnOk result R
on_two (Ok x) P Q R p q f = f p q
on_two (Err e) P Q R p q f = tt

pub on_ok : {A E : Type 0} (result : Result A E) (P Q : Type 0) → OnOk result P → (P → Q) → OnOk result Q
on_ok (Ok x) P Q p f = f p
on_ok (Err e) P Q p f = tt

pub if_ok : {A E : Type 0} (result : Result A E) (P Q : A → Type 0) → IfOk result P → ((x : A) → P x → Q x) → IfOk result Q
if_ok (Ok x) P Q p f = f x p
if_ok (Err e) P Q p f = tt

pub if_err : {A E : Type 0} (P : E → Type 0) (result : Result A E) (told : E) → IsErrAnd result (λ fault. fault ≡ told) → P told → IfErr result P
if_err P (Ok x) told alike is = tt
if_err P (Err fault) told alike is = subst P (sym alike) is
