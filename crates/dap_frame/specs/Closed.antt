-- A reader or an end that a fault closes: it answers that fault from then on, and stays as it is. This profile's choice.
use Rattle.std.specs.Prelude.{◌≡◌, Option, Result, Err, IfSome}

-- a call where it is closed, if it is
abbrev pub StaysClosed : {A F S : Type 0} → Option F → Result A F → S → S → Type 0
StaysClosed fault result old new = IfSome fault (λ f. (result ≡ Err f) × (new ≡ old))
