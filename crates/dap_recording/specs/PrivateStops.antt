-- Words for the private functions that read rows of keys: why one stops, and what it gives.
use Rattle.std.specs.Prelude.{◌≡◌, ℕ, List, Result, Err, Vec}
use Rattle.std.specs.Borrow.{Bor}
use Rattle.std.specs.declared.alloc.Global.{Global}
use Rattle.serde_json.specs.Data.{Data, Items}
use Rattle.serde_json.specs.View.{view, items_view}
use Rattle.serde_json.specs.declared.value.Value.{Value}
use Rattle.dap_json.specs.Steps.{Returns}
use Rattle.dap_recording.specs.Places.{Read, within}
use Rattle.dap_recording.specs.declared.place.BadPlace.{BadPlace}
use Rattle.dap_recording.specs.declared.reading.RecordingKey.{RecordingKey}
use Rattle.dap_recording.specs.declared.stop.Stop.{Stop}
use Rattle.dap_recording.specs.declared.stop.Stop.TheVariants as stop

-- what holds of the place that is bad; memory may run out anywhere
abbrev pub IfBad : Stop → (BadPlace → Type 0) → Type 0
IfBad (stop.Bad place) Holds = Holds place.value
IfBad stop.OutOfMemory Holds = Unit {0}

-- it stops at the first bad place
abbrev pub Stops : {A : Type 0} → Stop → Read A → Type 0
Stops s read = IfBad s (λ place. read ≡ Err place)

-- What a function returned is what the rows read, unless memory ran out.
abbrev pub Finds : {A : Type 0} → Result A Stop → Read A → Type 0
Finds result read = Returns (λ x. x) Stops result read

-- the same of a value, and of elements, that are lent
abbrev pub FindsValue : Result (Bor Value) Stop → Read Data → Type 0
FindsValue result read = Returns (λ v. view v.now) Stops result read

abbrev pub FindsItems : Result (Bor (List Value)) Stop → Read Items → Type 0
FindsItems result read = Returns (λ items. items_view items.now) Stops result read

-- the same of what was added to on the way
abbrev pub FindsWith : {A S : Type 0} → Result A Stop → S → Read (A × S) → Type 0
FindsWith result s read = Returns (λ x. (x, s)) Stops result read

abbrev pub FindsListWith : {A S : Type 0} → Result (Vec A Global) Stop → S → Read (List A × S) → Type 0
FindsListWith result s read = Returns (λ v. (v.items, s)) Stops result read

abbrev pub FindsList : {A : Type 0} → Result (Vec A Global) Stop → Read (List A) → Type 0
FindsList result read = Returns (λ v. v.items) Stops result read

-- what a stop in an element says of the whole
abbrev pub StopsWithin : RecordingKey → ℕ → Stop → Stop → Type 0
StopsWithin k n (stop.Bad place) outer = IfBad outer (λ found. found ≡ within k n place.value)
StopsWithin k n stop.OutOfMemory outer = IfBad outer (λ found. ⊥)
