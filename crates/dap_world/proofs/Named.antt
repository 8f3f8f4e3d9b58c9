-- Requests by number and command alone, as the smaller ends see them: each is in one place.
use Rattle.std.specs.Prelude.{◌≡◌, ◌+◌, ℕ, List, [], ◌∷◌, ◌++◌, length, map, filter, Bool, Option}
use Rattle.dap_history.specs.History.{Asked as AskedRequest}
use Rattle.dap_envelope.specs.declared.message.Kind.{Kind}
use Rattle.dap_envelope.specs.declared.message.Kind.TheVariants.{Request, Response, Event, Other}
use Rattle.dap_envelope.specs.declared.message.Message.{Message}
use Rattle.dap_tables.specs.Outstanding.{Kept}
use Rattle.dap_plan.specs.Session.{own_requests}
use Rattle.dap_world.specs.World.{World}

pub record Name : Type 0 where
  pub seq : ℕ
  pub command : List ℕ

abbrev pub names_of : List Kept → List Name
names_of kept = map (λ k. record { seq = k.entry.seq; command = k.entry.command }) kept

-- the adapter's own request
abbrev pub own_names : Option ℕ → List Name
own_names asked = map (λ (q : AskedRequest). record { seq = q.seq; command = q.command }) (own_requests asked)

abbrev pub asked_as : ℕ → Kind → List Name
asked_as seq (Request name arguments) = record { seq = seq; command = name } ∷ []
asked_as seq (Response request_seq ok name message body) = []
asked_as seq (Event name body) = []
asked_as seq (Other tag) = []

abbrev pub answered_as : Kind → List Name
answered_as (Request name arguments) = []
answered_as (Response request_seq ok name message body) = record { seq = request_seq; command = name } ∷ []
answered_as (Event name body) = []
answered_as (Other tag) = []

-- the requests among messages, and those that are answered
abbrev pub asked_in : List Message → List Name
asked_in [] = []
asked_in (m ∷ ms) = asked_as m.seq m.kind ++ asked_in ms

abbrev pub answered_in : List Message → List Name
answered_in [] = []
answered_in (m ∷ ms) = answered_as m.kind ++ answered_in ms

abbrev pub count : (Name → Bool) → List Name → ℕ
count test names = length (filter test names)

abbrev pub AreNamedInOnePlace : {D : Type 0} → World D → Type 0
AreNamedInOnePlace w = (test : Name → Bool) → count test (names_of w.client.outstanding) ≡ count test (asked_in w.up) + (count test (names_of w.adapter.session.kept) + count test (answered_in w.down))

abbrev pub OwnIsNamedInOnePlace : {D : Type 0} → World D → Type 0
OwnIsNamedInOnePlace w = (test : Name → Bool) → count test (own_names w.adapter.session.asked) ≡ count test (asked_in w.down) + (count test (names_of w.client.incoming) + count test (answered_in w.up))
