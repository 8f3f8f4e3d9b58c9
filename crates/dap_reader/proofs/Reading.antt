-- What a reader of messages stands for, from what its reader of frames says.
use Rattle.std.proofs.Common.{arith, ◌≡◌, ℕ, List, [], ◌∷◌, ◌++◌, take, Option, Some, None, refl, option_to_list}
use Rattle.std.proofs.lemmas.List.{append-nil, take_all}
use Rattle.dap_frame.specs.Feeds.{Completes}
use Rattle.dap_frame.specs.Intake.{Intake}
use Rattle.dap_history.specs.HistoryLaws.{HistoriesGrow}
use Rattle.dap_envelope.specs.declared.message.Message.{Message}
use Rattle.dap_reader.specs.Reader.{Reader, Gives, IsUnread, IsRefused, StandsFor}
use Rattle.dap_reader.specs.declared.fault.ReadFault.{ReadFault}
use Rattle.dap_reader.specs.declared.fault.ReadFault.TheVariants.{Frame, Body, OutOfMemory, Closed}

pub unread_refused : (old ready : Intake) (piece : List ℕ) (n : ℕ) (fault : ReadFault) → Completes old ready piece n → IsUnread ready fault → IsRefused old piece fault
unread_refused old ready piece n (Body cause offset) c u = record { n = n; whole = record { ready = ready; completes = c }; bad = u.0; starts = u.1 }
unread_refused old ready piece n OutOfMemory c u = (n, record { ready = ready; completes = c })
unread_refused old ready piece n (Frame f) c u = absurd u
unread_refused old ready piece n Closed c u = absurd u

pub gives_stands : (grow : HistoriesGrow) (old new : Reader) (piece : List ℕ) (n : ℕ) (m : Option Message) → new.fault ≡ None → Gives old.intake new.intake piece n m
    → (s : List ℕ) (ms : List Message) → StandsFor old s ms → StandsFor new (s ++ take n piece) (ms ++ option_to_list m)
gives_stands grow old new piece n None fault g s ms st =
    record {
      no_fault = fault;
      under_way = g.under_way;
      bodies = st.bodies;
      rest = st.rest ++ piece;
      stream = rw (take_all n piece (omega (arith, g.all))) (g.stands s st.bodies st.rest st.stream);
      read = rw (append-nil ms) st.read;
    }
gives_stands grow old new piece n (Some m) fault g s ms st =
    record {
      no_fault = fault;
      under_way = g.under_way;
      bodies = st.bodies ++ g.whole.ready.held ∷ [];
      rest = [];
      stream = g.stands (s ++ take n piece) (st.bodies ++ g.whole.ready.held ∷ []) [] (g.whole.completes.stands s st.bodies st.rest st.stream);
      read = grow.read_then st.bodies ms g.whole.ready.held m st.read g.read;
    }

-- no fault was met
pub none_met : (fault : Option ReadFault) → ((f : ReadFault) → fault ≡ Some f → ⊥) → fault ≡ None
none_met None never = refl
none_met (Some f) never = absurd (never f refl)
