-- A piece that comes, up to the end of a frame at most, and the bytes that its message leads to.
use Rattle.std.proofs.Common.{◌≡◌, ℕ, List, [], ◌++◌, take, drop, true, false, Option, Some, None, is_some, subst}
use Rattle.std.proofs.lemmas.List.{take-append-drop}
use Rattle.dap_frame.specs.Laws.{EachStreamHasOneSplit}
use Rattle.dap_envelope.specs.declared.message.Message.{Message}
use Rattle.dap_adapter.specs.AdapterState.{AdapterState}
use Rattle.dap_adapter.specs.Calls.{Takes}
use Rattle.dap_adapter.specs.PrivateServing.{Way, Point, point_of, Leads, Breaks}
use Rattle.dap_adapter.specs.Run.{to_take, to_turn, has_ended}
use Rattle.dap_adapter.specs.declared.served.ServeFault.{ServeFault}
use Rattle.dap_adapter.proofs.Leading.{leads_step, leads_still, breaks_at_bytes}
use Rattle.dap_adapter.proofs.RunningOn.{HandsOn, hands_on, waited}

module _ {C S D : Type 0} (w : Way C S D) (v : Point C S D) (f : AdapterState D) (piece : List ℕ) (used : ℕ) (bytes : List ℕ) (one : EachStreamHasOneSplit) (going : has_ended v.end.session ≡ false) (none : f.fault ≡ None) (limits : f.session.limits ≡ v.end.session.limits) where
  -- a message came, and its bytes were put
  pub came_leads : (delivered : Option Message) → Takes w.follows v.end piece used bytes delivered f → is_some delivered ≡ true → (d : C) (t : S) → w.puts v.channel v.sink bytes d t → Leads w v to_take (take used piece) (point_of d t f) to_turn
  came_leads None x h d t put = absurd (cc h)
  came_leads (Some m) x h d t put =
      let there : HandsOn w.shown w.follows v.end f piece bytes used to_turn = hands_on w.shown w.follows one v.end f piece used bytes (Some m) going x none limits in
      leads_step w v (point_of d t f) to_take to_turn (take used piece) bytes there.now there.runs_on there.bytes_are put

  -- or they were refused
  pub came_breaks : (delivered : Option Message) → Takes w.follows v.end piece used bytes delivered f → is_some delivered ≡ true → (d : C) (t : S) (fault : ServeFault) → w.refuses v.channel v.sink bytes d t fault → Breaks w v to_take piece (point_of d t f) fault
  came_breaks None x h d t fault refused = absurd (cc h)
  came_breaks (Some m) x h d t fault refused =
      let there : HandsOn w.shown w.follows v.end f piece bytes used to_turn = hands_on w.shown w.follows one v.end f piece used bytes (Some m) going x none limits in
      let all : take used piece ++ drop used piece ≡ piece = take-append-drop used piece in
      subst (λ (z : List ℕ). Breaks w v to_take z (point_of d t f) fault) all
      (breaks_at_bytes w v (point_of d t f) to_take to_turn (take used piece) (drop used piece) bytes there.now fault there.runs_on there.bytes_are (used, m, (rw all x)) refused)

  -- none came
  pub none_leads : (delivered : Option Message) → Takes w.follows v.end piece used bytes delivered f → is_some delivered ≡ false → Leads w v to_take (take used piece) (record v { end = f }) to_take
  none_leads None x h = leads_still w v f to_take to_take (take used piece) (waited w.shown w.follows v.end f piece used bytes going x none)
  none_leads (Some m) x h = absurd (cc h)

  pub none_written : (delivered : Option Message) → Takes w.follows v.end piece used bytes delivered f → is_some delivered ≡ false → bytes ≡ []
  none_written None x h = x.none_written
  none_written (Some m) x h = absurd (cc h)
