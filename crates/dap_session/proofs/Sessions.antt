-- What holds of every session stays.
use Rattle.std.proofs.Common.{◌≡◌, ℕ, ◌≤◌, [], ◌∷◌, ◌++◌, true}
use Rattle.dap_frame.specs.Settings.{Settings}
use Rattle.dap_command.specs.declared.offer.Offer.{Offer}
use Rattle.dap_tables.specs.Outstanding.{KeptRequests, IsOrderlyRequests, kept_unparked, without, with_mark}
use Rattle.dap_outbox.specs.Waiting.{not_starting_ones}
use Rattle.dap_tables.specs.Breakpoints.{BreakpointTable}
use Rattle.dap_tables.specs.Seq.{Numbers}
use Rattle.dap_tables.specs.declared.entry.Entry.{Entry}
use Rattle.dap_plan.specs.SessionState.{IsSession}

-- a request less
pub session-without : {own : KeptRequests} (points : BreakpointTable) (limits : Settings) (offers : Offer) (old new : KeptRequests) (numbers later : Numbers) (seq : ℕ) → IsSession limits offers old points numbers own → new ≡ record old { kept = without seq old.kept } → IsOrderlyRequests new → later.last ≡ limits.seq → later.used ≤ later.last → IsSession limits offers new points later own
session-without points limits offers old new numbers later seq d e o l u =
    record {
      room = rw e d.room;
      orderly = o;
      set = d.set;
      last = l;
      used = u;
      fits = d.fits;
      own_room = d.own_room;
    }

-- a request parked
pub session-marked : {own : KeptRequests} (points : BreakpointTable) (limits : Settings) (offers : Offer) (old new : KeptRequests) (numbers : Numbers) (seq : ℕ) → IsSession limits offers old points numbers own → new ≡ record old { kept = with_mark seq true old.kept } → IsOrderlyRequests new → IsSession limits offers new points numbers own
session-marked points limits offers old new numbers seq d e o =
    record {
      room = rw e d.room;
      orderly = o;
      set = d.set;
      last = d.last;
      used = d.used;
      fits = d.fits;
      own_room = d.own_room;
    }

-- a request more
pub session-pushed : {own : KeptRequests} (points : BreakpointTable) (limits : Settings) (offers : Offer) (old new : KeptRequests) (numbers : Numbers) (r : Entry) → IsSession limits offers old points numbers own → new ≡ record old { kept = old.kept ++ kept_unparked r ∷ [] } → IsOrderlyRequests new → IsSession limits offers new points numbers own
session-pushed points limits offers old new numbers r d e o =
    record {
      room = rw e d.room;
      orderly = o;
      set = d.set;
      last = d.last;
      used = d.used;
      fits = d.fits;
      own_room = d.own_room;
    }

-- numbers given
pub session-spent : {own : KeptRequests} (points : BreakpointTable) (limits : Settings) (offers : Offer) (table : KeptRequests) (numbers later : Numbers) → IsSession limits offers table points numbers own → later.last ≡ limits.seq → later.used ≤ later.last → IsSession limits offers table points later own
session-spent points limits offers table numbers later d l u = record { room = d.room; orderly = d.orderly; set = d.set; last = l; used = u; fits = d.fits; own_room = d.own_room }

-- those that were parked less
pub session-unparked : {own : KeptRequests} (points : BreakpointTable) (limits : Settings) (offers : Offer) (old new : KeptRequests) (numbers later : Numbers) → IsSession limits offers old points numbers own → new ≡ record old { kept = not_starting_ones old.kept } → IsOrderlyRequests new → later.last ≡ limits.seq → later.used ≤ later.last → IsSession limits offers new points later own
session-unparked points limits offers old new numbers later d e o l u = record { room = rw e d.room; orderly = o; set = d.set; last = l; used = u; fits = d.fits; own_room = d.own_room }

-- a request less, and those that were parked
pub session-settled : {own : KeptRequests} (points : BreakpointTable) (limits : Settings) (offers : Offer) (old mid new : KeptRequests) (numbers later : Numbers) (seq : ℕ) → IsSession limits offers old points numbers own → mid ≡ record old { kept = without seq old.kept } → IsOrderlyRequests mid → new ≡ record mid { kept = not_starting_ones mid.kept } → IsOrderlyRequests new → later.last ≡ limits.seq → later.used ≤ later.last → IsSession limits offers new points later own
session-settled points limits offers old mid new numbers later seq d e m f o l u =
    let one = session-without points limits offers old mid numbers later seq d e m l u in
    record {
      room = rw f one.room;
      orderly = o;
      set = d.set;
      last = l;
      used = u;
      fits = d.fits;
      own_room = d.own_room;
    }
