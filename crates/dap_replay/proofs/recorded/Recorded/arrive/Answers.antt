use Rattle.std.proofs.Common.{rules, ◌≡◌, ◌<◌, ◌&&◌, not, List, length, Some, nat_le, true, false, refl, sym, ap, ◌∙◌, subst}
use Rattle.std.specs.List.{slice_get}
use Rattle.std.proofs.lemmas.Option.{slice_get_read}
use Rattle.dap_command.specs.Numbers.{is_int}
use Rattle.dap_recording.specs.Recording.{id_at}
use Rattle.dap_replay.proofs.Ranges.{id_of_recording, reason_of_recording}
use Rattle.dap_recording.specs.declared.recording.Moment.{Moment}
use Rattle.dap_debuggee.specs.declared.answers.Happening.{Happening}
use Rattle.dap_debuggee.specs.declared.answers.Happening.TheVariants as happening
use Rattle.dap_debuggee.specs.declared.answers.State.TheVariants.{Stopped}
use Rattle.dap_replay.specs.Played.{Played, end_of_run, at_rest}
use Rattle.dap_replay.specs.PrivateHeld.{rest_of}
use Rattle.dap_replay.proofs.Arrivals.{ends_at}
use Rattle.dap_replay.proofs.recorded.Recorded.arrive.Goals.{else-to-via-then-to+else-not-going, else-to-via-else-to}
use Rattle.dap_replay.proofs.recorded.Recorded.arrive.Goals as goal

pub returns-clause-in_range : goal.returns-clause-in_range
returns-clause-in_range c =
    let r = c.self-2.inside.recording in
    let m = c.in-Some.moment.now in
    let at = c.args.going.to.to in
    let here : slice_get c.as_slice.result.now at ≡ Some m = slice_get_read c.as_slice.result.now (length c.as_slice.result.now) at m refl c.in-Some.ensures.lookup.3.0 c.in-Some.ensures.lookup.1 in
    let is : slice_get r.moments at ≡ Some m = sym (ap (λ ms. slice_get ms at) c.as_slice.ensures) ∙ here in
    let id : is_int (id_at m) ≡ true = id_of_recording r at m c.self-2.invariant.0 is in
    let given : is_int c.id_at-thread.result ≡ true = ap is_int c.id_at-thread.ensures ∙ id in
    let short : nat_le (length c.in_ok-reason.reason) 64 ≡ true = ap (λ text. nat_le (length text) 64) (c.in_ok-reason.ensures ∙ c.reason_told.ensures) ∙ reason_of_recording r at m c.args.going.to c.self-2.invariant.0 is in
    search rules

-- the run is over, at a moment
abbrev arrives-at : goal.After-note-2 → Type 0
arrives-at c = end_of_run (rest_of c.args.going) c.args.self.now ≡ (happening.Stopped c.in_ok-reason.reason c.id_at-thread.result c.in_ok-more.more, at_rest Stopped c.args.going.to.to c.args.self.now)

arrived : (c : goal.After-note-2) → arrives-at c
arrived c =
    let m = c.in-Some.moment.now in
    let at = c.args.going.to.to in
    let here : slice_get c.as_slice.result.now at ≡ Some m = slice_get_read c.as_slice.result.now (length c.as_slice.result.now) at m refl c.in-Some.ensures.lookup.3.0 c.in-Some.ensures.lookup.1 in
    let same : c.as_slice.result.now ≡ c.args.self.now.recording.moments = c.as_slice.ensures ∙ ap (λ (v : Played). v.recording.moments) c.self-2.view_is in
    let on : (c.args.going.to.held && not c.args.going.paused) ≡ false = elim c.else-to.branch [ else-to-via-then-to+else-not-going w ↦ search rules | else-to-via-else-to w ↦ search rules ] in
    ends_at c.args.self.now (rest_of c.args.going) m c.in_ok-reason.reason c.id_at-thread.result c.in_ok-more.more on
    (subst (λ (ms : List Moment). at < length ms) same c.in-Some.ensures.lookup.3.0)
    (subst (λ (ms : List Moment). slice_get ms at ≡ Some m) same here)
    (c.in_ok-reason.ensures ∙ c.reason_told.ensures) c.id_at-thread.ensures c.in_ok-more.ensures

pub returns-clause-happened : goal.returns-clause-happened
returns-clause-happened c =
    let e = ap (λ (p : Happening × Played). p.0) (arrived c) in
    rw e search rules

pub returns-clause-view : goal.returns-clause-view
returns-clause-view c =
    let e = arrived c in
    rw e search rules
