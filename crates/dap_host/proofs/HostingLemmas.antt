-- Lines of a host over a channel, one after the other.
use Rattle.std.proofs.Common.{◌≡◌, ℕ, ◌+◌, ◌<◌, false, List, [], ◌∷◌, ◌++◌, length, Err, refl, sym, ap, ap₂, ◌∙◌, subst, inl, inr, arith}
use Rattle.std.proofs.lemmas.List.{length-append}
use Rattle.std.proofs.lemmas.Grind.{common_steps}
use Rattle.dap_channel.specs.Channel.{IoEvent, MayGoOn, HasEnded}
use Rattle.dap_channel.specs.Laws.{CallsAddUp}
use Rattle.dap_channel.specs.Sent.{saturating_count}
use Rattle.dap_adapter.specs.declared.served.ServeFault.{ServeFault}
use Rattle.dap_adapter.specs.declared.served.ServeFault.TheVariants as serve
use Rattle.dap_host.specs.Fetching.{has_line, Fetches}
use Rattle.dap_host.specs.PrivateFetching.{Quiet, FetchStops}
use Rattle.dap_host.specs.Hosting.{HostPoint, point_of, Last, NextLine, Heard, none_heard, one_more, HearsAll, at_end, after_last, StopsBetween, StopsAtMost, at_lines, at_reads, Hosts}
use Rattle.dap_host.specs.PrivateHosting.{HostingState, with_held, SoFar, AnswersFirst, FirstStops, AnswersLast, LastStops, AnswerStops}

-- bytes that are counted behind others
pub counts_on : (went before n : ℕ) → before ≡ saturating_count went → saturating_count (before + n) ≡ saturating_count (went + n)
counts_on went before n is = grind (arith, common_steps)

module _ {C : Type 0} (goes : C → IoEvent → C → Type 0) (laws : CallsAddUp goes) (most : ℕ) (start : HostPoint C) (n : ℕ) (c : C) (v : HostingState) (so_far : SoFar goes start n c v) where
  abbrev here : HostPoint C
  here = point_of c v.host v.held

  -- calls that write nothing, behind others that write nothing
  stops_between : (m d : C) → Quiet goes c m → Quiet goes m d → Quiet goes c d
  stops_between m d (old, ran, none) (new, runs, nothing) = (new ++ old, laws.ran c m d new old ran runs, laws.written new old ∙ ap₂ (λ (a b : List ℕ). a ++ b) none nothing)

  pub nothing_more : (d : C) → Quiet goes c d → StopsBetween goes start d
  nothing_more d (log, ran, none) = record {
    heard = so_far.heard;
    went = so_far.went;
    there = here;
    lines_heard = so_far.lines_heard;
    log = log;
    ran = ran;
    none_written = none;
  }

  -- why the answer to the next line stops
  line_stops : (m : C) (line : List ℕ) → Quiet goes c m → NextLine goes here m line → (d : C) (fault : ServeFault) → AnswerStops goes m v.host line d v.written fault → Hosts goes most start d (Err fault)
  line_stops m line quiet next d (serve.Write written) stops = record {
    heard = so_far.heard;
    went = so_far.went;
    there = here;
    lines_heard = so_far.lines_heard;
    c = m;
    line = line;
    next = next;
    made = stops.made;
    makes = stops.makes;
    out = stops.out;
    within = stops.within;
    count = stops.count so_far.went so_far.count;
    short = stops.short;
  }
  line_stops m line quiet next d (serve.Adapter fault) stops = record {
    heard = so_far.heard;
    went = so_far.went;
    there = here;
    lines_heard = so_far.lines_heard;
    c = m;
    line = line;
    next = next;
    made = stops.made;
    h = stops.k;
    stops = stops.stops;
    flushes = stops.flushes;
  }
  line_stops m line quiet next d serve.OutOfMemory stops = nothing_more d (stops_between m d quiet stops)
  line_stops m line quiet next d serve.Read stops = absurd stops
  line_stops m line quiet next d serve.TooManyReads stops = absurd stops

  pub fetch_stops : (d : C) (now : List ℕ) (fault : ServeFault) → FetchStops goes most c v.held d now fault → Hosts goes most start d (Err fault)
  fetch_stops d now serve.Read stops = record {
    heard = so_far.heard;
    went = so_far.went;
    there = here;
    lines_heard = so_far.lines_heard;
    held = now;
    fetched = stops;
  }
  fetch_stops d now serve.OutOfMemory stops = nothing_more d stops
  fetch_stops d now serve.TooManyReads stops = at_reads so_far.heard so_far.went here now so_far.lines_heard stops
  fetch_stops d now (serve.Write written) stops = absurd stops
  fetch_stops d now (serve.Adapter fault) stops = absurd stops

  module _ (m : C) (held : List ℕ) (fetched : Fetches goes MayGoOn c v.held m held) where
    pub line_heard : (d : C) (w : HostingState) → AnswersFirst goes m (with_held held v) d w → SoFar goes start (n + 1) d w
    line_heard d w first = record {
      heard = so_far.heard ++ first.line ∷ [];
      went = so_far.went + length first.answers.answer.made;
      lines_heard = one_more so_far.heard so_far.went here m d w.host first.line w.held so_far.lines_heard (record { held = held; fetched = fetched; begins = first.begins }) first.answers.answer;
      many = length-append so_far.heard (first.line ∷ []) ∙ ap (λ (k : ℕ). k + 1) so_far.many;
      count = first.answers.count so_far.went so_far.count;
    }

    pub first_stops : (d : C) (fault : ServeFault) → FirstStops goes m (with_held held v) d fault → Hosts goes most start d (Err fault)
    first_stops d fault first = line_stops m first.line (fetched.log, fetched.ran, fetched.none_written) (inl (first.rest, record { held = held; fetched = fetched; begins = first.begins })) d fault first.stops

  module _ (m : C) (held : List ℕ) (fetched : Fetches goes HasEnded c v.held m held) (no_line : has_line held ≡ false) where
    last : 0 < length held → Last goes here m held
    last some = record { fetched = fetched; some = some; no_line = no_line }

    pub all_heard : (d : C) → AnswersLast goes m (with_held held v) d → HearsAll goes start d
    all_heard d (inl (none, same)) = at_end so_far.heard so_far.went here so_far.lines_heard (subst (λ (z : List ℕ). Fetches goes HasEnded c v.held d z) none (subst (λ (z : C). Fetches goes HasEnded c v.held z held) (sym same) fetched))
    all_heard d (inr (some, (k, answered))) = after_last so_far.heard so_far.went here m k held so_far.lines_heard (last some) answered

    pub last_stops : (d : C) (fault : ServeFault) → LastStops goes m (with_held held v) d fault → Hosts goes most start d (Err fault)
    last_stops d fault stops = line_stops m held (fetched.log, fetched.ran, fetched.none_written) (inr (last stops.some)) d fault stops.stops

-- no line has come yet
pub no_line_yet : {C : Type 0} (goes : C → IoEvent → C → Type 0) (c : C) (v : HostingState) → v.held ≡ [] → v.written ≡ 0 → SoFar goes (point_of c v.host []) 0 c v
no_line_yet goes c v none zero = record {
  heard = [];
  went = 0;
  lines_heard = subst (λ (z : List ℕ). Heard goes (point_of c v.host []) [] 0 (point_of c v.host z)) (sym none) none_heard;
  many = refl;
  count = zero;
}

-- more lines are due than may be
pub too_many : {C : Type 0} (goes : C → IoEvent → C → Type 0) (most : ℕ) (start : HostPoint C) (c : C) (v : HostingState) → SoFar goes start most c v → StopsAtMost goes most start c
too_many goes most start c v so_far = at_lines so_far.heard so_far.went (point_of c v.host v.held) so_far.lines_heard so_far.many refl
