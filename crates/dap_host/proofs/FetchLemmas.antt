-- Reads of a channel, one after the other.
use Rattle.std.proofs.Common.{◌≡◌, ℕ, ◌+◌, ◌<◌, Bool, true, false, true≢false, List, [], ◌∷◌, ◌++◌, length, ◌==◌, refl, sym, ap, ap₂, ◌∙◌, subst, append_assoc, append-nil, arith}
use Rattle.std.proofs.lemmas.List.{length-append}
use Rattle.std.specs.Prelude.{◌||◌}
use Rattle.std.proofs.lemmas.List.Folds.{list_any-append}
use Rattle.dap_channel.specs.Channel.{IoEvent, Gave, ReadFailed, bytes_read, MayGoOn, HasEnded}
use Rattle.dap_host.specs.Fetching.{has_line, ReadsInNeed, Fetches, FetchesMost}
use Rattle.dap_host.specs.PrivateFetching.{Gives, FindsEnd, ReadStops, FetchStops, IsDropped, Drops, FetchesBehind, StopsBehind}
use Rattle.dap_adapter.specs.declared.served.ServeFault.{ServeFault}
use Rattle.dap_adapter.specs.declared.served.ServeFault.TheVariants as serve

-- there is a line in both together where there is one in the second
pub lines_of_both : (held piece now : List ℕ) (whole : Bool) → now ≡ held ++ piece → has_line held ≡ false → has_line piece ≡ whole → has_line now ≡ whole
lines_of_both held piece now whole is none line = ap has_line is ∙ list_any-append (λ b. b == 10) held piece ∙ ap₂ (λ a b. a || b) none line

module _ {C : Type 0} (goes : C → IoEvent → C → Type 0) (c : C) (held : List ℕ) where
  pub no_reads : has_line held ≡ false → FetchesMost goes 0 c held c held
  no_reads none = record {
    fetched = record { log = []; ran = refl; all = sym (append-nil held); none_written = refl; in_need = tt; end = tt };
    all_made = refl;
    no_line = none;
  }

  module _ (made : ℕ) (m : C) (now : List ℕ) (so_far : FetchesMost goes made c held m now) (d : C) (later : List ℕ) where
    abbrev before : Fetches goes MayGoOn c held m now
    before = so_far.fetched

    needed : ReadsInNeed held (ReadFailed ∷ before.log)
    needed = (ap has_line (sym before.all) ∙ so_far.no_line, (before.end, before.in_need))

    pub one_read : (whole : Bool) → Gives goes m now d later whole → Fetches goes MayGoOn c held d later
    one_read whole read = record {
      log = Gave read.room read.piece ∷ before.log;
      ran = (m, before.ran, read.went);
      all = read.held_are ∙ ap (λ bytes. bytes ++ read.piece) before.all ∙ append_assoc held (bytes_read before.log) read.piece;
      none_written = before.none_written;
      in_need = needed;
      end = (read.some, before.end);
    }

    pub one_line : (whole : Bool) → Gives goes m now d later whole → has_line later ≡ whole
    one_line whole read = lines_of_both now read.piece later whole read.held_are so_far.no_line read.line

    pub one_read_more : Gives goes m now d later false → FetchesMost goes (made + 1) c held d later
    unfolding one_read
    one_read_more read = record {
      fetched = one_read false read;
      all_made = ap (λ n. n + 1) so_far.all_made;
      no_line = one_line false read;
    }

    pub end_read : FindsEnd goes m now d later → Fetches goes HasEnded c held d later
    end_read read = record {
      log = Gave read.room [] ∷ before.log;
      ran = (m, before.ran, read.went);
      all = read.held_are ∙ before.all ∙ ap (λ bytes. held ++ bytes) (sym (append-nil (bytes_read before.log)));
      none_written = before.none_written;
      in_need = needed;
      end = (read.some, refl);
    }

    pub no_line_at_end : FindsEnd goes m now d later → has_line later ≡ false
    no_line_at_end read = ap has_line read.held_are ∙ so_far.no_line

    pub stops_there : (most : ℕ) (fault : ServeFault) → ReadStops goes m now d later fault → FetchStops goes most c held d later fault
    stops_there most serve.Read (went, same) = record {
      log = ReadFailed ∷ before.log;
      ran = (m, before.ran, went);
      all = same ∙ before.all;
      none_written = before.none_written;
      in_need = needed;
      end = tt;
    }
    stops_there most serve.OutOfMemory (room, piece, went) = (Gave room piece ∷ before.log, (m, before.ran, went), before.none_written)
    stops_there most (serve.Write written) stops = absurd stops
    stops_there most (serve.Adapter fault) stops = absurd stops
    stops_there most serve.TooManyReads stops = absurd stops

-- ---- behind what was dropped

pub has_line_or : (dropped held : List ℕ) → has_line (dropped ++ held) ≡ (has_line dropped || has_line held)
has_line_or dropped held = list_any-append (λ b. b == 10) dropped held

or_right : (a b : Bool) → (a || b) ≡ false → b ≡ false
or_right false b e = e
or_right true b e = absurd (true≢false e)

pub or_other : (a b : Bool) → a ≡ false → (a || b) ≡ b
or_other false b e = refl
or_other true b e = absurd (true≢false e)

pub none_dropped : (longest : ℕ) (is_long : Bool) (dropped : List ℕ) → IsDropped longest is_long dropped → has_line dropped ≡ false
none_dropped longest false dropped is = ap has_line is
none_dropped longest true dropped is = is.0

-- where none is in both, none is in what is held
pub none_held : (dropped held : List ℕ) → has_line (dropped ++ held) ≡ false → has_line held ≡ false
none_held dropped held e = or_right (has_line dropped) (has_line held) (sym (has_line_or dropped held) ∙ e)

-- where none was dropped, one in both is in what is held
pub same_line : (longest : ℕ) (is_long : Bool) (dropped held : List ℕ) → IsDropped longest is_long dropped → has_line (dropped ++ held) ≡ has_line held
same_line longest is_long dropped held is = has_line_or dropped held ∙ or_other (has_line dropped) (has_line held) (none_dropped longest is_long dropped is)

module _ {C : Type 0} (goes : C → IoEvent → C → Type 0) (dropped : List ℕ) (m : C) (now : List ℕ) (d : C) (later : List ℕ) where
  pub gives_behind : (whole : Bool) → Gives goes m now d later whole → Gives goes m (dropped ++ now) d (dropped ++ later) whole
  gives_behind whole read = record {
    room = read.room;
    piece = read.piece;
    went = read.went;
    some = read.some;
    held_are = ap (λ (z : List ℕ). dropped ++ z) read.held_are ∙ sym (append_assoc dropped now read.piece);
    line = read.line;
  }

  pub ends_behind : FindsEnd goes m now d later → FindsEnd goes m (dropped ++ now) d (dropped ++ later)
  ends_behind read = record { room = read.room; went = read.went; some = read.some; held_are = ap (λ (z : List ℕ). dropped ++ z) read.held_are }

  pub stops_behind : (fault : ServeFault) → ReadStops goes m now d later fault → ReadStops goes m (dropped ++ now) d (dropped ++ later) fault
  stops_behind serve.Read (went, same) = (went, ap (λ (z : List ℕ). dropped ++ z) same)
  stops_behind serve.OutOfMemory stops = stops
  stops_behind (serve.Write written) stops = absurd stops
  stops_behind (serve.Adapter fault) stops = absurd stops
  stops_behind serve.TooManyReads stops = absurd stops

-- reads so far, of which some bytes were dropped
pub record SoFar {C : Type 0} (goes : C → IoEvent → C → Type 0) (longest made : ℕ) (is_long : Bool) (c : C) (held : List ℕ) (m : C) (now : List ℕ) : Type 0 where
  pub dropped : List ℕ
  pub is : IsDropped longest is_long dropped
  pub fetched : FetchesMost goes made c held m (dropped ++ now)

module _ {C : Type 0} (goes : C → IoEvent → C → Type 0) (longest : ℕ) (c : C) (held : List ℕ) where
  pub none_so_far : has_line held ≡ false → SoFar goes longest 0 false c held c held
  none_so_far none = record { dropped = []; is = refl; fetched = no_reads goes c held none }

  -- no line is held
  pub none_there : (made : ℕ) (is_long : Bool) (m : C) (now : List ℕ) → SoFar goes longest made is_long c held m now → has_line now ≡ false
  none_there made is_long m now so_far = none_held so_far.dropped now so_far.fetched.no_line

  -- more is dropped
  pub drops_more : (made : ℕ) (was is_long : Bool) (m : C) (now less : List ℕ) → SoFar goes longest made was c held m now
      → ((dropped : List ℕ) → IsDropped longest was dropped → Drops longest is_long dropped now less) → SoFar goes longest made is_long c held m less
  drops_more made was is_long m now less so_far drops =
      let d = drops so_far.dropped so_far.is in
      record { dropped = d.dropped; is = d.is; fetched = subst (λ (z : List ℕ). FetchesMost goes made c held m z) (sym d.same) so_far.fetched }

  module _ (made : ℕ) (is_long : Bool) (m : C) (now : List ℕ) (so_far : SoFar goes longest made is_long c held m now) (d : C) (later : List ℕ) where
    pub read_more_behind : Gives goes m now d later false → SoFar goes longest (made + 1) is_long c held d later
    read_more_behind read = record {
      dropped = so_far.dropped;
      is = so_far.is;
      fetched = one_read_more goes c held made m (so_far.dropped ++ now) so_far.fetched d (so_far.dropped ++ later) (gives_behind goes so_far.dropped m now d later false read);
    }

    pub line_behind : Gives goes m now d later true → FetchesBehind goes MayGoOn true longest is_long c held d later
    line_behind read =
        let g = gives_behind goes so_far.dropped m now d later true read in
        record {
          dropped = so_far.dropped;
          is = so_far.is;
          fetched = one_read goes c held made m (so_far.dropped ++ now) so_far.fetched d (so_far.dropped ++ later) true g;
          line = one_line goes c held made m (so_far.dropped ++ now) so_far.fetched d (so_far.dropped ++ later) true g;
        }

    pub line_there : Gives goes m now d later true → has_line later ≡ true
    unfolding line_behind
    line_there read = sym (same_line longest is_long so_far.dropped later so_far.is) ∙ (line_behind read).line

    pub end_behind : FindsEnd goes m now d later → FetchesBehind goes HasEnded false longest is_long c held d later
    end_behind read =
        let e = ends_behind goes so_far.dropped m now d later read in
        record {
          dropped = so_far.dropped;
          is = so_far.is;
          fetched = end_read goes c held made m (so_far.dropped ++ now) so_far.fetched d (so_far.dropped ++ later) e;
          line = no_line_at_end goes c held made m (so_far.dropped ++ now) so_far.fetched d (so_far.dropped ++ later) e;
        }

    pub stop_behind : (most : ℕ) (fault : ServeFault) → ReadStops goes m now d later fault → StopsBehind goes most c held d fault
    stop_behind most fault stops = (so_far.dropped ++ later, stops_there goes c held made m (so_far.dropped ++ now) so_far.fetched d (so_far.dropped ++ later) most fault (stops_behind goes so_far.dropped m now d later fault stops))

  pub line_at_once : has_line held ≡ true → FetchesBehind goes MayGoOn true longest false c held c held
  line_at_once line = record {
    dropped = [];
    is = refl;
    fetched = record { log = []; ran = refl; all = sym (append-nil held); none_written = refl; in_need = tt; end = tt };
    line = line;
  }

  pub all_made_behind : (most made : ℕ) (is_long : Bool) (m : C) (now : List ℕ) → made ≡ most → SoFar goes longest made is_long c held m now → StopsBehind goes most c held m serve.TooManyReads
  all_made_behind most made is_long m now all so_far = (so_far.dropped ++ now, subst (λ (n : ℕ). FetchesMost goes n c held m (so_far.dropped ++ now)) all so_far.fetched)

-- ---- what is held is dropped

pub drops_all : (longest : ℕ) (was : Bool) (held now dropped : List ℕ) → now ≡ [] → has_line held ≡ false → (was ≡ false → longest + 1 < length held) → IsDropped longest was dropped → Drops longest true dropped held now
drops_all longest was held now dropped none no_line long is = record {
  dropped = dropped ++ held;
  is = (has_line_or dropped held ∙ or_other (has_line dropped) (has_line held) (none_dropped longest was dropped is) ∙ no_line, longer was long is);
  same = ap (λ (z : List ℕ). (dropped ++ held) ++ z) none ∙ append-nil (dropped ++ held);
}
  where
    longer : (was : Bool) → (was ≡ false → longest + 1 < length held) → IsDropped longest was dropped → longest + 1 < length (dropped ++ held)
    longer true long is = omega (arith, length-append dropped held, is.1)
    longer false long is = omega (arith, length-append dropped held, long refl)
