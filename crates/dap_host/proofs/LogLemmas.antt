-- A host over a channel that is the log of its calls.
use Rattle.std.proofs.Common.{◌≡◌, ℕ, ◌<◌, ◌==◌, Bool, true, false, List, [], ◌∷◌, ◌++◌, length, get_or, refl, sym, ap, ap₂, ◌∙◌, subst, append_assoc, append-nil, true≢false, arith}
use Rattle.std.specs.Prelude.{cond}
use Rattle.std.specs.List.{All}
use Rattle.std.specs.Str.Lines.{lines, lines_of_parts}
use Rattle.std.proofs.lemmas.Bool.Decides.{nat_tests}
use Rattle.std.proofs.lemmas.List.Folds.{list_any_at}
use Rattle.std.proofs.lemmas.List.Splits.{slice_split_none}
use Rattle.dap_channel.specs.Channel.{IoEvent, Ran, bytes_read, bytes_written, MayGoOn, HasEnded}
use Rattle.dap_channel.specs.Laws.{CallsAddUp}
use Rattle.dap_host.specs.Hearing.{HostState}
use Rattle.dap_host.specs.Fetching.{has_line, Fetches}
use Rattle.dap_host.specs.Hosting.{HostPoint, point_of, BeginsWith, Answered, Heard, none_heard, one_more, HearsAll, at_end, after_last, HearsEach, no_line, line_more, AnswersInput}

abbrev pub feed : ℕ → Bool
feed b = b == 10

fails_at : (b : Bool) → (b ≡ true → ⊥) → b ≡ false
fails_at true wrong = absurd (wrong refl)
fails_at false wrong = refl

pub no_feeds : (text : List ℕ) → has_line text ≡ false → All (λ b. feed b ≡ false) text
no_feeds text e = λ k d below. fails_at (feed (get_or text k d)) (λ is. true≢false (sym (list_any_at feed text k d below is) ∙ e))

one_part : (text : List ℕ) → 0 < length text → lines_of_parts (text ∷ []) ≡ text ∷ []
one_part text some = let is : (length text == 0) ≡ false = grind (arith, nat_tests) in ap (λ b. cond b [] (text ∷ [])) is

-- a last line that lacks its line feed
last_line : (text : List ℕ) → 0 < length text → has_line text ≡ false → lines text ≡ text ∷ []
last_line text some e = ap lines_of_parts (slice_split_none feed text (no_feeds text e)) ∙ one_part text some

module _ {C : Type 0} (goes : C → IoEvent → C → Type 0) (laws : CallsAddUp goes) (start : C) (h : HostState) where
  -- what was read begins with the lines that were heard, and what is held follows, whatever is read then
  record Logged (heard : List (List ℕ)) (p : HostPoint C) : Type 0 where
    log : List IoEvent
    ran : Ran goes start log p.channel
    out : List ℕ
    each : HearsEach h heard out p.host
    read : (more : List ℕ) → lines (bytes_read log ++ more) ≡ heard ++ lines (p.held ++ more)
    written : bytes_written log ≡ out

  module _ (heard : List (List ℕ)) (p : HostPoint C) (so_far : Logged heard p) (m : C) (ends : List IoEvent → Type 0) (now : List ℕ) (f : Fetches goes ends p.channel p.held m now) where
    read_by : (more : List ℕ) → lines (bytes_read (f.log ++ so_far.log) ++ more) ≡ heard ++ lines (now ++ more)
    read_by more =
        ap (λ (z : List ℕ). lines (z ++ more)) (laws.read f.log so_far.log)
        ∙ ap lines (append_assoc (bytes_read so_far.log) (bytes_read f.log) more)
        ∙ so_far.read (bytes_read f.log ++ more)
        ∙ ap (λ (z : List ℕ). heard ++ lines z) (sym (append_assoc p.held (bytes_read f.log) more) ∙ ap (λ (z : List ℕ). z ++ more) (sym f.all))

    ran_by : Ran goes start (f.log ++ so_far.log) m
    ran_by = laws.ran start p.channel m f.log so_far.log so_far.ran f.ran

    wrote_nothing : bytes_written (f.log ++ so_far.log) ≡ so_far.out
    wrote_nothing = laws.written f.log so_far.log ∙ ap (λ (z : List ℕ). bytes_written so_far.log ++ z) f.none_written ∙ append-nil (bytes_written so_far.log) ∙ so_far.written

    module _ (d : C) (k : HostState) (line : List ℕ) (answer : Answered goes m p.host line d k) where
      abbrev after : List IoEvent
      after = answer.flushes.sends.log ++ (f.log ++ so_far.log)

      reads_no_more : bytes_read after ≡ bytes_read (f.log ++ so_far.log)
      reads_no_more = laws.quiet answer.flushes.sends.log (f.log ++ so_far.log) answer.flushes.sends.no_reads

      ran_then : Ran goes start after d
      ran_then = laws.ran start m d answer.flushes.sends.log (f.log ++ so_far.log) ran_by answer.flushes.sends.ran

      wrote_then : bytes_written after ≡ so_far.out ++ answer.made
      wrote_then = laws.written answer.flushes.sends.log (f.log ++ so_far.log) ∙ ap₂ (λ (a b : List ℕ). a ++ b) wrote_nothing answer.flushes.sends.written

      line_logged : (rest : List ℕ) → BeginsWith now line rest → Logged (heard ++ line ∷ []) (point_of d k rest)
      line_logged rest begins = record {
        log = after;
        ran = ran_then;
        out = so_far.out ++ answer.made;
        each = line_more heard so_far.out p.host line answer.made k so_far.each answer.hears;
        read = λ more. ap (λ (z : List ℕ). lines (z ++ more)) reads_no_more ∙ read_by more ∙ ap (λ (z : List (List ℕ)). heard ++ z) (begins more) ∙ sym (append_assoc heard (line ∷ []) (lines (rest ++ more)));
        written = wrote_then;
      }

      -- the last line, which lacks its line feed
      last_logged : now ≡ line → 0 < length line → has_line line ≡ false → AnswersInput goes start h d
      last_logged same some no_feed = record {
        log = after;
        ran = ran_then;
        out = so_far.out ++ answer.made;
        end = k;
        each = subst (λ (z : List (List ℕ)). HearsEach h z (so_far.out ++ answer.made) k)
            (sym (ap lines (reads_no_more ∙ sym (append-nil (bytes_read (f.log ++ so_far.log)))) ∙ read_by [] ∙ ap (λ (z : List (List ℕ)). heard ++ z) (ap lines (append-nil now ∙ same) ∙ last_line line some no_feed)))
            (line_more heard so_far.out p.host line answer.made k so_far.each answer.hears);
        written = wrote_then;
      }

    none_left : now ≡ [] → AnswersInput goes start h m
    none_left none = record {
      log = f.log ++ so_far.log;
      ran = ran_by;
      out = so_far.out;
      end = p.host;
      each = subst (λ (z : List (List ℕ)). HearsEach h z so_far.out p.host)
          (sym (ap lines (sym (append-nil (bytes_read (f.log ++ so_far.log)))) ∙ read_by [] ∙ ap (λ (z : List ℕ). heard ++ lines (z ++ [])) none ∙ append-nil heard))
          so_far.each;
      written = wrote_nothing;
    }

  logged : (heard : List (List ℕ)) (went : ℕ) (p : HostPoint C) → Heard goes (point_of start h []) heard went p → Logged heard p
  logged _ _ _ none_heard = record { log = []; ran = refl; out = []; each = no_line; read = λ more. refl; written = refl }
  logged _ _ _ (one_more heard went p c d k line rest before whole answer) = line_logged heard p (logged heard went p before) c MayGoOn whole.held whole.fetched d k line answer rest whole.begins

  pub answers_input : (d : C) → HearsAll goes (point_of start h []) d → AnswersInput goes start h d
  answers_input d (at_end heard went p before fetched) = none_left heard p (logged heard went p before) d HasEnded [] fetched refl
  answers_input d (after_last heard went p c k line before last answer) = last_logged heard p (logged heard went p before) c HasEnded line last.fetched d k line answer refl last.some last.no_line
