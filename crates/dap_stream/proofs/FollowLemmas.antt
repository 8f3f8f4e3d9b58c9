-- A stream that comes in pieces: what is listed goes on to hold of more bytes, and what the calls of a channel come to.
use Rattle.std.proofs.Common.{◌≡◌, ℕ, suc, ◌+◌, ◌<◌, ◌≤◌, List, [], ◌∷◌, ◌++◌, length, take, drop, Bool, true, false, IsTrue, Result, Ok, Err, IfOk, IfErr, OnOk, is_err, refl, sym, ap, ◌∙◌, subst, arith}
use Rattle.std.proofs.lemmas.List.{length-append, append_assoc, append-nil, take-append-le, take-append-drop}
use Rattle.std.proofs.Math.Seq.{take-length, drop-append_seam}
use Rattle.dap_channel.specs.Channel.{IoEvent, Gave, ReadFailed, Took, WriteFailed, Flushed, FlushFailed, Ran, bytes_read, bytes_written, reads, is_flushed, MayGoOn}
use Rattle.dap_channel.specs.Laws.{CallsAddUp}
use Rattle.dap_channel.specs.Sent.{Sends, WritesShort}
use Rattle.dap_frame.specs.Ends.{EndsWith}
use Rattle.dap_frame.specs.Intake.{Intake, IsUnderWay, StandsFor}
use Rattle.dap_frame.specs.Settings.{Settings, bounds_of}
use Rattle.dap_frame.specs.Stream.{Split, FramesThen}
use Rattle.dap_frame.specs.Verdict.{verdict, IsUnrefused, Part}
use Rattle.dap_frame.specs.declared.frames.End.{End}
use Rattle.dap_frame.specs.declared.frames.End.TheVariants as ends
use Rattle.dap_frame.specs.declared.limits.Bounds.{Bounds}
use Rattle.dap_stream.specs.Following.{IsCaughtUp, IsReadDue, ReadsInTurn, IsCutShort, Keeps, HasReason, Follows}
use Rattle.dap_stream.specs.Listing.{Lists, none, one_more, Listed, ListsAll, ListsSome, Shows, IsEndOf}
use Rattle.dap_stream.proofs.ShowLemmas.{ListedTo-start, all_listed}
use Rattle.dap_stream.specs.PrivateFollowing.{Came}
use Rattle.dap_stream.specs.PrivateShowSteps.{Extends, ListedTo}
use Rattle.dap_stream.specs.declared.following.FollowFault.{FollowFault}
use Rattle.dap_stream.specs.declared.following.FollowFault.TheVariants as follow
use Rattle.dap_stream.specs.declared.lines.Style.{Style}
use Rattle.dap_stream.specs.declared.listing.Shown.{Shown}
use Rattle.dap_stream.specs.declared.listing.ShowFault.{ShowFault}
use Rattle.dap_stream.specs.declared.listing.ShowFault.TheVariants.{Frame, Body, OutOfMemory}

-- ---- more bytes

lists_more : (style : Style) (bounds : Bounds) (s more : List ℕ) (xs : List (List ℕ)) (text : List ℕ) (refused : Bool) → Lists style bounds s xs text refused → Lists style bounds (s ++ more) xs text refused
lists_more style bounds s more _ _ _ none = none
lists_more style bounds s more _ _ _ (one_more xs text x line front frame after before refused l cut frames is_frame is_line) =
    one_more xs text x line front frame (after ++ more) before refused (lists_more style bounds s more xs text before l)
    (ap (λ z. z ++ more) cut ∙ append_assoc front (frame ++ after) more ∙ ap (λ z. front ++ z) (append_assoc frame after more)) frames is_frame is_line

listed_more : (style : Style) (limits : Settings) (bytes more : List ℕ) (xs : List (List ℕ)) (old new : List ℕ) (refused : Bool) → Listed style limits bytes xs old new refused → Listed style limits (bytes ++ more) xs old new refused
listed_more style limits bytes more xs old new refused l = record { text = l.text; lists = lists_more style (bounds_of limits) bytes more xs l.text refused l.lists; appended = l.appended }

pub listed_to_more : (style : Style) (limits : Settings) (frames : Intake) (bytes more : List ℕ) (at : ℕ) (old new : List ℕ) (refused : Bool) → at ≤ length bytes → ListedTo style limits frames bytes at old new refused → ListedTo style limits frames (bytes ++ more) at old new refused
listed_to_more style limits frames bytes more at old new refused within l = record {
  bodies = l.bodies;
  rest = l.rest;
  bounds = l.bounds;
  stands = subst (λ z. StandsFor frames z l.bodies l.rest) (sym (take-append-le at bytes more within)) l.stands;
  listed = listed_more style limits bytes more l.bodies old new refused l.listed;
}

-- ---- all that was read

pub caught_up : (style : Style) (limits : Settings) (frames : Intake) (bytes out : List ℕ) (refused : Bool) → IsUnderWay frames → ListedTo style limits frames bytes (length bytes) [] out refused → IsCaughtUp style limits bytes out
caught_up style limits frames bytes out refused under_way l =
    let stands : StandsFor frames bytes l.bodies l.rest = subst (λ z. StandsFor frames z l.bodies l.rest) (take-length bytes) l.stands in
    record {
      bodies = l.bodies;
      rest = l.rest;
      split = subst (λ b. Split b bytes l.bodies l.rest) l.bounds stands.split;
      unrefused = subst (λ b. IsUnrefused (verdict b l.rest)) l.bounds (stands.under_way under_way).unrefused;
      refused = refused;
      listed = l.listed;
    }

-- ---- some of it

shows_some : (style : Style) (limits : Settings) (bytes old new : List ℕ) (fault : ShowFault) → Shows style limits bytes old new (Err fault) → ListsSome style limits bytes old new
shows_some style limits bytes old new (Frame fault) h = record { bodies = h.bodies; refused = h.refused; listed = h.listed }
shows_some style limits bytes old new (Body cause offset body_offset body_length) h = record { bodies = h.bodies; refused = h.refused; listed = h.listed }
shows_some style limits bytes old new OutOfMemory h = h

-- what list_rest says, where it listed all that was left or stopped
pub some_listed : (style : Style) (frames after : Intake) (bytes old new : List ℕ) (at : ℕ) (before : Bool) (r : Result Bool ShowFault)
    → IfOk r (λ refused. (limits : Settings) (first : List ℕ) → ListedTo style limits frames bytes at first old before → ListedTo style limits after bytes (length bytes) first new refused)
    → IfErr r (λ fault. (limits : Settings) (first : List ℕ) → ListedTo style limits frames bytes at first old before → Shows style limits bytes first new (Err fault))
    → (limits : Settings) → ListedTo style limits frames bytes at [] old before → ListsSome style limits bytes [] new
some_listed style frames after bytes old new at before (Ok refused) ok err limits l = let all = ok limits [] l in record { bodies = all.bodies; refused = refused; listed = all.listed }
some_listed style frames after bytes old new at before (Err fault) ok err limits l = shows_some style limits bytes [] new fault (err limits [] l)

-- ---- what a call returned

pub got_ok : {E : Type 0} (r : Result ℕ E) (P : Type 0) → false ≡ is_err r → OnOk r P → P
got_ok (Ok x) P e p = p
got_ok (Err x) P e p = absurd (cc e)

pub got_err : {A : Type 0} (r : Result A ℕ) (P : ℕ → Type 0) → true ≡ is_err r → IfErr r P → (n : ℕ) × P n
got_err (Ok x) P e p = absurd (cc e)
got_err (Err n) P e p = (n, p)

-- ---- the lines of a piece

pub lines_grown : (old new lines : List ℕ) (n : ℕ) → Extends old new → n ≡ length old → lines ≡ drop n new → new ≡ old ++ lines
lines_grown old new lines n grows here cut =
    let rest : lines ≡ grows.0 = cut ∙ ap (λ k. drop k new) here ∙ ap (λ z. drop (length old) z) grows.1 ∙ drop-append_seam old grows.0 in
    grows.1 ∙ ap (λ z. old ++ z) (sym rest)

-- ---- calls

pub turn_kept : (style : Style) (limits : Settings) (most : ℕ) (new old : List IoEvent) → reads new ≡ 0 → ReadsInTurn style limits most old → ReadsInTurn style limits most (new ++ old)
turn_kept style limits most [] old quiet turn = turn
turn_kept style limits most (Gave room bytes ∷ log) old quiet turn = absurd (omega (arith, quiet))
turn_kept style limits most (ReadFailed ∷ log) old quiet turn = absurd (omega (arith, quiet))
turn_kept style limits most (Took bytes left ∷ log) old quiet turn = turn_kept style limits most log old quiet turn
turn_kept style limits most (WriteFailed ∷ log) old quiet turn = turn_kept style limits most log old quiet turn
turn_kept style limits most (Flushed ∷ log) old quiet turn = turn_kept style limits most log old quiet turn
turn_kept style limits most (FlushFailed ∷ log) old quiet turn = turn_kept style limits most log old quiet turn

module _ {C : Type 0} (goes : C → IoEvent → C → Type 0) (law : CallsAddUp goes) (style : Style) (limits : Settings) (most : ℕ) (start : C) where
  -- ---- a read

  up : (now : C) (frames : Intake) (bytes out : List ℕ) (refused : Bool) (c : Came goes style limits most start now frames bytes [] out refused) → IsCaughtUp style limits (bytes_read c.log) (bytes_written c.log)
  up now frames bytes out refused c =
      subst (λ r. IsCaughtUp style limits r (bytes_written c.log)) (sym (append-nil bytes) ∙ c.read_is)
      (subst (λ w. IsCaughtUp style limits bytes w) c.written_is (caught_up style limits frames bytes out refused c.under_way c.listed))

  due : (now : C) (frames : Intake) (bytes out : List ℕ) (refused : Bool) (c : Came goes style limits most start now frames bytes [] out refused) → length bytes ≤ most → IsReadDue style limits most c.log
  due now frames bytes out refused c few = record {
    goes_on = c.goes_on;
    few = omega (arith, few, ap length (sym (append-nil bytes) ∙ c.read_is));
    caught_up = up now frames bytes out refused c;
    flushed = c.flushed;
  }

  pub came : (now next : C) (frames : Intake) (bytes piece out : List ℕ) (room : ℕ) (refused : Bool) → Came goes style limits most start now frames bytes [] out refused → length bytes ≤ most → 0 < length piece → goes now (Gave room piece) next → Came goes style limits most start next frames bytes piece out refused
  came now next frames bytes piece out room refused c few some gave = record {
    log = Gave room piece ∷ c.log;
    ran = (now, c.ran, gave);
    read_is = ap (λ z. z ++ piece) (sym (append-nil bytes) ∙ c.read_is);
    written_is = c.written_is;
    listed = c.listed;
    under_way = c.under_way;
    flushed = c.flushed;
    goes_on = (some, c.goes_on);
    in_turn = (due now frames bytes out refused c few, c.in_turn);
  }

  pub failed_read : (now next : C) (frames : Intake) (bytes out : List ℕ) (refused : Bool) → Came goes style limits most start now frames bytes [] out refused → length bytes ≤ most → goes now ReadFailed next → Follows goes style limits most start next bytes (Err follow.Read)
  failed_read now next frames bytes out refused c few failed = record {
    log = ReadFailed ∷ c.log;
    ran = (now, c.ran, failed);
    in_turn = (due now frames bytes out refused c few, c.in_turn);
    reason = (tt, sym (append-nil bytes) ∙ c.read_is);
  }

  pub ended : (now next : C) (frames : Intake) (bytes out : List ℕ) (room : ℕ) (piece : List ℕ) (refused : Bool) (end : End) → Came goes style limits most start now frames bytes [] out refused → 0 < room → piece ≡ [] → length bytes ≤ most → goes now (Gave room piece) next
      → ((s : List ℕ) (xs : List (List ℕ)) (rest : List ℕ) → StandsFor frames s xs rest → EndsWith frames rest end) → (end ≡ ends.Refused → ⊥) → Follows goes style limits most start next bytes (Ok (record { end = end; refused = refused }))
  ended now next frames bytes out room piece refused end c some nil few gave finishes unrefused = record {
    log = Gave room piece ∷ c.log;
    ran = (now, c.ran, gave);
    in_turn = (due now frames bytes out refused c few, c.in_turn);
    reason = (
      (some, nil),
      c.flushed,
      sym (append-nil bytes) ∙ c.read_is ∙ sym (append-nil (bytes_read c.log)) ∙ ap (λ z. bytes_read c.log ++ z) (sym nil),
      few,
      subst (λ w. ListsAll style limits bytes [] w (record { end = end; refused = refused })) c.written_is (all_listed style limits frames bytes [] out refused end finishes unrefused c.listed),
    );
  }

  pub too_long : (now : C) (frames : Intake) (bytes out : List ℕ) (refused : Bool) → Came goes style limits most start now frames bytes [] out refused → most < length bytes → Follows goes style limits most start now bytes (Err follow.TooLong)
  too_long now frames bytes out refused c long = record {
    log = c.log;
    ran = c.ran;
    in_turn = c.in_turn;
    reason = (c.goes_on, c.flushed, sym (append-nil bytes) ∙ c.read_is, long, subst (λ w. IsCaughtUp style limits bytes w) c.written_is (caught_up style limits frames bytes out refused c.under_way c.listed));
  }

  -- ---- a piece

  module _ (now : C) (frames : Intake) (bytes piece out : List ℕ) (refused : Bool) (c : Came goes style limits most start now frames bytes piece out refused) where
    pub before_piece : ListedTo style limits frames (bytes ++ piece) (length bytes) [] out refused
    before_piece = listed_to_more style limits frames bytes piece (length bytes) [] out refused (omega arith) c.listed

    module _ (next : C) (lines all : List ℕ) (grown : all ≡ out ++ lines) (sent : Sends goes now next lines) where
      read_same : bytes_read (sent.log ++ c.log) ≡ bytes ++ piece
      read_same = law.quiet sent.log c.log sent.no_reads ∙ sym c.read_is

      written_more : all ≡ bytes_written (sent.log ++ c.log)
      written_more = grown ∙ ap (λ z. z ++ lines) c.written_is ∙ ap (λ z. bytes_written c.log ++ z) (sym sent.written) ∙ sym (law.written sent.log c.log)

      pub piece_sent : (after : Intake) (more : Bool) → IsUnderWay after → ListedTo style limits after (bytes ++ piece) (length (bytes ++ piece)) [] all more → Came goes style limits most start next after (bytes ++ piece) [] all more
      piece_sent after more under_way l = record {
        log = sent.log ++ c.log;
        ran = law.ran start now next sent.log c.log c.ran sent.ran;
        read_is = append-nil (bytes ++ piece) ∙ sym read_same;
        written_is = written_more;
        listed = l;
        under_way = under_way;
        flushed = law.flushed sent.log c.log sent.flushed c.flushed;
        goes_on = law.goes_on sent.log c.log sent.goes_on c.goes_on;
        in_turn = turn_kept style limits most sent.log c.log sent.no_reads c.in_turn;
      }

      keeps : (fault : ShowFault) → Keeps (sent.log ++ c.log) (bytes ++ piece) fault
      keeps (Frame fault) = sym read_same
      keeps (Body cause offset body_offset body_length) = sym read_same
      keeps OutOfMemory = ([], read_same ∙ sym (append-nil (bytes ++ piece)))

      pub piece_refused : (fault : ShowFault) → Shows style limits (bytes ++ piece) [] all (Err fault) → Follows goes style limits most start next (bytes ++ piece) (Err (follow.Show fault))
      piece_refused fault shows = record {
        log = sent.log ++ c.log;
        ran = law.ran start now next sent.log c.log c.ran sent.ran;
        in_turn = turn_kept style limits most sent.log c.log sent.no_reads c.in_turn;
        reason = (law.flushed sent.log c.log sent.flushed c.flushed, keeps fault, subst (λ w. Shows style limits (bytes ++ piece) [] w (Err fault)) written_more shows);
      }

    pub piece_unsent : (next : C) (lines all went : List ℕ) (rest : List ℕ) → all ≡ out ++ lines → lines ≡ went ++ rest → WritesShort goes now next went → ListsSome style limits (bytes ++ piece) [] all → Follows goes style limits most start next (bytes ++ piece) (Err follow.Write)
    piece_unsent next lines all went rest grown cut short lists = record {
      log = short.log ++ c.log;
      ran = law.ran start now next short.log c.log c.ran short.ran;
      in_turn = turn_kept style limits most short.log c.log short.no_reads c.in_turn;
      reason = (
        law.failed short.log c.log short.failed,
        c.read_is ∙ sym (law.quiet short.log c.log short.no_reads),
        record {
          more = rest;
          lists = subst (λ w. ListsSome style limits (bytes ++ piece) [] w)
              (grown ∙ ap (λ z. out ++ z) cut ∙ sym (append_assoc out went rest) ∙ ap (λ z. z ++ rest) (ap (λ z. z ++ went) c.written_is ∙ ap (λ z. bytes_written c.log ++ z) (sym short.written) ∙ sym (law.written short.log c.log))) lists;
        },
      );
    }

-- ---- before any call

pub began : {C : Type 0} (goes : C → IoEvent → C → Type 0) (style : Style) (limits : Settings) (most : ℕ) (start : C) (frames : Intake) → frames.bounds ≡ bounds_of limits → IsUnderWay frames → StandsFor frames [] [] [] → Came goes style limits most start start frames [] [] [] false
began goes style limits most start frames bounds under_way fresh = record {
  log = [];
  ran = refl;
  read_is = refl;
  written_is = refl;
  listed = ListedTo-start style limits frames [] [] bounds fresh;
  under_way = under_way;
  flushed = refl;
  goes_on = tt;
  in_turn = tt;
}

pub not_begun : {C : Type 0} (goes : C → IoEvent → C → Type 0) (style : Style) (limits : Settings) (most : ℕ) (start : C) (bytes : List ℕ) → bytes ≡ [] → Follows goes style limits most start start bytes (Err (follow.Show OutOfMemory))
not_begun goes style limits most start bytes nil = record {
  log = [];
  ran = refl;
  in_turn = tt;
  reason = (refl, ([], sym (append-nil bytes ∙ nil)), record { bodies = []; refused = false; listed = record { text = []; lists = none; appended = refl } });
}
