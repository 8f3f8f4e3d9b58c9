-- The lines of a transcript, written message by message.
use Rattle.std.proofs.Common.{◌≡◌, ℕ, ◌+◌, ◌<◌, List, [], ◌∷◌, ◌++◌, length, map, take, drop, refl, sym, ap, ◌∙◌, subst, append_assoc, append-nil}
use Rattle.std.proofs.Math.Seq.{take-add}
use Rattle.dap_frame.specs.Intake.{Intake, IsUnderWay}
use Rattle.dap_frame.specs.Laws.{EachStreamHasOneSplit}
use Rattle.dap_frame.specs.Settings.{Settings, bounds_of}
use Rattle.dap_frame.specs.Stream.{FramesThen, Split}
use Rattle.dap_check.specs.declared.line.Side.{Side}
use Rattle.dap_envelope.specs.Canon.{canon}
use Rattle.dap_envelope.specs.declared.message.Message.{Message}
use Rattle.dap_world.specs.World.{Said, said_by}
use Rattle.dap_drive.specs.PrivateLines.{IsBetween, WritesLine, WritesLines, IsUnwritten, lines_of}
use Rattle.dap_drive.specs.Transcript.{mark_of, line_of, text_of}
use Rattle.dap_drive.specs.declared.writing.Unwritten.{Unwritten}
use Rattle.dap_drive.specs.declared.writing.Unwritten.TheVariants as unwritten
use Rattle.dap_drive.proofs.Streams.{joined, behind, rest_framed}

-- lines one after the other
pub lines_append : (side : Side) (xs ys : List (List ℕ)) → lines_of side (xs ++ ys) ≡ lines_of side xs ++ lines_of side ys
lines_append side [] ys = refl
lines_append side (x ∷ xs) ys = ap (λ (z : List ℕ). line_of side x ++ z) (lines_append side xs ys) ∙ sym (append_assoc (line_of side x) (lines_of side xs) (lines_of side ys))

pub text_append : (xs ys : List Said) → text_of (xs ++ ys) ≡ text_of xs ++ text_of ys
text_append [] ys = refl
text_append (x ∷ xs) ys = ap (λ (z : List ℕ). line_of x.side (canon x.message) ++ z) (text_append xs ys) ∙ sym (append_assoc (line_of x.side (canon x.message)) (text_of xs) (text_of ys))

-- the lines of the texts of messages are the text of the messages
pub text_of_messages : (side : Side) (ms : List Message) → lines_of side (map canon ms) ≡ text_of (said_by side ms)
text_of_messages side [] = refl
text_of_messages side (m ∷ ms) = ap (λ (z : List ℕ). line_of side (canon m) ++ z) (text_of_messages side ms)

-- one line more
pub line_written : (laws : EachStreamHasOneSplit) (limits : Settings) (i j : Intake) (side : Side) (bytes rest before now after : List ℕ) (at n : ℕ) → rest ≡ drop at bytes
    → WritesLines limits i side (take at bytes) before now → WritesLine i j side (take n rest) now after → IsUnderWay j → WritesLines limits j side (take (at + n) bytes) before after
line_written laws limits i j side bytes rest before now after at n is w l gathering =
    let b = bounds_of limits in
    let came = l.stands w.between.came w.between.bodies [] w.between.stands in
    let frame : FramesThen b (l.body ∷ []) [] (take n rest) =
    behind laws b w.between.bodies (l.body ∷ []) w.between.came (take n rest) [] (subst (λ z. Split z w.between.came w.between.bodies []) w.between.bounds w.between.stands.split) (subst (λ z. Split z (w.between.came ++ take n rest) (w.between.bodies ++ l.body ∷ []) []) (l.bounds ∙ w.between.bounds) came.split) in
    let bytes_are : take at bytes ++ take n rest ≡ take (at + n) bytes = ap (λ (z : List ℕ). take at bytes ++ take n z) is ∙ sym (take-add at n bytes) in
    record {
      bodies = w.bodies ++ l.body ∷ [];
      frames = subst (λ (z : List ℕ). FramesThen b (w.bodies ++ l.body ∷ []) [] z) bytes_are (joined b w.bodies (l.body ∷ []) [] (take at bytes) (take n rest) w.frames frame);
      lines = l.line ∙ (ap (λ (z : List ℕ). z ++ lines_of side (l.body ∷ [])) w.lines ∙ (append_assoc before (lines_of side w.bodies) (lines_of side (l.body ∷ []))
          ∙ ap (λ (z : List ℕ). before ++ z) (sym (lines_append side w.bodies (l.body ∷ [])))));
      between = record { bounds = l.bounds ∙ w.between.bounds; under_way = gathering; came = w.between.came ++ take n rest; bodies = w.between.bodies ++ l.body ∷ []; stands = came };
    }

-- the lines of what is left of frames are written, but where memory is refused
pub rest_unwritten : (laws : EachStreamHasOneSplit) (f : Unwritten) (i j : Intake) (side : Side) (all rest before now : List ℕ) (at : ℕ) → rest ≡ drop at all → 0 < length rest
    → ((limits : Settings) → IsBetween limits i → WritesLines limits j side (take at all) before now) → (0 < length rest → IsUnwritten f j rest) → IsUnwritten f i all
rest_unwritten laws unwritten.Frames i j side all rest before now at is some lines h = λ limits bodies r b w.
    let first = lines limits b in
    let more = rest_framed laws (bounds_of limits) bodies first.bodies at all w first.frames in
    h some limits more.0 r first.between (subst (λ (z : List ℕ). FramesThen (bounds_of limits) more.0 [] z) (sym is) more.1)
rest_unwritten laws unwritten.OutOfMemory i j side all rest before now at is some lines h = tt

-- a mark, a body and a line feed are a line
pub one_line : (side : Side) (mark body before marked written ended : List ℕ) → mark ≡ mark_of side → marked ≡ before ++ mark → written ≡ marked ++ body → ended ≡ written ++ 10 ∷ [] → ended ≡ before ++ lines_of side (body ∷ [])
one_line side mark body before marked written ended is a b d =
    d ∙ (ap (λ (z : List ℕ). z ++ 10 ∷ []) (b ∙ ap (λ (z : List ℕ). z ++ body) (a ∙ ap (λ (z : List ℕ). before ++ z) is))
    ∙ (ap (λ (z : List ℕ). z ++ 10 ∷ []) (append_assoc before (mark_of side) body) ∙ (append_assoc before (mark_of side ++ body) (10 ∷ []) ∙ ap (λ (z : List ℕ). before ++ z) (sym (append-nil (mark_of side ++ body ++ 10 ∷ []))))))
