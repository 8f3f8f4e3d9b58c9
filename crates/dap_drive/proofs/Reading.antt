-- What the checker reads of a transcript is what both ends wrote.
use Rattle.std.proofs.Common.{◌≡◌, ℕ, ◌+◌, ◌-◌, ◌<◌, ◌==◌, List, [], ◌∷◌, ◌++◌, length, map, take, get_or, Bool, true, false, refl, sym, ap, ◌∙◌, subst, arith, append_assoc, if◌then◌else◌}
use Rattle.std.proofs.lemmas.Bool.Decides.{nat_tests}
use Rattle.std.proofs.lemmas.List.Splits.{length-slice_split, slice_split_at}
use Rattle.std.proofs.lemmas.List.Sums.{AllPass-from_list_all}
use Rattle.std.specs.List.{All, slice_split}
use Rattle.std.specs.Str.Lines.{lines, lines_of_parts, strip_carriage_return}
use Rattle.dap_envelope.specs.Canon.{canon}
use Rattle.dap_envelope.specs.Meaning.{Msg}
use Rattle.dap_envelope.specs.OneLine.{is_printed, IsOneLine, CanonIsOneLine}
use Rattle.dap_envelope.specs.ReadBack.{AllReadBack}
use Rattle.dap_envelope.specs.declared.message.Message.{Message}
use Rattle.dap_check.specs.Transcript.{AreLines}
use Rattle.dap_check.specs.declared.line.Line.{Line}
use Rattle.dap_check.specs.declared.line.Side.{Side}
use Rattle.dap_check.specs.declared.line.Side.TheVariants.{Client, Adapter}
use Rattle.dap_world.specs.Transcripts.{said_of, KeepsRules}
use Rattle.dap_world.specs.World.{Said, messages_of}
use Rattle.dap_drive.specs.Transcript.{mark_of, text_of, IsReadAs}

-- ---- the lines of a text

abbrev is_feed : ℕ → Bool
is_feed byte = byte == 10

not-feed : (x : ℕ) → is_printed x ≡ true → is_feed x ≡ false
not-feed x h = grind (arith, nat_tests, h)

not-return : (x : ℕ) → is_printed x ≡ true → (x == 13) ≡ false
not-return x h = grind (arith, nat_tests, h)

no-feeds : (l : List ℕ) → IsOneLine l → All (λ x. is_feed x ≡ false) l
no-feeds l h = λ k d below. not-feed _ (AllPass-from_list_all is_printed l h k d below)

whole-line : (l : List ℕ) → IsOneLine l → 0 < length l → strip_carriage_return l ≡ l
whole-line l h some =
    let last : is_printed (get_or l (length l - 1) 0) ≡ true = AllPass-from_list_all is_printed l h (length l - 1) 0 (omega arith) in
    ap (λ (b : Bool). if b then take (length l - 1) l else l) (not-return (get_or l (length l - 1) 0) last)

parts-cut : (l : List ℕ) (parts : List (List ℕ)) → 0 < length parts → lines_of_parts (l ∷ parts) ≡ strip_carriage_return l ∷ lines_of_parts parts
parts-cut l [] h = absurd (omega arith)
parts-cut l (y ∷ more) h = refl

line-cut : (l rest : List ℕ) → IsOneLine l → 0 < length l → lines (l ++ 10 ∷ rest) ≡ l ∷ lines rest
line-cut l rest h some =
    let cut = slice_split_at is_feed l 10 rest (no-feeds l h) refl in
    let many : 0 < length (slice_split is_feed rest) = omega (arith, length-slice_split is_feed rest) in
    ap lines_of_parts cut ∙ (parts-cut l (slice_split is_feed rest) many ∙ ap (λ (z : List ℕ). z ∷ lines rest) (whole-line l h some))

-- ---- the lines of what was written

abbrev texts_of : List Said → List (List ℕ)
texts_of said = map (λ m. mark_of m.side ++ canon m.message) said

marked : (side : Side) (text : List ℕ) → IsOneLine text → IsOneLine (mark_of side ++ text)
marked Client text h = h
marked Adapter text h = h

some-bytes : (side : Side) (text : List ℕ) → 0 < length (mark_of side ++ text)
some-bytes Client text = omega arith
some-bytes Adapter text = omega arith

lines-are : CanonIsOneLine → (said : List Said) → lines (text_of said) ≡ texts_of said
lines-are one [] = refl
lines-are one (m ∷ said) =
    let l = mark_of m.side ++ canon m.message in
    ap lines (append_assoc l (10 ∷ []) (text_of said)) ∙ (line-cut l (text_of said) (marked m.side (canon m.message) (one m.message)) (some-bytes m.side (canon m.message)) ∙ ap (λ (z : List (List ℕ)). l ∷ z) (lines-are one said))

abbrev numbered_lines : ℕ → List Said → List Line
numbered_lines number [] = []
numbered_lines number (m ∷ said) = record { number = number; side = m.side; message = m.message } ∷ numbered_lines (number + 1) said

said-are : (number : ℕ) (said : List Said) → said_of (numbered_lines number said) ≡ said
said-are number [] = refl
said-are number (m ∷ said) = ap (λ (z : List Said). m ∷ z) (said-are (number + 1) said)

line-is : (number : ℕ) (side : Side) (m : Message) (texts : List (List ℕ)) (all : List Line) → Msg (canon m) m → AreLines (number + 1) texts all
    → AreLines number ((mark_of side ++ canon m) ∷ texts) (record { number = number; side = side; message = m } ∷ all)
line-is number Client m texts all read more = (record { numbered = refl; side = refl; message = read }, more)
line-is number Adapter m texts all read more = (record { numbered = refl; side = refl; message = read }, more)

lines-are-read : (limit number : ℕ) (said : List Said) → AllReadBack limit (messages_of said) → AreLines number (texts_of said) (numbered_lines number said)
lines-are-read limit number [] h = tt
lines-are-read limit number (m ∷ said) h = line-is number m.side m.message (texts_of said) (numbered_lines (number + 1) said) h.0.reads (lines-are-read limit (number + 1) said h.1)

pub is_read : (limit : ℕ) (said : List Said) (transcript : List ℕ) → CanonIsOneLine → AllReadBack limit (messages_of said) → transcript ≡ text_of said → ((all : List Line) → said_of all ≡ said → KeepsRules all) → IsReadAs transcript said
is_read limit said transcript one back is rules =
    let all = numbered_lines 1 said in
    record {
      all = all;
      are = subst (λ (z : List (List ℕ)). AreLines 1 z all) (sym (ap lines is ∙ lines-are one said)) (lines-are-read limit 1 said back);
      said_is = said-are 1 said;
      rules = rules all (said-are 1 said);
    }
