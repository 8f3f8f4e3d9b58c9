-- What is explained is the line of that number after the lines before it.
use Rattle.std.proofs.Common.{◌≡◌, ◌≢◌, ◌⊎◌, ℕ, ◌+◌, ◌<◌, ◌≤◌, ◌==◌, List, [], ◌∷◌, ◌++◌, length, Bool, true, false, Option, None, Result, Ok, Err, refl, sym, ap, ◌∙◌, subst, inl, inr, zero, suc, arith}
use Rattle.std.specs.Prelude.{◌||◌, IfOk, IfErr, IsErrAnd, take, drop}
use Rattle.std.specs.List.{list_any}
use Rattle.std.specs.Str.Lines.{lines}
use Rattle.std.proofs.lemmas.Bool.Decides.{nat_tests}
use Rattle.std.proofs.lemmas.List.{length-append, append_assoc, take-append-drop, take_all, take_at}
use Rattle.dap_explain.specs.Explained.{noted_by, HasNoted}
use Rattle.dap_explain.specs.PrivateWalks.{explaining, IsWalk, IsAt, IsExplained}
use Rattle.dap_explain.specs.Reasons.{reason_of}
use Rattle.dap_check.specs.ReadingLaws.{TextsHaveOneTranscript, TextsHaveOneFault, TranscriptsGrow}
use Rattle.dap_check.specs.Transcript.{IsLine, AreLines, Refuses, FirstRefused, IsRefusedIn}
use Rattle.dap_check.specs.declared.checking.CheckFault.{CheckFault}
use Rattle.dap_check.specs.declared.checking.CheckFault.TheVariants.{OutOfMemory}
use Rattle.dap_check.specs.declared.found.CheckMode.{CheckMode}
use Rattle.dap_check.specs.declared.line.Line.{Line}
use Rattle.dap_check.specs.declared.rule.Rule.{Rule}
use Rattle.dap_explain.specs.declared.reason.Reason.{Reason}
use Rattle.dap_explain.specs.declared.reasoning.ExplainedChecker.{ExplainedChecker}
use Rattle.dap_explain.proofs.Walked.{count, all_read, more, is_empty, next_refused}

-- ---- lines and their numbers

-- a line of this number
abbrev is_at : ℕ → Line → Bool
is_at number line = line.number == number

has_last : (number : ℕ) (earlier : List Line) (line : Line) → line.number ≡ number → list_any (is_at number) (earlier ++ line ∷ []) ≡ false → ⊥
has_last number [] line e none = absurd (grind (arith, nat_tests))
has_last number (x ∷ earlier) line e none = has_last number earlier line e (first_is_not (is_at number x) (list_any (is_at number) (earlier ++ line ∷ [])) none).1
  where
    first_is_not : (a b : Bool) → (a || b) ≡ false → (a ≡ false) × (b ≡ false)
    first_is_not true b e = absurd (cc e)
    first_is_not false b e = (refl, e)

-- the lines of texts before the number
none_below : (n number : ℕ) (texts : List (List ℕ)) (read : List Line) → AreLines n texts read → n + length texts ≤ number → list_any (is_at number) read ≡ false
none_below n number [] [] are few = refl
none_below n number [] (line ∷ read) are few = absurd are
none_below n number ([] ∷ texts) read are few = none_below (n + 1) number texts read are (omega (arith, few))
none_below n number ((byte ∷ bytes) ∷ texts) [] are few = absurd are
none_below n number ((byte ∷ bytes) ∷ texts) (line ∷ read) are few =
    let later = none_below (n + 1) number texts read are.1 (omega (arith, few)) in
    let here : is_at number line ≡ false = grind (arith, nat_tests, are.0.numbered) in
    ap (λ b. b || list_any (is_at number) read) here ∙ later

last_same : (xs ys : List Line) (x y : Line) → xs ++ x ∷ [] ≡ ys ++ y ∷ [] → (xs ≡ ys) × (x ≡ y)
last_same [] [] x y e = (refl, cc)
last_same [] (z ∷ ys) x y e = absurd (no_more ys y (cc e))
  where
    no_more : (zs : List Line) (z : Line) → [] ≡ zs ++ z ∷ [] → ⊥
    no_more [] z e = absurd (cc e)
    no_more (w ∷ zs) z e = absurd (cc e)
last_same (z ∷ xs) [] x y e = absurd (no_more xs x (cc e))
  where
    no_more : (zs : List Line) (z : Line) → zs ++ z ∷ [] ≡ [] → ⊥
    no_more [] z e = absurd (cc e)
    no_more (w ∷ zs) z e = absurd (cc e)
last_same (v ∷ xs) (w ∷ ys) x y e =
    let h : v ≡ w = cc in
    let rest : xs ++ x ∷ [] ≡ ys ++ y ∷ [] = cc in
    let so = last_same xs ys x y rest in
    let t = so.0 in
    (cc (h, t), so.1)

-- ---- what is answered

module _ (one : TextsHaveOneTranscript) (faults : TextsHaveOneFault) (bytes : List ℕ) (number : ℕ) (rule : Rule) where
  abbrev so_far : List (List ℕ)
  so_far = take number (lines bytes)

  pub refused_so : (result : Result (Option Reason) CheckFault) (fault : CheckFault) → result ≡ Err fault → FirstRefused so_far fault → IsExplained bytes number rule result
  refused_so result fault is refused = record {
    explains = λ earlier line are numbered. inr (is ∙ ap Err (faults.none so_far (earlier ++ line ∷ []) fault are refused));
    absent = λ transcript are none. inr (is ∙ ap Err (faults.none so_far transcript fault are refused));
    refuses = λ other says not. elim (faults.one so_far fault other refused says not) [ inl e ↦ inl (is ∙ ap Err e) | inr e ↦ inr (is ∙ ap Err e) ];
    refused = subst (λ r. IfErr r (FirstRefused so_far)) (sym is) refused;
  }

  -- the lines up to the number are these, and none has it
  pub none_so : (read : List Line) → AreLines 1 so_far read → list_any (is_at number) read ≡ false → IsExplained bytes number rule (Ok None)
  none_so read are none = record {
    explains = λ earlier line others numbered. absurd (has_last number earlier line numbered (ap (list_any (is_at number)) (one 1 so_far (earlier ++ line ∷ []) read others are) ∙ none));
    absent = λ transcript others absent. inl refl;
    refuses = λ fault says not. absurd (not (faults.none so_far read fault are says));
    refused = tt;
  }

  -- the last of them has it
  pub told_so : (read : List Line) (found : Line) → AreLines 1 so_far (read ++ found ∷ []) → found.number ≡ number → (told : Option Reason) → told ≡ reason_of rule read found → IsExplained bytes number rule (Ok told)
  told_so read found are numbered told is = record {
    explains = λ earlier line others at.
        let same = last_same read earlier found line (one 1 so_far (read ++ found ∷ []) (earlier ++ line ∷ []) are others) in
        inl (ap Ok (is ∙ ap (λ xs. reason_of rule xs found) same.0 ∙ ap (reason_of rule earlier) same.1));
    absent = λ transcript others none. absurd (has_last number read found numbered (ap (list_any (is_at number)) (one 1 so_far (read ++ found ∷ []) transcript are others) ∙ none));
    refuses = λ fault says not. absurd (not (faults.none so_far (read ++ found ∷ []) fault are says));
    refused = tt;
  }

pub told_error : (result : Result (Option Reason) CheckFault) (told : CheckFault) → IsErrAnd result (λ fault. fault ≡ told) → result ≡ Err told
told_error (Ok reason) told alike = absurd alike
told_error (Err fault) told alike = ap Err alike

-- ---- by how far the lines were read

none_in : (number : ℕ) (texts : List (List ℕ)) (read : List Line) → AreLines 1 texts read → (length texts ≡ 0) ⊎ (1 + length texts ≤ number) → list_any (is_at number) read ≡ false
none_in number [] [] are few = refl
none_in number [] (line ∷ read) are few = absurd are
none_in number (text ∷ texts) read are few = elim few [ inl none ↦ absurd (omega (arith, none)) | inr less ↦ none_below 1 number (text ∷ texts) read are less ]

module _ (one : TextsHaveOneTranscript) (faults : TextsHaveOneFault) (grows : TranscriptsGrow) (bytes rest : List ℕ) (checker : ExplainedChecker) (so : IsWalk bytes rest checker) (number : ℕ) (rule : Rule) where
  counted : noted_by checker ≡ length so.before
  counted = count bytes rest checker so

  -- the lines end before the number
  ended_so : length rest ≡ 0 → length so.before ≤ number → (length so.before ≡ 0) ⊎ (1 + length so.before ≤ number) → IsExplained bytes number rule (Ok None)
  ended_so none few less =
      let all : take number (lines bytes) ≡ so.before = ap (take number) (all_read bytes rest checker so none) ∙ take_all number so.before few in
      none_so one faults bytes number rule so.read (subst (λ texts. AreLines 1 texts so.read) (sym all) so.noted.taken.are) (none_in number so.before so.read so.noted.taken.are less)

  pub empty_so : IsAt number rest checker → length rest ≡ 0 → IsExplained bytes number rule (Ok None)
  empty_so is none = elim is.ahead [
    | inl first ↦ ended_so none (omega (arith, counted, first)) (inl (omega (arith, counted, first)))
    | inr more ↦ ended_so none (omega (arith, counted, more)) (inr (omega (arith, counted, more)))
  ]

  nothing_so : number ≡ 0 → IsExplained bytes number rule (Ok None)
  nothing_so none = none_so one faults bytes number rule [] (subst (λ n. AreLines 1 (take n (lines bytes)) []) (sym none) tt) refl

  pub past_so : IsAt number rest checker → noted_by checker + 1 ≢ number → IsExplained bytes number rule (Ok None)
  past_so is other = elim is.all [
    | inr none ↦ empty_so is none
    | inl below ↦ elim is.ahead [ inl first ↦ nothing_so (omega (arith, below, first, other)) | inr more ↦ absurd (omega (arith, below, more, other)) ]
  ]

  module _ (text later_text : List ℕ) (first_line : lines rest ≡ text ∷ lines later_text) (reached : noted_by checker + 1 ≡ number) where
    -- the lines up to the number
    just : take number (lines bytes) ≡ so.before ++ text ∷ []
    just =
        let count : length (so.before ++ text ∷ []) ≡ number = omega (arith, counted, reached, length-append so.before (text ∷ [])) in
        ap (take number) (more bytes rest checker so text later_text first_line) ∙ take_at (so.before ++ text ∷ []) (lines later_text) number count

    pub no_text_so : length text ≡ 0 → IsExplained bytes number rule (Ok None)
    no_text_so none =
        let are : AreLines 1 (so.before ++ text ∷ []) so.read = subst (λ t. AreLines 1 (so.before ++ t ∷ []) so.read) (sym (is_empty text none)) (grows.skipped 1 so.before so.read so.noted.taken.are) in
        none_so one faults bytes number rule so.read (subst (λ texts. AreLines 1 texts so.read) (sym just) are) (none_below 1 number so.before so.read so.noted.taken.are (omega (arith, counted, reached)))

    abbrev Tells : Option Reason → Type 0
    Tells told = (mode : CheckMode) (texts : List (List ℕ)) (read : List Line) → mode.whole ≡ true → HasNoted mode texts read checker → (line : Line) × IsLine (noted_by checker + 1) text line × (told ≡ reason_of rule read line)

    pub reason_so : 0 < length text → (result : Result (Option Reason) CheckFault) → IfOk result Tells → IfErr result (Refuses (noted_by checker + 1) text) → IsExplained bytes number rule result
    reason_so some (Ok told) tells says =
        let e : noted_by checker + 1 ≡ 1 + length so.before = omega (arith, counted) in
        let is = tells explaining so.before so.read refl so.noted in
        let are = grows.more 1 so.before so.read text is.0 so.noted.taken.are some (subst (λ n. IsLine n text is.0) e is.1) in
        told_so one faults bytes number rule so.read is.0 (subst (λ texts. AreLines 1 texts (so.read ++ is.0 ∷ [])) (sym just) are) (is.1.numbered ∙ reached) told is.2
    reason_so some (Err fault) tells says = refused_so one faults bytes number rule (Err fault) fault refl (next_refused bytes rest checker so text later_text first_line number fault (omega (arith, reached)) some says)

-- ---- what that says of a whole transcript

-- where a line of a transcript stands among the texts
record Placed (n : ℕ) (texts : List (List ℕ)) (earlier : List Line) (line : Line) : Type 0 where
  pub before : List (List ℕ)
  pub text : List ℕ
  pub after : List (List ℕ)
  pub split : texts ≡ before ++ text ∷ after
  pub has_bytes : 0 < length text
  pub are : AreLines n before earlier
  pub is : IsLine (n + length before) text line

placed : (n : ℕ) (texts : List (List ℕ)) (earlier : List Line) (line : Line) (later : List Line) → AreLines n texts (earlier ++ line ∷ later) → Placed n texts earlier line
placed n [] [] line later are = absurd are
placed n [] (x ∷ earlier) line later are = absurd are
placed n ([] ∷ texts) earlier line later are =
    let p = placed (n + 1) texts earlier line later are in
    let e : n + 1 + length p.before ≡ n + length ([] ∷ p.before) = omega arith in
    record { before = [] ∷ p.before; text = p.text; after = p.after; split = ap (λ z. [] ∷ z) p.split; has_bytes = p.has_bytes; are = p.are; is = subst (λ m. IsLine m p.text line) e p.is }
placed n ((byte ∷ bytes) ∷ texts) [] line later are =
    let e : n ≡ n + 0 = omega arith in
    record { before = []; text = byte ∷ bytes; after = texts; split = refl; has_bytes = omega arith; are = tt; is = subst (λ m. IsLine m (byte ∷ bytes) line) e are.0 }
placed n ((byte ∷ bytes) ∷ texts) (x ∷ earlier) line later are =
    let p = placed (n + 1) texts earlier line later are.1 in
    let e : n + 1 + length p.before ≡ n + length ((byte ∷ bytes) ∷ p.before) = omega arith in
    record { before = (byte ∷ bytes) ∷ p.before; text = p.text; after = p.after; split = ap (λ z. (byte ∷ bytes) ∷ z) p.split; has_bytes = p.has_bytes; are = (are.0, p.are); is = subst (λ m. IsLine m p.text line) e p.is }

-- the lines of the first of the texts
record FirstLines (n k number : ℕ) (texts : List (List ℕ)) : Type 0 where
  pub first : List Line
  pub are : AreLines n (take k texts) first
  pub none : list_any (is_at number) first ≡ false

either_false : (a b : Bool) → (a || b) ≡ false → (a ≡ false) × (b ≡ false)
either_false true b e = absurd (cc e)
either_false false b e = (refl, e)

first_lines : (n k number : ℕ) (texts : List (List ℕ)) (read : List Line) → AreLines n texts read → list_any (is_at number) read ≡ false → FirstLines n k number texts
first_lines n zero number texts read are none = record { first = []; are = tt; none = refl }
first_lines n (suc k) number [] [] are none = record { first = []; are = tt; none = refl }
first_lines n (suc k) number [] (line ∷ read) are none = absurd are
first_lines n (suc k) number ([] ∷ texts) read are none = let so = first_lines (n + 1) k number texts read are none in record { first = so.first; are = so.are; none = so.none }
first_lines n (suc k) number ((byte ∷ bytes) ∷ texts) [] are none = absurd are
first_lines n (suc k) number ((byte ∷ bytes) ∷ texts) (line ∷ read) are none =
    let each = either_false (is_at number line) (list_any (is_at number) read) none in
    let so = first_lines (n + 1) k number texts read are.1 each.1 in
    record { first = line ∷ so.first; are = (are.0, so.are); none = ap (λ b. b || list_any (is_at number) so.first) each.0 ∙ so.none }

module _ (grows : TranscriptsGrow) (bytes : List ℕ) (number : ℕ) (rule : Rule) (result : Result (Option Reason) CheckFault) (so : IsExplained bytes number rule result) where
  pub whole_explains : (earlier : List Line) (line : Line) (later : List Line) → AreLines 1 (lines bytes) (earlier ++ line ∷ later) → line.number ≡ number → (result ≡ Ok (reason_of rule earlier line)) ⊎ (result ≡ Err OutOfMemory)
  whole_explains earlier line later are numbered =
      let p = placed 1 (lines bytes) earlier line later are in
      let count : length (p.before ++ p.text ∷ []) ≡ number = omega (arith, p.is.numbered, numbered, length-append p.before (p.text ∷ [])) in
      let first : take number (lines bytes) ≡ p.before ++ p.text ∷ [] = ap (take number) (p.split ∙ sym (append_assoc p.before (p.text ∷ []) p.after)) ∙ take_at (p.before ++ p.text ∷ []) p.after number count in
      so.explains earlier line (subst (λ texts. AreLines 1 texts (earlier ++ line ∷ [])) (sym first) (grows.more 1 p.before earlier p.text line p.are p.has_bytes p.is)) numbered

  pub whole_absent : (transcript : List Line) → AreLines 1 (lines bytes) transcript → list_any (is_at number) transcript ≡ false → (result ≡ Ok None) ⊎ (result ≡ Err OutOfMemory)
  whole_absent transcript are none = let f = first_lines 1 number number (lines bytes) transcript are none in so.absent f.first f.are f.none

refused_whole : (bytes : List ℕ) (number : ℕ) (result : Result (Option Reason) CheckFault) → IfErr result (FirstRefused (take number (lines bytes))) → IfErr result (IsRefusedIn (lines bytes))
refused_whole bytes number (Ok reason) refused = tt
refused_whole bytes number (Err fault) refused = record {
  before = refused.before;
  text = refused.text;
  after = refused.after ++ drop number (lines bytes);
  split = sym (take-append-drop number (lines bytes)) ∙ ap (λ z. z ++ drop number (lines bytes)) refused.split ∙ append_assoc refused.before (refused.text ∷ refused.after) (drop number (lines bytes));
  has_bytes = refused.has_bytes;
  refuses = refused.refuses;
}

pub whole_refused : (bytes : List ℕ) (number : ℕ) (rule : Rule) (result : Result (Option Reason) CheckFault) → IsExplained bytes number rule result → IfErr result (IsRefusedIn (lines bytes))
whole_refused bytes number rule result so = refused_whole bytes number result so.refused
