-- What is printed of lines, one after the other, and of all of them.
use Rattle.std.proofs.Common.{◌≡◌, ℕ, ◌+◌, ◌<◌, List, [], ◌∷◌, ◌++◌, length, Bool, true, false, Option, Some, None, refl, sym, ap, ◌∙◌, subst, arith}
use Rattle.std.specs.Prelude.{◌==◌, ◌||◌, ◌&&◌, ◌↔◌, not, nat_le, count_by, take, cond, if◌then◌else◌, is_some}
use Rattle.std.proofs.lemmas.Bool.Decides.{nat_tests}
use Rattle.std.proofs.lemmas.Grind.{flat_map-append}
use Rattle.std.proofs.lemmas.List.{append_assoc, append-nil, length-append}
use Rattle.std.proofs.lemmas.List.Sums.{sum_by_push}
use Rattle.dap_check.specs.Checking.{is_of_body, IsBroken}
use Rattle.dap_check.specs.Findings.{open_requests}
use Rattle.dap_check.specs.Legal.{least_broken, IsLegal}
use Rattle.dap_check.specs.Lines.{same_side, is_of}
use Rattle.dap_check.specs.declared.found.Broken.{Broken}
use Rattle.dap_check.specs.declared.found.Broken.TheVariants.{Rule as OfRule, Body as OfBody}
use Rattle.dap_check.specs.declared.line.Line.{Line}
use Rattle.dap_check.specs.declared.line.Side.{Side}
use Rattle.dap_check.specs.declared.line.Side.TheVariants.{Client, Adapter}
use Rattle.dap_check.specs.declared.rule.AnySeq.{AnySeq}
use Rattle.dap_check.specs.declared.rule.Rule.{Rule}
use Rattle.dap_explain.specs.Explained.{IsTold, reason_in}
use Rattle.dap_explain.specs.Reasons.{reason_of}
use Rattle.dap_explain.specs.Sentences.{joined_text}
use Rattle.dap_explain.specs.declared.reason.Reason.{Reason}
use Rattle.dap_explain.specs.declared.told.LineTold.{LineTold}
use Rattle.dap_shape.specs.Faults.{fault_in}
use Rattle.dap_shape.specs.Seen.{fault_seen}
use Rattle.dap_shape.specs.Shapes.{Fault}
use Rattle.dap_tool.specs.Hints.{is_rule_1, each_breaks, hint_text, hint_if, numbers_itself}
use Rattle.dap_tool.specs.PrivateListed.{mode_of, IsGivenFor, text_told, breaks_rule_1, AreSide, IsPrinted}
use Rattle.dap_tool.specs.Verdicts.{text_of_finding, text_of_why, text_of_fault, texts_of_body, text_if, texts_after, texts_of, closing_text, findings_text, open_text, text_of_verdict, has_fault}
use Rattle.dap_tool.specs.declared.listing.Listing.{Listing}
use Rattle.dap_tool.specs.declared.numbering.SideNumbers.{SideNumbers}
use Rattle.dap_tool.specs.declared.verdict.CheckOptions.{CheckOptions}

-- ---- of a line, by what was found of it

abbrev texts_told : Bool → ℕ → Option Reason → Line → Option Broken → List (List ℕ)
texts_told explained number reason line broken = if is_some broken then text_told explained number reason line broken ∷ [] else []

joined_told : (explained : Bool) (number : ℕ) (reason : Option Reason) (line : Line) (broken : Option Broken) → joined_text (texts_told explained number reason line broken) ≡ text_told explained number reason line broken
joined_told explained number reason line None = refl
joined_told explained number reason line (Some broken) = append-nil (text_told explained number reason line (Some broken))

module _ (options : CheckOptions) (earlier : List Line) (line : Line) where
  abbrev texts_here : List (List ℕ)
  texts_here = text_if options.explained options.bodies earlier line (least_broken options.any_seq earlier line)

  sound_here : (bodies : Bool) → (bodies ≡ true → fault_in line.message.kind ≡ None) → text_if options.explained bodies earlier line None ≡ []
  sound_here true sound = ap (texts_of_body options.explained line.number line.message.kind) (sound refl)
  sound_here false sound = refl

  why_so : (explained : Bool) (reason : Option Reason) → (if explained then text_of_why reason else []) ≡ text_of_why (if explained then reason else None)
  why_so true reason = refl
  why_so false reason = refl

  told_by : (broken : Option Broken) → IsBroken (mode_of options) earlier line broken → (number : ℕ) → number ≡ line.number → (reason : Option Reason) → reason ≡ (if options.explained then reason_in broken earlier line else None)
      → texts_here ≡ texts_told options.explained number reason line broken
  told_by None is number numbered reason why = ap (text_if options.explained options.bodies earlier line) is.0 ∙ sound_here options.bodies is.1
  told_by (Some (OfRule rule)) is number numbered reason why =
      ap (text_if options.explained options.bodies earlier line) is
      ∙ ap (λ z. (text_of_finding line.number rule ++ z) ∷ []) (why_so options.explained (reason_of rule earlier line) ∙ ap text_of_why (sym why))
      ∙ ap (λ n. (text_of_finding n rule ++ text_of_why reason) ∷ []) (sym numbered)
  told_by (Some (OfBody fault)) is number numbered reason why =
      ap (text_if options.explained options.bodies earlier line) is.0
      ∙ ap (λ b. text_if options.explained b earlier line None) is.1
      ∙ ap (texts_of_body options.explained line.number line.message.kind) is.2
      ∙ ap (λ n. text_of_fault options.explained n line.message.kind (fault_seen fault) ∷ []) (sym numbered)

  told_texts : (told : LineTold) → IsTold (mode_of options) earlier line told → texts_here ≡ texts_told options.explained told.found.number told.reason line told.found.broken
  told_texts told is = told_by told.found.broken is.found.broken told.found.number is.found.numbered told.reason is.reason

  pub given : (told : LineTold) → IsTold (mode_of options) earlier line told → IsGivenFor line told.found
  given told is of_body = is.found.given_back ∙ given_by options.explained (is_of_body told.found.broken) of_body
    where
      given_by : (whole body : Bool) → body ≡ true → (if whole || body then Some line else None) ≡ Some line
      given_by true body e = refl
      given_by false true e = refl
      given_by false false e = absurd (cc e)

  -- as many as it breaks rules
  told_count : (explained : Bool) (number : ℕ) (reason : Option Reason) (broken : Option Broken) → length (texts_told explained number reason line broken) ≡ (if is_some broken then 1 else 0)
  told_count explained number reason None = refl
  told_count explained number reason (Some broken) = refl

  rule_1_by : (broken : Option Broken) → IsBroken (mode_of options) earlier line broken → breaks_rule_1 broken ≡ is_rule_1 (least_broken options.any_seq earlier line)
  rule_1_by None is = sym (ap is_rule_1 is.0)
  rule_1_by (Some (OfRule rule)) is = sym (ap is_rule_1 is)
  rule_1_by (Some (OfBody fault)) is = sym (ap is_rule_1 is.0)

-- ---- one line more

module _ (any_seq : AnySeq) (explained bodies : Bool) where
  texts_push_after : (earlier lines : List Line) (line : Line)
      → texts_after any_seq explained bodies earlier (lines ++ line ∷ []) ≡ texts_after any_seq explained bodies earlier lines ++ text_if explained bodies (earlier ++ lines) line (least_broken any_seq (earlier ++ lines) line)
  texts_push_after earlier [] line =
      append-nil (text_if explained bodies earlier line (least_broken any_seq earlier line)) ∙ ap (λ z. text_if explained bodies z line (least_broken any_seq z line)) (sym (append-nil earlier))
  texts_push_after earlier (first ∷ lines) line =
      let one = text_if explained bodies earlier first (least_broken any_seq earlier first) in
      ap (λ z. one ++ z)
      (texts_push_after (earlier ++ first ∷ []) lines line
      ∙ ap (λ z. texts_after any_seq explained bodies (earlier ++ first ∷ []) lines ++ text_if explained bodies z line (least_broken any_seq z line)) (append_assoc earlier (first ∷ []) lines))
      ∙ sym (append_assoc one (texts_after any_seq explained bodies (earlier ++ first ∷ []) lines) (text_if explained bodies (earlier ++ first ∷ lines) line (least_broken any_seq (earlier ++ first ∷ lines) line)))

  texts_push : (before : List Line) (line : Line) → texts_of any_seq explained bodies (before ++ line ∷ []) ≡ texts_of any_seq explained bodies before ++ text_if explained bodies before line (least_broken any_seq before line)
  texts_push before line = texts_push_after [] before line

-- all of them, or the first
abbrev Shown : Bool → List (List ℕ) → List ℕ
Shown all texts = joined_text (if all then texts else take 1 texts)

shown_by : (all first : Bool) (texts told : List (List ℕ)) → first ≡ (length texts == 0) → length told < 2 → Shown all (texts ++ told) ≡ (if all || first then Shown all texts ++ joined_text told else Shown all texts)
shown_by true first texts told is few = flat_map-append (λ text. text) texts told
shown_by false first [] [] is few = ap (λ b. if b then [] else []) (sym is)
shown_by false first [] (text ∷ []) is few = ap (λ b. if b then joined_text (text ∷ []) else []) (sym is)
shown_by false first [] (text ∷ other ∷ told) is few = absurd (omega (arith, few))
shown_by false first (text ∷ texts) told is few =
    let no : (length (text ∷ texts) == 0) ≡ false = grind (arith, nat_tests) in
    ap (λ b. if b then Shown false (text ∷ texts) ++ joined_text told else Shown false (text ∷ texts)) (sym (is ∙ no))

and_end : (b : Bool) → (b && true) ≡ b
and_end true = refl
and_end false = refl

and_assoc : (a b c : Bool) → (a && (b && c)) ≡ ((a && b) && c)
and_assoc true b c = refl
and_assoc false b c = refl

module _ (any_seq : AnySeq) (side : Side) where
  each_push : (earlier lines : List Line) (line : Line) → each_breaks any_seq side earlier (lines ++ line ∷ []) ≡ (each_breaks any_seq side earlier lines && (not (is_of side line) || is_rule_1 (least_broken any_seq (earlier ++ lines) line)))
  each_push earlier [] line = and_end (not (is_of side line) || is_rule_1 (least_broken any_seq earlier line)) ∙ ap (λ z. not (is_of side line) || is_rule_1 (least_broken any_seq z line)) (sym (append-nil earlier))
  each_push earlier (first ∷ lines) line =
      let one = not (is_of side first) || is_rule_1 (least_broken any_seq earlier first) in
      ap (λ b. one && b)
      (each_push (earlier ++ first ∷ []) lines line
      ∙ ap (λ z. each_breaks any_seq side (earlier ++ first ∷ []) lines && (not (is_of side line) || is_rule_1 (least_broken any_seq z line))) (append_assoc earlier (first ∷ []) lines))
      ∙ and_assoc one (each_breaks any_seq side (earlier ++ first ∷ []) lines) (not (is_of side line) || is_rule_1 (least_broken any_seq (earlier ++ first ∷ lines) line))

  counted : (b : Bool) (n : ℕ) → n + cond b 1 0 ≡ cond b (n + 1) n
  counted true n = refl
  counted false n = omega arith

  abbrev pub after_by : Bool → Bool → SideNumbers → SideNumbers
  after_by is_its breaks numbers = if is_its then record { count = numbers.count + 1; each_breaks = numbers.each_breaks && breaks } else numbers

  step_count : (is_its breaks : Bool) (numbers : SideNumbers) → (after_by is_its breaks numbers).count ≡ cond is_its (numbers.count + 1) numbers.count
  step_count true breaks numbers = refl
  step_count false breaks numbers = refl

  pub side_few : (is_its breaks : Bool) (numbers new : SideNumbers) (n : ℕ) → new ≡ after_by is_its breaks numbers → numbers.count < n → new.count < n + 1
  side_few true breaks numbers new n e less = let one = ap (λ (x : SideNumbers). x.count) e in omega (arith, one, less)
  side_few false breaks numbers new n e less = let same = ap (λ (x : SideNumbers). x.count) e in omega (arith, same, less)

  step_each : (is_its breaks : Bool) (numbers : SideNumbers) → (after_by is_its breaks numbers).each_breaks ≡ (numbers.each_breaks && (not is_its || breaks))
  step_each true breaks numbers = refl
  step_each false breaks numbers = sym (and_end numbers.each_breaks)

  side_later : (lines : List Line) (line : Line) (numbers new : SideNumbers) → new ≡ after_by (is_of side line) (is_rule_1 (least_broken any_seq lines line)) numbers → AreSide any_seq side lines numbers → AreSide any_seq side (lines ++ line ∷ []) new
  side_later lines line numbers new e is = record {
    count =
        ap (λ (x : SideNumbers). x.count) e ∙ step_count (is_of side line) (is_rule_1 (least_broken any_seq lines line)) numbers
        ∙ ap (λ n. cond (is_of side line) (n + 1) n) is.count ∙ sym (counted (is_of side line) (count_by (is_of side) lines)) ∙ sym (sum_by_push (λ x. cond (is_of side x) 1 0) lines line);
    each =
        ap (λ (x : SideNumbers). x.each_breaks) e ∙ step_each (is_of side line) (is_rule_1 (least_broken any_seq lines line)) numbers
        ∙ ap (λ b. b && (not (is_of side line) || is_rule_1 (least_broken any_seq lines line))) is.each ∙ sym (each_push [] lines line);
  }

pub count_few : (b : Bool) (old new n : ℕ) → new ≡ (if b then old + 1 else old) → old < n → new < n + 1
count_few true old new n e less = omega (arith, e, less)
count_few false old new n e less = omega (arith, e, less)

-- what is printed, one line later
module _ (options : CheckOptions) (lines : List Line) (line : Line) (told : LineTold) (is : IsTold (mode_of options) lines line told) (old new : Listing) (so : IsPrinted options lines old) where
  abbrev so_far : List (List ℕ)
  so_far = texts_of options.any_seq options.explained options.bodies lines

  abbrev of_line : List (List ℕ)
  of_line = texts_told options.explained told.found.number told.reason line told.found.broken

  pushed : texts_of options.any_seq options.explained options.bodies (lines ++ line ∷ []) ≡ so_far ++ of_line
  pushed = texts_push options.any_seq options.explained options.bodies lines line ∙ ap (λ z. so_far ++ z) (told_texts options lines line told is)

  one : length of_line ≡ (if is_some told.found.broken then 1 else 0)
  one = told_count options lines line options.explained told.found.number told.reason told.found.broken

  side_so : (side : Side) (numbers after : SideNumbers) → AreSide options.any_seq side lines numbers → after ≡ after_by options.any_seq side (same_side side told.found.side) (breaks_rule_1 told.found.broken) numbers → AreSide options.any_seq side (lines ++ line ∷ []) after
  side_so side numbers after are e =
      side_later options.any_seq side lines line numbers after
      (e
      ∙ ap (λ s. after_by options.any_seq side (same_side side s) (breaks_rule_1 told.found.broken) numbers) is.found.side
      ∙ ap (λ b. after_by options.any_seq side (is_of side line) b numbers) (rule_1_by options lines line told.found.broken is.found.broken))
      are

  pub printed_more : new.text.items ≡ (if options.all || (old.count == 0) then old.text.items ++ text_told options.explained told.found.number told.reason line told.found.broken else old.text.items) → new.count ≡ (if is_some told.found.broken then old.count + 1 else old.count)
      → new.client ≡ after_by options.any_seq Client (same_side Client told.found.side) (breaks_rule_1 told.found.broken) old.client → new.adapter ≡ after_by options.any_seq Adapter (same_side Adapter told.found.side) (breaks_rule_1 told.found.broken) old.adapter
      → IsPrinted options (lines ++ line ∷ []) new
  printed_more text count client adapter =
      let few : length of_line < 2 = at_most_one (is_some told.found.broken) (length of_line) one in
      record {
        text =
            text
            ∙ ap (λ z. if options.all || (old.count == 0) then old.text.items ++ z else old.text.items) (sym (joined_told options.explained told.found.number told.reason line told.found.broken))
            ∙ ap (λ z. if options.all || (old.count == 0) then z ++ joined_text of_line else z) so.text
            ∙ sym (shown_by options.all (old.count == 0) so_far of_line (ap (λ n. n == 0) so.count) few)
            ∙ ap (Shown options.all) (sym pushed);
        count = count ∙ count_so (is_some told.found.broken) old.count (length of_line) one ∙ ap (λ n. n + length of_line) so.count ∙ sym (length-append so_far of_line) ∙ ap length (sym pushed);
        client = side_so Client old.client new.client so.client client;
        adapter = side_so Adapter old.adapter new.adapter so.adapter adapter;
      }
    where
      at_most_one : (b : Bool) (n : ℕ) → n ≡ (if b then 1 else 0) → n < 2
      at_most_one true n e = omega (arith, e)
      at_most_one false n e = omega (arith, e)

      count_so : (b : Bool) (k n : ℕ) → n ≡ (if b then 1 else 0) → (if b then k + 1 else k) ≡ k + n
      count_so true k n e = omega (arith, e)
      count_so false k n e = omega (arith, e)

-- ---- before the first line

no_side : (any_seq : AnySeq) (side : Side) (numbers : SideNumbers) → numbers ≡ record { count = 0; each_breaks = true } → AreSide any_seq side [] numbers
no_side any_seq side numbers e = record { count = ap (λ (x : SideNumbers). x.count) e; each = ap (λ (x : SideNumbers). x.each_breaks) e }

none_shown : (all : Bool) → [] ≡ Shown all []
none_shown true = refl
none_shown false = refl

pub nothing_printed : (options : CheckOptions) (listing : Listing) → listing.text.items ≡ [] → listing.count ≡ 0 → listing.client ≡ record { count = 0; each_breaks = true } → listing.adapter ≡ record { count = 0; each_breaks = true } → IsPrinted options [] listing
nothing_printed options listing text count client adapter = record { text = text ∙ none_shown options.all; count = count; client = no_side options.any_seq Client listing.client client; adapter = no_side options.any_seq Adapter listing.adapter adapter }

-- ---- none breaks a rule

module _ (any_seq : AnySeq) (explained bodies : Bool) where
  -- none of these, which stand after the earlier ones, breaks one of the seven
  abbrev Keeps : List Line → List Line → Type 0
  Keeps earlier lines = (before : List Line) (line : Line) (later : List Line) → lines ≡ before ++ line ∷ later → least_broken any_seq (earlier ++ before) line ≡ None

  keeps_none : (earlier : List Line) → Keeps earlier []
  keeps_none earlier [] line later e = absurd (cc e)
  keeps_none earlier (x ∷ before) line later e = absurd (cc e)

  keeps_more : (earlier : List Line) (x : Line) (lines : List Line) → least_broken any_seq earlier x ≡ None → Keeps (earlier ++ x ∷ []) lines → Keeps earlier (x ∷ lines)
  keeps_more earlier x lines least keeps [] line later e = let same : x ≡ line = cc e in ap (λ z. least_broken any_seq z line) (append-nil earlier) ∙ ap (least_broken any_seq earlier) (sym same) ∙ least
  keeps_more earlier x lines least keeps (y ∷ before) line later e =
      let same : x ≡ y = cc e in
      let rest : lines ≡ before ++ line ∷ later = cc e in
      ap (λ z. least_broken any_seq z line) (ap (λ z. earlier ++ z ∷ before) (sym same) ∙ sym (append_assoc earlier (x ∷ []) before)) ∙ keeps before line later rest

  keeps_first : (earlier : List Line) (x : Line) (lines : List Line) → Keeps earlier (x ∷ lines) → least_broken any_seq earlier x ≡ None
  keeps_first earlier x lines keeps = ap (λ z. least_broken any_seq z x) (sym (append-nil earlier)) ∙ keeps [] x lines refl

  keeps_later : (earlier : List Line) (x : Line) (lines : List Line) → Keeps earlier (x ∷ lines) → Keeps (earlier ++ x ∷ []) lines
  keeps_later earlier x lines keeps before line later e = ap (λ z. least_broken any_seq z line) (append_assoc earlier (x ∷ []) before) ∙ keeps (x ∷ before) line later (ap (λ z. x ∷ z) e)

  abbrev has_no_fault : List Line → Type 0
  has_no_fault lines = (bodies && has_fault lines) ≡ false

  both : (b first rest : Bool) → (b && first) ≡ false → (b && rest) ≡ false → (b && (first || rest)) ≡ false
  both true true rest f r = f
  both true false rest f r = r
  both false first rest f r = refl

  first_of : (b first rest : Bool) → (b && (first || rest)) ≡ false → (b && first) ≡ false
  first_of true true rest e = e
  first_of true false rest e = refl
  first_of false first rest e = refl

  rest_of : (b first rest : Bool) → (b && (first || rest)) ≡ false → (b && rest) ≡ false
  rest_of true true rest e = absurd (cc e)
  rest_of true false rest e = e
  rest_of false first rest e = refl

  quiet_body : (b : Bool) (line : Line) (fault : Option Fault) → length (if b then texts_of_body explained line.number line.message.kind fault else []) ≡ 0 → (b && is_some fault) ≡ false
  quiet_body true line None none = refl
  quiet_body true line (Some fault) none = absurd (omega (arith, none))
  quiet_body false line fault none = refl

  quiet_here : (earlier : List Line) (line : Line) (broken : Option Rule) → length (text_if explained bodies earlier line broken) ≡ 0 → (broken ≡ None) × ((bodies && is_some (fault_in line.message.kind)) ≡ false)
  quiet_here earlier line None none = (refl, quiet_body bodies line (fault_in line.message.kind) none)
  quiet_here earlier line (Some rule) none = absurd (omega (arith, none))

  none_of : (b : Bool) (line : Line) (fault : Option Fault) → (b && is_some fault) ≡ false → length (if b then texts_of_body explained line.number line.message.kind fault else []) ≡ 0
  none_of true line None sound = refl
  none_of true line (Some fault) sound = absurd (cc sound)
  none_of false line fault sound = refl

  pub quiet : (earlier lines : List Line) → length (texts_after any_seq explained bodies earlier lines) ≡ 0 → Keeps earlier lines × has_no_fault lines
  quiet earlier [] none = (keeps_none earlier, no_fault bodies)
    where
      no_fault : (b : Bool) → (b && false) ≡ false
      no_fault true = refl
      no_fault false = refl
  quiet earlier (line ∷ later) none =
      let here = text_if explained bodies earlier line (least_broken any_seq earlier line) in
      let rest = texts_after any_seq explained bodies (earlier ++ line ∷ []) later in
      let split = length-append here rest in
      let first = quiet_here earlier line (least_broken any_seq earlier line) (omega (arith, split, none)) in
      let more = quiet (earlier ++ line ∷ []) later (omega (arith, split, none)) in
      (keeps_more earlier line later first.0 more.0, both bodies (is_some (fault_in line.message.kind)) (has_fault later) first.1 more.1)

  pub none_printed : (earlier lines : List Line) → Keeps earlier lines → has_no_fault lines → length (texts_after any_seq explained bodies earlier lines) ≡ 0
  none_printed earlier [] keeps sound = refl
  none_printed earlier (line ∷ later) keeps sound =
      let here = text_if explained bodies earlier line (least_broken any_seq earlier line) in
      let rest = texts_after any_seq explained bodies (earlier ++ line ∷ []) later in
      let first : length here ≡ 0 =
      ap (λ o. length (text_if explained bodies earlier line o)) (keeps_first earlier line later keeps) ∙ none_of bodies line (fault_in line.message.kind) (first_of bodies (is_some (fault_in line.message.kind)) (has_fault later) sound) in
      let more = none_printed (earlier ++ line ∷ []) later (keeps_later earlier line later keeps) (rest_of bodies (is_some (fault_in line.message.kind)) (has_fault later) sound) in
      omega (arith, length-append here rest, first, more)

-- ---- all lines

module _ (options : CheckOptions) (lines : List Line) (listing : Listing) (so : IsPrinted options lines listing) where
  pub legal_so : (is_legal : Bool) → is_legal ≡ (listing.count == 0) → (is_legal ≡ true) ↔ (IsLegal options.any_seq lines × ((options.bodies && has_fault lines) ≡ false))
  legal_so is_legal test = (
    λ yes.
        let none : listing.count ≡ 0 = grind (arith, nat_tests) in
        quiet options.any_seq options.explained options.bodies [] lines (sym so.count ∙ none),
    λ both.
        let none : listing.count ≡ 0 = so.count ∙ none_printed options.any_seq options.explained options.bodies [] lines both.0 both.1 in
        grind (arith, nat_tests),
  )

  own_so : (side : Side) (numbers : SideNumbers) → AreSide options.any_seq side lines numbers → (nat_le 2 numbers.count && numbers.each_breaks) ≡ numbers_itself options.any_seq lines side
  own_so side numbers is = ap (λ n. nat_le 2 n && numbers.each_breaks) is.count ∙ ap (λ b. nat_le 2 (count_by (is_of side) lines) && b) is.each

  abbrev hint_by : Bool → Bool → List ℕ
  hint_by client adapter = if options.explained then hint_text client adapter else []

  pub text_so : (counted hinted all : List ℕ) → counted ≡ listing.text.items ++ closing_text options.all listing.count → hinted ≡ counted ++ hint_by (nat_le 2 listing.client.count && listing.client.each_breaks) (nat_le 2 listing.adapter.count && listing.adapter.each_breaks)
      → all ≡ hinted ++ open_text options.unanswered options.explained (open_requests lines) → all ≡ text_of_verdict options lines
  text_so counted hinted all is_counted is_hinted is_all =
      let texts = texts_of options.any_seq options.explained options.bodies lines in
      let unanswered = open_text options.unanswered options.explained (open_requests lines) in
      let closed : counted ≡ findings_text options.all texts = is_counted ∙ ap (λ z. z ++ closing_text options.all listing.count) so.text ∙ ap (λ n. Shown options.all texts ++ closing_text options.all n) so.count in
      let hint : hint_by (nat_le 2 listing.client.count && listing.client.each_breaks) (nat_le 2 listing.adapter.count && listing.adapter.each_breaks) ≡ hint_if options.explained options.any_seq lines =
      ap (λ b. hint_by b (nat_le 2 listing.adapter.count && listing.adapter.each_breaks)) (own_so Client listing.client so.client) ∙ ap (hint_by (numbers_itself options.any_seq lines Client)) (own_so Adapter listing.adapter so.adapter) in
      is_all ∙ ap (λ z. z ++ unanswered) (is_hinted ∙ ap (λ z. z ++ hint_by (nat_le 2 listing.client.count && listing.client.each_breaks) (nat_le 2 listing.adapter.count && listing.adapter.each_breaks)) closed ∙ ap (λ z. findings_text options.all texts ++ z) hint)
