-- The way to an end: what is written behind it, a piece that makes no frame whole, and one that does.
use Rattle.std.proofs.Common.{◌≡◌, ℕ, ◌+◌, List, [], ◌∷◌, ◌++◌, length, map, take, drop, refl, sym, ap, ◌∙◌, subst, append_assoc, append-nil, arith, length-append, filter, Bool, true, false}
use Rattle.std.specs.Prelude.{if◌then◌else◌}
use Rattle.std.specs.List.{AllByRecursion}
use Rattle.std.proofs.lemmas.List.{map-append, length-map, take-append-drop}
use Rattle.dap_check.specs.Lines.{same_side}
use Rattle.dap_check.specs.declared.line.Side.{Side}
use Rattle.dap_check.specs.declared.line.Side.TheVariants.{Client, Adapter}
use Rattle.dap_frame.specs.Feeds.{Gathers}
use Rattle.dap_frame.specs.Intake.{Intake, StandsFor}
use Rattle.dap_frame.specs.Laws.{EachStreamHasOneSplit}
use Rattle.dap_frame.specs.Settings.{Settings, AreInRange, bounds_of}
use Rattle.dap_frame.specs.Stream.{FramesThen, NoFrame, Split}
use Rattle.dap_frame.specs.Written.{frame_of}
use Rattle.dap_frame.specs.declared.limits.Bounds.{Bounds}
use Rattle.dap_history.specs.Pieces.{Whole}
use Rattle.dap_envelope.specs.Canon.{canon}
use Rattle.dap_envelope.specs.Meaning.{Msg}
use Rattle.dap_envelope.specs.ReadBack.{ReadsBack, AllReadBack}
use Rattle.dap_envelope.specs.declared.message.Message.{Message}
use Rattle.dap_outbox.specs.Draft.{bytes_of}
use Rattle.dap_world.specs.Moves.{MovesInOrder, IsWay}
use Rattle.dap_world.specs.World.{Said, said_by}
use Rattle.dap_ways.specs.ByteWorld.{WrittenByte, bytes_by, written_bytes}
use Rattle.dap_ways.specs.Carried.{messages_by, AreUnderWay}

-- ---- lists

pub all-append : {A : Type 0} (P : A → Type 0) (xs ys : List A) → AllByRecursion P xs → AllByRecursion P ys → AllByRecursion P (xs ++ ys)
all-append P [] ys h g = g
all-append P (x ∷ xs) ys h g = (h.0, all-append P xs ys h.1 g)

bytes-append : (xs ys : List Message) → bytes_of (xs ++ ys) ≡ bytes_of xs ++ bytes_of ys
bytes-append [] ys = refl
bytes-append (x ∷ xs) ys = ap (λ (z : List ℕ). frame_of (canon x) ++ z) (bytes-append xs ys) ∙ sym (append_assoc (frame_of (canon x)) (bytes_of xs) (bytes_of ys))

pub bytes-one : (m : Message) → frame_of (canon m) ≡ bytes_of (m ∷ [])
bytes-one m = sym (append-nil (frame_of (canon m)))

-- two ways to cut one list, with fronts of one length
pub record SameCut {A : Type 0} (a b c d : List A) : Type 0 where
  pub front : a ≡ c
  pub back : b ≡ d

same-cons : {A : Type 0} (x : A) (a b c d : List A) → SameCut a b c d → SameCut (x ∷ a) b (x ∷ c) d
same-cons x a b c d s = record { front = ap (λ z. x ∷ z) s.front; back = s.back }

pub same-cut : {A : Type 0} (a b c d : List A) → a ++ b ≡ c ++ d → length a ≡ length c → SameCut a b c d
same-cut [] b [] d e l = record { front = refl; back = e }
same-cut [] b (y ∷ c) d e l = absurd (omega (arith, l))
same-cut (x ∷ a) b [] d e l = absurd (omega (arith, l))
same-cut (x ∷ a) b (y ∷ c) d e l =
    let head : x ≡ y = cc in
    let rest : a ++ b ≡ c ++ d = cc in
    let short : length a ≡ length c = omega (arith, l) in
    subst (λ z. SameCut (x ∷ a) b (z ∷ c) d) head (same-cons x a b c d (same-cut a b c d rest short))

-- ---- what was written

by-append : (side : Side) (xs ys : List ℕ) → bytes_by side (xs ++ ys) ≡ bytes_by side xs ++ bytes_by side ys
by-append side xs ys = map-append (λ (b : ℕ). let w : WrittenByte = record { side = side; byte = b } in w) xs ys

said-bytes : (side : Side) (ms : List Message) → written_bytes (said_by side ms) ≡ bytes_by side (bytes_of ms)
said-bytes side [] = refl
said-bytes side (m ∷ ms) = ap (λ (z : List WrittenByte). bytes_by side (frame_of (canon m)) ++ z) (said-bytes side ms) ∙ sym (by-append side (frame_of (canon m)) (bytes_of ms))

said-append : (xs ys : List Said) → written_bytes (xs ++ ys) ≡ written_bytes xs ++ written_bytes ys
said-append [] ys = refl
said-append (x ∷ xs) ys = ap (λ (z : List WrittenByte). bytes_by x.side (frame_of (canon x.message)) ++ z) (said-append xs ys) ∙ sym (append_assoc (bytes_by x.side (frame_of (canon x.message))) (written_bytes xs) (written_bytes ys))

-- what is written of more messages is theirs
pub written-more : (written : List WrittenByte) (said : List Said) (side : Side) (ms : List Message) (bytes : List ℕ) → written ≡ written_bytes said → bytes ≡ bytes_of ms → written ++ bytes_by side bytes ≡ written_bytes (said ++ said_by side ms)
written-more written said side ms bytes h e =
    ap (λ (z : List WrittenByte). z ++ bytes_by side bytes) h
    ∙ (ap (λ (z : List ℕ). written_bytes said ++ bytes_by side z) e
    ∙ (ap (λ (z : List WrittenByte). written_bytes said ++ z) (sym (said-bytes side ms)) ∙ sym (said-append said (said_by side ms))))

-- ---- what one side said

more-if : (b : Bool) (x : Said) (xs : List Said) (ms : List Message) (zs : List Said) → map (λ (y : Said). y.message) zs ≡ map (λ (y : Said). y.message) xs ++ ms → map (λ (y : Said). y.message) (if b then x ∷ zs else zs) ≡ map (λ (y : Said). y.message) (if b then x ∷ xs else xs) ++ ms
more-if true x xs ms zs e = ap (λ (z : List Message). x.message ∷ z) e
more-if false x xs ms zs e = e

by-more : (side : Side) (xs ys : List Said) → messages_by side (xs ++ ys) ≡ messages_by side xs ++ messages_by side ys
by-more side [] ys = refl
by-more side (x ∷ xs) ys = more-if (same_side side x.side) x (filter (λ (y : Said). same_side side y.side) xs) (messages_by side ys) (filter (λ (y : Said). same_side side y.side) (xs ++ ys)) (by-more side xs ys)

own-said : (ms : List Message) → (messages_by Client (said_by Client ms) ≡ ms) × (messages_by Adapter (said_by Adapter ms) ≡ ms)
own-said [] = (refl, refl)
own-said (m ∷ ms) = let ih = own-said ms in (ap (λ (z : List Message). m ∷ z) ih.0, ap (λ (z : List Message). m ∷ z) ih.1)

other-said : (ms : List Message) → (messages_by Client (said_by Adapter ms) ≡ []) × (messages_by Adapter (said_by Client ms) ≡ [])
other-said [] = (refl, refl)
other-said (m ∷ ms) = other-said ms

-- more that one side said, of each side
pub by-client : (said : List Said) (ms : List Message) → (messages_by Client (said ++ said_by Client ms) ≡ messages_by Client said ++ ms) × (messages_by Adapter (said ++ said_by Client ms) ≡ messages_by Adapter said)
by-client said ms = (
  by-more Client said (said_by Client ms) ∙ ap (λ (z : List Message). messages_by Client said ++ z) (own-said ms).0,
  by-more Adapter said (said_by Client ms) ∙ (ap (λ (z : List Message). messages_by Adapter said ++ z) (other-said ms).1 ∙ append-nil (messages_by Adapter said)),
)

pub by-adapter : (said : List Said) (ms : List Message) → (messages_by Adapter (said ++ said_by Adapter ms) ≡ messages_by Adapter said ++ ms) × (messages_by Client (said ++ said_by Adapter ms) ≡ messages_by Client said)
by-adapter said ms = (
  by-more Adapter said (said_by Adapter ms) ∙ ap (λ (z : List Message). messages_by Adapter said ++ z) (own-said ms).1,
  by-more Client said (said_by Adapter ms) ∙ (ap (λ (z : List Message). messages_by Client said ++ z) (other-said ms).0 ∙ append-nil (messages_by Client said)),
)

-- ---- a way

-- nothing is under way to a fresh end
pub carries-none : (limits : Settings) (i : Intake) (bodies : List (List ℕ)) (rest : List ℕ) → i.bounds ≡ bounds_of limits → StandsFor i [] bodies rest → bodies ≡ [] → AreUnderWay limits i [] [] [] []
carries-none limits i bodies rest b st none =
    record {
      bodies = bodies;
      rest = rest;
      way = record { bounds = b; stands = st; reads_back = tt; bytes = refl };
      whole = none;
    }

-- more is written behind
pub carries-more : (limits : Settings) (i : Intake) (s later : List ℕ) (came ms : List Message) (more : List Message) (bytes : List ℕ) → bytes ≡ bytes_of more → AllReadBack limits.body more → AreUnderWay limits i s later came ms → AreUnderWay limits i s (later ++ bytes) came (ms ++ more)
carries-more limits i s later came ms more bytes e h c =
    let w = c.way in
    let joined : s ++ (later ++ bytes) ≡ bytes_of ((came ++ ms) ++ more) =
    sym (append_assoc s later bytes) ∙ (ap (λ (z : List ℕ). z ++ bytes) w.bytes ∙ (ap (λ (z : List ℕ). bytes_of (came ++ ms) ++ z) e ∙ sym (bytes-append (came ++ ms) more))) in
    let way : IsWay limits i s c.bodies c.rest (later ++ bytes) ((came ++ ms) ++ more) =
    record { bounds = w.bounds; stands = w.stands; reads_back = all-append (ReadsBack limits.body) (came ++ ms) more w.reads_back h; bytes = joined } in
    record {
      bodies = c.bodies;
      rest = c.rest;
      way = subst (λ (z : List Message). IsWay limits i s c.bodies c.rest (later ++ bytes) z) (append_assoc came ms more) way;
      whole = c.whole;
    }

-- a piece cut after its first bytes, behind what came
moved : (s piece tail later : List ℕ) (n : ℕ) → later ≡ piece ++ tail → (s ++ take n piece) ++ (drop n piece ++ tail) ≡ s ++ later
moved s piece tail later n e =
    append_assoc s (take n piece) (drop n piece ++ tail) ∙ ap (λ (z : List ℕ). s ++ z) (sym (append_assoc (take n piece) (drop n piece) tail) ∙ (ap (λ (z : List ℕ). z ++ tail) (take-append-drop n piece) ∙ sym e))

drop-all : (xs : List ℕ) → drop (length xs) xs ≡ []
drop-all [] = refl
drop-all (x ∷ xs) = drop-all xs

-- a piece makes no frame whole
pub carries-gathered : (limits : Settings) (i j : Intake) (s later piece tail : List ℕ) (came ms : List Message) (n : ℕ) → later ≡ piece ++ tail → Gathers i j piece n → AreUnderWay limits i s later came ms → AreUnderWay limits j (s ++ piece) (drop n piece ++ tail) came ms
carries-gathered limits i j s later piece tail came ms n e g c =
    let w = c.way in
    let none : drop n piece ≡ [] = ap (λ (k : ℕ). drop k piece) g.all ∙ drop-all piece in
    let left : drop n piece ++ tail ≡ tail = ap (λ (z : List ℕ). z ++ tail) none in
    let joined : (s ++ piece) ++ tail ≡ bytes_of (came ++ ms) = append_assoc s piece tail ∙ (ap (λ (z : List ℕ). s ++ z) (sym e) ∙ w.bytes) in
    record {
      bodies = c.bodies;
      rest = c.rest ++ piece;
      way = record { bounds = g.bounds ∙ w.bounds; stands = g.stands s c.bodies c.rest w.stands; reads_back = w.reads_back; bytes = ap (λ (z : List ℕ). (s ++ piece) ++ z) left ∙ joined };
      whole = c.whole;
    }

-- the first one under way is this message, and the others are left
pub record Arrives (limits : Settings) (j : Intake) (s later : List ℕ) (came ms : List Message) (m : Message) : Type 0 where
  pub others : List Message
  pub first : ms ≡ m ∷ others
  pub carries : AreUnderWay limits j s later (came ++ m ∷ []) others

one-more : (came : List Message) (m : Message) (others : List Message) → came ++ m ∷ others ≡ (came ++ m ∷ []) ++ others
one-more came m others = sym (append_assoc came (m ∷ []) others)

module _ (split : EachStreamHasOneSplit) (moves : MovesInOrder) where
  same-bodies : (b c : Bounds) (s : List ℕ) (xs ys : List (List ℕ)) (rest left : List ℕ) → b ≡ c → Split b s xs rest → Split c s ys left → xs ≡ ys
  same-bodies b c s xs ys rest left e h g = (split.one b s xs ys rest left h (subst (λ (z : Bounds). Split z s ys left) (sym e) g)).0

  -- a piece makes a frame whole, and the reader is there for the next one
  pub carries-delivered : (limits : Settings) (i j : Intake) (s later piece tail : List ℕ) (came ms : List Message) (n : ℕ) (m : Message) (bodies : List (List ℕ)) (rest : List ℕ) → AreInRange limits → later ≡ piece ++ tail → (w : Whole i piece n) → Msg w.ready.held m
      → j.bounds ≡ bounds_of limits → StandsFor j (s ++ take n piece) bodies rest → AreUnderWay limits i s later came ms → Arrives limits j (s ++ take n piece) (drop n piece ++ tail) came ms m
  carries-delivered limits i j s later piece tail came ms n m bodies rest r e w read b st c =
      let written = came ++ ms in
      let next = moves.next limits i s c.bodies c.rest later written r c.way piece tail e n w m read in
      let long : length came ≡ length next.first = sym (length-map came canon) ∙ (ap length (sym c.whole ∙ next.came) ∙ length-map next.first canon) in
      let cut = same-cut came ms next.first (m ∷ next.others) next.all long in
      let first : ms ≡ m ∷ next.others = cut.back in
      let all : written ≡ (came ++ m ∷ []) ++ next.others = ap (λ (z : List Message). came ++ z) first ∙ one-more came m next.others in
      let joined : (s ++ take n piece) ++ (drop n piece ++ tail) ≡ bytes_of written = moved s piece tail later n e ∙ c.way.bytes in
      let way : IsWay limits j (s ++ take n piece) bodies rest (drop n piece ++ tail) written = record { bounds = b; stands = st; reads_back = c.way.reads_back; bytes = joined } in
      let ordered = moves.came limits j (s ++ take n piece) bodies rest (drop n piece ++ tail) written r way in
      let ready = w.completes.stands s c.bodies c.rest c.way.stands in
      let bodies_are : bodies ≡ c.bodies ++ w.ready.held ∷ [] = same-bodies j.bounds w.ready.bounds (s ++ take n piece) bodies (c.bodies ++ w.ready.held ∷ []) rest [] (b ∙ sym (w.completes.bounds ∙ c.way.bounds)) st.split ready.split in
      let counted : length ordered.first ≡ length (came ++ m ∷ []) =
      sym (length-map ordered.first canon) ∙ (ap length (sym ordered.came ∙ bodies_are) ∙ (length-append c.bodies (w.ready.held ∷ []) ∙ (ap (λ (k : ℕ). k + 1) (ap length c.whole ∙ length-map came canon) ∙ sym (length-append came (m ∷ []))))) in
      let fronts = same-cut ordered.first ordered.others (came ++ m ∷ []) next.others (sym ordered.all ∙ all) counted in
      record {
        others = next.others;
        first = first;
        carries = record {
          bodies = bodies;
          rest = rest;
          way = subst (λ (z : List Message). IsWay limits j (s ++ take n piece) bodies rest (drop n piece ++ tail) z) all way;
          whole = ordered.came ∙ ap (λ (z : List Message). map canon z) fronts.front;
        };
      }

  -- no frame is a front of a rest
  no-message : (b : Bounds) (rest : List ℕ) (ms : List Message) → NoFrame b rest → FramesThen b (map canon ms) [] (rest ++ []) → ms ≡ []
  no-message b rest [] n f = refl
  no-message b rest (m ∷ ms) n f = absurd (n f.0 (canon m) f.1 (sym (append-nil rest) ∙ f.2) f.3)

  -- where no byte is to come, no message is under way
  pub none-under-way : (limits : Settings) (i : Intake) (s later : List ℕ) (came ms : List Message) → AreInRange limits → AreUnderWay limits i s later came ms → later ≡ [] → ms ≡ []
  none-under-way limits i s later came ms r c e =
      let ordered = moves.came limits i s c.bodies c.rest later (came ++ ms) r c.way in
      let long : length ordered.first ≡ length came = sym (length-map ordered.first canon) ∙ (ap length (sym ordered.came ∙ c.whole) ∙ length-map came canon) in
      let cut = same-cut ordered.first ordered.others came ms (sym ordered.all) long in
      let left : FramesThen (bounds_of limits) (map canon ordered.others) [] (c.rest ++ []) = subst (λ (z : List ℕ). FramesThen (bounds_of limits) (map canon ordered.others) [] (c.rest ++ z)) e ordered.left_is in
      let ends : NoFrame (bounds_of limits) c.rest = subst (λ (z : Bounds). NoFrame z c.rest) c.way.bounds c.way.stands.split.ends in
      sym cut.back ∙ no-message (bounds_of limits) c.rest ordered.others ends left
