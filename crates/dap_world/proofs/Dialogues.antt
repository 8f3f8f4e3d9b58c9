-- A transcript in parts: the client's requests with what the adapter answers and tells, and the adapter's requests with what
-- the client answers. What breaks a rule in the transcript breaks it in its part.
use Rattle.std.proofs.Common.{◌≡◌, ℕ, List, [], ◌∷◌, ◌++◌, Bool, true, false, Some, refl, sym, ap, ◌∙◌, true≢false}
use Rattle.std.specs.Prelude.{◌==◌, ◌&&◌, ◌||◌, not, codes, if◌then◌else◌}
use Rattle.std.specs.List.{list_any}
use Rattle.dap_ends.specs.Messages as small
use Rattle.dap_ends.specs.References.{messages}
use Rattle.dap_ends.specs.Pair.{client_dialogue, adapter_dialogue, without_client_responses}
use Rattle.dap_envelope.specs.declared.message.Kind.{Kind}
use Rattle.dap_envelope.specs.declared.message.Kind.TheVariants.{Request, Response, Event, Other}
use Rattle.dap_check.specs.Lines.{other_side, same_side, is_of, is_request, is_request_for, is_response_to, is_success, is_event, is_adapter_event, asks, asks_as, asks_for, answers, succeeds}
use Rattle.dap_check.specs.Rules.{initialize, disconnect, is_out_of_place, breaks_answer, is_too_early, breaks_first_request, breaks_initialized, breaks_disconnect}
use Rattle.dap_check.specs.Since.{is_open, first_since}
use Rattle.dap_check.specs.declared.line.Line.{Line}
use Rattle.dap_check.specs.declared.line.Side.{Side}
use Rattle.dap_check.specs.declared.line.Side.TheVariants.{Client, Adapter}
use Rattle.dap_world.specs.Projection.{written_seen}
use Rattle.dap_world.specs.Transcripts.{said_of}
use Rattle.dap_world.proofs.GateStepping.{AllOffer}
use Rattle.dap_world.proofs.RulesSeen.{AllSided, line_seen, lines_seen}

-- ---- the lines of a part

-- the client's requests, and all that the adapter writes but its own
abbrev pub is_plain : Side → Kind → Bool
is_plain Client (Request name arguments) = true
is_plain Client (Response q ok name message body) = false
is_plain Client (Event name body) = false
is_plain Client (Other tag) = false
is_plain Adapter (Request name arguments) = false
is_plain Adapter (Response q ok name message body) = true
is_plain Adapter (Event name body) = true
is_plain Adapter (Other tag) = true

-- the adapter's requests, and the client's responses
abbrev pub is_own : Side → Kind → Bool
is_own Client (Request name arguments) = false
is_own Client (Response q ok name message body) = true
is_own Client (Event name body) = false
is_own Client (Other tag) = false
is_own Adapter (Request name arguments) = true
is_own Adapter (Response q ok name message body) = false
is_own Adapter (Event name body) = false
is_own Adapter (Other tag) = false

-- all that the adapter writes, and the client's requests
abbrev pub is_loud : Side → Kind → Bool
is_loud Client (Request name arguments) = true
is_loud Client (Response q ok name message body) = false
is_loud Client (Event name body) = false
is_loud Client (Other tag) = false
is_loud Adapter kind = true

abbrev pub kept_if : Bool → Line → List Line → List Line
kept_if true l ls = l ∷ ls
kept_if false l ls = ls

abbrev pub plain_part : List Line → List Line
plain_part [] = []
plain_part (l ∷ ls) = kept_if (is_plain l.side l.message.kind) l (plain_part ls)

abbrev pub loud_part : List Line → List Line
loud_part [] = []
loud_part (l ∷ ls) = kept_if (is_loud l.side l.message.kind) l (loud_part ls)

-- with the sides turned round, so that a request is the client's
abbrev pub turned : Line → Line
turned l = record { number = l.number; side = other_side l.side; message = l.message }

abbrev pub own_part : List Line → List Line
own_part [] = []
own_part (l ∷ ls) = kept_if (is_own l.side l.message.kind) (turned l) (own_part ls)

-- ---- of lists

part-append-if : (b : Bool) (l : Line) (xs ys : List Line) → kept_if b l (xs ++ ys) ≡ kept_if b l xs ++ ys
part-append-if true l xs ys = refl
part-append-if false l xs ys = refl

plain-append : (xs ys : List Line) → plain_part (xs ++ ys) ≡ plain_part xs ++ plain_part ys
plain-append [] ys = refl
plain-append (x ∷ xs) ys = ap (kept_if (is_plain x.side x.message.kind) x) (plain-append xs ys) ∙ part-append-if (is_plain x.side x.message.kind) x (plain_part xs) (plain_part ys)

loud-append : (xs ys : List Line) → loud_part (xs ++ ys) ≡ loud_part xs ++ loud_part ys
loud-append [] ys = refl
loud-append (x ∷ xs) ys = ap (kept_if (is_loud x.side x.message.kind) x) (loud-append xs ys) ∙ part-append-if (is_loud x.side x.message.kind) x (loud_part xs) (loud_part ys)

own-append : (xs ys : List Line) → own_part (xs ++ ys) ≡ own_part xs ++ own_part ys
own-append [] ys = refl
own-append (x ∷ xs) ys = ap (kept_if (is_own x.side x.message.kind) (turned x)) (own-append xs ys) ∙ part-append-if (is_own x.side x.message.kind) (turned x) (own_part xs) (own_part ys)

pub plain-split : (xs : List Line) (l : Line) (ys : List Line) → is_plain l.side l.message.kind ≡ true → plain_part (xs ++ l ∷ ys) ≡ plain_part xs ++ l ∷ plain_part ys
plain-split xs l ys h = plain-append xs (l ∷ ys) ∙ ap (λ (b : Bool). plain_part xs ++ kept_if b l (plain_part ys)) h

pub loud-split : (xs : List Line) (l : Line) (ys : List Line) → is_loud l.side l.message.kind ≡ true → loud_part (xs ++ l ∷ ys) ≡ loud_part xs ++ l ∷ loud_part ys
loud-split xs l ys h = loud-append xs (l ∷ ys) ∙ ap (λ (b : Bool). loud_part xs ++ kept_if b l (loud_part ys)) h

pub own-split : (xs : List Line) (l : Line) (ys : List Line) → is_own l.side l.message.kind ≡ true → own_part (xs ++ l ∷ ys) ≡ own_part xs ++ turned l ∷ own_part ys
own-split xs l ys h = own-append xs (l ∷ ys) ∙ ap (λ (b : Bool). own_part xs ++ kept_if b (turned l) (own_part ys)) h

-- ---- what the pair wrote

plain-line : (side : Side) (seq number : ℕ) (kind : Kind) (ls : List Line) → lines_seen (plain_part ls) ≡ messages (client_dialogue (written_seen (said_of ls)))
    → (let l : Line = record { number = number; side = side; message = record { seq = seq; kind = kind } } in lines_seen (plain_part (l ∷ ls))) ≡ (let l : Line = record { number = number; side = side; message = record { seq = seq; kind = kind } } in messages (client_dialogue (written_seen (said_of (l ∷ ls)))))
plain-line Client seq number (Request name arguments) ls e = ap (λ (ms : List small.Message). line_seen (record { number = number; side = Client; message = record { seq = seq; kind = Request name arguments } }) ∷ ms) e
plain-line Client seq number (Response q ok name message body) ls e = e
plain-line Client seq number (Event name body) ls e = e
plain-line Client seq number (Other tag) ls e = e
plain-line Adapter seq number (Request name arguments) ls e = e
plain-line Adapter seq number (Response q ok name message body) ls e = ap (λ (ms : List small.Message). line_seen (record { number = number; side = Adapter; message = record { seq = seq; kind = Response q ok name message body } }) ∷ ms) e
plain-line Adapter seq number (Event name body) ls e = ap (λ (ms : List small.Message). line_seen (record { number = number; side = Adapter; message = record { seq = seq; kind = Event name body } }) ∷ ms) e
plain-line Adapter seq number (Other tag) ls e = ap (λ (ms : List small.Message). line_seen (record { number = number; side = Adapter; message = record { seq = seq; kind = Other tag } }) ∷ ms) e

pub plain-seen : (ls : List Line) → lines_seen (plain_part ls) ≡ messages (client_dialogue (written_seen (said_of ls)))
plain-seen [] = refl
plain-seen (l ∷ ls) = plain-line l.side l.message.seq l.number l.message.kind ls (plain-seen ls)

own-line : (side : Side) (seq number : ℕ) (kind : Kind) (ls : List Line) → lines_seen (own_part ls) ≡ adapter_dialogue (written_seen (said_of ls))
    → (let l : Line = record { number = number; side = side; message = record { seq = seq; kind = kind } } in lines_seen (own_part (l ∷ ls))) ≡ (let l : Line = record { number = number; side = side; message = record { seq = seq; kind = kind } } in adapter_dialogue (written_seen (said_of (l ∷ ls))))
own-line Client seq number (Request name arguments) ls e = e
own-line Client seq number (Response q ok name message body) ls e = ap (λ (ms : List small.Message). line_seen (record { number = number; side = Adapter; message = record { seq = seq; kind = Response q ok name message body } }) ∷ ms) e
own-line Client seq number (Event name body) ls e = e
own-line Client seq number (Other tag) ls e = e
own-line Adapter seq number (Request name arguments) ls e = ap (λ (ms : List small.Message). line_seen (record { number = number; side = Client; message = record { seq = seq; kind = Request name arguments } }) ∷ ms) e
own-line Adapter seq number (Response q ok name message body) ls e = e
own-line Adapter seq number (Event name body) ls e = e
own-line Adapter seq number (Other tag) ls e = e

pub own-seen : (ls : List Line) → lines_seen (own_part ls) ≡ adapter_dialogue (written_seen (said_of ls))
own-seen [] = refl
own-seen (l ∷ ls) = own-line l.side l.message.seq l.number l.message.kind ls (own-seen ls)

loud-line : (side : Side) (seq number : ℕ) (kind : Kind) (ls : List Line) → lines_seen (loud_part ls) ≡ without_client_responses (written_seen (said_of ls))
    → (let l : Line = record { number = number; side = side; message = record { seq = seq; kind = kind } } in lines_seen (loud_part (l ∷ ls))) ≡ (let l : Line = record { number = number; side = side; message = record { seq = seq; kind = kind } } in without_client_responses (written_seen (said_of (l ∷ ls))))
loud-line Client seq number (Request name arguments) ls e = ap (λ (ms : List small.Message). line_seen (record { number = number; side = Client; message = record { seq = seq; kind = Request name arguments } }) ∷ ms) e
loud-line Client seq number (Response q ok name message body) ls e = e
loud-line Client seq number (Event name body) ls e = e
loud-line Client seq number (Other tag) ls e = e
loud-line Adapter seq number kind ls e = ap (λ (ms : List small.Message). line_seen (record { number = number; side = Adapter; message = record { seq = seq; kind = kind } }) ∷ ms) e

pub loud-seen : (ls : List Line) → lines_seen (loud_part ls) ≡ without_client_responses (written_seen (said_of ls))
loud-seen [] = refl
loud-seen (l ∷ ls) = loud-line l.side l.message.seq l.number l.message.kind ls (loud-seen ls)

-- ---- sides

plain-sided-line : (side : Side) (seq number : ℕ) (kind : Kind) (ls : List Line) → (let l : Line = record { number = number; side = side; message = record { seq = seq; kind = kind } } in AllOffer (said_of (l ∷ ls))) → AllSided (plain_part ls)
    → (let l : Line = record { number = number; side = side; message = record { seq = seq; kind = kind } } in AllSided (plain_part (l ∷ ls)))
plain-sided-line Client seq number (Request name arguments) ls o h = (tt, h)
plain-sided-line Client seq number (Response q ok name message body) ls o h = h
plain-sided-line Client seq number (Event name body) ls o h = h
plain-sided-line Client seq number (Other tag) ls o h = h
plain-sided-line Adapter seq number (Request name arguments) ls o h = h
plain-sided-line Adapter seq number (Response q ok name message body) ls o h = (tt, h)
plain-sided-line Adapter seq number (Event name body) ls o h = (tt, h)
plain-sided-line Adapter seq number (Other tag) ls o h = absurd o.0

pub plain-sided : (ls : List Line) → AllOffer (said_of ls) → AllSided (plain_part ls)
plain-sided [] o = tt
plain-sided (l ∷ ls) o = plain-sided-line l.side l.message.seq l.number l.message.kind ls o (plain-sided ls o.1)

own-sided-line : (side : Side) (seq number : ℕ) (kind : Kind) (ls : List Line) → AllSided (own_part ls) → (let l : Line = record { number = number; side = side; message = record { seq = seq; kind = kind } } in AllSided (own_part (l ∷ ls)))
own-sided-line Client seq number (Request name arguments) ls h = h
own-sided-line Client seq number (Response q ok name message body) ls h = (tt, h)
own-sided-line Client seq number (Event name body) ls h = h
own-sided-line Client seq number (Other tag) ls h = h
own-sided-line Adapter seq number (Request name arguments) ls h = (tt, h)
own-sided-line Adapter seq number (Response q ok name message body) ls h = h
own-sided-line Adapter seq number (Event name body) ls h = h
own-sided-line Adapter seq number (Other tag) ls h = h

pub own-sided : (ls : List Line) → AllSided (own_part ls)
own-sided [] = tt
own-sided (l ∷ ls) = own-sided-line l.side l.message.seq l.number l.message.kind ls (own-sided ls)

-- ---- a test that passes over the lines of another part

any-if : (b : Bool) (p : Line → Bool) (l : Line) (ls ks : List Line) → (b ≡ false → p l ≡ false) → list_any p ks ≡ list_any p ls → list_any p (kept_if b l ks) ≡ (p l || list_any p ls)
any-if true p l ls ks h e = ap (λ (x : Bool). p l || x) e
any-if false p l ls ks h e = e ∙ ap (λ (x : Bool). x || list_any p ls) (sym (h refl))

any-plain : (p : Line → Bool) (ls : List Line) → ((l : Line) → is_plain l.side l.message.kind ≡ false → p l ≡ false) → list_any p (plain_part ls) ≡ list_any p ls
any-plain p [] h = refl
any-plain p (l ∷ ls) h = any-if (is_plain l.side l.message.kind) p l ls (plain_part ls) (h l) (any-plain p ls h)

any-loud : (p : Line → Bool) (ls : List Line) → ((l : Line) → is_loud l.side l.message.kind ≡ false → p l ≡ false) → list_any p (loud_part ls) ≡ list_any p ls
any-loud p [] h = refl
any-loud p (l ∷ ls) h = any-if (is_loud l.side l.message.kind) p l ls (loud_part ls) (h l) (any-loud p ls h)

-- where one test opens and another closes
open-if : (b : Bool) (p q : Line → Bool) (l : Line) (ls ks : List Line) → (b ≡ false → p l ≡ false) → list_any q ks ≡ list_any q ls → is_open p q ks ≡ is_open p q ls → is_open p q (kept_if b l ks) ≡ is_open p q (l ∷ ls)
open-if true p q l ls ks h a e = ap (λ (x : Bool). (p l && not x) || is_open p q ks) a ∙ ap (λ (x : Bool). (p l && not (list_any q ls)) || x) e
open-if false p q l ls ks h a e = e ∙ ap (λ (x : Bool). (x && not (list_any q ls)) || is_open p q ls) (sym (h refl))

open-plain : (p q : Line → Bool) (ls : List Line) → ((l : Line) → is_plain l.side l.message.kind ≡ false → p l ≡ false) → ((l : Line) → is_plain l.side l.message.kind ≡ false → q l ≡ false) → is_open p q (plain_part ls) ≡ is_open p q ls
open-plain p q [] h k = refl
open-plain p q (l ∷ ls) h k = open-if (is_plain l.side l.message.kind) p q l ls (plain_part ls) (h l) (any-plain q ls k) (open-plain p q ls h k)

-- of the other part with the sides turned round
any-own-if : (b : Bool) (p r : Line → Bool) (l : Line) (ls ks : List Line) → (b ≡ false → p l ≡ false) → r (turned l) ≡ p l → list_any r ks ≡ list_any p ls → list_any r (kept_if b (turned l) ks) ≡ (p l || list_any p ls)
any-own-if true p r l ls ks h t e = ap (λ (x : Bool). x || list_any r ks) t ∙ ap (λ (x : Bool). p l || x) e
any-own-if false p r l ls ks h t e = e ∙ ap (λ (x : Bool). x || list_any p ls) (sym (h refl))

any-own : (p r : Line → Bool) (ls : List Line) → ((l : Line) → is_own l.side l.message.kind ≡ false → p l ≡ false) → ((l : Line) → r (turned l) ≡ p l) → list_any r (own_part ls) ≡ list_any p ls
any-own p r [] h t = refl
any-own p r (l ∷ ls) h t = any-own-if (is_own l.side l.message.kind) p r l ls (own_part ls) (h l) (t l) (any-own p r ls h t)

open-own-if : (b : Bool) (p q r s : Line → Bool) (l : Line) (ls ks : List Line) → (b ≡ false → p l ≡ false) → r (turned l) ≡ p l → list_any s ks ≡ list_any q ls → is_open r s ks ≡ is_open p q ls → is_open r s (kept_if b (turned l) ks) ≡ is_open p q (l ∷ ls)
open-own-if true p q r s l ls ks h t a e =
    ap (λ (x : Bool). (x && not (list_any s ks)) || is_open r s ks) t ∙ (ap (λ (x : Bool). (p l && not x) || is_open r s ks) a ∙ ap (λ (x : Bool). (p l && not (list_any q ls)) || x) e)
open-own-if false p q r s l ls ks h t a e = e ∙ ap (λ (x : Bool). (x && not (list_any q ls)) || is_open p q ls) (sym (h refl))

open-own : (p q r s : Line → Bool) (ls : List Line) → ((l : Line) → is_own l.side l.message.kind ≡ false → p l ≡ false) → ((l : Line) → r (turned l) ≡ p l) → ((l : Line) → is_own l.side l.message.kind ≡ false → q l ≡ false) → ((l : Line) → s (turned l) ≡ q l)
    → is_open r s (own_part ls) ≡ is_open p q ls
open-own p q r s [] h t k u = refl
open-own p q r s (l ∷ ls) h t k u = open-own-if (is_own l.side l.message.kind) p q r s l ls (own_part ls) (h l) (t l) (any-own q s ls k u) (open-own p q r s ls h t k u)

-- ---- the tests of the rules

plain-apart : (test : Side → Kind → Bool) → ((q : ℕ) (ok : Bool) (name : List ℕ) (message : _) (body : _) → test Client (Response q ok name message body) ≡ false) → ((name : List ℕ) (body : _) → test Client (Event name body) ≡ false) → ((tag : _) → test Client (Other tag) ≡ false)
    → ((name : List ℕ) (arguments : _) → test Adapter (Request name arguments) ≡ false) → (side : Side) (kind : Kind) → is_plain side kind ≡ false → test side kind ≡ false
plain-apart test r e o q Client (Request name arguments) h = absurd (true≢false h)
plain-apart test r e o q Client (Response n ok name message body) h = r n ok name message body
plain-apart test r e o q Client (Event name body) h = e name body
plain-apart test r e o q Client (Other tag) h = o tag
plain-apart test r e o q Adapter (Request name arguments) h = q name arguments
plain-apart test r e o q Adapter (Response n ok name message body) h = absurd (true≢false h)
plain-apart test r e o q Adapter (Event name body) h = absurd (true≢false h)
plain-apart test r e o q Adapter (Other tag) h = absurd (true≢false h)

asks-apart : (l : Line) → is_plain l.side l.message.kind ≡ false → asks Client l ≡ false
asks-apart l h = plain-apart (λ side kind. same_side Client side && is_request kind) (λ n ok name message body. refl) (λ name body. refl) (λ tag. refl) (λ name arguments. refl) l.side l.message.kind h

asks_as-apart : (n : ℕ) (l : Line) → is_plain l.side l.message.kind ≡ false → asks_as Client n l ≡ false
asks_as-apart n l h = plain-apart (λ side kind. (same_side Client side && is_request kind) && (l.message.seq == n)) (λ q ok name message body. refl) (λ name body. refl) (λ tag. refl) (λ name arguments. refl) l.side l.message.kind h

asks_for-apart : (n : ℕ) (for : List ℕ) (l : Line) → is_plain l.side l.message.kind ≡ false → asks_for Client n for l ≡ false
asks_for-apart n for l h = plain-apart (λ side kind. same_side Client side && is_request_for for kind && (l.message.seq == n)) (λ q ok name message body. refl) (λ name body. refl) (λ tag. refl) (λ name arguments. refl) l.side l.message.kind h

answers-apart : (n : ℕ) (l : Line) → is_plain l.side l.message.kind ≡ false → answers Adapter n l ≡ false
answers-apart n l h = plain-apart (λ side kind. same_side Adapter side && is_response_to n kind) (λ q ok name message body. refl) (λ name body. refl) (λ tag. refl) (λ name arguments. refl) l.side l.message.kind h

succeeds-apart : (names : List (List ℕ)) (l : Line) → is_plain l.side l.message.kind ≡ false → succeeds names l ≡ false
succeeds-apart names l h = plain-apart (λ side kind. same_side Adapter side && is_success names kind) (λ q ok name message body. refl) (λ name body. refl) (λ tag. refl) (λ name arguments. refl) l.side l.message.kind h

event-apart : (names : List (List ℕ)) (l : Line) → is_plain l.side l.message.kind ≡ false → is_adapter_event names l ≡ false
event-apart names l h = plain-apart (λ side kind. same_side Adapter side && is_event names kind) (λ q ok name message body. refl) (λ name body. refl) (λ tag. refl) (λ name arguments. refl) l.side l.message.kind h

loud-apart : (test : Side → Kind → Bool) → ((q : ℕ) (ok : Bool) (name : List ℕ) (message : _) (body : _) → test Client (Response q ok name message body) ≡ false) → ((name : List ℕ) (body : _) → test Client (Event name body) ≡ false) → ((tag : _) → test Client (Other tag) ≡ false)
    → (side : Side) (kind : Kind) → is_loud side kind ≡ false → test side kind ≡ false
loud-apart test r e o Client (Request name arguments) h = absurd (true≢false h)
loud-apart test r e o Client (Response n ok name message body) h = r n ok name message body
loud-apart test r e o Client (Event name body) h = e name body
loud-apart test r e o Client (Other tag) h = o tag
loud-apart test r e o Adapter kind h = absurd (true≢false h)

own-apart : (test : Side → Kind → Bool) → ((name : List ℕ) (arguments : _) → test Client (Request name arguments) ≡ false) → ((name : List ℕ) (body : _) → test Client (Event name body) ≡ false) → ((tag : _) → test Client (Other tag) ≡ false)
    → ((q : ℕ) (ok : Bool) (name : List ℕ) (message : _) (body : _) → test Adapter (Response q ok name message body) ≡ false) → ((name : List ℕ) (body : _) → test Adapter (Event name body) ≡ false) → ((tag : _) → test Adapter (Other tag) ≡ false)
    → (side : Side) (kind : Kind) → is_own side kind ≡ false → test side kind ≡ false
own-apart test q e o r f g Client (Request name arguments) h = q name arguments
own-apart test q e o r f g Client (Response n ok name message body) h = absurd (true≢false h)
own-apart test q e o r f g Client (Event name body) h = e name body
own-apart test q e o r f g Client (Other tag) h = o tag
own-apart test q e o r f g Adapter (Request name arguments) h = absurd (true≢false h)
own-apart test q e o r f g Adapter (Response n ok name message body) h = r n ok name message body
own-apart test q e o r f g Adapter (Event name body) h = f name body
own-apart test q e o r f g Adapter (Other tag) h = g tag

own-asks_as : (n : ℕ) (l : Line) → is_own l.side l.message.kind ≡ false → asks_as Adapter n l ≡ false
own-asks_as n l h =
    own-apart (λ side kind. (same_side Adapter side && is_request kind) && (l.message.seq == n)) (λ name arguments. refl) (λ name body. refl) (λ tag. refl) (λ q ok name message body. refl) (λ name body. refl) (λ tag. refl) l.side l.message.kind h

own-asks_for : (n : ℕ) (for : List ℕ) (l : Line) → is_own l.side l.message.kind ≡ false → asks_for Adapter n for l ≡ false
own-asks_for n for l h =
    own-apart (λ side kind. same_side Adapter side && is_request_for for kind && (l.message.seq == n)) (λ name arguments. refl) (λ name body. refl) (λ tag. refl) (λ q ok name message body. refl) (λ name body. refl) (λ tag. refl) l.side l.message.kind h

own-answers : (n : ℕ) (l : Line) → is_own l.side l.message.kind ≡ false → answers Client n l ≡ false
own-answers n l h =
    own-apart (λ side kind. same_side Client side && is_response_to n kind) (λ name arguments. refl) (λ name body. refl) (λ tag. refl) (λ q ok name message body. refl) (λ name body. refl) (λ tag. refl) l.side l.message.kind h

round-client : (side : Side) → same_side Client (other_side side) ≡ same_side Adapter side
round-client Client = refl
round-client Adapter = refl

round-adapter : (side : Side) → same_side Adapter (other_side side) ≡ same_side Client side
round-adapter Client = refl
round-adapter Adapter = refl

-- ---- the rules

-- a response answers a request that waits, of either side
plain-answer : (side : Side) (seq : ℕ) (kind : Kind) (earlier : List Line) → is_plain side kind ≡ true → is_out_of_place side seq earlier kind ≡ is_out_of_place side seq (plain_part earlier) kind
plain-answer Client seq (Request name arguments) earlier h = sym (open-plain (asks_as Client seq) (answers Adapter seq) earlier (asks_as-apart seq) (answers-apart seq))
plain-answer Client seq (Response q ok name message body) earlier h = absurd (true≢false (sym h))
plain-answer Client seq (Event name body) earlier h = refl
plain-answer Client seq (Other tag) earlier h = refl
plain-answer Adapter seq (Request name arguments) earlier h = absurd (true≢false (sym h))
plain-answer Adapter seq (Response q ok name message body) earlier h = ap not (sym (open-plain (asks_for Client q name) (answers Adapter q) earlier (asks_for-apart q name) (answers-apart q)))
plain-answer Adapter seq (Event name body) earlier h = refl
plain-answer Adapter seq (Other tag) earlier h = refl

own-answer : (side : Side) (seq : ℕ) (kind : Kind) (earlier : List Line) → is_own side kind ≡ true → is_out_of_place side seq earlier kind ≡ is_out_of_place (other_side side) seq (own_part earlier) kind
own-answer Client seq (Request name arguments) earlier h = absurd (true≢false (sym h))
own-answer Client seq (Response q ok name message body) earlier h =
    ap not (sym (open-own (asks_for Adapter q name) (answers Client q) (asks_for Client q name) (answers Adapter q) earlier (own-asks_for q name) (λ l. ap (λ (b : Bool). b && is_request_for name l.message.kind && (l.message.seq == q)) (round-client l.side)) (own-answers q) (λ l. ap (λ (b : Bool). b && is_response_to q l.message.kind) (round-adapter l.side))))
own-answer Client seq (Event name body) earlier h = refl
own-answer Client seq (Other tag) earlier h = refl
own-answer Adapter seq (Request name arguments) earlier h =
    sym (open-own (asks_as Adapter seq) (answers Client seq) (asks_as Client seq) (answers Adapter seq) earlier (own-asks_as seq) (λ l. ap (λ (b : Bool). (b && is_request l.message.kind) && (l.message.seq == seq)) (round-client l.side)) (own-answers seq) (λ l. ap (λ (b : Bool). b && is_response_to seq l.message.kind) (round-adapter l.side)))
own-answer Adapter seq (Response q ok name message body) earlier h = absurd (true≢false (sym h))
own-answer Adapter seq (Event name body) earlier h = refl
own-answer Adapter seq (Other tag) earlier h = refl

-- what is in neither part breaks nothing
in-neither : (side : Side) (seq : ℕ) (kind : Kind) (earlier : List Line) → is_plain side kind ≡ false → is_own side kind ≡ false → is_out_of_place side seq earlier kind ≡ false
in-neither Client seq (Request name arguments) earlier p o = absurd (true≢false p)
in-neither Client seq (Response q ok name message body) earlier p o = absurd (true≢false o)
in-neither Client seq (Event name body) earlier p o = refl
in-neither Client seq (Other tag) earlier p o = refl
in-neither Adapter seq (Request name arguments) earlier p o = absurd (true≢false o)
in-neither Adapter seq (Response q ok name message body) earlier p o = absurd (true≢false p)
in-neither Adapter seq (Event name body) earlier p o = refl
in-neither Adapter seq (Other tag) earlier p o = refl

by-part : (p o : Bool) (l : Line) (earlier : List Line) → is_plain l.side l.message.kind ≡ p → is_own l.side l.message.kind ≡ o → (p ≡ true → breaks_answer (plain_part earlier) l ≡ false) → (o ≡ true → breaks_answer (own_part earlier) (turned l) ≡ false) → breaks_answer earlier l ≡ false
by-part true o l earlier x y f g = plain-answer l.side l.message.seq l.message.kind earlier x ∙ f refl
by-part false true l earlier x y f g = own-answer l.side l.message.seq l.message.kind earlier y ∙ g refl
by-part false false l earlier x y f g = in-neither l.side l.message.seq l.message.kind earlier x y

pub answer-by-part : (l : Line) (earlier : List Line) → (is_plain l.side l.message.kind ≡ true → breaks_answer (plain_part earlier) l ≡ false) → (is_own l.side l.message.kind ≡ true → breaks_answer (own_part earlier) (turned l) ≡ false) → breaks_answer earlier l ≡ false
answer-by-part l earlier f g = by-part (is_plain l.side l.message.kind) (is_own l.side l.message.kind) l earlier refl refl f g

-- the first request of the client
early-by : (b : Bool) (l x : Line) (ls ks : List Line) → list_any (asks Client) ks ≡ list_any (asks Client) ls → list_any (answers Adapter x.message.seq) ks ≡ list_any (answers Adapter x.message.seq) ls
    → is_too_early l (first_since (asks Client) ks) ≡ is_too_early l (first_since (asks Client) ls)
    → is_too_early l (if b then Some (record { line = x; since = ks }) else first_since (asks Client) ks) ≡ is_too_early l (if b then Some (record { line = x; since = ls }) else first_since (asks Client) ls)
early-by true l x ls ks a e ih = ap (λ (b : Bool). not b && not (list_any (answers Adapter x.message.seq) ks)) a ∙ ap (λ (b : Bool). not (list_any (asks Client) ls) && not b) e
early-by false l x ls ks a e ih = ih

early-if : (b : Bool) (l x : Line) (ls ks : List Line) → (b ≡ false → asks Client x ≡ false) → list_any (asks Client) ks ≡ list_any (asks Client) ls → list_any (answers Adapter x.message.seq) ks ≡ list_any (answers Adapter x.message.seq) ls
    → is_too_early l (first_since (asks Client) ks) ≡ is_too_early l (first_since (asks Client) ls) → is_too_early l (first_since (asks Client) (kept_if b x ks)) ≡ is_too_early l (first_since (asks Client) (x ∷ ls))
early-if true l x ls ks h a e ih = early-by (asks Client x) l x ls ks a e ih
early-if false l x ls ks h a e ih = ih ∙ ap (λ (b : Bool). is_too_early l (if b then Some (record { line = x; since = ls }) else first_since (asks Client) ls)) (sym (h refl))

early-plain : (l : Line) (ls : List Line) → is_too_early l (first_since (asks Client) (plain_part ls)) ≡ is_too_early l (first_since (asks Client) ls)
early-plain l [] = refl
early-plain l (x ∷ ls) =
    early-if (is_plain x.side x.message.kind) l x ls (plain_part ls) (asks-apart x) (any-plain (asks Client) ls asks-apart) (any-plain (answers Adapter x.message.seq) ls (answers-apart x.message.seq)) (early-plain l ls)

first-if : (p : Bool) (l : Line) (earlier : List Line) → is_plain l.side l.message.kind ≡ p → (p ≡ true → breaks_first_request (plain_part earlier) l ≡ false) → breaks_first_request earlier l ≡ false
first-if true l earlier x f = ap (λ (b : Bool). asks Client l && b) (sym (early-plain l earlier)) ∙ f refl
first-if false l earlier x f = ap (λ (b : Bool). b && is_too_early l (first_since (asks Client) earlier)) (asks-apart l x)

pub first-by-part : (l : Line) (earlier : List Line) → (is_plain l.side l.message.kind ≡ true → breaks_first_request (plain_part earlier) l ≡ false) → breaks_first_request earlier l ≡ false
first-by-part l earlier f = first-if (is_plain l.side l.message.kind) l earlier refl f

-- the event `initialized`
initialized-if : (p : Bool) (l : Line) (earlier : List Line) → is_plain l.side l.message.kind ≡ p → (p ≡ true → breaks_initialized (plain_part earlier) l ≡ false) → breaks_initialized earlier l ≡ false
initialized-if true l earlier x f = ap (λ (b : Bool). is_adapter_event (codes "initialized" ∷ []) l && not b) (sym (any-plain (succeeds initialize) earlier (succeeds-apart initialize))) ∙ f refl
initialized-if false l earlier x f = ap (λ (b : Bool). b && not (list_any (succeeds initialize) earlier)) (event-apart (codes "initialized" ∷ []) l x)

pub initialized-by-part : (l : Line) (earlier : List Line) → (is_plain l.side l.message.kind ≡ true → breaks_initialized (plain_part earlier) l ≡ false) → breaks_initialized earlier l ≡ false
initialized-by-part l earlier f = initialized-if (is_plain l.side l.message.kind) l earlier refl f

-- what comes after a `disconnect`
loud-asks : (l : Line) → is_loud l.side l.message.kind ≡ false → (asks Client l || is_of Adapter l) ≡ false
loud-asks l h = loud-apart (λ side kind. (same_side Client side && is_request kind) || same_side Adapter side) (λ q ok name message body. refl) (λ name body. refl) (λ tag. refl) l.side l.message.kind h

loud-succeeds : (l : Line) → is_loud l.side l.message.kind ≡ false → succeeds disconnect l ≡ false
loud-succeeds l h = loud-apart (λ side kind. same_side Adapter side && is_success disconnect kind) (λ q ok name message body. refl) (λ name body. refl) (λ tag. refl) l.side l.message.kind h

disconnect-if : (p : Bool) (l : Line) (earlier : List Line) → is_loud l.side l.message.kind ≡ p → (p ≡ true → breaks_disconnect (loud_part earlier) l ≡ false) → breaks_disconnect earlier l ≡ false
disconnect-if true l earlier x f = ap (λ (b : Bool). (asks Client l || is_of Adapter l) && b) (sym (any-loud (succeeds disconnect) earlier loud-succeeds)) ∙ f refl
disconnect-if false l earlier x f = ap (λ (b : Bool). b && list_any (succeeds disconnect) earlier) (loud-asks l x)

pub disconnect-by-part : (l : Line) (earlier : List Line) → (is_loud l.side l.message.kind ≡ true → breaks_disconnect (loud_part earlier) l ≡ false) → breaks_disconnect earlier l ≡ false
disconnect-by-part l earlier f = disconnect-if (is_loud l.side l.message.kind) l earlier refl f
