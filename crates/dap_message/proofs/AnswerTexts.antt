-- The text of a request, a response or an event is that of its parts.
use Rattle.std.proofs.Common.{◌≡◌, ◌∙◌, ◌++◌, ℕ, List, [], ◌∷◌, Bool, false, true, Option, Some, None, Result, Ok, Err, IsOk, OnOk, OnErr, length, take, refl, ap, append_assoc}
use Rattle.json.specs.Print.{print, print_from, escape_byte}
use Rattle.json.specs.Tree.{members_tokens}
use Rattle.serde_json.specs.Data.{Data, object, Members}
use Rattle.serde_json.specs.Written.{members_outline, members_text, compact_text}
use Rattle.serde_json.proofs.Texts.{print-outline}
use Rattle.dap_message.specs.PrivateAnswering.{with_body, with_arguments}
use Rattle.dap_envelope.specs.Canon.{canon, tree_of, request_members, response_members, event_members}
use Rattle.dap_envelope.specs.declared.message.Kind.TheVariants.{Request, Response, Event}

tail : List ℕ → List ℕ
tail [] = []
tail (x ∷ xs) = xs

-- what follows the bracket of an object
pub print-members : (ms : Members) → print (members_tokens (members_outline ms)) ≡ members_text false ms
unfolding print_from tail
print-members ms = ap tail (print-outline (object ms))

pub canon-response : (seq request_seq : ℕ) (success : Bool) (command : List ℕ) (message : Option (List ℕ)) (body : Option Data)
    → with_body body ++ members_text false (response_members seq request_seq success command message None) ≡ canon (record { seq = seq; kind = Response request_seq success command message body })
unfolding canon tree_of response_members escape_byte
canon-response seq request_seq success command None None = refl
canon-response seq request_seq success command (Some t) None = refl
canon-response seq request_seq success command None (Some d) = ap (λ s. 123 ∷ 34 ∷ 98 ∷ 111 ∷ 100 ∷ 121 ∷ 34 ∷ 58 ∷ s) (append_assoc (compact_text d) _ _)
canon-response seq request_seq success command (Some t) (Some d) = ap (λ s. 123 ∷ 34 ∷ 98 ∷ 111 ∷ 100 ∷ 121 ∷ 34 ∷ 58 ∷ s) (append_assoc (compact_text d) _ _)

pub canon-event : (seq : ℕ) (event : List ℕ) (body : Option Data) → with_body body ++ members_text false (event_members seq event None) ≡ canon (record { seq = seq; kind = Event event body })
unfolding canon tree_of event_members escape_byte
canon-event seq event None = refl
canon-event seq event (Some d) = ap (λ s. 123 ∷ 34 ∷ 98 ∷ 111 ∷ 100 ∷ 121 ∷ 34 ∷ 58 ∷ s) (append_assoc (compact_text d) _ _)

pub canon-request : (seq : ℕ) (command : List ℕ) (arguments : Option Data) → with_arguments arguments ++ members_text false (request_members seq command None) ≡ canon (record { seq = seq; kind = Request command arguments })
unfolding canon tree_of request_members escape_byte
canon-request seq command None = refl
canon-request seq command (Some d) = ap (λ s. 123 ∷ 34 ∷ 97 ∷ 114 ∷ 103 ∷ 117 ∷ 109 ∷ 101 ∷ 110 ∷ 116 ∷ 115 ∷ 34 ∷ 58 ∷ s) (append_assoc (compact_text d) _ _)

-- three parts, one behind the other
pub thrice : (a b c d xs ys zs : List ℕ) → b ≡ a ++ xs → c ≡ b ++ ys → d ≡ c ++ zs → d ≡ a ++ (xs ++ (ys ++ zs))
thrice a b c d xs ys zs p q r = r ∙ (ap (λ s. s ++ zs) (q ∙ ap (λ s. s ++ ys) p) ∙ (append_assoc (a ++ xs) ys zs ∙ append_assoc a xs (ys ++ zs)))

-- one part, and then another
pub joined : (a b c xs ys zs : List ℕ) → b ≡ a ++ xs → c ≡ b ++ ys → xs ++ ys ≡ zs → c ≡ a ++ zs
joined a b c xs ys zs p q r = q ∙ (ap (λ s. s ++ ys) p ∙ (append_assoc a xs ys ∙ ap (λ s. a ++ s) r))

never : false ≡ true → ⊥
never e = cc

-- a step succeeds only where the one before it did
pub both : {E : Type 0} (opened result : Result (Unit {0}) E) (A B W : Type 0) → OnOk result (IsOk opened) → OnOk opened A → OnOk result B → (A → B → W) → OnOk result W
both (Ok x) (Ok y) A B W i a b f = f a b
both (Err e) (Ok y) A B W i a b f = absurd (never i)
both opened (Err e) A B W i a b f = tt

-- what was there before is left
pub front : {E : Type 0} (result : Result (Unit {0}) E) (start : ℕ) (old opened new : List ℕ) → start ≡ length old → take (length old) opened ≡ old → OnErr result (new ≡ take start opened) → OnErr result (new ≡ old)
front (Ok x) start old opened new is f e = tt
front (Err x) start old opened new is f e = e ∙ (ap (λ n. take n opened) is ∙ f)
