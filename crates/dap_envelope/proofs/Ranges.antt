-- What was read is in its ranges.
use Rattle.std.proofs.Common.{◌≡◌, refl, ℕ, ◌≤◌, List, Bool, true, false, Option, Some, None, codes, nat_le, arith}
use Rattle.std.proofs.lemmas.Bool.{leb-true}
use Rattle.std.specs.Prelude.{option_and_then, if◌then◌else◌}
use Rattle.serde_json.specs.Data.{Data}
use Rattle.serde_json.specs.Find.{get, as_number, as_u64}
use Rattle.dap_json.specs.Field.{max_seq, if_passes, whole_at}
use Rattle.dap_envelope.specs.InRange.{IsKindInRange, ReadIsInRange}
use Rattle.dap_envelope.specs.Meaning.{MeansKind}
use Rattle.dap_envelope.specs.declared.message.Kind.{Kind}
use Rattle.dap_envelope.specs.declared.message.Kind.TheVariants.{Request, Response, Event, Other}

passed-if : (b : Bool) (x n : ℕ) → nat_le x max_seq ≡ b → (if b then Some x else None) ≡ Some n → n ≤ max_seq
passed-if true x n le e = let same : x ≡ n = cc in let small : x ≤ max_seq = leb-true x max_seq le in omega arith
passed-if false x n le e = absurd (cc)

passed : (o : Option ℕ) (n : ℕ) → if_passes (λ k. nat_le k max_seq) o ≡ Some n → n ≤ max_seq
passed None n e = absurd (cc)
passed (Some x) n e = passed-if (nat_le x max_seq) x n refl e

whole-in_range : (key : List ℕ) (d : Data) (n : ℕ) → whole_at key d ≡ Some n → n ≤ max_seq
whole-in_range key d n e = passed (option_and_then as_u64 (option_and_then as_number (get key d))) n e

kind-in_range : (d : Data) (k : Kind) → MeansKind d k → IsKindInRange k
kind-in_range d (Request command arguments) s = s.2
kind-in_range d (Response request_seq success command message body) s = (whole-in_range (codes "request_seq") d request_seq s.3, s.2)
kind-in_range d (Event event body) s = tt
kind-in_range d (Other tag) s = tt

pub read_is_in_range : ReadIsInRange
read_is_in_range body m is = record { seq = whole-in_range (codes "seq") is.value m.seq is.says.seq; kind = kind-in_range is.value m.kind is.says.kind }
