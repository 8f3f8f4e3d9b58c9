-- What an adapter writes of a fixed shape has 1024 bytes at most.
use Rattle.std.proofs.Common.{◌≡◌, ℕ, suc, ◌+◌, ◌≤◌, ◌&&◌, ℤ, pos, negsuc, List, length, Bool, true, false, nat_le, IsTrue, Option, Some, None, decimal, sym, true≢false, arith}
use Rattle.std.proofs.lemmas.Bool.{leb-true, le-leb, and_parts}
use Rattle.std.proofs.lemmas.Fmt.{length-decimal-le}
use Rattle.std.specs.Fmt.{digits}
use Rattle.json.specs.Token as token
use Rattle.json.specs.Print.{escape_byte, quoted, token_text}
use Rattle.serde_json.specs.Data.{Data, object}
use Rattle.serde_json.specs.Find.{of_integer}
use Rattle.serde_json.specs.Written.{number_text}
use Rattle.dap_json.specs.Field.{max_seq}
use Rattle.dap_command.specs.Numbers.{is_int}
use Rattle.dap_command.specs.declared.key.Key.{Key}
use Rattle.dap_command.specs.declared.key.Key.TheVariants as key
use Rattle.dap_body.specs.Failure.{row_of, bad_argument_format, failure_body}
use Rattle.dap_command.specs.Numbers.{is_number, is_none_or}
use Rattle.dap_body.specs.Body.{data_in}
use Rattle.dap_body.specs.ResponseBody.{offer_body, run_in_terminal_body}
use Rattle.dap_command.specs.Offer.{usual_offer}
use Rattle.serde_json.specs.Written.{compact_text}
use Rattle.dap_body.specs.declared.body.Body.{Body}
use Rattle.dap_body.specs.declared.body.Body.TheVariants.{Continue, RunInTerminal}
use Rattle.dap_body.specs.declared.failure.Failure.{Failure}
use Rattle.dap_body.specs.declared.failure.Failure.TheVariants.{NotInitialized, BadArguments}
use Rattle.dap_envelope.specs.Canon.{canon, tree_of, members_of, response_members, event_members}
use Rattle.dap_message.specs.MessageParts.{failure_response, success_response, event_message, has_fixed_shape, AdapterEvent, initialized, output, stopped, continued, exited, terminated, named, event_name, event_body, without_more}
use Rattle.dap_message.specs.Lengths.{is_exit_code, IsWithin, FailuresAreShort, FixedResponsesAreShort, EventsAreShort, WhatIsAroundIsShort, TheUsualOfferFits}
use Rattle.dap_envelope.specs.Refusals.{max_command}
use Rattle.dap_envelope.specs.declared.message.Message.{Message}
use Rattle.dap_message.proofs.Sizes.{quoted_le, name_le, size, length-compact_text}

length-canon : (m : Message) → length (canon m) ≡ size (object (members_of m.seq m.kind))
unfolding canon tree_of
length-canon m = length-compact_text (object (members_of m.seq m.kind))

-- ---- numbers

seq_size : (n : ℕ) → n ≤ max_seq → length (decimal n) ≤ 16
seq_size n h = length-decimal-le 16 n (omega arith) (omega arith) (omega arith)

-- a sign, and sixteen digits
int_size : (z : ℤ) → IsTrue (is_int z) → length (number_text (of_integer z)) ≤ 17
int_size (pos n) h = let small : n ≤ 9007199254740991 = leb-true n 9007199254740991 h in omega (arith, seq_size n small)
int_size (negsuc n) h =
    let small : n ≤ 9007199254740990 = leb-true n 9007199254740990 (and_parts (nat_le n 9007199254740990) true h).0 in
    omega (arith, seq_size (suc n) (omega arith))

code_size : (z : ℤ) → IsTrue (is_exit_code z) → length (number_text (of_integer z)) ≤ 17
code_size (pos n) h = let small : n ≤ 2147483647 = leb-true n 2147483647 h in omega (arith, seq_size n (omega arith))
code_size (negsuc n) h =
    let small : n ≤ 2147483647 = leb-true n 2147483647 (and_parts (nat_le n 2147483647) true h).0 in
    omega (arith, seq_size (suc n) (omega arith))

boolean_size : (b : Bool) → length (token_text (token.boolean b)) ≤ 5
boolean_size true = omega arith
boolean_size false = omega arith

-- ---- around a body

abbrev message_size : Option (List ℕ) → ℕ
message_size None = 0
message_size (Some m) = length (quoted m) + 11

abbrev body_size : Option Data → ℕ
body_size None = 0
body_size (Some d) = size d + 8

response_size : (seq r : ℕ) (ok : Bool) (c : List ℕ) (m : Option (List ℕ)) (b : Option Data) → seq ≤ max_seq → r ≤ max_seq → length c ≤ max_command
    → size (object (response_members seq r ok c m b)) ≤ message_size m + body_size b + 500
unfolding response_members escape_byte
response_size seq r ok c None None s q h = omega (arith, seq_size seq s, seq_size r q, quoted_le c, boolean_size ok)
response_size seq r ok c None (Some d) s q h = omega (arith, seq_size seq s, seq_size r q, quoted_le c, boolean_size ok)
response_size seq r ok c (Some m) None s q h = omega (arith, seq_size seq s, seq_size r q, quoted_le c, boolean_size ok)
response_size seq r ok c (Some m) (Some d) s q h = omega (arith, seq_size seq s, seq_size r q, quoted_le c, boolean_size ok)

event_size : (seq : ℕ) (e : List ℕ) (b : Option Data) → seq ≤ max_seq → size (object (event_members seq e b)) ≤ length (quoted e) + body_size b + 60
unfolding event_members escape_byte
event_size seq e None s = omega (arith, seq_size seq s)
event_size seq e (Some d) s = omega (arith, seq_size seq s)

-- ---- failures

bad_argument_size : (k : Key) → length (quoted (bad_argument_format k)) ≤ 70
unfolding escape_byte
bad_argument_size key.Arguments = omega arith
bad_argument_size k = omega arith

failure_size : (f : Failure) → size (failure_body f) ≤ 110
unfolding escape_byte digits
failure_size (BadArguments k) = omega (arith, bad_argument_size k)
failure_size f = omega arith

name_size : (f : Failure) → length (quoted (row_of f).name) ≤ 30
unfolding escape_byte
name_size NotInitialized = omega arith
name_size f = omega arith

pub failures_are_short : FailuresAreShort
failures_are_short seq r c f s q h =
    omega (arith, length-canon (failure_response seq r c f), response_size seq r false c (Some (row_of f).name) (Some (failure_body f)) s q h, name_size f, failure_size f)

-- ---- responses

-- one process or two
number_size : (n : ℕ) → is_number n ≡ true → length (decimal n) ≤ 16
number_size n h = let small : n ≤ 2147483647 = leb-true n 2147483647 h in seq_size n (omega arith)

processes_size : (process shell : Option ℕ) → (is_none_or is_number process && is_none_or is_number shell) ≡ true → size (run_in_terminal_body process shell) ≤ 100
unfolding escape_byte
processes_size None None h = omega arith
processes_size None (Some n) h = omega (arith, number_size n h)
processes_size (Some m) None h = omega (arith, number_size m (and_parts (is_number m) true h).0)
processes_size (Some m) (Some n) h = let both = and_parts (is_number m) (is_number n) h in omega (arith, number_size m both.0, number_size n both.1)

fixed_size : (b : Option Body) → has_fixed_shape b ≡ true → body_size (data_in b) ≤ 410
unfolding escape_byte
fixed_size None h = omega arith
fixed_size (Some Continue) h = omega arith
fixed_size (Some (RunInTerminal process shell)) h = omega (arith, processes_size process shell h)
fixed_size (Some _) h = absurd (true≢false (sym h))

pub fixed_responses_are_short : FixedResponsesAreShort
fixed_responses_are_short seq r c b f s q h = omega (arith, length-canon (success_response seq r c (data_in b)), response_size seq r true c None (data_in b) s q h, fixed_size b f)

-- ---- any body

pub what_is_around_is_short : WhatIsAroundIsShort
what_is_around_is_short seq r c body s q h = omega (arith, length-canon (success_response seq r c (Some body)), response_size seq r true c None (Some body) s q h, length-compact_text body)

usual_size : length (compact_text (offer_body usual_offer)) ≤ 512
unfolding escape_byte
usual_size = omega arith

pub the_usual_offer_fits : TheUsualOfferFits
the_usual_offer_fits most room = le-leb (length (compact_text (offer_body usual_offer)) + 512) most (omega (arith, usual_size))

-- ---- events

event_body_size : (e : AdapterEvent) → IsWithin e → length (quoted (event_name e)) + body_size (event_body (without_more e)) ≤ 900
unfolding escape_byte
event_body_size initialized h = omega arith
event_body_size (output category text more) h = omega (arith, name_le category h.0, quoted_le text)
event_body_size (stopped reason thread more) h = omega (arith, quoted_le reason, int_size thread h.1)
event_body_size (continued thread) h = omega (arith, int_size thread h)
event_body_size (exited code) h = omega (arith, code_size code h)
event_body_size terminated h = omega arith
event_body_size (named name body) h = absurd h

pub events_are_short : EventsAreShort
events_are_short seq e s h = omega (arith, length-canon (event_message seq (event_name e) (event_body (without_more e))), event_size seq (event_name e) (event_body (without_more e)) s, event_body_size e h)
