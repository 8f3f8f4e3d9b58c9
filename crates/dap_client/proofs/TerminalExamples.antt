-- Worked examples of a client of which a terminal is asked, each shown by computation.
use Rattle.std.proofs.Common.{◌≡◌, ℕ, List, [], ◌∷◌, ◌++◌, length, true, false, Some, None, codes, refl}
use Rattle.std.specs.Fmt.{digits}
use Rattle.std.specs.Str.{is_utf8, chars}
use Rattle.json.specs.Print.{escape_byte}
use Rattle.serde_json.proofs.OnLiterals.{serde_json_on_literals}
use Rattle.dap_json.specs.Read.{json_of}
use Rattle.dap_frame.specs.Settings.{settings}
use Rattle.dap_envelope.specs.Canon.{canon, tree_of, request_members, response_members}
use Rattle.dap_call.specs.CallTree.{initialize_members}
use Rattle.dap_call.specs.Terminal.{terminal_of}
use Rattle.dap_call.specs.declared.call.Call.{Call}
use Rattle.dap_call.specs.declared.call.Call.TheVariants as call
use Rattle.dap_envelope.specs.declared.message.Kind.TheVariants.{Request}
use Rattle.dap_client.specs.Session.{oldest_of}
use Rattle.dap_client.specs.declared.fault.AnswerFault.TheVariants.{NotKept, SeqExhausted, Ended}
use Rattle.dap_client.specs.declared.fault.ClientFault.TheVariants.{RepeatedSeq, SeqExhausted as NoSeq}
use Rattle.dap_client.specs.declared.terminal.Terminal.TheVariants.{Started, Refused}
use Rattle.dap_client.proofs.Played.{At, Step, sends, answers, comes, run, fresh_at, initialize, success, failure, event, texts_of, written_after}

-- it runs terminals
abbrev announcing : Call
announcing = call.Initialize (record { adapter_id = codes "rec"; lines_start_at_1 = true; columns_start_at_1 = true; supports_variable_paging = false; supports_run_in_terminal_request = true })

abbrev begun : List Step
begun = sends announcing ∷ success 1 (codes "initialize") ∷ event (codes "initialized") ∷ []

-- a request of the adapter with that number
abbrev asks : ℕ → List ℕ → Step
asks seq arguments = comes (record { seq = seq; kind = Request (codes "runInTerminal") (json_of arguments) })

abbrev good : List ℕ
good = codes "{\"args\":[\"recorded\"],\"cwd\":\"/\",\"kind\":\"integrated\",\"title\":\"recorded\"}"

-- two are kept
abbrev two : At
two = fresh_at (settings 8192 4194304 2 65536 4096 9007199254740991 2147483647)

abbrev three_ask : List Step
three_ask = begun ++ asks 3 good ∷ asks 4 good ∷ asks 5 good ∷ []

third_finds_no_room : (length (run three_ask two).end.session.incoming ≡ 2) × (oldest_of (run three_ask two).end.session.incoming ≡ Some 3)
    × (texts_of (written_after 1 (run three_ask two)) ≡ codes "{\"body\":{\"error\":{\"format\":\"Too many requests are waiting.\",\"id\":1011}},\"command\":\"runInTerminal\",\"message\":\"busy\",\"request_seq\":5,\"seq\":2,\"success\":false,\"type\":\"response\"}" ∷ [])
unfolding canon tree_of request_members response_members initialize_members terminal_of escape_byte digits json_of is_utf8 chars serde_json_on_literals
third_finds_no_room = (refl, refl, refl)

not_kept : ((run (three_ask ++ answers 9 (Started None None) ∷ []) two).unanswered ≡ Some NotKept) × ((run (three_ask ++ answers 9 (Started None None) ∷ []) two).end ≡ (run three_ask two).end)
unfolding canon tree_of request_members response_members initialize_members terminal_of escape_byte digits json_of is_utf8 chars serde_json_on_literals
not_kept = (refl, refl)

same_number_again : ((run (three_ask ++ asks 3 good ∷ []) two).end.fault ≡ Some (RepeatedSeq 3)) × (length (run (three_ask ++ asks 3 good ∷ []) two).end.session.incoming ≡ 2)
    × ((run (three_ask ++ asks 3 good ∷ answers 3 Refused ∷ []) two).unanswered ≡ Some Ended)
unfolding canon tree_of request_members response_members initialize_members terminal_of escape_byte digits json_of is_utf8 chars serde_json_on_literals
same_number_again = (refl, refl, refl)

-- ---- answers

abbrev both_answered : List Step
both_answered = three_ask ++ answers 4 (Started (Some 7) None) ∷ answers 3 Refused ∷ []

answered : ((run both_answered two).end.session.incoming ≡ []) × ((run both_answered two).end.session.used ≡ 4)
    × (texts_of (written_after 2 (run both_answered two)) ≡ codes "{\"body\":{\"processId\":7},\"command\":\"runInTerminal\",\"request_seq\":4,\"seq\":3,\"success\":true,\"type\":\"response\"}"
    ∷ codes "{\"body\":{\"error\":{\"format\":\"The terminal refused.\",\"id\":1018}},\"command\":\"runInTerminal\",\"message\":\"terminalRefused\",\"request_seq\":3,\"seq\":4,\"success\":false,\"type\":\"response\"}" ∷ [])
unfolding canon tree_of request_members response_members initialize_members terminal_of escape_byte digits json_of is_utf8 chars serde_json_on_literals
answered = (refl, refl, refl)

-- with own numbers up to 1 a request is kept, and cannot be answered; one that would be answered at once closes the client
abbrev one_number : At
one_number = fresh_at (settings 8192 4194304 64 65536 4096 1 2147483647)

no_number_left : ((run (begun ++ asks 3 good ∷ answers 3 Refused ∷ []) one_number).unanswered ≡ Some SeqExhausted) × (length (run (begun ++ asks 3 good ∷ answers 3 Refused ∷ []) one_number).end.session.incoming ≡ 1)
    × ((run (begun ++ asks 3 (codes "{}") ∷ []) one_number).end.fault ≡ Some NoSeq)
unfolding canon tree_of request_members response_members initialize_members terminal_of escape_byte digits json_of is_utf8 chars serde_json_on_literals
no_number_left = (refl, refl, refl)

-- ---- what is announced

-- the last `initialize` counts, and before the first one nothing is announced
last_one_counts : ((run (sends announcing ∷ failure 1 (codes "initialize") ∷ sends initialize ∷ []) two).end.session.seen.announced ≡ false) × ((run begun two).end.session.seen.announced ≡ true)
    × (length (run (asks 3 good ∷ []) two).end.session.incoming ≡ 0)
unfolding canon tree_of request_members response_members initialize_members terminal_of escape_byte digits json_of is_utf8 chars serde_json_on_literals
last_one_counts = (refl, refl, refl)

-- bad arguments come before want of room, and the end of the session is none of what the adapter asks
bad_before_busy : (texts_of (written_after 2 (run (three_ask ++ asks 6 (codes "{\"cwd\":\"/\"}") ∷ []) two)) ≡ codes "{\"body\":{\"error\":{\"format\":\"The argument args is missing or malformed.\",\"id\":1005}},\"command\":\"runInTerminal\",\"message\":\"badArguments\",\"request_seq\":6,\"seq\":3,\"success\":false,\"type\":\"response\"}" ∷ [])
    × (length (run (begun ++ sends call.Disconnect ∷ asks 3 good ∷ []) two).end.session.incoming ≡ 1)
unfolding canon tree_of request_members response_members initialize_members terminal_of escape_byte digits json_of is_utf8 chars serde_json_on_literals
bad_before_busy = (refl, refl)
