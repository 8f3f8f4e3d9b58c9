use Rattle.std.proofs.Common.{◌≡◌, ◌++◌, [], take, drop, length, sym, ap, ◌∙◌, subst, arith}
use Rattle.std.proofs.lemmas.Grind.{common_steps}
use Rattle.std.proofs.lemmas.List.{take-append-drop}
use Rattle.dap_channel.specs.Sent.{Sends}
use Rattle.dap_stream.specs.Following.{Follows}
use Rattle.dap_stream.specs.Listing.{ListsSome, Shows}
use Rattle.dap_stream.specs.PrivateFollowing.{Came}
use Rattle.dap_stream.specs.PrivateShowSteps.{ListedTo}
use Rattle.dap_stream.specs.declared.following.FollowFault.TheVariants.{Write, Show}
use Rattle.std.specs.Prelude.{Err}
use Rattle.dap_stream.proofs.FollowLemmas.{before_piece, piece_sent, piece_refused, piece_unsent, some_listed, got_ok, got_err, lines_grown}
use Rattle.dap_stream.proofs.following.follow_piece.Goals as goal

pub returns-in-Ok-clause-goes_on : goal.returns-in-Ok-clause-goes_on
returns-in-Ok-clause-goes_on g c = λ limits start most came.
    let style = c.args.style in
    let bytes = c.args.bytes.now.items in
    let out = c.args.out.now.items in
    let all = c.list_rest-listed.new.out.items in
    let frames = c.args.frames.now in
    let after = c.list_rest-listed.new.frames in
    let more = c.in-Ok.more in
    let grown : c.extend_from_slice.new.self.items ≡ bytes ++ c.args.piece.now = grind (arith, common_steps, c.extend_from_slice.ensures.items, c.is_err.ensures.value, c.if-is_err.false) in
    let whole : c.deref.result.now ≡ bytes ++ c.args.piece.now = c.deref.ensures.value ∙ grown in
    let at : c.len-at.result ≡ length bytes = omega (arith, c.len-at.ensures, c.args.bytes.now.ok) in
    let sent : c.len-sent.result ≡ length out = omega (arith, c.len-sent.ensures, c.args.out.now.ok) in
    let lines = lines_grown out all c.split_at.result.1.now c.len-sent.result c.list_rest-listed.ensures.grows sent (c.split_at.ensures.back ∙ ap (λ z. drop c.len-sent.result z) c.deref-2.ensures.value) in
    let first = before_piece g.C.Channel.goes c.calls_add_up.ensures style limits most start _ frames bytes c.args.piece.now out c.args.refused came in
    let here : ListedTo style limits frames c.deref.result.now c.len-at.result [] out c.args.refused =
    subst (λ b. ListedTo style limits frames b c.len-at.result [] out c.args.refused) (sym whole) (subst (λ n. ListedTo style limits frames (bytes ++ c.args.piece.now) n [] out c.args.refused) (sym at) first) in
    let listed : ListedTo style limits after (bytes ++ c.args.piece.now) (length (bytes ++ c.args.piece.now)) [] all more =
    subst (λ b. ListedTo style limits after b (length b) [] all more) whole (c.in-Ok.ensures.ok limits [] here) in
    let went = got_ok c.send.result (Sends g.C.Channel.goes c.args.channel.now c.send.new.channel c.split_at.result.1.now) c.if-is_err-2.ensures.value c.send.ensures.sent in
    subst (λ b. Came g.C.Channel.goes style limits most start c.send.new.channel after b [] all more) (sym grown)
    (piece_sent g.C.Channel.goes c.calls_add_up.ensures style limits most start _ frames bytes c.args.piece.now out c.args.refused came c.send.new.channel c.split_at.result.1.now all lines went after more c.in-Ok.ensures.under_way listed)

pub returns-in-Err-clause-stops : goal.returns-in-Err-clause-stops
returns-in-Err-clause-stops g c = λ limits start most came.
    let style = c.args.style in
    let bytes = c.args.bytes.now.items in
    let out = c.args.out.now.items in
    let all = c.list_rest-listed.new.out.items in
    let frames = c.args.frames.now in
    let grown : c.extend_from_slice.new.self.items ≡ bytes ++ c.args.piece.now = grind (arith, common_steps, c.extend_from_slice.ensures.items, c.is_err.ensures.value, c.if-is_err.false) in
    let whole : c.deref.result.now ≡ bytes ++ c.args.piece.now = c.deref.ensures.value ∙ grown in
    let at : c.len-at.result ≡ length bytes = omega (arith, c.len-at.ensures, c.args.bytes.now.ok) in
    let sent : c.len-sent.result ≡ length out = omega (arith, c.len-sent.ensures, c.args.out.now.ok) in
    let lines = lines_grown out all c.split_at.result.1.now c.len-sent.result c.list_rest-listed.ensures.grows sent (c.split_at.ensures.back ∙ ap (λ z. drop c.len-sent.result z) c.deref-2.ensures.value) in
    let first = before_piece g.C.Channel.goes c.calls_add_up.ensures style limits most start _ frames bytes c.args.piece.now out c.args.refused came in
    let here : ListedTo style limits frames c.deref.result.now c.len-at.result [] out c.args.refused =
    subst (λ b. ListedTo style limits frames b c.len-at.result [] out c.args.refused) (sym whole) (subst (λ n. ListedTo style limits frames (bytes ++ c.args.piece.now) n [] out c.args.refused) (sym at) first) in
    let shows : Shows style limits (bytes ++ c.args.piece.now) [] all (Err c.in-Err.fault) =
    subst (λ b. Shows style limits b [] all (Err c.in-Err.fault)) whole (c.in-Err.ensures.err limits [] here) in
    let went = got_ok c.send.result (Sends g.C.Channel.goes c.args.channel.now c.send.new.channel c.split_at.result.1.now) c.if-is_err-2.ensures.value c.send.ensures.sent in
    subst (λ b. Follows g.C.Channel.goes style limits most start c.send.new.channel b (Err (Show c.in-Err.fault))) (sym grown)
    (piece_refused g.C.Channel.goes c.calls_add_up.ensures style limits most start _ frames bytes c.args.piece.now out c.args.refused came c.send.new.channel c.split_at.result.1.now all lines went c.in-Err.fault shows)

pub returns-then-is_err-2-clause-stops : goal.returns-then-is_err-2-clause-stops
returns-then-is_err-2-clause-stops g c = λ limits start most came.
    let style = c.args.style in
    let bytes = c.args.bytes.now.items in
    let out = c.args.out.now.items in
    let all = c.list_rest-listed.new.out.items in
    let frames = c.args.frames.now in
    let grown : c.extend_from_slice.new.self.items ≡ bytes ++ c.args.piece.now = grind (arith, common_steps, c.extend_from_slice.ensures.items, c.is_err.ensures.value, c.if-is_err.false) in
    let whole : c.deref.result.now ≡ bytes ++ c.args.piece.now = c.deref.ensures.value ∙ grown in
    let at : c.len-at.result ≡ length bytes = omega (arith, c.len-at.ensures, c.args.bytes.now.ok) in
    let sent : c.len-sent.result ≡ length out = omega (arith, c.len-sent.ensures, c.args.out.now.ok) in
    let lines = lines_grown out all c.split_at.result.1.now c.len-sent.result c.list_rest-listed.ensures.grows sent (c.split_at.ensures.back ∙ ap (λ z. drop c.len-sent.result z) c.deref-2.ensures.value) in
    let first = before_piece g.C.Channel.goes c.calls_add_up.ensures style limits most start _ frames bytes c.args.piece.now out c.args.refused came in
    let here : ListedTo style limits frames c.deref.result.now c.len-at.result [] out c.args.refused =
    subst (λ b. ListedTo style limits frames b c.len-at.result [] out c.args.refused) (sym whole) (subst (λ n. ListedTo style limits frames (bytes ++ c.args.piece.now) n [] out c.args.refused) (sym at) first) in
    let some : ListsSome style limits (bytes ++ c.args.piece.now) [] all =
    subst (λ b. ListsSome style limits b [] all) whole (some_listed style frames c.list_rest-listed.new.frames c.deref.result.now out all c.len-at.result c.args.refused c.list_rest-listed.result c.list_rest-listed.ensures.ok c.list_rest-listed.ensures.err limits here) in
    let short = got_err c.send.result _ c.if-is_err-2.ensures.value c.send.ensures.short in
    subst (λ b. Follows g.C.Channel.goes style limits most start c.send.new.channel b (Err Write)) (sym grown)
    (piece_unsent g.C.Channel.goes c.calls_add_up.ensures style limits most start _ frames bytes c.args.piece.now out c.args.refused came c.send.new.channel c.split_at.result.1.now all (take short.1.0 c.split_at.result.1.now) (drop short.1.0 c.split_at.result.1.now) lines (sym (take-append-drop short.1.0 c.split_at.result.1.now)) short.1.3 some)
