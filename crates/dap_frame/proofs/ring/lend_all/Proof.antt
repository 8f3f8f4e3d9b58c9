-- `lend_all` hands the ring's own `&mut` to `make_contiguous`, and shares the slice that it lends for all the time that is left. Assumes `Logic`.
use Rattle.std.specs.Prelude.{⊤}
use Rattle.std.proofs.Common.{◌≡◌, ℕ, ◌*◌, ◌^◌, List, [], ◌∷◌, length, refl, ap, ◌∙◌, MutBor}
use Rattle.std.proofs.raw_atomic.Walks.{proved}
use seplogic.Ra.Ura.{Ura}
use mathlib.Core.Option.{none}
use mir.Syntax.{a_type, dcons, dnil, erased, named}
use mir.MapTy.{inst_fn}
use mir.Val.{Val}
use base.Fraction.{full_share}
use base.Logic.{ent, emp, id⊢, ex_i}
use base.Fml.{ftrue, flft, fres}
use contract.Monad.{fact, fact_i}
use contract.BorrowLft.{◌⊑◌, ⊑_static}
use contract.Running.{tables}
use types.Logic.{Logic, sem}
use types.Kit.{‵, raw, ◌⊛◌, some, later, ◌$◌, ◌∵◌, !, qed, move, keep, drop, use0, use1, use2, split, split3, join, fsplit, fjoin, flt_l, flt_i, feq_l, feq_i, pick, await, rewrite, suffices, frame, group, done}
use types.Run.{enter, addr, from, fld, hop, stop, no_more, and_then, returns}
use types.ByLocal.{alloc_all, pass_all, free_all, look_at, look_in_at, get, get_in, through, sets, lands_as}
use types.Part.{agg, sub, whole}
use denote.Builtin.{u8}
use denote.RattleType.{RattleType}
use denote.Exit.{no}
use denote.Param.{param, bounded}
use denote.Param.Laws.{Laws, of_field}
use denote.Param.Shared.{copy_shared}
use denote.Struct.Field.{u8-field}
use denote.Struct.Laws.{u8-laws, u8-copy}
use denote.Shares.{Shares-less}
use denote.Memory.{mem}
use denote.Array.{Array}
use denote.Ref.{MutRef, as_bor, mut_vals, mut_Tells}
use denote.Slice.{MutSlice, slice_val, finally}
use denote.Signature.{plain, mut_ref_to}
use denote.Follow.{follows, followed, follows_by, such_by, follows_if, follows_so}
use denote.FollowSlice.{finally-res}
use denote.Steps.{nothing, heard, only}
use denote.Triple.Call.{calls_at}
use denote.Triple.Clauses.{lasts}
use denote.Triple.Spec.{triple_of}
use denote.Triple.Table.{framed}
use denote.Triple.Walked.{Stays, says, stay_dropped, Goes-spent_ref, ends_at}
use borrow.Table.Owned.{ShrSlice}
use borrow.Rule.Slice.Handed.{sl_Share}
use Rattle.std.specs.List.{refill}
use Rattle.circular_buffer.specs.Buffer.{Buffer, buffer}
use Rattle.circular_buffer.specs.contracts.heap.HeapCircularBuffer.{the_row}
use Rattle.circular_buffer.specs.contracts.heap.HeapCircularBuffer.make_contiguous as callee
use Rattle.circular_buffer.proofs.heap.HeapCircularBuffer.make_contiguous.Met.{met}
use Rattle.dap_frame.specs.PrivateRingLends.{StaysItems}
use Rattle.dap_frame.specs.contracts.ring.lend_all as f
use Rattle.dap_frame.proofs.ring.lend_all.Statement.{statement}
use Rattle.dap_frame.proofs.ring.lend_all.Code as code

-- what is known of a last value is what `follows_so` says where nothing is lent on
rests : {M : Type 1} {𝓤 : Ura M} (𝓛 : Logic 𝓤) (R : RattleType) (γ : ℕ) (v : R.Denot) → ent 𝓤 (sem 𝓛 (fres γ (R.coded.code v))) (sem 𝓛 (follows_so R R γ none (λ _ _. ⊤) (λ n. n ≡ v)))
unfolding such_by follows_by
rests {𝓤 = 𝓤} 𝓛 R γ v = ex_i 𝓤 (λ (y : (p : (R.Denot → R.Denot) × R.Denot) × ((w : R.Denot) → ⊤) × p.1 ≡ v). sem 𝓛 (follows_if R R γ none y.0.0 y.0.1)) ((λ _. v, v), (λ _. tt), refl)

byte_laws : Laws u8
byte_laws = of_field u8-field u8-laws refl (copy_shared u8-field u8-copy)

pub lend_all_spec : {M : Type 1} → statement M
lend_all_spec 𝓤 𝓛 𝓜 𝓡 wired A LA g d dd bound glue =
    let args = bounded (a_type ∷ []) (A, tt) (dcons d (dcons dd dnil)) in let fn = inst_fn args code.function in
    let T = f.ended A g d dd in let c = f.clauses A g d dd 𝓛 𝓜.mem 𝓡.returns in let R : RattleType = the_row u8 (param 0 A) g in
    let hs : Stays T.signature.params T.kept = (stay_dropped (mut_ref_to (0 ∷ []) tt (plain (λ _. R))) no, tt) in
    proved 𝓛 T hs c 𝓜 𝓡 (Goes-spent_ref 𝓛 2 (0 ∷ []) tt (plain (λ _. R)), tt) (f.Key.name args) fn (code.unfolded 𝓤 𝓛.H 𝓜 𝓡 wired (A, tt) d dd)
    (λ κs. (mut_vals, tt)) (λ κs. (mut_Tells (named 0) κs.0 R, tt)) (λ κs qs bounds a _ are.
    let κ = κs.0 in let q = qs.0 in let r = a.0 in let vs = mut_vals r in
    qed 𝓛 (((‵ (flft κ q) ⊛ ‵ (flft κs.1.0 qs.1.0) ⊛ ‵ ftrue) ⊛ ‵ ((MutRef (named 0) κ R).own_val r vs) ⊛ ‵ ftrue) ∷ (raw (fact 𝓤 (κs.1.0 ⊑ A.lives)) ⊛ ‵ ftrue) ∷ []) ∵
    move ! (1 ∷ []) $ split ! $ heard ! _ (λ inside. drop ! $ split ! $ split3 ! $ move ! (3 ∷ []) $ split ! $ keep ! (0 ∷ 2 ∷ 3 ∷ []) $
    -- [the ring; the tokens of κ and of A's lifetime]
    enter ! _ _ _ _ _ $ alloc_all ! (λ l. pass_all ! refl ((tt, tt), tt) $
    sets ! (addr ! (through ! refl (stop !))) refl (tt, tt) $
    let G = triple_of 𝓛 (callee.signature u8 A g d dd) (callee.spec u8 A g d dd 𝓛 𝓜.mem 𝓡.returns) in
    let z : G.Ghost = (((κ, ([], (κs.1.0, tt))), (q, (full_share, (qs.1.0, tt))), (⊑_static κ, (bounds.0, tt)), (r, tt), (vs, tt)), tt) in
    nothing ! $ move ! (1 ∷ 0 ∷ []) $ join ! $ nothing ! $ move ! (3 ∷ 0 ∷ []) $ join ! $ use0 𝓛 (‵ (flft [] full_share)) (𝓛.lfts.lft-nil full_share) $ join ! $ move ! (2 ∷ []) $ join ! $ join ! $
    nothing ! $ use0 𝓛 (raw (fact 𝓤 (κs.1.0 ⊑ A.lives))) (fact_i 𝓤 _ (emp 𝓤) inside) $ join ! $ use0 𝓛 (raw (fact 𝓤 ([] ⊑ u8.lives))) (fact_i 𝓤 _ (emp 𝓤) (⊑_static [])) $ join ! $
    move ! (1 ∷ 0 ∷ []) $ use2 𝓛 (raw (G.pre z)) (id⊢ 𝓤 _) $
    calls_at ! (framed 𝓤 𝓛.H 𝓜 (tables 𝓤 𝓛.H 𝓜 𝓡 𝓡.env)) G (met 𝓤 𝓛 𝓜 𝓡 (code.calls-circular_buffer::HeapCircularBuffer::make_contiguous 𝓡.env wired) u8 A byte_laws LA g d dd bound glue) z
    (and_then ! (get ! refl) (no_more !)) (λ v.
    let F : List ℕ → Buffer ℕ = λ ws. buffer (refill (length r.now.items) r.now.items ws) r.now.capacity in
    use1 𝓛 (later (some (λ (s : MutBor (List ℕ)). ((‵ (flft κ q) ⊛ ‵ (flft [] full_share) ⊛ ‵ (flft κs.1.0 qs.1.0) ⊛ ‵ ftrue) ⊛ ‵ ((MutSlice (named 0) κ u8).own_val s (v ∷ []))) ⊛
    some (λ (ws : Unit {0} × Unit {0}). ‵ (lasts (callee.ended u8 A g d dd) z.0.0 z.0.3 ws) ⊛ ‵ (follows R (Array u8 0) r.ghost_name s.ghost_name F) ⊛ raw (fact 𝓤 (s.now ≡ r.now.items))
    ⊛ raw (fact 𝓤 ((ws : List ℕ) → length ws ≡ length r.now.items → refill (length r.now.items) r.now.items ws ≡ ws)))))) (id⊢ 𝓤 _) $
    await ! tt $ pick ! (λ s. split ! $ move ! (1 ∷ []) $ pick ! (λ ws. split ! $ drop ! $ split3 ! $ move ! (1 ∷ []) $ heard ! _ (λ same. move ! (1 ∷ []) $ heard ! _ (λ full.
    -- [what the ring's name follows; the tokens and the slice]
    move ! (1 ∷ []) $ split ! $ split ! $ move ! (1 ∷ []) $ split3 ! $ drop ! $ move ! (1 ∷ []) $ drop ! $ move ! (2 ∷ []) $
    -- [the slice; A's token; κ's token; what the ring's name follows]
    fsplit ! $ fsplit ! $ feq_l ! (λ is. fsplit ! $ flt_l ! (λ long. flt_l ! (λ wide.
    flt_i ! (length s.now * (mem u8).size) (2 ^ 63) wide $ flt_i ! (length s.now) (2 ^ 64) long $ fjoin ! $ fjoin ! $ move ! (0 ∷ 2 ∷ []) $
    use2 𝓛 (later (‵ ((ShrSlice erased κ u8).own_val (as_bor s)) ⊛ ‵ (finally u8 s.ghost_name s.now) ⊛ ‵ (flft κ q)))
    (sl_Share 𝓛 u8 s.ref_ptr.0 s.ref_ptr.1 s.ghost_name s.now byte_laws.shr_laws κ q (Shares-less 𝓛 u8 [] κ (⊑_static κ) (byte_laws.shares 𝓛))) $ await ! tt $ split3 ! $
    lands_as ! (ap only is) refl (tt, (tt, (record { fits = long }, tt))) $
    sets ! (addr ! (from ! (fld ! refl (hop ! (look_in_at ! 2 (sub ! 0 refl (whole !))) (stop !))))) refl (tt, tt) $
    sets ! (agg ! (and_then ! (get ! refl) (and_then ! (get_in ! (fld ! refl (stop !)) (sub ! 1 refl (whole !))) (no_more !)))) refl (tt, (tt, (record { fits = long }, tt))) $
    returns ! (look_at ! 0 refl) $ free_all ! refl $
    -- [the shared slice; the last value of the slice's name; κ's token; A's token; what the ring's name follows]
    move ! (4 ∷ 1 ∷ []) $ move ! (1 ∷ []) $ use1 𝓛 (‵ (fres s.ghost_name ((Array u8 0).coded.code s.now))) (finally-res 𝓛 u8 s.ghost_name s.now) $ move ! (1 ∷ 0 ∷ []) $
    use2 𝓛 (‵ (fres r.ghost_name (R.coded.code (F s.now)))) (followed 𝓛 R (Array u8 0) F r.ghost_name s.ghost_name s.now) $
    rewrite ! 0 (λ (b : Buffer ℕ). ‵ (fres r.ghost_name (R.coded.code b))) (ap (λ xs. buffer xs r.now.capacity) (full s.now (ap length same) ∙ same)) refl $
    use1 𝓛 (‵ (StaysItems (param 0 A) g r)) (rests 𝓛 R r.ghost_name r.now) $
    let out : Val = slice_val s.ref_ptr (length s.now) in
    move ! (1 ∷ []) $ fsplit ! $ feq_i ! (List Val) (out ∷ []) (out ∷ []) refl $ fjoin ! $ fjoin ! $
    suffices ! _ (ends_at 𝓛 T hs c ((κs, qs, bounds, a, (vs, tt)), tt) out (as_bor s) (tt, tt) (tt, tt)) $
    nothing ! $ nothing ! $ fjoin ! $ nothing ! $ move ! (5 ∷ 0 ∷ []) $ join ! $ move ! (4 ∷ 0 ∷ []) $ join ! $ group ! 3 $ frame ! $ says ! same $ done !)))))))))))
