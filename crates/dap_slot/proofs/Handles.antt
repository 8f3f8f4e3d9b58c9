-- The walks of a handle that crosses to C, for each type that one is of: the slot that it is made of, and the slot that it
-- is again. A crate has a struct of its own, as no type with parameters crosses. Assumes `Logic`.
--     Handle           the struct, at what is behind it
--     from_slot_meets, into_slot_meets     the functions that take the slot apart and make it again
use Rattle.std.proofs.Common.{◌≡◌, List, [], ◌∷◌, ◌++◌, refl, sym, ap, subst}
use Rattle.std.specs.Prelude.{Option}
use lib.Dec.{lit<}
use seplogic.Ra.Ura.{Ura}
use mir.Syntax.{Sym, Fn, Callee, ty_ptr, impl, tnil, dnil}
use mir.Syntax as syntax
use mir.Val.{Val, vstruct, vcons, vnil, of_list}
use base.Stored.{Coded}
use base.Logic.{SProp, ent, emp, id⊢}
use base.Fml.{ftrue}
use prog.Model.{Model}
use prog.Wp.{WpFn, Closed}
use types.Logic.{Logic}
use types.Kit.{Item, Goal, Seq, Step, step, ‵, raw, ◌⊛◌, ◌$◌, ◌∵◌, !, qed, by, move, keep, drop, split, fsplit, fjoin, fpick, fpack, feq_i, feq_l, suffices, use0, rewrite}
use types.Run.{stop, fld, of_opd, no_more, and_then, returns, enter}
use types.ByLocal.{alloc_all, pass_all, free_all, look_at, get, get_in, sets}
use types.Part.{agg, sub, whole}
use contract.Monad.{fact, fact_i}
use contract.Running.{Running, tables}
use denote.Exit.{yes}
use denote.RattleType.{RattleType, Valss, owns}
use denote.Builtin.{RawPtr}
use denote.RawPtr.{Ptr, block_ptr, null_ptr, ptr_val}
use denote.Signature.{Signature, types_at, plain}
use denote.Steps.{nothing}
use denote.Param.{layout}
use denote.Param.Laws.{Laws}
use denote.Struct.Field.{RawPtr-field}
use denote.Struct.Struct.{within}
use denote.Struct.Owning.{Owning, owning, shape, row}
use denote.Struct.Record.{Record, Also, Done}
use denote.Triple.Clauses.{Ended, Clauses, closing}
use denote.Triple.Spec.{Meets}
use denote.Triple.Walked.{Stays, stay_dropped, walk_of, Goes-dropped}
use Rattle.core.proofs.alloc.Calls.{Al, handle_tells}
use Rattle.core.proofs.cell.Inside.{Good}
use Rattle.std.proofs.raw_atomic.Walks.{proved_at, leaves}
use Rattle.std_heap.specs.contracts.Global as heap
use Rattle.std_heap.specs.contracts.GlobalAllocator.TheImpl.{ghosts}
use Rattle.std_heap.proofs.Global.TheLaws as heap_laws
use Rattle.dap_slot.proofs.Values.{both, Slot, slot_good, null_good, ptr_fits, slot_parts, slot_whole}
use Rattle.dap_slot.specs.Owned.{handle_owns}

abbrev pub Z : RattleType
Z = heap.the_row

abbrev pub LZ : Laws Z
LZ = heap_laws.the_row_laws

abbrev al : Al
al = record { row = Z; laws = LZ; g = ghosts; d = impl [] tnil dnil; drops = impl [] tnil dnil }

pub record Handle : Type 2 where
  pub behind : RattleType
  pub name : Sym
  pub D : Type 0
  pub at : D → Ptr
  pub value : D → Option behind.Denot
  pub make : Ptr → Option behind.Denot → D
  pub at_made : (p : Ptr) (o : Option behind.Denot) → at (make p o) ≡ p
  pub value_made : (p : Ptr) (o : Option behind.Denot) → value (make p o) ≡ o
  pub made : (d : D) → make (at d) (value d) ≡ d
  pub codes : Ptr × Unit {0} → Coded (Also (Option behind.Denot) (λ _. Done))

module _ (N : Handle) where
  abbrev pub R : RattleType
  R = N.behind

  abbrev pub S : RattleType
  S = Slot R Z LZ ghosts

  abbrev pub struct : Record
  struct = record {
    name = N.name;
    args = [];
    types = [];
    parts = RawPtr-field ∷ [];
    D = N.D;
    as_values = λ d. (N.at d, tt);
    Ghost = λ _. Also (Option R.Denot) (λ _. Done);
    ghosts = λ d. (N.value d, tt);
    make = λ v g. N.make v.0 g.0;
    eta = N.made;
    beta = λ v g. ap (λ (p : Ptr). (p, tt)) (N.at_made v.0 g.0);
  }

  abbrev pub the_type : Owning
  the_type = owning struct N.codes (λ d. handle_owns R (N.at d) (N.value d))

  abbrev pub Hd : RattleType
  Hd = row the_type

  pub slot_fits : (p : Ptr) (h : Val) → Good (layout Z) h → Good (layout S) (both (ptr_val p) h)
  slot_fits (block_ptr b o) h fits = slot_good R Z LZ ghosts b o h fits
  slot_fits null_ptr h fits = null_good R Z LZ ghosts h fits

  abbrev pub word : Ptr → Val
  word p = vstruct (vcons (ptr_val p) vnil)

  pub handle_fits : (p : Ptr) → Good (layout Hd) (word p)
  handle_fits (block_ptr b o) = (tt, (tt, tt))
  handle_fits null_ptr = (tt, (record { fits = lit< tt }, tt))

  module _ {M : Type 1} {𝓤 : Ura M} {𝓛 : Logic 𝓤} {K : Type 0} {Γ : List (Item 𝓤)} {G : Goal 𝓤 𝓛.H} where
    pub handle_parts : K → (d : N.D) (vs : List Val)
        → (vs ≡ word (N.at d) ∷ [] → Seq K 𝓛 (‵ (handle_owns R (N.at d) (N.value d)) ∷ Γ) G)
        → Seq K 𝓛 (‵ (Hd.own_val d vs) ∷ Γ) G
    handle_parts t d vs k =
        fsplit t $ fpick t (λ vss. fsplit t $ feq_l t (λ ev. fsplit t $ feq_l t (λ ep. drop t $
        k (subst (λ (ps : List Val). vs ≡ vstruct (of_list (ps ++ [])) ∷ []) ep ev))))

    pub handle_whole : K → (p : Ptr) (o : Option R.Denot)
        → Step K 𝓛 (‵ (Hd.own_val (N.make p o) (word p ∷ [])) ∷ Γ) G (‵ (handle_owns R p o) ∷ Γ) G
    handle_whole t p o = step (λ s. let d : N.D = N.make p o in let v : Val = word p in
        rewrite t 0 (λ (q : Ptr). ‵ (handle_owns R q o)) (sym (N.at_made p o)) refl $ rewrite t 0 (λ (x : Option R.Denot). ‵ (handle_owns R (N.at d) x)) (sym (N.value_made p o)) refl $
        nothing t $ feq_i t (List Val) (ptr_val p ∷ []) (ptr_val (N.at d) ∷ []) (sym (ap (λ (q : Ptr). ptr_val q ∷ []) (N.at_made p o))) $ fjoin t $ feq_i t (List Val) (v ∷ []) (v ∷ []) refl $ fjoin t $
        fpack t (Valss (RawPtr ∷ [])) (within (shape the_type) (N.at d, tt) (v ∷ [])) (ptr_val p ∷ [], tt) $ fjoin t $ s)

  -- ---- the slot as a handle
  abbrev pub from_slot_signature : Signature
  from_slot_signature = record { lifetimes = 0; outlives = []; params = plain (λ _. S) ∷ []; result = plain (λ _. Hd) }

  abbrev pub from_slot_ended : Ended
  from_slot_ended = record { signature = from_slot_signature; kept = (yes, tt) }

  abbrev pub from_slot_code : Fn
  from_slot_code = record {
    lifetimes = 0;
    outlives = [];
    ty_params = [];
    givens = 0;
    params = 1;
    locals = syntax.local (layout Hd) syntax.value_local ∷ syntax.local (layout S) syntax.value_local ∷ syntax.local ty_ptr syntax.value_local ∷ syntax.local ty_ptr syntax.value_local ∷ [];
    body = syntax.seq (syntax.assign (syntax.place 2 []) (syntax.rv_opd (syntax.copy (syntax.place 1 (syntax.field 0 ∷ []))))) (syntax.seq (syntax.assign (syntax.place 3 []) (syntax.rv_opd (syntax.copy (syntax.place 2 [])))) (syntax.seq (syntax.assign (syntax.place 0 []) (syntax.aggregate (syntax.copy (syntax.place 3 []) ∷ []))) syntax.return));
  }

  module _ {M : Type 1} (𝓤 : Ura M) (𝓛 : Logic 𝓤) where
    abbrev pub from_slot_clauses : Clauses 𝓤 from_slot_ended
    from_slot_clauses κs a = record { ghost = Unit {0}; requires = λ _. emp 𝓤; ensures = λ _ r _. fact 𝓤 (N.value r ≡ a.0.value) }

    pub from_slot_meets : (𝓜 : Model 𝓤 𝓛.H) (𝓡 : Running 𝓤 𝓛.H 𝓜) (k : Callee)
        → Closed 𝓤 𝓛.H (tables 𝓤 𝓛.H 𝓜 𝓡 𝓡.env).C (tables 𝓤 𝓛.H 𝓜 𝓡 𝓡.env).Λ k from_slot_code
        → Meets 𝓛 from_slot_signature ((tables 𝓤 𝓛.H 𝓜 𝓡 𝓡.env).C k) (closing 𝓛 from_slot_ended from_slot_clauses)
    from_slot_meets 𝓜 𝓡 k closed =
        let H = 𝓛.H in let 𝓣 = tables 𝓤 H 𝓜 𝓡 𝓡.env in let En = from_slot_ended in let c = from_slot_clauses in
        let hs : Stays En.signature.params En.kept = (stay_dropped (plain (λ _. S)) yes, tt) in
        proved_at 𝓛 En hs c 𝓜 𝓡 (Goes-dropped 𝓛 0 (plain (λ _. S)) yes (λ κs x f. refl), tt) k from_slot_code closed (λ z are.
        let v = z.0.3.0 in let Post : Val → SProp 𝓤 = (walk_of 𝓛 En hs c).post z in let Run : List Val → SProp 𝓤 = λ ws. WpFn 𝓤 H 𝓣.C 𝓣.Λ from_slot_code ws Post in let made = N.make v.at v.value in
        qed 𝓛 ((‵ ftrue ⊛ ‵ (owns (types_at En.signature.params z.0.0) z.0.3 z.0.4)) ∷ raw ((c z.0.0 z.0.3).requires z.1) ∷ []) ∵ split ! $ move ! (1 ∷ []) $ fsplit ! $ slot_parts R Z LZ ghosts ! v z.0.4.0 (λ h ws fits.
        let w : Val = both (ptr_val v.at) h in
        suffices ! (Run (w ∷ [])) (subst (λ (us : List Val). ent 𝓤 (Run (w ∷ [])) (Run us)) (sym (λ i. ws i ++ [])) (id⊢ 𝓤 (Run (w ∷ [])))) $
        enter ! 𝓣.C 𝓣.Λ from_slot_code (w ∷ []) Post $ alloc_all ! (λ l. pass_all ! refl (slot_fits v.at h fits, tt) $
        sets ! (of_opd ! (get_in ! (fld ! refl (stop !)) (sub ! 0 refl (whole !)))) refl (ptr_fits v.at) $
        sets ! (of_opd ! (get ! refl)) refl (ptr_fits v.at) $
        sets ! (agg ! (and_then ! (get ! refl) (no_more !))) refl (handle_fits v.at) $
        handle_whole ! v.at v.value $
        use0 𝓛 (raw (fact 𝓤 (N.value made ≡ v.value))) (fact_i 𝓤 (N.value made ≡ v.value) (emp 𝓤) (N.value_made v.at v.value)) $ nothing ! $ nothing ! $ fjoin ! $
        returns ! (look_at ! 0 refl) $ free_all ! refl $ keep ! (5 ∷ 0 ∷ 2 ∷ 1 ∷ []) $ by ! (leaves 𝓛 En hs c z (word v.at) made (tt, tt) (tt, tt)))))

  -- ---- the handle as a slot
  abbrev pub into_slot_signature : Signature
  into_slot_signature = record { lifetimes = 0; outlives = []; params = plain (λ _. Z) ∷ plain (λ _. Hd) ∷ []; result = plain (λ _. S) }

  abbrev pub into_slot_ended : Ended
  into_slot_ended = record { signature = into_slot_signature; kept = (yes, (yes, tt)) }

  abbrev pub into_slot_code : Fn
  into_slot_code = record {
    lifetimes = 0;
    outlives = [];
    ty_params = [];
    givens = 0;
    params = 2;
    locals = syntax.local (layout S) syntax.value_local ∷ syntax.local (layout Z) syntax.value_local ∷ syntax.local (layout Hd) syntax.value_local ∷ syntax.local ty_ptr syntax.value_local ∷ syntax.local ty_ptr syntax.value_local ∷ [];
    body = syntax.seq (syntax.assign (syntax.place 3 []) (syntax.rv_opd (syntax.copy (syntax.place 2 (syntax.field 0 ∷ []))))) (syntax.seq (syntax.assign (syntax.place 4 []) (syntax.rv_opd (syntax.copy (syntax.place 3 [])))) (syntax.seq (syntax.assign (syntax.place 0 []) (syntax.aggregate (syntax.copy (syntax.place 4 []) ∷ syntax.copy (syntax.place 1 []) ∷ []))) syntax.return));
  }

  module _ {M : Type 1} (𝓤 : Ura M) (𝓛 : Logic 𝓤) where
    abbrev pub into_slot_clauses : Clauses 𝓤 into_slot_ended
    into_slot_clauses κs a = record { ghost = Unit {0}; requires = λ _. emp 𝓤; ensures = λ _ r _. fact 𝓤 (r.value ≡ N.value a.1.0) }

    pub into_slot_meets : (𝓜 : Model 𝓤 𝓛.H) (𝓡 : Running 𝓤 𝓛.H 𝓜) (k : Callee)
        → Closed 𝓤 𝓛.H (tables 𝓤 𝓛.H 𝓜 𝓡 𝓡.env).C (tables 𝓤 𝓛.H 𝓜 𝓡 𝓡.env).Λ k into_slot_code
        → Meets 𝓛 into_slot_signature ((tables 𝓤 𝓛.H 𝓜 𝓡 𝓡.env).C k) (closing 𝓛 into_slot_ended into_slot_clauses)
    into_slot_meets 𝓜 𝓡 k closed =
        let H = 𝓛.H in let 𝓣 = tables 𝓤 H 𝓜 𝓡 𝓡.env in let En = into_slot_ended in let c = into_slot_clauses in
        let hs : Stays En.signature.params En.kept = (stay_dropped (plain (λ _. Z)) yes, (stay_dropped (plain (λ _. Hd)) yes, tt)) in
        proved_at 𝓛 En hs c 𝓜 𝓡 (Goes-dropped 𝓛 0 (plain (λ _. Z)) yes (λ κs x f. refl), (Goes-dropped 𝓛 0 (plain (λ _. Hd)) yes (λ κs x f. refl), tt)) k into_slot_code closed (λ z are.
        let a = z.0.3.0 in let d = z.0.3.1.0 in let p = N.at d in let o = N.value d in let Post : Val → SProp 𝓤 = (walk_of 𝓛 En hs c).post z in let Run : List Val → SProp 𝓤 = λ ws. WpFn 𝓤 H 𝓣.C 𝓣.Λ into_slot_code ws Post in
        qed 𝓛 ((‵ ftrue ⊛ ‵ (owns (types_at En.signature.params z.0.0) z.0.3 z.0.4)) ∷ raw ((c z.0.0 z.0.3).requires z.1) ∷ []) ∵ split ! $ move ! (1 ∷ []) $ fsplit ! $ handle_tells al ! a z.0.4.0 (λ h eh fits. move ! (1 ∷ []) $ fsplit ! $ handle_parts ! d z.0.4.1.0 (λ ws.
        let w : Val = word p in
        suffices ! (Run (h ∷ w ∷ [])) (subst (λ (us : List Val). ent 𝓤 (Run (h ∷ w ∷ [])) (Run us)) (sym (λ i. eh i ++ (ws i ++ []))) (id⊢ 𝓤 (Run (h ∷ w ∷ [])))) $
        enter ! 𝓣.C 𝓣.Λ into_slot_code (h ∷ w ∷ []) Post $ alloc_all ! (λ l. pass_all ! refl (fits, (handle_fits p, tt)) $
        sets ! (of_opd ! (get_in ! (fld ! refl (stop !)) (sub ! 0 refl (whole !)))) refl (ptr_fits p) $
        sets ! (of_opd ! (get ! refl)) refl (ptr_fits p) $
        sets ! (agg ! (and_then ! (get ! refl) (and_then ! (get ! refl) (no_more !)))) refl (slot_fits p h fits) $
        move ! (0 ∷ 2 ∷ []) $ slot_whole R Z LZ ghosts ! h (record { at = p; alloc = a; value = o }) $
        use0 𝓛 (raw (fact 𝓤 (o ≡ o))) (fact_i 𝓤 (o ≡ o) (emp 𝓤) refl) $ nothing ! $ nothing ! $ fjoin ! $ nothing ! $ fjoin ! $
        returns ! (look_at ! 0 refl) $ free_all ! refl $ keep ! (4 ∷ 0 ∷ 2 ∷ 1 ∷ []) $ by ! (leaves 𝓛 En hs c z (both (ptr_val p) h) (record { at = p; alloc = a; value = o }) (tt, (tt, tt)) (tt, (tt, tt)))))))
