-- What holds of references in every schedule in which a stop lasts: what stands there is what is said of each world.
use Rattle.std.proofs.Common.{None, refl, ◌≡◌, ℕ, ◌<◌, ◌≤◌, List, [], ◌∷◌, ◌++◌, length, Bool, false, Result, Ok, Err, sym, ap, ◌∙◌, subst, inl, inr, arith}
use Rattle.std.specs.List.{AllByRecursion}
use Rattle.dap_ends.specs.AdapterModel.{asks as small_asks}
use Rattle.dap_ends.specs.Laws.{NamesLive, KeepsLimit}
use Rattle.dap_ends.specs.Messages.{Ask, requests_in}
use Rattle.dap_ends.specs.Pair.{Pair, client_world, client_dialogue, reports_down, requests_up}
use Rattle.dap_ends.specs.References.{RefWorld, IsWithin, given_with, live_refs, AsksKnown}
use Rattle.dap_ends.proofs.Keeps.{limit-next}
use Rattle.dap_ends.proofs.RefsAgrees.{all-live as all-names-live}
use Rattle.dap_frame.specs.Settings.{Settings, AreInRange}
use Rattle.dap_envelope.specs.declared.message.Kind.{Kind}
use Rattle.dap_envelope.specs.declared.message.Kind.TheVariants.{Request, Response, Event, Other}
use Rattle.dap_envelope.specs.declared.message.Message.{Message}
use Rattle.dap_history.specs.Requests.{asks}
use Rattle.dap_tables.specs.Outstanding.{Kept}
use Rattle.dap_tables.specs.References.{LiveReferences}
use Rattle.dap_tables.specs.declared.entry.Entry.{Entry}
use Rattle.dap_check.specs.Legal.{least_broken}
use Rattle.dap_check.specs.Rules.{is_broken}
use Rattle.dap_check.specs.declared.line.Line.{Line}
use Rattle.dap_check.specs.declared.rule.AnySeq.TheVariants.{OfNone}
use Rattle.dap_check.specs.declared.rule.Rule.TheVariants.{Seq, Answer, FirstRequest, Initialized, Gate, Reference, Disconnect}
use Rattle.dap_check.specs.declared.line.Side.{Side}
use Rattle.dap_check.specs.declared.line.Side.TheVariants.{Client, Adapter}
use Rattle.dap_client.specs.Taking.{Made as ClientMade, made_by_keeping, request_from, takes as client_takes}
use Rattle.dap_client.specs.declared.fault.ClientFault.{ClientFault}
use Rattle.dap_client.specs.declared.fault.ClientFault.TheVariants.{ReferenceLimit}
use Rattle.dap_debuggee.specs.Laws.{Answers, Moves}
use Rattle.dap_debuggee.specs.Shown.{Shown}
use Rattle.dap_plan.specs.Carried.{Goes}
use Rattle.dap_query.specs.References.{AreLive}
use Rattle.dap_plan.specs.StateLaws.{EachStepKeepsState}
use Rattle.dap_client.specs.Projection.{references_seen, eyes_of}
use Rattle.dap_world.specs.MessageReferences.{references_used_by_request, references_used_by_kind, references_of_kind}
use Rattle.dap_world.specs.Projection.{message_seen, notes_seen, all_kept, table_of, pair_of, written_seen}
use Rattle.dap_world.specs.References.{LastingStops, ReferencesAgreeWhileStopsLast, EachTranscriptIsLegalWhileStopsLast}
use Rattle.dap_world.specs.Transcripts.{said_of, Keeps, KeepsRules}
use Rattle.dap_world.specs.World.{World, Said}
use Rattle.dap_world.proofs.Agreeing.{down-fault}
use Rattle.dap_world.proofs.ClientStepping.{down-first, down-comes, request-kept}
use Rattle.dap_world.proofs.Legality.{each-transcript-keeps-rules}
use Rattle.dap_world.proofs.GateStepping.{GateAt, AllGated, gate-at, schedule-gated}
use Rattle.dap_world.proofs.NeverStale.{never-stale}
use Rattle.dap_world.proofs.ReferenceRule.{IsAskedSo, keeps-reference}
use Rattle.dap_world.proofs.ReferencesSeen.{are-live}
use Rattle.dap_world.proofs.Standing.{IsOwnKind, AllUp, AllOwn, Stands}
use Rattle.dap_world.proofs.Stepping.{Laws}
use Rattle.dap_world.proofs.StillWorlds.{StandsStill, schedule-still}

-- ---- what requests use is live

names-left : (w : RefWorld) (xs ys : List Ask) → NamesLive w (xs ++ ys) → NamesLive w xs
names-left w [] ys h = tt
names-left w (x ∷ xs) ys h = (h.0, names-left w xs ys h.1)

names-right : (w : RefWorld) (xs ys : List Ask) → NamesLive w (xs ++ ys) → NamesLive w ys
names-right w [] ys h = h
names-right w (x ∷ xs) ys h = names-right w xs ys h.1

module _ {D : Type 0} (limits : Settings) (w : World D) (g : Stands limits w) where
  abbrev refs : LiveReferences
  refs = w.adapter.session.references

  abbrev seen : RefWorld
  seen = client_world (pair_of w g.by)

  used-live : (e : Entry) → g.by.uses e.seq ≡ references_seen (references_used_by_request e) → IsWithin (g.by.uses e.seq) (live_refs (table_of refs)) → AreLive refs (references_used_by_request e)
  used-live e named h = are-live refs (references_used_by_request e) (subst (λ (xs : _). IsWithin xs (live_refs (table_of refs))) named h)

  kept-live : (ks : List Kept) → AllOwn g.by w.client.used (asks ks) → NamesLive seen (small_asks (all_kept ks)) → AllByRecursion (λ k. AreLive refs (references_used_by_request k.entry)) ks
  kept-live [] o h = tt
  kept-live (k ∷ ks) o h = (used-live k.entry o.0.named h.0, kept-live ks o.1 h.1)

  abbrev UpLive : List Message → Type 0
  UpLive ms = AllByRecursion (λ m. AreLive refs (references_used_by_kind m.kind)) ms

  up-first : (seq : ℕ) (kind : Kind) (ms : List Message) → IsOwnKind g.by w.client.used seq kind → NamesLive seen (requests_in (requests_up (notes_seen ((let x : Message = record { seq = seq; kind = kind } in x) ∷ ms))))
      → (NamesLive seen (requests_in (requests_up (notes_seen ms))) → UpLive ms) → AreLive refs (references_used_by_kind kind) × UpLive ms
  up-first seq (Request name arguments) ms own h rest = (used-live (record { seq = seq; command = name; arguments = arguments }) own.named h.0, rest h.1)
  up-first seq (Response q ok name message body) ms own h rest = (tt, rest h)
  up-first seq (Event name body) ms own h rest = absurd own
  up-first seq (Other tag) ms own h rest = absurd own

  up-live : (ms : List Message) → AllUp g.by w.client.used ms → NamesLive seen (requests_in (requests_up (notes_seen ms))) → UpLive ms
  up-live [] o h = tt
  up-live (m ∷ ms) o h = up-first m.seq m.kind ms o.0 h (up-live ms o.1)

-- ---- the client meets no fault

no-more : (m n : ℕ) → m ≤ n → n < m → ⊥
no-more m n h k = absurd (let z : n < n = omega (arith, h, k) in omega (arith, z))

module _ {D : Type 0} (laws : Laws) (shown : D → Shown) (limits : Settings) (debuggee : D) (w : World D) (g : StandsStill shown limits debuggee w) where
  next-few : (m : Message) (later : List Message) → w.down ≡ m ∷ later → KeepsLimit limits.references (client_world (pair_of w g.stands.by)) (reports_down (notes_seen (m ∷ later)))
  next-few m later e =
      subst (λ (ms : List Message). KeepsLimit limits.references (client_world (pair_of w g.stands.by)) (reports_down (notes_seen ms))) e
      (limit-next limits.requests limits.references (client_world (pair_of w g.stands.by)) g.keeps.refs)

  client-fault : AreInRange limits → (seq : ℕ) (kind : Kind) (later : List Message) (f : ClientFault) → w.down ≡ (let m : Message = record { seq = seq; kind = kind } in m) ∷ later → client_takes (record { seq = seq; kind = kind }) w.client ≡ Err f → ⊥
  client-fault r seq (Request name arguments) later f e t =
      let m : Message = record { seq = seq; kind = Request name arguments } in
      let clash : Ok (made_by_keeping (request_from seq name arguments) w.client) ≡ (let x : Result ClientMade ClientFault = Err f in x) =
      sym (request-kept laws seq name arguments w.client (down-first limits w m later e g.stands).0 (down-comes limits w m later r e g.stands)) ∙ t in
      cc
  client-fault r seq (Response q ok name message body) later f e t =
      let m : Message = record { seq = seq; kind = Response q ok name message body } in
      let full : f ≡ ReferenceLimit = down-fault laws limits w seq m.kind later f r g.stands e t in
      let few : length (given_with (eyes_of w.client) (message_seen m) (references_seen (references_of_kind m.kind))) ≤ limits.references = next-few m later e in
      let room = ap (λ (l : Settings). l.references) g.stands.client_limits in
      elim (laws.client.refused w.client seq q ok name message body f g.stands.client_within t) [
        | inl x ↦ no-more (length (given_with (eyes_of w.client) (message_seen m) (references_seen (references_of_kind m.kind)))) w.client.limits.references (subst (λ (n : ℕ). length (given_with (eyes_of w.client) (message_seen m) (references_seen (references_of_kind m.kind))) ≤ n) (sym room) few) x.2
        | inr x ↦ elim x [ inl y ↦ (let clash = sym full ∙ y.0 in cc) | inr y ↦ (let clash = sym full ∙ y.0 in cc) ]
      ]
  client-fault r seq (Event name body) later f e t = cc
  client-fault r seq (Other tag) later f e t = absurd (down-first limits w (record { seq = seq; kind = Other tag }) later e g.stands).0

-- ---- the law

asked-so : (b : Bool) (side : Side) (kind : Kind) → GateAt b side kind → IsAskedSo side kind
asked-so b Client (Request name arguments) h = h.1
asked-so b Client (Response q ok name message body) h = tt
asked-so b Client (Event name body) h = tt
asked-so b Client (Other tag) h = tt
asked-so b Adapter kind h = tt

pub references-agree : {D : Type 0} (laws : Laws) (states : EachStepKeepsState) (shown : D → Shown) (follows : Goes D) → Answers shown follows → Moves shown follows → ReferencesAgreeWhileStopsLast shown follows
references-agree {D} laws states shown follows answers moves limits debuggee w r s =
    let g : StandsStill shown limits debuggee w = schedule-still shown follows answers moves laws states limits debuggee w r s in
    let p : Pair = pair_of w g.stands.by in
    let live : NamesLive (client_world p) (small_asks (all_kept w.adapter.session.kept) ++ requests_in (requests_up (notes_seen w.up))) = all-names-live limits.requests limits.references (client_world p) g.keeps.refs in
    let kept : AllByRecursion (λ k. AreLive w.adapter.session.references (references_used_by_request k.entry)) w.adapter.session.kept = kept-live limits w g.stands w.adapter.session.kept g.stands.kept (names-left (client_world p) (small_asks (all_kept w.adapter.session.kept)) (requests_in (requests_up (notes_seen w.up))) live) in
    record {
      live = record {
        kept = kept;
        up = up-live limits w g.stands w.up g.stands.up (names-right (client_world p) (small_asks (all_kept w.adapter.session.kept)) (requests_in (requests_up (notes_seen w.up))) live);
      };
      fresh = never-stale (shown w.adapter.debuggee) w.adapter.session w.adapter.session.kept kept;
      client = λ m later f e t. client-fault laws shown limits debuggee w g r m.seq m.kind later f e t;
      given = λ lines e earlier line later d.
          let gated = schedule-gated laws shown (LastingStops shown follows) limits debuggee w r s in
          let is : w.said ≡ said_of (earlier ++ line ∷ later) = sym e ∙ ap said_of d in
          let gate = gate-at false earlier line later (subst (AllGated false) is gated.gated) in
          let legal : AsksKnown [] (client_dialogue (written_seen w.said)) = g.keeps.refs.legal in
          keeps-reference laws.read earlier line later (asked-so _ line.side line.message.kind gate) (subst (λ (xs : List Said). AsksKnown [] (client_dialogue (written_seen xs))) is legal);
    }

-- with the other six rules
none-broken : (earlier : List Line) (line : Line) → is_broken OfNone Seq earlier line ≡ false → is_broken OfNone Answer earlier line ≡ false → is_broken OfNone FirstRequest earlier line ≡ false → is_broken OfNone Initialized earlier line ≡ false → is_broken OfNone Gate earlier line ≡ false
    → is_broken OfNone Reference earlier line ≡ false → is_broken OfNone Disconnect earlier line ≡ false → least_broken OfNone earlier line ≡ None
none-broken earlier line a b c d e f g = rw (a, b, c, d, e, f, g) refl

pub transcripts-are-legal : {D : Type 0} (laws : Laws) (states : EachStepKeepsState) (shown : D → Shown) (follows : Goes D) → Answers shown follows → Moves shown follows → EachTranscriptIsLegalWhileStopsLast shown follows
transcripts-are-legal {D} laws states shown follows answers moves limits debuggee w lines r s e =
    let rules : KeepsRules lines = each-transcript-keeps-rules laws shown (LastingStops shown follows) limits debuggee w lines r s e in
    let given : Keeps Reference lines = (references-agree laws states shown follows answers moves limits debuggee w r s).given lines e in
    λ earlier line later d. none-broken earlier line (rules.seq earlier line later d) (rules.answer earlier line later d) (rules.first_request earlier line later d) (rules.initialized earlier line later d) (rules.gate earlier line later d) (given earlier line later d) (rules.disconnect earlier line later d)
