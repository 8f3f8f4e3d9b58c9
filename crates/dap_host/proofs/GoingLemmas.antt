-- What holds of an open host after a step of its adapter.
use Rattle.std.proofs.Common.{◌≡◌, ℕ, ◌≤◌, List, [], ◌∷◌, ◌++◌, length, Bool, refl, sym, ap, ◌∙◌, subst, Option, Some, None, Result, Ok, Err}
use Rattle.std.specs.Prelude.{IfErr, IfOk}
use Rattle.dap_adapter.specs.AdapterState.{AdapterState}
use Rattle.dap_adapter.specs.Bodies.{IsBetween, BodiesComeOneByOne}
use Rattle.dap_adapter.specs.Calls.{Asks, Emits, Responds}
use Rattle.dap_message.specs.declared.outcome.Outcome.{Outcome}
use Rattle.dap_plan.specs.Plan.{written_by}
use Rattle.dap_plan.specs.SessionState.{AppendsSome}
use Rattle.serde_json.specs.Data.{Data}
use Rattle.dap_adapter.specs.Parts.{AnswersPiece, StopsAfter}
use Rattle.dap_adapter.specs.Run.{to_take, to_poll}
use Rattle.dap_adapter.specs.StandsFor.{StandsFor}
use Rattle.dap_decision.specs.declared.phase.Phase.{Phase}
use Rattle.dap_frame.specs.Settings.{Settings, AreInRange}
use Rattle.dap_frame.specs.Written.{frame_of}
use Rattle.dap_live.specs.LiveLaws.{FollowsLive}
use Rattle.dap_live.specs.LiveShown.{LiveState, shown_live, fresh_live}
use Rattle.dap_live.specs.MailState.{MailState, nothing_ahead, no_mail, with_coming}
use Rattle.dap_envelope.specs.declared.message.Message.{Message}
use Rattle.dap_outbox.specs.Draft.{bytes_of}
use Rattle.dap_recording.specs.declared.recording.RecordedSource.{RecordedSource}
use Rattle.dap_command.specs.declared.offer.Offer.{Offer}
use Rattle.dap_plan.specs.Session.{Session, opened_session}
use Rattle.dap_plan.specs.declared.fault.AdapterFault.{AdapterFault}
use Rattle.dap_host.specs.Fed.{AnswersFed, TellsFed, mail_ahead, over_mail}
use Rattle.dap_host.specs.Hearing.{HostState, Comes, with_ahead, sources_there, IsGoing, SameButAdapter, TakesMessage, AnswersMessage, TellsIt, EmitsEvent, AnswersLent, AsksClient, newly_lent, StopsMessage, StopsTelling, RefusesTold, bad_moment, dropped, IsUnheard, drop_of}
use Rattle.dap_line.specs.Written.{message_lines, act_lines, lent_lines}
use Rattle.dap_live.specs.declared.mail.Ahead.{Ahead}
use Rattle.dap_live.specs.declared.mail.Coming.{Coming}
use Rattle.dap_live.specs.declared.mail.Dropped.{Dropped as Drop}
use Rattle.dap_live.specs.declared.mail.HostAct.{HostAct}
use Rattle.dap_line.specs.Moments.{Fails, IsComing}
use Rattle.dap_line.specs.Told.{said_of}
use Rattle.dap_line.specs.declared.refusal.Refusal.TheVariants.{Dropped}
use Rattle.dap_line.specs.declared.told.Told.{Told}
use Rattle.dap_line.specs.declared.told.Said.TheVariants.{Happened}
use Rattle.dap_line.specs.declared.told.Unread.{Unread}
use Rattle.dap_line.specs.declared.told.Unread.TheVariants.{Refused, OutOfMemory as NoMemory}

-- ---- between two messages

abbrev Laws : Type 0
Laws = BodiesComeOneByOne shown_live FollowsLive

between : (h : HostState) → IsGoing h → IsBetween h.adapter
between h going = record { used = going.used; history = going.history; stands = going.stands; none_held = going.none_held }

in_range : (h : HostState) → IsGoing h → AreInRange h.limits → AreInRange h.adapter.session.limits
in_range h going range = subst AreInRange (sym going.limits_are) range

-- the limits are as they were
goes : (h k : HostState) → IsGoing h → k.adapter.session.limits ≡ h.adapter.session.limits → k.limits ≡ h.limits → IsBetween k.adapter → k.adapter.debuggee.mail ≡ no_mail → IsGoing k
goes h k going session limits at fetched = record {
  used = at.used;
  history = at.history;
  stands = at.stands;
  none_held = at.none_held;
  limits_are = session ∙ going.limits_are ∙ sym limits;
  fetched = fetched;
}

-- once its mail is fetched
goes_fetched : (h k : HostState) (there : AdapterState LiveState) → Laws → IsGoing h → there.session.limits ≡ h.adapter.session.limits → k.limits ≡ h.limits → IsBetween there → k.adapter ≡ over_mail no_mail there → IsGoing k
goes_fetched h k there laws going session limits at fetched =
    let now : IsBetween k.adapter = subst (λ (a : AdapterState LiveState). IsBetween a) (sym fetched) (laws.exchanged there (over_mail no_mail there) at (record { shows_the_same = refl; all_else = refl })) in
    goes h k going (ap (λ (a : AdapterState LiveState). a.session.limits) fetched ∙ session) limits now (ap (λ (a : AdapterState LiveState). a.debuggee.mail) fetched)

-- a host to which no line came
pub fresh_going : (h : HostState) (limits : Settings) (offers : Offer) (sources : List RecordedSource) → StandsFor h.adapter [] [] → h.adapter.session ≡ opened_session limits offers → h.adapter.debuggee ≡ fresh_live sources → h.limits ≡ limits → AreInRange limits → Laws → IsGoing h
fresh_going h limits offers sources stands session debuggee same range laws =
    let are : h.adapter.session.limits ≡ limits = ap (λ (s : Session). s.limits) session in
    let at = laws.fresh h.adapter (subst AreInRange (sym are) range) stands in
    record { used = at.used; history = at.history; stands = at.stands; none_held = at.none_held; limits_are = are ∙ sym same; fetched = ap (λ (v : LiveState). v.mail) debuggee }

-- with other mail
given_between : (mail : MailState) (h : HostState) → Laws → IsGoing h → IsBetween (over_mail mail h.adapter)
given_between mail h laws going = laws.exchanged h.adapter (over_mail mail h.adapter) (between h going) (record { shows_the_same = refl; all_else = refl })

-- ---- a message is answered, or the adapter is closed by it

-- the body is the one message that came
one_came : (h : HostState) (there : AdapterState LiveState) (body bytes : List ℕ) (ended : Bool) (going : IsGoing h) → AreInRange h.limits → Laws → TakesMessage h body → (a : AnswersPiece shown_live FollowsLive (over_mail (mail_ahead h.ahead) h.adapter) (frame_of body) [] there bytes ended) → (a.runs_on.bodies ≡ body ∷ []) × IsBetween there
one_came h there body bytes ended going range laws takes a =
    let fits : length body ≤ h.adapter.session.limits.body = subst (λ (z : Settings). length body ≤ z.body) (sym going.limits_are) takes.fits in
    laws.answered (over_mail (mail_ahead h.ahead) h.adapter) there body [] bytes ended (given_between (mail_ahead h.ahead) h laws going) (in_range h going range) fits takes.going a

pub answered : (h k : HostState) (body bytes before after : List ℕ) (acts : List HostAct) → IsGoing h → AreInRange h.limits → Laws → TakesMessage h body → AnswersFed h.adapter h.ahead body bytes acts k.adapter
    → ((outs : List Message) → bytes ≡ bytes_of outs → after ≡ before ++ (message_lines outs ++ (act_lines acts ++ lent_lines (newly_lent h.adapter k.adapter)))) → SameButAdapter (with_ahead nothing_ahead h) k → AnswersMessage h body before after k
answered h k body bytes before after acts going range laws takes fed hands same =
    record {
      bytes = bytes;
      acts = acts;
      fed = fed;
      taken = (one_came h fed.there body bytes fed.ended going range laws takes fed.answers).0;
      lines = hands fed.answers.outs fed.answers.appended;
      same = same;
    }

pub goes_on : (h k : HostState) (body bytes : List ℕ) (acts : List HostAct) → IsGoing h → AreInRange h.limits → Laws → TakesMessage h body → AnswersFed h.adapter h.ahead body bytes acts k.adapter → k.limits ≡ h.limits → IsGoing k
goes_on h k body bytes acts going range laws takes fed limits =
    goes_fetched h k fed.there laws going fed.answers.runs_on.limits limits (one_came h fed.there body bytes fed.ended going range laws takes fed.answers).1 fed.fetched

pub stopped : (h k : HostState) (body bytes before after : List ℕ) (fault : AdapterFault) → StopsAfter shown_live FollowsLive (over_mail (mail_ahead h.ahead) h.adapter) to_take (frame_of body) [] fault k.adapter bytes
    → ((outs : List Message) → bytes ≡ bytes_of outs → after ≡ before ++ message_lines outs) → StopsMessage h body before after k fault
stopped h k body bytes before after fault stops hands = record { bytes = bytes; stops = stops; lines = hands stops.outs stops.appended }

-- ---- what happened is told, or the adapter is closed by it

pub told : (h k : HostState) (c : Coming) (why : Option Drop) (bytes before after : List ℕ) → TellsFed h.adapter c bytes why k.adapter
    → ((outs : List Message) → bytes ≡ bytes_of outs → after ≡ before ++ message_lines outs) → SameButAdapter h k → TellsIt h c why before after k
told h k c why bytes before after fed hands same = record { bytes = bytes; fed = fed; lines = hands fed.polls.outs fed.polls.appended; same = same }

pub polls_on : (h k : HostState) (c : Coming) (why : Option Drop) (bytes : List ℕ) → IsGoing h → Laws → TellsFed h.adapter c bytes why k.adapter → k.limits ≡ h.limits → IsGoing k
polls_on h k c why bytes going laws fed limits =
    goes_fetched h k fed.there laws going fed.polls.runs_on.limits limits (laws.told (over_mail (with_coming c no_mail) h.adapter) fed.there [] bytes (given_between (with_coming c no_mail) h laws going) fed.polls) fed.fetched

pub stopped_telling : (h k : HostState) (c : Coming) (bytes before after : List ℕ) (fault : AdapterFault) → StopsAfter shown_live FollowsLive (over_mail (with_coming c no_mail) h.adapter) (to_poll 0) [] [] fault k.adapter bytes
    → ((outs : List Message) → bytes ≡ bytes_of outs → after ≡ before ++ message_lines outs) → StopsTelling h c before after k fault
stopped_telling h k c bytes before after fault stops hands = record { bytes = bytes; stops = stops; lines = hands stops.outs stops.appended }

-- ---- the same of a host that is taken apart

pub answered_at : (o h k : HostState) (body bytes before after : List ℕ) (acts : List HostAct) → o ≡ h → IsGoing h → AreInRange o.limits → Laws → TakesMessage h body → AnswersFed o.adapter o.ahead body bytes acts k.adapter
    → ((outs : List Message) → bytes ≡ bytes_of outs → after ≡ before ++ (message_lines outs ++ (act_lines acts ++ lent_lines (newly_lent o.adapter k.adapter)))) → SameButAdapter (with_ahead nothing_ahead o) k → AnswersMessage h body before after k
answered_at o h k body bytes before after acts e going range laws takes fed hands same =
    subst (λ (z : HostState). AnswersMessage z body before after k) e (answered o k body bytes before after acts (subst IsGoing (sym e) going) range laws (subst (λ (z : HostState). TakesMessage z body) (sym e) takes) fed hands same)

pub goes_on_at : (o h k : HostState) (body bytes : List ℕ) (acts : List HostAct) → o ≡ h → IsGoing h → AreInRange o.limits → Laws → TakesMessage h body → AnswersFed o.adapter o.ahead body bytes acts k.adapter → k.limits ≡ o.limits → IsGoing k
goes_on_at o h k body bytes acts e going range laws takes fed limits = goes_on o k body bytes acts (subst IsGoing (sym e) going) range laws (subst (λ (z : HostState). TakesMessage z body) (sym e) takes) fed limits

pub stopped_at : (o h k : HostState) (body bytes before after : List ℕ) (fault closed : AdapterFault) → o ≡ h → closed ≡ fault → StopsAfter shown_live FollowsLive (over_mail (mail_ahead o.ahead) o.adapter) to_take (frame_of body) [] fault k.adapter bytes
    → ((outs : List Message) → bytes ≡ bytes_of outs → after ≡ before ++ message_lines outs) → StopsMessage h body before after k closed
stopped_at o h k body bytes before after fault closed e f stops hands =
    subst (λ (z : AdapterFault). StopsMessage h body before after k z) (sym f) (subst (λ (z : HostState). StopsMessage z body before after k fault) e (stopped o k body bytes before after fault stops hands))

pub told_at : (o h k : HostState) (c : Coming) (why : Option Drop) (bytes before after : List ℕ) → o ≡ h → TellsFed o.adapter c bytes why k.adapter
    → ((outs : List Message) → bytes ≡ bytes_of outs → after ≡ before ++ message_lines outs) → SameButAdapter o k → TellsIt h c why before after k
told_at o h k c why bytes before after e fed hands same = subst (λ (z : HostState). TellsIt z c why before after k) e (told o k c why bytes before after fed hands same)

pub polls_on_at : (o h k : HostState) (c : Coming) (why : Option Drop) (bytes : List ℕ) → o ≡ h → IsGoing h → Laws → TellsFed o.adapter c bytes why k.adapter → k.limits ≡ o.limits → IsGoing k
polls_on_at o h k c why bytes e going laws fed limits = polls_on o k c why bytes (subst IsGoing (sym e) going) laws fed limits

pub stopped_telling_at : (o h k : HostState) (c : Coming) (bytes before after : List ℕ) (fault closed : AdapterFault) → o ≡ h → closed ≡ fault → StopsAfter shown_live FollowsLive (over_mail (with_coming c no_mail) o.adapter) (to_poll 0) [] [] fault k.adapter bytes
    → ((outs : List Message) → bytes ≡ bytes_of outs → after ≡ before ++ message_lines outs) → StopsTelling h c before after k closed
stopped_telling_at o h k c bytes before after fault closed e f stops hands =
    subst (λ (z : AdapterFault). StopsTelling h c before after k z) (sym f) (subst (λ (z : HostState). StopsTelling z c before after k fault) e (stopped_telling o k c bytes before after fault stops hands))

-- an open host's adapter is open
pub none_met : (o h : HostState) → o ≡ h → IsGoing h → o.adapter.fault ≡ None
none_met o h e going = ap (λ (z : HostState). z.adapter.fault) e ∙ going.stands.no_fault

-- ---- what a host tells is not heard

if_err : {A E : Type 0} {P Q : E → Type 0} (r : Result A E) → ((e : E) → P e → Q e) → IfErr r P → IfErr r Q
if_err (Ok x) f h = tt
if_err (Err e) f h = f e h

pub err_weaker : {A E : Type 0} {P Q : E → Type 0} (r : Result A E) → ((e : E) → P e → Q e) → IfErr r P → IfErr r Q
err_weaker r f h = if_err r f h

at_moment : (h : HostState) (text : List ℕ) (t : Told) → said_of text ≡ Ok (Happened t) → drop_of h.adapter.session.phase t ≡ None → (u : Unread) → Fails (sources_there h) t u → IsUnheard h text u
at_moment h text t is kept (Refused why) fails = bad_moment t is kept fails
at_moment h text t is kept NoMemory fails = tt

pub unheard_at : (o h : HostState) (text : List ℕ) (sources : List RecordedSource) (phase : Phase) (t : Told) (r : Result Coming Unread) (found : Option Drop) → o ≡ h → said_of text ≡ Ok (Happened t) → phase ≡ o.adapter.session.phase → found ≡ drop_of phase t → found ≡ None → sources ≡ sources_there o → IfErr r (Fails sources t) → IfErr r (IsUnheard h text)
unheard_at o h text sources phase t r found e is p d none s fails =
    let kept : drop_of o.adapter.session.phase t ≡ None = ap (λ (z : Phase). drop_of z t) (sym p) ∙ (sym d ∙ none) in
    subst (λ (z : HostState). IfErr r (IsUnheard z text)) e (if_err r (λ u. at_moment o text t is kept u) (subst (λ (z : List RecordedSource). IfErr r (Fails z t)) s fails))

pub dropped_at : (o h : HostState) (text : List ℕ) (phase : Phase) (t : Told) (found : Option Drop) (why : Drop) → o ≡ h → said_of text ≡ Ok (Happened t) → phase ≡ o.adapter.session.phase → found ≡ drop_of phase t → found ≡ Some why → RefusesTold h text (Dropped why)
dropped_at o h text phase t found why e is p d some = subst (λ (z : HostState). RefusesTold z text (Dropped why)) e (dropped t why is (ap (λ (z : Phase). drop_of z t) (sym p) ∙ (sym d ∙ some)) refl)

-- ---- what a host tells is heard

if_ok : {A E : Type 0} {P Q : A → Type 0} (r : Result A E) → ((x : A) → P x → Q x) → IfOk r P → IfOk r Q
if_ok (Ok x) f h = f x h
if_ok (Err e) f h = tt

pub comes_at : (o h : HostState) (text : List ℕ) (sources : List RecordedSource) (phase : Phase) (t : Told) (r : Result Coming Unread) (found : Option Drop) → o ≡ h → said_of text ≡ Ok (Happened t)
    → phase ≡ o.adapter.session.phase → found ≡ drop_of phase t → found ≡ None → sources ≡ sources_there o → IfOk r (IsComing sources t) → IfOk r (Comes h text)
comes_at o h text sources phase t r found e is p d none s comes =
    let kept : drop_of o.adapter.session.phase t ≡ None = ap (λ (z : Phase). drop_of z t) (sym p) ∙ (sym d ∙ none) in
    subst (λ (z : HostState). IfOk r (Comes z text)) e
    (if_ok r (λ c g. record { told = t; is = is; in_turn = kept; comes = g }) (subst (λ (z : List RecordedSource). IfOk r (IsComing z t)) s comes))

-- something is said of the next message
pub going_ahead : (h k : HostState) (ahead : Ahead) → k ≡ with_ahead ahead h → IsGoing h → IsGoing k
going_ahead h k ahead is going =
    subst IsGoing (sym is) (record { used = going.used; history = going.history; stands = going.stands; none_held = going.none_held; limits_are = going.limits_are; fetched = going.fetched })

-- ---- an event is told by its name

pub emit_at : (o h k : HostState) (name : List ℕ) (body : Option Data) (bytes before after : List ℕ) → o ≡ h → AppendsSome (λ more. Emits FollowsLive name body o.adapter more k.adapter) [] bytes
    → ((outs : List Message) → bytes ≡ bytes_of outs → after ≡ before ++ message_lines outs) → SameButAdapter o k → EmitsEvent h name body before after k
emit_at o h k name body bytes before after e a hands same =
    let emitted : EmitsEvent o name body before after k = record { bytes = a.bytes; told = a.holds; lines = hands (written_by o.adapter.session a.holds.step.session.made) (a.items ∙ a.holds.step.bytes_are); same = same } in
    subst (λ (z : HostState). EmitsEvent z name body before after k) e emitted

pub emitted_going : (o h k : HostState) (name : List ℕ) (body : Option Data) (bytes : List ℕ) → o ≡ h → IsGoing h → Laws → AppendsSome (λ more. Emits FollowsLive name body o.adapter more k.adapter) [] bytes → k.limits ≡ o.limits → IsGoing k
emitted_going o h k name body bytes e going laws a limits =
    let was : IsGoing o = subst IsGoing (sym e) going in
    let told = a.holds in
    goes o k was told.limits limits (laws.emitted o.adapter k.adapter name body a.bytes (between o was) told) (ap (λ (v : LiveState). v.mail) told.debuggee ∙ was.fetched)

-- ---- a lent request is answered

pub respond_at : (o h k : HostState) (seq : ℕ) (outcome : Outcome) (bytes before after : List ℕ) → o ≡ h → AppendsSome (λ more. Responds FollowsLive seq outcome o.adapter more k.adapter) [] bytes
    → ((outs : List Message) → bytes ≡ bytes_of outs → after ≡ before ++ message_lines outs) → SameButAdapter o k → AnswersLent h seq outcome before after k
respond_at o h k seq outcome bytes before after e a hands same =
    let answered : AnswersLent o seq outcome before after k = record { bytes = a.bytes; answered = a.holds; lines = hands (written_by o.adapter.session a.holds.step.session.made) (a.items ∙ a.holds.step.bytes_are); same = same } in
    subst (λ (z : HostState). AnswersLent z seq outcome before after k) e answered

pub responded_going : (o h k : HostState) (seq : ℕ) (outcome : Outcome) (bytes : List ℕ) → o ≡ h → IsGoing h → Laws → AppendsSome (λ more. Responds FollowsLive seq outcome o.adapter more k.adapter) [] bytes → k.limits ≡ o.limits → IsGoing k
responded_going o h k seq outcome bytes e going laws a limits =
    let was : IsGoing o = subst IsGoing (sym e) going in
    let told = a.holds in
    goes o k was told.limits limits (laws.responded o.adapter k.adapter seq outcome a.bytes (between o was) told) (ap (λ (v : LiveState). v.mail) told.debuggee ∙ was.fetched)

-- ---- the client is asked

pub ask_at : (o h k : HostState) (command : List ℕ) (arguments : Option Data) (bytes before after : List ℕ) → o ≡ h → AppendsSome (λ more. Asks FollowsLive command arguments o.adapter more k.adapter) [] bytes
    → ((outs : List Message) → bytes ≡ bytes_of outs → after ≡ before ++ message_lines outs) → SameButAdapter o k → AsksClient h command arguments before after k
ask_at o h k command arguments bytes before after e a hands same =
    let asked : AsksClient o command arguments before after k = record { bytes = a.bytes; asks = a.holds; lines = hands (written_by o.adapter.session a.holds.step.session.made) (a.items ∙ a.holds.step.bytes_are); same = same } in
    subst (λ (z : HostState). AsksClient z command arguments before after k) e asked

pub asked_going : (o h k : HostState) (command : List ℕ) (arguments : Option Data) (bytes : List ℕ) → o ≡ h → IsGoing h → Laws → AppendsSome (λ more. Asks FollowsLive command arguments o.adapter more k.adapter) [] bytes → k.limits ≡ o.limits → IsGoing k
asked_going o h k command arguments bytes e going laws a limits =
    let was : IsGoing o = subst IsGoing (sym e) going in
    let asks = a.holds in
    goes o k was asks.limits limits (laws.asked o.adapter k.adapter command arguments a.bytes (between o was) asks) (ap (λ (v : LiveState). v.mail) asks.debuggee ∙ was.fetched)
