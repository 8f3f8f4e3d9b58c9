-- Worked examples of what a host's debuggee drops, answers and shows, each shown by computation.
use Rattle.std.proofs.Common.{◌≡◌, List, ℕ, [], ◌∷◌, codes, replicate, Bool, true, false, Option, None, Some, pos, refl, map, option_map}
use Rattle.dap_json.specs.declared.more.Member.{Member}
use Rattle.dap_command.specs.declared.source_key.SourceKey.TheVariants.{Path, Reference}
use Rattle.dap_debuggee.specs.Shown.{to_start, to_resume, to_pause, to_poll, to_set_breakpoints, to_assign, to_end, done, refused, happened}
use Rattle.dap_debuggee.specs.declared.answers.State.{State}
use Rattle.dap_debuggee.specs.declared.answers.State.TheVariants.{NotStarted, Running, Stopped, Gone}
use Rattle.dap_debuggee.specs.declared.answers.How.TheVariants.{Next}
use Rattle.dap_debuggee.specs.declared.answers.Category.TheVariants.{Stdout}
use Rattle.dap_debuggee.specs.declared.answers.Happening.{Happening}
use Rattle.dap_debuggee.specs.declared.answers.Happening.TheVariants as happening
use Rattle.dap_live.specs.declared.held.Learned.{Learned}
use Rattle.dap_debuggee.specs.declared.answers.Variable.{Variable}
use Rattle.dap_debuggee.specs.declared.answers.Assigned.{Assigned}
use Rattle.dap_debuggee.specs.Laws.{with_assigned}
use Rattle.dap_recording.specs.Snapshot.{MomentAlone}
use Rattle.dap_recording.specs.declared.recording.RecordedSource.{RecordedSource}
use Rattle.dap_live.specs.declared.here.Here.{Here}
use Rattle.dap_live.specs.declared.mail.Dropped.{Dropped}
use Rattle.dap_live.specs.declared.mail.Dropped.TheVariants.{OutOfTurn, OutOfRange, TooManySources, Told, TooManyHolders}
use Rattle.dap_live.specs.Dropping.{why_dropped, why_not_more, why_untold, heard}
use Rattle.dap_live.specs.LiveShown.{LiveState, fresh_live, shown_live, told_of, evaluated, evaluation_in, threads_in, now_shown, children_in, assigned_by}
use Rattle.dap_live.specs.declared.mail.Coming.{Coming}
use Rattle.dap_live.specs.declared.mail.Coming.TheVariants as coming
use Rattle.dap_live.specs.declared.mail.HostAct.TheVariants as act
use Rattle.dap_live.specs.Hearing.{with_told}
use Rattle.dap_live.specs.MailState.{MailState, nothing_ahead, no_mail, with_coming, with_dropped, with_act, with_end}
use Rattle.dap_live.specs.LiveLaws.{reply_to, here_after, learned_after, sources_after, mail_after}
use Rattle.dap_debuggee.specs.declared.answers.Placement.{Placement}

abbrev wrote : List ℕ → Happening
wrote text = happening.Output Stdout text []

abbrev stopped : Happening
stopped = happening.Stopped (codes "step") (pos 1) []

-- ---- what is dropped

turns : (why_dropped Running stopped ≡ None) × (why_dropped Stopped stopped ≡ Some OutOfTurn) × (why_dropped NotStarted stopped ≡ Some OutOfTurn) × (why_dropped Gone (wrote (codes "x")) ≡ Some OutOfTurn) × (why_dropped Running (happening.Continued (pos 1)) ≡ Some OutOfTurn) × (why_dropped Stopped (happening.Continued (pos 1)) ≡ None)
turns = (refl, refl, refl, refl, refl, refl)

ranges : (why_dropped Running (wrote (replicate 128 97)) ≡ None) × (why_dropped Running (wrote (replicate 129 97)) ≡ Some OutOfRange) × (why_dropped Running (happening.Stopped [] (pos 9007199254740992) []) ≡ Some OutOfRange) × (why_dropped Gone (wrote (replicate 129 97)) ≡ Some OutOfTurn) × (why_dropped Running (happening.Exited (pos 3)) ≡ None)
ranges = (refl, refl, refl, refl, refl)

told : (heard Running stopped ≡ stopped) × (heard Stopped stopped ≡ happening.Nothing) × (heard Stopped (wrote (codes "x")) ≡ wrote (codes "x"))
told = (refl, refl, refl)

-- ---- what is shown

abbrev sum : Option Learned
sum = Some (record { text = codes "x + 1"; value = Some (codes "2"); holder = None; more = None; why = None })

-- its parts are what holder 7 has
abbrev pair : Option Learned
pair = Some (record { text = codes "p"; value = Some (codes "{..}"); holder = Some 7; more = None; why = None })

abbrev none : Option Learned
none = Some (record { text = codes "y"; value = None; holder = Some 7; more = None; why = None })

texts : (told_of sum (codes "x + 1") ≡ sum) × (told_of sum (codes "x") ≡ None) × (told_of None (codes "x") ≡ None) × (told_of none (codes "y") ≡ none) × (told_of none (codes "x") ≡ None)
texts = (refl, refl, refl, refl, refl)

values : (evaluated (told_of sum (codes "x + 1")) None ≡ Some (record { value = codes "2"; holder = None; more = [] })) × (evaluated (told_of sum (codes "x")) (Some (record { value = codes "1"; holder = Some 3; more = [] })) ≡ Some (record { value = codes "1"; holder = Some 3; more = [] })) × (evaluated (told_of none (codes "y")) (Some (record { value = codes "1"; holder = None; more = [] })) ≡ None) × (evaluated (told_of pair (codes "p")) None ≡ Some (record { value = codes "{..}"; holder = Some 7; more = [] }))
values = (refl, refl, refl, refl)

nothing_shown : (threads_in (now_shown NotStarted None) ≡ []) × (threads_in (now_shown Running None) ≡ []) × (children_in (now_shown Stopped None) 0 ≡ None) × (assigned_by sum (codes "x") None ≡ None)
nothing_shown = (refl, refl, refl, refl)

-- ---- a moment of one frame with two scopes: the first came without its variables, the second has x

abbrev one : List ℕ → List Variable
one value = record { name = codes "x"; value = value; holder = None; more = [] } ∷ []

abbrev source : RecordedSource
source = record { name = codes "a"; path = None; text = codes "x"; on_disk = false; lines = 1; more = [] }

-- with these holders of scopes that came without their variables
abbrev moment_with : List ℕ → MomentAlone
moment_with untold = record {
  moment = record {
    threads = record { id = pos 1; name = codes "main"; frames = record { object = 0; name = codes "f"; source = Some 0; line = 1; more = [] } ∷ []; more = [] } ∷ [];
    thread = 0;
    output = [];
    waits = false;
    stop = None;
    frames = record { from = 0; to = 1 };
    holders = record { from = 0; to = 2 };
  };
  scopes = (record { name = codes "Locals"; holder = 0; more = [] } ∷ record { name = codes "Globals"; holder = 1; more = [] } ∷ []) ∷ [];
  variables = [] ∷ one (codes "1") ∷ [];
  untold = untold;
  sources = 1;
}

abbrev moment : MomentAlone
moment = moment_with (0 ∷ [])

abbrev shows : Bool → Option Here
shows later = Some (record { moment = moment; later = later; told = [] })

-- what the host tells of holder 0 and of a holder of its own number, 7
abbrev told_more : Option Here
told_more = with_told 7 (one (codes "3")) (with_told 0 (one (codes "2")) (shows true))

-- a scope without variables has none, or is still to be told
scopes_of_a_stop : (children_in (shows false) 0 ≡ Some []) × (children_in (shows true) 0 ≡ None) × (children_in (shows true) 1 ≡ Some (one (codes "1"))) × (children_in (shows false) 7 ≡ None) × (children_in (now_shown Gone (shows false)) 0 ≡ None)
scopes_of_a_stop = (refl, refl, refl, refl, refl)

-- one that came with no variables has none, whether more is told later or not
abbrev told_empty : Bool → Option Here
told_empty later = Some (record { moment = moment_with []; later = later; told = [] })

empty_scopes : (children_in (told_empty true) 0 ≡ Some []) × (children_in (told_empty false) 0 ≡ Some []) × (why_untold (told_empty true) 0 ≡ Some Told) × (children_in (told_empty true) 7 ≡ None) × (why_untold (told_empty true) 7 ≡ None)
empty_scopes = (refl, refl, refl, refl, refl)

told_later : (children_in told_more 0 ≡ Some (one (codes "2"))) × (children_in told_more 1 ≡ Some (one (codes "1"))) × (children_in told_more 7 ≡ Some (one (codes "3"))) × (children_in told_more 8 ≡ None) × (children_in (with_told 0 [] (shows true)) 0 ≡ Some [])
told_later = (refl, refl, refl, refl, refl)

-- a scope that is still to be told hides those behind it
names : (evaluation_in (shows false) (Some 0) (codes "x") ≡ Some (record { value = codes "1"; holder = None; more = [] })) × (evaluation_in (shows true) (Some 0) (codes "x") ≡ None) × (evaluation_in told_more (Some 0) (codes "x") ≡ Some (record { value = codes "2"; holder = None; more = [] })) × (evaluation_in told_more None (codes "x") ≡ None) × (evaluation_in told_more (Some 1) (codes "x") ≡ None)
names = (refl, refl, refl, refl, refl)

drops_of_holders : (why_untold None 0 ≡ Some OutOfTurn) × (why_untold (shows true) 0 ≡ None) × (why_untold (shows false) 0 ≡ Some Told) × (why_untold (shows true) 1 ≡ Some Told) × (why_untold told_more 7 ≡ Some Told) × (why_untold told_more 8 ≡ None) × (why_not_more None 65535 ≡ None) × (why_not_more None 65536 ≡ Some TooManyHolders) × (why_not_more (Some []) 65536 ≡ Some Told)
drops_of_holders = (refl, refl, refl, refl, refl, refl, refl, refl, refl)

-- a value that is set comes before that of the moment, and before what was told
abbrev nine : Assigned
nine = record { value = codes "9"; more = [] }

values_set : (children_in (with_told 1 (with_assigned (codes "x") nine (one (codes "1"))) (shows true)) 1 ≡ Some (one (codes "9"))) × (children_in (with_told 0 (with_assigned (codes "x") nine (one (codes "2"))) told_more) 0 ≡ Some (one (codes "9"))) × (assigned_by sum (codes "x") (children_in told_more 0) ≡ Some (record { value = codes "2"; more = [] })) × (assigned_by sum (codes "y") (children_in told_more 0) ≡ None) × (assigned_by none (codes "x") (children_in told_more 0) ≡ None)
values_set = (refl, refl, refl, refl, refl)

-- what is said beside a value is told of it, and of a variable that gets it; where nothing is said, that of the variable stays
abbrev typed : List Member → Option Learned
typed more = Some (record { text = codes "x + 1"; value = Some (codes "2"); holder = None; more = Some more; why = None })

abbrev has : List Member → Option (List Variable)
has more = Some (record { name = codes "x"; value = codes "1"; holder = None; more = more } ∷ [])

beside : (more other : List Member) → (evaluated (typed more) None ≡ Some (record { value = codes "2"; holder = None; more = more })) × (assigned_by (typed more) (codes "x") (has other) ≡ Some (record { value = codes "2"; more = more })) × (assigned_by sum (codes "x") (has other) ≡ Some (record { value = codes "2"; more = other }))
beside more other = (refl, refl, refl)

-- ---- what an act answers and leaves

-- stopped, with a value of a text, after this was said
abbrev at_stop : Bool → Option Coming → LiveState
at_stop later said = let fresh : LiveState = fresh_live (source ∷ []) in record fresh { state = Stopped; here = shows later; learned = Some (record { text = codes "9"; value = Some (codes "9"); holder = None; more = None; why = None }); mail = record { coming = said; ahead = nothing_ahead; acts = act.Start ∷ []; dropped = Some Told } }

abbrev at : State → Option Coming → LiveState
at state said = let stop : LiveState = at_stop true said in record stop { state = state }

starts : (reply_to to_start (at NotStarted None) ≡ done) × (reply_to to_start (at Stopped None) ≡ refused None) × (reply_to to_start (at Gone None) ≡ refused None)
starts = (refl, refl, refl)

resumes : (reply_to (to_resume Next (pos 1)) (at Stopped None) ≡ done) × (reply_to (to_resume Next (pos 1)) (at Running None) ≡ refused None) × (reply_to to_pause (at Running None) ≡ done) × (reply_to to_pause (at Stopped None) ≡ refused None)
resumes = (refl, refl, refl, refl)

abbrev seven : Coming
seven = coming.Exited (pos 7)

abbrev two : Coming
two = coming.Variables 0 (one (codes "2"))

abbrev halt : Coming
halt = coming.Stopped (codes "step") (pos 3) moment false []

abbrev sum_is : Coming
sum_is = coming.Learned (codes "x + 1") (Some (codes "2")) None None

-- a poll gives just what was said, or nothing where that is dropped
polls : (reply_to to_poll (at Stopped (Some seven)) ≡ happened (happening.Exited (pos 7))) × (reply_to to_poll (at Running (Some halt)) ≡ happened (happening.Stopped (codes "step") (pos 3) [])) × (reply_to to_poll (at Stopped (Some halt)) ≡ happened happening.Nothing) × (reply_to to_poll (at Stopped (Some two)) ≡ happened happening.Nothing) × (reply_to to_poll (at Stopped None) ≡ happened happening.Nothing)
polls = (refl, refl, refl, refl, refl)

-- and leaves why it is dropped; what came is taken, and the acts stay
abbrev left : Option Dropped → MailState
left why = record { coming = None; ahead = nothing_ahead; acts = act.Start ∷ []; dropped = why }

reasons : (mail_after to_poll done (at Stopped (Some halt)) ≡ left (Some OutOfTurn)) × (mail_after to_poll done (at Stopped (Some seven)) ≡ left None) × (mail_after to_poll done (at Stopped None) ≡ left None) × (mail_after to_poll done (at Running (Some (coming.Exited (pos 3)))) ≡ left None) × (mail_after to_poll done (at Stopped (Some (coming.Variables 1 []))) ≡ left (Some Told))
reasons = (refl, refl, refl, refl, refl)

-- what is said comes in place of what was said, and the reason goes with that
says : with_coming two (with_dropped (Some Told) (with_coming seven no_mail)) ≡ record { coming = Some two; ahead = nothing_ahead; acts = []; dropped = None }
says = refl

-- acts come in the order in which they were asked; a refused one does not
acts_in_order : ((mail_after (to_resume Next (pos 1)) done (at Stopped None)).acts ≡ act.Start ∷ act.Resume Next (pos 1) ∷ []) × ((mail_after (to_resume Next (pos 1)) (refused None) (at Running None)).acts ≡ act.Start ∷ []) × ((mail_after (to_assign 1 (codes "x") (codes "9")) done (at Stopped None)).acts ≡ act.Start ∷ act.Assign 1 (codes "x") (codes "9") ∷ []) × ((mail_after (to_set_breakpoints (Reference 1) (2 ∷ [])) done (at Gone None)).acts ≡ act.Start ∷ act.SetBreakpoints (Reference 1) (2 ∷ []) ∷ [])
acts_in_order = (refl, refl, refl, refl)

-- an end right behind an end is that end
ends_once : (with_end (with_end (with_act act.Pause no_mail)) ≡ with_act act.End (with_act act.Pause no_mail)) × (with_end (with_act act.Start (with_end no_mail)) ≡ with_act act.End (with_act act.Start (with_act act.End no_mail))) × ((mail_after to_end done (at Gone None)).acts ≡ act.Start ∷ act.End ∷ [])
ends_once = (refl, refl, refl)

-- what was learned is forgotten by a poll, whatever came; a pause does not
forgets : (learned_after to_poll (at Stopped (Some seven)) ≡ None) × (learned_after to_poll (at Stopped (Some halt)) ≡ None) × (learned_after to_poll (at Stopped None) ≡ None) × (learned_after to_poll (at Stopped (Some sum_is)) ≡ sum) × (learned_after to_pause (at Running None) ≡ Some (record { text = codes "9"; value = Some (codes "9"); holder = None; more = None; why = None }))
forgets = (refl, refl, refl, refl, refl)

-- what is shown stays, or has the variables that were told
shown_next : (here_after to_poll (at_stop true None) ≡ shows true) × (here_after to_poll (at_stop true (Some two)) ≡ with_told 0 (one (codes "2")) (shows true)) × (here_after to_poll (at_stop false (Some two)) ≡ shows false) × (here_after to_poll (at_stop true (Some halt)) ≡ shows true) × (here_after to_poll (at_stop false (Some seven)) ≡ shows false)
shown_next = (refl, refl, refl, refl, refl)

-- or is another moment
another_stop : threads_in (here_after to_poll (at Running (Some halt))) ≡ record { id = pos 1; name = codes "main"; more = [] } ∷ []
another_stop = refl

nine_set : here_after (to_assign 1 (codes "x") (codes "9")) (at_stop true None) ≡ with_told 1 (one (codes "9")) (shows true)
nine_set = refl

-- one that was read over more sources than there are is not shown
abbrev wide : Coming
wide = coming.Stopped (codes "step") (pos 3) (record moment { sources = 2 }) false []

too_wide : (reply_to to_poll (at Running (Some wide)) ≡ happened happening.Nothing) × (here_after to_poll (at Running (Some wide)) ≡ shows true) × (mail_after to_poll done (at Running (Some wide)) ≡ left (Some TooManySources))
too_wide = (refl, refl, refl)

-- ---- sources that come later

abbrev with_more : LiveState
with_more = fresh_live (source ∷ record { name = codes "b"; path = Some (codes "/b"); text = codes "y\nz"; on_disk = true; lines = 2; more = [] } ∷ [])

abbrev verdicts : Option (List Placement) → Option (List Bool)
verdicts = option_map (map (λ (p : Placement). p.verified))

places : ((shown_live with_more).content 1 ≡ Some (codes "y\nz")) × ((shown_live with_more).content 2 ≡ None) × (verdicts ((shown_live with_more).verify (Reference 2) (2 ∷ 3 ∷ [])) ≡ Some (true ∷ false ∷ [])) × (verdicts ((shown_live with_more).verify (Path (codes "/b")) (2 ∷ [])) ≡ Some (true ∷ [])) × (verdicts ((shown_live (fresh_live (source ∷ []))).verify (Reference 2) (1 ∷ [])) ≡ Some (false ∷ []))
places = (refl, refl, refl, refl, refl)

sources_next : (sources_after to_poll (at Gone (Some (coming.Sources (source ∷ [])))) ≡ source ∷ source ∷ []) × (sources_after to_poll (at Stopped (Some seven)) ≡ source ∷ [])
sources_next = (refl, refl)
