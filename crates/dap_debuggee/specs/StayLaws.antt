-- Of a debuggee of which nothing comes later: what changes its frames and its sources. What shows the same ones keeps those that were given, as the laws of every debuggee ask.
use Rattle.std.specs.Prelude.{◌≡◌, List, Option, Some, IsTrue}
use Rattle.std.specs.List.{slice_get}
use Rattle.std.proofs.Common.{ap, ◌∙◌}
use Rattle.dap_debuggee.specs.Shown.{Shown, Act, Reply}
use Rattle.dap_debuggee.specs.Laws.{Follows, Stays, FramesStay, SourcesStay, SameFrames, SameSources, keeps_frames}

-- frames, scopes and variables change only by a start, a resume, a poll that gives a stop, a going on or an exit, the end, and a value that is set
abbrev pub FramesAreConstant : {View : Type 0} → (View → Shown) → Follows View → Type 0
FramesAreConstant {View} shown follows = (v w : View) (a : Act) (r : Reply) → follows v a r w → IsTrue (keeps_frames a r) → SameFrames (shown v) (shown w)

-- sources never change
abbrev pub SourcesAreConstant : {View : Type 0} → (View → Shown) → Follows View → Type 0
SourcesAreConstant {View} shown follows = (v w : View) (a : Act) (r : Reply) → follows v a r w → SameSources (shown v) (shown w)

stays : {A : Type 0} (before after : Option A) → after ≡ before → Stays before after
stays before after same x given = same ∙ given

pub frames-stay : (v w : Shown) → SameFrames v w → FramesStay v w
frames-stay v w same = record {
  frames = λ thread. stays (v.frames thread) (w.frames thread) (same.frames thread);
  scopes = λ frame. stays (v.scopes frame) (w.scopes frame) (same.scopes frame);
  children = λ holder. stays (v.children holder) (w.children holder) (same.children holder);
}

pub sources-stay : (v w : Shown) → SameSources v w → SourcesStay v w
sources-stay v w same = record {
  sources = λ index. stays (slice_get v.sources index) (slice_get w.sources index) (ap (λ sources. slice_get sources index) same.sources);
  content = λ index. stays (v.content index) (w.content index) (same.content index);
}
