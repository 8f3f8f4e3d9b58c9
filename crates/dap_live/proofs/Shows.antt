-- What is shown is within its ranges: its frames name sources that are there.
use Rattle.std.proofs.Common.{◌≡◌, ◌≤◌, ◌<◌, ◌&&◌, ◌++◌, true, ℕ, nat_le, nat_lt, List, [], ◌∷◌, length, map, Option, Some, None, refl, sym, ap, subst, ◌∙◌, arith, length-append}
use Rattle.std.proofs.lemmas.Bool.{ltb-true, lt-ltb, and_parts, and_from}
use Rattle.std.proofs.lemmas.List.{length-map}
use Rattle.std.specs.List.{list_all}
use Rattle.dap_debuggee.specs.Laws.{is_place, is_frame, FramesInRange, SourcesInRange}
use Rattle.dap_debuggee.specs.declared.answers.Frame.{Frame}
use Rattle.dap_debuggee.specs.declared.answers.State.{State}
use Rattle.dap_debuggee.specs.declared.answers.State.TheVariants.{NotStarted, Running, Stopped, Gone}
use Rattle.dap_recording.specs.Snapshot.{NameSources, frames_in as frames_of}
use Rattle.dap_recording.specs.Sources.{source_shown}
use Rattle.dap_recording.specs.declared.recording.RecordedSource.{RecordedSource}
use Rattle.dap_live.specs.declared.here.Here.{Here}
use Rattle.dap_live.specs.LiveShown.{LiveState, IsFew, shown_live, now_shown, frames_in}

-- ---- of so many sources, and of more

place_wider : (a b : ℕ) → a ≤ b → (source : Option ℕ) (line : ℕ) → is_place a source line ≡ true → is_place b source line ≡ true
place_wider a b le None line e = e
place_wider a b le (Some source) line e =
    let p = and_parts (nat_le 1 line) (nat_le line 2147483647 && nat_lt source a) e in
    let q = and_parts (nat_le line 2147483647) (nat_lt source a) p.1 in
    let lt : source < b = let h = ltb-true source a q.1 in omega (arith, h, le) in
    and_from (nat_le 1 line) (nat_le line 2147483647 && nat_lt source b) p.0 (and_from (nat_le line 2147483647) (nat_lt source b) q.0 (lt-ltb source b lt))

frames_wider : (a b : ℕ) → a ≤ b → (fs : List Frame) → list_all (is_frame a) fs ≡ true → list_all (is_frame b) fs ≡ true
frames_wider a b le [] e = refl
frames_wider a b le (f ∷ fs) e =
    let p = and_parts (is_frame a f) (list_all (is_frame a) fs) e in
    and_from (is_frame b f) (list_all (is_frame b) fs) (place_wider a b le f.source f.line p.0) (frames_wider a b le fs p.1)

-- ---- what is shown

few_now : (s : State) (sources : List RecordedSource) (here : Option Here) (m : Here) → IsFew sources here → now_shown s here ≡ Some m → m.moment.sources ≤ length sources
few_now NotStarted sources here m few is = absurd (cc is)
few_now Running sources None m few is = absurd (cc is)
few_now Running sources (Some k) m few is = let same : k ≡ m = cc in subst (λ (n : Here). n.moment.sources ≤ length sources) same few
few_now Stopped sources None m few is = absurd (cc is)
few_now Stopped sources (Some k) m few is = let same : k ≡ m = cc in subst (λ (n : Here). n.moment.sources ≤ length sources) same few
few_now Gone sources here m few is = absurd (cc is)

-- a moment's own range is one of fewer sources
pub in_range : (v : LiveState) (m : Here) → IsFew v.sources v.here → now_shown v.state v.here ≡ Some m → NameSources m.moment.sources (frames_of m.moment.moment.threads) → FramesInRange (shown_live v)
in_range v m few is range thread frames told =
    let all : length (map source_shown v.sources) ≡ length v.sources = length-map v.sources source_shown in
    let le = few_now v.state v.sources v.here m few is in
    frames_wider m.moment.sources (length (map source_shown v.sources)) (omega (arith, all, le)) frames
    (range thread frames (sym (ap (λ o. frames_in o thread) is) ∙ told))

pub sources_in_range : (v : LiveState) → length v.sources ≤ 65536 → SourcesInRange (shown_live v)
sources_in_range v few = let all : length (map source_shown v.sources) ≡ length v.sources = length-map v.sources source_shown in omega (arith, all, few)

-- more sources are no fewer
pub few_more : (more sources : List RecordedSource) (here : Option Here) → IsFew sources here → IsFew (sources ++ more) here
few_more more sources None few = few
few_more more sources (Some here) few = let wide = length-append sources more in omega (arith, few, wide)
