-- What was taken at one key stays while other keys come, and together it is a recording.
use Rattle.std.proofs.Common.{◌≡◌, ℕ, ℤ, List, [], ◌∷◌, nat_le, if◌then◌else◌, suc, length, ◌==◌, Option, Some, is_some, Ok, Err, arith, true, false, true≢false, bytes_eq, ◌++◌, refl, sym, ap, ◌∙◌}
use Rattle.std.proofs.lemmas.Bool.{le-leb}
use Rattle.std.proofs.lemmas.Slice.Eq.{bytes_eq-Decides}
use Rattle.serde_json.specs.Data.{Data, array, object, Items, no_items, item, Members, put}
use Rattle.serde_json.specs.Events.{items_len}
use Rattle.serde_json.specs.Find.{as_array}
use Rattle.serde_json.proofs.Views.{get_member-put, get_member-put_other}
use Rattle.dap_json.specs.Field.{is_object}
use Rattle.dap_json.specs.Steps.{◌>>=◌}
use Rattle.dap_recording.specs.Places.{Read, here, other_than, no_exit, or_here, present_at, in_element}
use Rattle.dap_recording.specs.Reading.{Numbered, none_numbered, each, moment_of, exit_of, some_items, source_rows, moments_of, recording_of}
use Rattle.dap_recording.specs.RecordingKey.{name_of}
use Rattle.dap_recording.specs.PrivateOnePass.{exit_in, sources_in, moments_in, HoldsSeen}
use Rattle.dap_recording.specs.declared.one_pass.Seen.{Seen}
use Rattle.dap_recording.specs.declared.place.BadCause.TheVariants.{Absent, NoElements}
use Rattle.dap_recording.specs.declared.place.JsonKind.TheVariants as kind
use Rattle.dap_recording.specs.declared.reading.RecordingKey.TheVariants as key
use Rattle.dap_recording.specs.declared.reading.Teller.TheVariants as teller
use Rattle.dap_recording.specs.declared.recording.RecordedSource.{RecordedSource}
use Rattle.dap_recording.specs.declared.recording.Moment.{Moment}
use Rattle.dap_recording.proofs.ReadSteps.{some_same, ok_same, bind_ok}

pub differ : (a b : List ℕ) → bytes_eq a b ≡ false → a ≡ b → ⊥
differ a b e same = true≢false (sym ((bytes_eq-Decides a b).1 same) ∙ e)

-- each part by the value that is found
abbrev exit_with : Option Data → Read ℤ
exit_with found = or_here key.Exit Absent found >>= (λ v. or_here key.Exit (no_exit v) (exit_of v))

abbrev sources_with : Option Data → Read (List RecordedSource)
sources_with found = or_here key.Sources Absent found >>= source_rows

abbrev some_with : Option Data → Read Items
some_with found = or_here key.Moments Absent found >>= (λ v. or_here key.Moments (other_than kind.Array v) (as_array v)) >>= (λ ds. if nat_le 1 (items_len ds) then Ok ds else Err (here key.Moments NoElements))

other_exit : (k : List ℕ) (d : Data) (ms : Members) → (name_of key.Exit ≡ k → ⊥) → exit_in (put k d ms) ≡ exit_in ms
other_exit k d ms apart = ap exit_with (get_member-put_other (name_of key.Exit) k d ms apart)

other_sources : (k : List ℕ) (d : Data) (ms : Members) → (name_of key.Sources ≡ k → ⊥) → sources_in (put k d ms) ≡ sources_in ms
other_sources k d ms apart = ap sources_with (get_member-put_other (name_of key.Sources) k d ms apart)

other_moments : (sources : List RecordedSource) (k : List ℕ) (d : Data) (ms : Members) → (name_of key.Moments ≡ k → ⊥) → moments_in sources (put k d ms) ≡ moments_in sources ms
other_moments sources k d ms apart = ap (λ o. some_with o >>= (λ given. moments_of sources given none_numbered)) (get_member-put_other (name_of key.Moments) k d ms apart)

-- another key
pub passed : (k : List ℕ) (d : Data) (ms : Members) (seen : Seen) → (name_of key.Exit ≡ k → ⊥) → (name_of key.Sources ≡ k → ⊥) → (name_of key.Moments ≡ k → ⊥) → HoldsSeen seen ms → HoldsSeen seen (put k d ms)
passed k d ms seen exit sources moments holds = record {
  exit = λ x is. other_exit k d ms exit ∙ holds.exit x is;
  sources = λ ss is. other_sources k d ms sources ∙ holds.sources ss is;
  moments = λ ss mm is are. other_moments ss k d ms moments ∙ holds.moments ss mm is are;
}

pub exit_taken : (d : Data) (ms : Members) (seen : Seen) (exit : Option ℤ) → exit ≡ exit_of d → HoldsSeen seen ms → HoldsSeen (record { exit = exit; sources = seen.sources; moments = seen.moments }) (put (name_of key.Exit) d ms)
exit_taken d ms seen exit is holds = record {
  exit = λ x same. ap exit_with (get_member-put (name_of key.Exit) d ms) ∙ ap (or_here key.Exit (no_exit d)) (sym is ∙ same);
  sources = λ ss same. other_sources (name_of key.Exit) d ms (differ _ _ refl) ∙ holds.sources ss same;
  moments = λ ss mm same are. other_moments ss (name_of key.Exit) d ms (differ _ _ refl) ∙ holds.moments ss mm same are;
}

-- one moment more
pub one_moment : (sources : List RecordedSource) (d : Data) (later : Items) (found : List Moment) (s t : Numbered) (m : Moment) → is_object d ≡ true → moment_of teller.Recording sources d s ≡ Ok (m, t)
    → each key.Moments (λ earlier. moment_of teller.Recording sources) (item d later) found s ≡ each key.Moments (λ earlier. moment_of teller.Recording sources) later (found ++ m ∷ []) t
one_moment sources d later found s t m is_one is =
    let inside : in_element key.Moments (length found) d (moment_of teller.Recording sources d s) ≡ Ok (m, t) = ap (in_element key.Moments (length found) d) is ∙ rw is_one refl in
    ap (λ r. r >>= (λ next. each key.Moments (λ earlier. moment_of teller.Recording sources) later (found ++ next.0 ∷ []) next.1)) inside

-- the sources come, while no moments did
pub sources_taken : (d : Data) (ms : Members) (seen : Seen) (sources : List RecordedSource) → source_rows d ≡ Ok sources → is_some seen.moments ≡ false → HoldsSeen seen ms
    → HoldsSeen (record { exit = seen.exit; sources = Some sources; moments = seen.moments }) (put (name_of key.Sources) d ms)
sources_taken d ms seen sources is none holds = record {
  exit = λ x same. other_exit (name_of key.Sources) d ms (differ _ _ refl) ∙ holds.exit x same;
  sources = λ ss same. ap sources_with (get_member-put (name_of key.Sources) d ms) ∙ is ∙ ap Ok (some_same sources ss same);
  moments = λ ss mm same are. absurd (true≢false (sym (ap is_some are) ∙ none));
}

-- no moment is read of no items
pub some_given : (sources : List RecordedSource) (all : Items) (s : Numbered) (p : List Moment × Numbered) → moments_of sources all s ≡ Ok p → (length p.0 == 0) ≡ false → nat_le 1 (items_len all) ≡ true
unfolding moments_of
some_given sources no_items s p e some = absurd (true≢false (ap (λ q. length q.0 == 0) (ok_same ([], s) p e) ∙ some))
some_given sources (item d ds) s p e some = le-leb 1 (suc (items_len ds)) (omega arith)

-- the moments come, after the sources
pub moments_taken : (ds : Items) (ms : Members) (seen : Seen) (sources : List RecordedSource) (moments : List Moment × Numbered) → seen.sources ≡ Some sources → nat_le 1 (items_len ds) ≡ true
    → moments_of sources ds none_numbered ≡ Ok moments → HoldsSeen seen ms → HoldsSeen (record { exit = seen.exit; sources = seen.sources; moments = Some moments }) (put (name_of key.Moments) (array ds) ms)
moments_taken ds ms seen sources moments there some is holds = record {
  exit = λ x same. other_exit (name_of key.Moments) (array ds) ms (differ _ _ refl) ∙ holds.exit x same;
  sources = λ ss same. other_sources (name_of key.Moments) (array ds) ms (differ _ _ refl) ∙ holds.sources ss same;
  moments = λ ss mm same are.
      ap (λ o. some_with o >>= (λ given. moments_of ss given none_numbered)) (get_member-put (name_of key.Moments) (array ds) ms)
      ∙ rw some (ap (λ xs. moments_of xs ds none_numbered) (some_same ss sources (sym same ∙ there)) ∙ is ∙ ap Ok (some_same moments mm are));
}

-- all came
pub whole : (ms : Members) (seen : Seen) (exit : ℤ) (sources : List RecordedSource) (moments : List Moment × Numbered) → seen.exit ≡ Some exit → seen.sources ≡ Some sources → seen.moments ≡ Some moments → HoldsSeen seen ms
    → recording_of (object ms) ≡ Ok (record { exit = exit; sources = sources; moments = moments.0; scopes = moments.1.scopes; variables = moments.1.variables; untold = moments.1.untold })
unfolding recording_of
whole ms seen exit sources moments e s m holds =
    let texts = bind_ok (present_at key.Sources (object ms)) source_rows sources (holds.sources sources s) in
    let given = bind_ok (some_items key.Moments (object ms)) (λ given. moments_of sources given none_numbered) moments (holds.moments sources moments s m) in
    rw (holds.exit exit e, texts.1, texts.2, given.1, given.2) refl
