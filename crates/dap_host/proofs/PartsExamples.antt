-- Worked examples of the parts in which it is told what a host says, each shown by computation.
use Rattle.std.proofs.Common.{◌≡◌, List, [], ◌∷◌, ◌++◌, codes, replicate, pos, refl}
use Rattle.dap_json.specs.declared.more.Member.{Member}
use Rattle.dap_debuggee.specs.declared.answers.Category.TheVariants.{Console, Stderr, Other}
use Rattle.dap_live.specs.declared.mail.Coming.TheVariants.{Output, Continued}
use Rattle.dap_host.specs.Parts.{texts_told, parts_of}

texts : (texts_told [] ≡ [] ∷ []) × (texts_told (codes "a") ≡ codes "a" ∷ []) × (texts_told (replicate 130 97) ≡ replicate 128 97 ∷ replicate 2 97 ∷ [])
texts = (refl, refl, refl)

-- 226 130 172 is one character
cut : texts_told (replicate 127 97 ++ 226 ∷ 130 ∷ 172 ∷ 98 ∷ []) ≡ replicate 127 97 ∷ (226 ∷ 130 ∷ 172 ∷ 98 ∷ []) ∷ []
cut = refl

-- the first has what stands beside
beside : (more : List Member) → parts_of (Output Stderr (replicate 257 97) more) ≡ Output Stderr (replicate 128 97) more ∷ Output Stderr (replicate 128 97) [] ∷ Output Stderr (codes "a") [] ∷ []
beside more = refl

short_output : (more : List Member) → (parts_of (Output Console (codes "a") more) ≡ Output Console (codes "a") more ∷ []) × (parts_of (Output (Other (codes "gdb")) [] more) ≡ Output (Other (codes "gdb")) [] more ∷ [])
short_output more = (refl, refl)

no_output : parts_of (Continued (pos 1)) ≡ Continued (pos 1) ∷ []
no_output = refl
