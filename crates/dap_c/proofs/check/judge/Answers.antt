use Rattle.std.proofs.Common.{◌≡◌, ◌⊎◌, ℕ, Result, Ok, Err, inl, inr}
use Rattle.dap_check.specs.declared.checking.CheckFault.{CheckFault}
use Rattle.dap_check.specs.declared.checking.CheckFault.TheVariants.{OutOfMemory}
use Rattle.dap_check.specs.declared.rule.Checked.{Checked}
use Rattle.dap_c.specs.CheckFound.{fault_code, fault_line, TellsRefused}
use Rattle.dap_c.specs.declared.check.YtVerdict.{YtVerdict}
use Rattle.dap_c.proofs.check.judge.Goals as goal

-- a verdict is no fault
no_fault : {A : Type 0} (told : Checked) (fault : CheckFault) (o : Result Checked CheckFault) → o ≡ Ok told → (o ≡ Err fault) ⊎ (o ≡ Err OutOfMemory) → A
no_fault told fault o is (inl e) = absurd (cc (is, e))
no_fault told fault o is (inr e) = absurd (cc (is, e))

-- what is told of a fault, where it is this one or memory was refused
told_of : (given fault : CheckFault) (code : ℕ) (v : YtVerdict) (o : Result Checked CheckFault) → o ≡ Err given → code ≡ fault_code given → v.line ≡ fault_line given
    → (o ≡ Err fault) ⊎ (o ≡ Err OutOfMemory) → TellsRefused fault code v ⊎ (code ≡ 104)
told_of given fault code v o is code_is line (inl e) = let same : given ≡ fault = cc (is, e) in inl (record { code_is = cc (same, code_is); line = cc (same, line) })
told_of given fault code v o is code_is line (inr e) = let same : given ≡ OutOfMemory = cc (is, e) in inr (cc (same, code_is))

pub returns-in-Ok-clause-refuses : goal.returns-in-Ok-clause-refuses
returns-in-Ok-clause-refuses c fault first other = no_fault c.in-Ok.checked fault c.check_by_side.result c.in-Ok.is (c.check_by_side.ensures.refuses fault first other)

pub returns-in-Err-clause-refuses : goal.returns-in-Err-clause-refuses
returns-in-Err-clause-refuses c fault first other =
    told_of c.in-Err.fault fault c.code_of.result (record { line = c.line_of.result; rule = 0 }) c.check_by_side.result c.in-Err.is c.code_of.ensures c.line_of.ensures (c.check_by_side.ensures.refuses fault first other)
