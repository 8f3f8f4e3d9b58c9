-- What is said of a side that numbers its messages in a way of its own. It is this profile's choice.
use Rattle.std.specs.Prelude.{ℕ, nat_le, List, [], ◌∷◌, ◌++◌, Bool, true, false, not, ◌&&◌, ◌||◌, count_by, codes, if◌then◌else◌, Option, Some, None}
use Rattle.dap_check.specs.Legal.{least_broken}
use Rattle.dap_check.specs.Lines.{is_of}
use Rattle.dap_check.specs.declared.line.Line.{Line}
use Rattle.dap_check.specs.declared.line.Side.{Side}
use Rattle.dap_check.specs.declared.line.Side.TheVariants.{Client, Adapter}
use Rattle.dap_check.specs.declared.rule.AnySeq.{AnySeq}
use Rattle.dap_check.specs.declared.rule.Rule.{Rule}
use Rattle.dap_check.specs.declared.rule.Rule.TheVariants.{Seq, Answer, FirstRequest, Initialized, Gate, Reference, Disconnect}

abbrev pub is_rule_1 : Option Rule → Bool
is_rule_1 None = false
is_rule_1 (Some Seq) = true
is_rule_1 (Some Answer) = false
is_rule_1 (Some FirstRequest) = false
is_rule_1 (Some Initialized) = false
is_rule_1 (Some Gate) = false
is_rule_1 (Some Reference) = false
is_rule_1 (Some Disconnect) = false

-- of lines that stand after these, each of the side breaks rule 1
abbrev pub each_breaks : AnySeq → Side → List Line → List Line → Bool
each_breaks any_seq side earlier [] = true
each_breaks any_seq side earlier (line ∷ later) = (not (is_of side line) || is_rule_1 (least_broken any_seq earlier line)) && each_breaks any_seq side (earlier ++ line ∷ []) later

-- the side has written two messages at least, and each breaks rule 1
abbrev pub numbers_itself : AnySeq → List Line → Side → Bool
numbers_itself any_seq lines side = nat_le 2 (count_by (is_of side) lines) && each_breaks any_seq side [] lines

-- of the client, and of the adapter
abbrev pub hint_text : Bool → Bool → List ℕ
hint_text true true = codes "each message breaks rule 1: --any-seq leaves the numbers of both sides untested\n"
hint_text true false = codes "each message of the client breaks rule 1: --any-seq=client leaves its numbers untested\n"
hint_text false true = codes "each message of the adapter breaks rule 1: --any-seq=adapter leaves its numbers untested\n"
hint_text false false = []

-- where reasons are asked for
abbrev pub hint_if : Bool → AnySeq → List Line → List ℕ
hint_if explained any_seq lines = if explained then hint_text (numbers_itself any_seq lines Client) (numbers_itself any_seq lines Adapter) else []
