-- How the code keeps trails of the lines so far, line by line.
use Rattle.std.specs.Prelude.{ℕ, ◌+◌, ◌<◌, List, Bool, false, if◌then◌else◌, Option, Some, None}
use Rattle.dap_check.specs.Lines.{is_of, asks, answers, succeeds}
use Rattle.dap_check.specs.Rules.{initialize, disconnect}
use Rattle.dap_explain.specs.Reasons.{trail, no_line, asks_to_initialize}
use Rattle.dap_check.specs.declared.line.Line.{Line}
use Rattle.dap_check.specs.declared.line.Side.TheVariants.{Client, Adapter}
use Rattle.dap_explain.specs.declared.trail.Last.{Last}
use Rattle.dap_explain.specs.declared.trail.Opened.{Opened}
use Rattle.dap_explain.specs.declared.trail.Trail.{Trail}
use Rattle.dap_explain.specs.declared.trail.Trails.{Trails}
use Rattle.dap_explain.specs.declared.trail.Watch.{Watch}
use Rattle.dap_explain.specs.declared.trail.Watch.TheVariants.{Of, ClientAsks, AsksToInitialize, Initializes, Disconnects}

abbrev pub opens_of : Watch → Line → Bool
opens_of (Of side) line = is_of side line
opens_of ClientAsks line = asks Client line
opens_of AsksToInitialize line = asks_to_initialize line
opens_of Initializes line = succeeds initialize line
opens_of Disconnects line = succeeds disconnect line

abbrev pub closes_of : Watch → ℕ → Line → Bool
closes_of (Of side) n line = false
closes_of ClientAsks n line = answers Adapter n line
closes_of AsksToInitialize n line = answers Adapter n line
closes_of Initializes n line = false
closes_of Disconnects n line = false

-- the first that closes, one line later
abbrev pub closed_after : (ℕ → Line → Bool) → Line → Option Opened → Option ℕ → Option ℕ
closed_after closes line None closed = closed
closed_after closes line (Some opened) (Some closed) = Some closed
closed_after closes line (Some opened) None = if closes opened.seq line then Some line.number else None

abbrev pub trail_after : (Line → Bool) → (ℕ → Line → Bool) → Line → Trail → Trail
trail_after opens closes line before =
    if opens line then record { count = before.count + 1; opened = Some (record { line = line.number; seq = line.message.seq }); closed = None }
    else record { count = before.count; opened = before.opened; closed = closed_after closes line before.opened before.closed }

-- a trail without its number
abbrev pub last_of : Trail → Last
last_of t = record { opened = t.opened; closed = t.closed }

-- of all that reasons ask for whatever the line
abbrev pub trails : List Line → Trails
trails earlier = record {
  client = trail (is_of Client) no_line earlier;
  adapter = trail (is_of Adapter) no_line earlier;
  requests = trail (asks Client) (answers Adapter) earlier;
  requests_to_initialize = trail asks_to_initialize (answers Adapter) earlier;
  initialized = trail (succeeds initialize) no_line earlier;
  disconnected = trail (succeeds disconnect) no_line earlier;
}

-- all counts are below
pub record AreBelow (n : ℕ) (found : Trails) : Type 0 where
  pub client : found.client.count < n
  pub adapter : found.adapter.count < n
  pub requests : found.requests.count < n
  pub requests_to_initialize : found.requests_to_initialize.count < n
  pub initialized : found.initialized.count < n
  pub disconnected : found.disconnected.count < n
