-- A world whose ways are bytes, and the messages that are in it: those that came, those under way, and all that were said.
-- Overview, "Base Protocol".
use Rattle.std.specs.Prelude.{◌≡◌, ℕ, List, ◌++◌, map, filter}
use Rattle.dap_adapter.specs.AdapterState.{state_of}
use Rattle.dap_adapter.specs.StandsFor.{StandsFor}
use Rattle.dap_check.specs.Lines.{same_side}
use Rattle.dap_check.specs.declared.line.Side.{Side}
use Rattle.dap_check.specs.declared.line.Side.TheVariants.{Client, Adapter}
use Rattle.dap_client.specs.StandsFor.{StandsFor as ClientStandsFor}
use Rattle.dap_frame.specs.Intake.{Intake}
use Rattle.dap_frame.specs.Settings.{Settings}
use Rattle.dap_history.specs.History.{Entry, ins_of, outs_of}
use Rattle.dap_envelope.specs.Canon.{canon}
use Rattle.dap_envelope.specs.declared.message.Message.{Message}
use Rattle.dap_world.specs.Moves.{IsWay}
use Rattle.dap_world.specs.World.{World, Said}
use Rattle.dap_ways.specs.ByteWorld.{ByteWorld, written_bytes}

-- the sessions of these ends, with these messages under way, after all of these were said
abbrev pub with_messages : {D : Type 0} → ByteWorld D → List Message → List Message → List Said → World D
with_messages w up down said = record { client = w.client.session; adapter = state_of w.adapter; up = up; down = down; said = said }

-- what one side said, in order
abbrev pub messages_by : Side → List Said → List Message
messages_by side said = map (λ x. x.message) (filter (λ x. same_side side x.side) said)

-- An end that used the bytes s, and those that are to come to it: together they are the frames of the messages that came whole,
-- and then of those that are under way.
pub record AreUnderWay (limits : Settings) (i : Intake) (s later : List ℕ) (came under_way : List Message) : Type 0 where
  pub bodies : List (List ℕ)
  pub rest : List ℕ
  -- its `bytes`: s ++ later are the frames of all of them, in order
  pub way : IsWay limits i s bodies rest later (came ++ under_way)
  pub whole : bodies ≡ map canon came

pub record Matches {D : Type 0} (limits : Settings) (w : ByteWorld D) (up down : List Message) (said : List Said) : Type 0 where
  -- each end is open, and stands for the bytes that it used and the history of its calls
  pub adapter_used : List ℕ
  pub adapter_history : List Entry
  pub adapter : StandsFor w.adapter adapter_used adapter_history
  pub adapter_limits : w.adapter.session.limits ≡ limits
  pub client_used : List ℕ
  pub client_history : List Entry
  pub client : ClientStandsFor w.client client_used client_history
  pub client_limits : w.client.session.limits ≡ limits
  -- what came to an end, and what is under way to it
  pub up_is : AreUnderWay limits w.adapter.intake adapter_used w.up (ins_of adapter_history) up
  pub down_is : AreUnderWay limits w.client.intake client_used w.down (ins_of client_history) down
  -- it is all that the other one said, and each history has all that its end said
  pub up_said : ins_of adapter_history ++ up ≡ messages_by Client said
  pub down_said : ins_of client_history ++ down ≡ messages_by Adapter said
  pub client_said : outs_of client_history ≡ messages_by Client said
  pub adapter_said : outs_of adapter_history ≡ messages_by Adapter said
  -- what was written is the frames of what was said
  pub written_is : w.written ≡ written_bytes said
