use Rattle.dap_world.proofs.ReferencesAgreeing.{references-agree, transcripts-are-legal}
use Rattle.dap_world.proofs.laws.references_agree_while_stops_last.Goals as goal

pub returns-clause-agree : goal.returns-clause-agree
returns-clause-agree g c = references-agree (record { client = c.each_step_projects.ensures; client_stays = c.each_step_stays_within.ensures; adapter_stays = c.each_step_stays_within-2.ensures; goes_well = c.each_step_goes_well.ensures; only_ask = c.each_step_goes_on.ensures.only_ask; short = c.fixed_messages_are_short.ensures.responses; read = c.written_call_is_read_again.ensures; short_names = c.each_name_is_short.ensures; gives = c.each_answer_gives_live.ensures }) c.each_step_keeps_state.ensures g.D.Debuggee.shown g.D.Debuggee.follows g.met.D.Debuggee.answers g.met.D.Debuggee.moves

pub returns-clause-legal : goal.returns-clause-legal
returns-clause-legal g c = transcripts-are-legal (record { client = c.each_step_projects.ensures; client_stays = c.each_step_stays_within.ensures; adapter_stays = c.each_step_stays_within-2.ensures; goes_well = c.each_step_goes_well.ensures; only_ask = c.each_step_goes_on.ensures.only_ask; short = c.fixed_messages_are_short.ensures.responses; read = c.written_call_is_read_again.ensures; short_names = c.each_name_is_short.ensures; gives = c.each_answer_gives_live.ensures }) c.each_step_keeps_state.ensures g.D.Debuggee.shown g.D.Debuggee.follows g.met.D.Debuggee.answers g.met.D.Debuggee.moves
