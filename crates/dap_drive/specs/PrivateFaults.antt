-- The code's words for faults of the ends, and the laws that its proofs cite. Only private clauses cite these.
use Rattle.dap_frame.specs.Laws.{EachStreamHasOneSplit, WrittenIsReadAgain}
use Rattle.dap_envelope.specs.Laws.{EachBodyIsOne}
use Rattle.dap_plan.specs.declared.fault.AdapterFault.{AdapterFault}
use Rattle.dap_plan.specs.declared.fault.AdapterFault.TheVariants as adapter
use Rattle.dap_client.specs.declared.fault.ClientFault.{ClientFault}
use Rattle.dap_client.specs.declared.fault.ClientFault.TheVariants as client
use Rattle.dap_client.specs.declared.fault.AnswerFault.{AnswerFault}
use Rattle.dap_client.specs.declared.fault.AnswerFault.TheVariants as answer
use Rattle.dap_world.specs.Moves.{BodiesMoveInOrder}
use Rattle.dap_drive.specs.declared.fault.DriveFault.{DriveFault}
use Rattle.dap_drive.specs.declared.fault.DriveFault.TheVariants.{Adapter, Client, OutOfMemory}

-- what a script stops with, where a fault closed the adapter
abbrev pub fault_of_adapter : AdapterFault → DriveFault
fault_of_adapter adapter.OutOfMemory = OutOfMemory
fault_of_adapter _ = Adapter

-- or the client
abbrev pub fault_of_client : ClientFault → DriveFault
fault_of_client client.OutOfMemory = OutOfMemory
fault_of_client _ = Client

-- or what the client keeps is not answered
abbrev pub fault_of_answer : AnswerFault → DriveFault
fault_of_answer answer.OutOfMemory = OutOfMemory
fault_of_answer _ = Client

pub record FrameLaws : Type 0 where
  pub one_split : EachStreamHasOneSplit
  pub moves : BodiesMoveInOrder
  pub written : WrittenIsReadAgain
  pub one_message : EachBodyIsOne
