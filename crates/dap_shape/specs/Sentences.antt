-- A fault of a message in one sentence, in the protocol's words. The sentences are this profile's choice.
use Rattle.std.specs.Prelude.{ℕ, List, [], ◌∷◌, ◌++◌, codes, decimal, flat_map}
use Rattle.dap_envelope.specs.declared.message.Kind.{Kind as MessageKind}
use Rattle.dap_envelope.specs.declared.message.Kind.TheVariants.{Request, Response, Event, Other}
use Rattle.dap_shape.specs.Shapes.{Step, at_key, at_place, Wrong, absent, other_than, Fault}
use Rattle.dap_shape.specs.Rows.{values_of}
use Rattle.dap_shape.specs.Seen.{fault_seen}
use Rattle.dap_shape.specs.declared.fault.ShapeFault.{ShapeFault}
use Rattle.dap_shape.specs.declared.shape.Scalar.{Scalar}
use Rattle.dap_shape.specs.declared.shape.Scalar.TheVariants.{Any, Text, Boolean, Whole, Number, WholeOrText, OneOf}
use Rattle.dap_shape.specs.declared.shape.Kind.TheVariants.{Plain, Object}
use Rattle.dap_shape.specs.declared.shape.Shape.{Shape}
use Rattle.dap_shape.specs.declared.shape.Shape.TheVariants.{One, Each}

-- which message it is
abbrev pub subject_of : MessageKind → List ℕ
subject_of (Request command arguments) = codes "request " ++ command
subject_of (Response request_seq success command message body) = codes "response to " ++ command
subject_of (Event event body) = codes "event " ++ event
subject_of (Other tag) = codes "message " ++ tag

-- where it is: `: body.stackFrames[0]`
abbrev pub step_text : Step → List ℕ
step_text (at_key key) = codes "." ++ key
step_text (at_place n) = codes "[" ++ decimal n ++ codes "]"

abbrev pub first_step_text : Step → List ℕ
first_step_text (at_key key) = key
first_step_text (at_place n) = step_text (at_place n)

abbrev pub path_text : List Step → List ℕ
path_text [] = []
path_text (step ∷ steps) = codes ": " ++ (first_step_text step ++ flat_map step_text steps)

-- what is wrong there
abbrev pub scalar_text : Scalar → List ℕ
scalar_text Any = codes " is no value"
scalar_text Text = codes " is no text"
scalar_text Boolean = codes " is no boolean"
scalar_text Whole = codes " is no whole number"
scalar_text Number = codes " is no number"
scalar_text WholeOrText = codes " is no whole number and no text"
scalar_text (OneOf choice) = codes " is none of" ++ flat_map (λ text. codes " " ++ text) (values_of choice)

abbrev pub shape_text : Shape → List ℕ
shape_text (One (Plain scalar)) = scalar_text scalar
shape_text (One (Object name)) = codes " is no object"
shape_text (Each kind) = codes " is no list"

abbrev pub wrong_text : Wrong → List ℕ
wrong_text (absent key) = codes " has no " ++ key
wrong_text (other_than shape) = shape_text shape

-- `response to stackTrace: body.stackFrames[0] has no line`
abbrev pub sentence_of : MessageKind → Fault → List ℕ
sentence_of kind fault = subject_of kind ++ (path_text fault.path ++ wrong_text fault.wrong)

-- of a fault as the code has it
abbrev pub fault_sentence : MessageKind → ShapeFault → List ℕ
fault_sentence kind fault = sentence_of kind (fault_seen fault)
