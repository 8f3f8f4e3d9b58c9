-- Worked examples of faults and their sentences, each shown by computation.
use Rattle.std.proofs.Common.{◌≡◌, ℕ, List, [], ◌∷◌, codes, Option, Some, None, true, false, refl}
use Rattle.std.specs.Fmt.{digits}
use Rattle.serde_json.specs.Data.{unsigned, Data, null, number, string, array, object, no_items, item, no_members, member}
use Rattle.dap_envelope.specs.declared.message.Kind.TheVariants.{Request, Response, Event}
use Rattle.dap_shape.specs.Shapes.{at_key, at_place, absent, other_than}
use Rattle.dap_shape.specs.Faults.{fault_of, fault_in}
use Rattle.dap_shape.specs.Sentences.{sentence_of}
use Rattle.dap_shape.specs.declared.shape.Scalar.TheVariants.{Text, Whole, OneOf}
use Rattle.dap_shape.specs.declared.shape.Choice.TheVariants.{OutputEventGroup}
use Rattle.dap_shape.specs.declared.shape.TypeName.TheVariants.{Thread, ExceptionDetails}
use Rattle.dap_shape.specs.declared.shape.Kind.TheVariants.{Plain, Object}
use Rattle.dap_shape.specs.declared.shape.Shape.TheVariants.{One, Each}

abbrev one : ℕ → Data
one n = number (unsigned n)

abbrev at : List ℕ → Data → Data
at key d = object (member key d no_members)

abbrev list_of : Data → Data
list_of d = array (item d no_items)

-- ---- values

text_is_text : fault_of (One (Plain Text)) (string (codes "x")) ≡ None
text_is_text = refl

number_is_no_text : fault_of (One (Plain Text)) (one 7) ≡ Some (record { path = []; wrong = other_than (One (Plain Text)) })
number_is_no_text = refl

text_is_no_list : fault_of (Each (Plain Text)) (string (codes "x")) ≡ Some (record { path = []; wrong = other_than (Each (Plain Text)) })
text_is_no_list = refl

second_is_no_text : fault_of (Each (Plain Text)) (array (item (string []) (item (one 1) no_items))) ≡ Some (record { path = at_place 1 ∷ []; wrong = other_than (One (Plain Text)) })
second_is_no_text = refl

whole_thread : fault_of (One (Object Thread)) (object (member (codes "id") (one 1) (member (codes "name") (string (codes "main")) no_members))) ≡ None
whole_thread = refl

thread_without_name : fault_of (One (Object Thread)) (at (codes "id") (one 1)) ≡ Some (record { path = []; wrong = absent (codes "name") })
thread_without_name = refl

-- null counts as absent
thread_with_null : fault_of (One (Object Thread)) (object (member (codes "id") (one 1) (member (codes "name") null no_members))) ≡ Some (record { path = []; wrong = absent (codes "name") })
thread_with_null = refl

-- the rows are looked at in their order, not the keys of the object
first_row_first : fault_of (One (Object Thread)) (object (member (codes "id") (string []) no_members)) ≡ Some (record { path = at_key (codes "id") ∷ []; wrong = other_than (One (Plain Whole)) })
first_row_first = refl

-- a type that has itself in it
inner_exception : fault_of (One (Object ExceptionDetails)) (at (codes "innerException") (list_of (at (codes "innerException") (list_of (at (codes "message") (one 1))))))
    ≡ Some (record { path = at_key (codes "innerException") ∷ at_place 0 ∷ at_key (codes "innerException") ∷ at_place 0 ∷ at_key (codes "message") ∷ []; wrong = other_than (One (Plain Text)) })
inner_exception = refl

-- ---- messages

frame_without_line : fault_in (Response 2 true (codes "stackTrace") None (Some (at (codes "stackFrames") (list_of (object (member (codes "column") (one 1) (member (codes "id") (one 1) (member (codes "name") (string []) no_members))))))))
    ≡ Some (record { path = at_key (codes "body") ∷ at_key (codes "stackFrames") ∷ at_place 0 ∷ []; wrong = absent (codes "line") })
frame_without_line = refl

-- nothing is asked of the body of a failure
failed_stack_trace : (body : Option Data) → fault_in (Response 2 false (codes "stackTrace") None body) ≡ None
failed_stack_trace body = refl

no_body : fault_in (Response 2 true (codes "threads") None None) ≡ Some (record { path = []; wrong = absent (codes "body") })
no_body = refl

no_body_needed : fault_in (Response 2 true (codes "next") None None) ≡ None
no_body_needed = refl

unknown_event : (body : Option Data) → fault_in (Event (codes "toy") body) ≡ None
unknown_event body = refl

-- any text may be the reason of a stop, and no number
stop_for_a_reason : fault_in (Event (codes "stopped") (Some (at (codes "reason") (string (codes "whim"))))) ≡ None
stop_for_a_reason = refl

scopes_of_nothing : fault_in (Request (codes "scopes") (Some (object no_members))) ≡ Some (record { path = at_key (codes "arguments") ∷ []; wrong = absent (codes "frameId") })
scopes_of_nothing = refl

-- ---- sentences

frame_sentence : sentence_of (Response 2 true (codes "stackTrace") None None) (record { path = at_key (codes "body") ∷ at_key (codes "stackFrames") ∷ at_place 0 ∷ []; wrong = absent (codes "line") })
    ≡ codes "response to stackTrace: body.stackFrames[0] has no line"
unfolding digits
frame_sentence = refl

event_sentence : sentence_of (Event (codes "stopped") None) (record { path = at_key (codes "body") ∷ at_key (codes "reason") ∷ []; wrong = other_than (One (Plain Text)) }) ≡ codes "event stopped: body.reason is no text"
event_sentence = refl

absent_body_sentence : sentence_of (Response 2 true (codes "threads") None None) (record { path = []; wrong = absent (codes "body") }) ≡ codes "response to threads has no body"
absent_body_sentence = refl

choice_sentence : sentence_of (Event (codes "output") None) (record { path = at_key (codes "body") ∷ at_key (codes "group") ∷ []; wrong = other_than (One (Plain (OneOf OutputEventGroup))) })
    ≡ codes "event output: body.group is none of start startCollapsed end"
choice_sentence = refl
