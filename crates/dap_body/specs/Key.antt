-- The keys of bodies, by their names in the Specification.
use Rattle.std.specs.Prelude.{List, ℕ, codes}
use Rattle.dap_body.specs.declared.key.BodyKey.{BodyKey}
use Rattle.dap_body.specs.declared.key.BodyKey.TheVariants.{Threads, StackFrames, TotalFrames, Scopes, Variables, Breakpoints, Sources, Result, Content, Id, Name, Line, Column, Source, Path, SourceReference, VariablesReference, Expensive, Value, Verified, Message}

abbrev pub text_of : BodyKey → List ℕ
text_of Threads = codes "threads"
text_of StackFrames = codes "stackFrames"
text_of TotalFrames = codes "totalFrames"
text_of Scopes = codes "scopes"
text_of Variables = codes "variables"
text_of Breakpoints = codes "breakpoints"
text_of Sources = codes "sources"
text_of Result = codes "result"
text_of Content = codes "content"
text_of Id = codes "id"
text_of Name = codes "name"
text_of Line = codes "line"
text_of Column = codes "column"
text_of Source = codes "source"
text_of Path = codes "path"
text_of SourceReference = codes "sourceReference"
text_of VariablesReference = codes "variablesReference"
text_of Expensive = codes "expensive"
text_of Value = codes "value"
text_of Verified = codes "verified"
text_of Message = codes "message"
