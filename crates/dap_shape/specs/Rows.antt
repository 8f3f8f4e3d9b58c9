-- The rows of rule 8: which keys the types of the Specification have, and of which types their values are. Of a type whose
-- name ends in Response or Event: its body. Keys that may be absent and may have any value are left out; a type without
-- rows is any object. The rows were made from the published types of the protocol: `scripts/shapes` says how.
use Rattle.std.specs.Prelude.{ℕ, List, [], ◌∷◌, codes}
use Rattle.dap_shape.specs.Shapes.{Row, required, optional}
use Rattle.dap_shape.specs.declared.shape.Scalar.TheVariants.{Text, Boolean, Whole, Number, WholeOrText, OneOf}
use Rattle.dap_shape.specs.declared.shape.Kind.TheVariants.{Plain, Object}
use Rattle.dap_shape.specs.declared.shape.Shape.TheVariants.{One, Each}
use Rattle.dap_shape.specs.declared.shape.TypeName.{TypeName}
use Rattle.dap_shape.specs.declared.shape.TypeName.TheVariants as name
use Rattle.dap_shape.specs.declared.shape.Choice.{Choice}
use Rattle.dap_shape.specs.declared.shape.Choice.TheVariants as choice

-- ---- objects

abbrev pub fields_of : TypeName → List Row
fields_of name.AttachRequestArguments = []
fields_of name.Breakpoint = optional (codes "id") (One (Plain Whole)) ∷ required (codes "verified") (One (Plain Boolean)) ∷ optional (codes "message") (One (Plain Text)) ∷ optional (codes "source") (One (Object name.Source)) ∷ optional (codes "line") (One (Plain Whole)) ∷ optional (codes "column") (One (Plain Whole)) ∷ optional (codes "endLine") (One (Plain Whole)) ∷ optional (codes "endColumn") (One (Plain Whole)) ∷ optional (codes "instructionReference") (One (Plain Text)) ∷ optional (codes "offset") (One (Plain Whole)) ∷ []
fields_of name.BreakpointEvent = required (codes "reason") (One (Plain Text)) ∷ required (codes "breakpoint") (One (Object name.Breakpoint)) ∷ []
fields_of name.BreakpointLocation = required (codes "line") (One (Plain Whole)) ∷ optional (codes "column") (One (Plain Whole)) ∷ optional (codes "endLine") (One (Plain Whole)) ∷ optional (codes "endColumn") (One (Plain Whole)) ∷ []
fields_of name.BreakpointLocationsArguments = required (codes "source") (One (Object name.Source)) ∷ required (codes "line") (One (Plain Whole)) ∷ optional (codes "column") (One (Plain Whole)) ∷ optional (codes "endLine") (One (Plain Whole)) ∷ optional (codes "endColumn") (One (Plain Whole)) ∷ []
fields_of name.BreakpointLocationsResponse = required (codes "breakpoints") (Each (Object name.BreakpointLocation)) ∷ []
fields_of name.CancelArguments = optional (codes "requestId") (One (Plain Whole)) ∷ optional (codes "progressId") (One (Plain Text)) ∷ []
fields_of name.Capabilities = optional (codes "supportsConfigurationDoneRequest") (One (Plain Boolean)) ∷ optional (codes "supportsFunctionBreakpoints") (One (Plain Boolean)) ∷ optional (codes "supportsConditionalBreakpoints") (One (Plain Boolean)) ∷ optional (codes "supportsHitConditionalBreakpoints") (One (Plain Boolean)) ∷ optional (codes "supportsEvaluateForHovers") (One (Plain Boolean)) ∷ optional (codes "exceptionBreakpointFilters") (Each (Object name.ExceptionBreakpointsFilter)) ∷ optional (codes "supportsStepBack") (One (Plain Boolean)) ∷ optional (codes "supportsSetVariable") (One (Plain Boolean)) ∷ optional (codes "supportsRestartFrame") (One (Plain Boolean)) ∷ optional (codes "supportsGotoTargetsRequest") (One (Plain Boolean)) ∷ optional (codes "supportsStepInTargetsRequest") (One (Plain Boolean)) ∷ optional (codes "supportsCompletionsRequest") (One (Plain Boolean)) ∷ optional (codes "completionTriggerCharacters") (Each (Plain Text)) ∷ optional (codes "supportsModulesRequest") (One (Plain Boolean)) ∷ optional (codes "additionalModuleColumns") (Each (Object name.ColumnDescriptor)) ∷ optional (codes "supportedChecksumAlgorithms") (Each (Plain (OneOf choice.ChecksumAlgorithm))) ∷ optional (codes "supportsRestartRequest") (One (Plain Boolean)) ∷ optional (codes "supportsExceptionOptions") (One (Plain Boolean)) ∷ optional (codes "supportsValueFormattingOptions") (One (Plain Boolean)) ∷ optional (codes "supportsExceptionInfoRequest") (One (Plain Boolean)) ∷ optional (codes "supportTerminateDebuggee") (One (Plain Boolean)) ∷ optional (codes "supportSuspendDebuggee") (One (Plain Boolean)) ∷ optional (codes "supportsDelayedStackTraceLoading") (One (Plain Boolean)) ∷ optional (codes "supportsLoadedSourcesRequest") (One (Plain Boolean)) ∷ optional (codes "supportsLogPoints") (One (Plain Boolean)) ∷ optional (codes "supportsTerminateThreadsRequest") (One (Plain Boolean)) ∷ optional (codes "supportsSetExpression") (One (Plain Boolean)) ∷ optional (codes "supportsTerminateRequest") (One (Plain Boolean)) ∷ optional (codes "supportsDataBreakpoints") (One (Plain Boolean)) ∷ optional (codes "supportsReadMemoryRequest") (One (Plain Boolean)) ∷ optional (codes "supportsWriteMemoryRequest") (One (Plain Boolean)) ∷ optional (codes "supportsDisassembleRequest") (One (Plain Boolean)) ∷ optional (codes "supportsCancelRequest") (One (Plain Boolean)) ∷ optional (codes "supportsBreakpointLocationsRequest") (One (Plain Boolean)) ∷ optional (codes "supportsClipboardContext") (One (Plain Boolean)) ∷ optional (codes "supportsSteppingGranularity") (One (Plain Boolean)) ∷ optional (codes "supportsInstructionBreakpoints") (One (Plain Boolean)) ∷ optional (codes "supportsExceptionFilterOptions") (One (Plain Boolean)) ∷ optional (codes "supportsSingleThreadExecutionRequests") (One (Plain Boolean)) ∷ []
fields_of name.CapabilitiesEvent = required (codes "capabilities") (One (Object name.Capabilities)) ∷ []
fields_of name.Checksum = required (codes "algorithm") (One (Plain (OneOf choice.ChecksumAlgorithm))) ∷ required (codes "checksum") (One (Plain Text)) ∷ []
fields_of name.ColumnDescriptor = required (codes "attributeName") (One (Plain Text)) ∷ required (codes "label") (One (Plain Text)) ∷ optional (codes "format") (One (Plain Text)) ∷ optional (codes "type") (One (Plain (OneOf choice.ColumnDescriptorType))) ∷ optional (codes "width") (One (Plain Whole)) ∷ []
fields_of name.CompletionItem = required (codes "label") (One (Plain Text)) ∷ optional (codes "text") (One (Plain Text)) ∷ optional (codes "sortText") (One (Plain Text)) ∷ optional (codes "detail") (One (Plain Text)) ∷ optional (codes "type") (One (Plain (OneOf choice.CompletionItemType))) ∷ optional (codes "start") (One (Plain Whole)) ∷ optional (codes "length") (One (Plain Whole)) ∷ optional (codes "selectionStart") (One (Plain Whole)) ∷ optional (codes "selectionLength") (One (Plain Whole)) ∷ []
fields_of name.CompletionsArguments = optional (codes "frameId") (One (Plain Whole)) ∷ required (codes "text") (One (Plain Text)) ∷ required (codes "column") (One (Plain Whole)) ∷ optional (codes "line") (One (Plain Whole)) ∷ []
fields_of name.CompletionsResponse = required (codes "targets") (Each (Object name.CompletionItem)) ∷ []
fields_of name.ConfigurationDoneArguments = []
fields_of name.ContinueArguments = required (codes "threadId") (One (Plain Whole)) ∷ optional (codes "singleThread") (One (Plain Boolean)) ∷ []
fields_of name.ContinueResponse = optional (codes "allThreadsContinued") (One (Plain Boolean)) ∷ []
fields_of name.ContinuedEvent = required (codes "threadId") (One (Plain Whole)) ∷ optional (codes "allThreadsContinued") (One (Plain Boolean)) ∷ []
fields_of name.DisconnectArguments = optional (codes "restart") (One (Plain Boolean)) ∷ optional (codes "terminateDebuggee") (One (Plain Boolean)) ∷ optional (codes "suspendDebuggee") (One (Plain Boolean)) ∷ []
fields_of name.EvaluateArguments = required (codes "expression") (One (Plain Text)) ∷ optional (codes "frameId") (One (Plain Whole)) ∷ optional (codes "context") (One (Plain Text)) ∷ optional (codes "format") (One (Object name.ValueFormat)) ∷ []
fields_of name.EvaluateResponse = required (codes "result") (One (Plain Text)) ∷ optional (codes "type") (One (Plain Text)) ∷ optional (codes "presentationHint") (One (Object name.VariablePresentationHint)) ∷ required (codes "variablesReference") (One (Plain Whole)) ∷ optional (codes "namedVariables") (One (Plain Whole)) ∷ optional (codes "indexedVariables") (One (Plain Whole)) ∷ optional (codes "memoryReference") (One (Plain Text)) ∷ []
fields_of name.ExceptionBreakpointsFilter = required (codes "filter") (One (Plain Text)) ∷ required (codes "label") (One (Plain Text)) ∷ optional (codes "description") (One (Plain Text)) ∷ optional (codes "default") (One (Plain Boolean)) ∷ optional (codes "supportsCondition") (One (Plain Boolean)) ∷ optional (codes "conditionDescription") (One (Plain Text)) ∷ []
fields_of name.ExceptionDetails = optional (codes "message") (One (Plain Text)) ∷ optional (codes "typeName") (One (Plain Text)) ∷ optional (codes "fullTypeName") (One (Plain Text)) ∷ optional (codes "evaluateName") (One (Plain Text)) ∷ optional (codes "stackTrace") (One (Plain Text)) ∷ optional (codes "innerException") (Each (Object name.ExceptionDetails)) ∷ []
fields_of name.ExceptionFilterOptions = required (codes "filterId") (One (Plain Text)) ∷ optional (codes "condition") (One (Plain Text)) ∷ []
fields_of name.ExceptionInfoArguments = required (codes "threadId") (One (Plain Whole)) ∷ []
fields_of name.ExceptionInfoResponse = required (codes "exceptionId") (One (Plain Text)) ∷ optional (codes "description") (One (Plain Text)) ∷ required (codes "breakMode") (One (Plain (OneOf choice.ExceptionBreakMode))) ∷ optional (codes "details") (One (Object name.ExceptionDetails)) ∷ []
fields_of name.ExceptionOptions = optional (codes "path") (Each (Object name.ExceptionPathSegment)) ∷ required (codes "breakMode") (One (Plain (OneOf choice.ExceptionBreakMode))) ∷ []
fields_of name.ExceptionPathSegment = optional (codes "negate") (One (Plain Boolean)) ∷ required (codes "names") (Each (Plain Text)) ∷ []
fields_of name.ExitedEvent = required (codes "exitCode") (One (Plain Whole)) ∷ []
fields_of name.FunctionBreakpoint = required (codes "name") (One (Plain Text)) ∷ optional (codes "condition") (One (Plain Text)) ∷ optional (codes "hitCondition") (One (Plain Text)) ∷ []
fields_of name.InitializeRequestArguments = optional (codes "clientID") (One (Plain Text)) ∷ optional (codes "clientName") (One (Plain Text)) ∷ required (codes "adapterID") (One (Plain Text)) ∷ optional (codes "locale") (One (Plain Text)) ∷ optional (codes "linesStartAt1") (One (Plain Boolean)) ∷ optional (codes "columnsStartAt1") (One (Plain Boolean)) ∷ optional (codes "pathFormat") (One (Plain Text)) ∷ optional (codes "supportsVariableType") (One (Plain Boolean)) ∷ optional (codes "supportsVariablePaging") (One (Plain Boolean)) ∷ optional (codes "supportsRunInTerminalRequest") (One (Plain Boolean)) ∷ optional (codes "supportsMemoryReferences") (One (Plain Boolean)) ∷ optional (codes "supportsProgressReporting") (One (Plain Boolean)) ∷ optional (codes "supportsInvalidatedEvent") (One (Plain Boolean)) ∷ optional (codes "supportsMemoryEvent") (One (Plain Boolean)) ∷ optional (codes "supportsArgsCanBeInterpretedByShell") (One (Plain Boolean)) ∷ []
fields_of name.InvalidatedEvent = optional (codes "areas") (Each (Plain Text)) ∷ optional (codes "threadId") (One (Plain Whole)) ∷ optional (codes "stackFrameId") (One (Plain Whole)) ∷ []
fields_of name.LaunchRequestArguments = optional (codes "noDebug") (One (Plain Boolean)) ∷ []
fields_of name.LoadedSourceEvent = required (codes "reason") (One (Plain (OneOf choice.LoadedSourceEventReason))) ∷ required (codes "source") (One (Object name.Source)) ∷ []
fields_of name.LoadedSourcesArguments = []
fields_of name.LoadedSourcesResponse = required (codes "sources") (Each (Object name.Source)) ∷ []
fields_of name.MemoryEvent = required (codes "memoryReference") (One (Plain Text)) ∷ required (codes "offset") (One (Plain Whole)) ∷ required (codes "count") (One (Plain Whole)) ∷ []
fields_of name.Module = required (codes "id") (One (Plain WholeOrText)) ∷ required (codes "name") (One (Plain Text)) ∷ optional (codes "path") (One (Plain Text)) ∷ optional (codes "isOptimized") (One (Plain Boolean)) ∷ optional (codes "isUserCode") (One (Plain Boolean)) ∷ optional (codes "version") (One (Plain Text)) ∷ optional (codes "symbolStatus") (One (Plain Text)) ∷ optional (codes "symbolFilePath") (One (Plain Text)) ∷ optional (codes "dateTimeStamp") (One (Plain Text)) ∷ optional (codes "addressRange") (One (Plain Text)) ∷ []
fields_of name.ModuleEvent = required (codes "reason") (One (Plain (OneOf choice.ModuleEventReason))) ∷ required (codes "module") (One (Object name.Module)) ∷ []
fields_of name.ModulesArguments = optional (codes "startModule") (One (Plain Whole)) ∷ optional (codes "moduleCount") (One (Plain Whole)) ∷ []
fields_of name.ModulesResponse = required (codes "modules") (Each (Object name.Module)) ∷ optional (codes "totalModules") (One (Plain Whole)) ∷ []
fields_of name.NextArguments = required (codes "threadId") (One (Plain Whole)) ∷ optional (codes "singleThread") (One (Plain Boolean)) ∷ optional (codes "granularity") (One (Plain (OneOf choice.SteppingGranularity))) ∷ []
fields_of name.OutputEvent = optional (codes "category") (One (Plain Text)) ∷ required (codes "output") (One (Plain Text)) ∷ optional (codes "group") (One (Plain (OneOf choice.OutputEventGroup))) ∷ optional (codes "variablesReference") (One (Plain Whole)) ∷ optional (codes "source") (One (Object name.Source)) ∷ optional (codes "line") (One (Plain Whole)) ∷ optional (codes "column") (One (Plain Whole)) ∷ []
fields_of name.PauseArguments = required (codes "threadId") (One (Plain Whole)) ∷ []
fields_of name.ProcessEvent = required (codes "name") (One (Plain Text)) ∷ optional (codes "systemProcessId") (One (Plain Whole)) ∷ optional (codes "isLocalProcess") (One (Plain Boolean)) ∷ optional (codes "startMethod") (One (Plain (OneOf choice.ProcessEventStartMethod))) ∷ optional (codes "pointerSize") (One (Plain Whole)) ∷ []
fields_of name.ProgressEndEvent = required (codes "progressId") (One (Plain Text)) ∷ optional (codes "message") (One (Plain Text)) ∷ []
fields_of name.ProgressStartEvent = required (codes "progressId") (One (Plain Text)) ∷ required (codes "title") (One (Plain Text)) ∷ optional (codes "requestId") (One (Plain Whole)) ∷ optional (codes "cancellable") (One (Plain Boolean)) ∷ optional (codes "message") (One (Plain Text)) ∷ optional (codes "percentage") (One (Plain Number)) ∷ []
fields_of name.ProgressUpdateEvent = required (codes "progressId") (One (Plain Text)) ∷ optional (codes "message") (One (Plain Text)) ∷ optional (codes "percentage") (One (Plain Number)) ∷ []
fields_of name.RestartArguments = optional (codes "arguments") (One (Object name.AttachRequestArguments)) ∷ []
fields_of name.ReverseContinueArguments = required (codes "threadId") (One (Plain Whole)) ∷ optional (codes "singleThread") (One (Plain Boolean)) ∷ []
fields_of name.RunInTerminalEnv = []
fields_of name.RunInTerminalRequestArguments = optional (codes "kind") (One (Plain (OneOf choice.RunInTerminalKind))) ∷ optional (codes "title") (One (Plain Text)) ∷ required (codes "cwd") (One (Plain Text)) ∷ required (codes "args") (Each (Plain Text)) ∷ optional (codes "env") (One (Object name.RunInTerminalEnv)) ∷ optional (codes "argsCanBeInterpretedByShell") (One (Plain Boolean)) ∷ []
fields_of name.RunInTerminalResponse = optional (codes "processId") (One (Plain Whole)) ∷ optional (codes "shellProcessId") (One (Plain Whole)) ∷ []
fields_of name.Scope = required (codes "name") (One (Plain Text)) ∷ optional (codes "presentationHint") (One (Plain Text)) ∷ required (codes "variablesReference") (One (Plain Whole)) ∷ optional (codes "namedVariables") (One (Plain Whole)) ∷ optional (codes "indexedVariables") (One (Plain Whole)) ∷ required (codes "expensive") (One (Plain Boolean)) ∷ optional (codes "source") (One (Object name.Source)) ∷ optional (codes "line") (One (Plain Whole)) ∷ optional (codes "column") (One (Plain Whole)) ∷ optional (codes "endLine") (One (Plain Whole)) ∷ optional (codes "endColumn") (One (Plain Whole)) ∷ []
fields_of name.ScopesArguments = required (codes "frameId") (One (Plain Whole)) ∷ []
fields_of name.ScopesResponse = required (codes "scopes") (Each (Object name.Scope)) ∷ []
fields_of name.SetBreakpointsArguments = required (codes "source") (One (Object name.Source)) ∷ optional (codes "breakpoints") (Each (Object name.SourceBreakpoint)) ∷ optional (codes "lines") (Each (Plain Whole)) ∷ optional (codes "sourceModified") (One (Plain Boolean)) ∷ []
fields_of name.SetBreakpointsResponse = required (codes "breakpoints") (Each (Object name.Breakpoint)) ∷ []
fields_of name.SetExceptionBreakpointsArguments = required (codes "filters") (Each (Plain Text)) ∷ optional (codes "filterOptions") (Each (Object name.ExceptionFilterOptions)) ∷ optional (codes "exceptionOptions") (Each (Object name.ExceptionOptions)) ∷ []
fields_of name.SetExceptionBreakpointsResponse = optional (codes "breakpoints") (Each (Object name.Breakpoint)) ∷ []
fields_of name.SetFunctionBreakpointsArguments = required (codes "breakpoints") (Each (Object name.FunctionBreakpoint)) ∷ []
fields_of name.SetFunctionBreakpointsResponse = required (codes "breakpoints") (Each (Object name.Breakpoint)) ∷ []
fields_of name.SetVariableArguments = required (codes "variablesReference") (One (Plain Whole)) ∷ required (codes "name") (One (Plain Text)) ∷ required (codes "value") (One (Plain Text)) ∷ optional (codes "format") (One (Object name.ValueFormat)) ∷ []
fields_of name.SetVariableResponse = required (codes "value") (One (Plain Text)) ∷ optional (codes "type") (One (Plain Text)) ∷ optional (codes "variablesReference") (One (Plain Whole)) ∷ optional (codes "namedVariables") (One (Plain Whole)) ∷ optional (codes "indexedVariables") (One (Plain Whole)) ∷ []
fields_of name.Source = optional (codes "name") (One (Plain Text)) ∷ optional (codes "path") (One (Plain Text)) ∷ optional (codes "sourceReference") (One (Plain Whole)) ∷ optional (codes "presentationHint") (One (Plain (OneOf choice.SourcePresentationHint))) ∷ optional (codes "origin") (One (Plain Text)) ∷ optional (codes "sources") (Each (Object name.Source)) ∷ optional (codes "checksums") (Each (Object name.Checksum)) ∷ []
fields_of name.SourceArguments = optional (codes "source") (One (Object name.Source)) ∷ required (codes "sourceReference") (One (Plain Whole)) ∷ []
fields_of name.SourceBreakpoint = required (codes "line") (One (Plain Whole)) ∷ optional (codes "column") (One (Plain Whole)) ∷ optional (codes "condition") (One (Plain Text)) ∷ optional (codes "hitCondition") (One (Plain Text)) ∷ optional (codes "logMessage") (One (Plain Text)) ∷ []
fields_of name.SourceResponse = required (codes "content") (One (Plain Text)) ∷ optional (codes "mimeType") (One (Plain Text)) ∷ []
fields_of name.StackFrame = required (codes "id") (One (Plain Whole)) ∷ required (codes "name") (One (Plain Text)) ∷ optional (codes "source") (One (Object name.Source)) ∷ required (codes "line") (One (Plain Whole)) ∷ required (codes "column") (One (Plain Whole)) ∷ optional (codes "endLine") (One (Plain Whole)) ∷ optional (codes "endColumn") (One (Plain Whole)) ∷ optional (codes "canRestart") (One (Plain Boolean)) ∷ optional (codes "instructionPointerReference") (One (Plain Text)) ∷ optional (codes "moduleId") (One (Plain WholeOrText)) ∷ optional (codes "presentationHint") (One (Plain (OneOf choice.StackFramePresentationHint))) ∷ []
fields_of name.StackFrameFormat = optional (codes "hex") (One (Plain Boolean)) ∷ optional (codes "parameters") (One (Plain Boolean)) ∷ optional (codes "parameterTypes") (One (Plain Boolean)) ∷ optional (codes "parameterNames") (One (Plain Boolean)) ∷ optional (codes "parameterValues") (One (Plain Boolean)) ∷ optional (codes "line") (One (Plain Boolean)) ∷ optional (codes "module") (One (Plain Boolean)) ∷ optional (codes "includeAll") (One (Plain Boolean)) ∷ []
fields_of name.StackTraceArguments = required (codes "threadId") (One (Plain Whole)) ∷ optional (codes "startFrame") (One (Plain Whole)) ∷ optional (codes "levels") (One (Plain Whole)) ∷ optional (codes "format") (One (Object name.StackFrameFormat)) ∷ []
fields_of name.StackTraceResponse = required (codes "stackFrames") (Each (Object name.StackFrame)) ∷ optional (codes "totalFrames") (One (Plain Whole)) ∷ []
fields_of name.StepBackArguments = required (codes "threadId") (One (Plain Whole)) ∷ optional (codes "singleThread") (One (Plain Boolean)) ∷ optional (codes "granularity") (One (Plain (OneOf choice.SteppingGranularity))) ∷ []
fields_of name.StepInArguments = required (codes "threadId") (One (Plain Whole)) ∷ optional (codes "singleThread") (One (Plain Boolean)) ∷ optional (codes "targetId") (One (Plain Whole)) ∷ optional (codes "granularity") (One (Plain (OneOf choice.SteppingGranularity))) ∷ []
fields_of name.StepOutArguments = required (codes "threadId") (One (Plain Whole)) ∷ optional (codes "singleThread") (One (Plain Boolean)) ∷ optional (codes "granularity") (One (Plain (OneOf choice.SteppingGranularity))) ∷ []
fields_of name.StoppedEvent = required (codes "reason") (One (Plain Text)) ∷ optional (codes "description") (One (Plain Text)) ∷ optional (codes "threadId") (One (Plain Whole)) ∷ optional (codes "preserveFocusHint") (One (Plain Boolean)) ∷ optional (codes "text") (One (Plain Text)) ∷ optional (codes "allThreadsStopped") (One (Plain Boolean)) ∷ optional (codes "hitBreakpointIds") (Each (Plain Whole)) ∷ []
fields_of name.TerminateArguments = optional (codes "restart") (One (Plain Boolean)) ∷ []
fields_of name.TerminatedEvent = []
fields_of name.Thread = required (codes "id") (One (Plain Whole)) ∷ required (codes "name") (One (Plain Text)) ∷ []
fields_of name.ThreadEvent = required (codes "reason") (One (Plain Text)) ∷ required (codes "threadId") (One (Plain Whole)) ∷ []
fields_of name.ThreadsResponse = required (codes "threads") (Each (Object name.Thread)) ∷ []
fields_of name.ValueFormat = optional (codes "hex") (One (Plain Boolean)) ∷ []
fields_of name.Variable = required (codes "name") (One (Plain Text)) ∷ required (codes "value") (One (Plain Text)) ∷ optional (codes "type") (One (Plain Text)) ∷ optional (codes "presentationHint") (One (Object name.VariablePresentationHint)) ∷ optional (codes "evaluateName") (One (Plain Text)) ∷ required (codes "variablesReference") (One (Plain Whole)) ∷ optional (codes "namedVariables") (One (Plain Whole)) ∷ optional (codes "indexedVariables") (One (Plain Whole)) ∷ optional (codes "memoryReference") (One (Plain Text)) ∷ []
fields_of name.VariablePresentationHint = optional (codes "kind") (One (Plain Text)) ∷ optional (codes "attributes") (Each (Plain Text)) ∷ optional (codes "visibility") (One (Plain Text)) ∷ optional (codes "lazy") (One (Plain Boolean)) ∷ []
fields_of name.VariablesArguments = required (codes "variablesReference") (One (Plain Whole)) ∷ optional (codes "filter") (One (Plain (OneOf choice.VariablesFilter))) ∷ optional (codes "start") (One (Plain Whole)) ∷ optional (codes "count") (One (Plain Whole)) ∷ optional (codes "format") (One (Object name.ValueFormat)) ∷ []
fields_of name.VariablesResponse = required (codes "variables") (Each (Object name.Variable)) ∷ []

-- ---- closed lists of texts

abbrev pub values_of : Choice → List (List ℕ)
values_of choice.ChecksumAlgorithm = codes "MD5" ∷ codes "SHA1" ∷ codes "SHA256" ∷ codes "timestamp" ∷ []
values_of choice.ColumnDescriptorType = codes "string" ∷ codes "number" ∷ codes "boolean" ∷ codes "unixTimestampUTC" ∷ []
values_of choice.CompletionItemType = codes "method" ∷ codes "function" ∷ codes "constructor" ∷ codes "field" ∷ codes "variable" ∷ codes "class" ∷ codes "interface" ∷ codes "module" ∷ codes "property" ∷ codes "unit" ∷ codes "value" ∷ codes "enum" ∷ codes "keyword" ∷ codes "snippet" ∷ codes "text" ∷ codes "color" ∷ codes "file" ∷ codes "reference" ∷ codes "customcolor" ∷ []
values_of choice.ExceptionBreakMode = codes "never" ∷ codes "always" ∷ codes "unhandled" ∷ codes "userUnhandled" ∷ []
values_of choice.LoadedSourceEventReason = codes "new" ∷ codes "changed" ∷ codes "removed" ∷ []
values_of choice.ModuleEventReason = codes "new" ∷ codes "changed" ∷ codes "removed" ∷ []
values_of choice.OutputEventGroup = codes "start" ∷ codes "startCollapsed" ∷ codes "end" ∷ []
values_of choice.ProcessEventStartMethod = codes "launch" ∷ codes "attach" ∷ codes "attachForSuspendedLaunch" ∷ []
values_of choice.RunInTerminalKind = codes "integrated" ∷ codes "external" ∷ []
values_of choice.SourcePresentationHint = codes "normal" ∷ codes "emphasize" ∷ codes "deemphasize" ∷ []
values_of choice.StackFramePresentationHint = codes "normal" ∷ codes "label" ∷ codes "subtle" ∷ []
values_of choice.SteppingGranularity = codes "statement" ∷ codes "line" ∷ codes "instruction" ∷ []
values_of choice.VariablesFilter = codes "indexed" ∷ codes "named" ∷ []

-- ---- the arguments of a request, by its command

abbrev pub requests : List (List ℕ × Row)
requests =
    (codes "initialize", required (codes "arguments") (One (Object name.InitializeRequestArguments))) ∷
    (codes "launch", required (codes "arguments") (One (Object name.LaunchRequestArguments))) ∷
    (codes "attach", required (codes "arguments") (One (Object name.AttachRequestArguments))) ∷
    (codes "configurationDone", optional (codes "arguments") (One (Object name.ConfigurationDoneArguments))) ∷
    (codes "disconnect", optional (codes "arguments") (One (Object name.DisconnectArguments))) ∷
    (codes "terminate", optional (codes "arguments") (One (Object name.TerminateArguments))) ∷
    (codes "cancel", optional (codes "arguments") (One (Object name.CancelArguments))) ∷
    (codes "setBreakpoints", required (codes "arguments") (One (Object name.SetBreakpointsArguments))) ∷
    (codes "setFunctionBreakpoints", required (codes "arguments") (One (Object name.SetFunctionBreakpointsArguments))) ∷
    (codes "setExceptionBreakpoints", required (codes "arguments") (One (Object name.SetExceptionBreakpointsArguments))) ∷
    (codes "continue", required (codes "arguments") (One (Object name.ContinueArguments))) ∷
    (codes "next", required (codes "arguments") (One (Object name.NextArguments))) ∷
    (codes "stepIn", required (codes "arguments") (One (Object name.StepInArguments))) ∷
    (codes "stepOut", required (codes "arguments") (One (Object name.StepOutArguments))) ∷
    (codes "pause", required (codes "arguments") (One (Object name.PauseArguments))) ∷
    (codes "stepBack", required (codes "arguments") (One (Object name.StepBackArguments))) ∷
    (codes "reverseContinue", required (codes "arguments") (One (Object name.ReverseContinueArguments))) ∷
    (codes "stackTrace", required (codes "arguments") (One (Object name.StackTraceArguments))) ∷
    (codes "scopes", required (codes "arguments") (One (Object name.ScopesArguments))) ∷
    (codes "variables", required (codes "arguments") (One (Object name.VariablesArguments))) ∷
    (codes "evaluate", required (codes "arguments") (One (Object name.EvaluateArguments))) ∷
    (codes "source", required (codes "arguments") (One (Object name.SourceArguments))) ∷
    (codes "loadedSources", optional (codes "arguments") (One (Object name.LoadedSourcesArguments))) ∷
    (codes "setVariable", required (codes "arguments") (One (Object name.SetVariableArguments))) ∷
    (codes "restart", optional (codes "arguments") (One (Object name.RestartArguments))) ∷
    (codes "modules", required (codes "arguments") (One (Object name.ModulesArguments))) ∷
    (codes "exceptionInfo", required (codes "arguments") (One (Object name.ExceptionInfoArguments))) ∷
    (codes "breakpointLocations", optional (codes "arguments") (One (Object name.BreakpointLocationsArguments))) ∷
    (codes "completions", required (codes "arguments") (One (Object name.CompletionsArguments))) ∷
    (codes "runInTerminal", required (codes "arguments") (One (Object name.RunInTerminalRequestArguments))) ∷ []

-- ---- the body of a successful response, by its command

abbrev pub responses : List (List ℕ × Row)
responses =
    (codes "initialize", optional (codes "body") (One (Object name.Capabilities))) ∷
    (codes "threads", required (codes "body") (One (Object name.ThreadsResponse))) ∷
    (codes "setBreakpoints", required (codes "body") (One (Object name.SetBreakpointsResponse))) ∷
    (codes "setFunctionBreakpoints", required (codes "body") (One (Object name.SetFunctionBreakpointsResponse))) ∷
    (codes "setExceptionBreakpoints", optional (codes "body") (One (Object name.SetExceptionBreakpointsResponse))) ∷
    (codes "continue", required (codes "body") (One (Object name.ContinueResponse))) ∷
    (codes "stackTrace", required (codes "body") (One (Object name.StackTraceResponse))) ∷
    (codes "scopes", required (codes "body") (One (Object name.ScopesResponse))) ∷
    (codes "variables", required (codes "body") (One (Object name.VariablesResponse))) ∷
    (codes "evaluate", required (codes "body") (One (Object name.EvaluateResponse))) ∷
    (codes "source", required (codes "body") (One (Object name.SourceResponse))) ∷
    (codes "loadedSources", required (codes "body") (One (Object name.LoadedSourcesResponse))) ∷
    (codes "setVariable", required (codes "body") (One (Object name.SetVariableResponse))) ∷
    (codes "modules", required (codes "body") (One (Object name.ModulesResponse))) ∷
    (codes "exceptionInfo", required (codes "body") (One (Object name.ExceptionInfoResponse))) ∷
    (codes "breakpointLocations", required (codes "body") (One (Object name.BreakpointLocationsResponse))) ∷
    (codes "completions", required (codes "body") (One (Object name.CompletionsResponse))) ∷
    (codes "runInTerminal", required (codes "body") (One (Object name.RunInTerminalResponse))) ∷ []

-- ---- the body of an event, by its name

abbrev pub events : List (List ℕ × Row)
events =
    (codes "stopped", required (codes "body") (One (Object name.StoppedEvent))) ∷
    (codes "continued", required (codes "body") (One (Object name.ContinuedEvent))) ∷
    (codes "exited", required (codes "body") (One (Object name.ExitedEvent))) ∷
    (codes "terminated", optional (codes "body") (One (Object name.TerminatedEvent))) ∷
    (codes "thread", required (codes "body") (One (Object name.ThreadEvent))) ∷
    (codes "output", required (codes "body") (One (Object name.OutputEvent))) ∷
    (codes "breakpoint", required (codes "body") (One (Object name.BreakpointEvent))) ∷
    (codes "module", required (codes "body") (One (Object name.ModuleEvent))) ∷
    (codes "loadedSource", required (codes "body") (One (Object name.LoadedSourceEvent))) ∷
    (codes "process", required (codes "body") (One (Object name.ProcessEvent))) ∷
    (codes "capabilities", required (codes "body") (One (Object name.CapabilitiesEvent))) ∷
    (codes "progressStart", required (codes "body") (One (Object name.ProgressStartEvent))) ∷
    (codes "progressUpdate", required (codes "body") (One (Object name.ProgressUpdateEvent))) ∷
    (codes "progressEnd", required (codes "body") (One (Object name.ProgressEndEvent))) ∷
    (codes "invalidated", required (codes "body") (One (Object name.InvalidatedEvent))) ∷
    (codes "memory", required (codes "body") (One (Object name.MemoryEvent))) ∷ []
