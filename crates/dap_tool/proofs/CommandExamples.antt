-- Worked examples of what is said of a command whose request waits, each shown by computation.
use Rattle.std.proofs.Common.{◌≡◌, [], codes, refl}
use Rattle.dap_tool.specs.Commands.{words_of_command}

of_the_protocol : words_of_command (codes "gotoTargets") ≡ codes "known to the protocol, not in this profile\n"
of_the_protocol = refl

with_memory : words_of_command (codes "readMemory") ≡ codes "known to the protocol, not in this profile\n"
with_memory = refl

of_this_profile : words_of_command (codes "stackTrace") ≡ []
of_this_profile = refl

of_the_adapter : words_of_command (codes "runInTerminal") ≡ []
of_the_adapter = refl

of_none : words_of_command (codes "x") ≡ codes "unknown to the protocol\n"
of_none = refl

an_event : words_of_command (codes "stopped") ≡ codes "unknown to the protocol\n"
an_event = refl

letters_count : words_of_command (codes "GotoTargets") ≡ codes "unknown to the protocol\n"
letters_count = refl

empty : words_of_command [] ≡ codes "unknown to the protocol\n"
empty = refl
