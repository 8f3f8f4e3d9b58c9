-- The limits of a caller in C, as those of `dap_frame`.
use Rattle.std.specs.Prelude.{IsSome}
use Rattle.dap_frame.specs.Settings.{Settings, settings, first_outside}
use Rattle.dap_c_parts.specs.declared.limits.YtLimits.{YtLimits}

abbrev pub settings_of : YtLimits → Settings
settings_of l = settings l.header l.body l.requests l.references l.breakpoints l.seq l.reference

-- one of them is out of its range
abbrev pub AreOutOfRange : YtLimits → Type 0
AreOutOfRange l = IsSome (first_outside (settings_of l))
