-- The lines of a sheet.
use Rattle.std.specs.Prelude.{Option}
use Rattle.rules.specs.declared.Call.{Call}

-- the call that a line yields; a line that yields none is refused
abbrev pub Line : Type 0
Line = Option Call
