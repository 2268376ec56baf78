-- The blocker in a question, as a number.
use Rattle.std.specs.Prelude.{ℕ, Some, None, Option}
use Rattle.names.specs.declared.Priority.{Priority}

-- No blocker is the number 0. A blocker of priority 0, which no row has, is none as well.
abbrev pub blocker_of : Option Priority → ℕ
blocker_of None = 0
blocker_of (Some p) = p.0
