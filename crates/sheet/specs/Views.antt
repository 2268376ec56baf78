-- The program's rows and sheets as plain figures.
use Rattle.std.specs.Prelude.{◌-◌, cond, Some, None, Option, slice_index_or}
use Rattle.sheet.specs.declared.row.Row.{Row}
use Rattle.sheet.specs.declared.table.Sheet.{Sheet}
use Rattle.theory.specs.Figures.{Figures, Table, priorities, within}
use Rattle.names.specs.Timings.{timing_of}

abbrev pub figures : Option Row → Option Figures
figures None = None
figures (Some r) = Some (record { timing = timing_of r.timing; limit = r.«cap».0 })

-- the row at each priority; there is none outside 1 to 32
abbrev pub table_of : Sheet → Table
table_of s p = cond (within priorities p) (figures (slice_index_or s.rows (p - 1) None)) None
