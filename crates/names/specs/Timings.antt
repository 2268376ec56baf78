-- The program's timings as plain figures.
use Rattle.names.specs.declared.Timing as program
use Rattle.theory.specs.Figures.{Timing}

abbrev pub timing_of : program.Timing → Timing
timing_of w = record { c = w.run_time; t = w.separation; d = w.deadline }
