-- What each refusal says to people: the rule that was broken.
use Rattle.std.specs.Prelude.{ℕ, List, codes}
use Rattle.names.specs.declared.refusal.Refusal.{Refusal}
use Rattle.names.specs.declared.refusal.Refusal.TheVariants.{ListTooShort, PriorityRange, RunTimeRange, SeparationRange, DeadlineRange, NoRow, CapRange, ColumnMisfit, NotBlocking, UsefulNotEvicting, ReloadRange, SwitchCostRange, NoColumn, FileTooShort, UnknownVersion, UnknownLetter, WrongLayout, SpareByte, PriorityOrder}

abbrev pub reason : Refusal → List ℕ
reason ListTooShort = codes "a list has too few entries"
reason (PriorityRange p) = codes "a priority is from 1 to 32"
reason (RunTimeRange p) = codes "a run time is from 1 to 16777215 ticks"
reason (SeparationRange p) = codes "a separation is from 1 to 100000000 ticks"
reason (DeadlineRange p) = codes "a deadline is from 1 to 100000000 ticks"
reason (NoRow p) = codes "there is no row"
reason (CapRange p) = codes "a cap is from 1 to its row's priority"
reason (ColumnMisfit p) = codes "the column does not fit the sheet"
reason (NotBlocking p) = codes "the blocker does not block the row"
reason (UsefulNotEvicting p) = codes "a useful set has to be evicting"
reason ReloadRange = codes "a reload time is at most 1023 ticks"
reason SwitchCostRange = codes "a switch cost is at most 4095 ticks"
reason (NoColumn p) = codes "no column passes"
reason FileTooShort = codes "a sheet file has at least 16 bytes"
reason UnknownVersion = codes "the version of the sheet file is unknown"
reason UnknownLetter = codes "no delay model has the letter"
reason WrongLayout = codes "the sheet file does not keep the layout"
reason (SpareByte p) = codes "a spare byte is 0"
reason (PriorityOrder p) = codes "priorities rise from record to record"
