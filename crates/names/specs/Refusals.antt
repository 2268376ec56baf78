-- Every refusal of the project, with its number and its place.
use Rattle.std.specs.Prelude.{Some, None, Ok, Err, Option, Result}
use Rattle.names.specs.declared.refusal.Refusal.{Refusal}
use Rattle.names.specs.declared.refusal.Refusal.TheVariants.{ListTooShort, PriorityRange, RunTimeRange, SeparationRange, DeadlineRange, NoRow, CapRange, ColumnMisfit, NotBlocking, UsefulNotEvicting, ReloadRange, SwitchCostRange, NoColumn, FileTooShort, UnknownVersion, UnknownLetter, WrongLayout, SpareByte, PriorityOrder}
use Rattle.theory.specs.Figures.{Fault, fault}

abbrev pub fault_of : Refusal → Fault
fault_of ListTooShort = fault 1 0  -- a column, responses or a listing has too few entries
fault_of (PriorityRange p) = fault 2 p  -- a priority is outside 1 to 32
fault_of (RunTimeRange p) = fault 3 p  -- C is outside 1 to 16777215
fault_of (SeparationRange p) = fault 4 p  -- T is outside 1 to 100000000
fault_of (DeadlineRange p) = fault 5 p  -- D is outside 1 to 100000000
fault_of (NoRow p) = fault 6 p  -- no row is at the priority
fault_of (CapRange p) = fault 7 p  -- a cap is 0 or above its row's priority
fault_of (ColumnMisfit p) = fault 8 p  -- the column does not fit the sheet
fault_of (NotBlocking b) = fault 9 b  -- a blocker is not 0 and does not block
fault_of (UsefulNotEvicting s) = fault 10 s  -- a useful block is not evicting
fault_of ReloadRange = fault 11 0  -- a reload time is above 1023
fault_of SwitchCostRange = fault 12 0  -- a switch cost is above 4095
fault_of (NoColumn p) = fault 13 p  -- no column passes
fault_of FileTooShort = fault 14 0  -- a file has under 16 bytes
fault_of UnknownVersion = fault 15 0  -- a file's version is not 1
fault_of UnknownLetter = fault 16 0  -- no delay model has the letter
fault_of WrongLayout = fault 17 0  -- a count, an offset or the length of a file is wrong
fault_of (SpareByte k) = fault 18 k  -- a spare byte of a record is not 0
fault_of (PriorityOrder k) = fault 19 k  -- a record's priority is not above the one before

-- the refusal in an answer, None where the call was accepted
abbrev pub refused : {X : Type 0} → Result X Refusal → Option Fault
refused (Ok x) = None
refused (Err e) = Some (fault_of e)
