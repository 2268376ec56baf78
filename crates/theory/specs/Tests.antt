-- Tests of a row and of a column: why one is refused, what it finds, and what is known of every finding.
use Rattle.std.specs.Prelude.{◌≡◌, ℕ, ◌*◌, ◌<◌, ◌≤◌, true, false, ◌⊎◌, List, length, Some, None, Option, nat_le}
use Rattle.theory.specs.Arrivals.{before}
use Rattle.theory.specs.Columns.{put, may_block, Fits, FirstMisfit}
use Rattle.theory.specs.Delays.{Charge, NoGreater, Alike}
use Rattle.theory.specs.Edits.{unless}
use Rattle.theory.specs.Equations.{Equations, equations, question, Period, Start, Finish}
use Rattle.theory.specs.Figures.{Timing, Figures, Table, Fault, fault, is_row, priorities, within}
use Rattle.theory.specs.Outcomes.{Verdict, passes, passed, Judged}

-- the refusal 8 at the first misfit of a column, if there is one, and otherwise what is left to ask
abbrev pub unless_misfit : Option ℕ → Option Fault → Option Fault
unless_misfit None rest = rest
unless_misfit (Some p) rest = Some (fault 8 p)

-- Why a test at row p in the column h is refused, if it is: by the first of these rules that is broken, where rest
-- is what is asked after them.
pub record Refusal (rows : Table) (h : List ℕ) (p : ℕ) (rest answer : Option Fault) : Type 0 where
  pub misfit : Option ℕ
  pub first : FirstMisfit rows h misfit
  pub answered : answer ≡
      unless (nat_le priorities (length h)) 1 0
      (unless (within priorities p) 2 p
      (unless (is_row (rows p)) 6 p
      (unless_misfit misfit rest)))

-- a row test asks last that b is 0 or blocks row i
abbrev pub RowRefusal : Table → List ℕ → ℕ → ℕ → Option Fault → Type 0
RowRefusal rows h i b = Refusal rows h i (unless (may_block h b i) 9 b None)

-- a trial is about the column with the trial entry
abbrev pub TrialRefusal : Table → List ℕ → ℕ → ℕ → Option Fault → Type 0
TrialRefusal rows h p q = Refusal rows (put h p q) p None

-- row i with blocker b has the outcome v in the column h; no outcome is that of a row that is not there
abbrev pub OutcomeOf : Table → Charge → List ℕ → ℕ → ℕ → Option Figures → Verdict → Type 0
OutcomeOf rows c h i b None v = ⊥
OutcomeOf rows c h i b (Some f) v = Judged (question rows c h i b f.timing) v

abbrev pub RowOutcome : Table → Charge → List ℕ → ℕ → ℕ → Verdict → Type 0
RowOutcome rows c h i b v = OutcomeOf rows c h i b (rows i) v

-- where i is a row and b may block it, it passes with b
abbrev pub PairPasses : Table → Charge → List ℕ → ℕ → ℕ → Type 0
PairPasses rows c h i b = is_row (rows i) ≡ true → may_block h b i ≡ true → (r : ℕ) × RowOutcome rows c h i b (passes r)

-- the column fits, and rows 1 to n pass without a blocker and with each row that blocks them
pub record Passing (rows : Table) (c : Charge) (h : List ℕ) (n : ℕ) : Type 0 where
  pub fits : Fits rows h
  pub pairs : (i b : ℕ) → i ≤ n → PairPasses rows c h i b

-- (k, a) comes before (i, b): rows rise, and for each row its blockers
abbrev pub Earlier : ℕ → ℕ → ℕ → ℕ → Type 0
Earlier k a i b = (k < i) ⊎ ((k ≡ i) × (a < b))

-- (i, b) is the first pair of row and blocker that fails, with the outcome v
pub record FailsAt (rows : Table) (c : Charge) (h : List ℕ) (i b : ℕ) (v : Verdict) : Type 0 where
  pub fits : Fits rows h
  pub blocker : may_block h b i ≡ true
  pub outcome : RowOutcome rows c h i b v
  pub fails : passed v ≡ false
  pub earlier : (k a : ℕ) → Earlier k a i b → PairPasses rows c h k a

-- what a column test finds: nothing where the column passes, and otherwise the first failure
abbrev pub Found : Table → Charge → List ℕ → Option (ℕ × ℕ × Verdict) → Type 0
Found rows c h None = Passing rows c h priorities
Found rows c h (Some (i, b, v)) = FailsAt rows c h i b v

-- ---- what is known of every sheet and every delay model

-- every row has exactly one outcome with a blocker
abbrev pub OneOutcome : Table → Charge → Type 0
OneOutcome rows c =
    (h : List ℕ) (i b : ℕ) → is_row (rows i) ≡ true →
    (v : Verdict) × RowOutcome rows c h i b v × ((u : Verdict) → RowOutcome rows c h i b u → u ≡ v)

-- job k of an active period l runs: it starts, finishes after its start and within the active period, and after
-- its release, so that its response is not cut off at 0
pub record Runs (e : Equations) (w : Timing) (l k : ℕ) : Type 0 where
  pub start : ℕ
  pub finish : ℕ
  pub starts : Start e k start
  pub finishes : Finish e k start finish
  pub later : start < finish
  pub within : finish ≤ l
  pub after_release : k * w.t < finish

abbrev pub JobsRun : Table → Charge → Type 0
JobsRun rows c =
    (h : List ℕ) (i b : ℕ) (f : Figures) → rows i ≡ Some f → (l k : ℕ) →
    Period (equations (question rows c h i b f.timing)) l → k < before f.timing l →
    Runs (equations (question rows c h i b f.timing)) f.timing l k

-- b still may block row i, which passes with it with a response of at most r
pub record NoLater (rows : Table) (c : Charge) (h : List ℕ) (i b r : ℕ) : Type 0 where
  pub response : ℕ
  pub blocker : may_block h b i ≡ true
  pub outcome : RowOutcome rows c h i b (passes response)
  pub no_later : response ≤ r

-- Easier is never later: what passes in a column passes, with no greater response, in one with the same zeros and no
-- greater number at 1 to i and at b.
abbrev pub EasierNeverLater : Table → Charge → Type 0
EasierNeverLater rows c =
    (g h : List ℕ) (i b r : ℕ) → NoGreater i b g h → may_block h b i ≡ true → RowOutcome rows c h i b (passes r) → NoLater rows c g i b r

-- of a column no more counts than the numbers at 1 to i and at b, and where it is 0
abbrev pub AlikeOutcomes : Table → Charge → Type 0
AlikeOutcomes rows c =
    (g h : List ℕ) (i b : ℕ) (v : Verdict) → Alike i b g h → RowOutcome rows c g i b v → RowOutcome rows c h i b v
