-- The four outcomes of a row test, and what each means.
use Rattle.std.specs.Prelude.{◌≡◌, ℕ, ◌<◌, ◌≤◌, Bool, true, false, List, [], ◌∷◌}
use Rattle.theory.specs.Delays.{too_much}
use Rattle.theory.specs.Equations.{Question, Equations, equations, period_top, Job, Response}
use Rattle.theory.specs.Figures.{Timing, is_row}
use Rattle.theory.specs.Least.{Solves}

pub data Verdict : Type 0 where
  overcharged : ℕ → Verdict  -- too much: the charge of this row
  no_period : Verdict
  late : ℕ → ℕ → Verdict  -- this job, and its response
  passes : ℕ → Verdict  -- the greatest response

-- the number of each outcome, and the values that it carries
abbrev pub verdict_number : Verdict → ℕ
verdict_number (overcharged j) = 1
verdict_number no_period = 2
verdict_number (late k r) = 3
verdict_number (passes r) = 4

abbrev pub verdict_values : Verdict → List ℕ
verdict_values (overcharged j) = j ∷ []
verdict_values no_period = []
verdict_values (late k r) = k ∷ r ∷ []
verdict_values (passes r) = r ∷ []

abbrev pub passed : Verdict → Bool
passed (overcharged j) = false
passed no_period = false
passed (late k r) = false
passed (passes r) = true

-- row j is above the one that is judged, and is charged too much
pub record Overcharged (q : Question) (j : ℕ) : Type 0 where
  pub above : j < q.place
  pub row : is_row (q.rows j) ≡ true
  pub top : q.charge j ≡ too_much

-- no row above is
abbrev pub Affordable : Question → Type 0
Affordable q = (j : ℕ) → Overcharged q j → ⊥

-- no number up to the limit solves the equation of the active period
abbrev pub NoPeriod : Equations → Type 0
NoPeriod e = (l : ℕ) → Solves 1 e.period l → l ≤ period_top → ⊥

-- job k is the first that misses the deadline, with the response r
pub record FirstLate (e : Equations) (w : Timing) (k r : ℕ) : Type 0 where
  pub job : Job e w k
  pub responds : Response e w k r
  pub late : w.d < r
  pub earlier : (m t : ℕ) → m < k → Response e w m t → t ≤ w.d

-- every job meets the deadline, and r is the greatest response
pub record InTime (e : Equations) (w : Timing) (r : ℕ) : Type 0 where
  pub every : (m t : ℕ) → Job e w m → Response e w m t → (t ≤ w.d) × (t ≤ r)
  pub worst : ℕ
  pub job : Job e w worst
  pub responds : Response e w worst r

-- The outcome of a question: the first of the four that applies. Too much carries the most urgent row with
-- that charge.
abbrev pub Judged : Question → Verdict → Type 0
Judged q (overcharged j) = Overcharged q j × ((m : ℕ) → m < j → Overcharged q m → ⊥)
Judged q no_period = Affordable q × NoPeriod (equations q)
Judged q (late k r) = Affordable q × FirstLate (equations q) q.own k r
Judged q (passes r) = Affordable q × InTime (equations q) q.own r
