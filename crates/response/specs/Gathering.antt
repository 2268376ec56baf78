-- How the rows above are gathered, with their prices.
use Rattle.std.specs.Prelude.{◌≡◌, ℕ, zero, suc, ◌+◌, ◌-◌, ◌<◌, ◌≤◌, min, true, List, [], ◌∷◌, ◌++◌, length, take, Some, None, Ok, Err, Option, Result}
use Rattle.names.specs.declared.Priority.{Priority}
use Rattle.sheet.specs.Views.{figures}
use Rattle.theory.specs.Delays.{Charge, too_much}
use Rattle.theory.specs.Figures.{Figures, Table, is_row, priorities}
use Rattle.response.specs.declared.source.Above.{Above}
use Rattle.response.specs.declared.source.Source.{Source}

-- the charge for each row j, while row i is judged with blocker b in the column h
abbrev pub charges_in : Charge → List ℕ → ℕ → ℕ → ℕ → ℕ
charges_in c h i b j = c i b j h

-- row j is there, and is charged too much
pub record TooDear (rows : Table) (charge : ℕ → ℕ) (j : ℕ) : Type 0 where
  pub row : is_row (rows j) ≡ true
  pub top : charge j ≡ too_much

-- no row from 1 to below hi is charged too much
abbrev pub NoneDear : Table → (ℕ → ℕ) → ℕ → Type 0
NoneDear rows charge hi = (j : ℕ) → 1 ≤ j → j < hi → TooDear rows charge j → ⊥

-- the source of a row with a charge: the price of a job is its run time and the charge; none where no row is
abbrev pub SourceOf : Option Figures → ℕ → Option Source → Type 0
SourceOf row charge None = row ≡ None
SourceOf row charge (Some s) = (figures (Some s.row) ≡ row) × (s.price ≡ s.row.timing.run_time + charge)

-- what is found at priority j: its source, or that its row is charged too much
abbrev pub Sourced : Table → (ℕ → ℕ) → ℕ → Result (Option Source) Priority → Type 0
Sourced rows charge j (Ok s) = SourceOf (rows j) (charge j) s × (TooDear rows charge j → ⊥)
Sourced rows charge j (Err p) = (p.0 ≡ j) × TooDear rows charge j

-- the source that is there, if one is
abbrev pub present : Option Source → List Source
present None = []
present (Some s) = s ∷ []

-- the list has the sources of the rows from 1 to n, in this order and without gaps
unfoldable pub Lined : Table → (ℕ → ℕ) → ℕ → List Source → Type 0
Lined rows charge zero xs = xs ≡ []
Lined rows charge (suc n) xs =
    (ys : List Source) × (s : Option Source) × Lined rows charge n ys × SourceOf (rows (n + 1)) (charge (n + 1)) s × (xs ≡ ys ++ present s)

-- the rows from 1 to below hi, those below t before the others, and none is charged too much
pub record Gathered (rows : Table) (charge : ℕ → ℕ) (t hi : ℕ) (x : Above) : Type 0 where
  pub long : length x.sources ≡ priorities
  pub few : x.len ≤ hi - 1
  pub among : x.preempting ≤ x.len
  pub lined : Lined rows charge (hi - 1) (take x.len x.sources)
  pub first : Lined rows charge (min (t - 1) (hi - 1)) (take x.preempting x.sources)
  pub cheap : NoneDear rows charge hi

-- p is the most urgent row from 1 to below hi that is charged too much
pub record FirstDear (rows : Table) (charge : ℕ → ℕ) (hi p : ℕ) : Type 0 where
  pub from : 1 ≤ p
  pub to : p < hi
  pub dear : TooDear rows charge p
  pub first : NoneDear rows charge p

abbrev pub Gathers : Table → (ℕ → ℕ) → ℕ → ℕ → Result Above Priority → Type 0
Gathers rows charge t hi (Ok x) = Gathered rows charge t hi x
Gathers rows charge t hi (Err p) = FirstDear rows charge hi p.0
