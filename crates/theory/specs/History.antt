-- Which rows a history of calls leaves, told from the calls that were accepted and not by replaying them.
-- A history is the list of its calls from the fresh sheet on, None for a call that edits no row,
-- beside the list of their answers, None for accepted.
use Rattle.std.specs.Prelude.{◌≡◌, ℕ, ◌<◌, ◌⊎◌, List, length, Some, None, Option}
use Rattle.std.specs.List.{slice_get}
use Rattle.theory.specs.Figures.{Timing, Figures, Table, Fault}
use Rattle.theory.specs.Edits.{Edit, enter, strike, limit, refusal}

-- the edit e stands at place i of the history, and was accepted
pub record Accepted (calls : List (Option Edit)) (answers : List (Option Fault)) (i : ℕ) (e : Edit) : Type 0 where
  pub call : slice_get calls i ≡ Some (Some e)
  pub granted : slice_get answers i ≡ Some None

-- Below, A i e says that the edit e stands at place i and was accepted.

-- no cap was accepted at p after place i and before place n
abbrev pub Uncapped : (ℕ → Edit → Type 0) → ℕ → ℕ → ℕ → Type 0
Uncapped A i n p = (j k : ℕ) → i < j → j < n → A j (limit p k) → ⊥

-- the last cap accepted at p after place i and before place n was k
pub record LastCap (A : ℕ → Edit → Type 0) (i n p k : ℕ) : Type 0 where
  pub place : ℕ
  pub after : i < place
  pub before : place < n
  pub accepted : A place (limit p k)
  pub latest : Uncapped A place n p

-- Before place n the row f stands at p: the last accepted enter or strike at p was an enter with this
-- timing, and the cap is that of the last accepted cap at p since then, or 1 where there was none.
pub record Stands (A : ℕ → Edit → Type 0) (n p : ℕ) (f : Figures) : Type 0 where
  pub place : ℕ
  pub before : place < n
  pub accepted : A place (enter p f.timing)
  pub no_enter : (j : ℕ) (w : Timing) → place < j → j < n → A j (enter p w) → ⊥
  pub no_strike : (j : ℕ) → place < j → j < n → A j (strike p) → ⊥
  pub capped : LastCap A place n p f.limit ⊎ ((f.limit ≡ 1) × Uncapped A place n p)

-- rows is the sheet before place n: it has a row exactly where one stands
abbrev pub Told : (ℕ → Edit → Type 0) → ℕ → Table → Type 0
Told A n rows = (p : ℕ) (f : Figures) → (rows p ≡ Some f → Stands A n p f) × (Stands A n p f → rows p ≡ Some f)

-- the sheet before the call at place n; an edit there is answered by its own figures and that sheet
pub record Answered (calls : List (Option Edit)) (answers : List (Option Fault)) (n : ℕ) : Type 0 where
  pub rows : Table
  pub before : Told (Accepted calls answers) n rows
  pub right : (e : Edit) → slice_get calls n ≡ Some (Some e) → slice_get answers n ≡ Some (refusal e rows)

-- The law of a history: each call is answered by the sheet that the calls before it have left, and final
-- is the sheet that all of them have left.
pub record History (calls : List (Option Edit)) (answers : List (Option Fault)) (final : Table) : Type 0 where
  pub sizes : length answers ≡ length calls
  pub each : (n : ℕ) → n < length calls → Answered calls answers n
  pub last : Told (Accepted calls answers) (length calls) final

-- Nothing but the calls decides the answer to an edit, and the rows at the end.
abbrev pub Decided : List (Option Edit) → List (Option Fault) → Table → Type 0
Decided calls answers final =
    (answers' : List (Option Fault)) (final' : Table) → History calls answers' final' →
    ((n : ℕ) (e : Edit) → slice_get calls n ≡ Some (Some e) → slice_get answers' n ≡ slice_get answers n) × ((p : ℕ) → final' p ≡ final p)

-- What a replay of calls promises: it keeps the law, and no other answers and rows do.
pub record Replayed (calls : List (Option Edit)) (answers : List (Option Fault)) (final : Table) : Type 0 where
  pub lawful : History calls answers final
  pub only : Decided calls answers final

-- so it is for every history
abbrev pub CallsDecide : Type 0
CallsDecide = (calls : List (Option Edit)) (answers : List (Option Fault)) (final : Table) → History calls answers final → Decided calls answers final
