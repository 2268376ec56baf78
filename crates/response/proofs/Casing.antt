-- The equations of a case are those of its question.
use Rattle.std.proofs.Common.{◌≡◌, ℕ, zero, suc, ◌+◌, ◌-◌, ◌*◌, ◌≤◌, Bool, true, false, cond, ltb, min, List, take, drop, sum_by, Some, None, Option, sym, refl, ap, ◌∙◌, subst, ap₂, le_trans, zero-add, arith}
use Rattle.std.proofs.lemmas.Bool.{and_parts, leb-true}
use Rattle.std.proofs.lemmas.List.{take-take}
use Rattle.std.proofs.lemmas.List.Sums.{sum_by-append, sum_by-take-drop}
use mathlib.Core.Path.{fun_ext}
use Rattle.names.specs.Timings.{timing_of}
use Rattle.sheet.specs.declared.row.Row.{Row}
use Rattle.sheet.specs.declared.table.Sheet.{Sheet}
use Rattle.sheet.specs.Views.{figures, table_of}
use Rattle.sheet.proofs.Soundness.{sound_table}
use Rattle.theory.specs.Arrivals.{before, through}
use Rattle.theory.specs.Columns.{Fits, entry, fits_row}
use Rattle.theory.specs.Delays.{Charge, Lawful}
use Rattle.theory.specs.Equations.{Question, Equations, question, equations, contribution, price, load, sum_below, above}
use Rattle.theory.specs.Figures.{Table, Timing, Figures, InRange, Within}
use Rattle.theory.specs.Outcomes.{Verdict, overcharged, no_period, late, passes, Affordable, Judged}
use Rattle.theory.proofs.Arrivals.{before_next}
use Rattle.theory.specs.Regular.{Regular}
use Rattle.theory.proofs.Demands.{Apart, Proper, regular, sum_next, sum_same, sum_split}
use Rattle.theory.proofs.Findings.{proper}
use Rattle.response.specs.declared.source.Above.{Above}
use Rattle.response.specs.declared.source.Source.{Source}
use Rattle.response.specs.Cases.{JobsJudged}
use Rattle.response.specs.Demands.{equations_in}
use Rattle.response.specs.Gathering.{charges_in, present, Lined, SourceOf, Gathered}
use Rattle.response.specs.Ticks.{source_ticks, ticks_of}
use Rattle.response.proofs.Gathering.{affordable}

-- the ticks of row j for the jobs that it releases before x
abbrev load_before : Table → (ℕ → ℕ) → ℕ → ℕ → ℕ
load_before rows charge x j = load (λ w. before w x) (rows j) (charge j)

-- ---- what the sources take is what their rows do
source_load : (x : ℕ) (o : Option Figures) (c : ℕ) (s : Option Source) → SourceOf o c s → ticks_of (present s) x ≡ load (λ w. before w x) o c
unfolding ticks_of source_ticks price
source_load x o c None none = ap (λ (y : Option Figures). load (λ w. before w x) y c) (sym none)
source_load x o c (Some s) is =
    zero-add _ ∙ ap (λ (p : ℕ). before (timing_of s.row.timing) x * p) is.1 ∙ ap (λ (y : Option Figures). load (λ w. before w x) y c) is.0

-- rows that are lined up take what the rows up to the last of them do
ticks_lined : (rows : Table) (charge : ℕ → ℕ) (x n : ℕ) (xs : List Source) → Lined rows charge n xs
    → ticks_of xs x + sum_below (load_before rows charge x) 1 ≡ sum_below (load_before rows charge x) (n + 1)
unfolding Lined ticks_of
ticks_lined rows charge x zero xs none = ap (λ (ys : List Source). sum_by (source_ticks x) ys + sum_below (load_before rows charge x) 1) none ∙ zero-add _
ticks_lined rows charge x (suc n) xs (ys, s, l, is, e) =
    let more = ap (λ (zs : List Source). ticks_of zs x) e ∙ sum_by-append (source_ticks x) ys (present s) in
    let here = source_load x (rows (n + 1)) (charge (n + 1)) s is in
    let up = ap (sum_below (load_before rows charge x)) (let e : suc n + 1 ≡ n + 1 + 1 = omega arith in e) in
    omega (arith, more, here, up, ticks_lined rows charge x n ys l, sum_next (load_before rows charge x) (n + 1))

load_cond : (b : Bool) (n m : Timing → ℕ) (o : Option Figures) (c : ℕ) → load (λ w. cond b (n w) (m w)) o c ≡ cond b (load n o c) (load m o c)
load_cond true n m o c = refl
load_cond false n m o c = refl

load_through : (s : ℕ) (o : Option Figures) (c : ℕ) → Apart o → load (λ w. through w s) o c ≡ load (λ w. before w (s + 1)) o c
unfolding price
load_through s None c a = refl
load_through s (Some f) c a = ap (λ (n : ℕ). n * (f.timing.c + c)) (sym (before_next f.timing a s))

equations_same : {p p' : ℕ → ℕ} {s s' : ℕ → ℕ → ℕ} {f f' : ℕ → ℕ → ℕ → ℕ} → p ≡ p' → s ≡ s' → f ≡ f'
    → ◌≡◌ {A = Equations} (record { period = p; start = s; finish = f }) (record { period = p'; start = s'; finish = f' })
equations_same a b c = cc

-- the rows above by the ticks of those before the threshold and of the others
module _ (q : Question) (ok : Proper q) (none : q.rows 0 ≡ None) (within : q.threshold ≤ q.place) (P O : ℕ → ℕ)
    (first : (x : ℕ) → P x + sum_below (load_before q.rows q.charge x) 1 ≡ sum_below (load_before q.rows q.charge x) q.threshold)
    (rest : (x : ℕ) → O x + sum_below (load_before q.rows q.charge x) q.threshold ≡ sum_below (load_before q.rows q.charge x) q.place) where
  abbrev f : ℕ → ℕ → ℕ
  f x j = load_before q.rows q.charge x j

  first_zero : (x : ℕ) → sum_below (f x) 1 ≡ 0
  unfolding sum_below
  first_zero x = ap (λ (o : Option Figures). 0 + load (λ w. before w x) o (q.charge 0)) none

  above_before : (x : ℕ) → above q (λ j w. before w x) ≡ P x + O x
  unfolding above
  above_before x = omega (arith, first x, rest x, first_zero x)

  above_through : (s : ℕ) → above q (λ j w. through w s) ≡ P (s + 1) + O (s + 1)
  unfolding above
  above_through s = sum_same _ (f (s + 1)) q.place (λ j l. load_through s (q.rows j) (q.charge j) (ok.others j)) ∙ above_before (s + 1)

  above_split : (s x : ℕ) → above q (λ j w. cond (ltb j q.threshold) (before w x) (through w s)) ≡ O (s + 1) + P x
  unfolding above
  above_split s x =
      let same = sum_same (λ j. load (λ w. cond (ltb j q.threshold) (before w x) (through w s)) (q.rows j) (q.charge j)) (λ j. cond (ltb j q.threshold) (f x j) (f (s + 1) j)) q.place
      (λ j l. load_cond (ltb j q.threshold) (λ w. before w x) (λ w. through w s) (q.rows j) (q.charge j)
      ∙ ap (λ (n : ℕ). cond (ltb j q.threshold) (f x j) n) (load_through s (q.rows j) (q.charge j) (ok.others j))) in
      omega (arith, same, sum_split (f x) (f (s + 1)) q.threshold q.place within, first x, rest (s + 1), first_zero x)

  equations_split : (K : ℕ) → K ≡ q.blocking → ◌≡◌ {A = Equations} (record {
    period = λ x. K + before q.own x * q.own.c + (P x + O x);
    start = λ k s. K + k * q.own.c + (P (s + 1) + O (s + 1));
    finish = λ k s x. K + (k + 1) * q.own.c + (O (s + 1) + P x);
  }) (equations q)
  equations_split K is =
      equations_same
      (fun_ext (λ x. ap₂ (λ (m n : ℕ). m + before q.own x * q.own.c + n) is (sym (above_before x))))
      (fun_ext (λ k. fun_ext (λ s. ap₂ (λ (m n : ℕ). m + k * q.own.c + n) is (sym (above_through s)))))
      (fun_ext (λ k. fun_ext (λ s. fun_ext (λ x. ap₂ (λ (m n : ℕ). m + (k + 1) * q.own.c + n) is (sym (above_split s x))))))

jobs_judged : (q : Question) → Affordable q → (v : Verdict) → JobsJudged (equations q) q.own v → Judged q v
jobs_judged q cheap (overcharged j) x = absurd x
jobs_judged q cheap no_period x = (cheap, x)
jobs_judged q cheap (late k r) x = (cheap, x)
jobs_judged q cheap (passes r) x = (cheap, x)

-- ---- a case whose sources were gathered for row i with blocker b in the column h
module _ (s : Sheet) (c : Charge) (laws : Lawful c) (h : List ℕ) (i b : ℕ) (own : Row) (row : figures (Some own) ≡ table_of s i) (fits : Fits (table_of s) h) where
  abbrev figured : Figures
  figured = record { timing = timing_of own.timing; limit = own.«cap».0 }

  -- the threshold is from 1 to i
  threshold_within : Within i (entry h i)
  threshold_within =
      let range : InRange i figured = sound_table s i figured (sym row) in
      let fit : fits_row (table_of s) i (entry h i) (Some figured) ≡ true = subst (λ (o : Option Figures). fits_row (table_of s) i (entry h i) o ≡ true) (sym row) (fits i range.priority) in
      let parts = and_parts _ _ (and_parts _ _ fit).1 in
      (le_trans range.capped.0 (leb-true _ _ parts.0), leb-true _ _ parts.1)

  abbrev q : Question
  q = question (table_of s) c h i b (timing_of own.timing)

  abbrev ok : Proper q
  ok = proper (table_of s) (sound_table s) c laws h i b figured (sym row)

  module _ (x : Above) (K t : ℕ) (all : Gathered (table_of s) (charges_in c h i b) t i x) (pre others : List Source) (same : K ≡ contribution (table_of s) b) (is : t ≡ entry h i)
      (front : pre ≡ take x.preempting (take x.len x.sources)) (back : others ≡ drop x.preempting (take x.len x.sources)) where
    -- its equations are those of the question
    case_equations : equations_in own K pre others ≡ equations q
    unfolding ticks_of
    case_equations =
        let w = threshold_within in
        let charge = charges_in c h i b in
        let ys = take x.len x.sources in
        let begins : pre ≡ take x.preempting x.sources = front ∙ take-take x.preempting x.len x.sources all.among in
        let to : min (t - 1) (i - 1) + 1 ≡ entry h i = omega (arith, w.0, w.1, is) in
        let last : i - 1 + 1 ≡ i = omega (arith, w.0, w.1) in
        let first : (x : ℕ) → ticks_of pre x + sum_below (load_before (table_of s) charge x) 1 ≡ sum_below (load_before (table_of s) charge x) (entry h i) =
        λ k. rw begins (ticks_lined (table_of s) charge k _ _ all.first ∙ ap (sum_below (load_before (table_of s) charge k)) to) in
        let rows : (x : ℕ) → ticks_of ys x + sum_below (load_before (table_of s) charge x) 1 ≡ sum_below (load_before (table_of s) charge x) i =
        λ k. ticks_lined (table_of s) charge k _ _ all.lined ∙ ap (sum_below (load_before (table_of s) charge k)) last in
        let all_ticks : (x : ℕ) → ticks_of pre x + ticks_of others x ≡ ticks_of ys x = λ k. rw (front, back) (sum_by-take-drop (source_ticks k) ys x.preempting) in
        equations_split q ok refl w.1 (ticks_of pre) (ticks_of others) first (λ k. omega (arith, first k, all_ticks k, rows k)) K same

    pub case_regular : Regular (equations_in own K pre others) (timing_of own.timing)
    case_regular = subst (λ (e : Equations). Regular e (timing_of own.timing)) (sym case_equations) (regular q ok)

    -- what is found in it is the outcome of the question
    pub case_judged : (v : Verdict) → JobsJudged (equations_in own K pre others) (timing_of own.timing) v → Judged q v
    case_judged v y = jobs_judged q (affordable q refl all.cheap) v (subst (λ (e : Equations). JobsJudged e (timing_of own.timing) v) case_equations y)
