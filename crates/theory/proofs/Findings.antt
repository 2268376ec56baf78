-- What is known of every row test over a sound sheet and a lawful delay model.
use Rattle.std.proofs.Common.{◌≡◌, ℕ, ◌≤◌, true, List, Some, None, Option, sym, refl, subst, ap₂, arith}
use mathlib.Core.Path.{fun_ext}
use Rattle.std.proofs.lemmas.Bool.{false≢true}
use Rattle.std.proofs.lemmas.Bool.Decides.{nat_tests}
use Rattle.theory.specs.Columns.{entry, may_block}
use Rattle.theory.specs.Delays.{Charge, NoGreater, Lawful}
use Rattle.theory.specs.Equations.{Question, equations, question, contribution}
use Rattle.theory.specs.Figures.{Figures, Table, InRange, Sound, is_row, priorities}
use Rattle.theory.specs.Outcomes.{Verdict, passes, Judged}
use Rattle.theory.specs.Tests.{OutcomeOf, OneOutcome, JobsRun, EasierNeverLater, AlikeOutcomes}
use Rattle.theory.proofs.Charging.{alike_charged}
use Rattle.theory.proofs.Demands.{Apart, Proper, regular}
use Rattle.theory.proofs.Jobs.{finishes_later, released, starts, finishes}
use Rattle.theory.proofs.Judging.{judged_some, judged_one, judged_easier}

-- a priority at which there is a row
pub some_row : (o : Option Figures) → is_row o ≡ true → (f : Figures) × (o ≡ Some f)
some_row None e = absurd (false≢true e)
some_row (Some f) e = (f, refl)

module _ (rows : Table) (c : Charge) (h : List ℕ) (i b : ℕ) (v : Verdict) where
  pub told_at : (o : Option Figures) (f : Figures) → o ≡ Some f → OutcomeOf rows c h i b o v → Judged (question rows c h i b f.timing) v
  told_at o f is x = subst (λ (o : Option Figures). OutcomeOf rows c h i b o v) is x

  pub told_from : (o : Option Figures) (f : Figures) → o ≡ Some f → Judged (question rows c h i b f.timing) v → OutcomeOf rows c h i b o v
  told_from o f is x = subst (λ (o : Option Figures). OutcomeOf rows c h i b o v) (sym is) x

  -- an outcome is that of a row
  pub told_row : (o : Option Figures) → OutcomeOf rows c h i b o v → is_row o ≡ true
  told_row None x = absurd x
  told_row (Some f) x = refl

module _ (rows : Table) (sound : Sound rows) (c : Charge) (laws : Lawful c) where
  apart : (j : ℕ) (o : Option Figures) → rows j ≡ o → Apart o
  apart j None e = tt
  apart j (Some f) e = (sound j f e).timed.apart.0

  pub proper : (h : List ℕ) (i b : ℕ) (f : Figures) → rows i ≡ Some f → Proper (question rows c h i b f.timing)
  proper h i b f is =
      let r : InRange i f = sound i f is in
      record { runs = r.timed.runs.0; apart = r.timed.apart.0; others = λ j. apart j (rows j) refl; charged = λ j. laws.bounded i b j h }

  pub one_outcome_lem : OneOutcome rows c
  one_outcome_lem h i b there =
      let x = some_row (rows i) there in
      let q : Question = question rows c h i b x.0.timing in
      let v = judged_some q (proper h i b x.0 x.1) in
      (v.0, told_from rows c h i b v.0 (rows i) x.0 x.1 v.1, λ u y. judged_one q u v.0 (told_at rows c h i b u (rows i) x.0 x.1 y) v.1)

  pub jobs_run_lem : JobsRun rows c
  jobs_run_lem h i b f is l k p among =
      let q : Question = question rows c h i b f.timing in
      let ok = regular q (proper h i b f is) in
      let a = starts (equations q) f.timing ok k l p among in
      let z = finishes (equations q) f.timing ok k a.0 l p among a.2 in
      let later = finishes_later (equations q) f.timing ok k a.0 z.0 a.1 z.1 in
      record {
        start = a.0;
        finish = z.0;
        starts = a.1;
        finishes = z.1;
        later = later;
        within = z.2;
        after_release = omega (arith, released (equations q) f.timing ok k l a.0 p a.1 a.2);
      }

  blocks_still : (g h : List ℕ) (i b : ℕ) → NoGreater i b g h → may_block h b i ≡ true → may_block g b i ≡ true
  blocks_still g h i b n e =
      let le : entry g b ≤ entry h b = n.blocker in
      let z : 1 ≤ b → b ≤ priorities → entry g b ≡ 0 → entry h b ≡ 0 = λ l u. (n.zeros b (l, u)).0 in
      grind (arith, nat_tests)

  pub easier : EasierNeverLater rows c
  easier g h i b r n blocks x =
      let there = some_row (rows i) (told_row rows c h i b (passes r) (rows i) x) in
      let f = there.0 in
      let is = there.1 in
      let q : Question = question rows c h i b f.timing in
      let range = (sound i f is).priority in
      let ok' = proper g i b f is in
      let v = judged_some (question rows c g i b f.timing) ok' in
      let y = judged_easier q (proper h i b f is) (λ j. c i b j g) (entry g i) ok' (λ j _. laws.monotone i b j g h n) (n.above i (range.0, omega arith))
      r (told_at rows c h i b (passes r) (rows i) f is x) v.0 v.1 in
      record { response = y.0; blocker = blocks_still g h i b n blocks; outcome = told_from rows c g i b (passes y.0) (rows i) f is y.1; no_later = y.2 }

  pub alike_outcomes_lem : AlikeOutcomes rows c
  alike_outcomes_lem g h i b v same x =
      let there = some_row (rows i) (told_row rows c g i b v (rows i) x) in
      let f = there.0 in
      let is = there.1 in
      let range = (sound i f is).priority in
      let charges : ◌≡◌ {A = ℕ → ℕ} (λ j. c i b j g) (λ j. c i b j h) = fun_ext (λ j. alike_charged c laws i b j g h same) in
      told_from rows c h i b v (rows i) f is (
      subst (λ (q : Question). Judged q v)
      (ap₂ (λ (d : ℕ → ℕ) (t : ℕ). record { place = i; own = f.timing; rows = rows; charge = d; blocking = contribution rows b; threshold = t }) charges (same.above i (range.0, omega arith)))
      (told_at rows c g i b v (rows i) f is x)
      )
