-- A sheet with no rows.
use Rattle.std.proofs.Common.{◌≡◌, ℕ, zero, suc, ◌-◌, Bool, true, false, cond, get_or, replicate, None, Option, refl, ap, ◌∙◌}
use Rattle.sheet.specs.declared.row.Row.{Row}
use Rattle.theory.specs.Figures.{priorities, within}
use Rattle.sheet.specs.Views.{figures}

pub get_or_same : {A : Type 0} (d : A) (n k : ℕ) → get_or (replicate n d) k d ≡ d
get_or_same d zero k = refl
get_or_same d (suc n) zero = refl
get_or_same d (suc n) (suc k) = get_or_same d n k

cond_same : {A : Type 0} (b : Bool) (x : A) → cond b x x ≡ x
cond_same true x = refl
cond_same false x = refl

pub no_row : (p : ℕ) → cond (within priorities p) (figures (get_or (replicate 32 None) (p - 1) None)) None ≡ None
no_row p = ap (λ (o : Option Row). cond (within priorities p) (figures o) None) (get_or_same None 32 (p - 1)) ∙ cond_same (within priorities p) None
