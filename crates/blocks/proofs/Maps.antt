-- What holds of each footprint of a fresh map, and of one in which a footprint was replaced.
use Rattle.std.proofs.Common.{◌≡◌, ℕ, zero, suc, ◌%◌, List, [], ◌∷◌, get_or, set, replicate}
use Rattle.std.proofs.lemmas.Bool.{both_ways}
use Rattle.std.specs.Array.{AllOfLen}
use Rattle.theory.specs.Sets.{SameSets}
use Rattle.blocks.specs.declared.footprint.Footprint.{Footprint}
use Rattle.blocks.specs.Footprints.{Nested, no_footprint}
use Rattle.blocks.specs.Members.{has, in_words, no_sets}
use Rattle.blocks.proofs.Bitwise.{bit_zero}
use Rattle.blocks.proofs.Words.{zero_words}

module _ {A : Type 0} (P : A → Type 0) where
  pub each_same : (x d : A) → P x → P d → (n k : ℕ) → P (get_or (replicate n x) k d)
  each_same x d px pd zero k = pd
  each_same x d px pd (suc n) zero = px
  each_same x d px pd (suc n) (suc k) = each_same x d px pd n k

  pub each_put : (xs : List A) (x d : A) (i k : ℕ) → P x → P (get_or xs k d) → P (get_or (set xs i x) k d)
  each_put [] x d i k px old = old
  each_put (y ∷ ys) x d zero zero px old = px
  each_put (y ∷ ys) x d zero (suc k) px old = old
  each_put (y ∷ ys) x d (suc i) zero px old = old
  each_put (y ∷ ys) x d (suc i) (suc k) px old = each_put ys x d i k px old

-- a footprint without blocks
pub record Bare (f : Footprint) : Type 0 where
  pub evicting : SameSets (has f.evicting) no_sets
  pub useful : SameSets (has f.useful) no_sets

pub default_bare : (f : Footprint) → AllOfLen (λ n. n ≡ 0) f.evicting.words 4 × AllOfLen (λ n. n ≡ 0) f.useful.words 4 → Bare f
default_bare f zeros =
    record { evicting = zero_words f.evicting.words zeros.0; useful = zero_words f.useful.words zeros.1 }

bare_default : Bare no_footprint
unfolding in_words
bare_default = record { evicting = λ s l. bit_zero (s % 64); useful = λ s l. bit_zero (s % 64) }

bare_nested : (f : Footprint) → Bare f → Nested f
bare_nested f bare s l e = absurd (both_ways _ (bare.useful s l) e)

module _ (f : Footprint) (bare : Bare f) where
  pub fresh_nested : (k : ℕ) → Nested (get_or (replicate 32 f) k no_footprint)
  fresh_nested k = each_same Nested f no_footprint (bare_nested f bare) (bare_nested no_footprint bare_default) 32 k

  pub fresh_bare : (k : ℕ) → Bare (get_or (replicate 32 f) k no_footprint)
  fresh_bare k = each_same Bare f no_footprint bare bare_default 32 k
