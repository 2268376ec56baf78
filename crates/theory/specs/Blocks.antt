-- Block maps: which sets of the cache each row loads blocks into, and which blocks it uses again.
use Rattle.std.specs.Prelude.{◌≡◌, ℕ, true, false, cond, ◌⊎◌, Some, None, Option, ◌==◌}
use Rattle.theory.specs.Figures.{Fault, fault, priorities, within}
use Rattle.theory.specs.Sets.{FirstOutside, SameSets, Sets}

-- the most ticks that a block takes to load again
abbrev pub reload_top : ℕ
reload_top = 1023

-- a block map: the ticks that a block takes to load again, and for each priority the cache sets that its row
-- loads blocks into, and those whose blocks it uses again
pub record Blocks : Type 0 where
  pub reload : ℕ
  pub evicting : ℕ → Sets
  pub useful : ℕ → Sets

-- the map says the same of each priority
pub record SameBlocks (m n : Blocks) : Type 0 where
  pub reload : m.reload ≡ n.reload
  pub evicting : (p : ℕ) → SameSets (m.evicting p) (n.evicting p)
  pub useful : (p : ℕ) → SameSets (m.useful p) (n.useful p)

-- a fresh map
abbrev pub fresh_blocks : ℕ → Blocks
fresh_blocks t = record { reload = t; evicting = λ p s. false; useful = λ p s. false }

-- the map with evicting sets e and useful sets u at priority p, and otherwise as it was
abbrev pub with_footprint : ℕ → Sets → Sets → Blocks → Blocks
with_footprint p e u m =
    record {
      reload = m.reload;
      evicting = λ q s. cond (q == p) (e s) (m.evicting q s);
      useful = λ q s. cond (q == p) (u s) (m.useful q s);
    }

-- Why a footprint with evicting sets e and useful sets u is refused at priority p: with 2 where p is no
-- priority, and otherwise with 10 at the first useful set that is not evicting.
abbrev pub FootprintAnswer : ℕ → Sets → Sets → Option Fault → Type 0
FootprintAnswer p e u None = (within priorities p ≡ true) × FirstOutside u e None
FootprintAnswer p e u (Some f) =
    ((within priorities p ≡ false) × (f ≡ fault 2 p)) ⊎ ((within priorities p ≡ true) × (f.number ≡ 10) × FirstOutside u e (Some f.place))
