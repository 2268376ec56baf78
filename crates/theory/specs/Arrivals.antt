-- How often a row is released, when its releases come as soon as they may: one at 0, and one each separation after.
use Rattle.std.specs.Prelude.{ℕ, ◌+◌, ◌-◌, ◌/◌}
use Rattle.theory.specs.Figures.{Timing}

-- releases before x, that is at 0 to x - 1: x over the separation, rounded up
unfoldable pub before : Timing → ℕ → ℕ
before w x = (x + (w.t - 1)) / w.t

-- releases up to s and at s itself
unfoldable pub through : Timing → ℕ → ℕ
through w s = 1 + s / w.t
