-- Searches below a number.
use Rattle.std.specs.Prelude.{ℕ, zero, suc, Bool, true, false, cond, ◌&&◌, ◌||◌, Some, None, Option}
use Rattle.std.specs.Option.{option_or}

-- some number below n passes
unfoldable pub some_below : (ℕ → Bool) → ℕ → Bool
some_below test zero = false
some_below test (suc n) = test n || some_below test n

-- every number below n passes
unfoldable pub all_below : (ℕ → Bool) → ℕ → Bool
all_below test zero = true
all_below test (suc n) = test n && all_below test n

-- the lowest number below n that does not pass
unfoldable pub lowest_failing : (ℕ → Bool) → ℕ → Option ℕ
lowest_failing test zero = None
lowest_failing test (suc n) = option_or (lowest_failing test n) (cond (test n) None (Some n))
