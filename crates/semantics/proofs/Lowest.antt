-- The lowest number that fails a test.
use Rattle.std.proofs.Common.{◌≡◌, ℕ, zero, suc, ◌<◌, ◌≤◌, Bool, true, false, cond, Some, None, Option, refl, ap, subst, ⊎_elim, arith, MatchOption}
use Rattle.std.specs.Option.{option_or}
use Rattle.std.proofs.lemmas.Bool.{both_ways, cases_lt, cases_order}
use Rattle.semantics.specs.Searches.{lowest_failing}

-- none below n fails, or p is the lowest that does
abbrev pub Lowest : (ℕ → Bool) → ℕ → Option ℕ → Type 0
Lowest test n o =
    MatchOption o ((q : ℕ) → q < n → test q ≡ true) (λ p. (p < n) × (test p ≡ false) × ((q : ℕ) → q < p → test q ≡ true))

module _ (test : ℕ → Bool) where
  one_more : (n : ℕ) (o : Option ℕ) (b : Bool) → test n ≡ b → Lowest test n o → Lowest test (suc n) (option_or o (cond b None (Some n)))
  one_more n None true e all = λ q h. ⊎_elim
      (λ (l : q < n). all q l)
      (λ (l : n ≤ q). let z : n ≡ q = omega arith in subst (λ (k : ℕ). test k ≡ true) z e)
      (cases_lt q n)
  one_more n None false e all = (omega arith, e, all)
  one_more n (Some p) b e found = (omega (arith, found.0), found.1, found.2)

  pub lowest : (n : ℕ) → Lowest test n (lowest_failing test n)
  unfolding lowest_failing
  lowest zero = λ q h. absurd (omega arith)
  lowest (suc n) = one_more n (lowest_failing test n) (test n) refl (lowest n)

  -- only one answer can be given
  same : (n : ℕ) (o r : Option ℕ) → Lowest test n o → Lowest test n r → o ≡ r
  same n None None a b = refl
  same n None (Some p) a b = absurd (both_ways (test p) b.1 (a p b.0))
  same n (Some p) None a b = absurd (both_ways (test p) a.1 (b p a.0))
  same n (Some p) (Some q) a b = ⊎_elim
      (λ e. ap Some e)
      (⊎_elim
      (λ l. absurd (both_ways (test p) a.1 (b.2 p l)))
      (λ l. absurd (both_ways (test q) b.1 (a.2 q l))))
      (cases_order p q)

  pub lowest_is : (n : ℕ) (o : Option ℕ) → Lowest test n o → o ≡ lowest_failing test n
  lowest_is n o a = same n o (lowest_failing test n) a (lowest n)
