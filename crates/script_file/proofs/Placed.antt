-- Whether the tables have room for a script.
use Rattle.std.proofs.Common.{◌≡◌, ℕ, ◌<◌, ◌≤◌, true, ◌||◌, ltb, ◌⊎◌, length, Ok, Err, inl, inr, ⊎_elim}
use Rattle.std.proofs.lemmas.Bool.{cond-false, cond-true, le-ltb, lt-ltb, ltb-false, ltb-true, or_cases, or_from, or_left, or_parts, or_right}
use Rattle.script.specs.Scripts.{Script}
use Rattle.script_file.specs.declared.fault.FileFault.{FileFault}
use Rattle.script_file.specs.declared.fault.FileFault.TheVariants.{Room}
use Rattle.script_file.specs.Reading.{placed}
use Rattle.script_file.proofs.Then.{passed, stopped}

module _ (types nodes : ℕ) (s : Script) where
  abbrev l : ℕ
  l = length s.locals

  abbrev n : ℕ
  n = length s.nodes

  pub placed_fits : length s.locals ≤ types → length s.nodes ≤ nodes → placed types nodes s ≡ Ok s
  placed_fits a b = cond-false (ltb types l || ltb nodes n) (Err Room) (Ok s) (or_from (ltb types l) (ltb nodes n) (le-ltb types l a) (le-ltb nodes n b))

  pub placed_full : (types < length s.locals) ⊎ (nodes < length s.nodes) → placed types nodes s ≡ Err Room
  placed_full h =
      let full : (ltb types l || ltb nodes n) ≡ true =
      ⊎_elim (λ (a : types < l). or_left (ltb types l) (ltb nodes n) (lt-ltb types l a)) (λ (b : nodes < n). or_right (ltb types l) (ltb nodes n) (lt-ltb nodes n b)) h in
      cond-true (ltb types l || ltb nodes n) (Err Room) (Ok s) full

  pub placed_there : {t : Script} → placed types nodes s ≡ Ok t → (length s.locals ≤ types) × (length s.nodes ≤ nodes) × (s ≡ t)
  placed_there h =
      let p = passed (ltb types l || ltb nodes n) Room s h in
      let q = or_parts (ltb types l) (ltb nodes n) p.0 in
      (ltb-false types l q.0, ltb-false nodes n q.1, p.1)

  pub placed_refused : {f : FileFault} → placed types nodes s ≡ Err f → ((types < length s.locals) ⊎ (nodes < length s.nodes)) × (Room ≡ f)
  placed_refused h =
      let p = stopped (ltb types l || ltb nodes n) Room s h in
      (⊎_elim (λ (a : ltb types l ≡ true). inl (ltb-true types l a)) (λ (b : ltb nodes n ≡ true). inr (ltb-true nodes n b)) (or_cases (ltb types l) (ltb nodes n) p.0), p.1)
