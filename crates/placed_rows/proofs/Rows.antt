-- The records of eight jobs are those of their starts, one by one. Assumes nothing.
use Rattle.std.proofs.Common.{◌≡◌, refl, sym, ◌∙◌, ℕ, zero, suc, ◌<◌, ◌≤◌, List, length, set, get_or, arith}
use Rattle.std.proofs.lemmas.List.{ext_get_or, length-set, get_or-set_same, get_or-set_other}
use Rattle.std.proofs.Math.Decide.{ℕ_discrete}
use Rattle.rules.specs.Basics.{at}
use Rattle.slotboards.specs.declared.JobRecord.{JobRecord}
use Rattle.placed_rows.specs.Seats.{row_of, rows_from}

module _ (starts : List ℕ) where
  rows-long : (n : ℕ) → length (rows_from starts n) ≡ 8
  unfolding rows_from
  rows-long zero = refl
  rows-long (suc n) = length-set (rows_from starts n) n (row_of (at starts n)) ∙ rows-long n

  -- record k of those that have their starts
  row-at : (n k : ℕ) → n ≤ 8 → k < n → get_or (rows_from starts n) k (row_of 0) ≡ row_of (at starts k)
  unfolding rows_from
  row-at zero k h l = absurd (omega arith)
  row-at (suc n) k h l = go (ℕ_discrete k n) (λ m. row-at n k (omega arith) m)
    where
      go : Dec (k ≡ n) → (k < n → get_or (rows_from starts n) k (row_of 0) ≡ row_of (at starts k))
          → get_or (set (rows_from starts n) n (row_of (at starts n))) k (row_of 0) ≡ row_of (at starts k)
      go (yes e) r = rw e (get_or-set_same (rows_from starts n) n (row_of (at starts n)) (row_of 0) (omega (arith, rows-long n)))
      go (no e) r = get_or-set_other (rows_from starts n) n k (row_of (at starts n)) (row_of 0) e ∙ r (omega arith)

  -- eight records with these starts are those
  pub rows-same : (rows : List JobRecord) → length rows ≡ 8 → ((k : ℕ) → k < 8 → get_or rows k (row_of 0) ≡ row_of (at starts k)) → rows ≡ rows_from starts 8
  rows-same rows e f = ext_get_or (row_of 0) rows (rows_from starts 8) (omega (arith, rows-long 8))
      (λ k h. f k (omega arith) ∙ sym (row-at 8 k (omega arith) (omega arith)))
