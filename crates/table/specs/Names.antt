-- Where the name that the rules give stands in the table. Assumes nothing.
use Rattle.std.specs.Prelude.{◌≡◌, ◌&&◌, List, ℕ, zero, suc, ◌+◌, ◌*◌, ◌≤◌, ◌<◌, length, T}
use Rattle.std.proofs.Math.Path.{refl}
use native.Mathlib.Omega.{arith}
use Rattle.std.proofs.Math.Dec.{leb}
use Rattle.rules.specs.Sizes.{max_jobs, table_size}
use Rattle.rules.specs.Fields.{Answer, refused, got, part}
use Rattle.rules.specs.Table.{row_start}
use Rattle.rules.specs.Answers.{job_at, lookup_table, lookup, name_span, name_at}
use Rattle.laws.specs.Tests.{tests}
use Rattle.laws.specs.Fields.{after-got, whole_is, length-value}
use Rattle.laws.specs.Check.{decoded-few}
use Rattle.laws.specs.Decoded.{is_row, decoded-is}
use Rattle.laws.specs.Lookup.{usable-is, lookup-only}
use Rattle.rows.specs.RowWays.{row_is}
use Rattle.table.specs.Entries.{place_of, part_of}

-- where a row and its name end
row_ends : (bs : List ℕ) (i : ℕ) → T (is_row bs (row_start bs i)) → (row_start bs i + 7 ≤ row_start bs (suc i)) × (row_start bs (suc i) ≤ row_start bs i + 19)
    × (row_start bs (suc i) ≤ length bs)
unfolding row_start
row_ends bs i t =
    let r = (row_is bs (row_start bs i)).0 t in
    omega (arith, r.sizes, length-value bs (row_start bs i) r.is_whole, (whole_is bs (row_start bs i)).0 r.is_whole)

rows-near : (bs : List ℕ) (n : ℕ) → ((k : ℕ) → k < n → T (is_row bs (row_start bs k))) → row_start bs n ≤ 6 + 19 * n
rows-near bs zero h = unfold row_start in omega arith
rows-near bs (suc n) h = omega (arith, row_ends bs n (h n (omega arith)), rows-near bs n (λ k l. h k (omega arith)))

module _ (bs : List ℕ) (s b : ℕ) where
  -- the rows of the lookup's table up to the one that it answers
  found_rows : (i : ℕ) → lookup bs s b ≡ got (suc i) → (i < max_jobs) × ((k : ℕ) → k < suc i → T (is_row bs (row_start bs k)))
  unfolding lookup
  found_rows i e =
      let w = after-got (lookup_table bs) (λ t. got (job_at 1 t.rows s b)) (suc i) e in
      let p = ((usable-is bs w.0).0 w.1).decodes in
      let few = simp tests at (decoded-few (λ n. leb 1 n && leb n max_jobs) bs w.0 p) in
      let l = (lookup-only bs w.0 w.1 s b i e).row_in in
      (omega (arith, l, few), λ k h. (decoded-is bs _ w.0 p).0 k (omega (arith, l)))

  -- a job number is at most 400
  pub job-few : (j : ℕ) → lookup bs s b ≡ got j → j ≤ max_jobs
  job-few zero e = omega arith
  job-few (suc i) e = omega (arith, (found_rows i e).0)

  -- the name lies in the table, and near its front
  pub name-lies : (i : ℕ) → lookup bs s b ≡ got (suc i) → (row_start bs i + 7 ≤ row_start bs (suc i)) × (row_start bs (suc i) ≤ length bs)
      × (row_start bs (suc i) ≤ table_size)
  name-lies i e = let w = found_rows i e in let l = row_ends bs i (w.1 i (omega arith)) in omega (arith, l, w.0, rows-near bs (suc i) w.1)

  pub name-is : name_at bs s b ≡ part_of bs (place_of bs (lookup bs s b))
  unfolding name_at
  name-is = go (lookup bs s b)
    where
      go : (x : Answer ℕ) → part bs (name_span bs x).0 (name_span bs x).1 ≡ part_of bs (place_of bs x)
      go (refused q) = unfold name_span place_of part_of part in refl
      go (got zero) = unfold name_span place_of part_of part in refl
      go (got (suc i)) = unfold place_of part_of in refl
