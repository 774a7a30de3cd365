-- The numbers that planner, check, lookup and the list of needs refuse with; none is 0, so the number 0 says that nothing was refused. Assumes nothing.
-- The definitions are in specs/Refusals.antt; here are the theorems that depend on what a must-fail edit breaks.
use Rattle.std.specs.Prelude.{◌≡◌, ◌⊎◌, ◌↔◌, List, length, leb}
use Rattle.std.proofs.Math.Path.{refl}
use Rattle.std.proofs.Common.{ap, arith}
use Rattle.std.proofs.Math.Logic.{inl, inr, ⊎_elim}
use Prim.Native.Nat.{ℕ, ◌≤◌}
use Rattle.rules.specs.Sizes.{pairs_size}
use Rattle.rules.specs.Fields.{Answer, refused, got, after, number_of}
use Rattle.rules.specs.Needs.{Need}
use Rattle.rules.specs.JobFile.{JobFile, most_boards, read_file}
use Rattle.rules.specs.Boards.{runsb}
use Rattle.rules.specs.Preference.{best}
use Rattle.rules.specs.Table.{Table}
use Rattle.rules.specs.Answers.{plan_table, check}
use Rattle.rules.specs.Implied.{implied_in, listed, list_implied}
use Rattle.laws.specs.Tests.{T-leb, choose_yes}
use Rattle.laws.specs.Refusals.{Refusal, refusal-got, refusal-ask, refusal-after, not-refused, ReadNumber, file-number}
use Rattle.laws.specs.Refusals.{PlanNumber, tabled-number, ImpliedNumber, CheckNumber, table-refusal}

-- ---- the reading of a job file

-- the number of a reading is 0 just where the file is readable
pub read-got : (bs : List ℕ) → number_of (read_file bs) ≡ 0 → (f : JobFile) × (read_file bs ≡ got f)
read-got bs = not-refused ReadNumber (read_file bs) (file-number ReadNumber (λ q h. inl h) (inr refl) bs)
    (λ q h z. ⊎_elim (λ w. omega (arith, w, z)) (λ e. omega (arith, e, z)) h)

-- ---- the planner

pub plan-number : (file : List ℕ) → Refusal PlanNumber (after (read_file file) plan_table)
unfolding plan_table
plan-number file =
    refusal-after PlanNumber (read_file file) plan_table (file-number PlanNumber (λ q h. inl (omega arith)) (inr refl) file) (λ f.
    let n = length f.jobs in
    refusal-ask PlanNumber _ 11 _ (inl (omega arith)) (refusal-ask PlanNumber _ 12 _ (inl (omega arith))
    (tabled-number PlanNumber (inl (omega arith)) f (best n (runsb n f.needs (most_boards f)) f.limit))))

-- ---- the needs that follow from others

pub implied-number : (file : List ℕ) → Refusal ImpliedNumber (implied_in file)
unfolding implied_in
implied-number file =
    refusal-after ImpliedNumber (read_file file) _ (file-number ImpliedNumber (λ q h. inl (omega arith)) (inr refl) file)
    (λ f. refusal-ask ImpliedNumber _ 11 _ (inl (omega arith)) (refusal-got ImpliedNumber _))

-- a list with room for the pairs of every file is refused with no other
pub implied-numbers : (file list : List ℕ) → pairs_size ≤ length list → let q = number_of (list_implied file list).answer in (q ≡ 0) ⊎ ImpliedNumber q
unfolding list_implied
implied-numbers file list room =
    let r = (T-leb pairs_size (length list)).1 room in
    rw (choose_yes (leb pairs_size (length list)) (listed (implied_in file) list) _ r) (of (implied_in file) (implied-number file))
  where
    of : (r : Answer (List Need)) → Refusal ImpliedNumber r → let q = number_of (listed r list).answer in (q ≡ 0) ⊎ ImpliedNumber q
    of (refused q) h = unfold listed number_of Refusal in inr h
    of (got ds) h = unfold listed number_of in inl refl

-- ---- the check

pub check-number : (file table : List ℕ) → Refusal CheckNumber (check file table)
unfolding check
check-number file table =
    refusal-after CheckNumber (read_file file) _ (file-number CheckNumber (λ q h. inl (inl (omega arith))) (inl (inr refl)) file)
    (λ f. refusal-ask CheckNumber _ 11 _ (inl (inl (omega arith))) (table-refusal CheckNumber (λ q h. inr h) f table))

-- the number 0 says that the table passes
pub check-passes : (file table : List ℕ) → (number_of (check file table) ≡ 0) ↔ ((t : Table) × (check file table ≡ got t))
unfolding number_of
check-passes file table = (not-refused CheckNumber (check file table) (check-number file table) not-zero, λ w. ap number_of w.1)
  where
    not-zero : (q : ℕ) → CheckNumber q → q ≡ 0 → ⊥
    not-zero q (inl (inl p)) z = omega arith
    not-zero q (inl (inr e)) z = omega arith
    not-zero q (inr p) z = omega arith
