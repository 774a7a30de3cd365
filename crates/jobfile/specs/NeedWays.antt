-- The ways out of the reader of a need, by what it has tested. Assumes nothing.
use Rattle.std.specs.Prelude.{◌≡◌, true, false, ℕ, ◌-◌, ◌≤◌}
use Rattle.std.proofs.Math.Path.{refl}
use borrow.Author.Tests.{eq-eqb, ne_eqb}
use Rattle.rules.specs.Fields.{refused, got, ask}
use Rattle.rules.specs.JobFile.{is_job}
use Rattle.laws.specs.Tests.{tests, T_true}
use Rattle.jobfile.specs.Reading.{State, linked, take_need}

pub is-job-in : (n g : ℕ) → is_job n g ≡ true → (1 ≤ g) × (g ≤ n)
unfolding is_job
is-job-in n g e = simp tests at ((T_true (is_job n g)).1 e)

-- ---- a need

module _ (s : State) (g k : ℕ) where
  pub no-giver : is_job s.jobs g ≡ false → take_need s g k ≡ refused 8
  unfolding take_need ask
  no-giver e = rw e refl

  module _ (giver : is_job s.jobs g ≡ true) where
    pub no-taker : is_job s.jobs k ≡ false → take_need s g k ≡ refused 8
    unfolding take_need ask
    no-taker e = rw (giver, e) refl

    module _ (taker : is_job s.jobs k ≡ true) where
      pub same-job : g ≡ k → take_need s g k ≡ refused 8
      unfolding take_need ask
      same-job e = simp (giver, taker, eq-eqb g k e)

      module _ (other : g ≡ k → ⊥) where
        -- both are jobs and differ: the taker goes into the row, whether it was there or not
        pub need-linked : take_need s g k ≡ got (linked s (g - 1) (k - 1))
        unfolding take_need ask
        need-linked = simp (giver, taker, ne_eqb g k other)
