-- The tails, from the last job of the order to the first. Assumes nothing.
use Rattle.std.specs.Prelude.{◌≡◌, ◌↔◌, ℕ, ◌+◌, ◌-◌, ◌*◌, ◌≤◌, ◌<◌, length, set}
use Rattle.std.proofs.Common.{sym, ◌∙◌, arith, length-set, get_or-set_same, get_or-set_other}
use Rattle.std.proofs.Math.Path.{ap}
use mathlib.Core.List.{List, map, Memᴰ}
use Rattle.std.proofs.Math.Decide.{ℕ_discrete}
use Rattle.rules.specs.Sizes.{max_jobs}
use Rattle.rules.specs.Basics.{at}
use Rattle.rules.specs.Needs.{Need, Gives, NeedsIn, Circle}
use Rattle.rules.specs.Windows.{release_by, swap, tail}
use Rattle.laws.specs.Releases.{value1-is, release-only}
use Rattle.laws.specs.Deadlines.{swap-gives, swap-in, swap-free}
use Rattle.needrows.specs.Rows.{takers_of, RowsAre}
use Rattle.needrows.specs.Takers.{takers-are, takers-distinct}
use Rattle.releases.specs.Codes.{behind, raised_over}
use Rattle.releases.specs.Gathered.{over-behind, over-same, over-bound}
use Rattle.releases.specs.Arrays.{take-index}
use Rattle.releases.specs.Ordered.{OrderOf}
use Rattle.releases.specs.Sorted.{sorted-by, order-free, taker-later, order-once, order-in}

-- the tail of a job by those of its takers
unfoldable pub tail_over : List ℕ → ℕ → List ℕ → ℕ → ℕ
tail_over rows n tails job = behind (raised_over (at tails) 0 (takers_of rows n job))

-- the jobs from entry `next` of the order on have their tails
pub record TailsFrom (rows : List ℕ) (n : ℕ) (order : List ℕ) (next : ℕ) (tails : List ℕ) : Type 0 where
  pub size : length tails ≡ max_jobs
  pub next_le : next ≤ n
  pub done : (p : ℕ) → next ≤ p → p < n → at tails (at order p) ≡ tail_over rows n tails (at order p)
  pub small : (p : ℕ) → next ≤ p → p < n → at tails (at order p) + 1 ≤ 2 * (n - next)

-- none yet
pub tails-start : (rows : List ℕ) (n : ℕ) (order tails : List ℕ) → length tails ≡ max_jobs → TailsFrom rows n order n tails
tails-start rows n order tails e = record { size = e; next_le = omega arith; done = λ p a b. absurd (omega arith); small = λ p a b. absurd (omega arith) }

module _ (rows : List ℕ) (n : ℕ) (order : List ℕ) (w : OrderOf rows n order) where
  abbrev needs : List Need
  needs = w.of-needs.needs

  -- the takers of a job stand behind it
  later : (p k : ℕ) → p < n → Memᴰ k (takers_of rows n (at order p)) → (q : ℕ) × (p < q) × (q < n) × (at order q ≡ k)
  later p k h m =
      let o = w.of-needs in
      let l = order-in n needs order o.needs-in w.sorted p h in
      let a = (takers-are rows n needs (omega (arith, o.jobs-few)) o.needs-in o.rows_are (at order p) l k).0 m in
      taker-later n needs order o.needs-in w.sorted p k h a

  -- ---- one job more

  module _ (next : ℕ) (tails : List ℕ) (less : next < n) (d : TailsFrom rows n order (next + 1) tails) where
    abbrev job : ℕ
    job = at order next

    abbrev value : ℕ
    value = tail_over rows n tails job

    pub job-below : at order next < n
    job-below = order-in n needs order w.of-needs.needs-in w.sorted next less

    -- its takers have small tails
    pub takers-small : (k : ℕ) → Memᴰ k (takers_of rows n (at order next)) → (k < n) × (at tails k + 1 ≤ 2 * (n - (next + 1)))
    takers-small k m =
        let (q, a, b, e) = later next k less m in
        rw (← e) (order-in n needs order w.of-needs.needs-in w.sorted q b, d.small q (omega arith) b)

    value-small : value + 1 ≤ 2 * (n - next)
    unfolding tail_over behind
    value-small = omega (arith, over-bound (at tails) (takers_of rows n job) 0 (2 * (n - (next + 1))) (omega arith) (λ k m. (takers-small k m).1))

    abbrev after : List ℕ
    after = set tails job value

    at-job : at after job ≡ value
    at-job = get_or-set_same tails job value 0 (omega (arith, d.size, w.of-needs.jobs-few, job-below))

    other : (p : ℕ) → next < p → p < n → at after (at order p) ≡ at tails (at order p)
    other p a b = get_or-set_other tails job (at order p) value 0 (λ e.
        omega (arith, order-once n needs order w.of-needs.needs-in w.sorted p next b less e))

    -- a job from it on has its tail as before
    over : (p : ℕ) → next ≤ p → p < n → tail_over rows n tails (at order p) ≡ tail_over rows n after (at order p)
    unfolding tail_over
    over p a b = ap behind (over-same (at tails) (at after) (takers_of rows n (at order p)) 0 (λ k m.
        let (q, c, l, e) = later p k b m in
        rw (← e) (sym (other q (omega arith) l))))

    pub tails-step : TailsFrom rows n order next (set tails (at order next) (tail_over rows n tails (at order next)))
    tails-step = record {
      size = length-set tails job value ∙ d.size;
      next_le = omega arith;
      done = λ p a b. done_at p a b (ℕ_discrete p next);
      small = λ p a b. small_at p a b (ℕ_discrete p next);
    }
      where
        done_at : (p : ℕ) → next ≤ p → p < n → Dec (p ≡ next) → at after (at order p) ≡ tail_over rows n after (at order p)
        done_at p a b (yes e) =
            ap (λ (q : ℕ). at after (at order q)) e ∙ at-job ∙ over next (omega arith) less ∙ ap (λ (q : ℕ). tail_over rows n after (at order q)) (sym e)
        done_at p a b (no e) = other p (omega arith) b ∙ d.done p (omega arith) b ∙ over p a b

        small_at : (p : ℕ) → next ≤ p → p < n → Dec (p ≡ next) → at after (at order p) + 1 ≤ 2 * (n - next)
        small_at p a b (yes e) = omega (arith, ap (λ (q : ℕ). at after (at order q)) e, at-job, value-small)
        small_at p a b (no e) = omega (arith, other p (omega arith) b, d.small p (omega arith) b)

  -- ---- all jobs

  pub tails_end : (tails : List ℕ) → TailsFrom rows n order 0 tails → (ds : List Need) → NeedsIn n ds → RowsAre rows n ds
      → (i : ℕ) → i < n → at tails i ≡ tail n ds i
  tails_end tails d ds ds-in are = release-only n (map swap ds) (swap-in n ds ds-in) (swap-free free) (at tails) (λ k l.
      (value1-is (map swap ds) (at tails) k (at tails k)).1 (formula k l))
    where
      takers : (k g : ℕ) → k < n → Memᴰ g (takers_of rows n k) ↔ Gives (map swap ds) g k
      takers k g l =
          let a = takers-are rows n ds (omega (arith, w.of-needs.jobs-few)) ds-in are k l g in
          (λ m. (swap-gives ds g k).1 (a.0 m), λ m. a.1 ((swap-gives ds g k).0 m))

      free : ¬ (Circle ds)
      free = order-free n ds order ds-in (sorted-by rows n order w ds ds-in are)

      formula : (k : ℕ) → k < n → at tails k ≡ release_by (at tails) (map swap ds) k
      formula k l =
          let (p, a, b, e) = take-index order n k (w.sorted.all-jobs k l) in
          ap (at tails) (sym e) ∙ d.done p (omega arith) a ∙ ap (tail_over rows n tails) e
          ∙ (unfold tail_over in over-behind (at tails) (takers_of rows n k) (map swap ds) k (takers-distinct rows k n) (λ g. takers k g l))
