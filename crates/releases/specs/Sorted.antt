-- An order with each giver before its takers: it is as long as there are jobs, and the needs have no circle. Assumes nothing.
use Rattle.std.specs.Prelude.{◌≡◌, ◌↔◌, ℕ, ◌≤◌, ◌<◌, length, take}
use Rattle.std.proofs.Common.{sym, ◌∙◌, arith, length-take}
use mathlib.Core.List.{List, Memᴰ}
use Rattle.rules.specs.Sizes.{max_jobs}
use Rattle.rules.specs.Basics.{at, range}
use Rattle.rules.specs.Needs.{Need, Gives, NeedsIn, Chain, one, more, Circle}
use Rattle.laws.specs.Lists.{range-rising}
use Rattle.laws.specs.Counting.{pigeonhole, rising-distinct, range-below, length-range}
use Rattle.laws.specs.Circles.{start-in}
use Rattle.needrows.specs.Rows.{RowsAre}
use Rattle.needrows.specs.Takers.{takers-are}
use Rattle.releases.specs.Arrays.{take-mem, take-index, take_more, one_place}
use Rattle.releases.specs.Ordered.{OfNeeds, Topological, OrderOf, RowsOf, Giver}

-- ---- rows of needs

-- the givers of a job, by the rows and by the needs
pub giver-is : (rows : List ℕ) (n : ℕ) (needs : List Need) → n ≤ max_jobs → NeedsIn n needs → RowsAre rows n needs
    → (k g : ℕ) → Giver rows n k g ↔ Gives needs g k
giver-is rows n needs few needs-in are k g = (
  λ a. (takers-are rows n needs (omega arith) needs-in are g a.0 k).0 a.1,
  λ a. let h = (needs-in g k a).0 in (h, (takers-are rows n needs (omega arith) needs-in are g h k).1 a),
)

-- the takers in them are jobs
pub rows_of : (rows : List ℕ) (n : ℕ) → OfNeeds rows n → RowsOf rows n
rows_of rows n w = record {
  jobs-few = w.jobs-few;
  rows_fit = w.rows_fit;
  takers-in = λ g k h m. (w.needs-in g k ((giver-is rows n w.needs w.jobs-few w.needs-in w.rows_are k g).0 (h, m))).1;
}

-- two lists of needs with the same rows say the same
pub same_gives : (rows : List ℕ) (n : ℕ) (w : OfNeeds rows n) (needs : List Need) → NeedsIn n needs → RowsAre rows n needs
    → (g k : ℕ) → Gives needs g k → Gives w.needs g k
same_gives rows n w needs needs-in are g k a =
    (giver-is rows n w.needs w.jobs-few w.needs-in w.rows_are k g).0 ((giver-is rows n needs w.jobs-few needs-in are k g).1 a)

-- ---- the order

-- it is one of all needs with these rows
pub sorted-by : (rows : List ℕ) (n : ℕ) (order : List ℕ) (w : OrderOf rows n order) (needs : List Need) → NeedsIn n needs → RowsAre rows n needs
    → Topological n needs order
sorted-by rows n order w needs needs-in are = record {
  in-jobs = w.sorted.in-jobs;
  all-jobs = w.sorted.all-jobs;
  once = w.sorted.once;
  givers-first = λ p g h a. w.sorted.givers-first p g h (same_gives rows n w.of-needs needs needs-in are g (at order p) a);
}

module _ (n : ℕ) (needs : List Need) (order : List ℕ) (needs-in : NeedsIn n needs) (w : Topological n needs order) where
  pub order-long : n ≤ length order
  order-long = omega (
    arith,
    length-range n 0,
    length-take n order,
    pigeonhole (range n 0) (take n order) (rising-distinct (range n 0) (range-rising n 0)) (λ k m. w.all-jobs k ((range-below n k).0 m)),
  )

  -- the jobs that lead to a job stand before it
  chain-before : (a b p : ℕ) → Chain needs a b → p < n → at order p ≡ b → Memᴰ a (take p order)
  chain-before _ _ p (one a b m) h e = w.givers-first p a h (rw e m)
  chain-before _ _ p (more a b c m r) h e =
      let (q, l, k, f) = take-index order p b (chain-before b c p r h e) in
      take_more order q p a (omega arith) (w.givers-first q a (omega arith) (rw f m))

  pub order-free : ¬ (Circle needs)
  order-free (a, c) =
      let (p, l, k, e) = take-index order n a (w.all-jobs a (start-in n needs needs-in a a c)) in
      let (q, i, j, f) = take-index order p a (chain-before a a p c l e) in
      omega (arith, one_place order n p q w.once l (omega arith) order-long (e ∙ sym f))

  -- a taker stands behind its giver
  pub taker-later : (p k : ℕ) → p < n → Gives needs (at order p) k → (q : ℕ) × (p < q) × (q < n) × (at order q ≡ k)
  taker-later p k h a =
      let (q, l, i, e) = take-index order n k (w.all-jobs k (needs-in (at order p) k a).1) in
      let (t, m, j, f) = take-index order q (at order p) (w.givers-first q (at order p) l (rw e a)) in
      (q, omega (arith, one_place order n t p w.once (omega arith) h order-long f), l, e)

  pub order-once : (p q : ℕ) → p < n → q < n → at order p ≡ at order q → p ≡ q
  order-once p q h l e = one_place order n p q w.once h l order-long e

  pub order-in : (p : ℕ) → p < n → at order p < n
  order-in p h = w.in-jobs (at order p) (take-mem order n p h (omega (arith, order-long)))
