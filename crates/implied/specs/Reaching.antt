-- From the last job of an order to the first, each gets what stands beyond it. Assumes nothing.
use Rattle.std.specs.Prelude.{◌≡◌, refl, ◌⊎◌, ◌↔◌, ℕ, ◌-◌, ◌*◌, ◌≤◌, ◌<◌, length, T}
use Rattle.std.proofs.Common.{sym, ◌∙◌, inl, inr, ⊎_elim, arith}
use mathlib.Core.List.{List, Memᴰ}
use Rattle.std.proofs.Math.Decide.{ℕ_discrete}
use Rattle.rules.specs.Basics.{at}
use Rattle.rules.specs.Needs.{Need, Gives, NeedsIn, Chain, one, more}
use Rattle.laws.specs.Program.{gives-is}
use Rattle.laws.specs.Implied.{Far}
use Rattle.jobset.specs.Digits.{digit-zero}
use Rattle.bitmap.specs.Marks.{is_marked}
use Rattle.needrows.specs.Rows.{row_bytes, row_bits, takers_of, RowsAre}
use Rattle.needrows.specs.Takers.{takers-are}
use Rattle.releases.specs.Ordered.{Topological, OrderOf}
use Rattle.releases.specs.Arrays.{take-index}
use Rattle.releases.specs.Sorted.{rows_of, sorted-by, taker-later, order-once, order-in}
use Rattle.implied.specs.Beyond.{Others, RowsThere, in_row, Leads, Joined, Right, BeyondAre}

-- a chain is one need, or one of two needs or more
chain-far : {needs : List Need} {a b : ℕ} → Chain needs a b → Gives needs a b ⊎ Far needs a b
chain-far (one a b m) = inl m
chain-far (more a b c m r) = inr (b, m, r)

far-chain : {needs : List Need} {a b : ℕ} → Gives needs a b ⊎ Far needs a b → Chain needs a b
far-chain {a = a} {b = b} (inl m) = one a b m
far-chain {a = a} {b = b} (inr (c, m, r)) = more a c b m r

-- the jobs of the order from place `next` on have what stands beyond them, those before have nothing yet
pub record RightFrom (n : ℕ) (needs : List Need) (order : List ℕ) (next : ℕ) (beyond : List ℕ) : Type 0 where
  pub right : (p : ℕ) → next ≤ p → p < n → Right n needs beyond (at order p)
  pub nothing : (p k : ℕ) → p < next → k < n → T (in_row beyond (at order p) k) → ⊥

-- at the start none has
pub right-start : (n : ℕ) (needs : List Need) (order beyond : List ℕ) → ((i : ℕ) → at beyond i ≡ 0) → RightFrom n needs order n beyond
unfolding is_marked
right-start n needs order beyond zeros = record {
  right = λ p h l. absurd (omega arith);
  nothing = λ p k h l t. simp (zeros, digit-zero) at t;
}

module _ (takers : List ℕ) (n : ℕ) (needs : List Need) (order : List ℕ) (few : n ≤ row_bits) (needs-in : NeedsIn n needs) (are : RowsAre takers n needs)
    (sorted : Topological n needs order) where
  -- the takers of a job, by its row
  takers-is : (g : ℕ) → g < n → (k : ℕ) → Memᴰ k (takers_of takers n g) ↔ Gives needs g k
  takers-is g h = takers-are takers n needs few needs-in are g h

  in-takers : (g k : ℕ) → g < n → k < n → T (in_row takers g k) ↔ Gives needs g k
  in-takers g k h l = (
    λ t. (gives-is needs g k).0 (rw (are g k h (omega arith)) at t),
    λ m. rw (are g k h (omega arith)) ((gives-is needs g k).1 m),
  )

  -- are other jobs
  pub taker-other : (p : ℕ) → p < n → Others n (at order p) (takers_of takers n (at order p))
  taker-other p h k m =
      let a = (takers-is (at order p) (order-in n needs order needs-in sorted p h) k).0 m in (
        (needs-in (at order p) k a).1,
        λ e.
            let (q, l, i, f) = taker-later n needs order needs-in sorted p k h a in
            omega (arith, order-once n needs order needs-in sorted p q h i (sym e ∙ sym f)),
      )

  module _ (next : ℕ) (some : 0 < next) (next-in : next ≤ n) (before after : List ℕ)
      (joined : Joined takers n (at order (next - 1)) (takers_of takers n (at order (next - 1))) before after) (w : RightFrom n needs order next before) where
    abbrev g : ℕ
    g = at order (next - 1)

    g-in : g < n
    g-in = order-in n needs order needs-in sorted (next - 1) (omega arith)

    -- the takers of g have what stands beyond them
    taker-right : (j : ℕ) → Gives needs g j → Right n needs before j
    taker-right j m =
        let (q, l, i, e) = taker-later n needs order needs-in sorted (next - 1) j (omega arith) m in
        rw e at (w.right q (omega arith) i)

    -- so what they lead to is at the end of a chain
    leads-is : (j k : ℕ) → Gives needs g j → k < n → Leads takers before j k ↔ Chain needs j k
    leads-is j k m l = (
      λ u. far-chain (⊎_elim (λ t. inl ((in-takers j k j-in l).0 t)) (λ t. inr ((taker-right j m k l).0 t)) u),
      λ c. ⊎_elim (λ a. inl ((in-takers j k j-in l).1 a)) (λ a. inr ((taker-right j m k l).1 a)) (chain-far c),
    )
      where
        j-in : j < n
        j-in = (needs-in g j m).1

    mine : Right n needs after g
    mine k l = (λ t. to ((joined.row k l).0 t), λ (j, m, c). (joined.row k l).1 (inr (j, (takers-is g g-in j).1 m, (leads-is j k m l).1 c)))
      where
        to : T (in_row before g k) ⊎ ((j : ℕ) × Memᴰ j (takers_of takers n g) × Leads takers before j k) → Far needs g k
        to (inl t) = absurd (w.nothing (next - 1) k (omega arith) l t)
        to (inr (j, m, u)) = let a = (takers-is g g-in j).0 m in (j, a, (leads-is j k a l).0 u)

    -- the other rows stay
    kept : (p k : ℕ) → p < n → (p ≡ next - 1 → ⊥) → k < n → in_row after (at order p) k ≡ in_row before (at order p) k
    kept p k h other l = joined.others (at order p) k (λ e. other (order-once n needs order needs-in sorted p (next - 1) h (omega arith) e)) l

    -- one job more
    pub right-more : RightFrom n needs order (next - 1) after
    right-more = record {
      right = λ p h l. go p h l (ℕ_discrete p (next - 1));
      nothing = λ p k h l t. w.nothing p k (omega arith) l (rw (kept p k (omega arith) (λ e. omega arith) l) at t);
    }
      where
        go : (p : ℕ) → next - 1 ≤ p → p < n → Dec (p ≡ next - 1) → Right n needs after (at order p)
        go p h l (yes e) = rw e mine
        go p h l (no e) = λ k i. rw (kept p k l e i) (w.right p (omega arith) l k i)

  -- at the end all have
  pub right_end : (beyond : List ℕ) → RightFrom n needs order 0 beyond → (g : ℕ) → g < n → Right n needs beyond g
  right_end beyond w g h = let (p, l, i, e) = take-index order n g (sorted.all-jobs g h) in rw e at (w.right p (omega arith) l)

-- ---- the loop over the order

-- the jobs from place `next` on have what stands beyond them, by all needs that the rows of takers hold
pub record Filled (takers : List ℕ) (n : ℕ) (order before : List ℕ) (next : ℕ) (now : List ℕ) : Type 0 where
  pub next-in : next ≤ n
  pub size : length now ≡ length before
  pub right_so : (needs : List Need) → NeedsIn n needs → RowsAre takers n needs → RightFrom n needs order next now

module _ {takers : List ℕ} {n : ℕ} {order : List ℕ} (w : OrderOf takers n order) where
  few-so : n ≤ row_bits
  few-so = let h = w.of-needs.jobs-few in omega arith

  -- the jobs of the order are jobs, and their takers others
  pub giver-in : (p : ℕ) → p < n → at order p < n
  giver-in p h = order-in n w.of-needs.needs order w.of-needs.needs-in w.sorted p h

  pub giver-others : (p : ℕ) → p < n → Others n (at order p) (takers_of takers n (at order p))
  giver-others p h = taker-other takers n w.of-needs.needs order few-so w.of-needs.needs-in w.of-needs.rows_are w.sorted p h

  pub fill_start : (beyond : List ℕ) → ((i : ℕ) → at beyond i ≡ 0) → Filled takers n order beyond n beyond
  fill_start beyond zeros = record { next-in = omega arith; size = refl; right_so = λ needs _ _. right-start n needs order beyond zeros }

  module _ {before : List ℕ} {next : ℕ} {now : List ℕ} (f : Filled takers n order before next now) where
    -- the rows stay where they are
    pub rows-there : row_bytes * n ≤ length before → RowsThere takers n now
    rows-there room = record { rows_of = rows_of takers n w.of-needs; room = omega (arith, room, f.size) }

    -- one job more
    pub fill_more : 0 < next → (after : List ℕ) → Joined takers n (at order (next - 1)) (takers_of takers n (at order (next - 1))) now after
        → Filled takers n order before (next - 1) after
    fill_more some after joined = record {
      next-in = omega (arith, f.next-in);
      size = joined.size ∙ f.size;
      right_so = λ needs needs-in are.
          let sorted = sorted-by takers n order w needs needs-in are in
          right-more takers n needs order few-so needs-in are sorted next some f.next-in now after joined (f.right_so needs needs-in are);
    }

    -- all have
    pub fill_end : next ≡ 0 → BeyondAre takers n now
    fill_end e needs needs-in are =
        let sorted = sorted-by takers n order w needs needs-in are in
        right_end takers n needs order few-so needs-in are sorted now (rw e at (f.right_so needs needs-in are))
