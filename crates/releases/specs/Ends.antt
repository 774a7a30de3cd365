-- The start and the end of peeling: where every job was peeled there is no circle and the releases are those of formula (1), else there is one.
-- Assumes nothing.
use Rattle.std.specs.Prelude.{◌≡◌, refl, ◌↔◌, Bool, ℕ, zero, suc, ◌≤◌, ◌<◌, T, eqb, take, replicate}
use Rattle.std.proofs.Math.Path.{sym, ap}
use Rattle.std.proofs.Common.{◌∙◌, ⊎_elim, arith, eqb-true, eq-eqb, ne_eqb, length-take-le}
use Rattle.std.proofs.Math.Bool.{and-true}
use mathlib.Core.List.Memᴰ
use mathlib.Core.List.{List, [], ◌∷◌, Memᴰ}
use Rattle.std.proofs.Math.Decide.{ℕ_discrete}
use Rattle.std.proofs.Math.ListN.{length}
use Rattle.std.proofs.lemmas.List.{length-replicate}
use Rattle.rules.specs.Sizes.{max_jobs}
use Rattle.rules.specs.Basics.{at, any, has, range, count}
use Rattle.rules.specs.Needs.{Need, Gives, NeedsIn, Circle, marked, rounds, circle_free}
use Rattle.rules.specs.Windows.{release}
use Rattle.laws.specs.Tests.{T-all, T-has, T-eqb, T_true, T_false, not-all}
use Rattle.laws.specs.Lists.{dec_mem, zeros-at, range-rising}
use Rattle.laws.specs.Counting.{pigeonhole, passing, passing-in, passing-distinct, rising-distinct, range-below, length-range}
use Rattle.laws.specs.Circles.{none-marked, giver-first, circle-free}
use Rattle.laws.specs.Releases.{value1-is, release-only}
use Rattle.needrows.specs.Rows.{takers_of, RowsAre}
use Rattle.releases.specs.Gathered.{gathered_none, behind-is}
use Rattle.releases.specs.Peels.{Peel}
use Rattle.releases.specs.Arrays.{take-mem, count_same}
use Rattle.releases.specs.Ordered.{RowsOf, Giver, Topological, Peeled}
use Rattle.releases.specs.Sorted.{giver-is, order-free}
use Rattle.releases.specs.Peeling.{ordered, open_giver, open_is, all-peeled, Peeling}

-- ---- the start

-- how many givers k has
unfoldable pub giver_count : List ℕ → ℕ → ℕ → ℕ
giver_count rows n k = count (λ g. has k (takers_of rows n g)) n

-- each job waits for all its givers
pub record Waits (rows : List ℕ) (n : ℕ) (waits : List ℕ) : Type 0 where
  pub size : length waits ≡ max_jobs
  pub wait : (k : ℕ) → k < n → at waits k ≡ giver_count rows n k

-- the jobs that wait for none, rising
abbrev pub first_jobs : List ℕ → ℕ → List ℕ
first_jobs waits n = passing (λ k. eqb (at waits k) 0) n

-- they are the first of the order
pub record First (waits : List ℕ) (n count : ℕ) (order : List ℕ) : Type 0 where
  pub size : length order ≡ max_jobs
  pub count-is : count ≡ length (first_jobs waits n)
  pub jobs-are : take count order ≡ first_jobs waits n

pub peeling-start : (rows : List ℕ) (n : ℕ) (waits order : List ℕ) (count : ℕ) → RowsOf rows n → Waits rows n waits → First waits n count order
    → Peeling rows n 0 (record { release = replicate max_jobs 0; waits = waits; order = order; count = count })
peeling-start rows n waits order c rows_of_lem w f = record {
  sized = record { release-size = length-replicate {A = ℕ} max_jobs 0; waits-size = w.size; order-size = f.size };
  next_le = omega arith;
  count-le = count-le;
  in-jobs = λ k m. ((in-first k).0 m).0;
  once = rw f.jobs-are (passing-distinct (λ k. eqb (at waits k) 0) n);
  waits-are = waits-are;
  entered = λ k h. (λ e. (in-first k).1 (h, e), λ m. ((in-first k).0 m).1);
  code = λ k h m. rw (zeros-at max_jobs k) (gathered_none (at (replicate max_jobs 0)) _ (λ g u. Memᴰ.not-nil u.0));
  final = λ k m. absurd (Memᴰ.not-nil m);
  small = λ k m. absurd (Memᴰ.not-nil m);
  before = λ p g h a.
      let m = take-mem order c p h (omega (arith, count-le, f.size, rows_of_lem.jobs-few)) in
      let k = (in-first (at order p)).0 m in
      absurd (Memᴰ.not-nil (all-peeled rows n [] (at order p) g (sym (waits-are (at order p) k.0) ∙ k.1) a));
}
  where
    in-first : (k : ℕ) → Memᴰ k (take c order) ↔ ((k < n) × (at waits k ≡ 0))
    in-first k = rw f.jobs-are (
      λ m. let h = (passing-in (λ j. eqb (at waits j) 0) n k).0 m in (h.0, (T-eqb (at waits k) 0).0 h.1),
      λ h. (passing-in (λ j. eqb (at waits j) 0) n k).1 (h.0, (T-eqb (at waits k) 0).1 h.1),
    )

    count-le : c ≤ n
    count-le = omega (
      arith,
      f.count-is,
      length-range n 0,
      pigeonhole (first_jobs waits n) (range n 0) (passing-distinct (λ k. eqb (at waits k) 0) n) (λ k m.
          (range-below n k).1 ((passing-in (λ j. eqb (at waits j) 0) n k).0 m).0),
    )

    waits-are : (k : ℕ) → k < n → at waits k ≡ count (open_giver rows n [] k) n
    waits-are k h = w.wait k h ∙ unfold giver_count open_giver has any in
        count_same (λ g. has k (takers_of rows n g)) (open_giver rows n [] k) n (λ g _. sym (and-true (has k (takers_of rows n g))))

-- ---- the end

module _ (rows : List ℕ) (n : ℕ) (s : Peel) (rows_of_lem : RowsOf rows n) (w : Peeling rows n s.count s)
    (needs : List Need) (needs-in : NeedsIn n needs) (are : RowsAre rows n needs) where
  is-giver : (k g : ℕ) → Giver rows n k g ↔ Gives needs g k
  is-giver = giver-is rows n needs rows_of_lem.jobs-few needs-in are

  ordered-long : length (ordered s) ≡ s.count
  ordered-long = length-take-le s.count s.order (omega (arith, w.count-le, w.sized.order-size, rows_of_lem.jobs-few))

  -- every job was peeled
  module _ (whole : s.count ≡ n) where
    all_in : (k : ℕ) → k < n → Memᴰ k (ordered s)
    all_in k h = go (dec_mem k (ordered s))
      where
        go : Dec (Memᴰ k (ordered s)) → Memᴰ k (ordered s)
        go (yes m) = m
        go (no m) = absurd (omega (
          arith,
          whole,
          ordered-long,
          length-range n 0,
          pigeonhole (k ∷ ordered s) (range n 0) (m, w.once) (λ j v.
              (range-below n j).1 (⊎_elim (λ e. omega arith) (w.in-jobs j) (Memᴰ.cases_cons v))),
        ))

    end-sorted : Topological n needs s.order
    end-sorted = record {
      in-jobs = λ k m. w.in-jobs k (rw whole m);
      all-jobs = λ k h. rw whole at (all_in k h);
      once = rw whole at w.once;
      givers-first = λ p g h a. w.before p g (omega arith) ((is-giver (at s.order p) g).1 a);
    }

    end-free : ¬ (Circle needs)
    end-free = order-free n needs s.order needs-in end-sorted

    end-releases : (i : ℕ) → i < n → at s.release i ≡ release n needs i
    end-releases i h = release-only n needs needs-in end-free (at s.release) (λ k l.
        let (c, g, e) = w.final k (all_in k l) in
        (value1-is needs (at s.release) k (at s.release k)).1 (e ∙ behind-is (at s.release) c (Giver rows n k) needs k (is-giver k) g)) i h

  -- some job was not
  module _ (part : s.count ≡ n → ⊥) where
    -- it has a giver that was not
    open-left : (k : ℕ) → k < n → ¬ (Memᴰ k (ordered s)) → (g : ℕ) × Gives needs g k × (g < n) × ¬ (Memᴰ g (ordered s))
    open-left k h m = go (passing unpeeled n) refl
      where
        unpeeled : ℕ → Bool
        unpeeled = open_giver rows n (ordered s) k

        go : (l : List ℕ) → passing unpeeled n ≡ l → (g : ℕ) × Gives needs g k × (g < n) × ¬ (Memᴰ g (ordered s))
        go [] e = absurd (m ((w.entered k h).0 (w.waits-are k h ∙ unfold count in ap length e)))
        go (g ∷ l) e =
            let v = (passing-in unpeeled n g).0 (rw e (Memᴰ.head refl)) in
            let o = (open_is rows n (ordered s) k g).0 v.1 in
            (g, (is-giver k g).0 (v.0, o.0), v.0, o.1)

    unmarked : (f k : ℕ) → k < n → ¬ (Memᴰ k (ordered s)) → ¬ T (marked (rounds n needs f) k)
    unmarked zero k h m t = none-marked n needs k t
    unmarked (suc f) k h m t =
        let (g, a, l, v) = open-left k h m in
        unmarked f g l v (giver-first n needs needs-in f g k a t)

    left_over : (k : ℕ) × (k < n) × ¬ (Memᴰ k (ordered s))
    left_over =
        let (k, m, t) = not-all (λ j. has j (ordered s)) (range n 0) (λ t. part (omega (
          arith,
          w.count-le,
          ordered-long,
          length-range n 0,
          pigeonhole (range n 0) (ordered s) (rising-distinct (range n 0) (range-rising n 0)) (λ j v.
              (T-has j (ordered s)).0 ((T-all (λ i. has i (ordered s)) (range n 0)).0 t j v)),
        ))) in
        (k, (range-below n k).0 m, λ v. t ((T-has k (ordered s)).1 v))

    end-circle : ¬ T (circle_free n needs)
    unfolding circle_free
    end-circle t =
        let (k, h, m) = left_over in
        unmarked n k h m ((T-all (marked (rounds n needs n)) (range n 0)).0 t k ((range-below n k).1 h))

  -- the answer of the code
  pub peeling-end : (ok : Bool) → ok ≡ eqb s.count n → Peeled n needs ok s.order s.release
  peeling-end ok e = rw e (go (ℕ_discrete s.count n))
    where
      go : Dec (s.count ≡ n) → Peeled n needs (eqb s.count n) s.order s.release
      go (yes q) = record {
        answer = eq-eqb s.count n q ∙ sym ((T_true (circle_free n needs)).0 ((circle-free n needs needs-in).1 (end-free q)));
        sorted = λ _. end-sorted q;
        releases-are = λ _. end-releases q;
      }
      go (no q) = record {
        answer = ne_eqb s.count n q ∙ sym (T_false (circle_free n needs) (end-circle q));
        sorted = λ p. absurd (q (eqb-true s.count n p));
        releases-are = λ p. absurd (q (eqb-true s.count n p));
      }
