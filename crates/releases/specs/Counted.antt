-- The givers of each job, counted giver by giver, and the jobs without one. Assumes nothing.
use Rattle.std.specs.Prelude.{◌≡◌, ◌↔◌, Bool, ◌&&◌, ℕ, zero, suc, ◌+◌, ◌≤◌, ◌<◌, T, ltb, length, set, take, replicate}
use Rattle.std.proofs.Math.Path.{refl}
use Rattle.std.proofs.Common.{sym, ap, ◌∙◌, add-one, arith, length-set, length-append, get_or-set_other, take-suc-set}
use mathlib.Core.List.{List, [], ◌∷◌, ◌++◌, append-nil, Memᴰ}
use Rattle.std.proofs.Math.Decide.{ℕ_discrete}
use Rattle.std.proofs.Math.Dec.{eqb}
use Rattle.std.proofs.lemmas.List.{length-replicate}
use Rattle.rules.specs.Sizes.{max_jobs}
use Rattle.rules.specs.Basics.{choose, at, has, filter, range, count, Distinct}
use Rattle.laws.specs.Tests.{tests, T-eqb, bool-ext, choose_yes, choose_no}
use Rattle.laws.specs.Lists.{dec_mem, filter-append, zeros-at}
use Rattle.laws.specs.Counting.{passing, count_none, count_most}
use Rattle.needrows.specs.Rows.{takers_of}
use Rattle.needrows.specs.Takers.{takers-distinct}
use Rattle.releases.specs.Peels.{each}
use Rattle.releases.specs.Arrays.{length-each, each-other, each_at, count-one, count_same}
use Rattle.releases.specs.Ordered.{RowsOf}
use Rattle.releases.specs.Ends.{giver_count, Waits, first_jobs, First}

-- ---- one more for each of some takers

-- there is room to count
pub record Countable (xs waits : List ℕ) : Type 0 where
  pub in-jobs : (k : ℕ) → Memᴰ k xs → k < max_jobs
  pub once : Distinct xs
  pub small : (k : ℕ) → Memᴰ k xs → at waits k ≤ max_jobs

pub countable-turn : (k : ℕ) (ks waits : List ℕ) → Countable (k ∷ ks) waits → Countable ks (set waits k (at waits k + 1))
countable-turn k ks waits w = record {
  in-jobs = λ j m. w.in-jobs j (Memᴰ.tail m);
  once = w.once.1;
  small = λ j m. rw (get_or-set_other waits k j (at waits k + 1) 0 (λ e. w.once.0 (rw e at m))) (w.small j (Memᴰ.tail m));
}

-- the first of those that are left has room, and so have the others after it
pub record CountTurn (k : ℕ) (ks waits : List ℕ) : Type 0 where
  pub in-jobs : k < max_jobs
  pub small : at waits k ≤ max_jobs
  pub others : Countable ks (set waits k (at waits k + 1))

pub countable-first : {xs : List ℕ} {waits : List ℕ} (k : ℕ) (ks : List ℕ) → xs ≡ k ∷ ks → Countable xs waits → CountTurn k ks waits
countable-first {waits = waits} k ks e w =
    let v = rw e at w in
    record { in-jobs = v.in-jobs k (Memᴰ.head refl); small = v.small k (Memᴰ.head refl); others = countable-turn k ks waits v }

-- ---- giver by giver

-- g is a giver of k and below m
unfoldable pub first_giver : List ℕ → ℕ → ℕ → ℕ → ℕ → Bool
first_giver rows n m k g = ltb g m && has k (takers_of rows n g)

first-giver : (rows : List ℕ) (n m k g : ℕ) → T (first_giver rows n m k g) ↔ ((g < m) × Memᴰ k (takers_of rows n g))
unfolding first_giver
first-giver rows n m k g = (λ t. simp tests at t, λ h. simp tests h)

-- the takers of the givers below m are counted
pub record CountedTo (rows : List ℕ) (n m : ℕ) (waits : List ℕ) : Type 0 where
  pub size : length waits ≡ max_jobs
  pub wait : (k : ℕ) → k < n → at waits k ≡ count (first_giver rows n m k) n

pub counted_start : (rows : List ℕ) (n : ℕ) → CountedTo rows n 0 (replicate max_jobs 0)
counted_start rows n = record {
  size = length-replicate {A = ℕ} max_jobs 0;
  wait = λ k h. zeros-at max_jobs k ∙ sym (count_none (first_giver rows n 0 k) n (λ g _ t. omega (arith, ((first-giver rows n 0 k g).0 t).0)));
}

module _ (rows : List ℕ) (n m : ℕ) (waits : List ℕ) (rows_of_lem : RowsOf rows n) (less : m < n) (w : CountedTo rows n m waits) where
  pub counted-countable : Countable (takers_of rows n m) waits
  counted-countable = record {
    in-jobs = λ k v. omega (arith, rows_of_lem.takers-in m k less v, rows_of_lem.jobs-few);
    once = takers-distinct rows m n;
    small = λ k v. omega (arith, w.wait k (rows_of_lem.takers-in m k less v), count_most (first_giver rows n m k) n, rows_of_lem.jobs-few);
  }

  same : (k g : ℕ) → (g ≡ m → Memᴰ k (takers_of rows n m) → ⊥) → first_giver rows n m k g ≡ first_giver rows n (m + 1) k g
  same k g other = bool-ext (first_giver rows n m k g) (first_giver rows n (m + 1) k g)
      (λ t. let h = (first-giver rows n m k g).0 t in (first-giver rows n (m + 1) k g).1 (omega (arith, h.0), h.1))
      (λ t. let h = (first-giver rows n (m + 1) k g).0 t in (first-giver rows n m k g).1 (less-or h (ℕ_discrete g m), h.1))
    where
      less-or : (g < m + 1) × Memᴰ k (takers_of rows n g) → Dec (g ≡ m) → g < m
      less-or h (yes e) = absurd (other e (rw e at h.1))
      less-or h (no e) = omega (arith, h.0)

  pub counted_step : CountedTo rows n (m + 1) (each (◌+ 1) (takers_of rows n m) waits)
  counted_step = record {
    size = length-each (◌+ 1) (takers_of rows n m) waits ∙ w.size;
    wait = λ k h. go k h (dec_mem k (takers_of rows n m));
  }
    where
      go : (k : ℕ) → k < n → Dec (Memᴰ k (takers_of rows n m)) → at (each (◌+ 1) (takers_of rows n m) waits) k ≡ count (first_giver rows n (m + 1) k) n
      go k h (yes v) = omega (
        arith,
        each_at (◌+ 1) (takers_of rows n m) waits (takers-distinct rows m n) (λ x u. omega (arith, counted-countable.in-jobs x u, w.size)) k v,
        w.wait k h,
        count-one (first_giver rows n m k) (first_giver rows n (m + 1) k) n m less (λ t. omega (arith, ((first-giver rows n m k m).0 t).0))
            ((first-giver rows n (m + 1) k m).1 (omega arith, v)) (λ g _ e. same k g (λ q. absurd (e q))),
      )
      go k h (no v) =
          each-other (◌+ 1) (takers_of rows n m) waits k v ∙ w.wait k h
          ∙ count_same (first_giver rows n m k) (first_giver rows n (m + 1) k) n (λ g _. same k g (λ e. v))

pub counted-end : (rows : List ℕ) (n m : ℕ) (waits : List ℕ) → n ≤ m → CountedTo rows n m waits → Waits rows n waits
unfolding giver_count
counted-end rows n m waits h w = record {
  size = w.size;
  wait = λ k l. w.wait k l ∙ count_same (first_giver rows n m k) (λ g. has k (takers_of rows n g)) n (λ g below.
      bool-ext (first_giver rows n m k g) (has k (takers_of rows n g))
      (λ t. simp tests ((first-giver rows n m k g).0 t).1) (λ t. (first-giver rows n m k g).1 (omega arith, simp tests at t)));
}

-- ---- the jobs without a giver

range-more : (k i : ℕ) → range (suc k) i ≡ range k i ++ (i + k) ∷ []
unfolding range
range-more zero i = let e : i + 0 ≡ i = omega arith in rw e
range-more (suc k) i = ap (λ (l : List ℕ). i ∷ l) (range-more k (suc i) ∙ let e : suc i + k ≡ i + suc k = omega arith in rw e)

passing-more : (p : ℕ → Bool) (m : ℕ) → passing p (m + 1) ≡ passing p m ++ choose (p m) (m ∷ []) []
passing-more p m =
    let e : 0 + m ≡ m = omega arith in
    ap (λ (k : ℕ). passing p k) (add-one m) ∙ ap (filter p) (range-more m 0) ∙ filter-append p (range m 0) ((0 + m) ∷ [])
    ∙ ap (λ (k : ℕ). passing p m ++ filter p (k ∷ [])) e ∙ unfold filter in refl

pub first-start : (waits order : List ℕ) → length order ≡ max_jobs → First waits 0 0 order
unfolding filter range
first-start waits order e = record { size = e; count-is = refl; jobs-are = refl }

module _ (waits : List ℕ) (m c : ℕ) (order : List ℕ) (w : First waits m c order) where
  pub first_count : c ≤ m
  unfolding count
  first_count = omega (arith, w.count-is, count_most (λ k. eqb (at waits k) 0) m)

  -- one more
  pub first-yes : m < max_jobs → at waits m ≡ 0 → First waits (m + 1) (c + 1) (set order c m)
  first-yes h e = record {
    size = length-set order c m ∙ w.size;
    count-is = omega (arith, w.count-is, ap length more, length-append (first_jobs waits m) (m ∷ []));
    jobs-are =
        ap (λ (k : ℕ). take k (set order c m)) (add-one c) ∙ take-suc-set order c m (omega (arith, first_count, w.size))
        ∙ ap (λ (l : List ℕ). l ++ m ∷ []) w.jobs-are ∙ sym more;
  }
    where
      more : first_jobs waits (m + 1) ≡ first_jobs waits m ++ m ∷ []
      more = passing-more (λ k. eqb (at waits k) 0) m
          ∙ ap (λ (l : List ℕ). first_jobs waits m ++ l) (choose_yes (eqb (at waits m) 0) (m ∷ []) [] ((T-eqb (at waits m) 0).1 e))

  -- none more
  pub first-no : (at waits m ≡ 0 → ⊥) → First waits (m + 1) c order
  first-no e = record { size = w.size; count-is = w.count-is ∙ ap length (sym same-jobs); jobs-are = w.jobs-are ∙ sym same-jobs }
    where
      same-jobs : first_jobs waits (m + 1) ≡ first_jobs waits m
      same-jobs = passing-more (λ k. eqb (at waits k) 0) m
          ∙ ap (λ (l : List ℕ). first_jobs waits m ++ l) (choose_no (eqb (at waits m) 0) (m ∷ []) [] (λ t. e ((T-eqb (at waits m) 0).0 t)))
          ∙ append-nil (first_jobs waits m)
