-- The invariant of peeling, and one job more. Assumes nothing.
use Rattle.std.specs.Prelude.{◌≡◌, refl, ◌≢◌, ◌⊎◌, ◌↔◌, Bool, not, ◌&&◌, ℕ, suc, ◌+◌, ◌-◌, ◌*◌, ◌≤◌, ◌<◌, T, length, take}
use Rattle.std.proofs.Common.{sym, ◌∙◌, inl, inr, take-suc, take-take, take_at, get_or-take}
use Rattle.std.proofs.Math.Path.{ap}
use Rattle.std.proofs.Math.Logic.{⊎_elim}
use mathlib.Core.List.Memᴰ
use mathlib.Core.List.{List, [], ◌∷◌, ◌++◌, append-nil, Memᴰ}
use Rattle.std.proofs.Math.Decide.{ℕ_discrete, dec_lt}
use native.Mathlib.Omega.{arith}
use Rattle.std.proofs.Math.Dec.{eqb}
use Rattle.std.proofs.Math.ListN.{length-set, length-append}
use Rattle.std.proofs.Math.Seq.{get_or-set_same, get_or-set_other, length-take-le}
use Rattle.rules.specs.Basics.{at, has, range, count, Distinct}
use Rattle.laws.specs.Tests.{tests, T-eqb, bool-ext}
use Rattle.laws.specs.Lists.{filter-mem, filter-mem⁻¹, dec_mem}
use Rattle.laws.specs.Counting.{pigeonhole, distinct_append, filter-distinct, passing, passing-in, passing-distinct, range-below, length-range}
use Rattle.needrows.specs.Rows.{takers_of}
use Rattle.needrows.specs.Takers.{takers-distinct}
use Rattle.releases.specs.Codes.{raised, behind}
use Rattle.releases.specs.Gathered.{Gathered, gathered-same, gathered-more, gathered-bound}
use Rattle.releases.specs.Peels.{Peel, released, peel_job}
use Rattle.releases.specs.Arrays.{each-other, each_at, take-mem, take-index, take_more, one_place, count-one, count_same, count-zero}
use Rattle.releases.specs.Ready.{waitingb, waiting-is, Sized, Ready, ready-behind, release-after, waits-after, entering, order-after, count-after}
use Rattle.releases.specs.Ordered.{RowsOf, Giver}

-- the jobs of the order, and those of them that were peeled
abbrev pub ordered : Peel → List ℕ
ordered s = take s.count s.order

abbrev pub peeled : ℕ → Peel → List ℕ
peeled next s = take next s.order

-- g is a giver of k, and is not among those that were peeled
unfoldable pub open_giver : List ℕ → ℕ → List ℕ → ℕ → ℕ → Bool
open_giver rows n done k g = has k (takers_of rows n g) && not (has g done)

pub open_is : (rows : List ℕ) (n : ℕ) (done : List ℕ) (k g : ℕ) → T (open_giver rows n done k g) ↔ (Memᴰ k (takers_of rows n g) × (Memᴰ g done → ⊥))
unfolding open_giver
open_is rows n done k g = (λ t. simp tests at t, λ h. simp tests h)

-- a job that waits for none has only givers that were peeled
pub all-peeled : (rows : List ℕ) (n : ℕ) (done : List ℕ) (k g : ℕ) → count (open_giver rows n done k) n ≡ 0 → Giver rows n k g → Memᴰ g done
all-peeled rows n done k g none a = go (dec_mem g done)
  where
    go : Dec (Memᴰ g done) → Memᴰ g done
    go (yes h) = h
    go (no h) = absurd (count-zero (open_giver rows n done k) n g none a.0 ((open_is rows n done k g).1 (a.1, h)))

-- the first `next` jobs of the order were peeled
pub record Peeling (rows : List ℕ) (n next : ℕ) (s : Peel) : Type 0 where
  pub sized : Sized s
  pub next_le : next ≤ s.count
  pub count-le : s.count ≤ n
  pub in-jobs : (k : ℕ) → Memᴰ k (ordered s) → k < n
  pub once : Distinct (ordered s)
  -- each job waits for the givers that were not peeled, and is in the order where it waits for none
  pub waits-are : (k : ℕ) → k < n → at s.waits k ≡ count (open_giver rows n (peeled next s) k) n
  pub entered : (k : ℕ) → k < n → (at s.waits k ≡ 0) ↔ Memᴰ k (ordered s)
  -- a job that was not peeled has the code of its givers that were; one that was has its release
  pub code : (k : ℕ) → k < n → ¬ (Memᴰ k (peeled next s))
      → Gathered (at s.release) (at s.release k) (λ g. Memᴰ g (peeled next s) × Giver rows n k g)
  pub final : (k : ℕ) → Memᴰ k (peeled next s) → (c : ℕ) × Gathered (at s.release) c (Giver rows n k) × (at s.release k ≡ behind c)
  pub small : (g : ℕ) → Memᴰ g (peeled next s) → at s.release g + 1 ≤ 2 * next
  -- a giver stands before its takers
  pub before : (p g : ℕ) → p < s.count → Giver rows n (at s.order p) g → Memᴰ g (take p s.order)

module _ (rows : List ℕ) (n next : ℕ) (s : Peel) (rows_of_lem : RowsOf rows n) (w : Peeling rows n next s) where
  -- those that were peeled are in the order
  pub peeled-in : (k : ℕ) → Memᴰ k (peeled next s) → Memᴰ k (ordered s)
  peeled-in k m = take_more s.order next s.count k w.next_le m

  -- the givers of a job in the order were peeled
  pub givers-peeled : (k g : ℕ) → Memᴰ k (ordered s) → Giver rows n k g → Memᴰ g (peeled next s)
  givers-peeled k g m a =
      all-peeled rows n (peeled next s) k g (sym (w.waits-are k (w.in-jobs k m)) ∙ (w.entered k (w.in-jobs k m)).1 m) a

  -- the order has room for all jobs that wait
  pub has_room : s.count + count (waitingb s.waits) n ≤ n
  unfolding count
  has_room = omega (
    arith,
    length-append (ordered s) (passing (waitingb s.waits) n),
    length-take-le s.count s.order (omega (arith, w.count-le, w.sized.order-size, rows_of_lem.jobs-few)),
    length-range n 0,
    pigeonhole (ordered s ++ passing (waitingb s.waits) n) (range n 0)
        (distinct_append (ordered s) (passing (waitingb s.waits) n) w.once (passing-distinct (waitingb s.waits) n) apart)
        (λ k m. (range-below n k).1 (⊎_elim (w.in-jobs k) (λ v. ((passing-in (waitingb s.waits) n k).0 v).0) (Memᴰ.append_cases (ordered s) m))),
  )
    where
      apart : (k : ℕ) → Memᴰ k (ordered s) → Memᴰ k (passing (waitingb s.waits) n) → ⊥
      apart k m v =
          let h = (passing-in (waitingb s.waits) n k).0 v in
          omega (arith, (waiting-is s.waits k).0 h.1, (w.entered k h.0).1 m)

-- ---- one job more

module _ (rows : List ℕ) (n next : ℕ) (s : Peel) (rows_of_lem : RowsOf rows n) (w : Peeling rows n next s) (more : next < s.count) where
  -- the job, its slot, its takers, and the state after it
  abbrev job : ℕ
  job = at s.order next

  abbrev slot : ℕ
  slot = behind (at s.release job)

  abbrev takers : List ℕ
  takers = takers_of rows n job

  abbrev after : Peel
  after = peel_job rows n job s

  sizes : (s.count ≤ length s.order) × (next < length s.order)
  sizes = omega (arith, w.count-le, w.sized.order-size, rows_of_lem.jobs-few)

  pub job-ordered : Memᴰ (at s.order next) (ordered s)
  job-ordered = take-mem s.order s.count next more sizes.1

  pub job-in : at s.order next < n
  job-in = w.in-jobs (at s.order next) job-ordered

  -- it was not peeled before
  not-peeled : ¬ (Memᴰ job (peeled next s))
  not-peeled m =
      let (p, a, b, e) = take-index s.order next job m in
      omega (arith, one_place s.order s.count p next w.once (omega (arith, w.next_le)) more sizes.0 e)

  taker-below : (k : ℕ) → Memᴰ k takers → k < n
  taker-below k m = rows_of_lem.takers-in job k job-in m

  takers-once : Distinct takers
  takers-once = takers-distinct rows job n

  is-giver : (k : ℕ) → Memᴰ k takers → Giver rows n k job
  is-giver k m = (job-in, m)

  -- its takers are not in the order yet
  taker-outside : (k : ℕ) → Memᴰ k takers → Memᴰ k (ordered s) → ⊥
  taker-outside k m v = not-peeled (givers-peeled rows n next s rows_of_lem w k job v (is-giver k m))

  taker-waits : (k : ℕ) → Memᴰ k takers → 0 < at s.waits k
  taker-waits k m = go (ℕ_discrete (at s.waits k) 0)
    where
      go : Dec (at s.waits k ≡ 0) → 0 < at s.waits k
      go (yes e) = absurd (taker-outside k m ((w.entered k (taker-below k m)).0 e))
      go (no e) = omega arith

  -- so it is none of them
  not_own : ¬ (Memᴰ job takers)
  not_own m = taker-outside job m job-ordered

  -- they can be peeled
  pub job-ready : Ready n (takers_of rows n (at s.order next)) (released (at s.order next) s)
  unfolding released
  job-ready = record {
    sized = record {
      release-size = length-set s.release job slot ∙ w.sized.release-size;
      waits-size = w.sized.waits-size;
      order-size = w.sized.order-size;
    };
    jobs-few = rows_of_lem.jobs-few;
    in-jobs = λ k m. taker-below k m;
    waiting = λ k m. taker-waits k m;
    once = takers-once;
    room = has_room rows n next s rows_of_lem w;
  }

  -- the job's code is of all its givers, and small
  job-code : Gathered (at s.release) (at s.release job) (Giver rows n job)
  job-code = gathered-same (at s.release) (at s.release) (at s.release job) _ (Giver rows n job)
      (λ g. (λ h. h.1, λ h. (givers-peeled rows n next s rows_of_lem w job g job-ordered h, h))) (λ g h. refl) (w.code job job-in not-peeled)

  pub slot_small : behind (at s.release (at s.order next)) + 1 ≤ 2 * suc next
  unfolding behind
  slot_small = omega (
    arith,
    gathered-bound (at s.release) (at s.release job) (Giver rows n job) (2 * next) job-code
        (λ g a. w.small g (givers-peeled rows n next s rows_of_lem w job g job-ordered a)),
  )

  -- ---- the arrays after it

  -- a job that is neither the job nor one of its takers has its entry, the job its release, a taker a raised code
  release_other : (k : ℕ) → k ≢ job → ¬ (Memᴰ k takers) → at after.release k ≡ at s.release k
  unfolding peel_job released
  release_other k a b =
      ap (λ (l : List ℕ). at l k) (release-after (slot + 1) takers (released job s))
      ∙ each-other (λ c. raised c (slot + 1)) takers (released job s).release k b ∙ get_or-set_other s.release job k slot 0 a

  release-job : at after.release job ≡ slot
  unfolding peel_job released
  release-job =
      ap (λ (l : List ℕ). at l job) (release-after (slot + 1) takers (released job s))
      ∙ each-other (λ c. raised c (slot + 1)) takers (released job s).release job not_own
      ∙ get_or-set_same s.release job slot 0 (omega (arith, w.sized.release-size, rows_of_lem.jobs-few, job-in))

  release-taker : (k : ℕ) → Memᴰ k takers → at after.release k ≡ raised (at s.release k) (slot + 1)
  unfolding peel_job released
  release-taker k m =
      ap (λ (l : List ℕ). at l k) (release-after (slot + 1) takers (released job s))
      ∙ each_at (λ c. raised c (slot + 1)) takers (released job s).release takers-once
      (λ x v. omega (arith, taker-below x v, rows_of_lem.jobs-few, w.sized.release-size, length-set s.release job slot)) k m
      ∙ ap (λ (c : ℕ). raised c (slot + 1)) (get_or-set_other s.release job k slot 0 (λ e. not_own (rw e at m)))

  waits-other : (k : ℕ) → ¬ (Memᴰ k takers) → at after.waits k ≡ at s.waits k
  unfolding peel_job released
  waits-other k b = ap (λ (l : List ℕ). at l k) (waits-after (slot + 1) takers (released job s)) ∙ each-other (λ c. c - 1) takers s.waits k b

  waits-taker : (k : ℕ) → Memᴰ k takers → at after.waits k ≡ at s.waits k - 1
  unfolding peel_job released
  waits-taker k m =
      ap (λ (l : List ℕ). at l k) (waits-after (slot + 1) takers (released job s))
      ∙ each_at (λ c. c - 1) takers s.waits takers-once (λ x v. omega (arith, taker-below x v, rows_of_lem.jobs-few, w.sized.waits-size)) k m

  -- ---- the order after it

  ready-end : Ready n [] after
  unfolding peel_job
  ready-end = ready-behind n (slot + 1) takers [] (released job s) (rw (append-nil takers) job-ready)

  new : List ℕ
  new = entering s.waits takers

  in-new : (k : ℕ) → Memᴰ k new ↔ (Memᴰ k takers × (at s.waits k ≡ 1))
  unfolding new
  in-new k = (
    λ m. let h = filter-mem⁻¹ (λ j. eqb (at s.waits j) 1) takers k m in (h.0, (T-eqb (at s.waits k) 1).0 h.1),
    λ h. filter-mem (λ j. eqb (at s.waits j) 1) takers k h.0 ((T-eqb (at s.waits k) 1).1 h.1),
  )

  order-all : ordered after ≡ ordered s ++ new
  unfolding peel_job released new
  order-all = order-after n (slot + 1) takers (released job s) job-ready

  count-more : s.count ≤ after.count
  unfolding peel_job released
  count-more = count-after (slot + 1) takers (released job s)

  order-front : take s.count after.order ≡ ordered s
  order-front =
      sym (take-take s.count after.count after.order count-more) ∙ ap (take s.count) order-all
      ∙ take_at (ordered s) new s.count (length-take-le s.count s.order sizes.0)

  order_below : (p : ℕ) → p ≤ s.count → take p after.order ≡ take p s.order
  order_below p h = sym (take-take p s.count after.order h) ∙ ap (take p) order-front ∙ take-take p s.count s.order h

  order-at : (p : ℕ) → p < s.count → at after.order p ≡ at s.order p
  order-at p h = sym (get_or-take s.count after.order p 0 h) ∙ ap (λ (l : List ℕ). at l p) order-front ∙ get_or-take s.count s.order p 0 h

  -- the job was peeled too
  abbrev done : List ℕ
  done = peeled next s

  abbrev done-after : List ℕ
  done-after = peeled (suc next) after

  in-done : (k : ℕ) → Memᴰ k done-after ↔ (Memᴰ k done ⊎ (k ≡ job))
  in-done k = rw (order_below (suc next) (omega arith) ∙ take-suc s.order next 0 sizes.1) (
    λ m. ⊎_elim inl (λ v. ⊎_elim inr (λ z. absurd (Memᴰ.not-nil z)) (Memᴰ.cases_cons v)) (Memᴰ.append_cases done m),
    ⊎_elim (λ m. Memᴰ.append_left (job ∷ []) m) (λ e. Memᴰ.append_right done (Memᴰ.head e)),
  )

  -- what was peeled keeps its release
  kept : (g : ℕ) → Memᴰ g done → at s.release g ≡ at after.release g
  kept g m = sym (release_other g (λ e. not-peeled (rw e at m)) (λ v. taker-outside g v (peeled-in rows n next s rows_of_lem w g m)))

  -- ---- the invariant after it

  open-same : (k g : ℕ) → (g ≡ job → Memᴰ k (takers_of rows n g) → ⊥) → open_giver rows n done-after k g ≡ open_giver rows n done k g
  open-same k g other = bool-ext (open_giver rows n done-after k g) (open_giver rows n done k g)
      (λ t. let h = (open_is rows n done-after k g).0 t in (open_is rows n done k g).1 (h.0, λ m. h.1 ((in-done g).1 (inl m))))
      (λ t. let h = (open_is rows n done k g).0 t in
      (open_is rows n done-after k g).1 (h.0, λ m. ⊎_elim h.1 (λ e. other e h.0) ((in-done g).0 m)))

  waits-step : (k : ℕ) → k < n → at after.waits k ≡ count (open_giver rows n done-after k) n
  waits-step k h = go (dec_mem k takers)
    where
      go : Dec (Memᴰ k takers) → at after.waits k ≡ count (open_giver rows n done-after k) n
      go (yes m) = omega (
        arith,
        waits-taker k m,
        w.waits-are k h,
        count-one (open_giver rows n done-after k) (open_giver rows n done k) n job job-in
            (λ t. ((open_is rows n done-after k job).0 t).1 ((in-done job).1 (inr refl)))
            ((open_is rows n done k job).1 (m, not-peeled)) (λ g _ e. open-same k g (λ q. absurd (e q))),
      )
      go (no m) = waits-other k m ∙ w.waits-are k h ∙ sym (count_same (open_giver rows n done-after k) (open_giver rows n done k) n
          (λ g _. open-same k g (λ e v. m (rw e at v))))

  entered-step : (k : ℕ) → k < n → (at after.waits k ≡ 0) ↔ Memᴰ k (ordered after)
  entered-step k h = rw order-all (go (dec_mem k takers))
    where
      go : Dec (Memᴰ k takers) → (at after.waits k ≡ 0) ↔ Memᴰ k (ordered s ++ new)
      go (yes m) = (
        λ e. Memᴰ.append_right (ordered s) ((in-new k).1 (m, omega (arith, waits-taker k m, taker-waits k m))),
        λ v. ⊎_elim (λ u. absurd (taker-outside k m u)) (λ u. omega (arith, ((in-new k).0 u).1, waits-taker k m)) (Memᴰ.append_cases (ordered s) v),
      )
      go (no m) = (
        λ e. Memᴰ.append_left new ((w.entered k h).0 (sym (waits-other k m) ∙ e)),
        λ v. waits-other k m ∙ ⊎_elim (w.entered k h).1 (λ u. absurd (m ((in-new k).0 u).0)) (Memᴰ.append_cases (ordered s) v),
      )

  code_step : (k : ℕ) → k < n → ¬ (Memᴰ k done-after)
      → Gathered (at after.release) (at after.release k) (λ g. Memᴰ g done-after × Giver rows n k g)
  code_step k h fresh = go (dec_mem k takers)
    where
      known : ℕ → Type 0
      known g = Memᴰ g done × Giver rows n k g

      old : Gathered (at s.release) (at s.release k) known
      old = w.code k h (λ m. fresh ((in-done k).1 (inl m)))

      go : Dec (Memᴰ k takers) → Gathered (at after.release) (at after.release k) (λ g. Memᴰ g done-after × Giver rows n k g)
      go (yes m) =
          let e : at after.release k ≡ raised (at s.release k) (at after.release job + 1) =
          release-taker k m ∙ ap (λ (l : ℕ). raised (at s.release k) (l + 1)) (sym release-job) in
          rw e (gathered-same (at after.release) (at after.release) (raised (at s.release k) (at after.release job + 1))
          (λ g. known g ⊎ (g ≡ job)) _
          (λ g. (
            ⊎_elim (λ u. ((in-done g).1 (inl u.0), u.1)) (λ q. ((in-done g).1 (inr q), rw q (is-giver k m))),
            λ u. ⊎_elim (λ v. inl (v, u.1)) inr ((in-done g).0 u.0),
          ))
          (λ g u. refl)
          (gathered-more (at after.release) (at s.release k) known job (λ u. not-peeled u.0)
          (gathered-same (at s.release) (at after.release) (at s.release k) known known (λ g. (λ u. u, λ u. u)) (λ g u. kept g u.0) old)))
      go (no m) =
          rw (release_other k (λ e. fresh ((in-done k).1 (inr e))) m) (gathered-same (at s.release) (at after.release) (at s.release k) known _
          (λ g. (λ u. ((in-done g).1 (inl u.0), u.1), λ u. (⊎_elim (λ v. v) (λ q. absurd (m (rw q at u.1.1))) ((in-done g).0 u.0), u.1)))
          (λ g u. kept g u.0) old)

  final-step : (k : ℕ) → Memᴰ k done-after → (c : ℕ) × Gathered (at after.release) c (Giver rows n k) × (at after.release k ≡ behind c)
  final-step k m = ⊎_elim before-it itself ((in-done k).0 m)
    where
      before-it : Memᴰ k done → (c : ℕ) × Gathered (at after.release) c (Giver rows n k) × (at after.release k ≡ behind c)
      before-it v =
          let (c, g, e) = w.final k v in (
            c,
            gathered-same (at s.release) (at after.release) c (Giver rows n k) (Giver rows n k) (λ g. (λ u. u, λ u. u))
                (λ g a. kept g (givers-peeled rows n next s rows_of_lem w k g (peeled-in rows n next s rows_of_lem w k v) a)) g,
            sym (kept k v) ∙ e,
          )

      itself : k ≡ job → (c : ℕ) × Gathered (at after.release) c (Giver rows n k) × (at after.release k ≡ behind c)
      itself e = rw e (
        at s.release job,
        gathered-same (at s.release) (at after.release) (at s.release job) (Giver rows n job) (Giver rows n job)
            (λ g. (λ u. u, λ u. u)) (λ g a. kept g (givers-peeled rows n next s rows_of_lem w job g job-ordered a)) job-code,
        release-job,
      )

  pub peeling-step : Peeling rows n (suc next) (peel_job rows n (at s.order next) s)
  peeling-step = record {
    sized = ready-end.sized;
    next_le = omega (arith, count-more);
    count-le = omega (arith, ready-end.room);
    in-jobs = λ k m. ⊎_elim (w.in-jobs k) (λ v. taker-below k ((in-new k).0 v).0) (Memᴰ.append_cases (ordered s) (rw order-all at m));
    once = rw order-all (distinct_append (ordered s) new w.once (unfold new in filter-distinct (λ k. eqb (at s.waits k) 1) takers takers-once)
        (λ k m v. taker-outside k ((in-new k).0 v).0 m));
    waits-are = waits-step;
    entered = entered-step;
    code = code_step;
    final = final-step;
    small = λ g m.
        ⊎_elim (λ v. omega (arith, kept g v, w.small g v)) (λ e. omega (arith, ap (at after.release) e, release-job, slot_small)) ((in-done g).0 m);
    before = λ p g h a. place p g h a (dec_lt p s.count);
  }
    where
      place : (p g : ℕ) → p < after.count → Giver rows n (at after.order p) g → Dec (p < s.count) → Memᴰ g (take p after.order)
      place p g h a (yes l) = rw (order_below p (omega arith)) (w.before p g l (rw (order-at p l) at a))
      place p g h a (no l) =
          let k = at after.order p in
          let m = take-mem after.order after.count p h (omega (arith, ready-end.room, ready-end.sized.order-size, rows_of_lem.jobs-few)) in
          let below = rows_of_lem.takers-in g k a.0 a.1 in
          take_more after.order (suc next) p g (omega arith) (all-peeled rows n done-after k g (sym (waits-step k below) ∙ (entered-step k below).1 m) a)
