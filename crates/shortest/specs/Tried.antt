-- The sets that a slot of the search over places tries: read as jobs they are the maximal sets, in the order of preference, for every cap.
-- Assumes nothing.
use Rattle.std.specs.Prelude.{◌≡◌, refl, ◌⊎◌, ◌↔◌, true, ℕ, zero, suc, ◌+◌, ◌-◌, ◌^◌, ◌≤◌, ◌<◌, leb}
use Rattle.std.proofs.Math.Path.{sym, ap}
use Rattle.std.proofs.Common.{◌∙◌}
use Rattle.std.proofs.Math.Logic.{inl, inr, ⊎_elim}
use mathlib.Core.List.{List, ◌∷◌, map, Memᴰ}
use native.Mathlib.Omega.{arith}
use Rattle.std.proofs.Math.Decide.{dec_lt}
use Rattle.std.proofs.Math.ListN.{length}
use Rattle.rules.specs.Basics.{at, has, filter, Distinct}
use Rattle.rules.specs.Needs.{Gives}
use Rattle.laws.specs.Tests.{T-has, T_true, by-choice}
use Rattle.laws.specs.Lists.{map-mem, map-mem⁻¹, nth-mem, filter-mem, filter-mem⁻¹}
use Rattle.laws.specs.Counting.{pigeonhole, pigeonhole-by, filter-distinct, passing-distinct}
use Rattle.jobset.specs.declared.Set.{Set}
use Rattle.jobset.specs.Sets.{member, size, members}
use Rattle.jobset.specs.Members.{in_members}
use Rattle.jobset.specs.Order.{HighestDifference, greater-iff}
use Rattle.jobset.specs.Tests.{present}
use Rattle.dominance.specs.Tries.{Sooner}
use Rattle.dominance.specs.States.{Instance, AtMost, Legal}
use Rattle.dominance.specs.Maximal.{Maximal, TriesMaximal}
use Rattle.dominance.specs.Exact.{Forced, Tied}
use Rattle.dominance.proofs.Exact.{legal, allow, forced-or-tied, maximal-parts, maximal-exact}
use Rattle.dominance.specs.Room.{Tying}
use Rattle.dominance.proofs.Room.{parts-fit, full-only}
use Rattle.places.specs.Seats.{Apart, OfPlaces, On, on-union, at_place, jobs_of, in-jobs, jobs-by, set_of, set-of-is}
use Rattle.places.specs.Windows.{Windows, held, held_before, apart-hold, low-held-before}
use Rattle.places.specs.Rows.{Sorted, row-distinct, row-sorted, at-sorted, Pick, in-chosen, chosen-in, chosen-distinct, bit-low, number_for, number-for-lt}
use Rattle.places.specs.Rows.{chosen-number, places_of, in-places, Loose, is_try, is-try, picks, tried_below, tried-number, number-tried, tried-ordered}
use Rattle.places.specs.Slot.{Candidates, candidates_at, near_at, able_of, row_at, in-row-at, fit_of, most_of, most-is, tries_at}
use Rattle.places.specs.Fit.{members-distinct, size_is, fit-most}
use Rattle.places.proofs.OneSet.{ties-at}
use Rattle.shortest.specs.Given.{Given, within, At, InTime}
use Rattle.shortest.specs.InSlot.{in-H, near-O, near-is, is-forced, is_tied_lem, is-tying}

-- in a sorted row a place with no higher number has no higher rank
rank-le : (who : ℕ → ℕ) (row : List ℕ) → Sorted who row → (v w : ℕ) → v < length row → who (at row v) ≤ who (at row w) → v ≤ w
rank-le who row sorted v w l h = go (dec_lt w v)
  where
    go : Dec (w < v) → v ≤ w
    go (yes q) = absurd (omega (arith, at-sorted who row sorted w v q l))
    go (no q) = omega arith

-- jobs and their places are as many
as_many : (π : ℕ → ℕ) (L ps : List ℕ) → Distinct L → Distinct ps → Apart π L
    → ((p : ℕ) → Memᴰ p ps ↔ ((i : ℕ) × Memᴰ i L × (π i ≡ p))) → length L ≡ length ps
as_many π L ps d e apart is = omega (
  arith,
  pigeonhole-by (λ (i p : ℕ). π i ≡ p) L ps d (λ i m. (π i, (is (π i)).1 (i, m, refl), refl)) (λ i j p a b u v. apart i j a b (u ∙ sym v)),
  pigeonhole-by (λ (p i : ℕ). π i ≡ p) ps L e (λ p m. (is p).0 m) (λ p q i a b u v. sym u ∙ v),
)

-- so a set of places has as many as it has jobs
size-jobs : (π : ℕ → ℕ) (H : List ℕ) → Distinct H → Apart π H → ((i : ℕ) → Memᴰ i H → π i < 64)
    → (S : Set) → OfPlaces π H S → size S ≡ length (jobs_of π H S)
unfolding jobs_of
size-jobs π H once apart low S of =
    size_is S below ∙ sym (as_many π (jobs_of π H S) (members S) (filter-distinct (λ i. member S (π i)) H once) (members-distinct S)
    (λ i j a b e. apart i j ((law i).0 a).0 ((law j).0 b).0 e) (λ p. (
      λ m. let q = ((in_members S p).0 m).1 in let w = of p q in (w.0, (law w.0).1 (w.1, ap (member S) w.2 ∙ q), w.2),
      λ w. let v = (law w.0).0 w.1 in (in_members S p).1 (rw w.2 at (low w.0 v.0), ap (member S) (sym w.2) ∙ v.1),
    )))
  where
    law : (i : ℕ) → Memᴰ i (jobs_of π H S) ↔ (Memᴰ i H × (member S (π i) ≡ true))
    law i = in-jobs π H S i

    below : (p : ℕ) → member S p ≡ true → p < 64
    below p m = let w = of p m in rw w.2 at (low w.0 w.1)

-- the jobs of the slot before a slot, each once
held-before-distinct : (W : Windows) (s : ℕ) → Distinct (held_before W s)
held-before-distinct W zero = tt
held-before-distinct W (suc s) = passing-distinct _ W.n

-- what is within the cap, and fits, is no more than a slot tries
within-most : (cap : ℕ) (c : Candidates) (m : ℕ) → m ≤ cap → m ≤ fit_of c → m ≤ most_of cap c
unfolding most_of
within-most cap c m a b = by-choice (λ x. m ≤ x) (leb cap (fit_of c)) (λ t. a) (λ t. b)

module _ {G : Given} {k : ℕ} (x : At G (suc k)) (time : InTime G x.s x.t) where
  abbrev J : Instance
  J = within G

  abbrev cs : Candidates
  cs = candidates_at G.A x.s x.done x.ran

  abbrev π : ℕ → ℕ
  π = G.Z.place

  abbrev who : ℕ → ℕ
  who = G.A.who x.s

  abbrev near : ℕ → Set
  near = near_at G.A x.s x.ran

  abbrev row : List ℕ
  row = row_at G.A x.s cs

  abbrev H : List ℕ
  H = held G.W x.s

  abbrev O : List ℕ
  O = held_before G.W x.s

  apart-H : Apart π H
  apart-H = G.Z.apart x.s

  apart-O : Apart π O
  apart-O = apart-hold G.W G.Z x.s

  low : (i : ℕ) → Memᴰ i H → π i < 8
  low = G.Z.low x.s

  who-is : (i : ℕ) → Memᴰ i H → who (π i) ≡ i
  who-is i m = G.ready.shows.who-is x.s i (omega (arith, x.sum)) m

  -- a candidate of the slot: forced or tied
  abbrev Kind : ℕ → Type 0
  Kind i = Forced J x.s x.t i ⊎ Tied J x.s x.t i

  -- ---- the row

  able-is : On π H (able_of cs) Kind
  unfolding able_of
  able-is = on-union (is-forced x time) (is_tied_lem x time)

  -- each place of the row is that of a candidate
  row-job : (p : ℕ) → Memᴰ p row → (i : ℕ) × Memᴰ i H × (π i ≡ p) × Kind i
  row-job p m = at_place able-is p ((in-row-at G.A x.s cs p).0 m).1

  job-row : (i : ℕ) → Memᴰ i H → Kind i → Memᴰ (π i) row
  job-row i m o = (in-row-at G.A x.s cs (π i)).1 (omega (arith, low i m), able-is.from i m o)

  sorted : Sorted who row
  unfolding row_at
  sorted = row-sorted who (members (able_of cs)) (members-distinct (able_of cs)) (λ p q a b e.
      let u = at_place able-is p ((in_members (able_of cs) p).0 a).1 in
      let v = at_place able-is q ((in_members (able_of cs) q).0 b).1 in
      let i : u.0 ≡ v.0 = sym (who-is u.0 u.1) ∙ ap who u.2 ∙ e ∙ ap who (sym v.2) ∙ who-is v.0 v.1 in
      sym u.2 ∙ ap π i ∙ v.2)

  once : Distinct row
  unfolding row_at
  once = row-distinct who (members (able_of cs)) (members-distinct (able_of cs))

  -- ---- of two numbers the greater one is preferred

  abbrev jobs : ℕ → List ℕ
  jobs m = jobs_of π H (places_of (picks row m))

  in-number : (m i : ℕ) → Memᴰ i (jobs m) ↔ (Memᴰ i H × Pick row (record { bits = m }) (π i))
  in-number m i =
      let a = in-jobs π H (places_of (picks row m)) i in
      let b = in-places (picks row m) (π i) in
      let d = in-chosen row (record { bits = m }) (π i) in
      (λ w. ((a.0 w).0, d.0 (b.0 (a.0 w).1)), λ w. a.1 (w.0, b.1 (d.1 w.1)))

  module _ (m q : ℕ) (l : q < m) (u : m < 2 ^ length row) where
    -- the highest digit at which they differ, its rank in the row, and the job there
    abbrev d : HighestDifference (record { bits = m }) (record { bits = q })
    d = (greater-iff (record { bits = m }) (record { bits = q })).0 l

    abbrev r : ℕ
    r = length row - suc d.place

    sum_r : suc (d.place + r) ≡ length row
    sum_r = omega (arith, bit-low (record { bits = m }) (length row) d.place u d.is-in)

    abbrev i : ℕ
    i = (row-job (at row r) (nth-mem row r 0 (omega (arith, sum_r)))).0

    i-in : Memᴰ i H
    i-in = (row-job (at row r) (nth-mem row r 0 (omega (arith, sum_r)))).1

    i-place : at row r ≡ π i
    i-place = sym (row-job (at row r) (nth-mem row r 0 (omega (arith, sum_r)))).2

    -- the number of the job at a rank
    number_at : (j v : ℕ) → Memᴰ j H → at row v ≡ π j → who (at row v) ≡ j
    number_at j v w e = ap who e ∙ who-is j w

    at-r : who (at row r) ≡ i
    at-r = number_at i r i-in i-place

    -- a job before i of one is one of the other
    move : (y z j : ℕ) → j < i → ((b : ℕ) → d.place < b → member (record { bits = z }) b ≡ member (record { bits = y }) b)
        → Memᴰ j (jobs y) → Memᴰ j (jobs z)
    move y z j g f w =
        let v = (in-number y j).0 w in
        let p = v.1 in
        let at_p = number_at j p.rank v.0 p.place in
        let ne : ¬ (p.rank ≡ r) = λ e. omega (arith, ap (λ (v : ℕ). who (at row v)) e, at-r) in
        let le = rank-le who row sorted p.rank r (omega (arith, p.sum)) (omega (arith, at-r)) in
        let m = f p.bit (omega (arith, p.sum, sum_r)) ∙ p.is-in in
        (in-number z j).1 (v.0, record { rank = p.rank; bit = p.bit; sum = p.sum; place = p.place; is-in = m })

    greater-sooner : Sooner (jobs m) (jobs q)
    greater-sooner = record {
      job = i;
      has = (in-number m i).1 (i-in, record { rank = r; bit = d.place; sum = sum_r; place = i-place; is-in = d.is-in });
      lacks = λ w.
          let v = (in-number q i).0 w in
          let p = v.1 in
          let at_p = number_at i p.rank v.0 p.place in
          let a = rank-le who row sorted p.rank r (omega (arith, p.sum)) (omega (arith, at-r)) in
          let b = rank-le who row sorted r p.rank (omega (arith, sum_r)) (omega (arith, at-r)) in
          let e : p.bit ≡ d.place = omega (arith, p.sum, sum_r) in
          present (member (record { bits = q }) d.place) (ap (member (record { bits = q })) (sym e) ∙ p.is-in) d.not_in;
      lower = λ j z. (move m q j z (λ b g. sym (d.same_above b g)), move q m j z d.same_above);
    }

  -- ---- a number: its places and its jobs

  -- no two jobs of the list are takers of one job of the slot before
  abbrev GiveOne : List ℕ → Type 0
  GiveOne L = (g i j : ℕ) → Gives G.W.needs g i → Gives G.W.needs g j → Memᴰ i L → Memᴰ j L → at x.t g + 1 ≡ x.s → i ≡ j

  module _ (m : ℕ) where
    P-once : Distinct (picks row m)
    P-once = chosen-distinct row (record { bits = m }) once

    P-job : (p : ℕ) → Memᴰ p (picks row m) → (i : ℕ) × Memᴰ i H × (π i ≡ p) × Kind i
    P-job p w = row-job p (chosen-in row (record { bits = m }) p w)

    jobs-in : (i : ℕ) → Memᴰ i (jobs m) → Memᴰ i H
    jobs-in i w = ((in-number m i).0 w).0

    jobs-once : Distinct (jobs m)
    unfolding jobs_of
    jobs-once = filter-distinct _ H (passing-distinct _ G.W.n)

    jobs-are : (p : ℕ) → Memᴰ p (picks row m) ↔ ((i : ℕ) × Memᴰ i (jobs m) × (π i ≡ p))
    jobs-are p = (
      λ w. let v = P-job p w in (v.0, (in-jobs π H (places_of (picks row m)) v.0).1 (v.1, (in-places (picks row m) (π v.0)).1 (rw v.2 w)), v.2),
      λ w. let z = (in-places (picks row m) (π w.0)).0 ((in-jobs π H (places_of (picks row m)) w.0).0 w.1).1 in rw w.2 at z,
    )

    job-kind : (i : ℕ) → Memᴰ i (jobs m) → Kind i
    job-kind i w =
        let p = chosen-in row (record { bits = m }) (π i) ((jobs-are (π i)).1 (i, w, refl)) in
        able-is.to i (jobs-in i w) ((in-row-at G.A x.s cs (π i)).0 p).1

    jobs-size : length (jobs m) ≡ length (picks row m)
    jobs-size = as_many π (jobs m) (picks row m) jobs-once P-once (λ i j a b e. apart-H i j (jobs-in i a) (jobs-in j b) e) jobs-are

    loose-is : Loose near (picks row m) ↔ GiveOne (jobs m)
    loose-is = (
      λ f g i j p q a b e.
          let o = near-O x time i g p e in
          apart-H i j (jobs-in i a) (jobs-in j b) (f (π i) (π j) (π g) ((jobs-are (π i)).1 (i, a, refl)) ((jobs-are (π j)).1 (j, b, refl))
          ((near-is x time i (jobs-in i a)).from g o (p, e)) ((near-is x time j (jobs-in j b)).from g o (q, e))),
      λ f p q a mp mq u v.
          let i = (jobs-are p).0 mp in
          let j = (jobs-are q).0 mq in
          let e = at_place (near-is x time i.0 (jobs-in i.0 i.1)) a (ap (λ (y : ℕ). member (near y) a) i.2 ∙ u) in
          let b = at_place (near-is x time j.0 (jobs-in j.0 j.1)) a (ap (λ (y : ℕ). member (near y) a) j.2 ∙ v) in
          let g : b.0 ≡ e.0 = apart-O b.0 e.0 b.1 e.1 (b.2 ∙ sym e.2) in
          let z : Gives G.W.needs b.0 j.0 = b.3.0 in
          sym i.2 ∙ ap π (f e.0 i.0 j.0 e.3.0 (rw g at z) i.1 j.1 e.3.1) ∙ j.2,
    )

    -- where no two are takers of one job of the slot before, the needs let them run, and no more than fit
    number-legal : GiveOne (jobs m) → Legal J x.s x.t (jobs m)
    number-legal one = record {
      able = λ i w. ⊎_elim (λ f. f.able) (λ d. d.able) (job-kind i w);
      candidate = λ i w. ⊎_elim (λ f. f.candidate) (λ d. d.candidate) (job-kind i w);
      give-one = one;
    }

    number_fits : GiveOne (jobs m) → length (jobs m) ≤ fit_of cs
    unfolding fit_of
    number_fits one = omega (
      arith,
      jobs-size,
      fit-most cs.forced cs.tied cs.tying near
          (ties-at G.A x.s x.done x.ran (λ p z. let w = x.ran-is.bound p z in
          omega (arith, low-held-before G.W G.Z x.s w.0 w.1, w.2)))
          (picks row m) P-once
          (λ p w. let v = P-job p w in ⊎_elim
          (λ f. inl (ap (member cs.forced) (sym v.2) ∙ (is-forced x time).from v.0 v.1 f))
          (λ d. inr (ap (member cs.tied) (sym v.2) ∙ (is_tied_lem x time).from v.0 v.1 d)) v.3)
          (loose-is.1 one),
    )

  -- ---- a set that the needs let run has a number

  module _ (L : List ℕ) (ok : Legal J x.s x.t L) where
    L-in : (i : ℕ) → Memᴰ i L → Memᴰ i H
    L-in i m = in-H x time i (ok.candidate i m)

    X : Set
    X = set_of π H L

    number : ℕ
    number = (number_for (member X) row).bits

    number_lt : number < 2 ^ length row
    unfolding number
    number_lt = number-for-lt (member X) row

    in-picks : (p : ℕ) → Memᴰ p (picks row number) ↔ (Memᴰ p row × (member X p ≡ true))
    unfolding number
    in-picks p = rw (chosen-number (member X) row) (
      λ m. let w = filter-mem⁻¹ (member X) row p m in (w.0, (T_true (member X p)).0 w.1),
      λ w. filter-mem (member X) row p w.0 ((T_true (member X p)).1 w.1),
    )

    X-is : On π H X (λ i. Memᴰ i L)
    unfolding X
    X-is = set-of-is π H L apart-H

    number-jobs : (i : ℕ) → Memᴰ i L ↔ Memᴰ i (jobs number)
    number-jobs i = let a = in-jobs π H (places_of (picks row number)) i in let b = in-places (picks row number) (π i) in (
      λ m. let o = forced-or-tied J x.s x.t i (ok.candidate i m) (ok.able i m) in
          a.1 (L-in i m, b.1 ((in-picks (π i)).1 (job-row i (L-in i m) o, X-is.from i (L-in i m) m))),
      λ m. let w = a.0 m in X-is.to i w.0 ((in-picks (π i)).0 (b.0 w.1)).1,
    )

    number-one : GiveOne (jobs number)
    number-one g i j p q a b e = ok.give-one g i j p q ((number-jobs i).1 a) ((number-jobs j).1 b) e

    -- it has no more jobs than fit
    legal-fits : AtMost (fit_of cs) L
    legal-fits R d wi = omega (arith, pigeonhole R (jobs number) d (λ i m. (number-jobs i).0 (wi i m)), number_fits number number-one)

  -- ---- the jobs that are forced, and those that tie

  abbrev F : List ℕ
  F = jobs_of π H cs.forced

  abbrev D : List ℕ
  D = jobs_of π O cs.tying

  F-is : (i : ℕ) → Memᴰ i F ↔ Forced J x.s x.t i
  F-is i = let w = jobs-by (is-forced x time) i in (λ m. (w.0 m).1, λ f. w.1 (in-H x time i f.candidate, f))

  D-is : (g : ℕ) → Memᴰ g D ↔ Tying J x.s x.t g
  D-is g = let w = jobs-by (is-tying x time) g in (λ m. (w.0 m).1, λ y. w.1 (near-O x time y.taker.0 g y.taker.1 y.before, y))

  F-once : Distinct F
  unfolding jobs_of
  F-once = filter-distinct _ H (passing-distinct _ G.W.n)

  D-once : Distinct D
  unfolding jobs_of
  D-once = filter-distinct _ O (held-before-distinct G.W x.s)

  fit_is : fit_of cs ≡ length F + length D
  unfolding fit_of
  fit_is = omega (
    arith,
    size-jobs π H (passing-distinct _ G.W.n) apart-H (λ i m. omega (arith, low i m)) cs.forced (is-forced x time).bound,
    size-jobs π O (held-before-distinct G.W x.s) apart-O (λ i m. omega (arith, low-held-before G.W G.Z x.s i m)) cs.tying
        (is-tying x time).bound,
  )

  -- ---- a maximal set has the cap, or all that fits

  module _ (L : List ℕ) (mx : Maximal J x.s x.t L) where
    abbrev ok : Legal J x.s x.t L
    ok = legal J x.s x.t L mx.allowed

    -- its jobs, rising
    abbrev R : List ℕ
    R = jobs (number L ok)

    R-once : Distinct R
    R-once = jobs-once (number L ok)

    R-is : (i : ℕ) → Memᴰ i R ↔ Memᴰ i L
    R-is i = let w = number-jobs L ok i in (w.1, w.0)

    -- where the slot takes all that fits, all that is forced is there, and one for each job that ties
    all_fit : fit_of cs ≤ G.cap → fit_of cs ≤ length R
    all_fit h = omega (
      arith,
      fit_is,
      parts-fit J x.s x.t F D F-is D-is F-once D-once R
          (λ i f. (R-is i).1 ((maximal-parts J x.s x.t room L mx B B-is i).1 (inl f)))
          (λ g y. let w = (maximal-exact J x.s x.t room L mx B B-is).served g y.taker.0 y.taker.1 y.taker.2 y.before in
          let b = (B-is w.0).0 w.2 in (w.0, w.1, b.1, (R-is w.0).1 b.0)),
    )
      where
        room : (S : List ℕ) → Legal J x.s x.t S → AtMost G.cap S
        room S ok Q d wi = omega (arith, legal-fits S ok Q d wi)

        B : List ℕ
        B = filter (λ y. has y L) (jobs_of π H cs.tied)

        B-is : (y : ℕ) → Memᴰ y B ↔ (Memᴰ y L × Tied J x.s x.t y)
        B-is y = let a = jobs-by (is_tied_lem x time) y in (
          λ m. let w = filter-mem⁻¹ (λ y. has y L) (jobs_of π H cs.tied) y m in ((T-has y L).0 w.1, (a.0 w.0).1),
          λ p. filter-mem (λ y. has y L) (jobs_of π H cs.tied) y (a.1 (in-H x time y p.1.candidate, p.1)) ((T-has y L).1 p.0),
        )

    maximal-size : length R ≡ most_of G.cap cs
    maximal-size = (most-is G.cap cs).2 (length R) (mx.allowed.few R R-once (λ i. (R-is i).0)) (legal-fits L ok R R-once (λ i. (R-is i).0))
        (go (dec_lt G.cap (fit_of cs)))
      where
        go : Dec (G.cap < fit_of cs) → (G.cap ≤ length R) ⊎ (fit_of cs ≤ length R)
        go (yes l) = inl (omega (arith, full-only J x.s x.t F D F-is D-is F-once D-once (omega (arith, fit_is)) L mx R R-once R-is))
        go (no l) = inr (all_fit (omega arith))

  -- ---- the sets tried

  abbrev most : ℕ
  most = most_of G.cap cs

  abbrev sets : List Set
  sets = tried_below near row most (2 ^ length row)

  -- a number that is tried is maximal
  number-maximal : (m : ℕ) → is_try near most (picks row m) ≡ true → Maximal J x.s x.t (jobs m)
  number-maximal m ok = record {
    allowed = allow J x.s x.t (jobs m) (number-legal m ((loose-is m).0 tried.1))
        (λ R d wi. omega (arith, pigeonhole R (jobs m) d wi, size-m, (most-is G.cap cs).0));
    no_more = λ y out more.
        let a = more.few (y ∷ jobs m) (out, jobs-once m) (λ i w. w) in
        let b = legal-fits (y ∷ jobs m) (legal J x.s x.t (y ∷ jobs m) more) (y ∷ jobs m) (out, jobs-once m) (λ i w. w) in
        omega (arith, size-m, within-most G.cap cs (length (y ∷ jobs m)) a b);
  }
    where
      tried : (length (picks row m) ≡ most) × Loose near (picks row m)
      tried = (is-try near most (picks row m) (P-once m)).0 ok

      size-m : length (jobs m) ≡ most
      size-m = jobs-size m ∙ tried.0

  -- and each maximal set is one
  maximal-tried : (L : List ℕ) (mx : Maximal J x.s x.t L) → Memᴰ (R L mx) (map (jobs_of π H) sets)
  maximal-tried L mx = map-mem (jobs_of π H) sets (places_of (picks row m)) (number-tried near row most (2 ^ length row) m (number_lt L (ok L mx))
      ((is-try near most (picks row m) (P-once m)).1 (sym (jobs-size m) ∙ maximal-size L mx, (loose-is m).1 (number-one L (ok L mx)))))
    where
      m : ℕ
      m = number L (ok L mx)

  -- so the sets tried are just these
  pub tries-maximal : TriesMaximal (within G) x.s x.t
      (map (jobs_of G.Z.place (held G.W x.s)) (tries_at G.A G.cap x.s x.done x.ran))
  unfolding tries_at
  tries-maximal = record {
    maximal = map-mem⁻¹ (Maximal J x.s x.t) (jobs_of π H) sets (λ S w.
        let r = tried-number near row most (2 ^ length row) S w in
        rw r.set_is (number-maximal r.number r.is-allowed));
    each = λ L mx. (R L mx, maximal-tried L mx, number-jobs L (ok L mx));
    ordered = tried-ordered near row most (jobs_of π H) (2 ^ length row) (λ m q l u a b. greater-sooner m q l u);
  }
