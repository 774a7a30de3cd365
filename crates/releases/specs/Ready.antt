-- Takers that are peeled one after the other: what each turn needs and keeps, and what they all do to the arrays. Assumes nothing.
use Rattle.std.specs.Prelude.{◌≡◌, refl, ◌≢◌, ◌↔◌, Bool, ℕ, ◌+◌, ◌-◌, ◌≤◌, ◌<◌, ltb, eqb, length, set, take}
use Rattle.std.proofs.Math.Path.{sym, ap}
use Rattle.std.proofs.Common.{ap₂, ◌∙◌, add-one, eq-eqb, ne_eqb, take-suc-set}
use mathlib.Core.List.Memᴰ
use mathlib.Core.List.{List, [], ◌∷◌, ◌++◌, append_assoc, append-nil, Memᴰ}
use Rattle.std.proofs.Math.Decide.{ℕ_discrete}
use native.Mathlib.Omega.{arith}
use Rattle.std.proofs.Math.Dec.{T}
use Rattle.std.proofs.Math.ListN.{length-set}
use Rattle.std.proofs.Math.Seq.{get_or-set_same, get_or-set_other}
use Rattle.rules.specs.Sizes.{max_jobs}
use Rattle.rules.specs.Basics.{choose, at, filter, count, Distinct}
use Rattle.laws.specs.Tests.{T-ltb, T-eqb, choose_yes, choose_no}
use Rattle.laws.specs.Lists.{filter_same}
use Rattle.laws.specs.Counting.{count-le}
use Rattle.releases.specs.Codes.{raised}
use Rattle.releases.specs.Peels.{each, Peel, peel_need, peel_all}
use Rattle.releases.specs.Arrays.{distinct-front, count-one, count-zero}

-- the job has givers that are not peeled
unfoldable pub waitingb : List ℕ → ℕ → Bool
waitingb waits k = ltb 0 (at waits k)

pub waiting-is : (waits : List ℕ) (k : ℕ) → T (waitingb waits k) ↔ (0 < at waits k)
unfolding waitingb
waiting-is waits k = T-ltb 0 (at waits k)

-- the sizes of the arrays
pub record Sized (s : Peel) : Type 0 where
  pub release-size : length s.release ≡ max_jobs
  pub waits-size : length s.waits ≡ max_jobs
  pub order-size : length s.order ≡ max_jobs

-- the takers xs can be peeled: each waits, none stands twice, and the order has room for all jobs that wait
pub record Ready (n : ℕ) (xs : List ℕ) (s : Peel) : Type 0 where
  pub sized : Sized s
  pub jobs-few : n ≤ max_jobs
  pub in-jobs : (k : ℕ) → Memᴰ k xs → k < n
  pub waiting : (k : ℕ) → Memᴰ k xs → 0 < at s.waits k
  pub once : Distinct xs
  pub room : s.count + count (waitingb s.waits) n ≤ n

-- ---- one taker

-- it was the last giver of k, or not
pub peel-last : (slot k : ℕ) (s : Peel) → at s.waits k - 1 ≡ 0
    → ((peel_need slot k s).order ≡ set s.order s.count k) × ((peel_need slot k s).count ≡ s.count + 1)
unfolding peel_need choose
peel-last slot k s e = rw (eq-eqb (at s.waits k - 1) 0 e) (refl, refl)

pub peel-waits : (slot k : ℕ) (s : Peel) → (at s.waits k - 1 ≡ 0 → ⊥)
    → ((peel_need slot k s).order ≡ s.order) × ((peel_need slot k s).count ≡ s.count)
unfolding peel_need choose
peel-waits slot k s e = rw (ne_eqb (at s.waits k - 1) 0 e) (refl, refl)

peel-sized : (slot k : ℕ) (s : Peel) → Sized s → Sized (peel_need slot k s)
peel-sized slot k s z = record {
  release-size = unfold peel_need in length-set s.release k _ ∙ z.release-size;
  waits-size = unfold peel_need in length-set s.waits k _ ∙ z.waits-size;
  order-size = go (ℕ_discrete (at s.waits k - 1) 0);
}
  where
    go : Dec (at s.waits k - 1 ≡ 0) → length (peel_need slot k s).order ≡ max_jobs
    go (yes e) = ap length (peel-last slot k s e).0 ∙ length-set s.order s.count k ∙ z.order-size
    go (no e) = ap length (peel-waits slot k s e).0 ∙ z.order-size

module _ (n slot k : ℕ) (ks : List ℕ) (s : Peel) (w : Ready n (k ∷ ks) s) where
  here : Memᴰ k (k ∷ ks)
  here = Memᴰ.head refl

  after : Peel
  after = peel_need slot k s

  k-in : k < n
  k-in = w.in-jobs k here

  at-k : at after.waits k ≡ at s.waits k - 1
  unfolding after peel_need
  at-k = get_or-set_same s.waits k (at s.waits k - 1) 0 (omega (arith, w.sized.waits-size, w.jobs-few, k-in))

  at_other : (j : ℕ) → j ≢ k → at after.waits j ≡ at s.waits j
  unfolding after peel_need
  at_other j e = get_or-set_other s.waits k j (at s.waits k - 1) 0 e

  -- there is room in the order
  pub ready-count : s.count < n
  ready-count = omega (arith, w.room, some)
    where
      some : 0 < count (waitingb s.waits) n
      some = go (ℕ_discrete (count (waitingb s.waits) n) 0)
        where
          go : Dec (count (waitingb s.waits) n ≡ 0) → 0 < count (waitingb s.waits) n
          go (yes e) = absurd (count-zero (waitingb s.waits) n k e k-in ((waiting-is s.waits k).1 (w.waiting k here)))
          go (no e) = omega arith

  room_after : after.count + count (waitingb after.waits) n ≤ n
  room_after = go (ℕ_discrete (at s.waits k - 1) 0)
    where
      same : (j : ℕ) → j ≢ k → waitingb after.waits j ≡ waitingb s.waits j
      same j e = unfold waitingb in ap (ltb 0) (at_other j e)

      go : Dec (at s.waits k - 1 ≡ 0) → after.count + count (waitingb after.waits) n ≤ n
      go (yes e) = unfold after in omega (
        arith,
        w.room,
        (peel-last slot k s e).1,
        count-one (waitingb after.waits) (waitingb s.waits) n k k-in (λ t. omega (arith, (waiting-is after.waits k).0 t, at-k))
            ((waiting-is s.waits k).1 (w.waiting k here)) (λ i _. same i),
      )
      go (no e) = unfold after in omega (
        arith,
        w.room,
        (peel-waits slot k s e).1,
        count-le (waitingb after.waits) (waitingb s.waits) n (λ i _ t. fewer i t (ℕ_discrete i k)),
      )
        where
          fewer : (i : ℕ) → T (waitingb after.waits i) → Dec (i ≡ k) → T (waitingb s.waits i)
          fewer i t (yes p) = rw p ((waiting-is s.waits k).1 (w.waiting k here))
          fewer i t (no p) = rw (same i p) at t

  -- the takers behind it
  pub ready-turn : Ready n ks (peel_need slot k s)
  unfolding after
  ready-turn = record {
    sized = peel-sized slot k s w.sized;
    jobs-few = w.jobs-few;
    in-jobs = λ j m. w.in-jobs j (Memᴰ.tail m);
    waiting = λ j m. omega (arith, w.waiting j (Memᴰ.tail m), at_other j (λ e. w.once.0 (rw e at m)));
    once = w.once.1;
    room = room_after;
  }

-- ---- several takers

pub peel-append : (slot : ℕ) (xs ys : List ℕ) (s : Peel) → peel_all slot (xs ++ ys) s ≡ peel_all slot ys (peel_all slot xs s)
unfolding peel_all
peel-append slot [] ys s = refl
peel-append slot (x ∷ xs) ys s = peel-append slot xs ys (peel_need slot x s)

-- the first of them, and those behind
pub ready-front : (n : ℕ) (xs ys : List ℕ) (s : Peel) → Ready n (xs ++ ys) s → Ready n xs s
ready-front n xs ys s w = record {
  sized = w.sized;
  jobs-few = w.jobs-few;
  in-jobs = λ k m. w.in-jobs k (Memᴰ.append_left ys m);
  waiting = λ k m. w.waiting k (Memᴰ.append_left ys m);
  once = distinct-front xs ys w.once;
  room = w.room;
}

pub ready-behind : (n slot : ℕ) (xs ys : List ℕ) (s : Peel) → Ready n (xs ++ ys) s → Ready n ys (peel_all slot xs s)
unfolding peel_all
ready-behind n slot [] ys s w = w
ready-behind n slot (x ∷ xs) ys s w = ready-behind n slot xs ys (peel_need slot x s) (ready-turn n slot x (xs ++ ys) s w)

-- ---- what they do

pub release-after : (slot : ℕ) (xs : List ℕ) (s : Peel) → (peel_all slot xs s).release ≡ each (λ c. raised c slot) xs s.release
unfolding peel_all each peel_need
release-after slot [] s = refl
release-after slot (x ∷ xs) s = release-after slot xs (peel_need slot x s)

pub waits-after : (slot : ℕ) (xs : List ℕ) (s : Peel) → (peel_all slot xs s).waits ≡ each (λ c. c - 1) xs s.waits
unfolding peel_all each peel_need
waits-after slot [] s = refl
waits-after slot (x ∷ xs) s = waits-after slot xs (peel_need slot x s)

-- those of them whose last giver is peeled enter the order
abbrev pub entering : List ℕ → List ℕ → List ℕ
entering waits xs = filter (λ k. eqb (at waits k) 1) xs

order-turn : (n slot k : ℕ) (ks : List ℕ) (s : Peel) → Ready n (k ∷ ks) s
    → take (peel_need slot k s).count (peel_need slot k s).order ++ entering (peel_need slot k s).waits ks
    ≡ take s.count s.order ++ entering s.waits (k ∷ ks)
unfolding filter after
order-turn n slot k ks s w =
    ap (λ (r : List ℕ). take (peel_need slot k s).count (peel_need slot k s).order ++ r) same ∙ go (ℕ_discrete (at s.waits k - 1) 0)
  where
    rest : List ℕ
    rest = entering s.waits ks

    same : entering (peel_need slot k s).waits ks ≡ rest
    same = filter_same _ _ ks (λ j m. ap (λ (x : ℕ). eqb x 1) (at_other n slot k ks s w j (λ e. w.once.0 (rw e at m))))

    go : Dec (at s.waits k - 1 ≡ 0)
        → take (peel_need slot k s).count (peel_need slot k s).order ++ rest ≡ take s.count s.order ++ choose (eqb (at s.waits k) 1) (k ∷ rest) rest
    go (yes e) =
        let v = w.waiting k (Memᴰ.head refl) in
        let p = peel-last slot k s e in
        ap₂ (λ (c : ℕ) (l : List ℕ). take c l ++ rest) (p.1 ∙ add-one s.count) p.0
        ∙ ap (λ (l : List ℕ). l ++ rest) (take-suc-set s.order s.count k (omega (arith, w.sized.order-size, w.jobs-few, ready-count n slot k ks s w)))
        ∙ append_assoc (take s.count s.order) (k ∷ []) rest
        ∙ ap (λ (l : List ℕ). take s.count s.order ++ l)
        (sym (choose_yes (eqb (at s.waits k) 1) (k ∷ rest) rest ((T-eqb (at s.waits k) 1).1 (omega arith))))
    go (no e) =
        let p = peel-waits slot k s e in
        ap₂ (λ (c : ℕ) (l : List ℕ). take c l ++ rest) p.1 p.0
        ∙ ap (λ (l : List ℕ). take s.count s.order ++ l)
        (sym (choose_no (eqb (at s.waits k) 1) (k ∷ rest) rest (λ t. e (omega (arith, (T-eqb (at s.waits k) 1).0 t)))))

pub order-after : (n slot : ℕ) (xs : List ℕ) (s : Peel) → Ready n xs s
    → take (peel_all slot xs s).count (peel_all slot xs s).order ≡ take s.count s.order ++ entering s.waits xs
unfolding peel_all
order-after n slot [] s w = unfold filter in sym (append-nil (take s.count s.order))
order-after n slot (x ∷ xs) s w = order-after n slot xs (peel_need slot x s) (ready-turn n slot x xs s w) ∙ order-turn n slot x xs s w

pub count-after : (slot : ℕ) (xs : List ℕ) (s : Peel) → s.count ≤ (peel_all slot xs s).count
unfolding peel_all
count-after slot [] s = omega arith
count-after slot (x ∷ xs) s = let rest = count-after slot xs (peel_need slot x s) in go (ℕ_discrete (at s.waits x - 1) 0) rest
  where
    go : Dec (at s.waits x - 1 ≡ 0) → (peel_need slot x s).count ≤ (peel_all slot xs (peel_need slot x s)).count
        → s.count ≤ (peel_all slot xs (peel_need slot x s)).count
    go (yes e) h = omega (arith, (peel-last slot x s e).1)
    go (no e) h = omega (arith, (peel-waits slot x s e).1)
