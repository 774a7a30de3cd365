-- The subsets of a set by falling numbers: from one of them `next_below` gives the next. Assumes nothing.
use Rattle.std.specs.Prelude.{◌≡◌, refl, false, ℕ, zero, suc, ◌-◌, ◌/◌, ◌%◌, ◌<◌, ◌≤◌}
use Rattle.std.proofs.Common.{arith, eqb-true, ne_eqb}
use Rattle.std.proofs.Math.Arith.{bin_ind}
use Rattle.std.specs.Int.Bits.{bit_and, and_step}
use Rattle.std.proofs.lemmas.Nat.{and_le_l}
use Rattle.jobset.specs.declared.Set.{Set}
use Rattle.jobset.specs.Sets.{intersection, Subset, is_subset, next_below}
use Rattle.jobset.specs.Inclusion.{intersection-subset, is_subset_lem}

-- of the numbers x with x & t = x, and a one of them, none lies between (a - 1) & t and a
NoneBetween : ℕ → Type 0
NoneBetween a = (t x : ℕ) → bit_and a t ≡ a → bit_and x t ≡ x → x < a → x ≤ bit_and (a - 1) t

none_between : (a : ℕ) → NoneBetween a
unfolding NoneBetween
none_between = bin_ind NoneBetween (λ t x e f l. absurd (omega arith)) step
  where
    half : (a t : ℕ) → bit_and a t ≡ a → bit_and (a / 2) (t / 2) ≡ a / 2
    half a t e = omega (arith, and_step a t)

    step : (a : ℕ) → NoneBetween (a / 2) → NoneBetween a
    step a ih t x e f l = go (a % 2) refl
      where
        go : (d : ℕ) → a % 2 ≡ d → x ≤ bit_and (a - 1) t
        go zero d =
            let h : a / 2 - 1 ≡ (a - 1) / 2 = omega arith in
            let r : x / 2 ≤ bit_and ((a - 1) / 2) (t / 2) = rw (h) at (ih (t / 2) (x / 2) (half a t e) (half x t f) (omega arith)) in
            omega (arith, and_step (a - 1) t, and_step x t)
        go (suc k) d =
            let h : (a - 1) / 2 ≡ a / 2 = omega arith in
            let q : bit_and ((a - 1) / 2) (t / 2) ≡ a / 2 = rw (h) (half a t e) in
            omega (arith, and_step (a - 1) t)

-- no subset of t lies between a subset and the next
pub no-subset-between : (s t : Set) (x : ℕ) → Subset s t → (next_below s t).bits < x → x < s.bits → is_subset (record { bits = x }) t ≡ false
unfolding next_below is_subset NoneBetween
no-subset-between s t x w a b = ne_eqb (bit_and x t.bits) x (λ f.
    let e : bit_and s.bits t.bits ≡ s.bits = eqb-true (bit_and s.bits t.bits) s.bits ((is_subset_lem s t).1 w) in
    omega (arith, none_between s.bits t.bits x e f b))

-- the next is smaller
pub next-less : (s t : Set) → 0 < s.bits → (next_below s t).bits < s.bits
unfolding next_below
next-less s t h = omega (arith, and_le_l (s.bits - 1) t.bits)

-- the next is a subset
pub next-subset : (s t : Set) → Subset (next_below s t) t
unfolding next_below intersection
next-subset s t = intersection-subset (record { bits = s.bits - 1 }) t
