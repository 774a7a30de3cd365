-- A set but its lowest member is the next smaller of its subsets, and has one member less. Assumes nothing.
use Rattle.std.specs.Prelude.{◌≡◌, Bool, true, false, ℕ, zero, suc, ◌-◌, ◌*◌, ◌/◌, ◌%◌, ◌^◌, ◌<◌, eqb}
use Rattle.std.proofs.Math.Path.{refl, sym}
use Rattle.std.proofs.Common.{ap, ◌∙◌}
use Rattle.std.proofs.lemmas.Bool.{false≢true}
use Rattle.std.proofs.Math.Decide.{ℕ_discrete, dec_lt}
use native.Mathlib.Omega.{arith}
use Rattle.std.proofs.Math.Arith.{bin_ind}
use Rattle.std.specs.Int.Bits.{bit_and, and_step, and_self}
use Rattle.std.specs.Int.Count.{ones, ones_step}
use Rattle.laws.specs.Tests.{T-eqb, bool-ext}
use Rattle.jobset.specs.declared.Set.{Set}
use Rattle.jobset.specs.Sets.{member, without, Subset, is_empty, size, lowest, next_below}
use Rattle.jobset.specs.Membership.{without_other}
use Rattle.jobset.specs.Inclusion.{subset-refl, without-subset, is_subset_lem}
use Rattle.jobset.specs.Order.{HighestDifference, greater-iff}
use Rattle.jobset.specs.FallingSubsets.{no-subset-between, next-less, next-subset}
use Rattle.jobset.specs.Lowest.{below-lowest, lowest-member}
use Rattle.jobset.specs.Members.{without-less}

module _ (s : Set) (i : ℕ) (m : member s i ≡ true) (none_below : (j : ℕ) → j < i → member s j ≡ false) where
  not-both : (b : Bool) → b ≡ true → b ≡ false → ⊥
  not-both b p q = false≢true (sym q ∙ p)

  -- the set without i is a smaller subset, so the next is no less
  not-less : (next_below s s).bits < (without s i).bits → ⊥
  not-less l = not-both _ ((is_subset_lem (without s i) s).1 (without-subset s i)) (no-subset-between s s (without s i).bits (subset-refl s) l (without-less s i m))

  -- the next is no greater either: it would have i and all members above, and so be the whole set
  not-greater : HighestDifference (next_below s s) (without s i) → ⊥
  unfolding Subset
  not-greater d = differ (ℕ_discrete d.place i) ((greater-iff s (next_below s s)).0 (next-less s s (omega (arith, without-less s i m))))
    where
      at : (h : HighestDifference s (next_below s s)) → d.place ≡ i → Dec (i < h.place) → Dec (h.place < i) → ⊥
      at h e (yes l) b = not-both (member s h.place) h.is-in (sym (without_other s i h.place (omega arith))
          ∙ sym (d.same_above h.place (omega arith)) ∙ h.not_in)
      at h e (no a) (yes l) = not-both (member s h.place) h.is-in (none_below h.place l)
      at h e (no a) (no b) =
          let q : d.place ≡ h.place = omega arith in
          not-both (member (next_below s s) d.place) d.is-in (ap (member (next_below s s)) q ∙ h.not_in)

      differ : Dec (d.place ≡ i) → HighestDifference s (next_below s s) → ⊥
      differ (yes e) h = at h e (dec_lt i h.place) (dec_lt h.place i)
      differ (no n) h = not-both (member s d.place) (next-subset s s d.place d.is-in) (sym (without_other s i d.place n) ∙ d.not_in)

  next-without : next_below s s ≡ without s i
  next-without = ap (λ (n : ℕ). record { bits = n }) (go (dec_lt (next_below s s).bits (without s i).bits) (dec_lt (without s i).bits (next_below s s).bits))
    where
      go : Dec ((next_below s s).bits < (without s i).bits) → Dec ((without s i).bits < (next_below s s).bits) → (next_below s s).bits ≡ (without s i).bits
      go (yes l) b = absurd (not-less l)
      go (no a) (yes l) = absurd (not-greater ((greater-iff (next_below s s) (without s i)).0 l))
      go (no a) (no b) = omega arith

-- of a set that is not empty, the next smaller subset is the set without its lowest member
pub next-rest : (s : Set) → s.bits < 2 ^ 64 → is_empty s ≡ false → next_below s s ≡ without s (lowest s)
next-rest s b e = next-without s (lowest s) (lowest-member s b e).1 (below-lowest s)

-- ---- a number without its lowest one

-- of an even number it is that of the half, doubled; of an odd one the number before
record Halves (a : ℕ) : Type 0 where
  even : a % 2 ≡ 0 → bit_and (a - 1) a ≡ bit_and (a / 2 - 1) (a / 2) * 2
  odd : a % 2 ≡ 1 → bit_and (a - 1) a ≡ a - 1

halves : (a : ℕ) → Halves a
halves a = record {
  even = λ e. let h : (a - 1) / 2 ≡ a / 2 - 1 = omega arith in rw h at (and_step (a - 1) a) ∙ omega arith;
  odd = λ e. let h : (a - 1) / 2 ≡ a / 2 = omega arith in rw (h, and_self (a / 2)) at (and_step (a - 1) a) ∙ omega arith;
}

-- it has one fewer
OneFewer : ℕ → Type 0
OneFewer a = 0 < a → suc (ones (bit_and (a - 1) a)) ≡ ones a

one_fewer : (a : ℕ) → OneFewer a
unfolding OneFewer
one_fewer = bin_ind OneFewer (λ l. absurd (omega arith)) step
  where
    step : (a : ℕ) → OneFewer (a / 2) → OneFewer a
    step a ih l = go (a % 2) refl
      where
        go : (d : ℕ) → a % 2 ≡ d → suc (ones (bit_and (a - 1) a)) ≡ ones a
        go zero d =
            let b : ℕ = bit_and (a / 2 - 1) (a / 2) in
            let p : b * 2 / 2 ≡ b = omega arith in
            let q : ones (b * 2) ≡ ones b = rw p at (ones_step (b * 2)) ∙ omega arith in
            rw ((halves a).even d, q) (omega (arith, ones_step a, ih (omega arith)))
        go (suc k) d =
            let p : (a - 1) / 2 ≡ a / 2 = omega arith in
            rw ((halves a).odd (omega arith)) (rw p at (ap suc (ones_step (a - 1))) ∙ omega (arith, ones_step a))

-- a number with a one is not 0
some-ones : (a : ℕ) → 0 < ones a → 0 < a
some-ones zero h = absurd (let e : ones 0 ≡ 0 = unfold ones in refl in omega arith)
some-ones (suc a) h = omega arith

-- one member less
pub size-rest : (s : Set) → 0 < size s → suc (size (next_below s s)) ≡ size s
unfolding size next_below OneFewer
size-rest s h = one_fewer s.bits (some-ones s.bits h)

-- the test of emptiness, by the size
pub empty-size : (s : Set) → is_empty s ≡ eqb (size s) 0
unfolding is_empty size
empty-size s = bool-ext (eqb s.bits 0) (eqb (ones s.bits) 0)
    (λ h. (T-eqb (ones s.bits) 0).1 (ap ones ((T-eqb s.bits 0).0 h) ∙ (unfold ones in refl)))
    (λ h. (T-eqb s.bits 0).1 (zero-ones s.bits ((T-eqb (ones s.bits) 0).0 h) (dec_lt 0 s.bits)))
  where
    zero-ones : (a : ℕ) → ones a ≡ 0 → Dec (0 < a) → a ≡ 0
    zero-ones a e (yes l) = absurd (unfold OneFewer in omega (arith, one_fewer a l))
    zero-ones a e (no l) = omega arith
