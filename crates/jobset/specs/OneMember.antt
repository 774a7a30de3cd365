-- Sets of exactly one member. Assumes nothing.
use Rattle.std.specs.Prelude.{◌≡◌, refl, Bool, true, false, ◌↔◌, ℕ, ◌-◌, ◌*◌, ◌^◌, ◌<◌, eqb}
use Rattle.std.proofs.Common.{sym, ap, ◌∙◌, one-mul, arith, eq-eqb, ne_eqb, eqb-true, pow_pos}
use Rattle.std.proofs.lemmas.Bool.{false≢true, eqb-false}
use Rattle.std.proofs.Math.Decide.{dec_lt}
use Rattle.std.specs.Int.Bits.{bit_and, and_shifted}
use Rattle.std.proofs.lemmas.Nat.{and_comm}
use Rattle.std.proofs.Math.Pow.{ones_lt}
use Rattle.rules.specs.Basics.{choose}
use Rattle.jobset.specs.declared.Set.{Set}
use Rattle.jobset.specs.Sets.{empty, one, Subset, is_empty, is_one, next_below}
use Rattle.jobset.specs.Inclusion.{subset-refl, one-subset, is_subset_lem, subset-le}
use Rattle.jobset.specs.Order.{HighestDifference, greater-iff}
use Rattle.jobset.specs.FallingSubsets.{no-subset-between}

-- a set whose next smaller subset is the empty one has its highest member alone
only-highest : (s : Set) → (s.bits ≡ 0 → ⊥) → (next_below s s).bits ≡ 0 → (k : ℕ) × (s ≡ one k)
unfolding one
only-highest s z e = (highest.place, ap (λ (n : ℕ). record { bits = n }) (go (dec_lt (2 ^ highest.place) s.bits)))
  where
    highest : HighestDifference s empty
    highest = (greater-iff s empty).0 (omega arith)

    inside : Subset (one highest.place) s
    inside = one-subset s highest.place highest.is-in

    go : Dec (2 ^ highest.place < s.bits) → s.bits ≡ 2 ^ highest.place
    go (yes l) =
        let p = pow_pos highest.place in
        absurd (false≢true (sym (no-subset-between s s (2 ^ highest.place) (subset-refl s) (omega arith) l) ∙ (is_subset_lem (one highest.place) s).1 inside))
    go (no n) = omega (arith, subset-le (one highest.place) s inside)

-- the test is true exactly of the sets of one member
pub is_one_lem : (s : Set) → (is_one s ≡ true) ↔ ((k : ℕ) × (s ≡ one k))
unfolding is_one is_empty choose one next_below
is_one_lem s = (to (eqb s.bits 0) refl, λ w. rw w.1 (from w.0))
  where
    to : (b : Bool) → eqb s.bits 0 ≡ b → choose b false (eqb (bit_and s.bits (s.bits - 1)) 0) ≡ true → (k : ℕ) × (s ≡ one k)
    to true e f = absurd (false≢true f)
    to false e f =
        let n : bit_and s.bits (s.bits - 1) ≡ 0 = eqb-true (bit_and s.bits (s.bits - 1)) 0 f in
        only-highest s (eqb-false s.bits 0 e) (and_comm (s.bits - 1) s.bits ∙ n)

    from : (k : ℕ) → is_one (one k) ≡ true
    from k =
        let p = pow_pos k in
        let e : eqb (2 ^ k) 0 ≡ false = ne_eqb (2 ^ k) 0 (λ q. omega arith) in
        let f : bit_and (1 * 2 ^ k) (2 ^ k - 1) ≡ 0 = and_shifted 1 k (2 ^ k - 1) (ones_lt k) in
        rw (e) (eq-eqb (bit_and (2 ^ k) (2 ^ k - 1)) 0 (rw (one-mul) at f))
