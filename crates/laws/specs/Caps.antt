-- A cap on the jobs of a slot: its test, what a greater cap asks, and how many slots it takes. Assumes nothing.
use Rattle.std.specs.Prelude.{◌≡◌, ◌⊎◌, ◌↔◌, List, ℕ, zero, suc, ◌+◌, ◌*◌, ◌≤◌, ◌<◌, length, T, ltb}
use Rattle.std.proofs.Common.{ap, ◌∙◌, inl, inr, arith, add-mul, one-mul}
use Rattle.std.proofs.Math.Decide.{dec_lt}
use Rattle.rules.specs.Basics.{at, count}
use Rattle.rules.specs.Needs.{Need}
use Rattle.rules.specs.Program.{slots, keptb}
use Rattle.rules.specs.Boards.{in_slot, fullest, Capped, cappedb, Runs, runsb}
use Rattle.laws.specs.Tests.{T_and, T-leb, T-ltb, T-eqb}
use Rattle.laws.specs.Counting.{count_none, count-either, count-all, most-ge, most-le, at_most, at-largest}
use Rattle.laws.specs.Program.{kept-is}

-- the fullest slot has no more than c jobs exactly where no slot has
pub capped_is : (n c : ℕ) (t : List ℕ) → T (cappedb n c t) ↔ Capped n c t
unfolding cappedb fullest in_slot slots
capped_is n c t = (
  λ h. record { few = λ s. few s ((T-leb (fullest n t) c).0 h) (dec_lt s (slots t)) },
  λ k. (T-leb (fullest n t) c).1 (most-le (λ s. count (in_slot t s) n) (slots t) c (λ s h. k.few s)),
)
  where
    few : (s : ℕ) → fullest n t ≤ c → Dec (s < slots t) → count (in_slot t s) n ≤ c
    few s h (yes l) = omega (arith, most-ge (λ s. count (in_slot t s) n) (slots t) s l)
    few s h (no l) = omega (arith, count_none (in_slot t s) n (λ i _ q. omega (arith, (T-eqb (at t i) s).0 q, at_most t i)))

pub runs-is : (n : ℕ) (needs : List Need) (c : ℕ) (t : List ℕ) → T (runsb n needs c t) ↔ Runs n needs c t
unfolding runsb
runs-is n needs c t = (
  λ h. let w = (T_and (keptb needs t) (cappedb n c t)).0 h in record { kept = (kept-is needs t).0 w.0; capped = (capped_is n c t).0 w.1 },
  λ r. (T_and (keptb needs t) (cappedb n c t)).1 ((kept-is needs t).1 r.kept, (capped_is n c t).1 r.capped),
)

-- a greater cap asks less
pub capped-more : (n c d : ℕ) (t : List ℕ) → c ≤ d → Capped n c t → Capped n d t
capped-more n c d t h k = record { few = λ s. omega (arith, k.few s) }

-- ---- n jobs at c a slot need n divided by c slots

-- of the jobs that start before slot s there are at most s times c
before-few : (n c : ℕ) (t : List ℕ) → Capped n c t → (s : ℕ) → count (λ i. ltb (at t i) s) n ≤ s * c
before-few n c t k zero = omega (arith, count_none (λ i. ltb (at t i) zero) n (λ i _ q. omega (arith, (T-ltb (at t i) zero).0 q)))
before-few n c t k (suc s) =
    let e : suc s ≡ s + 1 = omega arith in
    let m : suc s * c ≡ s * c + 1 * c = ap (λ (x : ℕ). x * c) e ∙ add-mul s 1 c in
    omega (
      arith,
      before-few n c t k s,
      k.few s,
      one-mul c,
      count-either (λ i. ltb (at t i) (suc s)) (λ i. ltb (at t i) s) (in_slot t s) n
          (λ i _ q. at-or-before i ((T-ltb (at t i) (suc s)).0 q) (dec_lt (at t i) s)),
    )
  where
    at-or-before : (i : ℕ) → at t i < suc s → Dec (at t i < s) → T (ltb (at t i) s) ⊎ T (in_slot t s i)
    at-or-before i h (yes l) = inl ((T-ltb (at t i) s).1 l)
    at-or-before i h (no l) = inr (unfold in_slot in (T-eqb (at t i) s).1 (omega arith))

pub capped-slots : (n c : ℕ) (t : List ℕ) → length t ≡ n → Capped n c t → n ≤ slots t * c
unfolding slots
capped-slots n c t len k = omega (
  arith,
  before-few n c t k (slots t),
  count-all (λ i. ltb (at t i) (slots t)) n (λ i h. (T-ltb (at t i) (slots t)).1 (omega (arith, at-largest t i (omega (arith, len))))),
)
