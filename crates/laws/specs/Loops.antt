-- A loop that asks p of 0 to n - 1: it ends with the first no, or goes on and remembers it. Assumes nothing.
use Rattle.std.specs.Prelude.{◌≡◌, refl, Bool, true, false, ◌&&◌}
use Rattle.std.proofs.Math.Path.{sym, ap}
use Rattle.std.proofs.Common.{◌∙◌, add-one}
use Prim.Native.Nat.{ℕ, suc, ◌+◌, ◌-◌, ◌≤◌, ◌<◌}
use native.Mathlib.Omega.{arith}
use Rattle.rules.specs.Basics.{all, range}

-- before i is asked: `told` says whether all below it passed, and with those from i up it decides
pub record AllSoFar (p : ℕ → Bool) (n i : ℕ) (told : Bool) : Type 0 where
  pub short : i ≤ n
  pub same : (told && all p (range (n - i) i)) ≡ all p (range n 0)

pub all_start : (p : ℕ → Bool) (n : ℕ) → AllSoFar p n 0 true
all_start p n = record { short = omega arith; same = let e : n - 0 ≡ n = omega arith in ap (λ (c : ℕ). all p (range c 0)) e }

-- a no decides whatever is with it
and-false : (a : Bool) → (a && false) ≡ false
and-false true = refl
and-false false = refl

and-true : (a : Bool) → (a && true) ≡ a
and-true true = refl
and-true false = refl

module _ {p : ℕ → Bool} {n i : ℕ} {told : Bool} (s : AllSoFar p n i told) where
  module _ (h : i < n) where
    all-step : (b : Bool) → p i ≡ b → all p (range n 0) ≡ (told && (b && all p (range (n - (i + 1)) (i + 1))))
    unfolding all range
    all-step b y =
        let e : n - i ≡ suc (n - (i + 1)) = omega arith in
        sym s.same ∙ ap (λ (c : ℕ). told && all p (range c i)) e
        ∙ ap (λ (a : Bool). told && (a && all p (range (n - (i + 1)) (suc i)))) y
        ∙ ap (λ (j : ℕ). told && (b && all p (range (n - (i + 1)) j))) (sym (add-one i))

    -- a yes
    pub all_yes : p i ≡ true → AllSoFar p n (i + 1) told
    all_yes y = record { short = omega arith; same = sym (all-step true y) }

    -- a no
    pub all-no : p i ≡ false → AllSoFar p n (i + 1) false
    all-no y = record { short = omega arith; same = sym (all-step false y ∙ and-false told) }

  -- all are asked
  pub all_end : n ≤ i → told ≡ all p (range n 0)
  unfolding all range
  all_end h = let e : 0 ≡ n - i = omega arith in sym (and-true told) ∙ ap (λ (c : ℕ). told && all p (range c i)) e ∙ s.same

-- there was a no
pub all-failed : {p : ℕ → Bool} {n i : ℕ} → AllSoFar p n i false → false ≡ all p (range n 0)
all-failed s = s.same
