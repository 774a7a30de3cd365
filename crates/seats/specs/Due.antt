-- When each job is due in a plan of so many slots: what the code writes into the tables. Assumes nothing.
use Rattle.std.specs.Prelude.{◌≡◌, Bool, eqb, set}
use Rattle.std.proofs.Math.Path.{refl}
use Rattle.std.proofs.Common.{sym, ap, ◌∙◌, arith, get_or-set_same, get_or-set_other}
use mathlib.Core.List.{List, [], ◌∷◌, ◌++◌}
use Prim.Native.Nat.{ℕ, zero, suc, ◌+◌, ◌-◌, ◌≤◌, ◌<◌}
use Rattle.std.proofs.Math.Decide.{ℕ_discrete}
use Rattle.rules.specs.Sizes.{max_limit, max_width}
use Rattle.rules.specs.Basics.{at, range}
use Rattle.laws.specs.Tests.{T-eqb}
use Rattle.jobset.specs.declared.Set.{Set}
use Rattle.jobset.specs.Sets.{set_at, with}
use Rattle.layout.specs.Layout.{due_at}
use Rattle.places.specs.Seats.{seats_of}
use Rattle.seats.specs.Gather.{seats-with, seats-skip}
use Rattle.seats.specs.Bytes.{same_set}
use Rattle.seats.specs.Words.{Small, small-set, with_place, place_same, place_other, small-place}

-- ---- no job is due before any of the first k slots

unfoldable pub without_due : List ℕ → ℕ → List ℕ
without_due words zero = words
without_due words (suc k) = set (without_due words k) (due_at + k) 0

pub without-small : (n : ℕ) (words : List ℕ) (k : ℕ) → k ≤ max_limit + 1 → Small n words → Small n (without_due words k)
unfolding without_due
without-small n words zero h s = s
without-small n words (suc k) h s = small-set n (without_due words k) (due_at + k) 0 (without-small n words k (omega arith) s) (omega arith) (λ _. omega arith)
    (λ a _. absurd (omega arith)) (λ a _. absurd (omega arith))

without_other : (words : List ℕ) (k j : ℕ) → ((t : ℕ) → t < k → ¬ (j ≡ due_at + t)) → at (without_due words k) j ≡ at words j
unfolding without_due
without_other words zero j n = refl
without_other words (suc k) j n = get_or-set_other (without_due words k) (due_at + k) j 0 0 (n k (omega arith))
    ∙ without_other words k j (λ t l. n t (omega arith))

without-zero : (n : ℕ) (words : List ℕ) (k t : ℕ) → Small n words → k ≤ max_limit + 1 → t < k → at (without_due words k) (due_at + t) ≡ 0
unfolding without_due
without-zero n words zero t s h l = absurd (omega arith)
without-zero n words (suc k) t s h l = go (ℕ_discrete t k) (λ q. without-zero n words k t s (omega arith) q)
  where
    go : Dec (t ≡ k) → (t < k → at (without_due words k) (due_at + t) ≡ 0) → at (set (without_due words k) (due_at + k) 0) (due_at + t) ≡ 0
    go (yes e) r = rw e (get_or-set_same (without_due words k) (due_at + k) 0 0 (omega (arith, (without-small n words k (omega arith) s).len)))
    go (no e) r = get_or-set_other (without_due words k) (due_at + k) (due_at + t) 0 0 (λ z. e (omega arith)) ∙ r (omega arith)

-- ---- each of the first k jobs is due when the slots of its tail are left

unfoldable pub with_due : ℕ → List ℕ → List ℕ → ℕ → List ℕ → List ℕ
with_due slots places tail zero words = words
with_due slots places tail (suc k) words = with_place (with_due slots places tail k words) (due_at + (slots - at tail k)) (at places k)

range_snoc : (k i : ℕ) → range (suc k) i ≡ range k i ++ (i + k) ∷ []
unfolding range
range_snoc zero i = let e : i ≡ i + 0 = omega arith in ap (λ (x : ℕ). x ∷ []) e
range_snoc (suc k) i = let e : suc i + k ≡ i + suc k = omega arith in ap (λ (l : List ℕ). i ∷ l)
    (range_snoc k (suc i) ∙ ap (λ (x : ℕ). range k (suc i) ++ x ∷ []) e)

module _ (slots : ℕ) (places tail : List ℕ) (few : slots ≤ max_limit) where
  with-small : (n : ℕ) (words : List ℕ) (k : ℕ) → ((i : ℕ) → i < k → at places i < max_width) → Small n words → Small n (with_due slots places tail k words)
  unfolding with_due
  with-small n words zero low s = s
  with-small n words (suc k) low s = small-place n (with_due slots places tail k words) (due_at + (slots - at tail k)) (at places k)
      (with-small n words k (λ i l. low i (omega arith)) s) (omega arith) (low k (omega arith))

  with-other : (words : List ℕ) (k j : ℕ) → ((t : ℕ) → t ≤ slots → ¬ (j ≡ due_at + t)) → at (with_due slots places tail k words) j ≡ at words j
  unfolding with_due
  with-other words zero j n = refl
  with-other words (suc k) j n = place_other (with_due slots places tail k words) (due_at + (slots - at tail k)) (at places k) j
      (n (slots - at tail k) (omega arith)) ∙ with-other words k j n

  with-is : (n : ℕ) (words : List ℕ) (k t : ℕ) → ((i : ℕ) → i < k → at places i < max_width) → Small n words → at words (due_at + t) ≡ 0
      → set_at (with_due slots places tail k words) (due_at + t) ≡ seats_of (at places) (λ i. eqb (slots - at tail i) t) (range k 0)
  unfolding with_due seats_of range
  with-is n words zero t low s z = same_set z
  with-is n words (suc k) t low s z = go (ℕ_discrete (slots - at tail k) t) (with-is n words k t (λ i l. low i (omega arith)) s z)
    where
      now : List ℕ
      now = with_due slots places tail k words

      test : ℕ → Bool
      test i = eqb (slots - at tail i) t

      ends : range (suc k) 0 ≡ range k 0 ++ k ∷ []
      ends = range_snoc k 0 ∙ (let e : 0 + k ≡ k = omega arith in ap (λ (x : ℕ). range k 0 ++ x ∷ []) e)

      go : Dec (slots - at tail k ≡ t) → set_at now (due_at + t) ≡ seats_of (at places) test (range k 0)
          → set_at (with_place now (due_at + (slots - at tail k)) (at places k)) (due_at + t) ≡ seats_of (at places) test (range (suc k) 0)
      go (yes e) r = rw e (place_same now (due_at + t) (at places k) (omega (arith, (with-small n words k (λ i l. low i (omega arith)) s).len)))
          ∙ ap (λ (S : Set). with S (at places k)) r ∙ sym (seats-with (at places) test (range k 0) k ((T-eqb (slots - at tail k) t).1 e)) ∙ ap
          (seats_of (at places) test) (sym ends)
      go (no e) r = same_set (place_other now (due_at + (slots - at tail k)) (at places k) (due_at + t) (λ z. e (omega arith))) ∙ r
          ∙ sym (seats-skip (at places) test (range k 0) k (λ y. e ((T-eqb (slots - at tail k) t).0 y))) ∙ ap (seats_of (at places) test) (sym ends)

-- ---- both

-- the due sets of a plan of so many slots
unfoldable pub due_sets : ℕ → ℕ → List ℕ → List ℕ → List ℕ → List ℕ
due_sets slots jobs places tail words = with_due slots places tail jobs (without_due words (slots + 1))

pub record DueSets (n slots jobs : ℕ) (places tail words after : List ℕ) : Type 0 where
  pub small : Small n after
  pub other : (k : ℕ) → ((t : ℕ) → t ≤ slots → ¬ (k ≡ due_at + t)) → at after k ≡ at words k
  pub due : (t : ℕ) → t ≤ slots → set_at after (due_at + t) ≡ seats_of (at places) (λ i. eqb (slots - at tail i) t) (range jobs 0)

pub due-sets : (n slots jobs : ℕ) (places tail words : List ℕ) → slots ≤ max_limit → ((i : ℕ) → i < jobs → at places i < max_width) → Small n words
    → DueSets n slots jobs places tail words (due_sets slots jobs places tail words)
unfolding due_sets
due-sets n slots jobs places tail words h low s = record {
  small = with-small slots places tail h n (without_due words (slots + 1)) jobs low clear;
  other = λ k f. with-other slots places tail h (without_due words (slots + 1)) jobs k f ∙ without_other words (slots + 1) k (λ t l. f t (omega arith));
  due = λ t l. with-is slots places tail h n (without_due words (slots + 1)) jobs t low clear
      (without-zero n words (slots + 1) t s (omega arith) (omega arith));
}
  where
    clear : Small n (without_due words (slots + 1))
    clear = without-small n words (slots + 1) (omega arith) s
