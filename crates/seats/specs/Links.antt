-- Jobs that are linked by release: from the first of each release by `next` to the others, in rising number. 0 is no job, i + 1 is job i.
-- Assumes nothing.
use Rattle.std.specs.Prelude.{◌≡◌, refl, Bool, ◌↔◌, ℕ, suc, ◌+◌, ◌≤◌, ◌<◌, ltb, eqb, length, set, replicate}
use Rattle.std.proofs.Common.{sym, ◌∙◌, get_or-set_other}
use Rattle.std.proofs.Math.Path.{ap}
use Rattle.std.proofs.Math.Bool.{true, false}
use mathlib.Core.List.{List, [], ◌∷◌, Memᴰ}
use native.Mathlib.Omega.{arith}
use Rattle.std.proofs.Math.Decide.{dec_lt}
use Rattle.std.proofs.Math.Dec.{T}
use Rattle.std.proofs.Math.ListN.{length-set}
use Rattle.std.proofs.lemmas.List.{get_or-replicate}
use Rattle.std.proofs.Math.Seq.{get_or-set_same}
use Rattle.rules.specs.Sizes.{max_limit, max_jobs}
use Rattle.rules.specs.Basics.{choose, at, filter, range}
use Rattle.laws.specs.Tests.{T-ltb, T-eqb, by-choice, choose_no}
use Rattle.laws.specs.Lists.{filter-mem⁻¹, range-in}

-- from `number` on by `next` these jobs come, and then none
abbrev pub Linked : List ℕ → ℕ → List ℕ → Type 0
Linked next number [] = number ≡ 0
Linked next number (i ∷ is) = (number ≡ i + 1) × Linked next (at next i) is

-- of the k jobs from i up those with release s
abbrev pub released : List ℕ → ℕ → ℕ → ℕ → List ℕ
released release s k i = filter (λ j. eqb (at release j) s) (range k i)

-- the k jobs from i up are linked
pub record LinkedAll (release : List ℕ) (limit : ℕ) (first next : List ℕ) (k i : ℕ) : Type 0 where
  pub firsts : length first ≡ max_limit
  pub nexts : length next ≡ max_jobs
  pub chain : (s : ℕ) → s < limit → Linked next (at first s) (released release s k i)

pub linked-none : (release : List ℕ) (limit : ℕ) (first next : List ℕ) (i : ℕ) → first ≡ replicate max_limit 0 → length next ≡ max_jobs → limit ≤ max_limit
    → LinkedAll release limit first next 0 i
unfolding filter range
linked-none release limit first next i e f h = record {
  firsts = ap length e;
  nexts = f;
  chain = λ s l. ap (λ (x : List ℕ). at x s) e ∙ get_or-replicate max_limit s 0 0
      (omega arith);
}

-- the links after a job is put before all others of its release, where that is below the limit
abbrev pub link_first : List ℕ → ℕ → ℕ → ℕ → List ℕ
link_first first slot limit job = choose (ltb slot limit) (set first slot (job + 1)) first

abbrev pub link_next : List ℕ → List ℕ → ℕ → ℕ → ℕ → List ℕ
link_next first next slot limit job = choose (ltb slot limit) (set next job (at first slot)) next

-- a store where none of them reads changes no links
linked-set : (next : List ℕ) (number : ℕ) (is : List ℕ) (j v : ℕ) → ((i : ℕ) → Memᴰ i is → ¬ (i ≡ j)) → Linked next number is → Linked
    (set next j v) number is
linked-set next number [] j v n c = c
linked-set next number (i ∷ is) j v n c =
    (c.0, rw (get_or-set_other next j i v 0 (n i (Memᴰ.head refl))) (linked-set next (at next i) is j v (λ z m. n z (Memᴰ.tail m)) c.1))

module _ (release : List ℕ) (limit : ℕ) (first next : List ℕ) (k job : ℕ) (h : limit ≤ max_limit) (l : job < max_jobs)
    (L : LinkedAll release limit first next k (suc job)) where
  -- the others come behind it
  behind : (s i : ℕ) → Memᴰ i (released release s k (suc job)) → ¬ (i ≡ job)
  behind s i m e = omega (arith, range-in k (suc job) i (filter-mem⁻¹ (λ j. eqb (at release j) s) (range k (suc job)) i m).0)

  linked-yes : at release job < limit → LinkedAll release limit (set first (at release job) (job + 1)) (set next job (at first (at release job))) (suc k) job
  unfolding filter range
  linked-yes q = record {
    firsts = length-set first (at release job) (job + 1) ∙ L.firsts;
    nexts = length-set next job (at first (at release job)) ∙ L.nexts;
    chain = λ s m. by-choice (λ is. Linked (set next job (at first (at release job))) (at (set first (at release job) (job + 1)) s) is) (eqb (at release job) s)
        (λ t. let e = (T-eqb (at release job) s).0 t in (
          ap (at (set first (at release job) (job + 1))) (sym e) ∙ get_or-set_same first (at release job) (job + 1) 0 (omega (arith, L.firsts)),
          rw (get_or-set_same next job (at first (at release job)) 0 (omega (arith, L.nexts)), ap (at first) e)
              (linked-set next (at first s) (released release s k (suc job)) job (at first (at release job)) (behind s) (L.chain s m)),
        ))
        (λ n. rw (get_or-set_other first (at release job) s (job + 1) 0 (λ e. n ((T-eqb (at release job) s).1 (sym e))))
        (linked-set next (at first s) (released release s k (suc job)) job (at first (at release job)) (behind s) (L.chain s m)));
  }

  linked-no : limit ≤ at release job → LinkedAll release limit first next (suc k) job
  unfolding filter range
  linked-no q = record {
    firsts = L.firsts;
    nexts = L.nexts;
    chain = λ s m. rw (choose_no (eqb (at release job) s) (job ∷ released release s k (suc job)) (released release s k (suc job))
        (λ t. omega (arith, (T-eqb (at release job) s).0 t))) (L.chain s m);
  }

  -- one job more before them
  pub linked-more : LinkedAll release limit (choose (ltb (at release job) limit) (set first (at release job) (job + 1)) first)
      (choose (ltb (at release job) limit) (set next job (at first (at release job))) next) (suc k) job
  unfolding choose
  linked-more = go (ltb (at release job) limit) (T-ltb (at release job) limit)
    where
      go : (b : Bool) → T b ↔ (at release job < limit)
          → LinkedAll release limit (choose b (set first (at release job) (job + 1)) first) (choose b (set next job (at first (at release job))) next)
          (suc k) job
      go true t = linked-yes (t.0 tt)
      go false t = linked-no (not-lt (dec_lt (at release job) limit))
        where
          not-lt : Dec (at release job < limit) → limit ≤ at release job
          not-lt (yes q) = absurd (t.1 q)
          not-lt (no q) = omega arith
