-- The windows of a file, the jobs that each slot holds, and an assignment of places to the jobs. Assumes nothing.
use Rattle.std.specs.Prelude.{◌↔◌, Bool, ◌&&◌, ℕ, zero, suc, ◌+◌, ◌≤◌, ◌<◌, length, leb, ltb}
use mathlib.Core.List.Memᴰ
use mathlib.Core.List.{List, [], Memᴰ}
use Rattle.std.proofs.Common.{arith}
use Rattle.std.proofs.Math.Decide.{dec_lt}
use Rattle.rules.specs.Sizes.{max_width}
use Rattle.rules.specs.Basics.{range}
use Rattle.rules.specs.Needs.{Need, Gives, NeedsIn}
use Rattle.laws.specs.Tests.{tests}
use Rattle.laws.specs.Lists.{Rising, range-rising, filter-rising}
use Rattle.laws.specs.Counting.{passing, passing-in}
use Rattle.places.specs.Seats.{Apart}

-- n jobs with their needs; release r, deadline d and tail θ of each, all as numbers: a window is empty where d is at most r
pub record Windows : Type 0 where
  pub n : ℕ
  pub needs : List Need
  pub r : ℕ → ℕ
  pub d : ℕ → ℕ
  pub θ : ℕ → ℕ

-- the window of job i holds slot s
unfoldable pub holds_slot : Windows → ℕ → ℕ → Bool
holds_slot W s i = leb (W.r i) s && ltb s (W.d i)

-- the jobs of slot s: those whose windows hold it, in rising number
abbrev pub held : Windows → ℕ → List ℕ
held W s = passing (holds_slot W s) W.n

-- the jobs of the slot before s, none before slot 0
abbrev pub held_before : Windows → ℕ → List ℕ
held_before W zero = []
held_before W (suc s) = held W s

pub in_held : (W : Windows) (s i : ℕ) → Memᴰ i (held W s) ↔ ((i < W.n) × (W.r i ≤ s) × (s < W.d i))
unfolding holds_slot
in_held W s i =
    let w = passing-in (holds_slot W s) W.n i in (
      λ m. let v = simp tests at (w.0 m).1 in ((w.0 m).0, v.0, v.1),
      λ h. w.1 (h.0, simp tests (h.1, h.2)),
    )

pub in-held-before : (W : Windows) (s i : ℕ) → Memᴰ i (held_before W s) ↔ ((i < W.n) × (W.r i < s) × (s ≤ W.d i))
in-held-before W zero i = (λ m. absurd (Memᴰ.not-nil m), λ h. absurd (omega (arith, h.1)))
in-held-before W (suc s) i = let w = in_held W s i in
    (λ m. let v = w.0 m in (v.0, omega (arith, v.1), omega (arith, v.2)), λ h. w.1 (h.0, omega (arith, h.1), omega (arith, h.2)))

pub held-rising : (W : Windows) (s : ℕ) → Rising (held W s)
held-rising W s = filter-rising (holds_slot W s) (range W.n 0) (range-rising W.n 0)

-- at most eight windows hold one slot below the limit
pub record Narrow (W : Windows) (limit : ℕ) : Type 0 where
  pub eight : (s : ℕ) → s < limit → length (held W s) ≤ max_width

-- each job's window within C slots holds a slot
pub record Room (W : Windows) (C : ℕ) : Type 0 where
  pub holds : (i : ℕ) → i < W.n → W.r i < W.d i
  pub behind : (i : ℕ) → i < W.n → W.r i + W.θ i < C

-- ---- places

-- a place below 8 for each job that a slot holds, different for different jobs of one slot: a job keeps it while its window is open
pub record Seats (W : Windows) : Type 0 where
  pub place : ℕ → ℕ
  pub low : (s i : ℕ) → Memᴰ i (held W s) → place i < max_width
  pub apart : (s : ℕ) → Apart place (held W s)

pub low-held-before : (W : Windows) (Z : Seats W) (s i : ℕ) → Memᴰ i (held_before W s) → Z.place i < max_width
low-held-before W Z zero i m = absurd (Memᴰ.not-nil m)
low-held-before W Z (suc s) i m = Z.low s i m

pub apart-hold : (W : Windows) (Z : Seats W) (s : ℕ) → Apart Z.place (held_before W s)
apart-hold W Z zero = λ i j m k e. absurd (Memᴰ.not-nil m)
apart-hold W Z (suc s) = Z.apart s

-- ---- the needs

-- what the needs say of the windows: a giver's release and deadline are less than its taker's
pub record Leads (W : Windows) : Type 0 where
  pub needs-in : NeedsIn W.n W.needs
  pub sooner : (g k : ℕ) → Gives W.needs g k → W.r g < W.r k
  pub due : (g k : ℕ) → Gives W.needs g k → 0 < W.d k → W.d g < W.d k

module _ (W : Windows) (D : Leads W) (s i : ℕ) (m : Memᴰ i (held W s)) (g : ℕ) (a : Gives W.needs g i) where
  -- each giver of a job of slot s was released before the slot
  pub giver-released : W.r g < s
  giver-released = omega (arith, D.sooner g i a, ((in_held W s i).0 m).2, ((in_held W s i).0 m).1)

  -- one that the slot before does not hold has its window closed before that slot
  pub giver-closed : ¬ (Memᴰ g (held_before W s)) → W.d g < s
  giver-closed n = go (dec_lt (W.d g) s)
    where
      go : Dec (W.d g < s) → W.d g < s
      go (yes l) = l
      go (no l) = absurd (n ((in-held-before W s g).1 ((D.needs-in g i a).0, giver-released, omega arith)))
