-- The width: that of any dates that satisfy formulas (1) and (2), and its form over the natural numbers. Assumes nothing.
use Rattle.std.specs.Prelude.{◌≡◌, refl, ◌↔◌, Bool, ◌&&◌, List, ℕ, ◌+◌, ◌≤◌, ◌<◌, length, T, leb, ℤ, pos, ◌+ℤ◌, ◌-ℤ◌}
use Rattle.std.proofs.Common.{sym, ◌∙◌, arith}
use Rattle.std.specs.Int.Signed.{le_z}
use Rattle.rules.specs.Basics.{count, most}
use Rattle.rules.specs.Needs.{Need, NeedsIn, Circle}
use Rattle.rules.specs.JobFile.{JobFile}
use Rattle.rules.specs.Windows.{Formula1, Formula2, release, tail, Holds, holdsb, width_of, width}
use Rattle.laws.specs.Tests.{T_and, tests, bool-ext}
use Rattle.laws.specs.Counting.{count-le, most-ge, most-le}
use Rattle.laws.specs.Releases.{release-only}
use Rattle.laws.specs.Deadlines.{holds-is, deadline-only}

-- "The file's width", of a file that says f
abbrev pub file_width : JobFile → ℕ
file_width f = width (length f.jobs) f.needs f.limit

-- the window of job i holds slot s, by releases, tails and makespan
unfoldable pub window : (ℕ → ℕ) → (ℕ → ℕ) → ℕ → ℕ → ℕ → Bool
window rel tl C s i = leb (rel i) s && leb (s + 1 + tl i) C

-- what the test says
pub window-is : (rel tl : ℕ → ℕ) (C s i : ℕ) → T (window rel tl C s i) ↔ ((rel i ≤ s) × (s + 1 + tl i ≤ C))
unfolding window
window-is rel tl C s i = (λ h. simp tests at h, λ h. simp tests h)

holdsb-is : (r : ℕ → ℕ) (d : ℕ → ℤ) (s i : ℕ) → T (holdsb r d s i) ↔ Holds (pos (r i)) (d i) s
unfolding holdsb
holdsb-is r d s i = (
  λ h. let a = (T_and (le_z (pos (r i)) (pos s)) (le_z (pos s +ℤ pos 1) (d i))).0 h in (record { le = a.0 }, record { le = a.1 }),
  λ h. (T_and (le_z (pos (r i)) (pos s)) (le_z (pos s +ℤ pos 1) (d i))).1 (h.0.le, h.1.le),
)

-- where p is narrower than q, and C at most L, no slot below C has more than the fullest below L
most-mono : (p q : ℕ → ℕ → Bool) (n C L : ℕ) → C ≤ L → ((s i : ℕ) → i < n → T (p s i) → T (q s i)) → most (λ s. count (p s) n) C ≤ most (λ s. count (q s) n) L
most-mono p q n C L l f = most-le (λ s. count (p s) n) C (most (λ s. count (q s) n) L)
    (λ s h. omega (arith, count-le (p s) (q s) n (f s), most-ge (λ s. count (q s) n) L s (omega arith)))

-- so tests that say the same give the same fullest slot
most-same : (p q : ℕ → ℕ → Bool) (n L : ℕ) → ((s i : ℕ) → i < n → T (p s i) ↔ T (q s i)) → most (λ s. count (p s) n) L ≡ most (λ s. count (q s) n) L
most-same p q n L f = omega (arith, most-mono p q n L L (omega arith) (λ s i h. (f s i h).0), most-mono q p n L L (omega arith) (λ s i h. (f s i h).1))

-- a date that is the release, and one that is the limit less the tail: the window holds the same slots
holds-window : (n : ℕ) (needs : List Need) (L : ℕ) (r : ℕ → ℕ) (d : ℕ → ℤ) (s i : ℕ) → r i ≡ release n needs i → d i ≡ pos L -ℤ pos (tail n needs i)
    → T (holdsb r d s i) ↔ T (window (release n needs) (tail n needs) L s i)
holds-window n needs L r d s i hr hd = (
  λ t. (window-is (release n needs) (tail n needs) L s i).1
      ((holds-is L (release n needs i) (tail n needs i) s).0 (rw (← hr, ← hd) ((holdsb-is r d s i).0 t))),
  λ t. (holdsb-is r d s i).1
      (rw (hr, hd) ((holds-is L (release n needs i) (tail n needs i) s).1 ((window-is (release n needs) (tail n needs) L s i).0 t))),
)

-- the test of a file's window, over the natural numbers
pub file-window : (n : ℕ) (needs : List Need) (L s i : ℕ)
    → holdsb (release n needs) (λ j. pos L -ℤ pos (tail n needs j)) s i ≡ window (release n needs) (tail n needs) L s i
file-window n needs L s i =
    let w = holds-window n needs L (release n needs) (λ j. pos L -ℤ pos (tail n needs j)) s i refl refl in bool-ext _ _ w.0 w.1

-- dates that are the release and the limit less the tail, below n
pub windows-width : (n : ℕ) (needs : List Need) (L : ℕ) (r : ℕ → ℕ) (d : ℕ → ℤ)
    → ((i : ℕ) → i < n → r i ≡ release n needs i) → ((i : ℕ) → i < n → d i ≡ pos L -ℤ pos (tail n needs i))
    → width_of n r d L ≡ most (λ s. count (window (release n needs) (tail n needs) L s) n) L
unfolding width_of
windows-width n needs L r d hr hd =
    most-same (holdsb r d) (window (release n needs) (tail n needs) L) n L (λ s i h. holds-window n needs L r d s i (hr i h) (hd i h))

-- the width over the natural numbers
pub width-window : (n : ℕ) (needs : List Need) (L : ℕ) → width n needs L ≡ most (λ s. count (window (release n needs) (tail n needs) L s) n) L
unfolding width
width-window n needs L = windows-width n needs L (release n needs) (λ i. pos L -ℤ pos (tail n needs i)) (λ i h. refl) (λ i h. refl)

-- it is the width of the dates that satisfy formulas (1) and (2)
pub width_is : (n : ℕ) (needs : List Need) (L : ℕ) → NeedsIn n needs → ¬ (Circle needs)
    → (r : ℕ → ℕ) → ((i : ℕ) → i < n → Formula1 needs r i) → (d : ℕ → ℤ) → ((i : ℕ) → i < n → Formula2 needs L d i) → width_of n r d L ≡ width n needs L
width_is n needs L needs-in free r hr d hd =
    windows-width n needs L r d (release-only n needs needs-in free r hr) (deadline-only n needs needs-in free L d hd) ∙ sym (width-window n needs L)
