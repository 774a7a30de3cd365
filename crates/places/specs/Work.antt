-- The work of one search over places: no state is opened twice, whatever the bitmap held, so no more states than marks are opened. A
-- state that led to no plan is marked and not opened again, the states after a slot have keys of later slots, and after a plan is
-- found nothing more is opened. Assumes nothing.
-- More of what holds: proofs/Work.antt.
use Rattle.std.specs.Prelude.{◌≡◌, true, false, length}
use mathlib.Core.List.Memᴰ
use mathlib.Core.List.{List, Memᴰ}
use Prim.Native.Nat.{ℕ, ◌<◌, ◌≤◌}
use Rattle.rules.specs.Basics.{Distinct}
use Rattle.bitmap.specs.Marks.{is_marked}
use Rattle.places.specs.Memo.{Explored}

-- what a search before slot `from`, in up to `slots` slots, opens: keys of these slots, each once and none that was marked;
-- all marks stay, and where no plan is found all that was opened is marked
pub record Once (base : ℕ → ℕ) (from slots : ℕ) (dead : List ℕ) (e : Explored) : Type 0 where
  pub distinct : Distinct e.opened
  pub in-slots : (k : ℕ) → Memᴰ k e.opened → (base from ≤ k) × (k < base slots)
  pub unmarked : (k : ℕ) → Memᴰ k e.opened → is_marked dead k ≡ false
  pub keeps : (k : ℕ) → is_marked dead k ≡ true → is_marked e.dead k ≡ true
  pub marks : e.plan.ok ≡ false → (k : ℕ) → Memᴰ k e.opened → is_marked e.dead k ≡ true
  pub size : length e.dead ≡ length dead
