-- The search over places on the windows of a file: what it asks of them holds of a file without circles that is not too wide. Assumes nothing.
use Rattle.std.specs.Prelude.{◌≡◌, ◌↔◌, List, ℕ, ◌+◌, ◌-◌, ◌*◌, ◌≤◌, ◌<◌}
use Rattle.std.proofs.Math.Path.{ap}
use native.Mathlib.Omega.{arith}
use Rattle.std.proofs.Math.ListN.{length}
use Rattle.rules.specs.Sizes.{max_width}
use Rattle.rules.specs.Basics.{at, range, count}
use Rattle.rules.specs.Needs.{Need, NeedsIn}
use Rattle.rules.specs.Program.{slots}
use Rattle.rules.specs.Boards.{Runs}
use Rattle.rules.specs.Windows.{release, tail, width}
use Rattle.laws.specs.Tests.{tests, bool-ext}
use Rattle.laws.specs.Lists.{filter_same}
use Rattle.laws.specs.Program.{slots-fits}
use Rattle.laws.specs.Caps.{capped-slots}
use Rattle.laws.specs.Counting.{most-ge, most-le}
use Rattle.laws.specs.Releases.{release-le}
use Rattle.laws.specs.Deadlines.{tail-le}
use Rattle.laws.specs.Width.{window, window-is, width-window}
use Rattle.dominance.specs.Count.{AtLeast}
use Rattle.places.specs.Windows.{holds_slot, held, Narrow, Room}
use Rattle.places.specs.OfFile.{file_windows}
use Rattle.places.specs.Assign.{Entering, Enough}
use Rattle.places.proofs.Assign.{assigned-seats, narrow-enough, seats-eight}
use Rattle.shortest.specs.Given.{Bounds}

module _ (n : ℕ) (needs : List Need) (limit : ℕ) (needs-in : NeedsIn n needs) where
  -- the windows bound the starts
  pub file-bounds : Bounds (file_windows n needs limit) limit
  unfolding file_windows
  file-bounds = record {
    early = λ u k i l. release-le needs (at u) k n n i;
    timely = λ u C h k f i l. let t = tail-le n needs needs-in C (at u) k f.below n i l in (omega arith, omega arith);
  }

  -- no list is below a length that is no more than any that leaves each job room and has slots enough for n jobs at `cap` a slot
  pub least-low : (cap least : ℕ) → ((C : ℕ) → ((i : ℕ) → i < n → release n needs i + tail n needs i < C) → n ≤ C * cap → least ≤ C)
      → AtLeast n (Runs n needs cap) least
  least-low cap least f u r e =
      let fits = slots-fits n (slots u) u e (omega arith) in
      f (slots u) (λ i l. omega (arith, release-le needs (at u) r.kept n n i, tail-le n needs needs-in (slots u) (at u) r.kept fits.below n i l))
      (capped-slots n cap u e r.capped)

  -- ---- the places are enough exactly where the file is not too wide (question 12)

  -- a slot holds as many jobs as the width counts there
  held-count : (s : ℕ) → length (held (file_windows n needs limit) s) ≡ count (window (release n needs) (tail n needs) limit s) n
  unfolding file_windows holds_slot count
  held-count s = ap length (filter_same _ _ (range n 0) (λ i m. let w = window-is (release n needs) (tail n needs) limit s i in bool-ext _ _
      (λ t. let v : (release n needs i ≤ s) × (s < limit - tail n needs i) = simp tests at t in w.1 (v.0, omega (arith, v.1)))
      (λ t. let v = w.0 t in simp tests (v.0, omega (arith, v.1)))))

  -- so no slot below the limit holds more than eight where the file is not too wide
  file-narrow : width n needs limit ≤ max_width → Narrow (file_windows n needs limit) limit
  file-narrow w = record {
    eight = λ s h. omega (arith, held-count s, most-ge (λ s. count (window (release n needs) (tail n needs) limit s) n) limit s h, width-window n needs limit);
  }

  -- and places given in an order by release are enough exactly then
  pub wide-iff : (order : List ℕ) → Entering (file_windows n needs limit) order → Enough (file_windows n needs limit) order ↔ (width n needs limit ≤ max_width)
  unfolding file_windows
  wide-iff order en = (
    λ f. rw (width-window n needs limit) (most-le (λ s. count (window (release n needs) (tail n needs) limit s) n) limit max_width (λ s h.
        omega (arith, held-count s, seats-eight (file_windows n needs limit) (assigned-seats (file_windows n needs limit) order en f) s))),
    λ w. narrow-enough (file_windows n needs limit) order en (λ i l o. (file-narrow w).eight (release n needs i) (omega arith)),
  )

  -- ---- room

  -- a length beyond each job's release and tail leaves each job room
  pub file-room : (C : ℕ) → C ≤ limit → ((i : ℕ) → i < n → release n needs i + tail n needs i < C) → Room (file_windows n needs limit) C
  unfolding file_windows
  file-room C h f = record { holds = λ i l. omega (arith, f i l); behind = λ i l. omega (arith, f i l) }
