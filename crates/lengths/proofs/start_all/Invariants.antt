-- The places left are some of the slot's, and what is left to do gives the same as all. Assumes nothing.
use Rattle.std.proofs.Common.{◌≡◌, ◌<◌, ℕ}
use mathlib.Core.List.{Memᴰ}
use Rattle.rules.specs.Sizes.{max_width, max_jobs}
use Rattle.jobset.specs.Sets.{members}
use Rattle.layout.specs.Layout.{tables_in}
use Rattle.dominance.specs.Placing.{place}
use Rattle.shortest.specs.Starts.{jobs_up}
use Rattle.lengths.proofs.start_all.Given as goal

abbrev pub invariant-loop-p : goal.invariant-loop-p
invariant-loop-p l = record {
  inside : (p : ℕ) → Memᴰ p (members l.p-iterator.rest) → (p < max_width) × ((tables_in l.tables).who l.slot p < max_jobs);
  same : place l.slot (jobs_up ((tables_in l.tables).who l.slot) l.p-iterator.rest) l.starts
      ≡ place l.slot (jobs_up ((tables_in l.tables).who l.slot) l.fn.places) l.fn.starts;
}
