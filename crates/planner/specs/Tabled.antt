-- From the plan that was found to the table of the best start list. Assumes nothing.
use Rattle.std.specs.Prelude.{◌≡◌, refl, ℕ, ◌≤◌, ◌<◌, take, replicate, Ok, Err}
use Rattle.std.proofs.Math.Path.{sym, ap}
use Rattle.std.proofs.Common.{ap₂, ◌∙◌, arith, length-take, ext_get_or, get_or-take}
use mathlib.Core.List.{List, ◌++◌}
use Rattle.std.proofs.Math.Option.{Option, some}
use Rattle.std.proofs.Math.ListN.{length, drop, length-drop}
use Rattle.rules.specs.Sizes.{max_width, max_limit, max_jobs}
use Rattle.rules.specs.Basics.{at, tabulate, largest}
use Rattle.rules.specs.Numbers.{centimetres}
use Rattle.rules.specs.Fields.{Answer, refused, got, after, value}
use Rattle.rules.specs.Needs.{Gives, NeedsIn, Circle}
use Rattle.rules.specs.JobFile.{JobFile, nth_job, name_ok, most_boards, job_of, read_file}
use Rattle.rules.specs.Program.{slots, Kept, Fits}
use Rattle.rules.specs.Windows.{width}
use Rattle.rules.specs.Preference.{best}
use Rattle.rules.specs.Boards.{boards, runsb}
use Rattle.rules.specs.Table.{Table, encode}
use Rattle.rules.specs.Answers.{table_of, tabled, plan_table, written}
use Rattle.laws.specs.Tests.{tests}
use Rattle.laws.specs.Lists.{nth-mem, tabulate-at, tabulate-same}
use Rattle.laws.specs.Program.{program-is}
use Rattle.laws.specs.Circles.{circle-free}
use Rattle.laws.specs.Best.{Shortest, best-found}
use Rattle.laws.specs.Planned.{asked-13}
use Rattle.laws.proofs.Planned.{few-boards}
use Rattle.jobset.specs.Sets.{set_at}
use Rattle.places.specs.OfFile.{file_windows}
use Rattle.layout.specs.Layout.{tables_in}
use Rattle.shortest.specs.Starts as plans
use Rattle.seats.specs.Order.{seats_by}
use Rattle.lengths.specs.Searching.{PlacesIn, list_found}
use Rattle.slotboards.specs.Placing.{Placeable, Boarded}
use Rattle.writer.specs.Written.{row_with, table_with, JobFields}
use Rattle.refusals.specs.declared.Refusal.{Refusal}
use Rattle.refusals.specs.Refusals.{number}
use Rattle.planner.specs.Planner.{Answers, JobsRead, PlanRead}
use Rattle.planner.specs.Seated.{placeable}

-- ---- answers

pub answers-refused : (bs : List ℕ) (q : Refusal) (table : List ℕ) → after (read_file bs) plan_table ≡ refused (number q) → Answers bs (Err q) table table
unfolding Answers written
answers-refused bs q table e = λ work. rw e refl

pub answers-table : (bs : List ℕ) (t : Table) (n : ℕ) (table table' : List ℕ) → after (read_file bs) plan_table ≡ got t → n ≡ length (encode t)
    → table' ≡ encode t ++ drop n table → Answers bs (Ok n) table table'
unfolding Answers written
answers-table bs t n table table' e k h = λ work. rw (e, h, k) refl

module _ {bs : List ℕ} {n L : ℕ} {o rows : List ℕ} (j : JobsRead bs n L o rows) where
  -- the rules' best list, by the counts that were read
  pub best-same : best n (runsb n j.file.needs (most_boards j.file)) L
      ≡ best (length j.file.jobs) (runsb (length j.file.jobs) j.file.needs (most_boards j.file)) j.file.limit
  best-same = ap₂ (λ (k l : ℕ). best k (runsb k j.file.needs (most_boards j.file)) l) j.held.jobs-is j.held.limit_is

  -- without a circle, and not too wide, it decides the answer
  pub tabled-is : ¬ (Circle j.file.needs) → width n j.file.needs L ≤ max_width → (x : Option (List ℕ))
      → best n (runsb n j.file.needs (most_boards j.file)) L ≡ x
      → after (read_file bs) plan_table ≡ tabled j.file x
  unfolding after
  tabled-is free narrow x e =
      ap (λ (r : Answer JobFile). after r plan_table) j.read
      ∙ asked-13 j.file j.keeps free (rw (j.held.jobs-is, j.held.limit_is) at narrow) ∙ ap (tabled j.file) (sym best-same ∙ e)

  -- ---- the fields of the jobs

  -- the value of job i has its level and its name
  value-size : (i : ℕ) → i < n → (3 ≤ length (value bs (at o i))) × (length (value bs (at o i)) ≤ 14)
  unfolding job_of name_ok
  value-size i h =
      let e = j.held.offsets_are i h in
      let w = simp tests at (j.keeps.names_in (nth_job j.file.jobs i) (nth-mem j.file.jobs i _ (omega (arith, j.held.jobs-is)))) in
      omega (arith, w.0, w.1.0, ap (λ x. length x.name) e, length-drop 2 (value bs (at o i)))

  pub job-fields : JobFields bs o n
  job-fields = record { are-whole = λ i h. j.held.offsets-whole i h; long = λ i h. (value-size i h).0; short = λ i h. (value-size i h).1 }

-- ---- the plan that was found

module _ {bs : List ℕ} {n : ℕ} {o words path : List ℕ} {count : ℕ} (p : PlanRead bs n o words path count) where
  -- the file, and the start list of the plan
  abbrev f : JobFile
  f = p.jobs.file

  abbrev pub list_of : List ℕ
  list_of = list_found (file_windows n p.jobs.file.needs p.limit) (most_boards p.jobs.file) p.limit count words

  needs-in : NeedsIn n f.needs
  needs-in = p.jobs.held.needs-in

  no-circle : ¬ (Circle f.needs)
  no-circle = (circle-free n f.needs needs-in).0 p.free

  -- it is the rules' best list
  is-best : best n (runsb n f.needs (most_boards f)) p.limit ≡ some list_of
  unfolding file_windows
  is-best = p.found.is-best

  short : Shortest (length f.jobs) f.needs (most_boards f) f.limit list_of
  short =
      best-found (length f.jobs) f.needs (most_boards f) f.limit p.jobs.keeps.distinct (λ g k m. rw (← p.jobs.held.jobs-is) (needs-in g k m))
      p.jobs.keeps.limit-in.0 list_of (sym (best-same p.jobs) ∙ is-best)

  kept : Kept (Gives f.needs) (at list_of) × Fits n count list_of
  kept =
      let w = (program-is (length f.jobs) f.needs (slots list_of) list_of p.jobs.keeps.distinct
      (λ g k m. rw (← p.jobs.held.jobs-is) (needs-in g k m))).0 short.satisfies in (
        w.0,
        record {
          len = w.1.len ∙ sym p.jobs.held.jobs-is;
          below = λ i h. omega (arith, w.1.below i (omega (arith, p.jobs.held.jobs-is)), p.found.slots-are);
        },
      )

  -- at most 64 slots
  pub slots-few : count ≤ max_limit
  slots-few = omega (arith, p.found.in-limit, p.jobs.held.limit_is, p.jobs.keeps.limit-in)

  -- the placing on boards can take it
  pub able : Placeable n p.jobs.file.needs (list_of) words path count
  unfolding file_windows
  able = placeable (file_windows n f.needs p.limit) (seats_by (file_windows n f.needs p.limit) p.found.has-places) count (most_boards f) p.limit
      words path p.found.ready.shows p.found.full (λ s l. ap (λ (x : ℕ). record { bits = x }) (p.found.same s l))
      p.jobs.held.few slots-few p.found.in-limit needs-in p.found.slots-are kept.0 kept.1

  -- and so can the starts
  pub places-in : (s : ℕ) → s < count → PlacesIn words s (set_at path s)
  places-in s l q m = let w = able.at_place s q l m in (w.0, omega (arith, w.1, p.jobs.held.few))

  -- the sets of the path are those of the plan
  path-sets : take count path ≡ (plans.plan_of (tables_in words) (most_boards f) count).sets
  path-sets = ext_get_or 0 (take count path) sets (omega (arith, length-take count path, p.found.path-len, p.found.full, slots-few))
      (λ s l. let h : s < count = omega (arith, length-take count path) in get_or-take count path s 0 h ∙ p.found.same s h)
    where
      sets : List ℕ
      sets = (plans.plan_of (tables_in words) (most_boards f) count).sets

  module _ (starts : List ℕ) (starts-are : starts ≡ plans.written (tables_in words) 0 (take count path) (replicate max_jobs 0)) where
    start-at : (i : ℕ) → i < n → at starts i ≡ at list_of i
    start-at i h =
        let few = p.jobs.held.few in
        ap (λ (t : List ℕ). at t i) (starts-are ∙ ap (λ (s : List ℕ). plans.written (tables_in words) 0 s (replicate max_jobs 0)) path-sets
        ∙ p.found.starts-are)
        ∙ tabulate-at (at list_of) max_jobs 0 i 0 (omega arith) ∙ ap (at list_of) (omega arith)

    module _ (most : ℕ) (out : List ℕ) (boarded : Boarded n words path count most out) where
      -- the boards of the rules
      abbrev b : List ℕ
      b = boards (length f.jobs) f.needs list_of

      boards-same : boards n f.needs list_of ≡ b
      boards-same = ap (λ (k : ℕ). boards k f.needs list_of) p.jobs.held.jobs-is

      pub count-few : most ≤ max_width
      count-few = omega (
        arith,
        boarded.count-is f.needs list_of able ∙ ap largest boards-same,
        few-boards f p.jobs.keeps no-circle (rw (p.jobs.held.jobs-is, p.jobs.held.limit_is) at p.narrow) list_of short,
        p.jobs.keeps.boards-in.1,
      )

      -- the table that is written is that of the rules
      table_is : table_with bs o starts out n count most ≡ table_of f list_of
      unfolding table_of table_with row_with
      table_is = λ i. record {
        slots = sym p.found.slots-are i;
        boards = (boarded.count-is f.needs list_of able
            ∙ ap largest boards-same) i;
        rows = rows_are i;
      }
        where
          row_is : (i : ℕ) → i < n → row_with (at starts i) (at out i) (value bs (at o i))
              ≡ record { start = at list_of i; board = at b i; level = centimetres (nth_job f.jobs i).level; name = (nth_job f.jobs i).name }
          row_is i h =
              let e = p.jobs.held.offsets_are i h in
              let a = boarded.board-is f.needs list_of able i ∙ ap (λ (l : List ℕ). at l i) boards-same in
              λ k. record { start = start-at i h k; board = a k; level = centimetres (e k).level; name = (e k).name }

          rows_are : tabulate (λ i. row_with (at starts i) (at out i) (value bs (at o i))) n 0
              ≡ tabulate (λ i. record { start = at list_of i; board = at b i; level = centimetres (nth_job f.jobs i).level; name = (nth_job f.jobs i).name })
              (length f.jobs) 0
          rows_are =
              tabulate-same _ _ n 0 (λ i _ h. row_is i (omega arith))
              ∙ ap (λ (k : ℕ). tabulate (λ i. record
              { start = at list_of i; board = at b i; level = centimetres (nth_job f.jobs i).level; name = (nth_job f.jobs i).name }) k 0)
              p.jobs.held.jobs-is

      -- the answer with the table that is written
      pub table-written : (k : ℕ) (table table' : List ℕ) → k ≡ length (encode (table_with bs o starts out n count most))
          → table' ≡ encode (table_with bs o starts out n count most) ++ drop k table → Answers bs (Ok k) table table'
      unfolding tabled
      table-written k table table' size_is bytes-are =
          answers-table bs (table_of f list_of) k table table' (tabled-is p.jobs no-circle p.narrow (some list_of) is-best)
          (size_is ∙ ap (λ (x : Table). length (encode x)) table_is) (bytes-are ∙ ap (λ (x : Table). encode x ++ drop k table) table_is)
