-- What the planner writes: demands 2 and 3 of document 01, over the rules. Assumes nothing.
use Rattle.std.proofs.Math.Path.{◌≡◌, refl, sym, ap}
use Rattle.std.proofs.Common.{◌∙◌, arith}
use Rattle.std.specs.Prelude.{◌↔◌, length, leb}
use mathlib.Core.List.{List}
use Rattle.std.proofs.Math.Option.{Option, none, some}
use Prim.Native.Nat.{ℕ, ◌≤◌, ◌<◌}
use Rattle.std.proofs.Math.Dec.{T}
use Rattle.rules.specs.Sizes.{max_width}
use Rattle.rules.specs.Basics.{at}
use Rattle.rules.specs.Fields.{Answer, refused, got, number_of, ask}
use Rattle.rules.specs.Needs.{Gives, Circle, circle_free}
use Rattle.rules.specs.JobFile.{JobFile, most_boards}
use Rattle.rules.specs.Program.{slots, Fits, Kept, keptb}
use Rattle.rules.specs.Windows.{width}
use Rattle.rules.specs.Preference.{best}
use Rattle.rules.specs.Boards.{Capped, runsb}
use Rattle.rules.specs.Table.{Row, Table, starts}
use Rattle.rules.specs.Answers.{table_of, tabled, plan_table}
use Rattle.laws.specs.Tests.{T-leb}
use Rattle.laws.specs.Lists.{length-tabulate, map-tabulate-list}
use Rattle.laws.specs.Fields.{ask-yes, ask-no}
use Rattle.laws.specs.JobFile.{Readable, needs-in}
use Rattle.laws.specs.Program.{program-is}
use Rattle.laws.specs.Circles.{circle-free}
use Rattle.laws.specs.Refusals.{refusal-ask, asked-number, circle-number, tabled-number}
use Rattle.laws.specs.Caps.{capped-more}
use Rattle.laws.specs.Best.{Satisfies, Shortest, best-uncapped, best-found, best_none, best-some}
use Rattle.laws.specs.BoardLaws.{width-capped}

-- ---- a readable file; then one without a circle, no wider than eight

module _ (f : JobFile) (ok : Readable f) where
  -- a list within the limit has no more jobs in a slot than the file is wide
  pub wide-capped : (c : ℕ) → width (length f.jobs) f.needs f.limit ≤ c
      → (u : List ℕ) → Kept (Gives f.needs) (at u) → Fits (length f.jobs) f.limit u → Capped (length f.jobs) c u
  wide-capped c h u k l =
      capped-more (length f.jobs) (width (length f.jobs) f.needs f.limit) c u h
      (width-capped (length f.jobs) f.needs (needs-in f ok) u l.len k f.limit l)

  -- so as many boards as that ask nothing
  pub wide_enough : (c : ℕ) → width (length f.jobs) f.needs f.limit ≤ c
      → best (length f.jobs) (runsb (length f.jobs) f.needs c) f.limit ≡ best (length f.jobs) (keptb f.needs) f.limit
  wide_enough c h = best-uncapped (length f.jobs) f.needs c f.limit (wide-capped c h)

  -- 11 exactly where there is a circle
  pub numbered-11 : (number_of (plan_table f) ≡ 11) ↔ Circle f.needs
  unfolding plan_table
  numbered-11 =
      circle-number (length f.jobs) f.needs (needs-in f ok) _
      (refusal-ask (λ p. p ≡ 11 → ⊥) _ 12 _ (λ e. omega (arith, e)) (tabled-number (λ p. p ≡ 11 → ⊥) (λ e. omega (arith, e)) f _))

  -- question 12, where there is none
  asked-12 : ¬ (Circle f.needs) → let n = length f.jobs in
      plan_table f ≡ ask (leb (width n f.needs f.limit) max_width) 12 (tabled f (best n (runsb n f.needs (most_boards f)) f.limit))
  unfolding plan_table
  asked-12 free = ask-yes (circle_free (length f.jobs) f.needs) 11 _ ((circle-free (length f.jobs) f.needs (needs-in f ok)).1 free)

  -- without a circle and wider than eight it gets 12
  pub too_wide : ¬ (Circle f.needs) → max_width < width (length f.jobs) f.needs f.limit → plan_table f ≡ refused 12
  too_wide free wide =
      let w = width (length f.jobs) f.needs f.limit in
      asked-12 free ∙ ask-no (leb w max_width) 12 _ (λ h. omega (arith, wide, (T-leb w max_width).0 h))

  -- and only then
  pub numbered-12 : (number_of (plan_table f) ≡ 12) ↔ ((¬ (Circle f.needs)) × (max_width < width (length f.jobs) f.needs f.limit))
  unfolding number_of
  numbered-12 = (
    λ e.
        let free : ¬ (Circle f.needs) = λ c. omega (arith, e, numbered-11.1 c) in
        (free, omega (arith, above (asked.0 (sym (ap number_of (asked-12 free)) ∙ e)))),
    λ h. ap number_of (too_wide h.0 h.1),
  )
    where
      w : ℕ
      w = width (length f.jobs) f.needs f.limit

      rest : Answer Table
      rest = tabled f (best (length f.jobs) (runsb (length f.jobs) f.needs (most_boards f)) f.limit)

      asked : (number_of (ask (leb w max_width) 12 rest) ≡ 12) ↔ (¬ T (leb w max_width))
      asked = asked-number (leb w max_width) 12 rest (λ z. omega (arith, z)) (tabled-number (λ p. p ≡ 12 → ⊥) (λ e. omega (arith, e)) f _)

      above : ¬ T (leb w max_width) → w ≤ max_width → ⊥
      above k h = k ((T-leb w max_width).1 h)

  module _ (free : ¬ (Circle f.needs)) (narrow : width (length f.jobs) f.needs f.limit ≤ max_width) where
    -- the questions before 13 are yes
    pub asked-13 : plan_table f ≡ tabled f (best (length f.jobs) (runsb (length f.jobs) f.needs (most_boards f)) f.limit)
    asked-13 =
        let w = width (length f.jobs) f.needs f.limit in
        asked-12 free ∙ ask-yes (leb w max_width) 12 _ ((T-leb w max_width).1 narrow)

    found : (o : Option (List ℕ)) (x : Answer Table) → tabled f o ≡ x
        → best (length f.jobs) (runsb (length f.jobs) f.needs (most_boards f)) f.limit ≡ o → plan_table f ≡ x
    found o x e q = asked-13 ∙ ap (tabled f) q ∙ e

    -- the list found is the shortest, and of those the preferred
    found-shortest : (t : List ℕ) → best (length f.jobs) (runsb (length f.jobs) f.needs (most_boards f)) f.limit ≡ some t
        → Shortest (length f.jobs) f.needs (most_boards f) f.limit t
    found-shortest = best-found (length f.jobs) f.needs (most_boards f) f.limit ok.distinct (needs-in f ok) ok.limit-in.0

    -- demand 3: 13 exactly where no start list that satisfies P, with no more jobs in any slot than the file has boards, fits the limit
    pub refused-13 : (plan_table f ≡ refused 13) ↔ ((t : List ℕ) → Satisfies (length f.jobs) f.needs (most_boards f) f.limit t → ⊥)
    unfolding tabled
    refused-13 = (
      λ e. none_is.0 (is_none (best (length f.jobs) (runsb (length f.jobs) f.needs (most_boards f)) f.limit) (sym asked-13 ∙ e)),
      λ h. found none (refused 13) refl (none_is.1 h),
    )
      where
        none_is : (best (length f.jobs) (runsb (length f.jobs) f.needs (most_boards f)) f.limit ≡ none)
            ↔ ((t : List ℕ) → Satisfies (length f.jobs) f.needs (most_boards f) f.limit t → ⊥)
        none_is = best_none (length f.jobs) f.needs (most_boards f) f.limit ok.distinct (needs-in f ok) ok.limit-in.0

        is_none : (o : Option (List ℕ)) → tabled f o ≡ refused 13 → o ≡ none
        is_none none e = refl
        is_none (some t) e = absurd (let z : ◌≡◌ {A = ℕ} 0 1 = cc in omega arith)

    -- a table exactly where one does
    pub written-where : (u : List ℕ) → Satisfies (length f.jobs) f.needs (most_boards f) f.limit u → (t : List ℕ)
        × Shortest (length f.jobs) f.needs (most_boards f) f.limit t × (plan_table f ≡ got (table_of f t))
    unfolding tabled
    written-where u s =
        let w = best-some (length f.jobs) f.needs (most_boards f) f.limit ok.distinct (needs-in f ok) ok.limit-in.0 u s in
        (w.0, found-shortest w.0 w.1, found (some w.0) (got (table_of f w.0)) refl w.1)

    -- and that table is of the shortest, preferred start list, with the boards that it gets
    pub written_is : (T : Table) → plan_table f ≡ got T → (t : List ℕ) × Shortest (length f.jobs) f.needs (most_boards f) f.limit t × (T ≡ table_of f t)
    unfolding tabled
    written_is T e = go (best (length f.jobs) (runsb (length f.jobs) f.needs (most_boards f)) f.limit) refl (sym asked-13 ∙ e)
      where
        go : (o : Option (List ℕ)) → best (length f.jobs) (runsb (length f.jobs) f.needs (most_boards f)) f.limit ≡ o → tabled f o ≡ got T
            → (t : List ℕ) × Shortest (length f.jobs) f.needs (most_boards f) f.limit t × (T ≡ table_of f t)
        go none q h = absurd (let z : ◌≡◌ {A = ℕ} 0 1 = cc in omega arith)
        go (some t) q h = (t, found-shortest t q, let z : table_of f t ≡ T = cc in sym z)

    -- ---- the boards of such a table

    module _ (t : List ℕ) (short : Shortest (length f.jobs) f.needs (most_boards f) f.limit t) where
      kept : Kept (Gives f.needs) (at t) × Fits (length f.jobs) (slots t) t
      kept = (program-is (length f.jobs) f.needs (slots t) t ok.distinct (needs-in f ok)).0 short.satisfies

      -- ---- the table reads back, and passes the check

      pub starts-are : starts (table_of f t) ≡ t
      unfolding table_of
      starts-are = map-tabulate-list (λ (r : Row). r.start) _ t (length f.jobs) 0 kept.1.len (λ i. ap (at t) (omega arith))

      pub rows-count : length (table_of f t).rows ≡ length f.jobs
      unfolding table_of
      rows-count = length-tabulate _ (length f.jobs) 0
