-- `backtrack::key_of` meets its contract. Assumes nothing.
use mathlib.Core.Path.{◌≡◌, ap₂, ◌∙◌}
use Prim.Native.Nat.{ℕ, ◌+◌, ◌<◌}
use native.Mathlib.Omega.{arith}
use Rattle.threes.specs.Threes.{number_of}
use Rattle.places.specs.Model.{key}
use Rattle.places.specs.Rows.{number-low}
use Rattle.layout.specs.Layout.{marks_in}
use Rattle.backtrack.proofs.key_of.Goals as goal
use Rattle.backtrack.proofs.key_of.Goals.{After-from-of_ran, Start, at-After-from-of_ran}

-- both sets are bytes
done-low : (c : Start) → c.args.done.bits < 256
done-low c = number-low c.args.done 8 c.requires.1

ran-low : (c : Start) → c.args.ran.bits < 256
ran-low c = number-low c.args.ran 8 c.requires.2

-- the start of the function
abbrev start : After-from-of_ran → Start
start c = (at-After-from-of_ran c).Start

-- the number of the state
number_is : (c : After-from-of_ran) → c.from-of_done.result + c.from-of_ran.result ≡ number_of (start c).args.done (start c).args.ran
unfolding number_of
number_is c =
    let s = start c in
    ap₂ (λ (x y : ℕ). x + y) (c.from-of_done.ensures ∙ s.requires.3 s.args.done.bits (done-low s))
    (c.from-of_ran.ensures ∙ s.requires.3 s.args.ran.bits (ran-low s))

pub overflow_add-done : goal.overflow_add-done
overflow_add-done c = let l = done-low (goal.at.overflow_add-done c).Start in omega arith

pub offset_bounds-tables-done : goal.offset_bounds-tables-done
offset_bounds-tables-done c = let l = done-low (goal.at.offset_bounds-tables-done c).Start in omega arith

pub bounds-tables-done : goal.bounds-tables-done
bounds-tables-done c = let l = done-low (goal.at.bounds-tables-done c).Start in omega arith

pub overflow_add-ran : goal.overflow_add-ran
overflow_add-ran c = let l = ran-low (goal.at.overflow_add-ran c).Start in omega arith

pub offset_bounds-tables-ran : goal.offset_bounds-tables-ran
offset_bounds-tables-ran c = let l = ran-low (goal.at.offset_bounds-tables-ran c).Start in omega arith

pub bounds-tables-ran : goal.bounds-tables-ran
bounds-tables-ran c = let l = ran-low (goal.at.bounds-tables-ran c).Start in omega arith

pub returns : goal.returns
unfolding key marks_in
returns c = ap₂ (λ (x y : ℕ). x + y) c.first_mark-row.ensures.0 (number_is (goal.at.returns c).After-from-of_ran)
