-- `table::places::cells` meets its contract. Assumes nothing.
use Rattle.std.proofs.Common.{◌≡◌, ◌∙◌, refl, sym}
use Rattle.std.specs.Option.{unwrap_or}
use Rattle.rules.specs.Sizes.{max_boards}
use Rattle.rules.specs.Basics.{choose}
use Rattle.questions.specs.Questions.{sized_in}
use Rattle.table.specs.Entries.{cell_number}
use Rattle.table.specs.Cells.{in_cells}
use Rattle.table.proofs.places.cells.Goals as goal
use Rattle.table.proofs.places.cells.Goals.{After-sized}

-- question 16, with the boards of the file
sized-is : (c : After-sized)
    → let a = c.args in
    sized_in a.limit (unwrap_or a.sockets max_boards) a.t.slots a.t.boards a.start.now a.board.now ≡ c.sized.result
sized-is c = rw (← c.most_boards.ensures, ← c.from-most.ensures) (sym c.sized.ensures)

pub returns-then-not-sized : goal.returns-then-not-sized
unfolding cell_number
returns-then-not-sized c = rw (sized-is (goal.at.returns-then-not-sized c).After-sized ∙ c.if-not-sized.true) (unfold choose in refl)

pub apart-requires : goal.apart-requires
apart-requires c =
    let p = c.requires in
    (p.0, in_cells _ _ _ _ _ _ p.1 p.2 p.0 (sized-is (goal.at.apart-requires c).After-sized ∙ c.if-not-sized.false))

pub returns-then-not-apart : goal.returns-then-not-apart
unfolding cell_number
returns-then-not-apart c =
    rw (sized-is (goal.at.returns-then-not-apart c).After-sized ∙ c.if-not-sized.false, sym c.apart.ensures ∙ c.if-not-apart.true)
    (unfold choose in refl)

pub returns : goal.returns
unfolding cell_number
returns c =
    rw (sized-is (goal.at.returns c).After-sized ∙ c.if-not-sized.false, sym c.apart.ensures ∙ c.if-not-apart.false)
    (unfold choose in refl)
