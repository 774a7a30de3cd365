-- `table::places::row_at` meets its contract. Assumes nothing.
use Rattle.std.proofs.Common.{◌∙◌, ap, ◌&&◌, eqb, ℕ, rules}
use Rattle.std.proofs.lemmas.Iterator.{YieldsList-from_slice, YieldsList-from_zip}
use Rattle.std.proofs.lemmas.Iterator.Search.{position_from_yields_List}
use borrow.Author.Tests.{tests}
use Rattle.table.specs.Entries.{row_number}
use Rattle.table.specs.Lookup.{row-position}
use Rattle.table.proofs.places.row_at.Goals as goal

pub returns : goal.returns
returns c =
    let a = c.args in
    ap row_number (position_from_yields_List (λ (p : ℕ × ℕ). eqb p.0 a.s && eqb p.1 a.b) c.position.new.self _ _ c.position.ensures.ran
    (YieldsList-from_zip (YieldsList-from_slice a.start.now (search rules)) (YieldsList-from_slice a.board.now (search rules)))
    (λ x b q k. search (rules, tests)))
    ∙ row-position a.start.now a.board.now a.s a.b
