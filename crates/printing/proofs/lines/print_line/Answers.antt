-- `printing::lines::print_line` meets its contract. Assumes nothing.
use mathlib.Core.Path.{sym, ap}
use mathlib.Core.Bool.{not}
use borrow.Author.Tests.{eq-eqb, ne_eqb}
use Rattle.printing.proofs.lines.print_line.Goals as goal

pub returns-then-slots-eq0 : goal.returns-then-slots-eq0
returns-then-slots-eq0 c = sym (ap not (eq-eqb _ 0 c.if-slots-eq0.true))

pub returns : goal.returns
returns c = sym (ap not (ne_eqb _ 0 c.if-slots-eq0.false))
