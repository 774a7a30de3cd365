-- `state_cases::print_numbers` is safe and ends. Assumes nothing.
use mathlib.Core.Path.{sym}
use lib.Seq.{length-take-le}
use Rattle.state_cases.proofs.print_numbers.Goals as goal

pub slice_bounds-state_numbers-end-2 : goal.slice_bounds-state_numbers-end-2
slice_bounds-state_numbers-end-2 c = sym (length-take-le c.args.room c.args.states.now c.requires)
