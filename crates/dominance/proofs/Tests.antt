-- The tests of the search over a list of needs, and what each of them says. Assumes nothing.
-- Its definitions: specs/Tests.antt.
use Rattle.std.specs.Prelude.{ℕ}
use mathlib.Core.List.{List}
use Rattle.rules.specs.Needs.{Need}
use Rattle.laws.specs.Tests.{by-test}
use Rattle.dominance.specs.Tests.{GiverBefore, giver_beforeb, giver-before-is}

pub giver-before-dec : (needs : List Need) (s : ℕ) (t : List ℕ) (x : ℕ) → Dec (GiverBefore needs s t x)
giver-before-dec needs s t x = by-test (giver_beforeb needs s t x) (giver-before-is needs s t x)
