-- Two numbers of the tables: the slots of the plan that is searched, and the most jobs of a slot. Assumes nothing.
use Rattle.std.specs.Prelude.{List, ℕ}
use Rattle.rules.specs.Basics.{at}
use Rattle.layout.specs.Layout.{slots_at, cap_at}

-- the slots of the plan
abbrev pub slots_in : List ℕ → ℕ
slots_in words = at words slots_at

-- the most jobs of a slot
abbrev pub cap_in : List ℕ → ℕ
cap_in words = at words cap_at
