-- Trying every start list: what its functions give. A need stands at place giver * n + taker. Assumes nothing.
use Rattle.std.specs.Prelude.{Bool, not, ◌&&◌, ◌||◌, List, [], ◌∷◌, ℕ, zero, suc, ◌+◌, ◌*◌, ◌/◌, ◌%◌, min, ltb, eqb, Option, Some, None}
use Rattle.std.proofs.Math.Option.{Option as Maybe, none, some}
use Rattle.rules.specs.Basics.{choose, at, imp, all, range}
use Rattle.rules.specs.Program.{slots}
use Rattle.rules.specs.SmallGates.{bit}

-- the w lowest digits of c in base b, the lowest first
unfoldable pub digits : ℕ → ℕ → ℕ → List ℕ
digits b zero c = []
digits b (suc w) c = c % b ∷ digits b w (c / b)

-- job k starts in the slot right after job g
unfoldable pub starts_next : List ℕ → ℕ → ℕ → Bool
starts_next t g k = eqb (at t g + 1) (at t k)

-- a conflict with the need at j: e is another one, of the same giver or the same taker, and its taker starts right after its giver
unfoldable pub conflicts : ℕ → ℕ → List ℕ → ℕ → ℕ → Bool
conflicts n m t j e = not (eqb e j) && (bit m e && (starts_next t (e / n) (e % n) && (eqb (e / n) (j / n) || eqb (e % n) (j % n))))

-- no place is in conflict with j
unfoldable pub conflict_free : ℕ → ℕ → List ℕ → ℕ → Bool
conflict_free n m t j = all (λ e. not (conflicts n m t j e)) (range (n * n) 0)

-- if there is a need at j, it is kept: its taker starts later, and where it starts right after its giver there is no conflict
unfoldable pub keeps : ℕ → ℕ → List ℕ → ℕ → Bool
keeps n m t j = imp (bit m j) (ltb (at t (j / n)) (at t (j % n)) && imp (starts_next t (j / n) (j % n)) (conflict_free n m t j))

-- all needs of m are kept
unfoldable pub keeping : ℕ → ℕ → List ℕ → Bool
keeping n m t = all (keeps n m t) (range (n * n) 0)

-- a number that may be there, as the program's Option
unfoldable pub as_option : Maybe ℕ → Option ℕ
as_option none = None
as_option (some x) = Some x

-- the smaller of x and a number that may be there
unfoldable pub or_less : ℕ → Option ℕ → ℕ
or_less x None = x
or_less x (Some l) = min x l

-- the fewest slots, with those of the list t if it keeps the needs
unfoldable pub least_with : ℕ → ℕ → List ℕ → Option ℕ → Option ℕ
least_with n m t l = choose (keeping n m t) (Some (or_less (slots t) l)) l

-- the fewest slots of the lists with an index below c, each of four entries
unfoldable pub fewest_by : ℕ → ℕ → ℕ → Option ℕ
fewest_by n m zero = None
fewest_by n m (suc c) = least_with n m (digits n 4 c) (fewest_by n m c)
