-- The lookup over the rows that were read: the first row with a slot and a board. Assumes nothing.
use Rattle.std.specs.Prelude.{◌≡◌, Bool, true, false, cond, ◌&&◌, Some, List, [], ◌∷◌, map, eqb}
use Rattle.std.specs.List.{position, position_from, zip}
use Rattle.std.proofs.Math.Path.{refl}
use Rattle.std.proofs.Common.{ap, ◌∙◌, add-one}
use Rattle.std.proofs.lemmas.Iterator.Adapters.{position_from-zero}
use Prim.Native.Nat.{ℕ, suc, ◌+◌}
use Rattle.rules.specs.Basics.{choose}
use Rattle.rules.specs.Table.{Row}
use Rattle.rules.specs.Answers.{job_at}
use Rattle.table.specs.Entries.{job_in, row_number}

-- the first row with a slot and a board, by its position among the pairs of start and board
abbrev runs : ℕ → ℕ → ℕ × ℕ → Bool
runs s b p = eqb p.0 s && eqb p.1 b

from-position : (i : ℕ) (ts bs : List ℕ) (s b : ℕ) → row_number (position_from (runs s b) i (zip ts bs)) ≡ job_in (suc i) ts bs s b
unfolding job_in choose
from-position i [] bs s b = refl
from-position i (t ∷ ts) [] s b = refl
from-position i (t ∷ ts) (c ∷ bs) s b = go (eqb t s && eqb c b) (from-position (i + 1) ts bs s b ∙ ap (λ n. job_in (suc n) ts bs s b) (add-one i))
  where
    next : ℕ
    next = row_number (position_from (runs s b) (i + 1) (zip ts bs))

    go : (x : Bool) → next ≡ job_in (suc (suc i)) ts bs s b
        → row_number (cond x (Some i) (position_from (runs s b) (i + 1) (zip ts bs))) ≡ choose x (suc i) (job_in (suc (suc i)) ts bs s b)
    go true e = refl
    go false e = e

pub row-position : (ts bs : List ℕ) (s b : ℕ) → row_number (position (runs s b) (zip ts bs)) ≡ job_in 1 ts bs s b
row-position ts bs s b = ap row_number (position_from-zero (runs s b) (zip ts bs)) ∙ from-position 0 ts bs s b

-- over rows as over their starts and boards
pub job-at : (i : ℕ) (rows : List Row) (s b : ℕ) → job_at i rows s b ≡ job_in i (map (λ r. r.start) rows) (map (λ r. r.board) rows) s b
unfolding job_at job_in
job-at i [] s b = refl
job-at i (r ∷ rows) s b = ap (choose (eqb r.start s && eqb r.board b) i) (job-at (suc i) rows s b)
